use Rattle.std.proofs.Common.{◌∙◌, refl, sym, ap}
use Rattle.mg_cursor.specs.Polling.{broke, gave}
use Rattle.mg_cursor.specs.View.{client_of, doing_of, told_by}
use Rattle.mg_cursor.specs.declared.polls.NextPoll.TheVariants as next
use Rattle.mg_cursor.proofs.Hearing.{rested}
use Rattle.mg_cursor.proofs.batches.Batches.read.Goals as goal

pub returns-in-Ok : goal.returns-in-Ok
returns-in-Ok c =
    let batch = c.in-Ok.ensures.ok.batch in
    gave (told_by c.in-Ok.gave batch) c.in-Ok.ensures.ok.says (c.keep.ensures.kept batch) (ap next.Batch (c.keep.ensures.batch ∙ c.in-Ok.ensures.ok.whole))

pub returns-in-Err : goal.returns-in-Err
returns-in-Err c = broke c.in-Err.error c.in-Err.ensures.err (sym (rested (client_of c.args.self.now) (ap doing_of c.requires))) refl
