use mir.Val.{SFits}
use Rattle.std.proofs.Common.{◌≡◌, ap, rules, to_z, of_z, w64}
use Rattle.std.proofs.lemmas.Int.{to_z-of_z}
use Rattle.mg_cursor.specs.View.{client_of, doing_of, told_by}
use Rattle.mg_cursor.proofs.Hearing.{kept_as}
use Rattle.mg_cursor.proofs.batches.Batches.keep.Goals as goal

pub returns-clause-kept : goal.returns-clause-kept
returns-clause-kept c = λ batch.
    let fits : SFits w64 c.args.gave.id = search rules in
    let back : to_z w64 (of_z w64 c.args.gave.id) ≡ c.args.gave.id = to_z-of_z w64 c.args.gave.id fits in
    kept_as (client_of c.args.self.now) (told_by c.args.gave batch) (to_z w64 (of_z w64 c.args.gave.id)) c.pinned_behind-self.result c.replace.new.dest (doing_of c.args.self.now.flight)
    back c.pinned_behind-self.ensures c.replace.ensures.after (ap doing_of c.requires)
