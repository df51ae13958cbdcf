use Rattle.std.proofs.Common.{Some, sym, ap, ◌∙◌}
use Rattle.mg_bson.specs.Walks.{Walk, before}
use Rattle.mg_bson.proofs.Options.{map_some}
use Rattle.mg_cursor.specs.Batches.{documents_of}
use Rattle.mg_cursor.specs.View.{behind_in, current_in, whole_in}
use Rattle.mg_cursor.proofs.buffer.BatchBuffer.fill.Goals as goal

pub returns-in-Ok-clause-ok : goal.returns-in-Ok-clause-ok
returns-in-Ok-clause-ok c =
    let there = map_some (documents_of c.args.batch) (before c.args.batch) c.in-Ok.documents c.in-Ok.ensures.ok in
    there.1 ∙ ap Some (ap (λ (w : Walk). w.behind) there.2 ∙ sym (ap behind_in c.replace.ensures.after))

pub returns-in-Ok-clause-kept : goal.returns-in-Ok-clause-kept
returns-in-Ok-clause-kept c =
    let there = map_some (documents_of c.args.batch) (before c.args.batch) c.in-Ok.documents c.in-Ok.ensures.ok in
    ap whole_in c.replace.ensures.after ∙ ap (λ (w : Walk). Some w.whole) (sym there.2)

pub returns-in-Ok-clause-before : goal.returns-in-Ok-clause-before
returns-in-Ok-clause-before c =
    let there = map_some (documents_of c.args.batch) (before c.args.batch) c.in-Ok.documents c.in-Ok.ensures.ok in
    ap current_in c.replace.ensures.after ∙ sym (ap (λ (w : Walk). w.current) there.2)

pub returns-in-Err-clause-empty : goal.returns-in-Err-clause-empty
returns-in-Err-clause-empty c = (ap behind_in c.take.ensures.after, ap whole_in c.take.ensures.after)

pub returns-in-Err-clause-before : goal.returns-in-Err-clause-before
returns-in-Err-clause-before c = ap current_in c.take.ensures.after
