use Rattle.std.proofs.Common.{List, ℕ, sym, ap, ◌∙◌, subst}
use Rattle.mg_bson.specs.Raw.{fields}
use Rattle.mg_cursor.specs.Batches.{NoBatchIn, bad_item, batch_in, no_batch}
use Rattle.mg_cursor.proofs.Batching.{none_inside}
use Rattle.mg_cursor.proofs.raw_batch.documents_in.Goals as goal

pub returns-in-Err-clause-err : goal.returns-in-Err-clause-err
returns-in-Err-clause-err c =
    no_batch (sym (ap batch_in c.as_raw.ensures) ∙ c.in-Err.ensures.bytes) (subst (λ (b : List ℕ). NoBatchIn (fields b) c.in-Err.error) c.as_raw.ensures c.in-Err.ensures.values)

pub returns-in-Some-clause-ok : goal.returns-in-Some-clause-ok
returns-in-Some-clause-ok c = sym c.in-Some.ensures

pub returns-in-None-clause-err : goal.returns-in-None-clause-err
returns-in-None-clause-err c =
    let at = sym (ap batch_in c.as_raw.ensures) ∙ c.in-Ok.ensures.bytes in
    bad_item c.in-Ok.batch at (none_inside c.args.reply c.in-Ok.batch at c.in-None.ensures) c.plain.ensures
