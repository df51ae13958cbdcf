use Rattle.std.proofs.Common.{option_map, inr}
use Rattle.std.proofs.lemmas.Result.{IfErr-weaker, IfOk-weaker}
use Rattle.mg_bson.specs.Raw.{fields, items}
use Rattle.mg_bson.specs.Tree.{Items}
use Rattle.mg_link.specs.declared.error.Error.{Error}
use Rattle.mg_ops.specs.Failing.{FailsBy}
use Rattle.mg_chunks.specs.Found.{HasFirst}
use Rattle.mg_records.specs.FileRecords.{file_record}
use Rattle.mg_gridfs.specs.Findings.{BreaksFirst, GivesFirst, no_document}
use Rattle.mg_gridfs.proofs.open_download.first_of.Goals as goal

pub returns-in-Ok-clause-ok : goal.returns-in-Ok-clause-ok
returns-in-Ok-clause-ok c =
    IfOk-weaker c.record_of.result (λ f. (batch : Items) → HasFirst batch (option_map fields c.in-Ok.first) → GivesFirst batch (option_map file_record f)) (λ f. GivesFirst (items c.args.batch.now) (option_map file_record f))
    (λ f h. h (items c.args.batch.now) c.in-Ok.ensures.ok) c.record_of.ensures.ok

pub returns-in-Ok-clause-err : goal.returns-in-Ok-clause-err
returns-in-Ok-clause-err c =
    IfErr-weaker c.record_of.result (λ e. (batch : Items) → HasFirst batch (option_map fields c.in-Ok.first) → FailsBy (BreaksFirst batch) e) (λ e. FailsBy (BreaksFirst (items c.args.batch.now)) e)
    (λ (e : Error) h. h (items c.args.batch.now) c.in-Ok.ensures.ok) c.record_of.ensures.err

pub returns-in-Err-clause-err : goal.returns-in-Err-clause-err
returns-in-Err-clause-err c = let other = c.in-Err.ensures.err in inr (no_document other.first other.behind other.is other.no_document other.error)
