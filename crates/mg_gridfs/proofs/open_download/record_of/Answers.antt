use Rattle.std.proofs.Common.{◌≡◌, Option, Some, None, Ok, option_map, refl, ap, inl, inr, subst}
use Rattle.std.specs.Prelude.{unwrap_or}
use Rattle.mg_bson.specs.Raw.{fields}
use Rattle.mg_bson.specs.Tree.{Fields, Items}
use Rattle.mg_link.specs.declared.error.Error.{Error}
use Rattle.mg_ops.specs.Failing.{FailsBy}
use Rattle.mg_chunks.specs.Broken.{Breaks}
use Rattle.mg_chunks.specs.Found.{HasFirst, first_item, no_item}
use Rattle.mg_records.specs.FileRecords.{FileRecord, file_record, file_record_of}
use Rattle.mg_records.specs.Readings.{FailsToRead}
use Rattle.mg_gridfs.specs.Findings.{BreaksFirst, GivesFirst, is_found, no_record, none_found}
use Rattle.mg_gridfs.proofs.open_download.record_of.Goals as goal

read : (batch : Items) (d : Fields) (f : FileRecord) → file_record_of d ≡ Ok f → HasFirst batch (Some d) → GivesFirst batch (Some f)
read batch d f is (no_item none bad) = absurd cc
read batch d f is (first_item t ts d' at document same) =
    is_found t ts d' f at document (subst (λ (x : Fields). file_record_of x ≡ Ok f) (ap (λ (o : Option Fields). unwrap_or o d) same) is) refl

not_read : (batch : Items) (d : Fields) (e : Error) → FailsToRead (file_record_of d) e → HasFirst batch (Some d) → FailsBy (BreaksFirst batch) e
not_read batch d e (inl memory) h = inl memory
not_read batch d e (inr breaks) (no_item none bad) = absurd cc
not_read batch d e (inr breaks) (first_item t ts d' at document same) =
    inr (no_record t ts d' at document (subst (λ (x : Fields). Breaks (file_record_of x) e) (ap (λ (o : Option Fields). unwrap_or o d) same) breaks))

none : (batch : Items) → HasFirst batch None → GivesFirst batch None
none batch (no_item nothing is) = none_found nothing refl
none batch (first_item t ts d at document bad) = absurd cc

pub returns-in-Ok-clause-ok : goal.returns-in-Ok-clause-ok
returns-in-Ok-clause-ok c = λ batch at. read batch (fields c.in-Some.document) (file_record c.in-Ok.file) c.in-Ok.ensures.ok (subst (HasFirst batch) (ap (option_map fields) c.in-Some.is) at)

pub returns-in-Err-clause-err : goal.returns-in-Err-clause-err
returns-in-Err-clause-err c = λ batch at. not_read batch (fields c.in-Some.document) c.in-Err.error c.in-Err.ensures.err (subst (HasFirst batch) (ap (option_map fields) c.in-Some.is) at)

pub returns-in-None-clause-ok : goal.returns-in-None-clause-ok
returns-in-None-clause-ok c = λ batch at. none batch (subst (HasFirst batch) (ap (option_map fields) c.in-None.is) at)
