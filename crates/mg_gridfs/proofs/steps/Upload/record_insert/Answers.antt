use Rattle.std.proofs.Common.{◌∷◌, [], false, subst}
use Rattle.std.specs.Prelude.{IfErr, IfOk}
use Rattle.mg_bson.specs.Tree.{Fields}
use Rattle.mg_ops.specs.Failing.{FailsBy}
use Rattle.mg_gridfs.specs.Commands.{CannotStore, IsNewRequest, record_lines}
use Rattle.mg_gridfs.specs.UploadView.{worker_of}
use Rattle.mg_gridfs.proofs.steps.Upload.record_insert.Goals as goal

pub record_document-requires-clause-length : goal.record_document-requires-clause-length
record_document-requires-clause-length c = c.requires.length

pub record_document-requires-clause-size : goal.record_document-requires-clause-size
record_document-requires-clause-size c = c.requires.sound.size.small

pub returns-clause-ok : goal.returns-clause-ok
returns-clause-ok c = subst (λ (d : Fields). IfOk c.insert_record.result (λ s. IsNewRequest false (record_lines (worker_of c.args.self.now).aim.bucket d) s)) c.in_ok-document.ensures.ok c.insert_record.ensures.ok

pub returns-clause-err : goal.returns-clause-err
returns-clause-err c = subst (λ (d : Fields). IfErr c.insert_record.result (λ e. FailsBy (CannotStore (record_lines (worker_of c.args.self.now).aim.bucket d) (d ∷ [])) e)) c.in_ok-document.ensures.ok c.insert_record.ensures.err
