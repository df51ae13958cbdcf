use Rattle.std.proofs.Common.{false, List, subst}
use Rattle.std.specs.Prelude.{IfErr, IfOk}
use Rattle.mg_bson.specs.Tree.{Fields}
use Rattle.mg_link.specs.Namespace.{Space}
use Rattle.mg_ops.specs.Failing.{FailsBy}
use Rattle.mg_gridfs.specs.Buckets.{bucket_of}
use Rattle.mg_gridfs.specs.Commands.{CannotStore, IsNewRequest, insertion}
use Rattle.mg_gridfs.proofs.commands.insert_record.Goals as goal

pub returns-clause-ok : goal.returns-clause-ok
returns-clause-ok c =
    subst (λ (ds : List Fields). IfOk c.insert.result (λ s. IsNewRequest false (insertion (bucket_of c.args.bucket.now) (bucket_of c.args.bucket.now).files ds) s)) c.in_ok-documents.ensures.ok
    (subst (λ (at : Space). IfOk c.insert.result (λ s. IsNewRequest false (insertion (bucket_of c.args.bucket.now) at c.in_ok-documents.documents.items) s)) c.files.ensures c.insert.ensures.ok)

pub returns-clause-err : goal.returns-clause-err
returns-clause-err c =
    subst (λ (ds : List Fields). IfErr c.insert.result (λ e. FailsBy (CannotStore (insertion (bucket_of c.args.bucket.now) (bucket_of c.args.bucket.now).files ds) ds) e)) c.in_ok-documents.ensures.ok
    (subst (λ (at : Space). IfErr c.insert.result (λ e. FailsBy (CannotStore (insertion (bucket_of c.args.bucket.now) at c.in_ok-documents.documents.items) c.in_ok-documents.documents.items) e)) c.files.ensures c.insert.ensures.err)
