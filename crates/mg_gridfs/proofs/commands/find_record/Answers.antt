use Rattle.std.proofs.Common.{List, IfErr, IfOk, true, subst}
use Rattle.mg_bson.specs.View.{tree}
use Rattle.mg_link.specs.Namespace.{space}
use Rattle.mg_options.specs.Fields.{Line}
use Rattle.mg_ops.specs.Failing.{FailsBy}
use Rattle.mg_gridfs.specs.Buckets.{bucket_of}
use Rattle.mg_gridfs.specs.Commands.{CannotSend, IsNewRequest}
use Rattle.mg_gridfs.proofs.Asking.{found_as}
use Rattle.mg_gridfs.proofs.commands.find_record.Goals as goal

pub returns-clause-ok : goal.returns-clause-ok
returns-clause-ok c =
    subst (λ (l : List Line). IfOk c.find.result (λ s. IsNewRequest true l s))
    (found_as (bucket_of c.args.bucket.now) (tree c.args.id.now) (space c.files.result.now) c.in_ok-filter.filter c.in_ok-plain.plain c.limit-options.result c.files.ensures c.in_ok-filter.ensures.ok c.in_ok-plain.ensures c.limit-options.ensures) c.find.ensures.ok

pub returns-clause-err : goal.returns-clause-err
returns-clause-err c =
    subst (λ (l : List Line). IfErr c.find.result (λ e. FailsBy (CannotSend l) e))
    (found_as (bucket_of c.args.bucket.now) (tree c.args.id.now) (space c.files.result.now) c.in_ok-filter.filter c.in_ok-plain.plain c.limit-options.result c.files.ensures c.in_ok-filter.ensures.ok c.in_ok-plain.ensures c.limit-options.ensures) c.find.ensures.err
