use Rattle.std.proofs.Common.{List, IfErr, IfOk, true, subst}
use Rattle.mg_bson.specs.View.{tree}
use Rattle.mg_link.specs.Namespace.{space}
use Rattle.mg_options.specs.Fields.{Line}
use Rattle.mg_ops.specs.Failing.{FailsBy}
use Rattle.mg_gridfs.specs.Buckets.{bucket_of}
use Rattle.mg_gridfs.specs.Commands.{CannotSend, IsNewRequest}
use Rattle.mg_gridfs.proofs.Asking.{listed_as}
use Rattle.mg_gridfs.proofs.commands.find_chunks.Goals as goal

pub returns-clause-ok : goal.returns-clause-ok
returns-clause-ok c =
    subst (λ (l : List Line). IfOk c.find.result (λ s. IsNewRequest true l s))
    (listed_as (bucket_of c.args.bucket.now) (tree c.args.id.now) (space c.chunks.result.now) c.in_ok-filter.filter c.in_ok-order.order c.in_ok-plain.plain c.sort-options.result c.chunks.ensures c.in_ok-filter.ensures.ok c.in_ok-order.ensures.ok c.in_ok-plain.ensures c.sort-options.ensures) c.find.ensures.ok

pub returns-clause-err : goal.returns-clause-err
returns-clause-err c =
    subst (λ (l : List Line). IfErr c.find.result (λ e. FailsBy (CannotSend l) e))
    (listed_as (bucket_of c.args.bucket.now) (tree c.args.id.now) (space c.chunks.result.now) c.in_ok-filter.filter c.in_ok-order.order c.in_ok-plain.plain c.sort-options.result c.chunks.ensures c.in_ok-filter.ensures.ok c.in_ok-order.ensures.ok c.in_ok-plain.ensures c.sort-options.ensures) c.find.ensures.err
