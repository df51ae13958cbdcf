use Rattle.std.proofs.Common.{◌≡◌, true, List, None, ◌∙◌, subst}
use Rattle.std.specs.Prelude.{IfErr, IfOk}
use Rattle.mg_link.specs.Namespace.{space}
use Rattle.mg_options.specs.Fields.{Line}
use Rattle.mg_ops.specs.Bodies.{list_indexes_body}
use Rattle.mg_ops.specs.Failing.{FailsBy}
use Rattle.mg_gridfs.specs.Buckets.{bucket_of}
use Rattle.mg_gridfs.specs.Commands.{CannotSend, IsNewRequest, listing_lines}
use Rattle.mg_gridfs.proofs.Sending.{listing_as}
use Rattle.mg_gridfs.proofs.commands.list_indexes.Goals as goal
use Rattle.mg_gridfs.proofs.commands.list_indexes.Goals.{After-builder}

same : (c : After-builder) → list_indexes_body (space c.in_ok-clone.field-0) c.builder.result None ≡ listing_lines (bucket_of c.args.bucket.now) c.args.place
same c = listing_as (bucket_of c.args.bucket.now) c.args.place (space c.in_ok-clone.field-0) c.builder.result (c.in_ok-clone.ensures.cases ∙ c.collection.ensures) c.builder.ensures

pub returns-clause-ok : goal.returns-clause-ok
returns-clause-ok c = subst (λ (ls : List Line). IfOk c.request.result (λ s. IsNewRequest true ls s)) (same (goal.at.returns-clause-ok c).After-builder) c.request.ensures.ok

pub returns-clause-err : goal.returns-clause-err
returns-clause-err c = subst (λ (ls : List Line). IfErr c.request.result (λ e. FailsBy (CannotSend ls) e)) (same (goal.at.returns-clause-err c).After-builder) c.request.ensures.err
