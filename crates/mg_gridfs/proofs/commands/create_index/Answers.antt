use Rattle.std.proofs.Common.{◌≡◌, false, List, None, ◌∙◌, subst}
use Rattle.std.specs.Prelude.{IfErr, IfOk}
use Rattle.mg_link.specs.Namespace.{space}
use Rattle.mg_options.specs.Fields.{Line}
use Rattle.mg_ops.specs.Bodies.{create_indexes_body}
use Rattle.mg_ops.specs.Failing.{FailsBy}
use Rattle.mg_gridfs.specs.Buckets.{bucket_of}
use Rattle.mg_gridfs.specs.Commands.{CannotSend, IsNewRequest, index_lines}
use Rattle.mg_gridfs.proofs.Sending.{index_as}
use Rattle.mg_gridfs.proofs.commands.create_index.Goals as goal
use Rattle.mg_gridfs.proofs.commands.create_index.Goals.{In_ok-copy_given}

same : (c : In_ok-copy_given) → create_indexes_body (space c.in_ok-clone.field-0) c.in_ok-keys.field-0 (record c.builder.result { write_concern = c.copy_given.new.place }) None ≡ index_lines (bucket_of c.args.bucket.now) c.args.place
same c = index_as (bucket_of c.args.bucket.now) c.args.place (space c.in_ok-clone.field-0) c.in_ok-keys.field-0 c.builder.result c.copy_given.new.place (c.in_ok-clone.ensures.cases ∙ c.collection.ensures) c.in_ok-keys.ensures.ok c.builder.ensures c.in_ok-copy_given.ensures.ok

pub returns-clause-ok : goal.returns-clause-ok
returns-clause-ok c = subst (λ (ls : List Line). IfOk c.request.result (λ s. IsNewRequest false ls s)) (same (goal.at.returns-clause-ok c).In_ok-copy_given) c.request.ensures.ok

pub returns-clause-err : goal.returns-clause-err
returns-clause-err c = subst (λ (ls : List Line). IfErr c.request.result (λ e. FailsBy (CannotSend ls) e)) (same (goal.at.returns-clause-err c).In_ok-copy_given) c.request.ensures.err
