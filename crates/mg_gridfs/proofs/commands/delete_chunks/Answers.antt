use Rattle.std.proofs.Common.{◌≡◌, true, false, List, None, ◌∙◌, subst}
use Rattle.std.specs.Prelude.{IfErr, IfOk}
use Rattle.mg_bson.specs.View.{tree}
use Rattle.mg_link.specs.Namespace.{space}
use Rattle.mg_options.specs.Fields.{Line}
use Rattle.mg_ops.specs.Bodies.{delete_body}
use Rattle.mg_ops.specs.Failing.{FailsBy}
use Rattle.mg_gridfs.specs.Buckets.{bucket_of}
use Rattle.mg_gridfs.specs.Commands.{CannotSend, IsNewRequest, deletion_lines}
use Rattle.mg_gridfs.proofs.Sending.{deletion_as}
use Rattle.mg_gridfs.proofs.commands.delete_chunks.Goals as goal
use Rattle.mg_gridfs.proofs.commands.delete_chunks.Goals.{In_ok-of_file}

same : (c : In_ok-of_file) → delete_body (space c.in_ok-clone.field-0) c.in_ok-of_file.field-0 true (record c.builder-options.result { write_concern = c.copy_given.new.place }) None ≡ deletion_lines (bucket_of c.args.bucket.now) (tree c.args.id.now)
same c = deletion_as (bucket_of c.args.bucket.now) (space c.in_ok-clone.field-0) c.in_ok-of_file.field-0 c.builder-options.result c.copy_given.new.place (tree c.args.id.now) (c.in_ok-clone.ensures.cases ∙ c.chunks.ensures) c.in_ok-of_file.ensures.ok c.builder-options.ensures c.in_ok-copy_given.ensures.ok

pub returns-clause-ok : goal.returns-clause-ok
returns-clause-ok c = subst (λ (ls : List Line). IfOk c.request.result (λ s. IsNewRequest false ls s)) (same (goal.at.returns-clause-ok c).In_ok-of_file) c.request.ensures.ok

pub returns-clause-err : goal.returns-clause-err
returns-clause-err c = subst (λ (ls : List Line). IfErr c.request.result (λ e. FailsBy (CannotSend ls) e)) (same (goal.at.returns-clause-err c).In_ok-of_file) c.request.ensures.err
