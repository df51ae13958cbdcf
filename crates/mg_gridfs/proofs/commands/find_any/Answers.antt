use Rattle.std.proofs.Common.{◌≡◌, true, negsuc, pos, codes, List, Some, None, ap, ◌∙◌, subst}
use Rattle.std.specs.Prelude.{IfErr, IfOk}
use Rattle.mg_bson.specs.Find.{with_field}
use Rattle.mg_bson.specs.Tree.{Fields, int32}
use Rattle.mg_link.specs.Namespace.{space}
use Rattle.mg_options.specs.Fields.{Line}
use Rattle.mg_options.specs.declared.find.FindOptions.{FindOptions}
use Rattle.mg_ops.specs.Bodies.{find_body}
use Rattle.mg_ops.specs.Failing.{FailsBy}
use Rattle.mg_gridfs.specs.Buckets.{bucket_of}
use Rattle.mg_gridfs.specs.Commands.{CannotSend, IsNewRequest, any_lines}
use Rattle.mg_gridfs.proofs.Sending.{any_as}
use Rattle.mg_gridfs.proofs.commands.find_any.Goals as goal
use Rattle.mg_gridfs.proofs.commands.find_any.Goals.{After-new}

same : (c : After-new) → find_body (space c.in_ok-clone.field-0) c.new.result (record c.projection-options.result { read_concern = c.copy_given.new.place }) None ≡ any_lines (bucket_of c.args.bucket.now)
same c =
    let id = c.append.new.self in
    let alone = c.in_ok-append.ensures.ok ∙ ap (λ (d : Fields). with_field d (codes "_id") (int32 (pos 1))) c.new-id.ensures in
    let first = c.projection-options.ensures ∙ ap (λ (o : FindOptions). record o { projection = Some id }) (c.limit.ensures ∙ ap (λ (o : FindOptions). record o { limit = Some (negsuc 0) }) c.builder.ensures) in
    any_as (bucket_of c.args.bucket.now) (space c.in_ok-clone.field-0) c.new.result id c.projection-options.result c.copy_given.new.place (c.in_ok-clone.ensures.cases ∙ c.files.ensures) c.new.ensures alone first c.in_ok-copy_given.ensures.ok

pub returns-clause-ok : goal.returns-clause-ok
returns-clause-ok c = subst (λ (ls : List Line). IfOk c.request.result (λ s. IsNewRequest true ls s)) (same (goal.at.returns-clause-ok c).After-new) c.request.ensures.ok

pub returns-clause-err : goal.returns-clause-err
returns-clause-err c = subst (λ (ls : List Line). IfErr c.request.result (λ e. FailsBy (CannotSend ls) e)) (same (goal.at.returns-clause-err c).After-new) c.request.ensures.err
