use Rattle.std.proofs.Common.{false, List, ap, ◌∙◌, subst}
use Rattle.std.proofs.lemmas.Result.{err_from_is_err_and}
use Rattle.mg_bson.specs.Raw.{fields}
use Rattle.mg_link.specs.Exec.{Sending}
use Rattle.mg_link.specs.Namespace.{space}
use Rattle.mg_options.specs.Fields.{Line}
use Rattle.mg_ops.specs.Failing.{FailsBy}
use Rattle.mg_gridfs.specs.Buckets.{bucket_of}
use Rattle.mg_gridfs.specs.Commands.{CannotStore, IsNewRequest}
use Rattle.mg_gridfs.proofs.Sending.{insertion_as}
use Rattle.mg_gridfs.proofs.commands.insert.Goals as goal

pub returns-clause-ok : goal.returns-clause-ok
returns-clause-ok c =
    let same = insertion_as (bucket_of c.args.bucket.now) (space c.in_ok-clone.field-0) (space c.args.collection.now) c.builder-options.result c.copy_given.new.place c.args.documents.items c.in_ok-clone.ensures.cases c.builder-options.ensures c.in_ok-copy_given.ensures.ok in
    subst (λ (ls : List Line). IsNewRequest false ls c.start.result) same (record {
      bytes_are = ap (λ (s : Sending). s.command) c.start.ensures ∙ c.in_ok-command.ensures.bytes;
      command_is = ap (λ (s : Sending). fields s.command) c.start.ensures ∙ c.in_ok-command.ensures.read_back;
      retries_is = ap (λ (s : Sending). s.retries) c.start.ensures;
      new = ap (λ (s : Sending). s.stage) c.start.ensures;
    })

pub returns-in_err-command-clause-err : goal.returns-in_err-command-clause-err
returns-in_err-command-clause-err c =
    let p = err_from_is_err_and c.from_residual-in_err-command.result c.from_residual-in_err-command.ensures.1 in
    let same = insertion_as (bucket_of c.args.bucket.now) (space c.in_ok-clone.field-0) (space c.args.collection.now) c.builder-options.result c.copy_given.new.place c.args.documents.items c.in_ok-clone.ensures.cases c.builder-options.ensures c.in_ok-copy_given.ensures.ok in
    rw (p.1, p.2) (subst (λ (ls : List Line). FailsBy (CannotStore ls c.args.documents.items) c.in_err-command.field-0.0) same c.in_err-command.ensures.err)
