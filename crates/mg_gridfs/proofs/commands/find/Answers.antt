use Rattle.std.proofs.Common.{None, refl, ap, ◌∙◌, subst}
use Rattle.std.proofs.lemmas.Result.{err_from_is_err_and}
use Rattle.mg_bson.specs.Bytes.{bytes}
use Rattle.mg_link.specs.Namespace.{Space}
use Rattle.mg_options.specs.Fields.{fields_in}
use Rattle.mg_ops.specs.Bodies.{find_body}
use Rattle.mg_ops.specs.Failing.{FailsBy}
use Rattle.mg_gridfs.specs.Commands.{CannotSend}
use Rattle.mg_gridfs.proofs.commands.find.Goals as goal

pub returns-in_err-command-clause-err : goal.returns-in_err-command-clause-err
returns-in_err-command-clause-err c =
    let p = err_from_is_err_and c.from_residual-in_err-command.result c.from_residual-in_err-command.ensures.1 in
    rw (p.1, p.2) (subst (λ (s : Space). FailsBy (CannotSend (find_body s c.args.filter c.args.options None)) c.in_err-command.field-0.0) c.in_ok-clone.ensures.cases c.in_err-command.ensures.err)

pub returns-clause-ok : goal.returns-clause-ok
returns-clause-ok c = rw c.start.ensures (record {
  bytes_are = c.in_ok-command.ensures.bytes ∙ ap (λ (s : Space). bytes (fields_in (find_body s c.args.filter c.args.options None))) c.in_ok-clone.ensures.cases;
  command_is = c.in_ok-command.ensures.read_back ∙ ap (λ (s : Space). fields_in (find_body s c.args.filter c.args.options None)) c.in_ok-clone.ensures.cases;
  retries_is = rw c.retry.ensures;
  new = refl;
})
