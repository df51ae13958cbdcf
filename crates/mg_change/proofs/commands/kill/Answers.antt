use Rattle.std.proofs.Common.{◌⊎◌, inl, inr, refl, ap, ◌∙◌, subst}
use Rattle.std.proofs.lemmas.Result.{err_from_is_err_and}
use Rattle.mg_bson.specs.Bytes.{bytes}
use Rattle.mg_bson.specs.Tree.{Fields}
use Rattle.mg_link.specs.Namespace.{Space, space}
use Rattle.mg_link.specs.declared.error.Error.{Error}
use Rattle.mg_ops.specs.Commands.{kill_command}
use Rattle.mg_ops.specs.Failing.{CannotBeSent, FailsBy}
use Rattle.mg_change.proofs.commands.kill.Goals as goal

-- it is always built
unsent : (d : Fields) (e : Error) → FailsBy (λ x. ⊥ ⊎ CannotBeSent d x) e → FailsBy (CannotBeSent d) e
unsent d e (inl memory) = inl memory
unsent d e (inr (inl never)) = absurd never
unsent d e (inr (inr limit)) = inr limit

pub returns-in_err-command-clause-fails : goal.returns-in_err-command-clause-fails
returns-in_err-command-clause-fails c =
    let p = err_from_is_err_and c.from_residual-in_err-command.result c.from_residual-in_err-command.ensures.1 in
    rw (p.1, p.2) (subst (λ (s : Space). FailsBy (CannotBeSent (kill_command s c.args.ids.items)) c.in_err-command.field-0.0) c.in_ok-clone.ensures.cases
    (unsent (kill_command (space c.in_ok-clone.field-0) c.args.ids.items) c.in_err-command.field-0.0 c.in_err-command.ensures.err))

pub returns-clause-built : goal.returns-clause-built
returns-clause-built c = rw c.start.ensures (record {
  bytes_are = c.in_ok-command.ensures.bytes ∙ ap (λ (s : Space). bytes (kill_command s c.args.ids.items)) c.in_ok-clone.ensures.cases;
  command_is = c.in_ok-command.ensures.read_back ∙ ap (λ (s : Space). kill_command s c.args.ids.items) c.in_ok-clone.ensures.cases;
  single = rw c.retry.ensures;
  new = refl;
})
