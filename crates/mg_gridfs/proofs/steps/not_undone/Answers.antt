use Rattle.std.proofs.Common.{refl, sym, subst, inl, inr}
use Rattle.std.proofs.lemmas.Bool.{iff_false}
use Rattle.mg_link.specs.declared.error.Error.{Error}
use Rattle.mg_gridfs.specs.Steps.{IsAbortError, holds_both, no_memory}
use Rattle.mg_gridfs.proofs.steps.not_undone.Goals as goal

pub returns-then-is_memory : goal.returns-then-is_memory
returns-then-is_memory c = no_memory (c.is_memory.ensures.0 c.if-is_memory.true) refl

pub returns-in-Ok : goal.returns-in-Ok
returns-in-Ok c =
    holds_both (iff_false c.is_memory.ensures c.if-is_memory.false)
    (inr (subst (λ (e : Error). IsAbortError c.args.original c.args.delete e) (sym c.plain.ensures) (record { holds = c.in-Ok.ensures; says_no_more = refl })))

pub returns-in-Err : goal.returns-in-Err
returns-in-Err c = holds_both (iff_false c.is_memory.ensures c.if-is_memory.false) (inl c.plain-in-Err.ensures)
