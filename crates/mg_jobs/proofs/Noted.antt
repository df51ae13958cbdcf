-- The notes of a run, and the polls that pended in it.
use Rattle.std.proofs.Common.{◌≡◌, ℕ, List, Result, Ok, Err, IfOk, sym, subst}
use Rattle.mg_link.specs.declared.error.Error.{Error}
use Rattle.mg_link.specs.Link.{LogTold}
use Rattle.mg_link.specs.Causes.{RoseJust}
use Rattle.mg_script.specs.declared.outcome.Played.{Played}
use Rattle.mg_turns.specs.Counts.{AreNoted, turns_pended}
use Rattle.mg_turns.specs.declared.turned.Turned.{Turned}
use Rattle.mg_turns.proofs.Tallies.{noted_rose}

pub noted_so : (played : Result Played Error) (notes : List Turned) (old new : LogTold) (before now : ℕ) → IfOk played (λ p. p.turns.items ≡ notes) → AreNoted notes old new before now → IfOk played (λ p. AreNoted p.turns.items old new before now)
noted_so (Ok p) notes old new before now same noted = subst (λ (ts : List Turned). AreNoted ts old new before now) (sym same) noted
noted_so (Err e) notes old new before now same noted = tt

pub pended_so : (played : Result Played Error) (old new : LogTold) (before now : ℕ) → IfOk played (λ p. AreNoted p.turns.items old new before now) → IfOk played (λ p. RoseJust (turns_pended p.turns.items) before now)
pended_so (Ok p) old new before now noted = noted_rose p.turns.items old new before now noted
pended_so (Err e) old new before now noted = tt
