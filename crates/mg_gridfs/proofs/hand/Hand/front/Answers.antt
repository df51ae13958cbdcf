use Rattle.std.proofs.Common.{◌≤◌, ℕ, List, length, drop, sym, ap, subst, ◌∙◌}
use Rattle.mg_gridfs.proofs.Hands.{given_within}
use Rattle.mg_gridfs.proofs.hand.Hand.front.Goals as goal

pub from-requires : goal.from-requires
from-requires c = subst (λ (l : List ℕ). c.args.self.now.given ≤ length l) (sym c.front_in-chunk.ensures) (given_within c.args.self.now c.requires)

pub returns-clause-left : goal.returns-clause-left
returns-clause-left c = c.from.ensures ∙ ap (drop c.args.self.now.given) c.front_in-chunk.ensures

pub returns-clause-whole : goal.returns-clause-whole
returns-clause-whole c = ap (length {A = ℕ}) c.front_in-chunk.ensures
