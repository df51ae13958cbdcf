use Rattle.std.proofs.Common.{◌≡◌, Option, sym, subst}
use Rattle.std.specs.Prelude.{IfOk}
use Rattle.mg_bson.specs.Tree.{Tree}
use Rattle.mg_change.proofs.closing.copied_token.Goals as goal

pub returns-in-Some-clause-ok : goal.returns-in-Some-clause-ok
returns-in-Some-clause-ok c = subst (λ (lent : Option Tree). IfOk c.owned_token.result (λ token. token ≡ lent)) (sym c.in-Some.is) c.owned_token.ensures.ok

pub returns-in-None-clause-ok : goal.returns-in-None-clause-ok
returns-in-None-clause-ok c = sym c.in-None.is
