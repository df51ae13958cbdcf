use Rattle.std.proofs.Common.{◌≡◌, IfOk, sym, ap, ◌∙◌, subst}
use Rattle.mg_bson.specs.Tree.{Tree}
use Rattle.mg_options.specs.Tokens.{lent_tree}
use Rattle.mg_options.proofs.token.TokenRef.to_owned.Goals as goal

pub returns-in-Value-clause-ok : goal.returns-in-Value-clause-ok
returns-in-Value-clause-ok c = subst (λ (x : Tree). IfOk c.from_value.result (λ token. token ≡ x)) (ap lent_tree (sym c.in-Value.is) ∙ c.self.view_is) c.from_value.ensures.ok

pub returns-in-Raw-clause-ok : goal.returns-in-Raw-clause-ok
returns-in-Raw-clause-ok c = subst (λ (x : Tree). IfOk c.from_raw.result (λ token. token ≡ x)) (ap lent_tree (sym c.in-Raw.is) ∙ c.self.view_is) c.from_raw.ensures.ok
