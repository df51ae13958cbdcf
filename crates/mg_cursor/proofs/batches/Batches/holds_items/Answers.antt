use Rattle.std.proofs.Common.{◌↔◌, false, IsTrue, sym, subst}
use Rattle.mg_cursor.specs.Client.{HoldsItems}
use Rattle.mg_cursor.specs.View.{doing_of}
use Rattle.mg_cursor.specs.declared.batches.Flight.{Flight}
use Rattle.mg_cursor.proofs.batches.Batches.holds_items.Goals as goal

pub returns-in-Nothing : goal.returns-in-Nothing
returns-in-Nothing c = subst (λ (f : Flight). IsTrue false ↔ HoldsItems (doing_of f)) (sym c.in-Nothing.is) (λ bad. absurd cc, λ h. absurd h)

pub returns-in-Reply : goal.returns-in-Reply
returns-in-Reply c = subst (λ (f : Flight). IsTrue c.has_items.result ↔ HoldsItems (doing_of f)) (sym c.in-Reply.is) c.has_items.ensures

pub returns-in-More : goal.returns-in-More
returns-in-More c = subst (λ (f : Flight). IsTrue false ↔ HoldsItems (doing_of f)) (sym c.in-More.is) (λ bad. absurd cc, λ h. absurd h)
