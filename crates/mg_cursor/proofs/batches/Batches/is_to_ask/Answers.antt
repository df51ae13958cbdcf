use Rattle.std.proofs.Common.{◌≡◌, ◌↔◌, false, IsTrue, sym, ap, subst}
use Rattle.mg_cursor.specs.Client.{MayAsk, rests}
use Rattle.mg_cursor.specs.View.{client_of, doing_of}
use Rattle.mg_cursor.specs.declared.batches.Flight.{Flight}
use Rattle.mg_cursor.proofs.Giving.{asks_already, holds_still, not_to_ask, to_ask}
use Rattle.mg_cursor.proofs.batches.Batches.is_to_ask.Goals as goal

pub returns-then-is_over : goal.returns-then-is_over
returns-then-is_over c = not_to_ask (client_of c.args.self.now) (c.is_over.ensures.0 c.if-is_over.true)

pub returns-in-Nothing : goal.returns-in-Nothing
returns-in-Nothing c = to_ask (client_of c.args.self.now) c.is_over.result c.is_over.ensures c.if-is_over.false (ap doing_of c.in-Nothing.is)

pub returns-in-Reply : goal.returns-in-Reply
returns-in-Reply c = subst (λ (f : Flight). IsTrue false ↔ ((doing_of f ≡ rests) × MayAsk (client_of c.args.self.now))) (sym c.in-Reply.is) (λ bad. absurd cc, λ h. absurd (holds_still _ h.0))

pub returns-in-More : goal.returns-in-More
returns-in-More c = subst (λ (f : Flight). IsTrue false ↔ ((doing_of f ≡ rests) × MayAsk (client_of c.args.self.now))) (sym c.in-More.is) (λ bad. absurd cc, λ h. absurd (asks_already _ h.0))
