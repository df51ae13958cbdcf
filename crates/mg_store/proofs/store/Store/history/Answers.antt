use Rattle.std.proofs.Common.{ℤ, List, ap, ◌∙◌, subst, arith}
use Rattle.std.specs.BTreeMap.{keys}
use Rattle.std.specs.Ordering.{eq_by_cmp, int_cmp}
use Rattle.std.specs.Set.{is_member}
use Rattle.mg_server.specs.History.{IsLegal}
use Rattle.mg_server.specs.Kept as kept
use Rattle.mg_server.specs.Prompt.{HoldsBackNone}
use Rattle.mg_store.specs.Stored.{AreOpen, Stored, steps_of}
use Rattle.mg_store.proofs.Keeping.{keeps_legal, keeps_prompt, open_ids}
use Rattle.mg_store.proofs.store.Store.history.Goals as goal

pub returns-clause-legal : goal.returns-clause-legal
returns-clause-legal c =
    subst (λ (s : Stored). IsLegal (kept.steps_of s.history)) c.self.view_is
    (keeps_legal c.self.inside.content (steps_of c.self.inside.history.items) c.self.invariant (omega (arith, c.self.inside.content.changes.ok.0, c.self.inside.content.changes.small)))

pub returns-clause-cursors : goal.returns-clause-cursors
returns-clause-cursors c =
    subst (λ (s : Stored). AreOpen (kept.state_of_kept s.history) s.open_ids) c.self.view_is (open_ids c.self.inside.content (steps_of c.self.inside.history.items) (keys c.self.inside.content.cursors) c.self.invariant c.keys.ensures.ordered (λ q. c.keys.ensures.has q ∙ ap (λ (ks : List ℤ). is_member (eq_by_cmp int_cmp) ks q) c.keys.ensures.rest))

pub returns-clause-prompt : goal.returns-clause-prompt
returns-clause-prompt c =
    subst (λ (s : Stored). HoldsBackNone (kept.steps_of s.history)) c.self.view_is
    (keeps_prompt c.self.inside.content (steps_of c.self.inside.history.items) c.self.invariant (omega (arith, c.self.inside.content.changes.ok.0, c.self.inside.content.changes.small)))
