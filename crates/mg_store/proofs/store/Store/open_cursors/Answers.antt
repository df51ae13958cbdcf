use Rattle.std.proofs.Common.{ℤ, List, ap, ◌∙◌, subst}
use Rattle.std.specs.BTreeMap.{keys}
use Rattle.std.specs.Ordering.{eq_by_cmp, int_cmp}
use Rattle.std.specs.Set.{is_member}
use Rattle.mg_server.specs.Kept.{state_of_kept}
use Rattle.mg_store.specs.Stored.{AreOpen, Stored, steps_of}
use Rattle.mg_store.proofs.Keeping.{open_ids}
use Rattle.mg_store.proofs.store.Store.open_cursors.Goals as goal

pub returns-in_err-collect-clause-cursors : goal.returns-in_err-collect-clause-cursors
returns-in_err-collect-clause-cursors c =
    subst (λ (s : Stored). AreOpen (state_of_kept s.history) s.open_ids) c.self.view_is (open_ids c.self.inside.content (steps_of c.self.inside.history.items) (keys c.self.inside.content.cursors) c.self.invariant c.keys.ensures.ordered (λ q. c.keys.ensures.has q ∙ ap (λ (ks : List ℤ). is_member (eq_by_cmp int_cmp) ks q) c.keys.ensures.rest))

pub returns-clause-cursors : goal.returns-clause-cursors
returns-clause-cursors c =
    subst (λ (s : Stored). AreOpen (state_of_kept s.history) s.open_ids) c.self.view_is (open_ids c.self.inside.content (steps_of c.self.inside.history.items) (keys c.self.inside.content.cursors) c.self.invariant c.keys.ensures.ordered (λ q. c.keys.ensures.has q ∙ ap (λ (ks : List ℤ). is_member (eq_by_cmp int_cmp) ks q) c.keys.ensures.rest))
