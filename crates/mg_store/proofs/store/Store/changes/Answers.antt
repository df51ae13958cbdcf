use Rattle.std.proofs.Common.{ap, sym, subst, ◌∙◌}
use Rattle.mg_server.specs.Kept.{state_of_kept}
use Rattle.mg_store.specs.Holding.{AreExact, entries_from}
use Rattle.mg_store.specs.Stored.{Stored, steps_of}
use Rattle.mg_store.proofs.Keeping.{changes_are, changes_exact}
use Rattle.mg_store.proofs.store.Store.changes.Goals as goal

pub returns-clause-entries : goal.returns-clause-entries
returns-clause-entries c =
    ap (entries_from 0) c.as_slice.ensures.value ∙ changes_are c.self.inside.content (steps_of c.self.inside.history.items) c.self.invariant ∙ ap (λ (s : Stored). (state_of_kept s.history).changes) c.self.view_is

pub returns-clause-encoded : goal.returns-clause-encoded
returns-clause-encoded c = subst AreExact (sym c.as_slice.ensures.value) (changes_exact c.self.inside.content (steps_of c.self.inside.history.items) c.self.invariant)
