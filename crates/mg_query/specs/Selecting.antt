-- The conditions of a filter, as they test many documents.
use Rattle.std.specs.Prelude.{List, map}
use Rattle.mg_query.specs.Asking.{Keyed}
use Rattle.mg_query.specs.declared.selection.Selection.{Selection}
use Rattle.mg_query.specs.declared.selection.Test.{Test}

-- the condition of a test
abbrev pub held_test : Test → Keyed
held_test t = record { name = t.name.now; keys = map (λ k. k.items) t.keys.keys }

-- the conditions that are tested
abbrev pub selecting : Selection → List Keyed
selecting s = map held_test s.tests.items
