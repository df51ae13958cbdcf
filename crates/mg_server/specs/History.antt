-- Histories of a server: the steps that it took, one after the other.
use Rattle.std.specs.Prelude.{◌≡◌, ◌≤◌, ℕ, suc, Option, Some, List, [], ◌∷◌, ◌++◌, length, take}
use Rattle.mg_bson.specs.Tree.{Tree, Fields}
use Rattle.mg_server.specs.State.{State, nothing, Watch, Start, start_place, events_between}
use Rattle.mg_server.specs.Commands.{Told, refuses, inserted, opened, gave, killed, garbled, asked, told, updated, deleted, done}
use Rattle.mg_server.specs.Step.{Made, May, next}

-- a command as it came, the reply as it was given, and what the step added
pub record Step : Type 0 where
  pub command : List ℕ
  pub reply : List ℕ
  pub made : Made

abbrev pub told_at : Step → Told
told_at step = told (asked step.command) step.reply

-- the state behind a step, and behind steps
abbrev pub step_after : State → Step → State
step_after s step = next s (asked step.command) (told_at step) step.made

unfoldable pub state_after : State → List Step → State
state_after s [] = s
state_after s (step ∷ steps) = state_after (step_after s step) steps

-- the state that a history leads to from an empty server
abbrev pub state_of : List Step → State
state_of history = state_after nothing history

unfoldable pub IsLegalFrom : State → List Step → Type 0
IsLegalFrom s [] = Unit {0}
IsLegalFrom s (step ∷ steps) = May s (asked step.command) (told_at step) step.made × IsLegalFrom (step_after s step) steps

-- each step is one that a server may take
abbrev pub IsLegal : List Step → Type 0
IsLegal history = IsLegalFrom nothing history

-- the place that a watch opened at, where the aggregate at this position opened it: what the step names counts, and entries of later steps do not
abbrev pub opening : List Step → ℕ → Start → Option ℕ
opening history position start = start_place (state_of (take (suc position) history)) start

-- the aggregate at this position opened its watch at this place, or was refused
abbrev pub OpensAt : List Step → ℕ → Start → ℕ → Told → Type 0
OpensAt history position start place (opened id space events token time) = opening history position start ≡ Some place
OpensAt history position start place (refuses code labels) = Unit {0}
OpensAt history position start place (inserted n failures) = ⊥
OpensAt history position start place (updated n changed failures) = ⊥
OpensAt history position start place (deleted n failures) = ⊥
OpensAt history position start place done = ⊥
OpensAt history position start place (gave id space events token) = ⊥
OpensAt history position start place killed = ⊥
OpensAt history position start place garbled = ⊥

-- what a watch is to see from a place on, behind a history
abbrev pub view_of : List Step → Watch → ℕ → List Fields
view_of history w from = events_between w (state_of history).changes from (length (state_of history).changes)

-- the events are, in order, the first of the view from the opening place on
-- (change streams: a stream gives the changes in the order in which they were made)
pub record Answers (s : State) (w : Watch) (from : ℕ) (events : List Fields) : Type 0 where
  pub rest : List Fields
  pub these : events_between w s.changes from (length s.changes) ≡ events ++ rest

-- the token names a place not before the opening place, and the events are just the view from there up to it
-- (change streams: a stream that resumes with a token goes on with the change behind it)
pub record Reached (s : State) (w : Watch) (from : ℕ) (events : List Fields) (token : Tree) : Type 0 where
  pub place : ℕ
  pub forward : from ≤ place
  pub named : s.tokens token ≡ Some place
  pub these : events ≡ events_between w s.changes from place
