-- What a store is to its callers.
use Rattle.std.specs.Prelude.{◌≡◌, ℕ, ℤ, is_some, List, [], ◌∷◌, ◌++◌, length, map}
use Rattle.std.specs.Ordering.{int_cmp}
use Rattle.std.specs.List.Sorted.{IsStrictlySortedBy}
use Rattle.mg_server.specs.State.{State}
use Rattle.mg_server.specs.Rules.{is_id_among}
use Rattle.mg_server.specs.Kept.{Kept}
use Rattle.mg_link.specs.declared.history.HistoryStep.{HistoryStep}
use Rattle.mg_link.specs.declared.history.Receipt.{Receipt}

-- the steps that were taken, and the ids of the cursors that are open, ascending
pub record Stored : Type 0 where
  pub history : List Kept
  pub open_ids : List ℤ

-- a step as it is kept
abbrev pub kept_of : HistoryStep → Kept
kept_of step = record { command = step.command; reply = step.reply }

abbrev pub steps_of : List HistoryStep → List Kept
steps_of steps = map kept_of steps

-- one step was added: that of the receipt
pub record Performs (old new : Stored) (command : List ℕ) (receipt : Receipt) : Type 0 where
  pub position : receipt.position ≡ length old.history
  pub command_is : receipt.command ≡ command
  pub history : new.history ≡ old.history ++ record { command = command; reply = receipt.reply } ∷ []

-- the ids that have a cursor in the state, ascending
pub record AreOpen (s : State) (ids : List ℤ) : Type 0 where
  pub ascending : IsStrictlySortedBy int_cmp ids
  pub these : (id : ℤ) → is_some (s.cursors id) ≡ is_id_among id ids
