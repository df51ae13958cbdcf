-- Where the batches of a watch end, by the store's rules.
use Rattle.std.specs.Prelude.{◌≡◌, ◌⊎◌, ◌+◌, ◌<◌, ◌≤◌, ℕ, suc, true, Some, List, [], ◌∷◌, length, slice_get}
use Rattle.mg_bson.specs.Bytes.{bytes}
use Rattle.mg_bson.specs.Tree.{Fields}
use Rattle.mg_server.specs.State.{Entry, Watch, events_between, is_invalidate, sees}
use Rattle.mg_server.specs.Rules.{bytes_of, batch_events, max_batch}

-- a batch from one place to another ends right behind this entry, which the watch is to see
pub record EndsBehind (w : Watch) (changes : List Entry) (from place : ℕ) (e : Entry) : Type 0 where
  pub before : ℕ
  pub begins : from ≤ before
  pub place_is : place ≡ suc before
  pub entry_is : slice_get changes before ≡ Some e
  pub seen : sees w e ≡ true

-- with the next event that the watch is to see, a batch would have too many bytes
pub record NextIsTooLarge (w : Watch) (changes : List Entry) (from place : ℕ) : Type 0 where
  pub next : Fields
  pub rest : List Fields
  pub left : events_between w changes place (length changes) ≡ next ∷ rest
  pub large : max_batch < bytes_of (batch_events w changes from place) + length (bytes next)

-- a batch of a watch up to this place: as many events as its size and its bytes allow, and one where one is left and its size is not 0
pub record IsFullBatch (w : Watch) (changes : List Entry) (from size place : ℕ) : Type 0 where
  pub within : (from ≤ place) × (place ≤ length changes)
  pub count : length (batch_events w changes from place) ≤ size
  pub fits : (bytes_of (batch_events w changes from place) ≤ max_batch) ⊎ (length (batch_events w changes from place) ≡ 1)
  pub some : 0 < size → batch_events w changes from place ≡ [] → events_between w changes from (length changes) ≡ []
  pub none : size ≡ 0 → place ≡ from
  -- before the end of the list it ends right behind an entry that it gives
  pub behind : 0 < size → place < length changes → (e : Entry) × EndsBehind w changes from place e
  -- and there it has as many as its size, or the next would be too many bytes, or its last one ends the watch
  pub full : place < length changes → length (batch_events w changes from place) < size
      → NextIsTooLarge w changes from place ⊎ ((e : Entry) × EndsBehind w changes from place e × (is_invalidate e.change ≡ true))
