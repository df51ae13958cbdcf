-- A cursor that a list of indexes opened holds indexes as long as it stands.
use Rattle.std.proofs.Common.{◌≡◌, ℕ, zero, suc, ℤ, List, [], ◌∷◌, ◌++◌, take, Option, Some, None, refl, sym, ap, ◌∙◌, subst}
use Rattle.std.specs.Prelude.{drop, length, map, option_and_then, option_map, slice_get, unwrap_or}
use Rattle.std.proofs.lemmas.List.{length-map}
use Rattle.mg_bson.specs.Tree.{Fields, Tree}
use Rattle.mg_link.specs.Namespace.{Space}
use Rattle.mg_server.specs.Query.{Query, id_index, index_listed, result, through}
use Rattle.mg_server.specs.State.{Collection, Cursor, Index, State, collection_in, indexes_of, query, watching}
use Rattle.mg_server.specs.Commands.{Asked, asked, asks_query}
use Rattle.mg_server.specs.Step.{moved, queried_at}
use Rattle.mg_server.specs.History.{IsLegal, Step, state_of, told_at}
use Rattle.mg_server.specs.Standing.{OpensId}
use Rattle.mg_server.proofs.Owners.{same_some}
use Rattle.mg_gridfs.specs.Cursors.{indexes_query}
use Rattle.mg_players.proofs.OpenedCursors.{Brings, stays_such}

-- ---- lists of indexes

-- each of these documents is an index
abbrev pub AreIndexes : List Fields → Type 0
AreIndexes [] = Unit {0}
AreIndexes (d ∷ ds) = ((i : Index) × (d ≡ index_listed i)) × AreIndexes ds

indexes_drop : (n : ℕ) (ds : List Fields) → AreIndexes ds → AreIndexes (drop n ds)
indexes_drop zero ds are = are
indexes_drop (suc n) [] are = are
indexes_drop (suc n) (d ∷ ds) are = indexes_drop n ds are.1

indexes_map : (is : List Index) → AreIndexes (map index_listed is)
indexes_map [] = tt
indexes_map (i ∷ is) = ((i, refl), indexes_map is)

pub indexes_front : (xs ys : List Fields) → AreIndexes (xs ++ ys) → AreIndexes xs
indexes_front [] ys are = tt
indexes_front (x ∷ xs) ys are = (are.0, indexes_front xs ys are.1)

listed_by : (o : Option Collection) (all : List Fields) → option_and_then (through []) (option_map (λ (c : Collection). map index_listed (id_index ∷ c.indexes)) o) ≡ Some all → (is : List Index) × (all ≡ map index_listed (id_index ∷ is))
listed_by None all h = absurd cc
listed_by (Some c) all h = let same : map index_listed (id_index ∷ c.indexes) ≡ all = cc in (c.indexes, sym same)

-- the result of such a list: the index of `_id` and others
pub result_listed : (s : State) (space : Space) (all : List Fields) → result s (indexes_query space) ≡ Some all → (is : List Index) × (all ≡ map index_listed (id_index ∷ is))
unfolding result
result_listed s space all h = listed_by (collection_in s.collections space) all h

pub result_indexes : (s : State) (space : Space) (all : List Fields) → result s (indexes_query space) ≡ Some all → AreIndexes all
result_indexes s space all h = let l = result_listed s space all h in subst AreIndexes (sym l.1) (indexes_map (id_index ∷ l.0))

counted_by : (o : Option Collection) (all : List Fields) → option_and_then (through []) (option_map (λ (c : Collection). map index_listed (id_index ∷ c.indexes)) o) ≡ Some all → length all ≡ suc (length (unwrap_or (option_map (λ (c : Collection). c.indexes) o) []))
counted_by None all h = absurd cc
counted_by (Some c) all h = let same : map index_listed (id_index ∷ c.indexes) ≡ all = cc in ap length (sym same) ∙ length-map (id_index ∷ c.indexes) index_listed

-- so many they are
pub result_length : (s : State) (space : Space) (all : List Fields) → result s (indexes_query space) ≡ Some all → length all ≡ suc (length (indexes_of s space))
unfolding result
result_length s space all h = counted_by (collection_in s.collections space) all h

held_by : (s : State) (space : Space) (o : Option (List Fields)) → result s (indexes_query space) ≡ o → AreIndexes (unwrap_or o [])
held_by s space None is = tt
held_by s space (Some all) is = result_indexes s space all is

abbrev pub HoldsIndexes : Cursor → Type 0
HoldsIndexes (watching w place) = ⊥
HoldsIndexes (query space left) = AreIndexes left

abbrev pub AsksToList : Asked → Type 0
AsksToList (asks_query q) = (space : Space) × (q ≡ indexes_query space)
AsksToList command = ⊥

list_held : (s : State) (q : Query) (at : Space) (given : List Fields) → AsksToList (asks_query q) → HoldsIndexes (queried_at s q at given)
list_held s q at given asks = indexes_drop (length given) (unwrap_or (result s q) []) (subst (λ (p : Query). AreIndexes (unwrap_or (result s p) [])) (sym asks.1) (held_by s asks.0 (result s (indexes_query asks.0)) refl))

index_left : (s : State) (c d : Cursor) (given : List Fields) (token : Option Tree) → moved s given token (Some c) ≡ Some d → HoldsIndexes c → HoldsIndexes d
index_left s (watching w place) d given token is holds = absurd holds
index_left s (query space behind) d given token is holds = subst HoldsIndexes (same_some (query space (drop (length given) behind)) d is) (indexes_drop (length given) behind holds)

lists_bring : Brings AsksToList HoldsIndexes
lists_bring = record { by_query = list_held; by_watch = λ s w start token none. absurd none; left = index_left }

-- a list of indexes opened the cursor
pub record OpenedList (history : List Step) (x : ℤ) : Type 0 where
  pub position : ℕ
  pub step : Step
  pub there : slice_get history position ≡ Some step
  pub asks : AsksToList (asked step.command)
  pub opens : OpensId (told_at step) x

-- wherever it stands, it holds indexes
pub stays_list : (history : List Step) (p : ℕ) (x : ℤ) (c : Cursor) → IsLegal history → OpenedList history x → (state_of (take p history)).cursors x ≡ Some c → HoldsIndexes c
stays_list history p x c legal w h = stays_such AsksToList HoldsIndexes lists_bring history p w.position w.step x c legal w.there w.asks w.opens h
