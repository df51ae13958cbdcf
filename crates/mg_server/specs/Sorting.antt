-- What sorting does to documents.
use Rattle.std.specs.Prelude.{◌≡◌, ◌⊎◌, ◌<◌, ℕ, Bool, true, Some, List, slice_get}
use Rattle.std.specs.List.{filter}
use Rattle.std.specs.List.Sorted.{IsPermutation}
use Rattle.std.specs.Ordering.{is_eq, is_some_and}
use Rattle.std.specs.declared.cmp.Ordering.TheVariants.{Less, Equal}
use Rattle.mg_bson.specs.Tree.{Fields}
use Rattle.mg_server.specs.Query.{Key, can_sort, order_by}

-- by the keys the first document comes before the second, or the two are equal
abbrev pub IsUpTo : List Key → Fields → Fields → Type 0
IsUpTo keys d e = (order_by keys d e ≡ Some Less) ⊎ (order_by keys d e ≡ Some Equal)

abbrev pub are_equal : List Key → Fields → Fields → Bool
are_equal keys d e = is_some_and is_eq (order_by keys d e)

-- the documents, and the same in the order of the keys
pub record SortsTo (keys : List Key) (ds sorted : List Fields) : Type 0 where
  -- none is lost, and none is new
  pub same : IsPermutation ds sorted
  -- where they can be sorted, of any two the one that stands first also comes first by the keys, or the two are equal
  pub ascends : can_sort keys ds ≡ true → (i j : ℕ) (d e : Fields) → i < j → slice_get sorted i ≡ Some d → slice_get sorted j ≡ Some e → IsUpTo keys d e
  -- of those that are equal to some document each stands where it stood among them
  pub stable : (d : Fields) → filter (are_equal keys d) sorted ≡ filter (are_equal keys d) ds
