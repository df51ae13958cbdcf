-- An order of all documents by keys. Where two documents have an order (`order_by`), it is that.
use Rattle.std.specs.Prelude.{ℕ, ℤ, pos, List, [], ◌∷◌, Option, Some}
use Rattle.std.specs.Cmp.Lexicographic.{slice_cmp}
use Rattle.std.specs.Ordering.{int_cmp, nat_cmp, ordering_then}
use Rattle.std.specs.declared.cmp.Ordering.{Ordering}
use Rattle.std.specs.declared.cmp.Ordering.TheVariants.{Equal}
use Rattle.mg_bson.specs.Tree.{Tree, string, object_id, date_time, int32, int64, Fields}
use Rattle.mg_bson.specs.Find.{get}
use Rattle.mg_server.specs.Query.{Key, turned}

-- the number of a kind that has an order; 0 for the other kinds, and for no value
abbrev pub kind : Option Tree → ℕ
kind (Some (int32 n)) = 1
kind (Some (int64 n)) = 2
kind (Some (date_time n)) = 3
kind (Some (string s)) = 4
kind (Some (object_id bs)) = 5
kind t = 0

-- the number that a value is
abbrev pub number : Option Tree → ℤ
number (Some (int32 n)) = n
number (Some (int64 n)) = n
number (Some (date_time n)) = n
number t = pos 0

-- the bytes that a value is
abbrev pub letters : Option Tree → List ℕ
letters (Some (string s)) = s
letters (Some (object_id bs)) = bs
letters t = []

-- first by kind, and then as values of the kind
abbrev pub compare_values : Option Tree → Option Tree → Ordering
compare_values t u = ordering_then (ordering_then (nat_cmp (kind t) (kind u)) (int_cmp (number t) (number u))) (slice_cmp nat_cmp (letters t) (letters u))

abbrev pub compare_at : Key → Fields → Fields → Ordering
compare_at k d e = turned k.rising (compare_values (get k.name d) (get k.name e))

-- by the first key, and where that tells nothing apart by the others
abbrev pub compare_by : List Key → Fields → Fields → Ordering
compare_by [] d e = Equal
compare_by (k ∷ ks) d e = ordering_then (compare_at k d e) (compare_by ks d e)
