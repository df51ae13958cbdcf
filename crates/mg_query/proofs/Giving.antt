-- The documents of a batch, taken one after another.
use Rattle.std.proofs.Common.{◌≡◌, ℕ, zero, suc, ◌+◌, ◌-◌, ◌<◌, ◌≤◌, Bool, true, false, List, [], ◌∷◌, length, take, drop, map, get_or, refl, sym, ap, ap₂, ◌∙◌, arith}
use Rattle.std.specs.Prelude.{if◌then◌else◌, ◌&&◌, nat_lt}
use Rattle.std.proofs.lemmas.Bool.{lt-ltb}
use Rattle.std.proofs.lemmas.List.{drop-map, drop_all, drop_more, length-map}
use Rattle.mg_bson.specs.Tree.{document, Fields, Items}
use Rattle.mg_bson.specs.Bytes.{bytes}
use Rattle.mg_bson.specs.Raw.{fields}
use Rattle.mg_bson.specs.Find.{with_item, items_joined}
use Rattle.mg_bson.proofs.Joining.{items_joined_more, items_joined_all}
use Rattle.mg_server.specs.Rules.{batch_of_query, documents_of_items, held_in}
use Rattle.mg_query.specs.Querying.{GivesDocuments, is_none}

-- how many of the rest a batch holds that may have so many more
abbrev held_now : (size room left : ℕ) → List Fields → ℕ
held_now size room left rest = held_in left room (nat_lt left size) rest

-- the batch so far, and what is left of it
pub record Going (ds rest : List Fields) (size : ℕ) (given : Items) (room left : ℕ) : Type 0 where
  pub within : left ≤ size
  pub count_is : (size - left) + held_now size room left rest ≡ batch_of_query size ds
  pub documents_are : items_joined given (documents_of_items (take (held_now size room left rest) rest)) ≡ documents_of_items (take (batch_of_query size ds) ds)
  pub rest_is : drop (held_now size room left rest) rest ≡ drop (batch_of_query size ds) ds

-- ---- a document more

held-more : (left k room : ℕ) (g : Bool) (d : Fields) (ds : List Fields) → left ≡ suc k → (g && nat_lt room (length (bytes d))) ≡ false → held_in left room g (d ∷ ds) ≡ suc (held_in k (room - length (bytes d)) true ds)
held-more zero k room g d ds e fits = absurd (omega arith)
held-more (suc l) k room g d ds e fits =
    let same : l ≡ k = omega arith in
    ap (λ (b : Bool). if b then 0 else suc (held_in l (room - length (bytes d)) true ds)) fits ∙ ap (λ (n : ℕ). suc (held_in n (room - length (bytes d)) true ds)) same

pub going_more : (ds rest : List Fields) (size : ℕ) (given after : Items) (room left room' left' : ℕ) (d : Fields) (more : List Fields) → rest ≡ d ∷ more → left ≡ suc left' → (nat_lt left size && nat_lt room (length (bytes d))) ≡ false
    → after ≡ with_item given (document d) → room' ≡ room - length (bytes d) → Going ds rest size given room left → Going ds more size after room' left'
going_more ds rest size given after room left room' left' d more here some fits is room_is h =
    let within = h.within in
    let less : nat_lt left' size ≡ true = lt-ltb left' size (omega arith) in
    let now : held_in left' (room - length (bytes d)) true more ≡ held_now size room' left' more = ap₂ (λ (r : ℕ) (b : Bool). held_in left' r b more) (sym room_is) (sym less) in
    let held : held_now size room left rest ≡ suc (held_now size room' left' more) =
    ap (held_in left room (nat_lt left size)) here ∙ held-more left left' room (nat_lt left size) d more some fits ∙ ap suc now in
    let n : ℕ = held_now size room' left' more in
    record {
      within = omega arith;
      count_is = let e : (size - left') + n ≡ (size - left) + held_now size room left rest = omega (arith, held) in e ∙ h.count_is;
      documents_are = ap (λ (a : Items). items_joined a (documents_of_items (take n more))) is ∙ items_joined_more given (document d) (documents_of_items (take n more))
          ∙ sym (ap₂ (λ (k : ℕ) (l : List Fields). items_joined given (documents_of_items (take k l))) held here) ∙ h.documents_are;
      rest_is = sym (ap₂ (λ (k : ℕ) (l : List Fields). drop k l) held here) ∙ h.rest_is;
    }

-- ---- the end of a batch

stops : (ds rest : List Fields) (size : ℕ) (given : Items) (room left count : ℕ) (last : Bool) → held_now size room left rest ≡ 0 → count ≡ size - left → last ≡ is_none rest → Going ds rest size given room left
    → GivesDocuments ds size (record { documents = given; count = count; is_last = last })
stops ds rest size given room left count last none counts ends h = record {
  documents_are = sym (items_joined_all given) ∙ sym (ap (λ (n : ℕ). items_joined given (documents_of_items (take n rest))) none) ∙ h.documents_are;
  count_is = let e : count ≡ (size - left) + held_now size room left rest = omega (arith, none, counts) in e ∙ h.count_is;
  end_is = ends ∙ ap is_none (sym (ap (λ (n : ℕ). drop n rest) none) ∙ h.rest_is);
}

held-zero : (left room : ℕ) (g : Bool) (rest : List Fields) → left ≡ 0 → held_in left room g rest ≡ 0
held-zero zero room g rest e = refl
held-zero (suc l) room g rest e = absurd (omega arith)

held-none : (left room : ℕ) (g : Bool) → held_in left room g [] ≡ 0
held-none zero room g = refl
held-none (suc l) room g = refl

held-full : (left room : ℕ) (g : Bool) (d : Fields) (ds : List Fields) → (g && nat_lt room (length (bytes d))) ≡ true → held_in left room g (d ∷ ds) ≡ 0
held-full zero room g d ds full = refl
held-full (suc l) room g d ds full = ap (λ (b : Bool). if b then 0 else suc (held_in l (room - length (bytes d)) true ds)) full

-- it has as many documents as it may have
pub stops_counted : (ds rest : List Fields) (size : ℕ) (given : Items) (room left : ℕ) → is_none rest ≡ false → left ≡ 0 → Going ds rest size given room left → GivesDocuments ds size (record { documents = given; count = size; is_last = false })
stops_counted ds rest size given room left some none h = stops ds rest size given room left size false (held-zero left room (nat_lt left size) rest none) (omega arith) (sym some) h

-- the next document does not fit it
pub stops_full : (ds rest : List Fields) (size : ℕ) (given : Items) (room left count : ℕ) (d : Fields) (more : List Fields) → rest ≡ d ∷ more → (nat_lt left size && nat_lt room (length (bytes d))) ≡ true → count ≡ size - left
    → Going ds rest size given room left → GivesDocuments ds size (record { documents = given; count = count; is_last = false })
stops_full ds rest size given room left count d more here full counts h =
    stops ds rest size given room left count false (ap (held_in left room (nat_lt left size)) here ∙ held-full left room (nat_lt left size) d more full) counts (sym (ap is_none here)) h

-- no document is left
pub stops_last : (ds rest : List Fields) (size : ℕ) (given : Items) (room left count : ℕ) → rest ≡ [] → count ≡ size - left → Going ds rest size given room left → GivesDocuments ds size (record { documents = given; count = count; is_last = true })
stops_last ds rest size given room left count here counts h = stops ds rest size given room left count true (ap (held_in left room (nat_lt left size)) here ∙ held-none left room (nat_lt left size)) counts (sym (ap is_none here)) h

-- ---- the documents that are left

pub left_at : (all : List (List ℕ)) (place : ℕ) (x : List ℕ) → place < length all → x ≡ get_or all place x → drop place (map fields all) ≡ fields x ∷ drop (place + 1) (map fields all)
left_at all place x lt is =
    drop-map fields place all ∙ ap (map fields) (drop_more all place x lt ∙ ap (λ (y : List ℕ). y ∷ drop (place + 1) all) (sym is)) ∙ ap (λ (l : List Fields). fields x ∷ l) (sym (drop-map fields (place + 1) all))

pub left_none : (all : List (List ℕ)) (place : ℕ) → length all ≤ place → drop place (map fields all) ≡ []
left_none all place le = drop-map fields place all ∙ ap (map fields) (drop_all place all le)

some_behind : (ds : List Fields) (n : ℕ) → n < length ds → is_none (drop n ds) ≡ false
some_behind [] n lt = absurd (omega arith)
some_behind (d ∷ ds) zero lt = refl
some_behind (d ∷ ds) (suc n) lt = some_behind ds n (omega arith)

pub left_some : (all : List (List ℕ)) (place : ℕ) → place < length all → is_none (drop place (map fields all)) ≡ false
left_some all place lt = some_behind (map fields all) place (omega (arith, length-map all fields))
