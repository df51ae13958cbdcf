-- The chunks of bytes in parts, and what the writes of an upload make of a file.
use Rattle.std.proofs.Common.{◌≡◌, ◌<◌, ◌≤◌, ℕ, zero, suc, ◌+◌, ◌*◌, ℤ, pos, ◌<ℤ◌, Bool, true, false, List, [], ◌∷◌, ◌++◌, length, take, drop, Option, Some, None, refl, sym, ap, ap₂, ◌∙◌, subst, inl, inr, arith, append_assoc, append-nil, length-append, length-drop}
use Rattle.std.specs.Prelude.{◌&&◌, ◌==◌, codes, if◌then◌else◌, not, option_and_then, option_map, unwrap_or}
use Rattle.std.specs.List.{filter}
use Rattle.std.specs.Ordering.{int_cmp, is_lt, ordering_then}
use Rattle.std.specs.declared.cmp.Ordering.{Ordering}
use Rattle.std.specs.declared.cmp.Ordering.TheVariants.{Less, Equal, Greater}
use Rattle.std.proofs.lemmas.Bool.{cases_Bool, eq-eqb, ne_eqb}
use Rattle.std.proofs.lemmas.Cmp.{int_ranked}
use Rattle.std.proofs.lemmas.Int.{ints}
use Rattle.std.proofs.lemmas.List.{length-take-le, take-append-drop}
use Rattle.std.proofs.lemmas.List.Elements.{filter-append}
use Rattle.mg_bson.specs.Find.{as_int32, get}
use Rattle.mg_bson.specs.Tree.{Fields, Tree, int32}
use Rattle.mg_server.specs.Commands.{Asked, Told, asked, asks_delete, asks_insert, deleted, inserted}
use Rattle.mg_link.specs.Chunks.{chunked, chunks_behind, last_chunk}
use Rattle.mg_link.specs.Numbers.{number_at}
use Rattle.mg_server.specs.Files.{AreChunks, Bucket, File, Spares, by_number, chunks_space, file_of, files_space, has_value, with_value}
use Rattle.mg_server.specs.Filing.{part, whole_with}
use Rattle.mg_server.specs.Filter.{Condition, matches, meets}
use Rattle.mg_server.specs.History.{Step, step_after, told_at}
use Rattle.mg_link.specs.Namespace.{Space}
use Rattle.mg_server.specs.Query.{comes_first, order_by, order_of, sorted, sorted_in, turned}
use Rattle.mg_server.specs.State.{State, is_space}
use Rattle.mg_server.specs.Step.{Made, May, documents_of, effect, grown, written}
use Rattle.mg_server.specs.Write.{after_delete}
use Rattle.mg_server.proofs.Collections.{documents_here, is_space_self, same_space}
use Rattle.mg_server.proofs.Files.{changed_documents, documents_under, spared_stay, with_no}

-- ---- bytes in parts

-- a chunk that has begun is filled
filled : (size : ℕ) (begun bs rest : List ℕ) → length begun + length bs ≡ size → 0 < length bs → chunks_behind size begun (bs ++ rest) ≡ (begun ++ bs) ∷ chunks_behind size [] rest
unfolding chunks_behind
filled size begun [] rest e lt = absurd (omega arith)
filled size begun (b ∷ []) rest e lt =
    let full : (length begun + 1 == size) ≡ true = eq-eqb (length begun + 1) size (omega arith) in
    ap (λ (t : Bool). if t then (begun ++ b ∷ []) ∷ chunks_behind size [] rest else chunks_behind size (begun ++ b ∷ []) rest) full
filled size begun (b ∷ c ∷ bs) rest e lt =
    let short : (length begun + 1 == size) ≡ false = ne_eqb (length begun + 1) size (λ q. omega arith) in
    ap (λ (t : Bool). if t then (begun ++ b ∷ []) ∷ chunks_behind size [] (c ∷ bs ++ rest) else chunks_behind size (begun ++ b ∷ []) (c ∷ bs ++ rest)) short
    ∙ filled size (begun ++ b ∷ []) (c ∷ bs) rest (omega (arith, length-append begun (b ∷ []))) (omega arith)
    ∙ ap (λ (l : List ℕ). l ∷ chunks_behind size [] rest) (append_assoc begun (b ∷ []) (c ∷ bs))

less_than_one : (size : ℕ) (begun bs : List ℕ) → length begun + length bs < size → chunks_behind size begun bs ≡ last_chunk (begun ++ bs)
unfolding chunks_behind
less_than_one size begun [] lt = ap last_chunk (sym (append-nil begun))
less_than_one size begun (b ∷ bs) lt =
    let short : (length begun + 1 == size) ≡ false = ne_eqb (length begun + 1) size (λ q. omega arith) in
    ap (λ (t : Bool). if t then (begun ++ b ∷ []) ∷ chunks_behind size [] bs else chunks_behind size (begun ++ b ∷ []) bs) short
    ∙ less_than_one size (begun ++ b ∷ []) bs (omega (arith, length-append begun (b ∷ [])))
    ∙ ap last_chunk (append_assoc begun (b ∷ []) bs)

pub chunked_none : (size : ℕ) → chunked size [] ≡ []
unfolding chunks_behind
chunked_none size = refl

-- the first chunk is full
pub chunked_full : (size : ℕ) (a rest : List ℕ) → 0 < size → length a ≡ size → chunked size (a ++ rest) ≡ a ∷ chunked size rest
chunked_full size a rest lt e = filled size [] a rest (omega arith) (omega arith)

-- less than a chunk is the last one
pub chunked_short : (size : ℕ) (a : List ℕ) → length a < size → chunked size a ≡ last_chunk a
chunked_short size a lt = less_than_one size [] a (omega arith)

-- full chunks are cut off by themselves
pub chunked-append : (n size : ℕ) (a b : List ℕ) → 0 < size → length a ≡ n * size → chunked size (a ++ b) ≡ chunked size a ++ chunked size b
chunked-append zero size [] b lt e = ap (λ (l : List (List ℕ)). l ++ chunked size b) (sym (chunked_none size))
chunked-append zero size (x ∷ a) b lt e = absurd (omega arith)
chunked-append (suc n) size a b lt e =
    let more : suc n * size ≡ size + n * size = omega arith in
    let long : size ≤ length a = omega (arith, e, more) in
    let first = take size a in
    let rest = drop size a in
    let whole : first ++ rest ≡ a = take-append-drop size a in
    let full : length first ≡ size = length-take-le size a long in
    let left : length rest ≡ n * size = omega (arith, length-drop size a, more) in
    ap (λ (l : List ℕ). chunked size (l ++ b)) (sym whole)
    ∙ ap (λ (l : List ℕ). chunked size l) (append_assoc first rest b)
    ∙ chunked_full size first (rest ++ b) lt full
    ∙ ap (λ (l : List (List ℕ)). first ∷ l) (chunked-append n size rest b lt left)
    ∙ ap (λ (l : List (List ℕ)). l ++ chunked size b) (sym (chunked_full size first rest lt full))
    ∙ ap (λ (l : List ℕ). chunked size l ++ chunked size b) whole

-- and are as many
pub length-chunked : (n size : ℕ) (a : List ℕ) → 0 < size → length a ≡ n * size → length (chunked size a) ≡ n
length-chunked zero size [] lt e = ap length (chunked_none size)
length-chunked zero size (x ∷ a) lt e = absurd (omega arith)
length-chunked (suc n) size a lt e =
    let more : suc n * size ≡ size + n * size = omega arith in
    let long : size ≤ length a = omega (arith, e, more) in
    let first = take size a in
    let rest = drop size a in
    let left : length rest ≡ n * size = omega (arith, length-drop size a, more) in
    ap (λ (l : List ℕ). length (chunked size l)) (sym (take-append-drop size a))
    ∙ ap length (chunked_full size first rest lt (length-take-le size a long))
    ∙ ap suc (length-chunked n size rest lt left)

-- ---- their documents

pub are_append : (n : ℕ) (cs cs' : List (List ℕ)) (ds ds' : List Fields) → AreChunks n cs ds → AreChunks (n + length cs) cs' ds' → AreChunks n (cs ++ cs') (ds ++ ds')
are_append n [] cs' [] ds' p q = let e : n + 0 ≡ n = omega arith in subst (λ (m : ℕ). AreChunks m cs' ds') e q
are_append n [] cs' (d ∷ ds) ds' p q = absurd p
are_append n (c ∷ cs) cs' [] ds' p q = absurd p
are_append n (c ∷ cs) cs' (d ∷ ds) ds' p q =
    let e : n + suc (length cs) ≡ suc n + length cs = omega arith in
    (p.0, are_append (suc n) cs cs' ds ds' p.1 (subst (λ (m : ℕ). AreChunks m cs' ds') e q))

-- each document has a number below this one
abbrev pub AreBelow : ℕ → List Fields → Type 0
AreBelow k [] = Unit {0}
AreBelow k (d ∷ ds) = ((n : ℕ) × (number_at (codes "n") d ≡ Some (pos n)) × (n < k)) × AreBelow k ds

pub chunks_below : (n k : ℕ) (cs : List (List ℕ)) (ds : List Fields) → AreChunks n cs ds → n + length cs ≤ k → AreBelow k ds
chunks_below n k [] [] are le = tt
chunks_below n k [] (d ∷ ds) are le = absurd are
chunks_below n k (c ∷ cs) [] are le = absurd are
chunks_below n k (c ∷ cs) (d ∷ ds) are le = ((n, are.0.number_is, omega arith), chunks_below (suc n) k cs ds are.1 (omega arith))

-- ---- in the order of their numbers

number_is : (o : Option Tree) (z : ℤ) → option_and_then as_int32 o ≡ Some z → o ≡ Some (int32 z)
number_is None z h = absurd cc
number_is (Some (int32 y)) z h = let same : y ≡ z = cc in ap (λ (x : ℤ). Some (int32 x)) same
number_is (Some t) z h = absurd cc

not_less : (m n : ℕ) → n < m → (r : Ordering) → r ≡ int_cmp (pos m) (pos n) → is_lt (ordering_then r Equal) ≡ false
not_less m n lt Less e = let less : pos m <ℤ pos n = int_ranked (pos m) (pos n) Less e in absurd (omega (arith, ints))
not_less m n lt Equal e = refl
not_less m n lt Greater e = refl

-- a document with a higher number does not come first
behind_it : (e x : Fields) (m n : ℕ) → number_at (codes "n") e ≡ Some (pos m) → number_at (codes "n") x ≡ Some (pos n) → n < m → comes_first (order_by by_number e x) ≡ false
behind_it e x m n higher lower lt =
    ap₂ (λ (o p : Option Tree). comes_first (option_and_then (λ (r : Ordering). option_map (ordering_then r) (Some Equal)) (option_map (turned true) (option_and_then (λ (t : Tree). option_and_then (order_of t) p) o))))
    (number_is (get (codes "n") e) (pos m) higher) (number_is (get (codes "n") x) (pos n) lower)
    ∙ not_less m n lt (int_cmp (pos m) (pos n)) refl

-- one with a lower number goes in front of chunks
front_of : (x : Fields) (n k : ℕ) (cs : List (List ℕ)) (ds : List Fields) → number_at (codes "n") x ≡ Some (pos n) → n < k → AreChunks k cs ds → sorted_in by_number x ds ≡ x ∷ ds
front_of x n k [] [] number lt are = refl
front_of x n k [] (d ∷ ds) number lt are = absurd are
front_of x n k (c ∷ cs) [] number lt are = absurd are
front_of x n k (c ∷ cs) (d ∷ ds) number lt are =
    ap (λ (t : Bool). if t then d ∷ sorted_in by_number x ds else x ∷ d ∷ ds) (behind_it d x k n are.0.number_is number lt)

pub sorted_chunks : (k : ℕ) (cs : List (List ℕ)) (ds : List Fields) → AreChunks k cs ds → sorted by_number ds ≡ ds
sorted_chunks k [] [] are = refl
sorted_chunks k [] (d ∷ ds) are = absurd are
sorted_chunks k (c ∷ cs) [] are = absurd are
sorted_chunks k (c ∷ cs) (d ∷ ds) are = ap (sorted_in by_number d) (sorted_chunks (suc k) cs ds are.1) ∙ front_of d k (suc k) cs ds are.0.number_is (omega arith) are.1

in_front : (x : Fields) (n k : ℕ) (es : List Fields) (cs : List (List ℕ)) (ds : List Fields) → number_at (codes "n") x ≡ Some (pos n) → n < k → AreChunks k cs ds → sorted_in by_number x (es ++ ds) ≡ sorted_in by_number x es ++ ds
in_front x n k [] cs ds number lt are = front_of x n k cs ds number lt are
in_front x n k (e ∷ es) cs ds number lt are =
    elim (comes_first (order_by by_number e x)) as (λ t. (if t then e ∷ sorted_in by_number x (es ++ ds) else x ∷ e ∷ es ++ ds) ≡ (if t then e ∷ sorted_in by_number x es else x ∷ e ∷ es) ++ ds) [
      | true ↦ ap (λ (l : List Fields). e ∷ l) (in_front x n k es cs ds number lt are)
      | false ↦ refl
    ]

-- chunks with higher numbers stay behind
pub sorted_behind : (k : ℕ) (xs : List Fields) (cs : List (List ℕ)) (ds : List Fields) → AreBelow k xs → AreChunks k cs ds → sorted by_number (xs ++ ds) ≡ sorted by_number xs ++ ds
sorted_behind k [] cs ds below are = sorted_chunks k cs ds are
sorted_behind k (x ∷ xs) cs ds below are =
    ap (sorted_in by_number x) (sorted_behind k xs cs ds below.1 are)
    ∙ in_front x below.0.0 k (sorted by_number xs) cs ds below.0.1 below.0.2 are

below_in : (k : ℕ) (x : Fields) (es : List Fields) → AreBelow k (sorted_in by_number x es) → AreBelow k (x ∷ es)
below_in k x [] below = below
below_in k x (e ∷ es) below =
    (elim (comes_first (order_by by_number e x)) as (λ t. AreBelow k (if t then e ∷ sorted_in by_number x es else x ∷ e ∷ es) → AreBelow k (x ∷ e ∷ es)) [
      | true ↦ λ h. let rest = below_in k x es h.1 in (rest.0, (h.0, rest.1))
      | false ↦ λ h. h
    ]) below

-- what holds of documents in their order holds of them
pub below_sorted : (k : ℕ) (xs : List Fields) → AreBelow k (sorted by_number xs) → AreBelow k xs
below_sorted k [] below = tt
below_sorted k (x ∷ xs) below = let h = below_in k x (sorted by_number xs) below in (h.0, below_sorted k xs h.1)

-- ---- documents that were written and removed

written_all : (ordered : Bool) (n : ℕ) (ds : List Fields) → written ordered [] n ds ≡ ds
written_all ordered n [] = refl
written_all ordered n (d ∷ ds) = ap (λ (l : List Fields). d ∷ l) (written_all ordered (suc n) ds)

inserted_here : (s : State) (space : Space) (ds : List Fields) (ordered : Bool) (n : ℤ) (made : Made) → documents_of (effect (grown s made) (asks_insert space ds ordered) (inserted n [])) space ≡ documents_of s space ++ ds
unfolding effect grown
inserted_here s space ds ordered n made =
    ap (λ (o : Option (List Fields)). unwrap_or o []) (documents_here (grown s made) space (documents_of s space ++ written ordered [] 0 ds))
    ∙ ap (λ (l : List Fields). documents_of s space ++ l) (written_all ordered 0 ds)

deleted_here : (s : State) (space : Space) (conditions : List Condition) (many : Bool) (n : ℤ) (made : Made) → documents_of (effect (grown s made) (asks_delete space conditions many) (deleted n [])) space ≡ after_delete conditions many (documents_of s space)
unfolding effect grown
deleted_here s space conditions many n made =
    changed_documents space (after_delete conditions many) s.collections space refl
    ∙ ap (λ (t : Bool). if t then after_delete conditions many (documents_under s.collections space) else documents_under s.collections space) (is_space_self space)

deleted_elsewhere : (s : State) (space other : Space) (conditions : List Condition) (many : Bool) (n : ℤ) (made : Made) → is_space other space ≡ false → documents_of (effect (grown s made) (asks_delete space conditions many) (deleted n [])) other ≡ documents_of s other
unfolding effect grown
deleted_elsewhere s space other conditions many n made apart_from =
    changed_documents space (after_delete conditions many) s.collections other refl
    ∙ ap (λ (t : Bool). if t then after_delete conditions many (documents_under s.collections other) else documents_under s.collections other) apart_from

none_left : (c : Condition) (ds : List Fields) → filter (meets c) (after_delete (c ∷ []) true ds) ≡ []
none_left c [] = refl
none_left c (d ∷ ds) =
    elim (cases_Bool (meets c d)) [
      | inl its ↦ ap (λ (t : Bool). filter (meets c) (if t then after_delete (c ∷ []) true ds else d ∷ after_delete (c ∷ []) true ds)) (matched its) ∙ none_left c ds
      | inr other ↦
          ap (λ (t : Bool). filter (meets c) (if t then after_delete (c ∷ []) true ds else d ∷ after_delete (c ∷ []) true ds)) (unmatched other)
          ∙ with_no c d (after_delete (c ∷ []) true ds) other ∙ none_left c ds
    ]
  where
    matched : meets c d ≡ true → matches (c ∷ []) d ≡ true
    matched is = ap (λ (t : Bool). t && true) is

    unmatched : meets c d ≡ false → matches (c ∷ []) d ≡ false
    unmatched is = ap (λ (t : Bool). t && true) is

-- the others stay
others_stay : (c : Condition) (ds : List Fields) → filter (λ d. not (meets c d)) (after_delete (c ∷ []) true ds) ≡ filter (λ d. not (meets c d)) ds
others_stay c [] = refl
others_stay c (d ∷ ds) =
    elim (cases_Bool (meets c d)) [
      | inl its ↦
          ap (λ (t : Bool). filter (λ e. not (meets c e)) (if t then after_delete (c ∷ []) true ds else d ∷ after_delete (c ∷ []) true ds)) (ap (λ (t : Bool). t && true) its)
          ∙ others_stay c ds
          ∙ sym (ap (λ (t : Bool). if not t then d ∷ filter (λ e. not (meets c e)) ds else filter (λ e. not (meets c e)) ds) its)
      | inr other ↦
          ap (λ (t : Bool). filter (λ e. not (meets c e)) (if t then after_delete (c ∷ []) true ds else d ∷ after_delete (c ∷ []) true ds)) (ap (λ (t : Bool). t && true) other)
          ∙ ap (λ (l : List Fields). if not (meets c d) then d ∷ l else l) (others_stay c ds)
    ]

-- ---- the writes of an upload

-- the collections of a bucket are two
pub apart : (b : Bucket) → is_space (files_space b) (chunks_space b) ≡ true → ⊥
apart b same =
    let e : b.name ++ codes ".files" ≡ b.name ++ codes ".chunks" = ap (λ (s : Space). s.coll) (same_space (files_space b) (chunks_space b) same) in
    omega (arith, ap length e, length-append b.name (codes ".files"), length-append b.name (codes ".chunks"))

pub apart_back : (b : Bucket) → is_space (chunks_space b) (files_space b) ≡ true → ⊥
apart_back b same =
    let e : b.name ++ codes ".chunks" ≡ b.name ++ codes ".files" = ap (λ (s : Space). s.coll) (same_space (chunks_space b) (files_space b) same) in
    omega (arith, ap length e, length-append b.name (codes ".files"), length-append b.name (codes ".chunks"))

module _ (s : State) (step : Step) (b : Bucket) (id : Tree) (may : May s (asked step.command) (told_at step) step.made) where
  -- the documents behind the step are those behind what it asks and tells
  told_so : (a : Asked) (r : Told) (space : Space) → asked step.command ≡ a → told_at step ≡ r → documents_of (step_after s step) space ≡ documents_of (effect (grown s step.made) a r) space
  told_so a r space asks tells = ap₂ (λ (x : Asked) (y : Told). documents_of (effect (grown s step.made) x y) space) asks tells

  records_stay : (ds : List Fields) (ordered : Bool) → asked step.command ≡ asks_insert (chunks_space b) ds ordered
      → with_value (codes "_id") id (documents_of (step_after s step) (files_space b)) ≡ with_value (codes "_id") id (documents_of s (files_space b))
  records_stay ds ordered asks =
      spared_stay s step (files_space b) (has_value (codes "_id") id) may (subst (λ (a : Asked). Spares a (files_space b) (has_value (codes "_id") id)) (sym asks) (λ same. absurd (apart b same)))

  -- Chunks were inserted behind those that were there.
  pub file_inserted : (ds : List Fields) (ordered : Bool) (n : ℤ) (cs cs' : List (List ℕ)) (chunks : List Fields) → asked step.command ≡ asks_insert (chunks_space b) ds ordered → told_at step ≡ inserted n [] → AreChunks 0 cs chunks → AreChunks (length cs) cs' ds
      → with_value (codes "files_id") id ds ≡ ds → file_of s b id ≡ part chunks → file_of (step_after s step) b id ≡ part (chunks ++ ds)
  unfolding file_of
  file_inserted ds ordered n cs cs' chunks asks tells are more its was =
      let records : with_value (codes "_id") id (documents_of s (files_space b)) ≡ [] = ap (λ (f : File). f.records) was in
      let old : sorted by_number (with_value (codes "files_id") id (documents_of s (chunks_space b))) ≡ chunks = ap (λ (f : File). f.chunks) was in
      let there : documents_of (step_after s step) (chunks_space b) ≡ documents_of s (chunks_space b) ++ ds
      = told_so (asks_insert (chunks_space b) ds ordered) (inserted n []) (chunks_space b) asks tells ∙ inserted_here s (chunks_space b) ds ordered n step.made in
      let both : with_value (codes "files_id") id (documents_of (step_after s step) (chunks_space b)) ≡ with_value (codes "files_id") id (documents_of s (chunks_space b)) ++ ds
      = ap (with_value (codes "files_id") id) there ∙ filter-append (meets (has_value (codes "files_id") id)) (documents_of s (chunks_space b)) ds ∙ ap (λ (l : List Fields). with_value (codes "files_id") id (documents_of s (chunks_space b)) ++ l) its in
      let below : AreBelow (length cs) (with_value (codes "files_id") id (documents_of s (chunks_space b)))
      = below_sorted (length cs) (with_value (codes "files_id") id (documents_of s (chunks_space b))) (subst (AreBelow (length cs)) (sym old) (chunks_below 0 (length cs) cs chunks are (omega arith))) in
      let new : sorted by_number (with_value (codes "files_id") id (documents_of (step_after s step) (chunks_space b))) ≡ chunks ++ ds
      = ap (sorted by_number) both ∙ sorted_behind (length cs) (with_value (codes "files_id") id (documents_of s (chunks_space b))) cs' ds below more ∙ ap (λ (l : List Fields). l ++ ds) old in
      ap₂ (λ (rs ks : List Fields). record { records = rs; chunks = ks }) (records_stay ds ordered asks ∙ records) new

  -- The record was inserted.
  pub file_recorded : (r : Fields) (ordered : Bool) (n : ℤ) (chunks : List Fields) → asked step.command ≡ asks_insert (files_space b) (r ∷ []) ordered → told_at step ≡ inserted n [] → meets (has_value (codes "_id") id) r ≡ true → file_of s b id ≡ part chunks
      → file_of (step_after s step) b id ≡ whole_with r chunks
  unfolding file_of
  file_recorded r ordered n chunks asks tells its was =
      let records : with_value (codes "_id") id (documents_of s (files_space b)) ≡ [] = ap (λ (f : File). f.records) was in
      let old : sorted by_number (with_value (codes "files_id") id (documents_of s (chunks_space b))) ≡ chunks = ap (λ (f : File). f.chunks) was in
      let there : documents_of (step_after s step) (files_space b) ≡ documents_of s (files_space b) ++ r ∷ []
      = told_so (asks_insert (files_space b) (r ∷ []) ordered) (inserted n []) (files_space b) asks tells ∙ inserted_here s (files_space b) (r ∷ []) ordered n step.made in
      let new : with_value (codes "_id") id (documents_of (step_after s step) (files_space b)) ≡ r ∷ []
      = ap (with_value (codes "_id") id) there ∙ filter-append (meets (has_value (codes "_id") id)) (documents_of s (files_space b)) (r ∷ [])
      ∙ ap₂ (λ (l : List Fields) (t : Bool). l ++ (if t then r ∷ [] else [])) records its in
      let stay : with_value (codes "files_id") id (documents_of (step_after s step) (chunks_space b)) ≡ with_value (codes "files_id") id (documents_of s (chunks_space b))
      = spared_stay s step (chunks_space b) (has_value (codes "files_id") id) may (subst (λ (a : Asked). Spares a (chunks_space b) (has_value (codes "files_id") id)) (sym asks) (λ same. absurd (apart_back b same))) in
      ap₂ (λ (rs ks : List Fields). record { records = rs; chunks = ks }) new (ap (sorted by_number) stay ∙ old)

  -- All chunks were removed.
  pub file_deleted : (n : ℤ) → asked step.command ≡ asks_delete (chunks_space b) (has_value (codes "files_id") id ∷ []) true → told_at step ≡ deleted n [] → (file_of (step_after s step) b id).chunks ≡ []
  unfolding file_of
  file_deleted n asks tells =
      let there = told_so (asks_delete (chunks_space b) (has_value (codes "files_id") id ∷ []) true) (deleted n []) (chunks_space b) asks tells ∙ deleted_here s (chunks_space b) (has_value (codes "files_id") id ∷ []) true n step.made in
      ap (λ (l : List Fields). sorted by_number (with_value (codes "files_id") id l)) there
      ∙ ap (sorted by_number) (none_left (has_value (codes "files_id") id) (documents_of s (chunks_space b)))

  -- A removal takes those that meet its condition, and no others.
  pub removal_takes : (space : Space) (c : Condition) (n : ℤ) → asked step.command ≡ asks_delete space (c ∷ []) true → told_at step ≡ deleted n [] → filter (meets c) (documents_of (step_after s step) space) ≡ []
  removal_takes space c n asks tells =
      ap (filter (meets c)) (told_so (asks_delete space (c ∷ []) true) (deleted n []) space asks tells ∙ deleted_here s space (c ∷ []) true n step.made) ∙ none_left c (documents_of s space)

  pub removal_leaves : (space : Space) (c : Condition) (n : ℤ) → asked step.command ≡ asks_delete space (c ∷ []) true → told_at step ≡ deleted n [] → filter (λ d. not (meets c d)) (documents_of (step_after s step) space) ≡ filter (λ d. not (meets c d)) (documents_of s space)
  removal_leaves space c n asks tells =
      ap (filter (λ d. not (meets c d))) (told_so (asks_delete space (c ∷ []) true) (deleted n []) space asks tells ∙ deleted_here s space (c ∷ []) true n step.made) ∙ others_stay c (documents_of s space)

  pub removal_elsewhere : (space other : Space) (c : Condition) (n : ℤ) → asked step.command ≡ asks_delete space (c ∷ []) true → told_at step ≡ deleted n [] → is_space other space ≡ false → documents_of (step_after s step) other ≡ documents_of s other
  removal_elsewhere space other c n asks tells apart_from = told_so (asks_delete space (c ∷ []) true) (deleted n []) other asks tells ∙ deleted_elsewhere s space other (c ∷ []) true n step.made apart_from
