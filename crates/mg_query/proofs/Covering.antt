-- Documents of a collection that are looked up by their files.
use Rattle.std.proofs.Common.{◌≡◌, ℕ, ◌<◌, Bool, true, List, [], ◌∷◌, ◌++◌, map, Option, Some, None, option_map, Result, Ok, Err, codes, sym, ap, ap₂, ◌∙◌, inl, inr, Vec}
use Rattle.std.specs.Prelude.{◌||◌, IfOk, IfSome}
use Rattle.std.specs.declared.alloc.Global.{Global}
use Rattle.std.specs.BTreeSet.{BTreeSet, IsOrdered, contains}
use Rattle.std.specs.List.{AllByRecursion, list_any}
use Rattle.std.specs.Map.{keys_of}
use Rattle.std.specs.Ordering.{nat_cmp}
use Rattle.std.specs.Str.{bytes_eq}
use Rattle.std.proofs.lemmas.Bool.{cases_Bool}
use Rattle.std.proofs.lemmas.Slice.Eq.{bytes_eq-Decides}
use Rattle.mg_bson.specs.Tree.{Tree, Fields}
use Rattle.mg_bson.specs.Find.{get}
use Rattle.mg_bson.specs.Raw.{fields}
use Rattle.mg_server.specs.Filter.{key}
use Rattle.mg_link.specs.declared.error.OutOfMemory.{OutOfMemory}
use Rattle.mg_query.specs.Asking.{Keyed, has_key, is_key_among, matches_keys}
use Rattle.mg_query.specs.Collecting.{Covers, is_in}
use Rattle.mg_query.specs.Grouping.{IsGrouped, StandsAt, followed, paired, stands}
use Rattle.mg_query.specs.Numbering.{KeepsIds}
use Rattle.mg_query.specs.declared.collection.Collection.{Collection}
use Rattle.mg_query.specs.declared.groups.Groups.{Groups}
use Rattle.mg_query.proofs.Numbers.{Entry}
use Rattle.mg_query.proofs.Selecting.{is_among}
use Rattle.mg_query.proofs.Sets.{or_right}

abbrev Key : Type 0
Key = Vec ℕ Global

-- a number stands under one of these encodings
abbrev stands_in : Groups → List Key → ℕ → Bool
stands_in ps ks m = list_any (λ (k : Key). stands ps k.items m) ks

found_in : (ps : Groups) (k : List ℕ) (m : ℕ) (ks : List Key) → is_among k ks ≡ true → stands ps k m ≡ true → stands_in ps ks m ≡ true
found_in ps k m [] among is = absurd cc
found_in ps k m (l ∷ ks) among is =
    elim (cases_Bool (bytes_eq l.items k)) [
      | inl here ↦ ap (λ (b : Bool). b || stands_in ps ks m) (ap (λ (x : List ℕ). stands ps x m) ((bytes_eq-Decides l.items k).0 here) ∙ is)
      | inr not ↦ or_right (stands ps l.items m) (stands_in ps ks m) (found_in ps k m ks (sym (ap (λ (b : Bool). b || is_among k ks) not) ∙ among) is)
    ]

in_file : (ps : Groups) (m : ℕ) (ks : List Key) (o : Option Tree) → has_key (map (λ (k : Key). k.items) ks) o ≡ true → StandsAt ps m (option_map key o) → stands_in ps ks m ≡ true
in_file ps m ks None has at = absurd cc
in_file ps m ks (Some t) has at = found_in ps (key t) m ks has at

appended : (x : List ℕ) (n : List ℕ) (f : Key) (ns : List Key) (rest : List (List ℕ)) → f.items ≡ x → is_among n ns ≡ true → is_key_among (x ++ n) (map (λ (k : Key). f.items ++ k.items) ns ++ rest) ≡ true
appended x n f [] rest same among = absurd cc
appended x n f (l ∷ ns) rest same among =
    let more = is_key_among (x ++ n) (map (λ (k : Key). f.items ++ k.items) ns ++ rest) in
    elim (cases_Bool (bytes_eq l.items n)) [
      | inl here ↦ ap (λ (b : Bool). b || more) ((bytes_eq-Decides (f.items ++ l.items) (x ++ n)).1 (ap₂ (λ (a b : List ℕ). a ++ b) same ((bytes_eq-Decides l.items n).0 here)))
      | inr not ↦ or_right (bytes_eq (f.items ++ l.items) (x ++ n)) more (appended x n f ns rest same (sym (ap (λ (b : Bool). b || is_among n ns) not) ∙ among))
    ]

behind : (k : List ℕ) (ls rest : List (List ℕ)) → is_key_among k rest ≡ true → is_key_among k (ls ++ rest) ≡ true
behind k [] rest h = h
behind k (l ∷ ls) rest h = or_right (bytes_eq l k) (is_key_among k (ls ++ rest)) (behind k ls rest h)

among_paired : (x n : List ℕ) (fs ns : List Key) → is_among x fs ≡ true → is_among n ns ≡ true → is_key_among (x ++ n) (paired fs ns) ≡ true
among_paired x n [] ns first second = absurd cc
among_paired x n (f ∷ fs) ns first second =
    elim (cases_Bool (bytes_eq f.items x)) [
      | inl here ↦ appended x n f ns (paired fs ns) ((bytes_eq-Decides f.items x).0 here) second
      | inr not ↦ behind (x ++ n) (map (λ (k : Key). f.items ++ k.items) ns) (paired fs ns) (among_paired x n fs ns (sym (ap (λ (b : Bool). b || is_among x fs) not) ∙ first) second)
    ]

in_chunk : (ps : Groups) (m : ℕ) (fs ns ks : List Key) (o p : Option Tree) → map (λ (k : Key). k.items) ks ≡ paired fs ns → has_key (map (λ (k : Key). k.items) fs) o ≡ true → has_key (map (λ (k : Key). k.items) ns) p ≡ true → StandsAt ps m (followed (option_map key o) p) → stands_in ps ks m ≡ true
in_chunk ps m fs ns ks None p these first second at = absurd cc
in_chunk ps m fs ns ks (Some t) None these first second at = absurd cc
in_chunk ps m fs ns ks (Some t) (Some u) these first second at = found_in ps (key t ++ key u) m ks (ap (is_key_among (key t ++ key u)) these ∙ among_paired (key t) (key u) fs ns first second) at

-- ---- what is found covers what matches

-- the numbers below the end that stand under one of the encodings
abbrev Finds : Collection → List Key → BTreeSet ℕ → Type 0
Finds c ks ns = IsOrdered nat_cmp ns × (c.groups.is_whole ≡ true) × ((m : ℕ) → m < c.next → stands_in c.groups ks m ≡ true → contains nat_cmp ns m ≡ true)

each_found : (cs : List Keyed) (ps : Groups) (next : ℕ) (ks : List Key) (ns : BTreeSet ℕ) (es : List Entry) → ((m : ℕ) → m < next → stands_in ps ks m ≡ true → contains nat_cmp ns m ≡ true) → ((m : ℕ) (d : Fields) → matches_keys cs d ≡ true → IsGrouped ps m d → stands_in ps ks m ≡ true)
    → AllByRecursion (λ (m : ℕ). m < next) (keys_of es) → AllByRecursion (λ (e : Entry). IsGrouped ps e.0 (fields e.1)) es → AllByRecursion (λ (e : Entry). matches_keys cs (fields e.1) ≡ true → is_in ns.keys e.0 ≡ true) es
each_found cs ps next ks ns [] finds has below grouped = tt
each_found cs ps next ks ns (e ∷ es) finds has below grouped = (λ is. finds e.0 below.0 (has e.0 (fields e.1) is grouped.0), each_found cs ps next ks ns es finds has below.1 grouped.1)

covered : (cs : List Keyed) (c : Collection) (ks : List Key) (r : Result (Option (BTreeSet ℕ)) OutOfMemory) → KeepsIds c → ((m : ℕ) (d : Fields) → matches_keys cs d ≡ true → IsGrouped c.groups m d → stands_in c.groups ks m ≡ true) → IfOk r (λ o. IfSome o (Finds c ks)) → IfOk r (λ o. IfSome o (Covers cs c))
covered cs c ks (Err e) keeps has found = tt
covered cs c ks (Ok None) keeps has found = tt
covered cs c ks (Ok (Some ns)) keeps has found = record { ordered = found.0; each = each_found cs c.groups c.next ks ns c.documents.entries found.2 has keeps.below (keeps.grouped found.1) }

pub files_covered : (cs : List Keyed) (c : Collection) (fs : List Key) (r : Result (Option (BTreeSet ℕ)) OutOfMemory) → KeepsIds c → ((d : Fields) → matches_keys cs d ≡ true → has_key (map (λ (k : Key). k.items) fs) (get (codes "files_id") d) ≡ true)
    → IfOk r (λ o. IfSome o (Finds c fs)) → IfOk r (λ o. IfSome o (Covers cs c))
files_covered cs c fs r keeps has found = covered cs c fs r keeps (λ m d is grouped. in_file c.groups m fs (get (codes "files_id") d) (has d is) grouped.0) found

pub chunks_covered : (cs : List Keyed) (c : Collection) (fs ns ks : List Key) (r : Result (Option (BTreeSet ℕ)) OutOfMemory) → KeepsIds c → ((d : Fields) → matches_keys cs d ≡ true → has_key (map (λ (k : Key). k.items) fs) (get (codes "files_id") d) ≡ true)
    → ((d : Fields) → matches_keys cs d ≡ true → has_key (map (λ (k : Key). k.items) ns) (get (codes "n") d) ≡ true) → map (λ (k : Key). k.items) ks ≡ paired fs ns → IfOk r (λ o. IfSome o (Finds c ks)) → IfOk r (λ o. IfSome o (Covers cs c))
chunks_covered cs c fs ns ks r keeps first second these found =
    covered cs c ks r keeps (λ m d is grouped. in_chunk c.groups m fs ns ks (get (codes "files_id") d) (get (codes "n") d) these (first d is) (second d is) grouped.1) found
