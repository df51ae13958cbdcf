-- What an insert of the rules appends, fails and logs.
use Rattle.std.proofs.Common.{◌≡◌, ℕ, ℤ, pos, suc, ◌<◌, ◌≤◌, Bool, true, false, List, [], ◌∷◌, ◌++◌, Option, Some, None, Result, Ok, Err, refl, sym, ap, ◌∙◌, subst, inl, inr, arith, option_map}
use Rattle.std.specs.Prelude.{if◌then◌else◌, option_and_then, codes}
use Rattle.std.specs.Ordering.{int_eq}
use Rattle.std.proofs.lemmas.Bool.{cases_Bool, or_parts, false_from_ne_true}
use Rattle.std.proofs.lemmas.Bool.Decides.{Decides-int_eq}
use Rattle.mg_bson.specs.Tree.{Tree, Fields}
use Rattle.mg_bson.specs.Find.{get}
use Rattle.mg_link.specs.Namespace.{Space}
use Rattle.mg_server.specs.Filter.{is_same}
use Rattle.mg_server.specs.Commands.{Failure, documents_in, failures_by, are_write_errors}
use Rattle.mg_server.specs.Step.{is_listed, written, HasNoId, HaveNewIds, IsEventOf, AreEventsOf}
use Rattle.mg_server.specs.Events.{TellsInsert, TellInserts}
use Rattle.mg_server.specs.Rules.{insert_entry, same_id, has_id, is_storable, id_or_code, accept, Inserted, no_more, with_document, with_error, write_error, choose, inserting, bad_request, duplicate_id}
use Rattle.mg_server.specs.Kept.{AreStoreEntries}
use Rattle.mg_server.proofs.Tokens.{differs_turned}
use Rattle.mg_server.specs.State.{inserts}

-- ---- failures

abbrev pub fail_by : Result Tree ℤ → List Failure → (ℤ → List Failure) → List Failure
fail_by (Ok id) ok err = ok
fail_by (Err code) ok err = err code

abbrev pub failure_at : ℕ → ℤ → Failure
failure_at index code = record { index = pos index; code = code }

-- the failures that an insert lists
unfoldable pub failing : Bool → ℕ → (there documents : List Fields) → List Failure
failing ordered index there [] = []
failing ordered index there (d ∷ ds) = fail_by (accept there d) (failing ordered (suc index) (there ++ d ∷ []) ds)
    (λ code. failure_at index code ∷ (if ordered then [] else failing ordered (suc index) there ds))

listed_here : (index : ℕ) (code : ℤ) (fs : List Failure) → is_listed index (failure_at index code ∷ fs) ≡ true
listed_here index code fs = ap (λ (b : Bool). if b then true else is_listed index fs) ((Decides-int_eq (pos index) (pos index)).1 refl)

listed_later : (index m : ℕ) (code : ℤ) (fs : List Failure) → (index ≡ m → ⊥) → is_listed m (failure_at index code ∷ fs) ≡ is_listed m fs
listed_later index m code fs ne =
    let differs : int_eq (pos index) (pos m) ≡ false = false_from_ne_true (int_eq (pos index) (pos m)) (λ h. let e = (Decides-int_eq (pos index) (pos m)).0 h in let f : index ≡ m = cc in ne f) in
    ap (λ (b : Bool). if b then true else is_listed m fs) differs

errors_more : (index : ℕ) (code : ℤ) (o : Option (List Fields)) (fs : List Failure) → option_and_then failures_by o ≡ Some fs → option_and_then failures_by (option_map (λ ds. write_error index code ∷ ds) o) ≡ Some (failure_at index code ∷ fs)
errors_more index code None fs h = absurd cc
errors_more index code (Some ds) fs h = ap (option_map (λ more. failure_at index code ∷ more)) h

-- ---- ids

not_same : (id other : Tree) (o : Option Tree) → same_id id o ≡ false → o ≡ Some other → is_same id other ≡ false
not_same id other None h e = absurd cc
not_same id other (Some t) h e = let f : t ≡ other = cc in differs_turned other id (subst (λ (u : Tree). is_same u id ≡ false) f h)

no_id : (id : Tree) (there : List Fields) → has_id id there ≡ false → HasNoId id there
no_id id [] h = tt
no_id id (d ∷ ds) h =
    let parts = or_parts (same_id id (get (codes "_id") d)) (has_id id ds) h in
    (λ other e. not_same id other (get (codes "_id") d) parts.0 e, no_id id ds parts.1)

id_is : (there : List Fields) (o : Option Tree) (id : Tree) → id_or_code there o ≡ Ok id → (o ≡ Some id) × (has_id id there ≡ false)
id_is there None id h = absurd cc
id_is there (Some other) id h =
    elim (cases_Bool (has_id other there)) [
      | inl twice ↦ let e : Err duplicate_id ≡ Ok id = sym (ap (λ (b : Bool). if b then Err duplicate_id else Ok other) twice) ∙ h in absurd cc
      | inr once ↦
          let e : Ok other ≡ Ok id = sym (ap (λ (b : Bool). if b then Err duplicate_id else Ok other) once) ∙ h in
          let f : other ≡ id = cc in
          (ap Some f, subst (λ (t : Tree). has_id t there ≡ false) f once)
    ]

accepted : (there : List Fields) (d : Fields) (id : Tree) → accept there d ≡ Ok id → (get (codes "_id") d ≡ Some id) × (has_id id there ≡ false)
accepted there d id h =
    elim (cases_Bool (is_storable d)) [
      | inl fits ↦ id_is there (get (codes "_id") d) id (sym (ap (λ (b : Bool). if b then id_or_code there (get (codes "_id") d) else Err bad_request) fits) ∙ h)
      | inr not_so ↦ let e : Err bad_request ≡ Ok id = sym (ap (λ (b : Bool). if b then id_or_code there (get (codes "_id") d) else Err bad_request) not_so) ∙ h in absurd cc
    ]

-- ---- an insert

-- what an insert of these documents comes to
pub record Inserts (space : Space) (ordered : Bool) (index place : ℕ) (there ds : List Fields) (i : Inserted) (fs : List Failure) : Type 0 where
  pub entries_are : AreStoreEntries place i.entries
  pub events_are : AreEventsOf space inserts i.documents i.entries
  pub tell_of : TellInserts space i.documents i.entries
  pub ids_are : HaveNewIds there i.documents
  pub written_are : (all : List Failure) → ((m : ℕ) → index ≤ m → is_listed m all ≡ is_listed m fs) → written ordered all index ds ≡ i.documents
  pub failures_are : option_and_then failures_by (documents_in i.errors) ≡ Some fs
  pub errors_keep : are_write_errors i.errors ≡ true
  pub none_before : (m : ℕ) → m < index → is_listed m fs ≡ false

is_event : (place : ℕ) (space : Space) (id : Tree) (d : Fields) → IsEventOf space inserts (insert_entry place space id d)
is_event place space id d = record { at = refl; change_is = refl; token_is = refl }

tells_of : (place : ℕ) (space : Space) (id : Tree) (d : Fields) → TellsInsert space d (insert_entry place space id d).event
tells_of place space id d = record { kind = refl; ns = refl; full = refl }

inserts_none : (space : Space) (ordered : Bool) (index place : ℕ) (there : List Fields) → Inserts space ordered index place there [] no_more []
inserts_none space ordered index place there = record { entries_are = tt; events_are = tt; tell_of = tt; ids_are = tt; written_are = λ all same. refl; failures_are = refl; errors_keep = refl; none_before = λ m lt. refl }

inserts_one : (space : Space) (ordered : Bool) (index place : ℕ) (there : List Fields) (d : Fields) (ds : List Fields) (id : Tree) (i : Inserted) (fs : List Failure) → accept there d ≡ Ok id → Inserts space ordered (suc index) (suc place) (there ++ d ∷ []) ds i fs
    → Inserts space ordered index place there (d ∷ ds) (with_document d (insert_entry (suc place) space id d) i) fs
inserts_one space ordered index place there d ds id i fs ok rest =
    let known = accepted there d id ok in
    record {
      entries_are = (record { token_is = refl; time_is = refl }, rest.entries_are);
      events_are = (is_event (suc place) space id d, rest.events_are);
      tell_of = (tells_of (suc place) space id d, rest.tell_of);
      ids_are = ((id, known.0, no_id id there known.1), rest.ids_are);
      written_are = λ all same.
          let not_this : is_listed index all ≡ false = same index (omega arith) ∙ rest.none_before index (omega arith) in
          ap (λ (b : Bool). if b then (if ordered then [] else written ordered all (suc index) ds) else d ∷ written ordered all (suc index) ds) not_this
          ∙ ap (λ (l : List Fields). d ∷ l) (rest.written_are all (λ m le. same m (omega arith)));
      failures_are = rest.failures_are;
      errors_keep = rest.errors_keep;
      none_before = λ m lt. rest.none_before m (omega arith);
    }

fails_here : (index : ℕ) (code : ℤ) (fs all : List Failure) → ((m : ℕ) → index ≤ m → is_listed m all ≡ is_listed m (failure_at index code ∷ fs)) → is_listed index all ≡ true
fails_here index code fs all same = same index (omega arith) ∙ listed_here index code fs

inserts_no_more : (space : Space) (index place : ℕ) (there : List Fields) (d : Fields) (ds : List Fields) (code : ℤ) → Inserts space true index place there (d ∷ ds) (with_error index code no_more) (failure_at index code ∷ [])
inserts_no_more space index place there d ds code = record {
  entries_are = tt;
  events_are = tt;
  tell_of = tt;
  ids_are = tt;
  written_are = λ all same. ap (λ (b : Bool). if b then [] else d ∷ written true all (suc index) ds) (fails_here index code [] all same);
  failures_are = refl;
  errors_keep = refl;
  none_before = λ m lt. listed_later index m code [] (λ e. omega arith);
}

inserts_others : (space : Space) (index place : ℕ) (there : List Fields) (d : Fields) (ds : List Fields) (code : ℤ) (i : Inserted) (fs : List Failure) → Inserts space false (suc index) place there ds i fs
    → Inserts space false index place there (d ∷ ds) (with_error index code i) (failure_at index code ∷ fs)
inserts_others space index place there d ds code i fs rest = record {
  entries_are = rest.entries_are;
  events_are = rest.events_are;
  tell_of = rest.tell_of;
  ids_are = rest.ids_are;
  written_are = λ all same.
      ap (λ (b : Bool). if b then written false all (suc index) ds else d ∷ written false all (suc index) ds) (fails_here index code fs all same)
      ∙ rest.written_are all (λ m le. same m (omega arith) ∙ listed_later index m code fs (λ e. omega arith));
  failures_are = errors_more index code (documents_in i.errors) fs rest.failures_are;
  errors_keep = rest.errors_keep;
  none_before = λ m lt. listed_later index m code fs (λ e. omega arith) ∙ rest.none_before m (omega arith);
}

inserts_by : (space : Space) (ordered : Bool) (index place : ℕ) (there : List Fields) (d : Fields) (ds : List Fields) (r : Result Tree ℤ) (i j : Inserted) (fs gs : List Failure) → accept there d ≡ r
    → Inserts space ordered (suc index) (suc place) (there ++ d ∷ []) ds i fs → Inserts space ordered (suc index) place there ds j gs
    → Inserts space ordered index place there (d ∷ ds) (choose r (λ id. with_document d (insert_entry (suc place) space id d) i) (λ code. with_error index code (if ordered then no_more else j)))
    (fail_by r fs (λ code. failure_at index code ∷ (if ordered then [] else gs)))
inserts_by space ordered index place there d ds (Ok id) i j fs gs ok one others = inserts_one space ordered index place there d ds id i fs ok one
inserts_by space true index place there d ds (Err code) i j fs gs ok one others = inserts_no_more space index place there d ds code
inserts_by space false index place there d ds (Err code) i j fs gs ok one others = inserts_others space index place there d ds code j gs others

-- an insert of the rules comes to this
pub inserting_is : (space : Space) (ordered : Bool) (index place : ℕ) (there ds : List Fields) → Inserts space ordered index place there ds (inserting space ordered index place there ds) (failing ordered index there ds)
unfolding inserting failing
inserting_is space ordered index place there [] = inserts_none space ordered index place there
inserting_is space ordered index place there (d ∷ ds) =
    inserts_by space ordered index place there d ds (accept there d) _ _ _ _ refl (inserting_is space ordered (suc index) (suc place) (there ++ d ∷ []) ds) (inserting_is space ordered (suc index) place there ds)
