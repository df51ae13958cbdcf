-- Collections by their names.
use Rattle.std.proofs.Common.{◌≡◌, ℕ, Bool, true, false, List, [], ◌∷◌, Option, Some, None, refl, sym, ap, ap₂, ◌∙◌, inl, inr}
use Rattle.std.specs.Prelude.{if◌then◌else◌, option_map}
use Rattle.std.proofs.lemmas.Bool.{cases_Bool, and_parts}
use Rattle.std.proofs.lemmas.Slice.Eq.{bytes_eq-Decides}
use Rattle.std.specs.Str.{bytes_eq}
use Rattle.mg_bson.specs.Tree.{Fields}
use Rattle.mg_link.specs.Namespace.{Space}
use Rattle.mg_server.specs.State.{Collection, State, is_space, comes_before, collection_in, put_collection, change_documents, documents_at, indexes_of, collections_with, without_collection, put_documents, changed_documents}

-- a name of these bytes is that name
pub same_space : (s t : Space) → is_space s t ≡ true → s ≡ t
same_space s t h =
    let parts = and_parts (bytes_eq s.db t.db) (bytes_eq s.coll t.coll) h in
    let db : s.db ≡ t.db = (bytes_eq-Decides s.db t.db).0 parts.0 in
    let coll : s.coll ≡ t.coll = (bytes_eq-Decides s.coll t.coll).0 parts.1 in
    ap₂ (λ (d c : List ℕ). record { db = d; coll = c }) db coll

pub is_space_self : (s : Space) → is_space s s ≡ true
is_space_self s = rw ((bytes_eq-Decides s.db s.db).1 refl, (bytes_eq-Decides s.coll s.coll).1 refl) refl

-- what is looked up behind one of another name
passed : (b d : Bool) (x y : Collection) (o : Option Collection) → (d ≡ true → b ≡ true → ⊥) → (if d then Some y else (if b then Some x else o)) ≡ (if b then Some x else (if d then Some y else o))
passed true true x y o apart = absurd (apart refl refl)
passed true false x y o apart = refl
passed false d x y o apart = refl

replaced : (b d : Bool) (x y : Collection) (o : Option Collection) → b ≡ d → (if b then Some x else o) ≡ (if b then Some x else (if d then Some y else o))
replaced true true x y o same = refl
replaced false false x y o same = refl
replaced true false x y o same = absurd cc
replaced false true x y o same = absurd cc

-- a collection is found behind its name once it was put there, and the others stay
pub put_is : (c : Collection) (cs : List Collection) (space : Space) → collection_in (put_collection c cs) space ≡ (if is_space space c.space then Some c else collection_in cs space)
put_is c [] space = refl
put_is c (d ∷ ds) space =
    elim (cases_Bool (is_space d.space c.space)) [
      | inl same ↦
          let e : d.space ≡ c.space = same_space d.space c.space same in
          ap (λ (b : Bool). collection_in (if b then c ∷ ds else (if comes_before c.space d.space then c ∷ d ∷ ds else d ∷ put_collection c ds)) space) same
          ∙ replaced (is_space space c.space) (is_space space d.space) c d (collection_in ds space) (ap (is_space space) (sym e))
      | inr other ↦
          let apart = λ (here : is_space space d.space ≡ true) (there : is_space space c.space ≡ true).
          let e : d.space ≡ c.space = sym (same_space space d.space here) ∙ same_space space c.space there in
          let bad : is_space d.space c.space ≡ true = ap (is_space d.space) (sym e) ∙ is_space_self d.space in
          let no_way : true ≡ false = sym bad ∙ other in
          absurd cc in
          ap (λ (b : Bool). collection_in (if b then c ∷ ds else (if comes_before c.space d.space then c ∷ d ∷ ds else d ∷ put_collection c ds)) space) other
          ∙ elim (cases_Bool (comes_before c.space d.space)) [
            | inl first ↦ ap (λ (b : Bool). collection_in (if b then c ∷ d ∷ ds else d ∷ put_collection c ds) space) first
            | inr later ↦
                ap (λ (b : Bool). collection_in (if b then c ∷ d ∷ ds else d ∷ put_collection c ds) space) later
                ∙ ap (λ (o : Option Collection). if is_space space d.space then Some d else o) (put_is c ds space)
                ∙ passed (is_space space c.space) (is_space space d.space) c d (collection_in ds space) apart
          ]
    ]

-- one that was taken out is not found any more, and the others stay
pub without_is : (space : Space) (cs : List Collection) (other : Space) → collection_in (without_collection space cs) other ≡ (if is_space other space then None else collection_in cs other)
without_is space [] other = none_either (is_space other space)
  where
    none_either : (b : Bool) → ◌≡◌ {A = Option Collection} None (if b then None else None)
    none_either true = refl
    none_either false = refl
without_is space (c ∷ cs) other =
    elim (cases_Bool (is_space space c.space)) [
      | inl same ↦
          let e : space ≡ c.space = same_space space c.space same in
          ap (λ (b : Bool). collection_in (if b then without_collection space cs else c ∷ without_collection space cs) other) same
          ∙ without_is space cs other ∙ taken_out (is_space other space) (is_space other c.space) c (collection_in cs other) (ap (is_space other) e)
      | inr differs ↦
          let apart = λ (here : is_space other c.space ≡ true) (there : is_space other space ≡ true).
          let e : space ≡ c.space = sym (same_space other space there) ∙ same_space other c.space here in
          let bad : is_space space c.space ≡ true = ap (is_space space) (sym e) ∙ is_space_self space in
          let no_way : true ≡ false = sym bad ∙ differs in
          absurd cc in
          ap (λ (b : Bool). collection_in (if b then without_collection space cs else c ∷ without_collection space cs) other) differs
          ∙ ap (λ (o : Option Collection). if is_space other c.space then Some c else o) (without_is space cs other)
          ∙ left_in (is_space other c.space) (is_space other space) c (collection_in cs other) apart
    ]
  where
    taken_out : (b d : Bool) (c : Collection) (o : Option Collection) → b ≡ d → (if b then None else o) ≡ (if b then None else (if d then Some c else o))
    taken_out true d c o e = refl
    taken_out false false c o e = refl
    taken_out false true c o e = absurd cc

    left_in : (b d : Bool) (c : Collection) (o : Option Collection) → (b ≡ true → d ≡ true → ⊥) → (if b then Some c else (if d then None else o)) ≡ (if d then None else (if b then Some c else o))
    left_in true true c o apart = absurd (apart refl refl)
    left_in true false c o apart = refl
    left_in false d c o apart = refl

-- ---- documents

-- those behind a collection that is put
pub documents_of_put : (s : State) (c : Collection) (other : Space) → option_map (λ (c : Collection). c.documents) (collection_in (put_collection c s.collections) other) ≡ put_documents c.space (Some c.documents) (documents_at s) other
documents_of_put s c other = ap (option_map (λ (c : Collection). c.documents)) (put_is c s.collections other) ∙ map_if (is_space other c.space) c (collection_in s.collections other)
  where
    map_if : (b : Bool) (c : Collection) (o : Option Collection) → option_map (λ (c : Collection). c.documents) (if b then Some c else o) ≡ (if b then Some c.documents else option_map (λ (c : Collection). c.documents) o)
    map_if true c o = refl
    map_if false c o = refl

pub documents_put : (s : State) (space : Space) (ds : List Fields) (other : Space) → option_map (λ (c : Collection). c.documents) (collection_in (collections_with s space ds) other) ≡ put_documents space (Some ds) (documents_at s) other
documents_put s space ds other = documents_of_put s (record { space = space; documents = ds; indexes = indexes_of s space }) other

-- those behind a collection that is taken out
pub documents_without : (s : State) (space other : Space) → option_map (λ (c : Collection). c.documents) (collection_in (without_collection space s.collections) other) ≡ put_documents space None (documents_at s) other
documents_without s space other = ap (option_map (λ (c : Collection). c.documents)) (without_is space s.collections other) ∙ map_unless (is_space other space) (collection_in s.collections other)
  where
    map_unless : (b : Bool) (o : Option Collection) → option_map (λ (c : Collection). c.documents) (if b then None else o) ≡ (if b then None else option_map (λ (c : Collection). c.documents) o)
    map_unless true o = refl
    map_unless false o = refl

abbrev documents_found : List Collection → Space → Option (List Fields)
documents_found cs other = option_map (λ (c : Collection). c.documents) (collection_in cs other)

found_if : (b : Bool) (c : Collection) (cs : List Collection) (other : Space) → option_map (λ (c : Collection). c.documents) (if b then Some c else collection_in cs other) ≡ (if b then Some c.documents else documents_found cs other)
found_if true c cs other = refl
found_if false c cs other = refl

changed_here : (b d : Bool) (ds : List Fields) (g : List Fields → List Fields) (o : Option (List Fields)) → b ≡ d → (if b then Some (g ds) else o) ≡ (if d then option_map g (if b then Some ds else o) else (if b then Some ds else o))
changed_here true true ds g o e = refl
changed_here false false ds g o e = refl
changed_here true false ds g o e = absurd cc
changed_here false true ds g o e = absurd cc

changed_behind : (b d : Bool) (ds : List Fields) (g : List Fields → List Fields) (o : Option (List Fields)) → (b ≡ true → d ≡ true → ⊥)
    → (if b then Some ds else (if d then option_map g o else o)) ≡ (if d then option_map g (if b then Some ds else o) else (if b then Some ds else o))
changed_behind true true ds g o apart = absurd (apart refl refl)
changed_behind true false ds g o apart = refl
changed_behind false true ds g o apart = refl
changed_behind false false ds g o apart = refl

pub documents_changed : (space : Space) (g : List Fields → List Fields) (cs : List Collection) (other : Space) → documents_found (change_documents space g cs) other ≡ changed_documents space g (documents_found cs) other
documents_changed space g [] other = cond_none (is_space other space) g
  where
    cond_none : (b : Bool) (g : List Fields → List Fields) → None ≡ (if b then option_map g None else None)
    cond_none true g = refl
    cond_none false g = refl
documents_changed space g (c ∷ cs) other =
    elim (cases_Bool (is_space space c.space)) [
      | inl same ↦
          let e : space ≡ c.space = same_space space c.space same in
          ap (λ (b : Bool). documents_found (if b then record c { documents = g c.documents } ∷ cs else c ∷ change_documents space g cs) other) same
          ∙ found_if (is_space other c.space) (record c { documents = g c.documents }) cs other
          ∙ changed_here (is_space other c.space) (is_space other space) c.documents g (documents_found cs other) (ap (is_space other) (sym e))
          ∙ ap (λ (o : Option (List Fields)). if is_space other space then option_map g o else o) (sym (found_if (is_space other c.space) c cs other))
      | inr differs ↦
          let apart = λ (here : is_space other c.space ≡ true) (there : is_space other space ≡ true).
          let e : space ≡ c.space = sym (same_space other space there) ∙ same_space other c.space here in
          let bad : is_space space c.space ≡ true = ap (is_space space) (sym e) ∙ is_space_self space in
          let no_way : true ≡ false = sym bad ∙ differs in
          absurd cc in
          ap (λ (b : Bool). documents_found (if b then record c { documents = g c.documents } ∷ cs else c ∷ change_documents space g cs) other) differs
          ∙ found_if (is_space other c.space) c (change_documents space g cs) other
          ∙ ap (λ (o : Option (List Fields)). if is_space other c.space then Some c.documents else o) (documents_changed space g cs other)
          ∙ changed_behind (is_space other c.space) (is_space other space) c.documents g (documents_found cs other) apart
          ∙ ap (λ (o : Option (List Fields)). if is_space other space then option_map g o else o) (sym (found_if (is_space other c.space) c cs other))
    ]

-- the documents stand where they were put
pub documents_here : (s : State) (space : Space) (ds : List Fields) → option_map (λ (c : Collection). c.documents) (collection_in (collections_with s space ds) space) ≡ Some ds
documents_here s space ds = documents_put s space ds space ∙ ap (λ (b : Bool). if b then Some ds else documents_at s space) (is_space_self space)
