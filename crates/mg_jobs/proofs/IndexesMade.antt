-- The collections of a run's store have the indexes of buckets alone, each at most once; and a collection that is there stays, since no job drops one.
use Rattle.std.proofs.Common.{◌≡◌, ◌≤◌, ◌+◌, ◌++◌, ℕ, zero, suc, ℤ, pos, Bool, true, false, List, [], ◌∷◌, length, take, Option, Some, refl, sym, ap, ◌∙◌, subst, inl, inr, arith}
use Rattle.std.specs.Prelude.{if◌then◌else◌, option_map, slice_get, unwrap_or}
use Rattle.std.specs.Ordering.{int_eq}
use Rattle.std.proofs.lemmas.Bool.{cases_Bool}
use Rattle.mg_bson.specs.Tree.{Fields}
use Rattle.mg_server.specs.Commands.{Asked, Told, asked, asks_create, asks_delete, asks_drop, asks_indexes, asks_insert, asks_kill, asks_more, asks_query, asks_update, asks_watch, deleted, done, gave, inserted, killed, opened, refuses, updated}
use Rattle.mg_server.specs.History.{Step, state_after, state_of, step_after, told_at}
use Rattle.mg_link.specs.Namespace.{Space}
use Rattle.mg_server.specs.State.{Collection, Cursor, Index, State, change_documents, collection_in, comes_before, indexes_of, is_space, put_collection}
use Rattle.mg_server.specs.Step.{Made, documents_of, effect, ends_cursor, grown, written}
use Rattle.mg_server.specs.Write.{after_delete, after_update, with_indexes}
use Rattle.mg_server.proofs.Collections.{is_space_self, put_is}
use Rattle.mg_link.proofs.Places.{get_some}
use Rattle.mg_gridfs.specs.declared.indexes.Place.{Place}
use Rattle.mg_gridfs.specs.declared.indexes.Place.TheVariants as place
use Rattle.mg_jobs.proofs.Makers.{Makes, bucket_index}
use Rattle.mg_jobs.proofs.StepsAt.{next_state}

-- ---- indexes

abbrev of_files : Index
of_files = bucket_index place.Files

abbrev of_chunks : Index
of_chunks = bucket_index place.Chunks

-- the indexes beside that of `_id`
pub data AreOfBucket (is : List Index) : Type 0 where
  none : is ≡ [] → AreOfBucket is
  files : is ≡ bucket_index place.Files ∷ [] → AreOfBucket is
  chunks : is ≡ bucket_index place.Chunks ∷ [] → AreOfBucket is
  files_first : is ≡ bucket_index place.Files ∷ bucket_index place.Chunks ∷ [] → AreOfBucket is
  chunks_first : is ≡ bucket_index place.Chunks ∷ bucket_index place.Files ∷ [] → AreOfBucket is

-- one more, unless it is there
pub one_more : (at : Place) (is : List Index) → AreOfBucket is → AreOfBucket (with_indexes is (bucket_index at ∷ []))
one_more place.Files is (none e) = subst (λ (l : List Index). AreOfBucket (with_indexes l (of_files ∷ []))) (sym e) (files refl)
one_more place.Files is (files e) = subst (λ (l : List Index). AreOfBucket (with_indexes l (of_files ∷ []))) (sym e) (files refl)
one_more place.Files is (chunks e) = subst (λ (l : List Index). AreOfBucket (with_indexes l (of_files ∷ []))) (sym e) (chunks_first refl)
one_more place.Files is (files_first e) = subst (λ (l : List Index). AreOfBucket (with_indexes l (of_files ∷ []))) (sym e) (files_first refl)
one_more place.Files is (chunks_first e) = subst (λ (l : List Index). AreOfBucket (with_indexes l (of_files ∷ []))) (sym e) (chunks_first refl)
one_more place.Chunks is (none e) = subst (λ (l : List Index). AreOfBucket (with_indexes l (of_chunks ∷ []))) (sym e) (chunks refl)
one_more place.Chunks is (files e) = subst (λ (l : List Index). AreOfBucket (with_indexes l (of_chunks ∷ []))) (sym e) (files_first refl)
one_more place.Chunks is (chunks e) = subst (λ (l : List Index). AreOfBucket (with_indexes l (of_chunks ∷ []))) (sym e) (chunks refl)
one_more place.Chunks is (files_first e) = subst (λ (l : List Index). AreOfBucket (with_indexes l (of_chunks ∷ []))) (sym e) (files_first refl)
one_more place.Chunks is (chunks_first e) = subst (λ (l : List Index). AreOfBucket (with_indexes l (of_chunks ∷ []))) (sym e) (chunks_first refl)

pub few_of_bucket : (is : List Index) → AreOfBucket is → length is ≤ 2
few_of_bucket is (none e) = let n = ap length e in omega (arith, n)
few_of_bucket is (files e) = let n = ap length e in omega (arith, n)
few_of_bucket is (chunks e) = let n = ap length e in omega (arith, n)
few_of_bucket is (files_first e) = let n = ap length e in omega (arith, n)
few_of_bucket is (chunks_first e) = let n = ap length e in omega (arith, n)

-- ---- collections

abbrev pub HaveOfBucket : List Collection → Type 0
HaveOfBucket [] = Unit {0}
HaveOfBucket (c ∷ cs) = AreOfBucket c.indexes × HaveOfBucket cs

there_by : (b : Bool) (c : Collection) (o : Option Collection) → AreOfBucket c.indexes → AreOfBucket (unwrap_or (option_map (λ (c : Collection). c.indexes) o) []) → AreOfBucket (unwrap_or (option_map (λ (c : Collection). c.indexes) (if b then Some c else o)) [])
there_by true c o a b = a
there_by false c o a b = b

there_in : (cs : List Collection) (space : Space) → HaveOfBucket cs → AreOfBucket (unwrap_or (option_map (λ (c : Collection). c.indexes) (collection_in cs space)) [])
there_in [] space h = none refl
there_in (c ∷ cs) space h = there_by (is_space space c.space) c (collection_in cs space) h.0 (there_in cs space h.1)

-- those of one collection
pub indexes_there : (s : State) (space : Space) → HaveOfBucket s.collections → AreOfBucket (indexes_of s space)
indexes_there s space h = there_in s.collections space h

put_by : (a b : Bool) (c d : Collection) (ds rest : List Collection) → AreOfBucket c.indexes → HaveOfBucket (d ∷ ds) → HaveOfBucket rest → HaveOfBucket (if a then c ∷ ds else (if b then c ∷ d ∷ ds else d ∷ rest))
put_by true b c d ds rest made h others = (made, h.1)
put_by false true c d ds rest made h others = (made, h)
put_by false false c d ds rest made h others = (h.0, others)

put_has : (c : Collection) (cs : List Collection) → AreOfBucket c.indexes → HaveOfBucket cs → HaveOfBucket (put_collection c cs)
put_has c [] made h = (made, tt)
put_has c (d ∷ ds) made h = put_by (is_space d.space c.space) (comes_before c.space d.space) c d ds (put_collection c ds) made h (put_has c ds made h.1)

changed_by : (b : Bool) (c : Collection) (ds : List Fields) (cs changed : List Collection) → HaveOfBucket (c ∷ cs) → HaveOfBucket changed → HaveOfBucket (if b then record c { documents = ds } ∷ cs else c ∷ changed)
changed_by true c ds cs changed h others = h
changed_by false c ds cs changed h others = (h.0, others)

changed_has : (space : Space) (g : List Fields → List Fields) (cs : List Collection) → HaveOfBucket cs → HaveOfBucket (change_documents space g cs)
changed_has space g [] h = tt
changed_has space g (c ∷ cs) h = changed_by (is_space space c.space) c (g c.documents) cs (change_documents space g cs) h (changed_has space g cs h.1)

-- ---- a collection that is there

pub record HasCollection (cs : List Collection) (space : Space) : Type 0 where
  pub collection : Collection
  pub there : collection_in cs space ≡ Some collection

in_put : (c : Collection) (cs : List Collection) (space : Space) → HasCollection cs space → HasCollection (put_collection c cs) space
in_put c cs space h = elim (cases_Bool (is_space space c.space)) [
  | inl here ↦ record { collection = c; there = put_is c cs space ∙ ap (λ (b : Bool). if b then Some c else collection_in cs space) here }
  | inr other ↦ record { collection = h.collection; there = put_is c cs space ∙ ap (λ (b : Bool). if b then Some c else collection_in cs space) other ∙ h.there }
]

-- one that is put there
pub put_there : (c : Collection) (cs : List Collection) → HasCollection (put_collection c cs) c.space
put_there c cs = record { collection = c; there = put_is c cs c.space ∙ ap (λ (b : Bool). if b then Some c else collection_in cs c.space) (is_space_self c.space) }

found_by : (b : Bool) (c : Collection) (o : Option Collection) (x : Collection) → o ≡ Some x → (y : Collection) × ((if b then Some c else o) ≡ Some y)
found_by true c o x is = (c, refl)
found_by false c o x is = (x, is)

kept_by : (here same : Bool) (space : Space) (c : Collection) (ds : List Fields) (cs changed : List Collection) (x : Collection) → is_space space c.space ≡ same → (if same then Some c else collection_in cs space) ≡ Some x → (collection_in cs space ≡ Some x → HasCollection changed space)
    → HasCollection (if here then record c { documents = ds } ∷ cs else c ∷ changed) space
kept_by true true space c ds cs changed x same found later = record { collection = record c { documents = ds }; there = ap (λ (b : Bool). if b then Some (record c { documents = ds }) else collection_in cs space) same }
kept_by true false space c ds cs changed x same found later = record { collection = x; there = ap (λ (b : Bool). if b then Some (record c { documents = ds }) else collection_in cs space) same ∙ found }
kept_by false true space c ds cs changed x same found later = record { collection = c; there = ap (λ (b : Bool). if b then Some c else collection_in changed space) same }
kept_by false false space c ds cs changed x same found later = let l = later found in record { collection = l.collection; there = ap (λ (b : Bool). if b then Some c else collection_in changed space) same ∙ l.there }

in_changed : (at : Space) (g : List Fields → List Fields) (cs : List Collection) (space : Space) → HasCollection cs space → HasCollection (change_documents at g cs) space
in_changed at g [] space h = h
in_changed at g (c ∷ cs) space h =
    kept_by (is_space at c.space) (is_space space c.space) space c (g c.documents) cs (change_documents at g cs) h.collection refl h.there (λ found. in_changed at g cs space (record { collection = h.collection; there = found }))

-- ---- a step

-- what both say of the collections
record Holds (space : Space) (from cs : List Collection) : Type 0 where
  indexes : HaveOfBucket from → HaveOfBucket cs
  stays : HasCollection from space → HasCollection cs space

same_holds : (space : Space) (cs : List Collection) → Holds space cs cs
same_holds space cs = record { indexes = λ h. h; stays = λ h. h }

put_holds : (space : Space) (c : Collection) (cs : List Collection) → (HaveOfBucket cs → AreOfBucket c.indexes) → Holds space cs (put_collection c cs)
put_holds space c cs made = record { indexes = λ h. put_has c cs (made h) h; stays = λ h. in_put c cs space h }

changed_holds : (space at : Space) (g : List Fields → List Fields) (cs : List Collection) → Holds space cs (change_documents at g cs)
changed_holds space at g cs = record { indexes = λ h. changed_has at g cs h; stays = λ h. in_changed at g cs space h }

opened_holds : (space : Space) (b : Bool) (s : State) (cursors : ℤ → Option Cursor) (ids : ℤ → Bool) → Holds space s.collections (if b then s else record s { cursors = cursors; given = ids }).collections
opened_holds space true s cursors ids = same_holds space s.collections
opened_holds space false s cursors ids = same_holds space s.collections

ended_holds : (space : Space) (b : Bool) (s : State) (cursors : ℤ → Option Cursor) → Holds space s.collections (if b then record s { cursors = cursors } else s).collections
ended_holds space true s cursors = same_holds space s.collections
ended_holds space false s cursors = same_holds space s.collections

created_holds : (s : State) (space at : Space) (indexes : List Index) → ((k : Place) × (indexes ≡ bucket_index k ∷ [])) → Holds space s.collections (put_collection (record { space = at; documents = documents_of s at; indexes = with_indexes (indexes_of s at) indexes }) s.collections)
created_holds s space at indexes makes =
    put_holds space (record { space = at; documents = documents_of s at; indexes = with_indexes (indexes_of s at) indexes }) s.collections
    (λ h. subst (λ (l : List Index). AreOfBucket (with_indexes (indexes_of s at) l)) (sym makes.1) (one_more makes.0 (indexes_of s at) (indexes_there s at h)))

effect_holds : (s : State) (space : Space) (command : Asked) (reply : Told) → Makes command → Holds space s.collections (effect s command reply).collections
unfolding effect
effect_holds s space (asks_insert at documents ordered) (inserted n failures) makes =
    put_holds space (record { space = at; documents = documents_of s at ++ written ordered failures 0 documents; indexes = indexes_of s at }) s.collections (λ h. indexes_there s at h)
effect_holds s space (asks_update at conditions m many) (updated n changed []) makes = changed_holds space at (after_update conditions many m) s.collections
effect_holds s space (asks_delete at conditions many) (deleted n []) makes = changed_holds space at (after_delete conditions many) s.collections
effect_holds s space (asks_create at) done makes = put_holds space (record { space = at; documents = []; indexes = indexes_of s at }) s.collections (λ h. indexes_there s at h)
effect_holds s space (asks_indexes at indexes) done makes = created_holds s space at indexes makes
effect_holds s space (asks_drop at) reply makes = absurd makes
effect_holds s space (asks_query q) (opened id at documents token time) makes = opened_holds space (int_eq id (pos 0)) s _ _
effect_holds s space (asks_watch w start) (opened id at events token time) makes = opened_holds space (int_eq id (pos 0)) s _ _
effect_holds s space (asks_more id at) (gave left other events token) makes = same_holds space s.collections
effect_holds s space (asks_more id at) (refuses code labels) makes = ended_holds space (ends_cursor code) s _
effect_holds s space (asks_kill ids) killed makes = same_holds space s.collections
effect_holds s space command reply makes = same_holds space s.collections

grown_holds : (s : State) (made : Made) (space : Space) → Holds space s.collections (grown s made).collections
unfolding grown
grown_holds s made space = same_holds space s.collections

step_holds : (s : State) (step : Step) (space : Space) → Makes (asked step.command) → Holds space s.collections (step_after s step).collections
step_holds s step space makes =
    let a = grown_holds s step.made space in
    let b = effect_holds (grown s step.made) space (asked step.command) (told_at step) makes in
    record { indexes = λ h. b.indexes (a.indexes h); stays = λ h. b.stays (a.stays h) }

-- ---- a history

first_none : HaveOfBucket (state_of []).collections
unfolding state_after
first_none = tt

module _ (history : List Step) (makes : (p : ℕ) (step : Step) → slice_get history p ≡ Some step → Makes (asked step.command)) where
  abbrev state_at : ℕ → State
  state_at p = state_of (take p history)

  -- each collection has such indexes
  pub indexes_at : (p : ℕ) → p ≤ length history → HaveOfBucket (state_of (take p history)).collections
  indexes_at zero within = first_none
  indexes_at (suc p) within =
      let step = get_some history p (omega (arith, within)) in
      let before = indexes_at p (omega (arith, within)) in
      subst (λ (s : State). HaveOfBucket s.collections) (sym (next_state history p step.0 step.1)) ((step_holds (state_at p) step.0 (record { db = []; coll = [] }) (makes p step.0 step.1)).indexes before)

  stays_by : (space : Space) (p n : ℕ) → p + n ≤ length history → HasCollection (state_at p).collections space → HasCollection (state_at (p + n)).collections space
  stays_by space p zero within h = let same : p + 0 ≡ p = omega arith in subst (λ (q : ℕ). HasCollection (state_at q).collections space) (sym same) h
  stays_by space p (suc n) within h =
      let next : p + suc n ≡ suc (p + n) = omega arith in
      let step = get_some history (p + n) (omega (arith, within)) in
      let now = stays_by space p n (omega (arith, within)) h in
      subst (λ (q : ℕ). HasCollection (state_at q).collections space) (sym next)
      (subst (λ (s : State). HasCollection s.collections space) (sym (next_state history (p + n) step.0 step.1)) ((step_holds (state_at (p + n)) step.0 space (makes (p + n) step.0 step.1)).stays now))

  -- one that is there stays
  pub there_later : (space : Space) (p q : ℕ) → p ≤ q → q ≤ length history → HasCollection (state_of (take p history)).collections space → HasCollection (state_of (take q history)).collections space
  there_later space p q less within h =
      let n : (k : ℕ) × (p + k ≡ q) = apart p q less in
      let long = n.1 in
      subst (λ (r : ℕ). HasCollection (state_at r).collections space) n.1 (stays_by space p n.0 (omega (arith, long, within)) h)
    where
      apart : (p q : ℕ) → p ≤ q → (k : ℕ) × (p + k ≡ q)
      apart zero q less = (q, omega arith)
      apart (suc p) zero less = absurd (omega (arith, less))
      apart (suc p) (suc q) less = let k = apart p q (omega (arith, less)) in let is = k.1 in (k.0, omega (arith, is))
