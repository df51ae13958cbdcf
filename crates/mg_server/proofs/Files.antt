-- The chunks of bytes, and what steps leave of a file.
use Rattle.std.proofs.Common.{◌≡◌, ◌<◌, ◌≤◌, ℕ, zero, suc, ◌+◌, ◌-◌, pos, Bool, true, false, List, [], ◌∷◌, ◌++◌, length, take, Option, Some, None, refl, sym, ap, ap₂, ◌∙◌, subst, inl, inr, arith, append_assoc, append-nil, length-append}
use Rattle.std.specs.Prelude.{◌==◌, if◌then◌else◌, option_map, slice_get, unwrap_or, codes}
use Rattle.std.specs.List.{concat, filter}
use Rattle.std.specs.Ordering.{int_eq}
use Rattle.std.proofs.lemmas.Bool.{cases_Bool, cases_eq, eq-eqb, ne_eqb}
use Rattle.std.proofs.lemmas.List.Elements.{filter-append}
use Rattle.mg_bson.specs.Tree.{Tree, Fields}
use Rattle.mg_link.specs.Namespace.{Space}
use Rattle.mg_server.specs.Filter.{Condition, matches, meets}
use Rattle.mg_server.specs.State.{Collection, State, nothing, change_documents, collection_in, is_space, put_collection, without_collection, indexes_of}
use Rattle.mg_server.specs.Commands.{asked, Asked, Failure, Told, asks_create, asks_delete, asks_drop, asks_indexes, asks_insert, asks_kill, asks_more, asks_query, asks_update, asks_watch, deleted, done, gave, inserted, killed, opened, refuses, updated}
use Rattle.mg_server.specs.Step.{Made, May, MayTell, documents_of, effect, ends_cursor, grown, is_listed, written}
use Rattle.mg_server.specs.Write.{Modification, after_delete, after_update, modified, with_indexes}
use Rattle.mg_link.specs.Chunks.{HaveSize, chunked, chunks_behind, last_chunk}
use Rattle.mg_server.specs.Files.{Bucket, IsQuiet, LeavesFile, LeavesThose, NoneMeets, Spares, by_number, chunks_space, file_of, files_space, has_value}
use Rattle.mg_server.specs.Query.{sorted}
use Rattle.mg_server.specs.History.{Step, state_after, state_of, told_at}
use Rattle.mg_server.proofs.Collections.{is_space_self, put_is, same_space}
use Rattle.mg_server.proofs.Histories.{state_after-append}
use Rattle.mg_link.proofs.Places.{get_there, take_more}

-- ---- chunks

last_joined : (begun : List ℕ) → concat (last_chunk begun) ≡ begun
last_joined [] = refl
last_joined (b ∷ bs) = append-nil (b ∷ bs)

joined_behind : (size : ℕ) (begun bytes : List ℕ) → concat (chunks_behind size begun bytes) ≡ begun ++ bytes
unfolding chunks_behind
joined_behind size begun [] = last_joined begun ∙ sym (append-nil begun)
joined_behind size begun (b ∷ bs) =
    elim (length begun + 1 == size) as (λ t. concat (if t then (begun ++ b ∷ []) ∷ chunks_behind size [] bs else chunks_behind size (begun ++ b ∷ []) bs) ≡ begun ++ b ∷ bs) [
      | true ↦ ap (λ l. (begun ++ b ∷ []) ++ l) (joined_behind size [] bs) ∙ append_assoc begun (b ∷ []) bs
      | false ↦ joined_behind size (begun ++ b ∷ []) bs ∙ append_assoc begun (b ∷ []) bs
    ]

-- the chunks of bytes are these bytes
pub chunks_join : (size : ℕ) (bytes : List ℕ) → concat (chunked size bytes) ≡ bytes
chunks_join size bytes = joined_behind size [] bytes

full_ahead : (size : ℕ) (c : List ℕ) (cs : List (List ℕ)) → length c ≡ size → 0 < size → HaveSize size cs → HaveSize size (c ∷ cs)
full_ahead size c [] full some rest = (omega arith, omega arith)
full_ahead size c (d ∷ cs) full some rest = (full, rest)

last_sized : (size : ℕ) (begun : List ℕ) → length begun < size → HaveSize size (last_chunk begun)
last_sized size [] lt = tt
last_sized size (b ∷ bs) lt = (omega arith, omega arith)

sized_behind : (size : ℕ) (begun bytes : List ℕ) → length begun < size → HaveSize size (chunks_behind size begun bytes)
unfolding chunks_behind
sized_behind size begun [] lt = last_sized size begun lt
sized_behind size begun (b ∷ bs) lt =
    elim (cases_eq (length begun + 1) size) [
      | inl full ↦
          let all : length (begun ++ b ∷ []) ≡ size = length-append begun (b ∷ []) ∙ full in
          subst (λ (t : Bool). HaveSize size (if t then (begun ++ b ∷ []) ∷ chunks_behind size [] bs else chunks_behind size (begun ++ b ∷ []) bs)) (sym (eq-eqb (length begun + 1) size full))
          (full_ahead size (begun ++ b ∷ []) (chunks_behind size [] bs) all (omega arith) (sized_behind size [] bs (omega arith)))
      | inr short ↦
          subst (λ (t : Bool). HaveSize size (if t then (begun ++ b ∷ []) ∷ chunks_behind size [] bs else chunks_behind size (begun ++ b ∷ []) bs)) (sym (ne_eqb (length begun + 1) size short))
          (sized_behind size (begun ++ b ∷ []) bs (omega (arith, length-append begun (b ∷ []), short)))
    ]

-- and each but the last has the size
pub chunks_sized : (size : ℕ) (bytes : List ℕ) → 0 < size → HaveSize size (chunked size bytes)
chunks_sized size bytes some = sized_behind size [] bytes some

-- ---- the documents of collections

abbrev pub documents_under : List Collection → Space → List Fields
documents_under cs space = unwrap_or (option_map (λ (c : Collection). c.documents) (collection_in cs space)) []

found_or : (b : Bool) (c : Collection) (o : Option Collection)
    → unwrap_or (option_map (λ (c : Collection). c.documents) (if b then Some c else o)) [] ≡ (if b then c.documents else unwrap_or (option_map (λ (c : Collection). c.documents) o) [])
found_or true c o = refl
found_or false c o = refl

put_documents : (c : Collection) (cs : List Collection) (space : Space) → documents_under (put_collection c cs) space ≡ (if is_space space c.space then c.documents else documents_under cs space)
put_documents c cs space = ap (λ (o : Option Collection). unwrap_or (option_map (λ (c : Collection). c.documents) o) []) (put_is c cs space) ∙ found_or (is_space space c.space) c (collection_in cs space)

-- two names of which one is that of a third are the same
apart_from : (s t u : Space) → is_space t u ≡ false → is_space s u ≡ true → is_space s t ≡ true → ⊥
apart_from s t u differs here there =
    let e : t ≡ u = sym (same_space s t there) ∙ same_space s u here in
    let bad : true ≡ false = sym (is_space_self t) ∙ ap (is_space t) e ∙ differs in
    absurd cc

removed_documents : (at : Space) (cs : List Collection) (space : Space) → is_space space at ≡ false → documents_under (without_collection at cs) space ≡ documents_under cs space
removed_documents at [] space other = refl
removed_documents at (c ∷ cs) space other =
    elim (cases_Bool (is_space at c.space)) [
      | inl its ↦
          let e : at ≡ c.space = same_space at c.space its in
          let no_it : is_space space c.space ≡ false = ap (is_space space) (sym e) ∙ other in
          ap (λ (b : Bool). documents_under (if b then without_collection at cs else c ∷ without_collection at cs) space) its
          ∙ removed_documents at cs space other
          ∙ sym (ap (λ (b : Bool). unwrap_or (option_map (λ (c : Collection). c.documents) (if b then Some c else collection_in cs space)) []) no_it)
      | inr others ↦
          ap (λ (b : Bool). documents_under (if b then without_collection at cs else c ∷ without_collection at cs) space) others
          ∙ found_or (is_space space c.space) c (collection_in (without_collection at cs) space)
          ∙ ap (λ (l : List Fields). if is_space space c.space then c.documents else l) (removed_documents at cs space other)
          ∙ sym (found_or (is_space space c.space) c (collection_in cs space))
    ]

-- a change that leaves no documents as they were, and what it leaves of documents of other collections
pub changed_documents : (at : Space) (g : List Fields → List Fields) (cs : List Collection) (space : Space) → g [] ≡ [] → documents_under (change_documents at g cs) space ≡ (if is_space space at then g (documents_under cs space) else documents_under cs space)
changed_documents at g [] space none = elim (is_space space at) as (λ b. [] ≡ (if b then g [] else [])) [ true ↦ sym none | false ↦ refl ]
changed_documents at g (c ∷ cs) space none =
    elim (cases_Bool (is_space at c.space)) [
      | inl its ↦
          let e : at ≡ c.space = same_space at c.space its in
          ap (λ (b : Bool). documents_under (if b then record c { documents = g c.documents } ∷ cs else c ∷ change_documents at g cs) space) its
          ∙ found_or (is_space space c.space) (record c { documents = g c.documents }) (collection_in cs space)
          ∙ here (is_space space c.space)
          ∙ ap (λ (b : Bool). if b then g (documents_under (c ∷ cs) space) else documents_under (c ∷ cs) space) (ap (is_space space) (sym e))
      | inr others ↦
          ap (λ (b : Bool). documents_under (if b then record c { documents = g c.documents } ∷ cs else c ∷ change_documents at g cs) space) others
          ∙ found_or (is_space space c.space) c (collection_in (change_documents at g cs) space)
          ∙ ap (λ (l : List Fields). if is_space space c.space then c.documents else l) (changed_documents at g cs space none)
          ∙ there (is_space space c.space) (is_space space at) (λ h k. apart_from space at c.space others h k)
    ]
  where
    here : (b : Bool) → (if b then g c.documents else documents_under cs space) ≡ (if b then g (unwrap_or (option_map (λ (c : Collection). c.documents) (if b then Some c else collection_in cs space)) []) else unwrap_or (option_map (λ (c : Collection). c.documents) (if b then Some c else collection_in cs space)) [])
    here true = refl
    here false = refl

    there : (b d : Bool) → (b ≡ true → d ≡ true → ⊥)
        → (if b then c.documents else (if d then g (documents_under cs space) else documents_under cs space)) ≡ (if d then g (unwrap_or (option_map (λ (c : Collection). c.documents) (if b then Some c else collection_in cs space)) []) else unwrap_or (option_map (λ (c : Collection). c.documents) (if b then Some c else collection_in cs space)) [])
    there true true apart = absurd (apart refl refl)
    there true false apart = refl
    there false d apart = refl

-- ---- what commands leave of documents

pub with_no : (c : Condition) (d : Fields) (ds : List Fields) → meets c d ≡ false → filter (meets c) (d ∷ ds) ≡ filter (meets c) ds
with_no c d ds h = ap (λ (b : Bool). if b then d ∷ filter (meets c) ds else filter (meets c) ds) h

with_same : (c : Condition) (d : Fields) (ds es : List Fields) → filter (meets c) ds ≡ filter (meets c) es → filter (meets c) (d ∷ ds) ≡ filter (meets c) (d ∷ es)
with_same c d ds es h = ap (λ (l : List Fields). if meets c d then d ∷ l else l) h

written_none : (c : Condition) (ordered : Bool) (failures : List Failure) (n : ℕ) (ds : List Fields) → NoneMeets c ds → filter (meets c) (written ordered failures n ds) ≡ []
written_none c ordered failures n [] none = refl
written_none c ordered failures n (d ∷ ds) none =
    elim (is_listed n failures) as (λ t. filter (meets c) (if t then (if ordered then [] else written ordered failures (suc n) ds) else d ∷ written ordered failures (suc n) ds) ≡ []) [
      | true ↦ elim ordered as (λ o. filter (meets c) (if o then [] else written ordered failures (suc n) ds) ≡ []) [ true ↦ refl | false ↦ written_none c ordered failures (suc n) ds none.1 ]
      | false ↦ with_no c d (written ordered failures (suc n) ds) none.0 ∙ written_none c ordered failures (suc n) ds none.1
    ]

update_spares : (c : Condition) (conditions : List Condition) (many : Bool) (m : Modification) (ds : List Fields) → ((d : Fields) → matches conditions d ≡ true → (meets c d ≡ false) × (meets c (modified m d) ≡ false))
    → filter (meets c) (after_update conditions many m ds) ≡ filter (meets c) ds
update_spares c conditions many m [] spares = refl
update_spares c conditions many m (d ∷ ds) spares =
    elim (cases_Bool (matches conditions d)) [
      | inl its ↦
          let parts = spares d its in
          let rest : filter (meets c) (if many then after_update conditions many m ds else ds) ≡ filter (meets c) ds =
          elim many as (λ b. filter (meets c) (if b then after_update conditions many m ds else ds) ≡ filter (meets c) ds) [ true ↦ update_spares c conditions many m ds spares | false ↦ refl ] in
          ap (λ (b : Bool). filter (meets c) (if b then modified m d ∷ (if many then after_update conditions many m ds else ds) else d ∷ after_update conditions many m ds)) its
          ∙ with_no c (modified m d) (if many then after_update conditions many m ds else ds) parts.1 ∙ rest ∙ sym (with_no c d ds parts.0)
      | inr others ↦
          ap (λ (b : Bool). filter (meets c) (if b then modified m d ∷ (if many then after_update conditions many m ds else ds) else d ∷ after_update conditions many m ds)) others
          ∙ with_same c d (after_update conditions many m ds) ds (update_spares c conditions many m ds spares)
    ]

delete_spares : (c : Condition) (conditions : List Condition) (many : Bool) (ds : List Fields) → ((d : Fields) → matches conditions d ≡ true → meets c d ≡ false) → filter (meets c) (after_delete conditions many ds) ≡ filter (meets c) ds
delete_spares c conditions many [] spares = refl
delete_spares c conditions many (d ∷ ds) spares =
    elim (cases_Bool (matches conditions d)) [
      | inl its ↦
          let rest : filter (meets c) (if many then after_delete conditions many ds else ds) ≡ filter (meets c) ds =
          elim many as (λ b. filter (meets c) (if b then after_delete conditions many ds else ds) ≡ filter (meets c) ds) [ true ↦ delete_spares c conditions many ds spares | false ↦ refl ] in
          ap (λ (b : Bool). filter (meets c) (if b then (if many then after_delete conditions many ds else ds) else d ∷ after_delete conditions many ds)) its ∙ rest ∙ sym (with_no c d ds (spares d its))
      | inr others ↦
          ap (λ (b : Bool). filter (meets c) (if b then (if many then after_delete conditions many ds else ds) else d ∷ after_delete conditions many ds)) others
          ∙ with_same c d (after_delete conditions many ds) ds (delete_spares c conditions many ds spares)
    ]

-- documents of this collection stay where the new ones of another are put, and where new ones agree with them
abbrev MeetsSame : Condition → List Fields → List Fields → Type 0
MeetsSame c ds es = filter (meets c) ds ≡ filter (meets c) es

chosen_stays : (c : Condition) (b : Bool) (new old : List Fields) → (b ≡ true → MeetsSame c new old) → MeetsSame c (if b then new else old) old
chosen_stays c true new old h = h refl
chosen_stays c false new old h = refl

put_stays : (c : Condition) (s : State) (col : Collection) (at : Space) → (is_space at col.space ≡ true → MeetsSame c col.documents (documents_under s.collections at)) → MeetsSame c (documents_under (put_collection col s.collections) at) (documents_under s.collections at)
put_stays c s col at same = ap (filter (meets c)) (put_documents col s.collections at) ∙ chosen_stays c (is_space at col.space) col.documents (documents_under s.collections at) same

change_stays : (c : Condition) (s : State) (space at : Space) (g : List Fields → List Fields) → g [] ≡ [] → (is_space at space ≡ true → (ds : List Fields) → MeetsSame c (g ds) ds)
    → MeetsSame c (documents_under (change_documents space g s.collections) at) (documents_under s.collections at)
change_stays c s space at g none same =
    ap (filter (meets c)) (changed_documents space g s.collections at none)
    ∙ chosen_stays c (is_space at space) (g (documents_under s.collections at)) (documents_under s.collections at) (λ here. same here (documents_under s.collections at))

insert_stays : (c : Condition) (s : State) (space : Space) (ds : List Fields) (ordered : Bool) (failures : List Failure) (at : Space) → (is_space at space ≡ true → NoneMeets c ds) → is_space at space ≡ true
    → MeetsSame c (documents_of s space ++ written ordered failures 0 ds) (documents_under s.collections at)
insert_stays c s space ds ordered failures at spares here =
    filter-append (meets c) (documents_of s space) (written ordered failures 0 ds)
    ∙ ap (λ (l : List Fields). filter (meets c) (documents_of s space) ++ l) (written_none c ordered failures 0 ds (spares here))
    ∙ append-nil (filter (meets c) (documents_of s space))
    ∙ ap (λ (sp : Space). filter (meets c) (documents_of s sp)) (sym (same_space at space here))

cursor_stays : (c : Condition) (b : Bool) (s t : State) (at : Space) → t.collections ≡ s.collections → MeetsSame c (documents_under (if b then s else t).collections at) (documents_under s.collections at)
cursor_stays c true s t at same = refl
cursor_stays c false s t at same = ap (λ (cs : List Collection). filter (meets c) (documents_under cs at)) same

closed_stays : (c : Condition) (b : Bool) (s t : State) (at : Space) → t.collections ≡ s.collections → MeetsSame c (documents_under (if b then t else s).collections at) (documents_under s.collections at)
closed_stays c true s t at same = ap (λ (cs : List Collection). filter (meets c) (documents_under cs at)) same
closed_stays c false s t at same = refl

none_created : (s : State) (space at : Space) → collection_in s.collections space ≡ None → is_space at space ≡ true → [] ≡ documents_under s.collections at
none_created s space at none here =
    sym (ap (λ (o : Option Collection). unwrap_or (option_map (λ (c : Collection). c.documents) o) []) (ap (collection_in s.collections) (same_space at space here) ∙ none))

-- what a command spares stays behind it
effect_spares : (c : Condition) (s s' : State) (command : Asked) (reply : Told) (made : Made) (at : Space) → s'.collections ≡ s.collections → MayTell s s' command reply made → Spares command at c
    → MeetsSame c (documents_under (effect s' command reply).collections at) (documents_under s'.collections at)
unfolding effect
effect_spares c s s' (asks_insert space ds ordered) (inserted n failures) made at same may spares =
    put_stays c s' (record { space = space; documents = documents_of s' space ++ written ordered failures 0 ds; indexes = indexes_of s' space }) at (insert_stays c s' space ds ordered failures at spares)
effect_spares c s s' (asks_update space conditions m many) (updated n changed []) made at same may spares =
    change_stays c s' space at (after_update conditions many m) refl (λ here ds. update_spares c conditions many m ds (spares here))
effect_spares c s s' (asks_delete space conditions many) (deleted n []) made at same may spares = change_stays c s' space at (after_delete conditions many) refl (λ here ds. delete_spares c conditions many ds (spares here))
effect_spares c s s' (asks_create space) done made at same may spares =
    put_stays c s' (record { space = space; documents = []; indexes = indexes_of s' space }) at
    (λ here. ap (filter (meets c)) (none_created s' space at (ap (λ (cs : List Collection). collection_in cs space) same ∙ may.is_new) here))
effect_spares c s s' (asks_indexes space indexes) done made at same may spares =
    put_stays c s' (record { space = space; documents = documents_of s' space; indexes = with_indexes (indexes_of s' space) indexes }) at
    (λ here. ap (λ (sp : Space). filter (meets c) (documents_of s' sp)) (sym (same_space at space here)))
effect_spares c s s' (asks_drop space) done made at same may spares = ap (filter (meets c)) (removed_documents space s'.collections at spares)
effect_spares c s s' (asks_query q) (opened id space ds token time) made at same may spares = cursor_stays c (int_eq id (pos 0)) s' _ at refl
effect_spares c s s' (asks_watch w start) (opened id space ds token time) made at same may spares = cursor_stays c (int_eq id (pos 0)) s' _ at refl
effect_spares c s s' (asks_more id space) (gave left other ds token) made at same may spares = refl
effect_spares c s s' (asks_more id space) (refuses code labels) made at same may spares = closed_stays c (ends_cursor code) s' _ at refl
effect_spares c s s' (asks_kill ids) killed made at same may spares = refl
effect_spares c s s' command reply made at same may spares = refl

grown_collections : (s : State) (made : Made) → (grown s made).collections ≡ s.collections
unfolding grown
grown_collections s made = refl

-- the documents that a command spares stay
pub spared_stay : (s : State) (step : Step) (space : Space) (c : Condition) → May s (asked step.command) (told_at step) step.made → Spares (asked step.command) space c → LeavesThose s step space c
spared_stay s step space c may spares =
    effect_spares c s (grown s step.made) (asked step.command) (told_at step) step.made space (grown_collections s step.made) may.tells spares
    ∙ ap (λ (cs : List Collection). filter (meets c) (documents_under cs space)) (grown_collections s step.made)

-- a file stays where its record and its chunks do
pub parts_stay : (s : State) (step : Step) (b : Bucket) (id : Tree) → LeavesThose s step (files_space b) (has_value (codes "_id") id) → LeavesThose s step (chunks_space b) (has_value (codes "files_id") id) → LeavesFile s step b id
unfolding file_of
parts_stay s step b id records chunks = ap₂ (λ (rs cs : List Fields). record { records = rs; chunks = sorted by_number cs }) records chunks

-- ---- quiet histories

step_leaves : (history : List Step) (b : Bucket) (id : Tree) (p : ℕ) (step : Step) → slice_get history p ≡ Some step → LeavesFile (state_of (take p history)) step b id
    → file_of (state_of (take (suc p) history)) b id ≡ file_of (state_of (take p history)) b id
unfolding state_after
step_leaves history b id p step there leaves =
    ap (λ (l : List Step). file_of (state_of l) b id) (take_more history p step there) ∙ ap (λ (s : State). file_of s b id) (state_after-append nothing (take p history) (step ∷ [])) ∙ leaves

-- steps of which each leaves the file leave it together
pub quiet_stays : (history : List Step) (b : Bucket) (id : Tree) (from n : ℕ) → from + n ≤ length history
    → ((position : ℕ) (step : Step) → from ≤ position → position < from + n → slice_get history position ≡ Some step → LeavesFile (state_of (take position history)) step b id)
    → file_of (state_of (take (from + n) history)) b id ≡ file_of (state_of (take from history)) b id
quiet_stays history b id from zero within leaves = let e : from + 0 ≡ from = omega arith in ap (λ (k : ℕ). file_of (state_of (take k history)) b id) e
quiet_stays history b id from (suc n) within leaves =
    let e : from + suc n ≡ suc (from + n) = omega arith in
    let there = get_there history (from + n) (omega arith) in
    ap (λ (k : ℕ). file_of (state_of (take k history)) b id) e
    ∙ step_leaves history b id (from + n) there.0 there.1 (leaves (from + n) there.0 (omega arith) (omega arith) there.1)
    ∙ quiet_stays history b id from n (omega arith) (λ position step after before is. leaves position step after (omega arith) is)

pub quiet_file : (history : List Step) (b : Bucket) (id : Tree) (from upto : ℕ) → from ≤ upto → upto < length history → IsQuiet history [] b id from upto
    → file_of (state_of (take (suc upto) history)) b id ≡ file_of (state_of (take from history)) b id
quiet_file history b id from upto forward within quiet =
    let n : ℕ = suc upto - from in
    let e : from + n ≡ suc upto = omega arith in
    sym (ap (λ (k : ℕ). file_of (state_of (take k history)) b id) e)
    ∙ quiet_stays history b id from n (omega arith) (λ position step after before is. quiet position step after (omega arith) (λ own. let lt = own.1 in absurd (omega arith)) is)
