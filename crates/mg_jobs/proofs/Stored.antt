-- The documents that the store holds are short and flat, whatever mild commands it took.
use Rattle.std.proofs.Common.{◌≡◌, ◌≤◌, ◌++◌, ℕ, suc, zero, ℤ, pos, Bool, true, false, List, [], ◌∷◌, length, take, Option, Some, None, Result, Ok, Err, refl, sym, ap, ◌∙◌, subst, inl, inr}
use Rattle.std.specs.Prelude.{if◌then◌else◌, codes, nat_le, option_map, unwrap_or}
use Rattle.std.specs.List.{filter}
use Rattle.std.specs.Ordering.{int_eq}
use Rattle.std.proofs.lemmas.Bool.{cases_Bool, and_parts, leb-true}
use Rattle.mg_bson.specs.Tree.{Tree, Fields}
use Rattle.mg_bson.specs.Bytes.{bytes, levels}
use Rattle.mg_bson.specs.Find.{get}
use Rattle.mg_bson.specs.Raw.{fields}
use Rattle.mg_server.specs.Commands.{Asked, Failure, Told, asked, asks_create, asks_delete, asks_drop, asks_indexes, asks_insert, asks_kill, asks_more, asks_query, asks_update, asks_watch, deleted, done, gave, inserted, killed, opened, refuses, told}
use Rattle.mg_server.specs.Filter.{Condition, matches}
use Rattle.mg_server.specs.Kept.{Follows, Kept, by_choice, by_rules, made_of, state_behind}
use Rattle.mg_link.specs.Namespace.{Space}
use Rattle.mg_server.specs.Rules.{Answer, Inserted, Request, accept, answer, answer_insert, answer_of, bad_request, choose, create_collection, create_indexes, delete, drop_collection, duplicate_id, find, has_id, id_or_code, insert, insert_entry, inserted_reply, inserting, is_storable, kill, max_document, max_stored_levels, more, no_more, refusal, update, watch, with_document, with_error}
use Rattle.mg_server.specs.State.{Collection, Cursor, State, change_documents, collection_in, comes_before, indexes_of, is_space, put_collection}
use Rattle.mg_server.specs.Step.{Made, documents_of, effect, ends_cursor, grown, written}
use Rattle.mg_server.specs.Write.{after_delete, chosen, with_indexes}
use Rattle.mg_server.proofs.Allowed.{Rule, answers_by, refuses_by, rule_is}
use Rattle.mg_server.proofs.Inserting.{failing, inserting_is}
use Rattle.mg_server.proofs.Requests.{asked_is, asks_of}
use Rattle.mg_server.proofs.Telling.{insert_tells, refusal_tells, told_reads}
use Rattle.mg_jobs.proofs.Mild.{IsMild, IsMildCommand}

-- ---- documents

-- as small and as flat as one that is stored
abbrev pub IsStored : Fields → Type 0
IsStored d = (length (bytes d) ≤ max_document) × (levels d ≤ max_stored_levels)

abbrev pub AreShort : List Fields → Type 0
AreShort [] = Unit {0}
AreShort (d ∷ ds) = IsStored d × AreShort ds

short_on : (ds es : List Fields) → AreShort ds → AreShort es → AreShort (ds ++ es)
short_on [] es a b = b
short_on (d ∷ ds) es a b = (a.0, short_on ds es a.1 b)

pub short_first : (n : ℕ) (ds : List Fields) → AreShort ds → AreShort (take n ds)
short_first zero ds a = tt
short_first (suc n) [] a = tt
short_first (suc n) (d ∷ ds) a = (a.0, short_first n ds a.1)

matching_by : (b : Bool) (d : Fields) (ds : List Fields) → IsStored d → AreShort ds → AreShort (if b then d ∷ ds else ds)
matching_by true d ds few a = (few, a)
matching_by false d ds few a = a

pub matching_short : (conditions : List Condition) (ds : List Fields) → AreShort ds → AreShort (filter (matches conditions) ds)
matching_short conditions [] a = tt
matching_short conditions (d ∷ ds) a = matching_by (matches conditions d) d (filter (matches conditions) ds) a.0 (matching_short conditions ds a.1)

first_by : (many : Bool) (ds : List Fields) → AreShort ds → AreShort (if many then ds else take 1 ds)
first_by true ds a = a
first_by false ds a = short_first 1 ds a

-- those that a delete is for
pub chosen_short : (conditions : List Condition) (many : Bool) (ds : List Fields) → AreShort ds → AreShort (chosen conditions many ds)
chosen_short conditions many ds a = first_by many (filter (matches conditions) ds) (matching_short conditions ds a)

left_by : (goes many : Bool) (d : Fields) (ds left : List Fields) → AreShort (d ∷ ds) → AreShort left → AreShort (if goes then (if many then left else ds) else d ∷ left)
left_by true true d ds left a b = b
left_by true false d ds left a b = a.1
left_by false many d ds left a b = (a.0, b)

-- and those that it leaves
left_short : (conditions : List Condition) (many : Bool) (ds : List Fields) → AreShort ds → AreShort (after_delete conditions many ds)
left_short conditions many [] a = tt
left_short conditions many (d ∷ ds) a = left_by (matches conditions d) many d ds (after_delete conditions many ds) a (left_short conditions many ds a.1)

-- ---- what an insert takes

id_there : (there : List Fields) (o : Option Tree) (id : Tree) → id_or_code there o ≡ Ok id → o ≡ Some id
id_there there None id h = absurd cc
id_there there (Some other) id h = elim (cases_Bool (has_id other there)) [
  | inl twice ↦ (let bad : Err duplicate_id ≡ Ok id = sym (ap (λ (b : Bool). if b then Err duplicate_id else Ok other) twice) ∙ h in absurd cc)
  | inr once ↦ (let e : Ok other ≡ Ok id = sym (ap (λ (b : Bool). if b then Err duplicate_id else Ok other) once) ∙ h in cc)
]

pub record IsAccepted (d : Fields) (id : Tree) : Type 0 where
  pub few : length (bytes d) ≤ max_document
  pub flat : levels d ≤ max_stored_levels
  pub there : get (codes "_id") d ≡ Some id

pub accepted : (there : List Fields) (d : Fields) (id : Tree) → accept there d ≡ Ok id → IsAccepted d id
accepted there d id h = elim (cases_Bool (is_storable d)) [
  | inl may ↦
      let parts = and_parts (nat_le (length (bytes d)) max_document) (nat_le (levels d) max_stored_levels) may in
      let e : id_or_code there (get (codes "_id") d) ≡ Ok id = sym (ap (λ (b : Bool). if b then id_or_code there (get (codes "_id") d) else Err bad_request) may) ∙ h in
      record { few = leb-true (length (bytes d)) max_document parts.0; flat = leb-true (levels d) max_stored_levels parts.1; there = id_there there (get (codes "_id") d) id e }
  | inr not ↦ (let bad : Err bad_request ≡ Ok id = sym (ap (λ (b : Bool). if b then id_or_code there (get (codes "_id") d) else Err bad_request) not) ∙ h in absurd cc)
]

taken_by : (r : Result Tree ℤ) (with_id : Tree → Inserted) (without : ℤ → Inserted) → ((id : Tree) → r ≡ Ok id → AreShort (with_id id).documents) → ((code : ℤ) → AreShort (without code).documents) → AreShort (choose r with_id without).documents
taken_by (Ok id) with_id without a b = a id refl
taken_by (Err code) with_id without a b = b code

taken_cut : (ordered : Bool) (i : Inserted) → AreShort i.documents → AreShort (if ordered then no_more else i).documents
taken_cut true i a = tt
taken_cut false i a = a

-- the documents that an insert appends
inserting_short : (space : Space) (ordered : Bool) (index place : ℕ) (there ds : List Fields) → AreShort (inserting space ordered index place there ds).documents
unfolding inserting
inserting_short space ordered index place there [] = tt
inserting_short space ordered index place there (d ∷ ds) =
    taken_by (accept there d) (λ id. with_document d (insert_entry (suc place) space id d) (inserting space ordered (suc index) (suc place) (there ++ d ∷ []) ds))
    (λ code. with_error index code (if ordered then no_more else inserting space ordered (suc index) place there ds))
    (λ id is. (((accepted there d id is).few, (accepted there d id is).flat), inserting_short space ordered (suc index) (suc place) (there ++ d ∷ []) ds))
    (λ code. taken_cut ordered (inserting space ordered (suc index) place there ds) (inserting_short space ordered (suc index) place there ds))

-- ---- collections

abbrev pub HaveShort : List Collection → Type 0
HaveShort [] = Unit {0}
HaveShort (c ∷ cs) = AreShort c.documents × HaveShort cs

there_by : (b : Bool) (c : Collection) (o : Option Collection) → AreShort c.documents → AreShort (unwrap_or (option_map (λ (c : Collection). c.documents) o) []) → AreShort (unwrap_or (option_map (λ (c : Collection). c.documents) (if b then Some c else o)) [])
there_by true c o a b = a
there_by false c o a b = b

there_short : (cs : List Collection) (space : Space) → HaveShort cs → AreShort (unwrap_or (option_map (λ (c : Collection). c.documents) (collection_in cs space)) [])
there_short [] space h = tt
there_short (c ∷ cs) space h = there_by (is_space space c.space) c (collection_in cs space) h.0 (there_short cs space h.1)

-- those of one collection
pub documents_short : (s : State) (space : Space) → HaveShort s.collections → AreShort (documents_of s space)
documents_short s space h = there_short s.collections space h

put_by : (a b : Bool) (c d : Collection) (ds rest : List Collection) → AreShort c.documents → HaveShort (d ∷ ds) → HaveShort rest → HaveShort (if a then c ∷ ds else (if b then c ∷ d ∷ ds else d ∷ rest))
put_by true b c d ds rest new h others = (new, h.1)
put_by false true c d ds rest new h others = (new, h)
put_by false false c d ds rest new h others = (h.0, others)

put_short : (c : Collection) (cs : List Collection) → AreShort c.documents → HaveShort cs → HaveShort (put_collection c cs)
put_short c [] new h = (new, tt)
put_short c (d ∷ ds) new h = put_by (is_space d.space c.space) (comes_before c.space d.space) c d ds (put_collection c ds) new h (put_short c ds new h.1)

changed_by : (b : Bool) (c : Collection) (ds : List Fields) (cs changed : List Collection) → AreShort ds → HaveShort (c ∷ cs) → HaveShort changed → HaveShort (if b then record c { documents = ds } ∷ cs else c ∷ changed)
changed_by true c ds cs changed new h others = (new, h.1)
changed_by false c ds cs changed new h others = (h.0, others)

changed_short : (space : Space) (g : List Fields → List Fields) → ((ds : List Fields) → AreShort ds → AreShort (g ds)) → (cs : List Collection) → HaveShort cs → HaveShort (change_documents space g cs)
changed_short space g each [] h = tt
changed_short space g each (c ∷ cs) h = changed_by (is_space space c.space) c (g c.documents) cs (change_documents space g cs) (each c.documents h.0) h (changed_short space g each cs h.1)

-- ---- steps

-- what neither inserts nor updates, and drops nothing
abbrev IsCalm : Asked → Type 0
IsCalm (asks_insert space documents ordered) = ⊥
IsCalm (asks_update space conditions modification many) = ⊥
IsCalm (asks_drop space) = ⊥
IsCalm command = Unit {0}

opened_short : (b : Bool) (s : State) (cursors : ℤ → Option Cursor) (ids : ℤ → Bool) → HaveShort s.collections → HaveShort (if b then s else record s { cursors = cursors; given = ids }).collections
opened_short true s cursors ids h = h
opened_short false s cursors ids h = h

ended_short : (b : Bool) (s : State) (cursors : ℤ → Option Cursor) → HaveShort s.collections → HaveShort (if b then record s { cursors = cursors } else s).collections
ended_short true s cursors h = h
ended_short false s cursors h = h

effect_short : (s : State) (command : Asked) (reply : Told) → IsCalm command → HaveShort s.collections → HaveShort (effect s command reply).collections
unfolding effect
effect_short s (asks_insert space documents ordered) reply calm h = absurd calm
effect_short s (asks_update space conditions m many) reply calm h = absurd calm
effect_short s (asks_drop space) reply calm h = absurd calm
effect_short s (asks_delete space conditions many) (deleted n []) calm h = changed_short space (after_delete conditions many) (left_short conditions many) s.collections h
effect_short s (asks_create space) done calm h = put_short (record { space = space; documents = []; indexes = indexes_of s space }) s.collections tt h
effect_short s (asks_indexes space indexes) done calm h = put_short (record { space = space; documents = documents_of s space; indexes = with_indexes (indexes_of s space) indexes }) s.collections (documents_short s space h) h
effect_short s (asks_query q) (opened id at documents token time) calm h = opened_short (int_eq id (pos 0)) s _ _ h
effect_short s (asks_watch w start) (opened id at events token time) calm h = opened_short (int_eq id (pos 0)) s _ _ h
effect_short s (asks_more id space) (gave left at events token) calm h = h
effect_short s (asks_more id space) (refuses code labels) calm h = ended_short (ends_cursor code) s _ h
effect_short s (asks_kill ids) killed calm h = h
effect_short s command reply calm h = h

inserted_short : (s : State) (space : Space) (ds : List Fields) (ordered : Bool) (n : ℤ) (failures : List Failure) → AreShort (written ordered failures 0 ds) → HaveShort s.collections → HaveShort (effect s (asks_insert space ds ordered) (inserted n failures)).collections
unfolding effect
inserted_short s space ds ordered n failures new h =
    put_short (record { space = space; documents = documents_of s space ++ written ordered failures 0 ds; indexes = indexes_of s space }) s.collections
    (short_on (documents_of s space) (written ordered failures 0 ds) (documents_short s space h) new) h

refused_short : (s : State) (command : Asked) (code : ℤ) (labels : List (List ℕ)) → HaveShort s.collections → HaveShort (effect s command (refuses code labels)).collections
unfolding effect
refused_short s (asks_more id space) code labels h = ended_short (ends_cursor code) s _ h
refused_short s command code labels h = h

grown_short : (s : State) (made : Made) → HaveShort s.collections → HaveShort (grown s made).collections
unfolding grown
grown_short s made h = h

module _ (s : State) (made : Made) (command reply : List ℕ) (h : HaveShort s.collections) where
  abbrev Stays : Type 0
  Stays = HaveShort (effect (grown s made) (asked command) (told (asked command) reply)).collections

  refusing : (code : ℤ) (labels : List (List ℕ)) → fields reply ≡ refusal code labels → Stays
  refusing code labels read =
      subst (λ (t : Told). HaveShort (effect (grown s made) (asked command) t).collections) (sym (told_reads (asked command) reply (refusal code labels) read ∙ refusal_tells (asked command) code labels))
      (refused_short (grown s made) (asked command) code labels (grown_short s made h))

  calmly : (a : Asked) → asked command ≡ a → IsCalm a → Stays
  calmly a is calm = effect_short (grown s made) (asked command) (told (asked command) reply) (subst IsCalm (sym is) calm) (grown_short s made h)

  by_insert : (space : Space) (ds : List Fields) (ordered : Bool) → asked command ≡ asks_insert space ds ordered → fields reply ≡ (answer_insert s space ds ordered).reply → Stays
  by_insert space ds ordered is read =
      let i = inserting space ordered 0 (length s.changes) (documents_of s space) ds in
      let failures = failing ordered 0 (documents_of s space) ds in
      let by = inserting_is space ordered 0 (length s.changes) (documents_of s space) ds in
      let tells : told (asks_insert space ds ordered) reply ≡ inserted (pos (length i.documents)) failures = told_reads (asks_insert space ds ordered) reply (inserted_reply i) read ∙ insert_tells space ds ordered i failures by.failures_are by.errors_keep in
      let new : AreShort (written ordered failures 0 ds) = subst AreShort (sym (by.written_are failures (λ m le. refl))) (inserting_short space ordered 0 (length s.changes) (documents_of s space) ds) in
      subst (λ (a : Asked). HaveShort (effect (grown s made) a (told a reply)).collections) (sym is)
      (subst (λ (t : Told). HaveShort (effect (grown s made) (asks_insert space ds ordered) t).collections) (sym tells) (inserted_short (grown s made) space ds ordered (pos (length i.documents)) failures new (grown_short s made h)))

  answering : (id : ℤ) (r : Request) (a : Answer) → IsMild r → asked command ≡ asks_of r → answer s id r ≡ Ok a → fields reply ≡ a.reply → Stays
  answering id (insert space ds ordered) a mild is answers read =
      let same : answer_insert s space ds ordered ≡ a = cc in
      by_insert space ds ordered is (read ∙ sym (ap (λ (x : Answer). x.reply) same))
  answering id (find q) a mild is answers read = calmly (asks_query q) is tt
  answering id (watch w start resumes size) a mild is answers read = calmly (asks_watch w start) is tt
  answering id (more cursor space size) a mild is answers read = calmly (asks_more cursor space) is tt
  answering id (kill ids) a mild is answers read = calmly (asks_kill ids) is tt
  answering id (create_collection space) a mild is answers read = calmly (asks_create space) is tt
  answering id (create_indexes space indexes) a mild is answers read = calmly (asks_indexes space indexes) is tt
  answering id (update space conditions m many) a mild is answers read = absurd mild
  answering id (delete space conditions many) a mild is answers read = calmly (asks_delete space conditions many) is tt
  answering id (drop_collection space) a mild is answers read = absurd mild

  by_rule : (id : ℤ) (o : Answer) → IsMildCommand (fields command) → Rule s id (fields command) o → fields reply ≡ o.reply → Stays
  by_rule id o mild (refuses_by code is) read = refusing code [] (read ∙ ap (λ (x : Answer). x.reply) is)
  by_rule id o mild (answers_by r a asks answers is) read = answering id r a (mild r asks) (asked_is command r asks) answers (read ∙ ap (λ (x : Answer). x.reply) is)

-- They are so behind a step whose reply is that of the rules, or a chosen refusal.
pub stays_short : (s : State) (given : ℕ) (started : Bool) (k : Kept) → IsMildCommand (fields k.command) → Follows s given k → HaveShort s.collections → HaveShort (state_behind s given started k).collections
stays_short s given started k mild (by_rules is) h = by_rule s (made_of s given started k) k.command k.reply h (pos (suc given)) (answer_of s (pos (suc given)) (fields k.command)) mild (rule_is s (pos (suc given)) (fields k.command)) is.read_back
stays_short s given started k mild (by_choice code labels is) h = refusing s (made_of s given started k) k.command k.reply h code labels is.read_back
