-- What stands in the store's content, by the state that it is.
use Rattle.std.proofs.Common.{◌≡◌, ℕ, ℤ, pos, suc, Bool, true, false, List, [], ◌∷◌, length, map, Option, Some, None, is_some, option_map, Result, Ok, Err, refl, sym, ap, ap₂, ◌∙◌, subst, inl, inr}
use Rattle.std.specs.Prelude.{if◌then◌else◌, unwrap_or, take, drop, codes, option_and_then, ◌||◌, Vec}
use Rattle.std.specs.List.{list_all}
use denote.Ref.{Bor}
use Rattle.std.specs.declared.alloc.Global.{Global}
use Rattle.std.specs.BTreeMap.{get}
use Rattle.std.specs.BTreeSet.{contains}
use Rattle.std.specs.Option.{option_copied}
use Rattle.std.specs.Ordering.{int_cmp, int_eq}
use Rattle.std.proofs.lemmas.List.{length-map}
use Rattle.mg_bson.specs.Tree.{Tree, Fields, Items, array, document, int32}
use Rattle.mg_bson.specs.Raw.{fields}
use Rattle.mg_bson.specs.Literal.{◌⇒◌⨾◌, empty}
use Rattle.mg_link.specs.Namespace.{Space, Target, space, target}
use Rattle.mg_server.specs.State.{Entry, Watch, Cursor, query, watching, State, Start, is_space, Index, collection_in, indexes_of}
use Rattle.mg_server.specs.Step.{documents_of}
use Rattle.mg_server.specs.Rules as rules
use Rattle.mg_server.specs.Rules.{Inserted, answer_insert, dropped_entries, bad_request, batch_id, batch_place, cursor_fields, fitting, id_unless, ids_if, is_watch_of, refused, watch_space, size_of, stamp_of, token_of, errors_field, inserted_reply, inserting, number_of, place_at, may_stay, where_ok, answer_query, batch_of_query, documents_of_items, first_held, id_while, map_ok, no_such_collection, or_code, query_id, query_space, deleted_reply}
use Rattle.mg_server.specs.Query.{id_index, index_listed, of_indexes, Query, read, result, through}
use Rattle.mg_server.specs.Commands.{query_by, KeepsId}
use Rattle.mg_server.specs.Write.{with_indexes, Modification, chosen, changing}
use Rattle.mg_server.specs.State as state
use Rattle.mg_query.specs.Numbering.{HaveNewIds, KeepsIdsThere, document_of, holds_id, indexed, indexes_there, stored, there, vec_cmp}
use Rattle.mg_query.specs.Indexing.{index_held}
use Rattle.mg_query.specs.declared.index.Index as code_index
use Rattle.mg_query.specs.Replies.{killed_with, found_with}
use Rattle.mg_store.specs.Answering.{AnswersAs}
use Rattle.mg_store.specs.Contents.{IsCursorAt, Represents, Settles, collection_at, moving, opening_effect, GoesOn, IsCursor, beginning, taking}
use Rattle.mg_store.specs.Holding.{AreExact, GivesBatch, IsWatch, entries_from}
use Rattle.mg_store.specs.Inserting.{Appends, Fits, new_documents}
use Rattle.mg_server.proofs.Cursoring.{not_zero}
use Rattle.mg_query.specs.Querying.{GivesDocuments, chosen_by, is_none, lent}
use Rattle.mg_query.specs.declared.batch.Batch.{Batch}
use Rattle.mg_query.specs.declared.collection.Collection.{Collection}
use Rattle.mg_query.specs.declared.refusal.Stop.{Stop}
use Rattle.mg_query.specs.declared.refusal.Stop.TheVariants as stops
use Rattle.mg_store.specs.declared.change.Events.{Events}
use Rattle.mg_store.specs.declared.change.ChangeEntry.{ChangeEntry}
use Rattle.mg_store.specs.declared.cursor.Cursor as code
use Rattle.mg_store.specs.declared.cursor.Found.{Found}
use Rattle.mg_store.specs.declared.cursor.Source.{Source}
use Rattle.mg_store.specs.declared.cursor.Source.TheVariants as sources
use Rattle.mg_store.specs.declared.cursor.Watch as held
use Rattle.mg_store.specs.declared.insert.Appended.{Appended}
use Rattle.mg_store.specs.declared.perform.Answer.{Answer}
use Rattle.mg_store.specs.declared.content.Content.{Content}
use Rattle.mg_store.specs.declared.content.Effect.{Effect}
use Rattle.mg_store.specs.declared.content.Effect.TheVariants as effects
use Rattle.mg_store.proofs.Entries.{length-entries}
use Rattle.mg_store.proofs.Settling.{settles}
use Rattle.mg_link.specs.declared.namespace.Namespace.{Namespace}
use Rattle.mg_server.specs.Filter.{Condition}
use Rattle.mg_query.specs.Asking.{Keyed, keyed}
use Rattle.mg_query.specs.Collecting.{AreDistinct}
use Rattle.mg_query.specs.declared.refusal.Refusal.{Refusal}
use Rattle.mg_query.proofs.Changing.{distinct_ids}
use Rattle.mg_store.specs.Rewriting.{Makes, Removes, all_fit, all_go, altering, MakesAllOr, RemovesAllOr}
use Rattle.mg_store.specs.declared.rewrite.Changes.{Changes}
use Rattle.mg_store.specs.declared.rewrite.Removals.{Removals}
use Rattle.mg_store.proofs.Rewriting.{chosen_is, delete_is, made_keyed, made_length, update_is}

pub changes-length : (c : Content) (s : State) (given : ℕ) → Represents c s given → length s.changes ≡ length c.changes.items
changes-length c s given h = ap length h.changes_are ∙ length-entries 0 c.changes.items

-- ---- collections

there_by : (o : Option (Bor Collection)) → there o ≡ unwrap_or (option_map stored (option_copied o)) []
there_by None = refl
there_by (Some b) = refl

pub there_is : (c : Content) (s : State) (given : ℕ) (sp : Space) (o : Option (Bor Collection)) → Represents c s given → option_copied o ≡ collection_at c.collections sp → there o ≡ documents_of s sp
there_is c s given sp o h e = there_by o ∙ ap (λ (x : Option Collection). unwrap_or (option_map stored x) []) e ∙ sym (ap (λ (x : Option (List Fields)). unwrap_or x []) (h.documents_are sp))

pub keeps_there : (c : Content) (s : State) (given : ℕ) (sp : Space) (o : Option (Bor Collection)) → Represents c s given → option_copied o ≡ collection_at c.collections sp → KeepsIdsThere o
keeps_there c s given sp None h e = tt
keeps_there c s given sp (Some b) h e = h.ids_are sp b.now (sym e)

-- ---- cursors

no_cursor : (o : Option Cursor) → IsCursorAt None o → o ≡ None
no_cursor None h = refl
no_cursor (Some c) h = absurd h

-- the cursor of the state that is held
pub record Holds (s : State) (id : ℤ) (cursor : code.Cursor) : Type 0 where
  pub cursor_at : Cursor
  pub stood : s.cursors id ≡ Some cursor_at
  pub is : IsCursor cursor cursor_at

is_held : (s : State) (id : ℤ) (cursor : code.Cursor) (o : Option Cursor) → s.cursors id ≡ o → IsCursorAt (Some cursor) o → Holds s id cursor
is_held s id cursor None e h = absurd h
is_held s id cursor (Some d) e h = record { cursor_at = d; stood = e; is = h }

pub cursor_some : (c : Content) (s : State) (given : ℕ) (id : ℤ) (cursor : code.Cursor) → Represents c s given → get int_cmp c.cursors id ≡ Some cursor → Holds s id cursor
cursor_some c s given id cursor h e = is_held s id cursor (s.cursors id) refl (subst (λ (o : Option code.Cursor). IsCursorAt o (s.cursors id)) e (h.cursors_are id))

-- the watch of a cursor that is held
pub record Watching (s : State) (id : ℤ) (held_watch : held.Watch) (place : ℕ) : Type 0 where
  pub watch : Watch
  pub watches : IsWatch held_watch watch
  pub stood : s.cursors id ≡ Some (watching watch place)

is_left : (s : State) (id : ℤ) (f : Found) (place : ℕ) (d : Cursor) → s.cursors id ≡ Some d → GoesOn (sources.Found f) place d → s.cursors id ≡ Some (query (space f.ns) (drop place (map fields f.documents.items)))
is_left s id f place (watching v at) e h = absurd h
is_left s id f place (query sp left) e h = e ∙ ap₂ (λ (x : Space) (l : List Fields). Some (query x l)) h.0 h.1

-- what a query found is left behind the place
pub found_held : (s : State) (id : ℤ) (cursor : code.Cursor) (f : Found) → Holds s id cursor → cursor.source ≡ sources.Found f → s.cursors id ≡ Some (query (space f.ns) (drop cursor.place (map fields f.documents.items)))
found_held s id cursor f h e = is_left s id f cursor.place h.cursor_at h.stood (subst (λ (x : Source). GoesOn x cursor.place h.cursor_at) e h.is)

-- ---- inserts

pub insert_settles : (c : Content) (s : State) (given : ℕ) (ns : Namespace) (ds : List Fields) (ordered : Bool) (o : Option (Bor Collection)) (a b : Appended) (d : Fields) (result : Result Answer Stop) → Represents c s given → option_copied o ≡ collection_at c.collections (space ns)
    → Appends (there o) (length c.changes.items) (inserting (space ns) ordered 0 (length c.changes.items) (there o) ds) a → b.documents ≡ a.documents → b.ids ≡ a.ids → b.entries ≡ a.entries
    → d ≡ ("n" ⇒ number_of (length a.documents.items) ⨾ errors_field a.errors ("ok" ⇒ int32 (pos 1) ⨾ empty)) → AnswersAs result d (effects.Insert ns b) → Settles s given (rules.insert (space ns) ds ordered) result
insert_settles c s given ns ds ordered o a b d result h found got docs ids es is answered =
    let before : there o ≡ documents_of s (space ns) = there_is c s given (space ns) o h found in
    let place : length c.changes.items ≡ length s.changes = sym (changes-length c s given h) in
    let i : Inserted = inserting (space ns) ordered 0 (length s.changes) (documents_of s (space ns)) ds in
    let known = subst (λ (l : List Fields). Appends l (length s.changes) (inserting (space ns) ordered 0 (length s.changes) l ds) a) before
    (subst (λ (n : ℕ). Appends (there o) n (inserting (space ns) ordered 0 n (there o) ds) a) place got) in
    let count : length a.documents.items ≡ length i.documents = sym (length-map a.documents.items document_of) ∙ ap length known.documents_are in
    let reply : d ≡ inserted_reply i = is ∙ ap₂ (λ (n : ℕ) (e : Items). "n" ⇒ number_of n ⨾ errors_field e ("ok" ⇒ int32 (pos 1) ⨾ empty)) count known.errors_are in
    let fits : Fits (documents_of s (space ns)) b = record {
      ids_are = λ k. ap (λ m. contains vec_cmp m k) ids ∙ known.fits.ids_are k ∙ ap (λ l. holds_id k.items (map document_of l.items)) (sym docs);
      new = subst (λ l. HaveNewIds (documents_of s (space ns)) l.items) (sym docs) known.fits.new;
      exact = subst (λ l. AreExact l.items) (sym es) known.fits.exact;
    } in
    settles s given (rules.insert (space ns) ds ordered) (answer_insert s (space ns) ds ordered) d (effects.Insert ns b) result refl reply
    (record { ns = ns; appended = b; is = refl; at = refl; documents_are = ap (λ l. map document_of l.items) docs ∙ known.documents_are; entries_are = ap (λ l. entries_from (length s.changes) l.items) es ∙ known.entries_are; fits = fits }) answered

-- ---- watches

abbrev pub opened_with : ℤ → Space → Items → ℕ → Tree → Fields
opened_with id sp events place time = "cursor" ⇒ document (cursor_fields id sp ("firstBatch" ⇒ array events ⨾ "postBatchResumeToken" ⇒ token_of place ⨾ empty)) ⨾ "operationTime" ⇒ time ⨾ "ok" ⇒ int32 (pos 1) ⨾ empty

pub watch_settles : (s : State) (given : ℕ) (w : Watch) (start : Start) (resumes : Bool) (size : Option ℕ) (from : ℕ) (batch : Events) (cw : held.Watch) (id : ℤ) (sp : Space) (d : Fields) (e : Effect) (result : Result Answer Stop) → place_at s w start resumes ≡ Ok from
    → IsWatch cw w → GivesBatch w s.changes from (size_of size) batch → id ≡ id_unless batch.ended (pos (suc given)) → sp ≡ watch_space w.target → e ≡ opening_effect batch.ended (pos (suc given)) (record { source = sources.Watch cw; place = batch.place })
    → d ≡ opened_with id sp batch.events batch.place (stamp_of (length s.changes)) → AnswersAs result d e → Settles s given (rules.watch w start resumes size) result
watch_settles s given w start resumes size from batch cw id sp d e result at watches got id_is sp_is effect is answered =
    let reply : ℕ → rules.Answer = λ f. rules.answer_with [] (rules.watch_reply s (pos (suc given)) w f (size_of size)) in
    let time : Tree = stamp_of (length s.changes) in
    settles s given (rules.watch w start resumes size) (reply from) d e result (ap (rules.map_ok reply) at)
    (is ∙ ap₂ (λ (x : ℤ) (y : Space). opened_with x y batch.events batch.place time) (id_is ∙ ap (λ (b : Bool). id_unless b (pos (suc given))) got.ended_is) sp_is
    ∙ ap₂ (λ (ts : Items) (p : ℕ). opened_with (batch_id (pos (suc given)) w s.changes from (batch_place w s.changes from (size_of size))) (watch_space w.target) ts p time) got.events_are got.place_is)
    (record {
      cursor = record { source = sources.Watch cw; place = batch.place };
      from = from;
      at = at;
      is = effect ∙ ap (λ (b : Bool). opening_effect b (pos (suc given)) (record { source = sources.Watch cw; place = batch.place })) got.ended_is;
      place = batch.place;
      watches = (watches, refl);
      place_is = got.place_is;
    })
    answered

-- ---- batches

abbrev pub next_with : ℤ → Space → Items → ℕ → Fields
next_with id sp events place = "cursor" ⇒ document (cursor_fields id sp ("nextBatch" ⇒ array events ⨾ "postBatchResumeToken" ⇒ token_of place ⨾ empty)) ⨾ "ok" ⇒ int32 (pos 1) ⨾ empty

pub more_settles : (s : State) (given : ℕ) (id : ℤ) (sp at : Space) (size : Option ℕ) (cw : held.Watch) (w : Watch) (from : ℕ) (batch : Events) (left : ℤ) (d : Fields) (e : Effect) (result : Result Answer Stop) → IsWatch cw w → s.cursors id ≡ Some (watching w from)
    → is_space sp at ≡ true → at ≡ watch_space (target cw.target) → GivesBatch w s.changes from (size_of size) batch → left ≡ id_unless batch.ended id → e ≡ moving batch.ended id batch.place → d ≡ next_with left sp batch.events batch.place → AnswersAs result d e
    → Settles s given (rules.more id sp size) result
more_settles s given id sp at size cw w from batch left d e result watches stood same named got left_is effect is answered =
    let place : ℕ = batch_place w s.changes from (size_of size) in
    let reply : rules.Answer = rules.answer_with [] (rules.more_reply s id sp w from (size_of size)) in
    let its : is_watch_of sp w ≡ true = ap (λ (t : Target). is_space sp (watch_space t)) watches.target_is ∙ sym (ap (is_space sp) named) ∙ same in
    let answers : rules.answer s (pos (suc given)) (rules.more id sp size) ≡ Ok reply = ap (rules.answer_more s id sp (size_of size)) stood ∙ ap (λ (b : Bool). if b then Ok reply else Err bad_request) its in
    settles s given (rules.more id sp size) reply d e result answers
    (is ∙ ap (λ (x : ℤ). next_with x sp batch.events batch.place) (left_is ∙ ap (λ (b : Bool). id_unless b id) got.ended_is) ∙ ap₂ (λ (ts : Items) (p : ℕ). next_with (batch_id id w s.changes from place) sp ts p) got.events_are got.place_is)
    (inl (record { watch = w; from = from; stood = stood; is = effect ∙ ap₂ (λ (b : Bool) (p : ℕ). moving b id p) got.ended_is got.place_is })) answered

-- a watch of another namespace
pub more_refused : (s : State) (given : ℕ) (id : ℤ) (sp at : Space) (size : Option ℕ) (cw : held.Watch) (w : Watch) (from : ℕ) → IsWatch cw w → s.cursors id ≡ Some (watching w from) → is_space sp at ≡ false → at ≡ watch_space (target cw.target)
    → fitting (rules.answer s (pos (suc given)) (rules.more id sp size)) ≡ refused bad_request
more_refused s given id sp at size cw w from watches stood other named =
    let its : is_watch_of sp w ≡ false = ap (λ (t : Target). is_space sp (watch_space t)) watches.target_is ∙ sym (ap (is_space sp) named) ∙ other in
    ap fitting (ap (rules.answer_more s id sp (size_of size)) stood ∙ ap (λ (b : Bool). if b then Ok (rules.answer_with [] (rules.more_reply s id sp w from (size_of size))) else Err bad_request) its)

-- ---- queries

is_last-id : (id : ℤ) (left : List Fields) (b : Bool) → b ≡ is_none left → (if b then pos 0 else id) ≡ id_while id left
is_last-id id [] b e = ap (λ (x : Bool). if x then pos 0 else id) e
is_last-id id (d ∷ ds) b e = ap (λ (x : Bool). if x then pos 0 else id) e

pub query_more_settles : (s : State) (given : ℕ) (id : ℤ) (sp other : Space) (size : Option ℕ) (left : List Fields) (batch : Batch) (d : Fields) (result : Result Answer Stop) → s.cursors id ≡ Some (query other left) → is_space sp other ≡ true
    → GivesDocuments left (size_of size) batch → d ≡ found_with (if batch.is_last then pos 0 else id) sp (codes "nextBatch") batch.documents → AnswersAs result d (taking batch.is_last id batch.count) → Settles s given (rules.more id sp size) result
query_more_settles s given id sp other size left batch d result stood same got is answered =
    let n : ℕ = batch_of_query (size_of size) left in
    let reply : rules.Answer = rules.answer_with [] (rules.query_more_reply id sp left (size_of size)) in
    let answers : rules.answer s (pos (suc given)) (rules.more id sp size) ≡ Ok reply = ap (rules.answer_more s id sp (size_of size)) stood ∙ ap (λ (b : Bool). if b then Ok reply else Err bad_request) same in
    settles s given (rules.more id sp size) reply d (taking batch.is_last id batch.count) result answers
    (is ∙ ap₂ (λ (x : ℤ) (ts : Items). found_with x sp (codes "nextBatch") ts) (is_last-id id (drop n left) batch.is_last got.end_is) got.documents_are)
    (inr (record { space = other; left = left; stood = stood; is = ap₂ (λ (b : Bool) (k : ℕ). taking b id k) got.end_is got.count_is })) answered

-- the answer of the rules to a query that found these
found_answer : (s : State) (id : ℤ) (q : Query) (ds : List Fields) → result s q ≡ Some ds → answer_query s id q ≡ Ok (rules.answer_with [] (rules.query_reply id q ds))
unfolding result
found_answer s id q ds e = by_rows (read s q.source) e
  where
    by_result : (o : Option (List Fields)) → o ≡ Some ds → map_ok (λ (r : List Fields). rules.answer_with [] (rules.query_reply id q r)) (or_code bad_request o) ≡ Ok (rules.answer_with [] (rules.query_reply id q ds))
    by_result None f = absurd cc
    by_result (Some r) f = let same : r ≡ ds = cc in ap (λ (x : List Fields). Ok (rules.answer_with [] (rules.query_reply id q x))) same

    by_rows : (o : Option (List Fields)) → option_and_then (through q.stages) o ≡ Some ds
        → where_ok (λ (rows : List Fields). map_ok (λ r. rules.answer_with [] (rules.query_reply id q r)) (or_code bad_request (through q.stages rows))) (or_code no_such_collection o) ≡ Ok (rules.answer_with [] (rules.query_reply id q ds))
    by_rows None f = absurd cc
    by_rows (Some rows) f = by_result (through q.stages rows) f

ends_zero : (ends : Bool) (given : ℕ) → int_eq (if ends then pos 0 else pos (suc given)) (pos 0) ≡ ends
ends_zero true given = refl
ends_zero false given = not_zero given

ends_id : (single last : Bool) (id : ℤ) (left : List Fields) → last ≡ is_none left → (if (single || last) then pos 0 else id) ≡ (if single then pos 0 else id_while id left)
ends_id true last id left e = refl
ends_id false last id left e = is_last-id id left last e

pub find_settles : (s : State) (given : ℕ) (q : Query) (found : Found) (single : Bool) (size : Option ℕ) (n : ℕ) (batch : Batch) (d : Fields) (result' : Result Answer Stop) → result s q ≡ Some (map fields found.documents.items) → query_space q.source ≡ space found.ns
    → q.single ≡ single → q.size ≡ size → n ≡ size_of size → GivesDocuments (map fields found.documents.items) n batch → d ≡ found_with (if (single || batch.is_last) then pos 0 else pos (suc given)) (space found.ns) (codes "firstBatch") batch.documents
    → AnswersAs result' d (beginning (single || batch.is_last) (pos (suc given)) found batch.count) → Settles s given (rules.find q) result'
find_settles s given q found single size n batch d result' these at one sized number got is answered =
    let ds : List Fields = map fields found.documents.items in
    let held_is : first_held q ds ≡ batch_of_query n ds = ap (λ (x : Option ℕ). batch_of_query (size_of x) ds) sized ∙ ap (λ (k : ℕ). batch_of_query k ds) (sym number) in
    let id_is : (if (single || batch.is_last) then pos 0 else pos (suc given)) ≡ query_id (pos (suc given)) q ds =
    ends_id single batch.is_last (pos (suc given)) (drop (batch_of_query n ds) ds) got.end_is ∙ ap₂ (λ (b : Bool) (k : ℕ). if b then pos 0 else id_while (pos (suc given)) (drop k ds)) (sym one) (sym held_is) in
    let ends_is : (single || batch.is_last) ≡ int_eq (query_id (pos (suc given)) q ds) (pos 0) = sym (ends_zero (single || batch.is_last) given) ∙ ap (λ (x : ℤ). int_eq x (pos 0)) id_is in
    let docs : batch.documents ≡ documents_of_items (take (first_held q ds) ds) = got.documents_are ∙ ap (λ (k : ℕ). documents_of_items (take k ds)) (sym held_is) in
    settles s given (rules.find q) (rules.answer_with [] (rules.query_reply (pos (suc given)) q ds)) d (beginning (single || batch.is_last) (pos (suc given)) found batch.count) result' (found_answer s (pos (suc given)) q ds these)
    (is ∙ ap₂ (λ (x : ℤ) (ts : Items). found_with x (space found.ns) (codes "firstBatch") ts) id_is docs ∙ ap (λ (x : Space). found_with (query_id (pos (suc given)) q ds) x (codes "firstBatch") (documents_of_items (take (first_held q ds) ds))) (sym at))
    (record { found = found; these = these; at = at; is = ap₂ (λ (b : Bool) (k : ℕ). beginning b (pos (suc given)) found k) ends_is (got.count_is ∙ sym held_is) }) answered

-- a query whose documents cannot be sorted
pub find_refused : (s : State) (given : ℕ) (q : Query) (rows : List Fields) → read s q.source ≡ Some rows → through q.stages rows ≡ None → fitting (rules.answer s (pos (suc given)) (rules.find q)) ≡ refused bad_request
find_refused s given q rows there none =
    let id : ℤ = pos (suc given) in
    ap (λ (o : Option (List Fields)). fitting (where_ok (λ (ds : List Fields). map_ok (λ r. rules.answer_with [] (rules.query_reply id q r)) (or_code bad_request (through q.stages ds))) (or_code no_such_collection o))) there
    ∙ ap (λ (o : Option (List Fields)). fitting (map_ok (λ (r : List Fields). rules.answer_with [] (rules.query_reply id q r)) (or_code bad_request o))) none

-- ---- kills

pub kill_settles : (s : State) (given : ℕ) (ids : List ℤ) (named : Vec ℤ Global) (killed not_found : Items) (d : Fields) (result : Result Answer Stop) → killed ≡ ids_if true s [] ids → not_found ≡ ids_if false s [] ids → named.items ≡ ids
    → d ≡ killed_with killed not_found → AnswersAs result d (effects.Kill named) → Settles s given (rules.kill ids) result
kill_settles s given ids named killed not_found d result a b these is answered =
    settles s given (rules.kill ids) (rules.answer_with [] (rules.killed_reply s ids)) d (effects.Kill named) result refl (is ∙ ap₂ killed_with a b) (record { named = named; is = refl; these = these }) answered

-- ---- batches of the content

pub batch_is : (c : Content) (s : State) (given : ℕ) (es : List ChangeEntry) (cw : held.Watch) (w : Watch) (from n : ℕ) (size : Option ℕ) (batch : Events) → Represents c s given → es ≡ c.changes.items → n ≡ size_of size → IsWatch cw w
    → ((v : Watch) → IsWatch cw v → AreExact es → GivesBatch v (entries_from 0 es) from n batch) → GivesBatch w s.changes from (size_of size) batch
batch_is c s given es cw w from n size batch h same number is got =
    let exact : AreExact es = subst AreExact (sym same) h.exact in
    let all : entries_from 0 es ≡ s.changes = ap (entries_from 0) same ∙ sym h.changes_are in
    subst (λ (m : ℕ). GivesBatch w s.changes from m batch) number (subst (λ (l : List Entry). GivesBatch w l from n batch) all (got w is exact))

some_held : (o : Option code.Cursor) (p : Option Cursor) → IsCursorAt o p → is_some p ≡ is_some o
some_held None None h = refl
some_held None (Some c) h = absurd h
some_held (Some c) None h = absurd h
some_held (Some c) (Some d) h = refl

pub held_is : (c : Content) (s : State) (given : ℕ) (id : ℤ) → Represents c s given → is_some (s.cursors id) ≡ is_some (get int_cmp c.cursors id)
held_is c s given id h = some_held (get int_cmp c.cursors id) (s.cursors id) (h.cursors_are id)

-- ---- collections and indexes

some_mapped : {A B : Type 0} (f : A → B) (o : Option A) → is_some (option_map f o) ≡ is_some o
some_mapped f None = refl
some_mapped f (Some x) = refl

-- a collection is there where the content has it
pub is_there : (c : Content) (s : State) (given : ℕ) (sp : Space) → Represents c s given → is_some (collection_in s.collections sp) ≡ is_some (collection_at c.collections sp)
is_there c s given sp h =
    sym (some_mapped (λ (x : state.Collection). x.documents) (collection_in s.collections sp)) ∙ ap is_some (h.documents_are sp) ∙ some_mapped stored (collection_at c.collections sp)

pub create_settles : (c : Content) (s : State) (given : ℕ) (ns : Namespace) (a : Appended) (d : Fields) (result : Result Answer Stop) → Represents c s given → is_some (collection_at c.collections (space ns)) ≡ false
    → new_documents a ≡ [] → a.entries.items ≡ [] → Fits [] a → d ≡ rules.done_reply → AnswersAs result d (effects.Insert ns a) → Settles s given (rules.create_collection (space ns)) result
create_settles c s given ns a d result h none documents entries fits is answered =
    settles s given (rules.create_collection (space ns)) (rules.answer_with [] rules.done_reply) d (effects.Insert ns a) result
    (ap (λ (b : Bool). if b then Err rules.collection_exists else Ok (rules.answer_with [] rules.done_reply)) (is_there c s given (space ns) h ∙ none)) is
    (record { ns = ns; appended = a; is = refl; at = refl; documents_are = documents; entries_are = entries; fits = fits }) answered

pub create_refused : (c : Content) (s : State) (given : ℕ) (sp : Space) → Represents c s given → is_some (collection_at c.collections sp) ≡ true → fitting (rules.answer s (pos (suc given)) (rules.create_collection sp)) ≡ refused rules.collection_exists
create_refused c s given sp h some = ap (λ (b : Bool). fitting (if b then Err rules.collection_exists else Ok (rules.answer_with [] rules.done_reply))) (is_there c s given sp h ∙ some)

indexes_by : (o : Option (Bor Collection)) → indexes_there o ≡ indexed (option_copied o)
indexes_by None = refl
indexes_by (Some b) = refl

-- the indexes of the collection
pub indexes_are : (c : Content) (s : State) (given : ℕ) (sp : Space) (o : Option (Bor Collection)) → Represents c s given → option_copied o ≡ collection_at c.collections sp → indexes_there o ≡ indexes_of s sp
indexes_are c s given sp o h e = indexes_by o ∙ ap indexed e ∙ sym (h.indexes_are sp)

pub indexes_settle : (s : State) (given : ℕ) (ns : Namespace) (more : List Index) (indexes : Vec code_index.Index Global) (d : Fields) (result : Result Answer Stop) → map index_held indexes.items ≡ with_indexes (indexes_of s (space ns)) more
    → list_all (λ (i : Index). may_stay (index_listed i)) (map index_held indexes.items) ≡ true → d ≡ rules.done_reply → AnswersAs result d (effects.Indexes ns indexes) → Settles s given (rules.create_indexes (space ns) more) result
indexes_settle s given ns more indexes d result these stay is answered =
    settles s given (rules.create_indexes (space ns) more) (rules.answer_with [] rules.done_reply) d (effects.Indexes ns indexes) result
    (ap (λ (b : Bool). if b then Ok (rules.answer_with [] rules.done_reply) else Err bad_request) (ap (list_all (λ (i : Index). may_stay (index_listed i))) (sym these) ∙ stay)) is
    (record { ns = ns; indexes = indexes; is = refl; at = refl; these = these }) answered

pub indexes_refused : (s : State) (given : ℕ) (sp : Space) (more held : List Index) → held ≡ with_indexes (indexes_of s sp) more → list_all (λ (i : Index). may_stay (index_listed i)) held ≡ false
    → fitting (rules.answer s (pos (suc given)) (rules.create_indexes sp more)) ≡ refused bad_request
indexes_refused s given sp more held these large =
    ap (λ (b : Bool). fitting (if b then Ok (rules.answer_with [] rules.done_reply) else Err bad_request)) (ap (list_all (λ (i : Index). may_stay (index_listed i))) (sym these) ∙ large)

-- ---- drops

pub drop_settles : (c : Content) (s : State) (given : ℕ) (ns : Namespace) (entries : Vec ChangeEntry Global) (d : Fields) (result : Result Answer Stop) → Represents c s given → is_some (collection_at c.collections (space ns)) ≡ true
    → entries_from (length c.changes.items) entries.items ≡ dropped_entries (length c.changes.items) (space ns) → AreExact entries.items → d ≡ rules.done_reply → AnswersAs result d (effects.Drop ns entries) → Settles s given (rules.drop_collection (space ns)) result
drop_settles c s given ns entries d result h there these exact is answered =
    let reply : rules.Answer = rules.answer_with (dropped_entries (length s.changes) (space ns)) rules.done_reply in
    settles s given (rules.drop_collection (space ns)) reply d (effects.Drop ns entries) result
    (ap (λ (b : Bool). if b then Ok reply else Err no_such_collection) (is_there c s given (space ns) h ∙ there)) is
    (record { ns = ns; entries = entries; is = refl; at = refl; entries_are = subst (λ (n : ℕ). entries_from n entries.items ≡ dropped_entries n (space ns)) (sym (changes-length c s given h)) these; exact = exact }) answered

pub drop_refused : (c : Content) (s : State) (given : ℕ) (sp : Space) → Represents c s given → is_some (collection_at c.collections sp) ≡ false → fitting (rules.answer s (pos (suc given)) (rules.drop_collection sp)) ≡ refused no_such_collection
drop_refused c s given sp h none = ap (λ (b : Bool). fitting (if b then Ok (rules.answer_with (dropped_entries (length s.changes) sp) rules.done_reply) else Err no_such_collection)) (is_there c s given sp h ∙ none)

-- ---- lists of indexes

indexes_read : (o : Option state.Collection) (l : List Index) → is_some o ≡ true → unwrap_or (option_map (λ (c : state.Collection). c.indexes) o) [] ≡ l → option_map (λ (c : state.Collection). map index_listed (id_index ∷ c.indexes)) o ≡ Some (map index_listed (id_index ∷ l))
indexes_read None l there e = absurd cc
indexes_read (Some c) l there e = ap (λ (x : List Index). Some (map index_listed (id_index ∷ x))) e

-- what a list of the indexes of a collection finds
pub indexes_found : (c : Content) (s : State) (given : ℕ) (sp : Space) (size : Option ℕ) (col : Collection) (found : List Fields) → Represents c s given → collection_at c.collections sp ≡ Some col → found ≡ map index_listed (id_index ∷ map index_held col.indexes.items)
    → result s (query_by (of_indexes sp) false [] size) ≡ Some found
unfolding result
indexes_found c s given sp size col found h there is =
    let known : option_map (λ (c : state.Collection). map index_listed (id_index ∷ c.indexes)) (collection_in s.collections sp) ≡ Some found =
    indexes_read (collection_in s.collections sp) (map index_held col.indexes.items) (is_there c s given sp h ∙ ap is_some there) (h.indexes_are sp ∙ ap indexed there) ∙ ap Some (sym is) in
    ap (option_and_then (through [])) known

none_is : {A : Type 0} (o : Option A) → is_some o ≡ false → o ≡ None
none_is None e = refl
none_is (Some x) e = absurd cc

-- those of a collection that is not there
pub indexes_missing : (c : Content) (s : State) (given : ℕ) (sp : Space) (size : Option ℕ) → Represents c s given → is_some (collection_at c.collections sp) ≡ false → fitting (rules.answer s (pos (suc given)) (rules.find (query_by (of_indexes sp) false [] size))) ≡ refused no_such_collection
indexes_missing c s given sp size h none =
    let id : ℤ = pos (suc given) in
    let q : Query = query_by (of_indexes sp) false [] size in
    let missing : collection_in s.collections sp ≡ None = none_is (collection_in s.collections sp) (is_there c s given sp h ∙ none) in
    ap (λ (o : Option state.Collection). fitting (where_ok (λ (ds : List Fields). map_ok (λ r. rules.answer_with [] (rules.query_reply id q r)) (or_code bad_request (through [] ds))) (or_code no_such_collection (option_map (λ (c : state.Collection). map index_listed (id_index ∷ c.indexes)) o)))) missing

-- ---- updates and deletes

-- no two documents that are there have the same id
pub distinct_there : (o : Option (Bor Collection)) → KeepsIdsThere o → AreDistinct (there o)
distinct_there None h = tt
distinct_there (Some b) h = distinct_ids b.now h

pub update_settles : (c : Content) (s : State) (given : ℕ) (ns : Namespace) (conditions : List Condition) (keys : List Keyed) (m : Modification) (many : Bool) (o : Option (Bor Collection)) (ds : List (Bor (List ℕ))) (made : Changes) (d : Fields) (result : Result Answer Stop)
    → Represents c s given → option_copied o ≡ collection_at c.collections (space ns) → KeepsId m → keys ≡ map keyed conditions → lent ds ≡ chosen_by keys many (there o) → AreDistinct (there o) → Makes (length c.changes.items) (space ns) m (lent ds) made
    → d ≡ rules.updated_reply (length ds) (length made.documents.items) → AnswersAs result d (effects.Change ns made) → Settles s given (rules.update (space ns) conditions m many) result
update_settles c s given ns conditions keys m many o ds made d result h found keeps same these distinct got is answered =
    let before : there o ≡ documents_of s (space ns) = there_is c s given (space ns) o h found in
    let place : length c.changes.items ≡ length s.changes = sym (changes-length c s given h) in
    let chosen_are : lent ds ≡ chosen conditions many (documents_of s (space ns)) = these ∙ chosen_is conditions keys many (there o) same ∙ ap (chosen conditions many) before in
    let known = subst (λ (l : List Fields). Makes (length s.changes) (space ns) m l made) chosen_are (subst (λ (n : ℕ). Makes n (space ns) m (lent ds) made) place got) in
    let changed : List Fields = changing conditions many m (documents_of s (space ns)) in
    let reply : rules.Answer = rules.answer_with (rules.modified_entries (length s.changes) (space ns) m changed) (rules.updated_reply (length (chosen conditions many (documents_of s (space ns)))) (length changed)) in
    let count : length ds ≡ length (chosen conditions many (documents_of s (space ns))) = sym (length-map ds (λ (x : Bor (List ℕ)). fields x.now)) ∙ ap length chosen_are in
    settles s given (rules.update (space ns) conditions m many) reply d (effects.Change ns made) result (ap (λ (b : Bool). if b then Ok reply else Err bad_request) known.fit)
    (is ∙ ap₂ rules.updated_reply count (made_length m changed made.documents.items known.made))
    (record {
      ns = ns;
      made = made;
      is = refl;
      at = refl;
      keyed = made_keyed m changed made.documents.items keeps known.made;
      exact = known.exact;
      documents_are = update_is conditions many m (documents_of s (space ns)) made.documents.items keeps (subst AreDistinct before distinct) known.same known.made;
      entries_are = known.entries_are;
    })
    answered

pub update_refused : (c : Content) (s : State) (given : ℕ) (sp : Space) (conditions : List Condition) (keys : List Keyed) (m : Modification) (many : Bool) (o : Option (Bor Collection)) (ds : List (Bor (List ℕ))) → Represents c s given → option_copied o ≡ collection_at c.collections sp
    → keys ≡ map keyed conditions → lent ds ≡ chosen_by keys many (there o) → all_fit (length c.changes.items) sp m (altering m (lent ds)) ≡ false → fitting (rules.answer s (pos (suc given)) (rules.update sp conditions m many)) ≡ refused bad_request
update_refused c s given sp conditions keys m many o ds h found same these large =
    let place : length c.changes.items ≡ length s.changes = sym (changes-length c s given h) in
    let chosen_are : lent ds ≡ chosen conditions many (documents_of s sp) = these ∙ chosen_is conditions keys many (there o) same ∙ ap (chosen conditions many) (there_is c s given sp o h found) in
    let never : all_fit (length s.changes) sp m (changing conditions many m (documents_of s sp)) ≡ false = ap₂ (λ (n : ℕ) (l : List Fields). all_fit n sp m (altering m l)) (sym place) (sym chosen_are) ∙ large in
    ap (λ (b : Bool). fitting (if b then Ok (rules.answer_with (rules.modified_entries (length s.changes) sp m (changing conditions many m (documents_of s sp)))
    (rules.updated_reply (length (chosen conditions many (documents_of s sp))) (length (changing conditions many m (documents_of s sp))))) else Err bad_request)) never

pub delete_settles : (c : Content) (s : State) (given : ℕ) (ns : Namespace) (conditions : List Condition) (keys : List Keyed) (many : Bool) (o : Option (Bor Collection)) (ds : List (Bor (List ℕ))) (gone : Removals) (d : Fields) (result : Result Answer Stop)
    → Represents c s given → option_copied o ≡ collection_at c.collections (space ns) → keys ≡ map keyed conditions → lent ds ≡ chosen_by keys many (there o) → AreDistinct (there o) → Removes (length c.changes.items) (space ns) (lent ds) gone
    → d ≡ deleted_reply (length ds) → AnswersAs result d (effects.Remove ns gone) → Settles s given (rules.delete (space ns) conditions many) result
delete_settles c s given ns conditions keys many o ds gone d result h found same these distinct got is answered =
    let before : there o ≡ documents_of s (space ns) = there_is c s given (space ns) o h found in
    let place : length c.changes.items ≡ length s.changes = sym (changes-length c s given h) in
    let all : List Fields = chosen conditions many (documents_of s (space ns)) in
    let chosen_are : lent ds ≡ all = these ∙ chosen_is conditions keys many (there o) same ∙ ap (chosen conditions many) before in
    let known = subst (λ (l : List Fields). Removes (length s.changes) (space ns) l gone) chosen_are (subst (λ (n : ℕ). Removes n (space ns) (lent ds) gone) place got) in
    let reply : rules.Answer = rules.answer_with (rules.deleted_entries (length s.changes) (space ns) all) (deleted_reply (length all)) in
    let count : length ds ≡ length all = sym (length-map ds (λ (x : Bor (List ℕ)). fields x.now)) ∙ ap length chosen_are in
    settles s given (rules.delete (space ns) conditions many) reply d (effects.Remove ns gone) result (ap (λ (b : Bool). if b then Ok reply else Err bad_request) known.fit)
    (is ∙ ap deleted_reply count)
    (record {
      ns = ns;
      gone = gone;
      is = refl;
      at = refl;
      exact = known.exact;
      documents_are = delete_is conditions many (documents_of s (space ns)) gone.ids.items (subst AreDistinct before distinct) known.ids;
      entries_are = known.entries_are;
    })
    answered

pub delete_refused : (c : Content) (s : State) (given : ℕ) (sp : Space) (conditions : List Condition) (keys : List Keyed) (many : Bool) (o : Option (Bor Collection)) (ds : List (Bor (List ℕ))) → Represents c s given → option_copied o ≡ collection_at c.collections sp
    → keys ≡ map keyed conditions → lent ds ≡ chosen_by keys many (there o) → all_go (length c.changes.items) sp (lent ds) ≡ false → fitting (rules.answer s (pos (suc given)) (rules.delete sp conditions many)) ≡ refused bad_request
delete_refused c s given sp conditions keys many o ds h found same these large =
    let place : length c.changes.items ≡ length s.changes = sym (changes-length c s given h) in
    let chosen_are : lent ds ≡ chosen conditions many (documents_of s sp) = these ∙ chosen_is conditions keys many (there o) same ∙ ap (chosen conditions many) (there_is c s given sp o h found) in
    let never : all_go (length s.changes) sp (chosen conditions many (documents_of s sp)) ≡ false = ap₂ (λ (n : ℕ) (l : List Fields). all_go n sp l) (sym place) (sym chosen_are) ∙ large in
    ap (λ (b : Bool). fitting (if b then Ok (rules.answer_with (rules.deleted_entries (length s.changes) sp (chosen conditions many (documents_of s sp))) (deleted_reply (length (chosen conditions many (documents_of s sp))))) else Err bad_request)) never

-- an update that stops is out of memory, or is refused by its limits
pub update_stops : (c : Content) (s : State) (given : ℕ) (sp : Space) (conditions : List Condition) (keys : List Keyed) (m : Modification) (many : Bool) (o : Option (Bor Collection)) (ds slice : List (Bor (List ℕ))) (n : ℕ) (stop : Stop) → Represents c s given
    → option_copied o ≡ collection_at c.collections sp → keys ≡ map keyed conditions → lent ds ≡ chosen_by keys many (there o) → slice ≡ ds → n ≡ length c.changes.items → MakesAllOr n sp m (lent slice) (Err stop) → Settles s given (rules.update sp conditions m many) (Err stop)
update_stops c s given sp conditions keys m many o ds slice n stops.Memory h found same these all place got = tt
update_stops c s given sp conditions keys m many o ds slice n (stops.Refused refusal) h found same these all place got =
    let never = ap₂ (λ (k : ℕ) (l : List (Bor (List ℕ))). all_fit k sp m (altering m (lent l))) (sym place) (sym all) ∙ got.1 in
    subst (λ (r : Refusal). Settles s given (rules.update sp conditions m many) (Err (stops.Refused r))) (sym got.0) (update_refused c s given sp conditions keys m many o ds h found same these never, tt)

pub delete_stops : (c : Content) (s : State) (given : ℕ) (sp : Space) (conditions : List Condition) (keys : List Keyed) (many : Bool) (o : Option (Bor Collection)) (ds slice : List (Bor (List ℕ))) (n : ℕ) (stop : Stop) → Represents c s given
    → option_copied o ≡ collection_at c.collections sp → keys ≡ map keyed conditions → lent ds ≡ chosen_by keys many (there o) → slice ≡ ds → n ≡ length c.changes.items → RemovesAllOr n sp (lent slice) (Err stop) → Settles s given (rules.delete sp conditions many) (Err stop)
delete_stops c s given sp conditions keys many o ds slice n stops.Memory h found same these all place got = tt
delete_stops c s given sp conditions keys many o ds slice n (stops.Refused refusal) h found same these all place got =
    let never = ap₂ (λ (k : ℕ) (l : List (Bor (List ℕ))). all_go k sp (lent l)) (sym place) (sym all) ∙ got.1 in
    subst (λ (r : Refusal). Settles s given (rules.delete sp conditions many) (Err (stops.Refused r))) (sym got.0) (delete_refused c s given sp conditions keys many o ds h found same these never, tt)
