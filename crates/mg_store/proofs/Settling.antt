-- From the answer to a request to that of a command, and to the state behind its step.
use Rattle.std.proofs.Common.{◌≡◌, ◌⊎◌, inl, inr, ℕ, ℤ, pos, suc, Bool, true, false, List, [], ◌++◌, ◌<◌, ◌^◌, length, Option, Some, None, Result, Ok, Err, codes, refl, sym, ap, ap₂, ◌∙◌, subst, append-nil, option_map, ◌∷◌}
use Rattle.std.specs.Prelude.{IfOk, if◌then◌else◌, unwrap_or, map, drop, ◌&&◌}
use Rattle.std.specs.List.{list_all}
use Rattle.std.specs.Ordering.{int_eq}
use Rattle.std.specs.Str.{bytes_eq}
use Rattle.std.proofs.lemmas.Bool.{cases_Bool}
use Rattle.mg_bson.specs.Tree.{Fields, no_fields, field}
use Rattle.mg_bson.specs.Bytes.{bytes}
use Rattle.mg_bson.specs.Raw.{fields}
use Rattle.mg_link.specs.Namespace.{Space, space}
use Rattle.mg_server.specs.State.{Entry, Watch, Cursor, watching, Collection, Index, State, collection_in, indexes_of, is_space, documents_at, put_cursor, without_cursors, query, put_documents, changed_documents}
use Rattle.mg_server.specs.Commands.{Asked, asks_more, asked}
use Rattle.mg_server.specs.Step.{documents_of, ends_cursor, cursors_refused}
use Rattle.mg_server.specs.Query.{index_listed}
use Rattle.mg_server.specs.Write.{with_indexes, after_delete, after_update, changing, chosen, modified}
use Rattle.mg_server.specs.Rules as rules
use Rattle.mg_server.specs.Rules.{Inserted, answer, answer_insert, answer_of, where_ok, bad_request, batch_place, ends_watch, fitting, inserting, insert_request, kill_request, more_request, or_code, refusal, refused, request_of, size_of, unknown_command, watch_reply, may_stay, create_request, indexes_request, drop_request, list_collections_request, list_indexes_request, dropped_entries, batch_of_query, find_request, first_held, query_id, query_space, aggregate_request, update_request, delete_request, modified_entries, deleted_entries, events_may_be_given, updated_reply, deleted_reply}
use Rattle.mg_server.specs.Kept.{Kept, state_behind, given_after, IsStoreState}
use Rattle.mg_server.proofs.Requests.{asked_is, asks_of}
use Rattle.mg_server.proofs.Behind.{Parts, behind_insert, behind_kill, behind_more, behind_refusal, behind_watch, cursor_moved, cursors_opened, given_opened, behind_create, behind_indexes, behind_drop, behind_find, behind_query_more, cursors_found, given_found, rest_of, behind_update, behind_delete}
use Rattle.mg_server.proofs.Allowed.{answered_if, create_ok, drop_ok, found_by, query_id-is}
use Rattle.mg_server.proofs.Collections.{same_space}
use Rattle.mg_server.proofs.Cursoring.{same_int, not_zero}
use Rattle.mg_server.proofs.Indexed.{HasIndexesOf, LeavesIndexes, indexes_created, indexes_dropped, indexes_refused, indexes_stay}
use Rattle.mg_query.specs.Querying.{is_none}
use Rattle.mg_query.specs.Replies.{IsWritten, fits}
use Rattle.mg_query.specs.Wanted.{refusal_code}
use Rattle.mg_query.specs.declared.refusal.Refusal.{Refusal}
use Rattle.mg_query.specs.declared.refusal.Refusal.TheVariants as refusals
use Rattle.mg_query.specs.declared.refusal.Stop.{Stop}
use Rattle.mg_query.specs.declared.refusal.Stop.TheVariants as stops
use Rattle.mg_query.specs.Collecting.{exchange_documents, without_documents}
use Rattle.mg_store.specs.Answering.{AnswersAs, Replies}
use Rattle.mg_store.specs.Contents.{AnswersBy, AnswersOr, Becomes, Does, EffectOf, LosesNone, Misses, Settled, Settles, moving, opening_effect, indexes_behind, beginning, taking, IsCursor}
use Rattle.mg_store.specs.Holding.{AreExact, entries_from}
use Rattle.mg_store.specs.Inserting.{Fits, new_documents}
use Rattle.mg_store.specs.declared.cursor.Found.{Found}
use Rattle.mg_store.specs.declared.cursor.Cursor as code
use Rattle.mg_store.specs.declared.perform.Answer.{Answer}
use Rattle.mg_store.specs.declared.content.Effect.{Effect}
use Rattle.mg_store.specs.declared.content.Effect.TheVariants as effects

-- a reply that fits settles the request, and one that does not is refused
pub settles : (s : State) (given : ℕ) (r : rules.Request) (a : rules.Answer) (d : Fields) (e : Effect) (result : Result Answer Stop) → answer s (pos (suc given)) r ≡ Ok a → d ≡ a.reply → EffectOf s given r e → AnswersAs result d e → Settles s given r result
settles s given r a d e (Ok ans) answers is effect got = record { by_rules = a; answers = answers; written = subst (λ (x : Fields). IsWritten x ans.reply) is got.reply; effect = subst (EffectOf s given r) (sym got.effect_is) effect }
settles s given r a d e (Err stops.Memory) answers is effect got = tt
settles s given r a d e (Err (stops.Refused refusal)) answers is effect got = (
  ap fitting answers ∙ ap (λ (b : Bool). if b then a else refused bad_request) (ap fits (sym is) ∙ got.1) ∙ ap (λ (x : Refusal). refused (refusal_code x)) (sym got.0),
  subst (λ (x : Refusal). Misses s x r) (sym got.0) tt,
)

-- ---- the state behind a step

becomes : (s : State) (given : ℕ) (documents : Space → Option (List Fields)) (changes : List Entry) (cursors : ℤ → Option Cursor) (given' : ℕ) → Parts s given documents changes cursors given' → Becomes s given documents changes cursors given'
becomes s given documents changes cursors given' p =
    record { documents_are = p.documents_are; changes_are = p.changes_are; cursors_are = λ id. ap (λ (f : ℤ → Option Cursor). f id) p.cursors_are; given_are = p.given_are }

-- what the opening of a watch does, by whether that ended
opening_does : (ended : Bool) (s s' : State) (given given' : ℕ) (w : Watch) (cursor : code.Cursor) (at place : ℕ) → IsCursor cursor (watching w at) → at ≡ place → Parts s' given' (documents_at s) s.changes (cursors_opened ended given (watching w place) s.cursors) (given_opened ended given)
    → Does (opening_effect ended (pos (suc given)) cursor) s given s' given'
opening_does true s s' given given' w cursor at place watches same p = becomes _ _ _ _ _ _ p
opening_does false s s' given given' w cursor at place watches same p =
    (watching w at, watches, refl, subst (λ (n : ℕ). Becomes s' given' (documents_at s) s.changes (put_cursor (pos (suc given)) (Some (watching w n)) s.cursors) (suc given)) (sym same) (becomes _ _ _ _ _ _ p))

-- what a batch does to its cursor
moving_does : (ended : Bool) (s s' : State) (given given' : ℕ) (id : ℤ) (w : Watch) (from place : ℕ) → s.cursors id ≡ Some (watching w from) → Parts s' given' (documents_at s) s.changes (put_cursor id (cursor_moved ended (watching w place)) s.cursors) given
    → Does (moving ended id place) s given s' given'
moving_does true s s' given given' id w from place stood p = becomes _ _ _ _ _ _ p
moving_does false s s' given given' id w from place stood p = (w, from, stood, becomes _ _ _ _ _ _ p)

-- neither has anything to do with indexes
opening_leaves : (ended : Bool) (id : ℤ) (cursor : code.Cursor) (s : State) (sp : Space) → indexes_behind (opening_effect ended id cursor) s sp ≡ indexes_of s sp
opening_leaves true id cursor s sp = refl
opening_leaves false id cursor s sp = refl

moving_leaves : (ended : Bool) (id : ℤ) (place : ℕ) (s : State) (sp : Space) → indexes_behind (moving ended id place) s sp ≡ indexes_of s sp
moving_leaves true id place s sp = refl
moving_leaves false id place s sp = refl

beginning_leaves : (ended : Bool) (id : ℤ) (found : Found) (place : ℕ) (s : State) (sp : Space) → indexes_behind (beginning ended id found place) s sp ≡ indexes_of s sp
beginning_leaves true id found place s sp = refl
beginning_leaves false id found place s sp = refl

taking_leaves : (ended : Bool) (id : ℤ) (count : ℕ) (s : State) (sp : Space) → indexes_behind (taking ended id count) s sp ≡ indexes_of s sp
taking_leaves true id count s sp = refl
taking_leaves false id count s sp = refl

-- the effect leads to the state behind a step of this command and reply
abbrev DoesOn : State → ℕ → List ℕ → Answer → Type 0
DoesOn s given command a = (started : Bool) (kept : Kept) → kept.command ≡ command → kept.reply ≡ a.reply → IsStoreState s given started → length s.changes < 2 ^ 64
    → Does a.effect s given (state_behind s given started kept) (given_after given kept)

-- ---- queries

some_inner : (xs ys : List Fields) → Some xs ≡ Some ys → xs ≡ ys
some_inner xs ys e = cc

-- a batch of a query takes its documents, or ends the cursor
takes_does : (s s' : State) (given given' : ℕ) (id : ℤ) (sp : Space) (left : List Fields) (n : ℕ) (rest : List Fields) → drop n left ≡ rest → s.cursors id ≡ Some (query sp left) → Becomes s' given' (documents_at s) s.changes (put_cursor id (rest_of sp (drop n left)) s.cursors) given
    → Does (taking (is_none (drop n left)) id n) s given s' given'
takes_does s s' given given' id sp left n [] e stood h =
    subst (λ (l : List Fields). Does (taking (is_none l) id n) s given s' given') (sym e) (subst (λ (l : List Fields). Becomes s' given' (documents_at s) s.changes (put_cursor id (rest_of sp l) s.cursors) given) e h)
takes_does s s' given given' id sp left n (d ∷ ds) e stood h =
    let some = subst (λ (l : List Fields). Becomes s' given' (documents_at s) s.changes (put_cursor id (rest_of sp l) s.cursors) given) e h in
    let back = subst (λ (l : List Fields). Becomes s' given' (documents_at s) s.changes (put_cursor id (Some (query sp l)) s.cursors) given) (sym e) some in
    subst (λ (l : List Fields). Does (taking (is_none l) id n) s given s' given') (sym e) (sp, left, stood, back)

-- a query opens a cursor of what is left, or none
begins_does : (s s' : State) (given given' : ℕ) (found : Found) (id : ℤ) (n : ℕ) (sp : Space) → sp ≡ space found.ns → (id ≡ pos 0) ⊎ (id ≡ pos (suc given))
    → Becomes s' given' (documents_at s) s.changes (cursors_found id (query sp (drop n (map fields found.documents.items))) s.cursors) (given_found id given) → Does (beginning (int_eq id (pos 0)) (pos (suc given)) found n) s given s' given'
begins_does s s' given given' found id n sp at (inl none) h =
    let left : Cursor = query sp (drop n (map fields found.documents.items)) in
    subst (λ (x : ℤ). Does (beginning (int_eq x (pos 0)) (pos (suc given)) found n) s given s' given') (sym none) (subst (λ (x : ℤ). Becomes s' given' (documents_at s) s.changes (cursors_found x left s.cursors) (given_found x given)) none h)
begins_does s s' given given' found id n sp at (inr next) h =
    let left : Cursor = query sp (drop n (map fields found.documents.items)) in
    let there = subst (λ (x : ℤ). Becomes s' given' (documents_at s) s.changes (cursors_found x left s.cursors) (given_found x given)) next h in
    let put = subst (λ (b : Bool). Becomes s' given' (documents_at s) s.changes (if b then s.cursors else put_cursor (pos (suc given)) (Some left) s.cursors) (if b then given else suc given)) (not_zero given) there in
    subst (λ (x : ℤ). Does (beginning (int_eq x (pos 0)) (pos (suc given)) found n) s given s' given') (sym next)
    (subst (λ (b : Bool). Does (beginning b (pos (suc given)) found n) s given s' given') (sym (not_zero given)) (left, (at, refl), refl, put))

-- ---- updates and deletes

-- another function that makes the same of these documents
rewritten_if : (b : Bool) (g f : List Fields → List Fields) (o p : Option (List Fields)) → (b ≡ true → o ≡ p) → g (unwrap_or p []) ≡ f (unwrap_or p []) → (if b then option_map f o else o) ≡ (if b then option_map g o else o)
rewritten_if true g f o None at e = ap (option_map f) (at refl) ∙ sym (ap (option_map g) (at refl))
rewritten_if true g f o (Some ds) at e = ap (option_map f) (at refl) ∙ ap Some (sym e) ∙ sym (ap (option_map g) (at refl))
rewritten_if false g f o p at e = refl

rewritten : (s' s : State) (given' given : ℕ) (sp : Space) (g f : List Fields → List Fields) (changes : List Entry) → g (documents_of s sp) ≡ f (documents_of s sp)
    → Becomes s' given' (changed_documents sp f (documents_at s)) changes s.cursors given → Becomes s' given' (changed_documents sp g (documents_at s)) changes s.cursors given
rewritten s' s given' given sp g f changes e h = record {
  documents_are = λ other. h.documents_are other ∙ rewritten_if (is_space other sp) g f (documents_at s other) (documents_at s sp) (λ here. ap (documents_at s) (same_space other sp here)) e;
  changes_are = h.changes_are;
  cursors_are = h.cursors_are;
  given_are = h.given_are;
}

module _ (s : State) (given : ℕ) (command : List ℕ) (a : Answer) (by_rules : rules.Answer) (answers_are : answer_of s (pos (suc given)) (fields command) ≡ by_rules) (written : fields a.reply ≡ by_rules.reply) where
  same_answer : (kept : Kept) → kept.command ≡ command → answer_of s (pos (suc given)) (fields kept.command) ≡ by_rules
  same_answer kept e = ap (λ (c : List ℕ). answer_of s (pos (suc given)) (fields c)) e ∙ answers_are

  same_reply : (kept : Kept) → kept.reply ≡ a.reply → fields kept.reply ≡ by_rules.reply
  same_reply kept e = ap fields e ∙ written

  same_request : (kept : Kept) (r : rules.Request) → kept.command ≡ command → request_of (fields command) ≡ Ok r → request_of (fields kept.command) ≡ Ok r
  same_request kept r e asks = ap (λ (c : List ℕ). request_of (fields c)) e ∙ asks

  inner : (x y : rules.Answer) → ◌≡◌ {A = Result rules.Answer ℤ} (Ok x) (Ok y) → y ≡ x
  inner x y e = cc

  if_known : (b : Bool) (x y : rules.Answer) → ◌≡◌ {A = Result rules.Answer ℤ} (if b then Ok x else Err bad_request) (Ok y) → y ≡ x
  if_known true x y e = cc
  if_known false x y e = cc

  leads_by : (r : rules.Request) → request_of (fields command) ≡ Ok r → answer s (pos (suc given)) r ≡ Ok by_rules → EffectOf s given r a.effect → DoesOn s given command a
  leads_by (rules.insert sp ds ordered) asks answers effect started kept is_command is_reply h lt =
      let i : Inserted = inserting sp ordered 0 (length s.changes) (documents_of s sp) ds in
      let known : by_rules ≡ answer_insert s sp ds ordered = inner (answer_insert s sp ds ordered) by_rules answers in
      let parts = behind_insert s given started kept sp ds ordered (same_request kept (rules.insert sp ds ordered) is_command asks) (same_answer kept is_command ∙ known) (same_reply kept is_reply ∙ ap (λ (x : rules.Answer). x.reply) known) in
      let there = subst (λ (x : Space). Becomes (state_behind s given started kept) (given_after given kept) (put_documents x (Some (documents_of s x ++ i.documents)) (documents_at s)) (s.changes ++ i.entries) s.cursors given) (sym effect.at) (becomes _ _ _ _ _ _ parts) in
      let docs = subst (λ (l : List Fields). Becomes (state_behind s given started kept) (given_after given kept) (put_documents (space effect.ns) (Some (documents_of s (space effect.ns) ++ l)) (documents_at s)) (s.changes ++ i.entries) s.cursors given) (sym effect.documents_are) there in
      let all = subst (λ (l : List Entry). Becomes (state_behind s given started kept) (given_after given kept) (put_documents (space effect.ns) (Some (documents_of s (space effect.ns) ++ new_documents effect.appended)) (documents_at s)) (s.changes ++ l) s.cursors given) (sym effect.entries_are) docs in
      subst (λ (e : Effect). Does e s given (state_behind s given started kept) (given_after given kept)) (sym effect.is)
      (subst (λ (x : Space). Fits (documents_of s x) effect.appended) (sym effect.at) effect.fits, all)
  leads_by (rules.find q) asks answers effect started kept is_command is_reply h lt =
      let ds : List Fields = map fields effect.found.documents.items in
      let found = found_by s (pos (suc given)) q by_rules answers in
      let same : found.documents ≡ ds = some_inner found.documents ds (sym found.these ∙ effect.these) in
      let known : by_rules ≡ rules.answer_with [] (rules.query_reply (pos (suc given)) q ds) = sym found.is ∙ ap (λ (l : List Fields). rules.answer_with [] (rules.query_reply (pos (suc given)) q l)) same in
      let parts = behind_find s given started kept q ds (same_request kept (rules.find q) is_command asks) effect.these (same_answer kept is_command ∙ known) (same_reply kept is_reply ∙ ap (λ (x : rules.Answer). x.reply) known) in
      subst (λ (e : Effect). Does e s given (state_behind s given started kept) (given_after given kept)) (sym effect.is)
      (begins_does s (state_behind s given started kept) given (given_after given kept) effect.found (query_id (pos (suc given)) q ds) (first_held q ds) (query_space q.source) effect.at (query_id-is (pos (suc given)) q ds) (becomes _ _ _ _ _ _ parts))
  leads_by (rules.watch w start resumes size) asks answers effect started kept is_command is_reply h lt =
      let reply : ℕ → rules.Answer = λ from. rules.answer_with [] (watch_reply s (pos (suc given)) w from (size_of size)) in
      let known : by_rules ≡ reply effect.from = inner _ by_rules (sym (ap (rules.map_ok reply) effect.at) ∙ answers) in
      let parts = behind_watch s given started kept w start resumes size effect.from (size_of size) h lt (same_request kept (rules.watch w start resumes size) is_command asks) effect.at (same_answer kept is_command ∙ known) (same_reply kept is_reply ∙ ap (λ (x : rules.Answer). x.reply) known) in
      subst (λ (e : Effect). Does e s given (state_behind s given started kept) (given_after given kept)) (sym effect.is)
      (opening_does (ends_watch w s.changes effect.from (batch_place w s.changes effect.from (size_of size))) s (state_behind s given started kept) given (given_after given kept) w effect.cursor effect.place (batch_place w s.changes effect.from (size_of size)) effect.watches effect.place_is parts)
  leads_by (rules.more id sp size) asks answers (inl moves) started kept is_command is_reply h lt =
      let w : Watch = moves.watch in
      let given_answer : answer s (pos (suc given)) (rules.more id sp size) ≡ (if rules.is_watch_of sp w then Ok (rules.answer_with [] (rules.more_reply s id sp w moves.from (size_of size))) else Err bad_request) = ap (rules.answer_more s id sp (size_of size)) moves.stood in
      let known : by_rules ≡ rules.answer_with [] (rules.more_reply s id sp w moves.from (size_of size)) = if_known (rules.is_watch_of sp w) _ by_rules (sym given_answer ∙ answers) in
      let parts = behind_more s given started kept id sp size w moves.from (size_of size) h lt (same_request kept (rules.more id sp size) is_command asks) moves.stood (same_answer kept is_command ∙ known) (same_reply kept is_reply ∙ ap (λ (x : rules.Answer). x.reply) known) in
      subst (λ (e : Effect). Does e s given (state_behind s given started kept) (given_after given kept)) (sym moves.is)
      (moving_does (ends_watch w s.changes moves.from (batch_place w s.changes moves.from (size_of size))) s (state_behind s given started kept) given (given_after given kept) id w moves.from (batch_place w s.changes moves.from (size_of size)) moves.stood parts)
  leads_by (rules.more id sp size) asks answers (inr takes) started kept is_command is_reply h lt =
      let n : ℕ = batch_of_query (size_of size) takes.left in
      let given_answer : answer s (pos (suc given)) (rules.more id sp size) ≡ (if is_space sp takes.space then Ok (rules.answer_with [] (rules.query_more_reply id sp takes.left (size_of size))) else Err bad_request) = ap (rules.answer_more s id sp (size_of size)) takes.stood in
      let known : by_rules ≡ rules.answer_with [] (rules.query_more_reply id sp takes.left (size_of size)) = if_known (is_space sp takes.space) _ by_rules (sym given_answer ∙ answers) in
      let parts = behind_query_more s given started kept id sp takes.space size takes.left (size_of size) h (same_request kept (rules.more id sp size) is_command asks) takes.stood (same_answer kept is_command ∙ known) (same_reply kept is_reply ∙ ap (λ (x : rules.Answer). x.reply) known) in
      subst (λ (e : Effect). Does e s given (state_behind s given started kept) (given_after given kept)) (sym takes.is)
      (takes_does s (state_behind s given started kept) given (given_after given kept) id takes.space takes.left n (drop n takes.left) refl takes.stood (becomes _ _ _ _ _ _ parts))
  leads_by (rules.kill ids) asks answers effect started kept is_command is_reply h lt =
      let known : by_rules ≡ rules.answer_with [] (rules.killed_reply s ids) = inner _ by_rules answers in
      let parts = behind_kill s given started kept ids (same_request kept (rules.kill ids) is_command asks) (same_answer kept is_command ∙ known) (same_reply kept is_reply ∙ ap (λ (x : rules.Answer). x.reply) known) in
      subst (λ (e : Effect). Does e s given (state_behind s given started kept) (given_after given kept)) (sym effect.is)
      (subst (λ (l : List ℤ). Becomes (state_behind s given started kept) (given_after given kept) (documents_at s) s.changes (without_cursors l s.cursors) given) (sym effect.these) (becomes _ _ _ _ _ _ parts))
  leads_by (rules.create_collection sp) asks answers effect started kept is_command is_reply h lt =
      let none = create_ok (collection_in s.collections sp) by_rules answers in
      let parts = behind_create s given started kept sp (same_request kept (rules.create_collection sp) is_command asks) (same_answer kept is_command ∙ sym none.1) (same_reply kept is_reply ∙ ap (λ (x : rules.Answer). x.reply) (sym none.1)) in
      let empty : documents_of s sp ≡ [] = ap (λ (o : Option Collection). unwrap_or (option_map (λ (c : Collection). c.documents) o) []) none.0 in
      let docs : [] ≡ documents_of s sp ++ new_documents effect.appended = sym (ap₂ (λ (x y : List Fields). x ++ y) empty effect.documents_are) in
      let logged : s.changes ≡ s.changes ++ entries_from (length s.changes) effect.appended.entries.items = sym (ap (λ l. s.changes ++ entries_from (length s.changes) l) effect.entries_are ∙ append-nil s.changes) in
      let there = subst (λ (l : List Fields). Becomes (state_behind s given started kept) (given_after given kept) (put_documents sp (Some l) (documents_at s)) s.changes s.cursors given) docs (becomes _ _ _ _ _ _ parts) in
      let all = subst (λ (l : List Entry). Becomes (state_behind s given started kept) (given_after given kept) (put_documents sp (Some (documents_of s sp ++ new_documents effect.appended)) (documents_at s)) l s.cursors given) logged there in
      subst (λ (e : Effect). Does e s given (state_behind s given started kept) (given_after given kept)) (sym effect.is)
      (subst (λ (x : Space). Fits (documents_of s x) effect.appended × Becomes (state_behind s given started kept) (given_after given kept) (put_documents x (Some (documents_of s x ++ new_documents effect.appended)) (documents_at s)) (s.changes ++ entries_from (length s.changes) effect.appended.entries.items) s.cursors given) (sym effect.at)
      (subst (λ (l : List Fields). Fits l effect.appended) (sym empty) effect.fits, all))
  leads_by (rules.create_indexes sp indexes) asks answers effect started kept is_command is_reply h lt =
      let known = answered_if (list_all (λ (i : Index). may_stay (index_listed i)) (with_indexes (indexes_of s sp) indexes)) (rules.answer_with [] rules.done_reply) by_rules answers in
      let parts = behind_indexes s given started kept sp indexes (same_request kept (rules.create_indexes sp indexes) is_command asks) (same_answer kept is_command ∙ sym known.1) (same_reply kept is_reply ∙ ap (λ (x : rules.Answer). x.reply) (sym known.1)) in
      subst (λ (e : Effect). Does e s given (state_behind s given started kept) (given_after given kept)) (sym effect.is)
      (subst (λ (x : Space). Becomes (state_behind s given started kept) (given_after given kept) (put_documents x (Some (documents_of s x)) (documents_at s)) s.changes s.cursors given) (sym effect.at) (becomes _ _ _ _ _ _ parts))
  leads_by (rules.drop_collection sp) asks answers effect started kept is_command is_reply h lt =
      let entries : List Entry = dropped_entries (length s.changes) sp in
      let there = drop_ok (collection_in s.collections sp) (rules.answer_with entries rules.done_reply) by_rules answers in
      let parts = behind_drop s given started kept sp (same_request kept (rules.drop_collection sp) is_command asks) (same_answer kept is_command ∙ sym there.2) (same_reply kept is_reply ∙ ap (λ (x : rules.Answer). x.reply) (sym there.2)) in
      let all = subst (λ (l : List Entry). Becomes (state_behind s given started kept) (given_after given kept) (put_documents sp None (documents_at s)) (s.changes ++ l) s.cursors given) (sym effect.entries_are) (becomes _ _ _ _ _ _ parts) in
      subst (λ (e : Effect). Does e s given (state_behind s given started kept) (given_after given kept)) (sym effect.is)
      (subst (λ (x : Space). AreExact effect.entries.items × Becomes (state_behind s given started kept) (given_after given kept) (put_documents x None (documents_at s)) (s.changes ++ entries_from (length s.changes) effect.entries.items) s.cursors given) (sym effect.at) (effect.exact, all))
  leads_by (rules.update sp conditions m many) asks answers effect started kept is_command is_reply h lt =
      let ds : List Fields = documents_of s sp in
      let changed : List Fields = changing conditions many m ds in
      let entries : List Entry = modified_entries (length s.changes) sp m changed in
      let known = answered_if (list_all may_stay (map (modified m) changed) && events_may_be_given entries) (rules.answer_with entries (updated_reply (length (chosen conditions many ds)) (length changed))) by_rules answers in
      let parts = behind_update s given started kept sp conditions m many (length (chosen conditions many ds)) (length changed) entries (same_request kept (rules.update sp conditions m many) is_command asks) (same_answer kept is_command ∙ sym known.1) (same_reply kept is_reply ∙ ap (λ (x : rules.Answer). x.reply) (sym known.1)) in
      let docs = rewritten (state_behind s given started kept) s (given_after given kept) given sp (exchange_documents effect.made.documents.items) (after_update conditions many m) (s.changes ++ entries) effect.documents_are (becomes _ _ _ _ _ _ parts) in
      let all = subst (λ (l : List Entry). Becomes (state_behind s given started kept) (given_after given kept) (changed_documents sp (exchange_documents effect.made.documents.items) (documents_at s)) (s.changes ++ l) s.cursors given) (sym effect.entries_are) docs in
      subst (λ (e : Effect). Does e s given (state_behind s given started kept) (given_after given kept)) (sym effect.is)
      (effect.keyed, effect.exact, subst (λ (x : Space). Becomes (state_behind s given started kept) (given_after given kept) (changed_documents x (exchange_documents effect.made.documents.items) (documents_at s)) (s.changes ++ entries_from (length s.changes) effect.made.entries.items) s.cursors given) (sym effect.at) all)
  leads_by (rules.delete sp conditions many) asks answers effect started kept is_command is_reply h lt =
      let gone : List Fields = chosen conditions many (documents_of s sp) in
      let entries : List Entry = deleted_entries (length s.changes) sp gone in
      let known = answered_if (events_may_be_given entries) (rules.answer_with entries (deleted_reply (length gone))) by_rules answers in
      let parts = behind_delete s given started kept sp conditions many (length gone) entries (same_request kept (rules.delete sp conditions many) is_command asks) (same_answer kept is_command ∙ sym known.1) (same_reply kept is_reply ∙ ap (λ (x : rules.Answer). x.reply) (sym known.1)) in
      let docs = rewritten (state_behind s given started kept) s (given_after given kept) given sp (without_documents effect.gone.ids.items) (after_delete conditions many) (s.changes ++ entries) effect.documents_are (becomes _ _ _ _ _ _ parts) in
      let all = subst (λ (l : List Entry). Becomes (state_behind s given started kept) (given_after given kept) (changed_documents sp (without_documents effect.gone.ids.items) (documents_at s)) (s.changes ++ l) s.cursors given) (sym effect.entries_are) docs in
      subst (λ (e : Effect). Does e s given (state_behind s given started kept) (given_after given kept)) (sym effect.is)
      (effect.exact, subst (λ (x : Space). Becomes (state_behind s given started kept) (given_after given kept) (changed_documents x (without_documents effect.gone.ids.items) (documents_at s)) (s.changes ++ entries_from (length s.changes) effect.gone.entries.items) s.cursors given) (sym effect.at) all)

  -- ---- the indexes behind a step

  -- a request for documents or cursors leaves them
  stay_by : (r : rules.Request) → request_of (fields command) ≡ Ok r → LeavesIndexes (asks_of r) → (started : Bool) (kept : Kept) → kept.command ≡ command → HasIndexesOf s (state_behind s given started kept)
  stay_by r asks leaves started kept is_command = indexes_stay s given started kept (asks_of r) (ap asked is_command ∙ asked_is command r asks) leaves

  indexes_by : (r : rules.Request) → request_of (fields command) ≡ Ok r → answer s (pos (suc given)) r ≡ Ok by_rules → EffectOf s given r a.effect
      → (started : Bool) (kept : Kept) → kept.command ≡ command → kept.reply ≡ a.reply → (sp : Space) → indexes_of (state_behind s given started kept) sp ≡ indexes_behind a.effect s sp
  indexes_by (rules.insert at ds ordered) asks answers effect started kept is_command is_reply sp = stay_by (rules.insert at ds ordered) asks tt started kept is_command sp ∙ sym (ap (λ (e : Effect). indexes_behind e s sp) effect.is)
  indexes_by (rules.watch w start resumes size) asks answers effect started kept is_command is_reply sp =
      stay_by (rules.watch w start resumes size) asks tt started kept is_command sp
      ∙ sym (ap (λ (e : Effect). indexes_behind e s sp) effect.is ∙ opening_leaves (ends_watch w s.changes effect.from (batch_place w s.changes effect.from (size_of size))) (pos (suc given)) effect.cursor s sp)
  indexes_by (rules.find q) asks answers effect started kept is_command is_reply sp =
      stay_by (rules.find q) asks tt started kept is_command sp
      ∙ sym (ap (λ (e : Effect). indexes_behind e s sp) effect.is ∙ beginning_leaves (int_eq (query_id (pos (suc given)) q (map fields effect.found.documents.items)) (pos 0)) (pos (suc given)) effect.found (first_held q (map fields effect.found.documents.items)) s sp)
  indexes_by (rules.more id at size) asks answers (inl moves) started kept is_command is_reply sp =
      stay_by (rules.more id at size) asks tt started kept is_command sp
      ∙ sym (ap (λ (e : Effect). indexes_behind e s sp) moves.is ∙ moving_leaves (ends_watch moves.watch s.changes moves.from (batch_place moves.watch s.changes moves.from (size_of size))) id (batch_place moves.watch s.changes moves.from (size_of size)) s sp)
  indexes_by (rules.more id at size) asks answers (inr takes) started kept is_command is_reply sp =
      stay_by (rules.more id at size) asks tt started kept is_command sp
      ∙ sym (ap (λ (e : Effect). indexes_behind e s sp) takes.is ∙ taking_leaves (is_none (drop (batch_of_query (size_of size) takes.left) takes.left)) id (batch_of_query (size_of size) takes.left) s sp)
  indexes_by (rules.kill ids) asks answers effect started kept is_command is_reply sp = stay_by (rules.kill ids) asks tt started kept is_command sp ∙ sym (ap (λ (e : Effect). indexes_behind e s sp) effect.is)
  indexes_by (rules.create_collection at) asks answers effect started kept is_command is_reply sp = stay_by (rules.create_collection at) asks tt started kept is_command sp ∙ sym (ap (λ (e : Effect). indexes_behind e s sp) effect.is)
  indexes_by (rules.create_indexes at indexes) asks answers effect started kept is_command is_reply sp =
      let known = answered_if (list_all (λ (i : Index). may_stay (index_listed i)) (with_indexes (indexes_of s at) indexes)) (rules.answer_with [] rules.done_reply) by_rules answers in
      let made = indexes_created s given started kept at indexes (ap asked is_command ∙ asked_is command (rules.create_indexes at indexes) asks) (same_reply kept is_reply ∙ ap (λ (x : rules.Answer). x.reply) (sym known.1)) sp in
      made ∙ ap₂ (λ (x : Space) (l : List Index). if is_space sp x then l else indexes_of s sp) (sym effect.at) (sym effect.these) ∙ sym (ap (λ (e : Effect). indexes_behind e s sp) effect.is)
  indexes_by (rules.drop_collection at) asks answers effect started kept is_command is_reply sp =
      let there = drop_ok (collection_in s.collections at) (rules.answer_with (dropped_entries (length s.changes) at) rules.done_reply) by_rules answers in
      let gone = indexes_dropped s given started kept at (ap asked is_command ∙ asked_is command (rules.drop_collection at) asks) (same_reply kept is_reply ∙ ap (λ (x : rules.Answer). x.reply) (sym there.2)) sp in
      gone ∙ ap (λ (x : Space). if is_space sp x then [] else indexes_of s sp) (sym effect.at) ∙ sym (ap (λ (e : Effect). indexes_behind e s sp) effect.is)
  indexes_by (rules.update at conditions m many) asks answers effect started kept is_command is_reply sp = stay_by (rules.update at conditions m many) asks tt started kept is_command sp ∙ sym (ap (λ (e : Effect). indexes_behind e s sp) effect.is)
  indexes_by (rules.delete at conditions many) asks answers effect started kept is_command is_reply sp = stay_by (rules.delete at conditions many) asks tt started kept is_command sp ∙ sym (ap (λ (e : Effect). indexes_behind e s sp) effect.is)

-- ---- answers to commands

-- a request that is settled answers the command
pub answers_settled : (s : State) (given : ℕ) (command : List ℕ) (r : rules.Request) (a : Answer) → request_of (fields command) ≡ Ok r → Settled s given r a → AnswersBy s given command a
unfolding answer_of
answers_settled s given command r a asks h =
    let known : answer_of s (pos (suc given)) (fields command) ≡ h.by_rules =
    ap (λ (x : Result rules.Request ℤ). fitting (where_ok (answer s (pos (suc given))) x)) asks ∙ ap fitting h.answers ∙ ap (λ (b : Bool). if b then h.by_rules else refused bad_request) h.written.fitting in
    record {
      reply = record { encoded = h.written.these ∙ ap (λ (x : rules.Answer). bytes x.reply) (sym known); read_back = h.written.read_back ∙ ap (λ (x : rules.Answer). x.reply) (sym known) };
      leads = λ started kept is_command is_reply state lt.
          (leads_by s given command a h.by_rules known h.written.read_back r asks h.answers h.effect started kept is_command is_reply state lt, indexes_by s given command a h.by_rules known h.written.read_back r asks h.answers h.effect started kept is_command is_reply);
    }

-- ---- refusals

by_code : (asks : Asked) (code : ℤ) (cursors : ℤ → Option Cursor) (id : ℤ) → ends_cursor code ≡ false → cursors_refused asks code cursors id ≡ cursors id
by_code (asks_more other sp) code cursors id stays = ap (λ (b : Bool). (if b then put_cursor other None cursors else cursors) id) stays
by_code command code cursors id stays = refl

none_put : (b : Bool) (other id : ℤ) (cursors : ℤ → Option Cursor) → (b ≡ true → cursors id ≡ None) → (if b then None else cursors id) ≡ cursors id
none_put true other id cursors h = sym (h refl)
none_put false other id cursors h = refl

-- a cursor that is not there is not lost
by_missing : (other : ℤ) (sp : Space) (code : ℤ) (cursors : ℤ → Option Cursor) (id : ℤ) → cursors other ≡ None → cursors_refused (asks_more other sp) code cursors id ≡ cursors id
by_missing other sp code cursors id missing =
    elim (cases_Bool (ends_cursor code)) [
      | inl ends ↦ ap (λ (b : Bool). (if b then put_cursor other None cursors else cursors) id) ends ∙ none_put (int_eq id other) other id cursors (λ same. ap cursors (same_int id other same) ∙ missing)
      | inr stays ↦ ap (λ (b : Bool). (if b then put_cursor other None cursors else cursors) id) stays
    ]

pub loses_none : (s : State) (command : List ℕ) (r : rules.Request) (refusal : Refusal) → request_of (fields command) ≡ Ok r → Misses s refusal r → LosesNone s command (refusal_code refusal)
loses_none s command r refusals.NoSuchCursor asks missing id =
    let found : asked command ≡ asks_more missing.0 missing.1 = asked_is command (rules.more missing.0 missing.1 missing.2) (asks ∙ ap (λ (x : rules.Request). Ok x) missing.3) in
    ap (λ (x : Asked). cursors_refused x (pos 43) s.cursors id) found ∙ by_missing missing.0 missing.1 (pos 43) s.cursors id missing.4
loses_none s command r refusals.UnknownCommand asks missing id = by_code (asked command) (pos 59) s.cursors id refl
loses_none s command r refusals.BadRequest asks missing id = by_code (asked command) (pos 9) s.cursors id refl
loses_none s command r refusals.NoSuchToken asks missing id = by_code (asked command) (pos 260) s.cursors id refl
loses_none s command r refusals.CollectionExists asks missing id = by_code (asked command) (pos 48) s.cursors id refl
loses_none s command r refusals.NoSuchCollection asks missing id = by_code (asked command) (pos 26) s.cursors id refl

-- what the rules read of no command is a bad one, or one that they do not know
or_code_is : (o : Option rules.Request) (code : ℤ) → or_code bad_request o ≡ Err code → code ≡ bad_request
or_code_is None code e = cc
or_code_is (Some r) code e = cc

one_unread : (b : Bool) (o : Option rules.Request) (rest : Result rules.Request ℤ) (code : ℤ) → (rest ≡ Err code → (code ≡ bad_request) ⊎ (code ≡ unknown_command)) → (if b then or_code bad_request o else rest) ≡ Err code → (code ≡ bad_request) ⊎ (code ≡ unknown_command)
one_unread true o rest code others e = inl (or_code_is o code e)
one_unread false o rest code others e = others e

unknown_is : (code : ℤ) → ◌≡◌ {A = Result rules.Request ℤ} (Err unknown_command) (Err code) → (code ≡ bad_request) ⊎ (code ≡ unknown_command)
unknown_is code e = let same : unknown_command ≡ code = cc in inr (sym same)

not_read : (fs : Fields) (code : ℤ) → request_of fs ≡ Err code → (code ≡ bad_request) ⊎ (code ≡ unknown_command)
not_read no_fields code e = unknown_is code e
not_read (field k t fs) code e =
    one_unread (bytes_eq k (codes "insert")) (insert_request (field k t fs)) _ code
    (one_unread (bytes_eq k (codes "aggregate")) (aggregate_request (field k t fs)) _ code
    (one_unread (bytes_eq k (codes "getMore")) (more_request (field k t fs)) _ code
    (one_unread (bytes_eq k (codes "killCursors")) (kill_request (field k t fs)) _ code
    (one_unread (bytes_eq k (codes "find")) (find_request (field k t fs)) _ code
    (one_unread (bytes_eq k (codes "create")) (create_request (field k t fs)) _ code
    (one_unread (bytes_eq k (codes "createIndexes")) (indexes_request (field k t fs)) _ code
    (one_unread (bytes_eq k (codes "update")) (update_request (field k t fs)) _ code
    (one_unread (bytes_eq k (codes "delete")) (delete_request (field k t fs)) _ code
    (one_unread (bytes_eq k (codes "drop")) (drop_request (field k t fs)) _ code
    (one_unread (bytes_eq k (codes "listCollections")) (list_collections_request (field k t fs)) _ code
    (one_unread (bytes_eq k (codes "listIndexes")) (list_indexes_request (field k t fs)) _ code (unknown_is code)))))))))))) e

pub loses_none_unread : (s : State) (command : List ℕ) (code : ℤ) → request_of (fields command) ≡ Err code → LosesNone s command code
loses_none_unread s command code e id =
    elim (not_read (fields command) code e) [
      | inl bad ↦ by_code (asked command) code s.cursors id (ap ends_cursor bad)
      | inr unknown ↦ by_code (asked command) code s.cursors id (ap ends_cursor unknown)
    ]

-- the answer to a request, or its refusal
pub answers_or : (s : State) (given : ℕ) (command : List ℕ) (r : rules.Request) (result : Result Answer Stop) → request_of (fields command) ≡ Ok r → Settles s given r result → AnswersOr s given command result
unfolding answer_of
answers_or s given command r (Ok a) asks h = answers_settled s given command r a asks h
answers_or s given command r (Err stops.Memory) asks h = tt
answers_or s given command r (Err (stops.Refused refusal)) asks h =
    (ap (λ (x : Result rules.Request ℤ). fitting (where_ok (answer s (pos (suc given))) x)) asks ∙ h.0, loses_none s command r refusal asks h.1)

-- what is not read is refused
pub answers_unread : (s : State) (given : ℕ) (command : List ℕ) (refusal : Refusal) → request_of (fields command) ≡ Err (refusal_code refusal) → AnswersOr s given command (Err (stops.Refused refusal))
unfolding answer_of
answers_unread s given command refusal asks = (ap (λ (x : Result rules.Request ℤ). fitting (where_ok (answer s (pos (suc given))) x)) asks, loses_none_unread s command (refusal_code refusal) asks)

-- a refusal by the rules
pub answers_refused : (s : State) (given : ℕ) (command : List ℕ) (code : ℤ) (a : Answer) → answer_of s (pos (suc given)) (fields command) ≡ refused code → LosesNone s command code → Replies (refusal code []) effects.Nothing a → AnswersBy s given command a
answers_refused s given command code a known keeps got = record {
  reply = record { encoded = got.reply.these ∙ ap (λ (x : rules.Answer). bytes x.reply) (sym known); read_back = got.reply.read_back ∙ ap (λ (x : rules.Answer). x.reply) (sym known) };
  leads = λ started kept is_command is_reply h lt.
      let parts = behind_refusal s given started kept code [] (ap fields is_reply ∙ got.reply.read_back) in
      let does = subst (λ (e : Effect). Does e s given (state_behind s given started kept) (given_after given kept)) (sym got.effect_is)
      (record {
        documents_are = parts.documents_are;
        changes_are = parts.changes_are;
        cursors_are = λ id. ap (λ (f : ℤ → Option Cursor). f id) parts.cursors_are ∙ ap (λ (c : List ℕ). cursors_refused (asked c) code s.cursors id) is_command ∙ keeps id;
        given_are = parts.given_are;
      }) in
      (does, λ sp. indexes_refused s given started kept code [] (ap fields is_reply ∙ got.reply.read_back) sp ∙ sym (ap (λ (e : Effect). indexes_behind e s sp) got.effect_is));
}

pub refused_ok : {E : Type 0} (s : State) (given : ℕ) (command : List ℕ) (code : ℤ) (r : Result Answer E) → answer_of s (pos (suc given)) (fields command) ≡ refused code → LosesNone s command code → IfOk r (Replies (refusal code []) effects.Nothing) → IfOk r (AnswersBy s given command)
refused_ok s given command code (Ok a) known keeps got = answers_refused s given command code a known keeps got
refused_ok s given command code (Err e) known keeps got = tt
