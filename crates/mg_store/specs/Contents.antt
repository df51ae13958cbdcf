-- What the store holds, and what a command does to it, beside a server's state.
use Rattle.std.specs.declared.alloc.Global.{Global}
use Rattle.std.specs.Prelude.{◌≡◌, ℕ, suc, ◌<◌, ◌^◌, ℤ, pos, Bool, true, false, List, [], ◌++◌, length, map, Option, Some, None, option_map, Result, Ok, Err, Vec, if◌then◌else◌, ◌⊎◌, drop}
use Rattle.std.specs.BTreeMap.{BTreeMap, get}
use Rattle.std.specs.Map.{lookup}
use Rattle.std.specs.Ordering.{int_cmp, int_eq}
use Rattle.mg_bson.specs.Tree.{Fields}
use Rattle.mg_bson.specs.Raw.{fields}
use Rattle.mg_link.specs.declared.namespace.Namespace.{Namespace}
use Rattle.mg_link.specs.Namespace.{Space, space}
use Rattle.mg_server.specs.State.{Entry, Watch, Cursor, query, watching, State, Start, documents_at, is_space, put_cursor, without_cursors, indexes_of, Index, put_documents, changed_documents}
use Rattle.mg_server.specs.Step.{documents_of, cursors_refused}
use Rattle.mg_server.specs.Filter.{Condition}
use Rattle.mg_server.specs.Write.{Modification, after_delete, after_update, changing, chosen, with_indexes}
use Rattle.mg_server.specs.Rules as rules
use Rattle.mg_server.specs.Rules.{dropped_entries, inserting, answer, answer_of, batch_place, ends_watch, fitting, place_at, refused, size_of, batch_of_query, first_held, query_id, query_space, deleted_entries, modified_entries}
use Rattle.mg_server.specs.Query.{Query, result}
use Rattle.mg_server.specs.Commands.{asked}
use Rattle.mg_server.specs.Kept.{Kept, Follows, IsByRules, IsReply, IsStoreState, given_after, given_of, state_behind, state_of_kept}
use Rattle.mg_query.specs.Indexing.{index_held}
use Rattle.mg_query.specs.Numbering.{KeepsIds, indexed, stored}
use Rattle.mg_query.specs.declared.index.Index as code_index
use Rattle.mg_query.specs.Querying.{is_none}
use Rattle.mg_query.specs.Replies.{IsWritten}
use Rattle.mg_query.specs.Collecting.{AreKeyed, exchange_documents, without_documents}
use Rattle.mg_query.specs.Wanted.{Wanted, refusal_code, wanted}
use Rattle.mg_query.specs.declared.collection.Collection.{Collection}
use Rattle.mg_query.specs.declared.refusal.Refusal.{Refusal}
use Rattle.mg_query.specs.declared.refusal.Refusal.TheVariants as refusals
use Rattle.mg_query.specs.declared.refusal.Stop.{Stop}
use Rattle.mg_query.specs.declared.refusal.Stop.TheVariants as stops
use Rattle.mg_store.specs.Holding.{AreExact, IsWatch, entries_from}
use Rattle.mg_store.specs.Inserting.{Fits, new_documents}
use Rattle.mg_store.specs.declared.rewrite.Changes.{Changes}
use Rattle.mg_store.specs.declared.rewrite.Removals.{Removals}
use Rattle.mg_store.specs.declared.change.ChangeEntry.{ChangeEntry}
use Rattle.mg_store.specs.declared.cursor.Cursor as code
use Rattle.mg_store.specs.declared.cursor.Found.{Found}
use Rattle.mg_store.specs.declared.cursor.Source.{Source}
use Rattle.mg_store.specs.declared.cursor.Source.TheVariants as sources
use Rattle.mg_store.specs.declared.insert.Appended.{Appended}
use Rattle.mg_store.specs.declared.perform.Answer.{Answer}
use Rattle.mg_store.specs.declared.content.Content.{Content}
use Rattle.mg_store.specs.declared.content.Effect.{Effect}
use Rattle.mg_store.specs.declared.content.Effect.TheVariants as effects

-- ---- what is held

-- the collection of this name
abbrev pub collection_at : BTreeMap Namespace Collection → Space → Option Collection
collection_at cs s = lookup (λ ns. is_space s (space ns)) cs.entries

-- a watch is at this place, or a query has the documents behind it left
abbrev pub GoesOn : Source → ℕ → Cursor → Type 0
GoesOn (sources.Watch watch) at (watching w place) = IsWatch watch w × (place ≡ at)
GoesOn (sources.Watch watch) at (query sp left) = ⊥
GoesOn (sources.Found found) at (watching w place) = ⊥
GoesOn (sources.Found found) at (query sp left) = (sp ≡ space found.ns) × (left ≡ drop at (map fields found.documents.items))

abbrev pub IsCursor : code.Cursor → Cursor → Type 0
IsCursor c d = GoesOn c.source c.place d

-- the cursor is held
abbrev pub IsCursorAt : Option code.Cursor → Option Cursor → Type 0
IsCursorAt None None = Unit {0}
IsCursorAt None (Some c) = ⊥
IsCursorAt (Some c) None = ⊥
IsCursorAt (Some c) (Some d) = IsCursor c d

-- the content is that of the state, where so many ids were given
pub record Represents (c : Content) (s : State) (given : ℕ) : Type 0 where
  pub documents_are : (sp : Space) → documents_at s sp ≡ option_map stored (collection_at c.collections sp)
  pub indexes_are : (sp : Space) → indexes_of s sp ≡ indexed (collection_at c.collections sp)
  pub ids_are : (sp : Space) (col : Collection) → collection_at c.collections sp ≡ Some col → KeepsIds col
  pub changes_are : s.changes ≡ entries_from 0 c.changes.items
  pub exact : AreExact c.changes.items
  pub cursors_are : (id : ℤ) → IsCursorAt (get int_cmp c.cursors id) (s.cursors id)
  pub given_are : c.given ≡ pos given

-- ---- what a command does

-- the parts of a state
pub record Becomes (s : State) (given : ℕ) (documents : Space → Option (List Fields)) (changes : List Entry) (cursors : ℤ → Option Cursor) (given' : ℕ) : Type 0 where
  pub documents_are : (sp : Space) → documents_at s sp ≡ documents sp
  pub changes_are : s.changes ≡ changes
  pub cursors_are : (id : ℤ) → s.cursors id ≡ cursors id
  pub given_are : given ≡ given'

-- the effect leads from the first state to the second
abbrev pub Does : Effect → State → ℕ → State → ℕ → Type 0
Does effects.Nothing s given s' given' = Becomes s' given' (documents_at s) s.changes s.cursors given
Does (effects.Insert ns a) s given s' given' = Fits (documents_of s (space ns)) a
    × Becomes s' given' (put_documents (space ns) (Some (documents_of s (space ns) ++ new_documents a)) (documents_at s)) (s.changes ++ entries_from (length s.changes) a.entries.items) s.cursors given
Does (effects.Open id cursor) s given s' given' = (d : Cursor) × IsCursor cursor d × (id ≡ pos (suc given)) × Becomes s' given' (documents_at s) s.changes (put_cursor id (Some d) s.cursors) (suc given)
Does (effects.Move id place) s given s' given' = (w : Watch) × (from : ℕ) × (s.cursors id ≡ Some (watching w from)) × Becomes s' given' (documents_at s) s.changes (put_cursor id (Some (watching w place)) s.cursors) given
Does (effects.Take id count) s given s' given' = (sp : Space) × (left : List Fields) × (s.cursors id ≡ Some (query sp left)) × Becomes s' given' (documents_at s) s.changes (put_cursor id (Some (query sp (drop count left))) s.cursors) given
Does (effects.Kill ids) s given s' given' = Becomes s' given' (documents_at s) s.changes (without_cursors ids.items s.cursors) given
Does (effects.Close id) s given s' given' = Becomes s' given' (documents_at s) s.changes (put_cursor id None s.cursors) given
Does (effects.Indexes ns indexes) s given s' given' = Becomes s' given' (put_documents (space ns) (Some (documents_of s (space ns))) (documents_at s)) s.changes s.cursors given
Does (effects.Drop ns entries) s given s' given' = AreExact entries.items × Becomes s' given' (put_documents (space ns) None (documents_at s)) (s.changes ++ entries_from (length s.changes) entries.items) s.cursors given
Does (effects.Change ns changes) s given s' given' = AreKeyed changes.documents.items × AreExact changes.entries.items
    × Becomes s' given' (changed_documents (space ns) (exchange_documents changes.documents.items) (documents_at s)) (s.changes ++ entries_from (length s.changes) changes.entries.items) s.cursors given
Does (effects.Remove ns removals) s given s' given' = AreExact removals.entries.items
    × Becomes s' given' (changed_documents (space ns) (without_documents removals.ids.items) (documents_at s)) (s.changes ++ entries_from (length s.changes) removals.entries.items) s.cursors given

-- the indexes behind an effect
abbrev pub indexes_behind : Effect → State → Space → List Index
indexes_behind effects.Nothing s sp = indexes_of s sp
indexes_behind (effects.Insert ns a) s sp = indexes_of s sp
indexes_behind (effects.Open id cursor) s sp = indexes_of s sp
indexes_behind (effects.Move id place) s sp = indexes_of s sp
indexes_behind (effects.Take id count) s sp = indexes_of s sp
indexes_behind (effects.Kill ids) s sp = indexes_of s sp
indexes_behind (effects.Close id) s sp = indexes_of s sp
indexes_behind (effects.Indexes ns indexes) s sp = if is_space sp (space ns) then map index_held indexes.items else indexes_of s sp
indexes_behind (effects.Drop ns entries) s sp = if is_space sp (space ns) then [] else indexes_of s sp
indexes_behind (effects.Change ns changes) s sp = indexes_of s sp
indexes_behind (effects.Remove ns removals) s sp = indexes_of s sp

-- it leads there, with these indexes
abbrev pub Leads : Effect → State → ℕ → State → ℕ → Type 0
Leads e s given s' given' = Does e s given s' given' × ((sp : Space) → indexes_of s' sp ≡ indexes_behind e s sp)

-- ---- the effects of requests

pub record InsertsBy (s : State) (sp : Space) (ds : List Fields) (ordered : Bool) (e : Effect) : Type 0 where
  pub ns : Namespace
  pub appended : Appended
  pub is : e ≡ effects.Insert ns appended
  pub at : space ns ≡ sp
  pub documents_are : new_documents appended ≡ (inserting sp ordered 0 (length s.changes) (documents_of s sp) ds).documents
  pub entries_are : entries_from (length s.changes) appended.entries.items ≡ (inserting sp ordered 0 (length s.changes) (documents_of s sp) ds).entries
  pub fits : Fits (documents_of s sp) appended

-- a watch that ended leaves no cursor
abbrev pub opening_effect : Bool → ℤ → code.Cursor → Effect
opening_effect true id cursor = effects.Nothing
opening_effect false id cursor = effects.Open id cursor

pub record OpensBy (s : State) (given : ℕ) (w : Watch) (start : Start) (resumes : Bool) (size : Option ℕ) (e : Effect) : Type 0 where
  pub cursor : code.Cursor
  pub from : ℕ
  pub at : place_at s w start resumes ≡ Ok from
  pub is : e ≡ opening_effect (ends_watch w s.changes from (batch_place w s.changes from (size_of size))) (pos (suc given)) cursor
  pub place : ℕ
  pub watches : IsCursor cursor (watching w place)
  pub place_is : place ≡ batch_place w s.changes from (size_of size)

abbrev pub moving : Bool → ℤ → ℕ → Effect
moving true id place = effects.Close id
moving false id place = effects.Move id place

pub record MovesBy (s : State) (id : ℤ) (size : Option ℕ) (e : Effect) : Type 0 where
  pub watch : Watch
  pub from : ℕ
  pub stood : s.cursors id ≡ Some (watching watch from)
  pub is : e ≡ moving (ends_watch watch s.changes from (batch_place watch s.changes from (size_of size))) id (batch_place watch s.changes from (size_of size))

-- a batch of a query takes its documents, and ends the cursor where none is left
abbrev pub taking : Bool → ℤ → ℕ → Effect
taking true id count = effects.Close id
taking false id count = effects.Take id count

pub record TakesBy (s : State) (id : ℤ) (size : Option ℕ) (e : Effect) : Type 0 where
  pub space : Space
  pub left : List Fields
  pub stood : s.cursors id ≡ Some (query space left)
  pub is : e ≡ taking (is_none (drop (batch_of_query (size_of size) left) left)) id (batch_of_query (size_of size) left)

-- a query opens a cursor, unless its first batch ends it
abbrev pub beginning : Bool → ℤ → Found → ℕ → Effect
beginning true id found place = effects.Nothing
beginning false id found place = effects.Open id (record { source = sources.Found found; place = place })

pub record FindsBy (s : State) (given : ℕ) (q : Query) (e : Effect) : Type 0 where
  pub found : Found
  pub these : result s q ≡ Some (map fields found.documents.items)
  pub at : query_space q.source ≡ space found.ns
  pub is : e ≡ beginning (int_eq (query_id (pos (suc given)) q (map fields found.documents.items)) (pos 0)) (pos (suc given)) found (first_held q (map fields found.documents.items))

pub record KillsBy (ids : List ℤ) (e : Effect) : Type 0 where
  pub named : Vec ℤ Global
  pub is : e ≡ effects.Kill named
  pub these : named.items ≡ ids

-- the collection is made, with nothing in it
pub record CreatesBy (sp : Space) (e : Effect) : Type 0 where
  pub ns : Namespace
  pub appended : Appended
  pub is : e ≡ effects.Insert ns appended
  pub at : space ns ≡ sp
  pub documents_are : new_documents appended ≡ []
  pub entries_are : appended.entries.items ≡ []
  pub fits : Fits [] appended

pub record IndexesBy (s : State) (sp : Space) (more : List Index) (e : Effect) : Type 0 where
  pub ns : Namespace
  pub indexes : Vec code_index.Index Global
  pub is : e ≡ effects.Indexes ns indexes
  pub at : space ns ≡ sp
  pub these : map index_held indexes.items ≡ with_indexes (indexes_of s sp) more

pub record DropsBy (s : State) (sp : Space) (e : Effect) : Type 0 where
  pub ns : Namespace
  pub entries : Vec ChangeEntry Global
  pub is : e ≡ effects.Drop ns entries
  pub at : space ns ≡ sp
  pub entries_are : entries_from (length s.changes) entries.items ≡ dropped_entries (length s.changes) sp
  pub exact : AreExact entries.items

-- what stands behind an update
pub record UpdatesBy (s : State) (sp : Space) (conditions : List Condition) (m : Modification) (many : Bool) (e : Effect) : Type 0 where
  pub ns : Namespace
  pub made : Changes
  pub is : e ≡ effects.Change ns made
  pub at : space ns ≡ sp
  pub keyed : AreKeyed made.documents.items
  pub exact : AreExact made.entries.items
  pub documents_are : exchange_documents made.documents.items (documents_of s sp) ≡ after_update conditions many m (documents_of s sp)
  pub entries_are : entries_from (length s.changes) made.entries.items ≡ modified_entries (length s.changes) sp m (changing conditions many m (documents_of s sp))

-- what stands behind a delete
pub record DeletesBy (s : State) (sp : Space) (conditions : List Condition) (many : Bool) (e : Effect) : Type 0 where
  pub ns : Namespace
  pub gone : Removals
  pub is : e ≡ effects.Remove ns gone
  pub at : space ns ≡ sp
  pub exact : AreExact gone.entries.items
  pub documents_are : without_documents gone.ids.items (documents_of s sp) ≡ after_delete conditions many (documents_of s sp)
  pub entries_are : entries_from (length s.changes) gone.entries.items ≡ deleted_entries (length s.changes) sp (chosen conditions many (documents_of s sp))

abbrev pub EffectOf : State → ℕ → rules.Request → Effect → Type 0
EffectOf s given (rules.insert sp ds ordered) e = InsertsBy s sp ds ordered e
EffectOf s given (rules.find q) e = FindsBy s given q e
EffectOf s given (rules.watch w start resumes size) e = OpensBy s given w start resumes size e
EffectOf s given (rules.more id sp size) e = MovesBy s id size e ⊎ TakesBy s id size e
EffectOf s given (rules.kill ids) e = KillsBy ids e
EffectOf s given (rules.create_collection sp) e = CreatesBy sp e
EffectOf s given (rules.create_indexes sp indexes) e = IndexesBy s sp indexes e
EffectOf s given (rules.drop_collection sp) e = DropsBy s sp e
EffectOf s given (rules.update sp conditions m many) e = UpdatesBy s sp conditions m many e
EffectOf s given (rules.delete sp conditions many) e = DeletesBy s sp conditions many e

-- the answer of the rules to the request
pub record Settled (s : State) (given : ℕ) (r : rules.Request) (a : Answer) : Type 0 where
  pub by_rules : rules.Answer
  pub answers : answer s (pos (suc given)) r ≡ Ok by_rules
  pub written : IsWritten by_rules.reply a.reply
  pub effect : EffectOf s given r a.effect

-- where the store knows no cursor, the request goes on with one that is not there
abbrev pub Misses : State → Refusal → rules.Request → Type 0
Misses s refusals.NoSuchCursor r = (id : ℤ) × (sp : Space) × (size : Option ℕ) × (r ≡ rules.more id sp size) × (s.cursors id ≡ None)
Misses s refusals.UnknownCommand r = Unit {0}
Misses s refusals.BadRequest r = Unit {0}
Misses s refusals.NoSuchToken r = Unit {0}
Misses s refusals.CollectionExists r = Unit {0}
Misses s refusals.NoSuchCollection r = Unit {0}

abbrev pub Settles : State → ℕ → rules.Request → Result Answer Stop → Type 0
Settles s given r (Ok a) = Settled s given r a
Settles s given r (Err stops.Memory) = Unit {0}
Settles s given r (Err (stops.Refused refusal)) = (fitting (answer s (pos (suc given)) r) ≡ refused (refusal_code refusal)) × Misses s refusal r

-- the place of the rules
abbrev pub IsPlaceByRules : Result ℕ Stop → Result ℕ ℤ → Type 0
IsPlaceByRules (Ok place) by_rules = by_rules ≡ Ok place
IsPlaceByRules (Err stops.Memory) by_rules = Unit {0}
IsPlaceByRules (Err (stops.Refused refusal)) by_rules = by_rules ≡ Err (refusal_code refusal)

-- ---- answers to commands

-- the effect leads to the state behind a step of this command and reply
abbrev pub LeadsOn : State → ℕ → List ℕ → Answer → Type 0
LeadsOn s given command a = (started : Bool) (kept : Kept) → kept.command ≡ command → kept.reply ≡ a.reply → IsStoreState s given started → length s.changes < 2 ^ 64
    → Leads a.effect s given (state_behind s given started kept) (given_after given kept)

-- the answer is that of the rules
pub record AnswersBy (s : State) (given : ℕ) (command : List ℕ) (a : Answer) : Type 0 where
  pub reply : IsReply (answer_of s (pos (suc given)) (fields command)).reply a.reply
  pub leads : LeadsOn s given command a

-- no cursor is lost by a refusal of the rules
abbrev pub LosesNone : State → List ℕ → ℤ → Type 0
LosesNone s command code = (id : ℤ) → cursors_refused (asked command) code s.cursors id ≡ s.cursors id

abbrev pub AnswersOr : State → ℕ → List ℕ → Result Answer Stop → Type 0
AnswersOr s given command (Ok a) = AnswersBy s given command a
AnswersOr s given command (Err stops.Memory) = Unit {0}
AnswersOr s given command (Err (stops.Refused refusal)) = (answer_of s (pos (suc given)) (fields command) ≡ refused (refusal_code refusal)) × LosesNone s command (refusal_code refusal)

-- the answer to whatever command asks for this
abbrev pub AnswersAsked : State → ℕ → Wanted → Result Answer Stop → Type 0
AnswersAsked s given w answer = (command : List ℕ) → rules.map_ok wanted (rules.request_of (fields command)) ≡ Ok w → AnswersOr s given command answer

-- ---- the store

-- the history was made by the rules, and the content is that of the state behind it
pub record HasKept (c : Content) (history : List Kept) : Type 0 where
  pub by_rules : IsByRules history
  pub content_is : Represents c (state_of_kept history) (given_of history)

-- a step of this command and answer may be kept
pub record MayKeep (history : List Kept) (command : List ℕ) (a : Answer) : Type 0 where
  pub follows : Follows (state_of_kept history) (given_of history) (record { command = command; reply = a.reply })
  pub leads : LeadsOn (state_of_kept history) (given_of history) command a

-- what a refusal does to the cursor that the command goes on with
abbrev pub closing : Bool → Option ℤ → Effect
closing false found = effects.Nothing
closing true None = effects.Nothing
closing true (Some id) = effects.Close id
