-- A step more is kept.
use Rattle.std.proofs.Common.{◌≡◌, ℕ, ℤ, ◌<◌, ◌^◌, Bool, true, false, List, [], ◌∷◌, ◌++◌, length, map, Option, Some, None, is_some, option_map, refl, sym, ap, ap₂, ◌∙◌, subst, arith}
use Rattle.std.specs.Prelude.{◌||◌, if◌then◌else◌, unwrap_or}
use Rattle.std.specs.BTreeMap.{get}
use Rattle.std.specs.Cmp.{both_ways}
use Rattle.std.specs.List.{list_any}
use Rattle.std.specs.List.Sorted.{IsStrictlySortedBy}
use Rattle.std.specs.Ordering.{int_cmp, int_eq, is_eq}
use Rattle.std.proofs.lemmas.Bool.Decides.{Decides-int_eq}
use Rattle.mg_bson.specs.Tree.{Fields}
use Rattle.mg_bson.specs.Bytes.{bytes}
use Rattle.mg_bson.specs.Raw.{fields}
use Rattle.mg_link.specs.Namespace.{Space}
use Rattle.mg_server.specs.State.{Cursor, State, nothing, documents_at, indexes_of, put_cursor}
use Rattle.mg_server.specs.Commands.{Asked, asks_more, asked}
use Rattle.mg_server.specs.Step.{documents_of, ends_cursor, cursors_refused}
use Rattle.mg_server.specs.Rules.{is_id_among, refusal}
use Rattle.mg_server.specs.Kept.{AreByRulesFrom, Kept, IsReply, by_choice, by_rules, given_after, given_of, given_from, is_started, state_behind, state_of_kept, steps_from, steps_of}
use Rattle.mg_server.specs.History.{IsLegal, state_after}
use Rattle.mg_server.specs.Prompt.{HoldsBackNone}
use Rattle.mg_server.proofs.AtOnce.{kept_prompt}
use Rattle.mg_server.proofs.Behind.{behind_refusal}
use Rattle.mg_server.proofs.Indexed.{indexes_refused}
use Rattle.mg_server.proofs.Legal.{by_rules_push, given_push, kept_is_legal, kept_state, state_push}
use Rattle.mg_query.specs.Continued.{continued}
use Rattle.mg_query.specs.Numbering.{KeepsIds, stored, stored_bytes}
use Rattle.mg_query.specs.declared.collection.Collection.{Collection}
use Rattle.mg_query.proofs.Numbers.{bytes_are}
use Rattle.mg_store.specs.Contents.{AnswersBy, Becomes, Does, HasKept, Leads, MayKeep, Represents, closing, collection_at, indexes_behind}
use Rattle.mg_store.specs.declared.perform.Answer.{Answer}
use Rattle.mg_store.specs.declared.content.Content.{Content}
use Rattle.mg_store.specs.declared.content.Effect.{Effect}
use Rattle.mg_store.specs.Holding.{AreExact, entries_from}
use Rattle.mg_store.specs.Stored.{AreOpen}
use Rattle.mg_store.proofs.Holdings.{changes-length, held_is}
use Rattle.mg_store.proofs.Maps.{int_test}

pub keeps_more : (c c' : Content) (history : List Kept) (command : List ℕ) (a : Answer) → HasKept c history → MayKeep history command a → length c.changes.items < 2 ^ 64
    → ((s : State) (given : ℕ) (s' : State) (given' : ℕ) → Represents c s given → Leads a.effect s given s' given' → Represents c' s' given')
    → HasKept c' (history ++ record { command = command; reply = a.reply } ∷ [])
keeps_more c c' history command a h may lt commits =
    let kept : Kept = record { command = command; reply = a.reply } in
    let s : State = state_of_kept history in
    let given : ℕ = given_of history in
    let started : Bool = is_started history in
    let fits : length s.changes < 2 ^ 64 = omega (arith, lt, changes-length c s given h.content_is) in
    let does = may.leads started kept refl refl (kept_state history h.by_rules fits) fits in
    let after = commits s given (state_behind s given started kept) (given_after given kept) h.content_is does in
    record {
      by_rules = by_rules_push history kept h.by_rules may.follows;
      content_is = subst (λ (x : State). Represents c' x (given_of (history ++ kept ∷ []))) (sym (state_push history kept))
          (subst (Represents c' (state_behind s given started kept)) (sym (given_push 0 history kept)) after);
    }

-- a list that is held has fewer than 2^64 entries, so the history is legal
pub keeps_legal : (c : Content) (history : List Kept) → HasKept c history → length c.changes.items < 2 ^ 64 → IsLegal (steps_of history)
keeps_legal c history h lt = kept_is_legal history h.by_rules (omega (arith, lt, changes-length c (state_of_kept history) (given_of history) h.content_is))

-- and holds nothing back from a caller none of whose steps was refused
pub keeps_prompt : (c : Content) (history : List Kept) → HasKept c history → length c.changes.items < 2 ^ 64 → HoldsBackNone (steps_of history)
keeps_prompt c history h lt = kept_prompt history h.by_rules (omega (arith, lt, changes-length c (state_of_kept history) (given_of history) h.content_is))

-- an answer by the rules may be kept
pub may_by_rules : (history : List Kept) (command : List ℕ) (a : Answer) → AnswersBy (state_of_kept history) (given_of history) command a → MayKeep history command a
may_by_rules history command a h = record { follows = by_rules h.reply; leads = h.leads }

-- ---- chosen refusals

closed : (ends : Bool) (asks : Asked) (s s' : State) (given given' : ℕ) (code : ℤ) → ends ≡ ends_cursor code → Becomes s' given' (documents_at s) s.changes (cursors_refused asks code s.cursors) given → Does (closing ends (continued asks)) s given s' given'
closed true (asks_more id sp) s s' given given' code e h =
    record { documents_are = h.documents_are; changes_are = h.changes_are; cursors_are = λ x. h.cursors_are x ∙ ap (λ (b : Bool). (if b then put_cursor id None s.cursors else s.cursors) x) (sym e); given_are = h.given_are }
closed false (asks_more id sp) s s' given given' code e h =
    record { documents_are = h.documents_are; changes_are = h.changes_are; cursors_are = λ x. h.cursors_are x ∙ ap (λ (b : Bool). (if b then put_cursor id None s.cursors else s.cursors) x) (sym e); given_are = h.given_are }
closed true command s s' given given' code e h = h
closed false command s s' given given' code e h = h

closing_leaves : (ends : Bool) (found : Option ℤ) (s : State) (sp : Space) → indexes_behind (closing ends found) s sp ≡ indexes_of s sp
closing_leaves false found s sp = refl
closing_leaves true None s sp = refl
closing_leaves true (Some id) s sp = refl

-- a refusal that is chosen may be kept
pub may_by_choice : (history : List Kept) (command : List ℕ) (a : Answer) (code : ℤ) (labels : List (List ℕ)) → IsReply (refusal code labels) a.reply → a.effect ≡ closing (ends_cursor code) (continued (asked command)) → MayKeep history command a
may_by_choice history command a code labels reply effect = record {
  follows = by_choice code labels reply;
  leads = λ started kept is_command is_reply h lt.
      let s : State = state_of_kept history in
      let given : ℕ = given_of history in
      let parts = behind_refusal s given started kept code labels (ap fields is_reply ∙ reply.read_back) in
      let becomes : Becomes (state_behind s given started kept) (given_after given kept) (documents_at s) s.changes (cursors_refused (asked command) code s.cursors) given = record {
        documents_are = parts.documents_are;
        changes_are = parts.changes_are;
        cursors_are = λ id. ap (λ (f : ℤ → Option Cursor). f id) parts.cursors_are ∙ ap (λ (c : List ℕ). cursors_refused (asked c) code s.cursors id) is_command;
        given_are = parts.given_are;
      } in
      let does = subst (λ (e : Effect). Does e s given (state_behind s given started kept) (given_after given kept)) (sym effect)
      (closed (ends_cursor code) (asked command) s (state_behind s given started kept) given (given_after given kept) code refl becomes) in
      (does, λ sp. indexes_refused s given started kept code labels (ap fields is_reply ∙ reply.read_back) sp ∙ sym (ap (λ (e : Effect). indexes_behind e s sp) effect ∙ closing_leaves (ends_cursor code) (continued (asked command)) s sp));
}

-- ---- an empty store

pub keeps_none : (c : Content) → Represents c nothing 0 → HasKept c []
unfolding steps_from state_after given_from AreByRulesFrom
keeps_none c h = record { by_rules = tt; content_is = h }

-- ---- what is shown

pub documents_shown : (c : Content) (history : List Kept) (sp : Space) (o : Option Collection) → HasKept c history → o ≡ collection_at c.collections sp → unwrap_or (option_map stored o) [] ≡ documents_of (state_of_kept history) sp
documents_shown c history sp o h e = ap (λ (x : Option Collection). unwrap_or (option_map stored x) []) e ∙ sym (ap (λ (x : Option (List Fields)). unwrap_or x []) (h.content_is.documents_are sp))

bytes_there : (o : Option Collection) → ((col : Collection) → o ≡ Some col → KeepsIds col) → unwrap_or (option_map stored_bytes o) [] ≡ map bytes (unwrap_or (option_map stored o) [])
bytes_there None keeps = refl
bytes_there (Some col) keeps = bytes_are col (keeps col refl)

pub documents_exact : (c : Content) (history : List Kept) (sp : Space) (o : Option Collection) → HasKept c history → o ≡ collection_at c.collections sp → unwrap_or (option_map stored_bytes o) [] ≡ map bytes (documents_of (state_of_kept history) sp)
documents_exact c history sp o h e = bytes_there o (λ col is. h.content_is.ids_are sp col (sym e ∙ is)) ∙ ap (map bytes) (documents_shown c history sp o h e)

pub changes_are : (c : Content) (history : List Kept) → HasKept c history → entries_from 0 c.changes.items ≡ (state_of_kept history).changes
changes_are c history h = sym h.content_is.changes_are

pub changes_exact : (c : Content) (history : List Kept) → HasKept c history → AreExact c.changes.items
changes_exact c history h = h.content_is.exact

int_turned : (a b : ℤ) → int_eq a b ≡ int_eq b a
int_turned a b = both_ways (int_eq a b) (int_eq b a) (λ h. (Decides-int_eq b a).1 (sym ((Decides-int_eq a b).0 h))) (λ h. (Decides-int_eq a b).1 (sym ((Decides-int_eq b a).0 h)))

among_ids : (q : ℤ) (ids : List ℤ) → list_any (λ (x : ℤ). is_eq (int_cmp q x)) ids ≡ is_id_among q ids
among_ids q [] = refl
among_ids q (x ∷ ids) = ap₂ (λ (a b : Bool). a || b) (int_test q x ∙ int_turned x q) (among_ids q ids)

pub open_ids : (c : Content) (history : List Kept) (ids : List ℤ) → HasKept c history → IsStrictlySortedBy int_cmp ids → ((q : ℤ) → is_some (get int_cmp c.cursors q) ≡ list_any (λ (x : ℤ). is_eq (int_cmp q x)) ids) → AreOpen (state_of_kept history) ids
open_ids c history ids h ascending has = record { ascending = ascending; these = λ q. held_is c (state_of_kept history) (given_of history) q h.content_is ∙ has q ∙ among_ids q ids }

-- a step that came to nothing
pub keeps_still : (c c' : Content) (history : List Kept) (command : List ℕ) (a : Answer) → HasKept c history → MayKeep history command a → length c.changes.items < 2 ^ 64
    → ((s : State) (given : ℕ) (s' : State) (given' : ℕ) → Represents c s given → Leads a.effect s given s' given' → Represents c' s given) → HasKept c' history
keeps_still c c' history command a h may lt commits =
    let kept : Kept = record { command = command; reply = a.reply } in
    let s : State = state_of_kept history in
    let given : ℕ = given_of history in
    let fits : length s.changes < 2 ^ 64 = omega (arith, lt, changes-length c s given h.content_is) in
    let does = may.leads (is_started history) kept refl refl (kept_state history h.by_rules fits) fits in
    record { by_rules = h.by_rules; content_is = commits s given (state_behind s given (is_started history) kept) (given_after given kept) h.content_is does }
