-- What the store in memory does by its rules is what a server may do.
use Rattle.std.proofs.Common.{◌≡◌, ◌≢◌, ◌⊎◌, ℕ, ℤ, pos, suc, ◌+◌, ◌<◌, ◌≤◌, ◌^◌, Bool, true, false, List, [], ◌∷◌, length, Option, Some, None, Result, Ok, Err, refl, sym, ap, ◌∙◌, subst, inl, inr, arith, append-nil, take, drop}
use Rattle.std.specs.Prelude.{if◌then◌else◌, ◌&&◌, nat_le, nat_lt, is_some, option_and_then, zero, map}
use Rattle.std.specs.List.{list_all}
use Rattle.std.proofs.lemmas.List.{take-append-drop}
use Rattle.std.proofs.lemmas.Bool.{cases_Bool, cond_both}
use Rattle.mg_bson.specs.Tree.{Tree, Fields}
use Rattle.mg_bson.specs.Bytes.{bytes, levels}
use Rattle.mg_bson.specs.Raw.{fields}
use Rattle.mg_link.specs.Namespace.{Space}
use Rattle.mg_server.specs.Filter.{Condition}
use Rattle.mg_server.specs.State.{Entry, Watch, Cursor, query, watching, State, Start, nowhere, after, at_time, events_between, seen_between, start_place, count_before, inserts, Collection, Index, collection_in, indexes_of, is_space}
use Rattle.mg_server.specs.Commands.{Asked, asks_insert, asks_watch, asks_more, asks_kill, Failure, Told, refuses, inserted, opened, gave, killed, asked, told, asks_create, asks_indexes, done, asks_update, asks_delete, updated, deleted, asks_query, asks_drop}
use Rattle.mg_server.specs.Step.{Made, grown, effect, next, documents_of, written, HaveNewIds, AreEventsOf, EndsAtInvalidate, MayGive, May, MayEnd}
use Rattle.mg_server.specs.Events.{TellInserts, TellsWritten}
use Rattle.mg_server.specs.Rules.{Request, insert, watch, more, kill, request_of, token_of, token_place, now_of, Inserted, inserting, inserted_reply, batch_place, Answer, answer_with, answer_insert, ended_before, place_after, place_at, watch_space, ends_watch, id_unless, batch_id, watch_reply, more_reply, is_watch_of, answer_more, killed_reply, size_of, answer, no_such_token, bad_request, max_reply, map_ok, where_ok, refusal, refused, fitting, answer_of, create_collection, create_indexes, modified_entries, deleted_entries, collection_exists, done_reply, may_stay, find, batch_of_query, first_held, id_while, query_id, query_reply, query_more_reply, query_space, answer_query, no_such_collection, or_code, update, delete, updated_reply, events_may_be_given, drop_collection, dropped_entries, deleted_reply}
use Rattle.mg_server.specs.Kept.{made_by, made_none, made_these, given_by, IsStoreState, Kept, IsAllowed, made_of, given_after, rule_entries}
use Rattle.mg_server.specs.Query.{index_listed, Source, of_collection, of_database, of_indexes, Query, read, through, result}
use Rattle.mg_server.specs.Write.{Modification, chosen, changing, with_indexes, modified}
use Rattle.mg_server.proofs.Tokens.{place_named, place_within}
use Rattle.mg_server.proofs.Requests.{IsNamed, asks_of, HasName, request_reads, asked_is}
use Rattle.mg_server.proofs.Growing.{grows_these, state_these, grows_none, state_none}
use Rattle.mg_server.proofs.Inserting.{failing, Inserts, inserting_is}
use Rattle.mg_server.proofs.Telling.{told_reads, refusal_tells, insert_tells, opened_tells, gave_tells, killed_tells, created_tells, indexed_tells, found_tells, more_found_tells, updated_tells, deleted_tells, dropped_tells}
use Rattle.mg_server.proofs.Batching.{batch_within, batch_ends}
use Rattle.mg_server.proofs.Cursoring.{collections_put, opened_unless, moved_is, killed_are, refused_is, next_unnamed, query_opened, queried_is}
use Rattle.mg_server.proofs.Changing.{modified_are, modified_tell, deleted_are, deleted_tell, dropped_are, drop_tells, end_tells}

-- a server may tell so of the command, the events tell of the documents written, and the state behind it is one of a store
pub record Fits (s : State) (given : ℕ) (started : Bool) (command : Asked) (reply : Told) (entries : List Entry) : Type 0 where
  pub may : May s command reply (made_by s started entries reply)
  pub tells : TellsWritten command reply (made_by s started entries reply).entries
  pub stays : IsStoreState (next s command reply (made_by s started entries reply)) (given_by given reply) true

-- the same, where the entries can have tokens
abbrev pub FitsWithin : State → ℕ → Bool → Asked → Told → List Entry → Type 0
FitsWithin s given started command reply entries = length s.changes + length (made_by s started entries reply).entries < 2 ^ 64 → Fits s given started command reply entries

-- ---- refusals

pub refusal_fits : (s : State) (given : ℕ) (started : Bool) (command : Asked) (code : ℤ) (labels : List (List ℕ)) (entries : List Entry) → IsStoreState s given started → FitsWithin s given started command (refuses code labels) entries
refusal_fits s given started command code labels entries h lt = record {
  may = record { grows = grows_none s given started h (omega arith); tells = record { no_entry = refl; same_time = refl } };
  tells = tt;
  stays = refused_is (grown s (made_none s started)) given command code labels (state_none s given started h (omega arith));
}

-- ---- inserts

pub insert_fits : (s : State) (given : ℕ) (started : Bool) (space : Space) (ds : List Fields) (ordered : Bool) (i : Inserted) (failures : List Failure) → IsStoreState s given started → Inserts space ordered 0 (length s.changes) (documents_of s space) ds i failures
    → FitsWithin s given started (asks_insert space ds ordered) (inserted (pos (length i.documents)) failures) i.entries
unfolding effect
insert_fits s given started space ds ordered i failures h is lt =
    let same : written ordered failures 0 ds ≡ i.documents = is.written_are failures (λ m le. refl) in
    record {
      may = record {
        grows = grows_these s given started i.entries h is.entries_are lt;
        tells = record {
          count = ap (λ (l : List Fields). pos (length l)) (sym same);
          ids = subst (HaveNewIds (documents_of s space)) (sym same) is.ids_are;
          entries = subst (λ (l : List Fields). AreEventsOf space inserts l i.entries) (sym same) is.events_are;
        };
      };
      tells = subst (λ (l : List Fields). TellInserts space l i.entries) (sym same) is.tell_of;
      stays = collections_put (grown s (made_these s started i.entries)) given true _ (state_these s given started i.entries h is.entries_are lt);
    }

-- ---- batches

-- the place of a store's state is named by its token
pub named_by : (s : State) (given : ℕ) (place : ℕ) → IsStoreState s given true → place ≤ length s.changes → length s.changes < 2 ^ 64 → s.tokens (token_of place) ≡ Some place
named_by s given place h le lt = h.tokens_are (token_of place) ∙ place_named (length s.changes) place le lt

-- a batch of the rules, where s' has the entries of s
gives : (s s' : State) (given : ℕ) (w : Watch) (from size : ℕ) (id : ℤ) → IsStoreState s' given true → s'.changes ≡ s.changes → from ≤ length s.changes → length s.changes < 2 ^ 64
    → MayGive s' w from (batch_id id w s.changes from (batch_place w s.changes from size)) (events_between w s.changes from (batch_place w s.changes from size)) (Some (token_of (batch_place w s.changes from size)))
gives s s' given w from size id h e le lt =
    let place : ℕ = batch_place w s.changes from size in
    let within = batch_within w s.changes from size le in
    let len : length s'.changes ≡ length s.changes = ap length e in
    record {
      upto = place;
      forward = within.0;
      within = omega arith;
      these = ap (λ (es : List Entry). events_between w es from place) (sym e);
      named = named_by s' given place h (omega arith) (omega arith);
      ends = subst (λ (es : List Entry). EndsAtInvalidate (seen_between w es from place) (batch_id id w s.changes from place)) (sym e) (batch_ends w s.changes from size id le);
    }

after_ok : (w : Watch) (changes : List Entry) (resumes : Bool) (o : Option ℕ) (from : ℕ) → place_after w changes resumes o ≡ Ok from → o ≡ Some from
after_ok w changes resumes None from e = absurd cc
after_ok w changes resumes (Some place) from e =
    elim (cases_Bool (resumes && ended_before w changes place)) [
      | inl ended ↦ let f : Err no_such_token ≡ Ok from = sym (ap (λ (b : Bool). if b then Err no_such_token else Ok place) ended) ∙ e in absurd cc
      | inr goes_on ↦
          let f : ◌≡◌ {A = Result ℕ ℤ} (Ok place) (Ok from) = sym (ap (λ (b : Bool). if b then Err no_such_token else Ok place) goes_on) ∙ e in
          let g : place ≡ from = cc in
          ap Some g
    ]

counted_within : (time : ℕ) (es : List Entry) → count_before time es ≤ length es
counted_within time [] = omega arith
counted_within time (e ∷ es) =
    let more = counted_within time es in
    cond_both (nat_lt e.time time) (suc (count_before time es)) (count_before time es) (λ (n : ℕ). n ≤ suc (length es)) (λ below. omega arith) (λ above. omega arith)

-- the place that the rules open at
pub place_fits : (s : State) (w : Watch) (start : Start) (resumes : Bool) (from : ℕ) → place_at s w start resumes ≡ Ok from → from ≤ length s.changes
place_fits s w nowhere resumes from e = let f : length s.changes ≡ from = cc in omega arith
place_fits s w (after token) resumes from e = place_within (length s.changes) from token (after_ok w s.changes resumes (token_place (length s.changes) token) from e)
place_fits s w (at_time time) resumes from e = let f : count_before time s.changes ≡ from = cc in subst (λ (n : ℕ). n ≤ length s.changes) f (counted_within time s.changes)

pub place_begins : (s s' : State) (given : ℕ) (w : Watch) (start : Start) (resumes : Bool) (from : ℕ) → IsStoreState s' given true → s'.changes ≡ s.changes → place_at s w start resumes ≡ Ok from → start_place s' start ≡ Some from
place_begins s s' given w nowhere resumes from h same e = let f : length s.changes ≡ from = cc in ap Some (ap length same ∙ f)
place_begins s s' given w (after token) resumes from h same e =
    h.tokens_are token ∙ ap (λ (es : List Entry). token_place (length es) token) same ∙ after_ok w s.changes resumes (token_place (length s.changes) token) from e
place_begins s s' given w (at_time time) resumes from h same e = let f : count_before time s.changes ≡ from = cc in ap Some (ap (count_before time) same ∙ f)

pub grown_changes : (s : State) (started : Bool) → (grown s (made_these s started [])).changes ≡ s.changes
unfolding grown
grown_changes s started = append-nil s.changes

grown_now : (s : State) (started : Bool) → now_of (length s.changes) ≡ (grown s (made_these s started [])).now
unfolding grown
grown_now s started = let e : length s.changes ≡ length s.changes + 0 = omega arith in ap now_of e

grown_cursors : (s : State) (made : Made) (id : ℤ) → (grown s made).cursors id ≡ s.cursors id
unfolding grown
grown_cursors s made id = refl

-- an id that is not 0 was not given before
fresh_unless : (ended : Bool) (s : State) (given : ℕ) (started : Bool) → IsStoreState s given started → id_unless ended (pos (suc given)) ≢ pos 0 → s.given (id_unless ended (pos (suc given))) ≡ false
fresh_unless true s given started h ne = absurd (ne refl)
fresh_unless false s given started h ne = h.ids_are (pos (suc given)) ∙ next_unnamed given

pub watch_fits : (s : State) (given : ℕ) (started : Bool) (w : Watch) (start : Start) (resumes : Bool) (from size : ℕ) → IsStoreState s given started → place_at s w start resumes ≡ Ok from
    → FitsWithin s given started (asks_watch w start)
    (opened (batch_id (pos (suc given)) w s.changes from (batch_place w s.changes from size)) (watch_space w.target) (events_between w s.changes from (batch_place w s.changes from size)) (Some (token_of (batch_place w s.changes from size))) (Some (now_of (length s.changes)))) []
unfolding effect
watch_fits s given started w start resumes from size h at lt =
    let s' : State = grown s (made_these s started []) in
    let place : ℕ = batch_place w s.changes from size in
    let ended : Bool = ends_watch w s.changes from place in
    let state = state_these s given started [] h tt lt in
    let same = grown_changes s started in
    let le = place_fits s w start resumes from at in
    let within = batch_within w s.changes from size le in
    let len : length s'.changes ≡ length s.changes = ap length same in
    let token : Tree = token_of place in
    let named = named_by s' given place state (omega arith) (omega arith) in
    record {
      may = record {
        grows = grows_these s given started [] h tt lt;
        tells = record {
          no_entry = refl;
          from = from;
          begins = place_begins s s' given w start resumes from state same at;
          batch = gives s s' given w from size (pos (suc given)) state same le (omega arith);
          fresh = fresh_unless ended s given started h;
          time_is = ap Some (grown_now s started);
        };
      };
      tells = tt;
      stays = opened_unless ended s' given w token place state named (omega arith);
    }

same_unless : (ended : Bool) (id : ℤ) → (id_unless ended id ≡ id) ⊎ (id_unless ended id ≡ pos 0)
same_unless true id = inr refl
same_unless false id = inl refl

pub more_fits : (s : State) (given : ℕ) (started : Bool) (id : ℤ) (space : Space) (w : Watch) (from size : ℕ) → IsStoreState s given started → s.cursors id ≡ Some (watching w from)
    → FitsWithin s given started (asks_more id space) (gave (batch_id id w s.changes from (batch_place w s.changes from size)) space (events_between w s.changes from (batch_place w s.changes from size)) (Some (token_of (batch_place w s.changes from size)))) []
unfolding effect
more_fits s given started id space w from size h stood lt =
    let s' : State = grown s (made_these s started []) in
    let state = state_these s given started [] h tt lt in
    let same = grown_changes s started in
    let le = (h.cursors_are id (watching w from) stood).0 in
    let within = batch_within w s.changes from size le in
    let len : length s'.changes ≡ length s.changes = ap length same in
    let named = named_by s' given (batch_place w s.changes from size) state (omega arith) (omega arith) in
    record {
      may = record {
        grows = grows_these s given started [] h tt lt;
        tells = inl (record {
          no_entry = refl;
          watch = w;
          at = from;
          stood = stood;
          batch = gives s s' given w from size id state same le (omega arith);
          same = same_unless (ends_watch w s.changes from (batch_place w s.changes from size)) id;
        });
      };
      tells = tt;
      stays = moved_is s' given id (batch_id id w s.changes from (batch_place w s.changes from size)) w from (events_between w s.changes from (batch_place w s.changes from size)) (token_of (batch_place w s.changes from size)) (batch_place w s.changes from size) state (grown_cursors s (made_these s started []) id ∙ stood) named (omega arith);
    }

-- ---- queries

-- a step that adds entries leaves what is read
read_grown : (s : State) (made : Made) (source : Source) → read (grown s made) source ≡ read s source
unfolding grown
read_grown s made (of_collection space) = refl
read_grown s made (of_database db) = refl
read_grown s made (of_indexes space) = refl

pub result_grown : (s : State) (made : Made) (q : Query) (ds : List Fields) → result s q ≡ Some ds → result (grown s made) q ≡ Some ds
unfolding result
result_grown s made q ds e = ap (option_and_then (through q.stages)) (read_grown s made q.source) ∙ e

nothing_left : (id : ℤ) (ds : List Fields) → id ≢ pos 0 → id_while id ds ≡ pos 0 → ds ≡ []
nothing_left id [] ne e = refl
nothing_left id (d ∷ ds) ne e = absurd (ne e)

pub none_left : (n : ℕ) (ds : List Fields) → ds ≡ [] → drop n ds ≡ []
none_left zero ds e = e
none_left (suc n) [] e = refl
none_left (suc n) (d ∷ ds) e = absurd cc

cons_some : (d : Fields) (ds : List Fields) → (d ∷ ds) ≢ []
cons_some d ds e = absurd cc

-- a batch that ends its cursor leaves nothing, or is the one that was asked for
single_ends : (q : Query) (single : Bool) (size : Option ℕ) (ds : List Fields) → q.single ≡ single → q.size ≡ size → single ≡ true → MayEnd q (take (first_held q ds) ds) (drop (first_held q ds) ds)
single_ends q single size [] a b one = inl (none_left (first_held q []) [] refl)
single_ends q single None (d ∷ ds) a b one = inr (a ∙ one, inl (rw b (cons_some d _)))
single_ends q single (Some zero) (d ∷ ds) a b one = inr (a ∙ one, inr b)
single_ends q single (Some (suc n)) (d ∷ ds) a b one = inr (a ∙ one, inl (rw b (cons_some d _)))

ends_by : (q : Query) (id : ℤ) (ds : List Fields) (single : Bool) → id ≢ pos 0 → q.single ≡ single → (if single then pos 0 else id_while id (drop (first_held q ds) ds)) ≡ pos 0 → MayEnd q (take (first_held q ds) ds) (drop (first_held q ds) ds)
ends_by q id ds true ne a e = single_ends q true q.size ds a refl refl
ends_by q id ds false ne a e = inl (nothing_left id (drop (first_held q ds) ds) ne e)

while_is : (id : ℤ) (ds : List Fields) → (id_while id ds ≡ pos 0) ⊎ (id_while id ds ≡ id)
while_is id [] = inl refl
while_is id (d ∷ ds) = inr refl

-- the id of a query's reply is 0 or the next one
pub query_id-is : (id : ℤ) (q : Query) (ds : List Fields) → (query_id id q ds ≡ pos 0) ⊎ (query_id id q ds ≡ id)
query_id-is id q ds = elim q.single as (λ b. ((if b then pos 0 else id_while id (drop (first_held q ds) ds)) ≡ pos 0) ⊎ ((if b then pos 0 else id_while id (drop (first_held q ds) ds)) ≡ id)) [ true ↦ inl refl | false ↦ while_is id (drop (first_held q ds) ds) ]

next_some : (given : ℕ) → pos (suc given) ≢ pos 0
next_some given e = let f : suc given ≡ 0 = cc in omega arith

fresh_by : (s : State) (given : ℕ) (started : Bool) (id : ℤ) → IsStoreState s given started → (id ≡ pos 0) ⊎ (id ≡ pos (suc given)) → id ≢ pos 0 → s.given id ≡ false
fresh_by s given started id h (inl none) ne = absurd (ne none)
fresh_by s given started id h (inr next) ne = ap s.given next ∙ h.ids_are (pos (suc given)) ∙ next_unnamed given

pub find_fits : (s : State) (given : ℕ) (started : Bool) (q : Query) (space : Space) (ds : List Fields) → IsStoreState s given started → result s q ≡ Some ds
    → FitsWithin s given started (asks_query q) (opened (query_id (pos (suc given)) q ds) space (take (first_held q ds) ds) None None) []
unfolding effect
find_fits s given started q space ds h is lt =
    let s' : State = grown s (made_these s started []) in
    let id : ℤ = query_id (pos (suc given)) q ds in
    let n : ℕ = first_held q ds in
    let which = query_id-is (pos (suc given)) q ds in
    record {
      may = record {
        grows = grows_these s given started [] h tt lt;
        tells = record {
          no_entry = refl;
          left = drop n ds;
          these = result_grown s (made_these s started []) q ds is ∙ ap Some (sym (take-append-drop n ds));
          fresh = fresh_by s given started id h which;
          ends = ends_by q (pos (suc given)) ds q.single (next_some given) refl;
        };
      };
      tells = tt;
      stays = query_opened s' given id space _ (state_these s given started [] h tt lt) which;
    }

pub query_more_fits : (s : State) (given : ℕ) (started : Bool) (id : ℤ) (space other : Space) (left : List Fields) (size : ℕ) → IsStoreState s given started → s.cursors id ≡ Some (query other left)
    → FitsWithin s given started (asks_more id space) (gave (id_while id (drop (batch_of_query size left) left)) space (take (batch_of_query size left) left) None) []
unfolding effect
query_more_fits s given started id space other left size h stood lt =
    let s' : State = grown s (made_these s started []) in
    let n : ℕ = batch_of_query size left in
    record {
      may = record {
        grows = grows_these s given started [] h tt lt;
        tells = inr (record {
          no_entry = refl;
          space = other;
          left = drop n left;
          stood = stood ∙ ap (λ (l : List Fields). Some (query other l)) (sym (take-append-drop n left));
          same = goes_on id (drop n left);
        });
      };
      tells = tt;
      stays = queried_is s' given id (id_while id (drop n left)) other left (take n left) None (state_these s given started [] h tt lt) (grown_cursors s (made_these s started []) id ∙ stood);
    }
  where
    goes_on : (id : ℤ) (ds : List Fields) → (id_while id ds ≡ id) ⊎ ((id_while id ds ≡ pos 0) × (ds ≡ []))
    goes_on id [] = inr (refl, refl)
    goes_on id (d ∷ ds) = inl refl

pub kill_fits : (s : State) (given : ℕ) (started : Bool) (ids : List ℤ) → IsStoreState s given started → FitsWithin s given started (asks_kill ids) killed []
unfolding effect
kill_fits s given started ids h lt = record {
  may = record { grows = grows_these s given started [] h tt lt; tells = refl };
  tells = tt;
  stays = killed_are (grown s (made_these s started [])) given true ids (state_these s given started [] h tt lt);
}

pub create_fits : (s : State) (given : ℕ) (started : Bool) (space : Space) → IsStoreState s given started → collection_in s.collections space ≡ None → FitsWithin s given started (asks_create space) done []
unfolding effect
create_fits s given started space h none lt = record {
  may = record { grows = grows_these s given started [] h tt lt; tells = record { no_entry = refl; is_new = none } };
  tells = tt;
  stays = collections_put (grown s (made_these s started [])) given true _ (state_these s given started [] h tt lt);
}

pub indexes_fit : (s : State) (given : ℕ) (started : Bool) (space : Space) (indexes : List Index) → IsStoreState s given started → FitsWithin s given started (asks_indexes space indexes) done []
unfolding effect
indexes_fit s given started space indexes h lt = record {
  may = record { grows = grows_these s given started [] h tt lt; tells = refl };
  tells = tt;
  stays = collections_put (grown s (made_these s started [])) given true _ (state_these s given started [] h tt lt);
}

pub delete_fits : (s : State) (given : ℕ) (started : Bool) (space : Space) (conditions : List Condition) (many : Bool) → IsStoreState s given started
    → FitsWithin s given started (asks_delete space conditions many) (deleted (pos (length (chosen conditions many (documents_of s space)))) []) (deleted_entries (length s.changes) space (chosen conditions many (documents_of s space)))
unfolding effect
delete_fits s given started space conditions many h lt =
    let gone : List Fields = chosen conditions many (documents_of s space) in
    let entries : List Entry = deleted_entries (length s.changes) space gone in
    let are = deleted_are (length s.changes) space gone in
    record {
      may = record { grows = grows_these s given started entries h are lt; tells = record { count = refl; entries = deleted_tell (length s.changes) space gone } };
      tells = tt;
      stays = collections_put (grown s (made_these s started entries)) given true _ (state_these s given started entries h are lt);
    }

pub update_fits : (s : State) (given : ℕ) (started : Bool) (space : Space) (conditions : List Condition) (m : Modification) (many : Bool) → IsStoreState s given started
    → FitsWithin s given started (asks_update space conditions m many) (updated (pos (length (chosen conditions many (documents_of s space)))) (pos (length (changing conditions many m (documents_of s space)))) [])
    (modified_entries (length s.changes) space m (changing conditions many m (documents_of s space)))
unfolding effect
update_fits s given started space conditions m many h lt =
    let changed : List Fields = changing conditions many m (documents_of s space) in
    let entries : List Entry = modified_entries (length s.changes) space m changed in
    let are = modified_are (length s.changes) space m changed in
    record {
      may = record { grows = grows_these s given started entries h are lt; tells = record { count = refl; changed_is = refl; entries = modified_tell (length s.changes) space m changed } };
      tells = tt;
      stays = collections_put (grown s (made_these s started entries)) given true _ (state_these s given started entries h are lt);
    }

pub drop_fits : (s : State) (given : ℕ) (started : Bool) (space : Space) (c : Collection) → IsStoreState s given started → collection_in s.collections space ≡ Some c → FitsWithin s given started (asks_drop space) done (dropped_entries (length s.changes) space)
unfolding effect
drop_fits s given started space c h there lt =
    let entries : List Entry = dropped_entries (length s.changes) space in
    let are = dropped_are (length s.changes) space in
    record {
      may = record {
        grows = grows_these s given started entries h are lt;
        tells = inl (record {
          collection = c;
          there = there;
          dropped = _;
          ended = _;
          entries = refl;
          drop_is = drop_tells (suc (length s.changes)) space;
          end_is = end_tells (suc (suc (length s.changes))) space;
        });
      };
      tells = tt;
      stays = collections_put (grown s (made_these s started entries)) given true _ (state_these s given started entries h are lt);
    }

-- ---- answers

pub map_some : {A B : Type 0} (f : A → B) (r : Result A ℤ) (y : B) → map_ok f r ≡ Ok y → (x : A) × (r ≡ Ok x) × (f x ≡ y)
map_some f (Ok x) y h = let e : f x ≡ y = cc in (x, refl, e)
map_some f (Err code) y h = absurd cc

then_ok : {A B : Type 0} (f : A → Result B ℤ) (r : Result A ℤ) (y : B) → where_ok f r ≡ Ok y → (x : A) × (r ≡ Ok x) × (f x ≡ Ok y)
then_ok f (Ok x) y h = (x, refl, h)
then_ok f (Err code) y h = absurd cc

-- the reply of an answer is told, and fits
abbrev AnswerFits : State → ℕ → Bool → Request → Answer → Type 0
AnswerFits s given started r a = (reply : List ℕ) → fields reply ≡ a.reply → FitsWithin s given started (asks_of r) (told (asks_of r) reply) a.entries

retold : (s : State) (given : ℕ) (started : Bool) (r : Request) (a : Answer) (t : Told) → ((reply : List ℕ) → fields reply ≡ a.reply → told (asks_of r) reply ≡ t) → FitsWithin s given started (asks_of r) t a.entries → AnswerFits s given started r a
retold s given started r a t tells fits reply e = subst (λ (u : Told). FitsWithin s given started (asks_of r) u a.entries) (sym (tells reply e)) fits

insert_answers : (s : State) (given : ℕ) (started : Bool) (space : Space) (ds : List Fields) (ordered : Bool) → IsStoreState s given started → AnswerFits s given started (insert space ds ordered) (answer_insert s space ds ordered)
insert_answers s given started space ds ordered h =
    let i : Inserted = inserting space ordered 0 (length s.changes) (documents_of s space) ds in
    let is = inserting_is space ordered 0 (length s.changes) (documents_of s space) ds in
    let failures : List Failure = failing ordered 0 (documents_of s space) ds in
    retold s given started (insert space ds ordered) (answer_insert s space ds ordered) (inserted (pos (length i.documents)) failures)
    (λ reply e. told_reads (asks_insert space ds ordered) reply (inserted_reply i) e ∙ insert_tells space ds ordered i failures is.failures_are is.errors_keep)
    (insert_fits s given started space ds ordered i failures h is)

watch_answers : (s : State) (given : ℕ) (started : Bool) (w : Watch) (start : Start) (resumes : Bool) (size : Option ℕ) (from : ℕ) → IsStoreState s given started → IsNamed (watch_space w.target) → place_at s w start resumes ≡ Ok from
    → AnswerFits s given started (watch w start resumes size) (answer_with [] (watch_reply s (pos (suc given)) w from (size_of size)))
watch_answers s given started w start resumes size from h named at =
    let place : ℕ = batch_place w s.changes from (size_of size) in
    let id : ℤ = batch_id (pos (suc given)) w s.changes from place in
    retold s given started (watch w start resumes size) (answer_with [] (watch_reply s (pos (suc given)) w from (size_of size))) (opened id (watch_space w.target) (events_between w s.changes from place) (Some (token_of place)) (Some (now_of (length s.changes))))
    (λ reply e. told_reads (asks_watch w start) reply (watch_reply s (pos (suc given)) w from (size_of size)) e
    ∙ opened_tells w start id (watch_space w.target) (events_between w s.changes from place) place (length s.changes) named)
    (watch_fits s given started w start resumes from (size_of size) h at)

more_answers : (s : State) (given : ℕ) (started : Bool) (id : ℤ) (space : Space) (size : Option ℕ) (w : Watch) (from : ℕ) → IsStoreState s given started → IsNamed space → s.cursors id ≡ Some (watching w from)
    → AnswerFits s given started (more id space size) (answer_with [] (more_reply s id space w from (size_of size)))
more_answers s given started id space size w from h named stood =
    let place : ℕ = batch_place w s.changes from (size_of size) in
    let left : ℤ = batch_id id w s.changes from place in
    retold s given started (more id space size) (answer_with [] (more_reply s id space w from (size_of size))) (gave left space (events_between w s.changes from place) (Some (token_of place)))
    (λ reply e. told_reads (asks_more id space) reply (more_reply s id space w from (size_of size)) e ∙ gave_tells id space left space (events_between w s.changes from place) place named)
    (more_fits s given started id space w from (size_of size) h stood)

find_answers : (s : State) (given : ℕ) (started : Bool) (q : Query) (ds : List Fields) → IsStoreState s given started → IsNamed (query_space q.source) → result s q ≡ Some ds → AnswerFits s given started (find q) (answer_with [] (query_reply (pos (suc given)) q ds))
find_answers s given started q ds h named is =
    let id : ℤ = query_id (pos (suc given)) q ds in
    let batch : List Fields = take (first_held q ds) ds in
    retold s given started (find q) (answer_with [] (query_reply (pos (suc given)) q ds)) (opened id (query_space q.source) batch None None)
    (λ reply e. told_reads (asks_query q) reply (query_reply (pos (suc given)) q ds) e ∙ found_tells q id (query_space q.source) batch named)
    (find_fits s given started q (query_space q.source) ds h is)

query_more_answers : (s : State) (given : ℕ) (started : Bool) (id : ℤ) (space other : Space) (size : Option ℕ) (left : List Fields) → IsStoreState s given started → IsNamed space → s.cursors id ≡ Some (query other left)
    → AnswerFits s given started (more id space size) (answer_with [] (query_more_reply id space left (size_of size)))
query_more_answers s given started id space other size left h named stood =
    let n : ℕ = batch_of_query (size_of size) left in
    retold s given started (more id space size) (answer_with [] (query_more_reply id space left (size_of size))) (gave (id_while id (drop n left)) space (take n left) None)
    (λ reply e. told_reads (asks_more id space) reply (query_more_reply id space left (size_of size)) e ∙ more_found_tells id space (id_while id (drop n left)) space (take n left) named)
    (query_more_fits s given started id space other left (size_of size) h stood)

kill_answers : (s : State) (given : ℕ) (started : Bool) (ids : List ℤ) → IsStoreState s given started → AnswerFits s given started (kill ids) (answer_with [] (killed_reply s ids))
kill_answers s given started ids h =
    retold s given started (kill ids) (answer_with [] (killed_reply s ids)) killed (λ reply e. told_reads (asks_kill ids) reply (killed_reply s ids) e ∙ killed_tells s ids) (kill_fits s given started ids h)

create_answers : (s : State) (given : ℕ) (started : Bool) (space : Space) → IsStoreState s given started → collection_in s.collections space ≡ None → AnswerFits s given started (create_collection space) (answer_with [] done_reply)
create_answers s given started space h none =
    retold s given started (create_collection space) (answer_with [] done_reply) done (λ reply e. told_reads (asks_create space) reply done_reply e ∙ created_tells space) (create_fits s given started space h none)

indexes_answer : (s : State) (given : ℕ) (started : Bool) (space : Space) (indexes : List Index) → IsStoreState s given started → AnswerFits s given started (create_indexes space indexes) (answer_with [] done_reply)
indexes_answer s given started space indexes h =
    retold s given started (create_indexes space indexes) (answer_with [] done_reply) done (λ reply e. told_reads (asks_indexes space indexes) reply done_reply e ∙ indexed_tells space indexes) (indexes_fit s given started space indexes h)

update_answers : (s : State) (given : ℕ) (started : Bool) (space : Space) (conditions : List Condition) (m : Modification) (many : Bool) → IsStoreState s given started
    → AnswerFits s given started (update space conditions m many) (answer_with (modified_entries (length s.changes) space m (changing conditions many m (documents_of s space))) (updated_reply (length (chosen conditions many (documents_of s space))) (length (changing conditions many m (documents_of s space)))))
update_answers s given started space conditions m many h =
    let n : ℕ = length (chosen conditions many (documents_of s space)) in
    let changed : List Fields = changing conditions many m (documents_of s space) in
    retold s given started (update space conditions m many) (answer_with (modified_entries (length s.changes) space m changed) (updated_reply n (length changed))) (updated (pos n) (pos (length changed)) [])
    (λ reply e. told_reads (asks_update space conditions m many) reply (updated_reply n (length changed)) e ∙ updated_tells space conditions m many n (length changed))
    (update_fits s given started space conditions m many h)

delete_answers : (s : State) (given : ℕ) (started : Bool) (space : Space) (conditions : List Condition) (many : Bool) → IsStoreState s given started
    → AnswerFits s given started (delete space conditions many) (answer_with (deleted_entries (length s.changes) space (chosen conditions many (documents_of s space))) (deleted_reply (length (chosen conditions many (documents_of s space)))))
delete_answers s given started space conditions many h =
    let gone : List Fields = chosen conditions many (documents_of s space) in
    retold s given started (delete space conditions many) (answer_with (deleted_entries (length s.changes) space gone) (deleted_reply (length gone))) (deleted (pos (length gone)) [])
    (λ reply e. told_reads (asks_delete space conditions many) reply (deleted_reply (length gone)) e ∙ deleted_tells space conditions many (length gone))
    (delete_fits s given started space conditions many h)

drop_answers : (s : State) (given : ℕ) (started : Bool) (space : Space) (c : Collection) → IsStoreState s given started → collection_in s.collections space ≡ Some c → AnswerFits s given started (drop_collection space) (answer_with (dropped_entries (length s.changes) space) done_reply)
drop_answers s given started space c h there =
    retold s given started (drop_collection space) (answer_with (dropped_entries (length s.changes) space) done_reply) done (λ reply e. told_reads (asks_drop space) reply done_reply e ∙ dropped_tells space) (drop_fits s given started space c h there)

-- a create is answered where no collection of the name is there
pub create_ok : (o : Option Collection) (a : Answer) → (if is_some o then Err collection_exists else Ok (answer_with [] done_reply)) ≡ Ok a → (o ≡ None) × (answer_with [] done_reply ≡ a)
create_ok None a e = (refl, cc)
create_ok (Some c) a e = absurd cc

-- and a drop where one is there
pub drop_ok : (o : Option Collection) (x a : Answer) → (if is_some o then Ok x else Err no_such_collection) ≡ Ok a → (c : Collection) × (o ≡ Some c) × (x ≡ a)
drop_ok (Some c) x a e = (c, refl, cc)
drop_ok None x a e = absurd cc

-- what is answered under a condition
pub answered_if : (b : Bool) (x a : Answer) → (if b then Ok x else Err bad_request) ≡ Ok a → (b ≡ true) × (x ≡ a)
answered_if true x a e = (refl, cc)
answered_if false x a e = absurd cc

more_by : (s : State) (given : ℕ) (started : Bool) (id : ℤ) (space : Space) (size : Option ℕ) (o : Option Cursor) (a : Answer) → IsStoreState s given started → IsNamed space → s.cursors id ≡ o → answer_more s id space (size_of size) o ≡ Ok a
    → AnswerFits s given started (more id space size) a
more_by s given started id space size None a h named stood e = absurd cc
more_by s given started id space size (Some (query other left)) a h named stood e =
    elim (cases_Bool (is_space space other)) [
      | inl its ↦
          let f : Ok (answer_with [] (query_more_reply id space left (size_of size))) ≡ Ok a = sym (ap (λ (b : Bool). if b then Ok (answer_with [] (query_more_reply id space left (size_of size))) else Err bad_request) its) ∙ e in
          let g : answer_with [] (query_more_reply id space left (size_of size)) ≡ a = cc in
          subst (AnswerFits s given started (more id space size)) g (query_more_answers s given started id space other size left h named stood)
      | inr others ↦
          let f : Err bad_request ≡ Ok a = sym (ap (λ (b : Bool). if b then Ok (answer_with [] (query_more_reply id space left (size_of size))) else Err bad_request) others) ∙ e in
          absurd cc
    ]
more_by s given started id space size (Some (watching w from)) a h named stood e =
    elim (cases_Bool (is_watch_of space w)) [
      | inl its ↦
          let f : Ok (answer_with [] (more_reply s id space w from (size_of size))) ≡ Ok a = sym (ap (λ (b : Bool). if b then Ok (answer_with [] (more_reply s id space w from (size_of size))) else Err bad_request) its) ∙ e in
          let g : answer_with [] (more_reply s id space w from (size_of size)) ≡ a = cc in
          subst (AnswerFits s given started (more id space size)) g (more_answers s given started id space size w from h named stood)
      | inr others ↦
          let f : Err bad_request ≡ Ok a = sym (ap (λ (b : Bool). if b then Ok (answer_with [] (more_reply s id space w from (size_of size))) else Err bad_request) others) ∙ e in
          absurd cc
    ]

code_ok : {A : Type 0} (code : ℤ) (o : Option A) (x : A) → or_code code o ≡ Ok x → o ≡ Some x
code_ok code (Some y) x h = let e : y ≡ x = cc in ap Some e
code_ok code None x h = absurd cc

-- the result of a query that is answered
pub record Found (s : State) (id : ℤ) (q : Query) (a : Answer) : Type 0 where
  pub documents : List Fields
  pub these : result s q ≡ Some documents
  pub is : answer_with [] (query_reply id q documents) ≡ a

pub found_by : (s : State) (id : ℤ) (q : Query) (a : Answer) → answer_query s id q ≡ Ok a → Found s id q a
unfolding result
found_by s id q a e =
    let rows = then_ok (λ (ds : List Fields). map_ok (λ result. answer_with [] (query_reply id q result)) (or_code bad_request (through q.stages ds))) (or_code no_such_collection (read s q.source)) a e in
    let ds = map_some (λ (result : List Fields). answer_with [] (query_reply id q result)) (or_code bad_request (through q.stages rows.0)) a rows.2 in
    let read_is = code_ok no_such_collection (read s q.source) rows.0 rows.1 in
    record { documents = ds.0; these = ap (option_and_then (through q.stages)) read_is ∙ code_ok bad_request (through q.stages rows.0) ds.0 ds.1; is = ds.2 }

-- an answer to a request fits
pub answer_fits : (s : State) (given : ℕ) (started : Bool) (r : Request) (a : Answer) → IsStoreState s given started → HasName r → answer s (pos (suc given)) r ≡ Ok a → AnswerFits s given started r a
answer_fits s given started (insert space ds ordered) a h named e =
    let f : answer_insert s space ds ordered ≡ a = cc in
    subst (AnswerFits s given started (insert space ds ordered)) f (insert_answers s given started space ds ordered h)
answer_fits s given started (find q) a h named e =
    let found = found_by s (pos (suc given)) q a e in
    subst (AnswerFits s given started (find q)) found.is (find_answers s given started q found.documents h named found.these)
answer_fits s given started (watch w start resumes size) a h named e =
    let from = map_some (λ (from : ℕ). answer_with [] (watch_reply s (pos (suc given)) w from (size_of size))) (place_at s w start resumes) a e in
    subst (AnswerFits s given started (watch w start resumes size)) from.2 (watch_answers s given started w start resumes size from.0 h named from.1)
answer_fits s given started (more id space size) a h named e = more_by s given started id space size (s.cursors id) a h named.0 refl e
answer_fits s given started (kill ids) a h named e =
    let f : answer_with [] (killed_reply s ids) ≡ a = cc in
    subst (AnswerFits s given started (kill ids)) f (kill_answers s given started ids h)
answer_fits s given started (create_collection space) a h named e =
    let known = create_ok (collection_in s.collections space) a e in
    subst (AnswerFits s given started (create_collection space)) known.1 (create_answers s given started space h known.0)
answer_fits s given started (create_indexes space indexes) a h named e =
    let known = answered_if (list_all (λ (i : Index). may_stay (index_listed i)) (with_indexes (indexes_of s space) indexes)) (answer_with [] done_reply) a e in
    subst (AnswerFits s given started (create_indexes space indexes)) known.1 (indexes_answer s given started space indexes h)
answer_fits s given started (update space conditions m many) a h named e =
    let changed : List Fields = changing conditions many m (documents_of s space) in
    let entries : List Entry = modified_entries (length s.changes) space m changed in
    let known = answered_if (list_all may_stay (map (modified m) changed) && events_may_be_given entries) (answer_with entries (updated_reply (length (chosen conditions many (documents_of s space))) (length changed))) a e in
    subst (AnswerFits s given started (update space conditions m many)) known.1 (update_answers s given started space conditions m many h)
answer_fits s given started (delete space conditions many) a h named e =
    let gone : List Fields = chosen conditions many (documents_of s space) in
    let entries : List Entry = deleted_entries (length s.changes) space gone in
    let known = answered_if (events_may_be_given entries) (answer_with entries (deleted_reply (length gone))) a e in
    subst (AnswerFits s given started (delete space conditions many)) known.1 (delete_answers s given started space conditions many h)
answer_fits s given started (drop_collection space) a h named e =
    let known = drop_ok (collection_in s.collections space) (answer_with (dropped_entries (length s.changes) space) done_reply) a e in
    subst (AnswerFits s given started (drop_collection space)) known.2 (drop_answers s given started space known.0 h known.1)

-- ---- any command

pub data Rule (s : State) (id : ℤ) (fs : Fields) (o : Answer) : Type 0 where
  refuses_by : (code : ℤ) → o ≡ refused code → Rule s id fs o
  answers_by : (r : Request) (a : Answer) → request_of fs ≡ Ok r → answer s id r ≡ Ok a → o ≡ a → Rule s id fs o

rule_by : (s : State) (id : ℤ) (fs : Fields) (r : Result Answer ℤ) → where_ok (answer s id) (request_of fs) ≡ r → Rule s id fs (fitting r)
rule_by s id fs (Err code) e = refuses_by code refl
rule_by s id fs (Ok a) e =
    let known = then_ok (answer s id) (request_of fs) a e in
    cond_both (nat_le (length (bytes a.reply)) max_reply && nat_le (levels a.reply) 100) a (refused bad_request) (Rule s id fs) (λ small. answers_by known.0 a known.1 known.2 refl) (λ large. refuses_by bad_request refl)

-- the rules answer a request, or refuse
pub rule_is : (s : State) (id : ℤ) (fs : Fields) → Rule s id fs (answer_of s id fs)
unfolding answer_of
rule_is s id fs = rule_by s id fs (where_ok (answer s id) (request_of fs)) refl

refusal_read : (s : State) (given : ℕ) (started : Bool) (command reply : List ℕ) (code : ℤ) (labels : List (List ℕ)) (entries : List Entry) → IsStoreState s given started → fields reply ≡ refusal code labels
    → FitsWithin s given started (asked command) (told (asked command) reply) entries
refusal_read s given started command reply code labels entries h e =
    subst (λ (t : Told). FitsWithin s given started (asked command) t entries) (sym (told_reads (asked command) reply (refusal code labels) e ∙ refusal_tells (asked command) code labels)) (refusal_fits s given started (asked command) code labels entries h)

rule_fits : (s : State) (given : ℕ) (started : Bool) (command reply : List ℕ) (o : Answer) → IsStoreState s given started → Rule s (pos (suc given)) (fields command) o → fields reply ≡ o.reply → FitsWithin s given started (asked command) (told (asked command) reply) o.entries
rule_fits s given started command reply o h (refuses_by code is) e = refusal_read s given started command reply code [] o.entries h (e ∙ ap (λ (x : Answer). x.reply) is)
rule_fits s given started command reply o h (answers_by r a asks answers is) e =
    let fits = answer_fits s given started r a h (request_reads (fields command) r asks).named answers reply (e ∙ ap (λ (x : Answer). x.reply) is) in
    let there = subst (λ (c : Asked). FitsWithin s given started c (told c reply) a.entries) (sym (asked_is command r asks)) fits in
    subst (λ (x : Answer). FitsWithin s given started (asked command) (told (asked command) reply) x.entries) (sym is) there

-- what the rules reply is allowed
pub rules_allowed : (s : State) (given : ℕ) (started : Bool) (kept : Kept) → IsStoreState s given started → length s.changes + length (made_of s given started kept).entries < 2 ^ 64
    → fields kept.reply ≡ (answer_of s (pos (suc given)) (fields kept.command)).reply → IsAllowed s given started kept
unfolding made_of given_after
rules_allowed s given started kept h lt e =
    let fits = rule_fits s given started kept.command kept.reply (answer_of s (pos (suc given)) (fields kept.command)) h (rule_is s (pos (suc given)) (fields kept.command)) e lt in
    record { may = fits.may; tells = fits.tells; stays = fits.stays }

-- and so is a refusal that somebody chose
pub refusal_allowed : (s : State) (given : ℕ) (started : Bool) (kept : Kept) (code : ℤ) (labels : List (List ℕ)) → IsStoreState s given started → length s.changes + length (made_of s given started kept).entries < 2 ^ 64
    → fields kept.reply ≡ refusal code labels → IsAllowed s given started kept
unfolding made_of given_after
refusal_allowed s given started kept code labels h lt e =
    let fits = refusal_read s given started kept.command kept.reply code labels (rule_entries s given kept) h e lt in
    record { may = fits.may; tells = fits.tells; stays = fits.stays }
