-- The opening of the reader of a query's result.
use Rattle.std.proofs.Common.{◌≡◌, ◌⊎◌, ℕ, suc, ℤ, pos, Bool, true, false, List, [], ◌∷◌, ◌++◌, length, take, drop, map, filter, Option, Some, option_map, option_and_then, unwrap_or, refl, sym, ap, ◌∙◌, subst, inl, inr, arith, append_assoc, append-nil, length-append}
use Rattle.std.specs.Prelude.{if◌then◌else◌, slice_get}
use Rattle.std.specs.Ordering.{int_eq}
use Rattle.std.specs.Str.{bytes_eq}
use Rattle.std.proofs.lemmas.Bool.{cond_both}
use Rattle.std.proofs.lemmas.Bool.Decides.{Decides-int_eq}
use Rattle.std.proofs.lemmas.List.{drop_at, take_at}
use Rattle.mg_bson.specs.Tree.{Fields}
use Rattle.mg_bson.specs.Raw.{fields}
use Rattle.mg_link.specs.Namespace.{Space}
use Rattle.mg_server.specs.State.{State, nothing, Cursor, query, put_cursor, give, Collection, collection_in}
use Rattle.mg_server.specs.Query.{Query, Source, of_collection, of_database, of_indexes, collection_listed, index_listed, id_index, read, through, result}
use Rattle.mg_server.specs.Commands.{Asked, asks_query, Told, refuses, inserted, opened, gave, killed, garbled, updated, deleted, done, Batch, time_in, opened_by, asked, told, told_by}
use Rattle.mg_server.specs.Step.{Made, effect, grown, opened_cursor, queried_at, MayFind, May, MayTell}
use Rattle.mg_server.specs.History.{Step, IsLegal, step_after, state_after, state_of, told_at}
use Rattle.mg_link.specs.Log.{Sight, waiting, reply, Call, see}
use Rattle.mg_link.specs.Link.{Adds, Sees}
use Rattle.mg_link.specs.Link as link
use Rattle.mg_server.specs.Standing.{Names, OpensId, TookEffect, Stands}
use Rattle.mg_server.specs.Owner.{nobody, Owns, by_id, by_reply, NamesOwn, Passes}
use Rattle.mg_server.specs.Follow.{Reads}
use Rattle.mg_server.specs.Reader.{owner_of_reader, HoldsLeft, HasEnded, FactsOf, KnowsRead, finder, OpensWith, AfterFind, KnowsFinding, opened_at}
use Rattle.mg_link.proofs.Places.{get_seam}
use Rattle.mg_server.proofs.Histories.{state_after-append}
use Rattle.mg_server.proofs.Later.{leaves_steps, respects_of, respects_step, opens_given}
use Rattle.mg_server.proofs.Owners.{same_some, legal_parts, after_cons, state_one, see_here, BackTo, back_to, stands_unseen}
use Rattle.mg_server.proofs.Apart.{Sends, SawGiven, OwnsOld, took_last, step_last, holds_nobody, holds_added, passes_added, holds_seen, passes_seen}
use Rattle.mg_server.proofs.Heard.{HeardStep, heard_at, heard_given, told_heard}
use Rattle.mg_server.proofs.Moving.{waits_last}
use Rattle.mg_server.proofs.Openings.{IsNext}

-- ---- right behind its step

-- a result is that of the collections
read_same : (s t : State) (source : Source) → t.collections ≡ s.collections → read t source ≡ read s source
read_same s t (of_collection space) same = ap (λ (cs : List Collection). Some (unwrap_or (option_map (λ (c : Collection). c.documents) (collection_in cs space)) [])) same
read_same s t (of_database db) same = ap (λ (cs : List Collection). Some (map collection_listed (filter (λ (c : Collection). bytes_eq db c.space.db) cs))) same
read_same s t (of_indexes space) same = ap (λ (cs : List Collection). option_map (λ (c : Collection). map index_listed (id_index ∷ c.indexes)) (collection_in cs space)) same

result_same : (s t : State) (q : Query) → t.collections ≡ s.collections → result t q ≡ result s q
unfolding result
result_same s t q same = ap (option_and_then (through q.stages)) (read_same s t q.source same)

opened_collections : (s : State) (id : ℤ) (c : Cursor) → (opened_cursor s id c).collections ≡ s.collections
opened_collections s id c =
    cond_both (int_eq id (pos 0)) s (record s { cursors = put_cursor id (Some c) s.cursors; given = give id s.given }) (λ (n : State). n.collections ≡ s.collections) (λ e. refl) (λ e. refl)

here_put : (id : ℤ) (c : Option Cursor) (cursors : ℤ → Option Cursor) → put_cursor id c cursors id ≡ c
here_put id c cursors = ap (λ (b : Bool). if b then c else cursors id) ((Decides-int_eq id id).1 refl)

-- the cursor holds what the result has behind its first documents
queried_is : (s : State) (q : Query) (space : Space) (documents left : List Fields) → result s q ≡ Some (documents ++ left) → queried_at s q space documents ≡ query space left
queried_is s q space documents left these =
    ap (λ (o : Option (List Fields)). query space (drop (length documents) (unwrap_or o []))) these ∙ ap (query space) (drop_at documents left (length documents) refl)

holds_opened : (s : State) (q : Query) (space : Space) (id : ℤ) (documents left : List Fields) → result s q ≡ Some (documents ++ left) → HoldsLeft (opened_cursor s id (queried_at s q space documents)) id left
holds_opened s q space id documents left these =
    cond_both (int_eq id (pos 0)) s (record s { cursors = put_cursor id (Some (queried_at s q space documents)) s.cursors; given = give id s.given }) (λ (n : State). HoldsLeft n id left)
    (λ e d ne h. absurd (ne ((Decides-int_eq id (pos 0)).0 e)))
    (λ e d ne h. (space, same_some d (query space left) (sym h ∙ here_put id (Some (queried_at s q space documents)) s.cursors ∙ ap Some (queried_is s q space documents left these))))

record FoundAs (n : State) (q : Query) (id : ℤ) (documents : List Fields) : Type 0 where
  left : List Fields
  fixed : result n q ≡ Some (documents ++ left)
  holds : HoldsLeft n id left
  ends : id ≡ pos 0 → (left ≡ []) ⊎ (q.single ≡ true)

abbrev WasFound : State → Query → Told → Type 0
WasFound n q (opened id space documents token time) = FoundAs n q id documents
WasFound n q (refuses code labels) = Unit {0}
WasFound n q (inserted m failures) = ⊥
WasFound n q (updated m changed failures) = ⊥
WasFound n q (deleted m failures) = ⊥
WasFound n q done = ⊥
WasFound n q (gave id space documents token) = ⊥
WasFound n q killed = ⊥
WasFound n q garbled = ⊥

ended_so : (s s' : State) (q : Query) (id : ℤ) (documents : List Fields) (made : Made) (may : MayFind s s' q id documents made) → id ≡ pos 0 → (may.left ≡ []) ⊎ (q.single ≡ true)
ended_so s s' q id documents made may zero_is = elim (may.ends zero_is) [ inl none ↦ inl none | inr one ↦ inr one.0 ]

find_step : (s s' : State) (q : Query) (said : Told) (made : Made) → MayTell s s' (asks_query q) said made → WasFound (effect s' (asks_query q) said) q said
unfolding effect
find_step s s' q (opened id space documents token time) made may =
    record {
      left = may.left;
      fixed = result_same s' (opened_cursor s' id (queried_at s' q space documents)) q (opened_collections s' id (queried_at s' q space documents)) ∙ may.these;
      holds = holds_opened s' q space id documents may.left may.these;
      ends = λ zero_is. ended_so s s' q id documents made may zero_is;
    }
find_step s s' q (refuses code labels) made may = tt
find_step s s' q (inserted m failures) made may = absurd may
find_step s s' q (updated m changed failures) made may = absurd may
find_step s s' q (deleted m failures) made may = absurd may
find_step s s' q done made may = absurd may
find_step s s' q (gave id space documents token) made may = absurd may
find_step s s' q killed made may = absurd may
find_step s s' q garbled made may = absurd may

-- ---- whatever came after it

found_by : (n : State) (history : List Step) (q : Query) (position : ℕ) (said : Told) → WasFound n q said → result (state_of (take (suc position) history)) q ≡ result n q → ((x : ℤ) → OpensId said x → (state_of history).cursors x ≡ n.cursors x) → AfterFind history q position said
found_by n history q position (opened id space documents token time) was front same =
    record { left = was.left; fixed = front ∙ was.fixed; holds = λ c ne there. was.holds c ne (sym (same id (refl, ne)) ∙ there); ends = was.ends }
found_by n history q position (refuses code labels) was front same = tt
found_by n history q position (inserted m failures) was front same = absurd was
found_by n history q position (updated m changed failures) was front same = absurd was
found_by n history q position (deleted m failures) was front same = absurd was
found_by n history q position done was front same = absurd was
found_by n history q position (gave id space documents token) was front same = absurd was
found_by n history q position killed was front same = absurd was
found_by n history q position garbled was front same = absurd was

module _ (calls : List Call) (call : Call) (history : List Step) (p : ℕ) (b : BackTo calls call history p) where
  may : May (state_of b.before) (asked b.step.command) (told_at b.step) b.step.made
  may = (legal_parts (state_of b.before) b.step b.rest b.onward).0

  state_by : state_of history ≡ state_after (step_after (state_of b.before) b.step) b.rest
  state_by = ap state_of b.whole ∙ state_after-append nothing b.before (b.step ∷ b.rest) ∙ after_cons (state_of b.before) b.step b.rest

  -- a cursor that the step opened stands where the step put it
  new_stays : (k : ℕ) (step : Step) → TookEffect (calls ++ call ∷ []) history k p step → b.step ≡ step → (x : ℤ) → OpensId (told_at b.step) x → (state_of history).cursors x ≡ (step_after (state_of b.before) b.step).cursors x
  new_stays k step took same x opens =
      ap (λ (s : State). s.cursors x) state_by
      ∙ leaves_steps (step_after (state_of b.before) b.step) b.rest x (respects_step (state_of b.before) b.step (respects_of b.before)) (legal_parts (state_of b.before) b.step b.rest b.onward).1
      (opens_given (state_of b.before) b.step x may opens)
      (b.silent x (record { at = k; position = p; step = step; took = took; opens = subst (λ (s : Step). OpensId (told_at s) x) same opens }) (omega arith))

  front_is : state_of (take (suc p) history) ≡ step_after (state_of b.before) b.step
  front_is =
      let n : length (b.before ++ b.step ∷ []) ≡ suc p = (let e = b.place in omega (arith, length-append b.before (b.step ∷ []))) in
      let front : take (suc p) history ≡ b.before ++ b.step ∷ [] =
      ap (take (suc p)) (b.whole ∙ sym (append_assoc b.before (b.step ∷ []) b.rest)) ∙ take_at (b.before ++ b.step ∷ []) b.rest (suc p) n in
      ap state_of front ∙ state_one b.before b.step

  find_tells : (q : Query) (k : ℕ) (step : Step) → asked call.command ≡ asks_query q → TookEffect (calls ++ call ∷ []) history k p step → b.step ≡ step → AfterFind history q p (told_at b.step)
  find_tells q k step asks took same =
      let s : State = state_of b.before in
      let s' : State = grown s b.step.made in
      let is : asked b.step.command ≡ asks_query q = ap asked b.command ∙ asks in
      let tells = subst (λ (a : Asked). MayTell s s' a (told_at b.step) b.step.made) is may.tells in
      let was = subst (λ (a : Asked). WasFound (effect s' a (told_at b.step)) q (told_at b.step)) (sym is) (find_step s s' q (told_at b.step) b.step.made tells) in
      found_by (step_after s b.step) history q p (told_at b.step) was (ap (λ (n : State). result n q) front_is) (new_stays k step took same)

-- ---- its moves

names_nothing : (q : Query) (command : List ℕ) → asked command ≡ asks_query q → NamesOwn nobody (asked command)
names_nothing q command is x names = absurd (subst (λ (a : Asked). Names a x) is names)

-- The command was sent.
pub record FindSent (calls calls' : List Call) (q : Query) (place : Option ℕ) : Type 0 where
  pub knows : KnowsFinding calls' q place
  pub passes : Passes calls calls' nobody (finder place)

pub find_sent : (log log' : link.LogTold) (q : Query) (place : Option ℕ) (command : List ℕ) (seen : Sight) → asked command ≡ asks_query q → Adds log log' command seen → IsNext log place
    → (calls : List Call) → log ≡ Some calls → (calls' : List Call) × (log' ≡ Some calls') × FindSent calls calls' q place
find_sent log log' q place command seen asks adds at calls told_log =
    let add = adds calls told_log in
    let call : Call = record { command = command; position = add.0; seen = seen } in
    let last = at calls told_log in
    let sends : Sends calls nobody (finder place) = record { ids = λ x of ne. of; last = λ k of. waits_last calls place last k of } in (
      calls ++ call ∷ [],
      add.1,
      record {
        knows = record {
          owned = holds_added calls call nobody (finder place) sends (holds_nobody calls);
          queries = λ k c there found.
              let same : length calls ≡ k = same_some (length calls) k (sym last ∙ there) in
              let here : slice_get (calls ++ call ∷ []) k ≡ Some call = subst (λ (n : ℕ). slice_get (calls ++ call ∷ []) n ≡ Some call) same (get_seam calls [] call) in
              ap (λ (d : Call). asked d.command) (same_some c call (sym found ∙ here)) ∙ asks;
          coming = λ history legal stands position step came.
              let k : came.0 ≡ length calls = same_some came.0 (length calls) (sym came.1 ∙ last) in
              let placed = took_last calls call history came.0 position step k came.2 in
              let b = back_to calls call history stands position placed legal in
              let same = step_last calls call history position step b came.2.there in
              subst (λ (s : Step). AfterFind history q position (told_at s)) same (find_tells calls call history position b q came.0 step asks came.2 same);
        };
        passes = passes_added calls call nobody (finder place) (names_nothing q command asks) sends (holds_nobody calls);
      },
    )

-- It failed, and gave no cursor.
pub find_lost : (log log' : link.LogTold) (place : Option ℕ) (seen : Sight) → Sees log log' place seen → (q : Query) → (calls : List Call) → log ≡ Some calls → KnowsFinding calls q place → (calls' : List Call) × (log' ≡ Some calls') × Passes calls calls' (finder place) nobody
find_lost log log' place seen sees q calls told_log k =
    let s = sees calls told_log in
    let old : OwnsOld calls (see s.0 seen calls) (finder place) nobody = λ history legal stands stands' x owns. absurd (owns_none (see s.0 seen calls) history x owns) in (
      see s.0 seen calls,
      s.5,
      passes_seen s.0 seen calls s.1 (finder place) nobody s.3 s.4 (λ n of. of) old (λ history legal stands stands' x of ne. absurd of) k.owned,
    )
  where
    owns_none : (calls' : List Call) (history : List Step) (x : ℤ) → Owns calls' history nobody x → ⊥
    owns_none calls' history x (by_id of ne) = of
    owns_none calls' history x (by_reply n position step of took opens) = of

told_query : (q : Query) (bytes : List ℕ) (batch : Batch) → Reads bytes batch → told (asks_query q) bytes ≡ opened_by (time_in (fields bytes)) batch
unfolding told
told_query q bytes batch reads =
    ap (λ v. told_by v (asks_query q) (fields bytes)) reads.success
    ∙ ap (λ (o : Option Batch). unwrap_or (option_map (opened_by (time_in (fields bytes))) o) garbled) reads.batch_is

module _ (calls : List Call) (n : ℕ) (call : Call) (q : Query) (place : Option ℕ) (bytes : List ℕ) (batch : Batch) (at : place ≡ Some n) (found : slice_get calls n ≡ Some call) (waits : call.seen ≡ waiting) (reads : Reads bytes batch) (k : KnowsFinding calls q place) where
  said : (history : List Step) (h : HeardStep calls history n bytes call) → told_at h.step ≡ opened_by (time_in (fields bytes)) batch
  said history h =
      told_heard h.step bytes (asks_query q) (ap asked h.command ∙ k.queries n call at found) h.fits ∙ told_query q bytes batch reads

  old : OwnsOld calls (see n (reply bytes) calls) (finder place) (owner_of_reader (opened_at q n batch))
  old history legal stands stands' x (by_id (inl e) ne) =
      let h = heard_at n bytes calls call history found stands' in
      by_reply n h.position h.step (inl at) h.took (subst (λ (t : Told). OpensId t x) (sym (said history h)) (e, ne))
  old history legal stands stands' x (by_id (inr none) ne) = absurd none
  old history legal stands stands' x (by_reply m position step of took opens) = absurd of

  saw : SawGiven calls (see n (reply bytes) calls) (owner_of_reader (opened_at q n batch))
  saw history legal stands stands' x (inl e) ne =
      let h = heard_at n bytes calls call history found stands' in
      heard_given n bytes calls call history x found h (subst (λ (t : Told). OpensId t x) (sym (said history h)) (e, ne))
  saw history legal stands stands' x (inr none) ne = absurd none

  ended : (left : List Fields) → (left ≡ []) ⊎ (q.single ≡ true) → HasEnded q false left (record { documents = batch.events; lost = false } ∷ [])
  ended left (inl none) = inl none
  ended left (inr one) = inr (inl (one, λ e. cc))

  first_facts : (history : List Step) → IsLegal history → Stands (see n (reply bytes) calls) history → (position : ℕ) → call.position ≡ Some position → FactsOf (see n (reply bytes) calls) history (opened_at q n batch) position
  first_facts history legal stands' position placed =
      let stands = stands_unseen n (reply bytes) calls call history found waits stands' in
      let h = heard_at n bytes calls call history found stands' in
      let same : h.position ≡ position = same_some h.position position (sym h.placed ∙ placed) in
      let tells = k.coming history legal stands h.position h.step (n, at, h.took) in
      let o : OpensWith history q position batch.id batch.events =
      subst (λ (m : ℕ). OpensWith history q m batch.id batch.events) same (subst (λ (t : Told). AfterFind history q h.position t) (said history h) tells) in
      record {
        all = batch.events ++ o.left;
        fixed = o.fixed;
        portions = record { documents = batch.events; lost = false } ∷ [];
        left = o.left;
        cut = ap (λ (l : List Fields). l ++ o.left) (sym (append-nil batch.events));
        these = append-nil batch.events;
        few = omega arith;
        hand = o.holds;
        ends = λ zero_is. ended o.left (o.ends zero_is);
      }

  first_known : KnowsRead (see n (reply bytes) calls) (opened_at q n batch)
  first_known =
      record {
        owned = holds_seen n (reply bytes) calls call (finder place) (owner_of_reader (opened_at q n batch)) found waits (λ m of. of) old saw k.owned;
        opened = record { call = record call { seen = reply bytes }; bytes = bytes; found = see_here n (reply bytes) calls call found; queries = k.queries n call at found; heard = refl };
        facts = λ history legal stands' position placed. first_facts history legal stands' position placed;
      }

-- The first batch came: a reader of the whole result.
pub record ReadOpened (calls calls' : List Call) (q : Query) (place : Option ℕ) (n : ℕ) (batch : Batch) : Type 0 where
  pub at : place ≡ Some n
  pub knows : KnowsRead calls' (opened_at q n batch)
  pub passes : Passes calls calls' (finder place) (owner_of_reader (opened_at q n batch))

pub read_opened : (log log' : link.LogTold) (q : Query) (place : Option ℕ) (bytes : List ℕ) (batch : Batch) → Reads bytes batch → Sees log log' place (reply bytes)
    → (calls : List Call) → log ≡ Some calls → KnowsFinding calls q place → (calls' : List Call) × (log' ≡ Some calls') × (n : ℕ) × ReadOpened calls calls' q place n batch
read_opened log log' q place bytes batch reads sees calls told_log k =
    let s = sees calls told_log in (
      see s.0 (reply bytes) calls,
      s.5,
      s.0,
      record {
        at = s.2;
        knows = first_known calls s.0 s.1 q place bytes batch s.2 s.3 s.4 reads k;
        passes = passes_seen s.0 (reply bytes) calls s.1 (finder place) (owner_of_reader (opened_at q s.0 batch)) s.3 s.4 (λ m of. of)
            (old calls s.0 s.1 q place bytes batch s.2 s.3 s.4 reads k) (saw calls s.0 s.1 q place bytes batch s.2 s.3 s.4 reads k) k.owned;
      },
    )
