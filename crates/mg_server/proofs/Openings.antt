-- The moves of a stream up to its opening.
use Rattle.std.proofs.Common.{◌≡◌, ◌≢◌, ℕ, ℤ, pos, List, [], ◌∷◌, ◌++◌, length, Option, Some, None, refl, sym, ap, ◌∙◌, subst, inl, inr, arith, le_refl}
use Rattle.std.specs.Prelude.{slice_get}
use Rattle.mg_bson.specs.Tree.{Tree, Fields}
use Rattle.mg_server.specs.State.{State, Watch, Start, nowhere, after, at_time}
use Rattle.mg_server.specs.Commands.{Asked, asks_watch, Told, Batch, asked}
use Rattle.mg_server.specs.History.{Step, IsLegal, state_of, told_at}
use Rattle.mg_link.specs.Log.{Sight, waiting, reply, Call, see}
use Rattle.mg_link.specs.Link as link
use Rattle.mg_link.specs.Link.{Adds, Sees}
use Rattle.mg_server.specs.Standing.{Names, OpensId, SeenGiven, Stands}
use Rattle.mg_server.specs.Owner.{IsOf, Owner, Owns, by_id, by_reply, NamesOwn}
use Rattle.mg_server.specs.Follow.{unopened, starting, holding, Follow, waited, owner_of, first_token, Marks, HasReached, Brings, IsBegun, Begins, AfterStart, Facts, HasNothing, KnowsStarting, Moved, Reads}
use Rattle.mg_link.proofs.Places.{get_seam}
use Rattle.mg_server.proofs.Views.{events_none}
use Rattle.mg_server.proofs.Owners.{same_some, see_here, back_to, stands_unseen}
use Rattle.mg_server.proofs.Apart.{took_last, step_last}
use Rattle.mg_server.proofs.Heard.{HeardStep, heard_at, heard_given, IsOpening, opening_heard}
use Rattle.mg_server.proofs.Sent.{start_tells}
use Rattle.mg_server.proofs.Moving.{known_as, waits_last, moved_added, moved_seen, moved_quiet}

-- an aggregate names no cursor
pub names_none : (o : Owner) (command : List ℕ) (w : Watch) (start : Start) → asked command ≡ asks_watch w start → NamesOwn o (asked command)
names_none o command w start is x names = absurd (subst (λ (a : Asked). Names a x) is names)

-- the place in the log of the call that is added next
abbrev pub IsNext : link.LogTold → Option ℕ → Type 0
IsNext log place = (calls : List Call) → log ≡ Some calls → place ≡ Some (length calls)

abbrev started : Follow → Option ℕ → Follow
started f place = record f { doing = starting place }

start_known : (calls : List Call) (call : Call) (f : Follow) (place : Option ℕ) → asked call.command ≡ asks_watch f.watch f.start → place ≡ Some (length calls) → HasNothing f → KnowsStarting (calls ++ call ∷ []) (started f place) place
start_known calls call f place asks last nothing =
    record {
      has_nothing = record { none_answered = nothing.none_answered; no_cursor = nothing.no_cursor; no_old = nothing.no_old };
      watches = λ k c at found.
          let same : length calls ≡ k = same_some (length calls) k (sym last ∙ at) in
          let here : slice_get (calls ++ call ∷ []) k ≡ Some call = subst (λ n. slice_get (calls ++ call ∷ []) n ≡ Some call) same (get_seam calls [] call) in
          ap (λ (d : Call). asked d.command) (same_some c call (sym found ∙ here)) ∙ asks;
      coming = λ history legal stands position step came.
          let k : came.0 ≡ length calls = same_some came.0 (length calls) (sym came.1 ∙ last) in
          let placed = took_last calls call history came.0 position step k came.2 in
          let b = back_to calls call history stands position placed legal in
          let same = step_last calls call history position step b came.2.there in
          subst (λ (s : Step). AfterStart history f.watch f.start position (told_at s)) same (start_tells calls call history position b f.watch f.start came.0 step asks came.2 same);
    }

-- The opening aggregate was sent.
pub start_sent : (log log' : link.LogTold) (f : Follow) (place : Option ℕ) (command : List ℕ) (seen : Sight) → f.doing ≡ unopened → asked command ≡ asks_watch f.watch f.start → Adds log log' command seen → IsNext log place
    → Moved log log' f (record f { doing = starting place })
start_sent log log' f place command seen is asks adds at calls told =
    let add = adds calls told in
    let call : Call = record { command = command; position = add.0; seen = seen } in
    let last = at calls told in (
      calls ++ call ∷ [],
      add.1,
      moved_added calls call f (started f place) (names_none (owner_of f) command f.watch f.start asks)
          (record { ids = λ x of ne. of; last = λ k of. waits_last calls place last k of })
          (λ k. start_known calls call f place asks last (known_as calls f unopened is k)),
    )

nothing_of : (f : Follow) → HasNothing f → HasNothing (record f { doing = unopened })
nothing_of f h = record { none_answered = h.none_answered; no_cursor = h.no_cursor; no_old = h.no_old }

-- It was lost at once.
pub start_unsent : (log log' : link.LogTold) (f : Follow) (command : List ℕ) (seen : Sight) → f.doing ≡ unopened → asked command ≡ asks_watch f.watch f.start → Adds log log' command seen → Moved log log' f (record f { doing = unopened })
start_unsent log log' f command seen is asks adds calls told =
    let add = adds calls told in
    let call : Call = record { command = command; position = add.0; seen = seen } in (
      calls ++ call ∷ [],
      add.1,
      moved_added calls call f (record f { doing = unopened }) (names_none (owner_of f) command f.watch f.start asks)
          (record { ids = λ x of ne. of; last = λ k of. elim of [ inl e ↦ absurd cc | inr none ↦ absurd none ] })
          (λ k. nothing_of f (known_as calls f unopened is k)),
    )

-- Its answer, whatever it was, opened no stream.
pub start_failed : (log log' : link.LogTold) (f : Follow) (place : Option ℕ) (seen : Sight) → f.doing ≡ starting place → Sees log log' place seen → Moved log log' f (record f { doing = unopened })
start_failed log log' f place seen is sees calls told =
    let s = sees calls told in (
      see s.0 seen calls,
      s.5,
      moved_quiet s.0 seen calls s.1 f (record f { doing = unopened }) s.3 s.4 refl (λ x of ne. of)
          (λ k. let h = known_as calls f (starting place) is k in nothing_of f h.has_nothing),
    )

-- ---- the first batch

-- where a stream has come to with its first batch, and what it has in hand
record FirstPlace (s : State) (w : Watch) (start : Start) (from : ℕ) (id : ℤ) (events : List Fields) (token : Option Tree) (answered : List Fields) : Type 0 where
  place : ℕ
  reached : HasReached s w start (first_token start events token) answered from place
  brings : Brings s w place id events token

at_start : (s : State) (w : Watch) (start : Start) (from : ℕ) (id : ℤ) (events : List Fields) (token first : Option Tree) (answered : List Fields) → answered ≡ [] → (g : Brings s w from id events token) → Marks s start from first answered from → HasReached s w start first answered from from
at_start s w start from id events token first answered none g marks =
    let a = g.forward in
    let b = g.within in
    record { forward = le_refl from; within = omega arith; marks = marks; these = none ∙ events_none w s.changes from from refl }

first_place : (s : State) (w : Watch) (start : Start) (from : ℕ) (id : ℤ) (events : List Fields) (token : Option Tree) (answered : List Fields) → answered ≡ [] → IsBegun s start from events → Brings s w from id events token → FirstPlace s w start from id events token answered
first_place s w start from id [] None answered none begun g = absurd g.named
first_place s w start from id [] (Some token) answered none begun g =
    record {
      place = g.upto;
      reached = record { forward = g.forward; within = g.within; marks = g.named; these = none ∙ g.these };
      brings = record { upto = g.upto; forward = le_refl g.upto; within = g.within; these = events_none w s.changes g.upto g.upto refl; named = g.named; stands = g.stands };
    }
first_place s w nowhere from id (e ∷ es) token answered none begun g = absurd cc
first_place s w (after t) from id (e ∷ es) token answered none begun g = record { place = from; reached = at_start s w (after t) from id (e ∷ es) token (Some t) answered none g begun; brings = g }
first_place s w (at_time time) from id (e ∷ es) token answered none begun g = record { place = from; reached = at_start s w (at_time time) from id (e ∷ es) token None answered none g (refl, none, begun); brings = g }

-- the stream behind its opening
abbrev pub opened_with : Follow → Option ℕ → Batch → Follow
opened_with f place batch = record f { doing = holding; opened = place; cursor = batch.id; old = pos 0; ahead = batch.events; upto = batch.token; token = first_token f.start batch.events batch.token }

module _ (calls : List Call) (k : ℕ) (call : Call) (f : Follow) (place : Option ℕ) (bytes : List ℕ) (batch : Batch) (is : f.doing ≡ starting place) (at : place ≡ Some k) (found : slice_get calls k ≡ Some call) (waits : call.seen ≡ waiting) (reads : Reads bytes batch) (kn : KnowsStarting calls f place) where
  -- what the step told, in a legal history
  told_opening : (history : List Step) → IsLegal history → Stands calls history → (h : HeardStep calls history k bytes call) → IsOpening batch (told_at h.step) × AfterStart history f.watch f.start h.position (told_at h.step)
  told_opening history legal stands h =
      let tells = kn.coming history legal stands h.position h.step (k, at, h.took) in
      let asks : asked h.step.command ≡ asks_watch f.watch f.start = ap asked h.command ∙ kn.watches k call at found in
      (opening_heard h.step f.watch f.start bytes batch asks h.fits reads, tells)

  owns_opened : (history : List Step) → IsLegal history → Stands calls history → Stands (see k (reply bytes) calls) history → (x : ℤ) → Owns (see k (reply bytes) calls) history (owner_of (opened_with f place batch)) x → Owns calls history (owner_of f) x
  owns_opened history legal stands stands' x (by_id (inl e) ne) =
      let h = heard_at k bytes calls call history found stands' in
      let o = (told_opening history legal stands h).0 in
      by_reply k h.position h.step (inl (ap waited is ∙ at)) h.took (subst (λ (t : Told). OpensId t x) (sym o.said_is) (e, ne))
  owns_opened history legal stands stands' x (by_id (inr (inl e)) ne) = absurd (ne (sym e))
  owns_opened history legal stands stands' x (by_id (inr (inr none)) ne) = absurd none
  owns_opened history legal stands stands' x (by_reply n p step (inl e) took opens) = let bad : None ≡ Some n = e in absurd cc
  owns_opened history legal stands stands' x (by_reply n p step (inr none) took opens) = absurd none

  saw_opened : (history : List Step) → IsLegal history → Stands calls history → Stands (see k (reply bytes) calls) history → (x : ℤ) → IsOf (batch.id ∷ pos 0 ∷ []) x → x ≢ pos 0 → SeenGiven (see k (reply bytes) calls) (length (see k (reply bytes) calls)) x
  saw_opened history legal stands stands' x (inl e) ne =
      let h = heard_at k bytes calls call history found stands' in
      let o = (told_opening history legal stands h).0 in
      heard_given k bytes calls call history x found h (subst (λ (t : Told). OpensId t x) (sym o.said_is) (e, ne))
  saw_opened history legal stands stands' x (inr (inl e)) ne = absurd (ne (sym e))
  saw_opened history legal stands stands' x (inr (inr none)) ne = absurd none

  facts_opened : (history : List Step) → IsLegal history → Stands (see k (reply bytes) calls) history → (position : ℕ) → call.position ≡ Some position → Facts (see k (reply bytes) calls) history (opened_with f place batch) position
  facts_opened history legal stands' position placed =
      let stands = stands_unseen k (reply bytes) calls call history found waits stands' in
      let h = heard_at k bytes calls call history found stands' in
      let both = told_opening history legal stands h in
      let o = both.0 in
      let same : h.position ≡ position = same_some h.position position (sym h.placed ∙ placed) in
      let begins : Begins history f.watch f.start position batch.id batch.events batch.token =
      subst (λ (n : ℕ). Begins history f.watch f.start n batch.id batch.events batch.token) same (subst (λ (t : Told). AfterStart history f.watch f.start h.position t) o.said_is both.1) in
      let first = first_place (state_of history) f.watch f.start begins.from batch.id batch.events batch.token f.answered kn.has_nothing.none_answered begins.begun begins.brings in
      record {
        from = begins.from;
        begins = begins.begins;
        place = first.place;
        reached = first.reached;
        hand = (first.brings, λ ne. absurd (ne refl));
      }

-- The opening aggregate's reply came, and a batch was read of it.
pub start_heard : (log log' : link.LogTold) (f : Follow) (place : Option ℕ) (bytes : List ℕ) (batch : Batch) → f.doing ≡ starting place → Reads bytes batch → Sees log log' place (reply bytes) → Moved log log' f (opened_with f place batch)
start_heard log log' f place bytes batch is reads sees calls told =
    let s = sees calls told in (
      see s.0 (reply bytes) calls,
      s.5,
      moved_seen s.0 (reply bytes) calls s.1 f (opened_with f place batch) s.3 s.4 refl
          (λ k history legal stands stands' x owns. owns_opened calls s.0 s.1 f place bytes batch is s.2 s.3 s.4 reads (known_as calls f (starting place) is k) history legal stands stands' x owns)
          (λ k history legal stands stands' x of ne. saw_opened calls s.0 s.1 f place bytes batch is s.2 s.3 s.4 reads (known_as calls f (starting place) is k) history legal stands stands' x of ne)
          (λ k.
          let kn = known_as calls f (starting place) is k in
          record {
            opened = record { at = s.0; is = s.2; call = record s.1 { seen = reply bytes }; bytes = bytes; found = see_here s.0 (reply bytes) calls s.1 s.3; watches = kn.watches s.0 s.1 s.2 s.3; heard = refl };
            facts = λ history legal stands' position placed. facts_opened calls s.0 s.1 f place bytes batch is s.2 s.3 s.4 reads kn history legal stands' position placed;
          }),
    )
