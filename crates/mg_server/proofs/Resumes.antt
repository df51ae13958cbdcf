-- The moves of a resumption: its aggregate, and the killing of the old cursor.
use Rattle.std.proofs.Common.{◌≡◌, ◌≢◌, ℕ, zero, suc, ◌<◌, ℤ, pos, List, [], ◌∷◌, ◌++◌, length, Option, Some, None, Contains, refl, sym, ap, ◌∙◌, subst, inl, inr, arith}
use Rattle.std.specs.Prelude.{slice_get}
use Rattle.std.specs.List.{slice_index_or}
use Rattle.mg_bson.specs.Tree.{Tree, Fields}
use Rattle.mg_server.specs.State.{State, Start, nowhere, after, at_time, count_before, start_place}
use Rattle.mg_server.specs.Commands.{Asked, asks_watch, asks_kill, Told, refuses, inserted, opened, gave, killed, garbled, Batch, asked, updated, deleted, done}
use Rattle.mg_server.specs.History.{Step, IsLegal, state_of, told_at}
use Rattle.mg_link.specs.Log.{Sight, waiting, reply, Call, see}
use Rattle.mg_link.specs.Link as link
use Rattle.mg_link.specs.Link.{Adds, Sees}
use Rattle.mg_server.specs.Standing.{Names, OpensId, TookEffect, SeenGiven, Stands}
use Rattle.mg_server.specs.Owner.{IsOf, Owns, by_id, by_reply, Holds, NamesOwn}
use Rattle.mg_server.specs.Follow.{holding, owing, resuming, Follow, waited, owner_of, ResumesAt, Marks, Brings, AfterOpen, Facts, KnowsOpen, Knows, Moved, Reads}
use Rattle.mg_server.specs.Moves.{resumed_with}
use Rattle.mg_server.proofs.Later.{Later}
use Rattle.mg_server.proofs.Owners.{same_some}
use Rattle.mg_server.proofs.Apart.{NamesNone, seen_still, onward_foreign}
use Rattle.mg_server.proofs.Follows.{past_later, knows_kept}
use Rattle.mg_server.proofs.Heard.{HeardStep, heard_at, heard_given, IsOpening, opening_heard}
use Rattle.mg_server.proofs.Sent.{resume_tells, new_is_other}
use Rattle.mg_server.proofs.Moving.{known_as, hand_as, quiet, waits_last, moved_added, moved_seen, moved_here, same_opened, open_added, open_seen}
use Rattle.mg_server.proofs.Openings.{names_none, IsNext}
use Rattle.mg_server.proofs.Moves.{at_last, same_step, facts_in}

-- ---- the aggregate

opens_nonzero : (said : Told) (x : ℤ) → OpensId said x → x ≢ pos 0
opens_nonzero (opened id space events token time) x opens = opens.1
opens_nonzero (refuses code labels) x opens = absurd opens
opens_nonzero (inserted n failures) x opens = absurd opens
opens_nonzero (updated n changed failures) x opens = absurd opens
opens_nonzero (deleted n failures) x opens = absurd opens
opens_nonzero done x opens = absurd opens
opens_nonzero (gave id space events token) x opens = absurd opens
opens_nonzero killed x opens = absurd opens
opens_nonzero garbled x opens = absurd opens

-- a resumption begins at the place that the stream has come to
resume_place : (s n : State) (start : Start) (token : Option Tree) (begin : Start) (from : ℕ) (answered : List Fields) (place : ℕ) → Marks s start from token answered place → ResumesAt start token begin → Later s n → (begins : ℕ) → start_place n begin ≡ Some begins → begins ≡ place
resume_place s n start (Some t) begin from answered place marks at later begins h = same_some begins place (sym h ∙ ap (start_place n) at ∙ later.tokens t place marks)
resume_place s n nowhere None begin from answered place marks at later begins h = absurd marks.2
resume_place s n (after t) None begin from answered place marks at later begins h = absurd marks.2
resume_place s n (at_time time) None begin from answered place marks at later begins h =
    let past = past_later s n (at_time time) from later marks.2 in
    let here : start_place n (at_time time) ≡ Some begins = sym (ap (start_place n) at) ∙ h in
    sym (same_some (count_before time n.changes) begins here) ∙ past.1 ∙ sym marks.0

-- The aggregate of a resumption was sent.
pub resume_sent : (log log' : link.LogTold) (f : Follow) (place : Option ℕ) (command : List ℕ) (begin : Start) (seen : Sight) → f.doing ≡ owing → ResumesAt f.start f.token begin → asked command ≡ asks_watch f.watch begin → Adds log log' command seen → IsNext log place
    → Moved log log' f (record f { doing = resuming place })
resume_sent log log' f place command begin seen is resumes asks adds at calls told =
    let add = adds calls told in
    let call : Call = record { command = command; position = add.0; seen = seen } in
    let last = at calls told in (
      calls ++ call ∷ [],
      add.1,
      moved_added calls call f (record f { doing = resuming place }) (names_none (owner_of f) command f.watch begin asks)
          (record { ids = λ x of ne. of; last = λ k of. waits_last calls place last k of })
          (λ k. open_added calls call f (resuming place) (known_as calls f owing is k)
          (λ history p b placed position facts q step came.
          let same = same_step calls call history place p q step b last placed came in
          let took = subst (λ n. TookEffect (calls ++ call ∷ []) history came.0 n step) same.0 came.2 in
          let tells = resume_tells calls call history p b f.watch begin facts.place came.0 step asks took same.1
          (λ later begins h. resume_place (state_of b.before) _ f.start f.token begin facts.from f.answered facts.place facts.reached.marks resumes later begins h) in
          record {
            start = begin;
            asks = ap (λ (s : Step). asked s.command) (sym same.1) ∙ ap asked b.command ∙ asks;
            tells = subst (λ (s : Step). AfterOpen (state_of history) f.watch facts.place (told_at s)) same.1 tells;
            other = λ opens.
                let ne = opens_nonzero (told_at step) f.cursor opens in
                new_is_other calls call history p b f.cursor (k.owned.given b.before b.legal b.stands f.cursor (inl refl) ne) (subst (λ (s : Step). OpensId (told_at s) f.cursor) (sym same.1) opens);
          })
          (λ history none p q step came. let bad : None ≡ Some q = sym none ∙ at_last calls call history place q step last came in absurd cc)),
    )

module _ (calls : List Call) (k : ℕ) (call : Call) (f : Follow) (place : Option ℕ) (bytes : List ℕ) (batch : Batch) (is : f.doing ≡ resuming place) (at : place ≡ Some k) (reads : Reads bytes batch) where
  told_resuming : (history : List Step) (position : ℕ) (facts : Facts calls history f position) → (h : HeardStep calls history k bytes call)
      → IsOpening batch (told_at h.step) × Brings (state_of history) f.watch facts.place batch.id batch.events batch.token × (OpensId (told_at h.step) f.cursor → ⊥)
  told_resuming history position facts h =
      let a = hand_as calls history f position (resuming place) is facts h.position h.step (k, at, h.took) in
      let o = opening_heard h.step f.watch a.start bytes batch a.asks h.fits reads in
      (o, subst (λ (t : Told). AfterOpen (state_of history) f.watch facts.place t) o.said_is a.tells, a.other)

  owns_resumed : (calls' : List Call) (history : List Step) (h : HeardStep calls history k bytes call) → IsOpening batch (told_at h.step) → (x : ℤ) → Owns calls' history (owner_of (resumed_with f batch)) x → Owns calls history (owner_of f) x
  owns_resumed calls' history h o x (by_id (inl e) ne) = by_reply k h.position h.step (inl (ap waited is ∙ at)) h.took (subst (λ (t : Told). OpensId t x) (sym o.said_is) (e, ne))
  owns_resumed calls' history h o x (by_id (inr (inl e)) ne) = by_id (inl e) ne
  owns_resumed calls' history h o x (by_id (inr (inr none)) ne) = absurd none
  owns_resumed calls' history h o x (by_reply n p step (inl e) took opens) = let bad : None ≡ Some n = e in absurd cc
  owns_resumed calls' history h o x (by_reply n p step (inr none) took opens) = absurd none

saw_resumed : (k : ℕ) (bytes : List ℕ) (calls : List Call) (call : Call) (f : Follow) (batch : Batch) (history : List Step) (h : HeardStep calls history k bytes call) → slice_get calls k ≡ Some call → call.seen ≡ waiting → Holds calls (owner_of f) → IsLegal history → Stands calls history → IsOpening batch (told_at h.step)
    → (x : ℤ) → IsOf (batch.id ∷ f.cursor ∷ []) x → x ≢ pos 0 → SeenGiven (see k (reply bytes) calls) (length (see k (reply bytes) calls)) x
saw_resumed k bytes calls call f batch history h found waits holds legal stands o x (inl e) ne = heard_given k bytes calls call history x found h (subst (λ (t : Told). OpensId t x) (sym o.said_is) (e, ne))
saw_resumed k bytes calls call f batch history h found waits holds legal stands o x (inr (inl e)) ne = seen_still k (reply bytes) calls call (owner_of f) found waits holds history legal stands x (inl e) ne
saw_resumed k bytes calls call f batch history h found waits holds legal stands o x (inr (inr none)) ne = absurd none

-- The reply to the aggregate of a resumption came, and a batch was read of it.
pub resume_heard : (log log' : link.LogTold) (f : Follow) (place : Option ℕ) (bytes : List ℕ) (batch : Batch) → f.doing ≡ resuming place → Reads bytes batch → Sees log log' place (reply bytes) → Moved log log' f (resumed_with f batch)
resume_heard log log' f place bytes batch is reads sees calls told =
    let s = sees calls told in (
      see s.0 (reply bytes) calls,
      s.5,
      moved_seen s.0 (reply bytes) calls s.1 f (resumed_with f batch) s.3 s.4 refl
          (λ k history legal stands stands' x owns.
          let facts = facts_in calls f (known_as calls f (resuming place) is k) history legal stands in
          let h = heard_at s.0 bytes calls s.1 history s.3 stands' in
          let r = told_resuming calls s.0 s.1 f place bytes batch is s.2 reads history facts.0 facts.1 h in
          owns_resumed calls s.0 s.1 f place bytes batch is s.2 reads (see s.0 (reply bytes) calls) history h r.0 x owns)
          (λ k history legal stands stands' x of ne.
          let facts = facts_in calls f (known_as calls f (resuming place) is k) history legal stands in
          let h = heard_at s.0 bytes calls s.1 history s.3 stands' in
          let r = told_resuming calls s.0 s.1 f place bytes batch is s.2 reads history facts.0 facts.1 h in
          saw_resumed s.0 bytes calls s.1 f batch history h s.3 s.4 k.owned legal stands r.0 x of ne)
          (λ k. open_seen s.0 (reply bytes) calls s.1 f holding batch.id f.cursor batch.events batch.token s.3 s.4
          (λ history legal stands stands' position facts.
          let h = heard_at s.0 bytes calls s.1 history s.3 stands' in
          let r = told_resuming calls s.0 s.1 f place bytes batch is s.2 reads history position facts h in
          (r.1, λ ne same. r.2 (subst (λ (t : Told). OpensId t f.cursor) (sym r.0.said_is) (sym same, ne))))
          (known_as calls f (resuming place) is k)),
    )

-- ---- killCursors

of_at : (xs : List ℤ) (x : ℤ) (k : ℕ) → k < length xs → slice_index_or xs k x ≡ x → IsOf xs x
of_at [] x k lt e = absurd (omega arith)
of_at (y ∷ ys) x zero lt e = inl e
of_at (y ∷ ys) x (suc k) lt e = inr (of_at ys x k (omega arith) e)

-- a killCursors names the ids that it lists
pub kill_names : (command : List ℕ) (ids : List ℤ) (x : ℤ) → asked command ≡ asks_kill ids → Names (asked command) x → IsOf ids x
kill_names command ids x is names = let c : Contains ids x = subst (λ (a : Asked). Names a x) is names in of_at ids x c.0 c.1 c.2

-- one that lists cursors of the stream only, and not 0
pub kill_own : (f : Follow) (command : List ℕ) (ids : List ℤ) → asked command ≡ asks_kill ids → ((x : ℤ) → IsOf ids x → IsOf (f.cursor ∷ f.old ∷ []) x × (x ≢ pos 0)) → NamesOwn (owner_of f) (asked command)
kill_own f command ids is own x names = own x (kill_names command ids x is names)

abbrev pub let_go : Follow → Follow
let_go f = record f { doing = holding; old = pos 0 }

ids_left : (f : Follow) (x : ℤ) → IsOf (f.cursor ∷ pos 0 ∷ []) x → x ≢ pos 0 → IsOf (f.cursor ∷ f.old ∷ []) x
ids_left f x (inl e) ne = inl e
ids_left f x (inr (inl e)) ne = absurd (ne (sym e))
ids_left f x (inr (inr none)) ne = absurd none

open_left : (calls : List Call) (f : Follow) → f.doing ≡ holding → KnowsOpen calls f → KnowsOpen calls (let_go f)
open_left calls f is kn =
    record {
      opened = same_opened calls f (let_go f) refl refl refl kn.opened;
      facts = λ history legal stands position placed.
          let facts = kn.facts history legal stands position placed in
          let hand = hand_as calls history f position holding is facts in
          record { from = facts.from; begins = facts.begins; place = facts.place; reached = facts.reached; hand = (hand.0, λ ne. absurd (ne refl)) };
    }

knows_left : (calls : List Call) (f : Follow) → f.doing ≡ holding → Knows calls f → Knows calls (let_go f)
knows_left calls f is k =
    record {
      owned = record { in_log = λ n of. absurd (quiet None refl n of); given = λ history legal stands x of ne. k.owned.given history legal stands x (ids_left f x of ne) ne; seen = λ history legal stands x of ne. k.owned.seen history legal stands x (ids_left f x of ne) ne };
      by = open_left calls f is (known_as calls f holding is k);
    }

-- a killing of the old cursor names none of the others
not_left : (calls : List Call) (call : Call) (f : Follow) → f.doing ≡ holding → f.old ≢ pos 0 → asked call.command ≡ asks_kill (f.old ∷ []) → Knows calls f → NamesNone calls call (owner_of (let_go f))
not_left calls call f is nz asks k before legal stands x (by_id (inl e) ne) names =
    let facts = facts_in calls f (known_as calls f holding is k) before legal stands in
    let hand = hand_as calls before f facts.0 holding is facts.1 in
    elim (kill_names call.command (f.old ∷ []) x asks names) [ inl o ↦ hand.1 nz (o ∙ sym e) | inr none ↦ none ]
not_left calls call f is nz asks k before legal stands x (by_id (inr (inl e)) ne) names = ne (sym e)
not_left calls call f is nz asks k before legal stands x (by_id (inr (inr none)) ne) names = none
not_left calls call f is nz asks k before legal stands x (by_reply n p step of took opens) names = quiet None refl n of

-- A killCursors of the old cursor was sent, or was lost at once.
pub kill_sent : (log log' : link.LogTold) (f : Follow) (command : List ℕ) (seen : Sight) → f.doing ≡ holding → f.old ≢ pos 0 → asked command ≡ asks_kill (f.old ∷ []) → Adds log log' command seen → Moved log log' f (let_go f)
kill_sent log log' f command seen is nz asks adds calls told =
    let add = adds calls told in
    let call : Call = record { command = command; position = add.0; seen = seen } in (
      calls ++ call ∷ [],
      add.1,
      moved_added calls call f (let_go f)
          (kill_own f command (f.old ∷ []) asks (λ x of. elim of [ inl e ↦ (inr (inl e), λ z. nz (e ∙ z)) | inr none ↦ absurd none ]))
          (record { ids = λ x of ne. ids_left f x of ne; last = λ n of. absurd (quiet None refl n of) })
          (λ k. (knows_kept calls (calls ++ call ∷ []) (let_go f) (onward_foreign calls call (owner_of (let_go f)) (not_left calls call f is nz asks k)) (knows_left calls f is k)).by),
    )

-- The old cursor was let go without a call.
pub kill_passed : (log log' : link.LogTold) (f : Follow) → f.doing ≡ holding → log' ≡ log → Moved log log' f (let_go f)
kill_passed log log' f is same calls told = (calls, same ∙ told, moved_here calls f (let_go f) refl (λ x of ne. ids_left f x of ne) (λ k. open_left calls f is (known_as calls f holding is k)))
