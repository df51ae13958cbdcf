-- A query's command, which is sent once or twice, and the reader that it opens.
use Rattle.std.proofs.Common.{◌≡◌, ◌⊎◌, ◌<◌, ◌≤◌, ℕ, zero, suc, ℤ, Bool, true, false, List, [], ◌∷◌, ◌++◌, length, Option, Some, refl, sym, ap, ◌∙◌, subst, inl, inr, arith}
use Rattle.std.specs.Prelude.{slice_get}
use Rattle.mg_server.specs.Commands.{Batch, asked, asks_query, garbled, told}
use Rattle.mg_link.specs.Exec.{Attempt, AttemptFails, Begins, AttemptGives, GoesOn, Runs, Sending, Stage, Tries, answered, first, holding, is_repeated, not_sent, second, unsent, waits}
use Rattle.mg_server.specs.Follow.{Reads}
use Rattle.mg_server.specs.History.{IsLegal, Step}
use Rattle.mg_link.specs.Link.{Adds, Awaited, Sees, LogTold}
use Rattle.mg_link.specs.Log.{Call, Sight, reply, see, waiting}
use Rattle.mg_server.specs.Owner.{IsGrown, IsOf, Owner, Owns, Passes, by_id, by_reply, nobody}
use Rattle.mg_server.specs.Query.{Query}
use Rattle.mg_server.specs.Reader.{AfterFind, FindingAt, KnowsFinding, KnowsRead, finder, finder_at, opened_at, owner_of_reader}
use Rattle.mg_server.specs.Standing.{Stands}
use Rattle.mg_link.specs.declared.action.Step.{Step as Polled}
use Rattle.mg_link.specs.declared.action.Step.TheVariants as step
use Rattle.mg_link.specs.declared.error.Error.{Error}
use Rattle.mg_server.proofs.Apart.{holds_nobody, passes_on, passes_same, passes_seen}
use Rattle.mg_server.proofs.Finding.{find_lost, find_sent, read_opened}
use Rattle.mg_server.proofs.Heard.{heard_at, told_heard}
use Rattle.mg_server.proofs.Owners.{same_some, see_here, stands_unseen}
use Rattle.mg_link.proofs.Places.{get_seam, get_some, get_within}
use Rattle.mg_server.proofs.Retries.{next_is, next_place, see_last}

-- ---- one attempt

-- at a place of its own: where its command was waited for, or behind the log before
abbrev pub IsAtOwn : List Call → Owner → ℕ → Type 0
IsAtOwn calls o n = IsOf o.coming (Some n) ⊎ (length calls ≤ n)

-- a reply opens a reader; one that no server may give opens any
abbrev pub Opens : List Call → List Call → Query → Owner → List ℕ → Type 0
Opens calls calls' q o bytes = (batch : Batch) → Reads bytes batch ⊎ (told (asks_query q) bytes ≡ garbled) → (n : ℕ) × KnowsRead calls' (opened_at q n batch) × Passes calls calls' o (owner_of_reader (opened_at q n batch)) × IsAtOwn calls o n

abbrev AttemptKnown : Awaited → List Call → List Call → Query → Owner → Attempt → Type 0
AttemptKnown new calls calls' q o not_sent = Passes calls calls' o nobody
AttemptKnown new calls calls' q o (waits ticket) = KnowsFinding calls' q (new ticket) × Passes calls calls' o (finder (new ticket)) × ((n : ℕ) → new ticket ≡ Some n → IsAtOwn calls o n)
AttemptKnown new calls calls' q o (answered seen) = Passes calls calls' o nobody × ((bytes : List ℕ) → seen ≡ reply bytes → Opens calls calls' q o bytes)

abbrev Attempted : Awaited → List Call → LogTold → Query → Owner → Attempt → Type 0
Attempted new calls log' q o attempt = (calls' : List Call) × (log' ≡ Some calls') × AttemptKnown new calls calls' q o attempt

-- no history holds a reply that no server may give
module _ (calls : List Call) (n : ℕ) (call : Call) (q : Query) (place : Option ℕ) (bytes : List ℕ) (batch : Batch) (at : place ≡ Some n) (found : slice_get calls n ≡ Some call) (waits_so : call.seen ≡ waiting) (bad : told (asks_query q) bytes ≡ garbled) (k : KnowsFinding calls q place) where
  nowhere : (history : List Step) → IsLegal history → Stands (see n (reply bytes) calls) history → ⊥
  nowhere history legal stands' =
      let stands = stands_unseen n (reply bytes) calls call history found waits_so stands' in
      let h = heard_at n bytes calls call history found stands' in
      let said = told_heard h.step bytes (asks_query q) (ap asked h.command ∙ k.queries n call at found) h.fits ∙ bad in
      subst (AfterFind history q h.position) said (k.coming history legal stands h.position h.step (n, at, h.took))

  garbled_passes : Passes calls (see n (reply bytes) calls) (finder place) (owner_of_reader (opened_at q n batch))
  garbled_passes =
      passes_seen n (reply bytes) calls call (finder place) (owner_of_reader (opened_at q n batch)) found waits_so (λ m of. of)
      (λ history legal stands stands' x owns. absurd (nowhere history legal stands')) (λ history legal stands stands' x of ne. absurd (nowhere history legal stands')) k.owned

  garbled_read : KnowsRead (see n (reply bytes) calls) (opened_at q n batch)
  garbled_read =
      record {
        owned = garbled_passes.holds;
        opened = record { call = record call { seen = reply bytes }; bytes = bytes; found = see_here n (reply bytes) calls call found; queries = k.queries n call at found; heard = refl };
        facts = λ history legal stands' position placed. absurd (nowhere history legal stands');
      }

-- behind an earlier move
opens_on : (calls mid calls' : List Call) (q : Query) (o o' : Owner) (bytes : List ℕ) → Passes calls mid o o' → ((n : ℕ) → IsAtOwn mid o' n → IsAtOwn calls o n) → Opens mid calls' q o' bytes → Opens calls calls' q o bytes
opens_on calls mid calls' q o o' bytes first_passes back opens batch which =
    let x = opens batch which in
    (x.0, x.1, passes_on calls mid calls' o o' (owner_of_reader (opened_at q x.0 batch)) first_passes x.2, back x.0 x.3)

owns_none : (calls : List Call) (history : List Step) (x : ℤ) → Owns calls history nobody x → ⊥
owns_none calls history x (by_id is ne) = is
owns_none calls history x (by_reply k position step is took opens) = is

-- the log got no shorter
longer : (calls mid : List Call) (o o' : Owner) → Passes calls mid o o' → length calls ≤ length mid
longer calls mid o o' p = by_length (length calls) refl
  where
    grown : IsGrown calls mid
    grown = (p.onward nobody (holds_nobody calls) (λ history legal stands x mine theirs. owns_none calls history x theirs)).grown

    by_length : (n : ℕ) → length calls ≡ n → length calls ≤ length mid
    by_length zero is = omega arith
    by_length (suc m) is =
        let within : m < length calls = omega arith in
        let last = get_some calls m within in
        let kept = grown.keeps m last.0 last.1 in
        let there : m < length mid = get_within mid m kept.0 kept.1 in
        omega arith

answered_known : (new : Awaited) (log log' : LogTold) (q : Query) (place : Option ℕ) (seen : Sight) (calls : List Call) → log ≡ Some calls → Sees log log' place seen → KnowsFinding calls q place → Attempted new calls log' q (finder place) (answered seen)
answered_known new log log' q place seen calls told_is sees k =
    let lost = find_lost log log' place seen sees q calls told_is k in
    (lost.0, lost.1, (lost.2, λ bytes is batch which. from_reply lost.0 lost.1 bytes (subst (λ (s : Sight). Sees log log' place s) is sees) batch which))
  where
    from_reply : (cs : List Call) → log' ≡ Some cs → (bytes : List ℕ) → Sees log log' place (reply bytes) → (batch : Batch) → Reads bytes batch ⊎ (told (asks_query q) bytes ≡ garbled) → (n : ℕ) × KnowsRead cs (opened_at q n batch) × Passes calls cs (finder place) (owner_of_reader (opened_at q n batch)) × IsAtOwn calls (finder place) n
    from_reply cs here bytes heard batch (inl reads) =
        let x = read_opened log log' q place bytes batch reads heard calls told_is k in
        let same : x.0 ≡ cs = same_some x.0 cs (sym x.1 ∙ here) in
        (x.2, subst (λ (l : List Call). KnowsRead l (opened_at q x.2 batch)) same x.3.knows, subst (λ (l : List Call). Passes calls l (finder place) (owner_of_reader (opened_at q x.2 batch))) same x.3.passes, inl (inl x.3.at))
    from_reply cs here bytes heard batch (inr bad) =
        let s = heard calls told_is in
        let same : see s.0 (reply bytes) calls ≡ cs = same_some (see s.0 (reply bytes) calls) cs (sym s.5 ∙ here) in (
          s.0,
          subst (λ (l : List Call). KnowsRead l (opened_at q s.0 batch)) same (garbled_read calls s.0 s.1 q place bytes batch s.2 s.3 s.4 bad k),
          subst (λ (l : List Call). Passes calls l (finder place) (owner_of_reader (opened_at q s.0 batch))) same (garbled_passes calls s.0 s.1 q place bytes batch s.2 s.3 s.4 bad k),
          inl (inl s.2),
        )

module _ (q : Query) (command : List ℕ) (asks : asked command ≡ asks_query q) where
  -- sent and answered in one: it went out first, and was answered then
  at_once : (new : Awaited) (log log' : LogTold) (seen : Sight) (calls : List Call) → log ≡ Some calls → Adds log log' command seen → Attempted new calls log' q nobody (answered seen)
  at_once new log log' seen calls told_is adds =
      let add = adds calls told_is in
      let w : Call = record { command = command; position = add.0; seen = waiting } in
      let mid : LogTold = Some (calls ++ w ∷ []) in
      let place = next_place log in
      let added : Adds log mid command waiting = λ other is. (add.0, ap (λ (l : List Call). Some (l ++ w ∷ [])) (same_some calls other (sym told_is ∙ is))) in
      let sees : Sees mid log' place seen =
      λ other is.
      let same : calls ++ w ∷ [] ≡ other = same_some (calls ++ w ∷ []) other is in (
        length calls,
        w,
        next_is log calls told_is,
        subst (λ (l : List Call). slice_get l (length calls) ≡ Some w) same (get_seam calls [] w),
        refl,
        add.1 ∙ ap Some (sym (see_last calls w seen)) ∙ ap (λ (l : List Call). Some (see (length calls) seen l)) same,
      ) in
      let sent = find_sent log mid q place command waiting asks added (next_is log) calls told_is in
      let back : (n : ℕ) → IsAtOwn sent.0 (finder place) n → IsAtOwn calls nobody n = λ n at. elim at [
        | inl of ↦ elim of [
          | inl e ↦ let same : length calls ≡ n = same_some (length calls) n (sym (next_is log calls told_is) ∙ e) in inr (omega arith)
          | inr none ↦ absurd none
        ]
        | inr later ↦ let more = longer calls sent.0 nobody (finder place) sent.2.passes in inr (omega arith)
      ] in
      let x = answered_known new mid log' q place seen sent.0 sent.1 sees sent.2.knows in
      (x.0, x.1, (passes_on calls sent.0 x.0 nobody (finder place) nobody sent.2.passes x.2.0, λ bytes is. opens_on calls sent.0 x.0 q nobody (finder place) bytes sent.2.passes back (x.2.1 bytes is)))

  begun : (old new : Awaited) (log log' : LogTold) (attempt : Attempt) (calls : List Call) → log ≡ Some calls → Begins old new log log' command attempt → Attempted new calls log' q nobody attempt
  begun old new log log' not_sent calls told_is b = (calls, b.log_same ∙ told_is, passes_same calls nobody (holds_nobody calls))
  begun old new log log' (waits ticket) calls told_is b =
      let s = find_sent log log' q (new ticket) command waiting asks b.adds (λ cs is. b.place cs is) calls told_is in
      (s.0, s.1, (s.2.knows, s.2.passes, λ n is. let same : length calls ≡ n = same_some (length calls) n (sym (b.place calls told_is) ∙ is) in inr (omega arith)))
  begun old new log log' (answered seen) calls told_is b = at_once new log log' seen calls told_is b.adds

  gone_on : (old new : Awaited) (log log' : LogTold) (ticket : ℕ) (attempt : Attempt) (calls : List Call) → log ≡ Some calls → GoesOn old new log log' ticket attempt → KnowsFinding calls q (old ticket) → Attempted new calls log' q (finder (old ticket)) attempt
  gone_on old new log log' ticket not_sent calls told_is g k = absurd g
  gone_on old new log log' ticket (waits given) calls told_is g k =
      let here : old ticket ≡ new given = sym (g.rest given ∙ ap old g.same) in
      (calls, g.log_same ∙ told_is, (subst (KnowsFinding calls q) here k, subst (λ (o : Option ℕ). Passes calls calls (finder (old ticket)) (finder o)) here (passes_same calls (finder (old ticket)) k.owned), λ n is. inl (inl (here ∙ is))))
  gone_on old new log log' ticket (answered seen) calls told_is g k = answered_known new log log' q (old ticket) seen calls told_is g.sees k

  tried : (old new : Awaited) (log log' : LogTold) (stage : Stage) (attempt : Attempt) (calls : List Call) → log ≡ Some calls → Tries old new log log' command stage attempt → FindingAt old calls q stage → Attempted new calls log' q (finder_at old stage) attempt
  tried old new log log' unsent attempt calls told_is t k = begun old new log log' attempt calls told_is t
  tried old new log log' (first ticket) attempt calls told_is t k = gone_on old new log log' ticket attempt calls told_is t k
  tried old new log log' (second ticket) attempt calls told_is t k = gone_on old new log log' ticket attempt calls told_is t k

-- ---- a poll

abbrev pub CameKnown : Awaited → List Call → List Call → Query → Owner → Polled Sending (List ℕ) → Type 0
CameKnown new calls calls' q o (step.Pending s) = FindingAt new calls' q s.stage × Passes calls calls' o (finder_at new s.stage) × ((n : ℕ) → IsOf (finder_at new s.stage).coming (Some n) → IsAtOwn calls o n)
CameKnown new calls calls' q o (step.Done bytes) = Passes calls calls' o nobody × Opens calls calls' q o bytes
CameKnown new calls calls' q o (step.Failed e) = Passes calls calls' o nobody

abbrev StillKnown : Awaited → List Call → List Call → Query → Owner → Stage → Type 0
StillKnown new calls calls' q o stage = FindingAt new calls' q stage × Passes calls calls' o (finder_at new stage) × ((n : ℕ) → IsOf (finder_at new stage).coming (Some n) → IsAtOwn calls o n)

waits_known : (new : Awaited) (calls calls' : List Call) (q : Query) (o : Owner) (ticket : ℕ) → AttemptKnown new calls calls' q o (waits ticket) → (n : ℕ) → IsOf (finder (new ticket)).coming (Some n) → IsAtOwn calls o n
waits_known new calls calls' q o ticket h n (inl e) = h.2 n e
waits_known new calls calls' q o ticket h n (inr none) = absurd none

still_known : (new : Awaited) (calls calls' : List Call) (q : Query) (o : Owner) (stage : Stage) (ticket : ℕ) → AttemptKnown new calls calls' q o (waits ticket) → StillKnown new calls calls' q o (holding stage ticket)
still_known new calls calls' q o unsent ticket h = (h.0, h.1, waits_known new calls calls' q o ticket h)
still_known new calls calls' q o (first old) ticket h = (h.0, h.1, waits_known new calls calls' q o ticket h)
still_known new calls calls' q o (second old) ticket h = (h.0, h.1, waits_known new calls calls' q o ticket h)

no_answer : (new : Awaited) (calls calls' : List Call) (q : Query) (o : Owner) (attempt : Attempt) (wire : ℤ) (e : Error) → AttemptFails attempt wire e → AttemptKnown new calls calls' q o attempt → Passes calls calls' o nobody
no_answer new calls calls' q o not_sent wire e fails known = known
no_answer new calls calls' q o (waits ticket) wire e fails known = absurd fails
no_answer new calls calls' q o (answered seen) wire e fails known = known.0

-- what an attempt that is the last of a poll comes to
answer_known : (new : Awaited) (calls calls' : List Call) (q : Query) (o : Owner) (attempt : Attempt) (wire : ℤ) (s : Sending) (stage : Stage) (result : Polled Sending (List ℕ)) → AttemptGives attempt wire (λ ticket. record s { stage = holding stage ticket }) result → AttemptKnown new calls calls' q o attempt → CameKnown new calls calls' q o result
answer_known new calls calls' q o attempt wire s stage (step.Pending t) gives known =
    subst (λ (x : Sending). StillKnown new calls calls' q o x.stage) (sym gives.2) (still_known new calls calls' q o stage gives.0 (subst (AttemptKnown new calls calls' q o) gives.1 known))
answer_known new calls calls' q o attempt wire s stage (step.Done bytes) gives known =
    let k = subst (AttemptKnown new calls calls' q o) gives.0 known in
    (k.0, k.1 bytes refl)
answer_known new calls calls' q o attempt wire s stage (step.Failed e) gives known = no_answer new calls calls' q o attempt wire e gives known

repeated_known : (new : Awaited) (calls calls' : List Call) (q : Query) (o : Owner) (retries : Bool) (stage : Stage) (attempt : Attempt) → is_repeated retries stage attempt ≡ true → AttemptKnown new calls calls' q o attempt → Passes calls calls' o nobody
repeated_known new calls calls' q o retries stage not_sent is known = known
repeated_known new calls calls' q o retries stage (waits ticket) is known = absurd (none retries stage is)
  where
    none : (t : Bool) (x : Stage) → is_repeated t x (waits ticket) ≡ true → ⊥
    none true unsent e = cc
    none false unsent e = cc
    none true (first n) e = cc
    none false (first n) e = cc
    none t (second n) e = cc
repeated_known new calls calls' q o retries stage (answered seen) is known = known.0

later_own : (calls mid : List Call) (o : Owner) → Passes calls mid o nobody → (n : ℕ) → IsAtOwn mid nobody n → IsAtOwn calls o n
later_own calls mid o p n (inl none) = absurd none
later_own calls mid o p n (inr later) = let more = longer calls mid o nobody p in inr (omega arith)

came_on : (new : Awaited) (calls mid calls' : List Call) (q : Query) (o : Owner) (result : Polled Sending (List ℕ)) → Passes calls mid o nobody → CameKnown new mid calls' q nobody result → CameKnown new calls calls' q o result
came_on new calls mid calls' q o (step.Pending s) first_passes h = (h.0, passes_on calls mid calls' o nobody (finder_at new s.stage) first_passes h.1, λ n of. later_own calls mid o first_passes n (h.2 n of))
came_on new calls mid calls' q o (step.Done bytes) first_passes h = (passes_on calls mid calls' o nobody nobody first_passes h.0, opens_on calls mid calls' q o nobody bytes first_passes (later_own calls mid o first_passes) h.1)
came_on new calls mid calls' q o (step.Failed e) first_passes h = passes_on calls mid calls' o nobody nobody first_passes h

-- A poll of it: what is known of it, and others are left alone.
pub query_ran : (q : Query) (old new : Awaited) (log log' : LogTold) (wire : ℤ) (s : Sending) (result : Polled Sending (List ℕ)) → asked s.command ≡ asks_query q → Runs old new log log' wire s result → (calls : List Call) → log ≡ Some calls → FindingAt old calls q s.stage
    → (calls' : List Call) × (log' ≡ Some calls') × CameKnown new calls calls' q (finder_at old s.stage) result
query_ran q old new log log' wire s result asks (inl once) calls told_is k =
    let x = tried q s.command asks old new log log' s.stage once.attempt calls told_is once.tries k in
    (x.0, x.1, answer_known new calls x.0 q (finder_at old s.stage) once.attempt wire s s.stage result once.gives x.2)
query_ran q old new log log' wire s result asks (inr twice) calls told_is k =
    let x = tried q s.command asks old twice.between log twice.log_between s.stage twice.attempt calls told_is twice.tries k in
    let y = begun q s.command asks twice.between new twice.log_between log' twice.again x.0 x.1 twice.begins in
    let passes = repeated_known twice.between calls x.0 q (finder_at old s.stage) s.retries s.stage twice.attempt twice.repeated x.2 in
    (y.0, y.1, came_on new calls x.0 y.0 q (finder_at old s.stage) result passes (answer_known new x.0 y.0 q nobody twice.again wire s (second 0) result twice.gives y.2))
