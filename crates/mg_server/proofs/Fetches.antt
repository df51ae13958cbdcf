-- A getMore of a query's cursor, which is sent once, moves its reader as its one attempt does.
use Rattle.std.proofs.Common.{◌≡◌, ◌≢◌, ℕ, ℤ, pos, Bool, false, List, [], ◌∷◌, ◌++◌, length, Option, Some, refl, sym, ap, ◌∙◌, subst, inl, inr}
use Rattle.std.specs.Prelude.{slice_get}
use Rattle.mg_link.specs.Namespace.{Space}
use Rattle.mg_server.specs.Commands.{asks_more, asks_kill, garbled, Batch, asked, told}
use Rattle.mg_link.specs.declared.action.Step.{Step}
use Rattle.mg_link.specs.Exec.{Stage, unsent, first, second, Sending, Attempt, not_sent, waits, answered, Begins, GoesOn, Tries, AttemptGives, holding, Runs}
use Rattle.mg_link.specs.Log.{Sight, waiting, reply, Call, see}
use Rattle.mg_link.specs.Link.{Awaited, LogTold, Adds, Sees}
use Rattle.mg_server.specs.Follow.{Reads}
use Rattle.mg_server.specs.Reader.{still, fetching, Reader, ReadMoved}
use Rattle.mg_link.proofs.Places.{get_seam}
use Rattle.mg_server.proofs.Owners.{same_some}
use Rattle.mg_server.proofs.Openings.{IsNext}
use Rattle.mg_server.proofs.Retries.{see_last, next_place, next_is}
use Rattle.mg_link.proofs.Waits.{never_again}
use Rattle.mg_server.proofs.Fetching.{doing_so, heard_by, lost_by, KeepsOrEnds, reader_stayed, reader_on, fetch_sent, fetch_heard, fetch_lost, fetch_unsent, fetch_garbled, fetch_killed, kill_answered}

-- A call that was sent and answered in one went out first, and was answered then.
pub read_at_once : (log log' : LogTold) (command : List ℕ) (seen : Sight) (place : Option ℕ) (r r' r'' : Reader) → Adds log log' command seen → IsNext log place
    → ((mid : LogTold) → Adds log mid command waiting → ReadMoved log mid r r') → ((mid : LogTold) → Sees mid log' place seen → ReadMoved mid log' r' r'') → ReadMoved log log' r r''
read_at_once log log' command seen place r r' r'' adds next sent ended calls told_log =
    let add = adds calls told_log in
    let w : Call = record { command = command; position = add.0; seen = waiting } in
    let mid : LogTold = Some (calls ++ w ∷ []) in
    let added : Adds log mid command waiting =
    λ other is. (add.0, ap (λ (l : List Call). Some (l ++ w ∷ [])) (same_some calls other (sym told_log ∙ is))) in
    let seen_there : Sees mid log' place seen =
    λ other is.
    let same : calls ++ w ∷ [] ≡ other = same_some (calls ++ w ∷ []) other is in (
      length calls,
      w,
      next calls told_log,
      subst (λ (l : List Call). slice_get l (length calls) ≡ Some w) same (get_seam calls [] w),
      refl,
      add.1 ∙ ap Some (sym (see_last calls w seen)) ∙ ap (λ (l : List Call). Some (see (length calls) seen l)) same,
    ) in
    reader_on log mid log' r r' r'' (sent mid added) (ended mid seen_there) calls told_log

-- ---- getMore

-- Where a reader is behind an answer to its getMore: it may have lost a batch; or one was read; or the reply is none that a server may give.
pub record FetchAnswered (r : Reader) (log log' : LogTold) (g : Reader) (seen : Sight) : Type 0 where
  pub lost : (cursor : ℤ) (refused : Bool) → KeepsOrEnds r cursor refused → ReadMoved log log' g (lost_by r cursor refused)
  pub heard : (bytes : List ℕ) → seen ≡ reply bytes → (batch : Batch) → Reads bytes batch → ReadMoved log log' g (heard_by r batch)
  pub spoiled : (bytes : List ℕ) → seen ≡ reply bytes → ((space : Space) → told (asks_more r.cursor space) bytes ≡ garbled) → (r' : Reader) → r'.doing ≡ still → r'.opened ≡ r.opened → r'.query ≡ r.query → ReadMoved log log' g r'

-- Where it is behind one that was not sent: as it was, or it counts as one that may have lost a batch.
pub record FetchUnsent (r : Reader) (log log' : LogTold) (g : Reader) : Type 0 where
  pub stays : ReadMoved log log' g g
  pub failed : (refused : Bool) → ReadMoved log log' g (lost_by r r.cursor refused)

abbrev pub FetchAttempted : Reader → Awaited → LogTold → LogTold → Reader → Attempt → Type 0
FetchAttempted r new log log' g not_sent = FetchUnsent r log log' g
FetchAttempted r new log log' g (waits ticket) = ReadMoved log log' g (doing_so r (fetching (new ticket)))
FetchAttempted r new log log' g (answered seen) = FetchAnswered r log log' g seen

-- the reader at a stage of its getMore
abbrev pub reader_at : Reader → Awaited → Stage → Reader
reader_at r awaited unsent = doing_so r still
reader_at r awaited (first ticket) = doing_so r (fetching (awaited ticket))
reader_at r awaited (second ticket) = doing_so r (fetching (awaited ticket))

module _ (r : Reader) (command : List ℕ) (space : Space) (nz : r.cursor ≢ pos 0) (asks : asked command ≡ asks_more r.cursor space) where
  -- the answer to one that waited
  fetch_answered : (log log' : LogTold) (place : Option ℕ) (seen : Sight) → Sees log log' place seen → FetchAnswered r log log' (doing_so r (fetching place)) seen
  fetch_answered log log' place seen sees =
      record {
        lost = λ cursor refused which. fetch_lost log log' (doing_so r (fetching place)) place seen cursor refused refl nz which sees;
        heard = λ bytes is batch reads. fetch_heard log log' (doing_so r (fetching place)) place bytes batch refl nz reads (subst (λ (s : Sight). Sees log log' place s) is sees);
        spoiled = λ bytes is bad r' rests at same. fetch_garbled log log' (doing_so r (fetching place)) r' place bytes refl bad rests at same (subst (λ (s : Sight). Sees log log' place s) is sees);
      }

  sent_then : (log log' : LogTold) (seen : Sight) (r' : Reader) → Adds log log' command seen → ((mid : LogTold) → Sees mid log' (next_place log) seen → ReadMoved mid log' (doing_so r (fetching (next_place log))) r') → ReadMoved log log' (doing_so r still) r'
  sent_then log log' seen r' adds ended =
      read_at_once log log' command seen (next_place log) (doing_so r still) (doing_so r (fetching (next_place log))) r' adds (next_is log)
      (λ mid a. fetch_sent log mid (doing_so r still) (next_place log) command space waiting refl nz asks a (next_is log)) ended

  -- the answer to one that was sent and answered in one
  fetch_at_once : (log log' : LogTold) (seen : Sight) → Adds log log' command seen → FetchAnswered r log log' (doing_so r still) seen
  fetch_at_once log log' seen adds =
      record {
        lost = λ cursor refused which. sent_then log log' seen (lost_by r cursor refused) adds (λ mid s. (fetch_answered mid log' (next_place log) seen s).lost cursor refused which);
        heard = λ bytes is batch reads. sent_then log log' seen (heard_by r batch) adds (λ mid s. (fetch_answered mid log' (next_place log) seen s).heard bytes is batch reads);
        spoiled = λ bytes is bad r' rests at same. sent_then log log' seen r' adds (λ mid s. (fetch_answered mid log' (next_place log) seen s).spoiled bytes is bad r' rests at same);
      }

  fetch_begun : (old new : Awaited) (log log' : LogTold) (attempt : Attempt) → Begins old new log log' command attempt → FetchAttempted r new log log' (doing_so r still) attempt
  fetch_begun old new log log' not_sent b =
      record { stays = reader_stayed log log' (doing_so r still) b.log_same; failed = λ refused. fetch_unsent log log' (doing_so r still) refused refl nz b.log_same }
  fetch_begun old new log log' (waits ticket) b = fetch_sent log log' (doing_so r still) (new ticket) command space waiting refl nz asks b.adds (λ calls is. b.place calls is)
  fetch_begun old new log log' (answered seen) b = fetch_at_once log log' seen b.adds

  fetch_gone_on : (old new : Awaited) (log log' : LogTold) (ticket : ℕ) (attempt : Attempt) → GoesOn old new log log' ticket attempt → FetchAttempted r new log log' (doing_so r (fetching (old ticket))) attempt
  fetch_gone_on old new log log' ticket not_sent g = absurd g
  fetch_gone_on old new log log' ticket (waits given) g =
      subst (λ (place : Option ℕ). ReadMoved log log' (doing_so r (fetching (old ticket))) (doing_so r (fetching place))) (sym (g.rest given ∙ ap old g.same)) (reader_stayed log log' (doing_so r (fetching (old ticket))) g.log_same)
  fetch_gone_on old new log log' ticket (answered seen) g = fetch_answered log log' (old ticket) seen g.sees

  fetch_tried : (old new : Awaited) (log log' : LogTold) (stage : Stage) (attempt : Attempt) → Tries old new log log' command stage attempt → FetchAttempted r new log log' (reader_at r old stage) attempt
  fetch_tried old new log log' unsent attempt t = fetch_begun old new log log' attempt t
  fetch_tried old new log log' (first ticket) attempt t = fetch_gone_on old new log log' ticket attempt t
  fetch_tried old new log log' (second ticket) attempt t = fetch_gone_on old new log log' ticket attempt t

  -- A poll of a getMore: its one attempt, what the poll answers by it, and where the reader is.
  pub record FetchRan (old new : Awaited) (log log' : LogTold) (wire : ℤ) (s : Sending) (result : Step Sending (List ℕ)) : Type 0 where
    pub attempt : Attempt
    pub gives : AttemptGives attempt wire (λ ticket. record s { stage = holding s.stage ticket }) result
    pub moves : FetchAttempted r new log log' (reader_at r old s.stage) attempt

  pub fetch_ran : (old new : Awaited) (log log' : LogTold) (wire : ℤ) (s : Sending) (result : Step Sending (List ℕ)) → s.command ≡ command → s.retries ≡ false → Runs old new log log' wire s result → FetchRan old new log log' wire s result
  fetch_ran old new log log' wire s result is single (inl once) =
      record {
        attempt = once.attempt;
        gives = once.gives;
        moves = fetch_tried old new log log' s.stage once.attempt (subst (λ (c : List ℕ). Tries old new log log' c s.stage once.attempt) is once.tries);
      }
  fetch_ran old new log log' wire s result is single (inr twice) = absurd (never_again s.retries s.stage twice.attempt single twice.repeated)

-- ---- killCursors

module _ (r : Reader) (command : List ℕ) (nz : r.cursor ≢ pos 0) (asks : asked command ≡ asks_kill (r.cursor ∷ [])) where
  kill_begun : (old new : Awaited) (log log' : LogTold) (attempt : Attempt) → Begins old new log log' command attempt → ReadMoved log log' (doing_so r still) (doing_so r still)
  kill_begun old new log log' not_sent b = reader_stayed log log' (doing_so r still) b.log_same
  kill_begun old new log log' (waits ticket) b = fetch_killed log log' (doing_so r still) command waiting refl nz asks b.adds
  kill_begun old new log log' (answered seen) b = fetch_killed log log' (doing_so r still) command seen refl nz asks b.adds

  kill_gone_on : (old new : Awaited) (log log' : LogTold) (ticket : ℕ) (attempt : Attempt) → GoesOn old new log log' ticket attempt → ReadMoved log log' (doing_so r still) (doing_so r still)
  kill_gone_on old new log log' ticket not_sent g = absurd g
  kill_gone_on old new log log' ticket (waits given) g = reader_stayed log log' (doing_so r still) g.log_same
  kill_gone_on old new log log' ticket (answered seen) g = kill_answered log log' (doing_so r still) (old ticket) seen refl g.sees

  kill_tried : (old new : Awaited) (log log' : LogTold) (stage : Stage) (attempt : Attempt) → Tries old new log log' command stage attempt → ReadMoved log log' (doing_so r still) (doing_so r still)
  kill_tried old new log log' unsent attempt t = kill_begun old new log log' attempt t
  kill_tried old new log log' (first ticket) attempt t = kill_gone_on old new log log' ticket attempt t
  kill_tried old new log log' (second ticket) attempt t = kill_gone_on old new log log' ticket attempt t

  -- A poll of the killing of its cursor leaves the reader as it was.
  pub read_closed : (old new : Awaited) (log log' : LogTold) (wire : ℤ) (s : Sending) (result : Step Sending (List ℕ)) → s.command ≡ command → Runs old new log log' wire s result → ReadMoved log log' (doing_so r still) (doing_so r still)
  read_closed old new log log' wire s result is (inl once) =
      kill_tried old new log log' s.stage once.attempt (subst (λ (c : List ℕ). Tries old new log log' c s.stage once.attempt) is once.tries)
  read_closed old new log log' wire s result is (inr twice) =
      reader_on log twice.log_between log' (doing_so r still) (doing_so r still) (doing_so r still)
      (kill_tried old twice.between log twice.log_between s.stage twice.attempt (subst (λ (c : List ℕ). Tries old twice.between log twice.log_between c s.stage twice.attempt) is twice.tries))
      (kill_begun twice.between new twice.log_between log' twice.again (subst (λ (c : List ℕ). Begins twice.between new twice.log_between log' c twice.again) is twice.begins))
