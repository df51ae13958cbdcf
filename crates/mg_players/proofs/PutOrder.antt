-- A put sends its commands in their order, over all steps of a poll.
use Rattle.std.proofs.Common.{◌≡◌, ◌<◌, ◌≤◌, ◌+◌, ◌*◌, ℕ, zero, suc, ℤ, Bool, true, false, List, [], ◌++◌, length, drop, Option, Some, None, refl, sym, ap, ◌∙◌, subst, inl, inr, arith, add-mul, append-nil, append_assoc, length-append}
use Rattle.mg_bson.specs.Raw.{fields}
use Rattle.mg_bson.specs.Tree.{Fields}
use Rattle.mg_server.specs.Calls as requests
use Rattle.mg_server.specs.Calls.{Came, Flies, HeardLast, Keeps, NoneBroken, Past, RequestFails, past_of}
use Rattle.mg_link.specs.Exec.{Runs, Sending, Stage, first, second, unsent}
use Rattle.mg_link.specs.Link.{Awaited, LogTold, SendsNothing}
use Rattle.mg_link.specs.Log as logs
use Rattle.mg_link.specs.Log.{Call}
use Rattle.mg_link.specs.declared.action.Step.{Step}
use Rattle.mg_link.specs.declared.action.Step.TheVariants as came
use Rattle.mg_link.specs.declared.error.Error.{Error}
use Rattle.mg_server.proofs.Calls.{keeps_longer, log_grows, request_ran, success_ran}
use Rattle.mg_server.proofs.Owners.{same_some}
use Rattle.mg_server.proofs.Pasts.{fails_anyhow}
use Rattle.mg_options.specs.Fields.{fields_in}
use Rattle.mg_ops.specs.Failing.{FailsBy}
use Rattle.mg_ops.specs.Logs.{AddsJust}
use Rattle.mg_ops.specs.Writes.{NotInserted}
use Rattle.mg_ops.proofs.Logs.{just_none, just_on}
use Rattle.mg_gridfs.specs.Buckets.{ClientBucket}
use Rattle.mg_gridfs.specs.Causes.{PhaseUnderway}
use Rattle.mg_gridfs.specs.Checks as check
use Rattle.mg_gridfs.specs.Checks.{CheckTurned, ChecksOn, ClientCheck, IsSoundCheck, finds}
use Rattle.mg_gridfs.specs.Commands.{deletion_lines, record_document, record_lines}
use Rattle.mg_gridfs.specs.Steps as steps
use Rattle.mg_gridfs.specs.Steps.{BeginsCheck, CheckLeads, DoesStep, DoesSteps, Ends, Fills, HearsChunks, HearsLast, HearsRecord, HearsRemoval, Removes, Rests, Stepped, begins_check, checks_on, done, ending_of, ends_next, failed, fills_next, goes, ids_behind, inserts_last, inserts_on, is_short, lands_on, records_on, removes_on, rests_next, undoes_next, undone_by, waits}
use Rattle.mg_gridfs.specs.Uploads as uploads
use Rattle.mg_gridfs.specs.Uploads.{Aim, ClientUpload, Doing, Ending, HasBounds, IsOfCall, IsShort, IsSoundPhase, Phase, abort, begins, busy, checks, close, closed, ends, error_behind, error_by, fills, idle, inserts, lands, lasts, record_of, records, removes, rests, undoes, write}
use Rattle.mg_gridfs.proofs.Caused.{step_caused}
use Rattle.mg_gridfs.proofs.Checked.{checks_caused, landings_caused}
use Rattle.mg_gridfs.proofs.Driving.{call_kept}
use Rattle.mg_gridfs.proofs.Keeping.{same_pending, step_kept}
use Rattle.mg_players.specs.PutChecks.{CheckSends}
use Rattle.mg_players.specs.PutFailures as causes
use Rattle.mg_players.specs.PutFailures.{FailsEarly}
use Rattle.mg_players.specs.PutSends as put_sends
use Rattle.mg_players.specs.PutSends.{Around, DoingSent, FailsSo, HoldsError, InsertsChunks, IsErrorBehind, ListsSome, NeedsNoCheck, PhaseSent, PutSends, Reach, SentAll, SentChunks, SentFor, SentUntil, chunks_removal, file_chunks, record_insert}
use Rattle.mg_players.specs.Puts.{ComeNext, CutByPhase, IsCutAt, IsMoment, IsPutDoing, PhaseSupplied, PutTask, Supply, joined, put_aim, put_bucket, total}
use Rattle.mg_players.specs.Sends.{PhaseFlies}
use Rattle.mg_players.proofs.JustGrown.{AreLastOf, log_behind, wider_behind}
use Rattle.mg_players.proofs.PutChecked.{check_reads}
use Rattle.mg_players.proofs.PutChecks.{StepHeard, TurnSent, check_adds, check_begins, check_passed, check_so_far}
use Rattle.mg_players.proofs.PutCommands.{OnceHeard, chunks_more, last_more, once_sent, only_chunks, record_more, removal_more, sends_chunks, sent_nothing, until_all, until_chunks}
use Rattle.mg_players.proofs.PutFailing.{FailsAt, FailsBack, PhaseStands, StepsWell, step_well}
use Rattle.mg_players.proofs.PutGrowing.{phase_grows}
use Rattle.mg_players.proofs.PutHeard.{step_grows}
use Rattle.mg_players.proofs.PutNext.{ends_error, fills_error, rests_error}
use Rattle.mg_players.proofs.PutSending.{Fits, all_taken, full_next, its_room, joined_total, last_next, last_one, none_full, none_next, step_sends}
use Rattle.mg_players.proofs.PutSupplied.{step_supplied}

-- ---- what stands behind a step

-- what a call that is done has sent
abbrev pub CallSent : Supply → PutTask → Past → List Fields → Bool → ℕ → uploads.Call → Type 0
CallSent supply t ever commands checked sent (write piece) = SentChunks supply t ever commands checked sent
CallSent supply t ever commands checked sent close = (moment : ℤ) × SentAll supply t ever commands (Some moment)
CallSent supply t ever commands checked sent abort = Unit {0}

abbrev pub SteppedSent : Supply → PutTask → Reach → Past → Past → (Error → ℕ → Option ℤ → Bool → Type 0) → List Fields → Bool → ℕ → uploads.Call → Stepped → Type 0
SteppedSent supply t R ever past W commands checked sent call (goes p) = PhaseSent supply t R ever past commands checked sent p
SteppedSent supply t R ever past W commands checked sent call (waits p) = PhaseSent supply t R ever past commands checked sent p
SteppedSent supply t R ever past W commands checked sent call done = CallSent supply t ever commands checked sent call
SteppedSent supply t R ever past W commands checked sent call (failed e) = SentFor supply t ever commands (W e)

none_sends : (supply : Supply) (t : PutTask) (ever : Past) (commands : List Fields) → commands ≡ [] → PutSends supply t ever commands 0 None false
none_sends supply t ever commands none = subst (λ (l : List Fields). PutSends supply t ever l 0 None false) (sym none) (sends_chunks supply t ever [] false 0 (λ more. absurd (omega (arith, more))) (sent_nothing supply t ever))

-- it sent nothing, for such a reason
pub none_for : (supply : Supply) (t : PutTask) (ever : Past) (commands : List Fields) (Why : ℕ → Option ℤ → Bool → Type 0) → Why 0 None false → commands ≡ [] → SentFor supply t ever commands Why
none_for supply t ever commands Why why none = (false, (0, None, none_sends supply t ever commands none), why)

-- the check alone, of a file with a full chunk
check_sends : (supply : Supply) (t : PutTask) (ever : Past) (commands : List Fields) → t.chunk ≤ total t.pieces → CheckSends ever (put_bucket t) commands → PutSends supply t ever commands 0 None false
check_sends supply t ever commands full of = record { check = commands; chunks = []; parts = sym (append-nil commands); of_check = of; pieces = refl; checked = λ some all. absurd (let more = only_chunks 0 some in omega (arith, more)); unneeded = λ small. absurd (omega (arith, full, small)); recorded = λ m is. absurd cc; timely = λ m is. absurd cc }

-- some of its chunks, and no record
pub chunks_at : (supply : Supply) (t : PutTask) (R : Reach) (ever : Past) (commands : List Fields) (checked : Bool) (upto : ℕ) → R 0 None → R upto None → SentChunks supply t ever commands checked upto → (most : ℕ) × PutSends supply t ever commands most None false × R most None
chunks_at supply t R ever commands true upto none near s = (upto, sends_chunks supply t ever commands true upto (λ more. inl refl) s, near)
chunks_at supply t R ever commands false upto none near s = (0, none_sends supply t ever commands (s.nothing refl), none)

-- ---- what it has sent at last

around : (stage : Stage) (Before Behind Then : Type 0) → (Before → Then) → (Behind → Then) → Around stage Before Behind → Then
around unsent Before Behind Then f g h = f h
around (first ticket) Before Behind Then f g h = g h
around (second ticket) Before Behind Then f g h = g h

-- how far what a phase has sent may have come
abbrev pub PhaseNear : Reach → ℕ → Phase → Type 0
PhaseNear R sent begins = R 0 None
PhaseNear R sent (checks c) = R 0 None
PhaseNear R sent fills = R sent None
PhaseNear R sent (inserts s count) = R sent None × R (sent + count) None
PhaseNear R sent (rests m) = (upto : ℕ) (moment : Option ℤ) → R upto moment
PhaseNear R sent (lasts s ending) = (upto : ℕ) (moment : Option ℤ) → R upto moment
PhaseNear R sent (ends ending) = (upto : ℕ) (moment : Option ℤ) → R upto moment
PhaseNear R sent (records s ending) = (upto : ℕ) (moment : Option ℤ) → R upto moment
PhaseNear R sent (lands flight error) = Unit {0}
PhaseNear R sent (undoes error) = Unit {0}
PhaseNear R sent (removes s error) = Unit {0}

abbrev pub DoingNear : Reach → ℕ → Doing → Type 0
DoingNear R sent idle = R 0 None × R sent None
DoingNear R sent (busy call p) = PhaseNear R sent p
DoingNear R sent closed = Unit {0}

module _ (supply : Supply) (t : PutTask) (R : Reach) (ever past : Past) (commands : List Fields) (checked : Bool) (sent : ℕ) (Why : ℕ → Option ℤ → Bool → Type 0) (none : (upto : ℕ) (moment : Option ℤ) → R upto moment → Why upto moment false) where
  -- it removed no chunk
  some_left : (upto : ℕ) (moment : Option ℤ) → R upto moment → PutSends supply t ever commands upto moment false → SentFor supply t ever commands Why
  some_left upto moment near sends = (false, (upto, moment, sends), none upto moment near)

  chunks_left : (upto : ℕ) → R upto None → SentChunks supply t ever commands true upto → SentFor supply t ever commands Why
  chunks_left upto near s = some_left upto None near (sends_chunks supply t ever commands true upto (λ more. inl refl) s)

  any_left : R 0 None → R sent None → SentChunks supply t ever commands checked sent → SentFor supply t ever commands Why
  any_left nothing near s = let x = chunks_at supply t R ever commands checked sent nothing near s in some_left x.0 None x.2 x.1

  all_left : (moment : Option ℤ) → ((upto : ℕ) (m : Option ℤ) → R upto m) → SentAll supply t ever commands moment → SentFor supply t ever commands Why
  all_left moment near s = some_left (length (file_chunks t)) moment (near (length (file_chunks t)) moment) s

  -- it is on the way back
  until_left : (error : Option Error) → SentUntil supply t R ever past commands error false → SentFor supply t ever commands Why
  until_left None s = absurd s.holds
  until_left (Some original) s = some_left s.upto s.moment s.holds.1 s.sends

  phase_some : (p : Phase) → PhaseNear R sent p → ((original : Error) → error_behind p ≡ Some original → (upto : ℕ) (moment : Option ℤ) → R upto moment → IsErrorBehind supply t past upto moment original → Why upto moment true) → PhaseSent supply t R ever past commands checked sent p → SentFor supply t ever commands Why
  phase_some begins near why h = some_left 0 None near (none_sends supply t ever commands h.0)
  phase_some (checks c) near why h = some_left 0 None near (check_sends supply t ever commands h.1 (check_so_far ever (put_bucket t) commands c h.0))
  phase_some fills near why h = chunks_left sent near h
  phase_some (inserts s count) near why h = around s.stage (SentChunks supply t ever commands true sent) (SentChunks supply t ever commands true (sent + count)) (SentFor supply t ever commands Why) (chunks_left sent near.0) (chunks_left (sent + count) near.1) h.1
  phase_some (rests moment) near why h = any_left (near 0 None) (near sent None) h
  phase_some (lasts s ending) near why h = around s.stage (SentChunks supply t ever commands checked sent × NeedsNoCheck t checked) (SentAll supply t ever commands None) (SentFor supply t ever commands Why) (λ x. any_left (near 0 None) (near sent None) x.0) (all_left None near) h.2
  phase_some (ends ending) near why h = all_left None near h
  phase_some (records s ending) near why h = around s.stage (SentAll supply t ever commands None) (SentAll supply t ever commands (Some ending.moment)) (SentFor supply t ever commands Why) (all_left None near) (all_left (Some ending.moment) near) h.1
  phase_some (lands flight error) near why h = absurd h
  phase_some (undoes error) near why h = until_left error h
  phase_some (removes s None) near why h = absurd (around s.stage (SentUntil supply t R ever past commands None false) (SentUntil supply t R ever past commands None true) ⊥ (λ x. x.holds) (λ x. x.holds) h.1)
  phase_some (removes s (Some original)) near why h =
      around s.stage (SentUntil supply t R ever past commands (Some original) false) (SentUntil supply t R ever past commands (Some original) true) (SentFor supply t ever commands Why) (until_left (Some original)) (λ x. (true, (x.upto, x.moment, x.sends), why original refl x.upto x.moment x.holds.1 x.holds.0)) h.1

  -- whatever its upload is doing that is open
  pub doing_some : (d : Doing) (made count : ℕ) → IsPutDoing d made count → DoingNear R sent d → ((original : Error) → error_by d ≡ Some original → (upto : ℕ) (moment : Option ℤ) → R upto moment → IsErrorBehind supply t past upto moment original → Why upto moment true) → DoingSent supply t R ever past commands checked sent d → SentFor supply t ever commands Why
  doing_some idle made count doing near why h = any_left near.0 near.1 h
  doing_some (busy call p) made count doing near why h = phase_some p near why h
  doing_some closed made count doing near why h = absurd doing

-- ---- how far a call may come

-- Of the bytes that it took it inserts full chunks, and no record, unless it is a close.
pub record MayReach (t : PutTask) (taken : List ℕ) (call : uploads.Call) (R : Reach) : Type 0 where
  pub chunks : (upto : ℕ) → upto * t.chunk ≤ length taken → R upto None
  pub all : call ≡ close → (upto : ℕ) (moment : Option ℤ) → R upto moment

-- a phase that no write has is one of a close
is_close : (call : uploads.Call) (rest : List ℕ) (p : Phase) → Fits call rest → IsOfCall call p → ((piece : ℕ) → IsOfCall (write piece) p → ⊥) → call ≡ close
is_close (write piece) rest p fits own never = absurd (never piece own)
is_close close rest p fits own never = refl
is_close abort rest p fits own never = absurd fits

less_part : (a b c n : ℕ) → a ≡ b + c → a ≤ n → b ≤ n
less_part a b c n is within = omega (arith, is, within)

-- the full chunks that were inserted, and those on their way, are among the bytes that were taken
pub cut_within : (t : PutTask) (u : ClientUpload) (taken : List ℕ) (more : ℕ) → u.aim ≡ put_aim t → IsCutAt u taken more → (u.sent + more) * t.chunk ≤ length taken
cut_within t u taken more aim cut =
    let size : u.aim.size ≡ t.chunk = ap (λ (a : Aim). a.size) aim in
    let even : length cut.front ≡ (u.sent + more) * t.chunk = cut.even ∙ ap (λ (n : ℕ). (u.sent + more) * n) size in
    let both : length taken ≡ length cut.front + length u.behind = ap length cut.parts ∙ length-append cut.front u.behind in
    subst (λ (n : ℕ). n ≤ length taken) even (omega (arith, both))

module _ (t : PutTask) (R : Reach) (taken rest : List ℕ) (call : uploads.Call) (fits : Fits call rest) (reach : MayReach t taken call R) where
  pub reach_none : R 0 None
  reach_none = reach.chunks 0 (omega arith)

  module _ (u : ClientUpload) (aim : u.aim ≡ put_aim t) where
    -- all full chunks so far
    pub reach_cut : IsCutAt u taken 0 → R u.sent None
    reach_cut cut = let within : (u.sent + 0) * t.chunk ≤ length taken = cut_within t u taken 0 aim cut in let same : u.sent + 0 ≡ u.sent = omega arith in reach.chunks u.sent (subst (λ (n : ℕ). n * t.chunk ≤ length taken) same within)

    -- with those on their way, and without
    pub reach_more : (count : ℕ) → IsCutAt u taken count → R (u.sent + count) None
    reach_more count cut = reach.chunks (u.sent + count) (cut_within t u taken count aim cut)

    pub reach_before : (count : ℕ) → IsCutAt u taken count → R u.sent None
    reach_before count cut =
        reach.chunks u.sent (less_part ((u.sent + count) * t.chunk) (u.sent * t.chunk) (count * t.chunk) (length taken) (add-mul u.sent count t.chunk) (cut_within t u taken count aim cut))

    pub phase_near : (p : Phase) → IsOfCall call p → CutByPhase u taken p → PhaseNear R u.sent p
    phase_near begins own cut = reach_none
    phase_near (checks c) own cut = reach_none
    phase_near fills own cut = reach_cut cut
    phase_near (inserts s count) own cut = (reach_before count cut, reach_more count cut)
    phase_near (rests m) own cut = reach.all (is_close call rest (rests m) fits own (λ piece x. x))
    phase_near (lasts s ending) own cut = reach.all (is_close call rest (lasts s ending) fits own (λ piece x. x))
    phase_near (ends ending) own cut = reach.all (is_close call rest (ends ending) fits own (λ piece x. x))
    phase_near (records s ending) own cut = reach.all (is_close call rest (records s ending) fits own (λ piece x. x))
    phase_near (lands flight error) own cut = tt
    phase_near (undoes error) own cut = tt
    phase_near (removes s error) own cut = tt

-- ---- where chunks are removed

-- only on the way back, with an error in hand; before that only a check fails, behind which nothing else was sent
abbrev pub MayRemove : Supply → PutTask → Reach → Past → ℕ → Option ℤ → Bool → Phase → Type 0
MayRemove supply t R past upto moment removed begins = (removed ≡ false) × (upto ≡ 0) × (moment ≡ None) × (t.chunk ≤ total t.pieces)
MayRemove supply t R past upto moment removed (checks c) = (removed ≡ false) × (upto ≡ 0) × (moment ≡ None) × (t.chunk ≤ total t.pieces)
MayRemove supply t R past upto moment removed fills = ⊥
MayRemove supply t R past upto moment removed (inserts s count) = ⊥
MayRemove supply t R past upto moment removed (rests m) = ⊥
MayRemove supply t R past upto moment removed (lasts s ending) = ⊥
MayRemove supply t R past upto moment removed (ends ending) = ⊥
MayRemove supply t R past upto moment removed (records s ending) = ⊥
MayRemove supply t R past upto moment removed (lands flight error) = ⊥
MayRemove supply t R past upto moment removed (undoes error) = HoldsError supply t R past upto moment error
MayRemove supply t R past upto moment removed (removes s error) = HoldsError supply t R past upto moment error

module _ (supply : Supply) (t : PutTask) (R : Reach) (past : Past) (e : Error) (upto : ℕ) (moment : Option ℤ) (removed : Bool) where
  so_back : (error : Option Error) → HoldsError supply t R past upto moment error → FailsBack error past t e → FailsSo supply t past e upto moment removed
  so_back None held h = absurd h
  so_back (Some original) held h = put_sends.late original h.0 held.0 h.1

  before_it : (failed : FailsEarly past t e) → upto ≡ 0 → moment ≡ None → t.chunk ≤ total t.pieces → put_sends.SentBefore failed upto moment
  before_it (causes.check_fails f) none unrecorded full = (none, unrecorded, full)
  before_it (causes.not_taken is) none unrecorded full = unrecorded

  -- why a put fails in such a phase
  so_at : (p : Phase) → MayRemove supply t R past upto moment removed p → FailsAt p past t e → FailsSo supply t past e upto moment removed
  so_at begins may h = put_sends.early may.0 h (before_it h may.1 may.2 may.3)
  so_at (checks c) may h = put_sends.early may.0 h (before_it h may.1 may.2 may.3)
  so_at fills may h = absurd may
  so_at (inserts s count) may h = absurd may
  so_at (rests m) may h = absurd may
  so_at (lasts s ending) may h = absurd may
  so_at (ends ending) may h = absurd may
  so_at (records s ending) may h = absurd may
  so_at (lands flight error) may h = absurd may
  so_at (undoes error) may h = so_back error may h
  so_at (removes s error) may h = so_back error may h

  -- and how far it came
  near_held : (error : Option Error) → HoldsError supply t R past upto moment error → R upto moment
  near_held None held = absurd held
  near_held (Some original) held = held.1

  near_nothing : R 0 None → upto ≡ 0 → moment ≡ None → R upto moment
  near_nothing none start unrecorded = subst (λ (n : ℕ). R n moment) (sym start) (subst (λ (m : Option ℤ). R 0 m) (sym unrecorded) none)

  near_at : R 0 None → (p : Phase) → MayRemove supply t R past upto moment removed p → R upto moment
  near_at none begins may = near_nothing none may.1 may.2
  near_at none (checks c) may = near_nothing none may.1 may.2
  near_at none fills may = absurd may
  near_at none (inserts s count) may = absurd may
  near_at none (rests m) may = absurd may
  near_at none (lasts s ending) may = absurd may
  near_at none (ends ending) may = absurd may
  near_at none (records s ending) may = absurd may
  near_at none (lands flight error) may = absurd may
  near_at none (undoes error) may = near_held error may
  near_at none (removes s error) may = near_held error may

-- ---- one step

module _ (supply : Supply) (t : PutTask) (R : Reach) (ever : Past) (taken rest : List ℕ) (whole : joined t.pieces ≡ taken ++ rest) (call : uploads.Call) (fits : Fits call rest) (reach : MayReach t taken call R) (old new : Awaited) (log log' : LogTold) (wire : ℤ) (u u' : ClientUpload) (r : Stepped) (aim : u.aim ≡ put_aim t) (bounds : HasBounds u) (commands : List Fields) (places : List ℕ) (since : ℕ) (calls' : List Call) (W : Error → ℕ → Option ℤ → Bool → Type 0) where
  -- all that the call sent, by the log behind the step
  abbrev Now : Past
  Now = past_of places since calls' wire

  abbrev pub After : List Fields → Type 0
  After l = SteppedSent supply t R ever Now W l u'.checked u'.sent call r

  abbrev pub Sends : Type 0
  Sends = (more : List Fields) × AddsJust log log' more × After (commands ++ more)

  after_as : (l : List Fields) (v : ClientUpload) (q : Stepped) → u' ≡ v → r ≡ q → SteppedSent supply t R ever Now W l v.checked v.sent call q → After l
  after_as l v q is answer h = subst (λ (x : Stepped). SteppedSent supply t R ever Now W l u'.checked u'.sent call x) (sym answer) (subst (λ (x : ClientUpload). SteppedSent supply t R ever Now W l x.checked x.sent call q) (sym is) h)

  quietly : SendsNothing old new log log' → After commands → Sends
  quietly quiet h = ([], just_none log log' quiet.log_same, subst After (sym (append-nil commands)) h)

  room : 0 < t.chunk
  room = its_room t u aim bounds

  -- a close may send all
  reach_all : (p : Phase) → IsOfCall call p → ((piece : ℕ) → IsOfCall (write piece) p → ⊥) → (upto : ℕ) (moment : Option ℤ) → R upto moment
  reach_all p own never = reach.all (is_close call rest p fits own never)

  unchecked : u.checked ≡ false → u.sent ≡ 0
  unchecked is = bounds.unchecked is

  undoes_so : (l : List Fields) (v : ClientUpload) (e : Error) → u' ≡ v → r ≡ goes (undoes (Some e)) → SentUntil supply t R ever Now l (Some e) false → After l
  undoes_so l v e is answer h = after_as l v (goes (undoes (Some e))) is answer h

  -- ---- inserts that fail

  -- its request failed, or its reply says so
  abbrev InsertFails : ℕ → Fields → Error → Type 0
  InsertFails count command e = RequestFails Now command false (ListsSome count) e

  lost : (s : Sending) (count : ℕ) (e : Error) → RequestFails Now (fields s.command) false NoneBroken e → InsertFails count (fields s.command) e
  lost s count e failed_so = fails_anyhow Now (fields s.command) false (ListsSome count) e failed_so

  listed : (s : Sending) (count : ℕ) (bytes : List ℕ) (e : Error) → Runs old new log log' wire s (came.Done bytes) → HeardLast Now (fields s.command) false (logs.reply bytes) → FailsBy (NotInserted count (fields bytes)) e → InsertFails count (fields s.command) e
  listed s count bytes e runs heard (inl full) = requests.out_of_memory (ap (λ (x : Error). x.kind) full)
  listed s count bytes e runs heard (inr cause) = requests.was_broken bytes heard (success_ran old new log log' wire s bytes runs) cause

  newest_chunks : (upto count : ℕ) (command : Fields) (e : Error) → InsertsChunks supply t u.sent upto command → u.sent + count ≡ upto → InsertFails count command e → IsErrorBehind supply t Now upto None e
  newest_chunks upto count command e next upto_is failed_so =
      let parts = next.next in
      let same : length next.piece ≡ count = omega (arith, parts, upto_is) in
      put_sends.by_chunks refl u.sent command next (subst (λ (n : ℕ). RequestFails Now command false (ListsSome n) e) (sym same) failed_so)

  the_record : (ending : Ending) (command : Fields) (upto : ℕ) (e : Error) → command ≡ record_insert t ending.moment → InsertFails 1 command e → IsErrorBehind supply t Now upto (Some ending.moment) e
  the_record ending command upto e is failed_so = put_sends.by_record ending.moment refl (subst (λ (c : Fields). RequestFails Now c false (ListsSome 1) e) is failed_so)

  -- ---- the check

  -- one that failed, and has not removed them
  abbrev Unremoved : Type 0
  Unremoved = (e : Error) → r ≡ failed e → W e 0 None false

  -- one that failed with an error in hand
  abbrev Holding : Option Error → Type 0
  Holding error = (e : Error) (removed : Bool) → r ≡ failed e → (upto : ℕ) (moment : Option ℤ) → HoldsError supply t R Now upto moment error → W e upto moment removed

  begins_order : Unremoved → t.chunk ≤ total t.pieces → commands ≡ [] → BeginsCheck u u' r → After commands
  begins_order why full none (steps.built s new_one is answer) = after_as commands u (goes (checks (finds s))) is answer (check_begins ever (put_bucket t) commands s none new_one.new, full)
  begins_order why full none (steps.not_built e fails is answer) = after_as commands u (failed e) is answer (false, (0, None, none_sends supply t ever commands none), why e answer)

  check_order : Unremoved → t.chunk ≤ total t.pieces → (l : List Fields) → u.sent ≡ 0 → (c : CheckTurned) → TurnSent ever (put_bucket t) l c → CheckLeads c u u' r → After l
  check_order why full l none (check.goes c) so h = after_as l u (goes (checks c)) h.0 h.1 (so, full)
  check_order why full l none (check.pends c) so h = after_as l u (waits (checks c)) h.0 h.1 (so, full)
  check_order why full l none check.passes so h =
      after_as l (record u { checked = true }) (goes fills) h.0 h.1 (record { check = l; chunks = []; parts = sym (append-nil l); of_check = check_passed ever (put_bucket t) l so; pieces = none; passed = λ is. so; unneeded = λ small. absurd (omega (arith, full, small)); nothing = λ bad. absurd cc })
  check_order why full l none (check.fails e) so h = after_as l u (failed e) h.0 h.1 (false, (0, None, check_sends supply t ever l full so), why e h.1)

  -- ---- chunks

  module _ (cut : IsCutAt u taken 0) where
    fills_order : (ids : ℕ → List ℕ) (drawn : ℕ) → ((k : ℕ) → length (ids k) ≡ 12) → u.aim.size ≤ length u.behind → ComeNext supply t ids u.sent → SentChunks supply t ever commands true u.sent → Fills ids drawn u u' r → After commands
    fills_order ids drawn twelve full next_ids so (steps.built count s portion small n request is answer) =
        let next : InsertsChunks supply t u.sent (u.sent + count) (fields s.command) = full_next supply t taken rest whole call fits old new log log' wire u u' r aim room cut ids next_ids count s portion small request in
        after_as commands (record u { behind = drop (count * u.aim.size) u.behind }) (goes (inserts s count)) is answer
        (next, subst (λ (x : Stage). Around x (SentChunks supply t ever commands true u.sent) (SentChunks supply t ever commands true (u.sent + count))) (sym request.new) so)
    fills_order ids drawn twelve full next_ids so (steps.not_built within e left fails is answer) =
        undoes_so commands (record u { behind = left }) e is answer (until_chunks supply t R ever Now commands true u.sent e (inl refl) (fills_error supply t Now taken rest whole u aim bounds cut ids next_ids full twelve e fails) (reach_cut t R taken rest call fits reach u aim cut) so)

    module _ (all : rest ≡ []) (short : IsShort u) where
      -- a file whose upload has not checked by now has no full chunk
      no_full : (checked : Bool) → (checked ≡ false → u.sent ≡ 0) → NeedsNoCheck t checked
      no_full true none = inl refl
      no_full false none = inr (none_full supply t taken rest whole call fits old new log log' wire u u' r aim room all short cut (none refl))

      rests_order : (ids : ℕ → List ℕ) (drawn : ℕ) (moment : ℤ) → ComeNext supply t ids u.sent → SentChunks supply t ever commands u.checked u.sent → Rests ids drawn moment u u' r → After commands
      rests_order ids drawn moment next_ids so (steps.nothing_left none n is answer) =
          let all_sent : u.sent ≡ length (file_chunks t) = none_next supply t taken rest whole call fits old new log log' wire u u' r aim room all cut none in
          after_as commands u (goes (ends (ending_of u moment))) is answer
          (subst (λ (n : ℕ). PutSends supply t ever commands n None false) all_sent (sends_chunks supply t ever commands u.checked u.sent (λ more. no_full u.checked unchecked) so))
      rests_order ids drawn moment next_ids so (steps.built some small n s request is answer) =
          after_as commands (record u { behind = [] }) (goes (lasts s (ending_of u moment))) is answer (
            last_next supply t taken rest whole call fits old new log log' wire u u' r aim room all short cut ids next_ids s some small request,
            last_one supply t taken rest whole call fits old new log log' wire u u' r aim room all short cut some,
            subst (λ (x : Stage). Around x (SentChunks supply t ever commands u.checked u.sent × NeedsNoCheck t u.checked) (SentAll supply t ever commands None)) (sym request.new) (so, no_full u.checked unchecked),
          )
      rests_order ids drawn moment next_ids so (steps.not_built some most e left fails is answer) =
          undoes_so commands (record u { behind = left }) e is answer (until_chunks supply t R ever Now commands u.checked u.sent e (no_full u.checked unchecked) (rests_error supply t Now taken rest whole u aim bounds cut ids next_ids all short some e fails) (reach_cut t R taken rest call fits reach u aim cut) so)

  -- ---- replies

  command_of : (s s' : Sending) → Runs old new log log' wire s (came.Pending s') → (P : Fields → Type 0) → P (fields s.command) → P (fields s'.command)
  command_of s s' runs P h = subst (λ (c : List ℕ). P (fields c)) (sym (same_pending old new log log' wire s s' runs).0) h

  chunks_heard : (s : Sending) (count : ℕ) (l : List Fields) → IsCutAt u taken count → InsertsChunks supply t u.sent (u.sent + count) (fields s.command) → (c : Step Sending (List ℕ)) → Runs old new log log' wire s c → Came new Now (fields s.command) false c → HearsChunks count c u u' r
      → OnceHeard (λ x. SentChunks supply t ever x true u.sent) (λ x. SentChunks supply t ever x true (u.sent + count)) c l → After l
  chunks_heard s count l cut next (came.Pending s') runs heard h so = after_as l u (waits (inserts s' count)) h.0 h.1 (command_of s s' runs (InsertsChunks supply t u.sent (u.sent + count)) next, so)
  chunks_heard s count l cut next (came.Done reply) runs heard (steps.inserted n told_so is answer) so = after_as l (record u { sent = u.sent + count }) (goes fills) is answer so
  chunks_heard s count l cut next (came.Done reply) runs heard (steps.not_inserted e fails is answer) so =
      undoes_so l u e is answer (until_chunks supply t R ever Now l true (u.sent + count) e (inl refl) (newest_chunks (u.sent + count) count (fields s.command) e next refl (listed s count reply e runs heard fails)) (reach_more t R taken rest call fits reach u aim count cut) so)
  chunks_heard s count l cut next (came.Failed e) runs heard h so = undoes_so l u e h.0 h.1 (elim so [
    | inl behind ↦ until_chunks supply t R ever Now l true (u.sent + count) e (inl refl) (newest_chunks (u.sent + count) count (fields s.command) e next refl (lost s count e heard)) (reach_more t R taken rest call fits reach u aim count cut) behind
    | inr before ↦ until_chunks supply t R ever Now l true u.sent e (inl refl) (put_sends.out_of_memory before.1) (reach_before t R taken rest call fits reach u aim count cut) before.0
  ])

  last_heard : (s : Sending) (ending : Ending) (l : List Fields) → ((upto : ℕ) (moment : Option ℤ) → R upto moment) → InsertsChunks supply t u.sent (length (file_chunks t)) (fields s.command) → u.sent + 1 ≡ length (file_chunks t) → (c : Step Sending (List ℕ)) → Runs old new log log' wire s c → Came new Now (fields s.command) false c → HearsLast ending c u u' r
      → OnceHeard (λ x. SentChunks supply t ever x u.checked u.sent × NeedsNoCheck t u.checked) (λ x. SentAll supply t ever x None) c l → After l
  last_heard s ending l far next one (came.Pending s') runs heard h so = after_as l u (waits (lasts s' ending)) h.0 h.1 (command_of s s' runs (InsertsChunks supply t u.sent (length (file_chunks t))) next, one, so)
  last_heard s ending l far next one (came.Done reply) runs heard (steps.inserted n told_so is answer) so = after_as l u (goes (ends ending)) is answer so
  last_heard s ending l far next one (came.Done reply) runs heard (steps.not_inserted e fails is answer) so =
      undoes_so l u e is answer (until_all supply t R ever Now l None e room (newest_chunks (length (file_chunks t)) 1 (fields s.command) e next one (listed s 1 reply e runs heard fails)) (far (length (file_chunks t)) None) so)
  last_heard s ending l far next one (came.Failed e) runs heard h so = undoes_so l u e h.0 h.1 (elim so [
    | inl behind ↦ until_all supply t R ever Now l None e room (newest_chunks (length (file_chunks t)) 1 (fields s.command) e next one (lost s 1 e heard)) (far (length (file_chunks t)) None) behind
    | inr before ↦ until_chunks supply t R ever Now l u.checked u.sent e before.0.1 (put_sends.out_of_memory before.1) (far u.sent None) before.0.0
  ])

  ends_order : (ending : Ending) → ((upto : ℕ) (moment : Option ℤ) → R upto moment) → rest ≡ [] → ending.length ≡ length taken → IsMoment supply.moment ending.moment → SentAll supply t ever commands None → Ends ending u u' r → After commands
  ends_order ending far all counts its so (steps.built s request is answer) =
      let count : ending.length ≡ total t.pieces = counts ∙ ap length (sym (whole ∙ ap (λ (l : List ℕ). taken ++ l) all ∙ append-nil taken)) ∙ joined_total t.pieces in
      let command_is : fields s.command ≡ record_insert t ending.moment = request.command_is ∙ ap (λ (a : Aim). fields_in (record_lines a.bucket (record_of a ending))) aim ∙ ap (λ (n : ℕ). fields_in (record_lines (put_bucket t) (record_document t.id n t.chunk ending.moment t.name None))) count in
      after_as commands u (goes (records s ending)) is answer (command_is, subst (λ (x : Stage). Around x (SentAll supply t ever commands None) (SentAll supply t ever commands (Some ending.moment))) (sym request.new) so)
  ends_order ending far all counts its so (steps.not_built e fails is answer) = undoes_so commands u e is answer (until_all supply t R ever Now commands None e room (ends_error supply t Now taken rest whole u aim bounds ending all counts its e fails) (far (length (file_chunks t)) None) so)

  -- it is a close whose record is there
  closed_so : (l : List Fields) (checked : Bool) (sent : ℕ) (moment : ℤ) (c : uploads.Call) (s : Sending) (ending : Ending) → IsOfCall c (records s ending) → SentAll supply t ever l (Some moment) → CallSent supply t ever l checked sent c
  closed_so l checked sent moment (write piece) s ending own so = absurd own
  closed_so l checked sent moment close s ending own so = (moment, so)
  closed_so l checked sent moment abort s ending own so = absurd own

  record_heard : (s : Sending) (ending : Ending) (l : List Fields) → IsOfCall call (records s ending) → fields s.command ≡ record_insert t ending.moment → (c : Step Sending (List ℕ)) → Runs old new log log' wire s c → Came new Now (fields s.command) false c → HearsRecord ending c u u' r
      → OnceHeard (λ x. SentAll supply t ever x None) (λ x. SentAll supply t ever x (Some ending.moment)) c l → After l
  record_heard s ending l own is_so (came.Pending s') runs heard h so = after_as l u (waits (records s' ending)) h.0 h.1 (command_of s s' runs (λ x. x ≡ record_insert t ending.moment) is_so, so)
  record_heard s ending l own is_so (came.Done reply) runs heard (steps.inserted n told_so is answer) so = after_as l u done is answer (closed_so l u.checked u.sent ending.moment call s ending own so)
  record_heard s ending l own is_so (came.Done reply) runs heard (steps.not_inserted e fails undone_so) so =
      undoes_so l u e undone_so.0 undone_so.1 (until_all supply t R ever Now l (Some ending.moment) e room (the_record ending (fields s.command) (length (file_chunks t)) e is_so (listed s 1 reply e runs heard fails)) (reach_all (records s ending) own (λ piece x. x) (length (file_chunks t)) (Some ending.moment)) so)
  record_heard s ending l own is_so (came.Failed e) runs heard h so = undoes_so l u e h.0 h.1 (elim so [
    | inl behind ↦ until_all supply t R ever Now l (Some ending.moment) e room (the_record ending (fields s.command) (length (file_chunks t)) e is_so (lost s 1 e heard)) (reach_all (records s ending) own (λ piece x. x) (length (file_chunks t)) (Some ending.moment)) behind
    | inr before ↦ until_all supply t R ever Now l None e room (put_sends.out_of_memory before.1) (reach_all (records s ending) own (λ piece x. x) (length (file_chunks t)) None) before.0
  ])

  -- ---- the way back

  removes_order : (error : Option Error) → Holding error → SentUntil supply t R ever Now commands error false → Removes error u u' r → After commands
  removes_order error why so (steps.built s request is answer) =
      let command_is : fields s.command ≡ chunks_removal t = request.command_is ∙ ap (λ (a : Aim). fields_in (deletion_lines a.bucket a.id)) aim in
      after_as commands u (goes (removes s error)) is answer (command_is, subst (λ (x : Stage). Around x (SentUntil supply t R ever Now commands error false) (SentUntil supply t R ever Now commands error true)) (sym request.new) so)
  removes_order error why so (steps.not_built d e fails both is answer) = after_as commands u (failed e) is answer (false, (so.upto, so.moment, so.sends), why e false answer so.upto so.moment so.holds)

  -- once they are removed the first error is answered
  undone_order : (l : List Fields) (checked : Bool) (sent : ℕ) (c : uploads.Call) (s : Sending) (error : Option Error) → Holding error → r ≡ undone_by error → Fits c rest → IsOfCall c (removes s error) → SentUntil supply t R ever Now l error true → SteppedSent supply t R ever Now W l checked sent c (undone_by error)
  undone_order l checked sent c s (Some e) why answer fits own so = (true, (so.upto, so.moment, so.sends), why e true answer so.upto so.moment so.holds)
  undone_order l checked sent (write piece) s None why answer fits own so = absurd own
  undone_order l checked sent close s None why answer fits own so = absurd own
  undone_order l checked sent abort s None why answer fits own so = absurd fits

  removal_heard : (s : Sending) (error : Option Error) (l : List Fields) → Holding error → IsOfCall call (removes s error) → fields s.command ≡ chunks_removal t → (c : Step Sending (List ℕ)) → Runs old new log log' wire s c → HearsRemoval error c u u' r
      → OnceHeard (λ x. SentUntil supply t R ever Now x error false) (λ x. SentUntil supply t R ever Now x error true) c l → After l
  removal_heard s error l why own is_so (came.Pending s') runs h so = after_as l u (waits (removes s' error)) h.0 h.1 (command_of s s' runs (λ x. x ≡ chunks_removal t) is_so, so)
  removal_heard s error l why own is_so (came.Done reply) runs (steps.removed n wrote_so is answer) so = after_as l u (undone_by error) is answer (undone_order l u.checked u.sent call s error why answer fits own so)
  removal_heard s error l why own is_so (came.Done reply) runs (steps.not_removed d e fails both is answer) so = after_as l u (failed e) is answer (true, (so.upto, so.moment, so.sends), why e true answer so.upto so.moment so.holds)
  removal_heard s error l why own is_so (came.Failed d) runs h so = after_as l u (failed h.0) h.2 h.3 (elim so [
    | inl behind ↦ (true, (behind.upto, behind.moment, behind.sends), why h.0 true h.3 behind.upto behind.moment behind.holds)
    | inr before ↦ (false, (before.0.upto, before.0.moment, before.0.sends), why h.0 false h.3 before.0.upto before.0.moment before.0.holds)
  ])

  -- ---- a step

  -- a write that is done
  written_so : (l : List Fields) (c : uploads.Call) → IsOfCall c fills → u.checked ≡ true → SentChunks supply t ever l true u.sent → CallSent supply t ever l u.checked u.sent c
  written_so l (write piece) own is so = subst (λ (b : Bool). SentChunks supply t ever l b u.sent) (sym is) so
  written_so l close own is so = absurd own
  written_so l abort own is so = absurd own

  -- ---- over the log

  module _ (calls : List Call) (told : log ≡ Some calls) (room_since : since ≤ length calls) (told' : log' ≡ Some calls') (keeps : Keeps calls calls') where
    abbrev Before : Past
    Before = past_of places since calls wire

    -- what a request comes to that is sent once
    heard_so : (s : Sending) (c : Step Sending (List ℕ)) → s.retries ≡ false → Runs old new log log' wire s c → Flies old Before (fields s.command) s.stage → Came new Now (fields s.command) false c
    heard_so s c single runs flies =
        let x = request_ran old new log log' wire s (fields s.command) false c refl single runs calls told places since room_since flies in
        subst (λ (cs : List Call). Came new (past_of places since cs wire) (fields s.command) false c) (same_some x.calls' calls' (sym x.told ∙ told')) x.came

    pub step_order : (ids : ℕ → List ℕ) (drawn : ℕ) → ((k : ℕ) → length (ids k) ≡ 12) → (p : Phase) → IsSoundPhase u p → IsOfCall call p → CutByPhase u taken p → PhaseFlies supply t p → PhaseUnderway old Before u.aim p → PhaseSent supply t R ever Now commands u.checked u.sent p → PhaseSupplied supply t ids u.sent p → ((c : ClientCheck) (x : CheckTurned) → p ≡ checks c → IsSoundCheck (put_bucket t) c → (o : ChecksOn old new log log' wire (put_bucket t) c x) → StepHeard ever (put_bucket t) x o) → ((e : Error) (removed : Bool) → r ≡ failed e → (upto : ℕ) (moment : Option ℤ) → MayRemove supply t R Now upto moment removed p → W e upto moment removed) → DoesStep old new log log' wire ids drawn u u' p r → Sends
    step_order ids drawn twelve p sound own cut flies under so supplied heard why (begins_check is q n does) = (let h = subst (PhaseSent supply t R ever Now commands u.checked u.sent) is so in quietly q (begins_order (λ e answer. why e false answer 0 None (subst (MayRemove supply t R Now 0 None false) (sym is) (refl, refl, refl, h.1))) h.1 h.0 does))
    step_order ids drawn twelve p sound own cut flies under so supplied heard why (checks_on c is n x checks_so leads) =
        let sound_so = subst (IsSoundPhase u) is sound in
        let bucket : u.aim.bucket ≡ put_bucket t = ap (λ (a : Aim). a.bucket) aim in
        let h = subst (PhaseSent supply t R ever Now commands u.checked u.sent) is so in
        let on : ChecksOn old new log log' wire (put_bucket t) c x = subst (λ (b : ClientBucket). ChecksOn old new log log' wire b c x) bucket checks_so in
        let sound_on : IsSoundCheck (put_bucket t) c = subst (λ (b : ClientBucket). IsSoundCheck b c) bucket sound_so.0 in
        let a = check_adds ever (put_bucket t) old new log log' wire commands c x sound_on (subst (PhaseFlies supply t) is flies) h.0 on (heard c x is sound_on on) in
        (a.0, a.1, check_order (λ e answer. why e false answer 0 None (subst (MayRemove supply t R Now 0 None false) (sym is) (refl, refl, refl, h.1))) h.1 (commands ++ a.0) (unchecked sound_so.1) x a.2 leads)
    step_order ids drawn twelve p sound own cut flies under so supplied heard why (is_short is q n short same answer) =
        quietly q (after_as commands u done same answer (written_so commands call (subst (IsOfCall call) is own) (subst (IsSoundPhase u) is sound) (subst (PhaseSent supply t R ever Now commands u.checked u.sent) is so)))
    step_order ids drawn twelve p sound own cut flies under so supplied heard why (fills_next is q full does) = quietly q (fills_order (subst (CutByPhase u taken) is cut) ids drawn twelve full (subst (PhaseSupplied supply t ids u.sent) is supplied) (subst (PhaseSent supply t R ever Now commands u.checked u.sent) is so) does)
    step_order ids drawn twelve p sound own cut flies under so supplied heard why (inserts_on s count is n c runs hears) =
        let request = (subst (IsSoundPhase u) is sound).request in
        let flying = subst (PhaseUnderway old Before u.aim) is under in
        let sent_so = subst (PhaseSent supply t R ever Now commands u.checked u.sent) is so in
        let x = once_sent old new log log' wire s request.retries_is (λ l. SentChunks supply t ever l true u.sent) (λ l. SentChunks supply t ever l true (u.sent + count)) (λ l h. chunks_more supply t ever l u.sent (u.sent + count) (fields s.command) sent_so.0 h) commands sent_so.1 c runs in
        (x.0, x.1, chunks_heard s count (commands ++ x.0) (subst (CutByPhase u taken) is cut) sent_so.0 c runs (heard_so s c request.retries_is runs flying) hears x.2)
    step_order ids drawn twelve p sound own cut flies under so supplied heard why (rests_next moment is q does) =
        quietly q (rests_order (subst (CutByPhase u taken) is cut) (all_taken call rest (rests moment) fits (subst (IsOfCall call) is own) (λ piece x. x)) (subst (IsSoundPhase u) is sound) ids drawn moment (subst (PhaseSupplied supply t ids u.sent) is supplied).0 (subst (PhaseSent supply t R ever Now commands u.checked u.sent) is so) does)
    step_order ids drawn twelve p sound own cut flies under so supplied heard why (inserts_last s ending is n c runs hears) =
        let request = (subst (IsSoundPhase u) is sound).0.request in
        let flying = subst (PhaseUnderway old Before u.aim) is under in
        let sent_so = subst (PhaseSent supply t R ever Now commands u.checked u.sent) is so in
        let x = once_sent old new log log' wire s request.retries_is (λ l. SentChunks supply t ever l u.checked u.sent × NeedsNoCheck t u.checked) (λ l. SentAll supply t ever l None) (λ l h. last_more supply t ever l u.checked u.sent (length (file_chunks t)) (fields s.command) sent_so.0 h.0 h.1) commands sent_so.2 c runs in
        (x.0, x.1, last_heard s ending (commands ++ x.0) (reach_all (lasts s ending) (subst (IsOfCall call) is own) (λ piece x. x)) sent_so.0 sent_so.1 c runs (heard_so s c request.retries_is runs flying) hears x.2)
    step_order ids drawn twelve p sound own cut flies under so supplied heard why (ends_next ending is q n does) =
        quietly q (ends_order ending (reach_all (ends ending) (subst (IsOfCall call) is own) (λ piece x. x)) (all_taken call rest (ends ending) fits (subst (IsOfCall call) is own) (λ piece x. x)) (subst (CutByPhase u taken) is cut) (subst (PhaseSupplied supply t ids u.sent) is supplied) (subst (PhaseSent supply t R ever Now commands u.checked u.sent) is so) does)
    step_order ids drawn twelve p sound own cut flies under so supplied heard why (records_on s ending is n c runs hears) =
        let request = (subst (IsSoundPhase u) is sound).0 in
        let flying = subst (PhaseUnderway old Before u.aim) is under in
        let sent_so = subst (PhaseSent supply t R ever Now commands u.checked u.sent) is so in
        let x = once_sent old new log log' wire s request.retries_is (λ l. SentAll supply t ever l None) (λ l. SentAll supply t ever l (Some ending.moment)) (λ l h. record_more supply t ever l ending.moment (fields s.command) (subst (PhaseSupplied supply t ids u.sent) is supplied) sent_so.0 h) commands sent_so.1 c runs in
        (x.0, x.1, record_heard s ending (commands ++ x.0) (subst (IsOfCall call) is own) sent_so.0 c runs (heard_so s c request.retries_is runs flying) hears x.2)
    step_order ids drawn twelve p sound own cut flies under so supplied heard why (lands_on flight error is n left landing landed) = absurd (subst (PhaseSent supply t R ever Now commands u.checked u.sent) is so)
    step_order ids drawn twelve p sound own cut flies under so supplied heard why (undoes_next error is q n does) = (let h = subst (PhaseSent supply t R ever Now commands u.checked u.sent) is so in quietly q (removes_order error (λ e removed answer upto moment held. why e removed answer upto moment (subst (MayRemove supply t R Now upto moment removed) (sym is) held)) h does))
    step_order ids drawn twelve p sound own cut flies under so supplied heard why (removes_on s error is n c runs hears) =
        let request = subst (IsSoundPhase u) is sound in
        let sent_so = subst (PhaseSent supply t R ever Now commands u.checked u.sent) is so in
        let x = once_sent old new log log' wire s request.retries_is (λ l. SentUntil supply t R ever Now l error false) (λ l. SentUntil supply t R ever Now l error true) (λ l h. removal_more supply t R ever Now l (fields s.command) error sent_so.0 h) commands sent_so.1 c runs in
        (x.0, x.1, removal_heard s error (commands ++ x.0) (λ e removed answer upto moment held. why e removed answer upto moment (subst (MayRemove supply t R Now upto moment removed) (sym is) held)) (subst (IsOfCall call) is own) sent_so.0 c runs hears x.2)

-- ---- all steps

-- why it failed, by the log behind the steps
abbrev pub Reason : List ℕ → ℕ → ℤ → LogTold → Supply → PutTask → Reach → Error → ℕ → Option ℤ → Bool → Type 0
Reason places since wire log' supply t R e upto moment removed = (calls' : List Call) × (log' ≡ Some calls') × FailsSo supply t (past_of places since calls' wire) e upto moment removed × R upto moment

-- what the steps of a poll send
abbrev pub StepsSend : Supply → PutTask → Reach → Past → Past → uploads.Call → LogTold → LogTold → (Error → ℕ → Option ℤ → Bool → Type 0) → ClientUpload → Stepped → List Fields → Type 0
StepsSend supply t R ever past call log log' W u' r commands = (more : List Fields) × AddsJust log log' more × SteppedSent supply t R ever past W (commands ++ more) u'.checked u'.sent call r

-- what a step of its check heard, by all that the put heard
its_heard : (t : PutTask) (old new : Awaited) (log log' : LogTold) (wire : ℤ) (u : ClientUpload) (p : Phase) → u.aim ≡ put_aim t → (calls calls' : List Call) → log ≡ Some calls → log' ≡ Some calls' → (places ever : List ℕ) (since : ℕ) → AreLastOf places since ever → since ≤ length calls → PhaseStands t old (past_of places since calls wire) p → PhaseUnderway old (past_of places since calls wire) u.aim p
    → (c : ClientCheck) (x : CheckTurned) → p ≡ checks c → IsSoundCheck (put_bucket t) c → (o : ChecksOn old new log log' wire (put_bucket t) c x) → StepHeard (past_of ever since calls' wire) (put_bucket t) x o
its_heard t old new log log' wire u p aim calls calls' told told' places ever since wider room its under c x is sound o =
    let before = past_of places since calls wire in
    let under_so = subst (λ (a : Aim). PhaseUnderway old before a (checks c)) aim (subst (PhaseUnderway old before u.aim) is under) in
    let g = check_reads old new log log' wire (put_bucket t) calls told places since room c x sound o under_so (subst (PhaseStands t old before) is its).1 in
    let there = subst (λ (cs : List Call). StepHeard (past_of places since cs wire) (put_bucket t) x o) (same_some g.0 calls' (sym g.1 ∙ told')) g.3.1 in
    step_grows (past_of places since calls' wire) (past_of ever since calls' wire) (wider_behind places ever since wider calls' wire) (put_bucket t) old new log log' wire c x o there

-- what a step sends, and then the rest
steps_on : (supply : Supply) (t : PutTask) (R : Reach) (ever past : Past) (call : uploads.Call) (log mid log' : LogTold) (W : Error → ℕ → Option ℤ → Bool → Type 0) (u' : ClientUpload) (r : Stepped) (commands front : List Fields) → AddsJust log mid front → StepsSend supply t R ever past call mid log' W u' r (commands ++ front) → StepsSend supply t R ever past call log log' W u' r commands
steps_on supply t R ever past call log mid log' W u' r commands front adds more = (front ++ more.0, just_on log mid log' front more.0 adds more.1, subst (λ (l : List Fields). SteppedSent supply t R ever past W l u'.checked u'.sent call r) (append_assoc commands front more.0) more.2)

pub steps_order : (supply : Supply) (t : PutTask) (R : Reach) (ever : List ℕ) (taken rest : List ℕ) → joined t.pieces ≡ taken ++ rest → (call : uploads.Call) → Fits call rest → MayReach t taken call R → (n : ℕ) (old new : Awaited) (log log' : LogTold) (wire : ℤ) (ids : ℕ → List ℕ) (drawn : ℕ) → ((k : ℕ) → length (ids k) ≡ 12) → (u u' : ClientUpload) (p : Phase) (r : Stepped) (commands : List Fields) → u.aim ≡ put_aim t → HasBounds u → IsSoundPhase u p → IsOfCall call p → CutByPhase u taken p → PhaseFlies supply t p
    → (calls calls' : List Call) → log ≡ Some calls → log' ≡ Some calls' → (places : List ℕ) (since : ℕ) → AreLastOf places since ever → since ≤ length calls → PhaseSent supply t R (past_of ever since calls wire) (past_of places since calls wire) commands u.checked u.sent p → PhaseSupplied supply t ids u.sent p → PhaseStands t old (past_of places since calls wire) p → PhaseUnderway old (past_of places since calls wire) u.aim p → DoesSteps n old new log log' wire ids drawn u u' p r → StepsSend supply t R (past_of ever since calls' wire) (past_of places since calls' wire) call log log' (Reason places since wire log' supply t R) u' r commands
unfolding DoesSteps
steps_order supply t R ever taken rest whole call fits reach zero old new log log' wire ids drawn twelve u u' p r commands aim bounds sound own cut flies calls calls' told told' places since wider room so supplied its under d =
    let w = step_well t taken rest whole old new log log' wire u u' r aim bounds calls told places since room call fits ids twelve drawn p sound own cut its under d.0 in
    let behind = past_of places since w.0 wire in
    let now : Past = past_of ever since w.0 wire in
    let so_on = phase_grows (past_of ever since calls wire) now (log_behind ever since calls w.0 wire w.2) (past_of places since calls wire) behind (log_grows places since calls w.0 wire w.2) supply t R commands u.checked u.sent p so in
    let here = step_order supply t R now taken rest whole call fits reach old new log log' wire u u' r aim bounds commands places since w.0 (Reason places since wire log' supply t R) calls told room w.1 w.2 ids drawn twelve p sound own cut flies under so_on supplied (its_heard t old new log log' wire u p aim calls w.0 told w.1 places ever since wider room its under)
    (λ e removed is upto moment may. (w.0, w.1, so_at supply t R behind e upto moment removed p may (subst (StepsWell t new behind p) is w.3), near_at supply t R behind e upto moment removed (reach_none t R taken rest call fits reach) p may)) d.0 in
    subst (λ (cs : List Call). StepsSend supply t R (past_of ever since cs wire) (past_of places since cs wire) call log log' (Reason places since wire log' supply t R) u' r commands) (same_some w.0 calls' (sym w.1 ∙ told')) here
steps_order supply t R ever taken rest whole call fits reach (suc n) old new log log' wire ids drawn twelve u u' p r commands aim bounds sound own cut flies calls calls' told told' places since wider room so supplied its under d =
    let kept = step_kept old d.0 log d.1 wire u d.4 (goes d.5) bounds ids d.2 p sound d.6 in
    let s = step_sends supply t taken rest whole call fits old d.0 log d.1 wire u d.4 (goes d.5) aim (its_room t u aim bounds) ids d.2 p sound own cut flies supplied d.6 in
    let own_on = call_kept call old d.0 log d.1 wire ids d.2 u d.4 p (goes d.5) own d.6 in
    let next = step_supplied supply t call ids d.2 u d.4 (goes d.5) old d.0 log d.1 wire p own supplied d.6 in
    let w = step_well t taken rest whole old d.0 log d.1 wire u d.4 (goes d.5) aim bounds calls told places since room call fits ids twelve d.2 p sound own cut its under d.6 in
    let g = step_caused checks_caused landings_caused old d.0 log d.1 wire u d.4 p (goes d.5) bounds sound calls told places since room call own ids d.2 d.6 under in
    let mid : Past = past_of ever since g.0 wire in
    let so_on = phase_grows (past_of ever since calls wire) mid (log_behind ever since calls g.0 wire g.2) (past_of places since calls wire) (past_of places since g.0 wire) (log_grows places since calls g.0 wire g.2) supply t R commands u.checked u.sent p so in
    let here = step_order supply t R mid taken rest whole call fits reach old d.0 log d.1 wire u d.4 (goes d.5) aim bounds commands places since g.0 (λ e upto moment removed. Unit {0}) calls told room g.1 g.2 ids d.2 twelve p sound own cut flies under so_on supplied (its_heard t old d.0 log d.1 wire u p aim calls g.0 told g.1 places ever since wider room its under) (λ e removed is upto moment may. tt) d.6 in
    let same : w.0 ≡ g.0 = same_some w.0 g.0 (sym w.1 ∙ g.1) in
    let its_on : PhaseStands t d.0 (past_of places since g.0 wire) d.5 = subst (λ (cs : List Call). PhaseStands t d.0 (past_of places since cs wire) d.5) same w.3 in
    let longer = keeps_longer calls g.0 g.2 in
    let room_on : since ≤ length g.0 = omega (arith, room, longer) in
    let under_on = subst (λ (a : Aim). PhaseUnderway d.0 (past_of places since g.0 wire) a d.5) (sym kept.same_aim) g.3 in
    let more = steps_order supply t R ever taken rest whole call fits reach n d.0 new d.1 log' wire (ids_behind d.2 ids) d.3 (λ k. twelve (d.2 + k)) d.4 u' d.5 r (commands ++ here.0) (kept.same_aim ∙ aim) kept.bounds kept.stepped_so own_on s.1.0 s.1.1 g.0 calls' g.1 told' places since wider room_on here.2 next its_on under_on d.8 in
    steps_on supply t R (past_of ever since calls' wire) (past_of places since calls' wire) call log d.1 log' (Reason places since wire log' supply t R) u' r commands here.0 here.1 more
