-- The polls of calls, by how far an upload has come.
use Rattle.std.proofs.Common.{◌≡◌, ℕ, ℤ, Bool, true, false, List, Option, Some, None, refl, sym, ap, ◌∙◌, subst}
use Rattle.std.specs.Prelude.{if◌then◌else◌}
use Rattle.mg_link.specs.Acts.{IsOut}
use Rattle.mg_link.specs.Errors.{plain}
use Rattle.mg_link.specs.Link.{Awaited, LogTold}
use Rattle.mg_link.specs.Moment.{Ending, LinkKeeps, Moment, failed, finished, pending}
use Rattle.mg_link.specs.declared.error.Error.{Error}
use Rattle.mg_link.specs.declared.error.ErrorKind.TheVariants as kind
use Rattle.mg_link.specs.declared.error.GridFsErrorKind.TheVariants as grid
use Rattle.mg_link.proofs.Moments.{keeps_same}
use Rattle.mg_cursor.proofs.Hearing.{failing, keeps_to, no_room}
use Rattle.mg_gridfs.specs.Calls as calls
use Rattle.mg_gridfs.specs.Calls.{Abandons, Aborts, Closes, Drives, abort_phase, at_work, close_phase, end_ending, ended_by, ending_beside, landing_of, stream_closed, with_bytes, write_ending, write_in_progress}
use Rattle.mg_gridfs.specs.Steps as steps
use Rattle.mg_gridfs.specs.Steps.{Stepped, done, goes, waits}
use Rattle.mg_gridfs.specs.Uploads as uploads
use Rattle.mg_gridfs.specs.Uploads.{ClientUpload, Doing, HasBounds, IsBetween, IsOfCall, IsSoundPhase, Phase, RestsBy, SoundBy, abort, begins, busy, checks, close, closed, ends, error_behind, error_by, fills, idle, inserts, lands, lasts, phase_ticket, records, removes, rests, ticket_by, undoes, upload_error, upload_ticket, write}
use Rattle.mg_gridfs.specs.declared.polls.Step2.{Step2}
use Rattle.mg_gridfs.specs.declared.polls.Step2.TheVariants as end
use Rattle.mg_gridfs.specs.declared.polls.WritePoll.{WritePoll}
use Rattle.mg_gridfs.specs.declared.polls.WritePoll.TheVariants as wrote
use Rattle.mg_gridfs.specs.UploadView.{back_phase, doing_of, phase_of}
use Rattle.mg_gridfs.specs.declared.stream.State.{State}
use Rattle.mg_gridfs.specs.declared.stream.State.TheVariants as state
use Rattle.mg_gridfs.proofs.Polled.{landing_aborts, landing_closes, landing_sound, sound_doing}
use Rattle.mg_gridfs.proofs.Stepping.{EndsAs, FailsAs, IsBack, keeps_beside, keeps_failed, keeps_plain, steps_end}

-- ---- endings

beside_none : (o : Ending) → ending_beside o None ≡ o
beside_none pending = refl
beside_none finished = refl
beside_none (failed e) = refl

pub keeps_none : (m m' : Moment) (t t' : Option ℕ) (o : Ending) → LinkKeeps m m' t t' (ending_beside o None) → LinkKeeps m m' t t' o
keeps_none m m' t t' o k = subst (λ (x : Ending). LinkKeeps m m' t t' x) (beside_none o) k

closed_not_io : (stream_closed).kind ≡ kind.Io → ⊥
closed_not_io io = let bad : kind.GridFs grid.UploadStreamClosed ≡ kind.Io = io in cc

-- a call that is taken no more changes nothing
keeps_closed : (m : Moment) (u u' : ClientUpload) (known : Option Error) → IsOut m.awaited (upload_ticket u) → u' ≡ u → LinkKeeps m m (upload_ticket u) (upload_ticket u') (ending_beside (failed stream_closed) known)
keeps_closed m u u' known out same =
    keeps_to m m (upload_ticket u) (upload_ticket u) (upload_ticket u') (ending_beside (failed stream_closed) known) (ap upload_ticket (sym same))
    (keeps_failed m m (upload_ticket u) (upload_ticket u) known stream_closed closed_not_io (keeps_same m (upload_ticket u) finished out refl tt tt))

pub keeps_refused : (m : Moment) (u u' : ClientUpload) (r : WritePoll) (known : Option Error) → IsOut m.awaited (upload_ticket u) → u' ≡ u → r ≡ wrote.Failed stream_closed → LinkKeeps m m (upload_ticket u) (upload_ticket u') (ending_beside (write_ending r) known)
keeps_refused m u u' r known out same answer = subst (λ (x : WritePoll). LinkKeeps m m (upload_ticket u) (upload_ticket u') (ending_beside (write_ending x) known)) (sym answer) (keeps_closed m u u' known out same)

pub keeps_not_ended : (m : Moment) (u u' : ClientUpload) (r : Step2) (known : Option Error) → IsOut m.awaited (upload_ticket u) → u' ≡ u → r ≡ end.Failed stream_closed → LinkKeeps m m (upload_ticket u) (upload_ticket u') (ending_beside (end_ending r) known)
keeps_not_ended m u u' r known out same answer = subst (λ (x : Step2). LinkKeeps m m (upload_ticket u) (upload_ticket u') (ending_beside (end_ending x) known)) (sym answer) (keeps_closed m u u' known out same)

-- ---- a write

pub bounds_bytes : (bytes : List ℕ) (u : ClientUpload) → HasBounds u → HasBounds (with_bytes bytes u)
bounds_bytes bytes u b = record { size = b.size; few = b.few; unchecked = b.unchecked }

pub first_ticket : (t : Bool) → phase_ticket (if t then fills else begins) ≡ None
first_ticket true = refl
first_ticket false = refl

pub first_error : (t : Bool) → error_behind (if t then fills else begins) ≡ None
first_error true = refl
first_error false = refl

-- nothing was sent, and no ticket is held
pub keeps_idle : (m : Moment) (t : Option ℕ) → t ≡ None → LinkKeeps m m None t finished
keeps_idle m t none = keeps_to m m None None t finished (sym none) (keeps_same m None finished (λ n e. cc) refl tt tt)

pub keeps_not_taken : (m : Moment) (t : Option ℕ) (e : Error) → e ≡ plain kind.OutOfMemory → t ≡ None → LinkKeeps m m None t (failed e)
keeps_not_taken m t e room none = failing m m None t e (no_room e room) (keeps_idle m t none)

-- ---- on the way back

landing_ticket : (p : Phase) (e : Option Error) → phase_ticket (landing_of p e) ≡ phase_ticket p
landing_ticket begins e = refl
landing_ticket (checks c) e = refl
landing_ticket fills e = refl
landing_ticket (inserts s count) e = refl
landing_ticket (rests moment) e = refl
landing_ticket (lasts s ending) e = refl
landing_ticket (ends ending) e = refl
landing_ticket (records s ending) e = refl
landing_ticket (lands flight other) e = refl
landing_ticket (undoes other) e = refl
landing_ticket (removes s other) e = refl

landing_back : (p : Phase) (e : Option Error) → IsBack e (landing_of p e)
landing_back begins e = refl
landing_back (checks c) e = refl
landing_back fills e = refl
landing_back (inserts s count) e = refl
landing_back (rests moment) e = refl
landing_back (lasts s ending) e = refl
landing_back (ends ending) e = refl
landing_back (records s ending) e = refl
landing_back (lands flight other) e = refl
landing_back (undoes other) e = refl
landing_back (removes s other) e = refl

pub abort_back : (p : Phase) → IsOfCall abort p → IsBack None p
abort_back begins of_call = absurd of_call
abort_back (checks c) of_call = absurd of_call
abort_back fills of_call = absurd of_call
abort_back (inserts s count) of_call = absurd of_call
abort_back (rests moment) of_call = absurd of_call
abort_back (lasts s ending) of_call = absurd of_call
abort_back (ends ending) of_call = absurd of_call
abort_back (records s ending) of_call = absurd of_call
abort_back (lands flight None) of_call = refl
abort_back (lands flight (Some e)) of_call = absurd of_call
abort_back (undoes None) of_call = refl
abort_back (undoes (Some e)) of_call = absurd of_call
abort_back (removes s None) of_call = refl
abort_back (removes s (Some e)) of_call = absurd of_call

-- ---- a close and an abort

some_same : (p q : Phase) → Some p ≡ Some q → p ≡ q
some_same p q is = cc

end_fails : (known : Option Error) (s : Stepped) → EndsAs known s → FailsAs known (end_ending (ended_by s))
end_fails known (goes p) h = tt
end_fails known (waits p) h = tt
end_fails known done h = tt
end_fails known (steps.failed e) h = h

in_progress_not_io : (write_in_progress).kind ≡ kind.Io → ⊥
in_progress_not_io io = let bad : kind.GridFs grid.WriteInProgress ≡ kind.Io = io in cc

-- it fails by no fault of the link behind an error that is none
never_io : (o : Ending) → FailsAs (Some write_in_progress) o → FailsAs None o
never_io pending h = tt
never_io finished h = tt
never_io (failed e) h = λ io. in_progress_not_io (h io)

-- with what a call of an upload goes on
pub record GoesOn (u : ClientUpload) (call : uploads.Call) (p : Phase) : Type 0 where
  pub sound : IsSoundPhase (at_work u) p
  pub of_call : IsOfCall call p
  pub ticket : phase_ticket p ≡ upload_ticket u

module _ (u : ClientUpload) (between : IsBetween u) where
  by_doing : (d : Doing) → u.doing ≡ d → SoundBy u d
  by_doing d is = subst (SoundBy u) is between.sound.by

  rests_doing : (d : Doing) → u.doing ≡ d → RestsBy d
  rests_doing d is = subst RestsBy is between.rests_so

  close_on : (moment : ℤ) (d : Doing) (p : Phase) → u.doing ≡ d → close_phase moment d ≡ Some p → GoesOn u close p
  close_on moment idle p is phase = subst (GoesOn u close) (some_same (rests moment) p phase) (record { sound = by_doing idle is; of_call = tt; ticket = ap ticket_by (sym is) })
  close_on moment (busy (write piece) q) p is phase =
      subst (GoesOn u close) (some_same (landing_of q (Some write_in_progress)) p phase) (record {
        sound = landing_sound (at_work u) q (Some write_in_progress) (sound_doing u idle q (by_doing (busy (write piece) q) is));
        of_call = landing_closes q write_in_progress;
        ticket = landing_ticket q (Some write_in_progress) ∙ ap ticket_by (sym is);
      })
  close_on moment (busy close q) p is phase = subst (GoesOn u close) (some_same q p phase) (record { sound = sound_doing u idle q (by_doing (busy close q) is); of_call = (rests_doing (busy close q) is).1; ticket = ap ticket_by (sym is) })
  close_on moment (busy abort q) p is phase = absurd (let bad : None ≡ Some p = phase in cc)
  close_on moment closed p is phase = absurd (let bad : None ≡ Some p = phase in cc)

  abort_on : (d : Doing) (p : Phase) → u.doing ≡ d → abort_phase d ≡ Some p → GoesOn u abort p
  abort_on idle p is phase = subst (GoesOn u abort) (some_same (undoes None) p phase) (record { sound = tt; of_call = tt; ticket = ap ticket_by (sym is) })
  abort_on (busy (write piece) q) p is phase =
      subst (GoesOn u abort) (some_same (landing_of q None) p phase) (record {
        sound = landing_sound (at_work u) q None (sound_doing u idle q (by_doing (busy (write piece) q) is));
        of_call = landing_aborts q;
        ticket = landing_ticket q None ∙ ap ticket_by (sym is);
      })
  abort_on (busy close q) p is phase =
      subst (GoesOn u abort) (some_same (landing_of q None) p phase) (record {
        sound = landing_sound (at_work u) q None (sound_doing u idle q (by_doing (busy close q) is));
        of_call = landing_aborts q;
        ticket = landing_ticket q None ∙ ap ticket_by (sym is);
      })
  abort_on (busy abort q) p is phase = subst (GoesOn u abort) (some_same q p phase) (record { sound = sound_doing u idle q (by_doing (busy abort q) is); of_call = (rests_doing (busy abort q) is).1; ticket = ap ticket_by (sym is) })
  abort_on closed p is phase = absurd (let bad : None ≡ Some p = phase in cc)

  pub close_goes : (moment : ℤ) (p : Phase) → close_phase moment u.doing ≡ Some p → GoesOn u close p
  close_goes moment p phase = close_on moment u.doing p refl phase

  pub abort_goes : (p : Phase) → abort_phase u.doing ≡ Some p → GoesOn u abort p
  abort_goes p phase = abort_on u.doing p refl phase

-- ---- what a close does

module _ (old new : Awaited) (log log' : LogTold) (wire : ℤ) (ids : ℕ → List ℕ) (drawn : ℕ) (moment : ℤ) (u u' : ClientUpload) (s : Stepped) (r : Step2) (answer : r ≡ ended_by s) where
  closes_on : (d : Doing) (p : Phase) → u.doing ≡ d → close_phase moment d ≡ Some p → Drives old new log log' wire ids drawn close u u' p s → Closes old new log log' wire ids drawn moment u u' r
  closes_on idle p is phase does = calls.starts is s (subst (λ (x : Phase). Drives old new log log' wire ids drawn close u u' x s) (sym (some_same (rests moment) p phase)) does) answer
  closes_on (busy (write piece) q) p is phase does = calls.gives_up piece q is s (subst (λ (x : Phase). Drives old new log log' wire ids drawn close u u' x s) (sym (some_same (landing_of q (Some write_in_progress)) p phase)) does) answer
  closes_on (busy close q) p is phase does = calls.goes_on q is s (subst (λ (x : Phase). Drives old new log log' wire ids drawn close u u' x s) (sym (some_same q p phase)) does) answer
  closes_on (busy abort q) p is phase does = absurd (let bad : None ≡ Some p = phase in cc)
  closes_on closed p is phase does = absurd (let bad : None ≡ Some p = phase in cc)

  pub closes_by : (p : Phase) → close_phase moment u.doing ≡ Some p → Drives old new log log' wire ids drawn close u u' p s → Closes old new log log' wire ids drawn moment u u' r
  closes_by p phase does = closes_on u.doing p refl phase does

  -- the error behind a write that is given up is none of the link
  closing_keeps : (m m' : Moment) (t t' : Option ℕ) (d : Doing) (p : Phase) → close_phase moment d ≡ Some p → Drives old new log log' wire ids drawn close u u' p s → LinkKeeps m m' t t' (ending_beside (end_ending r) (error_behind p)) → LinkKeeps m m' t t' (ending_beside (end_ending r) (error_by d))
  closing_keeps m m' t t' idle p phase does k = subst (λ (x : Phase). LinkKeeps m m' t t' (ending_beside (end_ending r) (error_behind x))) (sym (some_same (rests moment) p phase)) k
  closing_keeps m m' t t' (busy (write piece) q) p phase does k =
      let known : Option Error = Some write_in_progress in
      let back : IsBack known p = subst (IsBack known) (some_same (landing_of q known) p phase) (landing_back q known) in
      let fails = end_fails known s (steps_end does.steps known old new log log' wire ids drawn (at_work u) does.left p s back does.does) in
      let other : FailsAs None (end_ending r) = subst (λ (x : Step2). FailsAs None (end_ending x)) (sym answer) (never_io (end_ending (ended_by s)) fails) in
      keeps_beside m m' t t' (end_ending r) (error_behind q) (keeps_plain m m' t t' (end_ending r) (error_behind p) other k)
  closing_keeps m m' t t' (busy close q) p phase does k = subst (λ (x : Phase). LinkKeeps m m' t t' (ending_beside (end_ending r) (error_behind x))) (sym (some_same q p phase)) k
  closing_keeps m m' t t' (busy abort q) p phase does k = absurd (let bad : None ≡ Some p = phase in cc)
  closing_keeps m m' t t' closed p phase does k = absurd (let bad : None ≡ Some p = phase in cc)

  pub keeps_closing : (m m' : Moment) (t t' : Option ℕ) (p : Phase) → close_phase moment u.doing ≡ Some p → Drives old new log log' wire ids drawn close u u' p s → LinkKeeps m m' t t' (ending_beside (end_ending r) (error_behind p)) → LinkKeeps m m' t t' (ending_beside (end_ending r) (upload_error u))
  keeps_closing m m' t t' p phase does k = closing_keeps m m' t t' u.doing p phase does k

-- a close that is not taken
no_close_at : (moment : ℤ) (d : Doing) → close_phase moment d ≡ None → calls.TakesNoClose d
no_close_at moment idle none = absurd (let bad : Some (rests moment) ≡ None = none in cc)
no_close_at moment (busy (write piece) q) none = absurd (let bad : Some (landing_of q (Some write_in_progress)) ≡ None = none in cc)
no_close_at moment (busy close q) none = absurd (let bad : Some q ≡ None = none in cc)
no_close_at moment (busy abort q) none = tt
no_close_at moment closed none = tt

pub no_close : (moment : ℤ) (u : ClientUpload) → close_phase moment u.doing ≡ None → calls.TakesNoClose u.doing
no_close moment u none = no_close_at moment u.doing none

-- ---- what an abort does

module _ (old new : Awaited) (log log' : LogTold) (wire : ℤ) (u u' : ClientUpload) (s : Stepped) (r : Step2) (answer : r ≡ ended_by s) where
  aborts_on : (d : Doing) (p : Phase) → u.doing ≡ d → abort_phase d ≡ Some p → Abandons old new log log' wire u u' p s → Aborts old new log log' wire u u' r
  aborts_on idle p is phase does = calls.starts is s (subst (λ (x : Phase). Abandons old new log log' wire u u' x s) (sym (some_same (undoes None) p phase)) does) answer
  aborts_on (busy (write piece) q) p is phase does = calls.gives_up_write piece q is s (subst (λ (x : Phase). Abandons old new log log' wire u u' x s) (sym (some_same (landing_of q None) p phase)) does) answer
  aborts_on (busy close q) p is phase does = calls.gives_up_close q is s (subst (λ (x : Phase). Abandons old new log log' wire u u' x s) (sym (some_same (landing_of q None) p phase)) does) answer
  aborts_on (busy abort q) p is phase does = calls.goes_on q is s (subst (λ (x : Phase). Abandons old new log log' wire u u' x s) (sym (some_same q p phase)) does) answer
  aborts_on closed p is phase does = absurd (let bad : None ≡ Some p = phase in cc)

  pub aborts_by : (p : Phase) → abort_phase u.doing ≡ Some p → Abandons old new log log' wire u u' p s → Aborts old new log log' wire u u' r
  aborts_by p phase does = aborts_on u.doing p refl phase does

no_abort_at : (d : Doing) → abort_phase d ≡ None → d ≡ closed
no_abort_at idle none = absurd (let bad : Some (undoes None) ≡ None = none in cc)
no_abort_at (busy (write piece) q) none = absurd (let bad : Some (landing_of q None) ≡ None = none in cc)
no_abort_at (busy close q) none = absurd (let bad : Some (landing_of q None) ≡ None = none in cc)
no_abort_at (busy abort q) none = absurd (let bad : Some q ≡ None = none in cc)
no_abort_at closed none = refl

pub no_abort : (u : ClientUpload) → abort_phase u.doing ≡ None → u.doing ≡ closed
no_abort u none = no_abort_at u.doing none

pub state_closed : (s : State) → doing_of s ≡ closed → s ≡ state.Closed
state_closed state.Idle is = absurd (let bad : idle ≡ closed = is in cc)
state_closed (state.Writing piece s) is = absurd (let bad : busy (write piece) (phase_of s) ≡ closed = is in cc)
state_closed (state.Closing s) is = absurd (let bad : busy close (phase_of s) ≡ closed = is in cc)
state_closed (state.Aborting b) is = absurd (let bad : busy abort (back_phase b) ≡ closed = is in cc)
state_closed state.Closed is = refl
