-- What the steps of an upload keep of its link, and how they make a poll.
use Rattle.std.proofs.Common.{◌≡◌, ◌≢◌, ◌<◌, ◌≤◌, ◌+◌, ℕ, zero, suc, ℤ, Bool, true, false, List, [], ◌∷◌, length, nat_le, nat_lt, Option, Some, None, OnErr, Result, Ok, Err, refl, sym, ap, ◌∙◌, subst, inl, inr, arith}
use Rattle.std.proofs.lemmas.Bool.Decides.{nat_tests}
use Rattle.std.specs.Prelude.{if◌then◌else◌}
use Rattle.mg_link.specs.Causes.{Rose}
use Rattle.mg_link.specs.Exec.{Sending, ticket_at}
use Rattle.mg_link.specs.Link.{Awaited, LogTold}
use Rattle.mg_link.specs.Moment.{Ending, LinkKeeps, Moment, failed, finished, pending, step_ending}
use Rattle.mg_link.specs.declared.action.Step.{Step}
use Rattle.mg_link.specs.declared.action.Step.TheVariants as came
use Rattle.mg_link.specs.declared.error.Error.{Error}
use Rattle.mg_link.specs.declared.error.ErrorKind.{ErrorKind}
use Rattle.mg_link.specs.declared.error.ErrorKind.TheVariants as kind
use Rattle.mg_link.proofs.Moments.{keeps_on, keeps_same}
use Rattle.mg_cursor.proofs.Hearing.{failing, keeps_to, no_room}
use Rattle.mg_chunks.specs.Buffers.{HoldsCut, size_of}
use Rattle.mg_chunks.specs.declared.closing.Closing.TheVariants as closing
use Rattle.mg_gridfs.specs.Calls.{ending_beside}
use Rattle.mg_gridfs.specs.Checks.{finds}
use Rattle.mg_gridfs.specs.Commands.{any_lines}
use Rattle.mg_gridfs.specs.Steps as steps
use Rattle.mg_gridfs.specs.Steps.{BeginsCheck, DoesStep, DoesSteps, FailsToUndo, HearsRemoval, IsAbortOf, IsLastStep, LandedAs, Removes, Stepped, begins_check, checks_on, done, ends_next, fills_next, goes, holds_both, ids_behind, inserts_last, inserts_on, is_short, lands_on, no_memory, records_on, removes_on, rests_next, undoes_next, undone_by, waits}
use Rattle.mg_gridfs.specs.Turns.{BacksOn, BeginsOn, TurnsOn, back_ticket, step_ticket, turn_ending, turn_ticket}
use Rattle.mg_gridfs.specs.Uploads.{ClientUpload, Flight, Phase, begins, checks, ends, error_behind, fills, inserts, lands, lasts, phase_ticket, records, removes, rests, undoes}
use Rattle.mg_gridfs.specs.UploadView.{HasBuffer, back_phase, back_stopped, phase_of, stopped_by}
use Rattle.mg_gridfs.specs.declared.aim.Aim.{Aim}
use Rattle.mg_gridfs.specs.declared.stage.Back.{Back}
use Rattle.mg_gridfs.specs.declared.stage.Stage.{Stage}
use Rattle.mg_gridfs.specs.declared.stage.Turn.{Turn}
use Rattle.mg_gridfs.specs.declared.stage.Turn.TheVariants as turn
use Rattle.mg_gridfs.specs.declared.steps.Upload.{Upload}
use Rattle.mg_gridfs.proofs.Unsent.{unsent_not_io}

-- ---- a link over one poll

-- the error that was known before is one of the link
abbrev pub IsIo : Option Error → Type 0
IsIo None = ⊥
IsIo (Some e) = e.kind ≡ kind.Io

-- it failed by the link only where that was known before
abbrev pub FailsAs : Option Error → Ending → Type 0
FailsAs known pending = Unit {0}
FailsAs known finished = Unit {0}
FailsAs known (failed d) = d.kind ≡ kind.Io → IsIo known

pub keeps_end : (m m' : Moment) (t t' : Option ℕ) (e : Error) → LinkKeeps m m' t t' (failed e) → LinkKeeps m m' t t' finished
keeps_end m m' t t' e k = record { tickets = k.tickets; pended = k.pended; lost = tt; prompt = λ is. tt; later = k.later }

-- more is known than is asked for
pub keeps_beside : (m m' : Moment) (t t' : Option ℕ) (outcome : Ending) (known : Option Error) → LinkKeeps m m' t t' outcome → LinkKeeps m m' t t' (ending_beside outcome known)
keeps_beside m m' t t' pending known k = k
keeps_beside m m' t t' finished known k = k
keeps_beside m m' t t' (failed e) None k = k
keeps_beside m m' t t' (failed e) (Some x) k = keeps_end m m' t t' e k

-- the failure was none of the link
pub keeps_plain : (m m' : Moment) (t t' : Option ℕ) (outcome : Ending) (known : Option Error) → FailsAs None outcome → LinkKeeps m m' t t' (ending_beside outcome known) → LinkKeeps m m' t t' outcome
keeps_plain m m' t t' pending known other k = k
keeps_plain m m' t t' finished known other k = k
keeps_plain m m' t t' (failed e) None other k = k
keeps_plain m m' t t' (failed e) (Some x) other k = failing m m' t t' e other k

-- a failure that the link is not asked for
pub keeps_failed : (m m' : Moment) (t t' : Option ℕ) (known : Option Error) (e : Error) → (e.kind ≡ kind.Io → ⊥) → LinkKeeps m m' t t' finished → LinkKeeps m m' t t' (ending_beside (failed e) known)
keeps_failed m m' t t' None e other k = failing m m' t t' e other k
keeps_failed m m' t t' (Some x) e other k = k

rose_on : (before mid now : ℕ) → Rose before mid → mid ≤ now → Rose before now
rose_on before mid now rose le = omega (arith, rose, le)

-- A failure, and behind it the way back: the link failed only where it was the first error.
pub keeps_undone : (m n o : Moment) (t t' : Option ℕ) (e : Error) (outcome : Ending) → LinkKeeps m n t None (failed e) → FailsAs (Some e) outcome → LinkKeeps n o None t' (ending_beside outcome (Some e)) → LinkKeeps m o t t' outcome
keeps_undone m n o t t' e pending k known back = keeps_on m n o t None t' (failed e) pending k k.pended back
keeps_undone m n o t t' e finished k known back = keeps_on m n o t None t' (failed e) finished k k.pended back
keeps_undone m n o t t' e (failed d) k known back =
    let both = keeps_on m n o t None t' (failed e) finished k k.pended back in
    record {
      tickets = both.tickets;
      pended = both.pended;
      lost = λ io. rose_on m.faults n.faults o.faults (k.lost (known io)) back.later.faults;
      prompt = λ is io. k.prompt is (known io);
      later = both.later;
    }

-- ---- steps as endings

abbrev stepped_ticket : Stepped → Option ℕ
stepped_ticket (goes p) = phase_ticket p
stepped_ticket (waits p) = phase_ticket p
stepped_ticket done = None
stepped_ticket (steps.failed e) = None

abbrev stepped_ending : Stepped → Ending
stepped_ending (goes p) = finished
stepped_ending (waits p) = pending
stepped_ending done = finished
stepped_ending (steps.failed e) = failed e

stop_ticket : (x : Step Stage (Unit {0})) → step_ticket x ≡ stepped_ticket (stopped_by x)
stop_ticket (came.Pending s) = refl
stop_ticket (came.Done t) = refl
stop_ticket (came.Failed e) = refl

stop_ending : (x : Step Stage (Unit {0})) → step_ending x ≡ stepped_ending (stopped_by x)
stop_ending (came.Pending s) = refl
stop_ending (came.Done t) = refl
stop_ending (came.Failed e) = refl

back_ticket_is : (y : Step Back (Unit {0})) → back_ticket y ≡ stepped_ticket (back_stopped y)
back_ticket_is (came.Pending b) = refl
back_ticket_is (came.Done t) = refl
back_ticket_is (came.Failed e) = refl

back_ending_is : (y : Step Back (Unit {0})) → step_ending y ≡ stepped_ending (back_stopped y)
back_ending_is (came.Pending b) = refl
back_ending_is (came.Done t) = refl
back_ending_is (came.Failed e) = refl

-- the way back as the stage of a call
pub keeps_stopped : (m m' : Moment) (t : Option ℕ) (known : Option Error) (x : Step Stage (Unit {0})) (y : Step Back (Unit {0})) → stopped_by x ≡ back_stopped y → LinkKeeps m m' t (back_ticket y) (ending_beside (step_ending y) known) → LinkKeeps m m' t (step_ticket x) (ending_beside (step_ending x) known)
keeps_stopped m m' t known x y is k =
    let tickets : back_ticket y ≡ step_ticket x = back_ticket_is y ∙ ap stepped_ticket (sym is) ∙ sym (stop_ticket x) in
    let endings : step_ending y ≡ step_ending x = back_ending_is y ∙ ap stepped_ending (sym is) ∙ sym (stop_ending x) in
    subst (λ (o : Ending). LinkKeeps m m' t (step_ticket x) (ending_beside o known)) endings (keeps_to m m' t (back_ticket y) (step_ticket x) (ending_beside (step_ending y) known) tickets k)

-- the chunks are removed
pub keeps_removed : (m m' : Moment) (t : Option ℕ) (known : Option Error) (y : Step Back (Unit {0})) → back_stopped y ≡ undone_by known → LinkKeeps m m' t None finished → LinkKeeps m m' t (back_ticket y) (ending_beside (step_ending y) known)
keeps_removed m m' t None (came.Pending b) is k = absurd (let bad : waits (back_phase b) ≡ done = is in cc)
keeps_removed m m' t None (came.Done x) is k = k
keeps_removed m m' t None (came.Failed e) is k = absurd (let bad : steps.failed e ≡ done = is in cc)
keeps_removed m m' t (Some d) (came.Pending b) is k = absurd (let bad : waits (back_phase b) ≡ steps.failed d = is in cc)
keeps_removed m m' t (Some d) (came.Done x) is k = absurd (let bad : done ≡ steps.failed d = is in cc)
keeps_removed m m' t (Some d) (came.Failed e) is k = k

removed_last : (known : Option Error) → IsLastStep (undone_by known)
removed_last None = tt
removed_last (Some e) = tt

pub undone_last : (known : Option Error) (y : Step Back (Unit {0})) → back_stopped y ≡ undone_by known → IsLastStep (back_stopped y)
undone_last known y is = subst IsLastStep (sym is) (removed_last known)

-- ---- how the way back ends

-- it is on the way back, with this error
abbrev pub IsBack : Option Error → Phase → Type 0
IsBack known begins = ⊥
IsBack known (checks check) = ⊥
IsBack known fills = ⊥
IsBack known (inserts sending count) = ⊥
IsBack known (rests moment) = ⊥
IsBack known (lasts sending ending) = ⊥
IsBack known (ends ending) = ⊥
IsBack known (records sending ending) = ⊥
IsBack known (lands flight error) = error ≡ known
IsBack known (undoes error) = error ≡ known
IsBack known (removes sending error) = error ≡ known

back_error : (known : Option Error) (p : Phase) → IsBack known p → error_behind p ≡ known
back_error known begins back = absurd back
back_error known (checks check) back = absurd back
back_error known fills back = absurd back
back_error known (inserts sending count) back = absurd back
back_error known (rests moment) back = absurd back
back_error known (lasts sending ending) back = absurd back
back_error known (ends ending) back = absurd back
back_error known (records sending ending) back = absurd back
back_error known (lands flight error) back = back
back_error known (undoes error) back = back
back_error known (removes sending error) back = back

-- it goes on with the same error, and ends with it or by no fault of the link
abbrev pub EndsAs : Option Error → Stepped → Type 0
EndsAs known (goes p) = IsBack known p
EndsAs known (waits p) = Unit {0}
EndsAs known done = Unit {0}
EndsAs known (steps.failed d) = d.kind ≡ kind.Io → IsIo known

-- what is answered where the chunks were not removed is no fault of the link
pub undo_not_io : (original : Option Error) (d e : Error) → FailsToUndo original d e → e.kind ≡ kind.Io → ⊥
undo_not_io original d e (no_memory room is) io = let bad : kind.Io ≡ kind.OutOfMemory = sym io ∙ ap (λ (x : Error). x.kind) is ∙ room in cc
undo_not_io original d e (holds_both other (inl room)) io = no_room e room io
undo_not_io original d e (holds_both other (inr both)) io = subst (λ (k : ErrorKind). IsAbortOf original d k) io both.holds

undone_ends : (known : Option Error) → EndsAs known (undone_by known)
undone_ends None = tt
undone_ends (Some e) = λ io. io

module _ (known : Option Error) (u u' : ClientUpload) (r : Stepped) where
  failed_ends : (d e : Error) → FailsToUndo known d e → r ≡ steps.failed e → EndsAs known r
  failed_ends d e undo answer = subst (EndsAs known) (sym answer) (λ io. absurd (undo_not_io known d e undo io))

  landed_ends : (left : Option Flight) → LandedAs known left u u' r → EndsAs known r
  landed_ends None h = subst (EndsAs known) (sym h.1) refl
  landed_ends (Some flight) h = subst (EndsAs known) (sym h.1) tt

  removes_ends : Removes known u u' r → EndsAs known r
  removes_ends (steps.built s request same answer) = subst (EndsAs known) (sym answer) refl
  removes_ends (steps.not_built d e fails undo same answer) = failed_ends d e undo answer

  removal_ends : (c : Step Sending (List ℕ)) → HearsRemoval known c u u' r → EndsAs known r
  removal_ends (came.Pending s) h = subst (EndsAs known) (sym h.1) tt
  removal_ends (came.Done reply) (steps.removed n wrote_so same answer) = subst (EndsAs known) (sym answer) (undone_ends known)
  removal_ends (came.Done reply) (steps.not_removed d e fails undo same answer) = failed_ends d e undo answer
  removal_ends (came.Failed d) h = failed_ends d h.0 h.1 h.3

  module _ (p : Phase) (back : IsBack known p) where
    back_at : (q : Phase) → p ≡ q → IsBack known q
    back_at q is = subst (IsBack known) is back

    step_ends : (old new : Awaited) (log log' : LogTold) (wire : ℤ) (ids : ℕ → List ℕ) (drawn : ℕ) → DoesStep old new log log' wire ids drawn u u' p r → EndsAs known r
    step_ends old new log log' wire ids drawn (begins_check is quiet n does) = absurd (back_at begins is)
    step_ends old new log log' wire ids drawn (checks_on c is n t checks_so leads) = absurd (back_at (checks c) is)
    step_ends old new log log' wire ids drawn (is_short is quiet n short same answer) = absurd (back_at fills is)
    step_ends old new log log' wire ids drawn (fills_next is quiet full does) = absurd (back_at fills is)
    step_ends old new log log' wire ids drawn (inserts_on s count is n c runs hears) = absurd (back_at (inserts s count) is)
    step_ends old new log log' wire ids drawn (rests_next moment is quiet does) = absurd (back_at (rests moment) is)
    step_ends old new log log' wire ids drawn (inserts_last s ending is n c runs hears) = absurd (back_at (lasts s ending) is)
    step_ends old new log log' wire ids drawn (ends_next ending is quiet n does) = absurd (back_at (ends ending) is)
    step_ends old new log log' wire ids drawn (records_on s ending is n c runs hears) = absurd (back_at (records s ending) is)
    step_ends old new log log' wire ids drawn (lands_on flight error is n left landing landed) = landed_ends left (subst (λ (x : Option Error). LandedAs x left u u' r) (back_at (lands flight error) is) landed)
    step_ends old new log log' wire ids drawn (undoes_next error is quiet n does) = removes_ends (subst (λ (x : Option Error). Removes x u u' r) (back_at (undoes error) is) does)
    step_ends old new log log' wire ids drawn (removes_on s error is n c runs hears) = removal_ends c (subst (λ (x : Option Error). HearsRemoval x c u u' r) (back_at (removes s error) is) hears)

pub steps_end : (n : ℕ) (known : Option Error) (old new : Awaited) (log log' : LogTold) (wire : ℤ) (ids : ℕ → List ℕ) (drawn : ℕ) (u u' : ClientUpload) (p : Phase) (r : Stepped) → IsBack known p → DoesSteps n old new log log' wire ids drawn u u' p r → EndsAs known r
unfolding DoesSteps
steps_end zero known old new log log' wire ids drawn u u' p r back d = step_ends known u u' r p back old new log log' wire ids drawn d.0
steps_end (suc n) known old new log log' wire ids drawn u u' p r back d =
    steps_end n known d.0 new d.1 log' wire (ids_behind d.2 ids) d.3 d.4 u' d.5 r (step_ends known u d.4 (goes d.5) p back old d.0 log d.1 wire ids d.2 d.6) d.8

-- the same of what a poll answered
pub turn_ends : (known : Option Error) (old new : Awaited) (log log' : LogTold) (wire : ℤ) (ids : ℕ → List ℕ) (drawn : ℕ) (u u' : ClientUpload) (p : Phase) (r : Turn) → IsBack known p → TurnsOn old new log log' wire ids drawn u u' p r → FailsAs known (turn_ending r)
turn_ends known old new log log' wire ids drawn u u' p (turn.Goes s) back h = tt
turn_ends known old new log log' wire ids drawn u u' p (turn.Stops (came.Pending s)) back h = tt
turn_ends known old new log log' wire ids drawn u u' p (turn.Stops (came.Done t)) back h = tt
turn_ends known old new log log' wire ids drawn u u' p (turn.Stops (came.Failed e)) back h = steps_end h.0 known old new log log' wire ids drawn u u' p (steps.failed e) back h.1

no_ids : ℕ → List ℕ
no_ids n = []

-- a failure, and the way back behind it
pub fail_ends : (e : Error) (old new : Awaited) (log log' : LogTold) (wire : ℤ) (u : ClientUpload) (r : Turn) → ((given : ℕ → List ℕ) → TurnsOn old new log log' wire given 0 u u (undoes (Some e)) r) → FailsAs (Some e) (turn_ending r)
fail_ends e old new log log' wire u r fails = turn_ends (Some e) old new log log' wire no_ids 0 u u (undoes (Some e)) r refl (fails no_ids)

pub back_ends : (known : Option Error) (old new : Awaited) (log log' : LogTold) (wire : ℤ) (u : ClientUpload) (p : Phase) (r : Step Back (Unit {0})) → IsBack known p → BacksOn old new log log' wire u p r → FailsAs known (step_ending r)
back_ends known old new log log' wire u p (came.Pending s) back h = tt
back_ends known old new log log' wire u p (came.Done t) back h = tt
back_ends known old new log log' wire u p (came.Failed e) back h = let does = h no_ids in steps_end does.0 known old new log log' wire no_ids 0 u u p (steps.failed e) back does.1

-- ---- steps of a poll

pub step_last : (old new : Awaited) (log log' : LogTold) (wire : ℤ) (ids : ℕ → List ℕ) (drawn : ℕ) (u u' : ClientUpload) (p : Phase) (r : Stepped) → DoesStep old new log log' wire ids drawn u u' p r → IsLastStep r → (n : ℕ) × DoesSteps n old new log log' wire ids drawn u u' p r
unfolding DoesSteps
step_last old new log log' wire ids drawn u u' p r does last = (0, (does, last))

-- a step, and others behind it that draw no id
pub step_then : (old mid new : Awaited) (log log_mid log' : LogTold) (wire wire' : ℤ) (ids : ℕ → List ℕ) (drawn : ℕ) (u v u' : ClientUpload) (p q : Phase) (r : Stepped) → wire' ≡ wire → DoesStep old mid log log_mid wire ids drawn u v p (goes q) → ((n : ℕ) × DoesSteps n mid new log_mid log' wire' (ids_behind drawn ids) 0 v u' q r)
    → (n : ℕ) × DoesSteps n old new log log' wire ids drawn u u' p r
unfolding DoesSteps
step_then old mid new log log_mid log' wire wire' ids drawn u v u' p q r same does more =
    let sum : drawn ≡ drawn + 0 = omega arith in
    (suc more.0, (mid, log_mid, drawn, 0, v, q, does, sum, subst (λ (w : ℤ). DoesSteps more.0 mid new log_mid log' w (ids_behind drawn ids) 0 v u' q r) same more.1))

-- a step that failed, and the way back behind it
pub turn_then : (old mid new : Awaited) (log log_mid log' : LogTold) (wire wire' : ℤ) (ids : ℕ → List ℕ) (drawn : ℕ) (u v : ClientUpload) (p : Phase) (e : Error) (r : Turn) → wire' ≡ wire → DoesStep old mid log log_mid wire ids drawn u v p (goes (undoes (Some e)))
    → ((given : ℕ → List ℕ) → TurnsOn mid new log_mid log' wire' given 0 v v (undoes (Some e)) r) → TurnsOn old new log log' wire ids drawn u v p r
turn_then old mid new log log_mid log' wire wire' ids drawn u v p e (turn.Goes s) same does more =
    let on = more no_ids in
    let is = back_error (Some e) (phase_of s) (step_ends (Some e) v v (goes (phase_of s)) (undoes (Some e)) refl mid new log_mid log' wire' no_ids 0 on.0) in
    absurd (let bad : Some e ≡ None = sym is ∙ on.1 in cc)
turn_then old mid new log log_mid log' wire wire' ids drawn u v p e (turn.Stops x) same does more =
    step_then old mid new log log_mid log' wire wire' ids drawn u v v p (undoes (Some e)) (stopped_by x) same does (more (ids_behind drawn ids))

-- ---- the check begins

stop_last : (x : Step Stage (Unit {0})) → IsLastStep (stopped_by x)
stop_last (came.Pending s) = tt
stop_last (came.Done t) = tt
stop_last (came.Failed e) = tt

pub begun_turns : (old : Awaited) (log : LogTold) (wire : ℤ) (ids : ℕ → List ℕ) (u : ClientUpload) (r : Turn) → BeginsOn u r → TurnsOn old old log log wire ids 0 u u begins r
begun_turns old log wire ids u (turn.Goes s) h = (begins_check refl (record { rest = λ n. refl; log_same = refl }) refl h.0, h.1)
begun_turns old log wire ids u (turn.Stops x) h = step_last old old log log wire ids 0 u u begins (stopped_by x) (begins_check refl (record { rest = λ n. refl; log_same = refl }) refl h) (stop_last x)

begun_ticket : (u : ClientUpload) (p : Phase) → BeginsCheck u u (goes p) → phase_ticket p ≡ None
begun_ticket u p (steps.built s request same answer) = let is : p ≡ checks (finds s) = cc in ap phase_ticket is ∙ ap ticket_at request.new
begun_ticket u p (steps.not_built e fails same answer) = absurd (let bad : goes p ≡ steps.failed e = answer in cc)

not_begun : (u : ClientUpload) (e : Error) → BeginsCheck u u (steps.failed e) → e.kind ≡ kind.Io → ⊥
not_begun u e (steps.built s request same answer) io = let bad : steps.failed e ≡ goes (checks (finds s)) = answer in cc
not_begun u e (steps.not_built d fails same answer) io =
    let is : e ≡ d = cc in
    unsent_not_io (any_lines u.aim.bucket) d fails (sym (ap (λ (x : Error). x.kind) is) ∙ io)

pub keeps_begun : (m : Moment) (u : ClientUpload) (r : Turn) → BeginsOn u r → LinkKeeps m m None (turn_ticket r) (turn_ending r)
keeps_begun m u (turn.Goes s) h = keeps_to m m None None (phase_ticket (phase_of s)) finished (sym (begun_ticket u (phase_of s) h.0)) (keeps_same m None finished (λ n e. cc) refl tt tt)
keeps_begun m u (turn.Stops (came.Pending s)) (steps.built t request same answer) = absurd (let bad : waits (phase_of s) ≡ goes (checks (finds t)) = answer in cc)
keeps_begun m u (turn.Stops (came.Pending s)) (steps.not_built e fails same answer) = absurd (let bad : waits (phase_of s) ≡ steps.failed e = answer in cc)
keeps_begun m u (turn.Stops (came.Done x)) h = keeps_same m None finished (λ n e. cc) refl tt tt
keeps_begun m u (turn.Stops (came.Failed e)) h = failing m m None None e (not_begun u e h) (keeps_same m None finished (λ n e. cc) refl tt tt)

-- ---- bytes that are left

pub short_by : (n m : ℕ) → nat_le n m ≡ false → m < n
short_by n m is = grind (arith, nat_tests, is)

pub full_by : (n m : ℕ) → nat_le n m ≡ true → n ≤ m
full_by n m is = grind (arith, nat_tests, is)

none_at : (n : ℕ) → nat_lt 0 n ≡ false → n ≤ 0
none_at n is = grind (arith, nat_tests, is)

pub none_by : (bs : List ℕ) → nat_lt 0 (length bs) ≡ false → bs ≡ []
none_by [] is = refl
none_by (b ∷ bs) is = let none = none_at (length (b ∷ bs)) is in absurd (omega (arith, none))

-- the record is stored next only where none are, and a chunk only where some are
pub record_next : (some : Bool) → (if some then closing.LastChunk else closing.Record) ≡ closing.Record → some ≡ false
record_next true is = absurd cc
record_next false is = refl

pub chunk_next : (some : Bool) → (if some then closing.LastChunk else closing.Record) ≡ closing.LastChunk → some ≡ true
chunk_next true is = refl
chunk_next false is = absurd cc

pub some_by : (bs : List ℕ) → nat_lt 0 (length bs) ≡ true → bs ≢ []
some_by bs is none = let bad : true ≡ false = sym is ∙ ap (λ (l : List ℕ). nat_lt 0 (length l)) none in cc

pub on_err : {T E : Type 0} (P : Type 0) (r : Result T E) → P → OnErr r P
on_err P (Ok x) p = tt
on_err P (Err e) p = p

-- ---- the buffer of an upload

pub same_buffer : (u u' : Upload) → u'.buffer ≡ u.buffer → u'.aim ≡ u.aim → HasBuffer u → HasBuffer u'
same_buffer u u' same aim h = record {
  cut = subst HoldsCut (sym same) h.cut;
  sized = ap size_of same ∙ h.sized ∙ ap (λ (a : Aim). a.size) (sym aim);
}
