-- A poll that goes on has fewer steps left.
use Rattle.std.proofs.Common.{◌≡◌, ◌<◌, ◌≤◌, ◌+◌, ◌*◌, ℕ, suc, ℤ, Bool, true, false, List, [], drop, Option, Some, None, sym, ap, ◌∙◌, subst, arith, length-drop}
use Rattle.std.proofs.lemmas.Nat.{mul-le}
use Rattle.mg_link.specs.Exec.{Sending}
use Rattle.mg_link.specs.Link.{Awaited, LogTold}
use Rattle.mg_link.specs.declared.action.Step.{Step}
use Rattle.mg_link.specs.declared.action.Step.TheVariants as came
use Rattle.mg_link.specs.declared.error.Error.{Error}
use Rattle.mg_options.specs.Fields.{Line}
use Rattle.mg_cursor.specs.Documents.{DocumentCursor}
use Rattle.mg_cursor.specs.declared.polls.AdvancePoll.{AdvancePoll}
use Rattle.mg_cursor.specs.declared.polls.AdvancePoll.TheVariants as advance
use Rattle.mg_gridfs.specs.Buckets.{ClientBucket}
use Rattle.mg_gridfs.specs.Checks as check
use Rattle.mg_gridfs.specs.Checks.{Builds, CheckTurned, ChecksOn, ClientCheck, Creates, EndsList, GoesBehind, HearsAdvance, HearsCreation, HearsFind, HearsIndex, HearsListing, IsSoundCheck, Looks, built, by_advance, by_creation, by_find, by_index, by_listing, creates, finds, indexes, lists, not_built, reads}
use Rattle.mg_gridfs.specs.Steps as steps
use Rattle.mg_gridfs.specs.Steps.{BeginsCheck, CheckLeads, DoesStep, Ends, Fills, HearsChunks, HearsLast, HearsRecord, HearsRemoval, LandedAs, Removes, Rests, begins_check, checks_on, done, ends_next, fills_next, goes, inserts_last, inserts_on, is_short, lands_on, records_on, removes_on, rests_next, undoes_next, undone_by, waits}
use Rattle.mg_gridfs.specs.Turns.{TurnFalls, TurnsOn, check_rank, rank}
use Rattle.mg_gridfs.specs.Uploads.{ClientUpload, Ending, Flight, HasBounds, IsSoundPhase, Phase, begins, checks, ends, error_behind, fills, inserts, lands, lasts, records, removes, rests, undoes}
use Rattle.mg_gridfs.specs.UploadView.{phase_of}
use Rattle.mg_gridfs.specs.declared.indexes.Place.{Place}
use Rattle.mg_gridfs.specs.declared.indexes.Place.TheVariants as place
use Rattle.mg_gridfs.specs.declared.stage.Turn.{Turn}
use Rattle.mg_gridfs.specs.declared.stage.Turn.TheVariants as turn

-- ---- checks

-- a check that goes on has fewer steps left
abbrev CheckFalls : ClientCheck → CheckTurned → Type 0
CheckFalls c (check.goes d) = check_rank d < check_rank c
CheckFalls c (check.pends d) = Unit {0}
CheckFalls c check.passes = Unit {0}
CheckFalls c (check.fails e) = Unit {0}

module _ (c : ClientCheck) (t : CheckTurned) where
  no_falls : (d : CheckTurned) → CheckFalls c d → t ≡ d → CheckFalls c t
  no_falls d falls is = subst (CheckFalls c) (sym is) falls

  builds_fall : (again : Bool) (lines : List Line) (next : Sending → ClientCheck) → ((s : Sending) → check_rank (next s) < check_rank c) → Builds again lines next t → CheckFalls c t
  builds_fall again lines next less (built s request is) = no_falls (check.goes (next s)) (less s) is
  builds_fall again lines next less (not_built e fails is) = no_falls (check.fails e) tt is

  behind_falls : (b : ClientBucket) (at : Place) → 1048584 < check_rank c → GoesBehind b at t → CheckFalls c t
  behind_falls b place.Files less builds = builds_fall _ _ (creates place.Chunks) (λ s. less) builds
  behind_falls b place.Chunks less is = no_falls check.passes tt is

module _ (b : ClientBucket) (t : CheckTurned) where
  find_falls : (s : Sending) (p : Step Sending (List ℕ)) → HearsFind b p t → CheckFalls (finds s) t
  find_falls s (came.Pending s') is = no_falls (finds s) t (check.pends (finds s')) tt is
  find_falls s (came.Done reply) (check.some said read more is) = no_falls (finds s) t check.passes tt is
  find_falls s (came.Done reply) (check.none said read empty builds) = builds_fall (finds s) t _ _ (creates place.Files) (λ s'. omega arith) builds
  find_falls s (came.Done reply) (check.broke e fails is) = no_falls (finds s) t (check.fails e) tt is
  find_falls s (came.Failed e) is = no_falls (finds s) t (check.fails e) tt is

  lists_less : (at : Place) (s s' : Sending) → check_rank (lists at s') < check_rank (creates at s)
  lists_less place.Files s s' = omega arith
  lists_less place.Chunks s s' = omega arith

  created_falls : (at : Place) (s : Sending) (p : Step Sending (List ℕ)) → Creates b at p t → CheckFalls (creates at s) t
  created_falls at s p (check.created reply is success builds) = builds_fall (creates at s) t _ _ (lists at) (lists_less at s) builds
  created_falls at s p (check.there e is code builds) = builds_fall (creates at s) t _ _ (lists at) (lists_less at s) builds
  created_falls at s p (check.unread reply e is fails answer) = no_falls (creates at s) t (check.fails e) tt answer
  created_falls at s p (check.other e is code answer) = no_falls (creates at s) t (check.fails e) tt answer

  creation_falls : (at : Place) (s : Sending) (p : Step Sending (List ℕ)) → HearsCreation b at p t → CheckFalls (creates at s) t
  creation_falls at s (came.Pending s') is = no_falls (creates at s) t (check.pends (creates at s')) tt is
  creation_falls at s (came.Done reply) h = created_falls at s (came.Done reply) h
  creation_falls at s (came.Failed e) h = created_falls at s (came.Failed e) h

  opened_less : (at : Place) (s : Sending) (d : DocumentCursor) → check_rank (reads at d false 0) < check_rank (lists at s)
  opened_less place.Files s d = omega arith
  opened_less place.Chunks s d = omega arith

  listing_falls : (at : Place) (s : Sending) (p : Step Sending (List ℕ)) → HearsListing at p t → CheckFalls (lists at s) t
  listing_falls at s (came.Pending s') is = no_falls (lists at s) t (check.pends (lists at s')) tt is
  listing_falls at s (came.Done reply) (check.opened out opens is) = no_falls (lists at s) t _ (opened_less at s _) is
  listing_falls at s (came.Done reply) (check.broke e fails is) = no_falls (lists at s) t (check.fails e) tt is
  listing_falls at s (came.Failed e) is = no_falls (lists at s) t (check.fails e) tt is

  looks_less : (at : Place) (d d' : DocumentCursor) (f f' : Bool) (n : ℕ) → n < 1048576 → check_rank (reads at d' f' (suc n)) < check_rank (reads at d f n)
  looks_less place.Files d d' f f' n lt = omega (arith, lt)
  looks_less place.Chunks d d' f f' n lt = omega (arith, lt)

  index_less : (at : Place) (d : DocumentCursor) (f : Bool) (n : ℕ) (s : Sending) → n ≤ 1048576 → check_rank (indexes at s) < check_rank (reads at d f n)
  index_less place.Files d f n s le = omega (arith, le)
  index_less place.Chunks d f n s le = omega (arith, le)

  looks_falls : (at : Place) (d d' : DocumentCursor) (document : List ℕ) (f : Bool) (n : ℕ) → Looks at d' document f n t → CheckFalls (reads at d f n) t
  looks_falls at d d' document f n (check.looked i lt index is) = no_falls (reads at d f n) t _ (looks_less at d d' f _ n lt) is
  looks_falls at d d' document f n (check.too_many many is) = no_falls (reads at d f n) t _ tt is
  looks_falls at d d' document f n (check.broke e fails is) = no_falls (reads at d f n) t (check.fails e) tt is

  -- the other collection comes next, or none
  list_behind : (at : Place) (d : DocumentCursor) (f : Bool) (n : ℕ) → n ≤ 1048576 → GoesBehind b at t → CheckFalls (reads at d f n) t
  list_behind place.Files d f n le h = behind_falls (reads place.Files d f n) t b place.Files (omega (arith, le)) h
  list_behind place.Chunks d f n le is = no_falls (reads place.Chunks d f n) t check.passes tt is

  list_falls : (at : Place) (d : DocumentCursor) (f : Bool) (n : ℕ) → n ≤ 1048576 → (g : Bool) → EndsList b at g t → CheckFalls (reads at d f n) t
  list_falls at d f n le true h = list_behind at d f n le h
  list_falls at d f n le false h = builds_fall (reads at d f n) t _ _ (indexes at) (λ s. index_less at d f n s le) h

  advance_falls : (at : Place) (d d' : DocumentCursor) (f : Bool) (n : ℕ) → n ≤ 1048576 → (p : AdvancePoll) → HearsAdvance b at d' f n p t → CheckFalls (reads at d f n) t
  advance_falls at d d' f n le advance.Pending is = no_falls (reads at d f n) t (check.pends (reads at d' f n)) tt is
  advance_falls at d d' f n le (advance.Ready true) h = looks_falls at d d' h.0 f n h.2
  advance_falls at d d' f n le (advance.Ready false) h = list_falls at d f n le f h
  advance_falls at d d' f n le (advance.Failed e) is = no_falls (reads at d f n) t (check.fails e) tt is

  indexed_behind : (at : Place) (s : Sending) → GoesBehind b at t → CheckFalls (indexes at s) t
  indexed_behind place.Files s h = behind_falls (indexes place.Files s) t b place.Files (omega arith) h
  indexed_behind place.Chunks s is = no_falls (indexes place.Chunks s) t check.passes tt is

  index_falls : (at : Place) (s : Sending) (p : Step Sending (List ℕ)) → HearsIndex b at p t → CheckFalls (indexes at s) t
  index_falls at s (came.Pending s') is = no_falls (indexes at s) t (check.pends (indexes at s')) tt is
  index_falls at s (came.Done reply) (check.done success h) = indexed_behind at s h
  index_falls at s (came.Done reply) (check.unread e fails is) = no_falls (indexes at s) t (check.fails e) tt is
  index_falls at s (came.Failed e) is = no_falls (indexes at s) t (check.fails e) tt is

  check_falls : (old new : Awaited) (log log' : LogTold) (wire : ℤ) (c : ClientCheck) → IsSoundCheck b c → ChecksOn old new log log' wire b c t → CheckFalls c t
  check_falls old new log log' wire c sound (by_find s is p runs h) = subst (λ (x : ClientCheck). CheckFalls x t) (sym is) (find_falls s p h)
  check_falls old new log log' wire c sound (by_creation at s is p runs h) = subst (λ (x : ClientCheck). CheckFalls x t) (sym is) (creation_falls at s p h)
  check_falls old new log log' wire c sound (by_listing at s is p runs h) = subst (λ (x : ClientCheck). CheckFalls x t) (sym is) (listing_falls at s p h)
  check_falls old new log log' wire c sound (by_advance at d f n is empties starts left p seeks h) =
      subst (λ (x : ClientCheck). CheckFalls x t) (sym is) (advance_falls at d left f n (subst (IsSoundCheck b) is sound).1 p h)
  check_falls old new log log' wire c sound (by_index at s is p runs h) = subst (λ (x : ClientCheck). CheckFalls x t) (sym is) (index_falls at s p h)

-- ---- steps

goes_same : (p q : Phase) → goes p ≡ goes q → p ≡ q
goes_same p q is = cc

module _ (u u' : ClientUpload) (q : Phase) (none : error_behind q ≡ None) where
  -- the phase is known, and the upload
  falls_as : (n : ℕ) (v : ClientUpload) (s : Phase) → u' ≡ v → goes q ≡ goes s → rank v s < n → rank u' q < n
  falls_as n v s is answer less = subst (λ (p : Phase). rank u' p < n) (sym (goes_same q s answer)) (subst (λ (w : ClientUpload). rank w s < n) (sym is) less)

  -- nothing has failed
  not_undone : (n : ℕ) (e : Error) → goes q ≡ goes (undoes (Some e)) → rank u' q < n
  not_undone n e answer = let bad : None ≡ Some e = sym none ∙ ap error_behind (goes_same q (undoes (Some e)) answer) in absurd cc

  begins_falls : BeginsCheck u u' (goes q) → rank u' q < rank u begins
  begins_falls (steps.built s request is answer) = falls_as (rank u begins) u (checks (finds s)) is answer (omega arith)
  begins_falls (steps.not_built e fails is answer) = absurd (let bad : goes q ≡ steps.failed e = answer in cc)

  leads_falls : (c : ClientCheck) (t : CheckTurned) → CheckFalls c t → CheckLeads t u u' (goes q) → rank u' q < rank u (checks c)
  leads_falls c (check.goes d) less h = falls_as (rank u (checks c)) u (checks d) h.0 h.1 (omega (arith, less))
  leads_falls c (check.pends d) less h = absurd (let bad : goes q ≡ waits (checks d) = h.1 in cc)
  leads_falls c check.passes less h = falls_as (rank u (checks c)) (record u { checked = true }) fills h.0 h.1 (omega arith)
  leads_falls c (check.fails e) less h = absurd (let bad : goes q ≡ steps.failed e = h.1 in cc)

  fills_falls : HasBounds u → (ids : ℕ → List ℕ) (drawn : ℕ) → Fills ids drawn u u' (goes q) → rank u' q < rank u fills
  fills_falls bounds ids drawn (steps.built count s portion small n request is answer) =
      let left = length-drop (count * u.aim.size) u.behind in
      let within = portion.within in
      let bytes = mul-le 1 1 count u.aim.size (omega (arith, portion.some)) (omega (arith, bounds.size.some)) in
      falls_as (rank u fills) (record u { behind = drop (count * u.aim.size) u.behind }) (inserts s count) is answer (omega (arith, left, within, bytes))
  fills_falls bounds ids drawn (steps.not_built within e left fails is answer) = not_undone (rank u fills) e answer

  inserts_falls : (s : Sending) (count : ℕ) (c : Step Sending (List ℕ)) → HearsChunks count c u u' (goes q) → rank u' q < rank u (inserts s count)
  inserts_falls s count (came.Pending s') h = absurd (let bad : goes q ≡ waits (inserts s' count) = h.1 in cc)
  inserts_falls s count (came.Done reply) (steps.inserted n told is answer) = falls_as (rank u (inserts s count)) (record u { sent = u.sent + count }) fills is answer (omega arith)
  inserts_falls s count (came.Done reply) (steps.not_inserted e fails is answer) = not_undone (rank u (inserts s count)) e answer
  inserts_falls s count (came.Failed e) h = not_undone (rank u (inserts s count)) e h.1

  rests_falls : (ids : ℕ → List ℕ) (drawn : ℕ) (moment : ℤ) → Rests ids drawn moment u u' (goes q) → rank u' q < rank u (rests moment)
  rests_falls ids drawn moment (steps.nothing_left nothing n is answer) = falls_as (rank u (rests moment)) u (ends _) is answer (omega arith)
  rests_falls ids drawn moment (steps.built some small n s request is answer) = falls_as (rank u (rests moment)) (record u { behind = [] }) (lasts s _) is answer (omega arith)
  rests_falls ids drawn moment (steps.not_built some most e left fails is answer) = not_undone (rank u (rests moment)) e answer

  last_falls : (s : Sending) (ending : Ending) (c : Step Sending (List ℕ)) → HearsLast ending c u u' (goes q) → rank u' q < rank u (lasts s ending)
  last_falls s ending (came.Pending s') h = absurd (let bad : goes q ≡ waits (lasts s' ending) = h.1 in cc)
  last_falls s ending (came.Done reply) (steps.inserted n told is answer) = falls_as (rank u (lasts s ending)) u (ends ending) is answer (omega arith)
  last_falls s ending (came.Done reply) (steps.not_inserted e fails is answer) = not_undone (rank u (lasts s ending)) e answer
  last_falls s ending (came.Failed e) h = not_undone (rank u (lasts s ending)) e h.1

  ends_falls : (ending : Ending) → Ends ending u u' (goes q) → rank u' q < rank u (ends ending)
  ends_falls ending (steps.built s request is answer) = falls_as (rank u (ends ending)) u (records s ending) is answer (omega arith)
  ends_falls ending (steps.not_built e fails is answer) = not_undone (rank u (ends ending)) e answer

  record_falls : (s : Sending) (ending : Ending) (c : Step Sending (List ℕ)) → HearsRecord ending c u u' (goes q) → rank u' q < rank u (records s ending)
  record_falls s ending (came.Pending s') h = absurd (let bad : goes q ≡ waits (records s' ending) = h.1 in cc)
  record_falls s ending (came.Done reply) (steps.inserted n told is answer) = absurd (let bad : goes q ≡ done = answer in cc)
  record_falls s ending (came.Done reply) (steps.not_inserted e fails undone_so) = not_undone (rank u (records s ending)) e undone_so.1
  record_falls s ending (came.Failed e) h = not_undone (rank u (records s ending)) e h.1

  landed_falls : (flight : Flight) (error : Option Error) (left : Option Flight) → LandedAs error left u u' (goes q) → rank u' q < rank u (lands flight error)
  landed_falls flight error None h = falls_as (rank u (lands flight error)) u (undoes error) h.0 h.1 (omega arith)
  landed_falls flight error (Some f) h = absurd (let bad : goes q ≡ waits (lands f error) = h.1 in cc)

  removes_falls : (error : Option Error) → Removes error u u' (goes q) → rank u' q < rank u (undoes error)
  removes_falls error (steps.built s request is answer) = falls_as (rank u (undoes error)) u (removes s error) is answer (omega arith)
  removes_falls error (steps.not_built d e fails undo is answer) = absurd (let bad : goes q ≡ steps.failed e = answer in cc)

  not_removed_yet : (n : ℕ) (error : Option Error) → goes q ≡ undone_by error → rank u' q < n
  not_removed_yet n None answer = absurd (let bad : goes q ≡ done = answer in cc)
  not_removed_yet n (Some e) answer = absurd (let bad : goes q ≡ steps.failed e = answer in cc)

  removal_falls : (s : Sending) (error : Option Error) (c : Step Sending (List ℕ)) → HearsRemoval error c u u' (goes q) → rank u' q < rank u (removes s error)
  removal_falls s error (came.Pending s') h = absurd (let bad : goes q ≡ waits (removes s' error) = h.1 in cc)
  removal_falls s error (came.Done reply) (steps.removed n wrote_so is answer) = not_removed_yet (rank u (removes s error)) error answer
  removal_falls s error (came.Done reply) (steps.not_removed d e fails undo is answer) = absurd (let bad : goes q ≡ steps.failed e = answer in cc)
  removal_falls s error (came.Failed d) h = absurd (let bad : goes q ≡ steps.failed h.0 = h.3 in cc)

  step_falls : (old new : Awaited) (log log' : LogTold) (wire : ℤ) (ids : ℕ → List ℕ) (drawn : ℕ) (p : Phase) → HasBounds u → IsSoundPhase u p → DoesStep old new log log' wire ids drawn u u' p (goes q) → rank u' q < rank u p
  step_falls old new log log' wire ids drawn p bounds sound (begins_check is quiet n does) = subst (λ (x : Phase). rank u' q < rank u x) (sym is) (begins_falls does)
  step_falls old new log log' wire ids drawn p bounds sound (checks_on c is n t checks_so leads) =
      subst (λ (x : Phase). rank u' q < rank u x) (sym is) (leads_falls c t (check_falls u.aim.bucket t old new log log' wire c (subst (IsSoundPhase u) is sound).0 checks_so) leads)
  step_falls old new log log' wire ids drawn p bounds sound (is_short is quiet n short same answer) = absurd (let bad : goes q ≡ done = answer in cc)
  step_falls old new log log' wire ids drawn p bounds sound (fills_next is quiet full does) = subst (λ (x : Phase). rank u' q < rank u x) (sym is) (fills_falls bounds ids drawn does)
  step_falls old new log log' wire ids drawn p bounds sound (inserts_on s count is n c runs hears) = subst (λ (x : Phase). rank u' q < rank u x) (sym is) (inserts_falls s count c hears)
  step_falls old new log log' wire ids drawn p bounds sound (rests_next moment is quiet does) = subst (λ (x : Phase). rank u' q < rank u x) (sym is) (rests_falls ids drawn moment does)
  step_falls old new log log' wire ids drawn p bounds sound (inserts_last s ending is n c runs hears) = subst (λ (x : Phase). rank u' q < rank u x) (sym is) (last_falls s ending c hears)
  step_falls old new log log' wire ids drawn p bounds sound (ends_next ending is quiet n does) = subst (λ (x : Phase). rank u' q < rank u x) (sym is) (ends_falls ending does)
  step_falls old new log log' wire ids drawn p bounds sound (records_on s ending is n c runs hears) = subst (λ (x : Phase). rank u' q < rank u x) (sym is) (record_falls s ending c hears)
  step_falls old new log log' wire ids drawn p bounds sound (lands_on flight error is n left landing landed) = subst (λ (x : Phase). rank u' q < rank u x) (sym is) (landed_falls flight error left landed)
  step_falls old new log log' wire ids drawn p bounds sound (undoes_next error is quiet n does) = subst (λ (x : Phase). rank u' q < rank u x) (sym is) (removes_falls error does)
  step_falls old new log log' wire ids drawn p bounds sound (removes_on s error is n c runs hears) = subst (λ (x : Phase). rank u' q < rank u x) (sym is) (removal_falls s error c hears)

-- A turn of the way ahead with which the poll goes on leaves fewer.
pub turn_falls : (old new : Awaited) (log log' : LogTold) (wire : ℤ) (ids : ℕ → List ℕ) (drawn : ℕ) (u u' : ClientUpload) (p : Phase) (r : Turn) → HasBounds u → IsSoundPhase u p → error_behind p ≡ None → TurnsOn old new log log' wire ids drawn u u' p r → TurnFalls u p u' r
turn_falls old new log log' wire ids drawn u u' p (turn.Goes s) bounds sound ahead h = (step_falls u u' (phase_of s) h.1 old new log log' wire ids drawn p bounds sound h.0, h.1 ∙ sym ahead)
turn_falls old new log log' wire ids drawn u u' p (turn.Stops x) bounds sound ahead h = tt
