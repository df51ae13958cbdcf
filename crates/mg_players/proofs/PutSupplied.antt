-- The steps of a put's upload draw the ids of its chunks in their order, and keep the moment of its record.
use Rattle.std.proofs.Common.{◌≡◌, ◌<◌, ◌+◌, ℕ, zero, suc, ℤ, true, List, Option, Some, None, refl, sym, ap, ◌∙◌, subst, arith}
use Rattle.mg_link.specs.Exec.{Sending}
use Rattle.mg_link.specs.Link.{Awaited, LogTold}
use Rattle.mg_link.specs.declared.action.Step.{Step}
use Rattle.mg_link.specs.declared.action.Step.TheVariants as came
use Rattle.mg_link.specs.declared.error.Error.{Error}
use Rattle.mg_gridfs.specs.Calls.{behind_call, doing_behind}
use Rattle.mg_gridfs.specs.Checks as check
use Rattle.mg_gridfs.specs.Checks.{CheckTurned}
use Rattle.mg_gridfs.specs.Steps as steps
use Rattle.mg_gridfs.specs.Steps.{BeginsCheck, CheckLeads, DoesStep, DoesSteps, Ends, Fills, HearsChunks, HearsLast, HearsRecord, HearsRemoval, LandedAs, Removes, Rests, Stepped, begins_check, checks_on, done, ends_next, failed, fills_next, goes, ids_behind, inserts_last, inserts_on, is_short, lands_on, records_on, removes_on, rests_next, undoes_next, undone_by, waits}
use Rattle.mg_gridfs.specs.Uploads as uploads
use Rattle.mg_gridfs.specs.Uploads.{ClientUpload, Doing, Flight, IsOfCall, Phase, abort, begins, busy, checks, close, closed, ends, fills, idle, inserts, lands, lasts, records, removes, rests, undoes, write}
use Rattle.mg_gridfs.proofs.Driving.{call_kept}
use Rattle.mg_players.specs.Puts.{ComeNext, DoingSupplied, IsMoment, PhaseSupplied, PutTask, Supply, chunks_in}

-- ---- a source by another name

module _ (supply : Supply) (t : PutTask) (ids ids' : ℕ → List ℕ) (same : (k : ℕ) → ids' k ≡ ids k) where
  pub next_as : (from : ℕ) → ComeNext supply t ids from → ComeNext supply t ids' from
  next_as from next k within = same k ∙ next k within

  phase_as : (sent : ℕ) (p : Phase) → PhaseSupplied supply t ids sent p → PhaseSupplied supply t ids' sent p
  phase_as sent begins h = next_as sent h
  phase_as sent (checks c) h = next_as sent h
  phase_as sent fills h = next_as sent h
  phase_as sent (inserts s count) h = next_as (sent + count) h
  phase_as sent (rests moment) h = (next_as sent h.0, h.1)
  phase_as sent (lasts s ending) h = h
  phase_as sent (ends ending) h = h
  phase_as sent (records s ending) h = h
  phase_as sent (lands flight error) h = tt
  phase_as sent (undoes error) h = tt
  phase_as sent (removes s error) h = tt

  pub doing_as : (sent : ℕ) (d : Doing) → DoingSupplied supply t ids sent d → DoingSupplied supply t ids' sent d
  doing_as sent idle h = next_as sent h
  doing_as sent (busy call p) h = phase_as sent p h
  doing_as sent closed h = tt

-- ---- one step

module _ (supply : Supply) (t : PutTask) (ids : ℕ → List ℕ) where
  none_drawn : (from : ℕ) → ComeNext supply t ids from → ComeNext supply t (ids_behind 0 ids) from
  none_drawn from next k within = let same : 0 + k ≡ k = omega arith in ap ids same ∙ next k within

  some_drawn : (from count : ℕ) → ComeNext supply t ids from → ComeNext supply t (ids_behind count ids) (from + count)
  some_drawn from count next k within =
      let same : from + (count + k) ≡ from + count + k = omega arith in
      next (count + k) (subst (λ (m : ℕ). m < chunks_in t.chunk t.pieces) (sym same) within) ∙ ap supply.ids same

module _ (supply : Supply) (t : PutTask) (call : uploads.Call) (ids : ℕ → List ℕ) (drawn : ℕ) (u u' : ClientUpload) (r : Stepped) where
  abbrev Behind : Type 0
  Behind = DoingSupplied supply t (ids_behind drawn ids) u'.sent (doing_behind call r)

  behind_as : (v : ClientUpload) (n : ℕ) (q : Stepped) → u' ≡ v → drawn ≡ n → r ≡ q → DoingSupplied supply t (ids_behind n ids) v.sent (doing_behind call q) → Behind
  behind_as v n q is count answer h =
      subst (λ (x : Stepped). DoingSupplied supply t (ids_behind drawn ids) u'.sent (doing_behind call x)) (sym answer)
      (subst (λ (m : ℕ). DoingSupplied supply t (ids_behind m ids) u'.sent (doing_behind call q)) (sym count) (subst (λ (x : ClientUpload). DoingSupplied supply t (ids_behind n ids) x.sent (doing_behind call q)) (sym is) h))

  -- one that fails, or takes the way back, needs none
  undoes_behind : (v : ClientUpload) (e : Option Error) → u' ≡ v → r ≡ goes (undoes e) → Behind
  undoes_behind v e is answer = behind_as v drawn (goes (undoes e)) is refl answer tt

  fails_behind : (v : ClientUpload) (e : Error) → u' ≡ v → r ≡ failed e → Behind
  fails_behind v e is answer = behind_as v drawn (failed e) is refl answer tt

  begins_behind : drawn ≡ 0 → ComeNext supply t ids u.sent → BeginsCheck u u' r → Behind
  begins_behind none next (steps.built s new_one is answer) = behind_as u 0 (goes (checks (check.finds s))) is none answer (none_drawn supply t ids u.sent next)
  begins_behind none next (steps.not_built e fails is answer) = fails_behind u e is answer

  check_behind : drawn ≡ 0 → ComeNext supply t ids u.sent → (c : CheckTurned) → CheckLeads c u u' r → Behind
  check_behind none next (check.goes c) h = behind_as u 0 (goes (checks c)) h.0 none h.1 (none_drawn supply t ids u.sent next)
  check_behind none next (check.pends c) h = behind_as u 0 (waits (checks c)) h.0 none h.1 (none_drawn supply t ids u.sent next)
  check_behind none next check.passes h = behind_as (record u { checked = true }) 0 (goes fills) h.0 none h.1 (none_drawn supply t ids u.sent next)
  check_behind none next (check.fails e) h = fails_behind u e h.0 h.1

  -- a write that is done goes on to the next one
  written_behind : (c : uploads.Call) → ComeNext supply t ids u.sent → DoingSupplied supply t (ids_behind 0 ids) u.sent (behind_call c)
  written_behind (write piece) next = none_drawn supply t ids u.sent next
  written_behind close next = tt
  written_behind abort next = tt

  fills_behind : ComeNext supply t ids u.sent → Fills ids drawn u u' r → Behind
  fills_behind next (steps.built count s portion small n request is answer) = behind_as _ count (goes (inserts s count)) is n answer (some_drawn supply t ids u.sent count next)
  fills_behind next (steps.not_built within e left fails is answer) = undoes_behind _ (Some e) is answer

  chunks_behind : drawn ≡ 0 → (count : ℕ) → ComeNext supply t ids (u.sent + count) → (c : Step Sending (List ℕ)) → HearsChunks count c u u' r → Behind
  chunks_behind none count next (came.Pending s) h = behind_as u 0 (waits (inserts s count)) h.0 none h.1 (none_drawn supply t ids (u.sent + count) next)
  chunks_behind none count next (came.Done reply) (steps.inserted n told_so is answer) = behind_as (record u { sent = u.sent + count }) 0 (goes fills) is none answer (none_drawn supply t ids (u.sent + count) next)
  chunks_behind none count next (came.Done reply) (steps.not_inserted e fails is answer) = undoes_behind u (Some e) is answer
  chunks_behind none count next (came.Failed e) h = undoes_behind u (Some e) h.0 h.1

  rests_behind : (moment : ℤ) → IsMoment supply.moment moment → Rests ids drawn moment u u' r → Behind
  rests_behind moment its (steps.nothing_left none n is answer) = behind_as u drawn (goes (ends (steps.ending_of u moment))) is refl answer its
  rests_behind moment its (steps.built some small n s request is answer) = behind_as _ drawn (goes (lasts s (steps.ending_of u moment))) is refl answer its
  rests_behind moment its (steps.not_built some most e left fails is answer) = undoes_behind _ (Some e) is answer

  last_behind : (ending : uploads.Ending) → IsMoment supply.moment ending.moment → (c : Step Sending (List ℕ)) → HearsLast ending c u u' r → Behind
  last_behind ending its (came.Pending s) h = behind_as u drawn (waits (lasts s ending)) h.0 refl h.1 its
  last_behind ending its (came.Done reply) (steps.inserted n told_so is answer) = behind_as u drawn (goes (ends ending)) is refl answer its
  last_behind ending its (came.Done reply) (steps.not_inserted e fails is answer) = undoes_behind u (Some e) is answer
  last_behind ending its (came.Failed e) h = undoes_behind u (Some e) h.0 h.1

  ends_behind : (ending : uploads.Ending) → IsMoment supply.moment ending.moment → Ends ending u u' r → Behind
  ends_behind ending its (steps.built s request is answer) = behind_as u drawn (goes (records s ending)) is refl answer its
  ends_behind ending its (steps.not_built e fails is answer) = undoes_behind u (Some e) is answer

  -- it is a close whose record is there
  closed_behind : (c : uploads.Call) (n : ℕ) (s : Sending) (ending : uploads.Ending) → IsOfCall c (records s ending) → DoingSupplied supply t (ids_behind n ids) u.sent (behind_call c)
  closed_behind (write piece) n s ending own = absurd own
  closed_behind close n s ending own = tt
  closed_behind abort n s ending own = tt

  record_behind : (s : Sending) (ending : uploads.Ending) → IsOfCall call (records s ending) → IsMoment supply.moment ending.moment → (c : Step Sending (List ℕ)) → HearsRecord ending c u u' r → Behind
  record_behind s ending own its (came.Pending s') h = behind_as u drawn (waits (records s' ending)) h.0 refl h.1 its
  record_behind s ending own its (came.Done reply) (steps.inserted n told_so is answer) = behind_as u drawn done is refl answer (closed_behind call drawn s ending own)
  record_behind s ending own its (came.Done reply) (steps.not_inserted e fails undone_so) = undoes_behind u (Some e) undone_so.0 undone_so.1
  record_behind s ending own its (came.Failed e) h = undoes_behind u (Some e) h.0 h.1

  landed_behind : (error : Option Error) (left : Option Flight) → LandedAs error left u u' r → Behind
  landed_behind error None h = undoes_behind u error h.0 h.1
  landed_behind error (Some flight) h = behind_as u drawn (waits (lands flight error)) h.0 refl h.1 tt

  removes_behind : (error : Option Error) → Removes error u u' r → Behind
  removes_behind error (steps.built s request is answer) = behind_as u drawn (goes (removes s error)) is refl answer tt
  removes_behind error (steps.not_built d e fails both is answer) = fails_behind u e is answer

  undone_behind : (c : uploads.Call) (n : ℕ) (s : Sending) (error : Option Error) → IsOfCall c (removes s error) → DoingSupplied supply t (ids_behind n ids) u.sent (doing_behind c (undone_by error))
  undone_behind c n s (Some e) own = tt
  undone_behind (write piece) n s None own = absurd own
  undone_behind close n s None own = tt
  undone_behind abort n s None own = tt

  removal_behind : (s : Sending) (error : Option Error) → IsOfCall call (removes s error) → (c : Step Sending (List ℕ)) → HearsRemoval error c u u' r → Behind
  removal_behind s error own (came.Pending s') h = behind_as u drawn (waits (removes s' error)) h.0 refl h.1 tt
  removal_behind s error own (came.Done reply) (steps.removed n wrote_so is answer) = behind_as u drawn (undone_by error) is refl answer (undone_behind call drawn s error own)
  removal_behind s error own (came.Done reply) (steps.not_removed d e fails both is answer) = fails_behind u e is answer
  removal_behind s error own (came.Failed d) h = fails_behind u h.0 h.2 h.3

  -- A step that draws ids draws those that come next, and behind it the next ones come next.
  pub step_supplied : (old new : Awaited) (log log' : LogTold) (wire : ℤ) (p : Phase) → IsOfCall call p → PhaseSupplied supply t ids u.sent p → DoesStep old new log log' wire ids drawn u u' p r → Behind
  step_supplied old new log log' wire p own so (begins_check is q none does) = begins_behind none (subst (PhaseSupplied supply t ids u.sent) is so) does
  step_supplied old new log log' wire p own so (checks_on c is none x checks_so leads) = check_behind none (subst (PhaseSupplied supply t ids u.sent) is so) x leads
  step_supplied old new log log' wire p own so (is_short is q none short same answer) = behind_as u 0 done same none answer (written_behind call (subst (PhaseSupplied supply t ids u.sent) is so))
  step_supplied old new log log' wire p own so (fills_next is q full does) = fills_behind (subst (PhaseSupplied supply t ids u.sent) is so) does
  step_supplied old new log log' wire p own so (inserts_on s count is none c runs hears) = chunks_behind none count (subst (PhaseSupplied supply t ids u.sent) is so) c hears
  step_supplied old new log log' wire p own so (rests_next moment is q does) = rests_behind moment (subst (PhaseSupplied supply t ids u.sent) is so).1 does
  step_supplied old new log log' wire p own so (inserts_last s ending is none c runs hears) = last_behind ending (subst (PhaseSupplied supply t ids u.sent) is so) c hears
  step_supplied old new log log' wire p own so (ends_next ending is q none does) = ends_behind ending (subst (PhaseSupplied supply t ids u.sent) is so) does
  step_supplied old new log log' wire p own so (records_on s ending is none c runs hears) = record_behind s ending (subst (IsOfCall call) is own) (subst (PhaseSupplied supply t ids u.sent) is so) c hears
  step_supplied old new log log' wire p own so (lands_on flight error is none left landing landed) = landed_behind error left landed
  step_supplied old new log log' wire p own so (undoes_next error is q none does) = removes_behind error does
  step_supplied old new log log' wire p own so (removes_on s error is none c runs hears) = removal_behind s error (subst (IsOfCall call) is own) c hears

-- ---- all steps of a poll

pub steps_supplied : (supply : Supply) (t : PutTask) (call : uploads.Call) (n : ℕ) (old new : Awaited) (log log' : LogTold) (wire : ℤ) (ids : ℕ → List ℕ) (drawn : ℕ) (u u' : ClientUpload) (p : Phase) (r : Stepped) → IsOfCall call p → PhaseSupplied supply t ids u.sent p → DoesSteps n old new log log' wire ids drawn u u' p r
    → DoingSupplied supply t (ids_behind drawn ids) u'.sent (doing_behind call r)
unfolding DoesSteps
steps_supplied supply t call zero old new log log' wire ids drawn u u' p r own so d = step_supplied supply t call ids drawn u u' r old new log log' wire p own so d.0
steps_supplied supply t call (suc n) old new log log' wire ids drawn u u' p r own so d =
    let own_on = call_kept call old d.0 log d.1 wire ids d.2 u d.4 p (goes d.5) own d.6 in
    let here = step_supplied supply t call ids d.2 u d.4 (goes d.5) old d.0 log d.1 wire p own so d.6 in
    let more = steps_supplied supply t call n d.0 new d.1 log' wire (ids_behind d.2 ids) d.3 d.4 u' d.5 r own_on here d.8 in
    let sum : drawn ≡ d.2 + d.3 = d.7 in
    doing_as supply t (ids_behind d.3 (ids_behind d.2 ids)) (ids_behind drawn ids) (λ k. (let same : drawn + k ≡ d.2 + (d.3 + k) = omega (arith, sum) in ap ids same)) u'.sent (doing_behind call r) more
