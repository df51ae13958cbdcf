-- All steps of a poll.
use Rattle.std.proofs.Common.{◌≡◌, ◌+◌, ◌*◌, ℕ, zero, suc, ℤ, false, List, [], ◌∷◌, length, take, Option, Some, None, refl, sym, ap, ap₂, ◌∙◌, subst, inl, inr, arith}
use Rattle.mg_bson.specs.Tree.{Fields, Tree}
use Rattle.mg_server.specs.Calls.{past_of}
use Rattle.mg_link.specs.Chunks.{chunked}
use Rattle.mg_server.specs.Files.{Bucket}
use Rattle.mg_link.specs.Link.{Awaited, LogTold}
use Rattle.mg_link.specs.Log.{Call}
use Rattle.mg_link.specs.declared.action.Step.{Step}
use Rattle.mg_link.specs.declared.action.Step.TheVariants as came
use Rattle.mg_link.specs.declared.error.Error.{Error}
use Rattle.mg_link.specs.Exec.{Sending}
use Rattle.mg_server.proofs.Filed.{Grew, grew_on}
use Rattle.mg_ops.specs.Failing.{FailsBy}
use Rattle.mg_ops.specs.Naming.{IsNamed}
use Rattle.mg_gridfs.specs.Buckets.{IsAt}
use Rattle.mg_gridfs.specs.Checks as check
use Rattle.mg_gridfs.specs.Checks.{CheckTurned}
use Rattle.mg_gridfs.specs.Commands.{CannotStore, IsNewRequest, chunk_document, chunk_documents, chunks_lines}
use Rattle.mg_gridfs.specs.Steps as steps
use Rattle.mg_gridfs.specs.Steps.{BeginsCheck, CannotEnd, CannotFill, CheckLeads, DoesStep, DoesSteps, Ends, Fills, HearsChunks, HearsLast, HearsRecord, HearsRemoval, IsPortion, LandedAs, PassNumbers, Removes, Rests, Stepped, begins_check, checks_on, done, ending_of, ends_next, failed, fills_next, first_chunks, goes, ids_behind, inserts_last, inserts_on, is_short, lands_on, not_encoded, of_first, of_last, records_on, removes_on, rests_next, too_large, too_many, undoes_next, undone_by, waits}
use Rattle.mg_gridfs.specs.Storing.{KnowsPhase}
use Rattle.mg_gridfs.specs.Uploads as uploads
use Rattle.mg_gridfs.specs.Uploads.{Aim, ClientUpload, Flight, HasBounds, IsOfCall, IsShort, IsSoundPhase, Phase, abort, begins, checks, close, ends, fills, inserts, lands, lasts, records, removes, rests, undoes, write}
use Rattle.mg_gridfs.proofs.Keeping.{IsKept, step_kept}
use Rattle.mg_gridfs.proofs.Storing.{IsPlaced, KnowsStepped, of_abort, step_known}

-- ---- ids

module _ (ids ids' : ℕ → List ℕ) (same : (k : ℕ) → ids k ≡ ids' k) where
  documents_same : (k : ℕ) (file : Tree) (n : ℕ) (cs : List (List ℕ)) → chunk_documents ids k file n cs ≡ chunk_documents ids' k file n cs
  documents_same k file n [] = refl
  documents_same k file n (c ∷ cs) = ap₂ (λ (d : Fields) (ds : List Fields). d ∷ ds) (ap (λ (i : List ℕ). chunk_document i file n c) (same k)) (documents_same (suc k) file (suc n) cs)

  first_same : (u : ClientUpload) (count : ℕ) → first_chunks u ids count ≡ first_chunks u ids' count
  first_same u count = documents_same 0 u.aim.id u.sent (chunked u.aim.size (take (count * u.aim.size) u.behind))

  portion_same : (u : ClientUpload) (count : ℕ) → IsPortion u (first_chunks u ids count) count → IsPortion u (first_chunks u ids' count) count
  portion_same u count portion = subst (λ (ds : List Fields). IsPortion u ds count) (first_same u count) portion

  numbers_same : (u : ClientUpload) → PassNumbers u ids → PassNumbers u ids'
  numbers_same u (of_first past) = of_first past
  numbers_same u (of_last count past portion) = of_last count past (λ are. portion_same u count (portion (λ k lt. ap length (same k) ∙ are k lt)))

  cannot_fill_same : (u : ClientUpload) (e : Error) → CannotFill u ids e → CannotFill u ids' e
  cannot_fill_same u e (too_many count some few within past why is) = too_many count some few within past (numbers_same u why) is
  cannot_fill_same u e (too_large count portion small cannot) =
      too_large count (portion_same u count portion) small (subst (λ (ds : List Fields). CannotStore (chunks_lines u.aim.bucket ds) ds e) (first_same u count) cannot)
  cannot_fill_same u e (not_encoded d is cannot) = not_encoded d (sym (first_same u 1) ∙ is) cannot

  fills_same : (drawn : ℕ) (u u' : ClientUpload) (r : Stepped) → Fills ids drawn u u' r → Fills ids' drawn u u' r
  fills_same drawn u u' r (steps.built count s portion small n request is answer) =
      steps.built count s (portion_same u count portion) small n (subst (λ (ds : List Fields). IsNewRequest false (chunks_lines u.aim.bucket ds) s) (first_same u count) request) is answer
  fills_same drawn u u' r (steps.not_built within e left (inl memory) is answer) = steps.not_built within e left (inl memory) is answer
  fills_same drawn u u' r (steps.not_built within e left (inr cannot) is answer) = steps.not_built within e left (inr (cannot_fill_same u e cannot)) is answer

  rests_same : (drawn : ℕ) (moment : ℤ) (u u' : ClientUpload) (r : Stepped) → Rests ids drawn moment u u' r → Rests ids' drawn moment u u' r
  rests_same drawn moment u u' r (steps.nothing_left none n is answer) = steps.nothing_left none n is answer
  rests_same drawn moment u u' r (steps.built some small n s request is answer) =
      steps.built some small n s (subst (λ (i : List ℕ). IsNewRequest false (chunks_lines u.aim.bucket (chunk_document i u.aim.id u.sent u.behind ∷ [])) s) (same 0) request) is answer
  rests_same drawn moment u u' r (steps.not_built some most e left fails is answer) =
      steps.not_built some most e left (subst (λ (i : List ℕ). FailsBy (CannotEnd u (chunk_document i u.aim.id u.sent u.behind ∷ [])) e) (same 0) fails) is answer

  -- a step asks for its ids one by one
  pub step_same : (old new : Awaited) (log log' : LogTold) (wire : ℤ) (drawn : ℕ) (u u' : ClientUpload) (p : Phase) (r : Stepped) → DoesStep old new log log' wire ids drawn u u' p r → DoesStep old new log log' wire ids' drawn u u' p r
  step_same old new log log' wire drawn u u' p r (begins_check is quiet n does) = begins_check is quiet n does
  step_same old new log log' wire drawn u u' p r (checks_on c is n t checks_so leads) = checks_on c is n t checks_so leads
  step_same old new log log' wire drawn u u' p r (is_short is quiet n short at answer) = is_short is quiet n short at answer
  step_same old new log log' wire drawn u u' p r (fills_next is quiet full does) = fills_next is quiet full (fills_same drawn u u' r does)
  step_same old new log log' wire drawn u u' p r (inserts_on s count is n c runs hears) = inserts_on s count is n c runs hears
  step_same old new log log' wire drawn u u' p r (rests_next moment is quiet does) = rests_next moment is quiet (rests_same drawn moment u u' r does)
  step_same old new log log' wire drawn u u' p r (inserts_last s ending is n c runs hears) = inserts_last s ending is n c runs hears
  step_same old new log log' wire drawn u u' p r (ends_next ending is quiet n does) = ends_next ending is quiet n does
  step_same old new log log' wire drawn u u' p r (records_on s ending is n c runs hears) = records_on s ending is n c runs hears
  step_same old new log log' wire drawn u u' p r (lands_on flight error is n left landing landed) = lands_on flight error is n left landing landed
  step_same old new log log' wire drawn u u' p r (undoes_next error is quiet n does) = undoes_next error is quiet n does
  step_same old new log log' wire drawn u u' p r (removes_on s error is n c runs hears) = removes_on s error is n c runs hears

pub steps_same : (n : ℕ) (ids ids' : ℕ → List ℕ) → ((k : ℕ) → ids k ≡ ids' k) → (old new : Awaited) (log log' : LogTold) (wire : ℤ) (drawn : ℕ) (u u' : ClientUpload) (p : Phase) (r : Stepped) → DoesSteps n old new log log' wire ids drawn u u' p r → DoesSteps n old new log log' wire ids' drawn u u' p r
unfolding DoesSteps
steps_same zero ids ids' same old new log log' wire drawn u u' p r d = (step_same ids ids' same old new log log' wire drawn u u' p r d.0, d.1)
steps_same (suc n) ids ids' same old new log log' wire drawn u u' p r d =
    (d.0, d.1, d.2, d.3, d.4, d.5, step_same ids ids' same old d.0 log d.1 wire d.2 u d.4 p (goes d.5) d.6, d.7, steps_same n (ids_behind d.2 ids) (ids_behind d.2 ids') (λ k. same (d.2 + k)) d.0 new d.1 log' wire d.3 d.4 u' d.5 r d.8)

-- ---- one step after the other

-- So far a poll has come, and goes on: whatever steps it does from here on, it does these and those.
abbrev pub Drove : Awaited → Awaited → LogTold → LogTold → ℤ → (ℕ → List ℕ) → ℕ → ClientUpload → ClientUpload → Phase → Phase → Type 0
Drove old between log log_between wire ids drawn u v p q = (new : Awaited) (log' : LogTold) (n later : ℕ) (u' : ClientUpload) (r : Stepped) → DoesSteps n between new log_between log' wire (ids_behind drawn ids) later v u' q r
    → (m : ℕ) × DoesSteps m old new log log' wire ids (drawn + later) u u' p r

pub drove_none : (old : Awaited) (log : LogTold) (wire : ℤ) (ids : ℕ → List ℕ) (u : ClientUpload) (p : Phase) → Drove old old log log wire ids 0 u u p p
drove_none old log wire ids u p new log' n later u' r d =
    let e : later ≡ 0 + later = omega arith in
    (n, subst (λ (m : ℕ). DoesSteps n old new log log' wire ids m u u' p r) e (steps_same n (ids_behind 0 ids) ids (λ k. let f : 0 + k ≡ k = omega arith in ap ids f) old new log log' wire later u u' p r d))

pub drove_on : (old between next : Awaited) (log log_between log_next : LogTold) (wire : ℤ) (ids : ℕ → List ℕ) (drawn first : ℕ) (u v w : ClientUpload) (p q s : Phase) → Drove old between log log_between wire ids drawn u v p q → DoesStep between next log_between log_next wire (ids_behind drawn ids) first v w q (goes s)
    → Drove old next log log_next wire ids (drawn + first) u w p s
unfolding DoesSteps
drove_on old between next log log_between log_next wire ids drawn first u v w p q s drove does new log' n later u' r d =
    let behind = steps_same n (ids_behind (drawn + first) ids) (ids_behind first (ids_behind drawn ids)) (λ k. let f : (drawn + first) + k ≡ drawn + (first + k) = omega arith in ap ids f) next new log_next log' wire later w u' s r d in
    let x = drove new log' (suc n) (first + later) u' r (next, log_next, first, later, w, s, does, refl, behind) in
    let e : drawn + (first + later) ≡ (drawn + first) + later = omega arith in
    (x.0, subst (λ (m : ℕ). DoesSteps x.0 old new log log' wire ids m u u' p r) e x.1)

-- the last steps of a poll
pub drove_last : (old between new : Awaited) (log log_between log' : LogTold) (wire : ℤ) (ids : ℕ → List ℕ) (drawn later n : ℕ) (u v u' : ClientUpload) (p q : Phase) (r : Stepped) → Drove old between log log_between wire ids drawn u v p q → DoesSteps n between new log_between log' wire (ids_behind drawn ids) later v u' q r
    → (m : ℕ) × DoesSteps m old new log log' wire ids (drawn + later) u u' p r
drove_last old between new log log_between log' wire ids drawn later n u v u' p q r drove does = drove new log' n later u' r does

-- ---- each call has its own phases

-- a write that is done leaves less than a chunk
abbrev pub DoneOf : uploads.Call → ClientUpload → Type 0
DoneOf (write piece) u = IsShort u
DoneOf close u = Unit {0}
DoneOf abort u = Unit {0}

done_of : (call : uploads.Call) (u : ClientUpload) → IsShort u → DoneOf call u
done_of (write piece) u short = short
done_of close u short = tt
done_of abort u short = tt

abbrev pub CallStepped : uploads.Call → ClientUpload → Stepped → Type 0
CallStepped call u (goes p) = IsOfCall call p
CallStepped call u (waits p) = IsOfCall call p
CallStepped call u done = DoneOf call u
CallStepped call u (failed e) = Unit {0}

-- a call by one of its phases
abbrev IsWriting : uploads.Call → Type 0
IsWriting call = (piece : ℕ) × (call ≡ write piece)

module _ (call : uploads.Call) (u' : ClientUpload) (r : Stepped) where
  stepped_as : (q : Stepped) → r ≡ q → CallStepped call u' q → CallStepped call u' r
  stepped_as q is h = subst (CallStepped call u') (sym is) h

  writes_on : (q : Phase) → IsWriting call → ((piece : ℕ) → IsOfCall (write piece) q) → IsOfCall call q
  writes_on q writes h = subst (λ (c : uploads.Call). IsOfCall c q) (sym writes.1) (h writes.0)

  closes_on : (q : Phase) → call ≡ close → IsOfCall close q → IsOfCall call q
  closes_on q closes h = subst (λ (c : uploads.Call). IsOfCall c q) (sym closes) h

writing_by : (call : uploads.Call) (p : Phase) → (IsOfCall close p → ⊥) → (IsOfCall abort p → ⊥) → IsOfCall call p → IsWriting call
writing_by (write piece) p closes aborts h = (piece, refl)
writing_by close p closes aborts h = absurd (closes h)
writing_by abort p closes aborts h = absurd (aborts h)

call_is_close : (call : uploads.Call) (p : Phase) → ((piece : ℕ) → IsOfCall (write piece) p → ⊥) → (IsOfCall abort p → ⊥) → IsOfCall call p → call ≡ close
call_is_close (write piece) p writes aborts h = absurd (writes piece h)
call_is_close close p writes aborts h = refl
call_is_close abort p writes aborts h = absurd (aborts h)

lands_to : (call : uploads.Call) (flight other : Flight) (error : Option Error) → IsOfCall call (lands flight error) → IsOfCall call (lands other error) × IsOfCall call (undoes error)
lands_to (write piece) flight other error h = absurd h
lands_to close flight other None h = absurd h
lands_to close flight other (Some e) h = (tt, tt)
lands_to abort flight other None h = (tt, tt)
lands_to abort flight other (Some e) h = absurd h

undoes_to : (call : uploads.Call) (s : Sending) (error : Option Error) → IsOfCall call (undoes error) → IsOfCall call (removes s error)
undoes_to (write piece) s None h = absurd h
undoes_to (write piece) s (Some e) h = tt
undoes_to close s None h = absurd h
undoes_to close s (Some e) h = tt
undoes_to abort s None h = tt
undoes_to abort s (Some e) h = absurd h

removes_to : (call : uploads.Call) (s t : Sending) (error : Option Error) → IsOfCall call (removes s error) → IsOfCall call (removes t error)
removes_to (write piece) s t None h = absurd h
removes_to (write piece) s t (Some e) h = tt
removes_to close s t None h = absurd h
removes_to close s t (Some e) h = tt
removes_to abort s t None h = tt
removes_to abort s t (Some e) h = absurd h

module _ (call : uploads.Call) (u u' : ClientUpload) (r : Stepped) where
  check_call : IsWriting call → (t : CheckTurned) → CheckLeads t u u' r → CallStepped call u' r
  check_call writes (check.goes c) h = stepped_as call u' r (goes (checks c)) h.1 (writes_on call u' r (checks c) writes (λ piece. tt))
  check_call writes (check.pends c) h = stepped_as call u' r (waits (checks c)) h.1 (writes_on call u' r (checks c) writes (λ piece. tt))
  check_call writes check.passes h = stepped_as call u' r (goes fills) h.1 (writes_on call u' r fills writes (λ piece. tt))
  check_call writes (check.fails e) h = stepped_as call u' r (failed e) h.1 tt

  begins_call : IsWriting call → BeginsCheck u u' r → CallStepped call u' r
  begins_call writes (steps.built s new_one is answer) = stepped_as call u' r (goes (checks (check.finds s))) answer (writes_on call u' r (checks (check.finds s)) writes (λ piece. tt))
  begins_call writes (steps.not_built e fails is answer) = stepped_as call u' r (failed e) answer tt

  fills_call : IsWriting call → (ids : ℕ → List ℕ) (drawn : ℕ) → Fills ids drawn u u' r → CallStepped call u' r
  fills_call writes ids drawn (steps.built count s portion small n request is answer) = stepped_as call u' r (goes (inserts s count)) answer (writes_on call u' r (inserts s count) writes (λ piece. tt))
  fills_call writes ids drawn (steps.not_built within e left fails is answer) = stepped_as call u' r (goes (undoes (Some e))) answer (writes_on call u' r (undoes (Some e)) writes (λ piece. tt))

  inserts_call : IsWriting call → (count : ℕ) (c : Step Sending (List ℕ)) → HearsChunks count c u u' r → CallStepped call u' r
  inserts_call writes count (came.Pending s) h = stepped_as call u' r (waits (inserts s count)) h.1 (writes_on call u' r (inserts s count) writes (λ piece. tt))
  inserts_call writes count (came.Done reply) (steps.inserted n told_so is answer) = stepped_as call u' r (goes fills) answer (writes_on call u' r fills writes (λ piece. tt))
  inserts_call writes count (came.Done reply) (steps.not_inserted e fails is answer) = stepped_as call u' r (goes (undoes (Some e))) answer (writes_on call u' r (undoes (Some e)) writes (λ piece. tt))
  inserts_call writes count (came.Failed e) h = stepped_as call u' r (goes (undoes (Some e))) h.1 (writes_on call u' r (undoes (Some e)) writes (λ piece. tt))

  rests_call : call ≡ close → (ids : ℕ → List ℕ) (drawn : ℕ) (moment : ℤ) → Rests ids drawn moment u u' r → CallStepped call u' r
  rests_call closes ids drawn moment (steps.nothing_left none n is answer) = stepped_as call u' r (goes (ends (ending_of u moment))) answer (closes_on call u' r (ends (ending_of u moment)) closes tt)
  rests_call closes ids drawn moment (steps.built some small n s request is answer) = stepped_as call u' r (goes (lasts s (ending_of u moment))) answer (closes_on call u' r (lasts s (ending_of u moment)) closes tt)
  rests_call closes ids drawn moment (steps.not_built some most e left fails is answer) = stepped_as call u' r (goes (undoes (Some e))) answer (closes_on call u' r (undoes (Some e)) closes tt)

  last_call : call ≡ close → (ending : uploads.Ending) (c : Step Sending (List ℕ)) → HearsLast ending c u u' r → CallStepped call u' r
  last_call closes ending (came.Pending s) h = stepped_as call u' r (waits (lasts s ending)) h.1 (closes_on call u' r (lasts s ending) closes tt)
  last_call closes ending (came.Done reply) (steps.inserted n told_so is answer) = stepped_as call u' r (goes (ends ending)) answer (closes_on call u' r (ends ending) closes tt)
  last_call closes ending (came.Done reply) (steps.not_inserted e fails is answer) = stepped_as call u' r (goes (undoes (Some e))) answer (closes_on call u' r (undoes (Some e)) closes tt)
  last_call closes ending (came.Failed e) h = stepped_as call u' r (goes (undoes (Some e))) h.1 (closes_on call u' r (undoes (Some e)) closes tt)

  ends_call : call ≡ close → (ending : uploads.Ending) → Ends ending u u' r → CallStepped call u' r
  ends_call closes ending (steps.built s request is answer) = stepped_as call u' r (goes (records s ending)) answer (closes_on call u' r (records s ending) closes tt)
  ends_call closes ending (steps.not_built e fails is answer) = stepped_as call u' r (goes (undoes (Some e))) answer (closes_on call u' r (undoes (Some e)) closes tt)

  record_call : call ≡ close → (ending : uploads.Ending) (c : Step Sending (List ℕ)) → HearsRecord ending c u u' r → CallStepped call u' r
  record_call closes ending (came.Pending s) h = stepped_as call u' r (waits (records s ending)) h.1 (closes_on call u' r (records s ending) closes tt)
  record_call closes ending (came.Done reply) (steps.inserted n told_so is answer) = stepped_as call u' r done answer (subst (λ (c : uploads.Call). DoneOf c u') (sym closes) tt)
  record_call closes ending (came.Done reply) (steps.not_inserted e fails undone_so) = stepped_as call u' r (goes (undoes (Some e))) undone_so.1 (closes_on call u' r (undoes (Some e)) closes tt)
  record_call closes ending (came.Failed e) h = stepped_as call u' r (goes (undoes (Some e))) h.1 (closes_on call u' r (undoes (Some e)) closes tt)

  landed_call : (flight : Flight) (error : Option Error) (left : Option Flight) → IsOfCall call (lands flight error) → LandedAs error left u u' r → CallStepped call u' r
  landed_call flight error None h landed = stepped_as call u' r (goes (undoes error)) landed.1 (lands_to call flight flight error h).1
  landed_call flight error (Some other) h landed = stepped_as call u' r (waits (lands other error)) landed.1 (lands_to call flight other error h).0

  removes_call : (error : Option Error) → IsOfCall call (undoes error) → Removes error u u' r → CallStepped call u' r
  removes_call error h (steps.built s request is answer) = stepped_as call u' r (goes (removes s error)) answer (undoes_to call s error h)
  removes_call error h (steps.not_built d e fails both is answer) = stepped_as call u' r (failed e) answer tt

  undone_call : (error : Option Error) → (error ≡ None → call ≡ abort) → r ≡ undone_by error → CallStepped call u' r
  undone_call None aborts is = stepped_as call u' r done is (subst (λ (c : uploads.Call). DoneOf c u') (sym (aborts refl)) tt)
  undone_call (Some e) aborts is = stepped_as call u' r (failed e) is tt

  removal_call : (s : Sending) (error : Option Error) (c : Step Sending (List ℕ)) → IsOfCall call (removes s error) → HearsRemoval error c u u' r → CallStepped call u' r
  removal_call s error (came.Pending t) h hears = stepped_as call u' r (waits (removes t error)) hears.1 (removes_to call s t error h)
  removal_call s error (came.Done reply) h (steps.removed n wrote_so is answer) = undone_call error (of_abort call s error h) answer
  removal_call s error (came.Done reply) h (steps.not_removed d e fails both is answer) = stepped_as call u' r (failed e) answer tt
  removal_call s error (came.Failed d) h hears = stepped_as call u' r (failed hears.0) hears.3 tt

-- a step stays in its call
pub call_kept : (call : uploads.Call) (old new : Awaited) (log log' : LogTold) (wire : ℤ) (ids : ℕ → List ℕ) (drawn : ℕ) (u u' : ClientUpload) (p : Phase) (r : Stepped) → IsOfCall call p → DoesStep old new log log' wire ids drawn u u' p r → CallStepped call u' r
call_kept call old new log log' wire ids drawn u u' p r h (begins_check is quiet n does) = begins_call call u u' r (writing_by call begins (λ x. x) (λ x. x) (subst (IsOfCall call) is h)) does
call_kept call old new log log' wire ids drawn u u' p r h (checks_on c is n t checks_so leads) = check_call call u u' r (writing_by call (checks c) (λ x. x) (λ x. x) (subst (IsOfCall call) is h)) t leads
call_kept call old new log log' wire ids drawn u u' p r h (is_short is quiet n short at answer) = stepped_as call u' r done answer (done_of call u' (subst IsShort (sym at) short))
call_kept call old new log log' wire ids drawn u u' p r h (fills_next is quiet full does) = fills_call call u u' r (writing_by call fills (λ x. x) (λ x. x) (subst (IsOfCall call) is h)) ids drawn does
call_kept call old new log log' wire ids drawn u u' p r h (inserts_on s count is n c runs hears) = inserts_call call u u' r (writing_by call (inserts s count) (λ x. x) (λ x. x) (subst (IsOfCall call) is h)) count c hears
call_kept call old new log log' wire ids drawn u u' p r h (rests_next moment is quiet does) = rests_call call u u' r (call_is_close call (rests moment) (λ piece x. x) (λ x. x) (subst (IsOfCall call) is h)) ids drawn moment does
call_kept call old new log log' wire ids drawn u u' p r h (inserts_last s ending is n c runs hears) = last_call call u u' r (call_is_close call (lasts s ending) (λ piece x. x) (λ x. x) (subst (IsOfCall call) is h)) ending c hears
call_kept call old new log log' wire ids drawn u u' p r h (ends_next ending is quiet n does) = ends_call call u u' r (call_is_close call (ends ending) (λ piece x. x) (λ x. x) (subst (IsOfCall call) is h)) ending does
call_kept call old new log log' wire ids drawn u u' p r h (records_on s ending is n c runs hears) = record_call call u u' r (call_is_close call (records s ending) (λ piece x. x) (λ x. x) (subst (IsOfCall call) is h)) ending c hears
call_kept call old new log log' wire ids drawn u u' p r h (lands_on flight error is n left landing landed) = landed_call call u u' r flight error left (subst (IsOfCall call) is h) landed
call_kept call old new log log' wire ids drawn u u' p r h (undoes_next error is quiet n does) = removes_call call u u' r error (subst (IsOfCall call) is h) does
call_kept call old new log log' wire ids drawn u u' p r h (removes_on s error is n c runs hears) = removal_call call u u' r s error c (subst (IsOfCall call) is h) hears

-- ---- all steps

placed_as : (at : Bucket) (u v : ClientUpload) → v.aim ≡ u.aim → IsPlaced at u → IsPlaced at v
placed_as at u v same placed =
    record {
      place = subst (λ (a : Aim). IsAt a.bucket at) (sym same) placed.place;
      files = subst (λ (a : Aim). IsNamed a.bucket.files) (sym same) placed.files;
      chunks = subst (λ (a : Aim). IsNamed a.bucket.chunks) (sym same) placed.chunks;
    }

-- They keep the upload sound.
pub steps_kept : (n : ℕ) (call : uploads.Call) (old new : Awaited) (log log' : LogTold) (wire : ℤ) (ids : ℕ → List ℕ) (drawn : ℕ) (u u' : ClientUpload) (p : Phase) (r : Stepped) → HasBounds u → IsSoundPhase u p → IsOfCall call p → DoesSteps n old new log log' wire ids drawn u u' p r → IsKept u.aim u' r × CallStepped call u' r
unfolding DoesSteps
steps_kept zero call old new log log' wire ids drawn u u' p r bounds sound of_call d = (step_kept old new log log' wire u u' r bounds ids drawn p sound d.0, call_kept call old new log log' wire ids drawn u u' p r of_call d.0)
steps_kept (suc n) call old new log log' wire ids drawn u u' p r bounds sound of_call d =
    let kept = step_kept old d.0 log d.1 wire u d.4 (goes d.5) bounds ids d.2 p sound d.6 in
    let call_on = call_kept call old d.0 log d.1 wire ids d.2 u d.4 p (goes d.5) of_call d.6 in
    let rest = steps_kept n call d.0 new d.1 log' wire (ids_behind d.2 ids) d.3 d.4 u' d.5 r kept.bounds kept.stepped_so call_on d.8 in
    (subst (λ (a : Aim). IsKept a u' r) kept.same_aim rest.0, rest.1)

-- And what is known of the file is known behind them: the main induction.
pub steps_known : (n : ℕ) (call : uploads.Call) (at : Bucket) (taken places : List ℕ) (since : ℕ) (wire : ℤ) (old new : Awaited) (log log' : LogTold) (ids : ℕ → List ℕ) (drawn : ℕ) (u u' : ClientUpload) (p : Phase) (r : Stepped) → IsPlaced at u → HasBounds u → IsSoundPhase u p → IsOfCall call p
    → DoesSteps n old new log log' wire ids drawn u u' p r → (calls : List Call) → log ≡ Some calls → KnowsPhase old (past_of places since calls wire) at u taken p → Grew places since calls log' wire (λ past. KnowsStepped call new past at u' taken r)
unfolding DoesSteps
steps_known zero call at taken places since wire old new log log' ids drawn u u' p r placed bounds sound of_call d calls told k = step_known old new log log' at u u' p r placed bounds sound taken calls told places since wire call of_call ids drawn d.0 k
steps_known (suc n) call at taken places since wire old new log log' ids drawn u u' p r placed bounds sound of_call d calls told k =
    let kept = step_kept old d.0 log d.1 wire u d.4 (goes d.5) bounds ids d.2 p sound d.6 in
    let call_on = call_kept call old d.0 log d.1 wire ids d.2 u d.4 p (goes d.5) of_call d.6 in
    grew_on places since calls d.1 log' wire (λ past. KnowsPhase d.0 past at d.4 taken d.5) (λ past. KnowsStepped call new past at u' taken r)
    (step_known old d.0 log d.1 at u d.4 p (goes d.5) placed bounds sound taken calls told places since wire call of_call ids d.2 d.6 k)
    (λ calls' told' k'. steps_known n call at taken places since wire d.0 new d.1 log' (ids_behind d.2 ids) d.3 d.4 u' d.5 r (placed_as at u d.4 kept.same_aim placed) kept.bounds kept.stepped_so call_on d.8 calls' told' k')
