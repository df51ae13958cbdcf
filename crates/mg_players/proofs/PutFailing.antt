-- What the steps of a put's upload fail with: never since it was closed while a write went on, and with too many chunks only where its pieces have as many bytes.
use Rattle.std.proofs.Common.{◌≡◌, ◌≢◌, ◌<◌, ◌≤◌, ◌+◌, ◌-◌, ◌*◌, ◌^◌, ◌++◌, ℕ, zero, suc, ℤ, false, List, [], ◌∷◌, length, take, Option, Some, None, refl, sym, ap, ◌∙◌, subst, inl, inr, arith, add-mul, length-append}
use Rattle.std.proofs.lemmas.List.{length-take-le}
use Rattle.mg_bson.specs.Raw.{fields}
use Rattle.mg_bson.specs.Tree.{Fields}
use Rattle.mg_server.specs.Calls.{Came, Flies, Past, past_of, was_broken}
use Rattle.mg_link.specs.Exec.{Runs, Sending}
use Rattle.mg_link.specs.Link.{Awaited, LogTold, SendsNothing}
use Rattle.mg_link.specs.Log.{Call, reply}
use Rattle.mg_link.specs.declared.action.Step.{Step}
use Rattle.mg_link.specs.declared.action.Step.TheVariants as came
use Rattle.mg_link.specs.declared.error.Error.{Error}
use Rattle.mg_link.specs.declared.error.ErrorKind.TheVariants as kind
use Rattle.mg_link.specs.declared.error.GridFsErrorKind.TheVariants as grid
use Rattle.mg_server.proofs.Calls.{keeps_longer, keeps_on, request_ran, same_keeps, success_ran}
use Rattle.mg_server.proofs.Filed.{Grew}
use Rattle.mg_server.proofs.Owners.{same_some}
use Rattle.mg_server.proofs.Pasts.{fails_anyhow, heard_by}
use Rattle.mg_options.specs.Fields.{fields_in}
use Rattle.mg_ops.specs.Failing.{CannotBeSent, FailsBy}
use Rattle.mg_ops.specs.Writes.{FailedAs, NotInserted, count_of}
use Rattle.mg_gridfs.specs.Buckets.{ClientBucket}
use Rattle.mg_gridfs.specs.Causes as causes
use Rattle.mg_gridfs.specs.Causes.{HeardRemoved, IsCausedFirst, ListsFirst, PhaseUnderway, RemovalFails, UnderwayBy, UploadFails}
use Rattle.mg_gridfs.specs.Checks as check
use Rattle.mg_gridfs.specs.Checks.{CheckTurned, ChecksOn, IsSoundCheck}
use Rattle.mg_gridfs.specs.Commands.{CannotSend, CannotStore, IsRequest, any_lines, chunk_document, deletion_lines, record_lines}
use Rattle.mg_gridfs.specs.Steps as steps
use Rattle.mg_gridfs.specs.Steps.{BeginsCheck, CannotEnd, CannotFill, CheckLeads, DoesStep, DoesSteps, Ends, FailsToUndo, Fills, HearsChunks, HearsLast, HearsRecord, HearsRemoval, LandedAs, Removes, Rests, Stepped, begins_check, checks_on, done, ends_next, failed, fills_next, first_chunks, goes, ids_behind, inserts_last, inserts_on, is_short, lands_on, records_on, removes_on, rests_next, undoes_next, undone_by, waits}
use Rattle.mg_gridfs.specs.Uploads as uploads
use Rattle.mg_gridfs.specs.Uploads.{Aim, ClientUpload, Doing, Ending, Flight, HasBounds, IsOfCall, IsShort, IsSoundPhase, Phase, error_behind, error_by, record_of}
use Rattle.mg_gridfs.proofs.Caused.{CausedStepped, step_caused}
use Rattle.mg_gridfs.proofs.Checked.{checks_caused, landings_caused}
use Rattle.mg_gridfs.proofs.Driving.{call_kept}
use Rattle.mg_gridfs.proofs.Filling.{first_one}
use Rattle.mg_gridfs.proofs.Keeping.{step_kept}
use Rattle.mg_players.specs.PutFailures as fails
use Rattle.mg_players.specs.PutFailures.{AnswersFirst, AnswersPut, FailsEarly, FailsFirst, HasManyChunks, IsCommonKind, IsPutError, NotBuilt, PhaseReads, PutCheckFails, PutFails}
use Rattle.mg_players.specs.Puts.{CutByPhase, IsCutAt, PhaseSupplied, PutTask, Supply, joined, put_aim, put_bucket, total}
use Rattle.mg_players.specs.Sends.{PhaseFlies}
use Rattle.mg_players.proofs.PutChecked.{TurnReads, check_reads}
use Rattle.mg_players.proofs.PutErrors.{IsLimitKind, built_limit, inserted_kind, memory_or, ran_kind}
use Rattle.mg_players.proofs.PutSending.{Fits, its_room, joined_total, step_sends}
use Rattle.mg_players.proofs.PutSupplied.{step_supplied}
use Rattle.mg_players.proofs.PutTelling.{first_on}

-- what is known of a call that goes on, and why one has failed
abbrev pub PhaseStands : PutTask → Awaited → Past → Phase → Type 0
PhaseStands t awaited past p = AnswersPut t (error_behind p) × PhaseReads awaited past (put_bucket t) p

abbrev pub FailsWell : PutTask → Awaited → Past → Stepped → Type 0
FailsWell t awaited past (goes p) = PhaseStands t awaited past p
FailsWell t awaited past (waits p) = PhaseStands t awaited past p
FailsWell t awaited past done = Unit {0}
FailsWell t awaited past (failed e) = PutFails past t e

-- on the way back it has an error in hand
abbrev pub FailsBack : Option Error → Past → PutTask → Error → Type 0
FailsBack None past t e = ⊥
FailsBack (Some original) past t e = FailsFirst past t original × AnswersFirst past t original e

-- why a step fails, by how far its call has come: in the check, or on the way back
abbrev pub FailsAt : Phase → Past → PutTask → Error → Type 0
FailsAt uploads.begins past t e = FailsEarly past t e
FailsAt (uploads.checks c) past t e = FailsEarly past t e
FailsAt uploads.fills past t e = ⊥
FailsAt (uploads.inserts s count) past t e = ⊥
FailsAt (uploads.rests moment) past t e = ⊥
FailsAt (uploads.lasts s ending) past t e = ⊥
FailsAt (uploads.ends ending) past t e = ⊥
FailsAt (uploads.records s ending) past t e = ⊥
FailsAt (uploads.lands flight error) past t e = ⊥
FailsAt (uploads.undoes error) past t e = FailsBack error past t e
FailsAt (uploads.removes s error) past t e = FailsBack error past t e

-- what stands behind a step from such a phase
abbrev pub StepsWell : PutTask → Awaited → Past → Phase → Stepped → Type 0
StepsWell t awaited past p (goes q) = PhaseStands t awaited past q
StepsWell t awaited past p (waits q) = PhaseStands t awaited past q
StepsWell t awaited past p done = Unit {0}
StepsWell t awaited past p (failed e) = FailsAt p past t e

back_fails : (t : PutTask) (past : Past) (e : Error) (error : Option Error) → FailsBack error past t e → PutFails past t e
back_fails t past e None h = absurd h
back_fails t past e (Some original) h = fails.late original h.0 h.1

at_fails : (t : PutTask) (past : Past) (e : Error) (p : Phase) → FailsAt p past t e → PutFails past t e
at_fails t past e uploads.begins h = fails.early h
at_fails t past e (uploads.checks c) h = fails.early h
at_fails t past e uploads.fills h = absurd h
at_fails t past e (uploads.inserts s count) h = absurd h
at_fails t past e (uploads.rests moment) h = absurd h
at_fails t past e (uploads.lasts s ending) h = absurd h
at_fails t past e (uploads.ends ending) h = absurd h
at_fails t past e (uploads.records s ending) h = absurd h
at_fails t past e (uploads.lands flight error) h = absurd h
at_fails t past e (uploads.undoes error) h = back_fails t past e error h
at_fails t past e (uploads.removes s error) h = back_fails t past e error h

fails_well : (t : PutTask) (awaited : Awaited) (past : Past) (p : Phase) (r : Stepped) → StepsWell t awaited past p r → FailsWell t awaited past r
fails_well t awaited past p (goes q) h = h
fails_well t awaited past p (waits q) h = h
fails_well t awaited past p done h = tt
fails_well t awaited past p (failed e) h = at_fails t past e p h

-- ---- as many bytes

more_times : (n m size : ℕ) → n ≤ m → n * size ≤ m * size
more_times n m size less =
    let rest : n + (m - n) ≡ m = omega arith in
    let parts = add-mul n (m - n) size in
    subst (λ (k : ℕ). n * size ≤ k * size) rest (omega (arith, parts))

-- so many chunks of this size, of which some are in front, are among all bytes
many_bytes : (most sent count size front behind taken rest whole : ℕ) → front ≡ sent * size → count * size < behind → taken ≡ front + behind → whole ≡ taken + rest → most ≤ sent + count → most * size < whole
many_bytes most sent count size front behind taken rest whole of_front within parts all many =
    let more = more_times most (sent + count) size many in
    let sum = add-mul sent count size in
    omega (arith, more, sum, of_front, within, parts, all)

-- one chunk fewer leaves some bytes behind it
pub one_fewer : (most sent count size behind : ℕ) → 0 < size → 0 < count → count * size ≤ behind → most < sent + count → (fewer : ℕ) × (fewer * size < behind) × (most ≤ sent + fewer)
one_fewer most sent zero size behind room some within many = absurd (omega (arith, some))
one_fewer most sent (suc fewer) size behind room some within many =
    let same : suc fewer ≡ fewer + 1 = omega arith in
    let sum = add-mul fewer 1 size in
    let all : (fewer + 1) * size ≤ behind = subst (λ (n : ℕ). n * size ≤ behind) same within in
    (fewer, omega (arith, all, sum, room), omega (arith, many))

pub some_bytes : (bytes : List ℕ) → bytes ≢ [] → 0 < length bytes
some_bytes [] some = absurd (some refl)
some_bytes (x ∷ bytes) some = omega arith

-- the first of some documents cannot be sent
abbrev FirstFails : Error → List Fields → Type 0
FirstFails e [] = ⊥
FirstFails e (d ∷ ds) = CannotBeSent d e

module _ (t : PutTask) (taken rest : List ℕ) (whole : joined t.pieces ≡ taken ++ rest) (u : ClientUpload) (aim : u.aim ≡ put_aim t) where
  all_bytes : total t.pieces ≡ length taken + length rest
  all_bytes = sym (joined_total t.pieces) ∙ ap length whole ∙ length-append taken rest

  pub has_many : (count : ℕ) → IsCutAt u taken 0 → count * u.aim.size < length u.behind → 2 ^ 31 ≤ u.sent + count → HasManyChunks t
  has_many count cut within many =
      let none : u.sent + 0 ≡ u.sent = omega arith in
      let front : length cut.front ≡ u.sent * u.aim.size = cut.even ∙ ap (λ (n : ℕ). n * u.aim.size) none in
      let parts : length taken ≡ length cut.front + length u.behind = ap length cut.parts ∙ length-append cut.front u.behind in
      subst (λ (a : Aim). 2 ^ 31 * a.size < total t.pieces) aim (many_bytes (2 ^ 31) u.sent count u.aim.size (length cut.front) (length u.behind) (length taken) (length rest) (total t.pieces) front within parts all_bytes many)

  -- the next full chunks pass the greatest number
  full_many : 0 < u.aim.size → (count : ℕ) → 0 < count → IsCutAt u taken 0 → count * u.aim.size ≤ length u.behind → 2 ^ 31 < u.sent + count → HasManyChunks t
  full_many room count some cut within many = let x = one_fewer (2 ^ 31) u.sent count u.aim.size (length u.behind) room some within many in has_many x.0 cut x.1 x.2

  -- so does the last one
  last_many : u.behind ≢ [] → IsCutAt u taken 0 → 2 ^ 31 < u.sent + 1 → HasManyChunks t
  last_many some cut many = let left = some_bytes u.behind some in has_many 0 cut (omega (arith, left)) (omega (arith, many))

  built_as : (e : Error) → NotBuilt u.aim e → IsPutError t e
  built_as e cannot = inr (inl (subst (λ (a : Aim). NotBuilt a e) aim cannot))

  module _ (bounds : HasBounds u) (ids : ℕ → List ℕ) (twelve : (k : ℕ) → length (ids k) ≡ 12) where
    fills_cause : u.aim.size ≤ length u.behind → IsCutAt u taken 0 → (e : Error) → CannotFill u ids e → IsPutError t e
    fills_cause full cut e (steps.too_many count some few within most why is) = inr (inr (is, full_many bounds.size.some count some cut within most))
    fills_cause full cut e (steps.too_large count portion small cannot) =
        built_as e
        (fails.full_chunks (first_chunks u ids count)
        (record {
          ids = ids;
          first = u.sent;
          count = count;
          bytes = take (count * u.aim.size) u.behind;
          some = portion.some;
          few = portion.few;
          small = small;
          even = length-take-le (count * u.aim.size) u.behind portion.within;
          these = refl;
          together = portion.together;
        }) twelve cannot)
    fills_cause full cut e (steps.not_encoded d is cannot) =
        built_as e (fails.one_chunk (ids 0) u.sent (take u.aim.size u.behind) (twelve 0) (length-take-le u.aim.size u.behind full) (subst (FirstFails e) (sym is ∙ first_one u ids bounds.size.some full) cannot))

    end_cause : (document : Fields) → document ≡ chunk_document (ids 0) u.aim.id u.sent u.behind → u.behind ≢ [] → IsShort u → IsCutAt u taken 0 → (e : Error) → CannotEnd u (document ∷ []) e → IsPutError t e
    end_cause document this some short cut e (steps.too_many most is) = inr (inr (is, last_many some cut most))
    end_cause document this some short cut e (steps.too_large small cannot) =
        built_as e (fails.last_chunk document (record { id = ids 0; number = u.sent; bytes = u.behind; some = some; short = short; small = small; this = this }) (twelve 0) cannot)

memory_first : (t : PutTask) (Cause : Error → Type 0) (e : Error) → (Cause e → IsPutError t e) → FailsBy Cause e → IsPutError t e
memory_first t Cause e each (inl full) = inl (memory_or (λ x. ⊥) e (λ x none. absurd none) (inl full))
memory_first t Cause e each (inr cause) = each cause

-- a put fails so since its upload did
caused_first : (t : PutTask) (past : Past) (e : Error) → IsPutError t e → IsCausedFirst past (put_aim t) (Some e) → UploadFails past (put_aim t) e
caused_first t past e its (inl failed_so) = failed_so
caused_first t past e (inl common) (inr closes) = absurd (subst (λ (x : Error). IsCommonKind x.kind) closes common)
caused_first t past e (inr (inl cannot)) (inr closes) = absurd (subst (λ (x : Error). IsLimitKind x.kind) closes (built_limit (put_aim t) e cannot))
caused_first t past e (inr (inr many)) (inr closes) = let bad : kind.FileTooLarge ≡ kind.GridFs grid.WriteInProgress = sym (ap (λ (x : Error). x.kind) many.0) ∙ ap (λ (x : Error). x.kind) closes in absurd cc

fails_first : (t : PutTask) (past : Past) (e : Error) → IsPutError t e → IsCausedFirst past (put_aim t) (Some e) → FailsFirst past t e
fails_first t past e its first = record { by_upload = caused_first t past e its first; of_put = its }

-- a put gives up no call: it removes its chunks for an error
undoes_some : (call : uploads.Call) (rest : List ℕ) (error : Option Error) → Fits call rest → IsOfCall call (uploads.undoes error) → error ≢ None
undoes_some (uploads.write piece) rest error fits own none = subst (λ (x : Option Error). IsOfCall (uploads.write piece) (uploads.undoes x)) none own
undoes_some uploads.close rest error fits own none = subst (λ (x : Option Error). IsOfCall uploads.close (uploads.undoes x)) none own
undoes_some uploads.abort rest error fits own none = fits

removes_some : (call : uploads.Call) (rest : List ℕ) (s : Sending) (error : Option Error) → Fits call rest → IsOfCall call (uploads.removes s error) → error ≢ None
removes_some (uploads.write piece) rest s error fits own none = subst (λ (x : Option Error). IsOfCall (uploads.write piece) (uploads.removes s x)) none own
removes_some uploads.close rest s error fits own none = subst (λ (x : Option Error). IsOfCall uploads.close (uploads.removes s x)) none own
removes_some uploads.abort rest s error fits own none = fits

-- what an upload is removed for that goes on
pub caused_error : (t : PutTask) (awaited : Awaited) (past : Past) (aim : Aim) → aim ≡ put_aim t → (d : Doing) (e : Error) → error_by d ≡ Some e → AnswersPut t (error_by d) → UnderwayBy awaited past aim d → FailsFirst past t e
caused_error t awaited past aim same d e is its under =
    fails_first t past e (subst (AnswersPut t) is its) (subst (λ (a : Aim). IsCausedFirst past a (Some e)) same (subst (IsCausedFirst past aim) is (first_in d under)))
  where
    first_of : (p : Phase) → PhaseUnderway awaited past aim p → IsCausedFirst past aim (error_behind p)
    first_of uploads.begins h = tt
    first_of (uploads.checks c) h = tt
    first_of uploads.fills h = tt
    first_of (uploads.inserts s n) h = tt
    first_of (uploads.rests moment) h = tt
    first_of (uploads.lasts s ending) h = tt
    first_of (uploads.ends ending) h = tt
    first_of (uploads.records s ending) h = tt
    first_of (uploads.lands flight error) h = h.1
    first_of (uploads.undoes error) h = h
    first_of (uploads.removes s error) h = h.1

    first_in : (x : Doing) → UnderwayBy awaited past aim x → IsCausedFirst past aim (error_by x)
    first_in uploads.idle h = tt
    first_in (uploads.busy call p) h = first_of p h
    first_in uploads.closed h = tt

-- ---- one step

module _ (t : PutTask) (old new : Awaited) (log log' : LogTold) (wire : ℤ) (u u' : ClientUpload) (p : Phase) (r : Stepped) (past : Past) where
  well_as : (q : Stepped) → r ≡ q → StepsWell t new past p q → StepsWell t new past p r
  well_as q is h = subst (StepsWell t new past p) (sym is) h

  -- it fails in the check, or on the way back
  abbrev Early : Type 0
  Early = (e : Error) → FailsEarly past t e → FailsAt p past t e

  abbrev Back : Option Error → Type 0
  Back error = (e : Error) → FailsBack error past t e → FailsAt p past t e

  begins_well : Early → u.aim ≡ put_aim t → BeginsCheck u u' r → StepsWell t new past p r
  begins_well early aim (steps.built s new_one is answer) = well_as (goes (uploads.checks (check.finds s))) answer (tt, tt)
  begins_well early aim (steps.not_built e failed_so is answer) = well_as (failed e) answer (early e (fails.check_fails (by_cause failed_so)))
    where
      by_cause : FailsBy (CannotSend (any_lines u.aim.bucket)) e → PutCheckFails past (put_bucket t) e
      by_cause (inl full) = fails.out_of_memory (ap (λ (x : Error). x.kind) full)
      by_cause (inr cannot) = fails.not_built (any_lines (put_bucket t)) (fails.the_find refl) (subst (λ (a : Aim). CannotSend (any_lines a.bucket) e) aim cannot)

  check_well : Early → (c : CheckTurned) → TurnReads new past (put_bucket t) c → CheckLeads c u u' r → StepsWell t new past p r
  check_well early (check.goes c) reads_so h = well_as (goes (uploads.checks c)) h.1 (tt, reads_so)
  check_well early (check.pends c) reads_so h = well_as (waits (uploads.checks c)) h.1 (tt, reads_so)
  check_well early check.passes reads_so h = well_as (goes uploads.fills) h.1 (tt, tt)
  check_well early (check.fails e) reads_so h = well_as (failed e) h.1 (early e (fails.check_fails reads_so))

  fills_well : (ids : ℕ → List ℕ) (drawn : ℕ) → ((e : Error) → CannotFill u ids e → IsPutError t e) → Fills ids drawn u u' r → StepsWell t new past p r
  fills_well ids drawn cause (steps.built count s portion small n request is answer) = well_as (goes (uploads.inserts s count)) answer (tt, tt)
  fills_well ids drawn cause (steps.not_built within e left failed_so is answer) = well_as (goes (uploads.undoes (Some e))) answer (memory_first t (CannotFill u ids) e (cause e) failed_so, tt)

  chunks_well : (s : Sending) (count : ℕ) (c : Step Sending (List ℕ)) → Runs old new log log' wire s c → HearsChunks count c u u' r → StepsWell t new past p r
  chunks_well s count (came.Pending s') runs h = well_as (waits (uploads.inserts s' count)) h.1 (tt, tt)
  chunks_well s count (came.Done bytes) runs (steps.inserted n told_so is answer) = well_as (goes uploads.fills) answer (tt, tt)
  chunks_well s count (came.Done bytes) runs (steps.not_inserted e failed_so is answer) = well_as (goes (uploads.undoes (Some e))) answer (inl (memory_or (NotInserted count (fields bytes)) e (λ x h. inserted_kind count (fields bytes) x h) failed_so), tt)
  chunks_well s count (came.Failed e) runs h = well_as (goes (uploads.undoes (Some e))) h.1 (inl (ran_kind old new log log' wire s e runs), tt)

  rests_well : (ids : ℕ → List ℕ) (drawn : ℕ) (moment : ℤ) → (u.behind ≢ [] → (e : Error) → CannotEnd u (chunk_document (ids 0) u.aim.id u.sent u.behind ∷ []) e → IsPutError t e) → Rests ids drawn moment u u' r → StepsWell t new past p r
  rests_well ids drawn moment cause (steps.nothing_left none n is answer) = well_as (goes (uploads.ends (steps.ending_of u moment))) answer (tt, tt)
  rests_well ids drawn moment cause (steps.built some small n s request is answer) = well_as (goes (uploads.lasts s (steps.ending_of u moment))) answer (tt, tt)
  rests_well ids drawn moment cause (steps.not_built some most e left failed_so is answer) =
      well_as (goes (uploads.undoes (Some e))) answer (memory_first t (CannotEnd u (chunk_document (ids 0) u.aim.id u.sent u.behind ∷ [])) e (cause some e) failed_so, tt)

  last_well : (s : Sending) (ending : Ending) (c : Step Sending (List ℕ)) → Runs old new log log' wire s c → HearsLast ending c u u' r → StepsWell t new past p r
  last_well s ending (came.Pending s') runs h = well_as (waits (uploads.lasts s' ending)) h.1 (tt, tt)
  last_well s ending (came.Done bytes) runs (steps.inserted n told_so is answer) = well_as (goes (uploads.ends ending)) answer (tt, tt)
  last_well s ending (came.Done bytes) runs (steps.not_inserted e failed_so is answer) = well_as (goes (uploads.undoes (Some e))) answer (inl (memory_or (NotInserted 1 (fields bytes)) e (λ x h. inserted_kind 1 (fields bytes) x h) failed_so), tt)
  last_well s ending (came.Failed e) runs h = well_as (goes (uploads.undoes (Some e))) h.1 (inl (ran_kind old new log log' wire s e runs), tt)

  ends_well : (ending : Ending) → u.aim ≡ put_aim t → Ends ending u u' r → StepsWell t new past p r
  ends_well ending aim (steps.built s request is answer) = well_as (goes (uploads.records s ending)) answer (tt, tt)
  ends_well ending aim (steps.not_built e failed_so is answer) =
      let document = record_of u.aim ending in
      well_as (goes (uploads.undoes (Some e))) answer
      (memory_first t (CannotStore (record_lines u.aim.bucket document) (document ∷ [])) e (λ cannot. inr (inl (subst (λ (a : Aim). NotBuilt a e) aim (fails.the_record ending cannot)))) failed_so, tt)

  record_well : (s : Sending) (ending : Ending) (c : Step Sending (List ℕ)) → Runs old new log log' wire s c → HearsRecord ending c u u' r → StepsWell t new past p r
  record_well s ending (came.Pending s') runs h = well_as (waits (uploads.records s' ending)) h.1 (tt, tt)
  record_well s ending (came.Done bytes) runs (steps.inserted n told_so is answer) = well_as done answer tt
  record_well s ending (came.Done bytes) runs (steps.not_inserted e failed_so undoes_so) = well_as (goes (uploads.undoes (Some e))) undoes_so.1 (inl (memory_or (NotInserted 1 (fields bytes)) e (λ x h. inserted_kind 1 (fields bytes) x h) failed_so), tt)
  record_well s ending (came.Failed e) runs h = well_as (goes (uploads.undoes (Some e))) h.1 (inl (ran_kind old new log log' wire s e runs), tt)

  -- ---- the way back

  landed_well : (error : Option Error) (left : Option Flight) → AnswersPut t error → LandedAs error left u u' r → StepsWell t new past p r
  landed_well error None its h = well_as (goes (uploads.undoes error)) h.1 (its, tt)
  landed_well error (Some flight) its h = well_as (waits (uploads.lands flight error)) h.1 (its, tt)

  removal_cause : (Cause : Error → Type 0) (d : Error) → (Cause d → RemovalFails past (put_aim t) d) → FailsBy Cause d → RemovalFails past (put_aim t) d
  removal_cause Cause d leads (inl full) = causes.out_of_memory (ap (λ (x : Error). x.kind) full)
  removal_cause Cause d leads (inr cause) = leads cause

  -- the answer holds the first error
  holds_first : (error : Option Error) (d e : Error) → error ≢ None → AnswersPut t error → IsCausedFirst past (put_aim t) error → RemovalFails past (put_aim t) d → FailsToUndo error d e → FailsBack error past t e
  holds_first None d e some its first failed_so both = absurd (some refl)
  holds_first (Some original) d e some its first failed_so both = (fails_first t past original its first, fails.not_removed d failed_so both)

  removes_well : (error : Option Error) → Back error → error ≢ None → u.aim ≡ put_aim t → AnswersPut t error → IsCausedFirst past (put_aim t) error → Removes error u u' r → StepsWell t new past p r
  removes_well error back some aim its first (steps.built s request is answer) = well_as (goes (uploads.removes s error)) answer (its, tt)
  removes_well error back some aim its first (steps.not_built d e failed_so both is answer) =
      well_as (failed e) answer (back e (holds_first error d e some its first (removal_cause (CannotSend (deletion_lines u.aim.bucket u.aim.id)) d (λ cannot. causes.not_built (subst (λ (a : Aim). CannotSend (deletion_lines a.bucket a.id) d) aim cannot)) failed_so) both))

  undone_well : (error : Option Error) → Back error → AnswersPut t error → IsCausedFirst past (put_aim t) error → HeardRemoved past (put_aim t) → StepsWell t new past p (undone_by error)
  undone_well None back its first removed = tt
  undone_well (Some e) back its first removed = back e (fails_first t past e its first, fails.first_error removed refl)

  abbrev Removal : Fields
  Removal = fields_in (deletion_lines (put_bucket t) t.id)

  removal_well : (s : Sending) (error : Option Error) → Back error → error ≢ None → AnswersPut t error → IsCausedFirst past (put_aim t) error → (c : Step Sending (List ℕ)) → Runs old new log log' wire s c → HearsRemoval error c u u' r → Came new past Removal false c → StepsWell t new past p r
  removal_well s error back some its first (came.Pending s') runs h flies = well_as (waits (uploads.removes s' error)) h.1 (its, tt)
  removal_well s error back some its first (came.Done bytes) runs (steps.removed n wrote_so is answer) heard =
      well_as (undone_by error) answer (undone_well error back its first (record { bytes = bytes; heard = heard_by past Removal false (reply bytes) heard; success = success_ran old new log log' wire s bytes runs; n = n; wrote_so = wrote_so }))
  removal_well s error back some its first (came.Done bytes) runs (steps.not_removed d e failed_so both is answer) heard =
      well_as (failed e) answer (back e (holds_first error d e some its first (removal_cause (FailedAs (count_of (fields bytes)) (fields bytes)) d (λ cause. causes.by_deletion (was_broken bytes heard (success_ran old new log log' wire s bytes runs) cause)) failed_so) both))
  removal_well s error back some its first (came.Failed d) runs h failed_so = well_as (failed h.0) h.3 (back h.0 (holds_first error d h.0 some its first (causes.by_deletion (fails_anyhow past Removal false ListsFirst d failed_so)) h.1))

module _ (t : PutTask) (taken rest : List ℕ) (whole : joined t.pieces ≡ taken ++ rest) (old new : Awaited) (log log' : LogTold) (wire : ℤ) (u u' : ClientUpload) (r : Stepped) (aim : u.aim ≡ put_aim t) (bounds : HasBounds u) (calls : List Call) (told : log ≡ Some calls) (places : List ℕ) (since : ℕ) (room : since ≤ length calls) (call : uploads.Call) (fits : Fits call rest) (ids : ℕ → List ℕ) (twelve : (k : ℕ) → length (ids k) ≡ 12) where
  cut_at : (p q : Phase) → p ≡ q → CutByPhase u taken p → CutByPhase u taken q
  cut_at p q is h = subst (CutByPhase u taken) is h

  abbrev Before : Past
  Before = past_of places since calls wire

  its_at : (p q : Phase) → p ≡ q → PhaseStands t old Before p → PhaseStands t old Before q
  its_at p q is h = subst (PhaseStands t old Before) is h

  under_at : (p q : Phase) → p ≡ q → PhaseUnderway old Before u.aim p → PhaseUnderway old Before (put_aim t) q
  under_at p q is h = subst (λ (a : Aim). PhaseUnderway old Before a q) aim (subst (PhaseUnderway old Before u.aim) is h)

  abbrev Behind : Phase → Type 0
  Behind p = Grew places since calls log' wire (λ past. StepsWell t new past p r)

  quietly : (p : Phase) → SendsNothing old new log log' → StepsWell t new Before p r → Behind p
  quietly p q h = (calls, q.log_same ∙ told, same_keeps calls, h)

  pub step_well : (drawn : ℕ) (p : Phase) → IsSoundPhase u p → IsOfCall call p → CutByPhase u taken p → PhaseStands t old Before p → PhaseUnderway old Before u.aim p → DoesStep old new log log' wire ids drawn u u' p r → Behind p
  step_well drawn p sound own cut its under does = by_step does
    where
      -- the log behind it
      grew : Grew places since calls log' wire (λ past. CausedStepped call new past u.aim r)
      grew = step_caused checks_caused landings_caused old new log log' wire u u' p r bounds sound calls told places since room call own ids drawn does under

      anyhow : ((past : Past) → StepsWell t new past p r) → Behind p
      anyhow h = (grew.0, grew.1, grew.2, h (past_of places since grew.0 wire))

      by_step : DoesStep old new log log' wire ids drawn u u' p r → Behind p
      by_step (begins_check is q n begins) = quietly p q (begins_well t old new log log' wire u u' p r Before (λ e x. subst (λ (y : Phase). FailsAt y Before t e) (sym is) x) aim begins)
      by_step (checks_on c is n x on leads) =
          let same : u.aim.bucket ≡ put_bucket t = ap (λ (a : Aim). a.bucket) aim in
          let x_on : ChecksOn old new log log' wire (put_bucket t) c x = subst (λ (b : ClientBucket). ChecksOn old new log log' wire b c x) same on in
          let x_sound : IsSoundCheck (put_bucket t) c = subst (λ (b : ClientBucket). IsSoundCheck b c) same (subst (IsSoundPhase u) is sound).0 in
          let g = check_reads old new log log' wire (put_bucket t) calls told places since room c x x_sound x_on (under_at p (uploads.checks c) is under) (its_at p (uploads.checks c) is its).1 in
          (g.0, g.1, g.2, check_well t old new log log' wire u u' p r (past_of places since g.0 wire) (λ e h. subst (λ (y : Phase). FailsAt y (past_of places since g.0 wire) t e) (sym is) h) x g.3.0 leads)
      by_step (is_short is q n short same answer) = quietly p q (well_as t old new log log' wire u u' p r Before done answer tt)
      by_step (fills_next is q full fills_so) = quietly p q (fills_well t old new log log' wire u u' p r Before ids drawn (fills_cause t taken rest whole u aim bounds ids twelve full (cut_at p uploads.fills is cut)) fills_so)
      by_step (inserts_on s count is n c runs hears) = anyhow (λ past. chunks_well t old new log log' wire u u' p r past s count c runs hears)
      by_step (rests_next moment is q rests_so) = quietly p q (rests_well t old new log log' wire u u' p r Before ids drawn moment (λ some. end_cause t taken rest whole u aim bounds ids twelve (chunk_document (ids 0) u.aim.id u.sent u.behind) refl some (subst (IsSoundPhase u) is sound) (cut_at p (uploads.rests moment) is cut)) rests_so)
      by_step (inserts_last s ending is n c runs hears) = anyhow (λ past. last_well t old new log log' wire u u' p r past s ending c runs hears)
      by_step (ends_next ending is q n ends_so) = quietly p q (ends_well t old new log log' wire u u' p r Before ending aim ends_so)
      by_step (records_on s ending is n c runs hears) = anyhow (λ past. record_well t old new log log' wire u u' p r past s ending c runs hears)
      by_step (lands_on flight error is n left landing landed) = anyhow (λ past. landed_well t old new log log' wire u u' p r past error left (its_at p (uploads.lands flight error) is its).0 landed)
      by_step (undoes_next error is q n removes_so) = quietly p q (removes_well t old new log log' wire u u' p r Before error (λ e x. subst (λ (y : Phase). FailsAt y Before t e) (sym is) x) (undoes_some call rest error fits (subst (IsOfCall call) is own)) aim (its_at p (uploads.undoes error) is its).0 (under_at p (uploads.undoes error) is under) removes_so)
      by_step (removes_on s error is n c runs hears) =
          let request : IsRequest false (deletion_lines (put_bucket t) t.id) s = subst (λ (a : Aim). IsRequest false (deletion_lines a.bucket a.id) s) aim (subst (IsSoundPhase u) is sound) in
          let now = under_at p (uploads.removes s error) is under in
          let ran = request_ran old new log log' wire s (fields_in (deletion_lines (put_bucket t) t.id)) false c request.command_is request.retries_is runs calls told places since room (subst (λ (fs : Fields). Flies old Before fs s.stage) request.command_is now.0) in
          let past = past_of places since ran.calls' wire in
          (ran.calls', ran.told, ran.grows.keeps, removal_well t old new log log' wire u u' p r past s error (λ e x. subst (λ (y : Phase). FailsAt y past t e) (sym is) x) (removes_some call rest s error fits (subst (IsOfCall call) is own)) (its_at p (uploads.removes s error) is its).0 (first_on Before past ran.grows (put_aim t) error now.1) c runs hears ran.came)

-- ---- all steps

pub steps_fail : (supply : Supply) (t : PutTask) (taken rest : List ℕ) → joined t.pieces ≡ taken ++ rest → (call : uploads.Call) → Fits call rest → (n : ℕ) (old new : Awaited) (log log' : LogTold) (wire : ℤ) (ids : ℕ → List ℕ) (drawn : ℕ) → ((k : ℕ) → length (ids k) ≡ 12) → (u u' : ClientUpload) (p : Phase) (r : Stepped) → u.aim ≡ put_aim t → HasBounds u → IsSoundPhase u p → IsOfCall call p → CutByPhase u taken p
    → PhaseFlies supply t p → PhaseSupplied supply t ids u.sent p → (calls : List Call) → log ≡ Some calls → (places : List ℕ) (since : ℕ) → since ≤ length calls → PhaseStands t old (past_of places since calls wire) p → PhaseUnderway old (past_of places since calls wire) u.aim p → DoesSteps n old new log log' wire ids drawn u u' p r → Grew places since calls log' wire (λ past. FailsWell t new past r)
unfolding DoesSteps
steps_fail supply t taken rest whole call fits zero old new log log' wire ids drawn twelve u u' p r aim bounds sound own cut flies so calls told places since room its under d =
    let w = step_well t taken rest whole old new log log' wire u u' r aim bounds calls told places since room call fits ids twelve drawn p sound own cut its under d.0 in
    (w.0, w.1, w.2, fails_well t new (past_of places since w.0 wire) p r w.3)
steps_fail supply t taken rest whole call fits (suc n) old new log log' wire ids drawn twelve u u' p r aim bounds sound own cut flies so calls told places since room its under d =
    let kept = step_kept old d.0 log d.1 wire u d.4 (goes d.5) bounds ids d.2 p sound d.6 in
    let s = step_sends supply t taken rest whole call fits old d.0 log d.1 wire u d.4 (goes d.5) aim (its_room t u aim bounds) ids d.2 p sound own cut flies so d.6 in
    let own_on = call_kept call old d.0 log d.1 wire ids d.2 u d.4 p (goes d.5) own d.6 in
    let w = step_well t taken rest whole old d.0 log d.1 wire u d.4 (goes d.5) aim bounds calls told places since room call fits ids twelve d.2 p sound own cut its under d.6 in
    let g = step_caused checks_caused landings_caused old d.0 log d.1 wire u d.4 p (goes d.5) bounds sound calls told places since room call own ids d.2 d.6 under in
    let same : w.0 ≡ g.0 = same_some w.0 g.0 (sym w.1 ∙ g.1) in
    let its_on : PhaseStands t d.0 (past_of places since g.0 wire) d.5 = subst (λ (cs : List Call). PhaseStands t d.0 (past_of places since cs wire) d.5) same w.3 in
    let longer = keeps_longer calls g.0 g.2 in
    let room_on : since ≤ length g.0 = omega (arith, room, longer) in
    let under_on = subst (λ (a : Aim). PhaseUnderway d.0 (past_of places since g.0 wire) a d.5) (sym kept.same_aim) g.3 in
    let next = step_supplied supply t call ids d.2 u d.4 (goes d.5) old d.0 log d.1 wire p own so d.6 in
    let more = steps_fail supply t taken rest whole call fits n d.0 new d.1 log' wire (ids_behind d.2 ids) d.3 (λ k. twelve (d.2 + k)) d.4 u' d.5 r (kept.same_aim ∙ aim) kept.bounds kept.stepped_so own_on s.1.0 s.1.1 next g.0 g.1 places since room_on its_on under_on d.8 in
    (more.0, more.1, keeps_on calls g.0 more.0 g.2 more.2, more.3)
