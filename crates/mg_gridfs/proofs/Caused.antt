-- What the answers of an upload are caused by.
use Rattle.std.proofs.Common.{◌≡◌, ◌≤◌, ◌+◌, ◌*◌, ◌^◌, ℕ, zero, suc, ℤ, false, List, [], ◌∷◌, length, take, Option, Some, None, refl, sym, ap, ◌∙◌, subst, inl, inr, arith}
use Rattle.std.proofs.lemmas.List.{length-take-le}
use Rattle.std.specs.Prelude.{option_map}
use Rattle.mg_bson.specs.Raw.{fields}
use Rattle.mg_bson.specs.Tree.{Fields}
use Rattle.mg_server.specs.Calls.{Came, Flies, Grows, Past, past_of, was_broken}
use Rattle.mg_link.specs.Exec.{Runs, Sending, Stage}
use Rattle.mg_link.specs.Chunks.{chunked}
use Rattle.mg_server.specs.Files.{AreChunks}
use Rattle.mg_link.specs.Link.{Awaited, SendsNothing, LogTold}
use Rattle.mg_link.specs.Log.{Call, reply}
use Rattle.mg_link.specs.declared.action.Step.{Step}
use Rattle.mg_link.specs.declared.action.Step.TheVariants as came
use Rattle.mg_link.specs.declared.error.Error.{Error}
use Rattle.mg_server.proofs.Calls.{RequestRan, keeps_longer, keeps_on, log_grows, request_ran, same_keeps, success_ran}
use Rattle.mg_server.proofs.Chunking.{length-chunked}
use Rattle.mg_server.proofs.Filed.{Grew}
use Rattle.mg_server.proofs.Owners.{same_some}
use Rattle.mg_server.proofs.Pasts.{fails_anyhow, heard_by, request_fails_grows}
use Rattle.mg_link.proofs.Waits.{waits_still}
use Rattle.mg_options.specs.Fields.{Line, fields_in}
use Rattle.mg_ops.specs.Failing.{CannotBeSent, FailsBy}
use Rattle.mg_ops.specs.Writes.{FailedAs, NotInserted, count_of}
use Rattle.mg_gridfs.specs.Causes as causes
use Rattle.mg_gridfs.specs.Causes.{ArePortion, CallFails, CheckFails, CheckUnderway, FlightUnderway, HeardRemoved, IsCausedFirst, ListsFirst, ListsFor, PhaseUnderway, RemovalFails, UploadFails}
use Rattle.mg_gridfs.specs.Checks as check
use Rattle.mg_gridfs.specs.Checks.{CheckTurned, ChecksOn, ClientCheck, IsSoundCheck, LandsCheck, still_of}
use Rattle.mg_gridfs.specs.Commands.{CannotSend, IsRequest, any_lines, chunk_document, chunks_lines, deletion_lines, record_lines}
use Rattle.mg_gridfs.specs.Steps as steps
use Rattle.mg_gridfs.specs.Steps.{BeginsCheck, CannotEnd, CannotFill, CheckLeads, DoesStep, DoesSteps, Ends, FailsToUndo, Fills, HearsChunks, HearsLast, HearsRecord, HearsRemoval, IsPortion, LandedAs, LandsFlight, Removes, Rests, Stepped, begins_check, checks_on, done, ends_next, failed, fills_next, first_chunks, goes, ids_behind, inserts_last, inserts_on, is_short, lands_on, not_encoded, of_check, of_command, records_on, removes_on, rests_next, too_large, too_many, undoes_next, undone_by, waits}
use Rattle.mg_gridfs.specs.Uploads as uploads
use Rattle.mg_gridfs.specs.Uploads.{Aim, ClientUpload, Ending, Flight, HasBounds, IsFlight, IsInsertion, IsLast, IsOfCall, IsShort, IsSoundPhase, Phase, abort, by_check, by_command, close, ends, fills, inserts, lands, lasts, record_of, records, removes, rests, undoes, write}
use Rattle.mg_gridfs.proofs.Driving.{call_kept}
use Rattle.mg_gridfs.proofs.Filling.{first_one}
use Rattle.mg_gridfs.proofs.Keeping.{same_pending, step_kept}
use Rattle.mg_gridfs.proofs.Storing.{of_close, of_write}

-- ---- a later time

module _ (past past' : Past) (grows : Grows past past') where
  upload_fails_grows : (aim : Aim) (e : Error) → UploadFails past aim e → UploadFails past' aim e
  upload_fails_grows aim e (causes.out_of_memory is) = causes.out_of_memory is
  upload_fails_grows aim e (causes.chunks_not_built documents portion cannot) = causes.chunks_not_built documents portion cannot
  upload_fails_grows aim e (causes.document_not_built id number bytes long cannot) = causes.document_not_built id number bytes long cannot
  upload_fails_grows aim e (causes.last_not_built document rest cannot) = causes.last_not_built document rest cannot
  upload_fails_grows aim e (causes.record_not_built ending cannot) = causes.record_not_built ending cannot
  upload_fails_grows aim e (causes.by_chunks documents fails) = causes.by_chunks documents (request_fails_grows past past' grows (fields_in (chunks_lines aim.bucket documents)) false (ListsFor documents) e fails)
  upload_fails_grows aim e (causes.by_record ending fails) = causes.by_record ending (request_fails_grows past past' grows (fields_in (record_lines aim.bucket (record_of aim ending))) false (ListsFor (record_of aim ending ∷ [])) e fails)
  upload_fails_grows aim e (causes.too_large first count bound some few past_most is) = causes.too_large first count bound some few past_most is

  first_grows : (aim : Aim) (error : Option Error) → IsCausedFirst past aim error → IsCausedFirst past' aim error
  first_grows aim None h = tt
  first_grows aim (Some e) (inl fails) = inl (upload_fails_grows aim e fails)
  first_grows aim (Some e) (inr closes) = inr closes

-- ---- what a step is caused by

abbrev pub DoneCaused : uploads.Call → Past → Aim → Type 0
DoneCaused (write piece) past aim = Unit {0}
DoneCaused close past aim = Unit {0}
DoneCaused abort past aim = HeardRemoved past aim

abbrev pub FailedCaused : uploads.Call → Past → Aim → Error → Type 0
FailedCaused (write piece) past aim e = CallFails past aim e
FailedCaused close past aim e = CallFails past aim e
FailedCaused abort past aim e = (d : Error) × RemovalFails past aim d × FailsToUndo None d e

abbrev pub CausedStepped : uploads.Call → Awaited → Past → Aim → Stepped → Type 0
CausedStepped call awaited past aim (goes p) = PhaseUnderway awaited past aim p
CausedStepped call awaited past aim (waits p) = PhaseUnderway awaited past aim p
CausedStepped call awaited past aim done = DoneCaused call past aim
CausedStepped call awaited past aim (failed e) = FailedCaused call past aim e

abbrev recording_lines : Aim → Ending → List Line
recording_lines aim ending = record_lines aim.bucket (record_of aim ending)

abbrev removal_lines : Aim → List Line
removal_lines aim = deletion_lines aim.bucket aim.id

-- want of memory, or a cause
memory_kind : (past : Past) (aim : Aim) (Cause : Error → Type 0) (e : Error) → ((x : Error) → Cause x → UploadFails past aim x) → FailsBy Cause e → UploadFails past aim e
memory_kind past aim Cause e leads (inl memory) = causes.out_of_memory (ap (λ (x : Error). x.kind) memory)
memory_kind past aim Cause e leads (inr cause) = leads e cause

removal_kind : (past : Past) (aim : Aim) (Cause : Error → Type 0) (e : Error) → ((x : Error) → Cause x → RemovalFails past aim x) → FailsBy Cause e → RemovalFails past aim e
removal_kind past aim Cause e leads (inl memory) = causes.out_of_memory (ap (λ (x : Error). x.kind) memory)
removal_kind past aim Cause e leads (inr cause) = leads e cause

are_as_many : (n : ℕ) (cs : List (List ℕ)) (ds : List Fields) → AreChunks n cs ds → length ds ≡ length cs
are_as_many n [] [] are = refl
are_as_many n [] (d ∷ ds) are = absurd are
are_as_many n (c ∷ cs) [] are = absurd are
are_as_many n (c ∷ cs) (d ∷ ds) are = ap suc (are_as_many (suc n) cs ds are.1)

-- the chunks of a command are those of the file
portion_of : (u : ClientUpload) (ids : ℕ → List ℕ) (count : ℕ) → IsPortion u (first_chunks u ids count) count → u.sent + count ≤ 2 ^ 31 → ArePortion u.aim (first_chunks u ids count)
portion_of u ids count portion small = record {
  ids = ids;
  first = u.sent;
  count = count;
  bytes = take (count * u.aim.size) u.behind;
  some = portion.some;
  few = portion.few;
  small = small;
  even = length-take-le (count * u.aim.size) u.behind portion.within;
  these = refl;
  together = portion.together;
}

-- the first of some documents cannot be sent
abbrev FirstFails : Error → List Fields → Type 0
FirstFails e [] = ⊥
FirstFails e (d ∷ ds) = CannotBeSent d e

-- the removal that waits is of the same call
as_undo : (call : uploads.Call) (s : Sending) (error : Option Error) → IsOfCall call (removes s error) → IsOfCall call (undoes error)
as_undo (write piece) s None h = absurd h
as_undo (write piece) s (Some e) h = tt
as_undo close s None h = absurd h
as_undo close s (Some e) h = tt
as_undo abort s None h = tt
as_undo abort s (Some e) h = absurd h

module _ (old new : Awaited) (log log' : LogTold) (u u' : ClientUpload) (r : Stepped) (bounds : HasBounds u) (calls : List Call) (told : log ≡ Some calls) (places : List ℕ) (since : ℕ) (room : since ≤ length calls) (wire : ℤ) (call : uploads.Call) where
  abbrev Behind : Type 0
  Behind = Grew places since calls log' wire (λ past. CausedStepped call new past u.aim r)

  as_answer : (past : Past) (q : Stepped) → r ≡ q → CausedStepped call new past u.aim q → CausedStepped call new past u.aim r
  as_answer past q is h = subst (λ (x : Stepped). CausedStepped call new past u.aim x) (sym is) h

  quietly : SendsNothing old new log log' → CausedStepped call new (past_of places since calls wire) u.aim r → Behind
  quietly none h = (calls, none.log_same ∙ told, same_keeps calls, h)

  undone_caused : (past : Past) (e : Error) → r ≡ goes (undoes (Some e)) → UploadFails past u.aim e → CausedStepped call new past u.aim r
  undone_caused past e is fails = as_answer past (goes (undoes (Some e))) is (inl fails)

  -- a write of these lines was polled
  write_ran : (lines : List Line) (s : Sending) (c : Step Sending (List ℕ)) → IsRequest false lines s → Runs old new log log' wire s c → Flies old (past_of places since calls wire) (fields s.command) s.stage → RequestRan new places since calls log' wire (fields_in lines) false c
  write_ran lines s c own runs flies =
      request_ran old new log log' wire s (fields_in lines) false c own.command_is own.retries_is runs calls told places since room (subst (λ (fs : Fields). Flies old (past_of places since calls wire) fs s.stage) own.command_is flies)

  -- it waits still
  waits_on : (lines : List Line) (past : Past) (s s' : Sending) → IsRequest false lines s → Runs old new log log' wire s (came.Pending s') → Flies new past (fields_in lines) s'.stage → Flies new past (fields s'.command) s'.stage
  waits_on lines past s s' own runs flies =
      let same = (waits_still old new log log' wire s s' own.retries_is own.at runs).same_command in
      subst (λ (fs : Fields). Flies new past fs s'.stage) (sym (ap fields same ∙ own.command_is)) flies

  grown : (c : Step Sending (List ℕ)) (command : Fields) → RequestRan new places since calls log' wire command false c → ((past : Past) → Grows (past_of places since calls wire) past → Came new past command false c → CausedStepped call new past u.aim r) → Behind
  grown c command ran leads = (ran.calls', ran.told, ran.grows.keeps, leads (past_of places since ran.calls' wire) ran.grows ran.came)

  -- ---- the way ahead

  fills_caused : (ids : ℕ → List ℕ) (drawn : ℕ) → SendsNothing old new log log' → u.aim.size ≤ length u.behind → Fills ids drawn u u' r → Behind
  fills_caused ids drawn quiet full (steps.built count s portion small n request is answer) =
      quietly quiet (as_answer (past_of places since calls wire) (goes (inserts s count)) answer (subst (λ (stage : Stage). Flies new (past_of places since calls wire) (fields s.command) stage) (sym request.new) tt))
  fills_caused ids drawn quiet full (steps.not_built within e left fails is answer) =
      quietly quiet (undone_caused (past_of places since calls wire) e answer (memory_kind (past_of places since calls wire) u.aim (CannotFill u ids) e (λ x cannot. by_cause x cannot) fails))
    where
      by_cause : (x : Error) → CannotFill u ids x → UploadFails (past_of places since calls wire) u.aim x
      by_cause x (too_many count some few within most why is) = causes.too_large u.sent count bounds.few some few most is
      by_cause x (too_large count portion small cannot) = causes.chunks_not_built (first_chunks u ids count) (portion_of u ids count portion small) cannot
      by_cause x (not_encoded d is cannot) =
          causes.document_not_built (ids 0) u.sent (take u.aim.size u.behind) (length-take-le u.aim.size u.behind full) (subst (FirstFails x) (sym is ∙ first_one u ids bounds.size.some full) cannot)

  chunks_caused : (s : Sending) (count : ℕ) (c : Step Sending (List ℕ)) → IsInsertion u s count → Runs old new log log' wire s c → HearsChunks count c u u' r → Flies old (past_of places since calls wire) (fields s.command) s.stage → Behind
  chunks_caused s count c i runs h flies = grown c (fields_in (chunks_lines u.aim.bucket i.documents)) (write_ran (chunks_lines u.aim.bucket i.documents) s c i.request runs flies) (λ past grows came_so. by_reply c runs h past came_so)
    where
      as_many : length i.documents ≡ count
      as_many = are_as_many u.sent (chunked u.aim.size i.bytes) i.documents i.stretch.are ∙ length-chunked count u.aim.size i.bytes bounds.size.some i.stretch.even

      by_reply : (d : Step Sending (List ℕ)) → Runs old new log log' wire s d → HearsChunks count d u u' r → (past : Past) → Came new past (fields_in (chunks_lines u.aim.bucket i.documents)) false d → CausedStepped call new past u.aim r
      by_reply (came.Pending s') ran hears past flies_so = as_answer past (waits (inserts s' count)) hears.1 (waits_on (chunks_lines u.aim.bucket i.documents) past s s' i.request ran flies_so)
      by_reply (came.Done bytes) ran (steps.inserted n told_so is answer) past heard = as_answer past (goes fills) answer tt
      by_reply (came.Done bytes) ran (steps.not_inserted e fails is answer) past heard =
          undone_caused past e answer (memory_kind past u.aim (NotInserted count (fields bytes)) e
          (λ x cause. causes.by_chunks i.documents (was_broken bytes heard (success_ran old new log log' wire s bytes ran) (subst (λ (n : ℕ). NotInserted n (fields bytes) x) (sym as_many) cause))) fails)
      by_reply (came.Failed e) ran hears past fails = undone_caused past e hears.1 (causes.by_chunks i.documents (fails_anyhow past (fields_in (chunks_lines u.aim.bucket i.documents)) false (ListsFor i.documents) e fails))

  rests_caused : (ids : ℕ → List ℕ) (drawn : ℕ) (moment : ℤ) → IsShort u → SendsNothing old new log log' → Rests ids drawn moment u u' r → Behind
  rests_caused ids drawn moment short quiet (steps.nothing_left none n is answer) = quietly quiet (as_answer (past_of places since calls wire) (goes (ends (steps.ending_of u moment))) answer tt)
  rests_caused ids drawn moment short quiet (steps.built some small n s request is answer) =
      quietly quiet (as_answer (past_of places since calls wire) (goes (lasts s (steps.ending_of u moment))) answer (subst (λ (stage : Stage). Flies new (past_of places since calls wire) (fields s.command) stage) (sym request.new) tt))
  rests_caused ids drawn moment short quiet (steps.not_built some few e left fails is answer) = quietly quiet (undone_caused (past_of places since calls wire) e answer (memory_kind (past_of places since calls wire) u.aim (CannotEnd u (chunk_document (ids 0) u.aim.id u.sent u.behind ∷ [])) e (λ x cannot. by_cause (chunk_document (ids 0) u.aim.id u.sent u.behind) refl x cannot) fails))
    where
      by_cause : (document : Fields) → document ≡ chunk_document (ids 0) u.aim.id u.sent u.behind → (x : Error) → CannotEnd u (document ∷ []) x → UploadFails (past_of places since calls wire) u.aim x
      by_cause document this x (too_many most is) = causes.too_large u.sent 1 bounds.few (omega arith) (omega arith) most is
      by_cause document this x (too_large small cannot) = causes.last_not_built document (record { id = ids 0; number = u.sent; bytes = u.behind; some = some; short = short; small = small; this = this }) cannot

  last_caused : (s : Sending) (ending : Ending) (c : Step Sending (List ℕ)) → IsLast u s ending → Runs old new log log' wire s c → HearsLast ending c u u' r → Flies old (past_of places since calls wire) (fields s.command) s.stage → Behind
  last_caused s ending c l runs h flies = grown c (fields_in (chunks_lines u.aim.bucket (l.document ∷ []))) (write_ran (chunks_lines u.aim.bucket (l.document ∷ [])) s c l.request runs flies) (λ past grows came_so. by_reply c runs h past came_so)
    where
      by_reply : (d : Step Sending (List ℕ)) → Runs old new log log' wire s d → HearsLast ending d u u' r → (past : Past) → Came new past (fields_in (chunks_lines u.aim.bucket (l.document ∷ []))) false d → CausedStepped call new past u.aim r
      by_reply (came.Pending s') ran hears past flies_so = as_answer past (waits (lasts s' ending)) hears.1 (waits_on (chunks_lines u.aim.bucket (l.document ∷ [])) past s s' l.request ran flies_so)
      by_reply (came.Done bytes) ran (steps.inserted n told_so is answer) past heard = as_answer past (goes (ends ending)) answer tt
      by_reply (came.Done bytes) ran (steps.not_inserted e fails is answer) past heard =
          undone_caused past e answer (memory_kind past u.aim (NotInserted 1 (fields bytes)) e (λ x cause. causes.by_chunks (l.document ∷ []) (was_broken bytes heard (success_ran old new log log' wire s bytes ran) cause)) fails)
      by_reply (came.Failed e) ran hears past fails = undone_caused past e hears.1 (causes.by_chunks (l.document ∷ []) (fails_anyhow past (fields_in (chunks_lines u.aim.bucket (l.document ∷ []))) false (ListsFor (l.document ∷ [])) e fails))

  ends_caused : (ending : Ending) → SendsNothing old new log log' → Ends ending u u' r → Behind
  ends_caused ending quiet (steps.built s request is answer) =
      quietly quiet (as_answer (past_of places since calls wire) (goes (records s ending)) answer (subst (λ (stage : Stage). Flies new (past_of places since calls wire) (fields s.command) stage) (sym request.new) tt))
  ends_caused ending quiet (steps.not_built e fails is answer) = quietly quiet (undone_caused (past_of places since calls wire) e answer (memory_kind (past_of places since calls wire) u.aim _ e (λ x cannot. causes.record_not_built ending cannot) fails))

  record_caused : (s : Sending) (ending : Ending) (c : Step Sending (List ℕ)) → call ≡ close → IsSoundPhase u (records s ending) → Runs old new log log' wire s c → HearsRecord ending c u u' r → Flies old (past_of places since calls wire) (fields s.command) s.stage → Behind
  record_caused s ending c closes own runs h flies = grown c (fields_in (recording_lines u.aim ending)) (write_ran (recording_lines u.aim ending) s c own.0 runs flies) (λ past grows came_so. by_reply c runs h past came_so)
    where
      by_reply : (d : Step Sending (List ℕ)) → Runs old new log log' wire s d → HearsRecord ending d u u' r → (past : Past) → Came new past (fields_in (recording_lines u.aim ending)) false d → CausedStepped call new past u.aim r
      by_reply (came.Pending s') ran hears past flies_so = as_answer past (waits (records s' ending)) hears.1 (waits_on (recording_lines u.aim ending) past s s' own.0 ran flies_so)
      by_reply (came.Done bytes) ran (steps.inserted n told_so is answer) past heard = as_answer past done answer (subst (λ (c' : uploads.Call). DoneCaused c' past u.aim) (sym closes) tt)
      by_reply (came.Done bytes) ran (steps.not_inserted e fails undone_so) past heard =
          undone_caused past e undone_so.1 (memory_kind past u.aim (NotInserted 1 (fields bytes)) e (λ x cause. causes.by_record ending (was_broken bytes heard (success_ran old new log log' wire s bytes ran) cause)) fails)
      by_reply (came.Failed e) ran hears past fails = undone_caused past e hears.1 (causes.by_record ending (fails_anyhow past (fields_in (recording_lines u.aim ending)) false (ListsFor (record_of u.aim ending ∷ [])) e fails))

  -- ---- the way back

  landed_caused : (error : Option Error) (left : Option Flight) → LandedAs error left u u' r → (past : Past) → ((flight : Flight) → left ≡ Some flight → FlightUnderway new past u.aim.bucket flight) → IsCausedFirst past u.aim error → CausedStepped call new past u.aim r
  landed_caused error None h past flies first = as_answer past (goes (undoes error)) h.1 first
  landed_caused error (Some flight) h past flies first = as_answer past (waits (lands flight error)) h.1 (flies flight refl, first)

  -- an error of a removal, behind a first error or none
  not_removed : (past : Past) (error : Option Error) (d e : Error) → IsOfCall call (undoes error) → IsCausedFirst past u.aim error → RemovalFails past u.aim d → FailsToUndo error d e → FailedCaused call past u.aim e
  not_removed past error d e of_call first fails both = by_call call error of_call first both
    where
      by_call : (c : uploads.Call) (x : Option Error) → IsOfCall c (undoes x) → IsCausedFirst past u.aim x → FailsToUndo x d e → FailedCaused c past u.aim e
      by_call (write piece) x h caused_so undoes_so = causes.not_removed x d caused_so fails undoes_so
      by_call close x h caused_so undoes_so = causes.not_removed x d caused_so fails undoes_so
      by_call abort None h caused_so undoes_so = (d, fails, undoes_so)
      by_call abort (Some x) h caused_so undoes_so = absurd h

  removes_caused : (error : Option Error) → IsOfCall call (undoes error) → SendsNothing old new log log' → Removes error u u' r → IsCausedFirst (past_of places since calls wire) u.aim error → Behind
  removes_caused error of_call quiet (steps.built s request is answer) first =
      quietly quiet (as_answer (past_of places since calls wire) (goes (removes s error)) answer (subst (λ (stage : Stage). Flies new (past_of places since calls wire) (fields s.command) stage) (sym request.new) tt, first))
  removes_caused error of_call quiet (steps.not_built d e fails both is answer) first =
      quietly quiet (as_answer (past_of places since calls wire) (failed e) answer
      (not_removed (past_of places since calls wire) error d e of_call first (removal_kind (past_of places since calls wire) u.aim _ d (λ x cannot. causes.not_built cannot) fails) both))

  undone_so : (past : Past) (error : Option Error) → IsOfCall call (undoes error) → r ≡ undone_by error → IsCausedFirst past u.aim error → HeardRemoved past u.aim → CausedStepped call new past u.aim r
  undone_so past None of_call is first heard = as_answer past done is (by_call call of_call)
    where
      by_call : (c : uploads.Call) → IsOfCall c (undoes None) → DoneCaused c past u.aim
      by_call (write piece) h = tt
      by_call close h = tt
      by_call abort h = heard
  undone_so past (Some e) of_call is first heard = as_answer past (failed e) is (by_call call of_call)
    where
      by_call : (c : uploads.Call) → IsOfCall c (undoes (Some e)) → FailedCaused c past u.aim e
      by_call (write piece) h = causes.first_error first heard
      by_call close h = causes.first_error first heard
      by_call abort h = absurd h

  removal_caused : (s : Sending) (error : Option Error) (c : Step Sending (List ℕ)) → IsOfCall call (undoes error) → IsSoundPhase u (removes s error) → Runs old new log log' wire s c → HearsRemoval error c u u' r → Flies old (past_of places since calls wire) (fields s.command) s.stage → IsCausedFirst (past_of places since calls wire) u.aim error → Behind
  removal_caused s error c of_call own runs h flies first =
      grown c (fields_in (removal_lines u.aim)) (write_ran (removal_lines u.aim) s c own runs flies) (λ past grows came_so. by_reply c runs h past (first_grows (past_of places since calls wire) past grows u.aim error first) came_so)
    where
      by_reply : (d : Step Sending (List ℕ)) → Runs old new log log' wire s d → HearsRemoval error d u u' r → (past : Past) → IsCausedFirst past u.aim error → Came new past (fields_in (removal_lines u.aim)) false d → CausedStepped call new past u.aim r
      by_reply (came.Pending s') ran hears past first_so flies_so = as_answer past (waits (removes s' error)) hears.1 (waits_on (removal_lines u.aim) past s s' own ran flies_so, first_so)
      by_reply (came.Done bytes) ran (steps.removed n wrote is answer) past first_so heard =
          undone_so past error of_call answer first_so (record { bytes = bytes; heard = heard_by past (fields_in (removal_lines u.aim)) false (reply bytes) heard; success = success_ran old new log log' wire s bytes ran; n = n; wrote_so = wrote })
      by_reply (came.Done bytes) ran (steps.not_removed d e fails both is answer) past first_so heard =
          as_answer past (failed e) answer (not_removed past error d e of_call first_so
          (removal_kind past u.aim (FailedAs (count_of (fields bytes)) (fields bytes)) d (λ x cause. causes.by_deletion (was_broken bytes heard (success_ran old new log log' wire s bytes ran) cause)) fails) both)
      by_reply (came.Failed d) ran hears past first_so fails = as_answer past (failed hears.0) hears.3 (not_removed past error d hears.0 of_call first_so (causes.by_deletion (fails_anyhow past (fields_in (removal_lines u.aim)) false ListsFirst d fails)) hears.1)

-- ---- requests that are given up

-- why a check fails, and how far it has come: what is foreseen of mg_cursor's list stands here as an argument
abbrev pub CheckTold : CheckTurned → Awaited → Past → Aim → Type 0
CheckTold (check.goes c) awaited past aim = CheckUnderway awaited past aim.bucket c
CheckTold (check.pends c) awaited past aim = CheckUnderway awaited past aim.bucket c
CheckTold check.passes awaited past aim = Unit {0}
CheckTold (check.fails e) awaited past aim = CheckFails past aim.bucket e

abbrev pub ChecksCaused : Type 0
ChecksCaused = (old new : Awaited) (log log' : LogTold) (wire : ℤ) (aim : Aim) (c : ClientCheck) (t : CheckTurned) → IsSoundCheck aim.bucket c → ChecksOn old new log log' wire aim.bucket c t → (calls : List Call) → log ≡ Some calls → (places : List ℕ) (since : ℕ) → since ≤ length calls
    → CheckUnderway old (past_of places since calls wire) aim.bucket c → Grew places since calls log' wire (λ past. CheckTold t new past aim)

abbrev pub LeftUnderway : Option ClientCheck → Awaited → Past → Aim → Type 0
LeftUnderway None awaited past aim = Unit {0}
LeftUnderway (Some c) awaited past aim = CheckUnderway awaited past aim.bucket c

abbrev pub LandingsCaused : Type 0
LandingsCaused = (old new : Awaited) (log log' : LogTold) (wire : ℤ) (aim : Aim) (c : ClientCheck) (t : Option ClientCheck) → IsSoundCheck aim.bucket c → LandsCheck old new log log' wire c t → (calls : List Call) → log ≡ Some calls → (places : List ℕ) (since : ℕ) → since ≤ length calls
    → CheckUnderway old (past_of places since calls wire) aim.bucket c → Grew places since calls log' wire (λ past. LeftUnderway t new past aim)

-- ---- a step

module _ (checks_caused : ChecksCaused) (landings_caused : LandingsCaused) (old new : Awaited) (log log' : LogTold) (wire : ℤ) (u u' : ClientUpload) (p : Phase) (r : Stepped) (bounds : HasBounds u) (sound : IsSoundPhase u p) (calls : List Call) (told : log ≡ Some calls) (places : List ℕ) (since : ℕ) (room : since ≤ length calls) (call : uploads.Call) (of_call : IsOfCall call p) where
  as_step : (past : Past) (q : Stepped) → r ≡ q → CausedStepped call new past u.aim q → CausedStepped call new past u.aim r
  as_step past q is h = subst (λ (x : Stepped). CausedStepped call new past u.aim x) (sym is) h

  quiet_step : SendsNothing old new log log' → CausedStepped call new (past_of places since calls wire) u.aim r → Grew places since calls log' wire (λ past. CausedStepped call new past u.aim r)
  quiet_step none h = (calls, none.log_same ∙ told, same_keeps calls, h)

  -- a write alone checks the indexes
  check_failed : (past : Past) (c : uploads.Call) (e : Error) → (IsOfCall abort p → ⊥) → IsOfCall c p → CheckFails past u.aim.bucket e → FailedCaused c past u.aim e
  check_failed past (write piece) e never h fails = causes.check_fails fails
  check_failed past close e never h fails = causes.check_fails fails
  check_failed past abort e never h fails = absurd (never h)

  begins_caused : (IsOfCall abort p → ⊥) → SendsNothing old new log log' → BeginsCheck u u' r → Grew places since calls log' wire (λ past. CausedStepped call new past u.aim r)
  begins_caused never quiet (steps.built s request is answer) =
      quiet_step quiet (as_step (past_of places since calls wire) (goes (uploads.checks (check.finds s))) answer (subst (λ (stage : Stage). Flies new (past_of places since calls wire) (fields_in (any_lines u.aim.bucket)) stage) (sym request.new) tt))
  begins_caused never quiet (steps.not_built e fails is answer) =
      quiet_step quiet (as_step (past_of places since calls wire) (failed e) answer (check_failed (past_of places since calls wire) call e never of_call (by_cause fails)))
    where
      by_cause : FailsBy (CannotSend (any_lines u.aim.bucket)) e → CheckFails (past_of places since calls wire) u.aim.bucket e
      by_cause (inl memory) = causes.out_of_memory (ap (λ (x : Error). x.kind) memory)
      by_cause (inr cannot) = causes.not_built (any_lines u.aim.bucket) (causes.a_find refl) cannot

  check_leads : (IsOfCall abort p → ⊥) → (t : CheckTurned) → CheckLeads t u u' r → (past : Past) → CheckTold t new past u.aim → CausedStepped call new past u.aim r
  check_leads never (check.goes c) h past told_so = as_step past (goes (uploads.checks c)) h.1 told_so
  check_leads never (check.pends c) h past told_so = as_step past (waits (uploads.checks c)) h.1 told_so
  check_leads never check.passes h past told_so = as_step past (goes fills) h.1 tt
  check_leads never (check.fails e) h past told_so = as_step past (failed e) h.1 (check_failed past call e never of_call told_so)

  -- a request that waits still
  command_flies : (s : Sending) (c : Step Sending (List ℕ)) (left : Option Flight) (past : Past) → Runs old new log log' wire s c → left ≡ option_map by_command (still_of c) → Came new past (fields s.command) s.retries c → (flight : Flight) → left ≡ Some flight → FlightUnderway new past u.aim.bucket flight
  command_flies s (came.Pending s') left past runs is flies flight at =
      let same = (same_pending old new log log' wire s s' runs).0 in
      let here : by_command s' ≡ flight = same_some (by_command s') flight (sym is ∙ at) in
      subst (λ (f : Flight). FlightUnderway new past u.aim.bucket f) here (subst (λ (fs : Fields). Flies new past fs s'.stage) (sym (ap fields same)) flies)
  command_flies s (came.Done bytes) left past runs is heard flight at = let bad : None ≡ Some flight = sym is ∙ at in absurd cc
  command_flies s (came.Failed e) left past runs is fails flight at = let bad : None ≡ Some flight = sym is ∙ at in absurd cc

  check_flies : (t : Option ClientCheck) (left : Option Flight) (past : Past) → left ≡ option_map by_check t → LeftUnderway t new past u.aim → (flight : Flight) → left ≡ Some flight → FlightUnderway new past u.aim.bucket flight
  check_flies None left past is under flight at = let bad : None ≡ Some flight = sym is ∙ at in absurd cc
  check_flies (Some c) left past is under flight at =
      let here : by_check c ≡ flight = same_some (by_check c) flight (sym is ∙ at) in
      subst (λ (f : Flight). FlightUnderway new past u.aim.bucket f) here under

  lands_caused : (flight : Flight) (error : Option Error) (left : Option Flight) → IsFlight u flight → FlightUnderway old (past_of places since calls wire) u.aim.bucket flight → IsCausedFirst (past_of places since calls wire) u.aim error → LandsFlight old new log log' wire flight left → LandedAs error left u u' r
      → Grew places since calls log' wire (λ past. CausedStepped call new past u.aim r)
  lands_caused flight error left own under first (of_check c is t landing left_is) h =
      let g = landings_caused old new log log' wire u.aim c t (subst (IsFlight u) is own) landing calls told places since room (subst (λ (f : Flight). FlightUnderway old (past_of places since calls wire) u.aim.bucket f) is under) in
      let grows = log_grows places since calls g.0 wire g.2 in
      (g.0, g.1, g.2, landed_caused old new log log' u u' r bounds calls told places since room wire call error left h (past_of places since g.0 wire) (check_flies t left (past_of places since g.0 wire) left_is g.3) (first_grows (past_of places since calls wire) (past_of places since g.0 wire) grows u.aim error first))
  lands_caused flight error left own under first (of_command s is c runs left_is) h =
      let ran = request_ran old new log log' wire s (fields s.command) s.retries c refl refl runs calls told places since room (subst (λ (f : Flight). FlightUnderway old (past_of places since calls wire) u.aim.bucket f) is under) in
      let past = past_of places since ran.calls' wire in
      (ran.calls', ran.told, ran.grows.keeps, landed_caused old new log log' u u' r bounds calls told places since room wire call error left h past (command_flies s c left past runs left_is ran.came) (first_grows (past_of places since calls wire) past ran.grows u.aim error first))

  under_at : (q : Phase) → p ≡ q → PhaseUnderway old (past_of places since calls wire) u.aim p → PhaseUnderway old (past_of places since calls wire) u.aim q
  under_at q is h = subst (λ (x : Phase). PhaseUnderway old (past_of places since calls wire) u.aim x) is h

  own_at : (q : Phase) → p ≡ q → IsSoundPhase u q
  own_at q is = subst (IsSoundPhase u) is sound

  call_at : (q : Phase) → p ≡ q → IsOfCall call q
  call_at q is = subst (IsOfCall call) is of_call

  -- Each step has its cause in the log.
  pub step_caused : (ids : ℕ → List ℕ) (drawn : ℕ) → DoesStep old new log log' wire ids drawn u u' p r → PhaseUnderway old (past_of places since calls wire) u.aim p → Grew places since calls log' wire (λ past. CausedStepped call new past u.aim r)
  step_caused ids drawn (begins_check is quiet n does) h = begins_caused (λ x. subst (IsOfCall abort) is x) quiet does
  step_caused ids drawn (checks_on c is n t checks_so leads) h =
      let g = checks_caused old new log log' wire u.aim c t (own_at (uploads.checks c) is).0 checks_so calls told places since room (under_at (uploads.checks c) is h) in
      (g.0, g.1, g.2, check_leads (λ x. subst (IsOfCall abort) is x) t leads (past_of places since g.0 wire) g.3)
  step_caused ids drawn (is_short is quiet n short same answer) h = quiet_step quiet (as_step (past_of places since calls wire) done answer (subst (λ (c : uploads.Call). DoneCaused c (past_of places since calls wire) u.aim) (sym (of_write call (call_at fills is)).1) tt))
  step_caused ids drawn (fills_next is quiet full does) h = fills_caused old new log log' u u' r bounds calls told places since room wire call ids drawn quiet full does
  step_caused ids drawn (inserts_on s count is n c runs hears) h = chunks_caused old new log log' u u' r bounds calls told places since room wire call s count c (own_at (inserts s count) is) runs hears (under_at (inserts s count) is h)
  step_caused ids drawn (rests_next moment is quiet does) h = rests_caused old new log log' u u' r bounds calls told places since room wire call ids drawn moment (own_at (rests moment) is) quiet does
  step_caused ids drawn (inserts_last s ending is n c runs hears) h = last_caused old new log log' u u' r bounds calls told places since room wire call s ending c (own_at (lasts s ending) is).0 runs hears (under_at (lasts s ending) is h)
  step_caused ids drawn (ends_next ending is quiet n does) h = ends_caused old new log log' u u' r bounds calls told places since room wire call ending quiet does
  step_caused ids drawn (records_on s ending is n c runs hears) h =
      record_caused old new log log' u u' r bounds calls told places since room wire call s ending c (of_close call s ending (call_at (records s ending) is)) (own_at (records s ending) is) runs hears (under_at (records s ending) is h)
  step_caused ids drawn (lands_on flight error is n left landing landed) h = let under = under_at (lands flight error) is h in lands_caused flight error left (own_at (lands flight error) is) under.0 under.1 landing landed
  step_caused ids drawn (undoes_next error is quiet n does) h = removes_caused old new log log' u u' r bounds calls told places since room wire call error (call_at (undoes error) is) quiet does (under_at (undoes error) is h)
  step_caused ids drawn (removes_on s error is n c runs hears) h =
      let under = under_at (removes s error) is h in
      removal_caused old new log log' u u' r bounds calls told places since room wire call s error c (as_undo call s error (call_at (removes s error) is)) (own_at (removes s error) is) runs hears under.0 under.1

-- ---- all steps

pub steps_caused : ChecksCaused → LandingsCaused → (n : ℕ) (call : uploads.Call) (places : List ℕ) (since : ℕ) (wire : ℤ) (old new : Awaited) (log log' : LogTold) (ids : ℕ → List ℕ) (drawn : ℕ) (u u' : ClientUpload) (p : Phase) (r : Stepped) → HasBounds u → IsSoundPhase u p → IsOfCall call p
    → DoesSteps n old new log log' wire ids drawn u u' p r → (calls : List Call) → log ≡ Some calls → since ≤ length calls → PhaseUnderway old (past_of places since calls wire) u.aim p → Grew places since calls log' wire (λ past. CausedStepped call new past u.aim r)
unfolding DoesSteps
steps_caused checks_caused landings_caused zero call places since wire old new log log' ids drawn u u' p r bounds sound of_call d calls told room h = step_caused checks_caused landings_caused old new log log' wire u u' p r bounds sound calls told places since room call of_call ids drawn d.0 h
steps_caused checks_caused landings_caused (suc n) call places since wire old new log log' ids drawn u u' p r bounds sound of_call d calls told room h =
    let kept_so = step_kept old d.0 log d.1 wire u d.4 (goes d.5) bounds ids d.2 p sound d.6 in
    let call_on = call_kept call old d.0 log d.1 wire ids d.2 u d.4 p (goes d.5) of_call d.6 in
    let g = step_caused checks_caused landings_caused old d.0 log d.1 wire u d.4 p (goes d.5) bounds sound calls told places since room call of_call ids d.2 d.6 h in
    let longer = keeps_longer calls g.0 g.2 in
    let room_on : since ≤ length g.0 = omega arith in
    let under = subst (λ (a : Aim). PhaseUnderway d.0 (past_of places since g.0 wire) a d.5) (sym kept_so.same_aim) g.3 in
    let rest = steps_caused checks_caused landings_caused n call places since wire d.0 new d.1 log' (ids_behind d.2 ids) d.3 d.4 u' d.5 r kept_so.bounds kept_so.stepped_so call_on d.8 g.0 g.1 room_on under in
    (rest.0, rest.1, keeps_on calls g.0 rest.0 g.2 rest.2, subst (λ (a : Aim). CausedStepped call new (past_of places since rest.0 wire) a r) kept_so.same_aim rest.3)
