-- As a put sends the record of its file all chunks of it stand: so it is over all steps of a poll.
use Rattle.std.proofs.Common.{◌≡◌, ◌++◌, ◌∷◌, [], ℕ, zero, suc, ℤ, false, List, Option, Some, None, refl, sym, ap, ◌∙◌, subst, inl, inr, append-nil}
use Rattle.mg_bson.specs.Raw.{fields}
use Rattle.mg_bson.specs.Tree.{Fields}
use Rattle.mg_server.specs.Calls.{Past, past_of}
use Rattle.mg_link.specs.Exec as exec
use Rattle.mg_link.specs.Exec.{Attempt, Begins, GoesOn, Runs, Sending, Stage, Tries, first, second, unsent}
use Rattle.mg_link.specs.Chunks.{chunked}
use Rattle.mg_server.specs.Files.{AreChunks}
use Rattle.mg_server.specs.Filing.{KnowsFile, insert_at, part, stays, whole_with}
use Rattle.mg_link.specs.Link.{Adds, Awaited, LogTold, Sees, SendsNothing}
use Rattle.mg_link.specs.Log.{Call, Sight, see, waiting}
use Rattle.mg_server.specs.Owner.{nobody}
use Rattle.mg_link.specs.declared.action.Step.{Step}
use Rattle.mg_link.specs.declared.action.Step.TheVariants as came
use Rattle.mg_link.specs.declared.error.Error.{Error}
use Rattle.mg_server.proofs.Apart.{onward_seen}
use Rattle.mg_server.proofs.Owners.{same_some, see_from}
use Rattle.mg_link.proofs.Waits.{never_again, waits_still}
use Rattle.mg_options.specs.Fields.{fields_in}
use Rattle.mg_ops.specs.Naming.{IsNamed}
use Rattle.mg_gridfs.specs.Buckets.{IsAt}
use Rattle.mg_gridfs.specs.Calls.{behind_call, doing_behind}
use Rattle.mg_gridfs.specs.Checks as check
use Rattle.mg_gridfs.specs.Checks.{CheckTurned, finds}
use Rattle.mg_gridfs.specs.Commands.{IsRequest, chunks_lines, deletion_lines}
use Rattle.mg_gridfs.specs.Steps as steps
use Rattle.mg_gridfs.specs.Steps.{BeginsCheck, CheckLeads, DoesStep, DoesSteps, Ends, Fills, HearsChunks, HearsLast, HearsRecord, HearsRemoval, Removes, Rests, Stepped, begins_check, checks_on, done, ending_of, ends_next, failed, fills_next, goes, ids_behind, inserts_last, inserts_on, is_short, lands_on, records_on, removes_on, rests_next, undoes_next, undone_by, waits}
use Rattle.mg_gridfs.specs.Storing.{KnowsAhead, KnowsPhase}
use Rattle.mg_gridfs.specs.Uploads as uploads
use Rattle.mg_gridfs.specs.Uploads.{Aim, ClientUpload, Ending, HasBounds, IsOfCall, IsRecording, IsSoundPhase, Phase, abort, checks, close, ends, fills, inserts, lasts, record_of, records, removes, undoes, write}
use Rattle.mg_gridfs.proofs.Driving.{call_kept}
use Rattle.mg_gridfs.proofs.Keeping.{step_kept}
use Rattle.mg_gridfs.proofs.Storing as storing
use Rattle.mg_gridfs.proofs.Storing.{IsPlaced, of_close, step_known}
use Rattle.mg_players.specs.Laying.{DoingLays, IsNoRecord, LaysAll, PhaseLays, SendsNoRecord}
use Rattle.mg_players.specs.PutSends.{Around, IsCheckCommand, record_insert}
use Rattle.mg_players.specs.Puts.{CutByPhase, NamesFiles, PhaseSupplied, PutTask, Supply, joined, put_aim, put_bucket}
use Rattle.mg_players.specs.Sends.{PhaseFlies}
use Rattle.mg_players.proofs.Laying.{KnowsAll, laid_later, laid_pushed, none_added, none_laid}
use Rattle.mg_players.proofs.PutChecking.{AddsTold, check_sends, told_ran}
use Rattle.mg_players.proofs.PutSending.{Fits, all_taken, its_room, step_sends}
use Rattle.mg_players.proofs.PutSupplied.{step_supplied}
use Rattle.mg_players.proofs.PutWhich.{check_no_record, chunks_no_record, record_no_removal}

-- this holds by the log behind a step, or behind several
abbrev pub ByLog : LogTold → List ℕ → ℕ → ℤ → (Past → Type 0) → Type 0
ByLog log places since wire P = (calls : List Call) → log ≡ Some calls → P (past_of places since calls wire)

-- where the log stays, it holds as before
pub same_log : (log log' : LogTold) (calls : List Call) (places : List ℕ) (since : ℕ) (wire : ℤ) (P : Past → Type 0) → log ≡ Some calls → log' ≡ log → P (past_of places since calls wire) → ByLog log' places since wire P
same_log log log' calls places since wire P told same h calls' told' = subst (λ (l : List Call). P (past_of places since l wire)) (same_some calls calls' (sym told ∙ sym same ∙ told')) h

-- ---- a command that is sent once

module _ (t : PutTask) (old new : Awaited) (log log' : LogTold) (s : Sending) (calls : List Call) (told : log ≡ Some calls) (places : List ℕ) (since : ℕ) (wire : ℤ) (lays : LaysAll (past_of places since calls wire) t) where
  abbrev Behind : Type 0
  Behind = ByLog log' places since wire (λ past. LaysAll past t)

  -- where it is that of the record, all chunks are there
  abbrev Stood : Type 0
  Stood = (moment : ℤ) → fields s.command ≡ record_insert t moment → KnowsAll (past_of places since calls wire) t

  adds_laid : (seen : Sight) → Adds log log' s.command seen → Stood → Behind
  adds_laid seen adds stood calls' told' =
      let add = adds calls told in
      let call : Call = record { command = s.command; position = add.0; seen = seen } in
      subst (λ (l : List Call). LaysAll (past_of places since l wire) t) (same_some (calls ++ call ∷ []) calls' (sym add.1 ∙ told')) (laid_pushed t places since calls call wire lays stood)

  sees_laid : (place : Option ℕ) (seen : Sight) → Sees log log' place seen → Behind
  sees_laid place seen sees calls' told' =
      let z = sees calls told in
      subst (λ (l : List Call). LaysAll (past_of places since l wire) t) (same_some (see z.0 seen calls) calls' (sym z.5 ∙ told'))
      (laid_later t (past_of places since calls wire) (past_of places since (see z.0 seen calls) wire) (onward_seen z.0 seen calls z.1 nobody z.3 z.4) (λ at call own there. (let o = see_from z.0 seen calls at call there in (own, (o.0, o.1)))) (λ at call own there. own) lays)

  stays_laid : log' ≡ log → Behind
  stays_laid same = same_log log log' calls places since wire (λ past. LaysAll past t) told same lays

  begun_laid : (attempt : Attempt) → Begins old new log log' s.command attempt → Stood → Behind
  begun_laid exec.not_sent begun stood = stays_laid begun.log_same
  begun_laid (exec.waits ticket) begun stood = adds_laid waiting begun.adds stood
  begun_laid (exec.answered seen) begun stood = adds_laid seen begun.adds stood

  gone_on_laid : (ticket : ℕ) (attempt : Attempt) → GoesOn old new log log' ticket attempt → Behind
  gone_on_laid ticket exec.not_sent on = absurd on
  gone_on_laid ticket (exec.waits given) on = stays_laid on.log_same
  gone_on_laid ticket (exec.answered seen) on = sees_laid (old ticket) seen on.sees

  tried_laid : (stage : Stage) (attempt : Attempt) → Tries old new log log' s.command stage attempt → (stage ≡ unsent → Stood) → Behind
  tried_laid unsent attempt tries stood = begun_laid attempt tries (stood refl)
  tried_laid (first ticket) attempt tries stood = gone_on_laid ticket attempt tries
  tried_laid (second ticket) attempt tries stood = gone_on_laid ticket attempt tries

  ran_laid : (version : ℤ) (c : Step Sending (List ℕ)) → s.retries ≡ false → Runs old new log log' version s c → (s.stage ≡ unsent → Stood) → Behind
  ran_laid version c single (inl once) stood = tried_laid s.stage once.attempt once.tries stood
  ran_laid version c single (inr twice) stood = absurd (never_again s.retries s.stage twice.attempt single twice.repeated)

-- ---- one step

-- where the upload goes
placed_put : (t : PutTask) → NamesFiles t → (u : ClientUpload) → u.aim ≡ put_aim t → IsPlaced t.at u
placed_put t named u aim = record {
  place = subst (λ (a : Aim). IsAt a.bucket t.at) (sym aim) (record { files = refl; chunks = refl });
  files = subst (λ (a : Aim). IsNamed a.bucket.files) (sym aim) named.0;
  chunks = subst (λ (a : Aim). IsNamed a.bucket.chunks) (sym aim) named.1;
}

module _ (t : PutTask) (past : Past) where
  -- a write that is done, which sends no record
  writes_so : (call : uploads.Call) → IsOfCall call fills → SendsNoRecord past t → DoingLays past t (behind_call call)
  writes_so (write piece) own h = h
  writes_so close own h = absurd own
  writes_so abort own h = absurd own

  -- a close that is done, which sent it
  closes_so : (call : uploads.Call) (s : Sending) (ending : Ending) → IsOfCall call (records s ending) → LaysAll past t → DoingLays past t (behind_call call)
  closes_so (write piece) s ending own h = absurd own
  closes_so close s ending own h = h
  closes_so abort s ending own h = h

  -- the chunks are removed
  undone_so : (call : uploads.Call) (s : Sending) (error : Option Error) → IsOfCall call (removes s error) → LaysAll past t → DoingLays past t (doing_behind call (undone_by error))
  undone_so call s (Some e) own h = h
  undone_so (write piece) s None own h = absurd own
  undone_so close s None own h = absurd own
  undone_so abort s None own h = h

  pub sent_either : (stage : Stage) → Around stage (SendsNoRecord past t) (LaysAll past t) → LaysAll past t
  sent_either unsent h = none_laid past t h
  sent_either (first ticket) h = h
  sent_either (second ticket) h = h

-- a command of the check does not insert the record
check_told : (t : PutTask) → NamesFiles t → (log log' : LogTold) → AddsTold (IsCheckCommand (put_bucket t)) log log' → AddsTold (IsNoRecord t) log log'
check_told t named log log' adds calls told =
    let x = adds calls told in
    (x.0, x.1, record { keeps = x.2.keeps; added = λ place call behind there. check_no_record t named.0 named.1 call.command (x.2.added place call behind there) })

module _ (supply : Supply) (t : PutTask) (named : NamesFiles t) (taken rest : List ℕ) (whole : joined t.pieces ≡ taken ++ rest) (call : uploads.Call) (fits : Fits call rest) (old new : Awaited) (log log' : LogTold) (wire : ℤ) (u u' : ClientUpload) (r : Stepped) (aim : u.aim ≡ put_aim t) (bounds : HasBounds u) (calls : List Call) (told : log ≡ Some calls) (places : List ℕ) (since : ℕ) where
  abbrev Here : Past
  Here = past_of places since calls wire

  -- by the log behind the step
  abbrev There : (Past → Type 0) → Type 0
  There = ByLog log' places since wire

  abbrev Laid : Stepped → Type 0
  Laid q = There (λ past. DoingLays past t (doing_behind call q))

  abbrev NoneSent : Type 0
  NoneSent = There (λ past. SendsNoRecord past t)

  abbrev AllLaid : Type 0
  AllLaid = There (λ past. LaysAll past t)

  laid_as : (q : Stepped) → r ≡ q → Laid q → Laid r
  laid_as q answer h = subst Laid (sym answer) h

  laid_none : NoneSent → AllLaid
  laid_none none calls' told' = none_laid (past_of places since calls' wire) t (none calls' told')

  undoes_so : (e : Option Error) → r ≡ goes (undoes e) → AllLaid → Laid r
  undoes_so e answer all = laid_as (goes (undoes e)) answer all

  still_none : SendsNothing old new log log' → SendsNoRecord Here t → NoneSent
  still_none quiet h = same_log log log' calls places since wire (λ past. SendsNoRecord past t) told quiet.log_same h

  still_all : SendsNothing old new log log' → LaysAll Here t → AllLaid
  still_all quiet h = same_log log log' calls places since wire (λ past. LaysAll past t) told quiet.log_same h

  none_on : AddsTold (IsNoRecord t) log log' → SendsNoRecord Here t → NoneSent
  none_on adds none calls' told' =
      let a = adds calls told in
      subst (λ (l : List Call). SendsNoRecord (past_of places since l wire) t) (same_some a.0 calls' (sym a.1 ∙ told')) (none_added t places since calls a.0 wire a.2 none)

  -- ---- the check

  begins_laid : NoneSent → BeginsCheck u u' r → Laid r
  begins_laid none (steps.built s new_one is answer) = laid_as (goes (checks (finds s))) answer none
  begins_laid none (steps.not_built e fails is answer) = laid_as (failed e) answer (laid_none none)

  check_laid : (c : CheckTurned) → CheckLeads c u u' r → NoneSent → Laid r
  check_laid (check.goes c) h none = laid_as (goes (checks c)) h.1 none
  check_laid (check.pends c) h none = laid_as (waits (checks c)) h.1 none
  check_laid check.passes h none = laid_as (goes fills) h.1 none
  check_laid (check.fails e) h none = laid_as (failed e) h.1 (laid_none none)

  -- ---- chunks

  fills_laid : (ids : ℕ → List ℕ) (drawn : ℕ) → NoneSent → Fills ids drawn u u' r → Laid r
  fills_laid ids drawn none (steps.built count s portion small n request is answer) = laid_as (goes (inserts s count)) answer none
  fills_laid ids drawn none (steps.not_built within e left fails is answer) = undoes_so (Some e) answer (laid_none none)

  -- a command that inserts chunks
  chunks_none : (s : Sending) (c : Step Sending (List ℕ)) (documents : List Fields) → fields s.command ≡ fields_in (chunks_lines u.aim.bucket documents) → Runs old new log log' wire s c → SendsNoRecord Here t → NoneSent
  chunks_none s c documents is runs none =
      let into : fields s.command ≡ fields_in (chunks_lines (put_bucket t) documents) = is ∙ ap (λ (a : Aim). fields_in (chunks_lines a.bucket documents)) aim in
      none_on (told_ran (IsNoRecord t) old new log log' wire s c (chunks_no_record t named.0 named.1 s.command (documents, into)) runs) none

  chunks_laid : (count : ℕ) (c : Step Sending (List ℕ)) → HearsChunks count c u u' r → NoneSent → Laid r
  chunks_laid count (came.Pending s') h none = laid_as (waits (inserts s' count)) h.1 none
  chunks_laid count (came.Done reply) (steps.inserted n told_so is answer) none = laid_as (goes fills) answer none
  chunks_laid count (came.Done reply) (steps.not_inserted e fails is answer) none = undoes_so (Some e) answer (laid_none none)
  chunks_laid count (came.Failed e) h none = undoes_so (Some e) h.1 (laid_none none)

  rests_laid : (ids : ℕ → List ℕ) (drawn : ℕ) (moment : ℤ) → NoneSent → Rests ids drawn moment u u' r → Laid r
  rests_laid ids drawn moment none (steps.nothing_left empty n is answer) = laid_as (goes (ends (ending_of u moment))) answer none
  rests_laid ids drawn moment none (steps.built some small n s request is answer) = laid_as (goes (lasts s (ending_of u moment))) answer none
  rests_laid ids drawn moment none (steps.not_built some most e left fails is answer) = undoes_so (Some e) answer (laid_none none)

  last_laid : (ending : Ending) (c : Step Sending (List ℕ)) → HearsLast ending c u u' r → NoneSent → Laid r
  last_laid ending (came.Pending s') h none = laid_as (waits (lasts s' ending)) h.1 none
  last_laid ending (came.Done reply) (steps.inserted n told_so is answer) none = laid_as (goes (ends ending)) answer none
  last_laid ending (came.Done reply) (steps.not_inserted e fails is answer) none = undoes_so (Some e) answer (laid_none none)
  last_laid ending (came.Failed e) h none = undoes_so (Some e) h.1 (laid_none none)

  -- ---- the record

  -- by how far its command has come
  abbrev RecordAt : Stage → Past → Type 0
  RecordAt stage past = Around stage (SendsNoRecord past t) (LaysAll past t)

  ends_laid : (ending : Ending) → NoneSent → Ends ending u u' r → Laid r
  ends_laid ending none (steps.built s request is answer) = laid_as (goes (records s ending)) answer (λ calls' told'. subst (λ (x : Stage). RecordAt x (past_of places since calls' wire)) (sym request.new) (none calls' told'))
  ends_laid ending none (steps.not_built e fails is answer) = undoes_so (Some e) answer (laid_none none)

  -- as it is sent all chunks are there
  record_stood : (s : Sending) (ending : Ending) → IsOfCall call (records s ending) → IsSoundPhase u (records s ending) → KnowsAhead old Here t.at u taken (records s ending) → s.stage ≡ unsent → KnowsAll Here t
  record_stood s ending own sound k new_one =
      let all : rest ≡ [] = all_taken call rest (records s ending) fits own (λ piece x. x) in
      let cs : List Fields = k.chunks ++ k.coming in
      let bytes : k.stored ++ k.flying ≡ joined t.pieces
      = sym (k.parts ∙ ap (λ (l : List ℕ). k.stored ++ (k.flying ++ l)) sound.1 ∙ ap (λ (l : List ℕ). k.stored ++ l) (append-nil k.flying)) ∙ sym (whole ∙ ap (λ (l : List ℕ). taken ++ l) all ∙ append-nil taken) in
      let are : AreChunks 0 (chunked u.aim.size (k.stored ++ k.flying)) cs = storing.joined u.sent u.aim.size k.stored k.flying k.chunks k.coming bounds.size.some k.even k.chunks_are k.coming_are in
      let file : KnowsFile Here t.at u.aim.id (stays (part cs)) = subst (λ (x : Stage). KnowsFile Here t.at u.aim.id (insert_at old s.command (part cs) (whole_with (record_of u.aim ending) cs) x)) new_one k.knows in (
        cs,
        subst (λ (a : Aim). AreChunks 0 (chunked a.size (joined t.pieces)) cs) aim (subst (λ (l : List ℕ). AreChunks 0 (chunked u.aim.size l) cs) bytes are),
        subst (λ (a : Aim). KnowsFile Here t.at a.id (stays (part cs))) aim file,
      )

  record_ran : (s : Sending) (ending : Ending) (c : Step Sending (List ℕ)) → IsOfCall call (records s ending) → IsSoundPhase u (records s ending) → KnowsAhead old Here t.at u taken (records s ending) → RecordAt s.stage Here → Runs old new log log' wire s c → AllLaid
  record_ran s ending c own sound k h runs = ran_laid t old new log log' s calls told places since wire (sent_either t Here s.stage h) wire c sound.0.retries_is runs (λ new_one moment is. record_stood s ending own sound k new_one)

  record_heard : (s : Sending) (ending : Ending) (c : Step Sending (List ℕ)) → IsOfCall call (records s ending) → IsRecording u.aim s ending → Runs old new log log' wire s c → HearsRecord ending c u u' r → AllLaid → Laid r
  record_heard s ending (came.Pending s') own request runs h all =
      let w = waits_still old new log log' wire s s' request.retries_is request.at runs in
      laid_as (waits (records s' ending)) h.1 (λ calls' told'. subst (λ (x : Stage). RecordAt x (past_of places since calls' wire)) (sym w.waits_by) (all calls' told'))
  record_heard s ending (came.Done reply) own request runs (steps.inserted n told_so is answer) all = laid_as done answer (λ calls' told'. closes_so t (past_of places since calls' wire) call s ending own (all calls' told'))
  record_heard s ending (came.Done reply) own request runs (steps.not_inserted e fails undone) all = undoes_so (Some e) undone.1 all
  record_heard s ending (came.Failed e) own request runs h all = undoes_so (Some e) h.1 all

  -- ---- the way back

  removes_laid : (error : Option Error) → AllLaid → Removes error u u' r → Laid r
  removes_laid error all (steps.built s request is answer) = laid_as (goes (removes s error)) answer all
  removes_laid error all (steps.not_built d e fails both is answer) = laid_as (failed e) answer all

  removal_ran : (s : Sending) (c : Step Sending (List ℕ)) → IsRequest false (deletion_lines u.aim.bucket u.aim.id) s → LaysAll Here t → Runs old new log log' wire s c → AllLaid
  removal_ran s c request h runs =
      ran_laid t old new log log' s calls told places since wire h wire c request.retries_is runs
      (λ new_one moment is. absurd (record_no_removal t named.0 named.1 s.command moment is (request.command_is ∙ ap (λ (a : Aim). fields_in (deletion_lines a.bucket a.id)) aim)))

  removal_heard : (s : Sending) (error : Option Error) (c : Step Sending (List ℕ)) → IsOfCall call (removes s error) → HearsRemoval error c u u' r → AllLaid → Laid r
  removal_heard s error (came.Pending s') own h all = laid_as (waits (removes s' error)) h.1 all
  removal_heard s error (came.Done reply) own (steps.removed n wrote_so is answer) all = laid_as (undone_by error) answer (λ calls' told'. undone_so t (past_of places since calls' wire) call s error own (all calls' told'))
  removal_heard s error (came.Done reply) own (steps.not_removed d e fails both is answer) all = laid_as (failed e) answer all
  removal_heard s error (came.Failed d) own h all = laid_as (failed h.0) h.3 all

  -- ---- a step

  step_laid : (ids : ℕ → List ℕ) (drawn : ℕ) (p : Phase) → IsSoundPhase u p → IsOfCall call p → PhaseFlies supply t p → (call ≡ close → KnowsPhase old Here t.at u taken p) → PhaseLays Here t p → DoesStep old new log log' wire ids drawn u u' p r → Laid r
  step_laid ids drawn p sound own flies knows lays (begins_check is q n does) = begins_laid (still_none q (subst (PhaseLays Here t) is lays)) does
  step_laid ids drawn p sound own flies knows lays (checks_on c is n x checks_so leads) =
      let a = check_sends t old new log log' wire u.aim.bucket (ap (λ (y : Aim). y.bucket) aim) c x (subst (IsSoundPhase u) is sound).0 (subst (PhaseFlies supply t) is flies) checks_so in
      check_laid x leads (none_on (check_told t named log log' a.0) (subst (PhaseLays Here t) is lays))
  step_laid ids drawn p sound own flies knows lays (is_short is q n short same answer) =
      let none = still_none q (subst (PhaseLays Here t) is lays) in
      laid_as done answer (λ calls' told'. writes_so t (past_of places since calls' wire) call (subst (IsOfCall call) is own) (none calls' told'))
  step_laid ids drawn p sound own flies knows lays (fills_next is q full does) = fills_laid ids drawn (still_none q (subst (PhaseLays Here t) is lays)) does
  step_laid ids drawn p sound own flies knows lays (inserts_on s count is n c runs hears) =
      let i = subst (IsSoundPhase u) is sound in
      chunks_laid count c hears (chunks_none s c i.documents i.request.command_is runs (subst (PhaseLays Here t) is lays))
  step_laid ids drawn p sound own flies knows lays (rests_next moment is q does) = rests_laid ids drawn moment (still_none q (subst (PhaseLays Here t) is lays)) does
  step_laid ids drawn p sound own flies knows lays (inserts_last s ending is n c runs hears) =
      let l = (subst (IsSoundPhase u) is sound).0 in
      last_laid ending c hears (chunks_none s c (l.document ∷ []) l.request.command_is runs (subst (PhaseLays Here t) is lays))
  step_laid ids drawn p sound own flies knows lays (ends_next ending is q n does) = ends_laid ending (still_none q (subst (PhaseLays Here t) is lays)) does
  step_laid ids drawn p sound own flies knows lays (records_on s ending is n c runs hears) =
      let sound_so = subst (IsSoundPhase u) is sound in
      let own_so = subst (IsOfCall call) is own in
      let k = subst (KnowsPhase old Here t.at u taken) is (knows (of_close call s ending own_so)) in
      record_heard s ending c own_so sound_so.0 runs hears (record_ran s ending c own_so sound_so k (subst (PhaseLays Here t) is lays) runs)
  step_laid ids drawn p sound own flies knows lays (lands_on flight error is n left landing landed) = absurd (subst (PhaseLays Here t) is lays)
  step_laid ids drawn p sound own flies knows lays (undoes_next error is q n does) = removes_laid error (still_all q (subst (PhaseLays Here t) is lays)) does
  step_laid ids drawn p sound own flies knows lays (removes_on s error is n c runs hears) =
      removal_heard s error c (subst (IsOfCall call) is own) hears (removal_ran s c (subst (IsSoundPhase u) is sound) (subst (PhaseLays Here t) is lays) runs)

-- ---- all steps

pub steps_laid : (supply : Supply) (t : PutTask) → NamesFiles t → (taken rest : List ℕ) → joined t.pieces ≡ taken ++ rest → (call : uploads.Call) → Fits call rest → (n : ℕ) (old new : Awaited) (log log' : LogTold) (wire : ℤ) (ids : ℕ → List ℕ) (drawn : ℕ) (u u' : ClientUpload) (p : Phase) (r : Stepped) → u.aim ≡ put_aim t → HasBounds u → IsSoundPhase u p → IsOfCall call p → CutByPhase u taken p → PhaseFlies supply t p
    → PhaseSupplied supply t ids u.sent p → (calls : List Call) → log ≡ Some calls → (places : List ℕ) (since : ℕ) → (call ≡ close → KnowsPhase old (past_of places since calls wire) t.at u taken p) → PhaseLays (past_of places since calls wire) t p → DoesSteps n old new log log' wire ids drawn u u' p r → ByLog log' places since wire (λ past. DoingLays past t (doing_behind call r))
unfolding DoesSteps
steps_laid supply t named taken rest whole call fits zero old new log log' wire ids drawn u u' p r aim bounds sound own cut flies so calls told places since knows lays d =
    step_laid supply t named taken rest whole call fits old new log log' wire u u' r aim bounds calls told places since ids drawn p sound own flies knows lays d.0
steps_laid supply t named taken rest whole call fits (suc n) old new log log' wire ids drawn u u' p r aim bounds sound own cut flies so calls told places since knows lays d =
    let kept = step_kept old d.0 log d.1 wire u d.4 (goes d.5) bounds ids d.2 p sound d.6 in
    let s = step_sends supply t taken rest whole call fits old d.0 log d.1 wire u d.4 (goes d.5) aim (its_room t u aim bounds) ids d.2 p sound own cut flies so d.6 in
    let own_on = call_kept call old d.0 log d.1 wire ids d.2 u d.4 p (goes d.5) own d.6 in
    let next = step_supplied supply t call ids d.2 u d.4 (goes d.5) old d.0 log d.1 wire p own so d.6 in
    let a = s.0 calls told in
    let knows_on : call ≡ close → KnowsPhase d.0 (past_of places since a.0 wire) t.at d.4 taken d.5
    = λ closes. (let k = step_known old d.0 log d.1 t.at u d.4 p (goes d.5) (placed_put t named u aim) bounds sound taken calls told places since wire call own ids d.2 d.6 (knows closes) in subst (λ (l : List Call). KnowsPhase d.0 (past_of places since l wire) t.at d.4 taken d.5) (same_some k.0 a.0 (sym k.1 ∙ a.1)) k.3) in
    let lays_on = step_laid supply t named taken rest whole call fits old d.0 log d.1 wire u d.4 (goes d.5) aim bounds calls told places since ids d.2 p sound own flies knows lays d.6 a.0 a.1 in
    steps_laid supply t named taken rest whole call fits n d.0 new d.1 log' wire (ids_behind d.2 ids) d.3 d.4 u' d.5 r (kept.same_aim ∙ aim) kept.bounds kept.stepped_so own_on s.1.0 s.1.1 next a.0 a.1 places since knows_on lays_on d.8
