-- A poll of an upload leaves the cursors of others alone.
use Rattle.std.proofs.Common.{◌≡◌, ℕ, zero, suc, ℤ, Bool, true, false, List, [], ◌∷◌, length, Option, Some, None, refl, sym, ap, ◌∙◌, subst}
use Rattle.std.specs.Prelude.{if◌then◌else◌, option_map}
use Rattle.mg_link.specs.Exec.{Sending, Stage, first, second, ticket_at, unsent}
use Rattle.mg_link.specs.Link.{Awaited, SendsNothing, LogTold}
use Rattle.mg_link.specs.Log.{Call}
use Rattle.mg_server.specs.Owner.{Holds, Owner, Passes, PassesPlain, nobody}
use Rattle.mg_server.specs.Query.{Query}
use Rattle.mg_server.specs.Reader.{FindingAt, KnowsFinding, KnowsRead, finder, finder_at}
use Rattle.mg_link.specs.declared.action.Step.{Step}
use Rattle.mg_link.specs.declared.action.Step.TheVariants as came
use Rattle.mg_link.specs.declared.error.Error.{Error}
use Rattle.mg_server.proofs.Apart.{holds_nobody, passes_on, passes_same}
use Rattle.mg_server.proofs.Killing.{plain_ran, plain_stayed}
use Rattle.mg_ops.specs.Naming.{IsNamed}
use Rattle.mg_cursor.specs.Client.{client_ticket}
use Rattle.mg_cursor.specs.Documents.{DocumentCursor}
use Rattle.mg_cursor.specs.Reading.{reader_of}
use Rattle.mg_gridfs.specs.Buckets.{ClientBucket}
use Rattle.mg_gridfs.specs.Calls as calls_of
use Rattle.mg_gridfs.specs.Calls.{Aborts, Closes, Drives, Writes, at_work, doing_behind, first_phase, landing_of, with_bytes, write_in_progress}
use Rattle.mg_gridfs.specs.Checks as check
use Rattle.mg_gridfs.specs.Checks.{CheckTurned, ClientCheck, check_ticket, creates, finds, indexes, lists, reads, still_of}
use Rattle.mg_gridfs.specs.Cursors.{KnowsAt, KnowsCheck, KnowsCursors, KnowsFlight, KnowsIn, KnowsList, LeavesOthers, check_owner, flight_owner, indexes_query, owner_by, phase_owner, upload_owner}
use Rattle.mg_gridfs.specs.Indexes.{space_in}
use Rattle.mg_gridfs.specs.Steps as steps
use Rattle.mg_gridfs.specs.Steps.{BeginsCheck, CheckLeads, DoesStep, DoesSteps, Ends, Fills, HearsChunks, HearsLast, HearsRecord, HearsRemoval, LandedAs, LandsFlight, Removes, Rests, Stepped, begins_check, checks_on, done, ending_of, ends_next, failed, fills_next, goes, ids_behind, inserts_last, inserts_on, is_short, lands_on, of_check, of_command, records_on, removes_on, rests_next, undoes_next, undone_by, waits}
use Rattle.mg_gridfs.specs.Uploads as uploads
use Rattle.mg_gridfs.specs.Uploads.{Aim, ClientUpload, Doing, Ending, Flight, HasBounds, IsBetween, IsFlight, IsOwnWrite, IsSoundPhase, Phase, SoundBy, abort, begins, busy, by_check, by_command, checks, close, closed, ends, fills, flight_ticket, idle, inserting, inserts, lands, lasts, phase_ticket, record_of, recording, records, removes, removing, rests, ticket_by, undoes, write}
use Rattle.mg_gridfs.specs.declared.polls.Step2.{Step2}
use Rattle.mg_gridfs.specs.declared.polls.WritePoll.{WritePoll}
use Rattle.mg_gridfs.proofs.Downloading.{fetching_same, owner_same}
use Rattle.mg_gridfs.proofs.Keeping.{step_kept}
use Rattle.mg_gridfs.proofs.Named.{NamesNone, chunks_none, deletion_none, record_none}
use Rattle.mg_gridfs.proofs.Owned.{KnowsLeft, Turned, check_passes, landing_passes, left_owner}
use Rattle.mg_gridfs.proofs.Polled.{begun_sound, bounds_doing, landing_sound, sound_doing}

-- ---- what a step comes to

abbrev pub stepped_owner : Awaited → Stepped → Owner
stepped_owner awaited (goes p) = phase_owner awaited p
stepped_owner awaited (waits p) = phase_owner awaited p
stepped_owner awaited done = nobody
stepped_owner awaited (failed e) = nobody

abbrev pub KnowsBehind : Awaited → List Call → ClientBucket → Stepped → Type 0
KnowsBehind awaited calls b (goes p) = KnowsAt awaited calls b p
KnowsBehind awaited calls b (waits p) = KnowsAt awaited calls b p
KnowsBehind awaited calls b done = Unit {0}
KnowsBehind awaited calls b (failed e) = Unit {0}

-- it left others alone, and knows its own
abbrev pub Passed : List Call → LogTold → Owner → Awaited → ClientBucket → Stepped → Type 0
Passed calls log' own new b r = (calls' : List Call) × (log' ≡ Some calls') × Passes calls calls' own (stepped_owner new r) × KnowsBehind new calls' b r

-- ---- steps that own nothing behind them

module _ (new : Awaited) (b : ClientBucket) where
  abbrev Plain : Stepped → Type 0
  Plain r = (stepped_owner new r ≡ nobody) × ((calls : List Call) → KnowsBehind new calls b r)

  plain_as : (r q : Stepped) → r ≡ q → Plain q → Plain r
  plain_as r q is h = subst Plain (sym is) h

  undone_plain : (error : Option Error) → Plain (undone_by error)
  undone_plain None = (refl, λ calls. tt)
  undone_plain (Some e) = (refl, λ calls. tt)

  module _ (u u' : ClientUpload) (r : Stepped) where
    begins_plain : BeginsCheck u u' r → Plain r
    begins_plain (steps.built s request is answer) = plain_as r (goes (checks (finds s))) answer (refl, λ calls. tt)
    begins_plain (steps.not_built e fails is answer) = plain_as r (failed e) answer (refl, λ calls. tt)

    fills_plain : (ids : ℕ → List ℕ) (drawn : ℕ) → Fills ids drawn u u' r → Plain r
    fills_plain ids drawn (steps.built count s portion small n request is answer) = plain_as r (goes (inserts s count)) answer (refl, λ calls. tt)
    fills_plain ids drawn (steps.not_built within e left fails is answer) = plain_as r (goes (undoes (Some e))) answer (refl, λ calls. tt)

    chunks_plain : (count : ℕ) (c : Step Sending (List ℕ)) → HearsChunks count c u u' r → Plain r
    chunks_plain count (came.Pending s) h = plain_as r (waits (inserts s count)) h.1 (refl, λ calls. tt)
    chunks_plain count (came.Done reply) (steps.inserted n told_so is answer) = plain_as r (goes fills) answer (refl, λ calls. tt)
    chunks_plain count (came.Done reply) (steps.not_inserted e fails is answer) = plain_as r (goes (undoes (Some e))) answer (refl, λ calls. tt)
    chunks_plain count (came.Failed e) h = plain_as r (goes (undoes (Some e))) h.1 (refl, λ calls. tt)

    rests_plain : (ids : ℕ → List ℕ) (drawn : ℕ) (moment : ℤ) → Rests ids drawn moment u u' r → Plain r
    rests_plain ids drawn moment (steps.nothing_left none n is answer) = plain_as r (goes (ends (ending_of u moment))) answer (refl, λ calls. tt)
    rests_plain ids drawn moment (steps.built some small n s request is answer) = plain_as r (goes (lasts s (ending_of u moment))) answer (refl, λ calls. tt)
    rests_plain ids drawn moment (steps.not_built some most e left fails is answer) = plain_as r (goes (undoes (Some e))) answer (refl, λ calls. tt)

    last_plain : (ending : Ending) (c : Step Sending (List ℕ)) → HearsLast ending c u u' r → Plain r
    last_plain ending (came.Pending s) h = plain_as r (waits (lasts s ending)) h.1 (refl, λ calls. tt)
    last_plain ending (came.Done reply) (steps.inserted n told_so is answer) = plain_as r (goes (ends ending)) answer (refl, λ calls. tt)
    last_plain ending (came.Done reply) (steps.not_inserted e fails is answer) = plain_as r (goes (undoes (Some e))) answer (refl, λ calls. tt)
    last_plain ending (came.Failed e) h = plain_as r (goes (undoes (Some e))) h.1 (refl, λ calls. tt)

    ends_plain : (ending : Ending) → Ends ending u u' r → Plain r
    ends_plain ending (steps.built s request is answer) = plain_as r (goes (records s ending)) answer (refl, λ calls. tt)
    ends_plain ending (steps.not_built e fails is answer) = plain_as r (goes (undoes (Some e))) answer (refl, λ calls. tt)

    record_plain : (ending : Ending) (c : Step Sending (List ℕ)) → HearsRecord ending c u u' r → Plain r
    record_plain ending (came.Pending s) h = plain_as r (waits (records s ending)) h.1 (refl, λ calls. tt)
    record_plain ending (came.Done reply) (steps.inserted n told_so is answer) = plain_as r done answer (refl, λ calls. tt)
    record_plain ending (came.Done reply) (steps.not_inserted e fails undoes_so) = plain_as r (goes (undoes (Some e))) undoes_so.1 (refl, λ calls. tt)
    record_plain ending (came.Failed e) h = plain_as r (goes (undoes (Some e))) h.1 (refl, λ calls. tt)

    removes_plain : (error : Option Error) → Removes error u u' r → Plain r
    removes_plain error (steps.built s request is answer) = plain_as r (goes (removes s error)) answer (refl, λ calls. tt)
    removes_plain error (steps.not_built d e fails both is answer) = plain_as r (failed e) answer (refl, λ calls. tt)

    removal_plain : (error : Option Error) (c : Step Sending (List ℕ)) → HearsRemoval error c u u' r → Plain r
    removal_plain error (came.Pending s) h = plain_as r (waits (removes s error)) h.1 (refl, λ calls. tt)
    removal_plain error (came.Done reply) (steps.removed n wrote is answer) = plain_as r (undone_by error) answer (undone_plain error)
    removal_plain error (came.Done reply) (steps.not_removed d e fails both is answer) = plain_as r (failed e) answer (refl, λ calls. tt)
    removal_plain error (came.Failed d) h = plain_as r (failed h.0) h.3 (refl, λ calls. tt)

-- ---- a step

module _ (old new : Awaited) (log log' : LogTold) (wire : ℤ) (u u' : ClientUpload) (files : IsNamed u.aim.bucket.files) (chunks : IsNamed u.aim.bucket.chunks) (r : Stepped) (calls : List Call) (told : log ≡ Some calls) where
  plainly : PassesPlain log log' → Plain new u.aim.bucket r → Passed calls log' nobody new u.aim.bucket r
  plainly passes plain = let p = passes calls told in (p.0, p.1, subst (λ (o : Owner). Passes calls p.0 nobody o) (sym plain.0) p.2, plain.1 p.0)

  quietly : SendsNothing old new log log' → Plain new u.aim.bucket r → Passed calls log' nobody new u.aim.bucket r
  quietly quiet plain = plainly (plain_stayed log log' quiet.log_same) plain

  passed_as : (own : Owner) (q : Stepped) → r ≡ q → Passed calls log' own new u.aim.bucket q → Passed calls log' own new u.aim.bucket r
  passed_as own q is h = subst (Passed calls log' own new u.aim.bucket) (sym is) h

  check_leads : (own : Owner) (t : CheckTurned) → CheckLeads t u u' r → Turned calls log' own new u.aim.bucket t → Passed calls log' own new u.aim.bucket r
  check_leads own (check.goes c) h x = passed_as own (goes (checks c)) h.1 x
  check_leads own (check.pends c) h x = passed_as own (waits (checks c)) h.1 x
  check_leads own check.passes h x = passed_as own (goes fills) h.1 x
  check_leads own (check.fails e) h x = passed_as own (failed e) h.1 x

  own_none : (s : Sending) → IsOwnWrite u s → NamesNone s
  own_none s (inserting documents request) = chunks_none u.aim.bucket files chunks documents s request
  own_none s (recording ending request) = record_none u.aim.bucket files chunks (record_of u.aim ending) s request
  own_none s (removing request) = deletion_none u.aim.bucket files chunks u.aim.id s request

  check_landed : (error : Option Error) (own : Owner) (t : Option ClientCheck) (calls' : List Call) → log' ≡ Some calls' → Passes calls calls' own (left_owner new t) → KnowsLeft new calls' u.aim.bucket t → LandedAs error (option_map by_check t) u u' r → Passed calls log' own new u.aim.bucket r
  check_landed error own None calls' told' p k h = passed_as own (goes (undoes error)) h.1 (calls', told', p, tt)
  check_landed error own (Some c) calls' told' p k h = passed_as own (waits (lands (by_check c) error)) h.1 (calls', told', p, k)

  command_landed : (error : Option Error) (c : Step Sending (List ℕ)) → LandedAs error (option_map by_command (still_of c)) u u' r → Plain new u.aim.bucket r
  command_landed error (came.Pending s) h = plain_as new u.aim.bucket r (waits (lands (by_command s) error)) h.1 (refl, λ cs. tt)
  command_landed error (came.Done reply) h = plain_as new u.aim.bucket r (goes (undoes error)) h.1 (refl, λ cs. tt)
  command_landed error (came.Failed e) h = plain_as new u.aim.bucket r (goes (undoes error)) h.1 (refl, λ cs. tt)

  flight_lands : (flight : Flight) (error : Option Error) (left : Option Flight) → IsFlight u flight → KnowsFlight old calls u.aim.bucket flight → LandsFlight old new log log' wire flight left → LandedAs error left u u' r → Passed calls log' (flight_owner old flight) new u.aim.bucket r
  flight_lands flight error left own k (of_check c is t landing left_is) h =
      let x = landing_passes old new log log' wire u.aim.bucket files chunks calls told c t (subst (IsFlight u) is own) landing (subst (KnowsFlight old calls u.aim.bucket) is k) in
      subst (λ (f : Flight). Passed calls log' (flight_owner old f) new u.aim.bucket r) (sym is)
      (check_landed error (check_owner old c) t x.0 x.1 x.2 x.3 (subst (λ (l : Option Flight). LandedAs error l u u' r) left_is h))
  flight_lands flight error left own k (of_command s is c runs left_is) h =
      subst (λ (f : Flight). Passed calls log' (flight_owner old f) new u.aim.bucket r) (sym is)
      (plainly (plain_ran s.command (own_none s (subst (IsFlight u) is own)) old new log log' wire s c refl runs) (command_landed error c (subst (λ (l : Option Flight). LandedAs error l u u' r) left_is h)))

  own_as : (p q : Phase) → p ≡ q → Passed calls log' (phase_owner old q) new u.aim.bucket r → Passed calls log' (phase_owner old p) new u.aim.bucket r
  own_as p q is h = subst (λ (x : Phase). Passed calls log' (phase_owner old x) new u.aim.bucket r) (sym is) h

  pub step_passes : (ids : ℕ → List ℕ) (drawn : ℕ) (p : Phase) → IsSoundPhase u p → DoesStep old new log log' wire ids drawn u u' p r → KnowsAt old calls u.aim.bucket p → Passed calls log' (phase_owner old p) new u.aim.bucket r
  step_passes ids drawn p sound (begins_check is quiet n does) k = own_as p begins is (quietly quiet (begins_plain new u.aim.bucket u u' r does))
  step_passes ids drawn p sound (checks_on c is n t checks_so leads) k =
      own_as p (checks c) is (check_leads (check_owner old c) t leads (check_passes old new log log' wire u.aim.bucket files chunks calls told c t (subst (IsSoundPhase u) is sound).0 checks_so (subst (KnowsAt old calls u.aim.bucket) is k)))
  step_passes ids drawn p sound (is_short is quiet n short same answer) k = own_as p fills is (quietly quiet (plain_as new u.aim.bucket r done answer (refl, λ cs. tt)))
  step_passes ids drawn p sound (fills_next is quiet full does) k = own_as p fills is (quietly quiet (fills_plain new u.aim.bucket u u' r ids drawn does))
  step_passes ids drawn p sound (inserts_on s count is n c runs hears) k =
      let i = subst (IsSoundPhase u) is sound in
      own_as p (inserts s count) is (plainly (plain_ran s.command (chunks_none u.aim.bucket files chunks i.documents s i.request) old new log log' wire s c refl runs) (chunks_plain new u.aim.bucket u u' r count c hears))
  step_passes ids drawn p sound (rests_next moment is quiet does) k = own_as p (rests moment) is (quietly quiet (rests_plain new u.aim.bucket u u' r ids drawn moment does))
  step_passes ids drawn p sound (inserts_last s ending is n c runs hears) k =
      let l = (subst (IsSoundPhase u) is sound).0 in
      own_as p (lasts s ending) is (plainly (plain_ran s.command (chunks_none u.aim.bucket files chunks (l.document ∷ []) s l.request) old new log log' wire s c refl runs) (last_plain new u.aim.bucket u u' r ending c hears))
  step_passes ids drawn p sound (ends_next ending is quiet n does) k = own_as p (ends ending) is (quietly quiet (ends_plain new u.aim.bucket u u' r ending does))
  step_passes ids drawn p sound (records_on s ending is n c runs hears) k =
      let own = (subst (IsSoundPhase u) is sound).0 in
      own_as p (records s ending) is (plainly (plain_ran s.command (record_none u.aim.bucket files chunks (record_of u.aim ending) s own) old new log log' wire s c refl runs) (record_plain new u.aim.bucket u u' r ending c hears))
  step_passes ids drawn p sound (lands_on flight error is n left landing landed) k =
      own_as p (lands flight error) is (flight_lands flight error left (subst (IsSoundPhase u) is sound) (subst (KnowsAt old calls u.aim.bucket) is k) landing landed)
  step_passes ids drawn p sound (undoes_next error is quiet n does) k = own_as p (undoes error) is (quietly quiet (removes_plain new u.aim.bucket u u' r error does))
  step_passes ids drawn p sound (removes_on s error is n c runs hears) k =
      own_as p (removes s error) is (plainly (plain_ran s.command (deletion_none u.aim.bucket files chunks u.aim.id s (subst (IsSoundPhase u) is sound)) old new log log' wire s c refl runs) (removal_plain new u.aim.bucket u u' r error c hears))

-- ---- all steps

-- the same, of an upload whose aim stays
pub record PassedOn (calls : List Call) (log' : LogTold) (own : Owner) (new : Awaited) (u u' : ClientUpload) (r : Stepped) : Type 0 where
  pub passed : Passed calls log' own new u.aim.bucket r
  pub same_aim : u'.aim ≡ u.aim

pub steps_pass : (n : ℕ) (old new : Awaited) (log log' : LogTold) (wire : ℤ) (ids : ℕ → List ℕ) (drawn : ℕ) (u u' : ClientUpload) (p : Phase) (r : Stepped) → IsNamed u.aim.bucket.files → IsNamed u.aim.bucket.chunks → HasBounds u → IsSoundPhase u p
    → DoesSteps n old new log log' wire ids drawn u u' p r → (calls : List Call) → log ≡ Some calls → KnowsAt old calls u.aim.bucket p → PassedOn calls log' (phase_owner old p) new u u' r
unfolding DoesSteps
steps_pass zero old new log log' wire ids drawn u u' p r files chunks bounds sound d calls told k =
    record {
      passed = step_passes old new log log' wire u u' files chunks r calls told ids drawn p sound d.0 k;
      same_aim = (step_kept old new log log' wire u u' r bounds ids drawn p sound d.0).same_aim;
    }
steps_pass (suc n) old new log log' wire ids drawn u u' p r files chunks bounds sound d calls told k =
    let kept_so = step_kept old d.0 log d.1 wire u d.4 (goes d.5) bounds ids d.2 p sound d.6 in
    let one = step_passes old d.0 log d.1 wire u d.4 files chunks (goes d.5) calls told ids d.2 p sound d.6 k in
    let same : d.4.aim ≡ u.aim = kept_so.same_aim in
    let rest = steps_pass n d.0 new d.1 log' wire (ids_behind d.2 ids) d.3 d.4 u' d.5 r (subst (λ (a : Aim). IsNamed a.bucket.files) (sym same) files) (subst (λ (a : Aim). IsNamed a.bucket.chunks) (sym same) chunks) kept_so.bounds kept_so.stepped_so d.8 one.0 one.1
    (subst (λ (a : Aim). KnowsAt d.0 one.0 a.bucket d.5) (sym same) one.3) in
    let after = subst (λ (a : Aim). Passed one.0 log' (phase_owner d.0 d.5) new a.bucket r) same rest.passed in
    record {
      passed = (after.0, after.1, passes_on calls one.0 after.0 (phase_owner old p) (phase_owner d.0 d.5) (stepped_owner new r) one.2 after.2, after.3);
      same_aim = rest.same_aim ∙ same;
    }

-- ---- between polls

-- where its ticket stays its cursors stay
module _ (old new : Awaited) where
  finder_same : (stage : Stage) → ((m : ℕ) → ticket_at stage ≡ Some m → new m ≡ old m) → finder_at new stage ≡ finder_at old stage
  finder_same unsent same = refl
  finder_same (first ticket) same = ap finder (same ticket refl)
  finder_same (second ticket) same = ap finder (same ticket refl)

  finding_same : (calls : List Call) (q : Query) (stage : Stage) → ((m : ℕ) → ticket_at stage ≡ Some m → new m ≡ old m) → FindingAt old calls q stage → FindingAt new calls q stage
  finding_same calls q unsent same k = tt
  finding_same calls q (first ticket) same k = subst (KnowsFinding calls q) (sym (same ticket refl)) k
  finding_same calls q (second ticket) same k = subst (KnowsFinding calls q) (sym (same ticket refl)) k

  list_same : (calls : List Call) (d : DocumentCursor) → ((m : ℕ) → client_ticket d.cursor ≡ Some m → new m ≡ old m) → KnowsList old calls d → KnowsList new calls d
  list_same calls d same k = (k.0, k.1, subst (λ f. KnowsRead calls (record (reader_of old d k.1) { doing = f })) (sym (fetching_same old new d.cursor.doing same)) k.2)

  check_owner_same : (c : ClientCheck) → ((m : ℕ) → check_ticket c ≡ Some m → new m ≡ old m) → check_owner new c ≡ check_owner old c
  check_owner_same (finds s) same = refl
  check_owner_same (creates at s) same = refl
  check_owner_same (lists at s) same = finder_same s.stage same
  check_owner_same (reads at d found count) same = owner_same old new d.cursor same
  check_owner_same (indexes at s) same = refl

  check_same : (calls : List Call) (b : ClientBucket) (c : ClientCheck) → ((m : ℕ) → check_ticket c ≡ Some m → new m ≡ old m) → KnowsCheck old calls b c → KnowsCheck new calls b c
  check_same calls b (finds s) same k = tt
  check_same calls b (creates at s) same k = tt
  check_same calls b (lists at s) same k = finding_same calls (indexes_query (space_in b at)) s.stage same k
  check_same calls b (reads at d found count) same k = list_same calls d same k
  check_same calls b (indexes at s) same k = tt

  flight_owner_same : (flight : Flight) → ((m : ℕ) → flight_ticket flight ≡ Some m → new m ≡ old m) → flight_owner new flight ≡ flight_owner old flight
  flight_owner_same (by_check c) same = check_owner_same c same
  flight_owner_same (by_command s) same = refl

  flight_same : (calls : List Call) (b : ClientBucket) (flight : Flight) → ((m : ℕ) → flight_ticket flight ≡ Some m → new m ≡ old m) → KnowsFlight old calls b flight → KnowsFlight new calls b flight
  flight_same calls b (by_check c) same k = check_same calls b c same k
  flight_same calls b (by_command s) same k = tt

  phase_owner_same : (p : Phase) → ((m : ℕ) → phase_ticket p ≡ Some m → new m ≡ old m) → phase_owner new p ≡ phase_owner old p
  phase_owner_same begins same = refl
  phase_owner_same (checks c) same = check_owner_same c same
  phase_owner_same fills same = refl
  phase_owner_same (inserts s count) same = refl
  phase_owner_same (rests moment) same = refl
  phase_owner_same (lasts s ending) same = refl
  phase_owner_same (ends ending) same = refl
  phase_owner_same (records s ending) same = refl
  phase_owner_same (lands flight error) same = flight_owner_same flight same
  phase_owner_same (undoes error) same = refl
  phase_owner_same (removes s error) same = refl

  phase_same : (calls : List Call) (b : ClientBucket) (p : Phase) → ((m : ℕ) → phase_ticket p ≡ Some m → new m ≡ old m) → KnowsAt old calls b p → KnowsAt new calls b p
  phase_same calls b begins same k = tt
  phase_same calls b (checks c) same k = check_same calls b c same k
  phase_same calls b fills same k = tt
  phase_same calls b (inserts s count) same k = tt
  phase_same calls b (rests moment) same k = tt
  phase_same calls b (lasts s ending) same k = tt
  phase_same calls b (ends ending) same k = tt
  phase_same calls b (records s ending) same k = tt
  phase_same calls b (lands flight error) same k = flight_same calls b flight same k
  phase_same calls b (undoes error) same k = tt
  phase_same calls b (removes s error) same k = tt

  pub doing_owner_same : (d : Doing) → ((m : ℕ) → ticket_by d ≡ Some m → new m ≡ old m) → owner_by new d ≡ owner_by old d
  doing_owner_same idle same = refl
  doing_owner_same (busy call p) same = phase_owner_same p same
  doing_owner_same closed same = refl

  pub doing_same : (calls : List Call) (b : ClientBucket) (d : Doing) → ((m : ℕ) → ticket_by d ≡ Some m → new m ≡ old m) → KnowsIn old calls b d → KnowsIn new calls b d
  doing_same calls b idle same k = tt
  doing_same calls b (busy call p) same k = phase_same calls b p same k
  doing_same calls b closed same k = tt

-- what it owns is held
module _ (awaited : Awaited) (calls : List Call) (b : ClientBucket) where
  finder_holds : (q : Query) (stage : Stage) → FindingAt awaited calls q stage → Holds calls (finder_at awaited stage)
  finder_holds q unsent k = holds_nobody calls
  finder_holds q (first ticket) k = k.owned
  finder_holds q (second ticket) k = k.owned

  check_holds : (c : ClientCheck) → KnowsCheck awaited calls b c → Holds calls (check_owner awaited c)
  check_holds (finds s) k = holds_nobody calls
  check_holds (creates at s) k = holds_nobody calls
  check_holds (lists at s) k = finder_holds (indexes_query (space_in b at)) s.stage k
  check_holds (reads at d found count) k = k.2.owned
  check_holds (indexes at s) k = holds_nobody calls

  flight_holds : (flight : Flight) → KnowsFlight awaited calls b flight → Holds calls (flight_owner awaited flight)
  flight_holds (by_check c) k = check_holds c k
  flight_holds (by_command s) k = holds_nobody calls

  phase_holds : (p : Phase) → KnowsAt awaited calls b p → Holds calls (phase_owner awaited p)
  phase_holds begins k = holds_nobody calls
  phase_holds (checks c) k = check_holds c k
  phase_holds fills k = holds_nobody calls
  phase_holds (inserts s count) k = holds_nobody calls
  phase_holds (rests moment) k = holds_nobody calls
  phase_holds (lasts s ending) k = holds_nobody calls
  phase_holds (ends ending) k = holds_nobody calls
  phase_holds (records s ending) k = holds_nobody calls
  phase_holds (lands flight error) k = flight_holds flight k
  phase_holds (undoes error) k = holds_nobody calls
  phase_holds (removes s error) k = holds_nobody calls

  doing_holds : (d : Doing) → KnowsIn awaited calls b d → Holds calls (owner_by awaited d)
  doing_holds idle k = holds_nobody calls
  doing_holds (busy call p) k = phase_holds p k
  doing_holds closed k = holds_nobody calls

-- what a call leaves
behind_owner : (awaited : Awaited) (call : uploads.Call) (s : Stepped) → owner_by awaited (doing_behind call s) ≡ stepped_owner awaited s
behind_owner awaited call (goes p) = refl
behind_owner awaited call (waits p) = refl
behind_owner awaited (write piece) done = refl
behind_owner awaited close done = refl
behind_owner awaited abort done = refl
behind_owner awaited call (failed e) = refl

behind_knows : (awaited : Awaited) (calls : List Call) (b : ClientBucket) (call : uploads.Call) (s : Stepped) → KnowsBehind awaited calls b s → KnowsIn awaited calls b (doing_behind call s)
behind_knows awaited calls b call (goes p) k = k
behind_knows awaited calls b call (waits p) k = k
behind_knows awaited calls b (write piece) done k = tt
behind_knows awaited calls b close done k = tt
behind_knows awaited calls b abort done k = tt
behind_knows awaited calls b call (failed e) k = tt

-- what is given up
landing_owner : (awaited : Awaited) (p : Phase) (error : Option Error) → phase_owner awaited (landing_of p error) ≡ phase_owner awaited p
landing_owner awaited begins error = refl
landing_owner awaited (checks c) error = refl
landing_owner awaited fills error = refl
landing_owner awaited (inserts s count) error = refl
landing_owner awaited (rests moment) error = refl
landing_owner awaited (lasts s ending) error = refl
landing_owner awaited (ends ending) error = refl
landing_owner awaited (records s ending) error = refl
landing_owner awaited (lands flight other) error = refl
landing_owner awaited (undoes other) error = refl
landing_owner awaited (removes s other) error = refl

landing_knows : (awaited : Awaited) (calls : List Call) (b : ClientBucket) (p : Phase) (error : Option Error) → KnowsAt awaited calls b p → KnowsAt awaited calls b (landing_of p error)
landing_knows awaited calls b begins error k = tt
landing_knows awaited calls b (checks c) error k = k
landing_knows awaited calls b fills error k = tt
landing_knows awaited calls b (inserts s count) error k = tt
landing_knows awaited calls b (rests moment) error k = tt
landing_knows awaited calls b (lasts s ending) error k = tt
landing_knows awaited calls b (ends ending) error k = tt
landing_knows awaited calls b (records s ending) error k = tt
landing_knows awaited calls b (lands flight other) error k = k
landing_knows awaited calls b (undoes other) error k = tt
landing_knows awaited calls b (removes s other) error k = tt

begun_owner : (awaited : Awaited) (t : Bool) → phase_owner awaited (if t then fills else begins) ≡ nobody
begun_owner awaited true = refl
begun_owner awaited false = refl

begun_knows : (awaited : Awaited) (calls : List Call) (b : ClientBucket) (t : Bool) → KnowsAt awaited calls b (if t then fills else begins)
begun_knows awaited calls b true = tt
begun_knows awaited calls b false = tt

-- ---- a poll

module _ (old new : Awaited) (log log' : LogTold) (wire : ℤ) (u u' : ClientUpload) (sound : IsBetween u) where
  -- nothing was sent
  stays : SendsNothing old new log log' → u' ≡ u → LeavesOthers old new log log' u u'
  stays quiet is calls told k =
      let owner : upload_owner new u' ≡ upload_owner old u = ap (λ (v : ClientUpload). upload_owner new v) is ∙ doing_owner_same old new u.doing (λ m held. quiet.rest m) in
      let knows : KnowsCursors new calls u = record { files = k.files; chunks = k.chunks; by = doing_same old new calls u.aim.bucket u.doing (λ m held. quiet.rest m) k.by } in
      (calls, quiet.log_same ∙ told, subst (λ (o : Owner). Passes calls calls (upload_owner old u) o) (sym owner) (passes_same calls (upload_owner old u) (doing_holds old calls u.aim.bucket u.doing k.by)), subst (KnowsCursors new calls) (sym is) knows)

  -- all steps of a call
  driven : (ids : ℕ → List ℕ) (drawn : ℕ) (call : uploads.Call) (v : ClientUpload) (p : Phase) (s : Stepped) → v.aim ≡ u.aim → HasBounds (at_work v) → IsSoundPhase (at_work v) p → phase_owner old p ≡ upload_owner old u → Drives old new log log' wire ids drawn call v u' p s
      → (calls : List Call) → log ≡ Some calls → KnowsCursors old calls u → KnowsAt old calls v.aim.bucket p → (calls' : List Call) × (log' ≡ Some calls') × Passes calls calls' (upload_owner old u) (upload_owner new u') × KnowsCursors new calls' u'
  driven ids drawn call v p s aim bounds fits owner d calls told k at =
      let files = subst (λ (a : Aim). IsNamed a.bucket.files) (sym aim) k.files in
      let chunks = subst (λ (a : Aim). IsNamed a.bucket.chunks) (sym aim) k.chunks in
      let on = steps_pass d.steps old new log log' wire ids drawn (at_work v) d.left p s files chunks bounds fits d.does calls told at in
      let x = on.passed in
      let same : d.left.aim ≡ v.aim = on.same_aim in
      let w : ClientUpload = record d.left { doing = doing_behind call s } in
      let owner' : upload_owner new u' ≡ stepped_owner new s = ap (λ (y : ClientUpload). upload_owner new y) d.behind ∙ behind_owner new call s in
      let knows : KnowsCursors new x.0 w = record {
        files = subst (λ (a : Aim). IsNamed a.bucket.files) (sym same) files;
        chunks = subst (λ (a : Aim). IsNamed a.bucket.chunks) (sym same) chunks;
        by = subst (λ (a : Aim). KnowsIn new x.0 a.bucket (doing_behind call s)) (sym same) (behind_knows new x.0 v.aim.bucket call s x.3);
      } in
      (x.0, x.1, subst (λ (o : Owner). Passes calls x.0 (upload_owner old u) o) (sym owner') (subst (λ (o : Owner). Passes calls x.0 o (stepped_owner new s)) owner x.2), subst (KnowsCursors new x.0) (sym d.behind) knows)

  bounds_now : HasBounds (at_work u)
  bounds_now = bounds_doing u idle sound.sound.bounds

  sound_at : (d : Doing) → u.doing ≡ d → SoundBy u d
  sound_at d is = subst (SoundBy u) is sound.sound.by

  at_phase : (calls : List Call) (call : uploads.Call) (p : Phase) → u.doing ≡ busy call p → KnowsCursors old calls u → KnowsAt old calls u.aim.bucket p
  at_phase calls call p is k = subst (KnowsIn old calls u.aim.bucket) is k.by

  owner_at : (call : uploads.Call) (p : Phase) → u.doing ≡ busy call p → phase_owner old p ≡ upload_owner old u
  owner_at call p is = sym (ap (owner_by old) is)

  idle_owner : u.doing ≡ idle → nobody ≡ upload_owner old u
  idle_owner is = sym (ap (owner_by old) is)

  goes_on : (ids : ℕ → List ℕ) (drawn : ℕ) (call : uploads.Call) (p : Phase) (s : Stepped) → u.doing ≡ busy call p → Drives old new log log' wire ids drawn call u u' p s → LeavesOthers old new log log' u u'
  goes_on ids drawn call p s is d calls told k = driven ids drawn call u p s refl bounds_now (sound_doing u idle p (sound_at (busy call p) is)) (owner_at call p is) d calls told k (at_phase calls call p is k)

  gives_up : (ids : ℕ → List ℕ) (drawn : ℕ) (call other : uploads.Call) (p : Phase) (error : Option Error) (s : Stepped) → u.doing ≡ busy other p → Drives old new log log' wire ids drawn call u u' (landing_of p error) s → LeavesOthers old new log log' u u'
  gives_up ids drawn call other p error s is d calls told k =
      driven ids drawn call u (landing_of p error) s refl bounds_now (landing_sound (at_work u) p error (sound_doing u idle p (sound_at (busy other p) is))) (landing_owner old p error ∙ owner_at other p is) d calls told k (landing_knows old calls u.aim.bucket p error (at_phase calls other p is k))

  pub write_passes : (ids : ℕ → List ℕ) (drawn : ℕ) (bytes : List ℕ) (r : WritePoll) → Writes old new log log' wire ids drawn u u' bytes r → LeavesOthers old new log log' u u'
  write_passes ids drawn bytes r (calls_of.refused at_end refuses answer) = stays refuses.quiet refuses.same
  write_passes ids drawn bytes r (calls_of.not_taken at_rest refuses answer) = stays refuses.quiet refuses.same
  write_passes ids drawn bytes r (calls_of.kept at_rest short quiet none is answer) = λ calls told k.
      let p = plain_stayed log log' quiet.log_same calls told in
      let own : nobody ≡ upload_owner old u = idle_owner at_rest in
      let owner' : upload_owner new u' ≡ nobody = ap (λ (v : ClientUpload). upload_owner new v) is ∙ ap (owner_by new) at_rest in
      let knows : KnowsCursors new p.0 (with_bytes bytes u) = record { files = k.files; chunks = k.chunks; by = subst (KnowsIn new p.0 u.aim.bucket) (sym at_rest) tt } in
      (p.0, p.1, subst (λ (o : Owner). Passes calls p.0 (upload_owner old u) o) (sym owner') (subst (λ (o : Owner). Passes calls p.0 o nobody) own p.2), subst (KnowsCursors new p.0) (sym is) knows)
  write_passes ids drawn bytes r (calls_of.starts at_rest full s d answer) = λ calls told k.
      let v = with_bytes bytes u in
      let bounds : HasBounds (at_work v) = record { size = sound.sound.bounds.size; few = sound.sound.bounds.few; unchecked = sound.sound.bounds.unchecked } in
      driven ids drawn (write (length bytes)) v (first_phase u) s refl bounds (begun_sound (at_work v) u.checked refl) (begun_owner old u.checked ∙ idle_owner at_rest) d calls told k (begun_knows old calls u.aim.bucket u.checked)
  write_passes ids drawn bytes r (calls_of.goes_on piece p is s d answer) = goes_on ids drawn (write piece) p s is d

  pub close_passes : (ids : ℕ → List ℕ) (drawn : ℕ) (moment : ℤ) (r : Step2) → Closes old new log log' wire ids drawn moment u u' r → LeavesOthers old new log log' u u'
  close_passes ids drawn moment r (calls_of.refused at_end refuses answer) = stays refuses.quiet refuses.same
  close_passes ids drawn moment r (calls_of.starts at_rest s d answer) = λ calls told k. driven ids drawn close u (rests moment) s refl bounds_now (sound_at idle at_rest) (idle_owner at_rest) d calls told k tt
  close_passes ids drawn moment r (calls_of.gives_up piece p is s d answer) = gives_up ids drawn close (write piece) p (Some write_in_progress) s is d
  close_passes ids drawn moment r (calls_of.goes_on p is s d answer) = goes_on ids drawn close p s is d

  no_ids : ℕ → List ℕ
  no_ids n = []

  pub abort_passes : (r : Step2) → Aborts old new log log' wire u u' r → LeavesOthers old new log log' u u'
  abort_passes r (calls_of.refused at_end refuses answer) = stays refuses.quiet refuses.same
  abort_passes r (calls_of.starts at_rest s abandons answer) = λ calls told k. driven no_ids 0 abort u (undoes None) s refl bounds_now tt (idle_owner at_rest) (abandons no_ids) calls told k tt
  abort_passes r (calls_of.gives_up_write piece p is s abandons answer) = gives_up no_ids 0 abort (write piece) p None s is (abandons no_ids)
  abort_passes r (calls_of.gives_up_close p is s abandons answer) = gives_up no_ids 0 abort close p None s is (abandons no_ids)
  abort_passes r (calls_of.goes_on p is s abandons answer) = goes_on no_ids 0 abort p s is (abandons no_ids)
