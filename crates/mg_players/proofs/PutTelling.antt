-- What a put tells goes on to hold while others call, and its ticket is that of a call of its own.
use Rattle.std.proofs.Common.{◌≡◌, ◌∷◌, ◌++◌, Bool, true, false, ℕ, ℤ, List, [], length, Option, Some, None, sym, subst, inl, inr}
use Rattle.std.specs.List.{concat}
use Rattle.mg_server.specs.Calls.{Grows, Keeps, Past, RequestFails, past_of}
use Rattle.mg_server.specs.Files.{Bucket}
use Rattle.mg_link.specs.Link.{Awaited}
use Rattle.mg_link.specs.Log.{Call, reply}
use Rattle.mg_server.specs.Owner.{Onward, nobody}
use Rattle.mg_link.specs.declared.error.Error.{Error}
use Rattle.mg_server.proofs.Calls.{HoldsOwn, own_by}
use Rattle.mg_server.proofs.Filing.{file_kept}
use Rattle.mg_server.proofs.Apart.{onward_refl}
use Rattle.mg_server.proofs.Owners.{grown_refl}
use Rattle.mg_server.proofs.Pasts.{flies_grows, heard_grows, request_fails_grows}
use Rattle.mg_cursor.specs.Causes.{TellsNoCursor}
use Rattle.mg_options.specs.Fields.{fields_in}
use Rattle.mg_bson.specs.Raw.{fields}
use Rattle.mg_cursor.specs.Causes as more
use Rattle.mg_cursor.specs.Client as cursors
use Rattle.mg_cursor.specs.Client.{ClientCursor, get_more}
use Rattle.mg_gridfs.specs.Buckets.{ClientBucket}
use Rattle.mg_gridfs.specs.Causes.{CheckUnderway, FlightUnderway, HeardRemoved, IsCausedFirst, ListsFailure, ListsFirst, ListsFor, PhaseUnderway, RemovalFails, UnderwayBy, UploadFails}
use Rattle.mg_gridfs.specs.Causes as causes
use Rattle.mg_gridfs.specs.Checks.{ClientCheck, check_ticket, creates, finds, indexes, lists, reads}
use Rattle.mg_gridfs.specs.Commands.{any_lines, chunks_lines, creation_lines, deletion_lines, index_lines, listing_lines, record_lines}
use Rattle.mg_gridfs.specs.Laws.{IsSettled}
use Rattle.mg_gridfs.specs.Storing.{HasCleared, HasStored}
use Rattle.mg_gridfs.specs.Uploads.{Aim, ClientUpload, Doing, Flight, Phase, begins, busy, by_check, by_command, checks, closed, ends, fills, flight_ticket, fresh_upload, idle, inserts, lands, lasts, phase_ticket, record_of, records, removes, rests, ticket_by, undoes}
use Rattle.mg_gridfs.specs.UploadView.{upload_of}
use Rattle.mg_gridfs.proofs.Holding.{same_own, settled_own, uploads_go_on}
use Rattle.mg_players.specs.Causes.{AreInLog, commands_at, sent_at}
use Rattle.mg_players.specs.Drawing.{PutHadTurn}
use Rattle.mg_players.specs.InTurn.{newest}
use Rattle.mg_players.specs.Plays.{Places, all_places}
use Rattle.mg_players.specs.PutFailures as fails
use Rattle.mg_players.specs.PutFailures.{AnswersFirst, CheckReads, FailsEarly, FailsFirst, PhaseReads, PutCheckFails, PutFails, PutReads}
use Rattle.mg_players.specs.PutSends as put_sends
use Rattle.mg_players.specs.PutSends.{DoingSent, FailsSo, PutEndsSent, Reaches, StopsSo, file_chunks}
use Rattle.mg_players.specs.Puts.{PutTask, Supply, joined, put_aim, put_bucket, puts_ticket, taken_in}
use Rattle.mg_players.specs.Telling.{PutTells}
use Rattle.mg_players.specs.declared.put.PutStage.{PutStage}
use Rattle.mg_players.specs.declared.put.PutStage.TheVariants as puts
use Rattle.mg_players.proofs.PutLaid.{doing_goes_on, end_goes_on}
use Rattle.mg_players.proofs.PutSaying.{said_kept}
use Rattle.mg_players.proofs.PutChecked.{next_on}
use Rattle.mg_players.proofs.PutCreated.{asks_grows, behind_grows, creation_grows}
use Rattle.mg_players.proofs.PutFull.{full_later}
use Rattle.mg_players.proofs.PutGrowing.{doing_grows, error_grows, put_grows}
use Rattle.mg_players.proofs.PutHeard.{indexes_grow}
use Rattle.mg_players.proofs.PutListing.{batch_grows, listed_grows, more_fails_grows, of_list_grows, reads_grows}
use Rattle.mg_players.proofs.GetAdding.{now_below}
use Rattle.mg_players.proofs.JustGrown.{SendsNoMore, just_behind, later_behind, later_just, none_grows}
use Rattle.mg_players.proofs.Telling.{grows_later, in_second}
use Rattle.mg_script.specs.declared.outcome.Ended.TheVariants as ended

abbrev Same : Awaited → Awaited → Option ℕ → Type 0
Same old new ticket = (m : ℕ) → ticket ≡ Some m → new m ≡ old m

-- ---- what is on its way, and why a call failed

module _ (past past' : Past) (grows : Grows past past') where
  upload_fails_on : (aim : Aim) (e : Error) → UploadFails past aim e → UploadFails past' aim e
  upload_fails_on aim e (causes.out_of_memory is) = causes.out_of_memory is
  upload_fails_on aim e (causes.chunks_not_built documents portion cannot) = causes.chunks_not_built documents portion cannot
  upload_fails_on aim e (causes.document_not_built id number bytes full cannot) = causes.document_not_built id number bytes full cannot
  upload_fails_on aim e (causes.last_not_built document rest cannot) = causes.last_not_built document rest cannot
  upload_fails_on aim e (causes.record_not_built ending cannot) = causes.record_not_built ending cannot
  upload_fails_on aim e (causes.by_chunks documents fails) = causes.by_chunks documents (request_fails_grows past past' grows (fields_in (chunks_lines aim.bucket documents)) false (ListsFor documents) e fails)
  upload_fails_on aim e (causes.by_record ending fails) = causes.by_record ending (request_fails_grows past past' grows (fields_in (record_lines aim.bucket (record_of aim ending))) false (ListsFor (record_of aim ending ∷ [])) e fails)
  upload_fails_on aim e (causes.too_large first count small some few past_most is) = causes.too_large first count small some few past_most is

  pub first_on : (aim : Aim) (e : Option Error) → IsCausedFirst past aim e → IsCausedFirst past' aim e
  first_on aim None first = tt
  first_on aim (Some e) (inl fails) = inl (upload_fails_on aim e fails)
  first_on aim (Some e) (inr closes) = inr closes

  removal_fails_on : (aim : Aim) (e : Error) → RemovalFails past aim e → RemovalFails past' aim e
  removal_fails_on aim e (causes.out_of_memory is) = causes.out_of_memory is
  removal_fails_on aim e (causes.not_built cannot) = causes.not_built cannot
  removal_fails_on aim e (causes.by_deletion fails) = causes.by_deletion (request_fails_grows past past' grows (fields_in (deletion_lines aim.bucket aim.id)) false ListsFirst e fails)

  removed_on : (aim : Aim) → HeardRemoved past aim → HeardRemoved past' aim
  removed_on aim h =
      record { bytes = h.bytes; heard = heard_grows past past' grows (fields_in (deletion_lines aim.bucket aim.id)) (reply h.bytes) (λ bad. cc) h.heard; success = h.success; n = h.n; wrote_so = h.wrote_so }

  pub fails_first_on : (t : PutTask) (original : Error) → FailsFirst past t original → FailsFirst past' t original
  fails_first_on t original first = record { by_upload = upload_fails_on (put_aim t) original first.by_upload; of_put = first.of_put }

  answers_on : (t : PutTask) (original e : Error) → AnswersFirst past t original e → AnswersFirst past' t original e
  answers_on t original e (fails.first_error removed is) = fails.first_error (removed_on (put_aim t) removed) is
  answers_on t original e (fails.not_removed d failed both) = fails.not_removed d (removal_fails_on (put_aim t) d failed) both

  module _ (old new : Awaited) where
    more_on : (c : ClientCursor) (d : cursors.Doing) → Same old new (cursors.ticket_by d) → more.UnderwayBy old past c d → more.UnderwayBy new past' c d
    more_on c cursors.rests same h = tt
    more_on c (cursors.holds bytes) same h = tt
    more_on c (cursors.asks sending) same h = record { session = h.session; command_is = h.command_is; flies = flies_grows past past' grows old new (get_more c h.session) sending.stage same h.flies }

    check_on : (b : ClientBucket) (c : ClientCheck) → Same old new (check_ticket c) → CheckUnderway old past b c → CheckUnderway new past' b c
    check_on b (finds sending) same h = flies_grows past past' grows old new (fields_in (any_lines b)) sending.stage same h
    check_on b (creates at sending) same h = flies_grows past past' grows old new (fields_in (creation_lines b at)) sending.stage same h
    check_on b (lists at sending) same h = flies_grows past past' grows old new (fields_in (listing_lines b at)) sending.stage same h
    check_on b (reads at d found count) same h = more_on d.cursor d.cursor.doing same h
    check_on b (indexes at sending) same h = flies_grows past past' grows old new (fields_in (index_lines b at)) sending.stage same h

    flight_on : (b : ClientBucket) (f : Flight) → Same old new (flight_ticket f) → FlightUnderway old past b f → FlightUnderway new past' b f
    flight_on b (by_check check) same h = check_on b check same h
    flight_on b (by_command sending) same h = flies_grows past past' grows old new (fields sending.command) sending.stage same h

    phase_on : (aim : Aim) (p : Phase) → Same old new (phase_ticket p) → PhaseUnderway old past aim p → PhaseUnderway new past' aim p
    phase_on aim begins same h = tt
    phase_on aim (checks check) same h = check_on aim.bucket check same h
    phase_on aim fills same h = tt
    phase_on aim (inserts sending count) same h = flies_grows past past' grows old new (fields sending.command) sending.stage same h
    phase_on aim (rests moment) same h = tt
    phase_on aim (lasts sending ending) same h = flies_grows past past' grows old new (fields sending.command) sending.stage same h
    phase_on aim (ends ending) same h = tt
    phase_on aim (records sending ending) same h = flies_grows past past' grows old new (fields sending.command) sending.stage same h
    phase_on aim (lands flight error) same h = (flight_on aim.bucket flight same h.0, first_on aim error h.1)
    phase_on aim (undoes error) same h = first_on aim error h
    phase_on aim (removes sending error) same h = (flies_grows past past' grows old new (fields sending.command) sending.stage same h.0, first_on aim error h.1)

    pub uploading_on : (aim : Aim) (d : Doing) → Same old new (ticket_by d) → UnderwayBy old past aim d → UnderwayBy new past' aim d
    uploading_on aim idle same h = tt
    uploading_on aim (busy call phase) same h = phase_on aim phase same h
    uploading_on aim closed same h = tt

-- where it sends nothing more
module _ (past past' : Past) (still : SendsNoMore past past') where
  abbrev grows : Grows past past'
  grows = still.just.grows

  check_fails_on : (b : ClientBucket) (e : Error) → PutCheckFails past b e → PutCheckFails past' b e
  check_fails_on b e (fails.out_of_memory is) = fails.out_of_memory is
  check_fails_on b e (fails.not_built lines its cannot) = fails.not_built lines (next_on past past' (just_behind past past' still.just) b lines its) cannot
  check_fails_on b e (fails.by_find failed) = fails.by_find (request_fails_grows past past' grows (fields_in (any_lines b)) true TellsNoCursor e failed)
  check_fails_on b e (fails.by_creation at failed other) = fails.by_creation at (request_fails_grows past past' grows (fields_in (creation_lines b at)) false ListsFailure e failed) other
  check_fails_on b e (fails.by_listing at created failed) = fails.by_listing at (creation_grows past past' grows b at created) (behind_grows past past' grows created.place (λ p. RequestFails p (fields_in (listing_lines b at)) true TellsNoCursor e) failed)
  check_fails_on b e (fails.by_index at failed) = fails.by_index at (request_fails_grows past past' grows (fields_in (index_lines b at)) false ListsFailure e failed)
  check_fails_on b e (fails.not_asked c l cannot) = fails.not_asked c (of_list_grows past past' still.just b c l) cannot
  check_fails_on b e (fails.by_more c l failed) = fails.by_more c (of_list_grows past past' still.just b c l) (more_fails_grows past past' still.just b c e failed)
  check_fails_on b e (fails.broken bytes batch breaks) = fails.broken bytes (batch_grows past past' still.just b bytes batch) breaks
  check_fails_on b e (fails.stays_empty c l many last is) = fails.stays_empty c (of_list_grows past past' still.just b c l) many (none_grows past past' still (newest l.place l.replies) last) is
  check_fails_on b e (fails.no_index document listed failed) = fails.no_index document (listed_grows past past' still.just b document listed) failed
  check_fails_on b e (fails.too_many c l many is) = fails.too_many c (of_list_grows past past' still.just b c l) many is

  early_on : (t : PutTask) (e : Error) → FailsEarly past t e → FailsEarly past' t e
  early_on t e (fails.check_fails failed) = fails.check_fails (check_fails_on (put_bucket t) e failed)
  early_on t e (fails.not_taken is) = fails.not_taken is

  pub fails_on : (t : PutTask) (e : Error) → PutFails past t e → PutFails past' t e
  fails_on t e (fails.early failed) = fails.early (early_on t e failed)
  fails_on t e (fails.late original first answers) = fails.late original (fails_first_on past past' grows t original first) (answers_on past past' grows t original e answers)

  -- why it failed that removed its chunks or did not
  pub fails_so_on : (supply : Supply) (t : PutTask) (e : Error) (upto : ℕ) (moment : Option ℤ) (removed : Bool) → FailsSo supply t past e upto moment removed → FailsSo supply t past' e upto moment removed
  fails_so_on supply t e upto moment removed (put_sends.not_opened none cannot) = put_sends.not_opened none cannot
  fails_so_on supply t e upto moment removed (put_sends.early none (fails.check_fails failed) before) = put_sends.early none (fails.check_fails (check_fails_on (put_bucket t) e failed)) before
  fails_so_on supply t e upto moment removed (put_sends.early none (fails.not_taken is) before) = put_sends.early none (fails.not_taken is) before
  fails_so_on supply t e upto moment removed (put_sends.late original first next answers) = put_sends.late original (fails_first_on past past' grows t original first) (error_grows past past' grows supply t upto moment original next) (answers_on past past' grows t original e answers)

  module _ (old new : Awaited) where
    check_reads_on : (b : ClientBucket) (c : ClientCheck) → Same old new (check_ticket c) → CheckReads old past b c → CheckReads new past' b c
    check_reads_on b (finds sending) same h = tt
    check_reads_on b (creates at sending) same h = tt
    check_reads_on b (lists at sending) same h = asks_grows past past' still old new b at sending same h
    check_reads_on b (reads at d found count) same h = (creation_grows past past' grows b at h.0, h.1, h.2, h.3, reads_grows past past' still b old new d at h.1 same h.4)
    check_reads_on b (indexes at sending) same h = (creation_grows past past' grows b at h.0, indexes_grow past past' (just_behind past past' still.just) b at false h.1)

    phase_reads_on : (b : ClientBucket) (p : Phase) → Same old new (phase_ticket p) → PhaseReads old past b p → PhaseReads new past' b p
    phase_reads_on b begins same h = tt
    phase_reads_on b (checks check) same h = check_reads_on b check same h
    phase_reads_on b fills same h = tt
    phase_reads_on b (inserts sending count) same h = tt
    phase_reads_on b (rests moment) same h = tt
    phase_reads_on b (lasts sending ending) same h = tt
    phase_reads_on b (ends ending) same h = tt
    phase_reads_on b (records sending ending) same h = tt
    phase_reads_on b (lands flight error) same h = tt
    phase_reads_on b (undoes error) same h = tt
    phase_reads_on b (removes sending error) same h = tt

    pub reads_on : (b : ClientBucket) (d : Doing) → Same old new (ticket_by d) → PutReads old past b d → PutReads new past' b d
    reads_on b idle same h = tt
    reads_on b (busy call phase) same h = phase_reads_on b phase same h
    reads_on b closed same h = tt

-- ---- what it stored

-- what was sent in a poll that has ended counts as sent before
pub stored_settles : (calls calls' : List Call) (wire : ℤ) (places places' : List ℕ) (at : Bucket) (u : ClientUpload) (taken : List ℕ) → IsSettled places (length calls) (length calls') places' → HasStored (past_of places (length calls) calls' wire) at u taken → HasStored (past_of places' (length calls') calls' wire) at u taken
stored_settles calls calls' wire places places' at u taken settled s =
    record {
      ending = s.ending;
      counts = s.counts;
      chunks = s.chunks;
      chunks_are = s.chunks_are;
      knows = file_kept places places' (length calls) calls' calls' wire wire at u.aim.id (settled_own places places' (length calls) calls' settled s.knows.in_log) (grown_refl calls') nobody _ (onward_refl calls' nobody) s.knows;
    }

-- it stays stored
pub stored_on : (calls calls' : List Call) (wire : ℤ) (places : List ℕ) (at : Bucket) (u : ClientUpload) (taken : List ℕ) → Onward calls calls' nobody → HasStored (past_of places (length calls) calls wire) at u taken → HasStored (past_of places (length calls') calls' wire) at u taken
stored_on calls calls' wire places at u taken onward s =
    record {
      ending = s.ending;
      counts = s.counts;
      chunks = s.chunks;
      chunks_are = s.chunks_are;
      knows = file_kept places places (length calls) calls calls' wire wire at u.aim.id (same_own places calls s.knows.in_log) onward.grown nobody _ onward s.knows;
    }

-- no chunk is left, told by what was sent before
pub cleared_settles : (calls calls' : List Call) (wire : ℤ) (places places' : List ℕ) (at : Bucket) (u : ClientUpload) (e : Error) → IsSettled places (length calls) (length calls') places' → HasCleared (past_of places (length calls) calls' wire) at u e → HasCleared (past_of places' (length calls') calls' wire) at u e
cleared_settles calls calls' wire places places' at u e settled h leaves =
    let k = h leaves in file_kept places places' (length calls) calls' calls' wire wire at u.aim.id (settled_own places places' (length calls) calls' settled k.in_log) (grown_refl calls') nobody _ (onward_refl calls' nobody) k

pub cleared_on : (calls calls' : List Call) (wire : ℤ) (places : List ℕ) (at : Bucket) (u : ClientUpload) (e : Error) → Onward calls calls' nobody → HasCleared (past_of places (length calls) calls wire) at u e → HasCleared (past_of places (length calls') calls' wire) at u e
cleared_on calls calls' wire places at u e onward h leaves = let k = h leaves in file_kept places places (length calls) calls calls' wire wire at u.aim.id (same_own places calls k.in_log) onward.grown nobody _ onward k

-- ---- a put

-- what its call that goes on, or ended it, sent is told so by a later log
now_later : (calls calls' : List Call) (wire : ℤ) (q : Places) → Keeps calls calls' → AreInLog (length calls) (all_places q) → SendsNoMore (sent_at q.now calls wire) (sent_at q.now calls' wire)
now_later calls calls' wire q keeps within = later_just q.now calls calls' wire keeps (λ place of. now_below calls (all_places q) within place (in_second q.opened (concat q.owns ++ q.now) place (in_second (concat q.owns) q.now place of)))

pub put_later : (supply : Supply) (t : PutTask) (old new : Awaited) (calls calls' : List Call) (wire : ℤ) (q : Places) (done : ℕ) (s : PutStage) → Keeps calls calls' → Onward calls calls' nobody → Same old new (puts_ticket s) → PutTells old calls wire q supply t done s → PutTells new calls' wire q supply t done s
put_later supply t old new calls calls' wire q done puts.Undrawn keeps onward same told = told
put_later supply t old new calls calls' wire q done (puts.Begins begun) keeps onward same told = told
put_later supply t old new calls calls' wire q done (puts.Goes going) keeps onward same told =
    let u = upload_of going.upload in (
      record {
        aim_is = told.0.aim_is;
        sized = told.0.sized;
        opened = told.0.opened;
        counted = told.0.counted;
        rests = told.0.rests;
        full = full_later supply t calls calls' q keeps told.0.said.within told.0.full;
        needs = told.0.needs;
        cut = told.0.cut;
        flies = told.0.flies;
        supplied = told.0.supplied;
        its = told.0.its;
        reads = reads_on (sent_at q.now calls wire) (sent_at q.now calls' wire) (now_later calls calls' wire q keeps told.0.said.within) old new (put_bucket t) u.doing same told.0.reads;
        pauses = told.0.pauses;
        underway = uploading_on (sent_at q.now calls wire) (sent_at q.now calls' wire) (grows_later q.now calls calls' wire keeps) old new u.aim u.doing same told.0.underway;
        knows = uploads_go_on old new calls calls' wire (all_places q) t.at u (taken_in u.doing t.pieces done) onward same told.0.knows;
        said = (let s = said_kept calls calls' q (λ commands. DoingSent supply t (Reaches t done) (sent_at (all_places q) calls wire) (sent_at q.now calls wire) commands u.checked u.sent u.doing) keeps told.0.said in
            record { within = s.within; ordered = s.ordered; sends = doing_grows (sent_at (all_places q) calls wire) (sent_at (all_places q) calls' wire) (later_behind (all_places q) calls calls' wire keeps) (sent_at q.now calls wire) (sent_at q.now calls' wire) (grows_later q.now calls calls' wire keeps) supply t (Reaches t done) (commands_at calls' (all_places q)) u.checked u.sent u.doing s.sends });
        lays = doing_goes_on t calls calls' wire (all_places q) told.0.said.within onward u.doing told.0.lays;
      },
      told.1,
    )
put_later supply t old new calls calls' wire q done (puts.Ended ended.Unfinished) keeps onward same told =
    let s = said_kept calls calls' q (λ commands. PutEndsSent supply t done (sent_at (all_places q) calls wire) (sent_at q.now calls wire) commands ended.Unfinished) keeps told.4 in
    let for_it : StopsSo supply t (sent_at q.now calls' wire) s.sends.1.0 s.sends.1.1 s.sends.0 = λ is. (let why = s.sends.2.0 is in
    let grows = grows_later q.now calls calls' wire keeps in
    (why.0, fails_first_on (sent_at q.now calls wire) (sent_at q.now calls' wire) grows t why.0 why.1, error_grows (sent_at q.now calls wire) (sent_at q.now calls' wire) grows supply t s.sends.1.0 s.sends.1.1 why.0 why.2)) in
    (told.0, told.1, told.2, told.3, record { within = s.within; ordered = s.ordered; sends = (s.sends.0, (s.sends.1.0, s.sends.1.1, put_grows (sent_at (all_places q) calls wire) (sent_at (all_places q) calls' wire) (later_behind (all_places q) calls calls' wire keeps) supply t (commands_at calls' (all_places q)) s.sends.1.0 s.sends.1.1 s.sends.0 s.sends.1.2), (for_it, s.sends.2.1)) }, end_goes_on t calls calls' wire (all_places q) told.4.within onward told.5, full_later supply t calls calls' q keeps told.4.within told.6)
put_later supply t old new calls calls' wire q done (puts.Ended (ended.Gave n)) keeps onward same told =
    (told.0, told.1, (told.2.0, told.2.1, stored_on calls calls' wire (all_places q) t.at (fresh_upload (put_aim t)) (joined t.pieces) onward told.2.2), told.3, (let s = said_kept calls calls' q (λ commands. PutEndsSent supply t done (sent_at (all_places q) calls wire) (sent_at q.now calls wire) commands (ended.Gave n)) keeps told.4 in record { within = s.within; ordered = s.ordered; sends = (s.sends.0, put_grows (sent_at (all_places q) calls wire) (sent_at (all_places q) calls' wire) (later_behind (all_places q) calls calls' wire keeps) supply t (commands_at calls' (all_places q)) (length (file_chunks t)) (Some s.sends.0) false s.sends.1) }), end_goes_on t calls calls' wire (all_places q) told.4.within onward told.5, full_later supply t calls calls' q keeps told.4.within told.6)
put_later supply t old new calls calls' wire q done (puts.Ended (ended.Failed e)) keeps onward same told = (
  told.0,
  told.1,
  elim told.2 [
    | inl cannot ↦ inl cannot
    | inr fails ↦ inr (fails.0, fails_on (sent_at q.now calls wire) (sent_at q.now calls' wire) (now_later calls calls' wire q keeps told.4.within) t e fails.1, cleared_on calls calls' wire (all_places q) t.at (fresh_upload (put_aim t)) e onward fails.2)
  ],
  told.3,
  (let s = said_kept calls calls' q (λ commands. PutEndsSent supply t done (sent_at (all_places q) calls wire) (sent_at q.now calls wire) commands (ended.Failed e)) keeps told.4 in
      record { within = s.within; ordered = s.ordered; sends = (s.sends.0, (s.sends.1.0, s.sends.1.1, put_grows (sent_at (all_places q) calls wire) (sent_at (all_places q) calls' wire) (later_behind (all_places q) calls calls' wire keeps) supply t (commands_at calls' (all_places q)) s.sends.1.0 s.sends.1.1 s.sends.0 s.sends.1.2), (fails_so_on (sent_at q.now calls wire) (sent_at q.now calls' wire) (now_later calls calls' wire q keeps told.4.within) supply t e s.sends.1.0 s.sends.1.1 s.sends.0 s.sends.2.0, s.sends.2.1)) }),
  end_goes_on t calls calls' wire (all_places q) told.4.within onward told.5,
  full_later supply t calls calls' q keeps told.4.within told.6,
)

-- It tells the same where it is supplied otherwise, unless it had a turn.
pub put_of_others : (supply supply' : Supply) (awaited : Awaited) (calls : List Call) (wire : ℤ) (q : Places) (t : PutTask) (done : ℕ) (s : PutStage) (had : Bool) → PutHadTurn had s → (had ≡ true → supply' ≡ supply) → PutTells awaited calls wire q supply t done s → PutTells awaited calls wire q supply' t done s
put_of_others supply supply' awaited calls wire q t done puts.Undrawn had turn same told = told
put_of_others supply supply' awaited calls wire q t done (puts.Begins begun) had turn same told = subst (λ (x : Supply). PutTells awaited calls wire q x t done (puts.Begins begun)) (sym (same turn)) told
put_of_others supply supply' awaited calls wire q t done (puts.Goes going) had turn same told = subst (λ (x : Supply). PutTells awaited calls wire q x t done (puts.Goes going)) (sym (same turn)) told
put_of_others supply supply' awaited calls wire q t done (puts.Ended end) had turn same told = subst (λ (x : Supply). PutTells awaited calls wire q x t done (puts.Ended end)) (sym (same turn)) told

-- ---- whose ticket it holds

-- it is that of a call of its own
module _ (awaited : Awaited) (past : Past) (ticket : ℕ) where
  more_own : (c : ClientCursor) (d : cursors.Doing) → more.UnderwayBy awaited past c d → cursors.ticket_by d ≡ Some ticket → HoldsOwn awaited past ticket
  more_own c cursors.rests h held = absurd cc
  more_own c (cursors.holds bytes) h held = absurd cc
  more_own c (cursors.asks sending) h held = own_by awaited past (get_more c h.session) sending.stage ticket h.flies held

  check_own : (b : ClientBucket) (c : ClientCheck) → CheckUnderway awaited past b c → check_ticket c ≡ Some ticket → HoldsOwn awaited past ticket
  check_own b (finds sending) h held = own_by awaited past (fields_in (any_lines b)) sending.stage ticket h held
  check_own b (creates at sending) h held = own_by awaited past (fields_in (creation_lines b at)) sending.stage ticket h held
  check_own b (lists at sending) h held = own_by awaited past (fields_in (listing_lines b at)) sending.stage ticket h held
  check_own b (reads at d found count) h held = more_own d.cursor d.cursor.doing h held
  check_own b (indexes at sending) h held = own_by awaited past (fields_in (index_lines b at)) sending.stage ticket h held

  flight_own : (b : ClientBucket) (f : Flight) → FlightUnderway awaited past b f → flight_ticket f ≡ Some ticket → HoldsOwn awaited past ticket
  flight_own b (by_check check) h held = check_own b check h held
  flight_own b (by_command sending) h held = own_by awaited past (fields sending.command) sending.stage ticket h held

  phase_own : (aim : Aim) (p : Phase) → PhaseUnderway awaited past aim p → phase_ticket p ≡ Some ticket → HoldsOwn awaited past ticket
  phase_own aim begins h held = absurd cc
  phase_own aim (checks check) h held = check_own aim.bucket check h held
  phase_own aim fills h held = absurd cc
  phase_own aim (inserts sending count) h held = own_by awaited past (fields sending.command) sending.stage ticket h held
  phase_own aim (rests moment) h held = absurd cc
  phase_own aim (lasts sending ending) h held = own_by awaited past (fields sending.command) sending.stage ticket h held
  phase_own aim (ends ending) h held = absurd cc
  phase_own aim (records sending ending) h held = own_by awaited past (fields sending.command) sending.stage ticket h held
  phase_own aim (lands flight error) h held = flight_own aim.bucket flight h.0 held
  phase_own aim (undoes error) h held = absurd cc
  phase_own aim (removes sending error) h held = own_by awaited past (fields sending.command) sending.stage ticket h.0 held

  pub uploading_own : (aim : Aim) (d : Doing) → UnderwayBy awaited past aim d → ticket_by d ≡ Some ticket → HoldsOwn awaited past ticket
  uploading_own aim idle h held = absurd cc
  uploading_own aim (busy call phase) h held = phase_own aim phase h held
  uploading_own aim closed h held = absurd cc
