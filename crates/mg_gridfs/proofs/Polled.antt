-- What an upload knows of its file, over all steps of a poll.
use Rattle.std.proofs.Common.{◌≡◌, ℕ, ℤ, Bool, true, false, List, [], ◌∷◌, ◌++◌, length, Option, Some, None, refl, sym, ap, ◌∙◌, subst, inl, inr, append_assoc}
use Rattle.std.specs.Prelude.{if◌then◌else◌}
use Rattle.mg_server.specs.Calls.{Past, past_of}
use Rattle.mg_link.specs.Exec.{Stage, first, second, ticket_at, unsent}
use Rattle.mg_link.specs.Chunks.{chunked}
use Rattle.mg_server.specs.Files.{AreChunks, Bucket, File}
use Rattle.mg_server.specs.Filing.{Filing, KnowsFile, becomes, cleared, clears, insert_at, part, removal_at, stays, unknown, whole_with}
use Rattle.mg_link.specs.Link.{Awaited, SendsNothing, LogTold}
use Rattle.mg_link.specs.Log.{Call}
use Rattle.mg_link.specs.declared.error.Error.{Error}
use Rattle.mg_server.proofs.Calls.{same_keeps}
use Rattle.mg_server.proofs.Filed.{Grew, grew_as}
use Rattle.mg_server.proofs.Filing.{file_unknown}
use Rattle.mg_ops.specs.Naming.{IsNamed}
use Rattle.mg_gridfs.specs.Buckets.{IsAt}
use Rattle.mg_gridfs.specs.Calls as calls_of
use Rattle.mg_gridfs.specs.Calls.{Abandons, Aborts, Closes, Drives, Writes, at_work, doing_behind, ended_by, first_phase, goes_on, gives_up, gives_up_close, gives_up_write, kept, landing_of, not_taken, refused, starts, with_bytes, wrote_by}
use Rattle.mg_gridfs.specs.Steps.{Stepped, done, failed, goes, waits}
use Rattle.mg_gridfs.specs.Storing.{AbortStores, AfterAbort, AfterClose, AfterWrite, CloseStores, HasCleared, HasStored, KnowsAhead, KnowsBy, KnowsPhase, KnowsUpload, WriteStores, filing_of, taken_by}
use Rattle.mg_gridfs.specs.Uploads as uploads
use Rattle.mg_gridfs.specs.Uploads.{Aim, ClientUpload, Doing, HasBounds, IsBetween, IsFlight, IsOfCall, IsSoundPhase, Phase, RestsBy, SoundBy, abort, begins, busy, by_check, by_command, checks, close, closed, ends, fills, idle, inserting, inserts, lands, lasts, phase_ticket, record_of, recording, records, removes, removing, rests, ticket_by, undoes, upload_ticket, write}
use Rattle.mg_gridfs.specs.declared.polls.Step2.{Step2}
use Rattle.mg_gridfs.specs.declared.polls.WritePoll.{WritePoll}
use Rattle.mg_gridfs.proofs.Driving.{steps_kept, steps_known}
use Rattle.mg_gridfs.proofs.Storing.{IsPlaced, KnowsStepped}

-- ---- what it is doing counts for nothing

ahead_doing : (awaited : Awaited) (past : Past) (at : Bucket) (u : ClientUpload) (d : Doing) (taken : List ℕ) (p : Phase) → KnowsAhead awaited past at u taken p → KnowsAhead awaited past at (record u { doing = d }) taken p
ahead_doing awaited past at u d taken p k =
    record { stored = k.stored; flying = k.flying; parts = k.parts; even = k.even; chunks = k.chunks; coming = k.coming; chunks_are = k.chunks_are; coming_are = k.coming_are; its = k.its; comes = k.comes; knows = k.knows }

pub knows_doing : (awaited : Awaited) (past : Past) (at : Bucket) (u : ClientUpload) (d : Doing) (taken : List ℕ) (p : Phase) → KnowsPhase awaited past at u taken p → KnowsPhase awaited past at (record u { doing = d }) taken p
knows_doing awaited past at u d taken begins k = ahead_doing awaited past at u d taken begins k
knows_doing awaited past at u d taken (checks c) k = ahead_doing awaited past at u d taken (checks c) k
knows_doing awaited past at u d taken fills k = ahead_doing awaited past at u d taken fills k
knows_doing awaited past at u d taken (inserts s count) k = ahead_doing awaited past at u d taken (inserts s count) k
knows_doing awaited past at u d taken (rests moment) k = ahead_doing awaited past at u d taken (rests moment) k
knows_doing awaited past at u d taken (lasts s ending) k = ahead_doing awaited past at u d taken (lasts s ending) k
knows_doing awaited past at u d taken (ends ending) k = ahead_doing awaited past at u d taken (ends ending) k
knows_doing awaited past at u d taken (records s ending) k = ahead_doing awaited past at u d taken (records s ending) k
knows_doing awaited past at u d taken (lands flight error) k = k
knows_doing awaited past at u d taken (undoes error) k = k
knows_doing awaited past at u d taken (removes s error) k = k

flight_doing : (u : ClientUpload) (d : Doing) (flight : uploads.Flight) → IsFlight u flight → IsFlight (record u { doing = d }) flight
flight_doing u d (by_check c) sound = sound
flight_doing u d (by_command s) (inserting documents request) = inserting documents request
flight_doing u d (by_command s) (recording ending request) = recording ending request
flight_doing u d (by_command s) (removing request) = removing request

pub sound_doing : (u : ClientUpload) (d : Doing) (p : Phase) → IsSoundPhase u p → IsSoundPhase (record u { doing = d }) p
sound_doing u d begins h = h
sound_doing u d (checks c) h = h
sound_doing u d fills h = h
sound_doing u d (inserts s count) h = record { bytes = h.bytes; documents = h.documents; stretch = h.stretch; checked = h.checked; some = h.some; small = h.small; request = h.request }
sound_doing u d (rests moment) h = h
sound_doing u d (lasts s ending) h = (record { bytes = h.0.bytes; document = h.0.document; some = h.0.some; short = h.0.short; length_is = h.0.length_is; are = h.0.are; request = h.0.request }, h.1)
sound_doing u d (ends ending) h = h
sound_doing u d (records s ending) h = h
sound_doing u d (lands flight error) h = flight_doing u d flight h
sound_doing u d (undoes error) h = h
sound_doing u d (removes s error) h = h

pub bounds_doing : (u : ClientUpload) (d : Doing) → HasBounds u → HasBounds (record u { doing = d })
bounds_doing u d b = record { size = b.size; few = b.few; unchecked = b.unchecked }

-- ---- its ticket stays

module _ (old new : Awaited) where
  insert_same : (command : List ℕ) (file file' : File) (stage : Stage) → ((m : ℕ) → ticket_at stage ≡ Some m → new m ≡ old m) → insert_at new command file file' stage ≡ insert_at old command file file' stage
  insert_same command file file' unsent same = refl
  insert_same command file file' (first ticket) same = ap (λ (o : Option ℕ). becomes o command file') (same ticket refl)
  insert_same command file file' (second ticket) same = ap (λ (o : Option ℕ). becomes o command file') (same ticket refl)

  removal_same : (command : List ℕ) (stage : Stage) → ((m : ℕ) → ticket_at stage ≡ Some m → new m ≡ old m) → removal_at new command stage ≡ removal_at old command stage
  removal_same command unsent same = refl
  removal_same command (first ticket) same = ap (λ (o : Option ℕ). clears o command) (same ticket refl)
  removal_same command (second ticket) same = ap (λ (o : Option ℕ). clears o command) (same ticket refl)

  ahead_same : (past : Past) (at : Bucket) (u : ClientUpload) (taken : List ℕ) (p : Phase) → (k : KnowsAhead old past at u taken p) → filing_of new u.aim k.chunks k.coming p ≡ filing_of old u.aim k.chunks k.coming p → KnowsAhead new past at u taken p
  ahead_same past at u taken p k same =
      record {
        stored = k.stored;
        flying = k.flying;
        parts = k.parts;
        even = k.even;
        chunks = k.chunks;
        coming = k.coming;
        chunks_are = k.chunks_are;
        coming_are = k.coming_are;
        its = k.its;
        comes = k.comes;
        knows = subst (λ (f : Filing). KnowsFile past at u.aim.id f) (sym same) k.knows;
      }

  phase_same : (past : Past) (at : Bucket) (u : ClientUpload) (taken : List ℕ) (p : Phase) → ((m : ℕ) → phase_ticket p ≡ Some m → new m ≡ old m) → KnowsPhase old past at u taken p → KnowsPhase new past at u taken p
  phase_same past at u taken begins same k = ahead_same past at u taken begins k refl
  phase_same past at u taken (checks c) same k = ahead_same past at u taken (checks c) k refl
  phase_same past at u taken fills same k = ahead_same past at u taken fills k refl
  phase_same past at u taken (inserts s count) same k = ahead_same past at u taken (inserts s count) k (insert_same s.command (part k.chunks) (part (k.chunks ++ k.coming)) s.stage same)
  phase_same past at u taken (rests moment) same k = ahead_same past at u taken (rests moment) k refl
  phase_same past at u taken (lasts s ending) same k = ahead_same past at u taken (lasts s ending) k (insert_same s.command (part k.chunks) (part (k.chunks ++ k.coming)) s.stage same)
  phase_same past at u taken (ends ending) same k = ahead_same past at u taken (ends ending) k refl
  phase_same past at u taken (records s ending) same k =
      ahead_same past at u taken (records s ending) k (insert_same s.command (part (k.chunks ++ k.coming)) (whole_with (record_of u.aim ending) (k.chunks ++ k.coming)) s.stage same)
  phase_same past at u taken (lands flight error) same k = k
  phase_same past at u taken (undoes error) same k = k
  phase_same past at u taken (removes s error) same k = subst (λ (f : Filing). KnowsFile past at u.aim.id f) (sym (removal_same s.command s.stage same)) k

  doing_same : (past : Past) (at : Bucket) (u : ClientUpload) (taken : List ℕ) (d : Doing) → ((m : ℕ) → ticket_by d ≡ Some m → new m ≡ old m) → KnowsBy old past at u taken d → KnowsBy new past at u taken d
  doing_same past at u taken idle same k = ahead_same past at u taken fills k refl
  doing_same past at u taken (busy call p) same k = phase_same past at u taken p same k
  doing_same past at u taken closed same k = tt

  -- It goes on knowing where its ticket stays.
  pub upload_same : (past : Past) (at : Bucket) (u : ClientUpload) (taken : List ℕ) → ((m : ℕ) → upload_ticket u ≡ Some m → new m ≡ old m) → KnowsUpload old past at u taken → KnowsUpload new past at u taken
  upload_same past at u taken same k = record { place = k.place; files = k.files; chunks = k.chunks; by = doing_same past at u taken u.doing same k.by }

-- ---- giving up

unknown_at : (awaited : Awaited) (past : Past) (at : Bucket) (u : ClientUpload) (taken : List ℕ) (p : Phase) → KnowsPhase awaited past at u taken p → KnowsFile past at u.aim.id unknown
unknown_at awaited past at u taken begins k = file_unknown past at u.aim.id (stays (part k.chunks)) k.knows
unknown_at awaited past at u taken (checks c) k = file_unknown past at u.aim.id (stays (part k.chunks)) k.knows
unknown_at awaited past at u taken fills k = file_unknown past at u.aim.id (stays (part k.chunks)) k.knows
unknown_at awaited past at u taken (inserts s count) k = file_unknown past at u.aim.id (filing_of awaited u.aim k.chunks k.coming (inserts s count)) k.knows
unknown_at awaited past at u taken (rests moment) k = file_unknown past at u.aim.id (stays (part k.chunks)) k.knows
unknown_at awaited past at u taken (lasts s ending) k = file_unknown past at u.aim.id (filing_of awaited u.aim k.chunks k.coming (lasts s ending)) k.knows
unknown_at awaited past at u taken (ends ending) k = file_unknown past at u.aim.id (filing_of awaited u.aim k.chunks k.coming (ends ending)) k.knows
unknown_at awaited past at u taken (records s ending) k = file_unknown past at u.aim.id (filing_of awaited u.aim k.chunks k.coming (records s ending)) k.knows
unknown_at awaited past at u taken (lands flight error) k = k
unknown_at awaited past at u taken (undoes error) k = k
unknown_at awaited past at u taken (removes s error) k = file_unknown past at u.aim.id (removal_at awaited s.command s.stage) k

landing_known : (awaited : Awaited) (past : Past) (at : Bucket) (u : ClientUpload) (taken : List ℕ) (p : Phase) (error : Option Error) → KnowsFile past at u.aim.id unknown → KnowsPhase awaited past at u taken (landing_of p error)
landing_known awaited past at u taken begins error k = k
landing_known awaited past at u taken (checks c) error k = k
landing_known awaited past at u taken fills error k = k
landing_known awaited past at u taken (inserts s count) error k = k
landing_known awaited past at u taken (rests moment) error k = k
landing_known awaited past at u taken (lasts s ending) error k = k
landing_known awaited past at u taken (ends ending) error k = k
landing_known awaited past at u taken (records s ending) error k = k
landing_known awaited past at u taken (lands flight other) error k = k
landing_known awaited past at u taken (undoes other) error k = k
landing_known awaited past at u taken (removes s other) error k = k

-- what is on its way is its own still
pub landing_sound : (u : ClientUpload) (p : Phase) (error : Option Error) → IsSoundPhase u p → IsSoundPhase u (landing_of p error)
landing_sound u begins error h = tt
landing_sound u (checks c) error h = h.0
landing_sound u fills error h = tt
landing_sound u (inserts s count) error h = inserting h.documents h.request
landing_sound u (rests moment) error h = tt
landing_sound u (lasts s ending) error h = inserting (h.0.document ∷ []) h.0.request
landing_sound u (ends ending) error h = tt
landing_sound u (records s ending) error h = recording ending h.0
landing_sound u (lands flight other) error h = h
landing_sound u (undoes other) error h = tt
landing_sound u (removes s other) error h = removing h

pub landing_closes : (p : Phase) (e : Error) → IsOfCall close (landing_of p (Some e))
landing_closes begins e = tt
landing_closes (checks c) e = tt
landing_closes fills e = tt
landing_closes (inserts s count) e = tt
landing_closes (rests moment) e = tt
landing_closes (lasts s ending) e = tt
landing_closes (ends ending) e = tt
landing_closes (records s ending) e = tt
landing_closes (lands flight other) e = tt
landing_closes (undoes other) e = tt
landing_closes (removes s other) e = tt

pub landing_aborts : (p : Phase) → IsOfCall abort (landing_of p None)
landing_aborts begins = tt
landing_aborts (checks c) = tt
landing_aborts fills = tt
landing_aborts (inserts s count) = tt
landing_aborts (rests moment) = tt
landing_aborts (lasts s ending) = tt
landing_aborts (ends ending) = tt
landing_aborts (records s ending) = tt
landing_aborts (lands flight other) = tt
landing_aborts (undoes other) = tt
landing_aborts (removes s other) = tt

-- ---- polls

module _ (new : Awaited) (past : Past) (at : Bucket) (u left : ClientUpload) (placed : IsPlaced at left) (same : left.aim ≡ u.aim) where
  busy_knows : (call : uploads.Call) (taken : List ℕ) (p : Phase) → KnowsPhase new past at left taken p → KnowsUpload new past at (record left { doing = busy call p }) taken
  busy_knows call taken p k = record { place = placed.place; files = placed.files; chunks = placed.chunks; by = knows_doing new past at left (busy call p) taken p k }

  idle_knows : (taken : List ℕ) → KnowsAhead new past at left taken fills → KnowsUpload new past at (record left { doing = idle }) taken
  idle_knows taken k = record { place = placed.place; files = placed.files; chunks = placed.chunks; by = ahead_doing new past at left idle taken fills k }

  cleared_of : (e : Error) → HasCleared past at left e → HasCleared past at u e
  cleared_of e h other = subst (λ (a : Aim). KnowsFile past at a.id cleared) same (h other)

  stored_of : (taken : List ℕ) → HasStored past at left taken → HasStored past at u taken
  stored_of taken h =
      record {
        ending = h.ending;
        counts = h.counts;
        chunks = h.chunks;
        chunks_are = subst (λ (a : Aim). AreChunks 0 (chunked a.size taken) h.chunks) same h.chunks_are;
        knows = subst (λ (a : Aim). KnowsFile past at a.id (stays (whole_with (record_of a h.ending) h.chunks))) same h.knows;
      }

  write_after : (piece : ℕ) (taken0 taken bytes : List ℕ) (u' : ClientUpload) (s : Stepped) (r : WritePoll) → taken_by u.doing taken0 bytes ≡ taken → u' ≡ record left { doing = doing_behind (write piece) s } → r ≡ wrote_by piece s → KnowsStepped (write piece) new past at left taken s → AfterWrite new past at u u' taken0 bytes r
  write_after piece taken0 taken bytes u' (goes p) r takes is answer k =
      subst (λ (x : WritePoll). AfterWrite new past at u u' taken0 bytes x) (sym answer)
      (subst (λ (v : ClientUpload). KnowsUpload new past at v (taken_by u.doing taken0 bytes)) (sym is) (subst (λ (bs : List ℕ). KnowsUpload new past at (record left { doing = busy (write piece) p }) bs) (sym takes) (busy_knows (write piece) taken p k)))
  write_after piece taken0 taken bytes u' (waits p) r takes is answer k =
      subst (λ (x : WritePoll). AfterWrite new past at u u' taken0 bytes x) (sym answer)
      (subst (λ (v : ClientUpload). KnowsUpload new past at v (taken_by u.doing taken0 bytes)) (sym is) (subst (λ (bs : List ℕ). KnowsUpload new past at (record left { doing = busy (write piece) p }) bs) (sym takes) (busy_knows (write piece) taken p k)))
  write_after piece taken0 taken bytes u' done r takes is answer k =
      subst (λ (x : WritePoll). AfterWrite new past at u u' taken0 bytes x) (sym answer)
      (subst (λ (v : ClientUpload). KnowsUpload new past at v (taken_by u.doing taken0 bytes)) (sym is) (subst (λ (bs : List ℕ). KnowsUpload new past at (record left { doing = idle }) bs) (sym takes) (idle_knows taken k)))
  write_after piece taken0 taken bytes u' (failed e) r takes is answer k = subst (λ (x : WritePoll). AfterWrite new past at u u' taken0 bytes x) (sym answer) (inr (cleared_of e k))

  close_after : (taken : List ℕ) (u' : ClientUpload) (s : Stepped) (r : Step2) → u' ≡ record left { doing = doing_behind close s } → r ≡ ended_by s → KnowsStepped close new past at left taken s → AfterClose new past at u u' taken r
  close_after taken u' (goes p) r is answer k = subst (λ (x : Step2). AfterClose new past at u u' taken x) (sym answer) (subst (λ (v : ClientUpload). KnowsUpload new past at v taken) (sym is) (busy_knows close taken p k))
  close_after taken u' (waits p) r is answer k = subst (λ (x : Step2). AfterClose new past at u u' taken x) (sym answer) (subst (λ (v : ClientUpload). KnowsUpload new past at v taken) (sym is) (busy_knows close taken p k))
  close_after taken u' done r is answer k = subst (λ (x : Step2). AfterClose new past at u u' taken x) (sym answer) (stored_of taken k)
  close_after taken u' (failed e) r is answer k = subst (λ (x : Step2). AfterClose new past at u u' taken x) (sym answer) (inr (cleared_of e k))

  abort_after : (taken : List ℕ) (u' : ClientUpload) (s : Stepped) (r : Step2) → u' ≡ record left { doing = doing_behind abort s } → r ≡ ended_by s → KnowsStepped abort new past at left taken s → AfterAbort new past at u u' taken r
  abort_after taken u' (goes p) r is answer k = subst (λ (x : Step2). AfterAbort new past at u u' taken x) (sym answer) (subst (λ (v : ClientUpload). KnowsUpload new past at v taken) (sym is) (busy_knows abort taken p k))
  abort_after taken u' (waits p) r is answer k = subst (λ (x : Step2). AfterAbort new past at u u' taken x) (sym answer) (subst (λ (v : ClientUpload). KnowsUpload new past at v taken) (sym is) (busy_knows abort taken p k))
  abort_after taken u' done r is answer k = subst (λ (x : Step2). AfterAbort new past at u u' taken x) (sym answer) (subst (λ (a : Aim). KnowsFile past at a.id cleared) same k)
  abort_after taken u' (failed e) r is answer k = subst (λ (x : Step2). AfterAbort new past at u u' taken x) (sym answer) tt

placed_at_work : (awaited : Awaited) (past : Past) (at : Bucket) (u : ClientUpload) (taken : List ℕ) → KnowsUpload awaited past at u taken → IsPlaced at (at_work u)
placed_at_work awaited past at u taken k = record { place = k.place; files = k.files; chunks = k.chunks }

left_placed : (at : Bucket) (u left : ClientUpload) → left.aim ≡ u.aim → IsPlaced at (at_work u) → IsPlaced at left
left_placed at u left same placed =
    record {
      place = subst (λ (a : Aim). IsAt a.bucket at) (sym same) placed.place;
      files = subst (λ (a : Aim). IsNamed a.bucket.files) (sym same) placed.files;
      chunks = subst (λ (a : Aim). IsNamed a.bucket.chunks) (sym same) placed.chunks;
    }

-- a write begins with the check, where it was not made
pub begun_sound : (v : ClientUpload) (t : Bool) → v.checked ≡ t → IsSoundPhase v (if t then fills else begins)
begun_sound v true is = is
begun_sound v false is = is

pub begun_writes : (piece : ℕ) (t : Bool) → IsOfCall (write piece) (if t then fills else begins)
begun_writes piece true = tt
begun_writes piece false = tt

module _ (old new : Awaited) (log log' : LogTold) (wire : ℤ) (at : Bucket) (u u' : ClientUpload) (sound : IsBetween u) where
  -- what is known behind all steps of a call
  driven : (ids : ℕ → List ℕ) (drawn : ℕ) (call : uploads.Call) (v : ClientUpload) (p : Phase) (s : Stepped) (taken places : List ℕ) (calls : List Call) → log ≡ Some calls → v.aim ≡ u.aim → IsPlaced at (at_work v) → HasBounds (at_work v) → IsSoundPhase (at_work v) p → IsOfCall call p
      → (d : Drives old new log log' wire ids drawn call v u' p s) → KnowsPhase old (past_of places (length calls) calls wire) at (at_work v) taken p
      → Grew places (length calls) calls log' wire (λ past. KnowsStepped call new past at d.left taken s) × IsPlaced at d.left × (d.left.aim ≡ u.aim)
  driven ids drawn call v p s taken places calls told aim placed bounds fits of_call d k =
      let kept_so = steps_kept d.steps call old new log log' wire ids drawn (at_work v) d.left p s bounds fits of_call d.does in (
        steps_known d.steps call at taken places (length calls) wire old new log log' ids drawn (at_work v) d.left p s placed bounds fits of_call d.does calls told k,
        left_placed at v d.left kept_so.0.same_aim placed,
        kept_so.0.same_aim ∙ aim,
      )

  quiet_same : SendsNothing old new log log' → (past : Past) (taken : List ℕ) → KnowsUpload old past at u taken → KnowsUpload new past at u taken
  quiet_same quiet past taken k = upload_same old new past at u taken (λ m held. quiet.rest m) k

  phase_of_doing : (past : Past) (taken : List ℕ) (d : Doing) → u.doing ≡ d → KnowsUpload old past at u taken → KnowsBy old past at u taken d
  phase_of_doing past taken d is k = subst (λ (x : Doing). KnowsBy old past at u taken x) is k.by

  sound_at : (d : Doing) → u.doing ≡ d → SoundBy u d
  sound_at d is = subst (SoundBy u) is sound.sound.by

  rests_at : (d : Doing) → u.doing ≡ d → RestsBy d
  rests_at d is = subst RestsBy is sound.rests_so

  -- ---- writes

  -- with more bytes behind
  fuller : (awaited : Awaited) (past : Past) (taken bytes : List ℕ) → KnowsAhead awaited past at u taken fills → KnowsAhead awaited past at (with_bytes bytes u) (taken ++ bytes) fills
  fuller awaited past taken bytes k =
      record {
        stored = k.stored;
        flying = k.flying;
        parts = ap (λ (l : List ℕ). l ++ bytes) k.parts ∙ append_assoc k.stored (k.flying ++ u.behind) bytes ∙ ap (λ (l : List ℕ). k.stored ++ l) (append_assoc k.flying u.behind bytes);
        even = k.even;
        chunks = k.chunks;
        coming = k.coming;
        chunks_are = k.chunks_are;
        coming_are = k.coming_are;
        its = k.its;
        comes = k.comes;
        knows = k.knows;
      }

  begun : (past : Past) (v : ClientUpload) (taken : List ℕ) (t : Bool) → KnowsAhead old past at v taken fills → KnowsPhase old past at v taken (if t then fills else begins)
  begun past v taken true k = k
  begun past v taken false k =
      record { stored = k.stored; flying = k.flying; parts = k.parts; even = k.even; chunks = k.chunks; coming = k.coming; chunks_are = k.chunks_are; coming_are = k.coming_are; its = k.its; comes = k.comes; knows = k.knows }

  pub write_stores : (ids : ℕ → List ℕ) (drawn : ℕ) (bytes : List ℕ) (r : WritePoll) → Writes old new log log' wire ids drawn u u' bytes r → WriteStores old new log log' wire at u u' bytes r
  write_stores ids drawn bytes r (refused at_end refuses answer) calls told places taken k =
      (calls, refuses.quiet.log_same ∙ told, same_keeps calls, subst (λ (x : WritePoll). AfterWrite new (past_of places (length calls) calls wire) at u u' taken bytes x) (sym answer) (inl (refuses.same, quiet_same refuses.quiet (past_of places (length calls) calls wire) taken k)))
  write_stores ids drawn bytes r (not_taken at_rest refuses answer) calls told places taken k =
      (calls, refuses.quiet.log_same ∙ told, same_keeps calls, subst (λ (x : WritePoll). AfterWrite new (past_of places (length calls) calls wire) at u u' taken bytes x) (sym answer) (inl (refuses.same, quiet_same refuses.quiet (past_of places (length calls) calls wire) taken k)))
  write_stores ids drawn bytes r (kept at_rest short quiet none is answer) calls told places taken k =
      let past = past_of places (length calls) calls wire in
      let k' = quiet_same quiet past taken k in
      let ahead : KnowsAhead new past at u taken fills = subst (λ (x : Doing). KnowsBy new past at u taken x) at_rest k'.by in
      let takes : taken_by u.doing taken bytes ≡ taken ++ bytes = ap (λ (x : Doing). taken_by x taken bytes) at_rest in
      let knows : KnowsUpload new past at (with_bytes bytes u) (taken ++ bytes) = record { place = k.place; files = k.files; chunks = k.chunks; by = subst (λ (x : Doing). KnowsBy new past at (with_bytes bytes u) (taken ++ bytes) x) (sym at_rest) (fuller new past taken bytes ahead) } in (
        calls,
        quiet.log_same ∙ told,
        same_keeps calls,
        subst (λ (x : WritePoll). AfterWrite new past at u u' taken bytes x) (sym answer)
            (subst (λ (v : ClientUpload). KnowsUpload new past at v (taken_by u.doing taken bytes)) (sym is) (subst (λ (bs : List ℕ). KnowsUpload new past at (with_bytes bytes u) bs) (sym takes) knows)),
      )
  write_stores ids drawn bytes r (starts at_rest full s drives answer) calls told places taken k =
      let past = past_of places (length calls) calls wire in
      let v = with_bytes bytes u in
      let ahead = ahead_doing old past at v idle (taken ++ bytes) fills (fuller old past taken bytes (phase_of_doing past taken idle at_rest k)) in
      let takes : taken_by u.doing taken bytes ≡ taken ++ bytes = ap (λ (x : Doing). taken_by x taken bytes) at_rest in
      let bounds : HasBounds (at_work v) = record { size = sound.sound.bounds.size; few = sound.sound.bounds.few; unchecked = sound.sound.bounds.unchecked } in
      let placed : IsPlaced at (at_work v) = record { place = k.place; files = k.files; chunks = k.chunks } in
      let x = driven ids drawn (write (length bytes)) v (first_phase u) s (taken ++ bytes) places calls told refl placed bounds (begun_sound (at_work v) u.checked refl) (begun_writes (length bytes) u.checked) drives (begun past (at_work v) (taken ++ bytes) u.checked ahead) in
      grew_as places (length calls) calls log' wire (λ p. KnowsStepped (write (length bytes)) new p at drives.left (taken ++ bytes) s) (λ p. AfterWrite new p at u u' taken bytes r)
      (λ p knows. write_after new p at u drives.left x.1 x.2 (length bytes) taken (taken ++ bytes) bytes u' s r takes drives.behind answer knows) x.0
  write_stores ids drawn bytes r (goes_on piece phase at_work_so s drives answer) calls told places taken k =
      let past = past_of places (length calls) calls wire in
      let takes : taken_by u.doing taken bytes ≡ taken = ap (λ (x : Doing). taken_by x taken bytes) at_work_so in
      let x = driven ids drawn (write piece) u phase s taken places calls told refl (placed_at_work old past at u taken k) (bounds_doing u idle sound.sound.bounds) (sound_doing u idle phase (sound_at (busy (write piece) phase) at_work_so)) (rests_at (busy (write piece) phase) at_work_so).1 drives
      (knows_doing old past at u idle taken phase (phase_of_doing past taken (busy (write piece) phase) at_work_so k)) in
      grew_as places (length calls) calls log' wire (λ p. KnowsStepped (write piece) new p at drives.left taken s) (λ p. AfterWrite new p at u u' taken bytes r)
      (λ p knows. write_after new p at u drives.left x.1 x.2 piece taken taken bytes u' s r takes drives.behind answer knows) x.0

  -- ---- closes

  resting : (past : Past) (taken : List ℕ) (moment : ℤ) → KnowsAhead old past at u taken fills → KnowsAhead old past at (at_work u) taken (rests moment)
  resting past taken moment k =
      record { stored = k.stored; flying = k.flying; parts = k.parts; even = k.even; chunks = k.chunks; coming = k.coming; chunks_are = k.chunks_are; coming_are = k.coming_are; its = k.its; comes = k.comes; knows = k.knows }

  close_driven : (ids : ℕ → List ℕ) (drawn : ℕ) (p : Phase) (s : Stepped) (r : Step2) (taken places : List ℕ) (calls : List Call) → log ≡ Some calls → IsSoundPhase (at_work u) p → IsOfCall close p → KnowsUpload old (past_of places (length calls) calls wire) at u taken → Drives old new log log' wire ids drawn close u u' p s → r ≡ ended_by s
      → KnowsPhase old (past_of places (length calls) calls wire) at (at_work u) taken p → Grew places (length calls) calls log' wire (λ past. AfterClose new past at u u' taken r)
  close_driven ids drawn p s r taken places calls told fits of_call k drives answer knows_so =
      let past = past_of places (length calls) calls wire in
      let x = driven ids drawn close u p s taken places calls told refl (placed_at_work old past at u taken k) (bounds_doing u idle sound.sound.bounds) fits of_call drives knows_so in
      grew_as places (length calls) calls log' wire (λ q. KnowsStepped close new q at drives.left taken s) (λ q. AfterClose new q at u u' taken r) (λ q knows. close_after new q at u drives.left x.1 x.2 taken u' s r drives.behind answer knows) x.0

  pub close_stores : (ids : ℕ → List ℕ) (drawn : ℕ) (moment : ℤ) (r : Step2) → Closes old new log log' wire ids drawn moment u u' r → CloseStores old new log log' wire at u u' r
  close_stores ids drawn moment r (refused at_end refuses answer) calls told places taken k =
      (calls, refuses.quiet.log_same ∙ told, same_keeps calls, subst (λ (x : Step2). AfterClose new (past_of places (length calls) calls wire) at u u' taken x) (sym answer) (inl (refuses.same, quiet_same refuses.quiet (past_of places (length calls) calls wire) taken k)))
  close_stores ids drawn moment r (starts at_rest s drives answer) calls told places taken k =
      let past = past_of places (length calls) calls wire in
      close_driven ids drawn (rests moment) s r taken places calls told (sound_at idle at_rest) tt k drives answer (resting past taken moment (phase_of_doing past taken idle at_rest k))
  close_stores ids drawn moment r (gives_up piece phase at_work_so s drives answer) calls told places taken k =
      let past = past_of places (length calls) calls wire in
      let error = Some calls_of.write_in_progress in
      close_driven ids drawn (landing_of phase error) s r taken places calls told (landing_sound (at_work u) phase error (sound_doing u idle phase (sound_at (busy (write piece) phase) at_work_so))) (landing_closes phase calls_of.write_in_progress) k drives answer
      (landing_known old past at (at_work u) taken phase error (unknown_at old past at u taken phase (phase_of_doing past taken (busy (write piece) phase) at_work_so k)))
  close_stores ids drawn moment r (goes_on phase at_work_so s drives answer) calls told places taken k =
      let past = past_of places (length calls) calls wire in
      close_driven ids drawn phase s r taken places calls told (sound_doing u idle phase (sound_at (busy close phase) at_work_so)) (rests_at (busy close phase) at_work_so).1 k drives answer
      (knows_doing old past at u idle taken phase (phase_of_doing past taken (busy close phase) at_work_so k))

  -- ---- aborts

  abort_driven : (p : Phase) (s : Stepped) (r : Step2) (taken places : List ℕ) (calls : List Call) → log ≡ Some calls → IsSoundPhase (at_work u) p → IsOfCall abort p → KnowsUpload old (past_of places (length calls) calls wire) at u taken → Abandons old new log log' wire u u' p s → r ≡ ended_by s
      → KnowsPhase old (past_of places (length calls) calls wire) at (at_work u) taken p → Grew places (length calls) calls log' wire (λ past. AfterAbort new past at u u' taken r)
  abort_driven p s r taken places calls told fits of_call k abandons answer knows_so =
      let past = past_of places (length calls) calls wire in
      let none : ℕ → List ℕ = λ n. [] in
      let drives = abandons none in
      let x = driven none 0 abort u p s taken places calls told refl (placed_at_work old past at u taken k) (bounds_doing u idle sound.sound.bounds) fits of_call drives knows_so in
      grew_as places (length calls) calls log' wire (λ q. KnowsStepped abort new q at drives.left taken s) (λ q. AfterAbort new q at u u' taken r) (λ q knows. abort_after new q at u drives.left x.1 x.2 taken u' s r drives.behind answer knows) x.0

  given_up : (past : Past) (taken : List ℕ) (phase : Phase) → KnowsPhase old past at u taken phase → KnowsPhase old past at (at_work u) taken (landing_of phase None)
  given_up past taken phase k = landing_known old past at (at_work u) taken phase None (unknown_at old past at u taken phase k)

  pub abort_stores : (r : Step2) → Aborts old new log log' wire u u' r → AbortStores old new log log' wire at u u' r
  abort_stores r (refused at_end refuses answer) calls told places taken k =
      (calls, refuses.quiet.log_same ∙ told, same_keeps calls, subst (λ (x : Step2). AfterAbort new (past_of places (length calls) calls wire) at u u' taken x) (sym answer) tt)
  abort_stores r (starts at_rest s abandons answer) calls told places taken k =
      let past = past_of places (length calls) calls wire in
      abort_driven (undoes None) s r taken places calls told tt tt k abandons answer (unknown_at old past at u taken fills (phase_of_doing past taken idle at_rest k))
  abort_stores r (gives_up_write piece phase at_work_so s abandons answer) calls told places taken k =
      let past = past_of places (length calls) calls wire in
      abort_driven (landing_of phase None) s r taken places calls told (landing_sound (at_work u) phase None (sound_doing u idle phase (sound_at (busy (write piece) phase) at_work_so))) (landing_aborts phase) k abandons answer
      (given_up past taken phase (phase_of_doing past taken (busy (write piece) phase) at_work_so k))
  abort_stores r (gives_up_close phase at_work_so s abandons answer) calls told places taken k =
      let past = past_of places (length calls) calls wire in
      abort_driven (landing_of phase None) s r taken places calls told (landing_sound (at_work u) phase None (sound_doing u idle phase (sound_at (busy close phase) at_work_so))) (landing_aborts phase) k abandons answer
      (given_up past taken phase (phase_of_doing past taken (busy close phase) at_work_so k))
  abort_stores r (goes_on phase at_work_so s abandons answer) calls told places taken k =
      let past = past_of places (length calls) calls wire in
      abort_driven phase s r taken places calls told (sound_doing u idle phase (sound_at (busy abort phase) at_work_so)) (rests_at (busy abort phase) at_work_so).1 k abandons answer
      (knows_doing old past at u idle taken phase (phase_of_doing past taken (busy abort phase) at_work_so k))
