-- A step keeps an upload sound.
use Rattle.std.proofs.Common.{◌≡◌, ◌≢◌, ◌<◌, ◌≤◌, ◌+◌, ◌*◌, ◌^◌, ℕ, ℤ, Bool, true, false, List, [], ◌∷◌, length, take, drop, Option, Some, None, refl, sym, ap, ◌∙◌, subst, inl, inr, arith}
use Rattle.std.specs.Prelude.{option_map}
use Rattle.std.proofs.lemmas.List.{length-take-le}
use Rattle.std.proofs.lemmas.Nat.{column_fits}
use Rattle.mg_bson.specs.Raw.{fields}
use Rattle.mg_link.specs.Exec.{Runs, Sending, Stage, unsent, IsFirstTry}
use Rattle.mg_link.specs.Chunks.{chunked}
use Rattle.mg_link.specs.Link.{Awaited, LogTold}
use Rattle.mg_link.specs.declared.action.Step.{Step}
use Rattle.mg_link.specs.declared.action.Step.TheVariants as came
use Rattle.mg_link.specs.declared.error.Error.{Error}
use Rattle.mg_link.proofs.Waits.{waits_still}
use Rattle.mg_options.specs.Fields.{Line}
use Rattle.mg_cursor.specs.Client.{IsSound, client_ticket}
use Rattle.mg_cursor.specs.Documents.{DocumentCursor}
use Rattle.mg_cursor.specs.declared.polls.AdvancePoll.{AdvancePoll}
use Rattle.mg_cursor.specs.declared.polls.AdvancePoll.TheVariants as advance
use Rattle.mg_cursor.specs.declared.polls.TryPoll.{TryPoll}
use Rattle.mg_cursor.specs.declared.polls.TryPoll.TheVariants as try
use Rattle.mg_gridfs.specs.Buckets.{ClientBucket}
use Rattle.mg_gridfs.specs.Checks as check
use Rattle.mg_gridfs.specs.Checks.{Builds, CheckTurned, ChecksOn, ClientCheck, Creates, EndsList, GoesBehind, HearsAdvance, HearsAny, HearsCreation, HearsFind, HearsIndex, HearsIndexed, HearsList, HearsListing, IsSoundCheck, IsSoundTurn, LandsAdvance, LandsCheck, LandsRequest, Looks, by_advance, by_creation, by_find, by_index, by_listing, creates, finds, indexes, lists, reads, still_of}
use Rattle.mg_gridfs.specs.Commands.{IsNewRequest, IsRequest, IsTry, chunk_document}
use Rattle.mg_gridfs.specs.Steps as steps
use Rattle.mg_gridfs.specs.Steps.{BeginsCheck, CheckLeads, DoesStep, Ends, Fills, HearsChunks, HearsLast, HearsRecord, HearsRemoval, LandedAs, LandsFlight, Removes, Rests, Stepped, begins_check, checks_on, done, ending_of, ends_next, failed, fills_next, first_chunks, goes, inserts_last, inserts_on, is_short, lands_on, of_check, of_command, records_on, removes_on, rests_next, undoes_next, undone_by, waits}
use Rattle.mg_gridfs.specs.Uploads.{Aim, ClientUpload, Ending, Flight, HasBounds, IsFlight, IsFlying, IsInsertion, IsLast, IsOwnWrite, IsShort, IsSoundPhase, Phase, by_check, by_command, checks, ends, fills, inserting, inserts, lands, lasts, recording, records, removes, removing, undoes}
use Rattle.mg_gridfs.specs.declared.indexes.Place.{Place}
use Rattle.mg_gridfs.specs.declared.indexes.Place.TheVariants as place
use Rattle.mg_gridfs.proofs.Idle.{IdleBy, TryIdle, seeks_idle, tries_idle}
use Rattle.mg_gridfs.proofs.Meaning.{are_chunks}
use Rattle.mg_gridfs.proofs.Reading.{seek_sound, try_sound}

-- ---- requests

try_new : (again : Bool) (stage : Stage) → stage ≡ unsent → IsTry again stage
try_new true stage is = tt
try_new false stage is = subst IsFirstTry (sym is) tt

pub new_request : (again : Bool) (lines : List Line) (s : Sending) → IsNewRequest again lines s → IsRequest again lines s
new_request again lines s n = record { command_is = n.command_is; retries_is = n.retries_is; at = try_new again s.stage n.new }

-- what waits is the command that was polled
pub same_pending : (old new : Awaited) (log log' : LogTold) (wire : ℤ) (s s' : Sending) → Runs old new log log' wire s (came.Pending s') → (s'.command ≡ s.command) × (s'.retries ≡ s.retries)
same_pending old new log log' wire s s' (inl once) = (ap (λ (x : Sending). x.command) once.gives.2, ap (λ (x : Sending). x.retries) once.gives.2)
same_pending old new log log' wire s s' (inr twice) = (ap (λ (x : Sending). x.command) twice.gives.2, ap (λ (x : Sending). x.retries) twice.gives.2)

-- a read that waits
waiting_read : (old new : Awaited) (log log' : LogTold) (wire : ℤ) (lines : List Line) (s s' : Sending) → IsRequest true lines s → Runs old new log log' wire s (came.Pending s') → IsRequest true lines s'
waiting_read old new log log' wire lines s s' r runs =
    let same = same_pending old new log log' wire s s' runs in
    record { command_is = ap fields same.0 ∙ r.command_is; retries_is = same.1 ∙ r.retries_is; at = tt }

-- a write that waits
pub waiting_write : (old new : Awaited) (log log' : LogTold) (wire : ℤ) (lines : List Line) (s s' : Sending) → IsRequest false lines s → Runs old new log log' wire s (came.Pending s') → IsRequest false lines s'
waiting_write old new log log' wire lines s s' r runs =
    let w = waits_still old new log log' wire s s' r.retries_is r.at runs in
    record { command_is = ap fields w.same_command ∙ r.command_is; retries_is = w.same_retries ∙ r.retries_is; at = subst IsFirstTry (sym w.waits_by) tt }

-- ---- the index check

turn_as : (b : ClientBucket) (t q : CheckTurned) → t ≡ q → IsSoundTurn b q → IsSoundTurn b t
turn_as b t q is sound = subst (IsSoundTurn b) (sym is) sound

built_sound : (b : ClientBucket) (again : Bool) (lines : List Line) (next : Sending → ClientCheck) (t : CheckTurned) → ((s : Sending) → IsRequest again lines s → IsSoundCheck b (next s)) → Builds again lines next t → IsSoundTurn b t
built_sound b again lines next t sound (check.built s new is) = turn_as b t (check.goes (next s)) is (sound s (new_request again lines s new))
built_sound b again lines next t sound (check.not_built e fails is) = turn_as b t (check.fails e) is tt

behind_sound : (b : ClientBucket) (k : Place) (t : CheckTurned) → GoesBehind b k t → IsSoundTurn b t
behind_sound b place.Files t h = built_sound b false _ (creates place.Chunks) t (λ s r. r) h
behind_sound b place.Chunks t h = turn_as b t check.passes h tt

listed_sound : (b : ClientBucket) (k : Place) (found : Bool) (t : CheckTurned) → EndsList b k found t → IsSoundTurn b t
listed_sound b k true t h = behind_sound b k t h
listed_sound b k false t h = built_sound b false _ (indexes k) t (λ s r. r) h

any_sound : (b : ClientBucket) (reply : List ℕ) (t : CheckTurned) → HearsAny b reply t → IsSoundTurn b t
any_sound b reply t (check.some said read there is) = turn_as b t check.passes is tt
any_sound b reply t (check.none said read empty builds) = built_sound b false _ (creates place.Files) t (λ s r. r) builds
any_sound b reply t (check.broke e fails is) = turn_as b t (check.fails e) is tt

created_sound : (b : ClientBucket) (k : Place) (c : Step Sending (List ℕ)) (t : CheckTurned) → Creates b k c t → IsSoundTurn b t
created_sound b k c t (check.created reply is none builds) = built_sound b true _ (lists k) t (λ s r. r) builds
created_sound b k c t (check.there e is code builds) = built_sound b true _ (lists k) t (λ s r. r) builds
created_sound b k c t (check.unread reply e is fails answer) = turn_as b t (check.fails e) answer tt
created_sound b k c t (check.other e is code answer) = turn_as b t (check.fails e) answer tt

list_sound : (b : ClientBucket) (k : Place) (reply : List ℕ) (t : CheckTurned) → HearsList k reply t → IsSoundTurn b t
list_sound b k reply t (check.opened out opens is) = turn_as b t _ is (tt, omega arith, inl refl)
list_sound b k reply t (check.broke e fails is) = turn_as b t (check.fails e) is tt

look_sound : (b : ClientBucket) (k : Place) (cursor : DocumentCursor) (document : List ℕ) (found : Bool) (count : ℕ) (t : CheckTurned) → IsSound true cursor.cursor → client_ticket cursor.cursor ≡ None → Looks k cursor document found count t → IsSoundTurn b t
look_sound b k cursor document found count t sound none (check.looked i few read is) = turn_as b t _ is (sound, omega arith, inr none)
look_sound b k cursor document found count t sound none (check.too_many many is) = turn_as b t _ is tt
look_sound b k cursor document found count t sound none (check.broke e fails is) = turn_as b t (check.fails e) is tt

advanced_sound : (b : ClientBucket) (k : Place) (cursor : DocumentCursor) (found : Bool) (count : ℕ) (poll : AdvancePoll) (t : CheckTurned) → IsSound true cursor.cursor → count ≤ 1048576 → IdleBy poll cursor → HearsAdvance b k cursor found count poll t → IsSoundTurn b t
advanced_sound b k cursor found count advance.Pending t sound few idle h = turn_as b t (check.pends (reads k cursor found count)) h (sound, few, idle)
advanced_sound b k cursor found count (advance.Ready true) t sound few idle h = look_sound b k cursor h.0 found count t sound idle h.2
advanced_sound b k cursor found count (advance.Ready false) t sound few idle h = listed_sound b k found t h
advanced_sound b k cursor found count (advance.Failed e) t sound few idle h = turn_as b t (check.fails e) h tt

indexed_sound : (b : ClientBucket) (k : Place) (reply : List ℕ) (t : CheckTurned) → HearsIndexed b k reply t → IsSoundTurn b t
indexed_sound b k reply t (check.done none behind) = behind_sound b k t behind
indexed_sound b k reply t (check.unread e fails is) = turn_as b t (check.fails e) is tt

module _ (old new : Awaited) (log log' : LogTold) (wire : ℤ) (b : ClientBucket) where
  found_sound : (s : Sending) (c : Step Sending (List ℕ)) (t : CheckTurned) → IsSoundCheck b (finds s) → Runs old new log log' wire s c → HearsFind b c t → IsSoundTurn b t
  found_sound s (came.Pending s') t sound runs h = turn_as b t (check.pends (finds s')) h (waiting_read old new log log' wire _ s s' sound runs)
  found_sound s (came.Done reply) t sound runs h = any_sound b reply t h
  found_sound s (came.Failed e) t sound runs h = turn_as b t (check.fails e) h tt

  creation_sound : (k : Place) (s : Sending) (c : Step Sending (List ℕ)) (t : CheckTurned) → IsSoundCheck b (creates k s) → Runs old new log log' wire s c → HearsCreation b k c t → IsSoundTurn b t
  creation_sound k s (came.Pending s') t sound runs h = turn_as b t (check.pends (creates k s')) h (waiting_write old new log log' wire _ s s' sound runs)
  creation_sound k s (came.Done reply) t sound runs h = created_sound b k (came.Done reply) t h
  creation_sound k s (came.Failed e) t sound runs h = created_sound b k (came.Failed e) t h

  listing_sound : (k : Place) (s : Sending) (c : Step Sending (List ℕ)) (t : CheckTurned) → IsSoundCheck b (lists k s) → Runs old new log log' wire s c → HearsListing k c t → IsSoundTurn b t
  listing_sound k s (came.Pending s') t sound runs h = turn_as b t (check.pends (lists k s')) h (waiting_read old new log log' wire _ s s' sound runs)
  listing_sound k s (came.Done reply) t sound runs h = list_sound b k reply t h
  listing_sound k s (came.Failed e) t sound runs h = turn_as b t (check.fails e) h tt

  index_sound : (k : Place) (s : Sending) (c : Step Sending (List ℕ)) (t : CheckTurned) → IsSoundCheck b (indexes k s) → Runs old new log log' wire s c → HearsIndex b k c t → IsSoundTurn b t
  index_sound k s (came.Pending s') t sound runs h = turn_as b t (check.pends (indexes k s')) h (waiting_write old new log log' wire _ s s' sound runs)
  index_sound k s (came.Done reply) t sound runs h = indexed_sound b k reply t h
  index_sound k s (came.Failed e) t sound runs h = turn_as b t (check.fails e) h tt

  -- A step of the check keeps it sound.
  pub check_sound : (c : ClientCheck) (t : CheckTurned) → IsSoundCheck b c → ChecksOn old new log log' wire b c t → IsSoundTurn b t
  check_sound c t sound (by_find s is came_to runs hears) = found_sound s came_to t (subst (IsSoundCheck b) is sound) runs hears
  check_sound c t sound (by_creation k s is came_to runs hears) = creation_sound k s came_to t (subst (IsSoundCheck b) is sound) runs hears
  check_sound c t sound (by_listing k s is came_to runs hears) = listing_sound k s came_to t (subst (IsSoundCheck b) is sound) runs hears
  check_sound c t sound (by_advance k cursor found count is empties starts left poll seeks hears) =
      let own = subst (IsSoundCheck b) is sound in
      advanced_sound b k left found count poll t (seek_sound empties old new log log' wire starts cursor left poll own.0 seeks) own.1 (seeks_idle empties old new log log' wire None starts cursor left poll own.2 seeks) hears
  check_sound c t sound (by_index k s is came_to runs hears) = index_sound k s came_to t (subst (IsSoundCheck b) is sound) runs hears

-- ---- requests that are given up

abbrev CheckLeft : ClientBucket → Option ClientCheck → Type 0
CheckLeft b None = Unit {0}
CheckLeft b (Some c) = IsSoundCheck b c

abbrev pub FlightLeft : ClientUpload → Option Flight → Type 0
FlightLeft u None = Unit {0}
FlightLeft u (Some flight) = IsFlight u flight

left_as : (b : ClientBucket) (t q : Option ClientCheck) → t ≡ q → CheckLeft b q → CheckLeft b t
left_as b t q is left = subst (CheckLeft b) (sym is) left

module _ (old new : Awaited) (log log' : LogTold) (wire : ℤ) where
  land_read : (b : ClientBucket) (lines : List Line) (next : Sending → ClientCheck) → ((s : Sending) → IsRequest true lines s → IsSoundCheck b (next s)) → (s : Sending) (c : Step Sending (List ℕ)) (t : Option ClientCheck) → IsRequest true lines s → Runs old new log log' wire s c → LandsRequest next c t → CheckLeft b t
  land_read b lines next sound s (came.Pending s') t r runs is = left_as b t (Some (next s')) is (sound s' (waiting_read old new log log' wire lines s s' r runs))
  land_read b lines next sound s (came.Done reply) t r runs is = left_as b t None is tt
  land_read b lines next sound s (came.Failed e) t r runs is = left_as b t None is tt

  land_write : (b : ClientBucket) (lines : List Line) (next : Sending → ClientCheck) → ((s : Sending) → IsRequest false lines s → IsSoundCheck b (next s)) → (s : Sending) (c : Step Sending (List ℕ)) (t : Option ClientCheck) → IsRequest false lines s → Runs old new log log' wire s c → LandsRequest next c t → CheckLeft b t
  land_write b lines next sound s (came.Pending s') t r runs is = left_as b t (Some (next s')) is (sound s' (waiting_write old new log log' wire lines s s' r runs))
  land_write b lines next sound s (came.Done reply) t r runs is = left_as b t None is tt
  land_write b lines next sound s (came.Failed e) t r runs is = left_as b t None is tt

  land_list : (b : ClientBucket) (k : Place) (cursor : DocumentCursor) (found : Bool) (count : ℕ) (poll : TryPoll) (t : Option ClientCheck) → IsSound true cursor.cursor → count ≤ 1048576 → TryIdle poll cursor → LandsAdvance k cursor found count poll t → CheckLeft b t
  land_list b k cursor found count try.Pending t sound few idle is = left_as b t (Some (reads k cursor found count)) is (sound, few, idle)
  land_list b k cursor found count (try.Ready a) t sound few idle is = left_as b t None is tt
  land_list b k cursor found count (try.Failed e) t sound few idle is = left_as b t None is tt

  land_sound : (b : ClientBucket) (c : ClientCheck) (t : Option ClientCheck) → IsSoundCheck b c → LandsCheck old new log log' wire c t → CheckLeft b t
  land_sound b c t sound (by_find s is came_to runs left) = land_read b _ finds (λ x r. r) s came_to t (subst (IsSoundCheck b) is sound) runs left
  land_sound b c t sound (by_creation k s is came_to runs left) = land_write b _ (creates k) (λ x r. r) s came_to t (subst (IsSoundCheck b) is sound) runs left
  land_sound b c t sound (by_listing k s is came_to runs left) = land_read b _ (lists k) (λ x r. r) s came_to t (subst (IsSoundCheck b) is sound) runs left
  land_sound b c t sound (by_advance k cursor found count is started left poll tries landing) =
      let own = subst (IsSoundCheck b) is sound in
      land_list b k left found count poll t (try_sound old new log log' wire started cursor left poll own.0 tries) own.1 (tries_idle old new log log' wire None started cursor left poll own.2 tries) landing
  land_sound b c t sound (by_index k s is came_to runs left) = land_write b _ (indexes k) (λ x r. r) s came_to t (subst (IsSoundCheck b) is sound) runs left

  waiting_own : (u : ClientUpload) (s s' : Sending) → IsOwnWrite u s → Runs old new log log' wire s (came.Pending s') → IsOwnWrite u s'
  waiting_own u s s' (inserting documents r) runs = inserting documents (waiting_write old new log log' wire _ s s' r runs)
  waiting_own u s s' (recording ending r) runs = recording ending (waiting_write old new log log' wire _ s s' r runs)
  waiting_own u s s' (removing r) runs = removing (waiting_write old new log log' wire _ s s' r runs)

  command_left : (u : ClientUpload) (s : Sending) (c : Step Sending (List ℕ)) (left : Option Flight) → IsOwnWrite u s → Runs old new log log' wire s c → left ≡ option_map by_command (still_of c) → FlightLeft u left
  command_left u s (came.Pending s') left own runs is = subst (FlightLeft u) (sym is) (waiting_own u s s' own runs)
  command_left u s (came.Done reply) left own runs is = subst (FlightLeft u) (sym is) tt
  command_left u s (came.Failed e) left own runs is = subst (FlightLeft u) (sym is) tt

  check_left : (u : ClientUpload) (t : Option ClientCheck) (left : Option Flight) → CheckLeft u.aim.bucket t → left ≡ option_map by_check t → FlightLeft u left
  check_left u None left sound is = subst (FlightLeft u) (sym is) tt
  check_left u (Some c) left sound is = subst (FlightLeft u) (sym is) sound

  pub flight_sound : (u : ClientUpload) (flight : Flight) (left : Option Flight) → IsFlight u flight → LandsFlight old new log log' wire flight left → FlightLeft u left
  flight_sound u flight left sound (of_check c is t landing left_is) = check_left u t left (land_sound u.aim.bucket c t (subst (IsFlight u) is sound) landing) left_is
  flight_sound u flight left sound (of_command s is came_to runs left_is) = command_left u s came_to left (subst (IsFlight u) is sound) runs left_is

-- ---- a step

abbrev pub SoundStepped : ClientUpload → Stepped → Type 0
SoundStepped u (goes p) = IsSoundPhase u p
SoundStepped u (waits p) = IsSoundPhase u p × IsFlying p
SoundStepped u done = Unit {0}
SoundStepped u (failed e) = Unit {0}

-- what a step leads to
pub record IsKept (aim : Aim) (u : ClientUpload) (r : Stepped) : Type 0 where
  pub bounds : HasBounds u
  pub stepped_so : SoundStepped u r
  pub same_aim : u.aim ≡ aim

kept_as : {aim : Aim} (u v : ClientUpload) (r q : Stepped) → u ≡ v → r ≡ q → IsKept aim v q → IsKept aim u r
kept_as {aim} u v r q is answer k = subst (IsKept aim u) (sym answer) (subst (λ (w : ClientUpload). IsKept aim w q) (sym is) k)

-- a length that a record can tell
small_length : (sent size n : ℕ) → sent ≤ 2 ^ 31 → size < 2 ^ 31 → n < size → sent * size + n < 2 ^ 63
small_length sent size n few small lt = let most = column_fits sent size (2 ^ 31) (2 ^ 31) small few in omega arith

some_bytes : (bs : List ℕ) → bs ≢ [] → 0 < length bs
some_bytes [] some = absurd (some refl)
some_bytes (b ∷ bs) some = omega arith

undone_kept : (u u' : ClientUpload) (e : Error) (r : Stepped) → HasBounds u → u' ≡ u → r ≡ goes (undoes (Some e)) → IsKept u.aim u' r
undone_kept u u' e r bounds is answer = kept_as u' u r (goes (undoes (Some e))) is answer (record { bounds = bounds; stepped_so = tt; same_aim = refl })

module _ (old new : Awaited) (log log' : LogTold) (wire : ℤ) (u u' : ClientUpload) (r : Stepped) (bounds : HasBounds u) where
  begins_kept : u.checked ≡ false → BeginsCheck u u' r → IsKept u.aim u' r
  begins_kept none (steps.built s new_one is answer) = kept_as u' u r (goes (checks (finds s))) is answer (record { bounds = bounds; stepped_so = (new_request true _ s new_one, none); same_aim = refl })
  begins_kept none (steps.not_built e fails is answer) = kept_as u' u r (failed e) is answer (record { bounds = bounds; stepped_so = tt; same_aim = refl })

  check_kept : u.checked ≡ false → (t : CheckTurned) → IsSoundTurn u.aim.bucket t → CheckLeads t u u' r → IsKept u.aim u' r
  check_kept none (check.goes c) sound h = kept_as u' u r (goes (checks c)) h.0 h.1 (record { bounds = bounds; stepped_so = (sound, none); same_aim = refl })
  check_kept none (check.pends c) sound h = kept_as u' u r (waits (checks c)) h.0 h.1 (record { bounds = bounds; stepped_so = ((sound, none), tt); same_aim = refl })
  check_kept none check.passes sound h = kept_as u' (record u { checked = true }) r (goes fills) h.0 h.1 (record { bounds = record { size = bounds.size; few = bounds.few; unchecked = λ h. (let bad : true ≡ false = h in absurd cc) }; stepped_so = refl; same_aim = refl })
  check_kept none (check.fails e) sound h = kept_as u' u r (failed e) h.0 h.1 (record { bounds = bounds; stepped_so = tt; same_aim = refl })

  fills_kept : u.checked ≡ true → (ids : ℕ → List ℕ) (drawn : ℕ) → Fills ids drawn u u' r → IsKept u.aim u' r
  fills_kept checked_so ids drawn (steps.built count s portion small n request is answer) =
      let these = take (count * u.aim.size) u.behind in
      let insertion : IsInsertion (record u { behind = drop (count * u.aim.size) u.behind }) s count = record {
        bytes = these;
        documents = first_chunks u ids count;
        stretch = record { even = length-take-le (count * u.aim.size) u.behind portion.within; are = are_chunks ids 0 u.aim.id u.sent (chunked u.aim.size these) };
        checked = checked_so;
        some = portion.some;
        small = small;
        request = new_request false _ s request;
      } in
      kept_as u' (record u { behind = drop (count * u.aim.size) u.behind }) r (goes (inserts s count)) is answer (record { bounds = record { size = bounds.size; few = bounds.few; unchecked = bounds.unchecked }; stepped_so = insertion; same_aim = refl })
  fills_kept checked_so ids drawn (steps.not_built within e left fails is answer) = kept_as u' (record u { behind = left }) r (goes (undoes (Some e))) is answer (record { bounds = record { size = bounds.size; few = bounds.few; unchecked = bounds.unchecked }; stepped_so = tt; same_aim = refl })

  inserts_kept : (s : Sending) (count : ℕ) (c : Step Sending (List ℕ)) → IsInsertion u s count → Runs old new log log' wire s c → HearsChunks count c u u' r → IsKept u.aim u' r
  inserts_kept s count (came.Pending s') i runs h =
      let waiting_one : IsInsertion u s' count = record { bytes = i.bytes; documents = i.documents; stretch = i.stretch; checked = i.checked; some = i.some; small = i.small; request = waiting_write old new log log' wire _ s s' i.request runs } in
      kept_as u' u r (waits (inserts s' count)) h.0 h.1 (record { bounds = bounds; stepped_so = (waiting_one, tt); same_aim = refl })
  inserts_kept s count (came.Done reply) i runs (steps.inserted n told_so is answer) = kept_as u' (record u { sent = u.sent + count }) r (goes fills) is answer (record { bounds = record { size = bounds.size; few = i.small; unchecked = λ h. (let bad : true ≡ false = sym i.checked ∙ h in absurd cc) }; stepped_so = i.checked; same_aim = refl })
  inserts_kept s count (came.Done reply) i runs (steps.not_inserted e fails is answer) = undone_kept u u' e r bounds is answer
  inserts_kept s count (came.Failed e) i runs h = undone_kept u u' e r bounds h.0 h.1

  rests_kept : (ids : ℕ → List ℕ) (drawn : ℕ) (moment : ℤ) → IsShort u → Rests ids drawn moment u u' r → IsKept u.aim u' r
  rests_kept ids drawn moment short (steps.nothing_left none n is answer) =
      kept_as u' u r (goes (ends (ending_of u moment))) is answer (record { bounds = bounds; stepped_so = (none, small_length u.sent u.aim.size (length u.behind) bounds.few bounds.size.small short); same_aim = refl })
  rests_kept ids drawn moment short (steps.built some small n s request is answer) =
      let last_one : IsLast (record u { behind = [] }) s (ending_of u moment) = record {
        bytes = u.behind;
        document = chunk_document (ids 0) u.aim.id u.sent u.behind;
        some = some_bytes u.behind some;
        short = short;
        length_is = refl;
        are = (record { number_is = refl; data_is = refl }, tt);
        request = new_request false _ s request;
      } in
      kept_as u' (record u { behind = [] }) r (goes (lasts s (ending_of u moment))) is answer (record { bounds = record { size = bounds.size; few = bounds.few; unchecked = bounds.unchecked }; stepped_so = (last_one, refl); same_aim = refl })
  rests_kept ids drawn moment short (steps.not_built some most e left fails is answer) = kept_as u' (record u { behind = left }) r (goes (undoes (Some e))) is answer (record { bounds = record { size = bounds.size; few = bounds.few; unchecked = bounds.unchecked }; stepped_so = tt; same_aim = refl })

  last_kept : (s : Sending) (ending : Ending) (c : Step Sending (List ℕ)) → IsLast u s ending → u.behind ≡ [] → Runs old new log log' wire s c → HearsLast ending c u u' r → IsKept u.aim u' r
  last_kept s ending (came.Pending s') l none runs h =
      let waiting_one : IsLast u s' ending = record { bytes = l.bytes; document = l.document; some = l.some; short = l.short; length_is = l.length_is; are = l.are; request = waiting_write old new log log' wire _ s s' l.request runs } in
      kept_as u' u r (waits (lasts s' ending)) h.0 h.1 (record { bounds = bounds; stepped_so = ((waiting_one, none), tt); same_aim = refl })
  last_kept s ending (came.Done reply) l none runs (steps.inserted n told_so is answer) =
      let small = small_length u.sent u.aim.size (length l.bytes) bounds.few bounds.size.small l.short in
      let length_is = l.length_is in
      kept_as u' u r (goes (ends ending)) is answer (record { bounds = bounds; stepped_so = (none, omega arith); same_aim = refl })
  last_kept s ending (came.Done reply) l none runs (steps.not_inserted e fails is answer) = undone_kept u u' e r bounds is answer
  last_kept s ending (came.Failed e) l none runs h = undone_kept u u' e r bounds h.0 h.1

  ends_kept : (ending : Ending) → u.behind ≡ [] → Ends ending u u' r → IsKept u.aim u' r
  ends_kept ending none (steps.built s request is answer) = kept_as u' u r (goes (records s ending)) is answer (record { bounds = bounds; stepped_so = (new_request false _ s request, none); same_aim = refl })
  ends_kept ending none (steps.not_built e fails is answer) = undone_kept u u' e r bounds is answer

  record_kept : (s : Sending) (ending : Ending) (c : Step Sending (List ℕ)) → IsSoundPhase u (records s ending) → Runs old new log log' wire s c → HearsRecord ending c u u' r → IsKept u.aim u' r
  record_kept s ending (came.Pending s') own runs h = kept_as u' u r (waits (records s' ending)) h.0 h.1 (record { bounds = bounds; stepped_so = ((waiting_write old new log log' wire _ s s' own.0 runs, own.1), tt); same_aim = refl })
  record_kept s ending (came.Done reply) own runs (steps.inserted n told_so is answer) = kept_as u' u r done is answer (record { bounds = bounds; stepped_so = tt; same_aim = refl })
  record_kept s ending (came.Done reply) own runs (steps.not_inserted e fails undone_so) = undone_kept u u' e r bounds undone_so.0 undone_so.1
  record_kept s ending (came.Failed e) own runs h = undone_kept u u' e r bounds h.0 h.1

  landed_kept : (error : Option Error) (left : Option Flight) → FlightLeft u left → LandedAs error left u u' r → IsKept u.aim u' r
  landed_kept error None left h = kept_as u' u r (goes (undoes error)) h.0 h.1 (record { bounds = bounds; stepped_so = tt; same_aim = refl })
  landed_kept error (Some flight) left h = kept_as u' u r (waits (lands flight error)) h.0 h.1 (record { bounds = bounds; stepped_so = (left, tt); same_aim = refl })

  removes_kept : (error : Option Error) → Removes error u u' r → IsKept u.aim u' r
  removes_kept error (steps.built s request is answer) = kept_as u' u r (goes (removes s error)) is answer (record { bounds = bounds; stepped_so = new_request false _ s request; same_aim = refl })
  removes_kept error (steps.not_built d e fails both is answer) = kept_as u' u r (failed e) is answer (record { bounds = bounds; stepped_so = tt; same_aim = refl })

  undone_by_kept : (error : Option Error) → u' ≡ u → r ≡ undone_by error → IsKept u.aim u' r
  undone_by_kept None is answer = kept_as u' u r done is answer (record { bounds = bounds; stepped_so = tt; same_aim = refl })
  undone_by_kept (Some e) is answer = kept_as u' u r (failed e) is answer (record { bounds = bounds; stepped_so = tt; same_aim = refl })

  removal_kept : (s : Sending) (error : Option Error) (c : Step Sending (List ℕ)) → IsSoundPhase u (removes s error) → Runs old new log log' wire s c → HearsRemoval error c u u' r → IsKept u.aim u' r
  removal_kept s error (came.Pending s') own runs h = kept_as u' u r (waits (removes s' error)) h.0 h.1 (record { bounds = bounds; stepped_so = (waiting_write old new log log' wire _ s s' own runs, tt); same_aim = refl })
  removal_kept s error (came.Done reply) own runs (steps.removed n wrote_so is answer) = undone_by_kept error is answer
  removal_kept s error (came.Done reply) own runs (steps.not_removed d e fails both is answer) = kept_as u' u r (failed e) is answer (record { bounds = bounds; stepped_so = tt; same_aim = refl })
  removal_kept s error (came.Failed d) own runs h = kept_as u' u r (failed h.0) h.2 h.3 (record { bounds = bounds; stepped_so = tt; same_aim = refl })

  -- A step keeps the upload sound, and what is on its way its own.
  pub step_kept : (ids : ℕ → List ℕ) (drawn : ℕ) (p : Phase) → IsSoundPhase u p → DoesStep old new log log' wire ids drawn u u' p r → IsKept u.aim u' r
  step_kept ids drawn p sound (begins_check is quiet n does) = begins_kept (subst (IsSoundPhase u) is sound) does
  step_kept ids drawn p sound (checks_on c is n t checks_so leads) =
      let own = subst (IsSoundPhase u) is sound in
      check_kept own.1 t (check_sound old new log log' wire u.aim.bucket c t own.0 checks_so) leads
  step_kept ids drawn p sound (is_short is quiet n short same answer) = kept_as u' u r done same answer (record { bounds = bounds; stepped_so = tt; same_aim = refl })
  step_kept ids drawn p sound (fills_next is quiet full does) = fills_kept (subst (IsSoundPhase u) is sound) ids drawn does
  step_kept ids drawn p sound (inserts_on s count is n came_to runs hears) = inserts_kept s count came_to (subst (IsSoundPhase u) is sound) runs hears
  step_kept ids drawn p sound (rests_next moment is quiet does) = rests_kept ids drawn moment (subst (IsSoundPhase u) is sound) does
  step_kept ids drawn p sound (inserts_last s ending is n came_to runs hears) = let own = subst (IsSoundPhase u) is sound in last_kept s ending came_to own.0 own.1 runs hears
  step_kept ids drawn p sound (ends_next ending is quiet n does) = let own = subst (IsSoundPhase u) is sound in ends_kept ending own.0 does
  step_kept ids drawn p sound (records_on s ending is n came_to runs hears) = record_kept s ending came_to (subst (IsSoundPhase u) is sound) runs hears
  step_kept ids drawn p sound (lands_on flight error is n left landing landed) = landed_kept error left (flight_sound old new log log' wire u flight left (subst (IsSoundPhase u) is sound) landing) landed
  step_kept ids drawn p sound (undoes_next error is quiet n does) = removes_kept error does
  step_kept ids drawn p sound (removes_on s error is n came_to runs hears) = removal_kept s error came_to (subst (IsSoundPhase u) is sound) runs hears
