-- What one step of an upload does, which sends one command at most (GridFS specification, "File Upload" and "abort").
use Rattle.std.specs.Prelude.{◌≡◌, ◌≢◌, ◌⊎◌, ◌<◌, ◌≤◌, ◌^◌, ◌*◌, ◌+◌, ℕ, zero, suc, ℤ, true, false, List, [], ◌∷◌, length, slice_get, take, drop, Option, Some, None, option_map}
use Rattle.mg_bson.specs.Bytes.{bytes}
use Rattle.mg_bson.specs.Raw.{fields}
use Rattle.mg_bson.specs.Tree.{Fields}
use Rattle.mg_link.specs.Errors.{plain}
use Rattle.mg_link.specs.Exec.{Runs, Sending}
use Rattle.mg_link.specs.Chunks.{chunked}
use Rattle.mg_link.specs.Link.{Awaited, SendsNothing, LogTold}
use Rattle.mg_link.specs.declared.action.Step.{Step}
use Rattle.mg_link.specs.declared.action.Step.TheVariants as step
use Rattle.mg_link.specs.declared.error.Error.{Error}
use Rattle.mg_link.specs.declared.error.ErrorKind.{ErrorKind}
use Rattle.mg_link.specs.declared.error.ErrorKind.TheVariants as kind
use Rattle.mg_link.specs.declared.error.GridFsErrorKind.{Held-GridFsErrorKind-AbortError-0, None', Some'}
use Rattle.mg_link.specs.declared.error.GridFsErrorKind.TheVariants as grid
use Rattle.mg_ops.specs.Failing.{CannotBeSent, FailsBy}
use Rattle.mg_ops.specs.InsertCauses.{FitTogether, max_piece}
use Rattle.mg_ops.specs.Limits.{max_documents}
use Rattle.mg_ops.specs.Writes.{FailedAs, Inserted, NotInserted, Wrote, count_of}
use Rattle.mg_gridfs.specs.Checks as check
use Rattle.mg_gridfs.specs.Checks.{CheckTurned, ChecksOn, ClientCheck, LandsCheck, finds, still_of}
use Rattle.mg_gridfs.specs.Commands.{CannotSend, CannotStore, IsNewRequest, any_lines, chunk_document, chunk_documents, chunks_lines, deletion_lines, record_lines}
use Rattle.mg_gridfs.specs.Uploads.{ClientUpload, Ending, Flight, IsShort, Phase, begins, by_check, by_command, checks, ends, fills, inserts, lands, lasts, record_of, records, removes, rests, undoes}

-- what a step comes to
pub data Stepped : Type 0 where
  -- the call goes on with this
  goes : (phase : Phase) → Stepped
  -- it waits for a reply
  waits : (phase : Phase) → Stepped
  done : Stepped
  failed : (e : Error) → Stepped

-- ---- the index check

-- a check that passed is not made again; one that fails ends the upload
abbrev pub CheckLeads : CheckTurned → ClientUpload → ClientUpload → Stepped → Type 0
CheckLeads (check.goes c) u u' r = (u' ≡ u) × (r ≡ goes (checks c))
CheckLeads (check.pends c) u u' r = (u' ≡ u) × (r ≡ waits (checks c))
CheckLeads check.passes u u' r = (u' ≡ record u { checked = true }) × (r ≡ goes fills)
CheckLeads (check.fails e) u u' r = (u' ≡ u) × (r ≡ failed e)

-- the check begins with its find
pub data BeginsCheck (u u' : ClientUpload) (r : Stepped) : Type 0 where
  built : (sending : Sending) → IsNewRequest true (any_lines u.aim.bucket) sending → u' ≡ u → r ≡ goes (checks (finds sending)) → BeginsCheck u u' r
  not_built : (e : Error) → FailsBy (CannotSend (any_lines u.aim.bucket)) e → u' ≡ u → r ≡ failed e → BeginsCheck u u' r

-- ---- full chunks

-- the first of the bytes that are behind, as so many chunks
abbrev pub first_chunks : ClientUpload → (ℕ → List ℕ) → ℕ → List Fields
first_chunks u ids count = chunk_documents ids 0 u.aim.id u.sent (chunked u.aim.size (take (count * u.aim.size) u.behind))

-- So many of the full chunks go into one command: as many as its limits allow, and at least one.
pub record IsPortion (u : ClientUpload) (documents : List Fields) (count : ℕ) : Type 0 where
  pub some : 0 < count
  pub within : count * u.aim.size ≤ length u.behind
  pub few : count ≤ max_documents
  pub together : FitTogether documents
  -- one more is not there, or passes the limits: all full chunks are documents of one length
  pub most : (length u.behind < (count + 1) * u.aim.size) ⊎ ((count ≡ max_documents) ⊎ ((d : Fields) × (slice_get documents 0 ≡ Some d) × (max_piece < (count + 1) * length (bytes d))))

-- so many of these ids have twelve bytes
abbrev pub AreIds : (ℕ → List ℕ) → ℕ → Type 0
AreIds ids count = (k : ℕ) → k < count → length (ids k) ≡ 12

-- Why the next full chunks have no numbers: that of the first of them passes the greatest, or that of the last of those that one command holds.
pub data PassNumbers (u : ClientUpload) (ids : ℕ → List ℕ) : Type 0 where
  of_first : 2 ^ 31 < u.sent + 1 → PassNumbers u ids
  of_last : (count : ℕ) → 2 ^ 31 < u.sent + count → (AreIds ids count → IsPortion u (first_chunks u ids count) count) → PassNumbers u ids

-- why full chunks are not inserted: their numbers pass the greatest, or they cannot be stored
pub data CannotFill (u : ClientUpload) (ids : ℕ → List ℕ) (e : Error) : Type 0 where
  too_many : (count : ℕ) → 0 < count → count ≤ max_documents → count * u.aim.size ≤ length u.behind → 2 ^ 31 < u.sent + count → PassNumbers u ids → e ≡ plain kind.FileTooLarge → CannotFill u ids e
  -- as many as one command holds
  too_large : (count : ℕ) → IsPortion u (first_chunks u ids count) count → u.sent + count ≤ 2 ^ 31 → CannotStore (chunks_lines u.aim.bucket (first_chunks u ids count)) (first_chunks u ids count) e → CannotFill u ids e
  not_encoded : (d : Fields) → first_chunks u ids 1 ≡ d ∷ [] → CannotBeSent d e → CannotFill u ids e

-- The next full chunks are put into a command, and stand in it alone; the bytes of chunks that come into none are lost with the upload.
pub data Fills (ids : ℕ → List ℕ) (drawn : ℕ) (u u' : ClientUpload) (r : Stepped) : Type 0 where
  built : (count : ℕ) (sending : Sending) → IsPortion u (first_chunks u ids count) count → u.sent + count ≤ 2 ^ 31 → drawn ≡ count → IsNewRequest false (chunks_lines u.aim.bucket (first_chunks u ids count)) sending
      → u' ≡ record u { behind = drop (count * u.aim.size) u.behind } → r ≡ goes (inserts sending count) → Fills ids drawn u u' r
  -- each id that was drawn is that of a full chunk
  not_built : drawn * u.aim.size ≤ length u.behind → (e : Error) (left : List ℕ) → FailsBy (CannotFill u ids) e → u' ≡ record u { behind = left } → r ≡ goes (undoes (Some e)) → Fills ids drawn u u' r

-- what the reply to an insert of so many documents says
pub data ReadsInserted (count : ℕ) (reply : List ℕ) (u u' after : ClientUpload) (next : Phase) (r : Stepped) : Type 0 where
  inserted : (n : ℕ) → Inserted count (fields reply) n → u' ≡ after → r ≡ goes next → ReadsInserted count reply u u' after next r
  not_inserted : (e : Error) → FailsBy (NotInserted count (fields reply)) e → u' ≡ u → r ≡ goes (undoes (Some e)) → ReadsInserted count reply u u' after next r

-- a failure is answered once the chunks are removed
abbrev pub Undoes : Error → ClientUpload → ClientUpload → Stepped → Type 0
Undoes e u u' r = (u' ≡ u) × (r ≡ goes (undoes (Some e)))

abbrev pub HearsChunks : ℕ → Step Sending (List ℕ) → ClientUpload → ClientUpload → Stepped → Type 0
HearsChunks count (step.Pending sending) u u' r = (u' ≡ u) × (r ≡ waits (inserts sending count))
HearsChunks count (step.Done reply) u u' r = ReadsInserted count reply u u' (record u { sent = u.sent + count }) fills r
HearsChunks count (step.Failed e) u u' r = Undoes e u u' r

-- ---- the last chunk

abbrev pub ending_of : ClientUpload → ℤ → Ending
ending_of u moment = record { length = u.sent * u.aim.size + length u.behind; moment = moment }

-- why the last chunk is not inserted
pub data CannotEnd (u : ClientUpload) (documents : List Fields) (e : Error) : Type 0 where
  too_many : 2 ^ 31 < u.sent + 1 → e ≡ plain kind.FileTooLarge → CannotEnd u documents e
  too_large : u.sent + 1 ≤ 2 ^ 31 → CannotStore (chunks_lines u.aim.bucket documents) documents e → CannotEnd u documents e

-- what is left is put into a command as the last chunk
pub data Rests (ids : ℕ → List ℕ) (drawn : ℕ) (moment : ℤ) (u u' : ClientUpload) (r : Stepped) : Type 0 where
  nothing_left : u.behind ≡ [] → drawn ≡ 0 → u' ≡ u → r ≡ goes (ends (ending_of u moment)) → Rests ids drawn moment u u' r
  built : u.behind ≢ [] → u.sent + 1 ≤ 2 ^ 31 → drawn ≡ 1 → (sending : Sending) → IsNewRequest false (chunks_lines u.aim.bucket (chunk_document (ids 0) u.aim.id u.sent u.behind ∷ [])) sending
      → u' ≡ record u { behind = [] } → r ≡ goes (lasts sending (ending_of u moment)) → Rests ids drawn moment u u' r
  not_built : u.behind ≢ [] → drawn ≤ 1 → (e : Error) (left : List ℕ) → FailsBy (CannotEnd u (chunk_document (ids 0) u.aim.id u.sent u.behind ∷ [])) e → u' ≡ record u { behind = left } → r ≡ goes (undoes (Some e)) → Rests ids drawn moment u u' r

abbrev pub HearsLast : Ending → Step Sending (List ℕ) → ClientUpload → ClientUpload → Stepped → Type 0
HearsLast ending (step.Pending sending) u u' r = (u' ≡ u) × (r ≡ waits (lasts sending ending))
HearsLast ending (step.Done reply) u u' r = ReadsInserted 1 reply u u' u (ends ending) r
HearsLast ending (step.Failed e) u u' r = Undoes e u u' r

-- ---- the record

pub data Ends (ending : Ending) (u u' : ClientUpload) (r : Stepped) : Type 0 where
  built : (sending : Sending) → IsNewRequest false (record_lines u.aim.bucket (record_of u.aim ending)) sending → u' ≡ u → r ≡ goes (records sending ending) → Ends ending u u' r
  not_built : (e : Error) → FailsBy (CannotStore (record_lines u.aim.bucket (record_of u.aim ending)) (record_of u.aim ending ∷ [])) e → u' ≡ u → r ≡ goes (undoes (Some e)) → Ends ending u u' r

-- what the reply to the insert of the record says
pub data ReadsRecorded (reply : List ℕ) (u u' : ClientUpload) (r : Stepped) : Type 0 where
  inserted : (n : ℕ) → Inserted 1 (fields reply) n → u' ≡ u → r ≡ done → ReadsRecorded reply u u' r
  not_inserted : (e : Error) → FailsBy (NotInserted 1 (fields reply)) e → Undoes e u u' r → ReadsRecorded reply u u' r

abbrev pub HearsRecord : Ending → Step Sending (List ℕ) → ClientUpload → ClientUpload → Stepped → Type 0
HearsRecord ending (step.Pending sending) u u' r = (u' ≡ u) × (r ≡ waits (records sending ending))
HearsRecord ending (step.Done reply) u u' r = ReadsRecorded reply u u' r
HearsRecord ending (step.Failed e) u u' r = Undoes e u u' r

-- ---- giving up

-- what a request on its way comes to: it waits still, or has ended, whatever came of it
pub data LandsFlight (old new : Awaited) (log log' : LogTold) (wire : ℤ) (flight : Flight) (left : Option Flight) : Type 0 where
  of_check : (c : ClientCheck) → flight ≡ by_check c → (t : Option ClientCheck) → LandsCheck old new log log' wire c t → left ≡ option_map by_check t → LandsFlight old new log log' wire flight left
  of_command : (sending : Sending) → flight ≡ by_command sending → (came : Step Sending (List ℕ)) → Runs old new log log' wire sending came → left ≡ option_map by_command (still_of came) → LandsFlight old new log log' wire flight left

abbrev pub LandedAs : Option Error → Option Flight → ClientUpload → ClientUpload → Stepped → Type 0
LandedAs error (Some flight) u u' r = (u' ≡ u) × (r ≡ waits (lands flight error))
LandedAs error None u u' r = (u' ≡ u) × (r ≡ goes (undoes error))

-- an error that stands in a place of its own, where there is one
abbrev pub held_error : Held-GridFsErrorKind-AbortError-0 → Option Error
held_error None' = None
held_error (Some' box what labels wire_version) = Some (record { kind = what; labels = labels; wire_version = wire_version })

-- the error holds both: what the upload failed with, nothing where it was aborted, and why its chunks were not removed
abbrev pub IsAbortOf : Option Error → Error → ErrorKind → Type 0
IsAbortOf original d (kind.GridFs (grid.AbortError' held box what labels wire_version)) = (held_error held ≡ original) × (record { kind = what; labels = labels; wire_version = wire_version } ≡ d)
IsAbortOf original d _ = ⊥

pub record IsAbortError (original : Option Error) (d e : Error) : Type 0 where
  pub holds : IsAbortOf original d e.kind
  pub says_no_more : e ≡ plain e.kind

-- what is answered where the chunks were not removed: want of memory alone, and else both errors
pub data FailsToUndo (original : Option Error) (d e : Error) : Type 0 where
  no_memory : d.kind ≡ kind.OutOfMemory → e ≡ d → FailsToUndo original d e
  holds_both : d.kind ≢ kind.OutOfMemory → FailsBy (IsAbortError original d) e → FailsToUndo original d e

pub data Removes (original : Option Error) (u u' : ClientUpload) (r : Stepped) : Type 0 where
  built : (sending : Sending) → IsNewRequest false (deletion_lines u.aim.bucket u.aim.id) sending → u' ≡ u → r ≡ goes (removes sending original) → Removes original u u' r
  not_built : (d e : Error) → FailsBy (CannotSend (deletion_lines u.aim.bucket u.aim.id)) d → FailsToUndo original d e → u' ≡ u → r ≡ failed e → Removes original u u' r

-- once the chunks are removed the first error is answered; an abort is done
abbrev pub undone_by : Option Error → Stepped
undone_by None = done
undone_by (Some e) = failed e

pub data ReadsRemoval (original : Option Error) (reply : List ℕ) (u u' : ClientUpload) (r : Stepped) : Type 0 where
  removed : (n : ℕ) → Wrote (count_of (fields reply)) (fields reply) n → u' ≡ u → r ≡ undone_by original → ReadsRemoval original reply u u' r
  not_removed : (d e : Error) → FailsBy (FailedAs (count_of (fields reply)) (fields reply)) d → FailsToUndo original d e → u' ≡ u → r ≡ failed e → ReadsRemoval original reply u u' r

abbrev pub HearsRemoval : Option Error → Step Sending (List ℕ) → ClientUpload → ClientUpload → Stepped → Type 0
HearsRemoval original (step.Pending sending) u u' r = (u' ≡ u) × (r ≡ waits (removes sending original))
HearsRemoval original (step.Done reply) u u' r = ReadsRemoval original reply u u' r
HearsRemoval original (step.Failed d) u u' r = (e : Error) × FailsToUndo original d e × (u' ≡ u) × (r ≡ failed e)

-- ---- a step

-- What a step does, by how far the call has come. So many ids were drawn in it.
pub data DoesStep (old new : Awaited) (log log' : LogTold) (wire : ℤ) (ids : ℕ → List ℕ) (drawn : ℕ) (u u' : ClientUpload) (p : Phase) (r : Stepped) : Type 0 where
  begins_check : p ≡ begins → SendsNothing old new log log' → drawn ≡ 0 → BeginsCheck u u' r → DoesStep old new log log' wire ids drawn u u' p r
  checks_on : (c : ClientCheck) → p ≡ checks c → drawn ≡ 0 → (t : CheckTurned) → ChecksOn old new log log' wire u.aim.bucket c t → CheckLeads t u u' r → DoesStep old new log log' wire ids drawn u u' p r
  -- less than a chunk is left: the write is done
  is_short : p ≡ fills → SendsNothing old new log log' → drawn ≡ 0 → IsShort u → u' ≡ u → r ≡ done → DoesStep old new log log' wire ids drawn u u' p r
  fills_next : p ≡ fills → SendsNothing old new log log' → u.aim.size ≤ length u.behind → Fills ids drawn u u' r → DoesStep old new log log' wire ids drawn u u' p r
  inserts_on : (sending : Sending) (count : ℕ) → p ≡ inserts sending count → drawn ≡ 0 → (came : Step Sending (List ℕ)) → Runs old new log log' wire sending came → HearsChunks count came u u' r → DoesStep old new log log' wire ids drawn u u' p r
  rests_next : (moment : ℤ) → p ≡ rests moment → SendsNothing old new log log' → Rests ids drawn moment u u' r → DoesStep old new log log' wire ids drawn u u' p r
  inserts_last : (sending : Sending) (ending : Ending) → p ≡ lasts sending ending → drawn ≡ 0 → (came : Step Sending (List ℕ)) → Runs old new log log' wire sending came → HearsLast ending came u u' r → DoesStep old new log log' wire ids drawn u u' p r
  ends_next : (ending : Ending) → p ≡ ends ending → SendsNothing old new log log' → drawn ≡ 0 → Ends ending u u' r → DoesStep old new log log' wire ids drawn u u' p r
  records_on : (sending : Sending) (ending : Ending) → p ≡ records sending ending → drawn ≡ 0 → (came : Step Sending (List ℕ)) → Runs old new log log' wire sending came → HearsRecord ending came u u' r → DoesStep old new log log' wire ids drawn u u' p r
  lands_on : (flight : Flight) (error : Option Error) → p ≡ lands flight error → drawn ≡ 0 → (left : Option Flight) → LandsFlight old new log log' wire flight left → LandedAs error left u u' r → DoesStep old new log log' wire ids drawn u u' p r
  undoes_next : (error : Option Error) → p ≡ undoes error → SendsNothing old new log log' → drawn ≡ 0 → Removes error u u' r → DoesStep old new log log' wire ids drawn u u' p r
  removes_on : (sending : Sending) (error : Option Error) → p ≡ removes sending error → drawn ≡ 0 → (came : Step Sending (List ℕ)) → Runs old new log log' wire sending came → HearsRemoval error came u u' r → DoesStep old new log log' wire ids drawn u u' p r

-- ---- steps of a poll

-- a poll ends with this step
abbrev pub IsLastStep : Stepped → Type 0
IsLastStep (goes phase) = ⊥
IsLastStep (waits phase) = Unit {0}
IsLastStep done = Unit {0}
IsLastStep (failed e) = Unit {0}

-- the ids that a source gives behind so many
abbrev pub ids_behind : ℕ → (ℕ → List ℕ) → ℕ → List ℕ
ids_behind n ids k = ids (n + k)

-- So many steps, behind each of which the poll goes on, and a last one; and so many ids drawn in all.
unfoldable pub DoesSteps : ℕ → Awaited → Awaited → LogTold → LogTold → ℤ → (ℕ → List ℕ) → ℕ → ClientUpload → ClientUpload → Phase → Stepped → Type 0
DoesSteps zero old new log log' wire ids drawn u u' p r = DoesStep old new log log' wire ids drawn u u' p r × IsLastStep r
DoesSteps (suc n) old new log log' wire ids drawn u u' p r = (between : Awaited) × (log_between : LogTold) × (first later : ℕ) × (v : ClientUpload) × (q : Phase)
    × DoesStep old between log log_between wire ids first u v p (goes q) × (drawn ≡ first + later)
    × DoesSteps n between new log_between log' wire (ids_behind first ids) later v u' q r
