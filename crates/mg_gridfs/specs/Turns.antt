-- What the steps of an upload do, for private clauses.
use Rattle.std.specs.Prelude.{◌≡◌, ◌<◌, ◌≤◌, ◌*◌, ◌+◌, ◌-◌, ◌^◌, ℕ, ℤ, false, List, [], ◌∷◌, length, drop, take, Option, None}
use Rattle.mg_link.specs.Exec.{Sending}
use Rattle.mg_link.specs.Link.{Awaited, LogTold}
use Rattle.mg_link.specs.Moment.{Ending, finished, step_ending}
use Rattle.mg_link.specs.declared.action.Step.{Step}
use Rattle.mg_link.specs.declared.action.Step.TheVariants as step
use Rattle.mg_ops.specs.Drawn.{AreLater}
use Rattle.mg_gridfs.specs.Checks.{ClientCheck, creates, finds, indexes, lists, reads}
use Rattle.mg_gridfs.specs.Commands.{IsNewRequest, chunk_document, chunks_lines}
use Rattle.mg_gridfs.specs.Steps.{AreIds, BeginsCheck, DoesStep, DoesSteps, IsPortion, first_chunks, goes}
use Rattle.mg_gridfs.specs.Uploads.{ClientUpload, Phase, begins, checks, ends, error_behind, fills, inserts, lands, lasts, phase_ticket, records, removes, rests, undoes}
use Rattle.mg_gridfs.specs.UploadView.{back_phase, back_stopped, phase_of, stopped_by}
use Rattle.mg_gridfs.specs.declared.indexes.Place.TheVariants as place
use Rattle.mg_gridfs.specs.declared.stage.Back.{Back}
use Rattle.mg_gridfs.specs.declared.stage.Stage.{Stage}
use Rattle.mg_gridfs.specs.declared.stage.Turn.{Turn}
use Rattle.mg_gridfs.specs.declared.stage.Turn.TheVariants as turn
use Rattle.mg_gridfs.specs.declared.steps.Begun.{Begun}
use Rattle.mg_gridfs.specs.declared.steps.Portion.{Portion}
use Rattle.mg_gridfs.specs.declared.steps.Taken.{Taken}

-- ---- tickets and endings

abbrev pub step_ticket : Step Stage (Unit {0}) → Option ℕ
step_ticket (step.Pending s) = phase_ticket (phase_of s)
step_ticket (step.Done t) = None
step_ticket (step.Failed e) = None

abbrev pub back_ticket : Step Back (Unit {0}) → Option ℕ
back_ticket (step.Pending b) = phase_ticket (back_phase b)
back_ticket (step.Done t) = None
back_ticket (step.Failed e) = None

abbrev pub turn_ticket : Turn → Option ℕ
turn_ticket (turn.Goes s) = phase_ticket (phase_of s)
turn_ticket (turn.Stops r) = step_ticket r

abbrev pub turn_ending : Turn → Ending
turn_ending (turn.Goes s) = finished
turn_ending (turn.Stops r) = step_ending r

-- ---- steps

-- the way back to its end, or until a reply pends: it draws no id, and the upload stays as it is
abbrev pub BacksOn : Awaited → Awaited → LogTold → LogTold → ℤ → ClientUpload → Phase → Step Back (Unit {0}) → Type 0
BacksOn old new log log' wire u p r = (ids : ℕ → List ℕ) → (n : ℕ) × DoesSteps n old new log log' wire ids 0 u u p (back_stopped r)

-- A step of the way ahead, with the way back behind it where it fails. The poll goes on only where nothing has failed.
abbrev pub TurnsOn : Awaited → Awaited → LogTold → LogTold → ℤ → (ℕ → List ℕ) → ℕ → ClientUpload → ClientUpload → Phase → Turn → Type 0
TurnsOn old new log log' wire ids drawn u u' p (turn.Goes s) = DoesStep old new log log' wire ids drawn u u' p (goes (phase_of s)) × (error_behind (phase_of s) ≡ None)
TurnsOn old new log log' wire ids drawn u u' p (turn.Stops r) = (n : ℕ) × DoesSteps n old new log log' wire ids drawn u u' p (stopped_by r)

-- all steps of a poll
abbrev pub DrivesOn : Awaited → Awaited → LogTold → LogTold → ℤ → (ℕ → List ℕ) → ℕ → ClientUpload → ClientUpload → Phase → Step Stage (Unit {0}) → Type 0
DrivesOn old new log log' wire ids drawn u u' p r = (n : ℕ) × DoesSteps n old new log log' wire ids drawn u u' p (stopped_by r)

-- the check begins, or its find is not built
abbrev pub BeginsOn : ClientUpload → Turn → Type 0
BeginsOn u (turn.Goes s) = BeginsCheck u u (goes (phase_of s)) × (error_behind (phase_of s) ≡ None)
BeginsOn u (turn.Stops r) = BeginsCheck u u (stopped_by r)

-- ---- parts of commands

-- an upload that differs only in the bytes that stand in no command yet
pub record SameButBytes (u u' : ClientUpload) : Type 0 where
  pub aim : u'.aim ≡ u.aim
  pub checked : u'.checked ≡ u.checked
  pub sent : u'.sent ≡ u.sent
  pub doing : u'.doing ≡ u.doing

-- The document is the next full chunk, whose bytes are taken out, and so many go with it into one command, whose ids have twelve bytes.
pub record BeginsPortion (ids ids' : ℕ → List ℕ) (u u' : ClientUpload) (b : Begun) : Type 0 where
  pub first_is : b.first ≡ chunk_document (ids 0) u.aim.id u.sent (take u.aim.size u.behind)
  pub twelve : length (ids 0) ≡ 12
  pub some : 1 ≤ b.count
  pub within : b.count * u.aim.size ≤ length u.behind
  pub small : u.sent + b.count ≤ 2 ^ 31
  pub portion : AreIds ids b.count → IsPortion u (first_chunks u ids b.count) b.count
  pub left : u'.behind ≡ drop u.aim.size u.behind
  pub drawn : AreLater ids 1 ids'

-- the documents are the next full chunks, as many as one command inserts, and their bytes are taken out
pub record TakesPortion (ids ids' : ℕ → List ℕ) (u u' : ClientUpload) (t : Taken) : Type 0 where
  pub these : t.documents.items ≡ first_chunks u ids t.count
  pub portion : IsPortion u (first_chunks u ids t.count) t.count
  pub small : u.sent + t.count ≤ 2 ^ 31
  pub left : u' ≡ record u { behind = drop (t.count * u.aim.size) u.behind }
  pub drawn : AreLater ids t.count ids'

-- the same, as a command that was not sent yet
pub record BuildsPortion (ids ids' : ℕ → List ℕ) (u u' : ClientUpload) (p : Portion) : Type 0 where
  pub portion : IsPortion u (first_chunks u ids p.count) p.count
  pub small : u.sent + p.count ≤ 2 ^ 31
  pub left : u' ≡ record u { behind = drop (p.count * u.aim.size) u.behind }
  pub drawn : AreLater ids p.count ids'
  pub request : IsNewRequest false (chunks_lines u.aim.bucket (first_chunks u ids p.count)) p.exec

-- what is left is taken out as the last chunk, in a command that was not sent yet
pub record BuildsLast (ids ids' : ℕ → List ℕ) (u u' : ClientUpload) (sending : Sending) : Type 0 where
  pub small : u.sent + 1 ≤ 2 ^ 31
  pub request : IsNewRequest false (chunks_lines u.aim.bucket (chunk_document (ids 0) u.aim.id u.sent u.behind ∷ [])) sending
  pub left : u' ≡ record u { behind = [] }
  pub drawn : AreLater ids 1 ids'

-- ---- how many steps are left at most

-- full chunks come in two steps for each command, and each command holds at least one of them
abbrev pub chunks_left : ClientUpload → ℕ
chunks_left u = length u.behind

-- a list of indexes has no more documents than may be collected
abbrev pub check_rank : ClientCheck → ℕ
check_rank (finds sending) = 2 * 1048590
check_rank (creates place.Files sending) = 1048589 + 1048585
check_rank (lists place.Files sending) = 1048588 + 1048585
check_rank (reads place.Files cursor found count) = 1048578 - count + 1048586
check_rank (indexes place.Files sending) = 1048585
check_rank (creates place.Chunks sending) = 1048584
check_rank (lists place.Chunks sending) = 1048583
check_rank (reads place.Chunks cursor found count) = 1048578 - count + 1
check_rank (indexes place.Chunks sending) = 1

-- the way back is no step of the loop
abbrev pub phase_rank : Phase → ℕ
phase_rank begins = 3 * 1048590
phase_rank (checks check) = 8 + check_rank check
phase_rank fills = 7
phase_rank (inserts sending count) = 8
phase_rank (rests moment) = 6
phase_rank (lasts sending ending) = 5
phase_rank (ends ending) = 4
phase_rank (records sending ending) = 3
phase_rank (lands flight error) = 2
phase_rank (undoes error) = 1
phase_rank (removes sending error) = 0

abbrev pub rank : ClientUpload → Phase → ℕ
rank u p = 2 * chunks_left u + phase_rank p

-- a step with which a poll goes on leaves fewer, and no other error to be answered
abbrev pub TurnFalls : ClientUpload → Phase → ClientUpload → Turn → Type 0
TurnFalls u p u' (turn.Goes s) = (rank u' (phase_of s) < rank u p) × (error_behind (phase_of s) ≡ error_behind p)
TurnFalls u p u' (turn.Stops r) = Unit {0}
