-- What no job says of a server that keeps the grammar of its replies.
use Rattle.std.specs.Prelude.{◌≡◌, ◌⊎◌, ℕ, List, Some, slice_get}
use Rattle.mg_server.specs.History.{IsLegal, Step}
use Rattle.mg_link.specs.Link.{LogTold}
use Rattle.mg_link.specs.Log.{Call}
use Rattle.mg_server.specs.Standing.{Stands}
use Rattle.mg_link.specs.declared.error.Error.{Error}
use Rattle.mg_link.specs.declared.error.ErrorKind.{ErrorKind}
use Rattle.mg_link.specs.declared.error.ErrorKind.TheVariants as kind
use Rattle.mg_link.specs.declared.error.GridFsErrorKind.{None', Some'}
use Rattle.mg_link.specs.declared.error.GridFsErrorKind.TheVariants as grid
use Rattle.mg_script.specs.declared.outcome.Answer.{Answer}
use Rattle.mg_script.specs.declared.outcome.Answer.TheVariants as answers
use Rattle.mg_script.specs.declared.outcome.Ended.{Ended}
use Rattle.mg_script.specs.declared.outcome.Ended.TheVariants as ended
use Rattle.mg_script.specs.declared.outcome.Outcome.{Outcome}
use Rattle.mg_script.specs.declared.outcome.Outcome.TheVariants as outcome

-- ---- what an error says

-- received bytes are no document
abbrev pub SaysNoDocument : ErrorKind → Type 0
SaysNoDocument kind.BsonDeserialization = Unit {0}
SaysNoDocument _ = ⊥

-- Received bytes are no document, or a document that was received breaks its grammar; so says an error too that holds one which says so.
abbrev pub SaysGarbled : ErrorKind → Type 0
SaysGarbled kind.BsonDeserialization = Unit {0}
SaysGarbled (kind.InvalidResponse how) = Unit {0}
SaysGarbled (kind.GridFs (grid.AbortError' None' box second labels wire_version)) = SaysGarbled second
SaysGarbled (kind.GridFs (grid.AbortError' (Some' place first its_labels its_wire_version) box second labels wire_version)) = SaysGarbled first ⊎ SaysGarbled second
SaysGarbled _ = ⊥

-- ---- what is never said

-- there is no legal history in which the log stands where an error says so
abbrev pub NeverSaid : List Call → (ErrorKind → Type 0) → Error → Type 0
NeverSaid calls Says e = (history : List Step) → IsLegal history → Stands calls history → Says e.kind → ⊥

-- nor the error with which it failed
abbrev pub NeverEnds : {A : Type 0} → List Call → (ErrorKind → Type 0) → Ended A → Type 0
NeverEnds calls Says ended.Unfinished = Unit {0}
NeverEnds calls Says (ended.Gave x) = Unit {0}
NeverEnds calls Says (ended.Failed e) = NeverSaid calls Says e

-- nor the error of one of these answers
abbrev pub NeverAnswers : List Call → (ErrorKind → Type 0) → List Answer → Type 0
NeverAnswers calls Says said = (k : ℕ) (e : Error) → slice_get said k ≡ Some (answers.Failed e) → NeverSaid calls Says e

-- In no legal history in which the log stands does an answer of a follow, its opening and its closing among them, or the failure of an insert or of a put say that a
-- reply is no document or breaks its grammar; nor does the failure of a get say that one is no document.
abbrev pub NeverGarbled : List Call → Outcome → Type 0
NeverGarbled calls (outcome.Follow opened said token alive closed) = NeverEnds calls SaysGarbled opened × NeverAnswers calls SaysGarbled said.items × NeverEnds calls SaysGarbled closed
NeverGarbled calls (outcome.Insert end) = NeverEnds calls SaysGarbled end
NeverGarbled calls (outcome.Put end) = NeverEnds calls SaysGarbled end
NeverGarbled calls (outcome.Get bytes end) = NeverEnds calls SaysNoDocument end

-- Over a link that tells its log, so it is of each outcome.
abbrev pub AllNeverGarbled : LogTold → LogTold → List Outcome → Type 0
AllNeverGarbled log log' outcomes = (calls : List Call) → log ≡ Some calls → (calls' : List Call) × (log' ≡ Some calls') × ((i : ℕ) (r : Outcome) → slice_get outcomes i ≡ Some r → NeverGarbled calls' r)
