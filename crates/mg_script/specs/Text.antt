-- The text that a run prints.
use Rattle.std.specs.Prelude.{ℕ, suc, ℤ, List, [], ◌∷◌, ◌++◌, length, map, sum, Bool, Option, Some, None, ⊤, codes, decimal, if◌then◌else◌}
use Rattle.std.specs.Fmt.{signed_decimal}
use Rattle.hex.specs.Hex.{encode_lower}
use Rattle.mg_bson.specs.Tree.{Tree, document}
use Rattle.mg_bson.specs.Raw.{fields}
use Rattle.mg_link.specs.declared.error.Error.{Error}
use Rattle.mg_link.specs.declared.error.ErrorKind.{ErrorKind}
use Rattle.mg_link.specs.declared.error.ErrorKind.TheVariants as kinds
use Rattle.mg_link.specs.declared.error.GridFsErrorKind.{GridFsErrorKind}
use Rattle.mg_link.specs.declared.error.GridFsErrorKind.TheVariants as files
use Rattle.mg_link.specs.declared.error.IndexedFailure.{IndexedFailure}
use Rattle.mg_link.specs.Log.{Call}
use Rattle.mg_json.specs.Json.{value_text}
use Rattle.mg_script.specs.declared.outcome.Ended.{Ended}
use Rattle.mg_script.specs.declared.outcome.Ended.TheVariants as ended
use Rattle.mg_script.specs.declared.outcome.Answer.{Answer}
use Rattle.mg_script.specs.declared.outcome.Answer.TheVariants as answers
use Rattle.mg_script.specs.declared.outcome.Outcome.{Outcome}
use Rattle.mg_script.specs.declared.outcome.Outcome.TheVariants as outcomes
use Rattle.mg_script.specs.declared.outcome.Run.{Run}

abbrev pub line : List ℕ → List ℕ
line text = text ++ 10 ∷ []

-- ---- errors

-- a word and a code
abbrev pub coded : List ℕ → ℤ → List ℕ
coded word code = word ++ (codes " " ++ signed_decimal code)

-- the code of the first failure of an insert
abbrev pub failures_text : List IndexedFailure → List ℕ
failures_text [] = codes "E5"
failures_text (f ∷ fs) = coded (codes "E5") f.code

-- the letter of a file's error, and the revision or the chunk that it names
abbrev pub file_text : GridFsErrorKind → List ℕ
file_text (files.FileNotFound id) = codes "E11a"
file_text (files.RevisionNotFound revision) = coded (codes "E11b") revision
file_text (files.MissingChunk n) = codes "E11c " ++ decimal n
file_text (files.WrongSizeChunk n actual expected) = codes "E11d " ++ decimal n
file_text files.UploadStreamClosed = codes "E11e"
file_text files.WriteInProgress = codes "E11f"
file_text (files.AbortError' original box kind labels wire_version) = codes "E11g"

-- the word of an error, and the code where a server gave one
abbrev pub kind_text : ErrorKind → List ℕ
kind_text kinds.OutOfMemory = codes "E1"
kind_text kinds.Io = codes "E2"
kind_text (kinds.Command refusal) = coded (codes "E3") refusal.code
kind_text (kinds.Write failure) = coded (codes "E4") failure.code
kind_text (kinds.InsertMany failures) = failures_text failures.items
kind_text (kinds.InvalidResponse how) = codes "E6"
kind_text kinds.BsonDeserialization = codes "E7"
kind_text kinds.BsonSerialization = codes "E8"
kind_text kinds.MissingResumeToken = codes "E9"
kind_text (kinds.InvalidArgument argument) = codes "E10"
kind_text (kinds.GridFs kind) = file_text kind
kind_text kinds.FileTooLarge = codes "E12"
kind_text kinds.EmptyBatches = codes "E13"
kind_text kinds.TooManyDocuments = codes "E14"
kind_text (kinds.NoSuchJob n) = codes "E15"
kind_text (kinds.ReceiptMismatch mismatch) = codes "E16"

abbrev pub error_text : Error → List ℕ
error_text e = kind_text e.kind

-- ---- the lines of an insert, a put and a get

-- what a job came to that gives a number
abbrev pub count_text : Ended ℕ → List ℕ
count_text ended.Unfinished = codes "unfinished"
count_text (ended.Gave n) = codes "ok " ++ decimal n
count_text (ended.Failed e) = error_text e

-- bytes as hexadecimal digits in lower case, or `-` where there are none
abbrev pub bytes_text : List ℕ → List ℕ
bytes_text [] = codes "-"
bytes_text (b ∷ bs) = encode_lower (b ∷ bs)

-- what a job came to that gives nothing
abbrev pub ended_text : Ended ⊤ → List ℕ
ended_text ended.Unfinished = codes "unfinished"
ended_text (ended.Gave n) = codes "ok"
ended_text (ended.Failed e) = error_text e

-- what a get came to, and the bytes so far
abbrev pub get_line : ℕ → List ℕ → Ended ⊤ → List ℕ
get_line job bytes e = line (codes "job " ++ decimal job ++ codes " get " ++ ended_text e ++ codes " " ++ bytes_text bytes)

-- ---- the lines of a follow

abbrev pub token_text : Option Tree → List ℕ
token_text None = codes "none"
token_text (Some t) = value_text t

abbrev pub alive_text : Bool → List ℕ
alive_text alive = if alive then codes "yes" else codes "no"

abbrev pub closed_text : Ended ⊤ → List ℕ
closed_text ended.Unfinished = codes " follow unfinished"
closed_text (ended.Gave n) = codes " follow done"
closed_text (ended.Failed e) = codes " follow close failed " ++ error_text e

-- an event is printed as the document that its bytes are
abbrev pub answer_text : Answer → List ℕ
answer_text (answers.Event bytes) = codes " event " ++ value_text (document (fields bytes))
answer_text answers.Nothing = codes " nothing"
answer_text (answers.Failed e) = codes " " ++ error_text e

abbrev pub answer_line : ℕ → ℕ → Answer → List ℕ
answer_line job call a = line (codes "job " ++ decimal job ++ codes " call " ++ decimal call ++ answer_text a)

-- the lines of answers, numbered from call
unfoldable pub answers_text : ℕ → ℕ → List Answer → List ℕ
answers_text job call [] = []
answers_text job call (a ∷ more) = answer_line job call a ++ answers_text job (suc call) more

-- the token and whether the stream lives, after the last answered call
abbrev pub token_line : ℕ → Option Tree → Bool → List ℕ
token_line job token alive = line (codes "job " ++ decimal job ++ codes " token " ++ token_text token ++ codes " alive " ++ alive_text alive)

abbrev pub closed_line : ℕ → Ended ⊤ → List ℕ
closed_line job closed = line (codes "job " ++ decimal job ++ closed_text closed)

abbrev pub opened_text : ℕ → List Answer → Option Tree → Bool → Ended ⊤ → List ℕ
opened_text job given token alive closed = line (codes "job " ++ decimal job ++ codes " follow opened") ++ answers_text job 0 given
    ++ token_line job token alive ++ closed_line job closed

abbrev pub follow_text : ℕ → Ended ⊤ → List Answer → Option Tree → Bool → Ended ⊤ → List ℕ
follow_text job ended.Unfinished given token alive closed = line (codes "job " ++ decimal job ++ codes " follow unopened")
follow_text job (ended.Failed e) given token alive closed = line (codes "job " ++ decimal job ++ codes " follow failed " ++ error_text e)
follow_text job (ended.Gave n) given token alive closed = opened_text job given token alive closed

-- ---- the whole

abbrev pub outcome_text : ℕ → Outcome → List ℕ
outcome_text job (outcomes.Insert e) = line (codes "job " ++ decimal job ++ codes " insert " ++ count_text e)
outcome_text job (outcomes.Put e) = line (codes "job " ++ decimal job ++ codes " put " ++ count_text e)
outcome_text job (outcomes.Get bytes e) = get_line job bytes.items e
outcome_text job (outcomes.Follow opened given token alive closed) = follow_text job opened given.items token alive closed

-- the lines of jobs, numbered from job
unfoldable pub outcomes_text : ℕ → List Outcome → List ℕ
outcomes_text job [] = []
outcomes_text job (o ∷ os) = outcome_text job o ++ outcomes_text (suc job) os

-- the numbers, each behind a space
unfoldable pub spaced : List ℤ → List ℕ
spaced [] = []
spaced (n ∷ ns) = 32 ∷ signed_decimal n ++ spaced ns

abbrev pub open_text : List ℤ → List ℕ
open_text [] = codes " none"
open_text (n ∷ ns) = spaced (n ∷ ns)

-- the ids of the cursors that are left open
abbrev pub open_line : List ℤ → List ℕ
open_line ns = line (codes "open" ++ open_text ns)

-- how many commands were started on all links
unfoldable pub commands_of : List (List Call) → ℕ
commands_of logs = sum (map length logs)

abbrev pub text_of : Run → List ℕ
text_of run = outcomes_text 0 run.outcomes.items ++ open_line run.store.open_ids ++ line (codes "commands " ++ decimal (commands_of run.logs.items))
