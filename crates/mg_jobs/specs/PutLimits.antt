-- What a put has to store and to send, and which puts are valid.
use Rattle.std.specs.Prelude.{◌≡◌, ◌⊎◌, ◌<◌, ◌≤◌, ◌*◌, ◌^◌, Contains, ℕ, ℤ, List, length, take, Some, slice_get}
use Rattle.mg_server.specs.History.{Step, state_of}
use Rattle.mg_link.specs.Namespace.{Space}
use Rattle.mg_server.specs.State.{indexes_of}
use Rattle.mg_link.specs.declared.error.Error.{Error}
use Rattle.mg_link.specs.declared.error.ErrorKind.TheVariants as kind
use Rattle.mg_options.specs.Fields.{Line}
use Rattle.mg_ops.specs.Cursors.{next_command}
use Rattle.mg_ops.specs.Failing.{CannotBeSent}
use Rattle.mg_gridfs.specs.Causes.{IsOfCheck}
use Rattle.mg_gridfs.specs.Commands.{CannotSend, deletion_lines}
use Rattle.mg_gridfs.specs.Indexes.{space_in}
use Rattle.mg_gridfs.specs.Steps.{FailsToUndo}
use Rattle.mg_gridfs.specs.declared.indexes.Place.{Place}
use Rattle.mg_jobs.specs.Own.{IsOwnCursor}
use Rattle.mg_players.specs.PutFailures.{IsPutError, NotBuilt}
use Rattle.mg_players.specs.Puts.{NamesFiles, PutTask, put_aim, put_bucket, total}
use Rattle.mg_players.specs.Gets.{no_manner}

-- ---- what is not built

-- Something that a put, which heard these replies, has to store or to send is not built: its chunks or its record; a command of the check of the indexes, or a
-- getMore of a list of them; or the command that removes the chunks, behind another error.
pub data CannotPut (heard : List ℕ → Type 0) (t : PutTask) (e : Error) : Type 0 where
  of_file : NotBuilt (put_aim t) e → CannotPut heard t e
  in_check : (lines : List Line) → IsOfCheck (put_bucket t) lines → CannotSend lines e → CannotPut heard t e
  a_getMore : (id : ℤ) (space : Space) → IsOwnCursor heard id space → CannotBeSent (next_command id space no_manner) e → CannotPut heard t e
  a_removal : (original d : Error) → IsPutError t original → CannotSend (deletion_lines (put_bucket t) t.id) d → FailsToUndo (Some original) d e → CannotPut heard t e

-- memory ran out, or something of it is not built
abbrev pub IsExcusedPut : (List ℕ → Type 0) → PutTask → Error → Type 0
IsExcusedPut heard t e = (e.kind ≡ kind.OutOfMemory) ⊎ CannotPut heard t e

-- ---- valid puts

-- its collections may have their names, its chunks have a size that goes into a document, and they are fewer than 2^24
pub record IsValidPut (t : PutTask) : Type 0 where
  pub named : NamesFiles t
  pub some : 1 ≤ t.chunk
  pub small : t.chunk ≤ 16000000
  pub few : total t.pieces ≤ 2 ^ 24 * t.chunk

-- as its steps take effect, neither of its collections has more indexes than are looked through, with that of `_id`
abbrev pub HasFewIndexes : List ℕ → List Step → PutTask → Type 0
HasFewIndexes own history t = (position : ℕ) (step : Step) (at : Place) → Contains own position → slice_get history position ≡ Some step → length (indexes_of (state_of (take position history)) (space_in (put_bucket t) at)) < 1048576
