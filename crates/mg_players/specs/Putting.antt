-- What getting ready, opening and a turn do to a put.
use Rattle.std.specs.Prelude.{◌≡◌, ◌<◌, ℕ, ℤ, List, Result, Ok, Err}
use Rattle.mg_link.specs.Acts.{Tickets}
use Rattle.mg_link.specs.Errors.{plain}
use Rattle.mg_link.specs.Link.{Awaited, LogTold}
use Rattle.mg_link.specs.declared.error.Error.{Error}
use Rattle.mg_link.specs.declared.error.ErrorKind.TheVariants as kind
use Rattle.mg_gridfs.specs.Uploads.{fresh_upload}
use Rattle.mg_gridfs.specs.UploadView.{IsUpload, upload_of}
use Rattle.mg_players.specs.Headline.{PutPlays, put_task}
use Rattle.mg_players.specs.Kept.{ids_left}
use Rattle.mg_players.specs.Plays.{SentAt, TurnTells, Turns, no_move}
use Rattle.mg_players.specs.Puts.{CannotOpen, NamesFiles, PutHasIds, PutHolds, PutTask, chunks_in, put_aim, put_ticket, total}
use Rattle.mg_players.specs.Telling.{PutSays, put_number}
use Rattle.mg_players.specs.declared.put.Beginning.{Beginning}
use Rattle.mg_players.specs.declared.put.PutPlayer.{PutPlayer}
use Rattle.mg_players.specs.declared.put.PutStage.{PutStage}
use Rattle.mg_players.specs.declared.put.PutStage.TheVariants as puts
use Rattle.mg_script.specs.declared.outcome.Ended.{Ended}
use Rattle.mg_script.specs.declared.outcome.Ended.TheVariants as ended

-- it failed with such an error
abbrev pub HasFailed : {A : Type 0} → (Error → Type 0) → Ended A → Type 0
HasFailed by ended.Unfinished = ⊥
HasFailed by (ended.Gave x) = ⊥
HasFailed by (ended.Failed e) = by e

-- it has the next ids of a source that gave these, one for each of its chunks, and knows its length; or memory ran out
abbrev pub Drew : (ℕ → List ℕ) → PutTask → Result Beginning Error → Type 0
Drew ids t (Ok begun) = (begun.length ≡ total t.pieces) × ((k : ℕ) → k < chunks_in t.chunk t.pieces → ids_left begun.ids k ≡ ids k)
Drew ids t (Err e) = e ≡ plain kind.OutOfMemory

abbrev pub HasDrawn : (ℕ → List ℕ) → PutTask → PutStage → Type 0
HasDrawn ids t puts.Undrawn = ⊥
HasDrawn ids t (puts.Begins begun) = Drew ids t begun
HasDrawn ids t (puts.Goes going) = ⊥
HasDrawn ids t (puts.Ended end) = ⊥

-- a put that had no ids drew them; any other is as it was
abbrev pub DrewFor : (ℕ → List ℕ) → PutTask → PutStage → PutStage → Type 0
DrewFor ids t puts.Undrawn stage' = HasDrawn ids t stage'
DrewFor ids t (puts.Begins begun) stage' = stage' ≡ puts.Begins begun
DrewFor ids t (puts.Goes going) stage' = stage' ≡ puts.Goes going
DrewFor ids t (puts.Ended end) stage' = stage' ≡ puts.Ended end

-- its upload is open, whose names may be and which has taken nothing, and its ids are those that were drawn; or it was not opened
abbrev pub Opens : PutTask → Beginning → PutStage → Type 0
Opens t begun puts.Undrawn = ⊥
Opens t begun (puts.Begins other) = ⊥
Opens t begun (puts.Goes going) = NamesFiles t × (upload_of going.upload ≡ fresh_upload (put_aim t)) × IsUpload going.upload × (going.length ≡ begun.length) × ((k : ℕ) → ids_left going.ids k ≡ ids_left begun.ids k)
Opens t begun (puts.Ended end) = HasFailed (CannotOpen t) end

-- so it opens, where there was a place for its ids
abbrev pub OpensFrom : PutTask → Result Beginning Error → PutStage → Type 0
OpensFrom t (Ok begun) stage' = Opens t begun stage'
OpensFrom t (Err e) stage' = stage' ≡ puts.Ended (ended.Failed e)

-- a turn of a put whose upload is open, at this moment
pub record PutTurns (old new : Awaited) (log log' : LogTold) (wire : ℤ) (moment : ℤ) (p p' : PutPlayer) : Type 0 where
  pub same : p'.what ≡ p.what
  pub tickets : Tickets old new (put_ticket p) (put_ticket p')
  pub holds : PutHolds p'
  pub has : PutHasIds p'.stage
  pub turned : Turns PutPlays old new log log' p p' no_move
  pub told : TurnTells put_task PutPlays PutSays (λ p. put_number p.done p.stage) (SentAt moment) old new log log' wire p p' no_move
