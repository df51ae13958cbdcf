-- What a put knows of its file as the step is taken that inserts the record (GridFS specification, "File Upload": the chunks are stored first, and the record of the files collection last).
use Rattle.std.specs.Prelude.{◌≡◌, ◌⊎◌, ℕ, ℤ, List, [], Some, slice_get, take}
use Rattle.mg_bson.specs.Raw.{fields}
use Rattle.mg_bson.specs.Tree.{Fields}
use Rattle.mg_server.specs.Calls.{IsOwn, Past}
use Rattle.mg_server.specs.Files.{AreChunks, file_of}
use Rattle.mg_server.specs.Filing.{IsOwnStep, OthersLeave, part}
use Rattle.mg_server.specs.History.{IsLegal, Step, state_of}
use Rattle.mg_link.specs.Log.{Call}
use Rattle.mg_server.specs.Standing.{Stands}
use Rattle.mg_server.specs.State.{State}
use Rattle.mg_gridfs.specs.Uploads.{Doing, Phase, begins, busy, checks, closed, ends, fills, idle, inserts, lands, lasts, records, removes, rests, undoes}
use Rattle.mg_players.specs.PutSends.{Around, file_chunks, record_insert}
use Rattle.mg_players.specs.Puts.{NamesFiles, PutTask}

-- ---- the step of the record

-- the step at this position is that of a command of the put that inserts the record of its file
pub record IsRecordStep (past : Past) (t : PutTask) (position : ℕ) : Type 0 where
  pub own : IsOwnStep past position
  pub moment : ℤ
  pub inserts : fields own.call.command ≡ record_insert t moment

-- all chunks of the file are there, and no record of it
abbrev pub HasAllChunks : State → PutTask → Type 0
HasAllChunks s t = (chunks : List Fields) × AreChunks 0 (file_chunks t) chunks × (file_of s t.at t.id ≡ part chunks)

-- In each legal history in which the log stands and nobody else touches the file, so it is as a step of the put inserts the record.
abbrev pub LaysAll : Past → PutTask → Type 0
LaysAll past t = (history : List Step) → IsLegal history → Stands past.calls history → OthersLeave past history t.at t.id → (position : ℕ) → IsRecordStep past t position → HasAllChunks (state_of (take position history)) t

-- ---- while it goes on

-- the command does not insert the record
abbrev pub IsNoRecord : PutTask → Fields → Type 0
IsNoRecord t command = (moment : ℤ) → command ≡ record_insert t moment → ⊥

-- nor does any that the put sent
abbrev pub SendsNoRecord : Past → PutTask → Type 0
SendsNoRecord past t = (place : ℕ) (call : Call) → IsOwn past place → slice_get past.calls place ≡ Some call → IsNoRecord t (fields call.command)

-- by how far a call has come: it has not sent the record, or did so over all chunks; a put gives up no call
abbrev pub PhaseLays : Past → PutTask → Phase → Type 0
PhaseLays past t begins = SendsNoRecord past t
PhaseLays past t (checks check) = SendsNoRecord past t
PhaseLays past t fills = SendsNoRecord past t
PhaseLays past t (inserts sending count) = SendsNoRecord past t
PhaseLays past t (rests moment) = SendsNoRecord past t
PhaseLays past t (lasts sending ending) = SendsNoRecord past t
PhaseLays past t (ends ending) = SendsNoRecord past t
PhaseLays past t (records sending ending) = Around sending.stage (SendsNoRecord past t) (LaysAll past t)
PhaseLays past t (lands flight error) = ⊥
PhaseLays past t (undoes error) = LaysAll past t
PhaseLays past t (removes sending error) = LaysAll past t

abbrev pub DoingLays : Past → PutTask → Doing → Type 0
DoingLays past t idle = SendsNoRecord past t
DoingLays past t (busy call phase) = PhaseLays past t phase
DoingLays past t closed = LaysAll past t

-- ---- at its end

-- it sent nothing, or its collections have names and it sent the record over all chunks only
abbrev pub EndLays : Past → PutTask → Type 0
EndLays past t = (past.places ≡ []) ⊎ (NamesFiles t × LaysAll past t)
