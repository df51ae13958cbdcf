-- What the gets of a run blame, of files that its puts write.
use Rattle.std.specs.Prelude.{◌≡◌, ℕ, List, Some, slice_get}
use Rattle.mg_bson.specs.Tree.{Tree}
use Rattle.mg_link.specs.Link.{LogTold}
use Rattle.mg_link.specs.Log.{Call}
use Rattle.mg_players.specs.Behind.{BlamesBehind}
use Rattle.mg_players.specs.Causes.{Course, course}
use Rattle.mg_players.specs.Files.{BlamesChunk}
use Rattle.mg_players.specs.Kinds.{OfGet}
use Rattle.mg_players.specs.Puts.{PutTask, put_of}
use Rattle.mg_script.specs.Plan.{Task, get, put}
use Rattle.mg_script.specs.declared.outcome.Ended.{Ended}
use Rattle.mg_script.specs.declared.outcome.Ended.TheVariants as ended
use Rattle.mg_script.specs.declared.outcome.Outcome.{Outcome}
use Rattle.mg_turns.specs.declared.turned.Turned.{Turned}

-- a get that fails by a chunk of the file that job j puts listed the chunks behind their removal
abbrev pub GetBehind : {A : Type 0} → Course → (j i : ℕ) → List Call → PutTask → Ended A → Type 0
GetBehind c j i calls t ended.Unfinished = Unit {0}
GetBehind c j i calls t (ended.Gave x) = Unit {0}
GetBehind c j i calls t (ended.Failed e) = BlamesChunk e.kind → BlamesBehind c j i calls t e

-- so did each get of a file that another job puts
abbrev pub GetsBehind : Course → List Call → List Task → List Outcome → Type 0
GetsBehind c calls tasks outcomes = (j i : ℕ) (db bucket name : List ℕ) (id : Tree) (chunk : ℕ) (pieces : List (List ℕ)) (read : ℕ) (r : Outcome) → slice_get tasks j ≡ Some (put db bucket name id chunk pieces) → slice_get tasks i ≡ Some (get db bucket id read) → slice_get outcomes i ≡ Some r
    → OfGet (λ bytes end. GetBehind c j i calls (put_of db bucket name id chunk pieces) end) r

-- Over a link that tells its log, so did each get of a run.
abbrev pub AllBehind : LogTold → LogTold → List Task → List ℕ → List Turned → List Outcome → Type 0
AllBehind log log' tasks order notes outcomes = (calls : List Call) → log ≡ Some calls → (calls' : List Call) × (log' ≡ Some calls') × GetsBehind (course calls order notes) calls' tasks outcomes
