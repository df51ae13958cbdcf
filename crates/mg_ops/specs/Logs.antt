-- The commands of a log.
use Rattle.std.specs.Prelude.{◌≡◌, ◌++◌, List, map, Some}
use Rattle.mg_bson.specs.Tree.{Fields}
use Rattle.mg_bson.specs.Raw.{fields}
use Rattle.mg_link.specs.Link.{LogTold}
use Rattle.mg_link.specs.Log.{Call}

-- the commands of a log, in their order
abbrev pub commands_sent : List Call → List Fields
commands_sent calls = map (λ (c : Call). fields c.command) calls

-- these commands, and no others, were added to a log that is told
abbrev pub AddsJust : LogTold → LogTold → List Fields → Type 0
AddsJust log log' commands = (calls : List Call) → log ≡ Some calls → (calls' : List Call) × (log' ≡ Some calls') × (commands_sent calls' ≡ commands_sent calls ++ commands)
