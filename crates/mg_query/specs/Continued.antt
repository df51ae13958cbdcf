-- Which commands are about cursors, and what a refusal ends.
use Rattle.std.specs.Prelude.{ℤ, Bool, true, false, Option, Some, None, codes, is_some, option_and_then, if◌then◌else◌}
use Rattle.std.specs.Str.{bytes_eq}
use Rattle.mg_bson.specs.Tree.{Fields, no_fields, field}
use Rattle.mg_bson.specs.Find.{get}
use Rattle.mg_link.specs.Numbers.{as_integer}
use Rattle.mg_server.specs.Commands.{Asked, asks_kill, asks_more, space_at}

-- the command asks about cursors
abbrev pub is_about_cursors : Asked → Bool
is_about_cursors (asks_more id space) = true
is_about_cursors (asks_kill ids) = true
is_about_cursors command = false

-- the first field is that of a getMore or of a killCursors
abbrev pub is_cursor_command : Fields → Bool
is_cursor_command no_fields = false
is_cursor_command (field k t fs) = if bytes_eq k (codes "getMore") then true else bytes_eq k (codes "killCursors")

-- the cursor that a command goes on with
abbrev pub continued : Asked → Option ℤ
continued (asks_more id space) = Some id
continued command = None

-- the same, read from the fields of the command
abbrev pub continued_by : Fields → Option ℤ
continued_by no_fields = None
continued_by (field k t fs) = if bytes_eq k (codes "getMore")
    then (if is_some (space_at (codes "collection") (field k t fs)) then option_and_then as_integer (get (codes "getMore") (field k t fs)) else None) else None
