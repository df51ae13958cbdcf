-- The connection that a cursor is bound to.
use Rattle.std.specs.Prelude.{Bool, true, false}
use Rattle.mg_link.specs.declared.pinned.PinnedConnection.{PinnedConnection}
use Rattle.mg_link.specs.declared.pinned.PinnedConnection.TheVariants as pinned

abbrev pub is_invalid : PinnedConnection → Bool
is_invalid (pinned.Valid id) = false
is_invalid (pinned.Invalid id) = true
is_invalid pinned.Unpinned = false

-- once its connection is lost
abbrev pub invalidated : PinnedConnection → PinnedConnection
invalidated (pinned.Valid id) = pinned.Invalid id
invalidated (pinned.Invalid id) = pinned.Invalid id
invalidated pinned.Unpinned = pinned.Unpinned
