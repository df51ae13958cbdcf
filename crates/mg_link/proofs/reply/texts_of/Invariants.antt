use Rattle.std.proofs.Common.{◌≡◌, ◌++◌, map, string_bytes}
use Rattle.mg_bson.specs.Raw.{items, items_left}
use Rattle.mg_bson.specs.Find.{items_length}
use Rattle.mg_link.specs.Reply.{texts_of}
use Rattle.mg_link.proofs.reply.texts_of.Given as goal

abbrev pub invariant-items : goal.invariant-items
invariant-items l = map string_bytes l.texts.items ++ texts_of (items_left l.left) ≡ texts_of (items l.list)

abbrev pub decreases-items : goal.decreases-items
decreases-items l = items_length (items_left l.left)
