-- The replies of the store, as it writes them.
use Rattle.std.specs.Prelude.{◌≡◌, ℕ, ℤ, pos, List, length, Bool, true, false, ◌&&◌, Option, Some, None, nat_le}
use Rattle.mg_bson.specs.Tree.{array, document, int32, Fields, field, Items, no_items}
use Rattle.mg_bson.specs.Bytes.{bytes, levels}
use Rattle.mg_bson.specs.Raw.{fields}
use Rattle.mg_bson.specs.Literal.{◌⇒◌⨾◌, empty}
use Rattle.mg_link.specs.Namespace.{Space}
use Rattle.mg_server.specs.Rules.{cursor_fields, max_reply}

-- a reply is no larger and no deeper than one may be
abbrev pub fits : Fields → Bool
fits d = nat_le (length (bytes d)) max_reply && nat_le (levels d) 100

-- a reply that fits is written
pub record IsWritten (d : Fields) (written : List ℕ) : Type 0 where
  pub these : written ≡ bytes d
  pub read_back : fields written ≡ d
  pub fitting : fits d ≡ true

-- the bytes of a reply, or none where it does not fit
abbrev pub Written : Fields → Option (List ℕ) → Type 0
Written d (Some written) = IsWritten d written
Written d None = fits d ≡ false

-- the reply to a query, or to its getMore
abbrev pub found_with : ℤ → Space → List ℕ → Items → Fields
found_with id sp batch documents = "cursor" ⇒ document (cursor_fields id sp (field batch (array documents) empty)) ⨾ "ok" ⇒ int32 (pos 1) ⨾ empty

-- the reply to a killCursors
abbrev pub killed_with : Items → Items → Fields
killed_with killed not_found = "cursorsKilled" ⇒ array killed ⨾ "cursorsNotFound" ⇒ array not_found
    ⨾ "cursorsAlive" ⇒ array no_items ⨾ "cursorsUnknown" ⇒ array no_items ⨾ "ok" ⇒ int32 (pos 1) ⨾ empty
