-- The batch of a reply, as it lies there (find, getMore and killCursors specification: the first batch of a cursor is `firstBatch`, each later one `nextBatch`).
use Rattle.std.specs.Prelude.{◌≡◌, ◌≢◌, ℕ, List, Option, Some, None, option_and_then, Ok, Err, codes}
use Rattle.mg_bson.specs.Find.{as_document, get}
use Rattle.mg_bson.specs.Raw.{fields}
use Rattle.mg_bson.specs.Spans.{array_inside, documents_inside}
use Rattle.mg_bson.specs.Tree.{Fields, Items, no_items}
use Rattle.mg_server.specs.Commands.{batch_items}
use Rattle.mg_link.specs.Errors.{plain}
use Rattle.mg_link.specs.declared.error.Error.{Error}
use Rattle.mg_link.specs.declared.error.ErrorKind.TheVariants as kind
use Rattle.mg_link.specs.declared.error.Malformed.{Malformed}
use Rattle.mg_link.specs.declared.error.Malformed.TheVariants as malformed
use Rattle.mg_ops.specs.Cursors.{batch_at}

-- the first where there is one
abbrev pub or_else : {A : Type 0} → Option A → Option A → Option A
or_else (Some x) other = Some x
or_else None other = other

-- the bytes of the batch
unfoldable pub batch_in : List ℕ → Option (List ℕ)
batch_in reply = or_else (array_inside (codes "cursor") (codes "firstBatch") reply) (array_inside (codes "cursor") (codes "nextBatch") reply)

-- its documents, each as its bytes; none where there is no batch, or an item of it is no document
unfoldable pub documents_of : List ℕ → Option (List (List ℕ))
documents_of reply = option_and_then documents_inside (batch_in reply)

-- a reply has no batch, and fails so
pub record NoBatchIn (reply : Fields) (e : Error) : Type 0 where
  pub how : Malformed
  pub says : batch_at reply ≡ Err how
  pub error : e ≡ plain (kind.InvalidResponse how)

-- a reply has no batch, or an item of it is no document
pub data BreaksBatch (reply : List ℕ) (e : Error) : Type 0 where
  no_batch : batch_in reply ≡ None → NoBatchIn (fields reply) e → BreaksBatch reply e
  bad_item : (batch : List ℕ) → batch_in reply ≡ Some batch → documents_inside batch ≡ None → e ≡ plain (kind.InvalidResponse malformed.BadItem) → BreaksBatch reply e

-- the batch of a reply has an item
pub record HasItems (reply : List ℕ) : Type 0 where
  pub batch : Items
  pub there : batch_at (fields reply) ≡ Ok batch
  pub some : batch ≢ no_items

-- ---- for private clauses

-- the values of the batch
abbrev pub items_of : Fields → Option Items
items_of reply = option_and_then batch_items (option_and_then as_document (get (codes "cursor") reply))

-- what a reply without a batch misses
abbrev pub missing_by : Option Fields → Malformed
missing_by (Some cursor) = malformed.NoBatch
missing_by None = malformed.NoCursor

abbrev pub missing_in : Fields → Malformed
missing_in reply = missing_by (option_and_then as_document (get (codes "cursor") reply))
