-- What the parts of cursors are seen as.
use Rattle.std.specs.Prelude.{◌≡◌, ℕ, Bool, true, false, List, [], ◌∷◌, Option, Some, None}
use Rattle.mg_bson.specs.Tree.{Items}
use Rattle.mg_bson.specs.Walks.{Walk}
use Rattle.mg_link.specs.Namespace.{space}
use Rattle.mg_ops.specs.Cursors.{Cursor, manner_of}
use Rattle.mg_ops.specs.declared.cursor_reply.GetMoreResult.{GetMoreResult}
use Rattle.mg_cursor.specs.Client.{ClientCursor, Doing, rests, holds, asks}
use Rattle.mg_cursor.specs.Documents.{DocumentCursor}
use Rattle.mg_cursor.specs.declared.batches.Batches.{Batches}
use Rattle.mg_cursor.specs.declared.batches.Flight.{Flight}
use Rattle.mg_cursor.specs.declared.batches.Flight.TheVariants as flight
use Rattle.mg_cursor.specs.declared.buffer.BatchBuffer.{BatchBuffer}
use Rattle.mg_cursor.specs.declared.documents.Documents.{Documents}

abbrev pub doing_of : Flight → Doing
doing_of flight.Nothing = rests
doing_of (flight.Reply reply) = holds reply
doing_of (flight.More exec) = asks exec

abbrev pub client_of : Batches → ClientCursor
client_of b = record { id = b.cursor.id; space = space b.cursor.ns; manner = manner_of b.cursor; pinned = b.pinned; token = b.token; doing = doing_of b.flight }

-- the cursor that a reply told, with this batch
abbrev pub told_by : GetMoreResult → Items → Cursor
told_by gave batch = record { id = gave.id; space = space gave.ns; token = gave.post_batch_resume_token; batch = batch }

-- ---- documents

abbrev pub current_in : Option Walk → Option (List ℕ)
current_in None = None
current_in (Some w) = w.current

abbrev pub behind_in : Option Walk → List (List ℕ)
behind_in None = []
behind_in (Some w) = w.behind

-- the reply that they lie in
abbrev pub whole_in : Option Walk → Option (List ℕ)
whole_in None = None
whole_in (Some w) = Some w.whole

abbrev pub current_of : BatchBuffer → Option (List ℕ)
current_of b = current_in b.batch

abbrev pub behind_of : BatchBuffer → List (List ℕ)
behind_of b = behind_in b.batch

abbrev pub reply_of : BatchBuffer → Option (List ℕ)
reply_of b = whole_in b.batch

-- an advance inside a batch: the first document behind the current one becomes it
abbrev pub AdvancesBy : List (List ℕ) → BatchBuffer → Bool → Type 0
AdvancesBy [] b there = (current_of b ≡ None) × (behind_of b ≡ []) × (there ≡ false)
AdvancesBy (x ∷ xs) b there = (current_of b ≡ Some x) × (behind_of b ≡ xs) × (there ≡ true)

abbrev pub document_cursor : Documents → DocumentCursor
document_cursor d = record { cursor = client_of d.batches; current = current_of d.buffer; behind = behind_of d.buffer; empty = d.empty }
