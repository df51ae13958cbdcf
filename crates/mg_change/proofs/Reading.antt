-- The events of a reply with a cursor, as the link's rules see them.
use Rattle.std.proofs.Common.{◌≡◌, ℕ, List, [], map, Option, Some, Ok, option_map, sym, ap}
use Rattle.std.specs.Prelude.{unwrap_or}
use Rattle.mg_bson.specs.Raw.{fields}
use Rattle.mg_bson.specs.Tree.{Fields}
use Rattle.mg_server.specs.Commands.{documents_in}
use Rattle.mg_ops.specs.Cursors.{Cursor, cursor_of}
use Rattle.mg_cursor.specs.Batches.{documents_of}
use Rattle.mg_cursor.proofs.Batching.{documents_read}
use Rattle.mg_change.specs.Following.{event_fields}

pub events_read : (reply : List ℕ) (c : Cursor) → cursor_of (fields reply) ≡ Ok c → event_fields reply ≡ unwrap_or (documents_in c.batch) []
events_read reply c h = ap (λ (o : Option (List Fields)). unwrap_or o []) (sym (documents_read reply c h))

-- the events of a reply whose batch was taken
pub events_held : (reply : List ℕ) (documents : List (List ℕ)) → documents_of reply ≡ Some documents → event_fields reply ≡ map fields documents
events_held reply documents h = ap (λ (o : Option (List (List ℕ))). unwrap_or (option_map (map fields) o) []) h
