-- What is read of the cursor in a reply whose batch is read.
use Rattle.std.proofs.Common.{◌≡◌, ℕ, ℤ, List, map, Option, Some, None, Result, Ok, refl, sym, ap, ◌∙◌, option_map}
use Rattle.std.specs.Prelude.{codes, option_and_then}
use Rattle.mg_bson.specs.Tree.{Tree, Fields, Items}
use Rattle.mg_bson.specs.Find.{as_document, as_int64, get}
use Rattle.mg_server.specs.Commands.{Batch, batch_by, batch_items, batch_of, documents_in, text_of, token_in}
use Rattle.mg_link.specs.Namespace.{Space, space_of}
use Rattle.mg_link.specs.declared.error.Error.{Error}
use Rattle.mg_link.specs.declared.error.Malformed.{Malformed}
use Rattle.mg_link.specs.declared.error.Malformed.TheVariants as malformed
use Rattle.mg_ops.specs.Cursors.{Cursor, batch_at, cursor_in, cursor_of, found, ◌>>=◌}
use Rattle.mg_bson.specs.Raw.{fields}
use Rattle.mg_cursor.specs.Batches.{BreaksBatch, documents_of}
use Rattle.mg_cursor.proofs.Advancing.{breaks_none}
use Rattle.mg_cursor.proofs.Batching.{documents_read}
use Rattle.mg_server.proofs.Owners.{same_some}
use Rattle.mg_ops.specs.Cursors.{BreaksIn}

abbrev cursor_by : Option ℤ → Option Space → Option Items → Option Tree → Result Cursor Malformed
cursor_by i s b t = found malformed.BadId i >>= λ id. found malformed.BadNs s >>= λ space. found malformed.NoBatch b >>= λ batch. Ok (record { id = id; space = space; token = t; batch = batch })

abbrev batch_with : Option ℤ → Option Space → Option Items → Option Tree → Option Batch
batch_with i s b t = option_and_then (λ (id : ℤ). option_and_then (λ (space : Space). option_map (λ (events : List Fields). record { id = id; space = space; events = events; token = t }) (option_and_then documents_in b)) s) i

-- what is read of its parts
pub record IsRead (cursor : Result Cursor Malformed) (items : Result Items Malformed) (batch : Batch) : Type 0 where
  pub it : Cursor
  pub says : cursor ≡ Ok it
  pub items_are : items ≡ Ok it.batch
  pub documents_are : documents_in it.batch ≡ Some batch.events

documents_by : (id : ℤ) (space : Space) (t : Option Tree) (o : Option (List Fields)) (batch : Batch) → option_map (λ (events : List Fields). record { id = id; space = space; events = events; token = t }) o ≡ Some batch → o ≡ Some batch.events
documents_by id space t (Some events) batch h =
    let same : record { id = id; space = space; events = events; token = t } ≡ batch = cc in
    ap (λ (b : Batch). Some b.events) same
documents_by id space t None batch h = absurd cc

parts_read : (i : Option ℤ) (s : Option Space) (b : Option Items) (t : Option Tree) (batch : Batch) → batch_with i s b t ≡ Some batch → IsRead (cursor_by i s b t) (found malformed.NoBatch b) batch
parts_read (Some id) (Some space) (Some items) t batch h =
    record { it = record { id = id; space = space; token = t; batch = items }; says = refl; items_are = refl; documents_are = documents_by id space t (documents_in items) batch h }
parts_read None s b t batch h = absurd cc
parts_read (Some id) None b t batch h = absurd cc
parts_read (Some id) (Some space) None t batch h = absurd cc

read_in : (o : Option Fields) (batch : Batch) → option_and_then batch_by o ≡ Some batch → IsRead (found malformed.NoCursor o >>= cursor_in) (found malformed.NoCursor o >>= λ cursor. found malformed.NoBatch (batch_items cursor)) batch
read_in (Some d) batch h = parts_read (option_and_then as_int64 (get (codes "id") d)) (option_and_then space_of (text_of (codes "ns") d)) (batch_items d) (token_in d) batch h
read_in None batch h = absurd cc

pub read_as : (said : Fields) (batch : Batch) → batch_of said ≡ Some batch → IsRead (cursor_of said) (batch_at said) batch
unfolding batch_of cursor_of batch_at
read_as said batch there = read_in (option_and_then as_document (get (codes "cursor") said)) batch there

-- the documents of such a reply are the events of its batch
pub events_read : (bytes : List ℕ) (batch : Batch) → batch_of (fields bytes) ≡ Some batch → option_map (map fields) (documents_of bytes) ≡ Some batch.events
events_read bytes batch there = let r = read_as (fields bytes) batch there in sym (documents_read bytes r.it r.says) ∙ r.documents_are

-- it keeps to the grammar
pub tells_not : (bytes : List ℕ) (batch : Batch) (e : Error) → batch_of (fields bytes) ≡ Some batch → BreaksIn (fields bytes) e → ⊥
tells_not bytes batch e there breaks = let r = read_as (fields bytes) batch there in let a = r.says in let b = breaks.says in cc

pub breaks_not : (bytes : List ℕ) (batch : Batch) (e : Error) → batch_of (fields bytes) ≡ Some batch → BreaksBatch bytes e → ⊥
breaks_not bytes batch e there breaks = let bad : None ≡ Some batch.events = sym (ap (option_map (map fields)) (breaks_none bytes e breaks)) ∙ events_read bytes batch there in cc

-- and its events are those of its batch
pub events_are : (bytes : List ℕ) (batch : Batch) (events : List (List ℕ)) → batch_of (fields bytes) ≡ Some batch → documents_of bytes ≡ Some events → map fields events ≡ batch.events
events_are bytes batch events there holds = same_some (map fields events) batch.events (sym (ap (option_map (map fields)) holds) ∙ events_read bytes batch there)
