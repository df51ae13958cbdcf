-- What a reply with a cursor says (find, getMore and killCursors specification).
use Rattle.std.specs.Prelude.{◌≡◌, ◌↔◌, IsTrue, ℕ, ℤ, pos, List, Option, Some, None, option_map, option_and_then, Result, Ok, Err, codes}
use Rattle.mg_bson.specs.Tree.{Tree, Fields, Items, no_items}
use Rattle.mg_bson.specs.Find.{get, as_document, as_int64, as_timestamp}
use Rattle.mg_bson.specs.Raw.{fields, items}
use Rattle.mg_bson.specs.View.{tree}
use Rattle.mg_bson.specs.declared.tree.Bson.{Bson}
use Rattle.mg_link.specs.Namespace.{Space, space, space_of}
use Rattle.mg_server.specs.Commands.{batch_items, text_of, token_in}
use Rattle.mg_link.specs.Errors.{plain}
use Rattle.mg_link.specs.declared.error.Error.{Error}
use Rattle.mg_link.specs.declared.error.ErrorKind.TheVariants as kind
use Rattle.mg_link.specs.declared.error.Malformed.{Malformed}
use Rattle.mg_link.specs.declared.error.Malformed.TheVariants as malformed
use Rattle.mg_options.specs.declared.change_stream.ChangeStreamOptions.{ChangeStreamOptions}
use Rattle.mg_ops.specs.Commands.{more_command}
use Rattle.mg_ops.specs.declared.cursor_reply.CursorInformation.{CursorInformation}
use Rattle.mg_ops.specs.declared.cursor_reply.Found.{Found}
use Rattle.mg_ops.specs.declared.cursor_reply.CursorSpecification.{CursorSpecification}
use Rattle.mg_ops.specs.declared.cursor_reply.GetMoreResult.{GetMoreResult}
use Rattle.mg_bson.specs.declared.tree.Timestamp.{Timestamp}

-- a cursor and a batch of it
pub record Cursor : Type 0 where
  pub id : ℤ
  pub space : Space
  pub token : Option Tree
  pub batch : Items

-- one step after another, up to the first fault
infixl 10 ◌>>=◌
abbrev pub ◌>>=◌ : {A B : Type 0} → Result A Malformed → (A → Result B Malformed) → Result B Malformed
(Ok x) >>= f = f x
(Err e) >>= f = Err e

-- what has to stand in a reply, or the fault
abbrev pub found : {A : Type 0} → Malformed → Option A → Result A Malformed
found m (Some x) = Ok x
found m None = Err m

abbrev pub cursor_in : Fields → Result Cursor Malformed
cursor_in cursor = found malformed.BadId (option_and_then as_int64 (get (codes "id") cursor))
    >>= λ id. found malformed.BadNs (option_and_then space_of (text_of (codes "ns") cursor))
    >>= λ space. found malformed.NoBatch (batch_items cursor)
    >>= λ batch. Ok (record { id = id; space = space; token = token_in cursor; batch = batch })

-- the cursor of a reply, or how the reply breaks its grammar; a token of another kind than a document counts as none
unfoldable pub cursor_of : Fields → Result Cursor Malformed
cursor_of reply = found malformed.NoCursor (option_and_then as_document (get (codes "cursor") reply)) >>= cursor_in

-- the values of its batch
unfoldable pub batch_at : Fields → Result Items Malformed
batch_at reply = found malformed.NoCursor (option_and_then as_document (get (codes "cursor") reply)) >>= λ cursor. found malformed.NoBatch (batch_items cursor)

-- the time of the server's log at a reply
unfoldable pub operation_time : Fields → Option (ℕ × ℕ)
operation_time reply = option_and_then as_timestamp (get (codes "operationTime") reply)

abbrev pub found_cursor : Found → Cursor
found_cursor f = record { id = f.cursor.id; space = space f.cursor.ns; token = f.cursor.post_batch_resume_token; batch = items f.batch }

-- a reply breaks the grammar so
pub record BreaksIn (reply : Fields) (e : Error) : Type 0 where
  pub how : Malformed
  pub says : cursor_of reply ≡ Err how
  pub error : e ≡ plain (kind.InvalidResponse how)

-- what the reply to a getMore gave
pub record Gave (reply : List ℕ) (out : GetMoreResult) : Type 0 where
  pub batch : Items
  pub says : cursor_of (fields reply) ≡ Ok (record { id = out.id; space = space out.ns; token = out.post_batch_resume_token; batch = batch })
  pub whole : out.raw_reply ≡ reply
  pub ended : IsTrue out.exhausted ↔ (out.id ≡ pos 0)

-- what the reply to an opening gave
pub record Opens (size : Option ℕ) (reply : List ℕ) (out : CursorSpecification) : Type 0 where
  pub batch : Items
  pub says : cursor_of (fields reply) ≡ Ok (record { id = out.info.id; space = space out.info.ns; token = out.post_batch_resume_token; batch = batch })
  pub whole : out.initial_reply ≡ reply
  pub first : IsTrue out.is_empty ↔ (batch ≡ no_items)
  pub size_is : out.info.batch_size ≡ size

-- and how its getMores are asked
pub record OpensWith (size time : Option ℕ) (comment : Option Bson) (reply : List ℕ) (out : CursorSpecification) : Type 0 where
  pub opens : Opens size reply out
  pub time_is : out.info.max_time ≡ time
  pub comment_is : option_map tree out.info.comment ≡ option_map tree comment

abbrev pub time_parts : Timestamp → ℕ × ℕ
time_parts t = (t.time, t.increment)

-- and its time
pub record OpensWithTime (size wait : Option ℕ) (comment : Option Bson) (reply : List ℕ) (out : CursorSpecification × Option Timestamp) : Type 0 where
  pub opens : OpensWith size wait comment reply out.0
  pub time : option_map time_parts out.1 ≡ operation_time (fields reply)

-- ---- the getMores of a cursor

-- how the batches of a cursor are asked for: of which size, with how long a wait, and with which comment
pub record Manner : Type 0 where
  pub size : Option ℕ
  pub wait : Option ℕ
  pub comment : Option Tree

-- asks for the next batch of a cursor in this manner
abbrev pub next_command : ℤ → Space → Manner → Fields
next_command id space m = more_command id space m.size m.wait m.comment

-- the manner that a cursor is kept with
abbrev pub manner_of : CursorInformation → Manner
manner_of c = record { size = c.batch_size; wait = c.max_time; comment = option_map tree c.comment }

-- asks for the next batch of a cursor
abbrev pub asking_command : CursorInformation → Fields
asking_command c = next_command c.id (space c.ns) (manner_of c)

-- the manner that the options of a watch ask for
abbrev pub watch_manner : ChangeStreamOptions → Manner
watch_manner o = record { size = o.batch_size; wait = o.max_await_time; comment = option_map tree o.comment }
