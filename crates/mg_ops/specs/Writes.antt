-- What the reply to an insert says (insert specification: `n`, `writeErrors`, `writeConcernError`).
use Rattle.std.specs.Prelude.{◌≡◌, ◌⊎◌, ◌++◌, ℕ, ℤ, pos, negsuc, List, [], ◌∷◌, map, min, Bool, true, false, IsTrue, Option, Some, None, option_and_then, Result, Ok, Err, codes, string_bytes}
use Rattle.mg_bson.specs.Tree.{Tree, Fields, Items, no_items, item}
use Rattle.mg_bson.specs.Find.{get, as_document, as_array, as_int32, as_string}
use Rattle.mg_bson.specs.Raw.{fields}
use Rattle.mg_link.specs.Numbers.{as_integer}
use Rattle.mg_link.specs.declared.error.Malformed.{Malformed}
use Rattle.mg_link.specs.declared.error.Malformed.TheVariants as malformed
use Rattle.mg_link.specs.declared.error.ErrorKind.{ErrorKind}
use Rattle.mg_link.specs.declared.error.ErrorKind.TheVariants as kind
use Rattle.mg_link.specs.declared.error.IndexedFailure.{IndexedFailure}
use Rattle.mg_link.specs.declared.error.WriteFailure.{WriteFailure}
use Rattle.mg_link.specs.declared.error.Error.{Error}
use Rattle.mg_link.specs.Errors.{plain}
use Rattle.mg_options.specs.declared.aggregate.AggregateOptions.{AggregateOptions}
use Rattle.mg_ops.specs.Cursors.{◌>>=◌, found, cursor_of, BreaksIn, OpensWith}
use Rattle.mg_ops.specs.declared.cursor_reply.CursorSpecification.{CursorSpecification}

-- a document that was not written, or a write concern that was not met
pub record Failure : Type 0 where
  pub index : ℕ
  pub code : ℤ
  pub message : List ℕ

abbrev pub as_count : ℤ → Option ℕ
as_count (pos n) = Some n
as_count (negsuc n) = None

-- a count: a whole number that is not negative
abbrev pub count_by : Option Tree → Result ℕ Malformed
count_by value = found malformed.BadCount (option_and_then as_count (option_and_then as_integer value))

-- how many documents were written
unfoldable pub count_of : Fields → Result ℕ Malformed
count_of reply = count_by (get (codes "n") reply)

-- how many documents were changed
unfoldable pub changed_of : Fields → Result ℕ Malformed
changed_of reply = count_by (get (codes "nModified") reply)

-- how many documents an update found, and how many it changed
abbrev pub counts_of : Fields → Result (ℕ × ℕ) Malformed
counts_of reply = count_of reply >>= λ n. changed_of reply >>= λ changed. Ok (n, changed)

abbrev pub text_by : Option Tree → Result (List ℕ) Malformed
text_by None = Ok []
text_by (Some t) = found malformed.BadItem (as_string t)

-- a text that may be absent
unfoldable pub message_of : Fields → Result (List ℕ) Malformed
message_of fs = text_by (get (codes "errmsg") fs)

unfoldable pub code_of : Fields → Result ℤ Malformed
code_of fs = found malformed.BadItem (option_and_then as_int32 (get (codes "code") fs))

unfoldable pub index_of : Fields → Result ℕ Malformed
index_of fs = found malformed.BadItem (option_and_then as_count (option_and_then as_int32 (get (codes "index") fs)))

abbrev pub failure_at : ℕ → Fields → Result Failure Malformed
failure_at index fs = code_of fs >>= λ code. message_of fs >>= λ message. Ok (record { index = index; code = code; message = message })

abbrev pub write_error_of : Fields → Result Failure Malformed
write_error_of fs = index_of fs >>= λ index. failure_at index fs

abbrev pub item_error : Tree → Result Failure Malformed
item_error t = found malformed.BadItem (as_document t) >>= write_error_of

-- those of a list, up to the first that breaks the grammar
abbrev pub write_errors_in : Items → Result (List Failure) Malformed
write_errors_in no_items = Ok []
write_errors_in (item t ts) = item_error t >>= λ failure. write_errors_in ts >>= λ failures. Ok (failure ∷ failures)

abbrev pub write_errors_at : Option Tree → Result (List Failure) Malformed
write_errors_at None = Ok []
write_errors_at (Some t) = found malformed.BadItem (as_array t) >>= write_errors_in

abbrev pub concern_error_at : ℕ → Option Tree → Result (List Failure) Malformed
concern_error_at index None = Ok []
concern_error_at index (Some t) = found malformed.BadItem (as_document t) >>= failure_at index >>= λ failure. Ok (failure ∷ [])

-- the failures with the write concern error behind them
abbrev pub with_concern : List Failure → ℕ → Option Tree → Result (List Failure) Malformed
with_concern errors index concern = concern_error_at index concern >>= λ failures. Ok (errors ++ failures)

-- the write errors, and behind them the write concern error, with the number of the documents as its index
unfoldable pub failures_of : ℕ → Fields → Result (List Failure) Malformed
failures_of count reply = write_errors_at (get (codes "writeErrors") reply) >>= λ errors. with_concern errors count (get (codes "writeConcernError") reply)

abbrev pub failure : IndexedFailure → Failure
failure f = record { index = f.index; code = f.code; message = string_bytes f.message }

-- the number of documents, as the index of a write concern error
abbrev pub last_index : ℕ → ℕ
last_index count = min count 4294967295

-- an insert of so many documents wrote n, and nothing failed
pub record Inserted (count : ℕ) (reply : Fields) (n : ℕ) : Type 0 where
  pub counted : count_of reply ≡ Ok n
  pub none_failed : failures_of (last_index count) reply ≡ Ok []

-- the reply lists failures
abbrev pub ListsAs : ℕ → Fields → ErrorKind → Type 0
ListsAs count reply (kind.InsertMany failures) = (n : ℕ) × (count_of reply ≡ Ok n) × (failures_of (last_index count) reply ≡ Ok (map failure failures.items)) × (failures.items ≡ [] → ⊥)
ListsAs count reply (kind.InvalidResponse m) = (count_of reply ≡ Err m) ⊎ ((n : ℕ) × (count_of reply ≡ Ok n) × (failures_of (last_index count) reply ≡ Err m))
ListsAs count reply _ = ⊥

-- why the reply to an insert of so many documents is an error, which tells no more than that
abbrev pub NotInserted : ℕ → Fields → Error → Type 0
NotInserted count reply e = (e ≡ plain e.kind) × ListsAs count reply e.kind

-- ---- writes that are no inserts

-- the reply has these values, and lists no failure
pub record Wrote {A : Type 0} (values : Result A Malformed) (reply : Fields) (x : A) : Type 0 where
  pub has : values ≡ Ok x
  pub none_failed : failures_of 0 reply ≡ Ok []

-- a part of a reply breaks its grammar so
pub record BreaksAs {A : Type 0} (values : Result A Malformed) (e : Error) : Type 0 where
  pub how : Malformed
  pub says : values ≡ Err how
  pub error : e ≡ plain (kind.InvalidResponse how)

-- the reply lists failures, of which the first is the error; a write concern error stands behind the write errors
pub record ListsFirst (reply : Fields) (e : Error) : Type 0 where
  pub first : WriteFailure
  pub index : ℕ
  pub others : List Failure
  pub listed : failures_of 0 reply ≡ Ok (record { index = index; code = first.code; message = string_bytes first.message } ∷ others)
  pub error : e ≡ plain (kind.Write first)

-- why a write failed: as the first failure of its reply says, or the list of failures breaks its grammar
abbrev pub WriteFails : Fields → Error → Type 0
WriteFails reply e = BreaksAs (failures_of 0 reply) e ⊎ ListsFirst reply e

-- why a write failed whose reply is to have some values, which are looked at first
abbrev pub FailedAs : {A : Type 0} → Result A Malformed → Fields → Error → Type 0
FailedAs {A = A} values reply e = BreaksAs values e ⊎ ((x : A) × (values ≡ Ok x) × WriteFails reply e)

-- ---- aggregates, of which some write

-- what the reply to an aggregate gave
pub record AggregateOpens (writes : Bool) (o : AggregateOptions) (reply : List ℕ) (out : CursorSpecification) : Type 0 where
  pub opens : OpensWith o.batch_size o.max_await_time o.comment reply out
  pub none_failed : IsTrue writes → failures_of 0 (fields reply) ≡ Ok []

-- why the reply to an aggregate is an error
abbrev pub AggregateFails : Bool → Fields → Error → Type 0
AggregateFails true reply e = FailedAs (cursor_of reply) reply e
AggregateFails false reply e = BreaksIn reply e
