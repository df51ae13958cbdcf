-- What the rules of the store answer to each command over two documents, written out.
use Rattle.std.specs.Prelude.{◌≡◌, ℤ, pos, true, false, Some, None, Result, Ok, Err, List, [], ◌∷◌, codes}
use Rattle.mg_bson.specs.Tree.{Tree, document, array, int32, int64, timestamp, Fields, Items, no_items}
use Rattle.mg_bson.specs.Literal.{◌⇒◌⨾◌, ◌⨟◌, empty, word}
use Rattle.mg_link.specs.Namespace.{Space}
use Rattle.mg_server.specs.State.{Change, inserts, updates, replaces, deletes, drops, invalidates, Entry, Index, State, nothing, time_of}
use Rattle.mg_server.specs.Query.{Query, Stage, of_collection, of_database, of_indexes, skips, sorts, limits, hides_id}
use Rattle.mg_server.specs.Write.{sets, puts, with_indexes}
use Rattle.mg_server.specs.Rules.{Answer, answer_create, answer_delete, answer_drop, answer_indexes, answer_insert, answer_query, answer_update, query_more_reply}
use Rattle.mg_server.specs.Example.{app_c, entry_1, entry_2, id_0, id_1, x_1, x_2}

-- a server with the two documents of the first script and an index
abbrev pub by_x : Index
by_x = record { name = codes "x_1"; key = "x" ⇒ int32 (pos 1) ⨾ empty }

abbrev pub two_there : State
two_there = record nothing { collections = record { space = app_c; documents = x_1 ∷ x_2 ∷ []; indexes = by_x ∷ [] } ∷ []; changes = entry_1 ∷ entry_2 ∷ [] }

abbrev pub elsewhere : Space
elsewhere = record { db = codes "app"; coll = codes "d" }

-- ---- the entries of changes

abbrev pub token_3 : Tree
token_3 = document ("_data" ⇒ word "0000000000000003" ⨾ empty)

abbrev pub token_4 : Tree
token_4 = document ("_data" ⇒ word "0000000000000004" ⨾ empty)

abbrev pub names : Tree
names = document ("db" ⇒ word "app" ⨾ "coll" ⇒ word "c" ⨾ empty)

abbrev pub third : Change → Fields → Entry
third change event = record { token = token_3; time = time_of 3 1; space = app_c; change = change; event = event }

abbrev pub fourth : Change → Fields → Entry
fourth change event = record { token = token_4; time = time_of 4 1; space = app_c; change = change; event = event }

-- the first document is set to `x: 2`; the second has it
abbrev pub updated_first : Entry
updated_first = third updates ("_id" ⇒ token_3 ⨾ "operationType" ⇒ word "update" ⨾ "clusterTime" ⇒ timestamp 3 1 ⨾ "ns" ⇒ names ⨾ "documentKey" ⇒ document ("_id" ⇒ id_0 ⨾ empty)
    ⨾ "updateDescription" ⇒ document ("updatedFields" ⇒ document ("x" ⇒ int32 (pos 2) ⨾ empty) ⨾ "removedFields" ⇒ array no_items ⨾ empty) ⨾ empty)

-- a name that is set twice, to another value and back, does not change
abbrev pub set_back : Fields
set_back = "x" ⇒ int32 (pos 5) ⨾ "x" ⇒ int32 (pos 1) ⨾ "y" ⇒ int32 (pos 2) ⨾ empty

abbrev pub added_y : Entry
added_y = third updates ("_id" ⇒ token_3 ⨾ "operationType" ⇒ word "update" ⨾ "clusterTime" ⇒ timestamp 3 1 ⨾ "ns" ⇒ names ⨾ "documentKey" ⇒ document ("_id" ⇒ id_0 ⨾ empty)
    ⨾ "updateDescription" ⇒ document ("updatedFields" ⇒ document ("y" ⇒ int32 (pos 2) ⨾ empty) ⨾ "removedFields" ⇒ array no_items ⨾ empty) ⨾ empty)

abbrev pub replaced_first : Entry
replaced_first = third replaces ("_id" ⇒ token_3 ⨾ "operationType" ⇒ word "replace" ⨾ "clusterTime" ⇒ timestamp 3 1 ⨾ "ns" ⇒ names ⨾ "documentKey" ⇒ document ("_id" ⇒ id_0 ⨾ empty)
    ⨾ "fullDocument" ⇒ document ("_id" ⇒ id_0 ⨾ "y" ⇒ int32 (pos 5) ⨾ empty) ⨾ empty)

abbrev pub deleted_first : Entry
deleted_first = third deletes ("_id" ⇒ token_3 ⨾ "operationType" ⇒ word "delete" ⨾ "clusterTime" ⇒ timestamp 3 1 ⨾ "ns" ⇒ names ⨾ "documentKey" ⇒ document ("_id" ⇒ id_0 ⨾ empty) ⨾ empty)

abbrev pub deleted_second : Entry
deleted_second = fourth deletes ("_id" ⇒ token_4 ⨾ "operationType" ⇒ word "delete" ⨾ "clusterTime" ⇒ timestamp 4 1 ⨾ "ns" ⇒ names ⨾ "documentKey" ⇒ document ("_id" ⇒ id_1 ⨾ empty) ⨾ empty)

-- a document with another id, and one without any
abbrev pub x_7 : Fields
x_7 = "_id" ⇒ int32 (pos 7) ⨾ empty

abbrev pub of_no_id : Fields
of_no_id = "x" ⇒ int32 (pos 1) ⨾ empty

abbrev pub inserted_third : Entry
inserted_third = third inserts ("_id" ⇒ token_3 ⨾ "operationType" ⇒ word "insert" ⨾ "clusterTime" ⇒ timestamp 3 1 ⨾ "ns" ⇒ names ⨾ "documentKey" ⇒ document ("_id" ⇒ int32 (pos 7) ⨾ empty)
    ⨾ "fullDocument" ⇒ document x_7 ⨾ empty)

abbrev pub dropped : Entry
dropped = third drops ("_id" ⇒ token_3 ⨾ "operationType" ⇒ word "drop" ⨾ "clusterTime" ⇒ timestamp 3 1 ⨾ "ns" ⇒ names ⨾ empty)

abbrev pub watches_end : Entry
watches_end = fourth invalidates ("_id" ⇒ token_4 ⨾ "operationType" ⇒ word "invalidate" ⨾ "clusterTime" ⇒ timestamp 4 1 ⨾ empty)

-- ---- replies

abbrev pub is_answered : Result Answer ℤ → List Entry → Fields → Type 0
is_answered answered entries reply = answered ≡ Ok (record { reply = reply; entries = entries })

abbrev pub done_1 : Fields
done_1 = "ok" ⇒ int32 (pos 1) ⨾ empty

abbrev pub n_changed : ℤ → ℤ → Fields
n_changed n changed = "n" ⇒ int32 n ⨾ "nModified" ⇒ int32 changed ⨾ done_1

abbrev pub n_only : ℤ → Fields
n_only n = "n" ⇒ int32 n ⨾ done_1

-- so many documents were inserted, and these are the write errors
abbrev pub n_but : ℤ → Items → Fields
n_but n errors = "n" ⇒ int32 n ⨾ "writeErrors" ⇒ array errors ⨾ done_1

abbrev pub refused_at : ℤ → ℤ → Tree
refused_at index code = document ("index" ⇒ int32 index ⨾ "code" ⇒ int32 code ⨾ "errmsg" ⇒ word "refused" ⨾ empty)

abbrev pub batch_of_c : ℤ → Items → Fields
batch_of_c id items = "cursor" ⇒ document ("id" ⇒ int64 id ⨾ "ns" ⇒ word "app.c" ⨾ "firstBatch" ⇒ array items ⨾ empty) ⨾ done_1

abbrev pub more_of_c : ℤ → Items → Fields
more_of_c id items = "cursor" ⇒ document ("id" ⇒ int64 id ⨾ "ns" ⇒ word "app.c" ⨾ "nextBatch" ⇒ array items ⨾ empty) ⨾ done_1

-- a find of `app.c` with these stages
abbrev pub finds : List Stage → Query
finds stages = record { source = of_collection app_c; stages = stages; single = false; size = None }

abbrev pub falling_x : Stage
falling_x = sorts (record { name = codes "x"; rising = false } ∷ [])

pub record AreInserts : Type 0 where
  -- an id that is there stops an insert that is ordered
  pub stopped : answer_insert two_there app_c (x_1 ∷ x_7 ∷ []) true ≡ record { reply = n_but (pos 0) (refused_at (pos 0) (pos 11000) ⨟ no_items); entries = [] }
  -- one that is not goes on behind it, and behind a document without an id
  pub went_on : answer_insert two_there app_c (x_1 ∷ of_no_id ∷ x_7 ∷ []) false
      ≡ record { reply = n_but (pos 1) (refused_at (pos 0) (pos 11000) ⨟ refused_at (pos 1) (pos 9) ⨟ no_items); entries = inserted_third ∷ [] }
  -- an id that the same insert brings is there too
  pub twice_in_one : answer_insert two_there app_c (x_7 ∷ x_7 ∷ []) true ≡ record { reply = n_but (pos 1) (refused_at (pos 1) (pos 11000) ⨟ no_items); entries = inserted_third ∷ [] }

pub record AreWrites : Type 0 where
  -- of two documents the update leaves one equal
  pub updated : is_answered (answer_update two_there app_c [] (sets ("x" ⇒ int32 (pos 2) ⨾ empty)) true) (updated_first ∷ []) (n_changed (pos 2) (pos 1))
  pub twice : is_answered (answer_update two_there app_c [] (sets set_back) false) (added_y ∷ []) (n_changed (pos 1) (pos 1))
  -- a replacement keeps the `_id`, in front
  pub replaced : is_answered (answer_update two_there app_c [] (puts ("y" ⇒ int32 (pos 5) ⨾ "_id" ⇒ int32 (pos 9) ⨾ empty)) false) (replaced_first ∷ []) (n_changed (pos 1) (pos 1))
  pub deleted_all : is_answered (answer_delete two_there app_c [] true) (deleted_first ∷ deleted_second ∷ []) (n_only (pos 2))
  pub deleted_one : is_answered (answer_delete two_there app_c [] false) (deleted_first ∷ []) (n_only (pos 1))
  pub deleted_none : is_answered (answer_delete two_there elsewhere [] true) [] (n_only (pos 0))

pub record AreCollections : Type 0 where
  pub created : is_answered (answer_create two_there elsewhere) [] done_1
  pub there : answer_create two_there app_c ≡ Err (pos 48)
  -- a name that is there, the name of the index of `_id`, and a name for the second time are passed over
  pub indexed : with_indexes (by_x ∷ []) (by_x ∷ record { name = codes "_id_"; key = empty } ∷ record { name = codes "y"; key = empty } ∷ record { name = codes "y"; key = "z" ⇒ int32 (pos 1) ⨾ empty } ∷ [])
      ≡ by_x ∷ record { name = codes "y"; key = empty } ∷ []
  pub made : is_answered (answer_indexes two_there elsewhere (by_x ∷ [])) [] done_1
  pub gone : is_answered (answer_drop two_there app_c) (dropped ∷ watches_end ∷ []) done_1
  pub missing : answer_drop two_there elsewhere ≡ Err (pos 26)

pub record AreQueries : Type 0 where
  pub all : is_answered (answer_query two_there (pos 5) (finds [])) [] (batch_of_c (pos 0) (document x_1 ⨟ document x_2 ⨟ no_items))
  -- the last document by `x` is the first of those that are sorted the other way
  pub sorted : is_answered (answer_query two_there (pos 5) (finds (falling_x ∷ limits 1 ∷ []))) [] (batch_of_c (pos 0) (document x_2 ⨟ no_items))
  pub skipped : is_answered (answer_query two_there (pos 5) (finds (falling_x ∷ skips 1 ∷ hides_id ∷ []))) [] (batch_of_c (pos 0) (document ("x" ⇒ int32 (pos 1) ⨾ empty) ⨟ no_items))
  -- a batch of one leaves the cursor with the other
  pub first_one : is_answered (answer_query two_there (pos 5) (record (finds []) { size = Some 1 })) [] (batch_of_c (pos 5) (document x_1 ⨟ no_items))
  pub single : is_answered (answer_query two_there (pos 5) (record (finds []) { size = Some 1; single = true })) [] (batch_of_c (pos 0) (document x_1 ⨟ no_items))
  pub empty_first : is_answered (answer_query two_there (pos 5) (record (finds []) { size = Some 0 })) [] (batch_of_c (pos 5) no_items)
  pub second_one : query_more_reply (pos 5) app_c (x_2 ∷ []) 1 ≡ more_of_c (pos 0) (document x_2 ⨟ no_items)
  -- one document has the name to sort by, and one has not
  pub unsorted : answer_query two_there (pos 5) (finds (sorts (record { name = codes "y"; rising = true } ∷ []) ∷ [])) ≡ Err (pos 9)
  pub collections : answer_query two_there (pos 5) (record { source = of_database (codes "app"); stages = []; single = false; size = None }) ≡ Ok (record {
    reply = "cursor" ⇒ document ("id" ⇒ int64 (pos 0) ⨾ "ns" ⇒ word "app.$cmd.listCollections" ⨾ "firstBatch" ⇒ array (document ("name" ⇒ word "c" ⨾ "type" ⇒ word "collection" ⨾ empty) ⨟ no_items) ⨾ empty) ⨾ done_1;
    entries = [];
  })
  pub indexes : is_answered (answer_query two_there (pos 5) (record { source = of_indexes app_c; stages = []; single = false; size = None })) [] (batch_of_c (pos 0)
      (document ("v" ⇒ int32 (pos 2) ⨾ "key" ⇒ document ("_id" ⇒ int32 (pos 1) ⨾ empty) ⨾ "name" ⇒ word "_id_" ⨾ empty)
      ⨟ document ("v" ⇒ int32 (pos 2) ⨾ "key" ⇒ document ("x" ⇒ int32 (pos 1) ⨾ empty) ⨾ "name" ⇒ word "x_1" ⨾ empty)
      ⨟ no_items))
  pub no_indexes : answer_query two_there (pos 5) (record { source = of_indexes elsewhere; stages = []; single = false; size = None }) ≡ Err (pos 26)
