-- The commands of the check of a put's bucket, in their order, and what was heard to them.
use Rattle.std.specs.Prelude.{◌≡◌, ◌≢◌, ◌⊎◌, ◌<◌, ◌≤◌, ◌++◌, ℕ, pos, Bool, true, false, List, [], ◌∷◌, Some, replicate, slice_get}
use Rattle.mg_bson.specs.Raw.{fields}
use Rattle.mg_bson.specs.Tree.{Fields}
use Rattle.mg_server.specs.Calls.{IsOwn, IsRetried, Past}
use Rattle.mg_link.specs.Exec.{Stage, first, second, unsent}
use Rattle.mg_link.specs.Log.{Call}
use Rattle.mg_options.specs.Fields.{fields_in}
use Rattle.mg_ops.specs.Cursors.{next_command}
use Rattle.mg_cursor.specs.Client.{ClientCursor}
use Rattle.mg_cursor.specs.Seeking.{most_empty}
use Rattle.mg_gridfs.specs.Buckets.{ClientBucket}
use Rattle.mg_gridfs.specs.Checks.{ClientCheck, creates, finds, indexes, lists, reads}
use Rattle.mg_gridfs.specs.Commands.{any_lines, creation_lines, index_lines, listing_lines}
use Rattle.mg_gridfs.specs.declared.indexes.Place.{Place}
use Rattle.mg_gridfs.specs.declared.indexes.Place.TheVariants as place
use Rattle.mg_players.specs.Gets.{no_manner}
use Rattle.mg_players.specs.PutFailures.{HeardCreation, HeardIndexes, HeardNone, HeardSome, HeardWhole, IsOfList, last_empty}

-- ---- its commands

-- asks whether the bucket holds a file
abbrev pub any_find : ClientBucket → Fields
any_find b = fields_in (any_lines b)

-- creates one of its collections
abbrev pub creation : ClientBucket → Place → Fields
creation b at = fields_in (creation_lines b at)

-- lists the indexes of that
abbrev pub listing : ClientBucket → Place → Fields
listing b at = fields_in (listing_lines b at)

-- creates its index
abbrev pub index_creation : ClientBucket → Place → Fields
index_creation b at = fields_in (index_lines b at)

-- Reads the list of its indexes on, without options: by the open cursor that a reply told, of those that were heard in turn to the first commands of this list. Of these
-- fewer came empty at their end, one behind another, than are too many.
pub record IsGetMore (past : Past) (b : ClientBucket) (at : Place) (command : Fields) : Type 0 where
  pub cursor : ClientCursor
  pub of_list : IsOfList past b cursor
  pub is_at : of_list.at ≡ at
  pub held : cursor.id ≢ pos 0
  pub few : last_empty of_list < most_empty
  pub command_is : command ≡ next_command cursor.id cursor.space no_manner

abbrev pub AreGetMores : Past → ClientBucket → Place → List Fields → Type 0
AreGetMores past b at [] = Unit {0}
AreGetMores past b at (command ∷ commands) = IsGetMore past b at command × AreGetMores past b at commands

-- ---- a read that is sent once more

-- The call sent this command, and had sent it before. There it was lost, or refused so that a read is sent once more.
pub record IsSentAgain (past : Past) (command : Fields) : Type 0 where
  pub place : ℕ
  pub own : IsOwn past place
  pub call : Call
  pub there : slice_get past.calls place ≡ Some call
  pub command_is : fields call.command ≡ command
  pub behind : IsRetried past place command

-- it is sent a second time so alone
abbrev pub OnlyAgain : Past → Fields → ℕ → Type 0
OnlyAgain past command count = 2 ≤ count → IsSentAgain past command

-- ---- one collection

-- its creation, so many times
abbrev pub SendsCreation : ClientBucket → Place → ℕ → List Fields → Type 0
SendsCreation b at count commands = commands ≡ replicate count (creation b at)

-- its creation, and then the list of its indexes, so many times
abbrev pub AsksForList : ClientBucket → Place → ℕ → List Fields → Type 0
AsksForList b at count commands = commands ≡ creation b at ∷ replicate count (listing b at)

-- its creation, once; then the list of its indexes, once, or twice where the first attempt was lost or refused so; then getMores that read it on
pub record SendsList (past : Past) (b : ClientBucket) (at : Place) (commands : List Fields) : Type 0 where
  pub asked : ℕ
  pub mores : List Fields
  pub parts : commands ≡ creation b at ∷ (replicate asked (listing b at) ++ mores)
  pub some : 1 ≤ asked
  pub few : asked ≤ 2
  pub again : OnlyAgain past (listing b at) asked
  pub read_on : AreGetMores past b at mores

-- these, and then the creation of its index, so many times
pub record SendsIndex (past : Past) (b : ClientBucket) (at : Place) (count : ℕ) (commands : List Fields) : Type 0 where
  pub list : List Fields
  pub parts : commands ≡ list ++ replicate count (index_creation b at)
  pub listed : SendsList past b at list

-- how often its index is created: just where the list had none
abbrev pub where_missing : Bool → ℕ
where_missing true = 0
where_missing false = 1

-- all commands for a collection, by what was heard of it
pub record SendsWhole (past : Past) (b : ClientBucket) (at : Place) (commands : List Fields) : Type 0 where
  pub found : Bool
  pub ends : SendsIndex past b at (where_missing found) commands
  pub heard : HeardWhole past b at found

-- The commands for a collection up to some point: to its creation; to the list of its indexes, once it was heard that the collection is there; behind that list; or to the
-- creation of its index, where none of the list is it.
pub data SendsPart (past : Past) (b : ClientBucket) (at : Place) (commands : List Fields) : Type 0 where
  to_creation : (count : ℕ) → count ≤ 1 → SendsCreation b at count commands → SendsPart past b at commands
  to_listing : HeardCreation past b at → (count : ℕ) → count ≤ 2 → OnlyAgain past (listing b at) count → AsksForList b at count commands → SendsPart past b at commands
  to_list : HeardCreation past b at → SendsList past b at commands → SendsPart past b at commands
  to_index : HeardCreation past b at → HeardIndexes past b at false → (count : ℕ) → count ≤ 1 → SendsIndex past b at count commands → SendsPart past b at commands

-- ---- the whole check

-- its find, once, or twice where the first attempt was lost or refused so
pub record SendsFind (past : Past) (b : ClientBucket) (commands : List Fields) : Type 0 where
  pub count : ℕ
  pub parts : commands ≡ replicate count (any_find b)
  pub some : 1 ≤ count
  pub few : count ≤ 2
  pub again : OnlyAgain past (any_find b) count

-- what comes before the commands for a collection: the find, by which the bucket holds no file, and before those for the chunks all of those for the files
abbrev pub SendsBefore : Past → ClientBucket → Place → List Fields → Type 0
SendsBefore past b place.Files commands = SendsFind past b commands × HeardNone past b
SendsBefore past b place.Chunks commands = (front : List Fields) × (files : List Fields) × (commands ≡ front ++ files) × (SendsFind past b front × HeardNone past b) × SendsWhole past b place.Files files

-- that, and then such commands for the collection
pub record SendsBehind (past : Past) (b : ClientBucket) (at : Place) (Part : List Fields → Type 0) (commands : List Fields) : Type 0 where
  pub front : List Fields
  pub part : List Fields
  pub parts : commands ≡ front ++ part
  pub before : SendsBefore past b at front
  pub its : Part part

-- The commands of a check up to some point: its find, twice at most; then those for the files; then, behind all of these, those for the chunks.
pub data CheckSends (past : Past) (b : ClientBucket) (commands : List Fields) : Type 0 where
  to_find : (count : ℕ) → count ≤ 2 → OnlyAgain past (any_find b) count → commands ≡ replicate count (any_find b) → CheckSends past b commands
  to_part : (at : Place) → SendsBehind past b at (SendsPart past b at) commands → CheckSends past b commands

-- all commands of a check that passed: its find alone, by which the bucket holds a file, or those for both collections too
abbrev pub CheckPasses : Past → ClientBucket → List Fields → Type 0
CheckPasses past b commands = (SendsFind past b commands × HeardSome past b) ⊎ SendsBehind past b place.Chunks (SendsWhole past b place.Chunks) commands

-- ---- while it goes on

-- how often a command may be sent: a read is sent once more where its first attempt is lost
abbrev pub most_often : Bool → ℕ
most_often true = 2
most_often false = 1

-- how often it was sent by now
abbrev pub count_at : Bool → Stage → ℕ
count_at again unsent = 0
count_at again (first ticket) = 1
count_at again (second ticket) = most_often again

-- the commands of a check by how far it has come
abbrev pub CheckSentAt : Past → ClientBucket → List Fields → ClientCheck → Type 0
CheckSentAt past b commands (finds sending) = (commands ≡ replicate (count_at true sending.stage) (any_find b)) × OnlyAgain past (any_find b) (count_at true sending.stage)
CheckSentAt past b commands (creates at sending) = SendsBehind past b at (SendsCreation b at (count_at false sending.stage)) commands
CheckSentAt past b commands (lists at sending) = HeardCreation past b at × SendsBehind past b at (AsksForList b at (count_at true sending.stage)) commands × OnlyAgain past (listing b at) (count_at true sending.stage)
CheckSentAt past b commands (reads at cursor found count) = HeardCreation past b at × SendsBehind past b at (SendsList past b at) commands
CheckSentAt past b commands (indexes at sending) = HeardCreation past b at × HeardIndexes past b at false × SendsBehind past b at (SendsIndex past b at (count_at false sending.stage)) commands
