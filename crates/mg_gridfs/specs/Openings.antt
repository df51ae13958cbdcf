-- What an opening goes on to know while others call, and whose cursors are its own.
use Rattle.std.specs.Prelude.{◌≡◌, ℕ, List, Option, Some}
use Rattle.mg_bson.specs.Tree.{Tree}
use Rattle.mg_server.specs.Files.{Bucket}
use Rattle.mg_link.specs.Link.{Awaited}
use Rattle.mg_link.specs.Log.{Call}
use Rattle.mg_server.specs.Owner.{Holds, Onward}
use Rattle.mg_gridfs.specs.Downloaded.{KnowsDownload, KnowsOpening, doing_owner, looking_owner}
use Rattle.mg_gridfs.specs.Downloads.{ClientDownload}
use Rattle.mg_gridfs.specs.Findings.{ClientFinding, finding_ticket}

-- ---- while others call

-- its ticket goes with the same call
abbrev pub GoesWith : (old new : Awaited) → Option ℕ → Type 0
GoesWith old new ticket = (m : ℕ) → ticket ≡ Some m → new m ≡ old m

-- a download's cursor is its own
abbrev pub DownloadsHold : Type 0
DownloadsHold = (awaited : Awaited) (calls : List Call) (at : Bucket) (id : Tree) (d : ClientDownload) (bytes : List ℕ) (listed : ℕ) → KnowsDownload awaited calls at id d bytes listed → Holds calls (doing_owner awaited d.doing)

-- an opening goes on knowing, and its cursor is its own
abbrev pub OpeningsGoOn : Type 0
OpeningsGoOn = (old new : Awaited) (calls calls' : List Call) (at : Bucket) (o : ClientFinding) → Onward calls calls' (looking_owner old o.doing) → GoesWith old new (finding_ticket o) → KnowsOpening old calls at o → KnowsOpening new calls' at o

abbrev pub OpeningsHold : Type 0
OpeningsHold = (awaited : Awaited) (calls : List Call) (at : Bucket) (o : ClientFinding) → KnowsOpening awaited calls at o → Holds calls (looking_owner awaited o.doing)
