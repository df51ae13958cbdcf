-- What an opening knows goes on to hold while others call.
use Rattle.std.proofs.Common.{◌≡◌, ℕ, false, List, ◌∷◌, Some, refl, sym, ◌∙◌, subst}
use Rattle.mg_bson.specs.Tree.{Tree}
use Rattle.mg_link.specs.Exec.{Stage, first, second, ticket_at, unsent}
use Rattle.mg_server.specs.Files.{Bucket, chunks_space, files_space}
use Rattle.mg_link.specs.Link.{Awaited}
use Rattle.mg_link.specs.Log.{Call}
use Rattle.mg_server.specs.Owner.{Holds, Onward}
use Rattle.mg_server.specs.Query.{Query}
use Rattle.mg_server.specs.Reader.{FindingAt, KnowsFinding, finder_at}
use Rattle.mg_server.proofs.Apart.{holds_nobody}
use Rattle.mg_gridfs.specs.Downloaded.{KnowsBy, doing_owner, LookingKnown, StandsBehind, chunks_query, looking_owner, record_query}
use Rattle.mg_gridfs.specs.Downloads.{ClientDownload, Doing, ended, idle, reads, spoiled}
use Rattle.mg_gridfs.specs.Findings.{Looking, finds, lists, starts, ticket_by}
use Rattle.mg_gridfs.specs.Openings.{DownloadsHold, GoesWith, OpeningsGoOn, OpeningsHold}
use Rattle.mg_gridfs.proofs.Fronts.{front_later}
use Rattle.mg_gridfs.proofs.Held.{finding_holds}
use Rattle.mg_gridfs.proofs.Staying.{finding_kept}

-- ---- finds in flight

finding_later : (old new : Awaited) (calls calls' : List Call) (q : Query) (stage : Stage) → Onward calls calls' (finder_at old stage) → ((m : ℕ) → ticket_at stage ≡ Some m → new m ≡ old m) → FindingAt old calls q stage → FindingAt new calls' q stage
finding_later old new calls calls' q unsent onward same k = tt
finding_later old new calls calls' q (first ticket) onward same k = subst (KnowsFinding calls' q) (sym (same ticket refl)) (finding_kept calls calls' q (old ticket) onward k)
finding_later old new calls calls' q (second ticket) onward same k = subst (KnowsFinding calls' q) (sym (same ticket refl)) (finding_kept calls calls' q (old ticket) onward k)

-- ---- openings

behind_later : (old new : Awaited) (place : ℕ) (stage : Stage) → ((m : ℕ) → ticket_at stage ≡ Some m → new m ≡ old m) → StandsBehind old place stage → StandsBehind new place stage
behind_later old new place unsent same h = tt
behind_later old new place (first ticket) same h = λ n is. h n (sym (same ticket refl) ∙ is)
behind_later old new place (second ticket) same h = λ n is. h n (sym (same ticket refl) ∙ is)

looking_later : (old new : Awaited) (calls calls' : List Call) (at : Bucket) (id : Tree) (doing : Looking) → Onward calls calls' (looking_owner old doing) → GoesWith old new (ticket_by doing) → LookingKnown old calls at id doing → LookingKnown new calls' at id doing
looking_later old new calls calls' at id starts onward same k = tt
looking_later old new calls calls' at id (finds sending) onward same k = finding_later old new calls calls' (record_query (files_space at) id) sending.stage onward same k
looking_later old new calls calls' at id (lists file count sending) onward same k =
    let f = front_later calls calls' (finder_at old sending.stage) (record_query (files_space at) id) (k.0.first ∷ k.0.more) false onward k.0.front in (
      record { first = k.0.first; more = k.0.more; front = f.0; reads_as = k.0.reads_as },
      finding_later old new calls calls' (chunks_query (chunks_space at) file.id) sending.stage onward same k.1,
      subst (λ (n : ℕ). StandsBehind new n sending.stage) (sym f.1) (behind_later old new k.0.front.place sending.stage same k.2),
    )

pub openings_go_on : OpeningsGoOn
openings_go_on old new calls calls' at o onward same k = record { placed = k.placed; by = looking_later old new calls calls' at o.id o.doing onward same k.by }

looking_holds : (awaited : Awaited) (calls : List Call) (at : Bucket) (id : Tree) (doing : Looking) → LookingKnown awaited calls at id doing → Holds calls (looking_owner awaited doing)
looking_holds awaited calls at id starts k = holds_nobody calls
looking_holds awaited calls at id (finds sending) k = finding_holds awaited calls (record_query (files_space at) id) sending.stage k
looking_holds awaited calls at id (lists file count sending) k = finding_holds awaited calls (chunks_query (chunks_space at) file.id) sending.stage k.1

pub openings_hold : OpeningsHold
openings_hold awaited calls at o k = looking_holds awaited calls at o.id o.doing k.by

-- ---- downloads

cursor_holds : (awaited : Awaited) (calls : List Call) (at : Bucket) (d : ClientDownload) (bytes : List ℕ) (place listed : ℕ) (x : Doing) → KnowsBy awaited calls at d bytes place listed x → Holds calls (doing_owner awaited x)
cursor_holds awaited calls at d bytes place listed (idle c) k = k.knows.owned
cursor_holds awaited calls at d bytes place listed (reads c missing empty) k = k.knows.owned
cursor_holds awaited calls at d bytes place listed ended k = holds_nobody calls
cursor_holds awaited calls at d bytes place listed spoiled k = holds_nobody calls

pub downloads_hold : DownloadsHold
downloads_hold awaited calls at id d bytes listed k = cursor_holds awaited calls at d bytes k.of_record.front.place listed d.doing k.by
