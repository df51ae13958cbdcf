-- What a get knows goes on to hold while others call, and how it begins.
use Rattle.std.proofs.Common.{◌≡◌, ℕ, List, [], Option, None, refl, sym, ap, ◌∙◌, subst}
use Rattle.mg_link.specs.Link.{Awaited}
use Rattle.mg_link.specs.Log.{Call}
use Rattle.mg_server.specs.Owner.{Holds, Onward, Owner, nobody}
use Rattle.mg_server.proofs.Apart.{holds_nobody}
use Rattle.mg_link.specs.Exec.{Stage, first, second, ticket_at, unsent}
use Rattle.mg_server.specs.Reader.{finder, finder_at}
use Rattle.mg_gridfs.specs.Downloaded.{doing_owner, looking_owner}
use Rattle.mg_gridfs.specs.Downloads as downloads
use Rattle.mg_gridfs.specs.Downloads.{Doing, ticket_by}
use Rattle.mg_gridfs.specs.DownloadView.{download_of, finding_of}
use Rattle.mg_gridfs.specs.Findings as findings
use Rattle.mg_gridfs.specs.Findings.{Looking}
use Rattle.mg_gridfs.proofs.Downloading.{owner_same}
use Rattle.mg_gridfs.specs.Openings.{GoesWith}
use Rattle.mg_gridfs.proofs.Given.{downloads_go_on}
use Rattle.mg_gridfs.proofs.Openings.{downloads_hold, openings_go_on, openings_hold}
use Rattle.mg_script.specs.declared.outcome.Ended.{Ended}
use Rattle.mg_script.specs.declared.outcome.Ended.TheVariants as ended
use Rattle.mg_players.specs.Gets.{GetKnowsAt, GetTask, KnowsEnd, get_owner, gets_ticket, sought}
use Rattle.mg_players.specs.Headline.{GetPlays}
use Rattle.mg_players.specs.declared.get.GetPlayer.{GetPlayer}
use Rattle.mg_players.specs.declared.get.GetStage.{GetStage}
use Rattle.mg_players.specs.declared.get.GetStage.TheVariants as gets

-- ---- while others call

module _ (old new : Awaited) (calls calls' : List Call) (g : GetTask) where
  end_kept : (bytes : List ℕ) (at : Option ℕ) (end : Ended (Unit {0})) → Onward calls calls' nobody → KnowsEnd old calls g bytes at end → KnowsEnd new calls' g bytes at end
  end_kept bytes at ended.Unfinished onward k = absurd k
  end_kept bytes at (ended.Gave x) onward k = (
    k.0,
    k.1,
    downloads_go_on old new calls calls' g.at g.id k.0 bytes k.1 (subst (λ (x : Doing). Onward calls calls' (doing_owner old x)) (sym k.3) onward)
        (λ m held. let none : ticket_by k.0.doing ≡ None = subst (λ (x : Doing). ticket_by x ≡ None) (sym k.3) refl in absurd cc) k.2,
    k.3,
    k.4,
  )
  end_kept bytes at (ended.Failed e) onward k = tt

  knows_kept : (s : GetStage) (bytes : List ℕ) (at : Option ℕ) → Onward calls calls' (get_owner old s) → GoesWith old new (gets_ticket s) → GetKnowsAt old calls g s bytes at → GetKnowsAt new calls' g s bytes at
  knows_kept gets.Unsent bytes at onward same k = k
  knows_kept (gets.Opens opening) bytes at onward same k = (k.0, openings_go_on old new calls calls' g.at (finding_of opening) onward same k.1, k.2, k.3)
  knows_kept (gets.Reads download room) bytes at onward same k = (k.0, downloads_go_on old new calls calls' g.at g.id (download_of download) bytes k.0 onward same k.1, k.2, k.3)
  knows_kept (gets.Ended end) bytes at onward same k = end_kept bytes at end onward k

-- it owns the same while its ticket goes with the same call
finder_on : (old new : Awaited) (stage : Stage) → GoesWith old new (ticket_at stage) → finder_at old stage ≡ finder_at new stage
finder_on old new unsent same = refl
finder_on old new (first ticket) same = ap finder (sym (same ticket refl))
finder_on old new (second ticket) same = ap finder (sym (same ticket refl))

looking_on : (old new : Awaited) (doing : Looking) → GoesWith old new (findings.ticket_by doing) → looking_owner old doing ≡ looking_owner new doing
looking_on old new findings.starts same = refl
looking_on old new (findings.finds sending) same = finder_on old new sending.stage same
looking_on old new (findings.lists file count sending) same = finder_on old new sending.stage same

doing_on : (old new : Awaited) (doing : Doing) → GoesWith old new (ticket_by doing) → doing_owner old doing ≡ doing_owner new doing
doing_on old new (downloads.idle cursor) same = sym (owner_same old new cursor same)
doing_on old new (downloads.reads cursor missing empty) same = sym (owner_same old new cursor same)
doing_on old new downloads.ended same = refl
doing_on old new downloads.spoiled same = refl

owner_on : (old new : Awaited) (s : GetStage) → GoesWith old new (gets_ticket s) → get_owner old s ≡ get_owner new s
owner_on old new gets.Unsent same = refl
owner_on old new (gets.Opens opening) same = looking_on old new (finding_of opening).doing same
owner_on old new (gets.Reads download room) same = doing_on old new (download_of download).doing same
owner_on old new (gets.Ended end) same = refl

pub get_same : (old new : Awaited) (calls calls' : List Call) (job : GetPlayer) (o : Owner) (at : Option ℕ) → Onward calls calls' o → GoesWith old new (gets_ticket job.stage) → GetPlays old calls job o at → GetPlays new calls' job o at
get_same old new calls calls' job o at onward same k =
    record { knows = knows_kept old new calls calls' (sought job.what) job.stage job.bytes.items at (subst (Onward calls calls') k.owns onward) same k.knows; owns = k.owns ∙ owner_on old new job.stage same }

-- ---- whose cursors are held

owner_holds : (awaited : Awaited) (calls : List Call) (g : GetTask) (s : GetStage) (bytes : List ℕ) (at : Option ℕ) → GetKnowsAt awaited calls g s bytes at → Holds calls (get_owner awaited s)
owner_holds awaited calls g gets.Unsent bytes at k = holds_nobody calls
owner_holds awaited calls g (gets.Opens opening) bytes at k = openings_hold awaited calls g.at (finding_of opening) k.1
owner_holds awaited calls g (gets.Reads download room) bytes at k = downloads_hold awaited calls g.at g.id (download_of download) bytes k.0 k.1
owner_holds awaited calls g (gets.Ended end) bytes at k = holds_nobody calls

pub holds_get : (awaited : Awaited) (calls : List Call) (job : GetPlayer) (o : Owner) (at : Option ℕ) → GetPlays awaited calls job o at → Holds calls o
holds_get awaited calls job o at k = subst (Holds calls) (sym k.owns) (owner_holds awaited calls (sought job.what) job.stage job.bytes.items at k.knows)

-- ---- at first

pub get_first : (awaited : Awaited) (calls : List Call) (job : GetPlayer) → job.stage ≡ gets.Unsent → job.bytes.items ≡ [] → GetPlays awaited calls job nobody None
get_first awaited calls job is none = record {
  knows = subst (λ (s : GetStage). GetKnowsAt awaited calls (sought job.what) s job.bytes.items None) (sym is) (none, refl);
  owns = ap (get_owner awaited) (sym is);
}
