-- What a get tells goes on to hold, turn by turn.
use Rattle.std.proofs.Common.{◌≡◌, ◌++◌, ℕ, ℤ, List, Option, Some, None, refl, sym, subst, inl, inr}
use Rattle.std.specs.List.{concat}
use Rattle.mg_server.specs.Calls.{Grows, Keeps}
use Rattle.mg_link.specs.Link.{Awaited}
use Rattle.mg_link.specs.Log.{Call}
use Rattle.mg_server.specs.Owner.{IsOf, Onward, nobody}
use Rattle.mg_link.specs.declared.error.Error.{Error}
use Rattle.mg_records.specs.FileRecords.{FileRecord}
use Rattle.mg_gridfs.specs.Downloaded.{doing_owner}
use Rattle.mg_gridfs.specs.Downloads.{ClientDownload, Doing, ticket_by}
use Rattle.mg_gridfs.specs.DownloadView.{download_of, finding_of}
use Rattle.mg_gridfs.proofs.Given.{downloads_go_on}
use Rattle.mg_gridfs.proofs.Growing.{fetching_grows, opening_fails_grow, opening_grows}
use Rattle.mg_gridfs.proofs.Opened.{record_grows}
use Rattle.mg_gridfs.proofs.ReadCaused.{read_fails_grow}
use Rattle.mg_script.specs.declared.outcome.Ended.{Ended}
use Rattle.mg_script.specs.declared.outcome.Ended.TheVariants as ended
use Rattle.mg_players.specs.Causes.{HasRead, sent_at}
use Rattle.mg_players.specs.Buckets.{plain_bucket}
use Rattle.mg_players.specs.Files.{FirstHold}
use Rattle.mg_players.specs.Gets.{GetTask, IsFindAt, gets_ticket, room_of}
use Rattle.mg_players.specs.Plays.{Places, all_places}
use Rattle.mg_players.specs.Reading.{ListsOther}
use Rattle.mg_players.specs.Telling as tells
use Rattle.mg_players.specs.Telling.{GetTells, HasFront, HasGivenAll, TellsAsked, TellsGetEnd, TellsGetFails, TellsGetOpened, finding_places, found_in}
use Rattle.mg_players.specs.declared.get.GetStage.{GetStage}
use Rattle.mg_players.specs.declared.get.GetStage.TheVariants as gets
use Rattle.mg_players.proofs.Commands.{falls_later}
use Rattle.mg_players.proofs.GetAdding.{all_below, asks_later}
use Rattle.mg_players.proofs.GetNewest.{download_kept, finding_kept}
use Rattle.mg_players.proofs.GetCounting.{fails_so_grow, goes_grow, heard_empty_grows, none_grows_on}
use Rattle.mg_players.proofs.GetEnding.{ends_later}
use Rattle.mg_players.proofs.GetFinds.{finds_far_later, finds_later}
use Rattle.mg_players.proofs.GetGiving.{read_later}
use Rattle.mg_players.proofs.GetReading.{held_grows, lists_grow, other_grows, so_grows, stops_grow}
use Rattle.mg_players.proofs.JustGrown.{SendsNoMore, later_just}
use Rattle.mg_players.proofs.Telling.{grows_later, in_first, in_second}

-- ---- others

module _ (calls calls' : List Call) (wire : ℤ) (keeps : Keeps calls calls') (onward : Onward calls calls' nobody) (q : Places) (g : GetTask) where
  later : (places : List ℕ) → Grows (sent_at places calls wire) (sent_at places calls' wire)
  later places = grows_later places calls calls' wire keeps

  pub opened_later : (f : FileRecord) (at : Option ℕ) → TellsGetOpened calls wire q g f at → TellsGetOpened calls' wire q g f at
  opened_later f at t = record {
    heard = record_grows (sent_at q.opened calls wire) (sent_at q.opened calls' wire) (later q.opened) (plain_bucket g.at) g.id (Some f) t.heard;
    listed = t.listed;
    finds = falls_later (IsFindAt g (Some f)) calls calls' 5 q.opened 1 keeps t.finds;
    sends = finds_later calls calls' keeps g (Some f) q.opened t.sends;
    named = t.named;
    more = asks_later calls calls' keeps (all_places q) (concat q.owns ++ q.now) t.more;
  }

  -- what goes on, or ended it
  pub now_later : (f : FileRecord) (at : Option ℕ) → TellsGetOpened calls wire q g f at → SendsNoMore (sent_at q.now calls wire) (sent_at q.now calls' wire)
  now_later f at t = later_just q.now calls calls' wire keeps (λ place of. all_below calls q t.finds.within t.more place (in_second q.opened (concat q.owns ++ q.now) place (in_second (concat q.owns) q.now place of)))

  -- what its calls gave
  all_later : (f : FileRecord) (at : Option ℕ) → TellsGetOpened calls wire q g f at → (bytes : List ℕ) (last : ClientDownload) → HasRead calls wire g f q.opened q.owns bytes last → HasRead calls' wire g f q.opened q.owns bytes last
  all_later f at t bytes last h =
      read_later calls calls' wire keeps g f q.opened q.owns bytes last (λ place of. all_below calls q t.finds.within t.more place (in_second q.opened (concat q.owns ++ q.now) place (in_first (concat q.owns) q.now place of))) h

  front_later : (f : FileRecord) (bytes : List ℕ) (at : Option ℕ) → HasFront calls g f bytes at → HasFront calls' g f bytes at
  front_later f bytes at h = record { listed = h.listed; here = h.here; count = h.count; counted = h.counted; more = h.more; lists = so_grows calls calls' g.at f h.listed (FirstHold f (bytes ++ h.more)) onward h.lists }

  asked_later : (bytes : List ℕ) (done : ℕ) → TellsAsked calls wire q g bytes done → TellsAsked calls' wire q g bytes done
  asked_later bytes done (tells.in_opening silent first none found a) = tells.in_opening silent first none found (record {
    finds = falls_later (IsFindAt g found) calls calls' 5 q.now 1 keeps a.finds;
    heard = λ f is. record_grows (sent_at q.now calls wire) (sent_at q.now calls' wire) (later q.now) (plain_bucket g.at) g.id (Some f) (a.heard f is);
    sends = finds_later calls calls' keeps g found q.now a.sends;
  })
  asked_later bytes done (tells.behind_it f at opened counted front last h) = tells.behind_it f at (opened_later f at opened) counted (elim front [ inl none ↦ inl none | inr x ↦ inr (front_later f bytes at x) ]) last (all_later f at opened bytes last h)

  fails_later : (bytes : List ℕ) (done : ℕ) (e : Error) → TellsGetFails calls wire q g bytes done e → TellsGetFails calls' wire q g bytes done e
  fails_later bytes done e (tells.out_of_memory room) = tells.out_of_memory room
  fails_later bytes done e (tells.has_no_room none is) = tells.has_no_room none is
  fails_later bytes done e (tells.not_opened some first none fails) = tells.not_opened some first none (opening_fails_grow (sent_at q.now calls wire) (sent_at q.now calls' wire) (later q.now) (plain_bucket g.at) g.id e fails)
  fails_later bytes done e (tells.not_read some more d at opened cursor fails its sound plain counted last listed of held why h came) =
      tells.not_read some more d at (opened_later d.file at opened) cursor (read_fails_grow (sent_at q.now calls wire) (sent_at q.now calls' wire) (later q.now) d cursor e fails) its sound plain counted last listed of
      (held_grows (sent_at (all_places q) calls wire) (sent_at (all_places q) calls' wire) (later (all_places q)) g d.file cursor held)
      (stops_grow (sent_at (all_places q) calls wire) (sent_at (all_places q) calls' wire) (later (all_places q)) onward
      (ListsOther calls g.at d.file listed e) (ListsOther calls' g.at d.file listed e)
      (heard_empty_grows (sent_at q.now calls wire) (sent_at q.now calls' wire) (now_later d.file at opened) (sent_at (all_places q) calls wire) (sent_at (all_places q) calls' wire) (later (all_places q)) g d.file last) (other_grows calls calls' g.at d.file listed e onward) e why)
      (all_later d.file at opened bytes last h) (fails_so_grow (sent_at q.now calls wire) (sent_at q.now calls' wire) (now_later d.file at opened).just (room_of g.read) last e came)

  module _ (old new : Awaited) (bytes : List ℕ) where
    given_later : (f : FileRecord) (at : Option ℕ) → HasGivenAll old calls g f bytes at → HasGivenAll new calls' g f bytes at
    given_later f at h = record {
      download = h.download;
      its = h.its;
      over = h.over;
      listed = h.listed;
      here = h.here;
      knows = downloads_go_on old new calls calls' g.at g.id h.download bytes h.listed (subst (λ (x : Doing). Onward calls calls' (doing_owner old x)) (sym h.over) onward)
          (λ m held. let none : ticket_by h.download.doing ≡ None = subst (λ (x : Doing). ticket_by x ≡ None) (sym h.over) refl in absurd cc) h.knows;
      lists = ends_later calls calls' keeps g.at h.download bytes at h.lists;
    }

    end_later : (end : Ended (Unit {0})) (done : ℕ) (at : Option ℕ) → TellsGetEnd old calls wire q g bytes done at end → TellsGetEnd new calls' wire q g bytes done at end
    end_later ended.Unfinished done at t = tt
    end_later (ended.Gave x) done at t = (t.0, t.1, opened_later t.1 at t.2, t.3, given_later t.1 at t.4, t.5, all_later t.1 at t.2 bytes t.5 t.6, none_grows_on (sent_at q.now calls wire) (sent_at q.now calls' wire) (now_later t.1 at t.2) (room_of g.read) t.5 t.7)
    end_later (ended.Failed e) done at t = (fails_later bytes done e t.0, asked_later bytes done t.1)

-- Where its own ticket goes with the same call, a get tells in a later log what it told.
pub get_tells_later : (old new : Awaited) (calls calls' : List Call) (wire : ℤ) (q : Places) (g : GetTask) (s : GetStage) (bytes : List ℕ) (done : ℕ) (at : Option ℕ) → Keeps calls calls' → Onward calls calls' nobody → ((m : ℕ) → gets_ticket s ≡ Some m → new m ≡ old m) → GetTells old calls wire q g s bytes done at → GetTells new calls' wire q g s bytes done at
get_tells_later old new calls calls' wire q g gets.Unsent bytes done at keeps onward same t = t
get_tells_later old new calls calls' wire q g (gets.Opens opening) bytes done at keeps onward same t = (
  t.0,
  t.1,
  t.2,
  opening_grows (sent_at q.now calls wire) (sent_at q.now calls' wire) (grows_later q.now calls calls' wire keeps) old new (finding_of opening) same t.3,
  falls_later (IsFindAt g (found_in (finding_of opening).doing)) calls calls' 5 q.now (finding_places (finding_of opening).doing) keeps t.4,
  finding_kept calls calls' keeps (λ (n : ℕ). IsOf q.now n) (λ (n : ℕ). IsOf q.now n) (λ place of. of) (λ place of. of) old new (finding_of opening).doing same t.5,
  t.6,
  finds_far_later calls calls' keeps g old new q.now (finding_of opening).doing same t.7,
)
get_tells_later old new calls calls' wire q g (gets.Reads download room) bytes done at keeps onward same t = (
  opened_later calls calls' wire keeps onward q g (download_of download).file at t.0,
  t.1,
  fetching_grows (sent_at q.now calls wire) (sent_at q.now calls' wire) (grows_later q.now calls calls' wire keeps) old new (download_of download) same t.2,
  t.3,
  t.4,
  lists_grow (sent_at (all_places q) calls wire) (sent_at (all_places q) calls' wire) (grows_later (all_places q) calls calls' wire keeps) onward g (download_of download) t.5,
  download_kept calls calls' keeps (λ (n : ℕ). IsOf (all_places q) n) (λ (n : ℕ). IsOf (all_places q) n) (λ place of. of) (λ place of. of) old new (download_of download) same t.6,
  record {
    last = t.7.last;
    so_far = all_later calls calls' wire keeps onward q g (download_of download).file at t.0 bytes t.7.last t.7.so_far;
    goes = goes_grow (sent_at q.now calls wire) (sent_at q.now calls' wire) (now_later calls calls' wire keeps onward q g (download_of download).file at t.0) (sent_at (all_places q) calls wire) (sent_at (all_places q) calls' wire) (grows_later (all_places q) calls calls' wire keeps) g (room_of g.read) old new t.7.last (download_of download) (download_of download).doing same t.7.goes;
  },
  ends_later calls calls' keeps g.at (download_of download) bytes at t.8,
  t.9,
)
get_tells_later old new calls calls' wire q g (gets.Ended end) bytes done at keeps onward same t = end_later calls calls' wire keeps onward q g old new bytes end done at t
