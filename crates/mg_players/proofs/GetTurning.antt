-- What the parts of a get's turn come to: what it knows of its file, and what it tells.
use Rattle.std.proofs.Common.{◌≡◌, ◌⊎◌, ◌<◌, ◌≤◌, ◌++◌, ◌∷◌, true, ℕ, zero, suc, ℤ, List, [], length, take, Option, Some, None, Vec, refl, sym, ap, ◌∙◌, subst, inl, inr, arith, append-nil, length-append}
use Rattle.std.specs.List.{concat}
use Rattle.std.specs.Prelude.{IsSome, slice_get}
use Rattle.std.specs.declared.alloc.Global.{Global}
use Rattle.mg_bson.specs.Tree.{Tree}
use Rattle.mg_server.specs.Calls.{AddsOnly, Grows, Keeps, Past, RequestFails, past_of}
use Rattle.mg_link.specs.Errors as errors
use Rattle.mg_link.specs.Exec as exec
use Rattle.mg_link.specs.Exec.{Stage}
use Rattle.mg_link.specs.Link.{Awaited, LogTold}
use Rattle.mg_link.specs.Log.{Call}
use Rattle.mg_server.specs.Owner.{IsOf, Onward, Owner, Passes, nobody}
use Rattle.mg_server.specs.Reader.{finder_at}
use Rattle.mg_link.specs.declared.error.Error.{Error}
use Rattle.mg_link.specs.declared.error.ErrorKind.TheVariants as kind
use Rattle.mg_server.proofs.Adding.{adds_none}
use Rattle.mg_server.proofs.Apart.{holds_nobody, onward_refl, passes_here, passes_on, passes_same}
use Rattle.mg_server.proofs.Calls.{grows_on, keeps_longer, log_grows, same_keeps}
use Rattle.mg_link.proofs.Places.{get_within}
use Rattle.mg_options.specs.Fields.{Line, fields_in}
use Rattle.mg_ops.specs.Naming.{IsNamed}
use Rattle.mg_cursor.specs.Causes.{IsUnderway, TellsNoCursor, UnderwayBy}
use Rattle.mg_cursor.specs.Client as client
use Rattle.mg_cursor.specs.Client.{ClientCursor}
use Rattle.mg_records.specs.FileRecords.{FileRecord}
use Rattle.mg_gridfs.specs.Buckets.{ClientBucket}
use Rattle.mg_gridfs.specs.Commands.{CannotSend}
use Rattle.mg_gridfs.specs.Downloaded.{IsAskedSince, IsPlainAt, KnowsBy, KnowsDownload, KnowsOpening, LookingKnown, OpeningKnows, ReadKnows, doing_owner, looking_owner}
use Rattle.mg_gridfs.specs.Downloads as downloads
use Rattle.mg_gridfs.specs.Downloads.{ClientDownload, Doing, download_ticket}
use Rattle.mg_gridfs.specs.DownloadView.{IsDownload, download_of, finding_of}
use Rattle.mg_gridfs.specs.Findings as findings
use Rattle.mg_gridfs.specs.Findings.{ClientFinding, IsSoundFinding, Looking, Opened, Opens, finding_ticket, ticket_by}
use Rattle.mg_gridfs.specs.ReadCauses as files
use Rattle.mg_gridfs.specs.ReadCauses.{HeardRecord, IsFetching, IsOpening, LookingUnderway, OpeningCame, OpeningCaused, OpeningFails, ReadCaused, TellsNoRecord, cursor_in}
use Rattle.mg_gridfs.specs.Reads.{Reads, ReadsNothing}
use Rattle.mg_gridfs.specs.declared.download.GridFsDownloadStream.{GridFsDownloadStream}
use Rattle.mg_gridfs.specs.declared.open_download.OpenDownloadStream.{OpenDownloadStream}
use Rattle.mg_gridfs.specs.declared.polls.ReadPoll.{ReadPoll}
use Rattle.mg_gridfs.specs.declared.polls.ReadPoll.TheVariants as read
use Rattle.mg_gridfs.proofs.Fronts.{nobody_onward}
use Rattle.mg_gridfs.proofs.Growing.{fetching_grows, opening_fails_grow, opening_grows, opening_own}
use Rattle.mg_gridfs.proofs.Opened.{record_grows}
use Rattle.mg_gridfs.proofs.ReadCaused.{read_fails_grow}
use Rattle.mg_script.specs.declared.outcome.Ended.TheVariants as ended
use Rattle.mg_players.specs.Asking.{AllAskOn, DownloadLast, FindingLast}
use Rattle.mg_players.specs.Causes.{FallsAt, FindsAt, GaveAll, HasRead, sent_at, sent_since}
use Rattle.mg_players.specs.Buckets.{plain_bucket}
use Rattle.mg_players.specs.Files.{FirstHold}
use Rattle.mg_players.specs.Gets.{AsksForMore, AsksPlainly, GetKnowsAt, GetTask, IsFindAt, IsGetCommand, IsOpeningFor, KeepsRead, OpensAs, done_behind, get_owner, room_of, sought}
use Rattle.mg_players.specs.Plays.{Moves, MovesTo, Places, all_places, by_finding, no_move}
use Rattle.mg_players.specs.Reading.{EndsAsListed, GivesBy, GivesNone, GoesOn, HeardHeld, ListsIts, ListsOther, SentNone, ends_so, had_ended}
use Rattle.mg_players.specs.Telling as tells
use Rattle.mg_players.specs.Telling.{FindsFar, FindsSoFar, GetTell, GetTells, GetTurns, HasFront, TellsGetFails, TellsGetOpened, TellsNoCall, finding_places}
use Rattle.mg_players.specs.declared.get.GetPlayer.{GetPlayer}
use Rattle.mg_players.specs.declared.get.GetStage.{GetStage}
use Rattle.mg_players.specs.declared.get.GetStage.TheVariants as gets
use Rattle.mg_players.proofs.Adding.{adds_sent}
use Rattle.mg_players.proofs.Commands.{falls_later, falls_none}
use Rattle.mg_players.proofs.GetCausing.{heard_same}
use Rattle.mg_players.proofs.GetAdding.{adds_more, all_below, asks_answered, asks_going, now_below}
use Rattle.mg_players.proofs.GetAsking.{FindsBy, opening_adds, opening_finds}
use Rattle.mg_players.proofs.GetCounting.{fails_so_grow, gives_grow, goes_grow, heard_empty_grows}
use Rattle.mg_players.proofs.GetEnding.{ends_on, front_lists, new_ends}
use Rattle.mg_players.proofs.GetFinds.{far_finds, finds_fall, finds_later}
use Rattle.mg_players.proofs.GetGiving.{begun_grows, front_is, gave_on, new_begun, read_later}
use Rattle.mg_players.proofs.GetMores.{MoresBehind, read_last}
use Rattle.mg_players.proofs.GetNewest.{download_kept, opens_last}
use Rattle.mg_players.proofs.GetSending.{IsGiving, IsNewDownload, ReadsOn, found_same, has_none, listed_same, lists_some, new_giving, new_plain, opened_new, read_gives, read_on}
use Rattle.mg_players.proofs.GetListed.{opened_listed, opening_listed}
use Rattle.mg_players.proofs.GetRepeating.{opening_repeats}
use Rattle.mg_players.proofs.GetReading.{grows_among, held_grows, lists_grow, so_grows, stops_grow}
use Rattle.mg_players.proofs.GetStopping.{ReadLeaves, read_leaves}
use Rattle.mg_players.proofs.JustGrown.{SendsNoMore, ended_just, sent_back}
use Rattle.mg_players.proofs.Telling.{answered_by, extends_answered, extends_going, extends_opened, extends_same, going_on, grows_ended, grows_later, in_first, in_second, is_since, keeps_to, opened_by, same_told}
use Rattle.mg_players.proofs.Whole.{whole_answered, whole_going}

-- ---- why an opening fails, by the words of a bucket that is a copy

bucket_fails : (past : Past) (g : GetTask) (b : ClientBucket) (id : Tree) (e : Error) → IsPlainAt b g.at → OpeningFails past b id e → OpeningFails past (plain_bucket g.at) id e
bucket_fails past g b id e plain (files.out_of_memory room) = files.out_of_memory room
bucket_fails past g b id e plain (files.find_not_built cannot) = files.find_not_built (subst (λ (lines : List Line). CannotSend lines e) (found_same g b id plain) cannot)
bucket_fails past g b id e plain (files.by_find fails) = files.by_find (subst (λ (lines : List Line). RequestFails past (fields_in lines) true TellsNoRecord e) (found_same g b id plain) fails)
bucket_fails past g b id e plain (files.not_found h none) = files.not_found (heard_same past g b id None plain h) none
bucket_fails past g b id e plain (files.too_many f h breaks) = files.too_many f (heard_same past g b id (Some f) plain h) breaks
bucket_fails past g b id e plain (files.list_not_built f h cannot) = files.list_not_built f (heard_same past g b id (Some f) plain h) (subst (λ (lines : List Line). CannotSend lines e) (listed_same g b f.id plain) cannot)
bucket_fails past g b id e plain (files.by_list f h fails) = files.by_list f (heard_same past g b id (Some f) plain h) (subst (λ (lines : List Line). RequestFails past (fields_in lines) true TellsNoCursor e) (listed_same g b f.id plain) fails)

-- what is held is some ticket
held_none : (ticket : Option ℕ) → IsSome ticket → ticket ≡ None → ⊥
held_none None held none = absurd cc
held_none (Some n) held none = absurd cc

-- ---- the places of calls

-- the call that listed the chunks stands in the log
listed_by : (awaited : Awaited) (calls : List Call) (d : ClientDownload) (g : GetTask) (bytes : List ℕ) (place listed : ℕ) (call : Call) (doing : Doing) → slice_get calls place ≡ Some call → IsGiving doing → KnowsBy awaited calls g.at d bytes place listed doing → listed < length calls
listed_by awaited calls d g bytes place listed call (downloads.idle cursor) there gives k = subst (λ (n : ℕ). n < length calls) k.asked_at (get_within calls k.reader.opened k.knows.opened.call k.knows.opened.found)
listed_by awaited calls d g bytes place listed call (downloads.reads cursor missing empty) there gives k = absurd gives
listed_by awaited calls d g bytes place listed call downloads.ended there gives (inl none) = subst (λ (n : ℕ). n < length calls) none.asked_at (get_within calls place call there)
listed_by awaited calls d g bytes place listed call downloads.ended there gives (inr all) = subst (λ (n : ℕ). n < length calls) all.asked_at (get_within calls all.front.place all.front.call all.front.found)
listed_by awaited calls d g bytes place listed call downloads.spoiled there gives k = absurd gives

listed_within : (awaited : Awaited) (calls : List Call) (g : GetTask) (d : ClientDownload) (bytes : List ℕ) (listed : ℕ) → IsGiving d.doing → KnowsDownload awaited calls g.at g.id d bytes listed → listed < length calls
listed_within awaited calls g d bytes listed gives k = let f = k.of_record.front in listed_by awaited calls d g bytes f.place listed f.call d.doing f.found gives k.by

-- between its calls it has sent nothing
giving_goes : (awaited : Awaited) (past call : Past) (g : GetTask) (size : ℕ) (d : ClientDownload) (doing : Doing) → IsGiving doing → SentNone call → GoesOn awaited past call g size d d doing
giving_goes awaited past call g size d (downloads.idle cursor) gives none = (refl, none)
giving_goes awaited past call g size d (downloads.reads cursor missing empty) gives none = absurd gives
giving_goes awaited past call g size d downloads.ended gives none = (refl, none)
giving_goes awaited past call g size d downloads.spoiled gives none = absurd gives

-- a call that is to begin has sent nothing
none_yet : (calls : List Call) (wire : ℤ) → SentNone (sent_at [] calls wire)
none_yet calls wire place of = elim of.0 [ inl among ↦ absurd among | inr beyond ↦ (let within = of.1 in omega (arith, within, beyond)) ]

-- a call that is waited for has the ticket that is held
record Waited (awaited : Awaited) (ticket : Option ℕ) (place : ℕ) : Type 0 where
  number : ℕ
  held : ticket ≡ Some number
  at : awaited number ≡ Some place

waited_at : (awaited : Awaited) (stage : Stage) (place : ℕ) → IsOf (finder_at awaited stage).coming (Some place) → Waited awaited (exec.ticket_at stage) place
waited_at awaited exec.unsent place of = absurd of
waited_at awaited (exec.first ticket) place (inl is) = record { number = ticket; held = refl; at = is }
waited_at awaited (exec.first ticket) place (inr none) = absurd none
waited_at awaited (exec.second ticket) place (inl is) = record { number = ticket; held = refl; at = is }
waited_at awaited (exec.second ticket) place (inr none) = absurd none

waited_by : (awaited : Awaited) (doing : Looking) (place : ℕ) → IsOf (looking_owner awaited doing).coming (Some place) → Waited awaited (ticket_by doing) place
waited_by awaited findings.starts place of = absurd of
waited_by awaited (findings.finds sending) place of = waited_at awaited sending.stage place of
waited_by awaited (findings.lists file count sending) place of = waited_at awaited sending.stage place of

-- what is this to other jobs comes to nothing
to_nobody : (calls calls' : List Call) (o mid : Owner) → Passes calls calls' o mid → Passes calls calls' o nobody
to_nobody calls calls' o mid passes = passes_on calls calls' calls' o mid nobody passes (passes_here calls' mid nobody (λ n is_one. is_one) (λ y is_one ne. absurd is_one) passes.holds)

-- it leaves those of others alone
onward_to : (log : LogTold) (calls calls' calls'' : List Call) (o mid : Owner) → log ≡ Some calls' → log ≡ Some calls'' → Passes calls calls' o mid → Onward calls calls'' nobody
onward_to log calls calls' calls'' o mid told told' passes = subst (λ (l : List Call). Onward calls l nobody) (same_told log calls' calls'' told told') (nobody_onward calls calls' o mid passes)

-- none of no bytes
first_none : (bytes more : List ℕ) → bytes ++ more ≡ [] → bytes ≡ []
first_none [] more none = refl
first_none (b ∷ bytes) more none = absurd cc

-- ---- an opening

-- without a bucket memory ran out
no_bucket_fails : (old new : Awaited) (log log' : LogTold) (wire : ℤ) (o : ClientFinding) (e : Error) → o.bucket ≡ None → Opens old new log log' wire o (findings.fails e) → e.kind ≡ kind.OutOfMemory
no_bucket_fails old new log log' wire o e none (findings.no_bucket none' quiet is) = let same : e ≡ errors.plain kind.OutOfMemory = cc in ap (λ (x : Error). x.kind) same
no_bucket_fails old new log log' wire o e none (findings.begins b is there on) = absurd (let bad : Some b ≡ None = sym is ∙ none in cc)
no_bucket_fails old new log log' wire o e none (findings.finds_on b is s there on) = absurd (let bad : Some b ≡ None = sym is ∙ none in cc)
no_bucket_fails old new log log' wire o e none (findings.lists_on b is f count s there on) = absurd (let bad : Some b ≡ None = sym is ∙ none in cc)

-- the bucket of one that is opened
bucket_opens : (old new : Awaited) (log log' : LogTold) (wire : ℤ) (o : ClientFinding) (d : ClientDownload) → Opens old new log log' wire o (findings.opens d) → (b : ClientBucket) × (o.bucket ≡ Some b)
bucket_opens old new log log' wire o d (findings.no_bucket none quiet is) = absurd (let bad : findings.opens d ≡ findings.fails (errors.plain kind.OutOfMemory) = is in cc)
bucket_opens old new log log' wire o d (findings.begins b is there on) = (b, is)
bucket_opens old new log log' wire o d (findings.finds_on b is s there on) = (b, is)
bucket_opens old new log log' wire o d (findings.lists_on b is f count s there on) = (b, is)

module _ (old new : Awaited) (log log' : LogTold) (wire : ℤ) (job : GetPlayer) (opening : OpenDownloadStream) (sound : IsSoundFinding (finding_of opening)) (some : 0 < job.what.read) where
  abbrev g : GetTask
  g = sought job.what

  abbrev o : ClientFinding
  o = finding_of opening

  aim_same : (doing : Looking) → IsOpeningFor g o → IsOpeningFor g (record o { doing = doing })
  aim_same doing aim = record { id_is = aim.id_is; placed = aim.placed }

  -- what the opening comes to in the log behind it
  record Came (calls calls' : List Call) (places : List ℕ) (r : Opened) : Type 0 where
    keeps : Keeps calls calls'
    room : length calls ≤ length calls'
    came : (b : ClientBucket) → o.bucket ≡ Some b → OpeningCame new (past_of places (length calls) calls' wire) b o.id r

  came_to : (r : Opened) (calls calls' : List Call) → log ≡ Some calls → log' ≡ Some calls' → (places : List ℕ) → IsOpening old (sent_at places calls wire) o → OpeningCaused old new log log' wire o r → Came calls calls' places r
  came_to r calls calls' told told' places h caused =
      let x = caused calls told places h in
      let keeps = keeps_to log' calls x.0 calls' x.1 told' x.2 in
      record {
        keeps = keeps;
        room = keeps_longer calls calls' keeps;
        came = subst (λ (c : List Call). (b : ClientBucket) → o.bucket ≡ Some b → OpeningCame new (past_of places (length calls) c wire) b o.id r) (same_told log' x.0 calls' x.1 told') x.3;
      }

  -- its reply pends
  pub opening_waits : (opening' : OpenDownloadStream) → IsSome (finding_ticket (finding_of opening')) → IsSoundFinding (finding_of opening') → finding_of opening' ≡ record o { doing = (finding_of opening').doing } → Opens old new log log' wire o (findings.waits (finding_of opening').doing)
      → OpeningCaused old new log log' wire o (findings.waits (finding_of opening').doing) → OpeningKnows old new log log' g.at o (findings.waits (finding_of opening').doing) → GetTurns old new log log' wire (record job { stage = gets.Opens opening }) (record job { stage = gets.Opens opening' })
  opening_waits opening' held sound' same opens caused knows =
      let doing : Looking = (finding_of opening').doing in
      record {
        next = no_move;
        turned = λ calls told own at k.
            let x = knows calls told k.knows.1 in (
              x.0,
              x.1,
              record {
                place = at;
                placed = refl;
                owner = looking_owner new doing;
                plays = record { knows = (subst (IsOpeningFor g) (sym same) (aim_same doing k.knows.0), subst (KnowsOpening new x.0 g.at) (sym same) x.3, k.knows.2, k.knows.3); owns = refl };
                passes = subst (λ (y : Owner). Passes calls x.0 y (looking_owner new doing)) (sym k.owns) x.2;
              },
            );
        told = λ calls calls' told told' q at at' placed k t.
            let c = came_to (findings.waits doing) calls calls' told told' q.now t.3 caused in
            let past : Past = past_of q.now (length calls) calls' wire in
            let later : Past = sent_at (sent_since q.now (length calls) (length calls')) calls' wire in
            let here : IsOpening new past (finding_of opening') = subst (IsOpening new past) (sym same) c.came in
            let f = opening_finds g old new log log' wire o (findings.waits doing) t.1 sound opens calls calls' told told' q.now t.3 c.keeps t.4 in
            let last = opens_last old new log log' wire o (findings.waits doing) opens calls calls' told told' c.room q.now (now_below calls q.now t.4.within) t.5 in
            record {
              longer = c.room;
              places = going_on q (length calls) (length calls');
              tells = (t.0, subst (IsOpeningFor g) (sym same) (aim_same doing t.1), sound', opening_grows past later (grows_ended q.now (length calls) calls' wire) new new (finding_of opening') (λ m e. refl) here, subst (λ (x : Option FileRecord). FallsAt (IsFindAt g x) calls' 5 (sent_since q.now (length calls) (length calls')) (finding_places doing)) f.by f.falls, last, λ free. absurd (held_none (finding_ticket (finding_of opening')) held free), opening_repeats g old new log log' wire o (findings.waits doing) t.1 sound opens calls calls' told told' q.now t.3 t.7);
              extends = extends_going q job.done job.done (length calls) (length calls') refl c.room;
              adds = opening_adds g old new log log' wire o (findings.waits doing) t.1 sound opens calls calls' told told' q.now t.3 some c.keeps;
            };
      }

  -- it failed
  pub opening_fails : (e : Error) → job.done ≡ 0 → Opens old new log log' wire o (findings.fails e) → OpeningCaused old new log log' wire o (findings.fails e) → OpeningKnows old new log log' g.at o (findings.fails e)
      → GetTurns old new log log' wire (record job { stage = gets.Opens opening }) (record job { stage = gets.Ended (ended.Failed e) })
  opening_fails e first opens caused knows = record {
    next = no_move;
    turned = λ calls told own at k.
        let x = knows calls told k.knows.1 in
        (x.0, x.1, record { place = at; placed = refl; owner = nobody; plays = record { knows = tt; owns = refl }; passes = subst (λ (y : Owner). Passes calls x.0 y nobody) (sym k.owns) x.2 });
    told = λ calls calls' told told' q at at' placed k t.
        let c = came_to (findings.fails e) calls calls' told told' q.now t.3 caused in
        let s = opening_repeats g old new log log' wire o (findings.fails e) t.1 sound opens calls calls' told told' q.now t.3 t.7 in
        record {
          longer = c.room;
          places = going_on q (length calls) (length calls');
          tells = (why calls calls' q t.0 t.1 c.came o.bucket refl, tells.in_opening t.0 first k.2 s.0 s.1);
          extends = extends_going q job.done job.done (length calls) (length calls') refl c.room;
          adds = opening_adds g old new log log' wire o (findings.fails e) t.1 sound opens calls calls' told told' q.now t.3 some c.keeps;
        };
  }
    where
      why : (calls calls' : List Call) (q : Places) → TellsNoCall q → IsOpeningFor g o → ((b : ClientBucket) → o.bucket ≡ Some b → OpeningFails (past_of q.now (length calls) calls' wire) b o.id e) → (bucket : Option ClientBucket) → o.bucket ≡ bucket → TellsGetFails calls' wire (going_on q (length calls) (length calls')) g job.bytes.items job.done e
      why calls calls' q alone aim fails None is = tells.out_of_memory (no_bucket_fails old new log log' wire o e is opens)
      why calls calls' q alone aim fails (Some b) is =
          let past : Past = past_of q.now (length calls) calls' wire in
          let later : Past = sent_at (sent_since q.now (length calls) (length calls')) calls' wire in
          let here : OpeningFails past (plain_bucket g.at) g.id e = subst (λ (id : Tree). OpeningFails past (plain_bucket g.at) id e) aim.id_is (bucket_fails past g b o.id e (aim.placed b is) (fails b is)) in
          tells.not_opened some alone first (opening_fails_grow past later (grows_ended q.now (length calls) calls' wire) (plain_bucket g.at) g.id e here)

  -- it is opened, and read on where there is memory for the room of a read
  module _ (download : GridFsDownloadStream) (after : GetPlayer) (what : after.what ≡ job.what) (bytes : after.bytes.items ≡ job.bytes.items) (first : job.done ≡ 0) (opens : Opens old new log log' wire o (findings.opens (download_of download))) (is_download : IsDownload download)
      (caused : OpeningCaused old new log log' wire o (findings.opens (download_of download))) (knows : OpeningKnows old new log log' g.at o (findings.opens (download_of download))) where
    abbrev d : ClientDownload
    d = download_of download

    new_one : IsNewDownload d
    new_one = opened_new d old new log log' wire o opens

    abbrev moves : Moves
    moves = by_finding (looking_owner old o.doing).coming

    -- what it knows at the stage behind
    stage_knows : (s : GetStage) → OpensAs download s → (calls : List Call) (listed : ℕ) → KnowsDownload new calls g.at g.id d [] listed → GetKnowsAt new calls g s [] (Some listed)
    stage_knows gets.Unsent opens_so calls listed k = absurd opens_so
    stage_knows (gets.Opens x) opens_so calls listed k = absurd opens_so
    stage_knows (gets.Reads x room) opens_so calls listed k = (
      listed,
      subst (λ (y : GridFsDownloadStream). KnowsDownload new calls g.at g.id (download_of y) [] listed) (sym opens_so) k,
      refl,
      subst (λ (y : GridFsDownloadStream). (download_of y).doing ≡ downloads.spoiled → ⊥) (sym opens_so) (λ bad. subst IsGiving bad (new_giving d new_one)),
    )
    stage_knows (gets.Ended ended.Unfinished) opens_so calls listed k = absurd opens_so
    stage_knows (gets.Ended (ended.Gave x)) opens_so calls listed k = absurd opens_so
    stage_knows (gets.Ended (ended.Failed e)) opens_so calls listed k = tt

    stage_passes : (s : GetStage) → OpensAs download s → (calls calls' : List Call) (own : Owner) → Passes calls calls' own (doing_owner new d.doing) → Passes calls calls' own (get_owner new s)
    stage_passes gets.Unsent opens_so calls calls' own p = absurd opens_so
    stage_passes (gets.Opens x) opens_so calls calls' own p = absurd opens_so
    stage_passes (gets.Reads x room) opens_so calls calls' own p = subst (λ (y : GridFsDownloadStream). Passes calls calls' own (doing_owner new (download_of y).doing)) (sym opens_so) p
    stage_passes (gets.Ended end) opens_so calls calls' own p = to_nobody calls calls' own (doing_owner new d.doing) p

    -- the call that listed the chunks is its own
    own_place : (calls calls' : List Call) (listed : ℕ) → listed < length calls' → IsAskedSince old (length calls) o.doing listed → MovesTo moves calls calls' None (Some listed)
    own_place calls calls' listed within (inl of) = (listed, refl, inl of)
    own_place calls calls' listed within (inr since) = (listed, refl, inr (since, within))

    -- what it tells of its opening
    opened_place : (calls calls' : List Call) (q : Places) (at : Option ℕ) → length calls ≤ length calls' → IsOpening old (sent_at q.now calls wire) o → MovesTo moves calls calls' None at → (place : ℕ) → at ≡ Some place → IsOf (sent_since q.now (length calls) (length calls')) place
    opened_place calls calls' q at room h (p, is, inl of) place e =
        let same : p ≡ place = (let x : Some p ≡ Some place = sym is ∙ e in cc) in
        let w = waited_by old o.doing p of in
        let own = opening_own old (sent_at q.now calls wire) o w.number sound h w.held in
        let there : own.place ≡ p = (let x : Some own.place ≡ Some p = sym own.at ∙ w.at in cc) in
        subst (λ (n : ℕ). IsOf (sent_since q.now (length calls) (length calls')) n) (there ∙ same)
        (elim own.own [ inl of_now ↦ in_first q.now _ own.place of_now | inr beyond ↦ (let within = own.within in absurd (omega (arith, beyond, within))) ])
    opened_place calls calls' q at room h (p, is, inr range) place e =
        let same : p ≡ place = (let x : Some p ≡ Some place = sym is ∙ e in cc) in
        subst (λ (n : ℕ). IsOf (sent_since q.now (length calls) (length calls')) n) same (is_since q.now (length calls) (length calls') p range.0 range.1)

    tells_opened : (calls calls' : List Call) (q : Places) (at : Option ℕ) → IsOpeningFor g o → length calls ≤ length calls' → IsOpening old (sent_at q.now calls wire) o → MovesTo moves calls calls' None at
        → ((b : ClientBucket) → o.bucket ≡ Some b → OpeningCame new (past_of q.now (length calls) calls' wire) b o.id (findings.opens d)) → FindsBy calls' wire g (sent_since q.now (length calls) (length calls')) (findings.opens d) → FindsAt calls' g (Some d.file) (sent_since q.now (length calls) (length calls')) → TellsGetOpened calls' wire (opened_by q (length calls) (length calls')) g d.file at
    tells_opened calls calls' q at aim room h placed came f sends =
        let b = bucket_opens old new log log' wire o d opens in
        let past : Past = past_of q.now (length calls) calls' wire in
        let later : Past = sent_at (sent_since q.now (length calls) (length calls')) calls' wire in
        let plain : IsPlainAt b.0 g.at = aim.placed b.0 b.1 in
        let here : HeardRecord past (plain_bucket g.at) g.id (Some d.file) = subst (λ (id : Tree). HeardRecord past (plain_bucket g.at) id (Some d.file)) aim.id_is (heard_same past g b.0 o.id (Some d.file) plain (came b.0 b.1)) in
        record {
          named = subst IsNamed plain.named.place.chunks plain.named.chunks;
          heard = record_grows past later (grows_ended q.now (length calls) calls' wire) (plain_bucket g.at) g.id (Some d.file) here;
          listed = opened_place calls calls' q at room h placed;
          finds = subst (λ (x : Option FileRecord). FallsAt (IsFindAt g x) calls' 5 (sent_since q.now (length calls) (length calls')) 1) f.by f.falls;
          sends = sends;
          more = λ place of. absurd of;
        }

    -- nothing of its chunks is on its way yet
    new_fetching : (past : Past) → IsNewDownload d → IsFetching new past d
    new_fetching past (lists_some f count out batch with is) c at =
        let here : cursor_in d.doing ≡ Some (client.new_client out) = ap (λ (x : ClientDownload). cursor_in x.doing) is in
        let same : client.new_client out ≡ c = (let e : Some (client.new_client out) ≡ Some c = sym here ∙ at in cc) in
        subst (λ (x : ClientCursor). IsUnderway new past x) same tt
    new_fetching past (has_none f empty is) c at = absurd (let e : None ≡ Some c = sym (ap (λ (x : ClientDownload). cursor_in x.doing) is) ∙ at in cc)

    -- all that it sent is told
    opened_grows_to : (calls calls' : List Call) (q : Places) → Grows (past_of q.now (length calls) calls' wire) (sent_at (all_places (opened_by q (length calls) (length calls'))) calls' wire)
    opened_grows_to calls calls' q =
        let now : List ℕ = sent_since q.now (length calls) (length calls') in
        grows_on (past_of q.now (length calls) calls' wire) (sent_at now calls' wire) (sent_at (all_places (opened_by q (length calls) (length calls'))) calls' wire) (grows_ended q.now (length calls) calls' wire)
        (grows_among now (now ++ []) (length calls') calls' wire (λ place of. in_first now [] place of))

    -- all its commands are those of its opening
    opened_last : (calls' : List Call) (now : List ℕ) → DownloadLast new calls' (λ (n : ℕ). IsOf now n) d → DownloadLast new calls' (λ (n : ℕ). IsOf (now ++ []) n) d
    opened_last calls' now last = download_kept calls' calls' (same_keeps calls') (λ (n : ℕ). IsOf now n) (λ (n : ℕ). IsOf (now ++ []) n) (λ place of. in_first now [] place of) (λ other of. subst (λ (l : List ℕ). IsOf l other) (append-nil now) of) new new d (λ m e. refl) last

    stage_tells : (s : GetStage) (given : List ℕ) (done : ℕ) → given ≡ [] → OpensAs download s → done ≡ done_behind s job.done → (calls calls' : List Call) (q : Places) (at : Option ℕ) → GetTells old calls wire q g (gets.Opens opening) given job.done None → FindsBy calls' wire g (sent_since q.now (length calls) (length calls')) (findings.opens d) → FindsAt calls' g (Some d.file) (sent_since q.now (length calls) (length calls')) → AddsOnly (IsGetCommand g) calls calls' → length calls ≤ length calls'
        → MovesTo moves calls calls' None at → ((b : ClientBucket) → o.bucket ≡ Some b → OpeningCame new (past_of q.now (length calls) calls' wire) b o.id (findings.opens d)) → ListsIts (past_of q.now (length calls) calls' wire) g d
        → DownloadLast new calls' (λ (n : ℕ). IsOf (sent_since q.now (length calls) (length calls')) n) d → GetTell new calls calls' wire q job.done g s given done at
    stage_tells gets.Unsent given done none opens_so behind calls calls' q at t f sends adds room placed came lists last = absurd opens_so
    stage_tells (gets.Opens x) given done none opens_so behind calls calls' q at t f sends adds room placed came lists last = absurd opens_so
    stage_tells (gets.Reads x hand) given done none opens_so behind calls calls' q at t f sends adds room placed came lists last =
        let q' : Places = opened_by q (length calls) (length calls') in
        record {
          longer = room;
          places = q';
          tells = subst (λ (y : GridFsDownloadStream). GetTells new calls' wire q' g (gets.Reads y hand) given done at) (sym opens_so) (
            tells_opened calls calls' q at t.1 room t.3 placed came f sends,
            omega (arith, behind, first),
            new_fetching (sent_at q'.now calls' wire) new_one,
            is_download,
            new_plain d new_one,
            lists_grow (past_of q.now (length calls) calls' wire) (sent_at (all_places q') calls' wire) (opened_grows_to calls calls' q) (onward_refl calls' nobody) g d lists,
            opened_last calls' (sent_since q.now (length calls) (length calls')) last,
            record {
              last = d;
              so_far = record { first = d; begun = begun_grows (past_of q.now (length calls) calls' wire) (sent_at q'.opened calls' wire) (grows_ended q.now (length calls) calls' wire) g d (new_begun (past_of q.now (length calls) calls' wire) g d new_one is_download.between.sound.sizes.counted lists); file = refl; gave = (none, refl) };
              goes = giving_goes new (sent_at (all_places q') calls' wire) (sent_at q'.now calls' wire) g (room_of g.read) d d.doing (new_giving d new_one) (none_yet calls' wire);
            },
            new_ends calls' g.at d given at new_one none,
            λ free. refl,
          );
          extends = extends_opened q job.done done (length calls) (length calls') first t.0.0 t.0.1 room;
          adds = adds;
        }
    stage_tells (gets.Ended ended.Unfinished) given done none opens_so behind calls calls' q at t f sends adds room placed came lists last = absurd opens_so
    stage_tells (gets.Ended (ended.Gave x)) given done none opens_so behind calls calls' q at t f sends adds room placed came lists last = absurd opens_so
    stage_tells (gets.Ended (ended.Failed e)) given done none opens_so behind calls calls' q at t f sends adds room placed came lists last = record {
      longer = room;
      places = going_on q (length calls) (length calls');
      tells = (tells.out_of_memory (ap (λ (x : Error). x.kind) opens_so), tells.in_opening t.0 (behind ∙ first) none (Some d.file) (record { finds = finds_fall calls' g (Some d.file) (sent_since q.now (length calls) (length calls')) sends; heard = λ x is. f.heard x (f.by ∙ is); sends = sends }));
      extends = extends_going q job.done done (length calls) (length calls') behind room;
      adds = adds;
    }

    pub opening_done : (s : GetStage) → OpensAs download s → after.done ≡ done_behind s job.done → GetTurns old new log log' wire (record job { stage = gets.Opens opening }) (record after { stage = s })
    opening_done s opens_so behind = record {
      next = moves;
      turned = λ calls told own at k.
          let x = knows calls told k.knows.1 in
          let same : o.id ≡ g.id = k.knows.0.id_is in
          let d_known : KnowsDownload new x.0 g.at g.id d [] x.3.0 = subst (λ (id : Tree). KnowsDownload new x.0 g.at id d [] x.3.0) same x.3.1 in
          let none : after.bytes.items ≡ [] = bytes ∙ k.knows.2 in
          let within = listed_within new x.0 g d [] x.3.0 (new_giving d new_one) d_known in
          let passes : Passes calls x.0 own (doing_owner new d.doing) = subst (λ (y : Owner). Passes calls x.0 y (doing_owner new d.doing)) (sym k.owns) x.2 in (
            x.0,
            x.1,
            record {
              place = Some x.3.0;
              placed = own_place calls x.0 x.3.0 within x.3.2;
              owner = get_owner new s;
              plays = record { knows = subst (λ w. GetKnowsAt new x.0 (sought w) s after.bytes.items (Some x.3.0)) (sym what) (subst (λ (l : List ℕ). GetKnowsAt new x.0 g s l (Some x.3.0)) (sym none) (stage_knows s opens_so x.0 x.3.0 d_known)); owns = refl };
              passes = stage_passes s opens_so calls x.0 own passes;
            },
          );
      told = λ calls calls' told told' q at at' placed k t.
          let c = came_to (findings.opens d) calls calls' told told' q.now t.3 caused in
          let b = bucket_opens old new log log' wire o d opens in
          let lists = opened_listed g b.0 (t.1.placed b.0 b.1) (past_of q.now (length calls) calls' wire) d (new_plain d new_one) (opening_listed old new log log' wire o d sound opens calls told q.now t.3 b.0 b.1 calls' told') in
          let f = opening_finds g old new log log' wire o (findings.opens d) t.1 sound opens calls calls' told told' q.now t.3 c.keeps t.4 in
          let adds = opening_adds g old new log log' wire o (findings.opens d) t.1 sound opens calls calls' told told' q.now t.3 some c.keeps in
          let last = opens_last old new log log' wire o (findings.opens d) opens calls calls' told told' c.room q.now (now_below calls q.now t.4.within) t.5 in
          stage_tells s after.bytes.items after.done (bytes ∙ k.2) opens_so behind calls calls' q at' t f (opening_repeats g old new log log' wire o (findings.opens d) t.1 sound opens calls calls' told told' q.now t.3 t.7) adds c.room placed c.came lists last;
    }

-- ---- before it

-- nothing was asked for
none_asked : (calls : List Call) (g : GetTask) (q : Places) → q.now ≡ [] → (m : ℕ) → m ≤ 5 → FallsAt (IsFindAt g None) calls 5 q.now m
none_asked calls g q none m less = subst (λ (l : List ℕ). FallsAt (IsFindAt g None) calls 5 l m) (sym none) (falls_none (IsFindAt g None) calls 5 m less)

-- A new opening goes on from where nothing was asked for.
pub opening_begins : (old new : Awaited) (log log' : LogTold) (wire : ℤ) (job after : GetPlayer) (opening : OpenDownloadStream) → IsOpeningFor (sought job.what) (finding_of opening) → (finding_of opening).doing ≡ findings.starts → IsSoundFinding (finding_of opening)
    → GetTurns old new log log' wire (record job { stage = gets.Opens opening }) after → GetTurns old new log log' wire (record job { stage = gets.Unsent }) after
opening_begins old new log log' wire job after opening aim new_one sound rest =
    let o : ClientFinding = finding_of opening in
    let g : GetTask = sought job.what in
    record {
      next = rest.next;
      turned = λ calls told own at k.
          rest.turned calls told own at (record {
            knows = (aim, record { placed = λ b there. (aim.placed b there).named; by = subst (LookingKnown old calls g.at o.id) (sym new_one) tt }, k.knows.0, k.knows.1);
            owns = k.owns ∙ ap (looking_owner old) (sym new_one);
          });
      told = λ calls calls' told told' q at at' placed k t.
          rest.told calls calls' told told' q at at' placed (aim, record { placed = λ b there. (aim.placed b there).named; by = subst (LookingKnown old calls g.at o.id) (sym new_one) tt }, k.0, k.1) (
            t.0,
            aim,
            sound,
            λ b is. subst (LookingUnderway old (sent_at q.now calls wire) b o.id) (sym new_one) tt,
            subst (FindsSoFar calls g q.now) (sym new_one) (none_asked calls g q t.1 5 (omega arith)),
            subst (FindingLast old (λ (n : ℕ). IsOf q.now n)) (sym new_one) tt,
            λ none. t.1,
            subst (FindsFar old calls g q.now) (sym new_one) t.1,
          );
    }

-- It fails before it has asked for anything.
pub fails_unsent : (awaited : Awaited) (log : LogTold) (wire : ℤ) (job : GetPlayer) (e : Error) → job.done ≡ 0 → ((calls : List Call) (q : Places) → TellsGetFails calls wire q (sought job.what) job.bytes.items job.done e) → GetTurns awaited awaited log log wire (record job { stage = gets.Unsent }) (record job { stage = gets.Ended (ended.Failed e) })
fails_unsent awaited log wire job e first why = record {
  next = no_move;
  turned = λ calls told own at k. (calls, told, record { place = at; placed = refl; owner = nobody; plays = record { knows = tt; owns = refl }; passes = subst (λ (y : Owner). Passes calls calls y nobody) (sym k.owns) (passes_same calls nobody (holds_nobody calls)) });
  told = λ calls calls' told told' q at at' placed k t.
      subst (λ (c : List Call). GetTell awaited calls c wire q job.done (sought job.what) (gets.Ended (ended.Failed e)) job.bytes.items job.done at') (same_told log calls calls' told told')
      (record { longer = omega arith; places = q; tells = (why calls q, tells.in_opening t.0 first k.0 None (record { finds = none_asked calls (sought job.what) q t.1 1 (omega arith); heard = λ f is. let bad : None ≡ Some f = is in absurd cc; sends = far_finds awaited calls (sought job.what) q.now findings.starts t.1 })); extends = extends_same q job.done job.done (length calls) refl; adds = adds_none (IsGetCommand (sought job.what)) calls });
}

-- ---- a read

-- there is room for a byte
pub some_room : (read : ℕ) → 0 < read → 0 < room_of read
some_room zero some = absurd (omega (arith, some))
some_room (suc n) some = omega arith

-- how it stands, or why it failed, in a later log
module _ (awaited : Awaited) (past past' call call' : Past) (grows : Grows past past') (still : SendsNoMore call call') (onward : Onward past.calls past'.calls nobody) (calls : List Call) (g : GetTask) (f : FileRecord) (listed size : ℕ) (b d : ClientDownload) (given : List ℕ) where
  leaves_grow : (r : ReadPoll) → ReadLeaves awaited past call calls g f listed size b d given r → ReadLeaves awaited past' call' calls g f listed size b d given r
  leaves_grow read.Pending l = (lists_grow past past' grows onward g d l.0, goes_grow call call' still past past' grows g size awaited awaited b d d.doing (λ m e. refl) l.1)
  leaves_grow (read.Read n) l = (lists_grow past past' grows onward g d l.0, elim l.1 [ inl gave ↦ inl (gave.0, gives_grow call call' still size b d given gave.1) | inr none ↦ inr (none.0, none.1, λ place of. none.2 place (sent_back call call' still place of)) ])
  leaves_grow (read.Failed e) l = (
    stops_grow past past' grows onward (ListsOther calls g.at f listed e) (ListsOther calls g.at f listed e) (heard_empty_grows call call' still past past' grows g f b) (λ s. s) e l.0,
    fails_so_grow call call' still.just size b e l.1,
  )

module _ (old new : Awaited) (log log' : LogTold) (wire : ℤ) (job : GetPlayer) (download : GridFsDownloadStream) (hand : Vec ℕ Global) (sound : IsDownload download) (some : 0 < job.what.read) (long : length hand.items ≡ room_of job.what.read) (d' : ClientDownload) (r : ReadPoll) (given : List ℕ)
    (reads_so : Reads old new log log' wire (length hand.items) (download_of download) d' given r) (caused : ReadCaused old new log log' wire (download_of download) d' r) where
  abbrev task : GetTask
  task = sought job.what

  abbrev before : ClientDownload
  before = download_of download

  on_it : AsksPlainly before → ReadsOn log log' before d'
  on_it plain = read_on old new log log' wire (length hand.items) before d' given r sound.between.sound plain reads_so

  abbrev Told : List Call → Places → Option ℕ → Type 0
  Told calls q at = GetTells old calls wire q task (gets.Reads download hand) job.bytes.items job.done at

  -- the read in the log behind it
  record ReadCome (calls calls' : List Call) (q : Places) : Type 0 where
    keeps : Keeps calls calls'
    room : length calls ≤ length calls'
    came : files.ReadCame new (past_of q.now (length calls) calls' wire) before d' r
    adds : AddsOnly (IsGetCommand task) calls calls'
    behind : MoresBehind new calls' (sent_since (all_places q) (length calls) (length calls')) (length calls) d'

  come_to : (calls calls' : List Call) → log ≡ Some calls → log' ≡ Some calls' → (q : Places) (at : Option ℕ) → Told calls q at → ReadCome calls calls' q
  come_to calls calls' told told' q at t =
      let x = caused calls told q.now t.2 in
      let keeps = keeps_to log' calls x.0 calls' x.1 told' x.2 in
      let s = (on_it t.4).such in
      let more : AddsOnly AsksForMore calls calls' = adds_sent AsksForMore log log' s.commands s.adds s.such calls calls' told told' keeps in
      record {
        keeps = keeps;
        room = keeps_longer calls calls' keeps;
        came = subst (λ (c : List Call). files.ReadCame new (past_of q.now (length calls) c wire) before d' r) (same_told log' x.0 calls' x.1 told') x.3;
        adds = adds_more task some calls calls' more;
        behind = read_last old new log log' wire (length hand.items) before d' given r sound.between.sound t.4 reads_so calls calls' told told' (keeps_longer calls calls' keeps) (all_places q) (all_below calls q t.0.finds.within t.0.more) t.6;
      }

  -- what was in hand before it was heard
  held_by : (calls calls' : List Call) (q q' : Places) (at : Option ℕ) → Keeps calls calls' → all_places q' ≡ sent_since (all_places q) (length calls) (length calls') → Told calls q at → (c : ClientCursor) → cursor_in before.doing ≡ Some c → HeardHeld (sent_at (all_places q') calls' wire) task before.file c
  held_by calls calls' q q' at keeps whole t c its =
      let all : List ℕ = all_places q in
      let here : Past = past_of all (length calls) calls' wire in
      subst (λ (l : List ℕ). HeardHeld (sent_at l calls' wire) task before.file c) (sym whole)
      (held_grows here (sent_at (sent_since all (length calls) (length calls')) calls' wire) (grows_ended all (length calls) calls' wire) task before.file c
      (held_grows (sent_at all calls wire) here (log_grows all (length calls) calls calls' wire keeps) task before.file c (λ bytes is. ((t.5 c its).held bytes is).1.heard)))

  -- how its cursor stands behind it, or why it failed
  left_by : (calls calls' : List Call) → log ≡ Some calls → log' ≡ Some calls' → (q q' : Places) (at : Option ℕ) (k : GetKnowsAt old calls task (gets.Reads download hand) job.bytes.items at) (t : Told calls q at) → all_places q' ≡ sent_since (all_places q) (length calls) (length calls')
      → ReadLeaves new (sent_at (all_places q') calls' wire) (sent_at (sent_since q.now (length calls) (length calls')) calls' wire) calls' task before.file k.0 (room_of task.read) t.7.last d' given r
  left_by calls calls' told told' q q' at k t whole =
      let all : List ℕ = all_places q in
      let under = fetching_grows (sent_at q.now calls wire) (sent_at all calls wire) (grows_among q.now all (length calls) calls wire (λ place of. in_second q.opened (concat q.owns ++ q.now) place (in_second (concat q.owns) q.now place of))) old old before (λ m e. refl) t.2 in
      let found = t.0.heard.heard in
      let within = get_within calls found.place found.heard.call found.heard.there in
      let some_calls : 0 < length calls = omega (arith, within) in
      let full = some_room job.what.read some in
      let b : ClientDownload = t.7.last in
      let size : ℕ = room_of task.read in
      let x = read_leaves old new log log' wire task before d' given r sound.between.sound calls told all q.now job.bytes.items k.0 k.1 under t.5 t.2 b size t.7.goes some_calls full (subst (λ (n : ℕ). Reads old new log log' wire n before d' given r) long reads_so) in
      let here : ReadLeaves new (past_of all (length calls) calls' wire) (past_of q.now (length calls) calls' wire) calls' task before.file k.0 size b d' given r
      = subst (λ (c : List Call). ReadLeaves new (past_of all (length calls) c wire) (past_of q.now (length calls) c wire) c task before.file k.0 size b d' given r) (same_told log' x.calls' calls' x.told' told') x.leaves in
      let now : Past = sent_at (sent_since q.now (length calls) (length calls')) calls' wire in
      subst (λ (l : List ℕ). ReadLeaves new (sent_at l calls' wire) now calls' task before.file k.0 size b d' given r) (sym whole)
      (leaves_grow new (past_of all (length calls) calls' wire) (sent_at (sent_since all (length calls) (length calls')) calls' wire) (past_of q.now (length calls) calls' wire) now (grows_ended all (length calls) calls' wire) (ended_just q.now (length calls) calls' wire (come_to calls calls' told told' q at t).room) (onward_refl calls' nobody) calls' task before.file k.0 size b d' given r here)

  -- what its calls before gave, in the log behind it
  before_so : (calls calls' : List Call) (q : Places) (at : Option ℕ) → Keeps calls calls' → (t : Told calls q at) → HasRead calls' wire task before.file q.opened q.owns job.bytes.items t.7.last
  before_so calls calls' q at keeps t =
      read_later calls calls' wire keeps task before.file q.opened q.owns job.bytes.items t.7.last
      (λ place of. all_below calls q t.0.finds.within t.0.more place (in_second q.opened (concat q.owns ++ q.now) place (in_first (concat q.owns) q.now place of))) t.7.so_far

  -- what it gave before is the front of what it read
  front_so : (calls calls' : List Call) → Onward calls calls' nobody → (at : Option ℕ) → GetKnowsAt old calls task (gets.Reads download hand) job.bytes.items at → EndsAsListed calls task.at before job.bytes.items at → (job.bytes.items ≡ []) ⊎ HasFront calls' task before.file job.bytes.items at
  front_so calls calls' onward at k e =
      elim (front_lists old calls task.at before job.bytes.items k.1.of_record.front.place k.0 before.doing refl k.3 k.1.by (subst (EndsAsListed calls task.at before job.bytes.items) k.2 e)) [
        | inl none ↦ inl (first_none job.bytes.items before.ahead none.1)
        | inr l ↦ inr (record { listed = k.0; here = k.2; count = before.count; counted = sound.between.sound.sizes.counted; more = before.ahead; lists = so_grows calls calls' task.at before.file k.0 (FirstHold before.file (job.bytes.items ++ before.ahead)) onward l })
      ]

  -- as the record of the file is the same
  same_file : {calls : List Call} {opened : List ℕ} {owns : List (List ℕ)} {bytes : List ℕ} {last : ClientDownload} (f f' : FileRecord) → HasRead calls wire task f opened owns bytes last → f ≡ f' → HasRead calls wire task f' opened owns bytes last
  same_file f f' h is = record { first = h.first; begun = h.begun; file = h.file ∙ is; gave = h.gave }

  -- what its opening heard is told so by a later log, where more chunks were asked for
  still_opened : (calls calls' : List Call) (q q' : Places) (f f' : FileRecord) (at : Option ℕ) → Keeps calls calls' → q'.opened ≡ q.opened → f' ≡ f → (AllAskOn calls (all_places q) (concat q.owns ++ q.now) → AllAskOn calls' (all_places q') (concat q'.owns ++ q'.now)) → TellsGetOpened calls wire q task f at → TellsGetOpened calls' wire q' task f' at
  still_opened calls calls' q q' f f' at keeps same file asks t = record {
    heard = subst (λ (x : FileRecord). HeardRecord (sent_at q'.opened calls' wire) (plain_bucket task.at) task.id (Some x)) (sym file)
        (subst (λ (l : List ℕ). HeardRecord (sent_at l calls' wire) (plain_bucket task.at) task.id (Some f)) (sym same)
        (record_grows (sent_at q.opened calls wire) (sent_at q.opened calls' wire) (grows_later q.opened calls calls' wire keeps) (plain_bucket task.at) task.id (Some f) t.heard));
    named = t.named;
    listed = λ place is. subst (λ (l : List ℕ). IsOf l place) (sym same) (t.listed place is);
    finds = subst (λ (x : FileRecord). FallsAt (IsFindAt task (Some x)) calls' 5 q'.opened 1) (sym file)
        (subst (λ (l : List ℕ). FallsAt (IsFindAt task (Some f)) calls' 5 l 1) (sym same) (falls_later (IsFindAt task (Some f)) calls calls' 5 q.opened 1 keeps t.finds));
    sends = subst (λ (x : FileRecord). FindsAt calls' task (Some x) q'.opened) (sym file) (subst (FindsAt calls' task (Some f)) (sym same) (finds_later calls calls' keeps task (Some f) q.opened t.sends));
    more = asks t.more;
  }

-- its reply pends
pub read_waits : (old new : Awaited) (log log' : LogTold) (wire : ℤ) (job : GetPlayer) (download : GridFsDownloadStream) (hand : Vec ℕ Global) → IsDownload download → 0 < job.what.read → length hand.items ≡ room_of job.what.read → (download' : GridFsDownloadStream) (hand' : Vec ℕ Global) (given : List ℕ) → IsSome (download_ticket (download_of download')) → IsDownload download'
    → Reads old new log log' wire (length hand.items) (download_of download) (download_of download') given read.Pending → ReadCaused old new log log' wire (download_of download) (download_of download') read.Pending → ReadKnows old new log log' (sought job.what).at (download_of download) (download_of download') hand'.items read.Pending
    → ((download_of download').doing ≡ downloads.spoiled → ⊥) → GetTurns old new log log' wire (record job { stage = gets.Reads download hand }) (record job { stage = gets.Reads download' hand' })
read_waits old new log log' wire job download hand sound some long download' hand' given held sound' reads_so caused knows unspoiled =
    let g : GetTask = sought job.what in
    let d : ClientDownload = download_of download in
    let d' : ClientDownload = download_of download' in
    record {
      next = no_move;
      turned = λ calls told own at k.
          let x = knows calls told g.id job.bytes.items k.knows.0 k.knows.1 in
          (x.0, x.1, record { place = at; placed = refl; owner = doing_owner new d'.doing; plays = record { knows = (k.knows.0, x.3, k.knows.2, unspoiled); owns = refl }; passes = subst (λ (y : Owner). Passes calls x.0 y (doing_owner new d'.doing)) (sym k.owns) x.2 });
      told = λ calls calls' told told' q at at' placed k t.
          let c = come_to old new log log' wire job download hand sound some long d' read.Pending given reads_so caused calls calls' told told' q at t in
          let on = on_it old new log log' wire job download hand sound some long d' read.Pending given reads_so caused t.4 in
          let q' : Places = going_on q (length calls) (length calls') in
          let past : Past = past_of q.now (length calls) calls' wire in
          let left = left_by old new log log' wire job download hand sound some long d' read.Pending given reads_so caused calls calls' told told' q q' at k t (extends_going q job.done job.done (length calls) (length calls') refl c.room).whole in
          record {
            longer = c.room;
            places = q';
            tells = (
              subst (λ (x : Option ℕ). TellsGetOpened calls' wire q' g d'.file x) (sym placed) (still_opened old new log log' wire job download hand sound some long d' read.Pending given reads_so caused calls calls' q q' d.file d'.file at c.keeps refl on.file (asks_going calls calls' c.keeps q c.behind.mores) t.0),
              t.1,
              fetching_grows past (sent_at q'.now calls' wire) (grows_ended q.now (length calls) calls' wire) new new d' (λ m e. refl) c.came,
              sound',
              on.plain,
              left.0,
              subst (λ (l : List ℕ). DownloadLast new calls' (λ (n : ℕ). IsOf l n) d') (sym (whole_going q (length calls) (length calls'))) c.behind.last,
              record { last = t.7.last; so_far = same_file old new log log' wire job download hand sound some long d' read.Pending given reads_so caused d.file d'.file (before_so old new log log' wire job download hand sound some long d' read.Pending given reads_so caused calls calls' q at c.keeps t) (sym on.file); goes = left.1 },
              subst (λ (x : Option ℕ). EndsAsListed calls' g.at d' job.bytes.items x) (sym placed) (ends_on old new log log' wire (length hand.items) d d' given read.Pending calls calls' c.keeps g.at job.bytes.items job.bytes.items k.1.of_record.front.place k.0 at k.2 on.file (λ e. refl) k.1.by k.3 t.8 reads_so),
              λ free. absurd (held_none (download_ticket d') held free),
            );
            extends = extends_going q job.done job.done (length calls) (length calls') refl c.room;
            adds = c.adds;
          };
    }

-- a list without a length is empty
none_long : (l : List ℕ) → length l ≡ 0 → l ≡ []
none_long [] none = refl
none_long (x ∷ l) none = absurd cc

-- it failed
pub read_fails : (old new : Awaited) (log log' : LogTold) (wire : ℤ) (job : GetPlayer) (download : GridFsDownloadStream) (hand : Vec ℕ Global) → IsDownload download → 0 < job.what.read → length hand.items ≡ room_of job.what.read → (d' : ClientDownload) (now given : List ℕ) (e : Error) → Reads old new log log' wire (length hand.items) (download_of download) d' given (read.Failed e)
    → ReadCaused old new log log' wire (download_of download) d' (read.Failed e) → ReadKnows old new log log' (sought job.what).at (download_of download) d' now (read.Failed e) → GetTurns old new log log' wire (record job { stage = gets.Reads download hand }) (record job { stage = gets.Ended (ended.Failed e) })
read_fails old new log log' wire job download hand sound some long d' now given e reads_so caused knows =
    let g : GetTask = sought job.what in
    let d : ClientDownload = download_of download in
    record {
      next = no_move;
      turned = λ calls told own at k.
          let x = knows calls told g.id job.bytes.items k.knows.0 k.knows.1 in
          (x.0, x.1, record { place = at; placed = refl; owner = nobody; plays = record { knows = tt; owns = refl }; passes = to_nobody calls x.0 own (doing_owner new d'.doing) (subst (λ (y : Owner). Passes calls x.0 y (doing_owner new d'.doing)) (sym k.owns) x.2) });
      told = λ calls calls' told told' q at at' placed k t.
          let c = come_to old new log log' wire job download hand sound some long d' (read.Failed e) given reads_so caused calls calls' told told' q at t in
          let q' : Places = going_on q (length calls) (length calls') in
          let past : Past = past_of q.now (length calls) calls' wire in
          let still = still_opened old new log log' wire job download hand sound some long d' (read.Failed e) given reads_so caused calls calls' q q' d.file d.file at c.keeps refl refl (asks_going calls calls' c.keeps q c.behind.mores) t.0 in
          let left = left_by old new log log' wire job download hand sound some long d' (read.Failed e) given reads_so caused calls calls' told told' q q' at k t (extends_going q job.done job.done (length calls) (length calls') refl c.room).whole in
          record {
            longer = c.room;
            places = q';
            tells = (
              tells.not_read some (let count = t.1 in omega (arith, count)) d at still c.came.0
                  (read_fails_grow past (sent_at q'.now calls' wire) (grows_ended q.now (length calls) calls' wire) d c.came.0 e c.came.2) c.came.1 sound.between.sound t.4 t.1 t.7.last k.0 (t.0.listed k.0 k.2)
                  (held_by old new log log' wire job download hand sound some long d' (read.Failed e) given reads_so caused calls calls' q q' at c.keeps (extends_going q job.done job.done (length calls) (length calls') refl c.room).whole t c.came.0 c.came.1)
                  left.0
                  (before_so old new log log' wire job download hand sound some long d' (read.Failed e) given reads_so caused calls calls' q at c.keeps t) left.1,
              tells.behind_it d.file at still t.1 (front_so old new log log' wire job download hand sound some long d' (read.Failed e) given reads_so caused calls calls' (let x = knows calls told g.id job.bytes.items k.0 k.1 in onward_to log' calls x.0 calls' (doing_owner old d.doing) (doing_owner new d'.doing) x.1 told' x.2) at k t.8) t.7.last (before_so old new log log' wire job download hand sound some long d' (read.Failed e) given reads_so caused calls calls' q at c.keeps t),
            );
            extends = extends_going q job.done job.done (length calls) (length calls') refl c.room;
            adds = c.adds;
          };
    }

-- ---- a read that gave bytes

-- of a download that is to be read on nothing is on its way
giving_fetching : (awaited : Awaited) (past : Past) (d : ClientDownload) (doing : Doing) → downloads.SoundBy d doing → IsGiving doing → (c : ClientCursor) → cursor_in doing ≡ Some c → IsUnderway awaited past c
giving_fetching awaited past d (downloads.idle cursor) sound gives c is = let same : cursor ≡ c = cc in subst (λ (x : ClientCursor). IsUnderway awaited past x) same (at_rest cursor.doing sound.2)
  where
    at_rest : (x : client.Doing) → downloads.IsAtRest x → UnderwayBy awaited past cursor x
    at_rest client.rests rests = tt
    at_rest (client.holds reply) rests = tt
    at_rest (client.asks sending) rests = absurd rests
giving_fetching awaited past d (downloads.reads cursor missing empty) sound gives c is = absurd gives
giving_fetching awaited past d downloads.ended sound gives c is = absurd cc
giving_fetching awaited past d downloads.spoiled sound gives c is = absurd gives

module _ (old new : Awaited) (log log' : LogTold) (wire : ℤ) (job after : GetPlayer) (what : after.what ≡ job.what) (download : GridFsDownloadStream) (hand : Vec ℕ Global) (sound : IsDownload download) (some : 0 < job.what.read) (long : length hand.items ≡ room_of job.what.read) (download' : GridFsDownloadStream) (hand' : Vec ℕ Global) (sound' : IsDownload download') (given : List ℕ) (count : ℕ)
    (reads_so : Reads old new log log' wire (length hand.items) (download_of download) (download_of download') given (read.Read count)) (caused : ReadCaused old new log log' wire (download_of download) (download_of download') (read.Read count))
    (knows : ReadKnows old new log log' (sought job.what).at (download_of download) (download_of download') hand'.items (read.Read count)) (nothing : ReadsNothing (length hand.items) (download_of download) (download_of download') (read.Read count)) (tail : List ℕ) (fills : hand'.items ≡ given ++ tail) where
  abbrev aim : GetTask
  aim = sought job.what

  -- behind the last byte it has ended
  at_end : count ≡ 0 → ((download_of download).doing ≡ downloads.spoiled → ⊥) → (download_of download').doing ≡ downloads.ended
  at_end none unspoiled = elim (nothing (ap (λ (n : ℕ). read.Read n) none)) [
    | inl no_room ↦ (let full = some_room job.what.read some in absurd (omega (arith, full, long, no_room)))
    | inr other ↦ elim other [ inl bad ↦ absurd (unspoiled bad) | inr over ↦ over ]
  ]

  gives_so : 0 < count → IsGiving (download_of download').doing
  gives_so more = read_gives old new log log' wire (length hand.items) (download_of download) (download_of download') given (read.Read count) reads_so count more refl

  on_this : AsksPlainly (download_of download) → ReadsOn log log' (download_of download) (download_of download')
  on_this plain = on_it old new log log' wire job download hand sound some long (download_of download') (read.Read count) given reads_so caused plain

  -- where it gave nothing, what is known of it is so of the bytes before
  gave_none : after.bytes.items ≡ job.bytes.items → count ≡ 0 → (calls : List Call) (listed : ℕ) → KnowsDownload new calls aim.at aim.id (download_of download') (job.bytes.items ++ take count hand'.items) listed → KnowsDownload new calls aim.at aim.id (download_of download') after.bytes.items listed
  gave_none same none calls listed k =
      let these : job.bytes.items ++ take count hand'.items ≡ after.bytes.items = ap (λ (n : ℕ). job.bytes.items ++ take n hand'.items) none ∙ append-nil job.bytes.items ∙ sym same in
      subst (λ (l : List ℕ). KnowsDownload new calls aim.at aim.id (download_of download') l listed) these k

  kept_knows : (s : GetStage) → KeepsRead download' hand' count job.bytes.items after.bytes.items s → (calls : List Call) (at : Option ℕ) (listed : ℕ) → KnowsDownload new calls aim.at aim.id (download_of download') (job.bytes.items ++ take count hand'.items) listed → at ≡ Some listed → ((download_of download).doing ≡ downloads.spoiled → ⊥)
      → GetKnowsAt new calls aim s after.bytes.items at
  kept_knows gets.Unsent keeps calls at listed k is unspoiled = absurd keeps
  kept_knows (gets.Opens x) keeps calls at listed k is unspoiled = absurd keeps
  kept_knows (gets.Reads x room) keeps calls at listed k is unspoiled =
      subst (λ (y : GridFsDownloadStream). (n : ℕ) × KnowsDownload new calls aim.at aim.id (download_of y) after.bytes.items n × (at ≡ Some n) × ((download_of y).doing ≡ downloads.spoiled → ⊥)) (sym keeps.1)
      (listed, subst (λ (l : List ℕ). KnowsDownload new calls aim.at aim.id (download_of download') l listed) (sym keeps.3) k, is, λ bad. subst IsGiving bad (gives_so keeps.0))
  kept_knows (gets.Ended ended.Unfinished) keeps calls at listed k is unspoiled = absurd keeps.1
  kept_knows (gets.Ended (ended.Gave x)) keeps calls at listed k is unspoiled = (download_of download', listed, gave_none keeps.0 keeps.1 calls listed k, at_end keeps.1 unspoiled, is)
  kept_knows (gets.Ended (ended.Failed e)) keeps calls at listed k is unspoiled = tt

  kept_passes : (s : GetStage) → KeepsRead download' hand' count job.bytes.items after.bytes.items s → (calls calls' : List Call) (own : Owner) → Passes calls calls' own (doing_owner new (download_of download').doing) → Passes calls calls' own (get_owner new s)
  kept_passes gets.Unsent keeps calls calls' own p = absurd keeps
  kept_passes (gets.Opens x) keeps calls calls' own p = absurd keeps
  kept_passes (gets.Reads x room) keeps calls calls' own p = subst (λ (y : GridFsDownloadStream). Passes calls calls' own (doing_owner new (download_of y).doing)) (sym keeps.1) p
  kept_passes (gets.Ended end) keeps calls calls' own p = to_nobody calls calls' own (doing_owner new (download_of download').doing) p

  -- where it has ended, its list was asked for as before
  still_listed : (count ≡ 0 → after.bytes.items ≡ job.bytes.items) → (calls calls' : List Call) → Keeps calls calls' → (at : Option ℕ) (k : GetKnowsAt old calls aim (gets.Reads download hand) job.bytes.items at) → (download_of download').file ≡ (download_of download).file → EndsAsListed calls aim.at (download_of download) job.bytes.items at
      → EndsAsListed calls' aim.at (download_of download') after.bytes.items at
  still_listed same calls calls' keeps at k file e =
      ends_on old new log log' wire (length hand.items) (download_of download) (download_of download') given (read.Read count) calls calls' keeps aim.at job.bytes.items after.bytes.items k.1.of_record.front.place k.0 at k.2 file (λ none. same (let zero_is : count ≡ 0 = cc in zero_is)) k.1.by k.3 e reads_so

  -- what the call gave
  abbrev GaveSo : Past → ClientDownload → Type 0
  GaveSo call b = ((count ≡ length given) × GivesBy call (room_of aim.read) b (download_of download') given) ⊎ ((count ≡ 0) × (b.doing ≡ downloads.ended) × SentNone call)

  -- it gave some bytes
  one_more : (calls calls' : List Call) (q : Places) (at : Option ℕ) (t : GetTells old calls wire q aim (gets.Reads download hand) job.bytes.items job.done at) (f : FileRecord) → f ≡ (download_of download).file → Keeps calls calls' → 0 < count → after.bytes.items ≡ job.bytes.items ++ take count hand'.items → GaveSo (sent_at (sent_since q.now (length calls) (length calls')) calls' wire) t.7.last
      → HasRead calls' wire aim f q.opened (q.owns ++ sent_since q.now (length calls) (length calls') ∷ []) after.bytes.items (download_of download')
  one_more calls calls' q at t f same keeps more these (inr none) = absurd (let zero_is = none.0 in omega (arith, more, zero_is))
  one_more calls calls' q at t f same keeps more these (inl gave) =
      let h = before_so old new log log' wire job download hand sound some long (download_of download') (read.Read count) given reads_so caused calls calls' q at keeps t in
      let all : job.bytes.items ++ given ≡ after.bytes.items = sym (these ∙ ap (λ (l : List ℕ). job.bytes.items ++ l) (front_is hand'.items given tail count fills gave.0)) in
      let long_so = gave.0 in
      record {
        first = h.first;
        begun = h.begun;
        file = h.file ∙ sym same;
        gave = subst (λ (l : List ℕ). GaveAll calls' wire (room_of aim.read) h.first (q.owns ++ sent_since q.now (length calls) (length calls') ∷ []) l (download_of download')) all
            (gave_on calls' wire (room_of aim.read) h.first q.owns job.bytes.items t.7.last (sent_since q.now (length calls) (length calls')) given (download_of download') h.gave (omega (arith, more, long_so)) gave.1);
      }

  -- it gave none
  gave_no_byte : (call : Past) (b : ClientDownload) → count ≡ 0 → (download_of download').doing ≡ downloads.ended → GaveSo call b → GivesNone call (room_of aim.read) b
  gave_no_byte call b none over (inr quiet) = had_ended quiet.1 quiet.2
  gave_no_byte call b none over (inl gave) = ends_so (download_of download') over (subst (λ (l : List ℕ). GivesBy call (room_of aim.read) b (download_of download') l) (none_long given (sym gave.0 ∙ none)) gave.1)

  kept_tells : (s : GetStage) → KeepsRead download' hand' count job.bytes.items after.bytes.items s → after.done ≡ done_behind s job.done → (calls calls' : List Call) → log ≡ Some calls → log' ≡ Some calls' → (q : Places) (at : Option ℕ) → GetKnowsAt old calls aim (gets.Reads download hand) job.bytes.items at → GetTells old calls wire q aim (gets.Reads download hand) job.bytes.items job.done at → GetTell new calls calls' wire q job.done aim s after.bytes.items after.done at
  kept_tells gets.Unsent keeps behind calls calls' told told' q at k t = absurd keeps
  kept_tells (gets.Opens x) keeps behind calls calls' told told' q at k t = absurd keeps
  kept_tells (gets.Reads x room) keeps behind calls calls' told told' q at k t =
      let c = come_to old new log log' wire job download hand sound some long (download_of download') (read.Read count) given reads_so caused calls calls' told told' q at t in
      let on = on_this t.4 in
      let q' : Places = answered_by q (length calls) (length calls') in
      let left = left_by old new log log' wire job download hand sound some long (download_of download') (read.Read count) given reads_so caused calls calls' told told' q q' at k t (extends_answered q job.done after.done (length calls) (length calls') (sym t.1) c.room).whole in
      let more = length-append q.owns (sent_since q.now (length calls) (length calls') ∷ []) in
      let counted = t.1 in
      record {
        longer = c.room;
        places = q';
        tells = subst (λ (y : GridFsDownloadStream). GetTells new calls' wire q' aim (gets.Reads y room) after.bytes.items after.done at) (sym keeps.1) (
          still_opened old new log log' wire job download hand sound some long (download_of download') (read.Read count) given reads_so caused calls calls' q q' (download_of download).file (download_of download').file at c.keeps refl on.file (asks_answered calls calls' c.keeps q c.behind.mores) t.0,
          omega (arith, more, counted, behind),
          giving_fetching new (sent_at q'.now calls' wire) (download_of download') (download_of download').doing sound'.between.sound.by (gives_so keeps.0),
          sound',
          on.plain,
          left.0,
          subst (λ (l : List ℕ). DownloadLast new calls' (λ (n : ℕ). IsOf l n) (download_of download')) (sym (whole_answered q (length calls) (length calls'))) c.behind.last,
          record {
            last = download_of download';
            so_far = one_more calls calls' q at t (download_of download').file on.file c.keeps keeps.0 keeps.3 left.1;
            goes = giving_goes new (sent_at (all_places q') calls' wire) (sent_at q'.now calls' wire) aim (room_of aim.read) (download_of download') (download_of download').doing (gives_so keeps.0) (none_yet calls' wire);
          },
          still_listed (λ none. let more = keeps.0 in absurd (omega (arith, more, none))) calls calls' c.keeps at k on.file t.8,
          λ free. refl,
        );
        extends = extends_answered q job.done after.done (length calls) (length calls') (sym counted) c.room;
        adds = c.adds;
      }
  kept_tells (gets.Ended ended.Unfinished) keeps behind calls calls' told told' q at k t = absurd keeps.1
  kept_tells (gets.Ended (ended.Gave x)) keeps behind calls calls' told told' q at k t =
      let c = come_to old new log log' wire job download hand sound some long (download_of download') (read.Read count) given reads_so caused calls calls' told told' q at t in
      let q' : Places = going_on q (length calls) (length calls') in
      let f : FileRecord = (download_of download).file in
      let on = on_this t.4 in
      let x = knows calls told aim.id job.bytes.items k.0 k.1 in
      record {
        longer = c.room;
        places = q';
        tells = (
          some,
          f,
          still_opened old new log log' wire job download hand sound some long (download_of download') (read.Read count) given reads_so caused calls calls' q q' f f at c.keeps refl refl (asks_going calls calls' c.keeps q c.behind.mores) t.0,
          t.1 ∙ sym behind,
          record {
            download = download_of download';
            its = on.file;
            over = at_end keeps.1 k.3;
            listed = k.0;
            here = k.2;
            knows = gave_none keeps.0 keeps.1 calls' k.0 (subst (λ (l : List Call). KnowsDownload new l aim.at aim.id (download_of download') (job.bytes.items ++ take count hand'.items) k.0) (same_told log' x.0 calls' x.1 told') x.3);
            lists = still_listed (λ none. keeps.0) calls calls' c.keeps at k on.file t.8;
          },
          t.7.last,
          subst (λ (l : List ℕ). HasRead calls' wire aim f q.opened q.owns l t.7.last) (sym keeps.0) (before_so old new log log' wire job download hand sound some long (download_of download') (read.Read count) given reads_so caused calls calls' q at c.keeps t),
          gave_no_byte (sent_at (sent_since q.now (length calls) (length calls')) calls' wire) t.7.last keeps.1 (at_end keeps.1 k.3)
              (left_by old new log log' wire job download hand sound some long (download_of download') (read.Read count) given reads_so caused calls calls' told told' q q' at k t (extends_going q job.done after.done (length calls) (length calls') behind c.room).whole).1,
        );
        extends = extends_going q job.done after.done (length calls) (length calls') behind c.room;
        adds = c.adds;
      }
  kept_tells (gets.Ended (ended.Failed e)) keeps behind calls calls' told told' q at k t =
      let c = come_to old new log log' wire job download hand sound some long (download_of download') (read.Read count) given reads_so caused calls calls' told told' q at t in
      let q' : Places = going_on q (length calls) (length calls') in
      let f : FileRecord = (download_of download).file in
      let still = still_opened old new log log' wire job download hand sound some long (download_of download') (read.Read count) given reads_so caused calls calls' q q' f f at c.keeps refl refl (asks_going calls calls' c.keeps q c.behind.mores) t.0 in
      record {
        longer = c.room;
        places = q';
        tells = (tells.out_of_memory (ap (λ (x : Error). x.kind) keeps.1.1), tells.behind_it f at still (t.1 ∙ sym behind) (subst (λ (l : List ℕ). (l ≡ []) ⊎ HasFront calls' aim f l at) (sym keeps.0) (front_so old new log log' wire job download hand sound some long (download_of download') (read.Read count) given reads_so caused calls calls' (let x = knows calls told aim.id job.bytes.items k.0 k.1 in onward_to log' calls x.0 calls' (doing_owner old (download_of download).doing) (doing_owner new (download_of download').doing) x.1 told' x.2) at k t.8)) t.7.last (subst (λ (l : List ℕ). HasRead calls' wire aim f q.opened q.owns l t.7.last) (sym keeps.0) (before_so old new log log' wire job download hand sound some long (download_of download') (read.Read count) given reads_so caused calls calls' q at c.keeps t)));
        extends = extends_going q job.done after.done (length calls) (length calls') behind c.room;
        adds = c.adds;
      }

  pub read_done : (s : GetStage) → KeepsRead download' hand' count job.bytes.items after.bytes.items s → after.done ≡ done_behind s job.done → GetTurns old new log log' wire (record job { stage = gets.Reads download hand }) (record after { stage = s })
  read_done s keeps behind = record {
    next = no_move;
    turned = λ calls told own at k.
        let x = knows calls told aim.id job.bytes.items k.knows.0 k.knows.1 in
        let passes : Passes calls x.0 own (doing_owner new (download_of download').doing) = subst (λ (y : Owner). Passes calls x.0 y (doing_owner new (download_of download').doing)) (sym k.owns) x.2 in (
          x.0,
          x.1,
          record {
            place = at;
            placed = refl;
            owner = get_owner new s;
            plays = record { knows = subst (λ w. GetKnowsAt new x.0 (sought w) s after.bytes.items at) (sym what) (kept_knows s keeps x.0 at k.knows.0 x.3 k.knows.2 k.knows.3); owns = refl };
            passes = kept_passes s keeps calls x.0 own passes;
          },
        );
    told = λ calls calls' told told' q at at' placed k t.
        subst (λ (x : Option ℕ). GetTell new calls calls' wire q job.done aim s after.bytes.items after.done x) (sym placed) (kept_tells s keeps behind calls calls' told told' q at k t);
  }
