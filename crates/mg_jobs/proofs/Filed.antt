-- What becomes of files, by the steps of their jobs.
use Rattle.std.proofs.Common.{◌≡◌, ◌⊎◌, ◌+◌, ◌-◌, ◌<◌, ◌≤◌, ◌++◌, ◌∷◌, [], ℕ, zero, suc, ℤ, List, Option, Some, None, Ok, option_map, length, take, refl, sym, ap, ◌∙◌, subst, inl, inr, arith, append-nil, append_assoc}
use Rattle.std.specs.Prelude.{codes, option_and_then, slice_get, unwrap_or}
use Rattle.std.specs.List.{concat}
use Rattle.std.proofs.lemmas.List.{take_all}
use Rattle.mg_bson.specs.Find.{get}
use Rattle.mg_bson.specs.Raw.{fields}
use Rattle.mg_bson.specs.Tree.{Fields, Tree}
use Rattle.mg_link.specs.Numbers.{as_integer}
use Rattle.mg_server.specs.Commands.{Asked, asked, asked_by, asks_more, asks_other, asks_query, more_of, space_at}
use Rattle.mg_link.specs.Chunks.{chunked}
use Rattle.mg_server.specs.Files.{AreChunks, Bucket, File, IsWhole, LeavesFile, chunks_space, file_of}
use Rattle.mg_server.specs.Calls.{Past}
use Rattle.mg_server.specs.Filing as filing
use Rattle.mg_server.specs.Filing.{IsOwnStep, KnowsFile, Leaves, cleared}
use Rattle.mg_server.specs.History.{IsLegal, IsLegalFrom, Step, state_after, state_of, step_after, told_at}
use Rattle.mg_link.specs.Link.{Awaited}
use Rattle.mg_link.specs.Log.{Call}
use Rattle.mg_server.specs.Owner.{IsOf, Owner}
use Rattle.mg_link.specs.Namespace.{Space}
use Rattle.mg_server.specs.Standing.{Stands}
use Rattle.mg_server.specs.State.{State, nothing}
use Rattle.mg_server.specs.Step.{May}
use Rattle.mg_link.specs.declared.error.Error.{Error}
use Rattle.mg_server.proofs.Files.{quiet_stays}
use Rattle.mg_server.proofs.Owners.{same_some}
use Rattle.mg_link.proofs.Places.{get_within}
use Rattle.mg_gridfs.specs.Storing.{HasStored}
use Rattle.mg_gridfs.specs.Uploads.{fresh_upload}
use Rattle.mg_gridfs.proofs.Holding.{stored_is_whole}
use Rattle.mg_gridfs.specs.Downloaded.{KnowsBy, KnowsDownload, chunks_query}
use Rattle.mg_gridfs.specs.DownloadLaws.{IsBetween}
use Rattle.mg_gridfs.specs.Downloads as downloads
use Rattle.mg_gridfs.specs.Downloads.{ClientDownload, Doing}
use Rattle.mg_gridfs.specs.DownloadView.{download_of}
use Rattle.mg_gridfs.proofs.Meaning.{IsReading, find_reads, leaves_by, read_leaves}
use Rattle.mg_gridfs.proofs.ReadBack.{download_reads_until, stays_at}
use Rattle.mg_records.specs.FileRecords.{FileRecord, file_record_of}
use Rattle.mg_players.specs.Causes.{AllSentIn, Course, SentIn, places_of, sent_at}
use Rattle.mg_players.specs.Files.{AllHold, AsksAt, FindsBroken, FirstHold, FoundFirst, HasReadOther, IsFirstStepOf, IsLastStepOf, IsStepOf, LeftNoChunk, LeftWhole, ListsSo, NeverWhole, OthersLeave, OthersLeaveFrom, ReadsFile, no_record, not_counted, other_chunks}
use Rattle.mg_players.specs.Gets.{GetKnowsAt, GetTask, IsGetCommand, chunks_find, for_chunks, for_more, for_record, get_end, more_chunks, record_find, sought}
use Rattle.mg_players.specs.Headline.{GaveFront, GetGave, GetPlays, HasGivenFront}
use Rattle.mg_players.specs.Plays.{Places}
use Rattle.mg_players.specs.Reading.{EndsAsListed}
use Rattle.mg_players.specs.Puts.{PutTask, joined, put_aim}
use Rattle.mg_players.specs.Sends.{SendsOnly}
use Rattle.mg_players.specs.Telling as tells
use Rattle.mg_players.specs.Telling.{AllSent, GetTells, HasFront, TellsAsked, TellsGetOpened}
use Rattle.mg_players.specs.declared.get.GetPlayer.{GetPlayer}
use Rattle.mg_players.specs.declared.get.GetStage.{GetStage}
use Rattle.mg_players.specs.declared.get.GetStage.TheVariants as gets
use Rattle.mg_script.specs.declared.outcome.Ended.TheVariants as ended
use Rattle.mg_players.proofs.GetBlamed.{Blamed, FoundAt, OwnAt, blamed, found_at}
use Rattle.mg_players.proofs.GetBroken.{Broke, broke, count_broke, record_broke}
use Rattle.mg_players.proofs.GetDiffering.{whole_begins, whole_never}
use Rattle.mg_players.proofs.GetEnding.{ended_lists, front_lists}
use Rattle.mg_jobs.proofs.FindFirst.{find_first}
use Rattle.mg_jobs.proofs.PlacesRise.{Rise, of_rise, rise_first}
use Rattle.mg_jobs.proofs.Positions.{place_sent, sent_place}

-- ---- whose steps these are

module _ (c : Course) (i : ℕ) (calls : List Call) (wire : ℤ) (places : List ℕ) (whole : places ≡ places_of c i) where
  -- a step of the job is one of what it sent
  own_step : (position : ℕ) → IsStepOf c i calls position → IsOwnStep (sent_at places calls wire) position
  own_step position s =
      record {
        place = s.place;
        own = inl (subst (λ (l : List ℕ). IsOf l s.place) (sym whole) (sent_place c i s.done s.place s.sent));
        call = s.call;
        there = s.there;
        placed = s.placed;
      }

  -- and each of these is one of the job
  step_of : (position : ℕ) → IsOwnStep (sent_at places calls wire) position → IsStepOf c i calls position
  step_of position own = elim own.own [
    | inl is ↦
        let s = place_sent c i own.place (subst (λ (l : List ℕ). IsOf l own.place) whole is) in
        record { done = s.0; place = own.place; sent = s.1; call = own.call; there = own.there; placed = own.placed }
    | inr later ↦ let lt = get_within calls own.place own.call own.there in absurd (omega arith)
  ]

  pub others_leave : (history : List Step) (b : Bucket) (id : Tree) → OthersLeave c i calls history b id → filing.OthersLeave (sent_at places calls wire) history b id
  others_leave history b id leave =
      record {
        from = leave.from;
        nothing = leave.nothing;
        later = λ position own. leave.later position (step_of position own);
        each = λ position step low found. elim (leave.leave position step low (get_within history position step found) found) [
          | inl own ↦ inl (own_step position own)
          | inr leaves ↦ inr leaves
        ];
      }

-- behind the last step of the job nobody touches the file
pub left_behind : (c : Course) (i : ℕ) (calls : List Call) (history : List Step) (b : Bucket) (id : Tree) (last upto position : ℕ) (step : Step) → OthersLeave c i calls history b id → IsLastStepOf c i calls last → last < upto → upto ≤ position → slice_get history position ≡ Some step
    → LeavesFile (state_of (take position history)) step b id
left_behind c i calls history b id last upto position step leave is_last behind from found =
    let early = leave.later last is_last.own in
    elim (leave.leave position step (omega (arith, early, behind, from)) (get_within history position step found) found) [
      | inl own ↦ let before : position ≤ last = is_last.last position own in absurd (omega (arith, before, behind, from))
      | inr leaves ↦ leaves
    ]

-- ---- a file that is the same

-- where the file is the same it is whole as before
whole_same : (s s' : State) (b : Bucket) (id : Tree) (bytes : List ℕ) (size : ℕ) → file_of s' b id ≡ file_of s b id → IsWhole s b id bytes size → IsWhole s' b id bytes size
whole_same s s' b id bytes size same w =
    record {
      record_of = w.record_of;
      alone = ap (λ (f : File). f.records) same ∙ w.alone;
      length_is = w.length_is;
      size_is = w.size_is;
      chunks_are = subst (λ (ks : List Fields). AreChunks 0 (chunked size bytes) ks) (sym (ap (λ (f : File). f.chunks) same)) w.chunks_are;
    }

-- A file that is whole at the end, and that nobody touched from one position on, was whole there.
whole_at : (history : List Step) (b : Bucket) (id : Tree) (bytes : List ℕ) (size upto : ℕ) → ((position : ℕ) (step : Step) → upto ≤ position → slice_get history position ≡ Some step → LeavesFile (state_of (take position history)) step b id) → IsWhole (state_of history) b id bytes size
    → IsWhole (state_of (take upto history)) b id bytes size
whole_at history b id bytes size upto leaves w =
    let n : ℕ = upto + length history in
    let all : take n history ≡ history = take_all n history (omega arith) in
    let same = stays_at history b id upto leaves n (omega arith) in
    whole_same (state_of (take n history)) (state_of (take upto history)) b id bytes size (sym same) (subst (λ (h : List Step). IsWhole (state_of h) b id bytes size) (sym all) w)

-- ---- a put

-- A put whose file is stored left it whole.
pub put_left : (c : Course) (i : ℕ) (calls : List Call) (wire : ℤ) (places : List ℕ) (t : PutTask) → places ≡ places_of c i → HasStored (sent_at places calls wire) t.at (fresh_upload (put_aim t)) (joined t.pieces) → LeftWhole c i calls t.at t.id (joined t.pieces) t.chunk
put_left c i calls wire places t whole stored history legal stands leave last upto is_last behind =
    whole_at history t.at t.id (joined t.pieces) t.chunk upto (λ position step from found. left_behind c i calls history t.at t.id last upto position step leave is_last behind from found)
    (stored_is_whole (sent_at places calls wire) t.at (fresh_upload (put_aim t)) (joined t.pieces) stored history legal stands (others_leave c i calls wire places whole history t.at t.id leave))

-- A put that knows of no chunk left none.
pub put_cleared : (c : Course) (i : ℕ) (calls : List Call) (wire : ℤ) (places : List ℕ) (t : PutTask) → places ≡ places_of c i → KnowsFile (sent_at places calls wire) t.at t.id cleared → LeftNoChunk c i calls t.at t.id
put_cleared c i calls wire places t whole k history legal stands leave last upto is_last behind =
    let n : ℕ = upto + length history in
    let all : take n history ≡ history = take_all n history (omega arith) in
    let same = stays_at history t.at t.id upto (λ position step from found. left_behind c i calls history t.at t.id last upto position step leave is_last behind from found) n (omega arith) in
    ap (λ (f : File). f.chunks) (sym same) ∙ subst (λ (h : List Step). (file_of (state_of h) t.at t.id).chunks ≡ []) (sym all) (k.each history legal stands (others_leave c i calls wire places whole history t.at t.id leave))

-- one that sent nothing has no step
pub put_sent_none : (c : Course) (i : ℕ) (calls : List Call) (t : PutTask) → places_of c i ≡ [] → LeftNoChunk c i calls t.at t.id
put_sent_none c i calls t none history legal stands leave last upto is_last behind =
    let own = is_last.own in
    absurd (subst (λ (l : List ℕ). IsOf l own.place) none (sent_place c i own.done own.place own.sent))

-- ---- a get

-- what a step is caused by, in the state that it is taken in
pub may_in : (s : State) (history : List Step) (position : ℕ) (step : Step) → IsLegalFrom s history → slice_get history position ≡ Some step → May (state_after s (take position history)) (asked step.command) (told_at step) step.made
unfolding IsLegalFrom state_after
may_in s [] position step legal found = absurd cc
may_in s (y ∷ ys) zero step legal found = subst (λ (x : Step). May s (asked x.command) (told_at x) x.made) (same_some y step found) legal.0
may_in s (y ∷ ys) (suc position) step legal found = may_in (step_after s y) ys position step legal.1 found

-- a getMore asks for more, or for nothing that has a meaning
abbrev pub IsMore : Asked → Type 0
IsMore a = ((id : ℤ) × (space : Space) × (a ≡ asks_more id space)) ⊎ (a ≡ asks_other)

more_by : (id : Option ℤ) (space : Option Space) → IsMore (unwrap_or (option_and_then (λ x. option_map (asks_more x) space) id) asks_other)
more_by None space = inr refl
more_by (Some x) None = inr refl
more_by (Some x) (Some at) = inl (x, at, refl)

more_reads : (fs : Fields) → IsMore (unwrap_or (more_of fs) asks_other)
unfolding more_of
more_reads fs = more_by (option_and_then as_integer (get (codes "getMore") fs)) (space_at (codes "collection") fs)

pub next_reads : (command : List ℕ) (cursor : ℤ) (space : Space) → fields command ≡ more_chunks cursor space → IsMore (asked command)
unfolding asked
next_reads command cursor space is = subst (λ (fs : Fields). IsMore (unwrap_or (asked_by fs) asks_other)) (sym is) (more_reads (more_chunks cursor space))

more_leaves : (command : List ℕ) (at : Bucket) (id : Tree) → IsMore (asked command) → Leaves command at id
more_leaves command at id (inl m) = leaves_by command at id (asks_more m.0 m.1) m.2 tt tt
more_leaves command at id (inr other) = leaves_by command at id asks_other other tt tt

-- so it leaves each file
pub next_leaves : (command : List ℕ) (at : Bucket) (id : Tree) (cursor : ℤ) (space : Space) → fields command ≡ more_chunks cursor space → Leaves command at id
next_leaves command at id cursor space is = more_leaves command at id (next_reads command cursor space is)

-- a command that a get may send leaves each file
get_leaves : (g : GetTask) (command : List ℕ) (at : Bucket) (id : Tree) → IsGetCommand g (fields command) → Leaves command at id
unfolding asked
get_leaves g command at id (for_record some is) = read_leaves command at id (subst (λ (fs : Fields). IsReading (unwrap_or (asked_by fs) asks_other)) (sym is) (find_reads (record_find g)))
get_leaves g command at id (for_chunks some file is) = read_leaves command at id (subst (λ (fs : Fields). IsReading (unwrap_or (asked_by fs) asks_other)) (sym is) (find_reads (chunks_find g file)))
get_leaves g command at id (for_more some cursor space is) = next_leaves command at id cursor space is

module _ (c : Course) (i : ℕ) (calls : List Call) (g : GetTask) (sends : SendsOnly (IsGetCommand g) c i calls) (history : List Step) (legal : IsLegal history) (stands : Stands calls history) where
  -- so does each step of it
  own_leaves : (position : ℕ) (step : Step) → IsStepOf c i calls position → slice_get history position ≡ Some step → LeavesFile (state_of (take position history)) step g.at g.id
  own_leaves position step s found =
      let x = stands.same s.place s.call position s.there s.placed in
      let same : x.0 ≡ step = same_some x.0 step (sym x.1 ∙ found) in
      let command : step.command ≡ s.call.command = ap (λ (y : Step). y.command) (sym same) ∙ x.2 in
      get_leaves g s.call.command g.at g.id (sends.each s.done s.place s.call s.sent s.there) (state_of (take position history)) step command (may_in nothing history position step legal found)

  module _ (first last : ℕ) (is_first : IsFirstStepOf c i calls first) (is_last : IsLastStepOf c i calls last) (leave : OthersLeaveFrom c i calls history g.at g.id first last) where
    -- nobody touches the file from its first step to its last one
    pub all_leave : (position : ℕ) (step : Step) → first ≤ position → position < suc last → slice_get history position ≡ Some step → LeavesFile (state_of (take position history)) step g.at g.id
    all_leave position step low high found = elim (last_or position last high) [
      | inl before ↦ elim (leave position step low before found) [ inl own ↦ own_leaves position step own found | inr leaves ↦ leaves ]
      | inr is ↦ own_leaves position step (subst (IsStepOf c i calls) (sym is) is_last.own) found
    ]
      where
        last_or : (a b : ℕ) → a < suc b → (a < b) ⊎ (a ≡ b)
        last_or zero zero less = inr refl
        last_or zero (suc b) less = inl (omega arith)
        last_or (suc a) zero less = absurd (omega (arith, less))
        last_or (suc a) (suc b) less = elim (last_or a b (omega (arith, less))) [ inl below ↦ inl (omega (arith, below)) | inr same ↦ inr (ap suc same) ]

    -- a step of its own is one between them
    pub own_between : (done place : ℕ) → SentIn c i done place → IsBetween calls first (suc last) place
    own_between done place sent call position there placed =
        let own : IsStepOf c i calls position = record { done = done; place = place; sent = sent; call = call; there = there; placed = placed } in
        let low = is_first.first position own in
        let high = is_last.last position own in
        (low, omega (arith, high))

    -- What it read is the front of its file, and behind the end all of it.
    read_front : (awaited : Awaited) (d : ClientDownload) (bytes : List ℕ) (listed done : ℕ) → KnowsDownload awaited calls g.at g.id d bytes listed → (d.doing ≡ downloads.spoiled → ⊥) → SentIn c i done listed → (whole : List ℕ) (size : ℕ) → IsWhole (state_of (take first history)) g.at g.id whole size
        → (left : List ℕ) × (whole ≡ bytes ++ d.ahead ++ left) × (d.doing ≡ downloads.ended → left ≡ [])
    read_front awaited d bytes listed done k unspoiled sent whole size w = download_reads_until awaited calls g.at g.id d bytes listed k unspoiled history legal stands whole size first (suc last) w all_leave (own_between done listed sent)

-- nothing is ahead of what ended
none_ahead : (awaited : Awaited) (calls : List Call) (at : Bucket) (d : ClientDownload) (bytes : List ℕ) (place listed : ℕ) (doing : Doing) → doing ≡ downloads.ended → KnowsBy awaited calls at d bytes place listed doing → d.ahead ≡ []
none_ahead awaited calls at d bytes place listed (downloads.idle cursor) over k = absurd cc
none_ahead awaited calls at d bytes place listed (downloads.reads cursor missing empty) over k = absurd cc
none_ahead awaited calls at d bytes place listed downloads.ended over (inl none) = none.none_ahead
none_ahead awaited calls at d bytes place listed downloads.ended over (inr all) = all.none_ahead
none_ahead awaited calls at d bytes place listed downloads.spoiled over k = absurd cc

-- what was read before anything was is the front of each file
nothing_front : (c : Course) (i : ℕ) (calls : List Call) (g : GetTask) (bytes : List ℕ) → bytes ≡ [] → GaveFront c i calls g bytes
nothing_front c i calls g bytes none history legal stands first last is_first is_last leave whole size w = (whole, ap (λ (l : List ℕ). l ++ whole) (sym none))

-- the call that listed the chunks is one of its opening
listed_sent : (c : Course) (i n : ℕ) (calls : List Call) (wire : ℤ) (g : GetTask) (f : FileRecord) (at : Option ℕ) (q : Places) (listed : ℕ) → TellsGetOpened calls wire q g f at → AllSent c i q n → at ≡ Some listed → SentIn c i 0 listed
listed_sent c i n calls wire g f at q listed t sent is = sent.opened listed (t.listed listed is)

-- ---- chunks that are blamed

-- a step at one of these places is one of the job
its_own : (c : Course) (i k : ℕ) (calls : List Call) (wire : ℤ) (places : List ℕ) → AllSentIn c i k places → (position : ℕ) → OwnAt (sent_at places calls wire) position → IsStepOf c i calls position
its_own c i k calls wire places sent position x =
    let own : SentIn c i k x.place = elim x.own [
      | inl of ↦ sent x.place of
      | inr late ↦ let within = get_within calls x.place x.call x.there in absurd (omega (arith, late, within))
    ] in
    record { done = k; place = x.place; sent = own; call = x.call; there = x.there; placed = x.placed }

-- the find of the record, and the list of the chunks behind it
module _ (c : Course) (i n : ℕ) (calls : List Call) (wire : ℤ) (g : GetTask) (q : Places) (sent : AllSent c i q n) (f : FileRecord) (at : Option ℕ) (opened : TellsGetOpened calls wire q g f at) where
  abbrev its_past : Past
  its_past = sent_at q.opened calls wire

  -- the record that it found, in a history
  its_record : (history : List Step) → IsLegal history → Stands calls history → FoundAt its_past history g f
  its_record history legal stands = found_at its_past history legal stands g opened.named f opened.heard

  found_own : (history : List Step) (x : FoundAt its_past history g f) → IsStepOf c i calls x.position
  found_own history x = its_own c i 0 calls wire q.opened sent.opened x.position x.step

  abbrev found_first : (history : List Step) (x : FoundAt its_past history g f) → FoundFirst c i calls history g.at g.id
  found_first history x = record { opened = x.position; found_so = found_own history x; finds = x.finds; first = x.first; more = x.more; stood = x.stood }

  module _ (listed : ℕ) (own : IsOf q.opened listed) (call : Call) (there : slice_get calls listed ≡ Some call) (asks : asked call.command ≡ asks_query (chunks_query (chunks_space g.at) f.id)) where
    -- that before it listed the chunks
    found_before : (history : List Step) → Stands calls history → (x : FoundAt its_past history g f) (position : ℕ) → call.position ≡ Some position → x.position < position
    found_before history stands x position placed =
        let s = stands.same x.step.place x.step.call x.position x.step.there x.step.placed in
        let same : s.0 ≡ x.finds.step = same_some s.0 x.finds.step (sym s.1 ∙ x.finds.there) in
        let found : IsOf q.opened x.step.place = elim x.step.own [
          | inl of ↦ of
          | inr late ↦ let within = get_within calls x.step.place x.step.call x.step.there in absurd (omega (arith, late, within))
        ] in
        let rise = rise_first q.opened (concat q.owns ++ q.now) c.begun (subst (Rise c.begun) (sym sent.whole) (of_rise c i)) in
        let first = find_first g f calls opened.named c.begun 5 q.opened rise opened.finds.falling x.step.place listed x.step.call call found own x.step.there there
        (ap asked (sym s.2 ∙ ap (λ (y : Step). y.command) same) ∙ x.finds.asks) asks in
        stands.rising x.step.place listed x.step.call call x.position position first x.step.there there x.step.placed placed

    listed_own : (position : ℕ) → call.position ≡ Some position → IsStepOf c i calls position
    listed_own position placed = record { done = 0; place = listed; sent = sent.opened listed own; call = call; there = there; placed = placed }

    lists_at : (history : List Step) → Stands calls history → (position : ℕ) → call.position ≡ Some position → AsksAt history position (chunks_query (chunks_space g.at) f.id)
    lists_at history stands position placed = let s = stands.same listed call position there placed in record { step = s.0; there = s.1; asks = ap asked s.2 ∙ asks }

  -- where its file was whole before its first step, and untouched, that is its record
  record_same : SendsOnly (IsGetCommand g) c i calls → (history : List Step) → IsLegal history → Stands calls history → (first last : ℕ) → IsFirstStepOf c i calls first → IsLastStepOf c i calls last → OthersLeaveFrom c i calls history g.at g.id first last
      → (whole : List ℕ) (size : ℕ) (w : IsWhole (state_of (take first history)) g.at g.id whole size) → file_record_of w.record_of ≡ Ok f
  record_same sends history legal stands first last is_first is_last leave whole size w =
      let x = its_record history legal stands in
      let leaves = all_leave c i calls g sends history legal stands first last is_first is_last leave in
      let low = is_first.first x.position (found_own history x) in
      let high = is_last.last x.position (found_own history x) in
      let step = stands.same x.step.place x.step.call x.position x.step.there x.step.placed in
      let within = get_within history x.position step.0 step.1 in
      let m : ℕ = suc x.position - first in
      let all : first + m ≡ suc x.position = omega (arith, low) in
      let same : file_of (state_of (take (suc x.position) history)) g.at g.id ≡ file_of (state_of (take first history)) g.at g.id
      = subst (λ (k : ℕ). file_of (state_of (take k history)) g.at g.id ≡ file_of (state_of (take first history)) g.at g.id) all
      (quiet_stays history g.at g.id first m (omega (arith, all, within)) (λ p own lower higher found. leaves p own lower (omega (arith, all, high, higher)) found)) in
      let first_is : x.first ≡ w.record_of = same_some x.first w.record_of (ap (λ (l : List Fields). slice_get l 0) (sym x.stood ∙ ap (λ (y : File). y.records) same ∙ w.alone)) in
      ap file_record_of (sym first_is) ∙ x.reads_as

  -- what it read so
  reads_file : (Hold : FileRecord → List ℕ → List Fields → Type 0) (bytes : List ℕ) (listed : ℕ) → IsOf q.opened listed → ((f.length ≡ 0) × (bytes ≡ [])) ⊎ ListsSo calls g.at f listed (Hold f bytes) → (history : List Step) → IsLegal history → Stands calls history → ReadsFile Hold c i calls history g.at g.id f bytes
  reads_file Hold bytes listed own so history legal stands =
      let x = its_record history legal stands in
      record {
        found = found_first history x;
        reads_as = x.reads_as;
        bytes_so = elim so [
          | inl none ↦ inl none
          | inr l ↦
              let a = l.asked_so in
              let y = l.each history legal stands in
              inr (record { fetched = y.0; later = found_before listed own a.call a.there a.asks history stands x y.0 y.1; listed_so = listed_own listed own a.call a.there a.asks y.0 y.1; lists = lists_at listed own a.call a.there a.asks history stands y.0 y.1; chunks_so = y.2 })
        ];
      }

module _ (c : Course) (i n : ℕ) (calls : List Call) (wire : ℤ) (g : GetTask) (q : Places) (sent : AllSent c i q n) (e : Error) (b : Blamed calls wire q g e) where
  abbrev blamed_record : (history : List Step) → IsLegal history → Stands calls history → FoundAt (sent_at q.opened calls wire) history g b.file
  blamed_record history legal stands = its_record c i n calls wire g q sent b.file b.at b.opened history legal stands

  abbrev blamed_own : (history : List Step) (x : FoundAt (sent_at q.opened calls wire) history g b.file) → IsStepOf c i calls x.position
  blamed_own history x = found_own c i n calls wire g q sent b.file b.at b.opened history x

  -- it is not so of a whole file
  never_whole : SendsOnly (IsGetCommand g) c i calls → NeverWhole c i calls g.at g.id
  never_whole sends history legal stands first last is_first is_last leave whole size w =
      let leaves = all_leave c i calls g sends history legal stands first last is_first is_last leave in
      let its = record_same c i n calls wire g q sent b.file b.at b.opened sends history legal stands first last is_first is_last leave whole size w in
      whole_never calls g.at g.id b.file b.listed e b.other history legal stands whole size first (suc last) w its leaves
      (own_between c i calls g sends history legal stands first last is_first is_last leave 0 b.listed (sent.opened b.listed b.own))

  -- what it found and listed
  read_other : HasReadOther c i calls g.at g.id e
  read_other history legal stands =
      let x = blamed_record history legal stands in
      let o = b.other in
      let d = o.differ history legal stands in
      record {
        found = found_first c i n calls wire g q sent b.file b.at b.opened history x;
        file = b.file;
        reads_as = x.reads_as;
        count = o.count;
        counted = o.counted;
        fetched = d.0;
        later = found_before c i n calls wire g q sent b.file b.at b.opened b.listed b.own o.call o.there o.asks history stands x d.0 d.1;
        listed_so = listed_own c i n calls wire g q sent b.file b.at b.opened b.listed b.own o.call o.there o.asks d.0 d.1;
        lists = lists_at c i n calls wire g q sent b.file b.at b.opened b.listed b.own o.call o.there o.asks history stands d.0 d.1;
        differ = d.2;
      }

-- which record or chunks were broken, in a history
found_broken : (c : Course) (i n : ℕ) (calls : List Call) (wire : ℤ) (g : GetTask) (q : Places) → AllSent c i q n → (e : Error) (history : List Step) → IsLegal history → Stands calls history → Broke (sent_at q.now calls wire) history g e ⊎ Blamed calls wire q g e → FindsBroken c i calls history g.at g.id e
found_broken c i n calls wire g q sent e history legal stands (inl (record_broke opened own finds first more stood breaks)) =
    no_record (record { opened = opened; found_so = its_own c i n calls wire q.now sent.now opened own; finds = finds; first = first; more = more; stood = stood }) breaks
found_broken c i n calls wire g q sent e history legal stands (inl (count_broke opened own finds first more stood f reads breaks)) =
    not_counted (record { opened = opened; found_so = its_own c i n calls wire q.now sent.now opened own; finds = finds; first = first; more = more; stood = stood }) f reads breaks
found_broken c i n calls wire g q sent e history legal stands (inr b) = other_chunks (read_other c i n calls wire g q sent e b history legal stands)

-- ---- the bytes of a get that failed

-- what it gave begins the file
front_filed : (c : Course) (i n : ℕ) (calls : List Call) (wire : ℤ) (g : GetTask) (q : Places) (sent : AllSent c i q n) (f : FileRecord) (at : Option ℕ) (opened : TellsGetOpened calls wire q g f at) (bytes : List ℕ) → SendsOnly (IsGetCommand g) c i calls → HasFront calls g f bytes at → HasGivenFront c i calls g bytes
front_filed c i n calls wire g q sent f at opened bytes sends h =
    let own : IsOf q.opened h.listed = opened.listed h.listed h.here in (
      λ history legal stands first last is_first is_last leave whole size w.
          let leaves = all_leave c i calls g sends history legal stands first last is_first is_last leave in
          let its = record_same c i n calls wire g q sent f at opened sends history legal stands first last is_first is_last leave whole size w in
          let r = whole_begins calls g.at g.id f h.listed (bytes ++ h.more) h.count h.counted h.lists history legal stands whole size first (suc last) w its leaves (own_between c i calls g sends history legal stands first last is_first is_last leave 0 h.listed (sent.opened h.listed own)) in
          (h.more ++ r.0, r.1 ∙ append_assoc bytes h.more r.0),
      inr (record { file = f; more = h.more; reads = reads_file c i n calls wire g q sent f at opened FirstHold (bytes ++ h.more) h.listed own (inr h.lists) }),
    )

asked_filed : (c : Course) (i n : ℕ) (calls : List Call) (wire : ℤ) (g : GetTask) (q : Places) (bytes : List ℕ) (done : ℕ) → AllSent c i q n → SendsOnly (IsGetCommand g) c i calls → TellsAsked calls wire q g bytes done → HasGivenFront c i calls g bytes
asked_filed c i n calls wire g q bytes done sent sends (tells.in_opening silent first none found asks) = (nothing_front c i calls g bytes none, inl none)
asked_filed c i n calls wire g q bytes done sent sends (tells.behind_it f at opened counted front last read_so) = elim front [
  | inl none ↦ (nothing_front c i calls g bytes none, inl none)
  | inr h ↦ front_filed c i n calls wire g q sent f at opened bytes sends h
]

-- ---- all of a get

stage_filed : (awaited : Awaited) (c : Course) (i n : ℕ) (calls : List Call) (wire : ℤ) (g : GetTask) (s : GetStage) (bytes : List ℕ) (done : ℕ) (at : Option ℕ) (q : Places) → GetKnowsAt awaited calls g s bytes at → GetTells awaited calls wire q g s bytes done at → AllSent c i q n → SendsOnly (IsGetCommand g) c i calls
    → GetGave c i calls g bytes (get_end s)
stage_filed awaited c i n calls wire g gets.Unsent bytes done at q k t sent sends = (nothing_front c i calls g bytes k.0, inl k.0)
stage_filed awaited c i n calls wire g (gets.Opens opening) bytes done at q k t sent sends = (nothing_front c i calls g bytes k.2, inl k.2)
stage_filed awaited c i n calls wire g (gets.Reads download room) bytes done at q k t sent sends =
    let d : ClientDownload = download_of download in (
      λ history legal stands first last is_first is_last leave whole size w.
          let own = listed_sent c i n calls wire g d.file at q k.0 t.0 sent k.2 in
          let r = read_front c i calls g sends history legal stands first last is_first is_last leave awaited d bytes k.0 0 k.1 k.3 own whole size w in
          (d.ahead ++ r.0, r.1 ∙ append_assoc bytes d.ahead r.0),
      inr (record {
        file = d.file;
        more = d.ahead;
        reads = reads_file c i n calls wire g q sent d.file at t.0 FirstHold (bytes ++ d.ahead) k.0 (t.0.listed k.0 k.2)
            (front_lists awaited calls g.at d bytes k.1.of_record.front.place k.0 d.doing refl k.3 k.1.by (subst (EndsAsListed calls g.at d bytes) k.2 t.8));
      }),
    )
stage_filed awaited c i n calls wire g (gets.Ended ended.Unfinished) bytes done at q k t sent sends = absurd k
stage_filed awaited c i n calls wire g (gets.Ended (ended.Gave x)) bytes done at q k t sent sends =
    let d : ClientDownload = k.0 in
    let unspoiled : d.doing ≡ downloads.spoiled → ⊥ = λ bad. let both : downloads.ended ≡ downloads.spoiled = sym k.3 ∙ bad in absurd cc in
    let ahead : d.ahead ≡ [] = none_ahead awaited calls g.at d bytes k.2.of_record.front.place k.1 d.doing k.3 k.2.by in
    let h = t.4 in (
      λ history legal stands first last is_first is_last leave whole size w.
          let own = listed_sent c i n calls wire g t.1 at q k.1 t.2 sent k.4 in
          let r = read_front c i calls g sends history legal stands first last is_first is_last leave awaited d bytes k.1 0 k.2 unspoiled own whole size w in
          let all : whole ≡ bytes ++ [] ++ [] = r.1 ∙ ap (λ (l : List ℕ). bytes ++ l ++ r.0) ahead ∙ ap (λ (l : List ℕ). bytes ++ [] ++ l) (r.2 k.3) in
          sym (all ∙ append-nil (bytes ++ []) ∙ append-nil bytes),
      record {
        file = h.download.file;
        reads = reads_file c i n calls wire g q sent h.download.file at (subst (λ (f : FileRecord). TellsGetOpened calls wire q g f at) (sym h.its) t.2) AllHold bytes h.listed (t.2.listed h.listed h.here)
            (ended_lists awaited calls g.at h.download bytes h.knows.of_record.front.place h.listed (subst (KnowsBy awaited calls g.at h.download bytes h.knows.of_record.front.place h.listed) h.over h.knows.by) h.over (subst (EndsAsListed calls g.at h.download bytes) h.here h.lists));
      },
    )
stage_filed awaited c i n calls wire g (gets.Ended (ended.Failed e)) bytes done at q k t sent sends = (
  λ blames. let b = blamed calls wire q g bytes done e t.0 blames in (never_whole c i n calls wire g q sent e b sends, read_other c i n calls wire g q sent e b),
  λ says named history legal stands. found_broken c i n calls wire g q sent e history legal stands (broke calls wire q g bytes done e t.0 says named history legal stands),
  asked_filed c i n calls wire g q bytes done sent sends t.1,
)

-- What a get knows and tells at the end of a run says whose bytes it gave.
pub get_filed : (awaited : Awaited) (c : Course) (i n : ℕ) (calls : List Call) (wire : ℤ) (job : GetPlayer) (o : Owner) (at : Option ℕ) (q : Places) → GetPlays awaited calls job o at → GetTells awaited calls wire q (sought job.what) job.stage job.bytes.items job.done at → AllSent c i q n → SendsOnly (IsGetCommand (sought job.what)) c i calls
    → GetGave c i calls (sought job.what) job.bytes.items (get_end job.stage)
get_filed awaited c i n calls wire job o at q plays tells sent sends = stage_filed awaited c i n calls wire (sought job.what) job.stage job.bytes.items job.done at q plays.knows tells sent sends
