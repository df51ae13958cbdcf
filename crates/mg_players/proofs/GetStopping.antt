-- What a poll of a get's read leaves: how its cursor stands, or why it failed.
use Rattle.std.proofs.Common.{◌≡◌, ◌≢◌, ◌⊎◌, ◌<◌, ◌≤◌, ◌-◌, ◌++◌, ℕ, ℤ, pos, Bool, true, false, List, [], length, Some, None, Ok, refl, sym, ap, ◌∙◌, subst, inl, inr, arith, append-nil}
use Rattle.std.specs.Ordering.{int_eq}
use Rattle.std.proofs.lemmas.Bool.Decides.{Decides-int_eq}
use Rattle.mg_bson.specs.Tree.{Fields}
use Rattle.mg_server.specs.Calls.{Past, past_of}
use Rattle.mg_server.specs.Files.{chunks_space}
use Rattle.mg_link.specs.Link.{Awaited, LogTold}
use Rattle.mg_link.specs.Log.{Call}
use Rattle.mg_server.specs.Query.{Query}
use Rattle.mg_link.specs.declared.error.Error.{Error}
use Rattle.mg_server.proofs.Owners.{same_some}
use Rattle.mg_ops.specs.Naming.{IsNamed}
use Rattle.mg_cursor.specs.Client as client
use Rattle.mg_cursor.specs.Client.{ClientCursor, HasNext, IsOver}
use Rattle.mg_cursor.specs.Reading.{in_reply, reader_in}
use Rattle.mg_chunks.specs.Sizes.{chunk_count_of}
use Rattle.mg_records.specs.FileRecords.{FileRecord}
use Rattle.mg_gridfs.specs.Downloaded.{KnowsBy, KnowsChunks, KnowsDownload}
use Rattle.mg_chunks.specs.Chunks.{missing_chunk}
use Rattle.mg_gridfs.specs.Downloads.{ClientDownload, Doing, IsSoundDownload, SoundBy, ended, idle, reads, spoiled}
use Rattle.mg_gridfs.specs.ReadCauses.{IsFetching, cursor_in}
use Rattle.mg_gridfs.specs.Reads as steps
use Rattle.mg_gridfs.specs.Reads.{Concludes, Fetched, Fills, HandsOut, Reads, ReadsNone, enough, fails, waits}
use Rattle.mg_gridfs.specs.declared.polls.ReadPoll.{ReadPoll}
use Rattle.mg_gridfs.specs.declared.polls.ReadPoll.TheVariants as read
use Rattle.mg_gridfs.proofs.Downloading.{AfterFetch, doing_known, fetches_known, fetches_same}
use Rattle.mg_players.specs.Gets.{GetTask}
use Rattle.mg_players.specs.Reading as stops
use Rattle.mg_players.specs.Reading.{CameTo, Differ, GivesBy, GoesOn, HeardEmpty, HeardHeld, ListsChunks, ListsIts, ListsOther, ReadFailsSo, ReadStops, SentNone, TakenSo, TookThese, empties, miscounted, of_batches, of_hand, taken_of}
use Rattle.mg_players.proofs.GetApart.{missing_apart}
use Rattle.mg_players.proofs.GetCounting.{counts_begin}
use Rattle.mg_players.proofs.GetFetching.{FetchStops, StandsAt, fetches_stopped}
use Rattle.mg_players.proofs.GetListing.{differs_by}

-- ---- the count of the chunks

-- a cursor without a next has ended
has_ended : (c : ClientCursor) → (HasNext c → ⊥) → c.id ≡ pos 0
has_ended c none = by_eq (int_eq c.id (pos 0)) refl
  where
    by_eq : (t : Bool) → int_eq c.id (pos 0) ≡ t → c.id ≡ pos 0
    by_eq true is = (Decides-int_eq c.id (pos 0)).0 is
    by_eq false is = absurd (none (inl (λ e. let both : false ≡ true = sym is ∙ (Decides-int_eq c.id (pos 0)).1 e in cc)))

-- chunks that are not as many as the record says
pub counts_other : (awaited : Awaited) (calls : List Call) (g : GetTask) (d : ClientDownload) (bytes : List ℕ) (c : ClientCursor) (place listed : ℕ) → KnowsChunks awaited calls g.at d bytes c place listed → IsNamed (chunks_space g.at) → c.doing ≡ client.rests → (HasNext c → ⊥) → chunk_count_of d.file.length d.file.chunk_size ≡ Ok d.count → d.taken ≢ d.count
    → (e : Error) → e ≡ missing_chunk d.taken → ListsOther calls g.at d.file listed e
counts_other awaited calls g d bytes c place listed k named rests none counted other e is =
    differs_by calls g.at d.file listed (reader_in awaited c k.reader) k.knows k.none_lost k.queries k.asked_at named d.count counted e
    (λ left history legal stands over.
    let many : k.reader.query.single ≡ false = ap (λ (q : Query). q.single) k.queries in
    let nothing : left ≡ [] = over (has_ended c none) many k.not_refused in
    let held : [] ++ in_reply c.doing ≡ [] = ap in_reply rests in
    let all : (k.reader.given ++ ([] ++ in_reply c.doing)) ++ left ≡ k.reader.given
    = ap (λ (l : List Fields). (k.reader.given ++ ([] ++ in_reply c.doing)) ++ l) nothing ∙ append-nil (k.reader.given ++ ([] ++ in_reply c.doing)) ∙ ap (λ (l : List Fields). k.reader.given ++ l) held ∙ append-nil k.reader.given in
    subst (λ (ds : List Fields). Differ d.file d.count ds e) (sym all) (miscounted k.chunks k.received (λ same. other (k.taken ∙ same)) (is ∙ ap (λ (n : ℕ). missing_chunk n) k.taken)))

-- all is missing where none is ahead
none_less : (size : ℕ) (ahead : List ℕ) → ahead ≡ [] → size ≡ size - length ahead
none_less size ahead none = (let zero_is : length ahead ≡ 0 = ap (λ (l : List ℕ). length l) none in omega (arith, zero_is))

-- so far it came that took these batches
took_came : (call : Past) (b left : ClientDownload) (begun c : ClientCursor) (all : List (List ℕ)) → b.doing ≡ idle begun → b.ahead ≡ [] → c.doing ≡ client.rests → TookThese call begun c all → TakenSo b left all → CameTo call b left c
took_came call b left begun c all idle_so none rests t so = stops.by_batches begun all t.replies idle_so none t.heard (ap (λ (x : client.Doing). taken_of begun.doing x t.replies) rests ∙ t.all_so) so

-- ---- what is given

-- the cursor stands so, or it failed so
abbrev pub ReadLeaves : Awaited → (past call : Past) → List Call → GetTask → FileRecord → ℕ → ℕ → (begun d' : ClientDownload) → List ℕ → ReadPoll → Type 0
ReadLeaves awaited past call calls g f listed size begun d' given read.Pending = ListsIts past g d' × GoesOn awaited past call g size begun d' d'.doing
ReadLeaves awaited past call calls g f listed size begun d' given (read.Read n) = ListsIts past g d' × (((n ≡ length given) × GivesBy call size begun d' given) ⊎ ((n ≡ 0) × (begun.doing ≡ ended) × SentNone call))
ReadLeaves awaited past call calls g f listed size begun d' given (read.Failed e) = ReadStops past (HeardEmpty past call g f begun) (ListsOther calls g.at f listed e) e × ReadFailsSo call size begun e

module _ (awaited : Awaited) (g : GetTask) (listed : ℕ) (past call : Past) (calls : List Call) (b : ClientDownload) where
  -- one cursor
  lists_one : (d : ClientDownload) (doing : Doing) (c : ClientCursor) → d.doing ≡ doing → cursor_in doing ≡ Some c → ListsChunks past g d.file (empties doing) c → ListsIts past g d
  lists_one d doing c is has l x at =
      let same : c ≡ x = same_some c x (sym has ∙ sym (ap cursor_in is) ∙ at) in
      subst (λ (y : ClientCursor). ListsChunks past g d.file (empties d.doing) y) same (subst (λ (z : Doing). ListsChunks past g d.file (empties z) c) (sym is) l)

  lists_none : (d : ClientDownload) → cursor_in d.doing ≡ None → ListsIts past g d
  lists_none d none c at = absurd (let bad : None ≡ Some c = sym none ∙ at in cc)

  gives_leaves : (room : ℕ) (c : ClientCursor) (d d' : ClientDownload) (given : List ℕ) (r : ReadPoll) (f : FileRecord) → d.file ≡ f → ListsChunks past g f 0 c → ((HasNext c → ⊥) → d.taken ≢ d.count → (e : Error) → e ≡ missing_chunk d.taken → ListsOther calls g.at f listed e) → (HandsOut room c d d' given (read.Read (length given)) → GivesBy call room b d' given) → CameTo call b d c → HandsOut room c d d' given r → ReadLeaves awaited past call calls g f listed room b d' given r
  gives_leaves room c d d' given r f same l differs_so so came (steps.goes_on some is now answer) =
      subst (ReadLeaves awaited past call calls g f listed room b d' given) (sym answer)
      (lists_one d' (idle c) c (ap (λ (x : ClientDownload). x.doing) now) refl (subst (λ (x : FileRecord). ListsChunks past g x 0 c) (sym (ap (λ (x : ClientDownload). x.file) now ∙ same)) l), inl (refl, so (steps.goes_on some is now refl)))
  gives_leaves room c d d' given r f same l differs_so so came (steps.ends none over full is now answer) = subst (ReadLeaves awaited past call calls g f listed room b d' given) (sym answer) (lists_none d' (ap (λ (x : ClientDownload). cursor_in x.doing) now), inl (refl, so (steps.ends none over full is now refl)))
  gives_leaves room c d d' given r f same l differs_so so came (steps.miscounts none over other no_bytes now answer) =
      subst (ReadLeaves awaited past call calls g f listed room b d' given) (sym answer)
      (stops.differs (missing_apart d.taken) (differs_so over other (missing_chunk d.taken) refl), record { left = d; cursor = c; came = came; breaks = stops.other_count none over other refl })

-- ---- a poll

module _ (old new : Awaited) (log log' : LogTold) (wire : ℤ) (g : GetTask) (d d' : ClientDownload) (given : List ℕ) (r : ReadPoll) (sound : IsSoundDownload d) (calls : List Call) (told : log ≡ Some calls) (P N : List ℕ) (bytes : List ℕ) (listed : ℕ) (know : KnowsDownload old calls g.at g.id d bytes listed) where
  abbrev before : Past
  before = past_of P (length calls) calls wire

  abbrev call : Past
  call = past_of N (length calls) calls wire

  module _ (under : IsFetching old before d) (lists : ListsIts before g d) (under_call : IsFetching old call d) (b : ClientDownload) (size : ℕ) (goes : GoesOn old before call g size b d d.doing) (some_calls : 0 < length calls) where
    -- the log behind it
    pub record ReadStopped : Type 0 where
      pub calls' : List Call
      pub told' : log' ≡ Some calls'
      pub leaves : ReadLeaves new (past_of P (length calls) calls' wire) (past_of N (length calls) calls' wire) calls' g d.file listed size b d' given r

    knows_at : (x : Doing) → d.doing ≡ x → KnowsBy old calls g.at d bytes know.of_record.front.place listed x
    knows_at x is = subst (KnowsBy old calls g.at d bytes know.of_record.front.place listed) is know.by

    sound_at : (x : Doing) → d.doing ≡ x → SoundBy d x
    sound_at x is = subst (SoundBy d) is sound.by

    lists_at : (x : Doing) (c : ClientCursor) → d.doing ≡ x → cursor_in x ≡ Some c → ListsChunks before g d.file (empties x) c
    lists_at x c is has = subst (λ (y : Doing). ListsChunks before g d.file (empties y) c) is (lists c (ap cursor_in is ∙ has))

    -- it had ended
    had_ended : (x : Doing) → d.doing ≡ x → steps.IsOver x → GoesOn old before call g size b d x → (b.doing ≡ ended) × SentNone call
    had_ended (idle c) is over k = absurd over
    had_ended (reads c missing empty) is over k = absurd over
    had_ended ended is over k = (ap (λ (x : ClientDownload). x.doing) k.0 ∙ is, k.1)
    had_ended spoiled is over k = absurd k

    none_left : steps.IsOver d.doing → ReadsNone old new log log' d d' given r → ReadStopped
    none_left over h = record {
      calls' = calls;
      told' = h.quiet.log_same ∙ told;
      leaves = subst (ReadLeaves new before call calls g d.file listed size b d' given) (sym h.answer) (subst (λ (x : ClientDownload). ListsIts before g x) (sym h.same) lists, inr (let e = had_ended d.doing refl over goes in (refl, e.0, e.1)));
    }

    -- what is given behind all batches
    concluded : (begun : ClientCursor) → b.doing ≡ idle begun → b.ahead ≡ [] → (e left : ClientDownload) (l : List Call) (f : Fetched) → e.file ≡ d.file → chunk_count_of e.file.length e.file.chunk_size ≡ Ok e.count → left.file ≡ e.file → left.count ≡ e.count → FetchStops g P (length calls) wire bytes know.of_record.front.place listed N begun b size new l e left f
        → AfterFetch new l g.at left bytes know.of_record.front.place listed f → Concludes size f left d' given r → ReadLeaves new (past_of P (length calls) l wire) (past_of N (length calls) l wire) l g d.file listed size b d' given r
    concluded begun idle_so none_so e left l waits file counted same count after known ends =
        let past : Past = past_of P (length calls) l wire in
        let now : Past = past_of N (length calls) l wire in
        subst (ReadLeaves new past now l g d.file listed size b d' given) (sym ends.2) (
          subst (λ (x : ClientDownload). ListsIts past g x) (sym ends.0) (lists_one new g listed past now l b left (reads after.0 after.1 after.2) after.0 after.3 refl (subst (λ (f : FileRecord). ListsChunks past g f after.2 after.0) (sym same) after.4)),
          subst (λ (x : ClientDownload). GoesOn new past now g size b x x.doing) (sym ends.0)
              (subst (λ (x : Doing). GoesOn new past now g size b left x) (sym after.3)
              (record { cursor = begun; idle_so = idle_so; none_ahead = none_so; all = after.6; row = after.7; taken_so = after.8; missing_is = after.9 }, subst (λ (f : FileRecord). HeardHeld past g f begun) (sym same) after.5)),
        )
    concluded begun idle_so none_so e left l enough file counted same count after known ends =
        let past : Past = past_of P (length calls) l wire in
        let c : ClientCursor = ends.0 in
        let first : after.0 ≡ c = same_some after.0 c (sym (ap cursor_in after.1) ∙ ap cursor_in ends.1) in
        let second : known.0 ≡ c = same_some known.0 c (sym (ap cursor_in known.1) ∙ ap cursor_in ends.1) in
        let rests : c.doing ≡ client.rests = ap (λ (x : ClientCursor). x.doing) (sym second) ∙ known.2 in
        let chunks = subst (λ (x : ClientCursor). KnowsChunks new l g.at left bytes x know.of_record.front.place listed) second known.3 in
        let counts : chunk_count_of left.file.length left.file.chunk_size ≡ Ok left.count = subst (λ (f : FileRecord). chunk_count_of f.length f.chunk_size ≡ Ok left.count) (sym same) (counted ∙ ap (λ (n : ℕ). Ok n) (sym count)) in
        gives_leaves new g listed past (past_of N (length calls) l wire) l b size c left d' given r d.file (same ∙ file) (subst (λ (f : FileRecord). ListsChunks past g f 0 c) file (subst (λ (x : ClientCursor). ListsChunks past g e.file 0 x) first after.2))
        (λ over other why is. subst (λ (f : FileRecord). ListsOther l g.at f listed why) (same ∙ file) (counts_other new l g left bytes c know.of_record.front.place listed chunks after.2.named rests over counts other why is))
        (λ h. of_batches begun c left after.3 idle_so none_so (subst (λ (x : ClientCursor). TookThese (past_of N (length calls) l wire) begun x after.3) first after.4) after.5 (subst (λ (x : ClientCursor). (size ≤ length left.ahead) ⊎ IsOver x) first after.6) h)
        (took_came (past_of N (length calls) l wire) b left begun c after.3 idle_so none_so rests (subst (λ (x : ClientCursor). TookThese (past_of N (length calls) l wire) begun x after.3) first after.4) after.5) ends.2
    concluded begun idle_so none_so e left l (fails x) file counted same count after known ends =
        let past : Past = past_of P (length calls) l wire in
        let now : Past = past_of N (length calls) l wire in
        subst (ReadLeaves new past now l g d.file listed size b d' given) (sym ends.2) (subst (λ (f : FileRecord). ReadStops past (HeardEmpty past now g f b) (ListsOther l g.at f listed x) x) file after.0, after.1)

    fills_left : (begun : ClientCursor) → b.doing ≡ idle begun → b.ahead ≡ [] → (e : ClientDownload) (c : ClientCursor) (m k : ℕ) → e.file ≡ d.file → StandsAt g P (length calls) wire bytes know.of_record.front.place listed N begun b size old log calls e c m k → Fills old new log log' wire size e d' given r → ReadStopped
    fills_left begun idle_so none_so e c m k file s fills =
        let x = fetches_stopped g P (length calls) wire bytes know.of_record.front.place listed N begun b size fills.batches old new log log' calls e fills.left c m k fills.fetched s fills.fetches in
        let y = fetches_known fills.batches old new log log' wire g.at e fills.left bytes c m k know.of_record.front.place listed calls fills.fetched s.doing s.sound s.rests_so s.know told fills.fetches in
        let same = fetches_same fills.batches old new log log' wire e fills.left fills.fetched fills.fetches in
        let one : y.calls' ≡ x.calls' = same_some y.calls' x.calls' (sym y.told ∙ x.told) in
        record {
          calls' = x.calls';
          told' = x.told;
          leaves = concluded begun idle_so none_so e fills.left x.calls' fills.fetched file s.counted same.0 same.1 x.after (subst (λ (l : List Call). AfterFetch new l g.at fills.left bytes know.of_record.front.place listed fills.fetched) one y.after) fills.concludes;
        }

    -- Behind a poll the cursor stands as it should, or it failed so.
    pub read_leaves : 0 < size → Reads old new log log' wire size d d' given r → ReadStopped
    read_leaves full (steps.no_room none h) = absurd (omega (arith, full, none))
    read_leaves full (steps.is_over some over h) = none_left over h
    read_leaves full (steps.in_hand some c is more quiet gives) = record {
      calls' = calls;
      told' = quiet.log_same ∙ told;
      leaves = gives_leaves new g listed before call calls b size c d d' given r d.file refl (lists_at (idle c) c is refl) (λ over other why missing. counts_other old calls g d bytes c know.of_record.front.place listed (knows_at (idle c) is) (lists_at (idle c) c is refl).named ((sound_at (idle c) is).3 more) over sound.sizes.counted other why missing) (λ h. let at = subst (λ (x : Doing). GoesOn old before call g size b d x) is goes in subst (λ (x : ClientDownload). GivesBy call size x d' given) (sym at.0) (of_hand c is more at.1 h))
          (let at = subst (λ (x : Doing). GoesOn old before call g size b d x) is goes in stops.as_begun at.0 (ap (λ (x : ClientDownload). x.doing) at.0 ∙ is)) gives;
    }
    read_leaves full (steps.begins some c is none fills) =
        let e : ClientDownload = record d { doing = reads c size 0 } in
        let at = subst (λ (x : Doing). GoesOn old before call g size b d x) is goes in
        fills_left c (ap (λ (x : ClientDownload). x.doing) at.0 ∙ is) (ap (λ (x : ClientDownload). x.ahead) at.0 ∙ none) e c size 0 refl
        (record {
          doing = refl;
          sound = (sound_at (idle c) is).1;
          rests_so = λ zero_is. absurd (omega (arith, some, zero_is));
          know = doing_known old calls g.at d e (reads c size 0) bytes c know.of_record.front.place listed refl (knows_at (idle c) is);
          told = told;
          room = omega arith;
          under = under c (ap cursor_in is);
          lists = lists_at (idle c) c is refl;
          counted = sound.sizes.counted;
          under_call = under_call c (ap cursor_in is);
          held = λ bytes holding. ((lists_at (idle c) c is refl).held bytes holding).1.heard;
          idle_so = ap (λ (x : ClientDownload). x.doing) at.0 ∙ is;
          none_ahead = ap (λ (x : ClientDownload). x.ahead) at.0 ∙ none;
          all = [];
          counts = counts_begin old call c (sound_at (idle c) is).2 some_calls at.1;
          taken_so = record { file = sym (ap (λ (x : ClientDownload). x.file) at.0); count = sym (ap (λ (x : ClientDownload). x.count) at.0); chunks_so = (sym (ap (λ (x : ClientDownload). x.taken) at.0), none) };
          missing_is = none_less size d.ahead none;
        }) fills
    read_leaves full (steps.goes_on some c m k is fills) =
        let so = (sound_at (reads c m k) is).1 in
        let from = subst (λ (x : Doing). GoesOn old before call g size b d x) is goes in
        fills_left from.0.cursor from.0.idle_so from.0.none_ahead d c m k refl
        (record {
          doing = is;
          sound = so.sound;
          rests_so = so.rests_so;
          know = knows_at (reads c m k) is;
          told = told;
          room = omega arith;
          under = under c (ap cursor_in is);
          lists = lists_at (reads c m k) c is refl;
          counted = sound.sizes.counted;
          under_call = under_call c (ap cursor_in is);
          held = from.1;
          idle_so = from.0.idle_so;
          none_ahead = from.0.none_ahead;
          all = from.0.all;
          counts = from.0.row;
          taken_so = from.0.taken_so;
          missing_is = from.0.missing_is;
        }) fills
