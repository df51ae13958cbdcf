-- What the answers of a read are caused by.
use Rattle.std.proofs.Common.{◌≡◌, ◌⊎◌, ◌≤◌, ◌+◌, ℕ, zero, suc, ℤ, Bool, true, List, [], ◌∷◌, length, Some, None, Err, refl, sym, ap, ◌∙◌, subst, inl, inr, arith}
use Rattle.mg_server.specs.Calls.{Grows, Keeps, Past, past_of}
use Rattle.mg_link.specs.Link.{Awaited, LogTold}
use Rattle.mg_link.specs.Log.{Call}
use Rattle.mg_link.specs.declared.error.Error.{Error}
use Rattle.mg_link.specs.declared.error.ErrorKind.TheVariants as kind
use Rattle.mg_link.specs.Errors.{plain}
use Rattle.mg_server.proofs.Calls.{keeps_longer, keeps_on, log_grows, same_keeps}
use Rattle.mg_server.proofs.Owners.{same_some}
use Rattle.mg_ops.specs.Failing.{FailsBy}
use Rattle.mg_cursor.specs.Causes.{HeardMore, IsUnderway, MoreFails}
use Rattle.mg_cursor.specs.Client as client
use Rattle.mg_cursor.specs.Client.{ClientCursor, IsSound, at_rest}
use Rattle.mg_cursor.specs.Polling.{CannotAsk, PollsNext}
use Rattle.mg_cursor.specs.declared.polls.NextPoll.{NextPoll}
use Rattle.mg_cursor.specs.declared.polls.NextPoll.TheVariants as next
use Rattle.mg_cursor.proofs.Advancing as advancing
use Rattle.mg_cursor.proofs.Advancing.{passes_next}
use Rattle.mg_cursor.proofs.Caused.{next_caused}
use Rattle.mg_cursor.proofs.Keeping.{sound_in_any, sound_next}
use Rattle.mg_cursor.proofs.SeekCaused.{fails_grow, fails_rested, heard_before, heard_grow, last_before, last_grow, last_of, passes_grow, since_grows, underway_grow, underway_rest}
use Rattle.mg_records.specs.FileRecords.{FileRecord}
use Rattle.mg_chunks.specs.Chunks.{all_judged}
use Rattle.mg_gridfs.specs.Downloads.{ClientDownload, Doing, IsSoundDownload, SoundBy, idle, reads, sizes_of}
use Rattle.mg_gridfs.specs.ReadCauses as causes
use Rattle.mg_gridfs.specs.ReadCauses.{HasInOrder, ReadCame, ReadCaused, ReadFails, TakesNext, TookAll, cursor_in}
use Rattle.mg_gridfs.specs.Reads as steps
use Rattle.mg_gridfs.specs.Reads.{Concludes, EndsFetch, Fetched, Fetches, HandsOut, Reads, ReadsNone, SpoilsBatch, enough, fails, no_more, none_missing, not_taken, over, pends, waits}
use Rattle.mg_gridfs.specs.declared.polls.ReadPoll.{ReadPoll}
use Rattle.mg_gridfs.proofs.Downloading.{fetches_same, next_rests, same_cursor, taken_as}

-- ---- batches that were taken

next_of : (past : Past) (c : ClientCursor) (bytes : List ℕ) (b : ClientCursor) → TakesNext past c bytes b → advancing.Passes (HeardMore past c bytes) bytes c b
next_of past c bytes b (causes.was_held at is) = advancing.was_held at is
next_of past c bytes b (causes.by_reply said h says is) = advancing.by_reply said h says is

as_next : (past : Past) (c : ClientCursor) (bytes : List ℕ) (b : ClientCursor) → advancing.Passes (HeardMore past c bytes) bytes c b → TakesNext past c bytes b
as_next past c bytes b (advancing.was_held at is) = causes.was_held at is
as_next past c bytes b (advancing.by_reply said h says is) = causes.by_reply said h says is

-- behind one more
took_before : (past : Past) (bytes : List ℕ) (d m : ClientDownload) (c b : ClientCursor) → m.file ≡ d.file → (o : HasInOrder d.file d.taken bytes) → m.taken ≡ d.taken + length o.chunks → advancing.Passes (HeardMore past c bytes) bytes c b
    → (before : List (List ℕ)) (n : ℕ) (at : ClientCursor) → TookAll past m.file b before m.taken n at → TookAll past d.file c (bytes ∷ before) d.taken n at
took_before past bytes d m c b file o taken passes before n at took =
    (b, as_next past c bytes b passes, o, subst (λ (f : FileRecord). TookAll past f b before (d.taken + length o.chunks) n at) file (subst (λ (k : ℕ). TookAll past m.file b before k n at) taken took))

-- ---- a later time, and an earlier batch

module _ (past past' : Past) (grows : Grows past past') where
  next_grow : (c : ClientCursor) (bytes : List ℕ) (b : ClientCursor) → TakesNext past c bytes b → TakesNext past' c bytes b
  next_grow c bytes b h = as_next past' c bytes b (passes_grow past past' grows bytes c b (next_of past c bytes b h))

  took_grow : (f : FileRecord) (c : ClientCursor) (replies : List (List ℕ)) (n m : ℕ) (at : ClientCursor) → TookAll past f c replies n m at → TookAll past' f c replies n m at
  took_grow f c [] n m at h = h
  took_grow f c (bytes ∷ more) n m at h = (h.0, next_grow c bytes h.0 h.1, h.2, took_grow f h.0 more (n + length h.2.chunks) m at h.3)

  pub read_fails_grow : (d : ClientDownload) (c : ClientCursor) (e : Error) → ReadFails past d c e → ReadFails past' d c e
  read_fails_grow d c e (causes.out_of_memory is) = causes.out_of_memory is
  read_fails_grow d c e (causes.not_built replies at are cannot) = causes.not_built replies at (heard_grow past past' grows c replies at are) cannot
  read_fails_grow d c e (causes.no_batch replies at are why) = causes.no_batch replies at (heard_grow past past' grows c replies at are) (fails_grow past past' grows at e why)
  read_fails_grow d c e (causes.no_list bytes last none) = causes.no_list bytes (last_grow past past' grows c bytes last) none
  read_fails_grow d c e (causes.differs bytes last batch there n le before at behind took next_one bad) =
      causes.differs bytes (last_grow past past' grows c bytes last) batch there n le before at behind (took_grow d.file c before d.taken n at took) (next_grow at bytes behind next_one) bad
  read_fails_grow d c e (causes.too_many bytes last none is) = causes.too_many bytes (last_grow past past' grows c bytes last) none is
  read_fails_grow d c e (causes.miscounts n le before at took other is) = causes.miscounts n le before at (took_grow d.file c before d.taken n at took) other is

read_fails_before : (past : Past) (bytes : List ℕ) (d m : ClientDownload) (c b : ClientCursor) (e : Error) → m.file ≡ d.file → m.count ≡ d.count → (o : HasInOrder d.file d.taken bytes) → m.taken ≡ d.taken + length o.chunks → advancing.Passes (HeardMore past c bytes) bytes c b → ReadFails past m b e → ReadFails past d c e
read_fails_before past bytes d m c b e file count o taken passes (causes.out_of_memory is) = causes.out_of_memory is
read_fails_before past bytes d m c b e file count o taken passes (causes.not_built replies at are cannot) = let before = heard_before past bytes c b replies at passes are in causes.not_built before.replies at before.are cannot
read_fails_before past bytes d m c b e file count o taken passes (causes.no_batch replies at are why) = let before = heard_before past bytes c b replies at passes are in causes.no_batch before.replies at before.are why
read_fails_before past bytes d m c b e file count o taken passes (causes.no_list last_bytes last none) = causes.no_list last_bytes (last_before past bytes c b last_bytes passes last) none
read_fails_before past bytes d m c b e file count o taken passes (causes.differs last_bytes last batch there n le before at behind took next_one bad) =
    causes.differs last_bytes (last_before past bytes c b last_bytes passes last) batch there n (omega (arith, le, taken)) (bytes ∷ before) at behind (took_before past bytes d m c b file o taken passes before n at took) next_one (subst (λ (f : FileRecord). all_judged (sizes_of f) n batch ≡ Err e) file bad)
read_fails_before past bytes d m c b e file count o taken passes (causes.too_many last_bytes last none is) = causes.too_many last_bytes (last_before past bytes c b last_bytes passes last) none is
read_fails_before past bytes d m c b e file count o taken passes (causes.miscounts n le before at took other is) =
    causes.miscounts n (omega (arith, le, taken)) (bytes ∷ before) at (took_before past bytes d m c b file o taken passes before n at took) (λ same. other (same ∙ sym count)) is

-- ---- the batches of a poll

abbrev FetchCame : Awaited → Past → ClientDownload → ClientCursor → ClientDownload → Fetched → Type 0
FetchCame awaited past d c d' waits = (b : ClientCursor) × (cursor_in d'.doing ≡ Some b) × IsUnderway awaited past b
FetchCame awaited past d c d' enough = (d.taken ≤ d'.taken) × (before : List (List ℕ)) × (at : ClientCursor) × TookAll past d.file c before d.taken d'.taken at
FetchCame awaited past d c d' (fails e) = ReadFails past d c e

came_grows : (past past' : Past) (grows : Grows past past') (awaited : Awaited) (d : ClientDownload) (c : ClientCursor) (d' : ClientDownload) (f : Fetched) → FetchCame awaited past d c d' f → FetchCame awaited past' d c d' f
came_grows past past' grows awaited d c d' waits h = (h.0, h.1, underway_grow past past' grows awaited h.0 h.0.doing h.2)
came_grows past past' grows awaited d c d' enough h = (h.0, h.1, h.2, took_grow past past' grows d.file c h.1 d.taken d'.taken h.2 h.3)
came_grows past past' grows awaited d c d' (fails e) h = read_fails_grow past past' grows d c e h

came_before : (past : Past) (bytes : List ℕ) (awaited : Awaited) (d m : ClientDownload) (c b : ClientCursor) (d' : ClientDownload) (f : Fetched) → m.file ≡ d.file → m.count ≡ d.count → (o : HasInOrder d.file d.taken bytes) → m.taken ≡ d.taken + length o.chunks → advancing.Passes (HeardMore past c bytes) bytes c b → FetchCame awaited past m b d' f → FetchCame awaited past d c d' f
came_before past bytes awaited d m c b d' waits file count o taken passes h = h
came_before past bytes awaited d m c b d' enough file count o taken passes h = ((let le = h.0 in omega (arith, le, taken)), bytes ∷ h.1, h.2, took_before past bytes d m c b file o taken passes h.1 d'.taken h.2 h.3)
came_before past bytes awaited d m c b d' (fails e) file count o taken passes h = read_fails_before past bytes d m c b e file count o taken passes h

-- the log behind a poll, and this
abbrev Behind : List Call → LogTold → List ℕ → ℤ → (Past → Type 0) → Type 0
Behind calls log' places wire Here = (calls' : List Call) × (log' ≡ Some calls') × Keeps calls calls' × Here (past_of places (length calls) calls' wire)

as_many : (d d' : ClientDownload) → d'.taken ≡ d.taken → d.taken ≤ d'.taken
as_many d d' same = omega arith

not_asked : (past : Past) (d : ClientDownload) (c : ClientCursor) (e : Error) → FailsBy (CannotAsk c None) e ⊎ MoreFails past c e → ReadFails past d c e
not_asked past d c e (inl (inl memory)) = causes.out_of_memory memory
not_asked past d c e (inl (inr cannot)) = causes.not_built [] (at_rest c) refl cannot
not_asked past d c e (inr why) = causes.no_batch [] (at_rest c) refl (fails_rested past c e why)

spoils_so : (past : Past) (d : ClientDownload) (c b : ClientCursor) (empty : ℕ) (reply : List ℕ) (e : Error) → (c.doing ≡ client.holds reply) ⊎ HeardMore past c reply → TakesNext past c reply b → (e ≡ plain kind.OutOfMemory) ⊎ SpoilsBatch empty reply d e → ReadFails past d c e
spoils_so past d c b empty reply e came next_one (inl memory) = causes.out_of_memory memory
spoils_so past d c b empty reply e came next_one (inr (steps.no_batch none)) = causes.no_list reply (last_of past c reply came) none
spoils_so past d c b empty reply e came next_one (inr (steps.differs batch there bad)) = causes.differs reply (last_of past c reply came) batch there d.taken (as_many d d refl) [] c b (refl, refl) next_one bad
spoils_so past d c b empty reply e came next_one (inr (steps.too_many none many is)) = causes.too_many reply (last_of past c reply came) none is

module _ (old new : Awaited) (log log' : LogTold) (wire : ℤ) (d d' : ClientDownload) (c : ClientCursor) (m k : ℕ) (doing : d.doing ≡ reads c m k) (sound : IsSound true c) (calls : List Call) (told : log ≡ Some calls) (places : List ℕ) (under : IsUnderway old (past_of places (length calls) calls wire) c) where
  at_c : (started : Bool) (x behind : ClientCursor) (r : NextPoll) (m' k' : ℕ) → d.doing ≡ reads x m' k' → PollsNext old new log log' wire None started x behind r → PollsNext old new log log' wire None started c behind r
  at_c started x behind r m' k' there polls = subst (λ (y : ClientCursor). PollsNext old new log log' wire None started y behind r) (same_cursor x c m' m k' k (sym there ∙ doing)) polls

  ends_caused : (f : Fetched) → EndsFetch old new log log' wire d d' f → Behind calls log' places wire (λ past. FetchCame new past d c d' f)
  ends_caused f (none_missing x empty there quiet is answer) =
      (calls, quiet.log_same ∙ told, same_keeps calls, subst (FetchCame new (past_of places (length calls) calls wire) d c d') (sym answer) (as_many d d' (ap (λ (y : ClientDownload). y.taken) is), [], c, (ap (λ (y : ClientDownload). y.taken) is, refl)))
  ends_caused f (over x m' k' there short started behind polls is answer) =
      let y = next_caused old new log log' wire None started c behind next.End (sound_in_any true c sound) (at_c started x behind next.End m' k' there polls) calls told places under in
      (y.0, y.1, y.2, subst (FetchCame new (past_of places (length calls) y.0 wire) d c d') (sym answer) (as_many d d' (ap (λ (z : ClientDownload). z.taken) is), [], c, (ap (λ (z : ClientDownload). z.taken) is, refl)))
  ends_caused f (pends x m' k' there short started behind polls is answer) =
      let y = next_caused old new log log' wire None started c behind next.Pending (sound_in_any true c sound) (at_c started x behind next.Pending m' k' there polls) calls told places under in
      (y.0, y.1, y.2, subst (FetchCame new (past_of places (length calls) y.0 wire) d c d') (sym answer) (behind, ap cursor_in (ap (λ (z : ClientDownload). z.doing) is), y.3))
  ends_caused f (no_more x m' k' there short started behind e polls is answer) =
      let y = next_caused old new log log' wire None started c behind (next.Failed e) (sound_in_any true c sound) (at_c started x behind (next.Failed e) m' k' there polls) calls told places under in
      (y.0, y.1, y.2, subst (FetchCame new (past_of places (length calls) y.0 wire) d c d') (sym answer) (not_asked (past_of places (length calls) y.0 wire) d c e y.3))
  ends_caused f (not_taken x m' k' there short started behind reply e polls why is answer) =
      let here = at_c started x behind (next.Batch reply) m' k' there polls in
      let y = next_caused old new log log' wire None started c behind (next.Batch reply) (sound_in_any true c sound) here calls told places under in
      let past : Past = past_of places (length calls) y.0 wire in
      let next_one = as_next past c reply behind (passes_next (HeardMore past c reply) reply c behind (next.Batch reply) refl old new log log' wire None started y.3 here) in
      (y.0, y.1, y.2, subst (FetchCame new (past_of places (length calls) y.0 wire) d c d') (sym answer) (spoils_so (past_of places (length calls) y.0 wire) d c behind k' reply e y.3 next_one why))

fetches_caused : (n : ℕ) (old new : Awaited) (log log' : LogTold) (wire : ℤ) (d d' : ClientDownload) (c : ClientCursor) (m k : ℕ) (f : Fetched) → d.doing ≡ reads c m k → IsSound true c → Fetches n old new log log' wire d d' f → (calls : List Call) → log ≡ Some calls → (places : List ℕ) → IsUnderway old (past_of places (length calls) calls wire) c
    → Behind calls log' places wire (λ past. FetchCame new past d c d' f)
unfolding Fetches
fetches_caused zero old new log log' wire d d' c m k f doing sound ends calls told places under = ends_caused old new log log' wire d d' c m k doing sound calls told places under f ends
fetches_caused (suc n) old new log log' wire d d' c m k f doing sound more calls told places under =
    let one = more.3 in
    let polls = at_c old more.0 log more.1 wire d more.2 c m k doing sound calls told places under one.started one.cursor one.behind (next.Batch one.reply) one.missing one.empty one.at one.polls in
    let y = next_caused old more.0 log more.1 wire None one.started c one.behind (next.Batch one.reply) (sound_in_any true c sound) polls calls told places under in
    let mid : Past = past_of places (length calls) y.0 wire in
    let passes = passes_next (HeardMore mid c one.reply) one.reply c one.behind (next.Batch one.reply) refl old more.0 log more.1 wire None one.started y.3 polls in
    let rested = next_rests old more.0 log more.1 wire one.started c one.behind (next.Batch one.reply) tt polls in
    let gets = taken_as one.takes.chunks one.behind one.missing one.empty d more.2 one.takes.taken in
    let z = fetches_caused n more.0 new more.1 log' wire more.2 d' one.behind gets.missing gets.empty f gets.doing (sound_next true old more.0 log more.1 wire None one.started c one.behind (next.Batch one.reply) sound refl polls) more.4 y.0 y.1 places
    (underway_rest more.0 (past_of places (length y.0) y.0 wire) one.behind rested) in
    let past' : Past = past_of places (length calls) z.0 wire in
    let came = came_grows (past_of places (length y.0) z.0 wire) past' (since_grows places (length calls) (length y.0) z.0 wire (keeps_longer calls y.0 y.2)) new more.2 one.behind d' f z.3 in
    let grown = passes_grow mid past' (log_grows places (length calls) y.0 z.0 wire z.2) one.reply c one.behind passes in
    let in_order : HasInOrder d.file d.taken one.reply = record { array = one.takes.array; is_array = one.takes.is_array; bytes_are = one.takes.bytes_are; chunks = one.takes.chunks; in_order = one.takes.in_order } in
    (z.0, z.1, keeps_on calls y.0 z.0 y.2 z.2, came_before past' one.reply new d more.2 c one.behind d' f gets.file gets.count in_order gets.taken grown came)

-- ---- a poll

module _ (old new : Awaited) (log log' : LogTold) (wire : ℤ) (d d' : ClientDownload) (given : List ℕ) (r : ReadPoll) (sound : IsSoundDownload d) where
  none_caused : ReadsNone old new log log' d d' given r → ReadCaused old new log log' wire d d' r
  none_caused h calls told places under = (calls, h.quiet.log_same ∙ told, same_keeps calls, subst (ReadCame new (past_of places (length calls) calls wire) d d') (sym h.answer) tt)

  gives_came : (past : Past) (room : ℕ) (c b : ClientCursor) (e : ClientDownload) → cursor_in d.doing ≡ Some c → e.count ≡ d.count → d.taken ≤ e.taken → (before : List (List ℕ)) (at : ClientCursor) → TookAll past d.file c before d.taken e.taken at → HandsOut room b e d' given r → ReadCame new past d d' r
  gives_came past room c b e there count more before at took (steps.goes_on some is now answer) = subst (ReadCame new past d d') (sym answer) tt
  gives_came past room c b e there count more before at took (steps.ends none over_so full is now answer) = subst (ReadCame new past d d') (sym answer) tt
  gives_came past room c b e there count more before at took (steps.miscounts none over_so other no_bytes now answer) =
      subst (ReadCame new past d d') (sym answer) (c, there, causes.miscounts e.taken more before at took (λ same. other (same ∙ sym count)) refl)

  sound_at : (x : Doing) → d.doing ≡ x → SoundBy d x
  sound_at x is = subst (SoundBy d) is sound.by

  -- the same, from where the poll began
  took_from : (past : Past) (c : ClientCursor) (e : ClientDownload) (before : List (List ℕ)) (n : ℕ) (at : ClientCursor) → e.file ≡ d.file → e.taken ≡ d.taken → TookAll past e.file c before e.taken n at → TookAll past d.file c before d.taken n at
  took_from past c e before n at file taken took = subst (λ (f : FileRecord). TookAll past f c before d.taken n at) file (subst (λ (k : ℕ). TookAll past e.file c before k n at) taken took)

  fills_came : (past : Past) (room : ℕ) (c : ClientCursor) (e left : ClientDownload) (f : Fetched) → cursor_in d.doing ≡ Some c → e.file ≡ d.file → e.count ≡ d.count → e.taken ≡ d.taken → left.count ≡ e.count → FetchCame new past e c left f → Concludes room f left d' given r → ReadCame new past d d' r
  fills_came past room c e left waits there file count taken same came ends =
      subst (ReadCame new past d d') (sym ends.2) (λ x at. subst (IsUnderway new past) (same_some came.0 x (sym came.1 ∙ ap (λ (y : ClientDownload). cursor_in y.doing) (sym ends.0) ∙ at)) came.2)
  fills_came past room c e left enough there file count taken same came ends =
      let more : d.taken ≤ left.taken = (let a = came.0 in let b = taken in omega arith) in
      gives_came past room c ends.0 left there (same ∙ count) more came.1 came.2 (took_from past c e came.1 left.taken came.2 file taken came.3) ends.2
  fills_came past room c e left (fails x) there file count taken same came ends =
      subst (ReadCame new past d d') (sym ends.2) (c, there, same_fails came)
    where
      same_fails : ReadFails past e c x → ReadFails past d c x
      same_fails (causes.out_of_memory is) = causes.out_of_memory is
      same_fails (causes.not_built replies at are cannot) = causes.not_built replies at are cannot
      same_fails (causes.no_batch replies at are why) = causes.no_batch replies at are why
      same_fails (causes.no_list bytes last none) = causes.no_list bytes last none
      same_fails (causes.differs bytes last batch there_so n le before at behind took next_one bad) =
          causes.differs bytes last batch there_so n (subst (λ (t : ℕ). t ≤ n) taken le) before at behind (took_from past c e before n at file taken took) next_one (subst (λ (f : FileRecord). all_judged (sizes_of f) n batch ≡ Err x) file bad)
      same_fails (causes.too_many bytes last none is) = causes.too_many bytes last none is
      same_fails (causes.miscounts n le before at took other is) = causes.miscounts n (subst (λ (t : ℕ). t ≤ n) taken le) before at (took_from past c e before n at file taken took) (λ s. other (s ∙ sym count)) is

  pub read_caused : (room : ℕ) → Reads old new log log' wire room d d' given r → ReadCaused old new log log' wire d d' r
  read_caused room (steps.no_room none h) calls told places under = none_caused h calls told places under
  read_caused room (steps.is_over some ended h) calls told places under = none_caused h calls told places under
  read_caused room (steps.in_hand some c is more quiet gives) calls told places under =
      (calls, quiet.log_same ∙ told, same_keeps calls, gives_came (past_of places (length calls) calls wire) room c c d (ap cursor_in is) refl (as_many d d refl) [] c (refl, refl) gives)
  read_caused room (steps.begins some c is none fills_so) calls told places under =
      let d0 : ClientDownload = record d { doing = reads c room 0 } in
      let x = fetches_caused fills_so.batches old new log log' wire d0 fills_so.left c room 0 fills_so.fetched refl (sound_at (idle c) is).1 fills_so.fetches calls told places (under c (ap cursor_in is)) in
      let same = fetches_same fills_so.batches old new log log' wire d0 fills_so.left fills_so.fetched fills_so.fetches in
      (x.0, x.1, x.2, fills_came (past_of places (length calls) x.0 wire) room c d0 fills_so.left fills_so.fetched (ap cursor_in is) refl refl refl same.1 x.3 fills_so.concludes)
  read_caused room (steps.goes_on some c missing empty is fills_so) calls told places under =
      let x = fetches_caused fills_so.batches old new log log' wire d fills_so.left c missing empty fills_so.fetched is (sound_at (reads c missing empty) is).1.sound fills_so.fetches calls told places (under c (ap cursor_in is)) in
      let same = fetches_same fills_so.batches old new log log' wire d fills_so.left fills_so.fetched fills_so.fetches in
      (x.0, x.1, x.2, fills_came (past_of places (length calls) x.0 wire) room c d fills_so.left fills_so.fetched (ap cursor_in is) refl refl refl same.1 x.3 fills_so.concludes)
