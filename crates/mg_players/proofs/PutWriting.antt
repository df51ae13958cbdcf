-- What a put tells behind a poll of its upload.
use Rattle.std.proofs.Common.{◌≡◌, ◌<◌, ◌≤◌, ◌+◌, ◌-◌, ◌*◌, ◌++◌, Bool, true, ℕ, zero, suc, ℤ, List, [], ◌∷◌, length, length-append, take, Option, Some, None, refl, sym, ap, ◌∙◌, subst, inl, inr, arith}
use Rattle.std.specs.Prelude.{slice_get}
use Rattle.mg_link.specs.Acts.{Tickets}
use Rattle.mg_server.specs.Calls.{AddsOnly, Past, past_of}
use Rattle.mg_link.specs.Chunks.{chunked}
use Rattle.mg_server.specs.Files.{AreChunks, Bucket}
use Rattle.mg_server.specs.Filing.{KnowsFile, cleared, stays, whole_with}
use Rattle.mg_link.specs.Link.{Awaited, LogTold}
use Rattle.mg_link.specs.Log.{Call}
use Rattle.mg_link.specs.declared.error.Error.{Error}
use Rattle.mg_server.proofs.Calls.{keeps_longer}
use Rattle.mg_server.proofs.Owners.{same_some}
use Rattle.mg_link.proofs.Places.{get_within}
use Rattle.mg_gridfs.specs.Calls.{Closes, LeavesEnd, LeavesWrite, Writes}
use Rattle.mg_gridfs.specs.Causes.{CloseCame, CloseCaused, IsUploading, UnderwayBy, WriteCame, WriteCaused}
use Rattle.mg_gridfs.specs.Cursors.{LeavesOthers}
use Rattle.mg_gridfs.specs.Laws.{IsSettled}
use Rattle.mg_gridfs.specs.Storing.{AfterClose, AfterWrite, CloseStores, HasCleared, HasStored, KnowsUpload, WriteStores, may_leave, taken_by}
use Rattle.mg_gridfs.specs.Uploads.{Aim, ClientUpload, Doing, IsBetween, RestsBy, busy, close, closed, error_by, fresh_upload, idle, record_of, upload_ticket, write}
use Rattle.mg_gridfs.specs.declared.polls.Step2.{Step2}
use Rattle.mg_gridfs.specs.declared.polls.Step2.TheVariants as end
use Rattle.mg_gridfs.specs.declared.polls.WritePoll.{WritePoll}
use Rattle.mg_gridfs.specs.declared.polls.WritePoll.TheVariants as wrote
use Rattle.mg_gridfs.proofs.Holding.{uploads_settle}
use Rattle.mg_bson.specs.Tree.{Fields}
use Rattle.mg_ops.specs.Drawn.{AreLater}
use Rattle.mg_ops.specs.Logs.{AddsJust}
use Rattle.mg_script.specs.declared.outcome.Ended.TheVariants as ended
use Rattle.mg_players.specs.Causes.{AllWritten, commands_at, places_from, sent_at, sent_since}
use Rattle.mg_players.specs.Laying.{DoingLays, EndLays, LaysAll}
use Rattle.mg_players.specs.Plays.{Places, all_places}
use Rattle.mg_players.specs.PutFailures.{AnswersPut, PutFails, PutReads}
use Rattle.mg_players.specs.Puts.{CutBy, DoingSupplied, IsCutAt, IsMoment, IsPutDoing, NamesFiles, NeedsFull, PutTask, Supply, joined, put_aim, put_bucket, taken_in, total}
use Rattle.mg_players.specs.Sends.{IsPutCommand}
use Rattle.mg_players.specs.PutSends.{DoingSent, FailsSo, PutEndsSent, Reach, Reaches}
use Rattle.mg_players.specs.Telling.{CallsFollow, PutSaid, PutTellsOpen}
use Rattle.mg_players.proofs.JustGrown.{GrowsBehind, SendsNoMore, ended_behind, ended_just}
use Rattle.mg_players.proofs.PutOrder.{MayReach, Reason, cut_within}
use Rattle.mg_players.proofs.PutOrdered.{CloseSaid, WriteSaid, close_grows, close_order, write_grows, write_order}
use Rattle.mg_players.proofs.PutSaying.{going_ordered, now_last, said_more}
use Rattle.mg_players.proofs.PutFailed.{CloseEnds, WriteEnds, close_ends, write_ends}
use Rattle.mg_players.proofs.PutFull.{FullBy, full_later, full_more, write_full, written_full}
use Rattle.mg_players.proofs.PutGrowing.{as_all_is, doing_grows}
use Rattle.mg_players.proofs.PutLaid.{CloseLays, WriteLays, close_laid, doing_settles, laid_settles, names_of, write_laid}
use Rattle.mg_players.proofs.PutPolled.{Ahead, AheadEnd, PollSent, close_sends, close_supplied, taken_on, taken_whole, takes_close, takes_write, write_sends, write_supplied}
use Rattle.mg_players.proofs.PutSending.{Stands, joined_total}
use Rattle.mg_players.proofs.PutTelling.{cleared_settles, fails_on, fails_so_on, reads_on, stored_settles, uploading_on}
use Rattle.mg_players.proofs.Telling.{answered_by, going_on, grows_ended, in_first, is_since, since_is}
use Rattle.mg_players.proofs.Whole.{whole_answered, whole_going}

-- what was sent up to here counts as sent before
settled : (places : List ℕ) (from upto : ℕ) → from ≤ upto → IsSettled places from upto (sent_since places from upto)
settled places from upto room = record {
  kept = λ k is. in_first places (places_from from (upto - from)) k is;
  added = λ k low high. is_since places from upto k low high;
  only = λ k is. since_is places from upto k room is;
}

-- by all places behind it
settled_all : (q q' : Places) (from upto : ℕ) → from ≤ upto → all_places q' ≡ sent_since (all_places q) from upto → IsSettled (all_places q) from upto (all_places q')
settled_all q q' from upto room whole = subst (IsSettled (all_places q) from upto) (sym whole) (settled (all_places q) from upto room)

-- all that was heard by the end of a poll
all_ended : (q q' : Places) (from : ℕ) (calls : List Call) (wire : ℤ) → from ≤ length calls → all_places q' ≡ sent_since (all_places q) from (length calls) → GrowsBehind (past_of (all_places q) from calls wire) (sent_at (all_places q') calls wire)
all_ended q q' from calls wire room whole = subst (λ (l : List ℕ). GrowsBehind (past_of (all_places q) from calls wire) (sent_at l calls wire)) (sym whole) (ended_behind (all_places q) from calls wire room)

module _ (t : PutTask) (old new : Awaited) (log log' : LogTold) (wire : ℤ) (u u' : ClientUpload) (calls calls' : List Call) (told' : log' ≡ Some calls') (q : Places) where
  abbrev From : ℕ
  From = length calls

  abbrev Upto : ℕ
  Upto = length calls'

  -- the log behind the poll
  as_told : (P : List Call → Type 0) (mid : List Call) → log' ≡ Some mid → P mid → P calls'
  as_told P mid told x = subst P (same_some mid calls' (sym told ∙ told')) x

  -- what is on its way behind a poll that goes on
  underway_on : IsUploading new (past_of q.now From calls' wire) u' → IsUploading new (sent_at (sent_since q.now From Upto) calls' wire) u'
  underway_on h = uploading_on (past_of q.now From calls' wire) (sent_at (sent_since q.now From Upto) calls' wire) (grows_ended q.now From calls' wire) new new u'.aim u'.doing (λ m held. refl) h

  -- what its call sent counts as sent before
  now_ended : From ≤ Upto → SendsNoMore (past_of q.now From calls' wire) (sent_at (sent_since q.now From Upto) calls' wire)
  now_ended room = ended_just q.now From calls' wire room

  -- why its call failed
  fails_behind : From ≤ Upto → (e : Error) → PutFails (past_of q.now From calls' wire) t e → PutFails (sent_at (sent_since q.now From Upto) calls' wire) t e
  fails_behind room e fails = fails_on (past_of q.now From calls' wire) (sent_at (sent_since q.now From Upto) calls' wire) (now_ended room) t e fails

  -- and whether its chunks were removed then
  so_behind : From ≤ Upto → (supply : Supply) (R : Reach) (e : Error) (upto : ℕ) (moment : Option ℤ) (removed : Bool) → Reason q.now From wire log' supply t R e upto moment removed → FailsSo supply t (sent_at (sent_since q.now From Upto) calls' wire) e upto moment removed × R upto moment
  so_behind room supply R e upto moment removed h = (
    fails_so_on (past_of q.now From calls' wire) (sent_at (sent_since q.now From Upto) calls' wire) (now_ended room) supply t e upto moment removed
        (as_told (λ (l : List Call). FailsSo supply t (past_of q.now From l wire) e upto moment removed) h.0 h.1 h.2),
    h.3,
  )

  -- what it sent
  said_behind : (supply : Supply) (R : Reach) (q' : Places) → PutSaid calls' q' (λ commands. DoingSent supply t R (sent_at (all_places q') calls' wire) (past_of q.now From calls' wire) commands u'.checked u'.sent u'.doing) → PutSaid calls' q' (λ commands. DoingSent supply t R (sent_at (all_places q') calls' wire) (sent_at (sent_since q.now From Upto) calls' wire) commands u'.checked u'.sent u'.doing)
  said_behind supply R q' s = record {
    within = s.within;
    ordered = s.ordered;
    sends = doing_grows (sent_at (all_places q') calls' wire) (sent_at (all_places q') calls' wire) (as_all_is (sent_at (all_places q') calls' wire)) (past_of q.now From calls' wire) (sent_at (sent_since q.now From Upto) calls' wire) (grows_ended q.now From calls' wire) supply t R (commands_at calls' (all_places q')) u'.checked u'.sent u'.doing s.sends;
  }

  -- where its call is done, that says nothing of the call
  said_at_rest : (supply : Supply) (R R' : Reach) (q' : Places) → u'.doing ≡ idle → PutSaid calls' q' (λ commands. DoingSent supply t R (sent_at (all_places q') calls' wire) (past_of q.now From calls' wire) commands u'.checked u'.sent u'.doing) → PutSaid calls' q' (λ commands. DoingSent supply t R' (sent_at (all_places q') calls' wire) (sent_at [] calls' wire) commands u'.checked u'.sent u'.doing)
  said_at_rest supply R R' q' rests_so s =
      let commands : List Fields = commands_at calls' (all_places q') in
      let all : Past = sent_at (all_places q') calls' wire in
      record { within = s.within; ordered = s.ordered; sends = subst (DoingSent supply t R' all (sent_at [] calls' wire) commands u'.checked u'.sent) (sym rests_so) (subst (DoingSent supply t R all (past_of q.now From calls' wire) commands u'.checked u'.sent) rests_so s.sends) }

  -- what it knows of the list that it reads
  reads_behind : From ≤ Upto → PutReads new (past_of q.now From calls' wire) (put_bucket t) u'.doing → PutReads new (sent_at (sent_since q.now From Upto) calls' wire) (put_bucket t) u'.doing
  reads_behind room h = reads_on (past_of q.now From calls' wire) (sent_at (sent_since q.now From Upto) calls' wire) (now_ended room) new new (put_bucket t) u'.doing (λ m held. refl) h

  -- what it knows of the step of its record
  lays_behind : (q' : Places) → From ≤ Upto → all_places q' ≡ sent_since (all_places q) From Upto → DoingLays (past_of (all_places q) From calls' wire) t u'.doing → DoingLays (sent_at (all_places q') calls' wire) t u'.doing
  lays_behind q' room whole h = doing_settles t calls calls' wire (all_places q) (all_places q') (settled_all q q' From Upto room whole) u'.doing h

  ends_behind : (q' : Places) → From ≤ Upto → all_places q' ≡ sent_since (all_places q) From Upto → NamesFiles t → LaysAll (past_of (all_places q) From calls' wire) t → EndLays (sent_at (all_places q') calls' wire) t
  ends_behind q' room whole named h = inr (named, laid_settles t calls calls' wire (all_places q) (all_places q') (settled_all q q' From Upto room whole) h)

  -- what the upload stored
  knows_behind : (q' : Places) (taken taken' : List ℕ) → From ≤ Upto → all_places q' ≡ sent_since (all_places q) From Upto → taken ≡ taken' → KnowsUpload new (past_of (all_places q) From calls' wire) t.at u' taken → KnowsUpload new (sent_at (all_places q') calls' wire) t.at u' taken'
  knows_behind q' taken taken' room whole same k = subst (KnowsUpload new (sent_at (all_places q') calls' wire) t.at u') same (uploads_settle new calls calls' wire (all_places q) (all_places q') t.at u' taken (settled_all q q' From Upto room whole) k)

-- what is stored for its aim
stored_by : (past : Past) (t : PutTask) (u : ClientUpload) (taken : List ℕ) → u.aim ≡ put_aim t → HasStored past t.at u taken → HasStored past t.at (fresh_upload (put_aim t)) taken
stored_by past t u taken aim s =
    record {
      ending = s.ending;
      counts = s.counts;
      chunks = s.chunks;
      chunks_are = subst (λ (a : Aim). AreChunks 0 (chunked a.size taken) s.chunks) aim s.chunks_are;
      knows = subst (λ (a : Aim). KnowsFile past t.at a.id (stays (whole_with (record_of a s.ending) s.chunks))) aim s.knows;
    }

-- none of its chunks is left, told of its aim
cleared_by : (past : Past) (t : PutTask) (u : ClientUpload) (e : Error) → u.aim ≡ put_aim t → HasCleared past t.at u e → HasCleared past t.at (fresh_upload (put_aim t)) e
cleared_by past t u e aim h leaves = subst (λ (a : Aim). KnowsFile past t.at a.id cleared) aim (h leaves)

-- a put that goes on has not closed its upload
still_open : (u u' : ClientUpload) (made count : ℕ) → IsPutDoing u.doing made count → u' ≡ u → u'.doing ≡ closed → ⊥
still_open u u' made count doing same over = subst (λ (d : Doing). IsPutDoing d made count) (sym (ap (λ (x : ClientUpload). x.doing) same) ∙ over) doing

-- A poll that failed and left the upload as it was ran out of memory.
write_leaves : (u u' : ClientUpload) (e : Error) (made count : ℕ) → IsPutDoing u.doing made count → made < count → u' ≡ u → LeavesWrite u u' (wrote.Failed e) → may_leave e.kind
write_leaves u u' e made count doing within same (inl over) = absurd (still_open u u' made count doing same over)
write_leaves u u' e made count doing within same (inr (kept, inl rest)) = subst (λ (x : Error). may_leave x.kind) (sym rest.1) tt
write_leaves u u' e made count doing within same (inr (kept, inr refused)) = absurd (takes_write u.doing made count doing within refused.0)

close_leaves : (u u' : ClientUpload) (e : Error) (made count : ℕ) → IsPutDoing u.doing made count → u' ≡ u → LeavesEnd close u u' (end.Failed e) → may_leave e.kind
close_leaves u u' e made count doing same (inl over) = absurd (still_open u u' made count doing same over)
close_leaves u u' e made count doing same (inr left) = absurd (takes_close u.doing made count doing left.1)

-- ---- how far it may come

total_more : (pieces : List (List ℕ)) (n : ℕ) → total (take n pieces) ≤ total (take (suc n) pieces)
total_more [] zero = omega arith
total_more [] (suc n) = omega arith
total_more (p ∷ ps) zero = omega arith
total_more (p ∷ ps) (suc n) = let more = total_more ps n in omega (arith, more)

less_by : (a b c d : ℕ) → a ≤ b → b ≡ c → c ≤ d → a ≤ d
less_by a b c d within same more = omega (arith, within, same, more)

-- a write sends only full chunks of the pieces up to its own
near_write : (t : PutTask) (made upto : ℕ) → upto * t.chunk ≤ length (joined (take (made + 1) t.pieces)) → Reaches t made upto None
near_write t made upto within = λ less.
    let next : made + 1 ≡ suc made = omega arith in
    let bytes : length (joined (take (made + 1) t.pieces)) ≡ total (take (suc made) t.pieces) = joined_total (take (made + 1) t.pieces) ∙ ap (λ (n : ℕ). total (take n t.pieces)) next in
    (refl, subst (λ (n : ℕ). upto * t.chunk ≤ n) bytes within)

-- of a close nothing is asked
far_close : (t : PutTask) (made : ℕ) → length t.pieces ≤ made → (upto : ℕ) (moment : Option ℤ) → Reaches t made upto moment
far_close t made all upto moment = λ less. absurd (omega (arith, all, less))

pub write_reach : (t : PutTask) (made piece : ℕ) → MayReach t (joined (take (made + 1) t.pieces)) (write piece) (Reaches t made)
write_reach t made piece = record { chunks = near_write t made; all = λ bad. absurd cc }

pub close_reach : (t : PutTask) (made : ℕ) → length t.pieces ≤ made → MayReach t (joined t.pieces) close (Reaches t made)
close_reach t made all = record { chunks = λ upto within. far_close t made all upto None; all = λ is. far_close t made all }

-- nor do the calls before it
pub idle_near : (t : PutTask) (u : ClientUpload) (made : ℕ) → u.aim ≡ put_aim t → IsCutAt u (joined (take made t.pieces)) 0 → Reaches t made u.sent None
idle_near t u made aim cut = λ less.
    let before : (u.sent + 0) * t.chunk ≤ length (joined (take made t.pieces)) = cut_within t u (joined (take made t.pieces)) 0 aim cut in
    let more : total (take made t.pieces) ≤ total (take (suc made) t.pieces) = total_more t.pieces made in
    let bytes : length (joined (take made t.pieces)) ≡ total (take made t.pieces) = joined_total (take made t.pieces) in
    let same : u.sent + 0 ≡ u.sent = omega arith in
    (refl, subst (λ (n : ℕ). n * t.chunk ≤ total (take (suc made) t.pieces)) same (less_by ((u.sent + 0) * t.chunk) (length (joined (take made t.pieces))) (total (take made t.pieces)) (total (take (suc made) t.pieces)) before bytes more))

-- ---- a write

-- what a poll of a write says
pub record WritePolled (ids later : ℕ → List ℕ) (old new : Awaited) (log log' : LogTold) (wire : ℤ) (u u' : ClientUpload) (bytes : List ℕ) (r : WritePoll) : Type 0 where
  pub twelve : (k : ℕ) → length (ids k) ≡ 12
  pub drawn : ℕ
  pub behind : AreLater ids drawn later
  pub does : Writes old new log log' wire ids drawn u u' bytes r
  pub leaves : LeavesWrite u u' r
  pub caused : WriteCaused old new log log' wire u u' r
  pub stored : (at : Bucket) → WriteStores old new log log' wire at u u' bytes r
  pub passes : LeavesOthers old new log log' u u'
  pub tickets : Tickets old new (upload_ticket u) (upload_ticket u')

module _ (supply : Supply) (t : PutTask) (ids later : ℕ → List ℕ) (old new : Awaited) (log log' : LogTold) (wire : ℤ) (u u' : ClientUpload) (bytes : List ℕ) (r : WritePoll) (polled : WritePolled ids later old new log log' wire u u' bytes r) (between : IsBetween u) (made : ℕ) (there : slice_get t.pieces made ≡ Some bytes) (doing : IsPutDoing u.doing made (length t.pieces)) (calls calls' : List Call)
    (told : log ≡ Some calls) (told' : log' ≡ Some calls') (q : Places) (tells : PutTellsOpen old calls wire q supply t ids made u) where
  within : made < length t.pieces
  within = get_within t.pieces made bytes there

  sent : PollSent supply t log log' u' (Ahead r) (joined (take (made + 1) t.pieces))
  sent = write_sends supply t old new log log' wire ids polled.drawn u u' between tells.aim_is bytes made there within doing tells.cut tells.flies tells.supplied r polled.does

  supplied : Ahead r (DoingSupplied supply t later u'.sent u'.doing)
  supplied = write_supplied supply t old new log log' wire ids later polled.drawn polled.behind u u' between tells.supplied bytes made (length t.pieces) within doing r polled.does

  pub write_adds : AddsOnly (IsPutCommand supply t) calls calls'
  write_adds = let a = sent.adds calls told in as_told t old new log log' wire u u' calls calls' told' q (AddsOnly (IsPutCommand supply t) calls) a.0 a.1 a.2

  pub write_room : length calls ≤ length calls'
  write_room = keeps_longer calls calls' write_adds.keeps

  came : WriteCame new (past_of q.now (length calls) calls' wire) u u' r
  came = let c = polled.caused calls told q.now tells.underway in as_told t old new log log' wire u u' calls calls' told' q (λ (l : List Call). WriteCame new (past_of q.now (length calls) l wire) u u' r) c.0 c.1 c.3

  stored : AfterWrite new (past_of (all_places q) (length calls) calls' wire) t.at u u' (taken_in u.doing t.pieces made) bytes r
  stored =
      let s = polled.stored t.at calls told (all_places q) (taken_in u.doing t.pieces made) tells.knows in
      as_told t old new log log' wire u u' calls calls' told' q (λ (l : List Call). AfterWrite new (past_of (all_places q) (length calls) l wire) t.at u u' (taken_in u.doing t.pieces made) bytes r) s.0 s.1 s.3

  ends_so : WriteEnds t new u' r (past_of q.now (length calls) calls' wire)
  ends_so =
      let w = write_ends supply t old new log log' wire ids polled.drawn polled.twelve u u' between tells.aim_is calls told q.now tells.underway (tells.its, tells.reads) tells.supplied bytes made there within doing tells.cut tells.flies r polled.does in
      as_told t old new log log' wire u u' calls calls' told' q (λ (l : List Call). WriteEnds t new u' r (past_of q.now (length calls) l wire)) w.0 w.1 w.3

  abbrev Why : Error → ℕ → Option ℤ → Bool → Type 0
  Why = Reason q.now (length calls) wire log' supply t (Reaches t made)

  ordered : (more : List Fields) × AddsJust log log' more × WriteSaid supply t (Reaches t made) (past_of (all_places q) (length calls) calls' wire) (past_of q.now (length calls) calls' wire) Why (commands_at calls (all_places q) ++ more) u' r
  ordered = write_order supply t (Reaches t made) old new log log' wire ids polled.drawn polled.twelve u u' between tells.aim_is (commands_at calls (all_places q)) tells.supplied calls calls' told told' q.now (all_places q) (now_last calls q tells.said.within tells.said.ordered) tells.said.sends tells.underway (tells.its, tells.reads) bytes made there within doing tells.cut tells.flies (near_write t made) r polled.does

  -- so it has said behind it, by what it comes to
  said_so : (q' : Places) → all_places q' ≡ sent_since (all_places q) (length calls) (length calls') → CallsFollow q' → (x : WritePoll) → r ≡ x → PutSaid calls' q' (λ commands. WriteSaid supply t (Reaches t made) (sent_at (all_places q') calls' wire) (past_of q.now (length calls) calls' wire) Why commands u' x)
  said_so q' whole in_order x is =
      let now : Past = sent_at (all_places q') calls' wire in
      let its : Past = past_of q.now (length calls) calls' wire in
      let on = write_grows (past_of (all_places q) (length calls) calls' wire) now (all_ended q q' (length calls) calls' wire write_room whole) supply t (Reaches t made) its Why (commands_at calls (all_places q) ++ ordered.0) u' r ordered.2 in
      subst (λ (y : WritePoll). PutSaid calls' q' (λ commands. WriteSaid supply t (Reaches t made) now its Why commands u' y)) is
      (said_more log log' calls calls' q q' (λ commands. DoingSent supply t (Reaches t made) (sent_at (all_places q) calls wire) (sent_at q.now calls wire) commands u.checked u.sent u.doing) (λ commands. WriteSaid supply t (Reaches t made) now its Why commands u' r) told told' write_adds.keeps whole in_order tells.said (ordered.0, ordered.1, on))

  still_ordered : CallsFollow (going_on q (length calls) (length calls'))
  still_ordered = going_ordered calls q tells.said.within tells.said.ordered (length calls') write_room

  taken_so : (d : Doing) (made' : ℕ) → taken_in d t.pieces made' ≡ joined (take (made + 1) t.pieces) → taken_by u.doing (taken_in u.doing t.pieces made) bytes ≡ taken_in d t.pieces made'
  taken_so d made' same = taken_on u.doing t.pieces made bytes doing within there ∙ sym same

  named : NamesFiles t
  named = names_of old (sent_at (all_places q) calls wire) t u (taken_in u.doing t.pieces made) tells.aim_is tells.knows

  laid : WriteLays t u' r (past_of (all_places q) (length calls) calls' wire)
  laid = write_laid supply t old new log log' wire ids polled.drawn u u' between tells.aim_is named tells.supplied calls told (all_places q) tells.lays bytes made there within doing tells.cut tells.flies r polled.does calls' told'

  -- what its calls before sent
  pub write_kept : AllWritten supply t calls' q.owns
  write_kept = full_later supply t calls calls' q write_adds.keeps tells.said.within tells.full

  filled : FullBy t u'.checked (joined (take (made + 1) t.pieces)) r
  filled = write_full t old new log log' wire ids polled.drawn u u' tells.aim_is bytes made there within doing tells.cut tells.needs r polled.does

  -- it waits for a reply
  pub write_waits : RestsBy u'.doing → r ≡ wrote.Pending → PutTellsOpen new calls' wire (going_on q (length calls) (length calls')) supply t later made u'
  write_waits pauses is =
      let busy_so = subst (LeavesWrite u u') is polled.leaves in
      let taken : taken_in u'.doing t.pieces made ≡ joined (take (made + 1) t.pieces) = ap (λ (d : Doing). taken_in d t.pieces made) busy_so.2 in
      let stands = subst (λ (x : WritePoll). Ahead x (Stands supply t u' (joined (take (made + 1) t.pieces)) u'.doing)) is sent.stands in
      record {
        aim_is = sent.aim_is;
        sized = tells.sized;
        opened = tells.opened;
        counted = tells.counted;
        rests = λ still. absurd (let bad : busy (write busy_so.0) busy_so.1 ≡ idle = sym busy_so.2 ∙ still in cc);
        full = write_kept;
        needs = subst (λ (d : Doing). NeedsFull t u'.checked d (taken_in d t.pieces made)) (sym busy_so.2) (subst (FullBy t u'.checked (joined (take (made + 1) t.pieces))) is filled);
        cut = subst (λ (l : List ℕ). CutBy u' l u'.doing) (sym taken) stands.0;
        pauses = pauses;
        underway = underway_on t old new log log' wire u u' calls calls' told' q (subst (WriteCame new (past_of q.now (length calls) calls' wire) u u') is came);
        flies = stands.1;
        supplied = subst (λ (x : WritePoll). Ahead x (DoingSupplied supply t later u'.sent u'.doing)) is supplied;
        its = (subst (λ (x : WritePoll). WriteEnds t new u' x (past_of q.now (length calls) calls' wire)) is ends_so).0;
        reads = reads_behind t old new log log' wire u u' calls calls' told' q write_room (subst (λ (x : WritePoll). WriteEnds t new u' x (past_of q.now (length calls) calls' wire)) is ends_so).1;
        knows = knows_behind t old new log log' wire u u' calls calls' told' q (going_on q (length calls) (length calls')) (taken_by u.doing (taken_in u.doing t.pieces made) bytes) (taken_in u'.doing t.pieces made) write_room (whole_going q (length calls) (length calls')) (taken_so u'.doing made taken)
            (subst (AfterWrite new (past_of (all_places q) (length calls) calls' wire) t.at u u' (taken_in u.doing t.pieces made) bytes) is stored);
        said = said_behind t old new log log' wire u u' calls calls' told' q supply (Reaches t made) (going_on q (length calls) (length calls')) (said_so (going_on q (length calls) (length calls')) (whole_going q (length calls) (length calls')) still_ordered wrote.Pending is);
        lays = lays_behind t old new log log' wire u u' calls calls' told' q (going_on q (length calls) (length calls')) write_room (whole_going q (length calls) (length calls')) (subst (λ (x : WritePoll). WriteLays t u' x (past_of (all_places q) (length calls) calls' wire)) is laid);
      }

  -- one piece more is written
  pub write_done : (n : ℕ) → r ≡ wrote.Wrote n → PutTellsOpen new calls' wire (answered_by q (length calls) (length calls')) supply t later (made + 1) u'
  write_done n is =
      let left : (u'.doing ≡ idle) × (length u'.behind < u'.aim.size) = subst (LeavesWrite u u') is polled.leaves in
      let rests_so : u'.doing ≡ idle = left.0 in
      let taken : taken_in u'.doing t.pieces (made + 1) ≡ joined (take (made + 1) t.pieces) = ap (λ (d : Doing). taken_in d t.pieces (made + 1)) rests_so in
      let stands = subst (λ (x : WritePoll). Ahead x (Stands supply t u' (joined (take (made + 1) t.pieces)) u'.doing)) is sent.stands in
      let own : List ℕ = sent_since q.now (length calls) (length calls') in
      let fills_so : u'.checked ≡ true → t.chunk ≤ length (joined (take (made + 1) t.pieces)) = subst (FullBy t u'.checked (joined (take (made + 1) t.pieces))) is filled in
      let said_now = said_at_rest t old new log log' wire u u' calls calls' told' q supply (Reaches t made) (Reaches t (made + 1)) (answered_by q (length calls) (length calls')) rests_so (said_so (answered_by q (length calls) (length calls')) (whole_answered q (length calls) (length calls')) (λ k m before now. absurd now) (wrote.Wrote n) is) in
      record {
        aim_is = sent.aim_is;
        sized = tells.sized;
        opened = tells.opened;
        counted = length-append q.owns (own ∷ []) ∙ ap (λ (m : ℕ). m + 1) tells.counted;
        rests = λ still. (refl, left.1);
        full = full_more supply t calls' q.owns own write_kept (written_full supply t (Reaches t (made + 1)) (sent_at (all_places (answered_by q (length calls) (length calls'))) calls' wire) (sent_at [] calls' wire) calls' q own made u' tells.opened tells.counted rests_so sent.aim_is said_now.sends stands.0 left.1 fills_so);
        needs = subst (λ (d : Doing). NeedsFull t u'.checked d (taken_in d t.pieces (made + 1))) (sym rests_so) fills_so;
        cut = subst (λ (l : List ℕ). CutBy u' l u'.doing) (sym taken) stands.0;
        pauses = subst RestsBy (sym rests_so) tt;
        underway = subst (UnderwayBy new (sent_at [] calls' wire) u'.aim) (sym rests_so) tt;
        flies = stands.1;
        supplied = subst (λ (x : WritePoll). Ahead x (DoingSupplied supply t later u'.sent u'.doing)) is supplied;
        its = subst (λ (d : Doing). AnswersPut t (error_by d)) (sym rests_so) tt;
        reads = subst (PutReads new (sent_at [] calls' wire) (put_bucket t)) (sym rests_so) tt;
        knows = knows_behind t old new log log' wire u u' calls calls' told' q (answered_by q (length calls) (length calls')) (taken_by u.doing (taken_in u.doing t.pieces made) bytes) (taken_in u'.doing t.pieces (made + 1)) write_room (whole_answered q (length calls) (length calls')) (taken_so u'.doing (made + 1) taken)
            (subst (AfterWrite new (past_of (all_places q) (length calls) calls' wire) t.at u u' (taken_in u.doing t.pieces made) bytes) is stored);
        said = said_now;
        lays = lays_behind t old new log log' wire u u' calls calls' told' q (answered_by q (length calls) (length calls')) write_room (whole_answered q (length calls) (length calls')) (subst (λ (x : WritePoll). WriteLays t u' x (past_of (all_places q) (length calls) calls' wire)) is laid);
      }

  -- it fails
  pub write_fails : (e : Error) → r ≡ wrote.Failed e → PutFails (sent_at (sent_since q.now (length calls) (length calls')) calls' wire) t e
  write_fails e is = fails_behind t old new log log' wire u u' calls calls' told' q write_room e (subst (λ (x : WritePoll). WriteEnds t new u' x (past_of q.now (length calls) calls' wire)) is ends_so)

  -- and leaves no chunk, unless its error may
  pub write_clears : (e : Error) → r ≡ wrote.Failed e → HasCleared (sent_at (all_places (going_on q (length calls) (length calls'))) calls' wire) t.at (fresh_upload (put_aim t)) e
  write_clears e is =
      let q' : Places = going_on q (length calls) (length calls') in
      let past : Past = past_of (all_places q) (length calls) calls' wire in
      let h : HasCleared past t.at u e = elim (subst (AfterWrite new past t.at u u' (taken_in u.doing t.pieces made) bytes) is stored) [
        | inl left ↦ (λ leaves. absurd (leaves (write_leaves u u' e made (length t.pieces) doing within left.0 (subst (LeavesWrite u u') is polled.leaves))))
        | inr cleared_so ↦ cleared_so
      ] in
      cleared_by (sent_at (all_places q') calls' wire) t u e tells.aim_is (cleared_settles calls calls' wire (all_places q) (all_places q') t.at u e (settled_all q q' (length calls) (length calls') write_room (whole_going q (length calls) (length calls'))) h)

  -- and it sent its commands in their order
  pub write_said : (e : Error) → r ≡ wrote.Failed e → PutSaid calls' (going_on q (length calls) (length calls')) (λ commands. PutEndsSent supply t made (sent_at (all_places (going_on q (length calls) (length calls'))) calls' wire) (sent_at (sent_since q.now (length calls) (length calls')) calls' wire) commands (ended.Failed e))
  write_said e is =
      let s = said_so (going_on q (length calls) (length calls')) (whole_going q (length calls) (length calls')) still_ordered (wrote.Failed e) is in
      record { within = s.within; ordered = s.ordered; sends = (s.sends.0, s.sends.1, so_behind t old new log log' wire u u' calls calls' told' q write_room supply (Reaches t made) e s.sends.1.0 s.sends.1.1 s.sends.0 s.sends.2) }

  -- and over all chunks only
  pub write_lays : (e : Error) → r ≡ wrote.Failed e → EndLays (sent_at (all_places (going_on q (length calls) (length calls'))) calls' wire) t
  write_lays e is = ends_behind t old new log log' wire u u' calls calls' told' q (going_on q (length calls) (length calls')) write_room (whole_going q (length calls) (length calls')) named (subst (λ (x : WritePoll). WriteLays t u' x (past_of (all_places q) (length calls) calls' wire)) is laid)

-- ---- a close

-- what a poll of a close says
pub record ClosePolled (ids later : ℕ → List ℕ) (moment : ℤ) (old new : Awaited) (log log' : LogTold) (wire : ℤ) (u u' : ClientUpload) (r : Step2) : Type 0 where
  pub twelve : (k : ℕ) → length (ids k) ≡ 12
  pub drawn : ℕ
  pub behind : AreLater ids drawn later
  pub does : Closes old new log log' wire ids drawn moment u u' r
  pub leaves : LeavesEnd close u u' r
  pub caused : CloseCaused old new log log' wire u u' r
  pub stored : (at : Bucket) → CloseStores old new log log' wire at u u' r
  pub passes : LeavesOthers old new log log' u u'
  pub tickets : Tickets old new (upload_ticket u) (upload_ticket u')

module _ (supply : Supply) (t : PutTask) (ids later : ℕ → List ℕ) (moment : ℤ) (its : IsMoment supply.moment moment) (old new : Awaited) (log log' : LogTold) (wire : ℤ) (u u' : ClientUpload) (r : Step2) (polled : ClosePolled ids later moment old new log log' wire u u' r) (between : IsBetween u) (made : ℕ) (all : length t.pieces ≤ made) (doing : IsPutDoing u.doing made (length t.pieces)) (calls calls' : List Call) (told : log ≡ Some calls) (told' : log' ≡ Some calls')
    (q : Places) (tells : PutTellsOpen old calls wire q supply t ids made u) where
  end_sent : PollSent supply t log log' u' (AheadEnd r) (joined t.pieces)
  end_sent = close_sends supply t old new log log' wire ids polled.drawn u u' between tells.aim_is made all doing tells.cut tells.flies tells.supplied moment its r polled.does

  end_supplied : AheadEnd r (DoingSupplied supply t later u'.sent u'.doing)
  end_supplied = close_supplied supply t old new log log' wire ids later polled.drawn polled.behind u u' between tells.supplied made (length t.pieces) all doing moment its r polled.does

  pub close_adds : AddsOnly (IsPutCommand supply t) calls calls'
  close_adds = let a = end_sent.adds calls told in as_told t old new log log' wire u u' calls calls' told' q (AddsOnly (IsPutCommand supply t) calls) a.0 a.1 a.2

  pub close_room : length calls ≤ length calls'
  close_room = keeps_longer calls calls' close_adds.keeps

  end_came : CloseCame new (past_of q.now (length calls) calls' wire) u u' r
  end_came = let c = polled.caused calls told q.now tells.underway in as_told t old new log log' wire u u' calls calls' told' q (λ (l : List Call). CloseCame new (past_of q.now (length calls) l wire) u u' r) c.0 c.1 c.3

  end_stored : AfterClose new (past_of (all_places q) (length calls) calls' wire) t.at u u' (taken_in u.doing t.pieces made) r
  end_stored =
      let s = polled.stored t.at calls told (all_places q) (taken_in u.doing t.pieces made) tells.knows in
      as_told t old new log log' wire u u' calls calls' told' q (λ (l : List Call). AfterClose new (past_of (all_places q) (length calls) l wire) t.at u u' (taken_in u.doing t.pieces made) r) s.0 s.1 s.3

  closed_so : CloseEnds t new u' r (past_of q.now (length calls) calls' wire)
  closed_so =
      let w = close_ends supply t old new log log' wire ids polled.drawn polled.twelve u u' between tells.aim_is calls told q.now tells.underway (tells.its, tells.reads) tells.supplied made all doing tells.cut tells.flies moment its r polled.does in
      as_told t old new log log' wire u u' calls calls' told' q (λ (l : List Call). CloseEnds t new u' r (past_of q.now (length calls) l wire)) w.0 w.1 w.3

  abbrev Reasons : Error → ℕ → Option ℤ → Bool → Type 0
  Reasons = Reason q.now (length calls) wire log' supply t (Reaches t made)

  end_ordered : (more : List Fields) × AddsJust log log' more × CloseSaid supply t (Reaches t made) (past_of (all_places q) (length calls) calls' wire) (past_of q.now (length calls) calls' wire) Reasons (commands_at calls (all_places q) ++ more) u' r
  end_ordered = close_order supply t (Reaches t made) old new log log' wire ids polled.drawn polled.twelve u u' between tells.aim_is (commands_at calls (all_places q)) tells.supplied calls calls' told told' q.now (all_places q) (now_last calls q tells.said.within tells.said.ordered) tells.said.sends tells.underway (tells.its, tells.reads) made all doing tells.cut tells.flies (far_close t made all) moment its r polled.does

  end_said : (x : Step2) → r ≡ x → PutSaid calls' (going_on q (length calls) (length calls')) (λ commands. CloseSaid supply t (Reaches t made) (sent_at (all_places (going_on q (length calls) (length calls'))) calls' wire) (past_of q.now (length calls) calls' wire) Reasons commands u' x)
  end_said x is =
      let q' : Places = going_on q (length calls) (length calls') in
      let now : Past = sent_at (all_places q') calls' wire in
      let its : Past = past_of q.now (length calls) calls' wire in
      let whole = whole_going q (length calls) (length calls') in
      let on = close_grows (past_of (all_places q) (length calls) calls' wire) now (all_ended q q' (length calls) calls' wire close_room whole) supply t (Reaches t made) its Reasons (commands_at calls (all_places q) ++ end_ordered.0) u' r end_ordered.2 in
      subst (λ (y : Step2). PutSaid calls' q' (λ commands. CloseSaid supply t (Reaches t made) now its Reasons commands u' y)) is
      (said_more log log' calls calls' q q' (λ commands. DoingSent supply t (Reaches t made) (sent_at (all_places q) calls wire) (sent_at q.now calls wire) commands u.checked u.sent u.doing) (λ commands. CloseSaid supply t (Reaches t made) now its Reasons commands u' r) told told' close_adds.keeps whole (going_ordered calls q tells.said.within tells.said.ordered (length calls') close_room) tells.said (end_ordered.0, end_ordered.1, on))

  end_taken : taken_in u.doing t.pieces made ≡ joined t.pieces
  end_taken = taken_whole u.doing t.pieces made doing all

  end_named : NamesFiles t
  end_named = names_of old (sent_at (all_places q) calls wire) t u (taken_in u.doing t.pieces made) tells.aim_is tells.knows

  end_laid : CloseLays t u' r (past_of (all_places q) (length calls) calls' wire)
  end_laid =
      let knows : KnowsUpload old (sent_at (all_places q) calls wire) t.at u (joined t.pieces) = subst (KnowsUpload old (sent_at (all_places q) calls wire) t.at u) end_taken tells.knows in
      close_laid supply t old new log log' wire ids polled.drawn u u' between tells.aim_is end_named tells.supplied calls told (all_places q) tells.lays made all doing tells.cut tells.flies knows moment its r polled.does calls' told'

  -- what its calls before sent
  pub close_kept : AllWritten supply t calls' q.owns
  close_kept = full_later supply t calls calls' q close_adds.keeps tells.said.within tells.full

  -- it waits for a reply
  pub close_waits : RestsBy u'.doing → r ≡ end.Pending → PutTellsOpen new calls' wire (going_on q (length calls) (length calls')) supply t later made u'
  close_waits pauses is =
      let busy_so = subst (LeavesEnd close u u') is polled.leaves in
      let taken : taken_in u'.doing t.pieces made ≡ joined t.pieces = ap (λ (d : Doing). taken_in d t.pieces made) busy_so.1 in
      let stands = subst (λ (x : Step2). AheadEnd x (Stands supply t u' (joined t.pieces) u'.doing)) is end_sent.stands in
      record {
        aim_is = end_sent.aim_is;
        sized = tells.sized;
        opened = tells.opened;
        counted = tells.counted;
        rests = λ still. absurd (let bad : busy close busy_so.0 ≡ idle = sym busy_so.1 ∙ still in cc);
        full = close_kept;
        needs = subst (λ (d : Doing). NeedsFull t u'.checked d (taken_in d t.pieces made)) (sym busy_so.1) tt;
        cut = subst (λ (l : List ℕ). CutBy u' l u'.doing) (sym taken) stands.0;
        pauses = pauses;
        underway = underway_on t old new log log' wire u u' calls calls' told' q (subst (CloseCame new (past_of q.now (length calls) calls' wire) u u') is end_came);
        flies = stands.1;
        supplied = subst (λ (x : Step2). AheadEnd x (DoingSupplied supply t later u'.sent u'.doing)) is end_supplied;
        its = (subst (λ (x : Step2). CloseEnds t new u' x (past_of q.now (length calls) calls' wire)) is closed_so).0;
        reads = reads_behind t old new log log' wire u u' calls calls' told' q close_room (subst (λ (x : Step2). CloseEnds t new u' x (past_of q.now (length calls) calls' wire)) is closed_so).1;
        knows = knows_behind t old new log log' wire u u' calls calls' told' q (going_on q (length calls) (length calls')) (taken_in u.doing t.pieces made) (taken_in u'.doing t.pieces made) close_room (whole_going q (length calls) (length calls')) (end_taken ∙ sym taken)
            (subst (AfterClose new (past_of (all_places q) (length calls) calls' wire) t.at u u' (taken_in u.doing t.pieces made)) is end_stored);
        said = said_behind t old new log log' wire u u' calls calls' told' q supply (Reaches t made) (going_on q (length calls) (length calls')) (end_said end.Pending is);
        lays = lays_behind t old new log log' wire u u' calls calls' told' q (going_on q (length calls) (length calls')) close_room (whole_going q (length calls) (length calls')) (subst (λ (x : Step2). CloseLays t u' x (past_of (all_places q) (length calls) calls' wire)) is end_laid);
      }

  -- the file is stored
  pub close_done : r ≡ end.Done → HasStored (sent_at (all_places (going_on q (length calls) (length calls'))) calls' wire) t.at (fresh_upload (put_aim t)) (joined t.pieces)
  close_done is =
      let q' : Places = going_on q (length calls) (length calls') in
      let s : HasStored (past_of (all_places q) (length calls) calls' wire) t.at u (joined t.pieces) =
      subst (HasStored (past_of (all_places q) (length calls) calls' wire) t.at u) end_taken (subst (AfterClose new (past_of (all_places q) (length calls) calls' wire) t.at u u' (taken_in u.doing t.pieces made)) is end_stored) in
      stored_by (sent_at (all_places q') calls' wire) t u (joined t.pieces) tells.aim_is
      (stored_settles calls calls' wire (all_places q) (all_places q') t.at u (joined t.pieces) (settled_all q q' (length calls) (length calls') close_room (whole_going q (length calls) (length calls'))) s)

  -- it fails
  pub close_fails : (e : Error) → r ≡ end.Failed e → PutFails (sent_at (sent_since q.now (length calls) (length calls')) calls' wire) t e
  close_fails e is = fails_behind t old new log log' wire u u' calls calls' told' q close_room e (subst (λ (x : Step2). CloseEnds t new u' x (past_of q.now (length calls) calls' wire)) is closed_so)

  -- and leaves no chunk, unless its error may
  pub close_clears : (e : Error) → r ≡ end.Failed e → HasCleared (sent_at (all_places (going_on q (length calls) (length calls'))) calls' wire) t.at (fresh_upload (put_aim t)) e
  close_clears e is =
      let q' : Places = going_on q (length calls) (length calls') in
      let past : Past = past_of (all_places q) (length calls) calls' wire in
      let h : HasCleared past t.at u e = elim (subst (AfterClose new past t.at u u' (taken_in u.doing t.pieces made)) is end_stored) [
        | inl left ↦ (λ leaves. absurd (leaves (close_leaves u u' e made (length t.pieces) doing left.0 (subst (LeavesEnd close u u') is polled.leaves))))
        | inr cleared_so ↦ cleared_so
      ] in
      cleared_by (sent_at (all_places q') calls' wire) t u e tells.aim_is (cleared_settles calls calls' wire (all_places q) (all_places q') t.at u e (settled_all q q' (length calls) (length calls') close_room (whole_going q (length calls) (length calls'))) h)

  -- it sent its commands in their order
  pub close_said_done : (n : ℕ) → r ≡ end.Done → PutSaid calls' (going_on q (length calls) (length calls')) (λ commands. PutEndsSent supply t made (sent_at (all_places (going_on q (length calls) (length calls'))) calls' wire) (sent_at (sent_since q.now (length calls) (length calls')) calls' wire) commands (ended.Gave n))
  close_said_done n is = end_said end.Done is

  pub close_said_fails : (e : Error) → r ≡ end.Failed e → PutSaid calls' (going_on q (length calls) (length calls')) (λ commands. PutEndsSent supply t made (sent_at (all_places (going_on q (length calls) (length calls'))) calls' wire) (sent_at (sent_since q.now (length calls) (length calls')) calls' wire) commands (ended.Failed e))
  close_said_fails e is =
      let s = end_said (end.Failed e) is in
      record { within = s.within; ordered = s.ordered; sends = (s.sends.0, s.sends.1, so_behind t old new log log' wire u u' calls calls' told' q close_room supply (Reaches t made) e s.sends.1.0 s.sends.1.1 s.sends.0 s.sends.2) }

  -- and its record over all chunks only
  pub close_lays_done : r ≡ end.Done → EndLays (sent_at (all_places (going_on q (length calls) (length calls'))) calls' wire) t
  close_lays_done is = ends_behind t old new log log' wire u u' calls calls' told' q (going_on q (length calls) (length calls')) close_room (whole_going q (length calls) (length calls')) end_named (subst (λ (x : Step2). CloseLays t u' x (past_of (all_places q) (length calls) calls' wire)) is end_laid)

  pub close_lays_fails : (e : Error) → r ≡ end.Failed e → EndLays (sent_at (all_places (going_on q (length calls) (length calls'))) calls' wire) t
  close_lays_fails e is = ends_behind t old new log log' wire u u' calls calls' told' q (going_on q (length calls) (length calls')) close_room (whole_going q (length calls) (length calls')) end_named (subst (λ (x : Step2). CloseLays t u' x (past_of (all_places q) (length calls) calls' wire)) is end_laid)
