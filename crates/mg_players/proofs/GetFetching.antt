-- How the cursor of a read stands behind its batches, and why the read fails.
use Rattle.std.proofs.Common.{◌≡◌, ◌≢◌, ◌⊎◌, ◌<◌, ◌≤◌, ◌++◌, ◌+◌, ◌-◌, ℕ, zero, suc, ℤ, pos, Bool, true, List, [], ◌∷◌, length, take, Some, None, Ok, Err, refl, sym, ap, ◌∙◌, subst, inl, inr, arith, length-append, append-nil, append_assoc}
use Rattle.std.specs.List.{concat}
use Rattle.std.proofs.lemmas.List.Folds.{concat-append}
use Rattle.mg_bson.specs.Raw.{fields, items}
use Rattle.mg_bson.specs.Tree.{Fields, Items, no_items}
use Rattle.mg_server.specs.Calls.{Grows, Keeps, Past, past_of}
use Rattle.mg_server.specs.Commands.{Batch, batch_of}
use Rattle.mg_link.specs.Errors.{plain}
use Rattle.mg_link.specs.Exec.{Sending}
use Rattle.mg_server.specs.Files.{chunks_space}
use Rattle.mg_server.specs.History.{IsLegal, Step, state_of}
use Rattle.mg_link.specs.Link.{Awaited, LogTold}
use Rattle.mg_link.specs.Log.{Call}
use Rattle.mg_server.specs.Owner.{Passes}
use Rattle.mg_server.specs.Query.{Query}
use Rattle.mg_server.specs.Reader.{KnowsRead, Reader, owner_of_reader}
use Rattle.mg_server.specs.Standing.{Stands}
use Rattle.mg_link.specs.declared.action.Step.{Step as Polled}
use Rattle.mg_link.specs.declared.action.Step.TheVariants as came
use Rattle.mg_link.specs.declared.error.Error.{Error}
use Rattle.mg_link.specs.declared.error.ErrorKind.TheVariants as kind
use Rattle.mg_server.proofs.Calls.{keeps_longer, log_grows}
use Rattle.mg_server.proofs.Owners.{same_some}
use Rattle.mg_server.proofs.Pasts.{heard_reply}
use Rattle.mg_ops.specs.Cursors.{Cursor, batch_at, cursor_of}
use Rattle.mg_ops.proofs.Asking.{asks_for_more}
use Rattle.mg_ops.proofs.Replying.{same_id}
use Rattle.mg_cursor.specs.Batches.{NoBatchIn, documents_of}
use Rattle.mg_cursor.specs.Causes.{HeardMore, IsUnderway, NextCame}
use Rattle.mg_cursor.specs.Client as client
use Rattle.mg_cursor.specs.Client.{ClientCursor, IsOver, IsSound, get_more}
use Rattle.mg_cursor.specs.Polling.{Hears, PollsNext, ReadsReply, begins, broke, gave, goes_on, hands_out, is_over, not_built}
use Rattle.mg_cursor.specs.Reading.{batch_documents, in_reply, reader_in, told_next}
use Rattle.mg_cursor.specs.declared.polls.NextPoll.{NextPoll}
use Rattle.mg_cursor.specs.declared.polls.NextPoll.TheVariants as next
use Rattle.mg_cursor.proofs.Advancing as advancing
use Rattle.mg_cursor.proofs.Advancing.{passes_next}
use Rattle.mg_cursor.proofs.Caused.{next_caused}
use Rattle.mg_cursor.proofs.Keeping.{sound_in_any, sound_next}
use Rattle.mg_cursor.proofs.Reading.{next_read}
use Rattle.mg_cursor.proofs.SeekCaused.{fails_grow, since_grows, underway_grow, underway_rest}
use Rattle.mg_chunks.specs.Sizes.{chunk_count_of}
use Rattle.mg_records.specs.FileRecords.{FileRecord}
use Rattle.mg_gridfs.specs.Downloaded.{AreReceived, KnowsChunks, chunks_query}
use Rattle.mg_chunks.specs.Chunks.{all_judged}
use Rattle.mg_gridfs.specs.Downloads.{ClientDownload, Doing, ended, idle, most_empty, reads, sizes_of, spoiled}
use Rattle.mg_gridfs.specs.ReadCauses.{HasInOrder, TakesNext, by_reply, was_held}
use Rattle.mg_gridfs.specs.Reads as steps
use Rattle.mg_gridfs.specs.Reads.{EndsFetch, Fetched, Fetches, SpoilsBatch, TakesOne, enough, fails, no_more, none_missing, not_taken, over, pends, waits, with_chunks}
use Rattle.mg_gridfs.proofs.Downloading.{next_named, next_rests, same_cursor, taken_as}
use Rattle.mg_gridfs.proofs.Fronts.{nobody_onward}
use Rattle.mg_gridfs.proofs.Received.{batch_is, received_behind, reply_documents}
use Rattle.mg_players.specs.Gets.{GetTask, chunks_find}
use Rattle.mg_players.specs.Reading as stops
use Rattle.mg_players.specs.InTurn.{empty_with, newest}
use Rattle.mg_players.specs.Reading.{BreaksAt, CountsRow, HeardEmpty, HeardHeld, HoldChunks, IsQueried, ListsChunks, ListsOther, ReadFailsSo, ReadStops, TakenSo, TookThese, WherePrompt, empties}
use Rattle.mg_players.proofs.GetCounting.{count_behind, count_of, counts_behind, counts_waiting, few_behind, heard_too_many, none_in_batch, took_all, took_on}
use Rattle.mg_players.proofs.GetApart.{items_apart, none_apart}
use Rattle.mg_players.proofs.GetDiffering.{batch_differs}
use Rattle.mg_players.proofs.GetListing.{batch_there, differs_by, documents_same, documents_there, list_asks, list_step, more_step, told_named}
use Rattle.mg_players.proofs.GetReading.{held_grows, listed_grow}
use Rattle.mg_players.proofs.GetSteps.{more_over, more_same, prompt_at, query_at, query_prompt}
use Rattle.mg_players.proofs.InTurn.{BatchFrom, HeardLater, NextLater, batch_from, came_later, end_came, from_hand, from_reply, near, pending_more, sends_one, turn_grows}
use Rattle.mg_players.proofs.JustGrown.{log_just}

-- ---- one poll

-- nothing came, and nothing failed
abbrev IsQuiet : NextPoll → Type 0
IsQuiet next.Pending = Unit {0}
IsQuiet (next.Batch reply) = ⊥
IsQuiet next.End = Unit {0}
IsQuiet (next.Failed e) = ⊥

-- the same cursor, or one that asks
abbrev GoesQuietly : ClientCursor → ClientCursor → Type 0
GoesQuietly c c' = (c' ≡ c) ⊎ ((sending : Sending) × (c' ≡ record c { doing = client.asks sending }))

quiet_reply : (c c' : ClientCursor) (reply : List ℕ) (r : NextPoll) → IsQuiet r → ReadsReply c reply c' r → GoesQuietly c c'
quiet_reply c c' reply r quiet (gave said says is answer) = absurd (subst IsQuiet answer quiet)
quiet_reply c c' reply r quiet (broke e fails_so is answer) = absurd (subst IsQuiet answer quiet)

quiet_heard : (c c' : ClientCursor) (s : Polled Sending (List ℕ)) (r : NextPoll) → IsQuiet r → Hears c s c' r → GoesQuietly c c'
quiet_heard c c' (came.Pending sending) r quiet h = inr (sending, h.0)
quiet_heard c c' (came.Done reply) r quiet h = quiet_reply c c' reply r quiet h
quiet_heard c c' (came.Failed e) r quiet h = absurd (subst IsQuiet h.1 quiet)

quietly : (old new : Awaited) (log log' : LogTold) (wire : ℤ) (started : Bool) (c c' : ClientCursor) (r : NextPoll) → IsQuiet r → PollsNext old new log log' wire None started c c' r → GoesQuietly c c'
quietly old new log log' wire started c c' r quiet (hands_out reply at none same is answer) = absurd (subst IsQuiet answer quiet)
quietly old new log log' wire started c c' r quiet (is_over at has_ended none same is answer) = inl is
quietly old new log log' wire started c c' r quiet (not_built at may e fails_so none same is answer) = absurd (subst IsQuiet answer quiet)
quietly old new log log' wire started c c' r quiet (begins at may sending new_one asked) = quiet_heard c c' asked.came r quiet asked.hears
quietly old new log log' wire started c c' r quiet (goes_on sending at asked) = quiet_heard c c' asked.came r quiet asked.hears

-- a batch came: the one in hand, or one that was asked for
batch_source : (c c' : ClientCursor) (reply : List ℕ) → BatchFrom c c' reply → (c.doing ≡ client.holds reply) ⊎ (c.id ≢ pos 0)
batch_source c c' reply (from_hand at is) = inl at
batch_source c c' reply (from_reply none may said says is) = inr may.held

-- ---- the cursor behind it

module _ (g : GetTask) where
  -- where it goes quietly
  quiet_listed : (past : Past) (d : ClientDownload) (empty : ℕ) (c c' : ClientCursor) → GoesQuietly c c' → ListsChunks past g d.file empty c → ListsChunks past g d.file empty c'
  quiet_listed past d empty c c' (inl same) l = subst (λ (x : ClientCursor). ListsChunks past g d.file empty x) (sym same) l
  quiet_listed past d empty c c' (inr asks) l =
      subst (λ (x : ClientCursor). ListsChunks past g d.file empty x) (sym asks.1)
      (record {
        named = l.named;
        told = record { command = l.told.command; bytes = l.told.bytes; heard = l.told.heard; said = l.told.said; says = l.told.says; id_is = l.told.id_is; space_is = l.told.space_is; plain = l.told.plain };
        held = λ bytes is. let bad : client.asks asks.0 ≡ client.holds bytes = is in absurd cc;
        queried = l.queried;
        over = l.over;
      })

  -- behind no empty reply
  listed_first : (past : Past) (d : ClientDownload) (empty : ℕ) (c : ClientCursor) → c.doing ≡ client.rests → ListsChunks past g d.file empty c → ListsChunks past g d.file 0 c
  listed_first past d empty c rests l = record {
    named = l.named;
    told = l.told;
    held = λ bytes is. let bad : client.rests ≡ client.holds bytes = sym rests ∙ is in absurd cc;
    queried = l.queried;
    over = λ some. absurd (omega (arith, some));
  }

-- ---- behind a batch

module _ (g : GetTask) (past : Past) (f : FileRecord) (empty : ℕ) (c : ClientCursor) (l : ListsChunks past g f empty c) (reply : List ℕ) where
  -- the batch that a reply told, in each legal history
  batch_legal : (c.doing ≡ client.holds reply) ⊎ HeardMore past c reply → (history : List Step) → IsLegal history → Stands past.calls history → (b : Batch) × (batch_of (fields reply) ≡ Some b)
  batch_legal (inl at) history legal stands =
      let s = list_step past history legal stands g f c reply l.named (l.held reply at).1 in
      (s.1.batch, ap (λ (b : List ℕ). batch_of (fields b)) s.0.reply_is ∙ s.1.there)
  batch_legal (inr h) history legal stands =
      let s = more_step past history legal stands c reply (told_named past c l.told) h in
      (s.1.batch, ap (λ (b : List ℕ). batch_of (fields b)) s.0.reply_is ∙ s.1.there)

  -- the reply in hand opened the cursor
  held_id : (at : c.doing ≡ client.holds reply) (b : Batch) → batch_of (fields reply) ≡ Some b → c.id ≡ b.id
  held_id at b there = let h = (l.held reply at).1 in h.id_is ∙ same_id (fields reply) h.said b h.says there

  -- it has ended behind an empty one, where it was answered at once
  held_over : c.doing ≡ client.holds reply → batch_documents reply ≡ [] → WherePrompt past (c.id ≡ pos 0)
  held_over at none history legal stands own among prompt =
      let h = (l.held reply at).1 in
      let s = list_step past history legal stands g f c reply l.named h in
      let q : Query = chunks_query (chunks_space g.at) f.id in
      let p = prompt_at past history own legal prompt among (chunks_find g f.id) reply h.heard s.0 in
      let there : batch_of (fields reply) ≡ Some s.1.batch = ap (λ (b : List ℕ). batch_of (fields b)) s.0.reply_is ∙ s.1.there in
      let nothing : s.1.batch.events ≡ [] = sym (documents_same reply s.1.batch there) ∙ none in
      let back = query_prompt s.0.step p q (list_asks g f.id s.0.step.command l.named s.0.command_is) s.1 in
      held_id at s.1.batch there ∙ back.ends (back.some (λ bad. cc) nothing)

  -- the same of one that was asked for
  more_ended : (h : HeardMore past c reply) (said : Cursor) → cursor_of (fields reply) ≡ Ok said → batch_documents reply ≡ [] → WherePrompt past (said.id ≡ pos 0)
  more_ended h said says none history legal stands own among prompt =
      let named = told_named past c l.told in
      let s = more_step past history legal stands c reply named h in
      let p = prompt_at past history own legal prompt among (get_more c h.session) reply h.heard s.0 in
      let there : batch_of (fields reply) ≡ Some s.1.batch = ap (λ (b : List ℕ). batch_of (fields b)) s.0.reply_is ∙ s.1.there in
      let nothing : s.1.batch.events ≡ [] = sym (documents_same reply s.1.batch there) ∙ none in
      same_id (fields reply) said s.1.batch says there
      ∙ more_over s.0.step p c.id c.space (asks_for_more s.0.step.command c.id c.space c.manner.size c.manner.wait c.manner.comment h.session named s.0.command_is) (λ x stood. query_at history s.0.position c.id legal (l.queried history legal stands) x stood) s.1 nothing

  -- the cursor that it tells is the same, or none
  more_queried : (h : HeardMore past c reply) (said : Cursor) → cursor_of (fields reply) ≡ Ok said → (history : List Step) → IsLegal history → Stands past.calls history → said.id ≢ pos 0 → IsQueried history said.id
  more_queried h said says history legal stands ne =
      let s = more_step past history legal stands c reply (told_named past c l.told) h in
      let there : batch_of (fields reply) ≡ Some s.1.batch = ap (λ (b : List ℕ). batch_of (fields b)) s.0.reply_is ∙ s.1.there in
      let same = same_id (fields reply) said s.1.batch says there in
      elim (more_same s.0.step (state_of (take s.0.position history)) c.id s.1) [
        | inl on ↦ subst (IsQueried history) (sym (same ∙ on)) (l.queried history legal stands (λ z. ne (same ∙ on ∙ z)))
        | inr over_so ↦ absurd (ne (same ∙ over_so))
      ]

  -- the cursor behind it, where so many were empty since
  listed_behind : (c' : ClientCursor) (empty' : ℕ) → advancing.Passes (HeardMore past c reply) reply c c' → (1 ≤ empty' → batch_documents reply ≡ []) → ListsChunks past g f empty' c'
  listed_behind c' empty' (advancing.was_held at is) none =
      subst (λ (x : ClientCursor). ListsChunks past g f empty' x) (sym is)
      (record {
        named = l.named;
        told = record { command = l.told.command; bytes = l.told.bytes; heard = l.told.heard; said = l.told.said; says = l.told.says; id_is = l.told.id_is; space_is = l.told.space_is; plain = l.told.plain };
        held = λ bytes holding. let bad : client.rests ≡ client.holds bytes = holding in absurd cc;
        queried = l.queried;
        over = λ some. held_over at (none some);
      })
  listed_behind c' empty' (advancing.by_reply said h says is) none =
      subst (λ (x : ClientCursor). ListsChunks past g f empty' x) (sym is)
      (record {
        named = l.named;
        told = record { command = get_more c h.session; bytes = reply; heard = h.heard; said = said; says = says; id_is = refl; space_is = refl; plain = l.told.plain };
        held = λ bytes holding. let bad : client.rests ≡ client.holds bytes = holding in absurd cc;
        queried = λ history legal stands ne. more_queried h said says history legal stands ne;
        over = λ some. more_ended h said says (none some);
      })

  -- it is not one empty one too many, where the steps were answered at once
  never_many : (c.doing ≡ client.holds reply) ⊎ (c.id ≢ pos 0) → most_empty ≤ suc empty → WherePrompt past ⊥
  never_many (inl at) many history legal stands own among prompt = let first = (l.held reply at).0 in absurd (omega (arith, many, first))
  never_many (inr alive) many history legal stands own among prompt = alive (l.over (omega (arith, many)) history legal stands own among prompt)

-- ---- all batches of a poll

-- a batch is taken
taken_so : (chunks : List (List ℕ)) (c : ClientCursor) (missing empty : ℕ) (d d' : ClientDownload) → d' ≡ with_chunks chunks c missing empty d → (m : ℕ) × (k : ℕ) × (d'.doing ≡ reads c m k) × (1 ≤ k → chunks ≡ []) × (k ≡ count_behind empty chunks) × (m ≡ missing - length (concat chunks))
taken_so [] c missing empty d d' is = (missing, suc empty, ap (λ (x : ClientDownload). x.doing) is, λ some. refl, refl, omega arith)
taken_so (b ∷ bs) c missing empty d d' is = (missing - length (concat (b ∷ bs)), 0, ap (λ (x : ClientDownload). x.doing) is, λ some. absurd (omega (arith, some)), refl, refl)

abbrev missing_of : Doing → ℕ
missing_of (idle c) = 0
missing_of (reads c missing empty) = missing
missing_of ended = 0
missing_of spoiled = 0

same_empty : (c c' : ClientCursor) (m m' k k' : ℕ) → reads c m k ≡ reads c' m' k' → k ≡ k'
same_empty c c' m m' k k' e = ap empties e

same_missing : (c c' : ClientCursor) (m m' k k' : ℕ) → reads c m k ≡ reads c' m' k' → m ≡ m'
same_missing c c' m m' k k' e = ap missing_of e

-- no documents where there are no chunks
none_received : (f : FileRecord) (n : ℕ) (cs : List (List ℕ)) (ds : List Fields) → cs ≡ [] → AreReceived f n cs ds → ds ≡ []
none_received f n cs [] is a = refl
none_received f n cs (d ∷ ds) is a = absurd (subst (λ (l : List (List ℕ)). AreReceived f n l (d ∷ ds)) is a)

-- ---- what is in hand

-- so it is where nothing changes
pub taken_still : (b d d' : ClientDownload) (all : List (List ℕ)) → d'.file ≡ d.file → d'.count ≡ d.count → d'.taken ≡ d.taken → d'.ahead ≡ d.ahead → TakenSo b d all → TakenSo b d' all
taken_still b d d' all file count taken ahead so = record {
  file = file ∙ so.file;
  count = count ∙ so.count;
  chunks_so = subst (λ (n : ℕ). HoldChunks b.file b.taken all n d'.ahead) (sym taken) (subst (HoldChunks b.file b.taken all d.taken) (sym ahead) so.chunks_so);
}

-- one more batch
holds_on : (f : FileRecord) (n : ℕ) (all : List (List ℕ)) (next : ℕ) (held reply : List ℕ) → HoldChunks f n all next held → (h : HasInOrder f next reply) → HoldChunks f n (all ++ reply ∷ []) (next + length h.chunks) (held ++ concat h.chunks)
holds_on f n [] next held reply so h =
    subst (λ (m : ℕ). HoldChunks f m (reply ∷ []) (next + length h.chunks) (held ++ concat h.chunks)) so.0
    (h, [], ap (λ (l : List ℕ). l ++ concat h.chunks) so.1 ∙ sym (append-nil (concat h.chunks)), (refl, refl))
holds_on f n (one ∷ more) next held reply so h = (so.0, so.1 ++ concat h.chunks, ap (λ (l : List ℕ). l ++ concat h.chunks) so.2 ∙ append_assoc (concat so.0.chunks) so.1 (concat h.chunks), holds_on f (n + length so.0.chunks) more next so.1 reply so.3 h)

taken_on : (b d d' : ClientDownload) (all : List (List ℕ)) (reply : List ℕ) → TakenSo b d all → (h : HasInOrder d.file d.taken reply) → d'.file ≡ d.file → d'.count ≡ d.count → d'.taken ≡ d.taken + length h.chunks → d'.ahead ≡ d.ahead ++ concat h.chunks → TakenSo b d' (all ++ reply ∷ [])
taken_on b d d' all reply so h file count taken ahead =
    let here : HoldChunks d.file b.taken (all ++ reply ∷ []) (d.taken + length h.chunks) (d.ahead ++ concat h.chunks) = holds_on d.file b.taken all d.taken d.ahead reply (subst (λ (f : FileRecord). HoldChunks f b.taken all d.taken d.ahead) (sym so.file) so.chunks_so) h in
    record {
      file = file ∙ so.file;
      count = count ∙ so.count;
      chunks_so = subst (λ (n : ℕ). HoldChunks b.file b.taken (all ++ reply ∷ []) n d'.ahead) (sym taken) (subst (HoldChunks b.file b.taken (all ++ reply ∷ []) (d.taken + length h.chunks)) (sym ahead) (subst (λ (f : FileRecord). HoldChunks f b.taken (all ++ reply ∷ []) (d.taken + length h.chunks) (d.ahead ++ concat h.chunks)) so.file here));
    }

less_by : (x y m size held n now : ℕ) → x ≡ y - n → y ≡ m → m ≡ size - held → now ≡ held + n → x ≡ size - now
less_by x y m size held n now a b c d = omega (arith, a, b, c, d)

-- none is missing
no_less : (m held now size : ℕ) → m ≡ 0 → m ≡ size - held → now ≡ held → size ≤ now
no_less m held now size none is same = omega (arith, none, is, same)

-- some are missing
still_short : (x m size held : ℕ) → 0 < x → x ≡ m → m ≡ size - held → held < size
still_short x m size held short same is = omega (arith, short, same, is)

-- a batch that came is the next
heard_in : (past : Past) (c : ClientCursor) (bytes : List ℕ) (most : ℕ) → (c.doing ≡ client.holds bytes) ⊎ HeardLater past c bytes most → (c.doing ≡ client.holds bytes) ⊎ HeardMore past c bytes
heard_in past c bytes most (inl at) = inl at
heard_in past c bytes most (inr later) = inr later.more

next_of : (past : Past) (c behind : ClientCursor) (bytes : List ℕ) → BatchFrom c behind bytes → (c.doing ≡ client.holds bytes) ⊎ HeardMore past c bytes → TakesNext past c bytes behind
next_of past c behind bytes (from_hand at is) heard = was_held at is
next_of past c behind bytes (from_reply none may said says is) (inl at) = absurd (let bad : None ≡ Some bytes = sym none ∙ ap client.reply_in at in cc)
next_of past c behind bytes (from_reply none may said says is) (inr h) = by_reply said h says is

-- The get sent at the places P, and its call, which began with a cursor, at the places N.
module _ (g : GetTask) (P : List ℕ) (L : ℕ) (wire : ℤ) (bytes : List ℕ) (place listed : ℕ) (N : List ℕ) (begun : ClientCursor) (start : ClientDownload) (size : ℕ) where
  -- what has come of it
  abbrev pub FetchStops : Awaited → List Call → ClientDownload → ClientDownload → Fetched → Type 0
  FetchStops new calls d d' waits = (c : ClientCursor) × (m : ℕ) × (k : ℕ) × (d'.doing ≡ reads c m k) × ListsChunks (past_of P L calls wire) g d.file k c × HeardHeld (past_of P L calls wire) g d.file begun
      × (all : List (List ℕ)) × CountsRow new (past_of N L calls wire) begun c k all × TakenSo start d' all × (m ≡ size - length d'.ahead)
  FetchStops new calls d d' enough = (c : ClientCursor) × (d'.doing ≡ idle c) × ListsChunks (past_of P L calls wire) g d.file 0 c
      × (all : List (List ℕ)) × TookThese (past_of N L calls wire) begun c all × TakenSo start d' all × ((size ≤ length d'.ahead) ⊎ IsOver c)
  FetchStops new calls d d' (fails e) = ReadStops (past_of P L calls wire) (HeardEmpty (past_of P L calls wire) (past_of N L calls wire) g d.file start) (ListsOther calls g.at d.file listed e) e × ReadFailsSo (past_of N L calls wire) size start e

  pub record FetchStopped (log' : LogTold) (new : Awaited) (d d' : ClientDownload) (f : Fetched) : Type 0 where
    pub calls' : List Call
    pub told : log' ≡ Some calls'
    pub after : FetchStops new calls' d d' f

  -- where it stands before a batch
  pub record StandsAt (old : Awaited) (log : LogTold) (calls : List Call) (d : ClientDownload) (c : ClientCursor) (m k : ℕ) : Type 0 where
    pub doing : d.doing ≡ reads c m k
    pub sound : IsSound true c
    pub rests_so : m ≡ 0 → c.doing ≡ client.rests
    pub know : KnowsChunks old calls g.at d bytes c place listed
    pub told : log ≡ Some calls
    pub room : L ≤ length calls
    pub under : IsUnderway old (past_of P (length calls) calls wire) c
    pub lists : ListsChunks (past_of P L calls wire) g d.file k c
    pub counted : chunk_count_of d.file.length d.file.chunk_size ≡ Ok d.count
    pub under_call : IsUnderway old (past_of N L calls wire) c
    pub held : HeardHeld (past_of P L calls wire) g d.file begun
    pub idle_so : start.doing ≡ idle begun
    pub none_ahead : start.ahead ≡ []
    pub all : List (List ℕ)
    pub counts : CountsRow old (past_of N L calls wire) begun c k all
    pub taken_so : TakenSo start d all
    pub missing_is : m ≡ size - length d.ahead

  module _ (old new : Awaited) (log log' : LogTold) (calls : List Call) (d d' : ClientDownload) (c : ClientCursor) (m k : ℕ) (s : StandsAt old log calls d c m k) where
    -- the log behind a poll, and what is known and was heard there
    record PolledTo (behind : ClientCursor) (r : NextPoll) : Type 0 where
      calls' : List Call
      told : log' ≡ Some calls'
      keeps : Keeps calls calls'
      came : NextCame new (past_of P L calls' wire) None c behind r
      knows : KnowsRead calls' (reader_in new behind (told_next r s.know.reader))
      lists : ListsChunks (past_of P L calls' wire) g d.file k c
      held : HeardHeld (past_of P L calls' wire) g d.file begun
      later : NextLater new (past_of N L calls' wire) c behind r (newest 0 s.counts.replies)

    came_grows : (past past' : Past) → Grows past past' → (behind : ClientCursor) (r : NextPoll) → NextCame new past None c behind r → NextCame new past' None c behind r
    came_grows past past' grows behind next.Pending h = underway_grow past past' grows new behind behind.doing h
    came_grows past past' grows behind (next.Batch reply) (inl at) = inl at
    came_grows past past' grows behind (next.Batch reply) (inr h) = inr (record { session = h.session; heard = heard_reply past past' grows (get_more c h.session) reply h.heard; success = h.success })
    came_grows past past' grows behind next.End h = h
    came_grows past past' grows behind (next.Failed e) (inl cannot) = inl cannot
    came_grows past past' grows behind (next.Failed e) (inr fails_so) = inr (fails_grow past past' grows c e fails_so)

    polled : (started : Bool) (behind : ClientCursor) (r : NextPoll) → PollsNext old new log log' wire None started c behind r → PolledTo behind r
    polled started behind r polls =
        let x = next_caused old new log log' wire None started c behind r (sound_in_any true c s.sound) polls calls s.told P s.under in
        let n = next_read true old new log log' wire None started c behind r s.sound s.know.named polls s.know.reader calls s.told in
        let same : n.0 ≡ x.0 = same_some n.0 x.0 (sym n.1 ∙ x.1) in
        let passes : Passes calls x.0 (owner_of_reader (reader_in old c s.know.reader)) (owner_of_reader (reader_in new behind (told_next r s.know.reader)))
        = subst (λ (l : List Call). Passes calls l (owner_of_reader (reader_in old c s.know.reader)) (owner_of_reader (reader_in new behind (told_next r s.know.reader)))) same (n.2.passes s.know.knows) in
        let onward = nobody_onward calls x.0 (owner_of_reader (reader_in old c s.know.reader)) (owner_of_reader (reader_in new behind (told_next r s.know.reader))) passes in
        let most : ℕ = newest 0 s.counts.replies in
        let by = near old (past_of N L calls wire) c most s.counts.waits s.sound s.under_call in
        let y = next_caused old new log log' wire None started c behind r (sound_in_any true c s.sound) polls calls s.told by.places by.under in
        let as_one : y.0 ≡ x.0 = same_some y.0 x.0 (sym y.1 ∙ x.1) in
        let one = sends_one old new (past_of N L calls wire) log log' wire started c behind r most s.told by y.0 y.1 s.sound polls in
        record {
          calls' = x.0;
          told = x.1;
          keeps = x.2;
          came = came_grows (past_of P (length calls) x.0 wire) (past_of P L x.0 wire) (since_grows P L (length calls) x.0 wire s.room) behind r x.3;
          knows = subst (λ (l : List Call). KnowsRead l (reader_in new behind (told_next r s.know.reader))) same (n.2.knows s.know.knows);
          lists = listed_grow (past_of P L calls wire) (past_of P L x.0 wire) (log_grows P L calls x.0 wire x.2) onward g d.file k c s.lists;
          held = held_grows (past_of P L calls wire) (past_of P L x.0 wire) (log_grows P L calls x.0 wire x.2) g d.file begun s.held;
          later = subst (λ (l : List Call). NextLater new (past_of N L l wire) c behind r most) as_one (came_later old new N L calls y.0 wire s.room c behind r most s.counts.within by s.counts.alone one r refl y.3);
        }

    at_c : (started : Bool) (x behind : ClientCursor) (r : NextPoll) (m' k' : ℕ) → d.doing ≡ reads x m' k' → PollsNext old new log log' wire None started x behind r → PollsNext old new log log' wire None started c behind r
    at_c started x behind r m' k' there polls = subst (λ (y : ClientCursor). PollsNext old new log log' wire None started y behind r) (same_cursor x c m' m k' k (sym there ∙ s.doing)) polls

    -- why it stops behind a batch that is not taken
    module _ (behind : ClientCursor) (reply : List ℕ) (p : PolledTo behind (next.Batch reply)) where
      abbrev reader' : Reader
      reader' = reader_in new behind (told_next (next.Batch reply) s.know.reader)

      legal_batch : (history : List Step) → IsLegal history → Stands p.calls' history → (b : Batch) × (batch_of (fields reply) ≡ Some b)
      legal_batch = batch_legal g (past_of P L p.calls' wire) d.file k c p.lists reply p.came

      -- that is not so in a legal history
      none_there : (e : Error) → NoBatchIn (fields reply) e → ListsOther p.calls' g.at d.file listed e
      none_there e none =
          differs_by p.calls' g.at d.file listed reader' p.knows s.know.none_lost s.know.queries s.know.asked_at p.lists.named d.count s.counted e
          (λ left history legal stands over_so. let b = legal_batch history legal stands in absurd (batch_there reply b.0 e b.1 none))

      one_there : (e : Error) (batch : Items) → batch_at (fields reply) ≡ Ok batch → all_judged (sizes_of d.file) d.taken batch ≡ Err e → ListsOther p.calls' g.at d.file listed e
      one_there e batch at bad =
          differs_by p.calls' g.at d.file listed reader' p.knows s.know.none_lost s.know.queries s.know.asked_at p.lists.named d.count s.counted e
          (λ left history legal stands over_so.
          let b = legal_batch history legal stands in
          batch_differs d.file d.count s.know.chunks s.know.reader.given (batch_documents reply) ([] ++ in_reply behind.doing) left s.know.received batch (documents_there reply b.0 batch b.1 at) e (ap (λ (n : ℕ). all_judged (sizes_of d.file) n batch) (sym s.know.taken) ∙ bad))

      many_so : BatchFrom c behind reply → batch_at (fields reply) ≡ Ok no_items → most_empty ≤ suc k → HeardEmpty (past_of P L p.calls' wire) (past_of N L p.calls' wire) g d.file start
      many_so (from_hand at is) none many = let first = (p.lists.held reply at).0 in absurd (omega (arith, many, first))
      many_so (from_reply none_in may said says is) none many =
          heard_too_many (past_of P L p.calls' wire) (past_of N L p.calls' wire) g d.file start begun behind k (s.all ++ reply ∷ []) reply s.idle_so p.held
          (took_on old (past_of N L calls wire) (past_of N L p.calls' wire) (log_just N L calls p.calls' wire p.keeps) begun c behind k s.all reply s.counts (from_reply none_in may said says is) p.later.0 p.later.1) (none_in_batch reply said says none) s.counts.few many

      stops_so : (e : Error) → BatchFrom c behind reply → (e ≡ plain kind.OutOfMemory) ⊎ SpoilsBatch k reply d e → ReadStops (past_of P L p.calls' wire) (HeardEmpty (past_of P L p.calls' wire) (past_of N L p.calls' wire) g d.file start) (ListsOther p.calls' g.at d.file listed e) e
      stops_so e from (inl memory) = stops.no_memory (ap (λ (x : Error). x.kind) memory)
      stops_so e from (inr (steps.no_batch none)) = stops.differs (none_apart (fields reply) e none) (none_there e none)
      stops_so e from (inr (steps.differs batch at bad)) = stops.differs (items_apart d.file d.taken batch e bad) (one_there e batch at bad)
      stops_so e from (inr (steps.too_many none many is)) = stops.too_many (many_so from none many) (never_many g (past_of P L p.calls' wire) d.file k c p.lists reply (batch_source c behind reply from) many) is

    -- it came so far, and failed there
    fails_at : (calls' : List Call) → Keeps calls calls' → (e : Error) → BreaksAt (past_of N L calls' wire) size d c e → ReadFailsSo (past_of N L calls' wire) size start e
    fails_at calls' keeps e breaks = record {
      left = d;
      cursor = c;
      came = stops.by_batches begun s.all s.counts.replies s.idle_so s.none_ahead (turn_grows (past_of N L calls wire) (past_of N L calls' wire) (log_just N L calls calls' wire keeps) begun 0 s.counts.replies (client.at_rest c) s.counts.heard) s.counts.all_so s.taken_so;
      breaks = breaks;
    }

    -- as many bytes are in hand as it has room for, or the cursor has ended
    enough_at : (f : Fetched) → log' ≡ Some calls → d'.doing ≡ idle c → c.doing ≡ client.rests → TakenSo start d' s.all → (size ≤ length d'.ahead) ⊎ IsOver c → f ≡ enough → FetchStopped log' new d d' f
    enough_at f told at rests so full answer = record {
      calls' = calls;
      told = told;
      after = subst (FetchStops new calls d d') (sym answer) (c, at, listed_first g (past_of P L calls wire) d k c rests s.lists, s.all, took_all old (past_of N L calls wire) begun c k s.all s.counts rests, so, full);
    }

    -- what ends the taking
    ends_stopped : (f : Fetched) → EndsFetch old new log log' wire d d' f → FetchStopped log' new d d' f
    ends_stopped f (none_missing x empty there quiet is answer) =
        let same = same_cursor x c 0 m empty k (sym there ∙ s.doing) in
        let none : m ≡ 0 = sym (same_missing x c 0 m empty k (sym there ∙ s.doing)) in
        let missing = s.missing_is in
        let long = ap (λ (y : ClientDownload). length y.ahead) is in
        enough_at f (quiet.log_same ∙ s.told) (ap (λ (y : ClientDownload). y.doing) is ∙ ap (λ (y : ClientCursor). idle y) same) (s.rests_so none) (taken_still start d d' s.all (ap (λ (y : ClientDownload). y.file) is) (ap (λ (y : ClientDownload). y.count) is) (ap (λ (y : ClientDownload). y.taken) is) (ap (λ (y : ClientDownload). y.ahead) is) s.taken_so) (inl (no_less m (length d.ahead) (length d'.ahead) size none missing long)) answer
    ends_stopped f (over x m' k' there short started behind polls is answer) =
        let e = end_came old new log log' wire started c behind (at_c started x behind next.End m' k' there polls) in
        enough_at f (e.quiet.log_same ∙ s.told) (ap (λ (y : ClientDownload). y.doing) is ∙ ap (λ (y : ClientCursor). idle y) e.same) e.rested (taken_still start d d' s.all (ap (λ (y : ClientDownload). y.file) is) (ap (λ (y : ClientDownload). y.count) is) (ap (λ (y : ClientDownload). y.taken) is) (ap (λ (y : ClientDownload). y.ahead) is) s.taken_so) (inr e.over) answer
    ends_stopped f (pends x m' k' there short started behind polls is answer) =
        let here = at_c started x behind next.Pending m' k' there polls in
        let p = polled started behind next.Pending here in
        let same = same_empty x c m' m k' k (sym there ∙ s.doing) in
        record {
          calls' = p.calls';
          told = p.told;
          after = subst (FetchStops new p.calls' d d') (sym answer) (
            behind,
            m',
            k',
            ap (λ (y : ClientDownload). y.doing) is,
            subst (λ (n : ℕ). ListsChunks (past_of P L p.calls' wire) g d.file n behind) (sym same) (quiet_listed g (past_of P L p.calls' wire) d k c behind (quietly old new log log' wire started c behind next.Pending tt here) p.lists),
            p.held,
            s.all,
            subst (λ (n : ℕ). CountsRow new (past_of N L p.calls' wire) begun behind n s.all) (sym same) (counts_waiting old new (past_of N L calls wire) (past_of N L p.calls' wire) (log_just N L calls p.calls' wire p.keeps) begun c behind k s.all s.counts (pending_more old new log log' wire started c behind here) p.later),
            taken_still start d d' s.all (ap (λ (y : ClientDownload). y.file) is) (ap (λ (y : ClientDownload). y.count) is) (ap (λ (y : ClientDownload). y.taken) is) (ap (λ (y : ClientDownload). y.ahead) is) s.taken_so,
            same_missing x c m' m k' k (sym there ∙ s.doing) ∙ s.missing_is ∙ sym (ap (λ (y : ClientDownload). size - length y.ahead) is),
          );
        }
    ends_stopped f (no_more x m' k' there short started behind e polls is answer) =
        let p = polled started behind (next.Failed e) (at_c started x behind (next.Failed e) m' k' there polls) in
        let row = same_missing x c m' m k' k (sym there ∙ s.doing) in
        record { calls' = p.calls'; told = p.told; after = subst (FetchStops new p.calls' d d') (sym answer) (why_none p, fails_at p.calls' p.keeps e (breaks_none p (still_short m' m size (length d.ahead) short row s.missing_is))) }
      where
        why_none : (p : PolledTo behind (next.Failed e)) → ReadStops (past_of P L p.calls' wire) (HeardEmpty (past_of P L p.calls' wire) (past_of N L p.calls' wire) g d.file start) (ListsOther p.calls' g.at d.file listed e) e
        why_none p = elim p.came [
          | inl cannot ↦ elim cannot [
            | inl memory ↦ stops.no_memory (ap (λ (y : Error). y.kind) memory)
            | inr by ↦ stops.not_built c p.lists.told by
          ]
          | inr fails_so ↦ stops.no_batch c p.lists.told fails_so
        ]

        breaks_none : (p : PolledTo behind (next.Failed e)) → length d.ahead < size → BreaksAt (past_of N L p.calls' wire) size d c e
        breaks_none p less = elim p.later [
          | inl cannot ↦ elim cannot [
            | inl memory ↦ stops.memory_out (ap (λ (y : Error). y.kind) memory)
            | inr by ↦ stops.none_built less by
          ]
          | inr fails_so ↦ stops.none_brought less fails_so
        ]
    ends_stopped f (not_taken x m' k' there short started behind reply e polls why is answer) =
        let here = at_c started x behind (next.Batch reply) m' k' there polls in
        let p = polled started behind (next.Batch reply) here in
        let same = same_empty x c m' m k' k (sym there ∙ s.doing) in
        record {
          calls' = p.calls';
          told = p.told;
          after = subst (FetchStops new p.calls' d d') (sym answer) (
            stops_so behind reply p e (batch_from old new log log' wire started c behind reply s.sound here) (subst (λ (n : ℕ). (e ≡ plain kind.OutOfMemory) ⊎ SpoilsBatch n reply d e) same why),
            fails_at p.calls' p.keeps e (breaks_so p (still_short m' m size (length d.ahead) short (same_missing x c m' m k' k (sym there ∙ s.doing)) s.missing_is) (batch_from old new log log' wire started c behind reply s.sound here)),
          );
        }
      where
        breaks_so : (p : PolledTo behind (next.Batch reply)) → length d.ahead < size → BatchFrom c behind reply → BreaksAt (past_of N L p.calls' wire) size d c e
        breaks_so p less from = elim why [
          | inl memory ↦ stops.memory_out (ap (λ (y : Error). y.kind) memory)
          | inr spoils ↦ stops.not_taken less reply behind (next_of (past_of N L p.calls' wire) c behind reply from (heard_in (past_of N L p.calls' wire) c reply (newest 0 s.counts.replies) p.later.1)) k' spoils
        ]

    -- one more batch is taken
    record TakenTo (d1 : ClientDownload) : Type 0 where
      calls1 : List Call
      cursor : ClientCursor
      missing : ℕ
      empty : ℕ
      stands : StandsAt new log' calls1 d1 cursor missing empty
      file : d1.file ≡ d.file

    took_one : (d1 : ClientDownload) → TakesOne old new log log' wire d d1 → TakenTo d1
    took_one d1 one =
        let t = one.takes in
        let polls = at_c one.started one.cursor one.behind (next.Batch one.reply) one.missing one.empty one.at one.polls in
        let p = polled one.started one.behind (next.Batch one.reply) polls in
        let past : Past = past_of P L p.calls' wire in
        let b = batch_is d.file d.taken (items t.array) t.chunks t.in_order in
        let these = reply_documents one.reply t.array b.documents t.is_array t.bytes_are b.these in
        let gets = taken_as t.chunks one.behind one.missing one.empty d d1 t.taken in
        let so = taken_so t.chunks one.behind one.missing one.empty d d1 t.taken in
        let know = s.know in
        let number : d.taken ≡ 0 + length know.chunks = (let e = know.taken in omega arith) in
        let behind_them = received_behind d.file 0 know.chunks t.chunks know.reader.given b.documents know.received (subst (λ (n : ℕ). AreReceived d.file n t.chunks b.documents) number b.received) in
        let passes = passes_next (HeardMore past c one.reply) one.reply c one.behind (next.Batch one.reply) refl old new log log' wire None one.started p.came polls in
        let longer = keeps_longer calls p.calls' p.keeps in
        let room = s.room in
        let rests = next_rests old new log log' wire one.started c one.behind (next.Batch one.reply) tt polls in
        let call : Past = past_of N L p.calls' wire in
        let same = same_empty one.cursor c one.missing m one.empty k (sym one.at ∙ s.doing) in
        let row_missing = same_missing one.cursor c one.missing m one.empty k (sym one.at ∙ s.doing) in
        let took = took_on old (past_of N L calls wire) call (log_just N L calls p.calls' wire p.keeps) begun c one.behind k s.all one.reply s.counts (batch_from old new log log' wire one.started c one.behind one.reply s.sound polls) p.later.0 p.later.1 in
        let in_row : so.1 ≡ empty_with k (documents_of one.reply)
        = so.4 ∙ ap (λ (n : ℕ). count_behind n t.chunks) same ∙ count_of d.file d.taken k t.chunks b.documents one.reply t.array t.is_array t.bytes_are b.these b.received in
        record {
          calls1 = p.calls';
          cursor = one.behind;
          missing = so.0;
          empty = so.1;
          file = gets.file;
          stands = record {
            doing = so.2;
            sound = sound_next true old new log log' wire None one.started c one.behind (next.Batch one.reply) s.sound refl polls;
            rests_so = λ none. rests;
            know = record {
              named = next_named old new log log' wire one.started c one.behind (next.Batch one.reply) tt know.named polls;
              reader = told_next (next.Batch one.reply) know.reader;
              later = know.later;
              asked_at = know.asked_at;
              queries = subst (λ f. know.reader.query ≡ chunks_query (chunks_space g.at) f.id) (sym gets.file) know.queries;
              knows = p.knows;
              none_lost = know.none_lost;
              not_refused = know.not_refused;
              chunks = know.chunks ++ t.chunks;
              received = subst (λ f. AreReceived f 0 (know.chunks ++ t.chunks) (know.reader.given ++ batch_documents one.reply)) (sym gets.file)
                  (subst (λ (ds : List Fields). AreReceived d.file 0 (know.chunks ++ t.chunks) (know.reader.given ++ ds)) (sym these) behind_them);
              taken = gets.taken ∙ ap (λ (n : ℕ). n + length t.chunks) know.taken ∙ sym (length-append know.chunks t.chunks);
              parts = concat-append know.chunks t.chunks ∙ ap (λ (l : List ℕ). l ++ concat t.chunks) know.parts ∙ append_assoc bytes d.ahead (concat t.chunks) ∙ ap (λ (l : List ℕ). bytes ++ l) (sym gets.ahead);
            };
            told = p.told;
            room = omega (arith, room, longer);
            under = underway_rest new (past_of P (length p.calls') p.calls' wire) one.behind rests;
            lists = subst (λ (f : FileRecord). ListsChunks past g f so.1 one.behind) (sym gets.file)
                (listed_behind g past d.file k c p.lists one.reply one.behind so.1 passes (λ some. these ∙ none_received d.file d.taken t.chunks b.documents (so.3 some) b.received));
            counted = subst (λ (f : FileRecord). chunk_count_of f.length f.chunk_size ≡ Ok d1.count) (sym gets.file) (s.counted ∙ ap (λ (n : ℕ). Ok n) (sym gets.count));
            under_call = underway_rest new call one.behind rests;
            held = subst (λ (f : FileRecord). HeardHeld past g f begun) (sym gets.file) p.held;
            idle_so = s.idle_so;
            none_ahead = s.none_ahead;
            all = s.all ++ one.reply ∷ [];
            taken_so = taken_on start d d1 s.all one.reply s.taken_so (record { array = t.array; is_array = t.is_array; bytes_are = t.bytes_are; chunks = t.chunks; in_order = t.in_order }) gets.file gets.count gets.taken gets.ahead;
            missing_is = less_by so.0 one.missing m size (length d.ahead) (length (concat t.chunks)) (length d1.ahead) so.5 row_missing s.missing_is (ap (λ (l : List ℕ). length l) gets.ahead ∙ length-append d.ahead (concat t.chunks));
            counts = counts_behind new call begun one.behind so.1 (empty_with k (documents_of one.reply)) (s.all ++ one.reply ∷ []) took rests in_row (subst (λ (n : ℕ). n < most_empty) (sym so.4) (few_behind one.empty t.chunks t.few));
          };
        }

  fetch_file : (new : Awaited) (calls : List Call) (d d1 d' : ClientDownload) (f : Fetched) → d1.file ≡ d.file → FetchStops new calls d1 d' f → FetchStops new calls d d' f
  fetch_file new calls d d1 d' waits same h = (h.0, h.1, h.2, h.3, subst (λ (f : FileRecord). ListsChunks (past_of P L calls wire) g f h.2 h.0) same h.4, subst (λ (f : FileRecord). HeardHeld (past_of P L calls wire) g f begun) same h.5, h.6, h.7, h.8, h.9)
  fetch_file new calls d d1 d' enough same h = (h.0, h.1, subst (λ (f : FileRecord). ListsChunks (past_of P L calls wire) g f 0 h.0) same h.2, h.3, h.4, h.5, h.6)
  fetch_file new calls d d1 d' (fails e) same h = (subst (λ (f : FileRecord). ReadStops (past_of P L calls wire) (HeardEmpty (past_of P L calls wire) (past_of N L calls wire) g f start) (ListsOther calls g.at f listed e) e) same h.0, h.1)

  pub fetches_stopped : (n : ℕ) (old new : Awaited) (log log' : LogTold) (calls : List Call) (d d' : ClientDownload) (c : ClientCursor) (m k : ℕ) (f : Fetched) → StandsAt old log calls d c m k → Fetches n old new log log' wire d d' f → FetchStopped log' new d d' f
  unfolding Fetches
  fetches_stopped zero old new log log' calls d d' c m k f s ends = ends_stopped old new log log' calls d d' c m k s f ends
  fetches_stopped (suc n) old new log log' calls d d' c m k f s more =
      let one = took_one old more.0 log more.1 calls d more.2 c m k s more.2 more.3 in
      let rest = fetches_stopped n more.0 new more.1 log' one.calls1 more.2 d' one.cursor one.missing one.empty f one.stands more.4 in
      record { calls' = rest.calls'; told = rest.told; after = fetch_file new rest.calls' d more.2 d' f one.file rest.after }
