-- What the polls of a call that seeks a document are caused by.
use Rattle.std.proofs.Common.{◌≡◌, ◌⊎◌, ◌≤◌, ℕ, zero, suc, ℤ, Bool, true, false, List, [], ◌∷◌, length, Option, Some, option_map, refl, sym, ap, ◌∙◌, subst, inl, inr, le_trans}
use Rattle.mg_server.specs.Calls.{Grows, IsOwn, Keeps, Past, past_of}
use Rattle.mg_link.specs.Link.{Awaited, LogTold}
use Rattle.mg_link.specs.Log.{Call}
use Rattle.mg_link.specs.Moment.{Ending, pending, finished, failed}
use Rattle.mg_link.specs.Session.{Session, after_command}
use Rattle.mg_link.specs.declared.error.Error.{Error}
use Rattle.mg_server.proofs.Calls.{keeps_longer, keeps_on, log_grows, same_keeps}
use Rattle.mg_server.proofs.Pasts.{flies_grows, heard_reply, request_fails_grows}
use Rattle.mg_ops.specs.Failing.{FailsBy}
use Rattle.mg_cursor.specs.Batches.{documents_of}
use Rattle.mg_cursor.specs.Causes.{HeardMore, IsUnderway, MoreFails, NextCame, TellsNoCursor, UnderwayBy}
use Rattle.mg_cursor.specs.Client.{ClientCursor, Doing, IsSound, SoundBy, asks, at_rest, behind_reply, get_more, holds, rests}
use Rattle.mg_cursor.specs.Documents as giving
use Rattle.mg_cursor.specs.Documents.{AdvancesOnce, DocumentCursor, Fills, TakesNext, advance_by, filled, gives, polls, try_ending}
use Rattle.mg_cursor.specs.Polling.{CannotAsk, PollsNext}
use Rattle.mg_cursor.specs.Seeking.{AreHeard, CopiesCurrent, CopiesIf, EndsSeeking, LastBatch, SeekCame, SeekCaused, SeekFails, SeeksDocument, TriesAdvance, advance_ending, broken, heard, in_hand, item_ending, kept_behind, no_batch, not_built, out_of_memory, session_after, times, too_many}
use Rattle.mg_cursor.specs.declared.polls.AdvancePoll.{AdvancePoll}
use Rattle.mg_cursor.specs.declared.polls.AdvancePoll.TheVariants as advance
use Rattle.mg_cursor.specs.declared.polls.ItemPoll.{ItemPoll}
use Rattle.mg_cursor.specs.declared.polls.NextPoll.{NextPoll}
use Rattle.mg_cursor.specs.declared.polls.NextPoll.TheVariants as next
use Rattle.mg_cursor.specs.declared.polls.TryPoll.{TryPoll}
use Rattle.mg_cursor.specs.declared.polls.TryPoll.TheVariants as try
use Rattle.mg_cursor.specs.declared.results.AdvanceResult.{AdvanceResult}
use Rattle.mg_cursor.specs.declared.results.AdvanceResult.TheVariants as result
use Rattle.mg_cursor.proofs.Advancing.{Passes, by_reply, fills_cursor, passes_next, passes_rest, was_held}
use Rattle.mg_cursor.proofs.Caused.{next_caused}

-- ---- cursors that are seen at rest

more_rested : (past : Past) (c : ClientCursor) (bytes : List ℕ) → HeardMore past c bytes → HeardMore past (at_rest c) bytes
more_rested past c bytes h = record { session = h.session; heard = h.heard; success = h.success }

more_unrested : (past : Past) (c : ClientCursor) (bytes : List ℕ) → HeardMore past (at_rest c) bytes → HeardMore past c bytes
more_unrested past c bytes h = record { session = h.session; heard = h.heard; success = h.success }

pub fails_rested : (past : Past) (c : ClientCursor) (e : Error) → MoreFails past c e → MoreFails past (at_rest c) e
fails_rested past c e h = record { session = h.session; fails = h.fails }

heard_unrested : (past : Past) (c : ClientCursor) (replies : List (List ℕ)) (at : ClientCursor) → AreHeard past (at_rest c) replies at → AreHeard past c replies at
heard_unrested past c [] at h = h
heard_unrested past c (bytes ∷ more) at h = (h.0, more_unrested past c bytes h.1, h.2, h.3)

-- ---- a later time

module _ (past past' : Past) (grows : Grows past past') where
  more_grows : (c : ClientCursor) (bytes : List ℕ) → HeardMore past c bytes → HeardMore past' c bytes
  more_grows c bytes h = record { session = h.session; heard = heard_reply past past' grows (get_more c h.session) bytes h.heard; success = h.success }

  pub fails_grow : (c : ClientCursor) (e : Error) → MoreFails past c e → MoreFails past' c e
  fails_grow c e h = record { session = h.session; fails = request_fails_grows past past' grows (get_more c h.session) false TellsNoCursor e h.fails }

  pub heard_grow : (c : ClientCursor) (replies : List (List ℕ)) (at : ClientCursor) → AreHeard past c replies at → AreHeard past' c replies at
  heard_grow c [] at h = h
  heard_grow c (bytes ∷ more) at h = (h.0, more_grows c bytes h.1, h.2, heard_grow (behind_reply h.0 c) more at h.3)

  pub last_grow : (c : ClientCursor) (bytes : List ℕ) → LastBatch past c bytes → LastBatch past' c bytes
  last_grow c bytes (in_hand at) = in_hand at
  last_grow c bytes (heard replies at are more) = heard replies at (heard_grow c replies at are) (more_grows at bytes more)

  pub seek_fails_grow : (session : Option Session) (d : DocumentCursor) (e : Error) → SeekFails past session d e → SeekFails past' session d e
  seek_fails_grow session d e (out_of_memory is) = out_of_memory is
  seek_fails_grow session d e (not_built replies at starts are cannot) = not_built replies at starts (heard_grow d.cursor replies at are) cannot
  seek_fails_grow session d e (no_batch replies at are fails) = no_batch replies at (heard_grow d.cursor replies at are) (fails_grow at e fails)
  seek_fails_grow session d e (broken bytes last breaks) = broken bytes (last_grow d.cursor bytes last) breaks
  seek_fails_grow session d e (too_many bytes last none is) = too_many bytes (last_grow d.cursor bytes last) none is

  pub passes_grow : (bytes : List ℕ) (c c' : ClientCursor) → Passes (HeardMore past c bytes) bytes c c' → Passes (HeardMore past' c bytes) bytes c c'
  passes_grow bytes c c' (was_held at is) = was_held at is
  passes_grow bytes c c' (by_reply said h says is) = by_reply said (more_grows c bytes h) says is

  pub underway_grow : (awaited : Awaited) (c : ClientCursor) (doing : Doing) → UnderwayBy awaited past c doing → UnderwayBy awaited past' c doing
  underway_grow awaited c rests h = tt
  underway_grow awaited c (holds bytes) h = tt
  underway_grow awaited c (asks sending) h = record { session = h.session; command_is = h.command_is; flies = flies_grows past past' grows awaited awaited (get_more c h.session) sending.stage (λ n e. refl) h.flies }

  came_grows : (awaited : Awaited) (session : Option Session) (d d' : DocumentCursor) (outcome : Ending) → SeekCame awaited past session d d' outcome → SeekCame awaited past' session d d' outcome
  came_grows awaited session d d' pending h = underway_grow awaited d'.cursor d'.cursor.doing h
  came_grows awaited session d d' finished h = tt
  came_grows awaited session d d' (failed e) h = seek_fails_grow session d e h

-- a call that is seen from an earlier place on
pub since_grows : (places : List ℕ) (since since' : ℕ) (calls : List Call) (wire : ℤ) → since ≤ since' → Grows (past_of places since' calls wire) (past_of places since calls wire)
since_grows places since since' calls wire le = record { own = λ place call there own. earlier place own; keeps = same_keeps calls; wire = refl }
  where
    earlier : (place : ℕ) → IsOwn (past_of places since' calls wire) place → IsOwn (past_of places since calls wire) place
    earlier place (inl of) = inl of
    earlier place (inr from) = inr (le_trans le from)

-- ---- one advance

-- an empty batch
pub record GaveNone (past : Past) (d d' : DocumentCursor) : Type 0 where
  pub bytes : List ℕ
  pub passes : Passes (HeardMore past d.cursor bytes) bytes d.cursor d'.cursor
  pub empty : documents_of bytes ≡ Some []

abbrev pub AdvanceGave : Past → DocumentCursor → DocumentCursor → AdvanceResult (Unit {0}) → Type 0
AdvanceGave past d d' (result.Advanced t) = Unit {0}
AdvanceGave past d d' result.Exhausted = Unit {0}
AdvanceGave past d d' result.Waiting = GaveNone past d d'

-- what one came to
abbrev pub AdvanceCame : Awaited → Past → Option Session → DocumentCursor → DocumentCursor → TryPoll → Type 0
AdvanceCame awaited past session d d' try.Pending = IsUnderway awaited past d'.cursor
AdvanceCame awaited past session d d' (try.Ready a) = AdvanceGave past d d' a
AdvanceCame awaited past session d d' (try.Failed e) = SeekFails past session d e

pub last_of : (past : Past) (c : ClientCursor) (bytes : List ℕ) → (c.doing ≡ holds bytes) ⊎ HeardMore past c bytes → LastBatch past c bytes
last_of past c bytes (inl at) = in_hand at
last_of past c bytes (inr h) = heard [] (at_rest c) refl (more_rested past c bytes h)

passes_last : (past : Past) (bytes : List ℕ) (c c' : ClientCursor) → Passes (HeardMore past c bytes) bytes c c' → LastBatch past c bytes
passes_last past bytes c c' (was_held at is) = last_of past c bytes (inl at)
passes_last past bytes c c' (by_reply said h says is) = last_of past c bytes (inr h)

next_fails : (past : Past) (session : Option Session) (d : DocumentCursor) (e : Error) → FailsBy (CannotAsk d.cursor session) e ⊎ MoreFails past d.cursor e → SeekFails past session d e
next_fails past session d e (inl (inl room)) = out_of_memory room
next_fails past session d e (inl (inr cannot)) = not_built [] (at_rest d.cursor) 0 refl cannot
next_fails past session d e (inr fails) = no_batch [] (at_rest d.cursor) refl (fails_rested past d.cursor e fails)

module _ (awaited : Awaited) (past : Past) (old new : Awaited) (log log' : LogTold) (wire : ℤ) (session : Option Session) (started : Bool) (d d' : DocumentCursor) (r : TryPoll) where
  gave_by : (bytes : List ℕ) (c : ClientCursor) (documents : List (List ℕ)) → d'.cursor ≡ c → documents_of bytes ≡ Some documents → Passes (HeardMore past d.cursor bytes) bytes d.cursor c → AdvanceCame awaited past session d d' (advance_by documents)
  gave_by bytes c [] is these passes = record { bytes = bytes; passes = subst (Passes (HeardMore past d.cursor bytes) bytes d.cursor) (sym is) passes; empty = these }
  gave_by bytes c (x ∷ xs) is these passes = tt

  fills_came : (bytes : List ℕ) (c : ClientCursor) → PollsNext old new log log' wire session started d.cursor c (next.Batch bytes) → (d.cursor.doing ≡ holds bytes) ⊎ HeardMore past d.cursor bytes → Fills d c bytes d' r → AdvanceCame awaited past session d d' r
  fills_came bytes c asked came (filled documents these is answer) =
      subst (AdvanceCame awaited past session d d') (sym answer)
      (gave_by bytes c documents (fills_cursor d c bytes d' r (filled documents these is answer)) these (passes_next (HeardMore past d.cursor bytes) bytes d.cursor c (next.Batch bytes) refl old new log log' wire session started came asked))
  fills_came bytes c asked came (giving.broken e breaks is answer) = subst (AdvanceCame awaited past session d d') (sym answer) (broken bytes (last_of past d.cursor bytes came) breaks)

  took_came : (c : ClientCursor) (p : NextPoll) → PollsNext old new log log' wire session started d.cursor c p → NextCame awaited past session d.cursor c p → TakesNext d c p d' r → AdvanceCame awaited past session d d' r
  took_came c next.Pending asked came h = subst (AdvanceCame awaited past session d d') (sym h.1) (subst (λ (x : DocumentCursor). IsUnderway awaited past x.cursor) (sym h.0) came)
  took_came c (next.Batch bytes) asked came h = fills_came bytes c asked came h
  took_came c next.End asked came h = subst (AdvanceCame awaited past session d d') (sym h.1) tt
  took_came c (next.Failed e) asked came h = subst (AdvanceCame awaited past session d d') (sym h.1) (next_fails past session d e came)

pub advance_caused : (old new : Awaited) (log log' : LogTold) (wire : ℤ) (session : Option Session) (started : Bool) (d d' : DocumentCursor) (r : TryPoll) → IsSound false d.cursor → AdvancesOnce old new log log' wire session started d d' r → (calls : List Call) → log ≡ Some calls → (places : List ℕ) → IsUnderway old (past_of places (length calls) calls wire) d.cursor
    → (calls' : List Call) × (log' ≡ Some calls') × Keeps calls calls' × AdvanceCame new (past_of places (length calls) calls' wire) session d d' r
advance_caused old new log log' wire session started d d' r sound (gives x xs these none same is answer) = λ calls told places underway.
    (calls, none.log_same ∙ told, same_keeps calls, subst (AdvanceCame new (past_of places (length calls) calls wire) session d d') (sym answer) tt)
advance_caused old new log log' wire session started d d' r sound (polls none_left c p asked takes) = λ calls told places underway.
    let x = next_caused old new log log' wire session started d.cursor c p sound asked calls told places underway in
    (x.0, x.1, x.2, took_came new (past_of places (length calls) x.0 wire) old new log log' wire session started d d' r c p asked x.3 takes)

-- ---- a call with one advance

tried_came : (awaited : Awaited) (past : Past) (session : Option Session) (d e d' : DocumentCursor) (r : TryPoll) → AdvanceCame awaited past session d e r → d' ≡ kept_behind r e → SeekCame awaited past session d d' (try_ending r)
tried_came awaited past session d e d' try.Pending came is = subst (λ (x : DocumentCursor). IsUnderway awaited past x.cursor) (sym is) came
tried_came awaited past session d e d' (try.Ready a) came is = tt
tried_came awaited past session d e d' (try.Failed f) came is = came

pub tries_caused : (old new : Awaited) (log log' : LogTold) (wire : ℤ) (session : Option Session) (started : Bool) (d d' : DocumentCursor) (r : TryPoll) → IsSound false d.cursor → TriesAdvance old new log log' wire session started d d' r → SeekCaused old new log log' wire session d d' (try_ending r)
tries_caused old new log log' wire session started d d' r sound h = λ calls told places underway.
    let x = advance_caused old new log log' wire session started d h.advanced r sound h.tries calls told places underway in
    (x.0, x.1, x.2, tried_came new (past_of places (length calls) x.0 wire) session d h.advanced d' r x.3 h.kept)

-- ---- a call with many

-- what is heard behind a batch that was handed out is heard behind it and that batch
pub record HeardBefore (past : Past) (c at : ClientCursor) : Type 0 where
  pub replies : List (List ℕ)
  pub are : AreHeard past c replies at

pub heard_before : (past : Past) (bytes : List ℕ) (c c' : ClientCursor) (replies : List (List ℕ)) (at : ClientCursor) → Passes (HeardMore past c bytes) bytes c c' → AreHeard past c' replies at → HeardBefore past c at
heard_before past bytes c c' replies at (was_held held is) are = record { replies = replies; are = heard_unrested past c replies at (subst (λ (x : ClientCursor). AreHeard past x replies at) is are) }
heard_before past bytes c c' replies at (by_reply said h says is) are = record { replies = bytes ∷ replies; are = (said, h, says, subst (λ (x : ClientCursor). AreHeard past x replies at) is are) }

pub last_before : (past : Past) (bytes : List ℕ) (c c' : ClientCursor) (b : List ℕ) → Passes (HeardMore past c bytes) bytes c c' → LastBatch past c' b → LastBatch past c b
last_before past bytes c c' b passes (in_hand held) = let bad : rests ≡ holds b = sym (passes_rest (HeardMore past c bytes) bytes c c' passes) ∙ held in absurd cc
last_before past bytes c c' b passes (heard replies at are more) = let before = heard_before past bytes c c' replies at passes are in heard before.replies at before.are more

-- commands that started behind one
abbrev before_count : Bool → ℕ → ℕ
before_count true n = suc n
before_count false n = n

told_before : (started : Bool) (n : ℕ) (session : Option Session) → times n (option_map after_command) (session_after started session) ≡ times (before_count started n) (option_map after_command) session
told_before true n session = refl
told_before false n session = refl

fails_before : (past : Past) (bytes : List ℕ) (session : Option Session) (started : Bool) (d e : DocumentCursor) (f : Error) → Passes (HeardMore past d.cursor bytes) bytes d.cursor e.cursor → SeekFails past (session_after started session) e f → SeekFails past session d f
fails_before past bytes session started d e f passes (out_of_memory is) = out_of_memory is
fails_before past bytes session started d e f passes (not_built replies at starts are cannot) =
    let before = heard_before past bytes d.cursor e.cursor replies at passes are in
    not_built before.replies at (before_count started starts) before.are (subst (λ (now : Option Session). CannotAsk at now f) (told_before started starts session) cannot)
fails_before past bytes session started d e f passes (no_batch replies at are fails) = let before = heard_before past bytes d.cursor e.cursor replies at passes are in no_batch before.replies at before.are fails
fails_before past bytes session started d e f passes (broken b last breaks) = broken b (last_before past bytes d.cursor e.cursor b passes last) breaks
fails_before past bytes session started d e f passes (too_many b last none is) = too_many b (last_before past bytes d.cursor e.cursor b passes last) none is

came_before : (awaited : Awaited) (past : Past) (bytes : List ℕ) (session : Option Session) (started : Bool) (d e d' : DocumentCursor) (outcome : Ending) → Passes (HeardMore past d.cursor bytes) bytes d.cursor e.cursor → SeekCame awaited past (session_after started session) e d' outcome → SeekCame awaited past session d d' outcome
came_before awaited past bytes session started d e d' pending passes h = h
came_before awaited past bytes session started d e d' finished passes h = tt
came_before awaited past bytes session started d e d' (failed f) passes h = fails_before past bytes session started d e f passes h

ready_came : (awaited : Awaited) (past : Past) (session : Option Session) (d e d' : DocumentCursor) (a : AdvanceResult (Unit {0})) (r : AdvancePoll) → AdvanceGave past d e a → EndsSeeking (try.Ready a) e d' r → SeekCame awaited past session d d' (advance_ending r)
ready_came awaited past session d e d' (result.Advanced t) r came ends = subst (λ (x : AdvancePoll). SeekCame awaited past session d d' (advance_ending x)) (sym ends.2) tt
ready_came awaited past session d e d' result.Exhausted r came ends = subst (λ (x : AdvancePoll). SeekCame awaited past session d d' (advance_ending x)) (sym ends.2) tt
ready_came awaited past session d e d' result.Waiting r came ends =
    subst (λ (x : AdvancePoll). SeekCame awaited past session d d' (advance_ending x)) (sym ends.2) (too_many came.bytes (passes_last past came.bytes d.cursor e.cursor came.passes) came.empty refl)

ended_came : (awaited : Awaited) (past : Past) (session : Option Session) (d e d' : DocumentCursor) (p : TryPoll) (r : AdvancePoll) → AdvanceCame awaited past session d e p → EndsSeeking p e d' r → SeekCame awaited past session d d' (advance_ending r)
ended_came awaited past session d e d' try.Pending r came ends =
    subst (λ (x : AdvancePoll). SeekCame awaited past session d d' (advance_ending x)) (sym ends.1) (subst (λ (x : DocumentCursor). IsUnderway awaited past x.cursor) (sym ends.0) came)
ended_came awaited past session d e d' (try.Ready a) r came ends = ready_came awaited past session d e d' a r came ends
ended_came awaited past session d e d' (try.Failed f) r came ends = subst (λ (x : AdvancePoll). SeekCame awaited past session d d' (advance_ending x)) (sym ends.1) came

-- a cursor at rest, of which nothing is to be known
sound_rest : (c : ClientCursor) → c.doing ≡ rests → IsSound false c
sound_rest c is = subst (SoundBy false c) (sym is) tt

pub underway_rest : (awaited : Awaited) (past : Past) (c : ClientCursor) → c.doing ≡ rests → IsUnderway awaited past c
underway_rest awaited past c is = subst (UnderwayBy awaited past c) (sym is) tt

-- the rest of the polls, seen from where the call was before an empty batch
more_caused : (old between new : Awaited) (log log_between log' : LogTold) (wire : ℤ) (session : Option Session) (started : Bool) (d a e d' : DocumentCursor) (outcome : Ending) → e.cursor ≡ a.cursor
    → ((calls : List Call) → log ≡ Some calls → (places : List ℕ) → IsUnderway old (past_of places (length calls) calls wire) d.cursor → (calls' : List Call) × (log_between ≡ Some calls') × Keeps calls calls' × GaveNone (past_of places (length calls) calls' wire) d a)
    → ((rests_on : e.cursor.doing ≡ rests) → SeekCaused between new log_between log' wire (session_after started session) e d' outcome) → SeekCaused old new log log' wire session d d' outcome
more_caused old between new log log_between log' wire session started d a e d' outcome same first rest calls told places underway =
    let x = first calls told places underway in
    let mid : Past = past_of places (length calls) x.0 wire in
    let handed : Passes (HeardMore mid d.cursor x.3.bytes) x.3.bytes d.cursor e.cursor = subst (Passes (HeardMore mid d.cursor x.3.bytes) x.3.bytes d.cursor) (sym same) x.3.passes in
    let at = passes_rest (HeardMore mid d.cursor x.3.bytes) x.3.bytes d.cursor e.cursor handed in
    let y = rest at x.0 x.1 places (underway_rest between (past_of places (length x.0) x.0 wire) e.cursor at) in
    let past' : Past = past_of places (length calls) y.0 wire in
    let came = came_grows (past_of places (length x.0) y.0 wire) past' (since_grows places (length calls) (length x.0) y.0 wire (keeps_longer calls x.0 x.2)) new (session_after started session) e d' outcome y.3 in
    let passes = passes_grow mid past' (log_grows places (length calls) x.0 y.0 wire y.2) x.3.bytes d.cursor e.cursor handed in
    (y.0, y.1, keeps_on calls x.0 y.0 x.2 y.2, came_before new past' x.3.bytes session started d e d' outcome passes came)

pub seeks_caused : (n : ℕ) (old new : Awaited) (log log' : LogTold) (wire : ℤ) (session : Option Session) (starts : ℕ) (d d' : DocumentCursor) (r : AdvancePoll) → IsSound false d.cursor → SeeksDocument n old new log log' wire session starts d d' r → SeekCaused old new log log' wire session d d' (advance_ending r)
unfolding SeeksDocument
seeks_caused zero old new log log' wire session starts d d' r sound last = λ calls told places underway.
    let x = advance_caused old new log log' wire session last.started d last.advanced last.poll sound last.tries calls told places underway in
    (x.0, x.1, x.2, ended_came new (past_of places (length calls) x.0 wire) session d last.advanced d' last.poll r x.3 last.ends)
seeks_caused (suc n) old new log log' wire session starts d d' r sound more =
    let on = more.5 in
    more_caused old more.0 new log more.1 log' wire session more.2 d on.advanced more.4 d' (advance_ending r) (ap (λ (x : DocumentCursor). x.cursor) on.counts)
    (advance_caused old more.0 log more.1 wire session more.2 d on.advanced (try.Ready result.Waiting) sound on.tries)
    (λ at. seeks_caused n more.0 new more.1 log' wire (session_after more.2 session) more.3 more.4 d' r (sound_rest more.4.cursor at) more.7)

-- ---- a copy of the document

copied_came : (awaited : Awaited) (past : Past) (session : Option Session) (d d' : DocumentCursor) (there : Bool) (r : ItemPoll) → CopiesIf there d' r → SeekCame awaited past session d d' (item_ending r)
copied_came awaited past session d d' true r (inl copy) = subst (λ (x : ItemPoll). SeekCame awaited past session d d' (item_ending x)) (sym copy.2) tt
copied_came awaited past session d d' true r (inr room) = subst (λ (x : ItemPoll). SeekCame awaited past session d d' (item_ending x)) (sym room) (out_of_memory refl)
copied_came awaited past session d d' false r none = subst (λ (x : ItemPoll). SeekCame awaited past session d d' (item_ending x)) (sym none) tt

item_came : (awaited : Awaited) (past : Past) (session : Option Session) (d d' : DocumentCursor) (p : AdvancePoll) (r : ItemPoll) → CopiesCurrent p d' r → SeekCame awaited past session d d' (advance_ending p) → SeekCame awaited past session d d' (item_ending r)
item_came awaited past session d d' advance.Pending r h came = subst (λ (x : ItemPoll). SeekCame awaited past session d d' (item_ending x)) (sym h) came
item_came awaited past session d d' (advance.Ready there) r h came = copied_came awaited past session d d' there r h
item_came awaited past session d d' (advance.Failed e) r h came = subst (λ (x : ItemPoll). SeekCame awaited past session d d' (item_ending x)) (sym h) came

pub item_caused : (old new : Awaited) (log log' : LogTold) (wire : ℤ) (session : Option Session) (d d' : DocumentCursor) (p : AdvancePoll) (r : ItemPoll) → CopiesCurrent p d' r → SeekCaused old new log log' wire session d d' (advance_ending p) → SeekCaused old new log log' wire session d d' (item_ending r)
item_caused old new log log' wire session d d' p r copies caused = λ calls told places underway.
    let x = caused calls told places underway in
    (x.0, x.1, x.2, item_came new (past_of places (length calls) x.0 wire) session d d' p r copies x.3)
