-- A call that seeks a document, one advance behind another.
use Rattle.std.proofs.Common.{◌≡◌, ◌<◌, ◌≤◌, ◌+◌, ◌-◌, ℕ, zero, suc, ℤ, Bool, true, false, List, [], ◌∷◌, Option, Some, None, is_some, option_map, refl, sym, ap, ◌∙◌, subst, inl, inr, arith}
use Rattle.mg_link.specs.Causes.{one_if}
use Rattle.mg_link.specs.Errors.{plain}
use Rattle.mg_link.specs.Link.{Awaited, LogTold}
use Rattle.mg_link.specs.Moment.{LinkKeeps, Moment, finished}
use Rattle.mg_link.specs.Session.{Session, after_command}
use Rattle.mg_link.specs.declared.error.ErrorKind.TheVariants as kind
use Rattle.mg_cursor.specs.Client.{ClientCursor, IsSound, PlainIf, client_ticket}
use Rattle.mg_cursor.specs.Documents.{AdvancesOnce, DocumentCursor, Fills, TakesNext, advance_by, broken, filled, filled_with, gives, polls, try_ending}
use Rattle.mg_cursor.specs.Seeking.{CopiesIf, CopiesCurrent, EndsSeeking, IsEnough, ItemLeaves, KeepsCount, KeepsCountBy, LeavesBy, MayEnd, SeekLeaves, SeeksDocument, SeeksLast, SeeksOn, TriesAdvance, TryLeaves, advance_ending, counted, ended_as, item_ending, kept_behind, most_empty, session_after, times}
use Rattle.mg_cursor.specs.declared.polls.AdvancePoll.{AdvancePoll}
use Rattle.mg_cursor.specs.declared.polls.AdvancePoll.TheVariants as advance
use Rattle.mg_cursor.specs.declared.polls.ItemPoll.{ItemPoll}
use Rattle.mg_cursor.specs.declared.polls.ItemPoll.TheVariants as item
use Rattle.mg_cursor.specs.declared.polls.NextPoll.{NextPoll}
use Rattle.mg_cursor.specs.declared.polls.NextPoll.TheVariants as next
use Rattle.mg_cursor.specs.declared.polls.TryPoll.{TryPoll}
use Rattle.mg_cursor.specs.declared.polls.TryPoll.TheVariants as try
use Rattle.mg_cursor.specs.declared.results.AdvanceResult.{AdvanceResult}
use Rattle.mg_cursor.specs.declared.results.AdvanceResult.TheVariants as result
use Rattle.mg_cursor.proofs.Advancing.{advance_sound}
use Rattle.mg_cursor.proofs.Hearing.{failing, no_room, other_kind}
use Rattle.mg_cursor.proofs.Keeping.{plain_told}

-- ---- what goes on behind an advance

-- only an empty reply, which is counted
pub record GoesOn (p : TryPoll) (d d' : DocumentCursor) : Type 0 where
  pub waits : p ≡ try.Ready result.Waiting
  pub few : d.empty + 1 < most_empty
  pub counts : d' ≡ counted d

goes_by : (a : AdvanceResult (Unit {0})) (d d' : DocumentCursor) (goes : Bool) → goes ≡ true → KeepsCountBy a d d' goes → GoesOn (try.Ready a) d d'
goes_by (result.Advanced t) d d' goes so h = let bad : false ≡ true = sym h.0 ∙ so in absurd cc
goes_by result.Exhausted d d' goes so h = let bad : false ≡ true = sym h.0 ∙ so in absurd cc
goes_by result.Waiting d d' true so h = record { waits = refl; few = h.0; counts = h.1 }
goes_by result.Waiting d d' false so h = absurd cc

pub goes_on_by : (p : TryPoll) (d d' : DocumentCursor) (goes : Bool) → goes ≡ true → KeepsCount p d d' goes → GoesOn p d d'
goes_on_by try.Pending d d' goes so h = let bad : false ≡ true = sym h.0 ∙ so in absurd cc
goes_on_by (try.Ready a) d d' goes so h = goes_by a d d' goes so h
goes_on_by (try.Failed e) d d' goes so h = let bad : false ≡ true = sym h.0 ∙ so in absurd cc

-- where it does not go on, it may end there, and nothing was counted
stops_by : (a : AdvanceResult (Unit {0})) (d d' : DocumentCursor) (goes : Bool) → goes ≡ false → KeepsCountBy a d d' goes → IsEnough a d' × (d' ≡ d)
stops_by (result.Advanced t) d d' goes so h = (tt, h.1)
stops_by result.Exhausted d d' goes so h = (tt, h.1)
stops_by result.Waiting d d' false so h = (subst (λ (x : DocumentCursor). most_empty ≤ x.empty + 1) (sym h.1) h.0, h.1)
stops_by result.Waiting d d' true so h = absurd cc

pub stops : (p : TryPoll) (d d' : DocumentCursor) (goes : Bool) → goes ≡ false → KeepsCount p d d' goes → MayEnd p d' × (d' ≡ d)
stops try.Pending d d' goes so h = (tt, h.1)
stops (try.Ready a) d d' goes so h = stops_by a d d' goes so h
stops (try.Failed e) d d' goes so h = (tt, h.1)

-- how it ended so far
pub keeps_going : (m m' : Moment) (ticket : Option ℕ) (p : TryPoll) (d d' : DocumentCursor) → GoesOn p d d' → LinkKeeps m m' ticket (client_ticket d.cursor) (try_ending p) → LinkKeeps m m' ticket (client_ticket d'.cursor) finished
keeps_going m m' ticket p d d' on k =
    subst (λ (x : DocumentCursor). LinkKeeps m m' ticket (client_ticket x.cursor) finished) (sym on.counts)
    (subst (λ (x : TryPoll). LinkKeeps m m' ticket (client_ticket d.cursor) (try_ending x)) on.waits k)

-- ---- what a call that has ended leaves

pub kept_cursor : (p : TryPoll) (d : DocumentCursor) → (kept_behind p d).cursor ≡ d.cursor
kept_cursor try.Pending d = refl
kept_cursor (try.Ready a) d = refl
kept_cursor (try.Failed e) d = refl

pub ended_cursor : (p : TryPoll) (d d' : DocumentCursor) (r : AdvancePoll) → EndsSeeking p d d' r → d'.cursor ≡ d.cursor
ended_cursor try.Pending d d' r h = ap (λ (x : DocumentCursor). x.cursor) h.0
ended_cursor (try.Ready a) d d' r h = ap (λ (x : DocumentCursor). x.cursor) h.1
ended_cursor (try.Failed e) d d' r h = ap (λ (x : DocumentCursor). x.cursor) h.0

-- ---- how the call ended

as_ended : (m m' : Moment) (ticket : Option ℕ) (d d' : DocumentCursor) (r r' : AdvancePoll) → d'.cursor ≡ d.cursor → r' ≡ r → LinkKeeps m m' ticket (client_ticket d.cursor) (advance_ending r) → LinkKeeps m m' ticket (client_ticket d'.cursor) (advance_ending r')
as_ended m m' ticket d d' r r' is answer k =
    subst (λ (x : AdvancePoll). LinkKeeps m m' ticket (client_ticket d'.cursor) (advance_ending x)) (sym answer)
    (subst (λ (x : ClientCursor). LinkKeeps m m' ticket (client_ticket x) (advance_ending r)) (sym is) k)

ready_keeps : (m m' : Moment) (ticket ticket' : Option ℕ) (a : AdvanceResult (Unit {0})) → LinkKeeps m m' ticket ticket' (try_ending (try.Ready a)) → LinkKeeps m m' ticket ticket' (advance_ending (ended_as a))
ready_keeps m m' ticket ticket' (result.Advanced t) k = k
ready_keeps m m' ticket ticket' result.Exhausted k = k
ready_keeps m m' ticket ticket' result.Waiting k = failing m m' ticket ticket' (plain kind.EmptyBatches) (other_kind (plain kind.EmptyBatches) kind.EmptyBatches refl (λ bad. cc)) k

pub keeps_ended : (m m' : Moment) (ticket : Option ℕ) (p : TryPoll) (d d' : DocumentCursor) (r : AdvancePoll) → EndsSeeking p d d' r → LinkKeeps m m' ticket (client_ticket d.cursor) (try_ending p) → LinkKeeps m m' ticket (client_ticket d'.cursor) (advance_ending r)
keeps_ended m m' ticket try.Pending d d' r h k = as_ended m m' ticket d d' advance.Pending r (ended_cursor try.Pending d d' r h) h.1 k
keeps_ended m m' ticket (try.Ready a) d d' r h k = as_ended m m' ticket d d' (ended_as a) r (ended_cursor (try.Ready a) d d' r h) h.2 (ready_keeps m m' ticket (client_ticket d.cursor) a k)
keeps_ended m m' ticket (try.Failed e) d d' r h k = as_ended m m' ticket d d' (advance.Failed e) r (ended_cursor (try.Failed e) d d' r h) h.1 k

as_copied : (m m' : Moment) (ticket ticket' : Option ℕ) (r r' : ItemPoll) → r' ≡ r → LinkKeeps m m' ticket ticket' (item_ending r) → LinkKeeps m m' ticket ticket' (item_ending r')
as_copied m m' ticket ticket' r r' answer k = subst (λ (x : ItemPoll). LinkKeeps m m' ticket ticket' (item_ending x)) (sym answer) k

copied_keeps : (m m' : Moment) (ticket ticket' : Option ℕ) (there : Bool) (d : DocumentCursor) (r : ItemPoll) → CopiesIf there d r → LinkKeeps m m' ticket ticket' (advance_ending (advance.Ready there)) → LinkKeeps m m' ticket ticket' (item_ending r)
copied_keeps m m' ticket ticket' true d r (inl copy) k = as_copied m m' ticket ticket' (item.Item copy.0) r copy.2 k
copied_keeps m m' ticket ticket' true d r (inr room) k = as_copied m m' ticket ticket' (item.Failed (plain kind.OutOfMemory)) r room (failing m m' ticket ticket' (plain kind.OutOfMemory) (no_room (plain kind.OutOfMemory) refl) k)
copied_keeps m m' ticket ticket' false d r none k = as_copied m m' ticket ticket' item.End r none k

pub keeps_copied : (m m' : Moment) (ticket ticket' : Option ℕ) (p : AdvancePoll) (d : DocumentCursor) (r : ItemPoll) → CopiesCurrent p d r → LinkKeeps m m' ticket ticket' (advance_ending p) → LinkKeeps m m' ticket ticket' (item_ending r)
keeps_copied m m' ticket ticket' advance.Pending d r h k = as_copied m m' ticket ticket' item.Pending r h k
keeps_copied m m' ticket ticket' (advance.Ready there) d r h k = copied_keeps m m' ticket ticket' there d r h k
keeps_copied m m' ticket ticket' (advance.Failed e) d r h k = as_copied m m' ticket ticket' (item.Failed e) r h k

-- ---- sessions that are told

-- so many times more
pub times_on : {A : Type 0} (n m : ℕ) (f : A → A) (x : A) → times m f (times n f x) ≡ times (n + m) f x
times_on zero m f x = ap (λ (k : ℕ). times k f x) (let e : m ≡ zero + m = omega arith in e)
times_on (suc n) m f x = times_on n m f (f x) ∙ ap (λ (k : ℕ). times k f x) (let e : suc (n + m) ≡ suc n + m = omega arith in e)

-- the session that is asked for behind one advance
pub asked_on : {H : Type 0} (asked : H → Option Session) (told : H → H) → ((h : H) → asked (told h) ≡ option_map after_command (asked h)) → (started : Bool) (h : H) → asked (times (one_if started) told h) ≡ session_after started (asked h)
asked_on asked told moves true h = moves h
asked_on asked told moves false h = refl

plain_after : (plain started : Bool) (session : Option Session) → PlainIf plain session → PlainIf plain (session_after started session)
plain_after plain true session h = plain_told plain session h
plain_after plain false session h = h

-- ---- advances so far

-- A call came from one link, session and cursor to others by advances that got empty replies, and started so many commands: it seeks a document as it does from there.
pub record Sought (old mid : Awaited) (log between : LogTold) (wire : ℤ) (session now : Option Session) (starts : ℕ) (d e : DocumentCursor) : Type 0 where
  pub goes : (new : Awaited) (log' : LogTold) (n later : ℕ) (d' : DocumentCursor) (r : AdvancePoll) → SeeksDocument n mid new between log' wire now later e d' r → (empties : ℕ) × SeeksDocument empties old new log log' wire session (starts + later) d d' r

pub sought_none : (old : Awaited) (log : LogTold) (wire : ℤ) (session : Option Session) (d : DocumentCursor) → Sought old old log log wire session session 0 d d
sought_none old log wire session d = record {
  goes = λ new log' n later d' r h. (n, subst (λ (k : ℕ). SeeksDocument n old new log log' wire session k d d' r) (let e : later ≡ 0 + later = omega arith in e) h);
}

-- one step more, and the rest
seeks_on : (n : ℕ) (old between new : Awaited) (log log_between log' : LogTold) (wire : ℤ) (session : Option Session) (started : Bool) (later : ℕ) (d e d' : DocumentCursor) (r : AdvancePoll) → SeeksOn old between log log_between wire session started d e → SeeksDocument n between new log_between log' wire (session_after started session) later e d' r
    → SeeksDocument (suc n) old new log log' wire session (one_if started + later) d d' r
unfolding SeeksDocument
seeks_on n old between new log log_between log' wire session started later d e d' r on h = (between, log_between, started, later, e, on, refl, h)

pub sought_on : (old mid between : Awaited) (log log_mid log_between : LogTold) (wire : ℤ) (session now : Option Session) (starts : ℕ) (started : Bool) (d e f : DocumentCursor) → Sought old mid log log_mid wire session now starts d e → SeeksOn mid between log_mid log_between wire now started e f
    → Sought old between log log_between wire session (session_after started now) (starts + one_if started) d f
sought_on old mid between log log_mid log_between wire session now starts started d e f so on = record {
  goes = λ new log' n later d' r h.
      let x = so.goes new log' (suc n) (one_if started + later) d' r (seeks_on n mid between new log_mid log_between log' wire now started later e f d' r on h) in
      (x.0, subst (λ (k : ℕ). SeeksDocument x.0 old new log log' wire session k d d' r) (let e : starts + (one_if started + later) ≡ starts + one_if started + later = omega arith in e) x.1);
}

seeks_last : (old new : Awaited) (log log' : LogTold) (wire : ℤ) (session : Option Session) (starts : ℕ) (d d' : DocumentCursor) (r : AdvancePoll) → SeeksLast old new log log' wire session starts d d' r → SeeksDocument zero old new log log' wire session starts d d' r
unfolding SeeksDocument
seeks_last old new log log' wire session starts d d' r h = h

-- the last advance
pub sought_last : (old mid new : Awaited) (log log_mid log' : LogTold) (wire : ℤ) (session now : Option Session) (starts : ℕ) (started : Bool) (d e f d' : DocumentCursor) (p : TryPoll) (r : AdvancePoll) → Sought old mid log log_mid wire session now starts d e → AdvancesOnce mid new log_mid log' wire now started e f p → EndsSeeking p f d' r
    → (empties : ℕ) × SeeksDocument empties old new log log' wire session (starts + one_if started) d d' r
sought_last old mid new log log_mid log' wire session now starts started d e f d' p r so tries ends =
    so.goes new log' zero (one_if started) d' r (seeks_last mid new log_mid log' wire now (one_if started) e d' r (record { started = started; starts_are = refl; advanced = f; poll = p; tries = tries; ends = ends }))

-- the advances over the link, by the wire version that the call began with
module _ (old mid new : Awaited) (log log_mid log' : LogTold) (wire wire' : ℤ) (same_wire : wire' ≡ wire) (session now : Option Session) (starts : ℕ) (started : Bool) (d e f : DocumentCursor) (p : TryPoll) where
  over_wire : AdvancesOnce mid new log_mid log' wire' now started e f p → AdvancesOnce mid new log_mid log' wire now started e f p
  over_wire h = subst (λ (w : ℤ). AdvancesOnce mid new log_mid log' w now started e f p) same_wire h

  -- one that got an empty reply, behind which the call goes on
  pub sought_step : (now' : Option Session) (g : DocumentCursor) → now' ≡ session_after started now → Sought old mid log log_mid wire session now starts d e → AdvancesOnce mid new log_mid log' wire' now started e f p → GoesOn p f g
      → Sought old new log log' wire session now' (starts + one_if started) d g
  sought_step now' g told so tries on =
      let empty = subst (λ (x : TryPoll). AdvancesOnce mid new log_mid log' wire now started e f x) on.waits (over_wire tries) in
      subst (λ (s : Option Session). Sought old new log log' wire session s (starts + one_if started) d g) (sym told)
      (sought_on old mid new log log_mid log' wire session now starts started d e g so (record { advanced = f; tries = empty; few = on.few; counts = on.counts }))

  -- one that ends the call
  pub sought_end : (g d' : DocumentCursor) (r : AdvancePoll) → g ≡ f → Sought old mid log log_mid wire session now starts d e → AdvancesOnce mid new log_mid log' wire' now started e f p → EndsSeeking p g d' r
      → (empties : ℕ) × SeeksDocument empties old new log log' wire session (starts + one_if started) d d' r
  sought_end g d' r same so tries ends =
      sought_last old mid new log log_mid log' wire session now starts started d e f d' p r so (over_wire tries) (subst (λ (x : DocumentCursor). EndsSeeking p x d' r) same ends)

-- ---- what is on its way stays the getMore of the cursor

pub seeks_sound : (n : ℕ) (plain : Bool) (old new : Awaited) (log log' : LogTold) (wire : ℤ) (session : Option Session) (starts : ℕ) (d d' : DocumentCursor) (r : AdvancePoll) → IsSound plain d.cursor → PlainIf plain session → SeeksDocument n old new log log' wire session starts d d' r → IsSound plain d'.cursor
unfolding SeeksDocument
seeks_sound zero plain old new log log' wire session starts d d' r h plainly last =
    subst (IsSound plain) (sym (ended_cursor last.poll last.advanced d' r last.ends)) (advance_sound plain old new log log' wire session last.started d last.advanced last.poll h plainly last.tries)
seeks_sound (suc n) plain old new log log' wire session starts d d' r h plainly more =
    let on = more.5 in
    let there = advance_sound plain old more.0 log more.1 wire session more.2 d on.advanced (try.Ready result.Waiting) h plainly on.tries in
    seeks_sound n plain more.0 new more.1 log' wire (session_after more.2 session) more.3 more.4 d' r (subst (IsSound plain) (sym (ap (λ (x : DocumentCursor). x.cursor) on.counts)) there) (plain_after plain more.2 session plainly) more.7

-- ---- the count falls

pub count_falls : (e f g : DocumentCursor) → f.empty ≡ e.empty → f.empty + 1 < most_empty → g ≡ counted f → most_empty - g.empty < most_empty - e.empty
count_falls e f g same few counts =
    let now : g.empty ≡ f.empty + 1 = ap (λ (x : DocumentCursor). x.empty) counts in
    omega (arith, same, few, now)

-- ---- the document that is left

-- the cursor and the poll, as they were seen
left_as : (e d' : DocumentCursor) (r r' : TryPoll) → d' ≡ e → r' ≡ r → TryLeaves r e.current → TryLeaves r' d'.current
left_as e d' r r' is answer h = subst (λ (x : TryPoll). TryLeaves x d'.current) (sym answer) (subst (λ (x : DocumentCursor). TryLeaves r x.current) (sym is) h)

filled_leaves : (c : ClientCursor) (documents : List (List ℕ)) (d : DocumentCursor) → TryLeaves (advance_by documents) (filled_with c documents d).current
filled_leaves c [] d = refl
filled_leaves c (x ∷ xs) d = refl

fills_leave : (d : DocumentCursor) (c : ClientCursor) (bytes : List ℕ) (d' : DocumentCursor) (r : TryPoll) → Fills d c bytes d' r → TryLeaves r d'.current
fills_leave d c bytes d' r (filled documents these is answer) = left_as (filled_with c documents d) d' (advance_by documents) r is answer (filled_leaves c documents d)
fills_leave d c bytes d' r (broken e breaks is answer) = left_as (filled_with c [] d) d' (try.Failed e) r is answer refl

takes_leave : (d : DocumentCursor) (c : ClientCursor) (p : NextPoll) (d' : DocumentCursor) (r : TryPoll) → TakesNext d c p d' r → TryLeaves r d'.current
takes_leave d c next.Pending d' r h = left_as (filled_with c [] d) d' try.Pending r h.0 h.1 refl
takes_leave d c (next.Batch bytes) d' r h = fills_leave d c bytes d' r h
takes_leave d c next.End d' r h = left_as (filled_with c [] d) d' (try.Ready result.Exhausted) r h.0 h.1 refl
takes_leave d c (next.Failed e) d' r h = left_as (filled_with c [] d) d' (try.Failed e) r h.0 h.1 refl

kept_current : (p : TryPoll) (d : DocumentCursor) → (kept_behind p d).current ≡ d.current
kept_current try.Pending d = refl
kept_current (try.Ready a) d = refl
kept_current (try.Failed e) d = refl

advance_leaves : (old new : Awaited) (log log' : LogTold) (wire : ℤ) (session : Option Session) (started : Bool) (d d' : DocumentCursor) (r : TryPoll) → AdvancesOnce old new log log' wire session started d d' r → TryLeaves r d'.current
advance_leaves old new log log' wire session started d d' r (gives x xs these none same is answer) = left_as (record d { current = Some x; behind = xs }) d' (try.Ready (result.Advanced tt)) r is answer refl
advance_leaves old new log log' wire session started d d' r (polls none_left c p asked takes) = takes_leave d c p d' r takes

pub tries_leave : (old new : Awaited) (log log' : LogTold) (wire : ℤ) (session : Option Session) (started : Bool) (d d' : DocumentCursor) (r : TryPoll) → TriesAdvance old new log log' wire session started d d' r → TryLeaves r d'.current
tries_leave old new log log' wire session started d d' r h =
    subst (TryLeaves r) (sym (ap (λ (x : DocumentCursor). x.current) h.kept ∙ kept_current r h.advanced)) (advance_leaves old new log log' wire session started d h.advanced r h.tries)

-- the same behind a call that has ended
ended_as_left : (e d' : DocumentCursor) (r r' : AdvancePoll) → d'.current ≡ e.current → r' ≡ r → SeekLeaves r e.current → SeekLeaves r' d'.current
ended_as_left e d' r r' is answer h = subst (λ (x : AdvancePoll). SeekLeaves x d'.current) (sym answer) (subst (SeekLeaves r) (sym is) h)

ready_leaves : (a : AdvanceResult (Unit {0})) (o : Option (List ℕ)) → LeavesBy a o → SeekLeaves (ended_as a) o
ready_leaves (result.Advanced t) o h = h
ready_leaves result.Exhausted o h = ap is_some h
ready_leaves result.Waiting o h = h

ended_leaves : (p : TryPoll) (e d' : DocumentCursor) (r : AdvancePoll) → TryLeaves p e.current → EndsSeeking p e d' r → SeekLeaves r d'.current
ended_leaves try.Pending e d' r h ends = ended_as_left e d' advance.Pending r (ap (λ (x : DocumentCursor). x.current) ends.0) ends.1 h
ended_leaves (try.Ready a) e d' r h ends = ended_as_left e d' (ended_as a) r (ap (λ (x : DocumentCursor). x.current) ends.1) ends.2 (ready_leaves a e.current h)
ended_leaves (try.Failed f) e d' r h ends = ended_as_left e d' (advance.Failed f) r (ap (λ (x : DocumentCursor). x.current) ends.0) ends.1 h

pub seeks_leave : (n : ℕ) (old new : Awaited) (log log' : LogTold) (wire : ℤ) (session : Option Session) (starts : ℕ) (d d' : DocumentCursor) (r : AdvancePoll) → SeeksDocument n old new log log' wire session starts d d' r → SeekLeaves r d'.current
unfolding SeeksDocument
seeks_leave zero old new log log' wire session starts d d' r last = ended_leaves last.poll last.advanced d' r (advance_leaves old new log log' wire session last.started d last.advanced last.poll last.tries) last.ends
seeks_leave (suc n) old new log log' wire session starts d d' r more = seeks_leave n more.0 new more.1 log' wire (session_after more.2 session) more.3 more.4 d' r more.7

-- the same behind a copy
copy_leaves : (there : Bool) (d : DocumentCursor) (r : ItemPoll) → is_some d.current ≡ there → CopiesIf there d r → ItemLeaves r d.current
copy_leaves true d r is (inl (document, there, copy)) = subst (λ (x : ItemPoll). ItemLeaves x d.current) (sym copy) there
copy_leaves true d r is (inr room) = subst (λ (x : ItemPoll). ItemLeaves x d.current) (sym room) (inr refl)
copy_leaves false d r is none = subst (λ (x : ItemPoll). ItemLeaves x d.current) (sym none) (none_there d.current is)
  where
    none_there : (o : Option (List ℕ)) → is_some o ≡ false → o ≡ None
    none_there None h = refl
    none_there (Some document) h = absurd cc

pub item_leaves : (p : AdvancePoll) (d : DocumentCursor) (r : ItemPoll) → SeekLeaves p d.current → CopiesCurrent p d r → ItemLeaves r d.current
item_leaves advance.Pending d r h copies = subst (λ (x : ItemPoll). ItemLeaves x d.current) (sym copies) h
item_leaves (advance.Ready there) d r h copies = copy_leaves there d r h copies
item_leaves (advance.Failed e) d r h copies = subst (λ (x : ItemPoll). ItemLeaves x d.current) (sym copies) (inl h)

-- a copy of the document that is there
pub copies_ready : (there : Bool) (d : DocumentCursor) (r : ItemPoll) → is_some d.current ≡ there → CopiesIf (is_some d.current) d r → CopiesIf there d r
copies_ready there d r is h = subst (λ (b : Bool). CopiesIf b d r) is h
