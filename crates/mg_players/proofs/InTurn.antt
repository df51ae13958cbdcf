-- Replies that a call heard to the getMores of a cursor, one behind another: a poll for its next batch waits for a reply behind all of them, or brings it.
use Rattle.std.proofs.Common.{◌≡◌, ◌≢◌, ◌⊎◌, ◌<◌, ◌≤◌, ℕ, suc, ℤ, pos, Bool, true, false, List, [], ◌∷◌, ◌++◌, length, Option, Some, None, Ok, refl, sym, ap, ◌∙◌, subst, inl, inr, arith}
use Rattle.mg_bson.specs.Raw.{fields}
use Rattle.mg_server.specs.Calls.{Flies, Grows, HeardAt, IsOwn, Past, past_of}
use Rattle.mg_link.specs.Exec.{IsFirstTry, IsSuccess, Sending, Stage, first, second, ticket_at, ticket_of, unsent}
use Rattle.mg_link.specs.Link.{Awaited, LogTold, SendsNothing}
use Rattle.mg_link.specs.Log.{Call, reply}
use Rattle.mg_server.specs.Owner.{IsOf}
use Rattle.mg_link.specs.Session.{Session}
use Rattle.mg_link.specs.declared.action.Step.{Step}
use Rattle.mg_link.specs.declared.action.Step.TheVariants as came
use Rattle.mg_server.proofs.Calls.{same_keeps}
use Rattle.mg_exec.proofs.Execs.{runs_of}
use Rattle.mg_server.proofs.Owners.{same_some}
use Rattle.mg_server.proofs.Pasts.{heard_at_grows, heard_reply}
use Rattle.mg_link.proofs.Places.{get_within}
use Rattle.mg_ops.specs.Cursors.{Cursor, cursor_of}
use Rattle.mg_ops.specs.Failing.{FailsBy}
use Rattle.mg_cursor.specs.Batches.{documents_of}
use Rattle.mg_cursor.specs.Causes.{HeardMore, IsUnderway, MoreFails, NextCame, UnderwayBy}
use Rattle.mg_cursor.specs.Client.{ClientCursor, Doing, IsAsking, IsOver, IsSound, MayAsk, SoundBy, asks, at_rest, behind_reply, get_more, holds, reply_in, rests, ticket_by}
use Rattle.mg_cursor.specs.Polling as polling
use Rattle.mg_cursor.specs.Polling.{CannotAsk, Hears, PollsNext, RunsMore, begins, goes_on, hands_out, is_over, not_built}
use Rattle.mg_cursor.specs.declared.polls.NextPoll.{NextPoll}
use Rattle.mg_cursor.specs.declared.polls.NextPoll.TheVariants as next
use Rattle.mg_cursor.proofs.SeekCaused.{fails_grow}
use Rattle.mg_players.specs.Asking.{FliesLast}
use Rattle.mg_players.specs.InTurn.{AloneBehind, AreInTurn, HasSentAt, IsAwaitedAt, IsNextSent, NoneBehind, empty_by, empty_taken, empty_with, newest}
use Rattle.mg_players.proofs.GetNewest.{CameLast, Own, SentLast, ran_last}
use Rattle.mg_players.proofs.JustGrown.{GrowsJust, NoneElse, before_or}

-- ---- a later time

module _ (past past' : Past) (grows : Grows past past') where
  pub more_grows : (c : ClientCursor) (bytes : List ℕ) → HeardMore past c bytes → HeardMore past' c bytes
  more_grows c bytes h = record { session = h.session; heard = heard_reply past past' grows (get_more c h.session) bytes h.heard; success = h.success }

  next_grows : (last after : ℕ) → NoneElse past past' last → after < length past.calls → IsNextSent past last after → IsNextSent past' last after
  next_grows last after none within h = (h.0, λ place of less. by_end place of less (before_or place (length past.calls)))
    where
      by_end : (place : ℕ) → HasSentAt past' place → last < place → (place < length past.calls) ⊎ (length past.calls ≤ place) → after ≤ place
      by_end place of less (inl before) = h.1 place (none place less before of.0, before) less
      by_end place of less (inr behind) = omega (arith, within, behind)

  pub turn_behind : (c : ClientCursor) (last : ℕ) (replies : List (ℕ × List ℕ)) (c' : ClientCursor) → NoneElse past past' last → AreInTurn past c last replies c' → AreInTurn past' c last replies c'
  turn_behind c last [] c' none h = h
  turn_behind c last (x ∷ more) c' none h =
      let later : NoneElse past past' x.0 = λ place less within own. none place (let before = h.0.0 in omega (arith, less, before)) within own in
      (next_grows last x.0 none (get_within past.calls x.0 h.3.call h.3.there) h.0, h.1, h.2, heard_at_grows past past' grows x.0 (get_more c h.2) (reply x.1) (λ bad. cc) h.3, h.4, h.5, h.6, turn_behind (behind_reply h.5 c) x.0 more c' later h.7)

pub turn_grows : (past past' : Past) (just : GrowsJust past past') (c : ClientCursor) (last : ℕ) (replies : List (ℕ × List ℕ)) (c' : ClientCursor) → AreInTurn past c last replies c' → AreInTurn past' c last replies c'
turn_grows past past' just c last replies c' h = turn_behind past past' just.grows c last replies c' (λ place less within own. just.just place within own) h

-- ---- one more reply

pub heard_on : (past : Past) (c : ClientCursor) (last : ℕ) (replies : List (ℕ × List ℕ)) (at : ClientCursor) (place : ℕ) (bytes : List ℕ) (session : Option Session) (said : Cursor) → AreInTurn past c last replies at → IsNextSent past (newest last replies) place → at.id ≢ pos 0 → HeardAt past place (get_more at session) (reply bytes) → IsSuccess bytes → cursor_of (fields bytes) ≡ Ok said
    → AreInTurn past c last (replies ++ (place, bytes) ∷ []) (behind_reply said at)
heard_on past c last [] at place bytes session said is less held h success says =
    (less, subst (λ (x : ClientCursor). x.id ≢ pos 0) is held, session, subst (λ (x : ClientCursor). HeardAt past place (get_more x session) (reply bytes)) is h, success, said, says, ap (behind_reply said) is)
heard_on past c last (x ∷ more) at place bytes session said are less held h success says = (are.0, are.1, are.2, are.3, are.4, are.5, are.6, heard_on past (behind_reply are.5 c) x.0 more at place bytes session said are.7 less held h success says)

pub newest_on : (last : ℕ) (replies : List (ℕ × List ℕ)) (place : ℕ) (bytes : List ℕ) → newest last (replies ++ (place, bytes) ∷ []) ≡ place
newest_on last [] place bytes = refl
newest_on last (x ∷ more) place bytes = newest_on x.0 more place bytes

pub empty_on : (n : ℕ) (replies : List (ℕ × List ℕ)) (place : ℕ) (bytes : List ℕ) → empty_by n (replies ++ (place, bytes) ∷ []) ≡ empty_with (empty_by n replies) (documents_of bytes)
empty_on n [] place bytes = refl
empty_on n (x ∷ more) place bytes = empty_on (empty_with n (documents_of x.1)) more place bytes

-- all were taken where none is in hand
pub all_taken : (n : ℕ) (doing : Doing) → reply_in doing ≡ None → empty_taken doing n ≡ n
all_taken n rests none = refl
all_taken n (holds bytes) none = absurd (let bad : Some bytes ≡ None = none in cc)
all_taken n (asks sending) none = refl

-- ---- a poll

-- a cursor whose getMore waits
waits_by : (c c' : ClientCursor) (s : Step Sending (List ℕ)) → Hears c s c' next.Pending → (sending : Sending) × (c' ≡ record c { doing = asks sending })
waits_by c c' (came.Pending sending) h = (sending, h.0)
waits_by c c' (came.Done bytes) (polling.gave said says is answer) = absurd cc
waits_by c c' (came.Done bytes) (polling.broke e fails is answer) = absurd cc
waits_by c c' (came.Failed e) h = let bad = h.1 in absurd cc

pub pending_more : (old new : Awaited) (log log' : LogTold) (wire : ℤ) (started : Bool) (c c' : ClientCursor) → PollsNext old new log log' wire None started c c' next.Pending → (sending : Sending) × (c' ≡ record c { doing = asks sending }) × (reply_in c.doing ≡ None)
pending_more old new log log' wire started c c' (hands_out bytes at none same is answer) = absurd cc
pending_more old new log log' wire started c c' (is_over at over none same is answer) = absurd cc
pending_more old new log log' wire started c c' (not_built at may e fails none same is answer) = absurd cc
pending_more old new log log' wire started c c' (begins at may sending new_one runs) = let w = waits_by c c' runs.came runs.hears in (w.0, w.1, ap reply_in at)
pending_more old new log log' wire started c c' (goes_on sent at runs) = let w = waits_by c c' runs.came runs.hears in (w.0, w.1, ap reply_in at)

-- a cursor that has ended sends nothing, and stays
none_ends : (c c' : ClientCursor) (s : Step Sending (List ℕ)) → Hears c s c' next.End → ⊥
none_ends c c' (came.Pending sending) h = let bad = h.1 in cc
none_ends c c' (came.Done bytes) (polling.gave said says is answer) = cc
none_ends c c' (came.Done bytes) (polling.broke e fails is answer) = cc
none_ends c c' (came.Failed e) h = let bad = h.1 in cc

pub record HasEnded (old new : Awaited) (log log' : LogTold) (c c' : ClientCursor) : Type 0 where
  pub rested : c.doing ≡ rests
  pub over : IsOver c
  pub quiet : SendsNothing old new log log'
  pub same : c' ≡ c

pub end_came : (old new : Awaited) (log log' : LogTold) (wire : ℤ) (started : Bool) (c c' : ClientCursor) → PollsNext old new log log' wire None started c c' next.End → HasEnded old new log log' c c'
end_came old new log log' wire started c c' (hands_out bytes at none same is answer) = absurd cc
end_came old new log log' wire started c c' (is_over at over none same is answer) = record { rested = at; over = over; quiet = none; same = is }
end_came old new log log' wire started c c' (not_built at may e fails none same is answer) = absurd cc
end_came old new log log' wire started c c' (begins at may sending new_one runs) = absurd (none_ends c c' runs.came runs.hears)
end_came old new log log' wire started c c' (goes_on sending at runs) = absurd (none_ends c c' runs.came runs.hears)

-- where a batch came from: the reply in hand, or the one to its getMore
pub data BatchFrom (c c' : ClientCursor) (bytes : List ℕ) : Type 0 where
  from_hand : c.doing ≡ holds bytes → c' ≡ at_rest c → BatchFrom c c' bytes
  from_reply : reply_in c.doing ≡ None → MayAsk c → (said : Cursor) → cursor_of (fields bytes) ≡ Ok said → c' ≡ behind_reply said c → BatchFrom c c' bytes

batch_read : (c c' : ClientCursor) (s : Step Sending (List ℕ)) (bytes : List ℕ) → Hears c s c' (next.Batch bytes) → (said : Cursor) × (cursor_of (fields bytes) ≡ Ok said) × (c' ≡ behind_reply said c)
batch_read c c' (came.Pending sending) bytes h = let bad = h.1 in absurd cc
batch_read c c' (came.Done got) bytes (polling.gave said says is answer) = let same : got ≡ bytes = cc in (said, subst (λ (bs : List ℕ). cursor_of (fields bs) ≡ Ok said) same says, is)
batch_read c c' (came.Done got) bytes (polling.broke e fails is answer) = absurd cc
batch_read c c' (came.Failed e) bytes h = let bad = h.1 in absurd cc

pub batch_from : (old new : Awaited) (log log' : LogTold) (wire : ℤ) (started : Bool) (c c' : ClientCursor) (bytes : List ℕ) → IsSound true c → PollsNext old new log log' wire None started c c' (next.Batch bytes) → BatchFrom c c' bytes
batch_from old new log log' wire started c c' bytes sound (hands_out got at none same is answer) = let these : got ≡ bytes = cc in from_hand (at ∙ ap holds these) is
batch_from old new log log' wire started c c' bytes sound (is_over at over none same is answer) = absurd cc
batch_from old new log log' wire started c c' bytes sound (not_built at may e fails none same is answer) = absurd cc
batch_from old new log log' wire started c c' bytes sound (begins at may sending new_one runs) =
    let r = batch_read c c' runs.came bytes runs.hears in
    from_reply (ap reply_in at) may r.0 r.1 r.2
batch_from old new log log' wire started c c' bytes sound (goes_on sending at runs) =
    let r = batch_read c c' runs.came bytes runs.hears in
    let asking = subst (SoundBy true c) at sound in
    from_reply (ap reply_in at) asking.may r.0 r.1 r.2

-- ---- when its reply was heard

-- a reply to its getMore, which is the next command behind a place, and the last one
pub record HeardLater (past : Past) (c : ClientCursor) (bytes : List ℕ) (most : ℕ) : Type 0 where
  pub more : HeardMore past c bytes
  pub later : IsNextSent past most more.heard.place
  pub last : NoneBehind past more.heard.place

-- what a poll for the next batch came to, by when its reply was heard
abbrev pub NextLater : Awaited → Past → ClientCursor → ClientCursor → NextPoll → ℕ → Type 0
NextLater new past c c' next.Pending most = ((sending : Sending) (ticket place : ℕ) → c'.doing ≡ asks sending → ticket_of sending ≡ Some ticket → new ticket ≡ Some place → most < place) × AloneBehind new past c' most
NextLater new past c c' (next.Batch bytes) most = (c.doing ≡ holds bytes → NoneBehind past most) × ((c.doing ≡ holds bytes) ⊎ HeardLater past c bytes most)
NextLater new past c c' next.End most = Unit {0}
NextLater new past c c' (next.Failed e) most = FailsBy (CannotAsk c None) e ⊎ MoreFails past c e

-- the command that this poll waits for, if any, stands behind a place of the log
pub record IsNear (old : Awaited) (past : Past) (c : ClientCursor) (most : ℕ) : Type 0 where
  pub places : List ℕ
  pub own : (place : ℕ) → IsOf places place → IsOwn past place
  pub later : (place : ℕ) → IsOf places place → most < place
  pub awaited : (place : ℕ) → IsOf places place → IsAwaitedAt old c place
  pub within : (place : ℕ) → IsOf places place → place < length past.calls
  pub its : (place : ℕ) → IsAwaitedAt old c place → IsOf places place
  pub under : IsUnderway old (past_of places (length past.calls) past.calls past.wire) c

-- only one call goes with a ticket
one_awaited : (awaited : Awaited) (c : ClientCursor) (p q : ℕ) → IsAwaitedAt awaited c p → IsAwaitedAt awaited c q → p ≡ q
one_awaited awaited c p q a b =
    let one : Some a.ticket ≡ Some b.ticket = sym a.held ∙ ap ticket_by (sym a.asked ∙ b.asked) ∙ b.held in
    same_some p q (sym a.at ∙ ap awaited (same_some a.ticket b.ticket one) ∙ b.at)

module _ (old : Awaited) (past : Past) (c : ClientCursor) (most : ℕ) (waits : (sending : Sending) (ticket place : ℕ) → c.doing ≡ asks sending → ticket_of sending ≡ Some ticket → old ticket ≡ Some place → most < place) where
  abbrev Nowhere : Past
  Nowhere = past_of [] (length past.calls) past.calls past.wire

  near_none : ticket_by c.doing ≡ None → IsUnderway old Nowhere c → IsNear old past c most
  near_none none under = record {
    places = [];
    own = λ place is. absurd is;
    later = λ place is. absurd is;
    awaited = λ place is. absurd is;
    within = λ place is. absurd is;
    its = λ place a. absurd (let bad : None ≡ Some a.ticket = sym none ∙ ap ticket_by a.asked ∙ a.held in cc);
    under = under;
  }

  near_stage : (sending : Sending) → c.doing ≡ asks sending → (stage : Stage) → sending.stage ≡ stage → IsFirstTry stage → (session : Option Session) → fields sending.command ≡ get_more c session → Flies old past (get_more c session) stage → IsNear old past c most
  near_stage sending at unsent is try_one session command flies =
      near_none (ap ticket_by at ∙ ap ticket_at is) (subst (UnderwayBy old Nowhere c) (sym at) (record { session = session; command_is = command; flies = subst (Flies old Nowhere (get_more c session)) (sym is) tt }))
  near_stage sending at (first ticket) is try_one session command flies =
      let place : ℕ = flies.0 in
      let w = flies.1 in
      let here : Past = past_of (place ∷ []) (length past.calls) past.calls past.wire in
      let this : IsAwaitedAt old c place = record { sending = sending; ticket = ticket; asked = at; held = ap ticket_at is; at = w.at } in
      record {
        places = place ∷ [];
        own = λ other of. elim of [ inl same ↦ subst (IsOwn past) same w.own | inr none ↦ absurd none ];
        later = λ other of. elim of [ inl same ↦ subst (λ (n : ℕ). most < n) same (waits sending ticket place at (ap ticket_at is) w.at) | inr none ↦ absurd none ];
        awaited = λ other of. elim of [ inl same ↦ subst (IsAwaitedAt old c) same this | inr none ↦ absurd none ];
        within = λ other of. elim of [ inl same ↦ subst (λ (n : ℕ). n < length past.calls) same (get_within past.calls place w.call w.there) | inr none ↦ absurd none ];
        its = λ other a. inl (one_awaited old c place other this a);
        under = subst (UnderwayBy old here c) (sym at) (record { session = session; command_is = command; flies = subst (Flies old here (get_more c session)) (sym is) (place, record { at = w.at; own = inl (inl refl); call = w.call; there = w.there; command_is = w.command_is }) });
      }
  near_stage sending at (second ticket) is try_one session command flies = absurd try_one

  near_by : (doing : Doing) → c.doing ≡ doing → SoundBy true c doing → UnderwayBy old past c doing → IsNear old past c most
  near_by rests at sound under = near_none (ap ticket_by at) (subst (UnderwayBy old Nowhere c) (sym at) tt)
  near_by (holds bytes) at sound under = near_none (ap ticket_by at) (subst (UnderwayBy old Nowhere c) (sym at) tt)
  near_by (asks sending) at sound under = near_stage sending at sending.stage refl sound.waits_on.first_try under.session under.command_is under.flies

  pub near : IsSound true c → IsUnderway old past c → IsNear old past c most
  near sound under = near_by c.doing refl sound under

-- ---- what a poll sends

-- a getMore may be sent: none is on its way, and no reply is in hand
abbrev MaySend : Doing → Type 0
MaySend rests = Unit {0}
MaySend (holds bytes) = ⊥
MaySend (asks sending) = ticket_of sending ≡ None

-- A poll sent nothing, or a getMore where it might; and one that pends waits for a command that was near, or for that.
pub record SentOne (old new : Awaited) (c c' : ClientCursor) (calls calls' : List Call) (r : NextPoll) : Type 0 where
  pub grew : (length calls' ≡ length calls) ⊎ ((length calls' ≡ suc (length calls)) × MaySend c.doing)
  pub pends : r ≡ next.Pending → (place : ℕ) × IsAwaitedAt new c' place × (IsAwaitedAt old c place ⊎ ((length calls ≤ place) × (place < length calls')))

module _ (old new : Awaited) (past : Past) (log log' : LogTold) (wire : ℤ) (started : Bool) (c c' : ClientCursor) (r : NextPoll) (most : ℕ) (told : log ≡ Some past.calls) (near_so : IsNear old past c most) (calls' : List Call) (told' : log' ≡ Some calls') where
  abbrev Sent : Type 0
  Sent = SentOne old new c c' past.calls calls' r

  -- what stood in the log of what was near
  abbrev Its : ℕ → Type 0
  Its place = Own near_so.places (length past.calls) (length past.calls) place

  sent_none : SendsNothing old new log log' → (r ≡ next.Pending → ⊥) → Sent
  sent_none none over = record { grew = inl (ap length (same_some calls' past.calls (sym told' ∙ none.log_same ∙ told))); pends = λ is. absurd (over is) }

  sent_more : (sending : Sending) → sending.retries ≡ false → (MaySend c.doing × (sending.stage ≡ unsent)) ⊎ (c.doing ≡ asks sending) → RunsMore old new log log' wire started c sending c' r → Sent
  sent_more sending single begins_so h =
      let ran = ran_last near_so.places (length past.calls) near_so.within old new log log' wire sending h.came past.calls told (omega arith) (flies begins_so) (runs_of old new log log' wire sending h.came started h.runs) in
      let same : ran.calls' ≡ calls' = same_some ran.calls' calls' (sym ran.told ∙ told') in
      record {
        grew = elim (ran.once single) [
          | inl as_long ↦ inl (sym (ap length same) ∙ as_long)
          | inr once ↦ inr (sym (ap length same) ∙ once.long, may once.new_one begins_so)
        ];
        pends = by_poll h.came (subst (λ (l : List Call). CameLast new l (Own near_so.places (length past.calls) (length l)) h.came) same ran.came) h.hears;
      }
    where
      only : (place other : ℕ) → IsAwaitedAt old c place → Its other → other ≤ place
      only place other a (inl of) = let one = one_awaited old c other place (near_so.awaited other of) a in omega (arith, one)
      only place other a (inr range) = let low = range.0 in let high = range.1 in absurd (omega (arith, low, high))

      waits_at : (ticket place : ℕ) → c.doing ≡ asks sending → ticket_of sending ≡ Some ticket → old ticket ≡ Some place → FliesLast old Its (first ticket)
      waits_at ticket place at held awaits =
          let a : IsAwaitedAt old c place = record { sending = sending; ticket = ticket; asked = at; held = held; at = awaits } in
          record { place = place; at = awaits; its = inl (near_so.its place a); newest = λ other of. only place other a of }

      by_stage : (stage : Stage) → sending.stage ≡ stage → c.doing ≡ asks sending → UnderwayBy old (past_of near_so.places (length past.calls) past.calls past.wire) c (asks sending) → FliesLast old Its stage
      by_stage unsent is at u = tt
      by_stage (first ticket) is at u = let f = subst (Flies old (past_of near_so.places (length past.calls) past.calls past.wire) (get_more c u.session)) is u.flies in waits_at ticket f.0 at (ap ticket_at is) f.1.at
      by_stage (second ticket) is at u = let f = subst (Flies old (past_of near_so.places (length past.calls) past.calls past.wire) (get_more c u.session)) is u.flies in waits_at ticket f.0 at (ap ticket_at is) f.1.at

      flies : (MaySend c.doing × (sending.stage ≡ unsent)) ⊎ (c.doing ≡ asks sending) → FliesLast old Its sending.stage
      flies (inl begins_one) = subst (FliesLast old Its) (sym begins_one.1) tt
      flies (inr at) = by_stage sending.stage refl at (subst (UnderwayBy old (past_of near_so.places (length past.calls) past.calls past.wire) c) at near_so.under)

      may : sending.stage ≡ unsent → (MaySend c.doing × (sending.stage ≡ unsent)) ⊎ (c.doing ≡ asks sending) → MaySend c.doing
      may new_one (inl begins_one) = begins_one.0
      may new_one (inr at) = subst MaySend (sym at) (ap ticket_at new_one)

      behind_it : (s : Sending) → c'.doing ≡ asks s → (stage : Stage) → s.stage ≡ stage → SentLast new (Own near_so.places (length past.calls) (length calls')) stage → (place : ℕ) × IsAwaitedAt new c' place × (IsAwaitedAt old c place ⊎ ((length past.calls ≤ place) × (place < length calls')))
      behind_it s at unsent at_stage l = absurd l
      behind_it s at (first ticket) at_stage l = (l.place, record { sending = s; ticket = ticket; asked = at; held = ap ticket_at at_stage; at = l.at }, elim l.its [ inl of ↦ inl (near_so.awaited l.place of) | inr range ↦ inr range ])
      behind_it s at (second ticket) at_stage l = (l.place, record { sending = s; ticket = ticket; asked = at; held = ap ticket_at at_stage; at = l.at }, elim l.its [ inl of ↦ inl (near_so.awaited l.place of) | inr range ↦ inr range ])

      by_poll : (came_so : Step Sending (List ℕ)) → CameLast new calls' (Own near_so.places (length past.calls) (length calls')) came_so → Hears c came_so c' r → r ≡ next.Pending → (place : ℕ) × IsAwaitedAt new c' place × (IsAwaitedAt old c place ⊎ ((length past.calls ≤ place) × (place < length calls')))
      by_poll (came.Pending s) l h is = behind_it s (ap (λ (x : ClientCursor). x.doing) h.0) s.stage refl l
      by_poll (came.Done bytes) l (polling.gave said says at answer) is = absurd (let bad : next.Batch bytes ≡ next.Pending = sym answer ∙ is in cc)
      by_poll (came.Done bytes) l (polling.broke e fails at answer) is = absurd (let bad : next.Failed e ≡ next.Pending = sym answer ∙ is in cc)
      by_poll (came.Failed e) l h is = absurd (let bad : next.Failed e ≡ next.Pending = sym h.1 ∙ is in cc)

  pub sends_one : IsSound true c → PollsNext old new log log' wire None started c c' r → Sent
  sends_one sound (hands_out bytes at none unstarted is answer) = sent_none none (λ pends. let bad : next.Batch bytes ≡ next.Pending = sym answer ∙ pends in cc)
  sends_one sound (is_over at over none unstarted is answer) = sent_none none (λ pends. let bad : next.End ≡ next.Pending = sym answer ∙ pends in cc)
  sends_one sound (not_built at may e fails none unstarted is answer) = sent_none none (λ pends. let bad : next.Failed e ≡ next.Pending = sym answer ∙ pends in cc)
  sends_one sound (begins at may sending new_one h) = sent_more sending new_one.single (inl (subst MaySend (sym at) tt, new_one.new)) h
  sends_one sound (goes_on sending at h) = let asking : IsAsking true c sending = subst (SoundBy true c) at sound in sent_more sending asking.waits_on.single (inr at) h

-- ---- where it came to

module _ (old new : Awaited) (places : List ℕ) (since : ℕ) (calls calls' : List Call) (wire : ℤ) (room : since ≤ length calls) (c c' : ClientCursor) (r : NextPoll) (most : ℕ) (within : most < length calls) (near_so : IsNear old (past_of places since calls wire) c most) (alone : AloneBehind old (past_of places since calls wire) c most) (sent : SentOne old new c c' calls calls' r) where
  abbrev Here : Past
  Here = past_of near_so.places (length calls) calls' wire

  abbrev There : Past
  There = past_of places since calls' wire

  here_grows : Grows Here There
  here_grows = record { own = λ place call there is. wider place is; keeps = same_keeps calls'; wire = refl }
    where
      wider : (place : ℕ) → IsOwn Here place → IsOwn There place
      wider place (inl of) = near_so.own place of
      wider place (inr from) = inr (omega (arith, room, from))

  behind_most : (place : ℕ) → IsOwn Here place → most < place
  behind_most place (inl of) = near_so.later place of
  behind_most place (inr from) = omega (arith, within, from)

  -- what this poll waited for, or sent
  abbrev IsThis : ℕ → Type 0
  IsThis place = IsAwaitedAt old c place ⊎ ((length calls ≤ place) × (place < length calls'))

  none_sent : (place : ℕ) → IsAwaitedAt old c place → length calls' ≡ length calls
  none_sent place a = elim sent.grew [
    | inl same ↦ same
    | inr more ↦ absurd (let bad : Some a.ticket ≡ None = sym a.held ∙ subst MaySend a.asked more.1 in cc)
  ]

  at_end : (place : ℕ) → length calls ≤ place → place < length calls' → place ≡ length calls
  at_end place low high = elim sent.grew [ inl same ↦ absurd (omega (arith, same, low, high)) | inr more ↦ (let one = more.0 in omega (arith, one, low, high)) ]

  -- it is one command
  one_this : (p q : ℕ) → IsThis p → IsThis q → p ≡ q
  one_this p q (inl a) (inl b) = one_awaited old c p q a b
  one_this p q (inl a) (inr b) = let same = none_sent p a in let low = b.0 in let high = b.1 in absurd (omega (arith, same, low, high))
  one_this p q (inr a) (inl b) = let same = none_sent q b in let low = a.0 in let high = a.1 in absurd (omega (arith, same, low, high))
  one_this p q (inr a) (inr b) = at_end p a.0 a.1 ∙ sym (at_end q b.0 b.1)

  -- of the commands of the call only this one stands behind the place
  is_this : (place : ℕ) → HasSentAt There place → most < place → IsThis place
  is_this place of less = elim (before_or place (length calls)) [ inl before ↦ inl (alone place (of.0, before) less) | inr behind ↦ inr (behind, of.1) ]

  heard_this : (place : ℕ) → IsOwn Here place → place < length calls' → IsThis place
  heard_this place (inl of) high = inl (near_so.awaited place of)
  heard_this place (inr from) high = inr (from, high)

  waits_later : (session : Option Session) (stage : Stage) → Flies new Here (get_more c' session) stage → (ticket place : ℕ) → ticket_at stage ≡ Some ticket → new ticket ≡ Some place → most < place
  waits_later session unsent flies ticket place held at = absurd cc
  waits_later session (first t) flies ticket place held at =
      let same : t ≡ ticket = cc in
      let here : new t ≡ Some place = ap new same ∙ at in
      subst (λ (n : ℕ). most < n) (same_some flies.0 place (sym flies.1.at ∙ here)) (behind_most flies.0 flies.1.own)
  waits_later session (second t) flies ticket place held at =
      let same : t ≡ ticket = cc in
      let here : new t ≡ Some place = ap new same ∙ at in
      subst (λ (n : ℕ). most < n) (same_some flies.0 place (sym flies.1.at ∙ here)) (behind_most flies.0 flies.1.own)

  -- nothing stands behind it where a reply is in hand
  none_by_hand : (bytes : List ℕ) → c.doing ≡ holds bytes → NoneBehind There most
  none_by_hand bytes at place of = elim (before_or most place) [
    | inl less ↦ elim (is_this place of less) [
      | inl a ↦ absurd (let bad : holds bytes ≡ asks a.sending = sym at ∙ a.asked in cc)
      | inr range ↦ elim sent.grew [ inl same ↦ (let low = range.0 in let high = range.1 in absurd (omega (arith, same, low, high))) | inr more ↦ absurd (subst MaySend at more.1) ]
    ]
    | inr before ↦ before
  ]

  pub came_later : (p : NextPoll) → r ≡ p → NextCame new Here None c c' p → NextLater new There c c' p most
  came_later next.Pending answer h = (
    λ sending ticket place is held at. let f = subst (UnderwayBy new Here c') is h in waits_later f.session sending.stage f.flies ticket place held at,
    λ place of less. let w = sent.pends answer in subst (IsAwaitedAt new c') (one_this w.0 place w.2 (is_this place of less)) w.1,
  )
  came_later (next.Batch bytes) answer (inl at) = (none_by_hand bytes, inl at)
  came_later (next.Batch bytes) answer (inr h) =
      let behind = behind_most h.heard.place h.heard.heard.own in
      let this = heard_this h.heard.place h.heard.heard.own (get_within calls' h.heard.place h.heard.heard.call h.heard.heard.there) in (
        none_by_hand bytes,
        inr (record {
          more = record { session = h.session; heard = record { place = h.heard.place; heard = heard_at_grows Here There here_grows h.heard.place (get_more c h.session) (reply bytes) (λ bad. cc) h.heard.heard }; success = h.success };
          later = (behind, λ place of less. let same = one_this h.heard.place place this (is_this place of less) in omega (arith, same));
          last = λ place of. elim (before_or most place) [ inl less ↦ (let same = one_this place h.heard.place (is_this place of less) this in omega (arith, same)) | inr before ↦ omega (arith, before, behind) ];
        }),
      )
  came_later next.End answer h = tt
  came_later (next.Failed e) answer (inl cannot) = inl cannot
  came_later (next.Failed e) answer (inr failed) = inr (fails_grow Here There here_grows c e failed)
