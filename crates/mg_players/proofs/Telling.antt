-- What a follow tells goes on to hold, turn by turn.
use Rattle.std.proofs.Common.{◌≡◌, ◌⊎◌, ◌+◌, ◌≤◌, ℕ, zero, suc, ℤ, Bool, true, List, [], ◌∷◌, ◌++◌, length, Option, Some, None, refl, sym, ap, ◌∙◌, subst, inl, inr, arith, length-append}
use Rattle.std.specs.Prelude.{◌↔◌, IsSome, IsTrue, slice_get}
use Rattle.mg_bson.specs.Tree.{Fields, Tree}
use Rattle.mg_server.specs.Calls.{Grows, Keeps, Past, past_of, AddsOnly}
use Rattle.mg_link.specs.Exec.{Sending}
use Rattle.mg_link.specs.Link.{Awaited, LogTold}
use Rattle.mg_link.specs.Log.{Call}
use Rattle.mg_server.specs.Owner.{IsOf}
use Rattle.mg_link.specs.declared.action.Step.{Step}
use Rattle.mg_link.specs.declared.action.Step.TheVariants as step
use Rattle.mg_link.specs.declared.error.Error.{Error}
use Rattle.mg_link.specs.declared.error.ErrorKind.TheVariants as kind
use Rattle.mg_server.proofs.Calls.{keeps_longer}
use Rattle.mg_ops.specs.declared.change_stream.WatchArgs.{WatchArgs}
use Rattle.mg_change.specs.Causes.{CallCame, CallCaused, Called, SoFar}
use Rattle.mg_change.specs.ClientOpenings.{ClientOpening, OpensStream, first_aggregate}
use Rattle.mg_change.specs.ClientStreams.{ClientStream, IsAlive, IsBetween, IsSound, resuming_in, stream_ticket, stream_token}
use Rattle.mg_change.specs.ClosingCauses.{LastSoFar}
use Rattle.mg_change.specs.ClosingStreams.{ClosesStream, ClosingStream, closed_stream, handed_over}
use Rattle.mg_change.specs.OpeningCauses.{StreamOpened, OpeningCaused, OpeningFails, OpensSoFar}
use Rattle.mg_change.specs.OpeningView.{IsPlainOpening, opening_of}
use Rattle.mg_change.specs.StreamCalls.{CallCopies}
use Rattle.mg_change.specs.StreamView.{IsPlainStream, stream_of}
use Rattle.mg_change.specs.declared.event_poll.EventPoll.{EventPoll}
use Rattle.mg_change.specs.declared.event_poll.EventPoll.TheVariants as polls
use Rattle.mg_change.specs.declared.opening.Opening.{Opening}
use Rattle.mg_change.specs.declared.stream.ChangeStream.{ChangeStream}
use Rattle.mg_change.proofs.ClosingCauses.{LastCame, last_closes, last_done_grows, last_fails_grows, last_grows}
use Rattle.mg_change.proofs.OpeningCauses.{opened_grows, opening_fails_grows, opens_grows}
use Rattle.mg_change.proofs.Resting.{opening_args}
use Rattle.mg_change.specs.Calling.{CallSends, OpensFar}
use Rattle.mg_players.specs.Causes.{Answered, ClosedBy, FallsAt, KillsLast, sent_at, sent_since}
use Rattle.mg_players.specs.Sends.{IsCommandOf}
use Rattle.mg_players.specs.Follows.{HasGiven, Placing, poll_of, same_place}
use Rattle.mg_players.specs.Playing.{stage_ticket}
use Rattle.mg_players.specs.Plays.{Extends, IsNow, Places, all_places}
use Rattle.mg_players.specs.Telling.{FollowTells, IsOpened, IsWatchArgs, Kept, RestTells, SendsSoFar, Tell, Tells, TellsEnd, TellsFailed, TellsOpen, landing_places, number}
use Rattle.mg_script.specs.declared.outcome.Answer.{Answer}
use Rattle.mg_script.specs.declared.outcome.Answer.TheVariants as answers
use Rattle.mg_script.specs.declared.outcome.Ended.{Ended}
use Rattle.mg_script.specs.declared.outcome.Ended.TheVariants as ended
use Rattle.mg_players.specs.declared.follow.Stage.{Stage}
use Rattle.mg_players.specs.declared.follow.Stage.TheVariants as stage
use Rattle.mg_players.specs.declared.follow.Watched.{Watched}
use Rattle.mg_server.proofs.Adding.{adds_none, adds_on}
use Rattle.mg_change.proofs.Calling.{BehindOpening, begins_sent, opening_sends, opens_far_later, request_later, sends_later, sent_later}
use Rattle.mg_change.proofs.CallSends.{BehindPoll, poll_sends}
use Rattle.mg_players.proofs.Commands.{falls_later, falls_more, falls_none}
use Rattle.mg_players.proofs.Fallings.{closing_falls, closing_left, kill_of}
pub use Rattle.mg_change.proofs.Grown.{from_is, grows_ended, grows_later, in_either, in_first, in_second, is_since, since_is}
use Rattle.mg_players.proofs.Lasting.{Lasts}
use Rattle.mg_players.proofs.Later.{begins, called_grows, last_begins, so_far_grows}
use Rattle.mg_players.proofs.Left.{landing_few}
use Rattle.mg_turns.proofs.OwnTickets.{none_is_not}
use Rattle.mg_players.proofs.Sending.{calls_such, closing_such, opening_such}
use Rattle.mg_players.proofs.Sends.{for_answered, for_opened, for_so_far, such_adds}
use Rattle.mg_players.proofs.Whole.{only_now, since_on, whole_answered, whole_going, whole_opened, whole_same}

-- ---- answered calls

pub answered_later : (calls calls' : List Call) (wire : ℤ) → Keeps calls calls' → (owns : List (List ℕ)) (said : List Answer) (first last : ClientStream) → Answered calls wire first owns said last → Answered calls' wire first owns said last
answered_later calls calls' wire keeps [] [] first last a = a
answered_later calls calls' wire keeps (places ∷ owns) (answer ∷ said) first last a =
    (a.0, called_grows (sent_at places calls wire) (sent_at places calls' wire) (grows_later places calls calls' wire keeps) None first a.0 (poll_of answer) a.1, answered_later calls calls' wire keeps owns said a.0 last a.2, sends_later calls calls' wire keeps first places a.3)
answered_later calls calls' wire keeps [] (answer ∷ said) first last a = absurd a
answered_later calls calls' wire keeps (places ∷ owns) [] first last a = absurd a

answered_more : (calls : List Call) (wire : ℤ) (owns : List (List ℕ)) (said : List Answer) (first mid last : ClientStream) (places : List ℕ) (answer : Answer) → Answered calls wire first owns said mid → Called (sent_at places calls wire) None mid last (poll_of answer) → CallSends calls wire mid places → Answered calls wire first (owns ++ places ∷ []) (said ++ answer ∷ []) last
answered_more calls wire [] [] first mid last places answer a called sends =
    (last, subst (λ (x : ClientStream). Called (sent_at places calls wire) None x last (poll_of answer)) a called, refl, subst (λ (x : ClientStream). CallSends calls wire x places) a sends)
answered_more calls wire (own ∷ owns) (other ∷ said) first mid last places answer a called sends = (a.0, a.1, answered_more calls wire owns said a.0 mid last places answer a.2 called sends, a.3)
answered_more calls wire [] (other ∷ said) first mid last places answer a called sends = absurd a
answered_more calls wire (own ∷ owns) [] first mid last places answer a called sends = absurd a

answered_count : (calls : List Call) (wire : ℤ) (owns : List (List ℕ)) (said : List Answer) (first last : ClientStream) → Answered calls wire first owns said last → length owns ≡ length said
answered_count calls wire [] [] first last a = refl
answered_count calls wire (own ∷ owns) (answer ∷ said) first last a = ap suc (answered_count calls wire owns said a.0 last a.2)
answered_count calls wire [] (answer ∷ said) first last a = absurd a
answered_count calls wire (own ∷ owns) [] first last a = absurd a

-- ---- what others do

open_later : (calls calls' : List Call) (wire : ℤ) (opened : List ℕ) (owns : List (List ℕ)) (v : Watched) (o : Ended (Unit {0})) (said : List Answer) (alive : Bool) (last : ClientStream) (at : Option ℕ) → Keeps calls calls' → TellsOpen calls wire opened owns v o said alive last at → TellsOpen calls' wire opened owns v o said alive last at
open_later calls calls' wire opened owns v o said alive last at keeps t =
    record {
      given = t.given;
      args = t.args;
      args_are = t.args_are;
      first = t.first;
      opened = opened_grows (sent_at opened calls wire) (sent_at opened calls' wire) (grows_later opened calls calls' wire keeps) t.args t.first t.opened;
      here = t.here;
      opens = request_later calls calls' keeps (resuming_in (first_aggregate t.args) wire None) true opened t.opens;
      answered = answered_later calls calls' wire keeps owns said t.first last t.answered;
      alive_is = t.alive_is;
    }

closed_by_later : {A : Type 0} (past past' : Past) (last : ClientStream) (closed : Ended A) → Grows past past' → ClosedBy past last closed → ClosedBy past' last closed
closed_by_later past past' last ended.Unfinished grows c = absurd c
closed_by_later past past' last (ended.Gave x) grows c = last_done_grows past past' grows last c
closed_by_later past past' last (ended.Failed e) grows c = last_fails_grows past past' grows last e c

end_later : {A : Type 0} (calls calls' : List Call) (wire : ℤ) (q : Places) (k : Kept) (at : Option ℕ) (o : Ended A) → Keeps calls calls' → TellsEnd calls wire q k at o → TellsEnd calls' wire q k at o
end_later calls calls' wire q k at ended.Unfinished keeps t = tt
end_later calls calls' wire q k at (ended.Gave x) keeps t =
    (t.0, open_later calls calls' wire q.opened q.owns k.watched k.opened k.said k.alive t.0 at keeps t.1, t.2, closed_by_later (sent_at q.now calls wire) (sent_at q.now calls' wire) t.0 k.closed (grows_later q.now calls calls' wire keeps) t.3, falls_later (KillsLast t.0) calls calls' 1 q.now 0 keeps t.4)
end_later calls calls' wire q k at (ended.Failed e) keeps (inl room) = inl room
end_later calls calls' wire q k at (ended.Failed e) keeps (inr t) =
    let fails = opening_fails_grows (sent_at q.opened calls wire) (sent_at q.opened calls' wire) (grows_later q.opened calls calls' wire keeps) t.0.args None e t.0.fails in
    inr (record { args = t.0.args; args_are = t.0.args_are; fails = fails; opens = request_later calls calls' keeps (resuming_in (first_aggregate t.0.args) wire None) true q.opened t.0.opens }, t.1, t.2)

-- Where its own ticket goes with the same call, a follow tells in a later log what it told.
pub tells_later : (old new : Awaited) (calls calls' : List Call) (wire : ℤ) (q : Places) (s : Stage) (k : Kept) (at : Option ℕ) → Keeps calls calls' → ((m : ℕ) → stage_ticket s ≡ Some m → new m ≡ old m) → Tells old calls wire q s k at → Tells new calls' wire q s k at
tells_later old new calls calls' wire q stage.Unopened k at keeps same t = t
tells_later old new calls calls' wire q (stage.Opens opening) k at keeps same t = (
  t.0,
  t.1,
  t.2,
  opens_grows (sent_at q.now calls wire) (sent_at q.now calls' wire) (grows_later q.now calls calls' wire keeps) (opening_of opening).args old new (opening_of opening).sending same t.3,
  opens_far_later calls calls' keeps wire old new (opening_of opening).args (opening_of opening).sending q.now same t.4,
)
tells_later old new calls calls' wire q (stage.Open stream) k at keeps same t = (
  t.0,
  open_later calls calls' wire q.opened q.owns k.watched k.opened k.said k.alive t.0 at keeps t.1,
  so_far_grows (sent_at q.now calls wire) (sent_at q.now calls' wire) (grows_later q.now calls calls' wire keeps) old new t.0 (stream_of stream) same t.2,
  t.3,
  record { sent = sent_later calls calls' wire keeps t.0 old new q.now (stream_of stream).cursor (stream_of stream).doing same t.4.sent; rests = t.4.rests },
)
tells_later old new calls calls' wire q (stage.Closes closing) k at keeps same t = (
  t.0,
  open_later calls calls' wire q.opened q.owns k.watched k.opened k.said k.alive t.0 at keeps t.1,
  t.2,
  last_grows (sent_at q.now calls wire) (sent_at q.now calls' wire) (grows_later q.now calls calls' wire keeps) t.0 old new closing same t.3,
  falls_later (KillsLast t.0) calls calls' 1 q.now (landing_places closing.doing) keeps t.4,
)
tells_later old new calls calls' wire q stage.Ended k at keeps same t = end_later calls calls' wire q k at k.opened keeps t

-- ---- parts of turns

now_on : (q q' : Places) (from mid upto place : ℕ) → from ≤ mid → mid ≤ upto → ((p : ℕ) → IsOf q'.now p → IsNow q from mid p) → IsNow q' mid upto place → IsNow q from upto place
now_on q q' from mid upto place room room' first now =
    elim now [
      | inl of ↦ elim (first place of) [ inl before ↦ inl before | inr range ↦ let low = range.0 in let high = range.1 in inr (low, omega (arith, high, room')) ]
      | inr range ↦ let low = range.0 in let high = range.1 in inr (omega (arith, low, room), high)
    ]

now_wider : (q : Places) (from mid upto place : ℕ) → mid ≤ upto → IsNow q from mid place → IsNow q from upto place
now_wider q from mid upto place room now = elim now [ inl of ↦ inl of | inr range ↦ let low = range.0 in let high = range.1 in inr (low, omega (arith, high, room)) ]

extends_on : (q q' q'' : Places) (n n'' from mid upto : ℕ) → from ≤ mid → mid ≤ upto → Extends q q' n n from mid → Extends q' q'' n n'' mid upto → Extends q q'' n n'' from upto
extends_on q q' q'' n n'' from mid upto room room' a b =
    let first : (p : ℕ) → IsOf q'.now p → IsNow q from mid p = λ p of. (a.now p of).1 in
    record {
      opened = λ place of. elim (b.opened place of) [
        | inl before ↦ elim (a.opened place before) [ inl sooner ↦ inl sooner | inr now ↦ inr (now.0, now_wider q from mid upto place room' now.1) ]
        | inr now ↦ inr (now.0, now_on q q' from mid upto place room room' first now.1)
      ];
      owns = λ k own there. elim (b.owns k own there) [
        | inl before ↦ elim (a.owns k own before) [ inl sooner ↦ inl sooner | inr now ↦ inr (now.0, λ place of. now_wider q from mid upto place room' (now.1 place of)) ]
        | inr now ↦ inr (now.0, λ place of. now_on q q' from mid upto place room room' first (now.1 place of))
      ];
      now = λ place of. let r = b.now place of in (r.0, now_on q q' from mid upto place room room' first r.1);
      whole = b.whole ∙ ap (λ (l : List ℕ). sent_since l mid upto) a.whole ∙ since_on (all_places q) from mid upto room room';
    }

-- the rest of a turn behind a part of it
tell_on : (new : Awaited) (begun mid calls : List Call) (wire : ℤ) (v : Watched) (q q' : Places) (n : ℕ) (s : Stage) (k : Kept) (at : Option ℕ) → length begun ≤ length mid → Extends q q' n n (length begun) (length mid) → AddsOnly (IsCommandOf (IsWatchArgs v)) begun mid → Tell new mid calls wire v q' n s k at → Tell new begun calls wire v q n s k at
tell_on new begun mid calls wire v q q' n s k at room extends adds t =
    record {
      longer = let more = t.longer in omega (arith, more, room);
      places = t.places;
      tells = t.tells;
      extends = extends_on q q' t.places n (number s k) (length begun) (length mid) (length calls) room t.longer extends t.extends;
      adds = adds_on (IsCommandOf (IsWatchArgs v)) begun mid calls adds t.adds;
    }

-- nothing was sent, and what goes on does so
pub extends_same : (q : Places) (n n' from : ℕ) → n' ≡ n → Extends q q n n' from from
extends_same q n n' from same = record { opened = λ place of. inl of; owns = λ k own there. inl there; now = λ place of. (same, inl of); whole = whole_same q from }

-- nothing goes on
pub extends_rest : (q : Places) (n n' from : ℕ) → q.now ≡ [] → Extends q q n n' from from
extends_rest q n n' from none = record { opened = λ place of. inl of; owns = λ k own there. inl there; now = λ place of. absurd (subst (λ (l : List ℕ). IsOf l place) none of); whole = whole_same q from }

-- what goes on sent more
abbrev pub going_on : Places → ℕ → ℕ → Places
going_on q from upto = record q { now = sent_since q.now from upto }

pub extends_going : (q : Places) (n n' from upto : ℕ) → n' ≡ n → from ≤ upto → Extends q (going_on q from upto) n n' from upto
extends_going q n n' from upto same room = record { opened = λ place of. inl of; owns = λ k own there. inl there; now = λ place of. (same, since_is q.now from upto place room of); whole = whole_going q from upto }

-- the opening has ended
abbrev pub opened_by : Places → ℕ → ℕ → Places
opened_by q from upto = record { opened = sent_since q.now from upto; owns = []; now = [] }

pub extends_opened : (q : Places) (n n' from upto : ℕ) → n ≡ 0 → q.opened ≡ [] → q.owns ≡ [] → from ≤ upto → Extends q (opened_by q from upto) n n' from upto
extends_opened q n n' from upto first opens none room =
    record { opened = λ place of. inr (first, since_is q.now from upto place room of); owns = λ k own there. absurd cc; now = λ place of. absurd of; whole = whole_opened q from upto opens none }

-- a call has ended
abbrev pub answered_by : Places → ℕ → ℕ → Places
answered_by q from upto = record { opened = q.opened; owns = q.owns ++ sent_since q.now from upto ∷ []; now = [] }

get_last : {A : Type 0} (xs : List A) (y : A) (i : ℕ) (x : A) → slice_get (xs ++ y ∷ []) i ≡ Some x → (slice_get xs i ≡ Some x) ⊎ ((i ≡ length xs) × (y ≡ x))
get_last [] y zero x h = inr (refl, cc)
get_last [] y (suc i) x h = absurd cc
get_last (z ∷ xs) y zero x h = inl h
get_last (z ∷ xs) y (suc i) x h = elim (get_last xs y i x h) [ inl before ↦ inl before | inr last ↦ inr (ap suc last.0, last.1) ]

pub extends_answered : (q : Places) (n n' from upto : ℕ) → n ≡ suc (length q.owns) → from ≤ upto → Extends q (answered_by q from upto) n n' from upto
extends_answered q n n' from upto count room =
    record {
      opened = λ place of. inl of;
      owns = λ k own there. elim (get_last q.owns (sent_since q.now from upto) k own there) [
        | inl before ↦ inl before
        | inr last ↦ inr (ap suc last.0 ∙ sym count, λ place of. since_is q.now from upto place room (subst (λ (l : List ℕ). IsOf l place) (sym last.1) of))
      ];
      now = λ place of. absurd of;
      whole = whole_answered q from upto;
    }

-- ---- the arms of a turn

pub same_told : (log : LogTold) (calls calls' : List Call) → log ≡ Some calls → log ≡ Some calls' → calls ≡ calls'
same_told log calls calls' told told' = let e : Some calls ≡ Some calls' = sym told ∙ told' in cc

-- the same log behind a poll by another name
pub keeps_to : (log' : LogTold) (calls mid calls' : List Call) → log' ≡ Some mid → log' ≡ Some calls' → Keeps calls mid → Keeps calls calls'
keeps_to log' calls mid calls' told told' keeps = subst (λ (c : List Call). Keeps calls c) (same_told log' mid calls' told told') keeps

-- nothing was sent
tell_same : (awaited : Awaited) (log : LogTold) (wire : ℤ) (calls calls' : List Call) → log ≡ Some calls → log ≡ Some calls' → (q : Places) (n : ℕ) (s : Stage) (k : Kept) (at : Option ℕ) (v : Watched) → Tells awaited calls wire q s k at → Extends q q n (number s k) (length calls) (length calls) → Tell awaited calls calls' wire v q n s k at
tell_same awaited log wire calls calls' told told' q n s k at v t extends =
    subst (λ (c : List Call). Tell awaited calls c wire v q n s k at) (same_told log calls calls' told told') (record { longer = omega arith; places = q; tells = t; extends = extends; adds = adds_none (IsCommandOf (IsWatchArgs v)) calls })

pub tells_same : (awaited : Awaited) (log : LogTold) (wire : ℤ) (s : Stage) (k : Kept) → FollowTells awaited awaited log log wire s k s k same_place
tells_same awaited log wire s k calls calls' told told' q at t = tell_same awaited log wire calls calls' told told' q (number s k) s k at k.watched t (extends_same q (number s k) (number s k) (length calls) refl)

-- the same stage by another name
pub tells_at : (old new : Awaited) (log log' : LogTold) (wire : ℤ) (s s0 : Stage) (k : Kept) (s' s1 : Stage) (k' : Kept) (next : Placing) → s ≡ s0 → s1 ≡ s' → FollowTells old new log log' wire s k s' k' next → FollowTells old new log log' wire s0 k s1 k' next
tells_at old new log log' wire s s0 k s' s1 k' next from to told = subst (λ (x : Stage). FollowTells old new log log' wire s0 k x k' next) (sym to) (subst (λ (x : Stage). FollowTells old new log log' wire x k s' k' next) from told)

-- the same wire version by another name
pub tells_over : (old new : Awaited) (log log' : LogTold) (wire wire' : ℤ) (s : Stage) (k : Kept) (s' : Stage) (k' : Kept) (next : Placing) → wire' ≡ wire → FollowTells old new log log' wire s k s' k' next → FollowTells old new log log' wire' s k s' k' next
tells_over old new log log' wire wire' s k s' k' next same told = subst (λ (w : ℤ). FollowTells old new log log' w s k s' k' next) (sym same) told

-- what goes on has sent nothing
none_now : (may : ℕ → Fields → Type 0) (calls : List Call) (n : ℕ) (q : Places) (m : ℕ) → q.now ≡ [] → m ≤ n → FallsAt may calls n q.now m
none_now may calls n q m none less = subst (λ (l : List ℕ). FallsAt may calls n l m) (sym none) (falls_none may calls n m less)

-- The opening begins.
pub begin_tells : (old new : Awaited) (log log' : LogTold) (wire : ℤ) (k : Kept) (opening : Opening Fields) (s' : Stage) (k' : Kept) (next : Placing) → IsWatchArgs k.watched (opening_of opening).args → IsPlainOpening opening → (opening_of opening).sending ≡ None
    → FollowTells old new log log' wire (stage.Opens opening) k s' k' next → FollowTells old new log log' wire stage.Unopened k s' k' next
begin_tells old new log log' wire k opening s' k' next args sound unsent rest calls calls' told told' q at t =
    rest calls calls' told told' q at (
      t.0,
      args,
      sound,
      subst (λ (x : Option Sending). OpensSoFar old (sent_at q.now calls wire) (opening_of opening).args x) (sym unsent) tt,
      subst (λ (x : Option Sending). OpensFar old calls wire (opening_of opening).args x q.now) (sym unsent) t.1,
    )

-- Memory ran out before it.
pub begin_fails : (awaited : Awaited) (log : LogTold) (wire : ℤ) (k k' : Kept) (e : Error) → k'.opened ≡ ended.Failed e → e.kind ≡ kind.OutOfMemory → FollowTells awaited awaited log log wire stage.Unopened k stage.Ended k' same_place
begin_fails awaited log wire k k' e failed room calls calls' told told' q at t =
    tell_same awaited log wire calls calls' told told' q 0 stage.Ended k' at k.watched (subst (λ (o : Ended (Unit {0})). TellsEnd calls wire q k' at o) (sym failed) (inl (room, only_now q t.0.2 t.0.0 ∙ t.1))) (extends_rest q 0 (length k'.said) (length calls) t.1)

-- what a poll of an opening does, and what it comes to
abbrev pub Opens : Awaited → Awaited → LogTold → LogTold → ℤ → Opening Fields → Step ClientOpening ClientStream → Type 0
Opens old new log log' wire opening r = IsPlainOpening opening → (started : Bool) × OpensStream old new log log' wire None started (opening_of opening) r

abbrev pub OpensSo : Awaited → Awaited → LogTold → LogTold → ℤ → Opening Fields → Step ClientOpening ClientStream → Type 0
OpensSo old new log log' wire opening r = IsPlainOpening opening → OpeningCaused old new log log' wire None (opening_of opening) r

opening_adds : (are_its : WatchArgs → Type 0) (old new : Awaited) (log log' : LogTold) (wire : ℤ) (opening : Opening Fields) (r : Step ClientOpening ClientStream) (calls calls' : List Call) → are_its (opening_of opening).args → IsPlainOpening opening → Opens old new log log' wire opening r → log ≡ Some calls → log' ≡ Some calls' → Keeps calls calls' → AddsOnly (IsCommandOf are_its) calls calls'
opening_adds are_its old new log log' wire opening r calls calls' its sound opens told told' keeps =
    let does = opens sound in
    such_adds are_its log log' calls calls' told told' keeps (opening_such are_its old new log log' wire does.0 (opening_of opening) r its sound.sound does.1)

-- with what it had sent before
opening_goes : (old new : Awaited) (log log' : LogTold) (wire : ℤ) (opening : Opening Fields) (r : Step ClientOpening ClientStream) (calls calls' : List Call) (own : List ℕ) → log ≡ Some calls → log' ≡ Some calls' → IsPlainOpening opening → Opens old new log log' wire opening r
    → OpensFar old calls wire (opening_of opening).args (opening_of opening).sending own → BehindOpening new calls' wire (opening_of opening).args (sent_since own (length calls) (length calls')) r
opening_goes old new log log' wire opening r calls calls' own told told' sound opens far =
    let does = opens sound in
    opening_sends old new log log' wire does.0 (opening_of opening) r own calls calls' told told' sound.sound does.1 far

-- The reply to the opening pends.
pub open_waits_tells : (old new : Awaited) (log log' : LogTold) (wire : ℤ) (k : Kept) (opening opening' : Opening Fields) → (IsPlainOpening opening → IsPlainOpening opening')
    → Opens old new log log' wire opening (step.Pending (opening_of opening')) → OpensSo old new log log' wire opening (step.Pending (opening_of opening'))
    → FollowTells old new log log' wire (stage.Opens opening) k (stage.Opens opening') k same_place
open_waits_tells old new log log' wire k opening opening' sound opens caused calls calls' told told' q at t =
    let o = opening_of opening in
    let o' = opening_of opening' in
    let r = caused t.2 calls told q.now t.3 in
    let keeps = keeps_to log' calls r.0 calls' r.1 told' r.2 in
    let room = keeps_longer calls calls' keeps in
    let came : OpensSoFar new (past_of q.now (length calls) calls' wire) o.args o'.sending = subst (λ (c : List Call). OpensSoFar new (past_of q.now (length calls) c wire) o.args o'.sending) (same_told log' r.0 calls' r.1 told') r.3 in
    let args : o'.args ≡ o.args = opening_args old new log log' wire None (opens t.2).0 o (step.Pending o') (opens t.2).1 o' refl in
    let later = sent_at (sent_since q.now (length calls) (length calls')) calls' wire in
    record {
      longer = room;
      places = going_on q (length calls) (length calls');
      tells = (
        t.0,
        subst (λ (a : WatchArgs). IsWatchArgs k.watched a) (sym args) t.1,
        sound t.2,
        subst (λ (a : WatchArgs). OpensSoFar new later a o'.sending) (sym args)
            (opens_grows (past_of q.now (length calls) calls' wire) later (grows_ended q.now (length calls) calls' wire) o.args new new o'.sending (λ m e. refl) came),
        subst (λ (a : WatchArgs). OpensFar new calls' wire a o'.sending (sent_since q.now (length calls) (length calls'))) (sym args)
            (opening_goes old new log log' wire opening (step.Pending o') calls calls' q.now told told' t.2 opens t.4),
      );
      extends = extends_going q 0 0 (length calls) (length calls') refl room;
      adds = opening_adds (IsWatchArgs k.watched) old new log log' wire opening (step.Pending o') calls calls' t.1 t.2 opens told told' keeps;
    }

-- It failed.
pub open_fails_tells : (old new : Awaited) (log log' : LogTold) (wire : ℤ) (k k' : Kept) (opening : Opening Fields) (e : Error) → k'.watched ≡ k.watched → k'.opened ≡ ended.Failed e
    → Opens old new log log' wire opening (step.Failed e) → OpensSo old new log log' wire opening (step.Failed e)
    → FollowTells old new log log' wire (stage.Opens opening) k stage.Ended k' same_place
open_fails_tells old new log log' wire k k' opening e watched failed opens caused calls calls' told told' q at t =
    let args_of = (opening_of opening).args in
    let r = caused t.2 calls told q.now t.3 in
    let keeps = keeps_to log' calls r.0 calls' r.1 told' r.2 in
    let room = keeps_longer calls calls' keeps in
    let fails : OpeningFails (past_of q.now (length calls) calls' wire) None args_of e = subst (λ (c : List Call). OpeningFails (past_of q.now (length calls) c wire) None args_of e) (same_told log' r.0 calls' r.1 told') r.3 in
    let q' = opened_by q (length calls) (length calls') in
    let so : TellsFailed calls' wire q'.opened k'.watched e = record {
      args = args_of;
      args_are = subst (λ (v : Watched). IsWatchArgs v args_of) (sym watched) t.1;
      fails = opening_fails_grows (past_of q.now (length calls) calls' wire) (sent_at q'.opened calls' wire) (grows_ended q.now (length calls) calls' wire) args_of None e fails;
      opens = opening_goes old new log log' wire opening (step.Failed e) calls calls' q.now told told' t.2 opens t.4;
    } in
    record {
      longer = room;
      places = q';
      tells = subst (λ (o : Ended (Unit {0})). TellsEnd calls' wire q' k' at o) (sym failed) (inr (so, refl, refl));
      extends = extends_opened q 0 (length k'.said) (length calls) (length calls') refl t.0.2 t.0.0 room;
      adds = opening_adds (IsWatchArgs k.watched) old new log log' wire opening (step.Failed e) calls calls' t.1 t.2 opens told told' keeps;
    }

-- what a stream says of itself, by how it stands
abbrev pub SaysAlive : Bool → ClientStream → Type 0
SaysAlive alive s = IsTrue alive ↔ IsAlive s

-- the opening heard its reply at this place
abbrev HeardAtPlace : LogTold → LogTold → Awaited → ℤ → ClientOpening → ClientStream → Option ℕ → Type 0
HeardAtPlace log log' old wire o first place = (calls : List Call) → log ≡ Some calls → (places : List ℕ) → OpensSoFar old (past_of places (length calls) calls wire) o.args o.sending
    → (calls' : List Call) × (log' ≡ Some calls') × (opened : StreamOpened (past_of places (length calls) calls' wire) o.args first) × (place ≡ Some opened.heard.place)

-- The stream is open; the rest of the turn follows.
pub open_done_tells : (old mid new : Awaited) (log log_mid log' : LogTold) (wire wire_mid : ℤ) (k k1 : Kept) (opening : Opening Fields) (stream : ChangeStream Fields) (s' : Stage) (k' : Kept) → RestTells new log_mid log' wire_mid (stream_of stream) k1 s' k' → k1.watched ≡ k.watched → HasGiven k1.opened → k1.said ≡ k.said → SaysAlive k1.alive (stream_of stream) → wire_mid ≡ wire
    → Opens old mid log log_mid wire opening (step.Done (stream_of stream)) → OpensSo old mid log log_mid wire opening (step.Done (stream_of stream)) → (place : Option ℕ) → (IsPlainOpening opening → HeardAtPlace log log_mid old wire (opening_of opening) (stream_of stream) place)
    → FollowTells old new log log' wire (stage.Opens opening) k s' k' (λ at. place)
open_done_tells old mid new log log_mid log' wire wire_mid k k1 opening stream s' k' rest watched given said alive same opens caused place heard calls calls' told told' q at t =
    let args_of = (opening_of opening).args in
    let s = stream_of stream in
    let r = heard t.2 calls told q.now t.3 in
    let c = caused t.2 calls told q.now t.3 in
    let keeps = keeps_to log_mid calls c.0 r.0 c.1 r.1 c.2 in
    let room = keeps_longer calls r.0 keeps in
    let q1 = opened_by q (length calls) (length r.0) in
    let none : k1.said ≡ [] = said ∙ t.0.1 in
    let opened : TellsOpen r.0 wire q1.opened [] k1.watched k1.opened k1.said k1.alive s place = record {
      given = given;
      args = args_of;
      args_are = subst (λ (v : Watched). IsWatchArgs v args_of) (sym watched) t.1;
      first = s;
      opened = opened_grows (past_of q.now (length calls) r.0 wire) (sent_at q1.opened r.0 wire) (grows_ended q.now (length calls) r.0 wire) args_of s r.2;
      here = r.3;
      opens = opening_goes old mid log log_mid wire opening (step.Done s) calls r.0 q.now told r.1 t.2 opens t.4;
      answered = subst (λ (l : List Answer). Answered r.0 wire s [] l s) (sym none) refl;
      alive_is = alive;
    } in
    let ends : Tell new r.0 calls' wire k1.watched q1 (length k1.said) s' k' place = subst (λ (w : ℤ). IsOpened r.0 w q1 k1 s place → Tell new r.0 calls' w k1.watched q1 (length k1.said) s' k' place) same (rest r.0 calls' r.1 told' q1 place refl) opened in
    tell_on new calls r.0 calls' wire k.watched q q1 0 s' k' place room (extends_opened q 0 0 (length calls) (length r.0) refl t.0.2 t.0.0 room)
    (opening_adds (IsWatchArgs k.watched) old mid log log_mid wire opening (step.Done s) calls r.0 t.1 t.2 opens told r.1 keeps)
    (subst (λ (v : Watched). Tell new r.0 calls' wire v q1 0 s' k' place) watched (subst (λ (n : ℕ). Tell new r.0 calls' wire k1.watched q1 n s' k' place) (ap length none) ends))

-- ---- what a call sends

-- what a poll of a call does
abbrev pub Copies : Awaited → Awaited → LogTold → LogTold → ℤ → ClientStream → ClientStream → EventPoll → Type 0
Copies old new log log' wire s s' r = (steps starts : ℕ) × CallCopies steps old new log log' wire None starts s s' r

-- what it sends, in a call of a stream that was opened and answered so
call_adds : (v : Watched) (old new : Awaited) (log log' : LogTold) (wire : ℤ) (s s1 : ClientStream) (r : EventPoll) (calls calls' : List Call) (q : Places) (k : Kept) (last : ClientStream) (at : Option ℕ) → IsSound true s → Copies old new log log' wire s s1 r → (t : TellsOpen calls wire q.opened q.owns v k.opened k.said k.alive last at) → SoFar old (sent_at q.now calls wire) true last s
    → log ≡ Some calls → log' ≡ Some calls' → Keeps calls calls' → AddsOnly (IsCommandOf (IsWatchArgs v)) calls calls'
call_adds v old new log log' wire s s1 r calls calls' q k last at sound does t so told told' keeps =
    let fit = for_answered t.args calls wire t.first q.owns k.said last t.answered (for_opened t.args (sent_at q.opened calls wire) t.first t.opened) in
    let far = for_so_far t.args (sent_at q.now calls wire) last fit old s so in
    such_adds (IsWatchArgs v) log log' calls calls' told told' keeps (calls_such (IsWatchArgs v) t.args t.args_are does.0 old new log log' wire does.1 s s1 r sound far.0 far.1 does.2)

-- what a poll of a call that had sent at these places sent, where the call began so
call_polled : (old new : Awaited) (log log' : LogTold) (wire : ℤ) (at s s1 : ClientStream) (r : EventPoll) (own : List ℕ) (calls calls' : List Call) → log ≡ Some calls → log' ≡ Some calls' → IsSound true s → Copies old new log log' wire s s1 r → SoFar old (sent_at own calls wire) true at s → SendsSoFar old calls wire at own s
    → BehindPoll new calls' wire at (sent_since own (length calls) (length calls')) s1 r
call_polled old new log log' wire at s s1 r own calls calls' told told' sound does so_far sends = poll_sends does.0 old new log log' wire does.1 at s s1 r sound does.2 own calls calls' told told' so_far sends.sent

-- a call has ended
ended_sends : (awaited : Awaited) (calls : List Call) (wire : ℤ) (at s : ClientStream) (own : List ℕ) (answer : Answer) → BehindPoll awaited calls wire at own s (poll_of answer) → CallSends calls wire at own
ended_sends awaited calls wire at s own (answers.Event event) h = h
ended_sends awaited calls wire at s own answers.Nothing h = h
ended_sends awaited calls wire at s own (answers.Failed e) h = h

-- A call of the stream pends.
pub call_waits_tells : (old new : Awaited) (log log' : LogTold) (wire : ℤ) (k : Kept) (s s1 : ChangeStream Fields) (r : EventPoll) → r ≡ polls.Pending → IsPlainStream s → IsPlainStream s1 → IsSome (stream_ticket (stream_of s1)) → Copies old new log log' wire (stream_of s) (stream_of s1) r → CallCaused old new log log' wire None (stream_of s) (stream_of s1) r
    → FollowTells old new log log' wire (stage.Open s) k (stage.Open s1) k same_place
call_waits_tells old new log log' wire k s s1 r pends sound sound' held does caused calls calls' told told' q place t =
    let at = t.0 in
    let c = subst (λ (x : EventPoll). CallCaused old new log log' wire None (stream_of s) (stream_of s1) x) pends caused calls told q.now at t.2 in
    let keeps = keeps_to log' calls c.0 calls' c.1 told' c.2 in
    let room = keeps_longer calls calls' keeps in
    let so_far : SoFar new (past_of q.now (length calls) calls' wire) true at (stream_of s1) = subst (λ (l : List Call). SoFar new (past_of q.now (length calls) l wire) true at (stream_of s1)) (same_told log' c.0 calls' c.1 told') c.3 in
    let later = sent_at (sent_since q.now (length calls) (length calls')) calls' wire in
    record {
      longer = room;
      places = going_on q (length calls) (length calls');
      tells = (
        at,
        open_later calls calls' wire q.opened q.owns k.watched k.opened k.said k.alive at place keeps t.1,
        so_far_grows (past_of q.now (length calls) calls' wire) later (grows_ended q.now (length calls) calls' wire) new new at (stream_of s1) (λ m e. refl) so_far,
        sound'.sound,
        record {
          sent = subst (λ (x : EventPoll). BehindPoll new calls' wire at (sent_since q.now (length calls) (length calls')) (stream_of s1) x) pends
              (call_polled old new log log' wire at (stream_of s) (stream_of s1) r q.now calls calls' told told' sound.sound does t.2 t.4);
          rests = λ none. absurd (none_is_not (stream_ticket (stream_of s1)) none held);
        },
      );
      extends = extends_going q (suc (length k.said)) (suc (length k.said)) (length calls) (length calls') refl room;
      adds = call_adds k.watched old new log log' wire (stream_of s) (stream_of s1) r calls calls' q k at place sound.sound does t.1 t.2 told told' keeps;
    }

came_called : (awaited : Awaited) (past : Past) (at s : ClientStream) (answer : Answer) → CallCame awaited past None at s (poll_of answer) → Called past None at s (poll_of answer)
came_called awaited past at s (answers.Event event) came = came
came_called awaited past at s answers.Nothing came = came
came_called awaited past at s (answers.Failed e) came = came

-- A call of the stream answered; the rest of the turn follows.
pub call_answers_tells : (old mid new : Awaited) (log log_mid log' : LogTold) (wire wire_mid : ℤ) (k k1 : Kept) (s s1 : ChangeStream Fields) (r : EventPoll) (answer : Answer) (s' : Stage) (k' : Kept) → RestTells new log_mid log' wire_mid (stream_of s1) k1 s' k' → k1.watched ≡ k.watched → k1.opened ≡ k.opened → k1.said ≡ k.said ++ answer ∷ [] → SaysAlive k1.alive (stream_of s1) → wire_mid ≡ wire → r ≡ poll_of answer → IsPlainStream s
    → Copies old mid log log_mid wire (stream_of s) (stream_of s1) r → CallCaused old mid log log_mid wire None (stream_of s) (stream_of s1) r → FollowTells old new log log' wire (stage.Open s) k s' k' same_place
call_answers_tells old mid new log log_mid log' wire wire_mid k k1 s s1 r answer s' k' rest watched given said alive same is sound does caused calls calls' told told' q place t =
    let at = t.0 in
    let c = subst (λ (x : EventPoll). CallCaused old mid log log_mid wire None (stream_of s) (stream_of s1) x) is caused calls told q.now at t.2 in
    let room = keeps_longer calls c.0 c.2 in
    let own = sent_since q.now (length calls) (length c.0) in
    let q1 = answered_by q (length calls) (length c.0) in
    let after = stream_of s1 in
    let before = open_later calls c.0 wire q.opened q.owns k.watched k.opened k.said k.alive at place c.2 t.1 in
    let called : Called (sent_at own c.0 wire) None at after (poll_of answer) = called_grows (past_of q.now (length calls) c.0 wire) (sent_at own c.0 wire) (grows_ended q.now (length calls) c.0 wire) None at after (poll_of answer) (came_called mid (past_of q.now (length calls) c.0 wire) at after answer c.3) in
    let sends : CallSends c.0 wire at own = ended_sends mid c.0 wire at after own answer (subst (λ (x : EventPoll). BehindPoll mid c.0 wire at own after x) is
    (call_polled old mid log log_mid wire at (stream_of s) after r q.now calls c.0 told c.1 sound.sound does t.2 t.4)) in
    let opened : TellsOpen c.0 wire q1.opened q1.owns k1.watched k1.opened k1.said k1.alive after place = record {
      given = subst (λ (o : Ended (Unit {0})). HasGiven o) (sym given) before.given;
      args = before.args;
      args_are = subst (λ (v : Watched). IsWatchArgs v before.args) (sym watched) before.args_are;
      first = before.first;
      opened = before.opened;
      here = before.here;
      opens = before.opens;
      answered = subst (λ (l : List Answer). Answered c.0 wire before.first q1.owns l after) (sym said) (answered_more c.0 wire q.owns k.said before.first at after own answer before.answered called sends);
      alive_is = alive;
    } in
    let count : length k1.said ≡ suc (length k.said) = (let joined = length-append k.said (answer ∷ []) in omega (arith, ap length said, joined)) in
    let ends : Tell new c.0 calls' wire k1.watched q1 (length k1.said) s' k' place = subst (λ (w : ℤ). IsOpened c.0 w q1 k1 after place → Tell new c.0 calls' w k1.watched q1 (length k1.said) s' k' place) same (rest c.0 calls' c.1 told' q1 place refl) opened in
    tell_on new calls c.0 calls' wire k.watched q q1 (suc (length k.said)) s' k' place room
    (extends_answered q (suc (length k.said)) (suc (length k.said)) (length calls) (length c.0) (ap suc (sym (answered_count calls wire q.owns k.said t.1.first at t.1.answered))) room)
    (call_adds k.watched old mid log log_mid wire (stream_of s) after r calls c.0 q k at place sound.sound does t.1 t.2 told c.1 c.2)
    (subst (λ (v : Watched). Tell new c.0 calls' wire v q1 (suc (length k.said)) s' k' place) watched (subst (λ (n : ℕ). Tell new c.0 calls' wire k1.watched q1 n s' k' place) count ends))

-- The stream is kept for its next call.
pub rest_stays_tells : (awaited : Awaited) (log : LogTold) (wire : ℤ) (stream : ChangeStream Fields) (k : Kept) → IsSound true (stream_of stream) → IsBetween (stream_of stream) → RestTells awaited log log wire (stream_of stream) k (stage.Open stream) k
rest_stays_tells awaited log wire stream k sound rest calls calls' told told' q at none t =
    tell_same awaited log wire calls calls' told told' q (length k.said) (stage.Open stream) k at k.watched (
      stream_of stream,
      t,
      begins awaited (sent_at q.now calls wire) (stream_of stream) sound rest,
      sound,
      record { sent = begins_sent awaited calls wire (stream_of stream) q.now (stream_of stream).cursor (stream_of stream).doing none rest.idle rest.quiet; rests = λ waits. none },
    )
    (extends_rest q (length k.said) (suc (length k.said)) (length calls) none)

-- The stream is closed in the same turn, and its token was handed over.
pub rest_closes_tells : (awaited new : Awaited) (log log' : LogTold) (wire : ℤ) (stream : ClientStream) (lent : Bool) (left : Option Tree) (k : Kept) (token : Option Tree) (closing : ClosingStream) (s' : Stage) (k' : Kept) → closing ≡ handed_over left (closed_stream lent stream) → IsBetween stream → token ≡ stream_token stream
    → FollowTells awaited new log log' wire (stage.Closes closing) (record k { token = token }) s' k' same_place → RestTells new log log' wire stream k s' k'
rest_closes_tells awaited new log log' wire stream lent left k token closing s' k' is rest handed closes calls calls' told told' q at none t =
    closes calls calls' told told' q at (
      stream,
      t,
      handed,
      last_begins awaited (sent_at q.now calls wire) stream lent left closing is rest,
      none_now (KillsLast stream) calls 1 q (landing_places closing.doing) none (landing_few closing.doing),
    )

closing_adds : (are_its : WatchArgs → Type 0) (old new : Awaited) (log log' : LogTold) (wire : ℤ) (closing : ClosingStream) (r : Step ClosingStream (Unit {0})) (calls calls' : List Call) → Lasts closing → ClosesStream old new log log' wire closing r → log ≡ Some calls → log' ≡ Some calls' → Keeps calls calls' → AddsOnly (IsCommandOf are_its) calls calls'
closing_adds are_its old new log log' wire closing r calls calls' last closes told told' keeps =
    such_adds are_its log log' calls calls' told told' keeps (closing_such are_its old new log log' wire r closing last.0 last.1 closes)

-- what a poll of a closing sent stands behind what was sent before
kill_falls : (old new : Awaited) (log log' : LogTold) (wire : ℤ) (calls calls' : List Call) (own : List ℕ) (last : ClientStream) (closing : ClosingStream) (r : Step ClosingStream (Unit {0})) → Lasts closing → ClosesStream old new log log' wire closing r → LastSoFar old (sent_at own calls wire) last closing → log ≡ Some calls → log' ≡ Some calls' → Keeps calls calls'
    → FallsAt (KillsLast last) calls 1 own (landing_places closing.doing) → FallsAt (KillsLast last) calls' 1 (sent_since own (length calls) (length calls')) (closing_left r)
kill_falls old new log log' wire calls calls' own last closing r lasts closes so told told' keeps before =
    let sent = closing_falls old new log log' wire last r closing (kill_of last closing so.id_is so.space_is so.none_opened) lasts.0 lasts.1 closes in
    falls_more (KillsLast last) log log' calls calls' 1 own (landing_places closing.doing) (closing_left r) sent.commands told told' keeps before sent.adds sent.falling

-- The killing of its cursor pends.
pub close_waits_tells : (old new : Awaited) (log log' : LogTold) (wire : ℤ) (k : Kept) (closing closing' : ClosingStream) → Lasts closing → ClosesStream old new log log' wire closing (step.Pending closing')
    → FollowTells old new log log' wire (stage.Closes closing) k (stage.Closes closing') k same_place
close_waits_tells old new log log' wire k closing closing' last closes calls calls' told told' q at t =
    let r = last_closes old new log log' wire t.0 closing (step.Pending closing') last.1 closes calls told q.now t.3 in
    let keeps = keeps_to log' calls r.0 calls' r.1 told' r.2 in
    let room = keeps_longer calls calls' keeps in
    let past = past_of q.now (length calls) calls' wire in
    let came : LastCame new past t.0 (step.Pending closing') = subst (λ (c : List Call). LastCame new (past_of q.now (length calls) c wire) t.0 (step.Pending closing')) (same_told log' r.0 calls' r.1 told') r.3 in
    let later = sent_at (sent_since q.now (length calls) (length calls')) calls' wire in
    record {
      longer = room;
      places = going_on q (length calls) (length calls');
      tells = (
        t.0,
        open_later calls calls' wire q.opened q.owns k.watched k.opened k.said k.alive t.0 at keeps t.1,
        t.2,
        last_grows past later (grows_ended q.now (length calls) calls' wire) t.0 new new closing' (λ m e. refl) came,
        kill_falls old new log log' wire calls calls' q.now t.0 closing (step.Pending closing') last closes t.3 told told' keeps t.4,
      );
      extends = extends_going q (length k.said) (length k.said) (length calls) (length calls') refl room;
      adds = closing_adds (IsWatchArgs k.watched) old new log log' wire closing (step.Pending closing') calls calls' last closes told told' keeps;
    }

given_end : {A : Type 0} (calls : List Call) (wire : ℤ) (q : Places) (k : Kept) (at : Option ℕ) (o : Ended A) → HasGiven o → (last : ClientStream) × IsOpened calls wire q k last at × (k.token ≡ stream_token last) × ClosedBy (sent_at q.now calls wire) last k.closed × FallsAt (KillsLast last) calls 1 q.now 0 → TellsEnd calls wire q k at o
given_end calls wire q k at ended.Unfinished given t = absurd given
given_end calls wire q k at (ended.Gave x) given t = t
given_end calls wire q k at (ended.Failed e) given t = absurd given

-- It ended so.
close_ends_tells : (old new : Awaited) (log log' : LogTold) (wire : ℤ) (k : Kept) (closed : Ended (Unit {0})) (closing : ClosingStream) (result : Step ClosingStream (Unit {0})) → Lasts closing → ClosesStream old new log log' wire closing result
    → closing_left result ≡ 0 → ((past : Past) (last : ClientStream) → LastCame new past last result → ClosedBy past last closed)
    → FollowTells old new log log' wire (stage.Closes closing) k stage.Ended (record k { closed = closed }) same_place
close_ends_tells old new log log' wire k closed closing result last closes ends by calls calls' told told' q at t =
    let r = last_closes old new log log' wire t.0 closing result last.1 closes calls told q.now t.3 in
    let keeps = keeps_to log' calls r.0 calls' r.1 told' r.2 in
    let room = keeps_longer calls calls' keeps in
    let past = past_of q.now (length calls) calls' wire in
    let q' = going_on q (length calls) (length calls') in
    let came = by past t.0 (subst (λ (c : List Call). LastCame new (past_of q.now (length calls) c wire) t.0 result) (same_told log' r.0 calls' r.1 told') r.3) in
    let opened = open_later calls calls' wire q.opened q.owns k.watched k.opened k.said k.alive t.0 at keeps t.1 in
    record {
      longer = room;
      places = q';
      tells = given_end calls' wire q' (record k { closed = closed }) at k.opened opened.given (t.0, opened, t.2, closed_by_later past (sent_at q'.now calls' wire) t.0 closed (grows_ended q.now (length calls) calls' wire) came, subst (λ (m : ℕ). FallsAt (KillsLast t.0) calls' 1 q'.now m) ends (kill_falls old new log log' wire calls calls' q.now t.0 closing result last closes t.3 told told' keeps t.4));
      extends = extends_going q (length k.said) (length k.said) (length calls) (length calls') refl room;
      adds = closing_adds (IsWatchArgs k.watched) old new log log' wire closing result calls calls' last closes told told' keeps;
    }

-- The stream is closed.
pub close_done_tells : (old new : Awaited) (log log' : LogTold) (wire : ℤ) (k : Kept) (closed : Ended (Unit {0})) (closing : ClosingStream) → closed ≡ ended.Gave tt → Lasts closing → ClosesStream old new log log' wire closing (step.Done tt)
    → FollowTells old new log log' wire (stage.Closes closing) k stage.Ended (record k { closed = closed }) same_place
close_done_tells old new log log' wire k closed closing is last closes =
    close_ends_tells old new log log' wire k closed closing (step.Done tt) last closes refl
    (λ past stream done. subst (λ (o : Ended (Unit {0})). ClosedBy past stream o) (sym is) done)

-- The closing failed.
pub close_fails_tells : (old new : Awaited) (log log' : LogTold) (wire : ℤ) (k : Kept) (closed : Ended (Unit {0})) (closing : ClosingStream) (e : Error) → closed ≡ ended.Failed e → Lasts closing → ClosesStream old new log log' wire closing (step.Failed e)
    → FollowTells old new log log' wire (stage.Closes closing) k stage.Ended (record k { closed = closed }) same_place
close_fails_tells old new log log' wire k closed closing e is last closes =
    close_ends_tells old new log log' wire k closed closing (step.Failed e) last closes refl
    (λ past stream fails. subst (λ (o : Ended (Unit {0})). ClosedBy past stream o) (sym is) fails)
