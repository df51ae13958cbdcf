-- The turns of follows: what they know stays so, whatever other jobs do.
use Rattle.std.proofs.Common.{◌≡◌, ℕ, pos, Bool, false, true, List, [], ◌∷◌, ◌++◌, Option, Some, None, refl, sym, ap, ◌∙◌, subst, append-nil}
use Rattle.mg_bson.specs.Tree.{Tree, Fields}
use Rattle.mg_bson.specs.Raw.{fields}
use Rattle.mg_link.specs.Exec.{Sending}
use Rattle.mg_server.specs.Follow.{Follow, Knows, Moved, owner_of}
use Rattle.mg_link.specs.Link.{Awaited, LogTold}
use Rattle.mg_link.specs.Log.{Call}
use Rattle.mg_server.specs.Owner.{Owner, Holds, Onward, Passes}
use Rattle.mg_server.specs.State.{Start, Watch}
use Rattle.mg_server.proofs.Answering.{follows_on}
use Rattle.mg_server.proofs.Apart.{passes_on, passes_same}
use Rattle.mg_server.proofs.Moves.{stayed}
use Rattle.mg_server.proofs.Follows.{knows_kept}
use Rattle.mg_cursor.specs.Client as cursors
use Rattle.mg_cursor.specs.Closing.{IsNotAsking}
use Rattle.mg_change.proofs.Closed.{close_moved}
use Rattle.mg_change.proofs.Keeping.{sound_any}
use Rattle.mg_change.proofs.Resting.{between_holds_none}
use Rattle.mg_change.specs.ClientStreams.{Asks, ClientStream, Doing, IsBetween, IsIdle, IsSound, stream_ticket, stream_token}
use Rattle.mg_change.specs.ClientStreams as streams
use Rattle.mg_change.specs.ClosingStreams.{ClosingStream, IsSoundClosing, LandsSoundly, closed_stream, handed_over, landing_of, landing_ticket, stream_closing_ticket}
use Rattle.mg_change.specs.Following.{follow_closing, follow_of, idle_by, left_as, not_open, opening_by, opening_in}
use Rattle.mg_change.specs.OpeningView.{IsPlainOpening, opening_of}
use Rattle.mg_change.specs.StreamCalls.{LeavesCall}
use Rattle.mg_change.specs.StreamView.{stream_of}
use Rattle.mg_link.specs.Acts.{IsOut, Tickets}
use Rattle.mg_ops.specs.Naming.{IsNamed}
use Rattle.mg_change.specs.declared.event_poll.EventPoll.{EventPoll}
use Rattle.mg_change.specs.declared.event_poll.EventPoll.TheVariants as polls
use Rattle.mg_players.specs.Follows.{HasEnded}
use Rattle.mg_change.specs.declared.opening.Opening.{Opening}
use Rattle.mg_change.specs.declared.stream.ChangeStream.{ChangeStream}
use Rattle.mg_players.proofs.Continuing.{Continues, continues_closing, continues_stream, same_closing, same_opening, same_stream, same_without}
use Rattle.mg_players.specs.Follows.{EndsSo, FollowKnows, FollowMoves, Followed, HasGiven, HasNothing, IsFailed, IsInOrder, IsUnfinished, IsWatched, Placing, StageAsks, closed_follow, ended_follow, follow_at, follow_by, events_of, same_place, token_at}
use Rattle.mg_players.specs.Playing.{IsLast, stage_ticket}
use Rattle.mg_script.specs.declared.outcome.Answer.{Answer}
use Rattle.mg_script.specs.declared.outcome.Answer.TheVariants as answers
use Rattle.mg_script.specs.declared.outcome.Ended.{Ended}
use Rattle.mg_script.specs.declared.outcome.Ended.TheVariants as ended
use Rattle.mg_players.specs.declared.follow.FollowPlayer.{FollowPlayer}
use Rattle.mg_players.specs.declared.follow.Stage.{Stage}
use Rattle.mg_players.specs.declared.follow.Stage.TheVariants as stage

-- ---- what a follow is doing depends on its own ticket alone

same_follow_at : (old new : Awaited) (s : Stage) {A : Type 0} (o : Ended A) (w : Watch) (start : Start) (opened : Option ℕ) (token : Option Tree) (answered : List Fields) → ((m : ℕ) → stage_ticket s ≡ Some m → new m ≡ old m) → follow_at old s o w start opened token answered ≡ follow_at new s o w start opened token answered
same_follow_at old new stage.Unopened o w start opened token answered same = refl
same_follow_at old new (stage.Opens opening) o w start opened token answered same = same_opening old new w start (opening_of opening) same
same_follow_at old new (stage.Open stream) o w start opened token answered same = same_stream old new w start (stream_of stream) opened answered same
same_follow_at old new (stage.Closes closing) o w start opened token answered same = same_closing old new w start token closing opened answered same
same_follow_at old new stage.Ended o w start opened token answered same = refl

-- Where its own ticket goes with the same call, a follow knows what it knew.
pub same_follow : (old new : Awaited) (calls : List Call) (s : Stage) (p : FollowPlayer) (o : Owner) (at : Option ℕ) → ((m : ℕ) → stage_ticket s ≡ Some m → new m ≡ old m) → FollowKnows old calls s p o at → FollowKnows new calls s p o at
same_follow old new calls s p o at same k =
    let e : follow_by old s k.watch k.start at p ≡ follow_by new s k.watch k.start at p = same_follow_at old new s p.opened k.watch k.start at p.token (events_of p.answers.items) same in
    record {
      watch = k.watch;
      start = k.start;
      watches = k.watches;
      asks = k.asks;
      knows = subst (λ (f : Follow). Knows calls f) e k.knows;
      owns = k.owns ∙ ap owner_of e;
      in_order = k.in_order;
    }

-- What others do leaves what a follow knows.
pub kept_follow : (awaited : Awaited) (calls calls' : List Call) (s : Stage) (p : FollowPlayer) (o : Owner) (at : Option ℕ) → Onward calls calls' o → FollowKnows awaited calls s p o at → FollowKnows awaited calls' s p o at
kept_follow awaited calls calls' s p o at onward k =
    record {
      watch = k.watch;
      start = k.start;
      watches = k.watches;
      asks = k.asks;
      knows = knows_kept calls calls' (follow_by awaited s k.watch k.start at p) (subst (Onward calls calls') k.owns onward) k.knows;
      owns = k.owns;
      in_order = k.in_order;
    }

-- ---- one turn

-- A stream that moved takes its follow along.
pub took : (old new : Awaited) (log log' : LogTold) (s : Stage) (p : FollowPlayer) (s' : Stage) (p' : FollowPlayer) (next : Placing) → p'.watched ≡ p.watched
    → ((w : Watch) (start : Start) → IsWatched p.watched w start → StageAsks s w start → IsInOrder p s → (opened : Option ℕ) → Moved log log' (follow_by old s w start opened p) (follow_by new s' w start (next opened) p') × StageAsks s' w start × IsInOrder p' s')
    → FollowMoves old new log log' s p s' p' next
took old new log log' s p s' p' next same moves calls told o at k =
    let m = moves k.watch k.start k.watches k.asks k.in_order at in
    let on = m.0 calls told in (
      on.0,
      on.1,
      record {
        owner = owner_of (follow_by new s' k.watch k.start (next at) p');
        knows = record {
          watch = k.watch;
          start = k.start;
          watches = subst (λ v. IsWatched v k.watch k.start) (sym same) k.watches;
          asks = m.1;
          knows = on.2.knows k.knows;
          owns = refl;
          in_order = m.2;
        };
        passes = subst (λ (x : Owner). Passes calls on.0 x (owner_of (follow_by new s' k.watch k.start (next at) p'))) (sym k.owns) (on.2.passes k.knows);
      },
    )

-- One part of a turn after another.
pub took_on : (old mid new : Awaited) (log log_mid log' : LogTold) (s : Stage) (p : FollowPlayer) (s_mid : Stage) (p_mid : FollowPlayer) (s' : Stage) (p' : FollowPlayer) (one two : Placing) → FollowMoves old mid log log_mid s p s_mid p_mid one → FollowMoves mid new log_mid log' s_mid p_mid s' p' two → FollowMoves old new log log' s p s' p' (λ at. two (one at))
took_on old mid new log log_mid log' s p s_mid p_mid s' p' one two first second calls told o at k =
    let a = first calls told o at k in
    let b = second a.0 a.1 a.2.owner (one at) a.2.knows in
    (b.0, b.1, record { owner = b.2.owner; knows = b.2.knows; passes = passes_on calls a.0 b.0 o a.2.owner b.2.owner a.2.passes b.2.passes })

-- ---- what a follow comes to

-- what a follow knows whose stream was opened by the call at this place
followed_as : (calls : List Call) (f g : Follow) (place : ℕ) → f.opened ≡ Some place → Continues f g → Knows calls g → Followed calls f.watch f.start f.answered f.token place
followed_as calls f g place opened same knows =
    record { stream = g; watch_is = same.watch; start_is = same.start; opened_is = same.opened ∙ opened; answered_is = same.answered; token_is = same.token; follows = follows_on calls g same.is_open knows }

ends_so : {A : Type 0} (calls : List Call) (o : Ended A) (w : Watch) (start : Start) (at : Option ℕ) (p : FollowPlayer) (place : ℕ) → HasGiven o → at ≡ Some place → Knows calls (ended_follow o w start at p.token (events_of p.answers.items)) → Followed calls w start (events_of p.answers.items) p.token place
ends_so calls ended.Unfinished w start at p place given is knows = absurd given
ends_so calls (ended.Gave x) w start at p place given is knows =
    let f = closed_follow w start at p.token (events_of p.answers.items) in
    record { stream = f; watch_is = refl; start_is = refl; opened_is = is; answered_is = refl; token_is = refl; follows = follows_on calls f tt knows }
ends_so calls (ended.Failed e) w start at p place given is knows = absurd given

pub failed_not_unfinished : {A : Type 0} (o : Ended A) → IsFailed o → IsUnfinished o → ⊥
failed_not_unfinished ended.Unfinished failed is = failed
failed_not_unfinished (ended.Gave x) failed is = failed
failed_not_unfinished (ended.Failed e) failed is = is

pub unfinished_not_given : {A : Type 0} (o : Ended A) → IsUnfinished o → HasGiven o → ⊥
unfinished_not_given ended.Unfinished is given = given
unfinished_not_given (ended.Gave x) is given = is
unfinished_not_given (ended.Failed e) is given = given

followed_at : (awaited : Awaited) (calls : List Call) (s : Stage) (w : Watch) (start : Start) (at : Option ℕ) (p : FollowPlayer) (place : ℕ) → HasGiven p.opened → at ≡ Some place → Knows calls (follow_by awaited s w start at p) → IsInOrder p s → Followed calls w start (events_of p.answers.items) (token_at s p.token) place
followed_at awaited calls stage.Unopened w start at p place given is knows order = absurd (unfinished_not_given p.opened order.0 given)
followed_at awaited calls (stage.Opens opening) w start at p place given is knows order = absurd (unfinished_not_given p.opened order.0 given)
followed_at awaited calls (stage.Open stream) w start at p place given is knows order =
    let s = stream_of stream in
    followed_as calls (idle_by w start at s.cursor.id (stream_token s) (events_of p.answers.items)) (follow_of awaited w start s at (events_of p.answers.items)) place is (continues_stream awaited w start s at (events_of p.answers.items)) knows
followed_at awaited calls (stage.Closes closing) w start at p place given is knows order =
    followed_as calls (left_as w start at p.token (events_of p.answers.items) closing.cursor.id closing.opened) (follow_closing awaited w start p.token closing at (events_of p.answers.items)) place is (continues_closing awaited w start p.token closing at (events_of p.answers.items)) knows
followed_at awaited calls stage.Ended w start at p place given is knows order = ends_so calls p.opened w start at p place given is knows

-- What became of a follow whose stream was opened is as it should be.
pub follow_followed : (awaited : Awaited) (calls : List Call) (s : Stage) (p : FollowPlayer) (o : Owner) (at : Option ℕ) (place : ℕ) → HasGiven p.opened → at ≡ Some place → (k : FollowKnows awaited calls s p o at) → Followed calls k.watch k.start (events_of p.answers.items) (token_at s p.token) place
follow_followed awaited calls s p o at place given is k = followed_at awaited calls s k.watch k.start at p place given is k.knows k.in_order

-- ---- the same follow at another stage

pub record SameParts (p t : FollowPlayer) : Type 0 where
  pub watched : t.watched ≡ p.watched
  pub opened : t.opened ≡ p.opened
  pub answers : t.answers.items ≡ p.answers.items
  pub token : t.token ≡ p.token

parts_follow : (awaited : Awaited) (s : Stage) (p t : FollowPlayer) → SameParts p t → (w : Watch) (start : Start) (opened : Option ℕ) → follow_by awaited s w start opened p ≡ follow_by awaited s w start opened t
parts_follow awaited s p t same w start opened =
    ap (λ o. follow_at awaited s o w start opened p.token (events_of p.answers.items)) (sym same.opened)
    ∙ ap (λ u. follow_at awaited s t.opened w start opened u (events_of p.answers.items)) (sym same.token)
    ∙ ap (λ l. follow_at awaited s t.opened w start opened t.token (events_of l)) (sym same.answers)

parts_nothing : (p t : FollowPlayer) → SameParts p t → HasNothing p → HasNothing t
parts_nothing p t same nothing = record { no_answer = same.answers ∙ nothing.no_answer; no_token = same.token ∙ nothing.no_token }

parts_end : {A : Type 0} (o : Ended A) (p t : FollowPlayer) → SameParts p t → EndsSo o p → EndsSo o t
parts_end ended.Unfinished p t same so = parts_nothing p t same so
parts_end (ended.Gave x) p t same so = so
parts_end (ended.Failed e) p t same so = parts_nothing p t same so

pub parts_order : (s : Stage) (p t : FollowPlayer) → SameParts p t → IsInOrder p s → IsInOrder t s
parts_order stage.Unopened p t same order = (subst (λ o. IsUnfinished o) (sym same.opened) order.0, parts_nothing p t same order.1)
parts_order (stage.Opens opening) p t same order = (subst (λ o. IsUnfinished o) (sym same.opened) order.0, parts_nothing p t same order.1)
parts_order (stage.Open stream) p t same order = subst (λ o. HasGiven o) (sym same.opened) order
parts_order (stage.Closes closing) p t same order = subst (λ o. HasGiven o) (sym same.opened) order
parts_order stage.Ended p t same order = subst (λ o. EndsSo o t) (sym same.opened) (parts_end p.opened p t same order)

pub parts_knows : (awaited : Awaited) (calls : List Call) (s : Stage) (p t : FollowPlayer) (o : Owner) (at : Option ℕ) → SameParts p t → FollowKnows awaited calls s p o at → FollowKnows awaited calls s t o at
parts_knows awaited calls s p t o at same k =
    let e = parts_follow awaited s p t same k.watch k.start at in
    record {
      watch = k.watch;
      start = k.start;
      watches = subst (λ v. IsWatched v k.watch k.start) (sym same.watched) k.watches;
      asks = k.asks;
      knows = subst (λ (f : Follow). Knows calls f) e k.knows;
      owns = k.owns ∙ ap owner_of e;
      in_order = parts_order s p t same k.in_order;
    }

-- A turn whose stage was taken out before, and put back behind it.
pub other_stage : (old new : Awaited) (log log' : LogTold) (s s0 : Stage) (p t : FollowPlayer) (s' : Stage) (q r : FollowPlayer) (next : Placing) → s ≡ s0 → SameParts p t → SameParts q r → r.stage ≡ s' → FollowMoves old new log log' s t s' q next → FollowMoves old new log log' s0 p r.stage r next
other_stage old new log log' s s0 p t s' q r next from before behind to turned calls told o at k =
    let m = turned calls told o at (parts_knows old calls s p t o at before (subst (λ x. FollowKnows old calls x p o at) (sym from) k)) in
    (m.0, m.1, record { owner = m.2.owner; knows = subst (λ x. FollowKnows new m.0 x r m.2.owner (next at)) (sym to) (parts_knows new m.0 s' q r m.2.owner (next at) behind m.2.knows); passes = m.2.passes })

-- ---- the arms of a turn

-- nothing was sent, and the follow is the same
pub took_same : (awaited : Awaited) (log log' : LogTold) (s : Stage) (p : FollowPlayer) → log' ≡ log → FollowMoves awaited awaited log log' s p s p same_place
took_same awaited log log' s p same calls told o at k =
    (calls, same ∙ told, record { owner = o; knows = k; passes = passes_same calls o (subst (Holds calls) (sym k.owns) k.knows.owned) })

pub nothing_kept : (p p' : FollowPlayer) → p'.answers.items ≡ p.answers.items → p'.token ≡ p.token → HasNothing p → HasNothing p'
nothing_kept p p' answers token nothing = record { no_answer = answers ∙ nothing.no_answer; no_token = token ∙ nothing.no_token }

-- a follow whose opening failed
pub never_opened : {A : Type 0} (o : Ended A) (p : FollowPlayer) → IsFailed o → HasNothing p → EndsSo o p
never_opened ended.Unfinished p failed nothing = nothing
never_opened (ended.Gave x) p failed nothing = absurd failed
never_opened (ended.Failed e) p failed nothing = nothing

ended_not_open : {A : Type 0} (o : Ended A) (w : Watch) (start : Start) (opened : Option ℕ) (token : Option Tree) (answered : List Fields) → IsFailed o → ended_follow o w start opened token answered ≡ not_open w start
ended_not_open ended.Unfinished w start opened token answered failed = refl
ended_not_open (ended.Gave x) w start opened token answered failed = absurd failed
ended_not_open (ended.Failed e) w start opened token answered failed = refl

-- what is the same of a follow before its stream is open
pub record KeepsNothing (p p' : FollowPlayer) : Type 0 where
  pub watched : p'.watched ≡ p.watched
  pub answers : p'.answers.items ≡ p.answers.items
  pub token : p'.token ≡ p.token

-- The arguments of the watch were not built: nothing was sent.
pub begin_failed : (awaited : Awaited) (log : LogTold) (p p' : FollowPlayer) → KeepsNothing p p' → IsFailed p'.opened → FollowMoves awaited awaited log log stage.Unopened p stage.Ended p' same_place
begin_failed awaited log p p' same failed =
    took awaited awaited log log stage.Unopened p stage.Ended p' same_place same.watched
    (λ w start watched asks order opened. (
      subst (λ (f : Follow). Moved log log (not_open w start) f) (sym (ended_not_open p'.opened w start opened p'.token (events_of p'.answers.items) failed)) (stayed log log (not_open w start) refl),
      tt,
      never_opened p'.opened p' failed (nothing_kept p p' same.answers same.token order.1),
    ))

-- The watch is to be opened: nothing was sent yet.
pub begins : (awaited : Awaited) (log : LogTold) (p : FollowPlayer) (opening : Opening Fields) → ((w : Watch) (start : Start) → IsWatched p.watched w start → Asks (opening_of opening).args w start) → IsPlainOpening opening → (opening_of opening).sending ≡ None → FollowMoves awaited awaited log log stage.Unopened p (stage.Opens opening) p same_place
begins awaited log p opening asks sent none =
    took awaited awaited log log stage.Unopened p (stage.Opens opening) p same_place refl
    (λ w start watched before order opened. (
      subst (λ (x : Option Sending). Moved log log (not_open w start) (opening_by awaited x w start)) (sym none) (stayed log log (not_open w start) refl),
      (asks w start watched, sent),
      order,
    ))

-- The reply to the opening pends.
pub open_pends : (old new : Awaited) (log log' : LogTold) (p : FollowPlayer) (opening opening' : Opening Fields) → (opening_of opening').args ≡ (opening_of opening).args → (IsPlainOpening opening → IsPlainOpening opening')
    → (IsPlainOpening opening → (w : Watch) (start : Start) → Asks (opening_of opening).args w start → Moved log log' (opening_in old w start (opening_of opening)) (opening_in new w start (opening_of opening'))) → FollowMoves old new log log' (stage.Opens opening) p (stage.Opens opening') p same_place
open_pends old new log log' p opening opening' args sent moves =
    took old new log log' (stage.Opens opening) p (stage.Opens opening') p same_place refl
    (λ w start watched asks order opened. (moves asks.1 w start asks.0, (subst (λ a. Asks a w start) (sym args) asks.0, sent asks.1), order))

-- It failed.
pub open_failed : (old new : Awaited) (log log' : LogTold) (p p' : FollowPlayer) (opening : Opening Fields) → KeepsNothing p p' → IsFailed p'.opened
    → (IsPlainOpening opening → (w : Watch) (start : Start) → Asks (opening_of opening).args w start → Moved log log' (opening_in old w start (opening_of opening)) (not_open w start)) → FollowMoves old new log log' (stage.Opens opening) p stage.Ended p' same_place
open_failed old new log log' p p' opening same failed moves =
    took old new log log' (stage.Opens opening) p stage.Ended p' same_place same.watched
    (λ w start watched asks order opened. (
      subst (λ (f : Follow). Moved log log' (opening_in old w start (opening_of opening)) f) (sym (ended_not_open p'.opened w start opened p'.token (events_of p'.answers.items) failed)) (moves asks.1 w start asks.0),
      tt,
      never_opened p'.opened p' failed (nothing_kept p p' same.answers same.token order.1),
    ))

-- The stream is open.
pub open_done : (old new : Awaited) (log log' : LogTold) (p p' : FollowPlayer) (opening : Opening Fields) (stream : ChangeStream Fields) (place : Option ℕ) → KeepsNothing p p' → HasGiven p'.opened → (stream_of stream).aggregate.args ≡ (opening_of opening).args
    → (IsPlainOpening opening → (w : Watch) (start : Start) → Asks (opening_of opening).args w start → Moved log log' (opening_in old w start (opening_of opening)) (follow_of new w start (stream_of stream) place [])) → FollowMoves old new log log' (stage.Opens opening) p (stage.Open stream) p' (λ at. place)
open_done old new log log' p p' opening stream place same given args moves =
    took old new log log' (stage.Opens opening) p (stage.Open stream) p' (λ at. place) same.watched
    (λ w start watched asks order opened.
    let none : events_of p'.answers.items ≡ [] = ap events_of (same.answers ∙ order.1.no_answer) in (
      subst (λ l. Moved log log' (opening_in old w start (opening_of opening)) (follow_of new w start (stream_of stream) place l)) (sym none) (moves asks.1 w start asks.0),
      subst (λ a. Asks a w start) (sym args) asks.0,
      given,
    ))

-- what a follow whose stream is open keeps
pub record KeepsOpen (p p' : FollowPlayer) : Type 0 where
  pub watched : p'.watched ≡ p.watched
  pub opened : p'.opened ≡ p.opened
  pub answers : p'.answers.items ≡ p.answers.items

-- The stream is to be closed, and the follow has its token now.
pub to_close : (awaited : Awaited) (log : LogTold) (p p' : FollowPlayer) (stream : ChangeStream Fields) (closing : ClosingStream) → KeepsOpen p p' → p'.token ≡ stream_token (stream_of stream)
    → ((w : Watch) (start : Start) (opened : Option ℕ) (answered : List Fields) → Moved log log (follow_of awaited w start (stream_of stream) opened answered) (follow_closing awaited w start (stream_token (stream_of stream)) closing opened answered))
    → FollowMoves awaited awaited log log (stage.Open stream) p (stage.Closes closing) p' same_place
to_close awaited log p p' stream closing same token moves =
    took awaited awaited log log (stage.Open stream) p (stage.Closes closing) p' same_place same.watched
    (λ w start watched asks order opened.
    let s = stream_of stream in
    let answered = events_of p.answers.items in (
      subst (λ t. Moved log log (follow_of awaited w start s opened answered) (follow_closing awaited w start t closing opened (events_of p'.answers.items))) (sym token)
          (subst (λ l. Moved log log (follow_of awaited w start s opened answered) (follow_closing awaited w start (stream_token s) closing opened (events_of l))) (sym same.answers) (moves w start opened answered)),
      tt,
      subst (λ o. HasGiven o) (sym same.opened) order,
    ))

-- where its token was handed over
pub handed_moved : (log : LogTold) (awaited : Awaited) (s : ClientStream) (lent : Bool) (left : Option Tree) (k : ClosingStream) → k ≡ handed_over left (closed_stream lent s) → IsSound true s → (w : Watch) (start : Start) (opened : Option ℕ) (answered : List Fields)
    → Moved log log (follow_of awaited w start s opened answered) (follow_closing awaited w start (stream_token s) k opened answered)
handed_moved log awaited s lent left k is sound w start opened answered =
    let there = close_moved log awaited w start lent s opened answered (sound_any true s sound) in
    let same = same_without awaited left (landing_of s.doing) s.cursor (left_as w start opened (stream_token s) answered s.cursor.id (pos 0)) in
    subst (λ (x : ClosingStream). Moved log log (follow_of awaited w start s opened answered) (follow_closing awaited w start (stream_token s) x opened answered)) (sym is)
    (subst (λ (f : Follow). Moved log log (follow_of awaited w start s opened answered) f) same there)

-- A call of the stream pends.
pub call_pends : (old new : Awaited) (log log' : LogTold) (p : FollowPlayer) (stream stream' : ChangeStream Fields) (told : List Fields) → told ≡ [] → (stream_of stream').aggregate.args ≡ (stream_of stream).aggregate.args
    → ((w : Watch) (start : Start) → Asks (stream_of stream).aggregate.args w start → (opened : Option ℕ) (answered : List Fields) → Moved log log' (follow_of old w start (stream_of stream) opened answered) (follow_of new w start (stream_of stream') opened (answered ++ told))) → FollowMoves old new log log' (stage.Open stream) p (stage.Open stream') p same_place
call_pends old new log log' p stream stream' told none args moves =
    took old new log log' (stage.Open stream) p (stage.Open stream') p same_place refl
    (λ w start watched asks order opened.
    let answered = events_of p.answers.items in (
      subst (λ l. Moved log log' (follow_of old w start (stream_of stream) opened answered) (follow_of new w start (stream_of stream') opened l)) (ap (λ t. answered ++ t) none ∙ append-nil answered) (moves w start asks opened answered),
      subst (λ a. Asks a w start) (sym args) asks,
      order,
    ))

events_joined : (xs ys : List Answer) → events_of (xs ++ ys) ≡ events_of xs ++ events_of ys
events_joined [] ys = refl
events_joined (answers.Event event ∷ xs) ys = ap (λ l. fields event ∷ l) (events_joined xs ys)
events_joined (answers.Nothing ∷ xs) ys = events_joined xs ys
events_joined (answers.Failed e ∷ xs) ys = events_joined xs ys

-- A call of the stream answered.
pub call_answers : (old new : Awaited) (log log' : LogTold) (p p' : FollowPlayer) (stream stream' : ChangeStream Fields) (told : List Fields) (answer : Answer) → p'.watched ≡ p.watched → p'.opened ≡ p.opened → p'.answers.items ≡ p.answers.items ++ answer ∷ [] → told ≡ events_of (answer ∷ []) → (stream_of stream').aggregate.args ≡ (stream_of stream).aggregate.args
    → ((w : Watch) (start : Start) → Asks (stream_of stream).aggregate.args w start → (opened : Option ℕ) (answered : List Fields) → Moved log log' (follow_of old w start (stream_of stream) opened answered) (follow_of new w start (stream_of stream') opened (answered ++ told))) → FollowMoves old new log log' (stage.Open stream) p (stage.Open stream') p' same_place
call_answers old new log log' p p' stream stream' told answer watched opened_same items same args moves =
    took old new log log' (stage.Open stream) p (stage.Open stream') p' same_place watched
    (λ w start is asks order opened.
    let e : events_of p.answers.items ++ told ≡ events_of p'.answers.items = ap (λ l. events_of p.answers.items ++ l) same ∙ sym (events_joined p.answers.items (answer ∷ [])) ∙ ap events_of (sym items) in (
      subst (λ l. Moved log log' (follow_of old w start (stream_of stream) opened (events_of p.answers.items)) (follow_of new w start (stream_of stream') opened l)) e (moves w start asks opened (events_of p.answers.items)),
      subst (λ a. Asks a w start) (sym args) asks,
      subst (λ o. HasGiven o) (sym opened_same) order,
    ))

-- The killing of its cursors pends.
pub close_pends : (old new : Awaited) (log log' : LogTold) (p : FollowPlayer) (closing closing' : ClosingStream)
    → ((w : Watch) (start : Start) (token : Option Tree) (opened : Option ℕ) (answered : List Fields) → Moved log log' (follow_closing old w start token closing opened answered) (follow_closing new w start token closing' opened answered)) → FollowMoves old new log log' (stage.Closes closing) p (stage.Closes closing') p same_place
close_pends old new log log' p closing closing' moves =
    took old new log log' (stage.Closes closing) p (stage.Closes closing') p same_place refl
    (λ w start watched asks order opened. (moves w start p.token opened (events_of p.answers.items), tt, order))

ended_closed : {A : Type 0} (o : Ended A) (w : Watch) (start : Start) (opened : Option ℕ) (token : Option Tree) (answered : List Fields) → HasGiven o → ended_follow o w start opened token answered ≡ closed_follow w start opened token answered
ended_closed ended.Unfinished w start opened token answered given = absurd given
ended_closed (ended.Gave x) w start opened token answered given = refl
ended_closed (ended.Failed e) w start opened token answered given = absurd given

pub ends_given : {A : Type 0} (o : Ended A) (p : FollowPlayer) → HasGiven o → EndsSo o p
ends_given ended.Unfinished p given = absurd given
ends_given (ended.Gave x) p given = tt
ends_given (ended.Failed e) p given = absurd given

-- The stream is closed, or its closing failed.
pub close_ends : (old new : Awaited) (log log' : LogTold) (p p' : FollowPlayer) (closing : ClosingStream) → KeepsOpen p p' → p'.token ≡ p.token
    → ((w : Watch) (start : Start) (token : Option Tree) (opened : Option ℕ) (answered : List Fields) → Moved log log' (follow_closing old w start token closing opened answered) (left_as w start opened token answered (pos 0) (pos 0))) → FollowMoves old new log log' (stage.Closes closing) p stage.Ended p' same_place
close_ends old new log log' p p' closing same token moves =
    took old new log log' (stage.Closes closing) p stage.Ended p' same_place same.watched
    (λ w start watched asks order opened.
    let given : HasGiven p'.opened = subst (λ o. HasGiven o) (sym same.opened) order in
    let e : closed_follow w start opened p.token (events_of p.answers.items) ≡ closed_follow w start opened p'.token (events_of p'.answers.items) =
    ap (λ t. closed_follow w start opened t (events_of p.answers.items)) (sym token) ∙ ap (λ l. closed_follow w start opened p'.token (events_of l)) (sym same.answers) in (
      subst (λ (f : Follow). Moved log log' (follow_closing old w start p.token closing opened (events_of p.answers.items)) f) (e ∙ sym (ended_closed p'.opened w start opened p'.token (events_of p'.answers.items) given))
          (moves w start p.token opened (events_of p.answers.items)),
      tt,
      ends_given p'.opened p' given,
    ))

-- ---- streams at rest

-- no ticket is held
pub rest_out : (awaited : Awaited) (s : ClientStream) → IsBetween s → IsOut awaited (stream_ticket s)
rest_out awaited s rest n e = let bad : None ≡ Some n = sym (between_holds_none s rest) ∙ e in absurd cc

pub tickets_rest : (mid new : Awaited) (s : ClientStream) (ticket : Option ℕ) → IsBetween s → Tickets mid new (stream_ticket s) ticket → Tickets mid new None ticket
tickets_rest mid new s ticket rest t = subst (λ (h : Option ℕ). Tickets mid new h ticket) (between_holds_none s rest) t

-- a call that has ended leaves its stream at rest
pub rests_after : (poll : EventPoll) (s : ClientStream) → HasEnded poll → LeavesCall poll s → IsBetween s
rests_after polls.Pending s ended leaves = absurd ended
rests_after (polls.Ready None) s ended leaves = leaves.0
rests_after (polls.Ready (Some event)) s ended leaves = leaves.0
rests_after (polls.Failed e) s ended leaves = leaves.0

-- ---- the closing of a stream at rest

quiet_sound : (c : cursors.ClientCursor) (d : cursors.Doing) → IsNotAsking d → cursors.SoundBy false c d
quiet_sound c cursors.rests quiet = tt
quiet_sound c (cursors.holds reply) quiet = tt
quiet_sound c (cursors.asks sending) quiet = absurd quiet

last_by : (d : Doing) (c : cursors.Doing) → IsIdle d → IsNotAsking c → IsLast c (pos 0) (landing_of d)
last_by streams.follows c idle quiet = (quiet, refl)
last_by streams.owes c idle quiet = (quiet, refl)
last_by (streams.resumes sending) c idle quiet = absurd idle
last_by (streams.kills before) c idle quiet = absurd idle
last_by streams.renewed c idle quiet = absurd idle

lands_by : (d : Doing) (k : ClosingStream) → IsIdle d → IsNotAsking k.cursor.doing → IsNamed k.cursor.space → k.opened ≡ pos 0 → LandsSoundly k (landing_of d)
lands_by streams.follows k idle quiet named alone = record { asks_its_own = quiet_sound k.cursor k.cursor.doing quiet; named = named; alone = alone }
lands_by streams.owes k idle quiet named alone = record { asks_its_own = quiet_sound k.cursor k.cursor.doing quiet; named = named; alone = alone }
lands_by (streams.resumes sending) k idle quiet named alone = absurd idle
lands_by (streams.kills before) k idle quiet named alone = absurd idle
lands_by streams.renewed k idle quiet named alone = absurd idle

quiet_none : (d : cursors.Doing) → IsNotAsking d → cursors.ticket_by d ≡ None
quiet_none cursors.rests quiet = refl
quiet_none (cursors.holds reply) quiet = refl
quiet_none (cursors.asks sending) quiet = absurd quiet

-- whose token was handed over
module _ (s : ClientStream) (lent : Bool) (left : Option Tree) (k : ClosingStream) (is : k ≡ handed_over left (closed_stream lent s)) (rest : IsBetween s) where
  pub closes_last : IsSound true s → IsLast k.cursor.doing k.opened k.doing × IsSoundClosing k
  closes_last sound =
      subst (λ (x : ClosingStream). IsLast x.cursor.doing x.opened x.doing × IsSoundClosing x) (sym is)
      (last_by s.doing s.cursor.doing rest.idle rest.quiet, lands_by s.doing (handed_over left (closed_stream lent s)) rest.idle rest.quiet sound.named refl)

  -- it holds no ticket
  pub closes_none : stream_closing_ticket k ≡ None
  closes_none = ap stream_closing_ticket is ∙ none_by s.doing rest.idle
    where
      none_by : (d : Doing) → IsIdle d → landing_ticket (record s.cursor { token = left }) (landing_of d) ≡ None
      none_by streams.follows idle = quiet_none s.cursor.doing rest.quiet
      none_by streams.owes idle = quiet_none s.cursor.doing rest.quiet
      none_by (streams.resumes sending) idle = absurd idle
      none_by (streams.kills before) idle = absurd idle
      none_by streams.renewed idle = absurd idle

-- a follow that has ended does nothing
pub took_ended : (awaited : Awaited) (log : LogTold) (s : Stage) (p : FollowPlayer) → s ≡ stage.Ended → FollowMoves awaited awaited log log s p stage.Ended p same_place
took_ended awaited log s p is = subst (λ x. FollowMoves awaited awaited log log x p stage.Ended p same_place) (sym is) (took_same awaited log log stage.Ended p refl)
