-- A stream between two calls: it holds no ticket, and what it has in hand may be forgotten.
use Rattle.std.proofs.Common.{◌≡◌, ℕ, ℤ, Bool, List, [], ◌∷◌, map, Option, None, refl, subst, sym, ap, ◌∙◌}
use Rattle.mg_bson.specs.Raw.{fields}
use Rattle.mg_bson.specs.Tree.{Fields, Tree}
use Rattle.mg_link.specs.Exec.{Sending}
use Rattle.mg_server.specs.Follow.{Moved}
use Rattle.mg_link.specs.Link.{Awaited, LogTold}
use Rattle.mg_link.specs.Session.{Session}
use Rattle.mg_server.specs.State.{Start, Watch}
use Rattle.mg_link.specs.declared.action.Step.{Step}
use Rattle.mg_link.specs.declared.action.Step.TheVariants as step
use Rattle.mg_server.proofs.Moves.{stayed}
use Rattle.mg_ops.specs.declared.change_stream.WatchArgs.{WatchArgs}
use Rattle.mg_cursor.specs.Client.{ClientCursor, asks, holds, rests}
use Rattle.mg_cursor.specs.Client as cursors
use Rattle.mg_cursor.specs.Closing.{IsNotAsking}
use Rattle.mg_change.specs.ClientOpenings.{ClientOpening, HearsOpening, OpensStream, begins, broke, goes_on, not_built, opened, opened_with}
use Rattle.mg_change.specs.ClientStreams.{ClientStream, Doing, IsBetween, IsIdle, follows, kills, owes, renewed, resumes, stream_ticket, stream_token, ticket_by}
use Rattle.mg_change.specs.Following.{follow_by, follow_of, idle_by, with_more}
use Rattle.mg_change.proofs.Forgetting.{gives_up}

-- ---- no ticket

cursor_quiet : (c : ClientCursor) (d : cursors.Doing) → c.doing ≡ d → IsNotAsking d → ticket_by c follows ≡ None
cursor_quiet c rests is quiet = ap (λ (x : cursors.Doing). cursors.ticket_by x) is
cursor_quiet c (holds bytes) is quiet = ap (λ (x : cursors.Doing). cursors.ticket_by x) is
cursor_quiet c (asks sending) is quiet = absurd quiet

holds_none : (c : ClientCursor) (d : Doing) → IsIdle d → IsNotAsking c.doing → ticket_by c d ≡ None
holds_none c follows idle quiet = cursor_quiet c c.doing refl quiet
holds_none c owes idle quiet = refl
holds_none c (resumes sending) idle quiet = absurd idle
holds_none c (kills old) idle quiet = absurd idle
holds_none c renewed idle quiet = absurd idle

pub between_holds_none : (s : ClientStream) → IsBetween s → stream_ticket s ≡ None
between_holds_none s b = holds_none s.cursor s.doing b.idle b.quiet

-- ---- a new stream

abbrev BetweenBy : Step ClientOpening ClientStream → Type 0
BetweenBy (step.Pending o) = Unit {0}
BetweenBy (step.Done x) = IsBetween x
BetweenBy (step.Failed e) = Unit {0}

abbrev IsNoStream : Step ClientOpening ClientStream → Type 0
IsNoStream (step.Pending o) = Unit {0}
IsNoStream (step.Done s) = ⊥
IsNoStream (step.Failed e) = Unit {0}

between_as : (s : ClientStream) (r : Step ClientOpening ClientStream) → IsBetween s → r ≡ step.Done s → (t : ClientStream) → r ≡ step.Done t → IsBetween t
between_as s r b is t also = subst (λ (x : Step ClientOpening ClientStream). BetweenBy x) (sym is ∙ also) b

not_done : {B : Type 0} (r r' : Step ClientOpening ClientStream) → r ≡ r' → (t : ClientStream) → r ≡ step.Done t → IsNoStream r' → B
not_done r r' is t also none = absurd (subst (λ (x : Step ClientOpening ClientStream). IsNoStream x) (sym is ∙ also) none)

heard_between : (wire : ℤ) (o : ClientOpening) (came : Step Sending (List ℕ)) (r : Step ClientOpening ClientStream) → HearsOpening wire o came r → (t : ClientStream) → r ≡ step.Done t → IsBetween t
heard_between wire o (step.Pending sending) r h t is = not_done r _ h t is tt
heard_between wire o (step.Done reply) r (opened out opens answer) t is = between_as (opened_with o.args wire out) r (record { idle = tt; quiet = tt; counts_are = refl }) answer t is
heard_between wire o (step.Done reply) r (broke e fails answer) t is = not_done r _ answer t is tt
heard_between wire o (step.Failed e) r h t is = not_done r _ h t is tt

-- the stream that an opening gives is between two calls
pub opened_between : (old new : Awaited) (log log' : LogTold) (wire : ℤ) (session : Option Session) (started : Bool) (o : ClientOpening) (r : Step ClientOpening ClientStream) → OpensStream old new log log' wire session started o r → (s : ClientStream) → r ≡ step.Done s → IsBetween s
opened_between old new log log' wire session started o r (not_built unsent e fails nothing none answer) s is = not_done r _ answer s is tt
opened_between old new log log' wire session started o r (begins unsent sending its runs) s is = heard_between wire o runs.came r runs.hears s is
opened_between old new log log' wire session started o r (goes_on sending sent runs) s is = heard_between wire o runs.came r runs.hears s is

-- what is watched stays, behind whatever an opening comes to
abbrev HasArgs : WatchArgs → Step ClientOpening ClientStream → Type 0
HasArgs args (step.Pending o) = o.args ≡ args
HasArgs args (step.Done s) = s.aggregate.args ≡ args
HasArgs args (step.Failed e) = Unit {0}

heard_args : (wire : ℤ) (o : ClientOpening) (came : Step Sending (List ℕ)) (r : Step ClientOpening ClientStream) → HearsOpening wire o came r → HasArgs o.args r
heard_args wire o (step.Pending sending) r h = subst (HasArgs o.args) (sym h) refl
heard_args wire o (step.Done reply) r (opened out opens answer) = subst (HasArgs o.args) (sym answer) refl
heard_args wire o (step.Done reply) r (broke e fails answer) = subst (HasArgs o.args) (sym answer) tt
heard_args wire o (step.Failed e) r h = subst (HasArgs o.args) (sym h) tt

keeps_args : (old new : Awaited) (log log' : LogTold) (wire : ℤ) (session : Option Session) (started : Bool) (o : ClientOpening) (r : Step ClientOpening ClientStream) → OpensStream old new log log' wire session started o r → HasArgs o.args r
keeps_args old new log log' wire session started o r (not_built unsent e fails nothing none answer) = subst (HasArgs o.args) (sym answer) tt
keeps_args old new log log' wire session started o r (begins unsent sending its runs) = heard_args wire o runs.came r runs.hears
keeps_args old new log log' wire session started o r (goes_on sending sent runs) = heard_args wire o runs.came r runs.hears

pub opening_args : (old new : Awaited) (log log' : LogTold) (wire : ℤ) (session : Option Session) (started : Bool) (o : ClientOpening) (r : Step ClientOpening ClientStream) → OpensStream old new log log' wire session started o r → (next : ClientOpening) → r ≡ step.Pending next → next.args ≡ o.args
opening_args old new log log' wire session started o r h next is = subst (HasArgs o.args) is (keeps_args old new log log' wire session started o r h)

pub opened_args : (old new : Awaited) (log log' : LogTold) (wire : ℤ) (session : Option Session) (started : Bool) (o : ClientOpening) (r : Step ClientOpening ClientStream) → OpensStream old new log log' wire session started o r → (s : ClientStream) → r ≡ step.Done s → s.aggregate.args ≡ o.args
opened_args old new log log' wire session started o r h s is = subst (HasArgs o.args) is (keeps_args old new log log' wire session started o r h)

-- ---- what it has in hand

hand_forgets : (log : LogTold) (awaited : Awaited) (d : cursors.Doing) → IsNotAsking d → (events : List Fields) (upto : Option Tree) (w : Watch) (start : Start) (opened : Option ℕ) (cursor : ℤ) (token : Option Tree) (answered : List Fields)
    → Moved log log (with_more awaited d events upto (idle_by w start opened cursor token answered)) (idle_by w start opened cursor token answered)
hand_forgets log awaited rests quiet [] upto w start first cursor token answered = gives_up log (with_more awaited rests [] upto (idle_by w start first cursor token answered)) tt
hand_forgets log awaited rests quiet (e ∷ es) upto w start first cursor token answered = gives_up log (with_more awaited rests (e ∷ es) upto (idle_by w start first cursor token answered)) tt
hand_forgets log awaited (holds bytes) quiet events upto w start first cursor token answered = gives_up log (with_more awaited (holds bytes) events upto (idle_by w start first cursor token answered)) tt
hand_forgets log awaited (asks sending) quiet events upto w start first cursor token answered = absurd quiet

forgets_by : (log : LogTold) (awaited : Awaited) (d : Doing) (c : ClientCursor) → IsIdle d → IsNotAsking c.doing → (events : List Fields) (w : Watch) (start : Start) (opened : Option ℕ) (token : Option Tree) (answered : List Fields)
    → Moved log log (follow_by awaited d c events (idle_by w start opened c.id token answered)) (idle_by w start opened c.id token answered)
forgets_by log awaited follows c idle quiet events w start first token answered = hand_forgets log awaited c.doing quiet events c.token w start first c.id token answered
forgets_by log awaited owes c idle quiet events w start first token answered = stayed log log (idle_by w start first c.id token answered) refl
forgets_by log awaited (resumes sending) c idle quiet events w start first token answered = absurd idle
forgets_by log awaited (kills old) c idle quiet events w start first token answered = absurd idle
forgets_by log awaited renewed c idle quiet events w start first token answered = absurd idle

-- what a stream between two calls has in hand may be forgotten
pub between_forgets : (log : LogTold) (awaited : Awaited) (w : Watch) (start : Start) (s : ClientStream) (opened : Option ℕ) (answered : List Fields) → IsBetween s
    → Moved log log (follow_of awaited w start s opened answered) (idle_by w start opened s.cursor.id (stream_token s) answered)
between_forgets log awaited w start s first answered b = forgets_by log awaited s.doing s.cursor b.idle b.quiet (map fields s.behind) w start first (stream_token s) answered
