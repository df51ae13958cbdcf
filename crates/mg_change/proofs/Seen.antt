-- Openings as they are seen: what is true of the model is true of what is polled.
use Rattle.std.proofs.Common.{◌≡◌, ℕ, ℤ, Bool, true, false, List, Option, Some, None, Result, Ok, Err, refl, sym, ap, ◌∙◌, subst, inl, inr}
use Rattle.std.specs.Prelude.{IfErr, IfOk, OnErr}
use Rattle.mg_bson.specs.Raw.{fields}
use Rattle.mg_link.specs.Acts.{IsOut, ticket_after}
use Rattle.mg_link.specs.Causes.{one_if}
use Rattle.mg_link.specs.Exec.{Sending, ticket_at, ticket_of}
use Rattle.mg_link.specs.Link.{Awaited, LogTold}
use Rattle.mg_link.specs.Moment.{LinkKeeps, Moment, finished, step_ending}
use Rattle.mg_link.specs.Session.{Session, after_command}
use Rattle.mg_link.specs.declared.action.Step.{Step}
use Rattle.mg_link.specs.declared.action.Step.TheVariants as step
use Rattle.mg_link.specs.declared.error.BadArgument.TheVariants as argument
use Rattle.mg_link.specs.declared.error.Error.{Error}
use Rattle.mg_link.specs.declared.error.ErrorKind.TheVariants as kind
use Rattle.mg_ops.specs.Failing.{FailsBy}
use Rattle.mg_ops.specs.declared.aggregate.ChangeStreamAggregate.{ChangeStreamAggregate}
use Rattle.mg_ops.specs.declared.change_stream.ChangeStreamData.{ChangeStreamData}
use Rattle.mg_ops.specs.declared.change_stream.WatchArgs.{WatchArgs}
use Rattle.mg_cursor.specs.Seeking.{session_moved, times}
use Rattle.mg_cursor.proofs.Hearing.{failing, no_room, other_kind, unread_not_io, unsent_not_io}
use Rattle.mg_change.specs.ClientOpenings.{ClientOpening, HearsOpening, IsNextSent, KeepsOpening, OpensStream, ReadsOpening, RunsOpening, begins, broke, first_aggregate, goes_on, opened, opening_ticket, seen_step, sending_ticket}
use Rattle.mg_change.specs.ClientStreams.{ClientStream, IsNewAggregate, resuming_in}
use Rattle.mg_change.specs.OpeningView.{IsOpens, opens_of}
use Rattle.mg_change.specs.Steps.{CannotResume}
use Rattle.mg_change.specs.StreamView.{IsStream, changes_of}
use Rattle.mg_change.specs.declared.changes.Changes.{Changes}
use Rattle.mg_change.specs.declared.opens.Opens.{Opens}
use Rattle.mg_change.proofs.Opened.{SoundBehind, opened_sound}

-- ---- answers

pub seen_twice : {A B C D E F : Type 0} (f : A → C) (g : B → D) (h : C → E) (i : D → F) (r : Step A B) → seen_step (λ a. h (f a)) (λ b. i (g b)) r ≡ seen_step h i (seen_step f g r)
seen_twice f g h i (step.Pending a) = refl
seen_twice f g h i (step.Done b) = refl
seen_twice f g h i (step.Failed e) = refl

pub seen_keeps : {A B C D : Type 0} (m m' : Moment) (ticket : Option ℕ) (of : C → Option ℕ) (f : A → C) (g : B → D) (r : Step A B) → LinkKeeps m m' ticket (ticket_after of (seen_step f g r)) (step_ending (seen_step f g r)) → LinkKeeps m m' ticket (ticket_after (λ a. of (f a)) r) (step_ending r)
seen_keeps m m' ticket of f g (step.Pending a) k = k
seen_keeps m m' ticket of f g (step.Done b) k = k
seen_keeps m m' ticket of f g (step.Failed e) k = k

pub seen_kept : {A B C D : Type 0} (P : C → Type 0) (Q : D → Type 0) (f : A → C) (g : B → D) (r : Step A B) → KeepsOpening P Q (seen_step f g r) → KeepsOpening (λ a. P (f a)) (λ b. Q (g b)) r
seen_kept P Q f g (step.Pending a) h = h
seen_kept P Q f g (step.Done b) h = h
seen_kept P Q f g (step.Failed e) h = h

-- the same of an answer that is seen so
pub polled_keeps : {A B C D : Type 0} (m m' : Moment) (ticket : Option ℕ) (of : C → Option ℕ) (f : A → C) (g : B → D) (r : Step A B) (p : Step C D) → seen_step f g r ≡ p → LinkKeeps m m' ticket (ticket_after of p) (step_ending p) → LinkKeeps m m' ticket (ticket_after (λ a. of (f a)) r) (step_ending r)
polled_keeps {C = C} {D = D} m m' ticket of f g r p is k = seen_keeps m m' ticket of f g r (subst (λ (x : Step C D). LinkKeeps m m' ticket (ticket_after of x) (step_ending x)) (sym is) k)

pub polled_kept : {A B C D : Type 0} (P : C → Type 0) (Q : D → Type 0) (f : A → C) (g : B → D) (r : Step A B) (p : Step C D) → seen_step f g r ≡ p → KeepsOpening P Q p → KeepsOpening (λ a. P (f a)) (λ b. Q (g b)) r
polled_kept P Q f g r p is h = seen_kept P Q f g r (subst (KeepsOpening P Q) (sym is) h)

pub polled_seen : {A B C D E F : Type 0} (f : A → C) (g : B → D) (h : C → E) (i : D → F) (r : Step A B) (p : Step C D) → seen_step f g r ≡ p → seen_step h i p ≡ seen_step (λ a. h (f a)) (λ b. i (g b)) r
polled_seen f g h i r p is = sym (seen_twice f g h i r ∙ ap (seen_step h i) is)

-- a session that was told once at most
pub moved_once : (started : Bool) (s : Session) → times (one_if started) after_command s ≡ session_moved started s
moved_once true s = refl
moved_once false s = refl

-- ---- the request

-- the one on its way is sent next, or a new one
pub sent_again : (a : ChangeStreamAggregate) (wire : ℤ) (session : Option Session) (before : Option Sending) (sent : Sending) → before ≡ Some sent → IsNextSent a wire session before sent
sent_again a wire session before sent is = subst (λ (b : Option Sending). IsNextSent a wire session b sent) (sym is) refl

pub sent_new : (a : ChangeStreamAggregate) (wire wire' : ℤ) (session : Option Session) (before : Option Sending) (built : Result Sending Error) → wire' ≡ wire → before ≡ None → IfOk built (λ sending. IsNewAggregate (resuming_in a wire' session) session sending) → IfOk built (λ sending. IsNextSent a wire session before sending)
sent_new a wire wire' session before built same is h =
    subst (λ (b : Option Sending). IfOk built (λ sending. IsNextSent a wire session b sending)) (sym is) (subst (λ (w : ℤ). IfOk built (λ sending. IsNewAggregate (resuming_in a w session) session sending)) same h)

pub unsent_why : (a : ChangeStreamAggregate) (wire wire' : ℤ) (session : Option Session) (built : Result Sending Error) → wire' ≡ wire → IfErr built (λ e. FailsBy (CannotResume a wire' session) e) → IfErr built (λ e. FailsBy (CannotResume a wire session) e)
unsent_why a wire wire' session built same h = subst (λ (w : ℤ). IfErr built (λ e. FailsBy (CannotResume a w session) e)) same h

pub none_before : (before : Option Sending) (built : Result Sending Error) → before ≡ None → OnErr built (before ≡ None)
none_before before (Ok sending) is = tt
none_before before (Err e) is = is

-- what is sent next has the ticket that is held
pub next_ticket : (a : ChangeStreamAggregate) (wire : ℤ) (session : Option Session) (before : Option Sending) (sending : Sending) → IsNextSent a wire session before sending → ticket_of sending ≡ sending_ticket before
next_ticket a wire session None sending next = ap ticket_at next.new
next_ticket a wire session (Some sent) sending next = ap ticket_of next

pub next_out : (awaited : Awaited) (a : ChangeStreamAggregate) (wire : ℤ) (session : Option Session) (before : Option Sending) (sending : Sending) → IsNextSent a wire session before sending → IsOut awaited (sending_ticket before) → IsOut awaited (ticket_of sending)
next_out awaited a wire session before sending next out = subst (IsOut awaited) (sym (next_ticket a wire session before sending next)) out

-- an aggregate that remembers nothing
pub first_as : (a : ChangeStreamAggregate) → a.resume ≡ None → a ≡ first_aggregate a.args
first_as a first = ap (λ (r : Option ChangeStreamData). record a { resume = r }) first

hears_again : (wire : ℤ) (args : WatchArgs) (before after : Option Sending) (came : Step Sending (List ℕ)) (r : Step ClientOpening ClientStream) → HearsOpening wire (record { args = args; sending = before }) came r → HearsOpening wire (record { args = args; sending = after }) came r
hears_again wire args before after (step.Pending waiting) r h = h
hears_again wire args before after (step.Done bytes) r (opened out opens answer) = opened out opens answer
hears_again wire args before after (step.Done bytes) r (broke e by answer) = broke e by answer
hears_again wire args before after (step.Failed e) r h = h

pub opens_next : (old new : Awaited) (log log' : LogTold) (wire : ℤ) (session : Option Session) (started : Bool) (args : WatchArgs) (before : Option Sending) (sending : Sending) (r : Step ClientOpening ClientStream) → IsNextSent (first_aggregate args) wire session before sending → RunsOpening old new log log' wire started (record { args = args; sending = None }) sending r
    → OpensStream old new log log' wire session started (record { args = args; sending = before }) r
opens_next old new log log' wire session started args None sending r next h = begins refl sending next h
opens_next old new log log' wire session started args (Some sent) sending r next h =
    goes_on sending (ap Some (sym next)) (record { came = h.came; runs = h.runs; hears = hears_again wire args None (Some sent) h.came r h.hears })

-- ---- what is kept of the link

pub unresumed_not_io : (a : ChangeStreamAggregate) (wire : ℤ) (session : Option Session) (e : Error) → FailsBy (CannotResume a wire session) e → e.kind ≡ kind.Io → ⊥
unresumed_not_io a wire session e (inl room) = no_room e room
unresumed_not_io a wire session e (inr (inl bad)) = other_kind e (kind.InvalidArgument argument.BatchSize) bad.0 (λ x. cc)
unresumed_not_io a wire session e (inr (inr cannot)) = unsent_not_io (resuming_in a wire session) e (inr cannot)

read_keeps : (m m' : Moment) (ticket : Option ℕ) (wire : ℤ) (o : ClientOpening) (bytes : List ℕ) (r : Step ClientOpening ClientStream) → ReadsOpening wire o bytes r → LinkKeeps m m' ticket None finished → LinkKeeps m m' ticket (ticket_after opening_ticket r) (step_ending r)
read_keeps m m' ticket wire o bytes r (opened out opens answer) k = subst (λ (x : Step ClientOpening ClientStream). LinkKeeps m m' ticket (ticket_after opening_ticket x) (step_ending x)) (sym answer) k
read_keeps m m' ticket wire o bytes r (broke e by answer) k =
    subst (λ (x : Step ClientOpening ClientStream). LinkKeeps m m' ticket (ticket_after opening_ticket x) (step_ending x)) (sym answer) (failing m m' ticket None e (unread_not_io (fields bytes) e by) k)

pub heard_keeps : (m m' : Moment) (ticket : Option ℕ) (wire : ℤ) (o : ClientOpening) (came : Step Sending (List ℕ)) (r : Step ClientOpening ClientStream) → HearsOpening wire o came r → LinkKeeps m m' ticket (ticket_after ticket_of came) (step_ending came) → LinkKeeps m m' ticket (ticket_after opening_ticket r) (step_ending r)
heard_keeps m m' ticket wire o (step.Pending waiting) r h k = subst (λ (x : Step ClientOpening ClientStream). LinkKeeps m m' ticket (ticket_after opening_ticket x) (step_ending x)) (sym h) k
heard_keeps m m' ticket wire o (step.Done bytes) r h k = read_keeps m m' ticket wire o bytes r h k
heard_keeps m m' ticket wire o (step.Failed e) r h k = subst (λ (x : Step ClientOpening ClientStream). LinkKeeps m m' ticket (ticket_after opening_ticket x) (step_ending x)) (sym h) k

-- ---- what is sound

-- the stream of a reply is
pub read_sound : (plain : Bool) (wire : ℤ) (o : ClientOpening) (bytes : List ℕ) (r : Step ClientOpening ClientStream) → ReadsOpening wire o bytes r → SoundBehind plain r
read_sound plain wire o bytes r (opened out opens answer) = subst (SoundBehind plain) (sym answer) (opened_sound plain o.args wire bytes out opens)
read_sound plain wire o bytes r (broke e by answer) = subst (SoundBehind plain) (sym answer) tt

pub keeps_opens : (plain : Bool) (a : ChangeStreamAggregate) (r : Step Opens Changes) → a.resume ≡ None → SoundBehind plain (seen_step opens_of changes_of r) → KeepsOpening (λ o. Unit {0}) (IsStream plain) r → KeepsOpening (λ (o : Opens). o.aggregate ≡ a) (λ s. Unit {0}) r → KeepsOpening (IsOpens plain) (IsStream plain) r
keeps_opens plain a (step.Pending o) first sound kept same = record { first = ap (λ (x : ChangeStreamAggregate). x.resume) same ∙ first; sound = sound }
keeps_opens plain a (step.Done s) first sound kept same = kept
keeps_opens plain a (step.Failed e) first sound kept same = tt
