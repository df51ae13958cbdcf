-- What comes of a poll of a getMore, where the cursor is seen at rest, and how the poll ended.
use Rattle.std.proofs.Common.{◌≡◌, ◌↔◌, ℕ, ℤ, pos, Bool, true, false, IsTrue, List, Option, Some, None, refl, sym, ap, ◌∙◌, subst, inl, inr}
use Rattle.std.specs.Ordering.{int_eq}
use Rattle.std.specs.Prelude.{if◌then◌else◌}
use Rattle.std.proofs.lemmas.Bool.{false_from_ne_true}
use Rattle.std.proofs.lemmas.Bool.Decides.{Decides-int_eq}
use Rattle.mg_bson.specs.Raw.{fields}
use Rattle.mg_bson.specs.Tree.{Tree, Fields}
use Rattle.mg_link.specs.Acts.{ticket_after}
use Rattle.mg_link.specs.Errors.{command_code, plain}
use Rattle.mg_link.specs.Exec.{Sending, ticket_of}
use Rattle.mg_link.specs.Link.{Awaited, LogTold}
use Rattle.mg_link.specs.Moment.{Ending, finished, failed, LinkKeeps, Moment, step_ending}
use Rattle.mg_link.specs.Session.{Session}
use Rattle.mg_server.specs.Step.{ends_cursor}
use Rattle.mg_link.specs.declared.action.Step.{Step}
use Rattle.mg_link.specs.declared.action.Step.TheVariants as step
use Rattle.mg_link.specs.declared.error.BadArgument.TheVariants as argument
use Rattle.mg_link.specs.declared.error.Error.{Error}
use Rattle.mg_link.specs.declared.error.ErrorKind.{ErrorKind}
use Rattle.mg_link.specs.declared.error.ErrorKind.TheVariants as kind
use Rattle.mg_link.proofs.Moments.{keeps_same}
use Rattle.mg_link.specs.declared.pinned.PinnedConnection.{PinnedConnection}
use Rattle.mg_link.specs.declared.pinned.PinnedConnection.TheVariants as connection
use Rattle.mg_ops.specs.Cursors.{BreaksIn, Cursor}
use Rattle.mg_ops.specs.Failing.{CannotBeSent, FailsBy}
use Rattle.mg_steps.proofs.Asking.{may_ask as may_by}
use Rattle.mg_cursor.specs.Client.{ClientCursor, Doing, IsOver, MayAsk, asks, at_rest, behind_failure, behind_kind, behind_reply, client_ticket, cut_off, is_ending, let_go, pinned_behind, rests, ticket_by, unless_ended}
use Rattle.mg_cursor.specs.Polling.{CannotAsk, Hears, PollsNext, ReadsReply, RunsMore, broke, gave, next_ending}
use Rattle.mg_cursor.specs.declared.polls.NextPoll.{NextPoll}
use Rattle.mg_cursor.specs.declared.polls.NextPoll.TheVariants as next

-- ---- errors

-- an error of another kind is no fault of the link
pub other_kind : (e : Error) (k : ErrorKind) → e ≡ plain k → (k ≡ kind.Io → ⊥) → e.kind ≡ kind.Io → ⊥
other_kind e k is other io = other (sym (ap (λ (x : Error). x.kind) is) ∙ io)

pub no_room : (e : Error) → e ≡ plain kind.OutOfMemory → e.kind ≡ kind.Io → ⊥
no_room e is = other_kind e kind.OutOfMemory is (λ bad. cc)

pub unread_not_io : (said : Fields) (e : Error) → FailsBy (BreaksIn said) e → e.kind ≡ kind.Io → ⊥
unread_not_io said e (inl room) = no_room e room
unread_not_io said e (inr breaks) = other_kind e (kind.InvalidResponse breaks.how) breaks.error (λ bad. cc)

pub unsent_not_io : (d : Fields) (e : Error) → FailsBy (CannotBeSent d) e → e.kind ≡ kind.Io → ⊥
unsent_not_io d e (inl room) = no_room e room
unsent_not_io d e (inr limit) = other_kind e kind.BsonSerialization limit.0 (λ bad. cc)

pub unasked_not_io : (c : ClientCursor) (session : Option Session) (e : Error) → FailsBy (CannotAsk c session) e → e.kind ≡ kind.Io → ⊥
unasked_not_io c session e (inl room) = no_room e room
unasked_not_io c session e (inr (inl size)) = other_kind e (kind.InvalidArgument argument.BatchSize) size.0 (λ bad. cc)
unasked_not_io c session e (inr (inr limit)) = other_kind e kind.BsonSerialization limit.0 (λ bad. cc)

-- ---- what an error says of the cursor

-- the code of a refusal says whether it ends the cursor
pub ending_by : (k : ErrorKind) (code : ℤ) → command_code k ≡ Some code → is_ending k ≡ ends_cursor code
ending_by (kind.Command refusal) code h = let same : refusal.code ≡ code = cc in ap ends_cursor same
ending_by _ code h = absurd cc

pub none_ends : (k : ErrorKind) → command_code k ≡ None → is_ending k ≡ false
none_ends (kind.Command refusal) h = absurd cc
none_ends _ h = refl

pub behind_ending : (k : ErrorKind) (c : ClientCursor) → is_ending k ≡ true → behind_kind k c ≡ let_go c
behind_ending (kind.Command refusal) c h = ap (λ (b : Bool). unless_ended b c) h
behind_ending kind.Io c h = absurd cc
behind_ending _ c h = absurd cc

pub behind_fault : (k : ErrorKind) (c : ClientCursor) → k ≡ kind.Io → behind_kind k c ≡ cut_off c
behind_fault k c is = ap (λ (x : ErrorKind). behind_kind x c) is

pub behind_other : (k : ErrorKind) (c : ClientCursor) → is_ending k ≡ false → (k ≡ kind.Io → ⊥) → behind_kind k c ≡ c
behind_other kind.Io c ends other = absurd (other refl)
behind_other (kind.Command refusal) c ends other = ap (λ (b : Bool). unless_ended b c) ends
behind_other _ c ends other = refl

-- a reply that breaks its grammar says nothing of the cursor
pub behind_broken : (said : Fields) (e : Error) (c : ClientCursor) → BreaksIn said e → behind_failure e c ≡ at_rest c
behind_broken said e c breaks = ap (λ (x : Error). behind_failure x c) breaks.error

-- ---- a cursor that is seen at rest

ended_rested : (ended : Bool) (c : ClientCursor) → at_rest (unless_ended ended (at_rest c)) ≡ at_rest (unless_ended ended c)
ended_rested true c = refl
ended_rested false c = refl

pub behind_rested : (k : ErrorKind) (c : ClientCursor) → at_rest (behind_kind k (at_rest c)) ≡ at_rest (behind_kind k c)
behind_rested kind.Io c = refl
behind_rested (kind.Command refusal) c = ended_rested (ends_cursor refusal.code) c
behind_rested _ c = refl

read_rested : (c : ClientCursor) (reply : List ℕ) (c' : ClientCursor) (r : NextPoll) → ReadsReply (at_rest c) reply c' r → ReadsReply c reply c' r
read_rested c reply c' r (gave said read is answer) = gave said read is answer
read_rested c reply c' r (broke e fails is answer) = broke e fails is answer

pub hears_rested : (c : ClientCursor) (came : Step Sending (List ℕ)) (c' : ClientCursor) (r : NextPoll) → Hears (at_rest c) came c' r → Hears c came c' r
hears_rested c (step.Pending sending) c' r h = (h.0, h.1)
hears_rested c (step.Done reply) c' r h = read_rested c reply c' r h
hears_rested c (step.Failed e) c' r h = (h.0 ∙ behind_rested e.kind c, h.1)

pub runs_rested : (old new : Awaited) (log log' : LogTold) (wire : ℤ) (started : Bool) (c d : ClientCursor) (sending : Sending) (c' : ClientCursor) (r : NextPoll) → d ≡ at_rest c → RunsMore old new log log' wire started d sending c' r → RunsMore old new log log' wire started c sending c' r
runs_rested old new log log' wire started c d sending c' r is h = record { came = h.came; runs = h.runs; hears = hears_rested c h.came c' r (subst (λ (x : ClientCursor). Hears x h.came c' r) is h.hears) }

-- ---- a cursor at rest

pub rested : (c : ClientCursor) → c.doing ≡ rests → at_rest c ≡ c
rested c is = ap (λ (d : Doing). record c { doing = d }) (sym is)

ended_doing : (ended : Bool) (c : ClientCursor) → (unless_ended ended c).doing ≡ c.doing
ended_doing true c = refl
ended_doing false c = refl

behind_doing : (k : ErrorKind) (c : ClientCursor) → (behind_kind k c).doing ≡ c.doing
behind_doing kind.Io c = refl
behind_doing (kind.Command refusal) c = ended_doing (ends_cursor refusal.code) c
behind_doing _ c = refl

-- what was noted of an error is all that there is to note
pub noted : (e : Error) (c c' : ClientCursor) → c.doing ≡ rests → c' ≡ behind_kind e.kind c → c' ≡ behind_failure e c
noted e c c' is note = note ∙ sym (rested (behind_kind e.kind c) (behind_doing e.kind c ∙ is))

-- it may ask where it is not over
pub may_ask : (c : ClientCursor) (over : Bool) → (IsTrue over ↔ IsOver c) → over ≡ false → MayAsk c
may_ask c over means not = may_by c.id c.pinned over means not

-- ---- how it ended

-- an end that turned out to be a failure, by no fault of the link
pub failing : (m m' : Moment) (ticket ticket' : Option ℕ) (e : Error) → (e.kind ≡ kind.Io → ⊥) → LinkKeeps m m' ticket ticket' finished → LinkKeeps m m' ticket ticket' (failed e)
failing m m' ticket ticket' e other k = record { tickets = k.tickets; pended = k.pended; lost = λ io. absurd (other io); prompt = λ is. other; later = k.later }

pub keeps_from : (m m' : Moment) (t u v : Option ℕ) (outcome : Ending) → t ≡ u → LinkKeeps m m' t v outcome → LinkKeeps m m' u v outcome
keeps_from m m' t u v outcome is k = subst (λ (x : Option ℕ). LinkKeeps m m' x v outcome) is k

pub keeps_to : (m m' : Moment) (t u v : Option ℕ) (outcome : Ending) → u ≡ v → LinkKeeps m m' t u outcome → LinkKeeps m m' t v outcome
keeps_to m m' t u v outcome is k = subst (λ (x : Option ℕ). LinkKeeps m m' t x outcome) is k

-- the same cursor, and the poll, as they were heard
as_heard : (m m' : Moment) (ticket : Option ℕ) (c c' : ClientCursor) (r r' : NextPoll) → c' ≡ c → r' ≡ r → LinkKeeps m m' ticket (client_ticket c) (next_ending r) → LinkKeeps m m' ticket (client_ticket c') (next_ending r')
as_heard m m' ticket c c' r r' is answer k =
    subst (λ (x : NextPoll). LinkKeeps m m' ticket (client_ticket c') (next_ending x)) (sym answer)
    (subst (λ (x : ClientCursor). LinkKeeps m m' ticket (client_ticket x) (next_ending r)) (sym is) k)

keeps_read : (m m' : Moment) (ticket : Option ℕ) (c : ClientCursor) (reply : List ℕ) (c' : ClientCursor) (r : NextPoll) → ReadsReply c reply c' r → LinkKeeps m m' ticket None finished → LinkKeeps m m' ticket (client_ticket c') (next_ending r)
keeps_read m m' ticket c reply c' r (gave said read is answer) k = as_heard m m' ticket (behind_reply said c) c' (next.Batch reply) r is answer k
keeps_read m m' ticket c reply c' r (broke e fails is answer) k = as_heard m m' ticket (at_rest c) c' (next.Failed e) r is answer (failing m m' ticket None e (unread_not_io (fields reply) e fails) k)

pub keeps_heard : (m m' : Moment) (ticket : Option ℕ) (c : ClientCursor) (came : Step Sending (List ℕ)) (c' : ClientCursor) (r : NextPoll) → Hears c came c' r → LinkKeeps m m' ticket (ticket_after ticket_of came) (step_ending came) → LinkKeeps m m' ticket (client_ticket c') (next_ending r)
keeps_heard m m' ticket c (step.Pending sending) c' r h k = as_heard m m' ticket (record c { doing = asks sending }) c' next.Pending r h.0 h.1 k
keeps_heard m m' ticket c (step.Done reply) c' r h k = keeps_read m m' ticket c reply c' r h k
keeps_heard m m' ticket c (step.Failed e) c' r h k = as_heard m m' ticket (behind_failure e c) c' (next.Failed e) r h.0 h.1 k

-- nothing was called, and no ticket is held
pub keeps_quiet : (m : Moment) (c : ClientCursor) → c.doing ≡ rests → LinkKeeps m m None (client_ticket c) finished
keeps_quiet m c is = keeps_to m m None None (client_ticket c) finished (sym (ap ticket_by is)) (keeps_same m None finished (λ n e. cc) refl tt tt)

pub keeps_failing : (m : Moment) (c : ClientCursor) (e : Error) → c.doing ≡ rests → (e.kind ≡ kind.Io → ⊥) → LinkKeeps m m None (client_ticket c) (failed e)
keeps_failing m c e is other = failing m m None (client_ticket c) e other (keeps_quiet m c is)

-- ---- what a reply tells

-- one that the server holds no longer is bound to no connection, and another stays bound
pub unbound : (id : ℤ) (p : PinnedConnection) → id ≡ pos 0 → connection.Unpinned ≡ pinned_behind id p
unbound id p is = ap (λ (b : Bool). if b then connection.Unpinned else p) (sym ((Decides-int_eq id (pos 0)).1 is))

pub still_bound : (id : ℤ) (p : PinnedConnection) → (id ≡ pos 0 → ⊥) → p ≡ pinned_behind id p
still_bound id p other = ap (λ (b : Bool). if b then connection.Unpinned else p) (sym (false_from_ne_true (int_eq id (pos 0)) (λ is. other ((Decides-int_eq id (pos 0)).0 is))))

-- each part of it was kept
pub kept_as : (c : ClientCursor) (said : Cursor) (id : ℤ) (pinned : PinnedConnection) (token : Option Tree) (doing : Doing) → id ≡ said.id → pinned ≡ pinned_behind id c.pinned → token ≡ said.token → doing ≡ rests
    → record { id = id; space = said.space; manner = c.manner; pinned = pinned; token = token; doing = doing } ≡ behind_reply said c
kept_as c said id pinned token doing same bound same_token quiet =
    ap (λ (i : ℤ). record { id = i; space = said.space; manner = c.manner; pinned = pinned; token = token; doing = doing }) same
    ∙ ap (λ (p : PinnedConnection). record { id = said.id; space = said.space; manner = c.manner; pinned = p; token = token; doing = doing }) (bound ∙ ap (λ (i : ℤ). pinned_behind i c.pinned) same)
    ∙ ap (λ (t : Option Tree). record { id = said.id; space = said.space; manner = c.manner; pinned = pinned_behind said.id c.pinned; token = t; doing = doing }) same_token
    ∙ ap (λ (d : Doing). record { id = said.id; space = said.space; manner = c.manner; pinned = pinned_behind said.id c.pinned; token = said.token; doing = d }) quiet

-- ---- the same poll of a cursor that is seen otherwise

pub polls_as : (old new : Awaited) (log log' : LogTold) (wire : ℤ) (session : Option Session) (started : Bool) (c d c' : ClientCursor) (r : NextPoll) → d ≡ c → PollsNext old new log log' wire session started d c' r → PollsNext old new log log' wire session started c c' r
polls_as old new log log' wire session started c d c' r is h = subst (λ (x : ClientCursor). PollsNext old new log log' wire session started x c' r) is h
