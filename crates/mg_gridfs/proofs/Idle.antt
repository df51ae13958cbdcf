-- A list that is read has nothing on its way while documents are left.
use Rattle.std.proofs.Common.{◌≡◌, ℕ, zero, suc, ℤ, Bool, List, [], ◌∷◌, Option, None, refl, sym, ap, ◌∙◌, subst, inl, inr}
use Rattle.mg_link.specs.Exec.{Sending}
use Rattle.mg_link.specs.Link.{Awaited, LogTold}
use Rattle.mg_link.specs.Session.{Session}
use Rattle.mg_link.specs.declared.action.Step.{Step}
use Rattle.mg_link.specs.declared.action.Step.TheVariants as came
use Rattle.mg_cursor.specs.Client.{ClientCursor, client_ticket, rests, ticket_by}
use Rattle.mg_cursor.specs.Documents.{AdvancesOnce, DocumentCursor, Fills, TakesNext, advance_by, broken, filled, filled_with, gives, polls}
use Rattle.mg_cursor.specs.Polling.{Hears, PollsNext, ReadsReply, begins, broke, gave, goes_on, hands_out, is_over, not_built}
use Rattle.mg_cursor.specs.Seeking.{EndsSeeking, SeeksDocument, TriesAdvance, ended_as, kept_behind, session_after}
use Rattle.mg_cursor.specs.declared.polls.AdvancePoll.{AdvancePoll}
use Rattle.mg_cursor.specs.declared.polls.AdvancePoll.TheVariants as advance
use Rattle.mg_cursor.specs.declared.polls.NextPoll.{NextPoll}
use Rattle.mg_cursor.specs.declared.polls.NextPoll.TheVariants as next
use Rattle.mg_cursor.specs.declared.polls.TryPoll.{TryPoll}
use Rattle.mg_cursor.specs.declared.polls.TryPoll.TheVariants as try
use Rattle.mg_cursor.specs.declared.results.AdvanceResult.{AdvanceResult}
use Rattle.mg_cursor.specs.declared.results.AdvanceResult.TheVariants as result
use Rattle.mg_gridfs.specs.Checks.{IsIdleList}

-- ---- one batch

-- behind a poll that ended nothing is on its way
abbrev NextIdle : NextPoll → ClientCursor → Type 0
NextIdle next.Pending c = Unit {0}
NextIdle (next.Batch reply) c = client_ticket c ≡ None
NextIdle next.End c = client_ticket c ≡ None
NextIdle (next.Failed e) c = client_ticket c ≡ None

idle_rest : (r : NextPoll) (c : ClientCursor) → c.doing ≡ rests → NextIdle r c
idle_rest next.Pending c is = tt
idle_rest (next.Batch reply) c is = ap ticket_by is
idle_rest next.End c is = ap ticket_by is
idle_rest (next.Failed e) c is = ap ticket_by is

read_idle : (c : ClientCursor) (reply : List ℕ) (c' : ClientCursor) (r : NextPoll) → ReadsReply c reply c' r → NextIdle r c'
read_idle c reply c' r (gave said says is answer) = idle_rest r c' (ap (λ (x : ClientCursor). x.doing) is)
read_idle c reply c' r (broke e fails is answer) = idle_rest r c' (ap (λ (x : ClientCursor). x.doing) is)

heard_idle : (c : ClientCursor) (p : Step Sending (List ℕ)) (c' : ClientCursor) (r : NextPoll) → Hears c p c' r → NextIdle r c'
heard_idle c (came.Pending s) c' r h = subst (λ (x : NextPoll). NextIdle x c') (sym h.1) tt
heard_idle c (came.Done reply) c' r h = read_idle c reply c' r h
heard_idle c (came.Failed e) c' r h = idle_rest r c' (ap (λ (x : ClientCursor). x.doing) h.0)

module _ (old new : Awaited) (log log' : LogTold) (wire : ℤ) (session : Option Session) (started : Bool) where
  next_idle : (c c' : ClientCursor) (r : NextPoll) → PollsNext old new log log' wire session started c c' r → NextIdle r c'
  next_idle c c' r (hands_out reply at none same is answer) = idle_rest r c' (ap (λ (x : ClientCursor). x.doing) is)
  next_idle c c' r (is_over at over none same is answer) = idle_rest r c' (ap (λ (x : ClientCursor). x.doing) is ∙ at)
  next_idle c c' r (not_built at may e fails none same is answer) = idle_rest r c' (ap (λ (x : ClientCursor). x.doing) is ∙ at)
  next_idle c c' r (begins at may s request asked) = heard_idle c asked.came c' r asked.hears
  next_idle c c' r (goes_on s at asked) = heard_idle c asked.came c' r asked.hears

-- ---- one advance

abbrev pub TryIdle : TryPoll → DocumentCursor → Type 0
TryIdle try.Pending d = IsIdleList d
TryIdle (try.Ready a) d = client_ticket d.cursor ≡ None
TryIdle (try.Failed e) d = client_ticket d.cursor ≡ None

filled_ticket : (c : ClientCursor) (documents : List (List ℕ)) (d : DocumentCursor) → client_ticket (filled_with c documents d).cursor ≡ client_ticket c
filled_ticket c [] d = refl
filled_ticket c (x ∷ xs) d = refl

by_first : (documents : List (List ℕ)) (d : DocumentCursor) → client_ticket d.cursor ≡ None → TryIdle (advance_by documents) d
by_first [] d none = none
by_first (x ∷ xs) d none = none

fills_idle : (d : DocumentCursor) (c : ClientCursor) (bytes : List ℕ) (d' : DocumentCursor) (r : TryPoll) → client_ticket c ≡ None → Fills d c bytes d' r → TryIdle r d'
fills_idle d c bytes d' r none (filled documents read is answer) =
    subst (λ (p : TryPoll). TryIdle p d') (sym answer) (by_first documents d' (ap (λ (e : DocumentCursor). client_ticket e.cursor) is ∙ filled_ticket c documents d ∙ none))
fills_idle d c bytes d' r none (broken e breaks is answer) = subst (λ (p : TryPoll). TryIdle p d') (sym answer) (ap (λ (e : DocumentCursor). client_ticket e.cursor) is ∙ none)

takes_idle : (d : DocumentCursor) (c : ClientCursor) (p : NextPoll) (d' : DocumentCursor) (r : TryPoll) → NextIdle p c → TakesNext d c p d' r → TryIdle r d'
takes_idle d c next.Pending d' r none h = subst (λ (p : TryPoll). TryIdle p d') (sym h.1) (inl (ap (λ (e : DocumentCursor). e.behind) h.0))
takes_idle d c (next.Batch bytes) d' r none h = fills_idle d c bytes d' r none h
takes_idle d c next.End d' r none h = subst (λ (p : TryPoll). TryIdle p d') (sym h.1) (ap (λ (e : DocumentCursor). client_ticket e.cursor) h.0 ∙ none)
takes_idle d c (next.Failed e) d' r none h = subst (λ (p : TryPoll). TryIdle p d') (sym h.1) (ap (λ (x : DocumentCursor). client_ticket x.cursor) h.0 ∙ none)

no_ticket : (d : DocumentCursor) (x : List ℕ) (xs : List (List ℕ)) → d.behind ≡ x ∷ xs → IsIdleList d → client_ticket d.cursor ≡ None
no_ticket d x xs these (inl empty) = let bad : x ∷ xs ≡ [] = sym these ∙ empty in absurd cc
no_ticket d x xs these (inr none) = none

advance_idle : (old new : Awaited) (log log' : LogTold) (wire : ℤ) (session : Option Session) (started : Bool) (d d' : DocumentCursor) (r : TryPoll) → IsIdleList d → AdvancesOnce old new log log' wire session started d d' r → TryIdle r d'
advance_idle old new log log' wire session started d d' r idle (gives x xs these quiet same is answer) =
    subst (λ (p : TryPoll). TryIdle p d') (sym answer) (ap (λ (e : DocumentCursor). client_ticket e.cursor) is ∙ no_ticket d x xs these idle)
advance_idle old new log log' wire session started d d' r idle (polls none c p polled takes) = takes_idle d c p d' r (next_idle old new log log' wire session started d.cursor c p polled) takes

kept_idle : (r : TryPoll) (d : DocumentCursor) → TryIdle r d → TryIdle r (kept_behind r d)
kept_idle try.Pending d idle = idle
kept_idle (try.Ready a) d idle = idle
kept_idle (try.Failed e) d idle = idle

pub tries_idle : (old new : Awaited) (log log' : LogTold) (wire : ℤ) (session : Option Session) (started : Bool) (d d' : DocumentCursor) (r : TryPoll) → IsIdleList d → TriesAdvance old new log log' wire session started d d' r → TryIdle r d'
tries_idle old new log log' wire session started d d' r idle t = subst (λ (e : DocumentCursor). TryIdle r e) (sym t.kept) (kept_idle r t.advanced (advance_idle old new log log' wire session started d t.advanced r idle t.tries))

-- ---- up to a document

abbrev pub IdleBy : AdvancePoll → DocumentCursor → Type 0
IdleBy advance.Pending d = IsIdleList d
IdleBy (advance.Ready there) d = client_ticket d.cursor ≡ None
IdleBy (advance.Failed e) d = client_ticket d.cursor ≡ None

ended_idle : (a : AdvanceResult (Unit {0})) (d : DocumentCursor) → client_ticket d.cursor ≡ None → IdleBy (ended_as a) d
ended_idle (result.Advanced t) d none = none
ended_idle result.Exhausted d none = none
ended_idle result.Waiting d none = none

ends_idle : (p : TryPoll) (d d' : DocumentCursor) (r : AdvancePoll) → TryIdle p d → EndsSeeking p d d' r → IdleBy r d'
ends_idle try.Pending d d' r idle h = subst (λ (x : AdvancePoll). IdleBy x d') (sym h.1) (subst IsIdleList (sym h.0) idle)
ends_idle (try.Ready a) d d' r idle h = subst (λ (x : AdvancePoll). IdleBy x d') (sym h.2) (ended_idle a d' (ap (λ (e : DocumentCursor). client_ticket e.cursor) h.1 ∙ idle))
ends_idle (try.Failed e) d d' r idle h = subst (λ (x : AdvancePoll). IdleBy x d') (sym h.1) (ap (λ (x : DocumentCursor). client_ticket x.cursor) h.0 ∙ idle)

pub seeks_idle : (n : ℕ) (old new : Awaited) (log log' : LogTold) (wire : ℤ) (session : Option Session) (starts : ℕ) (d d' : DocumentCursor) (r : AdvancePoll) → IsIdleList d → SeeksDocument n old new log log' wire session starts d d' r → IdleBy r d'
unfolding SeeksDocument
seeks_idle zero old new log log' wire session starts d d' r idle s = ends_idle s.poll s.advanced d' r (advance_idle old new log log' wire session s.started d s.advanced s.poll idle s.tries) s.ends
seeks_idle (suc n) old new log log' wire session starts d d' r idle s =
    let first = s.5 in
    let none = advance_idle old s.0 log s.1 wire session s.2 d first.advanced _ idle first.tries in
    let on : IsIdleList s.4 = inr (ap (λ (e : DocumentCursor). client_ticket e.cursor) first.counts ∙ none) in
    seeks_idle n s.0 new s.1 log' wire (session_after s.2 session) s.3 s.4 d' r on s.7
