-- A cursor says that there is no further document only where nothing is asked for any more.
use Rattle.std.proofs.Common.{◌≡◌, ℕ, zero, suc, ℤ, Bool, true, false, List, [], ◌∷◌, Option, refl, sym, subst}
use Rattle.mg_link.specs.Exec.{Sending}
use Rattle.mg_link.specs.Link.{Awaited, LogTold}
use Rattle.mg_link.specs.Session.{Session}
use Rattle.mg_link.specs.declared.action.Step.{Step}
use Rattle.mg_link.specs.declared.action.Step.TheVariants as step
use Rattle.mg_cursor.specs.Client.{ClientCursor, IsOver, rests}
use Rattle.mg_cursor.specs.Documents.{AdvancesOnce, DocumentCursor, Fills, TakesNext, advance_by, broken, filled, filled_with, gives, polls}
use Rattle.mg_cursor.specs.Polling.{Hears, PollsNext, ReadsReply, begins, broke, gave, goes_on, hands_out, is_over, not_built}
use Rattle.mg_cursor.specs.Seeking.{EndsSeeking, IsAtEnd, SeeksDocument, ended_as, session_after, uncounted}
use Rattle.mg_cursor.specs.declared.polls.AdvancePoll.TheVariants as advance
use Rattle.mg_cursor.specs.declared.polls.NextPoll.{NextPoll}
use Rattle.mg_cursor.specs.declared.polls.NextPoll.TheVariants as next
use Rattle.mg_cursor.specs.declared.polls.TryPoll.{TryPoll}
use Rattle.mg_cursor.specs.declared.polls.TryPoll.TheVariants as try
use Rattle.mg_cursor.specs.declared.results.AdvanceResult.{AdvanceResult}
use Rattle.mg_cursor.specs.declared.results.AdvanceResult.TheVariants as result

-- ---- a poll for the next batch

record EndsAt (c : ClientCursor) : Type 0 where
  at_end : c.doing ≡ rests
  over : IsOver c

reply_goes_on : (c : ClientCursor) (bytes : List ℕ) (c' : ClientCursor) → ReadsReply c bytes c' next.End → EndsAt c'
reply_goes_on c bytes c' (gave said says is answer) = absurd cc
reply_goes_on c bytes c' (broke e fails is answer) = absurd cc

hears_goes_on : (c : ClientCursor) (came : Step Sending (List ℕ)) (c' : ClientCursor) → Hears c came c' next.End → EndsAt c'
hears_goes_on c (step.Pending sending) c' h = let bad : next.End ≡ next.Pending = h.1 in absurd cc
hears_goes_on c (step.Done bytes) c' h = reply_goes_on c bytes c' h
hears_goes_on c (step.Failed e) c' h = let bad : next.End ≡ next.Failed e = h.1 in absurd cc

next_ends : (old new : Awaited) (log log' : LogTold) (wire : ℤ) (session : Option Session) (started : Bool) (c c' : ClientCursor) → PollsNext old new log log' wire session started c c' next.End → EndsAt c'
next_ends old new log log' wire session started c c' (hands_out bytes doing quiet none is answer) = absurd cc
next_ends old new log log' wire session started c c' (is_over doing over quiet none is answer) =
    subst EndsAt (sym is) (record { at_end = doing; over = over })
next_ends old new log log' wire session started c c' (not_built doing may e fails quiet none is answer) = absurd cc
next_ends old new log log' wire session started c c' (begins doing may sending new_is runs) = hears_goes_on c runs.came c' runs.hears
next_ends old new log log' wire session started c c' (goes_on sending doing runs) = hears_goes_on c runs.came c' runs.hears

-- ---- an advance

filled_none : (documents : List (List ℕ)) → try.Ready result.Exhausted ≡ advance_by documents → ⊥
filled_none [] is = cc
filled_none (x ∷ xs) is = cc

fills_never : (d : DocumentCursor) (c : ClientCursor) (bytes : List ℕ) (d' : DocumentCursor) → Fills d c bytes d' (try.Ready result.Exhausted) → IsAtEnd d'
fills_never d c bytes d' (filled documents these is answer) = absurd (filled_none documents answer)
fills_never d c bytes d' (broken e breaks is answer) = absurd cc

module _ (old new : Awaited) (log log' : LogTold) (wire : ℤ) (session : Option Session) (started : Bool) (d : DocumentCursor) where
  takes_ends : (c : ClientCursor) (p : NextPoll) (d' : DocumentCursor) → PollsNext old new log log' wire session started d.cursor c p → TakesNext d c p d' (try.Ready result.Exhausted) → IsAtEnd d'
  takes_ends c next.Pending d' asked takes = let bad : try.Ready result.Exhausted ≡ try.Pending = takes.1 in absurd cc
  takes_ends c (next.Batch bytes) d' asked takes = fills_never d c bytes d' takes
  takes_ends c next.End d' asked takes =
      let e = next_ends old new log log' wire session started d.cursor c asked in
      let there : IsAtEnd (filled_with c [] d) = record { at_end = e.at_end; none_left = refl; over = e.over } in
      subst IsAtEnd (sym takes.0) there
  takes_ends c (next.Failed e) d' asked takes = let bad : try.Ready result.Exhausted ≡ try.Failed e = takes.1 in absurd cc

  pub advance_ends : (d' : DocumentCursor) → AdvancesOnce old new log log' wire session started d d' (try.Ready result.Exhausted) → IsAtEnd d'
  advance_ends d' (gives x xs these quiet none is answer) = absurd cc
  advance_ends d' (polls none_left c p asked takes) = takes_ends c p d' asked takes

-- ---- a call that seeks a document

uncounted_ends : (e : DocumentCursor) → IsAtEnd e → IsAtEnd (uncounted e)
uncounted_ends e h = record { at_end = h.at_end; none_left = h.none_left; over = h.over }

not_there : (a : AdvanceResult (Unit {0})) → advance.Ready false ≡ ended_as a → a ≡ result.Exhausted
not_there (result.Advanced t) is = let bad : advance.Ready false ≡ advance.Ready true = is in absurd cc
not_there result.Exhausted is = refl
not_there result.Waiting is = absurd cc

module _ (old new : Awaited) (log log' : LogTold) (wire : ℤ) (session : Option Session) (started : Bool) (d e d' : DocumentCursor) where
  last_ends : (p : TryPoll) → AdvancesOnce old new log log' wire session started d e p → EndsSeeking p e d' (advance.Ready false) → IsAtEnd d'
  last_ends try.Pending tries ends = let bad : advance.Ready false ≡ advance.Pending = ends.1 in absurd cc
  last_ends (try.Ready a) tries ends =
      let exhausted : AdvancesOnce old new log log' wire session started d e (try.Ready result.Exhausted) = subst (λ (x : AdvanceResult (Unit {0})). AdvancesOnce old new log log' wire session started d e (try.Ready x)) (not_there a ends.2) tries in
      subst IsAtEnd (sym ends.1) (uncounted_ends e (advance_ends old new log log' wire session started d e exhausted))
  last_ends (try.Failed f) tries ends = let bad : advance.Ready false ≡ advance.Failed f = ends.1 in absurd cc

pub seek_ends : (n : ℕ) (old new : Awaited) (log log' : LogTold) (wire : ℤ) (session : Option Session) (starts : ℕ) (d d' : DocumentCursor) → SeeksDocument n old new log log' wire session starts d d' (advance.Ready false) → IsAtEnd d'
unfolding SeeksDocument
seek_ends zero old new log log' wire session starts d d' last = last_ends old new log log' wire session last.started d last.advanced d' last.poll last.tries last.ends
seek_ends (suc n) old new log log' wire session starts d d' more = seek_ends n more.0 new more.1 log' wire (session_after more.2 session) more.3 more.4 d' more.7
