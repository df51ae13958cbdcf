-- What a call that opens a stream sends, poll by poll.
use Rattle.std.proofs.Common.{◌≡◌, ◌<◌, ◌≤◌, ◌∷◌, [], List, ℕ, zero, suc, ℤ, Bool, Option, Some, None, sym, ap, ◌∙◌, subst, arith}
use Rattle.mg_bson.specs.Raw.{fields}
use Rattle.mg_bson.specs.Tree.{Fields}
use Rattle.mg_link.specs.Exec.{Runs, Sending, Stage, first, second, unsent}
use Rattle.mg_link.specs.Link.{Awaited, LogTold}
use Rattle.mg_link.specs.Session.{Session}
use Rattle.mg_link.specs.declared.action.Step.{Step}
use Rattle.mg_link.specs.declared.action.Step.TheVariants as step
use Rattle.mg_exec.proofs.Execs.{runs_of}
use Rattle.mg_ops.specs.declared.change_stream.WatchArgs.{WatchArgs}
use Rattle.mg_change.specs.ClientOpenings.{ClientOpening, HearsOpening, OpensStream, RunsOpening, begins, broke, first_aggregate, goes_on, not_built, opened}
use Rattle.mg_change.specs.ClientStreams.{ClientStream, resuming_in}
use Rattle.mg_change.specs.OpenedStreams.{IsOpening, OpenSent}
use Rattle.mg_change.specs.Sent.{Falling, opening_places, resuming_places}
use Rattle.mg_change.proofs.Garbled.{still_waits}
use Rattle.mg_change.proofs.Sent.{Tried, falls, resume_sent, resume_waits, tried_below, tried_none, tried_on}

-- ---- places

one_resuming : (stage : Stage) → 1 ≤ resuming_places stage
one_resuming unsent = omega arith
one_resuming (first ticket) = omega arith
one_resuming (second ticket) = omega arith

pub one_opening : (o : Option Sending) → 1 ≤ opening_places o
one_opening None = omega arith
one_opening (Some sending) = one_resuming sending.stage

-- where each place will do, all may stand one place lower
lower_from : (may : Fields → Type 0) (n : ℕ) (c : Fields) (cs : List Fields) (m place : ℕ) → place < suc n → may c → Falling (λ (at : ℕ). may) place cs (suc m) → ((k : ℕ) → Falling (λ (at : ℕ). may) (suc k) cs (suc m) → Falling (λ (at : ℕ). may) k cs m)
    → Falling (λ (at : ℕ). may) n (c ∷ cs) m
lower_from may n c cs m zero below is rest others = let low : suc m ≤ zero = falls (λ (at : ℕ). may) zero cs (suc m) rest in absurd (omega (arith, low))
lower_from may n c cs m (suc place) below is rest others = (place, omega (arith, below), is, others place rest)

lower : (may : Fields → Type 0) (n : ℕ) (cs : List Fields) (m : ℕ) → Falling (λ (at : ℕ). may) (suc n) cs (suc m) → Falling (λ (at : ℕ). may) n cs m
lower may n [] m f = let all : suc m ≤ suc n = f in omega (arith, all)
lower may n (c ∷ cs) m f = lower_from may n c cs m f.0 f.1 f.2 f.3 (λ k below. lower may k cs m below)

-- ---- polls

-- what is on its way is its aggregate
abbrev pub SendsIt : WatchArgs → ℤ → Option Session → Option Sending → Type 0
SendsIt args wire session None = Unit {0}
SendsIt args wire session (Some sending) = fields sending.command ≡ resuming_in (first_aggregate args) wire session

-- what the polls so far sent
abbrev pub OpenSends : LogTold → LogTold → ℤ → Option Session → WatchArgs → Step ClientOpening ClientStream → Type 0
OpenSends log log' wire session args (step.Pending o) = SendsIt args wire session o.sending × Tried (IsOpening args wire session) log log' 3 (opening_places o.sending)
OpenSends log log' wire session args (step.Done s) = Tried (IsOpening args wire session) log log' 3 1
OpenSends log log' wire session args (step.Failed e) = Tried (IsOpening args wire session) log log' 3 1

-- nothing was polled
pub sends_none : (log : LogTold) (wire : ℤ) (session : Option Session) (args : WatchArgs) → OpenSends log log wire session args (step.Pending (record { args = args; sending = None }))
sends_none log wire session args = (tt, tried_none (IsOpening args wire session) log 3)

module _ (old new : Awaited) (log mid log' : LogTold) (wire : ℤ) (session : Option Session) (started : Bool) (o : ClientOpening) (r : Step ClientOpening ClientStream) where
  module _ (sending : Sending) (is : fields sending.command ≡ resuming_in (first_aggregate o.args) wire session) (before : Tried (IsOpening o.args wire session) log mid 3 (resuming_places sending.stage)) where
    sends_all : (came : Step Sending (List ℕ)) → Runs old new mid log' wire sending came → Tried (IsOpening o.args wire session) log log' 3 1
    sends_all came runs =
        tried_on (IsOpening o.args wire session) log mid log' 3 (resuming_places sending.stage) 1 before (resume_sent (IsOpening o.args wire session) old new mid log' wire sending is is came runs)

    sends_heard : (came : Step Sending (List ℕ)) → Runs old new mid log' wire sending came → HearsOpening wire o came r → OpenSends log log' wire session o.args r
    sends_heard (step.Pending later) runs h =
        subst (OpenSends log log' wire session o.args) (sym h) (
          ap fields (still_waits old new mid log' wire sending later runs).same_command ∙ is,
          tried_on (IsOpening o.args wire session) log mid log' 3 (resuming_places sending.stage) (resuming_places later.stage) before
              (resume_waits (IsOpening o.args wire session) old new mid log' wire sending is is later runs),
        )
    sends_heard (step.Done bytes) runs (opened out opens answer) = subst (OpenSends log log' wire session o.args) (sym answer) (sends_all (step.Done bytes) runs)
    sends_heard (step.Done bytes) runs (broke e by answer) = subst (OpenSends log log' wire session o.args) (sym answer) (sends_all (step.Done bytes) runs)
    sends_heard (step.Failed e) runs h = subst (OpenSends log log' wire session o.args) (sym h) (sends_all (step.Failed e) runs)

    sends_run : RunsOpening old new mid log' wire started o sending r → OpenSends log log' wire session o.args r
    sends_run h = sends_heard h.came (runs_of old new mid log' wire sending h.came started h.runs) h.hears

  -- one poll more
  pub sends_on : OpenSends log mid wire session o.args (step.Pending o) → OpensStream old new mid log' wire session started o r → OpenSends log log' wire session o.args r
  sends_on before (not_built none e fails nothing not_so answer) =
      subst (OpenSends log log' wire session o.args) (sym answer)
      (subst (λ (l : LogTold). Tried (IsOpening o.args wire session) log l 3 1) (sym nothing.log_same)
      (tried_below (IsOpening o.args wire session) log mid 3 (opening_places o.sending) 1 (one_opening o.sending) before.1))
  sends_on before (begins none sending new_one h) =
      sends_run sending new_one.command_is
      (subst (λ (n : ℕ). Tried (IsOpening o.args wire session) log mid 3 n) (ap opening_places none ∙ ap resuming_places (sym new_one.new)) before.1) h
  sends_on before (goes_on sending is h) =
      sends_run sending (subst (SendsIt o.args wire session) is before.0)
      (subst (λ (n : ℕ). Tried (IsOpening o.args wire session) log mid 3 n) (ap opening_places is) before.1) h

-- ---- all of it

all_sent : (log log' : LogTold) (wire : ℤ) (session : Option Session) (args : WatchArgs) → Tried (IsOpening args wire session) log log' 3 1 → OpenSent log log' wire session args
all_sent log log' wire session args t =
    record { commands = t.commands; adds = t.adds; falling = lower (λ (c : Fields). c ≡ resuming_in (first_aggregate args) wire session) 2 t.commands 0 t.falling }

pub open_sent : (log log' : LogTold) (wire : ℤ) (session : Option Session) (args : WatchArgs) (r : Step ClientOpening ClientStream) → OpenSends log log' wire session args r → OpenSent log log' wire session args
open_sent log log' wire session args (step.Pending o) h =
    all_sent log log' wire session args (tried_below (IsOpening args wire session) log log' 3 (opening_places o.sending) 1 (one_opening o.sending) h.1)
open_sent log log' wire session args (step.Done s) h = all_sent log log' wire session args h
open_sent log log' wire session args (step.Failed e) h = all_sent log log' wire session args h
