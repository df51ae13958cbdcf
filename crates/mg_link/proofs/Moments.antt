-- What polls keep of a link, one behind another.
use Rattle.std.proofs.Common.{◌≡◌, ◌≤◌, ℕ, Option, subst, arith}
use Rattle.mg_link.specs.Acts.{IsOut, Tickets, ticket_after, Pended, FailsByFault, EndsAtOnce}
use Rattle.mg_link.specs.Causes.{Rose}
use Rattle.mg_link.specs.Link.{Later}
use Rattle.mg_link.specs.Moment.{Ending, pending, finished, failed, IsAtOnce, LinkKeeps, LosesByFault, Moment, PendsJust, step_ending}
use Rattle.mg_link.specs.declared.action.Step.{Step}
use Rattle.mg_link.specs.declared.action.Step.TheVariants as step
use Rattle.mg_link.proofs.Onward.{later_on, later_same, tickets_on, tickets_same}

-- nothing was called
pub keeps_same : (m : Moment) (ticket : Option ℕ) (outcome : Ending) → IsOut m.awaited ticket → PendsJust outcome ticket m.pends m.pends → LosesByFault outcome m.faults m.faults → IsAtOnce outcome → LinkKeeps m m ticket ticket outcome
keeps_same m ticket outcome out pended lost at_once = record {
  tickets = tickets_same m.awaited ticket out;
  pended = pended;
  lost = lost;
  prompt = λ is. at_once;
  later = later_same m.faults m.pends m.wire m.prompt;
}

-- ---- one step of an action

pends_step : {S T : Type 0} (ticket : S → Option ℕ) (r : Step S T) (before now : ℕ) → Pended ticket r before now → PendsJust (step_ending r) (ticket_after ticket r) before now
pends_step ticket (step.Pending s) before now h = h
pends_step ticket (step.Done t) before now h = h
pends_step ticket (step.Failed e) before now h = h

loses_step : {S T : Type 0} (r : Step S T) (before now : ℕ) → FailsByFault r before now → LosesByFault (step_ending r) before now
loses_step (step.Pending s) before now h = h
loses_step (step.Done t) before now h = h
loses_step (step.Failed e) before now h = h

at_once_step : {S T : Type 0} (r : Step S T) → EndsAtOnce r → IsAtOnce (step_ending r)
at_once_step (step.Pending s) h = h
at_once_step (step.Done t) h = h
at_once_step (step.Failed e) h = h

pub keeps_step : {S T : Type 0} (m m' : Moment) (ticket : S → Option ℕ) (before : Option ℕ) (r : Step S T) → Tickets m.awaited m'.awaited before (ticket_after ticket r) → Pended ticket r m.pends m'.pends → FailsByFault r m.faults m'.faults
    → (m.prompt → EndsAtOnce r) → Later m.faults m'.faults m.pends m'.pends m.wire m'.wire m.prompt m'.prompt → LinkKeeps m m' before (ticket_after ticket r) (step_ending r)
keeps_step m m' ticket before r tickets pended lost prompt later = record {
  tickets = tickets;
  pended = pends_step ticket r m.pends m'.pends pended;
  lost = loses_step r m.faults m'.faults lost;
  prompt = λ is. at_once_step r (prompt is);
  later = later;
}

-- ---- one behind another

rose_before : (before mid now : ℕ) → before ≤ mid → Rose mid now → Rose before now
rose_before before mid now le rose = omega (arith, le, rose)

loses_on : (outcome : Ending) (before mid now : ℕ) → before ≤ mid → LosesByFault outcome mid now → LosesByFault outcome before now
loses_on pending before mid now le h = tt
loses_on finished before mid now le h = tt
loses_on (failed e) before mid now le h = λ io. rose_before before mid now le (h io)

-- two, where the first let no reply pend
pub keeps_on : (m mid m' : Moment) (a b c : Option ℕ) (first outcome : Ending) → LinkKeeps m mid a b first → mid.pends ≡ m.pends → LinkKeeps mid m' b c outcome → LinkKeeps m m' a c outcome
keeps_on m mid m' a b c first outcome p same q = record {
  tickets = tickets_on p.tickets q.tickets;
  pended = subst (λ (n : ℕ). PendsJust outcome c n m'.pends) same q.pended;
  lost = loses_on outcome m.faults mid.faults m'.faults p.later.faults q.lost;
  prompt = λ is. q.prompt (p.later.prompt is).stays;
  later = later_on p.later q.later;
}
