use Rattle.std.proofs.Common.{◌≡◌, ◌-◌, ◌+◌, ℕ, ℤ, inl, inr, max, arith, refl, subst}
use Rattle.mg_link.specs.Acts.{PendsAfter, RunsBy}
use Rattle.mg_link.specs.Exec.{Runs, ticket_of}
use Rattle.mg_link.specs.declared.action.Step.TheVariants as step
use Rattle.mg_link.proofs.Onward.{later_on, tickets_on}
use Rattle.mg_actions.proofs.OneCall.{lost_behind, pends_behind}
use Rattle.mg_actions.proofs.running.sent.Goals as goal

-- ---- it ended in its first poll

pub returns-in-Done-clause-came : goal.returns-in-Done-clause-came
returns-in-Done-clause-came g c =
    let runs = c.in-Done.ensures.runs in (
      runs.0,
      runs.1,
      record {
        between = g.L.Link.awaited c.begun.new.link;
        log_between = g.L.Link.log c.begun.new.link;
        first = step.Done c.in-Done.reply;
        begins = runs.2;
        goes_on = record { awaited_same = refl; log_same = refl; came_same = refl };
        lost = tt;
        at_once = λ prompt. tt;
      },
    )

pub returns-in-Done-clause-pended : goal.returns-in-Done-clause-pended
returns-in-Done-clause-pended g c = let same = c.in-Done.ensures.pended in omega (arith, same)

pub returns-in-Failed-clause-came : goal.returns-in-Failed-clause-came
returns-in-Failed-clause-came g c =
    let runs = c.in-Failed.ensures.runs in (
      runs.0,
      runs.1,
      record {
        between = g.L.Link.awaited c.begun.new.link;
        log_between = g.L.Link.log c.begun.new.link;
        first = step.Failed c.in-Failed.error;
        begins = runs.2;
        goes_on = record { awaited_same = refl; log_same = refl; came_same = refl };
        lost = c.in-Failed.ensures.lost;
        at_once = c.in-Failed.ensures.prompt;
      },
    )

pub returns-in-Failed-clause-pended : goal.returns-in-Failed-clause-pended
returns-in-Failed-clause-pended g c = let same = c.in-Failed.ensures.pended in omega (arith, same)

-- ---- it was polled once alone

pub returns-then-polls-lt2-clause-came : goal.returns-then-polls-lt2-clause-came
returns-then-polls-lt2-clause-came g c =
    let one : max c.args.polls 1 ≡ 1 = omega (arith, c.if-polls-lt2.true) in
    let runs = c.in-Pending.ensures.runs in (
      runs.0,
      runs.1,
      record {
        between = g.L.Link.awaited c.begun.new.link;
        log_between = g.L.Link.log c.begun.new.link;
        first = step.Pending c.in-Pending.waiting;
        begins = runs.2;
        goes_on = inl (one, record { awaited_same = refl; log_same = refl; came_same = refl });
        lost = tt;
        at_once = λ prompt. absurd (c.in-Pending.ensures.prompt prompt);
      },
    )

pub returns-then-polls-lt2-clause-pended : goal.returns-then-polls-lt2-clause-pended
returns-then-polls-lt2-clause-pended g c =
    let one : 1 ≡ max c.args.polls 1 = omega (arith, c.if-polls-lt2.true) in
    subst (λ (n : ℕ). PendsAfter n (ticket_of c.in-Pending.waiting) (g.L.Link.pends c.args.link.now) (g.L.Link.pends c.begun.new.link)) one c.in-Pending.ensures.pended

-- ---- it was polled on

pub run-requires : goal.run-requires
run-requires g c = c.in-Pending.ensures.tickets.held

pub returns-else-polls-lt2-clause-came : goal.returns-else-polls-lt2-clause-came
returns-else-polls-lt2-clause-came g c =
    let first = c.in-Pending.ensures in
    let left : max (c.args.polls - 1) 1 ≡ max c.args.polls 1 - 1 = omega (arith, c.if-polls-lt2.false) in
    let at_wire = subst (λ (w : ℤ). RunsBy Runs (max (c.args.polls - 1) 1) (g.L.Link.awaited c.begun.new.link) (g.L.Link.awaited c.run.new.link) (g.L.Link.log c.begun.new.link) (g.L.Link.log c.run.new.link) w c.in-Pending.waiting c.run.result) first.later.wire c.run.ensures.polled in (
      first.runs.0,
      first.runs.1,
      record {
        between = g.L.Link.awaited c.begun.new.link;
        log_between = g.L.Link.log c.begun.new.link;
        first = step.Pending c.in-Pending.waiting;
        begins = first.runs.2;
        goes_on = inr (subst (λ (n : ℕ). RunsBy Runs n (g.L.Link.awaited c.begun.new.link) (g.L.Link.awaited c.run.new.link) (g.L.Link.log c.begun.new.link) (g.L.Link.log c.run.new.link) (g.L.Link.wire c.args.link.now) c.in-Pending.waiting c.run.result) left at_wire);
        lost = lost_behind c.run.result _ _ _ first.later.faults c.run.ensures.lost;
        at_once = λ prompt. absurd (first.prompt prompt);
      },
    )

pub returns-else-polls-lt2-clause-tickets : goal.returns-else-polls-lt2-clause-tickets
returns-else-polls-lt2-clause-tickets g c = tickets_on c.in-Pending.ensures.tickets c.run.ensures.tickets

pub returns-else-polls-lt2-clause-pended : goal.returns-else-polls-lt2-clause-pended
returns-else-polls-lt2-clause-pended g c =
    let count : max c.args.polls 1 ≡ max (c.args.polls - 1) 1 + 1 = omega (arith, c.if-polls-lt2.false) in
    pends_behind ticket_of (max (c.args.polls - 1) 1) (max c.args.polls 1) c.run.result _ _ _ count c.in-Pending.ensures.pended.1 c.run.ensures.pended

pub returns-else-polls-lt2-clause-later : goal.returns-else-polls-lt2-clause-later
returns-else-polls-lt2-clause-later g c = later_on c.in-Pending.ensures.later c.run.ensures.later
