use Rattle.std.proofs.Common.{◌≡◌, ◌+◌, ◌-◌, ℕ, ℤ, suc, max, arith, refl, subst}
use Rattle.mg_link.specs.Acts.{Pendings}
use Rattle.mg_link.specs.Causes.{RoseJust}
use Rattle.mg_link.specs.declared.action.Step.TheVariants as step
use Rattle.mg_link.proofs.Onward.{later_on, later_same, polled_once_more, rose_on, tickets_on, tickets_same}
use Rattle.mg_link.proofs.action.Action.run.Goals as goal

pub polls-init : goal.polls-init
polls-init g c = record {
  tickets = tickets_same _ _ c.requires;
  polled = (refl, refl, refl);
  upto = omega arith;
  pended = (omega arith, omega arith);
  later = later_same _ _ _ _;
}

pub polls-preserved : goal.polls-preserved
polls-preserved g c =
    let so = c.polls.invariant in
    let k = c.polls._round - 1 in
    let next : suc k ≡ c.polls._round + 1 - 1 = omega (arith, c.polls.auto._round) in
    let more : k + 1 ≡ c.polls._round + 1 - 1 = omega (arith, c.polls.auto._round) in
    record {
      tickets = tickets_on {new = g.L.Link.awaited c.poll.new.link} so.tickets c.in-Pending.ensures.tickets;
      polled = subst (λ (n : ℕ). Pendings g.Self.Action.does n (g.L.Link.awaited c.args.link.now) (g.L.Link.awaited c.poll.new.link) (g.L.Link.log c.args.link.now) (g.L.Link.log c.poll.new.link) (g.L.Link.wire c.args.link.now) c.args.self c.in-Pending.next) next
          (g.L.Link.awaited c.polls.link, g.L.Link.log c.polls.link, c.polls.state, so.polled, subst (λ (w : ℤ). g.Self.Action.does (g.L.Link.awaited c.polls.link) (g.L.Link.awaited c.poll.new.link) (g.L.Link.log c.polls.link) (g.L.Link.log c.poll.new.link) w c.polls.state (step.Pending c.in-Pending.next)) so.later.wire c.in-Pending.ensures.polled);
      upto = omega (arith, c.polls-test.true);
      pended = subst (λ (n : ℕ). RoseJust n (g.L.Link.pends c.args.link.now) (g.L.Link.pends c.poll.new.link)) more (rose_on k 1 _ _ _ so.pended c.in-Pending.ensures.pended.1);
      later = later_on so.later c.in-Pending.ensures.later;
    }

pub returns-in-Done-clause-polled : goal.returns-in-Done-clause-polled
returns-in-Done-clause-polled g c =
    let so = c.polls.invariant in
    record {
      pendings = c.polls._round - 1;
      within = omega (arith, c.polls.auto._round, c.polls-test.true);
      last = λ pends. absurd pends;
      between = g.L.Link.awaited c.polls.link;
      log_between = g.L.Link.log c.polls.link;
      state = c.polls.state;
      pended = so.polled;
      answers = subst (λ (w : ℤ). g.Self.Action.does (g.L.Link.awaited c.polls.link) (g.L.Link.awaited c.poll.new.link) (g.L.Link.log c.polls.link) (g.L.Link.log c.poll.new.link) w c.polls.state (step.Done c.in-Done.output)) so.later.wire c.in-Done.ensures.polled;
    }

pub returns-in-Failed-clause-polled : goal.returns-in-Failed-clause-polled
returns-in-Failed-clause-polled g c =
    let so = c.polls.invariant in
    record {
      pendings = c.polls._round - 1;
      within = omega (arith, c.polls.auto._round, c.polls-test.true);
      last = λ pends. absurd pends;
      between = g.L.Link.awaited c.polls.link;
      log_between = g.L.Link.log c.polls.link;
      state = c.polls.state;
      pended = so.polled;
      answers = subst (λ (w : ℤ). g.Self.Action.does (g.L.Link.awaited c.polls.link) (g.L.Link.awaited c.poll.new.link) (g.L.Link.log c.polls.link) (g.L.Link.log c.poll.new.link) w c.polls.state (step.Failed c.in-Failed.error)) so.later.wire c.in-Failed.ensures.polled;
    }

pub returns-clause-polled : goal.returns-clause-polled
returns-clause-polled g c =
    let so = c.polls.invariant in
    let all : c.polls._round - 1 + 1 ≡ max c.args.polls 1 = omega (arith, c.polls.auto._round, so.upto, c.polls-test.false) in
    record {
      pendings = c.polls._round - 1;
      within = omega (arith, all);
      last = λ pends. all;
      between = g.L.Link.awaited c.polls.link;
      log_between = g.L.Link.log c.polls.link;
      state = c.polls.state;
      pended = so.polled;
      answers = subst (λ (w : ℤ). g.Self.Action.does (g.L.Link.awaited c.polls.link) (g.L.Link.awaited c.poll-2.new.link) (g.L.Link.log c.polls.link) (g.L.Link.log c.poll-2.new.link) w c.polls.state c.poll-2.result) so.later.wire c.poll-2.ensures.polled;
    }

pub returns-clause-pended : goal.returns-clause-pended
returns-clause-pended g c =
    polled_once_more _ (max c.args.polls 1) (c.polls._round - 1) c.poll-2.result _ _ _ (omega (arith, c.polls.auto._round, c.polls.invariant.upto, c.polls-test.false))
    c.polls.invariant.pended c.poll-2.ensures.pended
