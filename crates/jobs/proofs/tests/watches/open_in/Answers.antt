use Rattle.std.proofs.Common.{◌≡◌, None, Some, refl, sym, ◌∙◌}
use Rattle.mg_link.specs.Places.{out_at}
use Rattle.mg_link.specs.declared.action.Step.TheVariants as step
use Rattle.mg_change.specs.OpeningView.{session_opening_of}
use Rattle.mg_change.specs.StreamView.{session_stream_of}
use Rattle.mg_change.proofs.Resting.{between_holds_none, opened_between}
use Rattle.jobs.proofs.tests.watches.open_in.Goals as goal

pub returns-in-Done-clause-out : goal.returns-in-Done-clause-out
returns-in-Done-clause-out c = λ n e.
    let opens = c.in-Done.ensures.opens c.requires.sound in
    let between = opened_between (out_at c.args.link.now.calls) (out_at c.poll_in.new.link.calls) (Some c.args.link.now.calls) (Some c.poll_in.new.link.calls) c.args.link.now.wire (Some c.args.session.now) opens.0 (session_opening_of c.args.opening) (step.Done (session_stream_of c.in-Done.stream)) opens.1 (session_stream_of c.in-Done.stream) refl in
    let bad : None ≡ Some n = sym (between_holds_none (session_stream_of c.in-Done.stream) between) ∙ e in absurd cc
