use mathlib.Core.Logic.{inl}
use Rattle.std.proofs.Common.{subst, ◌∙◌}
use Rattle.mg_program.specs.Refusals.{EndingTold}
use Rattle.mg_program.proofs.refusal.refuse_script.Goals as goal

pub returns-in-Ok : goal.returns-in-Ok
returns-in-Ok g c = inl (subst (λ t. EndingTold 3 t c.say.result (g.K.Sink.taken c.args.sink.now) (g.K.Sink.taken c.say.new.sink) (g.K.Sink.faults c.args.sink.now) (g.K.Sink.faults c.say.new.sink)) (c.as_str.ensures.value ∙ c.in-Ok.ensures.ok) c.say.ensures)
