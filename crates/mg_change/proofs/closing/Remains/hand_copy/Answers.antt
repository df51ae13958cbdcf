use Rattle.std.proofs.Common.{ap, ◌∙◌}
use Rattle.mg_change.specs.StreamView.{is_lent}
use Rattle.mg_change.proofs.Remaining.{event_handed}
use Rattle.mg_change.proofs.closing.Remains.hand_copy.Goals as goal

pub returns-in-Ok-clause-token : goal.returns-in-Ok-clause-token
returns-in-Ok-clause-token c = c.in-Ok.ensures.ok ∙ c.event_token.ensures

pub returns-in-Ok-clause-gone : goal.returns-in-Ok-clause-gone
returns-in-Ok-clause-gone c = c.forget.ensures.gone

pub returns-in-Ok-clause-rest : goal.returns-in-Ok-clause-rest
returns-in-Ok-clause-rest c = λ landing. event_handed c.args.self.now c.forget.new.self landing c.forget.ensures.kept (c.forget.ensures.rest landing)

pub returns-in-Err-clause-err : goal.returns-in-Err-clause-err
returns-in-Err-clause-err c = (c.in-Err.ensures.err, ap is_lent c.requires)
