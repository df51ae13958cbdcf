use Rattle.mg_change.proofs.Remaining.{behind_handed}
use Rattle.mg_change.proofs.closing.Remains.take_behind.Goals as goal

pub returns-clause-rest : goal.returns-clause-rest
returns-clause-rest c = λ landing. behind_handed c.args.self.now c.forget.new.self c.take_token-token.new.self landing c.take_token-token.ensures.rest c.forget.ensures.kept (c.forget.ensures.rest landing)
