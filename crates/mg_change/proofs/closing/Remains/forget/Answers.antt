use Rattle.std.proofs.Common.{refl}
use Rattle.mg_steps.specs.declared.token.TokenPlace.TheVariants as place
use Rattle.mg_change.proofs.Remaining.{saved_handed}
use Rattle.mg_change.proofs.closing.Remains.forget.Goals as goal

pub returns-clause-rest : goal.returns-clause-rest
returns-clause-rest c = λ landing. saved_handed (record c.args.self.now { token = place.Saved }) c.take_saved.new.aggregate landing refl c.take_saved.ensures.gone
