use Rattle.std.proofs.Common.{refl}
use Rattle.mg_link.specs.declared.action.Step.TheVariants as step
use Rattle.mg_change.proofs.OpenCalls.{begins_on}
use Rattle.mg_change.proofs.laws.openings_begin.Goals as goal

pub returns-clause-goes_on : goal.returns-clause-goes_on
returns-clause-goes_on c = λ old new log log' wire session started o next opens. begins_on old new log log' wire session started o o.args (step.Pending next) refl opens

pub returns-clause-gives : goal.returns-clause-gives
returns-clause-gives c = λ old new log log' wire session started o s opens. begins_on old new log log' wire session started o o.args (step.Done s) refl opens
