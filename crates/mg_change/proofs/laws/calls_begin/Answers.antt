use Rattle.mg_change.proofs.Lasting.{begins_so}
use Rattle.mg_change.proofs.laws.calls_begin.Goals as goal

pub returns : goal.returns
returns c = λ plain lone awaited past s sound rest. begins_so awaited past s plain lone sound rest
