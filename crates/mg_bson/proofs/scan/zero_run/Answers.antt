use Rattle.mg_bson.proofs.Scanning.{zero_within, zero_before, zero_here}
use Rattle.mg_bson.proofs.scan.zero_run.Goals as goal

pub returns-clause-within : goal.returns-clause-within
returns-clause-within c = zero_within c.args.bytes.now c.args.at _ c.requires c.first_set.ensures

pub returns-clause-before : goal.returns-clause-before
returns-clause-before c = zero_before c.args.bytes.now c.args.at _ c.requires c.first_set.ensures

pub returns-clause-zero : goal.returns-clause-zero
returns-clause-zero c = zero_here c.args.bytes.now c.args.at _ c.requires c.first_set.ensures
