use Rattle.mg_bson.proofs.Scanning.{run_within, run_ascii}
use Rattle.mg_bson.proofs.scan.ascii_run.Goals as goal

pub returns-clause-within : goal.returns-clause-within
returns-clause-within c = run_within c.args.bytes.now c.args.at _ c.requires c.first_set.ensures

pub returns-clause-ascii : goal.returns-clause-ascii
returns-clause-ascii c = run_ascii c.args.bytes.now c.args.at _ c.requires c.type_inv.bytes c.first_set.ensures
