use Rattle.std.proofs.Common.{refl}
use Rattle.mg_players.proofs.Watched.{aimed_as, args_made}
use Rattle.mg_players.proofs.follow.watch_args.Goals as goal

pub returns-clause-asks : goal.returns-clause-asks
returns-clause-asks c = record {
  aims = aimed_as (record c.in_ok-options.options { all_changes_for_cluster = c.all_changes-options.result; batch_size = c.args.watched.batch_size }) c.args.watched.target.now _ c.all_changes-options.ensures c.in_ok-clone.ensures.cases;
  stages = c.in_ok-pipeline_of.ensures.stages;
  starts = c.in_ok-options.ensures.starts;
}

pub returns-clause-args : goal.returns-clause-args
returns-clause-args c = args_made c.args.watched _ c.in_ok-options.options c.in_ok-clone.ensures.cases c.in_ok-pipeline_of.ensures.stages c.in_ok-options.ensures.begun _ c.all_changes-options.ensures refl
