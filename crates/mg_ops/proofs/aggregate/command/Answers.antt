use Rattle.std.proofs.Common.{None}
use Rattle.std.proofs.lemmas.Result.{IfErr-weaker, on_ok_weaker}
use Rattle.mg_link.specs.Namespace.{target}
use Rattle.mg_options.specs.Fields.{first_unfit}
use Rattle.mg_options.specs.Fields.{FailsBy as FailsUnfit}
use Rattle.mg_ops.specs.Bodies.{watch_body}
use Rattle.mg_ops.specs.Failing.{FailsBy, HasBadSize}
use Rattle.mg_ops.proofs.Watching.{watch_fails, watch_fits}
use Rattle.mg_ops.proofs.aggregate.command.Goals as goal

pub returns-clause-fits : goal.returns-clause-fits
returns-clause-fits c =
    let args = c.args.args.now in
    on_ok_weaker c.body.result (watch_fits (target args.target) args.pipeline.items c.args.options.now) c.body.ensures.fits

pub returns-clause-err : goal.returns-clause-err
returns-clause-err c =
    let args = c.args.args.now in
    let o = c.args.options.now in
    IfErr-weaker c.body.result (λ e. FailsUnfit (first_unfit (watch_body (target args.target) args.pipeline.items o None)) e) (λ e. FailsBy (HasBadSize o.batch_size) e)
    (watch_fails (target args.target) args.pipeline.items o) c.body.ensures.err
