use mir.Val.{SFits}
use Rattle.std.proofs.Common.{rules, w64}
use Rattle.std.proofs.lemmas.Int.{to_z-of_z}
use Rattle.mg_change.specs.ClosingStreams.{lands, opened_none}
use Rattle.mg_change.specs.ClosingView.{closing_in}
use Rattle.mg_change.proofs.Remaining.{opened_behind}
use Rattle.mg_change.proofs.closing.aggregate_came.Goals as goal

pub returns-in-Ok-clause-behind : goal.returns-in-Ok-clause-behind
returns-in-Ok-clause-behind g c =
    let link = c.args.link.now in
    let later = c.kill_left.new.link in
    let fits : SFits w64 c.in-Ok.opened.info.id = search rules in
    opened_behind (g.L.Link.awaited link) (g.L.Link.awaited later) (g.L.Link.log link) (g.L.Link.log later) (g.L.Link.wire link) (closing_in c.args.remains lands) c.args.reply c.kill_left.result _ _ c.in-Ok.ensures.ok.opens.opens.says (to_z-of_z w64 c.in-Ok.opened.info.id fits) c.kill_left.ensures.kills

pub returns-in-Err-clause-behind : goal.returns-in-Err-clause-behind
returns-in-Err-clause-behind g c = opened_none c.in-Err.error c.in-Err.ensures.err c.pass.ensures.passes
