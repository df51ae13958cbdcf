use Rattle.std.proofs.Common.{ap, length, subst, sym, ◌∙◌}
use Rattle.mg_link.specs.Namespace.{space, target}
use Rattle.mg_script.specs.Plan.{begin, pieces}
use Rattle.mg_players.specs.Follows.{filter_in}
use Rattle.mg_players.specs.Headline.{sought_task}
use Rattle.mg_players.specs.Puts.{PutStageHolds, puts_ticket}
use Rattle.mg_players.specs.declared.put.PutStage.{PutStage}
use Rattle.mg_players.proofs.Knowing.{does_follow, does_insert, does_put}
use Rattle.mg_players.proofs.player.Player.new.Goals as goal

pub returns-in-Insert-clause-task : goal.returns-in-Insert-clause-task
returns-in-Insert-clause-task c = rw c.in-Insert.is (does_insert _ _ c.new.result (ap (λ n. space n.now) c.new.ensures.ns) (ap (λ d. d.now) c.new.ensures.documents ∙ c.as_slice.ensures.value))

pub returns-in-Follow-clause-task : goal.returns-in-Follow-clause-task
returns-in-Follow-clause-task c =
    let same = c.new-in-Follow.ensures.watched in
    rw c.in-Follow.is (does_follow _ _ _ _ _ c.new-in-Follow.result (ap (λ v. target v.target.now) same) (ap (λ v. v.calls) same) (ap (λ v. begin v.start.now) same) (ap filter_in same) (ap (λ v. v.batch_size) same))

pub returns-in-Put-clause-task : goal.returns-in-Put-clause-task
returns-in-Put-clause-task c = rw c.in-Put.is (does_put _ _ c.new-in-Put.result (c.new-in-Put.ensures.what ∙ c.new-written.ensures) c.as_slice-in-Put.ensures.value)

pub returns-in-Get-clause-task : goal.returns-in-Get-clause-task
returns-in-Get-clause-task c = rw c.in-Get.is (ap sought_task (sym (c.new-in-Get.ensures.what ∙ c.new-sought.ensures)))

pub returns-in-Put-clause-new : goal.returns-in-Put-clause-new
returns-in-Put-clause-new c =
    let job = c.new-in-Put.result in
    record { no_ticket = ap puts_ticket c.new-in-Put.ensures.stage; holds = λ wire. subst (λ (s : PutStage). PutStageHolds s job.done (length (pieces job.what.pieces.now))) (sym c.new-in-Put.ensures.stage) c.new-in-Put.ensures.done }
