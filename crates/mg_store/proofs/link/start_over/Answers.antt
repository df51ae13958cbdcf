use Rattle.std.proofs.Common.{◌∙◌, ap}
use Rattle.mg_store.specs.InMemory.{fate_at}
use Rattle.mg_store.proofs.Sending as sending
use Rattle.mg_store.proofs.link.start_over.Goals as goal

pub send-requires : goal.send-requires
send-requires c = sending.small_at _ _ _ c.kind_at-kind.ensures c.requires.honest.small

pub returns-in-Ok-clause-honest : goal.returns-in-Ok-clause-honest
returns-in-Ok-clause-honest c = sending.honest_sent _ _ _ _ _ _ _ _ _ (c.kind_at-kind.ensures ∙ ap (λ k. (fate_at c.args.fates.now k).kind) c.len-place.ensures) c.requires.honest c.in-Ok.ensures.sent

pub returns-in-Ok-clause-starts : goal.returns-in-Ok-clause-starts
returns-in-Ok-clause-starts c = sending.starts_sent _ _ _ _ _ _ _ _ _ (c.new.ensures ∙ c.len-place.ensures) c.in-Ok.ensures.sent

pub returns-in-Ok-clause-faults : goal.returns-in-Ok-clause-faults
returns-in-Ok-clause-faults c = sending.faults_sent _ _ _ _ _ _ _ _ c.in-Ok.ensures.sent

pub returns-in-Ok-clause-pends : goal.returns-in-Ok-clause-pends
returns-in-Ok-clause-pends c = sending.pends_sent _ _ _ _ _ _ _ _ c.in-Ok.ensures.sent

pub returns-in-Ok-clause-polls : goal.returns-in-Ok-clause-polls
returns-in-Ok-clause-polls c = sending.polls_sent _ _ _ _ _ _ _ _ c.in-Ok.ensures.sent

pub returns-in-Ok-clause-prompt : goal.returns-in-Ok-clause-prompt
returns-in-Ok-clause-prompt c prompt = sending.prompt_sent _ _ _ _ _ _ _ _ _ c.requires.honest.counted c.in-Ok.ensures.sent prompt

pub returns-in-Ok-clause-sent : goal.returns-in-Ok-clause-sent
returns-in-Ok-clause-sent c = sending.started_sent _ _ _ _ _ _ _ _ _ _ (c.kind_at-kind.ensures ∙ ap (λ k. (fate_at c.args.fates.now k).kind) c.len-place.ensures) (c.new.ensures ∙ c.len-place.ensures) c.in-Ok.ensures.sent
