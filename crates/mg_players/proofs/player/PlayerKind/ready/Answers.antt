use Rattle.std.proofs.Common.{ap}
use Rattle.mg_players.proofs.Apart.{follow_same, on_err_to}
use Rattle.mg_players.specs.declared.player.Player.TheVariants as player
use Rattle.mg_players.proofs.player.PlayerKind.ready.Goals as goal

pub returns-in-Insert-clause-got : goal.returns-in-Insert-clause-got
returns-in-Insert-clause-got g c =
    let h = c.ready.ensures.got in
    rw c.in-Insert.is (record {
      ticket = h.ticket;
      holds = h.holds;
      knows = h.knows;
      task = h.task;
      at = h.at;
      tells = record { number_same = h.tells.number_same; tells = h.tells.tells };
      has = h.has;
      lost_same = λ part lost. h.lost_same part lost;
    })

pub returns-in-Follow-clause-got : goal.returns-in-Follow-clause-got
returns-in-Follow-clause-got g c =
    let h = c.ready-in-Follow.ensures.got in
    rw c.in-Follow.is (record {
      ticket = h.ticket;
      holds = h.holds;
      knows = h.knows;
      task = h.task;
      at = h.at;
      tells = record { number_same = h.tells.number_same; tells = h.tells.tells };
      has = h.has;
      lost_same = λ part lost. h.lost_same part lost;
    })

pub returns-in-Put-clause-got : goal.returns-in-Put-clause-got
returns-in-Put-clause-got g c =
    let h = c.ready-in-Put.ensures.got in
    rw c.in-Put.is (record {
      ticket = h.ticket;
      holds = h.holds;
      knows = h.knows;
      task = h.task;
      at = h.at;
      tells = record { number_same = h.tells.number_same; tells = h.tells.tells };
      has = h.has;
      lost_same = λ part lost. h.lost_same part lost;
    })

pub returns-in-Get-clause-got : goal.returns-in-Get-clause-got
returns-in-Get-clause-got g c =
    let h = c.ready-in-Get.ensures.got in
    rw c.in-Get.is (record {
      ticket = h.ticket;
      holds = h.holds;
      knows = h.knows;
      task = h.task;
      at = h.at;
      tells = record { number_same = h.tells.number_same; tells = h.tells.tells };
      has = h.has;
      lost_same = λ part lost. h.lost_same part lost;
    })

pub returns-in-Follow-clause-same : goal.returns-in-Follow-clause-same
returns-in-Follow-clause-same g c = rw c.in-Follow.is (follow_same c.ready-in-Follow.result c.in-Follow.job c.ready-in-Follow.new.self c.ready-in-Follow.ensures.same)

pub returns-in-Insert-clause-same : goal.returns-in-Insert-clause-same
returns-in-Insert-clause-same g c = rw c.in-Insert.is (on_err_to c.ready.result (ap player.Insert) c.ready.ensures.same)

pub returns-in-Put-clause-same : goal.returns-in-Put-clause-same
returns-in-Put-clause-same g c = rw c.in-Put.is (on_err_to c.ready-in-Put.result (ap player.Put) c.ready-in-Put.ensures.same)

pub returns-in-Get-clause-same : goal.returns-in-Get-clause-same
returns-in-Get-clause-same g c = rw c.in-Get.is (on_err_to c.ready-in-Get.result (ap player.Get) c.ready-in-Get.ensures.same)
