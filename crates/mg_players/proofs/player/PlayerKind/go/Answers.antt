use Rattle.mg_players.proofs.player.PlayerKind.go.Goals as goal

pub returns-in-Insert-clause-goes : goal.returns-in-Insert-clause-goes
returns-in-Insert-clause-goes g c =
    let h = c.go.ensures.goes in
    rw c.in-Insert.is (record {
      tickets = h.tickets;
      holds = h.holds;
      next = h.next;
      turned = λ calls told o at plays. let t = h.turned calls told o at plays in (t.0, t.1, record { place = t.2.place; placed = t.2.placed; owner = t.2.owner; plays = t.2.plays; passes = t.2.passes });
      told = λ calls calls' told told' supply n may q at at' placed o plays tells. let r = h.told calls calls' told told' supply n may q at at' placed o plays tells in record { longer = r.longer; places = r.places; tells = r.tells; extends = r.extends; adds = r.adds };
      task = h.task;
      has = h.has;
    })

pub returns-in-Insert-clause-comes : goal.returns-in-Insert-clause-comes
returns-in-Insert-clause-comes g c = rw c.in-Insert.is c.go.ensures.comes

pub returns-in-Follow-clause-goes : goal.returns-in-Follow-clause-goes
returns-in-Follow-clause-goes g c =
    let h = c.go-in-Follow.ensures.goes in
    rw c.in-Follow.is (record {
      tickets = h.tickets;
      holds = h.holds;
      next = h.next;
      turned = λ calls told o at plays. let t = h.turned calls told o at plays in (t.0, t.1, record { place = t.2.place; placed = t.2.placed; owner = t.2.owner; plays = t.2.plays; passes = t.2.passes });
      told = λ calls calls' told told' supply n may q at at' placed o plays tells. let r = h.told calls calls' told told' supply n may q at at' placed o plays tells in record { longer = r.longer; places = r.places; tells = r.tells; extends = r.extends; adds = r.adds };
      task = h.task;
      has = h.has;
    })

pub returns-in-Follow-clause-comes : goal.returns-in-Follow-clause-comes
returns-in-Follow-clause-comes g c = rw c.in-Follow.is c.go-in-Follow.ensures.comes

pub returns-in-Put-clause-goes : goal.returns-in-Put-clause-goes
returns-in-Put-clause-goes g c =
    let h = c.go-in-Put.ensures.goes in
    rw c.in-Put.is (record {
      tickets = h.tickets;
      holds = h.holds;
      next = h.next;
      turned = λ calls told o at plays. let t = h.turned calls told o at plays in (t.0, t.1, record { place = t.2.place; placed = t.2.placed; owner = t.2.owner; plays = t.2.plays; passes = t.2.passes });
      told = λ calls calls' told told' supply n may q at at' placed o plays tells. let r = h.told calls calls' told told' supply n may q at at' placed o plays tells in record { longer = r.longer; places = r.places; tells = r.tells; extends = r.extends; adds = r.adds };
      task = h.task;
      has = h.has;
    })

pub returns-in-Put-clause-comes : goal.returns-in-Put-clause-comes
returns-in-Put-clause-comes g c = rw c.in-Put.is c.go-in-Put.ensures.comes

pub returns-in-Get-clause-goes : goal.returns-in-Get-clause-goes
returns-in-Get-clause-goes g c =
    let h = c.go-in-Get.ensures.goes in
    rw c.in-Get.is (record {
      tickets = h.tickets;
      holds = h.holds;
      next = h.next;
      turned = λ calls told o at plays. let t = h.turned calls told o at plays in (t.0, t.1, record { place = t.2.place; placed = t.2.placed; owner = t.2.owner; plays = t.2.plays; passes = t.2.passes });
      told = λ calls calls' told told' supply n may q at at' placed o plays tells. let r = h.told calls calls' told told' supply n may q at at' placed o plays tells in record { longer = r.longer; places = r.places; tells = r.tells; extends = r.extends; adds = r.adds };
      task = h.task;
      has = h.has;
    })

pub returns-in-Get-clause-comes : goal.returns-in-Get-clause-comes
returns-in-Get-clause-comes g c = rw c.in-Get.is c.go-in-Get.ensures.comes

pub returns-in-Insert-clause-lost : goal.returns-in-Insert-clause-lost
returns-in-Insert-clause-lost g c = rw c.in-Insert.is (λ part lost. c.go.ensures.lost part lost)

pub returns-in-Follow-clause-lost : goal.returns-in-Follow-clause-lost
returns-in-Follow-clause-lost g c = rw c.in-Follow.is (λ part lost. c.go-in-Follow.ensures.lost part lost)

pub returns-in-Put-clause-lost : goal.returns-in-Put-clause-lost
returns-in-Put-clause-lost g c = rw c.in-Put.is (λ part lost. c.go-in-Put.ensures.lost part lost)

pub returns-in-Get-clause-lost : goal.returns-in-Get-clause-lost
returns-in-Get-clause-lost g c = rw c.in-Get.is (λ part lost. c.go-in-Get.ensures.lost part lost)
