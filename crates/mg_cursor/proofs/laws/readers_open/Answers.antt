use Rattle.mg_server.proofs.Finding.{find_lost, find_sent}
use Rattle.mg_cursor.proofs.Opening.{reader_came}
use Rattle.mg_cursor.proofs.laws.readers_open.Goals as goal

pub returns-clause-sent : goal.returns-clause-sent
returns-clause-sent c log log' q place command seen asks adds at calls told =
    let r = find_sent log log' q place command seen asks adds at calls told in
    (r.0, r.1, r.2.knows, r.2.passes)

pub returns-clause-failed : goal.returns-clause-failed
returns-clause-failed c = find_lost

pub returns-clause-came : goal.returns-clause-came
returns-clause-came c log log' q place size s documents awaited bytes success opens these sees calls told k =
    reader_came q size s documents awaited bytes success opens these log log' place sees calls told k
