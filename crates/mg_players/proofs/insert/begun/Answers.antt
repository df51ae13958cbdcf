use Rattle.mg_link.specs.Namespace.{space}
use Rattle.mg_cursor.proofs.Hearing.{no_room}
use Rattle.mg_ops.specs.Drawn.{with_ids}
use Rattle.mg_players.proofs.InsertTelling.{begun_sent, begun_tells, unbegun_sent, unbegun_tells}
use Rattle.mg_players.proofs.insert.begun.Goals as goal

pub returns-in-Ok-clause-tells : goal.returns-in-Ok-clause-tells
returns-in-Ok-clause-tells g c =
    let at = space c.args.ns.now in
    let sent = with_ids (g.I.IdSource.ids c.args.ids.now) 0 c.args.documents.now in
    record { tells = λ awaited past. begun_tells awaited past at sent c.in-Ok.inserting c.in-Ok.ensures.started; sent = begun_sent at sent c.in-Ok.inserting c.in-Ok.ensures.started; unlost = λ lost. lost }

pub returns-in-Err-clause-tells : goal.returns-in-Err-clause-tells
returns-in-Err-clause-tells g c =
    let at = space c.args.ns.now in
    let sent = with_ids (g.I.IdSource.ids c.args.ids.now) 0 c.args.documents.now in
    record { tells = λ awaited past. unbegun_tells awaited past at sent c.in-Err.error c.in-Err.ensures.err; sent = unbegun_sent at sent c.in-Err.error; unlost = no_room c.in-Err.error c.in-Err.ensures.err }
