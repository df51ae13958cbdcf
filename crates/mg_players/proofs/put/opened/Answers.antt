use Rattle.std.proofs.Common.{refl}
use Rattle.mg_players.proofs.put.opened.Goals as goal

pub returns-in-Ok : goal.returns-in-Ok
returns-in-Ok c = let e = c.in-Ok.ensures in (e.named, e.ok, e.sound, refl, e.undrawn)

pub returns-in-Err : goal.returns-in-Err
returns-in-Err c = c.in-Err.ensures.err
