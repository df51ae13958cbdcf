use Rattle.std.proofs.Common.{refl}
use Rattle.mg_gridfs.proofs.Hands.{hand_none, hand_some}
use Rattle.mg_gridfs.proofs.hand.Hand.is_empty.Goals as goal

pub returns-in-Some : goal.returns-in-Some
returns-in-Some c = (λ bad. absurd cc, λ empty. absurd (hand_some c.args.self.now c.in-Some._chunk c.requires c.in-Some.ensures empty))

pub returns-in-None : goal.returns-in-None
returns-in-None c = (λ yes. hand_none c.args.self.now c.requires c.in-None.ensures, λ empty. refl)
