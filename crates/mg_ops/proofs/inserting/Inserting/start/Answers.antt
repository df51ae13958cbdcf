use Rattle.std.proofs.Common.{refl}
use Rattle.mg_ops.proofs.inserting.Inserting.start.Goals as goal

pub returns-clause-started : goal.returns-clause-started
returns-clause-started g c = record { unsent = record { at_is = refl; sent_is = c.in_ok-drawn.ensures.sent; none = refl }; quiet = refl }
