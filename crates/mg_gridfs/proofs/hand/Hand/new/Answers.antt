use Rattle.mg_gridfs.specs.DownloadView.{nothing}
use Rattle.std.proofs.Common.{refl}
use Rattle.mg_gridfs.proofs.Hands.{empty_hand}
use Rattle.mg_gridfs.proofs.hand.Hand.new.Goals as goal

pub returns-clause-empty : goal.returns-clause-empty
returns-clause-empty c = empty_hand (record { batch = c.new-batch.result; given = 0; later = c.new-later.result }) c.new-batch.ensures.current c.new-batch.ensures.behind refl c.new-later.ensures.items

pub returns-clause-holds : goal.returns-clause-holds
returns-clause-holds c = nothing c.new-batch.ensures.current c.new-batch.ensures.behind refl c.new-later.ensures.items
