use Rattle.mg_bson.specs.Find.{items_length}
use Rattle.mg_bson.specs.Raw.{items, items_left}
use Rattle.mg_chunks.proofs.Ordered.{CameTo}
use Rattle.mg_chunks.proofs.judging.judge_all.Given as goal

-- the chunks looked at were in order, and what becomes of the others becomes of all
abbrev pub invariant-items : goal.invariant-items
invariant-items l = CameTo l.file l.fn.place l.place (items l.batch) (items_left l.left)

abbrev pub decreases-items : goal.decreases-items
decreases-items l = items_length (items_left l.left)
