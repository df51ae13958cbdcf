use Rattle.std.proofs.Common.{refl}
use Rattle.mg_bson.specs.Tree.{document}
use Rattle.mg_bson.specs.Find.{items_joined}
use Rattle.mg_ops.proofs.Listing.{listed_go_on, listed_end}
use Rattle.mg_ops.proofs.parts.put_documents.Goals as goal
use Rattle.mg_options.specs.Printing.{listed}

pub loop-value-preserved : goal.loop-value-preserved
loop-value-preserved c =
    listed_go_on document c.loop-value.array c.put_document.new.array c.args.documents.now c.loop-value.value-index c.value-item.result (document c.value-item.result) (items_joined c.args.array.now (listed document c.args.documents.now)) c.loop-value-test.true c.value-item.is refl c.in_ok-put_document.ensures.ok c.loop-value.invariant

pub returns-clause-ok : goal.returns-clause-ok
returns-clause-ok c = listed_end document c.loop-value.array c.args.documents.now c.loop-value.value-index (items_joined c.args.array.now (listed document c.args.documents.now)) c.loop-value-test.false c.loop-value.invariant
