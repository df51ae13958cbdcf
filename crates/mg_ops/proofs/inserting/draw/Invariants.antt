use Rattle.std.proofs.Common.{◌≡◌, true, length, take}
use Rattle.mg_ops.specs.Drawn.{AreLater, lacking, with_ids}
use Rattle.mg_ops.specs.Underway.{sent_of}
use Rattle.mg_ops.proofs.inserting.draw.Given as goal

abbrev pub invariant-loop-document : goal.invariant-loop-document
invariant-loop-document g l = record {
  drawn : AreLater (g.I.IdSource.ids l.fn.ids) (lacking (take l.document-index l.documents)) (g.I.IdSource.ids l.ids);
  count : l.fits ≡ true → length l.drawn.items ≡ l.document-index;
  kept : l.fits ≡ true → sent_of l.drawn.items (take l.document-index l.documents) ≡ with_ids (g.I.IdSource.ids l.fn.ids) 0 (take l.document-index l.documents);
}
