use Rattle.mg_bson.proofs.Walking.{is_over}
use Rattle.mg_bson.proofs.documents.RawDocuments.is_last.Goals as goal

pub returns : goal.returns
returns c = rw (← c.self.view_is) (is_over c.self.inside.document c.self.inside.begin c.self.inside.upto c.self.inside.next c.self.inside.end c.self.invariant)
