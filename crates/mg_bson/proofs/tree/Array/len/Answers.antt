use Rattle.std.proofs.Common.{ap, ◌∙◌}
use Rattle.mg_bson.specs.Find.{items_length}
use Rattle.mg_bson.proofs.Places.{length-items_of}
use Rattle.mg_bson.proofs.tree.Array.len.Goals as goal

pub returns : goal.returns
returns c = c.len.ensures ∙ c.self.inside.items.ok.0 ∙ length-items_of c.self.inside.items.items ∙ ap items_length c.self.view_is
