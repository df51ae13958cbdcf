use Rattle.std.proofs.Common.{ap, ◌∙◌}
use Rattle.mg_bson.specs.Find.{fields_length}
use Rattle.mg_bson.proofs.Places.{length-fields_of}
use Rattle.mg_bson.proofs.tree.Document.len.Goals as goal

pub returns : goal.returns
returns c = c.len.ensures ∙ c.self.inside.fields.ok.0 ∙ length-fields_of c.self.inside.fields.items ∙ ap fields_length c.self.view_is
