use Rattle.std.proofs.Common.{ap, ◌∙◌}
use Rattle.mg_bson.specs.Find.{with_field}
use Rattle.mg_bson.specs.View.{tree, fields_of}
use Rattle.mg_bson.specs.declared.tree.Field.{Field}
use Rattle.mg_bson.proofs.Places.{fields_of-push}
use Rattle.mg_bson.proofs.tree.Document.append.Goals as goal

pub returns-clause-ok : goal.returns-clause-ok
returns-clause-ok c =
    let f : Field = record { name = c.in-Ok.name; value = c.args.value } in
    ap fields_of c.in_ok-push.ensures.items ∙ fields_of-push c.self.inside.fields.items f ∙ ap (λ k. with_field (fields_of c.self.inside.fields.items) k (tree c.args.value)) c.in-Ok.ensures ∙ ap (λ fs. with_field fs c.args.name.now (tree c.args.value)) c.self.view_is
