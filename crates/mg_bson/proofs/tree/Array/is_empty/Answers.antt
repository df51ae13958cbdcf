use Rattle.std.proofs.Common.{◌≡◌, length, sym, ap, ◌∙◌}
use Rattle.std.specs.Prelude.{◌==◌}
use Rattle.mg_bson.proofs.Places.{empty_items}
use Rattle.mg_bson.proofs.tree.Array.is_empty.Goals as goal

pub returns : goal.returns
returns c =
    let e : c.is_empty.result ≡ (length c.self.inside.items.items == 0) = c.is_empty.ensures ∙ ap (λ n. n == 0) c.self.inside.items.ok.0 in
    let empty = empty_items c.self.inside.items.items in
    (λ h. sym c.self.view_is ∙ empty.0 (sym e ∙ h), λ h. e ∙ empty.1 (c.self.view_is ∙ h))
