use Rattle.std.proofs.Common.{◌≡◌, List, [], ◌∷◌, length, refl, sym, ap, ◌∙◌, rules, arith}
use Rattle.mg_bson.specs.Find.{items_joined}
use Rattle.mg_bson.specs.Tree.{Fields, Items, document, no_items}
use Rattle.mg_bson.proofs.Joining.{items_joined_all, items_joined_more}
use Rattle.mg_options.specs.Printing.{listed}
use Rattle.mg_ops.proofs.parts.documents_array.Goals as goal

pub documents-init : goal.documents-init
documents-init c =
    let empty : c.new-array.result ≡ no_items = search rules in
    ap (λ (a : Items). items_joined a (listed document c.from_vec-left.result.items)) empty ∙ ap (λ (ds : List Fields). listed document ds) c.from_vec-left.ensures.items

pub documents-preserved : goal.documents-preserved
documents-preserved c =
    let rest = listed document c.pop_front.new.self.items in
    ap (λ (a : Items). items_joined a rest) c.in_ok-push.ensures.ok
    ∙ items_joined_more c.documents.array (document c.in-Some.document) rest
    ∙ ap (λ (ds : List Fields). items_joined c.documents.array (listed document ds)) (sym c.in-Some.ensures.items)
    ∙ c.documents.invariant

pub documents-smaller : goal.documents-smaller
documents-smaller c = let more = ap length c.in-Some.ensures.items in omega (arith, more)

no_more : (ds : List Fields) → length ds ≡ 0 → ds ≡ []
no_more [] none = refl
no_more (d ∷ ds) none = absurd (omega (arith, none))

pub returns-clause-ok : goal.returns-clause-ok
returns-clause-ok c =
    let none = c.in_default.ensures.cases.0 in
    let counted = c.documents.left.ok.0 in
    let empty = no_more c.documents.left.items (omega (arith, none, counted)) in
    sym (items_joined_all c.documents.array) ∙ ap (λ (ds : List Fields). items_joined c.documents.array (listed document ds)) (sym empty) ∙ c.documents.invariant
