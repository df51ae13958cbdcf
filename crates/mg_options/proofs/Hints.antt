-- Hints that are the same.
use Rattle.std.proofs.Common.{◌≡◌, Bool, sym, ap, ◌∙◌}
use Rattle.std.specs.Prelude.{◌↔◌, IsTrue}
use Rattle.mg_bson.specs.Tree.{Tree, Fields, no_fields, document}
use Rattle.mg_bson.specs.Same.{fields_eq, fields_eq-decides}

inner : Tree → Fields
inner (document d) = d
inner _ = no_fields

pub same_keys : (r : Bool) (d e : Fields) → r ≡ fields_eq d e → IsTrue r ↔ (document d ≡ document e)
unfolding inner
same_keys r d e is = (λ t. ap document ((fields_eq-decides d e).0 (sym is ∙ t)), λ same. is ∙ (fields_eq-decides d e).1 (ap inner same))
