-- Whether two values, documents or arrays are the same.
use Rattle.std.specs.Prelude.{◌≡◌, Bool, true, false, ◌==◌, ◌&&◌, refl}
use Rattle.std.specs.Bool.{Decides}
use Rattle.std.proofs.Common.{ap, subst}
use Rattle.std.proofs.lemmas.Bool.{and_parts, eq-eqb, eqb-true}
use base.Stored.{Gv, gnil, gnum, gcons}
use Rattle.mg_bson.specs.Tree.{Tree, Fields, Items}
use Rattle.mg_bson.specs.Coded.{tree_code, fields_code, items_code, tree_inj, fields_inj, items_inj}

-- whether two codes are the same
abbrev same_code : Gv → Gv → Bool
same_code gnil gnil = true
same_code (gnum m) (gnum n) = m == n
same_code (gcons a b) (gcons c d) = same_code a c && same_code b d
same_code _ _ = false

-- codes that pass the test are the same
same_code-is : (g h : Gv) → same_code g h ≡ true → g ≡ h
same_code-is gnil gnil e = refl
same_code-is (gnum m) (gnum n) e = ap gnum (eqb-true m n e)
same_code-is (gcons a b) (gcons c d) e =
    let parts = and_parts (same_code a c) (same_code b d) e in
    λ i. gcons (same_code-is a c parts.0 i) (same_code-is b d parts.1 i)
same_code-is _ _ e = absurd cc

-- a code passes the test with itself
same_code-itself : (g : Gv) → same_code g g ≡ true
same_code-itself gnil = refl
same_code-itself (gnum n) = eq-eqb n n refl
same_code-itself (gcons a b) = rw (same_code-itself a, same_code-itself b) refl

-- whether two values are the same
unfoldable pub tree_eq : Tree → Tree → Bool
tree_eq t u = same_code (tree_code t) (tree_code u)

-- it is true exactly of the same two values
pub tree_eq-decides : (t u : Tree) → Decides (tree_eq t u) (t ≡ u)
unfolding tree_eq
tree_eq-decides t u = (
  λ e. tree_inj t u (same_code-is (tree_code t) (tree_code u) e),
  λ e. subst (λ v. same_code (tree_code t) (tree_code v) ≡ true) e (same_code-itself (tree_code t)),
)

-- whether two documents are the same
unfoldable pub fields_eq : Fields → Fields → Bool
fields_eq d e = same_code (fields_code d) (fields_code e)

-- it is true exactly of the same two documents
pub fields_eq-decides : (d e : Fields) → Decides (fields_eq d e) (d ≡ e)
unfolding fields_eq
fields_eq-decides d e = (
  λ h. fields_inj d e (same_code-is (fields_code d) (fields_code e) h),
  λ h. subst (λ f. same_code (fields_code d) (fields_code f) ≡ true) h (same_code-itself (fields_code d)),
)

-- whether two arrays are the same
unfoldable pub items_eq : Items → Items → Bool
items_eq a b = same_code (items_code a) (items_code b)

-- it is true exactly of the same two arrays
pub items_eq-decides : (a b : Items) → Decides (items_eq a b) (a ≡ b)
unfolding items_eq
items_eq-decides a b = (
  λ h. items_inj a b (same_code-is (items_code a) (items_code b) h),
  λ h. subst (λ c. same_code (items_code a) (items_code c) ≡ true) h (same_code-itself (items_code a)),
)
