-- The first of the failures that a reply lists.
use Rattle.std.proofs.Common.{arith, ◌≡◌, ◌≤◌, List, [], ◌∷◌, length, get_or, map, Ok, inr, ap, sym, ◌∙◌}
use Rattle.std.specs.Prelude.{string_bytes}
use Rattle.mg_bson.specs.Tree.{Fields}
use Rattle.mg_link.specs.Errors.{plain}
use Rattle.mg_link.specs.declared.error.Error.{Error}
use Rattle.mg_link.specs.declared.error.ErrorKind.TheVariants as kind
use Rattle.mg_link.specs.declared.error.IndexedFailure.{IndexedFailure}
use Rattle.mg_link.specs.declared.error.WriteFailure.{WriteFailure}
use Rattle.mg_ops.specs.Writes.{WriteFails, failure, failures_of}

pub listed_first : (reply : Fields) (items slice : List IndexedFailure) (x : IndexedFailure) (w : WriteFailure) (e : Error)
    → failures_of 0 reply ≡ Ok (map failure items) → slice ≡ items → 1 ≤ length slice → x ≡ get_or slice 0 x
    → w.code ≡ x.code → string_bytes w.message ≡ string_bytes x.message → e ≡ plain (kind.Write w) → WriteFails reply e
listed_first reply items [] x w e says same some is code message error = let never : ⊥ = omega arith in absurd never
listed_first reply items (y ∷ ys) x w e says same some is code message error =
    let all : failures_of 0 reply ≡ Ok (failure y ∷ map failure ys) = says ∙ ap (λ (xs : List IndexedFailure). Ok (map failure xs)) (sym same) in
    let coded : w.code ≡ y.code = code ∙ ap (λ (f : IndexedFailure). f.code) is in
    let told : string_bytes w.message ≡ string_bytes y.message = message ∙ ap (λ (f : IndexedFailure). string_bytes f.message) is in
    inr (record { first = w; index = y.index; others = map failure ys; listed = rw (coded, told) all; error = error })
