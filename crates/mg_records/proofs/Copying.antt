-- Lists whose values are copies.
use Rattle.std.proofs.Common.{◌≡◌, List, [], ◌∷◌, map, refl}
use Rattle.std.specs.List.{AllZip}

pub mapped_same : {A B : Type 0} (f : A → B) (xs ys : List A) → AllZip (λ x y. f y ≡ f x) xs ys → map f ys ≡ map f xs
mapped_same f [] [] h = refl
mapped_same f [] (y ∷ ys) h = absurd h
mapped_same f (x ∷ xs) [] h = absurd h
mapped_same f (x ∷ xs) (y ∷ ys) h = rw (h.0, mapped_same f xs ys h.1) refl
