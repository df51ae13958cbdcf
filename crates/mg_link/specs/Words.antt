-- Words: each value of an enum has one, by which it is written and read back.
use Rattle.std.specs.Prelude.{◌≡◌, ℕ, List, [], ◌∷◌, codes, Option, Some, None, MatchOption, if◌then◌else◌, ⊤}
use Rattle.std.specs.Str.{bytes_eq}
use Prim.Native.String.{String}

-- a word of a table, or any other text
pub data Word : Type 0 where
  listed : List ℕ → Word
  other : List ℕ → Word

abbrev pub spelled : String → Word
spelled s = listed (codes s)

-- the text of a word
abbrev pub text : Word → List ℕ
text (listed w) = w
text (other w) = w

-- the first of the values that is written so
abbrev pub named : {A : Type 0} → (A → Word) → List A → List ℕ → Option A
named table [] w = None
named table (x ∷ xs) w = if bytes_eq w (text (table x)) then Some x else named table xs w

-- a text is read as the value that is written so, and any other text is kept
abbrev pub IsKept : {A : Type 0} → (A → Word) → List A → List ℕ → A → Type 0
IsKept table xs w x = MatchOption (named table xs w) (table x ≡ other w) (λ y. x ≡ y)

-- each of the values is read back from its word
abbrev pub AreReadBack : {A : Type 0} → (A → Word) → List A → List A → Type 0
AreReadBack table all [] = ⊤
AreReadBack table all (x ∷ xs) = (named table all (text (table x)) ≡ Some x) × AreReadBack table all xs
