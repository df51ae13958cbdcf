-- The fields of option records: what each comes to, and which of them a document gets.
use Rattle.std.specs.Prelude.{◌≡◌, ◌⊎◌, ℕ, List, [], ◌∷◌, Option, Some, None, codes}
use Rattle.std.specs.Borrow.{Bor}
use Prim.Native.String.{String}
use Rattle.mg_bson.specs.Tree.{Tree, Fields, no_fields, field, document}
use Rattle.mg_link.specs.Errors.{plain}
use Rattle.mg_link.specs.declared.error.BadArgument.{BadArgument}
use Rattle.mg_link.specs.declared.error.Error.{Error}
use Rattle.mg_link.specs.declared.error.ErrorKind.TheVariants as kind

-- what a field comes to: nothing is given, or a value, or an argument outside its range
pub data Shown : Type 0 where
  absent : Shown
  shown : Tree → Shown
  unfit : BadArgument → Shown

-- a field: its name, and what it comes to
pub data Line : Type 0 where
  line : List ℕ → Shown → Line

-- a field, and those behind it, as `"limit" ⟼ limit o.limit ⨾ nothing`
infixr 10 ◌⟼◌⨾◌
abbrev pub ◌⟼◌⨾◌ : String → Shown → List Line → List Line
k ⟼ s ⨾ ls = line (codes k) s ∷ ls

abbrev pub nothing : List Line
nothing = []

-- the fields that have a value, in their order
abbrev pub fields_in : List Line → Fields
fields_in [] = no_fields
fields_in (line k absent ∷ ls) = fields_in ls
fields_in (line k (shown t) ∷ ls) = field k t (fields_in ls)
fields_in (line k (unfit a) ∷ ls) = fields_in ls

-- the first argument that is outside its range
abbrev pub first_unfit : List Line → Option BadArgument
first_unfit [] = None
first_unfit (line k absent ∷ ls) = first_unfit ls
first_unfit (line k (shown t) ∷ ls) = first_unfit ls
first_unfit (line k (unfit a) ∷ ls) = Some a

-- an argument is the error
abbrev pub Refuses : Option BadArgument → Error → Type 0
Refuses None e = ⊥
Refuses (Some a) e = e ≡ plain (kind.InvalidArgument a)

-- why fields are not appended: memory ran out, or the first argument outside its range
abbrev pub FailsBy : Option BadArgument → Error → Type 0
FailsBy a e = (e ≡ plain kind.OutOfMemory) ⊎ Refuses a e

-- what there is of a value that may be given
abbrev pub given : Option Tree → Shown
given None = absent
given (Some t) = shown t

-- the argument of one field that is outside its range
abbrev pub unfit_of : Shown → Option BadArgument
unfit_of absent = None
unfit_of (shown t) = None
unfit_of (unfit a) = Some a

-- named values as fields
abbrev pub lines : {V : Type 0} → (V → Shown) → List (Bor (List ℕ) × V) → List Line
lines show [] = []
lines show (g ∷ gs) = line g.0.now (show g.1) ∷ lines show gs

-- a document of such fields as a value
abbrev pub nested_by : Option BadArgument → Fields → Shown
nested_by None fs = shown (document fs)
nested_by (Some a) fs = unfit a

abbrev pub nested : List Line → Shown
nested ls = nested_by (first_unfit ls) (fields_in ls)
