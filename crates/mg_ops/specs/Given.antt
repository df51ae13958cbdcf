-- Documents with pairs that stand there only where their value is given, as `"batchSize" ⇢ size ⨾ empty`.
use Rattle.std.specs.Prelude.{codes, ℕ, List, Option, Some, None}
use Prim.Native.String.{String}
use Rattle.mg_bson.specs.Tree.{Tree, Fields, field}
use Rattle.mg_bson.specs.Find.{with_field}

-- the pair in front of the document, where its value is given
abbrev pub before : List ℕ → Option Tree → Fields → Fields
before k None fs = fs
before k (Some t) fs = field k t fs

infixr 10 ◌⇢◌⨾◌
abbrev pub ◌⇢◌⨾◌ : String → Option Tree → Fields → Fields
k ⇢ t ⨾ fs = before (codes k) t fs

-- the pair behind the document, where its value is given
abbrev pub behind : Fields → List ℕ → Option Tree → Fields
behind fs k None = fs
behind fs k (Some t) = with_field fs k t
