-- What a document ends as, where one of its values is lent.
use Rattle.std.specs.Prelude.{ℕ, List, Option}
use Rattle.std.specs.Borrow.{LendsIf, Fml, MutBor}
use Rattle.mg_bson.specs.Tree.{Fields}
use Rattle.mg_bson.specs.Find.{put}
use Rattle.mg_bson.specs.View.{tree}
use Rattle.mg_bson.specs.declared.tree.Bson.{Bson}
use Rattle.mg_bson.specs.contracts.tree.Document.{the_row}
use Rattle.mg_bson.specs.contracts.tree.Bson as bson

-- d ends with the last value behind r in place of the first one of the name
abbrev pub LendsValue : MutBor Fields → List ℕ → Option (MutBor Bson) → Fml
LendsValue d k r = LendsIf the_row bson.the_row d r (λ v. put k (tree v) d.now) d.now
