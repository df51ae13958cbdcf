-- What a find gave.
use Rattle.std.specs.Prelude.{◌≡◌, Option, Some, None}
use Rattle.mg_bson.specs.Find.{as_document}
use Rattle.mg_bson.specs.Tree.{Fields, Items, Tree, item, no_items}
use Rattle.mg_link.specs.declared.error.Error.{Error}
use Rattle.mg_link.specs.declared.error.Malformed.TheVariants as malformed
use Rattle.mg_chunks.specs.Broken.{broken}

-- a batch without items has no first document, and that of another is its first item
pub data HasFirst (batch : Items) (found : Option Fields) : Type 0 where
  no_item : batch ≡ no_items → found ≡ None → HasFirst batch found
  first_item : (t : Tree) (ts : Items) (d : Fields) → batch ≡ item t ts → as_document t ≡ Some d → found ≡ Some d → HasFirst batch found

-- its first item is no document
pub record IsNoDocument (batch : Items) (e : Error) : Type 0 where
  pub first : Tree
  pub behind : Items
  pub is : batch ≡ item first behind
  pub no_document : as_document first ≡ None
  pub error : e ≡ broken malformed.BadItem
