-- The filter of the chunks of a file (GridFS specification, "chunks collection documents").
use Rattle.mg_bson.specs.Literal.{◌⇒◌⨾◌, empty}
use Rattle.mg_bson.specs.Tree.{Fields, Tree, document}

-- the chunks of a file
abbrev pub of_file : Tree → Fields
of_file id = "files_id" ⇒ document ("$eq" ⇒ id ⨾ empty) ⨾ empty
