use Rattle.mg_bson.proofs.Parts.{inside_part, documents_parts}
use Rattle.mg_bson.proofs.laws.lies_inside.Goals as goal

pub returns-clause-array : goal.returns-clause-array
returns-clause-array c = inside_part

pub returns-clause-documents : goal.returns-clause-documents
returns-clause-documents c = documents_parts
