use Rattle.std.proofs.Common.{refl, sym}
use Rattle.mg_bson.specs.Raw.{fields}
use Rattle.mg_bson.specs.RawView.{value}
use Rattle.mg_chunks.specs.Found.{first_item}
use Rattle.mg_chunks.proofs.found.document_of.Goals as goal

pub returns-in-Some-clause-ok : goal.returns-in-Some-clause-ok
returns-in-Some-clause-ok c = λ more. first_item (value c.args.found.now) more (fields c.in-Some.document) refl (sym c.in-Some.ensures) refl

pub returns-in-None-clause-err : goal.returns-in-None-clause-err
returns-in-None-clause-err c = λ more. record { first = value c.args.found.now; behind = more; is = refl; no_document = sym c.in-None.ensures; error = c.broken.ensures }
