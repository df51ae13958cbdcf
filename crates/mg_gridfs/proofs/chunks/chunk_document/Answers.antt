use Rattle.std.proofs.Common.{◌≡◌, ℤ, pos, w32, to_z, refl, ap, ◌∙◌, arith}
use Rattle.std.proofs.lemmas.Int.{ints}
use Rattle.mg_bson.specs.Literal.{◌⇒◌⨾◌, empty}
use Rattle.mg_bson.specs.Tree.{Fields, Tree, binary, int32, object_id}
use Rattle.mg_bson.specs.View.{tree}
use Rattle.mg_gridfs.proofs.chunks.chunk_document.Goals as goal

abbrev chunk_by : Tree → Tree → ℤ → Tree → Fields
chunk_by id file n bytes = "_id" ⇒ id ⨾ "files_id" ⇒ file ⨾ "n" ⇒ int32 n ⨾ "data" ⇒ bytes ⨾ empty

pub returns-clause-ok : goal.returns-clause-ok
returns-clause-ok c =
    let small = c.requires in
    let number : to_z w32 c.args.n ≡ pos c.args.n = omega (arith, ints, small) in
    let id = object_id c.args.id.0 in
    let bytes = binary 0 c.args.bytes.items in
    let made : c.append-4.new.self ≡ chunk_by id (tree c.in_ok-clone.field-0) (to_z w32 c.args.n) bytes = rw (c.in_ok-append-4.ensures.ok, c.in_ok-append-3.ensures.ok, c.in_ok-append-2.ensures.ok, c.in_ok-append.ensures.ok, c.new-chunk.ensures) refl in
    made
    ∙ ap (λ (t : Tree). chunk_by id t (to_z w32 c.args.n) bytes) c.in_ok-clone.ensures.cases
    ∙ ap (λ (z : ℤ). chunk_by id (tree c.args.file.now) z bytes) number
