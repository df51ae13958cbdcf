use Rattle.std.proofs.Common.{◌≡◌, ℕ, ℤ, pos, codes, List, Option, Some, None, w32, w64, to_z, refl, ap, ◌∙◌, arith}
use Rattle.std.proofs.lemmas.Int.{ints}
use Rattle.std.specs.Prelude.{string_bytes}
use Rattle.mg_bson.specs.Literal.{◌⇒◌⨾◌, empty}
use Rattle.mg_bson.specs.Tree.{Fields, Tree, date_time, int32, int64, string}
use Rattle.mg_bson.specs.View.{tree}
use Rattle.mg_ops.specs.Given.{behind}
use Rattle.mg_gridfs.specs.Commands.{metadata_value, record_document}
use Rattle.mg_gridfs.proofs.chunks.record_document.Goals as goal

-- but for what else is known
abbrev first : Tree → ℤ → ℤ → ℤ → List ℕ → Fields
first id length size moment filename = "_id" ⇒ id ⨾ "length" ⇒ int64 length ⨾ "chunkSize" ⇒ int32 size ⨾ "uploadDate" ⇒ date_time moment ⨾ "filename" ⇒ string filename ⨾ empty

whole : (id : Tree) (length size : ℕ) (moment : ℤ) (filename : List ℕ) (known : Option Fields) → behind (first id (pos length) (pos size) moment filename) (codes "metadata") (metadata_value known) ≡ record_document id length size moment filename known
whole id length size moment filename None = refl
whole id length size moment filename (Some known) = refl

pub returns-clause-ok : goal.returns-clause-ok
returns-clause-ok c =
    let aim = c.args.aim.now in
    let ending = c.args.ending in
    let small = c.requires.size in
    let long = c.requires.length in
    let size : to_z w32 aim.size ≡ pos aim.size = omega (arith, ints, small) in
    let length : to_z w64 ending.length ≡ pos ending.length = omega (arith, ints, long) in
    let moment = ending.moment.millis in
    let name = string_bytes aim.filename in
    let made : c.append-5.new.self ≡ first (tree c.in_ok-clone.field-0) (to_z w64 ending.length) (to_z w32 aim.size) moment (string_bytes c.in_ok-clone-2.field-0) = rw (c.in_ok-append-5.ensures.ok, c.in_ok-append-4.ensures.ok, c.in_ok-append-3.ensures.ok, c.in_ok-append-2.ensures.ok, c.in_ok-append.ensures.ok, c.new-fields.ensures) refl in
    c.in_ok-put_metadata.ensures.ok
    ∙ ap (λ (d : Fields). behind d (codes "metadata") (metadata_value aim.metadata))
    (made
    ∙ ap (λ (t : Tree). first t (to_z w64 ending.length) (to_z w32 aim.size) moment (string_bytes c.in_ok-clone-2.field-0)) c.in_ok-clone.ensures.cases
    ∙ ap (λ (n : List ℕ). first (tree aim.id) (to_z w64 ending.length) (to_z w32 aim.size) moment n) c.in_ok-clone-2.ensures.cases
    ∙ ap (λ (z : ℤ). first (tree aim.id) z (to_z w32 aim.size) moment name) length
    ∙ ap (λ (z : ℤ). first (tree aim.id) (pos ending.length) z moment name) size)
    ∙ whole (tree aim.id) ending.length aim.size moment name aim.metadata
