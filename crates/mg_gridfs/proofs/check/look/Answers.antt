use Rattle.std.proofs.Common.{◌≡◌, ◌+◌, ◌||◌, ℕ, suc, Bool, Ok, Err, Option, List, refl, ap, ◌∙◌, subst, arith}
use Rattle.mg_bson.specs.Raw.{fields}
use Rattle.mg_cursor.specs.Documents.{ReadsAs}
use Rattle.mg_records.specs.Readings.{recorded}
use Rattle.mg_records.specs.Specifications.{index, index_of}
use Rattle.mg_gridfs.specs.Checks as check
use Rattle.mg_gridfs.specs.Checks.{reads}
use Rattle.mg_gridfs.specs.Indexes.{are_keys}
use Rattle.mg_gridfs.proofs.check.look.Goals as goal

pub deserialize_current-requires : goal.deserialize_current-requires
deserialize_current-requires c = c.requires

pub returns-then-count-ge-MOST : goal.returns-then-count-ge-MOST
returns-then-count-ge-MOST c = λ document there. check.too_many c.if-count-ge-MOST.true (ap check.fails c.plain.ensures)

pub returns-in-Ok : goal.returns-in-Ok
returns-in-Ok c = λ document there.
    let read = subst (λ (o : Option (List ℕ)). ReadsAs (λ (bytes : List ℕ). recorded (index_of (fields bytes))) index o (Ok c.in-Ok.index)) there c.in-Ok.ensures in
    let next : c.args.listing.count + 1 ≡ suc c.args.listing.count = omega arith in
    check.looked (index c.in-Ok.index) (omega (arith, c.if-count-ge-MOST.false)) read
    (ap (λ (b : Bool). check.goes (reads c.args.place c.args.listing.cursor b (c.args.listing.count + 1))) (c.either.ensures ∙ ap (λ (b : Bool). c.args.listing.found || b) c.has_keys-has.ensures)
    ∙ ap (λ (n : ℕ). check.goes (reads c.args.place c.args.listing.cursor (c.args.listing.found || are_keys c.args.place c.in-Ok.index.keys) n)) next)

pub returns-in-Err : goal.returns-in-Err
returns-in-Err c = λ document there. check.broke c.in-Err.error (subst (λ (o : Option (List ℕ)). ReadsAs (λ (bytes : List ℕ). recorded (index_of (fields bytes))) index o (Err c.in-Err.error)) there c.in-Err.ensures) refl
