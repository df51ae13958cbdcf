use Rattle.std.proofs.Common.{◌≡◌, true, false, sym, rules, tests}
use Rattle.std.specs.Str.{bytes_eq}
use Rattle.std.proofs.lemmas.Iterator.{YieldsList-from_slice, IsFirst-from_position}
use Rattle.mg_bson.specs.declared.tree.Field.{Field}
use Rattle.mg_bson.proofs.Places.{place_at_first}
use Rattle.mg_bson.proofs.tree.place_of.Goals as goal

pub returns : goal.returns
returns c =
    let k = c.args.name.now in
    let first = IsFirst-from_position _ _ c.position.result (λ (f : Field). bytes_eq f.name k ≡ true) (λ (f : Field). bytes_eq f.name k ≡ false) c.position.ensures.ran (YieldsList-from_slice _ c.iter.ensures.rest) (λ x q h. search (rules, tests)) (λ x q h. search (rules, tests)) in
    sym (place_at_first k c.args.fields.now c.position.result first)
