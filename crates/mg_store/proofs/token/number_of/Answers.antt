use Rattle.std.proofs.Common.{Some, ap, ◌∙◌}
use Rattle.std.specs.Int.{w64, from_be_bytes}
use Rattle.std.proofs.lemmas.Nat.{from_be_bytes-to_be_bytes_8}
use Rattle.mg_store.proofs.Places.{decoded, not_err}
use Rattle.mg_store.proofs.token.number_of.Goals as goal

pub returns-in-Ok : goal.returns-in-Ok
returns-in-Ok c place lt is =
    let got = decoded place c.args.digits.now c.decode_to_slice.result c.decode_to_slice.new.out is c.decode_to_slice.ensures.value in
    ap Some (c.from_be_bytes.ensures ∙ ap (from_be_bytes w64) got.1 ∙ from_be_bytes-to_be_bytes_8 place lt)

pub returns-in-Err : goal.returns-in-Err
returns-in-Err c place lt is =
    let got = decoded place c.args.digits.now c.decode_to_slice.result c.decode_to_slice.new.out is c.decode_to_slice.ensures.value in
    absurd (not_err c.decode_to_slice.result c.in-Err.field-0 got.0 c.in-Err.is)
