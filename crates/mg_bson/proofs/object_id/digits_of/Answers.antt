use Rattle.std.proofs.Common.{◌≡◌, Ok, arith, ap, ◌∙◌}
use Rattle.std.proofs.lemmas.Result.{IfOk-weaker}
use Rattle.std.specs.String.{string_bytes}
use Rattle.hex.specs.Hex.{IsBytes, decode_of, encode_lower}
use Rattle.hex.proofs.HexLemmas.{decode_of-encode_lower}
use Rattle.mg_bson.proofs.object_id.digits_of.Goals as goal

pub returns-clause-read_back : goal.returns-clause-read_back
returns-clause-read_back c =
    let bytes = c.args.bytes.now in
    let fits : IsBytes bytes = λ i. let f = c.type_inv.bytes i in omega arith in
    IfOk-weaker c.encode.result (λ text. string_bytes text ≡ encode_lower bytes) (λ text. decode_of (string_bytes text) ≡ Ok bytes)
    (λ text h. ap decode_of h ∙ decode_of-encode_lower bytes fits) c.encode.ensures
