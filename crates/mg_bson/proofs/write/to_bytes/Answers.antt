use Rattle.std.proofs.Common.{◌≡◌, ◌++◌, ap, ◌∙◌, is_some}
use Rattle.mg_bson.specs.Bytes.{bytes}
use Rattle.mg_bson.specs.Reading.{doc}
use Rattle.mg_bson.specs.Raw.{fields}
use Rattle.mg_bson.proofs.RoundTrip.{doc-bytes}
use Rattle.mg_bson.proofs.Lending.{fields-are}
use Rattle.mg_bson.proofs.write.to_bytes.Goals as goal

pub checked-requires : goal.checked-requires
checked-requires c =
    let d = c.args.document.now in
    let written : c.write_document.new.out.items ≡ bytes d = c.in_ok-write_document.ensures ∙ ap (λ old. old ++ bytes d) c.in_ok-out.ensures.items in
    ap (λ bs. is_some (doc bs)) written ∙ ap is_some (doc-bytes d c.in_ok-len.ensures.writable)

pub returns-clause-read_back : goal.returns-clause-read_back
returns-clause-read_back c =
    let d = c.args.document.now in
    let written : c.write_document.new.out.items ≡ bytes d = c.in_ok-write_document.ensures ∙ ap (λ old. old ++ bytes d) c.in_ok-out.ensures.items in
    ap fields (c.checked.ensures ∙ written) ∙ fields-are (bytes d) d (doc-bytes d c.in_ok-len.ensures.writable)
