use Rattle.std.proofs.Common.{◌≡◌, inr, map, rules, string_bytes, w32, Ok}
use mir.Val.{SFits}
use Rattle.std.proofs.lemmas.Int.{to_z-of_z}
use Rattle.mg_bson.specs.Raw.{fields}
use Rattle.mg_ops.specs.Writes.{failure, failures_of}
use Rattle.mg_ops.proofs.Failed.{listed_first}
use Rattle.mg_ops.proofs.write_reply.check_written.Goals as goal

pub returns-clause-err : goal.returns-clause-err
returns-clause-err c =
    let says : failures_of 0 (fields c.args.reply.now) ≡ Ok (map failure c.in-Ok.failures.items) = search rules in
    let fits : SFits w32 c.first-item.result.code = search rules in
    let copied : string_bytes c.in_ok-message-in-len1-up.message ≡ string_bytes c.first-item.result.message = search rules in
    inr (listed_first (fields c.args.reply.now) c.in-Ok.failures.items c.as_slice.result.now c.first-item.result _ c.plain.result says c.as_slice.ensures.value c.in-len1-up.len_at_least c.first-item.is (to_z-of_z w32 c.first-item.result.code fits) copied c.plain.ensures)
