use Rattle.std.proofs.Common.{sym, ap, ◌∙◌}
use Rattle.mg_bson.specs.ReadView.{element_with}
use Rattle.mg_bson.proofs.Known.{name_known, known_element}
use Rattle.mg_bson.proofs.read.split_known.Goals as goal

pub known_text-requires : goal.known_text-requires
known_text-requires c =
    let n = c.in_ok-name in
    name_known c.args.bytes.now n.name.now n.after.now c.requires c.in-len1-up.len_at_least (sym n.ensures)

pub returns : goal.returns
returns c =
    let n = c.in_ok-name in
    let text = name_known c.args.bytes.now n.name.now n.after.now c.requires c.in-len1-up.len_at_least (sym n.ensures) in
    known_element c.args.bytes.now n.name.now n.after.now c.in_ok-kind.kind _ c.in-len1-up.len_at_least c.in_ok-kind.ensures n.ensures text
    (c.element_before.ensures ∙ ap (λ s. element_with c.in_ok-kind.kind s n.after.now) c.known_text.ensures)
