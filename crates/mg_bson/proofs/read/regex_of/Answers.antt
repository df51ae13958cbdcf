use Rattle.std.proofs.Common.{Some, None, cond, sym, ap, ◌∙◌}
use Rattle.mg_bson.specs.Tree.{regex}
use Rattle.mg_bson.proofs.Known.{regex_none, regex_half, regex_whole}
use Rattle.mg_bson.proofs.read.regex_of.Goals as goal

pub returns-in_err-pattern : goal.returns-in_err-pattern
returns-in_err-pattern c = rw c.from_residual.ensures (sym (regex_none c.args.bytes.now (sym c.in_err-pattern.ensures)))

pub returns-in_err-options : goal.returns-in_err-options
returns-in_err-options c =
    let p = c.in_ok-pattern in
    rw c.from_residual-in_err-options.ensures (sym (regex_half c.args.bytes.now p.pattern.now p.behind.now (sym p.ensures) (sym c.in_err-options.ensures)))

pub returns-then-not-is_empty : goal.returns-then-not-is_empty
returns-then-not-is_empty c =
    let p = c.in_ok-pattern in
    let o = c.in_ok-options in
    let whole = regex_whole c.args.bytes.now p.pattern.now p.behind.now o.options.now o.rest.now (sym p.ensures) (sym o.ensures) in
    sym (whole ∙ ap (λ b. cond b (Some (regex p.pattern.now o.options.now)) None) (sym c.if-not-is_empty.ensures))

pub returns : goal.returns
returns c =
    let p = c.in_ok-pattern in
    let o = c.in_ok-options in
    let whole = regex_whole c.args.bytes.now p.pattern.now p.behind.now o.options.now o.rest.now (sym p.ensures) (sym o.ensures) in
    sym (whole ∙ ap (λ b. cond b (Some (regex p.pattern.now o.options.now)) None) (sym c.if-not-is_empty.ensures))
