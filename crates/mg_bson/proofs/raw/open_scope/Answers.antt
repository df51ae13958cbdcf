use Rattle.std.proofs.Common.{sym}
use Rattle.mg_bson.proofs.Lending.{inner_scope}
use Rattle.mg_bson.proofs.raw.open_scope.Goals as goal

pub invariant_of-scope : goal.invariant_of-scope
invariant_of-scope c =
    let p = c.in_ok-code in
    (inner_scope c.args.bytes.now p.code.now p.scope.now c.requires (sym p.ensures)).0

pub returns-clause-value : goal.returns-clause-value
returns-clause-value c =
    let p = c.in_ok-code in
    sym (inner_scope c.args.bytes.now p.code.now p.scope.now c.requires (sym p.ensures)).1
