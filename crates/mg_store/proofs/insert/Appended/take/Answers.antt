use Rattle.std.proofs.Common.{◌≡◌, ℕ, ◌+◌, suc, length, subst, arith}
use Rattle.mg_link.specs.Namespace.{space}
use Rattle.mg_query.specs.Numbering.{there}
use Rattle.mg_store.specs.Inserting.{Accepts}
use Rattle.mg_store.proofs.insert.Appended.take.Goals as goal

pub returns-in-Ok : goal.returns-in-Ok
returns-in-Ok c keeps fits =
    let place : c.args.entries + c.len.result + 1 ≡ suc (c.args.entries + length c.args.self.now.entries.items) = omega (arith, c.len.ensures) in
    subst (λ (p : ℕ). Accepts (there c.args.collection) p (space c.args.ns.now) c.args.document c.args.self.now c.accept.new.self) place (c.in-Ok.ensures keeps fits)
