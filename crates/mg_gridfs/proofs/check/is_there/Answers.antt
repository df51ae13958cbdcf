use mir.Val.{SFits}
use Rattle.std.proofs.Common.{◌≡◌, ◌↔◌, IsTrue, ℤ, sym, subst, rules, w32}
use Rattle.std.proofs.lemmas.Int.{to_z-of_z}
use Rattle.mg_link.specs.Errors.{command_code}
use Rattle.mg_gridfs.specs.Checks.{namespace_exists}
use Rattle.mg_gridfs.proofs.Checking.{code_there, no_code}
use Rattle.mg_gridfs.proofs.check.is_there.Goals as goal

pub returns-in-Some : goal.returns-in-Some
returns-in-Some c =
    let fits : SFits w32 c.in-Some.code = search rules in
    code_there (command_code c.args.error.now.kind) c.in-Some.code c.says_there.result (sym c.in-Some.ensures)
    (subst (λ (z : ℤ). IsTrue c.says_there.result ↔ (z ≡ namespace_exists)) (to_z-of_z w32 c.in-Some.code fits) c.says_there.ensures)

pub returns-in-None : goal.returns-in-None
returns-in-None c = no_code (command_code c.args.error.now.kind) (sym c.in-None.ensures)
