use Rattle.std.proofs.Common.{◌≡◌, ℤ, map, string_bytes, refl, subst, rules, to_z, of_z, w32}
use mir.Val.{SFits}
use Rattle.std.proofs.lemmas.Int.{to_z-of_z}
use Rattle.mg_server.specs.Rules.{refusal}
use Rattle.mg_store.specs.InMemory.{Performed}
use Rattle.mg_store.proofs.link.take_effect.Goals as goal

pub returns-in_ok-refuse-in-Refuse-clause-takes : goal.returns-in_ok-refuse-in-Refuse-clause-takes
returns-in_ok-refuse-in-Refuse-clause-takes c =
    let code : ℤ = c.in-Refuse.code in
    let fits : SFits w32 code = search rules in
    let back : to_z w32 (of_z w32 code) ≡ code = to_z-of_z w32 code fits in
    rw c.in-Refuse.is
    (subst (λ (x : ℤ). Performed (λ before. refusal x (map string_bytes c.in-Refuse.labels.items)) c.args.store.now c.refuse.new.store c.args.command c.in_ok-refuse-in-Refuse.field-0) back c.in_ok-refuse-in-Refuse.ensures.performed)

pub returns-in-Drop-clause-takes : goal.returns-in-Drop-clause-takes
returns-in-Drop-clause-takes c = rw c.in-Drop.is refl
