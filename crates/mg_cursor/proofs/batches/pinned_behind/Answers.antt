use mir.Val.{SFits}
use Rattle.std.proofs.Common.{sym, ap, ◌∙◌, rules, to_z, of_z, w64}
use Rattle.std.proofs.lemmas.Int.{to_z-of_z}
use Rattle.mg_cursor.proofs.Hearing.{still_bound, unbound}
use Rattle.mg_cursor.proofs.batches.pinned_behind.Goals as goal

pub returns-then-id-eq0 : goal.returns-then-id-eq0
returns-then-id-eq0 c =
    let fits : SFits w64 c.args.id = search rules in
    unbound c.args.id c.args.pinned (sym (to_z-of_z w64 c.args.id fits) ∙ ap (to_z w64) c.if-id-eq0.true)

pub returns-else-id-eq0 : goal.returns-else-id-eq0
returns-else-id-eq0 c = still_bound c.args.id c.args.pinned (λ none. c.if-id-eq0.false (ap (of_z w64) none))
