use mir.Val.{SFits}
use Rattle.std.proofs.Common.{◌∙◌, sym, ap, rules, w32}
use Rattle.std.proofs.lemmas.Int.{to_z-of_z}
use Rattle.mg_server.specs.Step.{ends_cursor}
use Rattle.mg_cursor.proofs.Hearing.{ending_by, none_ends}
use Rattle.mg_cursor.proofs.fault.ends_cursor.Goals as goal

pub returns-in-Some : goal.returns-in-Some
returns-in-Some c =
    let fits : SFits w32 c.in-Some.code = search rules in
    c.is_end.ensures ∙ ap ends_cursor (to_z-of_z w32 c.in-Some.code fits) ∙ sym (ending_by c.args.error.now.kind c.in-Some.code (sym c.in-Some.ensures))

pub returns-in-None : goal.returns-in-None
returns-in-None c = sym (none_ends c.args.error.now.kind (sym c.in-None.ensures))
