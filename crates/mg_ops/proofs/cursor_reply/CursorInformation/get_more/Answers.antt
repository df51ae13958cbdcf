use mir.Val.{SFits}
use Rattle.std.proofs.Common.{rules, ◌≡◌, ℤ, Option, ap, ◌∙◌, option_map, w64, to_z, of_z}
use Rattle.std.proofs.lemmas.Int.{to_z-of_z}
use Rattle.mg_bson.specs.Tree.{Tree}
use Rattle.mg_bson.specs.View.{tree}
use Rattle.mg_link.specs.Namespace.{Space, space}
use Rattle.mg_ops.specs.Commands.{more_command}
use Rattle.mg_ops.proofs.cursor_reply.CursorInformation.get_more.Goals as goal

pub returns-clause-command : goal.returns-clause-command
returns-clause-command c =
    let at = c.args.self.now in
    let fits : SFits w64 at.id = search rules in
    let same : to_z w64 (of_z w64 at.id) ≡ at.id = to_z-of_z w64 at.id fits in
    ap (λ (s : Space). more_command (to_z w64 (of_z w64 at.id)) s at.batch_size at.max_time (option_map tree c.in_ok-copied.field-0)) c.in_ok-clone.ensures.cases
    ∙ ap (λ (t : Option Tree). more_command (to_z w64 (of_z w64 at.id)) (space at.ns) at.batch_size at.max_time t) c.in_ok-copied.ensures
    ∙ ap (λ (n : ℤ). more_command n (space at.ns) at.batch_size at.max_time (option_map tree at.comment)) same
