use Rattle.std.proofs.Common.{ap, ◌∙◌}
use Rattle.mg_cursor.specs.View.{behind_of}
use Rattle.mg_change.specs.StreamView.{place_by}
use Rattle.mg_change.proofs.Parts.{placed_by}
use Rattle.mg_change.proofs.changes.Changes.place_behind.Goals as goal

pub returns : goal.returns
returns c =
    let behind = behind_of c.args.self.now.buffer in
    c.place_behind.ensures ∙ placed_by behind c.token.result c.is_last.result c.is_some.result c.is_last.ensures c.is_some.ensures ∙ ap (place_by behind) c.token.ensures
