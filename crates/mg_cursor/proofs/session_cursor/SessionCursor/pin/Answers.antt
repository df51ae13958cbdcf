use Rattle.std.proofs.Common.{false, sym, ap, ◌∙◌, subst}
use Rattle.mg_cursor.specs.Client.{IsSound, pinned_to}
use Rattle.mg_cursor.specs.Documents.{DocumentCursor}
use Rattle.mg_cursor.specs.View.{document_cursor}
use Rattle.mg_cursor.proofs.Keeping.{sound_pinned}
use Rattle.mg_cursor.proofs.session_cursor.SessionCursor.pin.Goals as goal

pub invariant_of-self : goal.invariant_of-self
invariant_of-self g c = subst (λ (d : DocumentCursor). IsSound false d.cursor) (sym c.pin.ensures) (sound_pinned false (document_cursor c.self.inside.documents).cursor c.args.id c.self.invariant)

pub returns : goal.returns
returns g c = c.pin.ensures ∙ ap (λ (d : DocumentCursor). record d { cursor = pinned_to c.args.id d.cursor }) c.self.view_is
