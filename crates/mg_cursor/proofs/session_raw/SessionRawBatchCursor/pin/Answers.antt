use Rattle.std.proofs.Common.{false, sym, ap, ◌∙◌, subst}
use Rattle.mg_cursor.specs.Client.{IsSound, pinned_to}
use Rattle.mg_cursor.specs.View.{client_of}
use Rattle.mg_cursor.proofs.Keeping.{sound_pinned}
use Rattle.mg_cursor.proofs.session_raw.SessionRawBatchCursor.pin.Goals as goal

pub invariant_of-self : goal.invariant_of-self
invariant_of-self c = subst (IsSound false) (sym c.pin.ensures) (sound_pinned false (client_of c.self.inside.batches) c.args.id c.self.invariant)

pub returns : goal.returns
returns c = c.pin.ensures ∙ ap (pinned_to c.args.id) c.self.view_is
