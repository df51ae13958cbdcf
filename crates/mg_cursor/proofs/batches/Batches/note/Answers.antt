use Rattle.std.proofs.Common.{◌∙◌, sym, ap}
use Rattle.std.proofs.lemmas.Bool.{iff_false}
use Rattle.mg_link.specs.declared.pinned.PinnedConnection.{PinnedConnection}
use Rattle.mg_cursor.specs.View.{client_of}
use Rattle.mg_cursor.proofs.Hearing.{behind_ending, behind_fault, behind_other}
use Rattle.mg_cursor.proofs.batches.Batches.note.Goals as goal

pub returns-then-ends_cursor : goal.returns-then-ends_cursor
returns-then-ends_cursor c = sym (behind_ending c.args.error.now.kind (client_of c.args.self.now) (sym c.ends_cursor.ensures ∙ c.if-ends_cursor.true))

pub returns-then-is_network_error : goal.returns-then-is_network_error
returns-then-is_network_error c =
    let before = client_of c.args.self.now in
    ap (λ (p : PinnedConnection). record before { pinned = p }) c.invalidated-self.ensures
    ∙ sym (behind_fault c.args.error.now.kind before (c.is_network_error.ensures.0 c.if-is_network_error.true))

pub returns-else-is_network_error : goal.returns-else-is_network_error
returns-else-is_network_error c =
    sym (behind_other c.args.error.now.kind (client_of c.args.self.now) (sym c.ends_cursor.ensures ∙ c.if-ends_cursor.false) (iff_false c.is_network_error.ensures c.if-is_network_error.false))
