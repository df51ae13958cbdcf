use Rattle.std.proofs.Common.{true, sym, ap, ◌∙◌, subst}
use Rattle.mg_change.specs.ClientStreams.{stream_token}
use Rattle.mg_change.specs.ClosingStreams.{ClosingStream, LandsFor, closed_stream, stream_closing_ticket}
use Rattle.mg_change.specs.StreamView.{changes_of, is_lent}
use Rattle.mg_change.proofs.Closed.{closed_for}
use Rattle.mg_change.proofs.Linking.{not_lent}
use Rattle.mg_change.proofs.Parts.{any_stream, closed_ticket}
use Rattle.mg_change.proofs.stream.ChangeStream.close.Goals as goal

pub close-requires : goal.close-requires
close-requires g c = any_stream true c.args.self.changes c.requires.sound

pub returns-clause-closed : goal.returns-clause-closed
returns-clause-closed g c = c.close.ensures ∙ sym (ap (λ (k : ClosingStream). closed_stream k.lent (changes_of c.args.self.changes)) c.close.ensures)

pub returns-clause-ticket : goal.returns-clause-ticket
returns-clause-ticket g c = ap stream_closing_ticket c.close.ensures ∙ closed_ticket (is_lent c.args.self.changes.token) (changes_of c.args.self.changes) (any_stream true c.args.self.changes c.requires.sound).sound

pub returns-clause-owned : goal.returns-clause-owned
returns-clause-owned g c = λ own. ap (λ (k : ClosingStream). k.lent) c.close.ensures ∙ not_lent c.args.self.changes.token own

pub returns-clause-lands_for : goal.returns-clause-lands_for
returns-clause-lands_for g c = λ w start asks_so.
    let s = changes_of c.args.self.changes in
    subst (LandsFor w start (stream_token s)) (sym c.close.ensures) (closed_for w start (is_lent c.args.self.changes.token) s (any_stream true c.args.self.changes c.requires.sound).sound asks_so)
