use Rattle.std.proofs.Common.{sym, ◌∙◌}
use Rattle.mg_cursor.proofs.session_cursor.SessionCursor.poll_next.Goals as goal

pub returns-clause-seeks : goal.returns-clause-seeks
returns-clause-seeks g c = let x = c.next_in.ensures.seeks in (x.0, x.1, x.2, c.session-1.given.1 (sym c.next_in.ensures.same_session) ∙ x.3)
