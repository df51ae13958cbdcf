use Rattle.std.proofs.Common.{sym, ◌∙◌}
use Rattle.mg_cursor.proofs.session_cursor.SessionCursor.poll_try_advance.Goals as goal

pub returns-clause-tries : goal.returns-clause-tries
returns-clause-tries g c = let x = c.try_advance_in.ensures.tries in (x.0, x.1, c.session-1.given.1 (sym c.try_advance_in.ensures.same_session) ∙ x.2)
