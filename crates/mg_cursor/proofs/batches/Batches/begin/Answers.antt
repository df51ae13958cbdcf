use Rattle.std.proofs.Common.{◌≡◌, ◌⊎◌, false, Option, Some, None, refl, sym, ap, ◌∙◌, subst}
use Rattle.mg_link.specs.Exec.{ticket_at, ticket_of}
use Rattle.mg_link.specs.Session.{Session}
use Rattle.mg_link.specs.declared.error.Error.{Error}
use Rattle.mg_ops.specs.Cursors.{asking_command}
use Rattle.mg_ops.specs.Failing.{CannotBeSent, FailsBy, HasBadSize}
use Rattle.mg_ops.specs.Sessions.{in_session}
use Rattle.mg_cursor.specs.Client.{IsNew}
use Rattle.mg_cursor.specs.Polling.{begins, is_over, not_built}
use Rattle.mg_cursor.specs.View.{client_of, doing_of}
use Rattle.mg_cursor.proofs.Hearing.{keeps_failing, keeps_from, keeps_quiet, may_ask, unasked_not_io}
use Rattle.mg_cursor.proofs.batches.Batches.begin.Goals as goal

-- nothing is held yet
pub go_on-requires-clause-held : goal.go_on-requires-clause-held
go_on-requires-clause-held g c = λ n e. let bad : None ≡ Some n = sym (ap ticket_at c.in-Ok.ensures.ok.new) ∙ e in absurd cc

pub go_on-requires-clause-idle : goal.go_on-requires-clause-idle
go_on-requires-clause-idle g c = c.requires

pub returns-then-is_over-clause-keeps : goal.returns-then-is_over-clause-keeps
returns-then-is_over-clause-keeps g c = keeps_quiet _ (client_of c.args.self.now) (ap doing_of c.requires)

pub returns-then-is_over-clause-polls : goal.returns-then-is_over-clause-polls
returns-then-is_over-clause-polls g c =
    (false, is_over (ap doing_of c.requires) (c.is_over.ensures.0 c.if-is_over.true) (record { rest = λ n. refl; log_same = refl }) refl refl refl, refl)

pub returns-in-Ok-clause-keeps : goal.returns-in-Ok-clause-keeps
returns-in-Ok-clause-keeps g c = keeps_from _ _ (ticket_of c.in-Ok.exec) None _ _ (ap ticket_at c.in-Ok.ensures.ok.new) c.go_on.ensures.keeps

pub returns-in-Ok-clause-polls : goal.returns-in-Ok-clause-polls
returns-in-Ok-clause-polls g c =
    let new_one = subst (λ (session : Option Session). IsNew (in_session session (asking_command c.args.self.now.cursor)) c.in-Ok.exec) c.asked.ensures c.in-Ok.ensures.ok in
    (c.go_on.ensures.asks.0, begins (ap doing_of c.requires) (may_ask (client_of c.args.self.now) c.is_over.result c.is_over.ensures c.if-is_over.false) c.in-Ok.exec new_one c.go_on.ensures.asks.1, c.go_on.ensures.asks.2)

pub returns-in-Err-clause-keeps : goal.returns-in-Err-clause-keeps
returns-in-Err-clause-keeps g c =
    keeps_failing _ (client_of c.args.self.now) c.in-Err.error (ap doing_of c.requires) (unasked_not_io (client_of c.args.self.now) _ c.in-Err.error c.in-Err.ensures.err)

pub returns-in-Err-clause-polls : goal.returns-in-Err-clause-polls
returns-in-Err-clause-polls g c =
    let at = c.args.self.now.cursor in
    let fails = subst (λ (session : Option Session). FailsBy (λ (e : Error). HasBadSize at.batch_size e ⊎ CannotBeSent (in_session session (asking_command at)) e) c.in-Err.error) c.asked.ensures c.in-Err.ensures.err in
    (false, not_built (ap doing_of c.requires) (may_ask (client_of c.args.self.now) c.is_over.result c.is_over.ensures c.if-is_over.false) c.in-Err.error fails (record { rest = λ n. refl; log_same = refl }) refl refl refl, refl)
