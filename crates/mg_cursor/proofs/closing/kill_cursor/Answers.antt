use Rattle.std.proofs.Common.{◌≡◌, Some, None, refl, sym, ◌∙◌}
use Rattle.mg_link.specs.Exec.{ticket_of}
use Rattle.mg_link.specs.Moment.{finished, moment}
use Rattle.mg_link.proofs.Moments.{keeps_same}
use Rattle.mg_cursor.specs.Client.{kill}
use Rattle.mg_cursor.specs.Closing.{kills, not_built, nothing_left}
use Rattle.mg_cursor.specs.View.{client_of}
use Rattle.mg_cursor.proofs.Hearing.{failing, keeps_from, unsent_not_io}
use Rattle.mg_cursor.proofs.Keeping.{to_kill_new}
use Rattle.mg_cursor.proofs.Killing.{new_ticket, spared, to_kill}
use Rattle.mg_cursor.proofs.closing.kill_cursor.Goals as goal

-- nothing is held yet
pub wait-requires-clause-held : goal.wait-requires-clause-held
wait-requires-clause-held g c = λ n e. let bad : None ≡ Some n = sym (new_ticket (client_of c.args.batches) c.in-Ok.exec c.in-Ok.ensures.ok) ∙ e in absurd cc

pub wait-requires-clause-killing : goal.wait-requires-clause-killing
wait-requires-clause-killing g c = to_kill_new (client_of c.args.batches) c.in-Ok.exec c.requires (to_kill (client_of c.args.batches) c.is_to_kill.result c.if-not-is_to_kill.false c.is_to_kill.ensures) c.in-Ok.ensures.ok

pub returns-then-not-is_to_kill-clause-keeps : goal.returns-then-not-is_to_kill-clause-keeps
returns-then-not-is_to_kill-clause-keeps g c = keeps_same (moment (g.L.Link.awaited c.args.link.now) (g.L.Link.log c.args.link.now) (g.L.Link.faults c.args.link.now) (g.L.Link.pends c.args.link.now) (g.L.Link.wire c.args.link.now) (g.L.Link.prompt c.args.link.now)) None finished (λ n e. cc) refl tt tt

pub returns-then-not-is_to_kill-clause-kills : goal.returns-then-not-is_to_kill-clause-kills
returns-then-not-is_to_kill-clause-kills g c = nothing_left (spared (client_of c.args.batches) c.is_to_kill.result c.if-not-is_to_kill.true c.is_to_kill.ensures) (record { rest = λ n. refl; log_same = refl }) refl

pub returns-in-Ok-clause-keeps : goal.returns-in-Ok-clause-keeps
returns-in-Ok-clause-keeps g c = keeps_from _ _ (ticket_of c.in-Ok.exec) None _ _ (new_ticket (client_of c.args.batches) c.in-Ok.exec c.in-Ok.ensures.ok) c.wait.ensures.keeps

pub returns-in-Ok-clause-kills : goal.returns-in-Ok-clause-kills
returns-in-Ok-clause-kills g c = kills (to_kill (client_of c.args.batches) c.is_to_kill.result c.if-not-is_to_kill.false c.is_to_kill.ensures) c.in-Ok.exec c.in-Ok.ensures.ok c.wait.ensures.runs

pub returns-in-Err-clause-keeps : goal.returns-in-Err-clause-keeps
returns-in-Err-clause-keeps g c =
    failing _ _ None None c.in-Err.error (unsent_not_io (kill (client_of c.args.batches)) c.in-Err.error c.in-Err.ensures.err)
    (keeps_same (moment (g.L.Link.awaited c.args.link.now) (g.L.Link.log c.args.link.now) (g.L.Link.faults c.args.link.now) (g.L.Link.pends c.args.link.now) (g.L.Link.wire c.args.link.now) (g.L.Link.prompt c.args.link.now)) None finished (λ n e. cc) refl tt tt)

pub returns-in-Err-clause-kills : goal.returns-in-Err-clause-kills
returns-in-Err-clause-kills g c = not_built (to_kill (client_of c.args.batches) c.is_to_kill.result c.if-not-is_to_kill.false c.is_to_kill.ensures) c.in-Err.error c.in-Err.ensures.err (record { rest = λ n. refl; log_same = refl }) refl
