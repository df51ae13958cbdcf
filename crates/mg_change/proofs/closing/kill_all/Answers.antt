use Rattle.std.proofs.Common.{◌≡◌, Some, None, refl, sym, ◌∙◌}
use Rattle.mg_link.specs.Exec.{ticket_of}
use Rattle.mg_link.specs.Moment.{finished, moment}
use Rattle.mg_link.proofs.Moments.{keeps_same}
use Rattle.mg_cursor.proofs.Hearing.{failing, keeps_from, unsent_not_io}
use Rattle.mg_change.specs.ClosingStreams.{kill_left, kills_all, lands, not_built, nothing_left}
use Rattle.mg_change.specs.ClosingView.{closing_in}
use Rattle.mg_change.proofs.Remaining.{kill_new, kill_unbuilt, new_ticket, none_left, some_left, to_kill_new}
use Rattle.mg_change.proofs.closing.kill_all.Goals as goal

-- nothing is held yet
pub wait-requires-clause-held : goal.wait-requires-clause-held
wait-requires-clause-held g c = λ n e.
    let k = closing_in c.args.remains lands in
    let bad : None ≡ Some n = sym (new_ticket k c.in-Ok.exec (kill_new _ k c.args.ids.items c.in-Ok.exec c.namespace.ensures c.requires.left c.in-Ok.ensures.built)) ∙ e in
    absurd cc

pub wait-requires-clause-killing : goal.wait-requires-clause-killing
wait-requires-clause-killing g c =
    let k = closing_in c.args.remains lands in
    to_kill_new k c.in-Ok.exec c.requires.quiet (some_left k c.args.ids.items c.args.ids.len c.is_empty.result c.requires.left c.args.ids.ok.0 c.is_empty.ensures c.if-is_empty.false) (kill_new _ k c.args.ids.items c.in-Ok.exec c.namespace.ensures c.requires.left c.in-Ok.ensures.built)

-- ---- nothing is left

pub returns-then-is_empty-clause-keeps : goal.returns-then-is_empty-clause-keeps
returns-then-is_empty-clause-keeps g c = keeps_same (moment (g.L.Link.awaited c.args.link.now) (g.L.Link.log c.args.link.now) (g.L.Link.faults c.args.link.now) (g.L.Link.pends c.args.link.now) (g.L.Link.wire c.args.link.now) (g.L.Link.prompt c.args.link.now)) None finished (λ n e. cc) refl tt tt

pub returns-then-is_empty-clause-kills : goal.returns-then-is_empty-clause-kills
returns-then-is_empty-clause-kills g c =
    nothing_left (none_left (closing_in c.args.remains lands) c.args.ids.items c.args.ids.len c.is_empty.result c.requires.left c.args.ids.ok.0 c.is_empty.ensures c.if-is_empty.true) (record { rest = λ n. refl; log_same = refl }) refl

-- ---- it is sent

pub returns-in-Ok-clause-keeps : goal.returns-in-Ok-clause-keeps
returns-in-Ok-clause-keeps g c =
    let k = closing_in c.args.remains lands in
    keeps_from _ _ (ticket_of c.in-Ok.exec) None _ _ (new_ticket k c.in-Ok.exec (kill_new _ k c.args.ids.items c.in-Ok.exec c.namespace.ensures c.requires.left c.in-Ok.ensures.built)) c.wait.ensures.keeps

pub returns-in-Ok-clause-kills : goal.returns-in-Ok-clause-kills
returns-in-Ok-clause-kills g c =
    let k = closing_in c.args.remains lands in
    kills_all (some_left k c.args.ids.items c.args.ids.len c.is_empty.result c.requires.left c.args.ids.ok.0 c.is_empty.ensures c.if-is_empty.false) c.in-Ok.exec (kill_new _ k c.args.ids.items c.in-Ok.exec c.namespace.ensures c.requires.left c.in-Ok.ensures.built) c.wait.ensures.runs

-- ---- it is not built

pub returns-in-Err-clause-keeps : goal.returns-in-Err-clause-keeps
returns-in-Err-clause-keeps g c =
    let k = closing_in c.args.remains lands in
    failing _ _ None None c.in-Err.error (unsent_not_io (kill_left k) c.in-Err.error (kill_unbuilt _ k c.args.ids.items c.in-Err.error c.namespace.ensures c.requires.left c.in-Err.ensures.fails))
    (keeps_same (moment (g.L.Link.awaited c.args.link.now) (g.L.Link.log c.args.link.now) (g.L.Link.faults c.args.link.now) (g.L.Link.pends c.args.link.now) (g.L.Link.wire c.args.link.now) (g.L.Link.prompt c.args.link.now)) None finished (λ n e. cc) refl tt tt)

pub returns-in-Err-clause-kills : goal.returns-in-Err-clause-kills
returns-in-Err-clause-kills g c =
    let k = closing_in c.args.remains lands in
    not_built (some_left k c.args.ids.items c.args.ids.len c.is_empty.result c.requires.left c.args.ids.ok.0 c.is_empty.ensures c.if-is_empty.false) c.in-Err.error (kill_unbuilt _ k c.args.ids.items c.in-Err.error c.namespace.ensures c.requires.left c.in-Err.ensures.fails) (record { rest = λ n. refl; log_same = refl }) refl
