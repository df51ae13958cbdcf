use mir.Val.{SFits}
use Rattle.std.proofs.Common.{◌≡◌, ◌⊎◌, ℕ, ℤ, List, Option, None, false, arith, ap, max, refl, subst, ◌∙◌, rules, w32, to_z, of_z}
use Rattle.std.proofs.lemmas.Int.{to_z-of_z}
use Rattle.std.specs.Prelude.{option_copied}
use Rattle.mg_bson.specs.Bytes.{bytes}
use Rattle.mg_link.specs.Exec.{Sending, unsent}
use Rattle.mg_link.specs.Session.{Session}
use Rattle.mg_link.specs.declared.error.Error.{Error}
use Rattle.mg_link.proofs.Onward.{tickets_same}
use Rattle.mg_exec.specs.ExecView.{reads}
use Rattle.mg_ops.specs.Failing.{CannotBeSent, FailsBy}
use Rattle.mg_actions.specs.Running.{CameTo, not_built, was_sent}
use Rattle.mg_actions.proofs.OneCall.{read_pends, read_tickets}
use Rattle.mg_actions.proofs.running.run.Goals as goal

-- ---- it was not built

pub returns-in-Err-clause-runs : goal.returns-in-Err-clause-runs
returns-in-Err-clause-runs g c =
    let fits : SFits w32 c.wire_version.result = search rules in
    let same : to_z w32 (of_z w32 c.wire_version.result) ≡ g.L.Link.wire c.args.link.now = to_z-of_z w32 c.wire_version.result fits ∙ c.wire_version.ensures in (
      false,
      refl,
      not_built c.in-Err.error
          (subst (λ (s : Option Session). FailsBy (λ (e : Error). g.O.Operation.unfit c.args.operation.now e ⊎ CannotBeSent (g.O.Operation.command c.args.operation.now (g.L.Link.wire c.args.link.now) s) e) c.in-Err.error) c.asked-asked.ensures
          (subst (λ (w : ℤ). FailsBy (λ (e : Error). g.O.Operation.unfit c.args.operation.now e ⊎ CannotBeSent (g.O.Operation.command c.args.operation.now w (option_copied c.asked-asked.result)) e) c.in-Err.error) same c.in-Err.ensures.err))
          (record { rest = λ m. refl; log_same = refl }) refl refl,
    )

pub returns-in-Err-clause-tickets : goal.returns-in-Err-clause-tickets
returns-in-Err-clause-tickets g c = tickets_same (g.L.Link.awaited c.args.link.now) None (λ n e. cc)

pub returns-in-Err-clause-pended : goal.returns-in-Err-clause-pended
returns-in-Err-clause-pended g c = omega arith

-- ---- it was sent

pub sent-came-requires : goal.sent-came-requires
sent-came-requires g c = ap (λ (x : Sending). x.stage) c.start.ensures

pub returns-in-Ok-clause-runs : goal.returns-in-Ok-clause-runs
returns-in-Ok-clause-runs g c =
    let o = c.args.operation.now in
    let fits : SFits w32 c.wire_version.result = search rules in
    let same : to_z w32 (of_z w32 c.wire_version.result) ≡ g.L.Link.wire c.args.link.now = to_z-of_z w32 c.wire_version.result fits ∙ c.wire_version.ensures in
    let bytes_are : c.in-Ok.command ≡ bytes (g.O.Operation.command c.args.operation.now (g.L.Link.wire c.args.link.now) (g.H.ClientSessionHandle.asked c.args.session.now)) = c.in-Ok.ensures.bytes ∙ ap (λ (w : ℤ). bytes (g.O.Operation.command c.args.operation.now w (option_copied c.asked-asked.result))) same ∙ ap (λ (s : Option Session). bytes (g.O.Operation.command c.args.operation.now (g.L.Link.wire c.args.link.now) s)) c.asked-asked.ensures in
    let retry_is = c.retry-retry.ensures ∙ ap (λ (s : Option Session). g.O.Operation.retried o s) c.asked-asked.ensures in
    let is = c.start.ensures
    ∙ ap {B = Sending} (λ (b : List ℕ). record { command = b; retries = reads c.retry-retry.result; stage = unsent }) bytes_are
    ∙ ap {B = Sending} (λ r. record { command = bytes (g.O.Operation.command c.args.operation.now (g.L.Link.wire c.args.link.now) (g.H.ClientSessionHandle.asked c.args.session.now)); retries = reads r; stage = unsent }) retry_is in
    let came = c.sent-came.ensures.came in (
      came.0,
      came.1,
      was_sent c.sent-came.result
          (subst (λ (x : Sending). CameTo (max c.args.polls 1) (g.L.Link.awaited c.args.link.now) (g.L.Link.awaited c.sent-came.new.link) (g.L.Link.log c.args.link.now) (g.L.Link.log c.sent-came.new.link) (g.L.Link.wire c.args.link.now) (g.L.Link.faults c.args.link.now) (g.L.Link.faults c.sent-came.new.link) (g.L.Link.prompt c.args.link.now) x came.0 c.sent-came.result) is came.2)
          c.heard.ensures,
    )

pub returns-in-Ok-clause-tickets : goal.returns-in-Ok-clause-tickets
returns-in-Ok-clause-tickets g c = read_tickets (g.O.Operation.gives c.args.operation.now) (g.O.Operation.fails c.args.operation.now) _ _ c.sent-came.result c.heard.result c.heard.ensures c.sent-came.ensures.tickets

pub returns-in-Ok-clause-pended : goal.returns-in-Ok-clause-pended
returns-in-Ok-clause-pended g c = read_pends (g.O.Operation.gives c.args.operation.now) (g.O.Operation.fails c.args.operation.now) (max c.args.polls 1) c.sent-came.result c.heard.result _ _ c.heard.ensures c.sent-came.ensures.pended
