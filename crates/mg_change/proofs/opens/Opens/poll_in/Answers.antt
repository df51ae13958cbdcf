use mir.Val.{SFits}
use Rattle.std.proofs.Common.{rules, ◌≡◌, ℤ, false, Option, None, refl, sym, ap, ◌∙◌, subst, w32, to_z, of_z}
use Rattle.std.specs.Prelude.{option_copied}
use Rattle.std.proofs.lemmas.Int.{to_z-of_z}
use Rattle.mg_link.specs.Exec.{ticket_of}
use Rattle.mg_link.specs.Moment.{finished, moment}
use Rattle.mg_link.specs.Session.{Session}
use Rattle.mg_link.proofs.Moments.{keeps_same}
use Rattle.mg_ops.specs.Failing.{FailsBy}
use Rattle.mg_ops.specs.declared.aggregate.ChangeStreamAggregate.{ChangeStreamAggregate}
use Rattle.mg_cursor.proofs.Hearing.{failing, keeps_from}
use Rattle.mg_change.specs.ClientOpenings.{IsNextSent, not_built, opening_ticket, seen_step, sending_ticket}
use Rattle.mg_change.specs.OpeningView.{opens_of}
use Rattle.mg_change.specs.Steps.{CannotResume}
use Rattle.mg_change.specs.StreamView.{changes_of}
use Rattle.mg_change.proofs.Opened.{opens_sound}
use Rattle.mg_change.proofs.Seen.{first_as, keeps_opens, next_out, next_ticket, opens_next, unresumed_not_io}
use Rattle.mg_change.proofs.opens.Opens.poll_in.Goals as goal

pub wait-requires : goal.wait-requires
wait-requires g c =
    next_out (g.L.Link.awaited c.args.link.now) c.args.self.aggregate (to_z w32 (of_z w32 c.wire_version.result)) (option_copied c.asked.result) c.args.self.exec c.in-Ok.exec c.in-Ok.ensures.ok c.requires

-- ---- it was sent, or waited for

pub returns-in-Ok-clause-keeps : goal.returns-in-Ok-clause-keeps
returns-in-Ok-clause-keeps g c =
    keeps_from _ _ (ticket_of c.in-Ok.exec) (opening_ticket (opens_of c.args.self)) _ _ (next_ticket c.args.self.aggregate (to_z w32 (of_z w32 c.wire_version.result)) (option_copied c.asked.result) c.args.self.exec c.in-Ok.exec c.in-Ok.ensures.ok) c.wait.ensures.keeps

pub returns-in-Ok-clause-opens : goal.returns-in-Ok-clause-opens
returns-in-Ok-clause-opens g c = λ first.
    let link = c.args.link.now in
    let later = c.wait.new.link in
    let asked = g.H.ClientSessionHandle.asked c.args.handle.now in
    let fits : SFits w32 c.wire_version.result = search rules in
    let same : to_z w32 (of_z w32 c.wire_version.result) ≡ g.L.Link.wire link = to_z-of_z w32 c.wire_version.result fits ∙ c.wire_version.ensures in
    let by_session = subst (λ (session : Option Session). IsNextSent c.args.self.aggregate (to_z w32 (of_z w32 c.wire_version.result)) session c.args.self.exec c.in-Ok.exec) c.asked.ensures c.in-Ok.ensures.ok in
    let by_wire = subst (λ (w : ℤ). IsNextSent c.args.self.aggregate w asked c.args.self.exec c.in-Ok.exec) same by_session in
    let next = subst (λ (a : ChangeStreamAggregate). IsNextSent a (g.L.Link.wire link) asked c.args.self.exec c.in-Ok.exec) (first_as c.args.self.aggregate first) by_wire in
    let runs = c.wait.ensures.runs in (
      runs.0,
      opens_next (g.L.Link.awaited link) (g.L.Link.awaited later) (g.L.Link.log link) (g.L.Link.log later) (g.L.Link.wire link) asked runs.0 c.args.self.aggregate.args c.args.self.exec c.in-Ok.exec (seen_step opens_of changes_of c.wait.result) next runs.1,
      runs.2,
    )

pub returns-in-Ok-clause-sound : goal.returns-in-Ok-clause-sound
returns-in-Ok-clause-sound g c = λ plain is plainly.
    let link = c.args.link.now in
    let later = c.wait.new.link in
    let did = returns-in-Ok-clause-opens g c is.first in
    keeps_opens plain c.args.self.aggregate c.wait.result is.first
    (opens_sound plain (g.L.Link.awaited link) (g.L.Link.awaited later) (g.L.Link.log link) (g.L.Link.log later) (g.L.Link.wire link) (g.H.ClientSessionHandle.asked c.args.handle.now) did.0 (opens_of c.args.self) (seen_step opens_of changes_of c.wait.result) is.sound plainly did.1)
    (c.wait.ensures.sound plain) c.wait.ensures.first

pub returns-in-Ok-clause-owned : goal.returns-in-Ok-clause-owned
returns-in-Ok-clause-owned g c = c.wait.ensures.owned

-- ---- it is not built

pub returns-in-Err-clause-keeps : goal.returns-in-Err-clause-keeps
returns-in-Err-clause-keeps g c =
    let link = c.args.link.now in
    let here = moment (g.L.Link.awaited link) (g.L.Link.log link) (g.L.Link.faults link) (g.L.Link.pends link) (g.L.Link.wire link) (g.L.Link.prompt link) in
    keeps_from here here None (opening_ticket (opens_of c.args.self)) _ _ (ap sending_ticket (sym c.in-Err.ensures.none))
    (failing here here None None c.in-Err.error (unresumed_not_io c.args.self.aggregate (to_z w32 (of_z w32 c.wire_version.result)) (option_copied c.asked.result) c.in-Err.error c.in-Err.ensures.err) (keeps_same here None finished (λ n e. cc) refl tt tt))

pub returns-in-Err-clause-opens : goal.returns-in-Err-clause-opens
returns-in-Err-clause-opens g c = λ first.
    let link = c.args.link.now in
    let asked = g.H.ClientSessionHandle.asked c.args.handle.now in
    let fits : SFits w32 c.wire_version.result = search rules in
    let same : to_z w32 (of_z w32 c.wire_version.result) ≡ g.L.Link.wire link = to_z-of_z w32 c.wire_version.result fits ∙ c.wire_version.ensures in
    let by_session = subst (λ (session : Option Session). FailsBy (CannotResume c.args.self.aggregate (to_z w32 (of_z w32 c.wire_version.result)) session) c.in-Err.error) c.asked.ensures c.in-Err.ensures.err in
    let by_wire = subst (λ (w : ℤ). FailsBy (CannotResume c.args.self.aggregate w asked) c.in-Err.error) same by_session in
    let fails = subst (λ (a : ChangeStreamAggregate). FailsBy (CannotResume a (g.L.Link.wire link) asked) c.in-Err.error) (first_as c.args.self.aggregate first) by_wire in
    (false, not_built c.in-Err.ensures.none c.in-Err.error fails (record { rest = λ n. refl; log_same = refl }) refl refl, refl)
