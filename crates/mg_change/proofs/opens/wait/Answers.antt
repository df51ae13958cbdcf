use mir.Val.{SFits}
use Rattle.std.proofs.Common.{rules, ◌≡◌, ℤ, None, ◌∙◌, subst, w32, to_z, of_z}
use Rattle.std.specs.Prelude.{if◌then◌else◌}
use Rattle.std.proofs.lemmas.Int.{to_z-of_z}
use Rattle.mg_link.specs.Exec.{ticket_of}
use Rattle.mg_link.specs.Moment.{moment}
use Rattle.mg_link.proofs.Moments.{keeps_step}
use Rattle.mg_cursor.proofs.Giving.{told_times}
use Rattle.mg_change.specs.ClientOpenings.{HearsOpening, opening_ticket, seen_step}
use Rattle.mg_change.specs.OpeningView.{opens_of}
use Rattle.mg_change.specs.StreamView.{changes_of}
use Rattle.mg_change.proofs.Seen.{heard_keeps, seen_keeps}
use Rattle.mg_change.proofs.opens.wait.Goals as goal

pub returns-clause-keeps : goal.returns-clause-keeps
returns-clause-keeps g c =
    let link = c.args.link.now in
    let later = c.poll_started-step.new.link in
    let before = moment (g.L.Link.awaited link) (g.L.Link.log link) (g.L.Link.faults link) (g.L.Link.pends link) (g.L.Link.wire link) (g.L.Link.prompt link) in
    let after = moment (g.L.Link.awaited later) (g.L.Link.log later) (g.L.Link.faults later) (g.L.Link.pends later) (g.L.Link.wire later) (g.L.Link.prompt later) in
    let polled = c.poll_started-step.result.0 in
    seen_keeps before after (ticket_of c.args.exec) opening_ticket opens_of changes_of c.hear.result
    (heard_keeps before after (ticket_of c.args.exec) (to_z w32 (of_z w32 c.wire_version.result)) (record { args = c.args.aggregate.args; sending = None }) polled (seen_step opens_of changes_of c.hear.result) c.hear.ensures.hears
    (keeps_step before after ticket_of (ticket_of c.args.exec) polled c.poll_started-step.ensures.tickets c.poll_started-step.ensures.pended c.poll_started-step.ensures.lost c.poll_started-step.ensures.prompt c.poll_started-step.ensures.later))

pub returns-clause-runs : goal.returns-clause-runs
returns-clause-runs g c =
    let polled = c.poll_started-step.result.0 in
    let started = c.poll_started-step.result.1 in
    let fits : SFits w32 c.wire_version.result = search rules in
    let same : to_z w32 (of_z w32 c.wire_version.result) ≡ g.L.Link.wire c.args.link.now = to_z-of_z w32 c.wire_version.result fits ∙ c.wire_version.ensures ∙ c.poll_started-step.ensures.later.wire in (
      started,
      record {
        came = polled;
        runs = c.poll_started-step.ensures.runs;
        hears = subst (λ (w : ℤ). HearsOpening w (record { args = c.args.aggregate.args; sending = None }) polled (seen_step opens_of changes_of c.hear.result)) same c.hear.ensures.hears;
      },
      ◌∙◌ {b = if started then g.H.ClientSessionHandle.told c.args.handle.now else c.args.handle.now} c.tell.ensures (told_times g.H.ClientSessionHandle.told c.args.handle.now started),
    )

pub returns-clause-sound : goal.returns-clause-sound
returns-clause-sound g c = c.hear.ensures.sound

pub returns-clause-owned : goal.returns-clause-owned
returns-clause-owned g c = c.hear.ensures.owned

pub returns-clause-first : goal.returns-clause-first
returns-clause-first g c = c.hear.ensures.first
