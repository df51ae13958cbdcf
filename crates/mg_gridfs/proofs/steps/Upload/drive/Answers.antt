use Rattle.std.proofs.Common.{◌+◌, ℤ, Option, refl, ◌∙◌, subst}
use Rattle.mg_link.specs.Moment.{LinkKeeps, finished, moment, step_ending}
use Rattle.mg_link.specs.declared.error.Error.{Error}
use Rattle.mg_link.proofs.Moments.{keeps_on, keeps_same}
use Rattle.mg_ops.proofs.Drawn.{later_on, later_same}
use Rattle.mg_gridfs.specs.Calls.{ending_beside}
use Rattle.mg_gridfs.specs.Steps.{DoesStep, DoesSteps, goes, ids_behind}
use Rattle.mg_gridfs.specs.Turns.{step_ticket}
use Rattle.mg_gridfs.specs.Uploads.{error_behind, phase_ticket}
use Rattle.mg_gridfs.specs.UploadView.{phase_of, stopped_by, worker_of}
use Rattle.mg_gridfs.proofs.Driving.{drove_last, drove_none, drove_on, step_same, steps_same}
use Rattle.mg_gridfs.proofs.Keeping.{step_kept}
use Rattle.mg_gridfs.proofs.steps.Upload.drive.Goals as goal

pub steps-init : goal.steps-init
steps-init g c =
    let link = moment (g.L.Link.awaited c.args.link.now) (g.L.Link.log c.args.link.now) (g.L.Link.faults c.args.link.now) (g.L.Link.pends c.args.link.now) (g.L.Link.wire c.args.link.now) (g.L.Link.prompt c.args.link.now) in
    record {
      held = c.requires.held;
      keeps = keeps_same link (phase_ticket (phase_of c.args.stage)) finished c.requires.held refl tt tt;
      known = refl;
      bounds = c.requires.sound.0;
      sound = c.requires.sound.1;
      buffer = c.requires.buffer;
      drove = (0, later_same (g.I.IdSource.ids c.args.ids.now), drove_none (g.L.Link.awaited c.args.link.now) (g.L.Link.log c.args.link.now) (g.L.Link.wire c.args.link.now) (g.I.IdSource.ids c.args.ids.now) (worker_of c.args.self.now) (phase_of c.args.stage));
    }

pub step-requires-clause-held : goal.step-requires-clause-held
step-requires-clause-held g c = c.steps.invariant.held

pub step-requires-clause-sound : goal.step-requires-clause-sound
step-requires-clause-sound g c = (c.steps.invariant.bounds, c.steps.invariant.sound)

pub step-requires-clause-buffer : goal.step-requires-clause-buffer
step-requires-clause-buffer g c = c.steps.invariant.buffer

-- ---- it goes on

pub steps-preserved : goal.steps-preserved
steps-preserved g c =
    let so = c.steps.invariant in
    let k = c.in-Goes.ensures.keeps in
    let on = c.in-Goes.ensures.turns in
    let kept = step_kept (g.L.Link.awaited c.steps.link) (g.L.Link.awaited c.step.new.link) (g.L.Link.log c.steps.link) (g.L.Link.log c.step.new.link) (g.L.Link.wire c.steps.link) (worker_of c.steps.self) (worker_of c.step.new.self) (goes (phase_of c.in-Goes.next)) so.bounds (g.I.IdSource.ids c.steps.ids) on.0 (phase_of c.steps.stage) so.sound on.2.0 in
    let does = step_same (g.I.IdSource.ids c.steps.ids) (ids_behind so.drove.0 (g.I.IdSource.ids c.args.ids.now)) so.drove.1 (g.L.Link.awaited c.steps.link) (g.L.Link.awaited c.step.new.link) (g.L.Link.log c.steps.link) (g.L.Link.log c.step.new.link) (g.L.Link.wire c.steps.link) on.0 (worker_of c.steps.self) (worker_of c.step.new.self) (phase_of c.steps.stage) (goes (phase_of c.in-Goes.next)) on.2.0 in
    record {
      held = k.tickets.held;
      keeps = keeps_on (moment (g.L.Link.awaited c.args.link.now) (g.L.Link.log c.args.link.now) (g.L.Link.faults c.args.link.now) (g.L.Link.pends c.args.link.now) (g.L.Link.wire c.args.link.now) (g.L.Link.prompt c.args.link.now)) (moment (g.L.Link.awaited c.steps.link) (g.L.Link.log c.steps.link) (g.L.Link.faults c.steps.link) (g.L.Link.pends c.steps.link) (g.L.Link.wire c.steps.link) (g.L.Link.prompt c.steps.link)) (moment (g.L.Link.awaited c.step.new.link) (g.L.Link.log c.step.new.link) (g.L.Link.faults c.step.new.link) (g.L.Link.pends c.step.new.link) (g.L.Link.wire c.step.new.link) (g.L.Link.prompt c.step.new.link)) (phase_ticket (phase_of c.args.stage)) (phase_ticket (phase_of c.steps.stage)) (phase_ticket (phase_of c.in-Goes.next)) finished finished so.keeps so.keeps.pended k;
      known = c.in-Goes.ensures.falls.1 ∙ so.known;
      bounds = kept.bounds;
      sound = kept.stepped_so;
      buffer = c.step.ensures.buffer;
      drove = (
        so.drove.0 + on.0,
        later_on (g.I.IdSource.ids c.args.ids.now) (g.I.IdSource.ids c.steps.ids) (g.I.IdSource.ids c.step.new.ids) so.drove.0 on.0 so.drove.1 on.1,
        drove_on (g.L.Link.awaited c.args.link.now) (g.L.Link.awaited c.steps.link) (g.L.Link.awaited c.step.new.link) (g.L.Link.log c.args.link.now) (g.L.Link.log c.steps.link) (g.L.Link.log c.step.new.link) (g.L.Link.wire c.args.link.now) (g.I.IdSource.ids c.args.ids.now) so.drove.0 on.0 (worker_of c.args.self.now) (worker_of c.steps.self) (worker_of c.step.new.self) (phase_of c.args.stage) (phase_of c.steps.stage) (phase_of c.in-Goes.next) so.drove.2
            (subst (λ (w : ℤ). DoesStep (g.L.Link.awaited c.steps.link) (g.L.Link.awaited c.step.new.link) (g.L.Link.log c.steps.link) (g.L.Link.log c.step.new.link) w (ids_behind so.drove.0 (g.I.IdSource.ids c.args.ids.now)) on.0 (worker_of c.steps.self) (worker_of c.step.new.self) (phase_of c.steps.stage) (goes (phase_of c.in-Goes.next))) so.keeps.later.wire does),
      );
    }

pub steps-smaller : goal.steps-smaller
steps-smaller g c = c.in-Goes.ensures.falls.0

-- ---- its last steps

pub returns-in-Stops-clause-keeps : goal.returns-in-Stops-clause-keeps
returns-in-Stops-clause-keeps g c =
    let so = c.steps.invariant in
    subst (λ (e : Option Error). LinkKeeps (moment (g.L.Link.awaited c.args.link.now) (g.L.Link.log c.args.link.now) (g.L.Link.faults c.args.link.now) (g.L.Link.pends c.args.link.now) (g.L.Link.wire c.args.link.now) (g.L.Link.prompt c.args.link.now)) (moment (g.L.Link.awaited c.step.new.link) (g.L.Link.log c.step.new.link) (g.L.Link.faults c.step.new.link) (g.L.Link.pends c.step.new.link) (g.L.Link.wire c.step.new.link) (g.L.Link.prompt c.step.new.link)) (phase_ticket (phase_of c.args.stage)) (step_ticket c.in-Stops.step) (ending_beside (step_ending c.in-Stops.step) e)) so.known
    (keeps_on (moment (g.L.Link.awaited c.args.link.now) (g.L.Link.log c.args.link.now) (g.L.Link.faults c.args.link.now) (g.L.Link.pends c.args.link.now) (g.L.Link.wire c.args.link.now) (g.L.Link.prompt c.args.link.now)) (moment (g.L.Link.awaited c.steps.link) (g.L.Link.log c.steps.link) (g.L.Link.faults c.steps.link) (g.L.Link.pends c.steps.link) (g.L.Link.wire c.steps.link) (g.L.Link.prompt c.steps.link)) (moment (g.L.Link.awaited c.step.new.link) (g.L.Link.log c.step.new.link) (g.L.Link.faults c.step.new.link) (g.L.Link.pends c.step.new.link) (g.L.Link.wire c.step.new.link) (g.L.Link.prompt c.step.new.link)) (phase_ticket (phase_of c.args.stage)) (phase_ticket (phase_of c.steps.stage)) (step_ticket c.in-Stops.step) finished (ending_beside (step_ending c.in-Stops.step) (error_behind (phase_of c.steps.stage))) so.keeps so.keeps.pended c.in-Stops.ensures.keeps)

pub returns-in-Stops-clause-drives : goal.returns-in-Stops-clause-drives
returns-in-Stops-clause-drives g c =
    let so = c.steps.invariant in
    let on = c.in-Stops.ensures.turns in
    let does = steps_same on.2.0 (g.I.IdSource.ids c.steps.ids) (ids_behind so.drove.0 (g.I.IdSource.ids c.args.ids.now)) so.drove.1 (g.L.Link.awaited c.steps.link) (g.L.Link.awaited c.step.new.link) (g.L.Link.log c.steps.link) (g.L.Link.log c.step.new.link) (g.L.Link.wire c.steps.link) on.0 (worker_of c.steps.self) (worker_of c.step.new.self) (phase_of c.steps.stage) (stopped_by c.in-Stops.step) on.2.1 in (
      so.drove.0 + on.0,
      later_on (g.I.IdSource.ids c.args.ids.now) (g.I.IdSource.ids c.steps.ids) (g.I.IdSource.ids c.step.new.ids) so.drove.0 on.0 so.drove.1 on.1,
      drove_last (g.L.Link.awaited c.args.link.now) (g.L.Link.awaited c.steps.link) (g.L.Link.awaited c.step.new.link) (g.L.Link.log c.args.link.now) (g.L.Link.log c.steps.link) (g.L.Link.log c.step.new.link) (g.L.Link.wire c.args.link.now) (g.I.IdSource.ids c.args.ids.now) so.drove.0 on.0 on.2.0 (worker_of c.args.self.now) (worker_of c.steps.self) (worker_of c.step.new.self) (phase_of c.args.stage) (phase_of c.steps.stage) (stopped_by c.in-Stops.step) so.drove.2
          (subst (λ (w : ℤ). DoesSteps on.2.0 (g.L.Link.awaited c.steps.link) (g.L.Link.awaited c.step.new.link) (g.L.Link.log c.steps.link) (g.L.Link.log c.step.new.link) w (ids_behind so.drove.0 (g.I.IdSource.ids c.args.ids.now)) on.0 (worker_of c.steps.self) (worker_of c.step.new.self) (phase_of c.steps.stage) (stopped_by c.in-Stops.step)) so.keeps.later.wire does),
    )

pub returns-in-Stops-clause-buffer : goal.returns-in-Stops-clause-buffer
returns-in-Stops-clause-buffer g c = c.step.ensures.buffer
