use Rattle.std.proofs.Common.{◌≡◌, ℕ}
use Rattle.mg_link.specs.Acts.{IsOut}
use Rattle.mg_link.specs.Moment.{LinkKeeps, finished, moment}
use Rattle.mg_ops.specs.Drawn.{AreLater}
use Rattle.mg_gridfs.specs.Turns.{rank}
use Rattle.mg_gridfs.specs.Uploads.{HasBounds, IsSoundPhase, error_behind, phase_ticket}
use Rattle.mg_gridfs.specs.UploadView.{HasBuffer, phase_of, worker_of}
use Rattle.mg_gridfs.proofs.Driving.{Drove}
use Rattle.mg_gridfs.proofs.steps.Upload.drive.Given as goal

abbrev pub invariant-steps : goal.invariant-steps
invariant-steps g l = record {
  held : IsOut (g.L.Link.awaited l.link) (phase_ticket (phase_of l.stage));
  keeps : LinkKeeps (moment (g.L.Link.awaited l.fn.link) (g.L.Link.log l.fn.link) (g.L.Link.faults l.fn.link) (g.L.Link.pends l.fn.link) (g.L.Link.wire l.fn.link) (g.L.Link.prompt l.fn.link))
      (moment (g.L.Link.awaited l.link) (g.L.Link.log l.link) (g.L.Link.faults l.link) (g.L.Link.pends l.link) (g.L.Link.wire l.link) (g.L.Link.prompt l.link))
      (phase_ticket (phase_of l.fn.stage)) (phase_ticket (phase_of l.stage)) finished;
  known : error_behind (phase_of l.stage) ≡ error_behind (phase_of l.fn.stage);
  bounds : HasBounds (worker_of l.self);
  sound : IsSoundPhase (worker_of l.self) (phase_of l.stage);
  buffer : HasBuffer l.self;
  drove : (drawn : ℕ) × AreLater (g.I.IdSource.ids l.fn.ids) drawn (g.I.IdSource.ids l.ids)
      × Drove (g.L.Link.awaited l.fn.link) (g.L.Link.awaited l.link) (g.L.Link.log l.fn.link) (g.L.Link.log l.link) (g.L.Link.wire l.fn.link) (g.I.IdSource.ids l.fn.ids) drawn (worker_of l.fn.self) (worker_of l.self) (phase_of l.fn.stage) (phase_of l.stage);
}

abbrev pub decreases-steps : goal.decreases-steps
decreases-steps g l = rank (worker_of l.self) (phase_of l.stage)
