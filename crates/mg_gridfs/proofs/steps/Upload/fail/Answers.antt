use Rattle.std.proofs.Common.{ℕ, Some, None, sym, subst}
use Rattle.mg_link.specs.Moment.{moment}
use Rattle.mg_gridfs.specs.Steps.{DoesSteps, Stepped}
use Rattle.mg_gridfs.specs.Uploads.{undoes}
use Rattle.mg_gridfs.specs.UploadView.{worker_of}
use Rattle.mg_gridfs.proofs.Stepping.{keeps_stopped}
use Rattle.mg_gridfs.proofs.steps.Upload.fail.Goals as goal

pub returns-clause-keeps : goal.returns-clause-keeps
returns-clause-keeps g c = keeps_stopped (moment (g.L.Link.awaited c.args.link.now) (g.L.Link.log c.args.link.now) (g.L.Link.faults c.args.link.now) (g.L.Link.pends c.args.link.now) (g.L.Link.wire c.args.link.now) (g.L.Link.prompt c.args.link.now)) (moment (g.L.Link.awaited c.undo.new.link) (g.L.Link.log c.undo.new.link) (g.L.Link.faults c.undo.new.link) (g.L.Link.pends c.undo.new.link) (g.L.Link.wire c.undo.new.link) (g.L.Link.prompt c.undo.new.link)) None (Some c.args.error) c.on_the_way_back.result c.undo.result c.on_the_way_back.ensures c.undo.ensures.keeps

pub returns-clause-fails : goal.returns-clause-fails
returns-clause-fails g c = λ given. subst (λ (q : Stepped). (n : ℕ) × DoesSteps n (g.L.Link.awaited c.args.link.now) (g.L.Link.awaited c.undo.new.link) (g.L.Link.log c.args.link.now) (g.L.Link.log c.undo.new.link) (g.L.Link.wire c.args.link.now) given 0 (worker_of c.args.self.now) (worker_of c.args.self.now) (undoes (Some c.args.error)) q) (sym c.on_the_way_back.ensures) (c.undo.ensures.backs given)
