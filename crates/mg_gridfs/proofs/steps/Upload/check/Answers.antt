use Rattle.std.proofs.Common.{refl}
use Rattle.mg_gridfs.specs.Checks as check
use Rattle.mg_gridfs.specs.Steps as steps
use Rattle.mg_gridfs.specs.Steps.{checks_on, waits}
use Rattle.mg_gridfs.specs.Uploads.{checks}
use Rattle.mg_gridfs.specs.UploadView.{check_of, worker_of}
use Rattle.mg_gridfs.proofs.Stepping.{step_last}
use Rattle.mg_gridfs.proofs.steps.Upload.check.Goals as goal

pub step-requires-clause-held : goal.step-requires-clause-held
step-requires-clause-held g c = c.requires.held

pub step-requires-clause-sound : goal.step-requires-clause-sound
step-requires-clause-sound g c = c.requires.sound.0

pub returns-in-Goes-clause-keeps : goal.returns-in-Goes-clause-keeps
returns-in-Goes-clause-keeps g c = c.in-Goes.ensures.keeps

pub returns-in-Pends-clause-keeps : goal.returns-in-Pends-clause-keeps
returns-in-Pends-clause-keeps g c = c.in-Pends.ensures.keeps

pub returns-in-Passes-clause-keeps : goal.returns-in-Passes-clause-keeps
returns-in-Passes-clause-keeps g c = c.in-Passes.ensures.keeps

pub returns-in-Fails-clause-keeps : goal.returns-in-Fails-clause-keeps
returns-in-Fails-clause-keeps g c = c.in-Fails.ensures.keeps

pub returns-in-Goes-clause-turns : goal.returns-in-Goes-clause-turns
returns-in-Goes-clause-turns g c = λ given. (checks_on (check_of c.args.check) refl refl (check.goes (check_of c.in-Goes.check)) c.in-Goes.ensures.checks (refl, refl), refl)

pub returns-in-Pends-clause-turns : goal.returns-in-Pends-clause-turns
returns-in-Pends-clause-turns g c = λ given.
    step_last (g.L.Link.awaited c.args.link.now) (g.L.Link.awaited c.step.new.link) (g.L.Link.log c.args.link.now) (g.L.Link.log c.step.new.link) (g.L.Link.wire c.args.link.now) given 0 (worker_of c.args.self.now) (worker_of c.args.self.now) (checks (check_of c.args.check)) (waits (checks (check_of c.in-Pends.check))) (checks_on (check_of c.args.check) refl refl (check.pends (check_of c.in-Pends.check)) c.in-Pends.ensures.checks (refl, refl)) tt

pub returns-in-Passes-clause-turns : goal.returns-in-Passes-clause-turns
returns-in-Passes-clause-turns g c = λ given. (checks_on (check_of c.args.check) refl refl check.passes c.in-Passes.ensures.checks (refl, refl), refl)

pub returns-in-Fails-clause-turns : goal.returns-in-Fails-clause-turns
returns-in-Fails-clause-turns g c = λ given.
    step_last (g.L.Link.awaited c.args.link.now) (g.L.Link.awaited c.step.new.link) (g.L.Link.log c.args.link.now) (g.L.Link.log c.step.new.link) (g.L.Link.wire c.args.link.now) given 0 (worker_of c.args.self.now) (worker_of c.args.self.now) (checks (check_of c.args.check)) (steps.failed c.in-Fails.error) (checks_on (check_of c.args.check) refl refl (check.fails c.in-Fails.error) c.in-Fails.ensures.checks (refl, refl)) tt
