use Rattle.std.proofs.Common.{ℕ, List, ap, ◌∙◌}
use Rattle.mg_gridfs.specs.UploadView.{worker_of}
use Rattle.mg_gridfs.proofs.steps.Upload.take.Goals as goal

pub take-requires : goal.take-requires
take-requires c = c.requires.cut

pub returns-in-Ok-clause-taken : goal.returns-in-Ok-clause-taken
returns-in-Ok-clause-taken c = ap (λ (held : List ℕ). record (worker_of c.args.self.now) { behind = held }) c.in-Ok.ensures.ok

pub returns-in-Ok-clause-buffer : goal.returns-in-Ok-clause-buffer
returns-in-Ok-clause-buffer c = record { cut = c.take.ensures.keeps; sized = c.take.ensures.size ∙ c.requires.sized }

pub returns-in-Err-clause-taken : goal.returns-in-Err-clause-taken
returns-in-Err-clause-taken c = ap (λ (held : List ℕ). record (worker_of c.args.self.now) { behind = held }) c.in-Err.ensures.same

pub returns-in-Err-clause-buffer : goal.returns-in-Err-clause-buffer
returns-in-Err-clause-buffer c = record { cut = c.take.ensures.keeps; sized = c.take.ensures.size ∙ c.requires.sized }
