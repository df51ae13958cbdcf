use Rattle.mg_gridfs.proofs.steps.Upload.new.Goals as goal

pub returns-clause-buffer : goal.returns-clause-buffer
returns-clause-buffer c = record { cut = c.new-buffer.ensures.cut; sized = c.new-buffer.ensures.size }
