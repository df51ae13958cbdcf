use Rattle.std.proofs.Common.{ap}
use Rattle.std.proofs.lemmas.Result.{on_err_weaker}
use Rattle.mg_change.specs.declared.changes.Changes.{Changes}
use Rattle.mg_change.proofs.Parts.{placed_either}
use Rattle.mg_change.proofs.changes.Changes.save_token.Goals as goal

pub returns-in-Saved-clause-saved : goal.returns-in-Saved-clause-saved
returns-in-Saved-clause-saved c = c.in-Saved.is

pub returns-in-Saved-clause-placed : goal.returns-in-Saved-clause-placed
returns-in-Saved-clause-placed c = c.requires

pub returns-in-Event-clause-placed : goal.returns-in-Event-clause-placed
returns-in-Event-clause-placed c = placed_either c.save_copy.result c.args.self.now c.save_copy.new.self c.save_copy.ensures.saved c.save_copy.ensures.stays c.requires

pub returns-in-Event-clause-place : goal.returns-in-Event-clause-place
returns-in-Event-clause-place c = on_err_weaker c.save_copy.result (λ same. ap (λ (s : Changes). s.token) same) c.save_copy.ensures.stays

pub returns-in-Batch-clause-placed : goal.returns-in-Batch-clause-placed
returns-in-Batch-clause-placed c = placed_either c.save_copy-in-Batch.result c.args.self.now c.save_copy-in-Batch.new.self c.save_copy-in-Batch.ensures.saved c.save_copy-in-Batch.ensures.stays c.requires

pub returns-in-Batch-clause-place : goal.returns-in-Batch-clause-place
returns-in-Batch-clause-place c = on_err_weaker c.save_copy-in-Batch.result (λ same. ap (λ (s : Changes). s.token) same) c.save_copy-in-Batch.ensures.stays
