use Rattle.std.proofs.Common.{◌≡◌, List, ℕ, Some, IfErr, IfOk, option_map, subst}
use Rattle.mg_bson.specs.Walks.{before}
use Rattle.mg_cursor.specs.Batches.{BreaksBatch, documents_of}
use Rattle.mg_cursor.proofs.raw_batch.RawBatch.into_documents.Goals as goal

pub returns-clause-ok : goal.returns-clause-ok
returns-clause-ok c = subst (λ (b : List ℕ). IfOk c.documents_in.result (λ d. option_map (before b) (documents_of b) ≡ Some d)) c.self.view_is c.documents_in.ensures.ok

pub returns-clause-err : goal.returns-clause-err
returns-clause-err c = subst (λ (b : List ℕ). IfErr c.documents_in.result (λ e. BreaksBatch b e)) c.self.view_is c.documents_in.ensures.err
