use Rattle.std.proofs.Common.{◌≡◌, List, ℕ, Some, None, Ok, ◌∙◌, subst}
use Rattle.std.specs.Prelude.{MatchResult}
use Rattle.mg_bson.specs.Raw.{fields, items}
use Rattle.mg_ops.specs.Cursors.{batch_at}
use Rattle.mg_cursor.specs.Batches.{NoBatchIn, batch_in}
use Rattle.mg_cursor.proofs.raw_batch.RawBatch.doc_slices.Goals as goal

pub returns-clause-bytes : goal.returns-clause-bytes
returns-clause-bytes c = subst (λ (b : List ℕ). MatchResult c.slices_of.result (λ a. batch_in b ≡ Some a) (λ e. batch_in b ≡ None)) (c.as_raw.ensures ∙ c.self.view_is) c.slices_of.ensures.bytes

pub returns-clause-values : goal.returns-clause-values
returns-clause-values c = subst (λ (b : List ℕ). MatchResult c.slices_of.result (λ a. batch_at (fields b) ≡ Ok (items a)) (λ e. NoBatchIn (fields b) e)) (c.as_raw.ensures ∙ c.self.view_is) c.slices_of.ensures.values
