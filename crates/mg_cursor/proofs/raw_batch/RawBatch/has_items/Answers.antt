use Rattle.std.proofs.Common.{◌↔◌, List, ℕ, IsTrue, ◌∙◌, subst}
use Rattle.mg_cursor.specs.Batches.{HasItems}
use Rattle.mg_cursor.proofs.raw_batch.RawBatch.has_items.Goals as goal

pub returns : goal.returns
returns c = subst (λ (b : List ℕ). IsTrue c.holds_items.result ↔ HasItems b) (c.as_raw.ensures ∙ c.self.view_is) c.holds_items.ensures
