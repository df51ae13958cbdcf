use Rattle.std.proofs.Common.{◌≡◌, List, ℕ, Option, option_map, ap, ◌∙◌, subst}
use Rattle.std.specs.Prelude.{codes, option_and_then}
use Rattle.mg_bson.specs.Spans.{array_inside, documents_inside}
use Rattle.mg_bson.specs.Walks.{before}
use Rattle.mg_cursor.specs.Batches.{batch_in, documents_of}
use Rattle.mg_cursor.proofs.raw_batch.walk_of.Goals as goal

pub returns : goal.returns
unfolding documents_of
returns c =
    let reply = c.args.reply in
    let there = subst (λ (b : List ℕ). array_inside (codes "cursor") c.first_name-name.result.now b ≡ batch_in b) c.as_raw.ensures c.first_name-name.ensures in
    c.new.ensures ∙ ap (λ (o : Option (List ℕ)). option_map (before reply) (option_and_then documents_inside o)) there
