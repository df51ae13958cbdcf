use Rattle.mg_bson.specs.View.{tree}
use Rattle.mg_store.proofs.insert.given_key.Goals as goal

pub returns : goal.returns
returns c = (tree c.in_ok-id.id, c.in_ok-id.ensures, c.in_ok-key.ensures.key)
