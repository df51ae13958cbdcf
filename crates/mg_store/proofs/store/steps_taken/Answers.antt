use Rattle.std.proofs.Common.{◌∙◌, ap, sym, length}
use Rattle.std.proofs.lemmas.List.{length-map}
use Rattle.mg_store.specs.Stored.{kept_of}
use Rattle.mg_store.proofs.store.steps_taken.Goals as goal

pub returns : goal.returns
returns c = sym (length-map _ kept_of) ∙ ap length c.history.ensures.steps
