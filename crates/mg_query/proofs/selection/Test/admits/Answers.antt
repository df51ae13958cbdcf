use Rattle.std.proofs.Common.{List, ℕ, map, ap, ◌∙◌}
use Rattle.mg_query.specs.Asking.{has_key, is_key_among}
use Rattle.mg_query.proofs.Selecting.{contained}
use Rattle.mg_query.proofs.selection.Test.admits.Goals as goal

pub returns-in_ok-key-in-Some : goal.returns-in_ok-key-in-Some
returns-in_ok-key-in-Some c =
    let keys = map (λ k. k.items) c.args.self.now.keys.keys in
    c.contains.ensures ∙ contained c.in_ok-key-in-Some.key c.args.self.now.keys ∙ ap (λ (k : List ℕ). is_key_among k keys) c.in_ok-key-in-Some.ensures.key ∙ ap (has_key keys) c.in-Some.ensures
