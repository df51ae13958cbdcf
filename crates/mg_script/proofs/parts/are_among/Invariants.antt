use Rattle.std.proofs.Common.{◌≡◌, map}
use Rattle.serde_json.specs.View.{members_view}
use Rattle.mg_script.specs.Parts.{are_among}
use Rattle.mg_script.proofs.parts.are_among.Given as goal

abbrev pub invariant-loop-name : goal.invariant-loop-name
invariant-loop-name l = are_among (members_view l.name-iterator) (map (λ n. n.now) l.names) ≡ are_among (members_view l.fn.members.entries) (map (λ n. n.now) l.names)
