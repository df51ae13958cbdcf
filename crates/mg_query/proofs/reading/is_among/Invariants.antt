use Rattle.std.proofs.Common.{◌≡◌, drop, map}
use Rattle.mg_server.specs.Commands.{is_name_among}
use Rattle.mg_query.proofs.reading.is_among.Given as goal

abbrev pub invariant-loop-known : goal.invariant-loop-known
invariant-loop-known l = is_name_among l.name (map (λ n. n.now) (drop l.known-index l.names)) ≡ is_name_among l.name (map (λ n. n.now) l.names)
