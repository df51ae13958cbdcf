use Rattle.std.proofs.Common.{◌≡◌, ◌+◌, ◌%◌, ◌^◌, ◌<◌, ◌++◌, ap, arith}
use Rattle.std.specs.Int.{w64, to_be_bytes}
use Rattle.mg_link.proofs.Counted.{four}
use Rattle.mg_link.proofs.id_source.CountedIdsIdSource.next_id.Goals as goal

pub returns-clause-id : goal.returns-clause-id
returns-clause-id c =
    let small : c.self.inside.next < 2 ^ 64 = omega arith in
    let first : (c.self.inside.next + 0) % 2 ^ 64 ≡ c.self.inside.next = omega arith in
    rw (← c.self.view_is, first, c.to_be_bytes.ensures) (ap (λ p. p ++ to_be_bytes w64 c.self.inside.next) (four c.self.inside.prefix c.self.told))
