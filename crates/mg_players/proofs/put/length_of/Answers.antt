use Rattle.std.proofs.Common.{◌≡◌, ℕ, List, Vec, Global, arith, drop}
use Rattle.std.proofs.lemmas.List.{at_drop_all}
use Rattle.mg_script.specs.Plan.{pieces}
use Rattle.mg_players.specs.Puts.{total}
use Rattle.mg_players.proofs.put.length_of.Goals as goal

pub returns-clause-ok : goal.returns-clause-ok
returns-clause-ok c =
    let none : total (pieces (drop c.loop-piece.piece-index c.args.cut.now)) ≡ 0 = at_drop_all (λ (ps : List (Vec ℕ Global)). total (pieces ps)) c.args.cut.now c.loop-piece.piece-index (omega arith) in
    (omega (arith, none), omega arith)
