use Rattle.std.proofs.Common.{Some, arith, length, refl, sym, ap, ◌∙◌}
use Rattle.std.proofs.lemmas.Option.{slice_get_read}
use Rattle.std.proofs.lemmas.List.{length-map}
use Rattle.mg_script.specs.Plan.{piece}
use Rattle.mg_players.proofs.Knowing.{get_map}
use Rattle.mg_players.proofs.put.PutPlayer.go_on.Goals as goal

pub write-requires-clause-there : goal.write-requires-clause-there
write-requires-clause-there g c =
    let cut = c.args.self.what.pieces.now in
    get_map piece cut c.args.self.done c.index-pieces-at.result (slice_get_read cut (length cut) c.args.self.done c.index-pieces-at.result refl (omega arith) c.index-pieces-at.is) ∙ ap Some (sym c.as_slice.ensures.value)

pub close-requires-clause-all : goal.close-requires-clause-all
close-requires-clause-all g c = let counts = length-map c.args.self.what.pieces.now piece in omega (arith, counts)

pub returns-then-at-pieces-clause-turned : goal.returns-then-at-pieces-clause-turned
returns-then-at-pieces-clause-turned g c = c.write.ensures.turned c.args.moment.millis
