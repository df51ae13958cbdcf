use Rattle.std.proofs.Common.{◌<◌, length, ap, arith}
use Rattle.std.proofs.lemmas.List.{length-map}
use Rattle.mg_link.specs.LogView.{call}
use Rattle.mg_link.proofs.Logs.{map-see}
use Rattle.mg_link.proofs.log.Log.see.Goals as goal

pub returns : goal.returns
returns c =
    let within : c.args.place < length c.self.inside.calls.items = omega (arith, c.requires, ap length c.self.view_is, length-map c.self.inside.calls.items call) in
    rw (← c.self.view_is) (map-see _ _ _ c.args.seen within c.index_mut.ensures.value)
