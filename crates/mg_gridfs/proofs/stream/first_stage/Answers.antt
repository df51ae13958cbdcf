use Rattle.std.proofs.Common.{Bool, sym, ap}
use Rattle.std.specs.Prelude.{if◌then◌else◌}
use Rattle.mg_gridfs.specs.Uploads.{begins, fills}
use Rattle.mg_gridfs.proofs.stream.first_stage.Goals as goal

pub returns-then-checked : goal.returns-then-checked
returns-then-checked c = sym (ap (λ (b : Bool). if b then fills else begins) c.if-checked.true)

pub returns-else-checked : goal.returns-else-checked
returns-else-checked c = sym (ap (λ (b : Bool). if b then fills else begins) c.if-checked.false)
