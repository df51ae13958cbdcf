use Rattle.std.proofs.Common.{refl}
use Rattle.mg_gridfs.proofs.open_download.not_found.Goals as goal

pub returns : goal.returns
returns c = record { value = c.args.id; names = refl; error = c.plain.ensures }
