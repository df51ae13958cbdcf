use Rattle.std.proofs.Common.{refl, sym, subst}
use Rattle.mg_gridfs.specs.Buckets.{bucket_of}
use Rattle.mg_gridfs.specs.Checks as check
use Rattle.mg_gridfs.specs.Checks.{GoesBehind}
use Rattle.mg_gridfs.specs.UploadView.{check_turned}
use Rattle.mg_gridfs.specs.declared.indexes.Place.{Place}
use Rattle.mg_gridfs.proofs.check.behind.Goals as goal

pub returns-in-Files : goal.returns-in-Files
returns-in-Files c = subst (λ (k : Place). GoesBehind (bucket_of c.args.bucket.now) k (check_turned c.create_next.result)) (sym c.in-Files.is) c.create_next.ensures

pub returns-in-Chunks : goal.returns-in-Chunks
returns-in-Chunks c = subst (λ (k : Place). GoesBehind (bucket_of c.args.bucket.now) k check.passes) (sym c.in-Chunks.is) refl
