use Rattle.mg_bson.specs.View.{tree}
use Rattle.mg_gridfs.specs.Buckets.{bucket_of}
use Rattle.mg_gridfs.specs.DownloadView.{bucket_in, looking_of}
use Rattle.mg_gridfs.proofs.Found.{begun_bucket, begun_new, begun_sound}
use Rattle.std.proofs.Common.{refl}
use Rattle.mg_gridfs.proofs.open_download.OpenDownloadStream.new.Goals as goal

pub returns-clause-new : goal.returns-clause-new
returns-clause-new c = record {
  bucket = begun_bucket (bucket_of c.args.bucket.now) c.beginning.result c.beginning.ensures;
  id_is = refl;
  new = begun_new (bucket_of c.args.bucket.now) c.beginning.result c.beginning.ensures;
}

pub returns-clause-sound : goal.returns-clause-sound
returns-clause-sound c = begun_sound (tree c.args.id) (bucket_in c.beginning.result) (looking_of c.beginning.result) (begun_new (bucket_of c.args.bucket.now) c.beginning.result c.beginning.ensures)
