use Rattle.mg_bson.specs.View.{tree}
use Rattle.mg_gridfs.specs.Buckets.{bucket_of}
use Rattle.mg_gridfs.specs.DownloadView.{finding_of}
use Rattle.mg_players.specs.Gets.{sought}
use Rattle.mg_players.proofs.GetOpening.{opening_for}
use Rattle.mg_players.proofs.get.opening_of.Goals as goal

pub returns-clause-ok : goal.returns-clause-ok
returns-clause-ok c =
    opening_for (sought c.args.what) (bucket_of c.in_ok-bucket.bucket) (tree c.in_ok-id.id) (finding_of c.open_download_stream.result) c.in_ok-bucket.ensures.ok c.in_ok-bucket.ensures.named c.in_ok-id.ensures.cases c.open_download_stream.ensures.new
