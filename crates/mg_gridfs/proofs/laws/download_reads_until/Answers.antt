use Rattle.mg_gridfs.proofs.ReadBack.{download_reads_until}
use Rattle.mg_gridfs.proofs.laws.download_reads_until.Goals as goal

pub returns : goal.returns
returns c = download_reads_until
