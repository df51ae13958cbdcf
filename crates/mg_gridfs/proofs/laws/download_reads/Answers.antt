use Rattle.mg_gridfs.proofs.ReadBack.{download_reads}
use Rattle.mg_gridfs.proofs.laws.download_reads.Goals as goal

pub returns : goal.returns
returns c = download_reads
