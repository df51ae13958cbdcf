use Rattle.mg_gridfs.proofs.ReadBack.{download_reads_file}
use Rattle.mg_gridfs.proofs.laws.download_reads_the_file.Goals as goal

pub returns : goal.returns
returns c = download_reads_file
