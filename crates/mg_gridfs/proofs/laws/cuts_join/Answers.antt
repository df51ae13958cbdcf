use Rattle.mg_server.proofs.Chunking.{chunked-append}
use Rattle.mg_gridfs.proofs.laws.cuts_join.Goals as goal

pub returns : goal.returns
returns c = chunked-append
