use Rattle.mg_server.proofs.Files.{chunks_join, chunks_sized}
use Rattle.mg_server.proofs.laws.chunks_are_the_bytes.Goals as goal

pub returns-clause-join : goal.returns-clause-join
returns-clause-join c = chunks_join

pub returns-clause-sizes : goal.returns-clause-sizes
returns-clause-sizes c = chunks_sized
