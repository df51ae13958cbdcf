use Rattle.mg_jobs.proofs.PutMakes.{makes_whole}
use Rattle.mg_jobs.proofs.laws.puts_make_files.Goals as goal

pub returns : goal.returns
returns c = λ awaited course i j calls wire supply t n put history legal stands leave last is_last.
    makes_whole awaited course i j calls wire supply t n put history legal stands leave last is_last
