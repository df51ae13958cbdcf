use Rattle.std.proofs.Common.{None, refl, ap}
use Rattle.mg_link.specs.Moment.{finished, moment}
use Rattle.mg_link.proofs.Moments.{keeps_same}
use Rattle.mg_cursor.proofs.Hearing.{failing}
use Rattle.mg_chunks.specs.Sizes.{chunk_count_of}
use Rattle.mg_gridfs.specs.Findings.{fails, too_many}
use Rattle.mg_gridfs.proofs.Found.{broken_kind_not_io, count_broken}
use Rattle.mg_gridfs.proofs.open_download.Wanted.received.Goals as goal

pub ask-requires : goal.ask-requires
ask-requires g c = c.in-Ok.ensures.ok

pub returns-in-Ok-clause-keeps : goal.returns-in-Ok-clause-keeps
returns-in-Ok-clause-keeps g c = c.ask.ensures.keeps

pub returns-in-Ok-clause-opens : goal.returns-in-Ok-clause-opens
returns-in-Ok-clause-opens g c = c.ask.ensures.opens

pub returns-in-Ok-clause-same : goal.returns-in-Ok-clause-same
returns-in-Ok-clause-same g c = c.ask.ensures.same

pub returns-in-Ok-clause-sound : goal.returns-in-Ok-clause-sound
returns-in-Ok-clause-sound g c = c.ask.ensures.sound

pub returns-in-Err-clause-keeps : goal.returns-in-Err-clause-keeps
returns-in-Err-clause-keeps g c =
    let b = count_broken (chunk_count_of c.args.file.length c.args.file.chunk_size_bytes) c.in-Err.error c.in-Err.ensures.err in
    failing _ _ None None c.in-Err.error (broken_kind_not_io c.in-Err.error b.how b.error)
    (keeps_same (moment (g.L.Link.awaited c.args.link.now) (g.L.Link.log c.args.link.now) (g.L.Link.faults c.args.link.now) (g.L.Link.pends c.args.link.now) (g.L.Link.wire c.args.link.now) (g.L.Link.prompt c.args.link.now)) None finished (λ n e. cc) refl tt tt)

pub returns-in-Err-clause-opens : goal.returns-in-Err-clause-opens
returns-in-Err-clause-opens g c =
    let b = count_broken (chunk_count_of c.args.file.length c.args.file.chunk_size_bytes) c.in-Err.error c.in-Err.ensures.err in
    too_many b.how b.says (record { rest = λ n. refl; log_same = refl }) (ap fails b.error)
