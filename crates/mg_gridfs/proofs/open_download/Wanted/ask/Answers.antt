use Rattle.std.proofs.Common.{◌≡◌, ◌<◌, Some, None, refl, sym, ap, ◌∙◌, arith}
use Rattle.mg_link.specs.Exec.{ticket_at, ticket_of}
use Rattle.mg_link.specs.Moment.{finished, moment}
use Rattle.mg_link.proofs.Moments.{keeps_same}
use Rattle.mg_bson.specs.View.{tree}
use Rattle.mg_cursor.proofs.Hearing.{failing, keeps_from}
use Rattle.mg_gridfs.specs.Buckets.{bucket_of}
use Rattle.mg_gridfs.specs.Commands.{listed_lines}
use Rattle.mg_gridfs.specs.Downloads.{download_ticket}
use Rattle.mg_gridfs.specs.Findings.{is_empty, listed, not_built, opens}
use Rattle.mg_gridfs.proofs.Found.{is_request, none_counted, not_built_not_io}
use Rattle.mg_gridfs.proofs.open_download.Wanted.ask.Goals as goal

-- ---- a file without bytes

pub empty-requires : goal.empty-requires
empty-requires g c = none_counted c.args.file.length c.args.file.chunk_size_bytes c.args.count c.if-file-eq0.true c.requires

pub returns-then-file-eq0-clause-keeps : goal.returns-then-file-eq0-clause-keeps
returns-then-file-eq0-clause-keeps g c = keeps_same (moment (g.L.Link.awaited c.args.link.now) (g.L.Link.log c.args.link.now) (g.L.Link.faults c.args.link.now) (g.L.Link.pends c.args.link.now) (g.L.Link.wire c.args.link.now) (g.L.Link.prompt c.args.link.now)) None finished (λ n e. cc) refl tt tt

pub returns-then-file-eq0-clause-opens : goal.returns-then-file-eq0-clause-opens
returns-then-file-eq0-clause-opens g c = is_empty c.if-file-eq0.true (record { rest = λ n. refl; log_same = refl }) (ap opens c.empty.ensures.started)

pub returns-then-file-eq0-clause-sound : goal.returns-then-file-eq0-clause-sound
returns-then-file-eq0-clause-sound g c = (c.empty.ensures.sound, ap download_ticket c.empty.ensures.started)

-- ---- its chunks are asked for

-- nothing is held yet
pub list-requires : goal.list-requires
list-requires g c = λ n e. let bad : None ≡ Some n = sym (ap ticket_at c.in-Ok.ensures.ok.new) ∙ e in absurd cc

pub returns-in-Ok-clause-keeps : goal.returns-in-Ok-clause-keeps
returns-in-Ok-clause-keeps g c = keeps_from _ _ (ticket_of c.in-Ok.exec) None _ _ (ap ticket_at c.in-Ok.ensures.ok.new) c.list.ensures.keeps

pub returns-in-Ok-clause-opens : goal.returns-in-Ok-clause-opens
returns-in-Ok-clause-opens g c = listed c.if-file-eq0.false c.args.count c.requires c.in-Ok.exec c.in-Ok.ensures.ok c.list.ensures.lists

pub returns-in-Ok-clause-same : goal.returns-in-Ok-clause-same
returns-in-Ok-clause-same g c = c.list.ensures.same

pub returns-in-Ok-clause-sound : goal.returns-in-Ok-clause-sound
returns-in-Ok-clause-sound g c =
    let some : 0 < c.args.file.length = omega (arith, c.if-file-eq0.false) in
    c.list.ensures.sound (record { some = some; counted = c.requires; request = is_request (listed_lines (bucket_of c.args.self.bucket) (tree c.args.file.id)) c.in-Ok.exec c.in-Ok.ensures.ok })

pub returns-in-Err-clause-keeps : goal.returns-in-Err-clause-keeps
returns-in-Err-clause-keeps g c =
    failing _ _ None None c.in-Err.error (not_built_not_io (listed_lines (bucket_of c.args.self.bucket) (tree c.args.file.id)) c.in-Err.error c.in-Err.ensures.err)
    (keeps_same (moment (g.L.Link.awaited c.args.link.now) (g.L.Link.log c.args.link.now) (g.L.Link.faults c.args.link.now) (g.L.Link.pends c.args.link.now) (g.L.Link.wire c.args.link.now) (g.L.Link.prompt c.args.link.now)) None finished (λ n e. cc) refl tt tt)

pub returns-in-Err-clause-opens : goal.returns-in-Err-clause-opens
returns-in-Err-clause-opens g c = not_built c.if-file-eq0.false c.in-Err.error c.in-Err.ensures.err (record { rest = λ n. refl; log_same = refl }) refl
