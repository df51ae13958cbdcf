use Rattle.std.proofs.Common.{◌≡◌, Some, None, refl, sym, ap, ◌∙◌}
use Rattle.mg_bson.specs.View.{tree}
use Rattle.mg_link.specs.Exec.{ticket_at, ticket_of}
use Rattle.mg_link.specs.Moment.{finished, moment}
use Rattle.mg_link.proofs.Moments.{keeps_same}
use Rattle.mg_cursor.proofs.Hearing.{failing, keeps_from}
use Rattle.mg_gridfs.specs.Buckets.{bucket_of}
use Rattle.mg_gridfs.specs.Commands.{found_lines}
use Rattle.mg_gridfs.specs.Findings.{built, not_built}
use Rattle.mg_gridfs.proofs.Found.{is_request, not_built_not_io}
use Rattle.mg_gridfs.proofs.open_download.Wanted.begin.Goals as goal

-- nothing is held yet
pub find-requires : goal.find-requires
find-requires g c = λ n e. let bad : None ≡ Some n = sym (ap ticket_at c.in-Ok.ensures.ok.new) ∙ e in absurd cc

pub returns-in-Ok-clause-keeps : goal.returns-in-Ok-clause-keeps
returns-in-Ok-clause-keeps g c = keeps_from _ _ (ticket_of c.in-Ok.exec) None _ _ (ap ticket_at c.in-Ok.ensures.ok.new) c.find.ensures.keeps

pub returns-in-Ok-clause-begins : goal.returns-in-Ok-clause-begins
returns-in-Ok-clause-begins g c = built c.in-Ok.exec c.in-Ok.ensures.ok c.find.ensures.finds

pub returns-in-Ok-clause-same : goal.returns-in-Ok-clause-same
returns-in-Ok-clause-same g c = c.find.ensures.same

pub returns-in-Ok-clause-sound : goal.returns-in-Ok-clause-sound
returns-in-Ok-clause-sound g c = c.find.ensures.sound (is_request (found_lines (bucket_of c.args.self.bucket) (tree c.args.self.id)) c.in-Ok.exec c.in-Ok.ensures.ok)

pub returns-in-Err-clause-keeps : goal.returns-in-Err-clause-keeps
returns-in-Err-clause-keeps g c =
    failing _ _ None None c.in-Err.error (not_built_not_io (found_lines (bucket_of c.args.self.bucket) (tree c.args.self.id)) c.in-Err.error c.in-Err.ensures.err)
    (keeps_same (moment (g.L.Link.awaited c.args.link.now) (g.L.Link.log c.args.link.now) (g.L.Link.faults c.args.link.now) (g.L.Link.pends c.args.link.now) (g.L.Link.wire c.args.link.now) (g.L.Link.prompt c.args.link.now)) None finished (λ n e. cc) refl tt tt)

pub returns-in-Err-clause-begins : goal.returns-in-Err-clause-begins
returns-in-Err-clause-begins g c = not_built c.in-Err.error c.in-Err.ensures.err (record { rest = λ n. refl; log_same = refl }) refl
