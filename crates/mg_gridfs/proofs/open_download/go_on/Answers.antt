use Rattle.std.proofs.Common.{None, refl, sym, ap, subst}
use Rattle.mg_bson.specs.View.{tree}
use Rattle.mg_link.specs.Acts.{IsOut}
use Rattle.mg_link.specs.Exec.{ticket_of}
use Rattle.mg_link.specs.Moment.{finished, moment}
use Rattle.mg_link.proofs.Moments.{keeps_same}
use Rattle.mg_cursor.proofs.Hearing.{failing, keeps_from, no_room}
use Rattle.mg_records.specs.FileRecords.{file_record}
use Rattle.mg_gridfs.specs.Buckets.{bucket_of}
use Rattle.mg_gridfs.specs.DownloadView.{bucket_in, finding_at, looking_of}
use Rattle.mg_gridfs.specs.Findings.{SoundIn, begins, fails, finds_on, lists_on, no_bucket, ticket_by}
use Rattle.mg_gridfs.specs.declared.open_download.Opening.{Opening}
use Rattle.mg_gridfs.proofs.Found.{same_aim}
use Rattle.mg_gridfs.proofs.open_download.go_on.Goals as goal

pub find-requires : goal.find-requires
find-requires g c = subst (λ (s : Opening). IsOut (g.L.Link.awaited c.args.link.now) (ticket_by (looking_of s))) c.in-Record.is c.requires

pub list-requires : goal.list-requires
list-requires g c = subst (λ (s : Opening). IsOut (g.L.Link.awaited c.args.link.now) (ticket_by (looking_of s))) c.in-Chunks.is c.requires

-- ---- there was no memory for the bucket

pub returns-in-Nowhere-clause-keeps : goal.returns-in-Nowhere-clause-keeps
returns-in-Nowhere-clause-keeps g c =
    keeps_from _ _ None (ticket_by (looking_of c.args.stage)) _ _ (sym (ap (λ (s : Opening). ticket_by (looking_of s)) c.in-Nowhere.is))
    (failing _ _ None None c.plain.result (no_room c.plain.result c.plain.ensures)
    (keeps_same (moment (g.L.Link.awaited c.args.link.now) (g.L.Link.log c.args.link.now) (g.L.Link.faults c.args.link.now) (g.L.Link.pends c.args.link.now) (g.L.Link.wire c.args.link.now) (g.L.Link.prompt c.args.link.now)) None finished (λ n e. cc) refl tt tt))

pub returns-in-Nowhere-clause-opens : goal.returns-in-Nowhere-clause-opens
returns-in-Nowhere-clause-opens g c = no_bucket (ap bucket_in c.in-Nowhere.is) (record { rest = λ n. refl; log_same = refl }) (ap fails c.plain.ensures)

-- ---- it goes on

pub returns-in-Begin-clause-keeps : goal.returns-in-Begin-clause-keeps
returns-in-Begin-clause-keeps g c = keeps_from _ _ None (ticket_by (looking_of c.args.stage)) _ _ (sym (ap (λ (s : Opening). ticket_by (looking_of s)) c.in-Begin.is)) c.begin.ensures.keeps

pub returns-in-Begin-clause-opens : goal.returns-in-Begin-clause-opens
returns-in-Begin-clause-opens g c = begins (bucket_of c.in-Begin.bucket) (ap bucket_in c.in-Begin.is) (ap looking_of c.in-Begin.is) c.begin.ensures.begins

pub returns-in-Begin-clause-same : goal.returns-in-Begin-clause-same
returns-in-Begin-clause-same g c = same_aim (finding_at c.args.id c.args.stage) (bucket_of c.in-Begin.bucket) c.begin.result (ap bucket_in c.in-Begin.is) c.begin.ensures.same

pub returns-in-Begin-clause-sound : goal.returns-in-Begin-clause-sound
returns-in-Begin-clause-sound g c = λ own. c.begin.ensures.sound

pub returns-in-Record-clause-keeps : goal.returns-in-Record-clause-keeps
returns-in-Record-clause-keeps g c = keeps_from _ _ (ticket_of c.in-Record.exec) (ticket_by (looking_of c.args.stage)) _ _ (sym (ap (λ (s : Opening). ticket_by (looking_of s)) c.in-Record.is)) c.find.ensures.keeps

pub returns-in-Record-clause-opens : goal.returns-in-Record-clause-opens
returns-in-Record-clause-opens g c = finds_on (bucket_of c.in-Record.bucket) (ap bucket_in c.in-Record.is) c.in-Record.exec (ap looking_of c.in-Record.is) c.find.ensures.finds

pub returns-in-Record-clause-same : goal.returns-in-Record-clause-same
returns-in-Record-clause-same g c = same_aim (finding_at c.args.id c.args.stage) (bucket_of c.in-Record.bucket) c.find.result (ap bucket_in c.in-Record.is) c.find.ensures.same

pub returns-in-Record-clause-sound : goal.returns-in-Record-clause-sound
returns-in-Record-clause-sound g c = λ own. c.find.ensures.sound (subst (SoundIn (bucket_of c.in-Record.bucket) (tree c.args.id)) (ap looking_of c.in-Record.is) (own.own (bucket_of c.in-Record.bucket) (ap bucket_in c.in-Record.is)))

pub returns-in-Chunks-clause-keeps : goal.returns-in-Chunks-clause-keeps
returns-in-Chunks-clause-keeps g c = keeps_from _ _ (ticket_of c.in-Chunks.exec) (ticket_by (looking_of c.args.stage)) _ _ (sym (ap (λ (s : Opening). ticket_by (looking_of s)) c.in-Chunks.is)) c.list.ensures.keeps

pub returns-in-Chunks-clause-opens : goal.returns-in-Chunks-clause-opens
returns-in-Chunks-clause-opens g c = lists_on (bucket_of c.in-Chunks.bucket) (ap bucket_in c.in-Chunks.is) (file_record c.in-Chunks.file) c.in-Chunks.count c.in-Chunks.exec (ap looking_of c.in-Chunks.is) c.list.ensures.lists

pub returns-in-Chunks-clause-same : goal.returns-in-Chunks-clause-same
returns-in-Chunks-clause-same g c = same_aim (finding_at c.args.id c.args.stage) (bucket_of c.in-Chunks.bucket) c.list.result (ap bucket_in c.in-Chunks.is) c.list.ensures.same

pub returns-in-Chunks-clause-sound : goal.returns-in-Chunks-clause-sound
returns-in-Chunks-clause-sound g c = λ own. c.list.ensures.sound (subst (SoundIn (bucket_of c.in-Chunks.bucket) (tree c.args.id)) (ap looking_of c.in-Chunks.is) (own.own (bucket_of c.in-Chunks.bucket) (ap bucket_in c.in-Chunks.is)))
