use Rattle.std.proofs.Common.{ℕ, List, None, refl, sym, ap, subst}
use Rattle.mg_bson.specs.Raw.{fields}
use Rattle.mg_bson.specs.View.{tree}
use Rattle.mg_link.specs.Exec.{Sending, ticket_of}
use Rattle.mg_link.specs.Moment.{moment, pending}
use Rattle.mg_link.specs.declared.action.Step.TheVariants as step
use Rattle.mg_link.proofs.Moments.{keeps_step}
use Rattle.mg_cursor.proofs.Hearing.{failing, keeps_to, unread_not_io}
use Rattle.mg_records.specs.FileRecords.{file_record}
use Rattle.mg_gridfs.specs.Buckets.{bucket_of}
use Rattle.mg_gridfs.specs.DownloadView.{IsSoundBehind, KeepsWanted, looking_of, ticket_in}
use Rattle.mg_gridfs.specs.Findings.{broke, opened, opens, waits}
use Rattle.mg_gridfs.specs.declared.open_download.OpenDownloadStream.{OpenDownloadStream}
use Rattle.mg_gridfs.proofs.Found.{lists_sound}
use Rattle.mg_gridfs.proofs.open_download.Wanted.list.Goals as goal

-- ---- it pends

pub returns-in-Pending-clause-keeps : goal.returns-in-Pending-clause-keeps
returns-in-Pending-clause-keeps g c =
    let link = c.args.link.now in
    let later = c.poll.new.link in
    let before = moment (g.L.Link.awaited link) (g.L.Link.log link) (g.L.Link.faults link) (g.L.Link.pends link) (g.L.Link.wire link) (g.L.Link.prompt link) in
    let after = moment (g.L.Link.awaited later) (g.L.Link.log later) (g.L.Link.faults later) (g.L.Link.pends later) (g.L.Link.wire later) (g.L.Link.prompt later) in
    let keeps = keeps_step {S = Sending} {T = List ℕ} before after ticket_of (ticket_of c.args.exec) (step.Pending c.in-Pending.exec)
    c.in-Pending.ensures.tickets c.in-Pending.ensures.pended c.in-Pending.ensures.lost c.in-Pending.ensures.prompt c.in-Pending.ensures.later in
    keeps_to before after (ticket_of c.args.exec) (ticket_of c.in-Pending.exec) (ticket_in c.listing.result) pending (sym (ap ticket_in c.listing.ensures)) keeps

pub returns-in-Pending-clause-lists : goal.returns-in-Pending-clause-lists
returns-in-Pending-clause-lists g c = record { came = step.Pending c.in-Pending.exec; runs = c.in-Pending.ensures.runs; hears = ap (λ (o : OpenDownloadStream). waits (looking_of o.stage)) c.listing.ensures }

pub returns-in-Pending-clause-same : goal.returns-in-Pending-clause-same
returns-in-Pending-clause-same g c = subst (λ (o : OpenDownloadStream). KeepsWanted (bucket_of c.args.self.bucket) (tree c.args.self.id) (step.Pending o)) (sym c.listing.ensures) refl

pub returns-in-Pending-clause-sound : goal.returns-in-Pending-clause-sound
returns-in-Pending-clause-sound g c = λ own.
    subst (λ (o : OpenDownloadStream). IsSoundBehind (step.Pending o)) (sym c.listing.ensures)
    (lists_sound (g.L.Link.awaited c.args.link.now) (g.L.Link.awaited c.poll.new.link) (g.L.Link.log c.args.link.now) (g.L.Link.log c.poll.new.link) (g.L.Link.wire c.args.link.now) (bucket_of c.args.self.bucket) (tree c.args.self.id) (file_record c.args.file) c.args.count c.args.exec c.in-Pending.exec own c.in-Pending.ensures.runs)

-- ---- the list came

pub returns-in-Ok-clause-keeps : goal.returns-in-Ok-clause-keeps
returns-in-Ok-clause-keeps g c =
    let link = c.args.link.now in
    let later = c.poll.new.link in
    let before = moment (g.L.Link.awaited link) (g.L.Link.log link) (g.L.Link.faults link) (g.L.Link.pends link) (g.L.Link.wire link) (g.L.Link.prompt link) in
    let after = moment (g.L.Link.awaited later) (g.L.Link.log later) (g.L.Link.faults later) (g.L.Link.pends later) (g.L.Link.wire later) (g.L.Link.prompt later) in
    let keeps = keeps_step {S = Sending} {T = List ℕ} before after ticket_of (ticket_of c.args.exec) (step.Done c.in-Done.reply)
    c.in-Done.ensures.tickets c.in-Done.ensures.pended c.in-Done.ensures.lost c.in-Done.ensures.prompt c.in-Done.ensures.later in
    keeps

pub returns-in-Ok-clause-lists : goal.returns-in-Ok-clause-lists
returns-in-Ok-clause-lists g c =
    let made = c.in-Ok.ensures.ok in
    record { came = step.Done c.in-Done.reply; runs = c.in-Done.ensures.runs; hears = opened made.out made.opens (ap opens made.download) }

pub returns-in-Ok-clause-sound : goal.returns-in-Ok-clause-sound
returns-in-Ok-clause-sound g c = λ own. c.in-Ok.ensures.sound own.counted

-- ---- a reply that lists nothing

pub returns-in-Err-clause-keeps : goal.returns-in-Err-clause-keeps
returns-in-Err-clause-keeps g c =
    let link = c.args.link.now in
    let later = c.poll.new.link in
    let before = moment (g.L.Link.awaited link) (g.L.Link.log link) (g.L.Link.faults link) (g.L.Link.pends link) (g.L.Link.wire link) (g.L.Link.prompt link) in
    let after = moment (g.L.Link.awaited later) (g.L.Link.log later) (g.L.Link.faults later) (g.L.Link.pends later) (g.L.Link.wire later) (g.L.Link.prompt later) in
    let keeps = keeps_step {S = Sending} {T = List ℕ} before after ticket_of (ticket_of c.args.exec) (step.Done c.in-Done.reply)
    c.in-Done.ensures.tickets c.in-Done.ensures.pended c.in-Done.ensures.lost c.in-Done.ensures.prompt c.in-Done.ensures.later in
    failing before after (ticket_of c.args.exec) None c.in-Err.error (unread_not_io (fields c.in-Done.reply) c.in-Err.error c.in-Err.ensures.err) keeps

pub returns-in-Err-clause-lists : goal.returns-in-Err-clause-lists
returns-in-Err-clause-lists g c = record { came = step.Done c.in-Done.reply; runs = c.in-Done.ensures.runs; hears = broke c.in-Err.error c.in-Err.ensures.err refl }

-- ---- or none

pub returns-in-Failed-clause-keeps : goal.returns-in-Failed-clause-keeps
returns-in-Failed-clause-keeps g c =
    let link = c.args.link.now in
    let later = c.poll.new.link in
    let before = moment (g.L.Link.awaited link) (g.L.Link.log link) (g.L.Link.faults link) (g.L.Link.pends link) (g.L.Link.wire link) (g.L.Link.prompt link) in
    let after = moment (g.L.Link.awaited later) (g.L.Link.log later) (g.L.Link.faults later) (g.L.Link.pends later) (g.L.Link.wire later) (g.L.Link.prompt later) in
    let keeps = keeps_step {S = Sending} {T = List ℕ} before after ticket_of (ticket_of c.args.exec) (step.Failed c.in-Failed.error)
    c.in-Failed.ensures.tickets c.in-Failed.ensures.pended c.in-Failed.ensures.lost c.in-Failed.ensures.prompt c.in-Failed.ensures.later in
    keeps

pub returns-in-Failed-clause-lists : goal.returns-in-Failed-clause-lists
returns-in-Failed-clause-lists g c = record { came = step.Failed c.in-Failed.error; runs = c.in-Failed.ensures.runs; hears = refl }
