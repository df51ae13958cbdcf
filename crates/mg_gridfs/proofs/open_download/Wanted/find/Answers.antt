use Rattle.std.proofs.Common.{ℕ, ℤ, List, None, refl, sym, ap, subst}
use Rattle.mg_bson.specs.View.{tree}
use Rattle.mg_link.specs.Acts.{ticket_after}
use Rattle.mg_link.specs.Exec.{Sending, ticket_of}
use Rattle.mg_link.specs.Moment.{finished, moment, pending, step_ending}
use Rattle.mg_link.specs.declared.action.Step.TheVariants as step
use Rattle.mg_link.proofs.Moments.{keeps_on, keeps_step}
use Rattle.mg_cursor.proofs.Hearing.{keeps_to}
use Rattle.mg_gridfs.specs.Buckets.{bucket_of}
use Rattle.mg_gridfs.specs.DownloadView.{IsSoundBehind, KeepsWanted, looking_of, opened_as, ticket_in}
use Rattle.mg_gridfs.specs.Findings.{HearsRecord, failed, hears, pends, waits}
use Rattle.mg_gridfs.specs.declared.open_download.OpenDownloadStream.{OpenDownloadStream}
use Rattle.mg_gridfs.proofs.Found.{finds_sound}
use Rattle.mg_gridfs.proofs.open_download.Wanted.find.Goals as goal

-- ---- it pends

pub returns-in-Pending-clause-keeps : goal.returns-in-Pending-clause-keeps
returns-in-Pending-clause-keeps g c =
    let link = c.args.link.now in
    let later = c.poll.new.link in
    let before = moment (g.L.Link.awaited link) (g.L.Link.log link) (g.L.Link.faults link) (g.L.Link.pends link) (g.L.Link.wire link) (g.L.Link.prompt link) in
    let after = moment (g.L.Link.awaited later) (g.L.Link.log later) (g.L.Link.faults later) (g.L.Link.pends later) (g.L.Link.wire later) (g.L.Link.prompt later) in
    let keeps = keeps_step {S = Sending} {T = List ℕ} before after ticket_of (ticket_of c.args.exec) (step.Pending c.in-Pending.exec)
    c.in-Pending.ensures.tickets c.in-Pending.ensures.pended c.in-Pending.ensures.lost c.in-Pending.ensures.prompt c.in-Pending.ensures.later in
    keeps_to before after (ticket_of c.args.exec) (ticket_of c.in-Pending.exec) (ticket_in c.finding.result) pending (sym (ap ticket_in c.finding.ensures)) keeps

pub returns-in-Pending-clause-finds : goal.returns-in-Pending-clause-finds
returns-in-Pending-clause-finds g c = pends c.in-Pending.exec c.in-Pending.ensures.runs (ap (λ (o : OpenDownloadStream). waits (looking_of o.stage)) c.finding.ensures)

pub returns-in-Pending-clause-same : goal.returns-in-Pending-clause-same
returns-in-Pending-clause-same g c = subst (λ (o : OpenDownloadStream). KeepsWanted (bucket_of c.args.self.bucket) (tree c.args.self.id) (step.Pending o)) (sym c.finding.ensures) refl

pub returns-in-Pending-clause-sound : goal.returns-in-Pending-clause-sound
returns-in-Pending-clause-sound g c = λ own.
    subst (λ (o : OpenDownloadStream). IsSoundBehind (step.Pending o)) (sym c.finding.ensures)
    (finds_sound (g.L.Link.awaited c.args.link.now) (g.L.Link.awaited c.poll.new.link) (g.L.Link.log c.args.link.now) (g.L.Link.log c.poll.new.link) (g.L.Link.wire c.args.link.now) (bucket_of c.args.self.bucket) (tree c.args.self.id) c.args.exec c.in-Pending.exec own c.in-Pending.ensures.runs)

-- ---- a reply came

pub returns-in-Done-clause-keeps : goal.returns-in-Done-clause-keeps
returns-in-Done-clause-keeps g c =
    let link = c.args.link.now in
    let later = c.poll.new.link in
    let before = moment (g.L.Link.awaited link) (g.L.Link.log link) (g.L.Link.faults link) (g.L.Link.pends link) (g.L.Link.wire link) (g.L.Link.prompt link) in
    let after = moment (g.L.Link.awaited later) (g.L.Link.log later) (g.L.Link.faults later) (g.L.Link.pends later) (g.L.Link.wire later) (g.L.Link.prompt later) in
    let keeps = keeps_step {S = Sending} {T = List ℕ} before after ticket_of (ticket_of c.args.exec) (step.Done c.in-Done.reply)
    c.in-Done.ensures.tickets c.in-Done.ensures.pended c.in-Done.ensures.lost c.in-Done.ensures.prompt c.in-Done.ensures.later in
    let last = c.hear.new.link in
    keeps_on before after (moment (g.L.Link.awaited last) (g.L.Link.log last) (g.L.Link.faults last) (g.L.Link.pends last) (g.L.Link.wire last) (g.L.Link.prompt last)) (ticket_of c.args.exec) None (ticket_after ticket_in c.hear.result) finished (step_ending c.hear.result) keeps keeps.pended c.hear.ensures.keeps

pub returns-in-Done-clause-finds : goal.returns-in-Done-clause-finds
returns-in-Done-clause-finds g c =
    hears (g.L.Link.awaited c.poll.new.link) (g.L.Link.log c.poll.new.link) c.in-Done.reply c.in-Done.ensures.runs
    (subst (λ (w : ℤ). HearsRecord (g.L.Link.awaited c.poll.new.link) (g.L.Link.awaited c.hear.new.link) (g.L.Link.log c.poll.new.link) (g.L.Link.log c.hear.new.link) w (bucket_of c.args.self.bucket) (tree c.args.self.id) c.in-Done.reply (opened_as c.hear.result)) c.in-Done.ensures.later.wire c.hear.ensures.hears)

pub returns-in-Done-clause-same : goal.returns-in-Done-clause-same
returns-in-Done-clause-same g c = c.hear.ensures.same

pub returns-in-Done-clause-sound : goal.returns-in-Done-clause-sound
returns-in-Done-clause-sound g c = λ own. c.hear.ensures.sound

-- ---- or none

pub returns-in-Failed-clause-keeps : goal.returns-in-Failed-clause-keeps
returns-in-Failed-clause-keeps g c =
    let link = c.args.link.now in
    let later = c.poll.new.link in
    let before = moment (g.L.Link.awaited link) (g.L.Link.log link) (g.L.Link.faults link) (g.L.Link.pends link) (g.L.Link.wire link) (g.L.Link.prompt link) in
    let after = moment (g.L.Link.awaited later) (g.L.Link.log later) (g.L.Link.faults later) (g.L.Link.pends later) (g.L.Link.wire later) (g.L.Link.prompt later) in
    let keeps = keeps_step {S = Sending} {T = List ℕ} before after ticket_of (ticket_of c.args.exec) (step.Failed c.in-Failed.error)
    c.in-Failed.ensures.tickets c.in-Failed.ensures.pended c.in-Failed.ensures.lost c.in-Failed.ensures.prompt c.in-Failed.ensures.later in
    keeps

pub returns-in-Failed-clause-finds : goal.returns-in-Failed-clause-finds
returns-in-Failed-clause-finds g c = failed c.in-Failed.error c.in-Failed.ensures.runs refl
