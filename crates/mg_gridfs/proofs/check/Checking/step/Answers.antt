use Rattle.std.proofs.Common.{sym, ap, ◌∙◌, subst}
use Rattle.mg_link.specs.Acts.{IsOut}
use Rattle.mg_link.specs.Exec.{ticket_of}
use Rattle.mg_link.specs.Moment.{moment}
use Rattle.mg_link.proofs.Moments.{keeps_step}
use Rattle.mg_cursor.proofs.Hearing.{keeps_from}
use Rattle.mg_gridfs.specs.Buckets.{bucket_of}
use Rattle.mg_gridfs.specs.Checks.{ChecksOn, IsSoundCheck, check_ticket, reads}
use Rattle.mg_gridfs.specs.UploadView.{check_of, check_turned}
use Rattle.mg_gridfs.specs.declared.check.Checking.{Checking}
use Rattle.mg_gridfs.proofs.Checking.{asked_checks, asked_ticket, keeps_asked}
use Rattle.mg_gridfs.proofs.Keeping.{check_sound}
use Rattle.mg_gridfs.proofs.check.Checking.step.Goals as goal

pub poll-came-requires : goal.poll-came-requires
poll-came-requires g c =
    subst (IsOut (g.L.Link.awaited c.args.link.now)) (ap (λ (x : Checking). check_ticket (check_of x)) c.in-Ask.is ∙ asked_ticket c.in-Ask.request c.in-Ask.exec) c.requires.held

pub read_on-requires-clause-held : goal.read_on-requires-clause-held
read_on-requires-clause-held g c = subst (λ (x : Checking). IsOut (g.L.Link.awaited c.args.link.now) (check_ticket (check_of x))) c.in-Read.is c.requires.held

pub read_on-requires-clause-free : goal.read_on-requires-clause-free
read_on-requires-clause-free g c = (subst (λ (x : Checking). IsSoundCheck (bucket_of c.args.bucket.now) (check_of x)) c.in-Read.is c.requires.sound).2

pub returns-in-Ask-clause-keeps : goal.returns-in-Ask-clause-keeps
returns-in-Ask-clause-keeps g c =
    let before = moment (g.L.Link.awaited c.args.link.now) (g.L.Link.log c.args.link.now) (g.L.Link.faults c.args.link.now) (g.L.Link.pends c.args.link.now) (g.L.Link.wire c.args.link.now) (g.L.Link.prompt c.args.link.now) in
    let after = moment (g.L.Link.awaited c.poll-came.new.link) (g.L.Link.log c.poll-came.new.link) (g.L.Link.faults c.poll-came.new.link) (g.L.Link.pends c.poll-came.new.link) (g.L.Link.wire c.poll-came.new.link) (g.L.Link.prompt c.poll-came.new.link) in
    keeps_from before after (ticket_of c.in-Ask.exec) (check_ticket (check_of c.args.self)) _ _ (sym (ap (λ (x : Checking). check_ticket (check_of x)) c.in-Ask.is ∙ asked_ticket c.in-Ask.request c.in-Ask.exec))
    (keeps_asked before after (ticket_of c.in-Ask.exec) (check_turned c.hear.result) (bucket_of c.args.bucket.now) c.in-Ask.request c.poll-came.result c.hear.ensures
    (keeps_step before after ticket_of (ticket_of c.in-Ask.exec) c.poll-came.result c.poll-came.ensures.tickets c.poll-came.ensures.pended c.poll-came.ensures.lost c.poll-came.ensures.prompt c.poll-came.ensures.later))

pub returns-in-Ask-clause-checks : goal.returns-in-Ask-clause-checks
returns-in-Ask-clause-checks g c =
    subst (λ (x : Checking). ChecksOn (g.L.Link.awaited c.args.link.now) (g.L.Link.awaited c.poll-came.new.link) (g.L.Link.log c.args.link.now) (g.L.Link.log c.poll-came.new.link) (g.L.Link.wire c.args.link.now) (bucket_of c.args.bucket.now) (check_of x) (check_turned c.hear.result)) (sym c.in-Ask.is)
    (asked_checks (g.L.Link.awaited c.args.link.now) (g.L.Link.awaited c.poll-came.new.link) (g.L.Link.log c.args.link.now) (g.L.Link.log c.poll-came.new.link) (g.L.Link.wire c.args.link.now) (bucket_of c.args.bucket.now) c.in-Ask.request c.in-Ask.exec c.poll-came.result (check_turned c.hear.result) c.poll-came.ensures.runs c.hear.ensures)

pub returns-in-Ask-clause-sound : goal.returns-in-Ask-clause-sound
returns-in-Ask-clause-sound g c = check_sound (g.L.Link.awaited c.args.link.now) (g.L.Link.awaited c.poll-came.new.link) (g.L.Link.log c.args.link.now) (g.L.Link.log c.poll-came.new.link) (g.L.Link.wire c.args.link.now) (bucket_of c.args.bucket.now) (check_of c.args.self) (check_turned c.hear.result) c.requires.sound (returns-in-Ask-clause-checks g c)

pub returns-in-Read-clause-keeps : goal.returns-in-Read-clause-keeps
returns-in-Read-clause-keeps g c =
    keeps_from (moment (g.L.Link.awaited c.args.link.now) (g.L.Link.log c.args.link.now) (g.L.Link.faults c.args.link.now) (g.L.Link.pends c.args.link.now) (g.L.Link.wire c.args.link.now) (g.L.Link.prompt c.args.link.now)) (moment (g.L.Link.awaited c.read_on.new.link) (g.L.Link.log c.read_on.new.link) (g.L.Link.faults c.read_on.new.link) (g.L.Link.pends c.read_on.new.link) (g.L.Link.wire c.read_on.new.link) (g.L.Link.prompt c.read_on.new.link)) (check_ticket (reads c.in-Read.place c.in-Read.listing.cursor c.in-Read.listing.found c.in-Read.listing.count)) (check_ticket (check_of c.args.self)) _ _ (sym (ap (λ (x : Checking). check_ticket (check_of x)) c.in-Read.is)) c.read_on.ensures.keeps

pub returns-in-Read-clause-checks : goal.returns-in-Read-clause-checks
returns-in-Read-clause-checks g c = subst (λ (x : Checking). ChecksOn (g.L.Link.awaited c.args.link.now) (g.L.Link.awaited c.read_on.new.link) (g.L.Link.log c.args.link.now) (g.L.Link.log c.read_on.new.link) (g.L.Link.wire c.args.link.now) (bucket_of c.args.bucket.now) (check_of x) (check_turned c.read_on.result)) (sym c.in-Read.is) c.read_on.ensures.checks

pub returns-in-Read-clause-sound : goal.returns-in-Read-clause-sound
returns-in-Read-clause-sound g c = check_sound (g.L.Link.awaited c.args.link.now) (g.L.Link.awaited c.read_on.new.link) (g.L.Link.log c.args.link.now) (g.L.Link.log c.read_on.new.link) (g.L.Link.wire c.args.link.now) (bucket_of c.args.bucket.now) (check_of c.args.self) (check_turned c.read_on.result) c.requires.sound (returns-in-Read-clause-checks g c)
