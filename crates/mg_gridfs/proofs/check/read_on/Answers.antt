use Rattle.std.proofs.Common.{None, refl}
use Rattle.mg_link.specs.Moment.{moment}
use Rattle.mg_cursor.specs.Client.{client_ticket}
use Rattle.mg_cursor.specs.declared.polls.AdvancePoll.TheVariants as advance
use Rattle.mg_gridfs.specs.Buckets.{bucket_of}
use Rattle.mg_gridfs.specs.Checks as check
use Rattle.mg_gridfs.specs.Checks.{by_advance}
use Rattle.mg_gridfs.specs.UploadView.{check_turned}
use Rattle.mg_gridfs.proofs.Checking.{keeps_advance}
use Rattle.mg_gridfs.proofs.Idle.{seeks_idle}
use Rattle.mg_gridfs.proofs.check.read_on.Goals as goal

pub poll_advance-requires : goal.poll_advance-requires
poll_advance-requires g c = c.requires.held

pub advanced-requires : goal.advanced-requires
advanced-requires g c = c.in-Ready.ensures.current

pub returns-in-Pending-clause-keeps : goal.returns-in-Pending-clause-keeps
returns-in-Pending-clause-keeps g c =
    let s = c.in-Pending.ensures.seeks in
    let l = c.args.listing in
    let link = c.args.link.now in
    let left = c.poll_advance.new.link in
    let idle = seeks_idle s.0 (g.L.Link.awaited link) (g.L.Link.awaited left) (g.L.Link.log link) (g.L.Link.log left) (g.L.Link.wire link) None s.1 l.cursor c.poll_advance.new.self advance.Pending c.requires.free s.2 in
    keeps_advance (moment (g.L.Link.awaited link) (g.L.Link.log link) (g.L.Link.faults link) (g.L.Link.pends link) (g.L.Link.wire link) (g.L.Link.prompt link)) (moment (g.L.Link.awaited left) (g.L.Link.log left) (g.L.Link.faults left) (g.L.Link.pends left) (g.L.Link.wire left) (g.L.Link.prompt left))
    (client_ticket l.cursor.cursor) (check.pends (check.reads c.args.place c.poll_advance.new.self c.args.listing.found c.args.listing.count)) (bucket_of c.args.bucket.now) c.args.place c.poll_advance.new.self l.found l.count advance.Pending idle refl c.in-Pending.ensures.keeps

pub returns-in-Pending-clause-checks : goal.returns-in-Pending-clause-checks
returns-in-Pending-clause-checks g c =
    let s = c.in-Pending.ensures.seeks in
    by_advance c.args.place c.args.listing.cursor c.args.listing.found c.args.listing.count refl s.0 s.1 c.poll_advance.new.self advance.Pending s.2 refl

pub returns-in-Ready-clause-keeps : goal.returns-in-Ready-clause-keeps
returns-in-Ready-clause-keeps g c =
    let s = c.in-Ready.ensures.seeks in
    let l = c.args.listing in
    let link = c.args.link.now in
    let left = c.poll_advance.new.link in
    let idle = seeks_idle s.0 (g.L.Link.awaited link) (g.L.Link.awaited left) (g.L.Link.log link) (g.L.Link.log left) (g.L.Link.wire link) None s.1 l.cursor c.poll_advance.new.self (advance.Ready c.in-Ready.there) c.requires.free s.2 in
    keeps_advance (moment (g.L.Link.awaited link) (g.L.Link.log link) (g.L.Link.faults link) (g.L.Link.pends link) (g.L.Link.wire link) (g.L.Link.prompt link)) (moment (g.L.Link.awaited left) (g.L.Link.log left) (g.L.Link.faults left) (g.L.Link.pends left) (g.L.Link.wire left) (g.L.Link.prompt left))
    (client_ticket l.cursor.cursor) (check_turned c.advanced.result) (bucket_of c.args.bucket.now) c.args.place c.poll_advance.new.self l.found l.count (advance.Ready c.in-Ready.there) idle c.advanced.ensures c.in-Ready.ensures.keeps

pub returns-in-Ready-clause-checks : goal.returns-in-Ready-clause-checks
returns-in-Ready-clause-checks g c =
    let s = c.in-Ready.ensures.seeks in
    by_advance c.args.place c.args.listing.cursor c.args.listing.found c.args.listing.count refl s.0 s.1 c.poll_advance.new.self (advance.Ready c.in-Ready.there) s.2 c.advanced.ensures

pub returns-in-Failed-clause-keeps : goal.returns-in-Failed-clause-keeps
returns-in-Failed-clause-keeps g c =
    let s = c.in-Failed.ensures.seeks in
    let l = c.args.listing in
    let link = c.args.link.now in
    let left = c.poll_advance.new.link in
    let idle = seeks_idle s.0 (g.L.Link.awaited link) (g.L.Link.awaited left) (g.L.Link.log link) (g.L.Link.log left) (g.L.Link.wire link) None s.1 l.cursor c.poll_advance.new.self (advance.Failed c.in-Failed.error) c.requires.free s.2 in
    keeps_advance (moment (g.L.Link.awaited link) (g.L.Link.log link) (g.L.Link.faults link) (g.L.Link.pends link) (g.L.Link.wire link) (g.L.Link.prompt link)) (moment (g.L.Link.awaited left) (g.L.Link.log left) (g.L.Link.faults left) (g.L.Link.pends left) (g.L.Link.wire left) (g.L.Link.prompt left))
    (client_ticket l.cursor.cursor) (check.fails c.in-Failed.error) (bucket_of c.args.bucket.now) c.args.place c.poll_advance.new.self l.found l.count (advance.Failed c.in-Failed.error) idle refl c.in-Failed.ensures.keeps

pub returns-in-Failed-clause-checks : goal.returns-in-Failed-clause-checks
returns-in-Failed-clause-checks g c =
    let s = c.in-Failed.ensures.seeks in
    by_advance c.args.place c.args.listing.cursor c.args.listing.found c.args.listing.count refl s.0 s.1 c.poll_advance.new.self (advance.Failed c.in-Failed.error) s.2 refl
