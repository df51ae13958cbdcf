use Rattle.std.proofs.Common.{None, refl}
use Rattle.mg_link.specs.Moment.{finished, moment}
use Rattle.mg_cursor.specs.Client.{client_ticket}
use Rattle.mg_cursor.specs.declared.polls.TryPoll.TheVariants as try
use Rattle.mg_cursor.proofs.Hearing.{keeps_to}
use Rattle.mg_gridfs.specs.Checks.{by_advance}
use Rattle.mg_gridfs.proofs.Idle.{tries_idle}
use Rattle.mg_gridfs.proofs.Stepping.{keeps_end}
use Rattle.mg_gridfs.proofs.check.land_list.Goals as goal

pub poll_try_advance-requires : goal.poll_try_advance-requires
poll_try_advance-requires g c = c.requires.held

pub returns-in-Pending-clause-keeps : goal.returns-in-Pending-clause-keeps
returns-in-Pending-clause-keeps g c = c.in-Pending.ensures.keeps

pub returns-in-Pending-clause-lands : goal.returns-in-Pending-clause-lands
returns-in-Pending-clause-lands g c =
    let s = c.in-Pending.ensures.tries in
    by_advance c.args.place c.args.listing.cursor c.args.listing.found c.args.listing.count refl s.0 c.poll_try_advance.new.self try.Pending s.1 refl

pub returns-in-Ready-clause-keeps : goal.returns-in-Ready-clause-keeps
returns-in-Ready-clause-keeps g c =
    let s = c.in-Ready.ensures.tries in
    keeps_to (moment (g.L.Link.awaited c.args.link.now) (g.L.Link.log c.args.link.now) (g.L.Link.faults c.args.link.now) (g.L.Link.pends c.args.link.now) (g.L.Link.wire c.args.link.now) (g.L.Link.prompt c.args.link.now)) (moment (g.L.Link.awaited c.poll_try_advance.new.link) (g.L.Link.log c.poll_try_advance.new.link) (g.L.Link.faults c.poll_try_advance.new.link) (g.L.Link.pends c.poll_try_advance.new.link) (g.L.Link.wire c.poll_try_advance.new.link) (g.L.Link.prompt c.poll_try_advance.new.link)) (client_ticket c.args.listing.cursor.cursor) (client_ticket c.poll_try_advance.new.self.cursor) None finished (tries_idle (g.L.Link.awaited c.args.link.now) (g.L.Link.awaited c.poll_try_advance.new.link) (g.L.Link.log c.args.link.now) (g.L.Link.log c.poll_try_advance.new.link) (g.L.Link.wire c.args.link.now) None s.0 c.args.listing.cursor c.poll_try_advance.new.self (try.Ready c.in-Ready._result) c.requires.free s.1) c.in-Ready.ensures.keeps

pub returns-in-Ready-clause-lands : goal.returns-in-Ready-clause-lands
returns-in-Ready-clause-lands g c =
    let s = c.in-Ready.ensures.tries in
    by_advance c.args.place c.args.listing.cursor c.args.listing.found c.args.listing.count refl s.0 c.poll_try_advance.new.self (try.Ready c.in-Ready._result) s.1 refl

pub returns-in-Failed-clause-keeps : goal.returns-in-Failed-clause-keeps
returns-in-Failed-clause-keeps g c =
    let s = c.in-Failed.ensures.tries in
    keeps_to (moment (g.L.Link.awaited c.args.link.now) (g.L.Link.log c.args.link.now) (g.L.Link.faults c.args.link.now) (g.L.Link.pends c.args.link.now) (g.L.Link.wire c.args.link.now) (g.L.Link.prompt c.args.link.now)) (moment (g.L.Link.awaited c.poll_try_advance.new.link) (g.L.Link.log c.poll_try_advance.new.link) (g.L.Link.faults c.poll_try_advance.new.link) (g.L.Link.pends c.poll_try_advance.new.link) (g.L.Link.wire c.poll_try_advance.new.link) (g.L.Link.prompt c.poll_try_advance.new.link)) (client_ticket c.args.listing.cursor.cursor) (client_ticket c.poll_try_advance.new.self.cursor) None finished (tries_idle (g.L.Link.awaited c.args.link.now) (g.L.Link.awaited c.poll_try_advance.new.link) (g.L.Link.log c.args.link.now) (g.L.Link.log c.poll_try_advance.new.link) (g.L.Link.wire c.args.link.now) None s.0 c.args.listing.cursor c.poll_try_advance.new.self (try.Failed c.in-Failed._error) c.requires.free s.1) (keeps_end (moment (g.L.Link.awaited c.args.link.now) (g.L.Link.log c.args.link.now) (g.L.Link.faults c.args.link.now) (g.L.Link.pends c.args.link.now) (g.L.Link.wire c.args.link.now) (g.L.Link.prompt c.args.link.now)) (moment (g.L.Link.awaited c.poll_try_advance.new.link) (g.L.Link.log c.poll_try_advance.new.link) (g.L.Link.faults c.poll_try_advance.new.link) (g.L.Link.pends c.poll_try_advance.new.link) (g.L.Link.wire c.poll_try_advance.new.link) (g.L.Link.prompt c.poll_try_advance.new.link)) (client_ticket c.args.listing.cursor.cursor) (client_ticket c.poll_try_advance.new.self.cursor) c.in-Failed._error c.in-Failed.ensures.keeps)

pub returns-in-Failed-clause-lands : goal.returns-in-Failed-clause-lands
returns-in-Failed-clause-lands g c =
    let s = c.in-Failed.ensures.tries in
    by_advance c.args.place c.args.listing.cursor c.args.listing.found c.args.listing.count refl s.0 c.poll_try_advance.new.self (try.Failed c.in-Failed._error) s.1 refl
