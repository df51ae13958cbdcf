use Rattle.std.proofs.Common.{sym, ap, ◌∙◌, subst}
use Rattle.std.specs.Prelude.{option_map}
use Rattle.mg_link.specs.Acts.{IsOut}
use Rattle.mg_link.specs.Exec.{ticket_of}
use Rattle.mg_link.specs.Moment.{moment}
use Rattle.mg_link.proofs.Moments.{keeps_step}
use Rattle.mg_cursor.proofs.Hearing.{keeps_from}
use Rattle.mg_gridfs.specs.Checks.{check_ticket}
use Rattle.mg_gridfs.specs.Steps.{of_check, of_command}
use Rattle.mg_gridfs.specs.Uploads.{IsFreeFlight, by_command, flight_ticket}
use Rattle.mg_gridfs.specs.UploadView.{check_of, flight_of}
use Rattle.mg_gridfs.specs.declared.flight.Flight.{Flight}
use Rattle.mg_gridfs.proofs.Landing.{keeps_check_left, keeps_command_left}
use Rattle.mg_gridfs.proofs.flight.Flight.land.Goals as goal

pub land-requires-clause-free : goal.land-requires-clause-free
land-requires-clause-free g c = subst (λ (f : Flight). IsFreeFlight (flight_of f)) c.in-Check.is c.requires.free

pub land-requires-clause-held : goal.land-requires-clause-held
land-requires-clause-held g c = subst (λ (f : Flight). IsOut (g.L.Link.awaited c.args.link.now) (flight_ticket (flight_of f))) c.in-Check.is c.requires.held

pub poll-came-requires : goal.poll-came-requires
poll-came-requires g c = subst (λ (f : Flight). IsOut (g.L.Link.awaited c.args.link.now) (flight_ticket (flight_of f))) c.in-Command.is c.requires.held

pub returns-in-Check-clause-keeps : goal.returns-in-Check-clause-keeps
returns-in-Check-clause-keeps g c =
    keeps_from (moment (g.L.Link.awaited c.args.link.now) (g.L.Link.log c.args.link.now) (g.L.Link.faults c.args.link.now) (g.L.Link.pends c.args.link.now) (g.L.Link.wire c.args.link.now) (g.L.Link.prompt c.args.link.now)) (moment (g.L.Link.awaited c.land.new.link) (g.L.Link.log c.land.new.link) (g.L.Link.faults c.land.new.link) (g.L.Link.pends c.land.new.link) (g.L.Link.wire c.land.new.link) (g.L.Link.prompt c.land.new.link)) (check_ticket (check_of c.in-Check.check)) (flight_ticket (flight_of c.args.self)) _ _ (ap (λ (f : Flight). flight_ticket (flight_of f)) (sym c.in-Check.is))
    (keeps_check_left (moment (g.L.Link.awaited c.args.link.now) (g.L.Link.log c.args.link.now) (g.L.Link.faults c.args.link.now) (g.L.Link.pends c.args.link.now) (g.L.Link.wire c.args.link.now) (g.L.Link.prompt c.args.link.now)) (moment (g.L.Link.awaited c.land.new.link) (g.L.Link.log c.land.new.link) (g.L.Link.faults c.land.new.link) (g.L.Link.pends c.land.new.link) (g.L.Link.wire c.land.new.link) (g.L.Link.prompt c.land.new.link)) (check_ticket (check_of c.in-Check.check)) (option_map check_of c.land.result) (option_map flight_of c.checked.result) c.checked.ensures c.land.ensures.keeps)

pub returns-in-Check-clause-lands : goal.returns-in-Check-clause-lands
returns-in-Check-clause-lands g c = of_check (check_of c.in-Check.check) (ap flight_of c.in-Check.is) (option_map check_of c.land.result) c.land.ensures.lands c.checked.ensures

pub returns-in-Command-clause-keeps : goal.returns-in-Command-clause-keeps
returns-in-Command-clause-keeps g c =
    let before = moment (g.L.Link.awaited c.args.link.now) (g.L.Link.log c.args.link.now) (g.L.Link.faults c.args.link.now) (g.L.Link.pends c.args.link.now) (g.L.Link.wire c.args.link.now) (g.L.Link.prompt c.args.link.now) in
    let after = moment (g.L.Link.awaited c.poll-came.new.link) (g.L.Link.log c.poll-came.new.link) (g.L.Link.faults c.poll-came.new.link) (g.L.Link.pends c.poll-came.new.link) (g.L.Link.wire c.poll-came.new.link) (g.L.Link.prompt c.poll-came.new.link) in
    keeps_from before after (ticket_of c.in-Command.exec) (flight_ticket (flight_of c.args.self)) _ _ (ap (λ (f : Flight). flight_ticket (flight_of f)) (sym c.in-Command.is))
    (keeps_command_left before after (ticket_of c.in-Command.exec) c.poll-came.result (option_map flight_of c.commanded.result) (c.commanded.ensures ∙ ap (option_map by_command) c.still.ensures)
    (keeps_step before after ticket_of (ticket_of c.in-Command.exec) c.poll-came.result c.poll-came.ensures.tickets c.poll-came.ensures.pended c.poll-came.ensures.lost c.poll-came.ensures.prompt c.poll-came.ensures.later))

pub returns-in-Command-clause-lands : goal.returns-in-Command-clause-lands
returns-in-Command-clause-lands g c = of_command c.in-Command.exec (ap flight_of c.in-Command.is) c.poll-came.result c.poll-came.ensures.runs (c.commanded.ensures ∙ ap (option_map by_command) c.still.ensures)
