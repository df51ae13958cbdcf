use Rattle.std.proofs.Common.{sym, ap, ◌∙◌, subst}
use Rattle.std.specs.Prelude.{option_map}
use Rattle.mg_link.specs.Acts.{IsOut}
use Rattle.mg_link.specs.Exec.{ticket_of}
use Rattle.mg_link.specs.Moment.{moment}
use Rattle.mg_link.proofs.Moments.{keeps_step}
use Rattle.mg_cursor.specs.Client.{client_ticket}
use Rattle.mg_cursor.proofs.Hearing.{keeps_from}
use Rattle.mg_gridfs.specs.Checks.{IsFreeCheck, LandsCheck, check_ticket}
use Rattle.mg_gridfs.specs.UploadView.{asked_as, check_of}
use Rattle.mg_gridfs.specs.declared.check.Checking.{Checking}
use Rattle.mg_gridfs.proofs.Checking.{asked_lands, asked_ticket}
use Rattle.mg_gridfs.proofs.Landing.{keeps_asked_left}
use Rattle.mg_gridfs.proofs.check.Checking.land.Goals as goal

pub poll-came-requires : goal.poll-came-requires
poll-came-requires g c =
    subst (IsOut (g.L.Link.awaited c.args.link.now)) (ap (λ (x : Checking). check_ticket (check_of x)) c.in-Ask.is ∙ asked_ticket c.in-Ask.request c.in-Ask.exec) c.requires.held

pub land_list-requires-clause-held : goal.land_list-requires-clause-held
land_list-requires-clause-held g c = subst (λ (x : Checking). IsOut (g.L.Link.awaited c.args.link.now) (check_ticket (check_of x))) c.in-Read.is c.requires.held

pub land_list-requires-clause-free : goal.land_list-requires-clause-free
land_list-requires-clause-free g c = subst (λ (x : Checking). IsFreeCheck (check_of x)) c.in-Read.is c.requires.free

pub returns-in-Ask-clause-keeps : goal.returns-in-Ask-clause-keeps
returns-in-Ask-clause-keeps g c =
    let before = moment (g.L.Link.awaited c.args.link.now) (g.L.Link.log c.args.link.now) (g.L.Link.faults c.args.link.now) (g.L.Link.pends c.args.link.now) (g.L.Link.wire c.args.link.now) (g.L.Link.prompt c.args.link.now) in
    let after = moment (g.L.Link.awaited c.poll-came.new.link) (g.L.Link.log c.poll-came.new.link) (g.L.Link.faults c.poll-came.new.link) (g.L.Link.pends c.poll-came.new.link) (g.L.Link.wire c.poll-came.new.link) (g.L.Link.prompt c.poll-came.new.link) in
    keeps_from before after (ticket_of c.in-Ask.exec) (check_ticket (check_of c.args.self)) _ _ (sym (ap (λ (x : Checking). check_ticket (check_of x)) c.in-Ask.is ∙ asked_ticket c.in-Ask.request c.in-Ask.exec))
    (keeps_asked_left before after (ticket_of c.in-Ask.exec) (asked_as c.in-Ask.request) (asked_ticket c.in-Ask.request) c.poll-came.result (option_map check_of c.left_of.result) (c.left_of.ensures ∙ ap (option_map (asked_as c.in-Ask.request)) c.still.ensures)
    (keeps_step before after ticket_of (ticket_of c.in-Ask.exec) c.poll-came.result c.poll-came.ensures.tickets c.poll-came.ensures.pended c.poll-came.ensures.lost c.poll-came.ensures.prompt c.poll-came.ensures.later))

pub returns-in-Ask-clause-lands : goal.returns-in-Ask-clause-lands
returns-in-Ask-clause-lands g c =
    subst (λ (x : Checking). LandsCheck (g.L.Link.awaited c.args.link.now) (g.L.Link.awaited c.poll-came.new.link) (g.L.Link.log c.args.link.now) (g.L.Link.log c.poll-came.new.link) (g.L.Link.wire c.args.link.now) (check_of x) (option_map check_of c.left_of.result)) (sym c.in-Ask.is)
    (asked_lands (g.L.Link.awaited c.args.link.now) (g.L.Link.awaited c.poll-came.new.link) (g.L.Link.log c.args.link.now) (g.L.Link.log c.poll-came.new.link) (g.L.Link.wire c.args.link.now) c.in-Ask.request c.in-Ask.exec c.poll-came.result (option_map check_of c.left_of.result) c.poll-came.ensures.runs (c.left_of.ensures ∙ ap (option_map (asked_as c.in-Ask.request)) c.still.ensures))

pub returns-in-Read-clause-keeps : goal.returns-in-Read-clause-keeps
returns-in-Read-clause-keeps g c =
    keeps_from (moment (g.L.Link.awaited c.args.link.now) (g.L.Link.log c.args.link.now) (g.L.Link.faults c.args.link.now) (g.L.Link.pends c.args.link.now) (g.L.Link.wire c.args.link.now) (g.L.Link.prompt c.args.link.now)) (moment (g.L.Link.awaited c.land_list.new.link) (g.L.Link.log c.land_list.new.link) (g.L.Link.faults c.land_list.new.link) (g.L.Link.pends c.land_list.new.link) (g.L.Link.wire c.land_list.new.link) (g.L.Link.prompt c.land_list.new.link)) (client_ticket c.in-Read.listing.cursor.cursor) (check_ticket (check_of c.args.self)) _ _ (sym (ap (λ (x : Checking). check_ticket (check_of x)) c.in-Read.is)) c.land_list.ensures.keeps

pub returns-in-Read-clause-lands : goal.returns-in-Read-clause-lands
returns-in-Read-clause-lands g c = subst (λ (x : Checking). LandsCheck (g.L.Link.awaited c.args.link.now) (g.L.Link.awaited c.land_list.new.link) (g.L.Link.log c.args.link.now) (g.L.Link.log c.land_list.new.link) (g.L.Link.wire c.args.link.now) (check_of x) (option_map check_of c.land_list.result)) (sym c.in-Read.is) c.land_list.ensures.lands
