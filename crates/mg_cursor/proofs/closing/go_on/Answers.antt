use Rattle.std.proofs.Common.{Option, sym, ap, subst}
use Rattle.mg_link.specs.Acts.{IsOut}
use Rattle.mg_link.specs.Exec.{Sending, ticket_of}
use Rattle.mg_cursor.specs.Client.{client_ticket}
use Rattle.mg_cursor.specs.Closing.{ClosingPolls, closing_ticket_by, goes_on}
use Rattle.mg_cursor.specs.View.{client_of}
use Rattle.mg_cursor.proofs.Hearing.{keeps_from}
use Rattle.mg_cursor.proofs.Keeping.{to_kill}
use Rattle.mg_cursor.proofs.Killing.{closes_as, closes_first}
use Rattle.mg_cursor.proofs.closing.go_on.Goals as goal

pub wait-requires-clause-held : goal.wait-requires-clause-held
wait-requires-clause-held g c = subst (λ (o : Option Sending). IsOut (g.L.Link.awaited c.args.link.now) (closing_ticket_by (client_of c.args.batches) o)) c.in-Some.is c.requires.held

pub wait-requires-clause-killing : goal.wait-requires-clause-killing
wait-requires-clause-killing g c = to_kill (client_of c.args.batches) c.in-Some.exec (closes_as (client_of c.args.batches) c.args.killing c.in-Some.exec c.in-Some.is c.requires.closing)

pub land-requires-clause-held : goal.land-requires-clause-held
land-requires-clause-held g c = subst (λ (o : Option Sending). IsOut (g.L.Link.awaited c.args.link.now) (closing_ticket_by (client_of c.args.batches) o)) c.in-None.is c.requires.held

pub land-requires-clause-sound : goal.land-requires-clause-sound
land-requires-clause-sound g c = closes_first (client_of c.args.batches) c.args.killing c.in-None.is c.requires.closing

pub returns-in-Some-clause-keeps : goal.returns-in-Some-clause-keeps
returns-in-Some-clause-keeps g c =
    keeps_from _ _ (ticket_of c.in-Some.exec) (closing_ticket_by (client_of c.args.batches) c.args.killing) _ _ (ap (closing_ticket_by (client_of c.args.batches)) (sym c.in-Some.is)) c.wait.ensures.keeps

pub returns-in-Some-clause-closes : goal.returns-in-Some-clause-closes
returns-in-Some-clause-closes g c = goes_on c.in-Some.exec c.in-Some.is c.wait.ensures.runs

pub returns-in-None-clause-keeps : goal.returns-in-None-clause-keeps
returns-in-None-clause-keeps g c =
    keeps_from _ _ (client_ticket (client_of c.args.batches)) (closing_ticket_by (client_of c.args.batches) c.args.killing) _ _ (ap (closing_ticket_by (client_of c.args.batches)) (sym c.in-None.is)) c.land.ensures.keeps

pub returns-in-None-clause-closes : goal.returns-in-None-clause-closes
returns-in-None-clause-closes g c =
    let link = c.args.link.now in
    let later = c.land.new.link in
    subst (λ (o : Option Sending). ClosingPolls (g.L.Link.awaited link) (g.L.Link.awaited later) (g.L.Link.log link) (g.L.Link.log later) (g.L.Link.wire link) (record { cursor = client_of c.args.batches; killing = o }) c.land.result) (sym c.in-None.is)
    c.land.ensures.lands
