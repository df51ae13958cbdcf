use Rattle.std.proofs.Common.{sym, ap, subst}
use Rattle.mg_link.specs.Acts.{IsOut}
use Rattle.mg_link.specs.Exec.{ticket_of}
use Rattle.mg_cursor.specs.Client.{client_ticket}
use Rattle.mg_cursor.specs.Closing.{closing_ticket}
use Rattle.mg_cursor.specs.View.{client_of}
use Rattle.mg_cursor.proofs.Hearing.{keeps_from}
use Rattle.mg_change.specs.ClosingStreams.{ClosesStream, goes_on, landing_ticket, lands}
use Rattle.mg_change.specs.ClosingView.{IsClosingIn, closing_in, landing_in}
use Rattle.mg_change.specs.declared.closing.Underway.{Underway}
use Rattle.mg_change.proofs.Remaining.{runs_as, to_kill}
use Rattle.mg_change.proofs.closing.go_on.Goals as goal

-- ---- a getMore, where there is one

pub land-requires-clause-held : goal.land-requires-clause-held
land-requires-clause-held g c = subst (λ (f : Underway). IsOut (g.L.Link.awaited c.args.link.now) (landing_ticket (client_of c.args.remains.batches) (landing_in f))) c.in-Lands.is c.requires.held

pub land-requires-clause-sound : goal.land-requires-clause-sound
land-requires-clause-sound g c = subst (λ (f : Underway). IsClosingIn c.args.remains (landing_in f)) c.in-Lands.is c.requires.sound

pub returns-in-Lands-clause-keeps : goal.returns-in-Lands-clause-keeps
returns-in-Lands-clause-keeps g c =
    keeps_from _ _ (client_ticket (client_of c.args.remains.batches)) (landing_ticket (client_of c.args.remains.batches) (landing_in c.args.underway)) _ _ (ap (λ (f : Underway). landing_ticket (client_of c.args.remains.batches) (landing_in f)) (sym c.in-Lands.is)) c.land.ensures.keeps

pub returns-in-Lands-clause-closes : goal.returns-in-Lands-clause-closes
returns-in-Lands-clause-closes g c =
    let link = c.args.link.now in
    let later = c.land.new.link in
    subst (λ (f : Underway). ClosesStream (g.L.Link.awaited link) (g.L.Link.awaited later) (g.L.Link.log link) (g.L.Link.log later) (g.L.Link.wire link) (closing_in c.args.remains (landing_in f)) c.land.result) (sym c.in-Lands.is) c.land.ensures.closes

-- ---- the aggregate of a resumption

pub land_aggregate-requires-clause-held : goal.land_aggregate-requires-clause-held
land_aggregate-requires-clause-held g c = subst (λ (f : Underway). IsOut (g.L.Link.awaited c.args.link.now) (landing_ticket (client_of c.args.remains.batches) (landing_in f))) c.in-Aggregate.is c.requires.held

pub land_aggregate-requires-clause-sound : goal.land_aggregate-requires-clause-sound
land_aggregate-requires-clause-sound g c = (subst (λ (f : Underway). IsClosingIn c.args.remains (landing_in f)) c.in-Aggregate.is c.requires.sound).sound

pub returns-in-Aggregate-clause-keeps : goal.returns-in-Aggregate-clause-keeps
returns-in-Aggregate-clause-keeps g c =
    keeps_from _ _ (ticket_of c.in-Aggregate.exec) (landing_ticket (client_of c.args.remains.batches) (landing_in c.args.underway)) _ _ (ap (λ (f : Underway). landing_ticket (client_of c.args.remains.batches) (landing_in f)) (sym c.in-Aggregate.is)) c.land_aggregate.ensures.keeps

pub returns-in-Aggregate-clause-closes : goal.returns-in-Aggregate-clause-closes
returns-in-Aggregate-clause-closes g c =
    let link = c.args.link.now in
    let later = c.land_aggregate.new.link in
    subst (λ (f : Underway). ClosesStream (g.L.Link.awaited link) (g.L.Link.awaited later) (g.L.Link.log link) (g.L.Link.log later) (g.L.Link.wire link) (closing_in c.args.remains (landing_in f)) c.land_aggregate.result) (sym c.in-Aggregate.is) c.land_aggregate.ensures.closes

-- ---- the closing of the cursor before

pub land_replaced-requires-clause-held : goal.land_replaced-requires-clause-held
land_replaced-requires-clause-held g c = subst (λ (f : Underway). IsOut (g.L.Link.awaited c.args.link.now) (landing_ticket (client_of c.args.remains.batches) (landing_in f))) c.in-Replaced.is c.requires.held

pub land_replaced-requires-clause-sound : goal.land_replaced-requires-clause-sound
land_replaced-requires-clause-sound g c = (subst (λ (f : Underway). IsClosingIn c.args.remains (landing_in f)) c.in-Replaced.is c.requires.sound).sound

pub returns-in-Replaced-clause-keeps : goal.returns-in-Replaced-clause-keeps
returns-in-Replaced-clause-keeps g c =
    keeps_from _ _ (closing_ticket c.in-Replaced.closing) (landing_ticket (client_of c.args.remains.batches) (landing_in c.args.underway)) _ _ (ap (λ (f : Underway). landing_ticket (client_of c.args.remains.batches) (landing_in f)) (sym c.in-Replaced.is)) c.land_replaced.ensures.keeps

pub returns-in-Replaced-clause-closes : goal.returns-in-Replaced-clause-closes
returns-in-Replaced-clause-closes g c =
    let link = c.args.link.now in
    let later = c.land_replaced.new.link in
    subst (λ (f : Underway). ClosesStream (g.L.Link.awaited link) (g.L.Link.awaited later) (g.L.Link.log link) (g.L.Link.log later) (g.L.Link.wire link) (closing_in c.args.remains (landing_in f)) c.land_replaced.result) (sym c.in-Replaced.is) c.land_replaced.ensures.closes

-- ---- its killCursors

pub wait-requires-clause-held : goal.wait-requires-clause-held
wait-requires-clause-held g c = subst (λ (f : Underway). IsOut (g.L.Link.awaited c.args.link.now) (landing_ticket (client_of c.args.remains.batches) (landing_in f))) c.in-Last.is c.requires.held

pub wait-requires-clause-killing : goal.wait-requires-clause-killing
wait-requires-clause-killing g c = to_kill (closing_in c.args.remains lands) c.in-Last.exec (subst (λ (f : Underway). IsClosingIn c.args.remains (landing_in f)) c.in-Last.is c.requires.sound).sound

pub returns-in-Last-clause-keeps : goal.returns-in-Last-clause-keeps
returns-in-Last-clause-keeps g c =
    keeps_from _ _ (ticket_of c.in-Last.exec) (landing_ticket (client_of c.args.remains.batches) (landing_in c.args.underway)) _ _ (ap (λ (f : Underway). landing_ticket (client_of c.args.remains.batches) (landing_in f)) (sym c.in-Last.is)) c.wait.ensures.keeps

pub returns-in-Last-clause-closes : goal.returns-in-Last-clause-closes
returns-in-Last-clause-closes g c =
    let link = c.args.link.now in
    let later = c.wait.new.link in
    goes_on c.in-Last.exec (ap landing_in c.in-Last.is)
    (runs_as (g.L.Link.awaited link) (g.L.Link.awaited later) (g.L.Link.log link) (g.L.Link.log later) (g.L.Link.wire link) (closing_in c.args.remains (landing_in c.args.underway)) c.in-Last.exec c.wait.result c.wait.ensures.runs)
