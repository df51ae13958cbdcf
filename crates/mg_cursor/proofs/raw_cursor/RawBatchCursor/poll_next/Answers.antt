use Rattle.std.proofs.Common.{None, true, refl, sym, subst}
use Rattle.mg_link.specs.Acts.{IsOut}
use Rattle.mg_cursor.specs.Causes.{NextCaused}
use Rattle.mg_cursor.specs.Client.{ClientCursor, client_ticket}
use Rattle.mg_cursor.specs.View.{client_of}
use Rattle.mg_cursor.proofs.raw_cursor.RawBatchCursor.poll_next.Goals as goal

pub poll_next-requires : goal.poll_next-requires
poll_next-requires g c = subst (λ (x : ClientCursor). IsOut (g.L.Link.awaited c.args.link.now) (client_ticket x)) (sym c.self.view_is) c.requires

pub invariant_of-self : goal.invariant_of-self
invariant_of-self g c = c.poll_next.ensures.sound true c.self.invariant refl

pub returns-clause-keeps : goal.returns-clause-keeps
returns-clause-keeps g c = rw (← c.self.view_is) c.poll_next.ensures.keeps

pub returns-clause-polls : goal.returns-clause-polls
returns-clause-polls g c = let x = c.poll_next.ensures.polls in rw (← c.self.view_is) (x.0, x.1)

pub returns-clause-caused : goal.returns-clause-caused
returns-clause-caused g c =
    subst (λ (x : ClientCursor). NextCaused (g.L.Link.awaited c.args.link.now) (g.L.Link.awaited c.poll_next.new.link) (g.L.Link.log c.args.link.now) (g.L.Link.log c.poll_next.new.link) (g.L.Link.wire c.args.link.now) None x (client_of c.poll_next.new.self) c.poll_next.result) c.self.view_is (c.poll_next.ensures.caused true c.self.invariant)

pub returns-clause-list : goal.returns-clause-list
returns-clause-list g c = rw (← c.self.view_is) (c.poll_next.ensures.list true c.self.invariant)
