use Rattle.std.proofs.Common.{None, true, refl, sym, subst}
use Rattle.mg_link.specs.Acts.{IsOut}
use Rattle.mg_cursor.specs.Client.{client_ticket}
use Rattle.mg_cursor.specs.Documents.{DocumentCursor}
use Rattle.mg_cursor.specs.Seeking.{SeekCaused, advance_ending}
use Rattle.mg_cursor.specs.View.{document_cursor}
use Rattle.mg_cursor.proofs.cursor.Cursor.poll_advance.Goals as goal

pub poll_advance-requires : goal.poll_advance-requires
poll_advance-requires g c = subst (λ (d : DocumentCursor). IsOut (g.L.Link.awaited c.args.link.now) (client_ticket d.cursor)) (sym c.self.view_is) c.requires

pub invariant_of-self : goal.invariant_of-self
invariant_of-self g c = c.poll_advance.ensures.sound true c.self.invariant refl

pub returns-clause-keeps : goal.returns-clause-keeps
returns-clause-keeps g c = rw (← c.self.view_is) c.poll_advance.ensures.keeps

pub returns-clause-seeks : goal.returns-clause-seeks
returns-clause-seeks g c = let x = c.poll_advance.ensures.seeks in rw (← c.self.view_is) (x.0, x.1, x.2)

pub returns-clause-current : goal.returns-clause-current
returns-clause-current g c = c.poll_advance.ensures.current

pub returns-clause-caused : goal.returns-clause-caused
returns-clause-caused g c =
    subst (λ (d : DocumentCursor). SeekCaused (g.L.Link.awaited c.args.link.now) (g.L.Link.awaited c.poll_advance.new.link) (g.L.Link.log c.args.link.now) (g.L.Link.log c.poll_advance.new.link) (g.L.Link.wire c.args.link.now) None d (document_cursor c.poll_advance.new.self) (advance_ending c.poll_advance.result)) c.self.view_is (c.poll_advance.ensures.caused true c.self.invariant)

pub returns-clause-list : goal.returns-clause-list
returns-clause-list g c = rw (← c.self.view_is) (c.poll_advance.ensures.list true c.self.invariant)
