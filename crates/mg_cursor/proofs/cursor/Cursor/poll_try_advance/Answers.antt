use Rattle.std.proofs.Common.{None, true, refl, sym, subst}
use Rattle.mg_link.specs.Acts.{IsOut}
use Rattle.mg_cursor.specs.Client.{client_ticket}
use Rattle.mg_cursor.specs.Documents.{DocumentCursor, try_ending}
use Rattle.mg_cursor.specs.Seeking.{SeekCaused}
use Rattle.mg_cursor.specs.View.{document_cursor}
use Rattle.mg_cursor.proofs.cursor.Cursor.poll_try_advance.Goals as goal

pub poll_try_advance-requires : goal.poll_try_advance-requires
poll_try_advance-requires g c = subst (λ (d : DocumentCursor). IsOut (g.L.Link.awaited c.args.link.now) (client_ticket d.cursor)) (sym c.self.view_is) c.requires

pub invariant_of-self : goal.invariant_of-self
invariant_of-self g c = c.poll_try_advance.ensures.sound true c.self.invariant refl

pub returns-clause-keeps : goal.returns-clause-keeps
returns-clause-keeps g c = rw (← c.self.view_is) c.poll_try_advance.ensures.keeps

pub returns-clause-tries : goal.returns-clause-tries
returns-clause-tries g c = let x = c.poll_try_advance.ensures.tries in rw (← c.self.view_is) (x.0, x.1)

pub returns-clause-current : goal.returns-clause-current
returns-clause-current g c = c.poll_try_advance.ensures.current

pub returns-clause-caused : goal.returns-clause-caused
returns-clause-caused g c =
    subst (λ (d : DocumentCursor). SeekCaused (g.L.Link.awaited c.args.link.now) (g.L.Link.awaited c.poll_try_advance.new.link) (g.L.Link.log c.args.link.now) (g.L.Link.log c.poll_try_advance.new.link) (g.L.Link.wire c.args.link.now) None d (document_cursor c.poll_try_advance.new.self) (try_ending c.poll_try_advance.result)) c.self.view_is (c.poll_try_advance.ensures.caused true c.self.invariant)

pub returns-clause-list : goal.returns-clause-list
returns-clause-list g c = rw (← c.self.view_is) (c.poll_try_advance.ensures.list true c.self.invariant)
