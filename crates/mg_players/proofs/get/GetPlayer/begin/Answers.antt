use Rattle.std.proofs.Common.{◌≡◌, ℕ, Option, Some, None, ap, arith, length, subst, sym, ◌∙◌}
use Rattle.mg_link.specs.Acts.{Tickets}
use Rattle.mg_link.specs.declared.error.Error.{Error}
use Rattle.mg_cursor.proofs.Hearing.{no_room, other_kind}
use Rattle.mg_gridfs.specs.Findings.{ticket_by}
use Rattle.mg_players.specs.Gets.{gets_ticket}
use Rattle.mg_players.specs.Telling as tells
use Rattle.mg_players.proofs.Advancing.{get_begins, get_fails_first}
use Rattle.mg_players.proofs.GetTurning.{fails_unsent, opening_begins}
use Rattle.mg_link.specs.declared.error.BadArgument.TheVariants as argument
use Rattle.mg_link.specs.declared.error.ErrorKind.TheVariants as kind
use Rattle.mg_players.proofs.get.GetPlayer.begin.Goals as goal

pub open-requires-clause-held : goal.open-requires-clause-held
open-requires-clause-held g c = λ n e. let bad : None ≡ Some n = sym (ap ticket_by c.in-Ok.ensures.new) ∙ e in absurd cc

pub open-requires-clause-holds : goal.open-requires-clause-holds
open-requires-clause-holds g c = (c.in-Ok.ensures.sound, omega (arith, c.if-self-eq0.false))

pub returns-in-Ok-clause-tickets : goal.returns-in-Ok-clause-tickets
returns-in-Ok-clause-tickets g c = subst (λ (h : Option ℕ). Tickets (g.L.Link.awaited c.args.link.now) (g.L.Link.awaited c.open.new.link) h (gets_ticket c.open.result)) (ap ticket_by c.in-Ok.ensures.new) c.open.ensures.tickets

-- ---- what it knows and tells

pub returns-in-Ok-clause-turned : goal.returns-in-Ok-clause-turned
returns-in-Ok-clause-turned g c =
    opening_begins _ _ _ _ _ c.args.self.now (record c.open.new.self { stage = c.open.result }) c.in-Ok.opening c.in-Ok.ensures.ok c.in-Ok.ensures.new c.in-Ok.ensures.sound c.open.ensures.turned

pub returns-in-Err-clause-turned : goal.returns-in-Err-clause-turned
returns-in-Err-clause-turned g c = fails_unsent _ _ _ c.args.self.now c.in-Err.error c.requires.new (λ calls q. tells.out_of_memory (ap (λ (e : Error). e.kind) c.in-Err.ensures.err))

pub returns-then-self-eq0-clause-turned : goal.returns-then-self-eq0-clause-turned
returns-then-self-eq0-clause-turned g c = fails_unsent _ _ _ c.args.self.now c.plain-error.result c.requires.new (λ calls q. tells.has_no_room c.if-self-eq0.true c.plain-error.ensures)

-- ---- how far it comes

pub returns-then-self-eq0-clause-comes : goal.returns-then-self-eq0-clause-comes
returns-then-self-eq0-clause-comes g c = get_fails_first _ (length c.args.self.now.bytes.items) c.args.self.now.done c.args.self.now.what.read c.plain-error.result

pub returns-in-Ok-clause-comes : goal.returns-in-Ok-clause-comes
returns-in-Ok-clause-comes g c = get_begins _ _ c.in-Ok.opening c.open.result (length c.args.self.now.bytes.items) c.args.self.now.done _ _ c.args.self.now.what.read (ap ticket_by c.in-Ok.ensures.new) c.open.ensures.comes

pub returns-in-Err-clause-comes : goal.returns-in-Err-clause-comes
returns-in-Err-clause-comes g c = get_fails_first _ (length c.args.self.now.bytes.items) c.args.self.now.done c.args.self.now.what.read c.in-Err.error

-- ---- what it says of lost replies

pub returns-then-self-eq0-clause-lost : goal.returns-then-self-eq0-clause-lost
returns-then-self-eq0-clause-lost g c = λ lost. absurd (other_kind c.plain-error.result (kind.InvalidArgument argument.ReadSize) c.plain-error.ensures (λ bad. cc) lost)

pub returns-in-Ok-clause-lost : goal.returns-in-Ok-clause-lost
returns-in-Ok-clause-lost g c = λ lost. c.open.ensures.lost lost

pub returns-in-Err-clause-lost : goal.returns-in-Err-clause-lost
returns-in-Err-clause-lost g c = λ lost. absurd (no_room c.in-Err.error c.in-Err.ensures.err lost)
