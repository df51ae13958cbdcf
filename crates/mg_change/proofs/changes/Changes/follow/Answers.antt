use Rattle.std.proofs.Common.{Option, ℕ, false, refl, sym, ap, ◌∙◌, subst}
use Rattle.std.proofs.lemmas.Bool.{iff_false}
use Rattle.mg_link.specs.Acts.{IsOut}
use Rattle.mg_link.specs.Moment.{finished, moment}
use Rattle.mg_link.proofs.Moments.{keeps_same}
use Rattle.mg_cursor.specs.View.{client_of}
use Rattle.mg_cursor.proofs.Hearing.{failing, keeps_from, keeps_to, unasked_not_io}
use Rattle.mg_change.specs.ClientStreams.{stream_ticket}
use Rattle.mg_change.specs.Steps.{finds, not_asked}
use Rattle.mg_change.specs.StreamView.{changes_of}
use Rattle.mg_change.proofs.Parts.{ready_behind, ready_built, ready_current, ready_doing, ready_steps, ready_ticket}
use Rattle.mg_change.proofs.changes.Changes.follow.Goals as goal

pub prepare-requires-clause-sound : goal.prepare-requires-clause-sound
prepare-requires-clause-sound g c = c.requires.sound

pub prepare-requires-clause-follows : goal.prepare-requires-clause-follows
prepare-requires-clause-follows g c = c.requires.follows

-- ---- an event is next

pub returns-then-not-is_last-clause-keeps : goal.returns-then-not-is_last-clause-keeps
returns-then-not-is_last-clause-keeps g c = keeps_same (moment (g.L.Link.awaited c.args.link.now) (g.L.Link.log c.args.link.now) (g.L.Link.faults c.args.link.now) (g.L.Link.pends c.args.link.now) (g.L.Link.wire c.args.link.now) (g.L.Link.prompt c.args.link.now)) (stream_ticket (changes_of c.args.self.now)) finished c.requires.held refl tt tt

pub returns-then-not-is_last-clause-does : goal.returns-then-not-is_last-clause-does
returns-then-not-is_last-clause-does g c =
    (false, finds c.requires.follows (λ none_left. iff_false c.is_last.ensures c.if-not-is_last.true none_left) (record { rest = λ n. refl; log_same = refl }) refl refl refl, refl)

pub returns-then-not-is_last-clause-placed : goal.returns-then-not-is_last-clause-placed
returns-then-not-is_last-clause-placed g c = c.requires.sound.placed

pub returns-then-not-is_last-clause-owned : goal.returns-then-not-is_last-clause-owned
returns-then-not-is_last-clause-owned g c = λ own. own

-- ---- none is, and the getMore was built where one is to be sent

pub go_on-requires-clause-held : goal.go_on-requires-clause-held
go_on-requires-clause-held g c = subst (λ (t : Option ℕ). IsOut (g.L.Link.awaited c.args.link.now) t) (sym (ready_ticket (g.H.ClientSessionHandle.asked c.args.handle.now) (changes_of c.args.self.now) (changes_of c.prepare.new.self) c.requires.follows c.in-Ok.ensures.ready)) c.requires.held

pub go_on-requires-clause-follows : goal.go_on-requires-clause-follows
go_on-requires-clause-follows g c = ready_doing (g.H.ClientSessionHandle.asked c.args.handle.now) (changes_of c.args.self.now) (changes_of c.prepare.new.self) c.in-Ok.ensures.ready ∙ c.requires.follows

pub go_on-requires-clause-none_left : goal.go_on-requires-clause-none_left
go_on-requires-clause-none_left g c = ready_behind (g.H.ClientSessionHandle.asked c.args.handle.now) (changes_of c.args.self.now) (changes_of c.prepare.new.self) c.in-Ok.ensures.ready ∙ c.is_last.ensures.0 c.if-not-is_last.false

pub go_on-requires-clause-built : goal.go_on-requires-clause-built
go_on-requires-clause-built g c = ready_built (g.H.ClientSessionHandle.asked c.args.handle.now) (changes_of c.args.self.now) (changes_of c.prepare.new.self) c.in-Ok.ensures.ready

pub go_on-requires-clause-saved : goal.go_on-requires-clause-saved
go_on-requires-clause-saved g c = c.in-Ok.ensures.saved

pub go_on-requires-clause-placed : goal.go_on-requires-clause-placed
go_on-requires-clause-placed g c = c.in-Ok.ensures.placed

pub go_on-requires-clause-given : goal.go_on-requires-clause-given
go_on-requires-clause-given g c = ready_current (g.H.ClientSessionHandle.asked c.args.handle.now) (changes_of c.args.self.now) (changes_of c.prepare.new.self) c.in-Ok.ensures.ready ∙ c.requires.given

pub returns-in-Ok-clause-keeps : goal.returns-in-Ok-clause-keeps
returns-in-Ok-clause-keeps g c =
    keeps_from _ _ (stream_ticket (changes_of c.prepare.new.self)) (stream_ticket (changes_of c.args.self.now)) _ _ (ready_ticket (g.H.ClientSessionHandle.asked c.args.handle.now) (changes_of c.args.self.now) (changes_of c.prepare.new.self) c.requires.follows c.in-Ok.ensures.ready) c.go_on.ensures.keeps

pub returns-in-Ok-clause-does : goal.returns-in-Ok-clause-does
returns-in-Ok-clause-does g c =
    let did = c.go_on.ensures.does in (
      did.0,
      ready_steps (g.L.Link.awaited c.args.link.now) (g.L.Link.awaited c.go_on.new.link) (g.L.Link.log c.args.link.now) (g.L.Link.log c.go_on.new.link) (g.L.Link.wire c.args.link.now) (g.H.ClientSessionHandle.asked c.args.handle.now) did.0 (changes_of c.args.self.now) (changes_of c.prepare.new.self) (changes_of c.go_on.new.self) c.go_on.result c.requires.follows (c.is_last.ensures.0 c.if-not-is_last.false) c.in-Ok.ensures.ready did.1,
      did.2,
    )

pub returns-in-Ok-clause-owned : goal.returns-in-Ok-clause-owned
returns-in-Ok-clause-owned g c = λ own. c.go_on.ensures.owned (c.in-Ok.ensures.owned own)

-- ---- it could not be built

pub returns-in-Err-clause-keeps : goal.returns-in-Err-clause-keeps
returns-in-Err-clause-keeps g c =
    keeps_to _ _ (stream_ticket (changes_of c.args.self.now)) (stream_ticket (changes_of c.args.self.now)) (stream_ticket (changes_of c.prepare.new.self)) _ (sym (ap stream_ticket c.in-Err.ensures.stays))
    (failing _ _ (stream_ticket (changes_of c.args.self.now)) (stream_ticket (changes_of c.args.self.now)) c.in-Err.error (unasked_not_io (client_of c.args.self.now.batches) (g.H.ClientSessionHandle.asked c.args.handle.now) c.in-Err.error c.in-Err.ensures.fails)
    (keeps_same (moment (g.L.Link.awaited c.args.link.now) (g.L.Link.log c.args.link.now) (g.L.Link.faults c.args.link.now) (g.L.Link.pends c.args.link.now) (g.L.Link.wire c.args.link.now) (g.L.Link.prompt c.args.link.now)) (stream_ticket (changes_of c.args.self.now)) finished c.requires.held refl tt tt))

pub returns-in-Err-clause-does : goal.returns-in-Err-clause-does
returns-in-Err-clause-does g c = (
  false,
  not_asked c.requires.follows (c.is_last.ensures.0 c.if-not-is_last.false) c.in-Err.ensures.asks.0 c.in-Err.ensures.asks.1 c.in-Err.error c.in-Err.ensures.fails (record { rest = λ n. refl; log_same = refl }) refl c.in-Err.ensures.stays refl,
  refl,
)
