use Rattle.std.proofs.Common.{◌≡◌, ℕ, None, refl, sym, subst}
use Rattle.mg_link.specs.Acts.{IsOut}
use Rattle.mg_link.specs.Moment.{LinkKeeps, moment}
use Rattle.mg_ops.specs.Drawn.{AreLater}
use Rattle.mg_ops.proofs.Drawn.{later_same}
use Rattle.mg_gridfs.specs.Calls.{ending_beside}
use Rattle.mg_gridfs.specs.Steps.{DoesSteps, Stepped}
use Rattle.mg_gridfs.specs.Turns.{TurnsOn, turn_ending, turn_ticket}
use Rattle.mg_gridfs.specs.Uploads.{IsSoundPhase, error_behind, phase_ticket}
use Rattle.mg_gridfs.specs.UploadView.{back_phase, phase_of, worker_of}
use Rattle.mg_gridfs.specs.declared.stage.Stage.{Stage}
use Rattle.mg_gridfs.specs.declared.stage.Turn.TheVariants as turn
use Rattle.mg_gridfs.proofs.Stepping.{begun_turns, keeps_begun, keeps_beside, keeps_stopped, same_buffer}
use Rattle.mg_gridfs.proofs.Turning.{turn_falls}
use Rattle.mg_gridfs.proofs.steps.Upload.step.Goals as goal

pub check-requires-clause-held : goal.check-requires-clause-held
check-requires-clause-held g c = subst (λ (s : Stage). IsOut (g.L.Link.awaited c.args.link.now) (phase_ticket (phase_of s))) c.in-Check.is c.requires.held

pub check-requires-clause-sound : goal.check-requires-clause-sound
check-requires-clause-sound g c = subst (λ (s : Stage). IsSoundPhase (worker_of c.args.self.now) (phase_of s)) c.in-Check.is c.requires.sound.1

pub fill-requires-clause-buffer : goal.fill-requires-clause-buffer
fill-requires-clause-buffer g c = c.requires.buffer

pub fill-requires-clause-sound : goal.fill-requires-clause-sound
fill-requires-clause-sound g c = c.requires.sound.0

pub insert-requires-clause-held : goal.insert-requires-clause-held
insert-requires-clause-held g c = subst (λ (s : Stage). IsOut (g.L.Link.awaited c.args.link.now) (phase_ticket (phase_of s))) c.in-Insert.is c.requires.held

pub insert-requires-clause-sound : goal.insert-requires-clause-sound
insert-requires-clause-sound g c = subst (λ (s : Stage). IsSoundPhase (worker_of c.args.self.now) (phase_of s)) c.in-Insert.is c.requires.sound.1

pub rest-requires-clause-buffer : goal.rest-requires-clause-buffer
rest-requires-clause-buffer g c = c.requires.buffer

pub rest-requires-clause-sound : goal.rest-requires-clause-sound
rest-requires-clause-sound g c = c.requires.sound.0

pub rest-requires-clause-short : goal.rest-requires-clause-short
rest-requires-clause-short g c = subst (λ (s : Stage). IsSoundPhase (worker_of c.args.self.now) (phase_of s)) c.in-Rest.is c.requires.sound.1

pub last-requires : goal.last-requires
last-requires g c = subst (λ (s : Stage). IsOut (g.L.Link.awaited c.args.link.now) (phase_ticket (phase_of s))) c.in-Last.is c.requires.held

pub end-requires-clause-length : goal.end-requires-clause-length
end-requires-clause-length g c = (subst (λ (s : Stage). IsSoundPhase (worker_of c.args.self.now) (phase_of s)) c.in-End.is c.requires.sound.1).1

pub end-requires-clause-sound : goal.end-requires-clause-sound
end-requires-clause-sound g c = c.requires.sound.0

pub keep-requires : goal.keep-requires
keep-requires g c = subst (λ (s : Stage). IsOut (g.L.Link.awaited c.args.link.now) (phase_ticket (phase_of s))) c.in-Record.is c.requires.held

pub back-requires-clause-held : goal.back-requires-clause-held
back-requires-clause-held g c = subst (λ (s : Stage). IsOut (g.L.Link.awaited c.args.link.now) (phase_ticket (phase_of s))) c.in-Back.is c.requires.held

pub back-requires-clause-sound : goal.back-requires-clause-sound
back-requires-clause-sound g c = subst (λ (s : Stage). IsSoundPhase (worker_of c.args.self.now) (phase_of s)) c.in-Back.is c.requires.sound.1

-- ---- Begin

pub returns-in-Begin-clause-keeps : goal.returns-in-Begin-clause-keeps
returns-in-Begin-clause-keeps g c =
    subst (λ (s : Stage). LinkKeeps (moment (g.L.Link.awaited c.args.link.now) (g.L.Link.log c.args.link.now) (g.L.Link.faults c.args.link.now) (g.L.Link.pends c.args.link.now) (g.L.Link.wire c.args.link.now) (g.L.Link.prompt c.args.link.now)) (moment (g.L.Link.awaited c.args.link.now) (g.L.Link.log c.args.link.now) (g.L.Link.faults c.args.link.now) (g.L.Link.pends c.args.link.now) (g.L.Link.wire c.args.link.now) (g.L.Link.prompt c.args.link.now)) (phase_ticket (phase_of s)) (turn_ticket c.begin.result) (ending_beside (turn_ending c.begin.result) (error_behind (phase_of s)))) (sym c.in-Begin.is)
    (keeps_beside (moment (g.L.Link.awaited c.args.link.now) (g.L.Link.log c.args.link.now) (g.L.Link.faults c.args.link.now) (g.L.Link.pends c.args.link.now) (g.L.Link.wire c.args.link.now) (g.L.Link.prompt c.args.link.now)) (moment (g.L.Link.awaited c.args.link.now) (g.L.Link.log c.args.link.now) (g.L.Link.faults c.args.link.now) (g.L.Link.pends c.args.link.now) (g.L.Link.wire c.args.link.now) (g.L.Link.prompt c.args.link.now)) None (turn_ticket c.begin.result) (turn_ending c.begin.result) None (keeps_begun (moment (g.L.Link.awaited c.args.link.now) (g.L.Link.log c.args.link.now) (g.L.Link.faults c.args.link.now) (g.L.Link.pends c.args.link.now) (g.L.Link.wire c.args.link.now) (g.L.Link.prompt c.args.link.now)) (worker_of c.args.self.now) c.begin.result c.begin.ensures))

pub returns-in-Begin-clause-turns : goal.returns-in-Begin-clause-turns
returns-in-Begin-clause-turns g c =
    subst (λ (s : Stage). (drawn : ℕ) × AreLater (g.I.IdSource.ids c.args.ids.now) drawn (g.I.IdSource.ids c.args.ids.now) × TurnsOn (g.L.Link.awaited c.args.link.now) (g.L.Link.awaited c.args.link.now) (g.L.Link.log c.args.link.now) (g.L.Link.log c.args.link.now) (g.L.Link.wire c.args.link.now) (g.I.IdSource.ids c.args.ids.now) drawn (worker_of c.args.self.now) (worker_of c.args.self.now) (phase_of s) c.begin.result) (sym c.in-Begin.is)
    (0, later_same (g.I.IdSource.ids c.args.ids.now), begun_turns (g.L.Link.awaited c.args.link.now) (g.L.Link.log c.args.link.now) (g.L.Link.wire c.args.link.now) (g.I.IdSource.ids c.args.ids.now) (worker_of c.args.self.now) c.begin.result c.begin.ensures)

pub returns-in-Begin-clause-buffer : goal.returns-in-Begin-clause-buffer
returns-in-Begin-clause-buffer g c = c.requires.buffer

pub returns-in-Begin-clause-falls : goal.returns-in-Begin-clause-falls
returns-in-Begin-clause-falls g c =
    let on = returns-in-Begin-clause-turns g c in
    turn_falls (g.L.Link.awaited c.args.link.now) (g.L.Link.awaited c.args.link.now) (g.L.Link.log c.args.link.now) (g.L.Link.log c.args.link.now) (g.L.Link.wire c.args.link.now) (g.I.IdSource.ids c.args.ids.now) on.0 (worker_of c.args.self.now) (worker_of c.args.self.now) (phase_of c.args.stage) c.begin.result c.requires.sound.0 c.requires.sound.1 (subst (λ (s : Stage). error_behind (phase_of s) ≡ None) (sym c.in-Begin.is) refl) on.2

-- ---- Check

pub returns-in-Check-clause-keeps : goal.returns-in-Check-clause-keeps
returns-in-Check-clause-keeps g c =
    subst (λ (s : Stage). LinkKeeps (moment (g.L.Link.awaited c.args.link.now) (g.L.Link.log c.args.link.now) (g.L.Link.faults c.args.link.now) (g.L.Link.pends c.args.link.now) (g.L.Link.wire c.args.link.now) (g.L.Link.prompt c.args.link.now)) (moment (g.L.Link.awaited c.check.new.link) (g.L.Link.log c.check.new.link) (g.L.Link.faults c.check.new.link) (g.L.Link.pends c.check.new.link) (g.L.Link.wire c.check.new.link) (g.L.Link.prompt c.check.new.link)) (phase_ticket (phase_of s)) (turn_ticket c.check.result) (ending_beside (turn_ending c.check.result) (error_behind (phase_of s)))) (sym c.in-Check.is)
    (keeps_beside (moment (g.L.Link.awaited c.args.link.now) (g.L.Link.log c.args.link.now) (g.L.Link.faults c.args.link.now) (g.L.Link.pends c.args.link.now) (g.L.Link.wire c.args.link.now) (g.L.Link.prompt c.args.link.now)) (moment (g.L.Link.awaited c.check.new.link) (g.L.Link.log c.check.new.link) (g.L.Link.faults c.check.new.link) (g.L.Link.pends c.check.new.link) (g.L.Link.wire c.check.new.link) (g.L.Link.prompt c.check.new.link)) _ (turn_ticket c.check.result) (turn_ending c.check.result) None c.check.ensures.keeps)

pub returns-in-Check-clause-turns : goal.returns-in-Check-clause-turns
returns-in-Check-clause-turns g c =
    subst (λ (s : Stage). (drawn : ℕ) × AreLater (g.I.IdSource.ids c.args.ids.now) drawn (g.I.IdSource.ids c.args.ids.now) × TurnsOn (g.L.Link.awaited c.args.link.now) (g.L.Link.awaited c.check.new.link) (g.L.Link.log c.args.link.now) (g.L.Link.log c.check.new.link) (g.L.Link.wire c.args.link.now) (g.I.IdSource.ids c.args.ids.now) drawn (worker_of c.args.self.now) (worker_of c.check.new.self) (phase_of s) c.check.result) (sym c.in-Check.is)
    (0, later_same (g.I.IdSource.ids c.args.ids.now), c.check.ensures.turns (g.I.IdSource.ids c.args.ids.now))

pub returns-in-Check-clause-buffer : goal.returns-in-Check-clause-buffer
returns-in-Check-clause-buffer g c = same_buffer c.args.self.now c.check.new.self c.check.ensures.buffer c.check.ensures.aim c.requires.buffer

pub returns-in-Check-clause-falls : goal.returns-in-Check-clause-falls
returns-in-Check-clause-falls g c =
    let on = returns-in-Check-clause-turns g c in
    turn_falls (g.L.Link.awaited c.args.link.now) (g.L.Link.awaited c.check.new.link) (g.L.Link.log c.args.link.now) (g.L.Link.log c.check.new.link) (g.L.Link.wire c.args.link.now) (g.I.IdSource.ids c.args.ids.now) on.0 (worker_of c.args.self.now) (worker_of c.check.new.self) (phase_of c.args.stage) c.check.result c.requires.sound.0 c.requires.sound.1 (subst (λ (s : Stage). error_behind (phase_of s) ≡ None) (sym c.in-Check.is) refl) on.2

-- ---- Fill

pub returns-in-Fill-clause-keeps : goal.returns-in-Fill-clause-keeps
returns-in-Fill-clause-keeps g c =
    subst (λ (s : Stage). LinkKeeps (moment (g.L.Link.awaited c.args.link.now) (g.L.Link.log c.args.link.now) (g.L.Link.faults c.args.link.now) (g.L.Link.pends c.args.link.now) (g.L.Link.wire c.args.link.now) (g.L.Link.prompt c.args.link.now)) (moment (g.L.Link.awaited c.fill.new.link) (g.L.Link.log c.fill.new.link) (g.L.Link.faults c.fill.new.link) (g.L.Link.pends c.fill.new.link) (g.L.Link.wire c.fill.new.link) (g.L.Link.prompt c.fill.new.link)) (phase_ticket (phase_of s)) (turn_ticket c.fill.result) (ending_beside (turn_ending c.fill.result) (error_behind (phase_of s)))) (sym c.in-Fill.is)
    (keeps_beside (moment (g.L.Link.awaited c.args.link.now) (g.L.Link.log c.args.link.now) (g.L.Link.faults c.args.link.now) (g.L.Link.pends c.args.link.now) (g.L.Link.wire c.args.link.now) (g.L.Link.prompt c.args.link.now)) (moment (g.L.Link.awaited c.fill.new.link) (g.L.Link.log c.fill.new.link) (g.L.Link.faults c.fill.new.link) (g.L.Link.pends c.fill.new.link) (g.L.Link.wire c.fill.new.link) (g.L.Link.prompt c.fill.new.link)) _ (turn_ticket c.fill.result) (turn_ending c.fill.result) None c.fill.ensures.keeps)

pub returns-in-Fill-clause-turns : goal.returns-in-Fill-clause-turns
returns-in-Fill-clause-turns g c =
    subst (λ (s : Stage). (drawn : ℕ) × AreLater (g.I.IdSource.ids c.args.ids.now) drawn (g.I.IdSource.ids c.fill.new.ids) × TurnsOn (g.L.Link.awaited c.args.link.now) (g.L.Link.awaited c.fill.new.link) (g.L.Link.log c.args.link.now) (g.L.Link.log c.fill.new.link) (g.L.Link.wire c.args.link.now) (g.I.IdSource.ids c.args.ids.now) drawn (worker_of c.args.self.now) (worker_of c.fill.new.self) (phase_of s) c.fill.result) (sym c.in-Fill.is)
    c.fill.ensures.turns

pub returns-in-Fill-clause-buffer : goal.returns-in-Fill-clause-buffer
returns-in-Fill-clause-buffer g c = c.fill.ensures.same.1

pub returns-in-Fill-clause-falls : goal.returns-in-Fill-clause-falls
returns-in-Fill-clause-falls g c =
    let on = returns-in-Fill-clause-turns g c in
    turn_falls (g.L.Link.awaited c.args.link.now) (g.L.Link.awaited c.fill.new.link) (g.L.Link.log c.args.link.now) (g.L.Link.log c.fill.new.link) (g.L.Link.wire c.args.link.now) (g.I.IdSource.ids c.args.ids.now) on.0 (worker_of c.args.self.now) (worker_of c.fill.new.self) (phase_of c.args.stage) c.fill.result c.requires.sound.0 c.requires.sound.1 (subst (λ (s : Stage). error_behind (phase_of s) ≡ None) (sym c.in-Fill.is) refl) on.2

-- ---- Insert

pub returns-in-Insert-clause-keeps : goal.returns-in-Insert-clause-keeps
returns-in-Insert-clause-keeps g c =
    subst (λ (s : Stage). LinkKeeps (moment (g.L.Link.awaited c.args.link.now) (g.L.Link.log c.args.link.now) (g.L.Link.faults c.args.link.now) (g.L.Link.pends c.args.link.now) (g.L.Link.wire c.args.link.now) (g.L.Link.prompt c.args.link.now)) (moment (g.L.Link.awaited c.insert.new.link) (g.L.Link.log c.insert.new.link) (g.L.Link.faults c.insert.new.link) (g.L.Link.pends c.insert.new.link) (g.L.Link.wire c.insert.new.link) (g.L.Link.prompt c.insert.new.link)) (phase_ticket (phase_of s)) (turn_ticket c.insert.result) (ending_beside (turn_ending c.insert.result) (error_behind (phase_of s)))) (sym c.in-Insert.is)
    (keeps_beside (moment (g.L.Link.awaited c.args.link.now) (g.L.Link.log c.args.link.now) (g.L.Link.faults c.args.link.now) (g.L.Link.pends c.args.link.now) (g.L.Link.wire c.args.link.now) (g.L.Link.prompt c.args.link.now)) (moment (g.L.Link.awaited c.insert.new.link) (g.L.Link.log c.insert.new.link) (g.L.Link.faults c.insert.new.link) (g.L.Link.pends c.insert.new.link) (g.L.Link.wire c.insert.new.link) (g.L.Link.prompt c.insert.new.link)) _ (turn_ticket c.insert.result) (turn_ending c.insert.result) None c.insert.ensures.keeps)

pub returns-in-Insert-clause-turns : goal.returns-in-Insert-clause-turns
returns-in-Insert-clause-turns g c =
    subst (λ (s : Stage). (drawn : ℕ) × AreLater (g.I.IdSource.ids c.args.ids.now) drawn (g.I.IdSource.ids c.args.ids.now) × TurnsOn (g.L.Link.awaited c.args.link.now) (g.L.Link.awaited c.insert.new.link) (g.L.Link.log c.args.link.now) (g.L.Link.log c.insert.new.link) (g.L.Link.wire c.args.link.now) (g.I.IdSource.ids c.args.ids.now) drawn (worker_of c.args.self.now) (worker_of c.insert.new.self) (phase_of s) c.insert.result) (sym c.in-Insert.is)
    (0, later_same (g.I.IdSource.ids c.args.ids.now), c.insert.ensures.turns (g.I.IdSource.ids c.args.ids.now))

pub returns-in-Insert-clause-buffer : goal.returns-in-Insert-clause-buffer
returns-in-Insert-clause-buffer g c = same_buffer c.args.self.now c.insert.new.self c.insert.ensures.buffer c.insert.ensures.aim c.requires.buffer

pub returns-in-Insert-clause-falls : goal.returns-in-Insert-clause-falls
returns-in-Insert-clause-falls g c =
    let on = returns-in-Insert-clause-turns g c in
    turn_falls (g.L.Link.awaited c.args.link.now) (g.L.Link.awaited c.insert.new.link) (g.L.Link.log c.args.link.now) (g.L.Link.log c.insert.new.link) (g.L.Link.wire c.args.link.now) (g.I.IdSource.ids c.args.ids.now) on.0 (worker_of c.args.self.now) (worker_of c.insert.new.self) (phase_of c.args.stage) c.insert.result c.requires.sound.0 c.requires.sound.1 (subst (λ (s : Stage). error_behind (phase_of s) ≡ None) (sym c.in-Insert.is) refl) on.2

-- ---- Rest

pub returns-in-Rest-clause-keeps : goal.returns-in-Rest-clause-keeps
returns-in-Rest-clause-keeps g c =
    subst (λ (s : Stage). LinkKeeps (moment (g.L.Link.awaited c.args.link.now) (g.L.Link.log c.args.link.now) (g.L.Link.faults c.args.link.now) (g.L.Link.pends c.args.link.now) (g.L.Link.wire c.args.link.now) (g.L.Link.prompt c.args.link.now)) (moment (g.L.Link.awaited c.rest.new.link) (g.L.Link.log c.rest.new.link) (g.L.Link.faults c.rest.new.link) (g.L.Link.pends c.rest.new.link) (g.L.Link.wire c.rest.new.link) (g.L.Link.prompt c.rest.new.link)) (phase_ticket (phase_of s)) (turn_ticket c.rest.result) (ending_beside (turn_ending c.rest.result) (error_behind (phase_of s)))) (sym c.in-Rest.is)
    (keeps_beside (moment (g.L.Link.awaited c.args.link.now) (g.L.Link.log c.args.link.now) (g.L.Link.faults c.args.link.now) (g.L.Link.pends c.args.link.now) (g.L.Link.wire c.args.link.now) (g.L.Link.prompt c.args.link.now)) (moment (g.L.Link.awaited c.rest.new.link) (g.L.Link.log c.rest.new.link) (g.L.Link.faults c.rest.new.link) (g.L.Link.pends c.rest.new.link) (g.L.Link.wire c.rest.new.link) (g.L.Link.prompt c.rest.new.link)) _ (turn_ticket c.rest.result) (turn_ending c.rest.result) None c.rest.ensures.keeps)

pub returns-in-Rest-clause-turns : goal.returns-in-Rest-clause-turns
returns-in-Rest-clause-turns g c =
    subst (λ (s : Stage). (drawn : ℕ) × AreLater (g.I.IdSource.ids c.args.ids.now) drawn (g.I.IdSource.ids c.rest.new.ids) × TurnsOn (g.L.Link.awaited c.args.link.now) (g.L.Link.awaited c.rest.new.link) (g.L.Link.log c.args.link.now) (g.L.Link.log c.rest.new.link) (g.L.Link.wire c.args.link.now) (g.I.IdSource.ids c.args.ids.now) drawn (worker_of c.args.self.now) (worker_of c.rest.new.self) (phase_of s) c.rest.result) (sym c.in-Rest.is)
    c.rest.ensures.turns

pub returns-in-Rest-clause-buffer : goal.returns-in-Rest-clause-buffer
returns-in-Rest-clause-buffer g c = c.rest.ensures.same.1

pub returns-in-Rest-clause-falls : goal.returns-in-Rest-clause-falls
returns-in-Rest-clause-falls g c =
    let on = returns-in-Rest-clause-turns g c in
    turn_falls (g.L.Link.awaited c.args.link.now) (g.L.Link.awaited c.rest.new.link) (g.L.Link.log c.args.link.now) (g.L.Link.log c.rest.new.link) (g.L.Link.wire c.args.link.now) (g.I.IdSource.ids c.args.ids.now) on.0 (worker_of c.args.self.now) (worker_of c.rest.new.self) (phase_of c.args.stage) c.rest.result c.requires.sound.0 c.requires.sound.1 (subst (λ (s : Stage). error_behind (phase_of s) ≡ None) (sym c.in-Rest.is) refl) on.2

-- ---- Last

pub returns-in-Last-clause-keeps : goal.returns-in-Last-clause-keeps
returns-in-Last-clause-keeps g c =
    subst (λ (s : Stage). LinkKeeps (moment (g.L.Link.awaited c.args.link.now) (g.L.Link.log c.args.link.now) (g.L.Link.faults c.args.link.now) (g.L.Link.pends c.args.link.now) (g.L.Link.wire c.args.link.now) (g.L.Link.prompt c.args.link.now)) (moment (g.L.Link.awaited c.last.new.link) (g.L.Link.log c.last.new.link) (g.L.Link.faults c.last.new.link) (g.L.Link.pends c.last.new.link) (g.L.Link.wire c.last.new.link) (g.L.Link.prompt c.last.new.link)) (phase_ticket (phase_of s)) (turn_ticket c.last.result) (ending_beside (turn_ending c.last.result) (error_behind (phase_of s)))) (sym c.in-Last.is)
    (keeps_beside (moment (g.L.Link.awaited c.args.link.now) (g.L.Link.log c.args.link.now) (g.L.Link.faults c.args.link.now) (g.L.Link.pends c.args.link.now) (g.L.Link.wire c.args.link.now) (g.L.Link.prompt c.args.link.now)) (moment (g.L.Link.awaited c.last.new.link) (g.L.Link.log c.last.new.link) (g.L.Link.faults c.last.new.link) (g.L.Link.pends c.last.new.link) (g.L.Link.wire c.last.new.link) (g.L.Link.prompt c.last.new.link)) _ (turn_ticket c.last.result) (turn_ending c.last.result) None c.last.ensures.keeps)

pub returns-in-Last-clause-turns : goal.returns-in-Last-clause-turns
returns-in-Last-clause-turns g c =
    subst (λ (s : Stage). (drawn : ℕ) × AreLater (g.I.IdSource.ids c.args.ids.now) drawn (g.I.IdSource.ids c.args.ids.now) × TurnsOn (g.L.Link.awaited c.args.link.now) (g.L.Link.awaited c.last.new.link) (g.L.Link.log c.args.link.now) (g.L.Link.log c.last.new.link) (g.L.Link.wire c.args.link.now) (g.I.IdSource.ids c.args.ids.now) drawn (worker_of c.args.self.now) (worker_of c.args.self.now) (phase_of s) c.last.result) (sym c.in-Last.is)
    (0, later_same (g.I.IdSource.ids c.args.ids.now), c.last.ensures.turns (g.I.IdSource.ids c.args.ids.now))

pub returns-in-Last-clause-buffer : goal.returns-in-Last-clause-buffer
returns-in-Last-clause-buffer g c = c.requires.buffer

pub returns-in-Last-clause-falls : goal.returns-in-Last-clause-falls
returns-in-Last-clause-falls g c =
    let on = returns-in-Last-clause-turns g c in
    turn_falls (g.L.Link.awaited c.args.link.now) (g.L.Link.awaited c.last.new.link) (g.L.Link.log c.args.link.now) (g.L.Link.log c.last.new.link) (g.L.Link.wire c.args.link.now) (g.I.IdSource.ids c.args.ids.now) on.0 (worker_of c.args.self.now) (worker_of c.args.self.now) (phase_of c.args.stage) c.last.result c.requires.sound.0 c.requires.sound.1 (subst (λ (s : Stage). error_behind (phase_of s) ≡ None) (sym c.in-Last.is) refl) on.2

-- ---- End

pub returns-in-End-clause-keeps : goal.returns-in-End-clause-keeps
returns-in-End-clause-keeps g c =
    subst (λ (s : Stage). LinkKeeps (moment (g.L.Link.awaited c.args.link.now) (g.L.Link.log c.args.link.now) (g.L.Link.faults c.args.link.now) (g.L.Link.pends c.args.link.now) (g.L.Link.wire c.args.link.now) (g.L.Link.prompt c.args.link.now)) (moment (g.L.Link.awaited c.end.new.link) (g.L.Link.log c.end.new.link) (g.L.Link.faults c.end.new.link) (g.L.Link.pends c.end.new.link) (g.L.Link.wire c.end.new.link) (g.L.Link.prompt c.end.new.link)) (phase_ticket (phase_of s)) (turn_ticket c.end.result) (ending_beside (turn_ending c.end.result) (error_behind (phase_of s)))) (sym c.in-End.is)
    (keeps_beside (moment (g.L.Link.awaited c.args.link.now) (g.L.Link.log c.args.link.now) (g.L.Link.faults c.args.link.now) (g.L.Link.pends c.args.link.now) (g.L.Link.wire c.args.link.now) (g.L.Link.prompt c.args.link.now)) (moment (g.L.Link.awaited c.end.new.link) (g.L.Link.log c.end.new.link) (g.L.Link.faults c.end.new.link) (g.L.Link.pends c.end.new.link) (g.L.Link.wire c.end.new.link) (g.L.Link.prompt c.end.new.link)) _ (turn_ticket c.end.result) (turn_ending c.end.result) None c.end.ensures.keeps)

pub returns-in-End-clause-turns : goal.returns-in-End-clause-turns
returns-in-End-clause-turns g c =
    subst (λ (s : Stage). (drawn : ℕ) × AreLater (g.I.IdSource.ids c.args.ids.now) drawn (g.I.IdSource.ids c.args.ids.now) × TurnsOn (g.L.Link.awaited c.args.link.now) (g.L.Link.awaited c.end.new.link) (g.L.Link.log c.args.link.now) (g.L.Link.log c.end.new.link) (g.L.Link.wire c.args.link.now) (g.I.IdSource.ids c.args.ids.now) drawn (worker_of c.args.self.now) (worker_of c.args.self.now) (phase_of s) c.end.result) (sym c.in-End.is)
    (0, later_same (g.I.IdSource.ids c.args.ids.now), c.end.ensures.turns (g.I.IdSource.ids c.args.ids.now))

pub returns-in-End-clause-buffer : goal.returns-in-End-clause-buffer
returns-in-End-clause-buffer g c = c.requires.buffer

pub returns-in-End-clause-falls : goal.returns-in-End-clause-falls
returns-in-End-clause-falls g c =
    let on = returns-in-End-clause-turns g c in
    turn_falls (g.L.Link.awaited c.args.link.now) (g.L.Link.awaited c.end.new.link) (g.L.Link.log c.args.link.now) (g.L.Link.log c.end.new.link) (g.L.Link.wire c.args.link.now) (g.I.IdSource.ids c.args.ids.now) on.0 (worker_of c.args.self.now) (worker_of c.args.self.now) (phase_of c.args.stage) c.end.result c.requires.sound.0 c.requires.sound.1 (subst (λ (s : Stage). error_behind (phase_of s) ≡ None) (sym c.in-End.is) refl) on.2

-- ---- Record

pub returns-in-Record-clause-keeps : goal.returns-in-Record-clause-keeps
returns-in-Record-clause-keeps g c =
    subst (λ (s : Stage). LinkKeeps (moment (g.L.Link.awaited c.args.link.now) (g.L.Link.log c.args.link.now) (g.L.Link.faults c.args.link.now) (g.L.Link.pends c.args.link.now) (g.L.Link.wire c.args.link.now) (g.L.Link.prompt c.args.link.now)) (moment (g.L.Link.awaited c.keep.new.link) (g.L.Link.log c.keep.new.link) (g.L.Link.faults c.keep.new.link) (g.L.Link.pends c.keep.new.link) (g.L.Link.wire c.keep.new.link) (g.L.Link.prompt c.keep.new.link)) (phase_ticket (phase_of s)) (turn_ticket c.keep.result) (ending_beside (turn_ending c.keep.result) (error_behind (phase_of s)))) (sym c.in-Record.is)
    (keeps_beside (moment (g.L.Link.awaited c.args.link.now) (g.L.Link.log c.args.link.now) (g.L.Link.faults c.args.link.now) (g.L.Link.pends c.args.link.now) (g.L.Link.wire c.args.link.now) (g.L.Link.prompt c.args.link.now)) (moment (g.L.Link.awaited c.keep.new.link) (g.L.Link.log c.keep.new.link) (g.L.Link.faults c.keep.new.link) (g.L.Link.pends c.keep.new.link) (g.L.Link.wire c.keep.new.link) (g.L.Link.prompt c.keep.new.link)) _ (turn_ticket c.keep.result) (turn_ending c.keep.result) None c.keep.ensures.keeps)

pub returns-in-Record-clause-turns : goal.returns-in-Record-clause-turns
returns-in-Record-clause-turns g c =
    subst (λ (s : Stage). (drawn : ℕ) × AreLater (g.I.IdSource.ids c.args.ids.now) drawn (g.I.IdSource.ids c.args.ids.now) × TurnsOn (g.L.Link.awaited c.args.link.now) (g.L.Link.awaited c.keep.new.link) (g.L.Link.log c.args.link.now) (g.L.Link.log c.keep.new.link) (g.L.Link.wire c.args.link.now) (g.I.IdSource.ids c.args.ids.now) drawn (worker_of c.args.self.now) (worker_of c.args.self.now) (phase_of s) c.keep.result) (sym c.in-Record.is)
    (0, later_same (g.I.IdSource.ids c.args.ids.now), c.keep.ensures.turns (g.I.IdSource.ids c.args.ids.now))

pub returns-in-Record-clause-buffer : goal.returns-in-Record-clause-buffer
returns-in-Record-clause-buffer g c = c.requires.buffer

pub returns-in-Record-clause-falls : goal.returns-in-Record-clause-falls
returns-in-Record-clause-falls g c =
    let on = returns-in-Record-clause-turns g c in
    turn_falls (g.L.Link.awaited c.args.link.now) (g.L.Link.awaited c.keep.new.link) (g.L.Link.log c.args.link.now) (g.L.Link.log c.keep.new.link) (g.L.Link.wire c.args.link.now) (g.I.IdSource.ids c.args.ids.now) on.0 (worker_of c.args.self.now) (worker_of c.args.self.now) (phase_of c.args.stage) c.keep.result c.requires.sound.0 c.requires.sound.1 (subst (λ (s : Stage). error_behind (phase_of s) ≡ None) (sym c.in-Record.is) refl) on.2

-- ---- Back

pub returns-in-Back-clause-keeps : goal.returns-in-Back-clause-keeps
returns-in-Back-clause-keeps g c =
    subst (λ (s : Stage). LinkKeeps (moment (g.L.Link.awaited c.args.link.now) (g.L.Link.log c.args.link.now) (g.L.Link.faults c.args.link.now) (g.L.Link.pends c.args.link.now) (g.L.Link.wire c.args.link.now) (g.L.Link.prompt c.args.link.now)) (moment (g.L.Link.awaited c.back.new.link) (g.L.Link.log c.back.new.link) (g.L.Link.faults c.back.new.link) (g.L.Link.pends c.back.new.link) (g.L.Link.wire c.back.new.link) (g.L.Link.prompt c.back.new.link)) (phase_ticket (phase_of s)) (turn_ticket (turn.Stops c.on_the_way_back.result)) (ending_beside (turn_ending (turn.Stops c.on_the_way_back.result)) (error_behind (phase_of s)))) (sym c.in-Back.is)
    (keeps_stopped (moment (g.L.Link.awaited c.args.link.now) (g.L.Link.log c.args.link.now) (g.L.Link.faults c.args.link.now) (g.L.Link.pends c.args.link.now) (g.L.Link.wire c.args.link.now) (g.L.Link.prompt c.args.link.now)) (moment (g.L.Link.awaited c.back.new.link) (g.L.Link.log c.back.new.link) (g.L.Link.faults c.back.new.link) (g.L.Link.pends c.back.new.link) (g.L.Link.wire c.back.new.link) (g.L.Link.prompt c.back.new.link)) (phase_ticket (back_phase c.in-Back.back)) (error_behind (back_phase c.in-Back.back)) c.on_the_way_back.result c.back.result c.on_the_way_back.ensures c.back.ensures.keeps)

pub returns-in-Back-clause-turns : goal.returns-in-Back-clause-turns
returns-in-Back-clause-turns g c =
    subst (λ (s : Stage). (drawn : ℕ) × AreLater (g.I.IdSource.ids c.args.ids.now) drawn (g.I.IdSource.ids c.args.ids.now) × TurnsOn (g.L.Link.awaited c.args.link.now) (g.L.Link.awaited c.back.new.link) (g.L.Link.log c.args.link.now) (g.L.Link.log c.back.new.link) (g.L.Link.wire c.args.link.now) (g.I.IdSource.ids c.args.ids.now) drawn (worker_of c.args.self.now) (worker_of c.args.self.now) (phase_of s) (turn.Stops c.on_the_way_back.result)) (sym c.in-Back.is)
    (0, later_same (g.I.IdSource.ids c.args.ids.now), subst (λ (q : Stepped). (n : ℕ) × DoesSteps n (g.L.Link.awaited c.args.link.now) (g.L.Link.awaited c.back.new.link) (g.L.Link.log c.args.link.now) (g.L.Link.log c.back.new.link) (g.L.Link.wire c.args.link.now) (g.I.IdSource.ids c.args.ids.now) 0 (worker_of c.args.self.now) (worker_of c.args.self.now) (back_phase c.in-Back.back) q) (sym c.on_the_way_back.ensures) (c.back.ensures.backs (g.I.IdSource.ids c.args.ids.now)))

pub returns-in-Back-clause-buffer : goal.returns-in-Back-clause-buffer
returns-in-Back-clause-buffer g c = c.requires.buffer

pub returns-in-Back-clause-falls : goal.returns-in-Back-clause-falls
returns-in-Back-clause-falls g c = tt
