use Rattle.std.proofs.Common.{ℕ, None, Some, refl, sym, subst}
use Rattle.mg_link.specs.Acts.{IsOut}
use Rattle.mg_link.specs.Moment.{LinkKeeps, finished, moment, pending, step_ending}
use Rattle.mg_link.proofs.Moments.{keeps_on}
use Rattle.mg_gridfs.specs.Calls.{ending_beside}
use Rattle.mg_gridfs.specs.Steps.{DoesSteps, ids_behind, lands_on, waits}
use Rattle.mg_gridfs.specs.Turns.{back_ticket}
use Rattle.mg_gridfs.specs.Uploads.{IsSoundPhase, error_behind, flight_ticket, lands, phase_ticket, undoes}
use Rattle.mg_gridfs.specs.UploadView.{back_phase, back_stopped, flight_of, worker_of}
use Rattle.mg_gridfs.specs.declared.stage.Back.{Back}
use Rattle.mg_gridfs.proofs.Landing.{flight_free}
use Rattle.mg_gridfs.proofs.Stepping.{step_last, step_then}
use Rattle.mg_gridfs.proofs.steps.Upload.back.Goals as goal

pub land-requires-clause-free : goal.land-requires-clause-free
land-requires-clause-free g c = flight_free (worker_of c.args.self.now) (flight_of c.in-Land.flight) (subst (λ (b : Back). IsSoundPhase (worker_of c.args.self.now) (back_phase b)) c.in-Land.is c.requires.sound)

pub land-requires-clause-held : goal.land-requires-clause-held
land-requires-clause-held g c = subst (λ (b : Back). IsOut (g.L.Link.awaited c.args.link.now) (phase_ticket (back_phase b))) c.in-Land.is c.requires.held

pub remove-requires : goal.remove-requires
remove-requires g c = subst (λ (b : Back). IsOut (g.L.Link.awaited c.args.link.now) (phase_ticket (back_phase b))) c.in-Remove.is c.requires.held

-- ---- a request on its way

pub returns-in-Some-clause-keeps : goal.returns-in-Some-clause-keeps
returns-in-Some-clause-keeps g c =
    subst (λ (b : Back). LinkKeeps (moment (g.L.Link.awaited c.args.link.now) (g.L.Link.log c.args.link.now) (g.L.Link.faults c.args.link.now) (g.L.Link.pends c.args.link.now) (g.L.Link.wire c.args.link.now) (g.L.Link.prompt c.args.link.now)) (moment (g.L.Link.awaited c.land.new.link) (g.L.Link.log c.land.new.link) (g.L.Link.faults c.land.new.link) (g.L.Link.pends c.land.new.link) (g.L.Link.wire c.land.new.link) (g.L.Link.prompt c.land.new.link)) (phase_ticket (back_phase b)) (flight_ticket (flight_of c.in-Some.flight)) pending) (sym c.in-Land.is) c.in-Some.ensures.keeps

pub returns-in-Some-clause-backs : goal.returns-in-Some-clause-backs
returns-in-Some-clause-backs g c = λ ids.
    subst (λ (b : Back). (n : ℕ) × DoesSteps n (g.L.Link.awaited c.args.link.now) (g.L.Link.awaited c.land.new.link) (g.L.Link.log c.args.link.now) (g.L.Link.log c.land.new.link) (g.L.Link.wire c.args.link.now) ids 0 (worker_of c.args.self.now) (worker_of c.args.self.now) (back_phase b) (waits (lands (flight_of c.in-Some.flight) c.in-Land.error))) (sym c.in-Land.is)
    (step_last (g.L.Link.awaited c.args.link.now) (g.L.Link.awaited c.land.new.link) (g.L.Link.log c.args.link.now) (g.L.Link.log c.land.new.link) (g.L.Link.wire c.args.link.now) ids 0 (worker_of c.args.self.now) (worker_of c.args.self.now) (lands (flight_of c.in-Land.flight) c.in-Land.error) (waits (lands (flight_of c.in-Some.flight) c.in-Land.error)) (lands_on (flight_of c.in-Land.flight) c.in-Land.error refl refl (Some (flight_of c.in-Some.flight)) c.in-Some.ensures.lands (refl, refl)) tt)

pub returns-in-None-clause-keeps : goal.returns-in-None-clause-keeps
returns-in-None-clause-keeps g c =
    subst (λ (b : Back). LinkKeeps (moment (g.L.Link.awaited c.args.link.now) (g.L.Link.log c.args.link.now) (g.L.Link.faults c.args.link.now) (g.L.Link.pends c.args.link.now) (g.L.Link.wire c.args.link.now) (g.L.Link.prompt c.args.link.now)) (moment (g.L.Link.awaited c.undo.new.link) (g.L.Link.log c.undo.new.link) (g.L.Link.faults c.undo.new.link) (g.L.Link.pends c.undo.new.link) (g.L.Link.wire c.undo.new.link) (g.L.Link.prompt c.undo.new.link)) (phase_ticket (back_phase b)) (back_ticket c.undo.result) (ending_beside (step_ending c.undo.result) (error_behind (back_phase b)))) (sym c.in-Land.is)
    (keeps_on (moment (g.L.Link.awaited c.args.link.now) (g.L.Link.log c.args.link.now) (g.L.Link.faults c.args.link.now) (g.L.Link.pends c.args.link.now) (g.L.Link.wire c.args.link.now) (g.L.Link.prompt c.args.link.now)) (moment (g.L.Link.awaited c.land.new.link) (g.L.Link.log c.land.new.link) (g.L.Link.faults c.land.new.link) (g.L.Link.pends c.land.new.link) (g.L.Link.wire c.land.new.link) (g.L.Link.prompt c.land.new.link)) (moment (g.L.Link.awaited c.undo.new.link) (g.L.Link.log c.undo.new.link) (g.L.Link.faults c.undo.new.link) (g.L.Link.pends c.undo.new.link) (g.L.Link.wire c.undo.new.link) (g.L.Link.prompt c.undo.new.link)) (flight_ticket (flight_of c.in-Land.flight)) None (back_ticket c.undo.result) finished (ending_beside (step_ending c.undo.result) c.in-Land.error) c.in-None.ensures.keeps c.in-None.ensures.keeps.pended c.undo.ensures.keeps)

pub returns-in-None-clause-backs : goal.returns-in-None-clause-backs
returns-in-None-clause-backs g c = λ ids.
    subst (λ (b : Back). (n : ℕ) × DoesSteps n (g.L.Link.awaited c.args.link.now) (g.L.Link.awaited c.undo.new.link) (g.L.Link.log c.args.link.now) (g.L.Link.log c.undo.new.link) (g.L.Link.wire c.args.link.now) ids 0 (worker_of c.args.self.now) (worker_of c.args.self.now) (back_phase b) (back_stopped c.undo.result)) (sym c.in-Land.is)
    (step_then (g.L.Link.awaited c.args.link.now) (g.L.Link.awaited c.land.new.link) (g.L.Link.awaited c.undo.new.link) (g.L.Link.log c.args.link.now) (g.L.Link.log c.land.new.link) (g.L.Link.log c.undo.new.link) (g.L.Link.wire c.args.link.now) (g.L.Link.wire c.land.new.link) ids 0 (worker_of c.args.self.now) (worker_of c.args.self.now) (worker_of c.args.self.now) (lands (flight_of c.in-Land.flight) c.in-Land.error) (undoes c.in-Land.error) (back_stopped c.undo.result) c.in-None.ensures.keeps.later.wire (lands_on (flight_of c.in-Land.flight) c.in-Land.error refl refl None c.in-None.ensures.lands (refl, refl)) (c.undo.ensures.backs (ids_behind 0 ids)))

-- ---- no other request

pub returns-in-Undo-clause-keeps : goal.returns-in-Undo-clause-keeps
returns-in-Undo-clause-keeps g c = subst (λ (b : Back). LinkKeeps (moment (g.L.Link.awaited c.args.link.now) (g.L.Link.log c.args.link.now) (g.L.Link.faults c.args.link.now) (g.L.Link.pends c.args.link.now) (g.L.Link.wire c.args.link.now) (g.L.Link.prompt c.args.link.now)) (moment (g.L.Link.awaited c.undo-in-Undo.new.link) (g.L.Link.log c.undo-in-Undo.new.link) (g.L.Link.faults c.undo-in-Undo.new.link) (g.L.Link.pends c.undo-in-Undo.new.link) (g.L.Link.wire c.undo-in-Undo.new.link) (g.L.Link.prompt c.undo-in-Undo.new.link)) (phase_ticket (back_phase b)) (back_ticket c.undo-in-Undo.result) (ending_beside (step_ending c.undo-in-Undo.result) (error_behind (back_phase b)))) (sym c.in-Undo.is) c.undo-in-Undo.ensures.keeps

pub returns-in-Undo-clause-backs : goal.returns-in-Undo-clause-backs
returns-in-Undo-clause-backs g c = λ ids. subst (λ (b : Back). (n : ℕ) × DoesSteps n (g.L.Link.awaited c.args.link.now) (g.L.Link.awaited c.undo-in-Undo.new.link) (g.L.Link.log c.args.link.now) (g.L.Link.log c.undo-in-Undo.new.link) (g.L.Link.wire c.args.link.now) ids 0 (worker_of c.args.self.now) (worker_of c.args.self.now) (back_phase b) (back_stopped c.undo-in-Undo.result)) (sym c.in-Undo.is) (c.undo-in-Undo.ensures.backs ids)

pub returns-in-Remove-clause-keeps : goal.returns-in-Remove-clause-keeps
returns-in-Remove-clause-keeps g c = subst (λ (b : Back). LinkKeeps (moment (g.L.Link.awaited c.args.link.now) (g.L.Link.log c.args.link.now) (g.L.Link.faults c.args.link.now) (g.L.Link.pends c.args.link.now) (g.L.Link.wire c.args.link.now) (g.L.Link.prompt c.args.link.now)) (moment (g.L.Link.awaited c.remove.new.link) (g.L.Link.log c.remove.new.link) (g.L.Link.faults c.remove.new.link) (g.L.Link.pends c.remove.new.link) (g.L.Link.wire c.remove.new.link) (g.L.Link.prompt c.remove.new.link)) (phase_ticket (back_phase b)) (back_ticket c.remove.result) (ending_beside (step_ending c.remove.result) (error_behind (back_phase b)))) (sym c.in-Remove.is) c.remove.ensures.keeps

pub returns-in-Remove-clause-backs : goal.returns-in-Remove-clause-backs
returns-in-Remove-clause-backs g c = λ ids. subst (λ (b : Back). (n : ℕ) × DoesSteps n (g.L.Link.awaited c.args.link.now) (g.L.Link.awaited c.remove.new.link) (g.L.Link.log c.args.link.now) (g.L.Link.log c.remove.new.link) (g.L.Link.wire c.args.link.now) ids 0 (worker_of c.args.self.now) (worker_of c.args.self.now) (back_phase b) (back_stopped c.remove.result)) (sym c.in-Remove.is) (c.remove.ensures.backs ids)
