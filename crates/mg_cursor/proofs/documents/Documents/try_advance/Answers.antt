use Rattle.std.proofs.Common.{false, refl, ◌∙◌}
use Rattle.mg_link.specs.Moment.{finished, moment}
use Rattle.mg_link.proofs.Moments.{keeps_same}
use Rattle.mg_cursor.specs.Client.{client_ticket}
use Rattle.mg_cursor.specs.Documents.{gives, polls}
use Rattle.mg_cursor.specs.View.{behind_of, client_of, document_cursor}
use Rattle.mg_cursor.specs.declared.polls.NextPoll.TheVariants as next
use Rattle.mg_cursor.specs.declared.polls.TryPoll.TheVariants as try
use Rattle.mg_cursor.specs.declared.results.AdvanceResult.TheVariants as result
use Rattle.mg_cursor.proofs.Advancing.{advance_sound, advanced_none, advanced_some, fills_over, keeps_filled, stands_at, stands_behind}
use Rattle.mg_cursor.proofs.Giving.{told_times}
use Rattle.mg_cursor.proofs.documents.Documents.try_advance.Goals as goal

pub poll_next-requires : goal.poll_next-requires
poll_next-requires g c = c.requires

-- ---- a document that was received

pub returns-then-advance-clause-keeps : goal.returns-then-advance-clause-keeps
returns-then-advance-clause-keeps g c = keeps_same (moment (g.L.Link.awaited c.args.link.now) (g.L.Link.log c.args.link.now) (g.L.Link.faults c.args.link.now) (g.L.Link.pends c.args.link.now) (g.L.Link.wire c.args.link.now) (g.L.Link.prompt c.args.link.now)) (client_ticket (document_cursor c.args.self.now).cursor) finished c.requires refl tt tt

pub returns-then-advance-clause-tries : goal.returns-then-advance-clause-tries
returns-then-advance-clause-tries g c =
    let ds = behind_of c.args.self.now.buffer in
    let at = advanced_some ds c.advance.new.self c.advance.result c.if-advance.true c.advance.ensures.advances in
    (false, gives at.first at.rest at.these (record { rest = λ n. refl; log_same = refl }) refl (stands_at (record c.args.self.now { buffer = c.advance.new.self }) ds at) refl, refl)

pub returns-then-advance-clause-sound : goal.returns-then-advance-clause-sound
returns-then-advance-clause-sound g c = λ plain sound plainly. sound

-- ---- a poll for the next batch

pub returns-in-Pending-clause-tries : goal.returns-in-Pending-clause-tries
returns-in-Pending-clause-tries g c =
    let ds = behind_of c.args.self.now.buffer in
    let none = advanced_none ds c.advance.new.self c.advance.result c.if-advance.false c.advance.ensures.advances in
    let polled = c.in-Pending.ensures.polls in
    let mid = record c.args.self.now { batches = c.poll_next.new.self; buffer = c.advance.new.self } in
    (polled.0, polls none.none_left (client_of c.poll_next.new.self) next.Pending polled.1 (stands_behind mid ds none, refl), polled.2 ∙ told_times g.H.ClientSessionHandle.told c.args.handle.now polled.0)

pub returns-in-Pending-clause-keeps : goal.returns-in-Pending-clause-keeps
returns-in-Pending-clause-keeps g c = c.in-Pending.ensures.keeps

pub returns-in-Pending-clause-sound : goal.returns-in-Pending-clause-sound
returns-in-Pending-clause-sound g c = λ plain sound plainly.
    let tried = returns-in-Pending-clause-tries g c in
    let mid = record c.args.self.now { batches = c.poll_next.new.self; buffer = c.advance.new.self } in
    advance_sound plain (g.L.Link.awaited c.args.link.now) (g.L.Link.awaited c.poll_next.new.link) (g.L.Link.log c.args.link.now) (g.L.Link.log c.poll_next.new.link) (g.L.Link.wire c.args.link.now) (g.H.ClientSessionHandle.asked c.args.handle.now) tried.0 (document_cursor c.args.self.now) (document_cursor mid) try.Pending sound plainly tried.1

pub returns-in-Batch-clause-tries : goal.returns-in-Batch-clause-tries
returns-in-Batch-clause-tries g c =
    let ds = behind_of c.args.self.now.buffer in
    let none = advanced_none ds c.advance.new.self c.advance.result c.if-advance.false c.advance.ensures.advances in
    let polled = c.in-Batch.ensures.polls in
    let mid = record c.args.self.now { batches = c.poll_next.new.self; buffer = c.advance.new.self } in
    (polled.0, polls none.none_left (client_of c.poll_next.new.self) (next.Batch c.in-Batch.batch) polled.1 (fills_over (document_cursor c.args.self.now) (document_cursor mid) (client_of c.poll_next.new.self) c.in-Batch.batch (document_cursor c.take.new.self) c.take.result (stands_behind mid ds none) c.take.ensures), polled.2 ∙ told_times g.H.ClientSessionHandle.told c.args.handle.now polled.0)

pub returns-in-Batch-clause-keeps : goal.returns-in-Batch-clause-keeps
returns-in-Batch-clause-keeps g c =
    let ds = behind_of c.args.self.now.buffer in
    let none = advanced_none ds c.advance.new.self c.advance.result c.if-advance.false c.advance.ensures.advances in
    let mid = record c.args.self.now { batches = c.poll_next.new.self; buffer = c.advance.new.self } in
    keeps_filled _ _ _ (document_cursor c.args.self.now) (client_of c.poll_next.new.self) c.in-Batch.batch (document_cursor c.take.new.self) c.take.result
    (fills_over (document_cursor c.args.self.now) (document_cursor mid) (client_of c.poll_next.new.self) c.in-Batch.batch (document_cursor c.take.new.self) c.take.result (stands_behind mid ds none) c.take.ensures) c.in-Batch.ensures.keeps

pub returns-in-Batch-clause-sound : goal.returns-in-Batch-clause-sound
returns-in-Batch-clause-sound g c = λ plain sound plainly.
    let tried = returns-in-Batch-clause-tries g c in
    advance_sound plain (g.L.Link.awaited c.args.link.now) (g.L.Link.awaited c.poll_next.new.link) (g.L.Link.log c.args.link.now) (g.L.Link.log c.poll_next.new.link) (g.L.Link.wire c.args.link.now) (g.H.ClientSessionHandle.asked c.args.handle.now) tried.0 (document_cursor c.args.self.now) (document_cursor c.take.new.self) c.take.result sound plainly tried.1

pub returns-in-End-clause-tries : goal.returns-in-End-clause-tries
returns-in-End-clause-tries g c =
    let ds = behind_of c.args.self.now.buffer in
    let none = advanced_none ds c.advance.new.self c.advance.result c.if-advance.false c.advance.ensures.advances in
    let polled = c.in-End.ensures.polls in
    let mid = record c.args.self.now { batches = c.poll_next.new.self; buffer = c.advance.new.self } in
    (polled.0, polls none.none_left (client_of c.poll_next.new.self) next.End polled.1 (stands_behind mid ds none, refl), polled.2 ∙ told_times g.H.ClientSessionHandle.told c.args.handle.now polled.0)

pub returns-in-End-clause-keeps : goal.returns-in-End-clause-keeps
returns-in-End-clause-keeps g c = c.in-End.ensures.keeps

pub returns-in-End-clause-sound : goal.returns-in-End-clause-sound
returns-in-End-clause-sound g c = λ plain sound plainly.
    let tried = returns-in-End-clause-tries g c in
    let mid = record c.args.self.now { batches = c.poll_next.new.self; buffer = c.advance.new.self } in
    advance_sound plain (g.L.Link.awaited c.args.link.now) (g.L.Link.awaited c.poll_next.new.link) (g.L.Link.log c.args.link.now) (g.L.Link.log c.poll_next.new.link) (g.L.Link.wire c.args.link.now) (g.H.ClientSessionHandle.asked c.args.handle.now) tried.0 (document_cursor c.args.self.now) (document_cursor mid) (try.Ready result.Exhausted) sound plainly tried.1

pub returns-in-Failed-clause-tries : goal.returns-in-Failed-clause-tries
returns-in-Failed-clause-tries g c =
    let ds = behind_of c.args.self.now.buffer in
    let none = advanced_none ds c.advance.new.self c.advance.result c.if-advance.false c.advance.ensures.advances in
    let polled = c.in-Failed.ensures.polls in
    let mid = record c.args.self.now { batches = c.poll_next.new.self; buffer = c.advance.new.self } in
    (polled.0, polls none.none_left (client_of c.poll_next.new.self) (next.Failed c.in-Failed.error) polled.1 (stands_behind mid ds none, refl), polled.2 ∙ told_times g.H.ClientSessionHandle.told c.args.handle.now polled.0)

pub returns-in-Failed-clause-keeps : goal.returns-in-Failed-clause-keeps
returns-in-Failed-clause-keeps g c = c.in-Failed.ensures.keeps

pub returns-in-Failed-clause-sound : goal.returns-in-Failed-clause-sound
returns-in-Failed-clause-sound g c = λ plain sound plainly.
    let tried = returns-in-Failed-clause-tries g c in
    let mid = record c.args.self.now { batches = c.poll_next.new.self; buffer = c.advance.new.self } in
    advance_sound plain (g.L.Link.awaited c.args.link.now) (g.L.Link.awaited c.poll_next.new.link) (g.L.Link.log c.args.link.now) (g.L.Link.log c.poll_next.new.link) (g.L.Link.wire c.args.link.now) (g.H.ClientSessionHandle.asked c.args.handle.now) tried.0 (document_cursor c.args.self.now) (document_cursor mid) (try.Failed c.in-Failed.error) sound plainly tried.1
