use Rattle.std.proofs.Common.{false, refl, ◌∙◌, subst}
use Rattle.mg_link.specs.Acts.{IsOut}
use Rattle.mg_cursor.specs.View.{client_of}
use Rattle.mg_cursor.specs.declared.polls.NextPoll.TheVariants as next
use Rattle.mg_cursor.specs.declared.polls.TryPoll.TheVariants as try
use Rattle.mg_cursor.specs.declared.results.AdvanceResult.TheVariants as result
use Rattle.mg_cursor.proofs.Giving.{told_times}
use Rattle.mg_change.specs.ClientStreams.{Doing, ticket_by}
use Rattle.mg_change.specs.StreamView.{changes_of}
use Rattle.mg_change.specs.declared.event_poll.Stepped.TheVariants as stepped
use Rattle.mg_change.proofs.Linking.{placed_saved, saved_is}
use Rattle.mg_change.proofs.Parts.{batches_same, batches_saved, fail_with, fails_fall, look_with, looks_fall, owns_still, placed_same, poll_ends, poll_keeps, poll_rests, poll_saves, poll_steps}
use Rattle.mg_change.proofs.changes.Changes.go_on.Goals as goal

pub poll_next-requires : goal.poll_next-requires
poll_next-requires g c = subst (λ (d : Doing). IsOut (g.L.Link.awaited c.args.link.now) (ticket_by (client_of c.args.self.now.batches) d)) c.requires.follows c.requires.held

-- ---- a reply pends

pub returns-in-Pending-clause-keeps : goal.returns-in-Pending-clause-keeps
returns-in-Pending-clause-keeps g c = poll_keeps _ _ (changes_of c.args.self.now) (client_of c.poll_next.new.self) next.Pending (changes_of (record c.args.self.now { batches = c.poll_next.new.self })) (stepped.Gives try.Pending) c.requires.follows (λ ended. absurd (ended refl)) (batches_saved c.args.self.now c.poll_next.new.self (poll_saves (g.L.Link.awaited c.args.link.now) (g.L.Link.awaited c.poll_next.new.link) (g.L.Link.log c.args.link.now) (g.L.Link.log c.poll_next.new.link) (g.L.Link.wire c.args.link.now) (g.H.ClientSessionHandle.asked c.args.handle.now) c.in-Pending.ensures.polls.0 c.args.self.now.token (client_of c.args.self.now.batches) (client_of c.poll_next.new.self) next.Pending (λ e. cc) c.requires.built c.requires.saved c.in-Pending.ensures.polls.1), refl) c.in-Pending.ensures.keeps

pub returns-in-Pending-clause-does : goal.returns-in-Pending-clause-does
returns-in-Pending-clause-does g c =
    let polled = c.in-Pending.ensures.polls in (
      polled.0,
      poll_steps (g.L.Link.awaited c.args.link.now) (g.L.Link.awaited c.poll_next.new.link) (g.L.Link.log c.args.link.now) (g.L.Link.log c.poll_next.new.link) (g.L.Link.wire c.args.link.now) (g.H.ClientSessionHandle.asked c.args.handle.now) polled.0 (changes_of c.args.self.now) (client_of c.poll_next.new.self) next.Pending (changes_of (record c.args.self.now { batches = c.poll_next.new.self })) (stepped.Gives try.Pending) c.requires.follows c.requires.none_left c.requires.built polled.1 (batches_saved c.args.self.now c.poll_next.new.self (poll_saves (g.L.Link.awaited c.args.link.now) (g.L.Link.awaited c.poll_next.new.link) (g.L.Link.log c.args.link.now) (g.L.Link.log c.poll_next.new.link) (g.L.Link.wire c.args.link.now) (g.H.ClientSessionHandle.asked c.args.handle.now) c.in-Pending.ensures.polls.0 c.args.self.now.token (client_of c.args.self.now.batches) (client_of c.poll_next.new.self) next.Pending (λ e. cc) c.requires.built c.requires.saved c.in-Pending.ensures.polls.1), refl),
      polled.2 ∙ told_times g.H.ClientSessionHandle.told c.args.handle.now polled.0,
    )

pub returns-in-Pending-clause-placed : goal.returns-in-Pending-clause-placed
returns-in-Pending-clause-placed g c = placed_saved (record c.args.self.now { batches = c.poll_next.new.self }) (saved_is c.args.self.now.token (poll_saves (g.L.Link.awaited c.args.link.now) (g.L.Link.awaited c.poll_next.new.link) (g.L.Link.log c.args.link.now) (g.L.Link.log c.poll_next.new.link) (g.L.Link.wire c.args.link.now) (g.H.ClientSessionHandle.asked c.args.handle.now) c.in-Pending.ensures.polls.0 c.args.self.now.token (client_of c.args.self.now.batches) (client_of c.poll_next.new.self) next.Pending (λ e. cc) c.requires.built c.requires.saved c.in-Pending.ensures.polls.1))

pub returns-in-Pending-clause-owned : goal.returns-in-Pending-clause-owned
returns-in-Pending-clause-owned g c = λ own. own

-- ---- a batch came

pub look-requires-clause-follows : goal.look-requires-clause-follows
look-requires-clause-follows g c = c.requires.follows

pub look-requires-clause-saved : goal.look-requires-clause-saved
look-requires-clause-saved g c = poll_saves (g.L.Link.awaited c.args.link.now) (g.L.Link.awaited c.poll_next.new.link) (g.L.Link.log c.args.link.now) (g.L.Link.log c.poll_next.new.link) (g.L.Link.wire c.args.link.now) (g.H.ClientSessionHandle.asked c.args.handle.now) c.in-Batch.ensures.polls.0 c.args.self.now.token (client_of c.args.self.now.batches) (client_of c.poll_next.new.self) (next.Batch c.in-Batch.batch) (λ e. cc) c.requires.built c.requires.saved c.in-Batch.ensures.polls.1

pub look-requires-clause-rests : goal.look-requires-clause-rests
look-requires-clause-rests g c = poll_rests (g.L.Link.awaited c.args.link.now) (g.L.Link.awaited c.poll_next.new.link) (g.L.Link.log c.args.link.now) (g.L.Link.log c.poll_next.new.link) (g.L.Link.wire c.args.link.now) (g.H.ClientSessionHandle.asked c.args.handle.now) c.in-Batch.ensures.polls.0 (client_of c.args.self.now.batches) (client_of c.poll_next.new.self) (next.Batch c.in-Batch.batch) (λ e. cc) c.in-Batch.ensures.polls.1

pub look-requires-clause-given : goal.look-requires-clause-given
look-requires-clause-given g c = c.requires.given

pub returns-in-Batch-clause-keeps : goal.returns-in-Batch-clause-keeps
returns-in-Batch-clause-keeps g c = poll_keeps _ _ (changes_of c.args.self.now) (client_of c.poll_next.new.self) (next.Batch c.in-Batch.batch) (changes_of c.look.new.self) c.look.result c.requires.follows (λ ended. poll_rests (g.L.Link.awaited c.args.link.now) (g.L.Link.awaited c.poll_next.new.link) (g.L.Link.log c.args.link.now) (g.L.Link.log c.poll_next.new.link) (g.L.Link.wire c.args.link.now) (g.H.ClientSessionHandle.asked c.args.handle.now) c.in-Batch.ensures.polls.0 (client_of c.args.self.now.batches) (client_of c.poll_next.new.self) (next.Batch c.in-Batch.batch) ended c.in-Batch.ensures.polls.1) (look_with false (changes_of c.args.self.now) (changes_of (record c.args.self.now { batches = c.poll_next.new.self })) (client_of c.poll_next.new.self) c.in-Batch.batch (changes_of c.look.new.self) c.look.result (batches_saved c.args.self.now c.poll_next.new.self (poll_saves (g.L.Link.awaited c.args.link.now) (g.L.Link.awaited c.poll_next.new.link) (g.L.Link.log c.args.link.now) (g.L.Link.log c.poll_next.new.link) (g.L.Link.wire c.args.link.now) (g.H.ClientSessionHandle.asked c.args.handle.now) c.in-Batch.ensures.polls.0 c.args.self.now.token (client_of c.args.self.now.batches) (client_of c.poll_next.new.self) (next.Batch c.in-Batch.batch) (λ e. cc) c.requires.built c.requires.saved c.in-Batch.ensures.polls.1)) c.look.ensures.looks) c.in-Batch.ensures.keeps

pub returns-in-Batch-clause-does : goal.returns-in-Batch-clause-does
returns-in-Batch-clause-does g c =
    let polled = c.in-Batch.ensures.polls in (
      polled.0,
      poll_steps (g.L.Link.awaited c.args.link.now) (g.L.Link.awaited c.poll_next.new.link) (g.L.Link.log c.args.link.now) (g.L.Link.log c.poll_next.new.link) (g.L.Link.wire c.args.link.now) (g.H.ClientSessionHandle.asked c.args.handle.now) polled.0 (changes_of c.args.self.now) (client_of c.poll_next.new.self) (next.Batch c.in-Batch.batch) (changes_of c.look.new.self) c.look.result c.requires.follows c.requires.none_left c.requires.built polled.1 (look_with false (changes_of c.args.self.now) (changes_of (record c.args.self.now { batches = c.poll_next.new.self })) (client_of c.poll_next.new.self) c.in-Batch.batch (changes_of c.look.new.self) c.look.result (batches_saved c.args.self.now c.poll_next.new.self (poll_saves (g.L.Link.awaited c.args.link.now) (g.L.Link.awaited c.poll_next.new.link) (g.L.Link.log c.args.link.now) (g.L.Link.log c.poll_next.new.link) (g.L.Link.wire c.args.link.now) (g.H.ClientSessionHandle.asked c.args.handle.now) c.in-Batch.ensures.polls.0 c.args.self.now.token (client_of c.args.self.now.batches) (client_of c.poll_next.new.self) (next.Batch c.in-Batch.batch) (λ e. cc) c.requires.built c.requires.saved c.in-Batch.ensures.polls.1)) c.look.ensures.looks),
      polled.2 ∙ told_times g.H.ClientSessionHandle.told c.args.handle.now polled.0,
    )

pub returns-in-Batch-clause-owned : goal.returns-in-Batch-clause-owned
returns-in-Batch-clause-owned g c = λ own. c.look.ensures.owned

pub returns-in-Batch-clause-falls : goal.returns-in-Batch-clause-falls
returns-in-Batch-clause-falls g c = looks_fall (changes_of (record c.args.self.now { batches = c.poll_next.new.self })) (client_of c.poll_next.new.self) c.in-Batch.batch (changes_of c.look.new.self) c.look.result c.look.ensures.looks

-- ---- nothing is asked for any more

pub returns-in-End-clause-keeps : goal.returns-in-End-clause-keeps
returns-in-End-clause-keeps g c = poll_keeps _ _ (changes_of c.args.self.now) (client_of c.poll_next.new.self) next.End (changes_of (record c.args.self.now { batches = c.poll_next.new.self })) (stepped.Gives (try.Ready result.Exhausted)) c.requires.follows (λ ended. poll_rests (g.L.Link.awaited c.args.link.now) (g.L.Link.awaited c.poll_next.new.link) (g.L.Link.log c.args.link.now) (g.L.Link.log c.poll_next.new.link) (g.L.Link.wire c.args.link.now) (g.H.ClientSessionHandle.asked c.args.handle.now) c.in-End.ensures.polls.0 (client_of c.args.self.now.batches) (client_of c.poll_next.new.self) next.End ended c.in-End.ensures.polls.1) (batches_same c.args.self.now c.poll_next.new.self (poll_ends (g.L.Link.awaited c.args.link.now) (g.L.Link.awaited c.poll_next.new.link) (g.L.Link.log c.args.link.now) (g.L.Link.log c.poll_next.new.link) (g.L.Link.wire c.args.link.now) (g.H.ClientSessionHandle.asked c.args.handle.now) c.in-End.ensures.polls.0 (client_of c.args.self.now.batches) (client_of c.poll_next.new.self) c.requires.built c.in-End.ensures.polls.1), refl) c.in-End.ensures.keeps

pub returns-in-End-clause-does : goal.returns-in-End-clause-does
returns-in-End-clause-does g c =
    let polled = c.in-End.ensures.polls in (
      polled.0,
      poll_steps (g.L.Link.awaited c.args.link.now) (g.L.Link.awaited c.poll_next.new.link) (g.L.Link.log c.args.link.now) (g.L.Link.log c.poll_next.new.link) (g.L.Link.wire c.args.link.now) (g.H.ClientSessionHandle.asked c.args.handle.now) polled.0 (changes_of c.args.self.now) (client_of c.poll_next.new.self) next.End (changes_of (record c.args.self.now { batches = c.poll_next.new.self })) (stepped.Gives (try.Ready result.Exhausted)) c.requires.follows c.requires.none_left c.requires.built polled.1 (batches_same c.args.self.now c.poll_next.new.self (poll_ends (g.L.Link.awaited c.args.link.now) (g.L.Link.awaited c.poll_next.new.link) (g.L.Link.log c.args.link.now) (g.L.Link.log c.poll_next.new.link) (g.L.Link.wire c.args.link.now) (g.H.ClientSessionHandle.asked c.args.handle.now) c.in-End.ensures.polls.0 (client_of c.args.self.now.batches) (client_of c.poll_next.new.self) c.requires.built c.in-End.ensures.polls.1), refl),
      polled.2 ∙ told_times g.H.ClientSessionHandle.told c.args.handle.now polled.0,
    )

pub returns-in-End-clause-placed : goal.returns-in-End-clause-placed
returns-in-End-clause-placed g c = placed_same c.args.self.now c.poll_next.new.self (poll_ends (g.L.Link.awaited c.args.link.now) (g.L.Link.awaited c.poll_next.new.link) (g.L.Link.log c.args.link.now) (g.L.Link.log c.poll_next.new.link) (g.L.Link.wire c.args.link.now) (g.H.ClientSessionHandle.asked c.args.handle.now) c.in-End.ensures.polls.0 (client_of c.args.self.now.batches) (client_of c.poll_next.new.self) c.requires.built c.in-End.ensures.polls.1) c.requires.placed

pub returns-in-End-clause-owned : goal.returns-in-End-clause-owned
returns-in-End-clause-owned g c = λ own. own

-- ---- it failed

pub fail-requires-clause-follows : goal.fail-requires-clause-follows
fail-requires-clause-follows g c = c.requires.follows

pub fail-requires-clause-none_left : goal.fail-requires-clause-none_left
fail-requires-clause-none_left g c = c.requires.none_left

pub returns-in-Failed-clause-keeps : goal.returns-in-Failed-clause-keeps
returns-in-Failed-clause-keeps g c = poll_keeps _ _ (changes_of c.args.self.now) (client_of c.poll_next.new.self) (next.Failed c.in-Failed.error) (changes_of c.fail.new.self) c.fail.result c.requires.follows (λ ended. poll_rests (g.L.Link.awaited c.args.link.now) (g.L.Link.awaited c.poll_next.new.link) (g.L.Link.log c.args.link.now) (g.L.Link.log c.poll_next.new.link) (g.L.Link.wire c.args.link.now) (g.H.ClientSessionHandle.asked c.args.handle.now) c.in-Failed.ensures.polls.0 (client_of c.args.self.now.batches) (client_of c.poll_next.new.self) (next.Failed c.in-Failed.error) ended c.in-Failed.ensures.polls.1) (fail_with (changes_of c.args.self.now) (changes_of (record c.args.self.now { batches = c.poll_next.new.self })) (client_of c.poll_next.new.self) c.in-Failed.error (changes_of c.fail.new.self) c.fail.result (batches_saved c.args.self.now c.poll_next.new.self (poll_saves (g.L.Link.awaited c.args.link.now) (g.L.Link.awaited c.poll_next.new.link) (g.L.Link.log c.args.link.now) (g.L.Link.log c.poll_next.new.link) (g.L.Link.wire c.args.link.now) (g.H.ClientSessionHandle.asked c.args.handle.now) c.in-Failed.ensures.polls.0 c.args.self.now.token (client_of c.args.self.now.batches) (client_of c.poll_next.new.self) (next.Failed c.in-Failed.error) (λ e. cc) c.requires.built c.requires.saved c.in-Failed.ensures.polls.1)) c.fail.ensures.fails) c.in-Failed.ensures.keeps

pub returns-in-Failed-clause-does : goal.returns-in-Failed-clause-does
returns-in-Failed-clause-does g c =
    let polled = c.in-Failed.ensures.polls in (
      polled.0,
      poll_steps (g.L.Link.awaited c.args.link.now) (g.L.Link.awaited c.poll_next.new.link) (g.L.Link.log c.args.link.now) (g.L.Link.log c.poll_next.new.link) (g.L.Link.wire c.args.link.now) (g.H.ClientSessionHandle.asked c.args.handle.now) polled.0 (changes_of c.args.self.now) (client_of c.poll_next.new.self) (next.Failed c.in-Failed.error) (changes_of c.fail.new.self) c.fail.result c.requires.follows c.requires.none_left c.requires.built polled.1 (fail_with (changes_of c.args.self.now) (changes_of (record c.args.self.now { batches = c.poll_next.new.self })) (client_of c.poll_next.new.self) c.in-Failed.error (changes_of c.fail.new.self) c.fail.result (batches_saved c.args.self.now c.poll_next.new.self (poll_saves (g.L.Link.awaited c.args.link.now) (g.L.Link.awaited c.poll_next.new.link) (g.L.Link.log c.args.link.now) (g.L.Link.log c.poll_next.new.link) (g.L.Link.wire c.args.link.now) (g.H.ClientSessionHandle.asked c.args.handle.now) c.in-Failed.ensures.polls.0 c.args.self.now.token (client_of c.args.self.now.batches) (client_of c.poll_next.new.self) (next.Failed c.in-Failed.error) (λ e. cc) c.requires.built c.requires.saved c.in-Failed.ensures.polls.1)) c.fail.ensures.fails),
      polled.2 ∙ told_times g.H.ClientSessionHandle.told c.args.handle.now polled.0,
    )

pub returns-in-Failed-clause-placed : goal.returns-in-Failed-clause-placed
returns-in-Failed-clause-placed g c = placed_saved c.fail.new.self (c.fail.ensures.place ∙ saved_is c.args.self.now.token (poll_saves (g.L.Link.awaited c.args.link.now) (g.L.Link.awaited c.poll_next.new.link) (g.L.Link.log c.args.link.now) (g.L.Link.log c.poll_next.new.link) (g.L.Link.wire c.args.link.now) (g.H.ClientSessionHandle.asked c.args.handle.now) c.in-Failed.ensures.polls.0 c.args.self.now.token (client_of c.args.self.now.batches) (client_of c.poll_next.new.self) (next.Failed c.in-Failed.error) (λ e. cc) c.requires.built c.requires.saved c.in-Failed.ensures.polls.1))

pub returns-in-Failed-clause-owned : goal.returns-in-Failed-clause-owned
returns-in-Failed-clause-owned g c = owns_still c.args.self.now.token c.fail.new.self.token c.fail.ensures.place

pub returns-in-Failed-clause-falls : goal.returns-in-Failed-clause-falls
returns-in-Failed-clause-falls g c = fails_fall (changes_of (record c.args.self.now { batches = c.poll_next.new.self })) (client_of c.poll_next.new.self) c.in-Failed.error (changes_of c.fail.new.self) c.fail.result c.fail.ensures.fails
