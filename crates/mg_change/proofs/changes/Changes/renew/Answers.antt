use Rattle.std.proofs.Common.{ap, ◌∙◌}
use Rattle.mg_cursor.specs.View.{client_of}
use Rattle.mg_change.specs.ClientStreams.{ClientStream}
use Rattle.mg_change.specs.StreamView.{changes_of}
use Rattle.mg_change.proofs.Parts.{batches_saved, look_taken, no_reply, reply_taken, same_reply, taken_rests}
use Rattle.mg_change.proofs.changes.Changes.renew.Goals as goal

pub unreachable-requires : goal.unreachable-requires
unreachable-requires c = no_reply (client_of c.args.self.now.batches).doing c.requires.in_hand c.in-None.ensures.batch

pub look_again-requires-clause-saved : goal.look_again-requires-clause-saved
look_again-requires-clause-saved c = c.requires.saved

pub look_again-requires-clause-rests : goal.look_again-requires-clause-rests
look_again-requires-clause-rests c = taken_rests (client_of c.args.self.now.batches) (client_of c.take_batch.new.self) c.requires.in_hand c.take_batch.ensures.rest

pub look_again-requires-clause-follows : goal.look_again-requires-clause-follows
look_again-requires-clause-follows c = c.requires.follows

pub look_again-requires-clause-given : goal.look_again-requires-clause-given
look_again-requires-clause-given c = ap (λ (s : ClientStream). s.current) (batches_saved c.args.self.now c.take_batch.new.self c.requires.saved) ∙ c.requires.given

pub returns-clause-looks : goal.returns-clause-looks
returns-clause-looks c = λ reply at.
    look_taken (changes_of c.args.self.now) (changes_of (record c.args.self.now { batches = c.take_batch.new.self })) (changes_of c.look_again.new.self) (client_of c.take_batch.new.self) c.in-Some.batch reply c.look_again.result (batches_saved c.args.self.now c.take_batch.new.self c.requires.saved)
    (reply_taken (client_of c.args.self.now.batches) (client_of c.take_batch.new.self) reply at c.take_batch.ensures.rest)
    (same_reply (client_of c.args.self.now.batches) c.in-Some.batch reply c.in-Some.ensures.batch at) c.look_again.ensures.looks
