use Rattle.std.proofs.Common.{true, refl}
use Rattle.mg_change.proofs.Parts.{any_stream}
use Rattle.mg_change.proofs.stream.ChangeStream.poll_advance_if_any.Goals as goal

pub poll_advance_if_any-requires-clause-held : goal.poll_advance_if_any-requires-clause-held
poll_advance_if_any-requires-clause-held g c = c.requires.held

pub poll_advance_if_any-requires-clause-sound : goal.poll_advance_if_any-requires-clause-sound
poll_advance_if_any-requires-clause-sound g c = any_stream true c.args.self.now.changes c.requires.sound

pub returns-clause-keeps : goal.returns-clause-keeps
returns-clause-keeps g c = c.poll_advance_if_any.ensures.keeps

pub returns-clause-sound : goal.returns-clause-sound
returns-clause-sound g c = c.poll_advance_if_any.ensures.sound true c.requires.sound refl

pub returns-clause-does : goal.returns-clause-does
returns-clause-does g c = let x = c.poll_advance_if_any.ensures.does in (x.0, x.1, x.2)

pub returns-clause-leaves : goal.returns-clause-leaves
returns-clause-leaves g c = c.poll_advance_if_any.ensures.leaves

pub returns-clause-sent : goal.returns-clause-sent
returns-clause-sent g c = c.poll_advance_if_any.ensures.sent

pub returns-clause-caused : goal.returns-clause-caused
returns-clause-caused g c = c.poll_advance_if_any.ensures.caused

pub returns-clause-moved : goal.returns-clause-moved
returns-clause-moved g c = c.poll_advance_if_any.ensures.moved
