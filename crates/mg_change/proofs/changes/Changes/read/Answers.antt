use Rattle.std.proofs.Common.{refl}
use Rattle.mg_change.specs.Steps.{broke, gave}
use Rattle.mg_change.specs.StreamCalls.{steps_left}
use Rattle.mg_change.specs.StreamView.{changes_of, doing_of}
use Rattle.mg_change.specs.declared.event_poll.Stepped.TheVariants as stepped
use Rattle.mg_change.proofs.Parts.{owing_falls, replaced_falls}
use Rattle.mg_change.proofs.changes.Changes.read.Goals as goal

pub replace-requires-clause-saved : goal.replace-requires-clause-saved
replace-requires-clause-saved c = c.requires.saved

pub replace-requires-clause-none_left : goal.replace-requires-clause-none_left
replace-requires-clause-none_left c = c.requires.none_left

pub replace-requires-clause-quiet : goal.replace-requires-clause-quiet
replace-requires-clause-quiet c = c.requires.quiet

pub returns-in-Ok-clause-reads : goal.returns-in-Ok-clause-reads
returns-in-Ok-clause-reads c = gave _ c.in-Ok.ensures.ok c.replace.ensures.replaces refl

pub returns-in-Ok-clause-falls : goal.returns-in-Ok-clause-falls
returns-in-Ok-clause-falls c = replaced_falls (changes_of c.args.self.now) c.args.reply (changes_of c.replace.new.self) stepped.Goes (returns-in-Ok-clause-reads c)

pub returns-in-Ok-clause-place : goal.returns-in-Ok-clause-place
returns-in-Ok-clause-place c = c.replace.ensures.place

pub returns-in-Err-clause-reads : goal.returns-in-Err-clause-reads
returns-in-Err-clause-reads c = broke c.in-Err.error c.in-Err.ensures.err c.fail_resumption.ensures.phase c.fail_resumption.ensures.fails

pub returns-in-Err-clause-falls : goal.returns-in-Err-clause-falls
returns-in-Err-clause-falls c = owing_falls c.fail_resumption.result c.in-Err.error 2 (steps_left (doing_of c.fail_resumption.new.self.phase)) c.fail_resumption.ensures.fails
