use Rattle.std.proofs.Common.{true, ◌∙◌}
use Rattle.mg_cursor.specs.View.{behind_of}
use Rattle.mg_change.specs.Steps.{broken}
use Rattle.mg_change.specs.StreamView.{changes_of}
use Rattle.mg_change.proofs.Linking.{own_saved, placed_saved, saved_is}
use Rattle.mg_change.proofs.Parts.{broken_owes, filled_so, found_looks, saved_still}
use Rattle.mg_change.proofs.changes.Changes.look_again.Goals as goal

pub found-requires-clause-saved : goal.found-requires-clause-saved
found-requires-clause-saved c = c.requires.saved

pub found-requires-clause-rests : goal.found-requires-clause-rests
found-requires-clause-rests c = c.requires.rests

pub found-requires-clause-follows : goal.found-requires-clause-follows
found-requires-clause-follows c = c.requires.follows

pub returns-in-Ok-clause-looks : goal.returns-in-Ok-clause-looks
returns-in-Ok-clause-looks c =
    found_looks true (changes_of c.args.self.now) (changes_of (record c.args.self.now { buffer = c.fill.new.self })) c.args.batch (behind_of c.fill.new.self) (changes_of c.found.new.self) c.found.result c.in-Ok.ensures.ok (filled_so c.args.self.now c.fill.new.self c.requires.saved c.requires.given c.fill.ensures.before) c.found.ensures.finds

pub returns-in-Err-clause-looks : goal.returns-in-Err-clause-looks
returns-in-Err-clause-looks c =
    broken c.in-Err.error c.in-Err.ensures.err
    (broken_owes (changes_of c.args.self.now) (changes_of (record c.args.self.now { buffer = c.fill.new.self })) (changes_of c.owe.new.self) (behind_of c.fill.new.self) (filled_so c.args.self.now c.fill.new.self c.requires.saved c.requires.given c.fill.ensures.before) c.in-Err.ensures.empty.0 c.owe.ensures.phase) c.owe.ensures.fails

pub returns-in-Err-clause-placed : goal.returns-in-Err-clause-placed
returns-in-Err-clause-placed c = placed_saved c.owe.new.self (c.owe.ensures.place ∙ saved_is c.args.self.now.token c.requires.saved)

pub returns-in-Err-clause-owned : goal.returns-in-Err-clause-owned
returns-in-Err-clause-owned c = own_saved c.owe.new.self.token (saved_still c.args.self.now.token c.owe.new.self.token c.owe.ensures.place c.requires.saved)
