use Rattle.std.proofs.Common.{sym, ◌∙◌}
use Rattle.mg_change.proofs.changes.Changes.advance.Goals as goal

pub pass_over-requires-clause-next : goal.pass_over-requires-clause-next
pass_over-requires-clause-next c = c.requires.next

pub pass_over-requires-clause-lacks : goal.pass_over-requires-clause-lacks
pass_over-requires-clause-lacks c = sym c.next_has_token.ensures ∙ c.if-not-next_has_token.true

pub pass_over-requires-clause-placed : goal.pass_over-requires-clause-placed
pass_over-requires-clause-placed c = c.requires.placed

pub give-requires-clause-has : goal.give-requires-clause-has
give-requires-clause-has c = sym c.next_has_token.ensures ∙ c.if-not-next_has_token.false

pub give-requires-clause-rests : goal.give-requires-clause-rests
give-requires-clause-rests c = c.requires.rests

pub give-requires-clause-follows : goal.give-requires-clause-follows
give-requires-clause-follows c = c.requires.follows

pub returns-then-not-next_has_token-clause-err : goal.returns-then-not-next_has_token-clause-err
returns-then-not-next_has_token-clause-err c = c.pass_over.ensures.lacks

pub returns-clause-ok : goal.returns-clause-ok
returns-clause-ok c = (c.give.ensures.gives.0, c.give.ensures.gives.1)
