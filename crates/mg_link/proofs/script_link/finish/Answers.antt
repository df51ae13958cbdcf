use Rattle.mg_link.proofs.Outs.{length-see, commands-see, ends_at, out_within}
use Rattle.mg_link.proofs.script_link.finish.Goals as goal

pub see-requires : goal.see-requires
see-requires c = out_within _ _ c.requires.out

pub returns-clause-ends : goal.returns-clause-ends
returns-clause-ends c = rw c.see.ensures (ends_at _ _ _ c.requires.out c.requires.answer)

pub returns-clause-commands : goal.returns-clause-commands
returns-clause-commands c = rw c.see.ensures (commands-see _ _ _)

pub returns-clause-counted : goal.returns-clause-counted
returns-clause-counted c = rw c.see.ensures (length-see _ _ _)
