use Rattle.mg_store.proofs.Sending.{are_as_fates, are_placed}
use Rattle.mg_store.proofs.link.MemLink.into_parts.Goals as goal

pub returns-clause-fates : goal.returns-clause-fates
returns-clause-fates c = rw (← c.self.view_is) (are_as_fates _ _ _ _ c.self.invariant)

pub returns-clause-within : goal.returns-clause-within
returns-clause-within c = rw (← c.self.view_is) (are_placed _ _ _ _ c.self.invariant)
