use Rattle.mg_store.proofs.Sending.{honest_aside}
use Rattle.mg_store.proofs.link.aside_over.Goals as goal

pub returns-clause-honest : goal.returns-clause-honest
returns-clause-honest c = honest_aside _ _ _ _ _ _ c.perform.result c.requires.names c.perform.ensures.step c.perform.ensures.err c.requires.honest
