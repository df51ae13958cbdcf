use Rattle.std.proofs.Common.{map, sym, ap, subst}
use Rattle.mg_store.specs.Contents.{HasKept}
use Rattle.mg_store.specs.Stored.{kept_of}
use Rattle.mg_store.proofs.Keeping.{keeps_none}
use Rattle.mg_store.proofs.store.Store.new.Goals as goal

pub invariant_of-result : goal.invariant_of-result
invariant_of-result c = subst (HasKept c.new.result) (sym (ap (map kept_of) c.new-2.ensures.items)) (keeps_none c.new.result c.new.ensures.empty)
