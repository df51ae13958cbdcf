use Rattle.std.specs.BTreeMap.{keys}
use Rattle.mg_query.proofs.Spaces.{spaces_sorted}
use Rattle.mg_query.proofs.listing.collections_listed.Goals as goal

pub returns-clause-ordered : goal.returns-clause-ordered
returns-clause-ordered c = spaces_sorted (keys c.args.collections.now) c.keys-ns-items.ensures.ordered
