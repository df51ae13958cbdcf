use Rattle.std.proofs.Common.{◌≡◌, IfOk, Option, option_map, subst}
use Rattle.mg_bson.specs.Raw.{fields}
use Rattle.mg_query.specs.Wanted.{Wanted, lent_request}
use Rattle.mg_query.proofs.Planning.{listed_is}
use Rattle.mg_query.proofs.catalog.list_collections_of.Goals as goal

pub returns : goal.returns
returns c = subst (λ (x : Option Wanted). IfOk c.list_collections_parts.result (λ r. option_map lent_request r ≡ x)) (listed_is (fields c.args.command.now)) c.list_collections_parts.ensures
