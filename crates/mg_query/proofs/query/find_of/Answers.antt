use Rattle.std.proofs.Common.{◌≡◌, IfOk, Option, option_map, subst}
use Rattle.mg_bson.specs.Raw.{fields}
use Rattle.mg_query.specs.Wanted.{Wanted, lent_request}
use Rattle.mg_query.proofs.Planning.{found_is}
use Rattle.mg_query.proofs.query.find_of.Goals as goal

pub returns : goal.returns
returns c = subst (λ (x : Option Wanted). IfOk c.find_parts.result (λ r. option_map lent_request r ≡ x)) (found_is (fields c.args.command.now)) c.find_parts.ensures
