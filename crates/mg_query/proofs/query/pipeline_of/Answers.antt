use Rattle.std.proofs.Common.{◌≡◌, IfOk, Option, option_map, subst}
use Rattle.mg_bson.specs.Raw.{fields}
use Rattle.mg_query.specs.Wanted.{Wanted, lent_request}
use Rattle.mg_query.proofs.Planning.{piped_is}
use Rattle.mg_query.proofs.query.pipeline_of.Goals as goal

pub returns : goal.returns
returns c = subst (λ (x : Option Wanted). IfOk c.pipeline_parts.result (λ r. option_map lent_request r ≡ x)) (piped_is (fields c.args.command.now)) c.pipeline_parts.ensures
