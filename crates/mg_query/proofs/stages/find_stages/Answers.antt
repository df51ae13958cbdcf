use Rattle.std.proofs.Common.{◌≡◌, IfOk, List, Option, Some, map, option_map, ap, subst}
use Rattle.mg_bson.specs.Raw.{fields}
use Rattle.mg_bson.specs.RawView.{value}
use Rattle.mg_query.specs.Querying.{Doing, held_stage, held_stages}
use Rattle.mg_query.proofs.Staging.{find_read}
use Rattle.mg_query.proofs.stages.find_stages.Goals as goal

pub returns : goal.returns
returns c =
    let read = find_read (fields c.args.command.now) (Some (map held_stage c.new.result.items)) (held_stages c.in_ok-stages.stages) (held_stages c.in_ok-stages-2.stages) (held_stages c.in_ok-stages-3.stages) (held_stages c.in_ok-stages-4.stages)
    (option_map value c.get.result) (option_map value c.get-2.result) (option_map value c.get-3.result) (option_map value c.get-4.result) (option_map value c.get-5.result)
    c.get.ensures c.get-2.ensures c.get-3.ensures c.get-4.ensures c.get-5.ensures (ap (λ l. Some (map held_stage l)) c.new.ensures.items) c.in_ok-stages.ensures c.in_ok-stages-2.ensures c.in_ok-stages-3.ensures c.in_ok-stages-4.ensures in
    subst (λ (x : Option (List Doing)). IfOk c.with_optional-5.result (λ r. held_stages r ≡ x)) read c.with_optional-5.ensures
