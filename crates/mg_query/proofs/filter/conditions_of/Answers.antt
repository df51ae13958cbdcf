use Rattle.std.proofs.Common.{◌∷◌, [], map, option_map, ap, ◌∙◌, sym}
use Rattle.std.proofs.lemmas.List.{map-append}
use Rattle.mg_bson.specs.Raw.{fields, fields_left}
use Rattle.mg_bson.specs.RawView.{value}
use Rattle.mg_server.specs.Filter.{conditions_of}
use Rattle.mg_query.specs.Asking.{held, keyed}
use Rattle.mg_query.proofs.Conditions.{conditions_stop, conditions_more}
use Rattle.mg_query.proofs.filter.conditions_of.Goals as goal

pub returns-in_default-2 : goal.returns-in_default-2
returns-in_default-2 c =
    conditions_stop (fields_left c.fields.left) (fields_left c.next.new.self) c.in-Some.name.now (value c.in-Some.found) (map held c.fields.conditions.items) (option_map (map keyed) (conditions_of (fields c.args.filter.now))) c.in-Some.ensures
    (ap (option_map held) (sym c.in_default-2.is) ∙ c.in_ok-condition.ensures) c.fields.invariant

pub fields-preserved : goal.fields-preserved
fields-preserved c =
    conditions_more (fields_left c.fields.left) (fields_left c.next.new.self) c.in-Some.name.now (value c.in-Some.found) (map held c.fields.conditions.items) (map held c.push.new.self.items) (held c.in-Some-2.condition) (option_map (map keyed) (conditions_of (fields c.args.filter.now))) c.in-Some.ensures
    (ap (option_map held) (sym c.in-Some-2.is) ∙ c.in_ok-condition.ensures) (ap (map held) c.in_ok-push.ensures.items ∙ map-append held c.fields.conditions.items (c.in-Some-2.condition ∷ [])) c.fields.invariant
