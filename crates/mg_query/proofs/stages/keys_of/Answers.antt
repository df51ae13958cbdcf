use Rattle.std.proofs.Common.{◌∷◌, [], map, ap, ◌∙◌, sym}
use Rattle.std.proofs.lemmas.List.{map-append}
use Rattle.mg_bson.specs.Raw.{fields, fields_left}
use Rattle.mg_bson.specs.RawView.{value}
use Rattle.mg_server.specs.Commands.{keys_of}
use Rattle.mg_query.specs.Querying.{held_key}
use Rattle.std.proofs.Common.{option_map}
use Rattle.mg_query.proofs.Staging.{keys_more}
use Rattle.mg_query.proofs.stages.keys_of.Goals as goal

pub fields-preserved : goal.fields-preserved
fields-preserved c =
    keys_more (fields_left c.fields.left) (fields_left c.next.new.self) c.in-Some.name.now (value c.in-Some.found) (map held_key c.fields.keys.items) (map held_key c.push.new.self.items) (held_key c.in-Some-2.key) (keys_of (fields c.args.names.now)) c.in-Some.ensures
    (ap (option_map held_key) (sym c.in-Some-2.is) ∙ c.in_ok-key.ensures) (ap (map held_key) c.in_ok-push.ensures.items ∙ map-append held_key c.fields.keys.items (c.in-Some-2.key ∷ [])) c.fields.invariant
