use Rattle.std.proofs.Common.{Some, ap, ◌∙◌}
use Rattle.mg_bson.specs.Find.{with_field}
use Rattle.mg_bson.specs.Raw.{fields, fields_left}
use Rattle.mg_bson.specs.RawView.{value}
use Rattle.mg_bson.specs.View.{tree}
use Rattle.mg_server.specs.Write.{with_id}
use Rattle.mg_query.proofs.Modifying.{all_behind, first_passes, other_goes}
use Rattle.mg_query.proofs.modification.with_id.Goals as goal

pub fields-preserved-then-is_first_id : goal.fields-preserved-then-is_first_id
fields-preserved-then-is_first_id c =
    first_passes c.fields.document (fields_left c.fields.left) (fields_left c.next.new.self) (with_id (Some (tree c.args.id)) (fields c.args.new.now)) c.in-Some.name.now (value c.in-Some.found) c.fields.passed c.is_first_id.result c.in-Some.ensures c.is_first_id.ensures
    c.if-is_first_id.true c.fields.invariant

pub fields-preserved : goal.fields-preserved
fields-preserved c =
    other_goes c.fields.document (fields_left c.fields.left) (fields_left c.next.new.self) (with_id (Some (tree c.args.id)) (fields c.args.new.now)) _ c.in-Some.name.now (value c.in-Some.found) c.fields.passed c.is_first_id.result c.in-Some.ensures c.is_first_id.ensures
    c.if-is_first_id.false (c.in_ok-document.ensures ∙ ap (with_field c.fields.document c.in-Some.name.now) c.in_ok-value.ensures) c.fields.invariant

pub returns : goal.returns
returns c = all_behind c.fields.document (fields_left c.fields.left) (with_id (Some (tree c.args.id)) (fields c.args.new.now)) c.fields.passed c.in_default.ensures.0 c.fields.invariant
