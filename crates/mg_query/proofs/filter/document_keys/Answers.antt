use Rattle.std.proofs.Common.{◌≡◌, true, false, [], ◌∷◌, map, Option, Some, option_map, sym, ap, ◌∙◌, subst}
use Rattle.std.specs.Prelude.{IfOk}
use Rattle.mg_bson.specs.Tree.{Tree, Items, no_fields, field}
use Rattle.mg_bson.specs.Raw.{fields, fields_left}
use Rattle.mg_bson.specs.RawView.{value}
use Rattle.mg_server.specs.Filter.{document_values, key}
use Rattle.mg_query.specs.Asking.{begins_operator, is_single, keys_of}
use Rattle.mg_query.proofs.Asking.{values_of_many, values_of_operator, values_of_whole}
use Rattle.mg_query.proofs.filter.document_keys.Goals as goal

pub returns-then-not-begins_operator : goal.returns-then-not-begins_operator
returns-then-not-begins_operator c =
    ap Some (c.in_ok-one_key.ensures ∙ ap (λ (t : Tree). key t ∷ []) c.requires)
    ∙ sym (ap (option_map keys_of) (values_of_whole (fields c.args.inner.now) (sym c.begins_operator.ensures ∙ c.if-not-begins_operator.true)))

pub returns-then-not-is_single : goal.returns-then-not-is_single
returns-then-not-is_single c =
    sym (ap (option_map keys_of) (values_of_many (fields c.args.inner.now) (sym c.begins_operator.ensures ∙ c.if-not-begins_operator.false) (sym c.is_single.ensures ∙ c.if-not-is_single.true)))

pub returns-in-Some : goal.returns-in-Some
returns-in-Some c =
    let these : fields c.args.inner.now ≡ field c.in-Some.name.now (value c.in-Some.operand) (fields_left c.next.new.self) = sym c.iter.ensures ∙ c.in-Some.ensures in
    let begins = ap begins_operator (sym these) ∙ sym c.begins_operator.ensures ∙ c.if-not-begins_operator.false in
    let single = ap is_single (sym these) ∙ sym c.is_single.ensures ∙ c.if-not-is_single.false in
    subst (λ (vs : Option Items). IfOk c.operator_keys.result (λ ks. option_map (λ v. map (λ k. k.items) v.items) ks ≡ option_map keys_of vs))
    (sym (ap document_values these ∙ values_of_operator c.in-Some.name.now (value c.in-Some.operand) (fields_left c.next.new.self) begins single)) c.operator_keys.ensures

pub returns-in-None : goal.returns-in-None
returns-in-None c =
    let ends : fields c.args.inner.now ≡ no_fields = sym c.iter.ensures ∙ c.in-None.ensures.0 in
    let bad : true ≡ false = sym (sym c.begins_operator.ensures ∙ c.if-not-begins_operator.false) ∙ ap begins_operator ends in
    absurd cc
