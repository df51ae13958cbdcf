use Rattle.mg_bson.specs.Raw.{fields}
use Rattle.mg_bson.specs.View.{tree}
use Rattle.mg_server.specs.Rules.{set_anew}
use Rattle.mg_query.proofs.Modifying.{anew_ends, anew_goes}
use Rattle.mg_query.proofs.modification.set_anew.Goals as goal

pub fields-preserved : goal.fields-preserved
fields-preserved c =
    anew_goes (fields c.args.document.now) c.fields.anew _ c.fields.left c.next.new.self (set_anew (fields c.args.document.now) c.args.sets.now) c.in-Some.name.now (tree c.in-Some.value.now) c.in-Some.ensures c.in_ok-anew.ensures c.fields.invariant

pub returns : goal.returns
returns c = anew_ends (fields c.args.document.now) c.fields.anew c.fields.left (set_anew (fields c.args.document.now) c.args.sets.now) c.in_default.ensures.0 c.fields.invariant
