use Rattle.mg_bson.specs.Find.{joined}
use Rattle.mg_options.specs.Fields.{fields_in, first_unfit, lines}
use Rattle.mg_options.proofs.Fielding.{field_on, field_end}
use Rattle.mg_options.proofs.field.put_given.Goals as goal

pub loop-field-preserved : goal.loop-field-preserved
loop-field-preserved g c =
    field_on g.V.Print.shown c.args.list.now c.loop-field.field-index c.field-item.result c.loop-field.body c.put.new.body (joined c.args.body.now (fields_in (lines g.V.Print.shown c.args.list.now))) (first_unfit (lines g.V.Print.shown c.args.list.now))
    c.loop-field-test.true c.field-item.is c.in_ok-put.ensures.ok c.in_ok-put.ensures.fits c.loop-field.invariant

pub returns-clause-ok : goal.returns-clause-ok
returns-clause-ok g c =
    field_end g.V.Print.shown c.args.list.now c.loop-field.field-index c.loop-field.body (joined c.args.body.now (fields_in (lines g.V.Print.shown c.args.list.now))) c.loop-field-test.false c.loop-field.invariant.0
