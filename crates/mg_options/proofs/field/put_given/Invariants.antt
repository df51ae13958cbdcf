use Rattle.std.proofs.Common.{◌≡◌, drop}
use Rattle.mg_bson.specs.Find.{joined}
use Rattle.mg_options.specs.Fields.{fields_in, first_unfit, lines}
use Rattle.mg_options.proofs.field.put_given.Given as goal

abbrev pub invariant-loop-field : goal.invariant-loop-field
invariant-loop-field g l =
    (joined l.body (fields_in (lines g.V.Print.shown (drop l.field-index l.list))) ≡ joined l.fn.body (fields_in (lines g.V.Print.shown l.list)))
    × (first_unfit (lines g.V.Print.shown (drop l.field-index l.list)) ≡ first_unfit (lines g.V.Print.shown l.list))
