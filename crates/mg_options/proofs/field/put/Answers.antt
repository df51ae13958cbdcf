use Rattle.std.proofs.Common.{Option, ap, ◌∙◌, option_map}
use Rattle.mg_bson.specs.View.{tree}
use Rattle.mg_bson.specs.declared.tree.Bson.{Bson}
use Rattle.mg_options.specs.Fields.{given}
use Rattle.mg_options.proofs.Fielding.{put_none, put_some}
use Rattle.mg_options.proofs.field.put.Goals as goal

pub returns-in_ok-append-in-Some-clause-ok : goal.returns-in_ok-append-in-Some-clause-ok
returns-in_ok-append-in-Some-clause-ok g c =
    put_some c.args.body.now c.append.new.self c.args.name.now (g.V.Print.shown c.args.value.now) (tree c.in-Some.value)
    (c.in_ok-value.ensures.ok ∙ ap (λ (v : Option Bson). given (option_map tree v)) c.in-Some.is) c.in_ok-append-in-Some.ensures.ok

pub returns-in-None-clause-ok : goal.returns-in-None-clause-ok
returns-in-None-clause-ok g c =
    put_none c.args.body.now c.args.name.now (g.V.Print.shown c.args.value.now) (c.in_ok-value.ensures.ok ∙ ap (λ (v : Option Bson). given (option_map tree v)) c.in-None.is)
