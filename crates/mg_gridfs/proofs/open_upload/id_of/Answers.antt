use Rattle.std.proofs.Common.{◌≡◌, ◌+◌, Option, sym, ap, ◌∙◌, subst, arith}
use Rattle.std.specs.Prelude.{option_map}
use Rattle.mg_bson.specs.Tree.{object_id}
use Rattle.mg_bson.specs.View.{tree}
use Rattle.mg_ops.specs.Drawn.{AreLater, one_unless_there}
use Rattle.mg_ops.proofs.Drawn.{later_same}
use Rattle.mg_bson.specs.declared.tree.Bson.{Bson}
use Rattle.mg_gridfs.specs.Uploads.{id_by}
use Rattle.mg_gridfs.proofs.open_upload.id_of.Goals as goal

pub returns-in-Some-clause-given : goal.returns-in-Some-clause-given
returns-in-Some-clause-given g c = sym (ap (λ (o : Option Bson). id_by (option_map tree o) (object_id (g.I.IdSource.ids c.args.ids.now 0))) c.in-Some.is)

pub returns-in-Some-clause-drawn : goal.returns-in-Some-clause-drawn
returns-in-Some-clause-drawn g c = subst (λ (o : Option Bson). AreLater (g.I.IdSource.ids c.args.ids.now) (one_unless_there (option_map tree o)) (g.I.IdSource.ids c.args.ids.now)) (sym c.in-Some.is) (later_same (g.I.IdSource.ids c.args.ids.now))

pub returns-in-None-clause-given : goal.returns-in-None-clause-given
returns-in-None-clause-given g c = ap object_id c.next_id.ensures.id ∙ sym (ap (λ (o : Option Bson). id_by (option_map tree o) (object_id (g.I.IdSource.ids c.args.ids.now 0))) c.in-None.is)

pub returns-in-None-clause-drawn : goal.returns-in-None-clause-drawn
returns-in-None-clause-drawn g c =
    subst (λ (o : Option Bson). AreLater (g.I.IdSource.ids c.args.ids.now) (one_unless_there (option_map tree o)) (g.I.IdSource.ids c.next_id.new.self)) (sym c.in-None.is)
    (λ k. let e : k + 1 ≡ 1 + k = omega arith in c.next_id.ensures.later k ∙ ap (g.I.IdSource.ids c.args.ids.now) e)
