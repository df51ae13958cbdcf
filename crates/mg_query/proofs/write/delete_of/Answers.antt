use Rattle.std.proofs.Common.{Option, map, option_map, sym, ap, ◌∙◌}
use Rattle.mg_bson.specs.Raw.{fields}
use Rattle.mg_query.specs.Asking.{held}
use Rattle.mg_query.specs.Wanted.{Deleting, lent_deleting, wanted}
use Rattle.mg_query.proofs.Modifying.{delete_asked, deleted_by, delete_unfiltered, delete_some}
use Rattle.mg_query.proofs.write.delete_of.Goals as goal

pub returns-in_default : goal.returns-in_default
returns-in_default c = ap (λ (o : Option Deleting). option_map wanted (deleted_by o)) c.in_default.ensures ∙ ap (option_map wanted) (sym (delete_asked (fields c.args.command.now)))

pub returns-in-None : goal.returns-in-None
returns-in-None c = delete_unfiltered (fields c.args.command.now) (lent_deleting c.in-Some.deleting) c.in-Some.ensures (ap (option_map (λ v. map held v.items)) (sym c.in-None.is) ∙ c.in_ok-filter.ensures)

pub returns-in-Some-2 : goal.returns-in-Some-2
returns-in-Some-2 c = delete_some (fields c.args.command.now) (lent_deleting c.in-Some.deleting) (map held c.in-Some-2.filter.items) c.in-Some.ensures (ap (option_map (λ v. map held v.items)) (sym c.in-Some-2.is) ∙ c.in_ok-filter.ensures)
