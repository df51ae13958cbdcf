use Rattle.std.proofs.Common.{Option, Some, map, option_map, sym, ap, ◌∙◌}
use Rattle.mg_bson.specs.Raw.{fields}
use Rattle.mg_query.specs.Asking.{held}
use Rattle.mg_query.specs.Wanted.{Updating, lent_updating, wanted}
use Rattle.mg_query.proofs.Modifying.{update_asked, updated_by, update_unfiltered, update_some}
use Rattle.mg_query.proofs.write.update_of.Goals as goal

pub returns-in_default : goal.returns-in_default
returns-in_default c = ap (λ (o : Option Updating). option_map wanted (updated_by o)) c.in_default.ensures ∙ ap (option_map wanted) (sym (update_asked (fields c.args.command.now)))

pub returns : goal.returns
returns c = update_unfiltered (fields c.args.command.now) (lent_updating c.in-Some.updating) c.in-Some.ensures (ap (option_map (λ v. map held v.items)) (sym c.in-None.is) ∙ c.in_ok-filter.ensures)

pub returns-in-Some-2 : goal.returns-in-Some-2
returns-in-Some-2 c =
    ap Some c.update_with.ensures
    ∙ update_some (fields c.args.command.now) (lent_updating c.in-Some.updating) (map held c.in-Some-2.filter.items) c.in-Some.ensures (ap (option_map (λ v. map held v.items)) (sym c.in-Some-2.is) ∙ c.in_ok-filter.ensures)
