use Rattle.std.proofs.Common.{Some, map, option_map, ap, sym, ◌∙◌}
use Rattle.mg_bson.specs.Raw.{fields}
use Rattle.mg_query.specs.Asking.{held}
use Rattle.mg_query.specs.Wanted.{lent_opening}
use Rattle.mg_query.proofs.Watching.{watch_none, watch_unfiltered, watch_some}
use Rattle.mg_query.proofs.watch.watch_of.Goals as goal

pub returns-in_default : goal.returns-in_default
returns-in_default c = watch_none (fields c.args.command.now) c.in_default.ensures

pub returns : goal.returns
returns c = watch_unfiltered (fields c.args.command.now) (lent_opening c.in-Some.opening) c.in-Some.ensures (ap (option_map (λ v. map held v.items)) (sym c.in-None.is) ∙ c.in_ok-filter.ensures)

pub returns-in-Some-2 : goal.returns-in-Some-2
returns-in-Some-2 c =
    ap Some c.watch_with.ensures
    ∙ watch_some (fields c.args.command.now) (lent_opening c.in-Some.opening) (map held c.in-Some-2.filter.items) c.in-Some.ensures (ap (option_map (λ v. map held v.items)) (sym c.in-Some-2.is) ∙ c.in_ok-filter.ensures)
