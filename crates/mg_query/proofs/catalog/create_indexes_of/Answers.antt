use Rattle.std.proofs.Common.{Option, List, map, option_map, sym, ap, ◌∙◌}
use Rattle.mg_bson.specs.Raw.{fields}
use Rattle.mg_server.specs.State.{Index}
use Rattle.mg_query.specs.Asking.{lent_space}
use Rattle.mg_query.specs.Indexing.{index_held}
use Rattle.mg_query.specs.Wanted.{Indexing, wanted}
use Rattle.mg_query.proofs.Indexes.{indexes_asked, made_of, made_with}
use Rattle.mg_query.proofs.catalog.create_indexes_of.Goals as goal

pub returns-in_default : goal.returns-in_default
returns-in_default c = ap (λ (o : Option Indexing). option_map wanted (made_of o)) c.in_default.ensures ∙ ap (option_map wanted) (sym (indexes_asked (fields c.args.command.now)))

pub returns-in-Some-2 : goal.returns-in-Some-2
returns-in-Some-2 c =
    ap (λ (o : Option (List Index)). option_map wanted (made_with (lent_space c.in-Some.indexing.space) o)) (ap (option_map (λ v. map index_held v.items)) (sym c.in-Some-2.is) ∙ c.in_ok-indexes.ensures)
    ∙ ap (λ (o : Option Indexing). option_map wanted (made_of o)) c.in-Some.ensures ∙ ap (option_map wanted) (sym (indexes_asked (fields c.args.command.now)))

pub returns-in-None : goal.returns-in-None
returns-in-None c =
    ap (λ (o : Option (List Index)). option_map wanted (made_with (lent_space c.in-Some.indexing.space) o)) (ap (option_map (λ v. map index_held v.items)) (sym c.in-None.is) ∙ c.in_ok-indexes.ensures)
    ∙ ap (λ (o : Option Indexing). option_map wanted (made_of o)) c.in-Some.ensures ∙ ap (option_map wanted) (sym (indexes_asked (fields c.args.command.now)))
