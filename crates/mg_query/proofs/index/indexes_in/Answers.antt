use Rattle.std.proofs.Common.{◌∷◌, [], map, option_map, ap, ◌∙◌, sym}
use Rattle.std.proofs.lemmas.List.{map-append}
use Rattle.mg_bson.specs.Raw.{items, items_left}
use Rattle.mg_bson.specs.RawView.{value}
use Rattle.mg_query.specs.Indexing.{index_held, indexes_among}
use Rattle.mg_query.proofs.Indexes.{behind_none, indexes_stop, indexes_more, indexes_end}
use Rattle.mg_query.proofs.index.indexes_in.Goals as goal

pub items-init : goal.items-init
items-init c = behind_none _ _ (ap (map index_held) c.new-indexes.ensures.items) ∙ ap indexes_among c.iter-left.ensures

pub returns-in_default-2 : goal.returns-in_default-2
returns-in_default-2 c =
    indexes_stop (items_left c.items.left) (items_left c.next.new.self) (value c.in-Some.item) (map index_held c.items.indexes.items) (indexes_among (items c.args.array.now)) c.in-Some.ensures
    (ap (option_map index_held) (sym c.in_default-2.is) ∙ c.in_ok-index.ensures) c.items.invariant

pub items-preserved : goal.items-preserved
items-preserved c =
    indexes_more (items_left c.items.left) (items_left c.next.new.self) (value c.in-Some.item) (map index_held c.items.indexes.items) (map index_held c.push.new.self.items) (index_held c.in-Some-2.index) (indexes_among (items c.args.array.now)) c.in-Some.ensures
    (ap (option_map index_held) (sym c.in-Some-2.is) ∙ c.in_ok-index.ensures) (ap (map index_held) c.in_ok-push.ensures.items ∙ map-append index_held c.items.indexes.items (c.in-Some-2.index ∷ [])) c.items.invariant

pub returns : goal.returns
returns c = indexes_end (items_left c.items.left) (map index_held c.items.indexes.items) (indexes_among (items c.args.array.now)) c.in_default.ensures.0 c.items.invariant
