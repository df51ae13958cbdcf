use Rattle.std.proofs.Common.{◌≡◌, List, map, ap, sym, ◌∙◌}
use Rattle.std.specs.List.{list_all}
use Rattle.mg_link.specs.Namespace.{space}
use Rattle.mg_server.specs.Query.{index_listed}
use Rattle.mg_server.specs.Rules.{may_stay}
use Rattle.mg_server.specs.State.{Index, indexes_of}
use Rattle.mg_server.specs.Write.{with_indexes}
use Rattle.mg_query.specs.Indexing.{index_held}
use Rattle.mg_store.proofs.Holdings.{indexes_are, indexes_settle, indexes_refused}
use Rattle.mg_store.proofs.Maps.{found_at}
use Rattle.mg_store.proofs.content.Content.answer_create_indexes.Goals as goal

pub returns-then-not-branch : goal.returns-then-not-branch
returns-then-not-branch c s given h =
    let there = indexes_are c.args.self.now s given (space c.args.ns) c.get.result h (c.get.ensures.value ∙ found_at c.args.ns c.args.self.now.collections) in
    let these : map index_held c.in_ok-indexes.indexes.items ≡ with_indexes (indexes_of s (space c.args.ns)) (map index_held c.args.more.now.items) =
    c.in_ok-indexes.ensures ∙ ap (λ (l : List Index). with_indexes l (map index_held c.as_slice.result.now)) there ∙ ap (λ l. with_indexes (indexes_of s (space c.args.ns)) (map index_held l)) c.as_slice.ensures.value in (
      indexes_refused s given (space c.args.ns) (map index_held c.args.more.now.items) (map index_held c.in_ok-indexes.indexes.items) these
          (ap (λ l. list_all (λ (i : Index). may_stay (index_listed i)) (map index_held l)) (sym c.as_slice-2.ensures.value) ∙ sym c.in_ok-all_may_stay.ensures ∙ c.if-not-branch.true),
      tt,
    )

pub returns : goal.returns
returns c s given h =
    let there = indexes_are c.args.self.now s given (space c.args.ns) c.get.result h (c.get.ensures.value ∙ found_at c.args.ns c.args.self.now.collections) in
    let these : map index_held c.in_ok-indexes.indexes.items ≡ with_indexes (indexes_of s (space c.args.ns)) (map index_held c.args.more.now.items) =
    c.in_ok-indexes.ensures ∙ ap (λ (l : List Index). with_indexes l (map index_held c.as_slice.result.now)) there ∙ ap (λ l. with_indexes (indexes_of s (space c.args.ns)) (map index_held l)) c.as_slice.ensures.value in
    indexes_settle s given c.args.ns (map index_held c.args.more.now.items) c.in_ok-indexes.indexes c.in_ok-document.document c.answered.result these
    (ap (λ l. list_all (λ (i : Index). may_stay (index_listed i)) (map index_held l)) (sym c.as_slice-2.ensures.value) ∙ sym c.in_ok-all_may_stay.ensures ∙ c.if-not-branch.false) c.in_ok-document.ensures c.answered.ensures
