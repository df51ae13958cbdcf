use Rattle.std.proofs.Common.{◌≡◌, ◌+◌, List, [], ◌∷◌, ◌++◌, refl, ap, ◌∙◌, subst}
use Rattle.mg_bson.specs.Tree.{Fields}
use Rattle.mg_link.specs.Namespace.{space}
use Rattle.mg_store.specs.Holding.{IsEntryOf}
use Rattle.mg_store.specs.declared.change.ChangeEntry.{ChangeEntry}
use Rattle.mg_store.proofs.Entries.{dropped_held}
use Rattle.mg_store.proofs.change.dropped_entries.Goals as goal

pub returns-clause-these : goal.returns-clause-these
returns-clause-these c =
    let items : c.push-2.new.self.items ≡ c.in_ok-dropped.dropped ∷ c.in_ok-ended.ended ∷ [] = c.in_ok-push-2.ensures.items ∙ ap (λ (l : List ChangeEntry). l ++ c.in_ok-ended.ended ∷ []) (c.in_ok-push.ensures.items ∙ ap (λ (l : List ChangeEntry). l ++ c.in_ok-dropped.dropped ∷ []) c.new-entries.ensures.items) in
    dropped_held c.args.place (c.args.place + 1) (c.args.place + 2) (space c.args.ns.now) c.in_ok-dropped.dropped c.in_ok-ended.ended c.push-2.new.self.items refl refl
    (subst (λ (d : Fields). IsEntryOf (space c.args.ns.now) d c.in_ok-dropped.dropped) c.in_ok-event.ensures c.in_ok-dropped.ensures)
    (subst (λ (d : Fields). IsEntryOf (space c.args.ns.now) d c.in_ok-ended.ended) c.in_ok-event-2.ensures c.in_ok-ended.ensures) items
