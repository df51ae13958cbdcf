use Rattle.std.proofs.Common.{List, ◌++◌, refl, ap, ◌∙◌}
use Rattle.mg_store.specs.declared.change.ChangeEntry.{ChangeEntry}
use Rattle.mg_store.proofs.Committing.{does_drop}
use Rattle.mg_store.proofs.Maps.{collections_without}
use Rattle.mg_store.proofs.content.Content.take_out.Goals as goal

pub returns-clause-ok : goal.returns-clause-ok
returns-clause-ok c s given s' given' h leads =
    does_drop c.args.self.now _ s s' given given' c.args.ns c.args.entries h leads (collections_without c.args.ns c.args.self.now.collections c.remove-dropped.new.self c.remove-dropped.ensures.updates)
    (c.append_reserved.ensures ∙ ap (λ (l : List ChangeEntry). l ++ c.args.entries.items) c.in_ok-reserve.ensures.items) refl refl
