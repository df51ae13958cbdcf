use Rattle.std.proofs.Common.{◌≡◌, Some, sym, ap, ◌∙◌}
use Rattle.mg_bson.specs.Tree.{Tree}
use Rattle.mg_bson.specs.View.{tree}
use Rattle.mg_link.specs.Namespace.{space}
use Rattle.mg_server.specs.Rules.{insert_event}
use Rattle.mg_store.proofs.insert.inserted_entry.Goals as goal

pub returns : goal.returns
returns c id there =
    let same : Some id ≡ Some (tree c.in_ok-id.id) = sym there ∙ c.in_ok-id.ensures in
    let these : tree c.in_ok-id.id ≡ id = cc in
    record {
      at_is = c.in_ok-entry.ensures.at_is;
      event_is = c.in_ok-entry.ensures.event_is ∙ c.in_ok-event.ensures ∙ ap (λ (t : Tree). insert_event c.args.place (space c.args.ns.now) t c.args.document) these;
      exact = c.in_ok-entry.ensures.exact;
    }
