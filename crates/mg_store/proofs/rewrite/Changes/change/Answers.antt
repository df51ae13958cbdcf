use Rattle.std.proofs.Common.{◌≡◌, Bool, Ok, true, sym, ap, ap₂, ◌∙◌, subst}
use Rattle.std.specs.Prelude.{◌&&◌}
use Rattle.mg_bson.specs.Bytes.{bytes}
use Rattle.mg_bson.specs.Raw.{fields}
use Rattle.mg_bson.specs.Tree.{Fields}
use Rattle.mg_link.specs.Namespace.{space}
use Rattle.mg_server.specs.Rules.{may_stay}
use Rattle.mg_server.specs.Write.{modified}
use Rattle.mg_query.specs.Modifying.{lent_modification}
use Rattle.mg_store.specs.Rewriting.{GivesEvent}
use Rattle.mg_store.proofs.rewrite.Changes.change.Goals as goal

pub returns : goal.returns
returns c is =
    let made : c.into_parts-made.result.0 ≡ modified (lent_modification c.args.modification.now) (fields c.args.document.now) = c.into_parts-made.ensures.document ∙ is.document_is in
    let encoded : c.into_parts-made.result.1 ≡ bytes c.into_parts-made.result.0 = c.into_parts-made.ensures.encoded ∙ is.encoded_is ∙ ap bytes (sym made) in
    let stays : may_stay (modified (lent_modification c.args.modification.now) (fields c.args.document.now)) ≡ true = ap may_stay (sym made) ∙ sym (c.encoded_may_stay.ensures encoded) ∙ c.if-not-encoded_may_stay.false in
    let event = c.in_ok-event.ensures made in
    let entry = subst (λ (e : Fields). GivesEvent (space c.args.ns.now) e (Ok c.in_ok-entry.entry)) event c.in_ok-entry.ensures in
    record {
      fits = ap₂ (λ (a b : Bool). a && b) stays entry.1;
      document = record { key = c.in_ok-key.key; document = c.into_parts-made.result.1 };
      keyed = c.in_ok-key.ensures;
      made = ap fields c.into_parts-made.ensures.encoded ∙ is.read_back;
      exact = c.into_parts-made.ensures.encoded ∙ is.encoded_is ∙ ap bytes (sym (ap fields c.into_parts-made.ensures.encoded ∙ is.read_back));
      entry = c.in_ok-entry.entry;
      entry_is = entry.0;
      documents_are = c.in_ok-add.ensures.documents;
      entries_are = c.in_ok-add.ensures.entries;
    }
