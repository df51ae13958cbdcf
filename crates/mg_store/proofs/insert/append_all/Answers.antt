use Rattle.std.proofs.Common.{◌≡◌, ◌+◌, suc, length, true, false, Bool, List, ◌∷◌, Option, sym, ap, ◌∙◌, subst}
use Rattle.mg_bson.specs.Tree.{Fields, Items}
use Rattle.mg_bson.specs.Raw.{items, items_left}
use Rattle.mg_link.specs.Namespace.{space}
use Rattle.mg_server.specs.Rules.{inserting}
use Rattle.mg_query.specs.Asking.{ahead, documents_among}
use Rattle.mg_query.specs.Numbering.{KeepsIdsThere, there}
use Rattle.mg_store.specs.Inserting.{Takes}
use Rattle.mg_store.proofs.Appending.{Going, insert_begins, insert_goes, insert_stops, insert_ends}
use Rattle.mg_store.proofs.insert.append_all.Goals as goal
use Rattle.mg_store.proofs.insert.append_all.Goals.{In_ok-taken, else-ordered-via-then-ordered+else-not-taken, else-ordered-via-else-ordered}

pub documents-init : goal.documents-init
documents-init c keeps =
    let e = c.new-appended.ensures in
    subst (λ (ts : Items). Going (space c.args.ns.now) c.args.ordered c.args.entries 0 (there c.args.collection) c.new-appended.result (documents_among ts) (inserting (space c.args.ns.now) c.args.ordered 0 c.args.entries (there c.args.collection) (documents_among (items c.args.documents.now))))
    (sym c.iter-left.ensures)
    (insert_begins (space c.args.ns.now) c.args.ordered c.args.entries (there c.args.collection) c.new-appended.result (documents_among (items c.args.documents.now)) e.none e.no_entries e.no_errors (e.fits (there c.args.collection)))

module _ (c : In_ok-taken) where
  here : documents_among (items_left c.documents.left) ≡ c.in_ok-document.document ∷ documents_among (items_left c.next.new.self)
  here =
      ap documents_among c.in-Some.ensures ∙ ap (λ (o : Option Fields). ahead o (documents_among (items_left c.next.new.self))) (sym c.in-Some-as_document.ensures)
      ∙ ap (λ (d : Fields). d ∷ documents_among (items_left c.next.new.self)) (sym c.in_ok-document.ensures)

  going : KeepsIdsThere c.args.collection → Going (space c.args.ns.now) c.args.ordered c.args.entries c.documents.index (there c.args.collection) c.documents.appended (c.in_ok-document.document ∷ documents_among (items_left c.next.new.self)) (inserting (space c.args.ns.now) c.args.ordered 0 c.args.entries (there c.args.collection) (documents_among (items c.args.documents.now)))
  going keeps = subst (λ (ds : List Fields). Going (space c.args.ns.now) c.args.ordered c.args.entries c.documents.index (there c.args.collection) c.documents.appended ds (inserting (space c.args.ns.now) c.args.ordered 0 c.args.entries (there c.args.collection) (documents_among (items c.args.documents.now)))) here (c.documents.invariant keeps)

pub returns-then-not-taken : goal.returns-then-not-taken
returns-then-not-taken c keeps =
    let d = (goal.at.returns-then-not-taken c).In_ok-taken in
    let h = going d keeps in
    let got = subst (λ (b : Bool). Takes (there c.args.collection) (suc (c.args.entries + length c.documents.appended.entries.items)) c.documents.index (space c.args.ns.now) c.in_ok-document.document c.documents.appended c.take.new.self b) c.if-not-taken.true (c.in_ok-taken.ensures keeps h.fits) in
    insert_stops (space c.args.ns.now) c.args.ordered c.args.entries c.documents.index (there c.args.collection) c.documents.appended c.take.new.self c.in_ok-document.document (documents_among (items_left c.next.new.self)) _ c.if-ordered.true got h

pub documents-preserved : goal.documents-preserved
documents-preserved c keeps =
    let d = (goal.at.documents-preserved c).In_ok-taken in
    let h = going d keeps in
    let goes_on : c.args.ordered ≡ true → c.in_ok-taken.taken ≡ true = λ is.
    elim c.else-ordered.branch [
      | else-ordered-via-then-ordered+else-not-taken w ↦ w.if-not-taken.false
      | else-ordered-via-else-ordered w ↦ let bad : true ≡ false = sym is ∙ w.if-ordered.false in cc
    ] in
    insert_goes (space c.args.ns.now) c.args.ordered c.in_ok-taken.taken c.args.entries c.documents.index c.in-Some-checked_add.next (there c.args.collection) c.documents.appended c.take.new.self c.in_ok-document.document (documents_among (items_left c.next.new.self)) _ goes_on c.in-Some-checked_add.ensures.1
    (c.in_ok-taken.ensures keeps h.fits) h

pub returns : goal.returns
returns c keeps =
    insert_ends (space c.args.ns.now) c.args.ordered c.args.entries c.documents.index (there c.args.collection) c.documents.appended (documents_among (items_left c.documents.left)) _ (ap documents_among c.in_default.ensures.0) (c.documents.invariant keeps)
