use Rattle.std.proofs.Common.{is_some, map, refl, subst, sym, ap, ◌∙◌}
use Rattle.std.specs.Map.{values_of}
use Rattle.mg_bson.specs.Raw.{fields}
use Rattle.mg_query.specs.Collecting.{exchange_document}
use Rattle.mg_query.specs.Grouping.{AreGrouped, IsGrouped}
use Rattle.mg_query.specs.Numbering.{stored}
use Rattle.mg_query.specs.declared.collection.Collection.{Collection}
use Rattle.mg_query.proofs.Changing.{change_keeps, change_stored, none_changes, not_there, numbered_at}
use Rattle.mg_query.proofs.Grouping.{grouped_changed}
use Rattle.mg_query.proofs.Numbers.{same_keeps}
use Rattle.mg_query.proofs.collection.Collection.change.Goals as goal

pub returns-in_default-clause-documents : goal.returns-in_default-clause-documents
returns-in_default-clause-documents c keeps = sym (none_changes c.args.key.now.items (fields c.args.document) (stored c.args.self.now) (sym (keeps.held c.args.key.now) ∙ ap is_some (sym c.in_default.ensures.value)))

pub returns-clause-documents : goal.returns-clause-documents
returns-clause-documents c keeps =
    let new = c.replace-old.new.dest in
    let changed : Collection = record c.args.self.now { documents = c.get_mut.follows.lender new; groups = c.change.new.self } in
    change_stored c.args.self.now changed c.args.key.now c.in-Some.number.now new keeps (sym c.in-Some.ensures.value) (c.get_mut.follows.holds new).0
    ∙ ap (λ d. exchange_document c.args.key.now.items (fields d) (stored c.args.self.now)) c.replace-old.ensures.after

pub returns-clause-ids : goal.returns-clause-ids
returns-clause-ids c keeps keyed exact =
    let new = c.replace-old.new.dest in
    let changed : Collection = record c.args.self.now { documents = c.get_mut.follows.lender new; groups = c.change.new.self } in
    let writes = c.get_mut.follows.holds new in
    change_keeps c.args.self.now changed c.args.key.now c.in-Some.number.now new keeps (sym c.in-Some.ensures.value) writes.0 refl refl (rw c.replace-old.ensures.after keyed) (rw c.replace-old.ensures.after exact) writes.4
    (subst (AreGrouped changed.groups) (sym writes.0) (grouped_changed c.in-Some.number.now new c.args.self.now.groups changed.groups c.args.self.now.documents.entries keeps.sorted c.change.ensures.kept (λ w. rw c.replace-old.ensures.after (subst (λ d. IsGrouped changed.groups c.in-Some.number.now (fields d)) c.as_raw-2.ensures (c.change.ensures.grouped w))) keeps.grouped))

pub returns-in_default-get_mut-clause-documents : goal.returns-in_default-get_mut-clause-documents
returns-in_default-get_mut-clause-documents c keeps =
    let numbered = numbered_at c.args.self.now c.args.key.now c.in-Some.number.now keeps (sym c.in-Some.ensures.value) in
    ap (λ m. map fields (values_of m.entries)) c.get_mut.follows.holds-at-none
    ∙ sym (none_changes c.args.key.now.items (fields c.args.document) (stored c.args.self.now) (not_there c.args.key.now.items c.in-Some.number.now c.args.self.now.documents.entries (sym c.in_default-get_mut.ensures.value) numbered))

pub returns-in_default-get_mut-clause-ids : goal.returns-in_default-get_mut-clause-ids
returns-in_default-get_mut-clause-ids c keeps keyed exact =
    let same : Collection = record c.args.self.now { documents = c.get_mut.follows.lender-at-none } in
    let docs = ap (λ m. m.entries) c.get_mut.follows.holds-at-none in
    same_keeps c.args.self.now same keeps docs refl refl (subst (AreGrouped same.groups) (sym docs) keeps.grouped)
