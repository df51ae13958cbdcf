use Rattle.std.proofs.Common.{is_some, refl, subst, sym, ap, ◌∙◌}
use Rattle.mg_query.specs.Grouping.{AreGrouped}
use Rattle.mg_query.specs.Numbering.{stored}
use Rattle.mg_query.specs.declared.collection.Collection.{Collection}
use Rattle.mg_query.proofs.Changing.{none_goes, remove_keeps, remove_stored}
use Rattle.mg_query.proofs.Grouping.{grouped_removed, none_taken}
use Rattle.mg_query.proofs.Numbers.{same_keeps}
use Rattle.mg_query.proofs.collection.Collection.remove.Goals as goal

pub returns-in_default-clause-documents : goal.returns-in_default-clause-documents
returns-in_default-clause-documents c keeps = sym (none_goes c.args.key.now.items (stored c.args.self.now) (sym (keeps.held c.args.key.now) ∙ ap is_some (sym c.in_default.ensures.value)))

pub returns-in_default-clause-ids : goal.returns-in_default-clause-ids
returns-in_default-clause-ids c keeps =
    let same : Collection = record c.args.self.now { ids = c.remove.new.self } in
    same_keeps c.args.self.now same keeps refl c.in_default.ensures.unchanged refl keeps.grouped

pub returns-in_default-remove-clause-documents : goal.returns-in_default-remove-clause-documents
returns-in_default-remove-clause-documents c keeps =
    let left : Collection = record c.args.self.now { documents = c.remove-2.new.self; ids = c.remove.new.self } in
    remove_stored c.args.self.now left c.args.key.now c.in-Some.number keeps (sym c.in-Some.ensures.value) c.remove-2.ensures.entries

pub returns-clause-documents : goal.returns-clause-documents
returns-clause-documents c keeps =
    let left : Collection = record c.args.self.now { documents = c.remove-2.new.self; ids = c.remove.new.self; groups = c.take.new.self } in
    remove_stored c.args.self.now left c.args.key.now c.in-Some.number keeps (sym c.in-Some.ensures.value) c.remove-2.ensures.entries

pub returns-in_default-remove-clause-ids : goal.returns-in_default-remove-clause-ids
returns-in_default-remove-clause-ids c keeps =
    let old : Collection = c.args.self.now in
    let left : Collection = record old { documents = c.remove-2.new.self; ids = c.remove.new.self } in
    let out = c.remove-2.ensures.entries in
    remove_keeps old left c.args.key.now c.in-Some.number keeps (sym c.in-Some.ensures.value) out c.in-Some.ensures.updates refl c.remove-2.ensures.ordered
    (subst (AreGrouped old.groups) (sym out) (grouped_removed c.in-Some.number old.groups old.groups old.documents.entries keeps.sorted (none_taken c.in-Some.number old.groups) keeps.grouped))

pub returns-clause-ids : goal.returns-clause-ids
returns-clause-ids c keeps =
    let old : Collection = c.args.self.now in
    let left : Collection = record old { documents = c.remove-2.new.self; ids = c.remove.new.self; groups = c.take.new.self } in
    let out = c.remove-2.ensures.entries in
    remove_keeps old left c.args.key.now c.in-Some.number keeps (sym c.in-Some.ensures.value) out c.in-Some.ensures.updates refl c.remove-2.ensures.ordered
    (subst (AreGrouped left.groups) (sym out) (grouped_removed c.in-Some.number old.groups left.groups old.documents.entries keeps.sorted c.take.ensures keeps.grouped))
