use Rattle.std.proofs.Common.{◌≡◌, ◌<◌, ◌++◌, ◌∷◌, [], refl, sym, ◌∙◌, subst, arith}
use Rattle.std.proofs.lemmas.Result.{err_from_is_err_and}
use Rattle.mg_bson.specs.Raw.{fields}
use Rattle.mg_query.specs.Grouping.{AreGrouped, IsGrouped}
use Rattle.mg_query.specs.declared.collection.Collection.{Collection}
use Rattle.mg_query.proofs.Grouping.{grouped_more, grouped_still}
use Rattle.mg_query.proofs.Numbers.{all_same, insert_last, push_keeps, undone}
use Rattle.mg_query.proofs.collection.Collection.push.Goals as goal

pub returns-clause-ok : goal.returns-clause-ok
returns-clause-ok c keeps keyed new exact =
    let old : Collection = c.args.self.now in
    let groups = c.put.new.self in
    let grown : Collection = record old { documents = c.insert.new.self; ids = c.insert-2.new.self; groups = groups; next = c.in-Some.next } in
    let docs : grown.documents.entries ≡ old.documents.entries ++ (old.next, c.args.document) ∷ [] = c.in_ok-insert.ensures.entries ∙ insert_last old.documents.entries old.next c.args.document keeps.below in
    let less : old.next < grown.next = omega arith in
    let is : IsGrouped groups old.next (fields c.args.document) = subst (λ d. IsGrouped groups old.next (fields d)) c.as_raw.ensures c.in_ok-put.ensures.ok in
    let grouped = subst (AreGrouped groups) (sym docs) (grouped_more old.groups groups old.documents.entries old.next c.args.document c.in_ok-put.ensures.kept is keeps.grouped) in
    record {
      keeps = push_keeps old grown c.args.key c.args.document keeps keyed new exact docs c.in-Ok.ensures.updates less c.insert.ensures.ordered grouped;
      documents_are = docs;
      next_is = less;
    }

pub returns-in_default-clause-err : goal.returns-in_default-clause-err
returns-in_default-clause-err c keeps = all_same c.args.self.now c.args.self.now keeps refl refl refl keeps.grouped

pub returns-in_err-put-clause-err : goal.returns-in_err-put-clause-err
returns-in_err-put-clause-err c =
    let p = err_from_is_err_and c.from_residual.result c.from_residual.ensures.1 in
    let old : Collection = c.args.self.now in
    let left : Collection = record old { groups = c.put.new.self } in
    rw p.1 (λ keeps. all_same old left keeps refl refl refl (grouped_still old.groups left.groups old.documents.entries c.in_err-put.ensures.kept keeps.grouped))

pub returns-in_err-insert-clause-err : goal.returns-in_err-insert-clause-err
returns-in_err-insert-clause-err c =
    let p = err_from_is_err_and c.from_residual-in_err-insert.result c.from_residual-in_err-insert.ensures.1 in
    let old : Collection = c.args.self.now in
    let left : Collection = record old { documents = c.insert.new.self; groups = c.put.new.self } in
    rw p.1 (λ keeps. all_same old left keeps c.in_err-insert.ensures.err refl refl (subst (AreGrouped left.groups) (sym c.in_err-insert.ensures.err) (grouped_still old.groups left.groups old.documents.entries c.in_ok-put.ensures.kept keeps.grouped)))

pub returns-in-Err-clause-err : goal.returns-in-Err-clause-err
returns-in-Err-clause-err c keeps =
    let old : Collection = c.args.self.now in
    let left : Collection = record old { documents = c.remove-document.new.self; ids = c.insert-2.new.self; groups = c.put.new.self } in
    undone old left c.insert.new.self c.args.document keeps c.in_ok-insert.ensures.entries c.remove-document.ensures.entries c.in-Err.ensures.err refl (grouped_still old.groups left.groups old.documents.entries c.in_ok-put.ensures.kept keeps.grouped)
