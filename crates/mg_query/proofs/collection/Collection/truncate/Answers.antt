use Rattle.std.proofs.Common.{refl, rules, subst, sym}
use Rattle.std.specs.Prelude.{nat_lt}
use Rattle.std.proofs.lemmas.Map.Made.{filter_same_pairs}
use Rattle.mg_query.specs.Grouping.{AreGrouped}
use Rattle.mg_query.specs.declared.collection.Collection.{Collection}
use Rattle.mg_query.proofs.Grouping.{grouped_cut}
use Rattle.mg_query.proofs.Numbers.{truncate_keeps}
use Rattle.mg_query.proofs.collection.Collection.truncate.Goals as goal

pub returns-clause-documents : goal.returns-clause-documents
returns-clause-documents c = filter_same_pairs _ (λ e. nat_lt e.0 c.args.number) _ (λ k v b w f' t. search rules) c.args.self.now.documents.entries c.retain-2.new.self.entries c.retain-2.ensures.filtered

pub returns-clause-ids : goal.returns-clause-ids
returns-clause-ids c keeps =
    let docs = filter_same_pairs _ (λ e. nat_lt e.0 c.args.number) _ (λ k v b w f' t. search rules) c.args.self.now.documents.entries c.retain-2.new.self.entries c.retain-2.ensures.filtered in
    let ids = filter_same_pairs _ (λ e. nat_lt e.1 c.args.number) _ (λ k v b w f' t. search rules) c.args.self.now.ids.entries c.retain.new.self.entries c.retain.ensures.filtered in
    let left : Collection = record c.args.self.now { documents = c.retain-2.new.self; ids = c.retain.new.self; groups = c.truncate.new.self } in
    truncate_keeps c.args.self.now left c.args.number keeps c.retain.ensures.was_ordered docs ids refl c.retain-2.ensures.ordered
    (subst (AreGrouped left.groups) (sym docs) (grouped_cut c.args.number c.args.self.now.groups left.groups c.args.self.now.documents.entries c.truncate.ensures keeps.grouped))
