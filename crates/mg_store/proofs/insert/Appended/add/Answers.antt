use Rattle.std.proofs.Common.{refl, ap, ◌∙◌, cond, true}
use Rattle.std.specs.BTreeSet.{contains}
use Rattle.std.specs.List.{each_same}
use Rattle.std.specs.Str.{bytes_eq}
use Rattle.mg_query.specs.Numbering.{vec_cmp}
use Rattle.mg_query.proofs.Ids.{set_updates}
use Rattle.mg_store.proofs.insert.Appended.add.Goals as goal

pub returns : goal.returns
returns c =
    record {
      documents_are = c.in_ok-push.ensures.items;
      entries_are = c.in_ok-push-2.ensures.items;
      errors_same = refl;
      ids_are = λ other. set_updates c.in_ok-clone.field-0 c.args.self.now.ids c.insert.new.self c.in_ok-insert.ensures.updates other ∙ ap (λ k. cond (bytes_eq k other.items) true (contains vec_cmp c.args.self.now.ids other)) (each_same c.args.key.items c.in_ok-clone.field-0.items c.in_ok-clone.ensures.cases.0);
    }
