use Rattle.std.proofs.Common.{◌≡◌, ℤ, Some, refl, sym, ap, ◌∙◌, subst, to_z, of_z, w64}
use Rattle.std.specs.BTreeMap.{get}
use Rattle.std.specs.Ordering.{int_cmp}
use Rattle.std.proofs.lemmas.Int.{to_z-of_z}
use Rattle.mg_link.specs.Namespace.{space}
use Rattle.mg_server.specs.Rules.{more}
use Rattle.mg_store.specs.Contents.{Settles}
use Rattle.mg_store.proofs.Holdings.{cursor_some, found_held}
use Rattle.mg_store.proofs.content.Content.answer_get_more.Goals as goal

pub returns-in-Found : goal.returns-in-Found
returns-in-Found c s given h =
    let back : to_z w64 (of_z w64 c.args.id) ≡ c.args.id = to_z-of_z w64 c.args.id c.ranges.id in
    let there : get int_cmp c.args.self.now.cursors c.args.id ≡ Some c.in-Some.cursor.now = sym (c.in-Some.ensures.value ∙ ap (get int_cmp c.args.self.now.cursors) back) in
    let held = cursor_some c.args.self.now s given c.args.id c.in-Some.cursor.now h there in
    let stood = found_held s c.args.id c.in-Some.cursor.now c.in-Found.found held c.in-Found.is in
    subst (λ (x : ℤ). Settles s given (more x (space c.args.ns.now) c.args.batch_size) c.more_of_found.result) back (c.more_of_found.ensures s given _ (ap s.cursors back ∙ stood) refl)
