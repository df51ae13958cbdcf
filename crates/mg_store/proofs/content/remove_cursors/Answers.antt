use Rattle.std.proofs.Common.{◌≡◌, ℤ, List, ◌<◌, cond, None, length, pos, get_or, ◌∙◌, subst}
use Rattle.std.specs.BTreeMap.{get}
use Rattle.std.specs.Ordering.{int_cmp, is_eq}
use Rattle.mg_store.proofs.Committing.{removed_one}
use Rattle.mg_store.proofs.content.remove_cursors.Goals as goal

pub loop-id-preserved : goal.loop-id-preserved
loop-id-preserved c other =
    let u = subst (λ (l : List ℤ). get int_cmp c.remove-cursor.new.self other ≡ cond (is_eq (int_cmp (get_or l c.loop-id.id-index (pos 0)) other)) None (get int_cmp c.loop-id.cursors other)) c.deref-id-items.ensures.value (c.remove-cursor.ensures.updates.0 other) in
    let lt : c.loop-id.id-index < length c.args.ids.now.items = subst (λ (l : List ℤ). c.loop-id.id-index < length l) c.deref-id-items.ensures.value c.loop-id-test.true in
    removed_one c.args.ids.now.items c.loop-id.id-index other (get int_cmp c.loop-id.cursors other) (get int_cmp c.remove-cursor.new.self other) lt u ∙ c.loop-id.invariant other
