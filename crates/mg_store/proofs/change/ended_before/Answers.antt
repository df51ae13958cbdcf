use Rattle.std.proofs.Common.{◌≡◌, suc, ◌-◌, ◌<◌, length, inl, inr, sym, ◌∙◌, arith}
use Rattle.mg_query.specs.Selecting.{selecting}
use Rattle.mg_store.proofs.Entries.{ended_none}
use Rattle.mg_store.proofs.Seeing.{ended_ok, not_ended}
use Rattle.mg_store.proofs.change.ended_before.Goals as goal

pub returns-then-place-eq0 : goal.returns-then-place-eq0
returns-then-place-eq0 c w is =
    elim c.then-place-eq0.either [
      | inl zero_is ↦ sym (ended_none w c.args.place c.args.changes.now (inl zero_is))
      | inr past ↦ sym (ended_none w c.args.place c.args.changes.now (inr past.1))
    ]

pub returns-in_ok-selection : goal.returns-in_ok-selection
returns-in_ok-selection c =
    let at : c.args.place ≡ suc (c.args.place - 1) = omega (arith, c.if-place-eq0.false) in
    let lt : c.args.place - 1 < length c.args.changes.now = omega (arith, c.if-place-eq0.false, c.if-place-changes.false) in
    ended_ok c.args.watch.now (selecting c.in_ok-selection.selection) c.args.changes.now c.index-changes-place.result c.args.place (c.args.place - 1) c.sees.result c.in_ok-selection.ensures at lt c.index-changes-place.is (sym c.is_invalidate.ensures ∙ c.if-is_invalidate.true) c.sees.ensures

pub returns-else-is_invalidate : goal.returns-else-is_invalidate
returns-else-is_invalidate c w is =
    let at : c.args.place ≡ suc (c.args.place - 1) = omega (arith, c.if-place-eq0.false) in
    let lt : c.args.place - 1 < length c.args.changes.now = omega (arith, c.if-place-eq0.false, c.if-place-changes.false) in
    not_ended w c.args.changes.now c.index-changes-place.result c.args.place (c.args.place - 1) at lt c.index-changes-place.is (sym c.is_invalidate.ensures ∙ c.if-is_invalidate.false)
