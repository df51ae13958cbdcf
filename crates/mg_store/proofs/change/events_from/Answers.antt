use Rattle.std.proofs.Common.{◌≡◌, ℕ, suc, ◌+◌, ◌-◌, ◌<◌, ◌≤◌, length, drop, false, List, ◌∷◌, sym, ap, ◌∙◌, subst, arith}
use Rattle.std.specs.Prelude.{◌&&◌, nat_lt}
use Rattle.std.proofs.lemmas.Bool.{and_from, and_left, and_right, lt-ltb, le-ltb}
use Rattle.mg_bson.specs.Bytes.{bytes}
use Rattle.mg_bson.specs.Tree.{document}
use Rattle.mg_bson.specs.Find.{with_item}
use Rattle.mg_server.specs.State as state
use Rattle.mg_server.specs.State.{Entry, sees}
use Rattle.mg_query.specs.Selecting.{selecting}
use Rattle.mg_store.specs.Holding.{AreExact, IsWatch, entries_from, entry_at}
use Rattle.mg_store.proofs.Seeing.{selected_watch}
use Rattle.mg_store.proofs.Entries.{length-entries, drop_entry, exact_at}
use Rattle.mg_store.proofs.Batches.{Stands, batch_passes, batch_takes, batch_counted, batch_filled, batch_ended, batch_at_end}
use Rattle.mg_store.proofs.change.events_from.Goals as goal
use Rattle.mg_store.proofs.change.events_from.Goals.{In_ok-sees, then-left-eq0-2, else-left-eq0-2, then-branch+else-left-size+in_ok-event_of+in_ok-put_item+else-is_invalidate, else-left-size-via-then-left-size+else-room-len, else-left-size-via-else-left-size, else-branch}

pub returns-then-left-eq0 : goal.returns-then-left-eq0
returns-then-left-eq0 c w is exact =
    let h = c.loop-place.invariant.1 w is exact in
    let e = batch_counted w (entries_from 0 c.args.changes.now) c.args.from c.args.size c.loop-place.events c.loop-place.behind c.loop-place.room c.loop-place.left c.loop-place.place c.if-left-eq0.true h in
    record { place_is = c.new-then-left-eq0.ensures.place ∙ e.place_is; events_are = c.new-then-left-eq0.ensures.events ∙ e.events_are; ended_is = c.new-then-left-eq0.ensures.ended ∙ e.ended_is }

pub returns : goal.returns
returns c w is exact =
    let h = c.loop-place.invariant.1 w is exact in
    let all : List Entry = entries_from 0 c.args.changes.now in
    let len = length-entries 0 c.args.changes.now in
    elim c.if-left-eq0-2.branch [
      | then-left-eq0-2 v ↦
          let e = batch_counted w all c.args.from c.args.size c.loop-place.events c.loop-place.behind c.loop-place.room c.loop-place.left c.loop-place.place v.if-left-eq0-2.true h in
          record { place_is = c.new-2.ensures.place ∙ v.place-is ∙ e.place_is; events_are = c.new-2.ensures.events ∙ e.events_are; ended_is = c.new-2.ensures.ended ∙ e.ended_is }
      | else-left-eq0-2 v ↦
          let le : length all ≤ c.loop-place.place = omega (arith, len, c.loop-place-test.false) in
          let e = batch_at_end w all c.args.from c.args.size c.loop-place.events c.loop-place.behind c.loop-place.room c.loop-place.left c.loop-place.place le v.if-left-eq0-2.false h in
          record { place_is = c.new-2.ensures.place ∙ v.place-is ∙ sym len ∙ e.place_is; events_are = c.new-2.ensures.events ∙ e.events_are; ended_is = c.new-2.ensures.ended ∙ e.ended_is }
    ]

module _ (c : In_ok-sees) where
  abbrev all : List Entry
  all = entries_from 0 c.args.changes.now

  at : c.loop-place.place < length c.args.changes.now
  at = c.loop-place-test.true

  abbrev e : Entry
  e = entry_at c.loop-place.place c.index-changes-place.result

  here : drop c.loop-place.place all ≡ e ∷ drop (c.loop-place.place + 1) all
  here = drop_entry c.loop-place.place c.args.changes.now c.index-changes-place.result at c.index-changes-place.is

  seen : (w : state.Watch) → IsWatch c.args.watch.now w → c.in_ok-sees.field-0 ≡ sees w e
  seen w is = c.in_ok-sees.ensures w c.loop-place.place (selected_watch c.args.watch.now (selecting c.in_ok-selection.selection) w c.in_ok-selection.ensures is)

  raw : AreExact c.args.changes.now → length c.index-changes-place.result.event ≡ length (bytes e.event)
  raw exact = ap length (exact_at c.loop-place.place c.args.changes.now c.index-changes-place.result at c.index-changes-place.is exact)

pub returns-then-room-len : goal.returns-then-room-len
returns-then-room-len c w is exact =
    let d = (goal.at.returns-then-room-len c).In_ok-sees in
    let len : length c.as_bytes-len.result.now ≡ length (bytes (e d).event) = ap length c.as_bytes-len.ensures ∙ raw d exact in
    let r = batch_filled w (all d) c.args.from c.args.size c.loop-place.events c.loop-place.behind c.loop-place.room c.loop-place.left c.loop-place.place (e d) (here d) (sym (seen d w is) ∙ c.if-branch.true)
    (and_from (nat_lt c.loop-place.left c.args.size) (nat_lt c.loop-place.room (length (bytes (e d).event))) (lt-ltb c.loop-place.left c.args.size c.if-left-size.true) (ap (nat_lt c.loop-place.room) (sym len) ∙ lt-ltb c.loop-place.room (length c.as_bytes-len.result.now) c.if-room-len.true))
    (c.loop-place.invariant.1 w is exact) in
    record { place_is = c.new-then-room-len.ensures.place ∙ r.place_is; events_are = c.new-then-room-len.ensures.events ∙ r.events_are; ended_is = c.new-then-room-len.ensures.ended ∙ r.ended_is }

pub returns-then-is_invalidate : goal.returns-then-is_invalidate
returns-then-is_invalidate c w is exact =
    let d = (goal.at.returns-then-is_invalidate c).In_ok-sees in
    let len : length c.as_bytes-len.result.now ≡ length (bytes (e d).event) = ap length c.as_bytes-len.ensures ∙ raw d exact in
    let fits : (nat_lt c.loop-place.left c.args.size && nat_lt c.loop-place.room (length (bytes (e d).event))) ≡ false =
    elim c.else-left-size.branch [
      | else-left-size-via-then-left-size+else-room-len u ↦ and_right (nat_lt c.loop-place.left c.args.size) (nat_lt c.loop-place.room (length (bytes (e d).event))) (ap (nat_lt c.loop-place.room) (sym len) ∙ le-ltb c.loop-place.room (length c.as_bytes-len.result.now) u.if-room-len.false)
      | else-left-size-via-else-left-size u ↦ and_left (nat_lt c.loop-place.left c.args.size) (nat_lt c.loop-place.room (length (bytes (e d).event))) (le-ltb c.loop-place.left c.args.size u.if-left-size.false)
    ] in
    let left : c.loop-place.left ≡ suc (c.loop-place.left - 1) = omega (arith, c.if-left-eq0.false) in
    let added = c.in_ok-put_item.ensures ∙ ap (with_item c.loop-place.events) c.in_ok-event_of.ensures in
    let r = batch_ended w (all d) c.args.from c.args.size c.loop-place.events _ c.loop-place.behind c.loop-place.room c.loop-place.left c.loop-place.place (c.loop-place.left - 1) (e d) (here d) left (sym (seen d w is) ∙ c.if-branch.true) fits
    (sym c.is_invalidate.ensures ∙ c.if-is_invalidate.true) added (c.loop-place.invariant.1 w is exact) in
    record { place_is = c.new-then-is_invalidate.ensures.place ∙ r.place_is; events_are = c.new-then-is_invalidate.ensures.events ∙ r.events_are; ended_is = c.new-then-is_invalidate.ensures.ended ∙ r.ended_is }

pub loop-place-preserved : goal.loop-place-preserved
loop-place-preserved c =
    let d = (goal.at.loop-place-preserved c).In_ok-sees in
    let le = c.loop-place.invariant.0 in
    elim c.if-branch.branch [
      | then-branch+else-left-size+in_ok-event_of+in_ok-put_item+else-is_invalidate v ↦ (
        omega (arith, v.left-is),
        λ w is exact.
            let len : length v.as_bytes-len.result.now ≡ length (bytes (e d).event) = ap length v.as_bytes-len.ensures ∙ raw d exact in
            let fits : (nat_lt c.loop-place.left c.args.size && nat_lt c.loop-place.room (length (bytes (e d).event))) ≡ false =
            elim v.else-left-size.branch [
              | else-left-size-via-then-left-size+else-room-len u ↦ and_right (nat_lt c.loop-place.left c.args.size) (nat_lt c.loop-place.room (length (bytes (e d).event))) (ap (nat_lt c.loop-place.room) (sym len) ∙ le-ltb c.loop-place.room (length v.as_bytes-len.result.now) u.if-room-len.false)
              | else-left-size-via-else-left-size u ↦ and_left (nat_lt c.loop-place.left c.args.size) (nat_lt c.loop-place.room (length (bytes (e d).event))) (le-ltb c.loop-place.left c.args.size u.if-left-size.false)
            ] in
            let added : c.if-branch.events ≡ with_item c.loop-place.events (document (e d).event) = v.events-is ∙ v.in_ok-put_item.ensures ∙ ap (with_item c.loop-place.events) v.in_ok-event_of.ensures in
            let room : c.if-branch.room ≡ c.loop-place.room - length (bytes (e d).event) = omega (arith, v.room-is, v.saturating_sub-room.ensures, len) in
            subst (λ (p : ℕ). Stands w (all d) c.args.from c.args.size c.if-branch.events p c.if-branch.room c.if-branch.left (c.loop-place.place + 1)) (sym v.behind-is)
            (batch_takes w (all d) c.args.from c.args.size c.loop-place.events c.if-branch.events c.loop-place.behind c.loop-place.room c.loop-place.left c.loop-place.place c.if-branch.room c.if-branch.left (e d) (here d)
            (omega (arith, v.left-is, c.if-left-eq0.false)) le (sym (seen d w is) ∙ v.if-branch.true) fits (sym v.is_invalidate.ensures ∙ v.if-is_invalidate.false) added room (c.loop-place.invariant.1 w is exact)),
      )
      | else-branch v ↦ (
        omega (arith, v.left-is),
        λ w is exact.
            rw (v.events-is, v.behind-is, v.room-is, v.left-is)
            (batch_passes w (all d) c.args.from c.args.size c.loop-place.events c.loop-place.behind c.loop-place.room c.loop-place.left c.loop-place.place (e d) (here d) c.if-left-eq0.false (sym (seen d w is) ∙ v.if-branch.false) (c.loop-place.invariant.1 w is exact)),
      )
    ]
