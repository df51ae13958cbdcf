use Rattle.std.proofs.Common.{◌≡◌, ℕ, ◌+◌, ◌≤◌, length, drop, List, ap, ap₂, ◌∙◌, arith, rules}
use Rattle.std.proofs.lemmas.List.{drop_all}
use Rattle.mg_bson.specs.Tree.{timestamp}
use Rattle.mg_server.specs.Rules.{now_of, seconds_of}
use Rattle.mg_server.specs.State.{Entry, count_before, time_of}
use Rattle.mg_store.specs.Holding.{entries_from}
use Rattle.mg_store.proofs.Entries.{counted_at, length-entries}
use Rattle.mg_store.proofs.change.count_before.Goals as goal
use Rattle.mg_store.proofs.change.count_before.Goals.{then-number_of-bound, else-number_of-bound}

pub loop-place-init : goal.loop-place-init
loop-place-init c = (omega arith, omega arith)

pub overflow_add-below : goal.overflow_add-below
overflow_add-below c = search rules

pub loop-place-preserved : goal.loop-place-preserved
loop-place-preserved c =
    let place : ℕ = c.loop-place.place in
    let stamp : timestamp c.time.result.time c.time.result.increment ≡ timestamp (seconds_of (place + 1)) 1 = c.time.ensures in
    let seconds : c.time.result.time ≡ seconds_of (place + 1) = cc in
    let one : c.time.result.increment ≡ 1 = cc in
    let now : c.number_of.result ≡ now_of (place + 1) = c.number_of.ensures ∙ ap₂ time_of seconds one in
    let step = counted_at c.number_of-bound.result place c.loop-place.below (count_before c.number_of-bound.result (entries_from 0 c.args.changes.now)) c.number_of.result c.args.changes.now c.loop-place-test.true now c.loop-place.invariant.1 in
    elim c.if-number_of-bound.branch [
      | then-number_of-bound v ↦ (omega (arith, v.below-is, c.loop-place.invariant.0), rw v.below-is (step.0 v.if-number_of-bound.true))
      | else-number_of-bound v ↦ (omega (arith, v.below-is, c.loop-place.invariant.0), rw v.below-is (step.1 v.if-number_of-bound.false))
    ]

pub returns : goal.returns
returns c =
    let all : List Entry = entries_from 0 c.args.changes.now in
    let le : length all ≤ c.loop-place.place = omega (arith, length-entries 0 c.args.changes.now, c.loop-place-test.false) in
    let left : count_before c.number_of-bound.result (drop c.loop-place.place all) ≡ 0 = ap (count_before c.number_of-bound.result) (drop_all c.loop-place.place all le) in
    let none : c.loop-place.below ≡ count_before c.number_of-bound.result all = omega (arith, left, c.loop-place.invariant.1) in
    none ∙ ap (λ (n : ℕ). count_before n all) c.number_of-bound.ensures
