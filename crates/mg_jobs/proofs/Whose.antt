-- Whose the places of a run's commands are.
use Rattle.std.proofs.Common.{◌≡◌, ◌<◌, ℕ, List, [], length, Some, refl, sym, ap, subst, arith}
use Rattle.std.specs.List.{sum_by}
use Rattle.mg_link.specs.Log.{Call}
use Rattle.mg_server.specs.Owner.{IsOf}
use Rattle.mg_server.proofs.Owners.{same_some}
use Rattle.mg_turns.specs.declared.turned.Turned.{Turned}
use Rattle.mg_players.specs.Causes.{Course, SentIn, course, places_of}
use Rattle.mg_turns.specs.Counts.{StartedBy}
use Rattle.mg_jobs.proofs.PlacesRise.{one_job}
use Rattle.mg_jobs.proofs.Positions.{sent_place}
use Rattle.mg_jobs.proofs.Senders.{turn_of}

module _ (calls : List Call) (order : List ℕ) (notes : List Turned) (abreast : length notes ≡ length order) (started : StartedBy (sum_by (λ (n : Turned). n.started) notes) (Some []) (Some calls)) where
  abbrev turns : Course
  turns = course [] order notes

  -- the turn of a job in which the command at a place was sent
  record TurnAt (place : ℕ) : Type 0 where
    job : ℕ
    done : ℕ
    sent : SentIn (course [] order notes) job done place

  turn_at : (place : ℕ) → place < length calls → TurnAt place
  turn_at place within =
      let all = started [] refl in
      let same : all.0 ≡ calls = same_some all.0 calls (sym all.1) in
      let long = ap length same in
      let count = all.2 in
      let none : sum_by (λ (n : Turned). n.started) [] ≡ 0 = refl in
      let turn = turn_of 0 [] [] order notes place refl abreast (omega (arith, none)) (omega (arith, none, within, long, count)) in
      record { job = turn.0; done = turn.1; sent = turn.2 }

  -- each is a place of some job
  pub whose : (place : ℕ) → place < length calls → (j : ℕ) × IsOf (places_of turns j) place
  whose place within = let t = turn_at place within in (t.job, sent_place turns t.job t.done place t.sent)

  -- what stands at a place of a job was sent in a turn of it
  pub owned : (i place : ℕ) → IsOf (places_of turns i) place → place < length calls → (k : ℕ) × SentIn turns i k place
  owned i place of within =
      let t = turn_at place within in
      let job : i ≡ t.job = one_job turns i t.job place of (sent_place turns t.job t.done place t.sent) in
      (t.done, subst (λ (n : ℕ). SentIn turns n t.done place) (sym job) t.sent)
