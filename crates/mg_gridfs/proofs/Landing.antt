-- What is left of a request that is given up.
use Rattle.std.proofs.Common.{◌≡◌, ℕ, List, Option, Some, None, sym, subst}
use Rattle.std.specs.Prelude.{option_map}
use Rattle.mg_link.specs.Acts.{ticket_after}
use Rattle.mg_link.specs.Exec.{Sending, ticket_of}
use Rattle.mg_link.specs.Moment.{LinkKeeps, Moment, step_ending}
use Rattle.mg_link.specs.declared.action.Step.{Step}
use Rattle.mg_link.specs.declared.action.Step.TheVariants as came
use Rattle.mg_gridfs.specs.Buckets.{ClientBucket}
use Rattle.mg_gridfs.specs.Checks.{ClientCheck, IsFreeCheck, IsSoundCheck, creates, finds, indexes, landed_ticket, landing_ending, lists, reads, still_of}
use Rattle.mg_gridfs.specs.Uploads.{ClientUpload, Flight, IsFlight, IsFreeFlight, by_check, by_command, left_ticket}
use Rattle.mg_gridfs.proofs.Stepping.{keeps_end}

module _ (m m' : Moment) (t : Option ℕ) where
  check_left : (o : Option ClientCheck) → LinkKeeps m m' t (landed_ticket o) (landing_ending o) → LinkKeeps m m' t (left_ticket (option_map by_check o)) (landing_ending (option_map by_check o))
  check_left None k = k
  check_left (Some c) k = k

  pub keeps_check_left : (o : Option ClientCheck) (left : Option Flight) → left ≡ option_map by_check o → LinkKeeps m m' t (landed_ticket o) (landing_ending o) → LinkKeeps m m' t (left_ticket left) (landing_ending left)
  keeps_check_left o left is k = subst (λ (x : Option Flight). LinkKeeps m m' t (left_ticket x) (landing_ending x)) (sym is) (check_left o k)

  command_left : (p : Step Sending (List ℕ)) → LinkKeeps m m' t (ticket_after ticket_of p) (step_ending p) → LinkKeeps m m' t (left_ticket (option_map by_command (still_of p))) (landing_ending (option_map by_command (still_of p)))
  command_left (came.Pending s) k = k
  command_left (came.Done reply) k = k
  command_left (came.Failed e) k = keeps_end m m' t None e k

  pub keeps_command_left : (p : Step Sending (List ℕ)) (left : Option Flight) → left ≡ option_map by_command (still_of p) → LinkKeeps m m' t (ticket_after ticket_of p) (step_ending p) → LinkKeeps m m' t (left_ticket left) (landing_ending left)
  keeps_command_left p left is k = subst (λ (x : Option Flight). LinkKeeps m m' t (left_ticket x) (landing_ending x)) (sym is) (command_left p k)

  -- the same of a request of a check
  asked_left : (next : Sending → ClientCheck) → ((s : Sending) → landed_ticket (Some (next s)) ≡ ticket_of s) → (p : Step Sending (List ℕ)) → LinkKeeps m m' t (ticket_after ticket_of p) (step_ending p) → LinkKeeps m m' t (landed_ticket (option_map next (still_of p))) (landing_ending (option_map next (still_of p)))
  asked_left next ticket (came.Pending s) k = subst (λ (x : Option ℕ). LinkKeeps m m' t x (landing_ending (Some (next s)))) (sym (ticket s)) k
  asked_left next ticket (came.Done reply) k = k
  asked_left next ticket (came.Failed e) k = keeps_end m m' t None e k

  pub keeps_asked_left : (next : Sending → ClientCheck) → ((s : Sending) → landed_ticket (Some (next s)) ≡ ticket_of s) → (p : Step Sending (List ℕ)) (left : Option ClientCheck) → left ≡ option_map next (still_of p) → LinkKeeps m m' t (ticket_after ticket_of p) (step_ending p) → LinkKeeps m m' t (landed_ticket left) (landing_ending left)
  keeps_asked_left next ticket p left is k = subst (λ (x : Option ClientCheck). LinkKeeps m m' t (landed_ticket x) (landing_ending x)) (sym is) (asked_left next ticket p k)

-- ---- a list that is given up

check_free : (b : ClientBucket) (c : ClientCheck) → IsSoundCheck b c → IsFreeCheck c
check_free b (finds s) sound = tt
check_free b (creates at s) sound = tt
check_free b (lists at s) sound = tt
check_free b (reads at d found count) sound = sound.2
check_free b (indexes at s) sound = tt

pub flight_free : (u : ClientUpload) (flight : Flight) → IsFlight u flight → IsFreeFlight flight
flight_free u (by_check c) sound = check_free u.aim.bucket c sound
flight_free u (by_command s) sound = tt
