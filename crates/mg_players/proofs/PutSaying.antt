-- What a put says of its commands, as others go on with the log and as it polls.
use Rattle.std.proofs.Common.{◌≡◌, ◌⊎◌, ◌<◌, ◌≤◌, ◌++◌, ℕ, List, length, Some, sym, ap, ◌∙◌, subst, inl, inr, arith}
use Rattle.std.specs.List.{concat}
use Rattle.mg_bson.specs.Tree.{Fields}
use Rattle.mg_server.specs.Calls.{Keeps}
use Rattle.mg_link.specs.Link.{LogTold}
use Rattle.mg_link.specs.Log.{Call}
use Rattle.mg_server.specs.Owner.{IsOf}
use Rattle.mg_server.proofs.Calls.{keeps_longer}
use Rattle.mg_ops.specs.Logs.{AddsJust}
use Rattle.mg_players.specs.Causes.{AreInLog, commands_at, sent_since}
use Rattle.mg_players.specs.Plays.{Places, all_places}
use Rattle.mg_players.specs.Telling.{CallsFollow, PutSaid}
use Rattle.mg_players.proofs.Commands.{at_kept, at_sent, below_more, below_since}
use Rattle.mg_players.proofs.GetAdding.{now_below}
use Rattle.mg_players.proofs.JustGrown.{AreLastOf}
use Rattle.mg_players.proofs.Telling.{going_on, in_either, in_first, in_second, since_is}

-- ---- its places, in their order

-- what its last call sent is among all
now_in_all : (q : Places) (k : ℕ) → IsOf q.now k → IsOf (all_places q) k
now_in_all q k of = in_second q.opened (concat q.owns ++ q.now) k (in_second (concat q.owns) q.now k of)

module _ (calls : List Call) (q : Places) (within : AreInLog (length calls) (all_places q)) (ordered : CallsFollow q) where
  -- and stands behind all else
  pub now_last : AreLastOf q.now (length calls) (all_places q)
  now_last = record { among = now_in_all q; others = others; within = now_below calls (all_places q) within }
    where
      by_calls : (k m : ℕ) → IsOf q.now m → IsOf (concat q.owns) k ⊎ IsOf q.now k → IsOf q.now k ⊎ (k < m)
      by_calls k m now (inl of) = inr (ordered k m (in_second q.opened (concat q.owns) k of) now)
      by_calls k m now (inr of) = inl of

      others : (k m : ℕ) → IsOf (all_places q) k → IsOf q.now m → IsOf q.now k ⊎ (k < m)
      others k m of now = elim (in_either q.opened (concat q.owns ++ q.now) k of) [
        | inl first ↦ inr (ordered k m (in_first q.opened (concat q.owns) k first) now)
        | inr more ↦ by_calls k m now (in_either (concat q.owns) q.now k more)
      ]

  -- so it does behind a poll that leaves it going on
  pub going_ordered : (upto : ℕ) → length calls ≤ upto → CallsFollow (going_on q (length calls) upto)
  going_ordered upto room k m before now = elim (since_is q.now (length calls) upto m room now) [
    | inl of ↦ ordered k m before of
    | inr from ↦ let low = from.0 in let below = now_below calls (all_places q) within k among in omega (arith, low, below)
  ]
    where
      among : IsOf (all_places q) k
      among = elim (in_either q.opened (concat q.owns) k before) [
        | inl first ↦ in_first q.opened (concat q.owns ++ q.now) k first
        | inr of ↦ in_second q.opened (concat q.owns ++ q.now) k (in_first (concat q.owns) q.now k of)
      ]

-- ---- its commands

-- it tells the same of a log that others went on with
pub said_kept : (calls calls' : List Call) (q : Places) (P : List Fields → Type 0) → Keeps calls calls' → PutSaid calls q P → PutSaid calls' q P
said_kept calls calls' q P keeps s = record {
  within = below_more (all_places q) (length calls) (length calls') (keeps_longer calls calls' keeps) s.within;
  ordered = s.ordered;
  sends = subst P (sym (at_kept calls calls' keeps (all_places q) s.within)) s.sends;
}

-- and behind a poll all that it sent by now
pub said_more : (log log' : LogTold) (calls calls' : List Call) (q q' : Places) (P P' : List Fields → Type 0) → log ≡ Some calls → log' ≡ Some calls' → Keeps calls calls' → all_places q' ≡ sent_since (all_places q) (length calls) (length calls') → CallsFollow q' → PutSaid calls q P
    → ((more : List Fields) × AddsJust log log' more × P' (commands_at calls (all_places q) ++ more)) → PutSaid calls' q' P'
said_more log log' calls calls' q q' P P' told told' keeps whole ordered s h =
    let within : AreInLog (length calls') (sent_since (all_places q) (length calls) (length calls')) = below_since (all_places q) (length calls) (length calls') (keeps_longer calls calls' keeps) s.within in
    record {
      within = subst (AreInLog (length calls')) (sym whole) within;
      ordered = ordered;
      sends = subst P' (sym (ap (commands_at calls') whole ∙ at_sent log log' calls calls' (all_places q) h.0 told told' keeps s.within h.1)) h.2;
    }
