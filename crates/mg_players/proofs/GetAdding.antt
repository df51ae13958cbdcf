-- Where a get asked for more chunks, it did so in a later log too.
use Rattle.std.proofs.Common.{◌⊎◌, ◌<◌, ◌≤◌, ◌++◌, ◌∷◌, [], ℕ, List, length, sym, ◌∙◌, subst, inl, inr, append-nil, arith}
use Rattle.std.specs.List.{concat}
use Rattle.mg_server.specs.Calls.{AddsOnly, Keeps}
use Rattle.mg_link.specs.Log.{Call}
use Rattle.mg_server.specs.Owner.{IsOf}
use Rattle.mg_server.proofs.Calls.{keeps_longer}
use Rattle.mg_link.proofs.Places.{get_within}
use Rattle.mg_players.specs.Asking.{AllAskOn, AsksOnBy}
use Rattle.mg_players.specs.Causes.{AreInLog, sent_since}
use Rattle.mg_players.specs.Gets.{AsksForMore, GetTask, IsGetCommand, for_more}
use Rattle.mg_players.specs.Plays.{Places, all_places}
use Rattle.mg_players.proofs.GetNewest.{asks_kept}
use Rattle.mg_players.proofs.Telling.{answered_by, going_on, in_either, in_first, in_second, since_is}
use Rattle.mg_players.proofs.Whole.{concat_more, whole_answered, whole_going}

-- a getMore is a command that a get may send
pub adds_more : (g : GetTask) → 0 < g.read → (calls calls' : List Call) → AddsOnly AsksForMore calls calls' → AddsOnly (IsGetCommand g) calls calls'
adds_more g some calls calls' m = record { keeps = m.keeps; added = λ place call behind there. let a = m.added place call behind there in for_more some a.cursor a.space a.asks_so }

-- ---- by its own cursor

-- the places of an opening stand in the log, and so do those of what asked for more
within_log : (n : ℕ) (places : List ℕ) (place : ℕ) → AreInLog n places → IsOf places place → place < n
within_log n [] place all of = absurd of
within_log n (p ∷ places) place all (inl is) = subst (λ (m : ℕ). m < n) is all.0
within_log n (p ∷ places) place all (inr of) = within_log n places place all.1 of

pub all_below : (calls : List Call) (q : Places) → AreInLog (length calls) q.opened → AllAskOn calls (all_places q) (concat q.owns ++ q.now) → (place : ℕ) → IsOf (all_places q) place → place < length calls
all_below calls q opened asks place of = elim (in_either q.opened (concat q.owns ++ q.now) place of) [
  | inl first ↦ within_log (length calls) q.opened place opened first
  | inr more ↦ (let a = asks place more in get_within calls place a.call a.there)
]

pub now_below : (calls : List Call) (places : List ℕ) → AreInLog (length calls) places → (place : ℕ) → IsOf places place → place < length calls
now_below calls places all place of = within_log (length calls) places place all of

module _ (calls calls' : List Call) (keeps : Keeps calls calls') where
  pub asks_later : (all places : List ℕ) → AllAskOn calls all places → AllAskOn calls' all places
  asks_later all places asks place of = asks_kept calls calls' keeps (λ (n : ℕ). IsOf all n) (λ (n : ℕ). IsOf all n) (λ other is. is) place (λ other is less. is) (asks place of)

  -- and so it did at the places that were added
  module _ (q : Places) (mores : (place : ℕ) → length calls ≤ place → place < length calls' → AsksOnBy calls' (λ (n : ℕ). IsOf (sent_since (all_places q) (length calls) (length calls')) n) place) where
    room : length calls ≤ length calls'
    room = keeps_longer calls calls' keeps

    asks_on : (places places' : List ℕ) → ((place : ℕ) → IsOf places' place → IsOf places place ⊎ ((length calls ≤ place) × (place < length calls'))) → AllAskOn calls (all_places q) places → AllAskOn calls' (sent_since (all_places q) (length calls) (length calls')) places'
    asks_on places places' within asks place of = elim (within place of) [
      | inl before ↦
          let a = asks place before in
          let less_than = get_within calls place a.call a.there in
          asks_kept calls calls' keeps (λ (n : ℕ). IsOf (all_places q) n) (λ (n : ℕ). IsOf (sent_since (all_places q) (length calls) (length calls')) n) (λ other is. in_first (all_places q) _ other is) place
          (λ other is less. elim (since_is (all_places q) (length calls) (length calls') other room is) [ inl was ↦ was | inr new ↦ (let low = new.0 in absurd (omega (arith, low, less, less_than))) ]) a
      | inr now ↦ mores place now.0 now.1
    ]

    more_within : (place : ℕ) → IsOf (concat q.owns ++ sent_since q.now (length calls) (length calls')) place → IsOf (concat q.owns ++ q.now) place ⊎ ((length calls ≤ place) × (place < length calls'))
    more_within place of = elim (in_either (concat q.owns) (sent_since q.now (length calls) (length calls')) place of) [
      | inl answered ↦ inl (in_first (concat q.owns) q.now place answered)
      | inr going ↦ elim (since_is q.now (length calls) (length calls') place room going) [ inl before ↦ inl (in_second (concat q.owns) q.now place before) | inr now ↦ inr now ]
    ]

    asks_since : AllAskOn calls (all_places q) (concat q.owns ++ q.now) → AllAskOn calls' (sent_since (all_places q) (length calls) (length calls')) (concat q.owns ++ sent_since q.now (length calls) (length calls'))
    asks_since asks = asks_on (concat q.owns ++ q.now) (concat q.owns ++ sent_since q.now (length calls) (length calls')) more_within asks

    -- as what goes on does so
    pub asks_going : AllAskOn calls (all_places q) (concat q.owns ++ q.now) → AllAskOn calls' (all_places (going_on q (length calls) (length calls'))) (concat (going_on q (length calls) (length calls')).owns ++ (going_on q (length calls) (length calls')).now)
    asks_going asks = subst (λ (all : List ℕ). AllAskOn calls' all (concat q.owns ++ sent_since q.now (length calls) (length calls'))) (sym (whole_going q (length calls) (length calls'))) (asks_since asks)

    -- as a call has ended
    pub asks_answered : AllAskOn calls (all_places q) (concat q.owns ++ q.now) → AllAskOn calls' (all_places (answered_by q (length calls) (length calls'))) (concat (answered_by q (length calls) (length calls')).owns ++ (answered_by q (length calls) (length calls')).now)
    asks_answered asks =
        let own : List ℕ = sent_since q.now (length calls) (length calls') in
        subst (λ (all : List ℕ). AllAskOn calls' all (concat (q.owns ++ own ∷ []) ++ [])) (sym (whole_answered q (length calls) (length calls')))
        (subst (AllAskOn calls' (sent_since (all_places q) (length calls) (length calls'))) (sym (append-nil (concat (q.owns ++ own ∷ [])) ∙ concat_more q.owns own)) (asks_since asks))
