-- A read of a put's check is sent once more behind a first attempt alone that was lost, or refused so.
use Rattle.std.proofs.Common.{◌≡◌, ◌≤◌, ◌&&◌, ℕ, suc, ℤ, Bool, true, false, List, length, Some, refl, sym, ap, ◌∙◌, subst, inl, inr, arith}
use Rattle.mg_bson.specs.Raw.{fields}
use Rattle.mg_bson.specs.Tree.{Fields}
use Rattle.mg_link.specs.Exec.{Attempt, Once, Runs, Sending, Stage, Twice, answered, first, is_repeated, is_retried_attempt, not_sent, second, unsent, waits}
use Rattle.mg_link.specs.Link.{Awaited, LogTold}
use Rattle.mg_link.specs.Log.{Call, Sight, waiting}
use Rattle.mg_link.specs.Retry.{is_retried}
use Rattle.mg_link.specs.declared.action.Step.{Step}
use Rattle.mg_link.proofs.Places.{get_within}
use Rattle.mg_server.specs.Calls.{Flies, Grows, HeardAt, IsRetried, Past, past_of}
use Rattle.mg_server.proofs.Calls.{IsBehind, StandsIn, begun, keeps_longer, keeps_on, log_grows, tried}
use Rattle.mg_server.proofs.Filed.{Grew}
use Rattle.mg_server.proofs.Owners.{same_some}
use Rattle.mg_server.proofs.Pasts.{heard_at_grows, retried_grows}
use Rattle.mg_players.specs.PutChecks.{IsSentAgain, OnlyAgain}
use Rattle.mg_players.proofs.PutChecks.{count_behind, count_of, once_at_most, ran_count}

-- ---- a later time

pub again_grows : (past past' : Past) → Grows past past' → (command : Fields) → IsSentAgain past command → IsSentAgain past' command
again_grows past past' grows command s =
    let k = grows.keeps s.place s.call s.there in
    record { place = s.place; own = grows.own s.place s.call s.there s.own; call = k.0; there = k.1; command_is = ap fields k.2 ∙ s.command_is; behind = retried_grows past past' grows s.place command s.behind }

-- ---- the first attempt

-- it was lost, or refused so
record IsLost (past : Past) (command : Fields) : Type 0 where
  place : ℕ
  seen : Sight
  heard : HeardAt past place command seen
  passes : is_retried seen ≡ true

second_is : (a b : Bool) → (a && b) ≡ true → b ≡ true
second_is true b is = is
second_is false b is = absurd cc

lost_at : (awaited : Awaited) (past : Past) (command : Fields) (Here : ℕ → Type 0) (attempt : Attempt) → is_retried_attempt attempt ≡ true → StandsIn awaited past command Here attempt → IsLost past command
lost_at awaited past command Here not_sent is s = absurd (let bad : false ≡ true = is in cc)
lost_at awaited past command Here (waits ticket) is s = absurd (let bad : false ≡ true = is in cc)
lost_at awaited past command Here (answered seen) is s = record { place = s.0; seen = seen; heard = s.1; passes = is }

lost_by : (awaited : Awaited) (past : Past) (command : Fields) (retries : Bool) (Here : ℕ → Type 0) (stage : Stage) (attempt : Attempt) → is_repeated retries stage attempt ≡ true → StandsIn awaited past command Here attempt → IsLost past command
lost_by awaited past command retries Here unsent attempt is s = lost_at awaited past command Here attempt (second_is retries (is_retried_attempt attempt) is) s
lost_by awaited past command retries Here (first ticket) attempt is s = lost_at awaited past command Here attempt (second_is retries (is_retried_attempt attempt) is) s
lost_by awaited past command retries Here (second ticket) attempt is s = absurd cc

-- ---- a poll

module _ (old new : Awaited) (log log' : LogTold) (wire : ℤ) (s : Sending) (result : Step Sending (List ℕ)) (calls : List Call) (told : log ≡ Some calls) (places : List ℕ) (since : ℕ) (room : since ≤ length calls) (flies : Flies old (past_of places since calls wire) (fields s.command) s.stage) where
  abbrev Before : Past
  Before = past_of places since calls wire

  -- a second attempt that was on its way stands behind such a first one
  was_second : (past' : Past) → Grows Before past' → (stage : Stage) → Flies old Before (fields s.command) stage → (attempt : Attempt) → OnlyAgain past' (fields s.command) (count_behind true stage attempt)
  was_second past' grows unsent out attempt many = absurd (let few = once_at_most attempt in omega (arith, many, few))
  was_second past' grows (first ticket) out attempt many = absurd (omega (arith, many))
  was_second past' grows (second ticket) out attempt many =
      let w = out.1 in
      again_grows Before past' grows (fields s.command) (record { place = out.0; own = w.own; call = w.call; there = w.there; command_is = w.command_is; behind = out.2 })

  -- and so does one that was sent now
  is_second : (past' : Past) (awaited : Awaited) (at : ℕ) → ((place : ℕ) → place ≡ at → IsRetried past' place (fields s.command)) → (attempt : Attempt) → StandsIn awaited past' (fields s.command) (λ place. place ≡ at) attempt → OnlyAgain past' (fields s.command) (suc (count_of attempt))
  is_second past' awaited at behind not_sent stands many = absurd (omega (arith, many))
  is_second past' awaited at behind (waits ticket) stands many =
      let w = stands.1 in
      record { place = stands.0; own = w.own; call = w.call; there = w.there; command_is = w.command_is; behind = behind stands.0 stands.2 }
  is_second past' awaited at behind (answered seen) stands many =
      let h = stands.1 in
      record { place = stands.0; own = h.own; call = h.call; there = h.there; command_is = h.command_is; behind = behind stands.0 stands.2 }

  once_again : (once : Once old new log log' wire s result) → Grew places since calls log' wire (λ past. OnlyAgain past (fields s.command) (count_behind true s.stage once.attempt))
  once_again once =
      let t = tried old new log log' calls told places since wire s.command s.stage once.attempt room flies once.tries in
      (t.calls', t.told, t.keeps, was_second (past_of places since t.calls' wire) (log_grows places since calls t.calls' wire t.keeps) s.stage flies once.attempt)

  twice_again : (twice : Twice old new log log' wire s result) → Grew places since calls log' wire (λ past. OnlyAgain past (fields s.command) (suc (count_of twice.again)))
  twice_again twice =
      let t = tried old twice.between log twice.log_between calls told places since wire s.command s.stage twice.attempt room flies twice.tries in
      let mid : Past = past_of places since t.calls' wire in
      let longer = keeps_longer calls t.calls' t.keeps in
      let room' : since ≤ length t.calls' = omega (arith, room, longer) in
      let r = lost_by twice.between mid (fields s.command) s.retries (IsBehind Before (fields s.command) s.stage) s.stage twice.attempt twice.repeated t.stands in
      let u = begun twice.between new twice.log_between log' t.calls' t.told places since wire s.command twice.again (λ place. place ≡ length t.calls') room' refl twice.begins in
      let past' : Past = past_of places since u.calls' wire in
      let later = log_grows places since t.calls' u.calls' wire u.keeps in
      let answer : r.seen ≡ waiting → ⊥ = λ e. let bad : is_retried waiting ≡ true = sym (ap is_retried e) ∙ r.passes in cc in
      let within = get_within t.calls' r.place r.heard.call r.heard.there in
      let behind : (place : ℕ) → place ≡ length t.calls' → IsRetried past' place (fields s.command)
      = λ place is. record { earlier = r.place; before = omega (arith, is, within); seen = r.seen; heard = heard_at_grows mid past' later r.place (fields s.command) r.seen answer r.heard; passes = r.passes } in
      (u.calls', u.told, keeps_on calls t.calls' u.calls' t.keeps u.keeps, is_second past' new (length t.calls') behind twice.again u.stands)

  ran_again : (runs : Runs old new log log' wire s result) → Grew places since calls log' wire (λ past. OnlyAgain past (fields s.command) (ran_count true old new log log' wire s result runs))
  ran_again (inl once) = once_again once
  ran_again (inr twice) = twice_again twice

-- A poll of a read, with what was sent before, sent it twice behind a first attempt alone that was lost or refused so.
pub again_sent : (old new : Awaited) (log log' : LogTold) (wire : ℤ) (s : Sending) (result : Step Sending (List ℕ)) (command : Fields) → fields s.command ≡ command → (runs : Runs old new log log' wire s result) → (calls : List Call) → log ≡ Some calls → (places : List ℕ) (since : ℕ) → since ≤ length calls → Flies old (past_of places since calls wire) command s.stage → (calls' : List Call) → log' ≡ Some calls'
    → OnlyAgain (past_of places since calls' wire) command (ran_count true old new log log' wire s result runs)
again_sent old new log log' wire s result command is runs calls told places since room flies calls' told' =
    let n = ran_count true old new log log' wire s result runs in
    let g = ran_again old new log log' wire s result calls told places since room (subst (λ (c : Fields). Flies old (past_of places since calls wire) c s.stage) (sym is) flies) runs in
    subst (λ (c : Fields). OnlyAgain (past_of places since calls' wire) c n) is (subst (λ (cs : List Call). OnlyAgain (past_of places since cs wire) (fields s.command) n) (same_some g.0 calls' (sym g.1 ∙ told')) g.3)
