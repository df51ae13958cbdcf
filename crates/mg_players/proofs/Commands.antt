-- The commands at places of a log that grows.
use Rattle.std.proofs.Common.{◌≡◌, ◌+◌, ◌-◌, ◌<◌, ◌≤◌, ℕ, zero, suc, List, [], ◌∷◌, ◌++◌, length, Some, refl, sym, ap, ap₂, ◌∙◌, subst, append_assoc, arith}
use Rattle.std.specs.Prelude.{slice_get}
use Rattle.mg_bson.specs.Tree.{Fields}
use Rattle.mg_bson.specs.Raw.{fields}
use Rattle.mg_server.specs.Calls.{Keeps}
use Rattle.mg_link.specs.Link.{LogTold}
use Rattle.mg_link.specs.Log.{Call}
use Rattle.mg_server.proofs.Calls.{keeps_longer}
use Rattle.mg_server.proofs.Owners.{same_some}
use Rattle.mg_link.proofs.Places.{get_some}
use Rattle.mg_ops.specs.Logs.{AddsJust, commands_sent}
use Rattle.mg_change.specs.Sent.{Falling, Sent}
use Rattle.mg_change.proofs.Sent.{falling_on}
use Rattle.mg_players.specs.Causes.{AreInLog, FallsAt, command_at, commands_at, places_from, sent_since}

-- ---- places that are below

pub below_more : (places : List ℕ) (n m : ℕ) → n ≤ m → AreInLog n places → AreInLog m places
below_more [] n m room below = tt
below_more (place ∷ places) n m room below = ((let here : place < n = below.0 in omega (arith, room, here)), below_more places n m room below.1)

pub below_both : (places more : List ℕ) (n : ℕ) → AreInLog n places → AreInLog n more → AreInLog n (places ++ more)
below_both [] more n below rest = rest
below_both (place ∷ places) more n below rest = (below.0, below_both places more n below.1 rest)

below_from : (at n : ℕ) → AreInLog (at + n) (places_from at n)
below_from at zero = tt
below_from at (suc n) = let same : suc at + n ≡ at + suc n = omega arith in (omega arith, subst (λ (k : ℕ). AreInLog k (places_from (suc at) n)) same (below_from (suc at) n))

pub below_since : (places : List ℕ) (from upto : ℕ) → from ≤ upto → AreInLog from places → AreInLog upto (sent_since places from upto)
below_since places from upto room below =
    let same : from + (upto - from) ≡ upto = omega (arith, room) in
    below_both places (places_from from (upto - from)) upto (below_more places from upto room below) (subst (λ (k : ℕ). AreInLog k (places_from from (upto - from))) same (below_from from (upto - from)))

-- ---- their commands

pub at_both : (calls : List Call) (places more : List ℕ) → commands_at calls (places ++ more) ≡ commands_at calls places ++ commands_at calls more
at_both calls [] more = refl
at_both calls (place ∷ places) more =
    ap (λ (l : List Fields). command_at (slice_get calls place) ++ l) (at_both calls places more) ∙ sym (append_assoc (command_at (slice_get calls place)) (commands_at calls places) (commands_at calls more))

-- they stay
pub at_kept : (calls calls' : List Call) → Keeps calls calls' → (places : List ℕ) → AreInLog (length calls) places → commands_at calls' places ≡ commands_at calls places
at_kept calls calls' keeps [] below = refl
at_kept calls calls' keeps (place ∷ places) below =
    let there = get_some calls place below.0 in
    let kept = keeps place there.0 there.1 in
    let same : command_at (slice_get calls' place) ≡ command_at (slice_get calls place) = ap command_at kept.1 ∙ ap (λ (command : List ℕ). fields command ∷ []) kept.2 ∙ sym (ap command_at there.1) in
    ap₂ (λ (a b : List Fields). a ++ b) same (at_kept calls calls' keeps places below.1)

at_behind : (call : Call) (calls : List Call) (at n : ℕ) → commands_at (call ∷ calls) (places_from (suc at) n) ≡ commands_at calls (places_from at n)
at_behind call calls at zero = refl
at_behind call calls at (suc n) = ap (λ (l : List Fields). command_at (slice_get calls at) ++ l) (at_behind call calls (suc at) n)

at_all : (calls : List Call) → commands_at calls (places_from 0 (length calls)) ≡ commands_sent calls
at_all [] = refl
at_all (call ∷ calls) = ap (λ (l : List Fields). fields call.command ∷ l) (at_behind call calls 0 (length calls) ∙ at_all calls)

-- what was added stands at the places behind
at_added : (calls calls' : List Call) (more : List Fields) → commands_sent calls' ≡ commands_sent calls ++ more → commands_at calls' (places_from (length calls) (length calls' - length calls)) ≡ more
at_added [] calls' more is = let count : length calls' - 0 ≡ length calls' = omega arith in ap (λ (k : ℕ). commands_at calls' (places_from 0 k)) count ∙ at_all calls' ∙ is
at_added (c ∷ calls) [] more is = absurd cc
at_added (c ∷ calls) (d ∷ calls') more is =
    let rest : commands_sent calls' ≡ commands_sent calls ++ more = cc is in
    let count : length (d ∷ calls') - length (c ∷ calls) ≡ length calls' - length calls = omega arith in
    ap (λ (k : ℕ). commands_at (d ∷ calls') (places_from (suc (length calls)) k)) count ∙ at_behind d calls' (length calls) (length calls' - length calls) ∙ at_added calls calls' more rest

-- Places, and those at which a turn sent these commands.
pub at_since : (calls calls' : List Call) (places : List ℕ) (more : List Fields) → Keeps calls calls' → AreInLog (length calls) places → commands_sent calls' ≡ commands_sent calls ++ more → commands_at calls' (sent_since places (length calls) (length calls')) ≡ commands_at calls places ++ more
at_since calls calls' places more keeps below is =
    at_both calls' places (places_from (length calls) (length calls' - length calls)) ∙ ap₂ (λ (a b : List Fields). a ++ b) (at_kept calls calls' keeps places below) (at_added calls calls' more is)

pub at_sent : (log log' : LogTold) (calls calls' : List Call) (places : List ℕ) (more : List Fields) → log ≡ Some calls → log' ≡ Some calls' → Keeps calls calls' → AreInLog (length calls) places → AddsJust log log' more → commands_at calls' (sent_since places (length calls) (length calls')) ≡ commands_at calls places ++ more
at_sent log log' calls calls' places more told told' keeps below adds =
    let add = adds calls told in
    let is : commands_sent calls' ≡ commands_sent calls ++ more = subst (λ (l : List Call). commands_sent l ≡ commands_sent calls ++ more) (same_some add.0 calls' (sym add.1 ∙ told')) add.2 in
    at_since calls calls' places more keeps below is

-- ---- commands that fall

pub falls_none : (may : ℕ → Fields → Type 0) (calls : List Call) (n m : ℕ) → m ≤ n → FallsAt may calls n [] m
falls_none may calls n m less = record { within = tt; falling = less }

-- they stay
pub falls_later : (may : ℕ → Fields → Type 0) (calls calls' : List Call) (n : ℕ) (places : List ℕ) (m : ℕ) → Keeps calls calls' → FallsAt may calls n places m → FallsAt may calls' n places m
falls_later may calls calls' n places m keeps f =
    record {
      within = below_more places (length calls) (length calls') (keeps_longer calls calls' keeps) f.within;
      falling = subst (λ (l : List Fields). Falling may n l m) (sym (at_kept calls calls' keeps places f.within)) f.falling;
    }

-- Behind them fall those that a poll sent.
pub falls_more : (may : ℕ → Fields → Type 0) (log log' : LogTold) (calls calls' : List Call) (n : ℕ) (places : List ℕ) (k m : ℕ) (commands : List Fields) → log ≡ Some calls → log' ≡ Some calls' → Keeps calls calls' → FallsAt may calls n places k → Sent log log' commands → Falling may k commands m → FallsAt may calls' n (sent_since places (length calls) (length calls')) m
falls_more may log log' calls calls' n places k m commands told told' keeps f sent falling =
    let s = sent calls told in
    let is : commands_sent calls' ≡ commands_sent calls ++ commands = subst (λ (l : List Call). commands_sent l ≡ commands_sent calls ++ commands) (same_some s.0 calls' (sym s.1 ∙ told')) s.2 in
    record {
      within = below_since places (length calls) (length calls') (keeps_longer calls calls' keeps) f.within;
      falling = subst (λ (l : List Fields). Falling may n l m) (sym (at_since calls calls' places commands keeps f.within is)) (falling_on may n (commands_at calls places) k commands m f.falling falling);
    }

-- They fall to fewer places that are left, too.
falling_below : (may : ℕ → Fields → Type 0) (n : ℕ) (commands : List Fields) (m k : ℕ) → k ≤ m → Falling may n commands m → Falling may n commands k
falling_below may n [] m k less falls = let all : m ≤ n = falls in omega (arith, all, less)
falling_below may n (command ∷ commands) m k less falls = (falls.0, falls.1, falls.2, falling_below may falls.0 commands m k less falls.3)

pub falls_below : (may : ℕ → Fields → Type 0) (calls : List Call) (n : ℕ) (places : List ℕ) (m k : ℕ) → k ≤ m → FallsAt may calls n places m → FallsAt may calls n places k
falls_below may calls n places m k less f = record { within = f.within; falling = falling_below may n (commands_at calls places) m k less f.falling }
