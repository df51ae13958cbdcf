-- What commands that were sent add to a log.
use Rattle.std.proofs.Common.{◌≡◌, ◌≤◌, ◌++◌, ◌∷◌, [], List, length, ℕ, zero, suc, Some, sym, ap, ◌∙◌, subst, arith}
use Rattle.std.specs.Prelude.{slice_get}
use Rattle.mg_bson.specs.Tree.{Fields}
use Rattle.mg_bson.specs.Raw.{fields}
use Rattle.mg_server.specs.Calls.{Keeps, AddsOnly}
use Rattle.mg_link.specs.Link.{LogTold}
use Rattle.mg_link.specs.Log.{Call}
use Rattle.mg_server.proofs.Owners.{same_some}
use Rattle.mg_ops.specs.Logs.{commands_sent}
use Rattle.mg_change.specs.Sent.{Sent}
use Rattle.mg_change.proofs.Such.{AreAll}

-- ---- commands that were sent

all_added : (may : Fields → Type 0) (calls : List Call) (commands : List Fields) → commands_sent calls ≡ commands → AreAll may commands → (place : ℕ) (call : Call) → slice_get calls place ≡ Some call → may (fields call.command)
all_added may [] commands is all place call there = absurd cc
all_added may (c ∷ calls) [] is all place call there = absurd cc
all_added may (c ∷ calls) (command ∷ commands) is all zero call there =
    let first : fields c.command ≡ command = cc is in
    let same : c ≡ call = same_some c call there in
    subst may (sym first ∙ ap (λ (x : Call). fields x.command) same) all.0
all_added may (c ∷ calls) (command ∷ commands) is all (suc place) call there =
    let rest : commands_sent calls ≡ commands = cc is in
    all_added may calls commands rest all.1 place call there

added_behind : (may : Fields → Type 0) (calls calls' : List Call) (commands : List Fields) → commands_sent calls' ≡ commands_sent calls ++ commands → AreAll may commands → (place : ℕ) (call : Call) → length calls ≤ place → slice_get calls' place ≡ Some call → may (fields call.command)
added_behind may [] calls' commands is all place call behind there = all_added may calls' commands is all place call there
added_behind may (c ∷ calls) [] commands is all place call behind there = absurd cc
added_behind may (c ∷ calls) (d ∷ calls') commands is all zero call behind there = absurd (omega arith)
added_behind may (c ∷ calls) (d ∷ calls') commands is all (suc place) call behind there =
    let rest : commands_sent calls' ≡ commands_sent calls ++ commands = cc is in
    added_behind may calls calls' commands rest all place call (omega arith) there

same_log : (log : LogTold) (calls calls' : List Call) → log ≡ Some calls → log ≡ Some calls' → calls ≡ calls'
same_log log calls calls' told told' = same_some calls calls' (sym told ∙ told')

-- where these commands were sent, each of them such a one
pub adds_sent : (may : Fields → Type 0) (log log' : LogTold) (commands : List Fields) → Sent log log' commands → AreAll may commands → (calls calls' : List Call) → log ≡ Some calls → log' ≡ Some calls' → Keeps calls calls' → AddsOnly may calls calls'
adds_sent may log log' commands sent all calls calls' told told' keeps =
    let s = sent calls told in
    let is : commands_sent calls' ≡ commands_sent calls ++ commands = subst (λ (l : List Call). commands_sent l ≡ commands_sent calls ++ commands) (same_log log' s.0 calls' s.1 told') s.2 in
    record { keeps = keeps; added = added_behind may calls calls' commands is all }
