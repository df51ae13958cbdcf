-- What polls of a request add to a log.
use Rattle.std.proofs.Common.{◌≡◌, ◌⊎◌, ◌<◌, ◌≤◌, ◌++◌, ◌∷◌, [], List, length, ℕ, zero, suc, ℤ, Option, Some, refl, sym, ap, ◌∙◌, subst, inl, inr, arith}
use Rattle.std.specs.Prelude.{slice_get}
use Rattle.mg_bson.specs.Tree.{Fields}
use Rattle.mg_bson.specs.Raw.{fields}
use Rattle.mg_server.specs.Calls.{AddsOnly, Keeps}
use Rattle.mg_link.specs.Exec.{Attempt, not_sent, waits, answered, Stage, unsent, first, second, Sending, Begins, GoesOn, Runs, Tries}
use Rattle.mg_link.specs.Link.{Awaited, LogTold, Adds, Sees}
use Rattle.mg_link.specs.Log.{Sight, waiting, Call, see}
use Rattle.mg_link.specs.declared.action.Step.{Step}
use Rattle.mg_server.proofs.Calls.{keeps_on, same_keeps, see_keeps}
use Rattle.mg_link.proofs.Outs.{length-see}
use Rattle.mg_server.proofs.Owners.{same_some}
use Rattle.mg_link.proofs.Places.{get_front, get_push, get_some, get_within}

pub adds_none : (may : Fields → Type 0) (calls : List Call) → AddsOnly may calls calls
adds_none may calls = record {
  keeps = same_keeps calls;
  added = λ place call behind there. let within = get_within calls place call there in absurd (omega arith);
}

-- a call that was there has its command still
pub same_command_at : (calls calls' : List Call) (place : ℕ) (call call' : Call) → Keeps calls calls' → slice_get calls place ≡ Some call → slice_get calls' place ≡ Some call' → fields call.command ≡ fields call'.command
same_command_at calls calls' place call call' keeps there there' =
    let k = keeps place call there in
    let same : k.0 ≡ call' = same_some k.0 call' (sym k.1 ∙ there') in
    ap fields (sym k.2 ∙ ap (λ (c : Call). c.command) same)

below_or : (a b : ℕ) → (a < b) ⊎ (b ≤ a)
below_or a zero = inr (omega arith)
below_or zero (suc b) = inl (omega arith)
below_or (suc a) (suc b) = elim (below_or a b) [ inl less ↦ inl (omega (arith, less)) | inr more ↦ inr (omega (arith, more)) ]

pub adds_on : (may : Fields → Type 0) (a b c : List Call) → AddsOnly may a b → AddsOnly may b c → AddsOnly may a c
adds_on may a b c p q = record {
  keeps = keeps_on a b c p.keeps q.keeps;
  added = λ place call behind there. elim (below_or place (length b)) [
    | inl less ↦ let mid = get_some b place less in subst may (same_command_at b c place mid.0 call q.keeps mid.1 there) (p.added place mid.0 behind mid.1)
    | inr more ↦ q.added place call more there
  ];
}

-- ---- a request

adds_call : (may : Fields → Type 0) (calls : List Call) (call : Call) → may (fields call.command) → AddsOnly may calls (calls ++ call ∷ [])
adds_call may calls call is = record {
  keeps = λ place c there. (c, get_front calls (call ∷ []) place c there, refl, λ saw. refl);
  added = λ place c behind there. elim (get_push calls call place c there) [
    | inl old ↦ let within = get_within calls place c old in absurd (omega (arith, behind, within))
    | inr new ↦ subst may (ap (λ (x : Call). fields x.command) new.1) is
  ];
}

adds_seen : (may : Fields → Type 0) (k : ℕ) (seen : Sight) (calls : List Call) (call : Call) → slice_get calls k ≡ Some call → call.seen ≡ waiting → AddsOnly may calls (see k seen calls)
adds_seen may k seen calls call found here = record {
  keeps = see_keeps k seen calls call found here;
  added = λ place c behind there.
      let within = get_within (see k seen calls) place c there in
      let same = length-see k seen calls in
      absurd (omega (arith, behind, within, same));
}

-- the same of logs that are told
abbrev AddsTold : (Fields → Type 0) → LogTold → LogTold → Type 0
AddsTold may log log' = (calls : List Call) → log ≡ Some calls → (calls' : List Call) × (log' ≡ Some calls') × AddsOnly may calls calls'

module _ (may : Fields → Type 0) where
  told_none : (log log' : LogTold) → log' ≡ log → AddsTold may log log'
  told_none log log' same calls told = (calls, same ∙ told, adds_none may calls)

  told_on : (log mid log' : LogTold) → AddsTold may log mid → AddsTold may mid log' → AddsTold may log log'
  told_on log mid log' p q calls told =
      let x = p calls told in
      let y = q x.0 x.1 in
      (y.0, y.1, adds_on may calls x.0 y.0 x.2 y.2)

  told_adds : (log log' : LogTold) (command : List ℕ) (seen : Sight) → may (fields command) → Adds log log' command seen → AddsTold may log log'
  told_adds log log' command seen is adds calls told =
      let add = adds calls told in
      let call : Call = record { command = command; position = add.0; seen = seen } in
      (calls ++ call ∷ [], add.1, adds_call may calls call is)

  told_sees : (log log' : LogTold) (place : Option ℕ) (seen : Sight) → Sees log log' place seen → AddsTold may log log'
  told_sees log log' place seen sees calls told = let s = sees calls told in (see s.0 seen calls, s.5, adds_seen may s.0 seen calls s.1 s.3 s.4)

  told_begun : (old new : Awaited) (log log' : LogTold) (command : List ℕ) (attempt : Attempt) → may (fields command) → Begins old new log log' command attempt → AddsTold may log log'
  told_begun old new log log' command not_sent is b = told_none log log' b.log_same
  told_begun old new log log' command (waits ticket) is b = told_adds log log' command waiting is b.adds
  told_begun old new log log' command (answered seen) is b = told_adds log log' command seen is b.adds

  told_gone_on : (old new : Awaited) (log log' : LogTold) (ticket : ℕ) (attempt : Attempt) → GoesOn old new log log' ticket attempt → AddsTold may log log'
  told_gone_on old new log log' ticket not_sent g = absurd g
  told_gone_on old new log log' ticket (waits given) g = told_none log log' g.log_same
  told_gone_on old new log log' ticket (answered seen) g = told_sees log log' (old ticket) seen g.sees

  told_tried : (old new : Awaited) (log log' : LogTold) (command : List ℕ) (stage : Stage) (attempt : Attempt) → may (fields command) → Tries old new log log' command stage attempt → AddsTold may log log'
  told_tried old new log log' command unsent attempt is t = told_begun old new log log' command attempt is t
  told_tried old new log log' command (first ticket) attempt is t = told_gone_on old new log log' ticket attempt t
  told_tried old new log log' command (second ticket) attempt is t = told_gone_on old new log log' ticket attempt t

  told_ran : (old new : Awaited) (log log' : LogTold) (wire : ℤ) (s : Sending) (result : Step Sending (List ℕ)) → may (fields s.command) → Runs old new log log' wire s result → AddsTold may log log'
  told_ran old new log log' wire s result is (inl once) = told_tried old new log log' s.command s.stage once.attempt is once.tries
  told_ran old new log log' wire s result is (inr twice) =
      told_on log twice.log_between log'
      (told_tried old twice.between log twice.log_between s.command s.stage twice.attempt is twice.tries)
      (told_begun twice.between new twice.log_between log' s.command twice.again is twice.begins)

-- A poll of a request adds its command alone.
pub adds_ran : (may : Fields → Type 0) (old new : Awaited) (log log' : LogTold) (wire : ℤ) (s : Sending) (result : Step Sending (List ℕ)) → may (fields s.command) → Runs old new log log' wire s result → (calls calls' : List Call) → log ≡ Some calls → log' ≡ Some calls' → AddsOnly may calls calls'
adds_ran may old new log log' wire s result is runs calls calls' told told' =
    let x = told_ran may old new log log' wire s result is runs calls told in
    subst (λ (l : List Call). AddsOnly may calls l) (same_some x.0 calls' (sym x.1 ∙ told')) x.2
