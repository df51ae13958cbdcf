-- What a poll of a request waits for, or the reply that it gives, is to the newest command of its call.
use Rattle.std.proofs.Common.{◌≡◌, ◌≤◌, ◌++◌, ℕ, ℤ, List, [], ◌∷◌, length, length-append, Some, refl, sym, ap, ◌∙◌, subst, inl, inr, arith}
use Rattle.mg_bson.specs.Raw.{fields}
use Rattle.mg_bson.specs.Tree.{Fields}
use Rattle.mg_server.specs.Calls.{Flies, HeardAt, Past, WaitsAt, past_of}
use Rattle.mg_link.specs.Exec.{Attempt, AttemptGives, Begins, GoesOn, Runs, Sending, Stage, Tries, answered, first, holding, not_sent, second, unsent, waits}
use Rattle.mg_link.specs.Link.{Awaited, LogTold}
use Rattle.mg_link.specs.Log.{Call, reply, see, waiting}
use Rattle.mg_link.specs.declared.action.Step.{Step}
use Rattle.mg_link.specs.declared.action.Step.TheVariants as came
use Rattle.mg_server.proofs.Calls.{gone_on, keeps_longer, keeps_on, same_keeps}
use Rattle.mg_server.proofs.Filed.{Grew}
use Rattle.mg_link.proofs.Outs.{length-see}
use Rattle.mg_server.proofs.Owners.{same_some}
use Rattle.mg_link.proofs.Places.{get_front, get_seam}
use Rattle.mg_players.specs.Asking.{FliesLast, WaitsLast}
use Rattle.mg_players.specs.InTurn.{HasSentAt, NoneBehind}

-- the call heard this as the answer to its newest command
pub record HeardNewest (past : Past) (command : Fields) (bytes : List ℕ) : Type 0 where
  pub place : ℕ
  pub heard : HeardAt past place command (reply bytes)
  pub newest : NoneBehind past place

abbrev pub CameNewest : Awaited → Past → Fields → Step Sending (List ℕ) → Type 0
CameNewest awaited past command (came.Pending s) = FliesLast awaited (HasSentAt past) s.stage
CameNewest awaited past command (came.Done bytes) = HeardNewest past command bytes
CameNewest awaited past command (came.Failed e) = Unit {0}

-- where an attempt stands
abbrev StoodNewest : Awaited → Past → Fields → Attempt → Type 0
StoodNewest awaited past command not_sent = Unit {0}
StoodNewest awaited past command (waits ticket) = WaitsLast awaited (HasSentAt past) ticket
StoodNewest awaited past command (answered seen) = (place : ℕ) × HeardAt past place command seen × NoneBehind past place

module _ (places : List ℕ) (since : ℕ) (wire : ℤ) where
  -- the newest stands at the end of the log
  at_end : (calls : List Call) (call : Call) → NoneBehind (past_of places since (calls ++ call ∷ []) wire) (length calls)
  at_end calls call place of =
      let more = length-append calls (call ∷ []) in
      let high = of.1 in
      omega (arith, more, high)

  begun_newest : (old new : Awaited) (log log' : LogTold) (command : List ℕ) (attempt : Attempt) (calls : List Call) → log ≡ Some calls → since ≤ length calls → Begins old new log log' command attempt → Grew places since calls log' wire (λ past. StoodNewest new past (fields command) attempt)
  begun_newest old new log log' command not_sent calls told room b = (calls, b.log_same ∙ told, same_keeps calls, tt)
  begun_newest old new log log' command (waits ticket) calls told room b =
      let add = b.adds calls told in
      let call : Call = record { command = command; position = add.0; seen = waiting } in
      let more = length-append calls (call ∷ []) in
      (calls ++ call ∷ [], add.1, λ place c there. (c, get_front calls (call ∷ []) place c there, refl, λ saw. refl), record { place = length calls; at = b.place calls told; its = (inr room, omega (arith, more)); newest = at_end calls call })
  begun_newest old new log log' command (answered seen) calls told room b =
      let add = b.adds calls told in
      let call : Call = record { command = command; position = add.0; seen = seen } in
      (calls ++ call ∷ [], add.1, λ place c there. (c, get_front calls (call ∷ []) place c there, refl, λ saw. refl), (length calls, record { own = inr room; call = call; there = get_seam calls [] call; command_is = refl; has_seen = refl }, at_end calls call))

  gone_newest : (old new : Awaited) (log log' : LogTold) (command : List ℕ) (ticket : ℕ) (attempt : Attempt) (calls : List Call) → log ≡ Some calls → (place : ℕ) → WaitsAt old (past_of places since calls wire) ticket (fields command) place → WaitsLast old (HasSentAt (past_of places since calls wire)) ticket → GoesOn old new log log' ticket attempt
      → Grew places since calls log' wire (λ past. StoodNewest new past (fields command) attempt)
  gone_newest old new log log' command ticket not_sent calls told place w last g = absurd g
  gone_newest old new log log' command ticket (waits given) calls told place w last g = (calls, g.log_same ∙ told, same_keeps calls, record { place = last.place; at = g.rest given ∙ ap old g.same ∙ last.at; its = last.its; newest = last.newest })
  gone_newest old new log log' command ticket (answered seen) calls told place w last g =
      let t = gone_on old new log log' calls told places since wire ticket (fields command) (answered seen) (λ (n : ℕ). n ≡ last.place) place w (same_some place last.place (sym w.at ∙ last.at)) g in
      let s = g.sees calls told in
      let long : length t.calls' ≡ length calls = ap length (same_some t.calls' (see s.0 seen calls) (sym t.told ∙ s.5)) ∙ length-see s.0 seen calls in
      let stands = t.stands in
      let same = stands.2 in
      (t.calls', t.told, t.keeps, (stands.0, stands.1, λ other of. let high = of.1 in let less = last.newest other (of.0, omega (arith, high, long)) in omega (arith, less, same)))

  tried_newest : (old new : Awaited) (log log' : LogTold) (command : List ℕ) (stage : Stage) (attempt : Attempt) (calls : List Call) → log ≡ Some calls → since ≤ length calls → Flies old (past_of places since calls wire) (fields command) stage → FliesLast old (HasSentAt (past_of places since calls wire)) stage → Tries old new log log' command stage attempt
      → Grew places since calls log' wire (λ past. StoodNewest new past (fields command) attempt)
  tried_newest old new log log' command unsent attempt calls told room flies last t = begun_newest old new log log' command attempt calls told room t
  tried_newest old new log log' command (first ticket) attempt calls told room flies last t = gone_newest old new log log' command ticket attempt calls told flies.0 flies.1 last t
  tried_newest old new log log' command (second ticket) attempt calls told room flies last t = gone_newest old new log log' command ticket attempt calls told flies.0 flies.1 last t

  held_newest : (new : Awaited) (own : ℕ → Type 0) (stage : Stage) (ticket : ℕ) → WaitsLast new own ticket → FliesLast new own (holding stage ticket)
  held_newest new own unsent ticket w = w
  held_newest new own (first given) ticket w = w
  held_newest new own (second given) ticket w = w

  came_newest : (new : Awaited) (past : Past) (command : Fields) (hold : ℕ → Sending) (attempt : Attempt) (c : Step Sending (List ℕ)) → ((ticket : ℕ) → WaitsLast new (HasSentAt past) ticket → FliesLast new (HasSentAt past) (hold ticket).stage) → AttemptGives attempt wire hold c → StoodNewest new past command attempt → CameNewest new past command c
  came_newest new past command hold attempt (came.Pending s) holds g stood = subst (λ (x : Sending). FliesLast new (HasSentAt past) x.stage) (sym g.2) (holds g.0 (subst (StoodNewest new past command) g.1 stood))
  came_newest new past command hold attempt (came.Done bytes) holds g stood = let h = subst (StoodNewest new past command) g.0 stood in record { place = h.0; heard = h.1; newest = h.2 }
  came_newest new past command hold attempt (came.Failed e) holds g stood = tt

  -- So it is behind a poll where what was on its way is the newest.
  pub runs_newest : (old new : Awaited) (log log' : LogTold) (s : Sending) (c : Step Sending (List ℕ)) → Runs old new log log' wire s c → (calls : List Call) → log ≡ Some calls → since ≤ length calls → Flies old (past_of places since calls wire) (fields s.command) s.stage → FliesLast old (HasSentAt (past_of places since calls wire)) s.stage
      → Grew places since calls log' wire (λ past. CameNewest new past (fields s.command) c)
  runs_newest old new log log' s c (inl once) calls told room flies last =
      let t = tried_newest old new log log' s.command s.stage once.attempt calls told room flies last once.tries in
      (t.0, t.1, t.2, came_newest new (past_of places since t.0 wire) (fields s.command) (λ ticket. record s { stage = holding s.stage ticket }) once.attempt c (λ ticket w. held_newest new (HasSentAt (past_of places since t.0 wire)) s.stage ticket w) once.gives t.3)
  runs_newest old new log log' s c (inr twice) calls told room flies last =
      let t = tried_newest old twice.between log twice.log_between s.command s.stage twice.attempt calls told room flies last twice.tries in
      let longer = keeps_longer calls t.0 t.2 in
      let u = begun_newest twice.between new twice.log_between log' s.command twice.again t.0 t.1 (omega (arith, room, longer)) twice.begins in
      (u.0, u.1, keeps_on calls t.0 u.0 t.2 u.2, came_newest new (past_of places since u.0 wire) (fields s.command) (λ ticket. record s { stage = second ticket }) twice.again c (λ ticket w. w) twice.gives u.3)
