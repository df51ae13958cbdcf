-- What polls of a request that is sent once add to a log.
use Rattle.std.proofs.Common.{◌≡◌, ℕ, zero, suc, ℤ, false, List, [], ◌∷◌, ◌++◌, Option, Some, None, refl, sym, ap, ◌∙◌, inl, inr, append-nil}
use Rattle.std.proofs.lemmas.List.{map-append, append_assoc}
use Rattle.std.specs.Prelude.{◌⊎◌}
use Rattle.mg_bson.specs.Tree.{Fields}
use Rattle.mg_bson.specs.Raw.{fields}
use Rattle.mg_link.specs.Exec.{Stage, unsent, first, second, Sending, Attempt, not_sent, waits, answered, Begins, GoesOn, Runs, Tries, holding, ticket_at, ticket_of}
use Rattle.mg_link.specs.Link.{Awaited, LogTold, Adds, Sees}
use Rattle.mg_link.specs.Log.{Sight, waiting, reply, Call, see}
use Rattle.mg_link.specs.declared.action.Step.TheVariants as step
use Rattle.mg_link.specs.declared.error.Error.{Error}
use Rattle.mg_link.proofs.Waits.{never_again}
use Rattle.mg_ops.specs.InsertSends.{AddsFirst}
use Rattle.mg_ops.specs.Logs.{AddsJust, commands_sent}

-- ---- logs

pub just_none : (log log' : LogTold) → log' ≡ log → AddsJust log log' []
just_none log log' same calls told = (calls, same ∙ told, sym (append-nil (commands_sent calls)))

pub just_on : (log mid log' : LogTold) (cs ds : List Fields) → AddsJust log mid cs → AddsJust mid log' ds → AddsJust log log' (cs ++ ds)
just_on log mid log' cs ds p q calls told =
    let x = p calls told in
    let y = q x.0 x.1 in
    (y.0, y.1, y.2 ∙ ap (λ (l : List Fields). l ++ ds) x.2 ∙ append_assoc (commands_sent calls) cs ds)

just_adds : (log log' : LogTold) (command : List ℕ) (seen : Sight) → Adds log log' command seen → AddsJust log log' (fields command ∷ [])
just_adds log log' command seen adds calls told =
    let add = adds calls told in
    let call : Call = record { command = command; position = add.0; seen = seen } in
    (calls ++ call ∷ [], add.1, map-append (λ (c : Call). fields c.command) calls (call ∷ []))

pub commands_seen : (place : ℕ) (seen : Sight) (calls : List Call) → commands_sent (see place seen calls) ≡ commands_sent calls
commands_seen place seen [] = refl
commands_seen zero seen (call ∷ calls) = refl
commands_seen (suc place) seen (call ∷ calls) = ap (λ (l : List Fields). fields call.command ∷ l) (commands_seen place seen calls)

just_sees : (log log' : LogTold) (place : Option ℕ) (seen : Sight) → Sees log log' place seen → AddsJust log log' []
just_sees log log' place seen sees calls told =
    let s = sees calls told in
    (see s.0 seen calls, s.5, commands_seen s.0 seen calls ∙ sym (append-nil (commands_sent calls)))

-- ---- a request that is sent once

held_at : (stage : Stage) (ticket : ℕ) → ticket_at (holding stage ticket) ≡ Some ticket
held_at unsent ticket = refl
held_at (first old) ticket = refl
held_at (second old) ticket = refl

module _ (old new : Awaited) (log log' : LogTold) (command : List ℕ) where
  -- the attempt added its command where it was the first, or memory ran out before
  abbrev TriedFirst : Option ℕ → Attempt → Type 0
  TriedFirst ticket attempt = AddsFirst log log' (fields command) ticket ⊎ ((attempt ≡ not_sent) × AddsJust log log' [])

  first_begun : (attempt : Attempt) → Begins old new log log' command attempt → TriedFirst None attempt
  first_begun not_sent b = inr (refl, just_none log log' b.log_same)
  first_begun (waits given) b = inl (just_adds log log' command waiting b.adds)
  first_begun (answered seen) b = inl (just_adds log log' command seen b.adds)

  none_more : (ticket : ℕ) (attempt : Attempt) → GoesOn old new log log' ticket attempt → AddsJust log log' []
  none_more ticket not_sent g = absurd g
  none_more ticket (waits given) g = just_none log log' g.log_same
  none_more ticket (answered seen) g = just_sees log log' (old ticket) seen g.sees

  first_tried : (stage : Stage) (attempt : Attempt) → Tries old new log log' command stage attempt → TriedFirst (ticket_at stage) attempt
  first_tried unsent attempt t = first_begun attempt t
  first_tried (first ticket) attempt t = inl (none_more ticket attempt t)
  first_tried (second ticket) attempt t = inl (none_more ticket attempt t)

  -- it was sent, since something came of it
  was_tried : (ticket : Option ℕ) (attempt : Attempt) → (attempt ≡ not_sent → ⊥) → TriedFirst ticket attempt → AddsFirst log log' (fields command) ticket
  was_tried ticket attempt some (inl adds) = adds
  was_tried ticket attempt some (inr none) = absurd (some none.0)

  may_be_tried : (ticket : Option ℕ) (attempt : Attempt) → TriedFirst ticket attempt → AddsFirst log log' (fields command) ticket ⊎ AddsJust log log' []
  may_be_tried ticket attempt (inl adds) = inl adds
  may_be_tried ticket attempt (inr none) = inr none.1

waits_sent : (attempt : Attempt) (ticket : ℕ) → attempt ≡ waits ticket → attempt ≡ not_sent → ⊥
waits_sent attempt ticket is none = let bad : waits ticket ≡ not_sent = sym is ∙ none in absurd cc

reply_sent : (attempt : Attempt) (bytes : List ℕ) → attempt ≡ answered (reply bytes) → attempt ≡ not_sent → ⊥
reply_sent attempt bytes is none = let bad : answered (reply bytes) ≡ not_sent = sym is ∙ none in absurd cc

module _ (old new : Awaited) (log log' : LogTold) (wire : ℤ) (s : Sending) (single : s.retries ≡ false) where
  abbrev SentFirst : Type 0
  SentFirst = AddsFirst log log' (fields s.command) (ticket_of s)

  -- It waits.
  pub pending_first : (s' : Sending) → Runs old new log log' wire s (step.Pending s') → SentFirst × (s'.retries ≡ false) × ((ticket : ℕ) × (ticket_of s' ≡ Some ticket))
  pending_first s' (inl once) =
      let given : ℕ = once.gives.0 in (
        was_tried old new log log' s.command (ticket_of s) once.attempt (waits_sent once.attempt given once.gives.1) (first_tried old new log log' s.command s.stage once.attempt once.tries),
        ap (λ (x : Sending). x.retries) once.gives.2 ∙ single,
        (given, ap (λ (x : Sending). ticket_of x) once.gives.2 ∙ held_at s.stage given),
      )
  pending_first s' (inr twice) = absurd (never_again s.retries s.stage twice.attempt single twice.repeated)

  -- It has its reply.
  pub done_first : (bytes : List ℕ) → Runs old new log log' wire s (step.Done bytes) → SentFirst
  done_first bytes (inl once) = was_tried old new log log' s.command (ticket_of s) once.attempt (reply_sent once.attempt bytes once.gives.0) (first_tried old new log log' s.command s.stage once.attempt once.tries)
  done_first bytes (inr twice) = absurd (never_again s.retries s.stage twice.attempt single twice.repeated)

  -- It failed.
  pub failed_first : (e : Error) → Runs old new log log' wire s (step.Failed e) → SentFirst ⊎ AddsJust log log' []
  failed_first e (inl once) = may_be_tried old new log log' s.command (ticket_of s) once.attempt (first_tried old new log log' s.command s.stage once.attempt once.tries)
  failed_first e (inr twice) = absurd (never_again s.retries s.stage twice.attempt single twice.repeated)
