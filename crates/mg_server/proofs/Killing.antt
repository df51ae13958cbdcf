-- Requests of callers that open no cursor, and the killing of cursors.
use Rattle.std.proofs.Common.{◌≡◌, ◌≢◌, ℕ, ℤ, pos, List, [], ◌∷◌, ◌++◌, Option, refl, ◌∙◌, subst, inl, inr}
use Rattle.mg_server.specs.Commands.{asks_kill, asked}
use Rattle.mg_link.specs.declared.action.Step.{Step}
use Rattle.mg_link.specs.Exec.{Stage, unsent, first, second, Sending, Attempt, not_sent, waits, answered, Begins, GoesOn, Tries, Runs}
use Rattle.mg_link.specs.Log.{Sight, waiting, Call, see}
use Rattle.mg_link.specs.Link.{Awaited, LogTold, Adds, Sees}
use Rattle.mg_server.specs.Standing.{Names}
use Rattle.mg_server.specs.Owner.{nobody, NamesOwn, PassesPlain}
use Rattle.mg_server.specs.Follow.{holding, Follow, owner_of, IsOpen, Moved}
use Rattle.mg_server.proofs.Apart.{holds_nobody, plain_added, plain_seen, passes_same, passes_on}
use Rattle.mg_server.specs.Moves.{owed}
use Rattle.mg_server.proofs.Moves.{stayed, gave_up, gave_up_added, gave_up_seen, other_seen}
use Rattle.mg_server.proofs.Resumes.{let_go, kill_sent, kill_passed}

-- ---- callers that open no cursor

pub plain_stayed : (log log' : LogTold) → log' ≡ log → PassesPlain log log'
plain_stayed log log' same calls told = (calls, same ∙ told, passes_same calls nobody (holds_nobody calls))

pub plain_on : (log mid log' : LogTold) → PassesPlain log mid → PassesPlain mid log' → PassesPlain log log'
plain_on log mid log' p q calls told =
    let x = p calls told in
    let y = q x.0 x.1 in
    (y.0, y.1, passes_on calls x.0 y.0 nobody nobody nobody x.2 y.2)

pub plain_sends : (log log' : LogTold) (command : List ℕ) (seen : Sight) → ((x : ℤ) → Names (asked command) x → ⊥) → Adds log log' command seen → PassesPlain log log'
plain_sends log log' command seen none adds calls told =
    let add = adds calls told in
    let call : Call = record { command = command; position = add.0; seen = seen } in
    (calls ++ call ∷ [], add.1, plain_added calls call none)

pub plain_sees : (log log' : LogTold) (place : Option ℕ) (seen : Sight) → Sees log log' place seen → PassesPlain log log'
plain_sees log log' place seen sees calls told = let s = sees calls told in (see s.0 seen calls, s.5, plain_seen s.0 seen calls s.1 s.3 s.4)

module _ (command : List ℕ) (none : (x : ℤ) → Names (asked command) x → ⊥) where
  plain_begins : (old new : Awaited) (log log' : LogTold) (attempt : Attempt) → Begins old new log log' command attempt → PassesPlain log log'
  plain_begins old new log log' not_sent b = plain_stayed log log' b.log_same
  plain_begins old new log log' (waits ticket) b = plain_sends log log' command waiting none b.adds
  plain_begins old new log log' (answered seen) b = plain_sends log log' command seen none b.adds

  plain_goes_on : (old new : Awaited) (log log' : LogTold) (ticket : ℕ) (attempt : Attempt) → GoesOn old new log log' ticket attempt → PassesPlain log log'
  plain_goes_on old new log log' ticket not_sent g = absurd g
  plain_goes_on old new log log' ticket (waits given) g = plain_stayed log log' g.log_same
  plain_goes_on old new log log' ticket (answered seen) g = plain_sees log log' (old ticket) seen g.sees

  plain_tries : (old new : Awaited) (log log' : LogTold) (stage : Stage) (attempt : Attempt) → Tries old new log log' command stage attempt → PassesPlain log log'
  plain_tries old new log log' unsent attempt t = plain_begins old new log log' attempt t
  plain_tries old new log log' (first ticket) attempt t = plain_goes_on old new log log' ticket attempt t
  plain_tries old new log log' (second ticket) attempt t = plain_goes_on old new log log' ticket attempt t

  -- A poll of a request that names no cursor and whose reply gives the caller none.
  pub plain_ran : (old new : Awaited) (log log' : LogTold) (wire : ℤ) (s : Sending) (result : Step Sending (List ℕ)) → s.command ≡ command → Runs old new log log' wire s result → PassesPlain log log'
  plain_ran old new log log' wire s result is (inl once) =
      plain_tries old new log log' s.stage once.attempt (subst (λ (c : List ℕ). Tries old new log log' c s.stage once.attempt) is once.tries)
  plain_ran old new log log' wire s result is (inr twice) =
      plain_on log twice.log_between log'
      (plain_tries old twice.between log twice.log_between s.stage twice.attempt (subst (λ (c : List ℕ). Tries old twice.between log twice.log_between c s.stage twice.attempt) is twice.tries))
      (plain_begins twice.between new twice.log_between log' twice.again (subst (λ (c : List ℕ). Begins twice.between new twice.log_between log' c twice.again) is twice.begins))

-- ---- the old cursor of a stream

-- The killing of an old cursor was tried: it was let go, also where nothing was sent.
pub kill_begun : (old new : Awaited) (log log' : LogTold) (f : Follow) (command : List ℕ) (attempt : Attempt) → f.doing ≡ holding → f.old ≢ pos 0 → asked command ≡ asks_kill (f.old ∷ []) → Begins old new log log' command attempt → Moved log log' f (let_go f)
kill_begun old new log log' f command not_sent is nz asks b = kill_passed log log' f is b.log_same
kill_begun old new log log' f command (waits ticket) is nz asks b = kill_sent log log' f command waiting is nz asks b.adds
kill_begun old new log log' f command (answered seen) is nz asks b = kill_sent log log' f command seen is nz asks b.adds

pub kill_gone_on : (old new : Awaited) (log log' : LogTold) (f : Follow) (ticket : ℕ) (attempt : Attempt) → GoesOn old new log log' ticket attempt → Moved log log' (let_go f) (let_go f)
kill_gone_on old new log log' f ticket not_sent g = absurd g
kill_gone_on old new log log' f ticket (waits given) g = stayed log log' (let_go f) g.log_same
kill_gone_on old new log log' f ticket (answered seen) g = other_seen log log' (let_go f) (old ticket) seen refl g.sees

-- ---- closing

-- The killing of a stream's own cursors at its end.
pub close_begun : (old new : Awaited) (log log' : LogTold) (f : Follow) (command : List ℕ) (attempt : Attempt) → IsOpen f.doing → NamesOwn (owner_of f) (asked command) → Begins old new log log' command attempt → Moved log log' f (owed f)
close_begun old new log log' f command not_sent is_open own b = gave_up log log' f is_open b.log_same
close_begun old new log log' f command (waits ticket) is_open own b = gave_up_added log log' f command waiting is_open own b.adds
close_begun old new log log' f command (answered seen) is_open own b = gave_up_added log log' f command seen is_open own b.adds

pub close_gone_on : (old new : Awaited) (log log' : LogTold) (f : Follow) (ticket : ℕ) (attempt : Attempt) → GoesOn old new log log' ticket attempt → Moved log log' (owed f) (owed f)
close_gone_on old new log log' f ticket not_sent g = absurd g
close_gone_on old new log log' f ticket (waits given) g = stayed log log' (owed f) g.log_same
close_gone_on old new log log' f ticket (answered seen) g = gave_up_seen log log' (owed f) (old ticket) seen tt g.sees
