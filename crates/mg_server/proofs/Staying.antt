-- What a log has it keeps.
use Rattle.std.proofs.Common.{◌≡◌, ℕ, ℤ, List, [], ◌∷◌, ◌++◌, Option, refl, ◌∙◌, inl, inr}
use Rattle.mg_server.specs.Calls.{Stays}
use Rattle.mg_link.specs.Exec.{Attempt, not_sent, waits, answered, Stage, unsent, first, second, Sending, Begins, GoesOn, Runs, Tries}
use Rattle.mg_link.specs.Link.{Awaited, LogTold, Adds, Sees}
use Rattle.mg_link.specs.Log.{Sight, waiting, Call, see}
use Rattle.mg_link.specs.declared.action.Step.{Step}
use Rattle.mg_server.proofs.Calls.{keeps_on, same_keeps, see_keeps}
use Rattle.mg_link.proofs.Places.{get_front}

pub stays_same : (log log' : LogTold) → log' ≡ log → Stays log log'
stays_same log log' same calls told = (calls, same ∙ told, same_keeps calls)

pub stays_on : (log mid log' : LogTold) → Stays log mid → Stays mid log' → Stays log log'
stays_on log mid log' p q calls told =
    let x = p calls told in
    let y = q x.0 x.1 in
    (y.0, y.1, keeps_on calls x.0 y.0 x.2 y.2)

pub stays_adds : (log log' : LogTold) (command : List ℕ) (seen : Sight) → Adds log log' command seen → Stays log log'
stays_adds log log' command seen adds calls told =
    let add = adds calls told in
    let call : Call = record { command = command; position = add.0; seen = seen } in
    (calls ++ call ∷ [], add.1, λ place c there. (c, get_front calls (call ∷ []) place c there, refl, λ saw. refl))

pub stays_sees : (log log' : LogTold) (place : Option ℕ) (seen : Sight) → Sees log log' place seen → Stays log log'
stays_sees log log' place seen sees calls told = let s = sees calls told in (see s.0 seen calls, s.5, see_keeps s.0 seen calls s.1 s.3 s.4)

stays_begun : (old new : Awaited) (log log' : LogTold) (command : List ℕ) (attempt : Attempt) → Begins old new log log' command attempt → Stays log log'
stays_begun old new log log' command not_sent b = stays_same log log' b.log_same
stays_begun old new log log' command (waits ticket) b = stays_adds log log' command waiting b.adds
stays_begun old new log log' command (answered seen) b = stays_adds log log' command seen b.adds

stays_gone_on : (old new : Awaited) (log log' : LogTold) (ticket : ℕ) (attempt : Attempt) → GoesOn old new log log' ticket attempt → Stays log log'
stays_gone_on old new log log' ticket not_sent g = absurd g
stays_gone_on old new log log' ticket (waits given) g = stays_same log log' g.log_same
stays_gone_on old new log log' ticket (answered seen) g = stays_sees log log' (old ticket) seen g.sees

stays_tried : (old new : Awaited) (log log' : LogTold) (command : List ℕ) (stage : Stage) (attempt : Attempt) → Tries old new log log' command stage attempt → Stays log log'
stays_tried old new log log' command unsent attempt t = stays_begun old new log log' command attempt t
stays_tried old new log log' command (first ticket) attempt t = stays_gone_on old new log log' ticket attempt t
stays_tried old new log log' command (second ticket) attempt t = stays_gone_on old new log log' ticket attempt t

pub stays_ran : (old new : Awaited) (log log' : LogTold) (wire : ℤ) (s : Sending) (result : Step Sending (List ℕ)) → Runs old new log log' wire s result → Stays log log'
stays_ran old new log log' wire s result (inl once) = stays_tried old new log log' s.command s.stage once.attempt once.tries
stays_ran old new log log' wire s result (inr twice) =
    stays_on log twice.log_between log'
    (stays_tried old twice.between log twice.log_between s.command s.stage twice.attempt twice.tries)
    (stays_begun twice.between new twice.log_between log' s.command twice.again twice.begins)
