-- Logs grow, whatever is sent; one that stands nowhere goes on so.
use Rattle.std.proofs.Common.{◌≡◌, ℕ, List, [], ◌∷◌, ◌++◌, Option, ◌∙◌}
use Rattle.mg_link.specs.Exec.{Stage, unsent, first, second, Attempt, not_sent, waits, answered, Begins, GoesOn, Tries}
use Rattle.mg_link.specs.Log.{Sight, waiting, Call, see}
use Rattle.mg_link.specs.Link.{Awaited, LogTold, Adds, Sees}
use Rattle.mg_server.specs.Owner.{Onward, Passes, nobody}
use Rattle.mg_server.proofs.Apart.{apart_nobody, holds_nobody, nobody_named, onward_foreign, onward_refl, onward_seen}
use Rattle.mg_server.proofs.SelfMade.{made_nowhere}
use Rattle.mg_change.specs.Growths.{GoesOnward, StandsNowhere}

pub grows_same : (log log' : LogTold) → log' ≡ log → GoesOnward log log'
grows_same log log' same calls told = (calls, same ∙ told, onward_refl calls nobody)

grows_adds : (log log' : LogTold) (command : List ℕ) (seen : Sight) → Adds log log' command seen → GoesOnward log log'
grows_adds log log' command seen adds calls told =
    let add = adds calls told in
    let call : Call = record { command = command; position = add.0; seen = seen } in
    (calls ++ call ∷ [], add.1, onward_foreign calls call nobody (nobody_named calls call))

grows_sees : (log log' : LogTold) (place : Option ℕ) (seen : Sight) → Sees log log' place seen → GoesOnward log log'
grows_sees log log' place seen sees calls told = let s = sees calls told in (see s.0 seen calls, s.5, onward_seen s.0 seen calls s.1 nobody s.3 s.4)

grows_begun : (old new : Awaited) (log log' : LogTold) (command : List ℕ) (attempt : Attempt) → Begins old new log log' command attempt → GoesOnward log log'
grows_begun old new log log' command not_sent b = grows_same log log' b.log_same
grows_begun old new log log' command (waits ticket) b = grows_adds log log' command waiting b.adds
grows_begun old new log log' command (answered seen) b = grows_adds log log' command seen b.adds

grows_gone_on : (old new : Awaited) (log log' : LogTold) (ticket : ℕ) (attempt : Attempt) → GoesOn old new log log' ticket attempt → GoesOnward log log'
grows_gone_on old new log log' ticket not_sent g = absurd g
grows_gone_on old new log log' ticket (waits given) g = grows_same log log' g.log_same
grows_gone_on old new log log' ticket (answered seen) g = grows_sees log log' (old ticket) seen g.sees

pub grows_tried : (old new : Awaited) (log log' : LogTold) (command : List ℕ) (stage : Stage) (attempt : Attempt) → Tries old new log log' command stage attempt → GoesOnward log log'
grows_tried old new log log' command unsent attempt t = grows_begun old new log log' command attempt t
grows_tried old new log log' command (first ticket) attempt t = grows_gone_on old new log log' ticket attempt t
grows_tried old new log log' command (second ticket) attempt t = grows_gone_on old new log log' ticket attempt t

pub still_nowhere : (calls calls' : List Call) → Onward calls calls' nobody → StandsNowhere calls → StandsNowhere calls'
still_nowhere calls calls' onward nowhere history legal stands = let e = onward.earlier history legal stands in nowhere e.before e.legal e.stands

-- A caller leaves all others alone where no honest server could have given the log.
pub passes_nowhere : (calls calls' : List Call) → Onward calls calls' nobody → StandsNowhere calls → Passes calls calls' nobody nobody
passes_nowhere calls calls' onward nowhere =
    record {
      holds = holds_nobody calls';
      onward = λ g h apart. record { grown = onward.grown; earlier = λ history legal stands. absurd (still_nowhere calls calls' onward nowhere history legal stands) };
      apart = λ g h apart. apart_nobody calls' g;
      made = made_nowhere calls calls' onward.grown nowhere;
    }
