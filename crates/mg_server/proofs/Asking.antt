-- A getMore, which is sent once, moves a stream as its one attempt does.
use Rattle.std.proofs.Common.{◌≡◌, ◌≢◌, ℕ, ℤ, pos, Bool, true, false, List, Option, refl, sym, ap, ◌∙◌, subst, inl, inr}
use Rattle.mg_link.specs.Namespace.{Space}
use Rattle.mg_server.specs.Commands.{asks_more, asked}
use Rattle.mg_link.specs.declared.action.Step.{Step}
use Rattle.mg_link.specs.Exec.{Stage, unsent, first, second, Sending, Attempt, not_sent, waits, answered, Begins, GoesOn, Tries, is_repeated, AttemptGives, holding, Runs}
use Rattle.mg_link.specs.Log.{Sight, waiting, reply}
use Rattle.mg_link.specs.Link.{Awaited, LogTold, Adds, Sees}
use Rattle.mg_server.specs.Follow.{resting, asking, Follow, Moved}
use Rattle.mg_server.specs.Moves.{given_with, at_stage, MoreAnswered, rested}
use Rattle.mg_server.proofs.Moves.{stayed, gave_up_seen, gave_up_added, names_cursor, more_sent, more_heard, more_refused}
use Rattle.mg_server.proofs.Retries.{next_place, next_is, at_once}
use Rattle.mg_server.proofs.Spoiled.{more_garbled}

-- the stream that asks
abbrev pub asks_at : Follow → Option ℕ → Follow
asks_at f place = record f { doing = asking place }

abbrev pub MoreAttempted : Follow → Awaited → LogTold → LogTold → Follow → Attempt → Type 0
MoreAttempted f new log log' g not_sent = Moved log log' g g
MoreAttempted f new log log' g (waits ticket) = Moved log log' g (asks_at f (new ticket))
MoreAttempted f new log log' g (answered seen) = MoreAnswered f log log' g seen

sees_as : (log log' : LogTold) (place : Option ℕ) (seen other : Sight) → seen ≡ other → Sees log log' place seen → Sees log log' place other
sees_as log log' place seen other is sees = subst (λ (s : Sight). Sees log log' place s) is sees

adds_as : (log log' : LogTold) (command : List ℕ) (seen other : Sight) → seen ≡ other → Adds log log' command seen → Adds log log' command other
adds_as log log' command seen other is adds = subst (λ (s : Sight). Adds log log' command s) is adds

-- the answer to a getMore that waited
pub more_answered : (f : Follow) (log log' : LogTold) (place : Option ℕ) (seen : Sight) → Sees log log' place seen → MoreAnswered f log log' (asks_at f place) seen
more_answered f log log' place seen sees =
    record {
      lost = gave_up_seen log log' (asks_at f place) place seen tt sees;
      heard = λ bytes is batch reads. more_heard log log' (asks_at f place) place bytes batch refl reads (sees_as log log' place seen (reply bytes) is sees);
      rests = λ bytes is cursor which none. more_refused log log' (asks_at f place) place bytes cursor refl which none (sees_as log log' place seen (reply bytes) is sees);
      spoiled = λ bytes is batch bad. more_garbled log log' (asks_at f place) place bytes batch refl bad (sees_as log log' place seen (reply bytes) is sees);
    }

module _ (f : Follow) (command : List ℕ) (space : Space) (nz : f.cursor ≢ pos 0) (asks : asked command ≡ asks_more f.cursor space) where
  -- the stream before it asks
  abbrev pub at_rest : Follow
  at_rest = record f { doing = resting }

  sent_then : (log log' : LogTold) (seen : Sight) (f' : Follow) → Adds log log' command seen → ((mid : LogTold) → Sees mid log' (next_place log) seen → Moved mid log' (asks_at f (next_place log)) f') → Moved log log' (record f { doing = resting }) f'
  sent_then log log' seen f' adds ended =
      at_once log log' command seen (next_place log) (record f { doing = resting }) (asks_at f (next_place log)) f' adds (next_is log)
      (λ mid a. more_sent log mid (record f { doing = resting }) (next_place log) command space waiting refl nz asks a (next_is log)) ended

  -- the answer to one that was sent and answered in one
  more_at_once : (log log' : LogTold) (seen : Sight) → Adds log log' command seen → MoreAnswered f log log' (record f { doing = resting }) seen
  more_at_once log log' seen adds =
      record {
        lost = gave_up_added log log' (record f { doing = resting }) command seen tt (names_cursor f command space nz asks) adds;
        heard = λ bytes is batch reads. sent_then log log' (reply bytes) (given_with f batch) (adds_as log log' command seen (reply bytes) is adds)
            (λ mid s. more_heard mid log' (asks_at f (next_place log)) (next_place log) bytes batch refl reads s);
        rests = λ bytes is cursor which none. sent_then log log' (reply bytes) (rested f cursor) (adds_as log log' command seen (reply bytes) is adds)
            (λ mid s. more_refused mid log' (asks_at f (next_place log)) (next_place log) bytes cursor refl which none s);
        spoiled = λ bytes is batch bad. sent_then log log' (reply bytes) (given_with f batch) (adds_as log log' command seen (reply bytes) is adds)
            (λ mid s. more_garbled mid log' (asks_at f (next_place log)) (next_place log) bytes batch refl bad s);
      }

  more_begun : (old new : Awaited) (log log' : LogTold) (attempt : Attempt) → Begins old new log log' command attempt → MoreAttempted f new log log' (record f { doing = resting }) attempt
  more_begun old new log log' not_sent b = stayed log log' (record f { doing = resting }) b.log_same
  more_begun old new log log' (waits ticket) b = more_sent log log' (record f { doing = resting }) (new ticket) command space waiting refl nz asks b.adds (λ calls is. b.place calls is)
  more_begun old new log log' (answered seen) b = more_at_once log log' seen b.adds

  more_gone_on : (old new : Awaited) (log log' : LogTold) (ticket : ℕ) (attempt : Attempt) → GoesOn old new log log' ticket attempt → MoreAttempted f new log log' (asks_at f (old ticket)) attempt
  more_gone_on old new log log' ticket not_sent g = absurd g
  more_gone_on old new log log' ticket (waits given) g =
      subst (λ (place : Option ℕ). Moved log log' (asks_at f (old ticket)) (asks_at f place)) (sym (g.rest given ∙ ap old g.same)) (stayed log log' (asks_at f (old ticket)) g.log_same)
  more_gone_on old new log log' ticket (answered seen) g = more_answered f log log' (old ticket) seen g.sees

  more_tried : (old new : Awaited) (log log' : LogTold) (stage : Stage) (attempt : Attempt) → Tries old new log log' command stage attempt → MoreAttempted f new log log' (at_stage (record f { doing = resting }) (asks_at f) old stage) attempt
  more_tried old new log log' unsent attempt t = more_begun old new log log' attempt t
  more_tried old new log log' (first ticket) attempt t = more_gone_on old new log log' ticket attempt t
  more_tried old new log log' (second ticket) attempt t = more_gone_on old new log log' ticket attempt t

  -- A poll of a getMore: its one attempt, what the poll answers by it, and where the stream is.
  pub record MoreRan (old new : Awaited) (log log' : LogTold) (wire : ℤ) (s : Sending) (result : Step Sending (List ℕ)) : Type 0 where
    pub attempt : Attempt
    pub gives : AttemptGives attempt wire (λ ticket. record s { stage = holding s.stage ticket }) result
    pub moves : MoreAttempted f new log log' (at_stage (record f { doing = resting }) (asks_at f) old s.stage) attempt

  never_again : (retries : Bool) (stage : Stage) (attempt : Attempt) → retries ≡ false → is_repeated retries stage attempt ≡ true → ⊥
  never_again true stage attempt single h = absurd cc
  never_again false unsent attempt single h = absurd cc
  never_again false (first ticket) attempt single h = absurd cc
  never_again false (second ticket) attempt single h = absurd cc

  pub more_ran : (old new : Awaited) (log log' : LogTold) (wire : ℤ) (s : Sending) (result : Step Sending (List ℕ)) → s.command ≡ command → s.retries ≡ false → Runs old new log log' wire s result → MoreRan old new log log' wire s result
  more_ran old new log log' wire s result is single (inl once) =
      record {
        attempt = once.attempt;
        gives = once.gives;
        moves = more_tried old new log log' s.stage once.attempt (subst (λ (c : List ℕ). Tries old new log log' c s.stage once.attempt) is once.tries);
      }
  more_ran old new log log' wire s result is single (inr twice) = absurd (never_again s.retries s.stage twice.attempt single twice.repeated)
