-- What a turn of a follow comes to, whose stage was taken out before it and put back behind it.
use Rattle.std.proofs.Common.{◌≡◌, ℕ, ℤ, refl, sym, ap, subst}
use Rattle.mg_link.specs.Acts.{Tickets}
use Rattle.mg_link.specs.Link.{Awaited, LogTold}
use Rattle.mg_players.specs.Follows.{FollowTurns, Placing}
use Rattle.mg_players.specs.Headline.{FollowPlays, follow_task}
use Rattle.mg_players.specs.Playing.{StageHolds, stage_ticket}
use Rattle.mg_players.specs.Plays as words
use Rattle.mg_players.specs.Plays.{SentAt, by_placing}
use Rattle.mg_players.specs.Progress.{Came, FollowGoes, came}
use Rattle.mg_players.specs.Telling.{FollowSays, FollowTells, Kept, kept}
use Rattle.mg_players.specs.declared.follow.FollowPlayer.{FollowPlayer}
use Rattle.mg_players.specs.declared.follow.Stage.{Stage}
use Rattle.mg_players.proofs.JobTelling.{follow_number, follow_turn, task_followed}
use Rattle.mg_players.proofs.Knowing.{turned_follow}
use Rattle.mg_players.proofs.Telling.{tells_at, tells_over}
use Rattle.mg_players.proofs.Turning.{SameParts, other_stage}
use Rattle.mg_players.proofs.Vainly.{vain_other}

-- a turn of a follow at this moment, in the words of its kind
abbrev pub TakesTurn : ℤ → Awaited → Awaited → LogTold → LogTold → ℤ → FollowPlayer → FollowPlayer → Type 0
TakesTurn moment = words.Goes (λ (p : FollowPlayer). stage_ticket p.stage) (λ (w : ℤ) (p : FollowPlayer). StageHolds p.stage) task_followed FollowPlays FollowSays follow_number (λ (p : FollowPlayer). Unit {0}) (SentAt moment)

-- the same follow at the same stage
pub staged : (job : FollowPlayer) (s s' : Stage) → s ≡ s' → record job { stage = s } ≡ record job { stage = s' }
staged job s s' same = ap (λ (x : Stage). record job { stage = x }) same

module _ (moment : ℤ) (job before mid job' : FollowPlayer) (was after : Stage) (from : was ≡ job.stage) (to : job' ≡ record mid { stage = after }) where
  pub follow_goes : (old new : Awaited) (log log' : LogTold) (wire wire' : ℤ) (place : Placing) → SameParts job before → kept before ≡ kept job → wire' ≡ wire → Tickets old new (stage_ticket was) (stage_ticket after) → StageHolds after → FollowTurns old new log log' was before after mid place
      → FollowTells old new log log' wire was (kept before) after (kept mid) place → mid.watched ≡ job.watched → TakesTurn moment old new log log' wire' job job'
  follow_goes old new log log' wire wire' place parts same over tickets holds turned told watched =
      let end : FollowPlayer = record mid { stage = after } in
      let ends : SameParts mid end = record { watched = refl; opened = refl; answers = refl; token = refl } in
      subst (λ (p : FollowPlayer). TakesTurn moment old new log log' wire' job p) (sym to)
      (record {
        tickets = subst (λ (s : Stage). Tickets old new (stage_ticket s) (stage_ticket after)) from tickets;
        holds = holds;
        next = by_placing place;
        turned = turned_follow old new log log' job end place (record {
          watching = other_stage old new log log' was job.stage job before after mid end place from parts ends refl turned.watching;
          vainly = vain_other old new log log' was job.stage job before after mid end from parts ends refl turned.vainly;
        });
        told = follow_turn (SentAt moment) old new log log' wire' job end place
            (tells_over old new log log' wire wire' job.stage (kept job) after (kept mid) place over
            (tells_at old new log log' wire was job.stage (kept job) after after (kept mid) place from refl (subst (λ (k : Kept). FollowTells old new log log' wire was k after (kept mid) place) same told)));
        task = ap follow_task watched;
        has = λ has. has;
      })

-- how far it comes
module _ (job before mid job' : FollowPlayer) (was after : Stage) (from : was ≡ job.stage) (to : job' ≡ record mid { stage = after }) where
  pub follow_comes : (pended pends : ℕ) → came before ≡ came job → FollowGoes pended pends was (came before) after (came mid) → FollowGoes pended pends job.stage (came job) job'.stage (came job')
  follow_comes pended pends same goes =
      subst (λ (p : FollowPlayer). FollowGoes pended pends job.stage (came job) p.stage (came p)) (sym to)
      (subst (λ (s : Stage). FollowGoes pended pends s (came job) after (came mid)) from (subst (λ (x : Came). FollowGoes pended pends was x after (came mid)) same goes))
