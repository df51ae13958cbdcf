-- Jobs that share a link, turn by turn.
use Rattle.std.specs.Prelude.{◌≡◌, ◌⊎◌, ℕ, ℤ, Bool, false, Some, None, IsSome, List, length, slice_get}
use Rattle.mg_link.specs.Link.{Awaited, LogTold}
use Rattle.mg_players.specs.Gets.{GetHolds, get_ended}
use Rattle.mg_players.specs.Headline.{Plays, task_of}
use Rattle.mg_players.specs.Plays as words
use Rattle.mg_players.specs.Playing.{HasRoom, IsSameFollow, StageHolds, follow_ended, insert_ended, job_ticket}
use Rattle.mg_players.specs.Puts.{PutHolds, Supply, put_ended}
use Rattle.mg_ops.specs.Drawn.{AreLater}
use Rattle.mg_players.specs.Drawing.{JobHasIds, turn_draws}
use Rattle.mg_players.specs.Telling.{JobTells, number_of}
use Rattle.mg_script.specs.Plan.{Task}
use Rattle.mg_turns.specs.declared.turned.Turned.{Turned}
use Rattle.mg_players.specs.declared.follow.FollowPlayer.{FollowPlayer}
use Rattle.mg_players.specs.declared.player.Player.{Player}
use Rattle.mg_players.specs.declared.player.Player.TheVariants as player

-- ---- one job

-- it sends nothing more
abbrev pub has_ended : Player → Bool
has_ended (player.Insert insert) = insert_ended insert
has_ended (player.Follow follow) = follow_ended follow.stage
has_ended (player.Put job) = put_ended job
has_ended (player.Get job) = get_ended job

-- what it has in flight is its own command
abbrev pub JobHolds : ℤ → Player → Type 0
JobHolds wire (player.Insert insert) = Unit {0}
JobHolds wire (player.Follow follow) = StageHolds follow.stage
JobHolds wire (player.Put job) = PutHolds job
JobHolds wire (player.Get job) = GetHolds job

-- there is a place for what a turn gives
abbrev pub IsReady : Player → Type 0
IsReady (player.Insert insert) = Unit {0}
IsReady (player.Follow follow) = HasRoom follow
IsReady (player.Put job) = Unit {0}
IsReady (player.Get job) = Unit {0}

-- the two differ at most in the room for answers
abbrev pub IsSameJob : Player → Player → Type 0
IsSameJob (player.Insert insert) p = p ≡ player.Insert insert
IsSameJob (player.Follow follow) p = (follow' : FollowPlayer) × (p ≡ player.Follow follow') × IsSameFollow follow follow'
IsSameJob (player.Put job) p = p ≡ player.Put job
IsSameJob (player.Get job) p = p ≡ player.Get job

-- it may be given a turn over a link
abbrev pub CanGo : Awaited → ℤ → Player → Type 0
CanGo = words.CanGo job_ticket JobHolds

-- ---- a turn

-- what a turn does to its job
abbrev pub Goes : (Supply → Task → Type 0) → Awaited → Awaited → LogTold → LogTold → ℤ → Player → Player → Type 0
Goes = words.Goes job_ticket JobHolds task_of Plays JobTells number_of JobHasIds

-- a turn drew what its job needed from a source that gave these ids
pub record Draws (ids later : ℕ → List ℕ) (p p' : Player) : Type 0 where
  pub drawn : AreLater ids (turn_draws p) later
  pub has : JobHasIds p'

-- the note of a turn in which nothing was sent
abbrev pub idle : Turned
idle = record { started = 0; pended = false }

-- ---- all jobs

-- the jobs may be given turns, and no ticket is of two
pub record MayAllGo (awaited : Awaited) (wire : ℤ) (players : List Player) : Type 0 where
  pub each : (i : ℕ) (p : Player) → slice_get players i ≡ Some p → CanGo awaited wire p
  pub distinct : (i j : ℕ) (p q : Player) (n : ℕ) → (i ≡ j → ⊥) → slice_get players i ≡ Some p → slice_get players j ≡ Some q → job_ticket p ≡ Some n → job_ticket q ≡ Some n → ⊥

-- a job holds the ticket
pub record HeldBy (players : List Player) (ticket : ℕ) : Type 0 where
  pub job : ℕ
  pub player : Player
  pub there : slice_get players job ≡ Some player
  pub holds : job_ticket player ≡ Some ticket

-- each ticket that is out is held by a job, or was out before, of the same call
abbrev pub AreHeld : (before awaited : Awaited) → List Player → Type 0
AreHeld before awaited players = (ticket : ℕ) → IsSome (awaited ticket) → HeldBy players ticket ⊎ (awaited ticket ≡ before ticket)

-- a job that has done nothing
pub record IsNew (p : Player) : Type 0 where
  pub no_ticket : job_ticket p ≡ None
  pub holds : (wire : ℤ) → JobHolds wire p

abbrev pub AreNew : List Player → Type 0
AreNew players = (i : ℕ) (p : Player) → slice_get players i ≡ Some p → IsNew p

-- the jobs differ at most in the room for answers
pub record AreSameJobs (players players' : List Player) : Type 0 where
  pub count : length players' ≡ length players
  pub each : (i : ℕ) (p p' : Player) → slice_get players i ≡ Some p → slice_get players' i ≡ Some p' → IsSameJob p p'
