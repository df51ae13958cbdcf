-- A runner, whose jobs share a link.
use Rattle.std.specs.Prelude.{ℕ, ℤ, Bool, true, Option, Some, None, List, slice_get}
use Rattle.mg_link.specs.Link.{Awaited}
use Rattle.mg_players.specs.Runs.{MayAllGo, has_ended}
use Rattle.mg_turns.specs.declared.turned.Turned.{Turned}
use Rattle.mg_jobs.specs.declared.run.Runner.{Runner}
use Rattle.mg_players.specs.declared.player.Player.{Player}

-- the jobs of a runner, in their order, and the notes of the turns that it gave
abbrev pub players_of : Runner → List Player
players_of r = r.players.items

abbrev pub notes_of : Runner → List Turned
notes_of r = r.turns.items

-- the runner may give turns over a link of these tickets and this wire version
abbrev pub Stands : Awaited → ℤ → Runner → Type 0
Stands awaited wire runner = MayAllGo awaited wire (players_of runner)

-- whether the job of this number sends nothing more
abbrev pub ended_at : Option Player → Bool
ended_at None = true
ended_at (Some p) = has_ended p

abbrev pub job_ended : Runner → ℕ → Bool
job_ended runner job = ended_at (slice_get (players_of runner) job)
