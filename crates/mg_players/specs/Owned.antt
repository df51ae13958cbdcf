-- Whose cursors the jobs of a run own and name.
use Rattle.std.specs.Prelude.{◌≡◌, ◌<◌, ℕ, ℤ, List, Some, slice_get}
use Rattle.mg_server.specs.Commands.{asked}
use Rattle.mg_server.specs.History.{IsLegal, Step, told_at}
use Rattle.mg_link.specs.Link.{LogTold}
use Rattle.mg_link.specs.Log.{Call}
use Rattle.mg_server.specs.Owner.{IsOf, Owner, Owns}
use Rattle.mg_server.specs.Standing.{Names, OpensId, Stands, TookEffect}
use Rattle.mg_players.specs.Causes.{Course, course, places_of}
use Rattle.mg_turns.specs.declared.turned.Turned.{Turned}

-- a command at one of these places opened the cursor
pub record IsGivenBy (calls : List Call) (history : List Step) (places : List ℕ) (x : ℤ) : Type 0 where
  pub place : ℕ
  pub of : IsOf places place
  pub position : ℕ
  pub step : Step
  pub took : TookEffect calls history place position step
  pub opens : OpensId (told_at step) x

-- each cursor of job i was opened by a command of its own
abbrev pub OwnsItsOwn : List Call → Course → ℕ → Owner → Type 0
OwnsItsOwn calls c i o = (history : List Step) → IsLegal history → Stands calls history → (x : ℤ) → Owns calls history o x → IsGivenBy calls history (places_of c i) x

-- Where a command of job i names a cursor that a command of the log opened before, that was one of job i too.
abbrev pub NamesNoOthers : List Call → Course → ℕ → Type 0
NamesNoOthers calls c i = (history : List Step) → IsLegal history → Stands calls history → (place position : ℕ) (step : Step) → IsOf (places_of c i) place → TookEffect calls history place position step → (x : ℤ) → Names (asked step.command) x
    → (at from : ℕ) (opening : Step) → TookEffect calls history at from opening → from < position → OpensId (told_at opening) x → IsOf (places_of c i) at

-- so it is for all jobs, which own these
pub record AllOwn (calls : List Call) (c : Course) (owners : List Owner) : Type 0 where
  pub owns : (i : ℕ) (o : Owner) → slice_get owners i ≡ Some o → OwnsItsOwn calls c i o
  pub names : (i : ℕ) → NamesNoOthers calls c i

-- Over a link that tells its log, each job of a run names its own cursors alone.
abbrev pub AllNameOwn : LogTold → LogTold → List ℕ → List Turned → Type 0
AllNameOwn log log' order notes = (calls : List Call) → log ≡ Some calls → (calls' : List Call) × (log' ≡ Some calls') × ((i : ℕ) → NamesNoOthers calls' (course calls order notes) i)
