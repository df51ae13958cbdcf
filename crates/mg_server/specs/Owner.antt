-- Which cursors a caller owns, and what the calls of others leave of it.
use Rattle.std.specs.Prelude.{◌≡◌, ◌≢◌, ◌⊎◌, ℕ, ℤ, pos, Option, Some, List, [], ◌∷◌, ◌++◌, length, slice_get, take}
use Rattle.mg_link.specs.Link.{LogTold}
use Rattle.mg_link.specs.Log.{reply, Call}
use Rattle.mg_server.specs.Commands.{Asked, asked}
use Rattle.mg_server.specs.History.{Step, IsLegal, IsLegalFrom, state_of, told_at}
use Rattle.mg_server.specs.Standing.{Names, OpensId, TookEffect, GivenTo, SeenGiven, Stands}

-- it is one of the list
abbrev pub IsOf : {A : Type 0} → List A → A → Type 0
IsOf [] x = ⊥
IsOf (y ∷ ys) x = (y ≡ x) ⊎ IsOf ys x

pub record Owner : Type 0 where
  -- the ids of the cursors that are a caller's; 0 is none
  pub ids : List ℤ
  -- the places in the log of its calls in flight whose replies may give it another
  pub coming : List (Option ℕ)

-- a caller without cursors
abbrev pub nobody : Owner
nobody = record { ids = []; coming = [] }

-- the cursor is the caller's, also where the reply that gives it has not come
pub data Owns (calls : List Call) (history : List Step) (o : Owner) (x : ℤ) : Type 0 where
  by_id : IsOf o.ids x → x ≢ pos 0 → Owns calls history o x
  by_reply : (k position : ℕ) (step : Step) → IsOf o.coming (Some k) → TookEffect calls history k position step → OpensId (told_at step) x → Owns calls history o x

-- A caller's calls in flight stand in the log, and its cursors were given to it by replies that were seen.
pub record Holds (calls : List Call) (o : Owner) : Type 0 where
  pub in_log : (k : ℕ) → IsOf o.coming (Some k) → (call : Call) × (slice_get calls k ≡ Some call)
  pub given : (history : List Step) → IsLegal history → Stands calls history → (x : ℤ) → IsOf o.ids x → x ≢ pos 0 → GivenTo calls history x
  pub seen : (history : List Step) → IsLegal history → Stands calls history → (x : ℤ) → IsOf o.ids x → x ≢ pos 0 → SeenGiven calls (length calls) x

-- no cursor is of both callers
abbrev pub Apart : List Call → Owner → Owner → Type 0
Apart calls o g = (history : List Step) → IsLegal history → Stands calls history → (x : ℤ) → Owns calls history o x → Owns calls history g x → ⊥

-- the command names cursors of the caller only
abbrev pub NamesOwn : Owner → Asked → Type 0
NamesOwn o command = (x : ℤ) → Names command x → IsOf o.ids x × (x ≢ pos 0)

-- none of the steps names the cursor
abbrev pub NoneNames : List Step → ℤ → Type 0
NoneNames [] x = Unit {0}
NoneNames (step ∷ steps) x = (Names (asked step.command) x → ⊥) × NoneNames steps x

-- each call is still there, and where a reply was seen it is still seen
pub record IsGrown (calls calls' : List Call) : Type 0 where
  pub keeps : (k : ℕ) (call : Call) → slice_get calls k ≡ Some call
      → (call' : Call) × (slice_get calls' k ≡ Some call') × (call'.command ≡ call.command) × (call'.position ≡ call.position) × ((bytes : List ℕ) → call.seen ≡ reply bytes → call'.seen ≡ reply bytes)

-- an earlier history, in which the earlier log stands; what came after it names no cursor of the caller
pub record Earlier (calls : List Call) (o : Owner) (history : List Step) : Type 0 where
  pub before : List Step
  pub tail : List Step
  pub whole : history ≡ before ++ tail
  pub legal : IsLegal before
  pub stands : Stands calls before
  pub rest : IsLegalFrom (state_of before) tail
  pub silent : (x : ℤ) → Owns calls before o x → GivenTo calls before x → NoneNames tail x

-- The calls of others led from one log to another: they left this caller's cursors alone.
pub record Onward (calls calls' : List Call) (o : Owner) : Type 0 where
  pub grown : IsGrown calls calls'
  pub earlier : (history : List Step) → IsLegal history → Stands calls' history → Earlier calls o history

-- Where the front of the log before a call stands in a legal history, the call names only cursors that this front saw given. What stands of the log is enough:
-- a call whose own reply no server could have given, or one behind it, takes nothing from what is said of those before.
abbrev pub NamesItsOwn : List Call → Type 0
NamesItsOwn calls = (k : ℕ) (call : Call) (x : ℤ) (history : List Step) → IsLegal history → Stands (take k calls) history → slice_get calls k ≡ Some call → Names (asked call.command) x → SeenGiven calls k x

-- A caller went from one log and owner to another: every other caller is left alone, and is apart still.
pub record Passes (calls calls' : List Call) (o o' : Owner) : Type 0 where
  pub holds : Holds calls' o'
  pub onward : (g : Owner) → Holds calls g → Apart calls o g → Onward calls calls' g
  pub apart : (g : Owner) → Holds calls g → Apart calls o g → Apart calls' o' g
  pub made : NamesItsOwn calls → NamesItsOwn calls'

-- the same of a caller that opens no cursor, between logs that are told
abbrev pub PassesPlain : LogTold → LogTold → Type 0
PassesPlain log log' = (calls : List Call) → log ≡ Some calls → (calls' : List Call) × (log' ≡ Some calls') × Passes calls calls' nobody nobody

-- callers side by side, by what they own: no two own the same cursor
pub record AreApart (calls : List Call) (owners : List Owner) : Type 0 where
  pub holds : (i : ℕ) (o : Owner) → slice_get owners i ≡ Some o → Holds calls o
  pub apart : (i j : ℕ) (o g : Owner) → i ≢ j → slice_get owners i ≡ Some o → slice_get owners j ≡ Some g → Apart calls o g
