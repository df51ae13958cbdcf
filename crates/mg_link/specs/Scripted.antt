-- A link that answers by a list.
use Rattle.std.specs.Prelude.{◌≡◌, ℕ, ℤ, List, map}
use Rattle.mg_link.specs.Log.{Call}
use Rattle.mg_link.specs.declared.script_link.Heard.{Heard}
use Rattle.mg_link.specs.declared.script_link.Heard.TheVariants as heard

-- its calls, how many polls of each of them pended, its counts and its wire version
pub record Scripting : Type 0 where
  pub calls : List Call
  pub pended : List ℕ
  pub faults : ℕ
  pub pends : ℕ
  pub wire : ℤ

-- the commands of the calls
abbrev pub commands_of : List Call → List (List ℕ)
commands_of calls = map (λ c. c.command) calls

-- both copies of a reply are the same
abbrev pub IsOneReply : Heard → Type 0
IsOneReply (heard.Reply bytes kept) = kept.items ≡ bytes.items
IsOneReply heard.Fault = Unit {0}
IsOneReply heard.Memory = Unit {0}
