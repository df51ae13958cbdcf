-- What the parts of a link in memory do when a command is sent and when its call is polled.
use Rattle.std.specs.Prelude.{◌≡◌, ◌+◌, ◌<◌, ◌≤◌, ◌++◌, ℕ, Option, Some, None, List, [], ◌∷◌, length, map, slice_get, slice_set}
use Rattle.mg_server.specs.Kept.{Kept, steps_of}
use Rattle.mg_link.specs.Log.{Sight, waiting, reply, fault, memory, Call, see}
use Rattle.mg_server.specs.Standing.{Stands}
use Rattle.mg_link.specs.declared.link.Polled.{Polled}
use Rattle.mg_link.specs.declared.link.Polled.TheVariants as polled
use Rattle.mg_store.specs.InMemory.{fate_at, AreSmall, coming, IsAsFate, Takes, sent_call}
use Rattle.mg_store.specs.Stored.{Stored}
use Rattle.mg_store.specs.declared.fate.Fate.{Fate}
use Rattle.mg_store.specs.declared.fate.FateKind.{FateKind}
use Rattle.mg_store.specs.declared.link.Wait.{Wait}
use Rattle.mg_store.specs.declared.link.Hears.{Hears}
use Rattle.mg_store.specs.declared.link.Hears.TheVariants as hears

-- ---- what is kept for the calls

abbrev pub pended_of : List Wait → List ℕ
pended_of waits = map (λ w. w.pended) waits

-- a call is as its fate says, and while it waits its reply is kept
pub record IsKept (history : List Kept) (fate : Fate) (call : Call) (wait : Wait) : Type 0 where
  pub as_fate : IsAsFate history fate wait.pended call
  pub comes : call.seen ≡ waiting → wait.reply ≡ coming fate.kind history call.position

-- the log stands in the history, and each call is as its fate says
pub record Honest (history : List Kept) (calls : List Call) (waits : List Wait) (fates : List Fate) : Type 0 where
  pub small : AreSmall fates
  pub counted : length waits ≡ length calls
  pub stands : Stands calls (steps_of history)
  pub each : (k : ℕ) (call : Call) (wait : Wait) → slice_get calls k ≡ Some call → slice_get waits k ≡ Some wait → IsKept history (fate_at fates k) call wait

-- ---- sending

-- a command was sent: its call waits for what is to come of it
pub record Sent (kind : FateKind) (command : List ℕ) (old new : Stored) (calls calls' : List Call) (waits waits' : List Wait) : Type 0 where
  pub reply : Option (List ℕ)
  pub takes : Takes kind old new command reply
  pub calls_are : calls' ≡ calls ++ sent_call kind old.history command ∷ []
  pub waits_are : waits' ≡ waits ++ record { pended = 0; reply = reply } ∷ []

-- ---- polling

-- what a poll hears, where so many polls pend
abbrev pub Hearing : ℕ → Wait → Wait → Hears → Type 0
Hearing pend wait new hears.Nothing = (wait.pended < pend) × (new ≡ record { pended = wait.pended + 1; reply = wait.reply })
Hearing pend wait new (hears.Answer given) = (pend ≤ wait.pended) × (wait.reply ≡ Some given) × (new ≡ record { pended = wait.pended; reply = None })
Hearing pend wait new hears.Loss = (pend ≤ wait.pended) × (wait.reply ≡ None) × (new ≡ record { pended = wait.pended; reply = None })

-- the call at this place was polled
pub record HeardAt (pend : ℕ) (waits waits' : List Wait) (at : ℕ) (heard : Hears) : Type 0 where
  pub wait : Wait
  pub wait' : Wait
  pub found : slice_get waits at ≡ Some wait
  pub items : waits' ≡ slice_set waits at wait'
  pub hearing : Hearing pend wait wait' heard

-- a poll pended: one more is counted
pub record Pends (pend : ℕ) (waits waits' : List Wait) (calls calls' : List Call) (at : ℕ) : Type 0 where
  pub wait : Wait
  pub found : slice_get waits at ≡ Some wait
  pub early : wait.pended < pend
  pub waits_are : waits' ≡ slice_set waits at (record { pended = wait.pended + 1; reply = wait.reply })
  pub calls_are : calls' ≡ calls

-- a poll answered: this was to come, and this was seen
pub record Answered (pend : ℕ) (waits waits' : List Wait) (calls calls' : List Call) (at : ℕ) (come : Option (List ℕ)) (seen : Sight) : Type 0 where
  pub wait : Wait
  pub found : slice_get waits at ≡ Some wait
  pub due : pend ≤ wait.pended
  pub come_is : wait.reply ≡ come
  pub waits_are : waits' ≡ slice_set waits at (record { pended = wait.pended; reply = None })
  pub calls_are : calls' ≡ see at seen calls

-- what a poll does
abbrev pub PolledAt : Polled → ℕ → List Wait → List Wait → List Call → List Call → ℕ → Type 0
PolledAt (polled.Pending given) pend waits waits' calls calls' at = (given ≡ at) × Pends pend waits waits' calls calls' at
PolledAt (polled.Reply bytes) pend waits waits' calls calls' at = Answered pend waits waits' calls calls' at (Some bytes.items) (reply bytes.items)
PolledAt polled.Failed pend waits waits' calls calls' at = Answered pend waits waits' calls calls' at None fault
PolledAt polled.Memory pend waits waits' calls calls' at = (given : List ℕ) × Answered pend waits waits' calls calls' at (Some given) memory

-- a reply was handed over, or there was no memory for a second copy
abbrev pub HandsOver : Polled → List ℕ → List Call → List Call → ℕ → Type 0
HandsOver (polled.Pending given) came calls calls' at = ⊥
HandsOver (polled.Reply bytes) came calls calls' at = (bytes.items ≡ came) × (calls' ≡ see at (reply came) calls)
HandsOver polled.Failed came calls calls' at = ⊥
HandsOver polled.Memory came calls calls' at = calls' ≡ see at memory calls
