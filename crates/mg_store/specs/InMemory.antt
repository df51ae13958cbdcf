-- A link to a store in this process: what it keeps, and when a call is as its fate says.
use Rattle.std.specs.Prelude.{◌≡◌, ◌+◌, ◌<◌, ◌≤◌, ◌++◌, Bool, true, ℕ, zero, suc, ℤ, pos, Option, Some, None, option_map, List, [], ◌∷◌, length, map, slice_get, string_bytes, Result, Ok, Err}
use Rattle.mg_bson.specs.Tree.{Fields}
use Rattle.mg_bson.specs.Bytes.{bytes}
use Rattle.mg_bson.specs.Raw.{fields}
use Rattle.mg_server.specs.Commands.{asked}
use Rattle.mg_server.specs.Kept.{Kept, IsReply, given_of, state_of_kept}
use Rattle.mg_link.specs.Log.{Sight, waiting, reply, fault, memory, Call}
use Rattle.mg_server.specs.Rules.{answer_of, refusal}
use Rattle.mg_server.specs.Standing.{Names}
use Rattle.mg_link.specs.declared.link.LinkError.{LinkError}
use Rattle.mg_link.specs.declared.link.LinkError.TheVariants as errors
use Rattle.mg_link.specs.declared.link.Polled.{Polled}
use Rattle.mg_link.specs.declared.link.Polled.TheVariants as polled
use Rattle.mg_link.specs.declared.link.Ticket.{Ticket}
use Rattle.mg_query.specs.Replies.{fits}
use Rattle.mg_store.specs.Stored.{Stored}
use Rattle.mg_store.specs.declared.fate.Fate.{Fate}
use Rattle.mg_store.specs.declared.fate.FateKind.{FateKind}
use Rattle.mg_store.specs.declared.fate.FateKind.TheVariants as kinds

-- ---- fates

-- the fate of a command behind the end of the list
abbrev pub fate_of : Option Fate → Fate
fate_of None = record { pend = 0; kind = kinds.Keep }
fate_of (Some fate) = fate

-- the fate of the command of this number
abbrev pub fate_at : List Fate → ℕ → Fate
fate_at fates number = fate_of (slice_get fates number)

-- a refusal that it names is no larger than a reply may be
abbrev pub IsSmall : FateKind → Type 0
IsSmall kinds.Keep = Unit {0}
IsSmall kinds.Lose = Unit {0}
IsSmall kinds.Drop = Unit {0}
IsSmall (kinds.Refuse code labels) = length (bytes (refusal code (map string_bytes labels.items))) ≤ 47000000

-- the same as an answer: what a reply can hold has at most its bytes and its levels
abbrev pub is_small : FateKind → Bool
is_small kinds.Keep = true
is_small kinds.Lose = true
is_small kinds.Drop = true
is_small (kinds.Refuse code labels) = fits (refusal code (map string_bytes labels.items))

abbrev pub AreSmall : List Fate → Type 0
AreSmall [] = Unit {0}
AreSmall (fate ∷ fates) = IsSmall fate.kind × AreSmall fates

-- ---- a call and its fate

-- the command took effect as the step at this position, whose reply is this document behind the steps before
pub record TookStep (document : List Kept → Fields) (history : List Kept) (command : List ℕ) (position : Option ℕ) : Type 0 where
  pub before : List Kept
  pub later : List Kept
  pub given : List ℕ
  pub these : history ≡ before ++ record { command = command; reply = given } ∷ later
  pub placed : position ≡ Some (length before)
  pub replies : IsReply (document before) given

-- the reply of the rules
abbrev pub by_rules : List ℕ → List Kept → Fields
by_rules command before = (answer_of (state_of_kept before) (pos (suc (given_of before))) (fields command)).reply

-- what was performed of a command
abbrev pub TookAs : FateKind → List Kept → List ℕ → Option ℕ → Type 0
TookAs kinds.Keep history command position = TookStep (by_rules command) history command position
TookAs kinds.Lose history command position = TookStep (by_rules command) history command position
TookAs kinds.Drop history command position = position ≡ None
TookAs (kinds.Refuse code labels) history command position = TookStep (λ before. refusal code (map string_bytes labels.items)) history command position

-- the reply of the step at this position
abbrev pub reply_at : List Kept → Option ℕ → Option (List ℕ)
reply_at history None = None
reply_at history (Some position) = option_map (λ kept. kept.reply) (slice_get history position)

-- the reply that comes of it, where one comes
abbrev pub coming : FateKind → List Kept → Option ℕ → Option (List ℕ)
coming kinds.Keep history position = reply_at history position
coming kinds.Lose history position = None
coming kinds.Drop history position = None
coming (kinds.Refuse code labels) history position = reply_at history position

-- what is seen of a call, where this comes of it: nothing yet, the reply or want of memory, and otherwise a fault
abbrev pub SeesWhatComes : Option (List ℕ) → Sight → Type 0
SeesWhatComes (Some given) waiting = Unit {0}
SeesWhatComes (Some given) (reply bytes) = bytes ≡ given
SeesWhatComes (Some given) fault = ⊥
SeesWhatComes (Some given) memory = Unit {0}
SeesWhatComes None waiting = Unit {0}
SeesWhatComes None (reply bytes) = ⊥
SeesWhatComes None fault = Unit {0}
SeesWhatComes None memory = ⊥

-- how many polls pended: at most so many while the call waits, and just so many before its answer
abbrev pub PendedAs : ℕ → ℕ → Sight → Type 0
PendedAs pend pended waiting = pended ≤ pend
PendedAs pend pended (reply bytes) = pended ≡ pend
PendedAs pend pended fault = pended ≡ pend
PendedAs pend pended memory = pended ≡ pend

-- the call is as its fate says, after so many polls that pended
pub record IsAsFate (history : List Kept) (fate : Fate) (pended : ℕ) (call : Call) : Type 0 where
  pub took : TookAs fate.kind history call.command call.position
  pub sees : SeesWhatComes (coming fate.kind history call.position) call.seen
  pub pends : PendedAs fate.pend pended call.seen

-- each call is as its fate says; pended tells how many polls of each call pended
pub record AreAsFates (history : List Kept) (fates : List Fate) (calls : List Call) (pended : List ℕ) : Type 0 where
  pub counted : length pended ≡ length calls
  pub each : (k : ℕ) (call : Call) (n : ℕ) → slice_get calls k ≡ Some call → slice_get pended k ≡ Some n → IsAsFate history (fate_at fates k) n call

-- each position is that of a step
abbrev pub ArePlaced : List Kept → List Call → Type 0
ArePlaced history calls = (k : ℕ) (call : Call) (position : ℕ) → slice_get calls k ≡ Some call → call.position ≡ Some position → position < length history

-- ---- a command that is started

-- a step was added, whose reply is this document
pub record Performed (document : List Kept → Fields) (old new : Stored) (command given : List ℕ) : Type 0 where
  pub history : new.history ≡ old.history ++ record { command = command; reply = given } ∷ []
  pub replies : IsReply (document old.history) given

-- what is performed of a command, and the reply that comes of it
abbrev pub Takes : FateKind → Stored → Stored → List ℕ → Option (List ℕ) → Type 0
Takes kinds.Keep old new command (Some given) = Performed (by_rules command) old new command given
Takes kinds.Keep old new command None = ⊥
Takes kinds.Lose old new command (Some given) = ⊥
Takes kinds.Lose old new command None = (given : List ℕ) × Performed (by_rules command) old new command given
Takes kinds.Drop old new command (Some given) = ⊥
Takes kinds.Drop old new command None = new ≡ old
Takes (kinds.Refuse code labels) old new command (Some given) = Performed (λ before. refusal code (map string_bytes labels.items)) old new command given
Takes (kinds.Refuse code labels) old new command None = ⊥

-- the position of the step of a command that is sent behind this history
abbrev pub position_behind : FateKind → List Kept → Option ℕ
position_behind kinds.Keep history = Some (length history)
position_behind kinds.Lose history = Some (length history)
position_behind kinds.Drop history = None
position_behind (kinds.Refuse code labels) history = Some (length history)

-- the call of a command that is sent behind this history
abbrev pub sent_call : FateKind → List Kept → List ℕ → Call
sent_call kind history command = record { command = command; position = position_behind kind history; seen = waiting }

-- a command was sent, and has the ticket with the place of its call
pub record Started (number : ℕ) (kind : FateKind) (command : List ℕ) (old new : Stored) (calls calls' : List Call) (pended pended' : List ℕ) : Type 0 where
  pub place : number ≡ length calls
  pub come : Option (List ℕ)
  pub takes : Takes kind old new command come
  pub calls_are : calls' ≡ calls ++ sent_call kind old.history command ∷ []
  pub pended_are : pended' ≡ pended ++ 0 ∷ []

-- what a start does: the command was sent as its fate says, or there was no memory and nothing changed
abbrev pub StartedAs : Result Ticket LinkError → FateKind → List ℕ → (old new : Stored) → (calls calls' : List Call) → (pended pended' : List ℕ) → Type 0
StartedAs (Ok number) kind command old new calls calls' pended pended' = Started number kind command old new calls calls' pended pended'
StartedAs (Err errors.Fault) kind command old new calls calls' pended pended' = ⊥
StartedAs (Err errors.Memory) kind command old new calls calls' pended pended' = (new ≡ old) × (calls' ≡ calls) × (pended' ≡ pended)

-- ---- the link

-- the command asks about no cursor
abbrev pub NamesNone : List ℕ → Type 0
NamesNone command = (x : ℤ) → Names (asked command) x → ⊥

-- what a link in memory is to its callers; pended tells how many polls of each call pended
pub record InMemory : Type 0 where
  pub stored : Stored
  pub calls : List Call
  pub pended : List ℕ
  pub fates : List Fate
  pub wire : ℤ

abbrev pub fault_by : Sight → ℕ
fault_by waiting = 0
fault_by (reply bytes) = 0
fault_by fault = 1
fault_by memory = 0

-- how many calls saw a fault
abbrev pub faults_in : List Call → ℕ
faults_in [] = 0
faults_in (call ∷ calls) = fault_by call.seen + faults_in calls

-- how many polls pended
abbrev pub pends_in : List ℕ → ℕ
pends_in [] = 0
pends_in (n ∷ pended) = n + pends_in pended

-- the counts, where the one at this place is one more
abbrev pub one_more : ℕ → List ℕ → List ℕ
one_more place [] = []
one_more zero (n ∷ pended) = (n + 1) ∷ pended
one_more (suc place) (n ∷ pended) = n ∷ one_more place pended

-- the counts behind a poll of the call at this place
abbrev pub pended_after : Polled → ℕ → List ℕ → List ℕ
pended_after (polled.Pending given) place pended = one_more place pended
pended_after (polled.Reply bytes) place pended = pended
pended_after polled.Failed place pended = pended
pended_after polled.Memory place pended = pended

-- the reply of a command with this fate comes
abbrev pub Comes : FateKind → Type 0
Comes kinds.Keep = Unit {0}
Comes kinds.Lose = ⊥
Comes kinds.Drop = ⊥
Comes (kinds.Refuse code labels) = Unit {0}

-- each command from this number on is performed and answered at once
abbrev pub AreKept : ℕ → List Fate → Type 0
AreKept from fates = (k : ℕ) → from ≤ k → fate_at fates k ≡ fate_of None

-- each later command is performed and answered at once, and so is each that waits for its reply
pub record IsPromptLink (fates : List Fate) (calls : List Call) (pended : List ℕ) : Type 0 where
  pub later : AreKept (length calls) fates
  pub waits : (k : ℕ) (call : Call) (n : ℕ) → slice_get calls k ≡ Some call → slice_get pended k ≡ Some n → call.seen ≡ waiting
      → Comes (fate_at fates k).kind × ((fate_at fates k).pend ≤ n)
