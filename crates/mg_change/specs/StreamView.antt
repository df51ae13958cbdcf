-- What the parts of change streams are seen as.
use Rattle.std.specs.Prelude.{◌≡◌, ℕ, Bool, true, false, List, [], ◌∷◌, Option, Some, None, is_some, option_and_then, option_map}
use Rattle.mg_bson.specs.Tree.{Tree}
use Rattle.mg_ops.specs.declared.aggregate.ChangeStreamAggregate.{ChangeStreamAggregate}
use Rattle.mg_ops.specs.declared.change_stream.ChangeStreamData.{ChangeStreamData}
use Rattle.mg_steps.specs.Token.{place_behind, place_empty}
use Rattle.mg_cursor.specs.Client.{asks, holds, rests}
use Rattle.mg_cursor.specs.Client as cursors
use Rattle.mg_cursor.specs.View.{behind_of, client_of, current_of}
use Rattle.mg_change.specs.ClientStreams.{ClientStream, Doing, IsSound, follows, id_in, kills, owes, renewed, resumes}
use Rattle.mg_change.specs.declared.changes.Changes.{Changes}
use Rattle.mg_change.specs.declared.changes.Phase.{Phase}
use Rattle.mg_change.specs.declared.changes.Phase.TheVariants as phase
use Rattle.mg_steps.specs.declared.token.TokenPlace.{TokenPlace}
use Rattle.mg_steps.specs.declared.token.TokenPlace.TheVariants as place
use Rattle.mg_change.specs.declared.session_stream.SessionChangeStream.{SessionChangeStream}
use Rattle.mg_change.specs.declared.stream.ChangeStream.{ChangeStream}

abbrev pub doing_of : Phase → Doing
doing_of phase.Follows = follows
doing_of phase.Owes = owes
doing_of (phase.Resumes exec) = resumes exec
doing_of (phase.Kills old) = kills old
doing_of phase.Renewed = renewed

-- the cached token, by where it lies: in the stream, in its last event, or behind its newest batch
abbrev pub token_lying : TokenPlace → Option Tree → Option (List ℕ) → Option Tree → Option Tree
token_lying place.Saved saved event batch = saved
token_lying place.Event saved event batch = option_and_then id_in event
token_lying place.Batch saved event batch = batch

abbrev pub known_at : TokenPlace → Option (List ℕ) → Option Tree → ChangeStreamData → ChangeStreamData
known_at at event batch known = record known { resume_token = token_lying at known.resume_token event batch }

-- the aggregate that resumes it, with the cached token
abbrev pub aggregate_of : Changes → ChangeStreamAggregate
aggregate_of s = record s.aggregate { resume = option_map (known_at s.token (current_of s.buffer) (client_of s.batches).token) s.aggregate.resume }

-- the event that is lent
abbrev pub lent_if : Bool → Option (List ℕ) → Option (List ℕ)
lent_if true event = event
lent_if false event = None

abbrev pub changes_of : Changes → ClientStream
changes_of s = record { aggregate = aggregate_of s; cursor = client_of s.batches; current = lent_if s.lends (current_of s.buffer); behind = behind_of s.buffer; counts = s.counts; doing = doing_of s.phase }

abbrev pub changes_in : {T : Type 0} → ChangeStream T → Changes
changes_in s = s.changes

abbrev pub session_changes_in : {T : Type 0} → SessionChangeStream T → Changes
session_changes_in s = s.changes

abbrev pub stream_of : {T : Type 0} → ChangeStream T → ClientStream
stream_of s = changes_of s.changes

abbrev pub session_stream_of : {T : Type 0} → SessionChangeStream T → ClientStream
session_stream_of s = changes_of s.changes

-- the token lies in an event that was lent
abbrev pub is_lent : TokenPlace → Bool
is_lent place.Saved = false
is_lent place.Event = true
is_lent place.Batch = false

-- it does not
abbrev pub IsOwnPlace : TokenPlace → Type 0
IsOwnPlace place.Saved = Unit {0}
IsOwnPlace place.Event = ⊥
IsOwnPlace place.Batch = Unit {0}

-- The stream's token lies in no event that was lent: it can be handed over without memory.
abbrev pub OwnsToken : {T : Type 0} → ChangeStream T → Type 0
OwnsToken s = IsOwnPlace s.changes.token

abbrev pub OwnsSessionToken : {T : Type 0} → SessionChangeStream T → Type 0
OwnsSessionToken s = IsOwnPlace s.changes.token

-- ---- for private clauses

-- a token of its own stays its own
abbrev pub KeepsOwn : TokenPlace → TokenPlace → Type 0
KeepsOwn before now = IsOwnPlace before → IsOwnPlace now

-- the token lies in the stream itself
abbrev pub IsSavedPlace : TokenPlace → Type 0
IsSavedPlace place.Saved = Unit {0}
IsSavedPlace place.Event = ⊥
IsSavedPlace place.Batch = ⊥

-- where it lies elsewhere: its last event is there and has it, or the batch has one
abbrev pub IsThere : TokenPlace → Option (List ℕ) → Option Tree → Type 0
IsThere place.Saved event batch = Unit {0}
IsThere place.Event event batch = (token : Tree) × (option_and_then id_in event ≡ Some token)
IsThere place.Batch event batch = (token : Tree) × (batch ≡ Some token)

-- a stream that asks, or owes a resumption, keeps its token itself, since the batch in hand goes
abbrev pub SavesBy : TokenPlace → Doing → Type 0
SavesBy at follows = Unit {0}
SavesBy at owes = IsSavedPlace at
SavesBy at (resumes sending) = IsSavedPlace at
SavesBy at (kills old) = IsSavedPlace at
SavesBy at renewed = IsSavedPlace at

-- a token that lies in the batch in hand, or behind it, is saved before the next reply comes
abbrev pub SavesWhile : TokenPlace → cursors.Doing → Type 0
SavesWhile at rests = Unit {0}
SavesWhile at (holds reply) = IsSavedPlace at
SavesWhile at (asks sending) = IsSavedPlace at

-- the event that was given was the last one of its batch
abbrev pub was_last : List (List ℕ) → Bool
was_last [] = true
was_last (e ∷ es) = false

-- where it lies behind the event that was given
abbrev pub place_by : List (List ℕ) → Option Tree → TokenPlace
place_by events token = place_behind (was_last events) (is_some token)

-- where it lies behind an empty batch
abbrev pub empty_place : TokenPlace → Option Tree → TokenPlace
empty_place at token = place_empty at (is_some token)

-- with this token
abbrev pub with_token : Option Tree → ChangeStreamAggregate → ChangeStreamAggregate
with_token token a = record a { resume = option_map (λ (known : ChangeStreamData). record known { resume_token = token }) a.resume }

-- an event was given
abbrev pub returned : ChangeStreamAggregate → ChangeStreamAggregate
returned a = record a { resume = option_map (λ (known : ChangeStreamData). record known { document_returned = true }) a.resume }

-- the token is where it lies, and is saved where the batch in hand may go
pub record IsPlaced (s : Changes) : Type 0 where
  pub saves : SavesBy s.token (doing_of s.phase)
  pub saves_so : SavesWhile s.token (client_of s.batches).doing
  pub there : IsThere s.token (current_of s.buffer) (client_of s.batches).token

-- ---- whether it is sound

-- what is on its way is its own, and its token is where it lies
pub record IsStream (plain : Bool) (s : Changes) : Type 0 where
  pub sound : IsSound plain (changes_of s)
  pub placed : IsPlaced s

abbrev pub IsPlainStream : {T : Type 0} → ChangeStream T → Type 0
IsPlainStream s = IsStream true s.changes

abbrev pub IsSessionStream : {T : Type 0} → SessionChangeStream T → Type 0
IsSessionStream s = IsStream false s.changes
