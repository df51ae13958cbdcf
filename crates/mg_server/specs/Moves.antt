-- Where a stream is behind a request of it, and behind the answer to that.
use Rattle.std.specs.Prelude.{◌≡◌, ◌⊎◌, ℕ, ℤ, pos, List, [], Option}
use Rattle.mg_link.specs.Namespace.{Space}
use Rattle.mg_server.specs.Commands.{Batch, asks_more, garbled, told}
use Rattle.mg_link.specs.Exec.{Stage, unsent, first, second}
use Rattle.mg_link.specs.Link.{Awaited, LogTold}
use Rattle.mg_link.specs.Log.{Sight, reply}
use Rattle.mg_server.specs.Follow.{Follow, HasNoBatch, Moved, Reads, holding, owing, resting}

-- the stream at a stage of its request
abbrev pub at_stage : Follow → (Option ℕ → Follow) → Awaited → Stage → Follow
at_stage idle waiting_at awaited unsent = idle
at_stage idle waiting_at awaited (first ticket) = waiting_at (awaited ticket)
at_stage idle waiting_at awaited (second ticket) = waiting_at (awaited ticket)

-- it owes a resumption
abbrev pub owed : Follow → Follow
owed f = record f { doing = owing }

-- it has a batch of its cursor
abbrev pub given_with : Follow → Batch → Follow
given_with f batch = record f { doing = holding; cursor = batch.id; old = pos 0; ahead = batch.events; upto = batch.token }

-- it has a new cursor, and its old one is still to be killed
abbrev pub resumed_with : Follow → Batch → Follow
resumed_with f batch = record f { doing = holding; cursor = batch.id; old = f.cursor; ahead = batch.events; upto = batch.token }

-- it came to rest with this cursor
abbrev pub rested : Follow → ℤ → Follow
rested f cursor = record f { doing = resting; cursor = cursor; old = pos 0; ahead = [] }

-- Where a stream is behind an answer to its getMore, as it likes: it owes; or a batch was read; or it rests where the reply held none; or the reply is none that a server may give.
pub record MoreAnswered (f : Follow) (log log' : LogTold) (g : Follow) (seen : Sight) : Type 0 where
  pub lost : Moved log log' g (owed f)
  pub heard : (bytes : List ℕ) → seen ≡ reply bytes → (batch : Batch) → Reads bytes batch → Moved log log' g (given_with f batch)
  pub rests : (bytes : List ℕ) → seen ≡ reply bytes → (cursor : ℤ) → (cursor ≡ f.cursor) ⊎ (cursor ≡ pos 0) → ((space : Space) → HasNoBatch (told (asks_more f.cursor space) bytes)) → Moved log log' g (rested f cursor)
  pub spoiled : (bytes : List ℕ) → seen ≡ reply bytes → (batch : Batch) → ((space : Space) → told (asks_more f.cursor space) bytes ≡ garbled) → Moved log log' g (given_with f batch)
