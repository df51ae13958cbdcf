-- Jobs that go on turn by turn.
use Rattle.std.specs.Prelude.{◌≡◌, ◌<◌, ℕ, ℤ, pos, Bool, true, false, Option, None, vec_capacity, vec_len}
use Rattle.mg_cursor.specs.Client as cursors
use Rattle.mg_cursor.specs.Closing.{IsNotAsking}
use Rattle.mg_change.specs.ClientStreams.{stream_ticket}
use Rattle.mg_change.specs.ClosingStreams.{IsSoundClosing, Landing, ends, lands, lands_aggregate, lands_replaced, stream_closing_ticket}
use Rattle.mg_change.specs.OpeningView.{IsPlainOpening, ticket_in}
use Rattle.mg_change.specs.StreamView.{IsPlainStream, OwnsToken, stream_of}
use Rattle.mg_ops.specs.Inserts.{SendsPlain, insert_ticket}
use Rattle.mg_players.specs.Gets.{get_ticket}
use Rattle.mg_players.specs.declared.insert.InsertPlayer.{InsertPlayer}
use Rattle.mg_players.specs.declared.insert.InsertStage.{InsertStage}
use Rattle.mg_players.specs.declared.insert.InsertStage.TheVariants as inserts
use Rattle.mg_script.specs.declared.outcome.Ended.{Ended}
use Rattle.mg_script.specs.declared.outcome.Ended.TheVariants as ended
use Rattle.mg_players.specs.declared.follow.FollowPlayer.{FollowPlayer}
use Rattle.mg_players.specs.declared.follow.Stage.{Stage}
use Rattle.mg_players.specs.declared.follow.Stage.TheVariants as stage
use Rattle.mg_players.specs.Puts.{put_ticket}
use Rattle.mg_players.specs.declared.player.Player.{Player}
use Rattle.mg_players.specs.declared.player.Player.TheVariants as player

-- the ticket that an insert holds
abbrev pub inserts_ticket : InsertStage → Option ℕ
inserts_ticket inserts.Unsent = None
inserts_ticket (inserts.Goes inserting) = insert_ticket inserting
inserts_ticket (inserts.Ended ended) = None

abbrev pub player_ticket : InsertPlayer → Option ℕ
player_ticket job = inserts_ticket job.stage

-- an insert that sends nothing more
abbrev pub inserts_ended : InsertStage → Bool
inserts_ended inserts.Unsent = false
inserts_ended (inserts.Goes inserting) = false
inserts_ended (inserts.Ended ended) = true

abbrev pub insert_ended : InsertPlayer → Bool
insert_ended job = inserts_ended job.stage

-- what an insert came to
abbrev pub end_of : InsertStage → Ended ℕ
end_of inserts.Unsent = ended.Unfinished
end_of (inserts.Goes inserting) = ended.Unfinished
end_of (inserts.Ended e) = e

-- an insert that drew its ids
abbrev pub HasIds : InsertStage → Type 0
HasIds inserts.Unsent = ⊥
HasIds (inserts.Goes inserting) = Unit {0}
HasIds (inserts.Ended ended) = Unit {0}

-- the two insert the same documents into the same collection, and ids that were drawn stay so
abbrev pub IsSameInsert : InsertPlayer → InsertPlayer → Type 0
IsSameInsert job job' = (job'.ns ≡ job.ns) × (job'.documents ≡ job.documents) × (HasIds job.stage → HasIds job'.stage)

-- the ticket that a follow holds
abbrev pub stage_ticket : Stage → Option ℕ
stage_ticket stage.Unopened = None
stage_ticket (stage.Opens opening) = ticket_in opening
stage_ticket (stage.Open stream) = stream_ticket (stream_of stream)
stage_ticket (stage.Closes closing) = stream_closing_ticket closing
stage_ticket stage.Ended = None

-- a follow that sends nothing more
abbrev pub follow_ended : Stage → Bool
follow_ended stage.Unopened = false
follow_ended (stage.Opens opening) = false
follow_ended (stage.Open stream) = false
follow_ended (stage.Closes closing) = false
follow_ended stage.Ended = true

-- a closing of a stream at rest: it has nothing on its way but the killing of its cursor
abbrev pub IsLast : cursors.Doing → ℤ → Landing → Type 0
IsLast c opened lands = IsNotAsking c × (opened ≡ pos 0)
IsLast c opened (lands_aggregate sending) = ⊥
IsLast c opened (lands_replaced before) = ⊥
IsLast c opened (ends sending) = IsNotAsking c × (opened ≡ pos 0)

-- its stream keeps what it has to
abbrev pub StageHolds : Stage → Type 0
StageHolds stage.Unopened = Unit {0}
StageHolds (stage.Opens opening) = IsPlainOpening opening
StageHolds (stage.Open stream) = IsPlainStream stream × OwnsToken stream
StageHolds (stage.Closes closing) = IsLast closing.cursor.doing closing.opened closing.doing × IsSoundClosing closing
StageHolds stage.Ended = Unit {0}

-- there is a place for one more answer
abbrev pub HasRoom : FollowPlayer → Type 0
HasRoom f = vec_len f.answers < vec_capacity f.answers

-- the two differ at most in the room for answers
pub record IsSameFollow (f f' : FollowPlayer) : Type 0 where
  pub watched_same : f'.watched ≡ f.watched
  pub stage_same : f'.stage ≡ f.stage
  pub left_same : f'.left ≡ f.left
  pub opened_same : f'.opened ≡ f.opened
  pub answers_same : f'.answers.items ≡ f.answers.items
  pub token_same : f'.token ≡ f.token
  pub alive_same : f'.alive ≡ f.alive
  pub closed_same : f'.closed ≡ f.closed

-- what an insert has in flight names no cursor
abbrev pub IsPlainInsert : InsertStage → Type 0
IsPlainInsert inserts.Unsent = Unit {0}
IsPlainInsert (inserts.Goes inserting) = SendsPlain inserting
IsPlainInsert (inserts.Ended ended) = Unit {0}

abbrev pub IsPlainJob : InsertPlayer → Type 0
IsPlainJob job = IsPlainInsert job.stage

-- the ticket that a job holds
abbrev pub job_ticket : Player → Option ℕ
job_ticket (player.Insert insert) = player_ticket insert
job_ticket (player.Follow follow) = stage_ticket follow.stage
job_ticket (player.Put job) = put_ticket job
job_ticket (player.Get job) = get_ticket job
