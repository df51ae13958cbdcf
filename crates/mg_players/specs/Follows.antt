-- What a follow watches, and what it knows turn by turn.
use Rattle.std.specs.Prelude.{◌≡◌, ◌⊎◌, Bool, true, ℕ, pos, List, [], ◌∷◌, Option, Some, None, option_and_then, option_map}
use Rattle.mg_bson.specs.Tree.{Tree, document, Fields}
use Rattle.mg_bson.specs.Literal.{◌⇒◌⨾◌, empty}
use Rattle.mg_bson.specs.Raw.{fields}
use Rattle.mg_link.specs.Namespace.{as_collection, as_database, Target, database, collection, cluster, target}
use Rattle.mg_server.specs.Commands.{filter_stages}
use Rattle.mg_server.specs.Follow.{Follow, FollowsOn, Knows, owing, owner_of}
use Rattle.mg_link.specs.Link.{Awaited, LogTold}
use Rattle.mg_link.specs.Log.{Call}
use Rattle.mg_link.specs.declared.namespace.OperationTarget.{OperationTarget}
use Rattle.mg_link.specs.declared.namespace.OperationTarget.TheVariants as targets
use Rattle.mg_server.specs.Owner.{Owner, Passes, nobody}
use Rattle.mg_server.specs.State.{Start, Watch, time_of}
use Rattle.mg_server.specs.State as state
use Rattle.mg_ops.specs.Aims.{aim}
use Rattle.mg_ops.specs.Naming.{IsNamed, start_in}
use Rattle.mg_ops.specs.declared.change_stream.WatchArgs.{WatchArgs}
use Rattle.mg_options.specs.Options.{no_options}
use Rattle.mg_options.specs.declared.change_stream.ChangeStreamOptions.{ChangeStreamOptions}
use Rattle.mg_change.specs.ClientStreams.{Asks, stream_token}
use Rattle.mg_change.specs.declared.event_poll.EventPoll.{EventPoll}
use Rattle.mg_change.specs.declared.event_poll.EventPoll.TheVariants as polls
use Rattle.mg_change.specs.Growths.{IsInFlight, StandsNowhere}
use Rattle.mg_change.specs.Following.{AsksNothing, event_told, follow_closing, follow_of, not_open, opening_in}
use Rattle.mg_change.specs.OpeningView.{IsPlainOpening, opening_of}
use Rattle.mg_change.specs.StreamView.{stream_of}
use Rattle.mg_script.specs.Plan.{Begin, begin, nowhere, resume_after, start_after, at_time}
use Rattle.mg_script.specs.declared.outcome.Answer.{Answer}
use Rattle.mg_script.specs.declared.outcome.Answer.TheVariants as answers
use Rattle.mg_script.specs.declared.outcome.Ended.{Ended}
use Rattle.mg_script.specs.declared.outcome.Ended.TheVariants as ended
use Rattle.mg_players.specs.declared.follow.FollowPlayer.{FollowPlayer}
use Rattle.mg_players.specs.declared.follow.Stage.{Stage}
use Rattle.mg_players.specs.declared.follow.Stage.TheVariants as stage
use Rattle.mg_players.specs.declared.follow.Watched.{Watched}

-- ---- what is watched

-- the stages behind the one that opens the watch
abbrev pub stages_of : Option Fields → List Fields
stages_of None = []
stages_of (Some filter) = ("$match" ⇒ document filter ⨾ empty) ∷ []

abbrev pub start_of : Begin → Start
start_of nowhere = state.nowhere
start_of (resume_after token) = state.after token
start_of (start_after token) = state.after token
start_of (at_time seconds increment) = state.at_time (time_of seconds increment)

-- a server may have a target of this name
abbrev pub IsTarget : Target → Type 0
IsTarget (collection space) = IsNamed space
IsTarget (database db) = as_database db ≡ Some db
IsTarget cluster = Unit {0}

-- this is watched, from this start on: the target has a name that may be, and the filter has a meaning
pub record IsWatch (on : Target) (start : Begin) (filter : Option Fields) (w : Watch) (from : Start) : Type 0 where
  pub named : IsTarget on
  pub on_is : w.target ≡ on
  pub by : filter_stages (stages_of filter) ≡ Some w.filter
  pub from_is : from ≡ start_of start

-- nothing is watched: a name may not be, or the filter has no meaning, and no server takes the aggregate
abbrev pub WatchesNothing : Target → Begin → Option Fields → Type 0
WatchesNothing on start filter = (w : Watch) (from : Start) → IsWatch on start filter w from → ⊥

abbrev pub filter_in : Watched → Option Fields
filter_in v = v.filter.now

abbrev pub IsWatched : Watched → Watch → Start → Type 0
IsWatched v w from = IsWatch (target v.target.now) (begin v.start.now) (filter_in v) w from

abbrev pub IsUnwatched : Watched → Type 0
IsUnwatched v = WatchesNothing (target v.target.now) (begin v.start.now) (filter_in v)

-- the target, where its names may be
abbrev pub aimed : Target → Option Target
aimed (collection space) = option_and_then (λ db. option_map (λ coll. collection (record { db = db; coll = coll })) (as_collection space.coll)) (as_database space.db)
aimed (database db) = option_and_then (λ db. Some (database db)) (as_database db)
aimed cluster = Some cluster

-- the changes of all databases are asked for of the cluster alone
abbrev pub all_changes : OperationTarget → Option Bool
all_changes targets.Cluster = Some true
all_changes (targets.Database db) = None
all_changes (targets.Collection ns) = None

-- the changes of all databases are asked for of the cluster alone
abbrev pub all_changes_of : Target → Option Bool
all_changes_of (collection space) = None
all_changes_of (database db) = None
all_changes_of cluster = Some true

-- the options of a watch that begins there, and says nothing else
abbrev pub begun_options : Begin → ChangeStreamOptions
begun_options nowhere = no_options
begun_options (resume_after token) = record no_options { resume_after = Some token }
begun_options (start_after token) = record no_options { start_after = Some token }
begun_options (at_time seconds increment) = record no_options { start_at_operation_time = Some (record { time = seconds; increment = increment }) }

-- the options of a watch: where it starts, and the size of its batches
abbrev pub options_of : Target → Begin → Option ℕ → ChangeStreamOptions
options_of on start batch = record (begun_options start) { all_changes_for_cluster = all_changes_of on; batch_size = batch }

-- these are the arguments of a watch
pub record IsArgsFor (on : Target) (start : Begin) (filter : Option Fields) (batch : Option ℕ) (a : WatchArgs) : Type 0 where
  pub target_is : target a.target ≡ on
  pub stages : a.pipeline.items ≡ stages_of filter
  pub options_are : a.options ≡ options_of on start batch

-- the arguments of its aggregate are those of what is watched
pub record IsArgsOf (v : Watched) (a : WatchArgs) : Type 0 where
  pub aims : aim a.options (target a.target) ≡ aimed (target v.target.now)
  pub stages : a.pipeline.items ≡ stages_of (filter_in v)
  pub starts : start_in a.options ≡ Some (start_of (begin v.start.now))

-- ---- what it has come to

-- the events among the answers
abbrev pub events_of : List Answer → List Fields
events_of [] = []
events_of (answers.Event event ∷ more) = fields event ∷ events_of more
events_of (answers.Nothing ∷ more) = events_of more
events_of (answers.Failed e ∷ more) = events_of more

-- the call has ended
abbrev pub HasEnded : EventPoll → Type 0
HasEnded polls.Pending = ⊥
HasEnded (polls.Ready event) = Unit {0}
HasEnded (polls.Failed e) = Unit {0}

-- the answer to a call
abbrev pub poll_of : Answer → EventPoll
poll_of (answers.Event event) = polls.Ready (Some event)
poll_of answers.Nothing = polls.Ready None
poll_of (answers.Failed e) = polls.Failed e

-- what is kept of the answer to a call: nothing while it pends
abbrev pub IsAnswer : EventPoll → Option Answer → Type 0
IsAnswer poll None = poll ≡ polls.Pending
IsAnswer poll (Some answer) = (event_told poll ≡ events_of (answer ∷ [])) × HasEnded poll × (poll ≡ poll_of answer)

-- a stream that is closed, or is being closed
abbrev pub closed_follow : Watch → Start → Option ℕ → Option Tree → List Fields → Follow
closed_follow w start opened token answered = record { doing = owing; watch = w; start = start; opened = opened; cursor = pos 0; old = pos 0; ahead = []; upto = None; token = token; answered = answered }

-- the end of a follow: its stream was closed, or was never open
abbrev pub ended_follow : {A : Type 0} → Ended A → Watch → Start → Option ℕ → Option Tree → List Fields → Follow
ended_follow ended.Unfinished w start opened token answered = not_open w start
ended_follow (ended.Gave x) w start opened token answered = closed_follow w start opened token answered
ended_follow (ended.Failed e) w start opened token answered = not_open w start

abbrev pub follow_at : {A : Type 0} → Awaited → Stage → Ended A → Watch → Start → Option ℕ → Option Tree → List Fields → Follow
follow_at awaited stage.Unopened o w start opened token answered = not_open w start
follow_at awaited (stage.Opens opening) o w start opened token answered = opening_in awaited w start (opening_of opening)
follow_at awaited (stage.Open stream) o w start opened token answered = follow_of awaited w start (stream_of stream) opened answered
follow_at awaited (stage.Closes closing) o w start opened token answered = follow_closing awaited w start token closing opened answered
follow_at awaited stage.Ended o w start opened token answered = ended_follow o w start opened token answered

-- what a follow at a stage is doing, where the call at `opened` opened its stream
abbrev pub follow_by : Awaited → Stage → Watch → Start → Option ℕ → FollowPlayer → Follow
follow_by awaited s w start opened p = follow_at awaited s p.opened w start opened p.token (events_of p.answers.items)

-- nothing was answered, and there is no token
pub record HasNothing (p : FollowPlayer) : Type 0 where
  pub no_answer : p.answers.items ≡ []
  pub no_token : p.token ≡ None

abbrev pub IsUnfinished : {A : Type 0} → Ended A → Type 0
IsUnfinished ended.Unfinished = Unit {0}
IsUnfinished (ended.Gave x) = ⊥
IsUnfinished (ended.Failed e) = ⊥

abbrev pub HasGiven : {A : Type 0} → Ended A → Type 0
HasGiven ended.Unfinished = ⊥
HasGiven (ended.Gave x) = Unit {0}
HasGiven (ended.Failed e) = ⊥

abbrev pub IsFailed : {A : Type 0} → Ended A → Type 0
IsFailed ended.Unfinished = ⊥
IsFailed (ended.Gave x) = ⊥
IsFailed (ended.Failed e) = Unit {0}

-- a follow that ended has answers where its stream was opened
abbrev pub EndsSo : {A : Type 0} → Ended A → FollowPlayer → Type 0
EndsSo ended.Unfinished p = HasNothing p
EndsSo (ended.Gave x) p = Unit {0}
EndsSo (ended.Failed e) p = HasNothing p

-- what a follow keeps goes with its stage: nothing before its stream is open
abbrev pub IsInOrder : FollowPlayer → Stage → Type 0
IsInOrder p stage.Unopened = IsUnfinished p.opened × HasNothing p
IsInOrder p (stage.Opens opening) = IsUnfinished p.opened × HasNothing p
IsInOrder p (stage.Open stream) = HasGiven p.opened
IsInOrder p (stage.Closes closing) = HasGiven p.opened
IsInOrder p stage.Ended = EndsSo p.opened p

-- what is in flight or open asks for the watch
abbrev pub StageAsks : Stage → Watch → Start → Type 0
StageAsks stage.Unopened w start = Unit {0}
StageAsks (stage.Opens opening) w start = Asks (opening_of opening).args w start × IsPlainOpening opening
StageAsks (stage.Open stream) w start = Asks (stream_of stream).aggregate.args w start
StageAsks (stage.Closes closing) w start = Unit {0}
StageAsks stage.Ended w start = Unit {0}

-- what a follow that is this to other jobs knows of its server, where the call at this place of the log opened its stream
pub record FollowKnows (awaited : Awaited) (calls : List Call) (s : Stage) (p : FollowPlayer) (o : Owner) (at : Option ℕ) : Type 0 where
  pub watch : Watch
  pub start : Start
  pub watches : IsWatched p.watched watch start
  pub asks : StageAsks s watch start
  pub knows : Knows calls (follow_by awaited s watch start at p)
  pub owns : o ≡ owner_of (follow_by awaited s watch start at p)
  pub in_order : IsInOrder p s

pub record FollowTook (awaited : Awaited) (calls calls' : List Call) (s : Stage) (p : FollowPlayer) (o : Owner) (at : Option ℕ) : Type 0 where
  pub owner : Owner
  pub knows : FollowKnows awaited calls' s p owner at
  pub passes : Passes calls calls' o owner

-- the place of the call that opened a stream, behind a turn, from the one before it
abbrev pub Placing : Type 0
Placing = Option ℕ → Option ℕ

-- it stays
abbrev pub same_place : Placing
same_place at = at

-- It went from one stage to another: it goes on knowing, and leaves every other job alone.
abbrev pub FollowMoves : Awaited → Awaited → LogTold → LogTold → Stage → FollowPlayer → Stage → FollowPlayer → Placing → Type 0
FollowMoves old new log log' s p s' p' next = (calls : List Call) → log ≡ Some calls → (o : Owner) (at : Option ℕ) → FollowKnows old calls s p o at
    → (calls' : List Call) × (log' ≡ Some calls') × FollowTook new calls calls' s' p' o (next at)

-- ---- a follow that watches nothing

-- the aggregate in flight asks for nothing
abbrev pub IsInVain : Awaited → List Call → Stage → Type 0
IsInVain awaited calls stage.Unopened = Unit {0}
IsInVain awaited calls (stage.Opens opening) = AsksNothing (opening_of opening).args × IsPlainOpening opening × IsInFlight awaited calls (opening_of opening).sending
IsInVain awaited calls (stage.Open stream) = Unit {0}
IsInVain awaited calls (stage.Closes closing) = Unit {0}
IsInVain awaited calls stage.Ended = Unit {0}

-- over an honest link its stream is never opened
pub record FollowsNothing (awaited : Awaited) (calls : List Call) (s : Stage) (p : FollowPlayer) : Type 0 where
  pub unwatched : IsUnwatched p.watched
  pub vain : IsInVain awaited calls s
  pub in_order : IsInOrder p s
  pub never : HasGiven p.opened → StandsNowhere calls

-- It went from one stage to another, and leaves every other job alone.
abbrev pub VainMoves : Awaited → Awaited → LogTold → LogTold → Stage → FollowPlayer → Stage → FollowPlayer → Type 0
VainMoves old new log log' s p s' p' = (calls : List Call) → log ≡ Some calls → FollowsNothing old calls s p
    → (calls' : List Call) × (log' ≡ Some calls') × FollowsNothing new calls' s' p' × Passes calls calls' nobody nobody

-- A follow took a part of a turn, whatever it watches.
pub record FollowTurns (old new : Awaited) (log log' : LogTold) (s : Stage) (p : FollowPlayer) (s' : Stage) (p' : FollowPlayer) (next : Placing) : Type 0 where
  pub watching : FollowMoves old new log log' s p s' p' next
  pub vainly : VainMoves old new log log' s p s' p'

-- ---- what this comes to

-- In every legal history in which the log stands, the answered events are the first of the view from the opening place of the call at this place of the log on, each once, in order, just up to the place that the token names.
pub record Followed (calls : List Call) (w : Watch) (start : Start) (answered : List Fields) (token : Option Tree) (place : ℕ) : Type 0 where
  pub stream : Follow
  pub watch_is : stream.watch ≡ w
  pub start_is : stream.start ≡ start
  pub opened_is : stream.opened ≡ Some place
  pub answered_is : stream.answered ≡ answered
  pub token_is : stream.token ≡ token
  pub follows : FollowsOn calls stream

-- the token of a follow
abbrev pub token_at : Stage → Option Tree → Option Tree
token_at stage.Unopened token = None
token_at (stage.Opens opening) token = None
token_at (stage.Open stream) token = stream_token (stream_of stream)
token_at (stage.Closes closing) token = token
token_at stage.Ended token = token

-- a follow that watches nothing answered nothing, and no honest server opened it
abbrev pub NeverFollowed : {A : Type 0} → Ended A → List Call → List Fields → Option Tree → Type 0
NeverFollowed ended.Unfinished calls answered token = (answered ≡ []) × (token ≡ None)
NeverFollowed (ended.Gave x) calls answered token = StandsNowhere calls
NeverFollowed (ended.Failed e) calls answered token = (answered ≡ []) × (token ≡ None)

-- What is watched was followed from the call at this place of the log on. A follow that watches nothing no honest server opened.
abbrev pub FollowedFrom : List Call → Target → Begin → Option Fields → List Answer → Option Tree → ℕ → Type 0
FollowedFrom calls on start filter said token place =
    ((w : Watch) × (from : Start) × IsWatch on start filter w from × Followed calls w from (events_of said) token place)
    ⊎ (WatchesNothing on start filter × StandsNowhere calls)
