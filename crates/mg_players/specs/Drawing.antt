-- Which ids the inserts and puts of a run draw, and what jobs send with them.
use Rattle.std.specs.Prelude.{◌≡◌, ◌+◌, ℕ, ℤ, Bool, true, false, cond, nat_eq, List, [], ◌∷◌, length, Option, Some, None, slice_get}
use Rattle.mg_bson.specs.Tree.{Fields}
use Rattle.mg_ops.specs.Drawn.{AreLater, lacking, with_ids}
use Rattle.mg_script.specs.Plan as plan
use Rattle.mg_script.specs.Plan.{Task}
use Rattle.mg_players.specs.Playing.{HasIds}
use Rattle.mg_players.specs.Puts.{IsMoment, PutHasIds, PutTask, Supply, chunks_in, writes}
use Rattle.mg_players.specs.declared.insert.InsertPlayer.{InsertPlayer}
use Rattle.mg_players.specs.declared.insert.InsertStage.{InsertStage}
use Rattle.mg_players.specs.declared.insert.InsertStage.TheVariants as inserts
use Rattle.mg_players.specs.declared.player.Player.{Player}
use Rattle.mg_players.specs.declared.player.Player.TheVariants as player
use Rattle.mg_players.specs.declared.put.PutPlayer.{PutPlayer}
use Rattle.mg_players.specs.declared.put.PutStage.{PutStage}
use Rattle.mg_players.specs.declared.put.PutStage.TheVariants as puts

-- ---- the ids of a run

-- whether job i has one of these turns
abbrev pub has_turn : ℕ → List ℕ → Bool
has_turn i [] = false
has_turn i (n ∷ order) = cond (nat_eq i n) true (has_turn i order)

-- the turns before the first one of job i
abbrev pub before_first : ℕ → List ℕ → List ℕ
before_first i [] = []
before_first i (n ∷ order) = cond (nat_eq i n) [] (n ∷ before_first i order)

-- how many ids a task draws, at once: an insert one for each of its documents that has none, a put one for each of its chunks
abbrev pub draws : Option Task → ℕ
draws None = 0
draws (Some (plan.insert ns docs)) = lacking docs
draws (Some (plan.follow on calls start filter batch)) = 0
draws (Some (plan.put db bucket name id chunk pieces)) = chunks_in chunk pieces
draws (Some (plan.get db bucket id read)) = 0

-- how many are drawn in these turns, behind others: each job draws in its first turn
abbrev pub drawn_behind : List ℕ → List Task → List ℕ → ℕ
drawn_behind before tasks [] = 0
drawn_behind before tasks (n ∷ order) = cond (has_turn n before) 0 (draws (slice_get tasks n)) + drawn_behind (n ∷ before) tasks order

-- how many are drawn in the turns of a run
abbrev pub drawn_in : List Task → List ℕ → ℕ
drawn_in tasks order = drawn_behind [] tasks order

-- the number of the first id that job i draws: as many were drawn before its first turn
abbrev pub first_id : List Task → List ℕ → ℕ → ℕ
first_id tasks order i = drawn_in tasks (before_first i order)

-- the task with the documents as they are sent, with these ids from the one of this number on
abbrev pub sent_from : (ℕ → List ℕ) → ℕ → Task → Task
sent_from ids n (plan.insert ns docs) = plan.insert ns (with_ids ids n docs)
sent_from ids n (plan.follow on calls start filter batch) = plan.follow on calls start filter batch
sent_from ids n (plan.put db bucket name id chunk pieces) = plan.put db bucket name id chunk pieces
sent_from ids n (plan.get db bucket id read) = plan.get db bucket id read

-- the documents that a task sends
abbrev pub sent_documents : Task → List Fields
sent_documents (plan.insert ns docs) = docs
sent_documents (plan.follow on calls start filter batch) = []
sent_documents (plan.put db bucket name id chunk pieces) = []
sent_documents (plan.get db bucket id read) = []

-- the task of job i with the documents as it sends them
abbrev pub as_sent : (ℕ → List ℕ) → List Task → List ℕ → ℕ → Task → Task
as_sent ids tasks order i t = sent_from ids (first_id tasks order i) t

-- a run whose source gives these ids, and whose new records get this moment
abbrev pub supplied : (ℕ → List ℕ) → ℤ → Supply
supplied ids moment = record { ids = ids; moment = Some moment }

-- what is left of what a run supplies, from the id of this number on
abbrev pub supply_from : Supply → ℕ → Supply
supply_from supply n = record { ids = λ k. supply.ids (n + k); moment = supply.moment }

-- what job i is supplied with
abbrev pub supply_of : Supply → List Task → List ℕ → ℕ → Supply
supply_of supply tasks order i = supply_from supply (first_id tasks order i)

-- ---- jobs

-- how many ids an insert of these documents draws in its next turn
abbrev pub next_draws : InsertStage → List Fields → ℕ
next_draws inserts.Unsent documents = lacking documents
next_draws (inserts.Goes inserting) documents = 0
next_draws (inserts.Ended ended) documents = 0

-- how many ids a put draws in its next turn
abbrev pub put_draws : PutStage → PutTask → ℕ
put_draws puts.Undrawn t = chunks_in t.chunk t.pieces
put_draws (puts.Begins begun) t = 0
put_draws (puts.Goes going) t = 0
put_draws (puts.Ended end) t = 0

-- how many ids a job draws in its next turn
abbrev pub turn_draws : Player → ℕ
turn_draws (player.Insert job) = next_draws job.stage job.documents.now
turn_draws (player.Follow job) = 0
turn_draws (player.Put job) = put_draws job.stage (writes job.what)
turn_draws (player.Get job) = 0

-- where an insert has yet to draw its ids, this is its task as it sends it with ids from a source that gives these
abbrev pub InsertDrawsAs : (ℕ → List ℕ) → InsertPlayer → Task → Type 0
InsertDrawsAs ids job t = job.stage ≡ inserts.Unsent → sent_documents t ≡ with_ids ids 0 job.documents.now

-- where a put has yet to draw its ids, it is supplied with those of the source
abbrev pub PutDrawsAs : (ℕ → List ℕ) → PutPlayer → Supply → Type 0
PutDrawsAs ids job supply = job.stage ≡ puts.Undrawn → (k : ℕ) → supply.ids k ≡ ids k

abbrev pub DrawsAs : (ℕ → List ℕ) → Player → Supply → Task → Type 0
DrawsAs ids (player.Insert job) supply t = InsertDrawsAs ids job t
DrawsAs ids (player.Follow job) supply t = Unit {0}
DrawsAs ids (player.Put job) supply t = PutDrawsAs ids job supply
DrawsAs ids (player.Get job) supply t = Unit {0}

-- so it is in a turn at this moment
abbrev pub DrawsAt : (ℕ → List ℕ) → ℤ → Player → Supply → Task → Type 0
DrawsAt ids moment p supply t = DrawsAs ids p supply t × IsMoment supply.moment moment

-- a job that drew the ids that it needs
abbrev pub JobHasIds : Player → Type 0
JobHasIds (player.Insert job) = HasIds job.stage
JobHasIds (player.Follow job) = Unit {0}
JobHasIds (player.Put job) = PutHasIds job.stage
JobHasIds (player.Get job) = Unit {0}

-- an insert has its ids just where it had a turn
abbrev pub HadTurn : Bool → InsertStage → Type 0
HadTurn had inserts.Unsent = had ≡ false
HadTurn had (inserts.Goes inserting) = had ≡ true
HadTurn had (inserts.Ended ended) = had ≡ true

-- so has a put
abbrev pub PutHadTurn : Bool → PutStage → Type 0
PutHadTurn had puts.Undrawn = had ≡ false
PutHadTurn had (puts.Begins begun) = had ≡ true
PutHadTurn had (puts.Goes going) = had ≡ true
PutHadTurn had (puts.Ended end) = had ≡ true

abbrev pub JobHadTurn : Bool → Player → Type 0
JobHadTurn had (player.Insert job) = HadTurn had job.stage
JobHadTurn had (player.Follow job) = Unit {0}
JobHadTurn had (player.Put job) = PutHadTurn had job.stage
JobHadTurn had (player.Get job) = Unit {0}

-- The turns of a run took a source from its ids as the run began to those that it gives now, and each insert and each put has its ids from its first turn on.
pub record HaveDrawn (ids now : ℕ → List ℕ) (tasks : List Task) (order : List ℕ) (players : List Player) : Type 0 where
  pub stands : AreLater ids (drawn_in tasks order) now
  pub jobs : length players ≡ length tasks
  pub each : (i : ℕ) (p : Player) → slice_get players i ≡ Some p → JobHadTurn (has_turn i order) p
