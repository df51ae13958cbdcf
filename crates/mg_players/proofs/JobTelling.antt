-- What a job of any kind tells: where it is left alone, where it gets ready, and in a turn.
use Rattle.std.proofs.Common.{◌≡◌, ◌⊎◌, ℕ, ℤ, Bool, true, List, [], length, Option, Some, None, refl, sym, ap, ◌∙◌, subst, inl, inr, arith}
use Rattle.mg_bson.specs.Tree.{Fields, Tree}
use Rattle.mg_server.specs.Calls.{Keeps, past_of}
use Rattle.mg_link.specs.Link.{Awaited, LogTold}
use Rattle.mg_link.specs.Log.{Call}
use Rattle.mg_link.specs.Namespace.{space}
use Rattle.mg_server.specs.Owner.{Onward, Owner, nobody}
use Rattle.mg_server.proofs.Adding.{adds_none}
use Rattle.mg_server.proofs.Calls.{keeps_longer}
use Rattle.mg_server.proofs.Owners.{same_some}
use Rattle.mg_ops.specs.Drawn.{with_ids}
use Rattle.mg_players.specs.Causes.{commands_at, sent_at}
use Rattle.mg_players.specs.Drawing.{InsertDrawsAs, JobHadTurn, sent_documents, sent_from, supply_from}
use Rattle.mg_players.specs.Follows.{Placing}
use Rattle.mg_players.specs.Gets.{gets_ended, sought}
use Rattle.mg_players.specs.Headline.{FollowPlays, GetPlays, InsertPlays, IsFirst, IsSameTask, Plays, follow_task, get_task, insert_task, task_of}
use Rattle.mg_players.specs.Playing.{IsSameFollow, IsSameInsert, follow_ended, job_ticket}
use Rattle.mg_players.specs.Progress.{Came, FollowAt, GetStageAt, IsAt, came, PutAt}
use Rattle.mg_players.specs.Runs.{has_ended}
use Rattle.mg_players.specs.Sends.{MaySend}
use Rattle.mg_players.specs.Plays as words
use Rattle.mg_players.specs.Plays.{Account, Knowledge, Moves, Places, by_placing, no_move}
use Rattle.mg_players.specs.Telling.{FollowSays, FollowTells, InsertSaid, InsertSays, InsertTurns, JobTells, Kept, StageSends, StageSent, TellsAs, TellsBehind, TellsOn, Tells, TurnTells, kept, number, number_of, GetGoesOn, GetSays, GetTells, PutTells, put_number}
use Rattle.mg_script.specs.Plan.{Task}
use Rattle.mg_script.specs.declared.outcome.Ended.{Ended}
use Rattle.mg_players.specs.declared.follow.FollowPlayer.{FollowPlayer}
use Rattle.mg_players.specs.declared.get.GetPlayer.{GetPlayer}
use Rattle.mg_players.specs.declared.get.GetStage.{GetStage}
use Rattle.mg_players.specs.declared.get.GetStage.TheVariants as gets
use Rattle.mg_players.specs.declared.insert.InsertPlayer.{InsertPlayer}
use Rattle.mg_players.specs.declared.insert.InsertStage.{InsertStage}
use Rattle.mg_players.specs.declared.follow.Stage.{Stage}
use Rattle.mg_players.specs.declared.follow.Stage.TheVariants as stage
use Rattle.mg_players.specs.declared.follow.Watched.{Watched}
use Rattle.mg_players.specs.Puts.{Supply, puts_ended, writes}
use Rattle.mg_players.specs.declared.put.PutStage.{PutStage}
use Rattle.mg_players.specs.declared.put.PutStage.TheVariants as puts
use Rattle.mg_players.specs.declared.player.Player.{Player}
use Rattle.mg_players.specs.declared.player.Player.TheVariants as player
use Rattle.mg_players.proofs.GetTelling.{get_tells_later}
use Rattle.mg_players.proofs.Commands.{at_kept, at_sent, below_more, below_since}
use Rattle.mg_players.proofs.InsertTelling.{insert_tells_grow, none_done, sent_of_others, sent_on, stage_of_others, stage_on}
use Rattle.mg_players.proofs.PutTelling.{put_later, put_of_others}
use Rattle.mg_players.proofs.Telling.{extends_going, extends_same, going_on, grows_ended, grows_later, tells_later}

-- ---- what others do

-- Where its own ticket goes with the same call, a job tells in a later log what it told.
pub job_later : (supply : Supply) (t : Task) (old new : Awaited) (calls calls' : List Call) (wire : ℤ) (q : Places) (p : Player) (at : Option ℕ) → Keeps calls calls' → Onward calls calls' nobody → ((m : ℕ) → job_ticket p ≡ Some m → new m ≡ old m) → JobTells old calls wire q supply t p at → JobTells new calls' wire q supply t p at
job_later supply t old new calls calls' wire q (player.Insert job) at keeps onward same told =
    record {
      alone = told.alone;
      within = below_more q.now (length calls) (length calls') (keeps_longer calls calls' keeps) told.within;
      tells = insert_tells_grow (sent_at q.now calls wire) (sent_at q.now calls' wire) (grows_later q.now calls calls' wire keeps) (space job.ns.now) (sent_documents t) old new job.stage same told.tells;
      sends = subst (λ (l : List Fields). StageSent (space job.ns.now) (sent_documents t) l job.stage) (sym (at_kept calls calls' keeps q.now told.within)) told.sends;
    }
job_later supply t old new calls calls' wire q (player.Follow job) at keeps onward same told = tells_later old new calls calls' wire q job.stage (kept job) at keeps same told
job_later supply t old new calls calls' wire q (player.Put job) at keeps onward same told = put_later supply (writes job.what) old new calls calls' wire q job.done job.stage keeps onward same told
job_later supply t old new calls calls' wire q (player.Get job) at keeps onward same told = get_tells_later old new calls calls' wire q (sought job.what) job.stage job.bytes.items job.done at keeps onward same told

-- It tells the same where the number of its first id is another, unless it had a turn.
pub job_of_others : (supply : Supply) (n n' : ℕ) (awaited : Awaited) (calls : List Call) (wire : ℤ) (q : Places) (p : Player) (at : Option ℕ) (had : Bool) → JobHadTurn had p → (had ≡ true → n' ≡ n) → JobTells awaited calls wire q (supply_from supply n) (sent_from supply.ids n (task_of p)) p at → JobTells awaited calls wire q (supply_from supply n') (sent_from supply.ids n' (task_of p)) p at
job_of_others supply n n' awaited calls wire q (player.Insert job) at had turn same told =
    let sent : List Fields = with_ids supply.ids n job.documents.now in
    let sent' : List Fields = with_ids supply.ids n' job.documents.now in
    let as_one : had ≡ true → sent' ≡ sent = λ is. ap (λ m. with_ids supply.ids m job.documents.now) (same is) in
    record {
      alone = told.alone;
      within = told.within;
      tells = stage_of_others awaited (sent_at q.now calls wire) (space job.ns.now) sent sent' had job.stage turn as_one told.tells;
      sends = sent_of_others (space job.ns.now) sent sent' (commands_at calls q.now) had job.stage turn as_one told.sends;
    }
job_of_others supply n n' awaited calls wire q (player.Follow job) at had turn same told = told
job_of_others supply n n' awaited calls wire q (player.Put job) at had turn same told = put_of_others (supply_from supply n) (supply_from supply n') awaited calls wire q (writes job.what) job.done job.stage had turn (λ is. ap (λ (m : ℕ). supply_from supply m) (same is)) told
job_of_others supply n n' awaited calls wire q (player.Get job) at had turn same told = told

-- ---- what it tells as it gets ready

-- a job that is the same
pub tells_same_job : {P : Type 0} (does : P → Task) (says : Account P) (count : P → ℕ) (so : Supply → Task → Type 0) (p : P) → words.TellsAs does says count so p p
tells_same_job does says count so p = record { number_same = refl; tells = λ awaited calls wire q supply n at may told. told }

-- an insert has no call before the one that goes on
abbrev pub no_number : {P : Type 0} → P → ℕ
no_number p = 0

pub insert_teller : (ids : ℕ → List ℕ) (job job' : InsertPlayer) → IsSameInsert job job' → TellsOn ids (space job.ns.now) job.documents.now job.stage job'.stage → words.TellsAs insert_task InsertSays no_number (λ supply t. InsertDrawsAs ids job t) job job'
insert_teller ids job job' same on = record {
  number_same = refl;
  tells = λ awaited calls wire q supply n at drawn told.
      let sent : List Fields = with_ids supply.ids n job.documents.now in
      subst (λ m. InsertSaid awaited calls wire q (space m.now) sent job'.stage) (sym same.0)
      (record {
        alone = told.alone;
        within = told.within;
        tells = stage_on ids (space job.ns.now) job.documents.now sent awaited (sent_at q.now calls wire) job.stage job'.stage on drawn told.tells;
        sends = sent_on ids (space job.ns.now) job.documents.now sent (commands_at calls q.now) job.stage job'.stage on drawn told.sends;
      });
}

kept_same : (f f' : FollowPlayer) → IsSameFollow f f' → kept f' ≡ kept f
kept_same f f' same =
    ap (λ (v : Watched). record (kept f') { watched = v }) same.watched_same
    ∙ ap (λ (o : Ended (Unit {0})). record (kept f') { watched = f.watched; opened = o }) same.opened_same
    ∙ ap (λ l. record (kept f') { watched = f.watched; opened = f.opened; said = l }) same.answers_same
    ∙ ap (λ (t : Option Tree). record (kept f') { watched = f.watched; opened = f.opened; said = f.answers.items; token = t }) same.token_same
    ∙ ap (λ (b : Bool). record (kept f') { watched = f.watched; opened = f.opened; said = f.answers.items; token = f.token; alive = b }) same.alive_same
    ∙ ap (λ (o : Ended (Unit {0})). record (kept f) { closed = o }) same.closed_same

abbrev pub task_followed : FollowPlayer → Task
task_followed f = follow_task f.watched

abbrev pub follow_number : FollowPlayer → ℕ
follow_number f = number f.stage (kept f)

-- what differs at most in the room for answers tells the same
pub follow_teller : (so : Supply → Task → Type 0) (f f' : FollowPlayer) → IsSameFollow f f' → words.TellsAs task_followed FollowSays follow_number so f f'
follow_teller so f f' same =
    let keeps = kept_same f f' same in
    record {
      number_same = ap (number f'.stage) keeps ∙ ap (λ (s : Stage). number s (kept f)) same.stage_same;
      tells = λ awaited calls wire q supply n at may told. subst (λ (s : Stage). Tells awaited calls wire q s (kept f') at) (sym same.stage_same) (subst (λ (k : Kept). Tells awaited calls wire q f.stage k at) (sym keeps) told);
    }

-- ---- turns

-- a turn in which nothing was sent, behind which a job tells what it told
pub quiet_turn : {P : Type 0} (does : P → Task) (knows : Knowledge P) (says : Account P) (count : P → ℕ) (so : Supply → Task → Type 0) (awaited : Awaited) (log : LogTold) (wire : ℤ) (p p' : P) → words.TellsAs does says count so p p' → words.TurnTells does knows says count so awaited awaited log log wire p p' no_move
quiet_turn does knows says count so awaited log wire p p' teller calls calls' told told' supply n may q at at' placed o plays tells =
    subst (λ (x : Option ℕ). words.TellsBehind says count awaited calls calls' wire (supply_from supply n) (sent_from supply.ids n (does p)) q (count p) p' x) (sym placed)
    (subst (λ (c : List Call). words.TellsBehind says count awaited calls c wire (supply_from supply n) (sent_from supply.ids n (does p)) q (count p) p' at) (same_some calls calls' (sym told ∙ told'))
    (record {
      longer = omega arith;
      places = q;
      tells = teller.tells awaited calls wire q supply n at may tells;
      extends = extends_same q (count p) (count p') (length calls) teller.number_same;
      adds = adds_none (MaySend (supply_from supply n) (sent_from supply.ids n (does p))) calls;
    }))

-- a turn of an insert
pub insert_turn : (so : Supply → Task → Type 0) (old new : Awaited) (log log' : LogTold) (wire : ℤ) (job job' : InsertPlayer) → job'.ns ≡ job.ns → ((sent : List Fields) → InsertTurns old new log log' wire (space job.ns.now) sent job.stage job'.stage) → ((sent : List Fields) → StageSends log log' (space job.ns.now) sent job.stage job'.stage)
    → words.TurnTells insert_task InsertPlays InsertSays no_number so old new log log' wire job job' no_move
insert_turn so old new log log' wire job job' same turns sends calls calls' told told' supply n may q at at' placed o plays tells =
    let sent : List Fields = with_ids supply.ids n job.documents.now in
    let r = turns sent calls calls' told told' q.now tells.tells in
    let s = sends sent (commands_at calls q.now) tells.sends in
    let room = keeps_longer calls calls' r.1.keeps in
    let q' : Places = going_on q (length calls) (length calls') in
    record {
      longer = room;
      places = q';
      tells = subst (λ m. InsertSaid new calls' wire q' (space m.now) sent job'.stage) (sym same)
          (record {
            alone = tells.alone;
            within = below_since q.now (length calls) (length calls') room tells.within;
            tells = insert_tells_grow (past_of q.now (length calls) calls' wire) (sent_at q'.now calls' wire) (grows_ended q.now (length calls) calls' wire) (space job.ns.now) sent new new job'.stage (λ m e. refl) r.0;
            sends = subst (λ (l : List Fields). StageSent (space job.ns.now) sent l job'.stage) (sym (at_sent log log' calls calls' q.now s.0 told told' r.1.keeps tells.within s.1)) s.2;
          });
      extends = extends_going q 0 0 (length calls) (length calls') refl room;
      adds = r.1;
    }

-- a turn of a follow
pub follow_turn : (so : Supply → Task → Type 0) (old new : Awaited) (log log' : LogTold) (wire : ℤ) (job job' : FollowPlayer) (next : Placing) → FollowTells old new log log' wire job.stage (kept job) job'.stage (kept job') next → words.TurnTells task_followed FollowPlays FollowSays follow_number so old new log log' wire job job' (by_placing next)
follow_turn so old new log log' wire job job' next tells calls calls' told told' supply n may q at at' placed o plays t =
    let r = tells calls calls' told told' q at t in
    record { longer = r.longer; places = r.places; tells = subst (λ (x : Option ℕ). Tells new calls' wire r.places job'.stage (kept job') x) (sym placed) r.tells; extends = r.extends; adds = r.adds }

abbrev pub get_number : GetPlayer → ℕ
get_number job = job.done

-- a turn of a get
pub get_turn : (so : Supply → Task → Type 0) (old new : Awaited) (log log' : LogTold) (wire : ℤ) (job job' : GetPlayer) (next : Moves) → job'.what ≡ job.what → GetGoesOn old new log log' wire (sought job.what) job.stage job.bytes.items job.done job'.stage job'.bytes.items job'.done next → words.TurnTells get_task GetPlays GetSays get_number so old new log log' wire job job' next
get_turn so old new log log' wire job job' next same goes calls calls' told told' supply n may q at at' placed o plays t =
    let r = goes calls calls' told told' q at at' placed plays.knows t in
    record { longer = r.longer; places = r.places; tells = subst (λ w. GetTells new calls' wire r.places (sought w) job'.stage job'.bytes.items job'.done at') (sym same) r.tells; extends = r.extends; adds = r.adds }

-- what is told where less is known is told where more is
pub tells_narrow : (so so' : Supply → Task → Type 0) (p q : Player) → ((supply : Supply) (t : Task) → so' supply t → so supply t) → TellsAs so p q → TellsAs so' p q
tells_narrow so so' p q narrow teller = record { number_same = teller.number_same; tells = λ awaited calls wire places supply n at may told. teller.tells awaited calls wire places supply n at (narrow (supply_from supply n) (sent_from supply.ids n (task_of p)) may) told }

-- a job that got ready, and then took its turn
pub ready_turn : (so so' : Supply → Task → Type 0) (old new : Awaited) (log log' : LogTold) (wire : ℤ) (p q p' : Player) (next : Moves) → IsSameTask p q → ((awaited : Awaited) (calls : List Call) (o : Owner) (at : Option ℕ) → Plays awaited calls p o at → Plays awaited calls q o at) → TellsAs so p q → TurnTells so' old new log log' wire q p' next
    → TurnTells (λ supply t. so supply t × so' supply t) old new log log' wire p p' next
ready_turn so so' old new log log' wire p q p' next task knows teller turn calls calls' told told' supply n may places at at' placed o plays tells =
    let r = turn calls calls' told told' supply n (subst (λ (u : Task). so' (supply_from supply n) (sent_from supply.ids n u)) (sym task) may.1) places at at' placed o (knows old calls o at plays)
    (subst (λ (u : Task). JobTells old calls wire places (supply_from supply n) (sent_from supply.ids n u) q at) (sym task) (teller.tells old calls wire places supply n at may.0 tells)) in
    subst (λ (u : Task). TellsBehind new calls calls' wire (supply_from supply n) (sent_from supply.ids n u) places (number_of p) p' at') task
    (subst (λ (m : ℕ). TellsBehind new calls calls' wire (supply_from supply n) (sent_from supply.ids n (task_of q)) places m p' at') teller.number_same r)

-- ---- at first, and after some turns

-- A job that has done nothing tells of no places.
pub first_tells : (supply : Supply) (t : Task) (awaited : Awaited) (calls : List Call) (wire : ℤ) (p : Player) → IsFirst p → JobTells awaited calls wire (record { opened = []; owns = []; now = [] }) supply t p None
first_tells supply t awaited calls wire (player.Insert job) is =
    subst (λ (s : InsertStage). InsertSaid awaited calls wire (record { opened = []; owns = []; now = [] }) (space job.ns.now) (sent_documents t) s) (sym is) (record { alone = (refl, refl); within = tt; tells = tt; sends = refl })
first_tells supply t awaited calls wire (player.Follow job) is = subst (λ (s : Stage). Tells awaited calls wire (record { opened = []; owns = []; now = [] }) s (kept job) None) (sym is.0) ((refl, is.2.no_answer, refl), refl)
first_tells supply t awaited calls wire (player.Put job) is = subst (λ (s : PutStage). PutTells awaited calls wire (record { opened = []; owns = []; now = [] }) supply (writes job.what) job.done s) (sym is.0) ((refl, refl, refl), is.1)
first_tells supply t awaited calls wire (player.Get job) is = subst (λ (s : GetStage). GetTells awaited calls wire (record { opened = []; owns = []; now = [] }) (sought job.what) s job.bytes.items job.done None) (sym is.0) ((refl, refl), refl)

-- a follow goes on where it was after so many turns, unless it has ended
number_at_stage : (calls : ℕ) (s : Stage) (k : Kept) (c : Came) (done : ℕ) (last : Bool) → c.answered ≡ length k.said → FollowAt calls s c done last → (number s k ≡ done) ⊎ (follow_ended s ≡ true)
number_at_stage calls stage.Unopened k c done last same at = inl (sym at.0.none)
number_at_stage calls (stage.Opens opening) k c done last same at = inl (sym at.0.none)
number_at_stage calls (stage.Open stream) k c done last same at = inl (omega (arith, same, at.0.answered))
number_at_stage calls (stage.Closes closing) k c done last same at = inl (omega (arith, same, at.0.answered, at.0.all))
number_at_stage calls stage.Ended k c done last same at = inr refl

-- so does a get
get_number_at : (s : GetStage) (bytes done k read : ℕ) (last : Bool) → GetStageAt s bytes done k last read → (done ≡ k) ⊎ (gets_ended s ≡ true)
get_number_at gets.Unsent bytes done k read last at = inl (at.1 ∙ sym at.0)
get_number_at (gets.Opens opening) bytes done k read last at = inl (at.1 ∙ sym at.0)
get_number_at (gets.Reads download room) bytes done k read last at = inl (sym at.0)
get_number_at (gets.Ended e) bytes done k read last at = inr refl

-- a put goes on where it was after so many turns, unless it has ended
put_number_at : (calls : ℕ) (s : PutStage) (made count k : ℕ) (last : Bool) → PutAt calls s made count k last → (put_number made s ≡ k) ⊎ (puts_ended s ≡ true)
put_number_at calls puts.Undrawn made count k last at = inl (sym at.2)
put_number_at calls (puts.Begins begun) made count k last at = absurd at
put_number_at calls (puts.Goes going) made count k last at = inl (omega (arith, at.1))
put_number_at calls (puts.Ended end) made count k last at = inr refl

-- so does a job of any kind
pub number_at : (calls : ℕ) (p : Player) (done : ℕ) (last : Bool) → IsAt calls p done last → (number_of p ≡ done) ⊎ (has_ended p ≡ true)
number_at calls (player.Insert job) done last at = none_done job.stage done last at
number_at calls (player.Follow job) done last at = number_at_stage calls job.stage (kept job) (came job) done last refl at
number_at calls (player.Put job) done last at = put_number_at calls job.stage job.done (length job.what.pieces.now) done last at
number_at calls (player.Get job) done last at = get_number_at job.stage (length job.bytes.items) job.done done job.what.read last at
