-- Whose call it is that waits for its reply.
use Rattle.std.proofs.Common.{◌≡◌, ◌⊎◌, ◌+◌, ◌<◌, ◌≤◌, ℕ, suc, ℤ, Bool, true, List, [], ◌∷◌, ◌++◌, length, Option, Some, Result, Ok, Err, IfOk, sym, ap, ◌∙◌, subst, inl, inr, arith}
use Rattle.std.specs.Prelude.{is_some, slice_get, slice_set}
use Rattle.std.proofs.lemmas.Bool.{cases_eq, cases_order}
use Rattle.std.proofs.lemmas.List.Sums.{sum_by-cons}
use Rattle.mg_bson.specs.Tree.{Fields}
use Rattle.mg_link.specs.Acts.{Tickets}
use Rattle.mg_server.specs.Calls.{Past}
use Rattle.mg_link.specs.Link.{Awaited, LogTold}
use Rattle.mg_link.specs.Log.{Call}
use Rattle.mg_link.specs.Namespace.{Space, space}
use Rattle.mg_link.specs.declared.error.Error.{Error}
use Rattle.mg_server.proofs.Calls.{HoldsOwn}
use Rattle.mg_server.proofs.Owners.{same_some}
use Rattle.mg_link.proofs.Places.{get_past_other, get_seam, get_set_same}
use Rattle.mg_change.proofs.Awaiting.{call_own, last_own, opening_own}
use Rattle.mg_change.proofs.Keeping.{sound_any}
use Rattle.mg_change.specs.OpeningView.{opening_of}
use Rattle.mg_change.specs.StreamView.{stream_of}
use Rattle.mg_players.specs.Causes.{AllSentIn, AllWaitAlone, Course, WaitsAlone, SentIn, course, sent_at}
use Rattle.mg_ops.specs.Drawn.{with_ids}
use Rattle.mg_players.specs.Drawing.{HaveDrawn, first_id, supply_from}
use Rattle.mg_ops.proofs.InsertCauses.{insert_own}
use Rattle.mg_gridfs.specs.DownloadView.{download_of, finding_of}
use Rattle.mg_gridfs.proofs.Growing as files
use Rattle.mg_players.specs.Gets.{GetTask, gets_ticket, sought}
use Rattle.mg_players.specs.Playing.{inserts_ticket, job_ticket, stage_ticket}
use Rattle.mg_players.specs.Plays.{Places}
use Rattle.mg_players.specs.Progress.{AllAt, Came, FollowAt, GetStageAt, InsertAt, IsAt, calls_of, came, pends_last, turns_done, PutAt}
use Rattle.mg_gridfs.specs.UploadView.{upload_of}
use Rattle.mg_players.proofs.PutTelling.{uploading_own}
use Rattle.mg_players.specs.Puts.{PutTask, Supply, puts_ticket, writes}
use Rattle.mg_players.specs.Telling.{AllSent, PutTells, put_number, AllTell, AllTold, FollowTold, GetTells, InsertTells, JobTold, Kept, kept, number}
use Rattle.mg_players.specs.declared.put.PutStage.{PutStage}
use Rattle.mg_players.specs.declared.put.PutStage.TheVariants as puts
use Rattle.mg_players.specs.Runs.{AreHeld, HeldBy}
use Rattle.mg_script.specs.Plan.{Task}
use Rattle.mg_script.specs.declared.outcome.Played.{Played}
use Rattle.mg_turns.specs.declared.turned.Turned.{Turned}
use Rattle.mg_players.specs.declared.get.GetStage.{GetStage}
use Rattle.mg_players.specs.declared.get.GetStage.TheVariants as gets
use Rattle.mg_players.specs.declared.insert.InsertStage.{InsertStage}
use Rattle.mg_players.specs.declared.insert.InsertStage.TheVariants as inserts
use Rattle.mg_players.specs.declared.follow.Stage.{Stage}
use Rattle.mg_players.specs.declared.follow.Stage.TheVariants as stage
use Rattle.mg_players.specs.declared.player.Player.{Player}
use Rattle.mg_players.specs.declared.player.Player.TheVariants as player
use Rattle.mg_players.proofs.Knowing.{get_length}
use Rattle.mg_players.proofs.Newest.{started_in}

-- ---- the tickets that are out

-- behind the turn of a job its own new ticket and those of the others are out, and no other
pub held_turn : (before old new : Awaited) (players : List Player) (k : ℕ) (p p' : Player) → slice_get players k ≡ Some p → Tickets old new (job_ticket p) (job_ticket p') → AreHeld before old players → AreHeld before new (slice_set players k p')
held_turn before old new players k p p' at tickets holds m out =
    elim (tickets.only m out) [
      | inl e ↦ inl (record { job = k; player = p'; there = get_set_same players k p p' at; holds = e })
      | inr was ↦ elim (holds m was.0) [
        | inl by ↦ elim (cases_eq by.job k) [
          | inl e ↦
              let same : by.player ≡ p = same_some by.player p (sym by.there ∙ ap (λ n. slice_get players n) e ∙ at) in
              absurd (was.1 (ap (λ (x : Player). job_ticket x) (sym same) ∙ by.holds))
          | inr ne ↦ inl (record { job = by.job; player = by.player; there = get_past_other players k by.job by.player p' ne by.there; holds = by.holds })
        ]
        | inr same ↦ inr (tickets.rest m was.1 was.0 ∙ same)
      ]
    ]

-- ---- one place, one turn

-- a turn comes behind all that an earlier one started
starts_behind : (xs ys : List Turned) (x y : Turned) (more more' : List Turned) → xs ++ x ∷ more ≡ ys ++ y ∷ more' → length xs < length ys → started_in xs + x.started ≤ started_in ys
starts_behind xs [] x y more more' e less = absurd (omega (arith, less))
starts_behind [] (w ∷ ys) x y more more' e less =
    let same : x ≡ w = cc e in
    let count = sum_by-cons (λ (t : Turned). t.started) w ys in
    let one : x.started ≡ w.started = ap (λ (t : Turned). t.started) same in
    omega (arith, count, one)
starts_behind (v ∷ xs) (w ∷ ys) x y more more' e less =
    let same : v ≡ w = cc e in
    let rest : xs ++ x ∷ more ≡ ys ++ y ∷ more' = cc e in
    let count = sum_by-cons (λ (t : Turned). t.started) w ys in
    let count' = sum_by-cons (λ (t : Turned). t.started) v xs in
    let one : v.started ≡ w.started = ap (λ (t : Turned). t.started) same in
    let further = starts_behind xs ys x y more more' rest (omega (arith, less)) in
    omega (arith, count, count', one, further)

-- what stands at a place was sent by one job alone
pub sent_by_one : (c : Course) (i j k k' place : ℕ) → SentIn c i k place → SentIn c j k' place → i ≡ j
sent_by_one c i j k k' place s t =
    elim (cases_order (length s.before) (length t.before)) [
      | inl same ↦
          let here : slice_get c.order (length s.before) ≡ Some i = ap (λ l. slice_get l (length s.before)) s.order_is ∙ get_seam s.before s.after i in
          let there : slice_get c.order (length t.before) ≡ Some j = ap (λ l. slice_get l (length t.before)) t.order_is ∙ get_seam t.before t.after j in
          same_some i j (sym here ∙ ap (λ n. slice_get c.order n) same ∙ there)
      | inr ne ↦ elim ne [
        | inl less ↦
            let behind = starts_behind s.noted t.noted s.note t.note s.later t.later (sym s.notes_are ∙ t.notes_are) (omega (arith, less, s.abreast, t.abreast)) in
            absurd (omega (arith, behind, s.upto, t.from))
        | inr more ↦
            let behind = starts_behind t.noted s.noted t.note s.note t.later s.later (sym t.notes_are ∙ s.notes_are) (omega (arith, more, s.abreast, t.abreast)) in
            absurd (omega (arith, behind, t.upto, s.from))
      ]
    ]

-- ---- the job that holds a ticket

some_if : (held : Option ℕ) (ticket : ℕ) (last : Bool) → is_some held ≡ last → held ≡ Some ticket → last ≡ true
some_if held ticket last holds is = sym holds ∙ ap (λ o. is_some o) is

-- its newest turn pended
insert_pended : (s : InsertStage) (k : ℕ) (last : Bool) (ticket : ℕ) → InsertAt s k last → inserts_ticket s ≡ Some ticket → last ≡ true
insert_pended inserts.Unsent k last ticket at holds = absurd cc
insert_pended (inserts.Goes i) k last ticket at holds = some_if (inserts_ticket (inserts.Goes i)) ticket last at.1 holds
insert_pended (inserts.Ended e) k last ticket at holds = absurd cc

follow_pended : (calls : ℕ) (s : Stage) (c : Came) (k : ℕ) (last : Bool) (ticket : ℕ) → FollowAt calls s c k last → stage_ticket s ≡ Some ticket → last ≡ true
follow_pended calls stage.Unopened c k last ticket at holds = absurd cc
follow_pended calls (stage.Opens opening) c k last ticket at holds = some_if (stage_ticket (stage.Opens opening)) ticket last at.1 holds
follow_pended calls (stage.Open stream) c k last ticket at holds = some_if (stage_ticket (stage.Open stream)) ticket last at.1 holds
follow_pended calls (stage.Closes closing) c k last ticket at holds = at.1
follow_pended calls stage.Ended c k last ticket at holds = absurd cc

get_pended : (s : GetStage) (bytes done k read : ℕ) (last : Bool) (ticket : ℕ) → GetStageAt s bytes done k last read → gets_ticket s ≡ Some ticket → last ≡ true
get_pended gets.Unsent bytes done k read last ticket at holds = absurd cc
get_pended (gets.Opens opening) bytes done k read last ticket at holds = some_if (gets_ticket (gets.Opens opening)) ticket last at.3 holds
get_pended (gets.Reads download room) bytes done k read last ticket at holds = some_if (gets_ticket (gets.Reads download room)) ticket last at.3 holds
get_pended (gets.Ended e) bytes done k read last ticket at holds = absurd cc

put_pended : (calls : ℕ) (s : PutStage) (done count k : ℕ) (last : Bool) (ticket : ℕ) → PutAt calls s done count k last → puts_ticket s ≡ Some ticket → last ≡ true
put_pended calls puts.Undrawn done count k last ticket at holds = absurd cc
put_pended calls (puts.Begins begun) done count k last ticket at holds = absurd at
put_pended calls (puts.Goes going) done count k last ticket at holds = some_if (puts_ticket (puts.Goes going)) ticket last at.3 holds
put_pended calls (puts.Ended end) done count k last ticket at holds = absurd cc

pub job_pended : (calls : ℕ) (p : Player) (k : ℕ) (last : Bool) (ticket : ℕ) → IsAt calls p k last → job_ticket p ≡ Some ticket → last ≡ true
job_pended calls (player.Insert job) k last ticket at holds = insert_pended job.stage k last ticket at holds
job_pended calls (player.Follow job) k last ticket at holds = follow_pended calls job.stage (came job) k last ticket at holds
job_pended calls (player.Put job) k last ticket at holds = put_pended calls job.stage job.done (length job.what.pieces.now) k last ticket at holds
job_pended calls (player.Get job) k last ticket at holds = get_pended job.stage (length job.bytes.items) job.done k job.what.read last ticket at holds

-- the call of its ticket is one that it sent
pub record SentOwn (awaited : Awaited) (c : Course) (i ticket : ℕ) : Type 0 where
  pub place : ℕ
  pub at : awaited ticket ≡ Some place
  pub done : ℕ
  pub sent : SentIn c i done place

sent_own : (awaited : Awaited) (c : Course) (i done : ℕ) (places : List ℕ) (calls : List Call) (wire : ℤ) (ticket : ℕ) → AllSentIn c i done places → HoldsOwn awaited (sent_at places calls wire) ticket → SentOwn awaited c i ticket
sent_own awaited c i done places calls wire ticket sent own =
    record {
      place = own.place;
      at = own.at;
      done = done;
      sent = elim own.own [
        | inl is ↦ sent own.place is
        | inr late ↦ let within = own.within in absurd (omega (arith, late, within))
      ];
    }

follow_own : (awaited : Awaited) (calls : List Call) (wire : ℤ) (c : Course) (i : ℕ) (s : Stage) (k : Kept) (at : Option ℕ) (ticket : ℕ) → FollowTold awaited calls wire c i s k at → stage_ticket s ≡ Some ticket → SentOwn awaited c i ticket
follow_own awaited calls wire c i stage.Unopened k at ticket t holds = absurd cc
follow_own awaited calls wire c i (stage.Opens opening) k at ticket t holds =
    sent_own awaited c i (number (stage.Opens opening) k) t.places.now calls wire ticket t.sent.now (opening_own awaited (sent_at t.places.now calls wire) (opening_of opening).args (opening_of opening).sending ticket t.tells.3 holds)
follow_own awaited calls wire c i (stage.Open stream) k at ticket t holds =
    sent_own awaited c i (number (stage.Open stream) k) t.places.now calls wire ticket t.sent.now (call_own awaited (sent_at t.places.now calls wire) true t.tells.0 (stream_of stream) ticket (sound_any true (stream_of stream) t.tells.3) t.tells.2 holds)
follow_own awaited calls wire c i (stage.Closes closing) k at ticket t holds =
    sent_own awaited c i (number (stage.Closes closing) k) t.places.now calls wire ticket t.sent.now (last_own awaited (sent_at t.places.now calls wire) t.tells.0 closing ticket t.tells.3 holds)
follow_own awaited calls wire c i stage.Ended k at ticket t holds = absurd cc

stage_own : (awaited : Awaited) (past : Past) (at : Space) (sent : List Fields) (s : InsertStage) (ticket : ℕ) → InsertTells awaited past at sent s → inserts_ticket s ≡ Some ticket → HoldsOwn awaited past ticket
stage_own awaited past at sent inserts.Unsent ticket tells holds = absurd cc
stage_own awaited past at sent (inserts.Goes i) ticket tells holds = insert_own awaited past at sent i ticket tells.0 holds
stage_own awaited past at sent (inserts.Ended e) ticket tells holds = absurd cc

get_own : (awaited : Awaited) (calls : List Call) (wire : ℤ) (c : Course) (i : ℕ) (q : Places) (g : GetTask) (s : GetStage) (bytes : List ℕ) (done : ℕ) (at : Option ℕ) (ticket : ℕ) → AllSent c i q done → GetTells awaited calls wire q g s bytes done at → gets_ticket s ≡ Some ticket → SentOwn awaited c i ticket
get_own awaited calls wire c i q g gets.Unsent bytes done at ticket sent t holds = absurd cc
get_own awaited calls wire c i q g (gets.Opens opening) bytes done at ticket sent t holds = sent_own awaited c i done q.now calls wire ticket sent.now (files.opening_own awaited (sent_at q.now calls wire) (finding_of opening) ticket t.2 t.3 holds)
get_own awaited calls wire c i q g (gets.Reads download room) bytes done at ticket sent t holds = sent_own awaited c i done q.now calls wire ticket sent.now (files.fetching_own awaited (sent_at q.now calls wire) (download_of download) ticket t.2 holds)
get_own awaited calls wire c i q g (gets.Ended e) bytes done at ticket sent t holds = absurd cc

put_own : (awaited : Awaited) (calls : List Call) (wire : ℤ) (c : Course) (i : ℕ) (supply : Supply) (t : PutTask) (done : ℕ) (s : PutStage) (q : Places) (ticket : ℕ) → PutTells awaited calls wire q supply t done s → AllSent c i q (put_number done s) → puts_ticket s ≡ Some ticket → SentOwn awaited c i ticket
put_own awaited calls wire c i supply t done puts.Undrawn q ticket tells sent holds = absurd cc
put_own awaited calls wire c i supply t done (puts.Begins begun) q ticket tells sent holds = absurd cc
put_own awaited calls wire c i supply t done (puts.Goes going) q ticket tells sent holds =
    let u = upload_of going.upload in
    sent_own awaited c i (suc done) q.now calls wire ticket sent.now (uploading_own awaited (sent_at q.now calls wire) ticket u.aim u.doing tells.0.underway holds)
put_own awaited calls wire c i supply t done (puts.Ended end) q ticket tells sent holds = absurd cc

pub job_own : (supply : Supply) (first : ℕ) (awaited : Awaited) (calls : List Call) (wire : ℤ) (c : Course) (i : ℕ) (p : Player) (at : Option ℕ) (ticket : ℕ) → JobTold supply first awaited calls wire c i p at → job_ticket p ≡ Some ticket → SentOwn awaited c i ticket
job_own supply first awaited calls wire c i (player.Insert job) at ticket t holds =
    sent_own awaited c i 0 t.places.now calls wire ticket t.sent.now (stage_own awaited (sent_at t.places.now calls wire) (space job.ns.now) (with_ids supply.ids first job.documents.now) job.stage ticket t.tells.tells holds)
job_own supply first awaited calls wire c i (player.Follow job) at ticket t holds = follow_own awaited calls wire c i job.stage (kept job) at ticket (record { places = t.places; tells = t.tells; sent = t.sent }) holds
job_own supply first awaited calls wire c i (player.Put job) at ticket t holds = put_own awaited calls wire c i (supply_from supply first) (writes job.what) job.done job.stage t.places ticket t.tells t.sent holds
job_own supply first awaited calls wire c i (player.Get job) at ticket t holds = get_own awaited calls wire c i t.places (sought job.what) job.stage job.bytes.items job.done at ticket t.sent t.tells holds

-- ---- at the end of a run

module _ (supply : Supply) (given : ℕ → List ℕ) (before awaited : Awaited) (calls calls' : List Call) (wire : ℤ) (ts : List Task) (order : List ℕ) (notes : List Turned) (players : List Player) (drawn : HaveDrawn supply.ids given ts order players) (places : ℕ → Option ℕ) (tell : AllTold supply awaited calls' wire (course calls order notes) ts players places) where
  -- the call of a ticket that a job holds
  held_own : (ticket place : ℕ) → awaited ticket ≡ Some place → (by : HeldBy players ticket) → (done : ℕ) × SentIn (course calls order notes) by.job done place
  held_own ticket place at by =
      let t = get_length ts players drawn.jobs by.job by.player by.there in
      let own = job_own supply (first_id ts order by.job) awaited calls' wire (course calls order notes) by.job by.player (places by.job) ticket (tell.each by.job t.0 by.player t.1 by.there) by.holds in
      (own.done, subst (λ n. SentIn (course calls order notes) by.job own.done n) (same_some own.place place (sym own.at ∙ at)) own.sent)

  -- two tickets whose calls a job sent are one, or not of a job
  held_alone : AreHeld before awaited players → (ticket : ℕ) (by : HeldBy players ticket) (other place done : ℕ) → awaited other ≡ Some place → SentIn (course calls order notes) by.job done place → (other ≡ ticket) ⊎ (before other ≡ Some place)
  held_alone holds ticket by other place done at sent =
      elim (holds other (ap (λ o. is_some o) at)) [
        | inl by' ↦
            let own = held_own other place at by' in
            let it : by'.job ≡ by.job = sent_by_one (course calls order notes) by'.job by.job own.0 done place own.1 sent in
            let same : by'.player ≡ by.player = same_some by'.player by.player (sym by'.there ∙ ap (λ n. slice_get players n) it ∙ by.there) in
            inl (same_some other ticket (sym by'.holds ∙ ap (λ (x : Player). job_ticket x) same ∙ by.holds))
        | inr same ↦ inr (sym same ∙ at)
      ]

  held_waits : AllAt ts order notes players → AreHeld before awaited players → (ticket place : ℕ) → awaited ticket ≡ Some place → HeldBy players ticket → WaitsAlone before awaited (course calls order notes) ticket place
  held_waits all holds ticket place at by =
      let t = get_length ts players drawn.jobs by.job by.player by.there in
      let own = held_own ticket place at by in
      record {
        job = by.job;
        done = own.0;
        sent = own.1;
        pended = job_pended (calls_of t.0) by.player (turns_done by.job order notes) (pends_last by.job order notes) ticket (all by.job t.0 by.player t.1 by.there) by.holds;
        alone = held_alone holds ticket by;
      }

all_wait : (supply : Supply) (given : ℕ → List ℕ) (before awaited : Awaited) (log log' : LogTold) (wire : ℤ) (ts : List Task) (order : List ℕ) (notes : List Turned) (players : List Player) → HaveDrawn supply.ids given ts order players → AllTell supply awaited log log' wire ts order notes players → AllAt ts order notes players → AreHeld before awaited players → AllWaitAlone before awaited log order notes
all_wait supply given before awaited log log' wire ts order notes players drawn tell all holds calls told ticket place at =
    let run = tell calls told in
    elim (holds ticket (ap (λ o. is_some o) at)) [
      | inl by ↦ inr (held_waits supply given before awaited calls run.0 wire ts order notes players drawn run.2.places run.3 all holds ticket place at by)
      | inr same ↦ inl (sym same ∙ at)
    ]

-- the same of a run, unless memory ran out
pub wait_so : (supply : Supply) (given : ℕ → List ℕ) (before awaited : Awaited) (log log' : LogTold) (wire : ℤ) (ts : List Task) (order : List ℕ) (notes : List Turned) (players : List Player) (result : Result Played Error) → IfOk result (λ p. p.turns.items ≡ notes)
    → HaveDrawn supply.ids given ts order players → AllTell supply awaited log log' wire ts order notes players → AllAt ts order notes players → AreHeld before awaited players → IfOk result (λ p. AllWaitAlone before awaited log order p.turns.items)
wait_so supply given before awaited log log' wire ts order notes players (Ok p) turns drawn tell all holds =
    subst (λ (ns : List Turned). AllWaitAlone before awaited log order ns) (sym turns) (all_wait supply given before awaited log log' wire ts order notes players drawn tell all holds)
wait_so supply given before awaited log log' wire ts order notes players (Err e) turns drawn tell all holds = tt
