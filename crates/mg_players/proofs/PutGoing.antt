-- A turn of a put whose upload is open, as one of its kind.
use Rattle.std.proofs.Common.{◌≡◌, ◌+◌, ℕ, ℤ, false, length, Result, Ok, Err, refl, sym, ap, subst, inl, inr, arith}
use Rattle.mg_link.specs.Acts.{IsOut}
use Rattle.mg_link.specs.Link.{Awaited, LogTold}
use Rattle.mg_link.specs.declared.error.Error.{Error}
use Rattle.mg_server.proofs.Apart.{passes_same}
use Rattle.mg_link.proofs.Onward.{tickets_same}
use Rattle.mg_gridfs.specs.Uploads as uploads
use Rattle.mg_gridfs.specs.UploadView.{upload_of}
use Rattle.mg_players.specs.Headline.{PutPlays, put_task}
use Rattle.mg_players.specs.Plays.{Goes, SentAt, no_move}
use Rattle.mg_players.specs.Progress.{HoldsIf, PutAt, PutGoes, PutOver, PutReady}
use Rattle.mg_players.specs.Putting.{Opens, OpensFrom, PutTurns}
use Rattle.mg_players.specs.Puts.{IsPutDoing, PutHasIds, PutHolds, PutTask, put_ticket}
use Rattle.mg_players.specs.Telling.{PutSays, put_number}
use Rattle.mg_players.specs.declared.put.Beginning.{Beginning}
use Rattle.mg_players.specs.declared.put.PutPlayer.{PutPlayer}
use Rattle.mg_players.specs.declared.put.PutStage.{PutStage}
use Rattle.mg_players.specs.declared.put.PutStage.TheVariants as puts
use Rattle.mg_players.specs.declared.put.Written.{Written}
use Rattle.mg_players.proofs.JobTelling.{quiet_turn, tells_same_job}
use Rattle.mg_players.proofs.PutKnowing.{holds_put}
use Rattle.mg_script.specs.declared.outcome.Ended.{Ended}
use Rattle.mg_script.specs.declared.outcome.Ended.TheVariants as ended

-- a put at the stage that it has
pub at_stage : (p : PutPlayer) (s : PutStage) → s ≡ p.stage → record p { stage = s } ≡ p
at_stage p s is = ap (λ (x : PutStage). record p { stage = x }) is

-- over a link whose wire version stays
pub put_goes : (old new : Awaited) (log log' : LogTold) (wire wire' moment : ℤ) (p r : PutPlayer) (s : PutStage) → s ≡ p.stage → wire' ≡ wire → PutTurns old new log log' wire moment (record p { stage = s }) r
    → Goes put_ticket (λ w x. PutHolds x) put_task PutPlays PutSays (λ x. put_number x.done x.stage) (λ x. PutHasIds x.stage) (SentAt moment) old new log log' wire' p r
put_goes old new log log' wire wire' moment p r s is same turns =
    let t = subst (λ (x : PutPlayer). PutTurns old new log log' wire' moment x r) (at_stage p s is) (subst (λ (w : ℤ). PutTurns old new log log' w moment (record p { stage = s }) r) (sym same) turns) in
    record {
      tickets = t.tickets;
      holds = t.holds;
      next = no_move;
      turned = t.turned;
      told = t.told;
      task = ap (λ (w : Written). put_task (record p { what = w })) t.same;
      has = λ had. t.has;
    }

pub put_comes : (before now : ℕ) (p r : PutPlayer) (s : PutStage) → s ≡ p.stage → PutGoes before now (record p { stage = s }) r → PutGoes before now p r
put_comes before now p r s is goes = subst (λ (x : PutPlayer). PutGoes before now x r) (at_stage p s is) goes

-- ---- its opening

-- Behind its opening an upload is open that has taken nothing, or the put has failed.
opens_at : (t : PutTask) (begun : Beginning) (s : PutStage) (calls done count k : ℕ) → Opens t begun s → count ≡ calls → done ≡ 0 → k ≡ 0 → PutAt calls s done count (k + 1) false
opens_at t begun puts.Undrawn calls done count k opens same none first = absurd opens
opens_at t begun (puts.Begins other) calls done count k opens same none first = absurd opens
opens_at t begun (puts.Goes going) calls done count k opens same none first =
    let rest : (upload_of going.upload).doing ≡ uploads.idle = ap (λ (u : uploads.ClientUpload). u.doing) opens.1 in (
      same,
      omega (arith, none, first),
      subst (λ (d : uploads.Doing). IsPutDoing d done count) (sym rest) (omega (arith, none)),
      subst (λ (d : uploads.Doing). HoldsIf false (uploads.ticket_by d)) (sym rest) refl,
      λ still. rest,
    )
opens_at t begun (puts.Ended ended.Unfinished) calls done count k opens same none first = absurd opens
opens_at t begun (puts.Ended (ended.Gave n)) calls done count k opens same none first = absurd opens
opens_at t begun (puts.Ended (ended.Failed e)) calls done count k opens same none first = (inl (none, omega arith), refl)

opens_from_at : (t : PutTask) (begun : Result Beginning Error) (s : PutStage) (calls done count k : ℕ) → OpensFrom t begun s → count ≡ calls → done ≡ 0 → k ≡ 0 → PutAt calls s done count (k + 1) false
opens_from_at t (Ok begun) s calls done count k opens same none first = opens_at t begun s calls done count k opens same none first
opens_from_at t (Err e) s calls done count k opens same none first = subst (λ (x : PutStage). PutAt calls x done count (k + 1) false) (sym opens) (inl (none, omega arith), refl)

pub opening_comes : (before : ℕ) (t : PutTask) (p : PutPlayer) (begun : Result Beginning Error) (s : PutStage) → puts.Begins begun ≡ p.stage → OpensFrom t begun s → PutGoes before before p (record p { stage = s })
opening_comes before t p begun s is opens = (
  false,
  refl,
  λ calls k last at.
      let ready = subst (λ (x : PutStage). PutReady calls x p.done (length p.what.pieces.now) k last) (sym is) at in
      opens_from_at t begun s calls p.done (length p.what.pieces.now) k opens ready.0 ready.1 ready.2,
)

-- ---- a turn that changes nothing

pub put_same : (awaited : Awaited) (log : LogTold) (wire moment : ℤ) (p r : PutPlayer) → r ≡ p → IsOut awaited (put_ticket p) → PutHolds p → Goes put_ticket (λ w x. PutHolds x) put_task PutPlays PutSays (λ x. put_number x.done x.stage) (λ x. PutHasIds x.stage) (SentAt moment) awaited awaited log log wire p r
put_same awaited log wire moment p r is out holds =
    subst (λ (x : PutPlayer). Goes put_ticket (λ w y. PutHolds y) put_task PutPlays PutSays (λ y. put_number y.done y.stage) (λ y. PutHasIds y.stage) (SentAt moment) awaited awaited log log wire p x) (sym is)
    (record {
      tickets = tickets_same awaited (put_ticket p) out;
      holds = holds;
      next = no_move;
      turned = λ calls told o at plays. (calls, told, record { place = at; placed = refl; owner = o; plays = plays; passes = passes_same calls o (holds_put awaited calls o p.stage plays) });
      told = quiet_turn put_task PutPlays PutSays (λ y. put_number y.done y.stage) (SentAt moment) awaited log wire p p (tells_same_job put_task PutSays (λ y. put_number y.done y.stage) (SentAt moment) p);
      task = refl;
      has = λ has. has;
    })

-- one that has yet to draw its ids takes no turn
pub undrawn_comes : (before : ℕ) (p r : PutPlayer) → puts.Undrawn ≡ p.stage → PutGoes before before p r
undrawn_comes before p r is = (false, refl, λ calls k last at. absurd (subst (λ (s : PutStage). PutReady calls s p.done (length p.what.pieces.now) k last) (sym is) at))

-- one that has ended stays so
over_on : (e : Ended ℕ) (done count k : ℕ) → PutOver e done count k → PutOver e done count (k + 1)
over_on ended.Unfinished done count k over = over
over_on (ended.Gave n) done count k over = omega (arith, over)
over_on (ended.Failed e) done count k (inl first) = inl (first.0, (let some = first.1 in omega (arith, some)))
over_on (ended.Failed e) done count k (inr more) = inr (omega (arith, more))

pub ended_comes : (before : ℕ) (p r : PutPlayer) (e : Ended ℕ) → puts.Ended e ≡ p.stage → r ≡ p → PutGoes before before p r
ended_comes before p r e was is =
    subst (λ (x : PutPlayer). PutGoes before before p x) (sym is) (
      false,
      refl,
      λ calls k last at.
          let over = subst (λ (s : PutStage). PutReady calls s p.done (length p.what.pieces.now) k last) (sym was) at in
          subst (λ (s : PutStage). PutAt calls s p.done (length p.what.pieces.now) (k + 1) false) was (over_on e p.done calls k over, refl),
    )
