-- What jobs say of lost replies, over the parts of a turn, a turn and a run.
use Rattle.std.proofs.Common.{◌≡◌, ◌⊎◌, ◌<◌, ◌≤◌, ◌-◌, ◌^◌, ◌++◌, ◌∷◌, ℕ, [], List, false, length, Vec, Global, Option, Some, None, Result, Ok, Err, IfOk, sym, ap, ◌∙◌, subst, inl, inr, arith}
use Rattle.std.specs.Prelude.{slice_get, slice_set}
use Rattle.std.proofs.lemmas.Bool.{cases_eq}
use Rattle.mg_bson.specs.Tree.{Fields}
use Rattle.mg_link.specs.Causes.{Rose, RoseJust}
use Rattle.mg_link.specs.Moment.{LinkKeeps, LosesByFault, Moment, failed}
use Rattle.mg_link.specs.Namespace.{Space}
use Rattle.mg_link.specs.declared.error.Error.{Error}
use Rattle.mg_link.proofs.Places.{get_push, get_set_other, get_set_same}
use Rattle.mg_link.specs.declared.error.BadArgument.TheVariants as argument
use Rattle.mg_link.specs.declared.error.ErrorKind.TheVariants as kind
use Rattle.mg_server.proofs.Owners.{same_some}
use Rattle.mg_cursor.proofs.Hearing.{no_room, other_kind}
use Rattle.mg_change.specs.StreamCalls.{event_ending}
use Rattle.mg_change.specs.declared.event_poll.EventPoll.{EventPoll}
use Rattle.mg_gridfs.specs.Calls.{ending_beside}
use Rattle.mg_gridfs.specs.Uploads.{ClientUpload, Doing, error_by, idle, upload_error}
use Rattle.mg_gridfs.specs.UploadView.{upload_of}
use Rattle.mg_gridfs.specs.declared.download.GridFsDownloadStream.{GridFsDownloadStream}
use Rattle.mg_players.specs.Follows.{IsUnfinished, poll_of}
use Rattle.mg_players.specs.Gets.{EndsBehind, KeepsRead, OpensAs, get_end}
use Rattle.mg_players.specs.Headline.{AreFirst, IsFirst, OutcomeOf, OutcomesOf}
use Rattle.mg_players.specs.Losses.{AllLoseBy, AllLostBy, AnswerLost, BegunLost, EndLost, EndingLost, FollowLoses, FollowLost, IsKnown, IsLoss, JobLost, LosesBy, LostAt, LostIn, Part, PutLoses, PutLost, RoseFor, SaysLost, StoringLost, answer, ending, opening, storing}
use Rattle.mg_players.specs.Playing.{IsSameFollow, end_of}
use Rattle.mg_players.specs.Progress.{AllAt, FollowAt, IsAt, calls_of, came}
use Rattle.mg_players.specs.Puts.{PutTask, put_end}
use Rattle.mg_players.specs.Putting.{DrewFor, Opens, OpensFrom}
use Rattle.mg_players.specs.Telling.{TellsOn}
use Rattle.mg_players.specs.declared.follow.FollowPlayer.{FollowPlayer}
use Rattle.mg_players.specs.declared.follow.Stage.{Stage}
use Rattle.mg_players.specs.declared.follow.Stage.TheVariants as stage
use Rattle.mg_players.specs.declared.get.GetStage.{GetStage}
use Rattle.mg_players.specs.declared.get.GetStage.TheVariants as gets
use Rattle.mg_players.specs.declared.insert.InsertStage.{InsertStage}
use Rattle.mg_players.specs.declared.insert.InsertStage.TheVariants as inserts
use Rattle.mg_players.specs.declared.player.Player.{Player}
use Rattle.mg_players.specs.declared.player.Player.TheVariants as player
use Rattle.mg_players.specs.declared.put.Beginning.{Beginning}
use Rattle.mg_players.specs.declared.put.PutStage.{PutStage}
use Rattle.mg_players.specs.declared.put.PutStage.TheVariants as puts
use Rattle.mg_players.proofs.Knowing.{get_length}
use Rattle.mg_script.specs.Plan.{Task}
use Rattle.mg_script.specs.declared.outcome.Answer.{Answer}
use Rattle.mg_script.specs.declared.outcome.Answer.TheVariants as answers
use Rattle.mg_script.specs.declared.outcome.Ended.{Ended}
use Rattle.mg_script.specs.declared.outcome.Ended.TheVariants as ended
use Rattle.mg_script.specs.declared.outcome.Outcome.{Outcome}
use Rattle.mg_script.specs.declared.outcome.Outcome.TheVariants as outcomes
use Rattle.mg_script.specs.declared.outcome.Played.{Played}

-- ---- one turn behind another

before_rose : (a b c : ℕ) → a ≤ b → Rose b c → Rose a c
before_rose a b c le rose = omega (arith, le, rose)

rose_before : (a b c : ℕ) → Rose a b → b ≤ c → Rose a c
rose_before a b c rose le = omega (arith, rose, le)

rose_later : (part : Part) (a b c m n o : ℕ) → b ≤ c → n ≤ o → RoseFor part a b m n → RoseFor part a c m o
rose_later opening a b c m n o le more rose = rose_before a b c rose le
rose_later (answer number) a b c m n o le more rose = rose_before a b c rose le
rose_later ending a b c m n o le more rose = rose_before a b c rose le
rose_later storing a b c m n o le more (inl rose) = inl (rose_before a b c rose le)
rose_later storing a b c m n o le more (inr rose) = inr (rose_before m n o rose more)

later_rose : (part : Part) (a b c m n o : ℕ) → a ≤ b → m ≤ n → RoseFor part b c n o → RoseFor part a c m o
later_rose opening a b c m n o le more rose = before_rose a b c le rose
later_rose (answer number) a b c m n o le more rose = before_rose a b c le rose
later_rose ending a b c m n o le more rose = before_rose a b c le rose
later_rose storing a b c m n o le more (inl rose) = inl (before_rose a b c le rose)
later_rose storing a b c m n o le more (inr rose) = inr (before_rose m n o more rose)

pub loses_on : {P : Type 0} (lost : P → Part → Type 0) (a b c m n o : ℕ) (p q r : P) → a ≤ b → b ≤ c → m ≤ n → n ≤ o → LosesBy lost a b m n p q → LosesBy lost b c n o q r → LosesBy lost a c m o p r
loses_on lost a b c m n o p q r ab bc mn unlost first next part h =
    elim (next part h) [
      | inl was ↦ elim (first part was) [ inl w ↦ inl w | inr rose ↦ inr (rose_later part a b c m n o bc unlost rose) ]
      | inr rose ↦ inr (later_rose part a b c m n o ab mn rose)
    ]

-- ---- parts of a turn of a follow

module _ (a b m n : ℕ) (p q : FollowPlayer) where
  -- its opening ended well, or failed so
  pub opened_loses : (end : Ended (Unit {0})) → q.opened ≡ end → (EndLost end → Rose a b) → q.answers.items ≡ p.answers.items → q.closed ≡ p.closed → FollowLoses a b m n p q
  opened_loses end is rose said closed opening h = inr (rose (subst (λ (x : Ended (Unit {0})). EndLost x) is h))
  opened_loses end is rose said closed (answer number) h = inl (subst (λ (l : List Answer). LostAt l number) said h)
  opened_loses end is rose said closed ending h = inl (subst (λ (x : Ended (Unit {0})). EndLost x) closed h)
  opened_loses end is rose said closed storing h = absurd h

  pub closed_loses : (end : Ended (Unit {0})) → q.closed ≡ end → (EndLost end → Rose a b) → q.answers.items ≡ p.answers.items → q.opened ≡ p.opened → FollowLoses a b m n p q
  closed_loses end is rose said opened opening h = inl (subst (λ (x : Ended (Unit {0})). EndLost x) opened h)
  closed_loses end is rose said opened (answer number) h = inl (subst (λ (l : List Answer). LostAt l number) said h)
  closed_loses end is rose said opened ending h = inr (rose (subst (λ (x : Ended (Unit {0})). EndLost x) is h))
  closed_loses end is rose said opened storing h = absurd h

  -- a call was answered
  pub answer_loses : (x : Answer) → q.answers.items ≡ p.answers.items ++ x ∷ [] → (AnswerLost x → Rose a b) → q.opened ≡ p.opened → q.closed ≡ p.closed → FollowLoses a b m n p q
  answer_loses x is rose opened closed opening h = inl (subst (λ (e : Ended (Unit {0})). EndLost e) opened h)
  answer_loses x is rose opened closed (answer number) h =
      elim (get_push p.answers.items x number h.0 (subst (λ (l : List Answer). slice_get l number ≡ Some h.0) is h.1)) [
        | inl was ↦ inl (h.0, was, h.2)
        | inr last ↦ inr (rose (subst (λ (y : Answer). AnswerLost y) (sym last.1) h.2))
      ]
  answer_loses x is rose opened closed ending h = inl (subst (λ (e : Ended (Unit {0})). EndLost e) closed h)
  answer_loses x is rose opened closed storing h = absurd h

-- an answer says so only where its poll does
pub poll_lost : (before now : ℕ) (poll : EventPoll) (x : Answer) → poll ≡ poll_of x → LosesByFault (event_ending poll) before now → AnswerLost x → Rose before now
poll_lost before now poll (answers.Event bytes) is lost h = absurd h
poll_lost before now poll answers.Nothing is lost h = absurd h
poll_lost before now poll (answers.Failed e) is lost h = (subst (λ (r : EventPoll). LosesByFault (event_ending r) before now) is lost) h

-- it got ready
pub ready_lost : (p q : FollowPlayer) → IsSameFollow p q → (part : Part) → FollowLost q.opened q.answers.items q.closed part → FollowLost p.opened p.answers.items p.closed part
ready_lost p q same opening lost = subst (λ (e : Ended (Unit {0})). EndLost e) same.opened_same lost
ready_lost p q same (answer number) lost = subst (λ (l : List Answer). LostAt l number) same.answers_same lost
ready_lost p q same ending lost = subst (λ (e : Ended (Unit {0})). EndLost e) same.closed_same lost
ready_lost p q same storing lost = lost

-- it moves to its next stage
pub follow_lost : (a b m n : ℕ) (job mid job' : FollowPlayer) (next : Stage) → job' ≡ record mid { stage = next } → FollowLoses a b m n job mid → FollowLoses a b m n job job'
follow_lost a b m n job mid job' next to h = subst (λ (p : FollowPlayer). FollowLoses a b m n job p) (sym to) (λ part lost. h part lost)

-- ---- parts of a turn of a put

-- an upload is open, or it failed by none of the link
open_lost : (t : PutTask) (begun : Beginning) (s : PutStage) → Opens t begun s → PutLost s → ⊥
open_lost t begun puts.Undrawn opens lost = lost
open_lost t begun (puts.Begins other) opens lost = absurd opens
open_lost t begun (puts.Goes going) opens lost =
    let none : upload_error (upload_of going.upload) ≡ None = ap upload_error opens.1 in
    subst (λ (e : Option Error). IsKnown e) none lost
open_lost t begun (puts.Ended ended.Unfinished) opens lost = lost
open_lost t begun (puts.Ended (ended.Gave n)) opens lost = lost
open_lost t begun (puts.Ended (ended.Failed e)) (inl room) lost = no_room e room lost
open_lost t begun (puts.Ended (ended.Failed e)) (inr size) lost = other_kind e (kind.InvalidArgument argument.ChunkSize) size.1 (λ bad. cc) lost

pub opening_lost : (t : PutTask) (begun : Result Beginning Error) (s : PutStage) → OpensFrom t begun s → PutLost s → BegunLost begun
opening_lost t (Ok begun) s opens lost = absurd (open_lost t begun s opens lost)
opening_lost t (Err e) s opens lost = subst (λ (x : PutStage). PutLost x) opens lost

-- a put that drew its ids
drawn_lost : (ids : ℕ → List ℕ) (t : PutTask) (s' : PutStage) → DrewFor ids t puts.Undrawn s' → PutLost s' → ⊥
drawn_lost ids t puts.Undrawn drew lost = lost
drawn_lost ids t (puts.Begins (Ok begun)) drew lost = lost
drawn_lost ids t (puts.Begins (Err e)) drew lost = no_room e drew lost
drawn_lost ids t (puts.Goes going) drew lost = absurd drew
drawn_lost ids t (puts.Ended end) drew lost = absurd drew

drew_put : (ids : ℕ → List ℕ) (t : PutTask) (s s' : PutStage) → DrewFor ids t s s' → PutLost s' → PutLost s
drew_put ids t puts.Undrawn s' drew lost = drawn_lost ids t s' drew lost
drew_put ids t (puts.Begins begun) s' drew lost = subst (λ (x : PutStage). PutLost x) drew lost
drew_put ids t (puts.Goes going) s' drew lost = subst (λ (x : PutStage). PutLost x) drew lost
drew_put ids t (puts.Ended end) s' drew lost = subst (λ (x : PutStage). PutLost x) drew lost

pub drew_lost : (ids : ℕ → List ℕ) (t : PutTask) (s s' : PutStage) → DrewFor ids t s s' → (part : Part) → StoringLost s' part → StoringLost s part
drew_lost ids t s s' drew opening lost = lost
drew_lost ids t s s' drew (answer number) lost = lost
drew_lost ids t s s' drew ending lost = lost
drew_lost ids t s s' drew storing lost = drew_put ids t s s' drew lost

-- what its upload answers: a failure that was not known before is one of this poll
pub beside_lost : (x y : Moment) (t t' : Option ℕ) (known : Option Error) (e : Error) → LinkKeeps x y t t' (ending_beside (failed e) known) → IsLoss e → IsKnown known ⊎ (Rose x.faults y.faults ⊎ Rose x.pends y.pends)
beside_lost x y t t' None e keeps lost = inr (inl (keeps.lost lost))
beside_lost x y t t' (Some d) e keeps lost = inl tt

-- an upload that rests has failed by nothing
pub idle_lost : (u : ClientUpload) → u.doing ≡ idle → IsKnown (upload_error u) → ⊥
idle_lost u rests some = subst (λ (d : Doing). IsKnown (error_by d)) rests some

pub put_lost : (a b m n : ℕ) (s was s' : PutStage) → was ≡ s → PutLoses a b m n was s' → (part : Part) → StoringLost s' part → StoringLost s part ⊎ RoseFor part a b m n
put_lost a b m n s was s' is loses opening lost = absurd lost
put_lost a b m n s was s' is loses (answer number) lost = absurd lost
put_lost a b m n s was s' is loses ending lost = absurd lost
put_lost a b m n s was s' is loses storing lost = subst (λ (x : PutStage). PutLost x ⊎ (Rose a b ⊎ Rose m n)) is (loses lost)

-- ---- parts of a turn of a get or an insert

pub ending_lost : {A : Type 0} (a b m n : ℕ) (end end' : Ended A) → (EndLost end' → EndLost end ⊎ Rose a b) → (part : Part) → EndingLost end' part → EndingLost end part ⊎ RoseFor part a b m n
ending_lost a b m n end end' loses opening lost = absurd lost
ending_lost a b m n end end' loses (answer number) lost = absurd lost
ending_lost a b m n end end' loses ending lost = loses lost
ending_lost a b m n end end' loses storing lost = absurd lost

pub never_lost : {A : Type 0} (end end' : Ended A) → (EndLost end' → EndLost end) → (part : Part) → EndingLost end' part → EndingLost end part
never_lost end end' loses opening lost = lost
never_lost end end' loses (answer number) lost = lost
never_lost end end' loses ending lost = loses lost
never_lost end end' loses storing lost = lost

-- an insert that drew its ids
drew_end : (ids : ℕ → List ℕ) (at : Space) (documents : List Fields) (s s' : InsertStage) → TellsOn ids at documents s s' → EndLost (end_of s') → EndLost (end_of s)
drew_end ids at documents inserts.Unsent s' tells lost = tells.unlost lost
drew_end ids at documents (inserts.Goes i) s' tells lost = subst (λ (x : InsertStage). EndLost (end_of x)) tells lost
drew_end ids at documents (inserts.Ended end) s' tells lost = subst (λ (x : InsertStage). EndLost (end_of x)) tells lost

pub drew_insert : (ids : ℕ → List ℕ) (at : Space) (documents : List Fields) (s s' : InsertStage) → TellsOn ids at documents s s' → (part : Part) → EndingLost (end_of s') part → EndingLost (end_of s) part
drew_insert ids at documents s s' tells part lost = never_lost (end_of s) (end_of s') (drew_end ids at documents s s' tells) part lost

pub opens_lost : (d : GridFsDownloadStream) (s : GetStage) → OpensAs d s → EndLost (get_end s) → ⊥
opens_lost d gets.Unsent opens lost = lost
opens_lost d (gets.Opens finding) opens lost = lost
opens_lost d (gets.Reads download room) opens lost = lost
opens_lost d (gets.Ended ended.Unfinished) opens lost = lost
opens_lost d (gets.Ended (ended.Gave x)) opens lost = lost
opens_lost d (gets.Ended (ended.Failed e)) opens lost = no_room e opens lost

short_lost : (count : ℕ) (end : Ended (Unit {0})) → EndsBehind count end → EndLost end → ⊥
short_lost count ended.Unfinished ends lost = lost
short_lost count (ended.Gave x) ends lost = lost
short_lost count (ended.Failed e) ends lost = no_room e ends.1 lost

pub keeps_lost : (d : GridFsDownloadStream) (room : Vec ℕ Global) (count : ℕ) (before after : List ℕ) (s : GetStage) → KeepsRead d room count before after s → EndLost (get_end s) → ⊥
keeps_lost d room count before after gets.Unsent keeps lost = lost
keeps_lost d room count before after (gets.Opens finding) keeps lost = lost
keeps_lost d room count before after (gets.Reads download r) keeps lost = lost
keeps_lost d room count before after (gets.Ended end) keeps lost = short_lost count end keeps.1 lost

-- ---- a turn of one job

-- over a link whose pending replies are counted since the turn began
rose_counted : (part : Part) (a b n m o : ℕ) → n ≤ 1 → (n < 2 ^ 64 - 1 → RoseJust n m o) → RoseFor part a b 0 n → RoseFor part a b m o
rose_counted opening a b n m o few counted rose = rose
rose_counted (answer number) a b n m o few counted rose = rose
rose_counted ending a b n m o few counted rose = rose
rose_counted storing a b n m o few counted (inl rose) = inl rose
rose_counted storing a b n m o few counted (inr rose) = let more = (counted (omega (arith, few))).0 in inr (omega (arith, few, more, rose))

pub counted_lost : (a b c d k n m o : ℕ) (p p' : Player) → a ≡ c → b ≡ d → k ≡ 0 → n ≤ 1 → (n < 2 ^ 64 - 1 → RoseJust n m o) → LosesBy JobLost a b k n p p' → LosesBy JobLost c d m o p p'
counted_lost a b c d k n m o p p' from to none few counted loses part lost =
    let h = subst (λ (x : ℕ). LosesBy JobLost c d x n p p') none (subst (λ (x : ℕ). LosesBy JobLost c x k n p p') to (subst (λ (x : ℕ). LosesBy JobLost x b k n p p') from loses)) in
    elim (h part lost) [ inl was ↦ inl was | inr rose ↦ inr (rose_counted part c d n m o few counted rose) ]

-- ---- all jobs

pub none_lose : (a b m n : ℕ) (players : List Player) → AllLoseBy a b m n players players
none_lose a b m n players i part lost = inl lost

pub all_lose_on : (a b c m n o : ℕ) (ps qs rs : List Player) → a ≤ b → b ≤ c → m ≤ n → n ≤ o → AllLoseBy a b m n ps qs → AllLoseBy b c n o qs rs → AllLoseBy a c m o ps rs
all_lose_on a b c m n o ps qs rs ab bc mn unlost first next i part h =
    elim (next i part h) [
      | inl was ↦ elim (first i part was) [ inl w ↦ inl w | inr rose ↦ inr (rose_later part a b c m n o bc unlost rose) ]
      | inr rose ↦ inr (later_rose part a b c m n o ab mn rose)
    ]

-- one took a turn
pub all_lose_at : (a b m n : ℕ) (players : List Player) (k : ℕ) (p p' : Player) → slice_get players k ≡ Some p → LosesBy JobLost a b m n p p' → AllLoseBy a b m n players (slice_set players k p')
all_lose_at a b m n players k p p' at loses i part h =
    elim (cases_eq i k) [
      | inl e ↦
          let here : slice_get players i ≡ Some p = ap (slice_get players) e ∙ at in
          let is : p' ≡ h.0 = same_some p' h.0 (sym (get_set_same players k p p' at) ∙ ap (λ (j : ℕ). slice_get (slice_set players k p') j) (sym e) ∙ h.1) in
          elim (loses part (subst (λ (x : Player). JobLost x part) (sym is) h.2)) [ inl was ↦ inl (p, here, was) | inr rose ↦ inr rose ]
      | inr ne ↦ inl (h.0, get_set_other players k i h.0 p' ne h.1, h.2)
    ]

-- ---- a run

none_said : (said : List Answer) (number : ℕ) → length said ≡ 0 → LostAt said number → ⊥
none_said [] number none h = let bad : None ≡ Some h.0 = h.1 in cc
none_said (x ∷ said) number none h = absurd cc

unfinished_lost : (end : Ended (Unit {0})) → IsUnfinished end → EndLost end → ⊥
unfinished_lost ended.Unfinished is lost = lost
unfinished_lost (ended.Gave x) is lost = lost
unfinished_lost (ended.Failed e) is lost = absurd is

follow_first : (calls : ℕ) (s : Stage) (job : FollowPlayer) → s ≡ stage.Unopened → FollowAt calls s (came job) 0 false → (part : Part) → FollowLost job.opened job.answers.items job.closed part → ⊥
follow_first calls stage.Unopened job is at opening lost = unfinished_lost job.opened at.0.opened lost
follow_first calls stage.Unopened job is at (answer number) lost = none_said job.answers.items number at.0.no_answer lost
follow_first calls stage.Unopened job is at ending lost = unfinished_lost job.closed at.0.closed lost
follow_first calls stage.Unopened job is at storing lost = lost
follow_first calls (stage.Opens other) job is at part lost = absurd cc
follow_first calls (stage.Open stream) job is at part lost = absurd cc
follow_first calls (stage.Closes closing) job is at part lost = absurd cc
follow_first calls stage.Ended job is at part lost = absurd cc

unsaid : {A : Type 0} (end : Ended A) → end ≡ ended.Unfinished → (part : Part) → EndingLost end part → ⊥
unsaid end is opening lost = lost
unsaid end is (answer number) lost = lost
unsaid end is ending lost = subst (λ e. EndLost e) is lost
unsaid end is storing lost = lost

-- a job that has done nothing says nothing
first_lost : (t : Task) (p : Player) → IsFirst p → IsAt (calls_of t) p 0 false → (part : Part) → JobLost p part → ⊥
first_lost t (player.Insert job) first at part lost = unsaid (end_of job.stage) (ap end_of first) part lost
first_lost t (player.Follow job) first at part lost = follow_first (calls_of t) job.stage job first.0 at part lost
first_lost t (player.Put job) first at opening lost = lost
first_lost t (player.Put job) first at (answer number) lost = lost
first_lost t (player.Put job) first at ending lost = lost
first_lost t (player.Put job) first at storing lost = subst (λ (s : PutStage). PutLost s) first.0 lost
first_lost t (player.Get job) first at part lost = unsaid (get_end job.stage) (ap get_end first.0) part lost

-- what an outcome says its job says
put_said : (s : PutStage) → EndLost (put_end s) → PutLost s
put_said puts.Undrawn lost = lost
put_said (puts.Begins begun) lost = absurd lost
put_said (puts.Goes going) lost = absurd lost
put_said (puts.Ended end) lost = lost

put_tells : (s : PutStage) (part : Part) → SaysLost (outcomes.Put (put_end s)) part → StoringLost s part
put_tells s opening lost = lost
put_tells s (answer number) lost = lost
put_tells s ending lost = lost
put_tells s storing lost = put_said s lost

said_lost : (p : Player) (r : Outcome) → OutcomeOf p r → (part : Part) → SaysLost r part → JobLost p part
said_lost (player.Insert job) r of part lost = subst (λ (x : Outcome). SaysLost x part) of lost
said_lost (player.Follow job) r of part lost = subst (λ (x : Outcome). SaysLost x part) of lost
said_lost (player.Put job) r of part lost = put_tells job.stage part (subst (λ (x : Outcome). SaysLost x part) of lost)
said_lost (player.Get job) r of part lost = subst (λ (x : Outcome). SaysLost x part) of lost

module _ (a b m n : ℕ) (ts : List Task) (begun players : List Player) (jobs : length begun ≡ length ts) (first : AreFirst begun) (at : AllAt ts [] [] begun) (loses : AllLoseBy a b m n begun players) where
  job_lost : (i : ℕ) (part : Part) → LostIn players i part → RoseFor part a b m n
  job_lost i part lost =
      elim (loses i part lost) [
        | inl was ↦ let t = get_length ts begun jobs i was.0 was.1 in absurd (first_lost t.0 was.0 (first i was.0 was.1) (at i t.0 was.0 t.1 was.1) part was.2)
        | inr rose ↦ rose
      ]

  outcomes_lost : (rs : List Outcome) → length rs ≡ length players → OutcomesOf players rs → AllLostBy a b m n rs
  outcomes_lost rs count of i r part there lost =
      let p = get_length players rs count i r there in
      job_lost i part (p.0, p.1, said_lost p.0 r (of i p.0 r p.1 there) part lost)

  pub lost_so : (result : Result Played Error) → IfOk result (λ p. length p.outcomes.items ≡ length players) → IfOk result (λ p. OutcomesOf players p.outcomes.items) → IfOk result (λ p. AllLostBy a b m n p.outcomes.items)
  lost_so (Ok p) count of = outcomes_lost p.outcomes.items count of
  lost_so (Err e) count of = tt
