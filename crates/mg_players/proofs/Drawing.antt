-- Which ids the inserts and puts of a run draw, turn by turn.
use Rattle.std.proofs.Common.{◌≡◌, ◌+◌, ◌≤◌, ℕ, Bool, true, false, cond, List, [], ◌∷◌, ◌++◌, length, Some, refl, sym, ap, ◌∙◌, subst, inl, inr, ◌⊎◌, Result, Ok, Err, take, arith}
use Rattle.std.specs.Prelude.{IfOk, slice_get, slice_set, nat_eq}
use Rattle.std.proofs.lemmas.Bool.{cases_Bool, cases_eq, eq-eqb, ne_eqb}
use Rattle.std.proofs.lemmas.List.{take_all}
use Rattle.mg_bson.specs.Tree.{Fields}
use Rattle.mg_server.proofs.Owners.{same_some}
use Rattle.mg_link.proofs.Places.{get_within, get_set_other, get_set_same, get_some}
use Rattle.mg_link.specs.declared.error.Error.{Error}
use Rattle.mg_script.specs.Plan as plan
use Rattle.mg_script.specs.Plan.{Task}
use Rattle.mg_ops.specs.Drawn.{AreLater, lacking, with_ids}
use Rattle.mg_ops.proofs.Drawn.{ids_by, ids_from, later_on, later_same}
use Rattle.mg_players.specs.Drawing.{DrawsAs, HadTurn, HaveDrawn, JobHadTurn, JobHasIds, as_sent, before_first, drawn_behind, drawn_in, draws, first_id, has_turn, next_draws, sent_from, supply_from, turn_draws}
use Rattle.mg_players.specs.Headline.{AreFirst, DoTasks, IsFirst, task_of}
use Rattle.mg_players.specs.Playing.{HasIds, inserts_ended}
use Rattle.mg_players.specs.Progress.{IsPlayed}
use Rattle.mg_players.specs.Runs.{has_ended}
use Rattle.mg_players.specs.Drawing.{PutHadTurn, put_draws}
use Rattle.mg_players.specs.Puts.{PutHasIds, PutTask, Supply, chunks_in, puts_ended, writes}
use Rattle.mg_players.specs.declared.put.PutStage.{PutStage}
use Rattle.mg_players.specs.declared.put.PutStage.TheVariants as puts
use Rattle.mg_players.specs.declared.insert.InsertStage.{InsertStage}
use Rattle.mg_players.specs.declared.insert.InsertStage.TheVariants as inserts
use Rattle.mg_players.specs.declared.player.Player.{Player}
use Rattle.mg_script.specs.declared.outcome.Outcome.{Outcome}
use Rattle.mg_script.specs.declared.outcome.Played.{Played}
use Rattle.mg_players.specs.declared.player.Player.TheVariants as player
use Rattle.mg_players.proofs.Apart.{length_set}
use Rattle.mg_players.proofs.Knowing.{one_more, take_next}

-- ids that are the same give the same
pub sent_same : (ids now : ℕ → List ℕ) (ts : List Task) (order : List ℕ) (i : ℕ) (t : Task) → ((k : ℕ) → now k ≡ ids k) → as_sent now ts order i t ≡ as_sent ids ts order i t
sent_same ids now ts order i (plan.insert ns docs) same =
    let n = first_id ts order i in
    ap (λ ds. plan.insert ns ds) (ids_by ids now 0 (λ k. same k ∙ ap ids (omega arith)) n docs ∙ ap (λ k. with_ids ids k docs) (omega arith))
sent_same ids now ts order i (plan.follow on calls start filter batch) same = refl
sent_same ids now ts order i (plan.put db bucket name id chunk pieces) same = refl
sent_same ids now ts order i (plan.get db bucket id read) same = refl

-- ---- turns

pub turn_own : (i : ℕ) (order : List ℕ) → has_turn i (order ++ i ∷ []) ≡ true
turn_own i [] = ap (λ b. cond b true false) (eq-eqb i i refl)
turn_own i (n ∷ order) =
    elim (cases_Bool (nat_eq i n)) [
      | inl is ↦ ap (λ b. cond b true (has_turn i (order ++ i ∷ []))) is
      | inr not ↦ ap (λ b. cond b true (has_turn i (order ++ i ∷ []))) not ∙ turn_own i order
    ]

turn_here : (i n : ℕ) (order : List ℕ) → nat_eq i n ≡ true → has_turn i (n ∷ order) ≡ true
turn_here i n order is = ap (λ b. cond b true (has_turn i order)) is

turn_there : (i n : ℕ) (order : List ℕ) → nat_eq i n ≡ false → has_turn i (n ∷ order) ≡ has_turn i order
turn_there i n order not = ap (λ b. cond b true (has_turn i order)) not

pub turn_other : (i k : ℕ) (order : List ℕ) → (i ≡ k → ⊥) → has_turn i (order ++ k ∷ []) ≡ has_turn i order
turn_other i k [] ne = turn_there i k [] (ne_eqb i k ne)
turn_other i k (n ∷ order) ne = ap (λ b. cond (nat_eq i n) true b) (turn_other i k order ne)

first_here : (i n : ℕ) (order : List ℕ) → nat_eq i n ≡ true → before_first i (n ∷ order) ≡ []
first_here i n order is = ap (λ b. cond b [] (n ∷ before_first i order)) is

first_there : (i n : ℕ) (order : List ℕ) → nat_eq i n ≡ false → before_first i (n ∷ order) ≡ n ∷ before_first i order
first_there i n order not = ap (λ b. cond b [] (n ∷ before_first i order)) not

-- a job that had its first turn
first_had : (i k : ℕ) (order : List ℕ) → has_turn i order ≡ true → before_first i (order ++ k ∷ []) ≡ before_first i order
first_had i k [] had = absurd cc
first_had i k (n ∷ order) had =
    elim (cases_Bool (nat_eq i n)) [
      | inl is ↦ first_here i n (order ++ k ∷ []) is ∙ sym (first_here i n order is)
      | inr not ↦ first_there i n (order ++ k ∷ []) not ∙ ap (λ l. n ∷ l) (first_had i k order (sym (turn_there i n order not) ∙ had)) ∙ sym (first_there i n order not)
    ]

-- one that had none
first_none : (i : ℕ) (order : List ℕ) → has_turn i order ≡ false → before_first i order ≡ order
first_none i [] none = refl
first_none i (n ∷ order) none =
    elim (cases_Bool (nat_eq i n)) [
      | inl is ↦ let bad : true ≡ false = sym (turn_here i n order is) ∙ none in cc
      | inr not ↦ first_there i n order not ∙ ap (λ l. n ∷ l) (first_none i order (sym (turn_there i n order not) ∙ none))
    ]

first_own : (i : ℕ) (order : List ℕ) → before_first i (order ++ i ∷ []) ≡ before_first i order
first_own i [] = first_here i i [] (eq-eqb i i refl)
first_own i (n ∷ order) = ap (λ l. cond (nat_eq i n) [] (n ∷ l)) (first_own i order)

-- so the first id of a job that had a turn, or whose turn it is, stays the same
pub id_had : (ts : List Task) (i k : ℕ) (order : List ℕ) → has_turn i order ≡ true → first_id ts (order ++ k ∷ []) i ≡ first_id ts order i
id_had ts i k order had = ap (drawn_in ts) (first_had i k order had)

pub id_own : (ts : List Task) (i : ℕ) (order : List ℕ) → first_id ts (order ++ i ∷ []) i ≡ first_id ts order i
id_own ts i order = ap (drawn_in ts) (first_own i order)

-- and is the next one before its first turn
pub id_next : (ts : List Task) (i : ℕ) (order : List ℕ) → has_turn i order ≡ false → first_id ts order i ≡ drawn_in ts order
id_next ts i order none = ap (drawn_in ts) (first_none i order none)

-- ---- how many ids were drawn

any_turn : (k n : ℕ) (before : List ℕ) → has_turn k before ≡ true → has_turn k (n ∷ before) ≡ true
any_turn k n before had =
    elim (cases_Bool (nat_eq k n)) [
      | inl is ↦ turn_here k n before is
      | inr not ↦ turn_there k n before not ∙ had
    ]

pub turn_within : (i : ℕ) (before after : List ℕ) → has_turn i (before ++ i ∷ after) ≡ true
turn_within i [] after = turn_here i i after (eq-eqb i i refl)
turn_within i (n ∷ before) after = any_turn i n (before ++ i ∷ after) (turn_within i before after)

either_turn : (k n : ℕ) (before order : List ℕ) → has_turn k (n ∷ order) ≡ true → (has_turn k (n ∷ before) ≡ true) ⊎ (has_turn k order ≡ true)
either_turn k n before order had =
    elim (cases_Bool (nat_eq k n)) [
      | inl is ↦ inl (turn_here k n before is)
      | inr not ↦ inr (sym (turn_there k n order not) ∙ had)
    ]

one_drawn : (ts : List Task) (k : ℕ) (before : List ℕ) (b : Bool) → has_turn k before ≡ b → drawn_behind before ts (k ∷ []) ≡ cond b 0 (draws (slice_get ts k))
one_drawn ts k before b is = ap (λ x. cond x 0 (draws (slice_get ts k)) + 0) is ∙ omega arith

-- a job that had a turn draws nothing
drawn_had : (ts : List Task) (k : ℕ) (before order : List ℕ) → (has_turn k before ≡ true) ⊎ (has_turn k order ≡ true) → drawn_behind before ts (order ++ k ∷ []) ≡ drawn_behind before ts order
drawn_had ts k before [] (inl had) = one_drawn ts k before true had
drawn_had ts k before [] (inr had) = absurd cc
drawn_had ts k before (n ∷ order) (inl had) = ap (λ m. cond (has_turn n before) 0 (draws (slice_get ts n)) + m) (drawn_had ts k (n ∷ before) order (inl (any_turn k n before had)))
drawn_had ts k before (n ∷ order) (inr had) = ap (λ m. cond (has_turn n before) 0 (draws (slice_get ts n)) + m) (drawn_had ts k (n ∷ before) order (either_turn k n before order had))

-- its first turn draws what its task needs
drawn_none : (ts : List Task) (k : ℕ) (before order : List ℕ) → has_turn k before ≡ false → has_turn k order ≡ false → drawn_behind before ts (order ++ k ∷ []) ≡ drawn_behind before ts order + draws (slice_get ts k)
drawn_none ts k before [] none none' = one_drawn ts k before false none ∙ omega arith
drawn_none ts k before (n ∷ order) none none' =
    elim (cases_Bool (nat_eq k n)) [
      | inl is ↦ let bad : true ≡ false = sym (turn_here k n order is) ∙ none' in cc
      | inr not ↦
          let more = drawn_none ts k (n ∷ before) order (turn_there k n before not ∙ none) (sym (turn_there k n order not) ∙ none') in
          ap (λ m. cond (has_turn n before) 0 (draws (slice_get ts n)) + m) more ∙ omega arith
    ]

drawn_turn : (ts : List Task) (k : ℕ) (order : List ℕ) (b : Bool) (n : ℕ) → has_turn k order ≡ b → n ≡ cond b 0 (draws (slice_get ts k)) → drawn_in ts (order ++ k ∷ []) ≡ drawn_in ts order + n
drawn_turn ts k order true n had is = drawn_had ts k [] order (inr had) ∙ omega (arith, is)
drawn_turn ts k order false n none is = drawn_none ts k [] order refl none ∙ ap (λ m. drawn_in ts order + m) (sym is)

-- ---- jobs

insert_draws : (b : Bool) (s : InsertStage) (ds : List Fields) → HadTurn b s → next_draws s ds ≡ cond b 0 (lacking ds)
insert_draws true inserts.Unsent ds had = absurd cc
insert_draws false inserts.Unsent ds had = refl
insert_draws true (inserts.Goes i) ds had = refl
insert_draws false (inserts.Goes i) ds had = absurd cc
insert_draws true (inserts.Ended e) ds had = refl
insert_draws false (inserts.Ended e) ds had = absurd cc

nothing_drawn : (b : Bool) (n : ℕ) → n ≡ 0 → n ≡ cond b 0 0
nothing_drawn true n none = none
nothing_drawn false n none = none

drawn_before : (b : Bool) (stage : PutStage) (t : PutTask) → PutHadTurn b stage → put_draws stage t ≡ cond b 0 (chunks_in t.chunk t.pieces)
drawn_before true puts.Undrawn t had = absurd cc
drawn_before false puts.Undrawn t had = refl
drawn_before true (puts.Begins begun) t had = refl
drawn_before false (puts.Begins begun) t had = absurd cc
drawn_before true (puts.Goes going) t had = refl
drawn_before false (puts.Goes going) t had = absurd cc
drawn_before true (puts.Ended end) t had = refl
drawn_before false (puts.Ended end) t had = absurd cc

put_over : (ids : ℕ → List ℕ) (stage : PutStage) (t : PutTask) → puts_ended stage ≡ true → AreLater ids (put_draws stage t) ids
put_over ids puts.Undrawn t ended = absurd cc
put_over ids (puts.Begins begun) t ended = absurd cc
put_over ids (puts.Goes going) t ended = absurd cc
put_over ids (puts.Ended end) t ended = later_same ids

put_over_has : (stage : PutStage) → puts_ended stage ≡ true → PutHasIds stage
put_over_has puts.Undrawn ended = absurd cc
put_over_has (puts.Begins begun) ended = tt
put_over_has (puts.Goes going) ended = tt
put_over_has (puts.Ended end) ended = tt

put_had : (stage : PutStage) → PutHasIds stage → PutHadTurn true stage
put_had puts.Undrawn has = absurd has
put_had (puts.Begins begun) has = refl
put_had (puts.Goes going) has = refl
put_had (puts.Ended end) has = refl

job_draws : (b : Bool) (p : Player) → JobHadTurn b p → turn_draws p ≡ cond b 0 (draws (Some (task_of p)))
job_draws b (player.Insert job) had = insert_draws b job.stage job.documents.now had
job_draws b (player.Follow job) had = nothing_drawn b 0 refl
job_draws b (player.Put job) had = drawn_before b job.stage (writes job.what) had
job_draws b (player.Get job) had = nothing_drawn b 0 refl

insert_over : (ids : ℕ → List ℕ) (s : InsertStage) (ds : List Fields) → inserts_ended s ≡ true → AreLater ids (next_draws s ds) ids
insert_over ids inserts.Unsent ds ended = absurd cc
insert_over ids (inserts.Goes i) ds ended = absurd cc
insert_over ids (inserts.Ended e) ds ended = later_same ids

over_has : (s : InsertStage) → inserts_ended s ≡ true → HasIds s
over_has inserts.Unsent ended = absurd cc
over_has (inserts.Goes i) ended = absurd cc
over_has (inserts.Ended e) ended = tt

had_ids : (s : InsertStage) → HasIds s → HadTurn true s
had_ids inserts.Unsent has = absurd has
had_ids (inserts.Goes i) has = refl
had_ids (inserts.Ended e) has = refl

job_had : (p : Player) → JobHasIds p → JobHadTurn true p
job_had (player.Insert job) has = had_ids job.stage has
job_had (player.Follow job) has = tt
job_had (player.Put job) has = put_had job.stage has
job_had (player.Get job) has = tt

-- what a job sends that has yet to draw its ids has those that the source gives next
pub draws_as : (supply : Supply) (given : ℕ → List ℕ) (ts : List Task) (order : List ℕ) (j : ℕ) (p : Player) → AreLater supply.ids (drawn_in ts order) given → JobHadTurn (has_turn j order) p → DrawsAs given p (supply_from supply (first_id ts order j)) (sent_from supply.ids (first_id ts order j) (task_of p))
draws_as supply given ts order j (player.Insert job) stands had = λ unsent.
    let none : has_turn j order ≡ false = subst (HadTurn (has_turn j order)) unsent had in
    sym (ids_from supply.ids given (drawn_in ts order) job.documents.now stands ∙ ap (λ n. with_ids supply.ids n job.documents.now) (sym (id_next ts j order none)))
draws_as supply given ts order j (player.Follow job) stands had = tt
draws_as supply given ts order j (player.Put job) stands had = λ undrawn k.
    let none : has_turn j order ≡ false = subst (PutHadTurn (has_turn j order)) undrawn had in
    ap (λ n. supply.ids (n + k)) (id_next ts j order none) ∙ sym (stands k)
draws_as supply given ts order j (player.Get job) stands had = tt

-- a job that has ended draws nothing more
pub ended_draws : (ids : ℕ → List ℕ) (p : Player) → has_ended p ≡ true → AreLater ids (turn_draws p) ids
ended_draws ids (player.Insert job) ended = insert_over ids job.stage job.documents.now ended
ended_draws ids (player.Follow job) ended = later_same ids
ended_draws ids (player.Put job) ended = put_over ids job.stage (writes job.what) ended
ended_draws ids (player.Get job) ended = later_same ids

pub ended_has : (p : Player) → has_ended p ≡ true → JobHasIds p
ended_has (player.Insert job) ended = over_has job.stage ended
ended_has (player.Follow job) ended = tt
ended_has (player.Put job) ended = put_over_has job.stage ended
ended_has (player.Get job) ended = tt

-- ---- a run

-- Behind the turn of one of its jobs a run has drawn what that job needed.
pub drawn_on : (ids now later : ℕ → List ℕ) (ts : List Task) (order : List ℕ) (players : List Player) (k : ℕ) (p p' : Player) → slice_get players k ≡ Some p → DoTasks ts players → AreLater now (turn_draws p) later → JobHasIds p' → HaveDrawn ids now ts order players → HaveDrawn ids later ts (order ++ k ∷ []) (slice_set players k p')
drawn_on ids now later ts order players k p p' there does draws_it has d =
    let within = get_within players k p there in
    let t = get_some ts k (omega (arith, within, d.jobs)) in
    let many : turn_draws p ≡ cond (has_turn k order) 0 (draws (slice_get ts k)) = job_draws (has_turn k order) p (d.each k p there) ∙ ap (λ (u : Task). cond (has_turn k order) 0 (draws (Some u))) (sym (does k t.0 p t.1 there)) ∙ ap (λ o. cond (has_turn k order) 0 (draws o)) (sym t.1) in
    record {
      stands = subst (λ n. AreLater ids n later) (sym (drawn_turn ts k order (has_turn k order) (turn_draws p) refl many)) (later_on ids now later (drawn_in ts order) (turn_draws p) d.stands draws_it);
      jobs = length_set players k p' ∙ d.jobs;
      each = λ i a h. elim (cases_eq i k) [
        | inl e ↦
            let is : p' ≡ a = same_some p' a (sym (get_set_same players k p p' there) ∙ ap (λ n. slice_get (slice_set players k p') n) (sym e) ∙ h) in
            subst (λ (b : Bool). JobHadTurn b a) (sym (ap (λ n. has_turn n (order ++ k ∷ [])) e ∙ turn_own k order)) (job_had a (subst (λ (x : Player). JobHasIds x) is has))
        | inr ne ↦ subst (λ (b : Bool). JobHadTurn b a) (sym (turn_other i k order ne)) (d.each i a (get_set_other players k i a p' ne h))
      ];
    }

first_had_none : (p : Player) → IsFirst p → JobHadTurn false p
first_had_none (player.Insert job) first = subst (HadTurn false) (sym first) refl
first_had_none (player.Follow job) first = tt
first_had_none (player.Put job) first = subst (PutHadTurn false) (sym first.0) refl
first_had_none (player.Get job) first = tt

-- Jobs that have done nothing have drawn nothing.
pub drawn_first : (ids : ℕ → List ℕ) (ts : List Task) (players : List Player) → length players ≡ length ts → AreFirst players → HaveDrawn ids ids ts [] players
drawn_first ids ts players jobs first = record { stands = later_same ids; jobs = jobs; each = λ i p h. first_had_none p (first i p h) }

-- one number of the order more was gone through
pub drawn_next : (ids now : ℕ → List ℕ) (ts : List Task) (order : List ℕ) (k n : ℕ) (players : List Player) → slice_get order k ≡ Some n → HaveDrawn ids now ts (take k order ++ n ∷ []) players → HaveDrawn ids now ts (take (k + 1) order) players
drawn_next ids now ts order k n players there d = subst (λ (ns : List ℕ). HaveDrawn ids now ts ns players) (sym (take_next order k n there) ∙ ap (λ m. take m order) (one_more k)) d

-- all of them were
pub drawn_whole : (ids now : ℕ → List ℕ) (ts : List Task) (order : List ℕ) (k : ℕ) (players : List Player) → length order ≤ k → HaveDrawn ids now ts (take k order) players → HaveDrawn ids now ts order players
drawn_whole ids now ts order k players over d = subst (λ (ns : List ℕ). HaveDrawn ids now ts ns players) (take_all k order over) d

-- the same of a run, unless memory ran out
pub drawn_so : (ids now : ℕ → List ℕ) (ts : List Task) (order : List ℕ) (players : List Player) (result : Result Played Error) → HaveDrawn ids now ts order players → IfOk result (λ p. AreLater ids (drawn_in ts order) now)
drawn_so ids now ts order players (Ok p) d = d.stands
drawn_so ids now ts order players (Err e) d = tt

-- the documents of an insert do not change how far it comes
pub played_as_sent : (ids : ℕ → List ℕ) (ts : List Task) (order : List ℕ) (i : ℕ) (t : Task) (k : ℕ) (last : Bool) (r : Outcome) → IsPlayed t k last r → IsPlayed (as_sent ids ts order i t) k last r
played_as_sent ids ts order i (plan.insert ns docs) k last r played = played
played_as_sent ids ts order i (plan.follow on count start filter batch) k last r played = played
played_as_sent ids ts order i (plan.put db bucket name id chunk pieces) k last r played = played
played_as_sent ids ts order i (plan.get db bucket id read) k last r played = played
