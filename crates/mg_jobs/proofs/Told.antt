-- What the jobs of a run tell of their causes, turn by turn and at its end.
use Rattle.std.proofs.Common.{◌≡◌, ◌⊎◌, ◌+◌, ◌-◌, ◌≤◌, ℕ, suc, ℤ, Bool, true, false, List, [], ◌∷◌, ◌++◌, length, Option, Some, None, Result, Ok, Err, refl, sym, ap, ◌∙◌, subst, inl, inr, take, arith, append_assoc}
use Rattle.std.specs.Prelude.{slice_get, slice_set, IfOk}
use Rattle.std.specs.List.{sum_by}
use Rattle.std.proofs.lemmas.List.{take_all}
use Rattle.std.proofs.lemmas.List.Sums.{sum_by-append}
use Rattle.mg_bson.specs.Tree.{Fields, Tree}
use Rattle.mg_bson.specs.Raw.{fields}
use Rattle.mg_server.specs.Calls.{Keeps, Past, Stays}
use Rattle.mg_link.specs.Link.{Awaited, LogTold}
use Rattle.mg_link.specs.Log.{Call}
use Rattle.mg_link.specs.Namespace.{Space, Target, space, target}
use Rattle.mg_server.specs.Owner.{NamesItsOwn, Owner, Onward, nobody}
use Rattle.mg_server.specs.State.{Start, Watch}
use Rattle.mg_link.specs.declared.error.Error.{Error}
use Rattle.mg_link.proofs.Places.{get_within}
use Rattle.mg_ops.specs.declared.aggregate.ChangeStreamAggregate.{ChangeStreamAggregate}
use Rattle.mg_ops.specs.declared.change_stream.WatchArgs.{WatchArgs}
use Rattle.mg_change.specs.ClientStreams.{ClientStream, stream_ticket, stream_token, token_known}
use Rattle.mg_change.specs.OpeningView.{opening_of}
use Rattle.mg_change.specs.StreamView.{stream_of}
use Rattle.mg_change.specs.declared.stream.ChangeStream.{ChangeStream}
use Rattle.mg_change.proofs.Awaiting.{call_awaits, last_awaits}
use Rattle.mg_change.proofs.Keeping.{sound_any}
use Rattle.mg_players.proofs.Later.{opening_awaits_plainly}
use Rattle.mg_ops.specs.InsertCauses.{InsertWaits}
use Rattle.mg_ops.proofs.InsertCauses.{insert_waits}
use Rattle.mg_players.specs.Causes.{AllCaused, AllSentIn, ClosedBy, CloseCaused, Course, FallsAt, FollowCaused, KillsLast, OpenStands, OpenCaused, OpenWaits, OutcomeCaused, SentIn, SentNoneBehind, at_rest, commands_at, course, in_call, in_closing, places_from, places_in, sent_at, sent_since}
use Rattle.mg_turns.specs.Counts.{HoldsNewest, NewestAt, StartedBy}
use Rattle.mg_ops.specs.Drawn.{AreLater, with_ids}
use Rattle.mg_players.specs.Drawing.{DrawsAt, HaveDrawn, JobHadTurn, as_sent, drawn_in, first_id, has_turn, sent_from, supply_from, supply_of}
use Rattle.mg_players.specs.Follows.{Followed, FollowedFrom, HasGiven, IsArgsFor, IsUnfinished, events_of, filter_in, token_at}
use Rattle.mg_players.proofs.GetCausing.{get_caused}
use Rattle.mg_players.specs.Gets.{sought}
use Rattle.mg_players.specs.Headline.{AllFiled, AllFollowed, AllKnow, AreFirst, DoTasks, FollowedOr, IsFirst, IsSameTask, Knowing, OutcomeFiled, OutcomeFollowed, OutcomeOf, OutcomesOf, Plays, Took, task_of}
use Rattle.mg_script.specs.Plan.{Begin, Task, begin, pieces}
use Rattle.mg_players.specs.Playing.{end_of, job_ticket}
use Rattle.mg_players.specs.Progress.{AllAt, FollowAt, HoldsIf, InsertAt, IsAt, IsOpen, calls_of, came, pends_last, turns_done}
use Rattle.mg_players.specs.Runs.{MayAllGo, Goes, has_ended}
use Rattle.mg_players.specs.Owned.{AllNameOwn}
use Rattle.mg_players.specs.Sends.{AllSendOnly, MaySend, SendsOnly}
use Rattle.mg_players.specs.Plays.{Extends, IsNow, Moves, MovesTo, Places}
use Rattle.mg_players.specs.Telling.{AllSent, AllTell, FollowTold, InsertTells, IsOpened, JobTells, JobTold, TellsEnd, TurnTells, kept, number_of, landing_places}
use Rattle.mg_script.specs.declared.outcome.Ended.{Ended}
use Rattle.mg_script.specs.declared.outcome.Ended.TheVariants as ended
use Rattle.mg_script.specs.declared.outcome.Outcome.{Outcome}
use Rattle.mg_script.specs.declared.outcome.Outcome.TheVariants as outcome
use Rattle.mg_script.specs.declared.outcome.Played.{Played}
use Rattle.mg_turns.specs.declared.turned.Turned.{Turned}
use Rattle.mg_players.specs.declared.follow.FollowPlayer.{FollowPlayer}
use Rattle.mg_players.specs.declared.insert.InsertStage.{InsertStage}
use Rattle.mg_players.specs.declared.insert.InsertStage.TheVariants as inserts
use Rattle.mg_players.specs.declared.follow.Stage.{Stage}
use Rattle.mg_players.specs.declared.follow.Stage.TheVariants as stage
use Rattle.mg_players.specs.declared.player.Player.{Player}
use Rattle.mg_players.specs.declared.player.Player.TheVariants as player
use Rattle.mg_players.proofs.Apart.{stays, which}
use Rattle.mg_players.proofs.Knowing.{get_length, know_first, knowing_turn, one_more, owners_first, place_here, place_other, take_next}
use Rattle.mg_change.proofs.Calling.{opens_any, sent_any}
use Rattle.mg_players.proofs.Commands.{falls_below}
use Rattle.mg_players.proofs.Drawing.{draws_as, id_had, id_own, turn_other}
use Rattle.mg_jobs.proofs.Identified.{calls_identified, honest_over, opened_well}
use Rattle.mg_players.proofs.InsertTelling.{ends_of, ends_sent}
use Rattle.mg_gridfs.proofs.Fronts.{nobody_onward}
use Rattle.mg_players.specs.Puts.{IsMoment, Supply, writes}
use Rattle.mg_jobs.proofs.OwnCursors.{own_first, own_turn}
use Rattle.mg_jobs.proofs.PutTold.{put_outcome}
use Rattle.mg_jobs.proofs.Filed.{get_filed}
use Rattle.mg_jobs.proofs.PutFiled.{put_filed}
use Rattle.mg_players.proofs.JobTelling.{first_tells, job_later, job_of_others, number_at}
use Rattle.mg_players.proofs.Newest.{newest_other, newest_own, none_sent, started_in}
use Rattle.mg_turns.proofs.OwnTickets.{none_if}
use Rattle.mg_players.proofs.Sends.{sends_first, sends_other, sends_turn, sent_had}
use Rattle.mg_players.proofs.Turning.{failed_not_unfinished, follow_followed, unfinished_not_given}
use Rattle.mg_players.proofs.Whole.{only_now, only_opened, places_other, places_own}
use Rattle.mg_players.proofs.Vainly.{nothing_at, outcome_vain}
use Rattle.mg_server.proofs.Watched.{IsWatched}

-- ---- one turn more

module _ (begun : ℕ) (order : List ℕ) (notes : List Turned) (j : ℕ) (note : Turned) where
  abbrev now : Course
  now = record { begun = begun; order = order; notes = notes }

  abbrev then : Course
  then = record { begun = begun; order = order ++ j ∷ []; notes = notes ++ note ∷ [] }

  sent_later : (i k place : ℕ) → SentIn now i k place → SentIn then i k place
  sent_later i k place s =
      record {
        before = s.before;
        after = s.after ++ j ∷ [];
        order_is = ap (λ l. l ++ j ∷ []) s.order_is ∙ append_assoc s.before (i ∷ s.after) (j ∷ []);
        noted = s.noted;
        note = s.note;
        later = s.later ++ note ∷ [];
        notes_are = ap (λ l. l ++ note ∷ []) s.notes_are ∙ append_assoc s.noted (s.note ∷ s.later) (note ∷ []);
        abreast = s.abreast;
        done = s.done;
        from = s.from;
        upto = s.upto;
      }

  all_later : (i : ℕ) (q : Places) (n : ℕ) → (i ≡ j → ⊥) → length order ≡ length notes → AllSent now i q n → AllSent then i q n
  all_later i q n ne abreast all =
      record {
        opened = λ place of. sent_later i 0 place (all.opened place of);
        owns = λ k own there place of. sent_later i (suc k) place (all.owns k own there place of);
        now = λ place of. sent_later i n place (all.now place of);
        whole = all.whole ∙ sym (places_other i j ne order notes note begun abreast);
      }

  -- another job's turn
  job_other : (supply : Supply) (ts : List Task) (old new : Awaited) (calls calls' : List Call) (wire : ℤ) (i : ℕ) (p : Player) (at : Option ℕ) → (i ≡ j → ⊥) → length order ≡ length notes → length calls ≡ begun + sum_by (λ (t : Turned). t.started) notes → Keeps calls calls' → Onward calls calls' nobody → ((m : ℕ) → job_ticket p ≡ Some m → new m ≡ old m) → JobHadTurn (has_turn i order) p
      → JobTold supply (first_id ts order i) old calls wire now i p at → JobTold supply (first_id ts (order ++ j ∷ []) i) new calls' wire then i p at
  job_other supply ts old new calls calls' wire i p at ne abreast count keeps onward same had t =
      let n : ℕ = first_id ts order i in
      let n' : ℕ = first_id ts (order ++ j ∷ []) i in
      let on = sends_other (MaySend (supply_from supply n) (sent_from supply.ids n (task_of p))) begun order notes j note abreast calls calls' count i ne keeps t.sends in
      record {
        places = t.places;
        tells = job_of_others supply n n' new calls' wire t.places p at (has_turn i order) had (λ turn. id_had ts i j order turn) (job_later (supply_from supply n) (sent_from supply.ids n (task_of p)) old new calls calls' wire t.places p at keeps onward same t.tells);
        sent = all_later i t.places (number_of p) ne abreast t.sent;
        sends = record {
          each = λ k place call sent there.
              let turn : has_turn i order ≡ true = sym (turn_other i j order ne) ∙ sent_had then i k place sent in
              subst (λ (m : ℕ). MaySend (supply_from supply m) (sent_from supply.ids m (task_of p)) (fields call.command)) (sym (id_had ts i j order turn)) (on.each k place call sent there);
        };
      }

  -- its own turn
  module _ (abreast : length notes ≡ length order) (from upto n : ℕ) (from_is : from ≡ begun + sum_by (λ (t : Turned). t.started) notes) (upto_is : upto ≡ from + note.started) (counts : (n ≡ turns_done j order notes) ⊎ (note.started ≡ 0)) where
    sent_now : (q : Places) (place : ℕ) → AllSentIn now j n q.now → IsNow q from upto place → SentIn then j n place
    sent_now q place all (inl of) = sent_later j n place (all place of)
    sent_now q place all (inr range) =
        let low = range.0 in
        let high = range.1 in
        elim counts [
          | inl is ↦ record {
            before = order;
            after = [];
            order_is = refl;
            noted = notes;
            note = note;
            later = [];
            notes_are = refl;
            abreast = abreast;
            done = sym is;
            from = omega (arith, low, from_is);
            upto = omega (arith, high, from_is, upto_is);
          }
          | inr none ↦ absurd (omega (arith, low, high, upto_is, none))
        ]

    -- the places of the turn stand behind all those before it
    since_turn : sent_since (places_in j order notes begun) from upto ≡ places_in j order notes begun ++ places_from (begun + started_in notes) note.started
    since_turn =
        let before : List ℕ = places_in j order notes begun in
        let count : upto - from ≡ note.started = omega (arith, upto_is) in
        ap (λ (k : ℕ). before ++ places_from from k) count ∙ ap (λ (k : ℕ). before ++ places_from k note.started) from_is

    all_now : (q q' : Places) (n' : ℕ) → AllSent now j q n → Extends q q' n n' from upto → AllSent then j q' n'
    all_now q q' n' all extends =
        record {
          opened = λ place of. elim (extends.opened place of) [
            | inl before ↦ sent_later j 0 place (all.opened place before)
            | inr opens ↦ subst (λ (m : ℕ). SentIn then j m place) opens.0 (sent_now q place all.now opens.1)
          ];
          owns = λ k own there place of. elim (extends.owns k own there) [
            | inl before ↦ sent_later j (suc k) place (all.owns k own before place of)
            | inr ends ↦ subst (λ (m : ℕ). SentIn then j m place) (sym ends.0) (sent_now q place all.now (ends.1 place of))
          ];
          now = λ place of. let goes = extends.now place of in subst (λ (m : ℕ). SentIn then j m place) (sym goes.0) (sent_now q place all.now goes.1);
          whole = extends.whole ∙ ap (λ (l : List ℕ). sent_since l from upto) all.whole ∙ since_turn ∙ sym (places_own j order notes note begun (sym abreast));
        }

  counts_at : (n : ℕ) (over : Bool) → (n ≡ turns_done j order notes) ⊎ (over ≡ true) → (over ≡ true → note.started ≡ 0) → (n ≡ turns_done j order notes) ⊎ (note.started ≡ 0)
  counts_at n over (inl is) quiet = inl is
  counts_at n over (inr ends) quiet = inr (quiet ends)

  job_turn : (supply : Supply) (given : ℕ → List ℕ) (moment : ℤ) (its : IsMoment supply.moment moment) (ts : List Task) (old new : Awaited) (log log' : LogTold) (calls calls' : List Call) (wire : ℤ) (p p' : Player) (next : Moves) (at at' : Option ℕ) (m : ℕ) (last : Bool) → log ≡ Some calls → log' ≡ Some calls' → length notes ≡ length order → length calls ≡ begun + sum_by (λ (t : Turned). t.started) notes → length calls' ≡ length calls + note.started
      → IsAt m p (turns_done j order notes) last → (has_ended p ≡ true → note.started ≡ 0) → AreLater supply.ids (drawn_in ts order) given → JobHadTurn (has_turn j order) p → IsSameTask p p' → TurnTells (DrawsAt given moment p) old new log log' wire p p' next → MovesTo next calls calls' at at' → (o : Owner) → Plays old calls p o at → JobTold supply (first_id ts order j) old calls wire now j p at → JobTold supply (first_id ts (order ++ j ∷ []) j) new calls' wire then j p' at'
  job_turn supply given moment its ts old new log log' calls calls' wire p p' next at at' m last is is' abreast count more is_at quiet stands had task tells placed o plays t =
      let n : ℕ = first_id ts order j in
      let r = tells calls calls' is is' supply n (draws_as supply given ts order j p stands had, its) t.places at at' placed o plays t.tells in
      let counts = counts_at (number_of p) (has_ended p) (number_at m p (turns_done j order notes) last is_at) quiet in
      let sends : SendsOnly (MaySend (supply_from supply n) (sent_from supply.ids n (task_of p))) then j calls' = sends_turn (MaySend (supply_from supply n) (sent_from supply.ids n (task_of p))) begun order notes j note (sym abreast) calls calls' count r.adds t.sends in
      subst (λ (k : ℕ). JobTold supply k new calls' wire then j p' at') (sym (id_own ts j order))
      (record {
        places = r.places;
        tells = subst (λ (u : Task). JobTells new calls' wire r.places (supply_from supply n) (sent_from supply.ids n u) p' at') (sym task) r.tells;
        sent = all_now abreast (length calls) (length calls') (number_of p) count more counts t.places r.places (number_of p') t.sent r.extends;
        sends = subst (λ (u : Task). SendsOnly (MaySend (supply_from supply n) (sent_from supply.ids n u)) then j calls') (sym task) sends;
      })

-- A run tells on behind the turn of one of its jobs.
module _ (given : ℕ → List ℕ) (moment : ℤ) (old new : Awaited) (log log' : LogTold) (wire : ℤ) (players : List Player) (k : ℕ) (p p' : Player) (at : slice_get players k ≡ Some p) (apart : MayAllGo old wire players) (goes : Goes (DrawsAt given moment p) old new log log' wire p p') (note : Turned) (started : StartedBy note.started log log') (keeps : Stays log log') (quiet : has_ended p ≡ true → note.started ≡ 0) (holds : HoldsNewest (job_ticket p) (job_ticket p') old new log log') where
  pub all_turn : (supply : Supply) → IsMoment supply.moment moment → (begun : LogTold) (ts : List Task) (order : List ℕ) (notes : List Turned) → length order ≡ length notes → AllAt ts order notes players → HaveDrawn supply.ids given ts order players → AllTell supply old begun log wire ts order notes players → AllTell supply new begun log' wire ts (order ++ k ∷ []) (notes ++ note ∷ []) (slice_set players k p')
  all_turn supply its begun ts order notes abreast all drawn tell calls told =
      let before = tell calls told in
      let s = started before.0 before.1 in
      let on = keeps before.0 before.1 in
      let same : on.0 ≡ s.0 = (let e : Some on.0 ≡ Some s.0 = sym on.1 ∙ s.1 in cc) in
      let kept_calls : Keeps before.0 s.0 = subst (λ (c : List Call). Keeps before.0 c) same on.2 in
      let count = before.3.count in
      let more = s.2 in
      let here_knows = before.2.each k p at in
      let took = goes.turned before.0 before.1 here_knows.owner (before.2.places k) here_knows.plays in
      let sames : took.0 ≡ s.0 = (let e : Some took.0 ≡ Some s.0 = sym took.1 ∙ s.1 in cc) in
      let onward : Onward before.0 s.0 nobody = subst (λ (c : List Call). Onward before.0 c nobody) sames (nobody_onward before.0 took.0 here_knows.owner took.2.owner took.2.passes) in
      let on_log : Took new before.0 s.0 p' here_knows.owner goes.next (before.2.places k) = subst (λ (c : List Call). Took new before.0 c p' here_knows.owner goes.next (before.2.places k)) sames took.2 in
      let known : AllKnow new s.0 (slice_set players k p') = knowing_turn old new log log' wire players k p p' at apart goes before.0 s.0 before.2 here_knows on_log in (
        s.0,
        s.1,
        known,
        record {
          count = (let sum = sum_by-append (λ (t : Turned). t.started) notes (note ∷ []) in let one : sum_by (λ (t : Turned). t.started) (note ∷ []) ≡ 0 + note.started = refl in omega (arith, count, more, sum, one));
          each = λ i t a ht ha. elim (which old new log log' wire players k p p' at apart goes i a ha) [
            | inl mine ↦
                let here : slice_get ts k ≡ Some t = ap (slice_get ts) (sym mine.0) ∙ ht in
                subst (λ (x : Option ℕ). JobTold supply (first_id ts (order ++ k ∷ []) i) new s.0 wire (course calls (order ++ k ∷ []) (notes ++ note ∷ [])) i a x) (sym (place_here old new log log' wire players k p p' at apart goes on_log.place before.2.places i mine.0))
                (subst (λ (x : Player). JobTold supply (first_id ts (order ++ k ∷ []) i) new s.0 wire (course calls (order ++ k ∷ []) (notes ++ note ∷ [])) i x on_log.place) mine.1
                (subst (λ (m : ℕ). JobTold supply (first_id ts (order ++ k ∷ []) m) new s.0 wire (course calls (order ++ k ∷ []) (notes ++ note ∷ [])) m p' on_log.place) (sym mine.0)
                (job_turn (length calls) order notes k note supply given moment its ts old new log log' before.0 s.0 wire p p' goes.next (before.2.places k) on_log.place (calls_of t) _ before.1 s.1 (sym abreast) count more (all k t p here at) quiet drawn.stands (drawn.each k p at) goes.task goes.told on_log.placed here_knows.owner here_knows.plays (before.3.each k t p here at))))
            | inr other ↦
                subst (λ (x : Option ℕ). JobTold supply (first_id ts (order ++ k ∷ []) i) new s.0 wire (course calls (order ++ k ∷ []) (notes ++ note ∷ [])) i a x) (sym (place_other old new log log' wire players k p p' at apart goes on_log.place before.2.places i other.0))
                (job_other (length calls) order notes k note supply ts old new before.0 s.0 wire i a (before.2.places i) other.0 abreast count kept_calls onward (stays old new log log' wire players k p p' at apart goes i a other.0 other.1) (drawn.each i a other.1) (before.3.each i t a ht other.1))
          ];
          newest = λ i a m place ha e there. elim (which old new log log' wire players k p p' at apart goes i a ha) [
            | inl mine ↦
                let on = holds m place (ap (λ (x : Player). job_ticket x) mine.1 ∙ e) there before.0 before.1 in
                let its : on.0 ≡ s.0 = (let e' : Some on.0 ≡ Some s.0 = sym on.1 ∙ s.1 in cc) in
                subst (λ (x : ℕ). SentNoneBehind (course calls (order ++ k ∷ []) (notes ++ note ∷ [])) x place) (sym mine.0)
                (newest_own (length calls) order notes k note abreast (job_ticket p) old before.0 s.0 place count more (λ n was out. before.3.newest k p n place at was out) (subst (λ (c : List Call). NewestAt (job_ticket p) old before.0 c place) its on.2))
            | inr other ↦
                newest_other (length calls) order notes k note abreast i place other.0 (before.3.newest i a m place other.1 e (sym (stays old new log log' wire players k p p' at apart goes i a other.0 other.1 m e) ∙ there))
          ];
        },
        own_turn before.0 s.0 (length calls) order notes k note abreast count more before.2.owners here_knows.owner on_log.owner here_knows.there on_log.passes before.2.apart before.4,
      )

-- the same run over the same wire version, by another name
pub tell_as : (supply : Supply) (awaited : Awaited) (begun log : LogTold) (wire wire' : ℤ) (ts : List Task) (order : List ℕ) (notes : List Turned) (players : List Player) → wire' ≡ wire → AllTell supply awaited begun log wire ts order notes players → AllTell supply awaited begun log wire' ts order notes players
tell_as supply awaited begun log wire wire' ts order notes players same tell = subst (λ (w : ℤ). AllTell supply awaited begun log w ts order notes players) (sym same) tell

-- one number of the order more was gone through
pub tell_next : (supply : Supply) (awaited : Awaited) (begun log : LogTold) (wire : ℤ) (ts : List Task) (order : List ℕ) (k n : ℕ) (notes : List Turned) (players : List Player) → slice_get order k ≡ Some n → AllTell supply awaited begun log wire ts (take k order ++ n ∷ []) notes players → AllTell supply awaited begun log wire ts (take (k + 1) order) notes players
tell_next supply awaited begun log wire ts order k n notes players there tell = subst (λ (ns : List ℕ). AllTell supply awaited begun log wire ts ns notes players) (sym (take_next order k n there) ∙ ap (λ m. take m order) (one_more k)) tell

-- all of them were
pub tell_whole : (supply : Supply) (awaited : Awaited) (begun log : LogTold) (wire : ℤ) (ts : List Task) (order : List ℕ) (k : ℕ) (notes : List Turned) (players : List Player) → length order ≤ k → AllTell supply awaited begun log wire ts (take k order) notes players → AllTell supply awaited begun log wire ts order notes players
tell_whole supply awaited begun log wire ts order k notes players over tell = subst (λ (ns : List ℕ). AllTell supply awaited begun log wire ts ns notes players) (take_all k order over) tell

-- ---- at first

first_told : (supply : Supply) (first : ℕ) (awaited : Awaited) (calls : List Call) (wire : ℤ) (begun : ℕ) (i : ℕ) (p : Player) → IsFirst p → JobTold supply first awaited calls wire (record { begun = begun; order = []; notes = [] }) i p None
first_told supply first awaited calls wire begun i p is = record {
  places = record { opened = []; owns = []; now = [] };
  tells = first_tells (supply_from supply first) (sent_from supply.ids first (task_of p)) awaited calls wire p is;
  sent = record { opened = λ place of. absurd of; owns = λ m own there. absurd cc; now = λ place of. absurd of; whole = refl };
  sends = sends_first (MaySend (supply_from supply first) (sent_from supply.ids first (task_of p))) begun i calls;
}

-- Jobs that have done nothing tell what they should, whatever was called before.
pub tell_first : (supply : Supply) (awaited : Awaited) (log : LogTold) (wire : ℤ) (ts : List Task) (players : List Player) → AreFirst players → AllTell supply awaited log log wire ts [] [] players
tell_first supply awaited log wire ts players first calls told = (calls, told, know_first awaited calls players first, record { count = omega arith; each = λ i t p ht hp. first_told supply (first_id ts [] i) awaited calls wire (length calls) i p (first i p hp); newest = λ i p n place hp e at k later s. absurd (none_sent (length calls) i k later s) }, own_first calls (length calls) (know_first awaited calls players first).owners (owners_first players))

-- ---- at the end

not_both : {b : Bool} → b ≡ false → b ≡ true → ⊥
not_both first second = let bad : false ≡ true = sym first ∙ second in cc

module _ (awaited : Awaited) (c : Course) (i : ℕ) (calls : List Call) (wire : ℤ) (job : FollowPlayer) (at : Option ℕ) (owner : Owner) (plays : Plays awaited calls (player.Follow job) owner at) (t : FollowTold awaited calls wire c i job.stage (kept job) at) where
  abbrev its_target : Target
  its_target = target job.watched.target.now

  abbrev its_start : Begin
  its_start = begin job.watched.start.now

  abbrev IsIts : WatchArgs → Type 0
  IsIts args = IsArgsFor its_target its_start (filter_in job.watched) job.watched.batch_size args

  abbrev answered : List Fields
  answered = events_of job.answers.items

  abbrev token : Option Tree
  token = token_at job.stage job.token

  abbrev pended_last : Bool
  pended_last = pends_last i c.order c.notes

  abbrev Caused : ℕ → Ended (Unit {0}) → Type 0
  Caused count o = FollowCaused awaited c i count calls wire its_target its_start (filter_in job.watched) job.watched.batch_size o job.answers.items token job.alive job.closed

  -- it followed from the call on that opened its stream
  followed_by : (o : Owner) (place : ℕ) → HasGiven job.opened → at ≡ Some place → Plays awaited calls (player.Follow job) o at → FollowedFrom calls its_target its_start (filter_in job.watched) job.answers.items token place
  followed_by o place given is (inl knows) = inl (knows.watch, knows.start, knows.watches, follow_followed awaited calls job.stage job o at place given is knows)
  followed_by o place given is (inr vain) = inr (vain.1.unwatched, vain.1.never given)

  unfinished_caused : (count : ℕ) (o : Ended (Unit {0})) → IsUnfinished o → (pended_last ≡ true → OpenWaits awaited c i calls wire its_target its_start (filter_in job.watched) job.watched.batch_size) → Caused count o
  unfinished_caused count ended.Unfinished is waits = waits
  unfinished_caused count (ended.Gave x) is waits = absurd is
  unfinished_caused count (ended.Failed e) is waits = absurd is

  given_caused : (count : ℕ) (o : Ended (Unit {0})) → HasGiven o → OpenCaused awaited c i count calls wire its_target its_start (filter_in job.watched) job.watched.batch_size job.answers.items token job.alive job.closed → Caused count o
  given_caused count ended.Unfinished given open_so = absurd given
  given_caused count (ended.Gave x) given open_so = open_so
  given_caused count (ended.Failed e) given open_so = absurd given

  still_open : (count : ℕ) (last : ClientStream) (newest : List ℕ) (o : Ended (Unit {0})) → IsUnfinished o → OpenStands awaited c i count (length job.answers.items) calls wire last newest → CloseCaused awaited c i count (length job.answers.items) calls wire last newest o
  still_open count last newest ended.Unfinished is so = so
  still_open count last newest (ended.Gave x) is so = absurd is
  still_open count last newest (ended.Failed e) is so = absurd is

  was_closed : (count : ℕ) (places : List ℕ) (last : ClientStream) (o : Ended (Unit {0})) → AllSentIn c i (length job.answers.items) places → ClosedBy (sent_at places calls wire) last o → FallsAt (KillsLast last) calls 1 places 0 → CloseCaused awaited c i count (length job.answers.items) calls wire last places o
  was_closed count places last ended.Unfinished sent by kills = absurd by
  was_closed count places last (ended.Gave x) sent by kills = record { sent = sent; by = by; kills = kills }
  was_closed count places last (ended.Failed e) sent by kills = record { sent = sent; by = by; kills = kills }

  -- what an open follow tells
  open_caused : (count : ℕ) (q : Places) (n : ℕ) (last : ClientStream) → AllSent c i q n → (t : IsOpened calls wire q (kept job) last at) → token ≡ stream_token last → CloseCaused awaited c i count (length job.answers.items) calls wire last q.now job.closed → Caused count job.opened
  open_caused count q n last sent t token_is closed =
      given_caused count job.opened t.given (record {
        args = t.args;
        args_are = t.args_are;
        last = last;
        answers = record { first = t.first; places = q.opened; sent = sent.opened; opened = t.opened; opens = t.opens; owns = q.owns; sent_each = sent.owns; answered = t.answered };
        token_is = token_is;
        alive_is = t.alive_is;
        now = q.now;
        close = closed;
        whole = sent.whole;
        followed = followed_by owner t.opened.heard.place t.given t.here plays;
        identified = λ history legal stands.
            calls_identified history calls wire legal stands IsIts t.first q.owns job.answers.items last t.answered
            (opened_well (IsWatched history) IsIts (sent_at q.opened calls wire) (honest_over history calls legal stands q.opened wire) t.args t.args_are t.first t.opened);
      })

  end_caused : (count : ℕ) (q : Places) (o : Ended (Unit {0})) → o ≡ job.opened → token ≡ job.token → AllSent c i q (length job.answers.items) → (IsUnfinished o → ⊥) → TellsEnd calls wire q (kept job) at o → Caused count o
  end_caused count q ended.Unfinished is same sent over t = absurd (over tt)
  end_caused count q (ended.Gave x) is same sent over t = subst (λ (o : Ended (Unit {0})). Caused count o) (sym is) (open_caused count q (length job.answers.items) t.0 sent t.1 (same ∙ t.2) (was_closed count q.now t.0 job.closed sent.now t.3 t.4))
  end_caused count q (ended.Failed e) is same sent over (inl none) = inl (none.0, sym sent.whole ∙ none.1)
  end_caused count q (ended.Failed e) is same sent over (inr t) =
      inr (record { args = t.0.args; args_are = t.0.args_are; places = q.opened; sent = sent.opened; whole = sym (only_opened q t.1 t.2) ∙ sent.whole; fails = t.0.fails; opens = t.0.opens })

  -- how a follow goes on whose stream is open
  rests_or_waits : (count : ℕ) (b : Bool) → pended_last ≡ b → (stream : ChangeStream Fields) (told : FollowTold awaited calls wire c i (stage.Open stream) (kept job) at) → IsOpen count (came job) (turns_done i c.order c.notes) → HoldsIf b (stream_ticket (stream_of stream)) → OpenStands awaited c i count (length job.answers.items) calls wire told.tells.0 told.places.now
  rests_or_waits count false is stream told so holds = at_rest is (omega (arith, so.rest, so.more)) (told.tells.4.rests (none_if (stream_ticket (stream_of stream)) false (sym holds) refl))
  rests_or_waits count true is stream told so holds =
      in_call is (omega (arith, so.rest, so.more)) told.sent.now (call_awaits awaited (sent_at told.places.now calls wire) true told.tells.0 (stream_of stream) (sound_any true (stream_of stream) told.tells.3) told.tells.2 holds) (sent_any awaited calls wire told.tells.0 told.places.now (stream_of stream).cursor (stream_of stream).doing told.tells.4.sent)

  over_not_unfinished : (count : ℕ) → FollowAt count stage.Ended (came job) (turns_done i c.order c.notes) pended_last → IsUnfinished job.opened → ⊥
  over_not_unfinished count (inl never, newest) is = failed_not_unfinished job.opened never.opened is
  over_not_unfinished count (inr closed, newest) is = unfinished_not_given job.opened is closed.opened

  stage_caused : (s : Stage) (count : ℕ) → s ≡ job.stage → FollowAt count s (came job) (turns_done i c.order c.notes) pended_last → FollowTold awaited calls wire c i s (kept job) at → Caused count job.opened
  stage_caused stage.Unopened count is at_stage told = unfinished_caused count job.opened at_stage.0.opened (λ pended. absurd (not_both at_stage.1 pended))
  stage_caused (stage.Opens opening) count is at_stage told =
      unfinished_caused count job.opened at_stage.0.opened
      (λ pended. record {
        args = (opening_of opening).args;
        args_are = told.tells.1;
        places = told.places.now;
        sent = told.sent.now;
        whole = sym (only_now told.places told.tells.0.2 told.tells.0.0) ∙ told.sent.whole;
        opens = opens_any awaited calls wire (opening_of opening).args (opening_of opening).sending told.places.now told.tells.4;
        waits = opening_awaits_plainly awaited (sent_at told.places.now calls wire) (opening_of opening).args (opening_of opening).sending told.tells.2.sound told.tells.3 (at_stage.1 ∙ pended);
      })
  stage_caused (stage.Open stream) count is at_stage told =
      open_caused count told.places (suc (length job.answers.items)) told.tells.0 told.sent told.tells.1 (ap (λ (s : Stage). token_at s job.token) (sym is) ∙ ap (λ (a : ChangeStreamAggregate). token_known a.resume) told.tells.2.same)
      (still_open count told.tells.0 told.places.now job.closed at_stage.0.closed (rests_or_waits count pended_last refl stream told at_stage.0 at_stage.1))
  stage_caused (stage.Closes closing) count is at_stage told =
      open_caused count told.places (length job.answers.items) told.tells.0 told.sent told.tells.1 (ap (λ (s : Stage). token_at s job.token) (sym is) ∙ told.tells.2)
      (still_open count told.tells.0 told.places.now job.closed at_stage.0.closed
      (in_closing at_stage.1 at_stage.0.answered told.sent.now (last_awaits awaited (sent_at told.places.now calls wire) told.tells.0 closing told.tells.3 at_stage.2)
      (falls_below (KillsLast told.tells.0) calls 1 told.places.now (landing_places closing.doing) 0 (omega arith) told.tells.4)))
  stage_caused stage.Ended count is at_stage told = end_caused count told.places job.opened refl (ap (λ (s : Stage). token_at s job.token) (sym is)) told.sent (over_not_unfinished count at_stage) told.tells

  -- the call that opened its stream is one of its own, sent in a turn before which none had ended
  abbrev IsPlaced : Type 0
  IsPlaced = (place : ℕ) × SentIn c i 0 place × (at ≡ Some place)

  opened_place : (q : Places) (n : ℕ) (last : ClientStream) → AllSent c i q n → IsOpened calls wire q (kept job) last at → IsPlaced
  opened_place q n last sent t =
      let h = t.opened.heard in
      let own : SentIn c i 0 h.place = elim h.heard.own [
        | inl is ↦ sent.opened h.place is
        | inr late ↦ let within = get_within calls h.place h.heard.call h.heard.there in absurd (omega arith)
      ] in
      (h.place, own, t.here)

  end_place : (q : Places) (n : ℕ) (o : Ended (Unit {0})) → HasGiven o → AllSent c i q n → TellsEnd calls wire q (kept job) at o → IsPlaced
  end_place q n ended.Unfinished given sent t = absurd given
  end_place q n (ended.Gave x) given sent t = opened_place q n t.0 sent t.1
  end_place q n (ended.Failed e) given sent t = absurd given

  stage_place : (s : Stage) (n done : ℕ) (last : Bool) → HasGiven job.opened → FollowAt n s (came job) done last → FollowTold awaited calls wire c i s (kept job) at → IsPlaced
  stage_place stage.Unopened n done last given at_stage told = absurd (unfinished_not_given job.opened at_stage.0.opened given)
  stage_place (stage.Opens opening) n done last given at_stage told = absurd (unfinished_not_given job.opened at_stage.0.opened given)
  stage_place (stage.Open stream) n done last given at_stage told = opened_place told.places (suc (length job.answers.items)) told.tells.0 told.sent told.tells.1
  stage_place (stage.Closes closing) n done last given at_stage told = opened_place told.places (length job.answers.items) told.tells.0 told.sent told.tells.1
  stage_place stage.Ended n done last given at_stage told = end_place told.places (length job.answers.items) job.opened given told.sent told.tells

  followed_or : (o : Ended (Unit {0})) (w : Watch) (from : Start) → (HasGiven o → (place : ℕ) × SentIn c i 0 place × Followed calls w from answered token place) → ((HasGiven o → ⊥) → (answered ≡ []) × (token ≡ None)) → FollowedOr o c i calls w from answered token
  followed_or ended.Unfinished w from followed none = none (λ given. given)
  followed_or (ended.Gave x) w from followed none = followed tt
  followed_or (ended.Failed e) w from followed none = none (λ given. given)

  follow_outcome : (n done : ℕ) (last : Bool) → FollowAt n job.stage (came job) done last → (o : Owner) → Plays awaited calls (player.Follow job) o at → OutcomeFollowed c i calls (task_of (player.Follow job)) (outcome.Follow job.opened job.answers token job.alive job.closed)
  follow_outcome n done last at_stage o (inl knows) =
      inl (
        knows.watch,
        knows.start,
        knows.watches,
        followed_or job.opened knows.watch knows.start
            (λ given. let p = stage_place job.stage n done last given at_stage t in (p.0, p.1, follow_followed awaited calls job.stage job o at p.0 given p.2 knows))
            (λ none. nothing_at job.stage job knows.in_order none),
      )
  follow_outcome n done last at_stage o (inr vain) = inr (vain.1.unwatched, outcome_vain awaited calls job.stage job vain.1)

-- what an insert waits for
insert_awaits : (awaited : Awaited) (past : Past) (at : Space) (ds : List Fields) (s : InsertStage) (k : ℕ) (last : Bool) → InsertTells awaited past at ds s → InsertAt s k last → last ≡ true → IsUnfinished (end_of s) → InsertWaits awaited past at ds
insert_awaits awaited past at ds inserts.Unsent k last tells is_at pended is = absurd (not_both is_at.1 pended)
insert_awaits awaited past at ds (inserts.Goes i) k last tells is_at pended is = insert_waits awaited past at ds i tells.0 (is_at.1 ∙ pended)
insert_awaits awaited past at ds (inserts.Ended ended.Unfinished) k last tells is_at pended is = absurd is_at.1
insert_awaits awaited past at ds (inserts.Ended (ended.Gave n)) k last tells is_at pended is = absurd is
insert_awaits awaited past at ds (inserts.Ended (ended.Failed e)) k last tells is_at pended is = absurd is

-- what became of a job, by what it knows and tells
abbrev OutcomeOfTask : Supply → List Task → Awaited → Course → ℕ → List Call → ℤ → Task → Outcome → Type 0
OutcomeOfTask supply ts awaited c i calls wire t r = OutcomeFollowed c i calls t r × OutcomeCaused awaited c i calls wire (supply_of supply ts c.order i) (as_sent supply.ids ts c.order i t) r × OutcomeFiled c i calls t r

abbrev IsNowAt : Course → ℕ → Task → Player → Type 0
IsNowAt c i t p = IsAt (calls_of t) p (turns_done i c.order c.notes) (pends_last i c.order c.notes)

outcome_of_job : (supply : Supply) (ts : List Task) (awaited : Awaited) (c : Course) (i : ℕ) (calls : List Call) (wire : ℤ) (p : Player) (r : Outcome) (o : Owner) (at : Option ℕ) → OutcomeOf p r → IsNowAt c i (task_of p) p → Plays awaited calls p o at → JobTold supply (first_id ts c.order i) awaited calls wire c i p at → OutcomeOfTask supply ts awaited c i calls wire (task_of p) r
outcome_of_job supply ts awaited c i calls wire (player.Insert job) r o at of is_at plays told =
    let sent : List Fields = with_ids supply.ids (first_id ts c.order i) job.documents.now in
    let past : Past = sent_at told.places.now calls wire in (
      tt,
      subst (λ (x : Outcome). OutcomeCaused awaited c i calls wire (supply_of supply ts c.order i) (as_sent supply.ids ts c.order i (task_of (player.Insert job))) x) (sym of)
          (record {
            places = told.places.now;
            sent = told.sent.now;
            by = ends_of awaited past (space job.ns.now) sent job.stage told.tells.tells;
            whole = sym (only_now told.places told.tells.alone.0 told.tells.alone.1) ∙ told.sent.whole;
            pieces = ends_sent (space job.ns.now) sent (commands_at calls told.places.now) job.stage told.tells.sends;
            waits = λ pended is. insert_awaits awaited past (space job.ns.now) sent job.stage (turns_done i c.order c.notes) (pends_last i c.order c.notes) told.tells.tells is_at pended is;
          }),
      tt,
    )
outcome_of_job supply ts awaited c i calls wire (player.Follow job) r o at of is_at plays told =
    let t : FollowTold awaited calls wire c i job.stage (kept job) at = record { places = told.places; tells = told.tells; sent = told.sent } in
    let count : ℕ = job.watched.calls in
    subst (λ (x : Outcome). OutcomeOfTask supply ts awaited c i calls wire (task_of (player.Follow job)) x) (sym of)
    (follow_outcome awaited c i calls wire job at o plays t count (turns_done i c.order c.notes) (pends_last i c.order c.notes) is_at o plays, stage_caused awaited c i calls wire job at o plays t job.stage count refl is_at t, tt)
outcome_of_job supply ts awaited c i calls wire (player.Put job) r o at of is_at plays told =
    let mine : Supply = supply_of supply ts c.order i in
    let ends_so = put_outcome awaited c i calls wire mine (writes job.what) told.places job.stage job.done (length job.what.pieces.now) told.tells told.sent is_at in (
      tt,
      subst (λ (x : Outcome). OutcomeCaused awaited c i calls wire mine (as_sent supply.ids ts c.order i (task_of (player.Put job))) x) (sym of) ends_so,
      subst (λ (x : Outcome). OutcomeFiled c i calls (task_of (player.Put job)) x) (sym of) (put_filed awaited c i (number_of (player.Put job)) calls wire mine (writes job.what) told.places job.done job.stage told.tells told.sent ends_so),
    )
outcome_of_job supply ts awaited c i calls wire (player.Get job) r o at of is_at plays told =
    subst (λ (x : Outcome). OutcomeOfTask supply ts awaited c i calls wire (task_of (player.Get job)) x) (sym of) (
      tt,
      get_caused awaited c i calls wire told.places (sought job.what) job.bytes.items job.stage job.done at told.sent told.tells is_at,
      get_filed awaited c i job.done calls wire job o at told.places plays told.tells told.sent told.sends,
    )

-- What the jobs of a run know and tell at its end says what became of them.
all_outcomes : (supply : Supply) (given : ℕ → List ℕ) (awaited : Awaited) (log log' : LogTold) (wire : ℤ) (ts : List Task) (order : List ℕ) (notes : List Turned) (players : List Player) (outcomes : List Outcome) → length outcomes ≡ length players → HaveDrawn supply.ids given ts order players → AllTell supply awaited log log' wire ts order notes players → AllAt ts order notes players → DoTasks ts players → OutcomesOf players outcomes
    → (calls : List Call) → log ≡ Some calls → (calls' : List Call) × (log' ≡ Some calls') × ((i : ℕ) (t : Task) (r : Outcome) → slice_get ts i ≡ Some t → slice_get outcomes i ≡ Some r → OutcomeOfTask supply ts awaited (course calls order notes) i calls' wire t r)
all_outcomes supply given awaited log log' wire ts order notes players outcomes count drawn tell all does of calls told =
    let at = tell calls told in (
      at.0,
      at.1,
      (λ i t r ht hr.
          let p = get_length players outcomes count i r hr in
          let k = at.2.each i p.0 p.1 in
          let is : t ≡ task_of p.0 = does i t p.0 ht p.1 in
          subst (λ (u : Task). OutcomeOfTask supply ts awaited (course calls order notes) i at.0 wire u r) (sym is)
          (outcome_of_job supply ts awaited (course calls order notes) i at.0 wire p.0 r k.owner (at.2.places i) (of i p.0 r p.1 hr) (subst (λ (u : Task). IsNowAt (course calls order notes) i u p.0) is (all i t p.0 ht p.1)) k.plays (at.3.each i t p.0 ht p.1))),
    )

all_caused : (supply : Supply) (given : ℕ → List ℕ) (awaited : Awaited) (log log' : LogTold) (wire : ℤ) (ts : List Task) (order : List ℕ) (notes : List Turned) (players : List Player) (outcomes : List Outcome) → length outcomes ≡ length players → HaveDrawn supply.ids given ts order players → AllTell supply awaited log log' wire ts order notes players → AllAt ts order notes players → DoTasks ts players → OutcomesOf players outcomes → AllCaused supply awaited log log' wire ts order notes outcomes
all_caused supply given awaited log log' wire ts order notes players outcomes count drawn tell all does of calls told =
    let o = all_outcomes supply given awaited log log' wire ts order notes players outcomes count drawn tell all does of calls told in
    (o.0, o.1, λ i t r ht hr. (o.2 i t r ht hr).1)

all_followed : (supply : Supply) (given : ℕ → List ℕ) (awaited : Awaited) (log log' : LogTold) (wire : ℤ) (ts : List Task) (order : List ℕ) (notes : List Turned) (players : List Player) (outcomes : List Outcome) → length outcomes ≡ length players → HaveDrawn supply.ids given ts order players → AllTell supply awaited log log' wire ts order notes players → AllAt ts order notes players → DoTasks ts players → OutcomesOf players outcomes → Knowing awaited log log' players → AllFollowed log log' ts order notes outcomes
all_followed supply given awaited log log' wire ts order notes players outcomes count drawn tell all does of knowing calls told =
    let o = all_outcomes supply given awaited log log' wire ts order notes players outcomes count drawn tell all does of calls told in
    let k = knowing calls told in
    let same : k.0 ≡ o.0 = (let e : Some k.0 ≡ Some o.0 = sym k.1 ∙ o.1 in cc) in
    (o.0, o.1, λ i t r ht hr. (o.2 i t r ht hr).0, λ made. subst NamesItsOwn same (k.3 made))

-- the same of a run, unless memory ran out
pub caused_so : (supply : Supply) (given : ℕ → List ℕ) (awaited : Awaited) (log log' : LogTold) (wire : ℤ) (ts : List Task) (order : List ℕ) (notes : List Turned) (players : List Player) (result : Result Played Error) → IfOk result (λ p. length p.outcomes.items ≡ length players) → IfOk result (λ p. OutcomesOf players p.outcomes.items) → IfOk result (λ p. p.turns.items ≡ notes)
    → HaveDrawn supply.ids given ts order players → AllTell supply awaited log log' wire ts order notes players → AllAt ts order notes players → DoTasks ts players → IfOk result (λ p. AllCaused supply awaited log log' wire ts order p.turns.items p.outcomes.items)
caused_so supply given awaited log log' wire ts order notes players (Ok p) count of turns drawn tell all does = subst (λ (ns : List Turned). AllCaused supply awaited log log' wire ts order ns p.outcomes.items) (sym turns) (all_caused supply given awaited log log' wire ts order notes players p.outcomes.items count drawn tell all does of)
caused_so supply given awaited log log' wire ts order notes players (Err e) count of turns drawn tell all does = tt

-- what became of files
all_filed : (supply : Supply) (given : ℕ → List ℕ) (awaited : Awaited) (log log' : LogTold) (wire : ℤ) (ts : List Task) (order : List ℕ) (notes : List Turned) (players : List Player) (outcomes : List Outcome) → length outcomes ≡ length players → HaveDrawn supply.ids given ts order players → AllTell supply awaited log log' wire ts order notes players → AllAt ts order notes players → DoTasks ts players → OutcomesOf players outcomes → AllFiled log log' ts order notes outcomes
all_filed supply given awaited log log' wire ts order notes players outcomes count drawn tell all does of calls told =
    let o = all_outcomes supply given awaited log log' wire ts order notes players outcomes count drawn tell all does of calls told in
    (o.0, o.1, λ i t r ht hr. (o.2 i t r ht hr).2)

pub filed_so : (supply : Supply) (given : ℕ → List ℕ) (awaited : Awaited) (log log' : LogTold) (wire : ℤ) (ts : List Task) (order : List ℕ) (notes : List Turned) (players : List Player) (result : Result Played Error) → IfOk result (λ p. length p.outcomes.items ≡ length players) → IfOk result (λ p. OutcomesOf players p.outcomes.items) → IfOk result (λ p. p.turns.items ≡ notes)
    → HaveDrawn supply.ids given ts order players → AllTell supply awaited log log' wire ts order notes players → AllAt ts order notes players → DoTasks ts players → IfOk result (λ p. AllFiled log log' ts order p.turns.items p.outcomes.items)
filed_so supply given awaited log log' wire ts order notes players (Ok p) count of turns drawn tell all does = subst (λ (ns : List Turned). AllFiled log log' ts order ns p.outcomes.items) (sym turns) (all_filed supply given awaited log log' wire ts order notes players p.outcomes.items count drawn tell all does of)
filed_so supply given awaited log log' wire ts order notes players (Err e) count of turns drawn tell all does = tt

pub followed_so : (supply : Supply) (given : ℕ → List ℕ) (awaited : Awaited) (log log' : LogTold) (wire : ℤ) (ts : List Task) (order : List ℕ) (notes : List Turned) (players : List Player) (result : Result Played Error) → IfOk result (λ p. length p.outcomes.items ≡ length players) → IfOk result (λ p. OutcomesOf players p.outcomes.items) → IfOk result (λ p. p.turns.items ≡ notes)
    → HaveDrawn supply.ids given ts order players → AllTell supply awaited log log' wire ts order notes players → AllAt ts order notes players → DoTasks ts players → Knowing awaited log log' players → IfOk result (λ p. AllFollowed log log' ts order p.turns.items p.outcomes.items)
followed_so supply given awaited log log' wire ts order notes players (Ok p) count of turns drawn tell all does knowing = subst (λ (ns : List Turned). AllFollowed log log' ts order ns p.outcomes.items) (sym turns) (all_followed supply given awaited log log' wire ts order notes players p.outcomes.items count drawn tell all does of knowing)
followed_so supply given awaited log log' wire ts order notes players (Err e) count of turns drawn tell all does knowing = tt

-- ---- what was sent

all_send : (supply : Supply) (given : ℕ → List ℕ) (awaited : Awaited) (log log' : LogTold) (wire : ℤ) (ts : List Task) (order : List ℕ) (notes : List Turned) (players : List Player) → HaveDrawn supply.ids given ts order players → AllTell supply awaited log log' wire ts order notes players → DoTasks ts players → AllSendOnly supply log log' ts order notes
all_send supply given awaited log log' wire ts order notes players drawn tell does calls told =
    let at = tell calls told in (
      at.0,
      at.1,
      (λ i t ht.
          let p = get_length players ts (sym drawn.jobs) i t ht in
          subst (λ (u : Task). SendsOnly (MaySend (supply_of supply ts order i) (as_sent supply.ids ts order i u)) (course calls order notes) i at.0) (sym (does i t p.0 ht p.1)) (at.3.each i t p.0 ht p.1).sends),
    )

-- the same of a run, unless memory ran out
pub sends_so : (supply : Supply) (given : ℕ → List ℕ) (awaited : Awaited) (log log' : LogTold) (wire : ℤ) (ts : List Task) (order : List ℕ) (notes : List Turned) (players : List Player) (result : Result Played Error) → IfOk result (λ p. p.turns.items ≡ notes)
    → HaveDrawn supply.ids given ts order players → AllTell supply awaited log log' wire ts order notes players → DoTasks ts players → IfOk result (λ p. AllSendOnly supply log log' ts order p.turns.items)
sends_so supply given awaited log log' wire ts order notes players (Ok p) turns drawn tell does = subst (λ (ns : List Turned). AllSendOnly supply log log' ts order ns) (sym turns) (all_send supply given awaited log log' wire ts order notes players drawn tell does)
sends_so supply given awaited log log' wire ts order notes players (Err e) turns drawn tell does = tt

-- ---- whose cursors were named

-- no job names a cursor that another one opened, unless memory ran out
pub names_so : (supply : Supply) (awaited : Awaited) (log log' : LogTold) (wire : ℤ) (ts : List Task) (order : List ℕ) (notes : List Turned) (players : List Player) (result : Result Played Error) → IfOk result (λ p. p.turns.items ≡ notes) → AllTell supply awaited log log' wire ts order notes players → IfOk result (λ p. AllNameOwn log log' order p.turns.items)
names_so supply awaited log log' wire ts order notes players (Ok p) turns tell = subst (λ (ns : List Turned). AllNameOwn log log' order ns) (sym turns) (λ calls told. let at = tell calls told in (at.0, at.1, at.4.names))
names_so supply awaited log log' wire ts order notes players (Err e) turns tell = tt
