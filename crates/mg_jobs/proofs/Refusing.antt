-- Which steps of a job its store does not refuse, where every fate keeps its command: those of an insert into a collection with short names, and those of an opening that may begin.
use Rattle.std.proofs.Common.{◌≡◌, ◌⊎◌, ◌≤◌, ◌+◌, ◌++◌, ℕ, zero, ℤ, pos, suc, Bool, true, false, List, [], ◌∷◌, length, take, Contains, Option, Some, None, refl, sym, ap, ◌∙◌, subst, inl, inr, arith}
use Rattle.std.specs.Prelude.{option_and_then, slice_get}
use Rattle.std.specs.List.{sum_by}
use Rattle.std.proofs.lemmas.List.Elements.{Contains-append_cases, Contains-push_cases}
use Rattle.std.proofs.lemmas.Option.{slice_get_within}
use Rattle.mg_bson.specs.Raw.{fields}
use Rattle.mg_bson.specs.Tree.{Fields, Tree}
use Rattle.mg_server.specs.Commands.{Asked, Failure, asked, asks_insert, inserted, told}
use Rattle.mg_server.specs.History.{IsLegal, Step, state_of, told_at}
use Rattle.mg_server.specs.Kept.{IsByRules as AreByRules, Kept, given_after, given_of, state_behind, state_of_kept, step_of, steps_from, steps_of}
use Rattle.mg_link.specs.Link.{Awaited}
use Rattle.mg_link.specs.Log.{Call}
use Rattle.mg_link.specs.Namespace.{Space, Target, target}
use Rattle.mg_server.specs.Owner.{IsOf}
use Rattle.mg_server.specs.Prompt.{HoldsBackNone, IsRefused}
use Rattle.mg_server.specs.Rules.{Answer as Reply, answer_of, inserted_reply, inserting}
use Rattle.mg_server.specs.Standing.{Stands}
use Rattle.mg_server.specs.State.{State, nothing}
use Rattle.mg_server.specs.Step.{documents_of}
use Rattle.mg_link.specs.declared.error.Error.{Error}
use Rattle.mg_link.specs.declared.error.ErrorKind.TheVariants as kind
use Rattle.mg_server.proofs.Inserting.{failing, inserting_is}
use Rattle.mg_link.proofs.Places.{get_front, get_some}
use Rattle.mg_server.proofs.Telling.{insert_tells, told_reads}
use Rattle.mg_options.specs.Fields.{Line, fields_in}
use Rattle.mg_options.specs.declared.change_stream.ChangeStreamOptions.{ChangeStreamOptions}
use Rattle.mg_ops.specs.Aims.{Aim, aim_of, asked_for}
use Rattle.mg_ops.specs.Bodies.{insert_command, watch_command}
use Rattle.mg_ops.specs.Cursors.{watch_manner}
use Rattle.mg_ops.specs.Limits.{SizePasses}
use Rattle.mg_ops.specs.Naming.{IsNamed}
use Rattle.mg_ops.specs.Resuming.{options_for}
use Rattle.mg_ops.specs.declared.aggregate.ChangeStreamAggregate.{ChangeStreamAggregate}
use Rattle.mg_ops.specs.declared.change_stream.WatchArgs.{WatchArgs}
use Rattle.mg_ops.proofs.Asking.{asks_as_aimed, asks_to_insert_plainly, asks_to_kill_plainly}
use Rattle.mg_store.specs.InMemory.{AreAsFates, AreKept, TookAs, TookStep, by_rules}
use Rattle.mg_store.specs.declared.fate.Fate.{Fate}
use Rattle.mg_store.proofs.Sending.{get-steps}
use Rattle.mg_store.proofs.Standing.{get_seam, same_some}
use Rattle.mg_change.specs.ClientOpenings.{first_aggregate}
use Rattle.mg_change.specs.ClientStreams.{resuming_in}
use Rattle.mg_change.specs.OpenedStreams.{IsOpening}
use Rattle.mg_change.specs.Sent.{Falling}
use Rattle.mg_gridfs.specs.Buckets.{ClientBucket}
use Rattle.mg_gridfs.specs.Causes.{IsOfCheck, a_creation, a_find, a_listing, an_index}
use Rattle.mg_gridfs.specs.Commands.{any_lines, chunk_documents, chunks_lines, creation_lines, index_lines, listing_lines}
use Rattle.mg_script.specs.Plan.{Begin, Task, follow, get, insert, put}
use Rattle.mg_script.specs.Script.{first_missing}
use Rattle.mg_script.specs.declared.outcome.Answer.{Answer}
use Rattle.mg_script.specs.declared.outcome.Ended.{Ended}
use Rattle.mg_script.specs.declared.outcome.Ended.TheVariants as ended
use Rattle.mg_script.specs.declared.outcome.Outcome.{Outcome}
use Rattle.mg_turns.specs.declared.turned.Turned.{Turned}
use Rattle.mg_players.specs.Causes.{AllSentIn, Course, FallsAt, FollowCaused, OutcomeCaused, command_at, commands_at, course, places_of}
use Rattle.mg_jobs.specs.Completing.{AnswersWell, EndsWell, Excuses, FindsNothing, FitsLimits, FollowEndsIn, FollowWell, GetWell, HasShortFiles, HasShortNames, IsMemory, IsThere, JobTaken, JobWell, JobWellIn, MayBegin, NoneRefused, OutcomeEnds, OutcomeEndsIn, PutEndsIn, SendFresh, StandsWhole, own_excuses, own_position, positions_at}
use Rattle.mg_turns.specs.Counts.{StartedBy}
use Rattle.mg_players.specs.Drawing.{as_sent, supply_of}
use Rattle.mg_jobs.specs.Fated.{AreItsSteps}
use Rattle.mg_players.specs.Follows.{IsArgsFor, options_of, stages_of, start_of}
use Rattle.mg_players.specs.Progress.{FollowPlayed, IsPlayed, pends_last, turns_done}
use Rattle.mg_players.specs.Kinds.{OfPut}
use Rattle.mg_players.specs.Gets.{GetTask, IsGetCommand, chunks_find, for_chunks, for_more, for_record, get_of, no_manner, record_find}
use Rattle.mg_jobs.specs.Own.{IsHeard}
use Rattle.mg_jobs.specs.PutLimits.{CannotPut, HasFewIndexes, IsExcusedPut, IsValidPut}
use Rattle.mg_players.specs.PutSends.{chunks_removal, of_check, reads_on, record_insert}
use Rattle.mg_players.specs.Puts.{PutTask, Supply, put_bucket, put_of}
use Rattle.mg_players.specs.Sends.{IsPutCommand, MaySend, SendsOnly, asks, checks, inserts, kills, opens, records, removes, resumes}
use Rattle.mg_players.proofs.CallPlaces.{opens_falls}
use Rattle.mg_jobs.proofs.Added.{AreModestEntries, first_by_rules, kept_modest}
use Rattle.mg_jobs.proofs.Mild.{IsMildCommand, IsQuiet, creates_mild, deletes_mild, finds_mild, indexes_mild, inserts_mild, lists_mild, quiet_mild}
use Rattle.mg_jobs.proofs.OpeningTaken.{fits_size, opening_taken}
use Rattle.mg_jobs.proofs.Created.{creations_meet, is_taken}
use Rattle.mg_jobs.proofs.Positions.{answers_well}
use Rattle.mg_jobs.proofs.Replying.{inserts_so}
use Rattle.mg_jobs.proofs.SaidTwice.{follow_both, get_both, insert_both, put_both}
use Rattle.mg_jobs.proofs.Senders.{more_mild, none_missing, state_before, turn_of}

-- ---- the call of a step

-- a call at one of these places has this position
pub record CallAt (calls : List Call) (places : List ℕ) (position : ℕ) : Type 0 where
  pub place : ℕ
  pub of : IsOf places place
  pub call : Call
  pub there : slice_get calls place ≡ Some call
  pub position_is : call.position ≡ Some position

only_one : (p position : ℕ) → Contains (p ∷ []) position → p ≡ position
only_one p position has = elim (Contains-push_cases [] p position has) [ inl none ↦ (let lt = none.1 in absurd (omega arith)) | inr is ↦ is ]

placed_at : (calls : List Call) (place : ℕ) (places : List ℕ) (position : ℕ) (call : Call) → slice_get calls place ≡ Some call → (o : Option ℕ) → call.position ≡ o → Contains (own_position o) position → CallAt calls (place ∷ places) position
placed_at calls place places position call there None is has = let lt = has.1 in absurd (omega arith)
placed_at calls place places position call there (Some p) is has = record { place = place; of = inl refl; call = call; there = there; position_is = is ∙ ap Some (only_one p position has) }

here_at : (calls : List Call) (place : ℕ) (places : List ℕ) (position : ℕ) (o : Option Call) → slice_get calls place ≡ o → Contains (own_position (option_and_then (λ (call : Call). call.position) o)) position → CallAt calls (place ∷ places) position
here_at calls place places position None is has = let lt = has.1 in absurd (omega arith)
here_at calls place places position (Some call) is has = placed_at calls place places position call is call.position refl has

pub call_at : (calls : List Call) (places : List ℕ) (position : ℕ) → Contains (positions_at calls places) position → CallAt calls places position
call_at calls [] position has = let lt = has.1 in absurd (omega arith)
call_at calls (place ∷ places) position has =
    elim (Contains-append_cases (own_position (option_and_then (λ (call : Call). call.position) (slice_get calls place))) (positions_at calls places) position has) [
      | inl first ↦ here_at calls place places position (slice_get calls place) refl first
      | inr later ↦ (let c = call_at calls places position later in record { place = c.place; of = inr c.of; call = c.call; there = c.there; position_is = c.position_is })
    ]

-- the command of a call at one of these places is such a one
falls_first : (may : ℕ → Fields → Type 0) (n m : ℕ) (o : Option Call) (cs : List Fields) (call : Call) → o ≡ Some call → Falling may n (command_at o ++ cs) m → (p : ℕ) × may p (fields call.command)
falls_first may n m None cs call is falling = absurd cc
falls_first may n m (Some first) cs call is falling = let same : first ≡ call = cc in subst (λ (x : Call). (p : ℕ) × may p (fields x.command)) same (falling.0, falling.2)

falls_later : (may : ℕ → Fields → Type 0) (n m : ℕ) (o : Option Call) (cs : List Fields) → Falling may n (command_at o ++ cs) m → (k : ℕ) × Falling may k cs m
falls_later may n m None cs falling = (n, falling)
falls_later may n m (Some first) cs falling = (falling.0, falling.3)

pub falls_each : (may : ℕ → Fields → Type 0) (calls : List Call) (n : ℕ) (places : List ℕ) (m : ℕ) → Falling may n (commands_at calls places) m → (place : ℕ) (call : Call) → IsOf places place → slice_get calls place ≡ Some call → (p : ℕ) × may p (fields call.command)
falls_each may calls n [] m falling place call of there = absurd of
falls_each may calls n (first ∷ places) m falling place call (inl same) there = falls_first may n m (slice_get calls first) (commands_at calls places) call (ap (slice_get calls) same ∙ there) falling
falls_each may calls n (first ∷ places) m falling place call (inr of) there =
    let later = falls_later may n m (slice_get calls first) (commands_at calls places) falling in
    falls_each may calls later.0 places m later.1 place call of there

kept_from : (s : State) (given : ℕ) (started : Bool) (kept : List Kept) (p : ℕ) (step : Step) → slice_get (steps_from s given started kept) p ≡ Some step → (k : Kept) × (slice_get kept p ≡ Some k) × (k.command ≡ step.command)
unfolding steps_from
kept_from s given started [] p step at = absurd cc
kept_from s given started (k ∷ kept) zero step at = (k, refl, ap (λ (x : Step). x.command) (same_some (step_of s given started k) step at))
kept_from s given started (k ∷ kept) (suc p) step at = kept_from (state_behind s given started k) (given_after given k) true kept p step at

-- a step that was kept
pub get_kept : (kept : List Kept) (p : ℕ) (step : Step) → slice_get (steps_of kept) p ≡ Some step → (k : Kept) × (slice_get kept p ≡ Some k) × (k.command ≡ step.command)
get_kept kept p step at = kept_from nothing 0 false kept p step at

-- want of memory excuses each job
full_own : (c : Course) (i : ℕ) (calls : List Call) (t : Task) (e : Error) → e.kind ≡ kind.OutOfMemory → own_excuses c i calls t ⊥ e
full_own c i calls (follow on count start filter batch) e room = inl room
full_own c i calls (insert ns docs) e room = inl room
full_own c i calls (put db bucket name id chunk pieces) e room = inl room
full_own c i calls (get db bucket id read) e room = inl room

-- a valid put of fresh documents ends well whose names may be
abbrev pub PutsWell : Excuses → Course → ℕ → List Call → List Step → Task → Outcome → Type 0
PutsWell excuses c i calls history (follow on count start filter batch) = λ r. Unit {0}
PutsWell excuses c i calls history (insert ns docs) = λ r. Unit {0}
PutsWell excuses c i calls history (put db bucket name id chunk pieces) =
    OfPut (λ end. HasShortFiles (put_of db bucket name id chunk pieces).at → IsValidPut (put_of db bucket name id chunk pieces) → SendFresh (positions_at calls (places_of c i)) history → length pieces + 2 ≤ turns_done i c.order c.notes → EndsWell (excuses ⊥) end)
PutsWell excuses c i calls history (get db bucket id read) = λ r. Unit {0}

-- where it fits the limits, want of memory alone excuses it
memory_alone : (heard : List ℕ → Type 0) (t : PutTask) (end : Ended ℕ) → ((e : Error) → CannotPut heard t e → ⊥) → EndsWell (IsExcusedPut heard t) end → EndsWell (IsMemory ⊥) end
memory_alone heard t ended.Unfinished fit well = well
memory_alone heard t (ended.Gave n) fit well = tt
memory_alone heard t (ended.Failed e) fit well = elim well [ inl room ↦ room | inr cannot ↦ absurd (fit e cannot) ]

puts_fit : (c : Course) (i : ℕ) (calls : List Call) (history : List Step) (t : Task) (r : Outcome) → FitsLimits c i calls t → PutsWell (own_excuses c i calls t) c i calls history t r → PutsWell IsMemory c i calls history t r
puts_fit c i calls history (follow on count start filter batch) r fit well = tt
puts_fit c i calls history (insert ns docs) r fit well = tt
puts_fit c i calls history (put db bucket name id chunk pieces) r fit well =
    let t : PutTask = put_of db bucket name id chunk pieces in
    put_both (λ end. HasShortFiles t.at → IsValidPut t → SendFresh (positions_at calls (places_of c i)) history → length pieces + 2 ≤ turns_done i c.order c.notes → EndsWell (IsExcusedPut (IsHeard c i calls) t) end)
    (λ end. HasShortFiles t.at → IsValidPut t → SendFresh (positions_at calls (places_of c i)) history → length pieces + 2 ≤ turns_done i c.order c.notes → EndsWell (IsExcusedPut (IsHeard c i calls) t) end)
    (λ end. HasShortFiles t.at → IsValidPut t → SendFresh (positions_at calls (places_of c i)) history → length pieces + 2 ≤ turns_done i c.order c.notes → EndsWell (IsMemory ⊥) end)
    (λ end ends again may valid fresh turns. memory_alone (IsHeard c i calls) t end fit (ends may valid fresh turns)) r well well
puts_fit c i calls history (get db bucket id read) r fit well = tt

-- an aggregate changes nothing
aggregate_mild : (command : List ℕ) (a : ChangeStreamAggregate) (wire : ℤ) → fields command ≡ resuming_in a wire None → IsMildCommand (fields command)
unfolding asked
aggregate_mild command a wire is =
    let o = options_for a.args.options a.resume wire in
    quiet_mild (fields command) (subst IsQuiet (sym (asks_as_aimed command (target a.args.target) a.args.pipeline.items o None is)) (quiet_aim (aim_of (target a.args.target) a.args.pipeline.items o)))
  where
    quiet_aim : (a : Option Aim) → IsQuiet (asked_for a)
    quiet_aim None = tt
    quiet_aim (Some a) = tt

-- ---- the step of an insert

-- what the rules' reply to an insert of these names tells
pub insert_told : (s : State) (id : ℤ) (command given : List ℕ) (at : Space) (ds : List Fields) → HasShortNames at → fields command ≡ insert_command at ds → fields given ≡ (answer_of s id (fields command)).reply → (n : ℤ) × (failures : List Failure) × (told (asked command) given ≡ inserted n failures)
insert_told s id command given at ds names is read =
    let i = inserting at true 0 (length s.changes) (documents_of s at) ds in
    let by = inserting_is at true 0 (length s.changes) (documents_of s at) ds in
    let reply_is : fields given ≡ inserted_reply i = read ∙ ap (λ (a : Reply). a.reply) (ap (answer_of s id) is ∙ inserts_so s id at ds names) in (
      pos (length i.documents),
      failing true 0 (documents_of s at) ds,
      ap (λ (a : Asked). told a given) (asks_to_insert_plainly command at ds names.named is) ∙ told_reads (asks_insert at ds true) given (inserted_reply i) reply_is
          ∙ insert_tells at ds true i (failing true 0 (documents_of s at) ds) by.failures_are by.errors_keep,
    )

module _ (history : List Kept) (fates : List Fate) (kept : AreKept 0 fates) (calls : List Call) (pended : List ℕ) (as_fates : AreAsFates history fates calls pended) (stands : Stands calls (steps_of history)) where
  -- a call took its step by the rules
  pub took : (k : ℕ) (call : Call) → slice_get calls k ≡ Some call → TookStep (by_rules call.command) history call.command call.position
  took k call there =
      let within = slice_get_within calls k call there in
      let counted = as_fates.counted in
      let n = get_some pended k (omega (arith, within, counted)) in
      subst (λ (f : Fate). TookAs f.kind history call.command call.position) (kept k (omega arith)) (as_fates.each k call n.0 there n.1).took

  -- the step of a call has its command, and the reply of the rules
  pub record IsByRules (step : Step) (position : ℕ) (command : List ℕ) : Type 0 where
    pub before : List Kept
    pub this : Kept
    pub later : List Kept
    pub these : history ≡ before ++ this ∷ later
    pub state_is : state_of (take position (steps_of history)) ≡ state_of_kept before
    pub command_is : step.command ≡ command
    pub replies : fields step.reply ≡ by_rules command before

  pub step_by : (k : ℕ) (call : Call) (position : ℕ) (step : Step) → slice_get calls k ≡ Some call → call.position ≡ Some position → slice_get (steps_of history) position ≡ Some step → IsByRules step position call.command
  step_by k call position step there placed at =
      let t = took k call there in
      let s = stands.same k call position there placed in
      let same : s.0 ≡ step = same_some s.0 step (sym s.1 ∙ at) in
      let g = get-steps history position step at in
      let where_is : length t.before ≡ position = same_some (length t.before) position (sym t.placed ∙ placed) in
      let found : slice_get history position ≡ Some (record { command = call.command; reply = t.given }) = ap (λ (p : ℕ). slice_get history p) (sym where_is) ∙ ap (λ (h : List Kept). slice_get h (length t.before)) t.these ∙ get_seam t.before t.later (record { command = call.command; reply = t.given }) in
      let kept_is : g.0 ≡ record { command = call.command; reply = t.given } = same_some g.0 (record { command = call.command; reply = t.given }) (sym g.1 ∙ found) in
      record {
        before = t.before;
        this = record { command = call.command; reply = t.given };
        later = t.later;
        these = t.these;
        state_is = ap (λ (p : ℕ). state_of (take p (steps_of history))) (sym where_is) ∙ ap (λ (h : List Kept). state_of (take (length t.before) (steps_of h))) t.these ∙ state_before t.before t.later (record { command = call.command; reply = t.given });
        command_is = ap (λ (x : Step). x.command) (sym same) ∙ s.2;
        replies = ap fields (sym g.2 ∙ ap (λ (k : Kept). k.reply) kept_is) ∙ t.replies.read_back;
      }

  -- none of the steps of an insert is refused
  pub none_refused : (supply : Supply) (c : Course) (i : ℕ) (ns : Space) (docs : List Fields) → SendsOnly (MaySend supply (insert ns docs)) c i calls → AllSentIn c i 0 (places_of c i) → HasShortNames ns → NoneRefused c i calls (steps_of history)
  none_refused supply c i ns docs sends sent names position step own at =
      let by = call_at calls (places_of c i) position own in
      let r = step_by by.place by.call position step by.there by.position_is at in
      let p = sends.each 0 by.place by.call (sent by.place by.of) by.there in
      let tells = insert_told (state_of_kept r.before) (pos (suc (given_of r.before))) by.call.command step.reply ns p.piece names p.command_is r.replies in
      is_taken (asked step.command) (told_at step) (λ refused. subst IsRefused tells.2 (subst (λ (command : List ℕ). IsRefused (told (asked command) step.reply)) r.command_is refused))

  -- ---- the opening of a follow

  module _ (ruled : AreByRules history) (mild : (p : ℕ) (k : Kept) → slice_get history p ≡ Some k → IsMildCommand (fields k.command)) where
    -- no entry ended a watch before a step
    pub modest_before : (before : List Kept) (k : Kept) (later : List Kept) → history ≡ before ++ k ∷ later → AreModestEntries (state_of_kept before).changes
    modest_before before k later these = kept_modest before (first_by_rules before (k ∷ later) (subst AreByRules these ruled)) (λ p j at. mild p j (ap (λ (h : List Kept). slice_get h p) these ∙ get_front before (k ∷ later) p j at))

    module _ (c : Course) (i : ℕ) (on : Target) (start : Begin) (filter : Option Fields) (batch : Option ℕ) where
      -- none of the steps of a follow is refused that sent its opening aggregate alone
      none_refused_opening : (wire : ℤ) (args : WatchArgs) → IsArgsFor on start filter batch args → FallsAt (IsOpening args wire None) calls 3 (places_of c i) 1 → (SizePasses batch → ⊥) → MayBegin c i calls (steps_of history) on start filter → NoneRefused c i calls (steps_of history)
      none_refused_opening wire args are falls small may position step own at =
          let by = call_at calls (places_of c i) position own in
          let r = step_by by.place by.call position step by.there by.position_is at in
          let sent : fields by.call.command ≡ resuming_in (first_aggregate args) wire None = (falls_each (IsOpening args wire None) calls 3 (places_of c i) 1 falls.falling by.place by.call by.of by.there).1 in
          let built : watch_command (target args.target) args.pipeline.items args.options ≡ watch_command on (stages_of filter) (options_of on start batch) =
          ap (λ (t : Target). watch_command t args.pipeline.items args.options) are.target_is ∙ ap (λ (ds : List Fields). watch_command on ds args.options) are.stages ∙ ap (λ (o : ChangeStreamOptions). watch_command on (stages_of filter) o) are.options_are in
          let there : IsThere (state_of_kept r.before) (start_of start) = subst (IsThere (state_of_kept r.before)) may.watches.from_is (subst (λ (s : State). IsThere s may.from) r.state_is (may.there position step own at)) in
          is_taken (asked step.command) (told_at step)
          (λ refused. opening_taken (state_of_kept r.before) (given_of r.before) (modest_before r.before r.this r.later r.these) by.call.command step.reply on start filter batch may.watch.filter may.short (fits_size batch small) may.watches.by there (sent ∙ built) r.replies
          (subst (λ (command : List ℕ). IsRefused (told (asked command) step.reply)) r.command_is refused))

    -- ---- how a job ends

    module _ (legal : IsLegal (steps_of history)) (prompt : HoldsBackNone (steps_of history)) (excuses : Excuses) (awaited : Awaited) (wire : ℤ) (c : Course) (i : ℕ) (full : (e : Error) → e.kind ≡ kind.OutOfMemory → excuses ⊥ e) where
      abbrev answered : NoneRefused c i calls (steps_of history) → AnswersWell c i calls
      answered taken = answers_well c i calls (steps_of history) legal stands prompt (creations_meet history ruled) taken

      module _ (on : Target) (count : ℕ) (start : Begin) (filter : Option Fields) (batch : Option ℕ) (small : SizePasses batch → ⊥) where
        abbrev Well : Ended (Unit {0}) → List Answer → Ended (Unit {0}) → Type 0
        Well opened said closed = (by : AnswersWell c i calls) → FollowWell excuses (FindsNothing c i calls by.history) count opened said closed

        opens_well : (opened closed : Ended (Unit {0})) (said : List Answer) (token : Option Tree) (alive : Bool) (k : ℕ) (last : Bool) → Well opened said closed → FollowCaused awaited c i count calls wire on start filter batch opened said token alive closed → FollowPlayed opened closed count (length said) alive k last
            → suc count ≤ k → MayBegin c i calls (steps_of history) on start filter → EndsWell (excuses ⊥) opened
        opens_well ended.Unfinished closed said token alive k last well caused played turns may = let none = played.0 in absurd (omega (arith, none, turns))
        opens_well (ended.Gave x) closed said token alive k last well caused played turns may = tt
        opens_well (ended.Failed e) closed said token alive k last well (inl room) played turns may = full e room.0
        opens_well (ended.Failed e) closed said token alive k last well (inr f) played turns may =
            well (answered (none_refused_opening c i on start filter batch wire f.args f.args_are (subst (λ (places : List ℕ). FallsAt (IsOpening f.args wire None) calls 3 places 1) f.whole (opens_falls calls wire f.args f.places f.opens)) small may))

      -- a get, whose steps were not refused where its collections have short names
      get_ends : (g : GetTask) (end : Ended (Unit {0})) → ((by : AnswersWell c i calls) → GetWell (excuses ⊥) c i calls by.history g end) → (HasShortFiles g.at → (bytes : List ℕ) → StandsWhole c i calls (steps_of history) g bytes → NoneRefused c i calls (steps_of history))
          → NoneRefused c i calls (steps_of history) ⊎ HasShortFiles g.at → GetWell (excuses ⊥) c i calls (steps_of history) g end
      unfolding answers_well
      get_ends g end well takes (inl taken) = well (answered taken)
      get_ends g end well takes (inr may) = λ named some whole is turns. well (answered (takes may whole is)) named some whole is turns

      ends_in : (supply : Supply) (t : Task) (r : Outcome) → OutcomeCaused awaited c i calls wire supply t r → IsPlayed t (turns_done i c.order c.notes) (pends_last i c.order c.notes) r → OutcomeEnds excuses c i calls t r → JobTaken c i calls (steps_of history) t → PutsWell excuses c i calls (steps_of history) t r → OutcomeEndsIn excuses c i calls (steps_of history) t r
      unfolding answers_well
      ends_in supply (follow on count start filter batch) r caused played ends takes puts =
          let k : ℕ = turns_done i c.order c.notes in
          let last : Bool = pends_last i c.order c.notes in
          follow_both (λ opened said token alive closed. (by : AnswersWell c i calls) → (SizePasses batch → ⊥) → suc count ≤ k → FollowWell excuses (FindsNothing c i calls by.history) count opened said.items closed)
          (λ opened said token alive closed. FollowCaused awaited c i count calls wire on start filter batch opened said.items token alive closed × FollowPlayed opened closed count (length said.items) alive k last)
          (λ opened said token alive closed. (SizePasses batch → ⊥) → suc count ≤ k → FollowEndsIn excuses (FindsNothing c i calls (steps_of history)) (NoneRefused c i calls (steps_of history)) (MayBegin c i calls (steps_of history) on start filter) count opened said.items closed)
          (λ opened said token alive closed well why small turns. record {
            opens = opens_well on count start filter batch small opened closed said.items token alive k last (λ by. well by small turns) why.0 why.1 turns;
            goes_well = λ may. well (answered (takes small may)) small turns;
            ends = λ taken. well (answered taken) small turns;
          }) r ends
          (follow_both (λ opened said token alive closed. FollowCaused awaited c i count calls wire on start filter batch opened said.items token alive closed) (λ opened said token alive closed. FollowPlayed opened closed count (length said.items) alive k last)
          (λ opened said token alive closed. FollowCaused awaited c i count calls wire on start filter batch opened said.items token alive closed × FollowPlayed opened closed count (length said.items) alive k last) (λ opened said token alive closed a b. (a, b)) r caused played)
      ends_in supply (insert ns docs) r caused played ends takes puts =
          let k : ℕ = turns_done i c.order c.notes in
          insert_both (λ end. (by : AnswersWell c i calls) → IsNamed ns → SendFresh by.own by.history → 1 ≤ k → EndsWell (excuses ⊥) end) (λ end. (by : AnswersWell c i calls) → IsNamed ns → SendFresh by.own by.history → 1 ≤ k → EndsWell (excuses ⊥) end)
          (λ end. HasShortNames ns → SendFresh (positions_at calls (places_of c i)) (steps_of history) → 1 ≤ k → EndsWell (excuses ⊥) end)
          (λ end well again names fresh turns. well (answered (takes names)) names.named fresh turns) r ends ends
      ends_in supply (put db bucket name id chunk pieces) r caused played ends takes puts =
          let k : ℕ = turns_done i c.order c.notes in
          let t : PutTask = put_of db bucket name id chunk pieces in
          put_both (λ end. (by : AnswersWell c i calls) → IsValidPut t → SendFresh by.own by.history → HasFewIndexes by.own by.history t → length pieces + 2 ≤ k → EndsWell (excuses ⊥) end)
          (λ end. HasShortFiles t.at → IsValidPut t → SendFresh (positions_at calls (places_of c i)) (steps_of history) → length pieces + 2 ≤ k → EndsWell (excuses ⊥) end)
          (λ end. IsValidPut t → SendFresh (positions_at calls (places_of c i)) (steps_of history) → length pieces + 2 ≤ k → PutEndsIn (excuses ⊥) (HasShortFiles t.at) (NoneRefused c i calls (steps_of history)) (HasFewIndexes (positions_at calls (places_of c i)) (steps_of history) t) end)
          (λ end well goes valid fresh turns. record { goes_well = λ may. goes may valid fresh turns; ends = λ taken few. well (answered taken) valid fresh few turns }) r ends puts
      ends_in supply (get db bucket id read) r caused played ends takes puts =
          let g : GetTask = get_of db bucket id read in
          get_both (λ bytes end. (by : AnswersWell c i calls) → GetWell (excuses ⊥) c i calls by.history g end) (λ bytes end. (by : AnswersWell c i calls) → GetWell (excuses ⊥) c i calls by.history g end)
          (λ bytes end. NoneRefused c i calls (steps_of history) ⊎ HasShortFiles g.at → GetWell (excuses ⊥) c i calls (steps_of history) g end)
          (λ bytes end well again. get_ends g end well takes) r ends ends

    -- A job of a run over this store ends so in its history.
    pub job_ends_in : IsLegal (steps_of history) → HoldsBackNone (steps_of history) → (awaited : Awaited) (wire : ℤ) (c : Course) (i : ℕ) (supply : Supply) (t : Task) (r : Outcome) → OutcomeCaused awaited c i calls wire supply t r
        → IsPlayed t (turns_done i c.order c.notes) (pends_last i c.order c.notes) r → JobWell c i calls t r → JobTaken c i calls (steps_of history) t → PutsWell (own_excuses c i calls t) c i calls (steps_of history) t r
        → JobWellIn c i calls (steps_of history) t r
    job_ends_in legal prompt awaited wire c i supply t r caused played well takes puts = (
      ends_in legal prompt (own_excuses c i calls t) awaited wire c i (full_own c i calls t) supply t r caused played well.0 takes puts,
      λ fit. ends_in legal prompt IsMemory awaited wire c i (λ e room. room) supply t r caused played (well.1 fit) takes (puts_fit c i calls (steps_of history) t r fit puts),
    )

-- ---- the commands of a run

-- those of the check of a bucket's indexes
check_mild : (b : ClientBucket) (ls : List Line) → IsOfCheck b ls → IsMildCommand (fields_in ls)
check_mild b ls (a_find is) = subst (λ (ls : List Line). IsMildCommand (fields_in ls)) (sym is) (finds_mild (fields_in (any_lines b)) refl)
check_mild b ls (a_creation at is) = subst (λ (ls : List Line). IsMildCommand (fields_in ls)) (sym is) (creates_mild (fields_in (creation_lines b at)) refl)
check_mild b ls (a_listing at is) = subst (λ (ls : List Line). IsMildCommand (fields_in ls)) (sym is) (lists_mild (fields_in (listing_lines b at)) refl)
check_mild b ls (an_index at is) = subst (λ (ls : List Line). IsMildCommand (fields_in ls)) (sym is) (indexes_mild (fields_in (index_lines b at)) refl)

put_mild : (supply : Supply) (t : PutTask) (fs : Fields) → IsPutCommand supply t fs → IsMildCommand fs
put_mild supply t fs (checks (of_check ls of is)) = subst IsMildCommand (sym is) (check_mild (put_bucket t) ls of)
put_mild supply t fs (checks (reads_on id space is)) = subst IsMildCommand (sym is) (more_mild id space no_manner)
put_mild supply t fs (inserts from upto its) = subst IsMildCommand (sym its.command_is) (inserts_mild (fields_in (chunks_lines (put_bucket t) (chunk_documents its.ids 0 t.id from its.piece))) refl)
put_mild supply t fs (records moment its is) = subst IsMildCommand (sym is) (inserts_mild (record_insert t moment) refl)
put_mild supply t fs (removes is) = subst IsMildCommand (sym is) (deletes_mild (chunks_removal t) refl)

get_mild : (g : GetTask) (fs : Fields) → IsGetCommand g fs → IsMildCommand fs
get_mild g fs (for_record room is) = subst IsMildCommand (sym is) (finds_mild (record_find g) refl)
get_mild g fs (for_chunks room id is) = subst IsMildCommand (sym is) (finds_mild (chunks_find g id) refl)
get_mild g fs (for_more room cursor space is) = subst IsMildCommand (sym is) (more_mild cursor space no_manner)

-- a job's command is mild
sends_mildly : (supply : Supply) (t : Task) (command : List ℕ) → MaySend supply t (fields command) → IsMildCommand (fields command)
unfolding asked
sends_mildly supply (insert ns docs) command p = subst IsMildCommand (sym p.command_is) (inserts_mild (insert_command ns p.piece) refl)
sends_mildly supply (follow on count start filter batch) command (opens args wire its is) = aggregate_mild command (first_aggregate args) wire is
sends_mildly supply (follow on count start filter batch) command (resumes a wire its is) = aggregate_mild command a wire is
sends_mildly supply (follow on count start filter batch) command (asks args its id space is) = subst IsMildCommand (sym is) (more_mild id space (watch_manner args.options))
sends_mildly supply (follow on count start filter batch) command (kills space ids is) = quiet_mild (fields command) (subst IsQuiet (sym (asks_to_kill_plainly command space ids is)) tt)
sends_mildly supply (put db bucket name id chunk pieces) command p = put_mild supply (put_of db bucket name id chunk pieces) (fields command) p
sends_mildly supply (get db bucket id read) command p = get_mild (get_of db bucket id read) (fields command) p

-- Where each step is that of a call, and each call was sent by a job in its turns, all commands are such as all that jobs may send.
pub run_each : (Says : Fields → Type 0) → ((supply : Supply) (t : Task) (command : List ℕ) → MaySend supply t (fields command) → Says (fields command)) → (history : List Kept) (calls : List Call) → AreItsSteps history calls → Stands calls (steps_of history) → (supply : Supply) (ts : List Task) (order : List ℕ) (notes : List Turned) → first_missing (length ts) order ≡ None → length notes ≡ length order
    → StartedBy (sum_by (λ (n : Turned). n.started) notes) (Some []) (Some calls)
    → ((i : ℕ) (t : Task) → slice_get ts i ≡ Some t → SendsOnly (MaySend (supply_of supply ts order i) (as_sent supply.ids ts order i t)) (course [] order notes) i calls) → (p : ℕ) (k : Kept) → slice_get history p ≡ Some k → Says (fields k.command)
run_each Says such history calls alone stands supply ts order notes named abreast started sends p k at =
    let s = alone p (slice_get_within history p k at) in
    let all = started [] refl in
    let same : all.0 ≡ calls = same_some all.0 calls (sym all.1) in
    let long = ap length same in
    let count = all.2 in
    let within = slice_get_within calls s.0 s.1 s.2 in
    let turn = turn_of 0 [] [] order notes s.0 refl abreast (let none : sum_by (λ (n : Turned). n.started) [] ≡ 0 = refl in omega (arith, none)) (let none : sum_by (λ (n : Turned). n.started) [] ≡ 0 = refl in omega (arith, none, within, long, count)) in
    let below = none_missing (length ts) turn.2.before turn.0 turn.2.after (ap (first_missing (length ts)) (sym turn.2.order_is) ∙ named) in
    let t = get_some ts turn.0 below in
    let may = (sends turn.0 t.0 t.1).each turn.1 s.0 s.1 turn.2 s.2 in
    let step = stands.same s.0 s.1 p s.2 s.3 in
    let command_is : k.command ≡ s.1.command = ap (λ (x : Kept). x.command) (sym (same_some (get_kept history p step.0 step.1).0 k (sym (get_kept history p step.0 step.1).1 ∙ at))) ∙ (get_kept history p step.0 step.1).2 ∙ step.2 in
    subst (λ (command : List ℕ). Says (fields command)) (sym command_is) (such (supply_of supply ts order turn.0) (as_sent supply.ids ts order turn.0 t.0) s.1.command may)

-- They are mild.
pub run_mildly : (history : List Kept) (calls : List Call) → AreItsSteps history calls → Stands calls (steps_of history) → (supply : Supply) (ts : List Task) (order : List ℕ) (notes : List Turned) → first_missing (length ts) order ≡ None → length notes ≡ length order
    → StartedBy (sum_by (λ (n : Turned). n.started) notes) (Some []) (Some calls)
    → ((i : ℕ) (t : Task) → slice_get ts i ≡ Some t → SendsOnly (MaySend (supply_of supply ts order i) (as_sent supply.ids ts order i t)) (course [] order notes) i calls) → (p : ℕ) (k : Kept) → slice_get history p ≡ Some k → IsMildCommand (fields k.command)
run_mildly history calls alone stands supply ts order notes named abreast started sends = run_each IsMildCommand sends_mildly history calls alone stands supply ts order notes named abreast started sends
