-- The store of a run refuses no aggregate, getMore or killing that a follow sends for its own watch, and its replies tell what is there.
use Rattle.std.proofs.Common.{◌≡◌, ◌≤◌, ◌<◌, ℕ, zero, suc, ℤ, pos, Bool, true, false, List, [], ◌∷◌, length, length-append, map, take, Contains, Option, Some, None, Ok, sym, ap, ◌∙◌, subst, inl, inr, arith}
use Rattle.std.specs.Prelude.{codes, if◌then◌else◌, slice_get}
use Rattle.std.proofs.lemmas.Bool.{cases_Bool, cases_lt}
use Rattle.mg_bson.specs.Find.{get}
use Rattle.mg_bson.specs.Raw.{fields}
use Rattle.mg_bson.specs.Tree.{Fields, Tree}
use Rattle.mg_server.specs.Filter.{is_same}
use Rattle.mg_server.specs.History.{IsLegal, Step, state_of, told_at}
use Rattle.mg_server.specs.Kept.{IsByRules as AreByRules, Kept, steps_of}
use Rattle.mg_link.specs.Log.{Call}
use Rattle.mg_link.specs.Namespace.{Target}
use Rattle.mg_server.specs.Owner.{IsOf}
use Rattle.mg_server.specs.Prompt.{HoldsBackNone, IsRefused}
use Rattle.mg_server.specs.Rules.{Answer, batch_events, batch_place, ends_watch, more, request_of, size_of, some_size, token_of, token_place, watch, watch_reply, watch_space}
use Rattle.mg_server.specs.Standing.{Stands}
use Rattle.mg_server.specs.State.{Entry, State, Watch, after}
use Rattle.mg_server.proofs.Allowed.{place_fits}
use Rattle.mg_server.proofs.Batching.{batch_within}
use Rattle.mg_link.proofs.Places.{get_within}
use Rattle.mg_server.proofs.Requests.{request_reads}
use Rattle.mg_server.proofs.Telling.{gave_reply, opened_reply}
use Rattle.mg_server.proofs.Tokens.{is_same_self}
use Rattle.mg_options.specs.declared.change_stream.ChangeStreamOptions.{ChangeStreamOptions}
use Rattle.mg_ops.specs.Bodies.{watch_command}
use Rattle.mg_ops.specs.Commands.{kill_command}
use Rattle.mg_ops.specs.Cursors.{next_command}
use Rattle.mg_ops.specs.Limits.{SizePasses}
use Rattle.mg_store.specs.InMemory.{AreAsFates, AreKept}
use Rattle.mg_store.specs.declared.fate.Fate.{Fate}
use Rattle.mg_store.proofs.Standing.{same_some}
use Rattle.mg_script.specs.Plan.{Begin, at_time, nowhere, resume_after, start_after}
use Rattle.mg_players.specs.Causes.{Course, places_of}
use Rattle.mg_jobs.specs.Completing.{IsThere, MayBegin, positions_at}
use Rattle.mg_jobs.specs.Fated.{AreItsSteps}
use Rattle.mg_players.specs.Follows.{IsArgsFor, options_of, stages_of, start_of}
use Rattle.mg_jobs.specs.Own.{IsOwnToken, of_batch, of_event, to_resume, to_start}
use Rattle.mg_players.specs.Sends.{IsCommandOf}
use Rattle.mg_jobs.proofs.Hearing.{IsTold, killing_told, left_id, left_is, more_told, opening_told}
use Rattle.mg_jobs.proofs.Mild.{IsMildCommand}
use Rattle.mg_jobs.proofs.OpeningRead.{FitsSize, is_resumed, reads_watch}
use Rattle.mg_jobs.proofs.OpeningTaken.{answered, begins, fits_size, opening_taken, short_space, takes}
use Rattle.mg_players.proofs.Prompting.{lawful_at}
use Rattle.mg_jobs.proofs.StepsAt.{later_place}
use Rattle.mg_jobs.proofs.StoreRuns.{modest_at, ruled_at, stored_at}
use Rattle.mg_jobs.proofs.Tokened.{AreTokened, IsTokened, batch_tokened}
use Rattle.mg_jobs.proofs.WatchStands.{StandsFor}
use Rattle.mg_jobs.proofs.WatchTaken.{few_ids, kill_answered, kill_taken, more_answered, more_reads, more_taken, sized, watch_taken}

-- ---- tokens

-- the token of a place that is there is that of a place
named_some : (n place : ℕ) → place ≤ n → (q : ℕ) × (token_place n (token_of place) ≡ Some q)
unfolding token_place
named_some zero place within =
    let none : place ≡ 0 = omega (arith, within) in
    (0, ap (λ (b : Bool). if b then Some 0 else None) (ap (λ (k : ℕ). is_same (token_of k) (token_of 0)) none ∙ is_same_self (token_of 0)))
named_some (suc n) place within =
    elim (cases_Bool (is_same (token_of place) (token_of (suc n)))) [
      | inl same ↦ (suc n, ap (λ (b : Bool). if b then Some (suc n) else token_place n (token_of place)) same)
      | inr other ↦ elim (cases_lt n place) [
        | inl above ↦
            let last : place ≡ suc n = omega (arith, within, above) in
            let bad : true ≡ false = sym (ap (λ (k : ℕ). is_same (token_of k) (token_of (suc n))) last ∙ is_same_self (token_of (suc n))) ∙ other in
            absurd cc
        | inr below ↦ (let q = named_some n place below in (q.0, ap (λ (b : Bool). if b then Some (suc n) else token_place n (token_of place)) other ∙ q.1))
      ]
    ]

pub place_there : (s : State) (place : ℕ) (token : Tree) → token ≡ token_of place → place ≤ length s.changes → IsThere s (after token)
place_there s place token is within = subst (λ (t : Tree). IsThere s (after t)) (sym is) (named_some (length s.changes) place within)

starts_behind : (on : Target) (start : Begin) (batch : Option ℕ) (token : Tree) → (options_of on start batch).start_after ≡ Some token → start_of start ≡ after token
starts_behind on nowhere batch token is = absurd cc
starts_behind on (resume_after t) batch token is = absurd cc
starts_behind on (start_after t) batch token is = ap after (same_some t token is)
starts_behind on (at_time seconds increment) batch token is = absurd cc

resumes_behind : (on : Target) (start : Begin) (batch : Option ℕ) (token : Tree) → (options_of on start batch).resume_after ≡ Some token → start_of start ≡ after token
resumes_behind on nowhere batch token is = absurd cc
resumes_behind on (resume_after t) batch token is = ap after (same_some t token is)
resumes_behind on (start_after t) batch token is = absurd cc
resumes_behind on (at_time seconds increment) batch token is = absurd cc

tokened_at : (upto k : ℕ) (events : List (List ℕ)) (event : List ℕ) → AreTokened upto (map fields events) → slice_get events k ≡ Some event → IsTokened upto (fields event)
tokened_at upto k [] event t there = absurd cc
tokened_at upto zero (e ∷ events) event t there = let same : e ≡ event = cc in subst (λ (x : List ℕ). IsTokened upto (fields x)) same t.0
tokened_at upto (suc k) (e ∷ events) event t there = tokened_at upto k events event t.1 there

-- ---- what was heard

-- the reply to a command at one of these places
pub record HeardIn (calls : List Call) (history : List Step) (on : Target) (places : List ℕ) (bytes : List ℕ) : Type 0 where
  pub place : ℕ
  pub of : IsOf places place
  pub call : Call
  pub there : slice_get calls place ≡ Some call
  pub position : ℕ
  pub position_is : call.position ≡ Some position
  pub step : Step
  pub stands : slice_get history position ≡ Some step
  pub told : IsTold (length (state_of (take position history)).changes) on bytes

pub heard_among : (calls : List Call) (history : List Step) (on : Target) (places all : List ℕ) → ((p : ℕ) → IsOf places p → IsOf all p) → (bytes : List ℕ) → HeardIn calls history on places bytes → HeardIn calls history on all bytes
heard_among calls history on places all sub bytes h = record {
  place = h.place;
  of = sub h.place h.of;
  call = h.call;
  there = h.there;
  position = h.position;
  position_is = h.position_is;
  step = h.step;
  stands = h.stands;
  told = h.told;
}

module _ (history : List Kept) (fates : List Fate) (kept : AreKept 0 fates) (calls : List Call) (pended : List ℕ) (as_fates : AreAsFates history fates calls pended) (stands : Stands calls (steps_of history)) (alone : AreItsSteps history calls)
    (ruled : AreByRules history) (mild : (p : ℕ) (k : Kept) → slice_get history p ≡ Some k → IsMildCommand (fields k.command)) (legal : IsLegal (steps_of history)) (prompt : HoldsBackNone (steps_of history))
    (c : Course) (i : ℕ) (on : Target) (start : Begin) (filter : Option Fields) (batch : Option ℕ) (small : SizePasses batch → ⊥) (may : MayBegin c i calls (steps_of history) on start filter) where
  abbrev steps : List Step
  steps = steps_of history

  abbrev state_at : ℕ → State
  state_at p = state_of (take p steps)

  few : FitsSize batch
  few = fits_size batch small

  -- A command of it with its step.
  pub record IsSent (place : ℕ) (call : Call) (p : ℕ) (step : Step) : Type 0 where
    pub there : slice_get calls place ≡ Some call
    pub position_is : call.position ≡ Some p
    pub at : slice_get (steps_of history) p ≡ Some step
    pub same_command : step.command ≡ call.command
    pub own : Contains (positions_at calls (places_of c i)) p
    pub may_send : IsCommandOf (IsArgsFor on start filter batch) (fields call.command)

  -- It was not refused, and the reply tells what is there.
  pub record IsFine (p : ℕ) (step : Step) : Type 0 where
    pub taken : IsRefused (told_at step) → ⊥
    pub told : IsTold (length (state_of (take p (steps_of history))).changes) on step.reply

  within_at : (p : ℕ) (step : Step) → slice_get steps p ≡ Some step → p ≤ length steps
  within_at p step at = let less = get_within steps p step at in omega (arith, less)

  ids_at : (p : ℕ) (step : Step) → slice_get steps p ≡ Some step → (k : ℕ) (e : Entry) → slice_get (state_at p).changes k ≡ Some e → get (codes "_id") e.event ≡ Some e.token
  ids_at p step at k e there = ((lawful_at steps p step legal at).numbered k e there).id

  tokened_in : (p : ℕ) (step : Step) → slice_get steps p ≡ Some step → (w : Watch) (from upto : ℕ) → AreTokened (length (state_at p).changes) (batch_events w (state_at p).changes from upto)
  tokened_in p step at w from upto = batch_tokened w (state_at p).changes from upto (stored_at history fates kept calls pended as_fates stands alone ruled mild legal prompt p (within_at p step at)) (ids_at p step at)

  -- ---- an aggregate

  pub aggregate_fine : (place : ℕ) (call : Call) (p : ℕ) (step : Step) → IsSent place call p step → (again : Begin) → fields call.command ≡ watch_command on (stages_of filter) (options_of on again batch) → IsThere (state_at p) (start_of again) → IsFine p step
  aggregate_fine place call p step sent again is there =
      let s = state_at p in
      let r = ruled_at history fates kept calls pended as_fates stands alone ruled mild legal prompt p step sent.at in
      let modest = modest_at history fates kept calls pended as_fates stands alone ruled mild legal prompt p (within_at p step sent.at) in
      let here : fields step.command ≡ watch_command on (stages_of filter) (options_of on again batch) = ap fields sent.same_command ∙ is in
      let w : Watch = record { target = on; filter = may.watch.filter } in
      let from = begins s r.given modest w again there in
      let reads : request_of (fields step.command) ≡ Ok (watch w (start_of again) (is_resumed again) batch) = ap request_of here ∙ reads_watch on again filter batch may.watch.filter (takes on may.short) few may.watches.by in
      let fit = short_space on may.short in
      let upto = batch_place w s.changes from.0 (size_of batch) in
      let ended = ends_watch w s.changes from.0 upto in
      let events = batch_events w s.changes from.0 upto in
      let replied : fields step.reply ≡ watch_reply s (pos (suc r.given)) w from.0 (size_of batch) = r.read ∙ ap (λ (a : Answer). a.reply) (answered s r.given modest w (fields step.command) (start_of again) (is_resumed again) batch from.0 fit.0 fit.1 reads from.1) in
      record {
        taken = opening_taken s r.given modest step.command step.reply on again filter batch may.watch.filter may.short few may.watches.by there here r.read;
        told = opening_told (length s.changes) on step.reply (left_id ended (suc r.given)) events upto (length s.changes) (request_reads (fields step.command) (watch w (start_of again) (is_resumed again) batch) reads).named
            (replied ∙ ap (λ (id : ℤ). opened_reply id (watch_space on) events upto (length s.changes)) (left_is ended (suc r.given)))
            (batch_within w s.changes from.0 (size_of batch) (place_fits s w (start_of again) (is_resumed again) from.0 from.1)).1 (tokened_in p step sent.at w from.0 upto);
      }

  -- ---- a getMore

  pub more_fine : (place : ℕ) (call : Call) (p : ℕ) (step : Step) → IsSent place call p step → (n : ℕ) → fields call.command ≡ next_command (pos n) (watch_space on) (sized batch) → (w : Watch) → w.target ≡ on → StandsFor (state_at p) (pos n) w → IsFine p step
  more_fine place call p step sent n is w aims stood =
      let s = state_at p in
      let r = ruled_at history fates kept calls pended as_fates stands alone ruled mild legal prompt p step sent.at in
      let modest = modest_at history fates kept calls pended as_fates stands alone ruled mild legal prompt p (within_at p step sent.at) in
      let reads : request_of (fields step.command) ≡ Ok (more (pos n) (watch_space on) (some_size batch)) = ap request_of (ap fields sent.same_command ∙ is) ∙ more_reads n (watch_space on) batch (watch_taken on may.short) few in
      let upto = batch_place w s.changes stood.from (size_of (some_size batch)) in
      let ended = ends_watch w s.changes stood.from upto in
      let events = batch_events w s.changes stood.from upto in
      let replied = r.read ∙ ap (λ (a : Answer). a.reply) (more_answered s r.given modest on may.short (pos n) w aims stood (some_size batch) (fields step.command) reads) in
      record {
        taken = more_taken s r.given modest on may.short (pos n) w aims stood (some_size batch) step.command step.reply reads r.read;
        told = more_told (length s.changes) on step.reply (left_id ended n) events upto (request_reads (fields step.command) (more (pos n) (watch_space on) (some_size batch)) reads).named.0
            (replied ∙ ap (λ (id : ℤ). gave_reply id (watch_space on) events upto) (left_is ended n))
            (batch_within w s.changes stood.from (size_of (some_size batch)) stood.within).1 (tokened_in p step sent.at w stood.from upto);
      }

  -- ---- a killing

  pub kill_fine : (place : ℕ) (call : Call) (p : ℕ) (step : Step) → IsSent place call p step → (o : Option ℕ) → fields call.command ≡ kill_command (watch_space on) (few_ids o) → IsFine p step
  kill_fine place call p step sent o is =
      let s = state_at p in
      let r = ruled_at history fates kept calls pended as_fates stands alone ruled mild legal prompt p step sent.at in
      let here : fields step.command ≡ kill_command (watch_space on) (few_ids o) = ap fields sent.same_command ∙ is in
      let names = watch_taken on may.short in
      record {
        taken = kill_taken s r.given step.command step.reply (watch_space on) o names here r.read;
        told = killing_told (length s.changes) on step.reply s (few_ids o) (r.read ∙ ap (λ (a : Answer). a.reply) (kill_answered s r.given (fields step.command) (watch_space on) o names here));
      }

  -- ---- tokens that it knows

  -- the calls at these places took effect before this position
  abbrev pub AreBefore : List ℕ → ℕ → Type 0
  AreBefore places p = (place : ℕ) (call : Call) (q : ℕ) → IsOf places place → slice_get calls place ≡ Some call → call.position ≡ Some q → q < p

  further : (p q place : ℕ) → p < q → q ≤ length steps → place ≤ length (state_at p).changes → place ≤ length (state_at q).changes
  further p q place less upto within =
      let later = later_place steps legal p q (omega (arith, less)) upto in
      let long = ap length later.changes in
      let both = length-append (state_at p).changes later.more in
      omega (arith, within, long, both)

  pub token_there : (places : List ℕ) (place : ℕ) (call : Call) (p : ℕ) (step : Step) → IsSent place call p step → AreBefore places p → (o : ChangeStreamOptions) (token : Tree) → o ≡ options_of on start batch → IsOwnToken (HeardIn calls steps on places) o token → IsThere (state_at p) (after token)
  token_there places place call p step sent before o token is (to_start starts) =
      subst (IsThere (state_at p)) (may.watches.from_is ∙ starts_behind on start batch token (ap (λ (x : ChangeStreamOptions). x.start_after) (sym is) ∙ starts)) (may.there p step sent.own sent.at)
  token_there places place call p step sent before o token is (to_resume resumes) =
      subst (IsThere (state_at p)) (may.watches.from_is ∙ resumes_behind on start batch token (ap (λ (x : ChangeStreamOptions). x.resume_after) (sym is) ∙ resumes)) (may.there p step sent.own sent.at)
  token_there places place call p step sent before o token is (of_batch b) =
      let h = b.in_reply in
      let t = h.told.cursor b.cursor b.says in
      place_there (state_at p) t.place token (same_some token (token_of t.place) (sym b.token_is ∙ t.token_is)) (further h.position p t.place (before h.place h.call h.position h.of h.there h.position_is) (within_at p step sent.at) t.within)
  token_there places place call p step sent before o token is (of_event event b id) =
      let h = b.in_reply in
      let t = tokened_at (length (state_at h.position).changes) b.place b.events event (h.told.events b.events b.holds) b.there in
      place_there (state_at p) t.place token (same_some token (token_of t.place) (sym id ∙ t.id)) (further h.position p t.place (before h.place h.call h.position h.of h.there h.position_is) (within_at p step sent.at) t.within)
