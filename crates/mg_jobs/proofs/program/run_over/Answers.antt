use Rattle.std.proofs.Common.{◌≡◌, ◌+◌, ℕ, ℤ, List, [], ◌∷◌, Some, ap, arith, length, sym, ◌∙◌, refl, subst}
use Rattle.std.specs.Prelude.{slice_get}
use Rattle.std.specs.List.{sum_by}
use Rattle.std.proofs.lemmas.List.Sums.{sum_by-cons}
use Rattle.std.proofs.Math.Path.{fun_ext}
use Rattle.mg_link.specs.Ids.{counted_id}
use Rattle.mg_server.specs.History.{IsLegal}
use Rattle.mg_server.specs.Kept.{IsByRules, state_of_kept, steps_of}
use Rattle.mg_link.specs.Log.{Call}
use Rattle.mg_server.specs.Owner.{NamesItsOwn}
use Rattle.mg_link.specs.Places.{out_at, polls_in}
use Rattle.mg_server.specs.Prompt.{HoldsBackNone}
use Rattle.mg_server.specs.Standing.{Stands}
use Rattle.mg_server.proofs.Owners.{same_some}
use Rattle.mg_server.proofs.Runs.{names_none_at_first}
use Rattle.mg_store.specs.InMemory.{AreAsFates, AreKept, InMemory, IsPromptLink, pends_in}
use Rattle.mg_store.specs.Stored.{AreOpen}
use Rattle.mg_store.specs.declared.fate.Fate.{Fate}
use Rattle.mg_link.specs.Link.{LogTold}
use Rattle.mg_jobs.specs.Completing.{JobWell}
use Rattle.mg_turns.specs.Counts.{AreNoted, StartedBy}
use Rattle.mg_jobs.specs.Fated.{AreItsSteps}
use Rattle.mg_players.specs.Progress.{AllPlayed, IsPlayed, pends_last, turns_done}
use Rattle.mg_jobs.specs.Grammar.{NeverGarbled}
use Rattle.mg_players.specs.Blaming.{GetsBehind}
use Rattle.mg_players.specs.Causes.{AllPollOwn, AllWaitAlone, Course, OutcomeCaused, course}
use Rattle.mg_players.specs.Drawing.{as_sent, supplied, supply_of}
use Rattle.mg_players.specs.Headline.{OutcomeFiled, OutcomeFollowed}
use Rattle.mg_players.specs.Owned.{NamesNoOthers}
use Rattle.mg_jobs.specs.Program.{script_ids, script_supply}
use Rattle.mg_players.specs.Puts.{Supply}
use Rattle.mg_players.specs.Sends.{MaySend, SendsOnly}
use Rattle.mg_script.specs.Plan.{Task, tasks}
use Rattle.mg_script.specs.declared.outcome.Outcome.{Outcome}
use Rattle.mg_turns.specs.declared.turned.Turned.{Turned}
use Rattle.mg_script.specs.declared.script.Job.{Job}
use Rattle.mg_players.proofs.Drawing.{played_as_sent, sent_same}
use Rattle.mg_jobs.proofs.Created.{creations_meet}
use Rattle.mg_jobs.proofs.Positions.{answered_well}
use Rattle.mg_jobs.proofs.Refusing.{run_mildly}
use Rattle.mg_jobs.proofs.RunTaken.{run_ends_in, run_takes, tasks_counted}
use Rattle.mg_turns.proofs.Tallies.{noted_rose, turns_counted}
use Rattle.mg_jobs.proofs.program.run_over.Goals as goal

zero_more : (k : ℕ) → 0 + k ≡ k
zero_more k = omega arith

-- the notes count all that was started
notes_started : (notes : List Turned) (old new : LogTold) (before now : ℕ) → AreNoted notes old new before now → StartedBy (sum_by (λ (n : Turned). n.started) notes) old new
notes_started [] old new before now noted calls told = (calls, noted.0 ∙ told, (let none : sum_by (λ (n : Turned). n.started) [] ≡ 0 = refl in omega (arith, none)))
notes_started (note ∷ notes) old new before now noted calls told =
    let one = noted.2 calls told in
    let more = notes_started notes noted.0 new noted.1 now noted.5 one.0 one.1 in
    let sum = sum_by-cons (λ (n : Turned). n.started) note notes in
    (more.0, more.1, (let first = one.2 in let rest = more.2 in omega (arith, first, rest, sum)))

-- a link over which nothing was sent is prompt where every fate keeps its command
prompt_first : (fates : List Fate) → AreKept 0 fates → IsPromptLink fates [] []
prompt_first fates kept = record { later = kept; waits = λ k call n there pended waits. absurd cc }

pub returns-clause-followed : goal.returns-clause-followed
returns-clause-followed g c =
    let begins = ap (λ m. Some m.calls) c.new-link.ensures ∙ ap Some c.requires.unused in
    let f = c.in_ok-played.ensures.followed [] begins in
    let told = c.in_ok-played.ensures.caused [] begins in
    let same : told.0 ≡ f.0 = same_some told.0 f.0 (sym told.1 ∙ f.1) in
    let wire = ap (λ m. m.wire) c.new-link.ensures ∙ c.requires.wire in
    let jobs = c.as_slice.ensures.value in
    let link = c.into_link.result in
    let calls = ap (λ m. m.calls) c.into_link.ensures.link ∙ same_some c.run_jobs.new.link.calls f.0 f.1 in
    let stored = sym c.into_parts-store.ensures.store in
    let notes = c.in_ok-played.played.turns.items in
    let drawn : ℕ → List ℕ = λ k. counted_id c.new-ids.result.prefix (c.new-ids.result.next + k) in
    let same_ids : (k : ℕ) → drawn k ≡ script_ids c.args.script k =
    λ k. ap (λ m. counted_id m.prefix (m.next + k)) c.new-ids.ensures ∙ ap (λ n. counted_id c.prefix_of.result n) (zero_more k) ∙ ap (λ p. counted_id p k) c.prefix_of.ensures in
    let unpolled = ap (λ m. pends_in m.pended) c.new-link.ensures ∙ ap pends_in c.requires.unpolled in
    let noted : AreNoted notes (Some []) (Some f.0) 0 (pends_in link.pended) =
    subst (λ (n : ℕ). AreNoted notes (Some []) (Some f.0) 0 n) (sym (ap (λ m. pends_in m.pended) c.into_link.ensures.link))
    (subst (λ (n : ℕ). AreNoted notes (Some []) (Some f.0) n (pends_in c.run_jobs.new.link.pended)) unpolled
    (subst (λ (l : LogTold). AreNoted notes l (Some f.0) (pends_in c.new-link.result.pended) (pends_in c.run_jobs.new.link.pended)) begins
    (subst (λ (l : LogTold). AreNoted notes (Some c.new-link.result.calls) l (pends_in c.new-link.result.pended) (pends_in c.run_jobs.new.link.pended)) f.1 c.in_ok-played.ensures.noted))) in
    let history = c.into_parts-store.result.0.history in
    let rules : IsByRules history = subst (λ s. IsByRules s.history) stored c.into_parts-store.ensures.by_rules in
    let legal : IsLegal (steps_of history) = subst (λ s. IsLegal (steps_of s.history)) stored c.into_parts-store.ensures.legal in
    let stands : Stands f.0 (steps_of history) = subst (λ l. Stands l (steps_of history)) calls (subst (λ s. Stands link.calls (steps_of s.history)) stored c.into_parts-store.ensures.stands) in
    let holds : HoldsBackNone (steps_of history) = subst (λ s. HoldsBackNone (steps_of s.history)) stored c.into_parts-store.ensures.prompt in
    let script = c.args.script in
    let fates = g.F.Fated.fates in
    let here : Course = course [] script.order.items notes in
    let sent : ℕ → Task → Task = λ i t. as_sent (script_ids script) (tasks script.jobs.items) script.order.items i t in
    let drawn_is : drawn ≡ script_ids script = fun_ext same_ids in
    let own_by : (ℕ → List ℕ) → List Task → List ℕ → ℕ → Supply = λ ids ts order i. supply_of (supplied ids script.moment.millis) ts order i in
    let own : ℕ → Supply = λ i. own_by (script_ids script) (tasks script.jobs.items) script.order.items i in
    let caused_is : (i : ℕ) (t : Task) (r : Outcome) → slice_get (tasks script.jobs.items) i ≡ Some t → slice_get c.in_ok-played.played.outcomes.items i ≡ Some r → OutcomeCaused (out_at f.0) here i f.0 script.wire (own i) (sent i t) r = λ i t r ht hr.
    let waits = out_at c.run_jobs.new.link.calls in
    subst (λ (l : List Call). OutcomeCaused (out_at l) (course [] script.order.items notes) i f.0 script.wire (own i) (as_sent (script_ids script) (tasks script.jobs.items) script.order.items i t) r) (same_some c.run_jobs.new.link.calls f.0 f.1)
    (subst (λ (ids : ℕ → List ℕ). OutcomeCaused waits (course [] script.order.items notes) i f.0 script.wire (own_by ids (tasks script.jobs.items) script.order.items i) (as_sent ids (tasks script.jobs.items) script.order.items i t) r) drawn_is
    (subst (λ (w : ℤ). OutcomeCaused waits (course [] script.order.items notes) i f.0 w (own_by drawn (tasks script.jobs.items) script.order.items i) (as_sent drawn (tasks script.jobs.items) script.order.items i t) r) wire
    (subst (λ (l : List Call). OutcomeCaused waits (course [] script.order.items notes) i l c.new-link.result.wire (own_by drawn (tasks script.jobs.items) script.order.items i) (as_sent drawn (tasks script.jobs.items) script.order.items i t) r) same
    (subst (λ (js : List Job). OutcomeCaused waits (course [] script.order.items notes) i told.0 c.new-link.result.wire (own_by drawn (tasks js) script.order.items i) (as_sent drawn (tasks js) script.order.items i t) r) jobs
    (subst (λ (o : List ℕ). OutcomeCaused waits (course [] o notes) i told.0 c.new-link.result.wire (own_by drawn (tasks c.as_slice.result.now) o i) (as_sent drawn (tasks c.as_slice.result.now) o i t) r) c.as_slice-2.ensures.value (told.2 i t r (ap (λ l. slice_get (tasks l) i) jobs ∙ ht) hr)))))) in
    let as_fates_is : AreAsFates history fates f.0 link.pended = subst (λ l. AreAsFates history fates l link.pended) calls
    (subst (λ fates. AreAsFates history fates link.calls link.pended) c.into_link.ensures.fates
    (subst (λ s. AreAsFates s.history link.fates link.calls link.pended) stored c.into_parts-store.ensures.fates)) in
    let sends_is : (i : ℕ) (t : Task) → slice_get (tasks script.jobs.items) i ≡ Some t → SendsOnly (MaySend (own i) (sent i t)) here i f.0 = λ i t ht.
    let sent = c.in_ok-played.ensures.sends [] begins in
    subst (λ (ids : ℕ → List ℕ). SendsOnly (MaySend (own_by ids (tasks script.jobs.items) script.order.items i) (as_sent ids (tasks script.jobs.items) script.order.items i t)) (course [] script.order.items notes) i f.0) drawn_is
    (subst (λ (l : List Call). SendsOnly (MaySend (own_by drawn (tasks script.jobs.items) script.order.items i) (as_sent drawn (tasks script.jobs.items) script.order.items i t)) (course [] script.order.items notes) i l) (same_some sent.0 f.0 (sym sent.1 ∙ f.1))
    (subst (λ (js : List Job). SendsOnly (MaySend (own_by drawn (tasks js) script.order.items i) (as_sent drawn (tasks js) script.order.items i t)) (course [] script.order.items notes) i sent.0) jobs
    (subst (λ (o : List ℕ). SendsOnly (MaySend (own_by drawn (tasks c.as_slice.result.now) o i) (as_sent drawn (tasks c.as_slice.result.now) o i t)) (course [] o notes) i sent.0) c.as_slice-2.ensures.value (sent.2 i t (ap (λ l. slice_get (tasks l) i) jobs ∙ ht))))) in
    let well_is : AreKept 0 fates → (i : ℕ) (t : Task) (r : Outcome) → slice_get (tasks script.jobs.items) i ≡ Some t → slice_get c.in_ok-played.played.outcomes.items i ≡ Some r → JobWell here i f.0 (sent i t) r = λ kept i t r ht hr.
    let prompt : IsPromptLink c.new-link.result.fates c.new-link.result.calls c.new-link.result.pended = subst (λ (m : InMemory). IsPromptLink m.fates m.calls m.pended) (sym c.new-link.ensures)
    (subst (λ (fs : List Fate). IsPromptLink fs c.args.link.calls c.args.link.pended) (sym c.requires.fated) (subst (λ (l : List Call). IsPromptLink fates l c.args.link.pended) (sym c.requires.unused) (subst (λ (ps : List ℕ). IsPromptLink fates [] ps) (sym c.requires.unpolled) (prompt_first fates kept)))) in
    let ends = c.in_ok-played.ensures.complete prompt [] begins in
    subst (λ (s : Task). JobWell (course [] script.order.items notes) i f.0 s r) (sent_same (script_ids script) drawn (tasks script.jobs.items) script.order.items i t same_ids)
    (subst (λ (l : List Call). JobWell (course [] script.order.items notes) i l (as_sent drawn (tasks script.jobs.items) script.order.items i t) r) (same_some ends.0 f.0 (sym ends.1 ∙ f.1))
    (subst (λ (js : List Job). JobWell (course [] script.order.items notes) i ends.0 (as_sent drawn (tasks js) script.order.items i t) r) jobs
    (subst (λ (o : List ℕ). JobWell (course [] o notes) i ends.0 (as_sent drawn (tasks c.as_slice.result.now) o i t) r) c.as_slice-2.ensures.value (ends.2 i t r (ap (λ l. slice_get (tasks l) i) jobs ∙ ht) hr)))) in
    let alone_is : AreItsSteps history f.0 = subst (λ l. AreItsSteps history l) calls (subst (λ s. AreItsSteps s.history link.calls) stored c.into_link.ensures.steps) in
    let rows_is : AllPlayed (tasks script.jobs.items) script.order.items notes c.in_ok-played.played.outcomes.items = subst (λ (o : List ℕ). AllPlayed (tasks c.args.script.jobs.items) o notes c.in_ok-played.played.outcomes.items) c.as_slice-2.ensures.value
    (subst (λ l. AllPlayed (tasks l) c.as_slice-2.result.now notes c.in_ok-played.played.outcomes.items) jobs c.in_ok-played.ensures.rows) in
    let notes_is : length notes ≡ length script.order.items = c.in_ok-played.ensures.turns ∙ ap length c.as_slice-2.ensures.value in
    let started : StartedBy (sum_by (λ (n : Turned). n.started) notes) (Some []) (Some f.0) = notes_started notes (Some []) (Some f.0) 0 (pends_in link.pended) noted in
    let played_is : (i : ℕ) (t : Task) (r : Outcome) → slice_get (tasks script.jobs.items) i ≡ Some t → slice_get c.in_ok-played.played.outcomes.items i ≡ Some r → IsPlayed (sent i t) (turns_done i script.order.items notes) (pends_last i script.order.items notes) r = λ i t r ht hr.
    played_as_sent (script_ids script) (tasks script.jobs.items) script.order.items i t (turns_done i script.order.items notes) (pends_last i script.order.items notes) r (rows_is i t r ht hr) in
    let own_is : NamesItsOwn f.0 = f.3 names_none_at_first in
    let names_is : (i : ℕ) → NamesNoOthers f.0 here i = λ i.
    let names = c.in_ok-played.ensures.names [] begins in
    subst (λ (l : List Call). NamesNoOthers l (course [] script.order.items notes) i) (same_some names.0 f.0 (sym names.1 ∙ f.1))
    (subst (λ (o : List ℕ). NamesNoOthers names.0 (course [] o notes) i) c.as_slice-2.ensures.value (names.2 i)) in
    let behind_is : GetsBehind here f.0 (tasks script.jobs.items) c.in_ok-played.played.outcomes.items =
    let behind = c.in_ok-played.ensures.behind [] begins in
    let outcomes = c.in_ok-played.played.outcomes.items in
    subst (λ (l : List Call). GetsBehind (course [] script.order.items notes) l (tasks script.jobs.items) outcomes) (same_some behind.0 f.0 (sym behind.1 ∙ f.1))
    (subst (λ (js : List Job). GetsBehind (course [] script.order.items notes) behind.0 (tasks js) outcomes) jobs
    (subst (λ (o : List ℕ). GetsBehind (course [] o notes) behind.0 (tasks c.as_slice.result.now) outcomes) c.as_slice-2.ensures.value behind.2)) in
    let grammar_is : (i : ℕ) (r : Outcome) → slice_get c.in_ok-played.played.outcomes.items i ≡ Some r → NeverGarbled f.0 r = λ i r hr.
    let kept = c.in_ok-played.ensures.grammar [] begins in
    subst (λ (l : List Call). NeverGarbled l r) (same_some kept.0 f.0 (sym kept.1 ∙ f.1)) (kept.2 i r hr) in
    let outcomes_is : length c.in_ok-played.played.outcomes.items ≡ length (tasks script.jobs.items) = c.in_ok-played.ensures.outcomes ∙ ap length jobs ∙ sym (tasks_counted script.jobs.items) in
    record {
      calls = f.0;
      log_is = c.in_ok-logs.ensures.items ∙ ap (λ l. l ∷ []) (c.into_parts-store.ensures.calls ∙ calls);
      by_rules = rules;
      legal = legal;
      cursors = subst (λ s. AreOpen (state_of_kept s.history) s.open_ids) stored c.into_parts-store.ensures.cursors;
      stands = stands;
      alone = alone_is;
      followed = λ i t r ht hr. subst (λ (o : List ℕ). OutcomeFollowed (course [] o c.in_ok-played.played.turns.items) i f.0 t r) c.as_slice-2.ensures.value (f.2 i t r (ap (λ l. slice_get (tasks l) i) jobs ∙ ht) hr);
      filed = λ i t r ht hr.
          let filed = c.in_ok-played.ensures.filed [] begins in
          subst (λ (l : List Call). OutcomeFiled (course [] c.args.script.order.items notes) i l t r) (same_some filed.0 f.0 (sym filed.1 ∙ f.1))
          (subst (λ (o : List ℕ). OutcomeFiled (course [] o notes) i filed.0 t r) c.as_slice-2.ensures.value (filed.2 i t r (ap (λ l. slice_get (tasks l) i) jobs ∙ ht) hr));
      behind = behind_is;
      own = own_is;
      turns = c.in_ok-played.played.turns;
      turns_are = c.in_ok-turns.ensures.items;
      caused = caused_is;
      grammar = grammar_is;
      fates = fates;
      fates_are = c.requires.fates;
      pended = link.pended;
      as_fates = as_fates_is;
      outcomes = c.in_ok-played.ensures.outcomes ∙ ap length jobs;
      rows = rows_is;
      notes = notes_is;
      noted = noted;
      pended_in_turns = let few = c.in_ok-played.played.turns.ok.0 in turns_counted notes (pends_in link.pended) (omega (arith, few)) (noted_rose notes (Some []) (Some f.0) 0 (pends_in link.pended) noted);
      polled =
          let order = c.args.script.order.items in
          subst (λ (ps : List ℕ). AllPollOwn (Some []) order notes (polls_in []) (polls_in ps)) (sym (ap (λ m. m.pended) c.into_link.ensures.link))
          (subst (λ (ps : List ℕ). AllPollOwn (Some []) order notes (polls_in ps) (polls_in c.run_jobs.new.link.pended)) (ap (λ m. m.pended) c.new-link.ensures ∙ c.requires.unpolled)
          (subst (λ (l : LogTold). AllPollOwn l order notes (polls_in c.new-link.result.pended) (polls_in c.run_jobs.new.link.pended)) begins
          (subst (λ (o : List ℕ). AllPollOwn (Some c.new-link.result.calls) o notes (polls_in c.new-link.result.pended) (polls_in c.run_jobs.new.link.pended)) c.as_slice-2.ensures.value c.in_ok-played.ensures.polled)));
      waits_alone =
          let begun = ap (λ m. m.calls) c.new-link.ensures ∙ c.requires.unused in
          subst (λ (l : List Call). AllWaitAlone (out_at l) (out_at f.0) (Some l) c.args.script.order.items notes) begun
          (subst (λ (l : List Call). AllWaitAlone (out_at c.new-link.result.calls) (out_at l) (Some c.new-link.result.calls) c.args.script.order.items notes) (same_some c.run_jobs.new.link.calls f.0 f.1)
          (subst (λ (o : List ℕ). AllWaitAlone (out_at c.new-link.result.calls) (out_at c.run_jobs.new.link.calls) (Some c.new-link.result.calls) o notes) c.as_slice-2.ensures.value c.in_ok-played.ensures.waits_alone));
      sends = sends_is;
      prompt = λ i taken. answered_well (course [] c.args.script.order.items notes) i f.0 (steps_of history) legal stands holds (creations_meet history rules) taken;
      names = names_is;
      well = well_is;
      well_here = λ kept i t r ht hr.
          run_ends_in history fates kept f.0 link.pended as_fates_is stands alone_is rules (run_mildly history f.0 alone_is stands (script_supply script) (tasks script.jobs.items) script.order.items notes c.requires.jobs notes_is started sends_is) legal holds own_is (out_at f.0) script.wire
          (script_supply script) (tasks script.jobs.items) script.order.items notes c.in_ok-played.played.outcomes.items c.requires.jobs notes_is outcomes_is started sends_is names_is caused_is played_is i t r ht hr (well_is kept i t r ht hr);
      taken = λ kept i t ht.
          run_takes history fates kept f.0 link.pended as_fates_is stands alone_is rules (run_mildly history f.0 alone_is stands (script_supply script) (tasks script.jobs.items) script.order.items notes c.requires.jobs notes_is started sends_is) legal holds own_is (out_at f.0) script.wire
          (script_supply script) (tasks script.jobs.items) script.order.items notes c.in_ok-played.played.outcomes.items c.requires.jobs notes_is outcomes_is started sends_is names_is caused_is played_is i t ht;
    }
