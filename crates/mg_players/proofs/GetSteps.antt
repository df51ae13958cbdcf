-- What the steps of a get's finds and getMores tell.
use Rattle.std.proofs.Common.{◌≡◌, ◌≢◌, ◌⊎◌, ◌++◌, ℕ, ℤ, pos, Bool, true, false, List, [], take, Option, Some, None, refl, sym, ap, ◌∙◌, subst, inl, inr, option_map}
use Rattle.std.specs.Prelude.{slice_get, unwrap_or, if◌then◌else◌}
use Rattle.std.specs.Ordering.{int_eq}
use Rattle.std.proofs.lemmas.Bool.{cases_Bool}
use Rattle.std.proofs.lemmas.Bool.Decides.{Decides-int_eq}
use Rattle.mg_bson.specs.Raw.{fields}
use Rattle.mg_bson.specs.Tree.{Fields, Tree}
use Rattle.mg_server.specs.Calls.{HeardBy, Past}
use Rattle.mg_server.specs.Commands.{Asked, Batch, Told, asked, asks_more, asks_query, batch_of, garbled, gave_by, opened, opened_by, time_in, told_by}
use Rattle.mg_link.specs.Exec.{IsSuccess}
use Rattle.mg_server.specs.History.{IsLegal, Step, state_of, step_after, told_at}
use Rattle.mg_link.specs.Log.{Call, Sight, reply}
use Rattle.mg_link.specs.Namespace.{Space}
use Rattle.mg_server.specs.Prompt.{AnswersAtOnce, HoldsNothingBack, IsPrompt}
use Rattle.mg_server.specs.Query.{Query, result}
use Rattle.mg_server.specs.Standing.{OpensId, SeenFits, Stands}
use Rattle.mg_server.specs.State.{Cursor, State, give, put_cursor, query, watching}
use Rattle.mg_server.specs.Step.{MayGoOn, MayGoThrough, MayTell, effect, grown, queried_at}
use Rattle.mg_link.specs.declared.reply.Verdict.TheVariants as verdict
use Rattle.mg_server.proofs.Heard.{giving_heard, more_spoiled, told_heard}
use Rattle.mg_server.proofs.Watched.{no_zero}
use Rattle.mg_players.specs.Reading.{AreAmong, IsQueried}
use Rattle.mg_players.proofs.Prompting.{IsLawful, IsPrompted, may_tell, prompted, told_so}
use Rattle.mg_players.proofs.Queried.{IsQuerying, stays_query}

-- ---- the step of a command whose reply was heard

pub record TookStep (history : List Step) (command : Fields) (bytes : List ℕ) (call : Call) : Type 0 where
  pub position : ℕ
  pub placed : call.position ≡ Some position
  pub step : Step
  pub there : slice_get history position ≡ Some step
  pub command_is : fields step.command ≡ command
  pub reply_is : bytes ≡ step.reply

pub took : (past : Past) (history : List Step) → Stands past.calls history → (command : Fields) (bytes : List ℕ) (h : HeardBy past command (reply bytes)) → TookStep history command bytes h.heard.call
took past history stands command bytes h =
    let p = stands.placed h.place h.heard.call bytes h.heard.there h.heard.has_seen in
    let s = stands.same h.place h.heard.call p.0 h.heard.there p.1 in
    record {
      position = p.0;
      placed = p.1;
      step = s.0;
      there = s.1;
      command_is = ap fields s.2 ∙ h.heard.command_is;
      reply_is = subst (λ (x : Sight). SeenFits x s.0.reply) h.heard.has_seen s.3;
    }

-- ---- a query

never_garbled : (step : Step) (l : IsLawful step) → told_at step ≡ garbled → ⊥
never_garbled step l is = subst (λ (t : Told). MayTell l.before (grown l.before step.made) (asked step.command) t step.made) is l.may.tells

-- the step gave the first batch of the query
pub record OpensBatch (step : Step) (before : State) (q : Query) : Type 0 where
  pub batch : Batch
  pub there : batch_of (fields step.reply) ≡ Some batch
  pub said : told_at step ≡ opened_by (time_in (fields step.reply)) batch
  pub left : List Fields
  pub these : result (grown before step.made) q ≡ Some (batch.events ++ left)

pub query_opens : (step : Step) (l : IsLawful step) → IsSuccess step.reply → (q : Query) → asked step.command ≡ asks_query q → OpensBatch step l.before q
query_opens step l success q asks = by_batch (batch_of (fields step.reply)) refl
  where
    told_it : (o : Option Batch) → batch_of (fields step.reply) ≡ o → told_at step ≡ unwrap_or (option_map (opened_by (time_in (fields step.reply))) o) garbled
    told_it o is = told_so step l verdict.Success success ∙ ap (λ (c : Asked). told_by verdict.Success c (fields step.reply)) asks ∙ ap (λ (b : Option Batch). unwrap_or (option_map (opened_by (time_in (fields step.reply))) b) garbled) is

    by_batch : (o : Option Batch) → batch_of (fields step.reply) ≡ o → OpensBatch step l.before q
    by_batch None is = absurd (never_garbled step l (told_it None is))
    by_batch (Some batch) is =
        let said = told_it (Some batch) is in
        let may = may_tell step l (asks_query q) (opened_by (time_in (fields step.reply)) batch) asks said in
        record { batch = batch; there = is; said = said; left = may.left; these = may.these }

-- what a cursor is does not change what is read
opened_reads : (s : State) (b : Bool) (id : ℤ) (c : Cursor) (q : Query) → result (if b then s else record s { cursors = put_cursor id (Some c) s.cursors; given = give id s.given }) q ≡ result s q
unfolding result
opened_reads s true id c q = refl
opened_reads s false id c q = refl

effect_reads : (s : State) (q : Query) (id : ℤ) (space : Space) (events : List Fields) (token : Option Tree) (time : Option ℕ) → result (effect s (asks_query q) (opened id space events token time)) q ≡ result s q
unfolding effect
effect_reads s q id space events token time = opened_reads s (int_eq id (pos 0)) id (queried_at s q space events) q

pub after_reads : (step : Step) (before : State) (q : Query) → asked step.command ≡ asks_query q → (o : OpensBatch step before q) → result (step_after before step) q ≡ result (grown before step.made) q
after_reads step before q asks o =
    let s : State = grown before step.made in
    let b : Batch = o.batch in
    ap (λ (c : Asked). result (effect s c (told_at step)) q) asks ∙ ap (λ (t : Told). result (effect s (asks_query q) t) q) o.said ∙ effect_reads s q b.id b.space b.events b.token (time_in (fields step.reply))

-- where it was answered at once, it held nothing back
pub query_prompt : (step : Step) (p : IsPrompted step) (q : Query) → asked step.command ≡ asks_query q → (o : OpensBatch step p.before q) → HoldsNothingBack q.size o.batch.id o.batch.events o.left
query_prompt step p q asks o =
    let s' : State = step_after p.before step in
    let said : Told = opened_by (time_in (fields step.reply)) o.batch in
    let prompt : AnswersAtOnce p.before s' (asks_query q) said = subst (λ (c : Asked). AnswersAtOnce p.before s' c said) asks (subst (λ (t : Told). AnswersAtOnce p.before s' (asked step.command) t) o.said p.prompt) in
    prompt o.left (after_reads step p.before q asks o ∙ o.these)

-- it opened the cursor, where there is one
pub query_opened : (step : Step) (before : State) (q : Query) (o : OpensBatch step before q) → o.batch.id ≢ pos 0 → OpensId (told_at step) o.batch.id
query_opened step before q o ne = subst (λ (t : Told). OpensId t o.batch.id) (sym o.said) (refl, ne)

-- ---- a getMore

-- the step gave the next batch of the cursor
pub record GivesBatch (step : Step) (before : State) (id : ℤ) : Type 0 where
  pub batch : Batch
  pub there : batch_of (fields step.reply) ≡ Some batch
  pub said : told_at step ≡ gave_by batch
  pub may : MayGoOn before (grown before step.made) id batch.id batch.events batch.token step.made ⊎ MayGoThrough before id batch.id batch.events step.made

pub more_gives : (step : Step) (l : IsLawful step) → IsSuccess step.reply → (id : ℤ) (space : Space) → asked step.command ≡ asks_more id space → GivesBatch step l.before id
more_gives step l success id space asks = by_batch (batch_of (fields step.reply)) refl
  where
    by_batch : (o : Option Batch) → batch_of (fields step.reply) ≡ o → GivesBatch step l.before id
    by_batch None is = absurd (never_garbled step l (told_heard step step.reply (asks_more id space) asks refl ∙ more_spoiled id space step.reply success is))
    by_batch (Some batch) is =
        let said = giving_heard step id space step.reply batch asks refl (record { success = success; batch_is = is }) in
        record { batch = batch; there = is; said = said; may = may_tell step l (asks_more id space) (gave_by batch) asks said }

-- the cursor goes on, or has ended
pub more_same : (step : Step) (before : State) (id : ℤ) (b : GivesBatch step before id) → (b.batch.id ≡ id) ⊎ (b.batch.id ≡ pos 0)
more_same step before id b = elim b.may [
  | inl watch ↦ watch.same
  | inr through ↦ elim through.same [ inl same ↦ inl same | inr none ↦ inr none.0 ]
]

-- where it was answered at once, a query's cursor has ended behind an empty batch
pub more_over : (step : Step) (p : IsPrompted step) (id : ℤ) (space : Space) → asked step.command ≡ asks_more id space → ((c : Cursor) → p.before.cursors id ≡ Some c → IsQuerying c) → (b : GivesBatch step p.before id) → b.batch.events ≡ [] → b.batch.id ≡ pos 0
more_over step p id space asks only b none = elim b.may [
  | inl watch ↦ absurd (only (watching watch.watch watch.at) watch.stood)
  | inr through ↦ let back = holds through.space through.left through.stood in back.ends (back.some (λ bad. cc) none)
]
  where
    s' : State
    s' = step_after p.before step

    prompt : AnswersAtOnce p.before s' (asks_more id space) (gave_by b.batch)
    prompt = subst (λ (c : Asked). AnswersAtOnce p.before s' c (gave_by b.batch)) asks (subst (λ (t : Told). AnswersAtOnce p.before s' (asked step.command) t) b.said p.prompt)

    holds : (of : Space) (left : List Fields) → p.before.cursors id ≡ Some (query of (b.batch.events ++ left)) → HoldsNothingBack None b.batch.id b.batch.events left
    holds = prompt.1

-- ---- at a position

-- a cursor that a query opened is a query's wherever it stands; that of id 0 stands nowhere
pub query_at : (history : List Step) (position : ℕ) (id : ℤ) → IsLegal history → (id ≢ pos 0 → IsQueried history id) → (c : Cursor) → (state_of (take position history)).cursors id ≡ Some c → IsQuerying c
query_at history position id legal w c stood =
    elim (cases_Bool (int_eq id (pos 0))) [
      | inl none ↦ absurd (no_zero history position c legal (ap (λ (n : ℤ). (state_of (take position history)).cursors n) (sym ((Decides-int_eq id (pos 0)).0 none)) ∙ stood))
      | inr some ↦ stays_query history position id c legal (w (λ z. let is = (Decides-int_eq id (pos 0)).1 z in let bad : true ≡ false = sym is ∙ some in cc)) stood
    ]

-- the step, as one that was answered at once
abbrev pub prompt_at : (past : Past) (history : List Step) (own : List ℕ) → IsLegal history → IsPrompt own history → AreAmong past own → (command : Fields) (bytes : List ℕ) (h : HeardBy past command (reply bytes)) (t : TookStep history command bytes h.heard.call) → IsPrompted t.step
prompt_at past history own legal prompt among command bytes h t = prompted history own t.position t.step legal prompt (among h.place h.heard.call t.position h.heard.own h.heard.there t.placed) t.there
