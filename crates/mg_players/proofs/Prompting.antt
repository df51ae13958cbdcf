-- What replies say that a server gave at once: they are successes, and each event of a batch has an `_id`.
use Rattle.std.proofs.Common.{◌≡◌, ◌≢◌, ◌⊎◌, ℕ, ℤ, pos, suc, false, List, [], ◌∷◌, ◌++◌, Option, Some, None, Contains, refl, sym, ap, ◌∙◌, subst, take, inl, inr}
use Rattle.std.specs.Prelude.{slice_get}
use Rattle.mg_bson.specs.Raw.{fields}
use Rattle.mg_server.specs.Commands.{Asked, Batch, Told, asked, asks_more, asks_other, asks_watch, batch_of, garbled, gave_by, told, told_by}
use Rattle.mg_server.specs.Events.{AsksForEvents, HaveIds}
use Rattle.mg_link.specs.Exec.{IsSuccess}
use Rattle.mg_server.specs.History.{Step, IsLegal, state_of, step_after, told_at}
use Rattle.mg_link.specs.Namespace.{Space}
use Rattle.mg_server.specs.Prompt.{AnswersAtOnce, GivesSome, IsPrompt, MeetsConcern}
use Rattle.mg_link.specs.Reply.{code_of, labels_of, verdict_of}
use Rattle.mg_server.specs.State.{Cursor, query, Start, State, Watch, nothing, watching}
use Rattle.mg_server.specs.Standing.{OpensId}
use Rattle.mg_server.specs.Step.{May, MayTell, grown}
use Rattle.mg_link.specs.declared.reply.Verdict.{Verdict}
use Rattle.mg_link.specs.declared.reply.Verdict.TheVariants as verdict
use Rattle.mg_server.proofs.Fronts.{legal_take}
use Rattle.mg_server.proofs.Heard.{giving_heard, more_spoiled, opening_heard, told_heard, watch_spoiled}
use Rattle.mg_server.proofs.Identified.{batch_ids}
use Rattle.mg_server.proofs.Numbered.{AreNumbered, numbered_of}
use Rattle.mg_server.proofs.Watched.{AsksToWatch, IsWatching}
use Rattle.mg_server.proofs.Owners.{legal_back, legal_front, legal_parts}
use Rattle.mg_ops.specs.Aims.{Aim, asked_for}
use Rattle.mg_link.proofs.Places.{take_more}
use Rattle.mg_players.proofs.Creating.{creates, never_refused}

-- ---- a step of a legal history

pub record IsLawful (step : Step) : Type 0 where
  pub before : State
  pub numbered : AreNumbered before
  pub may : May before (asked step.command) (told_at step) step.made

abbrev pub lawful_at : (history : List Step) (p : ℕ) (step : Step) → IsLegal history → slice_get history p ≡ Some step → IsLawful step
lawful_at history p step legal there =
    let front = subst IsLegal (take_more history p step there) (legal_take nothing (suc p) history legal) in
    record {
      before = state_of (take p history);
      numbered = numbered_of (take p history) (legal_front nothing (take p history) (step ∷ []) front);
      may = (legal_parts (state_of (take p history)) step [] (legal_back nothing (take p history) (step ∷ []) front)).0;
    }

-- ---- a step that was answered at once

pub record IsPrompted (step : Step) : Type 0 where
  pub before : State
  pub numbered : AreNumbered before
  pub may : May before (asked step.command) (told_at step) step.made
  pub prompt : AnswersAtOnce before (step_after before step) (asked step.command) (told_at step)
  pub met : MeetsConcern (asked step.command) step.reply

abbrev pub prompted : (history : List Step) (own : List ℕ) (p : ℕ) (step : Step) → IsLegal history → IsPrompt own history → Contains own p → slice_get history p ≡ Some step → IsPrompted step
prompted history own p step legal prompt is there =
    let front = subst IsLegal (take_more history p step there) (legal_take nothing (suc p) history legal) in
    record {
      before = state_of (take p history);
      numbered = numbered_of (take p history) (legal_front nothing (take p history) (step ∷ []) front);
      may = (legal_parts (state_of (take p history)) step [] (legal_back nothing (take p history) (step ∷ []) front)).0;
      prompt = (prompt p step is there).0;
      met = (prompt p step is there).1;
    }

-- it is one of a legal history
abbrev pub lawful : (step : Step) → IsPrompted step → IsLawful step
lawful step p = record { before = p.before; numbered = p.numbered; may = p.may }

-- ---- what its reply tells

module _ (step : Step) (p : IsLawful step) where
  pub never_garbled : told_at step ≡ garbled → ⊥
  never_garbled is = subst (λ (t : Told). MayTell p.before (grown p.before step.made) (asked step.command) t step.made) is p.may.tells

  pub told_so : (v : Verdict) → verdict_of (fields step.reply) ≡ v → told_at step ≡ told_by v (asked step.command) (fields step.reply)
  unfolding told
  told_so v is = ap (λ (w : Verdict). told_by w (asked step.command) (fields step.reply)) is

-- ---- it is a success

module _ (step : Step) (p : IsPrompted step) (other : creates (asked step.command) ≡ false) where
  success_as : (v : Verdict) → verdict_of (fields step.reply) ≡ v → v ≡ verdict.Success
  success_as verdict.Success is = refl
  success_as verdict.Refusal is =
      absurd (never_refused p.before (step_after p.before step) (asked step.command) (code_of (fields step.reply)) (labels_of (fields step.reply)) other
      (subst (λ (t : Told). AnswersAtOnce p.before (step_after p.before step) (asked step.command) t) (told_so step (lawful step p) verdict.Refusal is) p.prompt))
  success_as verdict.NoOk is = absurd (never_garbled step (lawful step p) (told_so step (lawful step p) verdict.NoOk is))

  pub prompt_success : IsSuccess step.reply
  prompt_success = success_as (verdict_of (fields step.reply)) refl

-- ---- it has a batch

-- the reply has a batch whose events have an `_id`
pub record Brings (bytes : List ℕ) : Type 0 where
  pub batch : Batch
  pub there : batch_of (fields bytes) ≡ Some batch
  pub ids : HaveIds batch.events

-- and the cursor that it opened is a watch's
pub record Opens (step : Step) : Type 0 where
  pub brings : Brings step.reply
  pub asks : AsksToWatch (asked step.command)
  pub opens : brings.batch.id ≢ pos 0 → OpensId (told_at step) brings.batch.id

-- and the cursor is that of the getMore, or it has ended
pub record GoesOn (step : Step) (id : ℤ) : Type 0 where
  pub brings : Brings step.reply
  pub same : (brings.batch.id ≡ id) ⊎ (brings.batch.id ≡ pos 0)

-- the cursor, where it stands, is a watch's
abbrev pub IsWatchOnly : State → ℤ → Type 0
IsWatchOnly s id = (c : Cursor) → s.cursors id ≡ Some c → IsWatching c

module _ (step : Step) (p : IsLawful step) where
  pub may_tell : (command : Asked) (said : Told) → asked step.command ≡ command → told_at step ≡ said → MayTell p.before (grown p.before step.made) command said step.made
  may_tell command said asks tells =
      subst (λ (c : Asked). MayTell p.before (grown p.before step.made) c said step.made) asks (subst (λ (t : Told). MayTell p.before (grown p.before step.made) (asked step.command) t step.made) tells p.may.tells)

module _ (step : Step) (p : IsLawful step) (success : IsSuccess step.reply) where
  abbrev ids_of : (command : Asked) (batch : Batch) → asked step.command ≡ command → AsksForEvents p.before command → batch_of (fields step.reply) ≡ Some batch → Brings step.reply
  ids_of command batch asks is there =
      record { batch = batch; there = there; ids = batch_ids p.before step p.numbered p.may batch (record { success = success; batch_is = there }) (subst (AsksForEvents p.before) (sym asks) is) }

  opening_by : (w : Watch) (start : Start) (batch : Option Batch) → asked step.command ≡ asks_watch w start → batch_of (fields step.reply) ≡ batch → Opens step
  opening_by w start None asks none = absurd (never_garbled step p (told_heard step step.reply (asks_watch w start) asks refl ∙ watch_spoiled w start step.reply success none))
  opening_by w start (Some batch) asks there =
      let o = opening_heard step w start step.reply batch asks refl (record { success = success; batch_is = there }) in
      record { brings = ids_of (asks_watch w start) batch asks tt there; asks = subst AsksToWatch (sym asks) tt; opens = λ ne. subst (λ (t : Told). OpensId t batch.id) (sym o.said_is) (refl, ne) }

  -- a getMore of a watch goes on with it
  more_with : (id : ℤ) (space : Space) (batch : Batch) → IsWatchOnly p.before id → asked step.command ≡ asks_more id space → batch_of (fields step.reply) ≡ Some batch
      → MayTell p.before (grown p.before step.made) (asks_more id space) (gave_by batch) step.made → GoesOn step id
  more_with id space batch only asks there (inl may) = record { brings = ids_of (asks_more id space) batch asks (may.watch, may.at, may.stood) there; same = may.same }
  more_with id space batch only asks there (inr may) = absurd (only (query may.space (batch.events ++ may.left)) may.stood)

  more_by : (id : ℤ) (space : Space) (batch : Option Batch) → IsWatchOnly p.before id → asked step.command ≡ asks_more id space → batch_of (fields step.reply) ≡ batch → GoesOn step id
  more_by id space None only asks none = absurd (never_garbled step p (told_heard step step.reply (asks_more id space) asks refl ∙ more_spoiled id space step.reply success none))
  more_by id space (Some batch) only asks there =
      more_with id space batch only asks there (may_tell step p (asks_more id space) (gave_by batch) asks (giving_heard step id space step.reply batch asks refl (record { success = success; batch_is = there })))

  -- what asks for nothing is refused
  told_other : asked step.command ≡ asks_other → told_at step ≡ garbled
  told_other asks = told_so step p verdict.Success success ∙ ap (λ (c : Asked). told_by verdict.Success c (fields step.reply)) asks

  pub watch_brings : (a : Option Aim) → asked step.command ≡ asked_for a → Opens step
  watch_brings None asks = absurd (never_garbled step p (told_other asks))
  watch_brings (Some a) asks = opening_by a.watch a.start (batch_of (fields step.reply)) asks refl

  pub more_brings : (id : ℤ) (space : Space) → IsWatchOnly p.before id → asked step.command ≡ asks_more id space → GoesOn step id
  more_brings id space only asks = more_by id space (batch_of (fields step.reply)) only asks refl

-- ---- it gives what is there

-- a getMore of a cursor that is a watch's, where it stands, gives no event only where none was left to be seen by that watch
module _ (step : Step) (p : IsPrompted step) (success : IsSuccess step.reply) (id : ℤ) (space : Space) (batch : Batch) (only : IsWatchOnly p.before id) (asks : asked step.command ≡ asks_more id space) (there : batch_of (fields step.reply) ≡ Some batch) where
  abbrev Stood : Watch → ℕ → Type 0
  Stood w from = p.before.cursors id ≡ Some (watching w from)

  stood_by : MayTell p.before (grown p.before step.made) (asks_more id space) (gave_by batch) step.made → (w : Watch) × (from : ℕ) × Stood w from
  stood_by (inl may) = (may.watch, may.at, may.stood)
  stood_by (inr may) = absurd (only (query may.space (batch.events ++ may.left)) may.stood)

  pub more_gives : (w : Watch) × (from : ℕ) × Stood w from × GivesSome p.before w from batch.events
  more_gives =
      let said = giving_heard step id space step.reply batch asks refl (record { success = success; batch_is = there }) in
      let stood = stood_by (may_tell step (lawful step p) (asks_more id space) (gave_by batch) asks said) in
      let prompt = subst (λ (c : Asked). AnswersAtOnce p.before (step_after p.before step) c (gave_by batch)) asks (subst (λ (t : Told). AnswersAtOnce p.before (step_after p.before step) (asked step.command) t) said p.prompt) in
      (stood.0, stood.1, stood.2, (prompt.0 stood.0 stood.1 stood.2).0)
