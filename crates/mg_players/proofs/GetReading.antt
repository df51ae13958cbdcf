-- Why a read of a get fails goes on to hold in a later log, and so does how its cursor stands.
use Rattle.std.proofs.Common.{◌≡◌, ◌≤◌, ◌++◌, ℕ, suc, ℤ, pos, List, length, take, refl, sym, ap, ◌∙◌, subst, inl, inr, arith}
use Rattle.std.proofs.lemmas.List.{take-append-le}
use Rattle.mg_bson.specs.Tree.{Fields}
use Rattle.mg_server.specs.Calls.{Grows, Past, past_of}
use Rattle.mg_server.specs.Commands.{asked}
use Rattle.mg_server.specs.Files.{Bucket, file_of}
use Rattle.mg_server.specs.History.{Step, state_of, step_after, told_at}
use Rattle.mg_link.specs.Log.{Call}
use Rattle.mg_server.specs.Owner.{IsOf, Onward, nobody}
use Rattle.mg_server.specs.Prompt.{AnswersAtOnce, IsPrompt, MeetsConcern}
use Rattle.mg_server.specs.State.{State}
use Rattle.mg_link.specs.declared.error.Error.{Error}
use Rattle.mg_server.proofs.Calls.{same_keeps}
use Rattle.mg_server.proofs.Pasts.{heard_reply}
use Rattle.mg_link.proofs.Places.{get_front, get_within}
use Rattle.mg_cursor.specs.Client.{ClientCursor}
use Rattle.mg_cursor.proofs.SeekCaused.{fails_grow}
use Rattle.mg_records.specs.FileRecords.{FileRecord}
use Rattle.mg_gridfs.specs.Downloads.{ClientDownload}
use Rattle.mg_players.specs.Files.{ListsSo}
use Rattle.mg_players.specs.Gets.{GetTask, chunks_find}
use Rattle.mg_players.specs.Reading.{Differ, HeardHeld, IsListOf, ListsChunks, IsQueried, IsTold, ListsIts, ListsOther, ReadStops, WherePrompt, differs, empties, no_batch, no_memory, not_built, too_many}
use Rattle.mg_players.proofs.Queried.{queried_later}

-- ---- an earlier history

module _ (before tail : List Step) where
  -- a state of the longer history
  state_front : (n : ℕ) → n ≤ length before → state_of (take n (before ++ tail)) ≡ state_of (take n before)
  state_front n le = ap state_of (take-append-le n before tail le)

  prompt_front : (own : List ℕ) → IsPrompt own (before ++ tail) → IsPrompt own before
  prompt_front own prompt position step is there =
      let within = get_within before position step there in
      subst (λ (s : State). AnswersAtOnce s (step_after s step) (asked step.command) (told_at step) × MeetsConcern (asked step.command) step.reply) (state_front position (omega (arith, within))) (prompt position step is (get_front before tail position step there))

-- ---- chunks that are not what their record says

pub other_grows : (calls calls' : List Call) (at : Bucket) (f : FileRecord) (listed : ℕ) (e : Error) → Onward calls calls' nobody → ListsOther calls at f listed e → ListsOther calls' at f listed e
other_grows calls calls' at f listed e onward o =
    let kept = onward.grown.keeps listed o.call o.there in
    record {
      named = o.named;
      call = kept.0;
      there = kept.1;
      asks = ap asked kept.2 ∙ o.asks;
      bytes = o.bytes;
      heard = kept.4 o.bytes o.heard;
      count = o.count;
      counted = o.counted;
      differ = λ history legal stands.
          let x = onward.earlier history legal stands in
          let d = o.differ x.before x.legal x.stands in
          let step = x.stands.same listed o.call d.0 o.there d.1 in
          let within = get_within x.before d.0 step.0 step.1 in
          let same : state_of (take (suc d.0) history) ≡ state_of (take (suc d.0) x.before)
          = ap (λ (h : List Step). state_of (take (suc d.0) h)) x.whole ∙ state_front x.before x.tail (suc d.0) (omega (arith, within)) in
          (d.0, kept.3 ∙ d.1, subst (λ (t : State). Differ f o.count (file_of t at f.id).chunks e) (sym same) d.2);
    }

-- so it is of those that are as the list says
pub so_grows : (calls calls' : List Call) (at : Bucket) (f : FileRecord) (listed : ℕ) (So : List Fields → Type 0) → Onward calls calls' nobody → ListsSo calls at f listed So → ListsSo calls' at f listed So
so_grows calls calls' at f listed So onward o =
    let a = o.asked_so in
    let kept = onward.grown.keeps listed a.call a.there in
    record {
      asked_so = record { call = kept.0; there = kept.1; asks = ap asked kept.2 ∙ a.asks };
      each = λ history legal stands.
          let x = onward.earlier history legal stands in
          let d = o.each x.before x.legal x.stands in
          let step = x.stands.same listed a.call d.0 a.there d.1 in
          let within = get_within x.before d.0 step.0 step.1 in
          let same : state_of (take (suc d.0) history) ≡ state_of (take (suc d.0) x.before)
          = ap (λ (h : List Step). state_of (take (suc d.0) h)) x.whole ∙ state_front x.before x.tail (suc d.0) (omega (arith, within)) in
          (d.0, kept.3 ∙ d.1, subst (λ (t : State). So (file_of t at f.id).chunks) (sym same) d.2);
    }

-- ---- steps that were answered at once

pub where_prompt_grow : (past past' : Past) (So : Type 0) → Grows past past' → Onward past.calls past'.calls nobody → WherePrompt past So → WherePrompt past' So
where_prompt_grow past past' So grows onward h history legal stands own among prompt =
    let e = onward.earlier history legal stands in
    h e.before e.legal e.stands own
    (λ place call position mine there placed. let kept = onward.grown.keeps place call there in among place kept.0 position (grows.own place call there mine) kept.1 (kept.3 ∙ placed))
    (prompt_front e.before e.tail own (subst (IsPrompt own) e.whole prompt))

-- ---- the cursor of a read

module _ (past past' : Past) (grows : Grows past past') where
  pub told_grow : (c : ClientCursor) → IsTold past c → IsTold past' c
  told_grow c t = record { command = t.command; bytes = t.bytes; heard = heard_reply past past' grows t.command t.bytes t.heard; said = t.said; says = t.says; id_is = t.id_is; space_is = t.space_is; plain = t.plain }

  pub held_grows : (g : GetTask) (f : FileRecord) (c : ClientCursor) → HeardHeld past g f c → HeardHeld past' g f c
  held_grows g f c h bytes is = heard_reply past past' grows (chunks_find g f.id) bytes (h bytes is)

  pub list_grow : (g : GetTask) (f : FileRecord) (c : ClientCursor) (bytes : List ℕ) → IsListOf past g f c bytes → IsListOf past' g f c bytes
  list_grow g f c bytes l = record { heard = heard_reply past past' grows (chunks_find g f.id) bytes l.heard; success = l.success; said = l.said; says = l.says; id_is = l.id_is }

  module _ (onward : Onward past.calls past'.calls nobody) where
    pub listed_grow : (g : GetTask) (f : FileRecord) (empty : ℕ) (c : ClientCursor) → ListsChunks past g f empty c → ListsChunks past' g f empty c
    listed_grow g f empty c l = record {
      named = l.named;
      told = told_grow c l.told;
      held = λ bytes is. let h = l.held bytes is in (h.0, list_grow g f c bytes h.1);
      queried = λ history legal stands ne.
          let e = onward.earlier history legal stands in
          subst (λ (h : List Step). IsQueried h c.id) (sym e.whole) (queried_later e.before e.tail c.id (l.queried e.before e.legal e.stands ne));
      over = λ some. where_prompt_grow past past' (c.id ≡ pos 0) grows onward (l.over some);
    }

    pub lists_grow : (g : GetTask) (d : ClientDownload) → ListsIts past g d → ListsIts past' g d
    lists_grow g d l c is = listed_grow g d.file (empties d.doing) c (l c is)

    pub stops_grow : {many many' : Type 0} (differ differ' : Type 0) → (many → many') → (differ → differ') → (e : Error) → ReadStops past many differ e → ReadStops past' many' differ' e
    stops_grow differ differ' so leads e (no_memory room) = no_memory room
    stops_grow differ differ' so leads e (not_built at told cannot) = not_built at (told_grow at told) cannot
    stops_grow differ differ' so leads e (no_batch at told fails) = no_batch at (told_grow at told) (fails_grow past past' grows at e fails)
    stops_grow differ differ' so leads e (too_many empty never is) = too_many (so empty) (where_prompt_grow past past' ⊥ grows onward never) is
    stops_grow differ differ' so leads e (differs apart other) = differs apart (leads other)

-- what was sent at some places was sent at those and more
pub grows_among : (xs ys : List ℕ) (since : ℕ) (calls : List Call) (wire : ℤ) → ((place : ℕ) → IsOf xs place → IsOf ys place) → Grows (past_of xs since calls wire) (past_of ys since calls wire)
grows_among xs ys since calls wire among = record { own = λ place call there own. elim own [ inl of ↦ inl (among place of) | inr later ↦ inr later ]; keeps = same_keeps calls; wire = refl }
