-- A reply that was heard is that of the call's step, and what is read of it is what the step tells.
use Rattle.std.proofs.Common.{◌≡◌, ℕ, ℤ, List, length, Option, Some, None, refl, sym, ap, ap₂, ◌∙◌, subst, option_map}
use Rattle.std.specs.Prelude.{slice_get, unwrap_or}
use Rattle.mg_bson.specs.Raw.{fields}
use Rattle.mg_link.specs.Namespace.{Space}
use Rattle.mg_server.specs.State.{Watch, Start}
use Rattle.mg_link.specs.Reply.{verdict_of}
use Rattle.mg_link.specs.declared.reply.Verdict.TheVariants as verdict
use Rattle.mg_server.specs.Commands.{Asked, asks_watch, asks_more, Told, garbled, Batch, batch_of, time_in, opened_by, gave_by, told, told_by, asked}
use Rattle.mg_server.specs.History.{Step, told_at}
use Rattle.mg_link.specs.Log.{reply, Call, see}
use Rattle.mg_server.specs.Standing.{OpensId, TookEffect, SeenGiven, Stands}
use Rattle.mg_server.specs.Follow.{Reads, HasNoBatch}
use Rattle.mg_link.proofs.Places.{get_within}
use Rattle.mg_server.proofs.Owners.{see_here}

-- the step of the call whose reply was heard
pub record HeardStep (calls : List Call) (history : List Step) (k : ℕ) (bytes : List ℕ) (call : Call) : Type 0 where
  pub position : ℕ
  pub step : Step
  pub placed : call.position ≡ Some position
  pub took : TookEffect calls history k position step
  pub took_seen : TookEffect (see k (reply bytes) calls) history k position step
  pub command : step.command ≡ call.command
  pub fits : bytes ≡ step.reply

pub heard_at : (k : ℕ) (bytes : List ℕ) (calls : List Call) (call : Call) (history : List Step) → slice_get calls k ≡ Some call → Stands (see k (reply bytes) calls) history → HeardStep calls history k bytes call
heard_at k bytes calls call history found stands =
    let found' = see_here k (reply bytes) calls call found in
    let p = stands.placed k (record call { seen = reply bytes }) bytes found' refl in
    let s = stands.same k (record call { seen = reply bytes }) p.0 found' p.1 in
    record {
      position = p.0;
      step = s.0;
      placed = p.1;
      took = record { call = call; found = found; placed = p.1; there = s.1 };
      took_seen = record { call = record call { seen = reply bytes }; found = found'; placed = p.1; there = s.1 };
      command = s.2;
      fits = s.3;
    }

-- a cursor that the step opened was seen given
pub heard_given : (k : ℕ) (bytes : List ℕ) (calls : List Call) (call : Call) (history : List Step) (x : ℤ) → slice_get calls k ≡ Some call → (h : HeardStep calls history k bytes call) → OpensId (told_at h.step) x → SeenGiven (see k (reply bytes) calls) (length (see k (reply bytes) calls)) x
heard_given k bytes calls call history x found h opens =
    let found' = see_here k (reply bytes) calls call found in
    record {
      at = k;
      call = record call { seen = reply bytes };
      bytes = bytes;
      earlier = get_within (see k (reply bytes) calls) k (record call { seen = reply bytes }) found';
      found = found';
      saw = refl;
      opens = subst (λ (b : List ℕ). OpensId (told (asked call.command) b) x) (sym h.fits) (subst (λ (c : List ℕ). OpensId (told (asked c) h.step.reply) x) h.command opens);
    }

-- ---- what is read

-- the aggregate's step opened the watch with this batch
pub record IsOpening (batch : Batch) (said : Told) : Type 0 where
  pub time : Option ℕ
  pub said_is : said ≡ opened_by time batch

told_watch : (w : Watch) (start : Start) (bytes : List ℕ) (batch : Batch) → Reads bytes batch → told (asks_watch w start) bytes ≡ opened_by (time_in (fields bytes)) batch
unfolding told
told_watch w start bytes batch reads =
    ap (λ v. told_by v (asks_watch w start) (fields bytes)) reads.success
    ∙ ap (λ (o : Option Batch). unwrap_or (option_map (opened_by (time_in (fields bytes))) o) garbled) reads.batch_is

told_more : (id : ℤ) (space : Space) (bytes : List ℕ) (batch : Batch) → Reads bytes batch → told (asks_more id space) bytes ≡ gave_by batch
unfolding told
told_more id space bytes batch reads =
    ap (λ v. told_by v (asks_more id space) (fields bytes)) reads.success
    ∙ ap (λ (o : Option Batch). unwrap_or (option_map gave_by o) garbled) reads.batch_is

pub told_heard : (step : Step) (bytes : List ℕ) (command : Asked) → asked step.command ≡ command → bytes ≡ step.reply → told_at step ≡ told command bytes
told_heard step bytes command asks fits = ap₂ told asks (sym fits)

-- a batch that was read of the reply to an aggregate opened the watch
pub opening_heard : (step : Step) (w : Watch) (start : Start) (bytes : List ℕ) (batch : Batch) → asked step.command ≡ asks_watch w start → bytes ≡ step.reply → Reads bytes batch → IsOpening batch (told_at step)
opening_heard step w start bytes batch asks fits reads =
    record { time = time_in (fields bytes); said_is = told_heard step bytes (asks_watch w start) asks fits ∙ told_watch w start bytes batch reads }

pub giving_heard : (step : Step) (id : ℤ) (space : Space) (bytes : List ℕ) (batch : Batch) → asked step.command ≡ asks_more id space → bytes ≡ step.reply → Reads bytes batch → told_at step ≡ gave_by batch
giving_heard step id space bytes batch asks fits reads =
    told_heard step bytes (asks_more id space) asks fits ∙ told_more id space bytes batch reads

-- a reply of which no batch was read is a refusal, or none that a server may give
pub nothing_heard : (step : Step) (id : ℤ) (space : Space) (bytes : List ℕ) → asked step.command ≡ asks_more id space → bytes ≡ step.reply → HasNoBatch (told (asks_more id space) bytes) → HasNoBatch (told_at step)
nothing_heard step id space bytes asks fits none = subst HasNoBatch (sym (told_heard step bytes (asks_more id space) asks fits)) none

-- ---- replies without a batch

pub no_batch_refused : (id : ℤ) (space : Space) (bytes : List ℕ) → verdict_of (fields bytes) ≡ verdict.Refusal → HasNoBatch (told (asks_more id space) bytes)
unfolding told
no_batch_refused id space bytes e = subst (λ v. HasNoBatch (told_by v (asks_more id space) (fields bytes))) (sym e) tt

-- ---- replies that are none that a server may give

-- a success of which no batch is read
pub more_spoiled : (id : ℤ) (space : Space) (bytes : List ℕ) → verdict_of (fields bytes) ≡ verdict.Success → batch_of (fields bytes) ≡ None → told (asks_more id space) bytes ≡ garbled
unfolding told
more_spoiled id space bytes e none =
    ap (λ v. told_by v (asks_more id space) (fields bytes)) e ∙ ap (λ (o : Option Batch). unwrap_or (option_map gave_by o) garbled) none

pub watch_spoiled : (w : Watch) (start : Start) (bytes : List ℕ) → verdict_of (fields bytes) ≡ verdict.Success → batch_of (fields bytes) ≡ None → told (asks_watch w start) bytes ≡ garbled
unfolding told
watch_spoiled w start bytes e none =
    ap (λ v. told_by v (asks_watch w start) (fields bytes)) e
    ∙ ap (λ (o : Option Batch). unwrap_or (option_map (opened_by (time_in (fields bytes))) o) garbled) none
