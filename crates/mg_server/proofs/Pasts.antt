-- What a call had heard and had in flight it has still at a later time.
use Rattle.std.proofs.Common.{◌≡◌, ℕ, ℤ, Bool, true, false, List, Option, Some, refl, sym, ap, ◌∙◌, subst, inl, inr}
use Rattle.mg_bson.specs.Tree.{Fields}
use Rattle.mg_bson.specs.Raw.{fields}
use Rattle.mg_bson.specs.Reading.{doc}
use Rattle.mg_server.specs.Calls.{Flies, Grows, HeardAt, HeardBy, HeardLast, IsRetried, NoneBroken, Past, RequestFails, WaitsAt, out_of_memory, was_broken, was_lost, was_refused}
use Rattle.mg_link.specs.Exec.{FailsByReply, Stage, ticket_at, unsent, first, second}
use Rattle.mg_link.specs.Link.{Awaited}
use Rattle.mg_link.specs.Log.{Sight, waiting, reply, fault, Call}
use Rattle.mg_link.specs.Retry.{is_retried}
use Rattle.mg_link.specs.declared.error.Error.{Error}

pub heard_by : (past : Past) (command : Fields) (retries : Bool) (seen : Sight) → HeardLast past command retries seen → HeardBy past command seen
heard_by past command retries seen h = record { place = h.place; heard = h.heard }

-- of a command that is sent once
pub heard_last : (past : Past) (command : Fields) (seen : Sight) → HeardBy past command seen → HeardLast past command false seen
heard_last past command seen h = record { place = h.place; heard = h.heard; last = inl refl }

-- a request that fails whatever its reader takes
pub fails_anyhow : (past : Past) (command : Fields) (retries : Bool) (Broken : List ℕ → Error → Type 0) (e : Error) → RequestFails past command retries NoneBroken e → RequestFails past command retries Broken e
fails_anyhow past command retries Broken e (out_of_memory room) = out_of_memory room
fails_anyhow past command retries Broken e (was_lost io h) = was_lost io h
fails_anyhow past command retries Broken e (was_refused bytes h by) = was_refused bytes h by
fails_anyhow past command retries Broken e (was_broken bytes h success none) = absurd none

pub not_waiting : (bytes : List ℕ) → reply bytes ≡ waiting → ⊥
not_waiting bytes e = cc

module _ (past past' : Past) (grows : Grows past past') where
  -- ---- what was heard

  pub heard_at_grows : (place : ℕ) (command : Fields) (seen : Sight) → (seen ≡ waiting → ⊥) → HeardAt past place command seen → HeardAt past' place command seen
  heard_at_grows place command seen answer h =
      let kept = grows.keeps place h.call h.there in
      let stays : kept.0 ≡ h.call = kept.3 (λ e. answer (sym h.has_seen ∙ e)) in
      record {
        own = grows.own place h.call h.there h.own;
        call = kept.0;
        there = kept.1;
        command_is = ap fields kept.2 ∙ h.command_is;
        has_seen = ap (λ (c : Call). c.seen) stays ∙ h.has_seen;
      }

  pub retried_grows : (place : ℕ) (command : Fields) → IsRetried past place command → IsRetried past' place command
  retried_grows place command r =
      let answer : r.seen ≡ waiting → ⊥ = λ e. let bad : is_retried waiting ≡ true = sym (ap is_retried e) ∙ r.passes in cc in
      record { earlier = r.earlier; before = r.before; seen = r.seen; heard = heard_at_grows r.earlier command r.seen answer r.heard; passes = r.passes }

  -- ---- what is in flight

  waits_grows : (awaited awaited' : Awaited) (ticket : ℕ) (command : Fields) (place : ℕ) → awaited' ticket ≡ awaited ticket → WaitsAt awaited past ticket command place → WaitsAt awaited' past' ticket command place
  waits_grows awaited awaited' ticket command place ticket_same w =
      let kept = grows.keeps place w.call w.there in
      record { at = ticket_same ∙ w.at; own = grows.own place w.call w.there w.own; call = kept.0; there = kept.1; command_is = ap fields kept.2 ∙ w.command_is }

  pub flies_grows : (awaited awaited' : Awaited) (command : Fields) (stage : Stage) → ((n : ℕ) → ticket_at stage ≡ Some n → awaited' n ≡ awaited n) → Flies awaited past command stage → Flies awaited' past' command stage
  flies_grows awaited awaited' command unsent tickets f = tt
  flies_grows awaited awaited' command (first ticket) tickets f = (f.0, waits_grows awaited awaited' ticket command f.0 (tickets ticket refl) f.1)
  flies_grows awaited awaited' command (second ticket) tickets f = (f.0, waits_grows awaited awaited' ticket command f.0 (tickets ticket refl) f.1, retried_grows f.0 command f.2)

module _ (past past' : Past) (grows : Grows past past') where
  -- ---- requests

  pub heard_grows : (command : Fields) (seen : Sight) → (seen ≡ waiting → ⊥) → HeardBy past command seen → HeardBy past' command seen
  heard_grows command seen answer h = record { place = h.place; heard = heard_at_grows past past' grows h.place command seen answer h.heard }

  abbrev pub last_grows : (command : Fields) (retries : Bool) (seen : Sight) → (seen ≡ waiting → ⊥) → HeardLast past command retries seen → HeardLast past' command retries seen
  last_grows command retries seen answer h = record {
    place = h.place;
    heard = heard_at_grows past past' grows h.place command seen answer h.heard;
    last = elim h.last [ inl once ↦ inl once | inr twice ↦ inr (retried_grows past past' grows h.place command twice) ];
  }

  pub heard_reply : (command : Fields) (bytes : List ℕ) → HeardBy past command (reply bytes) → HeardBy past' command (reply bytes)
  heard_reply command bytes h = heard_grows command (reply bytes) (not_waiting bytes) h

  abbrev pub last_reply : (command : Fields) (retries : Bool) (bytes : List ℕ) → HeardLast past command retries (reply bytes) → HeardLast past' command retries (reply bytes)
  last_reply command retries bytes h = last_grows command retries (reply bytes) (not_waiting bytes) h

  refused_grows : (said : Option Fields) (e : Error) → FailsByReply said past.wire e → FailsByReply said past'.wire e
  refused_grows said e h = subst (λ (w : ℤ). FailsByReply said w e) (sym grows.wire) h

  pub request_fails_grows : (command : Fields) (retries : Bool) (Broken : List ℕ → Error → Type 0) (e : Error) → RequestFails past command retries Broken e → RequestFails past' command retries Broken e
  request_fails_grows command retries Broken e (out_of_memory room) = out_of_memory room
  request_fails_grows command retries Broken e (was_lost io h) = was_lost io (last_grows command retries fault (λ f. cc) h)
  request_fails_grows command retries Broken e (was_refused bytes h by) = was_refused bytes (last_reply command retries bytes h) (refused_grows (doc bytes) e by)
  request_fails_grows command retries Broken e (was_broken bytes h success by) = was_broken bytes (last_reply command retries bytes h) success by
