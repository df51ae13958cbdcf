-- The steps of a put behind that of its record, and the step that removes its chunks.
use Rattle.std.proofs.Common.{◌≡◌, ◌<◌, ℕ, ℤ, Bool, true, false, List, Option, Some, None, length, refl, sym, ap, ◌∙◌, inl, inr, arith}
use Rattle.std.specs.Prelude.{slice_get}
use Rattle.std.proofs.lemmas.Bool.{cases_lt}
use Rattle.mg_server.specs.Calls.{Past}
use Rattle.mg_server.specs.Files.{chunks_space, files_space}
use Rattle.mg_server.specs.History.{Step}
use Rattle.mg_link.specs.Log.{Call}
use Rattle.mg_server.specs.Owner.{IsOf}
use Rattle.mg_server.specs.Standing.{Stands}
use Rattle.mg_server.proofs.Owners.{same_some}
use Rattle.mg_ops.specs.Naming.{IsNamed}
use Rattle.mg_players.specs.Causes.{AreSentIn, Course, commands_at, places_of}
use Rattle.mg_players.specs.Files.{IsStepOf}
use Rattle.mg_players.specs.PutSends.{PutSends, chunks_removal, record_insert, removal_if}
use Rattle.mg_players.specs.Puts.{PutTask, Supply}
use Rattle.mg_players.specs.Behind.{IsStepWith, RemovesOnce}
use Rattle.mg_jobs.proofs.Positions.{sent_place}
use Rattle.mg_jobs.proofs.PutParts.{StandsAt, behind_record, removal_once, removal_stands, removes_none}

module _ (supply : Supply) (t : PutTask) (ever : Past) (c : Course) (i : ℕ) (calls : List Call) (upto : ℕ) (moment : Option ℤ) (removed : Bool) (s : PutSends supply t ever (commands_at calls (places_of c i)) upto moment removed) (files : IsNamed (files_space t.at)) (chunks : IsNamed (chunks_space t.at)) where
  of_step : (position : ℕ) (o : IsStepOf c i calls position) → IsOf (places_of c i) o.place
  of_step position o = sent_place c i o.done o.place o.sent

  -- Behind the step of its record a put has no step but that which removes the chunks.
  pub later_steps : (history : List Step) → Stands calls history → (m : ℤ) (recorded position : ℕ) → IsStepWith c i calls recorded (record_insert t m) → IsStepOf c i calls position → recorded < position → IsStepWith c i calls position (chunks_removal t)
  later_steps history stands m recorded position r o less = elim (cases_lt r.own.place o.place) [
    | inl before ↦ record { own = o; sends = behind_record supply t ever c i calls upto moment removed s files chunks m r.own.place o.place r.own.call o.call (of_step recorded r.own) (of_step position o) r.own.there o.there r.sends before }
    | inr from ↦ elim (cases_lt o.place r.own.place) [
      | inl behind ↦ (let early = stands.rising o.place r.own.place o.call r.own.call position recorded behind o.there r.own.there o.placed r.own.placed in absurd (omega (arith, early, less)))
      | inr upto_it ↦
          let same : o.place ≡ r.own.place = omega (arith, from, upto_it) in
          let call : o.call ≡ r.own.call = same_some o.call r.own.call (sym o.there ∙ ap (slice_get calls) same ∙ r.own.there) in
          let at : position ≡ recorded = same_some position recorded (sym o.placed ∙ ap (λ (x : Call). x.position) call ∙ r.own.placed) in
          absurd (omega (arith, at, less))
    ]
  ]

  -- the removal at one place is that at any other
  one_removal : (x : StandsAt t calls (places_of c i)) (position : ℕ) → (w : IsStepWith c i calls position (chunks_removal t)) → x.call.position ≡ Some position
  one_removal x position w = elim (cases_lt x.place w.own.place) [
    | inl before ↦ absurd (removal_once supply t ever c i calls upto moment removed s files chunks x.place w.own.place x.call w.own.call x.of (of_step position w.own) x.there w.own.there x.removes w.sends before)
    | inr from ↦ elim (cases_lt w.own.place x.place) [
      | inl behind ↦ absurd (removal_once supply t ever c i calls upto moment removed s files chunks w.own.place x.place w.own.call x.call (of_step position w.own) x.of w.own.there x.there w.sends x.removes behind)
      | inr upto_it ↦
          let same : x.place ≡ w.own.place = omega (arith, from, upto_it) in
          let call : x.call ≡ w.own.call = same_some x.call w.own.call (sym x.there ∙ ap (slice_get calls) same ∙ w.own.there) in
          ap (λ (y : Call). y.position) call ∙ w.own.placed
    ]
  ]

  stands_once : AreSentIn c i (places_of c i) → (x : StandsAt t calls (places_of c i)) (o : Option ℕ) → x.call.position ≡ o → RemovesOnce c i calls t
  stands_once sent x None none = inl (λ position w. let bad : Some position ≡ None = sym (one_removal x position w) ∙ none in absurd cc)
  stands_once sent x (Some at) placed =
      let k = sent x.place x.of in
      inr (at, record { own = record { done = k.0; place = x.place; sent = k.1; call = x.call; there = x.there; placed = placed }; sends = x.removes }, λ position w. same_some position at (sym (one_removal x position w) ∙ placed))

  once_by : AreSentIn c i (places_of c i) → (b : Bool) → removed ≡ b → RemovesOnce c i calls t
  once_by sent false none = inl (λ position w. removes_none supply t ever c i calls upto moment removed s files chunks none w.own.place w.own.call (of_step position w.own) w.own.there w.sends)
  once_by sent true some =
      let one : length (removal_if t removed) ≡ 1 = ap (λ (b : Bool). length (removal_if t b)) some in
      let x = removal_stands supply t ever c i calls upto moment removed s files chunks (omega (arith, one)) in
      stands_once sent x x.call.position refl

  -- A put has the chunks of its file removed by no step, or by one.
  pub removes_once : AreSentIn c i (places_of c i) → RemovesOnce c i calls t
  removes_once sent = once_by sent removed refl
