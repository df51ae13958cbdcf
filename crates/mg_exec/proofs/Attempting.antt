-- Attempts: a start and the poll behind it are one.
use Rattle.std.proofs.Common.{◌≡◌, ◌++◌, ◌∷◌, ℕ, List, [], length, Some, refl, sym, ap, ◌∙◌, subst, inl, inr}
use Rattle.std.specs.Prelude.{IsSome}
use Rattle.std.proofs.lemmas.Bool.{cases_eq}
use Rattle.mg_link.specs.Log.{Sight, waiting, Call, see}
use Rattle.mg_link.specs.Link.{Awaited, LogTold, Starts, Sends, Waits, Ends}
use Rattle.mg_link.specs.Exec.{Attempt, not_sent, waits, answered, Begins, GoesOn}

same_some : {A : Type 0} (x y : A) → Some x ≡ Some y → x ≡ y
same_some x y h = cc

-- the last call has seen this
pub see_last : (calls : List Call) (call : Call) (seen : Sight) → see (length calls) seen (calls ++ call ∷ []) ≡ calls ++ record call { seen = seen } ∷ []
see_last [] call seen = refl
see_last (c ∷ calls) call seen = ap (λ l. c ∷ l) (see_last calls call seen)

-- a call that was added and has seen its answer
sends_by : (old mid new : Awaited) (log between log' : LogTold) (number : ℕ) (command : List ℕ) (seen : Sight) → Starts old mid log between number command → Ends mid new between log' number seen → Sends old new log log' command seen
sends_by old mid new log between log' number command seen s e =
    record {
      rest = λ m. elim (cases_eq m number) [
        | inl is ↦ subst (λ k. new k ≡ old k) (sym is) (e.gone ∙ sym s.fresh)
        | inr ne ↦ e.rest m ne ∙ s.rest m ne
      ];
      adds = λ calls told.
          let added = s.adds calls told in
          let call : Call = record { command = command; position = added.0; seen = waiting } in
          let seen_at = e.sees (calls ++ call ∷ []) added.1 in
          let here : length calls ≡ seen_at.0 = same_some (length calls) seen_at.0 (sym (s.place calls told) ∙ seen_at.2) in
          (added.0, seen_at.5 ∙ ap (λ k. Some (see k seen (calls ++ call ∷ []))) (sym here) ∙ ap Some (see_last calls call seen));
    }

-- a call that was added and waits
starts_by : (old mid new : Awaited) (log between log' : LogTold) (number given : ℕ) (command : List ℕ) → Starts old mid log between number command → Waits mid new between log' number given → Starts old new log log' given command
starts_by old mid new log between log' number given command s w =
    subst (λ n. Starts old new log log' n command) (sym w.same)
    (record {
      fresh = s.fresh;
      out = subst (λ o. IsSome o) (sym (w.rest number)) s.out;
      place = λ calls told. w.rest number ∙ s.place calls told;
      rest = λ m ne. w.rest m ∙ s.rest m ne;
      adds = λ calls told. let added = s.adds calls told in (added.0, w.log_same ∙ added.1);
    })

pub begins_by : (old mid new : Awaited) (log between log' : LogTold) (number : ℕ) (command : List ℕ) (attempt : Attempt) → Starts old mid log between number command → GoesOn mid new between log' number attempt → Begins old new log log' command attempt
begins_by old mid new log between log' number command not_sent s g = absurd g
begins_by old mid new log between log' number command (waits given) s g = starts_by old mid new log between log' number given command s g
begins_by old mid new log between log' number command (answered seen) s g = sends_by old mid new log between log' number command seen s g
