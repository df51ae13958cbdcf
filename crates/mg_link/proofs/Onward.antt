-- Calls on a link, one after another.
use Rattle.std.proofs.Common.{◌≡◌, ◌⊎◌, ◌+◌, ℕ, ℤ, Option, Some, None, false, true, refl, sym, ap, ◌∙◌, subst, inl, inr, arith}
use Rattle.std.specs.Prelude.{IsSome, is_some}
use Rattle.std.proofs.lemmas.Bool.{cases_eq}
use Rattle.mg_link.specs.Link.{Awaited, Later}
use Rattle.mg_link.specs.Acts.{IsOut, Pended, PendsBy, Tickets}
use Rattle.mg_link.specs.Causes.{RoseJust}
use Rattle.mg_link.specs.declared.action.Step.{Step}
use Rattle.mg_link.specs.declared.action.Step.TheVariants as step

-- a number is that of the ticket, or not
ticket_is : (ticket : Option ℕ) (m : ℕ) → (ticket ≡ Some m) ⊎ (ticket ≡ Some m → ⊥)
ticket_is None m = inr (λ e. cc)
ticket_is (Some n) m = elim (cases_eq n m) [ inl e ↦ inl (ap Some e) | inr ne ↦ inr (λ e. ne (cc)) ]

some_is_out : (o : Option ℕ) → IsSome o → o ≡ None → ⊥
some_is_out o out none = let bad : false ≡ true = ap (λ o. is_some o) (sym none) ∙ out in cc

pub tickets_same : (awaited : Awaited) (ticket : Option ℕ) → IsOut awaited ticket → Tickets awaited awaited ticket ticket
tickets_same awaited ticket out = record { held = out; rest = λ m ne is. refl; origin = λ m e. inl e; only = λ m is. elim (ticket_is ticket m) [ inl e ↦ inl e | inr ne ↦ inr (is, ne) ] }

pub tickets_on : {old mid new : Awaited} {a b c : Option ℕ} → Tickets old mid a b → Tickets mid new b c → Tickets old new a c
tickets_on {old} {mid} {new} {a} {b} {c} p q =
    record {
      held = q.held;
      rest = λ m ne is.
          let same = p.rest m ne is in
          let still : IsSome (mid m) = subst (λ o. IsSome o) (sym same) is in
          let apart : b ≡ Some m → ⊥ = λ e. elim (p.origin m e) [ inl e ↦ ne e | inr none ↦ some_is_out (old m) is none ] in
          q.rest m apart still ∙ same;
      origin = λ m e. elim (q.origin m e) [
        | inl e ↦ p.origin m e
        | inr none ↦ elim (ticket_is a m) [
          | inl e ↦ inl e
          | inr ne ↦ elim (none_or (old m)) [
            | inl is ↦ inr is
            | inr is ↦ absurd (some_is_out (old m) is (sym (p.rest m ne is) ∙ none))
          ]
        ]
      ];
      only = λ m is. elim (q.only m is) [
        | inl e ↦ inl e
        | inr was ↦ elim (p.only m was.0) [
          | inl e ↦ absurd (was.1 e)
          | inr before ↦ inr before
        ]
      ];
    }
  where
    none_or : (o : Option ℕ) → (o ≡ None) ⊎ IsSome o
    none_or None = inl refl
    none_or (Some n) = inr refl

pub later_same : (faulted pended : ℕ) (version : ℤ) (prompts : Type 0) → Later faulted faulted pended pended version version prompts prompts
later_same faulted pended version prompts = record { faults = omega arith; pends = omega arith; wire = refl; prompt = λ is. record { stays = is; no_fault = refl; no_pend = refl } }

pub later_on : {f f' f'' p p' p'' : ℕ} {v v' v'' : ℤ} {q q' q'' : Type 0} → Later f f' p p' v v' q q' → Later f' f'' p' p'' v' v'' q' q'' → Later f f'' p p'' v v'' q q''
later_on a b =
    record {
      faults = omega (arith, a.faults, b.faults);
      pends = omega (arith, a.pends, b.pends);
      wire = b.wire ∙ a.wire;
      prompt = λ is.
          let first = a.prompt is in
          let second = b.prompt first.stays in
          record { stays = second.stays; no_fault = second.no_fault ∙ first.no_fault; no_pend = second.no_pend ∙ first.no_pend };
    }

pub rose_on : (m n before mid now : ℕ) → RoseJust m before mid → RoseJust n mid now → RoseJust (m + n) before now
rose_on m n before mid now first second =
    let least = first.0 in
    let most = first.1 in
    let least_more = second.0 in
    let most_more = second.1 in
    (omega (arith, least, most, least_more, most_more), omega (arith, most, most_more))

-- one poll behind so many that pended
pub polled_once_more : {S T : Type 0} (ticket : S → Option ℕ) (n k : ℕ) (result : Step S T) (before mid now : ℕ) → n ≡ k + 1 → RoseJust k before mid → Pended ticket result mid now → PendsBy n ticket result before now
polled_once_more ticket n k (step.Pending s) before mid now count first pended = (pended.0, subst (λ m. RoseJust m before now) (sym count) (rose_on k 1 before mid now first pended.1))
polled_once_more ticket n k (step.Done t) before mid now count first pended = omega (arith, count, first.1, pended)
polled_once_more ticket n k (step.Failed e) before mid now count first pended = omega (arith, count, first.1, pended)
