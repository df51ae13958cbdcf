-- Callers side by side stay apart.
use Rattle.std.proofs.Common.{◌≡◌, ◌⊎◌, ℕ, ℤ, pos, List, [], Some, sym, ap, ◌∙◌, subst, inl, inr}
use Rattle.std.specs.Prelude.{slice_get, slice_set}
use Rattle.std.proofs.lemmas.Bool.{cases_eq}
use Rattle.mg_link.specs.Log.{Call}
use Rattle.mg_server.specs.History.{Step}
use Rattle.mg_server.specs.Owner.{IsOf, Owner, Owns, by_id, by_reply, Holds, Apart, Onward, NamesItsOwn, Passes, AreApart}
use Rattle.mg_server.proofs.Owners.{same_some}
use Rattle.mg_server.proofs.Apart.{holds_kept, apart_still}
use Rattle.mg_link.proofs.Places.{get_set_other, get_set_same}

-- two callers are apart either way
pub apart_turned : (calls : List Call) (o g : Owner) → Apart calls o g → Apart calls g o
apart_turned calls o g apart history legal stands x mine theirs = apart history legal stands x theirs mine

-- a caller that has no cursor and waits for none
pub record OwnsNothing (o : Owner) : Type 0 where
  pub ids : (x : ℤ) → IsOf o.ids x → x ≡ pos 0
  pub coming : (k : ℕ) → IsOf o.coming (Some k) → ⊥

nothing_owned : (calls : List Call) (history : List Step) (o : Owner) → OwnsNothing o → (x : ℤ) → Owns calls history o x → ⊥
nothing_owned calls history o none x (by_id is ne) = ne (none.ids x is)
nothing_owned calls history o none x (by_reply k p step is took opens) = none.coming k is

-- Callers that have no cursor yet are apart, whatever was called before.
pub apart_at_first : (calls : List Call) (owners : List Owner) → ((i : ℕ) (o : Owner) → slice_get owners i ≡ Some o → OwnsNothing o) → AreApart calls owners
apart_at_first calls owners none =
    record {
      holds = λ i o h. let empty = none i o h in record {
        in_log = λ k is. absurd (empty.coming k is);
        given = λ history legal stands x is ne. absurd (ne (empty.ids x is));
        seen = λ history legal stands x is ne. absurd (ne (empty.ids x is));
      };
      apart = λ i j o g ne a b history legal stands x mine theirs. nothing_owned calls history o (none i o a) x mine;
    }

module _ (calls calls' : List Call) (owners : List Owner) (k : ℕ) (o o' : Owner) (at : slice_get owners k ≡ Some o) (passes : Passes calls calls' o o') (all : AreApart calls owners) where
  -- a caller after the turn is the one that had it, or another
  which : (i : ℕ) (g : Owner) → slice_get (slice_set owners k o') i ≡ Some g → ((i ≡ k) × (o' ≡ g)) ⊎ ((i ≡ k → ⊥) × (slice_get owners i ≡ Some g))
  which i g h =
      elim (cases_eq i k) [
        | inl e ↦ inl (e, same_some o' g (sym (get_set_same owners k o o' at) ∙ ap (λ n. slice_get (slice_set owners k o') n) (sym e) ∙ h))
        | inr ne ↦ inr (ne, get_set_other owners k i g o' ne h)
      ]

  -- Another caller is left alone by the turn.
  pub others_onward : (i : ℕ) (g : Owner) → (i ≡ k → ⊥) → slice_get owners i ≡ Some g → Onward calls calls' g
  others_onward i g ne h = passes.onward g (all.holds i g h) (all.apart k i o g (λ e. ne (sym e)) at h)

  others_apart : (i : ℕ) (g : Owner) → (i ≡ k → ⊥) → slice_get owners i ≡ Some g → Apart calls' o' g
  others_apart i g ne h = passes.apart g (all.holds i g h) (all.apart k i o g (λ e. ne (sym e)) at h)

  -- The callers are apart after the turn of one.
  pub apart_after : AreApart calls' (slice_set owners k o')
  apart_after =
      record {
        holds = λ i g h. elim (which i g h) [
          | inl here ↦ subst (Holds calls') here.1 passes.holds
          | inr there ↦ holds_kept calls calls' g (others_onward i g there.0 there.1) (all.holds i g there.1)
        ];
        apart = λ i j g h ne a b. elim (which i g a) [
          | inl here ↦ elim (which j h b) [
            | inl here' ↦ absurd (ne (here.0 ∙ sym here'.0))
            | inr there' ↦ subst (λ (x : Owner). Apart calls' x h) here.1 (others_apart j h there'.0 there'.1)
          ]
          | inr there ↦ elim (which j h b) [
            | inl here' ↦ subst (λ (x : Owner). Apart calls' g x) here'.1 (apart_turned calls' o' g (others_apart i g there.0 there.1))
            | inr there' ↦ apart_still calls calls' g h (others_onward i g there.0 there.1) (all.holds i g there.1) (all.holds j h there'.1) (all.apart i j g h ne there.1 there'.1)
          ]
        ];
      }

-- A log without calls names its own cursors only.
pub names_none_at_first : NamesItsOwn []
names_none_at_first k call x history legal stands found names = absurd cc
