-- The tickets of jobs over turns.
use Rattle.std.proofs.Common.{◌≡◌, ℕ, zero, suc, ℤ, true, false, List, [], ◌∷◌, ◌++◌, length, Some, None, Result, Ok, Err, refl, sym, ap, ◌∙◌, subst, inl, inr, ◌⊎◌}
use Rattle.std.specs.Prelude.{slice_get, slice_set, IsSome, is_some, OnErr, ⊤}
use Rattle.std.proofs.lemmas.Bool.{cases_eq}
use Rattle.mg_link.specs.Link.{Awaited, LogTold}
use Rattle.mg_link.specs.declared.error.Error.{Error}
use Rattle.mg_server.proofs.Owners.{same_some}
use Rattle.mg_link.proofs.Places.{get_set_other, get_set_same}
use Rattle.mg_players.specs.Puts.{Supply}
use Rattle.mg_players.specs.Playing.{IsSameFollow, job_ticket}
use Rattle.mg_players.specs.Runs.{MayAllGo, AreNew, AreSameJobs, CanGo, Goes, IsNew, IsSameJob}
use Rattle.mg_script.specs.Plan.{Task}
use Rattle.mg_players.specs.declared.follow.FollowPlayer.{FollowPlayer}
use Rattle.mg_players.specs.declared.player.Player.{Player}
use Rattle.mg_players.specs.declared.player.Player.TheVariants as player

not_out : (old : Awaited) (m : ℕ) → old m ≡ None → IsSome (old m) → ⊥
not_out old m none out = let bad : false ≡ true = ap (λ o. is_some o) (sym none) ∙ out in cc

module _ {so : Supply → Task → Type 0} (old new : Awaited) (log log' : LogTold) (wire : ℤ) (players : List Player) (k : ℕ) (p p' : Player) (at : slice_get players k ≡ Some p) (apart : MayAllGo old wire players) (goes : Goes so old new log log' wire p p') where
  pub which : (i : ℕ) (a : Player) → slice_get (slice_set players k p') i ≡ Some a → ((i ≡ k) × (p' ≡ a)) ⊎ ((i ≡ k → ⊥) × (slice_get players i ≡ Some a))
  which i a h =
      elim (cases_eq i k) [
        | inl e ↦ inl (e, same_some p' a (sym (get_set_same players k p p' at) ∙ ap (λ n. slice_get (slice_set players k p') n) (sym e) ∙ h))
        | inr ne ↦ inr (ne, get_set_other players k i a p' ne h)
      ]

  -- another's ticket stays as it was
  pub stays : (i : ℕ) (a : Player) → (i ≡ k → ⊥) → slice_get players i ≡ Some a → (m : ℕ) → job_ticket a ≡ Some m → new m ≡ old m
  stays i a ne h m e = goes.tickets.rest m (λ e'. apart.distinct i k a p m ne h at e e') ((apart.each i a h).out m e)

  -- the ticket of the job whose turn it was is no other's
  alone : (i : ℕ) (a : Player) (n : ℕ) → (i ≡ k → ⊥) → slice_get players i ≡ Some a → job_ticket a ≡ Some n → job_ticket p' ≡ Some n → ⊥
  alone i a n ne h e e' =
      elim (goes.tickets.origin n e') [
        | inl had ↦ apart.distinct i k a p n ne h at e had
        | inr none ↦ not_out old n none ((apart.each i a h).out n e)
      ]

  each_after : (i : ℕ) (a : Player) → slice_get (slice_set players k p') i ≡ Some a → CanGo new wire a
  each_after i a h =
      elim (which i a h) [
        | inl here ↦ subst (λ (q : Player). CanGo new wire q) here.1 (record { out = goes.tickets.held; holds = goes.holds })
        | inr there ↦ record {
          out = λ m e. subst (λ o. IsSome o) (sym (stays i a there.0 there.1 m e)) ((apart.each i a there.1).out m e);
          holds = (apart.each i a there.1).holds;
        }
      ]

  distinct_after : (i j : ℕ) (a b : Player) (n : ℕ) → (i ≡ j → ⊥) → slice_get (slice_set players k p') i ≡ Some a → slice_get (slice_set players k p') j ≡ Some b → job_ticket a ≡ Some n → job_ticket b ≡ Some n → ⊥
  distinct_after i j a b n ne ha hb ea eb =
      elim (which i a ha) [
        | inl here ↦ elim (which j b hb) [
          | inl here' ↦ ne (here.0 ∙ sym here'.0)
          | inr there' ↦ alone j b n there'.0 there'.1 eb (ap (λ (x : Player). job_ticket x) here.1 ∙ ea)
        ]
        | inr there ↦ elim (which j b hb) [
          | inl here' ↦ alone i a n there.0 there.1 ea (ap (λ (x : Player). job_ticket x) here'.1 ∙ eb)
          | inr there' ↦ apart.distinct i j a b n ne there.1 there'.1 ea eb
        ]
      ]

  -- a turn of one job leaves all apart
  pub apart_turn : MayAllGo new wire (slice_set players k p')
  apart_turn = record { each = each_after; distinct = distinct_after }

-- the same over a wire version that is the same
pub stands_after : {so : Supply → Task → Type 0} (old new : Awaited) (log log' : LogTold) (wire wire' : ℤ) (players : List Player) (k : ℕ) (p p' : Player) → wire' ≡ wire → slice_get players k ≡ Some p → MayAllGo old wire players → Goes so old new log log' wire' p p' → MayAllGo new wire' (slice_set players k p')
stands_after old new log log' wire wire' players k p p' same at apart goes = apart_turn old new log log' wire' players k p p' at (subst (λ w. MayAllGo old w players) (sym same) apart) goes

-- jobs that have done nothing are apart over any link
pub apart_new : (awaited : Awaited) (wire : ℤ) (players : List Player) → AreNew players → MayAllGo awaited wire players
apart_new awaited wire players new =
    record {
      each = λ i p h. record {
        out = λ m e. let bad : None ≡ Some m = sym (new i p h).no_ticket ∙ e in cc;
        holds = (new i p h).holds wire;
      };
      distinct = λ i j p q n ne hp hq ep eq. let bad : None ≡ Some n = sym (new i p hp).no_ticket ∙ ep in cc;
    }

get_push : {A : Type 0} (xs : List A) (y : A) (i : ℕ) (z : A) → slice_get (xs ++ y ∷ []) i ≡ Some z → (slice_get xs i ≡ Some z) ⊎ (y ≡ z)
get_push [] y zero z h = inr (same_some y z h)
get_push [] y (suc i) z h = cc
get_push (x ∷ xs) y zero z h = inl h
get_push (x ∷ xs) y (suc i) z h = get_push xs y i z h

pub new_more : (players : List Player) (p : Player) → AreNew players → IsNew p → AreNew (players ++ p ∷ [])
new_more players p new is i q h = elim (get_push players p i q h) [ inl e ↦ new i q e | inr e ↦ subst (λ (r : Player). IsNew r) e is ]

-- ---- jobs that stay the same

same_follow : (f : FollowPlayer) → IsSameFollow f f
same_follow f = record { watched_same = refl; stage_same = refl; left_same = refl; opened_same = refl; answers_same = refl; token_same = refl; alive_same = refl; closed_same = refl }

pub same_job : (p : Player) → IsSameJob p p
same_job (player.Insert insert) = refl
same_job (player.Follow follow) = (follow, refl, same_follow follow)
same_job (player.Put job) = refl
same_job (player.Get job) = refl

-- a follow that found no place is the same
pub follow_same : (r : Result ⊤ Error) (f f' : FollowPlayer) → OnErr r (IsSameFollow f f') → OnErr r (IsSameJob (player.Follow f) (player.Follow f'))
follow_same (Ok x) f f' same = tt
follow_same (Err e) f f' same = (f', refl, same)

pub length_set : {A : Type 0} (xs : List A) (k : ℕ) (y : A) → length (slice_set xs k y) ≡ length xs
length_set [] k y = refl
length_set (z ∷ xs) zero y = refl
length_set (z ∷ xs) (suc k) y = ap suc (length_set xs k y)

pub same_at : (players : List Player) (k : ℕ) (p p' : Player) → slice_get players k ≡ Some p → IsSameJob p p' → AreSameJobs players (slice_set players k p')
same_at players k p p' at same =
    record {
      count = length_set players k p';
      each = λ i a a' ha ha'. elim (cases_eq i k) [
        | inl e ↦
            let here : p ≡ a = same_some p a (sym at ∙ ap (λ n. slice_get players n) (sym e) ∙ ha) in
            let here' : p' ≡ a' = same_some p' a' (sym (get_set_same players k p p' at) ∙ ap (λ n. slice_get (slice_set players k p') n) (sym e) ∙ ha') in
            subst (λ (b : Player). IsSameJob b a') here (subst (λ (b : Player). IsSameJob p b) here' same)
        | inr ne ↦
            let there : a ≡ a' = same_some a a' (sym ha ∙ get_set_other players k i a' p' ne ha') in
            subst (λ (b : Player). IsSameJob a b) there (same_job a)
      ];
    }

pub same_jobs : (players : List Player) → AreSameJobs players players
same_jobs players = record {
  count = refl;
  each = λ i p p' h h'. subst (λ (b : Player). IsSameJob p b) (same_some p p' (sym h ∙ h')) (same_job p);
}

pub on_err : {T E P : Type 0} (r : Result T E) → P → OnErr r P
on_err (Ok x) p = tt
on_err (Err e) p = p

pub on_err_to : {T E P Q : Type 0} (r : Result T E) → (P → Q) → OnErr r P → OnErr r Q
on_err_to (Ok x) f p = tt
on_err_to (Err e) f p = f p

-- jobs are apart over the same wire version, by another name
pub apart_as : (awaited : Awaited) (wire wire' : ℤ) (players : List Player) → wire' ≡ wire → MayAllGo awaited wire players → MayAllGo awaited wire' players
apart_as awaited wire wire' players same apart = subst (λ w. MayAllGo awaited w players) (sym same) apart
