-- A log goes on standing in a history: behind one more call and step, and with more seen.
use Rattle.std.proofs.Common.{◌≡◌, ◌⊎◌, ℕ, ℤ, zero, suc, ◌<◌, List, [], ◌∷◌, ◌++◌, length, Some, None, refl, sym, ap, ◌∙◌, subst, inl, inr, arith}
use Rattle.std.specs.Prelude.{slice_get, slice_set}
use Rattle.mg_link.specs.Log.{Sight, waiting, reply, Call, see}
use Rattle.mg_server.specs.Commands.{asked}
use Rattle.mg_server.specs.History.{Step}
use Rattle.mg_server.specs.Standing.{Stands, TookEffect, SeenFits, Names}
use Rattle.mg_link.proofs.Places.{get_front, get_within}

pub same_some : {A : Type 0} (x y : A) → Some x ≡ Some y → x ≡ y
same_some x y h = cc

-- ---- elements of lists

-- the last element, and those before it
pub get_push : {A : Type 0} (xs : List A) (x : A) (k : ℕ) (y : A) → slice_get (xs ++ x ∷ []) k ≡ Some y → (slice_get xs k ≡ Some y) ⊎ ((k ≡ length xs) × (x ≡ y))
get_push [] x zero y h = inr (refl, same_some x y h)
get_push [] x (suc k) y h = cc
get_push (z ∷ xs) x zero y h = inl h
get_push (z ∷ xs) x (suc k) y h = elim (get_push xs x k y h) [ inl old ↦ inl old | inr new ↦ inr (ap suc new.0, new.1) ]

pub get_seam : {A : Type 0} (xs ys : List A) (y : A) → slice_get (xs ++ y ∷ ys) (length xs) ≡ Some y
get_seam [] ys y = refl
get_seam (x ∷ xs) ys y = get_seam xs ys y

pub get_front_back : {A : Type 0} (xs ys : List A) (k : ℕ) (x : A) → k < length xs → slice_get (xs ++ ys) k ≡ Some x → slice_get xs k ≡ Some x
get_front_back [] ys k x lt h = absurd (omega arith)
get_front_back (y ∷ xs) ys zero x lt h = h
get_front_back (y ∷ xs) ys (suc k) x lt h = get_front_back xs ys k x (omega arith) h

pub get_push_other : {A : Type 0} (xs : List A) (x : A) (m : ℕ) → (m ≡ length xs → ⊥) → slice_get (xs ++ x ∷ []) m ≡ slice_get xs m
get_push_other [] x zero ne = absurd (ne refl)
get_push_other [] x (suc m) ne = refl
get_push_other (y ∷ xs) x zero ne = refl
get_push_other (y ∷ xs) x (suc m) ne = get_push_other xs x m (λ e. ne (ap suc e))

pub length-set : {A : Type 0} (xs : List A) (k : ℕ) (y : A) → length (slice_set xs k y) ≡ length xs
length-set [] k y = refl
length-set (x ∷ xs) zero y = refl
length-set (x ∷ xs) (suc k) y = ap suc (length-set xs k y)

-- ---- one more call

-- a call that waits is added, whose step is the last of the history, or which has none
module _ (calls : List Call) (call : Call) (history : List Step) (waits : call.seen ≡ waiting) (stands : Stands calls history) where
  new_or_old : (k : ℕ) (c : Call) → slice_get (calls ++ call ∷ []) k ≡ Some c → (slice_get calls k ≡ Some c) ⊎ ((k ≡ length calls) × (call ≡ c))
  new_or_old k c h = get_push calls call k c h

  placed_push : (k : ℕ) (c : Call) (bytes : List ℕ) → slice_get (calls ++ call ∷ []) k ≡ Some c → c.seen ≡ reply bytes → (p : ℕ) × (c.position ≡ Some p)
  placed_push k c bytes found heard =
      elim (new_or_old k c found) [
        | inl old ↦ stands.placed k c bytes old heard
        | inr new ↦ let bad : waiting ≡ reply bytes = sym waits ∙ ap (λ (d : Call). d.seen) new.1 ∙ heard in cc
      ]

  pub stands_unsent : call.position ≡ None → Stands (calls ++ call ∷ []) history
  stands_unsent none =
      record {
        rising = λ i j a b p q lt fa fb pa pb. elim (new_or_old i a fa) [
          | inl old ↦ elim (new_or_old j b fb) [
            | inl old' ↦ stands.rising i j a b p q lt old old' pa pb
            | inr new' ↦ let bad : None ≡ Some q = sym none ∙ ap (λ (d : Call). d.position) new'.1 ∙ pb in cc
          ]
          | inr new ↦ let bad : None ≡ Some p = sym none ∙ ap (λ (d : Call). d.position) new.1 ∙ pa in cc
        ];
        same = λ k c p found at. elim (new_or_old k c found) [
          | inl old ↦ stands.same k c p old at
          | inr new ↦ let bad : None ≡ Some p = sym none ∙ ap (λ (d : Call). d.position) new.1 ∙ at in cc
        ];
        placed = placed_push;
        alone = λ p s x there names g lt.
            let took : TookEffect calls history g.at g.position g.step = elim (new_or_old g.at g.took.call g.took.found) [
              | inl old ↦ record { call = g.took.call; found = old; placed = g.took.placed; there = g.took.there }
              | inr new ↦ let bad : None ≡ Some g.position = sym none ∙ ap (λ (d : Call). d.position) new.1 ∙ g.took.placed in cc
            ] in
            let at = stands.alone p s x there names (record { at = g.at; position = g.position; step = g.step; took = took; opens = g.opens }) lt in
            (at.0, at.1, get_front calls (call ∷ []) at.0 at.1 at.2, at.3);
      }

  pub stands_sent : (step : Step) → step.command ≡ call.command → call.position ≡ Some (length history) → Stands (calls ++ call ∷ []) (history ++ step ∷ [])
  stands_sent step same placed =
      record {
        rising = λ i j a b p q lt fa fb pa pb. elim (new_or_old i a fa) [
          | inl old ↦ elim (new_or_old j b fb) [
            | inl old' ↦ stands.rising i j a b p q lt old old' pa pb
            | inr new' ↦
                let s = stands.same i a p old pa in
                let below = get_within history p s.0 s.1 in
                let e : length history ≡ q = same_some (length history) q (sym placed ∙ ap (λ (d : Call). d.position) new'.1 ∙ pb) in
                omega arith
          ]
          | inr new ↦ elim (new_or_old j b fb) [
            | inl old' ↦ let w = get_within calls j b old' in let e = new.0 in absurd (omega arith)
            | inr new' ↦ let e = new.0 in let e' = new'.0 in absurd (omega arith)
          ]
        ];
        same = λ k c p found at. elim (new_or_old k c found) [
          | inl old ↦ let s = stands.same k c p old at in (s.0, get_front history (step ∷ []) p s.0 s.1, s.2, s.3)
          | inr new ↦
              let e : length history ≡ p = same_some (length history) p (sym placed ∙ ap (λ (d : Call). d.position) new.1 ∙ at) in (
                step,
                subst (λ n. slice_get (history ++ step ∷ []) n ≡ Some step) e (get_seam history [] step),
                same ∙ ap (λ (d : Call). d.command) new.1,
                subst (λ w. SeenFits w step.reply) (sym waits ∙ ap (λ (d : Call). d.seen) new.1) tt,
              )
        ];
        placed = placed_push;
        alone = λ p s x there names g lt. elim (get_push history step p s there) [
          | inl old ↦
              let below = get_within history p s old in
              let took : TookEffect calls history g.at g.position g.step = elim (new_or_old g.at g.took.call g.took.found) [
                | inl o ↦ record { call = g.took.call; found = o; placed = g.took.placed; there = get_front_back history (step ∷ []) g.position g.step (omega arith) g.took.there }
                | inr new ↦
                    let e : length history ≡ g.position = same_some (length history) g.position (sym placed ∙ ap (λ (d : Call). d.position) new.1 ∙ g.took.placed) in
                    absurd (omega arith)
              ] in
              let at = stands.alone p s x old names (record { at = g.at; position = g.position; step = g.step; took = took; opens = g.opens }) lt in
              (at.0, at.1, get_front calls (call ∷ []) at.0 at.1 at.2, at.3)
          | inr new ↦ (length calls, call, get_seam calls [] call, placed ∙ ap Some (sym new.0))
        ];
      }

-- ---- a step of nobody

-- it names no cursor
pub stands_aside : (calls : List Call) (history : List Step) (step : Step) → ((x : ℤ) → Names (asked step.command) x → ⊥) → Stands calls history → Stands calls (history ++ step ∷ [])
stands_aside calls history step none stands =
    record {
      rising = stands.rising;
      same = λ k c p found at. let s = stands.same k c p found at in (s.0, get_front history (step ∷ []) p s.0 s.1, s.2, s.3);
      placed = stands.placed;
      alone = λ p s x there names g lt. elim (get_push history step p s there) [
        | inl old ↦
            let below = get_within history p s old in
            let took : TookEffect calls history g.at g.position g.step = record { call = g.took.call; found = g.took.found; placed = g.took.placed; there = get_front_back history (step ∷ []) g.position g.step (omega arith) g.took.there } in
            stands.alone p s x old names (record { at = g.at; position = g.position; step = g.step; took = took; opens = g.opens }) lt
        | inr new ↦ absurd (none x (subst (λ (y : Step). Names (asked y.command) x) (sym new.1) names))
      ];
    }

-- ---- more seen

-- each call is an old one, or the one that saw it
pub see_old : (k : ℕ) (seen : Sight) (calls : List Call) (j : ℕ) (c : Call) → slice_get (see k seen calls) j ≡ Some c → (slice_get calls j ≡ Some c) ⊎ ((j ≡ k) × ((d : Call) × (slice_get calls j ≡ Some d) × (c ≡ record d { seen = seen })))
see_old k seen [] j c h = cc
see_old zero seen (d ∷ calls) zero c h = inr (refl, (d, refl, sym (same_some (record d { seen = seen }) c h)))
see_old zero seen (d ∷ calls) (suc j) c h = inl h
see_old (suc k) seen (d ∷ calls) zero c h = inl h
see_old (suc k) seen (d ∷ calls) (suc j) c h = elim (see_old k seen calls j c h) [ inl old ↦ inl old | inr new ↦ inr (ap suc new.0, new.1) ]

pub get_see_here : (k : ℕ) (seen : Sight) (calls : List Call) (call : Call) → slice_get calls k ≡ Some call → slice_get (see k seen calls) k ≡ Some (record call { seen = seen })
get_see_here k seen [] call h = cc
get_see_here zero seen (c ∷ calls) call h = ap (λ (d : Call). Some (record d { seen = seen })) (same_some c call h)
get_see_here (suc k) seen (c ∷ calls) call h = get_see_here k seen calls call h

-- what was known of a call but what it has seen
see_same : (k : ℕ) (seen : Sight) (calls : List Call) (j : ℕ) (c : Call) → slice_get (see k seen calls) j ≡ Some c → (d : Call) × (slice_get calls j ≡ Some d) × (d.command ≡ c.command) × (d.position ≡ c.position)
see_same k seen calls j c h =
    elim (see_old k seen calls j c h) [
      | inl old ↦ (c, old, refl, refl)
      | inr new ↦ (new.1.0, new.1.1, ap (λ (x : Call). x.command) (sym new.1.2), ap (λ (x : Call). x.position) (sym new.1.2))
    ]

see_still : (k : ℕ) (seen : Sight) (calls : List Call) (j : ℕ) (c : Call) → slice_get calls j ≡ Some c → (d : Call) × (slice_get (see k seen calls) j ≡ Some d) × (d.position ≡ c.position)
see_still k seen [] j c h = cc
see_still zero seen (d ∷ calls) zero c h = (record d { seen = seen }, refl, ap (λ (x : Call). x.position) (same_some d c h))
see_still zero seen (d ∷ calls) (suc j) c h = (c, h, refl)
see_still (suc k) seen (d ∷ calls) zero c h = (c, h, refl)
see_still (suc k) seen (d ∷ calls) (suc j) c h = see_still k seen calls j c h

-- the call that saw it saw the reply of its step, where it saw a reply
pub stands_see : (k : ℕ) (seen : Sight) (calls : List Call) (history : List Step) → ((d : Call) (p : ℕ) (step : Step) → slice_get calls k ≡ Some d → d.position ≡ Some p → slice_get history p ≡ Some step → SeenFits seen step.reply) → ((d : Call) (bytes : List ℕ) → slice_get calls k ≡ Some d → seen ≡ reply bytes → (p : ℕ) × (d.position ≡ Some p)) → Stands calls history → Stands (see k seen calls) history
stands_see k seen calls history fits heard stands =
    record {
      rising = λ i j a b p q lt fa fb pa pb.
          let a' = see_same k seen calls i a fa in
          let b' = see_same k seen calls j b fb in
          stands.rising i j a'.0 b'.0 p q lt a'.1 b'.1 (a'.3 ∙ pa) (b'.3 ∙ pb);
      same = λ j c p found at. elim (see_old k seen calls j c found) [
        | inl old ↦ stands.same j c p old at
        | inr new ↦
            let d = new.1.0 in
            let at' : d.position ≡ Some p = ap (λ (x : Call). x.position) (sym new.1.2) ∙ at in
            let s = stands.same j d p new.1.1 at' in
            let f = fits d p s.0 (subst (λ n. slice_get calls n ≡ Some d) new.0 new.1.1) at' s.1 in
            (s.0, s.1, s.2 ∙ ap (λ (x : Call). x.command) (sym new.1.2), subst (λ w. SeenFits w s.0.reply) (ap (λ (x : Call). x.seen) (sym new.1.2)) f)
      ];
      placed = λ j c bytes found sees. elim (see_old k seen calls j c found) [
        | inl old ↦ stands.placed j c bytes old sees
        | inr new ↦
            let d = new.1.0 in
            let p = heard d bytes (subst (λ n. slice_get calls n ≡ Some d) new.0 new.1.1) (ap (λ (x : Call). x.seen) (sym new.1.2) ∙ sees) in
            (p.0, ap (λ (x : Call). x.position) new.1.2 ∙ p.1)
      ];
      alone = λ p s x there names g lt.
          let c' = see_same k seen calls g.at g.took.call g.took.found in
          let took : TookEffect calls history g.at g.position g.step = record { call = c'.0; found = c'.1; placed = c'.3 ∙ g.took.placed; there = g.took.there } in
          let at = stands.alone p s x there names (record { at = g.at; position = g.position; step = g.step; took = took; opens = g.opens }) lt in
          let d = see_still k seen calls at.0 at.1 at.2 in
          (at.0, d.0, d.1, d.2 ∙ at.3);
    }
