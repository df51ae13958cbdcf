-- The calls of one caller leave what others know of their cursors.
use Rattle.std.proofs.Common.{◌≡◌, ◌⊎◌, ℕ, zero, suc, ◌<◌, ◌≤◌, ℤ, true, List, [], ◌∷◌, ◌++◌, length, Option, Some, None, refl, sym, ap, ◌∙◌, subst, inl, inr, take, arith, append_assoc, length-append}
use Rattle.std.specs.Prelude.{slice_get}
use Rattle.std.proofs.lemmas.List.{take_at}
use Rattle.mg_server.specs.State.{State, nothing}
use Rattle.mg_server.specs.Commands.{asked, told}
use Rattle.mg_server.specs.Step.{May}
use Rattle.mg_server.specs.History.{Step, step_after, state_after, IsLegal, IsLegalFrom, state_of, told_at}
use Rattle.mg_link.specs.Log.{Sight, waiting, reply, Call, see}
use Rattle.mg_server.specs.Standing.{OpensId, TookEffect, GivenTo, SeenGiven, Stands, first_of, cut}
use Rattle.mg_server.specs.Owner.{NoneNames, IsGrown}
use Rattle.mg_link.proofs.Places.{get_front, get_within, get_seam, get_push, split_at}
use Rattle.mg_server.proofs.Histories.{state_after-append}
use Rattle.mg_server.proofs.Fronts.{front_stands, unseen_stands}
use Rattle.mg_server.proofs.Later.{later_steps, respects_of, respects_step, opens_given}

pub same_some : {A : Type 0} (x y : A) → Some x ≡ Some y → x ≡ y
same_some x y h = cc

-- ---- legal histories in two parts

pub legal_front : (s : State) (xs ys : List Step) → IsLegalFrom s (xs ++ ys) → IsLegalFrom s xs
unfolding IsLegalFrom
legal_front s [] ys l = tt
legal_front s (x ∷ xs) ys l = (l.0, legal_front (step_after s x) xs ys l.1)

pub legal_back : (s : State) (xs ys : List Step) → IsLegalFrom s (xs ++ ys) → IsLegalFrom (state_after s xs) ys
unfolding IsLegalFrom state_after
legal_back s [] ys l = l
legal_back s (x ∷ xs) ys l = legal_back (step_after s x) xs ys l.1

pub legal_parts : (s : State) (x : Step) (xs : List Step) → IsLegalFrom s (x ∷ xs) → May s (asked x.command) (told_at x) x.made × IsLegalFrom (step_after s x) xs
unfolding IsLegalFrom
legal_parts s x xs l = l

pub after_cons : (s : State) (x : Step) (xs : List Step) → state_after s (x ∷ xs) ≡ state_after (step_after s x) xs
unfolding state_after
after_cons s x xs = refl

after_none : (s : State) → state_after s [] ≡ s
unfolding state_after
after_none s = refl

pub state_one : (before : List Step) (step : Step) → state_of (before ++ step ∷ []) ≡ step_after (state_of before) step
state_one before step = state_after-append nothing before (step ∷ []) ∙ after_cons (state_of before) step [] ∙ after_none (step_after (state_of before) step)

-- ---- a log that grew

pub grown_refl : (calls : List Call) → IsGrown calls calls
grown_refl calls = record { keeps = λ k c h. (c, h, refl, refl, λ bytes e. e) }

pub grown_push : (calls : List Call) (call : Call) → IsGrown calls (calls ++ call ∷ [])
grown_push calls call = record { keeps = λ k c h. (c, get_front calls (call ∷ []) k c h, refl, refl, λ bytes e. e) }

pub grown_on : (a b c : List Call) → IsGrown a b → IsGrown b c → IsGrown a c
grown_on a b c p q = record { keeps = λ k call h. let x = p.keeps k call h in let y = q.keeps k x.0 x.1 in (y.0, y.1, y.2 ∙ x.2, y.3 ∙ x.3, λ bytes e. y.4 bytes (x.4 bytes e)) }

pub took_grown : (calls calls' : List Call) (history more : List Step) (k p : ℕ) (step : Step) → IsGrown calls calls' → TookEffect calls history k p step → TookEffect calls' (history ++ more) k p step
took_grown calls calls' history more k p step grown t =
    let g = grown.keeps k t.call t.found in
    record { call = g.0; found = g.1; placed = g.3 ∙ t.placed; there = get_front history more p step t.there }

pub given_grown : (calls calls' : List Call) (history more : List Step) (x : ℤ) → IsGrown calls calls' → GivenTo calls history x → GivenTo calls' (history ++ more) x
given_grown calls calls' history more x grown g =
    record { at = g.at; position = g.position; step = g.step; took = took_grown calls calls' history more g.at g.position g.step grown g.took; opens = g.opens }

-- the same, in a history that is this one with more
pub given_on : (calls calls' : List Call) (history before tail : List Step) (x : ℤ) → IsGrown calls calls' → history ≡ before ++ tail → GivenTo calls before x → GivenTo calls' history x
given_on calls calls' history before tail x grown whole g = subst (λ h. GivenTo calls' h x) (sym whole) (given_grown calls calls' before tail x grown g)

-- what took effect for a call of the shorter log did so in the earlier history
pub took_back : (calls calls' : List Call) (history more : List Step) (k p : ℕ) (step : Step) (call : Call) → IsGrown calls calls' → Stands calls history → slice_get calls k ≡ Some call → TookEffect calls' (history ++ more) k p step → TookEffect calls history k p step
took_back calls calls' history more k p step call grown stands found t =
    let g = grown.keeps k call found in
    let e : t.call ≡ g.0 = same_some t.call g.0 (sym t.found ∙ g.1) in
    let placed : call.position ≡ Some p = sym g.3 ∙ sym (ap (λ (c : Call). c.position) e) ∙ t.placed in
    let s = stands.same k call p found placed in
    let same : s.0 ≡ step = same_some s.0 step (sym (get_front history more p s.0 s.1) ∙ t.there) in
    record { call = call; found = found; placed = placed; there = s.1 ∙ ap Some same }

-- a cursor that was given to the log is among the ids that were given
pub given_in_state : (calls : List Call) (history : List Step) (x : ℤ) → IsLegal history → GivenTo calls history x → (state_of history).given x ≡ true
given_in_state calls history x legal g =
    let at = split_at history g.position g.step g.took.there in
    let back = legal_back nothing at.front (g.step ∷ at.back) (subst (λ h. IsLegal h) at.whole legal) in
    let parts = legal_parts (state_of at.front) g.step at.back back in
    let here = opens_given (state_of at.front) g.step x parts.0 g.opens in
    let respects = respects_step (state_of at.front) g.step (respects_of at.front) in
    let there = (later_steps (step_after (state_of at.front) g.step) at.back respects parts.1).given x here in
    let e : state_of history ≡ state_after (step_after (state_of at.front) g.step) at.back = ap state_of at.whole ∙ state_after-append nothing at.front (g.step ∷ at.back) ∙ after_cons (state_of at.front) g.step at.back in
    subst (λ (s : State). s.given x ≡ true) (sym e) there

-- ---- how a history was when the last call of the log took effect

pub record BackTo (calls : List Call) (call : Call) (history : List Step) (position : ℕ) : Type 0 where
  pub before : List Step
  pub step : Step
  pub rest : List Step
  pub whole : history ≡ before ++ step ∷ rest
  pub place : length before ≡ position
  pub legal : IsLegal before
  pub stands : Stands calls before
  pub command : step.command ≡ call.command
  pub onward : IsLegalFrom (state_of before) (step ∷ rest)
  pub silent : (x : ℤ) (g : GivenTo (calls ++ call ∷ []) history x) → g.position ≤ position → NoneNames rest x

module _ (calls : List Call) (call : Call) (history : List Step) (stands : Stands (calls ++ call ∷ []) history) where
  -- every position of the log is at most that of its last call
  pub highest : (position : ℕ) → call.position ≡ Some position → (k : ℕ) (c : Call) (p : ℕ) → slice_get (calls ++ call ∷ []) k ≡ Some c → c.position ≡ Some p → p ≤ position
  highest position placed k c p found at =
      elim (get_push calls call k c found) [
        | inl old ↦
            let lt = stands.rising k (length calls) c call p position (get_within calls k c old) found (get_seam calls [] call) at placed in
            omega arith
        | inr new ↦
            let e : p ≡ position = same_some p position (sym at ∙ sym (ap (λ (d : Call). d.position) new.1) ∙ placed) in
            omega arith
      ]

  silent_from : (position : ℕ) → call.position ≡ Some position → (x : ℤ) (g : GivenTo (calls ++ call ∷ []) history x) → g.position ≤ position → (front back : List Step) → history ≡ front ++ back → position < length front → NoneNames back x
  silent_from position placed x g le front [] whole far = tt
  silent_from position placed x g le front (step ∷ back) whole far =
      let there : slice_get history (length front) ≡ Some step = ap (λ h. slice_get h (length front)) whole ∙ get_seam front back step in (
        (λ names.
            let at = stands.alone (length front) step x there names g (omega arith) in
            let low = highest position placed at.0 at.1 (length front) at.2 at.3 in
            absurd (omega arith)),
        silent_from position placed x g le (front ++ step ∷ []) back (whole ∙ sym (append_assoc front (step ∷ []) back)) (omega (arith, length-append front (step ∷ []))),
      )

  pub back_to : (position : ℕ) → call.position ≡ Some position → IsLegal history → BackTo calls call history position
  back_to position placed legal =
      let s = stands.same (length calls) call position (get_seam calls [] call) placed in
      let at = split_at history position s.0 s.1 in
      let legal' = subst (λ h. IsLegal h) at.whole legal in
      let front : take position history ≡ at.front = ap (take position) at.whole ∙ take_at at.front (s.0 ∷ at.back) position at.place in
      let parts = subst (λ o. IsLegal (cut o history) × Stands calls (cut o history)) (ap (λ (o : Option ℕ). first_of o None) placed) (front_stands calls (call ∷ []) history legal stands) in
      record {
        before = at.front;
        step = s.0;
        rest = at.back;
        whole = at.whole;
        place = at.place;
        legal = legal_front nothing at.front (s.0 ∷ at.back) legal';
        stands = subst (Stands calls) front parts.1;
        command = s.2;
        onward = legal_back nothing at.front (s.0 ∷ at.back) legal';
        silent = λ x g le. silent_from position placed x g le (at.front ++ s.0 ∷ []) at.back (at.whole ∙ sym (append_assoc at.front (s.0 ∷ []) at.back)) (let p = at.place in omega (arith, length-append at.front (s.0 ∷ [])));
      }

  -- a call that never took effect changes nothing
  pub stands_without : call.position ≡ None → IsLegal history → Stands calls history
  stands_without none legal =
      let parts = subst (λ o. IsLegal (cut o history) × Stands calls (cut o history)) (ap (λ (o : Option ℕ). first_of o None) none) (front_stands calls (call ∷ []) history legal stands) in
      parts.1

-- ---- a call saw something

see_back : (k : ℕ) (seen : Sight) (calls : List Call) (call : Call) → slice_get calls k ≡ Some call → call.seen ≡ waiting → see k waiting (see k seen calls) ≡ calls
see_back k seen [] call found waits = cc
see_back zero seen (c ∷ calls) call found waits =
    let same : c ≡ call = same_some c call found in
    let w : waiting ≡ c.seen = sym waits ∙ sym (ap (λ (d : Call). d.seen) same) in
    ap (λ (s : Sight). record c { seen = s } ∷ calls) w
see_back (suc k) seen (c ∷ calls) call found waits = ap (λ (l : List Call). c ∷ l) (see_back k seen calls call found waits)

pub stands_unseen : (k : ℕ) (seen : Sight) (calls : List Call) (call : Call) (history : List Step) → slice_get calls k ≡ Some call → call.seen ≡ waiting → Stands (see k seen calls) history → Stands calls history
stands_unseen k seen calls call history found waits stands =
    subst (λ (l : List Call). Stands l history) (see_back k seen calls call found waits) (unseen_stands (see k seen calls) history k stands)

pub see_here : (k : ℕ) (seen : Sight) (calls : List Call) (call : Call) → slice_get calls k ≡ Some call → slice_get (see k seen calls) k ≡ Some (record call { seen = seen })
see_here k seen [] call h = cc
see_here zero seen (c ∷ calls) call h = ap (λ (d : Call). Some (record d { seen = seen })) (same_some c call h)
see_here (suc k) seen (c ∷ calls) call h = see_here k seen calls call h

see_get : (k : ℕ) (seen : Sight) (calls : List Call) (j : ℕ) (call : Call) → slice_get calls j ≡ Some call → (call' : Call) × (slice_get (see k seen calls) j ≡ Some call') × (call'.command ≡ call.command) × (call'.position ≡ call.position) × ((call'.seen ≡ call.seen) ⊎ (j ≡ k))
see_get k seen [] j call h = cc
see_get zero seen (c ∷ calls) zero call h = let e = same_some c call h in (record c { seen = seen }, refl, ap (λ (d : Call). d.command) e, ap (λ (d : Call). d.position) e, inr refl)
see_get zero seen (c ∷ calls) (suc j) call h = (call, h, refl, refl, inl refl)
see_get (suc k) seen (c ∷ calls) zero call h = (call, h, refl, refl, inl refl)
see_get (suc k) seen (c ∷ calls) (suc j) call h =
    let r = see_get k seen calls j call h in
    (r.0, r.1, r.2, r.3, elim r.4 [ inl e ↦ inl e | inr e ↦ inr (ap suc e) ])

pub grown_see : (k : ℕ) (seen : Sight) (calls : List Call) (call : Call) → slice_get calls k ≡ Some call → call.seen ≡ waiting → IsGrown calls (see k seen calls)
grown_see k seen calls call found waits =
    record {
      keeps = λ j c h.
          let r = see_get k seen calls j c h in (
            r.0,
            r.1,
            r.2,
            r.3,
            λ bytes e. elim r.4 [
              | inl same ↦ same ∙ e
              | inr here ↦
                  let one : c ≡ call = same_some c call (sym h ∙ ap (λ n. slice_get calls n) here ∙ found) in
                  let bad : waiting ≡ reply bytes = sym waits ∙ sym (ap (λ (d : Call). d.seen) one) ∙ e in
                  absurd cc
            ],
          );
    }

-- a call of the log behind an answer, as it was before
pub see_from : (k : ℕ) (seen : Sight) (calls : List Call) (j : ℕ) (call : Call) → slice_get (see k seen calls) j ≡ Some call → (old : Call) × (slice_get calls j ≡ Some old) × (call.command ≡ old.command)
see_from k seen [] j call h = absurd cc
see_from zero seen (c ∷ calls) zero call h = let e = same_some (record c { seen = seen }) call h in (c, refl, ap (λ (d : Call). d.command) (sym e))
see_from zero seen (c ∷ calls) (suc j) call h = (call, h, refl)
see_from (suc k) seen (c ∷ calls) zero call h = (call, h, refl)
see_from (suc k) seen (c ∷ calls) (suc j) call h = see_from k seen calls j call h

-- a cursor that was seen given was so in a longer log
pub seen_grown : (calls calls' : List Call) (k k' : ℕ) (x : ℤ) → IsGrown calls calls' → k ≤ k' → SeenGiven calls k x → SeenGiven calls' k' x
seen_grown calls calls' k k' x grown le g =
    let r = grown.keeps g.at g.call g.found in
    let lt = g.earlier in
    record {
      at = g.at;
      call = r.0;
      bytes = g.bytes;
      earlier = omega arith;
      found = r.1;
      saw = r.4 g.bytes g.saw;
      opens = subst (λ (c : List ℕ). OpensId (told (asked c) g.bytes) x) (sym r.2) g.opens;
    }
