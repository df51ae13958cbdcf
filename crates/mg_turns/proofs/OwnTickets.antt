-- The tickets that a turn is shown, and the polls of its newest call.
use Rattle.std.proofs.Common.{◌≡◌, ◌⊎◌, ◌+◌, ◌-◌, ◌^◌, ◌<◌, ◌≤◌, ◌++◌, ◌∷◌, [], List, length, min, ℕ, zero, suc, Bool, true, false, Option, Some, None, refl, sym, ap, ◌∙◌, subst, inl, inr, arith, length-append}
use Rattle.std.specs.Prelude.{is_some, IsSome, nat_eq, if◌then◌else◌}
use Rattle.std.proofs.lemmas.Bool.{cases_eq, eq-eqb, ne_eqb}
use Rattle.mg_link.specs.Acts.{IsOut}
use Rattle.mg_link.specs.Causes.{one_if}
use Rattle.mg_link.specs.Link.{Awaited, Ends, OneMore, OneMoreAt, Polls, SamePolls, Sees, Sends, Starts, LogTold, Waits}
use Rattle.mg_link.specs.Log.{Sight, Call, waiting, fault, see}
use Rattle.mg_link.proofs.Outs.{length-see}
use Rattle.mg_turns.specs.Counts.{IsNewest, IsOwnTurn, NewestAt, sent_last, was_held, PolledBy, PolledNewest, StartedBy, is_held, shown}

same_some : {A : Type 0} (x y : A) → Some x ≡ Some y → x ≡ y
same_some x y h = cc

-- ---- what is shown

abbrev shown_by : Bool → Bool → Option ℕ → Option ℕ
shown_by mine was now = if mine then now else (if was then None else now)

some_shown : (mine was : Bool) (now : Option ℕ) → IsSome (shown_by mine was now) → shown_by mine was now ≡ now
some_shown true was now out = refl
some_shown false true now out = absurd cc
some_shown false false now out = refl

-- what is shown is out with that call
pub shown_out : (held : Option ℕ) (began now : Awaited) (n : ℕ) → IsSome (shown held began now n) → shown held began now n ≡ now n
shown_out held began now n out = some_shown (is_held held n) (is_some (began n)) (now n) out

pub none_is_not : (o : Option ℕ) → o ≡ None → IsSome o → ⊥
none_is_not o none out = let bad : false ≡ true = ap (λ x. is_some x) (sym none) ∙ out in cc

pub cases_held : (b : Bool) → (b ≡ true) ⊎ (b ≡ false)
cases_held true = inl refl
cases_held false = inr refl

held_eq : (n : ℕ) → nat_eq n n ≡ true
held_eq n = eq-eqb n n refl

eq_held : (m n : ℕ) → nat_eq m n ≡ true → m ≡ n
eq_held m n e = elim (cases_eq m n) [
  | inl is ↦ is
  | inr ne ↦ (let bad : true ≡ false = sym e ∙ ne_eqb m n ne in absurd cc)
]

pub is_held_so : (held : Option ℕ) (n : ℕ) → held ≡ Some n → is_held held n ≡ true
is_held_so held n is = ap (λ o. is_held o n) is ∙ held_eq n

pub held_is : (held : Option ℕ) (n : ℕ) → is_held held n ≡ true → held ≡ Some n
held_is None n e = cc
held_is (Some m) n e = ap Some (eq_held m n e)

-- the ticket that the job held is shown
pub shown_held : (held : Option ℕ) (began now : Awaited) (n : ℕ) → held ≡ Some n → shown held began now n ≡ now n
shown_held held began now n is = ap (λ b. shown_by b (is_some (began n)) (now n)) (is_held_so held n is)

new_shown : (mine : Bool) (was now : Option ℕ) → was ≡ None → shown_by mine (is_some was) now ≡ now
new_shown true was now none = refl
new_shown false None now none = refl
new_shown false (Some m) now none = cc

-- so is one that was not out
pub shown_new : (held : Option ℕ) (began now : Awaited) (n : ℕ) → began n ≡ None → shown held began now n ≡ now n
shown_new held began now n none = new_shown (is_held held n) (began n) (now n) none

hidden_by : (mine was : Bool) (now : Option ℕ) → mine ≡ false → was ≡ true → shown_by mine was now ≡ None
hidden_by true was now mine out = cc
hidden_by false false now mine out = cc
hidden_by false true now mine out = refl

-- what is shown is not another's
pub shown_own : (held : Option ℕ) (began now : Awaited) (n : ℕ) → IsSome (shown held began now n) → is_held held n ≡ false → IsSome (began n) → ⊥
shown_own held began now n out mine was =
    let bad : false ≡ true = ap (λ o. is_some o) (sym (hidden_by (is_held held n) (is_some (began n)) (now n) mine was)) ∙ out in
    cc

-- one that stays as it is is shown as it was
shown_same : (held : Option ℕ) (began old new : Awaited) (n : ℕ) → new n ≡ old n → IsSome (shown held began new n) → IsSome (shown held began old n)
shown_same held began old new n same out = subst (λ (o : Option ℕ). IsSome (shown_by (is_held held n) (is_some (began n)) o)) same out

pub none_if : (o : Option ℕ) (b : Bool) → b ≡ is_some o → b ≡ false → o ≡ None
none_if None b is e = refl
none_if (Some n) b is e = cc

-- ---- the log

abbrev pub IsLonger : LogTold → LogTold → Type 0
IsLonger to to' = (calls : List Call) → to ≡ Some calls → (calls' : List Call) × (to' ≡ Some calls') × (length calls ≤ length calls')

pub started_longer : (n : ℕ) (from to : LogTold) → StartedBy n from to → IsLonger from to
started_longer n from to started calls told = let s = started calls told in let more = s.2 in (s.0, s.1, omega (arith, more))

abbrev IsAsLong : LogTold → LogTold → Type 0
IsAsLong to to' = (calls : List Call) → to ≡ Some calls → (calls' : List Call) × (to' ≡ Some calls') × (length calls' ≡ length calls)

same_long : (log log' : LogTold) → log' ≡ log → IsAsLong log log'
same_long log log' e calls told = (calls, e ∙ told, refl)

sees_long : (log log' : LogTold) (place : Option ℕ) (seen : Sight) → Sees log log' place seen → IsAsLong log log'
sees_long log log' place seen sees calls told = let s = sees calls told in (see s.0 seen calls, s.5, length-see s.0 seen calls)

-- ---- polls

pub polled_map : (n : ℕ) (own own' : ℕ → Type 0) (before now : Polls) → ((place : ℕ) → own place → own' place) → PolledBy n own before now → PolledBy n own' before now
polled_map zero own own' before now to p = p
polled_map (suc n) own own' before now to p = (p.0, polled_map n own own' before p.0 to p.1, (p.2.0, to p.2.0 p.2.1, p.2.2))

one_more_same : (place : ℕ) (between now now' : Polls) → SamePolls now now' → OneMore place between now → OneMore place between now'
one_more_same place between now now' same one = record { here = same place ∙ one.here; rest = λ other ne. same other ∙ one.rest other ne }

polled_same : (n : ℕ) (own : ℕ → Type 0) (before now now' : Polls) → SamePolls now now' → PolledBy n own before now → PolledBy n own before now'
polled_same zero own before now now' same p = λ place. same place ∙ p place
polled_same (suc n) own before now now' same p = (p.0, p.1, (p.2.0, p.2.1, one_more_same p.2.0 p.0 now now' same p.2.2))

none_polled : (n : ℕ) (own own' : ℕ → Type 0) (before now now' : Polls) → n ≡ 0 → SamePolls now now' → PolledBy n own before now → PolledBy n own' before now'
none_polled zero own own' before now now' none same p = λ place. same place ∙ p place
none_polled (suc n) own own' before now now' none same p = absurd (omega (arith, none))

module _ (held : Option ℕ) (began : Awaited) (from : LogTold) (before : Polls) where
  -- a turn begins
  pub own_begun : (now : Awaited) (to : LogTold) (out : Option ℕ) (polls : Polls) → now ≡ began → to ≡ from → out ≡ held → polls ≡ before → IsOwnTurn held began now from to out 0 before polls
  own_begun now to out polls same log is counts = record {
    others = λ n mine there. ap (λ (a : Awaited). a n) same;
    only = λ n there. elim (cases_held (is_held held n)) [
      | inl mine ↦ is ∙ held_is held n mine
      | inr other ↦ absurd (shown_own held began now n there other (subst (λ (o : Option ℕ). IsSome o) (shown_out held began now n there ∙ ap (λ (a : Awaited). a n) same) there))
    ];
    newest = λ n place e at calls told. (calls, log ∙ told, was_held refl n (sym is ∙ e) (sym (ap (λ (a : Awaited). a n) same) ∙ at));
    polls = λ few place. ap (λ (p : Polls). p place) counts;
  }

  still_newest : (calls mid new : List Call) (place : ℕ) → length new ≡ length mid → NewestAt held began calls mid place → NewestAt held began calls new place
  still_newest calls mid new place long (sent_last less last) = sent_last (omega (arith, long, less)) (omega (arith, long, last))
  still_newest calls mid new place long (was_held same n holds at) = was_held (omega (arith, long, same)) n holds at

  newest_on : (to to' : LogTold) → IsAsLong to to' → (place : ℕ) → IsNewest held began from to place → IsNewest held began from to' place
  newest_on to to' long place newest calls told =
      let it = newest calls told in
      let on = long it.0 it.1 in
      (on.0, on.1, still_newest calls it.0 on.0 place on.2 it.2)

  -- ---- a start

  module _ (old new : Awaited) (to to' : LogTold) (command : List ℕ) (out : Option ℕ) (none : out ≡ None) (pended : ℕ) (none_pended : pended ≡ 0) (polls polls' : Polls) (same : SamePolls polls polls') (was : IsOwnTurn held began old from to out pended before polls) where
    not_shown : (n : ℕ) → IsSome (shown held began old n) → ⊥
    not_shown n there = let bad : None ≡ Some n = sym none ∙ was.only n there in absurd cc

    fresh_other : (number n : ℕ) → old number ≡ None → is_held held n ≡ false → IsSome (began n) → n ≡ number → ⊥
    fresh_other number n fresh mine there e =
        let stays : old n ≡ began n = was.others n mine there in
        let gone : old n ≡ None = ap old e ∙ fresh in
        none_is_not (began n) (sym stays ∙ gone) there

    -- a turn goes on by a start
    pub own_started : (number : ℕ) → Starts old new to to' number command → IsLonger from to → IsOwnTurn held began new from to' (Some number) pended before polls'
    own_started number s grown = record {
      others = λ n mine there. s.rest n (fresh_other number n s.fresh mine there) ∙ was.others n mine there;
      only = λ n there. elim (cases_eq n number) [
        | inl e ↦ ap (λ m. Some m) (sym e)
        | inr ne ↦ absurd (not_shown n (shown_same held began old new n (s.rest n ne) there))
      ];
      newest = λ n place is at calls told.
          let g = grown calls told in
          let a = s.adds g.0 g.1 in
          let one : Call = record { command = command; position = a.0; seen = waiting } in
          let here : place ≡ length g.0 = same_some place (length g.0) (sym at ∙ ap new (sym (same_some number n is)) ∙ s.place g.0 g.1) in
          let more = g.2 in
          let sum = length-append g.0 (one ∷ []) in
          (g.0 ++ one ∷ [], a.1, sent_last (omega (arith, more, sum)) (omega (arith, here, sum)));
      polls = λ few. none_polled pended (IsNewest held began from to) (IsNewest held began from to') before polls polls' none_pended same (was.polls few);
    }

    -- it goes on by one that was lost
    pub own_lost : Sends old new to to' command fault → IsOwnTurn held began new from to' out pended before polls'
    own_lost s = record {
      others = λ n mine there. s.rest n ∙ was.others n mine there;
      only = λ n there. was.only n (shown_same held began old new n (s.rest n) there);
      newest = λ n place is at. let bad : None ≡ Some n = sym none ∙ is in absurd cc;
      polls = λ few. none_polled pended (IsNewest held began from to) (IsNewest held began from to') before polls polls' none_pended same (was.polls few);
    }

  -- ---- a poll

  module _ (old new : Awaited) (to to' : LogTold) (ticket : ℕ) (there : IsSome (shown held began old ticket)) (out : Option ℕ) (pended : ℕ) (polls polls' : Polls) (was : IsOwnTurn held began old from to out pended before polls) where
    one_polled : (o : Option ℕ) → old ticket ≡ o → OneMoreAt o polls polls' → (place : ℕ) × IsNewest held began from to place × OneMore place polls polls'
    one_polled None at more = let bad : false ≡ true = ap (λ x. is_some x) (sym at) ∙ ap (λ x. is_some x) (sym (shown_out held began old ticket there)) ∙ there in cc
    one_polled (Some place) at more = (place, was.newest ticket place (was.only ticket there) at, more place refl)

    -- a turn goes on by a poll that pended
    pub own_pended : (given more : ℕ) → Waits old new to to' ticket given → OneMoreAt (old ticket) polls polls' → more ≡ min (pended + 1) (2 ^ 64 - 1) → IsOwnTurn held began new from to' out more before polls'
    own_pended given more w one is =
        let long = same_long to to' w.log_same in
        record {
          others = λ n mine out. w.rest n ∙ was.others n mine out;
          only = λ n out. was.only n (shown_same held began old new n (w.rest n) out);
          newest = λ n place e at. newest_on to to' long place (was.newest n place e (sym (w.rest n) ∙ at));
          polls = λ few.
              let next : more ≡ suc pended = omega (arith, few, is) in
              let own = one_polled (old ticket) refl one in
              subst (λ m. PolledBy m (IsNewest held began from to') before polls') (sym next)
              (polls, polled_map pended (IsNewest held began from to) (IsNewest held began from to') before polls (newest_on to to' long) (was.polls (omega (arith, few, next))), (own.0, newest_on to to' long own.0 own.1, own.2));
        }

    not_other : (n : ℕ) → is_held held n ≡ false → IsSome (began n) → n ≡ ticket → ⊥
    not_other n mine out e = shown_own held began old ticket there (subst (λ (m : ℕ). is_held held m ≡ false) e mine) (subst (λ (m : ℕ). IsSome (began m)) e out)

    gone_shown : (n : ℕ) → new ticket ≡ None → IsSome (shown held began new n) → n ≡ ticket → ⊥
    gone_shown n gone out e = none_is_not (new n) (ap new e ∙ gone) (subst (λ (o : Option ℕ). IsSome o) (shown_out held began new n out) out)

    -- it goes on by a poll that answered
    pub own_answered : (seen : Sight) → Ends old new to to' ticket seen → SamePolls polls polls' → IsOwnTurn held began new from to' None pended before polls'
    own_answered seen e same =
        let long = sees_long to to' (old ticket) seen e.sees in
        record {
          others = λ n mine out. e.rest n (not_other n mine out) ∙ was.others n mine out;
          only = λ n out.
              let ne = gone_shown n e.gone out in
              let it = was.only n (shown_same held began old new n (e.rest n ne) out) in
              absurd (ne (same_some n ticket (sym it ∙ was.only ticket there)));
          newest = λ n place is at. absurd cc;
          polls = λ few. polled_same pended (IsNewest held began from to') before polls polls' same (polled_map pended (IsNewest held began from to) (IsNewest held began from to') before polls (newest_on to to' long) (was.polls few));
        }

-- ---- behind a turn

few_pended : (pended : Bool) → one_if pended < 2 ^ 64 - 1
few_pended true = omega arith
few_pended false = omega arith

pub newest_of : (held after : Option ℕ) (began now : Awaited) (from to : LogTold) (out : Option ℕ) (pended : Bool) (n : ℕ) (polls polls' : Polls) → n ≡ one_if pended → IsOut (shown held began now) after → IsOwnTurn held began now from to out n polls polls' → PolledNewest pended held after began now from to polls polls'
newest_of held after began now from to out pended n polls polls' is holds was = record {
  polled = subst (λ m. PolledBy m (IsNewest held began from to) polls polls') is (was.polls (subst (λ m. m < 2 ^ 64 - 1) (sym is) (few_pended pended)));
  holds = λ m place e at. was.newest m place (was.only m (holds m e)) at;
}
