-- What a call of one caller leaves to the others, and which cursors are whose afterwards.
use Rattle.std.proofs.Common.{◌≡◌, ◌≢◌, ◌⊎◌, ℕ, ◌≤◌, ℤ, pos, true, false, List, [], ◌∷◌, ◌++◌, length, Option, Some, None, refl, sym, ap, ◌∙◌, subst, inl, inr, take, arith, append_assoc, append-nil}
use Rattle.std.specs.Prelude.{slice_get}
use Rattle.std.proofs.lemmas.List.{take-append-le, take_all}
use Rattle.mg_server.specs.State.{State, nothing}
use Rattle.mg_server.specs.Commands.{asked}
use Rattle.mg_server.specs.History.{Step, step_after, state_after, IsLegal, IsLegalFrom, state_of, told_at}
use Rattle.mg_link.specs.Log.{Sight, waiting, Call, see}
use Rattle.mg_server.specs.Standing.{Names, OpensId, TookEffect, GivenTo, SeenGiven, Stands}
use Rattle.mg_server.specs.Owner.{IsOf, Owner, nobody, Owns, by_id, by_reply, Holds, Apart, NamesOwn, NoneNames, IsGrown, Earlier, Onward, NamesItsOwn, Passes}
use Rattle.mg_link.proofs.Places.{get_within, get_seam, get_push}
use Rattle.mg_server.proofs.Histories.{state_after-append}
use Rattle.mg_server.proofs.Later.{opens_new}
use Rattle.mg_server.proofs.SelfMade.{front_before}
use Rattle.mg_server.proofs.Owners.{same_some, legal_parts, grown_push, grown_see, grown_refl, grown_on, took_grown, given_on, took_back, given_in_state, BackTo, back_to, stands_without, stands_unseen, see_from, seen_grown}

-- ---- the earlier history

pub legal_nil : (s : State) → IsLegalFrom s []
unfolding IsLegalFrom
legal_nil s = tt

abbrev pub earlier_here : (calls : List Call) (o : Owner) (history : List Step) → IsLegal history → Stands calls history → Earlier calls o history
earlier_here calls o history legal stands =
    record { before = history; tail = []; whole = sym (append-nil history); legal = legal; stands = stands; rest = legal_nil (state_of history); silent = λ x owns given. tt }

-- what was given before was given to the longer log too
pub silent_at : (calls : List Call) (call : Call) (history : List Step) (position : ℕ) (x : ℤ) (b : BackTo calls call history position) → GivenTo calls b.before x → NoneNames b.rest x
silent_at calls call history position x b given =
    let took = subst (λ h. TookEffect (calls ++ call ∷ []) h given.at given.position given.step) (sym b.whole) (took_grown calls (calls ++ call ∷ []) b.before (b.step ∷ b.rest) given.at given.position given.step (grown_push calls call) given.took) in
    let lt = get_within b.before given.position given.step given.took.there in
    let place = b.place in
    b.silent x (record { at = given.at; position = given.position; step = given.step; took = took; opens = given.opens }) (omega arith)

-- a call names none of the caller's cursors
abbrev pub NamesNone : List Call → Call → Owner → Type 0
NamesNone calls call g = (before : List Step) → IsLegal before → Stands calls before → (x : ℤ) → Owns calls before g x → Names (asked call.command) x → ⊥

abbrev pub earlier_some : (calls : List Call) (call : Call) (g : Owner) (history : List Step) (position : ℕ) → BackTo calls call history position → NamesNone calls call g → Earlier calls g history
earlier_some calls call g history position b foreign =
    record {
      before = b.before;
      tail = b.step ∷ b.rest;
      whole = b.whole;
      legal = b.legal;
      stands = b.stands;
      rest = b.onward;
      silent = λ x owns given. ((λ names. foreign b.before b.legal b.stands x owns (subst (λ c. Names (asked c) x) b.command names)), silent_at calls call history position x b given);
    }

nobody_owns : (calls : List Call) (history : List Step) (x : ℤ) → Owns calls history nobody x → ⊥
nobody_owns calls history x (by_id is ne) = is
nobody_owns calls history x (by_reply k p step is took opens) = is

pub nobody_named : (calls : List Call) (call : Call) → NamesNone calls call nobody
nobody_named calls call before legal stands x owns names = nobody_owns calls before x owns

earlier_by : (calls : List Call) (call : Call) (g : Owner) (history : List Step) (position : Option ℕ) → call.position ≡ position → NamesNone calls call g → IsLegal history → Stands (calls ++ call ∷ []) history → Earlier calls g history
earlier_by calls call g history None is foreign legal stands = earlier_here calls g history legal (stands_without calls call history stands is legal)
earlier_by calls call g history (Some position) is foreign legal stands = earlier_some calls call g history position (back_to calls call history stands position is legal) foreign

pub names_owned : (calls : List Call) (o : Owner) (call : Call) (history : List Step) (x : ℤ) → NamesOwn o (asked call.command) → Names (asked call.command) x → Owns calls history o x
names_owned calls o call history x own names = let r = own x names in by_id r.0 r.1

-- ---- what a call of one caller leaves to another

pub onward_refl : (calls : List Call) (g : Owner) → Onward calls calls g
onward_refl calls g = record { grown = grown_refl calls; earlier = λ history legal stands. earlier_here calls g history legal stands }

-- a call that names the cursors of the first caller only leaves the second's alone
pub onward_added : (calls : List Call) (call : Call) (o g : Owner) → NamesOwn o (asked call.command) → Apart calls o g → Onward calls (calls ++ call ∷ []) g
onward_added calls call o g own apart =
    record {
      grown = grown_push calls call;
      earlier = λ history legal stands. earlier_by calls call g history call.position refl
          (λ before legal' stands' x owns names. apart before legal' stands' x (names_owned calls o call before x own names) owns) legal stands;
    }

pub onward_seen : (k : ℕ) (seen : Sight) (calls : List Call) (call : Call) (g : Owner) → slice_get calls k ≡ Some call → call.seen ≡ waiting → Onward calls (see k seen calls) g
onward_seen k seen calls call g found waits =
    record {
      grown = grown_see k seen calls call found waits;
      earlier = λ history legal stands. earlier_here calls g history legal (stands_unseen k seen calls call history found waits stands);
    }

-- the same where it is only known that none is named
pub onward_foreign : (calls : List Call) (call : Call) (g : Owner) → NamesNone calls call g → Onward calls (calls ++ call ∷ []) g
onward_foreign calls call g foreign = record { grown = grown_push calls call; earlier = λ history legal stands. earlier_by calls call g history call.position refl foreign legal stands }

-- a caller's cursors in a longer history that were its before
pub owns_on : (calls calls' : List Call) (before tail : List Step) (g : Owner) (x : ℤ) → IsGrown calls calls' → Owns calls before g x → Owns calls' (before ++ tail) g x
owns_on calls calls' before tail g x grown (by_id is ne) = by_id is ne
owns_on calls calls' before tail g x grown (by_reply k p step is took opens) = by_reply k p step is (took_grown calls calls' before tail k p step grown took) opens

pub owns_back : (calls calls' : List Call) (before tail : List Step) (g : Owner) (x : ℤ) → IsGrown calls calls' → Stands calls before → Holds calls g → Owns calls' (before ++ tail) g x → Owns calls before g x
owns_back calls calls' before tail g x grown stands holds (by_id is ne) = by_id is ne
owns_back calls calls' before tail g x grown stands holds (by_reply k p step is took opens) =
    let c = holds.in_log k is in
    by_reply k p step is (took_back calls calls' before tail k p step c.0 grown stands c.1 took) opens

none_joined : (xs ys : List Step) (x : ℤ) → NoneNames xs x → NoneNames ys x → NoneNames (xs ++ ys) x
none_joined [] ys x a b = b
none_joined (step ∷ xs) ys x a b = (a.0, none_joined xs ys x a.1 b)

legal_joined : (s : State) (xs ys : List Step) → IsLegalFrom s xs → IsLegalFrom (state_after s xs) ys → IsLegalFrom s (xs ++ ys)
unfolding IsLegalFrom state_after
legal_joined s [] ys a b = b
legal_joined s (x ∷ xs) ys a b = (a.0, legal_joined (step_after s x) xs ys a.1 b)

earlier_on : (a b : List Call) (g : Owner) (history : List Step) → IsGrown a b → (second : Earlier b g history) → Earlier a g second.before → Earlier a g history
earlier_on a b g history grown second first =
    record {
      before = first.before;
      tail = first.tail ++ second.tail;
      whole = second.whole ∙ ap (λ h. h ++ second.tail) first.whole ∙ append_assoc first.before first.tail second.tail;
      legal = first.legal;
      stands = first.stands;
      rest = legal_joined (state_of first.before) first.tail second.tail first.rest (subst (λ s. IsLegalFrom s second.tail) (ap state_of first.whole ∙ state_after-append nothing first.before first.tail) second.rest);
      silent = λ x owns given. none_joined first.tail second.tail x (first.silent x owns given)
          (second.silent x
          (subst (λ h. Owns b h g x) (sym first.whole) (owns_on a b first.before first.tail g x grown owns))
          (given_on a b second.before first.before first.tail x grown first.whole given));
    }

pub onward_on : (a b c : List Call) (g : Owner) → Onward a b g → Onward b c g → Onward a c g
onward_on a b c g p q =
    record {
      grown = grown_on a b c p.grown q.grown;
      earlier = λ history legal stands. let second = q.earlier history legal stands in earlier_on a b g history p.grown second (p.earlier second.before second.legal second.stands);
    }

-- a log that grew is not shorter
grown_length : (calls calls' : List Call) → IsGrown calls calls' → length calls ≤ length calls'
grown_length [] calls' grown = omega arith
grown_length (c ∷ calls) calls' grown =
    let last = last_of c calls in
    let there = grown.keeps (length calls) last.0 last.1 in
    let lt = get_within calls' (length calls) there.0 there.1 in
    omega arith
  where
    last_of : (c : Call) (calls : List Call) → (d : Call) × (slice_get (c ∷ calls) (length calls) ≡ Some d)
    last_of c [] = (c, refl)
    last_of c (d ∷ calls) = last_of d calls

pub holds_kept : (calls calls' : List Call) (g : Owner) → Onward calls calls' g → Holds calls g → Holds calls' g
holds_kept calls calls' g onward holds =
    record {
      in_log = λ k is. let c = holds.in_log k is in let r = onward.grown.keeps k c.0 c.1 in (r.0, r.1);
      given = λ history legal stands x is ne. let e = onward.earlier history legal stands in given_on calls calls' history e.before e.tail x onward.grown e.whole (holds.given e.before e.legal e.stands x is ne);
      seen = λ history legal stands x is ne. let e = onward.earlier history legal stands in seen_grown calls calls' (length calls) (length calls') x onward.grown (grown_length calls calls' onward.grown) (holds.seen e.before e.legal e.stands x is ne);
    }

-- each cursor of a caller was given to the log
pub given_of : (calls : List Call) (g : Owner) (history : List Step) (x : ℤ) → Holds calls g → IsLegal history → Stands calls history → Owns calls history g x → GivenTo calls history x
given_of calls g history x holds legal stands (by_id is ne) = holds.given history legal stands x is ne
given_of calls g history x holds legal stands (by_reply k p step is took opens) = record { at = k; position = p; step = step; took = took; opens = opens }

-- two callers that the calls of a third left alone are apart still
pub apart_still : (calls calls' : List Call) (g h : Owner) → Onward calls calls' g → Holds calls g → Holds calls h → Apart calls g h → Apart calls' g h
apart_still calls calls' g h onward a b apart history legal stands x mine theirs =
    let e = onward.earlier history legal stands in
    apart e.before e.legal e.stands x
    (owns_back calls calls' e.before e.tail g x onward.grown e.stands a (subst (λ l. Owns calls' l g x) e.whole mine))
    (owns_back calls calls' e.before e.tail h x onward.grown e.stands b (subst (λ l. Owns calls' l h x) e.whole theirs))

-- ---- which cursors are whose afterwards

-- each cursor that the caller has now was its own before, or is new
abbrev pub OwnsNew : List Call → List Call → Owner → Owner → Owner → List Step → Type 0
OwnsNew calls calls' o o' g history = (e : Earlier calls g history) × ((x : ℤ) → Owns calls' history o' x → Owns calls e.before o x ⊎ ((state_of e.before).given x ≡ false))

apart_by : (calls calls' : List Call) (o o' g : Owner) → IsGrown calls calls' → Holds calls g → Apart calls o g
    → ((history : List Step) → IsLegal history → Stands calls' history → OwnsNew calls calls' o o' g history) → Apart calls' o' g
apart_by calls calls' o o' g grown holds apart each history legal stands x mine theirs =
    let both = each history legal stands in
    let e = both.0 in
    let theirs' = owns_back calls calls' e.before e.tail g x grown e.stands holds (subst (λ h. Owns calls' h g x) e.whole theirs) in
    elim (both.1 x mine) [
      | inl old ↦ apart e.before e.legal e.stands x old theirs'
      | inr new ↦
          let given = given_in_state calls e.before x e.legal (given_of calls g e.before x holds e.legal e.stands theirs') in
          let bad : true ≡ false = sym given ∙ new in
          cc
    ]

-- the call that was added is the log's last
pub took_last : (calls : List Call) (call : Call) (history : List Step) (k p : ℕ) (step : Step) → k ≡ length calls → TookEffect (calls ++ call ∷ []) history k p step → call.position ≡ Some p
took_last calls call history k p step e took =
    let found : slice_get (calls ++ call ∷ []) (length calls) ≡ Some took.call = subst (λ n. slice_get (calls ++ call ∷ []) n ≡ Some took.call) e took.found in
    let same : call ≡ took.call = same_some call took.call (sym (get_seam calls [] call) ∙ found) in
    ap (λ (c : Call). c.position) same ∙ took.placed

-- and its step is the one that the history has there
pub step_last : (calls : List Call) (call : Call) (history : List Step) (p : ℕ) (step : Step) (b : BackTo calls call history p) → slice_get history p ≡ Some step → b.step ≡ step
step_last calls call history p step b there =
    let here : slice_get history p ≡ Some b.step = ap (λ h. slice_get h p) b.whole ∙ subst (λ n. slice_get (b.before ++ b.step ∷ b.rest) n ≡ Some b.step) b.place (get_seam b.before b.rest b.step) in
    same_some b.step step (sym here ∙ there)

-- the ids are among those that the caller had, and it waits for the last call at most
pub record Sends (calls : List Call) (o o' : Owner) : Type 0 where
  pub ids : (x : ℤ) → IsOf o'.ids x → x ≢ pos 0 → IsOf o.ids x
  pub last : (k : ℕ) → IsOf o'.coming (Some k) → k ≡ length calls

owns_none : (calls : List Call) (call : Call) (o o' : Owner) (history : List Step) (x : ℤ) → call.position ≡ None → Sends calls o o' → Owns (calls ++ call ∷ []) history o' x → Owns calls history o x
owns_none calls call o o' history x none sends (by_id is ne) = by_id (sends.ids x is ne) ne
owns_none calls call o o' history x none sends (by_reply k p step is took opens) =
    let placed = took_last calls call history k p step (sends.last k is) took in
    let bad : None ≡ Some p = sym none ∙ placed in
    absurd cc

owns_some : (calls : List Call) (call : Call) (o o' : Owner) (history : List Step) (x : ℤ) (position : ℕ) → call.position ≡ Some position → (b : BackTo calls call history position) → Sends calls o o' → Owns (calls ++ call ∷ []) history o' x
    → Owns calls b.before o x ⊎ ((state_of b.before).given x ≡ false)
owns_some calls call o o' history x position placed b sends (by_id is ne) = inl (by_id (sends.ids x is ne) ne)
owns_some calls call o o' history x position placed b sends (by_reply k p step is took opens) =
    let at = took_last calls call history k p step (sends.last k is) took in
    let same_position : p ≡ position = same_some p position (sym at ∙ placed) in
    let there : slice_get history position ≡ Some step = subst (λ n. slice_get history n ≡ Some step) same_position took.there in
    let same = step_last calls call history position step b there in
    let may = (legal_parts (state_of b.before) b.step b.rest b.onward).0 in
    inr (opens_new (state_of b.before) b.step x may (subst (λ (s : Step). OpensId (told_at s) x) (sym same) opens))

added_by : (calls : List Call) (call : Call) (o o' g : Owner) → NamesOwn o (asked call.command) → Sends calls o o' → Apart calls o g
    → (history : List Step) (position : Option ℕ) → call.position ≡ position → IsLegal history → Stands (calls ++ call ∷ []) history → OwnsNew calls (calls ++ call ∷ []) o o' g history
added_by calls call o o' g own sends apart history None is legal stands =
    (earlier_here calls g history legal (stands_without calls call history stands is legal), λ x owns. inl (owns_none calls call o o' history x is sends owns))
added_by calls call o o' g own sends apart history (Some position) is legal stands =
    let b = back_to calls call history stands position is legal in (
      earlier_some calls call g history position b (λ before legal' stands' x owns names. apart before legal' stands' x (names_owned calls o call before x own names) owns),
      λ x owns. owns_some calls call o o' history x position is b sends owns,
    )

pub apart_added : (calls : List Call) (call : Call) (o o' g : Owner) → NamesOwn o (asked call.command) → Sends calls o o' → Holds calls g → Apart calls o g → Apart (calls ++ call ∷ []) o' g
apart_added calls call o o' g own sends holds apart =
    apart_by calls (calls ++ call ∷ []) o o' g (grown_push calls call) holds apart (λ history legal stands. added_by calls call o o' g own sends apart history call.position refl legal stands)

-- a caller keeps what it holds, and waits for the call that it added
pub holds_added : (calls : List Call) (call : Call) (o o' : Owner) → Sends calls o o' → Holds calls o → Holds (calls ++ call ∷ []) o'
holds_added calls call o o' sends holds =
    record {
      in_log = λ k is. (call, subst (λ n. slice_get (calls ++ call ∷ []) n ≡ Some call) (sym (sends.last k is)) (get_seam calls [] call));
      given = λ history legal stands x is ne.
          let e = earlier_by calls call nobody history call.position refl (nobody_named calls call) legal stands in
          given_on calls (calls ++ call ∷ []) history e.before e.tail x (grown_push calls call) e.whole (holds.given e.before e.legal e.stands x (sends.ids x is ne) ne);
      seen = λ history legal stands x is ne.
          let e = earlier_by calls call nobody history call.position refl (nobody_named calls call) legal stands in
          seen_grown calls (calls ++ call ∷ []) (length calls) (length (calls ++ call ∷ [])) x (grown_push calls call) (grown_length calls (calls ++ call ∷ []) (grown_push calls call)) (holds.seen e.before e.legal e.stands x (sends.ids x is ne) ne);
    }

-- the log names its own cursors still
made_added : (calls : List Call) (call : Call) (o : Owner) → NamesOwn o (asked call.command) → Holds calls o → NamesItsOwn calls → NamesItsOwn (calls ++ call ∷ [])
made_added calls call o own holds made j c x history legal stands found names =
    let grown = grown_push calls call in
    elim (get_push calls call j c found) [
      | inl old ↦
          let lt = get_within calls j c old in
          let front = take-append-le j calls (call ∷ []) (omega (arith, lt)) in
          seen_grown calls (calls ++ call ∷ []) j j x grown (omega arith) (made j c x history legal (subst (λ (l : List Call). Stands l history) front stands) old names)
      | inr new ↦
          let k_is = new.0 in
          let front : take j (calls ++ call ∷ []) ≡ calls = take-append-le j calls (call ∷ []) (omega (arith, k_is)) ∙ take_all j calls (omega (arith, k_is)) in
          let r = own x (subst (λ (d : Call). Names (asked d.command) x) (sym new.1) names) in
          seen_grown calls (calls ++ call ∷ []) (length calls) j x grown (omega (arith, k_is)) (holds.seen history legal (subst (λ (l : List Call). Stands l history) front stands) x r.0 r.1)
    ]

made_seen : (k : ℕ) (seen : Sight) (calls : List Call) (call : Call) → slice_get calls k ≡ Some call → call.seen ≡ waiting → NamesItsOwn calls → NamesItsOwn (see k seen calls)
made_seen k seen calls call found waits made j c x history legal stands at names =
    let old = see_from k seen calls j c at in
    let lt = get_within calls j old.0 old.1 in
    let grown = grown_see k seen calls call found waits in
    seen_grown calls (see k seen calls) j j x grown (omega arith)
    (made j old.0 x history legal (front_before calls (see k seen calls) j history grown (omega (arith, lt)) stands) old.1 (subst (λ (d : List ℕ). Names (asked d) x) old.2 names))

-- A call was added that names the caller's own cursors only.
pub passes_added : (calls : List Call) (call : Call) (o o' : Owner) → NamesOwn o (asked call.command) → Sends calls o o' → Holds calls o → Passes calls (calls ++ call ∷ []) o o'
passes_added calls call o o' own sends holds =
    record {
      holds = holds_added calls call o o' sends holds;
      onward = λ g h apart. onward_added calls call o g own apart;
      apart = λ g h apart. apart_added calls call o o' g own sends h apart;
      made = made_added calls call o own holds;
    }

-- each cursor that the caller has after a call saw something was its own before
abbrev pub OwnsOld : List Call → List Call → Owner → Owner → Type 0
OwnsOld calls calls' o o' = (history : List Step) → IsLegal history → Stands calls history → Stands calls' history → (x : ℤ) → Owns calls' history o' x → Owns calls history o x

pub owns_from : (calls calls' : List Call) (history : List Step) (o o' : Owner) → ((n : ℕ) → IsOf o'.coming (Some n) → ⊥) → ((x : ℤ) → IsOf o'.ids x → x ≢ pos 0 → IsOf o.ids x) → (x : ℤ) → Owns calls' history o' x → Owns calls history o x
owns_from calls calls' history o o' quiet ids x (by_id is ne) = by_id (ids x is ne) ne
owns_from calls calls' history o o' quiet ids x (by_reply k p step is took opens) = absurd (quiet k is)

pub apart_seen : (k : ℕ) (seen : Sight) (calls : List Call) (call : Call) (o o' g : Owner) → slice_get calls k ≡ Some call → call.seen ≡ waiting → OwnsOld calls (see k seen calls) o o' → Holds calls g → Apart calls o g → Apart (see k seen calls) o' g
apart_seen k seen calls call o o' g found waits old holds apart =
    apart_by calls (see k seen calls) o o' g (grown_see k seen calls call found waits) holds apart
    (λ history legal stands.
    let stands' = stands_unseen k seen calls call history found waits stands in
    (earlier_here calls g history legal stands', λ x owns. inl (old history legal stands' stands x owns)))

-- each cursor that the caller has after a call saw something was seen given
abbrev pub SawGiven : List Call → List Call → Owner → Type 0
SawGiven calls calls' o' = (history : List Step) → IsLegal history → Stands calls history → Stands calls' history → (x : ℤ) → IsOf o'.ids x → x ≢ pos 0 → SeenGiven calls' (length calls') x

pub seen_still : (k : ℕ) (seen : Sight) (calls : List Call) (call : Call) (o : Owner) → slice_get calls k ≡ Some call → call.seen ≡ waiting → Holds calls o → (history : List Step) → IsLegal history → Stands calls history → (x : ℤ) → IsOf o.ids x → x ≢ pos 0 → SeenGiven (see k seen calls) (length (see k seen calls)) x
seen_still k seen calls call o found waits holds history legal stands x is ne =
    let grown = grown_see k seen calls call found waits in
    seen_grown calls (see k seen calls) (length calls) (length (see k seen calls)) x grown (grown_length calls (see k seen calls) grown) (holds.seen history legal stands x is ne)

-- a caller that waits for nothing any more holds what was its own
pub holds_seen : (k : ℕ) (seen : Sight) (calls : List Call) (call : Call) (o o' : Owner) → slice_get calls k ≡ Some call → call.seen ≡ waiting → ((n : ℕ) → IsOf o'.coming (Some n) → ⊥) → OwnsOld calls (see k seen calls) o o' → SawGiven calls (see k seen calls) o' → Holds calls o → Holds (see k seen calls) o'
holds_seen k seen calls call o o' found waits quiet old saw holds =
    record {
      in_log = λ n is. absurd (quiet n is);
      given = λ history legal stands x is ne.
          let stands' = stands_unseen k seen calls call history found waits stands in
          let given = given_of calls o history x holds legal stands' (old history legal stands' stands x (by_id is ne)) in
          given_on calls (see k seen calls) history history [] x (grown_see k seen calls call found waits) (sym (append-nil history)) given;
      seen = λ history legal stands x is ne. saw history legal (stands_unseen k seen calls call history found waits stands) stands x is ne;
    }

-- A call that waited saw something.
pub passes_seen : (k : ℕ) (seen : Sight) (calls : List Call) (call : Call) (o o' : Owner) → slice_get calls k ≡ Some call → call.seen ≡ waiting → ((n : ℕ) → IsOf o'.coming (Some n) → ⊥) → OwnsOld calls (see k seen calls) o o' → SawGiven calls (see k seen calls) o' → Holds calls o → Passes calls (see k seen calls) o o'
passes_seen k seen calls call o o' found waits quiet old saw holds =
    record {
      holds = holds_seen k seen calls call o o' found waits quiet old saw holds;
      onward = λ g h apart. onward_seen k seen calls call g found waits;
      apart = λ g h apart. apart_seen k seen calls call o o' g found waits old h apart;
      made = made_seen k seen calls call found waits;
    }

-- The caller went on by itself.
pub passes_here : (calls : List Call) (o o' : Owner) → ((n : ℕ) → IsOf o'.coming (Some n) → ⊥) → ((x : ℤ) → IsOf o'.ids x → x ≢ pos 0 → IsOf o.ids x) → Holds calls o → Passes calls calls o o'
passes_here calls o o' quiet ids holds =
    record {
      holds = record { in_log = λ n is. absurd (quiet n is); given = λ history legal stands x is ne. holds.given history legal stands x (ids x is ne) ne; seen = λ history legal stands x is ne. holds.seen history legal stands x (ids x is ne) ne };
      onward = λ g h apart. onward_refl calls g;
      apart = λ g h apart history legal stands x mine theirs. apart history legal stands x (owns_from calls calls history o o' quiet ids x mine) theirs;
      made = λ made. made;
    }

-- Nothing happened.
pub passes_same : (calls : List Call) (o : Owner) → Holds calls o → Passes calls calls o o
passes_same calls o holds = record { holds = holds; onward = λ g h apart. onward_refl calls g; apart = λ g h apart. apart; made = λ made. made }

pub passes_on : (a b c : List Call) (o o' o'' : Owner) → Passes a b o o' → Passes b c o' o'' → Passes a c o o''
passes_on a b c o o' o'' p q =
    record {
      holds = q.holds;
      onward = λ g h apart. let first = p.onward g h apart in onward_on a b c g first (q.onward g (holds_kept a b g first h) (p.apart g h apart));
      apart = λ g h apart. q.apart g (holds_kept a b g (p.onward g h apart) h) (p.apart g h apart);
      made = λ made. q.made (p.made made);
    }

-- ---- callers without cursors

pub holds_nobody : (calls : List Call) → Holds calls nobody
holds_nobody calls = record { in_log = λ k is. absurd is; given = λ history legal stands x is ne. absurd is; seen = λ history legal stands x is ne. absurd is }

pub apart_nobody : (calls : List Call) (g : Owner) → Apart calls nobody g
apart_nobody calls g history legal stands x mine theirs = nobody_owns calls history x mine

-- A call was added that names no cursor.
pub plain_added : (calls : List Call) (call : Call) → ((x : ℤ) → Names (asked call.command) x → ⊥) → Passes calls (calls ++ call ∷ []) nobody nobody
plain_added calls call none = passes_added calls call nobody nobody (λ x names. absurd (none x names)) (record { ids = λ x is ne. is; last = λ k is. absurd is }) (holds_nobody calls)

-- Its answer came.
pub plain_seen : (k : ℕ) (seen : Sight) (calls : List Call) (call : Call) → slice_get calls k ≡ Some call → call.seen ≡ waiting → Passes calls (see k seen calls) nobody nobody
plain_seen k seen calls call found waits =
    passes_seen k seen calls call nobody nobody found waits (λ n is. is) (λ history legal stands stands' x owns. absurd (nobody_owns (see k seen calls) history x owns)) (λ history legal stands stands' x is ne. absurd is) (holds_nobody calls)
