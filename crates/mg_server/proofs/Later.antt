-- What a step leaves of a state: entries, tokens, ids and the cursors that it does not name.
use Rattle.std.proofs.Common.{◌≡◌, ◌≢◌, ℕ, suc, ◌≤◌, ℤ, pos, Bool, true, false, List, [], ◌∷◌, ◌++◌, length, Option, Some, None, Contains, refl, sym, ap, ap₂, ◌∙◌, subst, inl, inr, arith, le_trans, le_refl, append_assoc, append-nil}
use Rattle.std.specs.Prelude.{if◌then◌else◌}
use Rattle.std.specs.Ordering.{int_eq}
use Rattle.std.specs.Str.{bytes_eq}
use Rattle.std.proofs.lemmas.Bool.{cases_Bool, cond_both}
use Rattle.std.proofs.lemmas.Bool.Decides.{Decides-int_eq}
use Rattle.mg_bson.specs.Tree.{Tree}
use Rattle.mg_server.specs.Filter.{key, is_same}
use Rattle.mg_server.specs.State.{Entry, Cursor, State, nothing, put_cursor, without_cursors, give, name}
use Rattle.mg_server.specs.Commands.{Asked, asks_insert, asks_watch, asks_more, asks_kill, Told, refuses, inserted, opened, gave, killed, garbled, asked, asks_query, asks_update, asks_delete, asks_create, asks_indexes, asks_drop, updated, deleted, done}
use Rattle.mg_server.specs.Step.{Made, Named, grown, effect, name_entries, name_all, entry_names, watching_at, ends_cursor, AreNewNames, AreWithin, MayTell, May, opened_cursor, queried_at}
use Rattle.mg_server.specs.History.{Step, step_after, state_after, IsLegalFrom, state_of, told_at}
use Rattle.mg_server.specs.Standing.{Names, OpensId}
use Rattle.mg_server.specs.Owner.{NoneNames}
use Rattle.mg_server.proofs.Histories.{step_after-changes}
use Rattle.mg_server.proofs.Tokens.{same_key}
use Rattle.mg_server.proofs.Cursoring.{other_int}

-- ---- tokens

-- tokens of the same bytes name the same place
abbrev pub Respects : (Tree → Option ℕ) → Type 0
Respects tokens = (t u : Tree) → is_same t u ≡ true → tokens t ≡ tokens u

same_as : (t u n : Tree) → is_same t u ≡ true → is_same t n ≡ is_same u n
same_as t u n h = ap (λ (k : List ℕ). bytes_eq k (key n)) (same_key t u h)

pub name_respects : (n : Tree) (p : ℕ) (tokens : Tree → Option ℕ) → Respects tokens → Respects (name n p tokens)
name_respects n p tokens r t u h = ap₂ (λ (b : Bool) (o : Option ℕ). if b then Some p else o) (same_as t u n h) (r t u h)

pub all_respect : (ns : List Named) (tokens : Tree → Option ℕ) → Respects tokens → Respects (name_all ns tokens)
all_respect [] tokens r = r
all_respect (n ∷ ns) tokens r = all_respect ns (name n.token n.place tokens) (name_respects n.token n.place tokens r)

name_keeps : (n : Tree) (q : ℕ) (tokens : Tree → Option ℕ) → Respects tokens → tokens n ≡ None → (u : Tree) (p : ℕ) → tokens u ≡ Some p → name n q tokens u ≡ Some p
name_keeps n q tokens r none u p h =
    elim (cases_Bool (is_same u n)) [
      | inl same ↦ let bad : Some p ≡ None = sym h ∙ r u n same ∙ none in absurd cc
      | inr other ↦ ap (λ (b : Bool). if b then Some q else tokens u) other ∙ h
    ]

pub all_keep : (end : ℕ) (ns : List Named) (tokens : Tree → Option ℕ) → Respects tokens → AreNewNames end tokens ns → (u : Tree) (p : ℕ) → tokens u ≡ Some p → name_all ns tokens u ≡ Some p
all_keep end [] tokens r new u p h = h
all_keep end (n ∷ ns) tokens r new u p h = all_keep end ns (name n.token n.place tokens) (name_respects n.token n.place tokens r) new.2 u p (name_keeps n.token n.place tokens r new.0 u p h)

pub entries_as : (place : ℕ) (es : List Entry) (tokens : Tree → Option ℕ) → name_entries place es tokens ≡ name_all (entry_names place es) tokens
entries_as place [] tokens = refl
entries_as place (e ∷ es) tokens = entries_as (suc place) es (name e.token (suc place) tokens)

all_append : (xs ys : List Named) (tokens : Tree → Option ℕ) → name_all (xs ++ ys) tokens ≡ name_all ys (name_all xs tokens)
all_append [] ys tokens = refl
all_append (x ∷ xs) ys tokens = all_append xs ys (name x.token x.place tokens)

-- the tokens of a step, one list
pub grown-tokens : (s : State) (made : Made) → (grown s made).tokens ≡ name_all (entry_names (length s.changes) made.entries ++ made.tokens) s.tokens
unfolding grown
grown-tokens s made = ap (name_all made.tokens) (entries_as (length s.changes) made.entries s.tokens) ∙ sym (all_append (entry_names (length s.changes) made.entries) made.tokens s.tokens)

grown-given : (s : State) (made : Made) → (grown s made).given ≡ s.given
unfolding grown
grown-given s made = refl

pub grown-now : (s : State) (made : Made) → (grown s made).now ≡ made.now
unfolding grown
grown-now s made = refl

-- ---- one state after another

-- none of the entries has an earlier time
abbrev pub AreFrom : ℕ → List Entry → Type 0
AreFrom now [] = Unit {0}
AreFrom now (e ∷ es) = (now ≤ e.time) × AreFrom now es

from_within : (from upto : ℕ) (es : List Entry) → AreWithin from upto es → AreFrom from es
from_within from upto [] h = tt
from_within from upto (e ∷ es) h = (h.0, from_within from upto es h.2)

from_later : (a b : ℕ) (es : List Entry) → a ≤ b → AreFrom b es → AreFrom a es
from_later a b [] le h = tt
from_later a b (e ∷ es) le h = (le_trans le h.0, from_later a b es le h.1)

from_joined : (now : ℕ) (xs ys : List Entry) → AreFrom now xs → AreFrom now ys → AreFrom now (xs ++ ys)
from_joined now [] ys a b = b
from_joined now (x ∷ xs) ys a b = (a.0, from_joined now xs ys a.1 b)

-- The entries begin with those of the other, no token and no id is forgotten, and no time falls.
pub record Later (s t : State) : Type 0 where
  pub now : s.now ≤ t.now
  pub more : List Entry
  pub times : AreFrom s.now more
  pub changes : t.changes ≡ s.changes ++ more
  pub tokens : (u : Tree) (p : ℕ) → s.tokens u ≡ Some p → t.tokens u ≡ Some p
  pub given : (x : ℤ) → s.given x ≡ true → t.given x ≡ true

pub later_refl : (s : State) → Later s s
later_refl s = record { now = le_refl s.now; more = []; times = tt; changes = sym (append-nil s.changes); tokens = λ u p h. h; given = λ x h. h }

pub later_trans : (s t u : State) → Later s t → Later t u → Later s u
later_trans s t u a b =
    record {
      now = le_trans a.now b.now;
      more = a.more ++ b.more;
      times = from_joined s.now a.more b.more a.times (from_later s.now t.now b.more a.now b.times);
      changes = b.changes ∙ ap (λ (l : List Entry). l ++ b.more) a.changes ∙ append_assoc s.changes a.more b.more;
      tokens = λ k p h. b.tokens k p (a.tokens k p h);
      given = λ x h. b.given x (a.given x h);
    }

-- beside what a step adds it takes neither tokens nor ids, and no time passes
pub record TakesNoMore (s t : State) : Type 0 where
  pub now : t.now ≡ s.now
  pub tokens : t.tokens ≡ s.tokens
  pub given : (x : ℤ) → s.given x ≡ true → t.given x ≡ true

keeps_given : (s : State) (id : ℤ) (c : Cursor) → TakesNoMore s (record s { cursors = put_cursor id (Some c) s.cursors; given = give id s.given })
keeps_given s id c = record { now = refl; tokens = refl; given = λ x h. elim (int_eq x id) as (λ (b : Bool). (if b then true else s.given x) ≡ true) [ true ↦ refl | false ↦ h ] }

keeps_same : (s : State) → TakesNoMore s s
keeps_same s = record { now = refl; tokens = refl; given = λ x h. h }

keeps_cursors : (s : State) (cursors : ℤ → Option Cursor) → TakesNoMore s (record s { cursors = cursors })
keeps_cursors s cursors = record { now = refl; tokens = refl; given = λ x h. h }

keeps_opened : (s : State) (id : ℤ) (c : Cursor) → TakesNoMore s (opened_cursor s id c)
keeps_opened s id c = cond_both (int_eq id (pos 0)) s (record s { cursors = put_cursor id (Some c) s.cursors; given = give id s.given }) (TakesNoMore s) (λ h. keeps_same s) (λ h. keeps_given s id c)

pub effect_keeps : (s : State) (command : Asked) (reply : Told) → TakesNoMore s (effect s command reply)
unfolding effect
effect_keeps s (asks_insert space documents ordered) (inserted n failures) = record { now = refl; tokens = refl; given = λ x h. h }
effect_keeps s (asks_update space conditions m many) (updated n changed []) = record { now = refl; tokens = refl; given = λ x h. h }
effect_keeps s (asks_delete space conditions many) (deleted n []) = record { now = refl; tokens = refl; given = λ x h. h }
effect_keeps s (asks_create space) done = record { now = refl; tokens = refl; given = λ x h. h }
effect_keeps s (asks_indexes space indexes) done = record { now = refl; tokens = refl; given = λ x h. h }
effect_keeps s (asks_drop space) done = record { now = refl; tokens = refl; given = λ x h. h }
effect_keeps s (asks_query q) (opened id at documents token time) = keeps_opened s id (queried_at s q at documents)
effect_keeps s (asks_watch watch start) (opened id at events token time) = keeps_opened s id (watching_at s watch token)
effect_keeps s (asks_more id space) (gave left at events token) = keeps_cursors s _
effect_keeps s (asks_more id space) (refuses code labels) =
    cond_both (ends_cursor code) (record s { cursors = put_cursor id None s.cursors }) s (TakesNoMore s) (λ h. keeps_cursors s _) (λ h. keeps_same s)
effect_keeps s (asks_kill ids) killed = keeps_cursors s _
effect_keeps s command reply = keeps_same s

pub later_step : (s : State) (step : Step) → Respects s.tokens → May s (asked step.command) (told_at step) step.made → Later s (step_after s step)
later_step s step r may =
    let g : State = grown s step.made in
    let keeps = effect_keeps g (asked step.command) (told_at step) in
    record {
      now = subst (λ (n : ℕ). s.now ≤ n) (sym (keeps.now ∙ grown-now s step.made)) may.grows.later;
      more = step.made.entries;
      times = from_within s.now step.made.now step.made.entries may.grows.times;
      changes = step_after-changes s step;
      tokens = λ u p h. ap (λ (f : Tree → Option ℕ). f u) (keeps.tokens ∙ grown-tokens s step.made) ∙ all_keep _ (entry_names (length s.changes) step.made.entries ++ step.made.tokens) s.tokens r may.grows.names u p h;
      given = λ x h. keeps.given x (ap (λ (f : ℤ → Bool). f x) (grown-given s step.made) ∙ h);
    }

pub respects_step : (s : State) (step : Step) → Respects s.tokens → Respects (step_after s step).tokens
respects_step s step r =
    let keeps = effect_keeps (grown s step.made) (asked step.command) (told_at step) in
    subst Respects (sym (keeps.tokens ∙ grown-tokens s step.made)) (all_respect (entry_names (length s.changes) step.made.entries ++ step.made.tokens) s.tokens r)

pub later_steps : (s : State) (steps : List Step) → Respects s.tokens → IsLegalFrom s steps → Later s (state_after s steps)
unfolding state_after IsLegalFrom
later_steps s [] r legal = later_refl s
later_steps s (x ∷ steps) r legal = later_trans s (step_after s x) (state_after (step_after s x) steps) (later_step s x r legal.0) (later_steps (step_after s x) steps (respects_step s x r) legal.1)

respects_steps : (s : State) (steps : List Step) → Respects s.tokens → Respects (state_after s steps).tokens
unfolding state_after
respects_steps s [] r = r
respects_steps s (x ∷ steps) r = respects_steps (step_after s x) steps (respects_step s x r)

pub respects_of : (history : List Step) → Respects (state_of history).tokens
respects_of history = respects_steps nothing history (λ t u h. refl)

-- ---- cursors

put_other : (id x : ℤ) (c : Option Cursor) (cursors : ℤ → Option Cursor) → (id ≡ x → ⊥) → put_cursor id c cursors x ≡ cursors x
put_other id x c cursors ne = ap (λ (b : Bool). if b then c else cursors x) (other_int x id (λ e. ne (sym e)))

-- the elements of a list behind its first
pub contains_more : {A : Type 0} (y : A) (ys : List A) (x : A) → Contains ys x → Contains (y ∷ ys) x
contains_more y ys x h = let lt = h.1 in (suc h.0, omega arith, h.2)

without_other : (ids : List ℤ) (x : ℤ) (cursors : ℤ → Option Cursor) → (Contains ids x → ⊥) → without_cursors ids cursors x ≡ cursors x
without_other [] x cursors none = refl
without_other (id ∷ ids) x cursors none =
    without_other ids x (put_cursor id None cursors) (λ h. none (contains_more id ids x h))
    ∙ put_other id x None cursors (λ e. none (0, omega arith, e))

opened_leaves : (s s' : State) (id x : ℤ) (c : Cursor) → (id ≢ pos 0 → s.given id ≡ false) → s.given x ≡ true → (opened_cursor s' id c).cursors x ≡ s'.cursors x
opened_leaves s s' id x c is_fresh given =
    cond_both (int_eq id (pos 0)) s' (record s' { cursors = put_cursor id (Some c) s'.cursors; given = give id s'.given }) (λ (r : State). r.cursors x ≡ s'.cursors x)
    (λ h. refl)
    (λ h. put_other id x (Some c) s'.cursors
    (λ q. let fresh = is_fresh (λ z. let t = (Decides-int_eq id (pos 0)).1 z in let bad : true ≡ false = sym t ∙ h in cc) in let g : s.given id ≡ true = subst (λ (n : ℤ). s.given n ≡ true) (sym q) given in let bad : true ≡ false = sym g ∙ fresh in cc))

-- a step that does not name a cursor which was given before leaves it as it was
effect_leaves : (s s' : State) (command : Asked) (reply : Told) (made : Made) (x : ℤ) → MayTell s s' command reply made → s.given x ≡ true → (Names command x → ⊥) → (effect s' command reply).cursors x ≡ s'.cursors x
unfolding effect
effect_leaves s s' (asks_insert space documents ordered) (inserted n failures) made x may given none = refl
effect_leaves s s' (asks_update space conditions m many) (updated n changed []) made x may given none = refl
effect_leaves s s' (asks_delete space conditions many) (deleted n []) made x may given none = refl
effect_leaves s s' (asks_query q) (opened id at documents token time) made x may given none = opened_leaves s s' id x (queried_at s' q at documents) may.fresh given
effect_leaves s s' (asks_watch watch start) (opened id at events token time) made x may given none = opened_leaves s s' id x (watching_at s' watch token) may.fresh given
effect_leaves s s' (asks_create space) done made x may given none = refl
effect_leaves s s' (asks_indexes space indexes) done made x may given none = refl
effect_leaves s s' (asks_drop space) done made x may given none = refl
effect_leaves s s' (asks_more id space) (gave left at events token) made x may given none = put_other id x _ s'.cursors none
effect_leaves s s' (asks_more id space) (refuses code labels) made x may given none =
    cond_both (ends_cursor code) (record s' { cursors = put_cursor id None s'.cursors }) s' (λ (r : State). r.cursors x ≡ s'.cursors x) (λ h. put_other id x None s'.cursors none) (λ h. refl)
effect_leaves s s' (asks_kill ids) killed made x may given none = without_other ids x s'.cursors none
effect_leaves s s' command reply made x may given none = refl

pub grown-cursors : (s : State) (made : Made) → (grown s made).cursors ≡ s.cursors
unfolding grown
grown-cursors s made = refl

pub leaves_step : (s : State) (step : Step) (x : ℤ) → May s (asked step.command) (told_at step) step.made → s.given x ≡ true → (Names (asked step.command) x → ⊥) → (step_after s step).cursors x ≡ s.cursors x
leaves_step s step x may given none =
    effect_leaves s (grown s step.made) (asked step.command) (told_at step) step.made x may.tells given none ∙ ap (λ (f : ℤ → Option Cursor). f x) (grown-cursors s step.made)

pub leaves_steps : (s : State) (steps : List Step) (x : ℤ) → Respects s.tokens → IsLegalFrom s steps → s.given x ≡ true → NoneNames steps x → (state_after s steps).cursors x ≡ s.cursors x
unfolding state_after IsLegalFrom
leaves_steps s [] x r legal given none = refl
leaves_steps s (step ∷ steps) x r legal given none =
    leaves_steps (step_after s step) steps x (respects_step s step r) legal.1 ((later_step s step r legal.0).given x given) none.1
    ∙ leaves_step s step x legal.0 given none.0

-- ---- ids

opened_gives : (s s' : State) (id x : ℤ) (c : Cursor) → (id ≢ pos 0 → s.given id ≡ false) → (id ≡ x) × (x ≢ pos 0) → (s.given x ≡ false) × ((opened_cursor s' id c).given x ≡ true)
opened_gives s s' id x c is_fresh opens =
    let there : id ≢ pos 0 = λ z. opens.1 (sym opens.0 ∙ z) in (
      subst (λ (n : ℤ). s.given n ≡ false) opens.0 (is_fresh there),
      ap (λ (b : Bool). (if b then s' else record s' { cursors = put_cursor id (Some c) s'.cursors; given = give id s'.given }).given x) (other_int id (pos 0) there)
          ∙ ap (λ (b : Bool). if b then true else s'.given x) ((Decides-int_eq x id).1 (sym opens.0)),
    )

-- a reply that opens a cursor gives its id
effect_gives : (s s' : State) (command : Asked) (reply : Told) (made : Made) (x : ℤ) → MayTell s s' command reply made → OpensId reply x → (s.given x ≡ false) × ((effect s' command reply).given x ≡ true)
unfolding effect
effect_gives s s' (asks_query q) (opened id at documents token time) made x may opens = opened_gives s s' id x (queried_at s' q at documents) may.fresh opens
effect_gives s s' (asks_watch watch start) (opened id at events token time) made x may opens = opened_gives s s' id x (watching_at s' watch token) may.fresh opens
effect_gives s s' command (opened id at events token time) made x may opens = absurd may
effect_gives s s' command (refuses code labels) made x may opens = absurd opens
effect_gives s s' command (inserted n failures) made x may opens = absurd opens
effect_gives s s' command (updated n changed failures) made x may opens = absurd opens
effect_gives s s' command (deleted n failures) made x may opens = absurd opens
effect_gives s s' command done made x may opens = absurd opens
effect_gives s s' command (gave id space events token) made x may opens = absurd opens
effect_gives s s' command killed made x may opens = absurd opens
effect_gives s s' command garbled made x may opens = absurd opens

pub opens_given : (s : State) (step : Step) (x : ℤ) → May s (asked step.command) (told_at step) step.made → OpensId (told_at step) x → (step_after s step).given x ≡ true
opens_given s step x may opens = (effect_gives s (grown s step.made) (asked step.command) (told_at step) step.made x may.tells opens).1

-- and it was not given before
pub opens_new : (s : State) (step : Step) (x : ℤ) → May s (asked step.command) (told_at step) step.made → OpensId (told_at step) x → s.given x ≡ false
opens_new s step x may opens = (effect_gives s (grown s step.made) (asked step.command) (told_at step) step.made x may.tells opens).0
