-- A cursor of a query holds no more documents the longer it stands.
use Rattle.std.proofs.Common.{◌≡◌, ◌≢◌, ◌≤◌, ◌+◌, ◌-◌, ℕ, zero, suc, ℤ, pos, Bool, true, false, List, [], ◌∷◌, ◌++◌, take, Option, Some, None, refl, sym, ap, ◌∙◌, subst, inl, inr, arith}
use Rattle.std.specs.Prelude.{drop, if◌then◌else◌, length, slice_get, unwrap_or}
use Rattle.std.proofs.lemmas.List.{take-append-drop}
use Rattle.std.proofs.lemmas.Bool.Decides.{Decides-int_eq}
use Rattle.std.specs.Ordering.{int_eq}
use Rattle.mg_bson.specs.Tree.{Tree, Fields}
use Rattle.mg_link.specs.Namespace.{Space}
use Rattle.mg_server.specs.Query.{Query, result}
use Rattle.mg_server.specs.State.{Cursor, State, give, nothing, put_cursor, query, watching}
use Rattle.mg_server.specs.Commands.{Asked, asks_insert, asks_update, asks_delete, asks_query, asks_watch, asks_more, asks_kill, asks_create, asks_indexes, asks_drop, Told, refuses, inserted, updated, deleted, done, opened, gave, killed, asked}
use Rattle.mg_server.specs.Step.{May, effect, ends_cursor, grown, moved, queried_at, watching_at}
use Rattle.mg_server.specs.History.{Step, step_after, state_after, state_of, told_at, IsLegal, IsLegalFrom}
use Rattle.mg_server.specs.Standing.{OpensId}
use Rattle.mg_server.proofs.Cursoring.{put_is, kept_from}
use Rattle.mg_server.proofs.Later.{Respects, grown-cursors, later_step, opens_new, respects_of, respects_step}
use Rattle.mg_server.proofs.Histories.{state_after-append}
use Rattle.mg_server.proofs.Owners.{legal_back, same_some, state_one}
use Rattle.mg_link.proofs.Places.{take_more}

-- the cursor holds so many documents at most
abbrev pub HoldsFew : ℕ → Cursor → Type 0
HoldsFew n (watching w place) = ⊥
HoldsFew n (query space left) = length left ≤ n

few_drop : (k n : ℕ) (ds : List Fields) → length ds ≤ n → length (drop k ds) ≤ n
few_drop zero n ds few = few
few_drop (suc k) n [] few = few
few_drop (suc k) n (d ∷ ds) few = few_drop k n ds (omega (arith, few))

pub few_behind : (xs ys : List Fields) → length (drop (length xs) (xs ++ ys)) ≡ length ys
few_behind [] ys = refl
few_behind (x ∷ xs) ys = few_behind xs ys

-- where a cursor that stands behind a step comes from
data Origin (s : State) (command : Asked) (reply : Told) (x : ℤ) (c : Cursor) : Type 0 where
  stood : (d : Cursor) → s.cursors x ≡ Some d → ((n : ℕ) → HoldsFew n d → HoldsFew n c) → Origin s command reply x c
  came : OpensId reply x → Origin s command reply x c

put_origin : (s : State) (command : Asked) (reply : Told) (id x : ℤ) (c d : Cursor) → (id ≡ x → OpensId reply x) → put_cursor id (Some d) s.cursors x ≡ Some c → Origin s command reply x c
put_origin s command reply id x c d opens h =
    elim (put_is id (Some d) s.cursors x c h) [
      | inl here ↦ came (opens (sym here.0))
      | inr before ↦ stood c before (λ n w. w)
    ]

opened_origin : (s : State) (command : Asked) (reply : Told) (id x : ℤ) (c d : Cursor) (b : Bool) → int_eq id (pos 0) ≡ b → ((id ≡ pos 0 → ⊥) → id ≡ x → OpensId reply x)
    → (if b then s else record s { cursors = put_cursor id (Some d) s.cursors; given = give id s.given }).cursors x ≡ Some c → Origin s command reply x c
opened_origin s command reply id x c d true e opens h = stood c h (λ n w. w)
opened_origin s command reply id x c d false e opens h =
    put_origin s command reply id x c d (opens (λ z. let t : int_eq id (pos 0) ≡ true = ap (λ (n : ℤ). int_eq n (pos 0)) z in let bad : true ≡ false = sym t ∙ e in cc)) h

nonzero_opens : (id x : ℤ) → (id ≡ pos 0 → ⊥) → id ≡ x → (id ≡ x) × (x ≡ pos 0 → ⊥)
nonzero_opens id x ne e = (e, λ z. ne (e ∙ z))

moved_origin : (s : State) (command : Asked) (reply : Told) (x : ℤ) (c : Cursor) (given : List Fields) (token : Option Tree) (o : Option Cursor) → s.cursors x ≡ o → moved s given token o ≡ Some c → Origin s command reply x c
moved_origin s command reply x c given token None e h = absurd cc
moved_origin s command reply x c given token (Some (watching w place)) e h = stood (watching w place) e (λ n y. absurd y)
moved_origin s command reply x c given token (Some (query space left)) e h = let same : query space (drop (length given) left) ≡ c = cc in stood (query space left) e (λ n y. subst (HoldsFew n) same (few_drop (length given) n left y))

more_origin : (s : State) (command : Asked) (reply : Told) (id x : ℤ) (c : Cursor) (given : List Fields) (token : Option Tree) (b : Bool) → put_cursor id (if b then None else moved s given token (s.cursors id)) s.cursors x ≡ Some c → Origin s command reply x c
more_origin s command reply id x c given token true h =
    elim (put_is id None s.cursors x c h) [ inl here ↦ absurd (let e : None ≡ Some c = here.1 in cc) | inr before ↦ stood c before (λ n w. w) ]
more_origin s command reply id x c given token false h =
    elim (put_is id (moved s given token (s.cursors id)) s.cursors x c h) [
      | inl here ↦ moved_origin s command reply x c given token (s.cursors id) (ap s.cursors here.0) here.1
      | inr before ↦ stood c before (λ n w. w)
    ]

ended_origin : (s : State) (command : Asked) (reply : Told) (id x : ℤ) (c : Cursor) (b : Bool) → (if b then record s { cursors = put_cursor id None s.cursors } else s).cursors x ≡ Some c → Origin s command reply x c
ended_origin s command reply id x c true h = more_origin s command reply id x c [] None true h
ended_origin s command reply id x c false h = stood c h (λ n w. w)

origin : (s : State) (command : Asked) (reply : Told) (x : ℤ) (c : Cursor) → (effect s command reply).cursors x ≡ Some c → Origin s command reply x c
unfolding effect
origin s (asks_query q) (opened id at documents token time) x c h =
    opened_origin s (asks_query q) (opened id at documents token time) id x c (queried_at s q at documents) (int_eq id (pos 0)) refl (nonzero_opens id x) h
origin s (asks_watch w start) (opened id at events token time) x c h =
    opened_origin s (asks_watch w start) (opened id at events token time) id x c (watching_at s w token) (int_eq id (pos 0)) refl (nonzero_opens id x) h
origin s (asks_more id space) (gave left at events token) x c h = more_origin s (asks_more id space) (gave left at events token) id x c events token (int_eq left (pos 0)) h
origin s (asks_more id space) (refuses code labels) x c h = ended_origin s (asks_more id space) (refuses code labels) id x c (ends_cursor code) h
origin s (asks_kill ids) killed x c h = stood c (kept_from ids s.cursors x c h) (λ n w. w)
origin s (asks_insert space documents ordered) (inserted n failures) x c h = stood c h (λ n w. w)
origin s (asks_update space conditions m many) (updated n changed []) x c h = stood c h (λ n w. w)
origin s (asks_delete space conditions many) (deleted n []) x c h = stood c h (λ n w. w)
origin s (asks_create space) done x c h = stood c h (λ n w. w)
origin s (asks_indexes space indexes) done x c h = stood c h (λ n w. w)
origin s (asks_drop space) done x c h = stood c h (λ n w. w)
origin s command reply x c h = stood c h (λ n w. w)

-- ---- along a history

-- the cursor, where it stands, holds so few
abbrev pub FewOnly : ℕ → State → ℤ → Type 0
FewOnly n s x = (c : Cursor) → s.cursors x ≡ Some c → HoldsFew n c

not_both : {A : Type 0} (b : Bool) → b ≡ true → b ≡ false → A
not_both b t f = let bad : true ≡ false = sym t ∙ f in cc

step_few : (n : ℕ) (s : State) (step : Step) (x : ℤ) → May s (asked step.command) (told_at step) step.made → s.given x ≡ true → FewOnly n s x → FewOnly n (step_after s step) x
step_few n s step x may given few c h =
    elim (origin (grown s step.made) (asked step.command) (told_at step) x c h) [
      | stood d e f ↦ f n (few d (ap (λ (g : ℤ → Option Cursor). g x) (sym (grown-cursors s step.made)) ∙ e))
      | came opens ↦ not_both (s.given x) given (opens_new s step x may opens)
    ]

steps_few : (n : ℕ) (s : State) (steps : List Step) (p : ℕ) (x : ℤ) → Respects s.tokens → IsLegalFrom s steps → s.given x ≡ true → FewOnly n s x → FewOnly n (state_after s (take p steps)) x
unfolding state_after IsLegalFrom
steps_few n s steps zero x r legal given few = few
steps_few n s [] (suc p) x r legal given few = few
steps_few n s (step ∷ steps) (suc p) x r legal given few = steps_few n (step_after s step) steps p x (respects_step s step r) legal.1 ((later_step s step r legal.0).given x given) (step_few n s step x legal.0 given few)

take_parts : (p k q : ℕ) (steps : List Step) → p + k ≡ q → take q steps ≡ take p steps ++ take k (drop p steps)
take_parts zero k q steps sum = let same : q ≡ k = omega (arith, sum) in ap (λ (n : ℕ). take n steps) same
take_parts (suc p) k zero steps sum = let bad : ⊥ = omega (arith, sum) in absurd bad
take_parts (suc p) zero (suc q) [] sum = refl
take_parts (suc p) (suc k) (suc q) [] sum = refl
take_parts (suc p) k (suc q) (step ∷ steps) sum = let less : p + k ≡ q = omega (arith, sum) in ap (λ (l : List Step). step ∷ l) (take_parts p k q steps less)

given_on : (s : State) (steps : List Step) (p : ℕ) (x : ℤ) → Respects s.tokens → IsLegalFrom s steps → s.given x ≡ true → (state_after s (take p steps)).given x ≡ true
unfolding state_after IsLegalFrom
given_on s steps zero x r legal given = given
given_on s [] (suc p) x r legal given = given
given_on s (step ∷ steps) (suc p) x r legal given = given_on (step_after s step) steps p x (respects_step s step r) legal.1 ((later_step s step r legal.0).given x given)

-- the id was given, and its cursor holds so few
pub record IsFew (history : List Step) (p n : ℕ) (x : ℤ) : Type 0 where
  pub given : (state_of (take p history)).given x ≡ true
  pub few : FewOnly n (state_of (take p history)) x

-- so it is later
pub later_few : (history : List Step) (p q n : ℕ) (x : ℤ) → IsLegal history → p ≤ q → IsFew history p n x → IsFew history q n x
later_few history p q n x legal less f =
    let k : ℕ = q - p in
    let sum : p + k ≡ q = omega (arith, less) in
    let s : State = state_of (take p history) in
    let whole : take p history ++ drop p history ≡ history = take-append-drop p history in
    let rest : IsLegalFrom s (drop p history) = legal_back nothing (take p history) (drop p history) (subst IsLegal (sym whole) legal) in
    let same : state_of (take q history) ≡ state_after s (take k (drop p history)) = ap state_of (take_parts p k q history sum) ∙ state_after-append nothing (take p history) (take k (drop p history)) in
    record {
      given = ap (λ (t : State). t.given x) same ∙ given_on s (drop p history) k x (respects_of (take p history)) rest f.given;
      few = subst (λ (t : State). FewOnly n t x) (sym same) (steps_few n s (drop p history) k x (respects_of (take p history)) rest f.given f.few);
    }

-- ---- behind a step that opened it, or gave a batch of it

-- the state behind a step
pub state_behind : (history : List Step) (p : ℕ) (step : Step) → slice_get history p ≡ Some step → state_of (take (suc p) history) ≡ step_after (state_of (take p history)) step
state_behind history p step there = ap state_of (take_more history p step there) ∙ state_one (take p history) step

put_here : (id : ℤ) (o : Option Cursor) (cursors : ℤ → Option Cursor) (b : Bool) → int_eq id id ≡ b → (if b then o else cursors id) ≡ o
put_here id o cursors true is = refl
put_here id o cursors false is = let t = (Decides-int_eq id id).1 refl in let bad : true ≡ false = sym t ∙ is in absurd cc

left_by : (g : State) (id next : ℤ) (space : Space) (events left : List Fields) (token : Option Tree) (b : Bool) (c : Cursor) → g.cursors id ≡ Some (query space (events ++ left)) → (if b then None else moved g events token (g.cursors id)) ≡ Some c → HoldsFew (length left) c
left_by g id next space events left token true c there h = absurd cc
left_by g id next space events left token false c there h =
    let moved_to : Some (query space (drop (length events) (events ++ left))) ≡ Some c = sym (ap (moved g events token) there) ∙ h in
    let same : query space (drop (length events) (events ++ left)) ≡ c = same_some (query space (drop (length events) (events ++ left))) c moved_to in
    let long = few_behind events left in
    subst (HoldsFew (length left)) same (omega (arith, long))

pub more_few : (g : State) (id next : ℤ) (at other space : Space) (events left : List Fields) (token : Option Tree) → g.cursors id ≡ Some (query space (events ++ left)) → FewOnly (length left) (effect g (asks_more id at) (gave next other events token)) id
unfolding effect
more_few g id next at other space events left token there c h =
    let o = if int_eq next (pos 0) then None else moved g events token (g.cursors id) in
    left_by g id next space events left token (int_eq next (pos 0)) c there (sym (put_here id o g.cursors (int_eq id id) refl) ∙ h)

opened_by : (g : State) (id : ℤ) (d c : Cursor) (n : ℕ) (b : Bool) → int_eq id (pos 0) ≡ b → id ≢ pos 0 → HoldsFew n d → (if b then g else record g { cursors = put_cursor id (Some d) g.cursors; given = give id g.given }).cursors id ≡ Some c → HoldsFew n c
opened_by g id d c n true is held few h = absurd (held ((Decides-int_eq id (pos 0)).0 is))
opened_by g id d c n false is held few h = let same : d ≡ c = same_some d c (sym (put_here id (Some d) g.cursors (int_eq id id) refl) ∙ h) in subst (HoldsFew n) same few

pub first_few : (g : State) (q : Query) (id : ℤ) (at : Space) (events left : List Fields) (token : Option Tree) (time : Option ℕ) → id ≢ pos 0 → result g q ≡ Some (events ++ left) → FewOnly (length left) (effect g (asks_query q) (opened id at events token time)) id
unfolding effect
first_few g q id at events left token time held these c h =
    let long = few_behind events left in
    let fits : HoldsFew (length left) (queried_at g q at events) = subst (λ (o : Option (List Fields)). length (drop (length events) (unwrap_or o [])) ≤ length left) (sym these) (omega (arith, long)) in
    opened_by g id (queried_at g q at events) c (length left) (int_eq id (pos 0)) refl held fits h
