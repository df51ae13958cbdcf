-- How the state of a server grows along its history.
use Rattle.std.proofs.Common.{◌≡◌, pos, List, [], ◌∷◌, ◌++◌, refl, sym, ap, ◌∙◌, append_assoc, append-nil, ℤ}
use Rattle.std.specs.Ordering.{int_eq}
use Rattle.std.proofs.lemmas.Bool.{cond_both}
use Rattle.mg_server.specs.State.{Entry, State, nothing, put_cursor, give, Cursor}
use Rattle.mg_server.specs.Commands.{Asked, asks_insert, asks_watch, asks_more, asks_kill, Told, refuses, inserted, opened, gave, killed, asked, asks_query, asks_update, asks_delete, asks_create, asks_indexes, asks_drop, updated, deleted, done}
use Rattle.mg_server.specs.Step.{grown, effect, watching_at, ends_cursor, opened_cursor, queried_at}
use Rattle.mg_server.specs.History.{Step, step_after, state_after, state_of, told_at}
use Rattle.std.proofs.Common.{Some, None}

opened-changes : (s : State) (id : ℤ) (c : Cursor) → (opened_cursor s id c).changes ≡ s.changes
opened-changes s id c = cond_both (int_eq id (pos 0)) s (record s { cursors = put_cursor id (Some c) s.cursors; given = give id s.given }) (λ (r : State). r.changes ≡ s.changes) (λ h. refl) (λ h. refl)

-- beside what a step adds no entry changes
pub effect-changes : (s : State) (command : Asked) (reply : Told) → (effect s command reply).changes ≡ s.changes
unfolding effect
effect-changes s (asks_query q) (opened id at documents token time) = opened-changes s id (queried_at s q at documents)
effect-changes s (asks_watch watch start) (opened id at events token time) = opened-changes s id (watching_at s watch token)
effect-changes s (asks_more id space) (refuses code labels) =
    cond_both (ends_cursor code) (record s { cursors = put_cursor id None s.cursors }) s (λ (r : State). r.changes ≡ s.changes) (λ h. refl) (λ h. refl)
effect-changes s (asks_update space conditions m many) (updated n changed []) = refl
effect-changes s (asks_delete space conditions many) (deleted n []) = refl
effect-changes s (asks_insert space documents ordered) (inserted n failures) = refl
effect-changes s (asks_create space) done = refl
effect-changes s (asks_indexes space indexes) done = refl
effect-changes s (asks_drop space) done = refl
effect-changes s (asks_more id space) (gave left at events token) = refl
effect-changes s (asks_kill ids) killed = refl
effect-changes s command reply = refl

-- a step adds the entries that it made
pub step_after-changes : (s : State) (step : Step) → (step_after s step).changes ≡ s.changes ++ step.made.entries
unfolding grown
step_after-changes s step = effect-changes (grown s step.made) (asked step.command) (told_at step)

pub state_after-changes : (s : State) (steps : List Step) → (more : List Entry) × ((state_after s steps).changes ≡ s.changes ++ more)
unfolding state_after
state_after-changes s [] = ([], sym (append-nil s.changes))
state_after-changes s (step ∷ steps) =
    let later = state_after-changes (step_after s step) steps in
    (step.made.entries ++ later.0, later.1 ∙ ap (λ (es : List Entry). es ++ later.0) (step_after-changes s step) ∙ append_assoc s.changes step.made.entries later.0)

pub state_after-append : (s : State) (before later : List Step) → state_after s (before ++ later) ≡ state_after (state_after s before) later
unfolding state_after
state_after-append s [] later = refl
state_after-append s (step ∷ before) later = state_after-append (step_after s step) before later

pub state_of-grows : (before later : List Step) → (more : List Entry) × ((state_of (before ++ later)).changes ≡ (state_of before).changes ++ more)
state_of-grows before later =
    let grows = state_after-changes (state_of before) later in
    (grows.0, ap (λ (s : State). s.changes) (state_after-append nothing before later) ∙ grows.1)
