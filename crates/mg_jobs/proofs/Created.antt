-- A creation that a store refused since the collection is there: what its reply tells of its write concern, and that a server which holds nothing back may answer so.
use Rattle.std.proofs.Common.{◌≡◌, ℕ, zero, suc, ℤ, pos, Bool, true, false, List, [], ◌∷◌, Contains, Ok, Some, take, refl, sym, ap, ◌∙◌, subst, arith, inl, inr}
use Rattle.std.specs.Prelude.{codes, slice_get}
use Rattle.std.proofs.lemmas.List.Elements.{Contains-push_cases}
use Rattle.mg_bson.specs.Find.{get}
use Rattle.mg_bson.specs.Raw.{fields}
use Rattle.mg_bson.specs.Tree.{Fields}
use Rattle.mg_server.specs.Commands.{Asked, Told, asked, asks_create, asks_delete, asks_drop, asks_indexes, asks_insert, asks_kill, asks_more, asks_other, asks_query, asks_update, asks_watch, deleted, done, failures_at, garbled, gave, inserted, killed, opened, refuses, updated}
use Rattle.mg_server.specs.History.{Step, state_of, step_after, told_at}
use Rattle.mg_server.specs.Kept.{AreByRulesFrom, Follows, IsByRules, Kept, by_choice, by_rules, given_after, state_behind, step_of, steps_from, steps_of}
use Rattle.mg_link.specs.Namespace.{Space}
use Rattle.mg_server.specs.Prompt.{AnswersAtOnce, HoldsBackNone, IsPrompt, IsRefused, MeetsConcern}
use Rattle.mg_server.specs.Rules.{Answer, Request, answer, answer_of, create_collection, create_indexes, delete, done_reply, drop_collection, find, insert, kill, more, refusal, update, watch}
use Rattle.mg_server.specs.State.{State, collection_in, nothing}
use Rattle.mg_server.proofs.Allowed.{Rule, answers_by, create_ok, refuses_by, rule_is}
use Rattle.mg_server.proofs.Owners.{same_some}
use Rattle.mg_server.proofs.Requests.{asked_is, asks_of}
use Rattle.mg_jobs.specs.Completing.{IsTaken}

-- ---- the reply

-- one that refuses tells of no write concern, and lists no errors
refusal_meets : (space : Space) (bytes : List ℕ) (code : ℤ) (labels : List (List ℕ)) → fields bytes ≡ refusal code labels → MeetsConcern (asks_create space) bytes
refusal_meets space bytes code labels e = (ap (get (codes "writeConcernError")) e, ap (λ (fs : Fields). failures_at (get (codes "writeErrors") fs)) e)

done_meets : (space : Space) (bytes : List ℕ) → fields bytes ≡ done_reply → MeetsConcern (asks_create space) bytes
done_meets space bytes e = (ap (get (codes "writeConcernError")) e, ap (λ (fs : Fields). failures_at (get (codes "writeErrors") fs)) e)

-- what the rules answer to a creation
created_meets : (s : State) (id : ℤ) (space : Space) (bytes : List ℕ) (r : Request) (a : Answer) → asks_of r ≡ asks_create space → answer s id r ≡ Ok a → fields bytes ≡ a.reply → MeetsConcern (asks_create space) bytes
created_meets s id space bytes (insert at ds ordered) a asks answers e = absurd cc
created_meets s id space bytes (find q) a asks answers e = absurd cc
created_meets s id space bytes (watch w start resumes size) a asks answers e = absurd cc
created_meets s id space bytes (more cursor at size) a asks answers e = absurd cc
created_meets s id space bytes (kill ids) a asks answers e = absurd cc
created_meets s id space bytes (create_collection at) a asks answers e =
    let known = create_ok (collection_in s.collections at) a answers in
    done_meets space bytes (e ∙ ap (λ (x : Answer). x.reply) (sym known.1))
created_meets s id space bytes (create_indexes at indexes) a asks answers e = absurd cc
created_meets s id space bytes (update at conditions m many) a asks answers e = absurd cc
created_meets s id space bytes (delete at conditions many) a asks answers e = absurd cc
created_meets s id space bytes (drop_collection at) a asks answers e = absurd cc

rule_meets : (s : State) (id : ℤ) (command bytes : List ℕ) (space : Space) (o : Answer) → asked command ≡ asks_create space → Rule s id (fields command) o → fields bytes ≡ o.reply → MeetsConcern (asks_create space) bytes
rule_meets s id command bytes space o asks (refuses_by code is) e = refusal_meets space bytes code [] (e ∙ ap (λ (x : Answer). x.reply) is)
rule_meets s id command bytes space o asks (answers_by r a reads answers is) e = created_meets s id space bytes r a (sym (asked_is command r reads) ∙ asks) answers (e ∙ ap (λ (x : Answer). x.reply) is)

follows_meets : (s : State) (given : ℕ) (kept : Kept) (space : Space) → asked kept.command ≡ asks_create space → Follows s given kept → MeetsConcern (asks_create space) kept.reply
follows_meets s given kept space asks (by_rules is) = rule_meets s (pos (suc given)) kept.command kept.reply space (answer_of s (pos (suc given)) (fields kept.command)) asks (rule_is s (pos (suc given)) (fields kept.command)) is.read_back
follows_meets s given kept space asks (by_choice code labels is) = refusal_meets space kept.reply code labels is.read_back

each_meets : (s : State) (given : ℕ) (started : Bool) (kept : List Kept) → AreByRulesFrom s given started kept → (position : ℕ) (step : Step) (space : Space) → slice_get (steps_from s given started kept) position ≡ Some step → asked step.command ≡ asks_create space → MeetsConcern (asks_create space) step.reply
unfolding AreByRulesFrom steps_from
each_meets s given started [] by position step space at asks = absurd cc
each_meets s given started (k ∷ kept) by zero step space at asks =
    let same : step_of s given started k ≡ step = cc at in
    subst (λ (x : Step). MeetsConcern (asks_create space) x.reply) same (follows_meets s given k space (ap (λ (x : Step). asked x.command) same ∙ asks) by.0)
each_meets s given started (k ∷ kept) by (suc position) step space at asks = each_meets (state_behind s given started k) (given_after given k) true kept by.1 position step space at asks

-- The replies to creations in such a history tell of no write concern that was not met.
abbrev pub CreationsMeet : List Step → Type 0
CreationsMeet history = (position : ℕ) (step : Step) (space : Space) → slice_get history position ≡ Some step → asked step.command ≡ asks_create space → MeetsConcern (asks_create space) step.reply

pub creations_meet : (history : List Kept) → IsByRules history → CreationsMeet (steps_of history)
creations_meet history by = each_meets nothing 0 false history by

-- ---- steps that were taken

-- one that was not refused
pub is_taken : (a : Asked) (t : Told) → (IsRefused t → ⊥) → IsTaken a t
is_taken a (refuses code labels) kept = absurd (kept tt)
is_taken a (inserted n failures) kept = tt
is_taken a (updated n changed failures) kept = tt
is_taken a (deleted n failures) kept = tt
is_taken a done kept = tt
is_taken a (opened id space events token time) kept = tt
is_taken a (gave id space events token) kept = tt
is_taken a killed kept = tt
is_taken a garbled kept = tt

abbrev IsAtOnce : State → State → Asked → Told → List ℕ → Type 0
IsAtOnce s s' a t bytes = AnswersAtOnce s s' a t × MeetsConcern a bytes

refused_at_once : (s s' : State) (a : Asked) (code : ℤ) (labels : List (List ℕ)) (bytes : List ℕ) → IsTaken a (refuses code labels) → ((space : Space) → a ≡ asks_create space → MeetsConcern (asks_create space) bytes) → IsAtOnce s s' a (refuses code labels) bytes
refused_at_once s s' (asks_insert space documents ordered) code labels bytes taken meets = absurd taken
refused_at_once s s' (asks_update space conditions modification many) code labels bytes taken meets = absurd taken
refused_at_once s s' (asks_delete space conditions many) code labels bytes taken meets = absurd taken
refused_at_once s s' (asks_query q) code labels bytes taken meets = absurd taken
refused_at_once s s' (asks_watch w start) code labels bytes taken meets = absurd taken
refused_at_once s s' (asks_more id space) code labels bytes taken meets = absurd taken
refused_at_once s s' (asks_kill ids) code labels bytes taken meets = absurd taken
refused_at_once s s' (asks_create space) code labels bytes taken meets = (taken, meets space refl)
refused_at_once s s' (asks_indexes space indexes) code labels bytes taken meets = absurd taken
refused_at_once s s' (asks_drop space) code labels bytes taken meets = absurd taken
refused_at_once s s' asks_other code labels bytes taken meets = absurd taken

taken_at_once : (s s' : State) (a : Asked) (t : Told) (bytes : List ℕ) → IsTaken a t → ((IsRefused t → ⊥) → IsAtOnce s s' a t bytes) → ((space : Space) → a ≡ asks_create space → MeetsConcern (asks_create space) bytes) → IsAtOnce s s' a t bytes
taken_at_once s s' a (refuses code labels) bytes taken kept meets = refused_at_once s s' a code labels bytes taken meets
taken_at_once s s' a (inserted n failures) bytes taken kept meets = kept (λ r. r)
taken_at_once s s' a (updated n changed failures) bytes taken kept meets = kept (λ r. r)
taken_at_once s s' a (deleted n failures) bytes taken kept meets = kept (λ r. r)
taken_at_once s s' a done bytes taken kept meets = kept (λ r. r)
taken_at_once s s' a (opened id space events token time) bytes taken kept meets = kept (λ r. r)
taken_at_once s s' a (gave id space events token) bytes taken kept meets = kept (λ r. r)
taken_at_once s s' a killed bytes taken kept meets = kept (λ r. r)
taken_at_once s s' a garbled bytes taken kept meets = kept (λ r. r)

only_one : (p position : ℕ) → Contains (p ∷ []) position → p ≡ position
only_one p position has = elim (Contains-push_cases [] p position has) [ inl none ↦ (let lt = none.1 in absurd (omega arith)) | inr is ↦ is ]

-- Steps that were taken were answered at once, in a history that holds nothing back and whose creations meet their concern.
pub prompt_where_taken : (history : List Step) (own : List ℕ) → HoldsBackNone history → CreationsMeet history → ((position : ℕ) (step : Step) → Contains own position → slice_get history position ≡ Some step → IsTaken (asked step.command) (told_at step)) → IsPrompt own history
prompt_where_taken history own holds meets taken position step has at =
    taken_at_once (state_of (take position history)) (step_after (state_of (take position history)) step) (asked step.command) (told_at step) step.reply (taken position step has at)
    (λ kept. holds.each (position ∷ [])
    (λ p x here there refused.
    let same : x ≡ step = same_some x step (sym there ∙ ap (slice_get history) (sym (only_one position p here)) ∙ at) in
    kept (subst (λ (y : Step). IsRefused (told_at y)) same refused)) position step (0, omega arith, refl) at)
    (λ space asks. meets position step space at asks)
