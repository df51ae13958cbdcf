-- Steps that hold nothing back, by what their commands and replies are read as.
use Rattle.std.proofs.Common.{◌≡◌, ℕ, zero, suc, pos, List, [], ◌∷◌, take, Some, sym, ap, ap₂, subst}
use Rattle.std.specs.Prelude.{slice_get, unwrap_or}
use Rattle.mg_bson.specs.Raw.{fields}
use Rattle.mg_bson.specs.Tree.{Fields}
use Rattle.mg_server.specs.Commands.{Asked, Told, asked, asked_by, asks_other, told, told_by}
use Rattle.mg_server.specs.History.{Step, step_after, state_after, told_at}
use Rattle.mg_link.specs.Namespace.{Space}
use Rattle.mg_server.specs.Prompt.{AnswersAtOnce, MeetsConcern}
use Rattle.mg_link.specs.Reply.{verdict_of}
use Rattle.mg_server.specs.State.{State, Watch, query, watching}

-- ---- what fields ask for and tell

abbrev pub asked_of : Fields → Asked
asked_of command = unwrap_or (asked_by command) asks_other

abbrev pub told_of : Fields → Fields → Told
told_of command reply = told_by (verdict_of reply) (asked_of command) reply

pub asked_so : (step : Step) (command : Fields) → fields step.command ≡ command → asked step.command ≡ asked_of command
unfolding asked
asked_so step command is = ap asked_of is

pub told_so : (step : Step) (command reply : Fields) → fields step.command ≡ command → fields step.reply ≡ reply → told_at step ≡ told_of command reply
unfolding told asked
told_so step command reply command_is reply_is = ap₂ told_of command_is reply_is

-- ---- one step

abbrev pub IsAtOnce : State → Step → Type 0
IsAtOnce s step = AnswersAtOnce s (step_after s step) (asked step.command) (told_at step) × MeetsConcern (asked step.command) step.reply

pub at_once_so : (step : Step) (command reply : Fields) → fields step.command ≡ command → fields step.reply ≡ reply → {s t t' : State} → s ≡ t → step_after s step ≡ t'
    → AnswersAtOnce t t' (asked_of command) (told_of command reply) → ((bytes : List ℕ) → fields bytes ≡ reply → MeetsConcern (asked_of command) bytes) → IsAtOnce s step
at_once_so step command reply command_is reply_is {s} {t} {t'} before after at_once met = (
  subst (λ (u : State). AnswersAtOnce u (step_after s step) (asked step.command) (told_at step)) (sym before)
      (subst (λ (u : State). AnswersAtOnce t u (asked step.command) (told_at step)) (sym after)
      (subst (λ (a : Asked). AnswersAtOnce t t' a (told_at step)) (sym (asked_so step command command_is))
      (subst (λ (r : Told). AnswersAtOnce t t' (asked_of command) r) (sym (told_so step command reply command_is reply_is)) at_once))),
  subst (λ (a : Asked). MeetsConcern a step.reply) (sym (asked_so step command command_is)) (met step.reply reply_is),
)

-- ---- all steps from a state on

abbrev pub AreAtOnce : State → List Step → Type 0
AreAtOnce s [] = Unit {0}
AreAtOnce s (step ∷ steps) = IsAtOnce s step × AreAtOnce (step_after s step) steps

pub each_at_once : (s : State) (steps : List Step) → AreAtOnce s steps → (position : ℕ) (step : Step) → slice_get steps position ≡ Some step → IsAtOnce (state_after s (take position steps)) step
unfolding state_after
each_at_once s [] all position step at = cc
each_at_once s (first ∷ steps) all zero step at = let same : first ≡ step = cc in subst (λ (x : Step). IsAtOnce s x) same all.0
each_at_once s (first ∷ steps) all (suc position) step at = each_at_once (step_after s first) steps all.1 position step at

-- ---- what cannot be

pub nonempty : {A : Type 0} (x : A) (xs : List A) → x ∷ xs ≡ [] → ⊥
nonempty x xs e = cc

pub nonzero : (n : ℕ) → pos (suc n) ≡ pos 0 → ⊥
nonzero n e = cc

pub watch_or_query : (w : Watch) (place : ℕ) (of : Space) (left : List Fields) → Some (watching w place) ≡ Some (query of left) → ⊥
watch_or_query w place of left e = cc
