-- What a stream does after a command of it failed.
use Rattle.std.proofs.Common.{◌≡◌, ◌≢◌, List, ℕ, [], true, false, inl, inr, sym, ap, ◌∙◌, subst}
use Rattle.mg_link.specs.Resumable.{is_resumable}
use Rattle.mg_link.specs.declared.action.Step.TheVariants as step
use Rattle.mg_link.specs.declared.error.Error.{Error}
use Rattle.mg_link.specs.declared.error.ErrorKind.{ErrorKind}
use Rattle.mg_link.specs.declared.error.ErrorKind.TheVariants as kind
use Rattle.mg_steps.specs.Failures.{IsFault, after_failure, memory, resumable}
use Rattle.mg_steps.specs.Failures.{final as for_good}
use Rattle.mg_steps.specs.declared.failures.AfterFailure.{AfterFailure}
use Rattle.mg_steps.specs.declared.failures.Fault.{Fault}
use Rattle.mg_steps.specs.declared.failures.Fault.TheVariants as fault
use Rattle.mg_steps.specs.declared.failures.StreamCommand.{StreamCommand}
use Rattle.mg_steps.specs.declared.failures.StreamCommand.TheVariants as command
use Rattle.mg_change.specs.ClientStreams.{ClientStream, owes, owing_with}
use Rattle.mg_change.specs.Steps.{FailsMore, HearsClosing, Leads, LeadsTo, final, goes_on, no_memory}
use Rattle.mg_change.specs.declared.event_poll.Stepped.{Stepped}

-- what was decided is done
pub leads_so : (sent : StreamCommand) (s s' : ClientStream) (e : Error) (r : Stepped) (f : Fault) (decided next : AfterFailure) → IsFault e f → decided ≡ after_failure sent f → decided ≡ next → LeadsTo next s e s' r → Leads sent s e s' r
leads_so sent s s' e r f decided next is by so h = record { fault = f; is = is; leads = subst (λ (a : AfterFailure). LeadsTo a s e s' r) (sym so ∙ by) h }

module _ (s s' : ClientStream) (e : Error) (r : Stepped) where
  under : (sent : StreamCommand) (f g : Fault) → f ≡ g → LeadsTo (after_failure sent f) s e s' r → LeadsTo (after_failure sent g) s e s' r
  under sent f g is h = subst (λ (x : Fault). LeadsTo (after_failure sent x) s e s' r) is h

  -- ---- a getMore

  -- a resumption is owed, where nothing is left
  owing_so : s.behind ≡ [] → s' ≡ record s { doing = owes } → s' ≡ owing_with s.cursor s
  owing_so none_left is = is ∙ ap (λ (es : List (List ℕ)). record s { behind = es; doing = owes }) none_left

  fails_by : s.behind ≡ [] → (f : Fault) → IsFault e f → LeadsTo (after_failure command.GetMore f) s e s' r → FailsMore s s.cursor e s' r
  fails_by none_left f (resumable so is) h = let k = under command.GetMore f fault.Resumable is h in goes_on so (owing_so none_left k.0) k.1
  fails_by none_left f (memory so is) h = let k = under command.GetMore f fault.Memory is h in no_memory so (owing_so none_left k.0) k.1
  fails_by none_left f (for_good not other is) h = let k = under command.GetMore f fault.Final is h in final not other k.0 k.1

  pub fails_more : s.behind ≡ [] → Leads command.GetMore s e s' r → FailsMore s s.cursor e s' r
  fails_more none_left h = fails_by none_left h.fault h.is h.leads

  -- ---- a killCursors

  not_memory : is_resumable e.kind e.labels e.wire_version ≡ true → e.kind ≢ kind.OutOfMemory
  not_memory so room = let bad : false ≡ true = sym (ap (λ (k : ErrorKind). is_resumable k e.labels e.wire_version) room) ∙ so in cc

  hears_by : (f : Fault) → IsFault e f → LeadsTo (after_failure command.KillCursors f) s e s' r → HearsClosing s (step.Failed e) s' r
  hears_by f (resumable so is) h = let k = under command.KillCursors f fault.Resumable is h in inr (not_memory so, k.0, k.1)
  hears_by f (memory so is) h = let k = under command.KillCursors f fault.Memory is h in inl (so, k.0, k.1)
  hears_by f (for_good not other is) h = let k = under command.KillCursors f fault.Final is h in inr (other, k.0, k.1)

  pub hears_closing : Leads command.KillCursors s e s' r → HearsClosing s (step.Failed e) s' r
  hears_closing h = hears_by h.fault h.is h.leads
