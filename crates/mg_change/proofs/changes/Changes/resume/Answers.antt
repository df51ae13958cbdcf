use mir.Val.{SFits}
use Rattle.std.proofs.Common.{◌≡◌, ℤ, Option, Some, None, false, refl, sym, ap, ◌∙◌, subst, rules, w32}
use Rattle.std.proofs.lemmas.Int.{to_z-of_z}
use Rattle.std.specs.Prelude.{option_copied}
use Rattle.mg_link.specs.Exec.{Sending, ticket_at, ticket_of}
use Rattle.mg_link.specs.Moment.{moment}
use Rattle.mg_link.specs.Session.{Session}
use Rattle.mg_link.specs.declared.error.Error.{Error}
use Rattle.mg_ops.specs.Failing.{FailsBy}
use Rattle.mg_ops.specs.declared.aggregate.ChangeStreamAggregate.{ChangeStreamAggregate}
use Rattle.mg_cursor.specs.View.{client_of, current_of}
use Rattle.mg_cursor.proofs.Hearing.{keeps_from}
use Rattle.mg_change.specs.ClientStreams.{IsNewAggregate, owes, resuming_in}
use Rattle.mg_change.specs.Steps.{CannotResume, not_resumed, resumes_now}
use Rattle.mg_change.specs.StreamCalls.{steps_left}
use Rattle.mg_change.specs.StreamView.{changes_of, doing_of}
use Rattle.mg_change.proofs.Parts.{aggregate_saved, falls_sooner, owing_falls, owing_keeps, run_any, unresumed_not_io}
use Rattle.mg_change.proofs.changes.Changes.resume.Goals as goal

-- the aggregate, the wire version and the session are those of the stream
built_so : (a b : ChangeStreamAggregate) (wire w : ℤ) (session s : Option Session) (sending : Sending) → a ≡ b → w ≡ wire → s ≡ session → IsNewAggregate (resuming_in b w s) s sending → IsNewAggregate (resuming_in a wire session) session sending
built_so a b wire w session s sending same wire_is session_is h =
    subst (λ (x : Option Session). IsNewAggregate (resuming_in a wire x) x sending) session_is
    (subst (λ (v : ℤ). IsNewAggregate (resuming_in a v s) s sending) wire_is (subst (λ (x : ChangeStreamAggregate). IsNewAggregate (resuming_in x w s) s sending) (sym same) h))

fails_so : (a b : ChangeStreamAggregate) (wire w : ℤ) (session s : Option Session) (e : Error) → a ≡ b → w ≡ wire → s ≡ session → FailsBy (CannotResume b w s) e → FailsBy (CannotResume a wire session) e
fails_so a b wire w session s e same wire_is session_is h =
    subst (λ (x : Option Session). FailsBy (CannotResume a wire x) e) session_is
    (subst (λ (v : ℤ). FailsBy (CannotResume a v s) e) wire_is (subst (λ (x : ChangeStreamAggregate). FailsBy (CannotResume x w s) e) (sym same) h))

-- ---- it is sent

pub wait_for_resumption-requires-clause-held : goal.wait_for_resumption-requires-clause-held
wait_for_resumption-requires-clause-held g c = λ n e. let bad : None ≡ Some n = sym (ap ticket_at c.in-Ok.ensures.built.new) ∙ e in absurd cc

pub wait_for_resumption-requires-clause-saved : goal.wait_for_resumption-requires-clause-saved
wait_for_resumption-requires-clause-saved g c = c.requires.saved

pub wait_for_resumption-requires-clause-none_left : goal.wait_for_resumption-requires-clause-none_left
wait_for_resumption-requires-clause-none_left g c = c.requires.none_left

pub wait_for_resumption-requires-clause-quiet : goal.wait_for_resumption-requires-clause-quiet
wait_for_resumption-requires-clause-quiet g c = c.requires.quiet

pub returns-in-Ok-clause-keeps : goal.returns-in-Ok-clause-keeps
returns-in-Ok-clause-keeps g c = keeps_from _ _ (ticket_of c.in-Ok.exec) None _ _ (ap ticket_at c.in-Ok.ensures.built.new) c.wait_for_resumption.ensures.keeps

pub returns-in-Ok-clause-does : goal.returns-in-Ok-clause-does
returns-in-Ok-clause-does g c =
    let fits : SFits w32 c.wire_version.result = search rules in
    let ran = c.wait_for_resumption.ensures.runs in (
      ran.0,
      resumes_now refl c.in-Ok.exec (built_so ((changes_of c.args.self.now).aggregate) c.args.self.now.aggregate (g.L.Link.wire c.args.link.now) _ (g.H.ClientSessionHandle.asked c.args.handle.now) (option_copied c.asked.result) c.in-Ok.exec (aggregate_saved c.args.self.now.token c.args.self.now.aggregate (current_of c.args.self.now.buffer) (client_of c.args.self.now.batches).token c.requires.saved) (to_z-of_z w32 c.wire_version.result fits ∙ c.wire_version.ensures) c.asked.ensures c.in-Ok.ensures.built)
          (run_any (g.L.Link.awaited c.args.link.now) (g.L.Link.awaited c.wait_for_resumption.new.link) (g.L.Link.log c.args.link.now) (g.L.Link.log c.wait_for_resumption.new.link) (g.L.Link.wire c.args.link.now) ran.0 (changes_of c.args.self.now) owes c.in-Ok.exec (changes_of c.wait_for_resumption.new.self) c.wait_for_resumption.result ran.1),
      ran.2,
    )

pub returns-in-Ok-clause-falls : goal.returns-in-Ok-clause-falls
returns-in-Ok-clause-falls g c = falls_sooner c.wait_for_resumption.result (steps_left (doing_of c.wait_for_resumption.new.self.phase)) c.wait_for_resumption.ensures.falls

-- ---- it is not built

pub returns-in-Err-clause-keeps : goal.returns-in-Err-clause-keeps
returns-in-Err-clause-keeps g c =
    owing_keeps (moment (g.L.Link.awaited c.args.link.now) (g.L.Link.log c.args.link.now) (g.L.Link.faults c.args.link.now) (g.L.Link.pends c.args.link.now) (g.L.Link.wire c.args.link.now) (g.L.Link.prompt c.args.link.now)) (changes_of c.args.self.now) (changes_of c.fail_resumption.new.self) c.fail_resumption.result c.in-Err.error (unresumed_not_io c.args.self.now.aggregate _ (option_copied c.asked.result) c.in-Err.error c.in-Err.ensures.fails) c.fail_resumption.ensures.phase c.fail_resumption.ensures.fails

pub returns-in-Err-clause-does : goal.returns-in-Err-clause-does
returns-in-Err-clause-does g c =
    let fits : SFits w32 c.wire_version.result = search rules in (
      false,
      not_resumed refl c.in-Err.error (fails_so ((changes_of c.args.self.now).aggregate) c.args.self.now.aggregate (g.L.Link.wire c.args.link.now) _ (g.H.ClientSessionHandle.asked c.args.handle.now) (option_copied c.asked.result) c.in-Err.error (aggregate_saved c.args.self.now.token c.args.self.now.aggregate (current_of c.args.self.now.buffer) (client_of c.args.self.now.batches).token c.requires.saved) (to_z-of_z w32 c.wire_version.result fits ∙ c.wire_version.ensures) c.asked.ensures c.in-Err.ensures.fails)
          (record { rest = λ n. refl; log_same = refl }) refl c.fail_resumption.ensures.phase c.fail_resumption.ensures.fails,
      refl,
    )

pub returns-in-Err-clause-falls : goal.returns-in-Err-clause-falls
returns-in-Err-clause-falls g c = owing_falls c.fail_resumption.result c.in-Err.error 3 (steps_left (doing_of c.fail_resumption.new.self.phase)) c.fail_resumption.ensures.fails
