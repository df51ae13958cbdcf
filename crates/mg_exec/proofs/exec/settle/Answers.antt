use Rattle.std.proofs.Common.{ℤ, true, sym, ◌∙◌, subst, inl, inr, refl}
use Rattle.mg_link.specs.Exec.{AttemptGives}
use Rattle.mg_exec.specs.ExecView.{reads}
use Rattle.mg_exec.specs.Attempts.{attempt_of, held}
use Rattle.mg_exec.proofs.exec.settle.Goals as goal

pub returns-then-repeats-clause-settles : goal.returns-then-repeats-clause-settles
returns-then-repeats-clause-settles g c =
    inr (record {
      repeated = sym (c.repeats.ensures (attempt_of c.args.attempt) c.judge-judged.ensures) ∙ c.if-repeats.true;
      again = attempt_of c.begin-again.result;
      begins = rw (sym c.as_raw.ensures) c.begin-again.ensures.begins;
      counts = c.begin-again.ensures.counts;
      at_once = c.begin-again.ensures.prompt;
      gives = subst (λ (w : ℤ). AttemptGives (attempt_of c.begin-again.result) w (held c.args.command (reads c.args.retry) true) c.answer.result) c.begin-again.ensures.later.wire
          (c.answer.ensures (attempt_of c.begin-again.result) c.judge.ensures);
    })

pub returns-clause-settles : goal.returns-clause-settles
returns-clause-settles g c =
    inl (record {
      awaited_same = refl;
      log_same = refl;
      pended_same = refl;
      last = sym (c.repeats.ensures (attempt_of c.args.attempt) c.judge-judged.ensures) ∙ c.if-repeats.false;
      gives = c.answer-2.ensures (attempt_of c.args.attempt) c.judge-judged.ensures;
    })
