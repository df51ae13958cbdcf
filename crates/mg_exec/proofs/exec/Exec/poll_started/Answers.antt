use Rattle.std.proofs.Common.{◌≡◌, ℕ, List, true, refl, sym, ap, false, ◌∙◌, subst}
use Rattle.mg_link.specs.Exec.{Attempt, Stage, unsent, first, second, Sending, Begins, AttemptGives, RunsStarting}
use Rattle.mg_exec.specs.ExecView.{reads, stage_of}
use Rattle.mg_exec.specs.Attempts.{attempt_of, held}
use Rattle.mg_exec.proofs.Execs.{starts_first, starts_second, runs_of, runs_tickets, gives_pended, gives_lost, gives_at_once}
use Rattle.mg_exec.proofs.exec.Exec.poll_started.Goals as goal
use Rattle.mg_exec.proofs.exec.Exec.poll_started.Goals.{After-answer}
use Rattle.mg_exec.proofs.exec.Exec.poll_started.Given.{Over}

pub returns-in-Unsent-clause-runs : goal.returns-in-Unsent-clause-runs
returns-in-Unsent-clause-runs g c =
    let s : Sending = record { command = c.self.inside.command; retries = reads c.self.inside.retry; stage = unsent } in
    let is : s ≡ c.args.self = ap (λ (st : Stage). record s { stage = st }) (ap stage_of (sym c.in-Unsent.is)) ∙ c.self.view_is in
    let attempt = attempt_of c.begin-attempt.result in
    let begins = subst (λ (command : List ℕ). Begins (g.L.Link.awaited c.args.link.now) (g.L.Link.awaited c.begin-attempt.new.link) (g.L.Link.log c.args.link.now) (g.L.Link.log c.begin-attempt.new.link) command attempt) c.as_raw.ensures c.begin-attempt.ensures.begins in
    subst (λ (x : Sending). RunsStarting (g.L.Link.awaited c.args.link.now) (g.L.Link.awaited c.settle.new.link) (g.L.Link.log c.args.link.now) (g.L.Link.log c.settle.new.link) (g.L.Link.wire c.args.link.now) x c.settle.result c.was_sent-started.result) is
    (starts_first _ _ _ _ _ _ (g.L.Link.wire c.args.link.now) _ s attempt 0 _ _ 0 _ _ (Unit {0}) _ c.settle.result begins refl (λ n. refl) c.begin-attempt.ensures.later.wire c.settle.ensures.settles c.was_sent-started.result c.was_sent-started.ensures)

pub returns-in-First-clause-runs : goal.returns-in-First-clause-runs
returns-in-First-clause-runs g c =
    let s : Sending = record { command = c.self.inside.command; retries = reads c.self.inside.retry; stage = first c.in-First.ticket } in
    let is : s ≡ c.args.self = ap (λ (st : Stage). record s { stage = st }) (ap stage_of (sym c.in-First.is)) ∙ c.self.view_is in
    subst (λ (x : Sending). RunsStarting (g.L.Link.awaited c.args.link.now) (g.L.Link.awaited c.settle-in-First.new.link) (g.L.Link.log c.args.link.now) (g.L.Link.log c.settle-in-First.new.link) (g.L.Link.wire c.args.link.now) x c.settle-in-First.result false) is
    (starts_first _ _ _ _ _ _ (g.L.Link.wire c.args.link.now) _ s (attempt_of c.go_on-attempt.result) 0 _ _ 0 _ _ (Unit {0}) _ c.settle-in-First.result c.go_on-attempt.ensures.goes_on refl (λ n. refl) c.go_on-attempt.ensures.later.wire c.settle-in-First.ensures.settles false refl)

pub returns-in-First-clause-tickets : goal.returns-in-First-clause-tickets
returns-in-First-clause-tickets g c = runs_tickets _ _ _ _ (g.L.Link.wire c.args.link.now) c.args.self c.settle-in-First.result c.requires (runs_of _ _ _ _ _ _ _ false (returns-in-First-clause-runs g c))

module _ (g : Over) (c : After-answer g) where
  abbrev attempt : Attempt
  attempt = attempt_of c.go_on-attempt-in-Second.result

  gives : AttemptGives attempt (g.L.Link.wire c.go_on-attempt-in-Second.new.link) (held c.self.inside.command (reads c.self.inside.retry) true) c.answer.result
  gives = c.answer.ensures attempt c.judge.ensures

pub returns-in-Second-clause-runs : goal.returns-in-Second-clause-runs
returns-in-Second-clause-runs g c =
    let s : Sending = record { command = c.self.inside.command; retries = reads c.self.inside.retry; stage = second c.in-Second.ticket } in
    let is : s ≡ c.args.self = ap (λ (st : Stage). record s { stage = st }) (ap stage_of (sym c.in-Second.is)) ∙ c.self.view_is in
    subst (λ (x : Sending). RunsStarting (g.L.Link.awaited c.args.link.now) (g.L.Link.awaited c.go_on-attempt-in-Second.new.link) (g.L.Link.log c.args.link.now) (g.L.Link.log c.go_on-attempt-in-Second.new.link) (g.L.Link.wire c.args.link.now) x c.answer.result false) is
    (starts_second _ _ _ _ (g.L.Link.wire c.args.link.now) _ s c.in-Second.ticket (attempt g c) c.answer.result refl c.go_on-attempt-in-Second.ensures.goes_on c.go_on-attempt-in-Second.ensures.later.wire (gives g c))

pub returns-in-Second-clause-tickets : goal.returns-in-Second-clause-tickets
returns-in-Second-clause-tickets g c = runs_tickets _ _ _ _ (g.L.Link.wire c.args.link.now) c.args.self c.answer.result c.requires (runs_of _ _ _ _ _ _ _ false (returns-in-Second-clause-runs g c))

pub returns-in-Second-clause-pended : goal.returns-in-Second-clause-pended
returns-in-Second-clause-pended g c = gives_pended (attempt g c) _ (held c.self.inside.command (reads c.self.inside.retry) true) c.answer.result _ _ _ _ (λ ticket. refl) c.go_on-attempt-in-Second.ensures.counts (gives g c)

pub returns-in-Second-clause-lost : goal.returns-in-Second-clause-lost
returns-in-Second-clause-lost g c = gives_lost (attempt g c) _ (held c.self.inside.command (reads c.self.inside.retry) true) c.answer.result _ _ _ _ c.go_on-attempt-in-Second.ensures.counts (gives g c)

pub returns-in-Second-clause-prompt : goal.returns-in-Second-clause-prompt
returns-in-Second-clause-prompt g c is = gives_at_once (attempt g c) _ (held c.self.inside.command (reads c.self.inside.retry) true) c.answer.result (c.go_on-attempt-in-Second.ensures.prompt is) (gives g c)
