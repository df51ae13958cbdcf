use Rattle.std.proofs.Common.{inl, inr, refl, sym, ap, subst, ◌∙◌}
use Rattle.mg_link.specs.Acts.{IsOut, Tickets}
use Rattle.mg_link.proofs.Onward.{tickets_same}
use Rattle.mg_players.proofs.Knowing.{turned_not, turned_ready}
use Rattle.mg_turns.specs.Counts.{PolledNewest, was_held}
use Rattle.mg_players.specs.Drawing.{DrawsAs, DrawsAt, JobHasIds}
use Rattle.mg_players.proofs.Advancing.{over_turns}
use Rattle.mg_players.proofs.Drawing.{ended_draws, ended_has}
use Rattle.mg_players.proofs.JobTelling.{quiet_turn, ready_turn, tells_narrow, tells_same_job}
use Rattle.mg_players.specs.Headline.{Plays, task_of}
use Rattle.mg_players.specs.Losses.{JobLost, LosesBy}
use Rattle.mg_players.specs.Playing.{job_ticket}
use Rattle.mg_players.specs.Plays.{SentAt, no_move}
use Rattle.mg_players.specs.Progress.{GoesBy}
use Rattle.mg_players.specs.Runs.{CanGo, Goes, IsReady}
use Rattle.mg_players.specs.Telling.{JobTells, number_of}
use Rattle.mg_players.specs.declared.player.Player.{Player}
use Rattle.mg_jobs.proofs.run.turn_of.Goals as goal

pub returns-then-has_ended-clause-goes : goal.returns-then-has_ended-clause-goes
returns-then-has_ended-clause-goes g c =
    let so = DrawsAt (g.I.IdSource.ids c.args.ids.now) c.args.moment.millis c.args.player.now in
    record {
      tickets = tickets_same _ _ c.requires.out;
      holds = c.requires.holds;
      next = no_move;
      turned = turned_not _ _ c.args.player.now c.args.player.now (λ calls o at plays. plays);
      told = quiet_turn task_of Plays JobTells number_of so _ _ _ c.args.player.now c.args.player.now (tells_same_job task_of JobTells number_of so c.args.player.now);
      task = refl;
      has = λ has. has;
    }

pub returns-in_err-ready-clause-goes : goal.returns-in_err-ready-clause-goes
returns-in_err-ready-clause-goes g c =
    let got = c.ready.ensures.got in
    record {
      tickets = subst (λ t. Tickets (g.L.Link.awaited c.args.link.now) (g.L.Link.awaited c.args.link.now) (job_ticket c.args.player.now) t) (sym got.ticket) (tickets_same _ _ c.requires.out);
      holds = got.holds (g.L.Link.wire c.args.link.now) c.requires.holds;
      next = no_move;
      turned = turned_not _ _ c.args.player.now c.ready.new.self (got.knows _);
      told = quiet_turn task_of Plays JobTells number_of (DrawsAt (g.I.IdSource.ids c.args.ids.now) c.args.moment.millis c.args.player.now) _ _ _ c.args.player.now c.ready.new.self
          (tells_narrow (DrawsAs (g.I.IdSource.ids c.args.ids.now) c.args.player.now) (DrawsAt (g.I.IdSource.ids c.args.ids.now) c.args.moment.millis c.args.player.now) c.args.player.now c.ready.new.self (λ supply t both. both.0) got.tells);
      task = got.task;
      has = got.has;
    }

pub replace_with-gone-requires : goal.replace_with-gone-requires
replace_with-gone-requires g c =
    let got = c.in_ok-ready.ensures.got in
    let can : CanGo (g.L.Link.awaited c.args.link.now) (g.L.Link.wire c.args.link.now) c.ready.new.self = record { out = subst (λ t. IsOut (g.L.Link.awaited c.args.link.now) t) (sym got.ticket) c.requires.out; holds = got.holds (g.L.Link.wire c.args.link.now) c.requires.holds } in (
      subst (λ (p : Player). CanGo (g.L.Link.awaited c.args.link.now) (g.L.Link.wire c.args.link.now) p) (sym c.replace-taken.ensures.value) can,
      subst (λ (p : Player). IsReady p) (sym c.replace-taken.ensures.value) c.in_ok-ready.ensures.ready,
    )

pub returns-clause-goes : goal.returns-clause-goes
returns-clause-goes g c =
    let got = c.in_ok-ready.ensures.got in
    let link = c.replace_with-gone.new.dest in
    let after = c.replace_with-gone.result.player in
    let goes = subst (λ (p : Player). Goes (SentAt c.args.moment.millis) (g.L.Link.awaited c.args.link.now) (g.L.Link.awaited link) (g.L.Link.log c.args.link.now) (g.L.Link.log link) (g.L.Link.wire link) p after) c.replace-taken.ensures.value c.replace_with-gone.ensures.0 in
    record {
      tickets = subst (λ t. Tickets (g.L.Link.awaited c.args.link.now) (g.L.Link.awaited link) t (job_ticket after)) got.ticket goes.tickets;
      holds = goes.holds;
      next = goes.next;
      turned = turned_ready _ _ _ _ c.args.player.now c.ready.new.self after _ got.knows goes.turned;
      told = ready_turn (DrawsAs (g.I.IdSource.ids c.args.ids.now) c.args.player.now) (SentAt c.args.moment.millis) _ _ _ _ _ c.args.player.now c.ready.new.self after _ got.task got.knows got.tells goes.told;
      task = goes.task ∙ got.task;
      has = λ has. goes.has (got.has has);
    }

pub returns-clause-later : goal.returns-clause-later
returns-clause-later g c = c.replace_with-gone.ensures.1.0

pub returns-clause-noted : goal.returns-clause-noted
returns-clause-noted g c = c.replace_with-gone.ensures.1.1.0

pub returns-then-has_ended-clause-comes : goal.returns-then-has_ended-clause-comes
returns-then-has_ended-clause-comes g c = over_turns c.args.player.now (sym c.has_ended.ensures ∙ c.if-has_ended.true)

pub returns-clause-comes : goal.returns-clause-comes
returns-clause-comes g c = λ calls k last at.
    let comes = subst (λ (p : Player). GoesBy c.replace_with-gone.result.note p c.replace_with-gone.result.player) c.replace-taken.ensures.value c.replace_with-gone.ensures.1.1.1.1.0 in
    comes calls k last (c.in_ok-ready.ensures.got.at calls k last at)

pub returns-then-has_ended-clause-draws : goal.returns-then-has_ended-clause-draws
returns-then-has_ended-clause-draws g c =
    let ended = sym c.has_ended.ensures ∙ c.if-has_ended.true in
    record { drawn = ended_draws _ c.args.player.now ended; has = ended_has c.args.player.now ended }

pub returns-clause-draws : goal.returns-clause-draws
returns-clause-draws g c = record {
  drawn = c.in_ok-ready.ensures.drawn;
  has = c.replace_with-gone.ensures.0.has (subst (λ (p : Player). JobHasIds p) (sym c.replace-taken.ensures.value) c.in_ok-ready.ensures.has);
}

pub returns-then-has_ended-clause-polled : goal.returns-then-has_ended-clause-polled
returns-then-has_ended-clause-polled g c = record { polled = λ place. refl; holds = λ n place e at calls told. (calls, told, was_held refl n e at) }

pub returns-clause-polled : goal.returns-clause-polled
returns-clause-polled g c =
    let link = c.replace_with-gone.new.dest in
    let gone = c.replace_with-gone.result in
    subst (λ t. PolledNewest gone.note.pended t (job_ticket gone.player) (g.L.Link.awaited c.args.link.now) (g.L.Link.awaited link) (g.L.Link.log c.args.link.now) (g.L.Link.log link) (g.L.Link.polls c.args.link.now) (g.L.Link.polls link)) (ap job_ticket c.replace-taken.ensures.value ∙ c.in_ok-ready.ensures.got.ticket)
    c.replace_with-gone.ensures.1.1.1.0

pub returns-then-has_ended-clause-lost : goal.returns-then-has_ended-clause-lost
returns-then-has_ended-clause-lost g c = λ part lost. inl lost

pub returns-in_err-ready-clause-lost : goal.returns-in_err-ready-clause-lost
returns-in_err-ready-clause-lost g c = λ part lost. inl (c.ready.ensures.got.lost_same part lost)

pub returns-clause-lost : goal.returns-clause-lost
returns-clause-lost g c = λ part lost.
    let h = subst (λ (p : Player). LosesBy JobLost (g.L.Link.faults c.args.link.now) (g.L.Link.faults c.replace_with-gone.new.dest) (g.L.Link.pends c.args.link.now) (g.L.Link.pends c.replace_with-gone.new.dest) p c.replace_with-gone.result.player) c.replace-taken.ensures.value c.replace_with-gone.ensures.1.1.1.1.1 in
    elim (h part lost) [ inl was ↦ inl (c.in_ok-ready.ensures.got.lost_same part was) | inr rose ↦ inr rose ]
