use Rattle.std.proofs.Common.{inl, refl, subst, sym}
use Rattle.mg_link.specs.declared.action.Step.TheVariants as step
use Rattle.mg_players.proofs.Lasting.{last_for, still_lasts}
use Rattle.mg_players.proofs.Sending.{closing_grows}
use Rattle.mg_players.proofs.Turning.{close_ends, close_pends}
use Rattle.mg_players.proofs.Vainly.{vain_close_ends, vain_close_pends}
use Rattle.mg_players.proofs.Advancing.{close_done, close_waits}
use Rattle.mg_players.specs.Progress.{IsFinished}
use Rattle.mg_players.proofs.Telling.{close_done_tells, close_fails_tells, close_waits_tells}
use Rattle.mg_players.specs.Telling.{kept}
use Rattle.mg_script.specs.declared.outcome.Ended.TheVariants as ended
use Rattle.mg_players.proofs.Losing.{closed_loses}
use Rattle.mg_players.proofs.follow.FollowPlayer.close.Goals as goal

pub returns-in-Pending-clause-holds : goal.returns-in-Pending-clause-holds
returns-in-Pending-clause-holds g c = still_lasts _ _ _ _ _ c.in-Pending.closing c.args.closing c.requires.holds c.in-Pending.ensures.closes

pub returns-in-Pending-clause-turned : goal.returns-in-Pending-clause-turned
returns-in-Pending-clause-turned g c = record {
  watching = close_pends _ _ _ _ c.args.self.now c.args.closing c.in-Pending.closing
      (λ w start token opened answered. c.in-Pending.ensures.moved w start token (last_for w start token c.args.closing c.requires.holds) opened answered);
  vainly = vain_close_pends _ _ _ _ c.args.self.now c.args.closing c.in-Pending.closing (closing_grows _ _ _ _ _ c.args.closing (step.Pending c.in-Pending.closing) c.requires.holds c.in-Pending.ensures.closes);
}

pub returns-in-Done-clause-turned : goal.returns-in-Done-clause-turned
returns-in-Done-clause-turned g c = record {
  watching = close_ends _ _ _ _ c.args.self.now _ c.args.closing (record { watched = refl; opened = refl; answers = refl }) refl
      (λ w start token opened answered. c.in-Done.ensures.moved w start token (last_for w start token c.args.closing c.requires.holds) opened answered);
  vainly = vain_close_ends _ _ _ _ c.args.self.now _ c.args.closing (record { watched = refl; opened = refl; answers = refl }) (closing_grows _ _ _ _ _ c.args.closing (step.Done tt) c.requires.holds c.in-Done.ensures.closes);
}

pub returns-in-Failed-clause-turned : goal.returns-in-Failed-clause-turned
returns-in-Failed-clause-turned g c = record {
  watching = close_ends _ _ _ _ c.args.self.now _ c.args.closing (record { watched = refl; opened = refl; answers = refl }) refl
      (λ w start token opened answered. c.in-Failed.ensures.moved w start token (last_for w start token c.args.closing c.requires.holds) opened answered);
  vainly = vain_close_ends _ _ _ _ c.args.self.now _ c.args.closing (record { watched = refl; opened = refl; answers = refl }) (closing_grows _ _ _ _ _ c.args.closing (step.Failed c.in-Failed.error) c.requires.holds c.in-Failed.ensures.closes);
}

pub returns-in-Pending-clause-comes : goal.returns-in-Pending-clause-comes
returns-in-Pending-clause-comes g c = close_waits _ _ c.in-Pending.closing _ c.in-Pending.ensures.pended

pub returns-in-Done-clause-comes : goal.returns-in-Done-clause-comes
returns-in-Done-clause-comes g c = close_done _ _ _ _ c.in-Done.ensures.pended (subst (λ e. IsFinished e) (sym c.note.ensures) tt) refl refl

pub returns-in-Failed-clause-comes : goal.returns-in-Failed-clause-comes
returns-in-Failed-clause-comes g c = close_done _ _ _ _ c.in-Failed.ensures.pended (subst (λ e. IsFinished e) (sym c.note-in-Failed.ensures) tt) refl refl

pub returns-in-Pending-clause-told : goal.returns-in-Pending-clause-told
returns-in-Pending-clause-told g c = close_waits_tells _ _ _ _ _ (kept c.args.self.now) c.args.closing c.in-Pending.closing c.requires.holds c.in-Pending.ensures.closes

pub returns-in-Done-clause-told : goal.returns-in-Done-clause-told
returns-in-Done-clause-told g c = close_done_tells _ _ _ _ _ (kept c.args.self.now) _ c.args.closing c.note.ensures c.requires.holds c.in-Done.ensures.closes

pub returns-in-Failed-clause-told : goal.returns-in-Failed-clause-told
returns-in-Failed-clause-told g c = close_fails_tells _ _ _ _ _ (kept c.args.self.now) _ c.args.closing c.in-Failed.error c.note-in-Failed.ensures c.requires.holds c.in-Failed.ensures.closes

pub returns-in-Pending-clause-lost : goal.returns-in-Pending-clause-lost
returns-in-Pending-clause-lost g c = λ part lost. inl lost

pub returns-in-Done-clause-lost : goal.returns-in-Done-clause-lost
returns-in-Done-clause-lost g c = closed_loses (g.L.Link.faults c.args.link.now) (g.L.Link.faults c.poll.new.link) (g.L.Link.pends c.args.link.now) (g.L.Link.pends c.poll.new.link) c.args.self.now (record c.args.self.now { closed = c.note.new.slot }) (ended.Gave tt) c.note.ensures (λ lost. absurd lost) refl refl

pub returns-in-Failed-clause-lost : goal.returns-in-Failed-clause-lost
returns-in-Failed-clause-lost g c =
    closed_loses (g.L.Link.faults c.args.link.now) (g.L.Link.faults c.poll.new.link) (g.L.Link.pends c.args.link.now) (g.L.Link.pends c.poll.new.link) c.args.self.now (record c.args.self.now { closed = c.note-in-Failed.new.slot }) (ended.Failed c.in-Failed.error) c.note-in-Failed.ensures (λ lost. c.in-Failed.ensures.lost lost) refl refl
