use Rattle.std.proofs.Common.{◌≡◌, ℕ, Option, Some, None, ap, refl, subst, sym, ◌∙◌}
use Rattle.mg_link.specs.Acts.{Tickets}
use Rattle.mg_link.specs.declared.error.Error.{Error}
use Rattle.mg_change.specs.ClientOpenings.{ClientOpening, opening_ticket}
use Rattle.mg_change.specs.ClientStreams.{Asks}
use Rattle.mg_change.specs.Following.{AsksNothing}
use Rattle.mg_cursor.proofs.Hearing.{no_room}
use Rattle.mg_players.specs.Follows.{IsFailed, same_place}
use Rattle.mg_players.specs.Playing.{stage_ticket}
use Rattle.mg_players.specs.declared.follow.Stage.TheVariants as stage
use Rattle.mg_players.proofs.Turning.{begin_failed, begins, took_on}
use Rattle.mg_players.proofs.Vainly.{vain_begin_failed, vain_begins, vain_on}
use Rattle.mg_players.proofs.Watched.{args_ask, args_ask_nothing}
use Rattle.mg_players.proofs.Advancing.{begins_open, never_open}
use Rattle.mg_players.proofs.Telling.{begin_fails, begin_tells}
use Rattle.mg_players.specs.Telling.{IsWatchArgs, kept}
use Rattle.mg_script.specs.declared.outcome.Ended.TheVariants as ended
use Rattle.mg_players.proofs.Losing.{opened_loses}
use Rattle.mg_players.proofs.follow.FollowPlayer.begin.Goals as goal

pub open-requires-clause-held : goal.open-requires-clause-held
open-requires-clause-held g c = λ n e. let bad : None ≡ Some n = sym (ap opening_ticket c.new.ensures.opening) ∙ e in absurd cc

pub returns-in-Ok-clause-tickets : goal.returns-in-Ok-clause-tickets
returns-in-Ok-clause-tickets g c = subst (λ (h : Option ℕ). Tickets (g.L.Link.awaited c.args.link.now) (g.L.Link.awaited c.open.new.link) h (stage_ticket c.open.result)) (ap opening_ticket c.new.ensures.opening) c.open.ensures.tickets

pub returns-in-Ok-clause-turned : goal.returns-in-Ok-clause-turned
returns-in-Ok-clause-turned g c =
    let args = ap (λ (o : ClientOpening). o.args) c.new.ensures.opening in
    let unsent = ap (λ (o : ClientOpening). o.sending) c.new.ensures.opening in
    record {
      next = c.open.ensures.turned.next;
      turned = record {
        watching =
            took_on _ _ _ _ _ _ stage.Unopened c.args.self.now (stage.Opens c.new.result) c.args.self.now _ _ same_place c.open.ensures.turned.next
            (begins _ _ c.args.self.now c.new.result (λ w start watched. subst (λ a. Asks a w start) (sym args) (args_ask c.args.self.now.watched c.in-Ok.args c.in-Ok.ensures.asks w start watched)) c.new.ensures.sound unsent)
            c.open.ensures.turned.turned.watching;
        vainly =
            vain_on _ _ _ _ _ _ stage.Unopened c.args.self.now (stage.Opens c.new.result) c.args.self.now _ _
            (vain_begins _ _ c.args.self.now c.new.result (λ none. subst (λ a. AsksNothing a) (sym args) (args_ask_nothing c.args.self.now.watched c.in-Ok.args c.in-Ok.ensures.asks none)) c.new.ensures.sound unsent)
            c.open.ensures.turned.turned.vainly;
      };
      told =
          begin_tells _ _ _ _ _ (kept c.args.self.now) c.new.result _ _ c.open.ensures.turned.next (subst (λ a. IsWatchArgs c.args.self.now.watched a) (sym args) c.in-Ok.ensures.args) c.new.ensures.sound unsent
          c.open.ensures.turned.told;
    }

pub returns-in-Err-clause-turned : goal.returns-in-Err-clause-turned
returns-in-Err-clause-turned g c = record {
  next = same_place;
  turned = record {
    watching = begin_failed _ _ c.args.self.now _ (record { watched = refl; answers = refl; token = refl }) (subst (λ o. IsFailed o) (sym c.note.ensures) tt);
    vainly = vain_begin_failed _ _ c.args.self.now _ (record { watched = refl; answers = refl; token = refl }) (subst (λ o. IsFailed o) (sym c.note.ensures) tt);
  };
  told = begin_fails _ _ _ (kept c.args.self.now) _ c.in-Err.error c.note.ensures (ap (λ (e : Error). e.kind) c.in-Err.ensures.err);
}

pub returns-in-Ok-clause-comes : goal.returns-in-Ok-clause-comes
returns-in-Ok-clause-comes g c = begins_open _ _ c.new.result _ _ _ (ap opening_ticket c.new.ensures.opening) c.open.ensures.comes

pub returns-in-Err-clause-comes : goal.returns-in-Err-clause-comes
returns-in-Err-clause-comes g c = never_open _ _ stage.Unopened _ _ (λ calls k last at. at.0) refl (subst (λ o. IsFailed o) (sym c.note.ensures) tt) refl refl refl

pub returns-in-Ok-clause-lost : goal.returns-in-Ok-clause-lost
returns-in-Ok-clause-lost g c = λ part lost. c.open.ensures.lost part lost

pub returns-in-Err-clause-lost : goal.returns-in-Err-clause-lost
returns-in-Err-clause-lost g c =
    opened_loses (g.L.Link.faults c.args.link.now) (g.L.Link.faults c.args.link.now) (g.L.Link.pends c.args.link.now) (g.L.Link.pends c.args.link.now) c.args.self.now (record c.args.self.now { opened = c.note.new.slot }) (ended.Failed c.in-Err.error) c.note.ensures (λ lost. absurd (no_room c.in-Err.error c.in-Err.ensures.err lost)) refl refl
