use Rattle.std.proofs.Common.{None, inl, refl, subst, sym, true}
use Rattle.mg_link.specs.declared.action.Step.TheVariants as step
use Rattle.mg_link.proofs.Onward.{tickets_on}
use Rattle.mg_change.specs.OpeningView.{opening_of}
use Rattle.mg_change.specs.StreamView.{stream_of}
use Rattle.mg_change.proofs.Placed.{opens_at}
use Rattle.mg_change.proofs.Resting.{opened_args, opened_between, opening_args}
use Rattle.mg_change.proofs.Vain.{opens_in_vain}
use Rattle.mg_players.specs.declared.follow.Stage.TheVariants as stage
use Rattle.mg_players.proofs.Turning.{open_done, open_failed, open_pends, rest_out, tickets_rest, took_on}
use Rattle.mg_players.proofs.Vainly.{vain_on, vain_open_done, vain_open_failed, vain_open_pends}
use Rattle.mg_players.proofs.Advancing.{never_open, open_goes, open_waits}
use Rattle.mg_players.proofs.Telling.{open_done_tells, open_fails_tells, open_waits_tells}
use Rattle.mg_players.specs.Progress.{came}
use Rattle.mg_players.specs.Telling.{kept}
use Rattle.mg_players.specs.Follows.{HasGiven, IsFailed, same_place}
use Rattle.mg_players.specs.Losses.{FollowLost}
use Rattle.mg_players.specs.declared.follow.FollowPlayer.{FollowPlayer}
use Rattle.mg_script.specs.declared.outcome.Ended.TheVariants as ended
use Rattle.mg_players.proofs.Losing.{loses_on, opened_loses}
use Rattle.mg_players.proofs.follow.FollowPlayer.open.Goals as goal

pub returns-in-Pending-clause-holds : goal.returns-in-Pending-clause-holds
returns-in-Pending-clause-holds g c = c.in-Pending.ensures.sound c.requires.sound

pub returns-in-Pending-clause-turned : goal.returns-in-Pending-clause-turned
returns-in-Pending-clause-turned g c =
    let o = opening_of c.args.opening in
    let o' = opening_of c.in-Pending.opening in
    let opens = c.in-Pending.ensures.opens c.requires.sound in
    let args = opening_args _ _ _ _ _ None opens.0 o (step.Pending o') opens.1 o' refl in
    record {
      next = same_place;
      turned = record {
        watching = open_pends _ _ _ _ c.args.self.now c.args.opening c.in-Pending.opening args c.in-Pending.ensures.sound c.in-Pending.ensures.moved;
        vainly = vain_open_pends _ _ _ _ c.args.self.now c.args.opening c.in-Pending.opening args c.in-Pending.ensures.sound
            (λ sound none. opens_in_vain _ _ _ _ _ None opens.0 o (step.Pending o') none true sound.sound opens.1);
      };
      told = open_waits_tells _ _ _ _ _ (kept c.args.self.now) c.args.opening c.in-Pending.opening c.in-Pending.ensures.sound c.in-Pending.ensures.opens c.in-Pending.ensures.caused;
    }

pub go_on-requires-clause-held : goal.go_on-requires-clause-held
go_on-requires-clause-held g c =
    let opens = c.in-Done.ensures.opens c.requires.sound in
    let s = stream_of c.in-Done.stream in
    rest_out _ s (opened_between _ _ _ _ _ None opens.0 (opening_of c.args.opening) (step.Done s) opens.1 s refl)

pub go_on-requires-clause-sound : goal.go_on-requires-clause-sound
go_on-requires-clause-sound g c = c.in-Done.ensures.sound c.requires.sound

pub go_on-requires-clause-owned : goal.go_on-requires-clause-owned
go_on-requires-clause-owned g c = c.in-Done.ensures.owned

pub go_on-requires-clause-rests : goal.go_on-requires-clause-rests
go_on-requires-clause-rests g c =
    let opens = c.in-Done.ensures.opens c.requires.sound in
    let s = stream_of c.in-Done.stream in
    opened_between _ _ _ _ _ None opens.0 (opening_of c.args.opening) (step.Done s) opens.1 s refl

pub returns-in-Done-clause-tickets : goal.returns-in-Done-clause-tickets
returns-in-Done-clause-tickets g c =
    let opens = c.in-Done.ensures.opens c.requires.sound in
    let s = stream_of c.in-Done.stream in
    tickets_on c.in-Done.ensures.tickets (tickets_rest _ _ s _ (opened_between _ _ _ _ _ None opens.0 (opening_of c.args.opening) (step.Done s) opens.1 s refl) c.go_on.ensures.tickets)

pub returns-in-Done-clause-turned : goal.returns-in-Done-clause-turned
returns-in-Done-clause-turned g c =
    let o = opening_of c.args.opening in
    let s = stream_of c.in-Done.stream in
    let opens = c.in-Done.ensures.opens c.requires.sound in
    let placed = opens_at _ _ _ _ _ None opens.0 o s true c.requires.sound.sound opens.1 in
    let args = opened_args _ _ _ _ _ None opens.0 o (step.Done s) opens.1 s refl in
    record {
      next = λ at. placed.place;
      turned = record {
        watching =
            took_on _ _ _ _ _ _ (stage.Opens c.args.opening) c.args.self.now (stage.Open c.in-Done.stream) _ _ _ (λ at. placed.place) same_place
            (open_done _ _ _ _ c.args.self.now _ c.args.opening c.in-Done.stream placed.place (record { watched = refl; answers = refl; token = refl }) (subst (λ o. HasGiven o) (sym c.note.ensures) tt) args (λ sound. placed.moved))
            c.go_on.ensures.turned.watching;
        vainly =
            vain_on _ _ _ _ _ _ (stage.Opens c.args.opening) c.args.self.now (stage.Open c.in-Done.stream) _ _ _
            (vain_open_done _ _ _ _ c.args.self.now _ c.args.opening c.in-Done.stream (record { watched = refl; answers = refl; token = refl }) (subst (λ o. HasGiven o) (sym c.note.ensures) tt)
            (λ sound none. opens_in_vain _ _ _ _ _ None opens.0 o (step.Done s) none true sound.sound opens.1))
            c.go_on.ensures.turned.vainly;
      };
      told =
          open_done_tells _ (g.L.Link.awaited c.poll.new.link) _ _ _ _ _ _ (kept c.args.self.now) (record (kept c.args.self.now) { opened = c.note.new.slot; alive = c.is_alive-self.result }) c.args.opening c.in-Done.stream _ _ c.go_on.ensures.told refl (subst (λ o. HasGiven o) (sym c.note.ensures) tt) refl c.is_alive-self.ensures c.in-Done.ensures.later.wire
          c.in-Done.ensures.opens c.in-Done.ensures.caused placed.place (λ sound. placed.caused);
    }

pub returns-in-Failed-clause-turned : goal.returns-in-Failed-clause-turned
returns-in-Failed-clause-turned g c =
    let opens = c.in-Failed.ensures.opens c.requires.sound in
    record {
      next = same_place;
      turned = record {
        watching = open_failed _ _ _ _ c.args.self.now _ c.args.opening (record { watched = refl; answers = refl; token = refl }) (subst (λ o. IsFailed o) (sym c.note-in-Failed.ensures) tt) c.in-Failed.ensures.moved;
        vainly = vain_open_failed _ _ _ _ c.args.self.now _ c.args.opening c.in-Failed.error (record { watched = refl; answers = refl; token = refl }) (subst (λ o. IsFailed o) (sym c.note-in-Failed.ensures) tt)
            (λ sound none. opens_in_vain _ _ _ _ _ None opens.0 (opening_of c.args.opening) (step.Failed c.in-Failed.error) none true sound.sound opens.1);
      };
      told = open_fails_tells _ _ _ _ _ (kept c.args.self.now) _ c.args.opening c.in-Failed.error refl c.note-in-Failed.ensures c.in-Failed.ensures.opens c.in-Failed.ensures.caused;
    }

pub returns-in-Pending-clause-comes : goal.returns-in-Pending-clause-comes
returns-in-Pending-clause-comes g c = open_waits _ _ c.args.opening c.in-Pending.opening _ c.in-Pending.ensures.pended

pub returns-in-Done-clause-comes : goal.returns-in-Done-clause-comes
returns-in-Done-clause-comes g c = open_goes _ _ _ c.args.opening (came c.args.self.now) _ _ _ c.in-Done.ensures.pended (subst (λ o. HasGiven o) (sym c.note.ensures) tt) refl refl refl c.go_on.ensures.comes

pub returns-in-Failed-clause-comes : goal.returns-in-Failed-clause-comes
returns-in-Failed-clause-comes g c = never_open _ _ (stage.Opens c.args.opening) _ _ (λ calls k last at. at.0) c.in-Failed.ensures.pended (subst (λ o. IsFailed o) (sym c.note-in-Failed.ensures) tt) refl refl refl

-- ---- what it says of lost replies

pub returns-in-Pending-clause-lost : goal.returns-in-Pending-clause-lost
returns-in-Pending-clause-lost g c = λ part lost. inl lost

pub returns-in-Done-clause-lost : goal.returns-in-Done-clause-lost
returns-in-Done-clause-lost g c =
    let mid = record c.args.self.now { opened = c.note.new.slot; alive = c.is_alive-self.result } in
    loses_on (λ (p : FollowPlayer). FollowLost p.opened p.answers.items p.closed) (g.L.Link.faults c.args.link.now) (g.L.Link.faults c.poll.new.link) (g.L.Link.faults c.go_on.new.link) (g.L.Link.pends c.args.link.now) (g.L.Link.pends c.poll.new.link) (g.L.Link.pends c.go_on.new.link) c.args.self.now mid c.go_on.new.self c.in-Done.ensures.later.faults c.go_on.ensures.later.faults c.in-Done.ensures.later.pends c.go_on.ensures.later.pends
    (opened_loses (g.L.Link.faults c.args.link.now) (g.L.Link.faults c.poll.new.link) (g.L.Link.pends c.args.link.now) (g.L.Link.pends c.poll.new.link) c.args.self.now mid (ended.Gave tt) c.note.ensures (λ lost. absurd lost) refl refl) c.go_on.ensures.lost

pub returns-in-Failed-clause-lost : goal.returns-in-Failed-clause-lost
returns-in-Failed-clause-lost g c =
    opened_loses (g.L.Link.faults c.args.link.now) (g.L.Link.faults c.poll.new.link) (g.L.Link.pends c.args.link.now) (g.L.Link.pends c.poll.new.link) c.args.self.now (record c.args.self.now { opened = c.note-in-Failed.new.slot }) (ended.Failed c.in-Failed.error) c.note-in-Failed.ensures (λ lost. c.in-Failed.ensures.lost lost) refl refl
