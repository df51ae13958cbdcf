use Rattle.std.proofs.Common.{None, ap, inl, refl, length, length-append, true, ◌∷◌, [], ◌∙◌}
use Rattle.mg_change.specs.ClientStreams.{stream_ticket}
use Rattle.mg_change.specs.Following.{event_told}
use Rattle.mg_change.specs.StreamView.{stream_of}
use Rattle.mg_change.proofs.Calls.{copies_args}
use Rattle.mg_link.proofs.Onward.{later_on, tickets_on}
use Rattle.mg_players.specs.declared.follow.Stage.TheVariants as stage
use Rattle.mg_players.proofs.Turning.{call_answers, call_pends, rests_after, took_on}
use Rattle.mg_players.proofs.Vainly.{vain_call, vain_on}
use Rattle.mg_players.proofs.Advancing.{ask_goes, ask_waits, waits_held}
use Rattle.mg_players.proofs.Telling.{call_answers_tells, call_waits_tells}
use Rattle.mg_players.specs.Follows.{same_place}
use Rattle.mg_players.specs.Progress.{came}
use Rattle.mg_players.specs.Telling.{kept}
use Rattle.mg_players.specs.Losses.{FollowLost}
use Rattle.mg_players.specs.declared.follow.FollowPlayer.{FollowPlayer}
use Rattle.mg_players.proofs.Losing.{answer_loses, loses_on, poll_lost}
use Rattle.mg_players.proofs.follow.FollowPlayer.ask.Goals as goal

pub go_on-requires-clause-held : goal.go_on-requires-clause-held
go_on-requires-clause-held g c = c.poll_next_if_any.ensures.keeps.tickets.held

pub go_on-requires-clause-owned : goal.go_on-requires-clause-owned
go_on-requires-clause-owned g c = c.poll_next_if_any.ensures.owned c.requires.owned

pub go_on-requires-clause-rests : goal.go_on-requires-clause-rests
go_on-requires-clause-rests g c = rests_after c.poll_next_if_any.result (stream_of c.poll_next_if_any.new.self) c.in-Some.ensures.1 c.poll_next_if_any.ensures.leaves

pub returns-in-Some-clause-tickets : goal.returns-in-Some-clause-tickets
returns-in-Some-clause-tickets g c = tickets_on c.poll_next_if_any.ensures.keeps.tickets c.go_on.ensures.tickets

pub returns-in-None-clause-tickets : goal.returns-in-None-clause-tickets
returns-in-None-clause-tickets g c = c.poll_next_if_any.ensures.keeps.tickets

pub returns-in-None-clause-holds : goal.returns-in-None-clause-holds
returns-in-None-clause-holds g c = (c.poll_next_if_any.ensures.sound, c.poll_next_if_any.ensures.owned c.requires.owned)

pub returns-in-Some-clause-later : goal.returns-in-Some-clause-later
returns-in-Some-clause-later g c = later_on c.poll_next_if_any.ensures.keeps.later c.go_on.ensures.later

pub returns-in-None-clause-later : goal.returns-in-None-clause-later
returns-in-None-clause-later g c = c.poll_next_if_any.ensures.keeps.later

pub returns-in-Some-clause-turned : goal.returns-in-Some-clause-turned
returns-in-Some-clause-turned g c =
    let does = c.poll_next_if_any.ensures.does in
    let args = copies_args does.0 true _ _ _ _ _ None does.1 (stream_of c.args.stream) (stream_of c.poll_next_if_any.new.self) c.poll_next_if_any.result c.requires.sound.sound refl does.2 in
    record {
      watching =
          took_on _ _ _ _ _ _ (stage.Open c.args.stream) c.args.self.now (stage.Open c.poll_next_if_any.new.self) c.take.new.self _ _ same_place same_place
          (call_answers _ _ _ _ c.args.self.now c.take.new.self c.args.stream c.poll_next_if_any.new.self (event_told c.poll_next_if_any.result) c.in-Some.answer c.take.ensures.watched c.take.ensures.opened c.take.ensures.answers c.in-Some.ensures.0 args c.poll_next_if_any.ensures.moved)
          c.go_on.ensures.turned.watching;
      vainly =
          vain_on _ _ _ _ _ _ (stage.Open c.args.stream) c.args.self.now (stage.Open c.poll_next_if_any.new.self) c.take.new.self _ _
          (vain_call _ _ _ _ c.args.self.now c.take.new.self c.args.stream c.poll_next_if_any.new.self c.poll_next_if_any.ensures.sent.commands c.take.ensures.watched c.take.ensures.opened c.poll_next_if_any.ensures.sent.adds)
          c.go_on.ensures.turned.vainly;
    }

pub returns-in-None-clause-turned : goal.returns-in-None-clause-turned
returns-in-None-clause-turned g c =
    let does = c.poll_next_if_any.ensures.does in
    let args = copies_args does.0 true _ _ _ _ _ None does.1 (stream_of c.args.stream) (stream_of c.poll_next_if_any.new.self) c.poll_next_if_any.result c.requires.sound.sound refl does.2 in
    record {
      watching = call_pends _ _ _ _ c.args.self.now c.args.stream c.poll_next_if_any.new.self (event_told c.poll_next_if_any.result) (ap event_told c.in-None.ensures) args c.poll_next_if_any.ensures.moved;
      vainly = vain_call _ _ _ _ c.args.self.now c.args.self.now c.args.stream c.poll_next_if_any.new.self c.poll_next_if_any.ensures.sent.commands refl refl c.poll_next_if_any.ensures.sent.adds;
    }

pub returns-in-Some-clause-comes : goal.returns-in-Some-clause-comes
returns-in-Some-clause-comes g c = ask_goes _ _ _ c.args.stream (came c.args.self.now) (came c.take.new.self) _ _ c.poll_next_if_any.result (stream_ticket (stream_of c.poll_next_if_any.new.self)) c.in-Some.ensures.1 c.poll_next_if_any.ensures.keeps.pended c.take.ensures.opened c.take.ensures.closed (ap length c.take.ensures.answers ∙ length-append c.args.self.now.answers.items (c.in-Some.answer ∷ [])) c.take.ensures.left c.go_on.ensures.comes

pub returns-in-None-clause-comes : goal.returns-in-None-clause-comes
returns-in-None-clause-comes g c = ask_waits _ _ c.args.stream c.poll_next_if_any.new.self _ c.poll_next_if_any.result c.in-None.ensures c.poll_next_if_any.ensures.keeps.pended

pub returns-in-Some-clause-told : goal.returns-in-Some-clause-told
returns-in-Some-clause-told g c =
    call_answers_tells _ _ _ _ _ _ _ _ (kept c.args.self.now) (kept c.take.new.self) c.args.stream c.poll_next_if_any.new.self c.poll_next_if_any.result c.in-Some.answer _ _ c.go_on.ensures.told
    c.take.ensures.watched c.take.ensures.opened c.take.ensures.answers c.take.ensures.alive c.poll_next_if_any.ensures.keeps.later.wire c.in-Some.ensures.2 c.requires.sound c.poll_next_if_any.ensures.does c.poll_next_if_any.ensures.caused

pub returns-in-None-clause-told : goal.returns-in-None-clause-told
returns-in-None-clause-told g c =
    call_waits_tells _ _ _ _ _ (kept c.args.self.now) c.args.stream c.poll_next_if_any.new.self c.poll_next_if_any.result c.in-None.ensures c.requires.sound c.poll_next_if_any.ensures.sound
    (waits_held _ _ _ c.poll_next_if_any.result c.in-None.ensures c.poll_next_if_any.ensures.keeps.pended) c.poll_next_if_any.ensures.does c.poll_next_if_any.ensures.caused

-- ---- what it says of lost replies

pub returns-in-Some-clause-lost : goal.returns-in-Some-clause-lost
returns-in-Some-clause-lost g c =
    let keeps = c.poll_next_if_any.ensures.keeps in
    loses_on (λ (p : FollowPlayer). FollowLost p.opened p.answers.items p.closed) (g.L.Link.faults c.args.link.now) (g.L.Link.faults c.poll_next_if_any.new.link) (g.L.Link.faults c.go_on.new.link) (g.L.Link.pends c.args.link.now) (g.L.Link.pends c.poll_next_if_any.new.link) (g.L.Link.pends c.go_on.new.link) c.args.self.now c.take.new.self c.go_on.new.self keeps.later.faults c.go_on.ensures.later.faults keeps.later.pends c.go_on.ensures.later.pends
    (answer_loses (g.L.Link.faults c.args.link.now) (g.L.Link.faults c.poll_next_if_any.new.link) (g.L.Link.pends c.args.link.now) (g.L.Link.pends c.poll_next_if_any.new.link) c.args.self.now c.take.new.self c.in-Some.answer c.take.ensures.answers (poll_lost (g.L.Link.faults c.args.link.now) (g.L.Link.faults c.poll_next_if_any.new.link) c.poll_next_if_any.result c.in-Some.answer c.in-Some.ensures.2 keeps.lost) c.take.ensures.opened c.take.ensures.closed)
    c.go_on.ensures.lost

pub returns-in-None-clause-lost : goal.returns-in-None-clause-lost
returns-in-None-clause-lost g c = λ part lost. inl lost
