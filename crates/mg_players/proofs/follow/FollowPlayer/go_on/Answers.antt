use Rattle.std.proofs.Common.{◌≡◌, ℕ, Option, Some, None, ap, arith, inl, refl, subst, sym, ◌∙◌}
use Rattle.mg_link.specs.Acts.{Tickets}
use Rattle.mg_change.specs.ClosingStreams.{ClosingStream, handed_over}
use Rattle.mg_change.specs.StreamView.{stream_of}
use Rattle.mg_change.proofs.Resting.{between_holds_none}
use Rattle.mg_players.specs.declared.follow.Stage.TheVariants as stage
use Rattle.mg_players.proofs.Turning.{closes_last, closes_none, handed_moved, to_close, took_on, took_same}
use Rattle.mg_players.proofs.Vainly.{vain_on, vain_same, vain_to_close}
use Rattle.mg_players.proofs.Advancing.{goes_to_close, stays_open}
use Rattle.mg_players.proofs.Telling.{rest_closes_tells, rest_stays_tells}
use Rattle.mg_players.specs.Follows.{same_place}
use Rattle.mg_players.specs.Playing.{stage_ticket}
use Rattle.mg_players.specs.Telling.{kept}
use Rattle.mg_players.proofs.follow.FollowPlayer.go_on.Goals as goal

pub returns-then-self-gt0-clause-holds : goal.returns-then-self-gt0-clause-holds
returns-then-self-gt0-clause-holds g c = (c.requires.sound, c.requires.owned)

pub returns-then-self-gt0-clause-turned : goal.returns-then-self-gt0-clause-turned
returns-then-self-gt0-clause-turned g c = record {
  watching = took_same _ _ _ (stage.Open c.args.stream) c.args.self.now refl;
  vainly = vain_same _ _ (stage.Open c.args.stream) c.args.self.now;
}

pub handed-requires : goal.handed-requires
handed-requires g c = c.close-closing.ensures.owned c.requires.owned

pub close-requires-clause-held : goal.close-requires-clause-held
close-requires-clause-held g c = λ n e.
    let left = c.handed.new.closing.cursor.token in
    let is = c.handed.ensures.gone ∙ ap (handed_over left) c.close-closing.ensures.closed in
    let bad : None ≡ Some n = sym (closes_none (stream_of c.args.stream) c.close-closing.result.lent left c.handed.new.closing is c.requires.rests) ∙ e in absurd cc

pub close-requires-clause-holds : goal.close-requires-clause-holds
close-requires-clause-holds g c =
    let left = c.handed.new.closing.cursor.token in
    let is = c.handed.ensures.gone ∙ ap (handed_over left) c.close-closing.ensures.closed in
    closes_last (stream_of c.args.stream) c.close-closing.result.lent left c.handed.new.closing is c.requires.rests c.requires.sound.sound

pub returns-clause-tickets : goal.returns-clause-tickets
returns-clause-tickets g c =
    let s = stream_of c.args.stream in
    let left = c.handed.new.closing.cursor.token in
    let is = c.handed.ensures.gone ∙ ap (handed_over left) c.close-closing.ensures.closed in
    subst (λ (h : Option ℕ). Tickets (g.L.Link.awaited c.args.link.now) (g.L.Link.awaited c.close.new.link) h (stage_ticket c.close.result))
    (closes_none s c.close-closing.result.lent left c.handed.new.closing is c.requires.rests ∙ sym (between_holds_none s c.requires.rests)) c.close.ensures.tickets

pub returns-clause-turned : goal.returns-clause-turned
returns-clause-turned g c =
    let s = stream_of c.args.stream in
    let left = c.handed.new.closing.cursor.token in
    let is = c.handed.ensures.gone ∙ ap (handed_over left) c.close-closing.ensures.closed in
    let token = c.handed.ensures.token ∙ ap (λ (k : ClosingStream). k.token) c.close-closing.ensures.closed in
    record {
      watching =
          took_on _ _ _ _ _ _ (stage.Open c.args.stream) c.args.self.now (stage.Closes c.handed.new.closing) _ _ _ same_place same_place
          (to_close _ _ c.args.self.now _ c.args.stream c.handed.new.closing (record { watched = refl; opened = refl; answers = refl }) token (handed_moved _ _ s c.close-closing.result.lent left c.handed.new.closing is c.requires.sound.sound))
          c.close.ensures.turned.watching;
      vainly =
          vain_on _ _ _ _ _ _ (stage.Open c.args.stream) c.args.self.now (stage.Closes c.handed.new.closing) _ _ _
          (vain_to_close _ _ c.args.self.now _ c.args.stream c.handed.new.closing (record { watched = refl; opened = refl; answers = refl }))
          c.close.ensures.turned.vainly;
    }

pub returns-then-self-gt0-clause-comes : goal.returns-then-self-gt0-clause-comes
returns-then-self-gt0-clause-comes g c = stays_open _ c.args.stream _ c.requires.rests (omega (arith, c.if-self-gt0.true))

pub returns-clause-comes : goal.returns-clause-comes
returns-clause-comes g c = goes_to_close _ _ _ _ _ (omega (arith, c.if-self-gt0.false)) c.close.ensures.comes

pub returns-then-self-gt0-clause-told : goal.returns-then-self-gt0-clause-told
returns-then-self-gt0-clause-told g c = rest_stays_tells _ _ _ c.args.stream (kept c.args.self.now) c.requires.sound.sound c.requires.rests

pub returns-clause-told : goal.returns-clause-told
returns-clause-told g c =
    let left = c.handed.new.closing.cursor.token in
    let is = c.handed.ensures.gone ∙ ap (handed_over left) c.close-closing.ensures.closed in
    let token = c.handed.ensures.token ∙ ap (λ (k : ClosingStream). k.token) c.close-closing.ensures.closed in
    rest_closes_tells _ _ _ _ _ (stream_of c.args.stream) c.close-closing.result.lent left (kept c.args.self.now) c.handed.result c.handed.new.closing _ _ is c.requires.rests token c.close.ensures.told

pub returns-then-self-gt0-clause-lost : goal.returns-then-self-gt0-clause-lost
returns-then-self-gt0-clause-lost g c = λ part lost. inl lost

pub returns-clause-lost : goal.returns-clause-lost
returns-clause-lost g c = λ part lost. c.close.ensures.lost part lost
