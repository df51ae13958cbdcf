use Rattle.std.proofs.Common.{◌≡◌, ◌<◌, ◌++◌, ◌∷◌, [], length, refl, sym, ap, ◌∙◌, subst, arith, List}
use Rattle.std.specs.Prelude.{slice_set}
use Rattle.std.proofs.lemmas.Option.{slice_get_read}
use Rattle.std.proofs.lemmas.Result.{err_from_is_err_and}
use Rattle.mg_players.specs.Runs.{IsSameJob, idle}
use Rattle.mg_jobs.specs.Runners.{ended_at}
use Rattle.mg_turns.specs.declared.turned.Turned.{Turned}
use Rattle.mg_players.specs.declared.player.Player.{Player}
use Rattle.mg_players.proofs.Apart.{apart_as, on_err, same_at, same_job, same_jobs, stands_after}
use Rattle.mg_players.proofs.Knowing.{knowing_on, tasks_after}
use Rattle.mg_players.proofs.Advancing.{at_after}
use Rattle.mg_players.proofs.Drawing.{drawn_on}
use Rattle.mg_players.proofs.Losing.{all_lose_at, none_lose}
use Rattle.mg_jobs.proofs.Waiting.{held_turn}
use Rattle.mg_jobs.proofs.Polling.{polls_turn}
use Rattle.mg_jobs.proofs.Told.{all_turn, tell_as}
use Rattle.mg_players.specs.Progress.{AllAt}
use Rattle.mg_players.specs.Telling.{AllTell}
use Rattle.mg_jobs.proofs.run.Runner.turn.Goals as goal

pub returns-then-at-len-clause-same : goal.returns-then-at-len-clause-same
returns-then-at-len-clause-same g c = same_jobs c.args.self.now.players.items

pub returns-then-at-len-clause-ended : goal.returns-then-at-len-clause-ended
returns-then-at-len-clause-ended g c = λ e. (refl, same_jobs c.args.self.now.players.items, tt)

pub returns-in_err-reserve-clause-same : goal.returns-in_err-reserve-clause-same
returns-in_err-reserve-clause-same g c = on_err c.from_residual.result (same_jobs c.args.self.now.players.items)

pub returns-in_err-reserve-clause-ended : goal.returns-in_err-reserve-clause-ended
returns-in_err-reserve-clause-ended g c = λ e.
    let p = err_from_is_err_and c.from_residual.result c.from_residual.ensures.1 in
    (refl, same_jobs c.args.self.now.players.items, rw p.1 tt)

pub turn_of-requires : goal.turn_of-requires
turn_of-requires g c =
    let ok = c.args.self.now.players.ok.0 in
    let within : c.args.job < length c.args.self.now.players.items = omega (arith, c.len.ensures, c.if-at-len.false) in
    c.requires.each c.args.job c.index_mut-player.result.now (slice_get_read c.args.self.now.players.items (length c.args.self.now.players.items) c.args.job c.index_mut-player.result.now refl within c.index_mut-player.ensures.value)

pub returns-in_err-note-clause-stands : goal.returns-in_err-note-clause-stands
returns-in_err-note-clause-stands g c =
    let ok = c.args.self.now.players.ok.0 in
    let within : c.args.job < length c.args.self.now.players.items = omega (arith, c.len.ensures, c.if-at-len.false) in
    let at = slice_get_read c.args.self.now.players.items (length c.args.self.now.players.items) c.args.job c.index_mut-player.result.now refl within c.index_mut-player.ensures.value in
    stands_after (g.L.Link.awaited c.args.link.now) (g.L.Link.awaited c.turn_of.new.link) (g.L.Link.log c.args.link.now) (g.L.Link.log c.turn_of.new.link) (g.L.Link.wire c.args.link.now) (g.L.Link.wire c.turn_of.new.link) c.args.self.now.players.items c.args.job c.index_mut-player.result.now c.turn_of.new.player c.turn_of.ensures.later.wire at c.requires c.turn_of.ensures.goes

pub returns-in_err-note-clause-same : goal.returns-in_err-note-clause-same
returns-in_err-note-clause-same g c =
    let ok = c.args.self.now.players.ok.0 in
    let within : c.args.job < length c.args.self.now.players.items = omega (arith, c.len.ensures, c.if-at-len.false) in
    let at = slice_get_read c.args.self.now.players.items (length c.args.self.now.players.items) c.args.job c.index_mut-player.result.now refl within c.index_mut-player.ensures.value in
    on_err c.from_residual-in_err-note.result (same_at c.args.self.now.players.items c.args.job c.index_mut-player.result.now c.turn_of.new.player at c.in_err-note.ensures.err.3)

pub returns-in_err-note-clause-ended : goal.returns-in_err-note-clause-ended
returns-in_err-note-clause-ended g c = λ e.
    let ok = c.args.self.now.players.ok.0 in
    let within : c.args.job < length c.args.self.now.players.items = omega (arith, c.len.ensures, c.if-at-len.false) in
    let at = slice_get_read c.args.self.now.players.items (length c.args.self.now.players.items) c.args.job c.index_mut-player.result.now refl within c.index_mut-player.ensures.value in
    let bad = c.in_err-note.ensures.ended (ap ended_at (sym at) ∙ e) in
    absurd (cc bad.0)

pub returns-clause-stands : goal.returns-clause-stands
returns-clause-stands g c =
    let ok = c.args.self.now.players.ok.0 in
    let within : c.args.job < length c.args.self.now.players.items = omega (arith, c.len.ensures, c.if-at-len.false) in
    let at = slice_get_read c.args.self.now.players.items (length c.args.self.now.players.items) c.args.job c.index_mut-player.result.now refl within c.index_mut-player.ensures.value in
    stands_after (g.L.Link.awaited c.args.link.now) (g.L.Link.awaited c.turn_of.new.link) (g.L.Link.log c.args.link.now) (g.L.Link.log c.turn_of.new.link) (g.L.Link.wire c.args.link.now) (g.L.Link.wire c.turn_of.new.link) c.args.self.now.players.items c.args.job c.index_mut-player.result.now c.turn_of.new.player c.turn_of.ensures.later.wire at c.requires c.turn_of.ensures.goes

pub returns-clause-ended : goal.returns-clause-ended
returns-clause-ended g c = λ e.
    let ok = c.args.self.now.players.ok.0 in
    let within : c.args.job < length c.args.self.now.players.items = omega (arith, c.len.ensures, c.if-at-len.false) in
    let at = slice_get_read c.args.self.now.players.items (length c.args.self.now.players.items) c.args.job c.index_mut-player.result.now refl within c.index_mut-player.ensures.value in
    let h = c.in_ok-note.ensures.ended (ap ended_at (sym at) ∙ e) in
    let noted : c.in_ok-note.note ≡ idle = cc h.0 in
    let same = subst (λ (q : Player). IsSameJob c.index_mut-player.result.now q) (sym h.2) (same_job c.index_mut-player.result.now) in (
      h.1,
      same_at c.args.self.now.players.items c.args.job c.index_mut-player.result.now c.turn_of.new.player at same,
      c.push_reserved.ensures ∙ ap (λ l. l ++ c.in_ok-note.note ∷ []) c.in_ok-reserve.ensures.items ∙ ap (λ (n : Turned). c.args.self.now.turns.items ++ n ∷ []) noted,
    )

pub returns-in_err-note-clause-none_lost : goal.returns-in_err-note-clause-none_lost
returns-in_err-note-clause-none_lost g c = λ before was.
    let ok = c.args.self.now.players.ok.0 in
    let within : c.args.job < length c.args.self.now.players.items = omega (arith, c.len.ensures, c.if-at-len.false) in
    let at = slice_get_read c.args.self.now.players.items (length c.args.self.now.players.items) c.args.job c.index_mut-player.result.now refl within c.index_mut-player.ensures.value in
    held_turn before (g.L.Link.awaited c.args.link.now) (g.L.Link.awaited c.turn_of.new.link) c.args.self.now.players.items c.args.job c.index_mut-player.result.now c.turn_of.new.player at c.turn_of.ensures.goes.tickets was

pub returns-in_err-note-clause-knowing : goal.returns-in_err-note-clause-knowing
returns-in_err-note-clause-knowing g c = λ begun.
    let ok = c.args.self.now.players.ok.0 in
    let within : c.args.job < length c.args.self.now.players.items = omega (arith, c.len.ensures, c.if-at-len.false) in
    let at = slice_get_read c.args.self.now.players.items (length c.args.self.now.players.items) c.args.job c.index_mut-player.result.now refl within c.index_mut-player.ensures.value in
    knowing_on (g.L.Link.awaited c.args.link.now) (g.L.Link.awaited c.turn_of.new.link) (g.L.Link.log c.args.link.now) (g.L.Link.log c.turn_of.new.link) (g.L.Link.wire c.turn_of.new.link) c.args.self.now.players.items c.args.job c.index_mut-player.result.now c.turn_of.new.player at (apart_as _ _ _ c.args.self.now.players.items c.turn_of.ensures.later.wire c.requires) c.turn_of.ensures.goes begun

pub returns-in_err-note-clause-tasks : goal.returns-in_err-note-clause-tasks
returns-in_err-note-clause-tasks g c =
    let ok = c.args.self.now.players.ok.0 in
    let within : c.args.job < length c.args.self.now.players.items = omega (arith, c.len.ensures, c.if-at-len.false) in
    let at = slice_get_read c.args.self.now.players.items (length c.args.self.now.players.items) c.args.job c.index_mut-player.result.now refl within c.index_mut-player.ensures.value in
    tasks_after c.args.self.now.players.items c.args.job c.index_mut-player.result.now c.turn_of.new.player at c.turn_of.ensures.goes.task

pub returns-clause-none_lost : goal.returns-clause-none_lost
returns-clause-none_lost g c = λ before was.
    let ok = c.args.self.now.players.ok.0 in
    let within : c.args.job < length c.args.self.now.players.items = omega (arith, c.len.ensures, c.if-at-len.false) in
    let at = slice_get_read c.args.self.now.players.items (length c.args.self.now.players.items) c.args.job c.index_mut-player.result.now refl within c.index_mut-player.ensures.value in
    held_turn before (g.L.Link.awaited c.args.link.now) (g.L.Link.awaited c.turn_of.new.link) c.args.self.now.players.items c.args.job c.index_mut-player.result.now c.turn_of.new.player at c.turn_of.ensures.goes.tickets was

pub returns-clause-knowing : goal.returns-clause-knowing
returns-clause-knowing g c = λ begun.
    let ok = c.args.self.now.players.ok.0 in
    let within : c.args.job < length c.args.self.now.players.items = omega (arith, c.len.ensures, c.if-at-len.false) in
    let at = slice_get_read c.args.self.now.players.items (length c.args.self.now.players.items) c.args.job c.index_mut-player.result.now refl within c.index_mut-player.ensures.value in
    knowing_on (g.L.Link.awaited c.args.link.now) (g.L.Link.awaited c.turn_of.new.link) (g.L.Link.log c.args.link.now) (g.L.Link.log c.turn_of.new.link) (g.L.Link.wire c.turn_of.new.link) c.args.self.now.players.items c.args.job c.index_mut-player.result.now c.turn_of.new.player at (apart_as _ _ _ c.args.self.now.players.items c.turn_of.ensures.later.wire c.requires) c.turn_of.ensures.goes begun

pub returns-clause-tasks : goal.returns-clause-tasks
returns-clause-tasks g c =
    let ok = c.args.self.now.players.ok.0 in
    let within : c.args.job < length c.args.self.now.players.items = omega (arith, c.len.ensures, c.if-at-len.false) in
    let at = slice_get_read c.args.self.now.players.items (length c.args.self.now.players.items) c.args.job c.index_mut-player.result.now refl within c.index_mut-player.ensures.value in
    tasks_after c.args.self.now.players.items c.args.job c.index_mut-player.result.now c.turn_of.new.player at c.turn_of.ensures.goes.task

pub returns-clause-rows : goal.returns-clause-rows
returns-clause-rows g c = λ ts order same all.
    let ok = c.args.self.now.players.ok.0 in
    let within : c.args.job < length c.args.self.now.players.items = omega (arith, c.len.ensures, c.if-at-len.false) in
    let at = slice_get_read c.args.self.now.players.items (length c.args.self.now.players.items) c.args.job c.index_mut-player.result.now refl within c.index_mut-player.ensures.value in
    subst (λ (ns : List Turned). AllAt ts (order ++ c.args.job ∷ []) ns (slice_set c.args.self.now.players.items c.args.job c.turn_of.new.player)) (sym (c.push_reserved.ensures ∙ ap (λ l. l ++ c.in_ok-note.note ∷ []) c.in_ok-reserve.ensures.items))
    (at_after order c.args.self.now.turns.items c.args.job c.in_ok-note.note same ts c.args.self.now.players.items c.index_mut-player.result.now c.turn_of.new.player at c.in_ok-note.ensures.comes all)

pub returns-clause-drawn : goal.returns-clause-drawn
returns-clause-drawn g c = λ first ts order does drawn.
    let ok = c.args.self.now.players.ok.0 in
    let within : c.args.job < length c.args.self.now.players.items = omega (arith, c.len.ensures, c.if-at-len.false) in
    let at = slice_get_read c.args.self.now.players.items (length c.args.self.now.players.items) c.args.job c.index_mut-player.result.now refl within c.index_mut-player.ensures.value in
    drawn_on first (g.I.IdSource.ids c.args.ids.now) (g.I.IdSource.ids c.turn_of.new.ids) ts order c.args.self.now.players.items c.args.job c.index_mut-player.result.now c.turn_of.new.player at does c.in_ok-note.ensures.draws.drawn c.in_ok-note.ensures.draws.has drawn

pub returns-clause-told : goal.returns-clause-told
returns-clause-told g c = λ supply begun ts order its same all drawn tell.
    let ok = c.args.self.now.players.ok.0 in
    let within : c.args.job < length c.args.self.now.players.items = omega (arith, c.len.ensures, c.if-at-len.false) in
    let at = slice_get_read c.args.self.now.players.items (length c.args.self.now.players.items) c.args.job c.index_mut-player.result.now refl within c.index_mut-player.ensures.value in
    subst (λ (ns : List Turned). AllTell supply (g.L.Link.awaited c.turn_of.new.link) begun (g.L.Link.log c.turn_of.new.link) (g.L.Link.wire c.turn_of.new.link) ts (order ++ c.args.job ∷ []) ns (slice_set c.args.self.now.players.items c.args.job c.turn_of.new.player))
    (sym (c.push_reserved.ensures ∙ ap (λ l. l ++ c.in_ok-note.note ∷ []) c.in_ok-reserve.ensures.items))
    (all_turn (g.I.IdSource.ids c.args.ids.now) c.args.moment.millis (g.L.Link.awaited c.args.link.now) (g.L.Link.awaited c.turn_of.new.link) (g.L.Link.log c.args.link.now) (g.L.Link.log c.turn_of.new.link) (g.L.Link.wire c.turn_of.new.link) c.args.self.now.players.items c.args.job c.index_mut-player.result.now c.turn_of.new.player at
    (apart_as _ _ _ c.args.self.now.players.items c.turn_of.ensures.later.wire c.requires) c.turn_of.ensures.goes c.in_ok-note.note c.in_ok-note.ensures.noted.starts c.in_ok-note.ensures.noted.stays
    (λ over. let idles = c.in_ok-note.ensures.ended over in let is : c.in_ok-note.note ≡ idle = cc idles.0 in ap (λ (n : Turned). n.started) is)
    c.in_ok-note.ensures.polled.holds supply its begun ts order c.args.self.now.turns.items same all drawn (tell_as _ _ _ _ _ _ ts order c.args.self.now.turns.items c.args.self.now.players.items c.turn_of.ensures.later.wire tell))

pub returns-clause-polled : goal.returns-clause-polled
returns-clause-polled g c =
    let ok = c.args.self.now.players.ok.0 in
    let within : c.args.job < length c.args.self.now.players.items = omega (arith, c.len.ensures, c.if-at-len.false) in
    let at = slice_get_read c.args.self.now.players.items (length c.args.self.now.players.items) c.args.job c.index_mut-player.result.now refl within c.index_mut-player.ensures.value in (
      c.in_ok-note.note,
      c.push_reserved.ensures ∙ ap (λ l. l ++ c.in_ok-note.note ∷ []) c.in_ok-reserve.ensures.items,
      λ supply begun ts order all drawn tell.
          polls_turn supply (g.I.IdSource.ids c.args.ids.now) (g.L.Link.awaited c.args.link.now) (g.L.Link.log c.args.link.now) (g.L.Link.log c.turn_of.new.link) (g.L.Link.wire c.args.link.now) ts order c.args.self.now.turns.items c.args.self.now.players.items c.args.job c.index_mut-player.result.now c.in_ok-note.note
          (g.L.Link.polls c.args.link.now) (g.L.Link.polls c.turn_of.new.link) begun at c.in_ok-note.ensures.noted.starts all drawn tell c.in_ok-note.ensures.polled.polled,
    )

pub returns-then-at-len-clause-lost : goal.returns-then-at-len-clause-lost
returns-then-at-len-clause-lost g c = none_lose (g.L.Link.faults c.args.link.now) (g.L.Link.faults c.args.link.now) (g.L.Link.pends c.args.link.now) (g.L.Link.pends c.args.link.now) c.args.self.now.players.items

pub returns-in_err-reserve-clause-lost : goal.returns-in_err-reserve-clause-lost
returns-in_err-reserve-clause-lost g c = none_lose (g.L.Link.faults c.args.link.now) (g.L.Link.faults c.args.link.now) (g.L.Link.pends c.args.link.now) (g.L.Link.pends c.args.link.now) c.args.self.now.players.items

pub returns-in_err-note-clause-lost : goal.returns-in_err-note-clause-lost
returns-in_err-note-clause-lost g c =
    let ok = c.args.self.now.players.ok.0 in
    let within : c.args.job < length c.args.self.now.players.items = omega (arith, c.len.ensures, c.if-at-len.false) in
    let at = slice_get_read c.args.self.now.players.items (length c.args.self.now.players.items) c.args.job c.index_mut-player.result.now refl within c.index_mut-player.ensures.value in
    all_lose_at (g.L.Link.faults c.args.link.now) (g.L.Link.faults c.turn_of.new.link) (g.L.Link.pends c.args.link.now) (g.L.Link.pends c.turn_of.new.link) c.args.self.now.players.items c.args.job c.index_mut-player.result.now c.turn_of.new.player at c.turn_of.ensures.lost

pub returns-clause-lost : goal.returns-clause-lost
returns-clause-lost g c =
    let ok = c.args.self.now.players.ok.0 in
    let within : c.args.job < length c.args.self.now.players.items = omega (arith, c.len.ensures, c.if-at-len.false) in
    let at = slice_get_read c.args.self.now.players.items (length c.args.self.now.players.items) c.args.job c.index_mut-player.result.now refl within c.index_mut-player.ensures.value in
    all_lose_at (g.L.Link.faults c.args.link.now) (g.L.Link.faults c.turn_of.new.link) (g.L.Link.pends c.args.link.now) (g.L.Link.pends c.turn_of.new.link) c.args.self.now.players.items c.args.job c.index_mut-player.result.now c.turn_of.new.player at c.turn_of.ensures.lost
