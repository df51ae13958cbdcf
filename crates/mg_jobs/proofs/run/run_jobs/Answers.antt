use Rattle.std.proofs.Common.{◌≡◌, ◌<◌, length, None, inr, refl, sym, ◌∙◌, subst}
use Rattle.std.specs.List.{All}
use Rattle.mg_script.specs.Script.{first_missing}
use Rattle.mg_jobs.proofs.Orders.{none_missing}
use Rattle.std.proofs.lemmas.List.{length-map}
use Rattle.mg_script.specs.Plan.{task, tasks}
use Rattle.mg_players.proofs.Knowing.{knowing_first}
use Rattle.mg_players.proofs.Advancing.{rows_so}
use Rattle.mg_jobs.proofs.Blaming.{behind_so}
use Rattle.mg_jobs.proofs.Completing.{well_so}
use Rattle.mg_jobs.proofs.Garbled.{kept_so}
use Rattle.mg_players.specs.Drawing.{supplied}
use Rattle.mg_players.proofs.Drawing.{drawn_first, drawn_so}
use Rattle.mg_players.proofs.Losing.{lost_so}
use Rattle.mg_jobs.proofs.Waiting.{wait_so}
use Rattle.mg_jobs.proofs.Polling.{polls_so}
use Rattle.mg_jobs.proofs.Noted.{noted_so, pended_so}
use Rattle.mg_jobs.proofs.Told.{caused_so, filed_so, followed_so, names_so, sends_so, tell_as, tell_first}
use Rattle.mg_jobs.proofs.run.run_jobs.Goals as goal

pub play-requires-clause-jobs : goal.play-requires-clause-jobs
play-requires-clause-jobs g c =
    let none : first_missing (length c.args.jobs.now) c.args.order.now ≡ None = sym c.in_default.ensures in
    subst (λ n. All (λ m. m < n) c.args.order.now) (sym c.in_ok-runner.ensures.jobs) (none_missing (length c.args.jobs.now) c.args.order.now none)

pub returns-clause-followed : goal.returns-clause-followed
returns-clause-followed g c =
    let jobs = c.in_ok-runner.ensures.jobs ∙ sym (length-map c.args.jobs.now task) in
    let first = drawn_first (g.I.IdSource.ids c.args.ids.now) (tasks c.args.jobs.now) c.in_ok-runner.runner.players.items jobs c.in_ok-runner.ensures.first in
    followed_so (supplied (g.I.IdSource.ids c.args.ids.now) c.args.moment.millis) (g.I.IdSource.ids c.play.new.ids) _ _ _ _ (tasks c.args.jobs.now) c.args.order.now c.play.new.runner.turns.items c.play.new.runner.players.items c.into_played.result c.into_played.ensures.outcomes c.into_played.ensures.each c.into_played.ensures.turns
    (c.in_ok-play.ensures.drawn _ (tasks c.args.jobs.now) c.in_ok-runner.ensures.tasks first)
    (c.in_ok-play.ensures.told (supplied (g.I.IdSource.ids c.args.ids.now) c.args.moment.millis) (g.L.Link.log c.args.link.now) (tasks c.args.jobs.now) refl c.in_ok-runner.ensures.tasks c.in_ok-runner.ensures.at first (tell_first _ _ _ _ (tasks c.args.jobs.now) c.in_ok-runner.runner.players.items c.in_ok-runner.ensures.first))
    (c.in_ok-play.ensures.rows _ c.in_ok-runner.ensures.at) (c.play.ensures.tasks _ c.in_ok-runner.ensures.tasks)
    (c.play.ensures.knowing _ (knowing_first _ _ c.in_ok-runner.runner.players.items c.in_ok-runner.ensures.first))

pub returns-clause-filed : goal.returns-clause-filed
returns-clause-filed g c =
    let jobs = c.in_ok-runner.ensures.jobs ∙ sym (length-map c.args.jobs.now task) in
    let first = drawn_first (g.I.IdSource.ids c.args.ids.now) (tasks c.args.jobs.now) c.in_ok-runner.runner.players.items jobs c.in_ok-runner.ensures.first in
    filed_so (supplied (g.I.IdSource.ids c.args.ids.now) c.args.moment.millis) (g.I.IdSource.ids c.play.new.ids) _ _ _ _ (tasks c.args.jobs.now) c.args.order.now c.play.new.runner.turns.items c.play.new.runner.players.items c.into_played.result c.into_played.ensures.outcomes c.into_played.ensures.each c.into_played.ensures.turns
    (c.in_ok-play.ensures.drawn _ (tasks c.args.jobs.now) c.in_ok-runner.ensures.tasks first)
    (c.in_ok-play.ensures.told (supplied (g.I.IdSource.ids c.args.ids.now) c.args.moment.millis) (g.L.Link.log c.args.link.now) (tasks c.args.jobs.now) refl c.in_ok-runner.ensures.tasks c.in_ok-runner.ensures.at first (tell_first _ _ _ _ (tasks c.args.jobs.now) c.in_ok-runner.runner.players.items c.in_ok-runner.ensures.first))
    (c.in_ok-play.ensures.rows _ c.in_ok-runner.ensures.at) (c.play.ensures.tasks _ c.in_ok-runner.ensures.tasks)

pub returns-in_err-play-clause-naming : goal.returns-in_err-play-clause-naming
returns-in_err-play-clause-naming g c = λ calls told.
    let k = c.play.ensures.knowing _ (knowing_first _ _ c.in_ok-runner.runner.players.items c.in_ok-runner.ensures.first) calls told in
    (k.0, k.1, k.3)

pub returns-clause-naming : goal.returns-clause-naming
returns-clause-naming g c = λ calls told.
    let k = c.play.ensures.knowing _ (knowing_first _ _ c.in_ok-runner.runner.players.items c.in_ok-runner.ensures.first) calls told in
    (k.0, k.1, k.3)

pub returns-clause-rows : goal.returns-clause-rows
returns-clause-rows g c = rows_so (tasks c.args.jobs.now) c.args.order.now c.play.new.runner.players.items c.play.new.runner.turns.items c.into_played.result c.into_played.ensures.outcomes c.into_played.ensures.each c.into_played.ensures.turns (c.play.ensures.tasks _ c.in_ok-runner.ensures.tasks) (c.in_ok-play.ensures.rows _ c.in_ok-runner.ensures.at)

pub returns-in_err-play-clause-stopped : goal.returns-in_err-play-clause-stopped
returns-in_err-play-clause-stopped g c =
    let jobs = c.in_ok-runner.ensures.jobs ∙ sym (length-map c.args.jobs.now task) in
    c.play.ensures.stopped _ (tasks c.args.jobs.now) c.in_ok-runner.ensures.tasks (drawn_first (g.I.IdSource.ids c.args.ids.now) (tasks c.args.jobs.now) c.in_ok-runner.runner.players.items jobs c.in_ok-runner.ensures.first)

pub returns-clause-stopped : goal.returns-clause-stopped
returns-clause-stopped g c =
    let jobs = c.in_ok-runner.ensures.jobs ∙ sym (length-map c.args.jobs.now task) in
    c.play.ensures.stopped _ (tasks c.args.jobs.now) c.in_ok-runner.ensures.tasks (drawn_first (g.I.IdSource.ids c.args.ids.now) (tasks c.args.jobs.now) c.in_ok-runner.runner.players.items jobs c.in_ok-runner.ensures.first)

pub returns-clause-drawn : goal.returns-clause-drawn
returns-clause-drawn g c =
    let jobs = c.in_ok-runner.ensures.jobs ∙ sym (length-map c.args.jobs.now task) in
    drawn_so (g.I.IdSource.ids c.args.ids.now) (g.I.IdSource.ids c.play.new.ids) (tasks c.args.jobs.now) c.args.order.now c.play.new.runner.players.items c.into_played.result
    (c.in_ok-play.ensures.drawn _ (tasks c.args.jobs.now) c.in_ok-runner.ensures.tasks (drawn_first _ (tasks c.args.jobs.now) c.in_ok-runner.runner.players.items jobs c.in_ok-runner.ensures.first))

pub returns-clause-caused : goal.returns-clause-caused
returns-clause-caused g c =
    let jobs = c.in_ok-runner.ensures.jobs ∙ sym (length-map c.args.jobs.now task) in
    let first = drawn_first (g.I.IdSource.ids c.args.ids.now) (tasks c.args.jobs.now) c.in_ok-runner.runner.players.items jobs c.in_ok-runner.ensures.first in
    caused_so (supplied (g.I.IdSource.ids c.args.ids.now) c.args.moment.millis) (g.I.IdSource.ids c.play.new.ids) _ _ _ _ (tasks c.args.jobs.now) c.args.order.now c.play.new.runner.turns.items c.play.new.runner.players.items c.into_played.result c.into_played.ensures.outcomes c.into_played.ensures.each c.into_played.ensures.turns
    (c.in_ok-play.ensures.drawn _ (tasks c.args.jobs.now) c.in_ok-runner.ensures.tasks first)
    (tell_as _ _ _ _ _ _ (tasks c.args.jobs.now) c.args.order.now c.play.new.runner.turns.items c.play.new.runner.players.items (sym c.play.ensures.later.wire)
    (c.in_ok-play.ensures.told (supplied (g.I.IdSource.ids c.args.ids.now) c.args.moment.millis) (g.L.Link.log c.args.link.now) (tasks c.args.jobs.now) refl c.in_ok-runner.ensures.tasks c.in_ok-runner.ensures.at first (tell_first _ _ _ _ (tasks c.args.jobs.now) c.in_ok-runner.runner.players.items c.in_ok-runner.ensures.first)))
    (c.in_ok-play.ensures.rows _ c.in_ok-runner.ensures.at) (c.play.ensures.tasks _ c.in_ok-runner.ensures.tasks)

pub returns-clause-waits_alone : goal.returns-clause-waits_alone
returns-clause-waits_alone g c =
    let jobs = c.in_ok-runner.ensures.jobs ∙ sym (length-map c.args.jobs.now task) in
    let first = drawn_first (g.I.IdSource.ids c.args.ids.now) (tasks c.args.jobs.now) c.in_ok-runner.runner.players.items jobs c.in_ok-runner.ensures.first in
    wait_so (supplied (g.I.IdSource.ids c.args.ids.now) c.args.moment.millis) (g.I.IdSource.ids c.play.new.ids) (g.L.Link.awaited c.args.link.now) _ _ _ _ (tasks c.args.jobs.now) c.args.order.now c.play.new.runner.turns.items c.play.new.runner.players.items c.into_played.result c.into_played.ensures.turns
    (c.in_ok-play.ensures.drawn _ (tasks c.args.jobs.now) c.in_ok-runner.ensures.tasks first)
    (c.in_ok-play.ensures.told (supplied (g.I.IdSource.ids c.args.ids.now) c.args.moment.millis) (g.L.Link.log c.args.link.now) (tasks c.args.jobs.now) refl c.in_ok-runner.ensures.tasks c.in_ok-runner.ensures.at first (tell_first _ _ _ _ (tasks c.args.jobs.now) c.in_ok-runner.runner.players.items c.in_ok-runner.ensures.first))
    (c.in_ok-play.ensures.rows _ c.in_ok-runner.ensures.at)
    (c.play.ensures.none_lost (g.L.Link.awaited c.args.link.now) (λ ticket out. inr refl))

pub returns-clause-noted : goal.returns-clause-noted
returns-clause-noted g c = noted_so c.into_played.result c.play.new.runner.turns.items _ _ _ _ c.into_played.ensures.turns c.in_ok-play.ensures.noted

pub returns-clause-pended : goal.returns-clause-pended
returns-clause-pended g c = pended_so c.into_played.result _ _ _ _ (returns-clause-noted g c)

pub returns-clause-polled : goal.returns-clause-polled
returns-clause-polled g c =
    let jobs = c.in_ok-runner.ensures.jobs ∙ sym (length-map c.args.jobs.now task) in
    let first = drawn_first (g.I.IdSource.ids c.args.ids.now) (tasks c.args.jobs.now) c.in_ok-runner.runner.players.items jobs c.in_ok-runner.ensures.first in
    polls_so c.into_played.result _ c.args.order.now c.play.new.runner.turns.items _ _ c.into_played.ensures.turns
    (c.in_ok-play.ensures.polled (supplied (g.I.IdSource.ids c.args.ids.now) c.args.moment.millis) (g.L.Link.log c.args.link.now) (tasks c.args.jobs.now) refl c.in_ok-runner.ensures.tasks c.in_ok-runner.ensures.at first (tell_first _ _ _ _ (tasks c.args.jobs.now) c.in_ok-runner.runner.players.items c.in_ok-runner.ensures.first))

pub returns-clause-sends : goal.returns-clause-sends
returns-clause-sends g c =
    let jobs = c.in_ok-runner.ensures.jobs ∙ sym (length-map c.args.jobs.now task) in
    let first = drawn_first (g.I.IdSource.ids c.args.ids.now) (tasks c.args.jobs.now) c.in_ok-runner.runner.players.items jobs c.in_ok-runner.ensures.first in
    sends_so (supplied (g.I.IdSource.ids c.args.ids.now) c.args.moment.millis) (g.I.IdSource.ids c.play.new.ids) _ _ _ _ (tasks c.args.jobs.now) c.args.order.now c.play.new.runner.turns.items c.play.new.runner.players.items c.into_played.result c.into_played.ensures.turns
    (c.in_ok-play.ensures.drawn _ (tasks c.args.jobs.now) c.in_ok-runner.ensures.tasks first)
    (c.in_ok-play.ensures.told (supplied (g.I.IdSource.ids c.args.ids.now) c.args.moment.millis) (g.L.Link.log c.args.link.now) (tasks c.args.jobs.now) refl c.in_ok-runner.ensures.tasks c.in_ok-runner.ensures.at first (tell_first _ _ _ _ (tasks c.args.jobs.now) c.in_ok-runner.runner.players.items c.in_ok-runner.ensures.first))
    (c.play.ensures.tasks _ c.in_ok-runner.ensures.tasks)

pub returns-clause-names : goal.returns-clause-names
returns-clause-names g c =
    let jobs = c.in_ok-runner.ensures.jobs ∙ sym (length-map c.args.jobs.now task) in
    let first = drawn_first (g.I.IdSource.ids c.args.ids.now) (tasks c.args.jobs.now) c.in_ok-runner.runner.players.items jobs c.in_ok-runner.ensures.first in
    names_so (supplied (g.I.IdSource.ids c.args.ids.now) c.args.moment.millis) _ _ _ _ (tasks c.args.jobs.now) c.args.order.now c.play.new.runner.turns.items c.play.new.runner.players.items c.into_played.result c.into_played.ensures.turns
    (c.in_ok-play.ensures.told (supplied (g.I.IdSource.ids c.args.ids.now) c.args.moment.millis) (g.L.Link.log c.args.link.now) (tasks c.args.jobs.now) refl c.in_ok-runner.ensures.tasks c.in_ok-runner.ensures.at first (tell_first _ _ _ _ (tasks c.args.jobs.now) c.in_ok-runner.runner.players.items c.in_ok-runner.ensures.first))

pub returns-clause-behind : goal.returns-clause-behind
returns-clause-behind g c =
    behind_so (supplied (g.I.IdSource.ids c.args.ids.now) c.args.moment.millis) _ _ _ _ (tasks c.args.jobs.now) c.args.order.now c.into_played.result (length c.play.new.runner.players.items)
    (c.play.ensures.jobs ∙ c.in_ok-runner.ensures.jobs ∙ sym (length-map c.args.jobs.now task)) c.into_played.ensures.outcomes (returns-clause-caused g c) (returns-clause-filed g c) (returns-clause-sends g c)

pub returns-clause-complete : goal.returns-clause-complete
returns-clause-complete g c = λ prompt. well_so (supplied (g.I.IdSource.ids c.args.ids.now) c.args.moment.millis) _ _ _ _ (tasks c.args.jobs.now) c.args.order.now c.into_played.result (c.in_ok-play.ensures.lossless prompt) (returns-clause-caused g c) (returns-clause-rows g c) (returns-clause-filed g c) (returns-clause-sends g c)

pub returns-clause-grammar : goal.returns-clause-grammar
returns-clause-grammar g c =
    kept_so (supplied (g.I.IdSource.ids c.args.ids.now) c.args.moment.millis) _ _ _ _ (tasks c.args.jobs.now) c.args.order.now c.into_played.result (length c.play.new.runner.players.items)
    (c.play.ensures.jobs ∙ c.in_ok-runner.ensures.jobs ∙ sym (length-map c.args.jobs.now task)) c.into_played.ensures.outcomes (returns-clause-caused g c) (returns-clause-rows g c)

pub returns-clause-lost : goal.returns-clause-lost
returns-clause-lost g c =
    lost_so (g.L.Link.faults c.args.link.now) (g.L.Link.faults c.play.new.link) (g.L.Link.pends c.args.link.now) (g.L.Link.pends c.play.new.link) (tasks c.args.jobs.now) c.in_ok-runner.runner.players.items c.play.new.runner.players.items (c.in_ok-runner.ensures.jobs ∙ sym (length-map c.args.jobs.now task)) c.in_ok-runner.ensures.first c.in_ok-runner.ensures.at c.play.ensures.lost
    c.into_played.result c.into_played.ensures.outcomes c.into_played.ensures.each
