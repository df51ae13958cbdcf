use mir.Val.{SFits}
use Rattle.std.proofs.Common.{None, refl, ◌∙◌, inl, rules, to_z, of_z, w64}
use Rattle.std.proofs.lemmas.Int.{to_z-of_z}
use Rattle.mg_link.specs.Moment.{finished, moment}
use Rattle.mg_link.proofs.Moments.{keeps_same}
use Rattle.mg_cursor.proofs.Hearing.{failing, no_room}
use Rattle.mg_cursor.specs.View.{client_of}
use Rattle.mg_change.specs.ClosingStreams.{not_built}
use Rattle.mg_change.proofs.Remaining.{ids_handed, some_handed}
use Rattle.mg_change.proofs.closing.kill_left.Goals as goal

-- these are the ids of the cursors that it has
pub kill_all-requires-clause-left : goal.kill_all-requires-clause-left
kill_all-requires-clause-left g c =
    let r = c.args.remains in
    let id_fits : SFits w64 c.id.result = search rules in
    let opened_fits : SFits w64 r.opened = search rules in
    ids_handed c.in-Ok.ids.items (client_of r.batches).id (to_z w64 (of_z w64 c.id.result)) r.opened (to_z w64 (of_z w64 r.opened)) (to_z-of_z w64 c.id.result id_fits ∙ c.id.ensures) (to_z-of_z w64 r.opened opened_fits) c.in-Ok.ensures.ok

pub returns-in-Err-clause-keeps : goal.returns-in-Err-clause-keeps
returns-in-Err-clause-keeps g c =
    failing _ _ None None c.in-Err.error (no_room c.in-Err.error c.in-Err.ensures.room)
    (keeps_same (moment (g.L.Link.awaited c.args.link.now) (g.L.Link.log c.args.link.now) (g.L.Link.faults c.args.link.now) (g.L.Link.pends c.args.link.now) (g.L.Link.wire c.args.link.now) (g.L.Link.prompt c.args.link.now)) None finished (λ n e. cc) refl tt tt)

pub returns-in-Err-clause-kills : goal.returns-in-Err-clause-kills
returns-in-Err-clause-kills g c =
    let r = c.args.remains in
    let id_fits : SFits w64 c.id.result = search rules in
    let opened_fits : SFits w64 r.opened = search rules in
    not_built (some_handed (client_of r.batches).id (to_z w64 (of_z w64 c.id.result)) r.opened (to_z w64 (of_z w64 r.opened)) (to_z-of_z w64 c.id.result id_fits ∙ c.id.ensures) (to_z-of_z w64 r.opened opened_fits) c.in-Err.ensures.some) c.in-Err.error (inl c.in-Err.ensures.room) (record { rest = λ n. refl; log_same = refl }) refl
