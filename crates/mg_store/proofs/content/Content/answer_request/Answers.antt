use Rattle.std.proofs.Common.{◌≡◌, ℤ, map, Ok, sym, ap, ◌∙◌, subst, rules, to_z, of_z, w64}
use mir.Val.{SFits}
use Rattle.std.proofs.lemmas.Int.{to_z-of_z}
use Rattle.std.proofs.lemmas.Result.{err_from_is_err_and}
use Rattle.mg_bson.specs.Raw.{items}
use Rattle.mg_link.specs.Namespace.{space}
use Rattle.mg_query.specs.Asking.{held, ids_among, lent_space, lent_target}
use Rattle.mg_server.specs.Query.{of_database}
use Rattle.mg_server.specs.Rules.{more}
use Rattle.mg_query.specs.Wanted.{lent_request, lent_start}
use Rattle.mg_query.specs.Querying.{held_stage}
use Rattle.mg_store.specs.Contents.{Settles}
use Rattle.mg_store.proofs.Requesting.{kill_answers, more_answers, stops_answer, watch_answers, find_answers, list_answers, indexes_list_answers}
use Rattle.mg_store.proofs.content.Content.answer_request.Goals as goal

pub returns-in_err-space : goal.returns-in_err-space
returns-in_err-space c s given h order =
    let p = err_from_is_err_and c.from_residual.result c.from_residual.ensures.1 in
    rw (p.1, p.2) (stops_answer s given c.args.command.now _ c.in_err-space.ensures)

pub returns-in_ok-target-in-Watch : goal.returns-in_ok-target-in-Watch
returns-in_ok-target-in-Watch c s given h order =
    watch_answers s given c.args.command.now (lent_target c.in-Watch.aimed) (map held c.in-Watch.filter.items) (lent_start c.in-Watch.start) c.in-Watch.resumes c.in-Watch.batch_size c.answer_watch.result
    (c.in_ok-space.ensures ∙ ap (λ r. Ok (lent_request r)) c.in-Watch.is) (λ w at keys. c.answer_watch.ensures s given w h (record { target_is = at ∙ sym c.in_ok-target-in-Watch.ensures; filter_is = keys }))

pub returns-in_ok-namespace-in-GetMore : goal.returns-in_ok-namespace-in-GetMore
returns-in_ok-namespace-in-GetMore c s given h order =
    let fits : SFits w64 c.in-GetMore.id = search rules in
    let back : to_z w64 (of_z w64 c.in-GetMore.id) ≡ c.in-GetMore.id = to_z-of_z w64 c.in-GetMore.id fits in
    more_answers s given c.args.command.now c.in-GetMore.id (lent_space c.in-GetMore.space) (space c.in_ok-namespace-in-GetMore.field-0) c.in-GetMore.batch_size c.answer_get_more.result
    (c.in_ok-space.ensures ∙ ap (λ r. Ok (lent_request r)) c.in-GetMore.is) c.in_ok-namespace-in-GetMore.ensures (subst (λ (x : ℤ). Settles s given (more x (space c.in_ok-namespace-in-GetMore.field-0) c.in-GetMore.batch_size) c.answer_get_more.result) back (c.answer_get_more.ensures s given h))

pub returns-in-KillCursors : goal.returns-in-KillCursors
returns-in-KillCursors c s given h order =
    kill_answers s given c.args.command.now (ids_among (items c.in-KillCursors.ids)) c.answer_kill.result (c.in_ok-space.ensures ∙ ap (λ r. Ok (lent_request r)) c.in-KillCursors.is) (c.answer_kill.ensures s given h)

pub returns-in_ok-namespace-in-Find : goal.returns-in_ok-namespace-in-Find
returns-in_ok-namespace-in-Find c s given h order =
    find_answers s given c.args.command.now (lent_space c.in-Find.space) (space c.in_ok-namespace-in-Find.field-0) (map held_stage c.in-Find.plan.stages.items) c.in-Find.plan.single c.in-Find.plan.batch_size c.answer_find.result
    (c.in_ok-space.ensures ∙ ap (λ r. Ok (lent_request r)) c.in-Find.is) c.in_ok-namespace-in-Find.ensures (λ stages same. c.answer_find.ensures s given stages h same)

pub returns-in-ListCollections : goal.returns-in-ListCollections
returns-in-ListCollections c s given h order =
    list_answers s given c.args.command.now (of_database c.in-ListCollections.db.now) (map held_stage c.in-ListCollections.plan.stages.items) c.in-ListCollections.plan.single c.in-ListCollections.plan.batch_size c.answer_list_collections.result
    (c.in_ok-space.ensures ∙ ap (λ r. Ok (lent_request r)) c.in-ListCollections.is) (λ stages same. c.answer_list_collections.ensures s given stages h order same)

pub returns-in_ok-namespace-in-ListIndexes : goal.returns-in_ok-namespace-in-ListIndexes
returns-in_ok-namespace-in-ListIndexes c s given h order =
    indexes_list_answers s given c.args.command.now (lent_space c.in-ListIndexes.space) (space c.in_ok-namespace-in-ListIndexes.field-0) c.in-ListIndexes.batch_size c.answer_list_indexes.result
    (c.in_ok-space.ensures ∙ ap (λ r. Ok (lent_request r)) c.in-ListIndexes.is) c.in_ok-namespace-in-ListIndexes.ensures (c.answer_list_indexes.ensures s given h)

pub returns-in-Write : goal.returns-in-Write
returns-in-Write c s given h order = c.answer_write.ensures s given h c.args.command.now (c.in_ok-space.ensures ∙ ap (λ r. Ok (lent_request r)) c.in-Write.is)
