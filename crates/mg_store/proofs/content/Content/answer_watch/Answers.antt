use Rattle.std.proofs.Common.{◌≡◌, ℤ, pos, suc, length, sym, ap, ap₂, ◌∙◌, arith, rules, to_z, of_z, w64}
use mir.Val.{SFits}
use Rattle.std.proofs.lemmas.Int.{ints, to_z-of_z}
use Rattle.mg_bson.specs.Tree.{timestamp}
use Rattle.mg_link.specs.Namespace.{space}
use Rattle.mg_server.specs.Rules.{id_unless, stamp_of, watch_space}
use Rattle.mg_query.specs.Wanted.{lent_start}
use Rattle.mg_store.specs.Contents.{opening_effect}
use Rattle.mg_store.specs.declared.cursor.Source.TheVariants as sources
use Rattle.mg_store.proofs.Holdings.{batch_is, changes-length, opened_with, watch_settles}
use Rattle.mg_store.proofs.content.Content.answer_watch.Goals as goal

pub returns : goal.returns
returns c s given w h watches =
    let len = changes-length c.args.self.now s given h in
    let at = c.in_ok-from.ensures s w h.changes_are watches in
    let got = batch_is c.args.self.now s given c.deref.result.now c.args.watch w c.in_ok-from.from c.size_of-size.result c.args.batch_size c.in_ok-batch.batch h c.deref.ensures.value c.size_of-size.ensures watches c.in_ok-batch.ensures in
    let fits : SFits w64 c.in-Some.id = search rules in
    let back : to_z w64 (of_z w64 c.in-Some.id) ≡ c.in-Some.id = to_z-of_z w64 c.in-Some.id fits in
    let id : c.in-Some.id ≡ pos (suc given) = omega (arith, ints, c.in-Some.ensures, h.given_are) in
    let fits' : SFits w64 c.id_unless-reply_id.result = search rules in
    let back' : to_z w64 (of_z w64 c.id_unless-reply_id.result) ≡ c.id_unless-reply_id.result = to_z-of_z w64 c.id_unless-reply_id.result fits' in
    let reply_id : c.id_unless-reply_id.result ≡ id_unless c.in_ok-batch.batch.ended (pos (suc given)) = c.id_unless-reply_id.ensures ∙ ap (id_unless c.in_ok-batch.batch.ended) (back ∙ id) in
    let time : timestamp c.time-now.result.time c.time-now.result.increment ≡ stamp_of (length s.changes) = c.time-now.ensures ∙ ap stamp_of (omega (arith, len, c.len.ensures, c.args.self.now.changes.ok.0)) in
    watch_settles s given w (lent_start c.args.start.now) c.args.resumes c.args.batch_size c.in_ok-from.from c.in_ok-batch.batch c.args.watch c.id_unless-reply_id.result (space c.in_ok-ns.ns) c.in_ok-document.document c.opening_effect-effect.result c.answered.result
    at watches got reply_id (c.in_ok-ns.ensures ∙ ap watch_space (sym watches.target_is))
    (c.opening_effect-effect.ensures ∙ ap (λ (x : ℤ). opening_effect c.in_ok-batch.batch.ended x (record { source = sources.Watch c.args.watch; place = c.in_ok-batch.batch.place })) (back ∙ id))
    (c.in_ok-document.ensures ∙ ap₂ (λ x t. opened_with x (space c.in_ok-ns.ns) c.in_ok-batch.batch.events c.in_ok-batch.batch.place t) back' time)
    c.answered.ensures
