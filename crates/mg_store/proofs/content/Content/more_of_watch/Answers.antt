use Rattle.std.proofs.Common.{◌≡◌, ℤ, sym, ap, ◌∙◌, rules, to_z, of_z, w64}
use mir.Val.{SFits}
use Rattle.std.proofs.lemmas.Int.{to_z-of_z}
use Rattle.mg_link.specs.Namespace.{space}
use Rattle.mg_server.specs.Rules.{id_unless}
use Rattle.mg_store.specs.Contents.{moving}
use Rattle.mg_store.proofs.Holdings.{batch_is, more_settles, next_with}
use Rattle.mg_store.proofs.content.Content.more_of_watch.Goals as goal

pub returns : goal.returns
returns c s given w h watches stood =
    let back : to_z w64 (of_z w64 c.args.id) ≡ c.args.id = to_z-of_z w64 c.args.id c.ranges.id in
    let got = batch_is c.args.self.now s given c.deref.result.now c.args.watch.now w c.args.from c.size_of-size.result c.args.batch_size c.in_ok-batch.batch h c.deref.ensures.value c.size_of-size.ensures watches c.in_ok-batch.ensures in
    let fits : SFits w64 c.id_unless-left.result = search rules in
    let back' : to_z w64 (of_z w64 c.id_unless-left.result) ≡ c.id_unless-left.result = to_z-of_z w64 c.id_unless-left.result fits in
    let left : c.id_unless-left.result ≡ id_unless c.in_ok-batch.batch.ended c.args.id = c.id_unless-left.ensures ∙ ap (id_unless c.in_ok-batch.batch.ended) back in
    more_settles s given c.args.id (space c.args.ns.now) (space c.in_ok-watch_namespace.field-0) c.args.batch_size c.args.watch.now w c.args.from c.in_ok-batch.batch c.id_unless-left.result c.in_ok-document.document c.moving.result c.answered.result watches stood
    (sym c.is_same_space.ensures ∙ c.if-not-is_same_space.false) c.in_ok-watch_namespace.ensures got left (c.moving.ensures ∙ ap (λ (x : ℤ). moving c.in_ok-batch.batch.ended x c.in_ok-batch.batch.place) back)
    (c.in_ok-document.ensures ∙ ap (λ (x : ℤ). next_with x (space c.args.ns.now) c.in_ok-batch.batch.events c.in_ok-batch.batch.place) back') c.answered.ensures
