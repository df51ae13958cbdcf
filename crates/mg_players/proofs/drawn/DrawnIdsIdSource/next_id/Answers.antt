use Rattle.std.proofs.Common.{◌≡◌, ◌<◌, ◌+◌, Some, length, refl, sym, ap, ◌∙◌, arith, rules}
use Rattle.std.proofs.lemmas.Option.{slice_get_read}
use Rattle.mg_bson.specs.declared.object_id.ObjectId.{ObjectId}
use Rattle.mg_players.proofs.KeptIds.{kept_past, kept_there}
use Rattle.mg_players.proofs.drawn.DrawnIdsIdSource.next_id.Goals as goal

pub returns-then-at-len-clause-id : goal.returns-then-at-len-clause-id
returns-then-at-len-clause-id c =
    let ids = c.args.self.now.ids.items in
    let at = c.args.self.now.next in
    let within : at < length ids = omega (arith, c.len.ensures, c.if-at-len.true) in
    let long : length c.copied.result.0 ≡ 12 = search rules in
    kept_there ids at c.copied.result (slice_get_read ids (length ids) at c.index.result.now refl within c.index.ensures ∙ ap (λ (id : ObjectId). Some id) (sym c.copied.ensures.same)) long

pub returns-clause-id : goal.returns-clause-id
returns-clause-id c = sym (kept_past c.args.self.now.ids.items (c.args.self.now.next + 0) (omega (arith, c.len.ensures, c.if-at-len.false)))

pub returns-clause-later : goal.returns-clause-later
returns-clause-later c = λ k.
    kept_past c.args.self.now.ids.items (c.args.self.now.next + k) (omega (arith, c.len.ensures, c.if-at-len.false))
    ∙ sym (kept_past c.args.self.now.ids.items (c.args.self.now.next + (k + 1)) (omega (arith, c.len.ensures, c.if-at-len.false)))
