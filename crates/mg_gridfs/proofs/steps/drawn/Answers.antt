use Rattle.std.proofs.Common.{◌≡◌, ◌+◌, length, sym, ap, ◌∙◌, rules, arith}
use Rattle.mg_gridfs.proofs.steps.drawn.Goals as goal

pub returns-clause-twelve : goal.returns-clause-twelve
returns-clause-twelve g c = let long : length c.next_id.result.0 ≡ 12 = search rules in ap length (sym c.next_id.ensures.id) ∙ long

pub returns-clause-later : goal.returns-clause-later
returns-clause-later g c = λ k. let e : k + 1 ≡ 1 + k = omega arith in c.next_id.ensures.later k ∙ ap (g.I.IdSource.ids c.args.ids.now) e
