use Rattle.std.proofs.Common.{◌≡◌, ◌+◌, ℕ, ap, arith, subst, sym, ◌∙◌}
use Rattle.std.proofs.lemmas.Result.{err_from_is_err_and}
use Rattle.mg_ops.specs.Drawn.{AreLater}
use Rattle.mg_players.specs.Puts.{writes}
use Rattle.mg_players.proofs.PutReady.{chunks_are, chunks_none}
use Rattle.mg_players.proofs.put.begun.Goals as goal

-- ---- its bytes are not counted

pub returns-in_err-length-clause-drawn : goal.returns-in_err-length-clause-drawn
returns-in_err-length-clause-drawn g c =
    let t = writes c.args.what in
    subst (λ (n : ℕ). AreLater (g.I.IdSource.ids c.args.ids.now) n (g.I.IdSource.ids c.args.ids.now)) (sym (chunks_none t.chunk t.pieces c.in_err-length.ensures.err.0)) (λ k. let same : k ≡ 0 + k = omega arith in ap (g.I.IdSource.ids c.args.ids.now) same)

pub returns-in_err-length-clause-drew : goal.returns-in_err-length-clause-drew
returns-in_err-length-clause-drew g c =
    let p = err_from_is_err_and c.from_residual.result c.from_residual.ensures.1 in
    rw (p.1, p.2) c.in_err-length.ensures.err.1

-- ---- its ids are drawn

pub returns-in_err-drawn-clause-drawn : goal.returns-in_err-drawn-clause-drawn
returns-in_err-drawn-clause-drawn g c =
    let t = writes c.args.what in
    let counted = chunks_are t.chunk c.in_ok-length.length t.pieces c.in_ok-length.ensures.ok.0 c.in_ok-length.ensures.ok.1 in
    subst (λ (n : ℕ). AreLater (g.I.IdSource.ids c.args.ids.now) n (g.I.IdSource.ids c.draw.new.ids)) (c.chunks_of.ensures ∙ counted) c.draw.ensures.drawn

pub returns-clause-drawn : goal.returns-clause-drawn
returns-clause-drawn g c =
    let t = writes c.args.what in
    let counted = chunks_are t.chunk c.in_ok-length.length t.pieces c.in_ok-length.ensures.ok.0 c.in_ok-length.ensures.ok.1 in
    subst (λ (n : ℕ). AreLater (g.I.IdSource.ids c.args.ids.now) n (g.I.IdSource.ids c.draw.new.ids)) (c.chunks_of.ensures ∙ counted) c.draw.ensures.drawn

pub returns-clause-drew : goal.returns-clause-drew
returns-clause-drew g c =
    let t = writes c.args.what in
    let counted = chunks_are t.chunk c.in_ok-length.length t.pieces c.in_ok-length.ensures.ok.0 c.in_ok-length.ensures.ok.1 in
    (c.in_ok-length.ensures.ok.0, λ k within. c.in_ok-drawn.ensures.kept k (let same = c.chunks_of.ensures ∙ counted in omega (arith, within, same)))
