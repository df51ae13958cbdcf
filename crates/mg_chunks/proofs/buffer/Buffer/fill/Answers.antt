use Rattle.std.proofs.Common.{◌≡◌, ◌++◌, ◌∷◌, ℕ, List, refl, ap, ◌∙◌, arith}
use Rattle.std.proofs.lemmas.Result.{err_from_is_err_and}
use Rattle.std.specs.Prelude.{Vec}
use Rattle.std.specs.declared.alloc.Global.{Global}
use Rattle.mg_chunks.specs.Buffers.{items_of}
use Rattle.mg_chunks.proofs.Buffering.{cut_as, cut_filled, held_as, held_filled}
use Rattle.mg_chunks.proofs.buffer.Buffer.fill.Goals as goal
use Rattle.mg_chunks.proofs.buffer.Buffer.fill.Goals.{After-add}

pub in_chunks-requires : goal.in_chunks-requires
in_chunks-requires c = c.requires.cut.sized

pub overflow_add-places : goal.overflow_add-places
overflow_add-places c = let small = c.in_ok-added.added.full.small in let held = c.len-held.ensures in omega (arith, small.0, small.1, held)

pub returns-in_err-reserve-clause-same : goal.returns-in_err-reserve-clause-same
returns-in_err-reserve-clause-same c = rw (err_from_is_err_and c.from_residual-in_err-reserve.result c.from_residual-in_err-reserve.ensures.1).1 (held_as c.args.self.now (record c.args.self.now { full = c.reserve.new.self }) c.in_err-reserve.ensures.items refl)

pub returns-in_err-reserve-clause-keeps : goal.returns-in_err-reserve-clause-keeps
returns-in_err-reserve-clause-keeps c = cut_as c.args.self.now (record c.args.self.now { full = c.reserve.new.self }) c.requires.cut refl c.in_err-reserve.ensures.items refl

pub returns-in_err-extend_from_slice-clause-same : goal.returns-in_err-extend_from_slice-clause-same
returns-in_err-extend_from_slice-clause-same c = rw (err_from_is_err_and c.from_residual-in_err-extend_from_slice.result c.from_residual-in_err-extend_from_slice.ensures.1).1 (held_as c.args.self.now (record c.args.self.now { full = c.reserve.new.self; rest = c.extend_from_slice.new.self }) c.in_ok-reserve.ensures.items c.in_err-extend_from_slice.ensures.items)

pub returns-in_err-extend_from_slice-clause-keeps : goal.returns-in_err-extend_from_slice-clause-keeps
returns-in_err-extend_from_slice-clause-keeps c = cut_as c.args.self.now (record c.args.self.now { full = c.reserve.new.self; rest = c.extend_from_slice.new.self }) c.requires.cut refl c.in_ok-reserve.ensures.items c.in_err-extend_from_slice.ensures.items

pub add-requires : goal.add-requires
add-requires c = let room = c.in_ok-reserve.ensures.ok in let held = c.len-held.ensures in omega (arith, room, held)

-- ---- all of it is taken

filled : (c : After-add) → items_of c.add.new.self.full.items ≡ items_of c.args.self.now.full.items ++ (c.args.self.now.rest.items ++ c.args.first.now) ∷ items_of c.in_ok-added.added.full.items
filled c =
    let gs = items_of c.in_ok-added.added.full.items in
    c.add.ensures.full
    ∙ ap (λ (fs : List (Vec ℕ Global)). items_of fs ++ c.extend_from_slice.new.self.items ∷ gs) c.in_ok-reserve.ensures.items
    ∙ ap (λ (r : List ℕ). items_of c.args.self.now.full.items ++ r ∷ gs) c.in_ok-extend_from_slice.ensures.items

pub returns-clause-ok : goal.returns-clause-ok
returns-clause-ok c =
    let a = c.in_ok-added.added in
    held_filled c.args.self.now c.add.new.self c.args.first.now c.args.behind.now a.full.items a.rest.items (filled (goal.at.returns-clause-ok c).After-add) c.add.ensures.rest c.in_ok-added.ensures.these

pub returns-clause-keeps : goal.returns-clause-keeps
returns-clause-keeps c =
    let a = c.in_ok-added.added in
    cut_filled c.args.self.now c.add.new.self c.args.first.now c.args.behind.now a.full.items a.rest.items (filled (goal.at.returns-clause-keeps c).After-add) c.add.ensures.rest c.in_ok-added.ensures.these c.requires.cut c.add.ensures.size c.requires.filled c.in_ok-added.ensures.full c.in_ok-added.ensures.short
