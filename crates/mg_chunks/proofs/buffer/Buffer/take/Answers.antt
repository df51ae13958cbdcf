use Rattle.std.proofs.Common.{◌≡◌, ◌++◌, ℕ, List, refl, subst, sym, arith}
use Rattle.std.proofs.lemmas.Result.{err_from_is_err_and}
use Rattle.std.specs.Prelude.{OnOk}
use Rattle.mg_chunks.specs.Buffers.{held_of}
use Rattle.mg_chunks.proofs.Buffering.{cut_as, cut_held, held_as, held_more}
use Rattle.mg_chunks.proofs.buffer.Buffer.take.Goals as goal

pub overflow_sub-room : goal.overflow_sub-room
overflow_sub-room c = let short = c.requires.short in let begun = c.rest_len-begun.ensures in omega (arith, short, begun)

-- ---- it does not fill the chunk that was begun

pub returns-then-len-room-clause-ok : goal.returns-then-len-room-clause-ok
returns-then-len-room-clause-ok c = held_more c.args.self.now (record c.args.self.now { rest = c.extend_from_slice.new.self }) c.args.bytes.now refl c.in_ok-extend_from_slice.ensures.items

pub returns-then-len-room-clause-keeps : goal.returns-then-len-room-clause-keeps
returns-then-len-room-clause-keeps c =
    let few = c.if-len-room.true in
    let begun = c.rest_len-begun.ensures in
    cut_held c.args.self.now (record c.args.self.now { rest = c.extend_from_slice.new.self }) c.args.bytes.now c.requires refl refl c.in_ok-extend_from_slice.ensures.items (omega (arith, few, begun))

pub returns-in_err-extend_from_slice-clause-same : goal.returns-in_err-extend_from_slice-clause-same
returns-in_err-extend_from_slice-clause-same c = rw (err_from_is_err_and c.from_residual.result c.from_residual.ensures.1).1 (held_as c.args.self.now (record c.args.self.now { rest = c.extend_from_slice.new.self }) refl c.in_err-extend_from_slice.ensures.items)

pub returns-in_err-extend_from_slice-clause-keeps : goal.returns-in_err-extend_from_slice-clause-keeps
returns-in_err-extend_from_slice-clause-keeps c = cut_as c.args.self.now (record c.args.self.now { rest = c.extend_from_slice.new.self }) c.requires refl refl c.in_err-extend_from_slice.ensures.items

-- ---- it fills that chunk

pub fill-requires-clause-cut : goal.fill-requires-clause-cut
fill-requires-clause-cut c = c.requires

pub fill-requires-clause-filled : goal.fill-requires-clause-filled
fill-requires-clause-filled c =
    let short = c.requires.short in
    let begun = c.rest_len-begun.ensures in
    let front = c.split_at.ensures.front_len in
    omega (arith, short, begun, front)

pub returns-clause-ok : goal.returns-clause-ok
returns-clause-ok c = subst (λ (l : List ℕ). OnOk c.fill.result (held_of c.fill.new.self ≡ held_of c.args.self.now ++ l)) (sym c.split_at.ensures.by_index.0) c.fill.ensures.ok
