use Rattle.std.proofs.Common.{◌∷◌, ◌++◌, ℕ, List, ap, ◌∙◌, arith}
use Rattle.std.specs.Prelude.{Vec}
use Rattle.std.specs.declared.alloc.Global.{Global}
use Rattle.mg_chunks.specs.Buffers.{items_of}
use Rattle.mg_chunks.proofs.Buffering.{items_more}
use Rattle.mg_chunks.proofs.buffer.Buffer.add.Goals as goal

pub push_reserved-requires : goal.push_reserved-requires
push_reserved-requires c = let room = c.requires in omega (arith, room)

pub append_reserved-requires : goal.append_reserved-requires
append_reserved-requires c = let room = c.requires in let more = c.push_reserved.ensures.len in let same = c.push_reserved.ensures.capacity in omega (arith, room, more, same)

pub returns-clause-full : goal.returns-clause-full
returns-clause-full c =
    let fs = c.args.self.now.full.items in
    let gs = c.args.added.full.items in
    ap items_of c.append_reserved.ensures
    ∙ ap (λ (hs : List (Vec ℕ Global)). items_of (hs ++ gs)) c.push_reserved.ensures.items
    ∙ items_more fs gs c.replace-begun.result
    ∙ ap (λ (v : Vec ℕ Global). items_of fs ++ v.items ∷ items_of gs) c.replace-begun.ensures.value
