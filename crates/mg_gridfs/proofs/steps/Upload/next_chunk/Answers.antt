use Rattle.std.proofs.Common.{◌≡◌, ◌+◌, ℕ, List, take, refl, sym, ◌∙◌, subst, arith}
use Rattle.std.specs.Prelude.{IfOk}
use Rattle.mg_bson.specs.View.{tree}
use Rattle.mg_chunks.specs.Buffers.{held_of}
use Rattle.mg_gridfs.specs.Commands.{chunk_document}
use Rattle.mg_gridfs.proofs.Filling.{front_dropped, front_taken}
use Rattle.mg_gridfs.proofs.steps.Upload.next_chunk.Goals as goal

pub pop-requires : goal.pop-requires
pop-requires g c = c.requires.buffer.cut

pub overflow_add-number : goal.overflow_add-number
overflow_add-number g c = let small = c.requires.small in omega (arith, small)

pub chunk_document-requires : goal.chunk_document-requires
chunk_document-requires g c = c.requires.small

pub unreachable-requires : goal.unreachable-requires
unreachable-requires g c =
    let short = c.in-None.ensures.none.1 in
    let full = c.requires.full in
    let sized = c.requires.buffer.sized in
    omega (arith, short, full, sized)

pub returns-clause-chunk : goal.returns-clause-chunk
returns-clause-chunk g c =
    let u = c.args.self.now in
    let these = front_taken u.aim.size (held_of u.buffer) c.in-Some.bytes.items (held_of c.pop.new.self) c.in-Some.ensures.some.0 (c.in-Some.ensures.some.1 ∙ c.requires.buffer.sized) in
    subst (λ (i : List ℕ). IfOk c.chunk_document.result (λ d. d ≡ chunk_document i (tree u.aim.id) (u.sent + c.args.place) (take u.aim.size (held_of u.buffer)))) c.drawn-id.ensures.id
    (subst (λ (b : List ℕ). IfOk c.chunk_document.result (λ d. d ≡ chunk_document c.drawn-id.result.0 (tree u.aim.id) (u.sent + c.args.place) b)) (sym these) c.chunk_document.ensures.ok)

pub returns-clause-left : goal.returns-clause-left
returns-clause-left g c = sym (front_dropped c.args.self.now.aim.size (held_of c.args.self.now.buffer) c.in-Some.bytes.items (held_of c.pop.new.self) c.in-Some.ensures.some.0 (c.in-Some.ensures.some.1 ∙ c.requires.buffer.sized))

pub returns-clause-same : goal.returns-clause-same
returns-clause-same g c = (record { aim = refl; checked = refl; sent = refl; doing = refl }, record { cut = c.pop.ensures.keeps; sized = c.pop.ensures.size ∙ c.requires.buffer.sized })

pub returns-clause-drawn : goal.returns-clause-drawn
returns-clause-drawn g c = c.drawn-id.ensures.later

pub returns-clause-twelve : goal.returns-clause-twelve
returns-clause-twelve g c = c.drawn-id.ensures.twelve
