use Rattle.std.proofs.Common.{◌≡◌, ◌<◌, ◌≤◌, ◌+◌, ◌*◌, ◌^◌, ℕ, zero, suc, List, ◌∷◌, [], length, take, inl, inr, sym, ap, ◌∙◌, subst, arith}
use Rattle.std.proofs.lemmas.Nat.{mul-le}
use Rattle.std.proofs.lemmas.Result.{err_from_is_err_and}
use Rattle.std.specs.Prelude.{◌⊎◌}
use Rattle.mg_bson.specs.Tree.{Fields}
use Rattle.mg_ops.specs.InsertCauses.{max_piece}
use Rattle.mg_ops.specs.Limits.{max_documents}
use Rattle.mg_ops.proofs.Drawn.{later_same}
use Rattle.mg_chunks.specs.Buffers.{full_of, held_of, rest_of, size_of}
use Rattle.mg_gridfs.specs.Commands.{chunk_document}
use Rattle.mg_gridfs.specs.Steps as steps
use Rattle.mg_gridfs.specs.Steps.{not_encoded}
use Rattle.mg_gridfs.specs.Uploads.{ClientUpload}
use Rattle.mg_gridfs.specs.UploadView.{worker_of}
use Rattle.mg_chunks.proofs.Buffering.{held_bytes}
use Rattle.mg_gridfs.proofs.Filling.{but_none, first_one, portion}
use Rattle.mg_gridfs.proofs.steps.Upload.begin_chunks.Goals as goal

-- one is full
some_full : (many size rest long : ℕ) → long ≡ many * size + rest → rest < size → size ≤ long → (held : ℕ) → held ≡ many → 1 ≤ held
some_full zero size rest long all short full held is = absurd (omega (arith, all, short, full))
some_full (suc n) size rest long all short full held is = omega (arith, is)

-- the first chunk has the first of their numbers
first_is : (id : List ℕ) (u : ClientUpload) (first : Fields) → first ≡ chunk_document id u.aim.id (u.sent + 0) (take u.aim.size u.behind) → first ≡ chunk_document id u.aim.id u.sent (take u.aim.size u.behind)
first_is id u first is = let e : u.sent + 0 ≡ u.sent = omega arith in is ∙ ap (λ (n : ℕ). chunk_document id u.aim.id n (take u.aim.size u.behind)) e

pub next_chunk-requires-clause-buffer : goal.next_chunk-requires-clause-buffer
next_chunk-requires-clause-buffer g c = c.requires.buffer

pub next_chunk-requires-clause-full : goal.next_chunk-requires-clause-full
next_chunk-requires-clause-full g c = c.requires.full

pub next_chunk-requires-clause-small : goal.next_chunk-requires-clause-small
next_chunk-requires-clause-small g c = let fits = c.in_ok-last_number.ensures.fits in omega (arith, fits)

pub as_many-count-requires-clause-there : goal.as_many-count-requires-clause-there
as_many-count-requires-clause-there g c =
    let u = c.args.self.now in
    let held = c.full_chunks-held.ensures in
    let all = held_bytes u.buffer c.requires.buffer.cut in
    let full = c.requires.full in
    let sized = c.requires.buffer.sized in
    let short = c.requires.buffer.cut.short in
    some_full (length (full_of u.buffer)) (size_of u.buffer) (length (rest_of u.buffer)) (length (held_of u.buffer)) all short (omega (arith, full, sized)) c.full_chunks-held.result held

-- ---- it failed

pub returns-in_err-last_number-clause-err : goal.returns-in_err-last_number-clause-err
returns-in_err-last_number-clause-err g c =
    let p = err_from_is_err_and c.from_residual.result c.from_residual.ensures.1 in
    rw (p.1, p.2) (inr (steps.too_many 1 (omega arith) (omega arith) (let full = c.requires.full in omega (arith, full)) c.in_err-last_number.ensures.passes (steps.of_first c.in_err-last_number.ensures.passes) c.in_err-last_number.ensures.err))

pub returns-in_err-last_number-clause-same : goal.returns-in_err-last_number-clause-same
returns-in_err-last_number-clause-same g c = (but_none (worker_of c.args.self.now), c.requires.buffer)

pub returns-in_err-last_number-clause-drawn : goal.returns-in_err-last_number-clause-drawn
returns-in_err-last_number-clause-drawn g c =
    let p = err_from_is_err_and c.from_residual.result c.from_residual.ensures.1 in
    rw p.1 (0, omega arith, later_same (g.I.IdSource.ids c.args.ids.now))

pub returns-in_err-first-clause-err : goal.returns-in_err-first-clause-err
returns-in_err-first-clause-err g c =
    let p = err_from_is_err_and c.from_residual-in_err-first.result c.from_residual-in_err-first.ensures.1 in
    rw (p.1, p.2) (inl c.in_err-first.ensures.err)

pub returns-in_err-first-clause-same : goal.returns-in_err-first-clause-same
returns-in_err-first-clause-same g c = c.next_chunk.ensures.same

pub returns-in_err-first-clause-drawn : goal.returns-in_err-first-clause-drawn
returns-in_err-first-clause-drawn g c =
    let p = err_from_is_err_and c.from_residual-in_err-first.result c.from_residual-in_err-first.ensures.1 in
    let full = c.requires.full in
    rw p.1 (1, omega (arith, full), c.next_chunk.ensures.drawn)

pub returns-in_err-length-clause-err : goal.returns-in_err-length-clause-err
returns-in_err-length-clause-err g c =
    let p = err_from_is_err_and c.from_residual-in_err-length.result c.from_residual-in_err-length.ensures.1 in
    rw (p.1, p.2) (elim c.in_err-length.ensures.err [
      | inl room ↦ inl room
      | inr limit ↦ inr (not_encoded c.in_ok-first.first (first_one (worker_of c.args.self.now) (g.I.IdSource.ids c.args.ids.now) c.requires.sound.size.some c.requires.full ∙ ap (λ (d : Fields). d ∷ []) (sym (first_is (g.I.IdSource.ids c.args.ids.now 0) (worker_of c.args.self.now) c.in_ok-first.first c.in_ok-first.ensures.chunk))) limit)
    ])

pub returns-in_err-length-clause-same : goal.returns-in_err-length-clause-same
returns-in_err-length-clause-same g c = c.next_chunk.ensures.same

pub returns-in_err-length-clause-drawn : goal.returns-in_err-length-clause-drawn
returns-in_err-length-clause-drawn g c =
    let p = err_from_is_err_and c.from_residual-in_err-length.result c.from_residual-in_err-length.ensures.1 in
    let full = c.requires.full in
    rw p.1 (1, omega (arith, full), c.next_chunk.ensures.drawn)

pub returns-in_err-_last-clause-same : goal.returns-in_err-_last-clause-same
returns-in_err-_last-clause-same g c = c.next_chunk.ensures.same

pub returns-in_err-_last-clause-drawn : goal.returns-in_err-_last-clause-drawn
returns-in_err-_last-clause-drawn g c =
    let p = err_from_is_err_and c.from_residual-in_err-_last.result c.from_residual-in_err-_last.ensures.1 in
    let full = c.requires.full in
    rw p.1 (1, omega (arith, full), c.next_chunk.ensures.drawn)

-- ---- the count is known

pub returns-in_err-_last-clause-err : goal.returns-in_err-_last-clause-err
returns-in_err-_last-clause-err g c =
    let u = worker_of c.args.self.now in
    let b = c.args.self.now.buffer in
    let held = c.full_chunks-held.ensures in
    let sized : size_of b ≡ u.aim.size = c.requires.buffer.sized in
    let all : length u.behind ≡ length (full_of b) * u.aim.size + length (rest_of b) = held_bytes b c.requires.buffer.cut ∙ ap (λ (n : ℕ). length (full_of b) * n + length (rest_of b)) sized in
    let short : length (rest_of b) < u.aim.size = subst (λ (n : ℕ). length (rest_of b) < n) sized c.requires.buffer.cut.short in
    let most : c.full_chunks-held.result * u.aim.size ≤ length u.behind = subst (λ (n : ℕ). n * u.aim.size ≤ length u.behind) (sym held) (omega (arith, all)) in
    let more : (length (full_of b) + 1) * u.aim.size ≡ length (full_of b) * u.aim.size + u.aim.size = omega arith in
    let below : length u.behind < (c.full_chunks-held.result + 1) * u.aim.size = subst (λ (n : ℕ). length u.behind < (n + 1) * u.aim.size) (sym held) (omega (arith, all, short, more)) in
    let count = c.as_many-count.ensures in
    let le = mul-le c.as_many-count.result u.aim.size c.full_chunks-held.result u.aim.size count.held (omega arith) in
    let within : c.as_many-count.result * u.aim.size ≤ length u.behind = omega (arith, le, most) in
    let p = err_from_is_err_and c.from_residual-in_err-_last.result c.from_residual-in_err-_last.ensures.1 in
    let sent = c.next_chunk.ensures.same.0.sent in
    let passes : 2 ^ 31 < u.sent + c.as_many-count.result = subst (λ (n : ℕ). 2 ^ 31 < n + c.as_many-count.result) sent c.in_err-_last.ensures.passes in
    let first = c.in_ok-first.first in
    let is = first_is (g.I.IdSource.ids c.args.ids.now 0) u first c.in_ok-first.ensures.chunk in
    let long = c.in_ok-length.ensures.ok in
    let fitting = c.documents_together.result in
    let together = c.documents_together.ensures in
    let few : c.as_many-count.result ≤ max_documents = let fits = count.fits in let most_fitting = together.few in omega (arith, fits, most_fitting) in
    rw (p.1, p.2) (inr (steps.too_many c.as_many-count.result count.some few within passes
    (steps.of_last c.as_many-count.result passes (λ twelve. portion u (g.I.IdSource.ids c.args.ids.now) c.requires.sound.size.some c.as_many-count.result fitting c.full_chunks-held.result count.some first is count.fits count.held count.most together.few
    (subst (λ (n : ℕ). (fitting * n ≤ max_piece) ⊎ (fitting ≡ 1)) long together.together) (subst (λ (n : ℕ). (max_piece < (fitting + 1) * n) ⊎ (fitting ≡ max_documents)) long together.most) most below twelve))
    c.in_err-_last.ensures.err))

pub returns-clause-ok : goal.returns-clause-ok
returns-clause-ok g c =
    let u = worker_of c.args.self.now in
    let b = c.args.self.now.buffer in
    let held = c.full_chunks-held.ensures in
    let sized : size_of b ≡ u.aim.size = c.requires.buffer.sized in
    let all : length u.behind ≡ length (full_of b) * u.aim.size + length (rest_of b) = held_bytes b c.requires.buffer.cut ∙ ap (λ (n : ℕ). length (full_of b) * n + length (rest_of b)) sized in
    let short : length (rest_of b) < u.aim.size = subst (λ (n : ℕ). length (rest_of b) < n) sized c.requires.buffer.cut.short in
    let most : c.full_chunks-held.result * u.aim.size ≤ length u.behind = subst (λ (n : ℕ). n * u.aim.size ≤ length u.behind) (sym held) (omega (arith, all)) in
    let more : (length (full_of b) + 1) * u.aim.size ≡ length (full_of b) * u.aim.size + u.aim.size = omega arith in
    let below : length u.behind < (c.full_chunks-held.result + 1) * u.aim.size = subst (λ (n : ℕ). length u.behind < (n + 1) * u.aim.size) (sym held) (omega (arith, all, short, more)) in
    let count = c.as_many-count.ensures in
    let le = mul-le c.as_many-count.result u.aim.size c.full_chunks-held.result u.aim.size count.held (omega arith) in
    let within : c.as_many-count.result * u.aim.size ≤ length u.behind = omega (arith, le, most) in
    let first = c.in_ok-first.first in
    let is = first_is (g.I.IdSource.ids c.args.ids.now 0) u first c.in_ok-first.ensures.chunk in
    let long = c.in_ok-length.ensures.ok in
    let fitting = c.documents_together.result in
    let together = c.documents_together.ensures in
    record {
      first_is = is;
      twelve = c.next_chunk.ensures.twelve;
      some = count.some;
      within = within;
      small = subst (λ (n : ℕ). n + c.as_many-count.result ≤ 2 ^ 31) c.next_chunk.ensures.same.0.sent c.in_ok-_last.ensures.fits;
      portion = λ twelve. portion u (g.I.IdSource.ids c.args.ids.now) c.requires.sound.size.some c.as_many-count.result fitting c.full_chunks-held.result count.some first is count.fits count.held count.most together.few
          (subst (λ (n : ℕ). (fitting * n ≤ max_piece) ⊎ (fitting ≡ 1)) long together.together) (subst (λ (n : ℕ). (max_piece < (fitting + 1) * n) ⊎ (fitting ≡ max_documents)) long together.most) most below twelve;
      left = c.next_chunk.ensures.left;
      drawn = c.next_chunk.ensures.drawn;
    }
