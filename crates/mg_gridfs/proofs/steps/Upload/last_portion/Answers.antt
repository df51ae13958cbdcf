use Rattle.std.proofs.Common.{◌≡◌, ◌<◌, ◌≤◌, ◌+◌, ◌^◌, ◌∷◌, [], ℕ, List, false, length, refl, inl, inr, sym, ap, ◌∙◌, subst, arith}
use Rattle.std.proofs.lemmas.Result.{IfErr-weaker, IfOk-weaker, err_from_is_err_and}
use Rattle.mg_bson.specs.Tree.{Fields}
use Rattle.mg_ops.specs.Drawn.{AreLater}
use Rattle.mg_ops.specs.Failing.{FailsBy}
use Rattle.mg_ops.proofs.Drawn.{later_same}
use Rattle.mg_link.specs.declared.error.Error.{Error}
use Rattle.mg_chunks.specs.Buffers.{held_of}
use Rattle.mg_gridfs.specs.Commands.{CannotStore, IsNewRequest, chunk_document, chunks_lines}
use Rattle.mg_gridfs.specs.Steps as steps
use Rattle.mg_gridfs.specs.Steps.{CannotEnd}
use Rattle.mg_gridfs.specs.Uploads.{ClientUpload}
use Rattle.mg_gridfs.specs.UploadView.{worker_of}
use Rattle.mg_chunks.proofs.Buffering.{no_full}
use Rattle.mg_gridfs.proofs.Filling.{but_none}
use Rattle.mg_gridfs.proofs.Stepping.{on_err}
use Rattle.mg_gridfs.proofs.steps.Upload.last_portion.Goals as goal

pub take_rest-bytes-requires-clause-cut : goal.take_rest-bytes-requires-clause-cut
take_rest-bytes-requires-clause-cut g c = c.requires.buffer.cut

pub take_rest-bytes-requires-clause-none : goal.take_rest-bytes-requires-clause-none
take_rest-bytes-requires-clause-none g c = no_full c.args.self.now.buffer c.requires.buffer.cut (subst (λ (n : ℕ). length (held_of c.args.self.now.buffer) < n) (sym c.requires.buffer.sized) c.requires.short)

pub chunk_document-requires : goal.chunk_document-requires
chunk_document-requires g c = let fits = c.in_ok-last_number.ensures.fits in omega (arith, fits)

pub returns-clause-ok : goal.returns-clause-ok
returns-clause-ok g c =
    let docs = c.in_ok-documents.ensures.ok ∙ ap (λ (d : Fields). d ∷ []) (c.in_ok-document.ensures.ok ∙ ap (λ (i : List ℕ). chunk_document i (worker_of c.args.self.now).aim.id (worker_of c.args.self.now).sent c.take_rest-bytes.result.items) c.drawn-id.ensures.id ∙ ap (λ (b : List ℕ). chunk_document ((g.I.IdSource.ids c.args.ids.now) 0) (worker_of c.args.self.now).aim.id (worker_of c.args.self.now).sent b) c.take_rest-bytes.ensures.taken) in
    IfOk-weaker c.insert_chunks.result _ _
    (λ s request. record {
      small = c.in_ok-last_number.ensures.fits;
      request = subst (λ (ds : List Fields). IsNewRequest false (chunks_lines (worker_of c.args.self.now).aim.bucket ds) s) docs request;
      left = ap (λ (b : List ℕ). record (worker_of c.args.self.now) { behind = b }) c.take_rest-bytes.ensures.left;
      drawn = c.drawn-id.ensures.later;
    }) c.insert_chunks.ensures.ok

-- it is not built
too_large : (u : ClientUpload) (ds ds0 : List Fields) (e : Error) → u.sent + 1 ≤ 2 ^ 31 → ds ≡ ds0 → FailsBy (CannotStore (chunks_lines u.aim.bucket ds) ds) e → FailsBy (CannotEnd u ds0) e
too_large u ds ds0 e small is (inl room) = inl room
too_large u ds ds0 e small is (inr cannot) = inr (steps.too_large small (subst (λ (l : List Fields). CannotStore (chunks_lines u.aim.bucket l) l e) is cannot))

pub returns-clause-err : goal.returns-clause-err
returns-clause-err g c =
    let docs = c.in_ok-documents.ensures.ok ∙ ap (λ (d : Fields). d ∷ []) (c.in_ok-document.ensures.ok ∙ ap (λ (i : List ℕ). chunk_document i (worker_of c.args.self.now).aim.id (worker_of c.args.self.now).sent c.take_rest-bytes.result.items) c.drawn-id.ensures.id ∙ ap (λ (b : List ℕ). chunk_document ((g.I.IdSource.ids c.args.ids.now) 0) (worker_of c.args.self.now).aim.id (worker_of c.args.self.now).sent b) c.take_rest-bytes.ensures.taken) in
    IfErr-weaker c.insert_chunks.result _ _ (λ e fails. too_large (worker_of c.args.self.now) c.in_ok-documents.documents.items ((chunk_document ((g.I.IdSource.ids c.args.ids.now) 0) (worker_of c.args.self.now).aim.id (worker_of c.args.self.now).sent (worker_of c.args.self.now).behind) ∷ []) e c.in_ok-last_number.ensures.fits docs fails) c.insert_chunks.ensures.err

pub returns-in_err-last_number-clause-err : goal.returns-in_err-last_number-clause-err
returns-in_err-last_number-clause-err g c =
    let p = err_from_is_err_and c.from_residual.result c.from_residual.ensures.1 in
    rw (p.1, p.2) (inr (steps.too_many c.in_err-last_number.ensures.passes c.in_err-last_number.ensures.err))

pub returns-in_err-last_number-clause-same : goal.returns-in_err-last_number-clause-same
returns-in_err-last_number-clause-same g c = (but_none (worker_of c.args.self.now), c.requires.buffer)

pub returns-in_err-last_number-clause-drawn : goal.returns-in_err-last_number-clause-drawn
returns-in_err-last_number-clause-drawn g c =
    let p = err_from_is_err_and c.from_residual.result c.from_residual.ensures.1 in
    rw p.1 (0, omega arith, later_same (g.I.IdSource.ids c.args.ids.now))

pub returns-in_err-document-clause-err : goal.returns-in_err-document-clause-err
returns-in_err-document-clause-err g c =
    let p = err_from_is_err_and c.from_residual-in_err-document.result c.from_residual-in_err-document.ensures.1 in
    rw (p.1, p.2) (inl c.in_err-document.ensures.err)

pub returns-in_err-document-clause-same : goal.returns-in_err-document-clause-same
returns-in_err-document-clause-same g c = (record { aim = refl; checked = refl; sent = refl; doing = refl }, record { cut = c.take_rest-bytes.ensures.keeps; sized = c.take_rest-bytes.ensures.size ∙ c.requires.buffer.sized })

pub returns-in_err-document-clause-drawn : goal.returns-in_err-document-clause-drawn
returns-in_err-document-clause-drawn g c =
    let p = err_from_is_err_and c.from_residual-in_err-document.result c.from_residual-in_err-document.ensures.1 in
    rw p.1 (1, omega arith, c.drawn-id.ensures.later)

pub returns-in_err-documents-clause-err : goal.returns-in_err-documents-clause-err
returns-in_err-documents-clause-err g c =
    let p = err_from_is_err_and c.from_residual-in_err-documents.result c.from_residual-in_err-documents.ensures.1 in
    rw (p.1, p.2) (inl c.in_err-documents.ensures.err)

pub returns-in_err-documents-clause-same : goal.returns-in_err-documents-clause-same
returns-in_err-documents-clause-same g c = (record { aim = refl; checked = refl; sent = refl; doing = refl }, record { cut = c.take_rest-bytes.ensures.keeps; sized = c.take_rest-bytes.ensures.size ∙ c.requires.buffer.sized })

pub returns-in_err-documents-clause-drawn : goal.returns-in_err-documents-clause-drawn
returns-in_err-documents-clause-drawn g c =
    let p = err_from_is_err_and c.from_residual-in_err-documents.result c.from_residual-in_err-documents.ensures.1 in
    rw p.1 (1, omega arith, c.drawn-id.ensures.later)

pub returns-clause-same : goal.returns-clause-same
returns-clause-same g c = (record { aim = refl; checked = refl; sent = refl; doing = refl }, record { cut = c.take_rest-bytes.ensures.keeps; sized = c.take_rest-bytes.ensures.size ∙ c.requires.buffer.sized })

pub returns-clause-drawn : goal.returns-clause-drawn
returns-clause-drawn g c = on_err ((n : ℕ) × (n ≤ 1) × AreLater (g.I.IdSource.ids c.args.ids.now) n (g.I.IdSource.ids c.drawn-id.new.ids)) c.insert_chunks.result (1, omega arith, c.drawn-id.ensures.later)
