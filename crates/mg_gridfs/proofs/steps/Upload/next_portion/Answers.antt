use Rattle.std.proofs.Common.{false, List, inl, inr, subst}
use Rattle.std.proofs.lemmas.Result.{err_from_is_err_and}
use Rattle.mg_bson.specs.Tree.{Fields}
use Rattle.mg_ops.specs.Failing.{FailsBy}
use Rattle.mg_gridfs.specs.Commands.{CannotStore, IsNewRequest, chunks_lines}
use Rattle.mg_gridfs.specs.Steps as steps
use Rattle.mg_gridfs.specs.Uploads as uploads
use Rattle.mg_gridfs.specs.UploadView.{worker_of}
use Rattle.mg_gridfs.proofs.steps.Upload.next_portion.Goals as goal

pub next_chunks-requires-clause-buffer : goal.next_chunks-requires-clause-buffer
next_chunks-requires-clause-buffer g c = c.requires.buffer

pub next_chunks-requires-clause-sound : goal.next_chunks-requires-clause-sound
next_chunks-requires-clause-sound g c = c.requires.sound

pub next_chunks-requires-clause-full : goal.next_chunks-requires-clause-full
next_chunks-requires-clause-full g c = c.requires.full

pub returns-clause-ok : goal.returns-clause-ok
returns-clause-ok g c =
    let t = c.in_ok-documents.ensures.ok in
    let request = subst (λ (a : uploads.Aim). IsNewRequest false (chunks_lines a.bucket c.in_ok-documents.field-0.documents.items) c.in_ok-exec.exec) c.next_chunks.ensures.same.0.aim c.in_ok-exec.ensures.ok in
    record {
      portion = t.portion;
      small = t.small;
      left = t.left;
      drawn = t.drawn;
      request = subst (λ (ds : List Fields). IsNewRequest false (chunks_lines (worker_of c.args.self.now).aim.bucket ds) c.in_ok-exec.exec) t.these request;
    }

pub returns-in_err-exec-clause-err : goal.returns-in_err-exec-clause-err
returns-in_err-exec-clause-err g c =
    let p = err_from_is_err_and c.from_residual-in_err-exec.result c.from_residual-in_err-exec.ensures.1 in
    let e = c.in_err-exec.field-0.0 in
    let t = c.in_ok-documents.ensures.ok in
    let fails = subst (λ (ds : List Fields). FailsBy (CannotStore (chunks_lines (worker_of c.args.self.now).aim.bucket ds) ds) e) t.these (subst (λ (a : uploads.Aim). FailsBy (CannotStore (chunks_lines a.bucket c.in_ok-documents.field-0.documents.items) c.in_ok-documents.field-0.documents.items) e) c.next_chunks.ensures.same.0.aim c.in_err-exec.ensures.err) in
    rw (p.1, p.2) (elim fails [ inl room ↦ inl room | inr cannot ↦ inr (steps.too_large c.in_ok-documents.field-0.count t.portion t.small cannot) ])

pub returns-in_err-documents-clause-same : goal.returns-in_err-documents-clause-same
returns-in_err-documents-clause-same g c = c.next_chunks.ensures.same

pub returns-in_err-exec-clause-same : goal.returns-in_err-exec-clause-same
returns-in_err-exec-clause-same g c = c.next_chunks.ensures.same

pub returns-in_err-exec-clause-drawn : goal.returns-in_err-exec-clause-drawn
returns-in_err-exec-clause-drawn g c =
    let p = err_from_is_err_and c.from_residual-in_err-exec.result c.from_residual-in_err-exec.ensures.1 in
    rw p.1 (c.in_ok-documents.field-0.count, c.in_ok-documents.ensures.ok.portion.within, c.in_ok-documents.ensures.ok.drawn)

pub returns-clause-same : goal.returns-clause-same
returns-clause-same g c = c.next_chunks.ensures.same
