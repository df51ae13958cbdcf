use Rattle.std.proofs.Common.{ap, subst, refl, length, ◌∙◌, ◌+◌, ℕ, List, Ok, ◌≡◌, Some, Err}
use Rattle.std.proofs.lemmas.Result.{IfErr-weaker, IfOk-weaker}
use Rattle.mg_bson.specs.Raw.{fields, items}
use Rattle.mg_link.specs.declared.error.Error.{Error}
use Rattle.mg_ops.specs.Cursors.{batch_at}
use Rattle.mg_records.specs.FileRecords.{file_record}
use Rattle.mg_cursor.specs.Batches.{batch_in}
use Rattle.mg_chunks.specs.Chunks.{all_judged}
use Rattle.mg_gridfs.specs.Downloads.{ClientDownload, sizes_of}
use Rattle.mg_gridfs.specs.DownloadView.{download_of}
use Rattle.mg_gridfs.specs.Fetching.{Differs, LooksAt, differs, no_batch}
use Rattle.mg_chunks.specs.Judging.{IsPlaceBehind}
use Rattle.mg_chunks.specs.declared.judging.ReadPlace.{ReadPlace}
use Rattle.mg_gridfs.proofs.Received.{batch_array}
use Rattle.mg_gridfs.proofs.download.GridFsDownloadStream.look.Goals as goal

looked_at : (d : ClientDownload) (start p : ReadPlace) (reply array : List ℕ) → start.taken ≡ d.taken → batch_at (fields reply) ≡ Ok (items array) → batch_in reply ≡ Some array → IsPlaceBehind (sizes_of d.file) start (items array) p → LooksAt d start.missing reply p
looked_at d start p reply array at values bytes h = record {
  array = array;
  is_array = batch_array reply array (items array) values bytes;
  bytes_are = bytes;
  values_are = values;
  chunks = h.chunks;
  in_order = subst (λ (n : ℕ). all_judged (sizes_of d.file) n (items array) ≡ Ok h.chunks) at h.in_order;
  taken = h.taken ∙ ap (λ (n : ℕ). n + length h.chunks) at;
  few = h.few;
  missing_is = h.missing;
}

pub judge_all-requires : goal.judge_all-requires
judge_all-requires c = c.requires

pub returns-in-Ok-clause-ok : goal.returns-in-Ok-clause-ok
returns-in-Ok-clause-ok c =
    let d = download_of c.args.self.now in
    let start : ReadPlace = record { taken = c.args.self.now.taken; missing = c.args.missing } in
    IfOk-weaker c.judge_all.result (IsPlaceBehind (sizes_of (file_record c.args.self.now.file)) start (items c.in-Ok.chunks)) (LooksAt d c.args.missing c.args.batch.now)
    (λ (p : ReadPlace). looked_at d start p c.args.batch.now c.in-Ok.chunks refl c.in-Ok.ensures.values c.in-Ok.ensures.bytes) c.judge_all.ensures.ok

pub returns-in-Ok-clause-err : goal.returns-in-Ok-clause-err
returns-in-Ok-clause-err c =
    let d = download_of c.args.self.now in
    IfErr-weaker c.judge_all.result (λ e. all_judged (sizes_of d.file) d.taken (items c.in-Ok.chunks) ≡ Err e) (Differs d c.args.batch.now) (λ (e : Error) bad. differs (items c.in-Ok.chunks) c.in-Ok.ensures.values bad) c.judge_all.ensures.err

pub returns-in-Err-clause-err : goal.returns-in-Err-clause-err
returns-in-Err-clause-err c = no_batch c.in-Err.ensures.values
