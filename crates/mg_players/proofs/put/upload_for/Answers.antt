use Rattle.std.proofs.Common.{Some, ap, inl, ◌∙◌, subst}
use Rattle.std.proofs.lemmas.Result.{IfErr-weaker, IfOk-weaker, err_from_is_err_and}
use Rattle.mg_bson.specs.Tree.{Tree}
use Rattle.mg_gridfs.specs.Buckets.{ClientOpening, IsNewOpening, bucket_of, opening_of}
use Rattle.mg_players.specs.Puts.{writes}
use Rattle.mg_players.proofs.Naming.{chunks_named, files_named}
use Rattle.mg_players.proofs.PutBuckets.{none_by_id, open_fails, opened_fresh}
use Rattle.mg_players.proofs.put.upload_for.Goals as goal

pub returns-clause-ok : goal.returns-clause-ok
returns-clause-ok c =
    let t = writes c.args.what in
    let p = opening_of c.open_upload_stream.result in
    let is =
    c.chunk_size_bytes.ensures
    ∙ ap (λ (o : ClientOpening). record o { size = Some c.args.what.chunk }) c.id.ensures
    ∙ ap (λ (x : Tree). record p { id = Some x; size = Some c.args.what.chunk }) c.in_ok-id.ensures.cases in
    IfOk-weaker c.open.result _ _ (λ s. opened_fresh t (bucket_of c.in_ok-bucket.bucket) p (opening_of c.chunk_size_bytes.result) _ _ c.in_ok-bucket.ensures.ok (subst (λ n. IsNewOpening (bucket_of c.in_ok-bucket.bucket) n p) c.as_str.ensures.value c.open_upload_stream.ensures) is) c.open.ensures.ok

pub returns-clause-named : goal.returns-clause-named
returns-clause-named c =
    let t = writes c.args.what in
    IfOk-weaker c.open.result _ _ (λ s opened. (files_named t.at c.in_ok-bucket.ensures.named, chunks_named t.at c.in_ok-bucket.ensures.named)) c.open.ensures.ok

pub returns-clause-err : goal.returns-clause-err
returns-clause-err c =
    let t = writes c.args.what in
    let p = opening_of c.open_upload_stream.result in
    let is =
    c.chunk_size_bytes.ensures
    ∙ ap (λ (o : ClientOpening). record o { size = Some c.args.what.chunk }) c.id.ensures
    ∙ ap (λ (x : Tree). record p { id = Some x; size = Some c.args.what.chunk }) c.in_ok-id.ensures.cases in
    IfErr-weaker c.open.result _ _ (λ e. open_fails t p (opening_of c.chunk_size_bytes.result) e is) c.open.ensures.err

pub returns-in_err-bucket-clause-err : goal.returns-in_err-bucket-clause-err
returns-in_err-bucket-clause-err c =
    let p = err_from_is_err_and c.from_residual.result c.from_residual.ensures.1 in
    rw (p.1, p.2) (inl c.in_err-bucket.ensures.err)

pub returns-clause-undrawn : goal.returns-clause-undrawn
returns-clause-undrawn c =
    let p = opening_of c.open_upload_stream.result in
    let is =
    c.chunk_size_bytes.ensures
    ∙ ap (λ (o : ClientOpening). record o { size = Some c.args.what.chunk }) c.id.ensures
    ∙ ap (λ (x : Tree). record p { id = Some x; size = Some c.args.what.chunk }) c.in_ok-id.ensures.cases in
    none_by_id c.open.result (opening_of c.chunk_size_bytes.result) _ _ _ (ap (λ (o : ClientOpening). o.id) is) c.open.ensures.drawn
