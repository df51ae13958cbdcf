use Rattle.std.proofs.Common.{◌≡◌, ◌≤◌, ◌+◌, List, [], ◌∷◌, ◌++◌, length, inl, inr, subst, sym, arith}
use Rattle.std.proofs.lemmas.Result.{err_from_is_err_and}
use Rattle.std.specs.Prelude.{◌⊎◌}
use Rattle.mg_bson.specs.Tree.{Fields}
use Rattle.mg_ops.specs.Underway.{IsBatch}
use Rattle.mg_ops.proofs.Appending.{at_of, batch_more}
use Rattle.mg_ops.proofs.InsertCauses.{LeavesRoom, batch_length, not_measured, room_more}
use Rattle.mg_ops.proofs.inserting.batch_from.Goals as goal
use Rattle.mg_ops.proofs.inserting.batch_from.Goals.{else-length-room-via-then-length-room+else-i-from, else-length-room-via-else-length-room}

pub loop-i-preserved : goal.loop-i-preserved
loop-i-preserved c = record {
  these = subst (λ items. IsBatch c.args.drawn.now c.args.documents.now c.args.from items (c.loop-i.i + 1)) (sym c.in_ok-push.ensures.items)
      (batch_more c.args.drawn.now c.args.documents.now c.args.from c.loop-i.batch.items c.loop-i.i c.index-documents-i.result c.in_ok-document.document c.id_at.result
      (at_of c.args.documents.now c.loop-i.i c.index-documents-i.result (omega arith) c.index-documents-i.is) c.id_at.ensures c.in_ok-document.ensures.ok c.loop-i.invariant.these);
  room =
      let batch : List Fields = c.loop-i.batch.items in
      let document : Fields = c.in_ok-document.document in
      let so_many = batch_length c.args.drawn.now c.args.documents.now c.args.from batch c.loop-i.i c.loop-i.invariant.these (omega arith) (omega arith) in
      let fits : (c.unwrap_or-length.result ≤ c.loop-i.room) ⊎ (length batch ≡ 0) = elim c.else-length-room.branch [
        | else-length-room-via-then-length-room+else-i-from w ↦ inr (omega arith)
        | else-length-room-via-else-length-room w ↦ inl (omega arith)
      ] in
      subst (λ items. LeavesRoom items c.saturating_sub-room.result) (sym c.in_ok-push.ensures.items)
      (subst (LeavesRoom (batch ++ document ∷ [])) (sym c.saturating_sub-room.ensures)
      (room_more batch document c.loop-i.room c.in_ok-length_of.field-0 18446744073709551615 c.unwrap_or-length.result (omega arith) c.in_ok-length_of.ensures.ok c.unwrap_or-length.ensures fits c.loop-i.invariant.room));
  few = let few = c.loop-i.invariant.few in let test = c.if-i-from-eq-MAX_DOCUMENTS.false in omega arith;
}

pub returns-in_err-length_of-clause-fails : goal.returns-in_err-length_of-clause-fails
returns-in_err-length_of-clause-fails c =
    let p = err_from_is_err_and c.from_residual-in_err-length_of.result c.from_residual-in_err-length_of.ensures.1 in
    rw (p.1, p.2) (not_measured c.args.drawn.now c.args.documents.now c.loop-i.i c.index-documents-i.result c.in_ok-document.document c.id_at.result c.in_err-length_of.field-0.0
    (at_of c.args.documents.now c.loop-i.i c.index-documents-i.result (omega arith) c.index-documents-i.is) c.id_at.ensures c.in_ok-document.ensures.ok c.in_err-length_of.ensures.fails)
