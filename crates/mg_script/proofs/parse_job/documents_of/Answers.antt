use Rattle.std.proofs.Common.{arith}
use Rattle.std.proofs.lemmas.Result.{err_from_is_err_and}
use Rattle.serde_json.specs.View.{items_view}
use Rattle.mg_script.specs.Reads.{each}
use Rattle.mg_script.specs.Values.{document_at}
use Rattle.mg_script.proofs.Steps.{list_go_on, list_stop, list_end}
use Rattle.mg_script.proofs.parse_job.documents_of.Goals as goal

pub returns-in_err-document : goal.returns-in_err-document
returns-in_err-document c =
    let p = err_from_is_err_and c.from_residual.result c.from_residual.ensures.1 in
    rw (p.1, p.2) (list_stop c.in_err-document.field-0.0 (λ n. document_at c.args.place) c.loop-value.documents.items c.args.values.now c.loop-value.value-index c.value-item.result (each (λ n. document_at c.args.place) 0 (items_view c.args.values.now)) (omega arith) c.value-item.is c.in_err-document.ensures c.loop-value.invariant)

pub loop-value-preserved : goal.loop-value-preserved
loop-value-preserved c =
    list_go_on (λ n. document_at c.args.place) c.loop-value.documents.items c.push.new.self.items c.in_ok-document.document c.args.values.now c.loop-value.value-index c.value-item.result (each (λ n. document_at c.args.place) 0 (items_view c.args.values.now)) (omega arith) c.value-item.is c.in_ok-document.ensures c.in_ok-push.ensures.items c.loop-value.invariant

pub returns : goal.returns
returns c =
    list_end (λ n. document_at c.args.place) c.loop-value.documents.items c.args.values.now c.loop-value.value-index (each (λ n. document_at c.args.place) 0 (items_view c.args.values.now)) (omega arith) c.loop-value.invariant
