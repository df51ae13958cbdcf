use Rattle.std.proofs.Common.{ap, ◌∙◌, arith}
use Rattle.std.proofs.lemmas.List.{map_push}
use Rattle.std.proofs.lemmas.Result.{err_from_is_err_and}
use Rattle.serde_json.specs.View.{items_view}
use Rattle.mg_script.specs.Plan.{piece, pieces}
use Rattle.mg_script.specs.Reads.{each}
use Rattle.mg_script.specs.Parts.{bytes_at}
use Rattle.mg_script.proofs.Steps.{list_go_on, list_stop, list_end}
use Rattle.mg_script.proofs.parse_job.pieces_of.Goals as goal

pub returns-in_err-piece : goal.returns-in_err-piece
returns-in_err-piece c =
    let p = err_from_is_err_and c.from_residual.result c.from_residual.ensures.1 in
    rw (p.1, p.2) (list_stop c.in_err-piece.field-0.0 (λ n. bytes_at c.args.place) (pieces c.loop-value.pieces.items) c.args.values.now c.loop-value.value-index c.value-item.result (each (λ n. bytes_at c.args.place) 0 (items_view c.args.values.now)) (omega arith) c.value-item.is c.in_err-piece.ensures c.loop-value.invariant)

pub loop-value-preserved : goal.loop-value-preserved
loop-value-preserved c =
    list_go_on (λ n. bytes_at c.args.place) (pieces c.loop-value.pieces.items) (pieces c.push.new.self.items) (piece c.in_ok-piece.piece) c.args.values.now c.loop-value.value-index c.value-item.result (each (λ n. bytes_at c.args.place) 0 (items_view c.args.values.now)) (omega arith) c.value-item.is c.in_ok-piece.ensures (ap pieces c.in_ok-push.ensures.items ∙ map_push piece c.loop-value.pieces.items c.in_ok-piece.piece) c.loop-value.invariant

pub returns : goal.returns
returns c =
    list_end (λ n. bytes_at c.args.place) (pieces c.loop-value.pieces.items) c.args.values.now c.loop-value.value-index (each (λ n. bytes_at c.args.place) 0 (items_view c.args.values.now)) (omega arith) c.loop-value.invariant
