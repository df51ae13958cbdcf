use Rattle.std.proofs.Common.{ap, ◌∙◌, subst}
use Rattle.std.proofs.lemmas.Result.{err_from_is_err_and}
use Rattle.mg_bson.specs.Raw.{fields}
use Rattle.mg_link.specs.Exec.{Sending}
use Rattle.mg_link.specs.Namespace.{space}
use Rattle.mg_ops.specs.Bodies.{insert_command}
use Rattle.mg_ops.proofs.Asking.{asks_to_insert_plainly}
use Rattle.mg_ops.specs.Underway.{IsBatch}
use Rattle.mg_ops.proofs.InsertCauses.{next_piece, not_built}
use Rattle.mg_ops.proofs.Plainly.{insert_names_none}
use Rattle.mg_ops.proofs.inserting.Batches.next.Goals as goal

pub returns-clause-plain : goal.returns-clause-plain
returns-clause-plain c = insert_names_none c.start-exec.result.command _ _ (ap (λ (e : Sending). fields e.command) c.start-exec.ensures ∙ c.in_ok-command.ensures.read_back)

pub returns-clause-next : goal.returns-clause-next
returns-clause-next c =
    let piece = c.in_ok-batch.batch.documents.items in (
      piece,
      subst (λ d. IsBatch d c.args.self.now.documents.now c.args.self.now.upto piece c.in_ok-batch.batch.upto) c.as_slice.ensures.value c.in_ok-batch.ensures.these,
      λ named. asks_to_insert_plainly c.start-exec.result.command (space c.args.self.now.ns.now) piece named
          (ap (λ (e : Sending). fields e.command) c.start-exec.ensures ∙ c.in_ok-command.ensures.read_back ∙ ap (λ s. insert_command s piece) c.in_ok-clone.ensures.cases),
    )

pub returns-clause-built : goal.returns-clause-built
returns-clause-built c =
    let piece = c.in_ok-batch.batch.documents.items in
    record {
      part = next_piece c.args.self.now c.as_slice.result.now piece c.in_ok-batch.batch.upto c.as_slice.ensures.value c.in_ok-batch.ensures.these c.in_ok-batch.ensures.further c.in_ok-batch.ensures.few c.in_ok-batch.ensures.together;
      command_is = ap (λ (e : Sending). fields e.command) c.start-exec.ensures ∙ c.in_ok-command.ensures.read_back ∙ ap (λ s. insert_command s piece) c.in_ok-clone.ensures.cases;
      once = ap (λ (e : Sending). e.retries) c.start-exec.ensures;
      stage_is = ap (λ (e : Sending). e.stage) c.start-exec.ensures;
    }

pub returns-in_err-command-clause-fails : goal.returns-in_err-command-clause-fails
returns-in_err-command-clause-fails c =
    let p = err_from_is_err_and c.from_residual-in_err-command.result c.from_residual-in_err-command.ensures.1 in
    let piece = c.in_ok-batch.batch.documents.items in
    let part = next_piece c.args.self.now c.as_slice.result.now piece c.in_ok-batch.batch.upto c.as_slice.ensures.value c.in_ok-batch.ensures.these c.in_ok-batch.ensures.further c.in_ok-batch.ensures.few c.in_ok-batch.ensures.together in
    rw (p.1, p.2) (not_built c.args.self.now piece c.in_ok-batch.batch.upto (space c.in_ok-clone.field-0) c.in_err-command.field-0.0 part c.in_ok-clone.ensures.cases c.in_err-command.ensures.err)
