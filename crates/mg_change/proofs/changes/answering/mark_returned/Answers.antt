use Rattle.std.proofs.Common.{Option, true, option_map, sym, ap, ◌∙◌}
use Rattle.mg_ops.specs.declared.change_stream.ChangeStreamData.{ChangeStreamData}
use Rattle.mg_change.proofs.changes.answering.mark_returned.Goals as goal

pub returns-in-Some : goal.returns-in-Some
returns-in-Some c = ap (λ (o : Option ChangeStreamData). record c.args.aggregate.now { resume = option_map (λ (known : ChangeStreamData). record known { document_returned = true }) o }) (sym c.in-Some.is)

pub returns-in-None : goal.returns-in-None
returns-in-None c =
    ap (λ (o : Option ChangeStreamData). record c.args.aggregate.now { resume = o }) c.in-None.is
    ∙ ap (λ (o : Option ChangeStreamData). record c.args.aggregate.now { resume = option_map (λ (known : ChangeStreamData). record known { document_returned = true }) o }) (sym c.in-None.is)
