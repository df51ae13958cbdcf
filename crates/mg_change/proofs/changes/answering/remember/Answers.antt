use Rattle.std.proofs.Common.{Option, Some, option_map, sym, ap, ◌∙◌}
use Rattle.mg_bson.specs.Tree.{Tree}
use Rattle.mg_ops.specs.declared.change_stream.ChangeStreamData.{ChangeStreamData}
use Rattle.mg_change.proofs.changes.answering.remember.Goals as goal

pub returns-in-Some : goal.returns-in-Some
returns-in-Some c =
    ap (λ (t : Option Tree). record c.args.aggregate.now { resume = Some (record c.in-Some.known { resume_token = t }) }) c.replace.ensures.after
    ∙ ap (λ (o : Option ChangeStreamData). record c.args.aggregate.now { resume = option_map (λ (known : ChangeStreamData). record known { resume_token = c.args.token }) o }) (sym c.in-Some.is)

pub returns-in-None : goal.returns-in-None
returns-in-None c =
    ap (λ (o : Option ChangeStreamData). record c.args.aggregate.now { resume = o }) c.in-None.is
    ∙ ap (λ (o : Option ChangeStreamData). record c.args.aggregate.now { resume = option_map (λ (known : ChangeStreamData). record known { resume_token = c.args.token }) o }) (sym c.in-None.is)
