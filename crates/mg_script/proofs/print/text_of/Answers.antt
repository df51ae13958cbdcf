use Rattle.std.proofs.Common.{string_bytes, ap, ◌∙◌, arith}
use Rattle.mg_script.specs.Text.{outcomes_text, commands_of}
use Rattle.mg_script.proofs.Lines.{outcomes_more, outcomes_all, ends}
use Rattle.mg_script.proofs.print.text_of.Goals as goal

pub loop-job-preserved : goal.loop-job-preserved
loop-job-preserved c =
    outcomes_more (string_bytes c.loop-job.out) (string_bytes c.outcome_lines.new.out) c.loop-job.job c.outcome-item.result c.deref-outcome-items.result.now (outcomes_text 0 c.deref-outcome-items.result.now) (omega arith) c.outcome-item.is c.in_ok-outcome_lines.ensures c.loop-job.invariant

pub returns : goal.returns
returns c =
    let outcomes = outcomes_all (string_bytes c.loop-job.out) c.loop-job.job c.deref-outcome-items.result.now (outcomes_text 0 c.deref-outcome-items.result.now) (omega arith) c.loop-job.invariant ∙ ap (outcomes_text 0) c.deref-outcome-items.ensures.value in
    ends (string_bytes c.loop-job.out) (string_bytes c.open_line.new.out) (string_bytes c.writeln.new.self) (outcomes_text 0 c.args.run.now.outcomes.items) c.as_slice.result.now c.args.run.now.store.open_ids c.in_ok-commands.commands (commands_of c.args.run.now.logs.items) outcomes (c.as_slice.ensures.value ∙ c.in-Ok.ensures.ids) (c.in_ok-commands.ensures ∙ ap commands_of c.as_slice-2.ensures.value) c.in_ok-open_line.ensures c.in_ok-writeln.ensures.bytes
