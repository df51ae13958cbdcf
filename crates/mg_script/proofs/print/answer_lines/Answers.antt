use Rattle.std.proofs.Common.{◌++◌, string_bytes, arith}
use Rattle.mg_script.specs.Text.{answers_text}
use Rattle.mg_script.proofs.Lines.{answers_more, answers_all}
use Rattle.mg_script.proofs.print.answer_lines.Goals as goal

pub loop-call-preserved : goal.loop-call-preserved
loop-call-preserved c =
    answers_more (string_bytes c.loop-call.out) (string_bytes c.answer_line.new.out) c.args.job c.loop-call.call c.index-answers-call.result c.args.answers.now (string_bytes c.args.out.now ++ answers_text c.args.job 0 c.args.answers.now) (omega arith) c.index-answers-call.is c.in_ok-answer_line.ensures c.loop-call.invariant

pub returns : goal.returns
returns c =
    answers_all (string_bytes c.loop-call.out) c.args.job c.loop-call.call c.args.answers.now _ (omega arith) c.loop-call.invariant
