use Rattle.std.proofs.Common.{sym, arith}
use Rattle.mg_script.proofs.Steps.{not_one}
use Rattle.mg_script.proofs.parts.only_member.Goals as goal

pub returns-then-len-ne1 : goal.returns-then-len-ne1
returns-then-len-ne1 c = sym (not_one c.args.members.now.entries (grind arith))
