use Rattle.std.proofs.Common.{sym}
use Rattle.mg_change.proofs.opening.opening_step.Goals as goal

pub returns-in-Pending : goal.returns-in-Pending
returns-in-Pending g c = sym c.in-Pending.is

pub returns-in-Done : goal.returns-in-Done
returns-in-Done g c = sym c.in-Done.is

pub returns-in-Failed : goal.returns-in-Failed
returns-in-Failed g c = sym c.in-Failed.is
