use Rattle.std.proofs.Common.{refl, subst, sym}
use Rattle.mg_server.proofs.Killing.{plain_ran}
use Rattle.mg_ops.specs.Inserts.{IsPlain}
use Rattle.mg_ops.proofs.InsertCauses.{failed_caused, inserted_caused, pending_caused, unread_caused}
use Rattle.mg_ops.proofs.InsertSends.{failed_once, inserted_once, pending_once, unread_once}
use Rattle.mg_ops.proofs.Plainly.{same_command}
use Rattle.mg_ops.proofs.Sendings.{done_sent, failed_sent, pending_sent, unread_sent}
use Rattle.mg_ops.proofs.inserting.Batches.hear.Goals as goal

pub returns-in-Pending-clause-plain : goal.returns-in-Pending-clause-plain
returns-in-Pending-clause-plain g c = λ plain. (
  plain_ran c.args.command.exec.command plain _ _ _ _ _ c.args.command.exec _ refl c.in-Pending.ensures.runs,
  subst IsPlain (sym (same_command _ _ _ _ _ c.args.command.exec c.in-Pending.exec c.in-Pending.ensures.runs)) plain,
)

pub returns-in-Failed-clause-plain : goal.returns-in-Failed-clause-plain
returns-in-Failed-clause-plain g c = λ plain. (plain_ran c.args.command.exec.command plain _ _ _ _ _ c.args.command.exec _ refl c.in-Failed.ensures.runs, tt)

pub returns-in-Ok-clause-plain : goal.returns-in-Ok-clause-plain
returns-in-Ok-clause-plain g c = λ plain. (plain_ran c.args.command.exec.command plain _ _ _ _ _ c.args.command.exec _ refl c.in-Done.ensures.runs, tt)

pub returns-clause-plain : goal.returns-clause-plain
returns-clause-plain g c = λ plain. (plain_ran c.args.command.exec.command plain _ _ _ _ _ c.args.command.exec _ refl c.in-Done.ensures.runs, tt)

pub returns-in-Pending-clause-sent : goal.returns-in-Pending-clause-sent
returns-in-Pending-clause-sent g c = pending_sent _ _ _ _ _ c.args.command (record { exec = c.in-Pending.exec; insert = c.args.command.insert }) c.in-Pending.ensures.runs

pub returns-in-Failed-clause-sent : goal.returns-in-Failed-clause-sent
returns-in-Failed-clause-sent g c = failed_sent _ _ _ _ _ c.args.command c.in-Failed.error c.in-Failed.error c.in-Failed.ensures.runs

pub returns-in-Ok-clause-sent : goal.returns-in-Ok-clause-sent
returns-in-Ok-clause-sent g c = done_sent _ _ _ _ _ c.args.command c.in-Done.reply _ c.in-Ok.field-0 c.in-Done.ensures.runs c.in-Ok.ensures.ok

pub returns-clause-sent : goal.returns-clause-sent
returns-clause-sent g c = unread_sent _ _ _ _ _ c.args.command c.in-Done.reply c.in-Err.error c.in-Done.ensures.runs

pub returns-in-Pending-clause-caused : goal.returns-in-Pending-clause-caused
returns-in-Pending-clause-caused g c = pending_caused _ _ _ _ _ c.args.command c.in-Pending.exec c.in-Pending.ensures.runs

pub returns-in-Failed-clause-caused : goal.returns-in-Failed-clause-caused
returns-in-Failed-clause-caused g c = failed_caused _ _ _ _ _ c.args.command c.in-Failed.error c.in-Failed.ensures.runs

pub returns-in-Ok-clause-caused : goal.returns-in-Ok-clause-caused
returns-in-Ok-clause-caused g c = inserted_caused _ _ _ _ _ c.args.command c.in-Done.reply c.in-Done.ensures.runs

pub returns-clause-caused : goal.returns-clause-caused
returns-clause-caused g c = unread_caused _ _ _ _ _ c.args.command c.in-Done.reply c.in-Err.error c.in-Done.ensures.runs c.in-Err.ensures.err

pub returns-in-Pending-clause-once : goal.returns-in-Pending-clause-once
returns-in-Pending-clause-once g c = pending_once _ _ _ _ _ c.args.command (record { exec = c.in-Pending.exec; insert = c.args.command.insert }) c.in-Pending.ensures.runs

pub returns-in-Failed-clause-once : goal.returns-in-Failed-clause-once
returns-in-Failed-clause-once g c = failed_once _ _ _ _ _ c.args.command c.in-Failed.error c.in-Failed.error c.in-Failed.ensures.runs

pub returns-in-Ok-clause-once : goal.returns-in-Ok-clause-once
returns-in-Ok-clause-once g c = inserted_once _ _ _ _ _ c.args.command c.in-Done.reply c.in-Done.ensures.runs

pub returns-clause-once : goal.returns-clause-once
returns-clause-once g c = unread_once _ _ _ _ _ c.args.command c.in-Done.reply c.in-Err.error c.in-Done.ensures.runs
