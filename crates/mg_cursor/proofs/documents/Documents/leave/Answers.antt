use Rattle.std.proofs.Common.{sym, ap}
use Rattle.mg_cursor.specs.Seeking.{kept_behind}
use Rattle.mg_cursor.specs.View.{document_cursor}
use Rattle.mg_cursor.specs.declared.polls.TryPoll.{TryPoll}
use Rattle.mg_cursor.proofs.documents.Documents.leave.Goals as goal

pub returns-in-Pending : goal.returns-in-Pending
returns-in-Pending c = sym (ap (λ (p : TryPoll). kept_behind p (document_cursor c.args.self.now)) c.in-Pending.is)

pub returns-in-Ready : goal.returns-in-Ready
returns-in-Ready c = sym (ap (λ (p : TryPoll). kept_behind p (document_cursor c.args.self.now)) c.in-Ready.is)

pub returns-in-Failed : goal.returns-in-Failed
returns-in-Failed c = sym (ap (λ (p : TryPoll). kept_behind p (document_cursor c.args.self.now)) c.in-Failed.is)
