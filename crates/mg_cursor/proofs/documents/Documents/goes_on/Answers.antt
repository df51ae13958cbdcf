use Rattle.std.proofs.Common.{false, refl, sym, subst}
use Rattle.mg_cursor.specs.Seeking.{KeepsCount}
use Rattle.mg_cursor.specs.View.{document_cursor}
use Rattle.mg_cursor.specs.declared.polls.TryPoll.{TryPoll}
use Rattle.mg_cursor.proofs.documents.Documents.goes_on.Goals as goal

pub returns-in-Pending : goal.returns-in-Pending
returns-in-Pending c = subst (λ (p : TryPoll). KeepsCount p (document_cursor c.args.self.now) (document_cursor c.args.self.now) false) (sym c.in-Pending.is) (refl, refl)

pub returns-in-Ready : goal.returns-in-Ready
returns-in-Ready c = subst (λ (p : TryPoll). KeepsCount p (document_cursor c.args.self.now) (document_cursor c.goes_behind.new.self) c.goes_behind.result) (sym c.in-Ready.is) c.goes_behind.ensures

pub returns-in-Failed : goal.returns-in-Failed
returns-in-Failed c = subst (λ (p : TryPoll). KeepsCount p (document_cursor c.args.self.now) (document_cursor c.args.self.now) false) (sym c.in-Failed.is) (refl, refl)
