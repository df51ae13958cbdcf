use Rattle.std.proofs.Common.{false, refl, sym, subst}
use Rattle.mg_cursor.specs.Seeking.{KeepsCountBy}
use Rattle.mg_cursor.specs.View.{document_cursor}
use Rattle.mg_cursor.specs.declared.results.AdvanceResult.{AdvanceResult}
use Rattle.mg_cursor.proofs.documents.Documents.goes_behind.Goals as goal

pub returns-in-Advanced : goal.returns-in-Advanced
returns-in-Advanced c = subst (λ (a : AdvanceResult (Unit {0})). KeepsCountBy a (document_cursor c.args.self.now) (document_cursor c.args.self.now) false) (sym c.in-Advanced.is) (refl, refl)

pub returns-in-Exhausted : goal.returns-in-Exhausted
returns-in-Exhausted c = subst (λ (a : AdvanceResult (Unit {0})). KeepsCountBy a (document_cursor c.args.self.now) (document_cursor c.args.self.now) false) (sym c.in-Exhausted.is) (refl, refl)

pub returns-in-Waiting : goal.returns-in-Waiting
returns-in-Waiting c = subst (λ (a : AdvanceResult (Unit {0})). KeepsCountBy a (document_cursor c.args.self.now) (document_cursor c.count.new.self) c.count.result) (sym c.in-Waiting.is) c.count.ensures
