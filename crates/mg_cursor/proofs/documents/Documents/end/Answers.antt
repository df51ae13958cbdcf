use Rattle.std.proofs.Common.{refl, sym, subst}
use Rattle.mg_cursor.specs.Seeking.{EndsSeeking, MayEnd, uncounted}
use Rattle.mg_cursor.specs.View.{document_cursor}
use Rattle.mg_cursor.specs.declared.polls.AdvancePoll.TheVariants as advance
use Rattle.mg_cursor.specs.declared.polls.TryPoll.{TryPoll}
use Rattle.mg_cursor.proofs.documents.Documents.end.Goals as goal

pub returns-in-Pending : goal.returns-in-Pending
returns-in-Pending c =
    let d = document_cursor c.args.self.now in
    subst (λ (p : TryPoll). EndsSeeking p d d advance.Pending) (sym c.in-Pending.is) (refl, refl)

pub returns-in-Ready : goal.returns-in-Ready
returns-in-Ready c =
    let d = document_cursor c.args.self.now in
    subst (λ (p : TryPoll). EndsSeeking p d (uncounted d) c.ended.result) (sym c.in-Ready.is) (subst (λ (p : TryPoll). MayEnd p d) c.in-Ready.is c.requires, refl, c.ended.ensures)

pub returns-in-Failed : goal.returns-in-Failed
returns-in-Failed c =
    let d = document_cursor c.args.self.now in
    subst (λ (p : TryPoll). EndsSeeking p d (uncounted d) (advance.Failed c.in-Failed.error)) (sym c.in-Failed.is) (refl, refl)
