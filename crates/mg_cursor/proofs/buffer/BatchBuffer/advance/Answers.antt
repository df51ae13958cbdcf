use Rattle.std.proofs.Common.{Some, refl, sym, ap, ◌∙◌}
use Rattle.mg_bson.specs.Walks.{Walk}
use Rattle.mg_cursor.specs.View.{behind_in, behind_of, whole_in}
use Rattle.mg_cursor.proofs.Giving.{advanced_whole, advances_by, advances_none}
use Rattle.mg_cursor.proofs.buffer.BatchBuffer.advance.Goals as goal

pub returns-in-Some-clause-advances : goal.returns-in-Some-clause-advances
returns-in-Some-clause-advances c =
    advances_by (behind_of c.args.self.now) c.in-Some.documents c.advance.new.self c.advance.result _ (sym (ap behind_in c.in-Some.is)) c.advance.ensures.state c.advance.ensures.there refl

pub returns-in-Some-clause-reply : goal.returns-in-Some-clause-reply
returns-in-Some-clause-reply c =
    ap (λ (w : Walk). Some w.whole) c.advance.ensures.state ∙ ap Some (advanced_whole c.in-Some.documents.whole c.in-Some.documents.behind) ∙ sym (ap whole_in c.in-Some.is)

pub returns-in-None-clause-advances : goal.returns-in-None-clause-advances
returns-in-None-clause-advances c = advances_none (behind_of c.args.self.now) c.args.self.now c.in-None.is refl
