use Rattle.std.proofs.Common.{sym, ap, ◌∙◌}
use Rattle.mg_bson.specs.Tree.{field}
use Rattle.mg_bson.specs.Find.{joined}
use Rattle.mg_bson.proofs.Joining.{joined_all, joined_more}
use Rattle.mg_ops.proofs.inserting.with_id.Goals as goal

pub loop-name-preserved : goal.loop-name-preserved
loop-name-preserved c =
    let rest = c.next.new.self in
    let d = c.loop-name.copy in
    let k = c.in-Some-next.name.now in
    ap (λ d. joined d rest) c.in_ok-append-2.ensures.ok ∙ joined_more d k _ rest ∙ ap (λ t. joined d (field k t rest)) c.in_ok-clone.ensures.cases ∙ ap (joined d) (sym c.in-Some-next.ensures) ∙ c.loop-name.invariant

pub returns-clause-ok : goal.returns-clause-ok
returns-clause-ok c = sym (joined_all c.loop-name.copy) ∙ ap (joined c.loop-name.copy) (sym c.in_default-next.ensures.0) ∙ c.loop-name.invariant
