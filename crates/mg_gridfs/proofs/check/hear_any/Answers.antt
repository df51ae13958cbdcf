use Rattle.std.proofs.Common.{◌≡◌, ◌↔◌, ℕ, List, Ok, IsTrue, refl, ◌∙◌, subst}
use Rattle.std.proofs.lemmas.Bool.{iff_false}
use Rattle.mg_bson.specs.Raw.{fields}
use Rattle.mg_bson.specs.Tree.{no_items}
use Rattle.mg_ops.specs.Cursors as replies
use Rattle.mg_ops.specs.Cursors.{cursor_of}
use Rattle.mg_gridfs.specs.Checks as check
use Rattle.mg_gridfs.proofs.check.hear_any.Goals as goal
use Rattle.mg_gridfs.proofs.check.hear_any.Goals.{After-has_none}

-- whether the reply has a document
empty : (c : After-has_none) (said : replies.Cursor) → cursor_of (fields c.args.reply) ≡ Ok said → IsTrue c.has_none.result ↔ (said.batch ≡ no_items)
empty c = subst (λ (b : List ℕ). (said : replies.Cursor) → cursor_of (fields b) ≡ Ok said → IsTrue c.has_none.result ↔ (said.batch ≡ no_items)) (c.as_raw.ensures ∙ c.in-Ok.ensures.ok.whole) c.has_none.ensures

pub returns-in-Err : goal.returns-in-Err
returns-in-Err c = check.broke c.in-Err.error c.in-Err.ensures.err refl

pub returns-then-has_none : goal.returns-then-has_none
returns-then-has_none c =
    let says = c.in-Ok.ensures.ok.says in
    check.none _ says ((empty (goal.at.returns-then-has_none c).After-has_none _ says).0 c.if-has_none.true) c.create_next.ensures

pub returns : goal.returns
returns c =
    let says = c.in-Ok.ensures.ok.says in
    check.some _ says (iff_false (empty (goal.at.returns c).After-has_none _ says) c.if-has_none.false) refl
