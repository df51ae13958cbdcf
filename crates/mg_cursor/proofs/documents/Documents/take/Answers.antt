use Rattle.std.proofs.Common.{[], ◌∷◌, Some, refl, ap, ◌∙◌}
use Rattle.mg_cursor.specs.Documents.{broken, filled}
use Rattle.mg_cursor.specs.View.{behind_of}
use Rattle.mg_cursor.proofs.Advancing.{advanced_none, advanced_some, stands_at, stands_behind}
use Rattle.mg_cursor.proofs.documents.Documents.take.Goals as goal

pub returns-then-advance : goal.returns-then-advance
returns-then-advance c =
    let ds = behind_of c.fill.new.self in
    let at = advanced_some ds c.advance.new.self c.advance.result c.if-advance.true c.advance.ensures.advances in
    filled (at.first ∷ at.rest) (c.in-Ok.ensures.ok ∙ ap Some at.these) (stands_at (record c.args.self.now { buffer = c.advance.new.self }) ds at) refl

pub returns-else-advance : goal.returns-else-advance
returns-else-advance c =
    let ds = behind_of c.fill.new.self in
    let none = advanced_none ds c.advance.new.self c.advance.result c.if-advance.false c.advance.ensures.advances in
    filled [] (c.in-Ok.ensures.ok ∙ ap Some none.none_left) (stands_behind (record c.args.self.now { buffer = c.advance.new.self }) ds none) refl

pub returns-in-Err : goal.returns-in-Err
returns-in-Err c =
    broken c.in-Err.error c.in-Err.ensures.err (stands_behind (record c.args.self.now { buffer = c.fill.new.self }) [] (record { none_left = refl; no_current = c.in-Err.ensures.before; no_behind = c.in-Err.ensures.empty.0 })) refl
