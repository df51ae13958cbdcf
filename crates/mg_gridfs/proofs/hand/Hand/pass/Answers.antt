use Rattle.std.proofs.Common.{◌≤◌, ◌<◌, ◌+◌, length, refl, arith, length-drop}
use Rattle.mg_gridfs.specs.DownloadView.{front_in}
use Rattle.mg_gridfs.proofs.Hands.{given_within, hand_passed, passed_all, passed_bytes, passed_holds}
use Rattle.mg_gridfs.proofs.hand.Hand.pass.Goals as goal

pub overflow_add-at : goal.overflow_add-at
overflow_add-at c =
    let within = given_within c.args.self.now c.requires.holds in
    let whole = c.requires.whole in
    let left = length-drop c.args.self.now.given (front_in c.args.self.now.batch) in
    let there = c.requires.there in
    omega arith

-- ---- bytes are left of it

pub returns-then-at-whole-clause-left : goal.returns-then-at-whole-clause-left
returns-then-at-whole-clause-left c =
    let h = c.args.self.now in
    passed_bytes h (record h { given = h.given + c.args.count }) c.args.count c.requires.holds c.requires.there refl refl refl

pub returns-then-at-whole-clause-keeps : goal.returns-then-at-whole-clause-keeps
returns-then-at-whole-clause-keeps c =
    let h = c.args.self.now in
    let whole = c.requires.whole in
    let less : h.given + c.args.count < length (front_in h.batch) = omega (arith, c.if-at-whole.true) in
    passed_holds h (record h { given = h.given + c.args.count }) c.args.count c.requires.holds less refl refl refl

-- ---- none is left

pub advance-requires-clause-given : goal.advance-requires-clause-given
advance-requires-clause-given c = refl

pub advance-requires-clause-passed : goal.advance-requires-clause-passed
advance-requires-clause-passed c =
    let passed = hand_passed c.args.self.now c.requires.holds in
    record { behind = passed.behind; later = passed.later }

pub returns-clause-left : goal.returns-clause-left
returns-clause-left c =
    let h = c.args.self.now in
    let whole = c.requires.whole in
    let past : length (front_in h.batch) ≤ h.given + c.args.count = omega (arith, c.if-at-whole.false) in
    passed_all h c.args.count _ c.requires.holds c.requires.there past c.advance.ensures.left

pub returns-clause-keeps : goal.returns-clause-keeps
returns-clause-keeps c = c.advance.ensures.keeps
