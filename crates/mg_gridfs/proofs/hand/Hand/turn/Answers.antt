use Rattle.std.proofs.Common.{◌≡◌, [], refl, sym, ap, subst, ◌∙◌, arith}
use Rattle.mg_gridfs.specs.DownloadView.{AreLater, bytes_of}
use Rattle.mg_gridfs.proofs.Hands.{ended_bytes, ended_holds, none_of}
use Rattle.mg_gridfs.proofs.hand.Hand.turn.Goals as goal

-- ---- a batch is there

pub begin-requires-clause-given : goal.begin-requires-clause-given
begin-requires-clause-given c = c.requires.given

pub begin-requires-clause-later : goal.begin-requires-clause-later
begin-requires-clause-later c = (subst AreLater c.in-Some.ensures.items c.requires.later).1

pub begin-requires-clause-batch : goal.begin-requires-clause-batch
begin-requires-clause-batch c = (subst AreLater c.in-Some.ensures.items c.requires.later).0

pub returns-in-Some-clause-left : goal.returns-in-Some-clause-left
returns-in-Some-clause-left c = c.begin.ensures.begun ∙ sym (ap bytes_of c.in-Some.ensures.items)

pub returns-in-Some-clause-keeps : goal.returns-in-Some-clause-keeps
returns-in-Some-clause-keeps c = c.begin.ensures.keeps

-- ---- none is left

pub returns-in-None-clause-left : goal.returns-in-None-clause-left
returns-in-None-clause-left c =
    let h = c.args.self.now in
    let fits = h.later.ok.0 in
    let none : h.later.items ≡ [] = none_of h.later.items (let e = c.in-None.ensures.cases.0 in omega arith) in
    ended_bytes h (record h { later = c.pop_front.new.self }) refl c.requires.given c.requires.current c.requires.behind (sym c.in-None.ensures.items ∙ none) none

pub returns-in-None-clause-keeps : goal.returns-in-None-clause-keeps
returns-in-None-clause-keeps c =
    let h = c.args.self.now in
    let fits = h.later.ok.0 in
    let none : h.later.items ≡ [] = none_of h.later.items (let e = c.in-None.ensures.cases.0 in omega arith) in
    ended_holds h (record h { later = c.pop_front.new.self }) refl c.requires.given c.requires.current c.requires.behind (sym c.in-None.ensures.items ∙ none)
