use Rattle.std.proofs.Common.{refl, sym, subst}
use Rattle.std.proofs.lemmas.Bool.{iff_false}
use Rattle.mg_gridfs.specs.DownloadView.{AreLater}
use Rattle.mg_gridfs.proofs.Hands.{hand_bare, queued_bytes, queued_holds, same_bytes, same_holds, taken_bare}
use Rattle.mg_gridfs.proofs.hand.Hand.take.Goals as goal

pub is_empty-requires : goal.is_empty-requires
is_empty-requires c = c.requires.holds

-- ---- nothing is in it

pub begin-requires-clause-given : goal.begin-requires-clause-given
begin-requires-clause-given c = (hand_bare c.args.self.now c.requires.holds (c.is_empty.ensures.0 c.if-is_empty.true)).given

pub begin-requires-clause-later : goal.begin-requires-clause-later
begin-requires-clause-later c = subst AreLater (sym (hand_bare c.args.self.now c.requires.holds (c.is_empty.ensures.0 c.if-is_empty.true)).later) tt

pub begin-requires-clause-batch : goal.begin-requires-clause-batch
begin-requires-clause-batch c = c.requires.later

pub returns-then-is_empty-clause-ok : goal.returns-then-is_empty-clause-ok
returns-then-is_empty-clause-ok c =
    let h = c.args.self.now in
    let empty = c.is_empty.ensures.0 c.if-is_empty.true in
    taken_bare c.args.batch h _ (hand_bare h c.requires.holds empty) empty c.begin.ensures.begun

pub returns-then-is_empty-clause-keeps : goal.returns-then-is_empty-clause-keeps
returns-then-is_empty-clause-keeps c = c.begin.ensures.keeps

-- ---- it is put behind the others

pub returns-in-Ok-clause-ok : goal.returns-in-Ok-clause-ok
returns-in-Ok-clause-ok c = queued_bytes c.args.self.now (record c.args.self.now { later = c.push_back.new.self }) c.args.batch refl refl c.in-Ok.ensures.items

pub returns-in-Ok-clause-keeps : goal.returns-in-Ok-clause-keeps
returns-in-Ok-clause-keeps c =
    queued_holds c.args.self.now (record c.args.self.now { later = c.push_back.new.self }) c.args.batch c.requires.holds (iff_false c.is_empty.ensures c.if-is_empty.false) c.requires.later refl refl c.in-Ok.ensures.items

pub returns-in-Err-clause-same : goal.returns-in-Err-clause-same
returns-in-Err-clause-same c = same_bytes c.args.self.now (record c.args.self.now { later = c.push_back.new.self }) refl refl c.in-Err.ensures.items

pub returns-in-Err-clause-keeps : goal.returns-in-Err-clause-keeps
returns-in-Err-clause-keeps c = same_holds c.args.self.now (record c.args.self.now { later = c.push_back.new.self }) c.requires.holds refl refl c.in-Err.ensures.items
