use Rattle.std.proofs.Common.{sym, ap, subst}
use Rattle.std.proofs.lemmas.Bool.{iff_false}
use Rattle.mg_gridfs.specs.DownloadView.{HoldsBytes, download_of, hand_of}
use Rattle.mg_gridfs.specs.declared.download.GridFsDownloadStream.{GridFsDownloadStream}
use Rattle.mg_gridfs.proofs.Turned.{gives_last, gives_some, is_given}
use Rattle.mg_gridfs.proofs.download.GridFsDownloadStream.give.Goals as goal

pub give-count-requires : goal.give-count-requires
give-count-requires c = c.requires

pub is_empty-requires : goal.is_empty-requires
is_empty-requires c = c.give-count.ensures.keeps

-- ---- none is left

pub pass-requires-clause-holds : goal.pass-requires-clause-holds
pass-requires-clause-holds c = c.give-count.ensures.keeps

pub pass-requires-clause-empty : goal.pass-requires-clause-empty
pass-requires-clause-empty c = c.is_empty.ensures.0 c.if-is_empty.true

pub returns-then-is_empty-clause-gives : goal.returns-then-is_empty-clause-gives
returns-then-is_empty-clause-gives c =
    gives_last c.args.cursor (download_of c.args.self.now) (download_of c.pass.new.self) c.args.room.now c.give-count.new.room c.give-count.result (hand_of c.give-count.new.self) c.pass.result
    (is_given (hand_of c.args.self.now.hand) c.args.room.now c.give-count.new.room c.give-count.result (hand_of c.give-count.new.self) c.give-count.ensures.count c.give-count.ensures.given c.give-count.ensures.left) (c.is_empty.ensures.0 c.if-is_empty.true) c.pass.ensures.passes

pub returns-then-is_empty-clause-holds : goal.returns-then-is_empty-clause-holds
returns-then-is_empty-clause-holds c = c.pass.ensures.holds

-- ---- bytes are left in hand

pub returns-clause-gives : goal.returns-clause-gives
returns-clause-gives c =
    gives_some c.args.cursor (download_of c.args.self.now) (download_of c.enter.new.self) c.args.room.now c.give-count.new.room c.give-count.result (hand_of c.give-count.new.self)
    (is_given (hand_of c.args.self.now.hand) c.args.room.now c.give-count.new.room c.give-count.result (hand_of c.give-count.new.self) c.give-count.ensures.count c.give-count.ensures.given c.give-count.ensures.left) (iff_false c.is_empty.ensures c.if-is_empty.false) (ap download_of c.enter.ensures)

pub returns-clause-holds : goal.returns-clause-holds
returns-clause-holds c = subst (λ (s : GridFsDownloadStream). HoldsBytes s.hand) (sym c.enter.ensures) c.give-count.ensures.keeps
