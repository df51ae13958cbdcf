use Rattle.std.proofs.Common.{◌-◌, length}
use Rattle.mg_gridfs.specs.DownloadView.{HoldsBytes, hand_of}
use Rattle.mg_gridfs.proofs.Hands.{Gave}
use Rattle.mg_gridfs.proofs.hand.Hand.give.Given as goal

abbrev pub invariant-chunks : goal.invariant-chunks
invariant-chunks l = record {
  gave : Gave (hand_of l.fn.self) l.fn.room l.filled l.room (hand_of l.self);
  holds : HoldsBytes l.self;
}

abbrev pub decreases-chunks : goal.decreases-chunks
decreases-chunks l = length l.room - l.filled
