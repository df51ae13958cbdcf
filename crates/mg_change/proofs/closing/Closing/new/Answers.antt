use Rattle.std.proofs.Common.{pos, ap}
use Rattle.mg_change.specs.ClosingStreams.{landing_of}
use Rattle.mg_change.specs.ClosingView.{closing_in}
use Rattle.mg_change.specs.StreamView.{doing_of}
use Rattle.mg_change.proofs.Remaining.{closing_begun}
use Rattle.mg_change.proofs.closing.Closing.new.Goals as goal

pub invariant_of-result : goal.invariant_of-result
invariant_of-result c = closing_begun _ (landing_of (doing_of c.args.phase)) _ c.underway_of.ensures c.requires.sound c.requires.saves

pub returns : goal.returns
returns c =
    let a = c.args in
    ap (closing_in (record { alloc = a.alloc; aggregate = a.aggregate; batches = a.batches; buffer = a.buffer; token = a.token; opened = pos 0 })) c.underway_of.ensures
