use Rattle.std.proofs.Common.{ℤ, None, refl, subst}
use Rattle.mg_link.specs.Moment.{failed, finished, moment, pending}
use Rattle.mg_link.proofs.Moments.{keeps_on, keeps_same}
use Rattle.mg_cursor.specs.Client.{client_ticket}
use Rattle.mg_gridfs.specs.Downloads.{idle, spoiled_at}
use Rattle.mg_gridfs.specs.DownloadView.{download_of}
use Rattle.mg_gridfs.specs.Fetching.{fetching_of, reading_of}
use Rattle.mg_gridfs.specs.Reads.{EndsFetch, TakesOne, enough, fails, waits}
use Rattle.mg_gridfs.proofs.Fetches.{took_last, took_none, took_on}
use Rattle.mg_gridfs.proofs.download.GridFsDownloadStream.fetch.Goals as goal

pub batches-init : goal.batches-init
batches-init g c =
    let link = c.args.link.now in
    record {
      held = c.requires.held;
      keeps = keeps_same (moment (g.L.Link.awaited link) (g.L.Link.log link) (g.L.Link.faults link) (g.L.Link.pends link) (g.L.Link.wire link) (g.L.Link.prompt link)) (client_ticket c.args.reading.cursor) finished c.requires.held refl tt tt;
      sound = c.requires.sound;
      holds = c.requires.holds;
      took = took_none (g.L.Link.awaited link) (g.L.Link.log link) (g.L.Link.wire link) (reading_of c.args.self.now c.args.reading);
    }

pub turn-requires-clause-held : goal.turn-requires-clause-held
turn-requires-clause-held g c = c.batches.invariant.held

pub turn-requires-clause-sound : goal.turn-requires-clause-sound
turn-requires-clause-sound g c = c.batches.invariant.sound

pub turn-requires-clause-holds : goal.turn-requires-clause-holds
turn-requires-clause-holds g c = c.batches.invariant.holds

-- ---- one more batch

pub batches-preserved : goal.batches-preserved
batches-preserved g c =
    let link = c.args.link.now in
    let mid = c.batches.link in
    let later = c.turn.new.link in
    let so = c.batches.invariant in
    let m = moment (g.L.Link.awaited link) (g.L.Link.log link) (g.L.Link.faults link) (g.L.Link.pends link) (g.L.Link.wire link) (g.L.Link.prompt link) in
    let n = moment (g.L.Link.awaited mid) (g.L.Link.log mid) (g.L.Link.faults mid) (g.L.Link.pends mid) (g.L.Link.wire mid) (g.L.Link.prompt mid) in
    let o = moment (g.L.Link.awaited later) (g.L.Link.log later) (g.L.Link.faults later) (g.L.Link.pends later) (g.L.Link.wire later) (g.L.Link.prompt later) in
    let d = reading_of c.args.self.now c.args.reading in
    let before = reading_of c.batches.self c.batches.reading in
    let after = reading_of c.turn.new.self c.in-Goes.next in
    record {
      held = c.in-Goes.ensures.keeps.tickets.held;
      keeps = keeps_on m n o (client_ticket c.args.reading.cursor) (client_ticket c.batches.reading.cursor) (client_ticket c.in-Goes.next.cursor) finished finished so.keeps so.keeps.pended c.in-Goes.ensures.keeps;
      sound = c.in-Goes.ensures.sound c.in-Goes.next refl;
      holds = c.turn.ensures.holds;
      took =
          took_on (g.L.Link.awaited link) (g.L.Link.awaited mid) (g.L.Link.awaited later) (g.L.Link.log link) (g.L.Link.log mid) (g.L.Link.log later) (g.L.Link.wire link) d before after so.took
          (subst (λ (w : ℤ). TakesOne (g.L.Link.awaited mid) (g.L.Link.awaited later) (g.L.Link.log mid) (g.L.Link.log later) w before after) so.keeps.later.wire c.in-Goes.ensures.turns);
    }

pub batches-smaller : goal.batches-smaller
batches-smaller g c = c.in-Goes.ensures.falls

-- ---- a reply pends

pub returns-in-Waits-clause-keeps : goal.returns-in-Waits-clause-keeps
returns-in-Waits-clause-keeps g c =
    let link = c.args.link.now in
    let mid = c.batches.link in
    let later = c.turn.new.link in
    let so = c.batches.invariant in
    let m = moment (g.L.Link.awaited link) (g.L.Link.log link) (g.L.Link.faults link) (g.L.Link.pends link) (g.L.Link.wire link) (g.L.Link.prompt link) in
    let n = moment (g.L.Link.awaited mid) (g.L.Link.log mid) (g.L.Link.faults mid) (g.L.Link.pends mid) (g.L.Link.wire mid) (g.L.Link.prompt mid) in
    let o = moment (g.L.Link.awaited later) (g.L.Link.log later) (g.L.Link.faults later) (g.L.Link.pends later) (g.L.Link.wire later) (g.L.Link.prompt later) in
    keeps_on m n o (client_ticket c.args.reading.cursor) (client_ticket c.batches.reading.cursor) (client_ticket c.in-Waits.reading.cursor) finished pending so.keeps so.keeps.pended c.in-Waits.ensures.keeps

pub returns-in-Waits-clause-fetches : goal.returns-in-Waits-clause-fetches
returns-in-Waits-clause-fetches g c =
    let link = c.args.link.now in
    let mid = c.batches.link in
    let later = c.turn.new.link in
    let so = c.batches.invariant in
    let d = reading_of c.args.self.now c.args.reading in
    let before = reading_of c.batches.self c.batches.reading in
    took_last (g.L.Link.awaited link) (g.L.Link.awaited mid) (g.L.Link.awaited later) (g.L.Link.log link) (g.L.Link.log mid) (g.L.Link.log later) (g.L.Link.wire link) d before (reading_of c.turn.new.self c.in-Waits.reading) waits so.took
    (subst (λ (w : ℤ). EndsFetch (g.L.Link.awaited mid) (g.L.Link.awaited later) (g.L.Link.log mid) (g.L.Link.log later) w before (reading_of c.turn.new.self c.in-Waits.reading) waits) so.keeps.later.wire c.in-Waits.ensures.turns)

pub returns-in-Waits-clause-holds : goal.returns-in-Waits-clause-holds
returns-in-Waits-clause-holds g c = c.turn.ensures.holds

-- ---- the last

pub returns-in-Ends-clause-keeps : goal.returns-in-Ends-clause-keeps
returns-in-Ends-clause-keeps g c =
    let link = c.args.link.now in
    let mid = c.batches.link in
    let later = c.turn.new.link in
    let so = c.batches.invariant in
    let m = moment (g.L.Link.awaited link) (g.L.Link.log link) (g.L.Link.faults link) (g.L.Link.pends link) (g.L.Link.wire link) (g.L.Link.prompt link) in
    let n = moment (g.L.Link.awaited mid) (g.L.Link.log mid) (g.L.Link.faults mid) (g.L.Link.pends mid) (g.L.Link.wire mid) (g.L.Link.prompt mid) in
    let o = moment (g.L.Link.awaited later) (g.L.Link.log later) (g.L.Link.faults later) (g.L.Link.pends later) (g.L.Link.wire later) (g.L.Link.prompt later) in
    keeps_on m n o (client_ticket c.args.reading.cursor) (client_ticket c.batches.reading.cursor) (client_ticket c.in-Ends.cursor) finished finished so.keeps so.keeps.pended c.in-Ends.ensures.keeps

pub returns-in-Ends-clause-fetches : goal.returns-in-Ends-clause-fetches
returns-in-Ends-clause-fetches g c =
    let link = c.args.link.now in
    let mid = c.batches.link in
    let later = c.turn.new.link in
    let so = c.batches.invariant in
    let d = reading_of c.args.self.now c.args.reading in
    let before = reading_of c.batches.self c.batches.reading in
    took_last (g.L.Link.awaited link) (g.L.Link.awaited mid) (g.L.Link.awaited later) (g.L.Link.log link) (g.L.Link.log mid) (g.L.Link.log later) (g.L.Link.wire link) d before (fetching_of c.turn.new.self (idle c.in-Ends.cursor)) enough so.took
    (subst (λ (w : ℤ). EndsFetch (g.L.Link.awaited mid) (g.L.Link.awaited later) (g.L.Link.log mid) (g.L.Link.log later) w before (fetching_of c.turn.new.self (idle c.in-Ends.cursor)) enough) so.keeps.later.wire c.in-Ends.ensures.turns)

pub returns-in-Ends-clause-holds : goal.returns-in-Ends-clause-holds
returns-in-Ends-clause-holds g c = c.turn.ensures.holds

-- ---- or none

pub returns-in-Fails-clause-keeps : goal.returns-in-Fails-clause-keeps
returns-in-Fails-clause-keeps g c =
    let link = c.args.link.now in
    let mid = c.batches.link in
    let later = c.turn.new.link in
    let so = c.batches.invariant in
    let m = moment (g.L.Link.awaited link) (g.L.Link.log link) (g.L.Link.faults link) (g.L.Link.pends link) (g.L.Link.wire link) (g.L.Link.prompt link) in
    let n = moment (g.L.Link.awaited mid) (g.L.Link.log mid) (g.L.Link.faults mid) (g.L.Link.pends mid) (g.L.Link.wire mid) (g.L.Link.prompt mid) in
    let o = moment (g.L.Link.awaited later) (g.L.Link.log later) (g.L.Link.faults later) (g.L.Link.pends later) (g.L.Link.wire later) (g.L.Link.prompt later) in
    keeps_on m n o (client_ticket c.args.reading.cursor) (client_ticket c.batches.reading.cursor) None finished (failed c.in-Fails.error) so.keeps so.keeps.pended c.in-Fails.ensures.keeps

pub returns-in-Fails-clause-fetches : goal.returns-in-Fails-clause-fetches
returns-in-Fails-clause-fetches g c =
    let link = c.args.link.now in
    let mid = c.batches.link in
    let later = c.turn.new.link in
    let so = c.batches.invariant in
    let d = reading_of c.args.self.now c.args.reading in
    let before = reading_of c.batches.self c.batches.reading in
    took_last (g.L.Link.awaited link) (g.L.Link.awaited mid) (g.L.Link.awaited later) (g.L.Link.log link) (g.L.Link.log mid) (g.L.Link.log later) (g.L.Link.wire link) d before (spoiled_at (download_of c.turn.new.self)) (fails c.in-Fails.error) so.took
    (subst (λ (w : ℤ). EndsFetch (g.L.Link.awaited mid) (g.L.Link.awaited later) (g.L.Link.log mid) (g.L.Link.log later) w before (spoiled_at (download_of c.turn.new.self)) (fails c.in-Fails.error)) so.keeps.later.wire c.in-Fails.ensures.turns)

pub returns-in-Fails-clause-holds : goal.returns-in-Fails-clause-holds
returns-in-Fails-clause-holds g c = c.turn.ensures.holds
