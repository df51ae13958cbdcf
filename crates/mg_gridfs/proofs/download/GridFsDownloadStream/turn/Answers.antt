use Rattle.std.proofs.Common.{◌<◌, ℕ, None, refl, ap, arith}
use Rattle.mg_link.specs.Moment.{finished, moment}
use Rattle.mg_link.proofs.Moments.{keeps_same}
use Rattle.mg_cursor.specs.Client.{client_ticket}
use Rattle.mg_cursor.specs.declared.polls.NextPoll.TheVariants as next
use Rattle.mg_cursor.proofs.Hearing.{keeps_to}
use Rattle.mg_gridfs.specs.Downloads.{reads}
use Rattle.mg_gridfs.specs.Fetching.{fetching_of}
use Rattle.mg_gridfs.specs.Reads.{no_more, none_missing, over, pends}
use Rattle.mg_gridfs.proofs.Downloading.{next_rests}
use Rattle.mg_gridfs.proofs.Sounding.{rests_ticket}
use Rattle.mg_gridfs.proofs.Turned.{goes_sound, heard_keeps, heard_turns, takes_at}
use Rattle.mg_gridfs.proofs.download.GridFsDownloadStream.turn.Goals as goal

-- ---- as many bytes are in hand as were awaited

pub returns-then-missing-eq0-clause-keeps : goal.returns-then-missing-eq0-clause-keeps
returns-then-missing-eq0-clause-keeps g c = keeps_same (moment (g.L.Link.awaited c.args.link.now) (g.L.Link.log c.args.link.now) (g.L.Link.faults c.args.link.now) (g.L.Link.pends c.args.link.now) (g.L.Link.wire c.args.link.now) (g.L.Link.prompt c.args.link.now)) (client_ticket c.args.reading.cursor) finished c.requires.held refl tt tt

pub returns-then-missing-eq0-clause-turns : goal.returns-then-missing-eq0-clause-turns
returns-then-missing-eq0-clause-turns g c = none_missing c.args.reading.cursor c.args.reading.empty (ap (λ (m : ℕ). reads c.args.reading.cursor m c.args.reading.empty) c.if-missing-eq0.true) (record { rest = λ n. refl; log_same = refl }) refl refl

pub returns-then-missing-eq0-clause-sound : goal.returns-then-missing-eq0-clause-sound
returns-then-missing-eq0-clause-sound g c = λ q bad. absurd cc

pub returns-then-missing-eq0-clause-holds : goal.returns-then-missing-eq0-clause-holds
returns-then-missing-eq0-clause-holds g c = c.requires.holds

-- ---- a poll for one more batch

pub poll_next-requires : goal.poll_next-requires
poll_next-requires g c = c.requires.held

pub returns-in-Pending-clause-keeps : goal.returns-in-Pending-clause-keeps
returns-in-Pending-clause-keeps g c = c.in-Pending.ensures.keeps

pub returns-in-Pending-clause-turns : goal.returns-in-Pending-clause-turns
returns-in-Pending-clause-turns g c =
    let short : 0 < c.args.reading.missing = omega (arith, c.if-missing-eq0.false) in
    let x = c.in-Pending.ensures.polls in
    pends c.args.reading.cursor c.args.reading.missing c.args.reading.empty refl short x.0 c.poll_next.new.self x.1 refl refl

pub returns-in-Pending-clause-sound : goal.returns-in-Pending-clause-sound
returns-in-Pending-clause-sound g c = λ q bad. absurd cc

pub returns-in-Pending-clause-holds : goal.returns-in-Pending-clause-holds
returns-in-Pending-clause-holds g c = c.requires.holds

-- ---- a batch came

pub hear-requires-clause-few : goal.hear-requires-clause-few
hear-requires-clause-few g c = c.requires.sound.sizes.few

pub hear-requires-clause-short : goal.hear-requires-clause-short
hear-requires-clause-short g c = omega (arith, c.if-missing-eq0.false)

pub hear-requires-clause-room : goal.hear-requires-clause-room
hear-requires-clause-room g c = c.requires.sound.by.1.few

pub hear-requires-clause-holds : goal.hear-requires-clause-holds
hear-requires-clause-holds g c = c.requires.holds

pub returns-in-Batch-clause-keeps : goal.returns-in-Batch-clause-keeps
returns-in-Batch-clause-keeps g c =
    let x = c.in-Batch.ensures.polls in
    let rests = next_rests (g.L.Link.awaited c.args.link.now) (g.L.Link.awaited c.poll_next.new.link) (g.L.Link.log c.args.link.now) (g.L.Link.log c.poll_next.new.link) (g.L.Link.wire c.args.link.now) x.0 c.args.reading.cursor c.poll_next.new.self (next.Batch c.in-Batch.batch) tt x.1 in
    heard_keeps _ _ (client_ticket c.args.reading.cursor) c.poll_next.new.self c.args.reading.missing c.args.reading.empty c.in-Batch.batch (fetching_of c.args.self.now (reads c.poll_next.new.self c.args.reading.missing c.args.reading.empty)) c.hear.new.self c.hear.result rests c.hear.ensures.takes c.in-Batch.ensures.keeps

pub returns-in-Batch-clause-turns : goal.returns-in-Batch-clause-turns
returns-in-Batch-clause-turns g c =
    let short : 0 < c.args.reading.missing = omega (arith, c.if-missing-eq0.false) in
    let x = c.in-Batch.ensures.polls in
    heard_turns (g.L.Link.awaited c.args.link.now) (g.L.Link.awaited c.poll_next.new.link) (g.L.Link.log c.args.link.now) (g.L.Link.log c.poll_next.new.link) (g.L.Link.wire c.args.link.now) (fetching_of c.args.self.now (reads c.args.reading.cursor c.args.reading.missing c.args.reading.empty)) c.hear.new.self c.args.reading.cursor c.poll_next.new.self c.args.reading.missing c.args.reading.empty x.0 c.in-Batch.batch c.hear.result refl short x.1
    (takes_at c.poll_next.new.self c.args.reading.missing c.args.reading.empty c.in-Batch.batch (fetching_of c.args.self.now (reads c.poll_next.new.self c.args.reading.missing c.args.reading.empty)) (reads c.args.reading.cursor c.args.reading.missing c.args.reading.empty) c.hear.new.self c.hear.result c.hear.ensures.takes)

pub returns-in-Batch-clause-sound : goal.returns-in-Batch-clause-sound
returns-in-Batch-clause-sound g c = goes_sound (g.L.Link.awaited c.args.link.now) (g.L.Link.awaited c.poll_next.new.link) (g.L.Link.log c.args.link.now) (g.L.Link.log c.poll_next.new.link) (g.L.Link.wire c.args.link.now) (fetching_of c.args.self.now (reads c.args.reading.cursor c.args.reading.missing c.args.reading.empty)) c.hear.new.self c.hear.result c.requires.sound (returns-in-Batch-clause-turns g c)

pub returns-in-Batch-clause-falls : goal.returns-in-Batch-clause-falls
returns-in-Batch-clause-falls g c = c.hear.ensures.falls

pub returns-in-Batch-clause-holds : goal.returns-in-Batch-clause-holds
returns-in-Batch-clause-holds g c = c.hear.ensures.holds

-- ---- the cursor has ended

pub returns-in-End-clause-keeps : goal.returns-in-End-clause-keeps
returns-in-End-clause-keeps g c = c.in-End.ensures.keeps

pub returns-in-End-clause-turns : goal.returns-in-End-clause-turns
returns-in-End-clause-turns g c =
    let short : 0 < c.args.reading.missing = omega (arith, c.if-missing-eq0.false) in
    let x = c.in-End.ensures.polls in
    over c.args.reading.cursor c.args.reading.missing c.args.reading.empty refl short x.0 c.poll_next.new.self x.1 refl refl

pub returns-in-End-clause-sound : goal.returns-in-End-clause-sound
returns-in-End-clause-sound g c = λ q bad. absurd cc

pub returns-in-End-clause-holds : goal.returns-in-End-clause-holds
returns-in-End-clause-holds g c = c.requires.holds

-- ---- no batch comes

pub returns-in-Failed-clause-keeps : goal.returns-in-Failed-clause-keeps
returns-in-Failed-clause-keeps g c =
    let x = c.in-Failed.ensures.polls in
    let rests = next_rests (g.L.Link.awaited c.args.link.now) (g.L.Link.awaited c.poll_next.new.link) (g.L.Link.log c.args.link.now) (g.L.Link.log c.poll_next.new.link) (g.L.Link.wire c.args.link.now) x.0 c.args.reading.cursor c.poll_next.new.self (next.Failed c.in-Failed.error) tt x.1 in
    keeps_to _ _ (client_ticket c.args.reading.cursor) (client_ticket c.poll_next.new.self) None _ (rests_ticket c.poll_next.new.self rests) c.in-Failed.ensures.keeps

pub returns-in-Failed-clause-turns : goal.returns-in-Failed-clause-turns
returns-in-Failed-clause-turns g c =
    let short : 0 < c.args.reading.missing = omega (arith, c.if-missing-eq0.false) in
    let x = c.in-Failed.ensures.polls in
    no_more c.args.reading.cursor c.args.reading.missing c.args.reading.empty refl short x.0 c.poll_next.new.self c.in-Failed.error x.1 refl refl

pub returns-in-Failed-clause-sound : goal.returns-in-Failed-clause-sound
returns-in-Failed-clause-sound g c = λ q bad. absurd cc

pub returns-in-Failed-clause-holds : goal.returns-in-Failed-clause-holds
returns-in-Failed-clause-holds g c = c.requires.holds
