use Rattle.std.proofs.Common.{None, [], length, refl, sym, ap, subst}
use Rattle.mg_cursor.specs.Client.{client_ticket}
use Rattle.mg_cursor.proofs.Hearing.{keeps_to}
use Rattle.mg_gridfs.specs.Downloads.{download_ticket, idle, reads, spoiled_at}
use Rattle.mg_gridfs.specs.DownloadView.{HoldsBytes, download_of}
use Rattle.mg_gridfs.specs.Fetching.{fetching_of, reading_of}
use Rattle.mg_gridfs.specs.Reads.{enough, fails, waits}
use Rattle.mg_gridfs.specs.declared.download.GridFsDownloadStream.{GridFsDownloadStream}
use Rattle.mg_gridfs.proofs.Sounding.{fetches_sound}
use Rattle.mg_gridfs.proofs.Turned.{gives_at, gives_keep}
use Rattle.mg_gridfs.proofs.download.GridFsDownloadStream.go_on.Goals as goal

pub fetch-requires-clause-held : goal.fetch-requires-clause-held
fetch-requires-clause-held g c = c.requires.held

pub fetch-requires-clause-sound : goal.fetch-requires-clause-sound
fetch-requires-clause-sound g c = c.requires.sound

pub fetch-requires-clause-holds : goal.fetch-requires-clause-holds
fetch-requires-clause-holds g c = c.requires.holds

-- ---- a reply pends

pub returns-in-Pending-clause-keeps : goal.returns-in-Pending-clause-keeps
returns-in-Pending-clause-keeps g c =
    keeps_to _ _ (client_ticket c.args.reading.cursor) (client_ticket c.in-Pending.reading.cursor) (download_ticket (download_of c.enter.new.self)) _ (sym (ap (λ (s : GridFsDownloadStream). download_ticket (download_of s)) c.enter.ensures)) c.in-Pending.ensures.keeps

pub returns-in-Pending-clause-fills : goal.returns-in-Pending-clause-fills
returns-in-Pending-clause-fills g c =
    let x = c.in-Pending.ensures.fetches in
    ([], record { batches = x.0; left = reading_of c.fetch.new.self c.in-Pending.reading; fetched = waits; fetches = x.1; concludes = (ap download_of c.enter.ensures, refl, refl) }, refl)

pub returns-in-Pending-clause-holds : goal.returns-in-Pending-clause-holds
returns-in-Pending-clause-holds g c = subst (λ (s : GridFsDownloadStream). HoldsBytes s.hand) (sym c.enter.ensures) c.fetch.ensures.holds

-- ---- all that was awaited is in hand

pub give-requires : goal.give-requires
give-requires g c = c.fetch.ensures.holds

pub returns-in-Done-clause-keeps : goal.returns-in-Done-clause-keeps
returns-in-Done-clause-keeps g c =
    let x = c.in-Done.ensures.fetches in
    let left = fetching_of c.fetch.new.self (idle c.in-Done.cursor) in
    let sound = fetches_sound x.0 (g.L.Link.awaited c.args.link.now) (g.L.Link.awaited c.fetch.new.link) (g.L.Link.log c.args.link.now) (g.L.Link.log c.fetch.new.link) (g.L.Link.wire c.args.link.now) (fetching_of c.args.self.now (reads c.args.reading.cursor c.args.reading.missing c.args.reading.empty)) left enough c.requires.sound x.1 in
    let y = c.give.ensures.gives in
    gives_keep _ _ (client_ticket c.args.reading.cursor) (length c.args.room.now) c.in-Done.cursor (download_of c.fetch.new.self) (download_of c.give.new.self) y.0 c.give.result (sound.1 c.in-Done.cursor refl).rests y.1 c.in-Done.ensures.keeps

pub returns-in-Done-clause-fills : goal.returns-in-Done-clause-fills
returns-in-Done-clause-fills g c =
    let x = c.in-Done.ensures.fetches in
    let y = c.give.ensures.gives in (
      y.0,
      record {
        batches = x.0;
        left = fetching_of c.fetch.new.self (idle c.in-Done.cursor);
        fetched = enough;
        fetches = x.1;
        concludes = (c.in-Done.cursor, refl, gives_at (length c.args.room.now) c.in-Done.cursor (download_of c.fetch.new.self) (download_of c.give.new.self) (idle c.in-Done.cursor) y.0 c.give.result y.1);
      },
      y.2,
    )

pub returns-in-Done-clause-holds : goal.returns-in-Done-clause-holds
returns-in-Done-clause-holds g c = c.give.ensures.holds

-- ---- or nothing more comes

pub returns-in-Failed-clause-keeps : goal.returns-in-Failed-clause-keeps
returns-in-Failed-clause-keeps g c =
    keeps_to _ _ (client_ticket c.args.reading.cursor) None (download_ticket (download_of c.spoil.new.self)) _ (sym (ap download_ticket c.spoil.ensures.spoiled)) c.in-Failed.ensures.keeps

pub returns-in-Failed-clause-fills : goal.returns-in-Failed-clause-fills
returns-in-Failed-clause-fills g c =
    let x = c.in-Failed.ensures.fetches in
    ([], record { batches = x.0; left = spoiled_at (download_of c.fetch.new.self); fetched = fails c.in-Failed.error; fetches = x.1; concludes = (c.spoil.ensures.spoiled, refl, refl) }, refl)

pub returns-in-Failed-clause-holds : goal.returns-in-Failed-clause-holds
returns-in-Failed-clause-holds g c = c.spoil.ensures.holds
