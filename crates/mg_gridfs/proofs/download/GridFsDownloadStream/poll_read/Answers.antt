use Rattle.std.proofs.Common.{length}
use Rattle.mg_gridfs.specs.DownloadView.{download_of}
use Rattle.mg_gridfs.proofs.Given.{read_knows}
use Rattle.mg_gridfs.proofs.Leaving.{reads_leave}
use Rattle.mg_gridfs.proofs.ReadCaused.{read_caused}
use Rattle.mg_gridfs.proofs.Sounding.{reads_between, reads_counted, reads_nothing, reads_within, same_room}
use Rattle.mg_gridfs.proofs.download.GridFsDownloadStream.poll_read.Goals as goal

pub read-requires-clause-held : goal.read-requires-clause-held
read-requires-clause-held g c = c.requires.held

pub read-requires-clause-sound : goal.read-requires-clause-sound
read-requires-clause-sound g c = c.requires.sound

pub returns-clause-keeps : goal.returns-clause-keeps
returns-clause-keeps g c = c.read.ensures.keeps

pub returns-clause-sound : goal.returns-clause-sound
returns-clause-sound g c =
    let x = c.read.ensures.reads in
    record { between = reads_between (g.L.Link.awaited c.args.link.now) (g.L.Link.awaited c.read.new.link) (g.L.Link.log c.args.link.now) (g.L.Link.log c.read.new.link) (g.L.Link.wire c.args.link.now) (download_of c.args.self.now) (download_of c.read.new.self) x.0 c.read.result (length c.args.room.now) c.requires.sound.between x.1; hand = c.read.ensures.holds }

pub returns-clause-reads : goal.returns-clause-reads
returns-clause-reads g c = c.read.ensures.reads

pub returns-clause-within : goal.returns-clause-within
returns-clause-within g c =
    let x = c.read.ensures.reads in
    reads_within (g.L.Link.awaited c.args.link.now) (g.L.Link.awaited c.read.new.link) (g.L.Link.log c.args.link.now) (g.L.Link.log c.read.new.link) (g.L.Link.wire c.args.link.now) (download_of c.args.self.now) (download_of c.read.new.self) x.0 c.read.result (length c.args.room.now) x.1

pub returns-clause-same_room : goal.returns-clause-same_room
returns-clause-same_room g c =
    let x = c.read.ensures.reads in
    same_room c.args.room.now c.read.new.room x.0 c.read.result (reads_within (g.L.Link.awaited c.args.link.now) (g.L.Link.awaited c.read.new.link) (g.L.Link.log c.args.link.now) (g.L.Link.log c.read.new.link) (g.L.Link.wire c.args.link.now) (download_of c.args.self.now) (download_of c.read.new.self) x.0 c.read.result (length c.args.room.now) x.1)
    (reads_counted (g.L.Link.awaited c.args.link.now) (g.L.Link.awaited c.read.new.link) (g.L.Link.log c.args.link.now) (g.L.Link.log c.read.new.link) (g.L.Link.wire c.args.link.now) (download_of c.args.self.now) (download_of c.read.new.self) x.0 c.read.result (length c.args.room.now) x.1) x.2

pub returns-clause-leaves : goal.returns-clause-leaves
returns-clause-leaves g c =
    let x = c.read.ensures.reads in
    reads_leave (g.L.Link.awaited c.args.link.now) (g.L.Link.awaited c.read.new.link) (g.L.Link.log c.args.link.now) (g.L.Link.log c.read.new.link) (g.L.Link.wire c.args.link.now) (download_of c.args.self.now) (download_of c.read.new.self) x.0 c.read.result (length c.args.room.now) x.1

pub returns-clause-nothing : goal.returns-clause-nothing
returns-clause-nothing g c =
    let x = c.read.ensures.reads in
    reads_nothing (g.L.Link.awaited c.args.link.now) (g.L.Link.awaited c.read.new.link) (g.L.Link.log c.args.link.now) (g.L.Link.log c.read.new.link) (g.L.Link.wire c.args.link.now) (download_of c.args.self.now) (download_of c.read.new.self) x.0 c.read.result (length c.args.room.now) c.requires.sound.between.sound x.1

pub returns-clause-caused : goal.returns-clause-caused
returns-clause-caused g c =
    let x = c.read.ensures.reads in
    read_caused (g.L.Link.awaited c.args.link.now) (g.L.Link.awaited c.read.new.link) (g.L.Link.log c.args.link.now) (g.L.Link.log c.read.new.link) (g.L.Link.wire c.args.link.now) (download_of c.args.self.now) (download_of c.read.new.self) x.0 c.read.result c.requires.sound.between.sound (length c.args.room.now) x.1

pub returns-clause-known : goal.returns-clause-known
returns-clause-known g c = λ at.
    read_knows (g.L.Link.awaited c.args.link.now) (g.L.Link.awaited c.read.new.link) (g.L.Link.log c.args.link.now) (g.L.Link.log c.read.new.link) (g.L.Link.wire c.args.link.now) at (download_of c.args.self.now) (download_of c.read.new.self) c.args.room.now c.read.new.room c.read.result c.requires.sound.between.sound c.read.ensures.reads
