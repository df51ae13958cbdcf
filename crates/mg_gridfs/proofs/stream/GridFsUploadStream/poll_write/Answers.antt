use Rattle.mg_gridfs.specs.UploadView.{upload_of}
use Rattle.mg_gridfs.proofs.Answered.{write_caused}
use Rattle.mg_gridfs.proofs.Between.{write_between, write_leaves}
use Rattle.mg_gridfs.proofs.Checked.{checks_caused, landings_caused}
use Rattle.mg_gridfs.proofs.Passed.{write_passes}
use Rattle.mg_gridfs.proofs.Polled.{write_stores}
use Rattle.mg_gridfs.proofs.stream.GridFsUploadStream.poll_write.Goals as goal

pub any_write-requires-clause-held : goal.any_write-requires-clause-held
any_write-requires-clause-held g c = c.requires.held

pub any_write-requires-clause-sound : goal.any_write-requires-clause-sound
any_write-requires-clause-sound g c = c.requires.sound

pub returns-clause-keeps : goal.returns-clause-keeps
returns-clause-keeps g c = c.any_write.ensures.keeps

pub returns-clause-writes : goal.returns-clause-writes
returns-clause-writes g c = c.any_write.ensures.writes

pub returns-clause-sound : goal.returns-clause-sound
returns-clause-sound g c = let on = c.any_write.ensures.writes in record { between = write_between (g.L.Link.awaited c.args.link.now) (g.L.Link.awaited c.any_write.new.link) (g.L.Link.log c.args.link.now) (g.L.Link.log c.any_write.new.link) (g.L.Link.wire c.args.link.now) (upload_of c.args.self.now) (upload_of c.any_write.new.self) c.requires.sound.between (g.I.IdSource.ids c.args.ids.now) on.0 c.args.bytes.now c.any_write.result on.2; buffer = c.any_write.ensures.buffer }

pub returns-clause-leaves : goal.returns-clause-leaves
returns-clause-leaves g c = let on = c.any_write.ensures.writes in write_leaves (g.L.Link.awaited c.args.link.now) (g.L.Link.awaited c.any_write.new.link) (g.L.Link.log c.args.link.now) (g.L.Link.log c.any_write.new.link) (g.L.Link.wire c.args.link.now) (upload_of c.args.self.now) (upload_of c.any_write.new.self) c.requires.sound.between (g.I.IdSource.ids c.args.ids.now) on.0 c.args.bytes.now c.any_write.result on.2

pub returns-clause-caused : goal.returns-clause-caused
returns-clause-caused g c = let on = c.any_write.ensures.writes in write_caused checks_caused landings_caused (g.L.Link.awaited c.args.link.now) (g.L.Link.awaited c.any_write.new.link) (g.L.Link.log c.args.link.now) (g.L.Link.log c.any_write.new.link) (g.L.Link.wire c.args.link.now) (upload_of c.args.self.now) (upload_of c.any_write.new.self) c.requires.sound.between (g.I.IdSource.ids c.args.ids.now) on.0 c.args.bytes.now c.any_write.result on.2

pub returns-clause-stored : goal.returns-clause-stored
returns-clause-stored g c = λ at. let on = c.any_write.ensures.writes in write_stores (g.L.Link.awaited c.args.link.now) (g.L.Link.awaited c.any_write.new.link) (g.L.Link.log c.args.link.now) (g.L.Link.log c.any_write.new.link) (g.L.Link.wire c.args.link.now) at (upload_of c.args.self.now) (upload_of c.any_write.new.self) c.requires.sound.between (g.I.IdSource.ids c.args.ids.now) on.0 c.args.bytes.now c.any_write.result on.2

pub returns-clause-passes : goal.returns-clause-passes
returns-clause-passes g c = let on = c.any_write.ensures.writes in write_passes (g.L.Link.awaited c.args.link.now) (g.L.Link.awaited c.any_write.new.link) (g.L.Link.log c.args.link.now) (g.L.Link.log c.any_write.new.link) (g.L.Link.wire c.args.link.now) (upload_of c.args.self.now) (upload_of c.any_write.new.self) c.requires.sound.between (g.I.IdSource.ids c.args.ids.now) on.0 c.args.bytes.now c.any_write.result on.2
