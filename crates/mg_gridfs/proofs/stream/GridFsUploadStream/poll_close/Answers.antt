use Rattle.mg_gridfs.specs.UploadView.{upload_of}
use Rattle.mg_gridfs.proofs.Answered.{close_caused}
use Rattle.mg_gridfs.proofs.Between.{close_between, close_leaves}
use Rattle.mg_gridfs.proofs.Checked.{checks_caused, landings_caused}
use Rattle.mg_gridfs.proofs.Passed.{close_passes}
use Rattle.mg_gridfs.proofs.Polled.{close_stores}
use Rattle.mg_gridfs.proofs.stream.GridFsUploadStream.poll_close.Goals as goal

pub any_close-requires-clause-held : goal.any_close-requires-clause-held
any_close-requires-clause-held g c = c.requires.held

pub any_close-requires-clause-sound : goal.any_close-requires-clause-sound
any_close-requires-clause-sound g c = c.requires.sound

pub returns-clause-keeps : goal.returns-clause-keeps
returns-clause-keeps g c = c.any_close.ensures.keeps

pub returns-clause-closes : goal.returns-clause-closes
returns-clause-closes g c = c.any_close.ensures.closes

pub returns-clause-sound : goal.returns-clause-sound
returns-clause-sound g c = let on = c.any_close.ensures.closes in record { between = close_between (g.L.Link.awaited c.args.link.now) (g.L.Link.awaited c.any_close.new.link) (g.L.Link.log c.args.link.now) (g.L.Link.log c.any_close.new.link) (g.L.Link.wire c.args.link.now) (upload_of c.args.self.now) (upload_of c.any_close.new.self) c.requires.sound.between (g.I.IdSource.ids c.args.ids.now) on.0 c.args.time.millis c.any_close.result on.2; buffer = c.any_close.ensures.buffer }

pub returns-clause-leaves : goal.returns-clause-leaves
returns-clause-leaves g c = let on = c.any_close.ensures.closes in close_leaves (g.L.Link.awaited c.args.link.now) (g.L.Link.awaited c.any_close.new.link) (g.L.Link.log c.args.link.now) (g.L.Link.log c.any_close.new.link) (g.L.Link.wire c.args.link.now) (upload_of c.args.self.now) (upload_of c.any_close.new.self) c.requires.sound.between (g.I.IdSource.ids c.args.ids.now) on.0 c.args.time.millis c.any_close.result on.2

pub returns-clause-caused : goal.returns-clause-caused
returns-clause-caused g c = let on = c.any_close.ensures.closes in close_caused checks_caused landings_caused (g.L.Link.awaited c.args.link.now) (g.L.Link.awaited c.any_close.new.link) (g.L.Link.log c.args.link.now) (g.L.Link.log c.any_close.new.link) (g.L.Link.wire c.args.link.now) (upload_of c.args.self.now) (upload_of c.any_close.new.self) c.requires.sound.between (g.I.IdSource.ids c.args.ids.now) on.0 c.args.time.millis c.any_close.result on.2

pub returns-clause-stored : goal.returns-clause-stored
returns-clause-stored g c = λ at. let on = c.any_close.ensures.closes in close_stores (g.L.Link.awaited c.args.link.now) (g.L.Link.awaited c.any_close.new.link) (g.L.Link.log c.args.link.now) (g.L.Link.log c.any_close.new.link) (g.L.Link.wire c.args.link.now) at (upload_of c.args.self.now) (upload_of c.any_close.new.self) c.requires.sound.between (g.I.IdSource.ids c.args.ids.now) on.0 c.args.time.millis c.any_close.result on.2

pub returns-clause-passes : goal.returns-clause-passes
returns-clause-passes g c = let on = c.any_close.ensures.closes in close_passes (g.L.Link.awaited c.args.link.now) (g.L.Link.awaited c.any_close.new.link) (g.L.Link.log c.args.link.now) (g.L.Link.log c.any_close.new.link) (g.L.Link.wire c.args.link.now) (upload_of c.args.self.now) (upload_of c.any_close.new.self) c.requires.sound.between (g.I.IdSource.ids c.args.ids.now) on.0 c.args.time.millis c.any_close.result on.2
