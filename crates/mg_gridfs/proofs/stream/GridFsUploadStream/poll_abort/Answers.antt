use Rattle.mg_gridfs.specs.UploadView.{upload_of}
use Rattle.mg_gridfs.proofs.Answered.{abort_caused}
use Rattle.mg_gridfs.proofs.Between.{abort_between, abort_leaves}
use Rattle.mg_gridfs.proofs.Checked.{checks_caused, landings_caused}
use Rattle.mg_gridfs.proofs.Passed.{abort_passes}
use Rattle.mg_gridfs.proofs.Polled.{abort_stores}
use Rattle.mg_gridfs.proofs.stream.GridFsUploadStream.poll_abort.Goals as goal

pub any_abort-requires-clause-held : goal.any_abort-requires-clause-held
any_abort-requires-clause-held g c = c.requires.held

pub any_abort-requires-clause-sound : goal.any_abort-requires-clause-sound
any_abort-requires-clause-sound g c = c.requires.sound

pub returns-clause-keeps : goal.returns-clause-keeps
returns-clause-keeps g c = c.any_abort.ensures.keeps

pub returns-clause-aborts : goal.returns-clause-aborts
returns-clause-aborts g c = c.any_abort.ensures.aborts

pub returns-clause-sound : goal.returns-clause-sound
returns-clause-sound g c = record { between = abort_between (g.L.Link.awaited c.args.link.now) (g.L.Link.awaited c.any_abort.new.link) (g.L.Link.log c.args.link.now) (g.L.Link.log c.any_abort.new.link) (g.L.Link.wire c.args.link.now) (upload_of c.args.self.now) (upload_of c.any_abort.new.self) c.requires.sound.between c.any_abort.result c.any_abort.ensures.aborts; buffer = c.any_abort.ensures.buffer }

pub returns-clause-leaves : goal.returns-clause-leaves
returns-clause-leaves g c = abort_leaves (g.L.Link.awaited c.args.link.now) (g.L.Link.awaited c.any_abort.new.link) (g.L.Link.log c.args.link.now) (g.L.Link.log c.any_abort.new.link) (g.L.Link.wire c.args.link.now) (upload_of c.args.self.now) (upload_of c.any_abort.new.self) c.requires.sound.between c.any_abort.result c.any_abort.ensures.aborts

pub returns-clause-caused : goal.returns-clause-caused
returns-clause-caused g c = abort_caused checks_caused landings_caused (g.L.Link.awaited c.args.link.now) (g.L.Link.awaited c.any_abort.new.link) (g.L.Link.log c.args.link.now) (g.L.Link.log c.any_abort.new.link) (g.L.Link.wire c.args.link.now) (upload_of c.args.self.now) (upload_of c.any_abort.new.self) c.requires.sound.between c.any_abort.result c.any_abort.ensures.aborts

pub returns-clause-stored : goal.returns-clause-stored
returns-clause-stored g c = λ at. abort_stores (g.L.Link.awaited c.args.link.now) (g.L.Link.awaited c.any_abort.new.link) (g.L.Link.log c.args.link.now) (g.L.Link.log c.any_abort.new.link) (g.L.Link.wire c.args.link.now) at (upload_of c.args.self.now) (upload_of c.any_abort.new.self) c.requires.sound.between c.any_abort.result c.any_abort.ensures.aborts

pub returns-clause-passes : goal.returns-clause-passes
returns-clause-passes g c = abort_passes (g.L.Link.awaited c.args.link.now) (g.L.Link.awaited c.any_abort.new.link) (g.L.Link.log c.args.link.now) (g.L.Link.log c.any_abort.new.link) (g.L.Link.wire c.args.link.now) (upload_of c.args.self.now) (upload_of c.any_abort.new.self) c.requires.sound.between c.any_abort.result c.any_abort.ensures.aborts
