use Rattle.std.proofs.Common.{refl}
use Rattle.mg_cursor.specs.Reading.{reader_of}
use Rattle.mg_cursor.specs.View.{document_cursor}
use Rattle.mg_cursor.specs.declared.polls.AdvancePoll.TheVariants as advance
use Rattle.mg_cursor.specs.declared.polls.ItemPoll.TheVariants as item
use Rattle.mg_cursor.proofs.Reading.{item_read}
use Rattle.mg_cursor.proofs.SeekCaused.{item_caused}
use Rattle.mg_cursor.proofs.Sought.{copies_ready, item_leaves, keeps_copied}
use Rattle.mg_cursor.proofs.documents.Documents.poll_next.Goals as goal

pub poll_advance-requires : goal.poll_advance-requires
poll_advance-requires g c = c.requires

pub returns-in-Pending-clause-keeps : goal.returns-in-Pending-clause-keeps
returns-in-Pending-clause-keeps g c = keeps_copied _ _ _ _ advance.Pending (document_cursor c.poll_advance.new.self) item.Pending refl c.in-Pending.ensures.keeps

pub returns-in-Pending-clause-seeks : goal.returns-in-Pending-clause-seeks
returns-in-Pending-clause-seeks g c =
    let sought = c.in-Pending.ensures.seeks in
    (sought.0, sought.1, record { poll = advance.Pending; seeks = sought.2; copies = refl }, sought.3)

pub returns-in-Pending-clause-current : goal.returns-in-Pending-clause-current
returns-in-Pending-clause-current g c = item_leaves advance.Pending (document_cursor c.poll_advance.new.self) item.Pending c.in-Pending.ensures.current refl

pub returns-in-Pending-clause-sound : goal.returns-in-Pending-clause-sound
returns-in-Pending-clause-sound g c = c.in-Pending.ensures.sound

pub returns-in-Pending-clause-caused : goal.returns-in-Pending-clause-caused
returns-in-Pending-clause-caused g c = λ plain sound.
    item_caused (g.L.Link.awaited c.args.link.now) (g.L.Link.awaited c.poll_advance.new.link) (g.L.Link.log c.args.link.now) (g.L.Link.log c.poll_advance.new.link) (g.L.Link.wire c.args.link.now) (g.H.ClientSessionHandle.asked c.args.handle.now) (document_cursor c.args.self.now) (document_cursor c.poll_advance.new.self) advance.Pending item.Pending refl (c.in-Pending.ensures.caused plain sound)

pub returns-in-Pending-clause-list : goal.returns-in-Pending-clause-list
returns-in-Pending-clause-list g c = λ plain sound named r.
    item_read (g.L.Link.awaited c.poll_advance.new.link) (g.L.Link.log c.args.link.now) (g.L.Link.log c.poll_advance.new.link) (reader_of (g.L.Link.awaited c.args.link.now) (document_cursor c.args.self.now) r) (document_cursor c.poll_advance.new.self) advance.Pending item.Pending r c.in-Pending.ensures.current refl (c.in-Pending.ensures.list plain sound named r)

pub returns-in-Ready-clause-keeps : goal.returns-in-Ready-clause-keeps
returns-in-Ready-clause-keeps g c = keeps_copied _ _ _ _ (advance.Ready c.in-Ready._there) (document_cursor c.poll_advance.new.self) c.item.result (copies_ready c.in-Ready._there (document_cursor c.poll_advance.new.self) c.item.result c.in-Ready.ensures.current c.item.ensures) c.in-Ready.ensures.keeps

pub returns-in-Ready-clause-seeks : goal.returns-in-Ready-clause-seeks
returns-in-Ready-clause-seeks g c =
    let sought = c.in-Ready.ensures.seeks in
    (sought.0, sought.1, record { poll = advance.Ready c.in-Ready._there; seeks = sought.2; copies = copies_ready c.in-Ready._there (document_cursor c.poll_advance.new.self) c.item.result c.in-Ready.ensures.current c.item.ensures }, sought.3)

pub returns-in-Ready-clause-current : goal.returns-in-Ready-clause-current
returns-in-Ready-clause-current g c = item_leaves (advance.Ready c.in-Ready._there) (document_cursor c.poll_advance.new.self) c.item.result c.in-Ready.ensures.current (copies_ready c.in-Ready._there (document_cursor c.poll_advance.new.self) c.item.result c.in-Ready.ensures.current c.item.ensures)

pub returns-in-Ready-clause-sound : goal.returns-in-Ready-clause-sound
returns-in-Ready-clause-sound g c = c.in-Ready.ensures.sound

pub returns-in-Ready-clause-caused : goal.returns-in-Ready-clause-caused
returns-in-Ready-clause-caused g c = λ plain sound.
    item_caused (g.L.Link.awaited c.args.link.now) (g.L.Link.awaited c.poll_advance.new.link) (g.L.Link.log c.args.link.now) (g.L.Link.log c.poll_advance.new.link) (g.L.Link.wire c.args.link.now) (g.H.ClientSessionHandle.asked c.args.handle.now) (document_cursor c.args.self.now) (document_cursor c.poll_advance.new.self) (advance.Ready c.in-Ready._there) c.item.result (copies_ready c.in-Ready._there (document_cursor c.poll_advance.new.self) c.item.result c.in-Ready.ensures.current c.item.ensures) (c.in-Ready.ensures.caused plain sound)

pub returns-in-Ready-clause-list : goal.returns-in-Ready-clause-list
returns-in-Ready-clause-list g c = λ plain sound named r.
    item_read (g.L.Link.awaited c.poll_advance.new.link) (g.L.Link.log c.args.link.now) (g.L.Link.log c.poll_advance.new.link) (reader_of (g.L.Link.awaited c.args.link.now) (document_cursor c.args.self.now) r) (document_cursor c.poll_advance.new.self) (advance.Ready c.in-Ready._there) c.item.result r c.in-Ready.ensures.current (copies_ready c.in-Ready._there (document_cursor c.poll_advance.new.self) c.item.result c.in-Ready.ensures.current c.item.ensures) (c.in-Ready.ensures.list plain sound named r)

pub returns-in-Failed-clause-keeps : goal.returns-in-Failed-clause-keeps
returns-in-Failed-clause-keeps g c = keeps_copied _ _ _ _ (advance.Failed c.in-Failed.error) (document_cursor c.poll_advance.new.self) (item.Failed c.in-Failed.error) refl c.in-Failed.ensures.keeps

pub returns-in-Failed-clause-seeks : goal.returns-in-Failed-clause-seeks
returns-in-Failed-clause-seeks g c =
    let sought = c.in-Failed.ensures.seeks in
    (sought.0, sought.1, record { poll = advance.Failed c.in-Failed.error; seeks = sought.2; copies = refl }, sought.3)

pub returns-in-Failed-clause-current : goal.returns-in-Failed-clause-current
returns-in-Failed-clause-current g c = item_leaves (advance.Failed c.in-Failed.error) (document_cursor c.poll_advance.new.self) (item.Failed c.in-Failed.error) c.in-Failed.ensures.current refl

pub returns-in-Failed-clause-sound : goal.returns-in-Failed-clause-sound
returns-in-Failed-clause-sound g c = c.in-Failed.ensures.sound

pub returns-in-Failed-clause-caused : goal.returns-in-Failed-clause-caused
returns-in-Failed-clause-caused g c = λ plain sound.
    item_caused (g.L.Link.awaited c.args.link.now) (g.L.Link.awaited c.poll_advance.new.link) (g.L.Link.log c.args.link.now) (g.L.Link.log c.poll_advance.new.link) (g.L.Link.wire c.args.link.now) (g.H.ClientSessionHandle.asked c.args.handle.now) (document_cursor c.args.self.now) (document_cursor c.poll_advance.new.self) (advance.Failed c.in-Failed.error) (item.Failed c.in-Failed.error) refl (c.in-Failed.ensures.caused plain sound)

pub returns-in-Failed-clause-list : goal.returns-in-Failed-clause-list
returns-in-Failed-clause-list g c = λ plain sound named r.
    item_read (g.L.Link.awaited c.poll_advance.new.link) (g.L.Link.log c.args.link.now) (g.L.Link.log c.poll_advance.new.link) (reader_of (g.L.Link.awaited c.args.link.now) (document_cursor c.args.self.now) r) (document_cursor c.poll_advance.new.self) (advance.Failed c.in-Failed.error) (item.Failed c.in-Failed.error) r c.in-Failed.ensures.current refl (c.in-Failed.ensures.list plain sound named r)
