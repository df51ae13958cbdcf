use Rattle.std.proofs.Common.{◌≡◌, length, List, ℕ, Option, subst, sym, ◌∙◌}
use Rattle.std.specs.Vec.{with_items}
use Rattle.mg_link.specs.Acts.{Tickets}
use Rattle.mg_gridfs.specs.Downloaded.{ReadKnows}
use Rattle.mg_gridfs.specs.Downloads as downloads
use Rattle.mg_gridfs.specs.Downloads.{download_ticket}
use Rattle.mg_gridfs.specs.DownloadView.{download_of}
use Rattle.mg_gridfs.specs.declared.polls.ReadPoll.TheVariants as read
use Rattle.mg_players.specs.Gets.{sought}
use Rattle.mg_players.specs.declared.get.GetStage.TheVariants as gets
use Rattle.mg_script.specs.declared.outcome.Ended.TheVariants as ended
use Rattle.mg_players.proofs.Advancing.{get_fails_at, get_kept_at, get_rests, get_waits}
use Rattle.mg_players.proofs.GetRooms.{nothing_into, read_free, reads_into, room_fits, room_gives, room_holds, room_is, room_stays}
use Rattle.mg_players.proofs.GetTurning.{read_done, read_fails, read_waits}
use Rattle.mg_players.proofs.Losing.{keeps_lost}
use Rattle.mg_players.proofs.get.GetPlayer.read.Goals as goal

-- ---- what it keeps

pub returns-in-Pending-clause-holds : goal.returns-in-Pending-clause-holds
returns-in-Pending-clause-holds g c =
    let p = c.in-Pending.ensures in
    (p.sound, room_stays c.args.room c.deref_mut.result.now c.poll_read.new.room c.deref_mut.ensures.value p.same_room ∙ c.requires.holds.1, c.requires.holds.2)

pub keep-requires-clause-holds : goal.keep-requires-clause-holds
keep-requires-clause-holds g c =
    let p = c.in-Read.ensures in
    (p.sound, room_stays c.args.room c.deref_mut.result.now c.poll_read.new.room c.deref_mut.ensures.value p.same_room ∙ c.requires.holds.1, c.requires.holds.2)

pub keep-requires-clause-within : goal.keep-requires-clause-within
keep-requires-clause-within g c =
    let p = c.in-Read.ensures in
    room_holds c.args.room c.deref_mut.result.now c.poll_read.new.room c.deref_mut.ensures.value p.same_room c.in-Read.count p.within

pub keep-requires-clause-free : goal.keep-requires-clause-free
keep-requires-clause-free g c =
    let p = c.in-Read.ensures in
    read_free c.args.room c.deref_mut.result.now c.deref_mut.ensures.value c.args.self.now.what.read c.requires.holds.1 c.requires.holds.2 _ _ _ _ _ _ _ _ c.in-Read.count p.sound.between.sound p.reads.1

pub returns-in-Read-clause-tickets : goal.returns-in-Read-clause-tickets
returns-in-Read-clause-tickets g c =
    let p = c.in-Read.ensures in
    let none = read_free c.args.room c.deref_mut.result.now c.deref_mut.ensures.value c.args.self.now.what.read c.requires.holds.1 c.requires.holds.2 _ _ _ _ _ _ _ _ c.in-Read.count p.sound.between.sound p.reads.1 in
    subst (λ (h : Option ℕ). Tickets (g.L.Link.awaited c.args.link.now) (g.L.Link.awaited c.poll_read.new.link) (download_ticket (download_of c.args.download)) h) (none ∙ sym c.keep.ensures.ticket) p.keeps.tickets

-- ---- what it knows and tells

pub returns-in-Pending-clause-turned : goal.returns-in-Pending-clause-turned
returns-in-Pending-clause-turned g c =
    let p = c.in-Pending.ensures in
    let reads_so = reads_into c.args.room c.deref_mut.result.now c.deref_mut.ensures.value _ _ _ _ _ _ _ _ _ p.reads.1 in
    read_waits _ _ _ _ _ c.args.self.now c.args.download c.args.room c.requires.holds.0 c.requires.holds.2 c.requires.holds.1 c.poll_read.new.self (with_items c.args.room c.poll_read.new.room) p.reads.0 p.keeps.pended.0 p.sound reads_so p.caused (p.known _) (λ bad. let waits : downloads.reads p.leaves.0 p.leaves.1 p.leaves.2 ≡ downloads.spoiled = sym p.leaves.3 ∙ bad in cc)

pub returns-in-Read-clause-turned : goal.returns-in-Read-clause-turned
returns-in-Read-clause-turned g c =
    let p = c.in-Read.ensures in
    let reads_so = reads_into c.args.room c.deref_mut.result.now c.deref_mut.ensures.value _ _ _ _ _ _ _ _ _ p.reads.1 in
    let nothing = nothing_into c.args.room c.deref_mut.result.now c.deref_mut.ensures.value (download_of c.args.download) (download_of c.poll_read.new.self) (read.Read c.in-Read.count) p.nothing in
    let is = room_is c.args.room c.deref_mut.result.now c.poll_read.new.room c.deref_mut.ensures.value p.same_room in
    let knows =
    subst (λ (now : List ℕ). ReadKnows (g.L.Link.awaited c.args.link.now) (g.L.Link.awaited c.poll_read.new.link) (g.L.Link.log c.args.link.now) (g.L.Link.log c.poll_read.new.link) (sought c.args.self.now.what).at (download_of c.args.download) (download_of c.poll_read.new.self) now (read.Read c.in-Read.count)) (sym is) (p.known _) in
    read_done _ _ _ _ _ c.args.self.now c.keep.new.self c.keep.ensures.what c.args.download c.args.room c.requires.holds.0 c.requires.holds.2 c.requires.holds.1 c.poll_read.new.self (with_items c.args.room c.poll_read.new.room) p.sound p.reads.0 c.in-Read.count reads_so p.caused knows nothing _ (is ∙ p.reads.2) c.keep.result c.keep.ensures.kept c.keep.ensures.done

pub returns-in-Failed-clause-turned : goal.returns-in-Failed-clause-turned
returns-in-Failed-clause-turned g c =
    let p = c.in-Failed.ensures in
    let reads_so = reads_into c.args.room c.deref_mut.result.now c.deref_mut.ensures.value _ _ _ _ _ _ _ _ _ p.reads.1 in
    read_fails _ _ _ _ _ c.args.self.now c.args.download c.args.room c.requires.holds.0 c.requires.holds.2 c.requires.holds.1 (download_of c.poll_read.new.self) c.poll_read.new.room p.reads.0 c.in-Failed.error reads_so p.caused (p.known _)

-- ---- how far it comes

pub returns-in-Pending-clause-comes : goal.returns-in-Pending-clause-comes
returns-in-Pending-clause-comes g c =
    let job = c.args.self.now in
    let pended = c.in-Pending.ensures.keeps.pended in
    get_waits (g.L.Link.pends c.args.link.now) (g.L.Link.pends c.poll_read.new.link) (gets.Reads c.args.download c.args.room) (gets.Reads c.poll_read.new.self (with_items c.args.room c.poll_read.new.room)) (length job.bytes.items) job.done job.what.read pended.1 (λ k last at. (at.0, at.1, at.2, pended.0, at.4))

pub returns-in-Failed-clause-comes : goal.returns-in-Failed-clause-comes
returns-in-Failed-clause-comes g c =
    let job = c.args.self.now in
    get_rests (g.L.Link.pends c.args.link.now) (g.L.Link.pends c.poll_read.new.link) (gets.Reads c.args.download c.args.room) (gets.Ended (ended.Failed c.in-Failed.error)) (length job.bytes.items) job.done (length job.bytes.items) job.done job.what.read c.in-Failed.ensures.keeps.pended
    (λ k last at. get_fails_at (length job.bytes.items) job.done k job.what.read c.in-Failed.error at.0 at.2 at.4)

pub returns-in-Read-clause-comes : goal.returns-in-Read-clause-comes
returns-in-Read-clause-comes g c =
    let job = c.args.self.now in
    let after = c.keep.new.self in
    let k = c.keep.ensures in
    let p = c.in-Read.ensures in
    get_rests (g.L.Link.pends c.args.link.now) (g.L.Link.pends c.poll_read.new.link) (gets.Reads c.args.download c.args.room) c.keep.result (length job.bytes.items) job.done (length after.bytes.items) after.done job.what.read p.keeps.pended
    (λ m last at. get_kept_at c.poll_read.new.self (with_items c.args.room c.poll_read.new.room) c.in-Read.count job.bytes.items after.bytes.items c.keep.result job.done after.done m job.what.read k.kept (λ more. room_gives c.args.room c.deref_mut.result.now c.poll_read.new.room c.deref_mut.ensures.value p.same_room job.bytes.items c.in-Read.count p.within) k.ticket k.done at.0 at.1 at.2 (room_fits c.args.room c.deref_mut.result.now c.poll_read.new.room c.deref_mut.ensures.value p.same_room job.what.read c.in-Read.count c.requires.holds.1 p.within) at.4)

-- ---- what it says of lost replies

pub returns-in-Pending-clause-lost : goal.returns-in-Pending-clause-lost
returns-in-Pending-clause-lost g c = λ lost. absurd lost

pub returns-in-Read-clause-lost : goal.returns-in-Read-clause-lost
returns-in-Read-clause-lost g c = λ lost. absurd (keeps_lost c.poll_read.new.self (with_items c.args.room c.poll_read.new.room) c.in-Read.count c.args.self.now.bytes.items c.keep.new.self.bytes.items c.keep.result c.keep.ensures.kept lost)

pub returns-in-Failed-clause-lost : goal.returns-in-Failed-clause-lost
returns-in-Failed-clause-lost g c = λ lost. c.in-Failed.ensures.keeps.lost lost
