use Rattle.std.proofs.Common.{◌+◌, refl, sym, ap, ◌∙◌}
use Rattle.mg_link.specs.Causes.{one_if}
use Rattle.mg_link.specs.Moment.{finished, moment}
use Rattle.mg_link.proofs.Moments.{keeps_on, keeps_same}
use Rattle.mg_cursor.specs.Client.{client_ticket}
use Rattle.mg_cursor.specs.Documents.{DocumentCursor}
use Rattle.mg_cursor.specs.Seeking.{times}
use Rattle.mg_cursor.specs.View.{document_cursor}
use Rattle.mg_cursor.proofs.Advancing.{advance_count}
use Rattle.mg_cursor.proofs.Hearing.{keeps_to}
use Rattle.mg_cursor.proofs.Keeping.{sound_in_any}
use Rattle.mg_cursor.proofs.Reading.{seeks_read}
use Rattle.mg_cursor.proofs.SeekCaused.{seeks_caused}
use Rattle.mg_cursor.proofs.Sought.{asked_on, count_falls, goes_on_by, keeps_ended, keeps_going, seeks_leave, seeks_sound, sought_end, sought_none, sought_step, stops, times_on}
use Rattle.mg_cursor.proofs.documents.Documents.poll_advance.Goals as goal

pub replies-init : goal.replies-init
replies-init g c =
    let link = c.args.link.now in
    let d = document_cursor c.args.self.now in
    record {
      keeps = keeps_same (moment (g.L.Link.awaited link) (g.L.Link.log link) (g.L.Link.faults link) (g.L.Link.pends link) (g.L.Link.wire link) (g.L.Link.prompt link)) (client_ticket d.cursor) finished c.requires refl tt tt;
      sought = (0, refl, sought_none (g.L.Link.awaited link) (g.L.Link.log link) (g.L.Link.wire link) (g.H.ClientSessionHandle.asked c.args.handle.now) d);
    }

pub try_advance-poll-requires : goal.try_advance-poll-requires
try_advance-poll-requires g c = c.replies.invariant.keeps.tickets.held

-- ---- an empty reply

pub replies-preserved : goal.replies-preserved
replies-preserved g c =
    let link = c.args.link.now in
    let mid = c.replies.link in
    let later = c.try_advance-poll.new.link in
    let d = document_cursor c.args.self.now in
    let before = document_cursor c.replies.self in
    let advanced = document_cursor c.try_advance-poll.new.self in
    let after = document_cursor c.goes_on.new.self in
    let poll = c.try_advance-poll.result in
    let on = goes_on_by poll advanced after c.goes_on.result c.if-not-goes_on.false c.goes_on.ensures in
    let so = c.replies.invariant in
    let tries = c.try_advance-poll.ensures.tries in
    let asked = g.H.ClientSessionHandle.asked in
    let told = g.H.ClientSessionHandle.told in
    let m = moment (g.L.Link.awaited link) (g.L.Link.log link) (g.L.Link.faults link) (g.L.Link.pends link) (g.L.Link.wire link) (g.L.Link.prompt link) in
    let n = moment (g.L.Link.awaited mid) (g.L.Link.log mid) (g.L.Link.faults mid) (g.L.Link.pends mid) (g.L.Link.wire mid) (g.L.Link.prompt mid) in
    let o = moment (g.L.Link.awaited later) (g.L.Link.log later) (g.L.Link.faults later) (g.L.Link.pends later) (g.L.Link.wire later) (g.L.Link.prompt later) in
    record {
      keeps = keeps_on m n o (client_ticket d.cursor) (client_ticket before.cursor) (client_ticket after.cursor) finished finished so.keeps so.keeps.pended
          (keeps_going n o (client_ticket before.cursor) poll advanced after on c.try_advance-poll.ensures.keeps);
      sought = (
        so.sought.0 + one_if tries.0,
        tries.2 ∙ ap (times (one_if tries.0) told) so.sought.1 ∙ times_on so.sought.0 (one_if tries.0) told c.args.handle.now,
        sought_step (g.L.Link.awaited link) (g.L.Link.awaited mid) (g.L.Link.awaited later) (g.L.Link.log link) (g.L.Link.log mid) (g.L.Link.log later) (g.L.Link.wire link) (g.L.Link.wire mid) so.keeps.later.wire
            (asked c.args.handle.now) (asked c.replies.handle) so.sought.0 tries.0 d before advanced poll (asked c.try_advance-poll.new.handle) after
            (ap asked tries.2 ∙ asked_on asked told g.met.H.ClientSessionHandle.moves tries.0 c.replies.handle) so.sought.2 tries.1 on,
      );
    }

pub replies-smaller : goal.replies-smaller
replies-smaller g c =
    let before = document_cursor c.replies.self in
    let advanced = document_cursor c.try_advance-poll.new.self in
    let after = document_cursor c.goes_on.new.self in
    let poll = c.try_advance-poll.result in
    let on = goes_on_by poll advanced after c.goes_on.result c.if-not-goes_on.false c.goes_on.ensures in
    let tries = c.try_advance-poll.ensures.tries in
    count_falls before advanced after
    (advance_count (g.L.Link.awaited c.replies.link) (g.L.Link.awaited c.try_advance-poll.new.link) (g.L.Link.log c.replies.link) (g.L.Link.log c.try_advance-poll.new.link) (g.L.Link.wire c.replies.link) (g.H.ClientSessionHandle.asked c.replies.handle) tries.0 before advanced poll tries.1) on.few on.counts

-- ---- the last advance

pub end-requires : goal.end-requires
end-requires g c = (stops c.try_advance-poll.result (document_cursor c.try_advance-poll.new.self) (document_cursor c.goes_on.new.self) c.goes_on.result c.if-not-goes_on.true c.goes_on.ensures).0

pub returns-then-not-goes_on-clause-keeps : goal.returns-then-not-goes_on-clause-keeps
returns-then-not-goes_on-clause-keeps g c =
    let link = c.args.link.now in
    let mid = c.replies.link in
    let later = c.try_advance-poll.new.link in
    let before = document_cursor c.replies.self in
    let advanced = document_cursor c.try_advance-poll.new.self in
    let after = document_cursor c.goes_on.new.self in
    let poll = c.try_advance-poll.result in
    let stop = stops poll advanced after c.goes_on.result c.if-not-goes_on.true c.goes_on.ensures in
    let so = c.replies.invariant in
    let m = moment (g.L.Link.awaited link) (g.L.Link.log link) (g.L.Link.faults link) (g.L.Link.pends link) (g.L.Link.wire link) (g.L.Link.prompt link) in
    let n = moment (g.L.Link.awaited mid) (g.L.Link.log mid) (g.L.Link.faults mid) (g.L.Link.pends mid) (g.L.Link.wire mid) (g.L.Link.prompt mid) in
    let o = moment (g.L.Link.awaited later) (g.L.Link.log later) (g.L.Link.faults later) (g.L.Link.pends later) (g.L.Link.wire later) (g.L.Link.prompt later) in
    keeps_on m n o (client_ticket (document_cursor c.args.self.now).cursor) (client_ticket before.cursor) (client_ticket (document_cursor c.end.new.self).cursor) finished _ so.keeps so.keeps.pended
    (keeps_ended n o (client_ticket before.cursor) poll after (document_cursor c.end.new.self) c.end.result c.end.ensures
    (keeps_to n o (client_ticket before.cursor) (client_ticket advanced.cursor) (client_ticket after.cursor) _ (ap (λ (d : DocumentCursor). client_ticket d.cursor) (sym stop.1)) c.try_advance-poll.ensures.keeps))

pub returns-then-not-goes_on-clause-seeks : goal.returns-then-not-goes_on-clause-seeks
returns-then-not-goes_on-clause-seeks g c =
    let link = c.args.link.now in
    let mid = c.replies.link in
    let later = c.try_advance-poll.new.link in
    let advanced = document_cursor c.try_advance-poll.new.self in
    let after = document_cursor c.goes_on.new.self in
    let poll = c.try_advance-poll.result in
    let stop = stops poll advanced after c.goes_on.result c.if-not-goes_on.true c.goes_on.ensures in
    let so = c.replies.invariant in
    let tries = c.try_advance-poll.ensures.tries in
    let asked = g.H.ClientSessionHandle.asked in
    let told = g.H.ClientSessionHandle.told in
    let sought =
    sought_end (g.L.Link.awaited link) (g.L.Link.awaited mid) (g.L.Link.awaited later) (g.L.Link.log link) (g.L.Link.log mid) (g.L.Link.log later) (g.L.Link.wire link) (g.L.Link.wire mid) so.keeps.later.wire
    (asked c.args.handle.now) (asked c.replies.handle) so.sought.0 tries.0 (document_cursor c.args.self.now) (document_cursor c.replies.self) advanced poll after (document_cursor c.end.new.self) c.end.result stop.1 so.sought.2 tries.1 c.end.ensures in
    (sought.0, so.sought.0 + one_if tries.0, sought.1, tries.2 ∙ ap (times (one_if tries.0) told) so.sought.1 ∙ times_on so.sought.0 (one_if tries.0) told c.args.handle.now)

pub returns-then-not-goes_on-clause-current : goal.returns-then-not-goes_on-clause-current
returns-then-not-goes_on-clause-current g c =
    let sought = returns-then-not-goes_on-clause-seeks g c in
    seeks_leave sought.0 (g.L.Link.awaited c.args.link.now) (g.L.Link.awaited c.try_advance-poll.new.link) (g.L.Link.log c.args.link.now) (g.L.Link.log c.try_advance-poll.new.link) (g.L.Link.wire c.args.link.now) (g.H.ClientSessionHandle.asked c.args.handle.now) sought.1 (document_cursor c.args.self.now) (document_cursor c.end.new.self) c.end.result sought.2

pub returns-then-not-goes_on-clause-sound : goal.returns-then-not-goes_on-clause-sound
returns-then-not-goes_on-clause-sound g c = λ plain sound plainly.
    let sought = returns-then-not-goes_on-clause-seeks g c in
    seeks_sound sought.0 plain (g.L.Link.awaited c.args.link.now) (g.L.Link.awaited c.try_advance-poll.new.link) (g.L.Link.log c.args.link.now) (g.L.Link.log c.try_advance-poll.new.link) (g.L.Link.wire c.args.link.now) (g.H.ClientSessionHandle.asked c.args.handle.now) sought.1 (document_cursor c.args.self.now) (document_cursor c.end.new.self) c.end.result sound plainly sought.2

pub returns-then-not-goes_on-clause-caused : goal.returns-then-not-goes_on-clause-caused
returns-then-not-goes_on-clause-caused g c = λ plain sound.
    let sought = returns-then-not-goes_on-clause-seeks g c in
    seeks_caused sought.0 (g.L.Link.awaited c.args.link.now) (g.L.Link.awaited c.try_advance-poll.new.link) (g.L.Link.log c.args.link.now) (g.L.Link.log c.try_advance-poll.new.link) (g.L.Link.wire c.args.link.now) (g.H.ClientSessionHandle.asked c.args.handle.now) sought.1 (document_cursor c.args.self.now) (document_cursor c.end.new.self) c.end.result
    (sound_in_any plain (document_cursor c.args.self.now).cursor sound) sought.2

pub returns-then-not-goes_on-clause-list : goal.returns-then-not-goes_on-clause-list
returns-then-not-goes_on-clause-list g c = λ plain sound named r.
    let sought = returns-then-not-goes_on-clause-seeks g c in
    seeks_read sought.0 plain (g.L.Link.awaited c.args.link.now) (g.L.Link.awaited c.try_advance-poll.new.link) (g.L.Link.log c.args.link.now) (g.L.Link.log c.try_advance-poll.new.link) (g.L.Link.wire c.args.link.now) (g.H.ClientSessionHandle.asked c.args.handle.now) sought.1 (document_cursor c.args.self.now) (document_cursor c.end.new.self) c.end.result sound named sought.2 r
