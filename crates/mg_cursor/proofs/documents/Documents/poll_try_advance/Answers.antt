use Rattle.std.proofs.Common.{sym, ap, ◌∙◌, subst}
use Rattle.mg_cursor.specs.Client.{IsSound, client_ticket}
use Rattle.mg_cursor.specs.Documents.{DocumentCursor}
use Rattle.mg_cursor.specs.View.{document_cursor}
use Rattle.mg_cursor.proofs.Hearing.{keeps_to}
use Rattle.mg_cursor.proofs.Keeping.{sound_in_any}
use Rattle.mg_cursor.proofs.Reading.{tries_read}
use Rattle.mg_cursor.proofs.SeekCaused.{tries_caused}
use Rattle.mg_cursor.proofs.Sought.{kept_cursor, tries_leave}
use Rattle.mg_cursor.proofs.documents.Documents.poll_try_advance.Goals as goal

pub try_advance-poll-requires : goal.try_advance-poll-requires
try_advance-poll-requires g c = c.requires

pub returns-clause-keeps : goal.returns-clause-keeps
returns-clause-keeps g c =
    let advanced = document_cursor c.try_advance-poll.new.self in
    keeps_to _ _ _ (client_ticket advanced.cursor) _ _
    (sym (ap (λ (d : DocumentCursor). client_ticket d.cursor) c.leave.ensures ∙ ap client_ticket (kept_cursor c.try_advance-poll.result advanced))) c.try_advance-poll.ensures.keeps

pub returns-clause-tries : goal.returns-clause-tries
returns-clause-tries g c = (
  c.try_advance-poll.ensures.tries.0,
  record { advanced = document_cursor c.try_advance-poll.new.self; tries = c.try_advance-poll.ensures.tries.1; kept = c.leave.ensures },
  c.try_advance-poll.ensures.tries.2,
)

pub returns-clause-current : goal.returns-clause-current
returns-clause-current g c =
    let tried = returns-clause-tries g c in
    tries_leave (g.L.Link.awaited c.args.link.now) (g.L.Link.awaited c.try_advance-poll.new.link) (g.L.Link.log c.args.link.now) (g.L.Link.log c.try_advance-poll.new.link) (g.L.Link.wire c.args.link.now) (g.H.ClientSessionHandle.asked c.args.handle.now) tried.0 (document_cursor c.args.self.now) (document_cursor c.leave.new.self) c.try_advance-poll.result tried.1

pub returns-clause-sound : goal.returns-clause-sound
returns-clause-sound g c = λ plain sound plainly.
    subst (IsSound plain) (sym (ap (λ (d : DocumentCursor). d.cursor) c.leave.ensures ∙ kept_cursor c.try_advance-poll.result (document_cursor c.try_advance-poll.new.self)))
    (c.try_advance-poll.ensures.sound plain sound plainly)

pub returns-clause-caused : goal.returns-clause-caused
returns-clause-caused g c = λ plain sound.
    let tried = returns-clause-tries g c in
    tries_caused (g.L.Link.awaited c.args.link.now) (g.L.Link.awaited c.try_advance-poll.new.link) (g.L.Link.log c.args.link.now) (g.L.Link.log c.try_advance-poll.new.link) (g.L.Link.wire c.args.link.now) (g.H.ClientSessionHandle.asked c.args.handle.now) tried.0 (document_cursor c.args.self.now) (document_cursor c.leave.new.self) c.try_advance-poll.result
    (sound_in_any plain (document_cursor c.args.self.now).cursor sound) tried.1

pub returns-clause-list : goal.returns-clause-list
returns-clause-list g c = λ plain sound named r.
    let tried = returns-clause-tries g c in
    tries_read plain (g.L.Link.awaited c.args.link.now) (g.L.Link.awaited c.try_advance-poll.new.link) (g.L.Link.log c.args.link.now) (g.L.Link.log c.try_advance-poll.new.link) (g.L.Link.wire c.args.link.now) (g.H.ClientSessionHandle.asked c.args.handle.now) tried.0 (document_cursor c.args.self.now) (document_cursor c.leave.new.self) c.try_advance-poll.result sound named tried.1 r
