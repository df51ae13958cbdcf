use Rattle.std.proofs.Common.{◌≡◌, Some, None, length, refl, sym, ◌∙◌}
use Rattle.std.proofs.lemmas.Bool.{iff_false}
use Rattle.mg_link.specs.Moment.{finished, moment}
use Rattle.mg_link.proofs.Moments.{keeps_same}
use Rattle.mg_cursor.specs.Client.{client_ticket}
use Rattle.mg_cursor.proofs.Hearing.{keeps_from, keeps_to}
use Rattle.mg_gridfs.specs.Downloads.{idle}
use Rattle.mg_gridfs.specs.DownloadView.{download_of}
use Rattle.mg_gridfs.specs.Fetching.{fetching_of}
use Rattle.mg_gridfs.specs.Reads.{begins, in_hand}
use Rattle.mg_gridfs.proofs.Sounding.{begin_sound, rest_ticket, rests_ticket}
use Rattle.mg_gridfs.proofs.Turned.{gives_at, gives_keep}
use Rattle.mg_gridfs.proofs.download.GridFsDownloadStream.begin.Goals as goal

pub is_empty-requires : goal.is_empty-requires
is_empty-requires g c = c.requires.holds

-- ---- bytes are in hand

pub give-requires : goal.give-requires
give-requires g c = c.requires.holds

pub returns-then-not-is_empty-clause-keeps : goal.returns-then-not-is_empty-clause-keeps
returns-then-not-is_empty-clause-keeps g c =
    let rests = c.requires.sound.by.3 (iff_false c.is_empty.ensures c.if-not-is_empty.true) in
    let x = c.give.ensures.gives in
    gives_keep _ _ None (length c.args.room.now) c.args.cursor (download_of c.args.self.now) (download_of c.give.new.self) x.0 c.give.result rests x.1
    (keeps_to _ _ None None (client_ticket c.args.cursor) finished (sym (rests_ticket c.args.cursor rests))
    (keeps_same (moment (g.L.Link.awaited c.args.link.now) (g.L.Link.log c.args.link.now) (g.L.Link.faults c.args.link.now) (g.L.Link.pends c.args.link.now) (g.L.Link.wire c.args.link.now) (g.L.Link.prompt c.args.link.now)) None finished (λ n e. cc) refl tt tt))

pub returns-then-not-is_empty-clause-reads : goal.returns-then-not-is_empty-clause-reads
returns-then-not-is_empty-clause-reads g c =
    let x = c.give.ensures.gives in
    (x.0, in_hand c.requires.some c.args.cursor refl (iff_false c.is_empty.ensures c.if-not-is_empty.true) (record { rest = λ n. refl; log_same = refl }) (gives_at (length c.args.room.now) c.args.cursor (download_of c.args.self.now) (download_of c.give.new.self) (idle c.args.cursor) x.0 c.give.result x.1), x.2)

pub returns-then-not-is_empty-clause-holds : goal.returns-then-not-is_empty-clause-holds
returns-then-not-is_empty-clause-holds g c = c.give.ensures.holds

-- ---- or none

pub go_on-requires-clause-held : goal.go_on-requires-clause-held
go_on-requires-clause-held g c = λ n e. let bad : None ≡ Some n = sym (rest_ticket c.args.cursor c.requires.sound.by.2) ∙ e in absurd cc

pub go_on-requires-clause-sound : goal.go_on-requires-clause-sound
go_on-requires-clause-sound g c = begin_sound (fetching_of c.args.self.now (idle c.args.cursor)) c.args.cursor (length c.args.room.now) refl c.requires.some c.requires.sound

pub go_on-requires-clause-holds : goal.go_on-requires-clause-holds
go_on-requires-clause-holds g c = c.requires.holds

pub go_on-requires-clause-some : goal.go_on-requires-clause-some
go_on-requires-clause-some g c = c.requires.some

pub returns-clause-keeps : goal.returns-clause-keeps
returns-clause-keeps g c = keeps_from _ _ (client_ticket c.args.cursor) None _ _ (rest_ticket c.args.cursor c.requires.sound.by.2) c.go_on.ensures.keeps

pub returns-clause-reads : goal.returns-clause-reads
returns-clause-reads g c =
    let x = c.go_on.ensures.fills in
    (x.0, begins c.requires.some c.args.cursor refl (c.is_empty.ensures.0 c.if-not-is_empty.false) x.1, x.2)

pub returns-clause-holds : goal.returns-clause-holds
returns-clause-holds g c = c.go_on.ensures.holds
