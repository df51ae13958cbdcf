use Rattle.std.proofs.Common.{◌∙◌, ◌≡◌, ◌<◌, None, [], length, refl, sym, ap, subst, arith}
use Rattle.mg_link.specs.Acts.{IsOut}
use Rattle.mg_link.specs.Moment.{finished, moment}
use Rattle.mg_link.proofs.Moments.{keeps_same}
use Rattle.mg_cursor.specs.Client.{client_ticket}
use Rattle.mg_cursor.proofs.Hearing.{keeps_from, keeps_to}
use Rattle.mg_gridfs.specs.Downloads.{Doing, IsSoundDownload, SoundBy, download_ticket, ticket_by}
use Rattle.mg_gridfs.specs.DownloadView.{HoldsBytes, doing_of, download_of}
use Rattle.mg_gridfs.specs.Fetching.{ReadsAs, fetching_of}
use Rattle.mg_gridfs.specs.Reads.{IsOver, goes_on, is_over, no_room}
use Rattle.mg_gridfs.specs.declared.download.GridFsDownloadStream.{GridFsDownloadStream}
use Rattle.mg_gridfs.specs.declared.download.State.{State}
use Rattle.mg_gridfs.proofs.Sounding.{rest_ticket}
use Rattle.mg_gridfs.proofs.download.GridFsDownloadStream.read.Goals as goal

-- ---- into no room

pub returns-then-length-eq0-clause-keeps : goal.returns-then-length-eq0-clause-keeps
returns-then-length-eq0-clause-keeps g c = keeps_same (moment (g.L.Link.awaited c.args.link.now) (g.L.Link.log c.args.link.now) (g.L.Link.faults c.args.link.now) (g.L.Link.pends c.args.link.now) (g.L.Link.wire c.args.link.now) (g.L.Link.prompt c.args.link.now)) (download_ticket (download_of c.args.self.now)) finished c.requires.held refl tt tt

pub returns-then-length-eq0-clause-reads : goal.returns-then-length-eq0-clause-reads
returns-then-length-eq0-clause-reads g c =
    let none : length c.args.room.now ≡ 0 = omega (arith, c.if-length-eq0.true) in
    ([], no_room none (record { quiet = (record { rest = λ n. refl; log_same = refl }); same = refl; none_given = refl; answer = refl }), refl)

pub returns-then-length-eq0-clause-holds : goal.returns-then-length-eq0-clause-holds
returns-then-length-eq0-clause-holds g c = c.requires.sound.hand

-- ---- a new read

pub begin-requires-clause-sound : goal.begin-requires-clause-sound
begin-requires-clause-sound g c = subst (λ (x : Doing). IsSoundDownload (fetching_of c.args.self.now x)) (sym (ap doing_of c.in-Idle.ensures.value)) c.requires.sound.between.sound

pub begin-requires-clause-holds : goal.begin-requires-clause-holds
begin-requires-clause-holds g c = c.requires.sound.hand

pub begin-requires-clause-some : goal.begin-requires-clause-some
begin-requires-clause-some g c = omega (arith, c.if-length-eq0.false)

pub returns-in-Idle-clause-keeps : goal.returns-in-Idle-clause-keeps
returns-in-Idle-clause-keeps g c =
    let is = sym (ap doing_of c.in-Idle.ensures.value) in
    let by = subst (SoundBy (download_of c.args.self.now)) is c.requires.sound.between.sound.by in
    keeps_from _ _ None (download_ticket (download_of c.args.self.now)) _ _ (sym (ap ticket_by is ∙ rest_ticket c.in-Idle.cursor by.2)) c.begin.ensures.keeps

pub returns-in-Idle-clause-reads : goal.returns-in-Idle-clause-reads
returns-in-Idle-clause-reads g c = subst (λ (x : Doing). ReadsAs (g.L.Link.awaited c.args.link.now) (g.L.Link.awaited c.begin.new.link) (g.L.Link.log c.args.link.now) (g.L.Link.log c.begin.new.link) (g.L.Link.wire c.args.link.now) c.args.room.now c.begin.new.room (fetching_of c.args.self.now x) (download_of c.begin.new.self) c.begin.result) (ap doing_of c.in-Idle.ensures.value) c.begin.ensures.reads

pub returns-in-Idle-clause-holds : goal.returns-in-Idle-clause-holds
returns-in-Idle-clause-holds g c = c.begin.ensures.holds

-- ---- one that goes on

pub go_on-requires-clause-held : goal.go_on-requires-clause-held
go_on-requires-clause-held g c = subst (λ (x : Doing). IsOut (g.L.Link.awaited c.args.link.now) (ticket_by x)) (sym (ap doing_of c.in-Reading.ensures.value)) c.requires.held

pub go_on-requires-clause-sound : goal.go_on-requires-clause-sound
go_on-requires-clause-sound g c = subst (λ (x : Doing). IsSoundDownload (fetching_of c.args.self.now x)) (sym (ap doing_of c.in-Reading.ensures.value)) c.requires.sound.between.sound

pub go_on-requires-clause-holds : goal.go_on-requires-clause-holds
go_on-requires-clause-holds g c = c.requires.sound.hand

pub go_on-requires-clause-some : goal.go_on-requires-clause-some
go_on-requires-clause-some g c = omega (arith, c.if-length-eq0.false)

pub returns-in-Reading-clause-keeps : goal.returns-in-Reading-clause-keeps
returns-in-Reading-clause-keeps g c = keeps_from _ _ (client_ticket c.in-Reading.reading.cursor) (download_ticket (download_of c.args.self.now)) _ _ (ap (λ (s : State). ticket_by (doing_of s)) c.in-Reading.ensures.value) c.go_on.ensures.keeps

pub returns-in-Reading-clause-reads : goal.returns-in-Reading-clause-reads
returns-in-Reading-clause-reads g c =
    let some : 0 < length c.args.room.now = omega (arith, c.if-length-eq0.false) in
    let x = c.go_on.ensures.fills in
    subst (λ (x : Doing). ReadsAs (g.L.Link.awaited c.args.link.now) (g.L.Link.awaited c.go_on.new.link) (g.L.Link.log c.args.link.now) (g.L.Link.log c.go_on.new.link) (g.L.Link.wire c.args.link.now) c.args.room.now c.go_on.new.room (fetching_of c.args.self.now x) (download_of c.go_on.new.self) c.go_on.result) (ap doing_of c.in-Reading.ensures.value) (x.0, goes_on some c.in-Reading.reading.cursor c.in-Reading.reading.missing c.in-Reading.reading.empty refl x.1, x.2)

pub returns-in-Reading-clause-holds : goal.returns-in-Reading-clause-holds
returns-in-Reading-clause-holds g c = c.go_on.ensures.holds

-- ---- one that is over

pub returns-in-Ended-clause-keeps : goal.returns-in-Ended-clause-keeps
returns-in-Ended-clause-keeps g c =
    keeps_from _ _ None (download_ticket (download_of c.args.self.now)) _ _ (ap (λ (s : State). ticket_by (doing_of s)) c.in-Ended.ensures.value)
    (keeps_to _ _ None None (download_ticket (download_of c.enter.new.self)) _ (sym (ap (λ (s : GridFsDownloadStream). download_ticket (download_of s)) c.enter.ensures))
    (keeps_same (moment (g.L.Link.awaited c.args.link.now) (g.L.Link.log c.args.link.now) (g.L.Link.faults c.args.link.now) (g.L.Link.pends c.args.link.now) (g.L.Link.wire c.args.link.now) (g.L.Link.prompt c.args.link.now)) None finished (λ n e. cc) refl tt tt))

pub returns-in-Ended-clause-reads : goal.returns-in-Ended-clause-reads
returns-in-Ended-clause-reads g c =
    let some : 0 < length c.args.room.now = omega (arith, c.if-length-eq0.false) in
    let is = ap doing_of c.in-Ended.ensures.value in
    ([], is_over some (subst IsOver is tt) (record { quiet = (record { rest = λ n. refl; log_same = refl }); same = ap download_of c.enter.ensures ∙ ap (fetching_of c.args.self.now) is; none_given = refl; answer = refl }), refl)

pub returns-in-Ended-clause-holds : goal.returns-in-Ended-clause-holds
returns-in-Ended-clause-holds g c = subst (λ (s : GridFsDownloadStream). HoldsBytes s.hand) (sym c.enter.ensures) c.requires.sound.hand

pub returns-in-Failed-clause-keeps : goal.returns-in-Failed-clause-keeps
returns-in-Failed-clause-keeps g c =
    keeps_from _ _ None (download_ticket (download_of c.args.self.now)) _ _ (ap (λ (s : State). ticket_by (doing_of s)) c.in-Failed.ensures.value)
    (keeps_to _ _ None None (download_ticket (fetching_of c.args.self.now (doing_of c.replace.new.dest))) _ (sym (ap (λ (s : State). ticket_by (doing_of s)) c.replace.ensures.after))
    (keeps_same (moment (g.L.Link.awaited c.args.link.now) (g.L.Link.log c.args.link.now) (g.L.Link.faults c.args.link.now) (g.L.Link.pends c.args.link.now) (g.L.Link.wire c.args.link.now) (g.L.Link.prompt c.args.link.now)) None finished (λ n e. cc) refl tt tt))

pub returns-in-Failed-clause-reads : goal.returns-in-Failed-clause-reads
returns-in-Failed-clause-reads g c =
    let some : 0 < length c.args.room.now = omega (arith, c.if-length-eq0.false) in
    let is = ap doing_of c.in-Failed.ensures.value in
    ([], is_over some (subst IsOver is tt) (record { quiet = (record { rest = λ n. refl; log_same = refl }); same = ap (λ (s : State). fetching_of c.args.self.now (doing_of s)) c.replace.ensures.after ∙ ap (fetching_of c.args.self.now) is; none_given = refl; answer = refl }), refl)

pub returns-in-Failed-clause-holds : goal.returns-in-Failed-clause-holds
returns-in-Failed-clause-holds g c = c.requires.sound.hand
