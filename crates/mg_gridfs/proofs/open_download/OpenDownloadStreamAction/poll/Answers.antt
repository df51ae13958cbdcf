use Rattle.mg_cursor.proofs.Killing.{at_once_step, lost_step, pended_step}
use Rattle.mg_gridfs.specs.DownloadView.{finding_of, opened_as, ticket_in}
use Rattle.mg_gridfs.proofs.Opened.{opening_caused}
use Rattle.mg_gridfs.proofs.OpeningKnown.{opening_known}
use Rattle.mg_gridfs.proofs.open_download.OpenDownloadStreamAction.poll.Goals as goal

pub go_on-requires : goal.go_on-requires
go_on-requires g c = c.requires

-- ---- the clauses of an action

pub returns-clause-tickets : goal.returns-clause-tickets
returns-clause-tickets g c = c.go_on.ensures.keeps.tickets

pub returns-clause-pended : goal.returns-clause-pended
returns-clause-pended g c = pended_step ticket_in c.go_on.result _ _ c.go_on.ensures.keeps.pended

pub returns-clause-lost : goal.returns-clause-lost
returns-clause-lost g c = lost_step c.go_on.result _ _ c.go_on.ensures.keeps.lost

pub returns-clause-prompt : goal.returns-clause-prompt
returns-clause-prompt g c = λ prompt. at_once_step c.go_on.result (c.go_on.ensures.keeps.prompt prompt)

pub returns-clause-later : goal.returns-clause-later
returns-clause-later g c = c.go_on.ensures.keeps.later

-- ---- what it did

pub returns-clause-opens : goal.returns-clause-opens
returns-clause-opens g c = c.go_on.ensures.opens

pub returns-clause-same : goal.returns-clause-same
returns-clause-same g c = c.go_on.ensures.same

pub returns-clause-sound : goal.returns-clause-sound
returns-clause-sound g c = c.go_on.ensures.sound

pub returns-clause-caused : goal.returns-clause-caused
returns-clause-caused g c = λ sound. opening_caused (g.L.Link.awaited c.args.link.now) (g.L.Link.awaited c.go_on.new.link) (g.L.Link.log c.args.link.now) (g.L.Link.log c.go_on.new.link) (g.L.Link.wire c.args.link.now) (finding_of c.args.self) (opened_as c.go_on.result) sound c.go_on.ensures.opens

pub returns-clause-known : goal.returns-clause-known
returns-clause-known g c = λ sound at. opening_known (g.L.Link.awaited c.args.link.now) (g.L.Link.awaited c.go_on.new.link) (g.L.Link.log c.args.link.now) (g.L.Link.log c.go_on.new.link) (g.L.Link.wire c.args.link.now) at (finding_of c.args.self) (opened_as c.go_on.result) sound c.go_on.ensures.opens
