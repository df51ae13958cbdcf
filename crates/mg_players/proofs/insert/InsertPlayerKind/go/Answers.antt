use Rattle.std.proofs.Common.{refl}
use Rattle.mg_link.specs.Namespace.{space}
use Rattle.mg_players.proofs.InsertTelling.{turns_over}
use Rattle.mg_players.proofs.JobTelling.{insert_turn}
use Rattle.mg_players.proofs.Knowing.{turned_insert}
use Rattle.mg_players.proofs.Losing.{ending_lost}
use Rattle.mg_players.specs.Playing.{end_of}
use Rattle.mg_players.specs.Plays.{SentAt, no_move}
use Rattle.mg_players.proofs.insert.InsertPlayerKind.go.Goals as goal

pub returns-clause-goes : goal.returns-clause-goes
returns-clause-goes g c =
    let job = c.args.self in
    record {
      tickets = c.go.ensures.tickets;
      holds = tt;
      next = no_move;
      turned = turned_insert (g.L.Link.awaited c.args.link.now) (g.L.Link.awaited c.go.new.link) (g.L.Link.log c.args.link.now) (g.L.Link.log c.go.new.link) job (record job { stage = c.go.result }) c.go.ensures.plain;
      told = insert_turn (SentAt c.args._moment.millis) (g.L.Link.awaited c.args.link.now) (g.L.Link.awaited c.go.new.link) (g.L.Link.log c.args.link.now) (g.L.Link.log c.go.new.link) (g.L.Link.wire c.go.new.link) job (record job { stage = c.go.result }) refl
          (λ sent. turns_over _ _ _ _ _ _ (space job.ns.now) sent job.stage c.go.result c.go.ensures.later.wire (c.go.ensures.told (space job.ns.now) sent))
          (λ sent. c.go.ensures.sends (space job.ns.now) sent);
      task = refl;
      has = c.go.ensures.has;
    }

pub returns-clause-comes : goal.returns-clause-comes
returns-clause-comes g c = c.go.ensures.comes

pub returns-clause-lost : goal.returns-clause-lost
returns-clause-lost g c = ending_lost (g.L.Link.faults c.args.link.now) (g.L.Link.faults c.go.new.link) (g.L.Link.pends c.args.link.now) (g.L.Link.pends c.go.new.link) (end_of c.args.self.stage) (end_of c.go.result) c.go.ensures.lost
