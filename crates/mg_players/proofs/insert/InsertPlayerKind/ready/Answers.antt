use Rattle.mg_link.specs.Namespace.{space}
use Rattle.mg_players.proofs.JobTelling.{insert_teller}
use Rattle.mg_players.proofs.Knowing.{same_insert}
use Rattle.mg_players.proofs.Losing.{drew_insert}
use Rattle.mg_players.proofs.insert.InsertPlayerKind.ready.Goals as goal

pub returns-clause-got : goal.returns-clause-got
returns-clause-got g c =
    let got = c.draw_ids.ensures in
    record {
      ticket = got.ticket;
      holds = λ wire holds. holds;
      knows = λ awaited calls o at plays. (plays.0, got.plain plays.1);
      task = same_insert c.args.self.now c.draw_ids.new.self got.same.0 got.same.1;
      at = λ calls k last at. got.at k last at;
      tells = insert_teller (g.I.IdSource.ids c.args.ids.now) c.args.self.now c.draw_ids.new.self got.same got.tells;
      has = got.same.2;
      lost_same = drew_insert (g.I.IdSource.ids c.args.ids.now) (space c.args.self.now.ns.now) c.args.self.now.documents.now c.args.self.now.stage c.draw_ids.new.self.stage got.tells;
    }
