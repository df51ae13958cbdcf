use Rattle.std.proofs.Common.{ap, subst, sym}
use Rattle.mg_players.proofs.Advancing.{same_came}
use Rattle.mg_players.proofs.Apart.{on_err}
use Rattle.mg_players.proofs.JobTelling.{follow_teller}
use Rattle.mg_players.proofs.Knowing.{same_knows}
use Rattle.mg_players.proofs.Losing.{ready_lost}
use Rattle.mg_players.specs.Headline.{follow_task}
use Rattle.mg_players.specs.Playing.{StageHolds, stage_ticket}
use Rattle.mg_players.specs.Plays.{AnySent}
use Rattle.mg_players.proofs.follow.FollowPlayerKind.ready.Goals as goal

pub returns-clause-got : goal.returns-clause-got
returns-clause-got g c =
    let same = c.make_room.ensures.same in
    record {
      ticket = ap stage_ticket same.stage_same;
      holds = λ wire holds. subst StageHolds (sym same.stage_same) holds;
      knows = same_knows c.args.self.now c.make_room.new.self same;
      task = ap follow_task same.watched_same;
      at = same_came c.args.self.now c.make_room.new.self same;
      tells = follow_teller AnySent c.args.self.now c.make_room.new.self same;
      has = λ has. has;
      lost_same = ready_lost c.args.self.now c.make_room.new.self same;
    }

pub returns-clause-same : goal.returns-clause-same
returns-clause-same g c = on_err c.make_room.result c.make_room.ensures.same
