use Rattle.std.proofs.Common.{◌∙◌, ℕ, length, sym, ap, subst}
use Rattle.mg_script.specs.Plan.{pieces}
use Rattle.mg_players.specs.Drawing.{supply_from}
use Rattle.mg_players.specs.Headline.{put_task}
use Rattle.mg_players.specs.Progress.{PutReady}
use Rattle.mg_players.specs.Puts.{PutStageHolds, writes}
use Rattle.mg_players.specs.Telling.{PutTells, put_number}
use Rattle.mg_players.specs.declared.put.Written.{Written}
use Rattle.mg_players.proofs.Losing.{drew_lost}
use Rattle.mg_players.proofs.PutReady.{drew_at, drew_holds, drew_knows, drew_number, drew_tells, drew_ticket}
use Rattle.mg_players.proofs.put.PutPlayerKind.ready.Goals as goal

pub returns-clause-got : goal.returns-clause-got
returns-clause-got g c =
    let ids = g.I.IdSource.ids c.args.ids.now in
    let old = c.args.self.now in
    let new = c.draw_ids.new.self in
    let t = writes old.what in
    let drew = c.draw_ids.ensures.drew in
    let same = c.draw_ids.ensures.same in
    record {
      ticket = drew_ticket ids t old.stage new.stage drew;
      holds = λ wire holds.
          subst (λ (w : Written). PutStageHolds new.stage new.done (length (pieces w.pieces.now))) (sym same.0)
          (subst (λ (d : ℕ). PutStageHolds new.stage d (length t.pieces)) (sym same.1) (drew_holds ids t old.stage new.stage old.done (length t.pieces) drew holds));
      knows = λ awaited calls o at plays. drew_knows ids t awaited calls old.stage new.stage o drew plays;
      task = ap (λ (w : Written). put_task (record old { what = w })) same.0;
      at = λ calls k last at.
          subst (λ (w : Written). PutReady calls new.stage new.done (length w.pieces.now) k last) (sym same.0)
          (subst (λ (d : ℕ). PutReady calls new.stage d (length old.what.pieces.now) k last) (sym same.1) (drew_at ids t calls old.stage new.stage old.done (length old.what.pieces.now) k last drew at));
      tells = record {
        number_same = ap (λ (d : ℕ). put_number d new.stage) same.1 ∙ drew_number ids t old.stage new.stage old.done drew;
        tells = λ awaited calls wire q supply n at may told.
            subst (λ (w : Written). PutTells awaited calls wire q (supply_from supply n) (writes w) new.done new.stage) (sym same.0)
            (subst (λ (d : ℕ). PutTells awaited calls wire q (supply_from supply n) t d new.stage) (sym same.1) (drew_tells ids t awaited calls wire q (supply_from supply n) old.done old.stage new.stage may drew told));
      };
      has = same.2;
      lost_same = drew_lost ids t old.stage new.stage drew;
    }
