use Rattle.std.proofs.Common.{refl}
use Rattle.mg_query.specs.declared.groups.Groups.{Groups}
use Rattle.mg_query.proofs.Grouping.{put_keeps, put_stands}
use Rattle.mg_query.proofs.groups.Groups.put_at.Goals as goal

pub returns-clause-ok : goal.returns-clause-ok
returns-clause-ok c =
    let more : Groups = record { numbers = c.insert.new.self; is_whole = c.args.self.now.is_whole } in
    rw c.in-Some.is (put_stands c.args.self.now more c.in-Some.key c.args.number c.in_ok-insert.ensures.keys)

pub returns-clause-kept : goal.returns-clause-kept
returns-clause-kept c =
    let more : Groups = record { numbers = c.insert.new.self; is_whole = c.args.self.now.is_whole } in
    put_keeps c.args.self.now more c.in-Some.key c.args.number c.in_ok-insert.ensures.keys refl
