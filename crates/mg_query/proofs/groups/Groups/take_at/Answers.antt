use Rattle.std.proofs.Common.{refl}
use Rattle.mg_query.specs.declared.groups.Groups.{Groups}
use Rattle.mg_query.proofs.Grouping.{take_keeps}
use Rattle.mg_query.proofs.groups.Groups.take_at.Goals as goal

pub returns : goal.returns
returns c =
    let left : Groups = record { numbers = c.remove-taken.new.self; is_whole = c.args.self.now.is_whole } in
    take_keeps c.args.self.now left c.in-Some.key c.args.number c.remove-taken.ensures.keys refl
