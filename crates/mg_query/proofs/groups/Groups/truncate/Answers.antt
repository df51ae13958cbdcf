use Rattle.std.proofs.Common.{refl, rules}
use Rattle.std.specs.Prelude.{nat_lt}
use Rattle.std.proofs.lemmas.Fn.{filter_same}
use Rattle.mg_query.specs.declared.groups.Groups.{Groups}
use Rattle.mg_query.proofs.Grouping.{Member, cut_keeps}
use Rattle.mg_query.proofs.groups.Groups.truncate.Goals as goal

pub returns : goal.returns
returns c =
    let left : Groups = record { numbers = c.retain.new.self; is_whole = c.args.self.now.is_whole } in
    cut_keeps c.args.self.now left c.args.number (filter_same _ (λ (p : Member). nat_lt p.1 c.args.number) _ (λ x b f' t. search rules) c.args.self.now.numbers.keys c.retain.new.self.keys c.retain.ensures.filtered) refl
