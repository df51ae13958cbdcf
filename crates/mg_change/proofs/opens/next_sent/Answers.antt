use mir.Val.{SFits}
use Rattle.std.proofs.Common.{rules, to_z, of_z, w32}
use Rattle.std.specs.Prelude.{option_copied}
use Rattle.std.proofs.lemmas.Int.{to_z-of_z}
use Rattle.mg_change.proofs.Seen.{none_before, sent_again, sent_new, unsent_why}
use Rattle.mg_change.proofs.opens.next_sent.Goals as goal

pub returns-in-Some-clause-ok : goal.returns-in-Some-clause-ok
returns-in-Some-clause-ok c = sent_again c.args.aggregate.now c.args.wire (option_copied c.args.session) c.args.exec c.in-Some.exec c.in-Some.is

pub returns-in-None-clause-ok : goal.returns-in-None-clause-ok
returns-in-None-clause-ok c =
    let fits : SFits w32 c.args.wire = search rules in
    sent_new c.args.aggregate.now c.args.wire (to_z w32 (of_z w32 c.args.wire)) (option_copied c.args.session) c.args.exec c.resume.result (to_z-of_z w32 c.args.wire fits) c.in-None.is c.resume.ensures.built

pub returns-in-None-clause-none : goal.returns-in-None-clause-none
returns-in-None-clause-none c = none_before c.args.exec c.resume.result c.in-None.is

pub returns-in-None-clause-err : goal.returns-in-None-clause-err
returns-in-None-clause-err c =
    let fits : SFits w32 c.args.wire = search rules in
    unsent_why c.args.aggregate.now c.args.wire (to_z w32 (of_z w32 c.args.wire)) (option_copied c.args.session) c.resume.result (to_z-of_z w32 c.args.wire fits) c.resume.ensures.fails
