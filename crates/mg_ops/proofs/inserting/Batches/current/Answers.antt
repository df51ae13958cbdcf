use Rattle.std.proofs.Common.{◌≡◌, None, subst}
use Rattle.std.specs.Prelude.{IfSome}
use Rattle.mg_link.specs.Exec.{ticket_of}
use Rattle.mg_ops.specs.InsertCauses.{IsBuilt}
use Rattle.mg_ops.specs.Underway.{IsNextOf}
use Rattle.mg_ops.proofs.InsertCauses.{next_built, next_stopped}
use Rattle.mg_ops.proofs.InsertSends.{next_once}
use Rattle.mg_ops.proofs.Sendings.{next_none, next_some}
use Rattle.mg_ops.proofs.inserting.Batches.current.Goals as goal

pub returns-in-Ok-Some-clause-sends : goal.returns-in-Ok-Some-clause-sends
returns-in-Ok-Some-clause-sends c =
    let is_next = subst (λ o. IsNextOf c.args.self.now c.next.new.self o) c.in-Ok-Some.field-0-is c.in-Ok-Some.ensures.next in
    let unsent = subst (λ o. IfSome o (λ command. ticket_of command.exec ≡ None)) c.in-Ok-Some.field-0-is c.in-Ok-Some.ensures.unsent in
    rw c.in_default.is (next_some c.args.self.now c.next.new.self c.in-Ok-Some.command c.in-Ok-Some.ensures.same unsent is_next)

pub returns-in-Ok-None-clause-sends : goal.returns-in-Ok-None-clause-sends
returns-in-Ok-None-clause-sends c = rw c.in_default.is (next_none c.args.self.now c.next.new.self c.in-Ok-None.ensures.same (subst (λ o. IsNextOf c.args.self.now c.next.new.self o) c.in-Ok-None.field-0-is c.in-Ok-None.ensures.next))

pub returns-in-Err-clause-caused : goal.returns-in-Err-clause-caused
returns-in-Err-clause-caused c = rw c.in_default.is (next_stopped c.args.self.now c.next.new.self c.in-Err.error c.in-Err.ensures.fails)

pub returns-in-Ok-Some-clause-caused : goal.returns-in-Ok-Some-clause-caused
returns-in-Ok-Some-clause-caused c =
    let built = subst (λ o. IfSome o (λ command. IsBuilt c.args.self.now c.next.new.self.upto command)) c.in-Ok-Some.field-0-is c.in-Ok-Some.ensures.built in
    rw c.in_default.is (next_built c.args.self.now c.next.new.self c.in-Ok-Some.command c.in-Ok-Some.ensures.same built)

pub returns-in-Ok-Some-clause-once : goal.returns-in-Ok-Some-clause-once
returns-in-Ok-Some-clause-once c =
    next_once c.args.self.now c.next.new.self c.args.waiting c.in-Ok-Some.command c.in_default.is
    (subst (λ o. IfSome o (λ command. IsBuilt c.args.self.now c.next.new.self.upto command)) c.in-Ok-Some.field-0-is c.in-Ok-Some.ensures.built)

pub returns-in-Ok-None-clause-once : goal.returns-in-Ok-None-clause-once
returns-in-Ok-None-clause-once c = subst (λ o. IsNextOf c.args.self.now c.next.new.self o) c.in-Ok-None.field-0-is c.in-Ok-None.ensures.next
