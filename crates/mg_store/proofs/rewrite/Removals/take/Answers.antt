use Rattle.std.proofs.Common.{◌≡◌, ◌+◌, Ok, Err, suc, length, subst, arith}
use Rattle.std.proofs.lemmas.Result.{err_from_is_err_and}
use Rattle.mg_bson.specs.Tree.{Fields}
use Rattle.mg_bson.specs.Raw.{fields}
use Rattle.mg_link.specs.Namespace.{space}
use Rattle.mg_store.specs.Rewriting.{GivesEvent}
use Rattle.mg_store.proofs.Rewriting.{removes_more, removes_stop}
use Rattle.mg_store.proofs.rewrite.Removals.take.Goals as goal

pub returns-in_err-entry : goal.returns-in_err-entry
returns-in_err-entry c olds =
    let p = err_from_is_err_and c.from_residual-in_err-entry.result c.from_residual-in_err-entry.ensures.1 in
    let place : c.args.entries + c.len.result + 1 ≡ suc (c.args.entries + length c.args.self.now.entries.items) = omega (arith, c.len.ensures) in
    let event = c.in_ok-event.ensures (fields c.args.document.now) c.in_ok-id.ensures in
    rw (p.1, p.2) (removes_stop c.args.entries (c.args.entries + c.len.result + 1) (space c.args.ns.now) olds (fields c.args.document.now) c.args.self.now c.args.self.now c.in_err-entry.field-0.0 place
    (subst (λ (e : Fields). GivesEvent (space c.args.ns.now) e (Err c.in_err-entry.field-0.0)) event c.in_err-entry.ensures))

pub returns : goal.returns
returns c olds h =
    let place : c.args.entries + c.len.result + 1 ≡ suc (c.args.entries + length c.args.self.now.entries.items) = omega (arith, c.len.ensures) in
    let event = c.in_ok-event.ensures (fields c.args.document.now) c.in_ok-id.ensures in
    removes_more c.args.entries (c.args.entries + c.len.result + 1) (space c.args.ns.now) olds (fields c.args.document.now) c.in_ok-key.key c.in_ok-entry.entry c.args.self.now c.add.new.self place c.in_ok-key.ensures (subst (λ (e : Fields). GivesEvent (space c.args.ns.now) e (Ok c.in_ok-entry.entry)) event c.in_ok-entry.ensures)
    c.in_ok-add.ensures.ids c.in_ok-add.ensures.entries h
