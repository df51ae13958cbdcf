use Rattle.std.proofs.Common.{◌≡◌, ◌+◌, suc, length, subst, arith}
use Rattle.mg_bson.specs.Raw.{fields}
use Rattle.mg_link.specs.Namespace.{space}
use Rattle.mg_query.specs.Modifying.{lent_modification, Alters}
use Rattle.mg_store.proofs.Rewriting.{makes_by, makes_same}
use Rattle.mg_store.proofs.rewrite.Changes.take.Goals as goal

pub returns-in-Some : goal.returns-in-Some
returns-in-Some c olds =
    let place : c.args.entries + c.len.result + 1 ≡ suc (c.args.entries + length c.args.self.now.entries.items) = omega (arith, c.len.ensures) in
    let alters = subst (Alters (lent_modification c.args.modification.now) (fields c.args.document.now)) c.in-Some.is c.in_ok-altered.ensures in
    makes_by c.args.entries (c.args.entries + c.len.result + 1) (space c.args.ns.now) (lent_modification c.args.modification.now) olds (fields c.args.document.now) c.args.self.now c.change.new.self c.change.result place alters.differs (c.change.ensures alters)

pub returns-in-None : goal.returns-in-None
returns-in-None c olds h =
    makes_same c.args.entries (space c.args.ns.now) (lent_modification c.args.modification.now) olds (fields c.args.document.now) c.args.self.now (subst (Alters (lent_modification c.args.modification.now) (fields c.args.document.now)) c.in-None.is c.in_ok-altered.ensures) h
