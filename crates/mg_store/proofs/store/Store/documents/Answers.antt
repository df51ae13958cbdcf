use Rattle.std.proofs.Common.{None, Some, map, ap, ◌∙◌}
use Rattle.std.proofs.lemmas.Result.{IfOk-weaker}
use Rattle.mg_bson.specs.Bytes.{bytes}
use Rattle.mg_bson.specs.Raw.{fields}
use Rattle.mg_link.specs.Namespace.{space}
use Rattle.mg_server.specs.Step.{documents_of}
use Rattle.mg_server.specs.Kept.{state_of_kept}
use Rattle.mg_query.proofs.Numbers.{lent_fields}
use Rattle.mg_store.specs.Stored.{Stored, steps_of}
use Rattle.mg_store.proofs.Keeping.{documents_exact, documents_shown}
use Rattle.mg_store.proofs.Maps.{found_at}
use Rattle.mg_store.proofs.store.Store.documents.Goals as goal

pub returns-in-Some-clause-shown : goal.returns-in-Some-clause-shown
returns-in-Some-clause-shown c =
    IfOk-weaker c.lent.result _ _
    (λ ds e. lent_fields ds.items
    ∙ ap (map fields) e
    ∙ documents_shown c.self.inside.content (steps_of c.self.inside.history.items) (space c.args.ns.now) (Some c.in-Some.collection.now) c.self.invariant (c.in-Some.ensures.value ∙ found_at c.args.ns.now c.self.inside.content.collections)
    ∙ ap (λ (s : Stored). documents_of (state_of_kept s.history) (space c.args.ns.now)) c.self.view_is)
    c.lent.ensures

pub returns-in-Some-clause-encoded : goal.returns-in-Some-clause-encoded
returns-in-Some-clause-encoded c =
    IfOk-weaker c.lent.result _ _
    (λ ds e. e
    ∙ documents_exact c.self.inside.content (steps_of c.self.inside.history.items) (space c.args.ns.now) (Some c.in-Some.collection.now) c.self.invariant (c.in-Some.ensures.value ∙ found_at c.args.ns.now c.self.inside.content.collections)
    ∙ ap (λ (s : Stored). map bytes (documents_of (state_of_kept s.history) (space c.args.ns.now))) c.self.view_is)
    c.lent.ensures

pub returns-in-None-clause-shown : goal.returns-in-None-clause-shown
returns-in-None-clause-shown c =
    ap (map _) c.new.ensures.items
    ∙ documents_shown c.self.inside.content (steps_of c.self.inside.history.items) (space c.args.ns.now) None c.self.invariant (c.in-None.ensures.value ∙ found_at c.args.ns.now c.self.inside.content.collections)
    ∙ ap (λ (s : Stored). documents_of (state_of_kept s.history) (space c.args.ns.now)) c.self.view_is

pub returns-in-None-clause-encoded : goal.returns-in-None-clause-encoded
returns-in-None-clause-encoded c =
    ap (map _) c.new.ensures.items
    ∙ documents_exact c.self.inside.content (steps_of c.self.inside.history.items) (space c.args.ns.now) None c.self.invariant (c.in-None.ensures.value ∙ found_at c.args.ns.now c.self.inside.content.collections)
    ∙ ap (λ (s : Stored). map bytes (documents_of (state_of_kept s.history) (space c.args.ns.now))) c.self.view_is
