use Rattle.std.proofs.Common.{◌≡◌, ℕ, ◌<◌, ◌^◌, List, length, map, ap, ◌∙◌, subst, arith}
use Rattle.std.proofs.lemmas.Result.{err_from_is_err_and}
use Rattle.std.specs.Option.{option_copied}
use denote.Ref.{Bor}
use Rattle.mg_link.specs.Namespace.{space}
use Rattle.mg_server.specs.Rules.{deleted_reply}
use Rattle.mg_query.specs.Asking.{held}
use Rattle.mg_query.specs.Querying.{lent}
use Rattle.mg_store.specs.Contents.{collection_at}
use Rattle.mg_store.specs.Rewriting.{Removes}
use Rattle.mg_store.proofs.Holdings.{distinct_there, delete_settles, delete_stops, keeps_there}
use Rattle.mg_store.proofs.Maps.{found_at}
use Rattle.mg_store.proofs.content.Content.answer_delete.Goals as goal

pub returns-in_err-removals : goal.returns-in_err-removals
returns-in_err-removals c s given cs h keys =
    let p = err_from_is_err_and c.from_residual-in_err-removals.result c.from_residual-in_err-removals.ensures.1 in
    let found : option_copied c.get.result ≡ collection_at c.args.self.now.collections (space c.args.ns) = c.get.ensures.value ∙ found_at c.args.ns c.args.self.now.collections in
    let there = keeps_there c.args.self.now s given (space c.args.ns) c.get.result h found in
    let place : c.len-entries.result ≡ length c.args.self.now.changes.items = omega (arith, c.len-entries.ensures, c.args.self.now.changes.ok.0) in
    rw (p.1, p.2) (delete_stops c.args.self.now s given (space c.args.ns) cs (map held c.args.conditions.now.items) c.args.many c.get.result c.in_ok-these.these.items c.as_slice.result.now c.len-entries.result c.in_err-removals.field-0.0 h found keys (c.in_ok-these.ensures there)
    c.as_slice.ensures.value place c.in_err-removals.ensures)

pub returns : goal.returns
returns c s given cs h keys =
    let found : option_copied c.get.result ≡ collection_at c.args.self.now.collections (space c.args.ns) = c.get.ensures.value ∙ found_at c.args.ns c.args.self.now.collections in
    let there = keeps_there c.args.self.now s given (space c.args.ns) c.get.result h found in
    let place : c.len-entries.result ≡ length c.args.self.now.changes.items = omega (arith, c.len-entries.ensures, c.args.self.now.changes.ok.0) in
    let got = subst (λ (n : ℕ). Removes n (space c.args.ns) (lent c.in_ok-these.these.items) c.in_ok-removals.removals) place
    (subst (λ (l : List (Bor (List ℕ))). Removes c.len-entries.result (space c.args.ns) (lent l) c.in_ok-removals.removals) c.as_slice.ensures.value c.in_ok-removals.ensures) in
    let count : c.len-n.result ≡ length c.in_ok-these.these.items = omega (arith, c.len-n.ensures, c.in_ok-these.these.ok.0) in
    let small : c.len-n.result < 2 ^ 63 = omega (arith, c.len-n.ensures, c.in_ok-these.these.small) in
    delete_settles c.args.self.now s given c.args.ns cs (map held c.args.conditions.now.items) c.args.many c.get.result c.in_ok-these.these.items c.in_ok-removals.removals c.in_ok-document.document c.answered.result h found keys
    (c.in_ok-these.ensures there) (distinct_there c.get.result there) got (c.in_ok-document.ensures small ∙ ap deleted_reply count) c.answered.ensures
