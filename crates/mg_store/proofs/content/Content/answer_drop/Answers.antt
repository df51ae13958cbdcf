use Rattle.std.proofs.Common.{◌≡◌, ℕ, arith, length, true, false, is_some, ap, sym, ◌∙◌, subst}
use Rattle.mg_link.specs.Namespace.{Space, space}
use Rattle.mg_server.specs.Rules.{dropped_entries}
use Rattle.mg_store.specs.Contents.{collection_at}
use Rattle.mg_store.specs.Holding.{entries_from}
use Rattle.mg_store.proofs.Holdings.{drop_settles, drop_refused}
use Rattle.mg_store.proofs.Maps.{found_at}
use Rattle.mg_store.proofs.content.Content.answer_drop.Goals as goal

pub returns-then-not-contains_key : goal.returns-then-not-contains_key
returns-then-not-contains_key c s given h =
    let none : is_some (collection_at c.args.self.now.collections (space c.args.ns)) ≡ false = sym (ap is_some (found_at c.args.ns c.args.self.now.collections)) ∙ sym c.contains_key.ensures ∙ c.if-not-contains_key.true in
    (drop_refused c.args.self.now s given (space c.args.ns) h none, tt)

pub returns : goal.returns
returns c s given h =
    let there : is_some (collection_at c.args.self.now.collections (space c.args.ns)) ≡ true = sym (ap is_some (found_at c.args.ns c.args.self.now.collections)) ∙ sym c.contains_key.ensures ∙ c.if-not-contains_key.false in
    let sp : Space = space c.args.ns in
    let place : c.len.result ≡ length c.args.self.now.changes.items = omega (arith, c.len.ensures, c.args.self.now.changes.ok.0) in
    drop_settles c.args.self.now s given c.args.ns c.in_ok-entries.entries c.in_ok-document.document c.answered.result h there
    (subst (λ (n : ℕ). entries_from n c.in_ok-entries.entries.items ≡ dropped_entries n sp) place c.in_ok-entries.ensures.these) c.in_ok-entries.ensures.exact c.in_ok-document.ensures c.answered.ensures
