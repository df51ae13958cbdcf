use Rattle.std.proofs.Common.{◌≡◌, [], true, false, is_some, ap, sym, ◌∙◌}
use Rattle.mg_link.specs.Namespace.{space}
use Rattle.mg_store.specs.Contents.{collection_at}
use Rattle.mg_store.proofs.Holdings.{create_settles, create_refused}
use Rattle.mg_store.proofs.Maps.{found_at}
use Rattle.mg_store.proofs.content.Content.answer_create.Goals as goal

pub returns-then-contains_key : goal.returns-then-contains_key
returns-then-contains_key c s given h =
    let some : is_some (collection_at c.args.self.now.collections (space c.args.ns)) ≡ true = sym (ap is_some (found_at c.args.ns c.args.self.now.collections)) ∙ sym c.contains_key.ensures ∙ c.if-contains_key.true in
    (create_refused c.args.self.now s given (space c.args.ns) h some, tt)

pub returns : goal.returns
returns c s given h =
    let none : is_some (collection_at c.args.self.now.collections (space c.args.ns)) ≡ false = sym (ap is_some (found_at c.args.ns c.args.self.now.collections)) ∙ sym c.contains_key.ensures ∙ c.if-contains_key.false in
    let e = c.new-appended.ensures in
    create_settles c.args.self.now s given c.args.ns c.new-appended.result c.in_ok-document.document c.answered.result h none e.none e.no_entries (e.fits []) c.in_ok-document.ensures c.answered.ensures
