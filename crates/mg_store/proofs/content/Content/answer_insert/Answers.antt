use Rattle.std.proofs.Common.{◌≡◌, ℕ, ◌<◌, ◌^◌, pos, length, ap₂, refl, ◌∙◌, subst, arith}
use Rattle.std.specs.Option.{option_copied}
use Rattle.mg_bson.specs.Tree.{Items, int32}
use Rattle.mg_bson.specs.Raw.{items}
use Rattle.mg_bson.specs.Literal.{◌⇒◌⨾◌, empty}
use Rattle.mg_link.specs.Namespace.{space}
use Rattle.mg_server.specs.Rules.{errors_field, inserting, number_of}
use Rattle.mg_query.specs.Asking.{documents_among}
use Rattle.mg_query.specs.Numbering.{there}
use Rattle.mg_store.specs.Contents.{collection_at}
use Rattle.mg_store.specs.Inserting.{Appends}
use Rattle.mg_store.proofs.Holdings.{insert_settles, keeps_there}
use Rattle.mg_store.proofs.Maps.{found_at}
use Rattle.mg_store.proofs.content.Content.answer_insert.Goals as goal

pub returns : goal.returns
returns c s given h =
    let found : option_copied c.get-collection.result ≡ collection_at c.args.self.now.collections (space c.args.ns) = c.get-collection.ensures.value ∙ found_at c.args.ns c.args.self.now.collections in
    let keeps = keeps_there c.args.self.now s given (space c.args.ns) c.get-collection.result h found in
    let place : c.len-entries.result ≡ length c.args.self.now.changes.items = omega (arith, c.len-entries.ensures, c.args.self.now.changes.ok.0) in
    let count : c.len.result ≡ length c.in_ok-appended.appended.documents.items = omega (arith, c.len.ensures, c.in_ok-appended.appended.documents.ok.0) in
    let got = subst (λ (n : ℕ). Appends (there c.get-collection.result) n (inserting (space c.args.ns) c.args.ordered 0 n (there c.get-collection.result) (documents_among (items c.args.documents.now))) c.in_ok-appended.appended) place (c.in_ok-appended.ensures keeps) in
    let small : c.len.result < 2 ^ 63 = omega (arith, c.len.ensures, c.in_ok-appended.appended.documents.small) in
    insert_settles c.args.self.now s given c.args.ns (documents_among (items c.args.documents.now)) c.args.ordered c.get-collection.result c.in_ok-appended.appended _ c.in_ok-document.document c.answered.result h found got refl refl refl
    (c.in_ok-document.ensures small ∙ ap₂ (λ (n : ℕ) (e : Items). "n" ⇒ number_of n ⨾ errors_field e ("ok" ⇒ int32 (pos 1) ⨾ empty)) count c.replace-errors.ensures.value) c.answered.ensures
