use Rattle.std.proofs.Common.{◌≡◌, ℕ, ℤ, List, Option, Bool, map, string_bytes, ap, ap₂, ◌∙◌, subst, to_z, of_z, w32}
use Rattle.std.proofs.lemmas.Int.{to_z-of_z}
use Rattle.mg_server.specs.Rules.{refusal}
use Rattle.mg_server.specs.Step.{ends_cursor}
use Rattle.mg_server.specs.Kept.{IsReply}
use Rattle.mg_store.specs.Contents.{closing}
use Rattle.mg_store.proofs.Keeping.{may_by_choice}
use Rattle.mg_store.proofs.Performing.{performed}
use Rattle.mg_store.proofs.store.Store.refuse_with.Goals as goal

pub keep-requires : goal.keep-requires
keep-requires c =
    let back : to_z w32 (of_z w32 c.args.code) ≡ c.args.code = to_z-of_z w32 c.args.code c.ranges.code in
    let written = c.in_ok-reply.ensures in
    let labels : List (List ℕ) = map string_bytes c.args.labels.now in
    let reply : IsReply (refusal c.args.code labels) c.in_ok-reply.field-0.reply =
    subst (λ (x : ℤ). IsReply (refusal x labels) c.in_ok-reply.field-0.reply) back (record { encoded = written.reply.these; read_back = written.reply.read_back }) in
    may_by_choice c.args.self.now.history c.args.command.now (record { reply = c.in_ok-reply.field-0.reply; effect = c.closing-effect.result }) c.args.code labels reply
    (c.closing-effect.ensures ∙ ap₂ (λ (b : Bool) (o : Option ℤ). closing b o) (c.ends_cursor.ensures ∙ ap ends_cursor back) c.continued_cursor.ensures)

pub returns-clause-performed : goal.returns-clause-performed
returns-clause-performed c =
    let back : to_z w32 (of_z w32 c.args.code) ≡ c.args.code = to_z-of_z w32 c.args.code c.ranges.code in
    let written = c.in_ok-reply.ensures in
    let labels : List (List ℕ) = map string_bytes c.args.labels.now in
    let reply : IsReply (refusal c.args.code labels) c.in_ok-reply.field-0.reply =
    subst (λ (x : ℤ). IsReply (refusal x labels) c.in_ok-reply.field-0.reply) back (record { encoded = written.reply.these; read_back = written.reply.read_back }) in
    performed (λ _. refusal c.args.code labels) c.args.self.now c.keep.new.self c.args.command.now c.in_ok-reply.field-0.reply c.keep.result reply c.keep.ensures.step c.keep.ensures.reply
