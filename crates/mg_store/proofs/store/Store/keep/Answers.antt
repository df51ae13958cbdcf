use Rattle.std.proofs.Common.{◌≡◌, ℕ, ◌<◌, ◌^◌, List, [], ◌∷◌, ◌++◌, length, sym, ap, ap₂, ◌∙◌, subst, arith}
use Rattle.std.proofs.lemmas.List.{map-append}
use Rattle.mg_server.specs.Kept.{Kept}
use Rattle.mg_link.specs.declared.history.HistoryStep.{HistoryStep}
use Rattle.mg_store.specs.Contents.{HasKept, MayKeep}
use Rattle.mg_store.specs.Stored.{Stored, kept_of, steps_of}
use Rattle.mg_store.proofs.Keeping.{keeps_more, keeps_still}
use Rattle.mg_store.proofs.store.Store.keep.Goals as goal

pub invariant_of-self-in_err-commit : goal.invariant_of-self-in_err-commit
invariant_of-self-in_err-commit c =
    let history : List Kept = steps_of c.self.inside.history.items in
    let may : MayKeep history c.args.command.now c.args.answer = subst (λ (h : List Kept). MayKeep h c.args.command.now c.args.answer) (sym (ap (λ (s : Stored). s.history) c.self.view_is)) c.requires in
    let fits : length c.self.inside.content.changes.items < 2 ^ 64 = omega (arith, c.self.inside.content.changes.ok.0, c.self.inside.content.changes.small) in
    subst (λ (h : List Kept). HasKept c.commit.new.content h) (sym (ap steps_of c.in_ok-reserve.ensures.items)) (keeps_still c.self.inside.content c.commit.new.content history c.args.command.now c.args.answer c.self.invariant may fits c.in_err-commit.ensures.err)

pub invariant_of-self-2 : goal.invariant_of-self-2
invariant_of-self-2 c =
    let history : List Kept = steps_of c.self.inside.history.items in
    let may : MayKeep history c.args.command.now c.args.answer = subst (λ (h : List Kept). MayKeep h c.args.command.now c.args.answer) (sym (ap (λ (s : Stored). s.history) c.self.view_is)) c.requires in
    let fits : length c.self.inside.content.changes.items < 2 ^ 64 = omega (arith, c.self.inside.content.changes.ok.0, c.self.inside.content.changes.small) in
    let kept : HistoryStep = c.in_ok-step.step in
    let steps : steps_of c.push_reserved.new.items.items ≡ history ++ record { command = c.args.command.now; reply = c.args.answer.reply } ∷ [] =
    ap steps_of (c.push_reserved.ensures ∙ ap (λ (l : List HistoryStep). l ++ kept ∷ []) c.in_ok-reserve.ensures.items) ∙ map-append kept_of c.self.inside.history.items (kept ∷ [])
    ∙ ap₂ (λ (command reply : List ℕ). history ++ record { command = command; reply = reply } ∷ []) c.in_ok-step.ensures.0 c.in_ok-step.ensures.1 in
    subst (λ (h : List Kept). HasKept c.commit.new.content h) (sym steps) (keeps_more c.self.inside.content c.commit.new.content history c.args.command.now c.args.answer c.self.invariant may fits c.in_ok-commit.ensures.ok)
