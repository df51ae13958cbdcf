use mir.Val.{SFits}
use Rattle.std.proofs.Common.{rules, ◌≡◌, ◌∙◌, ap, subst, sym, w32, to_z, of_z}
use Rattle.std.proofs.lemmas.Int.{to_z-of_z}
use Rattle.std.proofs.lemmas.Result.{IfOk-weaker}
use Rattle.mg_options.specs.Copies.{SameChangeStreamOptions}
use Rattle.mg_options.specs.declared.change_stream.ChangeStreamOptions.{ChangeStreamOptions}
use Rattle.mg_ops.specs.Resuming.{resumed}
use Rattle.mg_ops.proofs.Watching.{same_resumed, same_size}
use Rattle.mg_ops.proofs.resuming.resume_options.Goals as goal

pub returns-clause-ok : goal.returns-clause-ok
returns-clause-ok c =
    let o = c.args.args.now.options in
    let p = c.in_ok-options.options in
    let state = c.args.state.now in
    let fits : SFits w32 c.args.wire = search rules in
    let back : to_z w32 (of_z w32 c.args.wire) ≡ c.args.wire = to_z-of_z w32 c.args.wire fits in
    IfOk-weaker c.resumed.result (λ (x : ChangeStreamOptions). x ≡ resumed p state (to_z w32 (of_z w32 c.args.wire))) (λ (x : ChangeStreamOptions). SameChangeStreamOptions (resumed o state c.args.wire) x)
    (λ x is. subst (λ (y : ChangeStreamOptions). SameChangeStreamOptions (resumed o state c.args.wire) y) (sym (is ∙ ap (resumed p state) back)) (same_resumed o p state c.args.wire c.in_ok-options.ensures.cases)) c.resumed.ensures.ok

pub returns-clause-size : goal.returns-clause-size
returns-clause-size c =
    let o = c.args.args.now.options in
    let p = c.in_ok-options.options in
    IfOk-weaker c.resumed.result (λ (x : ChangeStreamOptions). x.batch_size ≡ p.batch_size) (λ (x : ChangeStreamOptions). x.batch_size ≡ o.batch_size) (λ x is. is ∙ same_size o p c.in_ok-options.ensures.cases) c.resumed.ensures.size
