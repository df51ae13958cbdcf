use mir.Val.{SFits}
use Rattle.std.proofs.Common.{rules, ◌≡◌, ℕ, ℤ, Option, IfErr, IfOk, OnOk, subst, w32}
use Rattle.std.proofs.lemmas.Int.{to_z-of_z}
use Rattle.std.specs.Prelude.{option_copied}
use Rattle.mg_bson.specs.Tree.{Fields}
use Rattle.mg_link.specs.Namespace.{target}
use Rattle.mg_options.specs.Copies.{SameChangeStreamOptions}
use Rattle.mg_ops.specs.Failing.{FailsBy, HasBadSize}
use Rattle.mg_ops.specs.Limits.{SizeFits}
use Rattle.mg_ops.specs.Resuming.{resumed}
use Rattle.mg_ops.proofs.Watching.{same_watch}
use Rattle.mg_ops.proofs.aggregate.ChangeStreamAggregate.command_at.Goals as goal

pub returns-in_ok-options-in-Some-clause-ok : goal.returns-in_ok-options-in-Some-clause-ok
returns-in_ok-options-in-Some-clause-ok c =
    let a = c.args.self.now.args in
    let state = c.in-Some.state in
    let options = c.in_ok-options-in-Some.options in
    let fits : SFits w32 c.args.wire = search rules in
    let same : SameChangeStreamOptions (resumed a.options state c.args.wire) options =
    subst (λ (w : ℤ). SameChangeStreamOptions (resumed a.options state w) options) (to_z-of_z w32 c.args.wire fits) c.in_ok-options-in-Some.ensures.ok in
    rw c.in-Some.is
    (subst (λ (fs : Fields). IfOk c.command-in-Some.result (λ d. d ≡ fs)) (same_watch (target a.target) a.pipeline.items (option_copied c.args.session) (resumed a.options state c.args.wire) options same) c.command-in-Some.ensures.ok)

pub returns-in_ok-options-in-Some-clause-fits : goal.returns-in_ok-options-in-Some-clause-fits
returns-in_ok-options-in-Some-clause-fits c =
    subst (λ (size : Option ℕ). OnOk c.command-in-Some.result (SizeFits size)) c.in_ok-options-in-Some.ensures.size c.command-in-Some.ensures.fits

pub returns-in_ok-options-in-Some-clause-err : goal.returns-in_ok-options-in-Some-clause-err
returns-in_ok-options-in-Some-clause-err c =
    subst (λ (size : Option ℕ). IfErr c.command-in-Some.result (λ e. FailsBy (HasBadSize size) e)) c.in_ok-options-in-Some.ensures.size c.command-in-Some.ensures.err
