use Rattle.std.proofs.Common.{◌≡◌, true, ap, ◌∙◌, subst}
use Rattle.std.specs.Prelude.{IfErr, IfOk}
use Rattle.std.proofs.lemmas.Result.{on_err_weaker}
use Rattle.mg_link.specs.Errors.{plain}
use Rattle.mg_link.specs.declared.error.ErrorKind.TheVariants as kind
use Rattle.mg_change.specs.ClosingStreams.{ClosingStream}
use Rattle.mg_change.specs.ClosingView.{closing_in, landing_in}
use Rattle.mg_change.specs.declared.closing.Remains.{Remains}
use Rattle.mg_change.proofs.Remaining.{handed_either, handed_seen}
use Rattle.mg_change.proofs.closing.Closing.hand_over.Goals as goal

pub invariant_of-self : goal.invariant_of-self
invariant_of-self c = handed_either c.hand_over.result c.self.inside.remains c.hand_over.new.self (landing_in c.self.inside.underway) c.hand_over.ensures.kept c.hand_over.ensures.gone c.hand_over.ensures.rest c.self.invariant

pub returns-clause-token : goal.returns-clause-token
returns-clause-token c = subst (λ (k : ClosingStream). IfOk c.hand_over.result (λ token. token ≡ k.token)) c.self.view_is c.hand_over.ensures.token

pub returns-clause-err : goal.returns-clause-err
returns-clause-err c = subst (λ (k : ClosingStream). IfErr c.hand_over.result (λ e. (e ≡ plain kind.OutOfMemory) × (k.lent ≡ true))) c.self.view_is c.hand_over.ensures.err

pub returns-clause-kept : goal.returns-clause-kept
returns-clause-kept c = on_err_weaker c.hand_over.result (λ same. ap (λ (r : Remains). closing_in r (landing_in c.self.inside.underway)) same ∙ c.self.view_is) c.hand_over.ensures.kept

pub returns-clause-gone : goal.returns-clause-gone
returns-clause-gone c = handed_seen c.hand_over.result c.self.inside.remains c.hand_over.new.self (landing_in c.self.inside.underway) c.args.self.now c.self.view_is c.hand_over.ensures.rest
