use mir.Val.{SFits}
use Rattle.std.proofs.Common.{rules, ◌≡◌, ℤ, Some, None, refl, sym, ap, ◌∙◌, subst, w32}
use Rattle.std.specs.Prelude.{is_some}
use Rattle.std.proofs.lemmas.Int.{to_z-of_z}
use Rattle.mg_link.specs.declared.action.Step.TheVariants as step
use Rattle.mg_ops.specs.Resuming.{saved_time}
use Rattle.mg_ops.specs.declared.change_stream.ChangeStreamData.{ChangeStreamData}
use Rattle.mg_change.specs.ClientOpenings.{ReadsOpening, first_known, opened, opened_with}
use Rattle.mg_change.specs.ClientStreams.{ClientStream, new_stream}
use Rattle.mg_change.specs.StreamView.{changes_of}
use Rattle.mg_change.proofs.Opened.{known_by}
use Rattle.mg_change.proofs.opens.changes_by.Goals as goal

pub returns-clause-ok : goal.returns-clause-ok
returns-clause-ok c =
    let args = c.args.aggregate.args in
    let out = c.in_ok-opened.opened in
    let time = c.in_ok-opened.time in
    let fits : SFits w32 c.args.wire = search rules in
    let time_is : c.in_ok-data.data.initial_operation_time ≡ saved_time args.options c.args.wire out.is_empty (is_some out.post_batch_resume_token) time =
    c.in_ok-data.ensures.time ∙ ap (λ (w : ℤ). saved_time args.options w out.is_empty (is_some out.post_batch_resume_token) time) (to_z-of_z w32 c.args.wire fits) in
    let known = known_by c.in_ok-data.data (first_known args c.args.wire out.is_empty out.post_batch_resume_token time) time_is c.in_ok-data.ensures.token c.in_ok-data.ensures.returned in
    let same : changes_of c.new.result ≡ opened_with args c.args.wire (out, time) = c.new.ensures.seen ∙ ap (λ (d : ChangeStreamData). new_stream (record { args = args; resume = Some d }) out) known in
    subst (λ (s : ClientStream). ReadsOpening c.args.wire (record { args = args; sending = None }) c.args.reply (step.Done s)) (sym same) (opened (out, time) c.in_ok-opened.ensures.ok refl)

pub returns-clause-saved : goal.returns-clause-saved
returns-clause-saved c = c.new.ensures.saved
