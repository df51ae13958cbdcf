use Rattle.std.proofs.Common.{Option, Some, None, option_map, sym, ap, ◌∙◌}
use Rattle.mg_bson.specs.Tree.{Tree}
use Rattle.mg_ops.specs.declared.change_stream.ChangeStreamData.{ChangeStreamData}
use Rattle.mg_change.specs.ClientStreams.{token_known}
use Rattle.mg_change.proofs.closing.take_saved.Goals as goal

pub returns-in-Some-clause-token : goal.returns-in-Some-clause-token
returns-in-Some-clause-token c = c.take.ensures.value ∙ sym (ap token_known c.in-Some.is)

pub returns-in-Some-clause-gone : goal.returns-in-Some-clause-gone
returns-in-Some-clause-gone c =
    let known = c.in-Some.known in
    let a = c.args.aggregate.now in
    ap (λ (t : Option Tree). record a { resume = Some (record known { resume_token = t }) }) c.take.ensures.after
    ∙ sym (ap (λ (o : Option ChangeStreamData). record a { resume = option_map (λ (k : ChangeStreamData). record k { resume_token = None }) o }) c.in-Some.is)

pub returns-in-None-clause-token : goal.returns-in-None-clause-token
returns-in-None-clause-token c = sym (ap token_known c.in-None.is)

pub returns-in-None-clause-gone : goal.returns-in-None-clause-gone
returns-in-None-clause-gone c =
    let a = c.args.aggregate.now in
    ap (λ (o : Option ChangeStreamData). record a { resume = o }) c.in-None.is
    ∙ sym (ap (λ (o : Option ChangeStreamData). record a { resume = option_map (λ (k : ChangeStreamData). record k { resume_token = None }) o }) c.in-None.is)
