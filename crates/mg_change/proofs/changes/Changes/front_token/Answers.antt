use Rattle.std.proofs.Common.{◌≡◌, ap, ◌∙◌}
use Rattle.std.specs.Prelude.{option_and_then}
use Rattle.std.proofs.lemmas.Result.{IfOk-weaker}
use Rattle.mg_bson.specs.Walks.{front_of}
use Rattle.mg_cursor.specs.View.{behind_of}
use Rattle.mg_change.specs.ClientStreams.{id_in}
use Rattle.mg_change.proofs.changes.Changes.front_token.Goals as goal

pub returns-in-Some-clause-ok : goal.returns-in-Some-clause-ok
returns-in-Some-clause-ok c =
    IfOk-weaker c.copied_id.result (λ token. token ≡ id_in c.in-Some.event) (λ token. token ≡ option_and_then id_in (front_of (behind_of c.args.self.now.buffer))) (λ token same. same ∙ ap (option_and_then id_in) c.in-Some.ensures) c.copied_id.ensures.ok

pub returns-in-None-clause-ok : goal.returns-in-None-clause-ok
returns-in-None-clause-ok c = ap (option_and_then id_in) c.in-None.ensures
