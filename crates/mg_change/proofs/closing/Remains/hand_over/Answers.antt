use Rattle.std.proofs.Common.{◌≡◌, Option, sym, ap, ◌∙◌, subst}
use Rattle.std.specs.Prelude.{IfOk}
use Rattle.mg_bson.specs.Tree.{Tree}
use Rattle.mg_cursor.specs.View.{client_of, current_of}
use Rattle.mg_change.specs.ClientStreams.{token_known}
use Rattle.mg_change.specs.StreamView.{token_lying}
use Rattle.mg_steps.specs.declared.token.TokenPlace.{TokenPlace}
use Rattle.mg_change.proofs.Remaining.{saved_handed}
use Rattle.mg_change.proofs.closing.Remains.hand_over.Goals as goal

-- ---- it lies in the stream

pub returns-in-Saved-clause-token : goal.returns-in-Saved-clause-token
returns-in-Saved-clause-token c =
    let r = c.args.self.now in
    c.take_saved.ensures.token ∙ sym (ap (λ (t : TokenPlace). token_lying t (token_known r.aggregate.resume) (current_of r.buffer) (client_of r.batches).token) c.in-Saved.is)

pub returns-in-Saved-clause-gone : goal.returns-in-Saved-clause-gone
returns-in-Saved-clause-gone c = c.in-Saved.is

pub returns-in-Saved-clause-rest : goal.returns-in-Saved-clause-rest
returns-in-Saved-clause-rest c = λ landing. saved_handed c.args.self.now c.take_saved.new.aggregate landing c.in-Saved.is c.take_saved.ensures.gone

-- ---- it lies in an event that was lent

pub hand_copy-requires : goal.hand_copy-requires
hand_copy-requires c = c.in-Event.is

pub returns-in-Event-clause-token : goal.returns-in-Event-clause-token
returns-in-Event-clause-token c =
    let r = c.args.self.now in
    subst (λ (t : Option Tree). IfOk c.hand_copy.result (λ token. token ≡ t)) (sym (ap (λ (t : TokenPlace). token_lying t (token_known r.aggregate.resume) (current_of r.buffer) (client_of r.batches).token) c.in-Event.is)) c.hand_copy.ensures.token

-- ---- it lies behind the batch

pub returns-in-Batch-clause-token : goal.returns-in-Batch-clause-token
returns-in-Batch-clause-token c =
    let r = c.args.self.now in
    c.take_behind.ensures.token ∙ sym (ap (λ (t : TokenPlace). token_lying t (token_known r.aggregate.resume) (current_of r.buffer) (client_of r.batches).token) c.in-Batch.is)

pub returns-in-Batch-clause-gone : goal.returns-in-Batch-clause-gone
returns-in-Batch-clause-gone c = c.take_behind.ensures.gone

pub returns-in-Batch-clause-rest : goal.returns-in-Batch-clause-rest
returns-in-Batch-clause-rest c = c.take_behind.ensures.rest
