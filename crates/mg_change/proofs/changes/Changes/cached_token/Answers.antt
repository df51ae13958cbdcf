use Rattle.std.proofs.Common.{sym, ap, ◌∙◌}
use Rattle.mg_cursor.specs.View.{client_of, current_of}
use Rattle.mg_change.specs.ClientStreams.{token_known}
use Rattle.mg_change.specs.StreamView.{token_lying}
use Rattle.mg_steps.specs.declared.token.TokenPlace.{TokenPlace}
use Rattle.mg_change.proofs.changes.Changes.cached_token.Goals as goal

pub returns-in-Saved : goal.returns-in-Saved
returns-in-Saved c =
    let s = c.args.self.now in
    c.saved_token.ensures ∙ sym (ap (λ (t : TokenPlace). token_lying t (token_known s.aggregate.resume) (current_of s.buffer) (client_of s.batches).token) c.in-Saved.is)

pub returns-in-Event : goal.returns-in-Event
returns-in-Event c =
    let s = c.args.self.now in
    c.event_token.ensures ∙ sym (ap (λ (t : TokenPlace). token_lying t (token_known s.aggregate.resume) (current_of s.buffer) (client_of s.batches).token) c.in-Event.is)

pub returns-in-Batch : goal.returns-in-Batch
returns-in-Batch c =
    let s = c.args.self.now in
    c.token.ensures ∙ sym (ap (λ (t : TokenPlace). token_lying t (token_known s.aggregate.resume) (current_of s.buffer) (client_of s.batches).token) c.in-Batch.is)
