use Rattle.std.proofs.Common.{Option, option_map, sym, ap, ◌∙◌}
use Rattle.mg_ops.specs.declared.change_stream.ChangeStreamData.{ChangeStreamData}
use Rattle.mg_cursor.specs.View.{client_of, current_of}
use Rattle.mg_change.specs.ClientStreams.{token_known}
use Rattle.mg_change.specs.StreamView.{known_at}
use Rattle.mg_change.proofs.Parts.{token_cached}
use Rattle.mg_change.proofs.changes.Changes.resume_token.Goals as goal

pub returns-in-Some : goal.returns-in-Some
returns-in-Some c =
    let s = c.args.self.now in
    c.cached_token.ensures ∙ token_cached s.token (current_of s.buffer) (client_of s.batches).token s.aggregate.resume c.in-Some.is

pub returns-in-None : goal.returns-in-None
returns-in-None c =
    let s = c.args.self.now in
    sym (ap (λ (o : Option ChangeStreamData). token_known (option_map (known_at s.token (current_of s.buffer) (client_of s.batches).token) o)) c.in-None.is)
