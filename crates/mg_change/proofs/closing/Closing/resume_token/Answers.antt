use Rattle.std.proofs.Common.{ap, ◌∙◌}
use Rattle.mg_change.specs.ClosingStreams.{ClosingStream}
use Rattle.mg_change.proofs.closing.Closing.resume_token.Goals as goal

pub returns : goal.returns
returns c = c.known_token.ensures ∙ ap (λ (k : ClosingStream). k.token) c.self.view_is
