-- What the parts of closings are seen as.
use Rattle.std.specs.Prelude.{Option}
use Rattle.mg_bson.specs.Tree.{Tree}
use Rattle.mg_cursor.specs.Client as cursors
use Rattle.mg_cursor.specs.View.{client_of, current_of}
use Rattle.mg_change.specs.ClientStreams.{token_known}
use Rattle.mg_change.specs.ClosingStreams.{ClosingStream, IsSoundClosing, Landing, ends, lands, lands_aggregate, lands_replaced}
use Rattle.mg_change.specs.StreamView.{SavesWhile, is_lent, token_lying}
use Rattle.mg_steps.specs.declared.token.TokenPlace.{TokenPlace}
use Rattle.mg_change.specs.declared.closing.Underway.{Underway}
use Rattle.mg_change.specs.declared.closing.Underway.TheVariants as underway
use Rattle.mg_change.specs.declared.closing.Remains.{Remains}

abbrev pub landing_in : Underway → Landing
landing_in underway.Lands = lands
landing_in (underway.Aggregate exec) = lands_aggregate exec
landing_in (underway.Replaced closing) = lands_replaced closing
landing_in (underway.Last exec) = ends exec

-- the token, by where it lies
abbrev pub remains_token : Remains → Option Tree
remains_token r = token_lying r.token (token_known r.aggregate.resume) (current_of r.buffer) (client_of r.batches).token

abbrev pub closing_in : Remains → Landing → ClosingStream
closing_in r doing = record { token = remains_token r; lent = is_lent r.token; cursor = client_of r.batches; opened = r.opened; doing = doing }

-- ---- whether it is sound

-- The token is saved while a getMore is on its way, since what is behind the batch in hand goes as its reply comes.
abbrev pub SavesIn : TokenPlace → Landing → cursors.Doing → Type 0
SavesIn at lands doing = SavesWhile at doing
SavesIn at (lands_aggregate sending) doing = Unit {0}
SavesIn at (lands_replaced old) doing = Unit {0}
SavesIn at (ends sending) doing = Unit {0}

pub record IsClosingIn (r : Remains) (landing : Landing) : Type 0 where
  pub sound : IsSoundClosing (closing_in r landing)
  pub saves : SavesIn r.token landing (client_of r.batches).doing
