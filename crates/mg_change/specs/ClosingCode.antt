-- A code of closings, by which a proof tells two of them apart.
use Rattle.std.specs.Prelude.{◌≡◌, refl, ℕ, zero, suc, ℤ, pos, [], Bool, false, Option, None}
use Rattle.std.specs.Coded.{Coded, code_by, coded×, coded_ℕ, coded_ℤ, coded_bool, coded_option}
use Rattle.mg_bson.specs.Coded.{coded_tree}
use Rattle.mg_bson.specs.Tree.{Tree}
use Rattle.mg_link.specs.Exec.{Sending, unsent}
use Rattle.mg_link.specs.declared.pinned.PinnedConnection.TheVariants as connection
use Rattle.mg_cursor.specs.Client.{ClientCursor, rests}
use Rattle.mg_cursor.specs.ClientCode.{coded_client, coded_sending}
use Rattle.mg_cursor.specs.Closing.{ClosingCursor, closed, coded_closing}
use Rattle.mg_change.specs.ClosingStreams.{ClosingStream, Landing, ends, lands, lands_aggregate, lands_replaced}

-- ---- what is on its way: a number for the case, the command, and the closing

abbrev no_sending : Sending
no_sending = record { command = []; retries = false; stage = unsent }

abbrev no_cursor : ClientCursor
no_cursor = record { id = pos 0; space = record { db = []; coll = [] }; manner = record { size = None; wait = None; comment = None }; pinned = connection.Unpinned; token = None; doing = rests }

abbrev to_parts : Landing → ℕ × (Sending × ClosingCursor)
to_parts lands = (0, (no_sending, closed no_cursor))
to_parts (lands_aggregate sending) = (1, (sending, closed no_cursor))
to_parts (lands_replaced before) = (2, (no_sending, before))
to_parts (ends sending) = (3, (sending, closed no_cursor))

abbrev from_parts : ℕ → Sending → ClosingCursor → Landing
from_parts zero sending before = lands
from_parts (suc zero) sending before = lands_aggregate sending
from_parts (suc (suc zero)) sending before = lands_replaced before
from_parts (suc (suc (suc n))) sending before = ends sending

pub parts_back : (l : Landing) → from_parts (to_parts l).0 (to_parts l).1.0 (to_parts l).1.1 ≡ l
parts_back lands = refl
parts_back (lands_aggregate sending) = refl
parts_back (lands_replaced before) = refl
parts_back (ends sending) = refl

abbrev coded_landing : Coded Landing
coded_landing = code_by (ℕ × (Sending × ClosingCursor)) (coded× coded_ℕ (coded× coded_sending coded_closing)) to_parts (λ p. from_parts p.0 p.1.0 p.1.1) parts_back

abbrev pub coded_stream_closing : Coded ClosingStream
coded_stream_closing = code_by ((Option Tree × (Bool × ClientCursor)) × (ℤ × Landing)) (coded× (coded× (coded_option coded_tree) (coded× coded_bool coded_client)) (coded× coded_ℤ coded_landing))
    (λ k. ((k.token, (k.lent, k.cursor)), (k.opened, k.doing))) (λ p. record { token = p.0.0; lent = p.0.1.0; cursor = p.0.1.1; opened = p.1.0; doing = p.1.1 }) (λ k. refl)
