-- What a call of a stream, and the closing of one, had come to it has come to still at a later time; and how each begins.
use Rattle.std.specs.Prelude.{IsSome}
use Rattle.std.proofs.Common.{◌≡◌, ℕ, ℤ, Bool, true, false, Option, Some, None, refl, sym, ap, ◌∙◌, subst}
use Rattle.mg_bson.specs.Raw.{fields}
use Rattle.mg_bson.specs.Tree.{Tree}
use Rattle.mg_server.specs.Calls.{Flies, Grows, IsAwaited, Past}
use Rattle.mg_link.specs.Exec.{Sending, ticket_of}
use Rattle.mg_link.specs.Link.{Awaited}
use Rattle.mg_link.specs.Session.{Session}
use Rattle.mg_server.proofs.Pasts.{flies_grows}
use Rattle.mg_server.proofs.Calls.{awaited_by}
use Rattle.mg_ops.specs.declared.change_stream.WatchArgs.{WatchArgs}
use Rattle.mg_cursor.specs.Causes.{FliesMore}
use Rattle.mg_cursor.specs.Client.{ClientCursor, at_rest, get_more, kill}
use Rattle.mg_cursor.specs.Client as cursors
use Rattle.mg_cursor.specs.Closing.{ClosingUnderwayBy, IsNotAsking, closing_ticket_by}
use Rattle.mg_change.specs.Causes.{ByCursor, ByDoing, Called, SoFar}
use Rattle.mg_change.specs.Causes as causes
use Rattle.mg_change.specs.ClientStreams.{ClientStream, Doing, IsBetween, IsIdle, IsSound, SoundBy, resuming_in, stream_ticket, ticket_by}
use Rattle.mg_change.specs.ClientStreams as streams
use Rattle.mg_change.specs.ClientOpenings.{SendsSoundly, first_aggregate, sending_ticket}
use Rattle.mg_change.specs.OpeningCauses.{OpensSoFar}
use Rattle.mg_change.specs.ClosingCauses.{LastBy, LastSoFar}
use Rattle.mg_change.specs.ClosingStreams.{ClosingStream, closed_stream, handed_over, landing_of}
use Rattle.mg_change.specs.declared.event_poll.EventPoll.{EventPoll}
use Rattle.mg_change.specs.declared.event_poll.EventPoll.TheVariants as polls
use Rattle.mg_change.proofs.Growing.{call_failed_grows, empty_grows, gave_grows, killed_grows, resumed_grows, resumes_grows}

-- ---- later

module _ (past past' : Past) (grows : Grows past past') (awaited awaited' : Awaited) where
  more_later : (c : ClientCursor) (sending : Sending) → ((n : ℕ) → ticket_of sending ≡ Some n → awaited' n ≡ awaited n) → FliesMore awaited past c sending → FliesMore awaited' past' c sending
  more_later c sending tickets h = record { session = h.session; command_is = h.command_is; flies = flies_grows past past' grows awaited awaited' (get_more c h.session) sending.stage tickets h.flies }

  underway_later : (c : ClientCursor) (o : Option Sending) (d : cursors.Doing) → c.doing ≡ d → ((n : ℕ) → closing_ticket_by c o ≡ Some n → awaited' n ≡ awaited n) → ClosingUnderwayBy awaited past c o d → ClosingUnderwayBy awaited' past' c o d
  underway_later c (Some sending) d is tickets h = flies_grows past past' grows awaited awaited' (kill c) sending.stage tickets h
  underway_later c None cursors.rests is tickets h = tt
  underway_later c None (cursors.holds bytes) is tickets h = tt
  underway_later c None (cursors.asks sending) is tickets h = more_later c sending (λ n e. tickets n (ap cursors.ticket_by is ∙ e)) h

  module _ (at s : ClientStream) where
    cursor_later : (d : cursors.Doing) → ((n : ℕ) → cursors.ticket_by d ≡ Some n → awaited' n ≡ awaited n) → ByCursor awaited past at s d → ByCursor awaited' past' at s d
    cursor_later cursors.rests tickets h = h
    cursor_later (cursors.holds bytes) tickets h = h
    cursor_later (cursors.asks sending) tickets h = (h.0, h.1, h.2, more_later s.cursor sending tickets h.3)

    by_later : (d : Doing) → ((n : ℕ) → ticket_by s.cursor d ≡ Some n → awaited' n ≡ awaited n) → ByDoing awaited past true at s d → ByDoing awaited' past' true at s d
    by_later streams.follows tickets h = cursor_later s.cursor.doing tickets h
    by_later streams.owes tickets h = resumes_grows past past' grows at (at_rest s.cursor) h
    by_later (streams.resumes sending) tickets h = (
      resumes_grows past past' grows at (at_rest s.cursor) h.0,
      record {
        session = h.1.session;
        plainly = h.1.plainly;
        command_is = subst (λ (w : ℤ). fields sending.command ≡ resuming_in at.aggregate w h.1.session) (sym grows.wire) h.1.command_is;
        retries_is = h.1.retries_is;
        flies = subst (λ (w : ℤ). Flies awaited' past' (resuming_in at.aggregate w h.1.session) sending.stage) (sym grows.wire)
            (flies_grows past past' grows awaited awaited' (resuming_in at.aggregate past.wire h.1.session) sending.stage tickets h.1.flies);
      },
    )
    by_later (streams.kills before) tickets h = record {
      bytes = h.bytes;
      resumed = resumed_grows past past' grows true at (at_rest before.cursor) h.bytes s.cursor h.resumed;
      underway = underway_later before.cursor before.killing before.cursor.doing refl tickets h.underway;
    }
    by_later streams.renewed tickets h = record { old = h.old; bytes = h.bytes; resumed = resumed_grows past past' grows true at h.old h.bytes s.cursor h.resumed; killed = killed_grows past past' grows h.old h.killed }

    -- Where its own ticket goes with the same call, a call had come so far.
    pub so_far_grows : ((n : ℕ) → stream_ticket s ≡ Some n → awaited' n ≡ awaited n) → SoFar awaited past true at s → SoFar awaited' past' true at s
    so_far_grows tickets so = record { same = so.same; by = by_later s.doing tickets so.by }

-- an answer has its cause still
pub called_grows : (past past' : Past) (grows : Grows past past') (session : Option Session) (at after : ClientStream) (r : EventPoll) → Called past session at after r → Called past' session at after r
called_grows past past' grows session at after polls.Pending h = absurd h
called_grows past past' grows session at after (polls.Ready None) h = (h.0, empty_grows past past' grows (causes.is_lone session) at after h.0 h.1)
called_grows past past' grows session at after (polls.Ready (Some event)) h = gave_grows past past' grows (causes.is_lone session) at after event h
called_grows past past' grows session at after (polls.Failed e) h = call_failed_grows past past' grows session at after e h

-- ---- a new call

module _ (awaited : Awaited) (past : Past) (s : ClientStream) where
  begins_cursor : (d : cursors.Doing) → IsNotAsking d → s.doing ≡ streams.follows → ByCursor awaited past s s d
  begins_cursor cursors.rests quiet on = record { follows_on = on; cursor = refl; events = refl }
  begins_cursor (cursors.holds bytes) quiet on = record { follows_on = on; cursor = refl; events = refl }
  begins_cursor (cursors.asks sending) quiet on = absurd quiet

  begins_by : (d : Doing) → s.doing ≡ d → IsIdle d → IsNotAsking s.cursor.doing → SoundBy true s d → ByDoing awaited past true s s d
  begins_by streams.follows on idle quiet by = begins_cursor s.cursor.doing quiet on
  begins_by streams.owes on idle quiet by = causes.owed (record { owes_one = on; none_left = by.none_left }) refl
  begins_by (streams.resumes sending) on idle quiet by = absurd idle
  begins_by (streams.kills before) on idle quiet by = absurd idle
  begins_by streams.renewed on idle quiet by = absurd idle

  pub begins : IsSound true s → IsBetween s → SoFar awaited past true s s
  begins sound rest = record { same = refl; by = begins_by s.doing refl rest.idle rest.quiet sound.by }

-- ---- the closing of a stream at rest, whose token was handed over

last_by : (awaited : Awaited) (past : Past) (s : ClientStream) (d : Doing) → IsIdle d → LastBy awaited past s (landing_of d)
last_by awaited past s streams.follows idle = tt
last_by awaited past s streams.owes idle = tt
last_by awaited past s (streams.resumes sending) idle = absurd idle
last_by awaited past s (streams.kills before) idle = absurd idle
last_by awaited past s streams.renewed idle = absurd idle

pub last_begins : (awaited : Awaited) (past : Past) (s : ClientStream) (lent : Bool) (left : Option Tree) (k : ClosingStream) → k ≡ handed_over left (closed_stream lent s) → IsBetween s → LastSoFar awaited past s k
last_begins awaited past s lent left k is rest =
    subst (λ (x : ClosingStream). LastSoFar awaited past s x) (sym is) (record { id_is = refl; space_is = refl; none_opened = refl; quiet = rest.quiet; by = last_by awaited past s s.doing rest.idle })

-- ---- an opening

-- the reply to its aggregate, which names no session, is waited for
pub opening_awaits_plainly : (awaited : Awaited) (past : Past) (args : WatchArgs) (sending : Option Sending) → SendsSoundly true args sending → OpensSoFar awaited past args sending → IsSome (sending_ticket sending) → IsAwaited awaited past (resuming_in (first_aggregate args) past.wire None)
opening_awaits_plainly awaited past args None sound so held = let bad : false ≡ true = held in absurd cc
opening_awaits_plainly awaited past args (Some sending) own so held =
    let plain : fields sending.command ≡ resuming_in (first_aggregate args) own.wire None = subst (λ (x : Option Session). fields sending.command ≡ resuming_in (first_aggregate args) own.wire x) own.plainly own.command_is in
    subst (IsAwaited awaited past) (sym so.command_is ∙ plain) (awaited_by awaited past (resuming_in (first_aggregate args) past.wire so.session) sending.stage so.flies held)
