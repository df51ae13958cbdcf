-- What a call, an opening or a closing that holds a ticket waits for.
use Rattle.std.proofs.Common.{◌≡◌, ◌≢◌, ℕ, pos, Bool, false, Option, None, Some, subst}
use Rattle.std.specs.Prelude.{IsSome}
use Rattle.mg_server.specs.Calls.{IsAwaited, Past}
use Rattle.mg_link.specs.Exec.{Sending}
use Rattle.mg_link.specs.Link.{Awaited}
use Rattle.mg_server.proofs.Calls.{HoldsOwn, awaited_by, none_held, own_by}
use Rattle.mg_ops.specs.declared.change_stream.WatchArgs.{WatchArgs}
use Rattle.mg_cursor.specs.Client.{ClientCursor, asks, at_rest, get_more, holds, kill, rests}
use Rattle.mg_cursor.specs.Client as cursors
use Rattle.mg_cursor.specs.Closing.{ClosesBy, ClosingUnderwayBy, IsNotAsking, LandedBy, closing_ticket_by}
use Rattle.mg_change.specs.Causes.{ByCursor, ByDoing, CallWaits, SoFar, killing_waits, more_waits, resumption_waits}
use Rattle.mg_change.specs.ClientOpenings.{first_aggregate, sending_ticket}
use Rattle.mg_change.specs.ClientStreams.{ClientStream, Doing, IsSound, SoundBy, follows, kills, owes, renewed, resumes, resuming_in, stream_ticket, ticket_by}
use Rattle.mg_change.specs.ClosingCauses.{LastBy, LastSoFar, LastWaits, last_kill}
use Rattle.mg_change.specs.ClosingStreams.{ClosingStream, Landing, ends, landing_ticket, lands, lands_aggregate, lands_replaced, stream_closing_ticket}
use Rattle.mg_change.specs.OpeningCauses.{OpensSoFar}

-- ---- no ticket

quiet_none : {A : Type 0} (d : cursors.Doing) → IsNotAsking d → IsSome (cursors.ticket_by d) → A
quiet_none rests quiet held = none_held held
quiet_none (holds bytes) quiet held = none_held held
quiet_none (asks sending) quiet held = absurd quiet

quiet_other : {A : Type 0} (d : cursors.Doing) (ticket : ℕ) → IsNotAsking d → cursors.ticket_by d ≡ Some ticket → A
quiet_other rests ticket quiet held = absurd cc
quiet_other (holds bytes) ticket quiet held = absurd cc
quiet_other (asks sending) ticket quiet held = absurd quiet

-- ---- a call that holds a ticket

-- its getMore, of the cursor as the call began
more_flies : (awaited : Awaited) (past : Past) (lone : Bool) (at s : ClientStream) (sending : Sending) → ByCursor awaited past at s (asks sending) → IsSome (cursors.ticket_by (asks sending)) → CallWaits awaited past lone at
more_flies awaited past lone at s sending so held =
    more_waits so.0 so.3.session (subst (λ (c : ClientCursor). IsAwaited awaited past (get_more c so.3.session)) so.1 (awaited_by awaited past (get_more s.cursor so.3.session) sending.stage so.3.flies held))

more_awaits : (awaited : Awaited) (past : Past) (lone : Bool) (at s : ClientStream) (d : cursors.Doing) → ByCursor awaited past at s d → IsSome (cursors.ticket_by d) → CallWaits awaited past lone at
more_awaits awaited past lone at s rests so held = none_held held
more_awaits awaited past lone at s (holds bytes) so held = none_held held
more_awaits awaited past lone at s (asks sending) so held = more_flies awaited past lone at s sending so held

-- the closing of a cursor, which kills it
record KillAwaits (awaited : Awaited) (past : Past) (c : ClientCursor) : Type 0 where
  there : c.id ≢ pos 0
  waits : IsAwaited awaited past (kill c)

kill_awaits : (awaited : Awaited) (past : Past) (c : ClientCursor) (killing : Option Sending) → ClosesBy c killing → LandedBy killing c.doing → ClosingUnderwayBy awaited past c killing c.doing → IsSome (closing_ticket_by c killing) → KillAwaits awaited past c
kill_awaits awaited past c None closing landed underway held = quiet_none c.doing landed held
kill_awaits awaited past c (Some sending) closing landed underway held = record { there = closing.may.held; waits = awaited_by awaited past (kill c) sending.stage underway held }

awaits_by : (awaited : Awaited) (past : Past) (lone : Bool) (at s : ClientStream) (d : Doing) → SoundBy false s d → ByDoing awaited past lone at s d → IsSome (ticket_by s.cursor d) → CallWaits awaited past lone at
awaits_by awaited past lone at s follows sound so held = more_awaits awaited past lone at s s.cursor.doing so held
awaits_by awaited past lone at s owes sound so held = none_held held
awaits_by awaited past lone at s (resumes sending) sound so held =
    resumption_waits (at_rest s.cursor) so.0 so.1.session so.1.plainly (awaited_by awaited past (resuming_in at.aggregate past.wire so.1.session) sending.stage so.1.flies held)
awaits_by awaited past lone at s (kills before) sound so held =
    let k = kill_awaits awaited past before.cursor before.killing sound.2 sound.3 so.underway held in
    killing_waits (at_rest before.cursor) s.cursor so.bytes k.there so.resumed k.waits
awaits_by awaited past lone at s renewed sound so held = none_held held

pub call_awaits : (awaited : Awaited) (past : Past) (lone : Bool) (at s : ClientStream) → IsSound false s → SoFar awaited past lone at s → IsSome (stream_ticket s) → CallWaits awaited past lone at
call_awaits awaited past lone at s sound so held = awaits_by awaited past lone at s s.doing sound.by so.by held

-- ---- a closing that kills what is left, and holds a ticket

last_by : (awaited : Awaited) (past : Past) (last : ClientStream) (k : ClosingStream) (d : Landing) → IsNotAsking k.cursor.doing → LastBy awaited past last d → IsSome (landing_ticket k.cursor d) → LastWaits awaited past last
last_by awaited past last k lands quiet so held = quiet_none k.cursor.doing quiet held
last_by awaited past last k (lands_aggregate sending) quiet so held = absurd so
last_by awaited past last k (lands_replaced before) quiet so held = absurd so
last_by awaited past last k (ends sending) quiet so held = record { some_left = so.0; waits = awaited_by awaited past (last_kill last) sending.stage so.1 held }

pub last_awaits : (awaited : Awaited) (past : Past) (last : ClientStream) (k : ClosingStream) → LastSoFar awaited past last k → IsSome (stream_closing_ticket k) → LastWaits awaited past last
last_awaits awaited past last k so held = last_by awaited past last k k.doing so.quiet so.by held

-- ---- whose call it is

more_own : (awaited : Awaited) (past : Past) (at s : ClientStream) (d : cursors.Doing) (ticket : ℕ) → ByCursor awaited past at s d → cursors.ticket_by d ≡ Some ticket → HoldsOwn awaited past ticket
more_own awaited past at s rests ticket so held = absurd cc
more_own awaited past at s (holds bytes) ticket so held = absurd cc
more_own awaited past at s (asks sending) ticket so held = own_by awaited past (get_more s.cursor so.3.session) sending.stage ticket so.3.flies held

kill_own : (awaited : Awaited) (past : Past) (c : ClientCursor) (killing : Option Sending) (ticket : ℕ) → LandedBy killing c.doing → ClosingUnderwayBy awaited past c killing c.doing → closing_ticket_by c killing ≡ Some ticket → HoldsOwn awaited past ticket
kill_own awaited past c None ticket landed underway held = quiet_other c.doing ticket landed held
kill_own awaited past c (Some sending) ticket landed underway held = own_by awaited past (kill c) sending.stage ticket underway held

own_in : (awaited : Awaited) (past : Past) (lone : Bool) (at s : ClientStream) (d : Doing) (ticket : ℕ) → SoundBy false s d → ByDoing awaited past lone at s d → ticket_by s.cursor d ≡ Some ticket → HoldsOwn awaited past ticket
own_in awaited past lone at s follows ticket sound so held = more_own awaited past at s s.cursor.doing ticket so held
own_in awaited past lone at s owes ticket sound so held = absurd cc
own_in awaited past lone at s (resumes sending) ticket sound so held = own_by awaited past (resuming_in at.aggregate past.wire so.1.session) sending.stage ticket so.1.flies held
own_in awaited past lone at s (kills before) ticket sound so held = kill_own awaited past before.cursor before.killing ticket sound.3 so.underway held
own_in awaited past lone at s renewed ticket sound so held = absurd cc

pub call_own : (awaited : Awaited) (past : Past) (lone : Bool) (at s : ClientStream) (ticket : ℕ) → IsSound false s → SoFar awaited past lone at s → stream_ticket s ≡ Some ticket → HoldsOwn awaited past ticket
call_own awaited past lone at s ticket sound so held = own_in awaited past lone at s s.doing ticket sound.by so.by held

last_in : (awaited : Awaited) (past : Past) (last : ClientStream) (k : ClosingStream) (d : Landing) (ticket : ℕ) → IsNotAsking k.cursor.doing → LastBy awaited past last d → landing_ticket k.cursor d ≡ Some ticket → HoldsOwn awaited past ticket
last_in awaited past last k lands ticket quiet so held = quiet_other k.cursor.doing ticket quiet held
last_in awaited past last k (lands_aggregate sending) ticket quiet so held = absurd so
last_in awaited past last k (lands_replaced before) ticket quiet so held = absurd so
last_in awaited past last k (ends sending) ticket quiet so held = own_by awaited past (last_kill last) sending.stage ticket so.1 held

pub last_own : (awaited : Awaited) (past : Past) (last : ClientStream) (k : ClosingStream) (ticket : ℕ) → LastSoFar awaited past last k → stream_closing_ticket k ≡ Some ticket → HoldsOwn awaited past ticket
last_own awaited past last k ticket so held = last_in awaited past last k k.doing ticket so.quiet so.by held

pub opening_own : (awaited : Awaited) (past : Past) (args : WatchArgs) (sending : Option Sending) (ticket : ℕ) → OpensSoFar awaited past args sending → sending_ticket sending ≡ Some ticket → HoldsOwn awaited past ticket
opening_own awaited past args None ticket so held = absurd cc
opening_own awaited past args (Some sending) ticket so held = own_by awaited past (resuming_in (first_aggregate args) past.wire so.session) sending.stage ticket so.flies held
