-- How many places are left to what a follow sends.
use Rattle.std.proofs.Common.{◌≤◌, Option, Some, None, arith}
use Rattle.mg_link.specs.Exec.{Sending, Stage, first, second, unsent}
use Rattle.mg_cursor.specs.Client.{ClientCursor, asks, holds, rests}
use Rattle.mg_cursor.specs.Client as cursors
use Rattle.mg_change.specs.ClientStreams.{Doing, follows, kills, owes, renewed, resumes}
use Rattle.mg_change.specs.ClosingStreams.{Landing, ends, lands, lands_aggregate, lands_replaced}
use Rattle.mg_change.specs.Sent.{asking_places, ending_places, killing_places, more_places, places_by, resuming_places}
use Rattle.mg_players.specs.Telling.{landing_places}

-- ---- at most

asking_few : (stage : Stage) → asking_places stage ≤ 4
asking_few unsent = omega arith
asking_few (first ticket) = omega arith
asking_few (second ticket) = omega arith

pub resuming_few : (stage : Stage) → resuming_places stage ≤ 3
resuming_few unsent = omega arith
resuming_few (first ticket) = omega arith
resuming_few (second ticket) = omega arith

ending_few : (stage : Stage) → ending_places stage ≤ 1
ending_few unsent = omega arith
ending_few (first ticket) = omega arith
ending_few (second ticket) = omega arith

pub killing_few : (o : Option Sending) → killing_places o ≤ 1
killing_few None = omega arith
killing_few (Some sending) = ending_few sending.stage

more_few : (d : cursors.Doing) → more_places d ≤ 4
more_few rests = omega arith
more_few (holds reply) = omega arith
more_few (asks sending) = asking_few sending.stage

-- to a call
pub places_few : (c : ClientCursor) (d : Doing) → places_by d c ≤ 4
places_few c follows = more_few c.doing
places_few c owes = omega arith
places_few c (resumes sending) = let few : resuming_places sending.stage ≤ 3 = resuming_few sending.stage in omega (arith, few)
places_few c (kills before) = let few : killing_places before.killing ≤ 1 = killing_few before.killing in omega (arith, few)
places_few c renewed = omega arith

-- to a closing
pub landing_few : (l : Landing) → landing_places l ≤ 1
landing_few lands = omega arith
landing_few (lands_aggregate sending) = omega arith
landing_few (lands_replaced before) = omega arith
landing_few (ends sending) = ending_few sending.stage
