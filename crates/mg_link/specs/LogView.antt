-- What a logged call is seen as.
use Rattle.mg_link.specs.Log.{Sight, waiting, reply, fault, memory, Call}
use Rattle.mg_link.specs.declared.log.Seen.{Seen}
use Rattle.mg_link.specs.declared.log.Seen.TheVariants as seen
use Rattle.mg_link.specs.declared.log.LoggedCall.{LoggedCall}

-- what was seen
abbrev pub sight : Seen → Sight
sight seen.Waiting = waiting
sight (seen.Reply bytes) = reply bytes.items
sight seen.Fault = fault
sight seen.Memory = memory

-- a call of the log
abbrev pub call : LoggedCall → Call
call c = record { command = c.command; position = c.position; seen = sight c.seen }
