use Rattle.mg_link.specs.Acts.{IsOut}
use Rattle.mg_link.specs.Places.{out_at}
use Rattle.mg_cursor.specs.Client.{client_ticket}
use Rattle.jobs.proofs.tests.cursors.steps_words.Given as goal

abbrev pub invariant-polls : goal.invariant-polls
invariant-polls g l = IsOut (out_at l.link.calls) (client_ticket l.cursor.cursor)
