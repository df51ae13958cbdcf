use Rattle.mg_link.specs.Acts.{IsOut}
use Rattle.mg_link.specs.Places.{out_at}
use Rattle.mg_cursor.specs.Client.{client_ticket}
use Rattle.jobs.proofs.tests.cursors.given_in.Given as goal

abbrev pub invariant-documents : goal.invariant-documents
invariant-documents g l = IsOut (out_at l.link.calls) (client_ticket l.stream.cursor.now.cursor)
