use Rattle.mg_players.specs.Playing.{job_ticket}
use Rattle.mg_jobs.proofs.run.counted.Given as goal

abbrev pub ghosts-counted_since : goal.ghosts-counted_since
ghosts-counted_since g a = record {
  calls = g.L.Link.log a.link;
  awaited = g.L.Link.awaited a.link;
  held = job_ticket a.turn.player;
  pends = g.L.Link.pends a.link;
  polls = g.L.Link.polls a.link;
  prompts = g.L.Link.prompt a.link;
}
