use Rattle.mg_jobs.proofs.program.run_script.Given as goal

abbrev pub ghosts-run_over : goal.ghosts-run_over
ghosts-run_over a = record { fates = a.link.fates }
