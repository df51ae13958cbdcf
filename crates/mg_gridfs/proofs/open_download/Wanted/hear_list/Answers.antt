use Rattle.mg_gridfs.proofs.open_download.Wanted.hear_list.Goals as goal

pub returns-clause-ok : goal.returns-clause-ok
returns-clause-ok c = c.hear_chunks.ensures.ok

pub returns-clause-err : goal.returns-clause-err
returns-clause-err c = c.hear_chunks.ensures.err

pub returns-clause-sound : goal.returns-clause-sound
returns-clause-sound c = c.hear_chunks.ensures.sound
