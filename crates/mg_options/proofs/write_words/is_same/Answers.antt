use Rattle.mg_options.proofs.Hints.{same_keys}
use Rattle.mg_options.proofs.write_words.is_same.Goals as goal

pub returns-in-Keys-Keys : goal.returns-in-Keys-Keys
returns-in-Keys-Keys c = rw (c.in-Keys-Keys.is-0, c.in-Keys-Keys.is-1) (same_keys c.eq.result c.in-Keys-Keys.keys c.in-Keys-Keys.other c.eq.ensures)
