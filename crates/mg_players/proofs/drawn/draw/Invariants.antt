use Rattle.std.proofs.Common.{◌≡◌, ◌<◌, ℕ, true, length}
use Rattle.mg_ops.specs.Drawn.{AreLater}
use Rattle.mg_players.specs.Kept.{kept_id}
use Rattle.mg_players.proofs.drawn.draw.Given as goal

abbrev pub invariant-loop-number : goal.invariant-loop-number
invariant-loop-number g l = record {
  drawn : AreLater (g.I.IdSource.ids l.fn.ids) l._number (g.I.IdSource.ids l.ids);
  count : l.fits ≡ true → length l.kept.items ≡ l._number;
  kept : l.fits ≡ true → (k : ℕ) → k < l._number → kept_id l.kept.items k ≡ g.I.IdSource.ids l.fn.ids k;
}
