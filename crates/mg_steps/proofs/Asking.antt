-- Whether a command of a cursor may be sent.
use Rattle.std.proofs.Common.{◌≡◌, ◌↔◌, ℤ, Bool, true, false, IsTrue, inl, inr, refl}
use Rattle.std.specs.Prelude.{not}
use Rattle.std.proofs.lemmas.Bool.{false_from_ne_true, iff_false}
use Rattle.mg_link.specs.Pinned.{is_invalid}
use Rattle.mg_link.specs.declared.pinned.PinnedConnection.{PinnedConnection}
use Rattle.mg_steps.specs.Cursors.{IsOver, KillsIf, MayAsk}

-- it may be where it is not over
pub may_ask : (id : ℤ) (connection : PinnedConnection) (over : Bool) → (IsTrue over ↔ IsOver id connection) → over ≡ false → MayAsk id connection
may_ask id connection over means is = record {
  held = λ zero_is. iff_false means is (inl zero_is);
  reached = false_from_ne_true (is_invalid connection) (λ lost. iff_false means is (inr lost));
}

pub kills_if : (id : ℤ) (connection : PinnedConnection) (over : Bool) → (IsTrue over ↔ IsOver id connection) → KillsIf (not over) id connection
kills_if id connection true means = means.0 refl
kills_if id connection false means = may_ask id connection false means refl
