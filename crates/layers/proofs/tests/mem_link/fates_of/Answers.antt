use Rattle.std.proofs.Common.{◌≡◌, ◌≤◌, ℤ, pos, length, [], refl, arith}
use Rattle.mg_bson.specs.Bytes.{bytes, le32}
use Rattle.mg_server.specs.Rules.{refusal}
use Rattle.layers.proofs.tests.mem_link.fates_of.Goals as goal

refusal_length : (code : ℤ) → length (bytes (refusal code [])) ≡ 83
unfolding le32
refusal_length code = refl

small : (code : ℤ) → length (bytes (refusal code [])) ≤ 47000000
small code = omega (arith, refusal_length code)

pub returns : goal.returns
returns c = rw (c.in_ok-push-4.ensures.items, c.in_ok-push-3.ensures.items, c.in_ok-push-2.ensures.items, c.in_ok-push.ensures.items, c.new-fates.ensures.items) (tt, (tt, (tt, (rw c.new.ensures.items (small (pos 91)), tt))))
