use Rattle.std.proofs.Common.{◌≡◌, ◌≢◌, ◌≤◌, ◌<◌, ◌-◌, ◌+◌, ◌++◌, ℕ, List, length, drop, min, sym, ap, subst, ◌∙◌, arith}
use Rattle.mg_gridfs.specs.DownloadView.{front_in, hand_of, rest_of}
use Rattle.mg_gridfs.proofs.Hands.{gave_all, gave_full, gave_more, gave_none, hand_front, hand_given, none_copied, room_copied}
use Rattle.mg_gridfs.proofs.hand.Hand.give.Goals as goal

pub chunks-init : goal.chunks-init
chunks-init c = record { gave = gave_none (hand_of c.args.self.now) c.args.room.now; holds = c.requires }

pub front-whole-requires : goal.front-whole-requires
front-whole-requires c = c.chunks.invariant.holds

pub copy_front-count-requires : goal.copy_front-count-requires
copy_front-count-requires c = let more : c.chunks.filled < length c.chunks.room = c.chunks-test.true in omega arith

pub pass-requires-clause-holds : goal.pass-requires-clause-holds
pass-requires-clause-holds c = c.chunks.invariant.holds

pub pass-requires-clause-there : goal.pass-requires-clause-there
pass-requires-clause-there c =
    let same = ap (length {A = ℕ}) c.front-whole.ensures.left in
    let is : c.copy_front-count.result ≡ min (length c.front-whole.result.0.now) (length c.chunks.room - c.chunks.filled) = c.copy_front-count.ensures.count in
    omega arith

pub pass-requires-clause-whole : goal.pass-requires-clause-whole
pass-requires-clause-whole c = c.front-whole.ensures.whole

pub chunks-preserved : goal.chunks-preserved
chunks-preserved c =
    let h = c.chunks.self in
    let more : c.chunks.filled < length c.chunks.room = c.chunks-test.true in
    let fits : c.chunks.filled ≤ length c.chunks.room = omega arith in
    record {
      gave = gave_more (hand_of c.args.self.now) c.args.room.now c.chunks.filled c.chunks.room (hand_of h) c.front-whole.result.0.now c.copy_front-count.result c.copy_front-count.new.room (hand_of c.pass.new.self) c.chunks.invariant.gave fits
          (record {
            rest = rest_of h;
            parts = subst (λ (l : List ℕ). hand_of h ≡ l ++ rest_of h) (sym c.front-whole.ensures.left) (hand_front h c.chunks.invariant.holds);
            count_is = c.copy_front-count.ensures.count;
            room_is = c.copy_front-count.ensures.copied;
            left_is = c.pass.ensures.left;
          });
      holds = c.pass.ensures.keeps;
    }

pub chunks-smaller : goal.chunks-smaller
chunks-smaller c =
    let more : c.chunks.filled < length c.chunks.room = c.chunks-test.true in
    let some : c.copy_front-count.result ≢ 0 = c.if-count-eq0.false in
    let same = ap (length {A = ℕ}) c.front-whole.ensures.left in
    let is : c.copy_front-count.result ≡ min (length c.front-whole.result.0.now) (length c.chunks.room - c.chunks.filled) = c.copy_front-count.ensures.count in
    let long : length c.copy_front-count.new.room ≡ length c.chunks.room = room_copied c.chunks.filled c.copy_front-count.result c.front-whole.result.0.now c.chunks.room c.copy_front-count.new.room (omega arith) is c.copy_front-count.ensures.copied in
    omega arith

-- ---- nothing is left

pub returns-then-count-eq0-clause-count : goal.returns-then-count-eq0-clause-count
returns-then-count-eq0-clause-count c =
    let h = c.chunks.self in
    let more : c.chunks.filled < length c.chunks.room = c.chunks-test.true in
    let none : c.copy_front-count.result ≡ 0 = c.if-count-eq0.true in
    let is : c.copy_front-count.result ≡ min (length c.front-whole.result.0.now) (length c.chunks.room - c.chunks.filled) = c.copy_front-count.ensures.count in
    let same = ap (length {A = ℕ}) c.front-whole.ensures.left in
    let short : length (drop h.given (front_in h.batch)) ≡ 0 = omega arith in
    gave_all (hand_of c.args.self.now) c.args.room.now c.chunks.filled c.chunks.room (hand_of h) c.chunks.invariant.gave (hand_given h c.chunks.invariant.holds short)

pub returns-then-count-eq0-clause-given : goal.returns-then-count-eq0-clause-given
returns-then-count-eq0-clause-given c =
    let more : c.chunks.filled < length c.chunks.room = c.chunks-test.true in
    let none : c.copy_front-count.result ≡ 0 = c.if-count-eq0.true in
    none_copied c.chunks.filled c.copy_front-count.result c.front-whole.result.0.now c.chunks.room c.copy_front-count.new.room none c.copy_front-count.ensures.copied ∙ c.chunks.invariant.gave.room_is

pub returns-then-count-eq0-clause-left : goal.returns-then-count-eq0-clause-left
returns-then-count-eq0-clause-left c = c.chunks.invariant.gave.left_is

pub returns-then-count-eq0-clause-keeps : goal.returns-then-count-eq0-clause-keeps
returns-then-count-eq0-clause-keeps c = c.chunks.invariant.holds

-- ---- the room is full

pub returns-clause-count : goal.returns-clause-count
returns-clause-count c =
    let full : length c.chunks.room ≤ c.chunks.filled = c.chunks-test.false in
    gave_full (hand_of c.args.self.now) c.args.room.now c.chunks.filled c.chunks.room (hand_of c.chunks.self) c.chunks.invariant.gave full

pub returns-clause-given : goal.returns-clause-given
returns-clause-given c = c.chunks.invariant.gave.room_is

pub returns-clause-left : goal.returns-clause-left
returns-clause-left c = c.chunks.invariant.gave.left_is

pub returns-clause-keeps : goal.returns-clause-keeps
returns-clause-keeps c = c.chunks.invariant.holds
