-- The moves of a stream that forgets what it had in hand.
use Rattle.std.proofs.Common.{◌≡◌, [], None, refl}
use Rattle.mg_server.specs.Follow.{resting, owing, Follow, IsOpen, Moved}
use Rattle.mg_link.specs.Link.{LogTold}
use Rattle.mg_server.proofs.Moving.{known, known_as, hand_as, moved_here, same_opened}

-- nothing is in hand
abbrev pub owing_only : Follow → Follow
owing_only f = record f { doing = owing; ahead = []; upto = None }

abbrev pub resting_only : Follow → Follow
resting_only f = record f { doing = resting; ahead = []; upto = None }

-- An open stream gave up what it had in hand, and owes.
pub gives_up : (log : LogTold) (f : Follow) → IsOpen f.doing → Moved log log f (owing_only f)
gives_up log f is_open calls told = (
  calls,
  told,
  moved_here calls f (owing_only f) refl (λ x of ne. of) (λ k.
      let kn = known calls f is_open k in
      record {
        opened = same_opened calls f (owing_only f) refl refl refl kn.opened;
        facts = λ history legal stands position placed.
            let facts = kn.facts history legal stands position placed in
            record { from = facts.from; begins = facts.begins; place = facts.place; reached = facts.reached; hand = tt };
      }),
)

-- A stream at rest has nothing in hand.
pub rest_forgets : (log : LogTold) (f : Follow) → f.doing ≡ resting → Moved log log f (resting_only f)
rest_forgets log f is calls told = (
  calls,
  told,
  moved_here calls f (resting_only f) refl (λ x of ne. of) (λ k.
      let kn = known_as calls f resting is k in
      record {
        opened = same_opened calls f (resting_only f) refl refl refl kn.opened;
        facts = λ history legal stands position placed.
            let facts = kn.facts history legal stands position placed in
            record { from = facts.from; begins = facts.begins; place = facts.place; reached = facts.reached; hand = hand_as calls history f position resting is facts };
      }),
)
