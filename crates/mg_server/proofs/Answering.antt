-- The moves of a stream that answers from its batch, and what its answers come to.
use Rattle.std.proofs.Common.{◌≡◌, ℕ, suc, ℤ, List, [], ◌∷◌, ◌++◌, length, Option, Some, None, refl, sym, ap, ap₂, ◌∙◌, subst, inl, inr, arith, append-nil}
use Rattle.std.specs.Prelude.{codes}
use Rattle.mg_bson.specs.Tree.{Tree, Fields}
use Rattle.mg_bson.specs.Find.{get}
use Rattle.mg_server.specs.State.{State, Watch, Start, nowhere, after, at_time, events_between}
use Rattle.mg_server.specs.Step.{IsNamed}
use Rattle.mg_server.specs.History.{Step, IsLegal, state_of}
use Rattle.mg_link.specs.Log.{Call}
use Rattle.mg_link.specs.Link as link
use Rattle.mg_server.specs.Owner.{Owner, Owns, by_id, by_reply, Apart}
use Rattle.mg_server.specs.Follow.{Doing, unopened, resting, holding, Follow, waited, owner_of, IsTime, IsPast, Marks, HasReached, Brings, HasNothing, KnowsBy, Knows, IsOpen, Moved, ReachedBy, FollowsOn, last_token, empty_token}
use Rattle.mg_server.proofs.Numbered.{numbered_of}
use Rattle.mg_server.proofs.Views.{first_of_view, events_join}
use Rattle.mg_server.proofs.Owners.{same_some}
use Rattle.mg_server.proofs.Moving.{known, known_as, hand_as, quiet, moved_here, same_opened}

-- the stream behind answers of its batch
abbrev pub answering : Follow → Doing → List Fields → Option Tree → List Fields → Follow
answering f d ahead token answered = record f { doing = d; ahead = ahead; token = token; answered = answered }

-- ---- an event and more behind it

-- where the first event of a batch stands in a legal history: its `_id` names the place behind it
record Popped (s : State) (f : Follow) (from place : ℕ) (e : Fields) (rest : List Fields) : Type 0 where
  at : ℕ
  token : Tree
  id : get (codes "_id") e ≡ Some token
  reached : HasReached s f.watch f.start (Some token) (f.answered ++ e ∷ []) from (suc at)
  left : Brings s f.watch (suc at) f.cursor rest f.upto

popped : (history : List Step) (f : Follow) (from place : ℕ) (e : Fields) (rest : List Fields) → IsLegal history → f.ahead ≡ e ∷ rest → HasReached (state_of history) f.watch f.start f.token f.answered from place → Brings (state_of history) f.watch place f.cursor f.ahead f.upto → Popped (state_of history) f from place e rest
popped history f from place e rest legal is reached g =
    let s : State = state_of history in
    let first = first_of_view f.watch s.changes place g.upto e rest g.forward g.within (sym g.these ∙ is) in
    let numbered = numbered_of history legal first.at first.entry first.found in
    let low = first.from in
    let high = first.below in
    let a = reached.forward in
    let b = g.within in
    record {
      at = first.at;
      token = first.entry.token;
      id = subst (λ (d : Fields). get (codes "_id") d ≡ Some first.entry.token) first.shows numbered.id;
      reached = record {
        forward = omega arith;
        within = omega arith;
        marks = numbered.named;
        these = ap₂ (λ (l m : List Fields). l ++ m) reached.these (sym first.up_to) ∙ sym (events_join f.watch s.changes from place (suc first.at) reached.forward (omega arith));
      };
      left = record { upto = g.upto; forward = first.below; within = g.within; these = sym first.left; named = g.named; stands = g.stands };
    }

-- An event was answered: its `_id` is the token now.
pub event_answered : (log log' : link.LogTold) (f : Follow) (e : Fields) (rest : List Fields) (id : Tree) → f.doing ≡ holding → f.ahead ≡ e ∷ rest → get (codes "_id") e ≡ Some id → log' ≡ log
    → Moved log log' f (answering f holding rest (Some id) (f.answered ++ e ∷ []))
event_answered log log' f e rest id is ahead id_is same calls told = (
  calls,
  same ∙ told,
  moved_here calls f (answering f holding rest (Some id) (f.answered ++ e ∷ [])) refl (λ x of ne. of) (λ k.
      let kn = known_as calls f holding is k in
      record {
        opened = same_opened calls f (answering f holding rest (Some id) (f.answered ++ e ∷ [])) refl refl refl kn.opened;
        facts = λ history legal stands position placed.
            let facts = kn.facts history legal stands position placed in
            let hand = hand_as calls history f position holding is facts in
            let p = popped history f facts.from facts.place e rest legal ahead facts.reached hand.0 in
            let one : p.token ≡ id = same_some p.token id (sym p.id ∙ id_is) in
            record {
              from = facts.from;
              begins = facts.begins;
              place = suc p.at;
              reached = subst (λ (t : Tree). HasReached (state_of history) f.watch f.start (Some t) (f.answered ++ e ∷ []) facts.from (suc p.at)) one p.reached;
              hand = (p.left, hand.1);
            };
      }),
)

-- An event without `_id` was taken: no legal history gives one.
pub event_taken : (log log' : link.LogTold) (f : Follow) (e : Fields) (rest : List Fields) → f.doing ≡ holding → f.ahead ≡ e ∷ rest → get (codes "_id") e ≡ None → log' ≡ log → Moved log log' f (answering f holding rest f.token f.answered)
event_taken log log' f e rest is ahead none same calls told = (
  calls,
  same ∙ told,
  moved_here calls f (answering f holding rest f.token f.answered) refl (λ x of ne. of) (λ k.
      let kn = known_as calls f holding is k in
      record {
        opened = same_opened calls f (answering f holding rest f.token f.answered) refl refl refl kn.opened;
        facts = λ history legal stands position placed.
            let facts = kn.facts history legal stands position placed in
            let hand = hand_as calls history f position holding is facts in
            let p = popped history f facts.from facts.place e rest legal ahead facts.reached hand.0 in
            let bad : Some p.token ≡ None = sym p.id ∙ none in
            absurd cc;
      }),
)

-- the same where it was the last of its batch
pub last_taken : (log log' : link.LogTold) (f : Follow) (e : Fields) → f.doing ≡ holding → f.ahead ≡ e ∷ [] → get (codes "_id") e ≡ None → log' ≡ log → Moved log log' f (answering f resting [] f.token f.answered)
last_taken log log' f e is ahead none same calls told = (
  calls,
  same ∙ told,
  moved_here calls f (answering f resting [] f.token f.answered) refl (λ x of ne. of) (λ k.
      let kn = known_as calls f holding is k in
      record {
        opened = same_opened calls f (answering f resting [] f.token f.answered) refl refl refl kn.opened;
        facts = λ history legal stands position placed.
            let facts = kn.facts history legal stands position placed in
            let hand = hand_as calls history f position holding is facts in
            let p = popped history f facts.from facts.place e [] legal ahead facts.reached hand.0 in
            let bad : Some p.token ≡ None = sym p.id ∙ none in
            absurd cc;
      }),
)

-- ---- the end of a batch

marks_end : (s : State) (start : Start) (from : ℕ) (upto token : Option Tree) (answered : List Fields) (place : ℕ) → IsNamed s upto place → ((u : Tree) → upto ≡ Some u → token ≡ Some u) → Marks s start from token answered place
marks_end s start from (Some u) token answered place named last = subst (λ (t : Option Tree). Marks s start from t answered place) (sym (last u refl)) named
marks_end s start from None token answered place named last = absurd named

-- All of the batch is answered: the token is that of the batch.
pub batch_done : (log log' : link.LogTold) (f : Follow) (token : Option Tree) (answered : List Fields) → f.doing ≡ holding → ((u : Tree) → f.upto ≡ Some u → token ≡ Some u) → answered ≡ f.answered ++ f.ahead → log' ≡ log
    → Moved log log' f (answering f resting [] token answered)
batch_done log log' f token answered is last all same calls told = (
  calls,
  same ∙ told,
  moved_here calls f (answering f resting [] token answered) refl (λ x of ne. of) (λ k.
      let kn = known_as calls f holding is k in
      record {
        opened = same_opened calls f (answering f resting [] token answered) refl refl refl kn.opened;
        facts = λ history legal stands position placed.
            let facts = kn.facts history legal stands position placed in
            let g = (hand_as calls history f position holding is facts).0 in
            let a = facts.reached.forward in
            let b = g.forward in
            record {
              from = facts.from;
              begins = facts.begins;
              place = g.upto;
              reached = record {
                forward = omega arith;
                within = g.within;
                marks = marks_end (state_of history) f.start facts.from f.upto token answered g.upto g.named last;
                these = all ∙ ap₂ (λ (l m : List Fields). l ++ m) facts.reached.these g.these ∙ sym (events_join f.watch (state_of history).changes facts.from facts.place g.upto facts.reached.forward g.forward);
              };
              hand = g.stands;
            };
      }),
)

last_is : (upto : Option Tree) (id u : Tree) → upto ≡ Some u → last_token upto id ≡ Some u
last_is (Some t) id u e = e
last_is None id u e = absurd cc

empty_is : (upto before : Option Tree) (u : Tree) → upto ≡ Some u → empty_token upto before ≡ Some u
empty_is (Some t) before u e = e
empty_is None before u e = absurd cc

-- The last event of a batch was answered.
pub last_answered : (log log' : link.LogTold) (f : Follow) (e : Fields) (id : Tree) → f.doing ≡ holding → f.ahead ≡ e ∷ [] → log' ≡ log → Moved log log' f (answering f resting [] (last_token f.upto id) (f.answered ++ e ∷ []))
last_answered log log' f e id is ahead same = batch_done log log' f (last_token f.upto id) (f.answered ++ e ∷ []) is (last_is f.upto id) (ap (λ (l : List Fields). f.answered ++ l) (sym ahead)) same

-- A batch came empty, and Nothing was answered.
pub nothing_answered : (log log' : link.LogTold) (f : Follow) → f.doing ≡ holding → f.ahead ≡ [] → log' ≡ log → Moved log log' f (answering f resting [] (empty_token f.upto f.token) f.answered)
nothing_answered log log' f is ahead same = batch_done log log' f (empty_token f.upto f.token) f.answered is (empty_is f.upto f.token) (sym (append-nil f.answered) ∙ ap (λ (l : List Fields). f.answered ++ l) (sym ahead)) same

-- ---- what this comes to

time_of_past : (s : State) (start : Start) (from : ℕ) → IsPast s start from → IsTime start
time_of_past s nowhere from h = h
time_of_past s (after t) from h = h
time_of_past s (at_time time) from h = tt

reached_by : (s : State) (w : Watch) (start : Start) (from : ℕ) (answered : List Fields) (token : Option Tree) (place : ℕ) → HasReached s w start token answered from place → ReachedBy s w start from answered token
reached_by s w start from answered (Some t) place h = record { place = place; forward = h.forward; named = h.marks; these = h.these }
reached_by s w start from answered None place h = (h.marks.1, time_of_past s start from h.marks.2)

-- What an open stream answered is the first of its view from the opening place on, just up to its token.
pub follows_on : (calls : List Call) (f : Follow) → IsOpen f.doing → Knows calls f → FollowsOn calls f
follows_on calls f is_open k =
    let kn = known calls f is_open k in
    record {
      opened = kn.opened;
      each = λ history legal stands.
          let p = stands.placed kn.opened.at kn.opened.call kn.opened.bytes kn.opened.found kn.opened.heard in
          let facts = kn.facts history legal stands p.0 p.1 in
          let s : State = state_of history in
          let r = facts.reached in
          let rest : List Fields = events_between f.watch s.changes facts.place (length s.changes) in
          record {
            position = p.0;
            placed = p.1;
            from = facts.from;
            begins = facts.begins;
            answers = record { rest = rest; these = events_join f.watch s.changes facts.from facts.place (length s.changes) r.forward r.within ∙ ap (λ (l : List Fields). l ++ rest) (sym r.these) };
            reached = reached_by s f.watch f.start facts.from f.answered f.token facts.place r;
          };
    }

-- ---- a new stream

owns_nothing : (calls : List Call) (history : List Step) (f : Follow) → waited f.doing ≡ None → HasNothing f → (x : ℤ) → Owns calls history (owner_of f) x → ⊥
owns_nothing calls history f none h x (by_id (inl e) ne) = ne (sym e ∙ h.no_cursor)
owns_nothing calls history f none h x (by_id (inr (inl e)) ne) = ne (sym e ∙ h.no_old)
owns_nothing calls history f none h x (by_id (inr (inr bad)) ne) = bad
owns_nothing calls history f none h x (by_reply k p step is took opens) = quiet (waited f.doing) none k is

-- A stream that has sent nothing knows, whatever was called before, and is apart from every caller.
pub knows_new : (calls : List Call) (f : Follow) → f.doing ≡ unopened → HasNothing f → Knows calls f
knows_new calls f is h =
    record {
      owned = record {
        in_log = λ k of. absurd (quiet (waited f.doing) (ap waited is) k of);
        given = λ history legal stands x of ne. absurd (owns_nothing calls history f (ap waited is) h x (by_id of ne));
        seen = λ history legal stands x of ne. absurd (owns_nothing calls history f (ap waited is) h x (by_id of ne));
      };
      by = subst (λ (d : Doing). KnowsBy d calls f) (sym is) h;
    }

pub apart_new : (calls : List Call) (f : Follow) (g : Owner) → f.doing ≡ unopened → HasNothing f → Apart calls (owner_of f) g
apart_new calls f g is h history legal stands x mine theirs = owns_nothing calls history f (ap waited is) h x mine
