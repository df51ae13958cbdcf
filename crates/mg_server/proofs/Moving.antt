-- What every move of a stream takes: a call of its own, an answer to one, or none.
use Rattle.std.proofs.Common.{◌≡◌, ◌≢◌, ℕ, ◌<◌, ℤ, pos, List, [], ◌∷◌, ◌++◌, length, Option, Some, None, refl, sym, ap, ◌∙◌, subst, inl, inr}
use Rattle.std.specs.Prelude.{slice_get}
use Rattle.mg_bson.specs.Tree.{Tree, Fields}
use Rattle.mg_server.specs.Commands.{asked, asks_watch}
use Rattle.mg_server.specs.History.{Step, IsLegal, state_of}
use Rattle.mg_link.specs.Log.{Sight, waiting, Call, see}
use Rattle.mg_server.specs.Standing.{Stands}
use Rattle.mg_server.specs.Owner.{IsOf, nobody, Owns, NamesOwn, IsGrown}
use Rattle.mg_server.specs.Follow.{Doing, unopened, starting, resting, holding, asking, owing, resuming, Follow, waited, owner_of, Hand, Facts, Opened, KnowsOpen, KnowsBy, Knows, IsOpen, MovedIn}
use Rattle.mg_server.proofs.Owners.{same_some, grown_push, grown_see, BackTo, back_to, stands_without, stands_unseen}
use Rattle.mg_server.proofs.Apart.{earlier_some, nobody_named, Sends, OwnsOld, SawGiven, seen_still, owns_from, holds_added, holds_seen, passes_added, passes_seen, passes_here, passes_on}
use Rattle.mg_server.proofs.Follows.{later_of, opening_of, reached_later, placed_within, opened_grown}

-- ---- what a stream knows, by what it is doing

open_by : (calls : List Call) (f : Follow) (d : Doing) → IsOpen d → KnowsBy d calls f → KnowsOpen calls f
open_by calls f unopened o k = absurd o
open_by calls f (starting place) o k = absurd o
open_by calls f resting o k = k
open_by calls f holding o k = k
open_by calls f (asking place) o k = k
open_by calls f owing o k = k
open_by calls f (resuming place) o k = k

pub known : (calls : List Call) (f : Follow) → IsOpen f.doing → Knows calls f → KnowsOpen calls f
known calls f is_open k = open_by calls f f.doing is_open k.by

pub known_as : (calls : List Call) (f : Follow) (d : Doing) → f.doing ≡ d → Knows calls f → KnowsBy d calls f
known_as calls f d is k = subst (λ (e : Doing). KnowsBy e calls f) is k.by

pub hand_as : (calls : List Call) (history : List Step) (f : Follow) (position : ℕ) (d : Doing) → f.doing ≡ d → (facts : Facts calls history f position) → Hand calls history (state_of history) f facts.place d
hand_as calls history f position d is facts = subst (λ (e : Doing). Hand calls history (state_of history) f facts.place e) is facts.hand

-- a stream that waits for nothing
pub quiet : (o : Option ℕ) → o ≡ None → (n : ℕ) → IsOf (o ∷ []) (Some n) → ⊥
quiet o none n (inl is) = let bad : None ≡ Some n = sym none ∙ is in absurd cc
quiet o none n (inr is) = is

-- a stream that waits for the last call
pub waits_last : (calls : List Call) (o : Option ℕ) → o ≡ Some (length calls) → (k : ℕ) → IsOf (o ∷ []) (Some k) → k ≡ length calls
waits_last calls o last k (inl is) = same_some k (length calls) (sym is ∙ last)
waits_last calls o last k (inr is) = absurd is

-- ---- moves over the calls

-- a call was added that names the stream's own cursors only
pub moved_added : (calls : List Call) (call : Call) (f f' : Follow) → NamesOwn (owner_of f) (asked call.command) → Sends calls (owner_of f) (owner_of f') → (Knows calls f → KnowsBy f'.doing (calls ++ call ∷ []) f') → MovedIn calls (calls ++ call ∷ []) f f'
moved_added calls call f f' own sends by =
    record {
      knows = λ k. record { owned = holds_added calls call (owner_of f) (owner_of f') sends k.owned; by = by k };
      passes = λ k. passes_added calls call (owner_of f) (owner_of f') own sends k.owned;
    }

-- a call that waited saw something
pub moved_seen : (n : ℕ) (seen : Sight) (calls : List Call) (call : Call) (f f' : Follow) → slice_get calls n ≡ Some call → call.seen ≡ waiting → waited f'.doing ≡ None
    → (Knows calls f → OwnsOld calls (see n seen calls) (owner_of f) (owner_of f')) → (Knows calls f → SawGiven calls (see n seen calls) (owner_of f')) → (Knows calls f → KnowsBy f'.doing (see n seen calls) f') → MovedIn calls (see n seen calls) f f'
moved_seen n seen calls call f f' found waits none old saw by =
    record {
      knows = λ k. record { owned = holds_seen n seen calls call (owner_of f) (owner_of f') found waits (quiet (waited f'.doing) none) (old k) (saw k) k.owned; by = by k };
      passes = λ k. passes_seen n seen calls call (owner_of f) (owner_of f') found waits (quiet (waited f'.doing) none) (old k) (saw k) k.owned;
    }

-- the ids are among those that the stream had
abbrev pub IdsFrom : Follow → Follow → Type 0
IdsFrom f f' = (x : ℤ) → IsOf (f'.cursor ∷ f'.old ∷ []) x → x ≢ pos 0 → IsOf (f.cursor ∷ f.old ∷ []) x

pub follow_owns_from : (calls calls' : List Call) (history : List Step) (f f' : Follow) → waited f'.doing ≡ None → IdsFrom f f' → (x : ℤ) → Owns calls' history (owner_of f') x → Owns calls history (owner_of f) x
follow_owns_from calls calls' history f f' none ids x owns = owns_from calls calls' history (owner_of f) (owner_of f') (quiet (waited f'.doing) none) ids x owns

-- a call saw something that gave the stream no cursor
pub moved_quiet : (n : ℕ) (seen : Sight) (calls : List Call) (call : Call) (f f' : Follow) → slice_get calls n ≡ Some call → call.seen ≡ waiting → waited f'.doing ≡ None → IdsFrom f f' → (Knows calls f → KnowsBy f'.doing (see n seen calls) f') → MovedIn calls (see n seen calls) f f'
moved_quiet n seen calls call f f' found waits none ids by =
    moved_seen n seen calls call f f' found waits none
    (λ k history legal stands stands' x owns. follow_owns_from calls (see n seen calls) history f f' none ids x owns)
    (λ k history legal stands stands' x is ne. seen_still n seen calls call (owner_of f) found waits k.owned history legal stands x (ids x is ne) ne)
    by

-- the stream moved by itself
pub moved_here : (calls : List Call) (f f' : Follow) → waited f'.doing ≡ None → IdsFrom f f' → (Knows calls f → KnowsBy f'.doing calls f') → MovedIn calls calls f f'
moved_here calls f f' none ids by =
    let passes = λ (k : Knows calls f). passes_here calls (owner_of f) (owner_of f') (quiet (waited f'.doing) none) ids k.owned in
    record { knows = λ k. record { owned = (passes k).holds; by = by k }; passes = passes }

pub moved_on : (a b c : List Call) (f f' f'' : Follow) → MovedIn a b f f' → MovedIn b c f' f'' → MovedIn a c f f''
moved_on a b c f f' f'' p q =
    record {
      knows = λ k. q.knows (p.knows k);
      passes = λ k. passes_on a b c (owner_of f) (owner_of f') (owner_of f'') (p.passes k) (q.passes (p.knows k));
    }

-- ---- knowledge of an open stream

abbrev pub same_opened : (calls : List Call) (f f' : Follow) → f'.opened ≡ f.opened → f'.watch ≡ f.watch → f'.start ≡ f.start → Opened calls f → Opened calls f'
same_opened calls f f' same watch start o =
    record { at = o.at; is = same ∙ o.is; call = o.call; bytes = o.bytes; found = o.found; watches = o.watches ∙ ap (λ w. asks_watch w f.start) (sym watch) ∙ ap (asks_watch f'.watch) (sym start); heard = o.heard }

-- what it has in hand, one call later
pub open_added : (calls : List Call) (call : Call) (f : Follow) (d : Doing) → KnowsOpen calls f
    → ((history : List Step) (p : ℕ) (b : BackTo calls call history p) → call.position ≡ Some p → (position : ℕ) (facts : Facts calls b.before f position) → Hand (calls ++ call ∷ []) history (state_of history) (record f { doing = d }) facts.place d)
    → ((history : List Step) → call.position ≡ None → (place : ℕ) → Hand (calls ++ call ∷ []) history (state_of history) (record f { doing = d }) place d)
    → KnowsOpen (calls ++ call ∷ []) (record f { doing = d })
open_added calls call f d kn some none =
    record {
      opened = opened_grown calls (calls ++ call ∷ []) f (record f { doing = d }) refl refl refl (grown_push calls call) kn.opened;
      facts = λ history legal stands position placed.
          let r = (grown_push calls call).keeps kn.opened.at kn.opened.call kn.opened.found in
          facts_by history call.position refl legal stands position (sym r.3 ∙ placed);
    }
  where
    facts_by : (history : List Step) (o : Option ℕ) → call.position ≡ o → IsLegal history → Stands (calls ++ call ∷ []) history → (position : ℕ) → kn.opened.call.position ≡ Some position → Facts (calls ++ call ∷ []) history (record f { doing = d }) position
    facts_by history None is legal stands position placed =
        let facts = kn.facts history legal (stands_without calls call history stands is legal) position placed in
        record { from = facts.from; begins = facts.begins; place = facts.place; reached = facts.reached; hand = none history is facts.place }
    facts_by history (Some p) is legal stands position placed =
        let b = back_to calls call history stands p is legal in
        let e = earlier_some calls call nobody history p b (nobody_named calls call) in
        let facts = kn.facts b.before b.legal b.stands position placed in
        let lt : position < length b.before = placed_within calls b.before kn.opened.at kn.opened.call position b.stands kn.opened.found placed in
        record {
          from = facts.from;
          begins = opening_of calls nobody history e position f.start lt ∙ facts.begins;
          place = facts.place;
          reached = reached_later (state_of b.before) (state_of history) f.watch f.start f.token f.answered facts.from facts.place (later_of calls nobody history e) facts.reached;
          hand = some history p b is position facts;
        }

-- the same stream with something else in hand
abbrev pub with_hand : Follow → Doing → ℤ → ℤ → List Fields → Option Tree → Follow
with_hand f d cursor old ahead upto = record f { doing = d; cursor = cursor; old = old; ahead = ahead; upto = upto }

-- what it has in hand behind an answer
pub open_seen : (n : ℕ) (seen : Sight) (calls : List Call) (call : Call) (f : Follow) (d : Doing) (cursor old : ℤ) (ahead : List Fields) (upto : Option Tree) → slice_get calls n ≡ Some call → call.seen ≡ waiting
    → ((history : List Step) → IsLegal history → Stands calls history → Stands (see n seen calls) history → (position : ℕ) (facts : Facts calls history f position) → Hand (see n seen calls) history (state_of history) (with_hand f d cursor old ahead upto) facts.place d)
    → KnowsOpen calls f → KnowsOpen (see n seen calls) (with_hand f d cursor old ahead upto)
open_seen n seen calls call f d cursor old ahead upto found waits hand kn =
    let grown : IsGrown calls (see n seen calls) = grown_see n seen calls call found waits in
    record {
      opened = opened_grown calls (see n seen calls) f (with_hand f d cursor old ahead upto) refl refl refl grown kn.opened;
      facts = λ history legal stands' position placed.
          let stands = stands_unseen n seen calls call history found waits stands' in
          let r = grown.keeps kn.opened.at kn.opened.call kn.opened.found in
          let facts = kn.facts history legal stands position (sym r.3 ∙ placed) in
          record { from = facts.from; begins = facts.begins; place = facts.place; reached = facts.reached; hand = hand history legal stands stands' position facts };
    }
