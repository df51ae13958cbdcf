-- What the calls of a stream keep of the link, and where the stream's token lies.
use Rattle.std.proofs.Common.{◌≡◌, ℕ, Bool, true, false, List, [], ◌∷◌, Option, Some, None, refl, sym, ap, ◌∙◌, subst, inl, inr, option_map}
use Rattle.std.specs.Prelude.{◌||◌}
use Rattle.mg_bson.specs.Tree.{Tree}
use Rattle.mg_link.specs.Errors.{plain}
use Rattle.mg_link.specs.Moment.{Ending, LinkKeeps, Moment, failed, finished, pending}
use Rattle.mg_link.specs.declared.error.Error.{Error}
use Rattle.mg_link.specs.declared.error.ErrorKind.TheVariants as kind
use Rattle.mg_ops.specs.declared.aggregate.ChangeStreamAggregate.{ChangeStreamAggregate}
use Rattle.mg_ops.specs.declared.change_stream.ChangeStreamData.{ChangeStreamData}
use Rattle.mg_cursor.specs.Client.{asks, holds, rests}
use Rattle.mg_cursor.specs.Client as cursors
use Rattle.mg_cursor.specs.View.{client_of, current_of}
use Rattle.mg_cursor.specs.declared.polls.TryPoll.{TryPoll}
use Rattle.mg_cursor.specs.declared.polls.TryPoll.TheVariants as try
use Rattle.mg_cursor.specs.declared.results.AdvanceResult.TheVariants as result
use Rattle.mg_cursor.proofs.Hearing.{failing, no_room, other_kind}
use Rattle.mg_change.specs.ClientStreams.{ClientStream, Doing, follows, id_in, kills, owes, remembered_by, remembered_empty, renewed, resumes, stream_ticket, token_behind}
use Rattle.mg_change.specs.StreamCalls.{CopiesBehind, CopiesEvent, EndsSeeking, GoesBehind, LendsBehind, closed, event_ending, fails, finds, kept_behind, over, pends, stepped_ending, too_often, try_ending, without_event}
use Rattle.mg_change.specs.StreamView.{IsOwnPlace, IsPlaced, IsSavedPlace, IsStream, IsThere, SavesBy, SavesWhile, changes_of, doing_of, empty_place, is_lent, known_at, place_by, token_lying}
use Rattle.mg_change.specs.declared.changes.Changes.{Changes}
use Rattle.mg_change.specs.declared.changes.Phase.{Phase}
use Rattle.mg_change.specs.declared.changes.Phase.TheVariants as phase
use Rattle.mg_steps.specs.declared.token.TokenPlace.{TokenPlace}
use Rattle.mg_steps.specs.declared.token.TokenPlace.TheVariants as place
use Rattle.mg_change.specs.declared.event_poll.EventPoll.{EventPoll}
use Rattle.mg_change.specs.declared.event_poll.EventPoll.TheVariants as poll
use Rattle.mg_change.specs.declared.event_poll.Stepped.{Stepped}
use Rattle.mg_change.specs.declared.event_poll.Stepped.TheVariants as stepped
use Rattle.mg_change.proofs.Keeping.{sound_as}

-- ---- the link

kept_ticket : (ending : Ending) (s : ClientStream) → stream_ticket (kept_behind ending s) ≡ stream_ticket s
kept_ticket pending s = refl
kept_ticket finished s = refl
kept_ticket (failed e) s = refl

-- the same stream and answer
pub as_given : (m m' : Moment) (ticket : Option ℕ) (t t' : Option ℕ) (ending ending' : Ending) → t' ≡ t → ending' ≡ ending → LinkKeeps m m' ticket t ending → LinkKeeps m m' ticket t' ending'
as_given m m' ticket t t' ending ending' is answer k = subst (λ (e : Ending). LinkKeeps m m' ticket t' e) (sym answer) (subst (λ (x : Option ℕ). LinkKeeps m m' ticket x ending) (sym is) k)

behind_ticket : (lent s' left : ClientStream) (ending : Ending) → s' ≡ kept_behind ending lent → stream_ticket lent ≡ stream_ticket left → stream_ticket s' ≡ stream_ticket left
behind_ticket lent s' left ending kept same = ap stream_ticket kept ∙ kept_ticket ending lent ∙ same

no_token : (e : Error) → e ≡ plain kind.MissingResumeToken → e.kind ≡ kind.Io → ⊥
no_token e is = other_kind e kind.MissingResumeToken is (λ bad. cc)

pub lent_keeps : (m m' : Moment) (ticket : Option ℕ) (left lent s' : ClientStream) (came : Stepped) (r : TryPoll) → LinkKeeps m m' ticket (stream_ticket left) (stepped_ending came) → LendsBehind came left lent r → s' ≡ kept_behind (try_ending r) lent → LinkKeeps m m' ticket (stream_ticket s') (try_ending r)
lent_keeps m m' ticket left lent s' stepped.Goes r k behind kept = absurd behind
lent_keeps m m' ticket left lent s' stepped.Found try.Pending k behind kept = absurd behind
lent_keeps m m' ticket left lent s' stepped.Found (try.Ready (result.Advanced t)) k behind kept =
    as_given m m' ticket (stream_ticket left) (stream_ticket s') finished finished (behind_ticket lent s' left finished kept (ap stream_ticket behind.1.given)) refl k
lent_keeps m m' ticket left lent s' stepped.Found (try.Ready result.Exhausted) k behind kept = absurd behind
lent_keeps m m' ticket left lent s' stepped.Found (try.Ready result.Waiting) k behind kept = absurd behind
lent_keeps m m' ticket left lent s' stepped.Found (try.Failed e) k behind kept =
    as_given m m' ticket (stream_ticket left) (stream_ticket s') (failed e) (failed e) (behind_ticket lent s' left (failed e) kept (ap stream_ticket behind.passed)) refl (failing m m' ticket (stream_ticket left) e (no_token e behind.error) k)
lent_keeps m m' ticket left lent s' (stepped.Gives p) r k behind kept =
    as_given m m' ticket (stream_ticket left) (stream_ticket s') (try_ending p) (try_ending r) (behind_ticket lent s' left (try_ending r) kept (ap stream_ticket behind.0)) (ap try_ending behind.1) k

pub copied_event : (m m' : Moment) (ticket : Option ℕ) (left copied s' : ClientStream) (r : EventPoll) → LinkKeeps m m' ticket (stream_ticket left) finished → CopiesEvent left copied r → s' ≡ kept_behind (event_ending r) copied → LinkKeeps m m' ticket (stream_ticket s') (event_ending r)
copied_event m m' ticket left copied s' poll.Pending k behind kept = absurd behind
copied_event m m' ticket left copied s' (poll.Ready None) k behind kept = absurd behind
copied_event m m' ticket left copied s' (poll.Ready (Some event)) k behind kept = as_given m m' ticket (stream_ticket left) (stream_ticket s') finished finished (behind_ticket copied s' left finished kept (ap stream_ticket behind.given)) refl k
copied_event m m' ticket left copied s' (poll.Failed e) k (inl behind) kept =
    as_given m m' ticket (stream_ticket left) (stream_ticket s') (failed e) (failed e) (behind_ticket copied s' left (failed e) kept (ap stream_ticket behind.passed)) refl (failing m m' ticket (stream_ticket left) e (no_token e behind.error) k)
copied_event m m' ticket left copied s' (poll.Failed e) k (inr behind) kept =
    as_given m m' ticket (stream_ticket left) (stream_ticket s') (failed e) (failed e) (behind_ticket copied s' left (failed e) kept (ap stream_ticket behind.same)) refl (failing m m' ticket (stream_ticket left) e (no_room e behind.error) k)

without_ending : (p : TryPoll) → event_ending (without_event p) ≡ try_ending p
without_ending try.Pending = refl
without_ending (try.Ready a) = refl
without_ending (try.Failed e) = refl

pub copied_keeps : (m m' : Moment) (ticket : Option ℕ) (left copied s' : ClientStream) (came : Stepped) (r : EventPoll) → LinkKeeps m m' ticket (stream_ticket left) (stepped_ending came) → CopiesBehind came left copied r → s' ≡ kept_behind (event_ending r) copied → LinkKeeps m m' ticket (stream_ticket s') (event_ending r)
copied_keeps m m' ticket left copied s' stepped.Goes r k behind kept = absurd behind
copied_keeps m m' ticket left copied s' stepped.Found r k behind kept = copied_event m m' ticket left copied s' r k behind kept
copied_keeps m m' ticket left copied s' (stepped.Gives p) r k behind kept =
    as_given m m' ticket (stream_ticket left) (stream_ticket s') (try_ending p) (event_ending r) (behind_ticket copied s' left (event_ending r) kept (ap stream_ticket behind.0)) (ap event_ending behind.1 ∙ without_ending p) k

pub sought_keeps : (m m' : Moment) (ticket : Option ℕ) (again : Bool) (left ended s' : ClientStream) (came : Stepped) (r : EventPoll) → LinkKeeps m m' ticket (stream_ticket left) (stepped_ending came) → EndsSeeking again came left ended r → s' ≡ kept_behind (event_ending r) ended → LinkKeeps m m' ticket (stream_ticket s') (event_ending r)
sought_keeps m m' ticket again left ended s' came r k (finds is behind) kept = copied_event m m' ticket left ended s' r (subst (λ (x : Stepped). LinkKeeps m m' ticket (stream_ticket left) (stepped_ending x)) is k) behind kept
sought_keeps m m' ticket again left ended s' came r k (pends is same answer) kept =
    as_given m m' ticket (stream_ticket left) (stream_ticket s') (stepped_ending came) (event_ending r) (behind_ticket ended s' left (event_ending r) kept (ap stream_ticket same)) (ap event_ending answer ∙ ap stepped_ending (sym is)) k
sought_keeps m m' ticket again left ended s' came r k (over is same answer) kept =
    as_given m m' ticket (stream_ticket left) (stream_ticket s') (stepped_ending came) (event_ending r) (behind_ticket ended s' left (event_ending r) kept (ap stream_ticket same)) (ap event_ending answer ∙ ap stepped_ending (sym is)) k
sought_keeps m m' ticket again left ended s' came r k (closed is none same answer) kept =
    as_given m m' ticket (stream_ticket left) (stream_ticket s') (stepped_ending came) (event_ending r) (behind_ticket ended s' left (event_ending r) kept (ap stream_ticket same)) (ap event_ending answer ∙ ap stepped_ending (sym is)) k
sought_keeps m m' ticket again left ended s' came r k (too_often is held many same answer) kept =
    let e : Error = plain kind.EmptyBatches in
    as_given m m' ticket (stream_ticket left) (stream_ticket s') (failed e) (event_ending r) (behind_ticket ended s' left (event_ending r) kept (ap stream_ticket same)) (ap event_ending answer)
    (failing m m' ticket (stream_ticket left) e (other_kind e kind.EmptyBatches refl (λ bad. cc)) (subst (λ (x : Stepped). LinkKeeps m m' ticket (stream_ticket left) (stepped_ending x)) is k))
sought_keeps m m' ticket again left ended s' came r k (fails e is same answer) kept =
    as_given m m' ticket (stream_ticket left) (stream_ticket s') (stepped_ending came) (event_ending r) (behind_ticket ended s' left (event_ending r) kept (ap stream_ticket same)) (ap event_ending answer ∙ ap stepped_ending (sym is)) k

-- an empty reply behind which the call goes on
pub going_keeps : (m m' : Moment) (ticket : Option ℕ) (again : Bool) (left counting : ClientStream) (came : Stepped) → LinkKeeps m m' ticket (stream_ticket left) (stepped_ending came) → GoesBehind again came left counting → LinkKeeps m m' ticket (stream_ticket counting) finished
going_keeps m m' ticket again left counting came k h =
    subst (λ (t : Option ℕ). LinkKeeps m m' ticket t finished) (sym (ap stream_ticket h.counts)) (subst (λ (x : Stepped). LinkKeeps m m' ticket (stream_ticket left) (stepped_ending x)) h.empty k)

-- ---- where the token lies

pub phase_follows : (p : Phase) → doing_of p ≡ follows → p ≡ phase.Follows
phase_follows phase.Follows h = refl
phase_follows phase.Owes h = absurd cc
phase_follows (phase.Resumes exec) h = absurd cc
phase_follows (phase.Kills before) h = absurd cc
phase_follows phase.Renewed h = absurd cc

saves_saved : (d : Doing) → SavesBy place.Saved d
saves_saved follows = tt
saves_saved owes = tt
saves_saved (resumes sending) = tt
saves_saved (kills before) = tt
saves_saved renewed = tt

saves_while : (d : cursors.Doing) → SavesWhile place.Saved d
saves_while rests = tt
saves_while (holds said) = tt
saves_while (asks sending) = tt

-- one that is saved may lie there whatever comes
pub placed_saved : (s : Changes) → s.token ≡ place.Saved → IsPlaced s
placed_saved s is = record {
  saves = subst (λ (t : TokenPlace). SavesBy t (doing_of s.phase)) (sym is) (saves_saved (doing_of s.phase));
  saves_so = subst (λ (t : TokenPlace). SavesWhile t (client_of s.batches).doing) (sym is) (saves_while (client_of s.batches).doing);
  there = subst (λ (t : TokenPlace). IsThere t (current_of s.buffer) (client_of s.batches).token) (sym is) tt;
}

pub saved_is : (t : TokenPlace) → IsSavedPlace t → t ≡ place.Saved
saved_is place.Saved h = refl
saved_is place.Event h = absurd h
saved_is place.Batch h = absurd h

pub saved_place : (t : TokenPlace) → t ≡ place.Saved → IsSavedPlace t
saved_place t is = subst IsSavedPlace (sym is) tt

pub own_saved : (t : TokenPlace) → IsSavedPlace t → IsOwnPlace t
own_saved place.Saved h = tt
own_saved place.Event h = absurd h
own_saved place.Batch h = absurd h

-- at rest, it may lie where it is there
pub placed_resting : (s : Changes) → s.phase ≡ phase.Follows → (client_of s.batches).doing ≡ rests → IsThere s.token (current_of s.buffer) (client_of s.batches).token → IsPlaced s
placed_resting s on quiet there = record {
  saves = subst (λ (p : Phase). SavesBy s.token (doing_of p)) (sym on) tt;
  saves_so = subst (λ (d : cursors.Doing). SavesWhile s.token d) (sym quiet) tt;
  there = there;
}

pub placed_counting : (s t : Changes) → t ≡ record s { counts = t.counts } → IsPlaced s → IsPlaced t
placed_counting s t is h = subst IsPlaced (sym is) (record { saves = h.saves; saves_so = h.saves_so; there = h.there })

-- the stream without what it lends
pub lends_none : (plain : Bool) (s : Changes) → IsStream plain s → IsStream plain (record s { lends = false })
lends_none plain s h = record {
  sound = sound_as plain (changes_of s) (changes_of (record s { lends = false })) refl refl refl refl h.sound;
  placed = record { saves = h.placed.saves; saves_so = h.placed.saves_so; there = h.placed.there };
}

or_true : (b : Bool) → b || true ≡ true
or_true true = refl
or_true false = refl

or_false : (b : Bool) → b || false ≡ b
or_false true = refl
or_false false = refl

-- the token behind the event that was given
pub token_behind_is : (events : List (List ℕ)) (saved batch : Option Tree) (event : List ℕ) (id : Tree) → id_in event ≡ Some id → token_lying (place_by events batch) saved (Some event) batch ≡ Some (token_behind events batch id)
token_behind_is [] saved (Some token) event id has = refl
token_behind_is [] saved None event id has = has
token_behind_is (e ∷ es) saved batch event id has = has

-- an event was given: its token is remembered
pub remembers_event : (a : ChangeStreamAggregate) (o : Option ChangeStreamData) (before : TokenPlace) (events : List (List ℕ)) (current batch : Option Tree) (last : Option (List ℕ)) (event : List ℕ) (id : Tree) → id_in event ≡ Some id
    → record a { resume = option_map (known_at (place_by events batch) (Some event) batch) (option_map (λ (known : ChangeStreamData). record known { document_returned = true }) o) } ≡ remembered_by (token_behind events batch id) true (record a { resume = option_map (known_at before last batch) o })
remembers_event a None before events current batch last event id has = refl
remembers_event a (Some known) before events current batch last event id has =
    ap (λ (t : Option Tree). record a { resume = Some (record known { resume_token = t; document_returned = true }) }) (token_behind_is events known.resume_token batch event id has)
    ∙ ap (λ (b : Bool). record a { resume = Some (record known { resume_token = Some (token_behind events batch id); document_returned = b }) }) (sym (or_true known.document_returned))

-- a batch came empty: its token is remembered, where it has one
pub remembers_empty : (a : ChangeStreamAggregate) (o : Option ChangeStreamData) (before : TokenPlace) (current : Option (List ℕ)) (batch : Option Tree)
    → record a { resume = option_map (known_at (empty_place before batch) current batch) o } ≡ remembered_empty batch (record a { resume = option_map (known_at before current batch) o })
remembers_empty a o before current None = refl
remembers_empty a None before current (Some token) = refl
remembers_empty a (Some known) before current (Some token) = ap (λ (b : Bool). record a { resume = Some (record known { resume_token = Some token; document_returned = b }) }) (sym (or_false known.document_returned))

pub there_empty : (before : TokenPlace) (current : Option (List ℕ)) (batch : Option Tree) → IsThere before current batch → IsThere (empty_place before batch) current batch
there_empty before current (Some token) h = (token, refl)
there_empty before current None h = h

pub there_event : (events : List (List ℕ)) (batch : Option Tree) (event : List ℕ) (id : Tree) → id_in event ≡ Some id → IsThere (place_by events batch) (Some event) batch
there_event [] (Some token) event id has = (token, refl)
there_event [] None event id has = (id, has)
there_event (e ∷ es) batch event id has = (id, has)

pub not_lent : (t : TokenPlace) → IsOwnPlace t → is_lent t ≡ false
not_lent place.Saved h = refl
not_lent place.Event h = absurd h
not_lent place.Batch h = refl

pub own_empty : (t : TokenPlace) (batch : Option Tree) → IsOwnPlace t → IsOwnPlace (empty_place t batch)
own_empty t (Some token) h = tt
own_empty t None h = h
