-- The moves of an open stream that send or hear something.
use Rattle.std.proofs.Common.{◌≡◌, ◌≢◌, ◌⊎◌, ℕ, ℤ, pos, List, [], ◌∷◌, ◌++◌, length, Option, Some, None, refl, sym, ap, ◌∙◌, subst, inl, inr}
use Rattle.std.specs.Prelude.{slice_get}
use Rattle.mg_bson.specs.Tree.{Tree, Fields}
use Rattle.mg_link.specs.Namespace.{Space}
use Rattle.mg_server.specs.State.{State, Watch}
use Rattle.mg_server.specs.Commands.{Asked, asks_more, Told, refuses, inserted, opened, gave, killed, garbled, Batch, asked, told, updated, deleted, done}
use Rattle.mg_server.specs.History.{Step, IsLegal, state_of, told_at}
use Rattle.mg_link.specs.Log.{Sight, reply, Call, see}
use Rattle.mg_link.specs.Link as link
use Rattle.mg_link.specs.Link.{Adds, Sees}
use Rattle.mg_server.specs.Standing.{Names, Stands}
use Rattle.mg_server.specs.Owner.{IsOf, Owns, by_id, by_reply, NamesOwn}
use Rattle.mg_server.specs.Follow.{resting, holding, asking, owing, Follow, waited, owner_of, CursorAt, Brings, AfterMore, CameAs, Facts, KnowsOpen, IsOpen, Moved, Reads, HasNoBatch}
use Rattle.mg_server.specs.Moves.{given_with, owed}
use Rattle.mg_server.proofs.Owners.{same_some, BackTo}
use Rattle.mg_server.proofs.Apart.{Sends, passes_same, seen_still, onward_seen, took_last, step_last}
use Rattle.mg_server.proofs.Follows.{knows_kept}
use Rattle.mg_server.proofs.Heard.{HeardStep, heard_at, giving_heard, nothing_heard}
use Rattle.mg_server.proofs.Sent.{more_tells}
use Rattle.mg_server.proofs.Moving.{known, known_as, hand_as, waits_last, moved_added, moved_seen, moved_quiet, moved_here, moved_on, same_opened, open_added, open_seen}
use Rattle.mg_server.proofs.Openings.{IsNext}

-- ---- one move after another

pub stayed : (log log' : link.LogTold) (f : Follow) → log' ≡ log → Moved log log' f f
stayed log log' f same calls told =
    (calls, same ∙ told, record { knows = λ k. k; passes = λ k. passes_same calls (owner_of f) k.owned })

pub moved : (log log' log'' : link.LogTold) (f f' f'' : Follow) → Moved log log' f f' → Moved log' log'' f' f'' → Moved log log'' f f''
moved log log' log'' f f' f'' p q calls told =
    let x = p calls told in
    let y = q x.0 x.1 in
    (y.0, y.1, moved_on calls x.0 y.0 f f' f'' x.2 y.2)

-- ---- what may be lost

quiet_sends : (calls : List Call) (f : Follow) → Sends calls (owner_of f) (owner_of (owed f))
quiet_sends calls f = record { ids = λ x of ne. of; last = λ k of. elim of [ inl e ↦ absurd cc | inr none ↦ absurd none ] }

-- An answer came to a call of an open stream, whatever it was: the token and what was answered stay.
pub gave_up_seen : (log log' : link.LogTold) (f : Follow) (place : Option ℕ) (seen : Sight) → IsOpen f.doing → Sees log log' place seen → Moved log log' f (owed f)
gave_up_seen log log' f place seen is_open sees calls told =
    let s = sees calls told in (
      see s.0 seen calls,
      s.5,
      moved_quiet s.0 seen calls s.1 f (owed f) s.3 s.4 refl (λ x of ne. of)
          (λ k. open_seen s.0 seen calls s.1 f owing f.cursor f.old f.ahead f.upto s.3 s.4 (λ history legal stands stands' position facts. tt) (known calls f is_open k)),
    )

-- A call that names its own cursors only was sent or lost at once: also the closing of a stream.
pub gave_up_added : (log log' : link.LogTold) (f : Follow) (command : List ℕ) (seen : Sight) → IsOpen f.doing → NamesOwn (owner_of f) (asked command) → Adds log log' command seen → Moved log log' f (owed f)
gave_up_added log log' f command seen is_open own adds calls told =
    let add = adds calls told in
    let call : Call = record { command = command; position = add.0; seen = seen } in (
      calls ++ call ∷ [],
      add.1,
      moved_added calls call f (owed f) own (quiet_sends calls f)
          (λ k. open_added calls call f owing (known calls f is_open k) (λ history p b placed position facts. tt) (λ history none place. tt)),
    )

-- An open stream gave up what it had in hand.
pub gave_up : (log log' : link.LogTold) (f : Follow) → IsOpen f.doing → log' ≡ log → Moved log log' f (owed f)
gave_up log log' f is_open same calls told = (
  calls,
  same ∙ told,
  moved_here calls f (owed f) refl (λ x of ne. of) (λ k.
      let kn = known calls f is_open k in
      record {
        opened = same_opened calls f (owed f) refl refl refl kn.opened;
        facts = λ history legal stands position placed.
            let facts = kn.facts history legal stands position placed in
            record { from = facts.from; begins = facts.begins; place = facts.place; reached = facts.reached; hand = tt };
      }),
)

-- An answer came that the stream does not wait for: that to the killing of its old cursor.
pub other_seen : (log log' : link.LogTold) (f : Follow) (place : Option ℕ) (seen : Sight) → waited f.doing ≡ None → Sees log log' place seen → Moved log log' f f
other_seen log log' f place seen none sees calls told =
    let s = sees calls told in (
      see s.0 seen calls,
      s.5,
      moved_quiet s.0 seen calls s.1 f f s.3 s.4 none (λ x of ne. of)
          (λ k. (knows_kept calls (see s.0 seen calls) f (onward_seen s.0 seen calls s.1 (owner_of f) s.3 s.4) k).by),
    )

-- ---- getMore

pub names_cursor : (f : Follow) (command : List ℕ) (space : Space) → f.cursor ≢ pos 0 → asked command ≡ asks_more f.cursor space → NamesOwn (owner_of f) (asked command)
names_cursor f command space nz is x names =
    let same : f.cursor ≡ x = subst (λ (a : Asked). Names a x) is names in
    (inl same, λ e. nz (same ∙ e))

-- the answer to the call that waits comes from its last place in the log
pub at_last : (calls : List Call) (call : Call) (history : List Step) (place : Option ℕ) (position : ℕ) (step : Step) → place ≡ Some (length calls) → CameAs (calls ++ call ∷ []) history place position step → call.position ≡ Some position
at_last calls call history place position step last came = took_last calls call history came.0 position step (same_some came.0 (length calls) (sym came.1 ∙ last)) came.2

-- the step that came is the one of that call
pub same_step : (calls : List Call) (call : Call) (history : List Step) (place : Option ℕ) (p position : ℕ) (step : Step) (b : BackTo calls call history p) → place ≡ Some (length calls) → call.position ≡ Some p → CameAs (calls ++ call ∷ []) history place position step → (position ≡ p) × (b.step ≡ step)
same_step calls call history place p position step b last placed came =
    let one : position ≡ p = same_some position p (sym (at_last calls call history place position step last came) ∙ placed) in
    (one, step_last calls call history p step b (subst (λ n. slice_get history n ≡ Some step) one came.2.there))

-- A getMore of the stream's cursor was sent.
pub more_sent : (log log' : link.LogTold) (f : Follow) (place : Option ℕ) (command : List ℕ) (space : Space) (seen : Sight) → f.doing ≡ resting → f.cursor ≢ pos 0 → asked command ≡ asks_more f.cursor space → Adds log log' command seen → IsNext log place
    → Moved log log' f (record f { doing = asking place })
more_sent log log' f place command space seen is nz asks adds at calls told =
    let add = adds calls told in
    let call : Call = record { command = command; position = add.0; seen = seen } in
    let last = at calls told in (
      calls ++ call ∷ [],
      add.1,
      moved_added calls call f (record f { doing = asking place }) (names_cursor f command space nz asks)
          (record { ids = λ x of ne. of; last = λ k of. waits_last calls place last k of })
          (λ k. open_added calls call f (asking place) (known_as calls f resting is k)
          (λ history p b placed position facts q step came.
          let same = same_step calls call history place p q step b last placed came in
          let given = k.owned.given b.before b.legal b.stands f.cursor (inl refl) nz in
          let tells = more_tells calls call history p b f.watch f.cursor facts.place space asks nz (hand_as calls b.before f position resting is facts) given in
          record {
            space = space;
            asks = ap (λ (s : Step). asked s.command) (sym same.1) ∙ ap asked b.command ∙ asks;
            tells = subst (λ (s : Step). AfterMore (state_of history) f.watch f.cursor facts.place (told_at s)) same.1 tells;
          })
          (λ history none p q step came. let bad : None ≡ Some q = sym none ∙ at_last calls call history place q step last came in absurd cc)),
    )

module _ (calls : List Call) (k : ℕ) (call : Call) (f : Follow) (place : Option ℕ) (bytes : List ℕ) (batch : Batch) (is : f.doing ≡ asking place) (at : place ≡ Some k) (found : slice_get calls k ≡ Some call) (reads : Reads bytes batch) where
  told_giving : (history : List Step) (position : ℕ) (facts : Facts calls history f position) → (h : HeardStep calls history k bytes call) → Brings (state_of history) f.watch facts.place f.cursor batch.events batch.token × ((batch.id ≡ f.cursor) ⊎ (batch.id ≡ pos 0))
  told_giving history position facts h =
      let a = hand_as calls history f position (asking place) is facts h.position h.step (k, at, h.took) in
      subst (λ (t : Told). AfterMore (state_of history) f.watch f.cursor facts.place t) (giving_heard h.step f.cursor a.space bytes batch a.asks h.fits reads) a.tells

  owns_given : (calls' : List Call) (history : List Step) → (batch.id ≡ f.cursor) ⊎ (batch.id ≡ pos 0) → (x : ℤ) → Owns calls' history (owner_of (given_with f batch)) x → Owns calls history (owner_of f) x
  owns_given calls' history (inl same) x (by_id (inl e) ne) = by_id (inl (sym same ∙ e)) ne
  owns_given calls' history (inr none) x (by_id (inl e) ne) = absurd (ne (sym e ∙ none))
  owns_given calls' history which x (by_id (inr (inl e)) ne) = absurd (ne (sym e))
  owns_given calls' history which x (by_id (inr (inr none)) ne) = absurd none
  owns_given calls' history which x (by_reply n p step (inl e) took opens) = let bad : None ≡ Some n = e in absurd cc
  owns_given calls' history which x (by_reply n p step (inr none) took opens) = absurd none

cursor_or_none : (s : State) (w : Watch) (c id : ℤ) (place : ℕ) → (id ≡ c) ⊎ (id ≡ pos 0) → CursorAt s w c place → CursorAt s w id place
cursor_or_none s w c id place (inl same) at = subst (λ (n : ℤ). CursorAt s w n place) (sym same) at
cursor_or_none s w c id place (inr none) at = λ d ne there. absurd (ne none)

pub with_cursor : (s : State) (w : Watch) (place : ℕ) (c id : ℤ) (events : List Fields) (token : Option Tree) → (id ≡ c) ⊎ (id ≡ pos 0) → Brings s w place c events token → Brings s w place id events token
with_cursor s w place c id events token which g = record { upto = g.upto; forward = g.forward; within = g.within; these = g.these; named = g.named; stands = cursor_or_none s w c id g.upto which g.stands }

-- the id is that of the cursor, or 0
ids_or_none : (f : Follow) (cursor : ℤ) → (cursor ≡ f.cursor) ⊎ (cursor ≡ pos 0) → (x : ℤ) → IsOf (cursor ∷ pos 0 ∷ []) x → x ≢ pos 0 → IsOf (f.cursor ∷ f.old ∷ []) x
ids_or_none f cursor (inl same) x (inl e) ne = inl (sym same ∙ e)
ids_or_none f cursor (inr zero_is) x (inl e) ne = absurd (ne (sym e ∙ zero_is))
ids_or_none f cursor which x (inr (inl e)) ne = absurd (ne (sym e))
ids_or_none f cursor which x (inr (inr none)) ne = absurd none

-- the facts that an open stream has in a history where its log stands
pub facts_in : (calls : List Call) (f : Follow) → KnowsOpen calls f → (history : List Step) → IsLegal history → Stands calls history → (position : ℕ) × Facts calls history f position
facts_in calls f kn history legal stands =
    let p = stands.placed kn.opened.at kn.opened.call kn.opened.bytes kn.opened.found kn.opened.heard in
    (p.0, kn.facts history legal stands p.0 p.1)

-- The batch of a getMore came.
pub more_heard : (log log' : link.LogTold) (f : Follow) (place : Option ℕ) (bytes : List ℕ) (batch : Batch) → f.doing ≡ asking place → Reads bytes batch → Sees log log' place (reply bytes) → Moved log log' f (given_with f batch)
more_heard log log' f place bytes batch is reads sees calls told =
    let s = sees calls told in (
      see s.0 (reply bytes) calls,
      s.5,
      moved_seen s.0 (reply bytes) calls s.1 f (given_with f batch) s.3 s.4 refl
          (λ k history legal stands stands' x owns.
          let facts = facts_in calls f (known_as calls f (asking place) is k) history legal stands in
          let h = heard_at s.0 bytes calls s.1 history s.3 stands' in
          let r = told_giving calls s.0 s.1 f place bytes batch is s.2 s.3 reads history facts.0 facts.1 h in
          owns_given calls s.0 s.1 f place bytes batch is s.2 s.3 reads (see s.0 (reply bytes) calls) history r.1 x owns)
          (λ k history legal stands stands' x of ne.
          let facts = facts_in calls f (known_as calls f (asking place) is k) history legal stands in
          let h = heard_at s.0 bytes calls s.1 history s.3 stands' in
          let r = told_giving calls s.0 s.1 f place bytes batch is s.2 s.3 reads history facts.0 facts.1 h in
          seen_still s.0 (reply bytes) calls s.1 (owner_of f) s.3 s.4 k.owned history legal stands x (ids_or_none f batch.id r.1 x of ne) ne)
          (λ k. open_seen s.0 (reply bytes) calls s.1 f holding batch.id (pos 0) batch.events batch.token s.3 s.4
          (λ history legal stands stands' position facts.
          let h = heard_at s.0 bytes calls s.1 history s.3 stands' in
          let r = told_giving calls s.0 s.1 f place bytes batch is s.2 s.3 reads history position facts h in
          (with_cursor (state_of history) f.watch facts.place f.cursor batch.id batch.events batch.token r.1 r.0, λ ne. absurd (ne refl)))
          (known_as calls f (asking place) is k)),
    )

-- a reply without a batch leaves the cursor where it stood, or is none that a server may give
rests_by : (s : State) (w : Watch) (c : ℤ) (place : ℕ) (said : Told) → HasNoBatch said → AfterMore s w c place said → CursorAt s w c place
rests_by s w c place (refuses code labels) none h = h
rests_by s w c place garbled none h = absurd h
rests_by s w c place (opened id space events token time) none h = absurd none
rests_by s w c place (gave id space events token) none h = absurd none
rests_by s w c place (inserted n failures) none h = absurd none
rests_by s w c place (updated n changed failures) none h = absurd none
rests_by s w c place (deleted n failures) none h = absurd none
rests_by s w c place done none h = absurd none
rests_by s w c place killed none h = absurd none

-- The reply to a getMore held no batch: the stream keeps its cursor, or has it no more.
pub more_refused : (log log' : link.LogTold) (f : Follow) (place : Option ℕ) (bytes : List ℕ) (cursor : ℤ) → f.doing ≡ asking place → (cursor ≡ f.cursor) ⊎ (cursor ≡ pos 0) → ((space : Space) → HasNoBatch (told (asks_more f.cursor space) bytes)) → Sees log log' place (reply bytes)
    → Moved log log' f (record f { doing = resting; cursor = cursor; old = pos 0; ahead = [] })
more_refused log log' f place bytes cursor is which none sees calls told =
    let s = sees calls told in
    let f' : Follow = record f { doing = resting; cursor = cursor; old = pos 0; ahead = [] } in (
      see s.0 (reply bytes) calls,
      s.5,
      moved_quiet s.0 (reply bytes) calls s.1 f f' s.3 s.4 refl (ids_or_none f cursor which)
          (λ k. open_seen s.0 (reply bytes) calls s.1 f resting cursor (pos 0) [] f.upto s.3 s.4
          (λ history legal stands stands' position facts.
          let h = heard_at s.0 bytes calls s.1 history s.3 stands' in
          let a = hand_as calls history f position (asking place) is facts h.position h.step (s.0, s.2, h.took) in
          let said = nothing_heard h.step f.cursor a.space bytes a.asks h.fits (none a.space) in
          cursor_or_none (state_of history) f.watch f.cursor cursor facts.place which (rests_by (state_of history) f.watch f.cursor facts.place (told_at h.step) said a.tells))
          (known_as calls f (asking place) is k)),
    )
