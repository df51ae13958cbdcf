-- The store of a run refuses none of the steps of a put whose collections have short names, but a getMore of a namespace that no server takes; and a valid one of fresh documents ends well in its history.
use Rattle.std.proofs.Common.{◌≡◌, ◌⊎◌, ◌≤◌, ◌<◌, ◌+◌, ◌++◌, ℕ, zero, suc, ℤ, pos, Bool, List, [], ◌∷◌, length, take, Contains, Option, Some, None, Ok, refl, sym, ap, ◌∙◌, subst, inl, inr, arith}
use Rattle.std.specs.Prelude.{slice_get, slice_index_or}
use Rattle.std.specs.List.{concat}
use Rattle.mg_bson.specs.Raw.{fields}
use Rattle.mg_bson.specs.Tree.{Fields, Tree}
use Rattle.mg_server.specs.Calls.{HeardAt, HeardBy, Past}
use Rattle.mg_server.specs.Commands.{Asked, Told, asked, asks_create, asks_more, asks_other, deleted, done, garbled, gave, inserted, killed, opened, opened_by, refuses, time_in, told, updated}
use Rattle.mg_link.specs.Exec.{IsSuccess}
use Rattle.mg_server.specs.History.{IsLegal, Step, state_of, step_after, told_at}
use Rattle.mg_server.specs.Kept.{IsByRules as AreByRules, Kept, steps_of}
use Rattle.mg_server.specs.Files.{chunks_space, files_space}
use Rattle.mg_link.specs.Link.{Awaited}
use Rattle.mg_link.specs.Log.{Call, Sight, reply}
use Rattle.mg_link.specs.Namespace.{Space, space}
use Rattle.mg_server.specs.Owner.{IsOf, NamesItsOwn}
use Rattle.mg_server.specs.Prompt.{HoldsBackNone, IsPrompt}
use Rattle.mg_server.specs.Rules.{collection_exists}
use Rattle.mg_link.specs.Session.{Session}
use Rattle.mg_server.specs.Standing.{Names, OpensId, SeenFits, Stands}
use Rattle.mg_server.specs.State.{State, indexes_of}
use Rattle.mg_server.specs.Step.{Made, MayTell, effect, grown}
use Rattle.mg_server.proofs.Owners.{same_some}
use Rattle.mg_link.proofs.Places.{get_within}
use Rattle.mg_server.proofs.SelfMade.{names_whole}
use Rattle.mg_ops.specs.Bodies.{insert_command}
use Rattle.mg_ops.specs.Cursors as cursors
use Rattle.mg_ops.specs.Cursors.{OpensWith, cursor_of, next_command}
use Rattle.mg_ops.specs.Naming.{IsNamed}
use Rattle.mg_ops.specs.declared.cursor_reply.CursorSpecification.{CursorSpecification}
use Rattle.mg_ops.proofs.Asking.{asks_for_more, asks_for_more_plainly}
use Rattle.mg_ops.proofs.AskingMore.{asks_for_indexes, asks_to_create}
use Rattle.mg_ops.proofs.Reading.{named_read}
use Rattle.mg_store.specs.InMemory.{AreAsFates, AreKept}
use Rattle.mg_store.specs.declared.fate.Fate.{Fate}
use Rattle.mg_cursor.specs.Client.{ClientCursor, at_rest, get_more, new_client}
use Rattle.mg_gridfs.specs.Commands.{creation_lines, listing_lines}
use Rattle.mg_gridfs.specs.Cursors.{indexes_query}
use Rattle.mg_gridfs.specs.Indexes.{space_in}
use Rattle.mg_gridfs.specs.declared.indexes.Place.{Place}
use Rattle.mg_gridfs.specs.declared.indexes.Place.TheVariants as which
use Rattle.mg_options.specs.Fields.{fields_in}
use Rattle.mg_script.specs.declared.outcome.Ended.{Ended}
use Rattle.mg_players.specs.Causes.{AllSentIn, Course, PutEnds, places_of, sent_at}
use Rattle.mg_players.specs.Progress.{PutPlayed}
use Rattle.mg_players.specs.Gets.{no_manner}
use Rattle.mg_players.specs.InTurn.{AreInTurn}
use Rattle.mg_players.specs.Owned.{NamesNoOthers}
use Rattle.mg_players.specs.PutChecks.{any_find, creation, index_creation, listing}
use Rattle.mg_players.specs.PutFailures.{IsOfList}
use Rattle.mg_players.specs.PutSends.{chunks_removal, its_record}
use Rattle.mg_players.specs.Puts.{PutTask, Supply, put_bucket}
use Rattle.mg_players.proofs.GetSteps.{query_opens}
use Rattle.mg_players.proofs.Prompting.{lawful_at, prompted}
use Rattle.mg_jobs.specs.Completing.{EndsWell, HasShortFiles, HasShortNames, IsTaken, NoneRefused, SaysThere, SendFresh, positions_at}
use Rattle.mg_jobs.specs.Fated.{AreItsSteps}
use Rattle.mg_jobs.specs.Own.{IsHeard}
use Rattle.mg_jobs.specs.PutLimits.{HasFewIndexes, IsExcusedPut, IsValidPut}
use Rattle.mg_jobs.proofs.Created.{creations_meet, is_taken, prompt_where_taken}
use Rattle.mg_jobs.proofs.Filed.{IsMore, next_reads}
use Rattle.mg_jobs.proofs.GetTaken.{short_at}
use Rattle.mg_jobs.proofs.Granted.{granted}
use Rattle.mg_jobs.proofs.IndexesMade.{HaveOfBucket, HasCollection, few_of_bucket, indexes_at, indexes_there, put_there, there_later}
use Rattle.mg_jobs.proofs.Makers.{Makes, MakesCommand, makes_asked}
use Rattle.mg_jobs.proofs.Mild.{IsMildCommand}
use Rattle.mg_jobs.proofs.Positions.{has_position, sent_place}
use Rattle.mg_jobs.proofs.PutHeard.{IsKnown, OwnStep, a_creation, a_find, a_getMore, a_listing, a_removal, an_index, of_chunks, of_record, succeeded}
use Rattle.mg_jobs.proofs.PutKinds.{AreKinds, PutKind, creates, finds, indexes, inserts_record, into_chunks, lists, reads_on, removes}
use Rattle.mg_jobs.proofs.PutReplies.{any_told, creation_told, index_told, listing_there, listing_told, removal_told}
use Rattle.mg_jobs.proofs.PutWell.{put_well}
use Rattle.mg_jobs.proofs.QueryTaken.{of_batch, takes_space}
use Rattle.mg_jobs.proofs.Refusing.{call_at, get_kept, insert_told, took}
use Rattle.mg_jobs.proofs.StepsAt.{may_at, next_state}
use Rattle.mg_jobs.proofs.StoreRuns.{IsRuled, never_fault, ruled_at}
use Rattle.mg_jobs.proofs.WatchStands.{opens_some}

short_in : (t : PutTask) → HasShortFiles t.at → (at : Place) → HasShortNames (space_in (put_bucket t) at)
short_in t may which.Files = may.files_short
short_in t may which.Chunks = may.chunks_short

-- behind a creation the collection is there
created_there : (s : State) (step : Step) (at : Space) → asked step.command ≡ asks_create at → told_at step ≡ done → HasCollection (step_after s step).collections at
unfolding effect
created_there s step at asks says =
    let g : State = grown s step.made in
    subst (λ (a : Asked). HasCollection (effect g a (told_at step)).collections at) (sym asks)
    (subst (λ (t : Told). HasCollection (effect g (asks_create at) t).collections at) (sym says) (put_there (record { space = at; documents = []; indexes = indexes_of g at }) g.collections))

-- a reply opens a cursor only to a command that may open one
is_opened : (t : Told) (x : ℤ) → OpensId t x → (id : ℤ) × (at : Space) × (events : List Fields) × (token : Option Tree) × (time : Option ℕ) × (t ≡ opened id at events token time)
is_opened (opened id at events token time) x opens = (id, at, events, token, time, refl)
is_opened (refuses code labels) x opens = absurd opens
is_opened (inserted n failures) x opens = absurd opens
is_opened (updated n changed failures) x opens = absurd opens
is_opened (deleted n failures) x opens = absurd opens
is_opened done x opens = absurd opens
is_opened (gave id at events token) x opens = absurd opens
is_opened killed x opens = absurd opens
is_opened garbled x opens = absurd opens

module _ (s s' : State) (made : Made) where
  may_open : (a : Asked) (t : Told) (x : ℤ) → MayTell s s' a t made → OpensId t x → (id : ℤ) × (at : Space) × (events : List Fields) × (token : Option Tree) × (time : Option ℕ) × MayTell s s' a (opened id at events token time) made
  may_open a t x may opens = let o = is_opened t x opens in (o.0, o.1, o.2, o.3, o.4, subst (λ (u : Told). MayTell s s' a u made) o.5 may)

  -- a getMore opens none
  never_opens : (a : Asked) (t : Told) (x : ℤ) → IsMore a → MayTell s s' a t made → OpensId t x → ⊥
  never_opens a t x (inl m) may opens = (may_open (asks_more m.0 m.1) t x (subst (λ (b : Asked). MayTell s s' b t made) m.2 may) opens).5
  never_opens a t x (inr other) may opens = (may_open asks_other t x (subst (λ (b : Asked). MayTell s s' b t made) other may) opens).5

module _ (history : List Kept) (fates : List Fate) (kept : AreKept 0 fates) (calls : List Call) (pended : List ℕ) (as_fates : AreAsFates history fates calls pended) (stands : Stands calls (steps_of history)) (alone : AreItsSteps history calls)
    (ruled : AreByRules history) (mild : (p : ℕ) (k : Kept) → slice_get history p ≡ Some k → IsMildCommand (fields k.command)) (legal : IsLegal (steps_of history)) (prompt : HoldsBackNone (steps_of history))
    (makes : (p : ℕ) (k : Kept) → slice_get history p ≡ Some k → MakesCommand (fields k.command)) (own : NamesItsOwn calls) where
  abbrev steps : List Step
  steps = steps_of history

  abbrev state_at : ℕ → State
  state_at p = state_of (take p steps)

  makes_at : (p : ℕ) (step : Step) → slice_get steps p ≡ Some step → Makes (asked step.command)
  makes_at p step at = let k = get_kept history p step at in subst (λ (command : List ℕ). Makes (asked command)) k.2 (makes_asked k.0.command (makes p k.0 k.1))

  have_at : (p : ℕ) (step : Step) → slice_get steps p ≡ Some step → HaveOfBucket (state_at p).collections
  have_at p step at = let within = get_within steps p step at in indexes_at steps makes_at p (omega (arith, within))

  -- a call that saw a reply, and its step
  record HeardStep (place : ℕ) (call : Call) (command : Fields) (bytes : List ℕ) : Type 0 where
    position : ℕ
    position_is : call.position ≡ Some position
    step : Step
    there : slice_get steps position ≡ Some step
    command_is : fields step.command ≡ command
    reply_is : bytes ≡ step.reply

  heard_step : (place : ℕ) (call : Call) (command : Fields) (bytes : List ℕ) → slice_get calls place ≡ Some call → fields call.command ≡ command → call.seen ≡ reply bytes → HeardStep place call command bytes
  heard_step place call command bytes at is seen =
      let p = stands.placed place call bytes at seen in
      let s = stands.same place call p.0 at p.1 in
      record { position = p.0; position_is = p.1; step = s.0; there = s.1; command_is = ap fields s.2 ∙ is; reply_is = subst (λ (x : Sight). SeenFits x s.0.reply) seen s.3 }

  ruled_there : (p : ℕ) (step : Step) → slice_get steps p ≡ Some step → IsRuled steps p step
  ruled_there p step at = ruled_at history fates kept calls pended as_fates stands alone ruled mild legal prompt p step at

  only_here : (p q : ℕ) → Contains (p ∷ []) q → p ≡ q
  only_here p q has = by_place has.0 has.1 has.2
    where
      by_place : (k : ℕ) → k < 1 → slice_index_or (p ∷ []) k q ≡ q → p ≡ q
      by_place zero less is = is
      by_place (suc k) less is = absurd (omega (arith, less))

  -- ---- what its steps tell

  -- a step is not refused, and opens no cursor
  record IsFine (step : Step) : Type 0 where
    taken : IsTaken (asked step.command) (told_at step)
    opens_none : (x : ℤ) → OpensId (told_at step) x → ⊥

  fine_by : (step : Step) (t : Told) → told_at step ≡ t → IsTaken (asked step.command) t → ((x : ℤ) → OpensId t x → ⊥) → IsFine step
  fine_by step t is taken none = record { taken = subst (IsTaken (asked step.command)) (sym is) taken; opens_none = λ x opens. none x (subst (λ (y : Told). OpensId y x) is opens) }

  module _ (t : PutTask) (may : HasShortFiles t.at) where
    find_fine : (p : ℕ) (step : Step) → slice_get steps p ≡ Some step → fields step.command ≡ any_find (put_bucket t) → IsFine step
    find_fine p step there is =
        let r = ruled_there p step there in
        let short = short_at history fates kept calls pended as_fates stands alone ruled mild legal prompt p step there in
        let tells = any_told (state_at p) r.given step.command step.reply r.read (files_space t.at) may.files_short short is in
        fine_by step (opened (pos 0) (files_space t.at) tells.0 None None) tells.1 tt (λ x opens. opens.1 (sym opens.0))

    creation_fine : (at : Place) (p : ℕ) (step : Step) → slice_get steps p ≡ Some step → fields step.command ≡ creation (put_bucket t) at → IsFine step
    creation_fine at p step there is =
        let here : Space = space_in (put_bucket t) at in
        let names = short_in t may at in
        let r = ruled_there p step there in
        let asks = asks_to_create step.command here None None names.named is in
        elim (creation_told (state_at p) r.given step.command step.reply r.read here (takes_space here names) is) [
          | inl made ↦ fine_by step done made tt (λ x opens. opens)
          | inr known ↦ fine_by step (refuses collection_exists []) known.1 (subst (λ (a : Asked). SaysThere a collection_exists) (sym asks) refl) (λ x opens. opens)
        ]

    -- behind a creation, whatever became of it, the collection is there
    there_behind : (at : Place) (q : ℕ) (made : Step) → slice_get steps q ≡ Some made → fields made.command ≡ creation (put_bucket t) at → (p : ℕ) (step : Step) → slice_get steps p ≡ Some step → q < p → HasCollection (state_at p).collections (space_in (put_bucket t) at)
    there_behind at q made before is p step there less =
        let here : Space = space_in (put_bucket t) at in
        let names = short_in t may at in
        let r = ruled_there q made before in
        let within = get_within steps p step there in
        elim (creation_told (state_at q) r.given made.command made.reply r.read here (takes_space here names) is) [
          | inl so ↦
              let next : HasCollection (state_at (suc q)).collections here =
              subst (λ (s : State). HasCollection s.collections here) (sym (next_state steps q made before)) (created_there (state_at q) made here (asks_to_create made.command here None None names.named is) so) in
              there_later steps makes_at here (suc q) p (omega (arith, less)) (omega (arith, within)) next
          | inr known ↦ there_later steps makes_at here q p (omega (arith, less)) (omega (arith, within)) known.0
        ]

    listing_fine : (at : Place) (p : ℕ) (step : Step) → slice_get steps p ≡ Some step → HasCollection (state_at p).collections (space_in (put_bucket t) at) → fields step.command ≡ listing (put_bucket t) at → IsFine step
    listing_fine at p step there has is =
        let here : Space = space_in (put_bucket t) at in
        let r = ruled_there p step there in
        let whole = listing_told (state_at p) r.given step.command step.reply r.read here (short_in t may at) has (have_at p step there) is in
        fine_by step (opened (pos 0) here whole.0 None None) whole.1 tt (λ x opens. opens.1 (sym opens.0))

    index_fine : (at : Place) (p : ℕ) (step : Step) → slice_get steps p ≡ Some step → fields step.command ≡ index_creation (put_bucket t) at → IsFine step
    index_fine at p step there is =
        let here : Space = space_in (put_bucket t) at in
        let r = ruled_there p step there in
        fine_by step done (index_told (state_at p) r.given step.command step.reply r.read here (takes_space here (short_in t may at)) at (have_at p step there) is) tt (λ x opens. opens)

    insert_fine : (at : Space) (documents : List Fields) (p : ℕ) (step : Step) → slice_get steps p ≡ Some step → HasShortNames at → fields step.command ≡ insert_command at documents → IsFine step
    insert_fine at documents p step there names is =
        let r = ruled_there p step there in
        let tells = insert_told (state_at p) (pos (suc r.given)) step.command step.reply at documents names is r.read in
        fine_by step (inserted tells.0 tells.1) tells.2 tt (λ x opens. opens)

    removal_fine : (p : ℕ) (step : Step) → slice_get steps p ≡ Some step → fields step.command ≡ chunks_removal t → IsFine step
    removal_fine p step there is =
        let r = ruled_there p step there in
        let short = short_at history fates kept calls pended as_fates stands alone ruled mild legal prompt p step there in
        let gone = removal_told (state_at p) r.given step.command step.reply r.read (chunks_space t.at) (takes_space (chunks_space t.at) may.chunks_short) t.id short is in
        fine_by step (deleted gone.0 []) gone.1 tt (λ x opens. opens)

    -- ---- all its steps, by what it sent

    -- the step of a call, and its command
    record StepOf (place : ℕ) (call : Call) (p : ℕ) (step : Step) : Type 0 where
      found : slice_get calls place ≡ Some call
      placed : call.position ≡ Some p
      there : slice_get steps p ≡ Some step
      same_command : fields step.command ≡ fields call.command

    step_of : (place : ℕ) (call : Call) (p : ℕ) (step : Step) → slice_get calls place ≡ Some call → call.position ≡ Some p → slice_get steps p ≡ Some step → StepOf place call p step
    step_of place call p step found placed there =
        let s = stands.same place call p found placed in
        record { found = found; placed = placed; there = there; same_command = ap (λ (x : Step). fields x.command) (same_some step s.0 (sym there ∙ s.1)) ∙ ap fields s.2 }

    -- it asks for more of a cursor, in a namespace that may be
    record IsNamedMore (command : Fields) : Type 0 where
      id : ℤ
      at : Space
      named : IsNamed at
      command_is : command ≡ next_command id at no_manner

    -- each is fine but a getMore
    kind_fine : (place : ℕ) (call : Call) (p : ℕ) (step : Step) → StepOf place call p step → PutKind calls t place (fields call.command) → IsNamedMore (fields step.command) ⊎ IsFine step
    kind_fine place call p step s (finds is) = inr (find_fine p step s.there (s.same_command ∙ is))
    kind_fine place call p step s (creates at is) = inr (creation_fine at p step s.there (s.same_command ∙ is))
    kind_fine place call p step s (lists at before first found creates_it less is) =
        let q : ℕ = length (took history fates kept calls pended as_fates stands before first found).before in
        let placed = (took history fates kept calls pended as_fates stands before first found).placed in
        let x = stands.same before first q found placed in
        let rises = stands.rising before place first call q p less found s.found placed s.placed in
        inr (listing_fine at p step s.there (there_behind at q x.0 x.1 (ap fields x.2 ∙ creates_it) p step s.there rises) (s.same_command ∙ is))
    kind_fine place call p step s (reads_on id at named is) = inl (record { id = id; at = at; named = named; command_is = s.same_command ∙ is })
    kind_fine place call p step s (indexes at is) = inr (index_fine at p step s.there (s.same_command ∙ is))
    kind_fine place call p step s (into_chunks documents) = inr (insert_fine (chunks_space t.at) documents.0 p step s.there may.chunks_short (s.same_command ∙ documents.1))
    kind_fine place call p step s (inserts_record moment is) = inr (insert_fine (files_space t.at) (its_record t moment ∷ []) p step s.there may.files_short (s.same_command ∙ is))
    kind_fine place call p step s (removes is) = inr (removal_fine p step s.there (s.same_command ∙ is))

    module _ (c : Course) (i : ℕ) (kinds : AreKinds calls t (places_of c i)) (names : NamesNoOthers calls c i) where
      abbrev its : List ℕ
      its = places_of c i

      -- none of its steps opens a cursor
      opens_none : (place : ℕ) (call : Call) (p : ℕ) (step : Step) → IsOf its place → StepOf place call p step → (x : ℤ) → OpensId (told_at step) x → ⊥
      opens_none place call p step of s x opens = elim (kind_fine place call p step s (kinds place call of s.found)) [
        | inl more ↦ never_opens (state_at p) (grown (state_at p) step.made) step.made (asked step.command) (told_at step) x (next_reads step.command more.id more.at more.command_is) (may_at steps p step legal s.there).tells opens
        | inr fine ↦ fine.opens_none x opens
      ]

      -- so none of them asks for more of one
      never_asks : (place : ℕ) (call : Call) (p : ℕ) (step : Step) → IsOf its place → StepOf place call p step → (id : ℤ) (space : Space) → asked step.command ≡ asks_more id space → ⊥
      never_asks place call p step of s id space asks =
          let same = (stands.same place call p s.found s.placed) in
          let command : step.command ≡ call.command = ap (λ (x : Step). x.command) (same_some step same.0 (sym s.there ∙ same.1)) ∙ same.2 in
          let named : Names (asked step.command) id = subst (λ (a : Asked). Names a id) (sym asks) refl in
          let given = names_whole calls steps own legal stands place call id s.found (subst (λ (d : List ℕ). Names (asked d) id) command named) in
          let first = stands.placed given.at given.call given.bytes given.found given.saw in
          let x = stands.same given.at given.call first.0 given.found first.1 in
          let reply_is : given.bytes ≡ x.0.reply = subst (λ (y : Sight). SeenFits y x.0.reply) given.saw x.3 in
          let opens : OpensId (told_at x.0) id = subst (λ (b : List ℕ). OpensId (told (asked x.0.command) b) id) reply_is (subst (λ (d : List ℕ). OpensId (told (asked d) given.bytes) id) (sym x.2) given.opens) in
          let less = stands.rising given.at place given.call call first.0 p given.earlier given.found s.found first.1 s.placed in
          let mine = names steps legal stands place p step of (record { call = call; found = s.found; placed = s.placed; there = s.there }) id named given.at first.0 x.0 (record { call = given.call; found = given.found; placed = first.1; there = x.1 }) less opens in
          opens_none given.at given.call first.0 x.0 mine (step_of given.at given.call first.0 x.0 given.found first.1 x.1) id opens

      -- None of them is refused, but the creation of a collection that is there.
      pub put_taken : NoneRefused c i calls steps
      put_taken position step own_step at =
          let by = call_at calls its position own_step in
          let s = step_of by.place by.call position step by.there by.position_is at in
          elim (kind_fine by.place by.call position step s (kinds by.place by.call by.of by.there)) [
            | inl more ↦ absurd (never_asks by.place by.call position step by.of s more.id more.at (asks_for_more_plainly step.command more.id more.at no_manner more.named more.command_is))
            | inr fine ↦ fine.taken
          ]

  module _ (c : Course) (i : ℕ) (wire : ℤ) (n : ℕ) (places : List ℕ) (sent : AllSentIn c i n places) (t : PutTask) (may : HasShortFiles t.at) where
    abbrev past : Past
    past = sent_at places calls wire

    of_places : (place : ℕ) (command : Fields) (seen : Sight) → HeardAt past place command seen → IsOf places place
    of_places place command seen h = elim h.own [ inl of ↦ of | inr late ↦ absurd (let within = get_within calls place h.call h.there in omega (arith, within, late)) ]

    step_of_heard : (place : ℕ) (command : Fields) (bytes : List ℕ) (h : HeardAt past place command (reply bytes)) → HeardStep place h.call command bytes
    step_of_heard place command bytes h = heard_step place h.call command bytes h.there h.command_is h.has_seen

    -- ---- a list of indexes comes whole, so that none is read on

    never_named : (c : ClientCursor) (session : Option Session) (place : ℕ) (bytes : List ℕ) → c.id ≡ pos 0 → IsNamed c.space → HeardAt past place (get_more c session) (reply bytes) → ⊥
    never_named c session place bytes zero_id named h =
        let asks = asks_for_more h.call.command c.id c.space c.manner.size c.manner.wait c.manner.comment session named h.command_is in
        let given = names_whole calls steps own legal stands place h.call (pos 0) h.there (subst (λ (a : Asked). Names a (pos 0)) (sym asks) zero_id) in
        opens_some (told_at (record { command = given.call.command; reply = given.bytes; made = record { entries = []; tokens = []; now = 0 } })) (pos 0) given.opens refl

    list_ends : (at : Place) (place : ℕ) (bytes : List ℕ) (out : CursorSpecification) → HeardAt past place (fields_in (listing_lines (put_bucket t) at)) (reply bytes) → IsSuccess bytes → OpensWith None None None bytes out → out.info.id ≡ pos 0
    list_ends at place bytes out heard success opens =
        let here : Space = space_in (put_bucket t) at in
        let names = short_in t may at in
        let h = step_of_heard place (fields_in (listing_lines (put_bucket t) at)) bytes heard in
        let p : ℕ = h.position in
        let r = ruled_there p h.step h.there in
        let there = listing_there (state_at p) r.given h.step.command h.step.reply r.read here names h.command_is (granted (asked h.step.command) h.step.reply (subst IsSuccess h.reply_is success)) in
        let whole = listing_told (state_at p) r.given h.step.command h.step.reply r.read here names there (have_at p h.step h.there) h.command_is in
        let o = query_opens h.step (lawful_at steps p h.step legal h.there) (subst IsSuccess h.reply_is success) (indexes_query here) (asks_for_indexes h.step.command here None names.named h.command_is) in
        let both : opened_by (time_in (fields h.step.reply)) o.batch ≡ opened (pos 0) here whole.0 None None = sym o.said ∙ whole.1 in
        let ends : o.batch.id ≡ pos 0 = cc in
        let said : cursors.Cursor = record { id = out.info.id; space = space out.info.ns; token = out.post_batch_resume_token; batch = opens.opens.batch } in
        (of_batch (fields h.step.reply) said o.batch (subst (λ (b : List ℕ). cursor_of (fields b) ≡ Ok said) h.reply_is opens.opens.says) o.there).id_is ∙ ends

    never_more : (c : ClientCursor) → IsOfList past (put_bucket t) c → (session : Option Session) (place : ℕ) (bytes : List ℕ) → HeardAt past place (get_more c session) (reply bytes) → ⊥
    never_more c l session place bytes h = by_replies l.replies l.behind
      where
        ended : l.out.info.id ≡ pos 0
        ended = list_ends l.at l.place l.first l.out l.heard l.success l.opens

        named : IsNamed (space l.out.info.ns)
        named = named_read (fields l.first) (record { id = l.out.info.id; space = space l.out.info.ns; token = l.out.post_batch_resume_token; batch = l.opens.opens.batch }) l.opens.opens.says

        by_replies : (replies : List (ℕ × List ℕ)) → AreInTurn past (new_client l.out) l.place replies (at_rest c) → ⊥
        by_replies [] are =
            let same : at_rest c ≡ at_rest (new_client l.out) = are in
            never_named c session place bytes (ap (λ (x : ClientCursor). x.id) same ∙ ended) (subst IsNamed (sym (ap (λ (x : ClientCursor). x.space) same)) named) h
        by_replies (x ∷ more) are = are.1 ended

    -- ---- none that ends it is refused

    taken_by : (place : ℕ) (command : Fields) (bytes : List ℕ) (h : HeardAt past place command (reply bytes)) (s : HeardStep place h.call command bytes) → IsKnown past t place command bytes → IsTaken (asked s.step.command) (told_at s.step)
    taken_by place command bytes h s (succeeded success) = is_taken (asked s.step.command) (told_at s.step) (granted (asked s.step.command) s.step.reply (subst IsSuccess s.reply_is success))
    taken_by place command bytes h s (a_find is) = (find_fine t may s.position s.step s.there (s.command_is ∙ is)).taken
    taken_by place command bytes h s (a_creation at is) = (creation_fine t may at s.position s.step s.there (s.command_is ∙ is)).taken
    taken_by place command bytes h s (a_listing at created less is) =
        let before = step_of_heard created.place (fields_in (creation_lines (put_bucket t) at)) created.bytes created.heard in
        let rises = stands.rising created.place place created.heard.call h.call before.position s.position less created.heard.there h.there before.position_is s.position_is in
        (listing_fine t may at s.position s.step s.there (there_behind t may at before.position before.step before.there before.command_is s.position s.step s.there rises) (s.command_is ∙ is)).taken
    taken_by place command bytes h s (a_getMore c l session is) = absurd (never_more c l session place bytes (subst (λ (fs : Fields). HeardAt past place fs (reply bytes)) is h))
    taken_by place command bytes h s (an_index at is) = (index_fine t may at s.position s.step s.there (s.command_is ∙ is)).taken
    taken_by place command bytes h s (of_chunks documents is) = (insert_fine t may (chunks_space t.at) documents s.position s.step s.there may.chunks_short (s.command_is ∙ is)).taken
    taken_by place command bytes h s (of_record document is) = (insert_fine t may (files_space t.at) (document ∷ []) s.position s.step s.there may.files_short (s.command_is ∙ is)).taken
    taken_by place command bytes h s (a_removal is) = (removal_fine t may s.position s.step s.there (s.command_is ∙ is)).taken

    -- ---- its own steps

    prompt_alone : (p : ℕ) (step : Step) → slice_get steps p ≡ Some step → IsTaken (asked step.command) (told_at step) → IsPrompt (p ∷ []) steps
    prompt_alone p step at taken = prompt_where_taken steps (p ∷ []) prompt (creations_meet history ruled) (λ q x has there.
        let same : step ≡ x = same_some step x (sym at ∙ ap (slice_get steps) (only_here p q has) ∙ there) in
        subst (λ (y : Step). IsTaken (asked y.command) (told_at y)) same taken)

    abbrev own_taken : (command : Fields) (bytes : List ℕ) (h : HeardBy past command (reply bytes)) → IsKnown past t h.place command bytes → OwnStep (positions_at calls (places_of c i)) steps command bytes
    own_taken command bytes h known =
        let s = step_of_heard h.place command bytes h.heard in
        record {
          position = s.position;
          step = s.step;
          is_own = has_position calls (places_of c i) h.place h.heard.call s.position (sent_place c i n h.place (sent h.place (of_places h.place command (reply bytes) h.heard))) h.heard.there s.position_is;
          there = s.there;
          at_once = prompted steps (s.position ∷ []) s.position s.step legal (prompt_alone s.position s.step s.there (taken_by h.place command bytes h.heard s known)) (0, omega arith, refl) s.there;
          before_is = refl;
          command_is = s.command_is;
          reply_is = s.reply_is;
        }

    hears : (command : Fields) (bytes : List ℕ) → HeardBy past command (reply bytes) → IsHeard c i calls bytes
    hears command bytes h = record { done = n; place = h.place; sent = sent h.place (of_places h.place command (reply bytes) h.heard); call = h.heard.call; there = h.heard.there; has_seen = h.heard.has_seen }

    finds_few : HasFewIndexes (positions_at calls (places_of c i)) steps t
    finds_few position step at has there =
        let few = few_of_bucket (indexes_of (state_at position) (space_in (put_bucket t) at)) (indexes_there (state_at position) (space_in (put_bucket t) at) (have_at position step there)) in
        omega (arith, few)

  -- So it ends well.
  pub put_here : (awaited : Awaited) (c : Course) (i : ℕ) (wire : ℤ) (supply : Supply) (t : PutTask) → HasShortFiles t.at → IsValidPut t → SendFresh (positions_at calls (places_of c i)) (steps_of history) → (end : Ended ℕ) (k : ℕ) (last : Bool) → PutEnds awaited c i calls wire supply t end → PutPlayed end (length t.pieces) k last
      → length t.pieces + 2 ≤ k → EndsWell (IsExcusedPut (IsHeard c i calls) t) end
  put_here awaited c i wire supply t may valid fresh end k last ends played turns =
      let n : ℕ = suc (length ends.owns) in
      put_well (positions_at calls (places_of c i)) steps legal (sent_at ends.places calls wire) (IsHeard c i calls) t
      (λ command h. never_fault history fates kept calls pended as_fates stands alone ruled mild legal prompt h.place h.heard.call h.heard.there h.heard.has_seen)
      (λ command bytes h known. own_taken c i wire n ends.places ends.sent t may command bytes h known)
      (λ command bytes h. hears c i wire n ends.places ends.sent t may command bytes h)
      valid fresh
      (λ place place' command command' bytes bytes' h h' known known' less.
      let before = step_of_heard c i wire n ends.places ends.sent t may place command bytes h in
      let behind = step_of_heard c i wire n ends.places ends.sent t may place' command' bytes' h' in
      stands.rising place place' h.call h'.call before.position behind.position less h.there h'.there before.position_is behind.position_is)
      (finds_few c i wire n ends.places ends.sent t may) (sent_at (concat ends.owns ++ ends.places) calls wire) end k last ends.by played turns
