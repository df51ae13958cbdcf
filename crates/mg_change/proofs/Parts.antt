-- What the parts of a stream come to, as the stream is seen.
use Rattle.std.proofs.Common.{◌≡◌, ◌≢◌, ◌↔◌, ◌<◌, ℕ, ℤ, pos, Bool, true, false, IsTrue, List, [], ◌∷◌, Option, Some, None, Result, Ok, Err, OnOk, is_some, option_map, refl, sym, ap, ◌∙◌, subst, inl, inr, arith}
use Rattle.std.specs.Prelude.{OnErr}
use Rattle.std.proofs.lemmas.Bool.{iff_false}
use Rattle.mg_bson.specs.Raw.{fields}
use Rattle.mg_bson.specs.Tree.{Tree}
use Rattle.mg_bson.specs.Walks.{front_of, without_front}
use Rattle.mg_link.specs.Acts.{ticket_after}
use Rattle.mg_link.specs.Errors.{plain}
use Rattle.mg_link.specs.Exec.{RunsStarting, Sending, ticket_at, ticket_of}
use Rattle.mg_link.specs.Link.{Awaited, LogTold}
use Rattle.mg_link.specs.Moment.{LinkKeeps, Moment, failed, finished, pending, step_ending}
use Rattle.mg_link.specs.Session.{Session}
use Rattle.mg_link.specs.declared.action.Step.{Step}
use Rattle.mg_link.specs.declared.action.Step.TheVariants as step
use Rattle.mg_link.specs.declared.error.BadArgument.TheVariants as argument
use Rattle.mg_link.specs.declared.error.Error.{Error}
use Rattle.mg_link.specs.declared.error.ErrorKind.TheVariants as kind
use Rattle.mg_link.proofs.Moments.{keeps_same}
use Rattle.mg_options.specs.declared.change_stream.ChangeStreamOptions.{ChangeStreamOptions}
use Rattle.mg_ops.specs.Failing.{FailsBy}
use Rattle.mg_ops.specs.declared.aggregate.ChangeStreamAggregate.{ChangeStreamAggregate}
use Rattle.mg_ops.specs.declared.change_stream.ChangeStreamData.{ChangeStreamData}
use Rattle.mg_ops.specs.declared.cursor_reply.CursorSpecification.{CursorSpecification}
use Rattle.mg_cursor.specs.Batches.{documents_of}
use Rattle.mg_cursor.specs.Client.{ClientCursor, IsNew, MayAsk, asking_by, asks, at_rest, client_ticket, get_more, holds, new_client, reply_in, rests, without_reply}
use Rattle.mg_cursor.specs.Client as cursors
use Rattle.mg_cursor.specs.Closing.{ClosingCursor, IsNotAsking, closed, closing_ticket}
use Rattle.mg_cursor.specs.Polling.{Hears, PollsNext, ReadsReply, begins, broke as unread, gave as read, goes_on as polls_on, hands_out, is_over, next_ending, not_built as not_polled}
use Rattle.mg_cursor.specs.View.{AdvancesBy, behind_of, client_of, current_of}
use Rattle.mg_cursor.specs.declared.batches.Batches.{Batches}
use Rattle.mg_cursor.specs.declared.buffer.BatchBuffer.{BatchBuffer}
use Rattle.mg_cursor.specs.declared.polls.NextPoll.{NextPoll}
use Rattle.mg_cursor.specs.declared.polls.NextPoll.TheVariants as next
use Rattle.mg_cursor.specs.declared.polls.TryPoll.{TryPoll}
use Rattle.mg_cursor.specs.declared.polls.TryPoll.TheVariants as try
use Rattle.mg_cursor.specs.declared.results.AdvanceResult.TheVariants as result
use Rattle.mg_cursor.proofs.Advancing.{breaks_not_io}
use Rattle.mg_cursor.proofs.Hearing.{behind_rested, failing, keeps_from, keeps_quiet, no_room, other_kind, unread_not_io}
use Rattle.mg_change.specs.ClientStreams.{ClientStream, Doing, IsAlive, IsHolding, IsOwed, IsSaved, IsSound, SoundBy, behind_event, follows, id_in, kills, next_has, no_counts, new_stream, owes, owing_with, remembered_empty, renewed, resumes, stream_ticket, ticket_by, token_known, with_cursor}
use Rattle.mg_change.specs.ClosingStreams.{closed_stream, landing_of, landing_ticket, stream_closing_ticket}
use Rattle.mg_change.specs.Steps.{CannotResume, DoesStep, FailsMore, FindsIn, HearsClosing, HearsResumption, NoneToBuild, Prepares, LooksAt, ReadsResumption, RunsResumption, TakesMore, asks_more, asks_now, broke, broken, closes, emptied, ends, final, finds, gave, goes_on, is_empty, looks, next_is, no_memory, none, not_asked, not_now, not_resumed, renews, replaced_by, resumes_now, some, waits_more, waits_resumption}
use Rattle.mg_change.specs.StreamCalls.{Falls, AnswersEvent, LacksToken, event_ending, kept_behind, stepped_ending, steps_left, try_ending}
use Rattle.mg_change.specs.StreamView.{IsOwnPlace, IsPlaced, IsSavedPlace, IsStream, IsThere, KeepsOwn, SavesBy, SavesWhile, changes_of, doing_of, empty_place, known_at, lent_if, place_by, returned, token_lying, with_token, was_last}
use Rattle.mg_change.specs.declared.changes.Changes.{Changes}
use Rattle.mg_change.specs.declared.changes.Phase.{Phase}
use Rattle.mg_change.specs.declared.changes.Phase.TheVariants as phase
use Rattle.mg_steps.specs.Token.{place_behind}
use Rattle.mg_steps.specs.declared.token.TokenPlace.{TokenPlace}
use Rattle.mg_steps.specs.declared.token.TokenPlace.TheVariants as place
use Rattle.mg_change.specs.declared.counts.Counts.{Counts}
use Rattle.mg_change.specs.declared.event_poll.EventPoll.{EventPoll}
use Rattle.mg_change.specs.declared.event_poll.Stepped.{Stepped}
use Rattle.mg_change.specs.declared.event_poll.Stepped.TheVariants as stepped
use Rattle.mg_change.proofs.Keeping.{sound_any}
use Rattle.mg_change.proofs.Linking.{as_given, placed_resting, placed_saved, remembers_empty, remembers_event, saved_is, saved_place, there_empty, there_event}

-- ---- a new stream

saved_same : (event : Option (List ℕ)) (batch : Option Tree) (o : Option ChangeStreamData) → option_map (known_at place.Saved event batch) o ≡ o
saved_same event batch None = refl
saved_same event batch (Some known) = refl

pub opens_as : (a : ChangeStreamAggregate) (out : CursorSpecification) (event : Option (List ℕ)) (batch : Option Tree) (c : ClientCursor) (events : List (List ℕ)) (n : Counts) → c ≡ new_client out → events ≡ [] → n ≡ no_counts
    → record (new_stream a out) { aggregate = record a { resume = option_map (known_at place.Saved event batch) a.resume }; cursor = c; behind = events; counts = n } ≡ new_stream a out
opens_as a out event batch c events n same none_left uncounted =
    ap (λ (o : Option ChangeStreamData). record (new_stream a out) { aggregate = record a { resume = o }; cursor = c; behind = events; counts = n }) (saved_same event batch a.resume)
    ∙ ap (λ (x : ClientCursor). record (new_stream a out) { cursor = x; behind = events; counts = n }) same
    ∙ ap (λ (es : List (List ℕ)). record (new_stream a out) { behind = es; counts = n }) none_left
    ∙ ap (λ (m : Counts). record (new_stream a out) { counts = m }) uncounted

-- ---- what it tells

pub token_cached : (at : TokenPlace) (event : Option (List ℕ)) (batch : Option Tree) (o : Option ChangeStreamData) {known : ChangeStreamData} → o ≡ Some known → token_lying at (token_known o) event batch ≡ token_known (option_map (known_at at event batch) o)
token_cached at event batch None is = absurd cc
token_cached at event batch (Some known) is = refl

pub alive_open : (s : ClientStream) (over_so : Bool) → (IsTrue over_so ↔ (s.cursor.id ≡ pos 0)) → over_so ≡ false → IsTrue true ↔ IsAlive s
alive_open s over_so means not = (λ t. inl (λ none_held. iff_false means not none_held), λ h. refl)

pub alive_owed : (s : ClientStream) (over_so owed : Bool) → (IsTrue over_so ↔ (s.cursor.id ≡ pos 0)) → over_so ≡ true → (IsTrue owed ↔ IsOwed s.doing) → IsTrue owed ↔ IsAlive s
alive_owed s over_so owed means so owes_so = (λ t. inr (owes_so.0 t), λ h. owes_so.1 (only h))
  where
    only : IsAlive s → IsOwed s.doing
    only (inl held) = absurd (held (means.0 so))
    only (inr h) = h

-- ---- the phase is taken out

-- with it, all is as it was
pub phase_back : (s t : Changes) (p : Phase) → t ≡ record s { phase = phase.Follows } → p ≡ s.phase → record (changes_of t) { doing = doing_of p } ≡ changes_of s
phase_back s t p rest taken = ap (λ (x : Changes). record (changes_of x) { doing = doing_of p }) rest ∙ ap (λ (q : Phase). record (changes_of s) { doing = doing_of q }) taken

pub phase_same : (s t : Changes) → t ≡ record s { phase = phase.Follows } → phase.Follows ≡ s.phase → t ≡ s
phase_same s t rest taken = rest ∙ ap (λ (q : Phase). record s { phase = q }) taken

-- what the cursor of a stream at this phase asks for, and what is left
pub by_phase : (plain : Bool) (s : Changes) (p : Phase) → p ≡ s.phase → IsStream plain s → SoundBy plain (changes_of s) (doing_of p)
by_phase plain s p taken h = subst (λ (q : Phase). SoundBy plain (changes_of s) (doing_of q)) (sym taken) h.sound.by

pub saves_phase : (plain : Bool) (s : Changes) (p : Phase) → p ≡ s.phase → IsStream plain s → SavesBy s.token (doing_of p)
saves_phase plain s p taken h = subst (λ (q : Phase). SavesBy s.token (doing_of q)) (sym taken) h.placed.saves

-- a token that stays where it is saved
pub saved_still : (t t' : TokenPlace) → t' ≡ t → IsSavedPlace t → IsSavedPlace t'
saved_still t t' same saved = subst IsSavedPlace (sym same) saved

pub owns_still : (t t' : TokenPlace) → t' ≡ t → KeepsOwn t t'
owns_still t t' same = λ own. subst IsOwnPlace (sym same) own

-- ---- what is done does not hang on what was on its way

pub look_any : (again : Bool) (s : ClientStream) (d : Doing) (c : ClientCursor) (said : List ℕ) (s' : ClientStream) (r : Stepped) → LooksAt again s c said s' r → LooksAt again (record s { doing = d }) c said s' r
look_any again s d c said s' r (some event events these is answer) = some event events these is answer
look_any again s d c said s' r (none these is answer) = none these is answer
look_any again s d c said s' r (broken e breaks is answer) = broken e breaks is answer

read_any : (s : ClientStream) (d : Doing) (said : List ℕ) (s' : ClientStream) (r : Stepped) → ReadsResumption s said s' r → ReadsResumption (record s { doing = d }) said s' r
read_any s d said s' r (gave out opens is answer) = gave out opens is answer
read_any s d said s' r (broke e fails_so is answer) = broke e fails_so is answer

hear_any : (s : ClientStream) (d : Doing) (came : Step Sending (List ℕ)) (s' : ClientStream) (r : Stepped) → HearsResumption s came s' r → HearsResumption (record s { doing = d }) came s' r
hear_any s d (step.Pending sending) s' r h = (h.0, h.1)
hear_any s d (step.Done said) s' r h = read_any s d said s' r h
hear_any s d (step.Failed e) s' r h = (h.0, h.1)

pub run_any : (old new : Awaited) (log log' : LogTold) (wire : ℤ) (started : Bool) (s : ClientStream) (d : Doing) (sending : Sending) (s' : ClientStream) (r : Stepped) → RunsResumption old new log log' wire started s sending s' r → RunsResumption old new log log' wire started (record s { doing = d }) sending s' r
run_any old new log log' wire started s d sending s' r h = record { came = h.came; runs = h.runs; hears = hear_any s d h.came s' r h.hears }

pub close_any : (s : ClientStream) (d : Doing) (came : Step ClosingCursor (Unit {0})) (s' : ClientStream) (r : Stepped) → HearsClosing s came s' r → HearsClosing (record s { doing = d }) came s' r
close_any s d (step.Pending before) s' r h = (h.0, h.1)
close_any s d (step.Done t) s' r h = (h.0, h.1)
close_any s d (step.Failed e) s' r (inl h) = inl (h.0, h.1, h.2)
close_any s d (step.Failed e) s' r (inr h) = inr (h.0, h.1, h.2)

-- ---- what a step keeps of the link

-- a failure behind which the call goes on
overcome : (m m' : Moment) (t t' : Option ℕ) (e : Error) → LinkKeeps m m' t t' (failed e) → LinkKeeps m m' t t' finished
overcome m m' t t' e k = record { tickets = k.tickets; pended = k.pended; lost = tt; prompt = λ is. tt; later = k.later }

looks_keep : (m m' : Moment) (t : Option ℕ) (again : Bool) (s : ClientStream) (c : ClientCursor) (said : List ℕ) (s' : ClientStream) (r : Stepped) → c.doing ≡ rests → LooksAt again s c said s' r → LinkKeeps m m' t (client_ticket c) finished → LinkKeeps m m' t (stream_ticket s') (stepped_ending r)
looks_keep m m' t again s c said s' r quiet (some event events these is answer) k = as_given m m' t (client_ticket c) (stream_ticket s') finished (stepped_ending r) (ap stream_ticket is) (ap stepped_ending answer) k
looks_keep m m' t again s c said s' r quiet (none these is answer) k = as_given m m' t (client_ticket c) (stream_ticket s') finished (stepped_ending r) (ap stream_ticket is) (ap stepped_ending answer) k
looks_keep m m' t false s c said s' r quiet (broken e breaks is answer) k =
    as_given m m' t (client_ticket c) (stream_ticket s') finished (stepped_ending r) (ap stream_ticket is ∙ sym (ap cursors.ticket_by quiet)) (ap stepped_ending answer) k
looks_keep m m' t true s c said s' r quiet (broken e breaks is answer) k =
    as_given m m' t (client_ticket c) (stream_ticket s') (failed e) (stepped_ending r) (ap stream_ticket is ∙ sym (ap cursors.ticket_by quiet)) (ap stepped_ending answer)
    (failing m m' t (client_ticket c) e (breaks_not_io said e breaks) k)

fails_keep : (m m' : Moment) (t : Option ℕ) (s : ClientStream) (c : ClientCursor) (e : Error) (s' : ClientStream) (r : Stepped) → s.doing ≡ follows → c.doing ≡ rests → FailsMore s c e s' r → LinkKeeps m m' t (client_ticket c) (failed e) → LinkKeeps m m' t (stream_ticket s') (stepped_ending r)
fails_keep m m' t s c e s' r on quiet (goes_on so is answer) k =
    as_given m m' t (client_ticket c) (stream_ticket s') finished (stepped_ending r) (ap stream_ticket is ∙ sym (ap cursors.ticket_by quiet)) (ap stepped_ending answer) (overcome m m' t (client_ticket c) e k)
fails_keep m m' t s c e s' r on quiet (no_memory room is answer) k = as_given m m' t (client_ticket c) (stream_ticket s') (failed e) (stepped_ending r) (ap stream_ticket is ∙ sym (ap cursors.ticket_by quiet)) (ap stepped_ending answer) k
fails_keep m m' t s c e s' r on quiet (final not room is answer) k = as_given m m' t (client_ticket c) (stream_ticket s') (failed e) (stepped_ending r) (ap stream_ticket is ∙ ap (ticket_by c) on) (ap stepped_ending answer) k

-- the batch of a resumption is looked at, and the link is not called
pub looked_keeps : (m : Moment) (s : ClientStream) (c : ClientCursor) (said : List ℕ) (s' : ClientStream) (r : Stepped) → c.doing ≡ rests → s.doing ≡ renewed → LooksAt true s c said s' r → LinkKeeps m m (stream_ticket s) (stream_ticket s') (stepped_ending r)
looked_keeps m s c said s' r quiet on h =
    keeps_from m m None (stream_ticket s) (stream_ticket s') (stepped_ending r) (sym (ap (ticket_by s.cursor) on))
    (looks_keep m m None true s c said s' r quiet h (keeps_quiet m c quiet))

not_asking_ticket : (d : cursors.Doing) → IsNotAsking d → cursors.ticket_by d ≡ None
not_asking_ticket rests h = refl
not_asking_ticket (holds said) h = refl
not_asking_ticket (asks sending) h = absurd h

read_keeps : (m m' : Moment) (t : Option ℕ) (s : ClientStream) (said : List ℕ) (s' : ClientStream) (r : Stepped) → IsNotAsking s.cursor.doing → ReadsResumption s said s' r → LinkKeeps m m' t None finished → LinkKeeps m m' t (stream_ticket s') (stepped_ending r)
read_keeps m m' t s said s' r quiet (gave out opens is answer) k = as_given m m' t None (stream_ticket s') finished (stepped_ending r) (ap stream_ticket is ∙ not_asking_ticket s.cursor.doing quiet) (ap stepped_ending answer) k
read_keeps m m' t s said s' r quiet (broke e fails_so is answer) k =
    as_given m m' t None (stream_ticket s') (failed e) (stepped_ending r) (ap stream_ticket is) (ap stepped_ending answer) (failing m m' t None e (unread_not_io (fields said) e fails_so) k)

pub resumption_keeps : (m m' : Moment) (t : Option ℕ) (s : ClientStream) (came : Step Sending (List ℕ)) (s' : ClientStream) (r : Stepped) → IsNotAsking s.cursor.doing → HearsResumption s came s' r → LinkKeeps m m' t (ticket_after ticket_of came) (step_ending came) → LinkKeeps m m' t (stream_ticket s') (stepped_ending r)
resumption_keeps m m' t s (step.Pending sending) s' r quiet h k = as_given m m' t (ticket_of sending) (stream_ticket s') pending (stepped_ending r) (ap stream_ticket h.0) (ap stepped_ending h.1) k
resumption_keeps m m' t s (step.Done said) s' r quiet h k = read_keeps m m' t s said s' r quiet h k
resumption_keeps m m' t s (step.Failed e) s' r quiet h k = as_given m m' t None (stream_ticket s') (failed e) (stepped_ending r) (ap stream_ticket h.0) (ap stepped_ending h.1) k

pub closing_keeps : (m m' : Moment) (t : Option ℕ) (s : ClientStream) (came : Step ClosingCursor (Unit {0})) (s' : ClientStream) (r : Stepped) → HearsClosing s came s' r → LinkKeeps m m' t (ticket_after closing_ticket came) (step_ending came) → LinkKeeps m m' t (stream_ticket s') (stepped_ending r)
closing_keeps m m' t s (step.Pending before) s' r h k = as_given m m' t (closing_ticket before) (stream_ticket s') pending (stepped_ending r) (ap stream_ticket h.0) (ap stepped_ending h.1) k
closing_keeps m m' t s (step.Done u) s' r h k = as_given m m' t None (stream_ticket s') finished (stepped_ending r) (ap stream_ticket h.0) (ap stepped_ending h.1) k
closing_keeps m m' t s (step.Failed e) s' r (inl h) k = as_given m m' t None (stream_ticket s') (failed e) (stepped_ending r) (ap stream_ticket h.1) (ap stepped_ending h.2) k
closing_keeps m m' t s (step.Failed e) s' r (inr h) k = as_given m m' t None (stream_ticket s') finished (stepped_ending r) (ap stream_ticket h.1) (ap stepped_ending h.2) (overcome m m' t None e k)

-- a resumption that is not built
pub unresumed_not_io : (a : ChangeStreamAggregate) (wire : ℤ) (session : Option Session) (e : Error) → FailsBy (CannotResume a wire session) e → e.kind ≡ kind.Io → ⊥
unresumed_not_io a wire session e (inl room) = no_room e room
unresumed_not_io a wire session e (inr (inl size)) = other_kind e (kind.InvalidArgument argument.BatchSize) size.0 (λ bad. cc)
unresumed_not_io a wire session e (inr (inr limit)) = other_kind e kind.BsonSerialization limit.0 (λ bad. cc)

-- the call fails, and a resumption is owed
pub owing_keeps : (m : Moment) (s s' : ClientStream) (r : Stepped) (e : Error) → (e.kind ≡ kind.Io → ⊥) → s' ≡ record s { doing = owes } → r ≡ stepped.Gives (try.Failed e) → LinkKeeps m m None (stream_ticket s') (stepped_ending r)
owing_keeps m s s' r e other is answer =
    as_given m m None None (stream_ticket s') (failed e) (stepped_ending r) (ap stream_ticket is) (ap stepped_ending answer) (failing m m None None e other (keeps_same m None finished (λ n f. cc) refl tt tt))

-- ---- a step comes closer to the end of its call

gives_fall : (r : Stepped) (p : TryPoll) (before now : ℕ) → r ≡ stepped.Gives p → Falls r before now
gives_fall r p before now answer = subst (λ (x : Stepped). Falls x before now) (sym answer) tt

goes_fall : (r : Stepped) (before now : ℕ) → r ≡ stepped.Goes → now < before → Falls r before now
goes_fall r before now answer less = subst (λ (x : Stepped). Falls x before now) (sym answer) less

to_phase : (s' t : ClientStream) (before : ℕ) → s' ≡ t → steps_left t.doing < before → steps_left s'.doing < before
to_phase s' t before is less = subst (λ (x : ClientStream). steps_left x.doing < before) (sym is) less

pub looks_fall : (s : ClientStream) (c : ClientCursor) (said : List ℕ) (s' : ClientStream) (r : Stepped) → LooksAt false s c said s' r → Falls r 4 (steps_left s'.doing)
looks_fall s c said s' r (some event events these is answer) = subst (λ (x : Stepped). Falls x 4 (steps_left s'.doing)) (sym answer) tt
looks_fall s c said s' r (none these is answer) = gives_fall r (try.Ready result.Waiting) 4 (steps_left s'.doing) answer
looks_fall s c said s' r (broken e breaks is answer) = goes_fall r 4 (steps_left s'.doing) answer (to_phase s' (owing_with c s) 4 is (let less : 3 < 4 = omega arith in less))

pub looked_falls : (s : ClientStream) (c : ClientCursor) (said : List ℕ) (s' : ClientStream) (r : Stepped) (now : ℕ) → LooksAt true s c said s' r → Falls r 0 now
looked_falls s c said s' r now (some event events these is answer) = subst (λ (x : Stepped). Falls x 0 now) (sym answer) tt
looked_falls s c said s' r now (none these is answer) = gives_fall r (try.Ready result.Waiting) 0 now answer
looked_falls s c said s' r now (broken e breaks is answer) = gives_fall r (try.Failed e) 0 now answer

pub fails_fall : (s : ClientStream) (c : ClientCursor) (e : Error) (s' : ClientStream) (r : Stepped) → FailsMore s c e s' r → Falls r 4 (steps_left s'.doing)
fails_fall s c e s' r (goes_on so is answer) = goes_fall r 4 (steps_left s'.doing) answer (to_phase s' (owing_with c s) 4 is (let less : 3 < 4 = omega arith in less))
fails_fall s c e s' r (no_memory room is answer) = gives_fall r (try.Failed e) 4 (steps_left s'.doing) answer
fails_fall s c e s' r (final not room is answer) = gives_fall r (try.Failed e) 4 (steps_left s'.doing) answer

pub replaced_falls : (s : ClientStream) (said : List ℕ) (s' : ClientStream) (r : Stepped) → ReadsResumption s said s' r → Falls r 2 (steps_left s'.doing)
replaced_falls s said s' r (gave out opens is answer) = goes_fall r 2 (steps_left s'.doing) answer (to_phase s' (replaced_by out.0 s) 2 is (let less : 1 < 2 = omega arith in less))
replaced_falls s said s' r (broke e fails_so is answer) = gives_fall r (try.Failed e) 2 (steps_left s'.doing) answer

pub closing_falls : (s : ClientStream) (came : Step ClosingCursor (Unit {0})) (s' : ClientStream) (r : Stepped) → HearsClosing s came s' r → Falls r 1 (steps_left s'.doing)
closing_falls s (step.Pending before) s' r h = gives_fall r try.Pending 1 (steps_left s'.doing) h.1
closing_falls s (step.Done t) s' r h = goes_fall r 1 (steps_left s'.doing) h.1 (to_phase s' (record s { doing = renewed }) 1 h.0 (let less : 0 < 1 = omega arith in less))
closing_falls s (step.Failed e) s' r (inl h) = gives_fall r (try.Failed e) 1 (steps_left s'.doing) h.2
closing_falls s (step.Failed e) s' r (inr h) = goes_fall r 1 (steps_left s'.doing) h.2 (to_phase s' (record s { doing = renewed }) 1 h.1 (let less : 0 < 1 = omega arith in less))

pub owing_falls : (r : Stepped) (e : Error) (before now : ℕ) → r ≡ stepped.Gives (try.Failed e) → Falls r before now
owing_falls r e before now answer = gives_fall r (try.Failed e) before now answer

pub falls_sooner : (r : Stepped) (now : ℕ) → Falls r 2 now → Falls r 3 now
falls_sooner stepped.Goes now h = let less : now < 2 = h in omega (arith, less)
falls_sooner stepped.Found now h = tt
falls_sooner (stepped.Gives p) now h = tt

-- the steps that may still come, by the phase as it was
pub falls_from : (r : Stepped) (s : Changes) (p : Phase) (now : ℕ) → p ≡ s.phase → Falls r (steps_left (doing_of p)) now → Falls r (steps_left (doing_of s.phase)) now
falls_from r s p now taken h = subst (λ (q : Phase). Falls r (steps_left (doing_of q)) now) taken h

-- ---- a poll of the cursor

-- What comes of it, at the end too.
abbrev pub TakesPoll : ClientStream → ClientCursor → NextPoll → ClientStream → Stepped → Type 0
TakesPoll s c next.Pending s' r = (s' ≡ with_cursor c s) × (r ≡ stepped.Gives try.Pending)
TakesPoll s c (next.Batch said) s' r = LooksAt false s c said s' r
TakesPoll s c next.End s' r = (s' ≡ with_cursor c s) × (r ≡ stepped.Gives (try.Ready result.Exhausted))
TakesPoll s c (next.Failed e) s' r = FailsMore s c e s' r

never_read : (c : ClientCursor) (said : List ℕ) (c' : ClientCursor) → ReadsReply c said c' next.End → ⊥
never_read c said c' (read told says is answer) = cc
never_read c said c' (unread e fails_so is answer) = cc

never_ends : (c : ClientCursor) (came : Step Sending (List ℕ)) (c' : ClientCursor) → Hears c came c' next.End → ⊥
never_ends c (step.Pending sending) c' h = let bad : next.End ≡ next.Pending = h.1 in cc
never_ends c (step.Done said) c' h = never_read c said c' h
never_ends c (step.Failed e) c' h = let bad : next.End ≡ next.Failed e = h.1 in cc

takes_more : (s : ClientStream) (c : ClientCursor) (came : Step Sending (List ℕ)) (p : NextPoll) (s' : ClientStream) (r : Stepped) → Hears s.cursor came c p → TakesPoll s c p s' r → TakesMore s c p s' r
takes_more s c came next.Pending s' r heard h = h
takes_more s c came (next.Batch said) s' r heard h = h
takes_more s c came next.End s' r heard h = absurd (never_ends s.cursor came c heard)
takes_more s c came (next.Failed e) s' r heard h = h

-- a poll that builds no getMore
pub poll_steps : (old new : Awaited) (log log' : LogTold) (wire : ℤ) (session : Option Session) (started : Bool) (s : ClientStream) (c : ClientCursor) (p : NextPoll) (s' : ClientStream) (r : Stepped) → s.doing ≡ follows → s.behind ≡ [] → NoneToBuild s.cursor → PollsNext old new log log' wire session started s.cursor c p → TakesPoll s c p s' r → DoesStep old new log log' wire session started s s' r
poll_steps old new log log' wire session started s c p s' r on none_left built (hands_out said at quiet unstarted is answer) h =
    looks on none_left said at quiet unstarted (subst (λ (x : ClientCursor). LooksAt false s x said s' r) is (subst (λ (q : NextPoll). TakesPoll s c q s' r) answer h))
poll_steps old new log log' wire session started s c p s' r on none_left built (is_over at over_so quiet unstarted is answer) h =
    let t = subst (λ (q : NextPoll). TakesPoll s c q s' r) answer h in
    ends on none_left at over_so quiet unstarted (t.0 ∙ ap (λ (x : ClientCursor). with_cursor x s) is) t.1
poll_steps old new log log' wire session started s c p s' r on none_left built (not_polled at may e fails_so quiet unstarted is answer) h = absurd (built at may)
poll_steps old new log log' wire session started s c p s' r on none_left built (begins at may sending new_one asked) h = absurd (built at may)
poll_steps old new log log' wire session started s c p s' r on none_left built (polls_on sending at asked) h =
    waits_more on none_left sending at (record { left = c; poll = p; runs = asked; takes = takes_more s c asked.came p s' r asked.hears h })

read_rests : (c : ClientCursor) (said : List ℕ) (c' : ClientCursor) (p : NextPoll) → ReadsReply c said c' p → c'.doing ≡ rests
read_rests c said c' p (read told says is answer) = ap (λ (x : ClientCursor). x.doing) is
read_rests c said c' p (unread e fails_so is answer) = ap (λ (x : ClientCursor). x.doing) is

heard_rests : (c : ClientCursor) (came : Step Sending (List ℕ)) (c' : ClientCursor) (p : NextPoll) → (p ≡ next.Pending → ⊥) → Hears c came c' p → c'.doing ≡ rests
heard_rests c (step.Pending sending) c' p ended h = absurd (ended h.1)
heard_rests c (step.Done said) c' p ended h = read_rests c said c' p h
heard_rests c (step.Failed e) c' p ended h = ap (λ (x : ClientCursor). x.doing) h.0

-- where nothing pends, nothing is on its way behind it
pub poll_rests : (old new : Awaited) (log log' : LogTold) (wire : ℤ) (session : Option Session) (started : Bool) (c c' : ClientCursor) (p : NextPoll) → (p ≡ next.Pending → ⊥) → PollsNext old new log log' wire session started c c' p → c'.doing ≡ rests
poll_rests old new log log' wire session started c c' p ended (hands_out said at quiet unstarted is answer) = ap (λ (x : ClientCursor). x.doing) is
poll_rests old new log log' wire session started c c' p ended (is_over at over_so quiet unstarted is answer) = ap (λ (x : ClientCursor). x.doing) is ∙ at
poll_rests old new log log' wire session started c c' p ended (not_polled at may e fails_so quiet unstarted is answer) = ap (λ (x : ClientCursor). x.doing) is ∙ at
poll_rests old new log log' wire session started c c' p ended (begins at may sending new_one asked) = heard_rests c asked.came c' p ended asked.hears
poll_rests old new log log' wire session started c c' p ended (polls_on sending at asked) = heard_rests c asked.came c' p ended asked.hears

-- but at the end the token is saved
pub poll_saves : (old new : Awaited) (log log' : LogTold) (wire : ℤ) (session : Option Session) (started : Bool) (t : TokenPlace) (c c' : ClientCursor) (p : NextPoll) → (p ≡ next.End → ⊥) → NoneToBuild c → SavesWhile t c.doing → PollsNext old new log log' wire session started c c' p → IsSavedPlace t
poll_saves old new log log' wire session started t c c' p more built saves (hands_out said at quiet unstarted is answer) = subst (SavesWhile t) at saves
poll_saves old new log log' wire session started t c c' p more built saves (is_over at over_so quiet unstarted is answer) = absurd (more answer)
poll_saves old new log log' wire session started t c c' p more built saves (not_polled at may e fails_so quiet unstarted is answer) = absurd (built at may)
poll_saves old new log log' wire session started t c c' p more built saves (begins at may sending new_one asked) = absurd (built at may)
poll_saves old new log log' wire session started t c c' p more built saves (polls_on sending at asked) = subst (SavesWhile t) at saves

-- and there the cursor is the same
pub poll_ends : (old new : Awaited) (log log' : LogTold) (wire : ℤ) (session : Option Session) (started : Bool) (c c' : ClientCursor) → NoneToBuild c → PollsNext old new log log' wire session started c c' next.End → c' ≡ c
poll_ends old new log log' wire session started c c' built (hands_out said at quiet unstarted is answer) = absurd cc
poll_ends old new log log' wire session started c c' built (is_over at over_so quiet unstarted is answer) = is
poll_ends old new log log' wire session started c c' built (not_polled at may e fails_so quiet unstarted is answer) = absurd (built at may)
poll_ends old new log log' wire session started c c' built (begins at may sending new_one asked) = absurd (built at may)
poll_ends old new log log' wire session started c c' built (polls_on sending at asked) = absurd (never_ends c asked.came c' asked.hears)

pub poll_keeps : (m m' : Moment) (s : ClientStream) (c : ClientCursor) (p : NextPoll) (s' : ClientStream) (r : Stepped) → s.doing ≡ follows → ((p ≡ next.Pending → ⊥) → c.doing ≡ rests) → TakesPoll s c p s' r → LinkKeeps m m' (client_ticket s.cursor) (client_ticket c) (next_ending p) → LinkKeeps m m' (stream_ticket s) (stream_ticket s') (stepped_ending r)
poll_keeps m m' s c p s' r on quiet h k =
    keeps_from m m' (client_ticket s.cursor) (stream_ticket s) (stream_ticket s') (stepped_ending r) (sym (ap (ticket_by s.cursor) on)) (by_poll p quiet h k)
  where
    by_poll : (q : NextPoll) → ((q ≡ next.Pending → ⊥) → c.doing ≡ rests) → TakesPoll s c q s' r → LinkKeeps m m' (client_ticket s.cursor) (client_ticket c) (next_ending q) → LinkKeeps m m' (client_ticket s.cursor) (stream_ticket s') (stepped_ending r)
    by_poll next.Pending still t j = as_given m m' (client_ticket s.cursor) (client_ticket c) (stream_ticket s') pending (stepped_ending r) (ap stream_ticket t.0 ∙ ap (ticket_by c) on) (ap stepped_ending t.1) j
    by_poll (next.Batch said) still t j = looks_keep m m' (client_ticket s.cursor) false s c said s' r (still (λ e. cc)) t j
    by_poll next.End still t j = as_given m m' (client_ticket s.cursor) (client_ticket c) (stream_ticket s') finished (stepped_ending r) (ap stream_ticket t.0 ∙ ap (ticket_by c) on) (ap stepped_ending t.1) j
    by_poll (next.Failed e) still t j = fails_keep m m' (client_ticket s.cursor) s c e s' r on (still (λ f. cc)) t j

-- ---- the batches of a stream

saved_batch : (t : TokenPlace) (a : ChangeStreamAggregate) (event : Option (List ℕ)) (x y : Option Tree) → IsSavedPlace t → record a { resume = option_map (known_at t event x) a.resume } ≡ record a { resume = option_map (known_at t event y) a.resume }
saved_batch place.Saved a event x y h = refl
saved_batch place.Event a event x y h = absurd h
saved_batch place.Batch a event x y h = absurd h

-- a token that is saved does not hang on them
pub batches_saved : (s : Changes) (b : Batches) → IsSavedPlace s.token → changes_of (record s { batches = b }) ≡ with_cursor (client_of b) (changes_of s)
batches_saved s b saved = ap (λ (a : ChangeStreamAggregate). record (changes_of s) { aggregate = a; cursor = client_of b }) (saved_batch s.token s.aggregate (current_of s.buffer) (client_of b).token (client_of s.batches).token saved)

pub batches_same : (s : Changes) (b : Batches) → client_of b ≡ client_of s.batches → changes_of (record s { batches = b }) ≡ with_cursor (client_of b) (changes_of s)
batches_same s b same =
    ap (λ (t : Option Tree). record (changes_of s) { aggregate = record s.aggregate { resume = option_map (known_at s.token (current_of s.buffer) t) s.aggregate.resume }; cursor = client_of b }) (ap (λ (x : ClientCursor). x.token) same)

pub placed_same : (s : Changes) (b : Batches) → client_of b ≡ client_of s.batches → IsPlaced s → IsPlaced (record s { batches = b })
placed_same s b same h = record {
  saves = h.saves;
  saves_so = subst (λ (x : ClientCursor). SavesWhile s.token x.doing) (sym same) h.saves_so;
  there = subst (λ (x : ClientCursor). IsThere s.token (current_of s.buffer) x.token) (sym same) h.there;
}

over_look : (again : Bool) (s : ClientStream) (c : ClientCursor) (said : List ℕ) (s' : ClientStream) (r : Stepped) → LooksAt again (with_cursor c s) c said s' r → LooksAt again s c said s' r
over_look again s c said s' r (some event events these is answer) = some event events these is answer
over_look again s c said s' r (none these is answer) = none these is answer
over_look again s c said s' r (broken e breaks is answer) = broken e breaks is answer

pub look_with : (again : Bool) (s t : ClientStream) (c : ClientCursor) (said : List ℕ) (s' : ClientStream) (r : Stepped) → t ≡ with_cursor c s → LooksAt again t c said s' r → LooksAt again s c said s' r
look_with again s t c said s' r same h = over_look again s c said s' r (subst (λ (x : ClientStream). LooksAt again x c said s' r) same h)

over_fail : (s : ClientStream) (c : ClientCursor) (e : Error) (s' : ClientStream) (r : Stepped) → FailsMore (with_cursor c s) c e s' r → FailsMore s c e s' r
over_fail s c e s' r (goes_on so is answer) = goes_on so is answer
over_fail s c e s' r (no_memory room is answer) = no_memory room is answer
over_fail s c e s' r (final not room is answer) = final not room is answer

pub fail_with : (s t : ClientStream) (c : ClientCursor) (e : Error) (s' : ClientStream) (r : Stepped) → t ≡ with_cursor c s → FailsMore t c e s' r → FailsMore s c e s' r
fail_with s t c e s' r same h = over_fail s c e s' r (subst (λ (x : ClientStream). FailsMore x c e s' r) same h)

-- ---- a getMore that was built

pub built_so : (s u : Changes) (b : Batches) (session : Option Session) → changes_of u ≡ changes_of s → u.token ≡ place.Saved → ((client_of s.batches).doing ≡ rests) × MayAsk (client_of s.batches)
    → (sending : Sending) × IsNew (get_more (client_of u.batches) session) sending × (client_of b ≡ asking_by sending (client_of u.batches)) → Prepares session (changes_of s) (changes_of (record u { batches = b }))
built_so s u b session same saved to_ask h =
    asks_now to_ask.0 to_ask.1 h.0 (subst (λ (x : ClientStream). IsNew (get_more x.cursor session) h.0) same h.1)
    (batches_saved u b (saved_place u.token saved) ∙ ap (λ (x : ClientCursor). with_cursor x (changes_of u)) h.2 ∙ ap (λ (x : ClientStream). with_cursor (asking_by h.0 x.cursor) x) same)

pub unbuilt_same : (s u : Changes) (b : Batches) → changes_of u ≡ changes_of s → u.token ≡ place.Saved → client_of b ≡ client_of u.batches → changes_of (record u { batches = b }) ≡ changes_of s
unbuilt_same s u b same saved stays = batches_saved u b (saved_place u.token saved) ∙ ap (λ (x : ClientCursor). with_cursor x (changes_of u)) stays ∙ same

-- behind it the stream goes on

pub ready_built : (session : Option Session) (s u : ClientStream) → Prepares session s u → NoneToBuild u.cursor
ready_built session s u (asks_now at may sending new_one is) = λ quiet may_so. let bad : asks sending ≡ rests = sym (ap (λ (x : ClientStream). x.cursor.doing) is) ∙ quiet in absurd cc
ready_built session s u (not_now built is) = subst (λ (x : ClientStream). NoneToBuild x.cursor) (sym is) built

pub ready_doing : (session : Option Session) (s u : ClientStream) → Prepares session s u → u.doing ≡ s.doing
ready_doing session s u (asks_now at may sending new_one is) = ap (λ (x : ClientStream). x.doing) is
ready_doing session s u (not_now built is) = ap (λ (x : ClientStream). x.doing) is

pub ready_behind : (session : Option Session) (s u : ClientStream) → Prepares session s u → u.behind ≡ s.behind
ready_behind session s u (asks_now at may sending new_one is) = ap (λ (x : ClientStream). x.behind) is
ready_behind session s u (not_now built is) = ap (λ (x : ClientStream). x.behind) is

pub ready_current : (session : Option Session) (s u : ClientStream) → Prepares session s u → u.current ≡ s.current
ready_current session s u (asks_now at may sending new_one is) = ap (λ (x : ClientStream). x.current) is
ready_current session s u (not_now built is) = ap (λ (x : ClientStream). x.current) is

pub ready_ticket : (session : Option Session) (s u : ClientStream) → s.doing ≡ follows → Prepares session s u → stream_ticket u ≡ stream_ticket s
ready_ticket session s u on (asks_now at may sending new_one is) =
    ap stream_ticket is ∙ ap (ticket_by (asking_by sending s.cursor)) on ∙ ap ticket_at new_one.new ∙ sym (ap cursors.ticket_by at) ∙ sym (ap (ticket_by s.cursor) on)
ready_ticket session s u on (not_now built is) = ap stream_ticket is

-- its getMore is the one that was built
module _ (old new : Awaited) (log log' : LogTold) (wire : ℤ) (session : Option Session) (started : Bool) (s : ClientStream) (on : s.doing ≡ follows) (none_left : s.behind ≡ []) (at : s.cursor.doing ≡ rests) (may : MayAsk s.cursor) (sending : Sending) (new_one : IsNew (get_more s.cursor session) sending) where
  same_sending : (other : Sending) → asks sending ≡ asks other → other ≡ sending
  same_sending other h = cc

  read_asked : (said : List ℕ) (c : ClientCursor) (p : NextPoll) → ReadsReply (asking_by sending s.cursor) said c p → ReadsReply s.cursor said c p
  read_asked said c p (read told says is answer) = read told says is answer
  read_asked said c p (unread e fails_so is answer) = unread e fails_so is answer

  hear_asked : (came : Step Sending (List ℕ)) (c : ClientCursor) (p : NextPoll) → Hears (asking_by sending s.cursor) came c p → Hears s.cursor came c p
  hear_asked (step.Pending waiting) c p h = (h.0, h.1)
  hear_asked (step.Done said) c p h = read_asked said c p h
  hear_asked (step.Failed e) c p h = (h.0 ∙ sym (behind_rested e.kind (asking_by sending s.cursor)) ∙ behind_rested e.kind s.cursor, h.1)

  take_asked : (c : ClientCursor) (p : NextPoll) (s' : ClientStream) (r : Stepped) → TakesMore (with_cursor (asking_by sending s.cursor) s) c p s' r → TakesMore s c p s' r
  take_asked c next.Pending s' r h = (h.0, h.1)
  take_asked c (next.Batch said) s' r (some event events these is answer) = some event events these is answer
  take_asked c (next.Batch said) s' r (none these is answer) = none these is answer
  take_asked c (next.Batch said) s' r (broken e breaks is answer) = broken e breaks is answer
  take_asked c next.End s' r h = h
  take_asked c (next.Failed e) s' r (goes_on so is answer) = goes_on so is answer
  take_asked c (next.Failed e) s' r (no_memory room is answer) = no_memory room is answer
  take_asked c (next.Failed e) s' r (final not room is answer) = final not room is answer

  asked_steps : (s' : ClientStream) (r : Stepped) → DoesStep old new log log' wire session started (with_cursor (asking_by sending s.cursor) s) s' r → DoesStep old new log log' wire session started s s' r
  asked_steps s' r (finds on_so left quiet unstarted is answer) = absurd (left none_left)
  asked_steps s' r (looks on_so none_so said at_so quiet unstarted h) = absurd (let bad : asks sending ≡ holds said = at_so in cc)
  asked_steps s' r (ends on_so none_so at_so over_so quiet unstarted is answer) = absurd (let bad : asks sending ≡ rests = at_so in cc)
  asked_steps s' r (not_asked on_so none_so at_so may_so e fails_so quiet unstarted is answer) = absurd (let bad : asks sending ≡ rests = at_so in cc)
  asked_steps s' r (asks_more on_so none_so at_so may_so other new_so h) = absurd (let bad : asks sending ≡ rests = at_so in cc)
  asked_steps s' r (waits_more on_so none_so other at_so h) =
      asks_more on none_left at may sending new_one
      (record {
        left = h.left;
        poll = h.poll;
        runs = record {
          came = h.runs.came;
          runs = subst (λ (x : Sending). RunsStarting old new log log' wire x h.runs.came started) (same_sending other at_so) h.runs.runs;
          hears = hear_asked h.runs.came h.left h.poll h.runs.hears;
        };
        takes = take_asked h.left h.poll s' r h.takes;
      })
  asked_steps s' r (not_resumed on_so e fails_so quiet unstarted is answer) = absurd (let bad : follows ≡ owes = sym on ∙ on_so in cc)
  asked_steps s' r (resumes_now on_so other new_so h) = absurd (let bad : follows ≡ owes = sym on ∙ on_so in cc)
  asked_steps s' r (waits_resumption other on_so h) = absurd (let bad : follows ≡ resumes other = sym on ∙ on_so in cc)
  asked_steps s' r (closes before on_so unstarted came polls h) = absurd (let bad : follows ≡ kills before = sym on ∙ on_so in cc)
  asked_steps s' r (renews on_so said at_so quiet unstarted h) = absurd (let bad : follows ≡ renewed = sym on ∙ on_so in cc)

pub ready_steps : (old new : Awaited) (log log' : LogTold) (wire : ℤ) (session : Option Session) (started : Bool) (s u s' : ClientStream) (r : Stepped) → s.doing ≡ follows → s.behind ≡ [] → Prepares session s u → DoesStep old new log log' wire session started u s' r → DoesStep old new log log' wire session started s s' r
ready_steps old new log log' wire session started s u s' r on none_left (asks_now at may sending new_one is) h =
    asked_steps old new log log' wire session started s on none_left at may sending new_one s' r (subst (λ (x : ClientStream). DoesStep old new log log' wire session started x s' r) is h)
ready_steps old new log log' wire session started s u s' r on none_left (not_now built is) h = subst (λ (x : ClientStream). DoesStep old new log log' wire session started x s' r) is h

-- ---- a batch that was taken

pub first_of : (events : List (List ℕ)) → events ≢ [] → (event : List ℕ) × (more : List (List ℕ)) × (events ≡ event ∷ more)
first_of [] left = absurd (left refl)
first_of (event ∷ more) left = (event, more, refl)

lent_none : (lends : Bool) → lent_if lends None ≡ None
lent_none true = refl
lent_none false = refl

saved_event : (t : TokenPlace) (a : ChangeStreamAggregate) (x y : Option (List ℕ)) (batch : Option Tree) → IsSavedPlace t → record a { resume = option_map (known_at t x batch) a.resume } ≡ record a { resume = option_map (known_at t y batch) a.resume }
saved_event place.Saved a x y batch h = refl
saved_event place.Event a x y batch h = absurd h
saved_event place.Batch a x y batch h = absurd h

-- the documents of a batch are behind, and no event is lent
pub filled_so : (s : Changes) (b : BatchBuffer) → IsSavedPlace s.token → (changes_of s).current ≡ None → current_of b ≡ None → changes_of (record s { buffer = b }) ≡ record (changes_of s) { behind = behind_of b }
filled_so s b saved given before =
    ap (λ (a : ChangeStreamAggregate). record (changes_of s) { aggregate = a; current = lent_if s.lends (current_of b); behind = behind_of b }) (saved_event s.token s.aggregate (current_of b) (current_of s.buffer) (client_of s.batches).token saved)
    ∙ ap (λ (x : Option (List ℕ)). record (changes_of s) { current = x; behind = behind_of b }) (ap (lent_if s.lends) before ∙ lent_none s.lends ∙ sym given)

pub found_looks : (again : Bool) (s t : ClientStream) (said : List ℕ) (events : List (List ℕ)) (s' : ClientStream) (r : Stepped) → documents_of said ≡ Some events → t ≡ record s { behind = events } → FindsIn t s' r → LooksAt again s s.cursor said s' r
found_looks again s t said events s' r these same h = by_parts (subst (λ (x : ClientStream). FindsIn x s' r) same h)
  where
    by_parts : FindsIn (record s { behind = events }) s' r → LooksAt again s s.cursor said s' r
    by_parts (next_is left is answer) =
        let f = first_of events left in
        some f.0 f.1 (these ∙ ap Some f.2) (is ∙ ap (λ (es : List (List ℕ)). record s { behind = es; doing = follows }) f.2) answer
    by_parts (is_empty none_left is answer) = none (these ∙ ap Some none_left) is answer

-- one that is malformed is not kept
pub broken_owes : (s t s' : ClientStream) (events : List (List ℕ)) → t ≡ record s { behind = events } → events ≡ [] → s' ≡ record t { doing = owes } → s' ≡ owing_with s.cursor s
broken_owes s t s' events same none_left is = is ∙ ap (λ (x : ClientStream). record x { doing = owes }) same ∙ ap (λ (es : List (List ℕ)). record s { behind = es; doing = owes }) none_left

-- ---- an event is next, or none

pub next_found : (s : Changes) → s.phase ≡ phase.Follows → changes_of s ≡ record (changes_of s) { doing = follows }
next_found s on = ap (λ (p : Phase). record (changes_of s) { doing = doing_of p }) on

pub emptied_so : (s : Changes) (t : TokenPlace) → t ≡ empty_place s.token (client_of s.batches).token → behind_of s.buffer ≡ [] → s.phase ≡ phase.Follows → changes_of (record s { token = t }) ≡ emptied (client_of s.batches) (changes_of s)
emptied_so s t lies none_left on =
    let batch = (client_of s.batches).token in
    ap (λ (x : TokenPlace). record (changes_of s) { aggregate = record s.aggregate { resume = option_map (known_at x (current_of s.buffer) batch) s.aggregate.resume } }) lies
    ∙ ap (λ (a : ChangeStreamAggregate). record (changes_of s) { aggregate = a }) (remembers_empty s.aggregate s.aggregate.resume s.token (current_of s.buffer) batch)
    ∙ ap (λ (es : List (List ℕ)). record (changes_of s) { aggregate = remembered_empty batch (changes_of s).aggregate; behind = es }) none_left
    ∙ ap (λ (p : Phase). record (changes_of s) { aggregate = remembered_empty batch (changes_of s).aggregate; behind = []; doing = doing_of p }) on

-- the token lies there behind an empty batch
pub emptied_placed : (s : Changes) (t : TokenPlace) → t ≡ empty_place s.token (client_of s.batches).token → IsSavedPlace s.token → s.phase ≡ phase.Follows → (client_of s.batches).doing ≡ rests → IsPlaced (record s { token = t })
emptied_placed s t lies saved on quiet =
    placed_resting (record s { token = t }) on quiet
    (subst (λ (x : TokenPlace). IsThere x (current_of s.buffer) (client_of s.batches).token) (sym lies)
    (there_empty s.token (current_of s.buffer) (client_of s.batches).token (placed_saved s (saved_is s.token saved)).there))

last_of : (events : List (List ℕ)) (last : Bool) → (IsTrue last ↔ (events ≡ [])) → last ≡ was_last events
last_of [] last means = means.1 refl
last_of (e ∷ es) true means = let bad : e ∷ es ≡ [] = means.0 refl in absurd cc
last_of (e ∷ es) false means = refl

-- where the token lies, by what is read of the buffer and of the batches
pub placed_by : (events : List (List ℕ)) (o : Option Tree) (last has : Bool) → (IsTrue last ↔ (events ≡ [])) → has ≡ is_some o → place_behind last has ≡ place_by events o
placed_by events o last has means is = ap (place_behind last) is ∙ ap (λ (b : Bool). place_behind b (is_some o)) (last_of events last means)

-- ---- the next event

-- an event is next that has a token
pub record NextOne (events : List (List ℕ)) : Type 0 where
  pub event : List ℕ
  pub more : List (List ℕ)
  pub these : events ≡ event ∷ more
  pub id : Tree
  pub has : id_in event ≡ Some id

some_of : (o : Option Tree) → is_some o ≡ true → (token : Tree) × (o ≡ Some token)
some_of (Some token) h = (token, refl)
some_of None h = absurd cc

none_of : (o : Option Tree) → is_some o ≡ false → o ≡ None
none_of (Some token) h = absurd cc
none_of None h = refl

next_one : (events : List (List ℕ)) → next_has events ≡ true → NextOne events
next_one [] h = absurd cc
next_one (event ∷ more) h = let id = some_of (id_in event) h in record { event = event; more = more; these = refl; id = id.0; has = id.1 }

-- what the first of them is
pub next_by : (events : List (List ℕ)) (event : List ℕ) → Some event ≡ front_of events → is_some (id_in event) ≡ next_has events
next_by [] event is = absurd cc
next_by (first ∷ more) event is = ap (λ (x : List ℕ). is_some (id_in x)) (let same : event ≡ first = cc in same)

pub next_none : (events : List (List ℕ)) → None ≡ front_of events → false ≡ next_has events
next_none [] is = refl
next_none (first ∷ more) is = absurd cc

pub none_next : (events : List (List ℕ)) → None ≡ front_of events → events ≡ []
none_next [] is = refl
none_next (first ∷ more) is = absurd cc

-- it has one
pub has_one : (events : List (List ℕ)) → next_has events ≡ true → (event : List ℕ) (more : List (List ℕ)) → events ≡ event ∷ more → id_in event ≢ None
has_one events h event more these none_so =
    let bad : true ≡ false = sym h ∙ ap next_has these ∙ ap is_some none_so in
    absurd cc

-- whether what is seen of an option is there
pub some_seen : {A B : Type 0} (seen : A → B) (o : Option A) → is_some (option_map seen o) ≡ is_some o
some_seen seen (Some x) = refl
some_seen seen None = refl

-- it is passed over
pub lacks_so : (s : Changes) (b : BatchBuffer) (e : Error) → behind_of s.buffer ≢ [] → next_has (behind_of s.buffer) ≡ false → current_of b ≡ current_of s.buffer → behind_of b ≡ without_front (behind_of s.buffer) → e ≡ plain kind.MissingResumeToken
    → LacksToken (changes_of s) (changes_of (record s { buffer = b })) e
lacks_so s b e left lacks same behind error =
    let f = first_of (behind_of s.buffer) left in
    record {
      event = f.0;
      events = f.1;
      next_is = f.2;
      lacks = none_of (id_in f.0) (sym (ap next_has f.2) ∙ lacks);
      passed =
          ap (λ (x : Option (List ℕ)). record (changes_of s) { aggregate = record s.aggregate { resume = option_map (known_at s.token x (client_of s.batches).token) s.aggregate.resume }; current = lent_if s.lends x; behind = behind_of b }) same
          ∙ ap (λ (es : List (List ℕ)). record (changes_of s) { behind = es }) (behind ∙ ap without_front f.2);
      error = error;
    }

pub passed_placed : (s : Changes) (b : BatchBuffer) → current_of b ≡ current_of s.buffer → IsPlaced s → IsPlaced (record s { buffer = b })
passed_placed s b same h = record { saves = h.saves; saves_so = h.saves_so; there = subst (λ (x : Option (List ℕ)). IsThere s.token x (client_of s.batches).token) (sym same) h.there }

-- it is given
given_by : (s : Changes) (b : BatchBuffer) (t : TokenPlace) (a : ChangeStreamAggregate) (event : List ℕ) (more : List (List ℕ)) (id : Tree) → id_in event ≡ Some id → current_of b ≡ Some event → behind_of b ≡ more → t ≡ place_by (behind_of b) (client_of s.batches).token → a ≡ returned s.aggregate
    → changes_of (record s { aggregate = a; buffer = b; token = t; lends = true }) ≡ behind_event event more id (changes_of s)
given_by s b t a event more id has current_is behind_is lies marked =
    let batch = (client_of s.batches).token in
    ap (λ (x : ChangeStreamAggregate). record (changes_of s) { aggregate = record x { resume = option_map (known_at t (current_of b) batch) x.resume }; current = current_of b; behind = behind_of b }) marked
    ∙ ap (λ (x : TokenPlace). record (changes_of s) { aggregate = record s.aggregate { resume = option_map (known_at x (current_of b) batch) (returned s.aggregate).resume }; current = current_of b; behind = behind_of b }) lies
    ∙ ap (λ (es : List (List ℕ)). record (changes_of s) { aggregate = record s.aggregate { resume = option_map (known_at (place_by es batch) (current_of b) batch) (returned s.aggregate).resume }; current = current_of b; behind = es }) behind_is
    ∙ ap (λ (x : Option (List ℕ)). record (changes_of s) { aggregate = record s.aggregate { resume = option_map (known_at (place_by more batch) x batch) (returned s.aggregate).resume }; current = x; behind = more }) current_is
    ∙ ap (λ (x : ChangeStreamAggregate). record (changes_of s) { aggregate = x; current = Some event; behind = more }) (remembers_event s.aggregate s.aggregate.resume s.token more None batch (current_of s.buffer) event id has)

module _ (s : Changes) (b : BatchBuffer) (t : TokenPlace) (there_so : Bool) (a : ChangeStreamAggregate) (has : next_has (behind_of s.buffer) ≡ true) (advances : AdvancesBy (behind_of s.buffer) b there_so) (lies : t ≡ place_by (behind_of b) (client_of s.batches).token) (marked : a ≡ returned s.aggregate) where
  advanced_at : (n : NextOne (behind_of s.buffer)) → (current_of b ≡ Some n.event) × (behind_of b ≡ n.more) × (there_so ≡ true)
  advanced_at n = subst (λ (es : List (List ℕ)). AdvancesBy es b there_so) n.these advances

  pub gives_so : (event : List ℕ) × AnswersEvent (changes_of s) (changes_of (record s { aggregate = a; buffer = b; token = t; lends = true })) event × (Some event ≡ front_of (behind_of s.buffer))
  gives_so =
      let n = next_one (behind_of s.buffer) has in
      let at = advanced_at n in
      (n.event, record { events = n.more; next_is = n.these; id = n.id; has = n.has; given = given_by s b t a n.event n.more n.id n.has at.0 at.1 lies marked }, sym (ap front_of n.these))

  pub gives_current : current_of b ≡ front_of (behind_of s.buffer)
  gives_current = let n = next_one (behind_of s.buffer) has in (advanced_at n).0 ∙ sym (ap front_of n.these)

  pub gives_placed : s.phase ≡ phase.Follows → (client_of s.batches).doing ≡ rests → IsPlaced (record s { aggregate = a; buffer = b; token = t; lends = true })
  gives_placed on quiet =
      let n = next_one (behind_of s.buffer) has in
      let at = advanced_at n in
      let batch = (client_of s.batches).token in
      placed_resting (record s { aggregate = a; buffer = b; token = t; lends = true }) on quiet
      (subst (λ (x : TokenPlace). IsThere x (current_of b) batch) (sym lies)
      (subst (λ (x : Option (List ℕ)). IsThere (place_by (behind_of b) batch) x batch) (sym at.0) (there_event (behind_of b) batch n.event n.id n.has)))

-- a copy of it is the same event
pub copy_given : (s s' : ClientStream) (front : Option (List ℕ)) (event copy : List ℕ) → Some event ≡ front → Some copy ≡ front → AnswersEvent s s' event → AnswersEvent s s' copy
copy_given s s' front event copy is copied h = subst (AnswersEvent s s') (let same : event ≡ copy = same_one event copy (is ∙ sym copied) in same) h
  where
    same_one : (x y : List ℕ) → Some x ≡ Some y → x ≡ y
    same_one x y e = cc

-- ---- the token is copied

cached_by_place : (a : ChangeStreamAggregate) (o : Option ChangeStreamData) (at : TokenPlace) (event : Option (List ℕ)) (batch token : Option Tree) → token ≡ token_lying at (token_known o) event batch
    → record a { resume = option_map (known_at place.Saved event batch) (option_map (λ (known : ChangeStreamData). record known { resume_token = token }) o) } ≡ record a { resume = option_map (known_at at event batch) o }
cached_by_place a None at event batch token is = refl
cached_by_place a (Some known) at event batch token is = ap (λ (t : Option Tree). record a { resume = Some (record known { resume_token = t }) }) is

pub kept_same : (s : Changes) (a : ChangeStreamAggregate) (token : Option Tree) → token ≡ token_lying s.token (token_known s.aggregate.resume) (current_of s.buffer) (client_of s.batches).token → a ≡ with_token token s.aggregate
    → changes_of (record s { aggregate = a; token = place.Saved }) ≡ changes_of s
kept_same s a token is kept =
    ap (λ (x : ChangeStreamAggregate). changes_of (record s { aggregate = x; token = place.Saved })) kept
    ∙ ap (λ (x : ChangeStreamAggregate). record (changes_of s) { aggregate = x }) (cached_by_place s.aggregate s.aggregate.resume s.token (current_of s.buffer) (client_of s.batches).token token is)

pub placed_either : (r : Result (Unit {0}) Error) (s t : Changes) → OnOk r (t.token ≡ place.Saved) → OnErr r (t ≡ s) → IsPlaced s → IsPlaced t
placed_either (Ok u) s t saved same h = placed_saved t saved
placed_either (Err e) s t saved same h = subst IsPlaced (sym same) h

-- ---- a call that has ended

pub try_kept : (s s' : ClientStream) (p q : TryPoll) → p ≡ q → s' ≡ kept_behind (try_ending q) s → s' ≡ kept_behind (try_ending p) s
try_kept s s' p q same kept = kept ∙ sym (ap (λ (x : TryPoll). kept_behind (try_ending x) s) same)

pub call_kept : (s s' : ClientStream) (p q : EventPoll) → p ≡ q → s' ≡ kept_behind (event_ending q) s → s' ≡ kept_behind (event_ending p) s
call_kept s s' p q same kept = kept ∙ sym (ap (λ (x : EventPoll). kept_behind (event_ending x) s) same)

-- ---- a resumption

-- a token that is saved is that of the aggregate
pub aggregate_saved : (t : TokenPlace) (a : ChangeStreamAggregate) (event : Option (List ℕ)) (batch : Option Tree) → IsSavedPlace t → record a { resume = option_map (known_at t event batch) a.resume } ≡ a
aggregate_saved place.Saved a event batch h = ap (λ (o : Option ChangeStreamData). record a { resume = o }) (saved_same event batch a.resume)
aggregate_saved place.Event a event batch h = absurd h
aggregate_saved place.Batch a event batch h = absurd h

-- the new cursor takes the place of the old one
pub replaced_so : (s t : Changes) (b : Batches) (out : CursorSpecification) (k : ClosingCursor) → IsSavedPlace s.token → behind_of s.buffer ≡ [] → client_of b ≡ new_client out → k ≡ closed (client_of s.batches) → t ≡ record s { batches = b; phase = phase.Kills k } → changes_of t ≡ replaced_by out (changes_of s)
replaced_so s t b out k saved none_left opens closes_so is =
    ap changes_of is
    ∙ ap (λ (x : ClientStream). record x { doing = kills k }) (batches_saved s b saved)
    ∙ ap (λ (x : ClientCursor). record (changes_of s) { cursor = x; doing = kills k }) opens
    ∙ ap (λ (es : List (List ℕ)). record (changes_of s) { cursor = new_client out; behind = es; doing = kills k }) none_left
    ∙ ap (λ (x : ClosingCursor). record (changes_of s) { cursor = new_client out; behind = []; doing = kills x }) closes_so

pub not_asking_sound : (c : ClientCursor) → IsNotAsking c.doing → cursors.IsSound false c
not_asking_sound c h = by_doing c.doing h
  where
    by_doing : (d : cursors.Doing) → IsNotAsking d → cursors.SoundBy false c d
    by_doing rests q = tt
    by_doing (holds said) q = tt
    by_doing (asks sending) q = absurd q

-- the reply in hand was taken
pub reply_taken : (c c' : ClientCursor) (said : List ℕ) → c.doing ≡ holds said → c' ≡ record c { doing = without_reply c.doing } → c' ≡ at_rest c
reply_taken c c' said at is = is ∙ ap (λ (d : cursors.Doing). record c { doing = without_reply d }) at

pub same_reply : (c : ClientCursor) (batch said : List ℕ) → Some batch ≡ reply_in c.doing → c.doing ≡ holds said → batch ≡ said
same_reply c batch said is at = same_one (is ∙ ap reply_in at)
  where
    same_one : Some batch ≡ Some said → batch ≡ said
    same_one e = cc

pub taken_rests : (c c' : ClientCursor) → IsHolding c.doing → c' ≡ record c { doing = without_reply c.doing } → c'.doing ≡ rests
taken_rests c c' held is = ap (λ (x : ClientCursor). x.doing) is ∙ by_doing c.doing held
  where
    by_doing : (d : cursors.Doing) → IsHolding d → without_reply d ≡ rests
    by_doing rests h = absurd h
    by_doing (holds said) h = refl
    by_doing (asks sending) h = absurd h

pub no_reply : (d : cursors.Doing) → IsHolding d → None ≡ reply_in d → ⊥
no_reply rests held is = held
no_reply (holds said) held is = let bad : None ≡ Some said = is in cc
no_reply (asks sending) held is = held

-- the batch of a resumption, as the stream stood before it was taken
pub look_taken : (s t s' : ClientStream) (c : ClientCursor) (batch said : List ℕ) (r : Stepped) → t ≡ with_cursor c s → c ≡ at_rest s.cursor → batch ≡ said → LooksAt true t t.cursor batch s' r → LooksAt true s (at_rest s.cursor) said s' r
look_taken s t s' c batch said r same is these h =
    subst (λ (b : List ℕ). LooksAt true s (at_rest s.cursor) b s' r) these
    (over_look true s (at_rest s.cursor) batch s' r (subst (λ (x : ClientStream). LooksAt true x x.cursor batch s' r) (same ∙ ap (λ (x : ClientCursor). with_cursor x s) is) h))

-- ---- closing

-- the token of a stream that is closed
pub closed_token : (o : ChangeStreamOptions) (r : Option ChangeStreamData) (at : TokenPlace) (event : Option (List ℕ)) (batch : Option Tree) → IsSaved o r → token_lying at (token_known r) event batch ≡ token_known (option_map (known_at at event batch) r)
closed_token o None at event batch h = absurd h
closed_token o (Some known) at event batch h = refl

-- the ticket that is held
pub closed_ticket : (lent : Bool) (s : ClientStream) → IsSound false s → stream_closing_ticket (closed_stream lent s) ≡ stream_ticket s
closed_ticket lent s h = by_doing s.doing h.by
  where
    by_doing : (d : Doing) → SoundBy false s d → landing_ticket s.cursor (landing_of d) ≡ ticket_by s.cursor d
    by_doing follows b = refl
    by_doing owes b = not_asking_ticket s.cursor.doing b.quiet
    by_doing (resumes sending) b = refl
    by_doing (kills before) b = refl
    by_doing renewed b = not_asking_ticket s.cursor.doing b.0.quiet

-- ---- sessions

-- what is sound without a session is sound in any
pub any_stream : (plain : Bool) (s : Changes) → IsStream plain s → IsStream false s
any_stream plain s h = record { sound = sound_any plain (changes_of s) h.sound; placed = h.placed }
