-- A cursor over an honest link, as the reader of a query's result: a list with a place.
use Rattle.std.proofs.Common.{◌≡◌, ◌≤◌, ◌+◌, ◌++◌, ◌||◌, ℕ, zero, suc, ℤ, pos, Bool, true, false, List, [], ◌∷◌, map, Option, Some, None, option_map, unwrap_or, refl, sym, ap, ◌∙◌, subst, inl, inr, arith, append_assoc, append-nil}
use Rattle.std.proofs.lemmas.Bool.{or_left, or_right}
use Rattle.mg_bson.specs.Raw.{fields}
use Rattle.mg_bson.specs.Tree.{Fields}
use Rattle.mg_server.specs.Commands.{asked, asks_more, batch_of}
use Rattle.mg_link.specs.Errors.{plain}
use Rattle.mg_link.specs.Exec.{Runs, Sending, Stage, first, second, unsent, IsFirstTry}
use Rattle.mg_link.specs.Link.{Awaited, LogTold}
use Rattle.mg_server.specs.Reader.{Fetching, ReadMoved, Reader, fetching, still}
use Rattle.mg_link.specs.Session.{Session}
use Rattle.mg_server.specs.Step.{ends_cursor}
use Rattle.mg_link.specs.declared.action.Step.{Step}
use Rattle.mg_link.specs.declared.action.Step.TheVariants as step
use Rattle.mg_link.specs.declared.error.Error.{Error}
use Rattle.mg_link.specs.declared.error.ErrorKind.{ErrorKind}
use Rattle.mg_link.specs.declared.error.ErrorKind.TheVariants as kind
use Rattle.mg_exec.proofs.Execs.{runs_of}
use Rattle.mg_server.proofs.Fetching.{reader_on}
use Rattle.mg_link.proofs.Waits.{waits_still}
use Rattle.mg_ops.specs.Cursors.{Cursor}
use Rattle.mg_ops.specs.Naming.{IsNamed}
use Rattle.mg_ops.proofs.Asking.{asks_for_more}
use Rattle.mg_ops.proofs.Reading.{batch_as, batch_read, named_read}
use Rattle.mg_cursor.specs.Batches.{documents_of}
use Rattle.mg_cursor.specs.Client.{ClientCursor, Doing, IsAsking, IsSound, SoundBy, asks, at_rest, behind_kind, holds, is_ending, rests, unless_ended}
use Rattle.mg_cursor.specs.Documents.{AdvancesOnce, DocumentCursor, Fills, TakesNext, advance_by, broken, filled, filled_with, gives, polls}
use Rattle.mg_cursor.specs.Polling.{Hears, PollsNext, ReadsReply, begins, broke, gave, goes_on, hands_out, is_over, not_built}
use Rattle.mg_cursor.specs.Reading.{batch_documents, fetching_at, fetching_by, in_reply, reader_in, reader_of, told_advance, told_item, told_next, told_try, with_current, with_given, with_loss}
use Rattle.mg_cursor.specs.Seeking.{CopiesCurrent, CopiesIf, EndsSeeking, SeekLeaves, SeeksDocument, TriesAdvance, kept_behind, session_after}
use Rattle.mg_cursor.specs.declared.polls.AdvancePoll.{AdvancePoll}
use Rattle.mg_cursor.specs.declared.polls.AdvancePoll.TheVariants as advance
use Rattle.mg_cursor.specs.declared.polls.ItemPoll.{ItemPoll}
use Rattle.mg_cursor.specs.declared.polls.NextPoll.{NextPoll}
use Rattle.mg_cursor.specs.declared.polls.NextPoll.TheVariants as next
use Rattle.mg_cursor.specs.declared.polls.TryPoll.{TryPoll}
use Rattle.mg_cursor.specs.declared.polls.TryPoll.TheVariants as try
use Rattle.mg_cursor.specs.declared.results.AdvanceResult.{AdvanceResult}
use Rattle.mg_cursor.specs.declared.results.AdvanceResult.TheVariants as result
use Rattle.mg_cursor.proofs.Advancing.{Passes, breaks_none, by_reply, got_empty, passes_next, passes_rest, was_held}
use Rattle.mg_cursor.proofs.Batching.{documents_read}
use Rattle.mg_cursor.proofs.Fetched.{FetchAnswered, FetchCame, IsWeaker, fetch_ran, read_let_go, read_weaker}
use Rattle.mg_cursor.proofs.Keeping.{IsPolled, polled_on}

-- ---- readers

-- a reader of this cursor, which does this
abbrev reads_at : Fetching → ℤ → List Fields → Reader → Reader
reads_at doing cursor ahead q = record q { doing = doing; cursor = cursor; ahead = ahead }

-- one more loss, by an error of this kind
abbrev lost_by : ErrorKind → Reader → Reader
lost_by k q = record q { losses = q.losses + 1; refused = q.refused || is_ending k }

-- the same of it, but for what was given and what may be lost
weaker : (doing : Fetching) (cursor : ℤ) (q : Reader) (given : List Fields) (before after : List Fields) (losses : ℕ) (refused : Bool) → q.given ++ before ≡ given ++ after → q.losses ≤ losses → (q.refused ≡ true → refused ≡ true) → IsWeaker (reads_at doing cursor before q) (reads_at doing cursor after (record q { given = given; losses = losses; refused = refused }))
weaker doing cursor q given before after losses refused these more ends = record { query = refl; opened = refl; doing = refl; cursor = refl; these = these; losses = more; refused = ends }

-- the batch in hand was given
given_weaker : (doing : Fetching) (cursor : ℤ) (q : Reader) (batch : List Fields) → IsWeaker (reads_at doing cursor batch q) (reads_at doing cursor [] (with_given batch q))
given_weaker doing cursor q batch = weaker doing cursor q (q.given ++ batch) batch [] q.losses q.refused (sym (append-nil (q.given ++ batch))) (omega arith) (λ is. is)

-- a call failed
lost_weaker : (doing : Fetching) (cursor : ℤ) (ahead : List Fields) (q : Reader) (ends : Bool) → IsWeaker (reads_at doing cursor ahead q) (reads_at doing cursor ahead (record q { losses = q.losses + 1; refused = q.refused || ends }))
lost_weaker doing cursor ahead q ends = weaker doing cursor q q.given ahead ahead (q.losses + 1) (q.refused || ends) refl (omega arith) (λ is. or_left q.refused ends is)

-- ---- what a poll of a getMore comes to

module _ (new : Awaited) (log log' : LogTold) (g : Reader) (q : Reader) where
  -- a failure that did not end the cursor, or did
  lost_so : (cursor : ℤ) (ends : Bool) → ReadMoved log log' g (reads_at still cursor [] (record q { losses = q.losses + 1 })) → ReadMoved log log' g (reads_at still cursor [] (record q { losses = q.losses + 1; refused = q.refused || ends }))
  lost_so cursor ends m =
      let lost : Reader = reads_at still cursor [] (record q { losses = q.losses + 1 }) in
      reader_on log log' log' g lost (reads_at still cursor [] (record q { losses = q.losses + 1; refused = q.refused || ends })) m
      (read_weaker log' log' lost (reads_at still cursor [] (record q { losses = q.losses + 1; refused = q.refused || ends })) refl
      (weaker still cursor (record q { losses = q.losses + 1 }) q.given [] [] (q.losses + 1) (q.refused || ends) refl (omega arith) (λ is. or_left q.refused ends is)))

  ended_so : (cursor : ℤ) → ReadMoved log log' g (reads_at still cursor [] (record q { losses = q.losses + 1 })) → ReadMoved log log' g (reads_at still (pos 0) [] (record q { losses = q.losses + 1; refused = q.refused || true }))
  ended_so cursor m =
      let lost : Reader = reads_at still cursor [] (record q { losses = q.losses + 1 }) in
      let left : Reader = reads_at still (pos 0) [] (record q { losses = q.losses + 1; refused = true }) in
      let over : Reader = reads_at still (pos 0) [] (record q { losses = q.losses + 1; refused = q.refused || true }) in
      reader_on log log' log' g lost over m
      (reader_on log' log' log' lost left over (read_let_go log' log' lost refl refl)
      (read_weaker log' log' left over refl (weaker still (pos 0) (record q { losses = q.losses + 1; refused = true }) q.given [] [] (q.losses + 1) (q.refused || true) refl (omega arith) (λ is. or_right q.refused true refl))))

  refused_read : (ended : Bool) (c : ClientCursor) → ReadMoved log log' g (reads_at still c.id [] (record q { losses = q.losses + 1 })) → ReadMoved log log' g (reader_in new (at_rest (unless_ended ended c)) (record q { losses = q.losses + 1; refused = q.refused || ended }))
  refused_read true c m = ended_so c.id m
  refused_read false c m = lost_so c.id false m

  failed_read : (k : ErrorKind) (c : ClientCursor) → ReadMoved log log' g (reads_at still c.id [] (record q { losses = q.losses + 1 })) → ReadMoved log log' g (reader_in new (at_rest (behind_kind k c)) (lost_by k q))
  failed_read kind.Io c m = lost_so c.id false m
  failed_read (kind.Command refusal) c m = refused_read (ends_cursor refusal.code) c m
  failed_read _ c m = lost_so c.id false m

  -- the batch of a reply was read, or is none that a server may give
  taken_read : (c : ClientCursor) (reply : List ℕ) (said : Cursor) (o : Option (List (List ℕ))) → batch_of (fields reply) ≡ option_map (batch_as said) (option_map (map fields) o) → FetchAnswered (reads_at still c.id [] q) log log' g reply
      → ReadMoved log log' g (reads_at still said.id [] (with_given (unwrap_or (option_map (map fields) o) []) q))
  taken_read c reply said (Some ds) batch f =
      let some : Reader = reads_at still said.id (map fields ds) q in
      reader_on log log' log' g some (reads_at still said.id [] (with_given (map fields ds) q)) (f.heard (batch_as said (map fields ds)) batch) (read_weaker log' log' some (reads_at still said.id [] (with_given (map fields ds) q)) refl (given_weaker still said.id q (map fields ds)))
  taken_read c reply said None batch f =
      let none : Reader = reads_at still said.id [] q in
      reader_on log log' log' g none (reads_at still said.id [] (with_given [] q)) (f.spoiled batch said.id []) (read_weaker log' log' none (reads_at still said.id [] (with_given [] q)) refl (given_weaker still said.id q []))

  reply_read : (c : ClientCursor) (reply : List ℕ) (c' : ClientCursor) (r : NextPoll) → FetchAnswered (reads_at still c.id [] q) log log' g reply → ReadsReply c reply c' r → ReadMoved log log' g (reader_in new c' (told_next r q))
  reply_read c reply c' r f (gave said says is answer) =
      let batch = batch_read (fields reply) said says ∙ ap (option_map (batch_as said)) (documents_read reply said says) in
      subst (λ (x : NextPoll). ReadMoved log log' g (reader_in new c' (told_next x q))) (sym answer)
      (subst (λ (x : ClientCursor). ReadMoved log log' g (reader_in new x (with_given (batch_documents reply) q))) (sym is) (taken_read c reply said (documents_of reply) batch f))
  reply_read c reply c' r f (broke e fails is answer) =
      subst (λ (x : NextPoll). ReadMoved log log' g (reader_in new c' (told_next x q))) (sym answer)
      (subst (λ (x : ClientCursor). ReadMoved log log' g (reader_in new x (with_loss e q))) (sym is) (lost_so c.id (is_ending e.kind) f.lost))

  came_read : (old : Awaited) (wire : ℤ) (c : ClientCursor) (sending : Sending) (came : Step Sending (List ℕ)) (c' : ClientCursor) (r : NextPoll) → sending.retries ≡ false → IsFirstTry sending.stage → Runs old new log log' wire sending came → FetchCame (reads_at still c.id [] q) new log log' g came → Hears c came c' r → ReadMoved log log' g (reader_in new c' (told_next r q))
  came_read old wire c sending (step.Pending waiting) c' r single first_try runs f h =
      let w = waits_still old new log log' wire sending waiting single first_try runs in
      subst (λ (x : NextPoll). ReadMoved log log' g (reader_in new c' (told_next x q))) (sym h.1)
      (subst (λ (x : ClientCursor). ReadMoved log log' g (reader_in new x q)) (sym h.0)
      (subst (λ (s : Stage). ReadMoved log log' g (reads_at (fetching_at new s) c.id [] q)) (sym w.waits_by) (f w.ticket w.waits_by)))
  came_read old wire c sending (step.Done reply) c' r single first_try runs f h = reply_read c reply c' r f h
  came_read old wire c sending (step.Failed e) c' r single first_try runs f h =
      subst (λ (x : NextPoll). ReadMoved log log' g (reader_in new c' (told_next x q))) (sym h.1)
      (subst (λ (x : ClientCursor). ReadMoved log log' g (reader_in new x (with_loss e q))) (sym h.0) (failed_read e.kind c f))

-- ---- a poll for the next batch

polled_read : (old new : Awaited) (log log' : LogTold) (wire : ℤ) (session : Option Session) (c c' : ClientCursor) (sending : Sending) (came : Step Sending (List ℕ)) (r : NextPoll) (q : Reader) → IsNamed c.space → IsPolled c session sending → Runs old new log log' wire sending came → Hears c came c' r → ReadMoved log log' (reads_at (fetching_at old sending.stage) c.id [] q) (reader_in new c' (told_next r q))
polled_read old new log log' wire session c c' sending came r q named is runs h =
    let asks_so : asked sending.command ≡ asks_more c.id c.space = asks_for_more sending.command c.id c.space c.manner.size c.manner.wait c.manner.comment session named is.command_is in
    came_read new log log' (reads_at (fetching_at old sending.stage) c.id [] q) q old wire c sending came c' r is.single is.at runs
    (fetch_ran (reads_at still c.id [] q) old new log log' wire sending c.space came is.may.held asks_so is.single runs) h

-- where the cursor does this
from_doing : (old : Awaited) (log log' : LogTold) (c : ClientCursor) (d : Doing) (q q' : Reader) → c.doing ≡ d → ReadMoved log log' (reads_at (fetching_by old d) c.id ([] ++ in_reply d) q) q' → ReadMoved log log' (reader_in old c q) q'
from_doing old log log' c d q q' is m = subst (λ (x : Doing). ReadMoved log log' (reads_at (fetching_by old x) c.id ([] ++ in_reply x) q) q') (sym is) m

-- nothing was called, and the cursor is the same
quiet_read : (old new : Awaited) (log log' : LogTold) (c c' : ClientCursor) (r r' : NextPoll) (q : Reader) → log' ≡ log → c.doing ≡ rests → c' ≡ c → r' ≡ r → IsWeaker (reads_at still c.id [] q) (reads_at still c.id [] (told_next r q)) → ReadMoved log log' (reader_in old c q) (reader_in new c' (told_next r' q))
quiet_read old new log log' c c' r r' q same at_rest_so is answer w =
    from_doing old log log' c rests q (reader_in new c' (told_next r' q)) at_rest_so
    (subst (λ (x : NextPoll). ReadMoved log log' (reads_at still c.id [] q) (reader_in new c' (told_next x q))) (sym answer)
    (subst (λ (x : ClientCursor). ReadMoved log log' (reads_at still c.id [] q) (reader_in new x (told_next r q))) (sym is)
    (subst (λ (x : Doing). ReadMoved log log' (reads_at still c.id [] q) (reads_at (fetching_by new x) c.id ([] ++ in_reply x) (told_next r q))) (sym at_rest_so)
    (read_weaker log log' (reads_at still c.id [] q) (reads_at still c.id [] (told_next r q)) same w))))

pub next_read : (plain : Bool) (old new : Awaited) (log log' : LogTold) (wire : ℤ) (session : Option Session) (started : Bool) (c c' : ClientCursor) (r : NextPoll) → IsSound plain c → IsNamed c.space → PollsNext old new log log' wire session started c c' r → (q : Reader) → ReadMoved log log' (reader_in old c q) (reader_in new c' (told_next r q))
next_read plain old new log log' wire session started c c' r sound named (hands_out reply held none same is answer) = λ q.
    from_doing old log log' c (holds reply) q (reader_in new c' (told_next r q)) held
    (subst (λ (x : NextPoll). ReadMoved log log' (reads_at still c.id (batch_documents reply) q) (reader_in new c' (told_next x q))) (sym answer)
    (subst (λ (x : ClientCursor). ReadMoved log log' (reads_at still c.id (batch_documents reply) q) (reader_in new x (with_given (batch_documents reply) q))) (sym is)
    (read_weaker log log' (reads_at still c.id (batch_documents reply) q) (reads_at still c.id [] (with_given (batch_documents reply) q)) none.log_same (given_weaker still c.id q (batch_documents reply)))))
next_read plain old new log log' wire session started c c' r sound named (is_over quiet over none same is answer) = λ q.
    quiet_read old new log log' c c' next.End r q none.log_same quiet is answer (weaker still c.id q q.given [] [] q.losses q.refused refl (omega arith) (λ ends. ends))
next_read plain old new log log' wire session started c c' r sound named (not_built quiet may e fails none same is answer) = λ q.
    quiet_read old new log log' c c' (next.Failed e) r q none.log_same quiet is answer (lost_weaker still c.id [] q (is_ending e.kind))
next_read plain old new log log' wire session started c c' r sound named (begins quiet may sending new_one ran) = λ q.
    let is : IsPolled c session sending = record { command_is = new_one.command_is; single = new_one.single; at = subst IsFirstTry (sym new_one.new) tt; may = may } in
    from_doing old log log' c rests q (reader_in new c' (told_next r q)) quiet
    (subst (λ (s : Stage). ReadMoved log log' (reads_at (fetching_at old s) c.id [] q) (reader_in new c' (told_next r q))) new_one.new
    (polled_read old new log log' wire session c c' sending ran.came r q named is (runs_of old new log log' wire sending ran.came started ran.runs) ran.hears))
next_read plain old new log log' wire session started c c' r sound named (goes_on sending flies ran) = λ q.
    let on : IsAsking plain c sending = subst (SoundBy plain c) flies sound in
    from_doing old log log' c (asks sending) q (reader_in new c' (told_next r q)) flies
    (polled_read old new log log' wire on.session c c' sending ran.came r q named (polled_on plain c sending on) (runs_of old new log log' wire sending ran.came started ran.runs) ran.hears)

-- ---- an advance

same_place : (old new : Awaited) → ((m : ℕ) → new m ≡ old m) → (stage : Stage) → fetching_at new stage ≡ fetching_at old stage
same_place old new same unsent = refl
same_place old new same (first ticket) = ap fetching (same ticket)
same_place old new same (second ticket) = ap fetching (same ticket)

same_fetching : (old new : Awaited) → ((m : ℕ) → new m ≡ old m) → (d : Doing) → fetching_by new d ≡ fetching_by old d
same_fetching old new same rests = refl
same_fetching old new same (holds reply) = refl
same_fetching old new same (asks sending) = same_place old new same sending.stage

-- the next document that was received is given
give_one : (q : Reader) (x : Fields) (xs left : List Fields) → q.given ++ ((x ∷ xs) ++ left) ≡ (q.given ++ x ∷ []) ++ (xs ++ left)
give_one q x xs left = sym (append_assoc q.given (x ∷ []) (xs ++ left))

-- documents that were handed out as a batch, of which one is given
give_first : (q : Reader) (x : Fields) (xs left : List Fields) → (q.given ++ x ∷ xs) ++ left ≡ (q.given ++ x ∷ []) ++ (xs ++ left)
give_first q x xs left = append_assoc q.given (x ∷ xs) left ∙ give_one q x xs left

module _ (new : Awaited) (log' : LogTold) (d d' : DocumentCursor) (q : Reader) where
  -- where the reader of the batch as a whole stands, there stands that of its documents
  filled_read : (c : ClientCursor) (documents : List (List ℕ)) → ReadMoved log' log' (reader_in new c (with_given (map fields documents) q)) (reader_of new (filled_with c documents d) (told_try (advance_by documents) (filled_with c documents d).current q))
  filled_read c [] =
      read_weaker log' log' (reader_in new c (with_given [] q)) (reader_of new (filled_with c [] d) q) refl
      (record { query = refl; opened = refl; doing = refl; cursor = refl; these = ap (λ (l : List Fields). l ++ in_reply c.doing) (append-nil q.given); losses = omega arith; refused = λ is. is })
  filled_read c (x ∷ xs) =
      read_weaker log' log' (reader_in new c (with_given (map fields (x ∷ xs)) q)) (reader_of new (filled_with c (x ∷ xs) d) (with_given (fields x ∷ []) q)) refl
      (record { query = refl; opened = refl; doing = refl; cursor = refl; these = give_first q (fields x) (map fields xs) (in_reply c.doing); losses = omega arith; refused = λ is. is })

  -- a batch that is none
  unfilled_read : (c : ClientCursor) (e : Error) → ReadMoved log' log' (reader_in new c (with_given [] q)) (reader_of new (filled_with c [] d) (with_loss e q))
  unfilled_read c e =
      read_weaker log' log' (reader_in new c (with_given [] q)) (reader_of new (filled_with c [] d) (with_loss e q)) refl
      (record { query = refl; opened = refl; doing = refl; cursor = refl; these = ap (λ (l : List Fields). l ++ in_reply c.doing) (append-nil q.given); losses = omega arith; refused = λ is. or_left q.refused (is_ending e.kind) is })

  module _ (log : LogTold) (g : Reader) where
    -- the cursor and the poll, as they were seen
    as_seen : (e : DocumentCursor) (r r' : TryPoll) → d' ≡ e → r' ≡ r → ReadMoved log log' g (reader_of new e (told_try r e.current q)) → ReadMoved log log' g (reader_of new d' (told_try r' d'.current q))
    as_seen e r r' is answer m =
        subst (λ (x : TryPoll). ReadMoved log log' g (reader_of new d' (told_try x d'.current q))) (sym answer)
        (subst (λ (x : DocumentCursor). ReadMoved log log' g (reader_of new x (told_try r x.current q))) (sym is) m)

    fills_read : (c : ClientCursor) (bytes : List ℕ) (r : TryPoll) → Fills d c bytes d' r → ReadMoved log log' g (reader_in new c (with_given (batch_documents bytes) q)) → ReadMoved log log' g (reader_of new d' (told_try r d'.current q))
    fills_read c bytes r (filled documents these is answer) m =
        let whole = subst (λ (o : Option (List (List ℕ))). ReadMoved log log' g (reader_in new c (with_given (unwrap_or (option_map (map fields) o) []) q))) these m in
        as_seen (filled_with c documents d) (advance_by documents) r is answer
        (reader_on log log' log' g (reader_in new c (with_given (map fields documents) q)) (reader_of new (filled_with c documents d) (told_try (advance_by documents) (filled_with c documents d).current q)) whole (filled_read c documents))
    fills_read c bytes r (broken e breaks is answer) m =
        let none = subst (λ (o : Option (List (List ℕ))). ReadMoved log log' g (reader_in new c (with_given (unwrap_or (option_map (map fields) o) []) q))) (breaks_none bytes e breaks) m in
        as_seen (filled_with c [] d) (try.Failed e) r is answer
        (reader_on log log' log' g (reader_in new c (with_given [] q)) (reader_of new (filled_with c [] d) (with_loss e q)) none (unfilled_read c e))

    takes_read : (c : ClientCursor) (p : NextPoll) (r : TryPoll) → TakesNext d c p d' r → ReadMoved log log' g (reader_in new c (told_next p q)) → ReadMoved log log' g (reader_of new d' (told_try r d'.current q))
    takes_read c next.Pending r h m = as_seen (filled_with c [] d) try.Pending r h.0 h.1 m
    takes_read c (next.Batch bytes) r h m = fills_read c bytes r h m
    takes_read c next.End r h m = as_seen (filled_with c [] d) (try.Ready result.Exhausted) r h.0 h.1 m
    takes_read c (next.Failed e) r h m = as_seen (filled_with c [] d) (try.Failed e) r h.0 h.1 m

pub advance_read : (plain : Bool) (old new : Awaited) (log log' : LogTold) (wire : ℤ) (session : Option Session) (started : Bool) (d d' : DocumentCursor) (r : TryPoll) → IsSound plain d.cursor → IsNamed d.cursor.space → AdvancesOnce old new log log' wire session started d d' r → (q : Reader) → ReadMoved log log' (reader_of old d q) (reader_of new d' (told_try r d'.current q))
advance_read plain old new log log' wire session started d d' r sound named (gives x xs these none same is answer) = λ q.
    let before : Reader = reads_at (fetching_by old d.cursor.doing) d.cursor.id (map fields (x ∷ xs) ++ in_reply d.cursor.doing) q in
    let e : DocumentCursor = record d { current = Some x; behind = xs } in
    subst (λ (l : List (List ℕ)). ReadMoved log log' (reads_at (fetching_by old d.cursor.doing) d.cursor.id (map fields l ++ in_reply d.cursor.doing) q) (reader_of new d' (told_try r d'.current q))) (sym these)
    (as_seen new log' d d' q log before e (try.Ready (result.Advanced tt)) r is answer
    (read_weaker log log' before (reader_of new e (with_given (fields x ∷ []) q)) none.log_same
    (record { query = refl; opened = refl; doing = same_fetching old new none.rest d.cursor.doing; cursor = refl; these = give_one q (fields x) (map fields xs) (in_reply d.cursor.doing); losses = omega arith; refused = λ ends. ends })))
advance_read plain old new log log' wire session started d d' r sound named (polls none_left c p ran takes) = λ q.
    subst (λ (l : List (List ℕ)). ReadMoved log log' (reads_at (fetching_by old d.cursor.doing) d.cursor.id (map fields l ++ in_reply d.cursor.doing) q) (reader_of new d' (told_try r d'.current q))) (sym none_left)
    (takes_read new log' d d' q log (reader_in old d.cursor q) c p r takes (next_read plain old new log log' wire session started d.cursor c p sound named ran q))

-- ---- a call with one advance

kept_read : (awaited : Awaited) (r : TryPoll) (d : DocumentCursor) (q : Reader) → reader_of awaited (kept_behind r d) (told_try r (kept_behind r d).current q) ≡ reader_of awaited d (told_try r d.current q)
kept_read awaited try.Pending d q = refl
kept_read awaited (try.Ready a) d q = refl
kept_read awaited (try.Failed e) d q = refl

pub tries_read : (plain : Bool) (old new : Awaited) (log log' : LogTold) (wire : ℤ) (session : Option Session) (started : Bool) (d d' : DocumentCursor) (r : TryPoll) → IsSound plain d.cursor → IsNamed d.cursor.space → TriesAdvance old new log log' wire session started d d' r → (q : Reader) → ReadMoved log log' (reader_of old d q) (reader_of new d' (told_try r d'.current q))
tries_read plain old new log log' wire session started d d' r sound named h q =
    subst (λ (x : DocumentCursor). ReadMoved log log' (reader_of old d q) (reader_of new x (told_try r x.current q))) (sym h.kept)
    (subst (ReadMoved log log' (reader_of old d q)) (sym (kept_read new r h.advanced q)) (advance_read plain old new log log' wire session started d h.advanced r sound named h.tries q))

-- ---- a call with many

-- the cursor behind a batch that was handed out has a name that a server takes
passes_named : (bytes : List ℕ) (c c' : ClientCursor) → IsNamed c.space → Passes (Unit {0}) bytes c c' → IsNamed c'.space
passes_named bytes c c' named (was_held held is) = subst (λ (x : ClientCursor). IsNamed x.space) (sym is) named
passes_named bytes c c' named (by_reply said heard says is) = subst (λ (x : ClientCursor). IsNamed x.space) (sym is) (named_read (fields bytes) said says)

ready_read : (awaited : Awaited) (log log' : LogTold) (g : Reader) (e d' : DocumentCursor) (a : AdvanceResult (Unit {0})) (r : AdvancePoll) (q : Reader) → EndsSeeking (try.Ready a) e d' r → ReadMoved log log' g (reader_of awaited e (told_try (try.Ready a) e.current q)) → ReadMoved log log' g (reader_of awaited d' (told_advance r d'.current q))
ready_read awaited log log' g e d' (result.Advanced t) r q ends m =
    subst (λ (x : AdvancePoll). ReadMoved log log' g (reader_of awaited d' (told_advance x d'.current q))) (sym ends.2) (subst (λ (x : DocumentCursor). ReadMoved log log' g (reader_of awaited x (with_current x.current q))) (sym ends.1) m)
ready_read awaited log log' g e d' result.Exhausted r q ends m =
    subst (λ (x : AdvancePoll). ReadMoved log log' g (reader_of awaited d' (told_advance x d'.current q))) (sym ends.2) (subst (λ (x : DocumentCursor). ReadMoved log log' g (reader_of awaited x q)) (sym ends.1) m)
ready_read awaited log log' g e d' result.Waiting r q ends m =
    let ahead : List Fields = map fields e.behind ++ in_reply e.cursor.doing in
    subst (λ (x : AdvancePoll). ReadMoved log log' g (reader_of awaited d' (told_advance x d'.current q))) (sym ends.2)
    (subst (λ (x : DocumentCursor). ReadMoved log log' g (reader_of awaited x (record q { losses = q.losses + 1; refused = q.refused || false }))) (sym ends.1)
    (reader_on log log' log' g (reader_of awaited e q) (reader_of awaited e (record q { losses = q.losses + 1; refused = q.refused || false })) m
    (read_weaker log' log' (reader_of awaited e q) (reader_of awaited e (record q { losses = q.losses + 1; refused = q.refused || false })) refl (lost_weaker (fetching_by awaited e.cursor.doing) e.cursor.id ahead q false))))

ended_read : (awaited : Awaited) (log log' : LogTold) (g : Reader) (e d' : DocumentCursor) (p : TryPoll) (r : AdvancePoll) (q : Reader) → EndsSeeking p e d' r → ReadMoved log log' g (reader_of awaited e (told_try p e.current q)) → ReadMoved log log' g (reader_of awaited d' (told_advance r d'.current q))
ended_read awaited log log' g e d' try.Pending r q ends m =
    subst (λ (x : AdvancePoll). ReadMoved log log' g (reader_of awaited d' (told_advance x d'.current q))) (sym ends.1) (subst (λ (x : DocumentCursor). ReadMoved log log' g (reader_of awaited x q)) (sym ends.0) m)
ended_read awaited log log' g e d' (try.Ready a) r q ends m = ready_read awaited log log' g e d' a r q ends m
ended_read awaited log log' g e d' (try.Failed f) r q ends m =
    subst (λ (x : AdvancePoll). ReadMoved log log' g (reader_of awaited d' (told_advance x d'.current q))) (sym ends.1) (subst (λ (x : DocumentCursor). ReadMoved log log' g (reader_of awaited x (with_loss f q))) (sym ends.0) m)

-- a cursor at rest, of which nothing is to be known
sound_rest : (plain : Bool) (c : ClientCursor) → c.doing ≡ rests → IsSound plain c
sound_rest plain c is = subst (SoundBy plain c) (sym is) tt

pub seeks_read : (n : ℕ) (plain : Bool) (old new : Awaited) (log log' : LogTold) (wire : ℤ) (session : Option Session) (starts : ℕ) (d d' : DocumentCursor) (r : AdvancePoll) → IsSound plain d.cursor → IsNamed d.cursor.space → SeeksDocument n old new log log' wire session starts d d' r → (q : Reader) → ReadMoved log log' (reader_of old d q) (reader_of new d' (told_advance r d'.current q))
unfolding SeeksDocument
seeks_read zero plain old new log log' wire session starts d d' r sound named last = λ q.
    ended_read new log log' (reader_of old d q) last.advanced d' last.poll r q last.ends (advance_read plain old new log log' wire session last.started d last.advanced last.poll sound named last.tries q)
seeks_read (suc n) plain old new log log' wire session starts d d' r sound named more = λ q.
    let on = more.5 in
    let empty = got_empty old more.0 log more.1 wire session more.2 d on.advanced (try.Ready result.Waiting) refl on.tries in
    let handed : Passes (Unit {0}) empty.bytes d.cursor empty.behind = passes_next (Unit {0}) empty.bytes d.cursor empty.behind (next.Batch empty.bytes) refl old more.0 log more.1 wire session more.2 (inr tt) empty.asked in
    let there : more.4.cursor ≡ empty.behind = ap (λ (x : DocumentCursor). x.cursor) on.counts ∙ ap (λ (x : DocumentCursor). x.cursor) empty.is in
    let at_rest_so : more.4.cursor.doing ≡ rests = ap (λ (x : ClientCursor). x.doing) there ∙ passes_rest (Unit {0}) empty.bytes d.cursor empty.behind handed in
    let named_so : IsNamed more.4.cursor.space = subst (λ (x : ClientCursor). IsNamed x.space) (sym there) (passes_named empty.bytes d.cursor empty.behind named handed) in
    let step_read = advance_read plain old more.0 log more.1 wire session more.2 d on.advanced (try.Ready result.Waiting) sound named on.tries q in
    let counted_read = subst (λ (x : DocumentCursor). ReadMoved log more.1 (reader_of old d q) (reader_of more.0 x q)) (sym on.counts) step_read in
    reader_on log more.1 log' (reader_of old d q) (reader_of more.0 more.4 q) (reader_of new d' (told_advance r d'.current q)) counted_read
    (seeks_read n plain more.0 new more.1 log' wire (session_after more.2 session) more.3 more.4 d' r (sound_rest plain more.4.cursor at_rest_so) named_so more.7 q)

-- ---- a copy of the document

-- a copy that found no memory
uncopied_read : (awaited : Awaited) (log log' : LogTold) (g : Reader) (d : DocumentCursor) (current : Option (List ℕ)) (e : Error) (q : Reader) → ReadMoved log log' g (reader_of awaited d (with_current current q)) → ReadMoved log log' g (reader_of awaited d (with_current current (with_loss e q)))
uncopied_read awaited log log' g d None e q m =
    let ahead : List Fields = map fields d.behind ++ in_reply d.cursor.doing in
    reader_on log log' log' g (reader_of awaited d q) (reader_of awaited d (with_loss e q)) m
    (read_weaker log' log' (reader_of awaited d q) (reader_of awaited d (with_loss e q)) refl (lost_weaker (fetching_by awaited d.cursor.doing) d.cursor.id ahead q (is_ending e.kind)))
uncopied_read awaited log log' g d (Some x) e q m =
    let ahead : List Fields = map fields d.behind ++ in_reply d.cursor.doing in
    let given : Reader = with_given (fields x ∷ []) q in
    reader_on log log' log' g (reader_of awaited d given) (reader_of awaited d (with_loss e given)) m
    (read_weaker log' log' (reader_of awaited d given) (reader_of awaited d (with_loss e given)) refl (lost_weaker (fetching_by awaited d.cursor.doing) d.cursor.id ahead given (is_ending e.kind)))

copied_read : (awaited : Awaited) (log log' : LogTold) (g : Reader) (d : DocumentCursor) (there : Bool) (r : ItemPoll) (q : Reader) → CopiesIf there d r → ReadMoved log log' g (reader_of awaited d (told_advance (advance.Ready there) d.current q)) → ReadMoved log log' g (reader_of awaited d (told_item r d.current q))
copied_read awaited log log' g d true r q (inl copy) m =
    subst (λ (x : ItemPoll). ReadMoved log log' g (reader_of awaited d (told_item x d.current q))) (sym copy.2) (subst (λ (o : Option (List ℕ)). ReadMoved log log' g (reader_of awaited d (with_current o q))) copy.1 m)
copied_read awaited log log' g d true r q (inr room) m =
    subst (λ (x : ItemPoll). ReadMoved log log' g (reader_of awaited d (told_item x d.current q))) (sym room) (uncopied_read awaited log log' g d d.current (plain kind.OutOfMemory) q m)
copied_read awaited log log' g d false r q none m = subst (λ (x : ItemPoll). ReadMoved log log' g (reader_of awaited d (told_item x d.current q))) (sym none) m

-- a call that failed left no document
failed_read_as : (awaited : Awaited) (log log' : LogTold) (g : Reader) (d : DocumentCursor) (e : Error) (q : Reader) → d.current ≡ None → ReadMoved log log' g (reader_of awaited d (with_loss e q)) → ReadMoved log log' g (reader_of awaited d (with_current d.current (with_loss e q)))
failed_read_as awaited log log' g d e q none m = subst (λ (o : Option (List ℕ)). ReadMoved log log' g (reader_of awaited d (with_current o (with_loss e q)))) (sym none) m

pub item_read : (awaited : Awaited) (log log' : LogTold) (g : Reader) (d : DocumentCursor) (p : AdvancePoll) (r : ItemPoll) (q : Reader) → SeekLeaves p d.current → CopiesCurrent p d r → ReadMoved log log' g (reader_of awaited d (told_advance p d.current q)) → ReadMoved log log' g (reader_of awaited d (told_item r d.current q))
item_read awaited log log' g d advance.Pending r q leaves copies m = subst (λ (x : ItemPoll). ReadMoved log log' g (reader_of awaited d (told_item x d.current q))) (sym copies) m
item_read awaited log log' g d (advance.Ready there) r q leaves copies m = copied_read awaited log log' g d there r q copies m
item_read awaited log log' g d (advance.Failed e) r q leaves copies m =
    subst (λ (x : ItemPoll). ReadMoved log log' g (reader_of awaited d (told_item x d.current q))) (sym copies) (failed_read_as awaited log log' g d e q leaves m)
