-- What a step of a put's index check is caused by, and what it knows of the list that it reads.
use Rattle.std.proofs.Common.{◌≡◌, ◌≢◌, ◌≤◌, ◌||◌, ℕ, suc, ℤ, Bool, true, false, List, [], ◌∷◌, ◌++◌, length, length-append, Some, None, Ok, refl, sym, ap, ◌∙◌, subst, inl, inr, arith, append-nil, append_assoc}
use Rattle.mg_bson.specs.Raw.{fields}
use Rattle.mg_server.specs.Calls.{AddsOnly, Came, Flies, HeardLast, NoneBroken, Past, RequestFails, past_of, was_broken}
use Rattle.mg_link.specs.Errors.{command_code}
use Rattle.mg_link.specs.Exec.{IsSuccess, Runs, Sending}
use Rattle.mg_link.specs.Link.{Awaited, LogTold}
use Rattle.mg_link.specs.Log.{Call, reply}
use Rattle.mg_link.specs.declared.action.Step.{Step}
use Rattle.mg_link.specs.declared.action.Step.TheVariants as came
use Rattle.mg_link.specs.declared.error.Error.{Error}
use Rattle.mg_server.proofs.Calls.{RequestRan, log_grows, request_ran, success_ran}
use Rattle.mg_server.proofs.Filed.{Grew}
use Rattle.mg_server.proofs.Owners.{same_some}
use Rattle.mg_server.proofs.Pasts.{fails_anyhow, heard_by}
use Rattle.mg_link.proofs.Places.{get_within}
use Rattle.mg_options.specs.Fields.{Line, fields_in}
use Rattle.mg_ops.specs.Cursors.{OpensWith}
use Rattle.mg_ops.specs.Failing.{FailsBy}
use Rattle.mg_ops.specs.Writes.{WriteFails, failures_of}
use Rattle.mg_ops.specs.declared.cursor_reply.CursorSpecification.{CursorSpecification}
use Rattle.mg_cursor.specs.Causes.{TellsNoCursor}
use Rattle.mg_cursor.specs.Client.{new_client}
use Rattle.mg_cursor.specs.Documents.{DocumentCursor, new_documents}
use Rattle.mg_cursor.specs.declared.polls.AdvancePoll.{AdvancePoll}
use Rattle.mg_cursor.specs.declared.polls.AdvancePoll.TheVariants as advance
use Rattle.mg_records.specs.Specifications.{ListedIndex}
use Rattle.mg_gridfs.specs.Buckets.{ClientBucket}
use Rattle.mg_gridfs.specs.Causes as causes
use Rattle.mg_gridfs.specs.Causes.{CheckUnderway, IsOfCheck, ListsFailure}
use Rattle.mg_gridfs.specs.Checks as check
use Rattle.mg_gridfs.specs.Checks.{Builds, CheckTurned, ChecksOn, ClientCheck, Creates, EndsList, GoesBehind, HearsAdvance, HearsAny, HearsCreation, HearsFind, HearsIndex, HearsIndexed, HearsListing, IsSoundCheck, Looks, creates, finds, index_in, indexes, lists, namespace_exists, reads}
use Rattle.mg_gridfs.specs.Commands.{CannotSend, IsNewRequest, IsRequest, any_lines, creation_lines, index_lines, listing_lines}
use Rattle.mg_gridfs.specs.Indexes.{are_keys}
use Rattle.mg_gridfs.specs.declared.indexes.Place.{Place}
use Rattle.mg_gridfs.specs.declared.indexes.Place.TheVariants as place
use Rattle.mg_players.specs.PutFailures as fails
use Rattle.mg_players.specs.PutFailures.{AllOther, CheckReads, ComesNext, HasFound, HasKeys, HeardCreation, HeardIndexes, HeardNone, HeardWhole, IsListedIndex, PutCheckFails, ReadsList, brought, creates_it, documents_held, batch_documents}
use Rattle.mg_players.specs.PutChecks.{IsGetMore, OnlyAgain}
use Rattle.mg_players.proofs.NewestHeard.{HeardNewest}
use Rattle.mg_players.proofs.PutChecks.{AdvanceHeard, AnyHeard, CreatedHeard, CreationHeard, EndHeard, FindHeard, IndexHeard, IndexedHeard, StepHeard, ran_count}
use Rattle.mg_players.proofs.PutAgain.{again_sent}
use Rattle.mg_players.proofs.JustGrown.{GrowsBehind, log_behind}
use Rattle.mg_players.proofs.PutChecking.{AddsTold}
use Rattle.mg_players.proofs.PutCreated.{CameBehind, created_by, creation_grows, first_asked, listing_ran, there_by}
use Rattle.mg_players.proofs.PutHeard.{all_grows, indexes_grow, none_grows}
use Rattle.mg_players.proofs.PutListing.{SoughtBy, brought_are, none_few, seeks_asks, seeks_list}

-- behind a step
abbrev pub TurnReads : Awaited → Past → ClientBucket → CheckTurned → Type 0
TurnReads awaited past b (check.goes c) = CheckReads awaited past b c
TurnReads awaited past b (check.pends c) = CheckReads awaited past b c
TurnReads awaited past b check.passes = Unit {0}
TurnReads awaited past b (check.fails e) = PutCheckFails past b e

-- a success that lists failures is no refusal
no_code : (bytes : List ℕ) (e : Error) → WriteFails (fields bytes) e → command_code e.kind ≢ Some namespace_exists
no_code bytes e (inl breaks) is = let none : None ≡ Some namespace_exists = sym (ap (λ (x : Error). command_code x.kind) breaks.error) ∙ is in cc
no_code bytes e (inr first) is = let none : None ≡ Some namespace_exists = sym (ap (λ (x : Error). command_code x.kind) first.error) ∙ is in cc

-- what came, where it came
abbrev bytes_in : Step Sending (List ℕ) → List ℕ
bytes_in (came.Pending s) = []
bytes_in (came.Done bytes) = bytes
bytes_in (came.Failed e) = []

abbrev error_in : Error → Step Sending (List ℕ) → Error
error_in d (came.Pending s) = d
error_in d (came.Done bytes) = d
error_in d (came.Failed e) = e

-- ---- the index among the documents of a list

others_on : (at : Place) (given : List (List ℕ)) (document : List ℕ) → AllOther at given → HasKeys at false document → AllOther at (given ++ document ∷ [])
others_on at [] document others its = (its, tt)
others_on at (x ∷ given) document others its = (others.0, others_on at given document others.1 its)

-- one document more
found_on : (at : Place) (given : List (List ℕ)) (document : List ℕ) (i : ListedIndex) → index_in document i → (found : Bool) → HasFound at found given → HasFound at (found || are_keys at i.keys) (given ++ document ∷ [])
found_on at given document i read true h = (h.0, h.1, h.2 ++ document ∷ [], ap (λ (ds : List (List ℕ)). ds ++ document ∷ []) h.3 ∙ append_assoc h.0 (h.1 ∷ h.2) (document ∷ []), h.4)
found_on at given document i read false h = by_keys (are_keys at i.keys) refl
  where
    by_keys : (its : Bool) → are_keys at i.keys ≡ its → HasFound at its (given ++ document ∷ [])
    by_keys true is = (given, document, [], refl, (i, read, is))
    by_keys false is = others_on at given document h (i, read, is)

-- ---- what was heard, and comes next

-- it comes next still
pub next_on : (past past' : Past) → GrowsBehind past past' → (b : ClientBucket) (lines : List Line) → ComesNext past b lines → ComesNext past' b lines
next_on past past' later b lines (fails.the_find is) = fails.the_find is
next_on past past' later b lines (fails.the_files none is) = fails.the_files (none_grows past past' later.grows b none) is
next_on past past' later b lines (fails.a_list at created is) = fails.a_list at (creation_grows past past' later.grows b at created) is
next_on past past' later b lines (fails.an_index at listed is) = fails.an_index at (indexes_grow past past' later b at false listed) is
next_on past past' later b lines (fails.the_chunks found done is) = fails.the_chunks found (all_grows past past' later b place.Files found done) is

-- it is of the check
pub next_of_check : (past : Past) (b : ClientBucket) (lines : List Line) → ComesNext past b lines → IsOfCheck b lines
next_of_check past b lines (fails.the_find is) = causes.a_find is
next_of_check past b lines (fails.the_files none is) = causes.a_creation place.Files is
next_of_check past b lines (fails.a_list at created is) = causes.a_listing at is
next_of_check past b lines (fails.an_index at listed is) = causes.an_index at is
next_of_check past b lines (fails.the_chunks found done is) = causes.a_creation place.Chunks is

-- ---- a step's parts

module _ (awaited : Awaited) (past : Past) (b : ClientBucket) where
  -- want of memory, or a cause
  caused_by : (Cause : Error → Type 0) (e : Error) → ((x : Error) → Cause x → PutCheckFails past b x) → FailsBy Cause e → PutCheckFails past b e
  caused_by Cause e leads (inl memory) = fails.out_of_memory (ap (λ (x : Error). x.kind) memory)
  caused_by Cause e leads (inr cause) = leads e cause

  as_turned : (t u : CheckTurned) → t ≡ u → TurnReads awaited past b u → TurnReads awaited past b t
  as_turned t u is h = subst (TurnReads awaited past b) (sym is) h

  builds_so : (again : Bool) (lines : List Line) (next_one : Sending → ClientCheck) (t : CheckTurned) → ComesNext past b lines → ((s : Sending) → IsNewRequest again lines s → CheckReads awaited past b (next_one s)) → Builds again lines next_one t → TurnReads awaited past b t
  builds_so again lines next_one t its reads_so (check.built s request is) = as_turned t (check.goes (next_one s)) is (reads_so s request)
  builds_so again lines next_one t its reads_so (check.not_built e failed is) = as_turned t (check.fails e) is (caused_by (CannotSend lines) e (λ x cannot. fails.not_built lines its cannot) failed)

  files_so : (t : CheckTurned) → HeardNone past b → Builds false (creation_lines b place.Files) (creates place.Files) t → TurnReads awaited past b t
  files_so t none builds = builds_so false (creation_lines b place.Files) (creates place.Files) t (fails.the_files none refl) (λ s request. tt) builds

  listing_so : (at : Place) (t : CheckTurned) → HeardCreation past b at → Builds true (listing_lines b at) (lists at) t → TurnReads awaited past b t
  listing_so at t created builds = builds_so true (listing_lines b at) (lists at) t (fails.a_list at created refl) (λ s request. first_asked past b at awaited s request.new created) builds

  indexing_so : (at : Place) (t : CheckTurned) → HeardCreation past b at → HeardIndexes past b at false → Builds false (index_lines b at) (indexes at) t → TurnReads awaited past b t
  indexing_so at t created listed builds = builds_so false (index_lines b at) (indexes at) t (fails.an_index at listed refl) (λ s request. (created, listed)) builds

  behind_so : (at : Place) (found : Bool) (t : CheckTurned) → HeardWhole past b at found → GoesBehind b at t → TurnReads awaited past b t
  behind_so place.Files found t heard h = builds_so false (creation_lines b place.Chunks) (creates place.Chunks) t (fails.the_chunks found heard refl) (λ s request. tt) h
  behind_so place.Chunks found t heard h = as_turned t check.passes h tt

  -- ---- requests

  module _ (old new : Awaited) (log log' : LogTold) (wire : ℤ) (s : Sending) where
    find_so : (c : Step Sending (List ℕ)) (t : CheckTurned) → Runs old new log log' wire s c → HearsFind b c t → Came new past (fields_in (any_lines b)) true c → TurnReads awaited past b t
    find_so (came.Pending s') t runs h flies = as_turned t (check.pends (finds s')) h tt
    find_so (came.Done bytes) t runs (check.some said says more is) heard = as_turned t check.passes is tt
    find_so (came.Done bytes) t runs (check.none said says nothing builds) heard =
        files_so t (record { bytes = bytes; heard = heard_by past (fields_in (any_lines b)) true (reply bytes) heard; success = success_ran old new log log' wire s bytes runs; said = said; says = says; holds = nothing }) builds
    find_so (came.Done bytes) t runs (check.broke e failed is) heard =
        as_turned t (check.fails e) is (caused_by (TellsNoCursor bytes) e (λ x breaks. fails.by_find (was_broken bytes heard (success_ran old new log log' wire s bytes runs) breaks)) failed)
    find_so (came.Failed e) t runs h failed = as_turned t (check.fails e) h (fails.by_find (fails_anyhow past (fields_in (any_lines b)) true TellsNoCursor e failed))

    created_so : (at : Place) (bytes : List ℕ) (t : CheckTurned) → Runs old new log log' wire s (came.Done bytes) → Creates b at (came.Done bytes) t → Came new past (fields_in (creation_lines b at)) false (came.Done bytes) → TurnReads awaited past b t
    created_so at bytes t runs (check.created reply_bytes is none builds) heard =
        let none_failed = subst (λ (bs : List ℕ). failures_of 0 (fields bs) ≡ Ok []) (sym (ap bytes_in is)) none in
        listing_so at t (created_by past b at bytes (creates_it (success_ran old new log log' wire s bytes runs) none_failed) heard) builds
    created_so at bytes t runs (check.there e is code builds) heard = absurd cc
    created_so at bytes t runs (check.unread reply_bytes e is failed answer) heard =
        as_turned t (check.fails e) answer (caused_by (WriteFails (fields reply_bytes)) e
        (λ x cause. let here = subst (λ (bs : List ℕ). WriteFails (fields bs) x) (sym (ap bytes_in is)) cause in
        fails.by_creation at (was_broken bytes heard (success_ran old new log log' wire s bytes runs) here) (no_code bytes x here)) failed)
    created_so at bytes t runs (check.other e is ne answer) heard = absurd cc

    not_created_so : (at : Place) (f : Error) (t : CheckTurned) → Creates b at (came.Failed f) t → Came new past (fields_in (creation_lines b at)) false (came.Failed f) → TurnReads awaited past b t
    not_created_so at f t (check.created reply_bytes is none builds) failed = absurd cc
    not_created_so at f t (check.there e is code builds) failed =
        let same : f ≡ e = ap (error_in f) is in
        listing_so at t (there_by past b at f (subst (λ (x : Error). command_code x.kind ≡ Some namespace_exists) (sym same) code) failed) builds
    not_created_so at f t (check.unread reply_bytes e is unread answer) failed = absurd cc
    not_created_so at f t (check.other e is ne answer) failed =
        let same : f ≡ e = ap (error_in f) is in
        as_turned t (check.fails e) answer (fails.by_creation at (subst (λ (x : Error). RequestFails past (fields_in (creation_lines b at)) false ListsFailure x) same (fails_anyhow past (fields_in (creation_lines b at)) false ListsFailure f failed)) ne)

    creates_so : (at : Place) (c : Step Sending (List ℕ)) (t : CheckTurned) → Runs old new log log' wire s c → HearsCreation b at c t → Came new past (fields_in (creation_lines b at)) false c → TurnReads awaited past b t
    creates_so at (came.Pending s') t runs h flies = as_turned t (check.pends (creates at s')) h tt
    creates_so at (came.Done bytes) t runs h heard = created_so at bytes t runs h heard
    creates_so at (came.Failed e) t runs h failed = not_created_so at e t h failed

    -- the list begins with its first batch
    opened_so : (at : Place) (bytes : List ℕ) (out : CursorSpecification) → Runs old new log log' wire s (came.Done bytes) → OpensWith None None None bytes out → HeardNewest past (fields_in (listing_lines b at)) bytes → ReadsList awaited past b (new_documents (new_client out)) at []
    opened_so at bytes out runs opens here =
        let success = success_ran old new log log' wire s bytes runs in
        record {
          of_list = record { at = at; place = here.place; first = bytes; heard = here.heard; success = success; out = out; opens = opens; replies = []; behind = refl };
          is_at = refl;
          hand = λ held is. let same : out.initial_reply ≡ held = cc in (sym opens.opens.whole ∙ same, refl);
          left = inl refl;
          empties = refl;
          few = none_few;
          all = append-nil (batch_documents bytes) ∙ sym (ap batch_documents opens.opens.whole);
          within = get_within past.calls here.place here.heard.call here.heard.there;
          waits = λ sending ticket place is held at_place. absurd cc;
          alone = λ place of less. let last = here.newest place of in absurd (omega (arith, less, last));
        }

    lists_so : (at : Place) (c : Step Sending (List ℕ)) (t : CheckTurned) → Runs old new log log' wire s c → HearsListing at c t → CameBehind awaited past b at c → TurnReads awaited past b t
    lists_so at (came.Pending s') t runs h asks_so = as_turned t (check.pends (lists at s')) h asks_so
    lists_so at (came.Done bytes) t runs (check.opened out opens is) heard =
        as_turned t (check.goes (reads at (new_documents (new_client out)) false 0)) is (heard.0, [], refl, tt, opened_so at bytes out runs opens heard.2)
    lists_so at (came.Done bytes) t runs (check.broke e failed is) heard =
        let x = heard.1 in
        as_turned t (check.fails e) is
        (caused_by (TellsNoCursor bytes) e (λ y breaks. fails.by_listing at heard.0 (record { later = x.later; grows = x.grows; behind = x.behind; says = was_broken bytes x.says (success_ran old new log log' wire s bytes runs) breaks })) failed)
    lists_so at (came.Failed e) t runs h failed =
        let x = failed.1 in
        as_turned t (check.fails e) h (fails.by_listing at failed.0 (record { later = x.later; grows = x.grows; behind = x.behind; says = fails_anyhow x.later (fields_in (listing_lines b at)) true TellsNoCursor e x.says }))

    indexes_so : (at : Place) → HeardCreation past b at → HeardIndexes past b at false → (c : Step Sending (List ℕ)) (t : CheckTurned) → Runs old new log log' wire s c → HearsIndex b at c t → Came new past (fields_in (index_lines b at)) false c → TurnReads awaited past b t
    indexes_so at created listed (came.Pending s') t runs h flies = as_turned t (check.pends (indexes at s')) h (created, listed)
    indexes_so at created listed (came.Done bytes) t runs (check.done none goes) heard =
        behind_so at false t (record { created = created; listed = listed; made = λ missing. (bytes, heard_by past (fields_in (index_lines b at)) false (reply bytes) heard, success_ran old new log log' wire s bytes runs, none) }) goes
    indexes_so at created listed (came.Done bytes) t runs (check.unread e failed is) heard =
        as_turned t (check.fails e) is (caused_by (WriteFails (fields bytes)) e (λ x cause. fails.by_index at (was_broken bytes heard (success_ran old new log log' wire s bytes runs) cause)) failed)
    indexes_so at created listed (came.Failed e) t runs h failed = as_turned t (check.fails e) h (fails.by_index at (fails_anyhow past (fields_in (index_lines b at)) false ListsFailure e failed))

  -- ---- the list

  ends_so : (at : Place) → HeardCreation past b at → (found : Bool) (t : CheckTurned) → HeardIndexes past b at found → EndsList b at found t → TurnReads awaited past b t
  ends_so at created true t indexed h = behind_so at true t (record { created = created; listed = indexed; made = λ bad. absurd cc }) h
  ends_so at created false t indexed h = indexing_so at t created indexed h

  module _ (at : Place) (created : HeardCreation past b at) (given : List (List ℕ)) (found : Bool) (count : ℕ) (few : count ≤ 1048576) (so_many : length given ≡ count) (has : HasFound at found given) where
    one_more : (document : List ℕ) → length (given ++ document ∷ []) ≡ suc count
    one_more document = let sum = length-append given (document ∷ []) in let many = so_many in omega (arith, sum, many)

    -- so many were heard
    many_heard : (d : DocumentCursor) (document : List ℕ) (l : ReadsList awaited past b d at (given ++ document ∷ [])) → suc count ≤ brought l.of_list
    many_heard d document l =
        let left = d.behind ++ documents_held d.cursor.doing in
        let parts = sym (brought_are past b d.cursor l.of_list) ∙ ap length l.all ∙ length-append (given ++ document ∷ []) left in
        let first = one_more document in
        omega (arith, parts, first)

    looks_so : (d : DocumentCursor) (document : List ℕ) (t : CheckTurned) → ReadsList awaited past b d at (given ++ document ∷ []) → IsListedIndex past b document → Looks at d document found count t → TurnReads awaited past b t
    looks_so d document t l listed (check.looked i room read is) = as_turned t (check.goes _) is (created, given ++ document ∷ [], one_more document, found_on at given document i read found has, l)
    looks_so d document t l listed (check.too_many many is) = as_turned t (check.fails _) is (let heard = many_heard d document l in fails.too_many d.cursor l.of_list (omega (arith, many, heard)) refl)
    looks_so d document t l listed (check.broke e failed is) = as_turned t (check.fails e) is (fails.no_index document listed failed)

    advance_so : (left : DocumentCursor) (poll : AdvancePoll) (t : CheckTurned) → SoughtBy awaited b poll past left at given → HearsAdvance b at left found count poll t → TurnReads awaited past b t
    advance_so left advance.Pending t sought h = as_turned t (check.pends (reads at left found count)) h (created, given, so_many, has, sought)
    advance_so left (advance.Ready true) t sought h =
        let same : sought.0 ≡ h.0 = same_some sought.0 h.0 (sym sought.1 ∙ h.1) in
        looks_so left h.0 t (subst (λ (document : List ℕ). ReadsList awaited past b left at (given ++ document ∷ [])) same sought.3) (subst (IsListedIndex past b) same sought.2) h.2
    advance_so left (advance.Ready false) t sought h = ends_so at created found t (given, sought, has, subst (λ (n : ℕ). n ≤ 1048576) (sym so_many) few) h
    advance_so left (advance.Failed e) t sought h = as_turned t (check.fails e) h sought

-- ---- what a step heard

module _ (past : Past) (b : ClientBucket) where
  any_heard : (bytes : List ℕ) (t : CheckTurned) → IsSuccess bytes → HeardLast past (fields_in (any_lines b)) true (reply bytes) → (h : HearsAny b bytes t) → AnyHeard past b h
  any_heard bytes t success heard (check.some said read there is) = record { bytes = bytes; heard = heard_by past (fields_in (any_lines b)) true (reply bytes) heard; success = success; said = said; says = read; holds = there }
  any_heard bytes t success heard (check.none said read empty builds) = record { bytes = bytes; heard = heard_by past (fields_in (any_lines b)) true (reply bytes) heard; success = success; said = said; says = read; holds = empty }
  any_heard bytes t success heard (check.broke e fails_so is) = tt

  find_heard : (awaited : Awaited) (c : Step Sending (List ℕ)) (t : CheckTurned) → ((bytes : List ℕ) → c ≡ came.Done bytes → IsSuccess bytes) → Came awaited past (fields_in (any_lines b)) true c → (h : HearsFind b c t) → FindHeard past b c t h
  find_heard awaited (came.Pending s) t well heard h = tt
  find_heard awaited (came.Done bytes) t well heard h = any_heard bytes t (well bytes refl) heard h
  find_heard awaited (came.Failed e) t well heard h = tt

  -- a creation was answered well
  created_heard : (at : Place) (bytes : List ℕ) (t : CheckTurned) → IsSuccess bytes → HeardLast past (fields_in (creation_lines b at)) false (reply bytes) → (h : Creates b at (came.Done bytes) t) → CreatedHeard past b at h
  created_heard at bytes t success heard (check.created reply_bytes is none builds) = created_by past b at bytes (creates_it success (subst (λ (bs : List ℕ). failures_of 0 (fields bs) ≡ Ok []) (sym (ap bytes_in is)) none)) heard
  created_heard at bytes t success heard (check.there e is code builds) = absurd cc
  created_heard at bytes t success heard (check.unread reply_bytes e is failed answer) = tt
  created_heard at bytes t success heard (check.other e is ne answer) = tt

  refused_heard : (at : Place) (f : Error) (t : CheckTurned) → RequestFails past (fields_in (creation_lines b at)) false NoneBroken f → (h : Creates b at (came.Failed f) t) → CreatedHeard past b at h
  refused_heard at f t failed (check.created reply_bytes is none builds) = absurd cc
  refused_heard at f t failed (check.there e is code builds) = there_by past b at f (subst (λ (x : Error). command_code x.kind ≡ Some namespace_exists) (sym (ap (error_in f) is)) code) failed
  refused_heard at f t failed (check.unread reply_bytes e is why answer) = tt
  refused_heard at f t failed (check.other e is ne answer) = tt

  creation_heard : (awaited : Awaited) (at : Place) (c : Step Sending (List ℕ)) (t : CheckTurned) → ((bytes : List ℕ) → c ≡ came.Done bytes → IsSuccess bytes) → Came awaited past (fields_in (creation_lines b at)) false c → (h : HearsCreation b at c t) → CreationHeard past b at c t h
  creation_heard awaited at (came.Pending s) t well heard h = tt
  creation_heard awaited at (came.Done bytes) t well heard h = created_heard at bytes t (well bytes refl) heard h
  creation_heard awaited at (came.Failed e) t well failed h = refused_heard at e t failed h

  -- the list was read to its end
  end_heard : (at : Place) → HeardCreation past b at → (found : Bool) → HeardIndexes past b at found → EndHeard past b at found
  end_heard at created true listed = record { created = created; listed = listed; made = λ bad. absurd cc }
  end_heard at created false listed = listed

  advance_heard : (awaited : Awaited) (at : Place) → HeardCreation past b at → (given : List (List ℕ)) (found : Bool) → length given ≤ 1048576 → HasFound at found given → (left : DocumentCursor) (poll : AdvancePoll) → SoughtBy awaited b poll past left at given → AdvanceHeard past b at found poll
  advance_heard awaited at created given found few has left advance.Pending sought = tt
  advance_heard awaited at created given found few has left (advance.Ready true) sought = tt
  advance_heard awaited at created given found few has left (advance.Ready false) sought = end_heard at created found (given, sought, has, few)
  advance_heard awaited at created given found few has left (advance.Failed e) sought = tt

  indexed_heard : (at : Place) → HeardCreation past b at → HeardIndexes past b at false → (bytes : List ℕ) (t : CheckTurned) → IsSuccess bytes → HeardLast past (fields_in (index_lines b at)) false (reply bytes) → (h : HearsIndexed b at bytes t) → IndexedHeard past b at h
  indexed_heard at created listed bytes t success heard (check.done none behind) = record { created = created; listed = listed; made = λ missing. (bytes, heard_by past (fields_in (index_lines b at)) false (reply bytes) heard, success, none) }
  indexed_heard at created listed bytes t success heard (check.unread e failed is) = tt

  index_heard : (awaited : Awaited) (at : Place) → HeardCreation past b at → HeardIndexes past b at false → (c : Step Sending (List ℕ)) (t : CheckTurned) → ((bytes : List ℕ) → c ≡ came.Done bytes → IsSuccess bytes) → Came awaited past (fields_in (index_lines b at)) false c → (h : HearsIndex b at c t) → IndexHeard past b at c t h
  index_heard awaited at created listed (came.Pending s) t well heard h = tt
  index_heard awaited at created listed (came.Done bytes) t well heard h = indexed_heard at created listed bytes t (well bytes refl) heard h
  index_heard awaited at created listed (came.Failed e) t well heard h = tt

-- ---- a step

module _ (old new : Awaited) (log log' : LogTold) (wire : ℤ) (b : ClientBucket) (calls : List Call) (told : log ≡ Some calls) (places : List ℕ) (since : ℕ) (room : since ≤ length calls) where
  ran_by : (again : Bool) (lines : List Line) (s : Sending) (c : Step Sending (List ℕ)) → IsRequest again lines s → Runs old new log log' wire s c → Flies old (past_of places since calls wire) (fields_in lines) s.stage → RequestRan new places since calls log' wire (fields_in lines) again c
  ran_by again lines s c own runs flies = request_ran old new log log' wire s (fields_in lines) again c own.command_is own.retries_is runs calls told places since room flies

  -- it is sent once more behind a first attempt that was lost or refused so
  again_by : (lines : List Line) (s : Sending) (c : Step Sending (List ℕ)) → IsRequest true lines s → (runs : Runs old new log log' wire s c) → Flies old (past_of places since calls wire) (fields_in lines) s.stage → (calls' : List Call) → log' ≡ Some calls' → OnlyAgain (past_of places since calls' wire) (fields_in lines) (ran_count true old new log log' wire s c runs)
  again_by lines s c own runs flies calls' told' = again_sent old new log log' wire s c (fields_in lines) own.command_is runs calls told places since room flies calls' told'

  -- a reply that a request gave is a success
  well_ran : (s : Sending) (c : Step Sending (List ℕ)) → Runs old new log log' wire s c → (bytes : List ℕ) → c ≡ came.Done bytes → IsSuccess bytes
  well_ran s c runs bytes is = success_ran old new log log' wire s bytes (subst (Runs old new log log' wire s) is runs)

  under_at : (c d : ClientCheck) → c ≡ d → CheckUnderway old (past_of places since calls wire) b c → CheckUnderway old (past_of places since calls wire) b d
  under_at c d is h = subst (CheckUnderway old (past_of places since calls wire) b) is h

  own_at : (c d : ClientCheck) → c ≡ d → IsSoundCheck b c → IsSoundCheck b d
  own_at c d is h = subst (IsSoundCheck b) is h

  -- what a step sends that reads its list, as it is told of the log
  asked_by : (at : Place) (calls' told_calls : List Call) → log' ≡ Some calls' → log' ≡ Some told_calls → AddsOnly (IsGetMore (past_of places since calls' wire) b at) calls calls' → AddsTold (IsGetMore (past_of places since told_calls wire) b at) log log'
  asked_by at calls' told_calls is is_told adds mine told_mine =
      let same : calls' ≡ told_calls = same_some calls' told_calls (sym is ∙ is_told) in
      let its : AddsOnly (IsGetMore (past_of places since told_calls wire) b at) calls told_calls = subst (λ (cs : List Call). AddsOnly (IsGetMore (past_of places since cs wire) b at) calls cs) same adds in
      (told_calls, is_told, subst (λ (cs : List Call). AddsOnly (IsGetMore (past_of places since told_calls wire) b at) cs told_calls) (same_some calls mine (sym told ∙ told_mine)) its)

  pub check_reads : (c : ClientCheck) (t : CheckTurned) → IsSoundCheck b c → (o : ChecksOn old new log log' wire b c t) → CheckUnderway old (past_of places since calls wire) b c → CheckReads old (past_of places since calls wire) b c → Grew places since calls log' wire (λ past. TurnReads new past b t × StepHeard past b t o)
  check_reads c t sound (check.by_find s is came_so runs hears) h l =
      let ran = ran_by true (any_lines b) s came_so (own_at c (finds s) is sound) runs (under_at c (finds s) is h) in
      (ran.calls', ran.told, ran.grows.keeps, (find_so new (past_of places since ran.calls' wire) b old new log log' wire s came_so t runs hears ran.came, (find_heard (past_of places since ran.calls' wire) b new came_so t (well_ran s came_so runs) ran.came hears, again_by (any_lines b) s came_so (own_at c (finds s) is sound) runs (under_at c (finds s) is h) ran.calls' ran.told)))
  check_reads c t sound (check.by_creation at s is came_so runs hears) h l =
      let ran = ran_by false (creation_lines b at) s came_so (own_at c (creates at s) is sound) runs (under_at c (creates at s) is h) in
      (ran.calls', ran.told, ran.grows.keeps, (creates_so new (past_of places since ran.calls' wire) b old new log log' wire s at came_so t runs hears ran.came, creation_heard (past_of places since ran.calls' wire) b new at came_so t (well_ran s came_so runs) ran.came hears))
  check_reads c t sound (check.by_listing at s is came_so runs hears) h l =
      let x = listing_ran old new log log' wire b at s came_so (own_at c (lists at s) is sound) runs calls told places since room (subst (CheckReads old (past_of places since calls wire) b) is l) in
      (x.0, x.1, x.2, (lists_so new (past_of places since x.0 wire) b old new log log' wire s at came_so t runs hears x.3, again_by (listing_lines b at) s came_so (own_at c (lists at s) is sound) runs (under_at c (lists at s) is h) x.0 x.1))
  check_reads c t sound (check.by_advance at d found count is empties starts left poll seeks hears) h l =
      let before = subst (CheckReads old (past_of places since calls wire) b) is l in
      let x = seeks_list b wire places since at before.1 empties old new log log' starts d left poll (own_at c (reads at d found count) is sound).0 seeks calls told room (under_at c (reads at d found count) is h) before.4 in
      let asks = seeks_asks b wire places since at before.1 empties old new log log' starts d left poll (own_at c (reads at d found count) is sound).0 seeks calls told room (under_at c (reads at d found count) is h) before.4 in
      let past = past_of places since x.0 wire in
      let grows = log_grows places since calls x.0 wire x.2 in
      let created = creation_grows (past_of places since calls wire) past grows b at before.0 in
      let few = (own_at c (reads at d found count) is sound).1 in
      (x.0, x.1, x.2, (advance_so new past b at created before.1 found count few before.2 before.3 left poll t x.3 hears, (advance_heard past b new at created before.1 found (subst (λ (n : ℕ). n ≤ 1048576) (sym before.2) few) before.3 left poll x.3, asked_by at asks.0 x.0 asks.1 x.1 asks.3)))
  check_reads c t sound (check.by_index at s is came_so runs hears) h l =
      let ran = ran_by false (index_lines b at) s came_so (own_at c (indexes at s) is sound) runs (under_at c (indexes at s) is h) in
      let before = subst (CheckReads old (past_of places since calls wire) b) is l in
      let past = past_of places since ran.calls' wire in
      let created = creation_grows (past_of places since calls wire) past ran.grows b at before.0 in
      let listed = indexes_grow (past_of places since calls wire) past (log_behind places since calls ran.calls' wire ran.grows.keeps) b at false before.1 in
      (ran.calls', ran.told, ran.grows.keeps, (indexes_so new past b old new log log' wire s at created listed came_so t runs hears ran.came, index_heard past b new at created listed came_so t (well_ran s came_so runs) ran.came hears))
