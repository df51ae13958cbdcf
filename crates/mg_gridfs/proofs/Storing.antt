-- The main induction: a step leads what an upload knows of its file from one file to the next.
use Rattle.std.proofs.Common.{◌≡◌, ◌≢◌, ◌<◌, ◌+◌, ◌*◌, ℕ, ℤ, true, false, List, [], ◌∷◌, ◌++◌, length, take, drop, Option, Some, None, refl, sym, ap, ◌∙◌, subst, inl, inr, arith, add-mul, append_assoc, append-nil, length-append}
use Rattle.std.proofs.lemmas.List.{length-take-le, take-append-drop}
use Rattle.mg_bson.specs.Raw.{fields}
use Rattle.mg_bson.specs.Tree.{Fields}
use Rattle.mg_server.specs.Calls.{Past, past_of}
use Rattle.mg_link.specs.Exec.{Runs, Sending, Stage}
use Rattle.mg_link.specs.Chunks.{chunked, last_chunk}
use Rattle.mg_server.specs.Files.{AreChunks, Bucket, File}
use Rattle.mg_server.specs.Filing.{KnowsFile, Makes, cleared, insert_at, part, removal_at, stays, unknown, whole_with}
use Rattle.mg_link.specs.Link.{Awaited, SendsNothing, LogTold}
use Rattle.mg_link.specs.Log.{Call}
use Rattle.mg_link.specs.declared.action.Step.{Step}
use Rattle.mg_link.specs.declared.action.Step.TheVariants as came
use Rattle.mg_link.specs.declared.error.Error.{Error}
use Rattle.mg_link.specs.declared.error.ErrorKind.{ErrorKind}
use Rattle.mg_link.specs.declared.error.ErrorKind.TheVariants as kind
use Rattle.mg_link.specs.declared.error.GridFsErrorKind.TheVariants as grid
use Rattle.mg_server.proofs.Calls.{same_keeps, success_ran}
use Rattle.mg_server.proofs.Chunking.{are_append, chunked-append, chunked_none, chunked_short, length-chunked}
use Rattle.mg_server.proofs.Filed.{Grew, InsertRan, RemovalRan, any_ran, grew_as, insert_ran, removal_ran}
use Rattle.mg_server.proofs.Filing.{file_unknown}
use Rattle.mg_link.proofs.Waits.{waits_still}
use Rattle.mg_options.specs.Fields.{fields_in}
use Rattle.mg_ops.specs.Naming.{IsNamed}
use Rattle.mg_gridfs.specs.Buckets.{IsAt}
use Rattle.mg_gridfs.specs.Checks as check
use Rattle.mg_gridfs.specs.Checks.{CheckTurned, ClientCheck}
use Rattle.mg_gridfs.specs.Commands.{chunk_document, chunks_lines}
use Rattle.mg_gridfs.specs.Steps as steps
use Rattle.mg_gridfs.specs.Steps.{BeginsCheck, CheckLeads, DoesStep, Ends, FailsToUndo, Fills, HearsChunks, HearsLast, HearsRecord, HearsRemoval, IsAbortOf, LandedAs, LandsFlight, Removes, Rests, Stepped, begins_check, checks_on, done, ending_of, ends_next, failed, fills_next, first_chunks, goes, holds_both, inserts_last, inserts_on, is_short, lands_on, no_memory, of_check, of_command, records_on, removes_on, rests_next, undoes_next, undone_by, waits}
use Rattle.mg_gridfs.specs.Storing.{HasCleared, HasStored, KnowsAhead, KnowsPhase, may_leave}
use Rattle.mg_gridfs.specs.Uploads as uploads
use Rattle.mg_gridfs.specs.Uploads.{ClientUpload, Ending, Flight, HasBounds, IsFlight, IsInsertion, IsLast, IsOfCall, IsShort, IsSoundPhase, Phase, abort, begins, checks, close, ends, fills, inserts, lands, lasts, record_of, records, removes, rests, undoes, write}
use Rattle.mg_gridfs.proofs.Meaning.{are_chunks, chunks_make, deletion_clears, deletion_told, inserts_told, its_chunks, record_makes, record_told}
use Rattle.mg_gridfs.proofs.Reading.{check_ran, landing_ran}

-- where an upload goes
pub record IsPlaced (at : Bucket) (u : ClientUpload) : Type 0 where
  pub place : IsAt u.aim.bucket at
  pub files : IsNamed u.aim.bucket.files
  pub chunks : IsNamed u.aim.bucket.chunks

-- what is known behind a step of a call
abbrev pub KnowsStepped : uploads.Call → Awaited → Past → Bucket → ClientUpload → List ℕ → Stepped → Type 0
KnowsStepped call awaited past at u taken (goes p) = KnowsPhase awaited past at u taken p
KnowsStepped call awaited past at u taken (waits p) = KnowsPhase awaited past at u taken p
KnowsStepped (write piece) awaited past at u taken done = KnowsAhead awaited past at u taken fills
KnowsStepped close awaited past at u taken done = HasStored past at u taken
KnowsStepped abort awaited past at u taken done = KnowsFile past at u.aim.id cleared
KnowsStepped call awaited past at u taken (failed e) = HasCleared past at u e

known_as : (call : uploads.Call) (awaited : Awaited) (past : Past) (at : Bucket) (taken : List ℕ) (u v : ClientUpload) (r q : Stepped) → u ≡ v → r ≡ q → KnowsStepped call awaited past at v taken q → KnowsStepped call awaited past at u taken r
known_as call awaited past at taken u v r q is answer k =
    subst (λ (x : Stepped). KnowsStepped call awaited past at u taken x) (sym answer) (subst (λ (w : ClientUpload). KnowsStepped call awaited past at w taken q) (sym is) k)

-- ---- bytes

-- chunks behind full ones
pub joined : (sent size : ℕ) (stored flying : List ℕ) (chunks coming : List Fields) → 0 < size → length stored ≡ sent * size → AreChunks 0 (chunked size stored) chunks → AreChunks sent (chunked size flying) coming → AreChunks 0 (chunked size (stored ++ flying)) (chunks ++ coming)
joined sent size stored flying chunks coming some even are more =
    let as_many : length (chunked size stored) ≡ sent = length-chunked sent size stored some even in
    let seam : 0 + length (chunked size stored) ≡ sent = omega arith in
    subst (λ (cs : List (List ℕ)). AreChunks 0 cs (chunks ++ coming)) (sym (chunked-append sent size stored flying some even))
    (are_append 0 (chunked size stored) (chunked size flying) chunks coming are (subst (λ (n : ℕ). AreChunks n (chunked size flying) coming) (sym seam) more))

pub no_chunks : (n size : ℕ) → AreChunks n (chunked size []) []
no_chunks n size = subst (λ (cs : List (List ℕ)). AreChunks n cs []) (sym (chunked_none size)) tt

one_chunk : (bs : List ℕ) → bs ≢ [] → last_chunk bs ≡ bs ∷ []
one_chunk [] some = absurd (some refl)
one_chunk (b ∷ bs) some = refl

none_of_none : (bs : List ℕ) → length bs ≡ 0 → bs ≡ []
none_of_none [] e = refl
none_of_none (b ∷ bs) e = absurd cc

no_documents : (n size : ℕ) (ds : List Fields) → AreChunks n (chunked size []) ds → ds ≡ []
no_documents n size ds are = by_list ds (subst (λ (cs : List (List ℕ)). AreChunks n cs ds) (chunked_none size) are)
  where
    by_list : (es : List Fields) → AreChunks n [] es → es ≡ []
    by_list [] h = refl
    by_list (e ∷ es) h = absurd h

-- ---- errors

is_abort_may : (original : Option Error) (d : Error) (k : ErrorKind) → IsAbortOf original d k → may_leave k
is_abort_may original d (kind.GridFs (grid.AbortError' held box what labels wire_version)) h = tt
is_abort_may original d k h = absurd h

-- an error behind which the chunks were not removed says so
undo_may_leave : (original : Option Error) (d e : Error) → FailsToUndo original d e → may_leave e.kind
undo_may_leave original d e (no_memory memory is) = subst (λ (k : ErrorKind). may_leave k) (sym (ap (λ (x : Error). x.kind) is ∙ memory)) tt
undo_may_leave original d e (holds_both other (inl memory)) = subst (λ (k : ErrorKind). may_leave k) (sym (ap (λ (x : Error). x.kind) memory)) tt
undo_may_leave original d e (holds_both other (inr both)) = is_abort_may original d e.kind both.holds

-- ---- steps

module _ (old new : Awaited) (log log' : LogTold) (at : Bucket) (u u' : ClientUpload) (r : Stepped) (placed : IsPlaced at u) (bounds : HasBounds u) (taken : List ℕ) (calls : List Call) (told : log ≡ Some calls) (places : List ℕ) (since : ℕ) (wire : ℤ) (call : uploads.Call) where
  abbrev Behind : Type 0
  Behind = Grew places since calls log' wire (λ past. KnowsStepped call new past at u' taken r)

  quietly : SendsNothing old new log log' → KnowsStepped call new (past_of places since calls wire) at u' taken r → Behind
  quietly none k = (calls, none.log_same ∙ told, same_keeps calls, k)

  undone_known : (past : Past) (e : Error) → u' ≡ u → r ≡ goes (undoes (Some e)) → KnowsFile past at u.aim.id unknown → KnowsStepped call new past at u' taken r
  undone_known past e is answer k = known_as call new past at taken u' u r (goes (undoes (Some e))) is answer k

  -- before the first chunk no chunk is there
  nothing_there : (past : Past) (p : Phase) → u.checked ≡ false → (k : KnowsAhead old past at u taken p) → k.chunks ≡ []
  nothing_there past p none k =
      let short : length k.stored ≡ 0 = let even = k.even in omega (arith, ap (λ (n : ℕ). n * u.aim.size) (bounds.unchecked none)) in
      no_documents 0 u.aim.size k.chunks (subst (λ (bs : List ℕ). AreChunks 0 (chunked u.aim.size bs) k.chunks) (none_of_none k.stored short) k.chunks_are)

  nothing_left : (past : Past) (chunks : List Fields) → chunks ≡ [] → KnowsFile past at u.aim.id (stays (part chunks)) → KnowsFile past at u.aim.id cleared
  nothing_left past chunks none k =
      record {
        in_log = k.in_log;
        room = k.room;
        flies = λ n e. (let bad : None ≡ Some n = e in absurd cc);
        each = λ history legal stands others. ap (λ (f : File). f.chunks) (k.each history legal stands others) ∙ none;
        none = λ history legal stands never. tt;
      }

  -- ---- the index check

  begins_known : u.checked ≡ false → SendsNothing old new log log' → BeginsCheck u u' r → KnowsAhead old (past_of places since calls wire) at u taken begins → Behind
  begins_known none quiet (steps.built s new_one is answer) k =
      quietly quiet (known_as call new (past_of places since calls wire) at taken u' u r (goes (checks (check.finds s))) is answer
      (record { stored = k.stored; flying = k.flying; parts = k.parts; even = k.even; chunks = k.chunks; coming = k.coming; chunks_are = k.chunks_are; coming_are = k.coming_are; its = k.its; comes = k.comes; knows = k.knows }))
  begins_known none quiet (steps.not_built e fails is answer) k =
      quietly quiet (known_as call new (past_of places since calls wire) at taken u' u r (failed e) is answer (λ other. nothing_left (past_of places since calls wire) k.chunks (nothing_there (past_of places since calls wire) begins none k) k.knows))

  -- with the file as it was
  ahead_with : (past : Past) (v : ClientUpload) (p q : Phase) → (k : KnowsAhead old (past_of places since calls wire) at u taken p) → k.flying ≡ [] → v.aim ≡ u.aim → v.sent ≡ u.sent → v.behind ≡ u.behind → KnowsFile past at u.aim.id (stays (part k.chunks)) → KnowsAhead new past at v taken fills
  ahead_with past v p q k none aim sent behind knows =
      record {
        stored = k.stored;
        flying = [];
        parts = k.parts ∙ ap (λ (l : List ℕ). k.stored ++ (l ++ u.behind)) none ∙ ap (λ (l : List ℕ). k.stored ++ l) (sym behind);
        even = k.even ∙ ap (λ (n : ℕ). n * u.aim.size) (sym sent) ∙ ap (λ (a : uploads.Aim). v.sent * a.size) (sym aim);
        chunks = k.chunks;
        coming = [];
        chunks_are = subst (λ (a : uploads.Aim). AreChunks 0 (chunked a.size k.stored) k.chunks) (sym aim) k.chunks_are;
        coming_are = no_chunks v.sent v.aim.size;
        its = refl;
        comes = refl;
        knows = subst (λ (a : uploads.Aim). KnowsFile past at a.id (stays (part k.chunks))) (sym aim) knows;
      }

  check_known : (c : ClientCheck) (t : CheckTurned) → u.checked ≡ false → CheckLeads t u u' r → (k : KnowsAhead old (past_of places since calls wire) at u taken (checks c)) → (past : Past) → KnowsFile past at u.aim.id (stays (part k.chunks)) → KnowsStepped call new past at u' taken r
  check_known c (check.goes d) none h k past knows =
      known_as call new past at taken u' u r (goes (checks d)) h.0 h.1
      (record { stored = k.stored; flying = k.flying; parts = k.parts; even = k.even; chunks = k.chunks; coming = k.coming; chunks_are = k.chunks_are; coming_are = k.coming_are; its = k.its; comes = k.comes; knows = knows })
  check_known c (check.pends d) none h k past knows =
      known_as call new past at taken u' u r (waits (checks d)) h.0 h.1
      (record { stored = k.stored; flying = k.flying; parts = k.parts; even = k.even; chunks = k.chunks; coming = k.coming; chunks_are = k.chunks_are; coming_are = k.coming_are; its = k.its; comes = k.comes; knows = knows })
  check_known c check.passes none h k past knows =
      known_as call new past at taken u' (record u { checked = true }) r (goes fills) h.0 h.1 (ahead_with past (record u { checked = true }) (checks c) fills k k.comes refl refl refl knows)
  check_known c (check.fails e) none h k past knows =
      known_as call new past at taken u' u r (failed e) h.0 h.1 (λ other. nothing_left past k.chunks (nothing_there (past_of places since calls wire) (checks c) none k) knows)

  -- ---- full chunks

  fills_known : (ids : ℕ → List ℕ) (drawn : ℕ) → SendsNothing old new log log' → Fills ids drawn u u' r → KnowsAhead old (past_of places since calls wire) at u taken fills → Behind
  fills_known ids drawn quiet (steps.built count s portion small n request is answer) k =
      let these = take (count * u.aim.size) u.behind in
      let rest = drop (count * u.aim.size) u.behind in
      let ahead : KnowsAhead new (past_of places since calls wire) at (record u { behind = rest }) taken (inserts s count) = record {
        stored = k.stored;
        flying = these;
        parts = k.parts ∙ ap (λ (l : List ℕ). k.stored ++ (l ++ u.behind)) k.comes ∙ ap (λ (l : List ℕ). k.stored ++ l) (sym (take-append-drop (count * u.aim.size) u.behind));
        even = k.even;
        chunks = k.chunks;
        coming = first_chunks u ids count;
        chunks_are = k.chunks_are;
        coming_are = are_chunks ids 0 u.aim.id u.sent (chunked u.aim.size these);
        its = its_chunks ids 0 u.aim.id u.sent (chunked u.aim.size these);
        comes = (length-take-le (count * u.aim.size) u.behind portion.within, request.command_is);
        knows = subst (λ (stage : Stage). KnowsFile (past_of places since calls wire) at u.aim.id (insert_at new s.command (part k.chunks) (part (k.chunks ++ first_chunks u ids count)) stage)) (sym request.new) k.knows;
      } in
      quietly quiet (known_as call new (past_of places since calls wire) at taken u' (record u { behind = rest }) r (goes (inserts s count)) is answer ahead)
  fills_known ids drawn quiet (steps.not_built within e left fails is answer) k =
      quietly quiet (known_as call new (past_of places since calls wire) at taken u' (record u { behind = left }) r (goes (undoes (Some e))) is answer (file_unknown (past_of places since calls wire) at u.aim.id (stays (part k.chunks)) k.knows))

  chunks_heard : (s : Sending) (count : ℕ) (c : Step Sending (List ℕ)) → IsInsertion u s count → Runs old new log log' wire s c → HearsChunks count c u u' r → (k : KnowsAhead old (past_of places since calls wire) at u taken (inserts s count))
      → (past : Past) → InsertRan new at u.aim.id s.command (part k.chunks) (part (k.chunks ++ k.coming)) c past → KnowsStepped call new past at u' taken r
  chunks_heard s count (came.Pending s') i runs h k past ran =
      let same = (waits_still old new log log' wire s s' i.request.retries_is i.request.at runs).same_command in
      let ahead : KnowsAhead new past at u taken (inserts s' count) = record {
        stored = k.stored;
        flying = k.flying;
        parts = k.parts;
        even = k.even;
        chunks = k.chunks;
        coming = k.coming;
        chunks_are = k.chunks_are;
        coming_are = k.coming_are;
        its = k.its;
        comes = (k.comes.0, ap fields same ∙ k.comes.1);
        knows = subst (λ (x : List ℕ). KnowsFile past at u.aim.id (insert_at new x (part k.chunks) (part (k.chunks ++ k.coming)) s'.stage)) (sym same) ran;
      } in
      known_as call new past at taken u' u r (waits (inserts s' count)) h.0 h.1 ahead
  chunks_heard s count (came.Done reply) i runs (steps.inserted n told_so is answer) k past ran =
      let ahead : KnowsAhead new past at (record u { sent = u.sent + count }) taken fills = record {
        stored = k.stored ++ k.flying;
        flying = [];
        parts = k.parts ∙ sym (append_assoc k.stored k.flying u.behind);
        even = let even = k.even in let more = k.comes.0 in omega (arith, add-mul u.sent count u.aim.size, length-append k.stored k.flying);
        chunks = k.chunks ++ k.coming;
        coming = [];
        chunks_are = joined u.sent u.aim.size k.stored k.flying k.chunks k.coming bounds.size.some k.even k.chunks_are k.coming_are;
        coming_are = no_chunks (u.sent + count) u.aim.size;
        its = refl;
        comes = refl;
        knows = ran.1 (inserts_told u.aim.bucket at placed.place s.command k.coming reply count n placed.chunks k.comes.1 (success_ran old new log log' wire s reply runs) told_so);
      } in
      known_as call new past at taken u' (record u { sent = u.sent + count }) r (goes fills) is answer ahead
  chunks_heard s count (came.Done reply) i runs (steps.not_inserted e fails is answer) k past ran = undone_known past e is answer ran.0
  chunks_heard s count (came.Failed e) i runs h k past ran = undone_known past e h.0 h.1 ran

  makes_chunks : (s : Sending) (p : Phase) → (k : KnowsAhead old (past_of places since calls wire) at u taken p) → fields s.command ≡ fields_in (chunks_lines u.aim.bucket k.coming) → Makes s.command at u.aim.id (part k.chunks) (part (k.chunks ++ k.coming))
  makes_chunks s p k is =
      let as_many = length-chunked u.sent u.aim.size k.stored bounds.size.some k.even in
      chunks_make u.aim.bucket at placed.place u.aim.id s.command k.coming (chunked u.aim.size k.stored) (chunked u.aim.size k.flying) k.chunks placed.chunks is k.chunks_are
      (subst (λ (n : ℕ). AreChunks n (chunked u.aim.size k.flying) k.coming) (sym as_many) k.coming_are) k.its

  chunks_known : (s : Sending) (count : ℕ) (c : Step Sending (List ℕ)) → IsInsertion u s count → Runs old new log log' wire s c → HearsChunks count c u u' r → KnowsAhead old (past_of places since calls wire) at u taken (inserts s count) → Behind
  chunks_known s count c i runs h k =
      grew_as places since calls log' wire (InsertRan new at u.aim.id s.command (part k.chunks) (part (k.chunks ++ k.coming)) c) (λ past. KnowsStepped call new past at u' taken r) (chunks_heard s count c i runs h k)
      (insert_ran old new log log' at u.aim.id wire s c calls told places since wire (part k.chunks) (part (k.chunks ++ k.coming)) (makes_chunks s (inserts s count) k k.comes.1) i.request.retries_is i.request.at runs k.knows)

  -- ---- the last chunk

  rests_known : (ids : ℕ → List ℕ) (drawn : ℕ) (moment : ℤ) → IsShort u → SendsNothing old new log log' → Rests ids drawn moment u u' r → KnowsAhead old (past_of places since calls wire) at u taken (rests moment) → Behind
  rests_known ids drawn moment short quiet (steps.nothing_left none n is answer) k =
      let ahead : KnowsAhead new (past_of places since calls wire) at u taken (ends (ending_of u moment)) = record {
        stored = k.stored;
        flying = [];
        parts = k.parts ∙ ap (λ (l : List ℕ). k.stored ++ (l ++ u.behind)) k.comes;
        even = k.even;
        chunks = k.chunks;
        coming = [];
        chunks_are = k.chunks_are;
        coming_are = no_chunks u.sent u.aim.size;
        its = refl;
        comes = ((let even = k.even in let left = ap length none in omega (arith, length-append k.stored [])), bounds.size.some);
        knows = subst (λ (l : List Fields). KnowsFile (past_of places since calls wire) at u.aim.id (stays (part l))) (sym (append-nil k.chunks)) k.knows;
      } in
      quietly quiet (known_as call new (past_of places since calls wire) at taken u' u r (goes (ends (ending_of u moment))) is answer ahead)
  rests_known ids drawn moment short quiet (steps.built some small n s request is answer) k =
      let document = chunk_document (ids 0) u.aim.id u.sent u.behind in
      let one : chunked u.aim.size u.behind ≡ u.behind ∷ [] = chunked_short u.aim.size u.behind short ∙ one_chunk u.behind some in
      let ahead : KnowsAhead new (past_of places since calls wire) at (record u { behind = [] }) taken (lasts s (ending_of u moment)) = record {
        stored = k.stored;
        flying = u.behind;
        parts = k.parts ∙ ap (λ (l : List ℕ). k.stored ++ (l ++ u.behind)) k.comes ∙ ap (λ (l : List ℕ). k.stored ++ l) (sym (append-nil u.behind));
        even = k.even;
        chunks = k.chunks;
        coming = document ∷ [];
        chunks_are = k.chunks_are;
        coming_are = subst (λ (cs : List (List ℕ)). AreChunks u.sent cs (document ∷ [])) (sym one) (record { number_is = refl; data_is = refl }, tt);
        its = its_chunks ids 0 u.aim.id u.sent (u.behind ∷ []);
        comes = ((let even = k.even in omega (arith, length-append k.stored u.behind)), short, request.command_is);
        knows = subst (λ (stage : Stage). KnowsFile (past_of places since calls wire) at u.aim.id (insert_at new s.command (part k.chunks) (part (k.chunks ++ document ∷ [])) stage)) (sym request.new) k.knows;
      } in
      quietly quiet (known_as call new (past_of places since calls wire) at taken u' (record u { behind = [] }) r (goes (lasts s (ending_of u moment))) is answer ahead)
  rests_known ids drawn moment short quiet (steps.not_built some most e left fails is answer) k =
      quietly quiet (known_as call new (past_of places since calls wire) at taken u' (record u { behind = left }) r (goes (undoes (Some e))) is answer (file_unknown (past_of places since calls wire) at u.aim.id (stays (part k.chunks)) k.knows))

  last_heard : (s : Sending) (ending : Ending) (c : Step Sending (List ℕ)) → IsLast u s ending → Runs old new log log' wire s c → HearsLast ending c u u' r → (k : KnowsAhead old (past_of places since calls wire) at u taken (lasts s ending))
      → (past : Past) → InsertRan new at u.aim.id s.command (part k.chunks) (part (k.chunks ++ k.coming)) c past → KnowsStepped call new past at u' taken r
  last_heard s ending (came.Pending s') l runs h k past ran =
      let same = (waits_still old new log log' wire s s' l.request.retries_is l.request.at runs).same_command in
      let ahead : KnowsAhead new past at u taken (lasts s' ending) = record {
        stored = k.stored;
        flying = k.flying;
        parts = k.parts;
        even = k.even;
        chunks = k.chunks;
        coming = k.coming;
        chunks_are = k.chunks_are;
        coming_are = k.coming_are;
        its = k.its;
        comes = (k.comes.0, k.comes.1, ap fields same ∙ k.comes.2);
        knows = subst (λ (x : List ℕ). KnowsFile past at u.aim.id (insert_at new x (part k.chunks) (part (k.chunks ++ k.coming)) s'.stage)) (sym same) ran;
      } in
      known_as call new past at taken u' u r (waits (lasts s' ending)) h.0 h.1 ahead
  last_heard s ending (came.Done reply) l runs (steps.inserted n told_so is answer) k past ran =
      let ahead : KnowsAhead new past at u taken (ends ending) = record {
        stored = k.stored;
        flying = k.flying;
        parts = k.parts;
        even = k.even;
        chunks = k.chunks;
        coming = k.coming;
        chunks_are = k.chunks_are;
        coming_are = k.coming_are;
        its = k.its;
        comes = (k.comes.0, k.comes.1);
        knows = ran.1 (inserts_told u.aim.bucket at placed.place s.command k.coming reply 1 n placed.chunks k.comes.2 (success_ran old new log log' wire s reply runs) told_so);
      } in
      known_as call new past at taken u' u r (goes (ends ending)) is answer ahead
  last_heard s ending (came.Done reply) l runs (steps.not_inserted e fails is answer) k past ran = undone_known past e is answer ran.0
  last_heard s ending (came.Failed e) l runs h k past ran = undone_known past e h.0 h.1 ran

  last_known : (s : Sending) (ending : Ending) (c : Step Sending (List ℕ)) → IsLast u s ending → Runs old new log log' wire s c → HearsLast ending c u u' r → KnowsAhead old (past_of places since calls wire) at u taken (lasts s ending) → Behind
  last_known s ending c l runs h k =
      grew_as places since calls log' wire (InsertRan new at u.aim.id s.command (part k.chunks) (part (k.chunks ++ k.coming)) c) (λ past. KnowsStepped call new past at u' taken r) (last_heard s ending c l runs h k)
      (insert_ran old new log log' at u.aim.id wire s c calls told places since wire (part k.chunks) (part (k.chunks ++ k.coming)) (makes_chunks s (lasts s ending) k k.comes.2) l.request.retries_is l.request.at runs k.knows)

  -- ---- the record

  ends_known : (ending : Ending) → SendsNothing old new log log' → Ends ending u u' r → KnowsAhead old (past_of places since calls wire) at u taken (ends ending) → Behind
  ends_known ending quiet (steps.built s request is answer) k =
      let ahead : KnowsAhead new (past_of places since calls wire) at u taken (records s ending) = record {
        stored = k.stored;
        flying = k.flying;
        parts = k.parts;
        even = k.even;
        chunks = k.chunks;
        coming = k.coming;
        chunks_are = k.chunks_are;
        coming_are = k.coming_are;
        its = k.its;
        comes = (k.comes.0, k.comes.1, request.command_is);
        knows = subst (λ (stage : Stage). KnowsFile (past_of places since calls wire) at u.aim.id (insert_at new s.command (part (k.chunks ++ k.coming)) (whole_with (record_of u.aim ending) (k.chunks ++ k.coming)) stage)) (sym request.new) k.knows;
      } in
      quietly quiet (known_as call new (past_of places since calls wire) at taken u' u r (goes (records s ending)) is answer ahead)
  ends_known ending quiet (steps.not_built e fails is answer) k =
      quietly quiet (undone_known (past_of places since calls wire) e is answer (file_unknown (past_of places since calls wire) at u.aim.id (stays (part (k.chunks ++ k.coming))) k.knows))

  -- all bytes are those stored and those of the last chunk
  all_bytes : (past : Past) (p : Phase) → u.behind ≡ [] → (k : KnowsAhead old past at u taken p) → taken ≡ k.stored ++ k.flying
  all_bytes past p none k = k.parts ∙ ap (λ (l : List ℕ). k.stored ++ (k.flying ++ l)) none ∙ ap (λ (l : List ℕ). k.stored ++ l) (append-nil k.flying)

  record_heard : (s : Sending) (ending : Ending) (c : Step Sending (List ℕ)) → call ≡ close → IsSoundPhase u (records s ending) → Runs old new log log' wire s c → HearsRecord ending c u u' r → (k : KnowsAhead old (past_of places since calls wire) at u taken (records s ending))
      → (past : Past) → InsertRan new at u.aim.id s.command (part (k.chunks ++ k.coming)) (whole_with (record_of u.aim ending) (k.chunks ++ k.coming)) c past → KnowsStepped call new past at u' taken r
  record_heard s ending (came.Pending s') closes own runs h k past ran =
      let same = (waits_still old new log log' wire s s' own.0.retries_is own.0.at runs).same_command in
      let ahead : KnowsAhead new past at u taken (records s' ending) = record {
        stored = k.stored;
        flying = k.flying;
        parts = k.parts;
        even = k.even;
        chunks = k.chunks;
        coming = k.coming;
        chunks_are = k.chunks_are;
        coming_are = k.coming_are;
        its = k.its;
        comes = (k.comes.0, k.comes.1, ap fields same ∙ k.comes.2);
        knows = subst (λ (x : List ℕ). KnowsFile past at u.aim.id (insert_at new x (part (k.chunks ++ k.coming)) (whole_with (record_of u.aim ending) (k.chunks ++ k.coming)) s'.stage)) (sym same) ran;
      } in
      known_as call new past at taken u' u r (waits (records s' ending)) h.0 h.1 ahead
  record_heard s ending (came.Done reply) closes own runs (steps.inserted n told_so is answer) k past ran =
      let all = all_bytes (past_of places since calls wire) (records s ending) own.1 k in
      let stored_all : HasStored past at u taken = record {
        ending = ending;
        counts = k.comes.0 ∙ ap length (sym all);
        chunks = k.chunks ++ k.coming;
        chunks_are = subst (λ (bs : List ℕ). AreChunks 0 (chunked u.aim.size bs) (k.chunks ++ k.coming)) (sym all) (joined u.sent u.aim.size k.stored k.flying k.chunks k.coming bounds.size.some k.even k.chunks_are k.coming_are);
        knows = ran.1 (record_told u.aim.bucket at placed.place u.aim ending s.command reply 1 n placed.files k.comes.2 (success_ran old new log log' wire s reply runs) told_so);
      } in
      known_as call new past at taken u' u r done is answer (subst (λ (c' : uploads.Call). KnowsStepped c' new past at u taken done) (sym closes) stored_all)
  record_heard s ending (came.Done reply) closes own runs (steps.not_inserted e fails undone_so) k past ran = undone_known past e undone_so.0 undone_so.1 ran.0
  record_heard s ending (came.Failed e) closes own runs h k past ran = undone_known past e h.0 h.1 ran

  record_known : (s : Sending) (ending : Ending) (c : Step Sending (List ℕ)) → call ≡ close → IsSoundPhase u (records s ending) → Runs old new log log' wire s c → HearsRecord ending c u u' r → KnowsAhead old (past_of places since calls wire) at u taken (records s ending) → Behind
  record_known s ending c closes own runs h k =
      grew_as places since calls log' wire (InsertRan new at u.aim.id s.command (part (k.chunks ++ k.coming)) (whole_with (record_of u.aim ending) (k.chunks ++ k.coming)) c) (λ past. KnowsStepped call new past at u' taken r) (record_heard s ending c closes own runs h k)
      (insert_ran old new log log' at u.aim.id wire s c calls told places since wire (part (k.chunks ++ k.coming)) (whole_with (record_of u.aim ending) (k.chunks ++ k.coming))
      (record_makes u.aim.bucket at placed.place u.aim ending s.command (k.chunks ++ k.coming) refl placed.files k.comes.2) own.0.retries_is own.0.at runs k.knows)

  -- ---- the way back

  landed_known : (error : Option Error) (left : Option Flight) → LandedAs error left u u' r → (past : Past) → KnowsFile past at u.aim.id unknown → KnowsStepped call new past at u' taken r
  landed_known error None h past k = known_as call new past at taken u' u r (goes (undoes error)) h.0 h.1 k
  landed_known error (Some flight) h past k = known_as call new past at taken u' u r (waits (lands flight error)) h.0 h.1 k

  lands_known : (flight : Flight) (error : Option Error) (left : Option Flight) → IsFlight u flight → LandsFlight old new log log' wire flight left → LandedAs error left u u' r → KnowsFile (past_of places since calls wire) at u.aim.id unknown → Behind
  lands_known flight error left own (of_check c is t landing left_is) h k =
      grew_as places since calls log' wire (λ past. KnowsFile past at u.aim.id unknown) (λ past. KnowsStepped call new past at u' taken r) (landed_known error left h)
      (landing_ran old new log log' wire u.aim.bucket at u.aim.id calls told places since wire c t (subst (IsFlight u) is own) landing k)
  lands_known flight error left own (of_command s is c runs left_is) h k =
      grew_as places since calls log' wire (λ past. KnowsFile past at u.aim.id unknown) (λ past. KnowsStepped call new past at u' taken r) (landed_known error left h)
      (any_ran old new log log' at u.aim.id wire s c calls told places since wire runs k)

  removes_known : (error : Option Error) → SendsNothing old new log log' → Removes error u u' r → KnowsFile (past_of places since calls wire) at u.aim.id unknown → Behind
  removes_known error quiet (steps.built s request is answer) k =
      quietly quiet (known_as call new (past_of places since calls wire) at taken u' u r (goes (removes s error)) is answer (subst (λ (stage : Stage). KnowsFile (past_of places since calls wire) at u.aim.id (removal_at new s.command stage)) (sym request.new) k))
  removes_known error quiet (steps.not_built d e fails both is answer) k =
      quietly quiet (known_as call new (past_of places since calls wire) at taken u' u r (failed e) is answer (λ other. absurd (other (undo_may_leave error d e both))))

  undone_so : (past : Past) (error : Option Error) → (error ≡ None → call ≡ abort) → u' ≡ u → r ≡ undone_by error → KnowsFile past at u.aim.id cleared → KnowsStepped call new past at u' taken r
  undone_so past None aborts is answer k = known_as call new past at taken u' u r done is answer (subst (λ (c' : uploads.Call). KnowsStepped c' new past at u taken done) (sym (aborts refl)) k)
  undone_so past (Some e) aborts is answer k = known_as call new past at taken u' u r (failed e) is answer (λ other. k)

  removal_heard : (s : Sending) (error : Option Error) (c : Step Sending (List ℕ)) → (error ≡ None → call ≡ abort) → IsSoundPhase u (removes s error) → Runs old new log log' wire s c → HearsRemoval error c u u' r
      → (past : Past) → RemovalRan new at u.aim.id s.command c past → KnowsStepped call new past at u' taken r
  removal_heard s error (came.Pending s') aborts own runs h past ran =
      let same = (waits_still old new log log' wire s s' own.retries_is own.at runs).same_command in
      known_as call new past at taken u' u r (waits (removes s' error)) h.0 h.1 (subst (λ (x : List ℕ). KnowsFile past at u.aim.id (removal_at new x s'.stage)) (sym same) ran)
  removal_heard s error (came.Done reply) aborts own runs (steps.removed n wrote_so is answer) past ran =
      undone_so past error aborts is answer (ran.1 (deletion_told u.aim.bucket at placed.place u.aim.id s.command reply n placed.chunks own.command_is (success_ran old new log log' wire s reply runs) wrote_so))
  removal_heard s error (came.Done reply) aborts own runs (steps.not_removed d e fails both is answer) past ran = known_as call new past at taken u' u r (failed e) is answer (λ other. absurd (other (undo_may_leave error d e both)))
  removal_heard s error (came.Failed d) aborts own runs h past ran = known_as call new past at taken u' u r (failed h.0) h.2 h.3 (λ other. absurd (other (undo_may_leave error d h.0 h.1)))

  removal_known : (s : Sending) (error : Option Error) (c : Step Sending (List ℕ)) → (error ≡ None → call ≡ abort) → IsSoundPhase u (removes s error) → Runs old new log log' wire s c → HearsRemoval error c u u' r → KnowsFile (past_of places since calls wire) at u.aim.id (removal_at old s.command s.stage) → Behind
  removal_known s error c aborts own runs h k =
      grew_as places since calls log' wire (RemovalRan new at u.aim.id s.command c) (λ past. KnowsStepped call new past at u' taken r) (removal_heard s error c aborts own runs h)
      (removal_ran old new log log' at u.aim.id wire s c calls told places since wire (deletion_clears u.aim.bucket at placed.place u.aim.id s.command placed.chunks own.command_is) own.retries_is own.at runs k)

-- ---- which calls may be where

pub of_close : (call : uploads.Call) (s : Sending) (ending : Ending) → IsOfCall call (records s ending) → call ≡ close
of_close (write piece) s ending h = absurd h
of_close close s ending h = refl
of_close abort s ending h = absurd h

pub of_write : (call : uploads.Call) → IsOfCall call fills → (piece : ℕ) × (call ≡ write piece)
of_write (write piece) h = (piece, refl)
of_write close h = absurd h
of_write abort h = absurd h

pub of_abort : (call : uploads.Call) (s : Sending) (error : Option Error) → IsOfCall call (removes s error) → error ≡ None → call ≡ abort
of_abort (write piece) s None h e = absurd h
of_abort close s None h e = absurd h
of_abort abort s None h e = refl
of_abort call s (Some x) h e = let bad : Some x ≡ None = e in absurd cc

-- ---- a step

module _ (old new : Awaited) (log log' : LogTold) (at : Bucket) (u u' : ClientUpload) (p : Phase) (r : Stepped) (placed : IsPlaced at u) (bounds : HasBounds u) (sound : IsSoundPhase u p) (taken : List ℕ) (calls : List Call) (told : log ≡ Some calls) (places : List ℕ) (since : ℕ) (wire : ℤ) (call : uploads.Call) (of_call : IsOfCall call p) where
  at_phase : (past : Past) (q : Phase) → p ≡ q → KnowsPhase old past at u taken p → KnowsPhase old past at u taken q
  at_phase past q is k = subst (λ (x : Phase). KnowsPhase old past at u taken x) is k

  own_at : (q : Phase) → p ≡ q → IsSoundPhase u q
  own_at q is = subst (IsSoundPhase u) is sound

  call_at : (q : Phase) → p ≡ q → IsOfCall call q
  call_at q is = subst (IsOfCall call) is of_call

  -- What an upload knows of its file it knows behind each step.
  pub step_known : (ids : ℕ → List ℕ) (drawn : ℕ) → DoesStep old new log log' wire ids drawn u u' p r → KnowsPhase old (past_of places since calls wire) at u taken p → Grew places since calls log' wire (λ past. KnowsStepped call new past at u' taken r)
  step_known ids drawn (begins_check is quiet n does) k =
      begins_known old new log log' at u u' r placed bounds taken calls told places since wire call (own_at begins is) quiet does (at_phase (past_of places since calls wire) begins is k)
  step_known ids drawn (checks_on c is n t checks_so leads) k =
      let own = own_at (checks c) is in
      let known = at_phase (past_of places since calls wire) (checks c) is k in
      grew_as places since calls log' wire (λ past. KnowsFile past at u.aim.id (stays (part known.chunks))) (λ past. KnowsStepped call new past at u' taken r)
      (check_known old new log log' at u u' r placed bounds taken calls told places since wire call c t own.1 leads known)
      (check_ran old new log log' wire u.aim.bucket at u.aim.id calls told places since wire (part known.chunks) c t placed.files placed.chunks own.0 checks_so known.knows)
  step_known ids drawn (is_short is quiet n short same answer) k =
      let known = at_phase (past_of places since calls wire) fills is k in
      let writes = of_write call (call_at fills is) in
      let ahead = ahead_with old new log log' at u u' r placed bounds taken calls told places since wire call (past_of places since calls wire) u fills fills known known.comes refl refl refl known.knows in
      quietly old new log log' at u u' r placed bounds taken calls told places since wire call quiet
      (known_as call new (past_of places since calls wire) at taken u' u r done same answer (subst (λ (c' : uploads.Call). KnowsStepped c' new (past_of places since calls wire) at u taken done) (sym writes.1) ahead))
  step_known ids drawn (fills_next is quiet full does) k = fills_known old new log log' at u u' r placed bounds taken calls told places since wire call ids drawn quiet does (at_phase (past_of places since calls wire) fills is k)
  step_known ids drawn (inserts_on s count is n c runs hears) k =
      chunks_known old new log log' at u u' r placed bounds taken calls told places since wire call s count c (own_at (inserts s count) is) runs hears (at_phase (past_of places since calls wire) (inserts s count) is k)
  step_known ids drawn (rests_next moment is quiet does) k =
      rests_known old new log log' at u u' r placed bounds taken calls told places since wire call ids drawn moment (own_at (rests moment) is) quiet does (at_phase (past_of places since calls wire) (rests moment) is k)
  step_known ids drawn (inserts_last s ending is n c runs hears) k =
      last_known old new log log' at u u' r placed bounds taken calls told places since wire call s ending c (own_at (lasts s ending) is).0 runs hears (at_phase (past_of places since calls wire) (lasts s ending) is k)
  step_known ids drawn (ends_next ending is quiet n does) k = ends_known old new log log' at u u' r placed bounds taken calls told places since wire call ending quiet does (at_phase (past_of places since calls wire) (ends ending) is k)
  step_known ids drawn (records_on s ending is n c runs hears) k =
      record_known old new log log' at u u' r placed bounds taken calls told places since wire call s ending c (of_close call s ending (call_at (records s ending) is)) (own_at (records s ending) is) runs hears (at_phase (past_of places since calls wire) (records s ending) is k)
  step_known ids drawn (lands_on flight error is n left landing landed) k =
      lands_known old new log log' at u u' r placed bounds taken calls told places since wire call flight error left (own_at (lands flight error) is) landing landed (at_phase (past_of places since calls wire) (lands flight error) is k)
  step_known ids drawn (undoes_next error is quiet n does) k = removes_known old new log log' at u u' r placed bounds taken calls told places since wire call error quiet does (at_phase (past_of places since calls wire) (undoes error) is k)
  step_known ids drawn (removes_on s error is n c runs hears) k =
      removal_known old new log log' at u u' r placed bounds taken calls told places since wire call s error c (of_abort call s error (call_at (removes s error) is)) (own_at (removes s error) is) runs hears (at_phase (past_of places since calls wire) (removes s error) is k)
