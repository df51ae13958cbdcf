-- What the steps of a put's upload send, and how the bytes that it took are cut behind them.
use Rattle.std.proofs.Common.{◌≡◌, ◌≢◌, ◌<◌, ◌≤◌, ◌+◌, ◌*◌, ◌^◌, ℕ, zero, suc, ℤ, false, true, List, [], ◌∷◌, ◌++◌, length, take, drop, Option, Some, None, refl, sym, ap, ◌∙◌, subst, arith, add-mul, append-nil, append_assoc, length-append}
use Rattle.std.specs.Prelude.{option_map}
use Rattle.std.proofs.lemmas.List.{length-take-le, take-append-drop}
use Rattle.mg_bson.specs.Raw.{fields}
use Rattle.mg_bson.specs.Tree.{Fields}
use Rattle.mg_link.specs.Exec.{Runs, Sending}
use Rattle.mg_link.specs.Chunks.{chunked}
use Rattle.mg_link.specs.Link.{Awaited, LogTold, SendsNothing}
use Rattle.mg_link.specs.declared.action.Step.{Step}
use Rattle.mg_link.specs.declared.action.Step.TheVariants as came
use Rattle.mg_link.specs.declared.error.Error.{Error}
use Rattle.mg_server.proofs.Chunking.{chunked_full}
use Rattle.mg_options.specs.Fields.{fields_in}
use Rattle.mg_gridfs.specs.Calls.{behind_call, doing_behind}
use Rattle.mg_gridfs.specs.Checks as check
use Rattle.mg_gridfs.specs.Checks.{CheckTurned, ClientCheck, still_of}
use Rattle.mg_gridfs.specs.Commands.{IsNewRequest, chunk_document, chunk_documents, chunks_lines, deletion_lines, record_document, record_lines}
use Rattle.mg_gridfs.specs.Steps as steps
use Rattle.mg_gridfs.specs.Steps.{BeginsCheck, CheckLeads, DoesStep, DoesSteps, Ends, Fills, HearsChunks, HearsLast, HearsRecord, HearsRemoval, IsPortion, LandedAs, LandsFlight, Removes, Rests, Stepped, begins_check, checks_on, done, ending_of, ends_next, failed, fills_next, first_chunks, goes, ids_behind, inserts_last, inserts_on, is_short, lands_on, of_check, of_command, records_on, removes_on, rests_next, undoes_next, undone_by, waits}
use Rattle.mg_gridfs.specs.Uploads as uploads
use Rattle.mg_gridfs.specs.Uploads.{Aim, ClientUpload, Doing, Ending, Flight, HasBounds, IsFlight, IsOfCall, IsShort, IsSoundPhase, Phase, abort, by_check, by_command, checks, close, ends, fills, inserts, lands, lasts, record_of, records, removes, rests, undoes, write}
use Rattle.mg_gridfs.proofs.Driving.{call_kept}
use Rattle.mg_gridfs.proofs.Keeping.{same_pending, step_kept}
use Rattle.mg_players.specs.PutSends.{InsertsChunks, IsCheckCommand, file_chunks}
use Rattle.mg_players.specs.Puts.{ComeNext, CutBy, CutByPhase, IsCutAt, IsMoment, PhaseSupplied, PutTask, Supply, joined, put_aim, put_bucket, total}
use Rattle.mg_players.specs.Sends as sends
use Rattle.mg_players.specs.Sends.{FlightFlies, IsPutCommand, PhaseFlies, PutFlies}
use Rattle.mg_players.proofs.PutChunks.{all_full, full_inserts, last_count, last_inserts}
use Rattle.mg_players.proofs.PutSupplied.{step_supplied}
use Rattle.mg_players.proofs.PutChecking.{AddsTold, LeftFlies, TurnFlies, check_sends, landing_sends, told_as, told_on, told_ran, told_same}

-- ---- pieces

-- all bytes of pieces are counted
pub joined_total : (pieces : List (List ℕ)) → length (joined pieces) ≡ total pieces
joined_total [] = refl
joined_total (p ∷ ps) = length-append p (joined ps) ∙ ap (λ (n : ℕ). length p + n) (joined_total ps)

-- a file with the bytes of one has one
pub some_chunks : (t : PutTask) → 0 < t.chunk → t.chunk ≤ total t.pieces → 0 < length (file_chunks t)
some_chunks t room full =
    let all : List ℕ = joined t.pieces in
    let long : t.chunk ≤ length all = subst (λ (n : ℕ). t.chunk ≤ n) (sym (joined_total t.pieces)) full in
    let first : List ℕ = take t.chunk all in
    let rest : List ℕ = drop t.chunk all in
    let cut : file_chunks t ≡ first ∷ chunked t.chunk rest = ap (λ (l : List ℕ). chunked t.chunk l) (sym (take-append-drop t.chunk all)) ∙ chunked_full t.chunk first rest room (length-take-le t.chunk all long) in
    subst (λ (cs : List (List ℕ)). 0 < length cs) (sym cut) (omega arith)

-- ---- the check

-- what it sends a put may send
by_check_told : (supply : Supply) (t : PutTask) (log log' : LogTold) → AddsTold (IsCheckCommand (put_bucket t)) log log' → AddsTold (IsPutCommand supply t) log log'
by_check_told supply t log log' adds = told_as (IsCheckCommand (put_bucket t)) (IsPutCommand supply t) (λ command its. sends.checks its) log log' adds

-- ---- one step

-- a close comes behind all bytes
abbrev pub Fits : uploads.Call → List ℕ → Type 0
Fits (write piece) rest = Unit {0}
Fits close rest = rest ≡ []
Fits abort rest = ⊥

-- its chunks have a size
pub its_room : (t : PutTask) (u : ClientUpload) → u.aim ≡ put_aim t → HasBounds u → 0 < t.chunk
its_room t u aim bounds = subst (λ (a : Aim). 0 < a.size) aim bounds.size.some

-- behind it these bytes are cut, and what is on its way may be sent
abbrev pub Stands : Supply → PutTask → ClientUpload → List ℕ → Doing → Type 0
Stands supply t u taken d = CutBy u taken d × PutFlies supply t d

-- a phase that no write has comes behind all bytes
pub all_taken : (call : uploads.Call) (rest : List ℕ) (p : Phase) → Fits call rest → IsOfCall call p → ((piece : ℕ) → IsOfCall (write piece) p → ⊥) → rest ≡ []
all_taken (write piece) rest p fits own never = absurd (never piece own)
all_taken close rest p fits own never = fits
all_taken abort rest p fits own never = absurd fits

-- a write that is done goes on to the next one
written : (supply : Supply) (t : PutTask) (u : ClientUpload) (taken : List ℕ) (call : uploads.Call) → IsCutAt u taken 0 → Stands supply t u taken (behind_call call)
written supply t u taken (write piece) cut = (cut, tt)
written supply t u taken close cut = (tt, tt)
written supply t u taken abort cut = (tt, tt)

-- a close is done once the record is there
recorded : (supply : Supply) (t : PutTask) (u : ClientUpload) (taken : List ℕ) (call : uploads.Call) (p : Phase) → IsOfCall call p → ((piece : ℕ) → IsOfCall (write piece) p → ⊥) → Stands supply t u taken (behind_call call)
recorded supply t u taken (write piece) p own never = absurd (never piece own)
recorded supply t u taken close p own never = (tt, tt)
recorded supply t u taken abort p own never = (tt, tt)

-- once the chunks are removed the first error is answered
undone : (supply : Supply) (t : PutTask) (u : ClientUpload) (taken rest : List ℕ) (call : uploads.Call) (s : Sending) (error : Option Error) → Fits call rest → IsOfCall call (removes s error) → Stands supply t u taken (doing_behind call (undone_by error))
undone supply t u taken rest call s (Some e) fits own = (tt, tt)
undone supply t u taken rest (write piece) s None fits own = absurd own
undone supply t u taken rest close s None fits own = absurd own
undone supply t u taken rest abort s None fits own = absurd fits

module _ (supply : Supply) (t : PutTask) (taken rest : List ℕ) (whole : joined t.pieces ≡ taken ++ rest) (call : uploads.Call) (fits : Fits call rest) (old new : Awaited) (log log' : LogTold) (wire : ℤ) (u u' : ClientUpload) (r : Stepped) (aim : u.aim ≡ put_aim t) (room : 0 < t.chunk) where
  abbrev pub May : Fields → Type 0
  May = IsPutCommand supply t

  abbrev pub Then : Type 0
  Then = Stands supply t u' taken (doing_behind call r)

  then_as : (v : ClientUpload) (q : Stepped) → u' ≡ v → r ≡ q → Stands supply t v taken (doing_behind call q) → Then
  then_as v q is answer h = subst (λ (x : Stepped). Stands supply t u' taken (doing_behind call x)) (sym answer) (subst (λ (x : ClientUpload). Stands supply t x taken (doing_behind call q)) (sym is) h)

  pub size_is : u.aim.size ≡ t.chunk
  size_is = ap (λ (a : Aim). a.size) aim

  pub front_is : (cut : IsCutAt u taken 0) → length cut.front ≡ u.sent * u.aim.size
  front_is cut = let none : u.sent + 0 ≡ u.sent = omega arith in cut.even ∙ ap (λ (n : ℕ). n * u.aim.size) none

  counted : (cut : IsCutAt u taken 0) → u.sent * u.aim.size + length u.behind ≡ length taken
  counted cut = ap (λ (n : ℕ). n + length u.behind) (sym (front_is cut)) ∙ sym (length-append cut.front u.behind) ∙ ap length (sym cut.parts)

  still : (s s' : Sending) → Runs old new log log' wire s (came.Pending s') → May (fields s.command) → May (fields s'.command)
  still s s' runs may = subst (λ (c : List ℕ). May (fields c)) (sym (same_pending old new log log' wire s s' runs).0) may

  -- ---- the check

  begins_so : IsCutAt u taken 0 → BeginsCheck u u' r → Then
  begins_so cut (steps.built s new_one is answer) = then_as u (goes (checks (check.finds s))) is answer (cut, tt)
  begins_so cut (steps.not_built e fails is answer) = then_as u (failed e) is answer (tt, tt)

  check_so : IsCutAt u taken 0 → (c : CheckTurned) → TurnFlies c → CheckLeads c u u' r → Then
  check_so cut (check.goes c) flies h = then_as u (goes (checks c)) h.0 h.1 (cut, flies)
  check_so cut (check.pends c) flies h = then_as u (waits (checks c)) h.0 h.1 (cut, flies)
  check_so cut check.passes flies h = then_as (record u { checked = true }) (goes fills) h.0 h.1 (record { front = cut.front; parts = cut.parts; even = cut.even }, tt)
  check_so cut (check.fails e) flies h = then_as u (failed e) h.0 h.1 (tt, tt)

  -- ---- chunks

  next_chunks : (cut : IsCutAt u taken 0) (count : ℕ) → count * u.aim.size ≤ length u.behind → IsCutAt (record u { behind = drop (count * u.aim.size) u.behind }) taken count
  next_chunks cut count within =
      let n : ℕ = count * u.aim.size in
      let these : List ℕ = take n u.behind in
      record {
        front = cut.front ++ these;
        parts = cut.parts ∙ ap (λ (l : List ℕ). cut.front ++ l) (sym (take-append-drop n u.behind)) ∙ sym (append_assoc cut.front these (drop n u.behind));
        even = length-append cut.front these ∙ ap (λ (m : ℕ). m + length these) (front_is cut) ∙ ap (λ (m : ℕ). u.sent * u.aim.size + m) (length-take-le n u.behind within) ∙ sym (add-mul u.sent count u.aim.size);
      }

  even_front : (cut : IsCutAt u taken 0) → length cut.front ≡ u.sent * t.chunk
  even_front cut = front_is cut ∙ ap (λ (m : ℕ). u.sent * m) size_is

  -- the next full chunks
  pub full_next : (cut : IsCutAt u taken 0) (ids : ℕ → List ℕ) → ComeNext supply t ids u.sent → (count : ℕ) (s : Sending) → IsPortion u (first_chunks u ids count) count → u.sent + count ≤ 2 ^ 31 → IsNewRequest false (chunks_lines u.aim.bucket (first_chunks u ids count)) s → InsertsChunks supply t u.sent (u.sent + count) (fields s.command)
  full_next cut ids next count s portion small request =
      let n : ℕ = count * u.aim.size in
      let these : List ℕ = take n u.behind in
      let left : List ℕ = drop n u.behind in
      full_inserts supply t room u.sent cut.front (even_front cut) count these (left ++ rest) portion.some small
      (whole ∙ ap (λ (l : List ℕ). l ++ rest) (cut.parts ∙ ap (λ (l : List ℕ). cut.front ++ l) (sym (take-append-drop n u.behind)) ∙ sym (append_assoc cut.front these left)) ∙ append_assoc (cut.front ++ these) left rest)
      (length-take-le n u.behind portion.within ∙ ap (λ (m : ℕ). count * m) size_is) ids next (fields s.command)
      (request.command_is ∙ ap (λ (a : Aim). fields_in (chunks_lines a.bucket (chunk_documents ids 0 a.id u.sent (chunked a.size these)))) aim)

  fills_so : (ids : ℕ → List ℕ) (drawn : ℕ) → ComeNext supply t ids u.sent → IsCutAt u taken 0 → Fills ids drawn u u' r → Then
  fills_so ids drawn next cut (steps.built count s portion small n request is answer) =
      let may : May (fields s.command) = sends.inserts u.sent (u.sent + count) (full_next cut ids next count s portion small request) in
      then_as (record u { behind = drop (count * u.aim.size) u.behind }) (goes (inserts s count)) is answer (next_chunks cut count portion.within, may)
  fills_so ids drawn next cut (steps.not_built within e left fails is answer) = then_as (record u { behind = left }) (goes (undoes (Some e))) is answer (tt, tt)

  chunks_so : (s : Sending) (count : ℕ) → IsCutAt u taken count → May (fields s.command) → (c : Step Sending (List ℕ)) → Runs old new log log' wire s c → HearsChunks count c u u' r → Then
  chunks_so s count cut may (came.Pending s') runs h = then_as u (waits (inserts s' count)) h.0 h.1 (cut, still s s' runs may)
  chunks_so s count cut may (came.Done reply) runs (steps.inserted n told_so is answer) =
      let more : u.sent + count ≡ u.sent + count + 0 = omega arith in
      then_as (record u { sent = u.sent + count }) (goes fills) is answer (record { front = cut.front; parts = cut.parts; even = cut.even ∙ ap (λ (m : ℕ). m * u.aim.size) more }, tt)
  chunks_so s count cut may (came.Done reply) runs (steps.not_inserted e fails is answer) = then_as u (goes (undoes (Some e))) is answer (tt, tt)
  chunks_so s count cut may (came.Failed e) runs h = then_as u (goes (undoes (Some e))) h.0 h.1 (tt, tt)

  -- ---- the end

  cut_whole : rest ≡ [] → (cut : IsCutAt u taken 0) → joined t.pieces ≡ cut.front ++ u.behind
  cut_whole all cut = whole ∙ ap (λ (l : List ℕ). taken ++ l) all ∙ append-nil taken ∙ cut.parts

  -- what is left, as the last chunk
  pub last_next : rest ≡ [] → IsShort u → (cut : IsCutAt u taken 0) (ids : ℕ → List ℕ) → ComeNext supply t ids u.sent → (s : Sending) → u.behind ≢ [] → u.sent + 1 ≤ 2 ^ 31 → IsNewRequest false (chunks_lines u.aim.bucket (chunk_document (ids 0) u.aim.id u.sent u.behind ∷ [])) s → InsertsChunks supply t u.sent (length (file_chunks t)) (fields s.command)
  last_next all short cut ids next s some small request =
      last_inserts supply t room u.sent cut.front (even_front cut) u.behind small (cut_whole all cut) some (subst (λ (m : ℕ). length u.behind < m) size_is short) ids next (fields s.command)
      (request.command_is ∙ ap (λ (a : Aim). fields_in (chunks_lines a.bucket (chunk_documents ids 0 a.id u.sent (u.behind ∷ [])))) aim)

  -- which is one
  pub last_one : rest ≡ [] → IsShort u → IsCutAt u taken 0 → u.behind ≢ [] → u.sent + 1 ≡ length (file_chunks t)
  last_one all short cut some = last_count supply t room u.sent cut.front (even_front cut) u.behind (cut_whole all cut) some (subst (λ (m : ℕ). length u.behind < m) size_is short)

  -- or none is
  pub none_next : rest ≡ [] → (cut : IsCutAt u taken 0) → u.behind ≡ [] → u.sent ≡ length (file_chunks t)
  none_next all cut none = all_full supply t room u.sent cut.front (even_front cut) (cut_whole all cut ∙ ap (λ (l : List ℕ). cut.front ++ l) none)

  -- where no chunk was inserted, there is no full one
  pub none_full : rest ≡ [] → IsShort u → (cut : IsCutAt u taken 0) → u.sent ≡ 0 → total t.pieces < t.chunk
  none_full all short cut none =
      let count : length (cut.front ++ u.behind) ≡ total t.pieces = sym (ap length (cut_whole all cut)) ∙ joined_total t.pieces in
      let both : length (cut.front ++ u.behind) ≡ length cut.front + length u.behind = length-append cut.front u.behind in
      let front : length cut.front ≡ 0 * t.chunk = even_front cut ∙ ap (λ (m : ℕ). m * t.chunk) none in
      let size : u.aim.size ≡ t.chunk = size_is in
      let few : length u.behind < u.aim.size = short in
      omega (arith, count, both, front, size, few)

  rests_so : (ids : ℕ → List ℕ) (drawn : ℕ) (moment : ℤ) → ComeNext supply t ids u.sent → rest ≡ [] → IsShort u → IsCutAt u taken 0 → Rests ids drawn moment u u' r → Then
  rests_so ids drawn moment next all short cut (steps.nothing_left none n is answer) = then_as u (goes (ends (ending_of u moment))) is answer (counted cut, tt)
  rests_so ids drawn moment next all short cut (steps.built some small n s request is answer) =
      let may : May (fields s.command) = sends.inserts u.sent (length (file_chunks t)) (last_next all short cut ids next s some small request) in
      then_as (record u { behind = [] }) (goes (lasts s (ending_of u moment))) is answer (counted cut, may)
  rests_so ids drawn moment next all short cut (steps.not_built some most e left fails is answer) = then_as (record u { behind = left }) (goes (undoes (Some e))) is answer (tt, tt)

  last_so : (s : Sending) (ending : Ending) → ending.length ≡ length taken → May (fields s.command) → (c : Step Sending (List ℕ)) → Runs old new log log' wire s c → HearsLast ending c u u' r → Then
  last_so s ending counts may (came.Pending s') runs h = then_as u (waits (lasts s' ending)) h.0 h.1 (counts, still s s' runs may)
  last_so s ending counts may (came.Done reply) runs (steps.inserted n told_so is answer) = then_as u (goes (ends ending)) is answer (counts, tt)
  last_so s ending counts may (came.Done reply) runs (steps.not_inserted e fails is answer) = then_as u (goes (undoes (Some e))) is answer (tt, tt)
  last_so s ending counts may (came.Failed e) runs h = then_as u (goes (undoes (Some e))) h.0 h.1 (tt, tt)

  ends_so : (ending : Ending) → IsMoment supply.moment ending.moment → rest ≡ [] → ending.length ≡ length taken → Ends ending u u' r → Then
  ends_so ending its all counts (steps.built s request is answer) =
      let count : ending.length ≡ total t.pieces = counts ∙ ap length (sym (whole ∙ ap (λ (l : List ℕ). taken ++ l) all ∙ append-nil taken)) ∙ joined_total t.pieces in
      let may : May (fields s.command) = sends.records ending.moment its
      (request.command_is ∙ ap (λ (a : Aim). fields_in (record_lines a.bucket (record_of a ending))) aim ∙ ap (λ (n : ℕ). fields_in (record_lines (put_bucket t) (record_document t.id n t.chunk ending.moment t.name None))) count) in
      then_as u (goes (records s ending)) is answer (counts, may)
  ends_so ending its all counts (steps.not_built e fails is answer) = then_as u (goes (undoes (Some e))) is answer (tt, tt)

  record_so : (s : Sending) (ending : Ending) → IsOfCall call (records s ending) → ending.length ≡ length taken → May (fields s.command) → (c : Step Sending (List ℕ)) → Runs old new log log' wire s c → HearsRecord ending c u u' r → Then
  record_so s ending own counts may (came.Pending s') runs h = then_as u (waits (records s' ending)) h.0 h.1 (counts, still s s' runs may)
  record_so s ending own counts may (came.Done reply) runs (steps.inserted n told_so is answer) = then_as u done is answer (recorded supply t u taken call (records s ending) own (λ piece x. x))
  record_so s ending own counts may (came.Done reply) runs (steps.not_inserted e fails undone_so) = then_as u (goes (undoes (Some e))) undone_so.0 undone_so.1 (tt, tt)
  record_so s ending own counts may (came.Failed e) runs h = then_as u (goes (undoes (Some e))) h.0 h.1 (tt, tt)

  -- ---- the way back

  landed_so : (error : Option Error) (left : Option Flight) → ((flight : Flight) → left ≡ Some flight → FlightFlies supply t flight) → LandedAs error left u u' r → Then
  landed_so error None flies h = then_as u (goes (undoes error)) h.0 h.1 (tt, tt)
  landed_so error (Some flight) flies h = then_as u (waits (lands flight error)) h.0 h.1 (tt, flies flight refl)

  check_left : (c : Option ClientCheck) → LeftFlies c → (flight : Flight) → option_map by_check c ≡ Some flight → FlightFlies supply t flight
  check_left None flies flight is = absurd cc
  check_left (Some c) flies flight is = let same : by_check c ≡ flight = cc is in subst (FlightFlies supply t) same flies

  command_left : (s : Sending) (c : Step Sending (List ℕ)) → Runs old new log log' wire s c → May (fields s.command) → (flight : Flight) → option_map by_command (still_of c) ≡ Some flight → FlightFlies supply t flight
  command_left s (came.Pending s') runs may flight is = let same : by_command s' ≡ flight = cc is in subst (FlightFlies supply t) same (still s s' runs may)
  command_left s (came.Done reply) runs may flight is = absurd cc
  command_left s (came.Failed e) runs may flight is = absurd cc

  removes_so : (error : Option Error) → Removes error u u' r → Then
  removes_so error (steps.built s request is answer) = then_as u (goes (removes s error)) is answer (tt, sends.removes (request.command_is ∙ ap (λ (a : Aim). fields_in (deletion_lines a.bucket a.id)) aim))
  removes_so error (steps.not_built d e fails both is answer) = then_as u (failed e) is answer (tt, tt)

  removal_so : (s : Sending) (error : Option Error) → IsOfCall call (removes s error) → May (fields s.command) → (c : Step Sending (List ℕ)) → Runs old new log log' wire s c → HearsRemoval error c u u' r → Then
  removal_so s error own may (came.Pending s') runs h = then_as u (waits (removes s' error)) h.0 h.1 (tt, still s s' runs may)
  removal_so s error own may (came.Done reply) runs (steps.removed n wrote_so is answer) = then_as u (undone_by error) is answer (undone supply t u taken rest call s error fits own)
  removal_so s error own may (came.Done reply) runs (steps.not_removed d e fails both is answer) = then_as u (failed e) is answer (tt, tt)
  removal_so s error own may (came.Failed d) runs h = then_as u (failed h.0) h.2 h.3 (tt, tt)

  -- ---- a step

  abbrev pub Sent : Type 0
  Sent = AddsTold May log log' × Then

  ran : (s : Sending) (c : Step Sending (List ℕ)) → May (fields s.command) → Runs old new log log' wire s c → AddsTold May log log'
  ran s c may runs = told_ran May old new log log' wire s c may runs

  quiet : SendsNothing old new log log' → AddsTold May log log'
  quiet q = told_same May log log' q.log_same

  flight_sends : (flight : Flight) (error : Option Error) (left : Option Flight) → IsFlight u flight → FlightFlies supply t flight → LandsFlight old new log log' wire flight left → LandedAs error left u u' r → Sent
  flight_sends flight error left own flies (of_check c is x landing left_is) h =
      let l = landing_sends t old new log log' wire u.aim.bucket (ap (λ (a : Aim). a.bucket) aim) c x (subst (IsFlight u) is own) (subst (FlightFlies supply t) is flies) landing in
      (by_check_told supply t log log' l.0, landed_so error left (λ f there. check_left x l.1 f (sym left_is ∙ there)) h)
  flight_sends flight error left own flies (of_command s is c runs left_is) h =
      let may : May (fields s.command) = subst (FlightFlies supply t) is flies in
      (ran s c may runs, landed_so error left (λ f there. command_left s c runs may f (sym left_is ∙ there)) h)

  pub step_sends : (ids : ℕ → List ℕ) (drawn : ℕ) (p : Phase) → IsSoundPhase u p → IsOfCall call p → CutByPhase u taken p → PhaseFlies supply t p → PhaseSupplied supply t ids u.sent p → DoesStep old new log log' wire ids drawn u u' p r → Sent
  step_sends ids drawn p sound own cut flies so (begins_check is q n does) = (quiet q, begins_so (subst (CutByPhase u taken) is cut) does)
  step_sends ids drawn p sound own cut flies so (checks_on c is n x checks_so leads) =
      let l = check_sends t old new log log' wire u.aim.bucket (ap (λ (a : Aim). a.bucket) aim) c x (subst (IsSoundPhase u) is sound).0 (subst (PhaseFlies supply t) is flies) checks_so in
      (by_check_told supply t log log' l.0, check_so (subst (CutByPhase u taken) is cut) x l.1 leads)
  step_sends ids drawn p sound own cut flies so (is_short is q n short same answer) = (quiet q, then_as u done same answer (written supply t u taken call (subst (CutByPhase u taken) is cut)))
  step_sends ids drawn p sound own cut flies so (fills_next is q full does) = (quiet q, fills_so ids drawn (subst (PhaseSupplied supply t ids u.sent) is so) (subst (CutByPhase u taken) is cut) does)
  step_sends ids drawn p sound own cut flies so (inserts_on s count is n c runs hears) =
      let may : May (fields s.command) = subst (PhaseFlies supply t) is flies in (ran s c may runs, chunks_so s count (subst (CutByPhase u taken) is cut) may c runs hears)
  step_sends ids drawn p sound own cut flies so (rests_next moment is q does) =
      (quiet q, rests_so ids drawn moment (subst (PhaseSupplied supply t ids u.sent) is so).0 (all_taken call rest (rests moment) fits (subst (IsOfCall call) is own) (λ piece x. x)) (subst (IsSoundPhase u) is sound) (subst (CutByPhase u taken) is cut) does)
  step_sends ids drawn p sound own cut flies so (inserts_last s ending is n c runs hears) =
      let may : May (fields s.command) = subst (PhaseFlies supply t) is flies in (ran s c may runs, last_so s ending (subst (CutByPhase u taken) is cut) may c runs hears)
  step_sends ids drawn p sound own cut flies so (ends_next ending is q n does) =
      (quiet q, ends_so ending (subst (PhaseSupplied supply t ids u.sent) is so) (all_taken call rest (ends ending) fits (subst (IsOfCall call) is own) (λ piece x. x)) (subst (CutByPhase u taken) is cut) does)
  step_sends ids drawn p sound own cut flies so (records_on s ending is n c runs hears) =
      let may : May (fields s.command) = subst (PhaseFlies supply t) is flies in (ran s c may runs, record_so s ending (subst (IsOfCall call) is own) (subst (CutByPhase u taken) is cut) may c runs hears)
  step_sends ids drawn p sound own cut flies so (lands_on flight error is n left landing landed) = flight_sends flight error left (subst (IsSoundPhase u) is sound) (subst (PhaseFlies supply t) is flies) landing landed
  step_sends ids drawn p sound own cut flies so (undoes_next error is q n does) = (quiet q, removes_so error does)
  step_sends ids drawn p sound own cut flies so (removes_on s error is n c runs hears) =
      let may : May (fields s.command) = subst (PhaseFlies supply t) is flies in (ran s c may runs, removal_so s error (subst (IsOfCall call) is own) may c runs hears)

-- ---- all steps

-- what the steps of a poll send, and how the upload stands behind them
pub record SentSteps (supply : Supply) (t : PutTask) (taken : List ℕ) (call : uploads.Call) (log log' : LogTold) (u' : ClientUpload) (r : Stepped) : Type 0 where
  pub adds : AddsTold (IsPutCommand supply t) log log'
  pub stands : Stands supply t u' taken (doing_behind call r)
  pub aim_is : u'.aim ≡ put_aim t

pub steps_send : (supply : Supply) (t : PutTask) (taken rest : List ℕ) → joined t.pieces ≡ taken ++ rest → (call : uploads.Call) → Fits call rest → (n : ℕ) (old new : Awaited) (log log' : LogTold) (wire : ℤ) (ids : ℕ → List ℕ) (drawn : ℕ) (u u' : ClientUpload) (p : Phase) (r : Stepped) → u.aim ≡ put_aim t → HasBounds u → IsSoundPhase u p → IsOfCall call p → CutByPhase u taken p → PhaseFlies supply t p → PhaseSupplied supply t ids u.sent p
    → DoesSteps n old new log log' wire ids drawn u u' p r → SentSteps supply t taken call log log' u' r
unfolding DoesSteps
steps_send supply t taken rest whole call fits zero old new log log' wire ids drawn u u' p r aim bounds sound own cut flies so d =
    let s = step_sends supply t taken rest whole call fits old new log log' wire u u' r aim (its_room t u aim bounds) ids drawn p sound own cut flies so d.0 in
    record { adds = s.0; stands = s.1; aim_is = (step_kept old new log log' wire u u' r bounds ids drawn p sound d.0).same_aim ∙ aim }
steps_send supply t taken rest whole call fits (suc n) old new log log' wire ids drawn u u' p r aim bounds sound own cut flies so d =
    let kept = step_kept old d.0 log d.1 wire u d.4 (goes d.5) bounds ids d.2 p sound d.6 in
    let s = step_sends supply t taken rest whole call fits old d.0 log d.1 wire u d.4 (goes d.5) aim (its_room t u aim bounds) ids d.2 p sound own cut flies so d.6 in
    let own_on = call_kept call old d.0 log d.1 wire ids d.2 u d.4 p (goes d.5) own d.6 in
    let next = step_supplied supply t call ids d.2 u d.4 (goes d.5) old d.0 log d.1 wire p own so d.6 in
    let more = steps_send supply t taken rest whole call fits n d.0 new d.1 log' wire (ids_behind d.2 ids) d.3 d.4 u' d.5 r (kept.same_aim ∙ aim) kept.bounds kept.stepped_so own_on s.1.0 s.1.1 next d.8 in
    record { adds = told_on (IsPutCommand supply t) log d.1 log' s.0 more.adds; stands = more.stands; aim_is = more.aim_is }
