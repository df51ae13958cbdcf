-- What a put knows of the step of its record, behind a poll of its upload and as others go on.
use Rattle.std.proofs.Common.{◌≡◌, ◌<◌, ◌≤◌, ◌+◌, ◌++◌, ◌∷◌, [], ℕ, ℤ, Bool, true, false, List, length, take, drop, Some, refl, sym, subst, inl, inr, arith, append-nil}
use Rattle.std.specs.Prelude.{slice_get, if◌then◌else◌}
use Rattle.std.proofs.lemmas.List.{take_all}
use Rattle.mg_server.specs.Calls.{IsOwn, Past, past_of}
use Rattle.mg_link.specs.Errors.{plain}
use Rattle.mg_link.specs.Link.{Awaited, LogTold}
use Rattle.mg_link.specs.Log.{Call}
use Rattle.mg_server.specs.Owner.{IsOf, Onward, nobody}
use Rattle.mg_link.specs.declared.error.ErrorKind.TheVariants as kind
use Rattle.mg_server.proofs.Apart.{onward_refl}
use Rattle.mg_link.proofs.Places.{get_some, get_within}
use Rattle.mg_ops.specs.Naming.{IsNamed}
use Rattle.mg_gridfs.specs.Calls as calls_of
use Rattle.mg_gridfs.specs.Calls.{Closes, Drives, Writes, at_work, doing_behind, ended_by, first_phase, with_bytes, wrote_by}
use Rattle.mg_gridfs.specs.Laws.{IsSettled}
use Rattle.mg_gridfs.specs.Steps as steps
use Rattle.mg_gridfs.specs.Steps.{Stepped}
use Rattle.mg_gridfs.specs.Storing.{KnowsAhead, KnowsBy, KnowsPhase, KnowsUpload}
use Rattle.mg_gridfs.specs.Uploads as uploads
use Rattle.mg_gridfs.specs.Uploads.{Aim, ClientUpload, Doing, IsBetween, Phase, SoundBy, begins, busy, checks, close, closed, ends, fills, idle, inserts, lands, lasts, records, removes, rests, undoes, write}
use Rattle.mg_gridfs.specs.declared.polls.Step2.{Step2}
use Rattle.mg_gridfs.specs.declared.polls.Step2.TheVariants as end
use Rattle.mg_gridfs.specs.declared.polls.WritePoll.{WritePoll}
use Rattle.mg_gridfs.specs.declared.polls.WritePoll.TheVariants as wrote
use Rattle.mg_gridfs.proofs.Calling.{bounds_bytes}
use Rattle.mg_gridfs.proofs.Polled.{begun_sound, begun_writes, bounds_doing, knows_doing}
use Rattle.mg_players.specs.Causes.{AreInLog}
use Rattle.mg_players.specs.Laying.{DoingLays, EndLays, LaysAll, PhaseLays, SendsNoRecord}
use Rattle.mg_players.specs.Puts.{CutBy, DoingSupplied, IsCutAt, IsMoment, IsPutDoing, NamesFiles, PutTask, Supply, joined, put_aim, taken_in}
use Rattle.mg_players.specs.Sends.{PutFlies}
use Rattle.mg_players.proofs.Laying.{doing_later, laid_later, none_laid}
use Rattle.mg_players.proofs.PutLaying.{ByLog, same_log, sent_either, steps_laid}
use Rattle.mg_players.proofs.PutPolled.{cut_doing, first_cut, first_flies, first_supplied, no_write, phase_doing, rest_of, sound_on, takes, takes_close, takes_write}
use Rattle.mg_players.proofs.PutSending.{Fits}

-- ---- names

-- the collections of an upload that is known have names
pub names_of : (awaited : Awaited) (past : Past) (t : PutTask) (u : ClientUpload) (taken : List ℕ) → u.aim ≡ put_aim t → KnowsUpload awaited past t.at u taken → NamesFiles t
names_of awaited past t u taken aim k = (subst (λ (a : Aim). IsNamed a.bucket.files) aim k.files, subst (λ (a : Aim). IsNamed a.bucket.chunks) aim k.chunks)

-- ---- as others go on

-- a place that is in the log
in_log_at : (n : ℕ) (places : List ℕ) (place : ℕ) → AreInLog n places → IsOf places place → place < n
in_log_at n [] place below of = absurd of
in_log_at n (p ∷ places) place below (inl same) = subst (λ (k : ℕ). k < n) same below.0
in_log_at n (p ∷ places) place below (inr of) = in_log_at n places place below.1 of

module _ (t : PutTask) (calls calls' : List Call) (wire : ℤ) (places : List ℕ) (within : AreInLog (length calls) places) (onward : Onward calls calls' nobody) where
  -- its own calls are those that it sent before
  own_back : (place : ℕ) (call : Call) → IsOwn (past_of places (length calls') calls' wire) place → slice_get calls' place ≡ Some call → IsOwn (past_of places (length calls) calls wire) place × ((c : Call) × (slice_get calls place ≡ Some c))
  own_back place call (inl of) there = (inl of, get_some calls place (in_log_at (length calls) places place within of))
  own_back place call (inr late) there = let less = get_within calls' place call there in absurd (omega (arith, late, less))

  own_on : (place : ℕ) (call : Call) → IsOwn (past_of places (length calls) calls wire) place → slice_get calls place ≡ Some call → IsOwn (past_of places (length calls') calls' wire) place
  own_on place call (inl of) there = inl of
  own_on place call (inr late) there = let less = get_within calls place call there in absurd (omega (arith, late, less))

  pub doing_goes_on : (d : Doing) → DoingLays (past_of places (length calls) calls wire) t d → DoingLays (past_of places (length calls') calls' wire) t d
  doing_goes_on d h = doing_later t (past_of places (length calls) calls wire) (past_of places (length calls') calls' wire) onward own_back own_on d h

  pub end_goes_on : EndLays (past_of places (length calls) calls wire) t → EndLays (past_of places (length calls') calls' wire) t
  end_goes_on (inl none) = inl none
  end_goes_on (inr x) = inr (x.0, laid_later t (past_of places (length calls) calls wire) (past_of places (length calls') calls' wire) onward own_back own_on x.1)

-- ---- behind a poll

module _ (t : PutTask) (calls calls' : List Call) (wire : ℤ) (places places' : List ℕ) (settled : IsSettled places (length calls) (length calls') places') where
  -- what was sent up to here counts as sent before
  own_settled : (place : ℕ) (call : Call) → IsOwn (past_of places' (length calls') calls' wire) place → slice_get calls' place ≡ Some call → IsOwn (past_of places (length calls) calls' wire) place × ((c : Call) × (slice_get calls' place ≡ Some c))
  own_settled place call (inl of) there = (elim (settled.only place of) [ inl old ↦ inl old | inr new ↦ inr new.0 ], (call, there))
  own_settled place call (inr late) there = let less = get_within calls' place call there in absurd (omega (arith, late, less))

  own_settles : (place : ℕ) (call : Call) → IsOwn (past_of places (length calls) calls' wire) place → slice_get calls' place ≡ Some call → IsOwn (past_of places' (length calls') calls' wire) place
  own_settles place call (inl of) there = inl (settled.kept place of)
  own_settles place call (inr late) there = inl (settled.added place late (get_within calls' place call there))

  pub doing_settles : (d : Doing) → DoingLays (past_of places (length calls) calls' wire) t d → DoingLays (past_of places' (length calls') calls' wire) t d
  doing_settles d h = doing_later t (past_of places (length calls) calls' wire) (past_of places' (length calls') calls' wire) (onward_refl calls' nobody) own_settled own_settles d h

  pub laid_settles : LaysAll (past_of places (length calls) calls' wire) t → LaysAll (past_of places' (length calls') calls' wire) t
  laid_settles h = laid_later t (past_of places (length calls) calls' wire) (past_of places' (length calls') calls' wire) (onward_refl calls' nobody) own_settled own_settles h

-- ---- a put that has sent nothing

pub nothing_lays : (t : PutTask) (calls : List Call) (wire : ℤ) (places : List ℕ) → places ≡ [] → SendsNoRecord (past_of places (length calls) calls wire) t
nothing_lays t calls wire places none place call own there moment is = elim own [
  | inl of ↦ absurd (subst (λ (l : List ℕ). IsOf l place) none of)
  | inr late ↦ (let less = get_within calls place call there in absurd (omega (arith, late, less)))
]

-- ---- what it comes to

-- where its record was sent, all chunks stood
module _ (past : Past) (t : PutTask) where
  phase_laid : (p : Phase) → PhaseLays past t p → LaysAll past t
  phase_laid begins h = none_laid past t h
  phase_laid (checks c) h = none_laid past t h
  phase_laid fills h = none_laid past t h
  phase_laid (inserts s count) h = none_laid past t h
  phase_laid (rests moment) h = none_laid past t h
  phase_laid (lasts s ending) h = none_laid past t h
  phase_laid (ends ending) h = none_laid past t h
  phase_laid (records s ending) h = sent_either t past s.stage h
  phase_laid (lands flight error) h = absurd h
  phase_laid (undoes error) h = h
  phase_laid (removes s error) h = h

  pub doing_laid : (d : Doing) → DoingLays past t d → LaysAll past t
  doing_laid idle h = none_laid past t h
  doing_laid (busy call p) h = phase_laid p h
  doing_laid closed h = h

-- ---- what stands behind a poll

abbrev pub WriteLays : PutTask → ClientUpload → WritePoll → Past → Type 0
WriteLays t u' wrote.Pending past = DoingLays past t u'.doing
WriteLays t u' (wrote.Wrote n) past = DoingLays past t u'.doing
WriteLays t u' (wrote.Failed e) past = LaysAll past t

abbrev pub CloseLays : PutTask → ClientUpload → Step2 → Past → Type 0
CloseLays t u' end.Pending past = DoingLays past t u'.doing
CloseLays t u' end.Done past = LaysAll past t
CloseLays t u' (end.Failed e) past = LaysAll past t

write_by : (t : PutTask) (piece : ℕ) (left u' : ClientUpload) (past : Past) (s : Stepped) → u' ≡ record left { doing = doing_behind (write piece) s } → DoingLays past t (doing_behind (write piece) s) → WriteLays t u' (wrote_by piece s) past
write_by t piece left u' past (steps.goes p) is h = subst (λ (x : ClientUpload). DoingLays past t x.doing) (sym is) h
write_by t piece left u' past (steps.waits p) is h = subst (λ (x : ClientUpload). DoingLays past t x.doing) (sym is) h
write_by t piece left u' past steps.done is h = subst (λ (x : ClientUpload). DoingLays past t x.doing) (sym is) h
write_by t piece left u' past (steps.failed e) is h = h

close_by : (t : PutTask) (left u' : ClientUpload) (past : Past) (s : Stepped) → u' ≡ record left { doing = doing_behind close s } → DoingLays past t (doing_behind close s) → CloseLays t u' (ended_by s) past
close_by t left u' past (steps.goes p) is h = subst (λ (x : ClientUpload). DoingLays past t x.doing) (sym is) h
close_by t left u' past (steps.waits p) is h = subst (λ (x : ClientUpload). DoingLays past t x.doing) (sym is) h
close_by t left u' past steps.done is h = h
close_by t left u' past (steps.failed e) is h = h

-- a write begins with the check, where it was not made
first_lays : (past : Past) (t : PutTask) (b : Bool) → SendsNoRecord past t → PhaseLays past t (if b then fills else begins)
first_lays past t true h = h
first_lays past t false h = h

module _ (supply : Supply) (t : PutTask) (old new : Awaited) (log log' : LogTold) (wire : ℤ) (ids : ℕ → List ℕ) (drawn : ℕ) (u u' : ClientUpload) (between : IsBetween u) (aim : u.aim ≡ put_aim t) (named : NamesFiles t) (supplied : DoingSupplied supply t ids u.sent u.doing) (calls : List Call) (told : log ≡ Some calls) (places : List ℕ) (lays : DoingLays (past_of places (length calls) calls wire) t u.doing) where
  abbrev Before : Past
  Before = past_of places (length calls) calls wire

  -- by the log behind the poll
  abbrev pub Behind : (Past → Type 0) → Type 0
  Behind = ByLog log' places (length calls) wire

  lays_at : (call : uploads.Call) (p : Phase) → u.doing ≡ busy call p → PhaseLays Before t p
  lays_at call p is = subst (DoingLays Before t) is lays

  lays_idle : u.doing ≡ idle → SendsNoRecord Before t
  lays_idle is = subst (DoingLays Before t) is lays

  -- a write never comes to the record
  no_close : (taken : List ℕ) (piece : ℕ) (p : Phase) (v : ClientUpload) → write piece ≡ close → KnowsPhase old Before t.at v taken p
  no_close taken piece p v bad = absurd cc

  driven_so : (taken rest : List ℕ) → joined t.pieces ≡ taken ++ rest → (call : uploads.Call) → Fits call rest → (p : Phase) → u.doing ≡ busy call p → CutBy u taken (busy call p) → PutFlies supply t u.doing → (call ≡ close → KnowsPhase old Before t.at (at_work u) taken p) → (s : Stepped)
      → (d : Drives old new log log' wire ids drawn call u u' p s) → Behind (λ past. DoingLays past t (doing_behind call s))
  driven_so taken rest whole call fits p is cut flies knows s d =
      let sound = sound_on supply t old new log log' wire ids drawn u u' between aim call p is in
      steps_laid supply t named taken rest whole call fits d.steps old new log log' wire ids drawn (at_work u) d.left p s aim (bounds_doing u idle between.sound.bounds) sound.0 sound.1 (phase_doing u idle taken p cut) (subst (PutFlies supply t) is flies) (subst (DoingSupplied supply t ids u.sent) is supplied) calls told places (length calls) knows (lays_at call p is) d.does

  -- ---- a write

  module _ (bytes : List ℕ) (made : ℕ) (there : slice_get t.pieces made ≡ Some bytes) (within : made < length t.pieces) (doing : IsPutDoing u.doing made (length t.pieces)) (cut : CutBy u (taken_in u.doing t.pieces made) u.doing) (flies : PutFlies supply t u.doing) where
    abbrev Taken : List ℕ
    Taken = joined (take (made + 1) t.pieces)

    abbrev Rest : List ℕ
    Rest = joined (drop (made + 1) t.pieces)

    parts : joined t.pieces ≡ Taken ++ Rest
    parts = rest_of supply t old new log log' wire ids drawn u u' between aim bytes made there within doing cut flies

    starts_so : u.doing ≡ idle → (s : Stepped) → (d : Drives old new log log' wire ids drawn (write (length bytes)) (with_bytes bytes u) u' (first_phase u) s) → Behind (λ past. DoingLays past t (doing_behind (write (length bytes)) s))
    starts_so is s d =
        let v = at_work (with_bytes bytes u) in
        let taken_so = takes supply t old new log log' wire ids drawn u u' between aim bytes made there within doing cut flies is in
        steps_laid supply t named Taken Rest parts (write (length bytes)) tt d.steps old new log log' wire ids drawn v d.left (first_phase u) s aim (bounds_doing (with_bytes bytes u) idle (bounds_bytes bytes u between.sound.bounds)) (begun_sound v u.checked refl)
        (begun_writes (length bytes) u.checked) (first_cut v Taken u.checked (cut_doing (with_bytes bytes u) idle Taken 0 taken_so)) (first_flies supply t u.checked) (first_supplied supply t ids u.sent u.checked (subst (DoingSupplied supply t ids u.sent) is supplied)) calls told places (length calls)
        (no_close Taken (length bytes) (first_phase u) v) (first_lays Before t u.checked (lays_idle is)) d.does

    abbrev Written : WritePoll → Type 0
    Written r = Behind (WriteLays t u' r)

    as_write : (r q : WritePoll) → r ≡ q → Written q → Written r
    as_write r q is h = subst Written (sym is) h

    write_driven : (piece : ℕ) (p : Phase) (v : ClientUpload) (s : Stepped) → (d : Drives old new log log' wire ids drawn (write piece) v u' p s) → Behind (λ past. DoingLays past t (doing_behind (write piece) s)) → Written (wrote_by piece s)
    write_driven piece p v s d h calls' told' = write_by t piece d.left u' (past_of places (length calls) calls' wire) s d.behind (h calls' told')

    pub write_laid : (r : WritePoll) → Writes old new log log' wire ids drawn u u' bytes r → Written r
    write_laid r (calls_of.refused refuses quiet is) = absurd (takes_write u.doing made (length t.pieces) doing within refuses)
    write_laid r (calls_of.not_taken rests_so quiet is) =
        as_write r (wrote.Failed (plain kind.OutOfMemory)) is (same_log log log' calls places (length calls) wire (λ past. LaysAll past t) told quiet.quiet.log_same (none_laid Before t (lays_idle rests_so)))
    write_laid r (calls_of.kept rests_so short quiet none is answer) =
        as_write r (wrote.Wrote (length bytes)) answer (same_log log log' calls places (length calls) wire (λ past. DoingLays past t u'.doing) told quiet.log_same (subst (λ (x : ClientUpload). DoingLays Before t x.doing) (sym is) lays))
    write_laid r (calls_of.starts rests_so full s drives answer) = as_write r (wrote_by (length bytes) s) answer (write_driven (length bytes) (first_phase u) (with_bytes bytes u) s drives (starts_so rests_so s drives))
    write_laid r (calls_of.goes_on piece p is s drives answer) =
        as_write r (wrote_by piece s) answer (write_driven piece p u s drives (driven_so Taken Rest parts (write piece) tt p is (subst (λ (d : Doing). CutBy u (taken_in d t.pieces made) d) is cut) flies (no_close Taken piece p (at_work u)) s drives))

  -- ---- a close

  module _ (made : ℕ) (all : length t.pieces ≤ made) (doing : IsPutDoing u.doing made (length t.pieces)) (cut : CutBy u (taken_in u.doing t.pieces made) u.doing) (flies : PutFlies supply t u.doing) (knows : KnowsUpload old (past_of places (length calls) calls wire) t.at u (joined t.pieces)) where
    -- what it knows of its file
    knows_at : (d : Doing) → u.doing ≡ d → KnowsBy old Before t.at u (joined t.pieces) d
    knows_at d is = subst (KnowsBy old Before t.at u (joined t.pieces)) is knows.by

    knows_rests : (moment : ℤ) → u.doing ≡ idle → KnowsPhase old Before t.at (at_work u) (joined t.pieces) (rests moment)
    knows_rests moment is =
        let k : KnowsAhead old Before t.at u (joined t.pieces) fills = knows_at idle is in
        record { stored = k.stored; flying = k.flying; parts = k.parts; even = k.even; chunks = k.chunks; coming = k.coming; chunks_are = k.chunks_are; coming_are = k.coming_are; its = k.its; comes = k.comes; knows = k.knows }

    rests_so : (moment : ℤ) → IsMoment supply.moment moment → u.doing ≡ idle → (s : Stepped) → (d : Drives old new log log' wire ids drawn close u u' (rests moment) s) → Behind (λ past. DoingLays past t (doing_behind close s))
    rests_so moment its is s d =
        let c : IsCutAt u (joined (take made t.pieces)) 0 = subst (λ (x : Doing). CutBy u (taken_in x t.pieces made) x) is cut in
        let whole : IsCutAt u (joined t.pieces) 0 = subst (λ (ps : List (List ℕ)). IsCutAt u (joined ps) 0) (take_all made t.pieces all) c in
        steps_laid supply t named (joined t.pieces) [] (sym (append-nil (joined t.pieces))) close refl d.steps old new log log' wire ids drawn (at_work u) d.left (rests moment) s aim (bounds_doing u idle between.sound.bounds) (subst (SoundBy u) is between.sound.by) tt (cut_doing u idle (joined t.pieces) 0 whole) tt (subst (DoingSupplied supply t ids u.sent) is supplied, its) calls told places (length calls)
        (λ closes. knows_rests moment is) (lays_idle is) d.does

    abbrev Closed : Step2 → Type 0
    Closed r = Behind (CloseLays t u' r)

    as_close : (r q : Step2) → r ≡ q → Closed q → Closed r
    as_close r q is h = subst Closed (sym is) h

    close_driven : (p : Phase) (s : Stepped) → (d : Drives old new log log' wire ids drawn close u u' p s) → Behind (λ past. DoingLays past t (doing_behind close s)) → Closed (ended_by s)
    close_driven p s d h calls' told' = close_by t d.left u' (past_of places (length calls) calls' wire) s d.behind (h calls' told')

    pub close_laid : (moment : ℤ) → IsMoment supply.moment moment → (r : Step2) → Closes old new log log' wire ids drawn moment u u' r → Closed r
    close_laid moment its r (calls_of.refused refuses quiet is) = absurd (takes_close u.doing made (length t.pieces) doing refuses)
    close_laid moment its r (calls_of.starts idle_so s drives answer) = as_close r (ended_by s) answer (close_driven (rests moment) s drives (rests_so moment its idle_so s drives))
    close_laid moment its r (calls_of.gives_up piece p is s drives answer) = absurd (no_write supply t old new log log' wire ids drawn u u' between aim made all doing cut flies piece p is)
    close_laid moment its r (calls_of.goes_on p is s drives answer) =
        as_close r (ended_by s) answer
        (close_driven p s drives
        (driven_so (joined t.pieces) [] (sym (append-nil (joined t.pieces))) close refl p is (subst (λ (d : Doing). CutBy u (taken_in d t.pieces made) d) is cut) flies (λ closes. knows_doing old Before t.at u idle (joined t.pieces) p (knows_at (busy close p) is)) s drives))
