-- What a poll of a put's upload fails with.
use Rattle.std.proofs.Common.{◌≡◌, ◌<◌, ◌≤◌, ◌+◌, ◌++◌, ℕ, ℤ, Bool, true, false, List, [], length, take, drop, Some, refl, sym, ◌∙◌, subst, arith, append-nil}
use Rattle.std.specs.Prelude.{slice_get, if◌then◌else◌}
use Rattle.std.proofs.lemmas.List.{take_all}
use Rattle.mg_server.specs.Calls.{Past, past_of}
use Rattle.mg_link.specs.Errors.{plain}
use Rattle.mg_link.specs.Link.{Awaited, LogTold}
use Rattle.mg_link.specs.Log.{Call}
use Rattle.mg_link.specs.declared.error.ErrorKind.TheVariants as kind
use Rattle.mg_server.proofs.Calls.{same_keeps}
use Rattle.mg_server.proofs.Filed.{Grew}
use Rattle.mg_gridfs.specs.Calls as calls_of
use Rattle.mg_gridfs.specs.Calls.{Closes, Drives, Writes, at_work, doing_behind, ended_by, first_phase, with_bytes, wrote_by}
use Rattle.mg_gridfs.specs.Causes.{IsUploading, PhaseUnderway, UnderwayBy}
use Rattle.mg_gridfs.specs.Steps as steps
use Rattle.mg_gridfs.specs.Steps.{Stepped}
use Rattle.mg_gridfs.specs.Uploads as uploads
use Rattle.mg_gridfs.specs.Uploads.{Aim, ClientUpload, Doing, IsBetween, Phase, SoundBy, begins, busy, close, error_by, fills, idle, rests, upload_error, write}
use Rattle.mg_gridfs.specs.declared.polls.Step2.{Step2}
use Rattle.mg_gridfs.specs.declared.polls.Step2.TheVariants as end
use Rattle.mg_gridfs.specs.declared.polls.WritePoll.{WritePoll}
use Rattle.mg_gridfs.specs.declared.polls.WritePoll.TheVariants as wrote
use Rattle.mg_gridfs.proofs.Calling.{bounds_bytes}
use Rattle.mg_gridfs.proofs.Polled.{begun_sound, begun_writes, bounds_doing}
use Rattle.mg_players.specs.PutFailures as fails
use Rattle.mg_players.specs.PutFailures.{AnswersPut, PutFails, PutReads}
use Rattle.mg_players.specs.Puts.{CutBy, DoingSupplied, IsCutAt, IsMoment, IsPutDoing, PutTask, Supply, joined, put_aim, put_bucket, taken_in}
use Rattle.mg_players.specs.Sends.{PutFlies}
use Rattle.mg_players.proofs.PutFailing.{FailsWell, PhaseStands, steps_fail}
use Rattle.mg_players.proofs.PutPolled.{cut_doing, first_cut, first_flies, first_supplied, no_write, phase_doing, rest_of, sound_on, takes, takes_close, takes_write}
use Rattle.mg_players.proofs.PutSending.{Fits}

-- what is known of an upload that goes on
abbrev pub UploadStands : PutTask → Awaited → Past → ClientUpload → Type 0
UploadStands t awaited past u = AnswersPut t (upload_error u) × PutReads awaited past (put_bucket t) u.doing

-- behind a poll of a write
abbrev pub WriteEnds : PutTask → Awaited → ClientUpload → WritePoll → Past → Type 0
WriteEnds t awaited u' wrote.Pending past = UploadStands t awaited past u'
WriteEnds t awaited u' (wrote.Wrote n) past = Unit {0}
WriteEnds t awaited u' (wrote.Failed e) past = PutFails past t e

-- behind one of a close
abbrev pub CloseEnds : PutTask → Awaited → ClientUpload → Step2 → Past → Type 0
CloseEnds t awaited u' end.Pending past = UploadStands t awaited past u'
CloseEnds t awaited u' end.Done past = Unit {0}
CloseEnds t awaited u' (end.Failed e) past = PutFails past t e

write_by : (t : PutTask) (awaited : Awaited) (piece : ℕ) (call : uploads.Call) (left u' : ClientUpload) (past : Past) (s : Stepped) → u' ≡ record left { doing = doing_behind call s } → FailsWell t awaited past s → WriteEnds t awaited u' (wrote_by piece s) past
write_by t awaited piece call left u' past (steps.goes p) is h = subst (UploadStands t awaited past) (sym is) h
write_by t awaited piece call left u' past (steps.waits p) is h = subst (UploadStands t awaited past) (sym is) h
write_by t awaited piece call left u' past steps.done is h = tt
write_by t awaited piece call left u' past (steps.failed e) is h = h

close_by : (t : PutTask) (awaited : Awaited) (call : uploads.Call) (left u' : ClientUpload) (past : Past) (s : Stepped) → u' ≡ record left { doing = doing_behind call s } → FailsWell t awaited past s → CloseEnds t awaited u' (ended_by s) past
close_by t awaited call left u' past (steps.goes p) is h = subst (UploadStands t awaited past) (sym is) h
close_by t awaited call left u' past (steps.waits p) is h = subst (UploadStands t awaited past) (sym is) h
close_by t awaited call left u' past steps.done is h = tt
close_by t awaited call left u' past (steps.failed e) is h = h

pub first_stands : (t : PutTask) (awaited : Awaited) (past : Past) (b : Bool) → PhaseStands t awaited past (if b then fills else begins)
first_stands t awaited past true = (tt, tt)
first_stands t awaited past false = (tt, tt)

pub first_under : (awaited : Awaited) (past : Past) (aim : Aim) (b : Bool) → PhaseUnderway awaited past aim (if b then fills else begins)
first_under awaited past aim true = tt
first_under awaited past aim false = tt

module _ (supply : Supply) (t : PutTask) (old new : Awaited) (log log' : LogTold) (wire : ℤ) (ids : ℕ → List ℕ) (drawn : ℕ) (twelve : (k : ℕ) → length (ids k) ≡ 12) (u u' : ClientUpload) (between : IsBetween u) (aim : u.aim ≡ put_aim t) (calls : List Call) (told : log ≡ Some calls) (places : List ℕ) (under : IsUploading old (past_of places (length calls) calls wire) u) (stands : UploadStands t old (past_of places (length calls) calls wire) u) (so : DoingSupplied supply t ids u.sent u.doing) where
  abbrev Before : Past
  Before = past_of places (length calls) calls wire

  all_since : length calls ≤ length calls
  all_since = omega arith

  under_at : (call : uploads.Call) (p : Phase) → u.doing ≡ busy call p → PhaseUnderway old Before u.aim p
  under_at call p is = subst (UnderwayBy old Before u.aim) is under

  stands_at : (call : uploads.Call) (p : Phase) → u.doing ≡ busy call p → PhaseStands t old Before p
  stands_at call p is = subst (λ (d : Doing). AnswersPut t (error_by d) × PutReads old Before (put_bucket t) d) is stands

  abbrev Ran : Stepped → Type 0
  Ran s = Grew places (length calls) calls log' wire (λ past. FailsWell t new past s)

  driven_well : (taken rest : List ℕ) → joined t.pieces ≡ taken ++ rest → (call : uploads.Call) → Fits call rest → (p : Phase) → u.doing ≡ busy call p → CutBy u taken (busy call p) → PutFlies supply t u.doing → (s : Stepped) → Drives old new log log' wire ids drawn call u u' p s → Ran s
  driven_well taken rest whole call fits p is cut flies s d =
      let sound = sound_on supply t old new log log' wire ids drawn u u' between aim call p is in
      steps_fail supply t taken rest whole call fits d.steps old new log log' wire ids drawn twelve (at_work u) d.left p s aim (bounds_doing u idle between.sound.bounds) sound.0 sound.1 (phase_doing u idle taken p cut) (subst (PutFlies supply t) is flies) (subst (DoingSupplied supply t ids u.sent) is so) calls told places (length calls) all_since (stands_at call p is) (under_at call p is) d.does

  -- ---- a write

  module _ (bytes : List ℕ) (made : ℕ) (there : slice_get t.pieces made ≡ Some bytes) (within : made < length t.pieces) (doing : IsPutDoing u.doing made (length t.pieces)) (cut : CutBy u (taken_in u.doing t.pieces made) u.doing) (flies : PutFlies supply t u.doing) where
    abbrev Taken : List ℕ
    Taken = joined (take (made + 1) t.pieces)

    abbrev Rest : List ℕ
    Rest = joined (drop (made + 1) t.pieces)

    parts : joined t.pieces ≡ Taken ++ Rest
    parts = rest_of supply t old new log log' wire ids drawn u u' between aim bytes made there within doing cut flies

    starts_well : u.doing ≡ idle → (s : Stepped) → Drives old new log log' wire ids drawn (write (length bytes)) (with_bytes bytes u) u' (first_phase u) s → Ran s
    starts_well is s d =
        let v = at_work (with_bytes bytes u) in
        let taken_so = takes supply t old new log log' wire ids drawn u u' between aim bytes made there within doing cut flies is in
        steps_fail supply t Taken Rest parts (write (length bytes)) tt d.steps old new log log' wire ids drawn twelve v d.left (first_phase u) s aim (bounds_doing (with_bytes bytes u) idle (bounds_bytes bytes u between.sound.bounds)) (begun_sound v u.checked refl)
        (begun_writes (length bytes) u.checked) (first_cut v Taken u.checked (cut_doing (with_bytes bytes u) idle Taken 0 taken_so)) (first_flies supply t u.checked) (first_supplied supply t ids u.sent u.checked (subst (DoingSupplied supply t ids u.sent) is so)) calls told places (length calls) all_since (first_stands t old Before u.checked) (first_under old Before u.aim u.checked) d.does

    abbrev Written : WritePoll → Type 0
    Written r = Grew places (length calls) calls log' wire (WriteEnds t new u' r)

    as_write : (r q : WritePoll) → r ≡ q → Written q → Written r
    as_write r q is h = subst Written (sym is) h

    write_driven : (piece : ℕ) (call : uploads.Call) (p : Phase) (v : ClientUpload) (s : Stepped) → Drives old new log log' wire ids drawn call v u' p s → Ran s → Written (wrote_by piece s)
    write_driven piece call p v s drives g = (g.0, g.1, g.2, write_by t new piece call drives.left u' (past_of places (length calls) g.0 wire) s drives.behind g.3)

    pub write_ends : (r : WritePoll) → Writes old new log log' wire ids drawn u u' bytes r → Written r
    write_ends r (calls_of.refused refuses quiet is) = absurd (takes_write u.doing made (length t.pieces) doing within refuses)
    write_ends r (calls_of.not_taken rests_so quiet is) = as_write r (wrote.Failed (plain kind.OutOfMemory)) is (calls, quiet.quiet.log_same ∙ told, same_keeps calls, fails.early (fails.not_taken refl))
    write_ends r (calls_of.kept rests_so short quiet none is answer) = as_write r (wrote.Wrote (length bytes)) answer (calls, quiet.log_same ∙ told, same_keeps calls, tt)
    write_ends r (calls_of.starts rests_so full s drives answer) = as_write r (wrote_by (length bytes) s) answer (write_driven (length bytes) (write (length bytes)) (first_phase u) (with_bytes bytes u) s drives (starts_well rests_so s drives))
    write_ends r (calls_of.goes_on piece p is s drives answer) =
        as_write r (wrote_by piece s) answer (write_driven piece (write piece) p u s drives (driven_well Taken Rest parts (write piece) tt p is (subst (λ (d : Doing). CutBy u (taken_in d t.pieces made) d) is cut) flies s drives))

  -- ---- a close

  module _ (made : ℕ) (all : length t.pieces ≤ made) (doing : IsPutDoing u.doing made (length t.pieces)) (cut : CutBy u (taken_in u.doing t.pieces made) u.doing) (flies : PutFlies supply t u.doing) where
    rests_well : (moment : ℤ) → IsMoment supply.moment moment → u.doing ≡ idle → (s : Stepped) → Drives old new log log' wire ids drawn close u u' (rests moment) s → Ran s
    rests_well moment its is s d =
        let c : IsCutAt u (joined (take made t.pieces)) 0 = subst (λ (x : Doing). CutBy u (taken_in x t.pieces made) x) is cut in
        let whole : IsCutAt u (joined t.pieces) 0 = subst (λ (ps : List (List ℕ)). IsCutAt u (joined ps) 0) (take_all made t.pieces all) c in
        steps_fail supply t (joined t.pieces) [] (sym (append-nil (joined t.pieces))) close refl d.steps old new log log' wire ids drawn twelve (at_work u) d.left (rests moment) s aim (bounds_doing u idle between.sound.bounds) (subst (SoundBy u) is between.sound.by) tt (cut_doing u idle (joined t.pieces) 0 whole) tt (subst (DoingSupplied supply t ids u.sent) is so, its) calls told places (length calls) all_since (tt, tt) tt d.does

    abbrev Closed : Step2 → Type 0
    Closed r = Grew places (length calls) calls log' wire (CloseEnds t new u' r)

    as_close : (r q : Step2) → r ≡ q → Closed q → Closed r
    as_close r q is h = subst Closed (sym is) h

    close_driven : (p : Phase) (s : Stepped) → Drives old new log log' wire ids drawn close u u' p s → Ran s → Closed (ended_by s)
    close_driven p s drives g = (g.0, g.1, g.2, close_by t new close drives.left u' (past_of places (length calls) g.0 wire) s drives.behind g.3)

    pub close_ends : (moment : ℤ) → IsMoment supply.moment moment → (r : Step2) → Closes old new log log' wire ids drawn moment u u' r → Closed r
    close_ends moment its r (calls_of.refused refuses quiet is) = absurd (takes_close u.doing made (length t.pieces) doing refuses)
    close_ends moment its r (calls_of.starts rests_so s drives answer) = as_close r (ended_by s) answer (close_driven (rests moment) s drives (rests_well moment its rests_so s drives))
    close_ends moment its r (calls_of.gives_up piece p is s drives answer) = absurd (no_write supply t old new log log' wire ids drawn u u' between aim made all doing cut flies piece p is)
    close_ends moment its r (calls_of.goes_on p is s drives answer) =
        as_close r (ended_by s) answer (close_driven p s drives (driven_well (joined t.pieces) [] (sym (append-nil (joined t.pieces))) close refl p is (subst (λ (d : Doing). CutBy u (taken_in d t.pieces made) d) is cut) flies s drives))
