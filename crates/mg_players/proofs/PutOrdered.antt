-- What a poll of a put's upload sends, in its order.
use Rattle.std.proofs.Common.{◌≡◌, ◌<◌, ◌≤◌, ◌+◌, ◌*◌, ◌++◌, ℕ, ℤ, Bool, true, false, List, [], length, take, drop, Option, Some, None, refl, sym, ap, ◌∙◌, subst, arith, append-nil, length-append}
use Rattle.std.specs.Prelude.{slice_get, if◌then◌else◌}
use Rattle.std.proofs.lemmas.List.{take_all}
use Rattle.mg_bson.specs.Tree.{Fields}
use Rattle.mg_server.specs.Calls.{Past, past_of}
use Rattle.mg_link.specs.Errors.{plain}
use Rattle.mg_link.specs.Link.{Awaited, LogTold, SendsNothing}
use Rattle.mg_link.specs.Log.{Call}
use Rattle.mg_link.specs.declared.error.Error.{Error}
use Rattle.mg_link.specs.declared.error.ErrorKind.TheVariants as kind
use Rattle.mg_server.proofs.Owners.{same_some}
use Rattle.mg_ops.specs.Logs.{AddsJust}
use Rattle.mg_ops.proofs.Logs.{just_none}
use Rattle.mg_gridfs.specs.Calls as calls_of
use Rattle.mg_gridfs.specs.Calls.{Closes, Drives, Writes, at_work, doing_behind, ended_by, first_phase, with_bytes, wrote_by}
use Rattle.mg_gridfs.specs.Causes.{IsUploading, PhaseUnderway, UnderwayBy}
use Rattle.mg_gridfs.specs.Steps as steps
use Rattle.mg_gridfs.specs.Steps.{Stepped}
use Rattle.mg_gridfs.specs.Uploads as uploads
use Rattle.mg_gridfs.specs.Uploads.{Aim, ClientUpload, Doing, IsBetween, Phase, SoundBy, begins, busy, close, error_by, fills, idle, rests, write}
use Rattle.mg_gridfs.specs.declared.polls.Step2.{Step2}
use Rattle.mg_gridfs.specs.declared.polls.Step2.TheVariants as end
use Rattle.mg_gridfs.specs.declared.polls.WritePoll.{WritePoll}
use Rattle.mg_gridfs.specs.declared.polls.WritePoll.TheVariants as wrote
use Rattle.mg_gridfs.proofs.Calling.{bounds_bytes}
use Rattle.mg_gridfs.proofs.Polled.{begun_sound, begun_writes, bounds_doing}
use Rattle.mg_players.specs.PutFailures as fails
use Rattle.mg_players.specs.PutFailures.{AnswersPut, PutReads}
use Rattle.mg_players.specs.PutSends as put_sends
use Rattle.mg_players.specs.PutSends.{DoingSent, PhaseSent, Reach, SentAll, SentChunks, SentFor, file_chunks}
use Rattle.mg_players.specs.Puts.{CutBy, DoingSupplied, IsCutAt, IsMoment, IsPutDoing, PutTask, Supply, joined, put_aim, put_bucket, taken_in, total}
use Rattle.mg_players.specs.Sends.{PutFlies}
use Rattle.mg_players.proofs.JustGrown.{AreLastOf, GrowsBehind}
use Rattle.mg_players.proofs.PutFailed.{UploadStands, first_stands, first_under}
use Rattle.mg_players.proofs.PutFailing.{PhaseStands}
use Rattle.mg_players.proofs.PutGrowing.{as_is, doing_grows, for_grows, put_grows}
use Rattle.mg_players.proofs.PutOrder.{MayReach, Reason, SteppedSent, chunks_at, reach_cut, steps_order}
use Rattle.mg_players.proofs.PutPolled.{cut_doing, first_cut, first_flies, first_supplied, no_write, phase_doing, rest_of, sound_on, takes, takes_close, takes_write}
use Rattle.mg_players.proofs.PutSending.{Fits, joined_total}

-- what stands behind a poll of a write that left the upload so
abbrev pub WriteSaid : Supply → PutTask → Reach → Past → Past → (Error → ℕ → Option ℤ → Bool → Type 0) → List Fields → ClientUpload → WritePoll → Type 0
WriteSaid supply t R ever past W commands u' wrote.Pending = DoingSent supply t R ever past commands u'.checked u'.sent u'.doing
WriteSaid supply t R ever past W commands u' (wrote.Wrote n) = DoingSent supply t R ever past commands u'.checked u'.sent u'.doing
WriteSaid supply t R ever past W commands u' (wrote.Failed e) = SentFor supply t ever commands (W e)

-- behind one of a close
abbrev pub CloseSaid : Supply → PutTask → Reach → Past → Past → (Error → ℕ → Option ℤ → Bool → Type 0) → List Fields → ClientUpload → Step2 → Type 0
CloseSaid supply t R ever past W commands u' end.Pending = DoingSent supply t R ever past commands u'.checked u'.sent u'.doing
CloseSaid supply t R ever past W commands u' end.Done = (moment : ℤ) × SentAll supply t ever commands (Some moment)
CloseSaid supply t R ever past W commands u' (end.Failed e) = SentFor supply t ever commands (W e)

abbrev DoingOf : Supply → PutTask → Reach → Past → Past → List Fields → ClientUpload → Type 0
DoingOf supply t R ever past commands u = DoingSent supply t R ever past commands u.checked u.sent u.doing

write_said : (supply : Supply) (t : PutTask) (R : Reach) (ever past : Past) (W : Error → ℕ → Option ℤ → Bool → Type 0) (commands : List Fields) (piece : ℕ) (left u' : ClientUpload) (s : Stepped) → u' ≡ record left { doing = doing_behind (write piece) s } → SteppedSent supply t R ever past W commands left.checked left.sent (write piece) s → WriteSaid supply t R ever past W commands u' (wrote_by piece s)
write_said supply t R ever past W commands piece left u' (steps.goes p) is h = subst (DoingOf supply t R ever past commands) (sym is) h
write_said supply t R ever past W commands piece left u' (steps.waits p) is h = subst (DoingOf supply t R ever past commands) (sym is) h
write_said supply t R ever past W commands piece left u' steps.done is h = subst (DoingOf supply t R ever past commands) (sym is) h
write_said supply t R ever past W commands piece left u' (steps.failed e) is h = h

close_said : (supply : Supply) (t : PutTask) (R : Reach) (ever past : Past) (W : Error → ℕ → Option ℤ → Bool → Type 0) (commands : List Fields) (left u' : ClientUpload) (s : Stepped) → u' ≡ record left { doing = doing_behind close s } → SteppedSent supply t R ever past W commands left.checked left.sent close s → CloseSaid supply t R ever past W commands u' (ended_by s)
close_said supply t R ever past W commands left u' (steps.goes p) is h = subst (DoingOf supply t R ever past commands) (sym is) h
close_said supply t R ever past W commands left u' (steps.waits p) is h = subst (DoingOf supply t R ever past commands) (sym is) h
close_said supply t R ever past W commands left u' steps.done is h = h
close_said supply t R ever past W commands left u' (steps.failed e) is h = h

-- by what was heard later
pub write_grows : (ever ever' : Past) → GrowsBehind ever ever' → (supply : Supply) (t : PutTask) (R : Reach) (past : Past) (W : Error → ℕ → Option ℤ → Bool → Type 0) (commands : List Fields) (u : ClientUpload) (r : WritePoll) → WriteSaid supply t R ever past W commands u r → WriteSaid supply t R ever' past W commands u r
write_grows ever ever' wider supply t R past W commands u wrote.Pending h = doing_grows ever ever' wider past past (as_is past) supply t R commands u.checked u.sent u.doing h
write_grows ever ever' wider supply t R past W commands u (wrote.Wrote n) h = doing_grows ever ever' wider past past (as_is past) supply t R commands u.checked u.sent u.doing h
write_grows ever ever' wider supply t R past W commands u (wrote.Failed e) h = for_grows ever ever' wider supply t commands (W e) h

pub close_grows : (ever ever' : Past) → GrowsBehind ever ever' → (supply : Supply) (t : PutTask) (R : Reach) (past : Past) (W : Error → ℕ → Option ℤ → Bool → Type 0) (commands : List Fields) (u : ClientUpload) (r : Step2) → CloseSaid supply t R ever past W commands u r → CloseSaid supply t R ever' past W commands u r
close_grows ever ever' wider supply t R past W commands u end.Pending h = doing_grows ever ever' wider past past (as_is past) supply t R commands u.checked u.sent u.doing h
close_grows ever ever' wider supply t R past W commands u end.Done h = (h.0, put_grows ever ever' wider supply t commands (length (file_chunks t)) (Some h.0) false h.1)
close_grows ever ever' wider supply t R past W commands u (end.Failed e) h = for_grows ever ever' wider supply t commands (W e) h

-- one that has not checked sent nothing, and begins where it has a full chunk
first_said : (supply : Supply) (t : PutTask) (R : Reach) (ever past : Past) (commands : List Fields) (checked : Bool) (sent : ℕ) → t.chunk ≤ total t.pieces → SentChunks supply t ever commands checked sent → PhaseSent supply t R ever past commands checked sent (if checked then fills else begins)
first_said supply t R ever past commands true sent full s = s
first_said supply t R ever past commands false sent full s = (s.nothing refl, full)

module _ (supply : Supply) (t : PutTask) (R : Reach) (old new : Awaited) (log log' : LogTold) (wire : ℤ) (ids : ℕ → List ℕ) (drawn : ℕ) (twelve : (k : ℕ) → length (ids k) ≡ 12) (u u' : ClientUpload) (between : IsBetween u) (aim : u.aim ≡ put_aim t) (commands : List Fields) (supplied : DoingSupplied supply t ids u.sent u.doing) (calls calls' : List Call) (told : log ≡ Some calls) (told' : log' ≡ Some calls') (places ever : List ℕ) (wider : AreLastOf places (length calls) ever)
    (so : DoingSent supply t R (past_of ever (length calls) calls wire) (past_of places (length calls) calls wire) commands u.checked u.sent u.doing) (under : IsUploading old (past_of places (length calls) calls wire) u) (stands : UploadStands t old (past_of places (length calls) calls wire) u) where
  abbrev Before : Past
  Before = past_of places (length calls) calls wire

  abbrev pub Now : Past
  Now = past_of places (length calls) calls' wire

  -- all that the put heard before the poll, and behind it
  abbrev AllBefore : Past
  AllBefore = past_of ever (length calls) calls wire

  abbrev pub AllNow : Past
  AllNow = past_of ever (length calls) calls' wire

  -- why it fails
  abbrev pub W : Error → ℕ → Option ℤ → Bool → Type 0
  W = Reason places (length calls) wire log' supply t R

  all_since : length calls ≤ length calls
  all_since = omega arith

  under_at : (call : uploads.Call) (p : Phase) → u.doing ≡ busy call p → PhaseUnderway old Before u.aim p
  under_at call p is = subst (UnderwayBy old Before u.aim) is under

  stands_at : (call : uploads.Call) (p : Phase) → u.doing ≡ busy call p → PhaseStands t old Before p
  stands_at call p is = subst (λ (d : Doing). AnswersPut t (error_by d) × PutReads old Before (put_bucket t) d) is stands

  abbrev pub Behind : (List Fields → Type 0) → Type 0
  Behind P = (more : List Fields) × AddsJust log log' more × P (commands ++ more)

  nothing_more : (P : List Fields → Type 0) → SendsNothing old new log log' → P commands → Behind P
  nothing_more P quiet h = ([], just_none log log' quiet.log_same, subst P (sym (append-nil commands)) h)

  so_at : (call : uploads.Call) (p : Phase) → u.doing ≡ busy call p → PhaseSent supply t R AllBefore Before commands u.checked u.sent p
  so_at call p is = subst (DoingSent supply t R AllBefore Before commands u.checked u.sent) is so

  so_idle : u.doing ≡ idle → SentChunks supply t AllBefore commands u.checked u.sent
  so_idle is = subst (DoingSent supply t R AllBefore Before commands u.checked u.sent) is so

  -- a poll that sent nothing heard nothing
  so_still : SendsNothing old new log log' → DoingOf supply t R AllNow Now commands u
  so_still quiet = subst (λ (cs : List Call). DoingOf supply t R (past_of ever (length calls) cs wire) (past_of places (length calls) cs wire) commands u) (same_some calls calls' (sym (quiet.log_same ∙ told) ∙ told')) so

  abbrev Driven : uploads.Call → Stepped → ClientUpload → Type 0
  Driven call s left = Behind (λ l. SteppedSent supply t R AllNow Now W l left.checked left.sent call s)

  driven_so : (taken rest : List ℕ) → joined t.pieces ≡ taken ++ rest → (call : uploads.Call) → Fits call rest → MayReach t taken call R → (p : Phase) → u.doing ≡ busy call p → CutBy u taken (busy call p) → PutFlies supply t u.doing → (s : Stepped) → (d : Drives old new log log' wire ids drawn call u u' p s) → Driven call s d.left
  driven_so taken rest whole call fits reach p is cut flies s d =
      let sound = sound_on supply t old new log log' wire ids drawn u u' between aim call p is in
      steps_order supply t R ever taken rest whole call fits reach d.steps old new log log' wire ids drawn twelve (at_work u) d.left p s commands aim (bounds_doing u idle between.sound.bounds) sound.0 sound.1 (phase_doing u idle taken p cut) (subst (PutFlies supply t) is flies) calls calls' told told' places (length calls) wider all_since (so_at call p is) (subst (DoingSupplied supply t ids u.sent) is supplied) (stands_at call p is) (under_at call p is) d.does

  -- ---- a write

  module _ (bytes : List ℕ) (made : ℕ) (there : slice_get t.pieces made ≡ Some bytes) (within : made < length t.pieces) (doing : IsPutDoing u.doing made (length t.pieces)) (cut : CutBy u (taken_in u.doing t.pieces made) u.doing) (flies : PutFlies supply t u.doing) (near : (upto : ℕ) → upto * t.chunk ≤ length (joined (take (made + 1) t.pieces)) → R upto None) where
    abbrev Taken : List ℕ
    Taken = joined (take (made + 1) t.pieces)

    abbrev Rest : List ℕ
    Rest = joined (drop (made + 1) t.pieces)

    reach : (piece : ℕ) → MayReach t Taken (write piece) R
    reach piece = record { chunks = near; all = λ bad. absurd cc }

    parts : joined t.pieces ≡ Taken ++ Rest
    parts = rest_of supply t old new log log' wire ids drawn u u' between aim bytes made there within doing cut flies

    -- a full chunk is among all bytes
    has_full : u.aim.size ≤ length (u.behind ++ bytes) → IsCutAt (with_bytes bytes u) Taken 0 → t.chunk ≤ total t.pieces
    has_full full c =
        let all : total t.pieces ≡ length Taken + length Rest = sym (joined_total t.pieces) ∙ ap length parts ∙ length-append Taken Rest in
        let taken : length Taken ≡ length c.front + length (u.behind ++ bytes) = ap length c.parts ∙ length-append c.front (u.behind ++ bytes) in
        subst (λ (a : Aim). a.size ≤ total t.pieces) aim (omega (arith, all, taken, full))

    starts_so : u.doing ≡ idle → u.aim.size ≤ length (u.behind ++ bytes) → (s : Stepped) → (d : Drives old new log log' wire ids drawn (write (length bytes)) (with_bytes bytes u) u' (first_phase u) s) → Driven (write (length bytes)) s d.left
    starts_so is full s d =
        let v = at_work (with_bytes bytes u) in
        let taken_so = takes supply t old new log log' wire ids drawn u u' between aim bytes made there within doing cut flies is in
        steps_order supply t R ever Taken Rest parts (write (length bytes)) tt (reach (length bytes)) d.steps old new log log' wire ids drawn twelve v d.left (first_phase u) s commands aim (bounds_doing (with_bytes bytes u) idle (bounds_bytes bytes u between.sound.bounds)) (begun_sound v u.checked refl)
        (begun_writes (length bytes) u.checked) (first_cut v Taken u.checked (cut_doing (with_bytes bytes u) idle Taken 0 taken_so)) (first_flies supply t u.checked) calls calls' told told' places (length calls) wider all_since (first_said supply t R AllBefore Before commands u.checked u.sent (has_full full taken_so) (so_idle is)) (first_supplied supply t ids u.sent u.checked (subst (DoingSupplied supply t ids u.sent) is supplied)) (first_stands t old Before u.checked) (first_under old Before u.aim u.checked) d.does

    -- the chunks of the pieces before
    near_idle : u.doing ≡ idle → R u.sent None
    near_idle is = reach_cut t R Taken Rest (write 0) tt (reach 0) (with_bytes bytes u) aim (takes supply t old new log log' wire ids drawn u u' between aim bytes made there within doing cut flies is)

    abbrev Written : WritePoll → Type 0
    Written r = Behind (λ l. WriteSaid supply t R AllNow Now W l u' r)

    as_write : (r q : WritePoll) → r ≡ q → Written q → Written r
    as_write r q is h = subst Written (sym is) h

    write_driven : (piece : ℕ) (p : Phase) (v : ClientUpload) (s : Stepped) → (d : Drives old new log log' wire ids drawn (write piece) v u' p s) → Driven (write piece) s d.left → Written (wrote_by piece s)
    write_driven piece p v s d h = (h.0, h.1, write_said supply t R AllNow Now W (commands ++ h.0) piece d.left u' s d.behind h.2)

    pub write_order : (r : WritePoll) → Writes old new log log' wire ids drawn u u' bytes r → Written r
    write_order r (calls_of.refused refuses quiet is) = absurd (takes_write u.doing made (length t.pieces) doing within refuses)
    write_order r (calls_of.not_taken rests_so quiet is) = as_write r (wrote.Failed (plain kind.OutOfMemory)) is (nothing_more (λ l. WriteSaid supply t R AllNow Now W l u' (wrote.Failed (plain kind.OutOfMemory))) quiet.quiet (let x = chunks_at supply t R AllNow commands u.checked u.sent (near 0 (omega arith)) (near_idle rests_so) (subst (DoingSent supply t R AllNow Now commands u.checked u.sent) rests_so (so_still quiet.quiet)) in (false, (x.0, None, x.1), (calls, quiet.quiet.log_same ∙ told, put_sends.early refl (fails.not_taken refl) refl, x.2))))
    write_order r (calls_of.kept rests_so short quiet none is answer) =
        as_write r (wrote.Wrote (length bytes)) answer (nothing_more (λ l. WriteSaid supply t R AllNow Now W l u' (wrote.Wrote (length bytes))) quiet (subst (DoingOf supply t R AllNow Now commands) (sym is) (so_still quiet)))
    write_order r (calls_of.starts rests_so full s drives answer) = as_write r (wrote_by (length bytes) s) answer (write_driven (length bytes) (first_phase u) (with_bytes bytes u) s drives (starts_so rests_so full s drives))
    write_order r (calls_of.goes_on piece p is s drives answer) =
        as_write r (wrote_by piece s) answer (write_driven piece p u s drives (driven_so Taken Rest parts (write piece) tt (reach piece) p is (subst (λ (d : Doing). CutBy u (taken_in d t.pieces made) d) is cut) flies s drives))

  -- ---- a close

  module _ (made : ℕ) (all : length t.pieces ≤ made) (doing : IsPutDoing u.doing made (length t.pieces)) (cut : CutBy u (taken_in u.doing t.pieces made) u.doing) (flies : PutFlies supply t u.doing) (far : (upto : ℕ) (moment : Option ℤ) → R upto moment) where
    reach_end : MayReach t (joined t.pieces) close R
    reach_end = record { chunks = λ upto within. far upto None; all = λ is. far }

    rests_so : (moment : ℤ) → IsMoment supply.moment moment → u.doing ≡ idle → (s : Stepped) → (d : Drives old new log log' wire ids drawn close u u' (rests moment) s) → Driven close s d.left
    rests_so moment its is s d =
        let c : IsCutAt u (joined (take made t.pieces)) 0 = subst (λ (x : Doing). CutBy u (taken_in x t.pieces made) x) is cut in
        let whole : IsCutAt u (joined t.pieces) 0 = subst (λ (ps : List (List ℕ)). IsCutAt u (joined ps) 0) (take_all made t.pieces all) c in
        steps_order supply t R ever (joined t.pieces) [] (sym (append-nil (joined t.pieces))) close refl reach_end d.steps old new log log' wire ids drawn twelve (at_work u) d.left (rests moment) s commands aim (bounds_doing u idle between.sound.bounds) (subst (SoundBy u) is between.sound.by) tt (cut_doing u idle (joined t.pieces) 0 whole) tt calls calls' told told' places (length calls) wider all_since (so_idle is) (subst (DoingSupplied supply t ids u.sent) is supplied, its) (tt, tt) tt d.does

    abbrev Closed : Step2 → Type 0
    Closed r = Behind (λ l. CloseSaid supply t R AllNow Now W l u' r)

    as_close : (r q : Step2) → r ≡ q → Closed q → Closed r
    as_close r q is h = subst Closed (sym is) h

    close_driven : (p : Phase) (s : Stepped) → (d : Drives old new log log' wire ids drawn close u u' p s) → Driven close s d.left → Closed (ended_by s)
    close_driven p s d h = (h.0, h.1, close_said supply t R AllNow Now W (commands ++ h.0) d.left u' s d.behind h.2)

    pub close_order : (moment : ℤ) → IsMoment supply.moment moment → (r : Step2) → Closes old new log log' wire ids drawn moment u u' r → Closed r
    close_order moment its r (calls_of.refused refuses quiet is) = absurd (takes_close u.doing made (length t.pieces) doing refuses)
    close_order moment its r (calls_of.starts idle_so s drives answer) = as_close r (ended_by s) answer (close_driven (rests moment) s drives (rests_so moment its idle_so s drives))
    close_order moment its r (calls_of.gives_up piece p is s drives answer) = absurd (no_write supply t old new log log' wire ids drawn u u' between aim made all doing cut flies piece p is)
    close_order moment its r (calls_of.goes_on p is s drives answer) =
        as_close r (ended_by s) answer (close_driven p s drives (driven_so (joined t.pieces) [] (sym (append-nil (joined t.pieces))) close refl reach_end p is (subst (λ (d : Doing). CutBy u (taken_in d t.pieces made) d) is cut) flies s drives))
