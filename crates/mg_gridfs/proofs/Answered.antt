-- What the answers of a poll are caused by, over all its steps.
use Rattle.std.proofs.Common.{◌≡◌, ℕ, ℤ, Bool, true, false, List, [], length, Option, Some, None, refl, sym, ◌∙◌, subst, inl, inr, arith}
use Rattle.std.specs.Prelude.{if◌then◌else◌}
use Rattle.mg_server.specs.Calls.{Past, past_of}
use Rattle.mg_link.specs.Link.{Awaited, LogTold}
use Rattle.mg_link.specs.Log.{Call}
use Rattle.mg_link.specs.declared.error.Error.{Error}
use Rattle.mg_server.proofs.Calls.{same_keeps}
use Rattle.mg_server.proofs.Filed.{Grew}
use Rattle.mg_gridfs.specs.Calls.{Abandons, Aborts, Closes, Drives, Writes, at_work, doing_behind, ended_by, first_phase, gives_up, gives_up_close, gives_up_write, goes_on, kept, landing_of, not_taken, refused, starts, with_bytes, write_in_progress, wrote_by}
use Rattle.mg_gridfs.specs.Causes as causes
use Rattle.mg_gridfs.specs.Causes.{AbortCame, AbortCaused, CloseCame, CloseCaused, IsCausedFirst, IsUploading, PhaseUnderway, UnderwayBy, WriteCame, WriteCaused}
use Rattle.mg_gridfs.specs.Steps.{Stepped, done, failed, goes, waits}
use Rattle.mg_gridfs.specs.Uploads as uploads
use Rattle.mg_gridfs.specs.Uploads.{Aim, ClientUpload, Doing, HasBounds, IsBetween, IsOfCall, IsSoundPhase, Phase, RestsBy, SoundBy, abort, begins, busy, checks, close, ends, fills, idle, inserts, lands, lasts, records, removes, rests, undoes, write}
use Rattle.mg_gridfs.specs.declared.polls.Step2.{Step2}
use Rattle.mg_gridfs.specs.declared.polls.WritePoll.{WritePoll}
use Rattle.mg_gridfs.proofs.Caused.{CausedStepped, ChecksCaused, LandingsCaused, steps_caused}
use Rattle.mg_gridfs.proofs.Driving.{steps_kept}
use Rattle.mg_gridfs.proofs.Polled.{begun_sound, begun_writes, bounds_doing, landing_aborts, landing_closes, landing_sound, sound_doing}

-- a call that is given up waits for what was on its way
landing_underway : (awaited : Awaited) (past : Past) (aim : Aim) (p : Phase) (error : Option Error) → IsCausedFirst past aim error → PhaseUnderway awaited past aim p → PhaseUnderway awaited past aim (landing_of p error)
landing_underway awaited past aim begins error first h = first
landing_underway awaited past aim (checks c) error first h = (h, first)
landing_underway awaited past aim fills error first h = first
landing_underway awaited past aim (inserts s count) error first h = (h, first)
landing_underway awaited past aim (rests moment) error first h = first
landing_underway awaited past aim (lasts s ending) error first h = (h, first)
landing_underway awaited past aim (ends ending) error first h = first
landing_underway awaited past aim (records s ending) error first h = (h, first)
landing_underway awaited past aim (lands flight other) error first h = (h.0, first)
landing_underway awaited past aim (undoes other) error first h = first
landing_underway awaited past aim (removes s other) error first h = (h.0, first)

begun_underway : (awaited : Awaited) (past : Past) (aim : Aim) (t : Bool) → PhaseUnderway awaited past aim (if t then fills else begins)
begun_underway awaited past aim true = tt
begun_underway awaited past aim false = tt

module _ (checks_caused : ChecksCaused) (landings_caused : LandingsCaused) (old new : Awaited) (log log' : LogTold) (wire : ℤ) (u u' : ClientUpload) (sound : IsBetween u) where
  sound_at : (d : Doing) → u.doing ≡ d → SoundBy u d
  sound_at d is = subst (SoundBy u) is sound.sound.by

  rests_at : (d : Doing) → u.doing ≡ d → RestsBy d
  rests_at d is = subst RestsBy is sound.rests_so

  bounds_now : HasBounds (at_work u)
  bounds_now = bounds_doing u idle sound.sound.bounds

  under_at : (past : Past) (d : Doing) → u.doing ≡ d → IsUploading old past u → UnderwayBy old past u.aim d
  under_at past d is h = subst (λ (x : Doing). UnderwayBy old past u.aim x) is h

  -- all steps of a call, of an upload with this aim
  driven : (ids : ℕ → List ℕ) (drawn : ℕ) (call : uploads.Call) (v : ClientUpload) (p : Phase) (s : Stepped) (calls : List Call) (places : List ℕ) → log ≡ Some calls → HasBounds (at_work v) → IsSoundPhase (at_work v) p → IsOfCall call p → (d : Drives old new log log' wire ids drawn call v u' p s)
      → PhaseUnderway old (past_of places (length calls) calls wire) v.aim p → Grew places (length calls) calls log' wire (λ past. CausedStepped call new past v.aim s) × (d.left.aim ≡ v.aim)
  driven ids drawn call v p s calls places told bounds fits of_call d h = (
    steps_caused checks_caused landings_caused d.steps call places (length calls) wire old new log log' ids drawn (at_work v) d.left p s bounds fits of_call d.does calls told (omega arith) h,
    (steps_kept d.steps call old new log log' wire ids drawn (at_work v) d.left p s bounds fits of_call d.does).0.same_aim,
  )

  -- a call that goes on behind the poll
  goes_still : (past : Past) (call : uploads.Call) (left : ClientUpload) (p : Phase) → left.aim ≡ u.aim → u' ≡ record left { doing = busy call p } → PhaseUnderway new past u.aim p → IsUploading new past u'
  goes_still past call left p same is h = subst (IsUploading new past) (sym is) (subst (λ (a : Aim). PhaseUnderway new past a p) (sym same) h)

  write_came : (past : Past) (piece : ℕ) (left : ClientUpload) (s : Stepped) (r : WritePoll) → left.aim ≡ u.aim → u' ≡ record left { doing = doing_behind (write piece) s } → r ≡ wrote_by piece s → CausedStepped (write piece) new past u.aim s → WriteCame new past u u' r
  write_came past piece left (goes p) r same is answer h = subst (WriteCame new past u u') (sym answer) (goes_still past (write piece) left p same is h)
  write_came past piece left (waits p) r same is answer h = subst (WriteCame new past u u') (sym answer) (goes_still past (write piece) left p same is h)
  write_came past piece left done r same is answer h = subst (WriteCame new past u u') (sym answer) tt
  write_came past piece left (failed e) r same is answer h = subst (WriteCame new past u u') (sym answer) (inr h)

  close_came : (past : Past) (left : ClientUpload) (s : Stepped) (r : Step2) → left.aim ≡ u.aim → u' ≡ record left { doing = doing_behind close s } → r ≡ ended_by s → CausedStepped close new past u.aim s → CloseCame new past u u' r
  close_came past left (goes p) r same is answer h = subst (CloseCame new past u u') (sym answer) (goes_still past close left p same is h)
  close_came past left (waits p) r same is answer h = subst (CloseCame new past u u') (sym answer) (goes_still past close left p same is h)
  close_came past left done r same is answer h = subst (CloseCame new past u u') (sym answer) tt
  close_came past left (failed e) r same is answer h = subst (CloseCame new past u u') (sym answer) (inr h)

  abort_came : (past : Past) (left : ClientUpload) (s : Stepped) (r : Step2) → left.aim ≡ u.aim → u' ≡ record left { doing = doing_behind abort s } → r ≡ ended_by s → CausedStepped abort new past u.aim s → AbortCame new past u u' r
  abort_came past left (goes p) r same is answer h = subst (AbortCame new past u u') (sym answer) (goes_still past abort left p same is h)
  abort_came past left (waits p) r same is answer h = subst (AbortCame new past u u') (sym answer) (goes_still past abort left p same is h)
  abort_came past left done r same is answer h = subst (AbortCame new past u u') (sym answer) h
  abort_came past left (failed e) r same is answer h = subst (AbortCame new past u u') (sym answer) (inr h)

  -- ---- writes

  pub write_caused : (ids : ℕ → List ℕ) (drawn : ℕ) (bytes : List ℕ) (r : WritePoll) → Writes old new log log' wire ids drawn u u' bytes r → WriteCaused old new log log' wire u u' r
  write_caused ids drawn bytes r (refused at_end refuses answer) calls told places h = (calls, refuses.quiet.log_same ∙ told, same_keeps calls, subst (WriteCame new (past_of places (length calls) calls wire) u u') (sym answer) (inl (at_end, refl)))
  write_caused ids drawn bytes r (not_taken at_rest refuses answer) calls told places h = (calls, refuses.quiet.log_same ∙ told, same_keeps calls, subst (WriteCame new (past_of places (length calls) calls wire) u u') (sym answer) (inr (causes.not_taken refl)))
  write_caused ids drawn bytes r (kept at_rest short quiet none is answer) calls told places h = (calls, quiet.log_same ∙ told, same_keeps calls, subst (WriteCame new (past_of places (length calls) calls wire) u u') (sym answer) tt)
  write_caused ids drawn bytes r (starts at_rest full s d answer) calls told places h =
      let v = with_bytes bytes u in
      let bounds : HasBounds (at_work v) = record { size = sound.sound.bounds.size; few = sound.sound.bounds.few; unchecked = sound.sound.bounds.unchecked } in
      let x = driven ids drawn (write (length bytes)) v (first_phase u) s calls places told bounds (begun_sound (at_work v) u.checked refl) (begun_writes (length bytes) u.checked) d (begun_underway old (past_of places (length calls) calls wire) u.aim u.checked) in
      (x.0.0, x.0.1, x.0.2, write_came (past_of places (length calls) x.0.0 wire) (length bytes) d.left s r x.1 d.behind answer x.0.3)
  write_caused ids drawn bytes r (goes_on piece phase is s d answer) calls told places h =
      let x = driven ids drawn (write piece) u phase s calls places told bounds_now (sound_doing u idle phase (sound_at (busy (write piece) phase) is)) (rests_at (busy (write piece) phase) is).1 d (under_at (past_of places (length calls) calls wire) (busy (write piece) phase) is h) in
      (x.0.0, x.0.1, x.0.2, write_came (past_of places (length calls) x.0.0 wire) piece d.left s r x.1 d.behind answer x.0.3)

  -- ---- closes

  close_driven : (ids : ℕ → List ℕ) (drawn : ℕ) (p : Phase) (s : Stepped) (r : Step2) (calls : List Call) (places : List ℕ) → log ≡ Some calls → IsSoundPhase (at_work u) p → IsOfCall close p → Drives old new log log' wire ids drawn close u u' p s → r ≡ ended_by s → PhaseUnderway old (past_of places (length calls) calls wire) u.aim p
      → Grew places (length calls) calls log' wire (λ past. CloseCame new past u u' r)
  close_driven ids drawn p s r calls places told fits of_call d answer h =
      let x = driven ids drawn close u p s calls places told bounds_now fits of_call d h in
      (x.0.0, x.0.1, x.0.2, close_came (past_of places (length calls) x.0.0 wire) d.left s r x.1 d.behind answer x.0.3)

  pub close_caused : (ids : ℕ → List ℕ) (drawn : ℕ) (moment : ℤ) (r : Step2) → Closes old new log log' wire ids drawn moment u u' r → CloseCaused old new log log' wire u u' r
  close_caused ids drawn moment r (refused at_end refuses answer) calls told places h = (calls, refuses.quiet.log_same ∙ told, same_keeps calls, subst (CloseCame new (past_of places (length calls) calls wire) u u') (sym answer) (inl (at_end, refl)))
  close_caused ids drawn moment r (starts at_rest s d answer) calls told places h = close_driven ids drawn (rests moment) s r calls places told (sound_at idle at_rest) tt d answer tt
  close_caused ids drawn moment r (gives_up piece phase is s d answer) calls told places h =
      let error = Some write_in_progress in
      close_driven ids drawn (landing_of phase error) s r calls places told (landing_sound (at_work u) phase error (sound_doing u idle phase (sound_at (busy (write piece) phase) is))) (landing_closes phase write_in_progress) d answer
      (landing_underway old (past_of places (length calls) calls wire) u.aim phase error (inr refl) (under_at (past_of places (length calls) calls wire) (busy (write piece) phase) is h))
  close_caused ids drawn moment r (goes_on phase is s d answer) calls told places h =
      close_driven ids drawn phase s r calls places told (sound_doing u idle phase (sound_at (busy close phase) is)) (rests_at (busy close phase) is).1 d answer (under_at (past_of places (length calls) calls wire) (busy close phase) is h)

  -- ---- aborts

  none : ℕ → List ℕ
  none n = []

  abort_driven : (p : Phase) (s : Stepped) (r : Step2) (calls : List Call) (places : List ℕ) → log ≡ Some calls → IsSoundPhase (at_work u) p → IsOfCall abort p → Abandons old new log log' wire u u' p s → r ≡ ended_by s → PhaseUnderway old (past_of places (length calls) calls wire) u.aim p
      → Grew places (length calls) calls log' wire (λ past. AbortCame new past u u' r)
  abort_driven p s r calls places told fits of_call abandons answer h =
      let d = abandons none in
      let x = driven none 0 abort u p s calls places told bounds_now fits of_call d h in
      (x.0.0, x.0.1, x.0.2, abort_came (past_of places (length calls) x.0.0 wire) d.left s r x.1 d.behind answer x.0.3)

  given_up : (calls : List Call) (places : List ℕ) (phase : Phase) → PhaseUnderway old (past_of places (length calls) calls wire) u.aim phase → PhaseUnderway old (past_of places (length calls) calls wire) u.aim (landing_of phase None)
  given_up calls places phase h = landing_underway old (past_of places (length calls) calls wire) u.aim phase None tt h

  pub abort_caused : (r : Step2) → Aborts old new log log' wire u u' r → AbortCaused old new log log' wire u u' r
  abort_caused r (refused at_end refuses answer) calls told places h = (calls, refuses.quiet.log_same ∙ told, same_keeps calls, subst (AbortCame new (past_of places (length calls) calls wire) u u') (sym answer) (inl (at_end, refl)))
  abort_caused r (starts at_rest s abandons answer) calls told places h = abort_driven (undoes None) s r calls places told tt tt abandons answer tt
  abort_caused r (gives_up_write piece phase is s abandons answer) calls told places h =
      abort_driven (landing_of phase None) s r calls places told (landing_sound (at_work u) phase None (sound_doing u idle phase (sound_at (busy (write piece) phase) is))) (landing_aborts phase) abandons answer
      (given_up calls places phase (under_at (past_of places (length calls) calls wire) (busy (write piece) phase) is h))
  abort_caused r (gives_up_close phase is s abandons answer) calls told places h =
      abort_driven (landing_of phase None) s r calls places told (landing_sound (at_work u) phase None (sound_doing u idle phase (sound_at (busy close phase) is))) (landing_aborts phase) abandons answer
      (given_up calls places phase (under_at (past_of places (length calls) calls wire) (busy close phase) is h))
  abort_caused r (goes_on phase is s abandons answer) calls told places h =
      abort_driven phase s r calls places told (sound_doing u idle phase (sound_at (busy abort phase) is)) (rests_at (busy abort phase) is).1 abandons answer (under_at (past_of places (length calls) calls wire) (busy abort phase) is h)
