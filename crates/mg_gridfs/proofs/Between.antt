-- Between two polls an upload is sound, and behind an error it has ended.
use Rattle.std.proofs.Common.{◌≡◌, ◌⊎◌, ◌<◌, ℕ, zero, suc, ℤ, List, [], length, Some, None, refl, sym, subst, inl, inr}
use Rattle.mg_link.specs.Link.{Awaited, LogTold}
use Rattle.mg_gridfs.specs.Calls.{Aborts, Closes, Drives, LeavesEnd, LeavesWrite, TakesNoClose, Writes, at_work, doing_behind, ended_by, first_phase, gives_up, gives_up_close, gives_up_write, goes_on, kept, landing_of, not_taken, refused, starts, stream_closed, with_bytes, write_in_progress, wrote_by}
use Rattle.mg_gridfs.specs.Steps.{DoesSteps, IsLastStep, Stepped, done, failed, goes, ids_behind, waits}
use Rattle.mg_gridfs.specs.Uploads as uploads
use Rattle.mg_gridfs.specs.Uploads.{ClientUpload, Doing, HasBounds, IsBetween, IsOfCall, IsSoundPhase, Phase, RestsBy, SoundBy, abort, busy, close, closed, idle, rests, undoes, write}
use Rattle.mg_gridfs.specs.declared.polls.Step2.{Step2}
use Rattle.mg_gridfs.specs.declared.polls.Step2.TheVariants as end
use Rattle.mg_gridfs.specs.declared.polls.WritePoll.{WritePoll}
use Rattle.mg_gridfs.proofs.Driving.{CallStepped, steps_kept}
use Rattle.mg_gridfs.proofs.Keeping.{IsKept}
use Rattle.mg_gridfs.proofs.Polled.{begun_sound, begun_writes, bounds_doing, landing_aborts, landing_closes, landing_sound, sound_doing}

-- a poll ends with a last step
last_step : (n : ℕ) (old new : Awaited) (log log' : LogTold) (wire : ℤ) (ids : ℕ → List ℕ) (drawn : ℕ) (u u' : ClientUpload) (p : Phase) (r : Stepped) → DoesSteps n old new log log' wire ids drawn u u' p r → IsLastStep r
unfolding DoesSteps
last_step zero old new log log' wire ids drawn u u' p r d = d.1
last_step (suc n) old new log log' wire ids drawn u u' p r d = last_step n d.0 new d.1 log' wire (ids_behind d.2 ids) d.3 d.4 u' d.5 r d.8

-- by how it ended
between_by : (call : uploads.Call) (left : ClientUpload) (s : Stepped) → IsLastStep s → IsKept left.aim left s → CallStepped call left s → IsBetween (record left { doing = doing_behind call s })
between_by call left (goes p) last kept_so stepped_so = absurd last
between_by call left (waits p) last kept_so stepped_so =
    record {
      sound = record { bounds = bounds_doing left (busy call p) kept_so.bounds; by = sound_doing left (busy call p) p kept_so.stepped_so.0 };
      rests_so = (kept_so.stepped_so.1, stepped_so);
    }
between_by (write piece) left done last kept_so stepped_so = record { sound = record { bounds = bounds_doing left idle kept_so.bounds; by = stepped_so }; rests_so = tt }
between_by close left done last kept_so stepped_so = record { sound = record { bounds = bounds_doing left closed kept_so.bounds; by = tt }; rests_so = tt }
between_by abort left done last kept_so stepped_so = record { sound = record { bounds = bounds_doing left closed kept_so.bounds; by = tt }; rests_so = tt }
between_by call left (failed e) last kept_so stepped_so = record { sound = record { bounds = bounds_doing left closed kept_so.bounds; by = tt }; rests_so = tt }

-- what stands behind a poll of a call
abbrev LeftBy : uploads.Call → ClientUpload → Stepped → Type 0
LeftBy call u' (goes p) = ⊥
LeftBy call u' (waits p) = u'.doing ≡ busy call p
LeftBy (write piece) u' done = (u'.doing ≡ idle) × (length u'.behind < u'.aim.size)
LeftBy close u' done = u'.doing ≡ closed
LeftBy abort u' done = u'.doing ≡ closed
LeftBy call u' (failed e) = u'.doing ≡ closed

left_by : (call : uploads.Call) (left : ClientUpload) (s : Stepped) → IsLastStep s → CallStepped call left s → LeftBy call (record left { doing = doing_behind call s }) s
left_by call left (goes p) last stepped_so = absurd last
left_by call left (waits p) last stepped_so = refl
left_by (write piece) left done last stepped_so = (refl, stepped_so)
left_by close left done last stepped_so = refl
left_by abort left done last stepped_so = refl
left_by call left (failed e) last stepped_so = refl

module _ (old new : Awaited) (log log' : LogTold) (wire : ℤ) (u u' : ClientUpload) (sound : IsBetween u) where
  sound_at : (d : Doing) → u.doing ≡ d → SoundBy u d
  sound_at d is = subst (SoundBy u) is sound.sound.by

  rests_at : (d : Doing) → u.doing ≡ d → RestsBy d
  rests_at d is = subst RestsBy is sound.rests_so

  -- behind all steps of a call
  abbrev Ended : uploads.Call → Stepped → Type 0
  Ended call s = IsBetween u' × LeftBy call u' s

  ended : (ids : ℕ → List ℕ) (drawn : ℕ) (call : uploads.Call) (v : ClientUpload) (p : Phase) (s : Stepped) → HasBounds (at_work v) → IsSoundPhase (at_work v) p → IsOfCall call p → Drives old new log log' wire ids drawn call v u' p s → Ended call s
  ended ids drawn call v p s bounds fits of_call d =
      let both = steps_kept d.steps call old new log log' wire ids drawn (at_work v) d.left p s bounds fits of_call d.does in
      let last = last_step d.steps old new log log' wire ids drawn (at_work v) d.left p s d.does in
      let kept_so : IsKept d.left.aim d.left s = record { bounds = both.0.bounds; stepped_so = both.0.stepped_so; same_aim = refl } in (
        subst IsBetween (sym d.behind) (between_by call d.left s last kept_so both.1),
        subst (λ (w : ClientUpload). LeftBy call w s) (sym d.behind) (left_by call d.left s last both.1),
      )

  bounds_now : HasBounds (at_work u)
  bounds_now = bounds_doing u idle sound.sound.bounds

  leaves_write : (piece : ℕ) (s : Stepped) (r : WritePoll) → r ≡ wrote_by piece s → LeftBy (write piece) u' s → LeavesWrite u u' r
  leaves_write piece (goes p) r answer left_so = absurd left_so
  leaves_write piece (waits p) r answer left_so = subst (LeavesWrite u u') (sym answer) (piece, p, left_so)
  leaves_write piece done r answer left_so = subst (LeavesWrite u u') (sym answer) left_so
  leaves_write piece (failed e) r answer left_so = subst (LeavesWrite u u') (sym answer) (inl left_so)

  leaves_close : (s : Stepped) (r : Step2) → r ≡ ended_by s → LeftBy close u' s → LeavesEnd close u u' r
  leaves_close (goes p) r answer left_so = absurd left_so
  leaves_close (waits p) r answer left_so = subst (LeavesEnd close u u') (sym answer) (p, left_so)
  leaves_close done r answer left_so = subst (LeavesEnd close u u') (sym answer) left_so
  leaves_close (failed e) r answer left_so = subst (LeavesEnd close u u') (sym answer) (inl left_so)

  leaves_abort : (s : Stepped) (r : Step2) → r ≡ ended_by s → LeftBy abort u' s → LeavesEnd abort u u' r
  leaves_abort (goes p) r answer left_so = absurd left_so
  leaves_abort (waits p) r answer left_so = subst (LeavesEnd abort u u') (sym answer) (p, left_so)
  leaves_abort done r answer left_so = subst (LeavesEnd abort u u') (sym answer) left_so
  leaves_abort (failed e) r answer left_so = subst (LeavesEnd abort u u') (sym answer) (inl left_so)

  -- ---- writes

  started : (ids : ℕ → List ℕ) (drawn : ℕ) (bytes : List ℕ) (s : Stepped) → Drives old new log log' wire ids drawn (write (length bytes)) (with_bytes bytes u) u' (first_phase u) s → Ended (write (length bytes)) s
  started ids drawn bytes s d =
      let v = with_bytes bytes u in
      let bounds : HasBounds (at_work v) = record { size = sound.sound.bounds.size; few = sound.sound.bounds.few; unchecked = sound.sound.bounds.unchecked } in
      ended ids drawn (write (length bytes)) v (first_phase u) s bounds (begun_sound (at_work v) u.checked refl) (begun_writes (length bytes) u.checked) d

  written_on : (ids : ℕ → List ℕ) (drawn piece : ℕ) (phase : Phase) (s : Stepped) → u.doing ≡ busy (write piece) phase → Drives old new log log' wire ids drawn (write piece) u u' phase s → Ended (write piece) s
  written_on ids drawn piece phase s is d = ended ids drawn (write piece) u phase s bounds_now (sound_doing u idle phase (sound_at (busy (write piece) phase) is)) (rests_at (busy (write piece) phase) is).1 d

  kept_short : (bytes : List ℕ) → u.doing ≡ idle → length (with_bytes bytes u).behind < u.aim.size → IsBetween (with_bytes bytes u)
  kept_short bytes at_rest short =
      record {
        sound = record { bounds = record { size = sound.sound.bounds.size; few = sound.sound.bounds.few; unchecked = sound.sound.bounds.unchecked }; by = subst (SoundBy (with_bytes bytes u)) (sym at_rest) short };
        rests_so = subst RestsBy (sym at_rest) tt;
      }

  pub write_between : (ids : ℕ → List ℕ) (drawn : ℕ) (bytes : List ℕ) (r : WritePoll) → Writes old new log log' wire ids drawn u u' bytes r → IsBetween u'
  write_between ids drawn bytes r (refused at_end refuses answer) = subst IsBetween (sym refuses.same) sound
  write_between ids drawn bytes r (not_taken at_rest refuses answer) = subst IsBetween (sym refuses.same) sound
  write_between ids drawn bytes r (kept at_rest short quiet none is answer) = subst IsBetween (sym is) (kept_short bytes at_rest short)
  write_between ids drawn bytes r (starts at_rest full s d answer) = (started ids drawn bytes s d).0
  write_between ids drawn bytes r (goes_on piece phase is s d answer) = (written_on ids drawn piece phase s is d).0

  pub write_leaves : (ids : ℕ → List ℕ) (drawn : ℕ) (bytes : List ℕ) (r : WritePoll) → Writes old new log log' wire ids drawn u u' bytes r → LeavesWrite u u' r
  write_leaves ids drawn bytes r (refused at_end refuses answer) = subst (LeavesWrite u u') (sym answer) (inr (refuses.same, inr (at_end, refl)))
  write_leaves ids drawn bytes r (not_taken at_rest refuses answer) = subst (LeavesWrite u u') (sym answer) (inr (refuses.same, inl (at_rest, refl)))
  write_leaves ids drawn bytes r (kept at_rest short quiet none is answer) =
      subst (LeavesWrite u u') (sym answer) (subst (λ (w : ClientUpload). (w.doing ≡ idle) × (length w.behind < w.aim.size)) (sym is) (at_rest, short))
  write_leaves ids drawn bytes r (starts at_rest full s d answer) = leaves_write (length bytes) s r answer (started ids drawn bytes s d).1
  write_leaves ids drawn bytes r (goes_on piece phase is s d answer) = leaves_write piece s r answer (written_on ids drawn piece phase s is d).1

  -- ---- closes

  closing : (ids : ℕ → List ℕ) (drawn : ℕ) (moment : ℤ) (r : Step2) → Closes old new log log' wire ids drawn moment u u' r → ((u' ≡ u) × TakesNoClose u.doing × (r ≡ end.Failed stream_closed)) ⊎ ((s : Stepped) × (r ≡ ended_by s) × Ended close s)
  closing ids drawn moment r (refused at_end refuses answer) = inl (refuses.same, at_end, answer)
  closing ids drawn moment r (starts at_rest s d answer) = inr (s, answer, ended ids drawn close u (rests moment) s bounds_now (sound_at idle at_rest) tt d)
  closing ids drawn moment r (gives_up piece phase is s d answer) =
      inr (s, answer, ended ids drawn close u (landing_of phase (Some write_in_progress)) s bounds_now (landing_sound (at_work u) phase (Some write_in_progress) (sound_doing u idle phase (sound_at (busy (write piece) phase) is))) (landing_closes phase write_in_progress) d)
  closing ids drawn moment r (goes_on phase is s d answer) = inr (s, answer, ended ids drawn close u phase s bounds_now (sound_doing u idle phase (sound_at (busy close phase) is)) (rests_at (busy close phase) is).1 d)

  pub close_between : (ids : ℕ → List ℕ) (drawn : ℕ) (moment : ℤ) (r : Step2) → Closes old new log log' wire ids drawn moment u u' r → IsBetween u'
  close_between ids drawn moment r closes = elim (closing ids drawn moment r closes) [ inl refuses ↦ subst IsBetween (sym refuses.0) sound | inr so ↦ so.2.0 ]

  pub close_leaves : (ids : ℕ → List ℕ) (drawn : ℕ) (moment : ℤ) (r : Step2) → Closes old new log log' wire ids drawn moment u u' r → LeavesEnd close u u' r
  close_leaves ids drawn moment r closes = elim (closing ids drawn moment r closes) [
    | inl refuses ↦ subst (LeavesEnd close u u') (sym refuses.2) (inr (refuses.0, refuses.1, refl))
    | inr so ↦ leaves_close so.0 r so.1 so.2.1
  ]

  -- ---- aborts

  none : ℕ → List ℕ
  none n = []

  takes_none : u.doing ≡ closed → TakesNoClose u.doing
  takes_none is = subst TakesNoClose (sym is) tt

  aborting : (r : Step2) → Aborts old new log log' wire u u' r → ((u' ≡ u) × TakesNoClose u.doing × (r ≡ end.Failed stream_closed)) ⊎ ((s : Stepped) × (r ≡ ended_by s) × Ended abort s)
  aborting r (refused at_end refuses answer) = inl (refuses.same, takes_none at_end, answer)
  aborting r (starts at_rest s d answer) = inr (s, answer, ended none 0 abort u (undoes None) s bounds_now tt tt (d none))
  aborting r (gives_up_write piece phase is s d answer) =
      inr (s, answer, ended none 0 abort u (landing_of phase None) s bounds_now (landing_sound (at_work u) phase None (sound_doing u idle phase (sound_at (busy (write piece) phase) is))) (landing_aborts phase) (d none))
  aborting r (gives_up_close phase is s d answer) =
      inr (s, answer, ended none 0 abort u (landing_of phase None) s bounds_now (landing_sound (at_work u) phase None (sound_doing u idle phase (sound_at (busy close phase) is))) (landing_aborts phase) (d none))
  aborting r (goes_on phase is s d answer) = inr (s, answer, ended none 0 abort u phase s bounds_now (sound_doing u idle phase (sound_at (busy abort phase) is)) (rests_at (busy abort phase) is).1 (d none))

  pub abort_between : (r : Step2) → Aborts old new log log' wire u u' r → IsBetween u'
  abort_between r aborts = elim (aborting r aborts) [ inl refuses ↦ subst IsBetween (sym refuses.0) sound | inr so ↦ so.2.0 ]

  pub abort_leaves : (r : Step2) → Aborts old new log log' wire u u' r → LeavesEnd abort u u' r
  abort_leaves r aborts = elim (aborting r aborts) [
    | inl refuses ↦ subst (LeavesEnd abort u u') (sym refuses.2) (inr (refuses.0, refuses.1, refl))
    | inr so ↦ leaves_abort so.0 r so.1 so.2.1
  ]
