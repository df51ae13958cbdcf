-- When the program ends with which status, by what was told of its ending.
use Rattle.std.proofs.Common.{◌≡◌, ◌⊎◌, ◌<◌, ℕ, List, true, false, Option, None, refl, sym, ◌∙◌, subst, inl, inr, arith}
use Rattle.std.specs.Prelude.{IfSome, IsSomeAnd}
use Rattle.std.specs.Io.KnownBytes.{Appends}
use Rattle.mg_link.specs.Causes.{Rose}
use Rattle.mg_program.specs.Refusals.{EndingTold, IsRefusalTold, IsScript, ReadMissing, ReadNoScript, ReadTooMuch, is_run}
use Rattle.mg_program.specs.declared.refusal.RunRefusal.{RunRefusal}
use Rattle.mg_program.proofs.Refusals.{bad_refused, fault_refused, long_refused, missing_refused, never_zero, none_refused, not_both, only_usage, refused_short, usage_refused}
use Rattle.mg_program.proofs.Refusals as refusals
use Rattle.mg_script.specs.Plan.{Plan}
use Rattle.mg_script.specs.Script.{missing}
use Rattle.mg_script.specs.Text.{text_of}
use Rattle.mg_script.specs.declared.fault.Place.{Place}
use Rattle.mg_script.specs.declared.outcome.Run.{Run}
use Rattle.mg_jobs.specs.Program.{Caused, IsOf, IsToldAs, Ran, RunsThrough, ending_text, run_of, short_of, status_of}
use Rattle.mg_jobs.specs.declared.program.Ending.{Ending}
use Rattle.mg_jobs.specs.declared.program.Ending.TheVariants as endings
use Rattle.mg_jobs.proofs.Endings.{decided}

-- a refusal that was told is an ending that was told
pub refused_told : (refusal : RunRefusal) (status : ℕ) (taken taken' : Option (List ℕ)) (k k' : ℕ) → IsRefusalTold refusal status taken taken' k k' → IsToldAs (endings.Refused refusal) None status taken taken' k k'
refused_told refusal status taken taken' k k' (inl t) = inl (refl, t)
refused_told refusal status taken taken' k k' (inr t) = inr (refl, t)

module _ (words : List (List ℕ)) (left left' : Option (List ℕ)) (faults faults' status : ℕ) (taken taken' : Option (List ℕ)) (k k' : ℕ) where
  abbrev Comes : Ending → Type 0
  Comes ending = Caused words left left' faults faults' ending

  abbrev Says : Ending → Type 0
  Says ending = EndingTold (status_of ending) (ending_text ending) status taken taken' k k'

  -- ---- what was told

  caused_short : (ending : Ending) → Comes ending → Comes (short_of ending)
  caused_short (endings.Refused refusal) h = refused_short words left left' faults faults' refusal h
  caused_short (endings.Unprinted run) h = h
  caused_short (endings.Done run) h = h

  pub told_by : (ending : Ending) (run : Option Run) → Comes ending → IsToldAs ending run status taken taken' k k' → (told : Ending) × Comes told × (run ≡ run_of told) × Says told
  told_by ending run h (inl t) = (ending, h, t.0, t.1)
  told_by ending run h (inr t) = (short_of ending, caused_short ending h, t.0, t.1)

  -- what is told of an ending has its status, or 4
  has_status : (ending : Ending) (n : ℕ) → Says ending → status ≡ n → (n ≡ 4 → ⊥) → status_of ending ≡ n
  has_status ending n (inl t) is four = sym t.0 ∙ is
  has_status ending n (inr t) is four = absurd (four (sym is ∙ t.0))

  not_four : (n : ℕ) → n < 4 → n ≡ 4 → ⊥
  not_four n less is = omega (arith, less, is)

  over_four : (n : ℕ) → 4 < n → n ≡ 4 → ⊥
  over_four n more is = omega (arith, more, is)

  -- ---- each status

  usage_by : (ending : Ending) → Comes ending → status_of ending ≡ 1 → is_run words ≡ false
  usage_by (endings.Refused refusal) h is = usage_refused words left left' faults faults' refusal h is
  usage_by (endings.Unprinted run) h is = let bad : 6 ≡ 1 = is in absurd (omega (arith, bad))
  usage_by (endings.Done run) h is = let bad : 0 ≡ 1 = is in absurd (omega (arith, bad))

  pub usage_so : (ending : Ending) → Comes ending → Says ending → status ≡ 1 → is_run words ≡ false
  usage_so ending h t is = usage_by ending h (has_status ending 1 t is (not_four 1 (omega arith)))

  read_by : (ending : Ending) → Comes ending → status_of ending ≡ 2 → Rose faults faults'
  read_by (endings.Refused refusal) h is = fault_refused words left left' faults faults' refusal h is
  read_by (endings.Unprinted run) h is = let bad : 6 ≡ 2 = is in absurd (omega (arith, bad))
  read_by (endings.Done run) h is = let bad : 0 ≡ 2 = is in absurd (omega (arith, bad))

  pub read_so : (ending : Ending) → Comes ending → Says ending → status ≡ 2 → Rose faults faults'
  read_so ending h t is = read_by ending h (has_status ending 2 t is (not_four 2 (omega arith)))

  script_by : (ending : Ending) → Comes ending → status_of ending ≡ 3 → (p : Place) × ReadNoScript left left' p
  script_by (endings.Refused refusal) h is = bad_refused words left left' faults faults' refusal h is
  script_by (endings.Unprinted run) h is = let bad : 6 ≡ 3 = is in absurd (omega (arith, bad))
  script_by (endings.Done run) h is = let bad : 0 ≡ 3 = is in absurd (omega (arith, bad))

  pub script_so : (ending : Ending) → Comes ending → Says ending → status ≡ 3 → (p : Place) × ReadNoScript left left' p
  script_so ending h t is = script_by ending h (has_status ending 3 t is (not_four 3 (omega arith)))

  missing_by : (ending : Ending) → Comes ending → status_of ending ≡ 5 → (n : ℕ) × ReadMissing left left' n
  missing_by (endings.Refused refusal) h is = missing_refused words left left' faults faults' refusal h is
  missing_by (endings.Unprinted run) h is = let bad : 6 ≡ 5 = is in absurd (omega (arith, bad))
  missing_by (endings.Done run) h is = let bad : 0 ≡ 5 = is in absurd (omega (arith, bad))

  pub missing_so : (ending : Ending) → Comes ending → Says ending → status ≡ 5 → (n : ℕ) × ReadMissing left left' n
  missing_so ending h t is = missing_by ending h (has_status ending 5 t is (over_four 5 (omega arith)))

  long_by : (ending : Ending) → Comes ending → status_of ending ≡ 7 → ReadTooMuch left left'
  long_by (endings.Refused refusal) h is = long_refused words left left' faults faults' refusal h is
  long_by (endings.Unprinted run) h is = let bad : 6 ≡ 7 = is in absurd (omega (arith, bad))
  long_by (endings.Done run) h is = let bad : 0 ≡ 7 = is in absurd (omega (arith, bad))

  pub long_so : (ending : Ending) → Comes ending → Says ending → status ≡ 7 → ReadTooMuch left left'
  long_so ending h t is = long_by ending h (has_status ending 7 t is (over_four 7 (omega arith)))

  never_four : (ending : Ending) → status_of ending ≡ 4 → ⊥
  never_four (endings.Refused refusal) is = refusals.never_four refusal is
  never_four (endings.Unprinted run) is = let bad : 6 ≡ 4 = is in omega (arith, bad)
  never_four (endings.Done run) is = let bad : 0 ≡ 4 = is in omega (arith, bad)

  pub write_so : (ending : Ending) → Says ending → status ≡ 4 → Rose k k'
  write_so ending (inl t) is = absurd (never_four ending (sym t.0 ∙ is))
  write_so ending (inr t) is = t.1

  pub refused_so : (ending : Ending) → Comes ending → Says ending → is_run words ≡ false → (status ≡ 1) ⊎ (status ≡ 4)
  refused_so (endings.Refused refusal) h (inl t) not = inl (t.0 ∙ only_usage words left left' faults faults' refusal h not)
  refused_so (endings.Refused refusal) h (inr t) not = inr t.0
  refused_so (endings.Unprinted run) h t not = absurd (not_both (is_run words) h.0 not)
  refused_so (endings.Done run) h t not = absurd (not_both (is_run words) h.0 not)

  ran_so : (ending : Ending) → Comes ending → IfSome (run_of ending) (λ r. Ran left left' r)
  ran_so (endings.Refused refusal) h = tt
  ran_so (endings.Unprinted run) h = h.1
  ran_so (endings.Done run) h = h.1

  pub run_so : (ending : Ending) (run : Option Run) → run ≡ run_of ending → Comes ending → IfSome run (λ r. Ran left left' r)
  run_so ending run is h = subst (λ (o : Option Run). IfSome o (λ r. Ran left left' r)) (sym is) (ran_so ending h)

  text_so : (ending : Ending) → Says ending → status ≡ 0 → status_of ending ≡ 0 → IsSomeAnd (run_of ending) (λ r. Appends taken taken' (text_of r))
  text_so (endings.Refused refusal) t zero is = absurd (never_zero refusal is)
  text_so (endings.Unprinted run) t zero is = let bad : 6 ≡ 0 = is in absurd (omega (arith, bad))
  text_so (endings.Done run) (inl t) zero is = t.1
  text_so (endings.Done run) (inr t) zero is = let bad : 4 ≡ 0 = sym t.0 ∙ zero in absurd (omega (arith, bad))

  pub whole_so : (ending : Ending) (run : Option Run) → run ≡ run_of ending → Says ending → status ≡ 0 → IsSomeAnd run (λ r. Appends taken taken' (text_of r))
  whole_so ending run is t zero = subst (λ (o : Option Run). IsSomeAnd o (λ r. Appends taken taken' (text_of r))) (sym is) (text_so ending t zero (has_status ending 0 t zero (not_four 0 (omega arith))))

  -- ---- where nothing fails

  -- no other ending is of these words and bytes, and told so
  through : (bytes : List ℕ) (script : Plan) (ending : Ending) → is_run words ≡ true → IsScript bytes script → missing script ≡ None → (Rose faults faults' → ⊥) → Comes ending → IsOf words bytes ending → status ≡ status_of ending → (status ≡ 0) ⊎ (status ≡ 6)
  through bytes script (endings.Refused refusal) asked is has quiet h of s = inr (s ∙ none_refused words left left' faults faults' bytes script refusal asked is has quiet h of)
  through bytes script (endings.Unprinted run) asked is has quiet h of s = inr s
  through bytes script (endings.Done run) asked is has quiet h of s = inl s

  pub through_so : (ending : Ending) → Comes ending → Says ending → RunsThrough words left faults faults' k k' status
  through_so ending h (inr t) asked quiet heard = absurd (heard t.1)
  through_so ending h (inl t) asked quiet heard =
      let bytes = asked.1.0 in
      let known = asked.1.1 in
      let script = asked.1.2.0 in
      let of = decided words bytes left' faults faults' ending (subst (λ (l : Option (List ℕ)). Caused words l left' faults faults' ending) known h) in
      through bytes script ending asked.0 asked.1.2.1 asked.1.2.2 quiet h of t.0
