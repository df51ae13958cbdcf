-- What a refusal says of the words and the input, by its status.
use Rattle.std.proofs.Common.{◌≡◌, ◌<◌, ◌≤◌, ◌++◌, ℕ, List, Bool, length, true, false, Option, Some, None, Result, Ok, Err, refl, sym, ap, ◌∙◌, subst, append-nil, arith}
use Rattle.std.proofs.lemmas.List.{length-append}
use Rattle.std.specs.Io.KnownBytes.{Consumes}
use Rattle.mg_link.specs.Causes.{Rose}
use Rattle.mg_link.specs.Ends.{ReadWhole, longest}
use Rattle.mg_script.specs.Plan.{Plan}
use Rattle.mg_script.specs.Script.{missing, script_of}
use Rattle.mg_script.specs.declared.fault.Place.{Place}
use Rattle.mg_program.specs.Refusals.{IsRefusalOf, IsScript, ReadMissing, ReadNoScript, ReadScript, ReadTooMuch, RefusedFor, is_run, refusal_status, short_refusal}
use Rattle.mg_program.specs.declared.refusal.RunRefusal.{RunRefusal}
use Rattle.mg_program.specs.declared.refusal.RunRefusal.TheVariants as refusals

pub not_both : (b : Bool) → b ≡ true → b ≡ false → ⊥
not_both b is other = let bad : true ≡ false = sym is ∙ other in cc

-- no refusal has the status of a sink that failed, nor that of a text that was written whole
pub never_four : (refusal : RunRefusal) → refusal_status refusal ≡ 4 → ⊥
never_four refusals.Usage is = let bad : 1 ≡ 4 = is in omega (arith, bad)
never_four refusals.ReadFault is = let bad : 2 ≡ 4 = is in omega (arith, bad)
never_four refusals.TooLong is = let bad : 7 ≡ 4 = is in omega (arith, bad)
never_four (refusals.BadScript p) is = let bad : 3 ≡ 4 = is in omega (arith, bad)
never_four (refusals.NoSuchJob n) is = let bad : 5 ≡ 4 = is in omega (arith, bad)
never_four refusals.OutOfMemory is = let bad : 6 ≡ 4 = is in omega (arith, bad)

pub never_zero : (refusal : RunRefusal) → refusal_status refusal ≡ 0 → ⊥
never_zero refusals.Usage is = let bad : 1 ≡ 0 = is in omega (arith, bad)
never_zero refusals.ReadFault is = let bad : 2 ≡ 0 = is in omega (arith, bad)
never_zero refusals.TooLong is = let bad : 7 ≡ 0 = is in omega (arith, bad)
never_zero (refusals.BadScript p) is = let bad : 3 ≡ 0 = is in omega (arith, bad)
never_zero (refusals.NoSuchJob n) is = let bad : 5 ≡ 0 = is in omega (arith, bad)
never_zero refusals.OutOfMemory is = let bad : 6 ≡ 0 = is in omega (arith, bad)

-- ---- each status

module _ (words : List (List ℕ)) (left left' : Option (List ℕ)) (faults faults' : ℕ) where
  abbrev Comes : RunRefusal → Type 0
  Comes refusal = RefusedFor words left left' faults faults' refusal

  pub refused_short : (refusal : RunRefusal) → Comes refusal → Comes (short_refusal refusal)
  refused_short refusals.Usage h = h
  refused_short refusals.ReadFault h = h
  refused_short refusals.TooLong h = h
  refused_short (refusals.BadScript p) h = h.0
  refused_short (refusals.NoSuchJob n) h = h.0
  refused_short refusals.OutOfMemory h = h

  pub usage_refused : (refusal : RunRefusal) → Comes refusal → refusal_status refusal ≡ 1 → is_run words ≡ false
  usage_refused refusals.Usage h is = h
  usage_refused refusals.ReadFault h is = let bad : 2 ≡ 1 = is in absurd (omega (arith, bad))
  usage_refused refusals.TooLong h is = let bad : 7 ≡ 1 = is in absurd (omega (arith, bad))
  usage_refused (refusals.BadScript p) h is = let bad : 3 ≡ 1 = is in absurd (omega (arith, bad))
  usage_refused (refusals.NoSuchJob n) h is = let bad : 5 ≡ 1 = is in absurd (omega (arith, bad))
  usage_refused refusals.OutOfMemory h is = let bad : 6 ≡ 1 = is in absurd (omega (arith, bad))

  pub fault_refused : (refusal : RunRefusal) → Comes refusal → refusal_status refusal ≡ 2 → Rose faults faults'
  fault_refused refusals.Usage h is = let bad : 1 ≡ 2 = is in absurd (omega (arith, bad))
  fault_refused refusals.ReadFault h is = h.1
  fault_refused refusals.TooLong h is = let bad : 7 ≡ 2 = is in absurd (omega (arith, bad))
  fault_refused (refusals.BadScript p) h is = let bad : 3 ≡ 2 = is in absurd (omega (arith, bad))
  fault_refused (refusals.NoSuchJob n) h is = let bad : 5 ≡ 2 = is in absurd (omega (arith, bad))
  fault_refused refusals.OutOfMemory h is = let bad : 6 ≡ 2 = is in absurd (omega (arith, bad))

  pub bad_refused : (refusal : RunRefusal) → Comes refusal → refusal_status refusal ≡ 3 → (p : Place) × ReadNoScript left left' p
  bad_refused refusals.Usage h is = let bad : 1 ≡ 3 = is in absurd (omega (arith, bad))
  bad_refused refusals.ReadFault h is = let bad : 2 ≡ 3 = is in absurd (omega (arith, bad))
  bad_refused refusals.TooLong h is = let bad : 7 ≡ 3 = is in absurd (omega (arith, bad))
  bad_refused (refusals.BadScript p) h is = (p, h.1)
  bad_refused (refusals.NoSuchJob n) h is = let bad : 5 ≡ 3 = is in absurd (omega (arith, bad))
  bad_refused refusals.OutOfMemory h is = let bad : 6 ≡ 3 = is in absurd (omega (arith, bad))

  pub missing_refused : (refusal : RunRefusal) → Comes refusal → refusal_status refusal ≡ 5 → (n : ℕ) × ReadMissing left left' n
  missing_refused refusals.Usage h is = let bad : 1 ≡ 5 = is in absurd (omega (arith, bad))
  missing_refused refusals.ReadFault h is = let bad : 2 ≡ 5 = is in absurd (omega (arith, bad))
  missing_refused refusals.TooLong h is = let bad : 7 ≡ 5 = is in absurd (omega (arith, bad))
  missing_refused (refusals.BadScript p) h is = let bad : 3 ≡ 5 = is in absurd (omega (arith, bad))
  missing_refused (refusals.NoSuchJob n) h is = (n, h.1)
  missing_refused refusals.OutOfMemory h is = let bad : 6 ≡ 5 = is in absurd (omega (arith, bad))

  pub long_refused : (refusal : RunRefusal) → Comes refusal → refusal_status refusal ≡ 7 → ReadTooMuch left left'
  long_refused refusals.Usage h is = let bad : 1 ≡ 7 = is in absurd (omega (arith, bad))
  long_refused refusals.ReadFault h is = let bad : 2 ≡ 7 = is in absurd (omega (arith, bad))
  long_refused refusals.TooLong h is = h.1
  long_refused (refusals.BadScript p) h is = let bad : 3 ≡ 7 = is in absurd (omega (arith, bad))
  long_refused (refusals.NoSuchJob n) h is = let bad : 5 ≡ 7 = is in absurd (omega (arith, bad))
  long_refused refusals.OutOfMemory h is = let bad : 6 ≡ 7 = is in absurd (omega (arith, bad))

  -- where the words are not `run`, that is what was refused
  pub only_usage : (refusal : RunRefusal) → Comes refusal → is_run words ≡ false → refusal_status refusal ≡ 1
  only_usage refusals.Usage h not = refl
  only_usage refusals.ReadFault h not = absurd (not_both (is_run words) h.0 not)
  only_usage refusals.TooLong h not = absurd (not_both (is_run words) h.0 not)
  only_usage (refusals.BadScript p) h not = absurd (not_both (is_run words) h.0 not)
  only_usage (refusals.NoSuchJob n) h not = absurd (not_both (is_run words) h.0 not)
  only_usage refusals.OutOfMemory h not = absurd (not_both (is_run words) h not)

-- ---- known input

all_read : (bytes read : List ℕ) (new : Option (List ℕ)) → ReadWhole (Some bytes) new read → bytes ≡ read
all_read bytes read None h = absurd h.0
all_read bytes read (Some left) h = h.0 ∙ ap (λ l. read ++ l) h.1 ∙ append-nil read

too_long : (bytes read : List ℕ) (new : Option (List ℕ)) → Consumes (Some bytes) new read → longest < length read → longest < length bytes
too_long bytes read None h long = absurd h
too_long bytes read (Some left) h long = omega (arith, long, ap length h, length-append read left)

pub is_script : (bytes : List ℕ) (new : Option (List ℕ)) (s : Plan) → ReadScript (Some bytes) new s → IsScript bytes s
is_script bytes new s h =
    let e = all_read bytes h.0 new h.1.0 in
    (subst (λ b. length b ≤ longest) (sym e) h.1.1, ap script_of e ∙ h.2)

-- what known input says of a refusal
pub refusal_decided : (words : List (List ℕ)) (bytes : List ℕ) (new : Option (List ℕ)) (before now : ℕ) (refusal : RunRefusal) → RefusedFor words (Some bytes) new before now refusal → IsRefusalOf words bytes refusal
refusal_decided words bytes new before now refusals.Usage h = h
refusal_decided words bytes new before now refusals.ReadFault h = h.0
refusal_decided words bytes new before now refusals.TooLong h = (h.0, too_long bytes h.1.0 new h.1.1 h.1.2)
refusal_decided words bytes new before now (refusals.BadScript p) h =
    let e = all_read bytes h.1.0 new h.1.1.0 in
    (h.0, subst (λ b. length b ≤ longest) (sym e) h.1.1.1, ap script_of e ∙ h.1.2)
refusal_decided words bytes new before now (refusals.NoSuchJob n) h = (h.0, (h.1.0, is_script bytes new h.1.0 h.1.1, h.1.2))
refusal_decided words bytes new before now refusals.OutOfMemory h = h

-- ---- where nothing fails

same_script : (s s' : Plan) → ◌≡◌ {A = Result Plan Place} (Ok s) (Ok s') → s ≡ s'
same_script s s' e = cc

-- of these words and bytes there is no refusal, unless a read failed or memory ran out
pub none_refused : (words : List (List ℕ)) (left left' : Option (List ℕ)) (faults faults' : ℕ) (bytes : List ℕ) (script : Plan) (refusal : RunRefusal) → is_run words ≡ true → IsScript bytes script → missing script ≡ None → (Rose faults faults' → ⊥)
    → RefusedFor words left left' faults faults' refusal → IsRefusalOf words bytes refusal → refusal_status refusal ≡ 6
none_refused words left left' faults faults' bytes script refusals.Usage asked is has quiet h of = absurd (not_both (is_run words) asked of)
none_refused words left left' faults faults' bytes script refusals.ReadFault asked is has quiet h of = absurd (quiet h.1)
none_refused words left left' faults faults' bytes script refusals.TooLong asked is has quiet h of = let short = is.0 in let long = of.1 in absurd (omega (arith, short, long))
none_refused words left left' faults faults' bytes script (refusals.BadScript p) asked is has quiet h of = let bad : Err p ≡ Ok script = sym of.2 ∙ is.1 in absurd cc
none_refused words left left' faults faults' bytes script (refusals.NoSuchJob n) asked is has quiet h of =
    let same : of.1.0 ≡ script = same_script of.1.0 script (sym of.1.1.1 ∙ is.1) in
    let bad : Some n ≡ None = sym of.1.2 ∙ (subst (λ (x : Plan). missing x ≡ None) (sym same) has) in
    absurd cc
none_refused words left left' faults faults' bytes script refusals.OutOfMemory asked is has quiet h of = refl
