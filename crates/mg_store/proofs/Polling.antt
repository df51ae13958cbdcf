-- A link in memory stays honest where its calls are polled.
use Rattle.std.proofs.Common.{◌≡◌, ◌⊎◌, ℕ, zero, suc, ◌+◌, ◌<◌, ◌≤◌, List, [], ◌∷◌, length, map, Option, Some, None, option_map, refl, sym, ap, ◌∙◌, subst, inl, inr, arith}
use Rattle.std.specs.Prelude.{slice_get, slice_set, IsSome, string_bytes}
use Rattle.std.proofs.lemmas.Bool.{cases_eq}
use Rattle.mg_bson.specs.Tree.{Fields}
use Rattle.mg_link.specs.Causes.{Rose, RoseJust}
use Rattle.mg_server.specs.History.{Step}
use Rattle.mg_server.specs.Kept.{Kept, steps_of}
use Rattle.mg_link.specs.Link.{ComesAtOnce, Ends, OneMoreAt, PollMeans, PollPends, SamePolls, StaysPrompt}
use Rattle.mg_link.specs.Log.{Sight, waiting, reply, fault, memory, Call, see}
use Rattle.mg_link.specs.Places.{out_at, polls_in, IsAnswer}
use Rattle.mg_server.specs.Rules.{refusal}
use Rattle.mg_server.specs.Standing.{Stands, SeenFits}
use Rattle.mg_link.specs.declared.link.Polled.{Polled}
use Rattle.mg_link.specs.declared.link.Polled.TheVariants as polled
use Rattle.mg_link.proofs.Outs.{is_waiting, ends_at, length-see, polled_once_more}
use Rattle.mg_store.specs.InMemory.{fate_at, TookStep, by_rules, TookAs, reply_at, coming, SeesWhatComes, PendedAs, fault_by, faults_in, pends_in, one_more, pended_after, Comes, IsPromptLink}
use Rattle.mg_store.specs.Sending.{pended_of, IsKept, Honest, Pends, Answered, PolledAt}
use Rattle.mg_store.specs.declared.fate.Fate.{Fate}
use Rattle.mg_store.specs.declared.fate.FateKind.{FateKind}
use Rattle.mg_store.specs.declared.fate.FateKind.TheVariants as kinds
use Rattle.mg_store.specs.declared.link.Wait.{Wait}
use Rattle.mg_store.proofs.Sending.{get-steps}
use Rattle.mg_store.proofs.Standing.{same_some, get_seam, get_see_here, length-set, see_old, stands_see}
use Rattle.mg_link.proofs.Places.{get_set_other, get_set_same}

-- ---- what comes

-- it is the reply of the step at the call's position
coming_there : (kind : FateKind) (history : List Kept) (position : Option ℕ) (given : List ℕ) → coming kind history position ≡ Some given → reply_at history position ≡ Some given
coming_there kinds.Keep history position given h = h
coming_there kinds.Lose history position given h = cc
coming_there kinds.Drop history position given h = cc
coming_there (kinds.Refuse code labels) history position given h = h

reply_of : (o : Option Kept) (kept : Kept) (given : List ℕ) → o ≡ Some kept → option_map (λ (k : Kept). k.reply) o ≡ Some given → given ≡ kept.reply
reply_of o kept given there is = same_some given kept.reply (sym is ∙ ap (option_map (λ (k : Kept). k.reply)) there)

reply_fits : (history : List Kept) (position : Option ℕ) (given : List ℕ) (p : ℕ) (step : Step) → reply_at history position ≡ Some given → position ≡ Some p → slice_get (steps_of history) p ≡ Some step → given ≡ step.reply
reply_fits history position given p step is placed there =
    let kept = get-steps history p step there in
    reply_of (slice_get history p) kept.0 given kept.1 (sym (ap (reply_at history) placed) ∙ is) ∙ kept.2

reply_placed : (history : List Kept) (position : Option ℕ) (given : List ℕ) → reply_at history position ≡ Some given → (p : ℕ) × (position ≡ Some p)
reply_placed history None given is = cc
reply_placed history (Some p) given is = (p, refl)

step_reply : (document : List Kept → Fields) (history : List Kept) (command : List ℕ) (position : Option ℕ) → TookStep document history command position → (given : List ℕ) × (reply_at history position ≡ Some given)
step_reply document history command position t = (
  t.given,
  ap (reply_at history) t.placed ∙ ap (λ h. reply_at h (Some (length t.before))) t.these ∙ ap (option_map (λ (k : Kept). k.reply)) (get_seam t.before t.later (record { command = command; reply = t.given })),
)

-- where it comes at all there is one
comes_there : (kind : FateKind) (history : List Kept) (command : List ℕ) (position : Option ℕ) → Comes kind → TookAs kind history command position → (given : List ℕ) × (coming kind history position ≡ Some given)
comes_there kinds.Keep history command position c t = step_reply (by_rules command) history command position t
comes_there kinds.Lose history command position c t = absurd c
comes_there kinds.Drop history command position c t = absurd c
comes_there (kinds.Refuse code labels) history command position c t = step_reply (λ before. refusal code (map string_bytes labels.items)) history command position t

-- ---- a poll that pended

module _ (history : List Kept) (fates : List Fate) (calls calls' : List Call) (waits waits' : List Wait) (at : ℕ) (out : IsSome (out_at calls at)) (honest : Honest history calls waits fates) (h : Pends (fate_at fates at).pend waits waits' calls calls' at) where
  abbrev counted_on : Wait
  counted_on = record { pended = h.wait.pended + 1; reply = h.wait.reply }

  pends_kept : (call : Call) → slice_get calls at ≡ Some call → IsKept history (fate_at fates at) call counted_on
  pends_kept call found =
      let w = is_waiting calls at out in
      let waiting_is : call.seen ≡ waiting = ap (λ (c : Call). c.seen) (same_some call w.call (sym found ∙ w.found)) ∙ w.waits in
      let old = honest.each at call h.wait found h.found in
      let early = h.early in
      record {
        as_fate = record {
          took = old.as_fate.took;
          sees = old.as_fate.sees;
          pends = subst (λ s. PendedAs (fate_at fates at).pend (h.wait.pended + 1) s) (sym waiting_is) (omega arith);
        };
        comes = old.comes;
      }

  pends_each : (k : ℕ) (call : Call) (wait : Wait) → slice_get calls k ≡ Some call → slice_get (slice_set waits at counted_on) k ≡ Some wait → IsKept history (fate_at fates k) call wait
  pends_each k call wait found found' =
      elim (cases_eq k at) [
        | inl e ↦
            let same : counted_on ≡ wait = same_some counted_on wait (sym (get_set_same waits at h.wait counted_on h.found) ∙ subst (λ n. slice_get (slice_set waits at counted_on) n ≡ Some wait) e found') in
            subst (λ n. IsKept history (fate_at fates n) call wait) (sym e) (subst (λ w. IsKept history (fate_at fates at) call w) same (pends_kept call (subst (λ n. slice_get calls n ≡ Some call) e found)))
        | inr ne ↦ honest.each k call wait found (get_set_other waits at k wait counted_on ne found')
      ]

  pub honest_pends : Honest history calls' waits' fates
  honest_pends = record {
    small = honest.small;
    counted = ap length h.waits_are ∙ length-set waits at counted_on ∙ honest.counted ∙ ap length (sym h.calls_are);
    stands = subst (λ l. Stands l (steps_of history)) (sym h.calls_are) honest.stands;
    each = λ k call wait found found'. pends_each k call wait (ap (λ l. slice_get l k) (sym h.calls_are) ∙ found) (ap (λ l. slice_get l k) (sym h.waits_are) ∙ found');
  }

-- ---- a poll that answered

fits_by : (kind : FateKind) (history : List Kept) (position : Option ℕ) (come : Option (List ℕ)) (seen : Sight) (p : ℕ) (step : Step) → coming kind history position ≡ come → SeesWhatComes come seen → position ≡ Some p → slice_get (steps_of history) p ≡ Some step → SeenFits seen step.reply
fits_by kind history position come waiting p step is sees placed there = tt
fits_by kind history position (Some given) (reply bytes) p step is sees placed there = sees ∙ reply_fits history position given p step (coming_there kind history position given is) placed there
fits_by kind history position None (reply bytes) p step is sees placed there = absurd sees
fits_by kind history position come fault p step is sees placed there = tt
fits_by kind history position come memory p step is sees placed there = tt

placed_by : (kind : FateKind) (history : List Kept) (position : Option ℕ) (come : Option (List ℕ)) (seen : Sight) (bytes : List ℕ) → coming kind history position ≡ come → SeesWhatComes come seen → seen ≡ reply bytes → (p : ℕ) × (position ≡ Some p)
placed_by kind history position come waiting bytes is sees heard = cc
placed_by kind history position (Some given) (reply b) bytes is sees heard = reply_placed history position given (coming_there kind history position given is)
placed_by kind history position None (reply b) bytes is sees heard = absurd sees
placed_by kind history position come fault bytes is sees heard = cc
placed_by kind history position come memory bytes is sees heard = cc

pended_by : (pend n : ℕ) (seen : Sight) → IsAnswer seen → n ≡ pend → PendedAs pend n seen
pended_by pend n waiting answer e = absurd answer
pended_by pend n (reply bytes) answer e = e
pended_by pend n fault answer e = e
pended_by pend n memory answer e = e

no_more : (seen : Sight) → IsAnswer seen → seen ≡ waiting → ⊥
no_more waiting answer e = answer
no_more (reply bytes) answer e = cc
no_more fault answer e = cc
no_more memory answer e = cc

module _ (history : List Kept) (fates : List Fate) (calls calls' : List Call) (waits waits' : List Wait) (at : ℕ) (come : Option (List ℕ)) (seen : Sight) (answer : IsAnswer seen) (sees : SeesWhatComes come seen) (out : IsSome (out_at calls at)) (honest : Honest history calls waits fates) (h : Answered (fate_at fates at).pend waits waits' calls calls' at come seen) where
  was_waiting : (call : Call) → slice_get calls at ≡ Some call → call.seen ≡ waiting
  was_waiting call found = let w = is_waiting calls at out in ap (λ (c : Call). c.seen) (same_some call w.call (sym found ∙ w.found)) ∙ w.waits

  -- what came is what was to come
  came : (call : Call) → slice_get calls at ≡ Some call → coming (fate_at fates at).kind history call.position ≡ come
  came call found = sym ((honest.each at call h.wait found h.found).comes (was_waiting call found)) ∙ h.come_is

  abbrev ended : Wait
  ended = record { pended = h.wait.pended; reply = None }

  answered_kept : (call : Call) → slice_get calls at ≡ Some call → IsKept history (fate_at fates at) (record call { seen = seen }) ended
  answered_kept call found =
      let old = honest.each at call h.wait found h.found in
      let before : h.wait.pended ≤ (fate_at fates at).pend = subst (λ s. PendedAs (fate_at fates at).pend h.wait.pended s) (was_waiting call found) old.as_fate.pends in
      let due = h.due in
      record {
        as_fate = record {
          took = old.as_fate.took;
          sees = subst (λ c. SeesWhatComes c seen) (sym (came call found)) sees;
          pends = pended_by (fate_at fates at).pend h.wait.pended seen answer (omega arith);
        };
        comes = λ w. absurd (no_more seen answer w);
      }

  kept_here : (call : Call) (wait : Wait) (d : Call) → slice_get calls at ≡ Some d → call ≡ record d { seen = seen } → slice_get (slice_set waits at ended) at ≡ Some wait → IsKept history (fate_at fates at) call wait
  kept_here call wait d found is found' =
      let same : ended ≡ wait = same_some ended wait (sym (get_set_same waits at h.wait ended h.found) ∙ found') in
      subst (λ c. IsKept history (fate_at fates at) c wait) (sym is) (subst (λ w. IsKept history (fate_at fates at) (record d { seen = seen }) w) same (answered_kept d found))

  kept_either : (k : ℕ) (call : Call) (wait : Wait) → slice_get (see at seen calls) k ≡ Some call → slice_get (slice_set waits at ended) k ≡ Some wait → (k ≡ at) ⊎ (k ≡ at → ⊥) → IsKept history (fate_at fates k) call wait
  kept_either k call wait found found' (inl e) =
      let here : slice_get (see at seen calls) at ≡ Some call = subst (λ n. slice_get (see at seen calls) n ≡ Some call) e found in
      let w = is_waiting calls at out in
      let is : call ≡ record w.call { seen = seen } = same_some call (record w.call { seen = seen }) (sym here ∙ get_see_here at seen calls w.call w.found) in
      subst (λ n. IsKept history (fate_at fates n) call wait) (sym e) (kept_here call wait w.call w.found is (subst (λ n. slice_get (slice_set waits at ended) n ≡ Some wait) e found'))
  kept_either k call wait found found' (inr ne) =
      elim (see_old at seen calls k call found) [
        | inl old ↦ honest.each k call wait old (get_set_other waits at k wait ended ne found')
        | inr new ↦ absurd (ne new.0)
      ]

  answered_stands : Stands (see at seen calls) (steps_of history)
  answered_stands = stands_see at seen calls (steps_of history)
      (λ d p step found placed there. fits_by (fate_at fates at).kind history d.position come seen p step (came d found) sees placed there)
      (λ d bytes found heard. placed_by (fate_at fates at).kind history d.position come seen bytes (came d found) sees heard)
      honest.stands

  pub honest_answered : Honest history calls' waits' fates
  honest_answered = record {
    small = honest.small;
    counted = ap length h.waits_are ∙ length-set waits at ended ∙ honest.counted ∙ sym (length-see at seen calls) ∙ ap length (sym h.calls_are);
    stands = subst (λ l. Stands l (steps_of history)) (sym h.calls_are) answered_stands;
    each = λ k call wait found found'. kept_either k call wait (ap (λ l. slice_get l k) (sym h.calls_are) ∙ found) (ap (λ l. slice_get l k) (sym h.waits_are) ∙ found') (cases_eq k at);
  }

-- ---- what a poll does, for each answer

-- it keeps the link honest
pub honest_polled : (history : List Kept) (fates : List Fate) (calls calls' : List Call) (waits waits' : List Wait) (at : ℕ) (result : Polled) → IsSome (out_at calls at) → Honest history calls waits fates → PolledAt result (fate_at fates at).pend waits waits' calls calls' at → Honest history calls' waits' fates
honest_polled history fates calls calls' waits waits' at (polled.Pending given) out honest h = honest_pends history fates calls calls' waits waits' at out honest h.1
honest_polled history fates calls calls' waits waits' at (polled.Reply bytes) out honest h = honest_answered history fates calls calls' waits waits' at (Some bytes.items) (reply bytes.items) tt refl out honest h
honest_polled history fates calls calls' waits waits' at polled.Failed out honest h = honest_answered history fates calls calls' waits waits' at None fault tt tt out honest h
honest_polled history fates calls calls' waits waits' at polled.Memory out honest h = honest_answered history fates calls calls' waits waits' at (Some h.0) memory tt tt out honest h.1

ends_by : (pend : ℕ) (calls calls' : List Call) (waits waits' : List Wait) (at : ℕ) (come : Option (List ℕ)) (seen : Sight) → IsAnswer seen → IsSome (out_at calls at) → Answered pend waits waits' calls calls' at come seen → Ends (out_at calls) (out_at calls') (Some calls) (Some calls') at seen
ends_by pend calls calls' waits waits' at come seen answer out h = subst (λ l. Ends (out_at calls) (out_at l) (Some calls) (Some l) at seen) (sym h.calls_are) (ends_at calls at seen out answer)

-- it means what a poll of a link means
pub means_polled : (pend : ℕ) (calls calls' : List Call) (waits waits' : List Wait) (at : ℕ) (result : Polled) → IsSome (out_at calls at) → PolledAt result pend waits waits' calls calls' at → PollMeans (out_at calls) (out_at calls') (Some calls) (Some calls') at result
means_polled pend calls calls' waits waits' at (polled.Pending given) out h = record { same = h.0; rest = λ m. ap (λ l. out_at l m) h.1.calls_are; log_same = ap Some h.1.calls_are }
means_polled pend calls calls' waits waits' at (polled.Reply bytes) out h = ends_by pend calls calls' waits waits' at (Some bytes.items) (reply bytes.items) tt out h
means_polled pend calls calls' waits waits' at polled.Failed out h = ends_by pend calls calls' waits waits' at None fault tt out h
means_polled pend calls calls' waits waits' at polled.Memory out h = ends_by pend calls calls' waits waits' at (Some h.0) memory tt out h.1

-- ---- the counts

faults_see : (k : ℕ) (seen : Sight) (calls : List Call) (call : Call) → slice_get calls k ≡ Some call → faults_in (see k seen calls) + fault_by call.seen ≡ faults_in calls + fault_by seen
faults_see k seen [] call h = cc
faults_see zero seen (c ∷ calls) call h = let e = ap (λ (d : Call). fault_by d.seen) (same_some c call h) in omega arith
faults_see (suc k) seen (c ∷ calls) call h = let e = faults_see k seen calls call h in omega arith

-- a call that waited has seen this
faults_answered : (pend : ℕ) (calls calls' : List Call) (waits waits' : List Wait) (at : ℕ) (come : Option (List ℕ)) (seen : Sight) → IsSome (out_at calls at) → Answered pend waits waits' calls calls' at come seen → faults_in calls' ≡ faults_in calls + fault_by seen
faults_answered pend calls calls' waits waits' at come seen out h =
    let w = is_waiting calls at out in
    let e = faults_see at seen calls w.call w.found in
    let z : fault_by w.call.seen ≡ 0 = ap fault_by w.waits in
    let a = ap faults_in h.calls_are in
    omega arith

pended_same : (waits : List Wait) (at : ℕ) (w : Wait) → slice_get waits at ≡ Some w → pended_of (slice_set waits at (record { pended = w.pended; reply = None })) ≡ pended_of waits
pended_same [] at w h = cc
pended_same (v ∷ waits) zero w h = ap (λ (x : Wait). x.pended ∷ pended_of waits) (sym (same_some v w h))
pended_same (v ∷ waits) (suc at) w h = ap (λ l. v.pended ∷ l) (pended_same waits at w h)

pended_more : (waits : List Wait) (at : ℕ) (w : Wait) → slice_get waits at ≡ Some w → pended_of (slice_set waits at (record { pended = w.pended + 1; reply = w.reply })) ≡ one_more at (pended_of waits)
pended_more [] at w h = cc
pended_more (v ∷ waits) zero w h = ap (λ (x : Wait). (x.pended + 1) ∷ pended_of waits) (sym (same_some v w h))
pended_more (v ∷ waits) (suc at) w h = ap (λ l. v.pended ∷ l) (pended_more waits at w h)

pended_answered : (pend : ℕ) (calls calls' : List Call) (waits waits' : List Wait) (at : ℕ) (come : Option (List ℕ)) (seen : Sight) → Answered pend waits waits' calls calls' at come seen → pended_of waits' ≡ pended_of waits
pended_answered pend calls calls' waits waits' at come seen h = ap pended_of h.waits_are ∙ pended_same waits at h.wait h.found

-- the polls that pended are counted, each at its call
pub pended_polled : (pend : ℕ) (calls calls' : List Call) (waits waits' : List Wait) (at : ℕ) (result : Polled) → PolledAt result pend waits waits' calls calls' at → pended_of waits' ≡ pended_after result at (pended_of waits)
pended_polled pend calls calls' waits waits' at (polled.Pending given) h = ap pended_of h.1.waits_are ∙ pended_more waits at h.1.wait h.1.found
pended_polled pend calls calls' waits waits' at (polled.Reply bytes) h = pended_answered pend calls calls' waits waits' at (Some bytes.items) (reply bytes.items) h
pended_polled pend calls calls' waits waits' at polled.Failed h = pended_answered pend calls calls' waits waits' at None fault h
pended_polled pend calls calls' waits waits' at polled.Memory h = pended_answered pend calls calls' waits waits' at (Some h.0) memory h.1

get_pended : (waits : List Wait) (at : ℕ) (w : Wait) → slice_get waits at ≡ Some w → slice_get (pended_of waits) at ≡ Some w.pended
get_pended [] at w h = cc
get_pended (v ∷ waits) zero w h = ap (λ (x : Wait). Some x.pended) (same_some v w h)
get_pended (v ∷ waits) (suc at) w h = get_pended waits at w h

set_pended : (waits : List Wait) (at : ℕ) (w : Wait) → pended_of (slice_set waits at w) ≡ slice_set (pended_of waits) at w.pended
set_pended [] at w = refl
set_pended (v ∷ waits) zero w = refl
set_pended (v ∷ waits) (suc at) w = ap (λ l. v.pended ∷ l) (set_pended waits at w)

pended_set : (pend : ℕ) (calls calls' : List Call) (waits waits' : List Wait) (at given : ℕ) → (h : PolledAt (polled.Pending given) pend waits waits' calls calls' at) → pended_of waits' ≡ slice_set (pended_of waits) at (h.1.wait.pended + 1)
pended_set pend calls calls' waits waits' at given h = ap pended_of h.1.waits_are ∙ set_pended waits at (record { pended = h.1.wait.pended + 1; reply = h.1.wait.reply })

pends_more : (waits : List Wait) (at : ℕ) (w : Wait) → slice_get waits at ≡ Some w → pends_in (one_more at (pended_of waits)) ≡ pends_in (pended_of waits) + 1
pends_more [] at w h = cc
pends_more (v ∷ waits) zero w h = omega arith
pends_more (v ∷ waits) (suc at) w h = let e = pends_more waits at w h in omega arith

pends_rise : (pend : ℕ) (calls calls' : List Call) (waits waits' : List Wait) (at given : ℕ) → PolledAt (polled.Pending given) pend waits waits' calls calls' at → pends_in (pended_of waits') ≡ pends_in (pended_of waits) + 1
pends_rise pend calls calls' waits waits' at given h = ap pends_in (pended_polled pend calls calls' waits waits' at (polled.Pending given) h) ∙ pends_more waits at h.1.wait h.1.found

rose_more : (before now : ℕ) → now ≡ before + 1 → RoseJust 1 before now
rose_more before now e = (omega arith, omega arith)

same_polls : (pended pended' : List ℕ) → pended' ≡ pended → SamePolls (polls_in pended) (polls_in pended')
same_polls pended pended' e place = ap (λ l. polls_in l place) e

pub pends_polled : (pend : ℕ) (calls calls' : List Call) (waits waits' : List Wait) (at : ℕ) (result : Polled) → PolledAt result pend waits waits' calls calls' at → PollPends result (out_at calls at) (pends_in (pended_of waits)) (pends_in (pended_of waits')) (polls_in (pended_of waits)) (polls_in (pended_of waits'))
pends_polled pend calls calls' waits waits' at (polled.Pending given) h = (
  rose_more (pends_in (pended_of waits)) (pends_in (pended_of waits')) (pends_rise pend calls calls' waits waits' at given h),
  subst (λ l. OneMoreAt (out_at calls at) (polls_in (pended_of waits)) (polls_in l)) (sym (pended_set pend calls calls' waits waits' at given h)) (polled_once_more calls (pended_of waits) at h.1.wait.pended (get_pended waits at h.1.wait h.1.found)),
)
pends_polled pend calls calls' waits waits' at (polled.Reply bytes) h = let e = pended_polled pend calls calls' waits waits' at (polled.Reply bytes) h in (ap pends_in e, same_polls (pended_of waits) (pended_of waits') e)
pends_polled pend calls calls' waits waits' at polled.Failed h = let e = pended_polled pend calls calls' waits waits' at polled.Failed h in (ap pends_in e, same_polls (pended_of waits) (pended_of waits') e)
pends_polled pend calls calls' waits waits' at polled.Memory h = let e = pended_polled pend calls calls' waits waits' at polled.Memory h in (ap pends_in e, same_polls (pended_of waits) (pended_of waits') e)

pub pends_later : (pend : ℕ) (calls calls' : List Call) (waits waits' : List Wait) (at : ℕ) (result : Polled) → PolledAt result pend waits waits' calls calls' at → pends_in (pended_of waits) ≤ pends_in (pended_of waits')
pends_later pend calls calls' waits waits' at (polled.Pending given) h = let e = pends_rise pend calls calls' waits waits' at given h in omega arith
pends_later pend calls calls' waits waits' at (polled.Reply bytes) h = let e = (pends_polled pend calls calls' waits waits' at (polled.Reply bytes) h).0 in omega arith
pends_later pend calls calls' waits waits' at polled.Failed h = let e = (pends_polled pend calls calls' waits waits' at polled.Failed h).0 in omega arith
pends_later pend calls calls' waits waits' at polled.Memory h = let e = (pends_polled pend calls calls' waits waits' at polled.Memory h).0 in omega arith

-- one fault more where it failed
abbrev fault_of : Polled → ℕ
fault_of (polled.Pending given) = 0
fault_of (polled.Reply bytes) = 0
fault_of polled.Failed = 1
fault_of polled.Memory = 0

faults_polled : (pend : ℕ) (calls calls' : List Call) (waits waits' : List Wait) (at : ℕ) (result : Polled) → IsSome (out_at calls at) → PolledAt result pend waits waits' calls calls' at → faults_in calls' ≡ faults_in calls + fault_of result
faults_polled pend calls calls' waits waits' at (polled.Pending given) out h = let e = ap faults_in h.1.calls_are in omega arith
faults_polled pend calls calls' waits waits' at (polled.Reply bytes) out h = faults_answered pend calls calls' waits waits' at (Some bytes.items) (reply bytes.items) out h
faults_polled pend calls calls' waits waits' at polled.Failed out h = faults_answered pend calls calls' waits waits' at None fault out h
faults_polled pend calls calls' waits waits' at polled.Memory out h = faults_answered pend calls calls' waits waits' at (Some h.0) memory out h.1

pub faults_later : (pend : ℕ) (calls calls' : List Call) (waits waits' : List Wait) (at : ℕ) (result : Polled) → IsSome (out_at calls at) → PolledAt result pend waits waits' calls calls' at → faults_in calls ≤ faults_in calls'
faults_later pend calls calls' waits waits' at result out h = let e = faults_polled pend calls calls' waits waits' at result out h in omega arith

pub fault_polled : (pend : ℕ) (calls calls' : List Call) (waits waits' : List Wait) (at : ℕ) (result : Polled) → IsSome (out_at calls at) → PolledAt result pend waits waits' calls calls' at → result ≡ polled.Failed → Rose (faults_in calls) (faults_in calls')
fault_polled pend calls calls' waits waits' at result out h failed = (rose_more (faults_in calls) (faults_in calls') (faults_polled pend calls calls' waits waits' at result out h ∙ ap (λ r. faults_in calls + fault_of r) failed)).0

-- ---- prompt

pended_here : (waits : List Wait) (at : ℕ) (w : Wait) → slice_get waits at ≡ Some w → slice_get (pended_of waits) at ≡ Some w.pended
pended_here [] at w h = cc
pended_here (v ∷ waits) zero w h = ap (λ (x : Wait). Some x.pended) (same_some v w h)
pended_here (v ∷ waits) (suc at) w h = pended_here waits at w h

module _ (history : List Kept) (fates : List Fate) (calls calls' : List Call) (waits waits' : List Wait) (at : ℕ) (out : IsSome (out_at calls at)) (honest : Honest history calls waits fates) (p : IsPromptLink fates calls (pended_of waits)) where
  -- nothing is left of the fate of a call that waits
  nothing_left : (w : Wait) → slice_get waits at ≡ Some w → Comes (fate_at fates at).kind × ((fate_at fates at).pend ≤ w.pended)
  nothing_left w found = let c = is_waiting calls at out in p.waits at c.call w.pended c.found (pended_here waits at w found) c.waits

  no_pending : (w : Wait) → slice_get waits at ≡ Some w → w.pended < (fate_at fates at).pend → ⊥
  no_pending w found early = let le = (nothing_left w found).1 in omega arith

  no_failing : (w : Wait) → slice_get waits at ≡ Some w → w.reply ≡ None → ⊥
  no_failing w found none =
      let c = is_waiting calls at out in
      let old = honest.each at c.call w c.found found in
      let there = comes_there (fate_at fates at).kind history c.call.command c.call.position (nothing_left w found).0 old.as_fate.took in
      let bad : None ≡ Some there.0 = sym none ∙ old.comes c.waits ∙ there.1 in
      cc

  pub at_once_polled : (result : Polled) → PolledAt result (fate_at fates at).pend waits waits' calls calls' at → ComesAtOnce result
  at_once_polled (polled.Pending given) h = no_pending h.1.wait h.1.found h.1.early
  at_once_polled (polled.Reply bytes) h = tt
  at_once_polled polled.Failed h = no_failing h.wait h.found h.come_is
  at_once_polled polled.Memory h = tt

  prompt_answered : (come : Option (List ℕ)) (seen : Sight) → IsAnswer seen → Answered (fate_at fates at).pend waits waits' calls calls' at come seen → IsPromptLink fates calls' (pended_of waits')
  prompt_answered come seen answer h =
      let same = ap length h.calls_are ∙ length-see at seen calls in
      let pended_is = pended_answered (fate_at fates at).pend calls calls' waits waits' at come seen h in
      record {
        later = λ k le. p.later k (omega arith);
        waits = λ k call n found found' waits_is. elim (see_old at seen calls k call (ap (λ l. slice_get l k) (sym h.calls_are) ∙ found)) [
          | inl old ↦ p.waits k call n old (ap (λ l. slice_get l k) (sym pended_is) ∙ found') waits_is
          | inr new ↦ absurd (no_more seen answer (sym (ap (λ (c : Call). c.seen) new.1.2) ∙ waits_is))
        ];
      }

  stays_answered : (come : Option (List ℕ)) (seen : Sight) → IsAnswer seen → fault_by seen ≡ 0 → Answered (fate_at fates at).pend waits waits' calls calls' at come seen → StaysPrompt (IsPromptLink fates calls' (pended_of waits')) (faults_in calls) (faults_in calls') (pends_in (pended_of waits)) (pends_in (pended_of waits'))
  stays_answered come seen answer none h =
      let e = faults_answered (fate_at fates at).pend calls calls' waits waits' at come seen out h in
      record {
        stays = prompt_answered come seen answer h;
        no_fault = omega arith;
        no_pend = ap pends_in (pended_answered (fate_at fates at).pend calls calls' waits waits' at come seen h);
      }

  pub stays_polled : (result : Polled) → PolledAt result (fate_at fates at).pend waits waits' calls calls' at → StaysPrompt (IsPromptLink fates calls' (pended_of waits')) (faults_in calls) (faults_in calls') (pends_in (pended_of waits)) (pends_in (pended_of waits'))
  stays_polled (polled.Pending given) h = absurd (no_pending h.1.wait h.1.found h.1.early)
  stays_polled (polled.Reply bytes) h = stays_answered (Some bytes.items) (reply bytes.items) tt refl h
  stays_polled polled.Failed h = absurd (no_failing h.wait h.found h.come_is)
  stays_polled polled.Memory h = stays_answered (Some h.0) memory tt refl h.1
