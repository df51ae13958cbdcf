-- A link in memory stays honest: its log stands in the history of its store, and each call is as its fate says.
use Rattle.std.proofs.Common.{◌≡◌, ℕ, ℤ, zero, suc, ◌+◌, ◌≤◌, List, [], ◌∷◌, ◌++◌, length, map, Option, Some, None, option_map, Bool, true, false, refl, sym, ap, ◌∙◌, subst, inl, inr, append_assoc, arith}
use Rattle.std.specs.Prelude.{slice_get, is_some, not, string_bytes, Result, Ok, Err, IfOk, OnErr}
use Rattle.std.proofs.lemmas.List.{length-map}
use Rattle.std.proofs.lemmas.Option.{slice_get_past}
use Rattle.mg_bson.specs.Tree.{Fields}
use Rattle.mg_server.specs.Commands.{Asked, asks_insert, asks_watch, asks_more, asks_kill, asks_update, asks_delete, asks_query, asks_create, asks_indexes, asks_drop, asks_other, asked}
use Rattle.mg_server.specs.History.{Step}
use Rattle.mg_server.specs.Kept.{Kept, step_of, state_behind, given_after, steps_from, steps_of, state_of_kept, given_of, is_started}
use Rattle.mg_link.specs.Link.{SamePolls, Starts}
use Rattle.mg_link.specs.Log.{waiting, Call}
use Rattle.mg_link.specs.Places.{waiting_at, out_at, polls_in}
use Rattle.mg_server.specs.Rules.{refusal}
use Rattle.mg_server.specs.Standing.{Names, Stands}
use Rattle.mg_server.specs.State.{State}
use Rattle.mg_server.proofs.Legal.{steps_push}
use Rattle.mg_link.proofs.Outs.{polls_push}
use Rattle.mg_link.proofs.Places.{get_within}
use Rattle.mg_query.specs.Continued.{is_about_cursors}
use Rattle.mg_store.specs.InMemory.{fate_of, fate_at, TookStep, by_rules, TookAs, reply_at, coming, SeesWhatComes, IsAsFate, AreAsFates, ArePlaced, fault_by, faults_in, pends_in, Performed, Takes, position_behind, sent_call, Started, NamesNone, Comes, IsPromptLink, IsSmall, AreSmall}
use Rattle.mg_store.specs.Sending.{pended_of, IsKept, Honest, Sent}
use Rattle.mg_link.specs.declared.error.OutOfMemory.{OutOfMemory}
use Rattle.mg_link.specs.declared.history.Receipt.{Receipt}
use Rattle.mg_store.specs.Stored.{Performs, Stored}
use Rattle.mg_store.specs.declared.fate.Fate.{Fate}
use Rattle.mg_store.specs.declared.fate.FateKind.{FateKind}
use Rattle.mg_store.specs.declared.fate.FateKind.TheVariants as kinds
use Rattle.mg_store.specs.declared.link.Wait.{Wait}
use Rattle.mg_store.proofs.Standing.{same_some, get_push, get_seam, get_push_other, stands_unsent, stands_sent, stands_aside}

-- ---- the history of what a store kept

length-from : (s : State) (given : ℕ) (started : Bool) (kept : List Kept) → length (steps_from s given started kept) ≡ length kept
unfolding steps_from
length-from s given started [] = refl
length-from s given started (k ∷ kept) = ap suc (length-from (state_behind s given started k) (given_after given k) true kept)

pub length-steps : (kept : List Kept) → length (steps_of kept) ≡ length kept
length-steps kept = length-from _ 0 false kept

get-from : (s : State) (given : ℕ) (started : Bool) (kept : List Kept) (p : ℕ) (step : Step) → slice_get (steps_from s given started kept) p ≡ Some step → (k : Kept) × (slice_get kept p ≡ Some k) × (k.reply ≡ step.reply)
unfolding steps_from
get-from s given started [] p step h = cc
get-from s given started (k ∷ kept) zero step h = (k, refl, ap (λ (x : Step). x.reply) (same_some (step_of s given started k) step h))
get-from s given started (k ∷ kept) (suc p) step h = get-from (state_behind s given started k) (given_after given k) true kept p step h

-- a step of the history is one that was kept
pub get-steps : (kept : List Kept) (p : ℕ) (step : Step) → slice_get (steps_of kept) p ≡ Some step → (k : Kept) × (slice_get kept p ≡ Some k) × (k.reply ≡ step.reply)
get-steps kept p step h = get-from _ 0 false kept p step h

-- ---- fates

small_by : (fates : List Fate) (k : ℕ) → AreSmall fates → IsSmall (fate_at fates k).kind
small_by [] k h = tt
small_by (f ∷ fates) zero h = h.0
small_by (f ∷ fates) (suc k) h = small_by fates k h.1

pub small_at : (fates : List Fate) (k : ℕ) (kind : FateKind) → kind ≡ (fate_at fates k).kind → AreSmall fates → IsSmall kind
small_at fates k kind is h = subst IsSmall (sym is) (small_by fates k h)

-- ---- the history grows

length-joined : {A : Type 0} (xs : List A) (y : A) (ys : List A) → length (xs ++ y ∷ ys) ≡ suc (length xs + length ys)
length-joined [] y ys = omega arith
length-joined (x ∷ xs) y ys = let e = length-joined xs y ys in omega arith

module _ (history : List Kept) (more : Kept) where
  step_grown : (document : List Kept → Fields) (command : List ℕ) (position : Option ℕ) → TookStep document history command position → TookStep document (history ++ more ∷ []) command position
  step_grown document command position t = record {
    before = t.before;
    later = t.later ++ more ∷ [];
    given = t.given;
    these = ap (λ l. l ++ more ∷ []) t.these ∙ append_assoc t.before (record { command = command; reply = t.given } ∷ t.later) (more ∷ []);
    placed = t.placed;
    replies = t.replies;
  }

  took_grown : (kind : FateKind) (command : List ℕ) (position : Option ℕ) → TookAs kind history command position → TookAs kind (history ++ more ∷ []) command position
  took_grown kinds.Keep command position t = step_grown (by_rules command) command position t
  took_grown kinds.Lose command position t = step_grown (by_rules command) command position t
  took_grown kinds.Drop command position t = t
  took_grown (kinds.Refuse code labels) command position t = step_grown (λ before. refusal code (map string_bytes labels.items)) command position t

  reply_grown : (document : List Kept → Fields) (command : List ℕ) (position : Option ℕ) → TookStep document history command position → reply_at (history ++ more ∷ []) position ≡ reply_at history position
  reply_grown document command position t =
      let within : length t.before ≡ length history → ⊥ = λ e. let n = e ∙ ap length t.these in let a = length-joined t.before (record { command = command; reply = t.given }) t.later in omega arith in
      ap (reply_at (history ++ more ∷ [])) t.placed ∙ ap (option_map (λ (k : Kept). k.reply)) (get_push_other history more (length t.before) within) ∙ ap (reply_at history) (sym t.placed)

  coming_grown : (kind : FateKind) (command : List ℕ) (position : Option ℕ) → TookAs kind history command position → coming kind (history ++ more ∷ []) position ≡ coming kind history position
  coming_grown kinds.Keep command position t = reply_grown (by_rules command) command position t
  coming_grown kinds.Lose command position t = refl
  coming_grown kinds.Drop command position t = refl
  coming_grown (kinds.Refuse code labels) command position t = reply_grown (λ before. refusal code (map string_bytes labels.items)) command position t

  pub kept_grown : (fate : Fate) (call : Call) (wait : Wait) → IsKept history fate call wait → IsKept (history ++ more ∷ []) fate call wait
  kept_grown fate call wait h =
      let same = coming_grown fate.kind call.command call.position h.as_fate.took in
      record {
        as_fate = record {
          took = took_grown fate.kind call.command call.position h.as_fate.took;
          sees = subst (λ come. SeesWhatComes come call.seen) (sym same) h.as_fate.sees;
          pends = h.as_fate.pends;
        };
        comes = λ waits. h.comes waits ∙ sym same;
      }

-- ---- a command was sent

performed_took : (document : List Kept → Fields) (old new : Stored) (command given : List ℕ) → Performed document old new command given → TookStep document new.history command (Some (length old.history))
performed_took document old new command given p = record { before = old.history; later = []; given = given; these = p.history; placed = refl; replies = p.replies }

performed_reply : (document : List Kept → Fields) (old new : Stored) (command given : List ℕ) → Performed document old new command given → Some given ≡ reply_at new.history (Some (length old.history))
performed_reply document old new command given p = sym (ap (λ h. reply_at h (Some (length old.history))) p.history ∙ ap (option_map (λ (k : Kept). k.reply)) (get_seam old.history [] (record { command = command; reply = given })))

performed_stands : (document : List Kept → Fields) (old new : Stored) (command given : List ℕ) (calls : List Call) → Performed document old new command given → Stands calls (steps_of old.history) → Stands (calls ++ record { command = command; position = Some (length old.history); seen = waiting } ∷ []) (steps_of new.history)
performed_stands document old new command given calls p stands =
    let kept : Kept = record { command = command; reply = given } in
    let step = step_of (state_of_kept old.history) (given_of old.history) (is_started old.history) kept in
    let call : Call = record { command = command; position = Some (length old.history); seen = waiting } in
    let grown : Stands (calls ++ call ∷ []) (steps_of old.history ++ step ∷ []) = stands_sent calls call (steps_of old.history) refl stands step refl (ap Some (sym (length-steps old.history))) in
    subst (λ h. Stands (calls ++ call ∷ []) h) (sym (ap steps_of p.history ∙ steps_push old.history kept)) grown

performed_kept : (document : List Kept → Fields) (old new : Stored) (command given : List ℕ) (fate : Fate) (call : Call) (wait : Wait) → Performed document old new command given → IsKept old.history fate call wait → IsKept new.history fate call wait
performed_kept document old new command given fate call wait p h = subst (λ l. IsKept l fate call wait) (sym p.history) (kept_grown old.history (record { command = command; reply = given }) fate call wait h)

abbrev refuses_with : (code : ℤ) (labels : List (List ℕ)) → List Kept → Fields
refuses_with code labels before = refusal code labels

took_new : (kind : FateKind) (old new : Stored) (command : List ℕ) (come : Option (List ℕ)) → Takes kind old new command come → TookAs kind new.history command (position_behind kind old.history)
took_new kinds.Keep old new command (Some given) t = performed_took (by_rules command) old new command given t
took_new kinds.Keep old new command None t = absurd t
took_new kinds.Lose old new command (Some given) t = absurd t
took_new kinds.Lose old new command None t = performed_took (by_rules command) old new command t.0 t.1
took_new kinds.Drop old new command (Some given) t = absurd t
took_new kinds.Drop old new command None t = refl
took_new (kinds.Refuse code labels) old new command (Some given) t = performed_took (refuses_with code (map string_bytes labels.items)) old new command given t
took_new (kinds.Refuse code labels) old new command None t = absurd t

come_new : (kind : FateKind) (old new : Stored) (command : List ℕ) (come : Option (List ℕ)) → Takes kind old new command come → come ≡ coming kind new.history (position_behind kind old.history)
come_new kinds.Keep old new command (Some given) t = performed_reply (by_rules command) old new command given t
come_new kinds.Keep old new command None t = absurd t
come_new kinds.Lose old new command (Some given) t = absurd t
come_new kinds.Lose old new command None t = refl
come_new kinds.Drop old new command (Some given) t = absurd t
come_new kinds.Drop old new command None t = refl
come_new (kinds.Refuse code labels) old new command (Some given) t = performed_reply (refuses_with code (map string_bytes labels.items)) old new command given t
come_new (kinds.Refuse code labels) old new command None t = absurd t

unsent_stands : (old new : Stored) (command : List ℕ) (calls : List Call) → new ≡ old → Stands calls (steps_of old.history) → Stands (calls ++ record { command = command; position = None; seen = waiting } ∷ []) (steps_of new.history)
unsent_stands old new command calls same stands =
    let call : Call = record { command = command; position = None; seen = waiting } in
    subst (λ (s : Stored). Stands (calls ++ call ∷ []) (steps_of s.history)) (sym same) (stands_unsent calls call (steps_of old.history) refl stands refl)

stands_new : (kind : FateKind) (old new : Stored) (command : List ℕ) (come : Option (List ℕ)) (calls : List Call) → Takes kind old new command come → Stands calls (steps_of old.history) → Stands (calls ++ sent_call kind old.history command ∷ []) (steps_of new.history)
stands_new kinds.Keep old new command (Some given) calls t stands = performed_stands (by_rules command) old new command given calls t stands
stands_new kinds.Keep old new command None calls t stands = absurd t
stands_new kinds.Lose old new command (Some given) calls t stands = absurd t
stands_new kinds.Lose old new command None calls t stands = performed_stands (by_rules command) old new command t.0 calls t.1 stands
stands_new kinds.Drop old new command (Some given) calls t stands = absurd t
stands_new kinds.Drop old new command None calls t stands = unsent_stands old new command calls t stands
stands_new (kinds.Refuse code labels) old new command (Some given) calls t stands = performed_stands (refuses_with code (map string_bytes labels.items)) old new command given calls t stands
stands_new (kinds.Refuse code labels) old new command None calls t stands = absurd t

kept_on : (kind : FateKind) (old new : Stored) (command : List ℕ) (come : Option (List ℕ)) (fate : Fate) (call : Call) (wait : Wait) → Takes kind old new command come → IsKept old.history fate call wait → IsKept new.history fate call wait
kept_on kinds.Keep old new command (Some given) fate call wait t h = performed_kept (by_rules command) old new command given fate call wait t h
kept_on kinds.Keep old new command None fate call wait t h = absurd t
kept_on kinds.Lose old new command (Some given) fate call wait t h = absurd t
kept_on kinds.Lose old new command None fate call wait t h = performed_kept (by_rules command) old new command t.0 fate call wait t.1 h
kept_on kinds.Drop old new command (Some given) fate call wait t h = absurd t
kept_on kinds.Drop old new command None fate call wait t h = subst (λ (s : Stored). IsKept s.history fate call wait) (sym t) h
kept_on (kinds.Refuse code labels) old new command (Some given) fate call wait t h = performed_kept (refuses_with code (map string_bytes labels.items)) old new command given fate call wait t h
kept_on (kinds.Refuse code labels) old new command None fate call wait t h = absurd t

sees_waiting : (come : Option (List ℕ)) → SeesWhatComes come waiting
sees_waiting None = tt
sees_waiting (Some given) = tt

-- the new call is as its fate says
kept_new : (fate : Fate) (kind : FateKind) (old new : Stored) (command : List ℕ) (come : Option (List ℕ)) → kind ≡ fate.kind → Takes kind old new command come → IsKept new.history fate (sent_call kind old.history command) (record { pended = 0; reply = come })
kept_new fate kind old new command come is t = record {
  as_fate = record {
    took = subst (λ k. TookAs k new.history command (position_behind kind old.history)) is (took_new kind old new command come t);
    sees = sees_waiting (coming fate.kind new.history (position_behind kind old.history));
    pends = omega arith;
  };
  comes = λ waits. subst (λ k. come ≡ coming k new.history (position_behind kind old.history)) is (come_new kind old new command come t);
}

each_sent : (fates : List Fate) (kind : FateKind) (old new : Stored) (command : List ℕ) (calls calls' : List Call) (waits waits' : List Wait) → kind ≡ (fate_at fates (length calls)).kind → Honest old.history calls waits fates → Sent kind command old new calls calls' waits waits'
    → (k : ℕ) (call : Call) (wait : Wait) → slice_get calls' k ≡ Some call → slice_get waits' k ≡ Some wait → IsKept new.history (fate_at fates k) call wait
each_sent fates kind old new command calls calls' waits waits' is honest sent k call wait found found' =
    let counted = honest.counted in
    let call_new = sent_call kind old.history command in
    let wait_new : Wait = record { pended = 0; reply = sent.reply } in
    elim (get_push calls call_new k call (ap (λ l. slice_get l k) (sym sent.calls_are) ∙ found)) [
      | inl here ↦ elim (get_push waits wait_new k wait (ap (λ l. slice_get l k) (sym sent.waits_are) ∙ found')) [
        | inl here' ↦ kept_on kind old new command sent.reply (fate_at fates k) call wait sent.takes (honest.each k call wait here here')
        | inr last' ↦ let at = last'.0 in let within = get_within calls k call here in absurd (omega arith)
      ]
      | inr last ↦ elim (get_push waits wait_new k wait (ap (λ l. slice_get l k) (sym sent.waits_are) ∙ found')) [
        | inl here' ↦ let at = last.0 in let within = get_within waits k wait here' in absurd (omega arith)
        | inr last' ↦
            let made = kept_new (fate_at fates k) kind old new command sent.reply (is ∙ ap (λ n. (fate_at fates n).kind) (sym last.0)) sent.takes in
            subst (λ c. IsKept new.history (fate_at fates k) c wait) last.1 (subst (λ w. IsKept new.history (fate_at fates k) call_new w) last'.1 made)
      ]
    ]

pub honest_sent : (fates : List Fate) (kind : FateKind) (old new : Stored) (command : List ℕ) (calls calls' : List Call) (waits waits' : List Wait) → kind ≡ (fate_at fates (length calls)).kind → Honest old.history calls waits fates → Sent kind command old new calls calls' waits waits' → Honest new.history calls' waits' fates
honest_sent fates kind old new command calls calls' waits waits' is honest sent =
    let counted = honest.counted in
    let a = ap length sent.calls_are ∙ length-joined calls (sent_call kind old.history command) [] in
    let b = ap length sent.waits_are ∙ length-joined waits (record { pended = 0; reply = sent.reply }) [] in
    record {
      small = honest.small;
      counted = omega arith;
      stands = subst (λ l. Stands l (steps_of new.history)) (sym sent.calls_are) (stands_new kind old new command sent.reply calls sent.takes honest.stands);
      each = each_sent fates kind old new command calls calls' waits waits' is honest sent;
    }

-- its ticket has the place of its call
pub starts_sent : (kind : FateKind) (old new : Stored) (command : List ℕ) (calls calls' : List Call) (waits waits' : List Wait) (n : ℕ) → n ≡ length calls → Sent kind command old new calls calls' waits waits' → Starts (out_at calls) (out_at calls') (Some calls) (Some calls') n command
starts_sent kind old new command calls calls' waits waits' n at sent =
    let call = sent_call kind old.history command in
    let here : slice_get calls' n ≡ Some call = ap (λ l. slice_get l n) sent.calls_are ∙ ap (λ m. slice_get (calls ++ call ∷ []) m) at ∙ get_seam calls [] call in
    let out : out_at calls' n ≡ Some n = ap (λ o. waiting_at o n) here in
    record {
      fresh = ap (λ o. waiting_at o n) (slice_get_past calls n (omega arith));
      out = ap is_some out;
      place = λ told e. out ∙ ap Some (at ∙ ap length (same_some calls told e));
      rest = λ m ne. ap (λ o. waiting_at o m) (ap (λ l. slice_get l m) sent.calls_are ∙ get_push_other calls call m (λ e. ne (e ∙ sym at)));
      adds = λ told e. (position_behind kind old.history, ap Some (sent.calls_are ∙ ap (λ l. l ++ call ∷ []) (same_some calls told e)));
    }

-- ---- the counts

faults-push : (calls : List Call) (call : Call) → call.seen ≡ waiting → faults_in (calls ++ call ∷ []) ≡ faults_in calls
faults-push [] call waits = let e = ap fault_by waits in omega arith
faults-push (c ∷ calls) call waits = let e = faults-push calls call waits in omega arith

pended-push : (waits : List Wait) (come : Option (List ℕ)) → pended_of (waits ++ record { pended = 0; reply = come } ∷ []) ≡ pended_of waits ++ 0 ∷ []
pended-push [] come = refl
pended-push (w ∷ waits) come = ap (λ l. w.pended ∷ l) (pended-push waits come)

pends-push : (pended : List ℕ) → pends_in (pended ++ 0 ∷ []) ≡ pends_in pended
pends-push [] = refl
pends-push (n ∷ pended) = ap (λ m. n + m) (pends-push pended)

pub faults_sent : (kind : FateKind) (old new : Stored) (command : List ℕ) (calls calls' : List Call) (waits waits' : List Wait) → Sent kind command old new calls calls' waits waits' → faults_in calls' ≡ faults_in calls
faults_sent kind old new command calls calls' waits waits' sent = ap faults_in sent.calls_are ∙ faults-push calls (sent_call kind old.history command) refl

pub pends_sent : (kind : FateKind) (old new : Stored) (command : List ℕ) (calls calls' : List Call) (waits waits' : List Wait) → Sent kind command old new calls calls' waits waits' → pends_in (pended_of waits') ≡ pends_in (pended_of waits)
pends_sent kind old new command calls calls' waits waits' sent = ap (λ l. pends_in (pended_of l)) sent.waits_are ∙ ap pends_in (pended-push waits sent.reply) ∙ pends-push (pended_of waits)

pub polls_sent : (kind : FateKind) (old new : Stored) (command : List ℕ) (calls calls' : List Call) (waits waits' : List Wait) → Sent kind command old new calls calls' waits waits' → SamePolls (polls_in (pended_of waits)) (polls_in (pended_of waits'))
polls_sent kind old new command calls calls' waits waits' sent place =
    ap (λ l. polls_in l place) (ap pended_of sent.waits_are ∙ pended-push waits sent.reply) ∙ polls_push (pended_of waits) place

-- what a start of the link does
pub started_sent : (kind kind' : FateKind) (old new : Stored) (command : List ℕ) (calls calls' : List Call) (waits waits' : List Wait) (n : ℕ) → kind ≡ kind' → n ≡ length calls → Sent kind command old new calls calls' waits waits' → Started n kind' command old new calls calls' (pended_of waits) (pended_of waits')
started_sent kind kind' old new command calls calls' waits waits' n is at sent = record {
  place = at;
  come = sent.reply;
  takes = subst (λ k. Takes k old new command sent.reply) is sent.takes;
  calls_are = sent.calls_are ∙ ap (λ k. calls ++ sent_call k old.history command ∷ []) is;
  pended_are = ap pended_of sent.waits_are ∙ pended-push waits sent.reply;
}

-- ---- prompt

prompt_new : (fate : Fate) (n : ℕ) → fate ≡ fate_of None → Comes fate.kind × (fate.pend ≤ n)
prompt_new fate n is = subst (λ (f : Fate). Comes f.kind × (f.pend ≤ n)) (sym is) (tt, omega arith)

pub prompt_sent : (fates : List Fate) (kind : FateKind) (old new : Stored) (command : List ℕ) (calls calls' : List Call) (waits waits' : List Wait) → length waits ≡ length calls → Sent kind command old new calls calls' waits waits' → IsPromptLink fates calls (pended_of waits) → IsPromptLink fates calls' (pended_of waits')
prompt_sent fates kind old new command calls calls' waits waits' counted sent p =
    let call_new = sent_call kind old.history command in
    let a = ap length sent.calls_are ∙ length-joined calls call_new [] in
    let pended_is : pended_of waits' ≡ pended_of waits ++ 0 ∷ [] = ap pended_of sent.waits_are ∙ pended-push waits sent.reply in
    record {
      later = λ k le. p.later k (omega arith);
      waits = λ k call n found found' seen. elim (get_push calls call_new k call (ap (λ l. slice_get l k) (sym sent.calls_are) ∙ found)) [
        | inl here ↦ elim (get_push (pended_of waits) 0 k n (ap (λ l. slice_get l k) (sym pended_is) ∙ found')) [
          | inl here' ↦ p.waits k call n here here' seen
          | inr last' ↦ let at = last'.0 in let same = length-map waits (λ (w : Wait). w.pended) in let within = get_within calls k call here in absurd (omega arith)
        ]
        | inr last ↦ let at = last.0 in prompt_new (fate_at fates k) n (p.later k (omega arith))
      ];
    }

-- ---- a step of nobody

honest_stepped : (fates : List Fate) (old new : Stored) (command given : List ℕ) (calls : List Call) (waits : List Wait) → NamesNone command → new.history ≡ old.history ++ record { command = command; reply = given } ∷ [] → Honest old.history calls waits fates → Honest new.history calls waits fates
honest_stepped fates old new command given calls waits none is honest =
    let kept : Kept = record { command = command; reply = given } in
    let step = step_of (state_of_kept old.history) (given_of old.history) (is_started old.history) kept in
    record {
      small = honest.small;
      counted = honest.counted;
      stands = subst (λ h. Stands calls h) (sym (ap steps_of is ∙ steps_push old.history kept)) (stands_aside calls (steps_of old.history) step none honest.stands);
      each = λ k call wait found found'. subst (λ h. IsKept h (fate_at fates k) call wait) (sym is) (kept_grown old.history kept (fate_at fates k) call wait (honest.each k call wait found found'));
    }

-- a command that is about no cursor names none
unnamed : (a : Asked) → is_about_cursors a ≡ false → (x : ℤ) → Names a x → ⊥
unnamed (asks_more id space) h x names = absurd cc
unnamed (asks_kill ids) h x names = absurd cc
unnamed (asks_insert space documents ordered) h x names = names
unnamed (asks_update space conditions modification many) h x names = names
unnamed (asks_delete space conditions many) h x names = names
unnamed (asks_query query) h x names = names
unnamed (asks_create space) h x names = names
unnamed (asks_indexes space indexes) h x names = names
unnamed (asks_drop space) h x names = names
unnamed (asks_watch watch start) h x names = names
unnamed asks_other h x names = names

pub names_none : (command : List ℕ) (b : Bool) → (b ≡ false → is_about_cursors (asked command) ≡ false) → not b ≡ true → NamesNone command
names_none command true others aside x names = absurd cc
names_none command false others aside x names = unnamed (asked command) (others refl) x names

pub honest_aside : (fates : List Fate) (old new : Stored) (command : List ℕ) (calls : List Call) (waits : List Wait) (result : Result Receipt OutOfMemory) → NamesNone command → IfOk result (λ r. Performs old new command r) → OnErr result (new ≡ old) → Honest old.history calls waits fates → Honest new.history calls waits fates
honest_aside fates old new command calls waits (Ok r) none step err honest = honest_stepped fates old new command r.reply calls waits none step.history honest
honest_aside fates old new command calls waits (Err e) none step err honest = subst (λ (s : Stored). Honest s.history calls waits fates) (sym err) honest

-- ---- what callers are told

pended_at : (waits : List Wait) (k : ℕ) (n : ℕ) → slice_get (pended_of waits) k ≡ Some n → (wait : Wait) × (slice_get waits k ≡ Some wait) × (wait.pended ≡ n)
pended_at [] k n h = cc
pended_at (w ∷ waits) zero n h = (w, refl, same_some w.pended n h)
pended_at (w ∷ waits) (suc k) n h = pended_at waits k n h

pub are_as_fates : (history : List Kept) (calls : List Call) (waits : List Wait) (fates : List Fate) → Honest history calls waits fates → AreAsFates history fates calls (pended_of waits)
are_as_fates history calls waits fates honest = record {
  counted = length-map waits (λ (w : Wait). w.pended) ∙ honest.counted;
  each = λ k call n found found'.
      let wait = pended_at waits k n found' in
      subst (λ m. IsAsFate history (fate_at fates k) m call) wait.2 (honest.each k call wait.0 found wait.1).as_fate;
}

pub are_placed : (history : List Kept) (calls : List Call) (waits : List Wait) (fates : List Fate) → Honest history calls waits fates → ArePlaced history calls
are_placed history calls waits fates honest k call position found placed =
    let step = honest.stands.same k call position found placed in
    let below = get_within (steps_of history) position step.0 step.1 in
    let same = length-steps history in
    omega arith
