-- The token of an entry names the place behind it, and is the `_id` of its event.
use Rattle.std.proofs.Common.{◌≡◌, ℕ, zero, suc, ◌+◌, Bool, List, [], ◌∷◌, ◌++◌, length, Option, Some, refl, sym, ap, ◌∙◌, subst, inl, inr, arith, None}
use Rattle.std.specs.Prelude.{slice_get, codes, if◌then◌else◌}
use Rattle.mg_bson.specs.Tree.{Tree, Fields}
use Rattle.mg_bson.specs.Find.{get}
use Rattle.mg_link.specs.Namespace.{Space}
use Rattle.mg_server.specs.State.{Entry, State, nothing, name, Change, inserts, deletes, drops, invalidates}
use Rattle.mg_server.specs.Commands.{Asked, asks_insert, asks_watch, asks_more, asks_kill, Told, refuses, inserted, opened, gave, killed, asked, asks_query, asks_update, asks_delete, asks_create, asks_indexes, asks_drop, updated, deleted, done}
use Rattle.mg_server.specs.Step.{Made, Named, name_all, entry_names, AreNewNames, AddsNoEntry, IsEventOf, AreEventsOf, MayTell, May}
use Rattle.mg_server.specs.History.{Step, step_after, state_after, IsLegal, IsLegalFrom, state_of, told_at}
use Rattle.mg_link.proofs.Places.{get_joined}
use Rattle.mg_server.proofs.Histories.{step_after-changes}
use Rattle.mg_server.proofs.Tokens.{is_same_self}
use Rattle.mg_server.proofs.Later.{Respects, name_respects, all_keep, grown-tokens, effect_keeps, later_step, respects_step}
use Rattle.mg_server.specs.Write.{change_of}

pub record IsNumbered (s : State) (p : ℕ) (e : Entry) : Type 0 where
  pub named : s.tokens e.token ≡ Some (suc p)
  pub id : get (codes "_id") e.event ≡ Some e.token

abbrev pub AreNumbered : State → Type 0
AreNumbered s = (p : ℕ) (e : Entry) → slice_get s.changes p ≡ Some e → IsNumbered s p e

-- ---- the entries of a step

insert_ids : (space : Space) (change : Change) (ds : List Fields) (es : List Entry) (j : ℕ) (e : Entry) → AreEventsOf space change ds es → slice_get es j ≡ Some e → get (codes "_id") e.event ≡ Some e.token
insert_ids space change [] [] j e are h = absurd cc
insert_ids space change [] (x ∷ es) j e are h = absurd are
insert_ids space change (d ∷ ds) [] j e are h = absurd are
insert_ids space change (d ∷ ds) (x ∷ es) zero e are h = let same : x ≡ e = cc in subst (λ (y : Entry). get (codes "_id") y.event ≡ Some y.token) same are.0.token_is
insert_ids space change (d ∷ ds) (x ∷ es) (suc j) e are h = insert_ids space change ds es j e are.1 h

none_there : (made : Made) (j : ℕ) (e : Entry) → AddsNoEntry made → slice_get made.entries j ≡ Some e → ⊥
none_there made j e none h = let bad : slice_get (none_of e) j ≡ Some e = sym (ap (λ (l : List Entry). slice_get l j) none) ∙ h in cc
  where
    none_of : Entry → List Entry
    none_of e = []

drop_ids : (space : Space) (a b : Entry) (made : Made) (j : ℕ) (e : Entry) → made.entries ≡ a ∷ b ∷ [] → IsEventOf space drops a → IsEventOf space invalidates b → slice_get made.entries j ≡ Some e → get (codes "_id") e.event ≡ Some e.token
drop_ids space a b made zero e is dropped ended h =
    let same : a ≡ e = let f : Some a ≡ Some e = sym (ap (λ (l : List Entry). slice_get l 0) is) ∙ h in cc in
    subst (λ (y : Entry). get (codes "_id") y.event ≡ Some y.token) same dropped.token_is
drop_ids space a b made (suc zero) e is dropped ended h =
    let same : b ≡ e = let f : Some b ≡ Some e = sym (ap (λ (l : List Entry). slice_get l 1) is) ∙ h in cc in
    subst (λ (y : Entry). get (codes "_id") y.event ≡ Some y.token) same ended.token_is
drop_ids space a b made (suc (suc j)) e is dropped ended h = let f : None ≡ Some e = sym (ap (λ (l : List Entry). slice_get l (suc (suc j))) is) ∙ h in absurd cc

step_ids : (s s' : State) (command : Asked) (reply : Told) (made : Made) (j : ℕ) (e : Entry) → MayTell s s' command reply made → slice_get made.entries j ≡ Some e → get (codes "_id") e.event ≡ Some e.token
step_ids s s' command (refuses code labels) made j e may h = absurd (none_there made j e may.no_entry h)
step_ids s s' (asks_insert space documents ordered) (inserted n failures) made j e may h = insert_ids space inserts _ made.entries j e may.entries h
step_ids s s' (asks_update space conditions m many) (updated n changed []) made j e may h = insert_ids space (change_of m) _ made.entries j e may.entries h
step_ids s s' (asks_update space conditions m many) (updated n changed (f ∷ fs)) made j e may h = absurd (none_there made j e may.0.no_entry h)
step_ids s s' (asks_delete space conditions many) (deleted n []) made j e may h = insert_ids space deletes _ made.entries j e may.entries h
step_ids s s' (asks_delete space conditions many) (deleted n (f ∷ fs)) made j e may h = absurd (none_there made j e may.no_entry h)
step_ids s s' (asks_create space) done made j e may h = absurd (none_there made j e may.no_entry h)
step_ids s s' (asks_indexes space indexes) done made j e may h = absurd (none_there made j e may h)
step_ids s s' (asks_drop space) done made j e (inl may) h = drop_ids space may.dropped may.ended made j e may.entries may.drop_is may.end_is h
step_ids s s' (asks_drop space) done made j e (inr may) h = absurd (none_there made j e may.no_entry h)
step_ids s s' (asks_query q) (opened id at documents token time) made j e may h = absurd (none_there made j e may.no_entry h)
step_ids s s' (asks_watch watch start) (opened id at events token time) made j e may h = absurd (none_there made j e may.no_entry h)
step_ids s s' (asks_more id space) (gave left at events token) made j e (inl may) h = absurd (none_there made j e may.no_entry h)
step_ids s s' (asks_more id space) (gave left at events token) made j e (inr may) h = absurd (none_there made j e may.no_entry h)
step_ids s s' (asks_kill ids) killed made j e may h = absurd (none_there made j e may h)
step_ids s s' command reply made j e may h = absurd may

step_names : (end place : ℕ) (es : List Entry) (ms : List Named) (tokens : Tree → Option ℕ) → Respects tokens → AreNewNames end tokens (entry_names place es ++ ms) → (j : ℕ) (e : Entry) → slice_get es j ≡ Some e
    → name_all (entry_names place es ++ ms) tokens e.token ≡ Some (suc (place + j))
step_names end place [] ms tokens r new j e h = absurd cc
step_names end place (x ∷ es) ms tokens r new zero e h =
    let same : x ≡ e = cc in
    let here : name x.token (suc place) tokens x.token ≡ Some (suc place) = ap (λ (b : Bool). if b then Some (suc place) else tokens x.token) (is_same_self x.token) in
    let n : suc place ≡ suc (place + 0) = omega arith in
    subst (λ (y : Entry). name_all (entry_names (suc place) es ++ ms) (name x.token (suc place) tokens) y.token ≡ Some (suc (place + 0))) same
    (all_keep end (entry_names (suc place) es ++ ms) (name x.token (suc place) tokens) (name_respects x.token (suc place) tokens r) new.2 x.token (suc (place + 0)) (here ∙ ap Some n))
step_names end place (x ∷ es) ms tokens r new (suc j) e h =
    let n : suc (suc place + j) ≡ suc (place + suc j) = omega arith in
    step_names end (suc place) es ms (name x.token (suc place) tokens) (name_respects x.token (suc place) tokens r) new.2 j e h ∙ ap Some n

-- ---- a state and its next

numbered_step : (s : State) (step : Step) → Respects s.tokens → May s (asked step.command) (told_at step) step.made → AreNumbered s → AreNumbered (step_after s step)
numbered_step s step r may num p e h =
    let later = later_step s step r may in
    elim (get_joined s.changes step.made.entries p e (ap (λ (l : List Entry). slice_get l p) (sym (step_after-changes s step)) ∙ h)) [
      | inl old ↦ let was = num p e old in record { named = later.tokens e.token (suc p) was.named; id = was.id }
      | inr new ↦
          let keeps = effect_keeps _ (asked step.command) (told_at step) in
          let shown = ap (λ (f : Tree → Option ℕ). f e.token) (keeps.tokens ∙ grown-tokens s step.made) in
          let named = step_names _ (length s.changes) step.made.entries step.made.tokens s.tokens r may.grows.names new.0 e new.2 in
          record { named = shown ∙ named ∙ ap (λ (n : ℕ). Some (suc n)) (sym new.1); id = step_ids s _ (asked step.command) (told_at step) step.made new.0 e may.tells new.2 }
    ]

numbered_steps : (s : State) (steps : List Step) → Respects s.tokens → IsLegalFrom s steps → AreNumbered s → AreNumbered (state_after s steps)
unfolding state_after IsLegalFrom
numbered_steps s [] r legal num = num
numbered_steps s (step ∷ steps) r legal num = numbered_steps (step_after s step) steps (respects_step s step r) legal.1 (numbered_step s step r legal.0 num)

pub numbered_of : (history : List Step) → IsLegal history → AreNumbered (state_of history)
numbered_of history legal = numbered_steps nothing history (λ t u h. refl) legal (λ p e h. absurd cc)
