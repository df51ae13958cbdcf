-- What the reader of a query's result knows stays true while others call.
use Rattle.std.proofs.Common.{◌≡◌, ◌≢◌, ◌⊎◌, ◌+◌, ◌<◌, ℕ, suc, ℤ, pos, List, [], ◌∷◌, ◌++◌, length, take, Option, Some, refl, sym, ap, ◌∙◌, subst, inl, inr, arith, append_assoc, append-nil}
use Rattle.std.specs.Prelude.{slice_get}
use Rattle.std.proofs.lemmas.List.{take-append-le}
use Rattle.mg_bson.specs.Tree.{Fields}
use Rattle.mg_server.specs.State.{State}
use Rattle.mg_server.specs.Query.{Query, result}
use Rattle.mg_server.specs.Commands.{Told, refuses, inserted, opened, gave, killed, garbled, updated, deleted, done, asked, asks_query}
use Rattle.mg_server.specs.History.{Step, IsLegal, state_of, told_at}
use Rattle.mg_link.specs.Log.{Call}
use Rattle.mg_server.specs.Standing.{TookEffect, Stands}
use Rattle.mg_server.specs.Owner.{IsOf, by_id, Holds, IsGrown, Earlier, Onward}
use Rattle.mg_server.specs.Follow.{CameAs}
use Rattle.mg_server.specs.Reader.{Fetching, still, fetching, Reader, coming_to, owner_of_reader, Portion, all_in, kept_of, kept_in, one_lost, losses_in, HoldsLeft, AfterFetch, HandBy, FactsOf, OpenedBy, KnowsRead, HasGiven}
use Rattle.mg_server.proofs.Owners.{took_grown}
use Rattle.mg_server.proofs.Apart.{holds_kept}
use Rattle.mg_server.proofs.Follows.{still_of, came_back, placed_within}

-- ---- batches, one behind another

pub all_push : (ps : List Portion) (p : Portion) → all_in (ps ++ p ∷ []) ≡ all_in ps ++ p.documents
all_push [] p = append-nil p.documents
all_push (q ∷ ps) p = ap (λ (l : List Fields). q.documents ++ l) (all_push ps p) ∙ sym (append_assoc q.documents (all_in ps) p.documents)

pub kept_push : (ps : List Portion) (p : Portion) → kept_in (ps ++ p ∷ []) ≡ kept_in ps ++ kept_of p.lost p.documents
kept_push [] p = append-nil (kept_of p.lost p.documents)
kept_push (q ∷ ps) p = ap (λ (l : List Fields). kept_of q.lost q.documents ++ l) (kept_push ps p) ∙ sym (append_assoc (kept_of q.lost q.documents) (kept_in ps) (kept_of p.lost p.documents))

pub losses_push : (ps : List Portion) (p : Portion) → losses_in (ps ++ p ∷ []) ≡ losses_in ps + one_lost p.lost
losses_push [] p = omega arith
losses_push (q ∷ ps) p = omega (arith, losses_push ps p)

-- ---- one state after another

pub holds_later : (s t : State) (id : ℤ) (left : List Fields) → (id ≢ pos 0 → t.cursors id ≡ s.cursors id) → HoldsLeft s id left → HoldsLeft t id left
holds_later s t id left same h c ne there = h c ne (sym (same ne) ∙ there)

pub holds_or_none : (s : State) (c id : ℤ) (left : List Fields) → (id ≡ c) ⊎ (id ≡ pos 0) → HoldsLeft s c left → HoldsLeft s id left
holds_or_none s c id left (inl same) h = subst (λ (n : ℤ). HoldsLeft s n left) (sym same) h
holds_or_none s c id left (inr none) h = λ d ne there. absurd (ne none)

pub fetch_later : (s t : State) (id : ℤ) (left : List Fields) (said : Told) → (id ≢ pos 0 → t.cursors id ≡ s.cursors id) → AfterFetch s id left said → AfterFetch t id left said
fetch_later s t id left (gave next space documents token) same h = record { behind = h.behind; these = h.these; holds = holds_later s t id h.behind same h.holds; same = h.same }
fetch_later s t id left (refuses code labels) same h = holds_later s t id left same h
fetch_later s t id left (opened other space events token time) same h = absurd h
fetch_later s t id left (inserted n failures) same h = absurd h
fetch_later s t id left (updated n changed failures) same h = absurd h
fetch_later s t id left (deleted n failures) same h = absurd h
fetch_later s t id left done same h = absurd h
fetch_later s t id left killed same h = absurd h
fetch_later s t id left garbled same h = absurd h

-- the result is that of each longer history
pub fixed_kept : (before tail : List Step) (position : ℕ) (q : Query) → position < length before → result (state_of (take (suc position) (before ++ tail))) q ≡ result (state_of (take (suc position) before)) q
fixed_kept before tail position q lt = ap (λ (h : List Step). result (state_of h) q) (take-append-le (suc position) before tail (omega arith))

-- ---- an earlier history

module _ (calls calls' : List Call) (grown : IsGrown calls calls') (r : Reader) (history : List Step) (e : Earlier calls (owner_of_reader r) history) (holds : Holds calls (owner_of_reader r)) where
  cursor_still : r.cursor ≢ pos 0 → (state_of history).cursors r.cursor ≡ (state_of e.before).cursors r.cursor
  cursor_still ne = still_of calls (owner_of_reader r) history e r.cursor (by_id (inl refl) ne) (holds.given e.before e.legal e.stands r.cursor (inl refl) ne)

  back : (place : Option ℕ) (position : ℕ) (step : Step) → r.doing ≡ fetching place → CameAs calls' history place position step → CameAs calls e.before place position step
  back place position step is came =
      came_back calls (owner_of_reader r) history e calls' place position step grown
      (λ k at. holds.in_log k (subst (λ (d : Fetching). IsOf (coming_to d) (Some k)) (sym is) (inl at))) came

  forth : (place : Option ℕ) (position : ℕ) (step : Step) → CameAs calls e.before place position step → CameAs calls' history place position step
  forth place position step came =
      (came.0, came.1, subst (λ (h : List Step). TookEffect calls' h came.0 position step) (sym e.whole) (took_grown calls calls' e.before e.tail came.0 position step grown came.2))

  hand_kept : (left : List Fields) (d : Fetching) → r.doing ≡ d → HandBy calls e.before r.cursor left d → HandBy calls' history r.cursor left d
  hand_kept left still is h = holds_later (state_of e.before) (state_of history) r.cursor left cursor_still h
  hand_kept left (fetching place) is h =
      record {
        came = λ position step came.
            let f = h.came position step (back place position step is came) in
            record { space = f.space; asks = f.asks; tells = fetch_later (state_of e.before) (state_of history) r.cursor left (told_at step) cursor_still f.tells };
        never = λ none. holds_later (state_of e.before) (state_of history) r.cursor left cursor_still (h.never (λ position step came. none position step (forth place position step came)));
      }

  pub reader_facts_kept : (position : ℕ) → position < length e.before → FactsOf calls e.before r position → FactsOf calls' history r position
  reader_facts_kept position lt f =
      record {
        all = f.all;
        fixed = ap (λ (h : List Step). result (state_of (take (suc position) h)) r.query) e.whole ∙ fixed_kept e.before e.tail position r.query lt ∙ f.fixed;
        portions = f.portions;
        left = f.left;
        cut = f.cut;
        these = f.these;
        few = f.few;
        hand = hand_kept f.left r.doing refl f.hand;
        ends = f.ends;
      }

-- ---- what a reader knows

-- the call that opened its cursor stands in each log that grew
abbrev pub opener_grown : (calls calls' : List Call) (r r' : Reader) → r'.opened ≡ r.opened → r'.query ≡ r.query → IsGrown calls calls' → OpenedBy calls r → OpenedBy calls' r'
opener_grown calls calls' r r' at query grown o =
    let g = grown.keeps r.opened o.call o.found in
    record { call = g.0; bytes = o.bytes; found = subst (λ (n : ℕ). slice_get calls' n ≡ Some g.0) (sym at) g.1; queries = ap asked g.2 ∙ o.queries ∙ ap asks_query (sym query); heard = g.4 o.bytes o.heard }

-- A reader goes on knowing while others call.
pub reader_kept : (calls calls' : List Call) (r : Reader) → Onward calls calls' (owner_of_reader r) → KnowsRead calls r → KnowsRead calls' r
reader_kept calls calls' r onward k =
    record {
      owned = holds_kept calls calls' (owner_of_reader r) onward k.owned;
      opened = opener_grown calls calls' r r refl refl onward.grown k.opened;
      facts = λ history legal stands position placed.
          let e = onward.earlier history legal stands in
          let g = onward.grown.keeps r.opened k.opened.call k.opened.found in
          let placed' : k.opened.call.position ≡ Some position = sym g.3 ∙ placed in
          reader_facts_kept calls calls' onward.grown r history e k.owned position (placed_within calls e.before r.opened k.opened.call position e.stands k.opened.found placed') (k.facts e.before e.legal e.stands position placed');
    }

-- the facts that it has in a history where its log stands
pub reader_facts_in : (calls : List Call) (r : Reader) → KnowsRead calls r → (history : List Step) → IsLegal history → Stands calls history → (position : ℕ) × FactsOf calls history r position
reader_facts_in calls r k history legal stands =
    let p = stands.placed r.opened k.opened.call k.opened.bytes k.opened.found k.opened.heard in
    (p.0, k.facts history legal stands p.0 p.1)

-- What it knows comes to what was given.
pub read_gives : (calls : List Call) (r : Reader) → KnowsRead calls r → HasGiven calls r
read_gives calls r k =
    record {
      opened = k.opened;
      each = λ history legal stands.
          let p = stands.placed r.opened k.opened.call k.opened.bytes k.opened.found k.opened.heard in
          let f = k.facts history legal stands p.0 p.1 in
          record {
            position = p.0;
            placed = p.1;
            all = f.all;
            fixed = f.fixed;
            portions = f.portions;
            given = record { left = f.left; cut = f.cut; ahead = r.ahead; these = f.these };
            few = f.few;
          };
    }
