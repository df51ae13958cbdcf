-- A file that an upload stored stays whole behind the step of its record.
use Rattle.std.proofs.Common.{◌≡◌, ◌⊎◌, ◌<◌, ◌≤◌, ◌+◌, ◌-◌, ◌++◌, ℕ, suc, List, length, take, drop, Some, sym, ap, ◌∙◌, subst, inl, inr, arith}
use Rattle.std.specs.Prelude.{slice_get}
use Rattle.std.proofs.lemmas.Bool.{cases_lt}
use Rattle.std.proofs.lemmas.List.{take-append-drop, take-take, take_all}
use Rattle.mg_bson.specs.Tree.{Fields, Tree}
use Rattle.mg_server.specs.Calls.{Past}
use Rattle.mg_server.specs.Commands.{asked, told}
use Rattle.mg_link.specs.Chunks.{chunked}
use Rattle.mg_link.specs.Exec.{Sending}
use Rattle.mg_link.specs.Link.{Awaited}
use Rattle.mg_link.specs.Log.{Call}
use Rattle.mg_link.proofs.Places.{get_back, get_joined, get_some, get_take, get_within, taken_below, taken_get}
use Rattle.mg_server.specs.Files.{AreChunks, Bucket, File, IsWhole, LeavesFile, file_of}
use Rattle.mg_server.specs.Filing.{HasInserted, IsOwnStep, OthersLeave}
use Rattle.mg_server.specs.Follow.{CameAs}
use Rattle.mg_server.specs.History.{IsLegal, Step, state_of}
use Rattle.mg_server.specs.Standing.{Stands, cut}
use Rattle.mg_server.specs.State.{State}
use Rattle.mg_server.proofs.Files.{quiet_stays}
use Rattle.mg_server.proofs.Fronts.{First, Firsts, a_first, firsts, front_stands, no_first}
use Rattle.mg_server.proofs.Owners.{same_some}
use Rattle.mg_server.proofs.SelfMade.{front_before}
use Rattle.mg_gridfs.specs.Laws.{IsLater, IsNewestStep, WholeFrom}
use Rattle.mg_gridfs.specs.Storing.{HasStored, KnowsUpload}
use Rattle.mg_gridfs.specs.Uploads.{ClientUpload, Ending, IsBetween, busy, close, records, upload_ticket}
use Rattle.mg_gridfs.proofs.Holding.{recorded_is_whole, stored_is_whole}

-- ---- a file that is left

-- a file that is left from one position up to another, which may lie behind the history
pub stays_until : (history : List Step) (b : Bucket) (id : Tree) (from upto : ℕ) → from ≤ upto → from ≤ length history
    → ((position : ℕ) (step : Step) → from ≤ position → position < upto → slice_get history position ≡ Some step → LeavesFile (state_of (take position history)) step b id)
    → file_of (state_of (take upto history)) b id ≡ file_of (state_of (take from history)) b id
stays_until history b id from upto le within leaves = elim (cases_lt (length history) upto) [
  | inl beyond ↦
      let n : ℕ = length history - from in
      let e : from + n ≡ length history = omega arith in
      let all : take upto history ≡ take (from + n) history = take_all upto history (omega arith) ∙ sym (take_all (from + n) history (omega arith)) in
      ap (λ (h : List Step). file_of (state_of h) b id) all
      ∙ quiet_stays history b id from n (omega arith) (λ position step low high there. leaves position step low (omega arith) there)
  | inr inside ↦
      let n : ℕ = upto - from in
      let e : from + n ≡ upto = omega arith in
      ap (λ (k : ℕ). file_of (state_of (take k history)) b id) (sym e)
      ∙ quiet_stays history b id from n (omega arith) (λ position step low high there. leaves position step low (omega arith) there)
]

-- where the file is the same it is whole as before
pub whole_same : (s s' : State) (b : Bucket) (id : Tree) (bytes : List ℕ) (size : ℕ) → file_of s' b id ≡ file_of s b id → IsWhole s b id bytes size → IsWhole s' b id bytes size
whole_same s s' b id bytes size same w =
    record {
      record_of = w.record_of;
      alone = ap (λ (f : File). f.records) same ∙ w.alone;
      length_is = w.length_is;
      size_is = w.size_is;
      chunks_are = subst (λ (ks : List Fields). AreChunks 0 (chunked size bytes) ks) (sym (ap (λ (f : File). f.chunks) same)) w.chunks_are;
    }

-- ---- the history of an earlier log

-- The earlier log stands in a front of the history, in which each step of the upload is one of that log.
record Front (past past' : Past) (history : List Step) : Type 0 where
  upto : ℕ
  within : upto ≤ length history
  legal : IsLegal (take upto history)
  stands : Stands past.calls (take upto history)
  old : (position : ℕ) → position < upto → IsOwnStep past' position → IsOwnStep past position

module _ (past past' : Past) (later : IsLater past past') where
  -- a step of the earlier log is one of the later one
  own_later : (position : ℕ) → IsOwnStep past position → IsOwnStep past' position
  own_later position own =
      let g = later.grown.keeps own.place own.call own.there in
      record { place = own.place; own = later.own own.place (get_within past.calls own.place own.call own.there) own.own; call = g.0; there = g.1; placed = g.3 ∙ own.placed }

  -- and back, where its call stood in the earlier one
  own_back : (position : ℕ) (own : IsOwnStep past' position) → own.place < length past.calls → IsOwnStep past position
  own_back position own old =
      let c = get_some past.calls own.place old in
      let g = later.grown.keeps own.place c.0 c.1 in
      let same : g.0 ≡ own.call = same_some g.0 own.call (sym g.1 ∙ own.there) in
      record { place = own.place; own = later.only own.place old own.own; call = c.0; there = c.1; placed = sym g.3 ∙ ap (λ (x : Call). x.position) same ∙ own.placed }

  module _ (history : List Step) (legal : IsLegal history) (stands : Stands past'.calls history) where
    abbrev long : ℕ
    long = length past.calls

    abbrev before : List Call
    before = take long past'.calls

    abbrev new : List Call
    new = drop long past'.calls

    joined : Stands (before ++ new) history
    joined = subst (λ (l : List Call). Stands l history) (sym (take-append-drop long past'.calls)) stands

    -- the earlier log in what the front of the later one stands in
    stands_before : (h : List Step) → Stands before h → Stands past.calls h
    stands_before h front = subst (λ (l : List Call). Stands l h) (take_all long past.calls (omega arith)) (front_before past.calls past'.calls long h later.grown (omega arith) front)

    -- the call of a step stood in the earlier log, or is one behind it
    old_or_new : (position : ℕ) → IsOwnStep past' position → IsOwnStep past position ⊎ ((j : ℕ) × (c : Call) × (slice_get new j ≡ Some c) × (c.position ≡ Some position))
    old_or_new position own =
        elim (get_joined before new own.place own.call (subst (λ (l : List Call). slice_get l own.place ≡ Some own.call) (sym (take-append-drop long past'.calls)) own.there)) [
          | inl old ↦ inl (own_back position own (taken_below long past'.calls own.place own.call old))
          | inr x ↦ inr (x.0, own.call, x.2, own.placed)
        ]

    front_by : Firsts new → Front past past' history
    front_by (no_first e none) =
        let parts = subst (λ o. IsLegal (cut o history) × Stands before (cut o history)) e (front_stands before new history legal joined) in
        let all : history ≡ take (length history) history = sym (take_all (length history) history (omega arith)) in
        record {
          upto = length history;
          within = omega arith;
          legal = subst IsLegal all parts.0;
          stands = subst (Stands past.calls) all (stands_before history parts.1);
          old = λ position less own. elim (old_or_new position own) [ inl old ↦ old | inr x ↦ absurd (none x.0 x.1 position x.2 x.3) ];
        }
    front_by (a_first p e first) =
        let parts = subst (λ o. IsLegal (cut o history) × Stands before (cut o history)) e (front_stands before new history legal joined) in
        let step = joined.same (length before + first.at) first.call p (get_back before new first.at first.call first.found) first.placed in
        let inside = get_within history p step.0 step.1 in
        record {
          upto = p;
          within = omega (arith, inside);
          legal = parts.0;
          stands = stands_before (take p history) parts.1;
          old = λ position less own. elim (old_or_new position own) [ inl old ↦ old | inr x ↦ absurd (not_below p first position less x.0 x.1 x.2 x.3) ];
        }
      where
        not_below : (p : ℕ) (first : First new p) (position : ℕ) → position < p → (j : ℕ) (c : Call) → slice_get new j ≡ Some c → c.position ≡ Some position → ⊥
        not_below p first position less j c found placed =
            let low : first.at ≤ j = first.least j c position found placed in
            elim (cases_lt first.at j) [
              | inl above ↦
                  let up = joined.rising (length before + first.at) (length before + j) first.call c p position (omega (arith, above)) (get_back before new first.at first.call first.found) (get_back before new j c found) first.placed placed in
                  omega (arith, up, less)
              | inr below ↦
                  let is : first.at ≡ j = omega (arith, low, below) in
                  let same : first.call ≡ c = same_some first.call c (sym first.found ∙ subst (λ (i : ℕ). slice_get new i ≡ Some c) (sym is) found) in
                  let one : p ≡ position = same_some p position (sym first.placed ∙ ap (λ (x : Call). x.position) same ∙ placed) in
                  omega (arith, one, less)
            ]

    front : Front past past' history
    front = front_by (firsts new)

    -- ---- from the end of that front

    module _ (at : Bucket) (id : Tree) (others : OthersLeave past' history at id) (position : ℕ) (newest : IsNewestStep past position) where
      abbrev upto : ℕ
      upto = front.upto

      early : others.from ≤ position
      early = others.later position (own_later position newest.own)

      inside : position < upto
      inside =
          let s = front.stands.same newest.own.place newest.own.call position newest.own.there newest.own.placed in
          taken_below upto history position s.0 s.1

      -- nobody else touched the file in it
      others_so : OthersLeave past (take upto history) at id
      others_so =
          let low = early in
          let within = inside in
          record {
            from = others.from;
            nothing = ap (λ (h : List Step). file_of (state_of h) at id) (take-take others.from upto history (omega (arith, low, within))) ∙ others.nothing;
            later = λ p own. others.later p (own_later p own);
            each = λ p step from there.
                let less = taken_below upto history p step there in
                elim (others.each p step from (taken_get upto history p step there)) [
                  | inl own ↦ inl (front.old p less own)
                  | inr leaves ↦ inr (subst (λ (h : List Step). LeavesFile (state_of h) step at id) (sym (take-take p upto history (omega (arith, less)))) leaves)
                ];
          }

      -- a file that is whole there is whole from right behind that step on
      whole_from : (bytes : List ℕ) (size : ℕ) → IsWhole (state_of (take upto history)) at id bytes size → (to : ℕ) → position < to → ((other : ℕ) → IsOwnStep past' other → position < other → to ≤ other) → IsWhole (state_of (take to history)) at id bytes size
      whole_from bytes size w to behind none =
          let low = early in
          let less = inside in
          let within = front.within in
          let there : file_of (state_of (take to history)) at id ≡ file_of (state_of (take (suc position) history)) at id
          = stays_until history at id (suc position) to (omega (arith, behind)) (omega (arith, less, within)) (λ p step from below found. elim (others.each p step (omega (arith, low, from)) found) [
            | inl own ↦ let up = none p own (omega (arith, from)) in absurd (omega (arith, up, below))
            | inr leaves ↦ leaves
          ]) in
          let here : file_of (state_of (take upto history)) at id ≡ file_of (state_of (take (suc position) history)) at id
          = stays_until history at id (suc position) upto (omega (arith, less)) (omega (arith, less, within)) (λ p step from below found. elim (others.each p step (omega (arith, low, from)) found) [
            | inl own ↦ let most = newest.newest p (front.old p below own) in absurd (omega (arith, most, from))
            | inr leaves ↦ leaves
          ]) in
          whole_same (state_of (take upto history)) (state_of (take to history)) at id bytes size (there ∙ sym here) w

-- ---- what an upload left

-- Once the server took the insert of its record, which was on its way.
pub recorded_stays : (awaited : Awaited) (past past' : Past) (at : Bucket) (u : ClientUpload) (taken : List ℕ) → IsBetween u → (sending : Sending) (ending : Ending) → u.doing ≡ busy close (records sending ending) → (ticket : ℕ) → upload_ticket u ≡ Some ticket → KnowsUpload awaited past at u taken → IsLater past past'
    → (history : List Step) → IsLegal history → Stands past'.calls history → OthersLeave past' history at u.aim.id → (position : ℕ) (step : Step) → CameAs past.calls history (awaited ticket) position step → IsNewestStep past position → HasInserted (told (asked sending.command) step.reply) → WholeFrom past' history at u taken position
recorded_stays awaited past past' at u taken between sending ending doing ticket held k later history legal stands others position step came newest inserted =
    let f = front past past' later history legal stands in
    let less : position < f.upto = inside past past' later history legal stands at u.aim.id others position newest in
    let came_so : CameAs past.calls (take f.upto history) (awaited ticket) position step
    = (came.0, came.1, record { call = came.2.call; found = came.2.found; placed = came.2.placed; there = get_take f.upto history position less ∙ came.2.there }) in
    whole_from past past' later history legal stands at u.aim.id others position newest taken u.aim.size
    (recorded_is_whole awaited past at u taken between sending ending doing ticket held k (take f.upto history) f.legal f.stands (others_so past past' later history legal stands at u.aim.id others position newest) position step came_so inserted)

-- Once its close is done.
pub stored_stays : (past past' : Past) (at : Bucket) (u : ClientUpload) (taken : List ℕ) → HasStored past at u taken → IsLater past past' → (history : List Step) → IsLegal history → Stands past'.calls history → OthersLeave past' history at u.aim.id → (position : ℕ) → IsNewestStep past position → WholeFrom past' history at u taken position
stored_stays past past' at u taken h later history legal stands others position newest =
    let f = front past past' later history legal stands in
    whole_from past past' later history legal stands at u.aim.id others position newest taken u.aim.size
    (stored_is_whole past at u taken h (take f.upto history) f.legal f.stands (others_so past past' later history legal stands at u.aim.id others position newest))
