-- A store in memory grows by entries of its own rules.
use Rattle.std.proofs.Common.{◌≡◌, ℕ, suc, ◌+◌, ◌<◌, ◌≤◌, ◌^◌, Bool, true, false, List, [], ◌∷◌, ◌++◌, length, Option, Some, None, refl, sym, ap, ap₂, ◌∙◌, subst, inl, inr, arith, le_trans, le_refl, length-append}
use Rattle.std.specs.Prelude.{if◌then◌else◌}
use Rattle.mg_bson.specs.Tree.{Tree}
use Rattle.mg_server.specs.Filter.{is_same}
use Rattle.mg_server.specs.State.{Entry, Cursor, query, watching, State, name}
use Rattle.mg_server.specs.Step.{Made, name_entries, name_all, grown, entry_names, AreNewNames, AreWithin, MayGrow}
use Rattle.mg_server.specs.Rules.{token_of, token_place, now_of}
use Rattle.mg_server.specs.Kept.{first_tokens, made_none, made_these, IsStoreEntry, AreStoreEntries, IsStoreCursor, IsStoreTime, IsStoreState}
use Rattle.mg_server.proofs.Tokens.{token_places, token_places-all, token_places-none, token_places-more, above_unnamed, zero_unnamed, zero_named}

-- ---- tokens

-- the tokens that are there are those of the places up to the last, or none before the first step
tokens_before : (s : State) (given : ℕ) (started : Bool) → IsStoreState s given started → (t : Tree) → s.tokens t ≡ token_places started (length s.changes) t
tokens_before s given true h t = h.tokens_are t ∙ sym (token_places-all (length s.changes) t)
tokens_before s given false h t = h.tokens_are t ∙ subst (λ (es : List Entry). None ≡ token_places false (length es) t) (sym (h.empty_before refl)) (sym (token_places-none t))

named_more : (first : Bool) (place : ℕ) (e : Entry) (tokens : Tree → Option ℕ) → IsStoreEntry place e → ((t : Tree) → tokens t ≡ token_places first place t) → (t : Tree) → name e.token (suc place) tokens t ≡ token_places first (suc place) t
named_more first place e tokens h known t =
    ap₂ (λ (u : Tree) (o : Option ℕ). if is_same t u then Some (suc place) else o) h.token_is (known t) ∙ sym (token_places-more first place t)

entries_named : (first : Bool) (place : ℕ) (es : List Entry) (tokens : Tree → Option ℕ) → AreStoreEntries place es → ((t : Tree) → tokens t ≡ token_places first place t) → (t : Tree) → name_entries place es tokens t ≡ token_places first (place + length es) t
entries_named first place [] tokens h known t = let e : place ≡ place + 0 = omega arith in known t ∙ ap (λ (n : ℕ). token_places first n t) e
entries_named first place (e ∷ es) tokens h known t =
    let more = entries_named first (suc place) es (name e.token (suc place) tokens) h.1 (named_more first place e tokens h.0 known) t in
    let f : suc place + length es ≡ place + suc (length es) = omega arith in
    more ∙ ap (λ (n : ℕ). token_places first n t) f

all_named : (started : Bool) (n : ℕ) (tokens : Tree → Option ℕ) → n < 2 ^ 64 → ((t : Tree) → tokens t ≡ token_places started n t) → (t : Tree) → name_all (first_tokens started) tokens t ≡ token_place n t
all_named true n tokens lt known t = known t ∙ token_places-all n t
all_named false n tokens lt known t = ap (λ (o : Option ℕ). if is_same t (token_of 0) then Some 0 else o) (known t) ∙ zero_named n t lt ∙ token_places-all n t

-- the first tokens are new behind the entries
abbrev AreNewBehind : Bool → ℕ → ℕ → Type 0
AreNewBehind started place end = (tokens : Tree → Option ℕ) → ((t : Tree) → tokens t ≡ token_places started place t) → AreNewNames end tokens (first_tokens started)

first_new : (started : Bool) (place end : ℕ) → place < 2 ^ 64 → AreNewBehind started place end
first_new true place end lt tokens known = tt
first_new false place end lt tokens known = (known (token_of 0) ∙ zero_unnamed place lt, omega arith, tt)

entries_new : (started : Bool) (place end : ℕ) (es : List Entry) (tokens : Tree → Option ℕ) → AreStoreEntries place es → ((t : Tree) → tokens t ≡ token_places started place t) → place + length es ≤ end → end < 2 ^ 64
    → AreNewNames end tokens (entry_names place es ++ first_tokens started)
entries_new started place end [] tokens h known le lt = first_new started place end (omega arith) tokens known
entries_new started place end (e ∷ es) tokens h known le lt =
    let fresh : tokens e.token ≡ None = ap tokens h.0.token_is ∙ known (token_of (suc place)) ∙ above_unnamed started place (suc place) (omega arith) (omega arith) in
    (fresh, omega arith, entries_new started (suc place) end es (name e.token (suc place) tokens) h.1 (named_more started place e tokens h.0 known) (omega arith) lt)

-- ---- times

pub now_rises : (a b : ℕ) → a ≤ b → now_of a ≤ now_of b
now_rises a b le = omega arith

pub now_below : (s : State) (given : ℕ) (started : Bool) → IsStoreState s given started → s.now ≤ now_of (length s.changes)
now_below s given started h = elim h.time_is [ inl e ↦ omega arith | inr e ↦ let n = e.0 in omega arith ]

entries_within : (from upto place : ℕ) (es : List Entry) → AreStoreEntries place es → from ≤ now_of place → now_of (place + length es) ≤ upto → AreWithin from upto es
entries_within from upto place [] h low high = tt
entries_within from upto place (e ∷ es) h low high =
    let t = h.0.time_is in
    let a = now_rises place (suc place) (omega arith) in
    let b = now_rises (suc place) (place + suc (length es)) (omega arith) in
    let f : suc place + length es ≡ place + suc (length es) = omega arith in
    let high' : now_of (suc place + length es) ≤ upto = subst (λ (n : ℕ). now_of n ≤ upto) (sym f) high in
    (subst (λ (n : ℕ). from ≤ n) (sym t) (le_trans low a), subst (λ (n : ℕ). n ≤ upto) (sym t) (le_trans b high), entries_within from upto (suc place) es h.1 (le_trans low a) high')

-- ---- the state

entries_join : (place : ℕ) (xs ys : List Entry) → AreStoreEntries place xs → AreStoreEntries (place + length xs) ys → AreStoreEntries place (xs ++ ys)
entries_join place [] ys h g = let e : place + 0 ≡ place = omega arith in subst (λ (n : ℕ). AreStoreEntries n ys) e g
entries_join place (x ∷ xs) ys h g =
    let e : place + suc (length xs) ≡ suc place + length xs = omega arith in
    (h.0, entries_join (suc place) xs ys h.1 (subst (λ (n : ℕ). AreStoreEntries n ys) e g))

cursor_stays : (n m : ℕ) (c : Cursor) → n ≤ m → IsStoreCursor n c → IsStoreCursor m c
cursor_stays n m (watching w place) le h = le_trans h le
cursor_stays n m (query space left) le h = tt

-- a step that adds entries of the rules, behind which the time is this one
abbrev with_now : Bool → List Entry → ℕ → Made
with_now started es now = record { entries = es; tokens = first_tokens started; now = now }

grows_by : (s : State) (given : ℕ) (started : Bool) (es : List Entry) (now : ℕ) → IsStoreState s given started → AreStoreEntries (length s.changes) es → length s.changes + length es < 2 ^ 64
    → s.now ≤ now → AreWithin s.now now es → MayGrow s (with_now started es now)
grows_by s given started es now h are lt later within = record {
  later = later;
  times = within;
  names = entries_new started (length s.changes) (length s.changes + length es) es s.tokens are (tokens_before s given started h) (omega arith) lt;
}

state_by : (s : State) (given : ℕ) (started : Bool) (es : List Entry) (now : ℕ) → IsStoreState s given started → AreStoreEntries (length s.changes) es → length s.changes + length es < 2 ^ 64
    → IsStoreTime (length s.changes + length es) now → IsStoreState (grown s (with_now started es now)) given true
unfolding grown
state_by s given started es now h are lt time =
    let n : length (s.changes ++ es) ≡ length s.changes + length es = length-append s.changes es in
    record {
      entries_are = entries_join 0 s.changes es h.entries_are (let e : length s.changes ≡ 0 + length s.changes = omega arith in subst (λ (k : ℕ). AreStoreEntries k es) e are);
      tokens_are = λ t. all_named started (length s.changes + length es) (name_entries (length s.changes) es s.tokens) lt (entries_named started (length s.changes) es s.tokens are (tokens_before s given started h)) t ∙ ap (λ (k : ℕ). token_place k t) (sym n);
      ids_are = h.ids_are;
      cursors_are = λ id c there. let old = h.cursors_are id c there in (cursor_stays (length s.changes) (length (s.changes ++ es)) c (omega arith) old.0, old.1);
      time_is = subst (λ (k : ℕ). IsStoreTime k now) (sym n) time;
      empty_before = λ e. absurd cc;
    }

-- a step that adds these entries of the rules is one that a server may take
pub grows_these : (s : State) (given : ℕ) (started : Bool) (es : List Entry) → IsStoreState s given started → AreStoreEntries (length s.changes) es → length s.changes + length es < 2 ^ 64 → MayGrow s (made_these s started es)
grows_these s given started es h are lt =
    let below = now_below s given started h in
    let later = now_rises (length s.changes) (length s.changes + length es) (omega arith) in
    grows_by s given started es (now_of (length s.changes + length es)) h are lt (le_trans below later) (entries_within s.now (now_of (length s.changes + length es)) (length s.changes) es are below (le_refl _))

pub state_these : (s : State) (given : ℕ) (started : Bool) (es : List Entry) → IsStoreState s given started → AreStoreEntries (length s.changes) es → length s.changes + length es < 2 ^ 64 → IsStoreState (grown s (made_these s started es)) given true
state_these s given started es h are lt = state_by s given started es (now_of (length s.changes + length es)) h are lt (inl refl)

-- and so is one that adds none
pub grows_none : (s : State) (given : ℕ) (started : Bool) → IsStoreState s given started → length s.changes < 2 ^ 64 → MayGrow s (made_none s started)
grows_none s given started h lt = grows_by s given started [] s.now h tt (omega arith) (le_refl _) tt

pub state_none : (s : State) (given : ℕ) (started : Bool) → IsStoreState s given started → length s.changes < 2 ^ 64 → IsStoreState (grown s (made_none s started)) given true
state_none s given started h lt =
    let e : length s.changes ≡ length s.changes + 0 = omega arith in
    state_by s given started [] s.now h tt (omega arith) (subst (λ (k : ℕ). IsStoreTime k s.now) e h.time_is)
