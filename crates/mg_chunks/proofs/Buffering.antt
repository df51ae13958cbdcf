-- Bytes in full chunks and a rest.
use Rattle.std.proofs.Common.{◌≡◌, ◌<◌, ◌+◌, ◌*◌, ℕ, List, [], ◌∷◌, ◌++◌, length, Option, Some, None, refl, sym, ap, ◌∙◌, subst, arith, append_assoc, append-nil, length-append}
use Rattle.std.proofs.lemmas.Bool.Decides.{nat_tests}
use Rattle.std.proofs.lemmas.List.Folds.{concat-append}
use Rattle.std.specs.List.{AllByRecursion, concat}
use Rattle.std.specs.Prelude.{◌↔◌, IfNone, IfSome, IsSome, Vec, nat_le, nat_lt, option_to_list}
use Rattle.std.specs.VecDeque.{deque_len}
use Rattle.std.specs.declared.alloc.Global.{Global}
use Rattle.mg_chunks.specs.Buffers.{AreFull, HoldsCut, held_of, items_of}
use Rattle.mg_chunks.specs.declared.buffer.Buffer.{Buffer}

-- ---- full chunks

abbrev HaveLength : ℕ → List (List ℕ) → Type 0
HaveLength size cs = AllByRecursion (λ (c : List ℕ). length c ≡ size) cs

full_length : (size : ℕ) (fs : List (Vec ℕ Global)) → AreFull size fs → HaveLength size (items_of fs)
full_length size [] full = tt
full_length size (f ∷ fs) full = (full.0, full_length size fs full.1)

full_by : (size : ℕ) (fs : List (Vec ℕ Global)) → HaveLength size (items_of fs) → AreFull size fs
full_by size [] have = tt
full_by size (f ∷ fs) have = (have.0, full_by size fs have.1)

have_append : (size : ℕ) (cs ds : List (List ℕ)) → HaveLength size cs → HaveLength size ds → HaveLength size (cs ++ ds)
have_append size [] ds p q = q
have_append size (c ∷ cs) ds p q = (p.0, have_append size cs ds p.1 q)

pub items_more : (fs gs : List (Vec ℕ Global)) (v : Vec ℕ Global) → items_of ((fs ++ v ∷ []) ++ gs) ≡ items_of fs ++ v.items ∷ items_of gs
items_more [] gs v = refl
items_more (f ∷ fs) gs v = ap (λ (cs : List (List ℕ)). f.items ∷ cs) (items_more fs gs v)

-- so many chunks have so many bytes
pub full_bytes : (size : ℕ) (fs : List (Vec ℕ Global)) → AreFull size fs → length (concat (items_of fs)) ≡ length fs * size
full_bytes size [] full = omega arith
full_bytes size (f ∷ fs) full =
    let rest = full_bytes size fs full.1 in
    let both = length-append f.items (concat (items_of fs)) in
    let one = full.0 in
    omega (arith, rest, both, one)

-- one more is full
pub cut_more : (size : ℕ) (fs : List (Vec ℕ Global)) (v : Vec ℕ Global) → AreFull size fs → length v.items ≡ size → AreFull size (fs ++ v ∷ [])
cut_more size [] v full is = (is, tt)
cut_more size (f ∷ fs) v full is = (full.0, cut_more size fs v full.1 is)

pub concat_more : (fs : List (Vec ℕ Global)) (v : Vec ℕ Global) → concat (items_of (fs ++ v ∷ [])) ≡ concat (items_of fs) ++ v.items
concat_more [] v = append-nil v.items
concat_more (f ∷ fs) v = ap (λ (l : List ℕ). f.items ++ l) (concat_more fs v) ∙ sym (append_assoc f.items (concat (items_of fs)) v.items)

-- ---- what is held

pub held_bytes : (b : Buffer) → HoldsCut b → length (held_of b) ≡ length b.full.items * b.size + length b.rest.items
held_bytes b h = length-append (concat (items_of b.full.items)) b.rest.items ∙ ap (λ (n : ℕ). n + length b.rest.items) (full_bytes b.size b.full.items h.full)

-- less than a chunk stands in no full one
none_full : (b : Buffer) → HoldsCut b → length (held_of b) < b.size → (fs : List (Vec ℕ Global)) → b.full.items ≡ fs → fs ≡ []
none_full b h short [] is = refl
none_full b h short (f ∷ fs) is =
    let all = held_bytes b h in
    let long = ap length is in
    let many : length b.full.items ≡ length fs + 1 = omega (arith, long) in
    let more : (length fs + 1) * b.size ≡ length fs * b.size + b.size = omega arith in
    let whole : length (held_of b) ≡ (length fs + 1) * b.size + length b.rest.items = all ∙ ap (λ (n : ℕ). n * b.size + length b.rest.items) many in
    absurd (omega (arith, whole, more, short))

pub no_full : (b : Buffer) → HoldsCut b → length (held_of b) < b.size → b.full.items ≡ []
no_full b h short = none_full b h short b.full.items refl

pub short_rest : (b : Buffer) → HoldsCut b → length (held_of b) < b.size → held_of b ≡ b.rest.items
short_rest b h short = ap (λ (fs : List (Vec ℕ Global)). concat (items_of fs) ++ b.rest.items) (no_full b h short)

-- a chunk is held just where there are as many bytes
pub chunk_held : (b : Buffer) → HoldsCut b → nat_lt 0 (length b.full.items) ≡ nat_le b.size (length (held_of b))
chunk_held b h = by_many b.full.items refl
  where
    by_many : (fs : List (Vec ℕ Global)) → b.full.items ≡ fs → nat_lt 0 (length b.full.items) ≡ nat_le b.size (length (held_of b))
    by_many [] is =
        let all = held_bytes b h in
        let none : length b.full.items ≡ 0 = ap length is in
        let whole : length (held_of b) ≡ 0 * b.size + length b.rest.items = all ∙ ap (λ (n : ℕ). n * b.size + length b.rest.items) none in
        let short = h.short in
        grind (arith, nat_tests, none, whole, short)
    by_many (f ∷ fs) is =
        let all = held_bytes b h in
        let long = ap length is in
        let many : length b.full.items ≡ length fs + 1 = omega (arith, long) in
        let more : (length fs + 1) * b.size ≡ length fs * b.size + b.size = omega arith in
        let whole : length (held_of b) ≡ (length fs + 1) * b.size + length b.rest.items = all ∙ ap (λ (n : ℕ). n * b.size + length b.rest.items) many in
        grind (arith, nat_tests, many, more, whole)

-- ---- more is taken

-- fewer bytes than the chunk that was begun has room for
pub held_more : (b b' : Buffer) (more : List ℕ) → b'.full.items ≡ b.full.items → b'.rest.items ≡ b.rest.items ++ more → held_of b' ≡ held_of b ++ more
held_more b b' more same is =
    ap (λ (fs : List (Vec ℕ Global)). concat (items_of fs) ++ b'.rest.items) same
    ∙ ap (λ (r : List ℕ). concat (items_of b.full.items) ++ r) is
    ∙ sym (append_assoc (concat (items_of b.full.items)) b.rest.items more)

pub cut_held : (b b' : Buffer) (more : List ℕ) → HoldsCut b → b'.size ≡ b.size → b'.full.items ≡ b.full.items → b'.rest.items ≡ b.rest.items ++ more → length b.rest.items + length more < b.size → HoldsCut b'
cut_held b b' more h size same is few = record {
  sized = subst (λ (n : ℕ). 0 < n) (sym size) h.sized;
  full = subst (λ (n : ℕ). AreFull n b'.full.items) (sym size) (subst (AreFull b.size) (sym same) h.full);
  short = let many : length b'.rest.items ≡ length b.rest.items + length more = ap length is ∙ length-append b.rest.items more in omega (arith, many, size, few);
}

-- the chunk that was begun is filled, and others stand behind it
module _ (b b' : Buffer) (first behind : List ℕ) (gs : List (Vec ℕ Global)) (rest : List ℕ) (full : items_of b'.full.items ≡ items_of b.full.items ++ (b.rest.items ++ first) ∷ items_of gs) (rest_is : b'.rest.items ≡ rest) (these : behind ≡ concat (items_of gs) ++ rest) where
  pub held_filled : held_of b' ≡ held_of b ++ (first ++ behind)
  held_filled =
      let f = concat (items_of b.full.items) in
      let r = b.rest.items in
      let g = concat (items_of gs) in
      ap (λ (cs : List (List ℕ)). concat cs ++ b'.rest.items) full
      ∙ ap (λ (l : List ℕ). concat (items_of b.full.items ++ (r ++ first) ∷ items_of gs) ++ l) rest_is
      ∙ ap (λ (l : List ℕ). l ++ rest) (concat-append (items_of b.full.items) ((r ++ first) ∷ items_of gs))
      ∙ append_assoc f ((r ++ first) ++ g) rest
      ∙ ap (λ (l : List ℕ). f ++ l) (append_assoc (r ++ first) g rest ∙ append_assoc r first (g ++ rest))
      ∙ sym (append_assoc f r (first ++ (g ++ rest)))
      ∙ ap (λ (l : List ℕ). (f ++ r) ++ (first ++ l)) (sym these)

  pub cut_filled : HoldsCut b → b'.size ≡ b.size → length b.rest.items + length first ≡ b.size → AreFull b.size gs → length rest < b.size → HoldsCut b'
  cut_filled h size filled behind_full short = record {
    sized = subst (λ (n : ℕ). 0 < n) (sym size) h.sized;
    full =
        let begun : length (b.rest.items ++ first) ≡ b.size = length-append b.rest.items first ∙ filled in
        let all = have_append b.size (items_of b.full.items) ((b.rest.items ++ first) ∷ items_of gs) (full_length b.size b.full.items h.full) (begun, full_length b.size gs behind_full) in
        subst (λ (n : ℕ). AreFull n b'.full.items) (sym size) (full_by b.size b'.full.items (subst (HaveLength b.size) (sym full) all));
    short = let same : length b'.rest.items ≡ length rest = ap length rest_is in omega (arith, same, size, short);
  }

-- ---- the first chunk

pub held_popped : (b b' : Buffer) (v : Vec ℕ Global) → b.full.items ≡ v ∷ b'.full.items → b'.rest.items ≡ b.rest.items → held_of b ≡ v.items ++ held_of b'
held_popped b b' v is same =
    ap (λ (fs : List (Vec ℕ Global)). concat (items_of fs) ++ b.rest.items) is
    ∙ append_assoc v.items (concat (items_of b'.full.items)) b.rest.items
    ∙ ap (λ (r : List ℕ). v.items ++ (concat (items_of b'.full.items) ++ r)) (sym same)

first_full : (size : ℕ) (fs gs : List (Vec ℕ Global)) (v : Vec ℕ Global) → fs ≡ v ∷ gs → AreFull size fs → (length v.items ≡ size) × AreFull size gs
first_full size fs gs v is full = let all = subst (AreFull size) is full in (all.0, all.1)

pub popped_full : (b b' : Buffer) (v : Vec ℕ Global) → HoldsCut b → b.full.items ≡ v ∷ b'.full.items → length v.items ≡ b.size
popped_full b b' v h is = (first_full b.size b.full.items b'.full.items v is h.full).0

pub cut_popped : (b b' : Buffer) (v : Vec ℕ Global) → HoldsCut b → b'.size ≡ b.size → b.full.items ≡ v ∷ b'.full.items → b'.rest.items ≡ b.rest.items → HoldsCut b'
cut_popped b b' v h size is same = record {
  sized = subst (λ (n : ℕ). 0 < n) (sym size) h.sized;
  full = subst (λ (n : ℕ). AreFull n b'.full.items) (sym size) (first_full b.size b.full.items b'.full.items v is h.full).1;
  short = let long : length b'.rest.items ≡ length b.rest.items = ap length same in let short = h.short in omega (arith, long, size, short);
}

-- where none is full what is held does not fill one
pub held_short : (b : Buffer) → HoldsCut b → b.full.items ≡ [] → length (held_of b) < b.size
held_short b h none =
    let all = held_bytes b h in
    let many : length b.full.items ≡ 0 = ap length none in
    let whole : length (held_of b) ≡ 0 * b.size + length b.rest.items = all ∙ ap (λ (n : ℕ). n * b.size + length b.rest.items) many in
    let short = h.short in
    omega (arith, whole, short)

-- ---- the same bytes in other room

pub held_as : (b b' : Buffer) → b'.full.items ≡ b.full.items → b'.rest.items ≡ b.rest.items → held_of b' ≡ held_of b
held_as b b' same is = ap (λ (fs : List (Vec ℕ Global)). concat (items_of fs) ++ b'.rest.items) same ∙ ap (λ (r : List ℕ). concat (items_of b.full.items) ++ r) is

pub cut_as : (b b' : Buffer) → HoldsCut b → b'.size ≡ b.size → b'.full.items ≡ b.full.items → b'.rest.items ≡ b.rest.items → HoldsCut b'
cut_as b b' h size same is = record {
  sized = subst (λ (n : ℕ). 0 < n) (sym size) h.sized;
  full = subst (λ (n : ℕ). AreFull n b'.full.items) (sym size) (subst (AreFull b.size) (sym same) h.full);
  short = let long : length b'.rest.items ≡ length b.rest.items = ap length is in let short = h.short in omega (arith, long, size, short);
}

-- ---- what a deque gave

module _ (b b' : Buffer) (h : HoldsCut b) (size : b'.size ≡ b.size) (same : b'.rest.items ≡ b.rest.items) where
  pub popped_some : (r : Option (Vec ℕ Global)) → b.full.items ≡ option_to_list r ++ b'.full.items → IfSome r (λ chunk. (held_of b ≡ chunk.items ++ held_of b') × (length chunk.items ≡ b.size))
  popped_some None is = tt
  popped_some (Some v) is = (held_popped b b' v is same, popped_full b b' v h is)

  pub popped_cut : (r : Option (Vec ℕ Global)) → b.full.items ≡ option_to_list r ++ b'.full.items → HoldsCut b'
  popped_cut None is = cut_as b b' h size (sym is) same
  popped_cut (Some v) is = cut_popped b b' v h size is same

  none_there : (fs : List (Vec ℕ Global)) → b.full.items ≡ fs → (IsSome {T = Vec ℕ Global} None ↔ (0 < deque_len b.full)) → fs ≡ []
  none_there [] is means = refl
  none_there (f ∷ fs) is means =
      let long = ap length is in
      let many : length b.full.items ≡ length fs + 1 = omega (arith, long) in
      let counted = b.full.ok.0 in
      let bad = means.1 (omega (arith, many, counted)) in
      absurd cc

  pub popped_none : (r : Option (Vec ℕ Global)) → b.full.items ≡ option_to_list r ++ b'.full.items → (IsSome r ↔ (0 < deque_len b.full)) → IfNone r ((held_of b' ≡ held_of b) × (length (held_of b) < b.size))
  popped_none (Some v) is means = tt
  popped_none None is means = (held_as b b' (sym is) same, held_short b h (none_there b.full.items refl means))
