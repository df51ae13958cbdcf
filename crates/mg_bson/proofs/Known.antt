-- What needs no second test, once the bytes were checked.
use Rattle.std.proofs.Common.{◌≡◌, ℕ, zero, suc, ◌+◌, ◌-◌, ◌≤◌, ◌<◌, List, [], ◌∷◌, length, get_or, take, drop, ltb, eqb, cond, true, Option, Some, None, option_map, is_some, refl, sym, ap, subst, ◌∙◌, arith, ltb-false}
use Rattle.std.specs.Str.{IsUtf8, is_utf8}
use Rattle.std.proofs.lemmas.List.{drop-take, take_all}
use Rattle.std.proofs.lemmas.Bool.{eqb-true}
use Rattle.std.proofs.lemmas.Str.{IsUtf8-from_is_utf8, IsUtf8-from_ascii}
use Rattle.mg_bson.specs.declared.kind.Kind.{Kind}
use Rattle.mg_bson.specs.Kind.{kind_at}
use Rattle.mg_bson.specs.Reading.{◌>>=◌, cut, utf8_of, le32_at, Element, element_at, text_at, regex_at, fields_at, doc_at, fixed}
use Rattle.mg_bson.specs.Raw.{AreFields}
use Rattle.mg_bson.specs.ReadView.{element_with, ended_text}
use Rattle.mg_bson.specs.Tree.{Tree, regex}
use Rattle.mg_bson.proofs.Options.{bind_some, bind_same, some_there, some_is, guard_some, test_some}
use Rattle.mg_bson.proofs.Cutting.{text_is}
use Rattle.mg_bson.proofs.Elements.{fields_at-front}

take_ascii : (bs : List ℕ) (i k : ℕ) → ((j : ℕ) → j < i → get_or bs j 0 < 128) → get_or (take i bs) k 0 < 128
take_ascii [] zero k h = omega arith
take_ascii [] (suc i) k h = omega arith
take_ascii (b ∷ bs) zero k h = omega arith
take_ascii (b ∷ bs) (suc i) zero h = h 0 (omega arith)
take_ascii (b ∷ bs) (suc i) (suc k) h = take_ascii bs i k (λ j q. h (suc j) (omega arith))

-- bytes below 128 are a text
pub ascii_front : (bs : List ℕ) (i : ℕ) → ((j : ℕ) → j < i → get_or bs j 0 < 128) → IsUtf8 (take i bs)
ascii_front bs i h = IsUtf8-from_ascii (take i bs) (λ k. take_ascii bs i k h)

pub text_there : (bs t : List ℕ) → utf8_of bs ≡ Some t → IsUtf8 bs × (bs ≡ t)
unfolding utf8_of
text_there bs t e =
    let is = test_some (is_utf8 bs) (Some bs) t e in
    (IsUtf8-from_is_utf8 bs is.0, some_is bs t is.1)

-- a name in front of checked elements is a text
pub name_is_text : (b : ℕ) (bs name rest : List ℕ) → AreFields (b ∷ bs) → cut bs ≡ Some (name, rest) → IsUtf8 name
unfolding element_at
name_is_text b bs name rest h e =
    let there = some_there (fields_at (doc_at 99) (b ∷ bs)) h in
    let front = bind_some (element_at (b ∷ bs)) _ there.0 (sym (fields_at-front (doc_at 99) b bs) ∙ there.1) in
    let k = bind_some (kind_at b) _ front.0 front.1 in
    let c = bind_some (cut bs) _ front.0 k.2 in
    let text = bind_some (utf8_of c.0.0) _ front.0 c.2 in
    subst (λ (p : List ℕ × List ℕ). IsUtf8 p.0) (some_is c.0 (name, rest) (sym c.1 ∙ e)) (text_there c.0.0 text.0 text.1).0

pub name_known : (bs name rest : List ℕ) → AreFields bs → 1 ≤ length bs → cut (take (length bs - 1) (drop 1 bs)) ≡ Some (name, rest) → IsUtf8 name
name_known [] name rest h long e = absurd (omega arith)
name_known (b ∷ bs) name rest h long e =
    let all : take (length (b ∷ bs) - 1) bs ≡ bs = take_all (length (b ∷ bs) - 1) bs (omega arith) in
    name_is_text b bs name rest h (ap cut (sym all) ∙ e)

-- an element whose name is known to be a text
pub known_element : (bs name after : List ℕ) (k : Kind) (r : Option Element) → 1 ≤ length bs → Some k ≡ kind_at (get_or bs 0 0) → Some (name, after) ≡ cut (take (length bs - 1) (drop 1 bs)) → IsUtf8 name → r ≡ element_with k name after → r ≡ element_at bs
unfolding element_at
known_element [] name after k r long is cuts text e = absurd (omega arith)
known_element (b ∷ bs) name after k r long is cuts text e =
    let all : take (length (b ∷ bs) - 1) bs ≡ bs = take_all (length (b ∷ bs) - 1) bs (omega arith) in
    let here : cut bs ≡ Some (name, after) = sym (cuts ∙ ap cut all) in
    e ∙ sym (rw (sym is, here, text_is name text) refl)

-- a text that a 0 ends, and then what follows
abbrev beside : List ℕ → List ℕ → Option (List ℕ × List ℕ)
beside rest text = Some (text, rest)

through_text : {X : Type 0} (f : List ℕ → List ℕ → Option X) (t : Option (List ℕ)) (rest : List ℕ) → (t >>= λ text. f text rest) ≡ ((t >>= beside rest) >>= λ p. f p.0 p.1)
through_text f (Some text) rest = refl
through_text f None rest = refl

through_cut : {X : Type 0} (f : List ℕ → List ℕ → Option X) (o : Option (List ℕ × List ℕ)) → (o >>= λ c. utf8_of c.0 >>= λ text. f text c.1) ≡ ((o >>= λ c. utf8_of c.0 >>= beside c.1) >>= λ p. f p.0 p.1)
through_cut f (Some c) = through_text f (utf8_of c.0) c.1
through_cut f None = refl

through : {X : Type 0} (f : List ℕ → List ℕ → Option X) (bs : List ℕ) → (cut bs >>= λ c. utf8_of c.0 >>= λ text. f text c.1) ≡ (ended_text bs >>= λ p. f p.0 p.1)
unfolding ended_text
through f bs = through_cut f (cut bs)

-- a regular expression, text by text
regex_is : (bs : List ℕ) → regex_at bs ≡ (ended_text bs >>= λ a. ended_text a.1 >>= λ b. cond (eqb (length b.1) 0) (Some (regex a.0 b.0)) None)
unfolding regex_at
regex_is bs =
    through (λ pattern more. cut more >>= λ b. utf8_of b.0 >>= λ options. cond (eqb (length b.1) 0) (Some (regex pattern options)) None) bs
    ∙ bind_same (ended_text bs) (λ a. cut a.1 >>= λ b. utf8_of b.0 >>= λ options. cond (eqb (length b.1) 0) (Some (regex a.0 options)) None) (λ a. ended_text a.1 >>= λ b. cond (eqb (length b.1) 0) (Some (regex a.0 b.0)) None)
    (λ a h. through (λ options last. cond (eqb (length last) 0) (Some (regex a.0 options)) None) a.1)

pub regex_none : (bs : List ℕ) → ended_text bs ≡ None → regex_at bs ≡ None
regex_none bs e = regex_is bs ∙ rw e refl

pub regex_half : (bs pattern more : List ℕ) → ended_text bs ≡ Some (pattern, more) → ended_text more ≡ None → regex_at bs ≡ None
regex_half bs pattern more e f = regex_is bs ∙ rw (e, f) refl

pub regex_whole : (bs pattern more options last : List ℕ) → ended_text bs ≡ Some (pattern, more) → ended_text more ≡ Some (options, last) → regex_at bs ≡ cond (eqb (length last) 0) (Some (regex pattern options)) None
regex_whole bs pattern more options last e f = regex_is bs ∙ rw (e, f) refl

middle : (bs : List ℕ) → 5 ≤ length bs → drop 4 (take (length bs - 1) bs) ≡ take (length bs - 1 - 4) (drop 4 bs)
middle bs h =
    let same : length bs - 1 ≡ 4 + (length bs - 1 - 4) = omega arith in
    ap (λ n. drop 4 (take n bs)) same ∙ drop-take 4 (length bs - 1 - 4) bs

-- a text behind its length
pub record IsText (bs : List ℕ) : Type 0 where
  pub long : 5 ≤ length bs
  pub utf8 : IsUtf8 (take (length bs - 1 - 4) (drop 4 bs))
  pub read : text_at bs ≡ Some (take (length bs - 1 - 4) (drop 4 bs))

pub is_text : (bs : List ℕ) → is_some (text_at bs) ≡ true → IsText bs
unfolding text_at
is_text bs h =
    let there = some_there (text_at bs) h in
    let long = guard_some (ltb (length bs) 5) _ there.0 there.1 in
    let sized = test_some (eqb (le32_at bs + 4) (length bs)) _ there.0 long.1 in
    let ended = test_some (eqb (get_or bs (length bs - 1) 0) 0) _ there.0 sized.1 in
    let text = text_there (drop 4 (take (length bs - 1) bs)) there.0 ended.1 in
    let same = middle bs (ltb-false (length bs) 5 long.0) in
    record { long = ltb-false (length bs) 5 long.0; utf8 = subst IsUtf8 same text.0; read = there.1 ∙ ap Some (sym text.1 ∙ same) }

pub text_long : (bs : List ℕ) → is_some (text_at bs) ≡ true → 5 ≤ length bs
text_long bs h = (is_text bs h).long

pub mapped_there : {A B : Type 0} (f : A → B) (o : Option A) → is_some (option_map f o) ≡ true → is_some o ≡ true
mapped_there f (Some x) e = refl
mapped_there f None e = e

-- a value of a length that its kind gives
pub record IsFixed (n : ℕ) (make : List ℕ → Tree) (bs : List ℕ) : Type 0 where
  pub long : length bs ≡ n
  pub read : fixed n make bs ≡ Some (make bs)

pub is_fixed : (n : ℕ) (make : List ℕ → Tree) (bs : List ℕ) → is_some (fixed n make bs) ≡ true → IsFixed n make bs
is_fixed n make bs h =
    let there = some_there (fixed n make bs) h in
    let sized = test_some (eqb (length bs) n) (Some (make bs)) there.0 there.1 in
    record { long = eqb-true (length bs) n sized.0; read = there.1 ∙ sym sized.1 }
