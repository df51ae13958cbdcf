-- The tokens of a store in memory, and the places that they name.
use Rattle.std.proofs.Common.{◌≡◌, ℕ, zero, suc, ◌+◌, ◌<◌, ◌≤◌, ◌^◌, ◌%◌, ◌/◌, Bool, true, false, List, [], ◌∷◌, ◌++◌, length, drop, Option, Some, None, refl, sym, ap, ◌∙◌, subst, inl, inr, arith, lit≤, length-append}
use Rattle.std.specs.Prelude.{if◌then◌else◌, nat_lt, ◌&&◌, codes}
use Rattle.std.specs.Int.{w64, to_be_bytes, from_be_bytes, bytes_high_first, byte_at}
use Rattle.std.specs.Str.{bytes_eq}
use Rattle.std.proofs.lemmas.Bool.{cases_Bool, cases_eq, both_ways, false_from_ne_true, and_parts, ltb-true}
use Rattle.std.proofs.lemmas.List.{append_cancel_right}
use Rattle.std.proofs.lemmas.Nat.{from_be_bytes-to_be_bytes_8}
use Rattle.std.proofs.lemmas.Slice.Eq.{bytes_eq-Decides}
use Rattle.std.specs.Str.{IsAscii, IsUtf8}
use Rattle.std.proofs.lemmas.Str.{IsUtf8-from_ascii}
use Rattle.std.proofs.lemmas.Str.Ascii.{IsAscii-nil, IsAscii-cons}
use Rattle.hex.specs.Hex.{encode_lower, decode_of, IsBytes, lower_digits}
use Rattle.hex.proofs.HexLemmas.{IsAscii-encode_with, length-encode_with, decode_of-encode_lower, decode_of-same}
use Rattle.mg_bson.specs.Tree.{Tree, string, document, Fields, no_fields, field}
use Rattle.mg_bson.specs.Bytes.{le32, text_bytes, framed, fields_bytes}
use Rattle.mg_bson.specs.Writable.{IsName, IsWritable, max_len}
use Rattle.mg_bson.proofs.Numbers.{length-le32}
use Rattle.mg_bson.proofs.RoundTrip.{written_once}
use Rattle.mg_server.specs.Filter.{key, is_same}
use Rattle.mg_server.specs.Rules.{token_of, token_place}

-- ---- tokens of different places differ

hex_again : (xs ys : List ℕ) → IsBytes xs → IsBytes ys → encode_lower xs ≡ encode_lower ys → xs ≡ ys
hex_again xs ys h g e =
    let a = decode_of-encode_lower xs h in
    let b = decode_of-encode_lower ys g in
    decode_of-same (encode_lower xs) xs ys a (ap decode_of e ∙ b)

no_bytes : IsBytes []
no_bytes i = omega arith

more_bytes : (b : ℕ) (bs : List ℕ) → b < 256 → IsBytes bs → IsBytes (b ∷ bs)
more_bytes b bs lt h zero = lt
more_bytes b bs lt h (suc i) = h i

low_byte : (n : ℕ) → n % 256 < 256
low_byte n = omega arith

byte_low : (n x : ℕ) → byte_at n x < 256
byte_low zero x = low_byte x
byte_low (suc n) x = low_byte (x / 256 ^ suc n)

high_bytes : (n x : ℕ) → IsBytes (bytes_high_first n x)
high_bytes zero x = no_bytes
high_bytes (suc n) x = more_bytes (byte_at n x) (bytes_high_first n x) (byte_low n x) (high_bytes n x)

pub number_bytes : (p : ℕ) → IsBytes (to_be_bytes w64 p)
number_bytes p = high_bytes 8 p

place_text : ℕ → List ℕ
place_text p = encode_lower (to_be_bytes w64 p)

-- the text of a place stands in the encoding behind 21 bytes
key_behind : (p : ℕ) → drop 21 (key (token_of p)) ≡ ((((place_text p ++ 0 ∷ []) ++ []) ++ 0 ∷ []) ++ []) ++ 0 ∷ []
unfolding le32 place_text
key_behind p = refl

ends_off : (xs ys : List ℕ) → ((((xs ++ 0 ∷ []) ++ []) ++ 0 ∷ []) ++ []) ++ 0 ∷ [] ≡ ((((ys ++ 0 ∷ []) ++ []) ++ 0 ∷ []) ++ []) ++ 0 ∷ [] → xs ≡ ys
ends_off xs ys e =
    append_cancel_right xs ys _ (append_cancel_right _ _ _ (append_cancel_right _ _ _ (append_cancel_right _ _ _ (append_cancel_right _ _ _ e))))

same_place : (p q : ℕ) → p < 2 ^ 64 → q < 2 ^ 64 → key (token_of p) ≡ key (token_of q) → p ≡ q
unfolding place_text
same_place p q lt lt' e =
    let texts = ends_off (place_text p) (place_text q) (sym (key_behind p) ∙ ap (drop 21) e ∙ key_behind q) in
    let numbers = hex_again (to_be_bytes w64 p) (to_be_bytes w64 q) (number_bytes p) (number_bytes q) texts in
    sym (from_be_bytes-to_be_bytes_8 p lt) ∙ ap (from_be_bytes w64) numbers ∙ from_be_bytes-to_be_bytes_8 q lt'

pub is_same_self : (t : Tree) → is_same t t ≡ true
is_same_self t = (bytes_eq-Decides (key t) (key t)).1 refl

pub same_key : (t u : Tree) → is_same t u ≡ true → key t ≡ key u
same_key t u h = (bytes_eq-Decides (key t) (key u)).0 h

pub differs_turned : (t u : Tree) → is_same t u ≡ false → is_same u t ≡ false
differs_turned t u h = false_from_ne_true (is_same u t) (λ same. both_ways (is_same t u) h ((bytes_eq-Decides (key t) (key u)).1 (sym (same_key u t same))))

pub token_differs : (p q : ℕ) → p < 2 ^ 64 → q < 2 ^ 64 → (p ≡ q → ⊥) → is_same (token_of p) (token_of q) ≡ false
token_differs p q lt lt' ne = false_from_ne_true _ (λ h. ne (same_place p q lt lt' (same_key (token_of p) (token_of q) h)))

-- ---- the places that tokens name

-- the tokens from place 1 on, and that of place 0 where it is there too
unfoldable pub token_places : Bool → ℕ → Tree → Option ℕ
token_places first zero t = if first then (if is_same t (token_of 0) then Some 0 else None) else None
token_places first (suc n) t = if is_same t (token_of (suc n)) then Some (suc n) else token_places first n t

pub token_places-all : (n : ℕ) (t : Tree) → token_places true n t ≡ token_place n t
unfolding token_places token_place
token_places-all zero t = refl
token_places-all (suc n) t = ap (λ (o : Option ℕ). if is_same t (token_of (suc n)) then Some (suc n) else o) (token_places-all n t)

pub token_places-none : (t : Tree) → token_places false 0 t ≡ None
unfolding token_places
token_places-none t = refl

pub token_places-more : (first : Bool) (n : ℕ) (t : Tree) → token_places first (suc n) t ≡ (if is_same t (token_of (suc n)) then Some (suc n) else token_places first n t)
unfolding token_places
token_places-more first n t = refl

-- a place above is not yet named
pub above_unnamed : (first : Bool) (n p : ℕ) → n < p → p < 2 ^ 64 → token_places first n (token_of p) ≡ None
unfolding token_places
above_unnamed true zero p lt lt' = ap (λ (b : Bool). if b then Some 0 else None) (token_differs p 0 lt' (omega arith) (λ e. omega arith))
above_unnamed false zero p lt lt' = refl
above_unnamed first (suc n) p lt lt' =
    ap (λ (b : Bool). if b then Some (suc n) else token_places first n (token_of p)) (token_differs p (suc n) lt' (omega arith) (λ e. omega arith)) ∙ above_unnamed first n p (omega arith) lt'

-- nor is place 0, where it was left out
pub zero_unnamed : (n : ℕ) → n < 2 ^ 64 → token_places false n (token_of 0) ≡ None
unfolding token_places
zero_unnamed zero lt = refl
zero_unnamed (suc n) lt =
    ap (λ (b : Bool). if b then Some (suc n) else token_places false n (token_of 0)) (token_differs 0 (suc n) (omega arith) lt (λ e. omega arith)) ∙ zero_unnamed n (omega arith)

-- a token like that of place 0 is like no other
like_zero : (t : Tree) (n : ℕ) → is_same t (token_of 0) ≡ true → suc n < 2 ^ 64 → is_same t (token_of (suc n)) ≡ false
like_zero t n h lt =
    let e : is_same (token_of 0) (token_of (suc n)) ≡ false = token_differs 0 (suc n) (omega arith) lt (λ e. omega arith) in
    ap (λ (k : List ℕ). bytes_eq k (key (token_of (suc n)))) (same_key t (token_of 0) h) ∙ e

-- place 0 is named behind the others
pub zero_named : (n : ℕ) (t : Tree) → n < 2 ^ 64 → (if is_same t (token_of 0) then Some 0 else token_places false n t) ≡ token_places true n t
unfolding token_places
zero_named zero t lt = refl
zero_named (suc n) t lt =
    elim (cases_Bool (is_same t (token_of 0))) [
      | inl like ↦
          ap (λ (b : Bool). if b then Some 0 else token_places false (suc n) t) like
          ∙ sym (ap (λ (b : Bool). if b then Some 0 else token_places false n t) like) ∙ zero_named n t (omega arith)
          ∙ sym (ap (λ (b : Bool). if b then Some (suc n) else token_places true n t) (like_zero t n like lt))
      | inr unlike ↦
          ap (λ (b : Bool). if b then Some 0 else token_places false (suc n) t) unlike
          ∙ ap (λ (o : Option ℕ). if is_same t (token_of (suc n)) then Some (suc n) else o) (sym (ap (λ (b : Bool). if b then Some 0 else token_places false n t) unlike) ∙ zero_named n t (omega arith))
    ]

-- each place up to the last is named by its token
pub place_named : (n p : ℕ) → p ≤ n → n < 2 ^ 64 → token_place n (token_of p) ≡ Some p
unfolding token_place
place_named zero zero le lt = ap (λ (b : Bool). if b then Some 0 else None) (is_same_self (token_of 0))
place_named zero (suc p) le lt = absurd (omega arith)
place_named (suc n) p le lt =
    elim (cases_eq p (suc n)) [
      | inl e ↦ subst (λ (q : ℕ). (if is_same (token_of q) (token_of (suc n)) then Some (suc n) else token_place n (token_of q)) ≡ Some q) (sym e)
          (ap (λ (b : Bool). if b then Some (suc n) else token_place n (token_of (suc n))) (is_same_self (token_of (suc n))))
      | inr ne ↦ ap (λ (b : Bool). if b then Some (suc n) else token_place n (token_of p)) (token_differs p (suc n) (omega arith) lt ne) ∙ place_named n p (omega arith) (omega arith)
    ]

-- a token names no place above the last
pub place_within : (n p : ℕ) (t : Tree) → token_place n t ≡ Some p → p ≤ n
unfolding token_place
place_within zero p t h =
    elim (cases_Bool (is_same t (token_of 0))) [
      | inl like ↦ let e : Some 0 ≡ Some p = sym (ap (λ (b : Bool). if b then Some 0 else None) like) ∙ h in let f : 0 ≡ p = cc in omega arith
      | inr unlike ↦ let e : None ≡ Some p = sym (ap (λ (b : Bool). if b then Some 0 else None) unlike) ∙ h in absurd cc
    ]
place_within (suc n) p t h =
    elim (cases_Bool (is_same t (token_of (suc n)))) [
      | inl like ↦ let e : Some (suc n) ≡ Some p = sym (ap (λ (b : Bool). if b then Some (suc n) else token_place n t) like) ∙ h in let f : suc n ≡ p = cc in omega arith
      | inr unlike ↦ let le = place_within n p t (sym (ap (λ (b : Bool). if b then Some (suc n) else token_place n t) unlike) ∙ h) in omega arith
    ]

-- ---- values that have the encoding of a token

abbrev are_ascii : List ℕ → Bool
are_ascii [] = true
are_ascii (b ∷ bs) = nat_lt b 128 && are_ascii bs

ascii_by : (bs : List ℕ) → are_ascii bs ≡ true → IsAscii bs
ascii_by [] h = IsAscii-nil
ascii_by (b ∷ bs) h = let parts = and_parts (nat_lt b 128) (are_ascii bs) h in IsAscii-cons b bs (ltb-true b 128 parts.0) (ascii_by bs parts.1)

hex_text : (xs : List ℕ) → IsUtf8 (encode_lower xs)
hex_text xs = IsUtf8-from_ascii (encode_lower xs) (IsAscii-encode_with lower_digits xs (ascii_by lower_digits refl))

data_name : IsName (codes "_data")
data_name = record { text = IsUtf8-from_ascii (codes "_data") (ascii_by (codes "_data") refl); no_zero = refl }

no_name : IsName []
no_name = record { text = IsUtf8-from_ascii [] IsAscii-nil; no_zero = refl }

length-framed : (body : List ℕ) → length (framed body) ≡ length body + 5
length-framed body = omega (arith, length-append (le32 (length body + 5)) (body ++ 0 ∷ []), length-append body (0 ∷ []), length-le32 (length body + 5))

text_length : (s : List ℕ) → length (text_bytes s) ≡ length s + 5
text_length s = simp (length-le32, length-append) (omega arith)

-- the field of a place's text
abbrev data_field : List ℕ → Fields
data_field s = field (codes "_data") (string s) no_fields

data_length : (s : List ℕ) → length (fields_bytes (data_field s)) ≡ length s + 12
data_length s =
    let a = text_length s in
    let b = length-append (text_bytes s) [] in
    omega arith

text_short : (s : List ℕ) → length s ≡ 16 → length (key (document (data_field s))) ≤ max_len
text_short s e =
    let a = data_length s in
    let b = length-framed (fields_bytes (data_field s)) in
    let c = length-append (framed (fields_bytes (data_field s))) [] in
    let d = length-framed (fields_bytes (field [] (document (data_field s)) no_fields)) in
    omega arith

token_short : (p : ℕ) → length (key (token_of p)) ≤ max_len
token_short p = text_short (encode_lower (to_be_bytes w64 p)) (length-encode_with lower_digits (to_be_bytes w64 p))

token_writable : (p : ℕ) → IsWritable (field [] (token_of p) no_fields)
token_writable p = record { sound = (no_name, (data_name, hex_text (to_be_bytes w64 p), tt), tt); shallow = lit≤ tt; short = token_short p }

-- a value that is the same as a token is the token
pub token_again : (t : Tree) (p : ℕ) → IsWritable (field [] t no_fields) → is_same t (token_of p) ≡ true → t ≡ token_of p
token_again t p h same =
    let e = written_once (field [] t no_fields) (field [] (token_of p) no_fields) h (token_writable p) (same_key t (token_of p) same) in
    cc

-- a value that is no token of a place up to the last names none
pub no_place : (n : ℕ) (t : Tree) → IsWritable (field [] t no_fields) → ((p : ℕ) → p ≤ n → t ≡ token_of p → ⊥) → token_place n t ≡ None
unfolding token_place
no_place zero t h none = ap (λ (b : Bool). if b then Some 0 else None) (false_from_ne_true (is_same t (token_of 0)) (λ same. none 0 (omega arith) (token_again t 0 h same)))
no_place (suc n) t h none =
    ap (λ (b : Bool). if b then Some (suc n) else token_place n t) (false_from_ne_true (is_same t (token_of (suc n))) (λ same. none (suc n) (omega arith) (token_again t (suc n) h same)))
    ∙ no_place n t h (λ p le. none p (omega arith))
