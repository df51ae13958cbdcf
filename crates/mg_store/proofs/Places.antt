-- The places that tokens spell.
use Rattle.std.proofs.Common.{◌≡◌, ℕ, zero, suc, ◌<◌, ◌≤◌, ◌^◌, List, Option, Some, None, codes, refl, sym, ap, ap₂, ◌∙◌, subst}
use Rattle.std.specs.Prelude.{if◌then◌else◌, Result, Ok, Err}
use Rattle.std.specs.Result.{MatchResult}
use Rattle.std.specs.Int.{w64, to_be_bytes}
use Rattle.std.specs.Str.{bytes_eq}
use Rattle.hex.specs.Hex.{encode_lower, decode_sized}
use Rattle.hex.specs.declared.error.FromHexError.{FromHexError}
use Rattle.hex.proofs.HexLemmas.{decode_sized-encode_lower}
use Rattle.mg_bson.specs.Tree.{Tree, Fields}
use Rattle.mg_bson.specs.Find.{as_document}
use Rattle.mg_server.specs.Commands.{text_of}
use Rattle.mg_server.specs.Filter.{key}
use Rattle.mg_server.specs.Rules.{token_of, token_fields, token_place}
use Rattle.mg_server.proofs.Tokens.{number_bytes, place_named}

-- the text of a token
pub text_of_token : (place : ℕ) (found : Tree) (fs : Fields) (s : List ℕ) → found ≡ token_of place → Some fs ≡ as_document found → Some s ≡ text_of (codes "_data") fs → s ≡ encode_lower (to_be_bytes w64 place)
text_of_token place found fs s is doc text =
    let a : Some fs ≡ Some (token_fields place) = doc ∙ ap as_document is in
    let b : fs ≡ token_fields place = cc in
    let e : Some s ≡ Some (encode_lower (to_be_bytes w64 place)) = text ∙ ap (text_of (codes "_data")) b in
    cc

-- the text decodes to the bytes of the place
pub decodes : (place : ℕ) (s : List ℕ) → s ≡ encode_lower (to_be_bytes w64 place) → decode_sized s 8 ≡ Ok (to_be_bytes w64 place)
decodes place s e = ap (λ (l : List ℕ). decode_sized l 8) e ∙ decode_sized-encode_lower (to_be_bytes w64 place) 8 refl (number_bytes place)

place_same : (n : ℕ) (t u : Tree) → key t ≡ key u → token_place n t ≡ token_place n u
unfolding token_place
place_same zero t u e = ap (λ (k : List ℕ). if bytes_eq k (key (token_of 0)) then Some 0 else None) e
place_same (suc n) t u e = ap₂ (λ (k : List ℕ) (o : Option ℕ). if bytes_eq k (key (token_of (suc n))) then Some (suc n) else o) e (place_same n t u e)

-- a value with the encoding of a token names its place
pub place_by_key : (n place : ℕ) (t : Tree) → key t ≡ key (token_of place) → place ≤ n → n < 2 ^ 64 → token_place n t ≡ Some place
place_by_key n place t e le lt = place_same n t (token_of place) e ∙ place_named n place le lt

-- what is decoded of the text of a token
pub decoded : (place : ℕ) (s : List ℕ) (result : Result (Unit {0}) FromHexError) (out : List ℕ) → s ≡ encode_lower (to_be_bytes w64 place) → MatchResult (decode_sized s 8) (λ bytes. (result ≡ Ok tt) × (out ≡ bytes)) (λ e. result ≡ Err e)
    → (result ≡ Ok tt) × (out ≡ to_be_bytes w64 place)
decoded place s result out e h = subst (λ (r : Result (List ℕ) FromHexError). MatchResult r (λ bytes. (result ≡ Ok tt) × (out ≡ bytes)) (λ e. result ≡ Err e)) (decodes place s e) h

pub not_err : (result : Result (Unit {0}) FromHexError) (e : FromHexError) → result ≡ Ok tt → result ≡ Err e → ⊥
not_err result e a b = let bad : ◌≡◌ {A = Result (Unit {0}) FromHexError} (Ok tt) (Err e) = sym a ∙ b in cc
