-- Measuring fields and items one after the other.
use Rattle.std.proofs.Common.{◌≡◌, ◌≢◌, ℕ, suc, ◌+◌, ◌/◌, ◌%◌, ◌^◌, ◌<◌, ◌≤◌, List, [], ◌∷◌, ◌++◌, length, Bool, true, false, ap, ◌∙◌, arith, length-append}
use Rattle.std.specs.Prelude.{decimal}
use Rattle.std.proofs.lemmas.Bool.{or_left, or_right}
use Rattle.std.proofs.lemmas.Fmt.{decimal_step}
use Rattle.mg_bson.specs.Tree.{Tree, Fields, field, Items, item}
use Rattle.mg_bson.specs.declared.error.BsonError.{BsonError}
use Rattle.mg_bson.specs.declared.error.BsonError.TheVariants.{OutOfMemory, Malformed, TooLarge, TooDeep, BadName}
use Rattle.mg_bson.specs.Bytes.{bytes, levels, value_bytes, fields_bytes, items_bytes, tree_depth, fields_depth, items_depth}
use Rattle.mg_bson.specs.Writable.{IsName, IsSound, AreSound, AreSoundItems, Refuses, max_levels, has_zero, has_bad_name, fields_have_bad_name, items_have_bad_name}
use Rattle.mg_bson.specs.Writing.{StopsAt}

pub stops_more : (e : BsonError) (n m l l' d d' : ℕ) (b b' : Bool) → StopsAt e n l d b → n ≤ m → (l < d → l' < d') → (b ≡ true → b' ≡ true) → StopsAt e m l' d' b'
stops_more OutOfMemory n m l l' d d' b b' h len deep bad = h
stops_more Malformed n m l l' d d' b b' h len deep bad = h
stops_more TooLarge n m l l' d d' b b' h len deep bad = omega arith
stops_more TooDeep n m l l' d d' b b' h len deep bad = deep h
stops_more BadName n m l l' d d' b b' h len deep bad = bad h

-- ---- the whole document

pub refused : (e : BsonError) (n : ℕ) (d : Fields) → n ≡ length (bytes d) → StopsAt e n max_levels (levels d) (fields_have_bad_name d) → Refuses e d
refused OutOfMemory n d same h = tt
refused Malformed n d same h = h
refused TooLarge n d same h = omega (arith, same)
refused TooDeep n d same h = h
refused BadName n d same h = h

pub no_memory : (e : BsonError) (n l d : ℕ) (b : Bool) → StopsAt e n l d b → e ≢ OutOfMemory
no_memory OutOfMemory n l d b h = λ is. h
no_memory Malformed n l d b h = λ is. absurd cc
no_memory TooLarge n l d b h = λ is. absurd cc
no_memory TooDeep n l d b h = λ is. absurd cc
no_memory BadName n l d b h = λ is. absurd cc

-- ---- fields

pub record MeasuredOn (l old new : ℕ) (all rest : Fields) : Type 0 where
  pub length_is : new + length (fields_bytes rest) ≡ old + length (fields_bytes all)
  pub deeper : fields_depth rest ≤ fields_depth all
  pub deep : fields_depth rest ≤ l → fields_depth all ≤ l
  pub bad : fields_have_bad_name rest ≡ true → fields_have_bad_name all ≡ true
  pub sound : AreSound rest → AreSound all

field_len : (k : List ℕ) (t : Tree) (rest : Fields) → length (fields_bytes (field k t rest)) ≡ (length k + 2) + (length (value_bytes t) + length (fields_bytes rest))
field_len k t rest = omega (arith, length-append k (0 ∷ (value_bytes t ++ fields_bytes rest)), length-append (value_bytes t) (fields_bytes rest))

pub measured_step : (l old new head next : ℕ) (all rest : Fields) (k : List ℕ) (t : Tree) → MeasuredOn l old new all (field k t rest) → head ≡ new + (length k + 2) → next ≡ head + length (value_bytes t) → IsName k → IsSound t → tree_depth t ≤ l → MeasuredOn l old next all rest
measured_step l old new head next all rest k t a h n name sound deep = record {
  length_is = omega (arith, h, n, field_len k t rest, a.length_is);
  deeper = omega (arith, a.deeper);
  deep = λ q. a.deep (omega arith);
  bad = λ q. a.bad (or_right (has_zero k) _ (or_right (has_bad_name t) _ q));
  sound = λ q. a.sound (name, sound, q);
}

pub measured_head : (e : BsonError) (l old new : ℕ) (all rest : Fields) (k : List ℕ) (t : Tree) → MeasuredOn l old new all (field k t rest) → StopsAt e (new + (length k + 2)) 0 0 (has_zero k) → StopsAt e (old + length (fields_bytes all)) l (fields_depth all) (fields_have_bad_name all)
measured_head e l old new all rest k t a h = stops_more e _ _ 0 l 0 _ _ _ h (omega (arith, field_len k t rest, a.length_is)) (λ q. absurd (omega arith)) (λ q. a.bad (or_left (has_zero k) _ q))

pub measured_value : (e : BsonError) (l old new head : ℕ) (all rest : Fields) (k : List ℕ) (t : Tree) → MeasuredOn l old new all (field k t rest) → head ≡ new + (length k + 2) → StopsAt e (head + length (value_bytes t)) l (tree_depth t) (has_bad_name t) → StopsAt e (old + length (fields_bytes all)) l (fields_depth all) (fields_have_bad_name all)
measured_value e l old new head all rest k t a h r = stops_more e _ _ l l _ _ _ _ r (omega (arith, field_len k t rest, a.length_is, h)) (λ q. omega (arith, a.deeper)) (λ q. a.bad (or_right (has_zero k) _ (or_left (has_bad_name t) _ q)))

-- ---- items, from the n-th on

pub digits_more : (n : ℕ) → 10 ≤ n → n < 2 ^ 64 → length (decimal n) ≡ length (decimal (n / 10)) + 1
digits_more n h lt = ap length (decimal_step n h lt) ∙ omega (arith, length-append (decimal (n / 10)) ((48 + n % 10) ∷ []))

pub record MeasuredItems (l n old new : ℕ) (all rest : Items) : Type 0 where
  pub length_is : new + length (items_bytes n rest) ≡ old + length (items_bytes 0 all)
  pub deeper : items_depth rest ≤ items_depth all
  pub deep : items_depth rest ≤ l → items_depth all ≤ l
  pub bad : items_have_bad_name rest ≡ true → items_have_bad_name all ≡ true
  pub sound : AreSoundItems rest → AreSoundItems all

item_len : (n : ℕ) (t : Tree) (rest : Items) → length (items_bytes n (item t rest)) ≡ (length (decimal n) + 2) + (length (value_bytes t) + length (items_bytes (suc n) rest))
item_len n t rest = omega (arith, length-append (decimal n) (0 ∷ (value_bytes t ++ items_bytes (suc n) rest)), length-append (value_bytes t) (items_bytes (suc n) rest))

pub measured_items_step : (l n old new head next : ℕ) (all rest : Items) (t : Tree) → MeasuredItems l n old new all (item t rest) → head ≡ new + (length (decimal n) + 2) → next ≡ head + length (value_bytes t) → IsSound t → tree_depth t ≤ l → MeasuredItems l (suc n) old next all rest
measured_items_step l n old new head next all rest t a h e sound deep = record {
  length_is = omega (arith, h, e, item_len n t rest, a.length_is);
  deeper = omega (arith, a.deeper);
  deep = λ q. a.deep (omega arith);
  bad = λ q. a.bad (or_right (has_bad_name t) _ q);
  sound = λ q. a.sound (sound, q);
}

pub measured_items_head : (e : BsonError) (l n old new : ℕ) (all rest : Items) (t : Tree) → MeasuredItems l n old new all (item t rest) → StopsAt e (new + (length (decimal n) + 2)) 0 0 false → StopsAt e (old + length (items_bytes 0 all)) l (items_depth all) (items_have_bad_name all)
measured_items_head e l n old new all rest t a h = stops_more e _ _ 0 l 0 _ _ _ h (omega (arith, item_len n t rest, a.length_is)) (λ q. absurd (omega arith)) (λ q. absurd cc)

pub measured_items_value : (e : BsonError) (l n old new head : ℕ) (all rest : Items) (t : Tree) → MeasuredItems l n old new all (item t rest) → head ≡ new + (length (decimal n) + 2) → StopsAt e (head + length (value_bytes t)) l (tree_depth t) (has_bad_name t) → StopsAt e (old + length (items_bytes 0 all)) l (items_depth all) (items_have_bad_name all)
measured_items_value e l n old new head all rest t a h r = stops_more e _ _ l l _ _ _ _ r (omega (arith, item_len n t rest, a.length_is, h)) (λ q. omega (arith, a.deeper)) (λ q. a.bad (or_left (has_bad_name t) _ q))
