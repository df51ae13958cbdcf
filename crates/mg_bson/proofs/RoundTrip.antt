-- What is written is read again.
use Rattle.std.proofs.Common.{◌≡◌, ℕ, zero, suc, ◌+◌, ◌-◌, ◌^◌, ◌<◌, ◌≤◌, List, [], ◌∷◌, ◌++◌, length, drop, true, false, ltb, eqb, max, ◌%◌, Option, Some, option_map, refl, sym, ap, ap₂, ◌∙◌, arith, append_assoc, length-append}
use Rattle.std.specs.Prelude.{decimal, ℤ, FitsSigned}
use Rattle.std.specs.Int.{w32, w64, cast_unsigned, cast_signed}
use Rattle.std.specs.Str.{IsUtf8}
use Rattle.std.proofs.lemmas.Bool.{le-ltb, eq-eqb}
use Rattle.std.proofs.lemmas.List.{take_at, drop_at}
use Rattle.std.proofs.Math.Facts.{to_z-of_z, Fits-of_z}
use Rattle.mg_bson.specs.Tree.{Tree, double, string, document, array, binary, undefined, object_id, boolean, date_time, null, regex, db_pointer, script, symbol, scoped, int32, timestamp, int64, decimal128, min_key, max_key, Fields, no_fields, field, Items, no_items, item}
use Rattle.mg_bson.specs.declared.kind.Kind.{Kind}
use Rattle.mg_bson.specs.declared.kind.Kind.TheVariants as kind
use Rattle.mg_bson.specs.Kind.{kind_byte, kind_at}
use Rattle.mg_bson.specs.Bytes.{le32, le64, kind_of, framed, measured, text_bytes, element, value_bytes, fields_bytes, items_bytes, bytes, tree_depth, fields_depth, items_depth}
use Rattle.mg_bson.specs.Reading.{◌>>=◌, le32_at, le64_at, cut, ahead, two_texts, extent, Element, element_at, binary_at, regex_at, pointer_at, text_and_rest, scope_parts, fixed, value_at, values, fields_at, doc_at, doc}
use Rattle.mg_bson.specs.Writable.{has_zero, IsName, IsSound, AreSound, AreSoundItems, IsWritable}
use Rattle.std.proofs.lemmas.Str.{IsUtf8-from_ascii}
use Rattle.std.proofs.lemmas.Fmt.{IsAscii-decimal, decimal_by_steps}
use Rattle.mg_bson.proofs.Options.{some_is}
use Rattle.mg_bson.proofs.Cutting.{text_is}
use Rattle.mg_bson.proofs.Elements.{then, fields_at-nil, fields_at-front}
use Rattle.mg_bson.proofs.Numbers.{length-le32, length-le64, le32_at-le32, le32_at-alone, le64_at-alone, byte_behind, drop_behind, drop-le32}
use Rattle.mg_bson.proofs.Frames.{body_at-framed, text_at-text}

cut_name : (k v : List ℕ) → has_zero k ≡ false → cut (k ++ 0 ∷ v) ≡ Some (k, v)
cut_name [] v h = refl
cut_name (zero ∷ k) v h = absurd cc
cut_name (suc b ∷ k) v h = ap (option_map (λ p. (suc b ∷ p.0, p.1))) (cut_name k v h)

kind_again : (k : Kind) → kind_at (kind_byte k) ≡ Some k
unfolding kind_at
kind_again kind.Double = refl
kind_again kind.String = refl
kind_again kind.Document = refl
kind_again kind.Array = refl
kind_again kind.Binary = refl
kind_again kind.Undefined = refl
kind_again kind.ObjectId = refl
kind_again kind.Boolean = refl
kind_again kind.DateTime = refl
kind_again kind.Null = refl
kind_again kind.Regex = refl
kind_again kind.DbPointer = refl
kind_again kind.Code = refl
kind_again kind.Symbol = refl
kind_again kind.CodeWithScope = refl
kind_again kind.Int32 = refl
kind_again kind.Timestamp = refl
kind_again kind.Int64 = refl
kind_again kind.Decimal128 = refl
kind_again kind.MinKey = refl
kind_again kind.MaxKey = refl

element_again : (k : Kind) (name value rest : List ℕ) → IsName name → extent k (value ++ rest) ≡ Some (length value)
    → element_at (element k name (value ++ rest)) ≡ Some (record { kind = k; name = name; value = value; rest = rest })
unfolding element_at
element_again k name value rest h e =
    let enough : ltb (length (value ++ rest)) (length value) ≡ false = le-ltb _ _ (omega (arith, length-append value rest)) in
    rw (kind_again k, cut_name name (value ++ rest) h.no_zero, text_is name h.text, e, enough, take_at value rest (length value) refl, drop_at value rest (length value) refl) refl

-- a number in front
front_long : (n : ℕ) (x rest : List ℕ) → ltb (length ((le32 n ++ x) ++ rest)) 4 ≡ false
front_long n x rest = le-ltb _ _ (omega (arith, length-append (le32 n ++ x) rest, length-append (le32 n) x, length-le32 n))

front_is : (n : ℕ) (x rest : List ℕ) → n < 2 ^ 32 → le32_at ((le32 n ++ x) ++ rest) ≡ n
front_is n x rest lt = ap le32_at (append_assoc (le32 n) x rest) ∙ le32_at-le32 n (x ++ rest) lt

length-framed : (body : List ℕ) → length (framed body) ≡ length body + 5
length-framed body = omega (arith, length-append (le32 (length body + 5)) (body ++ 0 ∷ []), length-append body (0 ∷ []), length-le32 (length body + 5))

length-text : (s : List ℕ) → length (text_bytes s) ≡ length s + 5
length-text s = omega (arith, length-append (le32 (length s + 1)) (s ++ 0 ∷ []), length-append s (0 ∷ []), length-le32 (length s + 1))

-- the number in front, and more
ahead_is : (more n : ℕ) (x rest : List ℕ) → n < 2 ^ 32 → ahead more ((le32 n ++ x) ++ rest) ≡ Some (n + more)
unfolding ahead
ahead_is more n x rest lt = rw (front_long n x rest, front_is n x rest lt) refl

ahead_text : (more : ℕ) (s x : List ℕ) → length s + 5 < 2 ^ 32 → ahead more (text_bytes s ++ x) ≡ Some (length s + 1 + more)
ahead_text more s x lt = ahead_is more (length s + 1) (s ++ 0 ∷ []) x (omega arith)

ahead_framed : (body rest : List ℕ) → length (framed body) < 2 ^ 31 → ahead 0 (framed body ++ rest) ≡ Some (length (framed body))
ahead_framed body rest lt = ahead_is 0 (length body + 5) (body ++ 0 ∷ []) rest (omega (arith, length-framed body)) ∙ ap Some (omega (arith, length-framed body))

length-measured : (bs : List ℕ) → length (measured bs) ≡ length bs + 4
length-measured bs = omega (arith, length-append (le32 (length bs + 4)) bs, length-le32 (length bs + 4))

ahead_measured : (bs rest : List ℕ) → length (measured bs) < 2 ^ 31 → ahead 0 (measured bs ++ rest) ≡ Some (length (measured bs))
ahead_measured bs rest lt = ahead_is 0 (length bs + 4) bs rest (omega (arith, length-measured bs)) ∙ ap Some (omega (arith, length-measured bs))

two_texts_again : (a b rest : List ℕ) → has_zero a ≡ false → has_zero b ≡ false → two_texts ((a ++ 0 ∷ (b ++ 0 ∷ [])) ++ rest) ≡ Some (length (a ++ 0 ∷ (b ++ 0 ∷ [])))
unfolding two_texts
two_texts_again a b rest h g =
    let regrouped : (a ++ 0 ∷ (b ++ 0 ∷ [])) ++ rest ≡ a ++ 0 ∷ (b ++ 0 ∷ rest) = simp append_assoc in
    rw (regrouped, cut_name a (b ++ 0 ∷ rest) h, cut_name b rest g) (ap Some (omega (arith, length-append a (0 ∷ (b ++ 0 ∷ [])), length-append b (0 ∷ []))))

length-pointer : (s o : List ℕ) → length (text_bytes s ++ o) ≡ length s + 5 + length o
length-pointer s o = omega (arith, length-append (text_bytes s) o, length-text s)

extent_again : (t : Tree) (rest : List ℕ) → IsSound t → length (value_bytes t) < 2 ^ 31 → extent (kind_of t) (value_bytes t ++ rest) ≡ Some (length (value_bytes t))
extent_again (double a) rest sound lt = ap Some (sym sound)
extent_again (string a) rest sound lt = ahead_text 4 a rest (omega (arith, length-text a)) ∙ ap Some (omega (arith, length-text a))
extent_again (document a) rest sound lt = ahead_framed (fields_bytes a) rest lt
extent_again (array a) rest sound lt = ahead_framed (items_bytes 0 a) rest lt
extent_again (binary a b) rest sound lt = ahead_is 5 (length b) (a ∷ b) rest (omega (arith, length-append (le32 (length b)) (a ∷ b))) ∙ ap Some (omega (arith, length-append (le32 (length b)) (a ∷ b), length-le32 (length b)))
extent_again undefined rest sound lt = refl
extent_again (object_id a) rest sound lt = ap Some (sym sound)
extent_again (boolean a) rest sound lt = refl
extent_again (date_time a) rest sound lt = ap Some (sym (length-le64 (cast_unsigned w64 a)))
extent_again null rest sound lt = refl
extent_again (regex a b) rest sound lt = two_texts_again a b rest sound.0.no_zero sound.1.no_zero
extent_again (db_pointer a b) rest sound lt = ap (ahead 16) (append_assoc (text_bytes a) b rest) ∙ ahead_text 16 a (b ++ rest) (omega (arith, length-pointer a b)) ∙ ap Some (omega (arith, length-pointer a b, sound.1))
extent_again (script a) rest sound lt = ahead_text 4 a rest (omega (arith, length-text a)) ∙ ap Some (omega (arith, length-text a))
extent_again (symbol a) rest sound lt = ahead_text 4 a rest (omega (arith, length-text a)) ∙ ap Some (omega (arith, length-text a))
extent_again (scoped a b) rest sound lt = ahead_measured (text_bytes a ++ framed (fields_bytes b)) rest lt
extent_again (int32 a) rest sound lt = ap Some (sym (length-le32 (cast_unsigned w32 a)))
extent_again (timestamp a b) rest sound lt = ap Some (omega (arith, length-append (le32 b) (le32 a), length-le32 a, length-le32 b))
extent_again (int64 a) rest sound lt = ap Some (sym (length-le64 (cast_unsigned w64 a)))
extent_again (decimal128 a) rest sound lt = ap Some (sym sound)
extent_again min_key rest sound lt = refl
extent_again max_key rest sound lt = refl

-- ---- names of an array

no_zero-one : (b : ℕ) → 0 < b → has_zero (b ∷ []) ≡ false
no_zero-one zero h = absurd (omega arith)
no_zero-one (suc b) h = refl

no_zero-last : (ds : List ℕ) (b : ℕ) → 0 < b → has_zero ds ≡ false → has_zero (ds ++ b ∷ []) ≡ false
no_zero-last [] b h e = no_zero-one b h
no_zero-last (zero ∷ ds) b h e = absurd cc
no_zero-last (suc d ∷ ds) b h e = no_zero-last ds b h e

no_zero-decimal : (n : ℕ) → n < 2 ^ 64 → has_zero (decimal n) ≡ false
no_zero-decimal = decimal_by_steps (λ n ds. has_zero ds ≡ false) (λ n h. no_zero-one (48 + n) (omega arith)) (λ n ds h e. no_zero-last ds (48 + n % 10) (omega arith) e)

pub IsName-decimal : (n : ℕ) → n < 2 ^ 64 → IsName (decimal n)
IsName-decimal n h = record { text = IsUtf8-from_ascii (decimal n) (IsAscii-decimal n h); no_zero = no_zero-decimal n h }

-- ---- one level

length-element : (k : Kind) (name value : List ℕ) → length (element k name value) ≡ length name + length value + 2
length-element k name value = omega (arith, length-append name (0 ∷ value))

-- the first element, and the others
fields_again-front : (read : List ℕ → Option Fields) (name : List ℕ) (t : Tree) (rest : List ℕ) (fs : Fields) → IsName name → IsSound t → length (value_bytes t) < 2 ^ 31
    → value_at read (kind_of t) (value_bytes t) ≡ Some t → fields_at read rest ≡ Some fs → fields_at read (element (kind_of t) name (value_bytes t ++ rest)) ≡ Some (field name t fs)
fields_again-front read name t rest fs h sound lt one others =
    fields_at-front read (kind_byte (kind_of t)) (name ++ 0 ∷ (value_bytes t ++ rest))
    ∙ ap (λ (o : Option Element). o >>= then read (fields_at read)) (element_again (kind_of t) name (value_bytes t) rest h (extent_again t rest sound lt))
    ∙ rw (one, others) refl

doc_again : (l m : ℕ) (body : List ℕ) (fs : Fields) → suc m ≡ l → length body + 5 < 2 ^ 31 → fields_at (doc_at m) body ≡ Some fs → doc_at l (framed body) ≡ Some fs
unfolding doc_at
doc_again l m body fs e lt h = rw (← e, body_at-framed body lt) h

binary_again : (n : ℕ) (bs : List ℕ) → length bs < 2 ^ 31 → binary_at (le32 (length bs) ++ n ∷ bs) ≡ Some (binary n bs)
unfolding binary_at
binary_again n bs lt =
    let len : length (le32 (length bs) ++ n ∷ bs) ≡ length bs + 5 = omega (arith, length-append (le32 (length bs)) (n ∷ bs), length-le32 (length bs)) in
    let long : ltb (length (le32 (length bs) ++ n ∷ bs)) 5 ≡ false = le-ltb _ _ (omega (arith, len)) in
    let same : eqb (le32_at (le32 (length bs) ++ n ∷ bs) + 5) (length (le32 (length bs) ++ n ∷ bs)) ≡ true = eq-eqb _ _ (omega (arith, le32_at-le32 (length bs) (n ∷ bs) (omega arith), len)) in
    rw (long, same, byte_behind (length bs) n bs, drop_behind (length bs) n bs) refl

fixed_is : (n : ℕ) (make : List ℕ → Tree) (bs : List ℕ) → length bs ≡ n → fixed n make bs ≡ Some (make bs)
fixed_is n make bs h = let same : eqb (length bs) n ≡ true = eq-eqb _ _ h in rw same refl

number_again : (z : ℤ) → FitsSigned w64 z → cast_signed w64 (le64_at (le64 (cast_unsigned w64 z))) ≡ z
number_again z fits = rw (le64_at-alone (cast_unsigned w64 z) (omega (arith, Fits-of_z {w = w64} fits))) (to_z-of_z {w = w64} fits)

number_again_32 : (z : ℤ) → FitsSigned w32 z → cast_signed w32 (le32_at (le32 (cast_unsigned w32 z))) ≡ z
number_again_32 z fits = rw (le32_at-alone (cast_unsigned w32 z) (omega (arith, Fits-of_z {w = w32} fits))) (to_z-of_z {w = w32} fits)

regex_again : (p o : List ℕ) → IsName p → IsName o → regex_at (p ++ 0 ∷ (o ++ 0 ∷ [])) ≡ Some (regex p o)
unfolding regex_at
regex_again p o h g = rw (cut_name p (o ++ 0 ∷ []) h.no_zero, text_is p h.text, cut_name o [] g.no_zero, text_is o g.text) refl

pointer_again : (s o : List ℕ) → IsUtf8 s → length o ≡ 12 → length s + 5 < 2 ^ 32 → pointer_at (text_bytes s ++ o) ≡ Some (db_pointer s o)
unfolding pointer_at
pointer_again s o h len lt =
    let all = length-pointer s o in
    let long : ltb (length (text_bytes s ++ o)) 12 ≡ false = le-ltb _ _ (omega (arith, all)) in
    let front : length (text_bytes s) ≡ length (text_bytes s ++ o) - 12 = omega (arith, all, length-text s) in
    rw (long, take_at (text_bytes s) o (length (text_bytes s ++ o) - 12) front, drop_at (text_bytes s) o (length (text_bytes s ++ o) - 12) front, text_at-text s h lt) refl

scope_again : (s ds : List ℕ) → IsUtf8 s → length (measured (text_bytes s ++ ds)) < 2 ^ 31 → scope_parts (measured (text_bytes s ++ ds)) ≡ Some (s, ds)
unfolding scope_parts text_and_rest
scope_again s ds h lt =
    let bs = text_bytes s ++ ds in
    let all = length-measured bs in
    let parts = length-pointer s ds in
    let long : ltb (length (measured bs)) 4 ≡ false = le-ltb _ _ (omega (arith, all)) in
    let same : eqb (le32_at (measured bs)) (length (measured bs)) ≡ true = eq-eqb _ _ (le32_at-le32 (length bs + 4) bs (omega (arith, all)) ∙ sym all) in
    let text = ahead_text 4 s ds (omega (arith, all, parts)) in
    let enough : ltb (length bs) (length s + 1 + 4) ≡ false = le-ltb _ _ (omega (arith, parts)) in
    let len : length (text_bytes s) ≡ length s + 1 + 4 = omega (arith, length-text s) in
    rw (long, same, drop-le32 (length bs + 4) bs, text, enough, take_at (text_bytes s) ds (length s + 1 + 4) len, drop_at (text_bytes s) ds (length s + 1 + 4) len, text_at-text s h (omega (arith, all, parts))) refl

times_again : (t i : ℕ) → t < 2 ^ 32 → i < 2 ^ 32 → fixed 8 (λ bs. timestamp (le32_at (drop 4 bs)) (le32_at bs)) (le32 i ++ le32 t) ≡ Some (timestamp t i)
times_again t i h g =
    fixed_is 8 (λ bs. timestamp (le32_at (drop 4 bs)) (le32_at bs)) (le32 i ++ le32 t) (omega (arith, length-append (le32 i) (le32 t), length-le32 i, length-le32 t))
    ∙ rw (drop-le32 i (le32 t), le32_at-alone t h, le32_at-le32 i (le32 t) g) refl

-- ---- all levels

mutual
  value_again : (l : ℕ) (t : Tree) → IsSound t → tree_depth t ≤ l → length (value_bytes t) < 2 ^ 31 → value_at (doc_at l) (kind_of t) (value_bytes t) ≡ Some t
  value_again l (double a) sound deep lt = fixed_is 8 double a sound
  value_again l (string a) sound deep lt = ap (option_map string) (text_at-text a sound (omega (arith, length-text a)))
  value_again l (document a) sound deep lt =
      let len = length-framed (fields_bytes a) in
      ap (option_map document) (doc_again l (l - 1) (fields_bytes a) a (omega arith) (omega (arith, len)) (fields_again (l - 1) a sound (omega arith) (omega (arith, len))))
  value_again l (array a) sound deep lt =
      let len = length-framed (items_bytes 0 a) in
      let inner = items_again (l - 1) 0 a sound (omega arith) (omega (arith, len)) in
      ap (option_map (λ fs. array (values fs))) (doc_again l (l - 1) (items_bytes 0 a) inner.0 (omega arith) (omega (arith, len)) inner.1) ∙ ap (λ us. Some (array us)) inner.2
  value_again l (binary a b) sound deep lt = binary_again a b (omega (arith, length-append (le32 (length b)) (a ∷ b)))
  value_again l undefined sound deep lt = refl
  value_again l (object_id a) sound deep lt = fixed_is 12 object_id a sound
  value_again l (boolean true) sound deep lt = refl
  value_again l (boolean false) sound deep lt = refl
  value_again l (date_time a) sound deep lt = fixed_is 8 (λ bs. date_time (cast_signed w64 (le64_at bs))) (le64 (cast_unsigned w64 a)) (length-le64 (cast_unsigned w64 a)) ∙ ap (λ z. Some (date_time z)) (number_again a sound)
  value_again l null sound deep lt = refl
  value_again l (regex a b) sound deep lt = regex_again a b sound.0 sound.1
  value_again l (db_pointer a b) sound deep lt = pointer_again a b sound.0 sound.1 (omega (arith, length-pointer a b))
  value_again l (script a) sound deep lt = ap (option_map script) (text_at-text a sound (omega (arith, length-text a)))
  value_again l (symbol a) sound deep lt = ap (option_map symbol) (text_at-text a sound (omega (arith, length-text a)))
  value_again l (scoped a b) sound deep lt =
      let len = length-framed (fields_bytes b) in
      let all = length-measured (text_bytes a ++ framed (fields_bytes b)) in
      let parts = length-pointer a (framed (fields_bytes b)) in
      rw (scope_again a (framed (fields_bytes b)) sound.0 lt)
      (ap (option_map (scoped a)) (doc_again l (l - 1) (fields_bytes b) b (omega arith) (omega (arith, len, all, parts)) (fields_again (l - 1) b sound.1 (omega arith) (omega (arith, len, all, parts)))))
  value_again l (int32 a) sound deep lt = fixed_is 4 (λ bs. int32 (cast_signed w32 (le32_at bs))) (le32 (cast_unsigned w32 a)) (length-le32 (cast_unsigned w32 a)) ∙ ap (λ z. Some (int32 z)) (number_again_32 a sound)
  value_again l (timestamp a b) sound deep lt = times_again a b sound.0 sound.1
  value_again l (int64 a) sound deep lt = fixed_is 8 (λ bs. int64 (cast_signed w64 (le64_at bs))) (le64 (cast_unsigned w64 a)) (length-le64 (cast_unsigned w64 a)) ∙ ap (λ z. Some (int64 z)) (number_again a sound)
  value_again l (decimal128 a) sound deep lt = fixed_is 16 decimal128 a sound
  value_again l min_key sound deep lt = refl
  value_again l max_key sound deep lt = refl

  fields_again : (l : ℕ) (fs : Fields) → AreSound fs → fields_depth fs ≤ l → length (fields_bytes fs) < 2 ^ 31 → fields_at (doc_at l) (fields_bytes fs) ≡ Some fs
  fields_again l no_fields sound deep lt = fields_at-nil (doc_at l)
  fields_again l (field k t fs) sound deep lt =
      let len = length-element (kind_of t) k (value_bytes t ++ fields_bytes fs) in
      let both = length-append (value_bytes t) (fields_bytes fs) in
      fields_again-front (doc_at l) k t (fields_bytes fs) fs sound.0 sound.1 (omega (arith, len, both))
      (value_again l t sound.1 (omega arith) (omega (arith, len, both))) (fields_again l fs sound.2 (omega arith) (omega (arith, len, both)))

  items_again : (l n : ℕ) (ts : Items) → AreSoundItems ts → items_depth ts ≤ l → n + length (items_bytes n ts) < 2 ^ 31 → (fs : Fields) × (fields_at (doc_at l) (items_bytes n ts) ≡ Some fs) × (values fs ≡ ts)
  items_again l n no_items sound deep lt = (no_fields, fields_at-nil (doc_at l), refl)
  items_again l n (item t ts) sound deep lt =
      let len = length-element (kind_of t) (decimal n) (value_bytes t ++ items_bytes (suc n) ts) in
      let both = length-append (value_bytes t) (items_bytes (suc n) ts) in
      let others = items_again l (suc n) ts sound.1 (omega arith) (omega (arith, len, both)) in (
        field (decimal n) t others.0,
        fields_again-front (doc_at l) (decimal n) t (items_bytes (suc n) ts) others.0 (IsName-decimal n (omega arith)) sound.0 (omega (arith, len, both))
            (value_again l t sound.0 (omega arith) (omega (arith, len, both))) others.1,
        ap (item t) others.2,
      )

pub doc-bytes : (d : Fields) → IsWritable d → doc (bytes d) ≡ Some d
doc-bytes d h =
    let len = length-framed (fields_bytes d) in
    doc_again 100 99 (fields_bytes d) d refl (omega (arith, h.short, len)) (fields_again 99 d h.sound (omega (arith, h.shallow)) (omega (arith, h.short, len)))

-- values of one kind with the same bytes are the same
pub value_inj : (t u : Tree) → IsSound t → IsSound u → length (value_bytes t) < 2 ^ 31 → kind_of t ≡ kind_of u → value_bytes t ≡ value_bytes u → t ≡ u
value_inj t u h g lt k e =
    let l = max (tree_depth t) (tree_depth u) in
    some_is t u (sym (value_again l t h (omega arith) lt) ∙ ap₂ (value_at (doc_at l)) k e ∙ value_again l u g (omega arith) (omega (arith, ap length e)))

-- documents with the same bytes are the same
pub written_once : (d e : Fields) → IsWritable d → IsWritable e → bytes d ≡ bytes e → d ≡ e
written_once d e h g same = some_is d e (sym (doc-bytes d h) ∙ ap doc same ∙ doc-bytes e g)
