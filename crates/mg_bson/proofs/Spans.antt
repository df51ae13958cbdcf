-- Where the values of a document lie, and what they spell.
use Rattle.std.proofs.Common.{◌≡◌, ℕ, zero, suc, ◌+◌, ◌-◌, ◌≤◌, ◌<◌, List, [], ◌∷◌, ◌++◌, length, take, drop, get_or, ltb, eqb, Bool, true, false, cond, Option, Some, None, option_map, IfSome, refl, sym, ap, subst, ◌∙◌, arith, append_assoc, length-append, length-drop, length-take-le, take-append-drop, take-take, drop-drop, take_at, drop_at, ltb-false, rules}
use Rattle.std.proofs.lemmas.List.{drop-take}
use Rattle.std.proofs.lemmas.Slice.{between_is}
use Rattle.std.specs.Str.{bytes_eq}
use Rattle.mg_bson.specs.Tree.{Tree}
use Rattle.mg_bson.specs.Kind.{kind_at}
use Rattle.mg_bson.specs.Find.{get}
use Rattle.mg_bson.specs.Reading.{◌>>=◌, le32_at, cut, utf8_of, extent, Element, element_at, body_at}
use Rattle.mg_bson.specs.Raw.{Spelled, IsDocument, AreFields, IsValue, fields, fields_left, spelled}
use Rattle.mg_bson.specs.Spans.{between, named_within, value_named}
use Rattle.mg_bson.proofs.Options.{bind_some, bind_same, map_some, guard_some, test_some, some_is}
use Rattle.mg_bson.proofs.Elements.{element_shorter}
use Rattle.mg_bson.proofs.Lending.{no_element, some_element, has_body, body_fields}

-- ---- parts of parts

-- a part of a part
pub between_between : (bs : List ℕ) (a b c d : ℕ) → c + b ≤ d → between a b (between c d bs) ≡ between (c + a) (c + b) bs
between_between bs a b c d h =
    ap (drop a) (sym (drop-take c b (take d bs)) ∙ ap (drop c) (take-take (c + b) d bs h)) ∙ drop-drop a c (take (c + b) bs)

-- how a part of a slice is written
pub sliced : (bs : List ℕ) (from upto : ℕ) → take (upto - from) (drop from bs) ≡ between from upto bs
sliced bs from upto = search (rules, between_is)

pub length-between : (bs : List ℕ) (from upto : ℕ) → upto ≤ length bs → length (between from upto bs) ≡ upto - from
length-between bs from upto h = length-drop from (take upto bs) ∙ ap (λ (n : ℕ). n - from) (length-take-le upto bs h)

-- a place in a part, seen from the whole
pub fits_within : (bs slice : List ℕ) (b c d : ℕ) → slice ≡ between c d bs → c ≤ d → d ≤ length bs → b ≤ length slice → c + b ≤ d
fits_within bs slice b c d is forward within short =
    let len : length slice ≡ d - c = ap length is ∙ length-between bs c d within in
    omega arith

-- these are the last of the bytes up to a place
pub record Ends (whole : List ℕ) (upto : ℕ) (left : List ℕ) : Type 0 where
  pub front : List ℕ
  pub inside : upto ≤ length whole
  pub these : take upto whole ≡ front ++ left

pub ends_length : (whole left : List ℕ) (upto : ℕ) (p : Ends whole upto left) → length p.front + length left ≡ upto
ends_length whole left upto p = omega (arith, ap length p.these, length-take-le upto whole p.inside, length-append p.front left)

pub ends_short : (whole left : List ℕ) (upto : ℕ) → Ends whole upto left → length left ≤ upto
ends_short whole left upto p = omega (arith, ends_length whole left upto p)

-- what lies between two places is the last up to the second
pub between_ends : (whole : List ℕ) (from upto : ℕ) → upto ≤ length whole → Ends whole upto (between from upto whole)
between_ends whole from upto h = record { front = take from (take upto whole); inside = h; these = sym (take-append-drop from (take upto whole)) }

-- where they lie
pub ends_between : (whole left : List ℕ) (upto from : ℕ) → Ends whole upto left → from + length left ≡ upto → between from upto whole ≡ left
ends_between whole left upto from p e = ap (drop from) p.these ∙ drop_at p.front left from (omega (arith, ends_length whole left upto p))

-- where what stands before the last of them lies
pub ends_middle : (whole value rest : List ℕ) (upto from to : ℕ) → Ends whole upto (value ++ rest) → to + length rest ≡ upto → from + length value ≡ to → between from to whole ≡ value
ends_middle whole value rest upto from to p e f =
    let long = ends_length whole (value ++ rest) upto p in
    let first : take to whole ≡ p.front ++ value =
    sym (take-take to upto whole (omega arith)) ∙ ap (take to) (p.these ∙ sym (append_assoc p.front value rest))
    ∙ take_at (p.front ++ value) rest to (omega (arith, length-append p.front value, length-append value rest)) in
    ap (drop from) first ∙ drop_at p.front value from (omega (arith, length-append value rest))

-- ---- the parts of an element

cut_parts : (bs : List ℕ) (c : List ℕ × List ℕ) → cut bs ≡ Some c → bs ≡ c.0 ++ 0 ∷ c.1
cut_parts [] c e = absurd cc
cut_parts (zero ∷ bs) c e = subst (λ (p : List ℕ × List ℕ). 0 ∷ bs ≡ p.0 ++ 0 ∷ p.1) (some_is ([], bs) c e) refl
cut_parts (suc b ∷ bs) c e =
    let m = map_some (cut bs) (λ p. (suc b ∷ p.0, p.1)) c e in
    subst (λ (p : List ℕ × List ℕ). suc b ∷ bs ≡ p.0 ++ 0 ∷ p.1) m.2 (ap (λ (xs : List ℕ). suc b ∷ xs) (cut_parts bs m.0 m.1))

-- its kind and name, its value, and the bytes behind it
pub record HasParts (bs : List ℕ) (e : Element) : Type 0 where
  pub head : List ℕ
  pub all : bs ≡ head ++ (e.value ++ e.rest)

nothing_at : (e : Element) → element_at [] ≡ Some e → ⊥
unfolding element_at
nothing_at e is = cc

pub element_parts : (bs : List ℕ) (e : Element) → element_at bs ≡ Some e → HasParts bs e
unfolding element_at
element_parts [] e h = absurd (nothing_at e h)
element_parts (b ∷ bs) e h =
    let k = bind_some (kind_at b) _ e h in
    let c = bind_some (cut bs) _ e k.2 in
    let name = bind_some (utf8_of c.0.0) _ e c.2 in
    let n = bind_some (extent k.0 c.0.1) _ e name.2 in
    let g = guard_some (ltb (length c.0.1) n.0) _ e n.2 in
    let named : b ∷ bs ≡ (b ∷ (c.0.0 ++ 0 ∷ [])) ++ (take n.0 c.0.1 ++ drop n.0 c.0.1) =
    ap (λ (xs : List ℕ). b ∷ xs) (cut_parts bs c.0 c.1 ∙ sym (append_assoc c.0.0 (0 ∷ []) c.0.1) ∙ ap (λ (xs : List ℕ). (c.0.0 ++ 0 ∷ []) ++ xs) (sym (take-append-drop n.0 c.0.1))) in
    let made : HasParts (b ∷ bs) (record { kind = k.0; name = name.0; value = take n.0 c.0.1; rest = drop n.0 c.0.1 }) = record { head = b ∷ (c.0.0 ++ 0 ∷ []); all = named } in
    subst (HasParts (b ∷ bs)) (some_is _ e g.1) made

-- where an element's value lies, and what stands behind it
pub record Lies (whole : List ℕ) (upto : ℕ) (left : List ℕ) (e : Element) : Type 0 where
  pub long : length e.value + length e.rest ≤ length left
  pub short : length left ≤ upto
  pub inside : upto ≤ length whole
  pub rest : Ends whole upto e.rest
  pub value : (from to : ℕ) → to + length e.rest ≡ upto → from + length e.value ≡ to → between from to whole ≡ e.value

pub lies : (whole left : List ℕ) (upto : ℕ) (e : Element) → Ends whole upto left → element_at left ≡ Some e → Lies whole upto left e
lies whole left upto e p is =
    let parts = element_parts left e is in
    let behind : Ends whole upto (e.value ++ e.rest) = record { front = p.front ++ parts.head; inside = p.inside; these = p.these ∙ ap (λ (xs : List ℕ). p.front ++ xs) parts.all ∙ sym (append_assoc p.front parts.head (e.value ++ e.rest)) } in
    record {
      long = omega (arith, ap length parts.all, length-append parts.head (e.value ++ e.rest), length-append e.value e.rest);
      short = ends_short whole left upto p;
      inside = p.inside;
      rest = record { front = behind.front ++ e.value; inside = p.inside; these = behind.these ∙ sym (append_assoc behind.front e.value e.rest) };
      value = λ from to a b. ends_middle whole e.value e.rest upto from to behind a b;
    }

-- ---- the elements of a document

pub record HasBody (bs body : List ℕ) : Type 0 where
  pub long : 5 ≤ length bs
  pub these : between 4 (length bs - 1) bs ≡ body
  pub ends : Ends bs (length bs - 1) body

pub body_ends : (bs body : List ℕ) → body_at bs ≡ Some body → HasBody bs body
unfolding body_at
body_ends bs body e =
    let a = guard_some (ltb (length bs) 5) _ body e in
    let b = test_some (ltb (length bs) 2147483648) _ body a.1 in
    let c = test_some (eqb (le32_at bs) (length bs)) _ body b.1 in
    let d = test_some (eqb (get_or bs (length bs - 1) 0) 0) _ body c.1 in
    let same : drop 4 (take (length bs - 1) bs) ≡ body = some_is _ body d.1 in
    record {
      long = ltb-false (length bs) 5 a.0;
      these = same;
      ends = record { front = take 4 (take (length bs - 1) bs); inside = omega arith; these = sym (take-append-drop 4 (take (length bs - 1) bs)) ∙ ap (λ (xs : List ℕ). take 4 (take (length bs - 1) bs) ++ xs) same };
    }

-- checked bytes have them
pub body_there : (bs : List ℕ) → IsDocument bs → body_at bs ≡ Some (between 4 (length bs - 1) bs)
body_there bs h = there (body_at bs) refl where
  there : (o : Option (List ℕ)) → body_at bs ≡ o → body_at bs ≡ Some (between 4 (length bs - 1) bs)
  there (Some body) e = e ∙ ap Some (sym (body_ends bs body e).these)
  there None e = absurd (has_body bs h e)

pub document_long : (bs : List ℕ) → IsDocument bs → 5 ≤ length bs
document_long bs h = (body_ends bs _ (body_there bs h)).long

-- the elements of a document that is a part of others
pub record HasElements (bs : List ℕ) (from upto : ℕ) : Type 0 where
  pub long : from + 5 ≤ upto
  pub these : body_at (between from upto bs) ≡ Some (between (from + 4) (upto - 1) bs)
  pub read : AreFields (between (from + 4) (upto - 1) bs)

pub elements_are : (bs : List ℕ) (from upto : ℕ) → upto ≤ length bs → IsDocument (between from upto bs) → HasElements bs from upto
elements_are bs from upto within h =
    let part = between from upto bs in
    let len : length part ≡ upto - from = length-between bs from upto within in
    let five : 5 ≤ length part = document_long part h in
    let last : from + (length part - 1) ≡ upto - 1 = omega arith in
    let same : between 4 (length part - 1) part ≡ between (from + 4) (upto - 1) bs =
    between_between bs 4 (length part - 1) from upto (omega arith) ∙ ap (λ (n : ℕ). between (from + 4) n bs) last in
    record {
      long = omega arith;
      these = body_there part h ∙ ap Some same;
      read = subst AreFields same (body_fields part (between 4 (length part - 1) part) h (body_there part h)).0;
    }

-- ---- the first value of a name

-- an element's value where it has the name, and else what others give of the bytes behind it
abbrev pub pick : List ℕ → (List ℕ → Option Spelled) → Element → Option Spelled
pick name others e = cond (bytes_eq e.name name) (Some (record { kind = e.kind; bytes = e.value })) (others e.rest)

pick_same : (name : List ℕ) (f g : List ℕ → Option Spelled) (e : Element) → f e.rest ≡ g e.rest → pick name f e ≡ pick name g e
pick_same name f g e h = ap (λ (r : Option Spelled). cond (bytes_eq e.name name) (Some (record { kind = e.kind; bytes = e.value })) r) h

named_nil : (name : List ℕ) (n : ℕ) → named_within n name [] ≡ None
unfolding named_within element_at
named_nil name zero = refl
named_nil name (suc n) = refl

-- a larger count of elements changes nothing
named_enough : (name : List ℕ) (n m : ℕ) (bs : List ℕ) → length bs ≤ n → length bs ≤ m → named_within n name bs ≡ named_within m name bs
unfolding named_within
named_enough name n m [] p q = named_nil name n ∙ sym (named_nil name m)
named_enough name zero m (b ∷ bs) p q = absurd (omega arith)
named_enough name (suc n) zero (b ∷ bs) p q = absurd (omega arith)
named_enough name (suc n) (suc m) (b ∷ bs) p q =
    bind_same (element_at (b ∷ bs)) (pick name (named_within n name)) (pick name (named_within m name)) (λ e h.
    pick_same name (named_within n name) (named_within m name) e
    (named_enough name n m e.rest (omega (arith, element_shorter b bs e h)) (omega (arith, element_shorter b bs e h))))

-- the first value of the name among the elements that are left
unfoldable pub named_left : List ℕ → List ℕ → Option Spelled
named_left name bs = named_within (length bs) name bs

pub named_none : (name bs : List ℕ) → element_at bs ≡ None → named_left name bs ≡ None
unfolding named_left named_within
named_none name [] e = refl
named_none name (b ∷ bs) e = rw e refl

pub named_front : (name bs : List ℕ) (e : Element) → element_at bs ≡ Some e → named_left name bs ≡ pick name (named_left name) e
unfolding named_left named_within
named_front name [] e is = absurd (nothing_at e is)
named_front name (b ∷ bs) e is =
    ap (λ (o : Option Element). o >>= pick name (named_within (length bs) name)) is
    ∙ pick_same name (named_within (length bs) name) (named_left name) e (named_enough name (length bs) (length e.rest) e.rest (element_shorter b bs e is) (omega arith))

pub named_here : (name bs : List ℕ) (e : Element) → element_at bs ≡ Some e → bytes_eq e.name name ≡ true → named_left name bs ≡ Some (record { kind = e.kind; bytes = e.value })
named_here name bs e is same = named_front name bs e is ∙ ap (λ (b : Bool). cond b (Some (record { kind = e.kind; bytes = e.value })) (named_left name e.rest)) same

pub named_later : (name bs : List ℕ) (e : Element) → element_at bs ≡ Some e → bytes_eq e.name name ≡ false → named_left name bs ≡ named_left name e.rest
named_later name bs e is other = named_front name bs e is ∙ ap (λ (b : Bool). cond b (Some (record { kind = e.kind; bytes = e.value })) (named_left name e.rest)) other

pub named_in : (name bs body : List ℕ) → body_at bs ≡ Some body → value_named name bs ≡ named_left name body
unfolding value_named named_left
named_in name bs body e = ap (λ (o : Option (List ℕ)). o >>= λ body. named_within (length body) name body) e

-- what was found is a value, and the one that the name has in the document
pub record Finds (o : Option Spelled) (found : Option Tree) : Type 0 where
  pub values : option_map spelled o ≡ found
  pub read : IfSome o IsValue

choose : (b : Bool) (v : Spelled) (o : Option Spelled) (found : Option Tree) → IsValue v → Finds o found → Finds (cond b (Some v) o) (cond b (Some (spelled v)) found)
choose true v o found is f = record { values = refl; read = is }
choose false v o found is f = f

finds_none : (name bs : List ℕ) → AreFields bs → element_at bs ≡ None → Finds (named_left name bs) (get name (fields_left bs))
finds_none name bs h is = rw (named_none name bs is) (record { values = sym (ap (get name) (no_element bs h is)); read = tt })

finds_some : (name bs : List ℕ) (e : Element) → AreFields bs → element_at bs ≡ Some e → (AreFields e.rest → Finds (named_left name e.rest) (get name (fields_left e.rest))) → Finds (named_left name bs) (get name (fields_left bs))
finds_some name bs e h is later =
    let x = some_element bs e h is in
    let v : Spelled = record { kind = e.kind; bytes = e.value } in
    rw (named_front name bs e is, x.parts) (choose (bytes_eq e.name name) v (named_left name e.rest) (get name (fields_left e.rest)) x.is_value (later x.rest))

finds : (name bs : List ℕ) (o : Option Element) → element_at bs ≡ o → AreFields bs → ((e : Element) → element_at bs ≡ Some e → AreFields e.rest → Finds (named_left name e.rest) (get name (fields_left e.rest))) → Finds (named_left name bs) (get name (fields_left bs))
finds name bs (Some e) is h later = finds_some name bs e h is (later e is)
finds name bs None is h later = finds_none name bs h is

named_finds : (name : List ℕ) (n : ℕ) (bs : List ℕ) → length bs ≤ n → AreFields bs → Finds (named_left name bs) (get name (fields_left bs))
named_finds name n [] p h = finds name [] (element_at []) refl h (λ e is rest. absurd (nothing_at e is))
named_finds name zero (b ∷ bs) p h = absurd (omega arith)
named_finds name (suc n) (b ∷ bs) p h = finds name (b ∷ bs) (element_at (b ∷ bs)) refl h (λ e is rest. named_finds name n e.rest (omega (arith, element_shorter b bs e is)) rest)

-- the first value of a name lies where its bytes are found
pub value_finds : (name bs : List ℕ) → IsDocument bs → Finds (value_named name bs) (get name (fields bs))
value_finds name bs h =
    let body = between 4 (length bs - 1) bs in
    let there = body_there bs h in
    let inner = body_fields bs body h there in
    rw (named_in name bs body there, ← inner.1) (named_finds name (length body) body (omega arith) inner.0)

-- ---- as it is looked for

pub element_less : (bs : List ℕ) (e : Element) → element_at bs ≡ Some e → length e.rest < length bs
element_less [] e is = absurd (nothing_at e is)
element_less (b ∷ bs) e is = omega (arith, element_shorter b bs e is)

-- what is looked through, and what is left of it
pub record Looks (bs name left : List ℕ) : Type 0 where
  pub read : AreFields left
  pub ends : Ends bs (length bs - 1) left
  pub named : named_left name left ≡ value_named name bs

pub looks_at_first : (bs name body : List ℕ) → IsDocument bs → body_at bs ≡ Some body → Looks bs name body
looks_at_first bs name body h e = record { read = (body_fields bs body h e).0; ends = (body_ends bs body e).ends; named = sym (named_in name bs body e) }

pub looks_on : (bs name left : List ℕ) (e : Element) → Looks bs name left → element_at left ≡ Some e → bytes_eq e.name name ≡ false → Looks bs name e.rest
looks_on bs name left e l is other = record {
  read = (some_element left e l.read is).rest;
  ends = (lies bs left (length bs - 1) e l.ends is).rest;
  named = sym (named_later name left e is other) ∙ l.named;
}

pub looks_in_vain : (bs name left : List ℕ) → Looks bs name left → element_at left ≡ None → None ≡ value_named name bs
looks_in_vain bs name left l is = sym (named_none name left is) ∙ l.named

-- how far an element's value reaches
pub record Reaches (bs : List ℕ) (value rest : ℕ) : Type 0 where
  pub long : 1 ≤ length bs
  pub behind : rest ≤ length bs - 1
  pub before : value ≤ length bs - 1 - rest

pub reaches : (bs name left : List ℕ) (e : Element) → Looks bs name left → element_at left ≡ Some e → Reaches bs (length e.value) (length e.rest)
reaches bs name left e l is =
    let x = lies bs left (length bs - 1) e l.ends is in
    let less = element_less left e is in
    record { long = omega (arith, x.short); behind = omega (arith, x.long, x.short); before = omega (arith, x.long, x.short) }

-- the value that was found
pub record IsFound (bs name : List ℕ) (e : Element) (from upto : ℕ) : Type 0 where
  pub value : Some (record { kind = e.kind; bytes = between from upto bs }) ≡ value_named name bs
  pub read : IsValue (record { kind = e.kind; bytes = between from upto bs })

pub is_found_at : (bs name left : List ℕ) (e : Element) (from upto : ℕ) → Looks bs name left → element_at left ≡ Some e → bytes_eq e.name name ≡ true → upto + length e.rest ≡ length bs - 1 → from + length e.value ≡ upto → IsFound bs name e from upto
is_found_at bs name left e from upto l is same a b =
    let here : between from upto bs ≡ e.value = (lies bs left (length bs - 1) e l.ends is).value from upto a b in
    record {
      value = ap (λ (part : List ℕ). Some (record { kind = e.kind; bytes = part })) here ∙ sym (named_here name left e is same) ∙ l.named;
      read = subst (λ (part : List ℕ). IsValue (record { kind = e.kind; bytes = part })) (sym here) (some_element left e l.read is).is_value;
    }

pub is_found : (bs name left : List ℕ) (e : Element) → Looks bs name left → element_at left ≡ Some e → bytes_eq e.name name ≡ true
    → IsFound bs name e (length bs - 1 - length e.rest - length e.value) (length bs - 1 - length e.rest)
is_found bs name left e l is same =
    let r = reaches bs name left e l is in
    is_found_at bs name left e (length bs - 1 - length e.rest - length e.value) (length bs - 1 - length e.rest) l is same (omega (arith, r.behind, r.before)) (omega (arith, r.behind, r.before))
