-- Elements that were passed over, and the first that is at fault.
use Rattle.std.proofs.Common.{◌≡◌, ℕ, zero, suc, ◌+◌, ◌<◌, ◌≤◌, List, length, true, false, cond, Option, Some, None, is_some, MatchOption, IfSome, refl, sym, ap, ◌∙◌, arith}
use Rattle.mg_bson.specs.Raw.{IsDocument}
use Rattle.mg_bson.specs.Reading.{Element, element_at, body_at, fields_at, doc_at, doc}
use Rattle.mg_bson.specs.Malformed.{value_is_there, left_behind, IsFaulty, IsMalformed}
use Rattle.mg_bson.specs.declared.malformed.Malformation.{Malformation}
use Rattle.mg_bson.specs.declared.malformed.MalformedReason.{MalformedReason}
use Rattle.mg_bson.specs.declared.malformed.MalformedReason.TheVariants as reason
use Rattle.mg_bson.proofs.Options.{bind_some, some_is, test_some}
use Rattle.mg_bson.proofs.Checking.{ended, stops, stops_at_value, goes_on, shorter, no_body, in_body}

-- one more element
left_behind_more : (n : ℕ) (bs mid : List ℕ) (e : Element) → left_behind n bs ≡ Some mid → element_at mid ≡ Some e → value_is_there e ≡ true → left_behind (suc n) bs ≡ Some e.rest
left_behind_more zero bs mid e b is h =
    let same : bs ≡ mid = some_is bs mid b in
    rw (same, is, h) refl
left_behind_more (suc n) bs mid e b is h =
    let x = bind_some (element_at bs) (λ e. cond (value_is_there e) (left_behind n e.rest) None) mid b in
    let t = test_some (value_is_there x.0) (left_behind n x.0.rest) mid x.2 in
    rw (x.1, t.0) (left_behind_more n x.0.rest mid e t.1 is h)

-- the elements in front were passed over
pub record Passed (body rest : List ℕ) : Type 0 where
  pub count : ℕ
  pub passed : left_behind count body ≡ Some rest
  pub same : is_some (fields_at (doc_at 99) rest) ≡ is_some (fields_at (doc_at 99) body)
  pub short : length rest ≤ length body

pub passed_none : (body : List ℕ) → Passed body body
passed_none body = record { count = 0; passed = refl; same = refl; short = omega arith }

pub passed_more : (body rest : List ℕ) (e : Element) → Passed body rest → 0 < length rest → element_at rest ≡ Some e → value_is_there e ≡ true → Passed body e.rest
passed_more body rest e p lt is h = record {
  count = suc p.count;
  passed = left_behind_more p.count body rest e p.passed is h;
  same = sym (goes_on (doc_at 99) rest e lt is h) ∙ p.same;
  short = omega (arith, p.short, shorter rest e lt is);
}

pub passed_all : (body rest : List ℕ) → Passed body rest → length rest ≤ 0 → is_some (fields_at (doc_at 99) body) ≡ true
passed_all body rest p h = sym p.same ∙ ended (doc_at 99) rest h

pub no_element : (body rest : List ℕ) (place : ℕ) → Passed body rest → 0 < length rest → place + length rest ≡ length body + 4 → element_at rest ≡ None
    → IsFaulty reason.Element place body × (is_some (fields_at (doc_at 99) body) ≡ false)
no_element body rest place p lt at e = (
  record { count = p.count; rest = rest; passed = p.passed; some_left = lt; placed = at; breaks = e },
  sym p.same ∙ stops (doc_at 99) rest lt e,
)

pub no_value : (body rest : List ℕ) (place : ℕ) (e : Element) → Passed body rest → 0 < length rest → place + length rest ≡ length body + 4 → element_at rest ≡ Some e → value_is_there e ≡ false
    → IsFaulty reason.Value place body × (is_some (fields_at (doc_at 99) body) ≡ false)
no_value body rest place e p lt at is h = (
  record { count = p.count; rest = rest; passed = p.passed; some_left = lt; placed = at; breaks = (e, is, h) },
  sym p.same ∙ stops_at_value (doc_at 99) rest e lt is h,
)

-- ---- the whole document

none_there : {A : Type 0} (o : Option A) → is_some o ≡ false → o ≡ None
none_there (Some x) h = absurd cc
none_there None h = refl

pub no_frame : (bs : List ℕ) → body_at bs ≡ None → doc bs ≡ None
no_frame bs e = none_there (doc bs) (no_body 100 bs (omega arith) e)

widened : (why : MalformedReason) (place : ℕ) (bs body : List ℕ) → body_at bs ≡ Some body → IsFaulty why place body → IsMalformed why place bs
widened reason.Frame place bs body is h = absurd h
widened reason.Element place bs body is h = (body, is, h)
widened reason.Value place bs body is h = (body, is, h)

abbrev Faulty : List ℕ → Malformation → Type 0
Faulty body m = IsFaulty m.reason m.place body × (is_some (fields_at (doc_at 99) body) ≡ false)

pub found_in : (bs body : List ℕ) (r : Option Malformation) → body_at bs ≡ Some body → MatchOption r (is_some (fields_at (doc_at 99) body) ≡ true) (Faulty body) → MatchOption r (IsDocument bs) (λ m. IsMalformed m.reason m.place bs)
found_in bs body (Some m) is h = widened m.reason m.place bs body is h.0
found_in bs body None is h = ap is_some (in_body 100 99 bs body refl is) ∙ h

pub refused_in : (bs body : List ℕ) (r : Option Malformation) → body_at bs ≡ Some body → MatchOption r (is_some (fields_at (doc_at 99) body) ≡ true) (Faulty body) → IfSome r (λ _. doc bs ≡ None)
refused_in bs body (Some m) is h = none_there (doc bs) (ap is_some (in_body 100 99 bs body refl is) ∙ h.1)
refused_in bs body None is h = tt
