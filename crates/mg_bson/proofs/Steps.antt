-- The documents of an array, as the code goes through them: bytes are those of the document, and slice is a part of them.
use Rattle.std.proofs.Common.{◌≡◌, ◌-◌, ◌≤◌, ◌<◌, ℕ, List, length, cond, Bool, true, false, Option, Some, None, option_map, option_and_then, is_some, sym, ap, subst, ◌∙◌, arith, lt-ltb, le-ltb}
use Rattle.mg_bson.specs.Reading.{◌>>=◌, Element, element_at, body_at}
use Rattle.mg_bson.specs.Raw.{IsDocument, AreFields}
use Rattle.mg_bson.specs.Spans.{between, array_inside, documents_left, documents_inside}
use Rattle.mg_bson.specs.Walks.{before, current_at, front_of, passed_over, walk_at, IsWalk}
use Rattle.mg_bson.proofs.Walking.{WalksTo, HasFront, HasRoom, PassesTo, has_front, has_room, no_front, passes_none, passes_on, walks_on, walks_out, begins_nowhere, begins_at, begins_right}

-- ---- where a walk begins

pub begins_nowhere_in : (whole bytes outer name : List ℕ) (elements : Option (List ℕ)) → bytes ≡ whole → elements ≡ option_and_then body_at (array_inside outer name bytes) → is_some (elements >>= documents_left) ≡ false → None ≡ option_map (before whole) (option_and_then documents_inside (array_inside outer name whole))
begins_nowhere_in whole bytes outer name elements same e h =
    subst (λ (bs : List ℕ). None ≡ option_map (before whole) (option_and_then documents_inside (array_inside outer name bs))) same (begins_nowhere whole (array_inside outer name bytes) elements e h)

pub record BeginsIn (whole outer name : List ℕ) (from upto : ℕ) : Type 0 where
  pub walk : IsWalk whole from from from upto
  pub state : Some (walk_at whole from from from upto) ≡ option_map (before whole) (option_and_then documents_inside (array_inside outer name whole))

pub begins_in : (whole bytes outer name slice : List ℕ) (from upto : ℕ) → bytes ≡ whole → slice ≡ between from upto bytes → from ≤ upto → upto ≤ length bytes → AreFields (between from upto bytes) → Some (between from upto bytes) ≡ option_and_then body_at (array_inside outer name bytes) → is_some (documents_left slice) ≡ true
    → BeginsIn whole outer name from upto
begins_in whole bytes outer name slice from upto same is forward within read these documents =
    let all : is_some (documents_left (between from upto bytes)) ≡ true = ap (λ (bs : List ℕ). is_some (documents_left bs)) (sym is) ∙ documents in
    subst (λ (bs : List ℕ). BeginsIn bs outer name from upto) same
    (record { walk = begins_right bytes from upto forward within read all; state = begins_at bytes (array_inside outer name bytes) from upto these all })

-- ---- one step

same_part : (whole bytes slice : List ℕ) (next end : ℕ) → bytes ≡ whole → slice ≡ between next end bytes → slice ≡ between next end whole
same_part whole bytes slice next end same is = is ∙ ap (between next end) same

pub elements_in : (whole bytes slice : List ℕ) (begin upto next end : ℕ) → bytes ≡ whole → slice ≡ between next end bytes → IsWalk whole begin upto next end → AreFields slice
elements_in whole bytes slice begin upto next end same is w = subst AreFields (sym (same_part whole bytes slice next end same is)) w.elements

pub room_in : (whole bytes slice : List ℕ) (begin upto next end : ℕ) (e : Element) → bytes ≡ whole → slice ≡ between next end bytes → IsWalk whole begin upto next end → element_at slice ≡ Some e → HasRoom end (length e.value) (length e.rest)
room_in whole bytes slice begin upto next end e same is w at = has_room whole next end e w.inside (ap element_at (sym (same_part whole bytes slice next end same is)) ∙ at)

pub record StepsTo (whole : List ℕ) (begin upto next end from to : ℕ) : Type 0 where
  pub walks : WalksTo whole begin upto next end from to to
  pub there : is_some (current_at whole from to) ≡ true

pub steps_on : (whole bytes slice : List ℕ) (begin upto next end : ℕ) (e : Element) → bytes ≡ whole → slice ≡ between next end bytes → IsWalk whole begin upto next end → element_at slice ≡ Some e → StepsTo whole begin upto next end (end - length e.rest - length e.value) (end - length e.rest)
steps_on whole bytes slice begin upto next end e same is w at =
    let r = room_in whole bytes slice begin upto next end e same is w at in
    let s = walks_on whole begin upto next end (end - length e.rest - length e.value) (end - length e.rest) e w (ap element_at (sym (same_part whole bytes slice next end same is)) ∙ at) (omega (arith, r.behind)) (omega (arith, r.before)) in
    record { walks = s.0; there = s.1 }

pub steps_out : (whole bytes slice : List ℕ) (begin upto next end : ℕ) → bytes ≡ whole → slice ≡ between next end bytes → IsWalk whole begin upto next end → element_at slice ≡ None → WalksTo whole begin upto next end upto upto next × (is_some (current_at whole upto upto) ≡ false)
steps_out whole bytes slice begin upto next end same is w at = walks_out whole begin upto next end w (ap element_at (sym (same_part whole bytes slice next end same is)) ∙ at)

-- ---- the document behind the current one

pub front_in : (whole bytes slice : List ℕ) (begin upto next end : ℕ) (e : Element) → bytes ≡ whole → slice ≡ between next end bytes → IsWalk whole begin upto next end → element_at slice ≡ Some e → HasFront whole next end e
front_in whole bytes slice begin upto next end e same is w at = has_front whole begin upto next end e w (ap element_at (sym (same_part whole bytes slice next end same is)) ∙ at)

pub no_front_in : (whole bytes slice : List ℕ) (begin upto next end : ℕ) → bytes ≡ whole → slice ≡ between next end bytes → IsWalk whole begin upto next end → element_at slice ≡ None → None ≡ front_of (walk_at whole begin upto next end).behind
no_front_in whole bytes slice begin upto next end same is w at = no_front whole begin upto next end w (ap element_at (sym (same_part whole bytes slice next end same is)) ∙ at)

pub passes_in : (whole bytes slice : List ℕ) (begin upto next end : ℕ) (e : Element) → bytes ≡ whole → slice ≡ between next end bytes → IsWalk whole begin upto next end → element_at slice ≡ Some e → PassesTo whole begin upto next end (end - length e.rest)
passes_in whole bytes slice begin upto next end e same is w at =
    let r = room_in whole bytes slice begin upto next end e same is w at in
    passes_on whole begin upto next end (end - length e.rest) e w (ap element_at (sym (same_part whole bytes slice next end same is)) ∙ at) (omega (arith, r.behind))

pub passes_none_in : (whole bytes slice : List ℕ) (begin upto next end : ℕ) → bytes ≡ whole → slice ≡ between next end bytes → IsWalk whole begin upto next end → element_at slice ≡ None → walk_at whole begin upto next end ≡ passed_over (walk_at whole begin upto next end)
passes_none_in whole bytes slice begin upto next end same is w at = passes_none whole begin upto next end w (ap element_at (sym (same_part whole bytes slice next end same is)) ∙ at)

-- ---- the current document

pub current_there : (whole bytes slice : List ℕ) (begin upto : ℕ) → bytes ≡ whole → slice ≡ between begin upto bytes → begin < upto → Some slice ≡ current_at whole begin upto
current_there whole bytes slice begin upto same is lt =
    ap Some (same_part whole bytes slice begin upto same is) ∙ sym (ap (λ (t : Bool). cond t (Some (between begin upto whole)) None) (lt-ltb begin upto lt))

pub current_none : (whole : List ℕ) (begin upto : ℕ) → upto ≤ begin → None ≡ current_at whole begin upto
current_none whole begin upto le = sym (ap (λ (t : Bool). cond t (Some (between begin upto whole)) None) (le-ltb begin upto le))

pub document_in : (whole bytes slice : List ℕ) (begin upto next end : ℕ) → bytes ≡ whole → slice ≡ between begin upto bytes → IsWalk whole begin upto next end → begin < upto → IsDocument slice
document_in whole bytes slice begin upto next end same is w lt = subst IsDocument (sym (same_part whole bytes slice begin upto same is)) (w.document lt)
