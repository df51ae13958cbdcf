-- Fields that go into a document one after another.
use Rattle.std.proofs.Common.{◌≡◌, ℕ, ◌+◌, ◌<◌, ◌≤◌, length, get_or, drop, List, [], ◌∷◌, Option, None, refl, ap, sym, ◌∙◌}
use Rattle.std.proofs.lemmas.List.{drop_more, drop_all}
use Rattle.std.specs.Borrow.{Bor}
use Rattle.mg_bson.specs.Tree.{Tree, Fields, no_fields, field}
use Rattle.mg_bson.specs.Find.{with_field, joined}
use Rattle.mg_bson.proofs.Joining.{joined_more, joined_all}
use Rattle.mg_link.specs.declared.error.BadArgument.{BadArgument}
use Rattle.mg_options.specs.Fields.{Shown, absent, shown, unfit, Line, line, fields_in, first_unfit, unfit_of, lines}

pub put_none : (a : Fields) (k : List ℕ) (s : Shown) → s ≡ absent → a ≡ joined a (fields_in (line k s ∷ []))
put_none a k s e = sym (ap (λ (s : Shown). joined a (fields_in (line k s ∷ []))) e ∙ joined_all a)

pub put_some : (a b : Fields) (k : List ℕ) (s : Shown) (t : Tree) → s ≡ shown t → b ≡ with_field a k t → b ≡ joined a (fields_in (line k s ∷ []))
put_some a b k s t e after = after ∙ sym (joined_all (with_field a k t)) ∙ joined_more a k t no_fields ∙ sym (ap (λ (s : Shown). joined a (fields_in (line k s ∷ []))) e)

joined_twice : (a b d : Fields) → joined (joined a b) d ≡ joined a (joined b d)
joined_twice no_fields b d = refl
joined_twice (field k t a) b d = ap (field k t) (joined_twice a b d)

line_joined : (k : List ℕ) (s : Shown) (ls : List Line) → joined (fields_in (line k s ∷ [])) (fields_in ls) ≡ fields_in (line k s ∷ ls)
line_joined k absent ls = refl
line_joined k (shown t) ls = refl
line_joined k (unfit a) ls = refl

pub one_more : (a b all : Fields) (k : List ℕ) (s : Shown) (ls : List Line) → b ≡ joined a (fields_in (line k s ∷ [])) → joined a (fields_in (line k s ∷ ls)) ≡ all → joined b (fields_in ls) ≡ all
one_more a b all k s ls after so_far = ap (λ (d : Fields). joined d (fields_in ls)) after ∙ joined_twice a (fields_in (line k s ∷ [])) (fields_in ls) ∙ ap (joined a) (line_joined k s ls) ∙ so_far

pub unfit_behind : (k : List ℕ) (s : Shown) (ls : List Line) (all : Option BadArgument) → unfit_of s ≡ None → first_unfit (line k s ∷ ls) ≡ all → first_unfit ls ≡ all
unfit_behind k absent ls all e so_far = so_far
unfit_behind k (shown t) ls all e so_far = so_far
unfit_behind k (unfit a) ls all e so_far = absurd cc

lines_here : {V : Type 0} (show : V → Shown) (gs : List (Bor (List ℕ) × V)) (i : ℕ) (g : Bor (List ℕ) × V) → i < length gs → g ≡ get_or gs i g → lines show (drop i gs) ≡ line g.0.now (show g.1) ∷ lines show (drop (i + 1) gs)
lines_here show gs i g lt is = ap (lines show) (drop_more gs i g lt ∙ ap (λ (x : Bor (List ℕ) × _). x ∷ drop (i + 1) gs) (sym is))

pub field_on : {V : Type 0} (show : V → Shown) (gs : List (Bor (List ℕ) × V)) (i : ℕ) (g : Bor (List ℕ) × V) (a b all : Fields) (first : Option BadArgument) → i < length gs → g ≡ get_or gs i g
    → b ≡ joined a (fields_in (line g.0.now (show g.1) ∷ [])) → unfit_of (show g.1) ≡ None
    → (joined a (fields_in (lines show (drop i gs))) ≡ all) × (first_unfit (lines show (drop i gs)) ≡ first)
    → (joined b (fields_in (lines show (drop (i + 1) gs))) ≡ all) × (first_unfit (lines show (drop (i + 1) gs)) ≡ first)
field_on show gs i g a b all first lt is after fits so_far =
    let here : lines show (drop i gs) ≡ line g.0.now (show g.1) ∷ lines show (drop (i + 1) gs) = lines_here show gs i g lt is in (
      one_more a b all g.0.now (show g.1) (lines show (drop (i + 1) gs)) after (ap (λ (ls : List Line). joined a (fields_in ls)) (sym here) ∙ so_far.0),
      unfit_behind g.0.now (show g.1) (lines show (drop (i + 1) gs)) first fits (ap first_unfit (sym here) ∙ so_far.1),
    )

pub field_end : {V : Type 0} (show : V → Shown) (gs : List (Bor (List ℕ) × V)) (i : ℕ) (a all : Fields) → length gs ≤ i → joined a (fields_in (lines show (drop i gs))) ≡ all → a ≡ all
field_end show gs i a all le so_far = sym (joined_all a) ∙ ap (λ (ls : List Line). joined a (fields_in ls)) (sym (ap (lines show) (drop_all i gs le))) ∙ so_far
