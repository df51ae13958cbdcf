-- Parts of a command one behind another.
use Rattle.std.proofs.Common.{◌≡◌, ◌++◌, List, [], ◌∷◌, Option, Some, None, inl, inr, refl, ap, sym, ◌∙◌, subst}
use Rattle.std.specs.Prelude.{ℕ}
use Rattle.mg_bson.specs.Tree.{array, document, Fields, no_fields, field, no_items, item}
use Rattle.mg_bson.specs.Find.{with_field, joined}
use Rattle.mg_bson.proofs.Joining.{joined_more, joined_all}
use Rattle.mg_link.specs.declared.error.BadArgument.{BadArgument}
use Rattle.mg_link.specs.declared.error.Error.{Error}
use Rattle.mg_options.specs.Fields.{FailsBy, Line, line, Shown, absent, shown, unfit, fields_in, first_unfit}
use Rattle.mg_ops.specs.Pieces.{one_by, one_of}

joined_twice : (a b d : Fields) → joined (joined a b) d ≡ joined a (joined b d)
joined_twice no_fields b d = refl
joined_twice (field k t a) b d = ap (field k t) (joined_twice a b d)

fields_joined : (ls ms : List Line) → joined (fields_in ls) (fields_in ms) ≡ fields_in (ls ++ ms)
fields_joined [] ms = refl
fields_joined (line k absent ∷ ls) ms = fields_joined ls ms
fields_joined (line k (shown t) ∷ ls) ms = ap (field k t) (fields_joined ls ms)
fields_joined (line k (unfit a) ∷ ls) ms = fields_joined ls ms

pub both_put : (a b d : Fields) (ls ms : List Line) → b ≡ joined a (fields_in ls) → d ≡ joined b (fields_in ms) → d ≡ joined a (fields_in (ls ++ ms))
both_put a b d ls ms first rest = rest ∙ ap (λ (x : Fields). joined x (fields_in ms)) first ∙ joined_twice a (fields_in ls) (fields_in ms) ∙ ap (joined a) (fields_joined ls ms)

pub unfit_in_rest : (ls ms : List Line) → first_unfit ls ≡ None → first_unfit (ls ++ ms) ≡ first_unfit ms
unfit_in_rest [] ms fits = refl
unfit_in_rest (line k absent ∷ ls) ms fits = unfit_in_rest ls ms fits
unfit_in_rest (line k (shown t) ∷ ls) ms fits = unfit_in_rest ls ms fits
unfit_in_rest (line k (unfit a) ∷ ls) ms fits = absurd cc

pub fails_first : (ls ms : List Line) (e : Error) → FailsBy (first_unfit ls) e → FailsBy (first_unfit (ls ++ ms)) e
fails_first [] ms e (inl memory) = inl memory
fails_first [] ms e (inr never) = absurd never
fails_first (line k absent ∷ ls) ms e fails = fails_first ls ms e fails
fails_first (line k (shown t) ∷ ls) ms e fails = fails_first ls ms e fails
fails_first (line k (unfit a) ∷ ls) ms e fails = fails

pub nothing_put : (d : Fields) → d ≡ joined d no_fields
nothing_put d = sym (joined_all d)

-- ---- an array of one document

one_fits : (ls : List Line) → first_unfit ls ≡ None → one_of ls ≡ shown (array (item (document (fields_in ls)) no_items))
one_fits ls fits = ap (λ (a : Option BadArgument). one_by a (fields_in ls)) fits

pub one_put : (a b : Fields) (k : List ℕ) (ls : List Line) → first_unfit ls ≡ None → b ≡ with_field a k (array (item (document (fields_in ls)) no_items)) → b ≡ joined a (fields_in (line k (one_of ls) ∷ []))
one_put a b k ls fits after =
    after
    ∙ sym (joined_all (with_field a k (array (item (document (fields_in ls)) no_items))))
    ∙ joined_more a k (array (item (document (fields_in ls)) no_items)) no_fields
    ∙ sym (ap (λ (s : Shown). joined a (fields_in (line k s ∷ []))) (one_fits ls fits))

pub one_is_fit : (k : List ℕ) (ls : List Line) → first_unfit ls ≡ None → first_unfit (line k (one_of ls) ∷ []) ≡ None
one_is_fit k ls fits = ap (λ (s : Shown). first_unfit (line k s ∷ [])) (one_fits ls fits)

unfit_one : (a : Option BadArgument) (k : List ℕ) (fs : Fields) → first_unfit (line k (one_by a fs) ∷ []) ≡ a
unfit_one None k fs = refl
unfit_one (Some a) k fs = refl

pub one_fails : (k : List ℕ) (ls : List Line) (e : Error) → FailsBy (first_unfit ls) e → FailsBy (first_unfit (line k (one_of ls) ∷ [])) e
one_fails k ls e fails = subst (λ (a : Option BadArgument). FailsBy a e) (sym (unfit_one (first_unfit ls) k (fields_in ls))) fails
