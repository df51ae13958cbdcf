-- Fields that are always fit.
use Rattle.std.proofs.Common.{◌≡◌, List, [], ◌∷◌, Option, Some, None, inl, inr, refl, ap, subst, option_map}
use Rattle.std.specs.Prelude.{ℕ, pos, string_bytes, IfErr, Result}
use Rattle.std.proofs.lemmas.Result.{IfErr-weaker}
use Rattle.mg_bson.specs.Tree.{Tree, boolean, int32, string}
use Rattle.mg_link.specs.declared.concern.ReadConcern.{ReadConcern}
use Rattle.mg_link.specs.Errors.{plain}
use Rattle.mg_link.specs.declared.error.BadArgument.{BadArgument}
use Rattle.mg_link.specs.declared.error.Error.{Error}
use Rattle.mg_link.specs.declared.error.ErrorKind.TheVariants as kind
use Rattle.mg_link.specs.declared.read_preference.ReadPreference.{ReadPreference}
use Rattle.mg_link.specs.declared.read_preference.ReadPreference.TheVariants as preference
use Rattle.mg_link.specs.declared.read_preference.SelectionCriteria.{SelectionCriteria}
use Rattle.mg_link.specs.declared.read_preference.SelectionCriteria.TheVariants as criteria
use Rattle.mg_options.specs.Collations.{alternate_word, case_first_word, collation_lines, max_variable_word, strength_level}
use Rattle.mg_options.specs.Fields.{FailsBy, Shown, absent, shown, unfit, Line, line, fields_in, first_unfit, given, nested_by, unfit_of}
use Rattle.mg_options.specs.Printing.{word_value}
use Rattle.mg_options.specs.Shown.{collation, mode, read_concern, selection}
use Rattle.mg_options.specs.declared.collation.Collation.{Collation}

-- no field has an argument outside its range
abbrev pub AreFit : List Line → Type 0
AreFit [] = Unit {0}
AreFit (line k s ∷ ls) = (unfit_of s ≡ None) × AreFit ls

pub none_unfit : (ls : List Line) → AreFit ls → first_unfit ls ≡ None
none_unfit [] fit = refl
none_unfit (line k absent ∷ ls) fit = none_unfit ls fit.1
none_unfit (line k (shown t) ∷ ls) fit = none_unfit ls fit.1
none_unfit (line k (unfit a) ∷ ls) fit = let e : Some a ≡ None = fit.0 in absurd cc

-- where those behind it are fit, the first is the one that may not be
pub unfit_first : (k : List ℕ) (s : Shown) (ls : List Line) → first_unfit ls ≡ None → first_unfit (line k s ∷ ls) ≡ unfit_of s
unfit_first k absent ls fit = fit
unfit_first k (shown t) ls fit = fit
unfit_first k (unfit a) ls fit = refl

memory_alone : (e : Error) → FailsBy None e → e ≡ plain kind.OutOfMemory
memory_alone e (inl memory) = memory
memory_alone e (inr never) = absurd never

-- where all are fit, only memory can fail
pub only_memory : {T : Type 0} (r : Result T Error) (ls : List Line) → first_unfit ls ≡ None → IfErr r (λ e. FailsBy (first_unfit ls) e) → IfErr r (λ e. e ≡ plain kind.OutOfMemory)
only_memory r ls fit fails =
    IfErr-weaker r (λ e. FailsBy None e) (λ e. e ≡ plain kind.OutOfMemory) memory_alone (subst (λ (a : Option BadArgument). IfErr r (λ e. FailsBy a e)) fit fails)

pub given_fit : (t : Option Tree) → unfit_of (given t) ≡ None
given_fit None = refl
given_fit (Some t) = refl

pub rules_fit : (c : Collation) → first_unfit (collation_lines c) ≡ None
rules_fit c =
    none_unfit (collation_lines c) (
      given_fit (Some (string (string_bytes c.locale))),
      (
        given_fit (option_map (λ s. int32 (pos (strength_level s))) c.strength),
        (
          given_fit (option_map boolean c.case_level),
          (
            given_fit (option_map word_value (option_map case_first_word c.case_first)),
            (
              given_fit (option_map boolean c.numeric_ordering),
              (
                given_fit (option_map word_value (option_map alternate_word c.alternate)),
                (
                  given_fit (option_map word_value (option_map max_variable_word c.max_variable)),
                  (
                    given_fit (option_map boolean c.normalization),
                    (given_fit (option_map boolean c.backwards), tt),
                  ),
                ),
              ),
            ),
          ),
        ),
      ),
    )

pub collation_fit : (c : Option Collation) → unfit_of (collation c) ≡ None
collation_fit None = refl
collation_fit (Some c) = ap (λ (a : Option BadArgument). unfit_of (nested_by a (fields_in (collation_lines c)))) (rules_fit c)

pub read_concern_fit : (c : Option ReadConcern) → unfit_of (read_concern c) ≡ None
read_concern_fit None = refl
read_concern_fit (Some c) = refl

mode_fit : (p : ReadPreference) → unfit_of (mode p) ≡ None
mode_fit preference.Primary = refl
mode_fit preference.PrimaryPreferred = refl
mode_fit preference.Secondary = refl
mode_fit preference.SecondaryPreferred = refl
mode_fit preference.Nearest = refl

pub selection_fit : (s : Option SelectionCriteria) → unfit_of (selection s) ≡ None
selection_fit None = refl
selection_fit (Some (criteria.ReadPreference p)) = mode_fit p
