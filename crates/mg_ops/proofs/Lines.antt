-- What a server finds among the lines of a command, whatever each of them comes to.
use Rattle.std.proofs.Common.{◌≡◌, ℕ, Bool, true, false, List, [], ◌∷◌, Option, Some, None, refl, ap, ◌∙◌}
use Rattle.std.specs.Prelude.{◌&&◌, ◌||◌, if◌then◌else◌}
use Rattle.std.specs.Str.{bytes_eq}
use Rattle.std.proofs.lemmas.Bool.{and_from, and_parts}
use Rattle.mg_bson.specs.Tree.{Tree}
use Rattle.mg_bson.specs.Find.{get}
use Rattle.mg_link.specs.Session.{Session}
use Rattle.mg_server.specs.Commands.{has_only, ignored, is_name_among}
use Rattle.mg_options.specs.Fields.{Line, line, Shown, absent, shown, unfit, fields_in, first_unfit, unfit_of}

-- ---- the value of a name

-- the value of a field, where it has one
abbrev pub come_to : Shown → Option Tree
come_to absent = None
come_to (shown t) = Some t
come_to (unfit a) = None

-- the first of two values
abbrev pub first_of : Option Tree → Option Tree → Option Tree
first_of None u = u
first_of (Some t) u = Some t

-- the value of a name among lines
abbrev pub looked : List ℕ → List Line → Option Tree
looked k [] = None
looked k (line l s ∷ ls) = if bytes_eq l k then first_of (come_to s) (looked k ls) else looked k ls

whichever : (b : Bool) (t : Option Tree) → t ≡ (if b then t else t)
whichever true t = refl
whichever false t = refl

looked_up : (k : List ℕ) (ls : List Line) → get k (fields_in ls) ≡ looked k ls
looked_up k [] = refl
looked_up k (line l absent ∷ ls) = looked_up k ls ∙ whichever (bytes_eq l k) (looked k ls)
looked_up k (line l (shown t) ∷ ls) = ap (λ (u : Option Tree). if bytes_eq l k then Some t else u) (looked_up k ls)
looked_up k (line l (unfit a) ∷ ls) = looked_up k ls ∙ whichever (bytes_eq l k) (looked k ls)

first_alone : (t : Option Tree) → first_of t None ≡ t
first_alone None = refl
first_alone (Some t) = refl

-- the value that a name has in a command, whatever its session
pub value_at : (k : List ℕ) (ls : Option Session → List Line) (s : Shown) → looked k (ls None) ≡ first_of (come_to s) None → ((x : Session) → looked k (ls (Some x)) ≡ first_of (come_to s) None)
    → (session : Option Session) → get k (fields_in (ls session)) ≡ come_to s
value_at k ls s alone within None = looked_up k (ls None) ∙ alone ∙ first_alone (come_to s)
value_at k ls s alone within (Some x) = looked_up k (ls (Some x)) ∙ within x ∙ first_alone (come_to s)

-- ---- lines that are fit

-- what the line of a name comes to
abbrev pub shown_at : List ℕ → List Line → Shown
shown_at k [] = absent
shown_at k (line l s ∷ ls) = if bytes_eq l k then s else shown_at k ls

fit_either : (b : Bool) (s t : Shown) → unfit_of s ≡ None → unfit_of t ≡ None → unfit_of (if b then s else t) ≡ None
fit_either true s t this that = this
fit_either false s t this that = that

pub fit_at : (k : List ℕ) (ls : List Line) → first_unfit ls ≡ None → unfit_of (shown_at k ls) ≡ None
fit_at k [] fit = refl
fit_at k (line l absent ∷ ls) fit = fit_either (bytes_eq l k) absent (shown_at k ls) refl (fit_at k ls fit)
fit_at k (line l (shown t) ∷ ls) fit = fit_either (bytes_eq l k) (shown t) (shown_at k ls) refl (fit_at k ls fit)
fit_at k (line l (unfit a) ∷ ls) fit = absurd cc

-- ---- the names that a command has

-- it comes to no field
abbrev pub is_left_out : Shown → Bool
is_left_out absent = true
is_left_out (shown t) = false
is_left_out (unfit a) = true

-- each line that comes to a field has one of the names, or one that changes nothing
abbrev pub allows : List (List ℕ) → List Line → Bool
allows names [] = true
allows names (line k s ∷ ls) = ((is_name_among k names || is_name_among k ignored) || is_left_out s) && allows names ls

or_false : (b : Bool) → (b || false) ≡ true → b ≡ true
or_false true h = h
or_false false h = h

allowed : (names : List (List ℕ)) (ls : List Line) → allows names ls ≡ true → has_only names (fields_in ls) ≡ true
allowed names [] h = refl
allowed names (line k absent ∷ ls) h = allowed names ls (and_parts ((is_name_among k names || is_name_among k ignored) || true) (allows names ls) h).1
allowed names (line k (shown t) ∷ ls) h =
    let named : Bool = is_name_among k names || is_name_among k ignored in
    let both = and_parts (named || false) (allows names ls) h in
    and_from named (has_only names (fields_in ls)) (or_false named both.0) (allowed names ls both.1)
allowed names (line k (unfit a) ∷ ls) h = allowed names ls (and_parts ((is_name_among k names || is_name_among k ignored) || true) (allows names ls) h).1

-- the names that a command has, whatever its session
pub allowed_in : (names : List (List ℕ)) (ls : Option Session → List Line) → allows names (ls None) ≡ true → ((x : Session) → allows names (ls (Some x)) ≡ true)
    → (session : Option Session) → has_only names (fields_in (ls session)) ≡ true
allowed_in names ls alone within None = allowed names (ls None) alone
allowed_in names ls alone within (Some x) = allowed names (ls (Some x)) (within x)
