-- What a session adds to a command.
use Rattle.std.proofs.Common.{◌≡◌, ◌++◌, ℕ, ℤ, Bool, true, false, List, [], ◌∷◌, Option, Some, None, inl, inr, refl, ap, ◌∙◌, subst}
use Rattle.std.specs.Prelude.{codes, ◌&&◌, ◌||◌, if◌then◌else◌}
use Rattle.std.specs.Str.{bytes_eq}
use Rattle.mg_bson.specs.Tree.{Tree, document, int64, boolean, Fields, field}
use Rattle.mg_bson.specs.Find.{get, joined}
use Rattle.mg_bson.proofs.Joining.{joined_all}
use Rattle.mg_server.specs.Commands.{has_only, ignored, is_name_among}
use Rattle.mg_link.specs.Errors.{plain}
use Rattle.mg_link.specs.Session.{Session, in_transaction, starts_transaction}
use Rattle.mg_link.specs.declared.error.BadArgument.{BadArgument}
use Rattle.mg_link.specs.declared.error.Error.{Error}
use Rattle.mg_link.specs.declared.error.ErrorKind.TheVariants as kind
use Rattle.mg_options.specs.Fields.{FailsBy, Line, line, Shown, absent, shown, unfit, fields_in, first_unfit, ◌⟼◌⨾◌}
use Rattle.mg_options.specs.Printing.{flag}
use Rattle.mg_ops.specs.Pieces.{only_true}
use Rattle.mg_ops.specs.Sessions.{autocommit, end_of, in_session, session_lines, start_transaction, numbered}

-- ---- its fields are always fit

fit_by : (id : Fields) (n : ℤ) (goes_on starts : Bool) (ls : List Line)
    → first_unfit ("lsid" ⟼ shown (document id) ⨾ "txnNumber" ⟼ (if goes_on then shown (int64 n) else absent) ⨾ "startTransaction" ⟼ flag (only_true starts) ⨾ "autocommit" ⟼ (if goes_on then shown (boolean false) else absent) ⨾ ls) ≡ first_unfit ls
fit_by id n true true ls = refl
fit_by id n true false ls = refl
fit_by id n false true ls = refl
fit_by id n false false ls = refl

unfit_past : (s : Option Session) (ls : List Line) → first_unfit (session_lines s ++ ls) ≡ first_unfit ls
unfit_past None ls = refl
unfit_past (Some s) ls = fit_by s.id s.number (in_transaction s) (starts_transaction s) ls

-- whether a command is fit does not hang on its session
pub session_between : (ls : List Line) (db : Shown) (s : Option Session) (cs : List Line) → first_unfit (ls ++ end_of db s cs) ≡ first_unfit (ls ++ end_of db None cs)
session_between [] absent s cs = unfit_past s cs
session_between [] (shown t) s cs = unfit_past s cs
session_between [] (unfit a) s cs = refl
session_between (line k absent ∷ ls) db s cs = session_between ls db s cs
session_between (line k (shown t) ∷ ls) db s cs = session_between ls db s cs
session_between (line k (unfit a) ∷ ls) db s cs = refl

memory_alone : (e : Error) → FailsBy None e → e ≡ plain kind.OutOfMemory
memory_alone e (inl memory) = memory
memory_alone e (inr never) = absurd never

pub only_memory : (s : Option Session) (e : Error) → FailsBy (first_unfit (session_lines s)) e → e ≡ plain kind.OutOfMemory
only_memory None e fails = memory_alone e fails
only_memory (Some s) e fails = memory_alone e (subst (λ (a : Option BadArgument). FailsBy a e) (fit_by s.id s.number (in_transaction s) (starts_transaction s) []) fails)

-- ---- a command with its session behind it

pub session_behind : (s : Option Session) (d e : Fields) → e ≡ joined d (fields_in (session_lines s)) → e ≡ in_session s d
session_behind None d e is = is ∙ joined_all d
session_behind (Some s) d e is = is

-- ---- a server takes no notice of it

or_true : (b : Bool) → (b || true) ≡ true
or_true true = refl
or_true false = refl

ignored_field : (names : List (List ℕ)) (k : List ℕ) (t : Tree) (fs : Fields) → is_name_among k ignored ≡ true → has_only names fs ≡ true → has_only names (field k t fs) ≡ true
ignored_field names k t fs is only =
    ap (λ (b : Bool). (is_name_among k names || b) && has_only names fs) is ∙ ap (λ (b : Bool). b && has_only names fs) (or_true (is_name_among k names)) ∙ only

pub ignored_line : (names : List (List ℕ)) (k : List ℕ) (s : Shown) (ls : List Line) → is_name_among k ignored ≡ true → has_only names (fields_in ls) ≡ true → has_only names (fields_in (line k s ∷ ls)) ≡ true
ignored_line names k absent ls is only = only
ignored_line names k (shown t) ls is only = ignored_field names k t (fields_in ls) is only
ignored_line names k (unfit a) ls is only = only

pub session_allowed : (names : List (List ℕ)) (s : Option Session) (ls : List Line) → has_only names (fields_in ls) ≡ true → has_only names (fields_in (session_lines s ++ ls)) ≡ true
session_allowed names None ls only = only
session_allowed names (Some s) ls only =
    ignored_line names (codes "lsid") (shown (document s.id)) ("txnNumber" ⟼ numbered s ⨾ "startTransaction" ⟼ start_transaction s ⨾ "autocommit" ⟼ autocommit s ⨾ ls) refl
    (ignored_line names (codes "txnNumber") (numbered s) ("startTransaction" ⟼ start_transaction s ⨾ "autocommit" ⟼ autocommit s ⨾ ls) refl
    (ignored_line names (codes "startTransaction") (start_transaction s) ("autocommit" ⟼ autocommit s ⨾ ls) refl
    (ignored_line names (codes "autocommit") (autocommit s) ls refl only)))

pub line_past : (k l : List ℕ) (s : Shown) (ls : List Line) → bytes_eq l k ≡ false → get k (fields_in (line l s ∷ ls)) ≡ get k (fields_in ls)
line_past k l absent ls other = refl
line_past k l (shown t) ls other = ap (λ (b : Bool). if b then Some t else get k (fields_in ls)) other
line_past k l (unfit a) ls other = refl
