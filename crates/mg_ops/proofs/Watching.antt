-- The aggregate of a watch: what it is fit by, and that options that are the same open and resume the same watch.
use Rattle.std.proofs.Common.{◌≡◌, ◌<◌, ◌^◌, ℕ, ℤ, Bool, true, false, List, Option, Some, None, inl, inr, refl, ap, sym, subst, option_map, ltb-true, ltb-false, ◌++◌, ◌∷◌}
use Rattle.std.specs.Prelude.{◌&&◌, codes, not, ltb, is_some, int_lt, if◌then◌else◌}
use Rattle.mg_bson.specs.Tree.{Tree, document, array, Fields, item, field}
use Rattle.mg_bson.specs.Literal.{◌⇒◌⨾◌, empty}
use Rattle.mg_bson.specs.View.{tree}
use Rattle.mg_bson.specs.declared.tree.Timestamp.{Timestamp}
use Rattle.mg_link.specs.Namespace.{Target}
use Rattle.mg_link.specs.Session.{Session}
use Rattle.mg_link.specs.declared.error.BadArgument.{BadArgument}
use Rattle.mg_link.specs.declared.error.BadArgument.TheVariants as argument
use Rattle.mg_link.specs.declared.error.Error.{Error}
use Rattle.mg_link.specs.declared.read_preference.SelectionCriteria.{SelectionCriteria}
use Rattle.mg_options.specs.Conversions.{aggregate_of_watch}
use Rattle.mg_options.specs.Copies.{SameChangeStreamOptions}
use Rattle.mg_options.specs.Fields.{FailsBy as FailsUnfit, Line, line, Shown, absent, shown, unfit, Refuses, fields_in, first_unfit, given, unfit_of, ◌⟼◌⨾◌, nothing}
use Rattle.mg_options.specs.Options.{change_stream_lines}
use Rattle.mg_options.specs.Printing.{value, listed}
use Rattle.mg_options.specs.Shown.{collation, read_concern, selection, concern_lines}
use Rattle.mg_options.specs.declared.change_stream.ChangeStreamOptions.{ChangeStreamOptions}
use Rattle.mg_options.proofs.Fitting.{collation_fit, given_fit, none_unfit, read_concern_fit, selection_fit, unfit_first}
use Rattle.mg_options.proofs.Streams.{same_collation, same_given, same_lines, same_read_concern}
use Rattle.mg_ops.specs.Bodies.{behind_read, text, watch_body, writes_out, aggregate_body}
use Rattle.mg_ops.specs.Commands.{aggregate_on, cursor_fields, database_of, watch_stage}
use Rattle.mg_ops.specs.Cursors.{OpensWith, manner_of, watch_manner}
use Rattle.mg_ops.specs.Failing.{FailsBy, HasBadSize}
use Rattle.mg_ops.specs.Limits.{SizeFits}
use Rattle.mg_ops.specs.Pieces.{cursor_of_size, size_for}
use Rattle.mg_ops.specs.Resuming.{or_time, resume_at, resume_behind, resume_by, resumed, times_from}
use Rattle.mg_ops.specs.Sessions.{end_of, autocommit, numbered, session_lines, start_transaction}
use Rattle.mg_ops.specs.declared.change_stream.ChangeStreamData.{ChangeStreamData}
use Rattle.mg_ops.specs.declared.cursor_reply.CursorSpecification.{CursorSpecification}

-- ---- it is fit where the size of its batches is

abbrev behind_cursor : Target → ChangeStreamOptions → List Line
behind_cursor target o = "collation" ⟼ collation o.collation ⨾ "comment" ⟼ value o.comment ⨾ behind_read (database_of target) None o.read_concern o.selection_criteria

watch_unfit : (target : Target) (stages : List Fields) (o : ChangeStreamOptions) → first_unfit (watch_body target stages o None) ≡ unfit_of (cursor_of_size (writes_out stages) o.batch_size)
watch_unfit target stages o =
    unfit_first (codes "cursor") (cursor_of_size (writes_out stages) o.batch_size) (behind_cursor target o)
    (none_unfit (behind_cursor target o) (collation_fit o.collation, (given_fit (option_map tree o.comment), (refl, (read_concern_fit o.read_concern, (selection_fit o.selection_criteria, tt))))))

fits_by : (b : Bool) (n : ℕ) (t : Tree) → ltb n (2 ^ 31) ≡ b → unfit_of (if b then shown t else unfit argument.BatchSize) ≡ None → n < 2 ^ 31
fits_by true n t is fit = ltb-true n (2 ^ 31) is
fits_by false n t is fit = absurd cc

size_fits : (sizeless : Bool) (size : Option ℕ) → unfit_of (cursor_of_size sizeless size) ≡ None → SizeFits size
size_fits sizeless None fit = tt
size_fits sizeless (Some n) fit = fits_by (ltb n (2 ^ 31)) n (document (cursor_fields (size_for sizeless n))) refl fit

pub watch_fits : (target : Target) (stages : List Fields) (o : ChangeStreamOptions) → first_unfit (watch_body target stages o None) ≡ None → SizeFits o.batch_size
watch_fits target stages o fit = size_fits (writes_out stages) o.batch_size (subst (λ (a : Option BadArgument). a ≡ None) (watch_unfit target stages o) fit)

refused_by : (b : Bool) (n : ℕ) (t : Tree) (e : Error) → ltb n (2 ^ 31) ≡ b → Refuses (unfit_of (if b then shown t else unfit argument.BatchSize)) e → HasBadSize (Some n) e
refused_by true n t e is refused = absurd refused
refused_by false n t e is refused = (refused, ltb-false n (2 ^ 31) is)

size_refused : (sizeless : Bool) (size : Option ℕ) (e : Error) → Refuses (unfit_of (cursor_of_size sizeless size)) e → HasBadSize size e
size_refused sizeless None e refused = absurd refused
size_refused sizeless (Some n) e refused = refused_by (ltb n (2 ^ 31)) n (document (cursor_fields (size_for sizeless n))) e refl refused

pub watch_fails : (target : Target) (stages : List Fields) (o : ChangeStreamOptions) (e : Error) → FailsUnfit (first_unfit (watch_body target stages o None)) e → FailsBy (HasBadSize o.batch_size) e
watch_fails target stages o e (inl memory) = inl memory
watch_fails target stages o e (inr refused) = inr (size_refused (writes_out stages) o.batch_size e (subst (λ (a : Option BadArgument). Refuses a e) (watch_unfit target stages o) refused))

-- ---- the same options open the same watch

abbrev body_of : Target → List Fields → Option Session → List Line → Option ℕ → Shown → Shown → Shown → Option SelectionCriteria → List Line
body_of target stages session ls size rules comment reads asks =
    "aggregate" ⟼ shown (aggregate_on target)
    ⨾ "pipeline" ⟼ shown (array (item (document ("$changeStream" ⇒ document (fields_in ls) ⨾ empty)) (listed document stages)))
    ⨾ "cursor" ⟼ cursor_of_size (writes_out stages) size
    ⨾ "collation" ⟼ rules
    ⨾ "comment" ⟼ comment
    ⨾ end_of (text (database_of target)) session ("readConcern" ⟼ reads ⨾ "$readPreference" ⟼ selection asks ⨾ nothing)

parts_same : (target : Target) (stages : List Fields) (session : Option Session) {ls ls' : List Line} {size size' : Option ℕ} {rules rules' comment comment' reads reads' : Shown} {asks asks' : Option SelectionCriteria}
    → ls' ≡ ls → size' ≡ size → rules' ≡ rules → comment' ≡ comment → reads' ≡ reads → asks' ≡ asks
    → body_of target stages session ls' size' rules' comment' reads' asks' ≡ body_of target stages session ls size rules comment reads asks
parts_same target stages session a b c d e f = rw (a, b, c, d, e, f) refl

same_body : (target : Target) (stages : List Fields) (session : Option Session) (o p : ChangeStreamOptions) → change_stream_lines p ≡ change_stream_lines o → SameChangeStreamOptions o p → watch_body target stages p session ≡ watch_body target stages o session
same_body target stages session o p lines (words, before, resumes, at, starts, all, expanded, comment, wait, size, rules, reads, asks) =
    parts_same target stages session lines size (same_collation o.collation p.collation rules) (ap given (same_given tree o.comment p.comment comment)) (same_read_concern o.read_concern p.read_concern reads) asks

pub same_watch : (target : Target) (stages : List Fields) (session : Option Session) (o p : ChangeStreamOptions) → SameChangeStreamOptions o p → fields_in (watch_body target stages p session) ≡ fields_in (watch_body target stages o session)
same_watch target stages session o p same = ap fields_in (same_body target stages session o p (same_lines o p same) same)

-- ---- and resume the same

pub same_size : (o p : ChangeStreamOptions) → SameChangeStreamOptions o p → p.batch_size ≡ o.batch_size
same_size o p (words, before, resumes, at, starts, all, expanded, comment, wait, size, rules, reads, asks) = size

same_start : (o p : ChangeStreamOptions) → SameChangeStreamOptions o p → p.start_after ≡ o.start_after
same_start o p (words, before, resumes, at, starts, all, expanded, comment, wait, size, rules, reads, asks) = starts

same_behind : (b : Bool) (o p : ChangeStreamOptions) (token : Tree) → SameChangeStreamOptions o p → SameChangeStreamOptions (resume_behind b o token) (resume_behind b p token)
same_behind true o p token (words, before, resumes, at, starts, all, expanded, comment, wait, size, rules, reads, asks) = (words, before, resumes, refl, refl, all, expanded, comment, wait, size, rules, reads, asks)
same_behind false o p token (words, before, resumes, at, starts, all, expanded, comment, wait, size, rules, reads, asks) = (words, before, refl, refl, refl, all, expanded, comment, wait, size, rules, reads, asks)

same_timed : (time : Timestamp) (o p : ChangeStreamOptions) → SameChangeStreamOptions o p
    → SameChangeStreamOptions (record o { start_at_operation_time = Some (or_time o.start_at_operation_time time) }) (record p { start_at_operation_time = Some (or_time p.start_at_operation_time time) })
same_timed time o p (words, before, resumes, at, starts, all, expanded, comment, wait, size, rules, reads, asks) =
    (words, before, resumes, ap (λ (t : Option Timestamp). Some (or_time t time)) at, starts, all, expanded, comment, wait, size, rules, reads, asks)

same_if : (b : Bool) (o p o' p' : ChangeStreamOptions) → SameChangeStreamOptions o p → SameChangeStreamOptions o' p' → SameChangeStreamOptions (if b then o else o') (if b then p else p')
same_if true o p o' p' same other = same
same_if false o p o' p' same other = other

same_at : (saved : Option Timestamp) (o p : ChangeStreamOptions) (wire : ℤ) → SameChangeStreamOptions o p → SameChangeStreamOptions (resume_at o saved wire) (resume_at p saved wire)
same_at None o p wire same = same
same_at (Some time) o p wire same =
    same_if (int_lt wire times_from) o p (record o { start_at_operation_time = Some (or_time o.start_at_operation_time time) }) (record p { start_at_operation_time = Some (or_time p.start_at_operation_time time) }) same (same_timed time o p same)

same_by : (token : Option Tree) (o p : ChangeStreamOptions) (state : ChangeStreamData) (wire : ℤ) → SameChangeStreamOptions o p → SameChangeStreamOptions (resume_by token o state wire) (resume_by token p state wire)
same_by None o p state wire same = same_at state.initial_operation_time o p wire same
same_by (Some token) o p state wire same =
    let keeps : Option Tree → Bool = λ start. is_some start && not state.document_returned in
    subst (λ (b : Bool). SameChangeStreamOptions (resume_behind (keeps o.start_after) o token) (resume_behind b p token)) (sym (ap keeps (same_start o p same))) (same_behind (keeps o.start_after) o p token same)

pub same_resumed : (o p : ChangeStreamOptions) (state : ChangeStreamData) (wire : ℤ) → SameChangeStreamOptions o p → SameChangeStreamOptions (resumed o state wire) (resumed p state wire)
same_resumed o p state wire same = same_by state.resume_token o p state wire same

-- ---- its cursor is asked in the manner of its options

pub manner_read : (o : ChangeStreamOptions) (reply : List ℕ) (out : CursorSpecification) → OpensWith o.batch_size o.max_await_time o.comment reply out → manner_of out.info ≡ watch_manner o
manner_read o reply out read = rw (read.opens.size_is, read.time_is, read.comment_is) refl

-- ---- it is an aggregate

line_same : (k : List ℕ) (s : Shown) (ls ms : List Line) → fields_in ls ≡ fields_in ms → fields_in (line k s ∷ ls) ≡ fields_in (line k s ∷ ms)
line_same k absent ls ms same = same
line_same k (shown t) ls ms same = ap (field k t) same
line_same k (unfit a) ls ms same = same

session_same : (session : Option Session) (ls ms : List Line) → fields_in ls ≡ fields_in ms → fields_in (session_lines session ++ ls) ≡ fields_in (session_lines session ++ ms)
session_same None ls ms same = same
session_same (Some s) ls ms same =
    line_same (codes "lsid") (shown (document s.id)) ("txnNumber" ⟼ numbered s ⨾ "startTransaction" ⟼ start_transaction s ⨾ "autocommit" ⟼ autocommit s ⨾ ls) ("txnNumber" ⟼ numbered s ⨾ "startTransaction" ⟼ start_transaction s ⨾ "autocommit" ⟼ autocommit s ⨾ ms)
    (line_same (codes "txnNumber") (numbered s) ("startTransaction" ⟼ start_transaction s ⨾ "autocommit" ⟼ autocommit s ⨾ ls) ("startTransaction" ⟼ start_transaction s ⨾ "autocommit" ⟼ autocommit s ⨾ ms)
    (line_same (codes "startTransaction") (start_transaction s) ("autocommit" ⟼ autocommit s ⨾ ls) ("autocommit" ⟼ autocommit s ⨾ ms)
    (line_same (codes "autocommit") (autocommit s) ls ms same)))

module _ (target : Target) (pipeline : List Fields) (o : ChangeStreamOptions) (session : Option Session) where
  abbrev asks_whom : List Line
  asks_whom = "$readPreference" ⟼ selection o.selection_criteria ⨾ nothing

  abbrev watch_end : List Line
  watch_end = behind_read (database_of target) session o.read_concern o.selection_criteria

  -- what stands behind the comment of an aggregate with the same options, which writes nothing
  abbrev aggregate_end : List Line
  aggregate_end = "hint" ⟼ absent ⨾ "maxTimeMS" ⟼ absent ⨾ "let" ⟼ absent ⨾ end_of (text (database_of target)) session (concern_lines o.read_concern None o.selection_criteria)

  ends_same : fields_in watch_end ≡ fields_in aggregate_end
  ends_same =
      line_same (codes "$db") (text (database_of target)) (session_lines session ++ ("readConcern" ⟼ read_concern o.read_concern ⨾ asks_whom)) (session_lines session ++ concern_lines o.read_concern None o.selection_criteria)
      (session_same session ("readConcern" ⟼ read_concern o.read_concern ⨾ asks_whom) (concern_lines o.read_concern None o.selection_criteria)
      (line_same (codes "readConcern") (read_concern o.read_concern) asks_whom ("writeConcern" ⟼ absent ⨾ asks_whom) refl))

  pub watch_as_aggregate : fields_in (watch_body target pipeline o session) ≡ fields_in (aggregate_body target (watch_stage o ∷ pipeline) (aggregate_of_watch o) session)
  watch_as_aggregate =
      ap (λ (fs : Fields). field (codes "aggregate") (aggregate_on target) (field (codes "pipeline") (array (item (document (watch_stage o)) (listed document pipeline))) fs))
      (line_same (codes "cursor") (cursor_of_size (writes_out pipeline) o.batch_size) ("collation" ⟼ collation o.collation ⨾ "comment" ⟼ value o.comment ⨾ watch_end)
      ("allowDiskUse" ⟼ absent ⨾ "cursor" ⟼ absent ⨾ "bypassDocumentValidation" ⟼ absent ⨾ "collation" ⟼ collation o.collation ⨾ "comment" ⟼ value o.comment ⨾ aggregate_end)
      (line_same (codes "collation") (collation o.collation) ("comment" ⟼ value o.comment ⨾ watch_end) ("comment" ⟼ value o.comment ⨾ aggregate_end)
      (line_same (codes "comment") (value o.comment) watch_end aggregate_end ends_same)))
