-- The options of change streams: they are always fit, and those that are the same print the same.
use Rattle.std.proofs.Common.{◌≡◌, List, Option, Some, None, refl, ap, option_map}
use Rattle.mg_bson.specs.Tree.{boolean}
use Rattle.mg_bson.specs.View.{tree}
use Rattle.mg_link.specs.declared.concern.ReadConcern.{ReadConcern}
use Rattle.mg_link.specs.Words.{Word}
use Rattle.mg_options.specs.Collations.{collation_lines}
use Rattle.mg_options.specs.Copies.{SameChangeStreamOptions, SameIn, level_of}
use Rattle.mg_options.specs.Fields.{Line, Shown, first_unfit, given, nested, ◌⟼◌⨾◌, nothing}
use Rattle.mg_options.specs.Options.{change_stream_lines}
use Rattle.mg_options.specs.Printing.{flag, time, time_value, word, word_value}
use Rattle.mg_options.specs.Shown.{collation, read_concern}
use Rattle.mg_options.specs.Tables.{full_document_before_word, full_document_word}
use Rattle.mg_options.specs.declared.change_stream.ChangeStreamOptions.{ChangeStreamOptions}
use Rattle.mg_options.specs.declared.collation.Collation.{Collation}
use Rattle.mg_options.proofs.Fitting.{given_fit, none_unfit}

-- ---- they are fit

pub stream_fit : (o : ChangeStreamOptions) → first_unfit (change_stream_lines o) ≡ None
stream_fit o =
    none_unfit (change_stream_lines o) (
      given_fit (option_map word_value (option_map full_document_word o.full_document)),
      (
        given_fit (option_map word_value (option_map full_document_before_word o.full_document_before_change)),
        (
          given_fit o.resume_after,
          (
            given_fit (option_map time_value o.start_at_operation_time),
            (
              given_fit o.start_after,
              (
                given_fit (option_map boolean o.all_changes_for_cluster),
                (
                  given_fit (option_map boolean o.show_expanded_events),
                  (given_fit (option_map tree o.comment), tt),
                ),
              ),
            ),
          ),
        ),
      ),
    )

-- ---- the same options

pub same_given : {A B : Type 0} (view : A → B) (a b : Option A) → SameIn view a b → option_map view b ≡ option_map view a
same_given view None None same = refl
same_given view (Some x) (Some y) same = ap Some same
same_given view None (Some y) same = absurd same
same_given view (Some x) None same = absurd same

pub same_collation : (a b : Option Collation) → SameIn collation_lines a b → collation b ≡ collation a
same_collation None None same = refl
same_collation (Some x) (Some y) same = ap nested same
same_collation None (Some y) same = absurd same
same_collation (Some x) None same = absurd same

pub same_read_concern : (a b : Option ReadConcern) → SameIn level_of a b → read_concern b ≡ read_concern a
same_read_concern None None same = refl
same_read_concern (Some x) (Some y) same = ap (λ (w : Word). nested ("level" ⟼ given (Some (word_value w)) ⨾ nothing)) same
same_read_concern None (Some y) same = absurd same
same_read_concern (Some x) None same = absurd same

abbrev stage_lines : Shown → Shown → Shown → Shown → Shown → Shown → Shown → Shown → List Line
stage_lines a b c d e f g h = "fullDocument" ⟼ a ⨾ "fullDocumentBeforeChange" ⟼ b ⨾ "resumeAfter" ⟼ c ⨾ "startAtOperationTime" ⟼ d ⨾ "startAfter" ⟼ e ⨾ "allChangesForCluster" ⟼ f ⨾ "showExpandedEvents" ⟼ g ⨾ "comment" ⟼ h ⨾ nothing

all_same : {a b c d e f g h a' b' c' d' e' f' g' h' : Shown} → a' ≡ a → b' ≡ b → c' ≡ c → d' ≡ d → e' ≡ e → f' ≡ f → g' ≡ g → h' ≡ h → stage_lines a' b' c' d' e' f' g' h' ≡ stage_lines a b c d e f g h
all_same p q r s t u v w = rw (p, q, r, s, t, u, v, w) refl

pub same_lines : (o p : ChangeStreamOptions) → SameChangeStreamOptions o p → change_stream_lines p ≡ change_stream_lines o
same_lines o p (words, before, resumes, at, starts, all, expanded, comment, wait, size, rules, reads, asks) =
    all_same (ap word (same_given full_document_word o.full_document p.full_document words))
    (ap word (same_given full_document_before_word o.full_document_before_change p.full_document_before_change before))
    (ap given resumes) (ap time at) (ap given starts) (ap flag all) (ap flag expanded) (ap given (same_given tree o.comment p.comment comment))
