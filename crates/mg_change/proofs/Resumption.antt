-- Where a resumption begins, and that it watches the same.
use Rattle.std.proofs.Common.{◌≡◌, ℤ, Bool, true, false, not, Option, Some, None, refl, ap, ◌∙◌, subst, option_map}
use Rattle.std.specs.Prelude.{◌&&◌, ◌||◌, codes, is_some, int_lt, if◌then◌else◌, option_and_then}
use Rattle.mg_bson.specs.Tree.{Tree}
use Rattle.mg_bson.specs.declared.tree.Timestamp.{Timestamp}
use Rattle.mg_link.specs.Namespace.{as_database, Target, database, collection, cluster}
use Rattle.mg_server.specs.Commands.{start_by, whole_target}
use Rattle.mg_server.specs.Follow.{ResumesAt}
use Rattle.mg_server.specs.State.{Start, nowhere, after, at_time, time_of}
use Rattle.mg_options.specs.Printing.{time_value}
use Rattle.mg_options.specs.declared.change_stream.ChangeStreamOptions.{ChangeStreamOptions}
use Rattle.mg_ops.specs.Aims.{aim}
use Rattle.mg_ops.specs.Naming.{start_in, watches_all}
use Rattle.mg_ops.specs.Resuming.{options_for, or_time, resume_at, resume_behind, resume_by, times_from}
use Rattle.mg_ops.specs.declared.change_stream.ChangeStreamData.{ChangeStreamData}
use Rattle.mg_change.specs.ClientStreams.{IsSaved, SavedFor, token_known}

-- ---- what is watched

all_behind : (b : Bool) (o : ChangeStreamOptions) (token : Tree) → watches_all (resume_behind b o token) ≡ watches_all o
all_behind true o token = refl
all_behind false o token = refl

all_if : (b : Bool) (o o' : ChangeStreamOptions) → watches_all o' ≡ watches_all o → watches_all (if b then o else o') ≡ watches_all o
all_if true o o' e = refl
all_if false o o' e = e

all_at : (saved : Option Timestamp) (o : ChangeStreamOptions) (wire : ℤ) → watches_all (resume_at o saved wire) ≡ watches_all o
all_at None o wire = refl
all_at (Some time) o wire = all_if (int_lt wire times_from) o (record o { start_at_operation_time = Some (or_time o.start_at_operation_time time) }) refl

all_by : (token : Option Tree) (o : ChangeStreamOptions) (known : ChangeStreamData) (wire : ℤ) → watches_all (resume_by token o known wire) ≡ watches_all o
all_by None o known wire = all_at known.initial_operation_time o wire
all_by (Some token) o known wire = all_behind (is_some o.start_after && not known.document_returned) o token

all_for : (o : ChangeStreamOptions) (r : Option ChangeStreamData) (wire : ℤ) → watches_all (options_for o r wire) ≡ watches_all o
all_for o None wire = refl
all_for o (Some known) wire = all_by known.resume_token o known wire

aimed_by : (t : Target) (o o' : ChangeStreamOptions) → watches_all o' ≡ watches_all o → aim o' t ≡ aim o t
aimed_by (collection space) o o' e = refl
aimed_by (database db) o o' e = ap (λ (b : Bool). option_and_then (whole_target b) (as_database db)) e
aimed_by cluster o o' e = ap (λ (b : Bool). whole_target b (codes "admin")) e

-- a resumption is aimed as the opening was
pub aimed_still : (t : Target) (o : ChangeStreamOptions) (r : Option ChangeStreamData) (wire : ℤ) → aim (options_for o r wire) t ≡ aim o t
aimed_still t o r wire = aimed_by t o (options_for o r wire) (all_for o r wire)

-- ---- where it begins

-- a watch begins there, behind the token or at the start
pub record Begins (o : ChangeStreamOptions) (start : Start) (token : Option Tree) : Type 0 where
  pub begin : Start
  pub starts : start_in o ≡ Some begin
  pub resumes : ResumesAt start token begin

no_other : (other given : Option Tree) (time : Option Tree) (start : Start) → is_some given ≡ true → start_by other given time ≡ Some start → other ≡ None
no_other None given time start there from = refl
no_other (Some r) None time start there from = absurd cc
no_other (Some r) (Some s) None start there from = absurd cc
no_other (Some r) (Some s) (Some t) start there from = absurd cc

left_true : (p q : Bool) → (p && q) ≡ true → p ≡ true
left_true true q h = refl
left_true false q h = absurd cc

begins_behind : (b : Bool) (o : ChangeStreamOptions) (returned : Bool) (token : Tree) (start : Start) → (is_some o.start_after && not returned) ≡ b → start_in o ≡ Some start → Begins (resume_behind b o token) start (Some token)
begins_behind true o returned token start keeps from =
    let none : o.resume_after ≡ None = no_other o.resume_after o.start_after (option_map time_value o.start_at_operation_time) start (left_true (is_some o.start_after) (not returned) keeps) from in
    record { begin = after token; starts = ap (λ (t : Option Tree). start_by t (Some token) None) none; resumes = refl }
begins_behind false o returned token start keeps from = record { begin = after token; starts = refl; resumes = refl }

same_start : (start : Start) → ResumesAt start None start
same_start nowhere = tt
same_start (after token) = tt
same_start (at_time time) = refl

unsaid_by : (r s : Option Tree) (t : Option Timestamp) (start : Start) → (is_some r || is_some s || is_some t) ≡ false → start_by r s (option_map time_value t) ≡ Some start → (r ≡ None) × (s ≡ None) × (nowhere ≡ start)
unsaid_by None None None start none from = (refl, refl, cc)
unsaid_by None None (Some t) start none from = absurd cc
unsaid_by None (Some s) t start none from = absurd cc
unsaid_by (Some r) None t start none from = absurd cc
unsaid_by (Some r) (Some s) t start none from = absurd cc

begins_if : (b : Bool) (o : ChangeStreamOptions) (time : Timestamp) (start : Start) → o.resume_after ≡ None → o.start_after ≡ None → nowhere ≡ start → start_in o ≡ Some start
    → Begins (if b then o else record o { start_at_operation_time = Some time }) start None
begins_if true o time start no_token no_after is from = record { begin = start; starts = from; resumes = same_start start }
begins_if false o time start no_token no_after is from =
    record {
      begin = at_time (time_of time.time time.increment);
      starts = ap (λ (t : Option Tree). start_by t o.start_after (Some (time_value time))) no_token ∙ ap (λ (t : Option Tree). start_by None t (Some (time_value time))) no_after;
      resumes = subst (λ (s : Start). ResumesAt s None (at_time (time_of time.time time.increment))) is tt;
    }

begins_at : (saved : Option Timestamp) (o : ChangeStreamOptions) (wire : ℤ) (start : Start) → SavedFor o saved → start_in o ≡ Some start → Begins (resume_at o saved wire) start None
begins_at None o wire start none from = record { begin = start; starts = from; resumes = same_start start }
begins_at (Some time) o wire start none from =
    let r = unsaid_by o.resume_after o.start_after o.start_at_operation_time start none from in
    begins_if (int_lt wire times_from) o (or_time o.start_at_operation_time time) start r.0 r.1 r.2 from

begins_by : (token : Option Tree) (o : ChangeStreamOptions) (known : ChangeStreamData) (wire : ℤ) (start : Start) → SavedFor o known.initial_operation_time → start_in o ≡ Some start → Begins (resume_by token o known wire) start token
begins_by None o known wire start saved from = begins_at known.initial_operation_time o wire start saved from
begins_by (Some token) o known wire start saved from = begins_behind (is_some o.start_after && not known.document_returned) o known.document_returned token start refl from

-- a resumption begins behind the token, and without one at the time that the stream began at
pub begins_again : (o : ChangeStreamOptions) (r : Option ChangeStreamData) (wire : ℤ) (start : Start) → IsSaved o r → start_in o ≡ Some start → Begins (options_for o r wire) start (token_known r)
begins_again o None wire start saved from = absurd saved
begins_again o (Some known) wire start saved from = begins_by known.resume_token o known wire start saved from
