-- What the aggregate that resumes a follow asks for: the watch that it opened, from where it began, behind a token, or at a time.
use Rattle.std.proofs.Common.{◌≡◌, ℕ, ℤ, Bool, true, false, Option, Some, None, refl, ap}
use Rattle.std.specs.Prelude.{◌&&◌, if◌then◌else◌, int_lt, is_some, not}
use Rattle.mg_bson.specs.Tree.{Tree}
use Rattle.mg_bson.specs.declared.tree.Timestamp.{Timestamp}
use Rattle.mg_link.specs.Namespace.{Target}
use Rattle.mg_server.specs.State as state
use Rattle.mg_options.specs.declared.change_stream.ChangeStreamOptions.{ChangeStreamOptions}
use Rattle.mg_change.specs.ClientStreams.{SavedFor}
use Rattle.mg_ops.specs.Resuming.{options_for, or_time, resume_at, resume_behind, resume_by, times_from}
use Rattle.mg_ops.specs.declared.change_stream.ChangeStreamData.{ChangeStreamData}
use Rattle.mg_script.specs.Plan.{Begin, at_time, nowhere, resume_after, start_after}
use Rattle.mg_players.specs.Follows.{all_changes_of, options_of, start_of}
use Rattle.mg_jobs.proofs.OpeningRead.{begun_is, plain}

-- where it goes on that began there and knows this
pub data GoesOnFrom (start : Begin) (known : ChangeStreamData) (again : Begin) : Type 0 where
  as_before : again ≡ start → GoesOnFrom start known again
  behind : (token : Tree) → known.resume_token ≡ Some token → start_of again ≡ state.after token → GoesOnFrom start known again
  from_time : (time : ℕ) → start_of again ≡ state.at_time time → GoesOnFrom start known again

pub record ResumesAs (on : Target) (start : Begin) (batch : Option ℕ) (known : ChangeStreamData) (o : ChangeStreamOptions) : Type 0 where
  pub again : Begin
  pub options_are : o ≡ options_of on again batch
  pub from : GoesOnFrom start known again

module _ (on : Target) (batch : Option ℕ) (known : ChangeStreamData) (wire : ℤ) where
  by_token : (start : Begin) (token : Tree) → known.resume_token ≡ Some token → (b : Bool) → ResumesAs on start batch known (resume_behind (is_some (options_of on start batch).start_after && b) (options_of on start batch) token)
  by_token nowhere token is b = record { again = resume_after token; options_are = refl; from = behind token is refl }
  by_token (resume_after t) token is b = record { again = resume_after token; options_are = refl; from = behind token is refl }
  by_token (start_after t) token is true = record { again = start_after token; options_are = refl; from = behind token is refl }
  by_token (start_after t) token is false = record { again = resume_after token; options_are = refl; from = behind token is refl }
  by_token (at_time seconds increment) token is b = record { again = resume_after token; options_are = refl; from = behind token is refl }

  abbrev timed : Bool → Begin → Timestamp → ChangeStreamOptions
  timed b start time = if b then options_of on start batch else record (options_of on start batch) { start_at_operation_time = Some (or_time (options_of on start batch).start_at_operation_time time) }

  at_none : (b : Bool) (time : Timestamp) → ResumesAs on nowhere batch known (timed b nowhere time)
  at_none true time = record { again = nowhere; options_are = refl; from = as_before refl }
  at_none false time = record { again = at_time time.time time.increment; options_are = refl; from = from_time _ refl }

  none_saved : {A : Type 0} → true ≡ false → A
  none_saved bad = cc

  by_time : (start : Begin) (time : Option Timestamp) → SavedFor (options_of on start batch) time → ResumesAs on start batch known (resume_at (options_of on start batch) time wire)
  by_time start None saved = record { again = start; options_are = refl; from = as_before refl }
  by_time nowhere (Some time) saved = at_none (int_lt wire times_from) time
  by_time (resume_after t) (Some time) saved = none_saved saved
  by_time (start_after t) (Some time) saved = none_saved saved
  by_time (at_time seconds increment) (Some time) saved = none_saved saved

  by_known : (start : Begin) → SavedFor (options_of on start batch) known.initial_operation_time → (token : Option Tree) → known.resume_token ≡ token → ResumesAs on start batch known (resume_by token (options_of on start batch) known wire)
  by_known start saved (Some token) is = by_token start token is (not known.document_returned)
  by_known start saved None is = by_time start known.initial_operation_time saved

  -- What a follow resumes by is one of its own kind.
  pub resumes_as : (start : Begin) → SavedFor (options_of on start batch) known.initial_operation_time → ResumesAs on start batch known (options_for (options_of on start batch) (Some known) wire)
  resumes_as start saved = by_known start saved known.resume_token refl

-- ---- whatever it knows

-- the options say nothing but where it starts, what is watched, and how large its batches are
pub record IsPlain (all : Option Bool) (batch : Option ℕ) (o : ChangeStreamOptions) : Type 0 where
  pub resume : Option Tree
  pub start : Option Tree
  pub time : Option Timestamp
  pub is : o ≡ plain resume start time all batch

plain_behind : (b : Bool) (all : Option Bool) (batch : Option ℕ) (o : ChangeStreamOptions) (token : Tree) → IsPlain all batch o → IsPlain all batch (resume_behind b o token)
plain_behind true all batch o token p = record { resume = p.resume; start = Some token; time = None; is = ap (λ (x : ChangeStreamOptions). resume_behind true x token) p.is }
plain_behind false all batch o token p = record { resume = Some token; start = None; time = None; is = ap (λ (x : ChangeStreamOptions). resume_behind false x token) p.is }

plain_if : (b : Bool) (all : Option Bool) (batch : Option ℕ) (o : ChangeStreamOptions) (time : Timestamp) → IsPlain all batch o → IsPlain all batch (if b then o else record o { start_at_operation_time = Some (or_time o.start_at_operation_time time) })
plain_if true all batch o time p = p
plain_if false all batch o time p = record { resume = p.resume; start = p.start; time = Some (or_time p.time time); is = ap (λ (x : ChangeStreamOptions). record x { start_at_operation_time = Some (or_time x.start_at_operation_time time) }) p.is }

plain_at : (all : Option Bool) (batch : Option ℕ) (o : ChangeStreamOptions) (time : Option Timestamp) (wire : ℤ) → IsPlain all batch o → IsPlain all batch (resume_at o time wire)
plain_at all batch o None wire p = p
plain_at all batch o (Some time) wire p = plain_if (int_lt wire times_from) all batch o time p

plain_by : (all : Option Bool) (batch : Option ℕ) (o : ChangeStreamOptions) (known : ChangeStreamData) (wire : ℤ) (token : Option Tree) → IsPlain all batch o → IsPlain all batch (resume_by token o known wire)
plain_by all batch o known wire None p = plain_at all batch o known.initial_operation_time wire p
plain_by all batch o known wire (Some token) p = plain_behind (is_some o.start_after && not known.document_returned) all batch o token p

plain_first : (on : Target) (start : Begin) (batch : Option ℕ) → IsPlain (all_changes_of on) batch (options_of on start batch)
plain_first on start batch = record { resume = _; start = _; time = _; is = begun_is on start batch }

pub plain_for : (on : Target) (start : Begin) (batch : Option ℕ) (o : Option ChangeStreamData) (wire : ℤ) → IsPlain (all_changes_of on) batch (options_for (options_of on start batch) o wire)
plain_for on start batch None wire = plain_first on start batch
plain_for on start batch (Some known) wire = plain_by (all_changes_of on) batch (options_of on start batch) known wire known.resume_token (plain_first on start batch)
