-- The reply to a write that is a success keeps its grammar in a legal history: its count and its failures are read.
use Rattle.std.proofs.Common.{◌≡◌, ℕ, ℤ, pos, negsuc, Bool, true, false, List, [], ◌∷◌, Option, Some, None, Result, Ok, Err, refl, ap, ◌∙◌, subst, option_map, inl, inr}
use Rattle.std.specs.Prelude.{if◌then◌else◌, ◌&&◌, codes, is_some, option_and_then, unwrap_or}
use Rattle.mg_bson.specs.Find.{as_int32, as_string, get}
use Rattle.mg_bson.specs.Raw.{fields}
use Rattle.mg_bson.specs.Tree.{Fields, Items, Tree, array, document, item, no_items}
use Rattle.mg_server.specs.Commands as commands
use Rattle.mg_link.specs.Numbers.{as_integer}
use Rattle.mg_server.specs.Commands.{Asked, Told, are_write_errors, asked, asks_create, asks_delete, asks_drop, asks_indexes, asks_insert, asks_kill, asks_more, asks_other, asks_query, asks_update, asks_watch, deleted, deleted_by, done, failures_at, garbled, inserted, inserted_by, is_concern_error, is_count, is_error, is_text_or_none, is_write_error, keeps_grammar, list_write_errors, told_by, updated_by}
use Rattle.mg_link.specs.Exec.{IsSuccess}
use Rattle.mg_server.specs.Filter.{Condition}
use Rattle.mg_server.specs.History.{Step}
use Rattle.mg_link.specs.Namespace.{Space}
use Rattle.mg_server.specs.Step.{MayTell, grown}
use Rattle.mg_link.specs.declared.error.Error.{Error}
use Rattle.mg_link.specs.declared.error.ErrorKind.{ErrorKind}
use Rattle.mg_link.specs.declared.error.ErrorKind.TheVariants as kind
use Rattle.mg_link.specs.declared.error.Malformed.{Malformed}
use Rattle.mg_link.specs.declared.error.Malformed.TheVariants as malformed
use Rattle.mg_link.specs.declared.reply.Verdict.TheVariants as verdict
use Rattle.mg_ops.specs.Cursors.{found, ◌>>=◌}
use Rattle.mg_ops.specs.Writes.{FailedAs, ListsAs, WriteFails, as_count, code_of, concern_error_at, count_of, failure_at, failures_of, index_of, item_error, last_index, message_of, text_by, write_errors_at, write_errors_in}
use Rattle.mg_players.proofs.Prompting.{IsLawful, may_tell, never_garbled}
use Rattle.mg_jobs.specs.Grammar.{SaysGarbled}
use Rattle.mg_jobs.proofs.InsertWell.{reads_count}
use Rattle.mg_jobs.proofs.PutHeard.{told_as}
use Rattle.mg_jobs.proofs.WriteAsks.{Counts, Writes}

-- ---- what is read

-- it is read
abbrev pub IsRead : {A : Type 0} → Result A Malformed → Type 0
IsRead (Ok x) = Unit {0}
IsRead (Err how) = ⊥

never_unread : {A : Type 0} (r : Result A Malformed) (how : Malformed) → IsRead r → r ≡ Err how → ⊥
never_unread r how read is = subst IsRead is read

found_read : {A : Type 0} (how : Malformed) (o : Option A) → is_some o ≡ true → IsRead (found how o)
found_read how (Some x) some = tt
found_read how None some = absurd cc

then_read : {A B : Type 0} (r : Result A Malformed) (f : A → Result B Malformed) → IsRead r → ((x : A) → IsRead (f x)) → IsRead (r >>= f)
then_read (Ok x) f read each = each x
then_read (Err how) f read each = absurd read

both_true : (a b : Bool) → (a && b) ≡ true → (a ≡ true) × (b ≡ true)
both_true true b h = (refl, h)
both_true false b h = absurd cc

-- ---- a list of failures

text_read : (o : Option Tree) → is_text_or_none o ≡ true → IsRead (text_by o)
text_read None kept = tt
text_read (Some t) kept = found_read malformed.BadItem (as_string t) kept

error_read : (index : ℕ) (fs : Fields) → is_error fs ≡ true → IsRead (failure_at index fs)
unfolding code_of message_of
error_read index fs kept =
    let parts = both_true (is_some (option_and_then as_int32 (get (codes "code") fs))) (is_text_or_none (get (codes "errmsg") fs)) kept in
    then_read (code_of fs) _ (found_read malformed.BadItem (option_and_then as_int32 (get (codes "code") fs)) parts.0) (λ code. then_read (message_of fs) _ (text_read (get (codes "errmsg") fs) parts.1) (λ message. tt))

counted_read : (o : Option ℤ) → is_some (option_and_then as_count o) ≡ true → IsRead (found malformed.BadItem (option_and_then as_count o))
counted_read (Some (pos n)) kept = tt
counted_read (Some (negsuc n)) kept = absurd cc
counted_read None kept = absurd cc

index_read : (o : Option Tree) → is_count o ≡ true → IsRead (found malformed.BadItem (option_and_then as_count (option_and_then as_int32 o)))
index_read None kept = absurd cc
index_read (Some t) kept = counted_read (as_int32 t) kept

item_read : (t : Tree) → is_write_error t ≡ true → IsRead (item_error t)
unfolding index_of
item_read (document fs) kept =
    let parts = both_true (is_count (get (codes "index") fs)) (is_error fs) kept in
    then_read (index_of fs) _ (index_read (get (codes "index") fs) parts.0) (λ index. error_read index fs parts.1)
item_read t kept = absurd cc

errors_read : (ts : Items) → are_write_errors ts ≡ true → IsRead (write_errors_in ts)
errors_read no_items kept = tt
errors_read (item t ts) kept =
    let parts = both_true (is_write_error t) (are_write_errors ts) kept in
    then_read (item_error t) _ (item_read t parts.0) (λ failure. then_read (write_errors_in ts) _ (errors_read ts parts.1) (λ failures. tt))

listed_read : (o : Option Tree) → list_write_errors o ≡ true → IsRead (write_errors_at o)
listed_read None kept = tt
listed_read (Some (array ts)) kept = errors_read ts kept
listed_read (Some t) kept = absurd cc

concern_read : (count : ℕ) (o : Option Tree) → is_concern_error o ≡ true → IsRead (concern_error_at count o)
concern_read count None kept = tt
concern_read count (Some (document fs)) kept = then_read (failure_at count fs) _ (error_read count fs kept) (λ failure. tt)
concern_read count (Some t) kept = absurd cc

failures_read : (count : ℕ) (said : Fields) → keeps_grammar said ≡ true → IsRead (failures_of count said)
unfolding failures_of
failures_read count said kept =
    let errors : Option Tree = get (codes "writeErrors") said in
    let concern : Option Tree = get (codes "writeConcernError") said in
    let parts = both_true (list_write_errors errors) (is_concern_error concern) kept in
    then_read (write_errors_at errors) _ (listed_read errors parts.0) (λ failures. then_read (concern_error_at count concern) _ (concern_read count concern parts.1) (λ last. tt))

-- ---- its step

-- the reply keeps the grammar, and counts what was done
pub record IsCounted (said : Fields) : Type 0 where
  pub kept : keeps_grammar said ≡ true
  pub count : ℕ
  pub counted : count_of said ≡ Ok count

kept_if : (b : Bool) (o : Option Told) → (unwrap_or (if b then o else None) garbled ≡ garbled → ⊥) → b ≡ true
kept_if true o not = refl
kept_if false o not = absurd (not refl)

module _ (Tells : Told → Type 0) (never : Tells garbled → ⊥) where
  kept_by : (b : Bool) (o : Option Told) → Tells (unwrap_or (if b then o else None) garbled) → (b ≡ true) × Tells (unwrap_or o garbled)
  kept_by true o tells = (refl, tells)
  kept_by false o tells = absurd (never tells)

  -- what is told has a count
  counted_by : (tell : ℤ → List commands.Failure → Told) → ((n : ℤ) (fs : List commands.Failure) → Tells (tell n fs) → (count : ℕ) × (n ≡ pos count)) → (n : Option ℤ) (fs : Option (List commands.Failure)) → Tells (unwrap_or (option_and_then (λ (n : ℤ). option_map (tell n) fs) n) garbled)
      → (count : ℕ) × (n ≡ Some (pos count))
  counted_by tell counts None fs tells = absurd (never tells)
  counted_by tell counts (Some n) None tells = absurd (never tells)
  counted_by tell counts (Some n) (Some fs) tells = let c = counts n fs tells in (c.0, ap (λ (z : ℤ). Some z) c.1)

module _ (step : Step) (p : IsLawful step) (success : IsSuccess step.reply) where
  -- the server may tell so much
  abbrev May : Asked → Told → Type 0
  May a t = MayTell p.before (grown p.before step.made) a t step.made

  tells : (a : Asked) → asked step.command ≡ a → May a (told_by verdict.Success a (fields step.reply))
  tells a asks = may_tell step p a (told_by verdict.Success a (fields step.reply)) asks (told_as step p success a asks)

  not_garbled : (a : Asked) → asked step.command ≡ a → told_by verdict.Success a (fields step.reply) ≡ garbled → ⊥
  not_garbled a asks bad = never_garbled step p (told_as step p success a asks ∙ bad)

  deletes : (space : Space) (conditions : List Condition) (many : Bool) (n : ℤ) (fs : List commands.Failure) → May (asks_delete space conditions many) (deleted n fs) → (count : ℕ) × (n ≡ pos count)
  deletes space conditions many n [] may = (_, may.count)
  deletes space conditions many n (f ∷ fs) may = (_, may.count)

  counted_as : (a : Asked) → asked step.command ≡ a → Counts a → IsCounted (fields step.reply)
  unfolding inserted_by deleted_by
  counted_as (asks_insert space documents ordered) asks known =
      let said : Fields = fields step.reply in
      let k = kept_by (May (asks_insert space documents ordered)) (λ bad. bad) (keeps_grammar said) (inserted_by said) (tells (asks_insert space documents ordered) asks) in
      let c = counted_by (May (asks_insert space documents ordered)) (λ bad. bad) inserted (λ n fs may. (_, may.count)) (option_and_then as_integer (get (codes "n") said)) (failures_at (get (codes "writeErrors") said)) k.1 in
      record { kept = k.0; count = c.0; counted = reads_count said c.0 c.1 }
  counted_as (asks_delete space conditions many) asks known =
      let said : Fields = fields step.reply in
      let k = kept_by (May (asks_delete space conditions many)) (λ bad. bad) (keeps_grammar said) (deleted_by said) (tells (asks_delete space conditions many) asks) in
      let c = counted_by (May (asks_delete space conditions many)) (λ bad. bad) deleted (deletes space conditions many) (option_and_then as_integer (get (codes "n") said)) (failures_at (get (codes "writeErrors") said)) k.1 in
      record { kept = k.0; count = c.0; counted = reads_count said c.0 c.1 }
  counted_as asks_other asks known = absurd (not_garbled asks_other asks refl)
  counted_as a asks known = absurd known

  pub is_counted : Counts (asked step.command) → IsCounted (fields step.reply)
  is_counted known = counted_as (asked step.command) refl known

  -- so it is of any write
  written_as : (a : Asked) → asked step.command ≡ a → Writes a → keeps_grammar (fields step.reply) ≡ true
  written_as (asks_insert space documents ordered) asks known = kept_if (keeps_grammar (fields step.reply)) (inserted_by (fields step.reply)) (not_garbled (asks_insert space documents ordered) asks)
  written_as (asks_update space conditions modification many) asks known = kept_if (keeps_grammar (fields step.reply)) (updated_by (fields step.reply)) (not_garbled (asks_update space conditions modification many) asks)
  written_as (asks_delete space conditions many) asks known = kept_if (keeps_grammar (fields step.reply)) (deleted_by (fields step.reply)) (not_garbled (asks_delete space conditions many) asks)
  written_as (asks_create space) asks known = kept_if (keeps_grammar (fields step.reply)) (Some done) (not_garbled (asks_create space) asks)
  written_as (asks_indexes space indexes) asks known = kept_if (keeps_grammar (fields step.reply)) (Some done) (not_garbled (asks_indexes space indexes) asks)
  written_as (asks_drop space) asks known = kept_if (keeps_grammar (fields step.reply)) (Some done) (not_garbled (asks_drop space) asks)
  written_as asks_other asks known = absurd (not_garbled asks_other asks refl)
  written_as (asks_query query) asks known = absurd known
  written_as (asks_watch watch start) asks known = absurd known
  written_as (asks_more id space) asks known = absurd known
  written_as (asks_kill ids) asks known = absurd known

  pub is_written : Writes (asked step.command) → keeps_grammar (fields step.reply) ≡ true
  is_written known = written_as (asked step.command) refl known

-- so no list of failures says that it breaks the grammar
lists_kept : (count : ℕ) (said : Fields) (k : ErrorKind) → IsCounted said → ListsAs count said k → SaysGarbled k → ⊥
lists_kept count said (kind.InvalidResponse how) c (inl bad) says_so = let counted = c.counted in cc
lists_kept count said (kind.InvalidResponse how) c (inr bad) says_so = never_unread (failures_of (last_index count) said) how (failures_read (last_index count) said c.kept) bad.2
lists_kept count said (kind.InsertMany failures) c lists says_so = says_so
lists_kept count said k c lists says_so = lists

fails_kept : (said : Fields) (e : Error) → keeps_grammar said ≡ true → WriteFails said e → SaysGarbled e.kind → ⊥
fails_kept said e kept (inl breaks) says_so = never_unread (failures_of 0 said) breaks.how (failures_read 0 said kept) breaks.says
fails_kept said e kept (inr lists) says_so = subst (λ (x : Error). SaysGarbled x.kind) lists.error says_so

pub never_unlisted : (step : Step) (p : IsLawful step) → IsSuccess step.reply → Counts (asked step.command) → (count : ℕ) (k : ErrorKind) → ListsAs count (fields step.reply) k → SaysGarbled k → ⊥
never_unlisted step p success known count k lists says_so = lists_kept count (fields step.reply) k (is_counted step p success known) lists says_so

-- nor does the list of a creation
pub never_unwritten : (step : Step) (p : IsLawful step) → IsSuccess step.reply → Writes (asked step.command) → (e : Error) → WriteFails (fields step.reply) e → SaysGarbled e.kind → ⊥
never_unwritten step p success known e fails says_so = fails_kept (fields step.reply) e (is_written step p success known) fails says_so

-- nor that of a removal
pub never_undeleted : (step : Step) (p : IsLawful step) → IsSuccess step.reply → Counts (asked step.command) → (e : Error) → FailedAs (count_of (fields step.reply)) (fields step.reply) e → SaysGarbled e.kind → ⊥
never_undeleted step p success known e (inl breaks) says_so = let c = is_counted step p success known in let counted = c.counted in let says = breaks.says in absurd cc
never_undeleted step p success known e (inr (n, counted, fails)) says_so = fails_kept (fields step.reply) e (is_counted step p success known).kept fails says_so
