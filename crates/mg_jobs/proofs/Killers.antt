-- Which commands kill a cursor, as the rules of the store read them.
use Rattle.std.proofs.Common.{◌≡◌, ◌≢◌, ◌++◌, ◌<◌, ℕ, zero, suc, ℤ, pos, Bool, true, false, List, [], ◌∷◌, Contains, Option, Some, None, Ok, refl, sym, ◌∙◌, subst, inl, inr, arith}
use Rattle.std.specs.Prelude.{if◌then◌else◌, codes, option_and_then, slice_index_or}
use Rattle.std.specs.Ordering.{int_eq}
use Rattle.std.proofs.lemmas.Bool.{cases_Bool}
use Rattle.std.proofs.lemmas.Bool.Decides.{Decides-int_eq}
use Rattle.mg_bson.specs.Tree.{Fields}
use Rattle.mg_bson.specs.Find.{get}
use Rattle.mg_bson.specs.Raw.{fields}
use Rattle.mg_bson.specs.Reading.{◌>>=◌}
use Rattle.mg_link.specs.Numbers.{count_of}
use Rattle.mg_server.specs.Commands.{asks_kill, create_fields, delete_by, delete_fields, delete_parts, documents_in, filter_at, filter_stages, find_fields, find_query, flag_or, has_only, indexes_fields, indexes_in, indexes_listed, indexing_fields, many_by, one_at, optional_count, pipeline_fields, piped, stages_in, start_of, batch_size}
use Rattle.mg_server.specs.Filter.{Condition}
use Rattle.mg_link.specs.Namespace.{Space}
use Rattle.mg_server.specs.Query.{Query}
use Rattle.mg_server.specs.Rules.{Request, aggregate_request, array_at, bad_request, behind_first, create_request, delete, delete_request, find, find_request, id_of, indexes_request, insert_request, kill, list_indexes_request, more_request, named_space, option_names, or_code, or_request, pipeline_request, request_of, target_at, watch_options, watch_request, watch_with}
use Rattle.mg_link.specs.Session.{Session}
use Rattle.mg_server.proofs.Requests.{asked_is}
use Rattle.mg_ops.specs.Commands.{kill_command}
use Rattle.mg_ops.specs.declared.aggregate.ChangeStreamAggregate.{ChangeStreamAggregate}
use Rattle.mg_ops.proofs.Asking.{asks_to_kill_plainly}
use Rattle.mg_cursor.specs.Client.{ClientCursor, get_more}
use Rattle.mg_change.specs.ClientStreams.{resuming_in}
use Rattle.mg_change.specs.ClosingStreams.{unless_none}
use Rattle.mg_ops.specs.Cursors.{Manner, next_command}
use Rattle.mg_jobs.proofs.WatchStands.{KillsIt}

-- ---- readings that are no killing

abbrev KillsNone : Option Request → Type 0
KillsNone (Some (kill ids)) = ⊥
KillsNone (Some r) = Unit {0}
KillsNone None = Unit {0}

then_none : {A : Type 0} (o : Option A) (f : A → Option Request) → ((x : A) → KillsNone (f x)) → KillsNone (o >>= f)
then_none (Some x) f none = none x
then_none None f none = tt

if_none : (b : Bool) (o : Option Request) → KillsNone o → KillsNone (if b then o else None)
if_none true o none = none
if_none false o none = tt

or_none : (a b : Option Request) → KillsNone a → KillsNone b → KillsNone (or_request a b)
or_none (Some r) b first second = first
or_none None b first second = second

none_killed : (code : ℤ) (o : Option Request) (ids : List ℤ) → KillsNone o → or_code code o ≡ Ok (kill ids) → ⊥
none_killed code (Some r) ids none is = let same : r ≡ kill ids = cc in subst (λ (x : Request). KillsNone (Some x)) same none
none_killed code None ids none is = cc

-- ---- commands that kill no cursor

abbrev pub IsSparing : Fields → Type 0
IsSparing fs = (x : ℤ) → KillsIt fs x → ⊥

spares : (fs : Fields) (o : Option Request) → request_of fs ≡ or_code bad_request o → KillsNone o → IsSparing fs
spares fs o reads none x kills = none_killed bad_request o kills.ids none (sym reads ∙ kills.reads)

pub inserts_spare : (fs : Fields) → request_of fs ≡ or_code bad_request (insert_request fs) → IsSparing fs
unfolding insert_request
inserts_spare fs reads =
    spares fs (insert_request fs) reads
    (if_none (has_only (codes "insert" ∷ codes "documents" ∷ codes "ordered" ∷ []) fs) _
    (then_none (named_space (codes "insert") fs) _ (λ space. then_none (array_at (codes "documents") fs) _ (λ items. then_none (documents_in items) _ (λ ds. then_none (flag_or true (get (codes "ordered") fs)) _ (λ ordered. tt))))))

found_none : (o : Option Query) → KillsNone (o >>= λ q. Some (find q))
found_none o = then_none o _ (λ q. tt)

pub finds_spare : (fs : Fields) → request_of fs ≡ or_code bad_request (find_request fs) → IsSparing fs
unfolding find_request
finds_spare fs reads = spares fs (find_request fs) reads (if_none (has_only find_fields fs) _ (found_none (named_space (codes "find") fs >>= find_query fs)))

pub lists_spare : (fs : Fields) → request_of fs ≡ or_code bad_request (list_indexes_request fs) → IsSparing fs
unfolding list_indexes_request
lists_spare fs reads = spares fs (list_indexes_request fs) reads (if_none (has_only indexes_fields fs) _ (found_none (named_space (codes "listIndexes") fs >>= indexes_listed fs)))

pub creates_spare : (fs : Fields) → request_of fs ≡ or_code bad_request (create_request fs) → IsSparing fs
unfolding create_request
creates_spare fs reads = spares fs (create_request fs) reads (if_none (has_only create_fields fs) _ (then_none (named_space (codes "create") fs) _ (λ space. tt)))

pub indexes_spare : (fs : Fields) → request_of fs ≡ or_code bad_request (indexes_request fs) → IsSparing fs
unfolding indexes_request
indexes_spare fs reads = spares fs (indexes_request fs) reads (if_none (has_only indexing_fields fs) _ (then_none (named_space (codes "createIndexes") fs) _ (λ space. then_none (indexes_in fs) _ (λ indexes. tt))))

deletes_none : (space : Space) (d : Fields) → KillsNone (delete_by (delete space) d)
deletes_none space d = if_none (has_only delete_parts d) _ (then_none (filter_at (codes "q") d) _ (λ conditions. then_none (option_and_then count_of (get (codes "limit") d) >>= many_by) _ (λ many. tt)))

pub deletes_spare : (fs : Fields) → request_of fs ≡ or_code bad_request (delete_request fs) → IsSparing fs
unfolding delete_request
deletes_spare fs reads = spares fs (delete_request fs) reads (if_none (has_only delete_fields fs) _ (then_none (named_space (codes "delete") fs) _ (λ space. then_none (one_at (codes "deletes") fs) _ (λ d. deletes_none space d))))

pub mores_spare : (fs : Fields) → request_of fs ≡ or_code bad_request (more_request fs) → IsSparing fs
unfolding more_request
mores_spare fs reads =
    spares fs (more_request fs) reads
    (if_none (has_only (codes "getMore" ∷ codes "collection" ∷ codes "batchSize" ∷ []) fs) _
    (then_none (option_and_then id_of (get (codes "getMore") fs)) _ (λ id. then_none (named_space (codes "collection") fs) _ (λ space. then_none (optional_count (get (codes "batchSize") fs)) _ (λ size. tt)))))

watched_none : (fs options : Fields) (filter : List Condition) → KillsNone (watch_with fs options filter)
watched_none fs options filter =
    if_none (has_only option_names options) _
    (then_none (flag_or false (get (codes "allChangesForCluster") options)) _ (λ all. then_none (target_at fs all) _ (λ target. then_none (start_of options) _ (λ start. then_none (batch_size fs) _ (λ size. tt)))))

aggregate_none : (fs : Fields) → KillsNone (aggregate_request fs)
unfolding watch_request pipeline_request
aggregate_none fs =
    or_none (watch_request fs) (pipeline_request fs)
    (if_none (has_only pipeline_fields fs) _ (then_none (stages_in fs) _ (λ stages. then_none (watch_options stages) _ (λ options. then_none (filter_stages (behind_first stages)) _ (λ filter. watched_none fs options filter)))))
    (if_none (has_only pipeline_fields fs) _ (found_none (named_space (codes "aggregate") fs >>= piped fs (stages_in fs))))

pub aggregates_spare : (fs : Fields) → request_of fs ≡ or_code bad_request (aggregate_request fs) → IsSparing fs
aggregates_spare fs reads = spares fs (aggregate_request fs) reads (aggregate_none fs)

-- ---- those of a stream

pub resuming_spares : (a : ChangeStreamAggregate) (wire : ℤ) (session : Option Session) → IsSparing (resuming_in a wire session)
resuming_spares a wire session = aggregates_spare (resuming_in a wire session) refl

pub next_spares : (id : ℤ) (space : Space) (m : Manner) → IsSparing (next_command id space m)
next_spares id space m = mores_spare (next_command id space m) refl

pub more_spares : (c : ClientCursor) (session : Option Session) → IsSparing (get_more c session)
more_spares c None = mores_spare (get_more c None) refl
more_spares c (Some s) = mores_spare (get_more c (Some s)) refl

-- ---- commands that kill

killed_ids : (command : List ℕ) (space : Space) (ids : List ℤ) (x : ℤ) → fields command ≡ kill_command space ids → KillsIt (fields command) x → Contains ids x
killed_ids command space ids x is k =
    let both : asks_kill k.ids ≡ asks_kill ids = sym (asked_is command (kill k.ids) k.reads) ∙ asks_to_kill_plainly command space ids is in
    let same : k.ids ≡ ids = cc in
    subst (λ (l : List ℤ). Contains l x) same k.has

one_at_most : (id x : ℤ) (k : ℕ) → k < 1 → slice_index_or (id ∷ []) k x ≡ x → id ≡ x
one_at_most id x zero less at = at
one_at_most id x (suc k) less at = absurd (omega (arith, less))

-- the killing of one cursor kills that one
pub kills_that : (command : List ℕ) (space : Space) (id x : ℤ) → fields command ≡ kill_command space (id ∷ []) → KillsIt (fields command) x → id ≡ x
kills_that command space id x is k = let has = killed_ids command space (id ∷ []) x is k in one_at_most id x has.0 has.1 has.2

in_none : (x : ℤ) → Contains (unless_none (pos 0)) x → ⊥
in_none x has = let less = has.1 in absurd (omega (arith, less))

left_one : (id x : ℤ) → Contains (unless_none id ++ unless_none (pos 0)) x → (id ≢ pos 0) × (id ≡ x)
left_one id x has =
    elim (cases_Bool (int_eq id (pos 0))) [
      | inl none ↦ absurd (in_none x (subst (λ (b : Bool). Contains ((if b then [] else id ∷ []) ++ unless_none (pos 0)) x) none has))
      | inr some ↦
          let one : Contains (id ∷ []) x = subst (λ (b : Bool). Contains ((if b then [] else id ∷ []) ++ unless_none (pos 0)) x) some has in
          (λ z. let bad : true ≡ false = sym ((Decides-int_eq id (pos 0)).1 z) ∙ some in cc, one_at_most id x one.0 one.1 one.2)
    ]

-- so does that of what is left of a stream
pub kills_left : (command : List ℕ) (space : Space) (id x : ℤ) → fields command ≡ kill_command space (unless_none id ++ unless_none (pos 0)) → KillsIt (fields command) x → (id ≢ pos 0) × (id ≡ x)
kills_left command space id x is k = left_one id x (killed_ids command space (unless_none id ++ unless_none (pos 0)) x is k)
