-- In a legal history each reply is a document, so no get says that one is none.
use Rattle.std.proofs.Common.{◌≡◌, ℕ, ℤ, Bool, true, false, List, Option, Some, None, Result, Ok, Err, subst, inl, inr}
use Rattle.std.specs.Ordering.{int_eq}
use Rattle.std.specs.Prelude.{◌==◌, codes, if◌then◌else◌, length, pos}
use Rattle.mg_bson.specs.Tree.{Fields}
use Rattle.mg_server.specs.Calls.{Past, RequestFails}
use Rattle.mg_link.specs.Errors.{plain}
use Rattle.mg_link.specs.Numbers.{number_at}
use Rattle.mg_server.specs.History.{IsLegal, Step}
use Rattle.mg_link.specs.Link.{Awaited}
use Rattle.mg_link.specs.Log.{Call}
use Rattle.mg_server.specs.Standing.{Stands}
use Rattle.mg_link.specs.declared.error.BadArgument.{BadArgument}
use Rattle.mg_link.specs.declared.error.BadArgument.TheVariants as argument
use Rattle.mg_link.specs.declared.error.Error.{Error}
use Rattle.mg_link.specs.declared.error.ErrorKind.{ErrorKind}
use Rattle.mg_link.specs.declared.error.ErrorKind.TheVariants as kind
use Rattle.mg_link.specs.declared.error.GridFsErrorKind.TheVariants as grid
use Rattle.mg_link.specs.declared.error.GridFsFileIdentifier.TheVariants as identifier
use Rattle.mg_link.specs.declared.error.Malformed.{Malformed}
use Rattle.mg_link.specs.declared.error.Malformed.TheVariants as malformed
use Rattle.mg_options.specs.Fields.{Line, Refuses, first_unfit}
use Rattle.mg_cursor.specs.Causes.{TellsNoCursor}
use Rattle.mg_cursor.specs.Client.{get_more}
use Rattle.mg_chunks.specs.Sizes.{chunk_count_of, chunk_length_of}
use Rattle.mg_records.specs.FileRecords.{FileRecord, file_record_of}
use Rattle.mg_chunks.specs.Broken.{Breaks}
use Rattle.mg_gridfs.specs.Commands.{CannotSend, found_lines, listed_lines}
use Rattle.mg_chunks.specs.Chunks.{and_then, data_of, judged, missing_chunk, needed_as, numbered_as, sized_as, wrong_size}
use Rattle.mg_gridfs.specs.Downloads.{sizes_of}
use Rattle.mg_gridfs.specs.Findings.{BreaksRecord, in_batch, no_cursor, no_document, no_record}
use Rattle.mg_gridfs.specs.ReadCauses as files
use Rattle.mg_gridfs.specs.ReadCauses.{TellsNoRecord}
use Rattle.mg_players.specs.Buckets.{plain_bucket}
use Rattle.mg_players.specs.Causes as causes
use Rattle.mg_players.specs.Causes.{Course, GetCaused, GetFails, sent_at}
use Rattle.mg_players.specs.Gets.{GetTask, chunks_find, record_find}
use Rattle.mg_players.specs.Reading as stops
use Rattle.mg_players.specs.Reading.{Differ, ListsOther, ReadStops, miscounted, one_differs}
use Rattle.mg_script.specs.declared.outcome.Ended.{Ended}
use Rattle.mg_script.specs.declared.outcome.Ended.TheVariants as ended
use Rattle.mg_jobs.specs.Grammar.{NeverEnds, SaysNoDocument}
use Rattle.mg_jobs.proofs.Unread.{garbled_so, request_kept}

-- ---- errors of other kinds

of_kind : (e : Error) (k : ErrorKind) → e.kind ≡ k → SaysNoDocument e.kind → SaysNoDocument k
of_kind e k is none = subst SaysNoDocument is none

says_only : (e : Error) (k : ErrorKind) → e ≡ plain k → SaysNoDocument e.kind → SaysNoDocument k
says_only e k is none = subst (λ (x : Error). SaysNoDocument x.kind) is none

argument_reads : (o : Option BadArgument) (e : Error) → Refuses o e → SaysNoDocument e.kind → ⊥
argument_reads None e refuses none = refuses
argument_reads (Some a) e refuses none = says_only e (kind.InvalidArgument a) refuses none

unsent_reads : (lines : List Line) (e : Error) → CannotSend lines e → SaysNoDocument e.kind → ⊥
unsent_reads lines e (inl bad) none = argument_reads (first_unfit lines) e bad none
unsent_reads lines e (inr by) none = says_only e kind.BsonSerialization by.0 none

cursor_reads : (bytes : List ℕ) (e : Error) → TellsNoCursor bytes e → SaysNoDocument e.kind → ⊥
cursor_reads bytes e breaks none = says_only e (kind.InvalidResponse breaks.how) breaks.error none

broken_reads : {Y : Type 0} (r : Result Y Malformed) (e : Error) → Breaks r e → SaysNoDocument e.kind → ⊥
broken_reads (Ok y) e breaks none = breaks
broken_reads (Err how) e breaks none = says_only e (kind.InvalidResponse how) breaks none

record_reads : (bytes : List ℕ) (e : Error) → BreaksRecord bytes e → SaysNoDocument e.kind → ⊥
record_reads bytes e (no_cursor breaks) none = cursor_reads bytes e breaks none
record_reads bytes e (in_batch said says (no_document t ts batch_is not is)) none = says_only e (kind.InvalidResponse malformed.BadItem) is none
record_reads bytes e (in_batch said says (no_record t ts d batch_is document breaks)) none = broken_reads (file_record_of d) e breaks none

-- ---- a chunk that is not what its record says

-- if a result is an error, it is another
abbrev Reads : {A : Type 0} → Result A Error → Type 0
Reads (Ok x) = Unit {0}
Reads (Err e) = SaysNoDocument e.kind → ⊥

needed_reads : {A : Type 0} (how : Malformed) (o : Option A) → Reads (needed_as how o)
needed_reads how (Some x) = tt
needed_reads how None = λ none. none

then_reads : {A B : Type 0} (r : Result A Error) (f : A → Result B Error) → Reads r → ((x : A) → Reads (f x)) → Reads (and_then r f)
then_reads (Ok x) f reads each = each x
then_reads (Err e) f reads each = reads

if_reads : {A : Type 0} (b : Bool) (x y : Result A Error) → Reads x → Reads y → Reads (if b then x else y)
if_reads true x y first second = first
if_reads false x y first second = second

size_reads : (n : ℕ) (bytes : List ℕ) (expected : Result ℕ Malformed) → Reads (sized_as n bytes expected)
size_reads n bytes (Ok expected) = if_reads (length bytes == expected) (Ok bytes) (Err (wrong_size n (length bytes) expected)) tt (λ none. none)
size_reads n bytes (Err how) = λ none. none

number_reads : (f : FileRecord) (n : ℕ) (number : ℤ) (bytes : List ℕ) → Reads (numbered_as (sizes_of f) n number bytes)
number_reads f n number bytes = if_reads (int_eq number (pos n)) (sized_as n bytes (chunk_length_of f.length f.chunk_size n)) (Err (missing_chunk n)) (size_reads n bytes (chunk_length_of f.length f.chunk_size n)) (λ none. none)

chunk_reads : (f : FileRecord) (n : ℕ) (d : Fields) → Reads (judged (sizes_of f) n d)
chunk_reads f n d =
    then_reads (needed_as malformed.BadChunk (number_at (codes "n") d)) _ (needed_reads malformed.BadChunk (number_at (codes "n") d)) (λ number. then_reads (needed_as malformed.BadChunk (data_of d)) _ (needed_reads malformed.BadChunk (data_of d)) (λ bytes. number_reads f n number bytes))

differ_reads : (f : FileRecord) (count : ℕ) (stood : List Fields) (e : Error) → Differ f count stood e → SaysNoDocument e.kind → ⊥
differ_reads f count stood e (one_differs before chunks d left are came says) = subst (λ (r : Result (List ℕ) Error). Reads r) says (chunk_reads f (length chunks) d)
differ_reads f count stood e (miscounted chunks came other is) = λ none. says_only e (kind.GridFs (grid.MissingChunk (length chunks))) is none

-- ---- why a get fails

module _ (history : List Step) (calls : List Call) (wire : ℤ) (legal : IsLegal history) (stands : Stands calls history) (places : List ℕ) where
  abbrev past : Past
  past = sent_at places calls wire

  request_reads : (command : Fields) (retries : Bool) (Broken : List ℕ → Error → Type 0) (e : Error) → ((bytes : List ℕ) → Broken bytes e → SaysNoDocument e.kind → ⊥) → RequestFails past command retries Broken e → SaysNoDocument e.kind → ⊥
  request_reads command retries Broken e other fails none = request_kept past history legal stands command retries Broken e (λ bytes h success broken. other bytes broken none) fails (garbled_so e.kind none)

  opening_reads : (g : GetTask) (e : Error) → files.OpeningFails past (plain_bucket g.at) g.id e → SaysNoDocument e.kind → ⊥
  opening_reads g e (files.out_of_memory room) none = of_kind e kind.OutOfMemory room none
  opening_reads g e (files.find_not_built cannot) none = unsent_reads (found_lines (plain_bucket g.at) g.id) e cannot none
  opening_reads g e (files.by_find fails) none = request_reads (record_find g) true TellsNoRecord e (λ bytes breaks said. record_reads bytes e breaks said) fails none
  opening_reads g e (files.not_found h is) none = says_only e (kind.GridFs (grid.FileNotFound (identifier.Id is.value))) is.error none
  opening_reads g e (files.too_many f h breaks) none = broken_reads (chunk_count_of f.length f.chunk_size) e breaks none
  opening_reads g e (files.list_not_built f h cannot) none = unsent_reads (listed_lines (plain_bucket g.at) f.id) e cannot none
  opening_reads g e (files.by_list f h fails) none = request_reads (chunks_find g f.id) true TellsNoCursor e (λ bytes breaks said. cursor_reads bytes e breaks said) fails none

  stop_reads : {Many : Type 0} (g : GetTask) (f : FileRecord) (listed : ℕ) (e : Error) → ReadStops past Many (ListsOther calls g.at f listed e) e → SaysNoDocument e.kind → ⊥
  stop_reads g f listed e (stops.no_memory room) none = of_kind e kind.OutOfMemory room none
  stop_reads g f listed e (stops.not_built at told (inl bad)) none = says_only e (kind.InvalidArgument argument.BatchSize) bad.0 none
  stop_reads g f listed e (stops.not_built at told (inr by)) none = says_only e kind.BsonSerialization by.0 none
  stop_reads g f listed e (stops.no_batch at told fails) none = request_reads (get_more at fails.session) false TellsNoCursor e (λ bytes breaks said. cursor_reads bytes e breaks said) fails.fails none
  stop_reads g f listed e (stops.too_many empty never is) none = says_only e kind.EmptyBatches is none
  stop_reads g f listed e (stops.differs apart other) none = let d = other.differ history legal stands in differ_reads f other.count _ e d.2 none

module _ (c : Course) (i : ℕ) (calls : List Call) (wire : ℤ) (g : GetTask) (bytes : List ℕ) where
  fail_reads : (e : Error) → GetFails c i calls wire g bytes e → (history : List Step) → IsLegal history → Stands calls history → SaysNoDocument e.kind → ⊥
  fail_reads e (causes.out_of_memory room) history legal stands none = of_kind e kind.OutOfMemory room none
  fail_reads e (causes.has_no_room empty is) history legal stands none = says_only e (kind.InvalidArgument argument.ReadSize) is none
  fail_reads e (causes.not_opened some places sent fails all) history legal stands none = opening_reads history calls wire legal stands places g e fails none
  fail_reads e (causes.not_read some d opened k turns now sent cursor fails its sound plainly asks last stopped read came) history legal stands none = stop_reads history calls wire legal stands stopped.places g d.file stopped.listed e stopped.why none

  pub get_reads : {A : Type 0} (awaited : Awaited) (end : Ended A) → GetCaused awaited c i calls wire g bytes end → NeverEnds calls SaysNoDocument end
  get_reads awaited ended.Unfinished caused = tt
  get_reads awaited (ended.Gave x) caused = tt
  get_reads awaited (ended.Failed e) caused = fail_reads e caused.0
