-- What a get that blames a chunk found and listed.
use Rattle.std.proofs.Common.{◌≡◌, ◌++◌, ℕ, suc, ℤ, Bool, true, false, List, [], ◌∷◌, take, filter, Option, Some, None, Result, Ok, Err, sym, ap, ◌∙◌, subst, inl, inr}
use Rattle.std.specs.Prelude.{◌==◌, ◌^◌, codes, if◌then◌else◌, ltb, option_and_then, slice_get}
use Rattle.mg_bson.specs.Find.{as_document, as_int64, get}
use Rattle.mg_bson.specs.Raw.{fields}
use Rattle.mg_bson.specs.Reading.{doc}
use Rattle.mg_bson.specs.Tree.{Fields, Items, Tree}
use Rattle.mg_server.specs.Calls.{HeardBy, IsOwn, Past, RequestFails, out_of_memory, was_broken, was_lost, was_refused}
use Rattle.mg_server.specs.Commands.{Batch, batch_items, batch_of, documents_in, text_of, token_in}
use Rattle.mg_link.specs.Errors.{plain}
use Rattle.mg_link.specs.Exec.{FailsAs, FailsByReply, IsSuccess}
use Rattle.mg_link.specs.Failures.{refusal_by}
use Rattle.mg_server.specs.Files.{Bucket, chunks_space, file_of, files_space, has_value}
use Rattle.mg_server.specs.Filter.{matches}
use Rattle.mg_server.specs.History.{IsLegal, Step, state_of, step_after}
use Rattle.mg_link.specs.Log.{Call, reply}
use Rattle.mg_link.specs.Namespace.{Space, space_of}
use Rattle.mg_server.specs.Owner.{IsOf}
use Rattle.mg_server.specs.Query.{Query, result}
use Rattle.mg_link.specs.Reply.{Refusal, refusal_of, verdict_of}
use Rattle.mg_server.specs.Standing.{Stands}
use Rattle.mg_server.specs.State.{State}
use Rattle.mg_server.specs.Step.{documents_of}
use Rattle.mg_link.specs.declared.error.BadArgument.{BadArgument}
use Rattle.mg_link.specs.declared.error.BadArgument.TheVariants as argument
use Rattle.mg_link.specs.declared.error.Error.{Error}
use Rattle.mg_link.specs.declared.error.ErrorKind.{ErrorKind}
use Rattle.mg_link.specs.declared.error.ErrorKind.TheVariants as kind
use Rattle.mg_link.specs.declared.error.GridFsErrorKind.TheVariants as grid
use Rattle.mg_link.specs.declared.error.GridFsFileIdentifier.TheVariants as identifier
use Rattle.mg_link.specs.declared.error.Malformed.{Malformed}
use Rattle.mg_link.specs.declared.error.Malformed.TheVariants as malformed
use Rattle.mg_link.specs.declared.reply.Verdict.{Verdict}
use Rattle.mg_link.specs.declared.reply.Verdict.TheVariants as verdict
use Rattle.mg_server.proofs.Owners.{same_some, state_one}
use Rattle.mg_link.proofs.Places.{take_more}
use Rattle.mg_options.specs.Fields.{Line, Refuses, fields_in, first_unfit}
use Rattle.mg_ops.specs.Cursors.{BreaksIn, Cursor, cursor_in, cursor_of, found, ◌>>=◌}
use Rattle.mg_ops.specs.Naming.{IsNamed}
use Rattle.mg_cursor.specs.Causes.{TellsNoCursor}
use Rattle.mg_cursor.specs.Client.{get_more}
use Rattle.mg_chunks.specs.Sizes.{chunk_count, chunk_count_of, counted}
use Rattle.mg_records.specs.FileRecords.{FileRecord, file_fields, file_record_of, with_chunks}
use Rattle.mg_chunks.specs.Broken.{Breaks}
use Rattle.mg_gridfs.specs.Commands.{CannotSend, found_lines, listed_lines}
use Rattle.mg_gridfs.specs.Downloaded.{record_query}
use Rattle.mg_gridfs.specs.Findings.{BreaksRecord, GivesFirst, in_batch, is_found, no_cursor, no_document, no_record, none_found}
use Rattle.mg_gridfs.specs.ReadCauses as files
use Rattle.mg_gridfs.specs.ReadCauses.{HeardRecord, TellsNoRecord}
use Rattle.mg_gridfs.proofs.OpeningKnown.{found_asks}
use Rattle.mg_players.specs.Causes as causes
use Rattle.mg_players.specs.Causes.{Course, GetFails, sent_at}
use Rattle.mg_players.specs.Files.{AsksAt, BlamesChunk}
use Rattle.mg_players.specs.Buckets.{plain_bucket}
use Rattle.mg_players.specs.Gets.{GetTask, record_find}
use Rattle.mg_players.specs.Plays.{Places, all_places}
use Rattle.mg_players.specs.Reading as stops
use Rattle.mg_players.specs.Reading.{ListsOther, ReadStops}
use Rattle.mg_players.specs.Telling as tells
use Rattle.mg_players.specs.Telling.{TellsGetFails, TellsGetOpened}
use Rattle.mg_players.proofs.Batches.{read_as}
use Rattle.mg_players.proofs.GetJudged.{paired}
use Rattle.mg_players.proofs.GetListing.{bucket_is_plain, those_same}
use Rattle.mg_players.proofs.GetSteps.{after_reads, query_opens, took}
use Rattle.mg_players.proofs.Prompting.{lawful_at}

-- ---- errors that blame no chunk

blames_by : (e : Error) (k : ErrorKind) → e ≡ plain k → BlamesChunk e.kind → BlamesChunk k
blames_by e k is b = subst (λ (x : Error). BlamesChunk x.kind) is b

no_memory_blames : (e : Error) → e.kind ≡ kind.OutOfMemory → BlamesChunk e.kind → ⊥
no_memory_blames e room b = subst BlamesChunk room b

told_blames : (k : ErrorKind) (labels : List (List ℕ)) (told : Refusal) → refusal_by k labels ≡ Some told → BlamesChunk k → ⊥
told_blames (kind.Command c) labels told h b = b
told_blames k labels told h b = absurd cc

verdict_blames : (v : Verdict) (said : Fields) (wire : ℤ) (e : Error) → FailsAs v said wire e → BlamesChunk e.kind → ⊥
verdict_blames verdict.Success said wire e h b = h
verdict_blames verdict.Refusal said wire e (inl full) b = blames_by e kind.OutOfMemory full b
verdict_blames verdict.Refusal said wire e (inr is) b = told_blames e.kind e.labels (refusal_of said) is.refusal b
verdict_blames verdict.NoOk said wire e h b = blames_by e (kind.InvalidResponse malformed.NoOk) h b

reply_blames : (o : Option Fields) (wire : ℤ) (e : Error) → FailsByReply o wire e → BlamesChunk e.kind → ⊥
reply_blames None wire e h b = blames_by e kind.BsonDeserialization h b
reply_blames (Some said) wire e h b = verdict_blames (verdict_of said) said wire e h b

-- nor does one of a request, where none of a success that breaks its grammar does
request_blames : (past : Past) (command : Fields) (retries : Bool) (Broken : List ℕ → Error → Type 0) (e : Error) → ((bytes : List ℕ) → Broken bytes e → ⊥) → RequestFails past command retries Broken e → BlamesChunk e.kind → ⊥
request_blames past command retries Broken e none (out_of_memory room) b = no_memory_blames e room b
request_blames past command retries Broken e none (was_lost is heard) b = blames_by e kind.Io is b
request_blames past command retries Broken e none (was_refused bytes heard fails) b = reply_blames (doc bytes) past.wire e fails b
request_blames past command retries Broken e none (was_broken bytes heard success broken) b = none bytes broken

-- ---- grammars

another_fault : (m how : Malformed) → ◌≡◌ {A = Result Cursor Malformed} (Err m) (Err how) → BlamesChunk (kind.InvalidResponse how) → BlamesChunk (kind.InvalidResponse m)
another_fault m how is b = let same : m ≡ how = cc in subst (λ (x : Malformed). BlamesChunk (kind.InvalidResponse x)) (sym same) b

abbrev cursor_by : Option ℤ → Option Space → Option Items → Option Tree → Result Cursor Malformed
cursor_by i s b t = found malformed.BadId i >>= λ id. found malformed.BadNs s >>= λ space. found malformed.NoBatch b >>= λ batch. Ok (record { id = id; space = space; token = t; batch = batch })

parts_blame : (i : Option ℤ) (s : Option Space) (batch : Option Items) (t : Option Tree) (how : Malformed) → cursor_by i s batch t ≡ Err how → BlamesChunk (kind.InvalidResponse how) → ⊥
parts_blame None s batch t how says b = another_fault malformed.BadId how says b
parts_blame (Some id) None batch t how says b = another_fault malformed.BadNs how says b
parts_blame (Some id) (Some space) None t how says b = another_fault malformed.NoBatch how says b
parts_blame (Some id) (Some space) (Some items) t how says b = absurd cc

in_cursor_blames : (o : Option Fields) (how : Malformed) → (found malformed.NoCursor o >>= cursor_in) ≡ Err how → BlamesChunk (kind.InvalidResponse how) → ⊥
in_cursor_blames None how says b = another_fault malformed.NoCursor how says b
in_cursor_blames (Some d) how says b = parts_blame (option_and_then as_int64 (get (codes "id") d)) (option_and_then space_of (text_of (codes "ns") d)) (batch_items d) (token_in d) how says b

cursor_blames : (said : Fields) (how : Malformed) → cursor_of said ≡ Err how → BlamesChunk (kind.InvalidResponse how) → ⊥
unfolding cursor_of
cursor_blames said how says b = in_cursor_blames (option_and_then as_document (get (codes "cursor") said)) how says b

broken_blames : (said : Fields) (e : Error) → BreaksIn said e → BlamesChunk e.kind → ⊥
broken_blames said e breaks b = cursor_blames said breaks.how breaks.says (blames_by e (kind.InvalidResponse breaks.how) breaks.error b)

made_blames : (o : Option FileRecord) (e : Error) → Breaks (with_chunks o) e → BlamesChunk e.kind → ⊥
made_blames None e breaks b = blames_by e (kind.InvalidResponse malformed.BadRecord) breaks b
made_blames (Some f) e breaks b = by_size (f.chunk_size == 0) breaks
  where
    by_size : (t : Bool) → Breaks {Y = FileRecord} (if t then Err malformed.ChunkSizeZero else Ok f) e → ⊥
    by_size true h = blames_by e (kind.InvalidResponse malformed.ChunkSizeZero) h b
    by_size false h = h

record_blames : (bytes : List ℕ) (e : Error) → BreaksRecord bytes e → BlamesChunk e.kind → ⊥
record_blames bytes e (no_cursor breaks) b = broken_blames (fields bytes) e breaks b
record_blames bytes e (in_batch said says (no_document t ts batch none is)) b = blames_by e (kind.InvalidResponse malformed.BadItem) is b
record_blames bytes e (in_batch said says (no_record t ts d batch document breaks)) b = made_blames (file_fields d) e breaks b

count_blames : (long size : ℕ) (e : Error) → Breaks (chunk_count_of long size) e → BlamesChunk e.kind → ⊥
count_blames long size e breaks b = by_size (size == 0) breaks
  where
    by_count : (t : Bool) → Breaks {Y = ℕ} (if t then Ok (chunk_count long size) else Err malformed.TooManyChunks) e → ⊥
    by_count true h = h
    by_count false h = blames_by e (kind.InvalidResponse malformed.TooManyChunks) h b

    by_size : (t : Bool) → Breaks {Y = ℕ} (if t then Err malformed.ChunkSizeZero else counted (chunk_count long size)) e → ⊥
    by_size true h = blames_by e (kind.InvalidResponse malformed.ChunkSizeZero) h b
    by_size false h = by_count (ltb (chunk_count long size) (2 ^ 32)) h

-- ---- commands that are not built

refused_blames : (o : Option BadArgument) (e : Error) → Refuses o e → BlamesChunk e.kind → ⊥
refused_blames None e h b = h
refused_blames (Some a) e h b = blames_by e (kind.InvalidArgument a) h b

unsent_blames : (lines : List Line) (e : Error) → CannotSend lines e → BlamesChunk e.kind → ⊥
unsent_blames lines e (inl bad) b = refused_blames (first_unfit lines) e bad b
unsent_blames lines e (inr by) b = blames_by e kind.BsonSerialization by.0 b

-- ---- what a get that blames one told

opening_blames : (past : Past) (g : GetTask) (e : Error) → files.OpeningFails past (plain_bucket g.at) g.id e → BlamesChunk e.kind → ⊥
opening_blames past g e (files.out_of_memory room) b = no_memory_blames e room b
opening_blames past g e (files.find_not_built cannot) b = unsent_blames (found_lines (plain_bucket g.at) g.id) e cannot b
opening_blames past g e (files.by_find fails) b = request_blames past (record_find g) true TellsNoRecord e (λ bytes breaks. record_blames bytes e breaks b) fails b
opening_blames past g e (files.not_found h none) b = blames_by e (kind.GridFs (grid.FileNotFound (identifier.Id none.value))) none.error b
opening_blames past g e (files.too_many f h breaks) b = count_blames f.length f.chunk_size e breaks b
opening_blames past g e (files.list_not_built f h cannot) b = unsent_blames (listed_lines (plain_bucket g.at) f.id) e cannot b
opening_blames past g e (files.by_list f h fails) b = request_blames past (fields_in (listed_lines (plain_bucket g.at) f.id)) true TellsNoCursor e (λ bytes breaks. broken_blames (fields bytes) e breaks b) fails b

stops_other : {many : Type 0} (past : Past) (other : Type 0) (e : Error) → ReadStops past many other e → BlamesChunk e.kind → other
stops_other past other e (stops.no_memory room) b = absurd (no_memory_blames e room b)
stops_other past other e (stops.not_built at told (inl bad)) b = absurd (blames_by e (kind.InvalidArgument argument.BatchSize) bad.0 b)
stops_other past other e (stops.not_built at told (inr by)) b = absurd (blames_by e kind.BsonSerialization by.0 b)
stops_other past other e (stops.no_batch at told fails) b = absurd (request_blames past (get_more at fails.session) false TellsNoCursor e (λ bytes breaks. broken_blames (fields bytes) e breaks b) fails.fails b)
stops_other past other e (stops.too_many empty never is) b = absurd (blames_by e kind.EmptyBatches is b)
stops_other past other e (stops.differs apart differ) b = differ

-- it listed the chunks of the file whose record it heard, and they are not what that says
pub record Blamed (calls : List Call) (wire : ℤ) (q : Places) (g : GetTask) (e : Error) : Type 0 where
  pub file : FileRecord
  pub at : Option ℕ
  pub opened : TellsGetOpened calls wire q g file at
  pub listed : ℕ
  pub own : IsOf q.opened listed
  pub other : ListsOther calls g.at file listed e

pub blamed : (calls : List Call) (wire : ℤ) (q : Places) (g : GetTask) (bytes : List ℕ) (done : ℕ) (e : Error) → TellsGetFails calls wire q g bytes done e → BlamesChunk e.kind → Blamed calls wire q g e
blamed calls wire q g bytes done e (tells.out_of_memory room) b = absurd (no_memory_blames e room b)
blamed calls wire q g bytes done e (tells.has_no_room none is) b = absurd (blames_by e (kind.InvalidArgument argument.ReadSize) is b)
blamed calls wire q g bytes done e (tells.not_opened some silent first fails) b = absurd (opening_blames (sent_at q.now calls wire) g e fails b)
blamed calls wire q g bytes done e (tells.not_read some more d at opened cursor fails its sound plain counted last listed of held why read_so came) b =
    record { file = d.file; at = at; opened = opened; listed = listed; own = of; other = stops_other (sent_at (all_places q) calls wire) (ListsOther calls g.at d.file listed e) e why b }

-- the database of a get that blames one has a name
pub blamed_named : (c : Course) (i : ℕ) (calls : List Call) (wire : ℤ) (g : GetTask) (bytes : List ℕ) (e : Error) → GetFails c i calls wire g bytes e → BlamesChunk e.kind → IsNamed (chunks_space g.at)
blamed_named c i calls wire g bytes e (causes.out_of_memory room) b = absurd (no_memory_blames e room b)
blamed_named c i calls wire g bytes e (causes.has_no_room none is) b = absurd (blames_by e (kind.InvalidArgument argument.ReadSize) is b)
blamed_named c i calls wire g bytes e (causes.not_opened some places sent fails whole) b = absurd (opening_blames (sent_at places calls wire) g e fails b)
blamed_named c i calls wire g bytes e (causes.not_read some d opened k more places sent cursor fails its sound plain all last stopped read_so came) b =
    (stops_other (sent_at stopped.places calls wire) (ListsOther calls g.at d.file stopped.listed e) e stopped.why b).named

-- ---- the record that it found

pub record_result : (s : State) (at : Bucket) (id : Tree) (ds : List Fields) → result s (record_query (files_space at) id) ≡ Some ds → take 1 (file_of s at id).records ≡ ds
unfolding result file_of
record_result s at id ds is =
    let c = has_value (codes "_id") id in
    ap (take 1) (sym (those_same c (documents_of s (files_space at)))) ∙ same_some (take 1 (filter (matches (c ∷ [])) (documents_of s (files_space at)))) ds is

pub first_taken : (xs ys : List Fields) (y : Fields) → take 1 xs ≡ y ∷ ys → (rest : List Fields) × (xs ≡ y ∷ rest)
first_taken [] ys y is = absurd cc
first_taken (x ∷ xs) ys y is = (xs, let same : x ≡ y = same_some x y (ap (λ (l : List Fields). slice_get l 0) is) in ap (λ (z : Fields). z ∷ xs) same)

-- the first document of a batch that gives a record
record FirstRead (events : List Fields) (f : FileRecord) : Type 0 where
  d : Fields
  more : List Fields
  these : events ≡ d ∷ more
  reads_as : file_record_of d ≡ Ok f

first_read : (batch : Items) (f : FileRecord) (events : List Fields) → GivesFirst batch (Some f) → documents_in batch ≡ Some events → FirstRead events f
first_read batch f events (none_found none is) items = absurd cc
first_read batch f events (is_found t ts d x batch_is document read is) items =
    let p = paired (as_document t) (documents_in ts) events (sym (ap documents_in batch_is) ∙ items) in
    let same : p.x ≡ d = same_some p.x d (sym p.first_is ∙ document) in
    let one : x ≡ f = same_some x f (sym is) in
    record { d = p.x; more = p.more; these = sym p.these; reads_as = ap file_record_of same ∙ read ∙ ap (λ (y : FileRecord). Ok y) one }

-- a step of it at this position
pub record OwnAt (past : Past) (position : ℕ) : Type 0 where
  pub place : ℕ
  pub own : IsOwn past place
  pub call : Call
  pub there : slice_get past.calls place ≡ Some call
  pub placed : call.position ≡ Some position

-- In this history the find of the record took effect here, and was answered by a batch of the records that stood.
pub record FindStep (past : Past) (history : List Step) (g : GetTask) (bytes : List ℕ) : Type 0 where
  pub position : ℕ
  pub step : OwnAt past position
  pub finds : AsksAt history position (record_query (files_space g.at) g.id)
  pub batch : Batch
  pub there : batch_of (fields bytes) ≡ Some batch
  pub left : List Fields
  pub stood : take 1 (file_of (state_of (take (suc position) history)) g.at g.id).records ≡ batch.events ++ left
  pub items : (said : Cursor) → cursor_of (fields bytes) ≡ Ok said → documents_in said.batch ≡ Some batch.events

pub find_step : (past : Past) (history : List Step) → IsLegal history → Stands past.calls history → (g : GetTask) → IsNamed (chunks_space g.at) → (bytes : List ℕ) → HeardBy past (record_find g) (reply bytes) → IsSuccess bytes → FindStep past history g bytes
find_step past history legal stands g named bytes h success =
    let q : Query = record_query (files_space g.at) g.id in
    let t = took past history stands (record_find g) bytes h in
    let s : State = state_of (take t.position history) in
    let l = lawful_at history t.position t.step legal t.there in
    let asks = found_asks (plain_bucket g.at) g.at (bucket_is_plain g named).named g.id t.step.command t.command_is in
    let o = query_opens t.step l (subst IsSuccess t.reply_is success) q asks in
    let there : batch_of (fields bytes) ≡ Some o.batch = ap (λ (b : List ℕ). batch_of (fields b)) t.reply_is ∙ o.there in
    let r = read_as (fields bytes) o.batch there in
    let after : state_of (take (suc t.position) history) ≡ step_after s t.step = ap state_of (take_more history t.position t.step t.there) ∙ state_one (take t.position history) t.step in
    let reads : result (state_of (take (suc t.position) history)) q ≡ Some (o.batch.events ++ o.left) = ap (λ (y : State). result y q) after ∙ after_reads t.step s q asks o ∙ o.these in
    record {
      position = t.position;
      step = record { place = h.place; own = h.heard.own; call = h.heard.call; there = h.heard.there; placed = t.placed };
      finds = record { step = t.step; there = t.there; asks = asks };
      batch = o.batch;
      there = there;
      left = o.left;
      stood = record_result (state_of (take (suc t.position) history)) g.at g.id (o.batch.events ++ o.left) reads;
      items = λ said says. ap (λ (y : Cursor). documents_in y.batch) (same_ok said r.it (sym says ∙ r.says)) ∙ r.documents_are;
    }
  where
    same_ok : (y z : Cursor) → ◌≡◌ {A = Result Cursor Malformed} (Ok y) (Ok z) → y ≡ z
    same_ok y z e = cc

-- There this record stood first.
pub record FoundAt (past : Past) (history : List Step) (g : GetTask) (f : FileRecord) : Type 0 where
  pub position : ℕ
  pub step : OwnAt past position
  pub finds : AsksAt history position (record_query (files_space g.at) g.id)
  pub first : Fields
  pub more : List Fields
  pub stood : (file_of (state_of (take (suc position) history)) g.at g.id).records ≡ first ∷ more
  pub reads_as : file_record_of first ≡ Ok f

pub found_at : (past : Past) (history : List Step) → IsLegal history → Stands past.calls history → (g : GetTask) → IsNamed (chunks_space g.at) → (f : FileRecord) → HeardRecord past (plain_bucket g.at) g.id (Some f) → FoundAt past history g f
found_at past history legal stands g named f h =
    let s = find_step past history legal stands g named h.bytes h.heard h.success in
    let x = first_read h.reads_so.said.batch f s.batch.events h.reads_so.first (s.items h.reads_so.said h.reads_so.says) in
    let first = first_taken (file_of (state_of (take (suc s.position) history)) g.at g.id).records (x.more ++ s.left) x.d (s.stood ∙ ap (λ (l : List Fields). l ++ s.left) x.these) in
    record { position = s.position; step = s.step; finds = s.finds; first = x.d; more = first.0; stood = first.1; reads_as = x.reads_as }
