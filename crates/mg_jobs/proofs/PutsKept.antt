-- In a legal history no failure of a put says that a reply breaks its grammar.
use Rattle.std.proofs.Common.{◌≡◌, ℕ, true, false, List, [], ◌∷◌, length, Some, None, subst, inl, inr}
use Rattle.mg_bson.specs.Raw.{fields}
use Rattle.mg_bson.specs.Tree.{Fields}
use Rattle.mg_server.specs.Calls.{Grows, HeardBy, Past, RequestFails}
use Rattle.mg_server.specs.Commands.{asked, asks_other}
use Rattle.mg_link.specs.Exec.{IsSuccess}
use Rattle.mg_server.specs.History.{IsLegal, Step}
use Rattle.mg_link.specs.Log.{reply}
use Rattle.mg_server.specs.Query.{index_listed}
use Rattle.mg_server.specs.Standing.{Stands}
use Rattle.mg_server.specs.State.{Index}
use Rattle.mg_link.specs.declared.error.BadArgument.TheVariants as argument
use Rattle.mg_link.specs.declared.error.Error.{Error}
use Rattle.mg_link.specs.declared.error.ErrorKind.{ErrorKind}
use Rattle.mg_link.specs.declared.error.ErrorKind.TheVariants as kind
use Rattle.mg_link.specs.declared.error.GridFsErrorKind.{None', Some'}
use Rattle.mg_link.specs.declared.error.GridFsErrorKind.TheVariants as grid
use Rattle.mg_server.proofs.Owners.{same_some}
use Rattle.mg_server.proofs.Pasts.{heard_grows}
use Rattle.mg_options.specs.Fields.{fields_in}
use Rattle.mg_chunks.specs.Broken.{Breaks}
use Rattle.mg_records.specs.Readings.{FailsToRead, recorded}
use Rattle.mg_records.specs.Specifications.{index_of}
use Rattle.mg_cursor.specs.Causes.{MoreFails, TellsNoCursor}
use Rattle.mg_cursor.specs.Client.{ClientCursor, get_more}
use Rattle.mg_gridfs.specs.Buckets.{ClientBucket}
use Rattle.mg_gridfs.specs.Causes as uploads
use Rattle.mg_gridfs.specs.Causes.{ListsFailure, ListsFirst, ListsFor, RemovalFails, UploadFails}
use Rattle.mg_gridfs.specs.Commands.{any_lines, chunks_lines, creation_lines, deletion_lines, index_lines, listing_lines, record_lines}
use Rattle.mg_gridfs.specs.Steps as steps
use Rattle.mg_gridfs.specs.Steps.{FailsToUndo, IsAbortOf}
use Rattle.mg_gridfs.specs.Uploads.{record_of}
use Rattle.mg_gridfs.specs.declared.indexes.Place.{Place}
use Rattle.mg_gridfs.proofs.Meaning.{any_reads}
use Rattle.mg_players.specs.PutFailures as fails
use Rattle.mg_players.specs.PutFailures.{IsOfList, PutCheckFails, PutFails, next_batch}
use Rattle.mg_players.specs.Puts.{CannotOpen, PutTask, put_aim, put_bucket}
use Rattle.mg_players.proofs.Batches.{breaks_not, tells_not}
use Rattle.mg_players.proofs.GetSteps.{took}
use Rattle.mg_players.proofs.Prompting.{lawful_at, never_garbled}
use Rattle.mg_jobs.specs.Grammar.{SaysGarbled}
use Rattle.mg_jobs.proofs.KeptGrammar.{never_undeleted, never_unlisted, never_unwritten}
use Rattle.mg_jobs.proofs.ListedIndexes.{batch_brings, listed_index}
use Rattle.mg_jobs.proofs.PutHeard.{query_brings, told_as}
use Rattle.mg_jobs.proofs.Unread.{as_said, has_verdict, plainly_said, request_by, request_kept, send_kept, size_kept, store_kept}
use Rattle.mg_jobs.proofs.WriteAsks.{Counts, Writes, creating_writes, deleting_counts, indexes_write, inserting_counts}

-- an index that a server lists is read as one
index_kept : (d : Fields) (i : Index) → d ≡ index_listed i → (e : Error) → FailsToRead (recorded (index_of d)) e → SaysGarbled e.kind → ⊥
index_kept d i is e (inl full) garbled = plainly_said e kind.OutOfMemory full garbled
index_kept d i is e (inr breaks) garbled = subst (λ (x : Fields). Breaks (recorded (index_of x)) e) is breaks

-- what holds two errors says no more than they do
both_kept : (original d : Error) (k : ErrorKind) → (SaysGarbled original.kind → ⊥) → (SaysGarbled d.kind → ⊥) → IsAbortOf (Some original) d k → SaysGarbled k → ⊥
both_kept original d (kind.GridFs (grid.AbortError' None' box what labels wire_version)) first second holds garbled = absurd cc
both_kept original d (kind.GridFs (grid.AbortError' (Some' place which its_labels its_wire_version) box what labels wire_version)) first second holds (inl garbled) =
    first (subst (λ (x : Error). SaysGarbled x.kind) (same_some (record { kind = which; labels = its_labels; wire_version = its_wire_version }) original holds.0) garbled)
both_kept original d (kind.GridFs (grid.AbortError' (Some' place which its_labels its_wire_version) box what labels wire_version)) first second holds (inr garbled) = second (subst (λ (x : Error). SaysGarbled x.kind) holds.1 garbled)
both_kept original d k first second holds garbled = holds

undone_kept : (original d e : Error) → (SaysGarbled original.kind → ⊥) → (SaysGarbled d.kind → ⊥) → FailsToUndo (Some original) d e → SaysGarbled e.kind → ⊥
undone_kept original d e first second (steps.no_memory full same) garbled = second (subst (λ (x : Error). SaysGarbled x.kind) same garbled)
undone_kept original d e first second (steps.holds_both other (inl full)) garbled = plainly_said e kind.OutOfMemory full garbled
undone_kept original d e first second (steps.holds_both other (inr both)) garbled = both_kept original d e.kind first second both.holds garbled

module _ (past : Past) (history : List Step) (legal : IsLegal history) (stands : Stands past.calls history) (t : PutTask) where
  abbrev B : ClientBucket
  B = put_bucket t

  -- ---- its check

  -- the reply to a find has a batch
  find_kept : (e : Error) (bytes : List ℕ) → HeardBy past (fields_in (any_lines B)) (reply bytes) → IsSuccess bytes → TellsNoCursor bytes e → ⊥
  find_kept e bytes h success breaks =
      let k = took past history stands (fields_in (any_lines B)) bytes h in
      let l = lawful_at history k.position k.step legal k.there in
      let here : IsSuccess k.step.reply = subst IsSuccess k.reply_is success in
      elim (any_reads B k.step.command k.command_is) [
        | inl q ↦ let b = query_brings k.step l here q.0 q.1 in tells_not k.step.reply b.0 e b.1 (subst (λ (bs : List ℕ). TellsNoCursor bs e) k.reply_is breaks)
        | inr other ↦ never_garbled k.step l (told_as k.step l here asks_other other)
      ]

  -- a creation lists no failure that breaks the grammar
  write_kept : (command : Fields) (e : Error) → ((bytes : List ℕ) → fields bytes ≡ command → Writes (asked bytes)) → (bytes : List ℕ) → HeardBy past command (reply bytes) → IsSuccess bytes → ListsFailure bytes e → SaysGarbled e.kind → ⊥
  write_kept command e writes bytes h success lists garbled =
      let k = took past history stands command bytes h in
      never_unwritten k.step (lawful_at history k.position k.step legal k.there) (subst IsSuccess k.reply_is success) (writes k.step.command k.command_is) e (subst (λ (bs : List ℕ). ListsFailure bs e) k.reply_is lists) garbled

  -- the reply to a list has a batch, which stands behind a creation
  listing_kept : (at : Place) (later : Past) → Grows later past → (e : Error) → RequestFails later (fields_in (listing_lines B at)) true TellsNoCursor e → SaysGarbled e.kind → ⊥
  listing_kept at later grows e failed garbled =
      let command : Fields = fields_in (listing_lines B at) in
      let heard : (bytes : List ℕ) → HeardBy later command (reply bytes) → HeardBy past command (reply bytes) = λ bytes h. heard_grows later past grows command (reply bytes) (λ bad. cc) h in
      request_by later command true TellsNoCursor e (λ bytes h is. has_verdict past history legal stands command bytes (heard bytes h) is)
      (λ bytes h success breaks. let b = batch_brings past history legal stands B bytes (fails.first_batch at (heard bytes h) success) in tells_not bytes b.batch e b.there breaks) failed garbled

  more_kept : (c : ClientCursor) (e : Error) → IsOfList past B c → MoreFails past c e → SaysGarbled e.kind → ⊥
  more_kept c e l f garbled =
      request_kept past history legal stands (get_more c f.session) false TellsNoCursor e
      (λ bytes h success breaks. let b = batch_brings past history legal stands B bytes (next_batch c l (record { session = f.session; heard = h; success = success })) in tells_not bytes b.batch e b.there breaks) f.fails garbled

  check_kept : (e : Error) → PutCheckFails past B e → SaysGarbled e.kind → ⊥
  check_kept e (fails.out_of_memory room) garbled = as_said e kind.OutOfMemory room garbled
  check_kept e (fails.not_built lines its cannot) garbled = send_kept lines e cannot garbled
  check_kept e (fails.by_find failed) garbled = request_kept past history legal stands (fields_in (any_lines B)) true TellsNoCursor e (find_kept e) failed garbled
  check_kept e (fails.by_creation at failed other) garbled =
      request_kept past history legal stands (fields_in (creation_lines B at)) false ListsFailure e (λ bytes h success lists. write_kept (fields_in (creation_lines B at)) e (λ bs is. creating_writes bs B at is) bytes h success lists garbled) failed garbled
  check_kept e (fails.by_listing at created failed) garbled = listing_kept at failed.later failed.grows e failed.says garbled
  check_kept e (fails.by_index at failed) garbled =
      request_kept past history legal stands (fields_in (index_lines B at)) false ListsFailure e (λ bytes h success lists. write_kept (fields_in (index_lines B at)) e (λ bs is. indexes_write bs B at is) bytes h success lists garbled) failed garbled
  check_kept e (fails.not_asked c l cannot) garbled = size_kept c.manner.size (get_more c None) e cannot garbled
  check_kept e (fails.by_more c l failed) garbled = more_kept c e l failed garbled
  check_kept e (fails.broken bytes batch breaks) garbled = let b = batch_brings past history legal stands B bytes batch in breaks_not bytes b.batch e b.there breaks
  check_kept e (fails.stays_empty c l many last is) garbled = plainly_said e kind.EmptyBatches is garbled
  check_kept e (fails.no_index document listed failed) garbled = let i = listed_index past history legal stands B document listed in index_kept (fields document) i.0 i.1 e failed garbled
  check_kept e (fails.too_many c l many is) garbled = plainly_said e kind.TooManyDocuments is garbled

  -- ---- its inserts

  inserts_kept : (command : Fields) (documents : List Fields) (e : Error) → ((bytes : List ℕ) → fields bytes ≡ command → Counts (asked bytes)) → RequestFails past command false (ListsFor documents) e → SaysGarbled e.kind → ⊥
  inserts_kept command documents e counts failed garbled =
      request_kept past history legal stands command false (ListsFor documents) e
      (λ bytes h success lists.
      let k = took past history stands command bytes h in
      never_unlisted k.step (lawful_at history k.position k.step legal k.there) (subst IsSuccess k.reply_is success) (counts k.step.command k.command_is) (length documents) e.kind (subst (λ (bs : List ℕ). ListsFor documents bs e) k.reply_is lists).1 garbled) failed garbled

  upload_kept : (e : Error) → UploadFails past (put_aim t) e → SaysGarbled e.kind → ⊥
  upload_kept e (uploads.out_of_memory room) garbled = as_said e kind.OutOfMemory room garbled
  upload_kept e (uploads.chunks_not_built documents portion cannot) garbled = store_kept (chunks_lines B documents) documents e cannot garbled
  upload_kept e (uploads.document_not_built id number bytes size by) garbled = plainly_said e kind.BsonSerialization by.0 garbled
  upload_kept e (uploads.last_not_built document rest cannot) garbled = store_kept (chunks_lines B (document ∷ [])) (document ∷ []) e cannot garbled
  upload_kept e (uploads.record_not_built ending cannot) garbled = let record_is = record_of (put_aim t) ending in store_kept (record_lines B record_is) (record_is ∷ []) e cannot garbled
  upload_kept e (uploads.by_chunks documents failed) garbled = inserts_kept (fields_in (chunks_lines B documents)) documents e (λ bytes is. inserting_counts bytes B.chunks documents is) failed garbled
  upload_kept e (uploads.by_record ending failed) garbled =
      let record_is = record_of (put_aim t) ending in inserts_kept (fields_in (record_lines B record_is)) (record_is ∷ []) e (λ bytes is. inserting_counts bytes B.files (record_is ∷ []) is) failed garbled
  upload_kept e (uploads.too_large first count within some few past_all is) garbled = plainly_said e kind.FileTooLarge is garbled

  -- ---- the removal of its chunks

  removal_kept : (e : Error) → RemovalFails past (put_aim t) e → SaysGarbled e.kind → ⊥
  removal_kept e (uploads.out_of_memory room) garbled = as_said e kind.OutOfMemory room garbled
  removal_kept e (uploads.not_built cannot) garbled = send_kept (deletion_lines B t.id) e cannot garbled
  removal_kept e (uploads.by_deletion failed) garbled =
      let command : Fields = fields_in (deletion_lines B t.id) in
      request_kept past history legal stands command false ListsFirst e
      (λ bytes h success lists.
      let k = took past history stands command bytes h in
      never_undeleted k.step (lawful_at history k.position k.step legal k.there) (subst IsSuccess k.reply_is success) (deleting_counts k.step.command B t.id k.command_is) e (subst (λ (bs : List ℕ). ListsFirst bs e) k.reply_is lists) garbled) failed garbled

  -- ---- its last call

  pub put_kept : (e : Error) → PutFails past t e → SaysGarbled e.kind → ⊥
  put_kept e (fails.early (fails.check_fails failed)) garbled = check_kept e failed garbled
  put_kept e (fails.early (fails.not_taken is)) garbled = plainly_said e kind.OutOfMemory is garbled
  put_kept e (fails.late original first (fails.first_error removed is)) garbled = upload_kept original first.by_upload (subst (λ (x : Error). SaysGarbled x.kind) is garbled)
  put_kept e (fails.late original first (fails.not_removed d failed both)) garbled = undone_kept original d e (upload_kept original first.by_upload) (removal_kept d failed) both garbled

-- or its opening
pub put_unopened : (t : PutTask) (e : Error) → CannotOpen t e → SaysGarbled e.kind → ⊥
put_unopened t e (inl full) garbled = plainly_said e kind.OutOfMemory full garbled
put_unopened t e (inr (bad, is)) garbled = plainly_said e (kind.InvalidArgument argument.ChunkSize) is garbled
