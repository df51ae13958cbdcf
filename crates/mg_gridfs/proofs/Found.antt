-- The opening of a download, step by step.
use Rattle.std.proofs.Common.{◌≡◌, ◌⊎◌, ◌+◌, ◌*◌, ◌/◌, ◌%◌, ℕ, zero, suc, min, ℤ, Bool, true, List, Option, Some, None, Result, Ok, Err, IfErr, IfOk, refl, sym, ap, ◌∙◌, subst, inl, inr, arith, div-add-mod'}
use Rattle.std.specs.Prelude.{if◌then◌else◌}
use Rattle.std.proofs.lemmas.Bool.{ne_eqb}
use Rattle.mg_bson.specs.Raw.{fields}
use Rattle.mg_bson.specs.Tree.{Fields, Items, Tree}
use Rattle.mg_link.specs.Exec.{Runs, Sending}
use Rattle.mg_link.specs.Link.{Awaited, LogTold}
use Rattle.mg_link.specs.declared.action.Step.{Step}
use Rattle.mg_link.specs.declared.action.Step.TheVariants as came
use Rattle.mg_link.specs.declared.error.BadArgument.{BadArgument}
use Rattle.mg_link.specs.declared.error.Error.{Error}
use Rattle.mg_link.specs.declared.error.ErrorKind.TheVariants as kind
use Rattle.mg_link.specs.declared.error.Malformed.{Malformed}
use Rattle.mg_link.specs.declared.error.Malformed.TheVariants as malformed
use Rattle.mg_options.specs.Fields.{Line, Refuses, first_unfit}
use Rattle.mg_ops.specs.Cursors.{Cursor, Gave, batch_at, cursor_of}
use Rattle.mg_ops.specs.Failing.{FailsBy}
use Rattle.mg_ops.specs.declared.cursor_reply.GetMoreResult.{GetMoreResult}
use Rattle.mg_ops.proofs.Reading.{items_read}
use Rattle.mg_cursor.specs.View.{told_by}
use Rattle.mg_cursor.proofs.Hearing.{no_room, other_kind, unread_not_io}
use Rattle.mg_chunks.specs.Sizes.{chunk_count, chunk_count_of, counted}
use Rattle.mg_records.specs.FileRecords.{FileRecord, file_record_of}
use Rattle.mg_chunks.specs.Broken.{Breaks, broken}
use Rattle.mg_gridfs.specs.Buckets.{ClientBucket, SameBucket, bucket_of}
use Rattle.mg_gridfs.specs.Commands.{CannotSend, IsNewRequest, IsRequest, found_lines, listed_lines}
use Rattle.mg_gridfs.specs.DownloadView.{IsBeginning, KeepsAim, KeepsWanted, bucket_in, finding_of, looking_of}
use Rattle.mg_gridfs.specs.Findings as finding
use Rattle.mg_gridfs.specs.Findings.{BreaksFirst, BreaksRecord, ClientFinding, GivesFirst, IsListing, IsSoundFinding, Looking, ReadsRecord, SoundIn, finds, lists, starts}
use Rattle.mg_gridfs.specs.declared.download.GridFsDownloadStream.{GridFsDownloadStream}
use Rattle.mg_gridfs.specs.declared.open_download.OpenDownloadStream.{OpenDownloadStream}
use Rattle.mg_gridfs.specs.declared.open_download.Opening.{Opening}
use Rattle.mg_gridfs.specs.declared.open_download.Opening.TheVariants as opening

-- ---- the first record of a batch

module _ {X : Type 0} (seen : X → Option FileRecord) where
  -- the batch is that of the reply
  pub said_gives : (r : Result X Error) (reply : Fields) (batch : Items) → batch_at reply ≡ Ok batch → IfOk r (λ x. GivesFirst batch (seen x)) → IfOk r (λ x. (said : Cursor) → cursor_of reply ≡ Ok said → GivesFirst said.batch (seen x))
  said_gives (Ok x) reply batch there h = λ said says. let same : batch ≡ said.batch = same_ok batch said.batch (sym there ∙ items_read reply said says) in subst (λ (b : Items). GivesFirst b (seen x)) same h
    where
      same_ok : (a b : Items) → ◌≡◌ {A = Result Items Malformed} (Ok a) (Ok b) → a ≡ b
      same_ok a b e = cc
  said_gives (Err e) reply batch there h = tt

  pub said_breaks : (r : Result X Error) (reply : Fields) (batch : Items) → batch_at reply ≡ Ok batch → IfErr r (λ e. FailsBy (BreaksFirst batch) e) → IfErr r (λ e. (said : Cursor) → cursor_of reply ≡ Ok said → FailsBy (BreaksFirst said.batch) e)
  said_breaks (Ok x) reply batch there h = tt
  said_breaks (Err e) reply batch there h = λ said says. let same : batch ≡ said.batch = same_ok batch said.batch (sym there ∙ items_read reply said says) in subst (λ (b : Items). FailsBy (BreaksFirst b) e) same h
    where
      same_ok : (a b : Items) → ◌≡◌ {A = Result Items Malformed} (Ok a) (Ok b) → a ≡ b
      same_ok a b e = cc

  -- and the reply is the one that was read
  pub gave_gives : (r : Result X Error) (raw : List ℕ) (gave : GetMoreResult) → raw ≡ gave.raw_reply → IfOk r (λ x. (said : Cursor) → cursor_of (fields raw) ≡ Ok said → GivesFirst said.batch (seen x)) → IfOk r (λ x. (reply : List ℕ) → Gave reply gave → ReadsRecord reply (seen x))
  gave_gives (Ok x) raw gave is h = λ reply g. record { said = told_by gave g.batch; says = g.says; first = h (told_by gave g.batch) (ap (λ (b : List ℕ). cursor_of (fields b)) (is ∙ g.whole) ∙ g.says) }
  gave_gives (Err e) raw gave is h = tt

  pub gave_breaks : (r : Result X Error) (raw : List ℕ) (gave : GetMoreResult) → raw ≡ gave.raw_reply → IfErr r (λ e. (said : Cursor) → cursor_of (fields raw) ≡ Ok said → FailsBy (BreaksFirst said.batch) e) → IfErr r (λ e. (reply : List ℕ) → Gave reply gave → FailsBy (BreaksRecord reply) e)
  gave_breaks (Ok x) raw gave is h = tt
  gave_breaks (Err e) raw gave is h = λ reply g. in_reply reply g (h (told_by gave g.batch) (ap (λ (b : List ℕ). cursor_of (fields b)) (is ∙ g.whole) ∙ g.says))
    where
      in_reply : (reply : List ℕ) (g : Gave reply gave) → FailsBy (BreaksFirst g.batch) e → FailsBy (BreaksRecord reply) e
      in_reply reply g (inl memory) = inl memory
      in_reply reply g (inr breaks) = inr (finding.in_batch (told_by gave g.batch) g.says breaks)

  pub reply_gives : (r : Result X Error) (gave : GetMoreResult) (reply : List ℕ) → Gave reply gave → IfOk r (λ x. (b : List ℕ) → Gave b gave → ReadsRecord b (seen x)) → IfOk r (λ x. ReadsRecord reply (seen x))
  reply_gives (Ok x) gave reply g h = h reply g
  reply_gives (Err e) gave reply g h = tt

  pub reply_breaks : (r : Result X Error) (gave : GetMoreResult) (reply : List ℕ) → Gave reply gave → IfErr r (λ e. (b : List ℕ) → Gave b gave → FailsBy (BreaksRecord b) e) → IfErr r (λ e. FailsBy (BreaksRecord reply) e)
  reply_breaks (Ok x) gave reply g h = tt
  reply_breaks (Err e) gave reply g h = h reply g

-- ---- errors that are no fault of the link

refused_not_io : (unfit : Option BadArgument) (e : Error) → Refuses unfit e → e.kind ≡ kind.Io → ⊥
refused_not_io None e refuses = absurd refuses
refused_not_io (Some a) e refuses = other_kind e (kind.InvalidArgument a) refuses (λ bad. cc)

-- a find that is not built
pub not_built_not_io : (lines : List Line) (e : Error) → FailsBy (CannotSend lines) e → e.kind ≡ kind.Io → ⊥
not_built_not_io lines e (inl room) = no_room e room
not_built_not_io lines e (inr (inl refuses)) = refused_not_io (first_unfit lines) e refuses
not_built_not_io lines e (inr (inr limit)) = other_kind e kind.BsonSerialization limit.0 (λ bad. cc)

broken_not_io : {A : Type 0} (r : Result A Malformed) (e : Error) → Breaks r e → e.kind ≡ kind.Io → ⊥
broken_not_io (Ok x) e breaks = absurd breaks
broken_not_io (Err m) e breaks = other_kind e (kind.InvalidResponse m) breaks (λ bad. cc)

first_not_io : (batch : Items) (e : Error) → BreaksFirst batch e → e.kind ≡ kind.Io → ⊥
first_not_io batch e (finding.no_document t ts is none error) = other_kind e (kind.InvalidResponse malformed.BadItem) error (λ bad. cc)
first_not_io batch e (finding.no_record t ts d is there breaks) = broken_not_io (file_record_of d) e breaks

-- a reply that gives no record
pub unread_record_not_io : (reply : List ℕ) (e : Error) → FailsBy (BreaksRecord reply) e → e.kind ≡ kind.Io → ⊥
unread_record_not_io reply e (inl room) = no_room e room
unread_record_not_io reply e (inr (finding.no_cursor breaks)) = unread_not_io (fields reply) e (inr breaks)
unread_record_not_io reply e (inr (finding.in_batch said says breaks)) = first_not_io said.batch e breaks

-- ---- the count of chunks

pub record BrokenCount (r : Result ℕ Malformed) (e : Error) : Type 0 where
  pub how : Malformed
  pub says : r ≡ Err how
  pub error : e ≡ broken how

pub count_broken : (r : Result ℕ Malformed) (e : Error) → Breaks r e → BrokenCount r e
count_broken (Ok n) e bad = absurd bad
count_broken (Err m) e is = record { how = m; says = refl; error = is }

pub broken_kind_not_io : (e : Error) (m : Malformed) → e ≡ broken m → e.kind ≡ kind.Io → ⊥
broken_kind_not_io e m is = other_kind e (kind.InvalidResponse m) is (λ bad. cc)

-- no byte is in no chunk
by_parts : (k q r : ℕ) → q * suc k + r ≡ 0 → q + min 1 r ≡ 0
by_parts k zero r e = omega arith
by_parts k (suc q) r e = let more : suc q * suc k ≡ suc k + q * suc k = omega arith in absurd (omega arith)

pub none_counted : (length size n : ℕ) → length ≡ 0 → chunk_count_of length size ≡ Ok n → chunk_count_of length size ≡ Ok 0
none_counted length size n none known = ap (λ (l : ℕ). chunk_count_of l size) none ∙ none_at size (sym (ap (λ (l : ℕ). chunk_count_of l size) none) ∙ known)
  where
    none_at : (size : ℕ) → chunk_count_of 0 size ≡ Ok n → chunk_count_of 0 size ≡ Ok 0
    none_at zero h = absurd cc
    none_at (suc k) h =
        ap (λ (b : Bool). if b then Err malformed.ChunkSizeZero else counted (chunk_count 0 (suc k))) (ne_eqb (suc k) 0 (λ e. omega arith)) ∙ ap counted (by_parts k (0 / suc k) (0 % suc k) (div-add-mod' 0 (suc k)))

-- ---- what is on its way

-- a new request is one of its lines
pub is_request : (lines : List Line) (s : Sending) → IsNewRequest true lines s → IsRequest true lines s
is_request lines s new = record { command_is = new.command_is; retries_is = new.retries_is; at = tt }

-- what waits is the command that was polled
same_pending : (old new : Awaited) (log log' : LogTold) (wire : ℤ) (s s' : Sending) → Runs old new log log' wire s (came.Pending s') → (s'.command ≡ s.command) × (s'.retries ≡ s.retries)
same_pending old new log log' wire s s' (inl once) = (ap (λ (x : Sending). x.command) once.gives.2, ap (λ (x : Sending). x.retries) once.gives.2)
same_pending old new log log' wire s s' (inr twice) = (ap (λ (x : Sending). x.command) twice.gives.2, ap (λ (x : Sending). x.retries) twice.gives.2)

waiting : (old new : Awaited) (log log' : LogTold) (wire : ℤ) (lines : List Line) (s s' : Sending) → IsRequest true lines s → Runs old new log log' wire s (came.Pending s') → IsRequest true lines s'
waiting old new log log' wire lines s s' r runs =
    let same = same_pending old new log log' wire s s' runs in
    record { command_is = ap fields same.0 ∙ r.command_is; retries_is = same.1 ∙ r.retries_is; at = tt }

same_bucket : (b c : ClientBucket) → Some b ≡ Some c → b ≡ c
same_bucket b c e = cc

-- an opening that waits for its record
pub finds_sound : (old new : Awaited) (log log' : LogTold) (wire : ℤ) (b : ClientBucket) (id : Tree) (s s' : Sending) → IsRequest true (found_lines b id) s → Runs old new log log' wire s (came.Pending s') → IsSoundFinding (record { bucket = Some b; id = id; doing = finds s' })
finds_sound old new log log' wire b id s s' own runs = record {
  own = λ c is. subst (λ (x : ClientBucket). IsRequest true (found_lines x id) s') (same_bucket b c is) (waiting old new log log' wire (found_lines b id) s s' own runs);
  none = λ bad. absurd cc;
}

-- or for its chunks
pub lists_sound : (old new : Awaited) (log log' : LogTold) (wire : ℤ) (b : ClientBucket) (id : Tree) (f : FileRecord) (count : ℕ) (s s' : Sending) → IsListing b f count s → Runs old new log log' wire s (came.Pending s') → IsSoundFinding (record { bucket = Some b; id = id; doing = lists f count s' })
lists_sound old new log log' wire b id f count s s' own runs = record {
  own = λ c is. subst (λ (x : ClientBucket). IsListing x f count s') (same_bucket b c is) (record { some = own.some; counted = own.counted; request = waiting old new log log' wire (listed_lines b f.id) s s' own.request runs });
  none = λ bad. absurd cc;
}

-- ---- where an opening begins

pub begun_bucket : (b : ClientBucket) (stage : Opening) → IsBeginning b stage → (bucket_in stage ≡ None) ⊎ ((c : ClientBucket) × (bucket_in stage ≡ Some c) × SameBucket b c)
begun_bucket b opening.Nowhere h = inl refl
begun_bucket b (opening.Begin c) h = inr (bucket_of c, refl, h)
begun_bucket b (opening.Record c exec) h = absurd h
begun_bucket b (opening.Chunks c exec file count) h = absurd h

pub begun_new : (b : ClientBucket) (stage : Opening) → IsBeginning b stage → looking_of stage ≡ starts
begun_new b opening.Nowhere h = refl
begun_new b (opening.Begin c) h = refl
begun_new b (opening.Record c exec) h = absurd h
begun_new b (opening.Chunks c exec file count) h = absurd h

pub begun_sound : (id : Tree) (bucket : Option ClientBucket) (doing : Looking) → doing ≡ starts → IsSoundFinding (record { bucket = bucket; id = id; doing = doing })
begun_sound id bucket doing is = record { own = λ b there. subst (SoundIn b id) (sym is) tt; none = λ none. is }

-- one of this bucket is of that of the opening
pub same_aim : (o : ClientFinding) (b : ClientBucket) (r : Step OpenDownloadStream GridFsDownloadStream) → o.bucket ≡ Some b → KeepsWanted b o.id r → KeepsAim o r
same_aim o b (came.Pending p) is h = h ∙ ap (λ (c : Option ClientBucket). record { bucket = c; id = o.id; doing = (finding_of p).doing }) (sym is)
same_aim o b (came.Done s) is h = tt
same_aim o b (came.Failed e) is h = tt
