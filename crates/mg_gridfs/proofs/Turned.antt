-- The steps of a read: a batch that came, and what is given.
use Rattle.std.proofs.Common.{◌≡◌, ◌⊎◌, ◌<◌, ◌≤◌, ◌+◌, ◌-◌, ◌^◌, ◌==◌, ◌++◌, ◌∷◌, ℕ, suc, ℤ, pos, Bool, true, false, leb, List, [], length, map, min, take, drop, Option, Some, None, Result, Ok, Err, refl, sym, ap, ◌∙◌, subst, inl, inr, arith, leb-false, leb-true, length-append, length-drop, length-take}
use Rattle.std.specs.Prelude.{codes, if◌then◌else◌, option_and_then}
use Rattle.std.specs.Ordering.{int_eq}
use Rattle.std.specs.List.{concat}
use Rattle.std.proofs.lemmas.List.{drop_all, take_all}
use Rattle.mg_bson.specs.Find.{as_document}
use Rattle.mg_bson.specs.Raw.{items}
use Rattle.mg_bson.specs.Spans.{documents_inside}
use Rattle.mg_bson.specs.Tree.{Fields, Items, item, no_items}
use Rattle.mg_link.specs.Errors.{plain}
use Rattle.mg_link.specs.Numbers.{number_at}
use Rattle.mg_link.specs.Link.{Awaited, LogTold}
use Rattle.mg_link.specs.Moment.{LinkKeeps, Moment, finished}
use Rattle.mg_link.specs.declared.error.Error.{Error}
use Rattle.mg_link.specs.declared.error.ErrorKind.TheVariants as kind
use Rattle.mg_link.specs.declared.error.GridFsErrorKind.TheVariants as grid
use Rattle.mg_link.specs.declared.error.Malformed.{Malformed}
use Rattle.mg_link.specs.declared.error.Malformed.TheVariants as malformed
use Rattle.mg_cursor.specs.Batches.{BreaksBatch, bad_item, documents_of, no_batch}
use Rattle.mg_cursor.specs.Client as client
use Rattle.mg_cursor.specs.Client.{ClientCursor, client_ticket}
use Rattle.mg_cursor.specs.Polling.{PollsNext}
use Rattle.mg_cursor.specs.View.{behind_of, current_of}
use Rattle.mg_cursor.specs.declared.buffer.BatchBuffer.{BatchBuffer}
use Rattle.mg_cursor.specs.declared.polls.NextPoll.TheVariants as next
use Rattle.mg_cursor.proofs.Hearing.{failing, keeps_to, no_room, other_kind}
use Rattle.mg_chunks.specs.Sizes.{chunk_length_of}
use Rattle.mg_records.specs.FileRecords.{FileRecord}
use Rattle.mg_chunks.specs.Broken.{broken}
use Rattle.mg_chunks.specs.Chunks.{all_judged, and_then, data_of, judged, missing_chunk, needed_as, numbered_as, sized_as, wrong_size}
use Rattle.mg_gridfs.specs.Downloads.{ClientDownload, Doing, IsSoundDownload, download_ticket, ended_at, idle, most_empty, reads, sizes_of, spoiled_at}
use Rattle.mg_gridfs.specs.DownloadView.{HaveBytes, IsLater, bytes_in, data_in, download_of}
use Rattle.mg_gridfs.specs.Fetching as fetching
use Rattle.mg_gridfs.specs.Fetching.{CountsEmpty, Differs, FetchTurns, GivesAs, HasChunks, KeepsBatch, LooksAt, PassesOn, TakesAs, TurnFalls, fetching_of, rank, reading_of, turn_ending, turn_ticket}
use Rattle.mg_gridfs.specs.Reads as read_steps
use Rattle.mg_gridfs.specs.Reads.{HandsOut, SpoilsBatch, TakesBatch, read_ending, with_chunks}
use Rattle.mg_gridfs.specs.declared.download.GridFsDownloadStream.{GridFsDownloadStream}
use Rattle.mg_gridfs.specs.declared.download.Reading.{Reading}
use Rattle.mg_gridfs.specs.declared.download.Turn.{Turn}
use Rattle.mg_gridfs.specs.declared.download.Turn.TheVariants as turn
use Rattle.mg_chunks.specs.declared.judging.ReadPlace.{ReadPlace}
use Rattle.mg_gridfs.specs.declared.polls.ReadPoll.{ReadPoll}
use Rattle.mg_gridfs.specs.declared.polls.ReadPoll.TheVariants as read
use Rattle.mg_gridfs.proofs.Downloading.{same_cursor, taken_as}
use Rattle.mg_gridfs.proofs.Hands.{bytes_behind, none_of}
use Rattle.mg_gridfs.proofs.Received.{BatchHolds, HoldChunks, batch_holds, none_judged}
use Rattle.mg_gridfs.proofs.Sounding.{rests_ticket, takes_sound}

-- ---- errors that are no fault of the link

-- an error comes from the first step or from the second
then_err : {A B : Type 0} (r : Result A Error) (f : A → Result B Error) (e : Error) → and_then r f ≡ Err e → (r ≡ Err e) ⊎ ((x : A) × (f x ≡ Err e))
then_err (Ok x) f e h = inr (x, h)
then_err (Err y) f e h = inl (ap (λ (x : Error). Err x) (same_err y e h))
  where
    same_err : {X : Type 0} (a b : Error) → ◌≡◌ {A = Result X Error} (Err a) (Err b) → a ≡ b
    same_err a b x = cc

broken_not_io : (e : Error) (m : Malformed) → broken m ≡ e → e.kind ≡ kind.Io → ⊥
broken_not_io e m is = other_kind e (kind.InvalidResponse m) (sym is) (λ bad. cc)

needed_not_io : {A : Type 0} (m : Malformed) (o : Option A) (e : Error) → needed_as m o ≡ Err e → e.kind ≡ kind.Io → ⊥
needed_not_io m (Some x) e h = absurd cc
needed_not_io m None e h = broken_not_io e m cc

sized_not_io : (n : ℕ) (bytes : List ℕ) (r : Result ℕ Malformed) (e : Error) → sized_as n bytes r ≡ Err e → e.kind ≡ kind.Io → ⊥
sized_not_io n bytes (Ok expected) e h = by_test (length bytes == expected) h
  where
    by_test : (t : Bool) → (if t then Ok bytes else Err (wrong_size n (length bytes) expected)) ≡ Err e → e.kind ≡ kind.Io → ⊥
    by_test true h = absurd cc
    by_test false h = let is : e ≡ wrong_size n (length bytes) expected = cc in other_kind e (kind.GridFs (grid.WrongSizeChunk n (length bytes) expected)) is (λ bad. cc)
sized_not_io n bytes (Err m) e h = broken_not_io e m cc

missing_not_io : (n : ℕ) (e : Error) → e ≡ missing_chunk n → e.kind ≡ kind.Io → ⊥
missing_not_io n e is = other_kind e (kind.GridFs (grid.MissingChunk n)) is (λ bad. cc)

tested_not_io : {A : Type 0} (t : Bool) (r : Result A Error) (n : ℕ) (e : Error) → ((x : Error) → r ≡ Err x → x.kind ≡ kind.Io → ⊥) → (if t then r else Err (missing_chunk n)) ≡ Err e → e.kind ≡ kind.Io → ⊥
tested_not_io true r n e fine h = fine e h
tested_not_io false r n e fine h = let is : e ≡ missing_chunk n = cc in missing_not_io n e is

judged_not_io : (f : FileRecord) (n : ℕ) (d : Fields) (e : Error) → judged (sizes_of f) n d ≡ Err e → e.kind ≡ kind.Io → ⊥
judged_not_io f n d e h = by_number (then_err (needed_as malformed.BadChunk (number_at (codes "n") d)) (λ number. and_then (needed_as malformed.BadChunk (data_of d)) (numbered_as (sizes_of f) n number)) e h)
  where
    by_data : (z : ℤ) → (needed_as malformed.BadChunk (data_of d) ≡ Err e) ⊎ ((bytes : List ℕ) × (numbered_as (sizes_of f) n z bytes ≡ Err e)) → e.kind ≡ kind.Io → ⊥
    by_data z (inl bad) = needed_not_io malformed.BadChunk (data_of d) e bad
    by_data z (inr there) = tested_not_io (int_eq z (pos n)) (sized_as n there.0 (chunk_length_of f.length f.chunk_size n)) n e (λ x. sized_not_io n there.0 (chunk_length_of f.length f.chunk_size n) x) there.1

    by_number : (needed_as malformed.BadChunk (number_at (codes "n") d) ≡ Err e) ⊎ ((z : ℤ) × (and_then (needed_as malformed.BadChunk (data_of d)) (numbered_as (sizes_of f) n z) ≡ Err e)) → e.kind ≡ kind.Io → ⊥
    by_number (inl bad) = needed_not_io malformed.BadChunk (number_at (codes "n") d) e bad
    by_number (inr there) = by_data there.0 (then_err (needed_as malformed.BadChunk (data_of d)) (numbered_as (sizes_of f) n there.0) e there.1)

all_not_io : (f : FileRecord) (n : ℕ) (ts : Items) (e : Error) → all_judged (sizes_of f) n ts ≡ Err e → e.kind ≡ kind.Io → ⊥
all_not_io f n no_items e h = absurd cc
all_not_io f n (item t ts) e h = by_item (then_err (needed_as malformed.BadItem (as_document t)) (λ d. and_then (judged (sizes_of f) n d) (λ bytes. and_then (all_judged (sizes_of f) (suc n) ts) (λ more. Ok (bytes ∷ more)))) e h) (all_not_io f (suc n) ts e)
  where
    by_more : (all_judged (sizes_of f) (suc n) ts ≡ Err e → e.kind ≡ kind.Io → ⊥) → (bytes : List ℕ) → (all_judged (sizes_of f) (suc n) ts ≡ Err e) ⊎ ((more : List (List ℕ)) × (Ok (bytes ∷ more) ≡ Err e)) → e.kind ≡ kind.Io → ⊥
    by_more rest bytes (inl bad) = rest bad
    by_more rest bytes (inr never) = let bad = never.1 in absurd cc

    by_chunk : (all_judged (sizes_of f) (suc n) ts ≡ Err e → e.kind ≡ kind.Io → ⊥) → (d : Fields) → (judged (sizes_of f) n d ≡ Err e) ⊎ ((bytes : List ℕ) × (and_then (all_judged (sizes_of f) (suc n) ts) (λ more. Ok (bytes ∷ more)) ≡ Err e)) → e.kind ≡ kind.Io → ⊥
    by_chunk rest d (inl bad) = judged_not_io f n d e bad
    by_chunk rest d (inr there) = by_more rest there.0 (then_err (all_judged (sizes_of f) (suc n) ts) (λ more. Ok (there.0 ∷ more)) e there.1)

    by_item : (needed_as malformed.BadItem (as_document t) ≡ Err e) ⊎ ((d : Fields) × (and_then (judged (sizes_of f) n d) (λ bytes. and_then (all_judged (sizes_of f) (suc n) ts) (λ more. Ok (bytes ∷ more))) ≡ Err e)) → (all_judged (sizes_of f) (suc n) ts ≡ Err e → e.kind ≡ kind.Io → ⊥) → e.kind ≡ kind.Io → ⊥
    by_item (inl bad) rest = needed_not_io malformed.BadItem (as_document t) e bad
    by_item (inr there) rest = by_chunk rest there.0 (then_err (judged (sizes_of f) n there.0) (λ bytes. and_then (all_judged (sizes_of f) (suc n) ts) (λ more. Ok (bytes ∷ more))) e there.1)

spoils_not_io : (empty : ℕ) (reply : List ℕ) (d : ClientDownload) (e : Error) → (e ≡ plain kind.OutOfMemory) ⊎ SpoilsBatch empty reply d e → e.kind ≡ kind.Io → ⊥
spoils_not_io empty reply d e (inl memory) = no_room e memory
spoils_not_io empty reply d e (inr (read_steps.no_batch none)) = other_kind e (kind.InvalidResponse none.how) none.error (λ bad. cc)
spoils_not_io empty reply d e (inr (read_steps.differs batch there bad)) = all_not_io d.file d.taken batch e bad
spoils_not_io empty reply d e (inr (read_steps.too_many none many is)) = other_kind e kind.EmptyBatches is (λ bad. cc)

-- ---- a batch that came

same_reader : (s : GridFsDownloadStream) (q : Reading) (c : ClientCursor) (missing empty : ℕ) (reply : List ℕ) (d : ClientDownload) → TakesBatch c missing empty reply d (reading_of s q) → q.cursor ≡ c
same_reader s q c missing empty reply d h =
    let t = taken_as h.chunks c missing empty d (reading_of s q) h.taken in
    same_cursor q.cursor c q.missing t.missing q.empty t.empty t.doing

pub heard_keeps : (m m' : Moment) (ticket : Option ℕ) (c : ClientCursor) (missing empty : ℕ) (reply : List ℕ) (d : ClientDownload) (s : GridFsDownloadStream) (r : Turn) → c.doing ≡ client.rests → TakesAs c missing empty reply d s r → LinkKeeps m m' ticket (client_ticket c) finished → LinkKeeps m m' ticket (turn_ticket r) (turn_ending r)
heard_keeps m m' ticket c missing empty reply d s (turn.Goes q) rests h k = keeps_to m m' ticket (client_ticket c) (client_ticket q.cursor) finished (sym (ap client_ticket (same_reader s q c missing empty reply d h))) k
heard_keeps m m' ticket c missing empty reply d s (turn.Waits q) rests h k = absurd h
heard_keeps m m' ticket c missing empty reply d s (turn.Ends x) rests h k = absurd h
heard_keeps m m' ticket c missing empty reply d s (turn.Fails e) rests h k = failing m m' ticket None e (spoils_not_io empty reply d e h.0) (keeps_to m m' ticket (client_ticket c) None finished (rests_ticket c rests) k)

-- what the download does beside does not matter
with_same : (chunks : List (List ℕ)) (c : ClientCursor) (missing empty : ℕ) (d : ClientDownload) (doing : Doing) → with_chunks chunks c missing empty d ≡ with_chunks chunks c missing empty (record d { doing = doing })
with_same [] c missing empty d doing = refl
with_same (x ∷ xs) c missing empty d doing = refl

spoils_at : (empty : ℕ) (reply : List ℕ) (d : ClientDownload) (doing : Doing) (e : Error) → SpoilsBatch empty reply d e → SpoilsBatch empty reply (record d { doing = doing }) e
spoils_at empty reply d doing e (read_steps.no_batch none) = read_steps.no_batch none
spoils_at empty reply d doing e (read_steps.differs batch there bad) = read_steps.differs batch there bad
spoils_at empty reply d doing e (read_steps.too_many none many is) = read_steps.too_many none many is

fails_at : (empty : ℕ) (reply : List ℕ) (d : ClientDownload) (doing : Doing) (e : Error) → (e ≡ plain kind.OutOfMemory) ⊎ SpoilsBatch empty reply d e → (e ≡ plain kind.OutOfMemory) ⊎ SpoilsBatch empty reply (record d { doing = doing }) e
fails_at empty reply d doing e (inl memory) = inl memory
fails_at empty reply d doing e (inr spoils) = inr (spoils_at empty reply d doing e spoils)

pub takes_at : (c : ClientCursor) (missing empty : ℕ) (reply : List ℕ) (d : ClientDownload) (doing : Doing) (s : GridFsDownloadStream) (r : Turn) → TakesAs c missing empty reply d s r → TakesAs c missing empty reply (record d { doing = doing }) s r
takes_at c missing empty reply d doing s (turn.Goes q) h = record { array = h.array; is_array = h.is_array; bytes_are = h.bytes_are; chunks = h.chunks; in_order = h.in_order; few = h.few; taken = h.taken ∙ with_same h.chunks c missing empty d doing; numbered = h.numbered }
takes_at c missing empty reply d doing s (turn.Waits q) h = absurd h
takes_at c missing empty reply d doing s (turn.Ends x) h = absurd h
takes_at c missing empty reply d doing s (turn.Fails e) h = (fails_at empty reply d doing e h.0, h.1)

pub heard_turns : (old new : Awaited) (log log' : LogTold) (wire : ℤ) (d : ClientDownload) (s : GridFsDownloadStream) (c behind : ClientCursor) (missing empty : ℕ) (started : Bool) (reply : List ℕ) (r : Turn) → d.doing ≡ reads c missing empty → 0 < missing → PollsNext old new log log' wire None started c behind (next.Batch reply) → TakesAs behind missing empty reply d s r → FetchTurns old new log log' wire d s r
heard_turns old new log log' wire d s c behind missing empty started reply (turn.Goes q) at short polls h = record { cursor = c; missing = missing; empty = empty; at = at; short = short; started = started; behind = behind; reply = reply; polls = polls; takes = h }
heard_turns old new log log' wire d s c behind missing empty started reply (turn.Waits q) at short polls h = absurd h
heard_turns old new log log' wire d s c behind missing empty started reply (turn.Ends x) at short polls h = absurd h
heard_turns old new log log' wire d s c behind missing empty started reply (turn.Fails e) at short polls h = read_steps.not_taken c missing empty at short started behind reply e polls h.0 h.1 refl

-- a read that goes on is sound
pub goes_sound : (old new : Awaited) (log log' : LogTold) (wire : ℤ) (d : ClientDownload) (s : GridFsDownloadStream) (r : Turn) → IsSoundDownload d → FetchTurns old new log log' wire d s r → (q : Reading) → r ≡ turn.Goes q → IsSoundDownload (reading_of s q)
goes_sound old new log log' wire d s r sound turns q is = takes_sound old new log log' wire d (reading_of s q) sound (subst (FetchTurns old new log log' wire d s) is turns)

-- ---- an empty batch

pub empty_taken : (s : GridFsDownloadStream) (c : ClientCursor) (missing empty : ℕ) (reply : List ℕ) (p : ReadPlace) (r : Turn) → LooksAt (download_of s) missing reply p → p.taken ≡ s.taken → CountsEmpty c missing empty r → TakesAs c missing empty reply (fetching_of s (reads c missing empty)) s r
empty_taken s c missing empty reply p (turn.Goes q) looks same counts =
    let known = looks.taken in
    let short : length looks.chunks ≡ 0 = omega arith in
    let none : looks.chunks ≡ [] = none_of looks.chunks short in
    let numbered = looks.few in
    let few : s.taken ≤ 2 ^ 31 = omega arith in
    let doing : reads q.cursor q.missing q.empty ≡ reads c missing (suc empty) =
    ap (λ (x : ClientCursor). reads x q.missing q.empty) counts.1 ∙ ap (λ (n : ℕ). reads c n q.empty) counts.2 ∙ ap (λ (n : ℕ). reads c missing n) counts.3 in
    record {
      array = looks.array;
      is_array = looks.is_array;
      bytes_are = looks.bytes_are;
      chunks = looks.chunks;
      in_order = looks.in_order;
      few = λ e. counts.0;
      taken = ap (fetching_of s) doing ∙ sym (ap (λ (cs : List (List ℕ)). with_chunks cs c missing empty (fetching_of s (reads c missing empty))) none);
      numbered = few;
    }
empty_taken s c missing empty reply p (turn.Waits q) looks same counts = absurd counts
empty_taken s c missing empty reply p (turn.Ends x) looks same counts = absurd counts
empty_taken s c missing empty reply p (turn.Fails e) looks same counts =
    let known = looks.taken in
    let short : length looks.chunks ≡ 0 = omega arith in
    let none = none_judged (download_of s).file (download_of s).taken (items looks.array) looks.chunks looks.in_order short in
    (inr (read_steps.too_many (looks.values_are ∙ ap (λ (ts : Items). Ok ts) none) counts.0 counts.1), refl)

pub empty_falls : (c : ClientCursor) (missing empty : ℕ) (r : Turn) → empty < most_empty → CountsEmpty c missing empty r → TurnFalls missing empty r
empty_falls c missing empty (turn.Goes q) room counts = subst (λ (n : ℕ). rank n q.empty < rank missing empty) (sym counts.2) (subst (λ (n : ℕ). rank missing n < rank missing empty) (sym counts.3) (let less = counts.0 in omega arith))
empty_falls c missing empty (turn.Waits q) room counts = tt
empty_falls c missing empty (turn.Ends x) room counts = tt
empty_falls c missing empty (turn.Fails e) room counts = tt

-- ---- a batch with chunks

holds_at : (d : ClientDownload) (missing : ℕ) (reply : List ℕ) (p : ReadPlace) (looks : LooksAt d missing reply p) → BatchHolds reply looks.chunks
holds_at d missing reply p looks = batch_holds d.file d.taken reply looks.array looks.chunks looks.is_array looks.bytes_are looks.in_order

record Begins (documents chunks : List (List ℕ)) : Type 0 where
  first : List ℕ
  more : List (List ℕ)
  these : documents ≡ first ∷ more
  bytes : HaveBytes (first ∷ more)
  long : 0 < length (concat chunks)

begins_by : (documents chunks : List (List ℕ)) → HoldChunks documents chunks → (length chunks ≡ 0 → ⊥) → Begins documents chunks
begins_by [] chunks h full = absurd (full (sym (ap (length {A = List ℕ}) h.bytes)))
begins_by (x ∷ xs) chunks h full =
    let all = ap (λ (cs : List (List ℕ)). length (concat cs)) h.bytes in
    let parts = length-append (data_in x) (concat (map data_in xs)) in
    let bytes = h.some in
    let here : 0 < length (data_in x) = bytes.0 in
    let long : 0 < length (concat chunks) = omega arith in
    record { first = x; more = xs; these = refl; bytes = h.some; long = long }

full_at : (d : ClientDownload) (missing : ℕ) (reply : List ℕ) (p : ReadPlace) (looks : LooksAt d missing reply p) → (p.taken ≡ d.taken → ⊥) → length looks.chunks ≡ 0 → ⊥
full_at d missing reply p looks other none = other (let known = looks.taken in omega arith)

pub has_chunks : (d : ClientDownload) (missing : ℕ) (reply : List ℕ) (p : ReadPlace) → LooksAt d missing reply p → (p.taken ≡ d.taken → ⊥) → HasChunks reply
has_chunks d missing reply p looks other =
    let h = holds_at d missing reply p looks in
    let b = begins_by h.documents looks.chunks h.hold (full_at d missing reply p looks other) in
    record { first = b.first; more = b.more; there = h.there ∙ ap (λ (ds : List (List ℕ)). Some ds) b.these; bytes = b.bytes }

pub kept_falls : (d : ClientDownload) (missing empty : ℕ) (reply : List ℕ) (p : ReadPlace) → LooksAt d missing reply p → (p.taken ≡ d.taken → ⊥) → 0 < missing → rank p.missing 0 < rank missing empty
kept_falls d missing empty reply p looks other short =
    let h = holds_at d missing reply p looks in
    let long = (begins_by h.documents looks.chunks h.hold (full_at d missing reply p looks other)).long in
    let known = looks.missing_is in
    let less : suc p.missing ≤ missing = omega arith in
    omega arith

same_documents : (a b : List (List ℕ)) → Some a ≡ Some b → a ≡ b
same_documents a b e = cc

-- where some chunks were taken
with_some : (chunks : List (List ℕ)) (c : ClientCursor) (missing empty : ℕ) (d : ClientDownload) → (length chunks ≡ 0 → ⊥) → record d { taken = d.taken + length chunks; ahead = d.ahead ++ concat chunks; doing = reads c (missing - length (concat chunks)) 0 } ≡ with_chunks chunks c missing empty d
with_some [] c missing empty d full = absurd (full refl)
with_some (x ∷ xs) c missing empty d full = refl

pub kept_taken : (s s' : GridFsDownloadStream) (c : ClientCursor) (missing empty : ℕ) (reply : List ℕ) (p : ReadPlace) → LooksAt (download_of s) missing reply p → (p.taken ≡ s.taken → ⊥) → KeepsBatch s s' p.taken reply → TakesBatch c missing empty reply (fetching_of s (reads c missing empty)) (fetching_of s' (reads c p.missing 0))
kept_taken s s' c missing empty reply p looks other keeps =
    let d = download_of s in
    let h = holds_at d missing reply p looks in
    let full = full_at d missing reply p looks other in
    let same = same_documents keeps.documents h.documents (sym keeps.there ∙ h.there) in
    let bytes : map data_in keeps.documents ≡ looks.chunks = ap (map data_in) same ∙ h.hold.bytes in
    let behind : fetching_of s' (reads c p.missing 0) ≡ record d { taken = d.taken + length looks.chunks; ahead = d.ahead ++ concat looks.chunks; doing = reads c (missing - length (concat looks.chunks)) 0 } =
    ap (λ (y : ClientDownload). record y { doing = reads c p.missing 0 }) keeps.behind
    ∙ ap (λ (cs : List (List ℕ)). record d { taken = p.taken; ahead = d.ahead ++ concat cs; doing = reads c p.missing 0 }) bytes
    ∙ ap (λ (n : ℕ). record d { taken = n; ahead = d.ahead ++ concat looks.chunks; doing = reads c p.missing 0 }) looks.taken
    ∙ ap (λ (n : ℕ). record d { taken = d.taken + length looks.chunks; ahead = d.ahead ++ concat looks.chunks; doing = reads c n 0 }) looks.missing_is in
    record {
      array = looks.array;
      is_array = looks.is_array;
      bytes_are = looks.bytes_are;
      chunks = looks.chunks;
      in_order = looks.in_order;
      few = λ none. absurd (full (ap (length {A = List ℕ}) none));
      taken = behind ∙ with_some looks.chunks c missing empty (fetching_of s (reads c missing empty)) full;
      numbered = subst (λ (n : ℕ). n ≤ 2 ^ 31) (sym (ap (λ (y : ClientDownload). y.taken) keeps.behind)) looks.few;
    }

-- ---- a batch that is taken in hand

-- a reply whose documents are there does not break its grammar
pub unbroken : (reply : List ℕ) (documents : List (List ℕ)) (e : Error) → documents_of reply ≡ Some documents → BreaksBatch reply e → ⊥
unfolding documents_of
unbroken reply documents e there (no_batch none why) = let bad : Some documents ≡ None = sym there ∙ ap (option_and_then documents_inside) none in cc
unbroken reply documents e there (bad_item batch at none is) = let bad : Some documents ≡ None = sym there ∙ ap (option_and_then documents_inside) at ∙ none in cc

pub is_later : (reply : List ℕ) (b : BatchBuffer) → HasChunks reply → documents_of reply ≡ Some (behind_of b) → current_of b ≡ None → IsLater b
is_later reply b h is none = record { before = none; first = h.first; more = h.more; some = same_documents (behind_of b) (h.first ∷ h.more) (sym is ∙ h.there); bytes = h.bytes }

pub keeps_batch : (s s' : GridFsDownloadStream) (taken : ℕ) (reply : List ℕ) (b : BatchBuffer) → documents_of reply ≡ Some (behind_of b) → current_of b ≡ None → download_of s' ≡ record (download_of s) { taken = taken; ahead = (download_of s).ahead ++ bytes_in b } → KeepsBatch s s' taken reply
keeps_batch s s' taken reply b is none at = record {
  documents = behind_of b;
  there = is;
  behind = at ∙ ap (λ (l : List ℕ). record (download_of s) { taken = taken; ahead = (download_of s).ahead ++ l }) (bytes_behind b (behind_of b) none refl);
}

-- ---- a batch that is not taken

pub differs_so : (s : GridFsDownloadStream) (c : ClientCursor) (missing empty : ℕ) (reply : List ℕ) (e : Error) → Differs (download_of s) reply e → SpoilsBatch empty reply (fetching_of s (reads c missing empty)) e
differs_so s c missing empty reply e (fetching.no_batch none) = read_steps.no_batch none
differs_so s c missing empty reply e (fetching.differs batch there bad) = read_steps.differs batch there bad

-- ---- what is given

-- as many bytes as there is room for
pub record IsGiven (all before now : List ℕ) (count : ℕ) (left : List ℕ) : Type 0 where
  pub long : length (take (length before) all) ≡ count
  pub left_is : left ≡ drop (length before) all
  pub room_is : now ≡ take (length before) all ++ drop (length (take (length before) all)) before
  pub same_room : length now ≡ length before

as_many : (all : List ℕ) (room count : ℕ) → count ≡ min room (length all) → (take count all ≡ take room all) × (drop count all ≡ drop room all)
as_many all room count is = by_size (leb room (length all)) refl
  where
    by_size : (t : Bool) → leb room (length all) ≡ t → (take count all ≡ take room all) × (drop count all ≡ drop room all)
    by_size true le = let w = leb-true room (length all) le in let same : count ≡ room = omega arith in (ap (λ (n : ℕ). take n all) same, ap (λ (n : ℕ). drop n all) same)
    by_size false le =
        let w = leb-false room (length all) le in
        let past : length all ≤ room = omega arith in
        let full : length all ≤ count = omega arith in
        (take_all count all full ∙ sym (take_all room all past), drop_all count all full ∙ sym (drop_all room all past))

pub is_given : (all before now : List ℕ) (count : ℕ) (left : List ℕ) → count ≡ min (length before) (length all) → now ≡ take count all ++ drop count before → left ≡ drop count all → IsGiven all before now count left
is_given all before now count left is room left_is =
    let m = as_many all (length before) count is in
    let n = length-take (length before) all in
    let long : length (take (length before) all) ≡ count = omega arith in
    let whole = ap (length {A = ℕ}) room ∙ length-append (take count all) (drop count before) in
    let t = length-take count all in
    let d = length-drop count before in
    let same : length now ≡ length before = omega arith in
    record {
      long = long;
      left_is = left_is ∙ m.1;
      room_is = room ∙ ap (λ (l : List ℕ). l ++ drop count before) m.0 ∙ ap (λ (k : ℕ). take (length before) all ++ drop k before) (sym long);
      same_room = same;
    }

-- bytes are left in hand
pub gives_some : (c : ClientCursor) (d d' : ClientDownload) (before now : List ℕ) (count : ℕ) (left : List ℕ) → IsGiven d.ahead before now count left → (left ≡ [] → ⊥) → d' ≡ record d { ahead = left; doing = idle c } → GivesAs c before now d d' (read.Read count)
gives_some c d d' before now count left g full is = (
  take (length before) d.ahead,
  read_steps.goes_on (inl (λ e. full (g.left_is ∙ e))) refl (is ∙ ap (λ (l : List ℕ). record d { ahead = l; doing = idle c }) g.left_is) (ap (λ (n : ℕ). read.Read n) (sym g.long)),
  g.room_is,
)

-- or none
pub gives_last : (c : ClientCursor) (d d' : ClientDownload) (before now : List ℕ) (count : ℕ) (left : List ℕ) (r : ReadPoll) → IsGiven d.ahead before now count left → left ≡ [] → PassesOn c (record d { ahead = left }) count d' r → GivesAs c before now d d' r
gives_last c d d' before now count left r g none (fetching.has_next has is answer) = (
  take (length before) d.ahead,
  read_steps.goes_on (inr has) refl (is ∙ ap (λ (l : List ℕ). record d { ahead = l; doing = idle c }) g.left_is) (answer ∙ ap (λ (n : ℕ). read.Read n) (sym g.long)),
  subst (read_steps.FillsFront before now (take (length before) d.ahead)) (sym answer) g.room_is,
)
gives_last c d d' before now count left r g none (fetching.is_whole over full is answer) = (
  take (length before) d.ahead,
  read_steps.ends (sym g.left_is ∙ none) over full refl is (answer ∙ ap (λ (n : ℕ). read.Read n) (sym g.long)),
  subst (read_steps.FillsFront before now (take (length before) d.ahead)) (sym answer) g.room_is,
)
gives_last c d d' before now count left r g none (fetching.other_count over other is answer) = ([], read_steps.miscounts (sym g.left_is ∙ none) over other refl is answer, subst (read_steps.FillsFront before now []) (sym answer) g.same_room)

-- what it does beside does not matter
pub gives_at : (room : ℕ) (c : ClientCursor) (d d' : ClientDownload) (doing : Doing) (given : List ℕ) (r : ReadPoll) → HandsOut room c d d' given r → HandsOut room c (record d { doing = doing }) d' given r
gives_at room c d d' doing given r (read_steps.goes_on more these there answer) = read_steps.goes_on more these there answer
gives_at room c d d' doing given r (read_steps.ends none over full these there answer) = read_steps.ends none over full these there answer
gives_at room c d d' doing given r (read_steps.miscounts none over other no_bytes there answer) = read_steps.miscounts none over other no_bytes there answer

as_given : (m m' : Moment) (ticket : Option ℕ) (d d' : ClientDownload) (r q : ReadPoll) → d' ≡ d → r ≡ q → LinkKeeps m m' ticket (download_ticket d) (read_ending q) → LinkKeeps m m' ticket (download_ticket d') (read_ending r)
as_given m m' ticket d d' r q is answer k = subst (λ (x : ReadPoll). LinkKeeps m m' ticket (download_ticket d') (read_ending x)) (sym answer) (subst (λ (x : ClientDownload). LinkKeeps m m' ticket (download_ticket x) (read_ending q)) (sym is) k)

pub gives_keep : (m m' : Moment) (ticket : Option ℕ) (room : ℕ) (c : ClientCursor) (d d' : ClientDownload) (given : List ℕ) (r : ReadPoll) → c.doing ≡ client.rests → HandsOut room c d d' given r → LinkKeeps m m' ticket (client_ticket c) finished → LinkKeeps m m' ticket (download_ticket d') (read_ending r)
gives_keep m m' ticket room c d d' given r rests (read_steps.goes_on more these there answer) k = as_given m m' ticket (record d { ahead = drop room d.ahead; doing = idle c }) d' r (read.Read (length given)) there answer k
gives_keep m m' ticket room c d d' given r rests (read_steps.ends none over full these there answer) k =
    as_given m m' ticket (ended_at d) d' r (read.Read (length given)) there answer (keeps_to m m' ticket (client_ticket c) None finished (rests_ticket c rests) k)
gives_keep m m' ticket room c d d' given r rests (read_steps.miscounts none over other no_bytes there answer) k =
    as_given m m' ticket (spoiled_at d) d' r (read.Failed (missing_chunk d.taken)) there answer
    (failing m m' ticket None (missing_chunk d.taken) (missing_not_io d.taken (missing_chunk d.taken) refl) (keeps_to m m' ticket (client_ticket c) None finished (rests_ticket c rests) k))
