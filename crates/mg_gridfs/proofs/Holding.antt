-- What an upload knows goes on to hold, and what it says of a server.
use Rattle.std.proofs.Common.{◌≡◌, ◌<◌, ℕ, ℤ, pos, Bool, true, false, List, [], ◌∷◌, ◌++◌, length, Option, Some, None, refl, sym, ap, ◌∙◌, subst, inl, inr, arith, append-nil}
use Rattle.std.specs.Prelude.{◌==◌, Err, Ok, codes, if◌then◌else◌, slice_get}
use Rattle.std.proofs.lemmas.Bool.{ne_eqb}
use Rattle.mg_bson.specs.Raw.{fields}
use Rattle.mg_bson.specs.Tree.{Fields, Tree}
use Rattle.mg_server.specs.Calls.{Past, past_of}
use Rattle.mg_server.specs.Commands.{asked, asks_delete, told}
use Rattle.mg_link.specs.Exec.{Sending, Stage, first, second, ticket_at, unsent}
use Rattle.mg_link.specs.Chunks.{chunked}
use Rattle.mg_server.specs.Files.{AreChunks, Bucket, File, IsWhole, file_of, has_value}
use Rattle.mg_server.specs.Filing.{FileAs, Filing, HasDeleted, HasInserted, KnowsFile, OthersLeave, insert_at, part, whole_with}
use Rattle.mg_server.specs.Follow.{CameAs}
use Rattle.mg_server.specs.History.{Step, IsLegal, state_of, told_at}
use Rattle.mg_link.specs.Link.{Awaited}
use Rattle.mg_link.specs.Log.{Call}
use Rattle.mg_server.specs.Owner.{IsOf, Onward, nobody}
use Rattle.mg_server.specs.Standing.{Stands}
use Rattle.mg_server.specs.State.{State}
use Rattle.mg_server.specs.Step.{May}
use Rattle.mg_link.specs.declared.error.Malformed.TheVariants as malformed
use Rattle.mg_server.proofs.Apart.{onward_refl}
use Rattle.mg_server.proofs.Chunking.{removal_elsewhere, removal_leaves, removal_takes}
use Rattle.mg_server.proofs.Filing.{AreOwn, file_begins, file_kept}
use Rattle.mg_server.proofs.Owners.{grown_refl, same_some}
use Rattle.mg_link.proofs.Places.{get_some, get_within}
use Rattle.mg_options.specs.Fields.{fields_in}
use Rattle.mg_records.specs.FileRecords.{FileRecord, file_record_of}
use Rattle.mg_ops.specs.Naming.{IsNamed}
use Rattle.mg_ops.proofs.AskingMore.{asks_to_delete}
use Rattle.mg_gridfs.specs.Buckets.{ClientBucket, IsAt}
use Rattle.mg_chunks.specs.Filters.{of_file}
use Rattle.mg_gridfs.specs.Commands.{deletion_lines, record_document}
use Rattle.mg_gridfs.specs.Laws.{HasPart, IsSettled, RemovesAlone}
use Rattle.mg_gridfs.specs.Storing.{HasStored, KnowsAhead, KnowsBy, KnowsPhase, KnowsUpload}
use Rattle.mg_gridfs.specs.Uploads.{Aim, ClientUpload, Doing, Ending, IsBetween, Phase, SoundBy, begins, busy, checks, close, closed, ends, fills, fresh_upload, idle, inserts, lands, lasts, record_of, records, removes, rests, ticket_by, undoes, upload_ticket}
use Rattle.mg_gridfs.proofs.Polled.{upload_same}
use Rattle.mg_gridfs.proofs.Storing.{joined, no_chunks}

-- ---- at first

pub upload_begins : (awaited : Awaited) (calls : List Call) (wire : ℤ) (at : Bucket) (aim : Aim) → IsAt aim.bucket at → IsNamed aim.bucket.files → IsNamed aim.bucket.chunks → KnowsUpload awaited (past_of [] (length calls) calls wire) at (fresh_upload aim) []
upload_begins awaited calls wire at aim place files chunks =
    let ahead : KnowsAhead awaited (past_of [] (length calls) calls wire) at (fresh_upload aim) [] fills = record {
      stored = [];
      flying = [];
      parts = refl;
      even = omega arith;
      chunks = [];
      coming = [];
      chunks_are = no_chunks 0 aim.size;
      coming_are = no_chunks 0 aim.size;
      its = refl;
      comes = refl;
      knows = file_begins calls wire at aim.id;
    } in
    record { place = place; files = files; chunks = chunks; by = ahead }

-- ---- a later time

module _ (awaited : Awaited) (past past' : Past) (at : Bucket) (u : ClientUpload) (taken : List ℕ) (leads : (filing : Filing) → KnowsFile past at u.aim.id filing → KnowsFile past' at u.aim.id filing) where
  ahead_later : (p : Phase) → KnowsAhead awaited past at u taken p → KnowsAhead awaited past' at u taken p
  ahead_later p k =
      record { stored = k.stored; flying = k.flying; parts = k.parts; even = k.even; chunks = k.chunks; coming = k.coming; chunks_are = k.chunks_are; coming_are = k.coming_are; its = k.its; comes = k.comes; knows = leads _ k.knows }

  phase_later : (p : Phase) → KnowsPhase awaited past at u taken p → KnowsPhase awaited past' at u taken p
  phase_later begins k = ahead_later begins k
  phase_later (checks c) k = ahead_later (checks c) k
  phase_later fills k = ahead_later fills k
  phase_later (inserts s count) k = ahead_later (inserts s count) k
  phase_later (rests moment) k = ahead_later (rests moment) k
  phase_later (lasts s ending) k = ahead_later (lasts s ending) k
  phase_later (ends ending) k = ahead_later (ends ending) k
  phase_later (records s ending) k = ahead_later (records s ending) k
  phase_later (lands flight error) k = leads _ k
  phase_later (undoes error) k = leads _ k
  phase_later (removes s error) k = leads _ k

  doing_later : (d : Doing) → KnowsBy awaited past at u taken d → KnowsBy awaited past' at u taken d
  doing_later idle k = ahead_later fills k
  doing_later (busy call p) k = phase_later p k
  doing_later closed k = tt

  pub upload_later : KnowsUpload awaited past at u taken → KnowsUpload awaited past' at u taken
  upload_later k = record { place = k.place; files = k.files; chunks = k.chunks; by = doing_later u.doing k.by }

-- what it sent in a poll that has ended
pub settled_own : (places places' : List ℕ) (since : ℕ) (calls : List Call) → IsSettled places since (length calls) places' → ((place : ℕ) → IsOf places place → (call : Call) × (slice_get calls place ≡ Some call)) → AreOwn places since calls places'
settled_own places places' since calls settled in_log =
    record {
      stood = λ place is. elim (settled.only place is) [
        | inl old ↦ (inl old, in_log place old)
        | inr new ↦ (inr new.0, get_some calls place new.1)
      ];
      kept = λ place c there own. elim own [
        | inl old ↦ settled.kept place old
        | inr new ↦ settled.added place new (get_within calls place c there)
      ];
    }

pub uploads_settle : (awaited : Awaited) (calls calls' : List Call) (wire : ℤ) (places places' : List ℕ) (at : Bucket) (u : ClientUpload) (taken : List ℕ) → IsSettled places (length calls) (length calls') places' → KnowsUpload awaited (past_of places (length calls) calls' wire) at u taken
    → KnowsUpload awaited (past_of places' (length calls') calls' wire) at u taken
uploads_settle awaited calls calls' wire places places' at u taken settled k =
    upload_later awaited (past_of places (length calls) calls' wire) (past_of places' (length calls') calls' wire) at u taken
    (λ filing file. file_kept places places' (length calls) calls' calls' wire wire at u.aim.id (settled_own places places' (length calls) calls' settled file.in_log) (grown_refl calls') nobody filing (onward_refl calls' nobody) file)
    k

-- calls of others
pub same_own : (places : List ℕ) (calls : List Call) → ((place : ℕ) → IsOf places place → (call : Call) × (slice_get calls place ≡ Some call)) → AreOwn places (length calls) calls places
same_own places calls in_log =
    record {
      stood = λ place is. (inl is, in_log place is);
      kept = λ place c there own. elim own [
        | inl old ↦ old
        | inr later ↦ let lt = get_within calls place c there in absurd (omega arith)
      ];
    }

pub uploads_go_on : (old new : Awaited) (calls calls' : List Call) (wire : ℤ) (places : List ℕ) (at : Bucket) (u : ClientUpload) (taken : List ℕ) → Onward calls calls' nobody → ((m : ℕ) → upload_ticket u ≡ Some m → new m ≡ old m) → KnowsUpload old (past_of places (length calls) calls wire) at u taken
    → KnowsUpload new (past_of places (length calls') calls' wire) at u taken
uploads_go_on old new calls calls' wire places at u taken onward tickets k =
    upload_same old new (past_of places (length calls') calls' wire) at u taken tickets
    (upload_later old (past_of places (length calls) calls wire) (past_of places (length calls') calls' wire) at u taken
    (λ filing file. file_kept places places (length calls) calls calls' wire wire at u.aim.id (same_own places calls file.in_log) onward.grown nobody filing onward file)
    k)

-- ---- what this says of a server

pub idle_has : (awaited : Awaited) (past : Past) (at : Bucket) (u : ClientUpload) (taken : List ℕ) → u.doing ≡ idle → KnowsUpload awaited past at u taken → (history : List Step) → IsLegal history → Stands past.calls history → OthersLeave past history at u.aim.id → HasPart history at u taken
idle_has awaited past at u taken rests_so k history legal stands others =
    let ahead : KnowsAhead awaited past at u taken fills = subst (λ (d : Doing). KnowsBy awaited past at u taken d) rests_so k.by in
    record {
      stored = ahead.stored;
      parts = ahead.parts ∙ ap (λ (l : List ℕ). ahead.stored ++ (l ++ u.behind)) ahead.comes;
      even = ahead.even;
      chunks = ahead.chunks;
      chunks_are = ahead.chunks_are;
      file_is = ahead.knows.each history legal stands others;
    }

pub stored_is_whole : (past : Past) (at : Bucket) (u : ClientUpload) (taken : List ℕ) → HasStored past at u taken → (history : List Step) → IsLegal history → Stands past.calls history → OthersLeave past history at u.aim.id → IsWhole (state_of history) at u.aim.id taken u.aim.size
stored_is_whole past at u taken h history legal stands others =
    let file_is = h.knows.each history legal stands others in
    record {
      record_of = record_of u.aim h.ending;
      alone = ap (λ (f : File). f.records) file_is;
      length_is = ap (λ (n : ℕ). Some (pos n)) h.counts;
      size_is = refl;
      chunks_are = subst (λ (ks : List Fields). AreChunks 0 (chunked u.aim.size taken) ks) (sym (ap (λ (f : File). f.chunks) file_is)) h.chunks_are;
    }

-- where an insert that was sent was taken, the file is as it makes it
sent_file : (awaited : Awaited) (calls : List Call) (history : List Step) (b : Bucket) (id : Tree) (command : List ℕ) (file file' : File) (stage : Stage) → FileAs calls history b id (insert_at awaited command file file' stage) → (ticket : ℕ) → ticket_at stage ≡ Some ticket
    → (position : ℕ) (step : Step) → CameAs calls history (awaited ticket) position step → HasInserted (told (asked command) step.reply) → file_of (state_of history) b id ≡ file'
sent_file awaited calls history b id command file file' unsent h ticket held position step came taken = let bad : None ≡ Some ticket = held in absurd cc
sent_file awaited calls history b id command file file' (first t) h ticket held position step came taken = h position step (subst (λ (n : ℕ). CameAs calls history (awaited n) position step) (sym (same_some t ticket held)) came) taken
sent_file awaited calls history b id command file file' (second t) h ticket held position step came taken = h position step (subst (λ (n : ℕ). CameAs calls history (awaited n) position step) (sym (same_some t ticket held)) came) taken

pub recorded_is_whole : (awaited : Awaited) (past : Past) (at : Bucket) (u : ClientUpload) (taken : List ℕ) → IsBetween u → (sending : Sending) (ending : Ending) → u.doing ≡ busy close (records sending ending) → (ticket : ℕ) → upload_ticket u ≡ Some ticket → KnowsUpload awaited past at u taken
    → (history : List Step) → IsLegal history → Stands past.calls history → OthersLeave past history at u.aim.id → (position : ℕ) (step : Step) → CameAs past.calls history (awaited ticket) position step → HasInserted (told (asked sending.command) step.reply) → IsWhole (state_of history) at u.aim.id taken u.aim.size
recorded_is_whole awaited past at u taken between sending ending doing ticket held k history legal stands others position step came inserted =
    let ahead : KnowsAhead awaited past at u taken (records sending ending) = subst (λ (d : Doing). KnowsBy awaited past at u taken d) doing k.by in
    let none : u.behind ≡ [] = (subst (SoundBy u) doing between.sound.by).1 in
    let all : taken ≡ ahead.stored ++ ahead.flying = ahead.parts ∙ ap (λ (l : List ℕ). ahead.stored ++ (ahead.flying ++ l)) none ∙ ap (λ (l : List ℕ). ahead.stored ++ l) (append-nil ahead.flying) in
    let chunks = ahead.chunks ++ ahead.coming in
    let file_is = sent_file awaited past.calls history at u.aim.id sending.command (part chunks) (whole_with (record_of u.aim ending) chunks) sending.stage (ahead.knows.each history legal stands others) ticket (sym (ap ticket_by doing) ∙ held) position step came inserted in
    record {
      record_of = record_of u.aim ending;
      alone = ap (λ (f : File). f.records) file_is;
      length_is = ap (λ (n : ℕ). Some (pos n)) (ahead.comes.0 ∙ ap length (sym all));
      size_is = refl;
      chunks_are = subst (λ (ks : List Fields). AreChunks 0 (chunked u.aim.size taken) ks) (sym (ap (λ (f : File). f.chunks) file_is))
          (subst (λ (bs : List ℕ). AreChunks 0 (chunked u.aim.size bs) chunks) (sym all) (joined u.sent u.aim.size ahead.stored ahead.flying ahead.chunks ahead.coming between.sound.bounds.size.some ahead.even ahead.chunks_are ahead.coming_are));
    }

pub removals_are_alone : (s : State) (step : Step) (b : ClientBucket) (id : Tree) → IsNamed b.chunks → fields step.command ≡ fields_in (deletion_lines b id) → May s (asked step.command) (told_at step) step.made → HasDeleted (told_at step) → RemovesAlone s step b id
removals_are_alone s step b id named is may told_so =
    let c = has_value (codes "files_id") id in
    let asks : asked step.command ≡ asks_delete b.chunks (c ∷ []) true = asks_to_delete step.command b.chunks (of_file id) (c ∷ []) true b.writes None named refl is in
    let none : Bucket = record { db = []; name = [] } in
    record {
      none_left = removal_takes s step none id may b.chunks c told_so.0 asks told_so.1;
      others = removal_leaves s step none id may b.chunks c told_so.0 asks told_so.1;
      elsewhere = λ space apart_from. removal_elsewhere s step none id may b.chunks space c told_so.0 asks told_so.1 apart_from;
    }

-- ---- the record

-- the record that an upload stores is read as that of its file
pub record_is_read : (id : Tree) (length size : ℕ) (moment : ℤ) (filename : List ℕ) (metadata : Option Fields) → 0 < size
    → file_record_of (record_document id length size moment filename metadata) ≡ Ok (record { id = id; length = length; chunk_size = size; upload_date = moment; filename = Some filename; metadata = metadata })
record_is_read id length size moment filename None some =
    let f : FileRecord = record { id = id; length = length; chunk_size = size; upload_date = moment; filename = Some filename; metadata = None } in
    let sized : (size == 0) ≡ false = ne_eqb size 0 (λ e. omega arith) in
    ap (λ (t : Bool). if t then Err malformed.ChunkSizeZero else Ok f) sized
record_is_read id length size moment filename (Some known) some =
    let f : FileRecord = record { id = id; length = length; chunk_size = size; upload_date = moment; filename = Some filename; metadata = Some known } in
    let sized : (size == 0) ≡ false = ne_eqb size 0 (λ e. omega arith) in
    ap (λ (t : Bool). if t then Err malformed.ChunkSizeZero else Ok f) sized
