-- What a download knows behind a poll of a read.
use Rattle.std.proofs.Common.{◌≡◌, ◌⊎◌, ◌<◌, ◌++◌, ℕ, ℤ, pos, Bool, true, false, List, [], ◌∷◌, length, take, drop, Some, Ok, refl, sym, ap, ◌∙◌, subst, inl, inr, arith, append_assoc, append-nil, take-append-drop}
use Rattle.std.specs.Ordering.{int_eq}
use Rattle.std.specs.List.{concat}
use Rattle.std.proofs.lemmas.Bool.Decides.{Decides-int_eq}
use Rattle.std.proofs.lemmas.List.{take_at}
use Rattle.mg_bson.specs.Tree.{Tree}
use Rattle.mg_server.specs.Files.{Bucket, chunks_space, files_space}
use Rattle.mg_link.specs.Link.{Awaited, LogTold}
use Rattle.mg_link.specs.Log.{Call}
use Rattle.mg_server.specs.Owner.{Onward, Owner, Passes, nobody}
use Rattle.mg_server.specs.Query.{Query}
use Rattle.mg_server.proofs.Apart.{holds_nobody, passes_here, passes_on, passes_same}
use Rattle.mg_server.proofs.Owners.{same_some}
use Rattle.mg_server.proofs.Readers.{reader_kept}
use Rattle.mg_cursor.specs.Client as client
use Rattle.mg_cursor.specs.Client.{ClientCursor, HasNext, client_ticket}
use Rattle.mg_cursor.specs.Reading.{in_reply, reader_in}
use Rattle.mg_chunks.specs.Sizes.{chunk_count_of}
use Rattle.mg_gridfs.specs.Downloads as downloads
use Rattle.mg_gridfs.specs.Downloads.{ClientDownload, Doing, IsSoundDownload, SoundBy, download_ticket, ended, ended_at, idle, reads, spoiled}
use Rattle.mg_gridfs.specs.DownloadLaws.{DownloadsGoOn}
use Rattle.mg_gridfs.specs.Downloaded.{AfterRead, HasAll, IsFront, KnowsBy, KnowsChunks, KnowsDownload, KnowsRecord, ReadKnows, chunks_query, cursor_owner, doing_owner, record_query}
use Rattle.mg_gridfs.specs.Fetching.{ReadsAs}
use Rattle.mg_gridfs.specs.ReadCauses.{cursor_in}
use Rattle.mg_gridfs.specs.Reads.{Concludes, Fetched, FillsFront, HandsOut, Reads, ReadsNone, enough, fails, waits}
use Rattle.mg_gridfs.specs.Reads as read_steps
use Rattle.mg_gridfs.specs.declared.polls.ReadPoll.{ReadPoll}
use Rattle.mg_gridfs.specs.declared.polls.ReadPoll.TheVariants as read
use Rattle.mg_gridfs.proofs.Downloading.{AfterFetch, FetchKnown, chunks_same, doing_known, fetches_known, fetches_same, owner_same}
use Rattle.mg_gridfs.proofs.Fronts.{all_known, all_opened, front_later, nobody_onward}

-- a cursor without a next that is at rest has ended
has_ended : (c : ClientCursor) → (HasNext c → ⊥) → c.id ≡ pos 0
has_ended c none = by_eq (int_eq c.id (pos 0)) refl
  where
    by_eq : (t : Bool) → int_eq c.id (pos 0) ≡ t → c.id ≡ pos 0
    by_eq true is = (Decides-int_eq c.id (pos 0)).0 is
    by_eq false is = absurd (none (inl (λ e. let both : false ≡ true = sym is ∙ (Decides-int_eq c.id (pos 0)).1 e in cc)))

-- what was read stands at the front of the room
front_of : (before now given : List ℕ) → FillsFront before now given (read.Read (length given)) → take (length given) now ≡ given
front_of before now given fills = ap (take (length given)) fills ∙ take_at given (drop (length given) before) (length given) refl

module _ (awaited : Awaited) (calls : List Call) (at : Bucket) (id : Tree) (listed : ℕ) (d d' : ClientDownload) (bytes before now given : List ℕ) (c : ClientCursor) (room : ℕ) (r : ReadPoll) (of_record : KnowsRecord calls at id d.file) (counted : chunk_count_of d.file.length d.file.chunk_size ≡ Ok d.count) (rests_so : c.doing ≡ client.rests)
    (k : KnowsChunks awaited calls at d bytes c of_record.front.place listed) (fills : FillsFront before now given r) where
  -- what was given and what is left
  parted : given ≡ take room d.ahead → concat k.chunks ≡ (bytes ++ given) ++ drop room d.ahead
  parted is = k.parts ∙ ap (λ (l : List ℕ). bytes ++ l) (sym (take-append-drop room d.ahead)) ∙ sym (append_assoc bytes (take room d.ahead) (drop room d.ahead)) ∙ ap (λ (l : List ℕ). (bytes ++ l) ++ drop room d.ahead) (sym is)

  filled : r ≡ read.Read (length given) → take (length given) now ≡ given
  filled answer = front_of before now given (subst (FillsFront before now given) answer fills)

  as_read : r ≡ read.Read (length given) → KnowsDownload awaited calls at id d' (bytes ++ given) listed → AfterRead awaited calls at id d' bytes listed now r
  as_read answer known =
      subst (λ (x : ReadPoll). AfterRead awaited calls at id d' bytes listed now x) (sym answer) (subst (λ (l : List ℕ). KnowsDownload awaited calls at id d' (bytes ++ l) listed) (sym (filled answer)) known)

  goes_on_known : given ≡ take room d.ahead → d' ≡ record d { ahead = drop room d.ahead; doing = idle c } → KnowsDownload awaited calls at id d' (bytes ++ given) listed
  goes_on_known is there =
      subst (λ (x : ClientDownload). KnowsDownload awaited calls at id x (bytes ++ given) listed) (sym there) (record {
        of_record = of_record;
        by = record {
          named = k.named;
          reader = k.reader;
          later = k.later;
          asked_at = k.asked_at;
          queries = k.queries;
          knows = k.knows;
          none_lost = k.none_lost;
          not_refused = k.not_refused;
          chunks = k.chunks;
          received = k.received;
          taken = k.taken;
          parts = parted is;
        };
      })

  -- the cursor has given all
  all_given : (HasNext c → ⊥) → (g : IsFront calls (chunks_query (chunks_space at) d.file.id) k.reader.given true) × (g.place ≡ k.reader.opened)
  all_given none =
      let these : k.reader.given ++ ([] ++ in_reply c.doing) ≡ k.reader.given = ap (λ x. k.reader.given ++ ([] ++ in_reply x)) rests_so ∙ append-nil k.reader.given in
      let many : k.reader.query.single ≡ false = ap (λ (q : Query). q.single) k.queries in
      subst (λ (q : Query). (g : IsFront calls q k.reader.given true) × (g.place ≡ k.reader.opened)) k.queries (
        all_known calls (reader_in awaited c k.reader) k.reader.given k.knows k.none_lost these many k.not_refused (has_ended c none),
        all_opened calls (reader_in awaited c k.reader) k.reader.given k.knows k.none_lost these many k.not_refused (has_ended c none),
      )

  ended_known : (none : HasNext c → ⊥) → drop room d.ahead ≡ [] → given ≡ take room d.ahead → d.taken ≡ d.count → d' ≡ ended_at d → KnowsDownload awaited calls at id d' (bytes ++ given) listed
  ended_known none nothing_left is full there =
      let all : HasAll calls at (ended_at d) (bytes ++ given) of_record.front.place listed = record {
        chunks = k.chunks;
        documents = k.reader.given;
        front = (all_given none).0;
        later = subst (λ (n : ℕ). of_record.front.place < n) (sym (all_given none).1) k.later;
        asked_at = (all_given none).1 ∙ k.asked_at;
        received = k.received;
        counted = counted ∙ ap (λ (n : ℕ). Ok n) (sym full ∙ k.taken);
        parts = parted is ∙ ap (λ (l : List ℕ). (bytes ++ given) ++ l) nothing_left ∙ append-nil (bytes ++ given);
        none_ahead = refl;
      } in
      subst (λ (x : ClientDownload). KnowsDownload awaited calls at id x (bytes ++ given) listed) (sym there) (record { of_record = of_record; by = inr all })

  abbrev owner_left : Doing → Type 0
  owner_left doing = Passes calls calls (cursor_owner awaited c) (doing_owner awaited doing)

  let_go : Passes calls calls (cursor_owner awaited c) nobody
  let_go = passes_here calls (cursor_owner awaited c) nobody (λ n is. is) (λ x is ne. absurd is) k.knows.owned

  pub gives_known : HandsOut room c d d' given r → Passes calls calls (cursor_owner awaited c) (doing_owner awaited d'.doing) × AfterRead awaited calls at id d' bytes listed now r
  gives_known (read_steps.goes_on more is there answer) = (
    subst (λ (x : ClientDownload). owner_left x.doing) (sym there) (passes_same calls (cursor_owner awaited c) k.knows.owned),
    as_read answer (goes_on_known is there),
  )
  gives_known (read_steps.ends nothing_left none full is there answer) = (subst (λ (x : ClientDownload). owner_left x.doing) (sym there) let_go, as_read answer (ended_known none nothing_left is full there))
  gives_known (read_steps.miscounts nothing_left none other no_bytes there answer) = (
    subst (λ (x : ClientDownload). owner_left x.doing) (sym there) let_go,
    subst (λ (x : ReadPoll). AfterRead awaited calls at id d' bytes listed now x) (sym answer) tt,
  )

-- ---- the record at a later time

-- it is known behind the calls of others, and stands at the same place
pub record_later : (calls calls' : List Call) (o : Owner) (at : Bucket) (id : Tree) (d : ClientDownload) → Onward calls calls' o → (k : KnowsRecord calls at id d.file) → (g : KnowsRecord calls' at id d.file) × (g.front.place ≡ k.front.place)
record_later calls calls' o at id d onward k =
    let f = front_later calls calls' o (record_query (files_space at) id) (k.first ∷ k.more) false onward k.front in
    (record { first = k.first; more = k.more; front = f.0; reads_as = k.reads_as }, f.1)

-- ---- where nothing was sent

module _ (old new : Awaited) (calls : List Call) (at : Bucket) (d : ClientDownload) (bytes : List ℕ) (place listed : ℕ) where
  by_doing : (x : Doing) → ((m : ℕ) → downloads.ticket_by x ≡ Some m → new m ≡ old m) → KnowsBy old calls at d bytes place listed x → KnowsBy new calls at d bytes place listed x
  by_doing (idle c) same k = chunks_same old new calls at d bytes c place listed same k
  by_doing (reads c missing empty) same k = chunks_same old new calls at d bytes c place listed same k
  by_doing ended same k = k
  by_doing spoiled same k = tt

  owned_by : (x : Doing) → ((m : ℕ) → downloads.ticket_by x ≡ Some m → new m ≡ old m) → KnowsBy old calls at d bytes place listed x → Passes calls calls (doing_owner old x) (doing_owner new x)
  owned_by (idle c) same k = subst (λ o. Passes calls calls (cursor_owner old c) o) (sym (owner_same old new c same)) (passes_same calls (cursor_owner old c) k.knows.owned)
  owned_by (reads c missing empty) same k = subst (λ o. Passes calls calls (cursor_owner old c) o) (sym (owner_same old new c same)) (passes_same calls (cursor_owner old c) k.knows.owned)
  owned_by ended same k = passes_same calls nobody (holds_nobody calls)
  owned_by spoiled same k = passes_same calls nobody (holds_nobody calls)

pub download_same : (old new : Awaited) (calls : List Call) (at : Bucket) (id : Tree) (d : ClientDownload) (bytes : List ℕ) (listed : ℕ) → ((m : ℕ) → download_ticket d ≡ Some m → new m ≡ old m) → KnowsDownload old calls at id d bytes listed → KnowsDownload new calls at id d bytes listed
download_same old new calls at id d bytes listed same k = record { of_record = k.of_record; by = by_doing old new calls at d bytes k.of_record.front.place listed d.doing same k.by }

-- ---- while others call

module _ (old new : Awaited) (calls calls' : List Call) (at : Bucket) (d : ClientDownload) (bytes : List ℕ) (place listed : ℕ) where
  pub chunks_later : (c : ClientCursor) → Onward calls calls' (cursor_owner old c) → KnowsChunks old calls at d bytes c place listed → KnowsChunks old calls' at d bytes c place listed
  chunks_later c onward k =
      record {
        named = k.named;
        reader = k.reader;
        later = k.later;
        asked_at = k.asked_at;
        queries = k.queries;
        knows = reader_kept calls calls' (reader_in old c k.reader) onward k.knows;
        none_lost = k.none_lost;
        not_refused = k.not_refused;
        chunks = k.chunks;
        received = k.received;
        taken = k.taken;
        parts = k.parts;
      }

  all_later : HasAll calls at d bytes place listed → Onward calls calls' nobody → HasAll calls' at d bytes place listed
  all_later h onward =
      let f = front_later calls calls' nobody (chunks_query (chunks_space at) d.file.id) h.documents true onward h.front in
      record { chunks = h.chunks; documents = h.documents; front = f.0; later = subst (λ (n : ℕ). place < n) (sym f.1) h.later; asked_at = f.1 ∙ h.asked_at; received = h.received; counted = h.counted; parts = h.parts; none_ahead = h.none_ahead }

  later_by : (x : Doing) → Onward calls calls' (doing_owner old x) → ((m : ℕ) → downloads.ticket_by x ≡ Some m → new m ≡ old m) → KnowsBy old calls at d bytes place listed x → KnowsBy new calls' at d bytes place listed x
  later_by (idle c) onward same k = chunks_same old new calls' at d bytes c place listed same (chunks_later c onward k)
  later_by (reads c missing empty) onward same k = chunks_same old new calls' at d bytes c place listed same (chunks_later c onward k)
  later_by ended onward same (inl none) = inl none
  later_by ended onward same (inr all) = inr (all_later all onward)
  later_by spoiled onward same k = tt

pub downloads_go_on : DownloadsGoOn
downloads_go_on old new calls calls' at id d bytes listed onward same k =
    let r = record_later calls calls' (doing_owner old d.doing) at id d onward k.of_record in
    record { of_record = r.0; by = subst (λ (p : ℕ). KnowsBy new calls' at d bytes p listed d.doing) (sym r.1) (later_by old new calls calls' at d bytes k.of_record.front.place listed d.doing onward same k.by) }

-- ---- a poll

module _ (old new : Awaited) (log log' : LogTold) (wire : ℤ) (at : Bucket) (d d' : ClientDownload) (before now given : List ℕ) (r : ReadPoll) (sound : IsSoundDownload d) (fills : FillsFront before now given r) (calls : List Call) (told : log ≡ Some calls) (id : Tree) (bytes : List ℕ) (listed : ℕ) (k : KnowsDownload old calls at id d bytes listed) where
  abbrev Known : Type 0
  Known = (calls' : List Call) × (log' ≡ Some calls') × Passes calls calls' (doing_owner old d.doing) (doing_owner new d'.doing) × AfterRead new calls' at id d' bytes listed now r

  none_known : ReadsNone old new log log' d d' given r → Known
  none_known h =
      let same : (m : ℕ) → download_ticket d ≡ Some m → new m ≡ old m = λ m held. h.quiet.rest m in
      let known = download_same old new calls at id d bytes listed same k in (
        calls,
        h.quiet.log_same ∙ told,
        subst (λ (x : ClientDownload). Passes calls calls (doing_owner old d.doing) (doing_owner new x.doing)) (sym h.same) (owned_by old new calls at d bytes k.of_record.front.place listed d.doing same k.by),
        subst (λ (x : ReadPoll). AfterRead new calls at id d' bytes listed now x) (sym h.answer) (subst (λ (x : ClientDownload). KnowsDownload new calls at id x (bytes ++ []) listed) (sym h.same) (subst (λ (l : List ℕ). KnowsDownload new calls at id d l listed) (sym (append-nil bytes)) known)),
      )

  -- behind its batches
  concluded : (room : ℕ) (c : ClientCursor) (left : ClientDownload) (f : Fetched) → d.doing ≡ idle c ⊎ ((m : ℕ) × (e : ℕ) × (d.doing ≡ reads c m e)) → left.file ≡ d.file → left.count ≡ d.count → FetchKnown calls log' old new at left bytes c k.of_record.front.place listed f → Concludes room f left d' given r → Known
  concluded room c left f doing same_file same_count known h = by_end f known.after h
    where
      from : Passes calls known.calls' (doing_owner old d.doing) (doing_owner new left.doing)
      from = elim doing [
        | inl is ↦ subst (λ (x : Doing). Passes calls known.calls' (doing_owner old x) (doing_owner new left.doing)) (sym is) known.passes
        | inr is ↦ subst (λ (x : Doing). Passes calls known.calls' (doing_owner old x) (doing_owner new left.doing)) (sym is.2) known.passes
      ]

      record_now : (g : KnowsRecord known.calls' at id left.file) × (g.front.place ≡ k.of_record.front.place)
      record_now =
          let f' = front_later calls known.calls' nobody (record_query (files_space at) id) (k.of_record.first ∷ k.of_record.more) false (nobody_onward calls known.calls' (cursor_owner old c) (doing_owner new left.doing) known.passes) k.of_record.front in
          (record { first = k.of_record.first; more = k.of_record.more; front = f'.0; reads_as = k.of_record.reads_as ∙ ap Ok (sym same_file) }, f'.1)

      by_end : (g : Fetched) → AfterFetch new known.calls' at left bytes k.of_record.front.place listed g → Concludes room g left d' given r → Known
      by_end waits after ends = (
        known.calls',
        known.told,
        subst (λ (x : ClientDownload). Passes calls known.calls' (doing_owner old d.doing) (doing_owner new x.doing)) (sym ends.0) from,
        subst (λ (x : ReadPoll). AfterRead new known.calls' at id d' bytes listed now x) (sym ends.2) (subst (λ (x : ClientDownload). KnowsDownload new known.calls' at id x bytes listed) (sym ends.0)
            (record { of_record = record_now.0; by = subst (λ (x : Doing). KnowsBy new known.calls' at left bytes record_now.0.front.place listed x) (sym after.3) (subst (λ (p : ℕ). KnowsChunks new known.calls' at left bytes after.0 p listed) (sym record_now.1) after.4) })),
      )
      by_end enough after ends =
          let c' = ends.0 in
          let same : after.0 ≡ c' = same_some after.0 c' (ap cursor_in (sym after.1 ∙ ends.1)) in
          let at_rest = subst (λ (x : ClientCursor). x.doing ≡ client.rests) same after.2 in
          let know = subst (λ (x : ClientCursor). KnowsChunks new known.calls' at left bytes x k.of_record.front.place listed) same after.3 in
          let counted = subst (λ x. chunk_count_of x.length x.chunk_size ≡ Ok left.count) (sym same_file) (sound.sizes.counted ∙ ap Ok (sym same_count)) in
          let g = gives_known new known.calls' at id listed left d' bytes before now given c' room r record_now.0 counted at_rest (subst (λ (p : ℕ). KnowsChunks new known.calls' at left bytes c' p listed) (sym record_now.1) know) fills ends.2 in
          let from_c = subst (λ (x : Doing). Passes calls known.calls' (doing_owner old d.doing) (doing_owner new x)) ends.1 from in
          (known.calls', known.told, passes_on calls known.calls' known.calls' (doing_owner old d.doing) (cursor_owner new c') (doing_owner new d'.doing) from_c g.0, g.1)
      by_end (fails e) after ends = (
        known.calls',
        known.told,
        subst (λ (x : ClientDownload). Passes calls known.calls' (doing_owner old d.doing) (doing_owner new x.doing)) (sym ends.0) from,
        subst (λ (x : ReadPoll). AfterRead new known.calls' at id d' bytes listed now x) (sym ends.2) tt,
      )

  sound_at : (x : Doing) → d.doing ≡ x → SoundBy d x
  sound_at x is = subst (SoundBy d) is sound.by

  known_at : (x : Doing) → d.doing ≡ x → KnowsBy old calls at d bytes k.of_record.front.place listed x
  known_at x is = subst (λ (y : Doing). KnowsBy old calls at d bytes k.of_record.front.place listed y) is k.by

  pub reads_known : (room : ℕ) → Reads old new log log' wire room d d' given r → Known
  reads_known room (read_steps.no_room none h) = none_known h
  reads_known room (read_steps.is_over some over h) = none_known h
  reads_known room (read_steps.in_hand some c is more quiet gives) =
      let s = sound_at (idle c) is in
      let rest : (m : ℕ) → client_ticket c ≡ Some m → new m ≡ old m = λ m held. quiet.rest m in
      let know = chunks_same old new calls at d bytes c k.of_record.front.place listed rest (known_at (idle c) is) in
      let g = gives_known new calls at id listed d d' bytes before now given c room r k.of_record sound.sizes.counted (s.3 more) know fills gives in
      let owner : doing_owner old d.doing ≡ cursor_owner new c = ap (doing_owner old) is ∙ sym (owner_same old new c rest) in
      (calls, quiet.log_same ∙ told, subst (λ o. Passes calls calls o (doing_owner new d'.doing)) (sym owner) g.0, g.1)
  reads_known room (read_steps.begins some c is none fills_so) =
      let s = sound_at (idle c) is in
      let d0 : ClientDownload = record d { doing = reads c room 0 } in
      let know = doing_known old calls at d d0 (reads c room 0) bytes c k.of_record.front.place listed refl (known_at (idle c) is) in
      let f = fetches_known fills_so.batches old new log log' wire at d0 fills_so.left bytes c room 0 k.of_record.front.place listed calls fills_so.fetched refl s.1 (λ e. absurd (omega arith)) know told fills_so.fetches in
      let same = fetches_same fills_so.batches old new log log' wire d0 fills_so.left fills_so.fetched fills_so.fetches in
      concluded room c fills_so.left fills_so.fetched (inl is) same.0 same.1 f fills_so.concludes
  reads_known room (read_steps.goes_on some c missing empty is fills_so) =
      let s = sound_at (reads c missing empty) is in
      let f = fetches_known fills_so.batches old new log log' wire at d fills_so.left bytes c missing empty k.of_record.front.place listed calls fills_so.fetched is s.1.sound s.1.rests_so (known_at (reads c missing empty) is) told fills_so.fetches in
      let same = fetches_same fills_so.batches old new log log' wire d fills_so.left fills_so.fetched fills_so.fetches in
      concluded room c fills_so.left fills_so.fetched (inr (missing, empty, is)) same.0 same.1 f fills_so.concludes

-- as the clause says it
pub read_knows : (old new : Awaited) (log log' : LogTold) (wire : ℤ) (at : Bucket) (d d' : ClientDownload) (before now : List ℕ) (r : ReadPoll) → IsSoundDownload d → ReadsAs old new log log' wire before now d d' r → ReadKnows old new log log' at d d' now r
read_knows old new log log' wire at d d' before now r sound h = λ calls told id bytes listed k. reads_known old new log log' wire at d d' before now h.0 r sound h.2 calls told id bytes listed k (length before) h.1
