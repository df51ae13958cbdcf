-- By which command a download listed the chunks that it was given, and which stood there.
use Rattle.std.proofs.Common.{◌≡◌, ◌⊎◌, ◌++◌, ℕ, suc, ℤ, Bool, true, false, List, [], take, Option, Some, refl, sym, ap, ◌∙◌, subst, inl, inr, append-nil, append_assoc}
use Rattle.std.specs.Prelude.{slice_get}
use Rattle.mg_bson.specs.Tree.{Fields}
use Rattle.mg_server.specs.Calls.{Keeps}
use Rattle.mg_server.specs.Commands.{asked, asks_query}
use Rattle.mg_server.specs.Files.{Bucket, chunks_space, file_of}
use Rattle.mg_server.specs.History.{state_of}
use Rattle.mg_link.specs.Link.{Awaited, LogTold}
use Rattle.mg_link.specs.Log.{Call}
use Rattle.mg_server.specs.Query.{Query}
use Rattle.mg_server.proofs.Owners.{same_some}
use Rattle.mg_cursor.specs.Client.{ClientCursor}
use Rattle.mg_cursor.specs.Reading.{in_reply, reader_in}
use Rattle.mg_records.specs.FileRecords.{FileRecord}
use Rattle.mg_gridfs.specs.Downloaded.{AreReceived, HasAll, IsFront, KnowsBy, KnowsChunks, chunks_query}
use Rattle.mg_gridfs.specs.Downloads.{ClientDownload, Doing, ended, idle, reads, spoiled}
use Rattle.mg_gridfs.specs.Reads as steps
use Rattle.mg_gridfs.specs.Reads.{Reads}
use Rattle.mg_gridfs.specs.declared.polls.ReadPoll.{ReadPoll}
use Rattle.mg_gridfs.specs.declared.polls.ReadPoll.TheVariants as read
use Rattle.mg_gridfs.proofs.Fronts.{front_known, front_opened}
use Rattle.mg_players.specs.Files.{AllHold, FirstHold, ListsSo}
use Rattle.mg_players.specs.Reading.{AsksFor, EndsAsListed}
use Rattle.mg_players.proofs.GetListing.{chunks_are}
use Rattle.mg_players.proofs.GetSending.{IsNewDownload, has_none, lists_some}

-- ---- the command

-- a later log has the same command there
asks_on : (calls calls' : List Call) → Keeps calls calls' → (place : ℕ) (q : Query) → AsksFor calls place q → AsksFor calls' place q
asks_on calls calls' keeps place q a = let kept = keeps place a.call a.there in record { call = kept.0; there = kept.1; asks = ap asked kept.2 ∙ a.asks }

-- the find that opened a cursor asked for the chunks
asked_by : (awaited : Awaited) (calls : List Call) (b : Bucket) (d : ClientDownload) (bytes : List ℕ) (c : ClientCursor) (place listed : ℕ) → KnowsChunks awaited calls b d bytes c place listed → AsksFor calls listed (chunks_query (chunks_space b) d.file.id)
asked_by awaited calls b d bytes c place listed k = record {
  call = k.knows.opened.call;
  there = subst (λ (n : ℕ). slice_get calls n ≡ Some k.knows.opened.call) k.asked_at k.knows.opened.found;
  asks = subst (λ (q : Query). asked k.knows.opened.call.command ≡ asks_query q) k.queries k.knows.opened.queries;
}

-- what was told of it is so in a later log
pub ends_later : (calls calls' : List Call) → Keeps calls calls' → (b : Bucket) (d : ClientDownload) (bytes : List ℕ) (at : Option ℕ) → EndsAsListed calls b d bytes at → EndsAsListed calls' b d bytes at
ends_later calls calls' keeps b d bytes at e over = elim (e over) [
  | inl none ↦ inl none
  | inr x ↦ inr (x.0, x.1, asks_on calls calls' keeps x.0 (chunks_query (chunks_space b) d.file.id) x.2)
]

-- a new download that has ended is of a file without bytes
pub new_ends : (calls : List Call) (b : Bucket) (d : ClientDownload) (bytes : List ℕ) (at : Option ℕ) → IsNewDownload d → bytes ≡ [] → EndsAsListed calls b d bytes at
new_ends calls b d bytes at (lists_some f count out reply with is) none over = absurd (let bad = sym (ap (λ (x : ClientDownload). x.doing) is) ∙ over in cc)
new_ends calls b d bytes at (has_none f empty is) none over = inl (ap (λ (x : ClientDownload). x.file.length) is ∙ empty, none)

-- ---- a read

module _ (old new : Awaited) (log log' : LogTold) (wire : ℤ) (room : ℕ) (d d' : ClientDownload) (given : List ℕ) (r : ReadPoll) where
  -- one that had ended gives nothing
  over_gives : d.doing ≡ ended → Reads old new log log' wire room d d' given r → r ≡ read.Read 0
  over_gives over (steps.no_room none h) = h.answer
  over_gives over (steps.is_over some so h) = h.answer
  over_gives over (steps.in_hand some c at ahead quiet h) = absurd (let bad = sym at ∙ over in cc)
  over_gives over (steps.begins some c at none h) = absurd (let bad = sym at ∙ over in cc)
  over_gives over (steps.goes_on some c missing empty at h) = absurd (let bad = sym at ∙ over in cc)

  -- Behind a poll, where it has ended, its list was asked for as before.
  pub ends_on : (calls calls' : List Call) → Keeps calls calls' → (b : Bucket) (bytes next : List ℕ) (place listed : ℕ) (at : Option ℕ) → at ≡ Some listed → d'.file ≡ d.file → (r ≡ read.Read 0 → next ≡ bytes) → KnowsBy old calls b d bytes place listed d.doing → (d.doing ≡ spoiled → ⊥) → EndsAsListed calls b d bytes at
      → Reads old new log log' wire room d d' given r → EndsAsListed calls' b d' next at
  ends_on calls calls' keeps b bytes next place listed at here file same k fine e reads_so over = by_doing d.doing refl k
    where
      its : ℕ → Type 0
      its n = AsksFor calls' n (chunks_query (chunks_space b) d'.file.id)

      asks_there : (n : ℕ) → AsksFor calls n (chunks_query (chunks_space b) d.file.id) → its n
      asks_there n a = asks_on calls calls' keeps n (chunks_query (chunks_space b) d'.file.id) (subst (λ (f : FileRecord). AsksFor calls n (chunks_query (chunks_space b) f.id)) (sym file) a)

      by_doing : (x : Doing) → d.doing ≡ x → KnowsBy old calls b d bytes place listed x → ((d'.file.length ≡ 0) × (next ≡ [])) ⊎ ((n : ℕ) × (at ≡ Some n) × its n)
      by_doing (idle c) is k = inr (listed, here, asks_there listed (asked_by old calls b d bytes c place listed k))
      by_doing (reads c missing empty) is k = inr (listed, here, asks_there listed (asked_by old calls b d bytes c place listed k))
      by_doing ended is k = elim (e is) [
        | inl none ↦ inl (ap (λ (f : FileRecord). f.length) file ∙ none.0, same (over_gives is reads_so) ∙ none.1)
        | inr x ↦ inr (x.0, x.1, asks_there x.0 x.2)
      ]
      by_doing spoiled is k = absurd (fine is)

-- ---- the chunks that stood

-- these documents are the first of them, or all
record StoodAs (stood documents : List Fields) (whole : Bool) : Type 0 where
  left : List Fields
  cut : stood ≡ documents ++ left
  none_left : whole ≡ true → left ≡ []

lists_so : (calls : List Call) (b : Bucket) (file : FileRecord) (listed : ℕ) (documents : List Fields) (whole : Bool) (f : IsFront calls (chunks_query (chunks_space b) file.id) documents whole) → f.place ≡ listed → AsksFor calls listed (chunks_query (chunks_space b) file.id)
    → (So : List Fields → Type 0) → ((stood : List Fields) → StoodAs stood documents whole → So stood) → ListsSo calls b file listed So
lists_so calls b file listed documents whole f is a So so = record {
  asked_so = a;
  each = λ history legal stands.
      let x = f.each history legal stands in
      let same : f.call ≡ a.call = same_some f.call a.call (sym f.found ∙ ap (slice_get calls) is ∙ a.there) in
      let cut = chunks_are (state_of (take (suc x.0) history)) b file.id (documents ++ x.2) x.3 in
      (x.0, ap (λ (y : Call). y.position) (sym same) ∙ x.1, so (file_of (state_of (take (suc x.0) history)) b file.id).chunks (record { left = x.2; cut = cut; none_left = x.4 }));
}

module _ (awaited : Awaited) (calls : List Call) (b : Bucket) (d : ClientDownload) (bytes : List ℕ) (place listed : ℕ) where
  -- the first hold what was given, and what is ahead
  by_cursor : (c : ClientCursor) → KnowsChunks awaited calls b d bytes c place listed → ListsSo calls b d.file listed (FirstHold d.file (bytes ++ d.ahead))
  by_cursor c k =
      lists_so calls b d.file listed (k.reader.given ++ ([] ++ in_reply c.doing)) false fronted.0 (fronted.1 ∙ k.asked_at) (asked_by awaited calls b d bytes c place listed k) (FirstHold d.file (bytes ++ d.ahead))
      (λ stood s. record { chunks = k.chunks; documents = k.reader.given; left = ([] ++ in_reply c.doing) ++ s.left; cut = s.cut ∙ append_assoc k.reader.given ([] ++ in_reply c.doing) s.left; received = k.received; together = k.parts })
    where
      fronted : (g : IsFront calls (chunks_query (chunks_space b) d.file.id) (k.reader.given ++ ([] ++ in_reply c.doing)) false) × (g.place ≡ k.reader.opened)
      fronted = subst (λ (q : Query). (g : IsFront calls q (k.reader.given ++ ([] ++ in_reply c.doing)) false) × (g.place ≡ k.reader.opened)) k.queries (
        front_known calls (reader_in awaited c k.reader) (k.reader.given ++ ([] ++ in_reply c.doing)) k.knows k.none_lost refl,
        front_opened calls (reader_in awaited c k.reader) (k.reader.given ++ ([] ++ in_reply c.doing)) k.knows k.none_lost refl,
      )

  -- all of them hold what was given
  by_all : HasAll calls b d bytes place listed → AsksFor calls listed (chunks_query (chunks_space b) d.file.id) → ListsSo calls b d.file listed (AllHold d.file bytes)
  by_all h a =
      lists_so calls b d.file listed h.documents true h.front h.asked_at a (AllHold d.file bytes)
      (λ stood s.
      let these : h.documents ≡ stood = sym (s.cut ∙ ap (λ (l : List Fields). h.documents ++ l) (s.none_left refl) ∙ append-nil h.documents) in
      record { chunks = h.chunks; received = subst (AreReceived d.file 0 h.chunks) these h.received; counted = h.counted; together = h.parts })

  -- where nothing is ahead
  none_ahead : d.ahead ≡ [] → bytes ≡ bytes ++ d.ahead
  none_ahead none = sym (append-nil bytes) ∙ ap (λ (l : List ℕ). bytes ++ l) (sym none)

  -- what holds all holds the first
  all_first : d.ahead ≡ [] → (stood : List Fields) → AllHold d.file bytes stood → FirstHold d.file (bytes ++ d.ahead) stood
  all_first none stood a = record { chunks = a.chunks; documents = stood; left = []; cut = sym (append-nil stood); received = a.received; together = a.together ∙ none_ahead none }

  -- its chunks are told by what is known of it: it has none, or they were listed
  pub ended_lists : KnowsBy awaited calls b d bytes place listed ended → d.doing ≡ ended → EndsAsListed calls b d bytes (Some listed) → ((d.file.length ≡ 0) × (bytes ≡ [])) ⊎ ListsSo calls b d.file listed (AllHold d.file bytes)
  ended_lists (inl none) over e = inl (none.no_length, none.none_read)
  ended_lists (inr all) over e = elim (e over) [
    | inl none ↦ inl none
    | inr x ↦ inr (by_all all (subst (λ (n : ℕ). AsksFor calls n (chunks_query (chunks_space b) d.file.id)) (same_some x.0 listed (sym x.1)) x.2))
  ]

  ended_ahead : KnowsBy awaited calls b d bytes place listed ended → d.ahead ≡ []
  ended_ahead (inl none) = none.none_ahead
  ended_ahead (inr all) = all.none_ahead

  pub front_lists : (x : Doing) → d.doing ≡ x → (d.doing ≡ spoiled → ⊥) → KnowsBy awaited calls b d bytes place listed x → EndsAsListed calls b d bytes (Some listed) → ((d.file.length ≡ 0) × (bytes ++ d.ahead ≡ [])) ⊎ ListsSo calls b d.file listed (FirstHold d.file (bytes ++ d.ahead))
  front_lists (idle c) is fine k e = inr (by_cursor c k)
  front_lists (reads c missing empty) is fine k e = inr (by_cursor c k)
  front_lists ended is fine k e =
      let none : d.ahead ≡ [] = ended_ahead k in
      elim (ended_lists k is e) [
        | inl empty ↦ inl (empty.0, sym (none_ahead none) ∙ empty.1)
        | inr l ↦ inr (record { asked_so = l.asked_so; each = λ history legal stands. let x = l.each history legal stands in (x.0, x.1, all_first none (file_of (state_of (take (suc x.0) history)) b d.file.id).chunks x.2) })
      ]
  front_lists spoiled is fine k e = absurd (fine is)
