-- What an opening of a download knows is known behind each of its polls.
use Rattle.std.proofs.Common.{◌≡◌, ◌⊎◌, ◌<◌, ◌≤◌, ℕ, zero, suc, ℤ, List, [], ◌∷◌, length, Option, Some, None, Ok, option_map, refl, sym, ap, ◌∙◌, subst, inl, inr, arith}
use Rattle.std.specs.Prelude.{negsuc, option_and_then, unwrap_or}
use Rattle.mg_bson.specs.Raw.{fields}
use Rattle.mg_bson.specs.Tree.{Fields, Items, Tree}
use Rattle.mg_server.specs.Commands.{Batch, asked, asks_query, batch_of, documents_in, garbled, opened_by, time_in, told, told_by}
use Rattle.mg_link.specs.Exec.{IsSuccess, Runs, Sending, Stage, first, second, unsent}
use Rattle.mg_server.specs.Files.{Bucket, chunks_space, files_space}
use Rattle.mg_server.specs.Follow.{Reads}
use Rattle.mg_link.specs.Link.{Awaited, SendsNothing, LogTold}
use Rattle.mg_link.specs.Log.{Call}
use Rattle.mg_link.specs.Namespace.{Space, space}
use Rattle.mg_server.specs.Owner.{IsGrown, IsOf, Owner, Passes, nobody}
use Rattle.mg_server.specs.Query.{Query}
use Rattle.mg_server.specs.Reader.{FindingAt, KnowsRead, Reader, finder_at, opened_at, owner_of_reader}
use Rattle.mg_link.specs.declared.action.Step.{Step as Polled}
use Rattle.mg_link.specs.declared.action.Step.TheVariants as came
use Rattle.mg_server.proofs.Apart.{holds_nobody, passes_on, passes_same}
use Rattle.mg_server.proofs.Calls.{success_ran}
use Rattle.mg_server.proofs.Finds as link_finds
use Rattle.mg_server.proofs.Finds.{CameKnown, IsAtOwn, query_ran}
use Rattle.mg_server.proofs.Owners.{same_some}
use Rattle.mg_link.proofs.Places.{get_some, get_within}
use Rattle.mg_options.specs.Fields.{◌⟼◌⨾◌, fields_in, first_unfit, nothing}
use Rattle.mg_options.specs.Shown.{read_concern, selection}
use Rattle.mg_options.proofs.Fitting.{none_unfit, read_concern_fit, selection_fit}
use Rattle.mg_ops.specs.Cursors.{Cursor, OpensWith, cursor_of}
use Rattle.mg_ops.specs.declared.cursor_reply.CursorSpecification.{CursorSpecification}
use Rattle.mg_ops.proofs.Queries.{find_asks}
use Rattle.mg_ops.proofs.Reading.{batch_as, batch_read, named_read}
use Rattle.mg_cursor.specs.Client.{new_client}
use Rattle.mg_cursor.specs.Reading.{batch_documents}
use Rattle.mg_cursor.proofs.Batching.{documents_read}
use Rattle.mg_records.specs.FileRecords.{FileRecord}
use Rattle.mg_gridfs.specs.Buckets.{ClientBucket}
use Rattle.mg_chunks.specs.Filters.{of_file}
use Rattle.mg_gridfs.specs.Commands.{by_id, found_lines, in_order, listed_lines, reading_options}
use Rattle.mg_gridfs.specs.Downloaded.{AfterOpening, IsNamedAt, KnowsChunks, KnowsDownload, KnowsOpening, KnowsRecord, LookingKnown, OpeningKnows, StandsBehind, chunks_query, cursor_owner, looking_owner, opened_owner, record_query}
use Rattle.mg_chunks.specs.Broken.{broken}
use Rattle.mg_gridfs.specs.Downloads.{empty_download, new_download}
use Rattle.mg_gridfs.specs.Findings as finding
use Rattle.mg_gridfs.specs.Findings.{BeginsFind, ClientFinding, FindsOn, GivesFirst, HearsList, HearsRecord, IsSoundFinding, ListsOn, Looking, Opened, Opens, OpensFile, ReadsRecord, SoundIn, broke, fails, finds, is_found, lists, none_found, opened, opens, starts, waits}
use Rattle.mg_gridfs.proofs.Fronts.{front_known, front_opened, nobody_onward}
use Rattle.mg_gridfs.proofs.Given.{record_later}

-- ---- what the commands ask for

-- what is read, and who may be asked, are in their ranges, whatever they are
reads_fit : (b : ClientBucket) → first_unfit ("readConcern" ⟼ read_concern b.reads ⨾ "$readPreference" ⟼ selection b.asks ⨾ nothing) ≡ None
reads_fit b = none_unfit ("readConcern" ⟼ read_concern b.reads ⨾ "$readPreference" ⟼ selection b.asks ⨾ nothing) (read_concern_fit b.reads, (selection_fit b.asks, tt))

module _ (b : ClientBucket) (at : Bucket) (named : IsNamedAt b at) where
  pub found_asks : (id : Tree) (command : List ℕ) → fields command ≡ fields_in (found_lines b id) → asked command ≡ asks_query (record_query (files_space at) id)
  found_asks id command is =
      find_asks command b.files (by_id id) (record (reading_options b) { limit = Some (negsuc 0) }) None named.files (record { known = refl; closes = refl }) (reads_fit b) is
      ∙ ap (λ (s : Space). asks_query (record_query s id)) named.place.files

  pub listed_asks : (id : Tree) (command : List ℕ) → fields command ≡ fields_in (listed_lines b id) → asked command ≡ asks_query (chunks_query (chunks_space at) id)
  listed_asks id command is =
      find_asks command b.chunks (of_file id) (record (reading_options b) { sort = Some in_order }) None named.chunks (record { known = refl; closes = refl }) (reads_fit b) is
      ∙ ap (λ (s : Space). asks_query (chunks_query s id)) named.place.chunks

-- ---- replies

garbled_told : (q : Query) (bytes : List ℕ) → IsSuccess bytes → batch_of (fields bytes) ≡ None → told (asks_query q) bytes ≡ garbled
unfolding told
garbled_told q bytes success none =
    ap (λ v. told_by v (asks_query q) (fields bytes)) success ∙ ap (λ (o : Option Batch). unwrap_or (option_map (opened_by (time_in (fields bytes))) o) garbled) none

-- the reply is read, or no server may give it
pub reads_or_garbled : (q : Query) (bytes : List ℕ) (said : Cursor) (o : Option (List Fields)) (ds : List Fields) → IsSuccess bytes → cursor_of (fields bytes) ≡ Ok said → documents_in said.batch ≡ o → ((x : List Fields) → o ≡ Some x → x ≡ ds) → Reads bytes (batch_as said ds) ⊎ (told (asks_query q) bytes ≡ garbled)
reads_or_garbled q bytes said (Some x) ds success says is these =
    inl (record { success = success; batch_is = batch_read (fields bytes) said says ∙ ap (option_map (batch_as said)) (is ∙ ap Some (these x refl)) })
reads_or_garbled q bytes said None ds success says is these = inr (garbled_told q bytes success (batch_read (fields bytes) said says ∙ ap (option_map (batch_as said)) is))

-- ---- the record

-- the documents of a batch whose first one is this
record StartsWith (ts : Items) (d : Fields) : Type 0 where
  more : List Fields
  these : (x : List Fields) → option_map (λ ds. d ∷ ds) (documents_in ts) ≡ Some x → x ≡ d ∷ more

starts_with : (ts : Items) (d : Fields) → StartsWith ts d
starts_with ts d = by_rest (documents_in ts) refl
  where
    by_rest : (o : Option (List Fields)) → documents_in ts ≡ o → StartsWith ts d
    by_rest (Some ds) is = record { more = ds; these = λ x e. same x (sym e ∙ ap (option_map (λ l. d ∷ l)) is) }
      where
        same : (x : List Fields) → Some x ≡ Some (d ∷ ds) → x ≡ d ∷ ds
        same x e = cc
    by_rest None is = record { more = []; these = λ x e. let bad : Some x ≡ None = sym e ∙ ap (option_map (λ l. d ∷ l)) is in absurd cc }

-- a record that was received is known, and the find that asked for it is the opening's own
pub record_known : (calls calls' : List Call) (o : Owner) (at : Bucket) (id : Tree) (bytes : List ℕ) (f : FileRecord) → IsSuccess bytes → ReadsRecord bytes (Some f) → link_finds.Opens calls calls' (record_query (files_space at) id) o bytes → (k : KnowsRecord calls' at id f) × IsAtOwn calls o k.front.place
record_known calls calls' o at id bytes f success reads_so opens_so = by_first reads_so.first
  where
    q : Query
    q = record_query (files_space at) id

    by_first : GivesFirst reads_so.said.batch (Some f) → (k : KnowsRecord calls' at id f) × IsAtOwn calls o k.front.place
    by_first (none_found nothing is) = absurd cc
    by_first (is_found t ts d g batch_is document record_is is) =
        let start = starts_with ts d in
        let documents : documents_in reads_so.said.batch ≡ option_map (λ ds. d ∷ ds) (documents_in ts)
        = ap documents_in batch_is ∙ ap (option_and_then (λ x. option_map (λ ds. x ∷ ds) (documents_in ts))) document in
        let batch = batch_as reads_so.said (d ∷ start.more) in
        let x = opens_so batch (reads_or_garbled q bytes reads_so.said (option_map (λ ds. d ∷ ds) (documents_in ts)) (d ∷ start.more) success reads_so.says documents start.these) in
        let same : g ≡ f = same_some g f (sym is) in
        let k : KnowsRecord calls' at id f = record {
          first = d;
          more = start.more;
          front = front_known calls' (opened_at q x.0 batch) (d ∷ start.more) x.1 refl refl;
          reads_as = record_is ∙ ap Ok same;
        } in
        (k, subst (IsAtOwn calls o) (sym (front_opened calls' (opened_at q x.0 batch) (d ∷ start.more) x.1 refl refl)) x.3)

-- ---- the chunks

module _ (new : Awaited) (calls calls' : List Call) (o : Owner) (at : Bucket) (bytes : List ℕ) (f : FileRecord) (count place : ℕ) (out : CursorSpecification) (success : IsSuccess bytes) (w : OpensWith None None None bytes out) (opens_so : link_finds.Opens calls calls' (chunks_query (chunks_space at) f.id) o bytes) (order : (n : ℕ) → IsAtOwn calls o n → place < n) where
  abbrev said : Cursor
  said = record { id = out.info.id; space = space out.info.ns; token = out.post_batch_resume_token; batch = w.opens.batch }

  abbrev documents : List Fields
  documents = unwrap_or (documents_in said.batch) []

  opened_so : (n : ℕ) × KnowsRead calls' (opened_at (chunks_query (chunks_space at) f.id) n (batch_as said documents)) × Passes calls calls' o (owner_of_reader (opened_at (chunks_query (chunks_space at) f.id) n (batch_as said documents))) × IsAtOwn calls o n
  opened_so = opens_so (batch_as said documents) (reads_or_garbled (chunks_query (chunks_space at) f.id) bytes said (documents_in said.batch) documents success w.opens.says refl (λ x e. sym (ap (λ (d : Option (List Fields)). unwrap_or d []) e)))

  abbrev base : Reader
  base = opened_at (chunks_query (chunks_space at) f.id) opened_so.0 (batch_as said documents)

  these : documents ≡ batch_documents out.initial_reply
  these = ap (λ (d : Option (List Fields)). unwrap_or d []) (documents_read bytes said w.opens.says) ∙ ap batch_documents (sym w.opens.whole)

  pub list_known : (listed : ℕ) × KnowsChunks new calls' at (new_download f count (new_client out)) [] (new_client out) place listed × Passes calls calls' o (cursor_owner new (new_client out)) × IsAtOwn calls o listed
  list_known = (
    opened_so.0,
    record {
      named = named_read (fields bytes) said w.opens.says;
      reader = base;
      later = order opened_so.0 opened_so.3;
      asked_at = refl;
      queries = refl;
      knows = subst (λ (l : List Fields). KnowsRead calls' (record base { ahead = l })) these opened_so.1;
      none_lost = refl;
      not_refused = refl;
      chunks = [];
      received = tt;
      taken = refl;
      parts = refl;
    },
    opened_so.2,
    opened_so.3,
  )

-- ---- polls

abbrev AfterIt : Awaited → (ℕ → Type 0) → List Call → Bucket → Tree → Opened → Type 0
AfterIt awaited mine calls at id (waits doing) = LookingKnown awaited calls at id doing
AfterIt awaited mine calls at id (opens d) = (listed : ℕ) × KnowsDownload awaited calls at id d [] listed × mine listed
AfterIt awaited mine calls at id (fails e) = Unit {0}

-- the log has grown, others are left alone, and this is known
abbrev Grown : Awaited → (ℕ → Type 0) → List Call → LogTold → Bucket → Tree → Owner → Opened → Type 0
Grown new mine calls log' at id own r = (calls' : List Call) × (log' ≡ Some calls') × Passes calls calls' own (opened_owner new r) × AfterIt new mine calls' at id r

-- the log got no shorter
longer : (calls mid : List Call) → IsGrown calls mid → length calls ≤ length mid
longer calls mid grown = by_length (length calls) refl
  where
    by_length : (n : ℕ) → length calls ≡ n → length calls ≤ length mid
    by_length zero is = omega arith
    by_length (suc m) is =
        let within : m < length calls = omega arith in
        let last = get_some calls m within in
        let kept = grown.keeps m last.0 last.1 in
        let there : m < length mid = get_within mid m kept.0 kept.1 in
        omega arith

-- it stands behind this place
behind_by : (new : Awaited) (p : ℕ) (stage : Stage) → ((n : ℕ) → IsOf (finder_at new stage).coming (Some n) → p < n) → StandsBehind new p stage
behind_by new p unsent h = tt
behind_by new p (first ticket) h = λ n e. h n (inl e)
behind_by new p (second ticket) h = λ n e. h n (inl e)

behind_of : (new : Awaited) (p : ℕ) (stage : Stage) → StandsBehind new p stage → (n : ℕ) → IsOf (finder_at new stage).coming (Some n) → p < n
behind_of new p unsent h n of = absurd of
behind_of new p (first ticket) h n (inl e) = h n e
behind_of new p (first ticket) h n (inr none) = absurd none
behind_of new p (second ticket) h n (inl e) = h n e
behind_of new p (second ticket) h n (inr none) = absurd none

-- the places of the calls that the opening sent meet a condition
module _ (b : ClientBucket) (at : Bucket) (named : IsNamedAt b at) (id : Tree) (wire : ℤ) (mine : ℕ → Type 0) where
  quietly : (old new : Awaited) (log log' : LogTold) (calls : List Call) (r q : Opened) → log ≡ Some calls → SendsNothing old new log log' → r ≡ q → opened_owner new q ≡ nobody → AfterIt new mine calls at id q → Grown new mine calls log' at id nobody r
  quietly old new log log' calls r q told_is none is owner after =
      (calls, none.log_same ∙ told_is, subst (λ (x : Opened). Passes calls calls nobody (opened_owner new x)) (sym is) (subst (λ (x : Owner). Passes calls calls nobody x) (sym owner) (passes_same calls nobody (holds_nobody calls))), subst (AfterIt new mine calls at id) (sym is) after)

  -- the list of chunks is waited for
  lists_known : (old new : Awaited) (log log' : LogTold) (f : FileRecord) (count : ℕ) (s : Sending) (r : Opened) (calls : List Call) → log ≡ Some calls → fields s.command ≡ fields_in (listed_lines b f.id) → (k : KnowsRecord calls at id f) → FindingAt old calls (chunks_query (chunks_space at) f.id) s.stage → StandsBehind old k.front.place s.stage → ((n : ℕ) → IsAtOwn calls (finder_at old s.stage) n → mine n)
      → ListsOn old new log log' wire f count s r → Grown new mine calls log' at id (finder_at old s.stage) r
  lists_known old new log log' f count s r calls told_is command k finding_so stands own on = by_came on.came on.runs on.hears ran.2
    where
      q : Query
      q = chunks_query (chunks_space at) f.id

      ran : (calls' : List Call) × (log' ≡ Some calls') × CameKnown new calls calls' q (finder_at old s.stage) on.came
      ran = query_ran q old new log log' wire s on.came (listed_asks b at named f.id s.command command) on.runs calls told_is finding_so

      order : (n : ℕ) → IsAtOwn calls (finder_at old s.stage) n → k.front.place < n
      order n (inl of) = behind_of old k.front.place s.stage stands n of
      order n (inr later) = let within : k.front.place < length calls = get_within calls k.front.place k.front.call k.front.found in omega arith

      now : (o' : Owner) → Passes calls ran.0 (finder_at old s.stage) o' → (g : KnowsRecord ran.0 at id f) × (g.front.place ≡ k.front.place)
      now o' passes = record_later calls ran.0 nobody at id (empty_download f) (nobody_onward calls ran.0 (finder_at old s.stage) o' passes) k

      by_came : (c : Polled Sending (List ℕ)) → Runs old new log log' wire s c → HearsList f count c r → CameKnown new calls ran.0 q (finder_at old s.stage) c → Grown new mine calls log' at id (finder_at old s.stage) r
      by_came (came.Pending t) runs is h =
          let g = now (finder_at new t.stage) h.1 in
          (ran.0, ran.1, subst (λ (x : Opened). Passes calls ran.0 (finder_at old s.stage) (opened_owner new x)) (sym is) h.1, subst (AfterIt new mine ran.0 at id) (sym is) (g.0, h.0, behind_by new g.0.front.place t.stage (λ n of. subst (λ (p : ℕ). p < n) (sym g.1) (order n (h.2 n of)))))
      by_came (came.Done bytes) runs (opened out w is) h =
          let l = list_known new calls ran.0 (finder_at old s.stage) at bytes f count k.front.place out (success_ran old new log log' wire s bytes runs) w h.1 order in
          let g = now nobody h.0 in (
            ran.0,
            ran.1,
            subst (λ (x : Opened). Passes calls ran.0 (finder_at old s.stage) (opened_owner new x)) (sym is) l.2,
            subst (AfterIt new mine ran.0 at id) (sym is) (l.0, record { of_record = g.0; by = subst (λ (p : ℕ). KnowsChunks new ran.0 at (new_download f count (new_client out)) [] (new_client out) p l.0) (sym g.1) l.1 }, own l.0 l.3),
          )
      by_came (came.Done bytes) runs (broke e why is) h = (ran.0, ran.1, subst (λ (x : Opened). Passes calls ran.0 (finder_at old s.stage) (opened_owner new x)) (sym is) h.0, subst (AfterIt new mine ran.0 at id) (sym is) tt)
      by_came (came.Failed e) runs is h = (ran.0, ran.1, subst (λ (x : Opened). Passes calls ran.0 (finder_at old s.stage) (opened_owner new x)) (sym is) h, subst (AfterIt new mine ran.0 at id) (sym is) tt)

  -- behind the record
  file_known : (old new : Awaited) (log log' : LogTold) (f : FileRecord) (r : Opened) (calls : List Call) → log ≡ Some calls → (k : KnowsRecord calls at id f) → mine k.front.place → ((n : ℕ) → length calls ≤ n → mine n) → OpensFile old new log log' wire b f r → Grown new mine calls log' at id nobody r
  file_known old new log log' f r calls told_is k own later (finding.too_many m many none is) = quietly old new log log' calls r (fails (broken m)) told_is none is refl tt
  file_known old new log log' f r calls told_is k own later (finding.is_empty no_length none is) =
      quietly old new log log' calls r (opens (empty_download f)) told_is none is refl (k.front.place, record { of_record = k; by = inl (record { no_length = no_length; none_read = refl; none_ahead = refl; asked_at = refl }) }, own)
  file_known old new log log' f r calls told_is k own later (finding.not_built some e why none is) = quietly old new log log' calls r (fails e) told_is none is refl tt
  file_known old new log log' f r calls told_is k own later (finding.listed some count counted s new_one on) =
      let g = lists_known old new log log' f count s r calls told_is new_one.command_is k (subst (FindingAt old calls (chunks_query (chunks_space at) f.id)) (sym new_one.new) tt) (subst (StandsBehind old k.front.place) (sym new_one.new) tt)
      (subst (λ (stage : Stage). (n : ℕ) → IsAtOwn calls (finder_at old stage) n → mine n) (sym new_one.new) (λ n at_own. elim at_own [ inl nowhere ↦ absurd nowhere | inr since ↦ later n since ])) on in
      (g.0, g.1, subst (λ (stage : Stage). Passes calls g.0 (finder_at old stage) (opened_owner new r)) new_one.new g.2, g.3)

  heard_known : (old new : Awaited) (log log' : LogTold) (bytes : List ℕ) (r : Opened) (calls : List Call) → log ≡ Some calls → ((f : FileRecord) → ReadsRecord bytes (Some f) → (k : KnowsRecord calls at id f) × mine k.front.place) → ((n : ℕ) → length calls ≤ n → mine n) → HearsRecord old new log log' wire b id bytes r → Grown new mine calls log' at id nobody r
  heard_known old new log log' bytes r calls told_is known later (finding.none_found reads_so e not_there none is) = quietly old new log log' calls r (fails e) told_is none is refl tt
  heard_known old new log log' bytes r calls told_is known later (finding.is_found f reads_so on) = file_known old new log log' f r calls told_is (known f reads_so).0 (known f reads_so).1 later on
  heard_known old new log log' bytes r calls told_is known later (finding.broke e why none is) = quietly old new log log' calls r (fails e) told_is none is refl tt

  -- the record is waited for
  finds_known : (old new : Awaited) (log log' : LogTold) (s : Sending) (r : Opened) (calls : List Call) → log ≡ Some calls → fields s.command ≡ fields_in (found_lines b id) → FindingAt old calls (record_query (files_space at) id) s.stage → ((n : ℕ) → IsAtOwn calls (finder_at old s.stage) n → mine n) → FindsOn old new log log' wire b id s r → Grown new mine calls log' at id (finder_at old s.stage) r
  finds_known old new log log' s r calls told_is command finding_so own (finding.pends still runs is) =
      let x = query_ran (record_query (files_space at) id) old new log log' wire s (came.Pending still) (found_asks b at named id s.command command) runs calls told_is finding_so in
      (x.0, x.1, subst (λ (y : Opened). Passes calls x.0 (finder_at old s.stage) (opened_owner new y)) (sym is) x.2.1, subst (AfterIt new mine x.0 at id) (sym is) x.2.0)
  finds_known old new log log' s r calls told_is command finding_so own (finding.hears between log_between bytes runs on) =
      let x = query_ran (record_query (files_space at) id) old between log log_between wire s (came.Done bytes) (found_asks b at named id s.command command) runs calls told_is finding_so in
      let more = longer calls x.0 (nobody_onward calls x.0 (finder_at old s.stage) nobody x.2.0).grown in
      let known : (f : FileRecord) → ReadsRecord bytes (Some f) → (k : KnowsRecord x.0 at id f) × mine k.front.place
      = λ f reads_so.
      let one = record_known calls x.0 (finder_at old s.stage) at id bytes f (success_ran old between log log_between wire s bytes runs) reads_so x.2.1 in
      (one.0, own one.0.front.place one.1) in
      let g = heard_known between new log_between log' bytes r x.0 x.1 known (λ n since. own n (inr (omega (arith, more, since)))) on in
      (g.0, g.1, passes_on calls x.0 g.0 (finder_at old s.stage) nobody (opened_owner new r) x.2.0 g.2, g.3)
  finds_known old new log log' s r calls told_is command finding_so own (finding.failed e runs is) =
      let x = query_ran (record_query (files_space at) id) old new log log' wire s (came.Failed e) (found_asks b at named id s.command command) runs calls told_is finding_so in
      (x.0, x.1, subst (λ (y : Opened). Passes calls x.0 (finder_at old s.stage) (opened_owner new y)) (sym is) x.2, subst (AfterIt new mine x.0 at id) (sym is) tt)

  begins_known : (old new : Awaited) (log log' : LogTold) (r : Opened) (calls : List Call) → log ≡ Some calls → ((n : ℕ) → IsAtOwn calls nobody n → mine n) → BeginsFind old new log log' wire b id r → Grown new mine calls log' at id nobody r
  begins_known old new log log' r calls told_is own (finding.built s new_one on) =
      let g = finds_known old new log log' s r calls told_is new_one.command_is (subst (FindingAt old calls (record_query (files_space at) id)) (sym new_one.new) tt)
      (subst (λ (stage : Stage). (n : ℕ) → IsAtOwn calls (finder_at old stage) n → mine n) (sym new_one.new) own) on in
      (g.0, g.1, subst (λ (stage : Stage). Passes calls g.0 (finder_at old stage) (opened_owner new r)) new_one.new g.2, g.3)
  begins_known old new log log' r calls told_is own (finding.not_built e why none is) = quietly old new log log' calls r (fails e) told_is none is refl tt

module _ (old new : Awaited) (log log' : LogTold) (wire : ℤ) (at : Bucket) (o : ClientFinding) (r : Opened) (sound : IsSoundFinding o) where
  after_it : (begun calls : List Call) (doing : Looking) → o.doing ≡ doing → (q : Opened) → ((b : ClientBucket) → o.bucket ≡ Some b → IsNamedAt b at) → AfterIt new (IsAtOwn begun (looking_owner old doing)) calls at o.id q → AfterOpening old new (length begun) calls at o q
  after_it begun calls doing is (waits next) placed h = record { placed = placed; by = h }
  after_it begun calls doing is (opens d) placed h = (h.0, h.1, subst (λ (x : Looking). IsAtOwn begun (looking_owner old x) h.0) (sym is) h.2)
  after_it begun calls doing is (fails e) placed h = tt

  -- from where it stands
  from_it : (calls : List Call) (doing : Looking) → o.doing ≡ doing → ((b : ClientBucket) → o.bucket ≡ Some b → IsNamedAt b at) → Grown new (IsAtOwn calls (looking_owner old doing)) calls log' at o.id (looking_owner old doing) r
      → (calls' : List Call) × (log' ≡ Some calls') × Passes calls calls' (looking_owner old o.doing) (opened_owner new r) × AfterOpening old new (length calls) calls' at o r
  from_it calls doing is placed g = (g.0, g.1, subst (λ (d : Looking). Passes calls g.0 (looking_owner old d) (opened_owner new r)) (sym is) g.2, after_it calls g.0 doing is r placed g.3)

  known_at : (calls : List Call) (doing : Looking) → o.doing ≡ doing → KnowsOpening old calls at o → LookingKnown old calls at o.id doing
  known_at calls doing is k = subst (LookingKnown old calls at o.id) is k.by

  sound_at : (b : ClientBucket) (doing : Looking) → o.bucket ≡ Some b → o.doing ≡ doing → SoundIn b o.id doing
  sound_at b doing is there = subst (SoundIn b o.id) there (sound.own b is)

  pub opening_known : Opens old new log log' wire o r → OpeningKnows old new log log' at o r
  opening_known (finding.no_bucket none quiet is) calls told_is k =
      let passes = passes_same calls nobody (holds_nobody calls) in
      from_it calls starts (sound.none none) k.placed (calls, quiet.log_same ∙ told_is, subst (λ (x : Opened). Passes calls calls nobody (opened_owner new x)) (sym is) passes, subst (AfterIt new (IsAtOwn calls nobody) calls at o.id) (sym is) tt)
  opening_known (finding.begins b is there on) calls told_is k = from_it calls starts there k.placed (begins_known b at (k.placed b is) o.id wire (IsAtOwn calls nobody) old new log log' r calls told_is (λ n own. own) on)
  opening_known (finding.finds_on b is s there on) calls told_is k =
      from_it calls (finds s) there k.placed (finds_known b at (k.placed b is) o.id wire (IsAtOwn calls (finder_at old s.stage)) old new log log' s r calls told_is (sound_at b (finds s) is there).command_is (known_at calls (finds s) there k) (λ n own. own) on)
  opening_known (finding.lists_on b is f count s there on) calls told_is k =
      let h = known_at calls (lists f count s) there k in
      from_it calls (lists f count s) there k.placed (lists_known b at (k.placed b is) o.id wire (IsAtOwn calls (finder_at old s.stage)) old new log log' f count s r calls told_is (sound_at b (lists f count s) is there).request.command_is h.0 h.1 h.2 (λ n own. own) on)
