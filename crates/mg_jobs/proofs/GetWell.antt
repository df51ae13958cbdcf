-- How a get of a whole file ends where its server holds nothing back.
use Rattle.std.proofs.Common.{◌≡◌, ◌≢◌, ◌⊎◌, ◌<◌, ◌≤◌, ◌+◌, ◌-◌, ◌++◌, ℕ, suc, ℤ, Bool, true, false, List, [], ◌∷◌, length, take, Option, Some, None, Result, Ok, Err, option_map, refl, sym, ap, ◌∙◌, subst, inl, inr, arith, length-append, lt-ltb}
use Rattle.std.specs.Prelude.{◌^◌, if◌then◌else◌, option_and_then, slice_get, unwrap_or}
use Rattle.std.proofs.lemmas.Bool.{ne_eqb}
use Rattle.mg_bson.specs.Find.{as_document}
use Rattle.mg_bson.specs.Raw.{fields}
use Rattle.mg_bson.specs.Reading.{doc}
use Rattle.mg_bson.specs.Tree.{Fields, Items, Tree, item, no_fields, no_items}
use Rattle.mg_server.specs.Calls.{HeardAt, HeardBy, Past, RequestFails, out_of_memory, was_broken, was_lost, was_refused}
use Rattle.mg_link.specs.Namespace.{as_database}
use Rattle.mg_server.specs.Commands.{Batch, asked, asks_more, asks_query, batch_of, documents_in}
use Rattle.mg_link.specs.Exec.{FailsAs, FailsByReply, IsSuccess}
use Rattle.mg_link.specs.Chunks.{chunked}
use Rattle.mg_server.specs.Files.{File, LeavesFile, chunks_space, file_of, files_space}
use Rattle.mg_server.specs.History.{Step, state_of}
use Rattle.mg_link.specs.Link.{Awaited}
use Rattle.mg_link.specs.Log.{Call, Sight, fault, reply}
use Rattle.mg_server.specs.Query.{Query, result}
use Rattle.mg_link.specs.Reply.{verdict_of}
use Rattle.mg_server.specs.State.{State}
use Rattle.mg_link.specs.Session.{Session}
use Rattle.mg_server.specs.Step.{Made, grown}
use Rattle.mg_link.specs.declared.error.Error.{Error}
use Rattle.mg_link.specs.declared.error.ErrorKind.TheVariants as kind
use Rattle.mg_link.specs.declared.error.Malformed.{Malformed}
use Rattle.mg_link.specs.declared.error.Malformed.TheVariants as malformed
use Rattle.mg_link.specs.declared.reply.Verdict.{Verdict}
use Rattle.mg_link.specs.declared.reply.Verdict.TheVariants as verdict
use Rattle.mg_server.proofs.Owners.{same_some}
use Rattle.mg_server.proofs.Pasts.{heard_by}
use Rattle.mg_link.proofs.Places.{get_within}
use Rattle.mg_server.proofs.Files.{quiet_stays}
use Rattle.mg_options.specs.Fields.{Refuses, first_unfit}
use Rattle.mg_ops.specs.Cursors.{Cursor, Manner, cursor_of, next_command}
use Rattle.mg_ops.specs.Failing.{HasBadSize}
use Rattle.mg_ops.specs.Limits.{SizePasses}
use Rattle.mg_ops.proofs.Asking.{asks_for_more}
use Rattle.mg_cursor.specs.Causes.{TellsNoCursor}
use Rattle.mg_cursor.specs.Client.{ClientCursor, get_more}
use Rattle.mg_cursor.specs.Polling.{CannotAsk}
use Rattle.mg_chunks.specs.Sizes.{chunk_count, chunk_count_of, counted}
use Rattle.mg_records.specs.FileRecords.{FileRecord, file_record_of}
use Rattle.mg_chunks.specs.Broken.{Breaks}
use Rattle.mg_gridfs.specs.Commands.{found_lines, listed_lines}
use Rattle.mg_gridfs.specs.Downloaded.{IsPlainAt, chunks_query, record_query}
use Rattle.mg_gridfs.specs.Findings.{BreaksFirst, BreaksRecord, GivesFirst, ReadsRecord, in_batch, is_found, no_cursor, no_document, no_record, none_found}
use Rattle.mg_gridfs.specs.ReadCauses as files
use Rattle.mg_gridfs.specs.ReadCauses.{HeardRecord, TellsNoRecord}
use Rattle.mg_gridfs.proofs.OpeningKnown.{found_asks}
use Rattle.mg_players.specs.Causes as causes
use Rattle.mg_players.specs.Causes.{AllSentIn, AreSentIn, Course, GetCaused, GetFails, SentIn, sent_at}
use Rattle.mg_jobs.specs.Completing.{AnswersWell, EndsWell, IsExcusedGet, StandsWhole, finds_record, gets_more, lists_chunks}
use Rattle.mg_turns.specs.Counts.{Faultless}
use Rattle.mg_players.specs.Files.{IsStepOf}
use Rattle.mg_players.specs.Buckets.{plain_bucket}
use Rattle.mg_players.specs.Gets.{GetTask, IsGetCommand, chunks_find, record_find}
use Rattle.mg_players.specs.Headline.{GetGave}
use Rattle.mg_jobs.specs.Own.{IsHeard, IsOwnCursor}
use Rattle.mg_players.specs.Progress.{GetPlayed}
use Rattle.mg_players.specs.Sends.{SendsOnly}
use Rattle.mg_players.specs.Reading as stops
use Rattle.mg_players.specs.Reading.{AreAmong, IsTold, ListsOther, ReadStops}
use Rattle.mg_script.specs.declared.outcome.Ended.{Ended}
use Rattle.mg_script.specs.declared.outcome.Ended.TheVariants as ended
use Rattle.mg_players.proofs.Batches.{read_as, tells_not}
use Rattle.mg_players.proofs.Creating.{creates}
use Rattle.mg_jobs.proofs.Filed.{all_leave, own_between}
use Rattle.mg_players.proofs.GetBlamed.{record_result}
use Rattle.mg_players.proofs.GetDiffering.{whole_never}
use Rattle.mg_players.proofs.GetJudged.{WholeSays, whole_counts, whole_says}
use Rattle.mg_players.proofs.GetListing.{bucket_is_plain, list_asks, told_named}
use Rattle.mg_players.proofs.GetSteps.{OpensBatch, TookStep, more_gives, prompt_at, query_opens, query_prompt, took}
use Rattle.mg_players.proofs.Naming.{chunks_named}
use Rattle.mg_players.proofs.Prompting.{IsPrompted, lawful, prompt_success}

-- ---- replies

fails_as : (o : Option Fields) (wire : ℤ) (e : Error) → verdict_of (unwrap_or o no_fields) ≡ verdict.Success → FailsByReply o wire e → ⊥
unfolding verdict_of
fails_as (Some said) wire e success fails = subst (λ (v : Verdict). FailsAs v said wire e) success fails
fails_as None wire e success fails = absurd cc

fails_not : (bytes : List ℕ) (wire : ℤ) (e : Error) → IsSuccess bytes → FailsByReply (doc bytes) wire e → ⊥
unfolding fields
fails_not bytes wire e success fails = fails_as (doc bytes) wire e success fails

-- ---- the record

pub grown_reads : (s : State) (made : Made) (q : Query) → result (grown s made) q ≡ result s q
unfolding result grown
grown_reads s made q = refl

-- where one record stands, a batch and what is left are it
only_record : (r : Fields) (events left : List Fields) → r ∷ [] ≡ events ++ left → (events ≡ []) ⊎ (events ≡ r ∷ [])
only_record r [] left is = inl refl
only_record r (d ∷ []) left is = let same : r ≡ d = cc in inr (ap (λ (x : Fields). x ∷ []) (sym same))
only_record r (d ∷ e ∷ ds) left is = absurd cc

-- a batch without documents has no item
none_in : (batch : Items) → documents_in batch ≡ Some [] → batch ≡ no_items
none_in no_items is = refl
none_in (item t ts) is = absurd (never (as_document t) (documents_in ts) is)
  where
    never : (o : Option Fields) (rest : Option (List Fields)) → option_and_then (λ d. option_map (λ ds. d ∷ ds) rest) o ≡ Some [] → ⊥
    never None rest h = cc
    never (Some d) None h = cc
    never (Some d) (Some ds) h = cc

-- the first item of a batch is its first document
first_in : (t : Tree) (ts : Items) (r : Fields) → documents_in (item t ts) ≡ Some (r ∷ []) → as_document t ≡ Some r
first_in t ts r is = by_first (as_document t) (documents_in ts) is
  where
    by_first : (o : Option Fields) (rest : Option (List Fields)) → option_and_then (λ d. option_map (λ ds. d ∷ ds) rest) o ≡ Some (r ∷ []) → o ≡ Some r
    by_first None rest h = absurd cc
    by_first (Some d) None h = absurd cc
    by_first (Some d) (Some ds) h = let same : d ∷ ds ≡ r ∷ [] = same_some (d ∷ ds) (r ∷ []) h in let e : d ≡ r = cc in ap Some e

-- ---- counts

counts_fine : (long size : ℕ) → 0 < size → chunk_count long size < 2 ^ 32 → chunk_count_of long size ≡ Ok (chunk_count long size)
counts_fine long size some few =
    ap (λ (t : Bool). if t then Err malformed.ChunkSizeZero else counted (chunk_count long size)) (ne_eqb size 0 (λ e. omega (arith, some, e)))
    ∙ ap (λ (t : Bool). if t then Ok (chunk_count long size) else Err malformed.TooManyChunks) (lt-ltb (chunk_count long size) (2 ^ 32) few)

breaks_never : {A : Type 0} (r : Result A Malformed) (x : A) (e : Error) → r ≡ Ok x → Breaks r e → ⊥
breaks_never r x e is breaks = subst (λ q. Breaks q e) is breaks

-- ---- commands

pub plain_size : (size : Option ℕ) (e : Error) → size ≡ None → HasBadSize size e → ⊥
plain_size size e is bad = subst SizePasses is bad.1

found_fits : (g : GetTask) (e : Error) → Refuses (first_unfit (found_lines (plain_bucket g.at) g.id)) e → ⊥
found_fits g e refuses = refuses

listed_fits : (g : GetTask) (id : Tree) (e : Error) → Refuses (first_unfit (listed_lines (plain_bucket g.at) id)) e → ⊥
listed_fits g id e refuses = refuses

-- ---- what a get heard

module _ (c : Course) (i : ℕ) (begun calls : List Call) (wire : ℤ) (begun_is : length begun ≡ c.begun) (faultless : Faultless begun calls) (well : AnswersWell c i calls) where
  module _ (places : List ℕ) (sent : AreSentIn c i places) where
    abbrev past : Past
    past = sent_at places calls wire

    own_place : (place : ℕ) (command : Fields) (seen : Sight) → HeardAt past place command seen → (k : ℕ) × SentIn c i k place
    own_place place command seen h =
        elim h.own [
          | inl is ↦ sent place is
          | inr late ↦ let within = get_within calls place h.call h.there in absurd (omega (arith, late, within))
        ]

    never_lost : (command : Fields) → HeardBy past command fault → ⊥
    never_lost command h =
        let own = own_place h.place command fault h.heard in
        let behind = own.1.from in
        let within = get_within begun h.place h.heard.call (faultless h.place h.heard.call h.heard.there h.heard.has_seen) in
        omega (arith, behind, within, begun_is)

    pub hears : (command : Fields) (bytes : List ℕ) → HeardBy past command (reply bytes) → IsHeard c i calls bytes
    hears command bytes h = let own = own_place h.place command (reply bytes) h.heard in record { done = own.0; place = h.place; sent = own.1; call = h.heard.call; there = h.heard.there; has_seen = h.heard.has_seen }

    among : AreAmong past well.own
    among place call position (inl is) there placed = let own = sent place is in well.positions own.0 place call position own.1 there placed
    among place call position (inr late) there placed = let within = get_within calls place call there in absurd (omega (arith, late, within))

    taken : (command : Fields) (bytes : List ℕ) (h : HeardBy past command (reply bytes)) → TookStep well.history command bytes h.heard.call
    taken command bytes h = took past well.history well.stands command bytes h

    abbrev at_once : (command : Fields) (bytes : List ℕ) (h : HeardBy past command (reply bytes)) → IsPrompted (taken command bytes h).step
    at_once command bytes h = prompt_at past well.history well.own well.legal well.prompt among command bytes h (taken command bytes h)

    -- a request of it fails for want of memory alone, where no success of its server's is broken
    request_room : (command : Fields) (retries : Bool) (Broken : List ℕ → Error → Type 0) (e : Error) → ((bytes : List ℕ) → fields bytes ≡ command → creates (asked bytes) ≡ false) → ((bytes : List ℕ) → HeardBy past command (reply bytes) → IsSuccess bytes → Broken bytes e → ⊥) → RequestFails past command retries Broken e → e.kind ≡ kind.OutOfMemory
    request_room command retries Broken e none whole (out_of_memory room) = room
    request_room command retries Broken e none whole (was_lost is heard) = absurd (never_lost command (heard_by past command retries fault heard))
    request_room command retries Broken e none whole (was_refused bytes heard fails) =
        let h = heard_by past command retries (reply bytes) heard in
        let t = taken command bytes h in
        absurd (fails_not bytes wire e (subst IsSuccess (sym t.reply_is) (prompt_success t.step (at_once command bytes h) (none t.step.command t.command_is))) fails)
    request_room command retries Broken e none whole (was_broken bytes heard success broken) = absurd (whole bytes (heard_by past command retries (reply bytes) heard) success broken)

    -- a reply to a query has a batch
    query_step : (command : Fields) (q : Query) → ((bytes : List ℕ) → fields bytes ≡ command → asked bytes ≡ asks_query q) → (bytes : List ℕ) (h : HeardBy past command (reply bytes)) → IsSuccess bytes → OpensBatch (taken command bytes h).step (state_of (take (taken command bytes h).position well.history)) q
    query_step command q asks bytes h success =
        let t = taken command bytes h in
        query_opens t.step (lawful t.step (at_once command bytes h)) (subst IsSuccess t.reply_is success) q (asks t.step.command t.command_is)

    query_tells : (command : Fields) (q : Query) → ((bytes : List ℕ) → fields bytes ≡ command → asked bytes ≡ asks_query q) → (bytes : List ℕ) (h : HeardBy past command (reply bytes)) → IsSuccess bytes → (e : Error) → TellsNoCursor bytes e → ⊥
    query_tells command q asks bytes h success e breaks =
        let o = query_step command q asks bytes h success in
        tells_not bytes o.batch e (ap (λ (b : List ℕ). batch_of (fields b)) (taken command bytes h).reply_is ∙ o.there) breaks

  -- ---- the file

  module _ (g : GetTask) (named : as_database g.at.db ≡ Some g.at.db) (some : 0 < g.read) (bytes : List ℕ) (s : StandsWhole c i calls well.history g bytes) (sends : SendsOnly (IsGetCommand g) c i calls) where
    bucket : IsPlainAt (plain_bucket g.at) g.at
    bucket = bucket_is_plain g (chunks_named g.at named)

    abbrev its_query : Query
    its_query = record_query (files_space g.at) g.id

    find_asks : (bytes : List ℕ) → fields bytes ≡ record_find g → asked bytes ≡ asks_query its_query
    find_asks bytes is = found_asks (plain_bucket g.at) g.at bucket.named g.id bytes is

    listing_asks : (id : Tree) (bytes : List ℕ) → fields bytes ≡ chunks_find g id → asked bytes ≡ asks_query (chunks_query (chunks_space g.at) id)
    listing_asks id bytes is = list_asks g id bytes (chunks_named g.at named) is

    -- nobody touches it while the get takes its steps
    leaves : (position : ℕ) (step : Step) → s.first ≤ position → position < suc s.last → slice_get well.history position ≡ Some step → LeavesFile (state_of (take position well.history)) step g.at g.id
    leaves = all_leave c i calls g sends well.history well.legal well.stands s.first s.last s.is_first s.is_last s.alone

    -- its sizes
    sizes : WholeSays (state_of (take s.first well.history)) g.at g.id bytes s.size s.file
    sizes = whole_says (state_of (take s.first well.history)) g.at g.id bytes s.size s.file s.whole s.read

    counts : chunk_count_of s.file.length s.file.chunk_size ≡ Ok (chunk_count s.file.length s.file.chunk_size)
    counts =
        let cut = whole_counts bytes s.size s.file sizes.length_is sizes.size_is sizes.some in
        let many : length (chunked s.size bytes) ≡ chunk_count s.file.length s.file.chunk_size = cut.count ∙ ap (λ (n : ℕ). chunk_count n s.size) sizes.length_is ∙ ap (λ (n : ℕ). chunk_count s.file.length n) sizes.size_is in
        counts_fine s.file.length s.file.chunk_size sizes.some (subst (λ (n : ℕ). n < 2 ^ 32) many s.few)

    -- ---- its opening

    module _ (places : List ℕ) (sent : AreSentIn c i places) where
      abbrev seen : Past
      seen = sent_at places calls wire

      -- the record that stands there as the find takes effect
      record Stood (reply_bytes : List ℕ) : Type 0 where
        batch : Batch
        there : batch_of (fields reply_bytes) ≡ Some batch
        only : (batch.events ≡ []) ⊎ (batch.events ≡ s.whole.record_of ∷ [])
        any : batch.events ≢ []

      stood : (reply_bytes : List ℕ) (h : HeardBy seen (record_find g) (reply reply_bytes)) → IsSuccess reply_bytes → Stood reply_bytes
      stood reply_bytes h success =
          let t = taken places sent (record_find g) reply_bytes h in
          let p = at_once places sent (record_find g) reply_bytes h in
          let o = query_opens t.step (lawful t.step p) (subst IsSuccess t.reply_is success) its_query (find_asks t.step.command t.command_is) in
          let own = own_place places sent h.place (record_find g) (reply reply_bytes) h.heard in
          let is_step : IsStepOf c i calls t.position = record { done = own.0; place = h.place; sent = own.1; call = h.heard.call; there = h.heard.there; placed = t.placed } in
          let low = s.is_first.first t.position is_step in
          let high = s.is_last.last t.position is_step in
          let within = get_within well.history t.position t.step t.there in
          let n : ℕ = t.position - s.first in
          let all : s.first + n ≡ t.position = omega (arith, low) in
          let same : file_of (state_of (take t.position well.history)) g.at g.id ≡ file_of (state_of (take s.first well.history)) g.at g.id
          = subst (λ (m : ℕ). file_of (state_of (take m well.history)) g.at g.id ≡ file_of (state_of (take s.first well.history)) g.at g.id) all
          (quiet_stays well.history g.at g.id s.first n (omega (arith, all, within)) (λ q step lower higher found. leaves q step lower (omega (arith, all, high, higher)) found)) in
          let reads : result (state_of (take t.position well.history)) its_query ≡ Some (o.batch.events ++ o.left) = sym (grown_reads (state_of (take t.position well.history)) t.step.made its_query) ∙ o.these in
          let one : s.whole.record_of ∷ [] ≡ o.batch.events ++ o.left
          = ap (take 1) (sym s.whole.alone) ∙ ap (λ (f : File). take 1 f.records) (sym same) ∙ record_result (state_of (take t.position well.history)) g.at g.id (o.batch.events ++ o.left) reads in
          let back = query_prompt t.step p its_query (find_asks t.step.command t.command_is) o in
          record {
            batch = o.batch;
            there = ap (λ (b : List ℕ). batch_of (fields b)) t.reply_is ∙ o.there;
            only = only_record s.whole.record_of o.batch.events o.left one;
            any = λ none. let left_none : o.left ≡ [] = back.some (λ bad. cc) none in let bad : s.whole.record_of ∷ [] ≡ [] = one ∙ ap (λ (l : List Fields). l ++ o.left) none ∙ left_none in cc;
          }

      -- the documents of its batch
      stood_items : (reply_bytes : List ℕ) (x : Stood reply_bytes) (said : Cursor) → cursor_of (fields reply_bytes) ≡ Ok said → documents_in said.batch ≡ Some (s.whole.record_of ∷ [])
      stood_items reply_bytes x said says =
          let r = read_as (fields reply_bytes) x.batch x.there in
          let same : r.it ≡ said = same_ok r.it said (sym r.says ∙ says) in
          ap (λ (y : Cursor). documents_in y.batch) (sym same) ∙ r.documents_are ∙ ap (λ (l : List Fields). Some l) (elim x.only [ inl none ↦ absurd (x.any none) | inr is ↦ is ])
        where
          same_ok : (y z : Cursor) → ◌≡◌ {A = Result Cursor Malformed} (Ok y) (Ok z) → y ≡ z
          same_ok y z e = cc

      never_none : (reply_bytes : List ℕ) → HeardBy seen (record_find g) (reply reply_bytes) → IsSuccess reply_bytes → ReadsRecord reply_bytes None → ⊥
      never_none reply_bytes h success r = by_first r.first (stood_items reply_bytes (stood reply_bytes h success) r.said r.says)
        where
          by_first : GivesFirst r.said.batch None → documents_in r.said.batch ≡ Some (s.whole.record_of ∷ []) → ⊥
          by_first (none_found none is) items_are = let bad : Some [] ≡ Some (s.whole.record_of ∷ []) = sym (ap documents_in none) ∙ items_are in cc
          by_first (is_found t ts d f batch_is document read is) items_are = cc

      -- the record that it heard is that of the file
      heard_file : (f : FileRecord) → HeardRecord seen (plain_bucket g.at) g.id (Some f) → s.file ≡ f
      heard_file f h = by_first h.reads_so.first (stood_items h.bytes (stood h.bytes h.heard h.success) h.reads_so.said h.reads_so.says)
        where
          same_ok : (y z : FileRecord) → ◌≡◌ {A = Result FileRecord Malformed} (Ok y) (Ok z) → y ≡ z
          same_ok y z e = cc

          by_first : GivesFirst h.reads_so.said.batch (Some f) → documents_in h.reads_so.said.batch ≡ Some (s.whole.record_of ∷ []) → s.file ≡ f
          by_first (none_found none is) items_are = absurd cc
          by_first (is_found t ts d x batch_is document read is) items_are =
              let first : as_document t ≡ Some s.whole.record_of = first_in t ts s.whole.record_of (sym (ap documents_in batch_is) ∙ items_are) in
              let same : d ≡ s.whole.record_of = same_some d s.whole.record_of (sym document ∙ first) in
              let one : s.file ≡ x = same_ok s.file x (sym s.read ∙ ap file_record_of (sym same) ∙ read) in
              one ∙ sym (same_some f x is)

      breaks_none : (reply_bytes : List ℕ) → HeardBy seen (record_find g) (reply reply_bytes) → IsSuccess reply_bytes → (e : Error) → BreaksRecord reply_bytes e → ⊥
      breaks_none reply_bytes h success e (no_cursor breaks) = let x = stood reply_bytes h success in tells_not reply_bytes x.batch e x.there breaks
      breaks_none reply_bytes h success e (in_batch said says first) = by_first first (stood_items reply_bytes (stood reply_bytes h success) said says)
        where
          by_first : BreaksFirst said.batch e → documents_in said.batch ≡ Some (s.whole.record_of ∷ []) → ⊥
          by_first (no_document t ts batch_is none is) items_are =
              let first_is : as_document t ≡ Some s.whole.record_of = first_in t ts s.whole.record_of (sym (ap documents_in batch_is) ∙ items_are) in
              let bad : None ≡ Some s.whole.record_of = sym none ∙ first_is in
              cc
          by_first (no_record t ts d batch_is document breaks) items_are =
              let first_is : as_document t ≡ Some s.whole.record_of = first_in t ts s.whole.record_of (sym (ap documents_in batch_is) ∙ items_are) in
              let same : d ≡ s.whole.record_of = same_some d s.whole.record_of (sym document ∙ first_is) in
              breaks_never (file_record_of d) s.file e (ap file_record_of same ∙ s.read) breaks

      -- what it may fail for
      opening_well : (e : Error) → files.OpeningFails seen (plain_bucket g.at) g.id e → IsExcusedGet (IsHeard c i calls) g e
      opening_well e (files.out_of_memory room) = inl room
      opening_well e (files.find_not_built (inl bad)) = absurd (found_fits g e bad)
      opening_well e (files.find_not_built (inr by)) = inr (record_find g, finds_record refl, by)
      opening_well e (files.by_find fails) = inl (request_room places sent (record_find g) true TellsNoRecord e (λ bytes is. ap creates (find_asks bytes is)) (λ bytes h success breaks. breaks_none bytes h success e breaks) fails)
      opening_well e (files.not_found h none) = absurd (never_none h.bytes h.heard h.success h.reads_so)
      opening_well e (files.too_many f h breaks) = absurd (breaks_never (chunk_count_of f.length f.chunk_size) (chunk_count s.file.length s.file.chunk_size) e (subst (λ (x : FileRecord). chunk_count_of x.length x.chunk_size ≡ Ok (chunk_count s.file.length s.file.chunk_size)) (heard_file f h) counts) breaks)
      opening_well e (files.list_not_built f h (inl bad)) = absurd (listed_fits g f.id e bad)
      opening_well e (files.list_not_built f h (inr by)) = inr (chunks_find g f.id, lists_chunks h.bytes (hears places sent (record_find g) h.bytes h.heard) f h.reads_so refl, by)
      opening_well e (files.by_list f h fails) =
          inl (request_room places sent (chunks_find g f.id) true TellsNoCursor e (λ bytes is. ap creates (listing_asks f.id bytes is)) (λ bytes told success breaks. query_tells places sent (chunks_find g f.id) (chunks_query (chunks_space g.at) f.id) (listing_asks f.id) bytes told success e breaks) fails)

      -- ---- its reads

      more_asks : (at : ClientCursor) → IsTold seen at → (session : Option Session) (bytes : List ℕ) → fields bytes ≡ get_more at session → asked bytes ≡ asks_more at.id at.space
      more_asks at told session bytes is = asks_for_more bytes at.id at.space at.manner.size at.manner.wait at.manner.comment session (told_named seen at told) is

      own_cursor : (at : ClientCursor) → IsTold seen at → IsOwnCursor (IsHeard c i calls) at.id at.space
      own_cursor at told = record { bytes = told.bytes; in_reply = hears places sent told.command told.bytes told.heard; cursor = told.said; says = told.says; id_is = sym told.id_is; space_is = sym told.space_is }

      cannot_well : (at : ClientCursor) → IsTold seen at → (e : Error) → CannotAsk at None e → IsExcusedGet (IsHeard c i calls) g e
      cannot_well at told e (inl bad) = absurd (plain_size at.manner.size e (ap (λ (m : Manner). m.size) told.plain) bad)
      cannot_well at told e (inr by) = inr (get_more at None, gets_more at.id at.space (own_cursor at told) (ap (λ (m : Manner). next_command at.id at.space m) told.plain), by)

      more_tells : (at : ClientCursor) → IsTold seen at → (session : Option Session) (bytes : List ℕ) (h : HeardBy seen (get_more at session) (reply bytes)) → IsSuccess bytes → (e : Error) → TellsNoCursor bytes e → ⊥
      more_tells at told session bytes h success e breaks =
          let t = taken places sent (get_more at session) bytes h in
          let b = more_gives t.step (lawful t.step (at_once places sent (get_more at session) bytes h)) (subst IsSuccess t.reply_is success) at.id at.space (more_asks at told session t.step.command t.command_is) in
          tells_not bytes b.batch e (ap (λ (x : List ℕ). batch_of (fields x)) t.reply_is ∙ b.there) breaks

      stops_well : {Many : Type 0} (f : FileRecord) (listed : ℕ) (e : Error) → s.file ≡ f → SentIn c i 0 listed → ReadStops seen Many (ListsOther calls g.at f listed e) e → IsExcusedGet (IsHeard c i calls) g e
      stops_well f listed e same own (stops.no_memory room) = inl room
      stops_well f listed e same own (stops.not_built at told cannot) = cannot_well at told e cannot
      stops_well f listed e same own (stops.no_batch at told fails) =
          inl (request_room places sent (get_more at fails.session) false TellsNoCursor e (λ bytes is. ap creates (more_asks at told fails.session bytes is)) (λ bytes h success breaks. more_tells at told fails.session bytes h success e breaks) fails.fails)
      stops_well f listed e same own (stops.too_many empty never is) = absurd (never well.history well.legal well.stands well.own (among places sent) well.prompt)
      stops_well f listed e same own (stops.differs apart other) =
          absurd (whole_never calls g.at g.id f listed e other well.history well.legal well.stands bytes s.size s.first (suc s.last) s.whole (s.read ∙ ap Ok same) leaves
          (own_between c i calls g sends well.history well.legal well.stands s.first s.last s.is_first s.is_last s.alone 0 listed own))

    -- ---- all of it

    of_call : (k : ℕ) (places : List ℕ) → AllSentIn c i k places → AreSentIn c i places
    of_call k places sent place of = (k, sent place of)

    fails_well : (given : List ℕ) (e : Error) → GetFails c i calls wire g given e → IsExcusedGet (IsHeard c i calls) g e
    fails_well given e (causes.out_of_memory room) = inl room
    fails_well given e (causes.has_no_room none is) = absurd (omega (arith, some, none))
    fails_well given e (causes.not_opened more places sent fails whole) = opening_well places (of_call 0 places sent) e fails
    fails_well given e (causes.not_read more d opened k turned places sent cursor fails its firm plainly behind last stopped read came) =
        stops_well stopped.places stopped.sent d.file stopped.listed e (heard_file opened.places (of_call 0 opened.places opened.sent) d.file opened.heard) stopped.by_opening stopped.why

    pub get_well : (awaited : Awaited) (end : Ended (Unit {0})) (given : List ℕ) (k : ℕ) (last : Bool) → GetCaused awaited c i calls wire g given end → GetPlayed end (length given) k last g.read → GetGave c i calls g given end → length bytes + 2 ≤ k → EndsWell (IsExcusedGet (IsHeard c i calls) g) end
    get_well awaited ended.Unfinished given k last caused played front turns =
        let r = front.0 well.history well.legal well.stands s.first s.last s.is_first s.is_last s.alone bytes s.size s.whole in
        let long : length bytes ≡ length given + length r.0 = ap (length {A = ℕ}) r.1 ∙ length-append given r.0 in
        let few = played.0 in
        absurd (omega (arith, long, few, turns))
    get_well awaited (ended.Gave x) given k last caused played gave turns = tt
    get_well awaited (ended.Failed e) given k last caused played gave turns = fails_well given e caused.0
