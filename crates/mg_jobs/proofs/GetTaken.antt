-- The store of a run refuses none of the commands of a get that may read a file which is whole.
use Rattle.std.proofs.Common.{◌≡◌, ◌≢◌, ◌≤◌, ◌<◌, ◌+◌, ◌-◌, ◌++◌, ℕ, zero, suc, ℤ, pos, Bool, true, false, List, [], ◌∷◌, length, take, drop, Option, Some, None, Result, Ok, refl, sym, ap, ◌∙◌, subst, inl, inr, arith}
use Rattle.std.specs.Prelude.{codes, option_and_then, option_map, slice_get}
use Rattle.std.specs.List.{concat, filter}
use Rattle.std.proofs.lemmas.Bool.{cases_lt}
use Rattle.mg_bson.specs.Find.{as_document}
use Rattle.mg_bson.specs.Raw.{fields}
use Rattle.mg_bson.specs.Tree.{Fields, Items, Tree, item}
use Rattle.mg_server.specs.Calls.{Past}
use Rattle.mg_server.specs.Commands.{Told, asked, asks_more, asks_query, batch_of, documents_in, gave, gave_by, opened, opened_by, time_in}
use Rattle.mg_link.specs.Exec.{IsSuccess}
use Rattle.mg_link.specs.Chunks.{chunked}
use Rattle.mg_server.specs.Files.{AreChunks, Bucket, File, by_number, chunks_space, file_of, files_space, has_value}
use Rattle.mg_server.specs.Filter.{key, matches, meets}
use Rattle.mg_server.specs.History.{IsLegal, Step, state_after, state_of, told_at}
use Rattle.mg_server.specs.Kept.{AreByRulesFrom, IsByRules as AreByRules, Kept, given_after, made_of, state_behind, state_of_kept, steps_from, steps_of}
use Rattle.mg_link.specs.Log.{Call, Sight, reply}
use Rattle.mg_link.specs.Namespace.{Space}
use Rattle.mg_server.specs.Owner.{IsOf}
use Rattle.mg_server.specs.Prompt.{HoldsBackNone, IsRefused}
use Rattle.mg_server.specs.Query.{Query, result, sorted}
use Rattle.mg_server.specs.Rules.{batch_of_query, find, more, query_space, request_of}
use Rattle.mg_server.specs.Standing.{Names, OpensId, SeenFits, Stands, TookEffect}
use Rattle.mg_server.specs.State.{State, nothing, query}
use Rattle.mg_server.specs.Step.{documents_of}
use Rattle.mg_link.specs.declared.error.Malformed.{Malformed}
use Rattle.mg_server.proofs.Allowed.{query_id-is}
use Rattle.mg_server.proofs.Files.{quiet_stays}
use Rattle.mg_server.proofs.Later.{leaves_step, opens_given}
use Rattle.mg_link.proofs.Places.{get_some, get_within}
use Rattle.mg_server.proofs.Requests.{asked_is}
use Rattle.mg_ops.specs.Cursors.{Cursor as Cursor_told, cursor_of}
use Rattle.mg_store.specs.InMemory.{AreAsFates, AreKept}
use Rattle.mg_store.specs.declared.fate.Fate.{Fate}
use Rattle.mg_store.proofs.Sending.{length-steps}
use Rattle.mg_store.proofs.Standing.{same_some}
use Rattle.mg_gridfs.specs.Downloaded.{chunks_query, record_query}
use Rattle.mg_gridfs.specs.Findings.{GivesFirst, is_found, none_found}
use Rattle.mg_gridfs.specs.ReadCauses.{HeardRecord}
use Rattle.mg_gridfs.proofs.OneFile.{first_meets, one_file, same_key}
use Rattle.mg_records.specs.FileRecords.{FileRecord}
use Rattle.mg_players.specs.Asking.{AsksOnBy, TellsAt}
use Rattle.mg_gridfs.specs.Downloads.{ClientDownload}
use Rattle.mg_players.specs.Causes.{Course, FallsAt, GetStands, SentIn, has_opened, places_of, sent_at, unopened}
use Rattle.mg_players.specs.Files.{IsStepOf}
use Rattle.mg_players.specs.Buckets.{plain_bucket}
use Rattle.mg_players.specs.Gets.{GetTask, IsFindAt, IsGetCommand, IsListFor, chunks_find, more_chunks, record_find}
use Rattle.mg_players.specs.Owned.{IsGivenBy, NamesNoOthers}
use Rattle.mg_players.specs.Sends.{SendsOnly}
use Rattle.mg_players.proofs.Batches.{read_as}
use Rattle.mg_players.proofs.GetJudged.{record_is}
use Rattle.mg_players.proofs.GetSteps.{more_gives, query_opens, took}
use Rattle.mg_players.proofs.Prompting.{lawful_at}
use Rattle.mg_jobs.specs.Completing.{HasShortFiles, HasShortNames, NoneRefused, StandsWhole}
use Rattle.mg_jobs.specs.Fated.{AreItsSteps}
use Rattle.mg_jobs.proofs.Created.{is_taken}
use Rattle.mg_jobs.proofs.Filed.{all_leave}
use Rattle.mg_jobs.proofs.GetWell.{grown_reads}
use Rattle.mg_players.proofs.GetBlamed.{record_result}
use Rattle.mg_jobs.proofs.PlacesRise.{of_either, one_job}
use Rattle.mg_jobs.proofs.Added.{first_by_rules}
use Rattle.mg_jobs.proofs.Mild.{IsMildCommand}
use Rattle.mg_jobs.proofs.QueryFits.{chunks_found, record_found, short_behind, sorted_short}
use Rattle.mg_jobs.proofs.QueryTaken.{chunks_read, find_stands, find_told, first_batch, first_id, id_goes_on, more_stands, more_told, next_batch, next_id, of_batch, record_reads, takes_space}
use Rattle.mg_jobs.proofs.Refusing.{call_at, falls_each, step_by}
use Rattle.mg_jobs.proofs.StepsAt.{later_place, may_at, next_state}
use Rattle.mg_jobs.proofs.Stored.{AreShort, HaveShort, documents_short, matching_short, short_first, stays_short}
use Rattle.mg_jobs.proofs.StoreRuns.{ruled_at}
use Rattle.mg_jobs.proofs.WatchTaken.{more_reads}
use Rattle.mg_link.proofs.Places.{get_front}

-- ---- what the store holds

history_short : (s : State) (given : ℕ) (started : Bool) (kept : List Kept) → AreByRulesFrom s given started kept → HaveShort s.collections → ((p : ℕ) (k : Kept) → slice_get kept p ≡ Some k → IsMildCommand (fields k.command)) → HaveShort (state_after s (steps_from s given started kept)).collections
unfolding steps_from state_after made_of AreByRulesFrom
history_short s given started [] by_rules short each = short
history_short s given started (k ∷ kept) by_rules short each =
    history_short (state_behind s given started k) (given_after given k) true kept by_rules.1 (stays_short s given started k (each 0 k refl) by_rules.0 short) (λ p j there. each (suc p) j there)

-- the documents behind mild commands that the store replied to are short and flat
kept_short : (kept : List Kept) → AreByRules kept → ((p : ℕ) (k : Kept) → slice_get kept p ≡ Some k → IsMildCommand (fields k.command)) → HaveShort (state_of_kept kept).collections
kept_short kept by_rules each = history_short nothing 0 false kept by_rules tt each

module _ (history : List Kept) (fates : List Fate) (kept : AreKept 0 fates) (calls : List Call) (pended : List ℕ) (as_fates : AreAsFates history fates calls pended) (stands : Stands calls (steps_of history)) (alone : AreItsSteps history calls)
    (ruled : AreByRules history) (mild : (p : ℕ) (k : Kept) → slice_get history p ≡ Some k → IsMildCommand (fields k.command)) (legal : IsLegal (steps_of history)) (prompt : HoldsBackNone (steps_of history)) where
  abbrev steps : List Step
  steps = steps_of history

  abbrev state_at : ℕ → State
  state_at p = state_of (take p steps)

  -- the call of a step
  record CallOf (p : ℕ) (step : Step) : Type 0 where
    place : ℕ
    call : Call
    there : slice_get calls place ≡ Some call
    position_is : call.position ≡ Some p
    same_command : step.command ≡ call.command

  call_of : (p : ℕ) (step : Step) → slice_get steps p ≡ Some step → CallOf p step
  call_of p step at =
      let within = get_within steps p step at in
      let long = length-steps history in
      let k = alone p (omega (arith, within, long)) in
      let s = stands.same k.0 k.1 p k.2 k.3 in
      record { place = k.0; call = k.1; there = k.2; position_is = k.3; same_command = ap (λ (x : Step). x.command) (same_some step s.0 (sym at ∙ s.1)) ∙ s.2 }

  pub short_at : (p : ℕ) (step : Step) → slice_get steps p ≡ Some step → HaveShort (state_at p).collections
  short_at p step at =
      let k = call_of p step at in
      let r = step_by history fates kept calls pended as_fates stands k.place k.call p step k.there k.position_is at in
      subst (λ (s : State). HaveShort s.collections) (sym r.state_is)
      (kept_short r.before (first_by_rules r.before (r.this ∷ r.later) (subst AreByRules r.these ruled)) (λ n j there. mild n j (ap (λ (h : List Kept). slice_get h n) r.these ∙ get_front r.before (r.this ∷ r.later) n j there)))

  -- ---- places and positions

  -- a step before another is that of an earlier call
  place_below : (a b : ℕ) (x y : Call) (p q : ℕ) → slice_get calls a ≡ Some x → slice_get calls b ≡ Some y → x.position ≡ Some p → y.position ≡ Some q → p < q → a < b
  place_below a b x y p q here there first second less =
      elim (cases_lt a b) [
        | inl below ↦ below
        | inr not ↦ elim (cases_lt b a) [
          | inl above ↦ (let bad = stands.rising b a y x q p above there here second first in absurd (omega (arith, less, bad)))
          | inr also ↦
              let same : a ≡ b = omega (arith, not, also) in
              let one : x ≡ y = same_some x y (sym here ∙ ap (slice_get calls) same ∙ there) in
              let equal : p ≡ q = same_some p q (sym first ∙ ap (λ (c : Call). c.position) one ∙ second) in
              absurd (omega (arith, less, equal))
        ]
      ]

  -- ---- a cursor that nobody names

  -- no step from one position up to another names it
  abbrev IsUnnamed : ℤ → ℕ → ℕ → Type 0
  IsUnnamed x q p = (r : ℕ) (step : Step) → q ≤ r → r < p → slice_get steps r ≡ Some step → Names (asked step.command) x → ⊥

  stays_by : (x : ℤ) (q n : ℕ) → q + n ≤ length steps → (state_at q).given x ≡ true → IsUnnamed x q (q + n) → (state_at (q + n)).cursors x ≡ (state_at q).cursors x
  stays_by x q zero within given none = let same : q + 0 ≡ q = omega arith in ap (λ (m : ℕ). (state_at m).cursors x) same
  stays_by x q (suc n) within given none =
      let next : q + suc n ≡ suc (q + n) = omega arith in
      let step = get_some steps (q + n) (omega (arith, within)) in
      let still = (later_place steps legal q (q + n) (omega arith) (omega (arith, within))).given x given in
      ap (λ (m : ℕ). (state_at m).cursors x) next
      ∙ ap (λ (s : State). s.cursors x) (next_state steps (q + n) step.0 step.1)
      ∙ leaves_step (state_at (q + n)) step.0 x (may_at steps (q + n) step.0 legal step.1) still (none (q + n) step.0 (omega arith) (omega arith) step.1)
      ∙ stays_by x q n (omega (arith, within)) given (λ r s low high. none r s low (omega (arith, high)))

  apart : (q p : ℕ) → q ≤ p → (n : ℕ) × (q + n ≡ p)
  apart zero p less = (p, omega arith)
  apart (suc q) zero less = absurd (omega (arith, less))
  apart (suc q) (suc p) less = let n = apart q p (omega (arith, less)) in let is = n.1 in (n.0, omega (arith, is))

  stays : (x : ℤ) (q p : ℕ) → q ≤ p → p ≤ length steps → (state_at q).given x ≡ true → IsUnnamed x q p → (state_at p).cursors x ≡ (state_at q).cursors x
  stays x q p less within given none =
      let n = apart q p less in
      let is = n.1 in
      subst (λ (m : ℕ). (state_at m).cursors x ≡ (state_at q).cursors x) n.1 (stays_by x q n.0 (omega (arith, within, is)) given (λ r s low high. none r s low (omega (arith, high, is))))

  -- ---- a get

  module _ (c : Course) (i : ℕ) (g : GetTask) (wire : ℤ) (bytes_so_far : List ℕ) (well : ℕ) (stood_so : GetStands c i calls wire g bytes_so_far well (λ (now : List ℕ). Unit {0}) (λ (last : ClientDownload) (now : List ℕ). Unit {0})) (owned : (place : ℕ) → IsOf (places_of c i) place → place < length calls → (k : ℕ) × SentIn c i k place) (whose : (place : ℕ) → place < length calls → (j : ℕ) × IsOf (places_of c j) place)
      (names : (j : ℕ) → NamesNoOthers calls c j) (sends : SendsOnly (IsGetCommand g) c i calls) (may : HasShortFiles g.at) (bytes : List ℕ) (whole : StandsWhole c i calls (steps_of history) g bytes) where
    abbrev its : List ℕ
    its = places_of c i

    -- ---- what it sent

    -- the command finds its record, lists the chunks of its file, or asks for more by the cursor that was told to it last
    data IsKind (place : ℕ) (call : Call) : Type 0 where
      finds_record : fields call.command ≡ record_find g → IsKind place call
      lists_its : (id : Tree) → fields call.command ≡ chunks_find g id → key id ≡ key g.id → IsKind place call
      asks_on : AsksOnBy calls (λ (n : ℕ). IsOf (places_of c i) n) place → IsKind place call

    -- the first of the documents that a batch and what is left are
    first_of : (d : Fields) (events left : List Fields) (records : List Fields) → take 1 records ≡ events ++ left → (others : List Fields) → events ≡ d ∷ others → (rest : List Fields) × (records ≡ d ∷ rest)
    first_of d events left [] is others are = absurd (let bad : [] ≡ (d ∷ others) ++ left = is ∙ ap (λ (l : List Fields). l ++ left) are in cc)
    first_of d events left (r ∷ rs) is others are = (rs, (let same : r ∷ [] ≡ d ∷ (others ++ left) = is ∙ ap (λ (l : List Fields). l ++ left) are in let one : r ≡ d = cc in ap (λ (x : Fields). x ∷ rs) one))

    record_meets : (s : State) (at : Bucket) (id : Tree) (first : Fields) (rest : List Fields) → (file_of s at id).records ≡ first ∷ rest → meets (has_value (codes "_id") id) first ≡ true
    unfolding file_of
    record_meets s at id first rest is = first_meets (has_value (codes "_id") id) (documents_of s (files_space at)) first rest is

    -- the record that it heard has its id, as a filter takes it
    module _ (places : List ℕ) (f : FileRecord) (h : HeardRecord (sent_at places calls wire) (plain_bucket g.at) g.id (Some f)) where
      abbrev past : Past
      past = sent_at places calls wire

      abbrev its_query : Query
      its_query = record_query (files_space g.at) g.id

      heard_key : key f.id ≡ key g.id
      heard_key =
          let t = took past steps stands (record_find g) h.bytes h.heard in
          let reads : request_of (fields t.step.command) ≡ Ok (find its_query) = ap request_of t.command_is ∙ record_reads (files_space g.at) g.id (takes_space (files_space g.at) may.files_short) in
          let o = query_opens t.step (lawful_at steps t.position t.step legal t.there) (subst IsSuccess t.reply_is h.success) its_query (asked_is t.step.command (find its_query) reads) in
          let read = read_as (fields h.bytes) o.batch (ap (λ (b : List ℕ). batch_of (fields b)) t.reply_is ∙ o.there) in
          let same : read.it ≡ h.reads_so.said = same_ok read.it h.reads_so.said (sym read.says ∙ h.reads_so.says) in
          let stood : result (state_at t.position) its_query ≡ Some (o.batch.events ++ o.left) = sym (grown_reads (state_at t.position) t.step.made its_query) ∙ o.these in
          by_first h.reads_so.first (state_at t.position) o.batch.events o.left (record_result (state_at t.position) g.at g.id (o.batch.events ++ o.left) stood) (ap (λ (y : Cursor_told). documents_in y.batch) (sym same) ∙ read.documents_are)
        where
          same_ok : (y z : Cursor_told) → ◌≡◌ {A = Result Cursor_told Malformed} (Ok y) (Ok z) → y ≡ z
          same_ok y z e = cc

          -- the first item of a batch is its first document
          first_in : (t : Tree) (ts : Items) (d : Fields) (events : List Fields) → as_document t ≡ Some d → documents_in (item t ts) ≡ Some events → (others : List Fields) × (events ≡ d ∷ others)
          first_in t ts d events document are = by_rest (documents_in ts) (ap (λ (o : Option Fields). option_and_then (λ d. option_map (λ ds. d ∷ ds) (documents_in ts)) o) (sym document) ∙ are)
            where
              by_rest : (o : Option (List Fields)) → option_map (λ ds. d ∷ ds) o ≡ Some events → (others : List Fields) × (events ≡ d ∷ others)
              by_rest None e = absurd cc
              by_rest (Some ds) e = (ds, sym (same_some (d ∷ ds) events e))

          by_first : GivesFirst h.reads_so.said.batch (Some f) → (s : State) (events left : List Fields) → take 1 (file_of s g.at g.id).records ≡ events ++ left → documents_in h.reads_so.said.batch ≡ Some events → key f.id ≡ key g.id
          by_first (none_found none is) s events left stood are = absurd cc
          by_first (is_found t ts d x batch_is document read is) s events left stood are =
              let first = first_in t ts d events document (sym (ap documents_in batch_is) ∙ are) in
              let all = first_of d events left (file_of s g.at g.id).records stood first.0 first.1 in
              let met = record_meets s g.at g.id d all.0 all.1 in
              let one : f ≡ x = same_some f x is in
              let said = record_is d x read in
              sym (same_key (codes "_id") g.id f.id d (said.id_is ∙ ap (λ (y : FileRecord). Some y.id) (sym one)) met)

    find_kind : (found : Option FileRecord) (places : List ℕ) → FallsAt (IsFindAt g found) calls 5 places 1 → ((f : FileRecord) → found ≡ Some f → HeardRecord (sent_at places calls wire) (plain_bucket g.at) g.id (Some f)) → (place : ℕ) (call : Call) → IsOf places place → slice_get calls place ≡ Some call → IsKind place call
    find_kind found places falls heard place call of there = let x = falls_each (IsFindAt g found) calls 5 places 1 falls.falling place call of there in by_place x.0 x.1
      where
        by_record : (was : Option FileRecord) → found ≡ was → IsListFor g was (fields call.command) → IsKind place call
        by_record None is lists = absurd lists
        by_record (Some f) is lists = lists_its f.id lists.1 (heard_key places f (heard f is))

        by_place : (n : ℕ) → IsFindAt g found n (fields call.command) → IsKind place call
        by_place zero is = absurd is
        by_place (suc zero) is = by_record found refl is
        by_place (suc (suc zero)) is = by_record found refl is
        by_place (suc (suc (suc n))) is = finds_record is

    kind_of : (place : ℕ) (call : Call) → IsOf its place → slice_get calls place ≡ Some call → IsKind place call
    kind_of place call of there = by_stands stood_so
      where
        by_stands : GetStands c i calls wire g bytes_so_far well (λ (now : List ℕ). Unit {0}) (λ (last : ClientDownload) (now : List ℕ). Unit {0}) → IsKind place call
        by_stands (unopened none empty sent so found asks) = find_kind found (places_of c i) asks.finds asks.heard place call of there
        by_stands (has_opened f o k is now so s last read goes) =
            elim (of_either o.places (concat s.owns ++ now) place (subst (λ (l : List ℕ). IsOf l place) (sym s.whole) of)) [
              | inl first ↦ find_kind (Some f) o.places o.finds (λ x is. subst (λ (y : Option FileRecord). HeardRecord (sent_at o.places calls wire) (plain_bucket g.at) g.id y) is o.heard) place call first there
              | inr behind ↦ asks_on (subst (λ (l : List ℕ). AsksOnBy calls (λ (n : ℕ). IsOf l n) place) s.whole (s.more place behind))
            ]

    -- ---- how the store stands

    -- the cursor stands at this position, and its own command opened it
    record IsOpenAt (p : ℕ) (id : ℤ) (space : Space) : Type 0 where
      number : ℕ
      id_is : id ≡ pos number
      left : List Fields
      stood : (state_at p).cursors id ≡ Some (query space left)
      stored : AreShort left
      given : (state_at p).given id ≡ true
      short : HasShortNames space
      own : IsGivenBy calls (steps_of history) (places_of c i) id
      early : own.position < p

    -- the step is not refused, and behind it stands the cursor that its reply told
    record IsFine (place : ℕ) (call : Call) (p : ℕ) (step : Step) : Type 0 where
      taken : IsRefused (told_at step) → ⊥
      leaves : (id : ℤ) (space : Space) → TellsAt calls place id space → id ≢ pos 0 → IsOpenAt (suc p) id space

    -- a command of it at a place
    record IsSent (place : ℕ) (call : Call) (p : ℕ) (step : Step) : Type 0 where
      of : IsOf (places_of c i) place
      there : slice_get calls place ≡ Some call
      position_is : call.position ≡ Some p
      at : slice_get (steps_of history) p ≡ Some step
      same_command : step.command ≡ call.command
      done : ℕ
      sent : SentIn c i done place

    -- the reply that a step told is its own
    reply_is : (place : ℕ) (call : Call) (p : ℕ) (step : Step) (id : ℤ) (space : Space) → IsSent place call p step → (t : TellsAt calls place id space) → t.bytes ≡ step.reply
    reply_is place call p step id space s t =
        let same : t.call ≡ call = same_some t.call call (sym t.there ∙ s.there) in
        let x = stands.same place call p s.there s.position_is in
        let one : x.0 ≡ step = same_some x.0 step (sym x.1 ∙ s.at) in
        subst (λ (y : Step). t.bytes ≡ y.reply) one (subst (λ (y : Sight). SeenFits y x.0.reply) (ap (λ (y : Call). y.seen) (sym same) ∙ t.has_seen) x.3)

    -- ---- a find

    find_fine : (place : ℕ) (call : Call) (p : ℕ) (step : Step) (q : Query) (ds : List Fields) → IsSent place call p step → request_of (fields step.command) ≡ Ok (find q) → result (state_at p) q ≡ Some ds → q.size ≡ None → HasShortNames (query_space q.source) → AreShort ds → IsFine place call p step
    find_fine place call p step q ds s reads found plain short stored =
        let r = ruled_at history fates kept calls pended as_fates stands alone ruled mild legal prompt p step s.at in
        let asks : asked step.command ≡ asks_query q = asked_is step.command (find q) reads in
        let tells : told_at step ≡ opened (first_id (state_at p) r.given q ds found plain short stored) (query_space q.source) (first_batch (state_at p) r.given q ds found plain short stored) None None = find_told (state_at p) r.given q ds found plain short stored step.command step.reply reads r.read in
        let x : ℤ = first_id (state_at p) r.given q ds found plain short stored in
        let batch : List Fields = first_batch (state_at p) r.given q ds found plain short stored in
        record {
          taken = λ refused. subst IsRefused tells refused;
          leaves = λ id space t ne.
              let same_reply = reply_is place call p step id space s t in
              let o = query_opens step (lawful_at steps p step legal s.at) (subst IsSuccess same_reply t.success) q asks in
              let both : opened_by (time_in (fields step.reply)) o.batch ≡ opened x (query_space q.source) batch None None = sym o.said ∙ tells in
              let id_same : o.batch.id ≡ x = cc in
              let space_same : o.batch.space ≡ query_space q.source = cc in
              let b = of_batch (fields step.reply) t.cursor o.batch (ap (λ (y : List ℕ). cursor_of (fields y)) (sym same_reply) ∙ t.says) o.there in
              let is : x ≡ id = sym id_same ∙ sym b.id_is ∙ t.id_is in
              let at : query_space q.source ≡ space = sym space_same ∙ sym b.space_is ∙ t.space_is in
              let held : x ≢ pos 0 = λ z. ne (sym is ∙ z) in
              let opens : OpensId (told_at step) x = subst (λ (y : Told). OpensId y x) (sym tells) (refl, held) in
              let next = next_state steps p step s.at in
              let here : IsOpenAt (suc p) x (query_space q.source) = record {
                number = suc r.given;
                id_is = elim (query_id-is (pos (suc r.given)) q ds) [ inl none ↦ absurd (held none) | inr one ↦ one ];
                left = drop (length batch) ds;
                stood = ap (λ (y : State). y.cursors x) next ∙ find_stands (state_at p) r.given q ds found plain short stored step asks tells held;
                stored = short_behind (length batch) ds stored;
                given = ap (λ (y : State). y.given x) next ∙ opens_given (state_at p) step x (may_at steps p step legal s.at) opens;
                short = short;
                own = record { place = place; of = s.of; position = p; step = step; took = record { call = call; found = s.there; placed = s.position_is; there = s.at }; opens = opens };
                early = omega arith;
              } in
              subst (IsOpenAt (suc p) id) at (subst (λ (y : ℤ). IsOpenAt (suc p) y (query_space q.source)) is here);
        }

    documents_at : (p : ℕ) (step : Step) (space : Space) → slice_get steps p ≡ Some step → AreShort (documents_of (state_at p) space)
    documents_at p step space at = documents_short (state_at p) space (short_at p step at)

    record_fine : (place : ℕ) (call : Call) (p : ℕ) (step : Step) → IsSent place call p step → fields call.command ≡ record_find g → IsFine place call p step
    record_fine place call p step s is =
        let at : Space = files_space g.at in
        let ds : List Fields = filter (matches (has_value (codes "_id") g.id ∷ [])) (documents_of (state_at p) at) in
        let reads : request_of (fields step.command) ≡ Ok (find (record_query at g.id)) = ap request_of (ap fields s.same_command ∙ is) ∙ record_reads at g.id (takes_space at may.files_short) in
        find_fine place call p step (record_query at g.id) (take 1 ds) s reads (record_found (state_at p) at g.id) refl may.files_short (short_first 1 ds (matching_short (has_value (codes "_id") g.id ∷ []) (documents_of (state_at p) at) (documents_at p step at s.at)))

    -- its chunks are those of the whole file
    chunks_are : (place : ℕ) (call : Call) (p : ℕ) (step : Step) (id : Tree) → IsSent place call p step → key id ≡ key g.id → AreChunks 0 (chunked whole.size bytes) (file_of (state_at p) g.at id).chunks
    chunks_are place call p step id s same_key_is =
        let own : IsStepOf c i calls p = record { done = s.done; place = place; sent = s.sent; call = call; there = s.there; placed = s.position_is } in
        let low = whole.is_first.first p own in
        let high = whole.is_last.last p own in
        let within = get_within steps p step s.at in
        let n : ℕ = p - whole.first in
        let all : whole.first + n ≡ p = omega (arith, low) in
        let leaves = all_leave c i calls g sends steps legal stands whole.first whole.last whole.is_first whole.is_last whole.alone in
        let same : file_of (state_at p) g.at g.id ≡ file_of (state_at whole.first) g.at g.id = subst (λ (m : ℕ). file_of (state_at m) g.at g.id ≡ file_of (state_at whole.first) g.at g.id) all
        (quiet_stays steps g.at g.id whole.first n (omega (arith, all, within)) (λ q x lower higher found. leaves q x lower (omega (arith, all, high, higher)) found)) in
        let one = one_file id g.id same_key_is (state_at p) g.at in
        subst (AreChunks 0 (chunked whole.size bytes)) (ap (λ (f : File). f.chunks) (sym same) ∙ ap (λ (f : File). f.chunks) (sym one)) whole.whole.chunks_are

    chunks_fine : (place : ℕ) (call : Call) (p : ℕ) (step : Step) (id : Tree) → IsSent place call p step → fields call.command ≡ chunks_find g id → key id ≡ key g.id → IsFine place call p step
    chunks_fine place call p step id s is alike =
        let at : Space = chunks_space g.at in
        let ds : List Fields = filter (matches (has_value (codes "files_id") id ∷ [])) (documents_of (state_at p) at) in
        let reads : request_of (fields step.command) ≡ Ok (find (chunks_query at id)) = ap request_of (ap fields s.same_command ∙ is) ∙ chunks_read at id (takes_space at may.chunks_short) in
        find_fine place call p step (chunks_query at id) (sorted by_number ds) s reads (chunks_found (state_at p) g.at id 0 (chunked whole.size bytes) (chunks_are place call p step id s alike)) refl may.chunks_short
        (sorted_short by_number ds (matching_short (has_value (codes "files_id") id ∷ []) (documents_of (state_at p) at) (documents_at p step at s.at)))

    -- ---- a getMore

    abbrev Asks : ℕ → Type 0
    Asks place = AsksOnBy calls (λ (n : ℕ). IsOf (places_of c i) n) place

    -- the commands between the one that told its cursor and it are those of others, who do not name it
    unnamed : (place : ℕ) (call : Call) (p : ℕ) (step : Step) → IsSent place call p step → (m : Asks place) (before : Call) (q : ℕ) → slice_get calls m.before ≡ Some before → before.position ≡ Some q → (own : IsGivenBy calls (steps_of history) (places_of c i) m.id) → own.position < suc q → IsUnnamed m.id (suc q) p
    unnamed place call p step s m before q there placed own early r x low high at asks =
        let k = call_of r x at in
        let later = place_below k.place place k.call call r p k.there s.there k.position_is s.position_is high in
        let first = place_below m.before k.place before k.call q r there k.there placed k.position_is (omega (arith, low)) in
        let j = whose k.place (get_within calls k.place k.call k.there) in
        let took : TookEffect calls steps k.place r x = record { call = k.call; found = k.there; placed = k.position_is; there = at } in
        let given = names j.0 steps legal stands k.place r x j.1 took m.id asks own.place own.position own.step own.took (omega (arith, early, low)) own.opens in
        let job = one_job c j.0 i own.place given own.of in
        let newest = m.newest k.place (subst (λ (n : ℕ). IsOf (places_of c n) k.place) job j.1) later in
        omega (arith, first, newest)

    more_at : (place : ℕ) (call : Call) (p : ℕ) (step : Step) (s : IsSent place call p step) (m : Asks place) → IsOpenAt p m.id m.space → IsFine place call p step
    more_at place call p step s m o =
        let sent_so : fields call.command ≡ more_chunks m.id m.space = ap (λ (x : Call). fields x.command) (same_some call m.call (sym s.there ∙ m.there)) ∙ m.asks_so in
        let r = ruled_at history fates kept calls pended as_fates stands alone ruled mild legal prompt p step s.at in
        let reads_as : request_of (more_chunks m.id m.space) ≡ Ok (more m.id m.space None) = subst (λ (y : ℤ). request_of (more_chunks y m.space) ≡ Ok (more y m.space None)) (sym o.id_is) (more_reads o.number m.space None (takes_space m.space o.short) tt) in
        let reads : request_of (fields step.command) ≡ Ok (more m.id m.space None) = ap request_of (ap fields s.same_command ∙ sent_so) ∙ reads_as in
        let asks : asked step.command ≡ asks_more m.id m.space = asked_is step.command (more m.id m.space None) reads in
        let y : ℤ = next_id (state_at p) r.given m.id m.space o.left o.stood o.short o.stored in
        let batch : List Fields = next_batch (state_at p) r.given m.id m.space o.left o.stood o.short o.stored in
        let tells : told_at step ≡ gave y m.space batch None = more_told (state_at p) r.given m.id m.space o.left o.stood o.short o.stored step.command step.reply reads r.read in
        record {
          taken = λ refused. subst IsRefused tells refused;
          leaves = λ id space t ne.
              let same_reply = reply_is place call p step id space s t in
              let b = more_gives step (lawful_at steps p step legal s.at) (subst IsSuccess same_reply t.success) m.id m.space asks in
              let both : gave_by b.batch ≡ gave y m.space batch None = sym b.said ∙ tells in
              let id_same : b.batch.id ≡ y = cc in
              let space_same : b.batch.space ≡ m.space = cc in
              let f = of_batch (fields step.reply) t.cursor b.batch (ap (λ (z : List ℕ). cursor_of (fields z)) (sym same_reply) ∙ t.says) b.there in
              let is : y ≡ id = sym id_same ∙ sym f.id_is ∙ t.id_is in
              let at : m.space ≡ space = sym space_same ∙ sym f.space_is ∙ t.space_is in
              let held : y ≢ pos 0 = λ z. ne (sym is ∙ z) in
              let goes : y ≡ m.id = id_goes_on m.id (drop (batch_of_query 101 o.left) o.left) held in
              let next = next_state steps p step s.at in
              let within = get_within steps p step s.at in
              let here : IsOpenAt (suc p) m.id m.space = record {
                number = o.number;
                id_is = o.id_is;
                left = drop (length batch) o.left;
                stood = ap (λ (z : State). z.cursors m.id) next ∙ more_stands (state_at p) r.given m.id m.space o.left o.stood o.short o.stored step asks tells held;
                stored = short_behind (length batch) o.left o.stored;
                given = (later_place steps legal p (suc p) (omega arith) (omega (arith, within))).given m.id o.given;
                short = o.short;
                own = o.own;
                early = (let e = o.early in omega (arith, e));
              } in
              subst (IsOpenAt (suc p) id) at (subst (λ (z : ℤ). IsOpenAt (suc p) z m.space) (sym goes ∙ is) here);
        }

    -- ---- all of them

    more_fine : (place : ℕ) (call : Call) (p : ℕ) (step : Step) → IsSent place call p step → (m : Asks place) → ((call : Call) (p : ℕ) (step : Step) → slice_get calls m.before ≡ Some call → call.position ≡ Some p → slice_get steps p ≡ Some step → IsFine m.before call p step) → IsFine place call p step
    more_fine place call p step s m fine =
        let before : Call = m.told.call in
        let placed = stands.placed m.before before m.told.bytes m.told.there m.told.has_seen in
        let q : ℕ = placed.0 in
        let x = stands.same m.before before q m.told.there placed.1 in
        let o = (fine before q x.0 m.told.there placed.1 x.1).leaves m.id m.space m.told m.held in
        let less = stands.rising m.before place before call q p m.less m.told.there s.there placed.1 s.position_is in
        let within = get_within steps p step s.at in
        let same = stays m.id (suc q) p (omega (arith, less)) (omega (arith, within)) o.given (unnamed place call p step s m before q m.told.there placed.1 o.own o.early) in
        more_at place call p step s m (record {
          number = o.number;
          id_is = o.id_is;
          left = o.left;
          stood = same ∙ o.stood;
          stored = o.stored;
          given = (later_place steps legal (suc q) p (omega (arith, less)) (omega (arith, within))).given m.id o.given;
          short = o.short;
          own = o.own;
          early = (let e = o.early in omega (arith, e, less));
        })

    all_fine : (n place : ℕ) → place < n → IsOf its place → (call : Call) (p : ℕ) (step : Step) → slice_get calls place ≡ Some call → call.position ≡ Some p → slice_get steps p ≡ Some step → IsFine place call p step
    all_fine zero place less of call p step there placed at = absurd (omega (arith, less))
    all_fine (suc n) place less of call p step there placed at = by_kind (kind_of place call of there) (λ q below mine. all_fine n q below mine)
      where
        s : IsSent place call p step
        s =
            let k = owned place of (get_within calls place call there) in
            let x = stands.same place call p there placed in
            record { of = of; there = there; position_is = placed; at = at; same_command = ap (λ (y : Step). y.command) (same_some step x.0 (sym at ∙ x.1)) ∙ x.2; done = k.0; sent = k.1 }

        by_kind : IsKind place call → ((q : ℕ) → q < n → IsOf its q → (before : Call) (r : ℕ) (x : Step) → slice_get calls q ≡ Some before → before.position ≡ Some r → slice_get steps r ≡ Some x → IsFine q before r x) → IsFine place call p step
        by_kind (finds_record is) earlier = record_fine place call p step s is
        by_kind (lists_its id is alike) earlier = chunks_fine place call p step id s is alike
        by_kind (asks_on m) earlier = let below = m.less in more_fine place call p step s m (earlier m.before (omega (arith, less, below)) m.its)

    -- It refused none of them.
    pub get_taken : NoneRefused c i calls (steps_of history)
    get_taken position step own at =
        let by = call_at calls its position own in
        is_taken (asked step.command) (told_at step) (all_fine (suc by.place) by.place (omega arith) by.of by.call position step by.there by.position_is at).taken
