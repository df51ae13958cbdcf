-- What the answers of an opening of a download are caused by.
use Rattle.std.proofs.Common.{◌≡◌, ◌≤◌, ℕ, ℤ, true, List, length, Option, Some, None, refl, sym, ap, ◌∙◌, subst, inl, inr, arith}
use Rattle.mg_server.specs.Calls.{Came, Flies, Grows, Keeps, Past, past_of, was_broken}
use Rattle.mg_link.specs.Exec.{Runs, Sending, Stage, unsent}
use Rattle.mg_link.specs.Link.{Awaited, SendsNothing, LogTold}
use Rattle.mg_link.specs.Log.{Call, reply}
use Rattle.mg_link.specs.declared.action.Step.{Step}
use Rattle.mg_link.specs.declared.action.Step.TheVariants as came
use Rattle.mg_link.specs.declared.error.Error.{Error}
use Rattle.mg_server.proofs.Calls.{RequestRan, keeps_on, request_ran, same_keeps, success_ran}
use Rattle.mg_server.proofs.Filed.{Grew}
use Rattle.mg_server.proofs.Owners.{same_some}
use Rattle.mg_server.proofs.Pasts.{fails_anyhow, heard_by, heard_reply}
use Rattle.mg_options.specs.Fields.{Line, fields_in}
use Rattle.mg_ops.specs.Failing.{FailsBy}
use Rattle.mg_cursor.specs.Causes.{TellsNoCursor}
use Rattle.mg_records.specs.FileRecords.{FileRecord}
use Rattle.mg_chunks.specs.Broken.{Breaks, broken}
use Rattle.mg_gridfs.specs.Buckets.{ClientBucket}
use Rattle.mg_gridfs.specs.Commands.{CannotSend, IsNewRequest, IsRequest, found_lines, listed_lines}
use Rattle.mg_gridfs.specs.Findings as finding
use Rattle.mg_gridfs.specs.Findings.{BeginsFind, BreaksRecord, ClientFinding, FindsOn, HearsList, HearsRecord, IsSoundFinding, ListsOn, Looking, Opened, Opens, OpensFile, ReadsRecord, SoundIn, fails, finds, lists}
use Rattle.mg_gridfs.specs.ReadCauses as causes
use Rattle.mg_gridfs.specs.ReadCauses.{HeardRecord, IsOpening, LookingUnderway, OpeningCame, OpeningCaused, OpeningFails, TellsNoRecord}
use Rattle.mg_bson.specs.Tree.{Tree}

-- what is built flies nowhere yet
flies_new : (awaited : Awaited) (past : Past) (lines : List Line) (s : Sending) → s.stage ≡ unsent → Flies awaited past (fields_in lines) s.stage
flies_new awaited past lines s is = subst (λ (stage : Stage). Flies awaited past (fields_in lines) stage) (sym is) tt

-- a new request is one of its lines
new_request : (lines : List Line) (s : Sending) → IsNewRequest true lines s → IsRequest true lines s
new_request lines s new = record { command_is = new.command_is; retries_is = new.retries_is; at = tt }

pub record_grows : (past past' : Past) → Grows past past' → (b : ClientBucket) (id : Tree) (found : Option FileRecord) → HeardRecord past b id found → HeardRecord past' b id found
record_grows past past' grows b id found h = record { bytes = h.bytes; heard = heard_reply past past' grows (fields_in (found_lines b id)) h.bytes h.heard; success = h.success; reads_so = h.reads_so }

-- want of memory, or a cause
opening_kind : (past : Past) (b : ClientBucket) (id : Tree) (Cause : Error → Type 0) (e : Error) → ((x : Error) → Cause x → OpeningFails past b id x) → FailsBy Cause e → OpeningFails past b id e
opening_kind past b id Cause e leads (inl memory) = causes.out_of_memory (ap (λ (x : Error). x.kind) memory)
opening_kind past b id Cause e leads (inr cause) = leads e cause

module _ (b : ClientBucket) (id : Tree) (places : List ℕ) (since : ℕ) (wire : ℤ) where
  -- the log has grown, and this is the answer
  abbrev Answers : Awaited → List Call → LogTold → Opened → Type 0
  Answers new calls log' r = Grew places since calls log' wire (λ past. OpeningCame new past b id r)

  quietly : (old new : Awaited) (log log' : LogTold) (calls : List Call) (r q : Opened) → log ≡ Some calls → SendsNothing old new log log' → r ≡ q → OpeningCame new (past_of places since calls wire) b id q → Answers new calls log' r
  quietly old new log log' calls r q told none is h = (calls, none.log_same ∙ told, same_keeps calls, subst (OpeningCame new (past_of places since calls wire) b id) (sym is) h)

  -- ---- the list of chunks

  module _ (old new : Awaited) (log log' : LogTold) (f : FileRecord) (count : ℕ) (s : Sending) (r : Opened) where
    list_came : (c : Step Sending (List ℕ)) → Runs old new log log' wire s c → HearsList f count c r → (past : Past) → HeardRecord past b id (Some f) → Came new past (fields_in (listed_lines b f.id)) true c → OpeningCame new past b id r
    list_came (came.Pending s') runs h past heard flies = subst (OpeningCame new past b id) (sym h) (flies, heard)
    list_came (came.Done bytes) runs (finding.opened out opens_so is) past heard last = subst (OpeningCame new past b id) (sym is) heard
    list_came (came.Done bytes) runs (finding.broke e fails_so is) past heard last =
        subst (OpeningCame new past b id) (sym is) (opening_kind past b id _ e (λ x breaks. causes.by_list f heard (was_broken bytes last (success_ran old new log log' wire s bytes runs) breaks)) fails_so)
    list_came (came.Failed e) runs h past heard why = subst (OpeningCame new past b id) (sym h) (causes.by_list f heard (fails_anyhow past (fields_in (listed_lines b f.id)) true TellsNoCursor e why))

    lists_caused : (calls : List Call) → log ≡ Some calls → since ≤ length calls → IsRequest true (listed_lines b f.id) s → Flies old (past_of places since calls wire) (fields_in (listed_lines b f.id)) s.stage → HeardRecord (past_of places since calls wire) b id (Some f) → ListsOn old new log log' wire f count s r → Answers new calls log' r
    lists_caused calls told room own flies heard on =
        let ran = request_ran old new log log' wire s (fields_in (listed_lines b f.id)) true on.came own.command_is own.retries_is on.runs calls told places since room flies in
        (ran.calls', ran.told, ran.grows.keeps, list_came on.came on.runs on.hears (past_of places since ran.calls' wire) (record_grows (past_of places since calls wire) (past_of places since ran.calls' wire) ran.grows b id (Some f) heard) ran.came)

  -- ---- behind the record

  opens_caused : (old new : Awaited) (log log' : LogTold) (f : FileRecord) (r : Opened) (calls : List Call) → log ≡ Some calls → since ≤ length calls → HeardRecord (past_of places since calls wire) b id (Some f) → OpensFile old new log log' wire b f r → Answers new calls log' r
  opens_caused old new log log' f r calls told room heard (finding.too_many m many none is) =
      quietly old new log log' calls r (fails (broken m)) told none is (causes.too_many f heard (subst (λ x. Breaks x (broken m)) (sym many) refl))
  opens_caused old new log log' f r calls told room heard (finding.is_empty zero_long none is) = quietly old new log log' calls r _ told none is heard
  opens_caused old new log log' f r calls told room heard (finding.not_built some e fails_so none is) =
      quietly old new log log' calls r (fails e) told none is (opening_kind (past_of places since calls wire) b id (CannotSend (listed_lines b f.id)) e (λ x cannot. causes.list_not_built f heard cannot) fails_so)
  opens_caused old new log log' f r calls told room heard (finding.listed some count counted s new_one on) =
      lists_caused old new log log' f count s r calls told room (new_request (listed_lines b f.id) s new_one) (flies_new old (past_of places since calls wire) (listed_lines b f.id) s new_one.new) heard on

  hears_caused : (old new : Awaited) (log log' : LogTold) (bytes : List ℕ) (r : Opened) (calls : List Call) → log ≡ Some calls → since ≤ length calls → ((found : Option FileRecord) → ReadsRecord bytes found → HeardRecord (past_of places since calls wire) b id found)
      → ((e : Error) → BreaksRecord bytes e → OpeningFails (past_of places since calls wire) b id e) → HearsRecord old new log log' wire b id bytes r → Answers new calls log' r
  hears_caused old new log log' bytes r calls told room heard breaks (finding.none_found reads_so e not_there none is) = quietly old new log log' calls r (fails e) told none is (causes.not_found (heard None reads_so) not_there)
  hears_caused old new log log' bytes r calls told room heard breaks (finding.is_found f reads_so on) = opens_caused old new log log' f r calls told room (heard (Some f) reads_so) on
  hears_caused old new log log' bytes r calls told room heard breaks (finding.broke e fails_so none is) =
      quietly old new log log' calls r (fails e) told none is (opening_kind (past_of places since calls wire) b id (BreaksRecord bytes) e breaks fails_so)

  -- ---- the find of the record

  find_ran : (old new : Awaited) (log log' : LogTold) (s : Sending) (c : Step Sending (List ℕ)) (calls : List Call) → log ≡ Some calls → since ≤ length calls → IsRequest true (found_lines b id) s → Flies old (past_of places since calls wire) (fields_in (found_lines b id)) s.stage → Runs old new log log' wire s c
      → RequestRan new places since calls log' wire (fields_in (found_lines b id)) true c
  find_ran old new log log' s c calls told room own flies runs = request_ran old new log log' wire s (fields_in (found_lines b id)) true c own.command_is own.retries_is runs calls told places since room flies

  finds_caused : (old new : Awaited) (log log' : LogTold) (s : Sending) (r : Opened) (calls : List Call) → log ≡ Some calls → since ≤ length calls → IsRequest true (found_lines b id) s → Flies old (past_of places since calls wire) (fields_in (found_lines b id)) s.stage → FindsOn old new log log' wire b id s r → Answers new calls log' r
  finds_caused old new log log' s r calls told room own flies (finding.pends still runs is) =
      let ran = find_ran old new log log' s (came.Pending still) calls told room own flies runs in
      (ran.calls', ran.told, ran.grows.keeps, subst (OpeningCame new (past_of places since ran.calls' wire) b id) (sym is) ran.came)
  finds_caused old new log log' s r calls told room own flies (finding.hears between log_between bytes runs heard_so) =
      let ran = find_ran old between log log_between s (came.Done bytes) calls told room own flies runs in
      let past = past_of places since ran.calls' wire in
      let success = success_ran old between log log_between wire s bytes runs in
      let h = hears_caused between new log_between log' bytes r ran.calls' ran.told ran.room
      (λ found reads_so. record { bytes = bytes; heard = heard_by past (fields_in (found_lines b id)) true (reply bytes) ran.came; success = success; reads_so = reads_so })
      (λ e breaks. causes.by_find (was_broken bytes ran.came success breaks)) heard_so in
      (h.0, h.1, keeps_on calls ran.calls' h.0 ran.grows.keeps h.2, h.3)
  finds_caused old new log log' s r calls told room own flies (finding.failed e runs is) =
      let ran = find_ran old new log log' s (came.Failed e) calls told room own flies runs in
      let past = past_of places since ran.calls' wire in
      (ran.calls', ran.told, ran.grows.keeps, subst (OpeningCame new past b id) (sym is) (causes.by_find (fails_anyhow past (fields_in (found_lines b id)) true TellsNoRecord e ran.came)))

  begins_caused : (old new : Awaited) (log log' : LogTold) (r : Opened) (calls : List Call) → log ≡ Some calls → since ≤ length calls → BeginsFind old new log log' wire b id r → Answers new calls log' r
  begins_caused old new log log' r calls told room (finding.built s new_one on) = finds_caused old new log log' s r calls told room (new_request (found_lines b id) s new_one) (flies_new old (past_of places since calls wire) (found_lines b id) s new_one.new) on
  begins_caused old new log log' r calls told room (finding.not_built e fails_so none is) =
      quietly old new log log' calls r (fails e) told none is (opening_kind (past_of places since calls wire) b id (CannotSend (found_lines b id)) e (λ x cannot. causes.find_not_built cannot) fails_so)

-- ---- a poll

module _ (old new : Awaited) (log log' : LogTold) (wire : ℤ) (o : ClientFinding) (r : Opened) (sound : IsSoundFinding o) where
  -- of its bucket
  for_bucket : (b : ClientBucket) → o.bucket ≡ Some b → (calls : List Call) (places : List ℕ) → Grew places (length calls) calls log' wire (λ past. OpeningCame new past b o.id r) → (calls' : List Call) × (log' ≡ Some calls') × Keeps calls calls' × ((x : ClientBucket) → o.bucket ≡ Some x → OpeningCame new (past_of places (length calls) calls' wire) x o.id r)
  for_bucket b is calls places g = (g.0, g.1, g.2, λ x at. subst (λ (y : ClientBucket). OpeningCame new (past_of places (length calls) g.0 wire) y o.id r) (same_some b x (sym is ∙ at)) g.3)

  sound_at : (b : ClientBucket) (doing : Looking) → o.bucket ≡ Some b → o.doing ≡ doing → SoundIn b o.id doing
  sound_at b doing is at = subst (SoundIn b o.id) at (sound.own b is)

  under_at : (past : Past) (b : ClientBucket) (doing : Looking) → o.bucket ≡ Some b → o.doing ≡ doing → IsOpening old past o → LookingUnderway old past b o.id doing
  under_at past b doing is at under = subst (LookingUnderway old past b o.id) at (under b is)

  pub opening_caused : Opens old new log log' wire o r → OpeningCaused old new log log' wire o r
  opening_caused (finding.no_bucket none quiet is) calls told places under = (calls, quiet.log_same ∙ told, same_keeps calls, λ x at. let bad : None ≡ Some x = sym none ∙ at in absurd cc)
  opening_caused (finding.begins b is at on) calls told places under = for_bucket b is calls places (begins_caused b o.id places (length calls) wire old new log log' r calls told (omega arith) on)
  opening_caused (finding.finds_on b is s at on) calls told places under =
      for_bucket b is calls places (finds_caused b o.id places (length calls) wire old new log log' s r calls told (omega arith) (sound_at b (finds s) is at) (under_at (past_of places (length calls) calls wire) b (finds s) is at under) on)
  opening_caused (finding.lists_on b is f count s at on) calls told places under =
      let h = under_at (past_of places (length calls) calls wire) b (lists f count s) is at under in
      for_bucket b is calls places (lists_caused b o.id places (length calls) wire old new log log' f count s r calls told (omega arith) (sound_at b (lists f count s) is at).request h.0 h.1 on)
