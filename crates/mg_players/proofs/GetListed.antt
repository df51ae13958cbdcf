-- A download that was opened lists its chunks by a reply that its opening heard.
use Rattle.std.proofs.Common.{◌≡◌, ◌⊎◌, ◌≤◌, ℕ, ℤ, true, List, length, take, Some, None, refl, sym, ap, ◌∙◌, subst, inl, inr, arith}
use Rattle.mg_bson.specs.Raw.{fields}
use Rattle.mg_bson.specs.Tree.{Tree}
use Rattle.mg_server.specs.Calls.{Came, Flies, HeardBy, Past, past_of}
use Rattle.mg_server.specs.Commands.{batch_of}
use Rattle.mg_link.specs.Exec.{IsSuccess, Runs, Sending, Stage, unsent}
use Rattle.mg_server.specs.Files.{chunks_space}
use Rattle.mg_server.specs.History.{state_of, told_at}
use Rattle.mg_link.specs.Link.{Awaited, LogTold, SendsNothing}
use Rattle.mg_link.specs.Log.{Call, reply}
use Rattle.mg_link.specs.Namespace.{space}
use Rattle.mg_server.specs.Standing.{OpensId}
use Rattle.mg_link.specs.declared.action.Step.{Step as Polled}
use Rattle.mg_link.specs.declared.action.Step.TheVariants as came
use Rattle.mg_server.proofs.Calls.{request_ran, success_ran}
use Rattle.mg_server.proofs.Owners.{same_some}
use Rattle.mg_server.proofs.Pasts.{heard_by}
use Rattle.mg_options.specs.Fields.{Line, fields_in}
use Rattle.mg_ops.specs.Cursors.{Cursor, OpensWith}
use Rattle.mg_ops.specs.Naming.{IsNamed}
use Rattle.mg_ops.specs.declared.cursor_reply.CursorSpecification.{CursorSpecification}
use Rattle.mg_ops.proofs.Replying.{same_id}
use Rattle.mg_cursor.specs.Client as client
use Rattle.mg_cursor.specs.Client.{ClientCursor, new_client}
use Rattle.mg_records.specs.FileRecords.{FileRecord}
use Rattle.mg_chunks.specs.Broken.{broken}
use Rattle.mg_gridfs.specs.Buckets.{ClientBucket}
use Rattle.mg_gridfs.specs.Commands.{found_lines, listed_lines}
use Rattle.mg_gridfs.specs.Downloaded.{IsPlainAt, chunks_query}
use Rattle.mg_gridfs.specs.Downloads as downloads
use Rattle.mg_gridfs.specs.Downloads.{ClientDownload, empty_download, new_download}
use Rattle.mg_gridfs.specs.Findings as findings
use Rattle.mg_gridfs.specs.Findings.{BeginsFind, ClientFinding, FindsOn, HearsList, HearsRecord, IsSoundFinding, ListsOn, Looking, Opened, Opens, OpensFile, SoundIn}
use Rattle.mg_gridfs.specs.ReadCauses.{IsOpening, LookingUnderway, cursor_in}
use Rattle.mg_players.specs.Gets.{AsksPlainly, GetTask, chunks_find}
use Rattle.mg_players.specs.Reading.{IsListOf, ListsChunks, ListsIts, empties}
use Rattle.mg_players.proofs.GetListing.{list_asks, list_step}
use Rattle.mg_players.proofs.GetSending.{listed_same}
use Rattle.mg_players.proofs.GetSteps.{query_opened}

-- ---- what a poll of the opening heard

-- its chunks are listed by a reply that was heard
pub record IsHeardList (past : Past) (b : ClientBucket) (d : ClientDownload) : Type 0 where
  pub count : ℕ
  pub bytes : List ℕ
  pub heard : HeardBy past (fields_in (listed_lines b d.file.id)) (reply bytes)
  pub success : IsSuccess bytes
  pub out : CursorSpecification
  pub opens : OpensWith None None None bytes out
  pub download : d ≡ new_download d.file count (new_client out)

abbrev Heard : Past → ClientBucket → Opened → Type 0
Heard past b (findings.waits doing) = Unit {0}
Heard past b (findings.opens d) = (d.doing ≡ downloads.ended) ⊎ IsHeardList past b d
Heard past b (findings.fails e) = Unit {0}

module _ (b : ClientBucket) (places : List ℕ) (since : ℕ) (wire : ℤ) where
  abbrev Behind : LogTold → Opened → Type 0
  Behind log' r = (calls' : List Call) × (log' ≡ Some calls') × Heard (past_of places since calls' wire) b r

  quietly : (old new : Awaited) (log log' : LogTold) (calls : List Call) (r q : Opened) → log ≡ Some calls → SendsNothing old new log log' → r ≡ q → Heard (past_of places since calls wire) b q → Behind log' r
  quietly old new log log' calls r q told none is h = (calls, none.log_same ∙ told, subst (Heard (past_of places since calls wire) b) (sym is) h)

  module _ (old new : Awaited) (log log' : LogTold) (f : FileRecord) (count : ℕ) (s : Sending) (r : Opened) where
    list_came : (c : Polled Sending (List ℕ)) → Runs old new log log' wire s c → HearsList f count c r → (past : Past) → Came new past (fields_in (listed_lines b f.id)) true c → Heard past b r
    list_came (came.Pending s') runs h past flies = subst (Heard past b) (sym h) tt
    list_came (came.Done bytes) runs (findings.opened out w is) past last =
        subst (Heard past b) (sym is) (inr (record { count = count; bytes = bytes; heard = heard_by past (fields_in (listed_lines b f.id)) true (reply bytes) last; success = success_ran old new log log' wire s bytes runs; out = out; opens = w; download = refl }))
    list_came (came.Done bytes) runs (findings.broke e why is) past last = subst (Heard past b) (sym is) tt
    list_came (came.Failed e) runs h past why = subst (Heard past b) (sym h) tt

    lists_came : (calls : List Call) → log ≡ Some calls → since ≤ length calls → fields s.command ≡ fields_in (listed_lines b f.id) → s.retries ≡ true → Flies old (past_of places since calls wire) (fields_in (listed_lines b f.id)) s.stage → ListsOn old new log log' wire f count s r → Behind log' r
    lists_came calls told room command retries flies on =
        let ran = request_ran old new log log' wire s (fields_in (listed_lines b f.id)) true on.came command retries on.runs calls told places since room flies in
        (ran.calls', ran.told, list_came on.came on.runs on.hears (past_of places since ran.calls' wire) ran.came)

  -- what is built flies nowhere yet
  flies_new : (awaited : Awaited) (past : Past) (lines : List Line) (s : Sending) → s.stage ≡ unsent → Flies awaited past (fields_in lines) s.stage
  flies_new awaited past lines s is = subst (λ (stage : Stage). Flies awaited past (fields_in lines) stage) (sym is) tt

  opens_came : (old new : Awaited) (log log' : LogTold) (f : FileRecord) (r : Opened) (calls : List Call) → log ≡ Some calls → since ≤ length calls → OpensFile old new log log' wire b f r → Behind log' r
  opens_came old new log log' f r calls told room (findings.too_many m many none is) = quietly old new log log' calls r (findings.fails (broken m)) told none is tt
  opens_came old new log log' f r calls told room (findings.is_empty zero_long none is) = quietly old new log log' calls r (findings.opens (empty_download f)) told none is (inl refl)
  opens_came old new log log' f r calls told room (findings.not_built some e why none is) = quietly old new log log' calls r (findings.fails e) told none is tt
  opens_came old new log log' f r calls told room (findings.listed some count counted s new_one on) =
      lists_came old new log log' f count s r calls told room new_one.command_is new_one.retries_is (flies_new old (past_of places since calls wire) (listed_lines b f.id) s new_one.new) on

  hears_came : (old new : Awaited) (log log' : LogTold) (id : Tree) (bytes : List ℕ) (r : Opened) (calls : List Call) → log ≡ Some calls → since ≤ length calls → HearsRecord old new log log' wire b id bytes r → Behind log' r
  hears_came old new log log' id bytes r calls told room (findings.none_found reads_so e not_there none is) = quietly old new log log' calls r (findings.fails e) told none is tt
  hears_came old new log log' id bytes r calls told room (findings.is_found f reads_so on) = opens_came old new log log' f r calls told room on
  hears_came old new log log' id bytes r calls told room (findings.broke e why none is) = quietly old new log log' calls r (findings.fails e) told none is tt

  finds_came : (old new : Awaited) (log log' : LogTold) (id : Tree) (s : Sending) (r : Opened) (calls : List Call) → log ≡ Some calls → since ≤ length calls → fields s.command ≡ fields_in (found_lines b id) → s.retries ≡ true → Flies old (past_of places since calls wire) (fields_in (found_lines b id)) s.stage → FindsOn old new log log' wire b id s r
      → Behind log' r
  finds_came old new log log' id s r calls told room command retries flies (findings.pends still runs is) =
      let ran = request_ran old new log log' wire s (fields_in (found_lines b id)) true (came.Pending still) command retries runs calls told places since room flies in
      (ran.calls', ran.told, subst (Heard (past_of places since ran.calls' wire) b) (sym is) tt)
  finds_came old new log log' id s r calls told room command retries flies (findings.hears between log_between bytes runs on) =
      let ran = request_ran old between log log_between wire s (fields_in (found_lines b id)) true (came.Done bytes) command retries runs calls told places since room flies in
      hears_came between new log_between log' id bytes r ran.calls' ran.told ran.room on
  finds_came old new log log' id s r calls told room command retries flies (findings.failed e runs is) =
      let ran = request_ran old new log log' wire s (fields_in (found_lines b id)) true (came.Failed e) command retries runs calls told places since room flies in
      (ran.calls', ran.told, subst (Heard (past_of places since ran.calls' wire) b) (sym is) tt)

  begins_came : (old new : Awaited) (log log' : LogTold) (id : Tree) (r : Opened) (calls : List Call) → log ≡ Some calls → since ≤ length calls → BeginsFind old new log log' wire b id r → Behind log' r
  begins_came old new log log' id r calls told room (findings.built s new_one on) =
      finds_came old new log log' id s r calls told room new_one.command_is new_one.retries_is (flies_new old (past_of places since calls wire) (found_lines b id) s new_one.new) on
  begins_came old new log log' id r calls told room (findings.not_built e why none is) = quietly old new log log' calls r (findings.fails e) told none is tt

module _ (old new : Awaited) (log log' : LogTold) (wire : ℤ) (o : ClientFinding) (d : ClientDownload) (sound : IsSoundFinding o) where
  sound_at : (b : ClientBucket) (doing : Looking) → o.bucket ≡ Some b → o.doing ≡ doing → SoundIn b o.id doing
  sound_at b doing is at = subst (SoundIn b o.id) at (sound.own b is)

  under_at : (past : Past) (b : ClientBucket) (doing : Looking) → o.bucket ≡ Some b → o.doing ≡ doing → IsOpening old past o → LookingUnderway old past b o.id doing
  under_at past b doing is at under = subst (LookingUnderway old past b o.id) at (under b is)

  same_bucket : (b c : ClientBucket) → o.bucket ≡ Some b → o.bucket ≡ Some c → b ≡ c
  same_bucket b c is at = same_some b c (sym is ∙ at)

  -- Behind a poll that opened it: it has none, or its chunks are listed by a reply that was heard.
  pub opening_listed : Opens old new log log' wire o (findings.opens d) → (calls : List Call) → log ≡ Some calls → (places : List ℕ) → IsOpening old (past_of places (length calls) calls wire) o → (b : ClientBucket) → o.bucket ≡ Some b → (calls' : List Call) → log' ≡ Some calls'
      → (d.doing ≡ downloads.ended) ⊎ IsHeardList (past_of places (length calls) calls' wire) b d
  opening_listed opens calls told places under b here calls' told' = at_last (by_opening opens)
    where
      at_last : Behind b places (length calls) wire log' (findings.opens d) → (d.doing ≡ downloads.ended) ⊎ IsHeardList (past_of places (length calls) calls' wire) b d
      at_last h = subst (λ (l : List Call). (d.doing ≡ downloads.ended) ⊎ IsHeardList (past_of places (length calls) l wire) b d) (same_some h.0 calls' (sym h.1 ∙ told')) h.2

      room : length calls ≤ length calls
      room = omega arith

      of_it : (x : ClientBucket) → o.bucket ≡ Some x → Behind x places (length calls) wire log' (findings.opens d) → Behind b places (length calls) wire log' (findings.opens d)
      of_it x is h = subst (λ (y : ClientBucket). Behind y places (length calls) wire log' (findings.opens d)) (same_bucket x b is here) h

      by_opening : Opens old new log log' wire o (findings.opens d) → Behind b places (length calls) wire log' (findings.opens d)
      by_opening (findings.no_bucket none quiet is) = absurd (let bad : Some b ≡ None = sym here ∙ none in cc)
      by_opening (findings.begins x is at on) = of_it x is (begins_came x places (length calls) wire old new log log' o.id (findings.opens d) calls told room on)
      by_opening (findings.finds_on x is s at on) =
          let own = sound_at x (findings.finds s) is at in
          of_it x is (finds_came x places (length calls) wire old new log log' o.id s (findings.opens d) calls told room own.command_is own.retries_is (under_at (past_of places (length calls) calls wire) x (findings.finds s) is at under) on)
      by_opening (findings.lists_on x is f count s at on) =
          let own = (sound_at x (findings.lists f count s) is at).request in
          of_it x is (lists_came x places (length calls) wire old new log log' f count s (findings.opens d) calls told room own.command_is own.retries_is (under_at (past_of places (length calls) calls wire) x (findings.lists f count s) is at under).0 on)

-- ---- how its cursor stands

module _ (g : GetTask) (b : ClientBucket) (plain : IsPlainAt b g.at) (past : Past) (d : ClientDownload) (asks : AsksPlainly d) where
  new_listed : IsHeardList past b d → ListsIts past g d
  new_listed h c is =
      let x : ClientCursor = new_client h.out in
      let doing_is : d.doing ≡ downloads.idle x = ap (λ (y : ClientDownload). y.doing) h.download in
      let same : x ≡ c = same_some x c (sym (ap cursor_in doing_is) ∙ is) in
      let none : empties d.doing ≡ 0 = ap empties doing_is in
      let named : IsNamed (chunks_space g.at) = subst IsNamed plain.named.place.chunks plain.named.chunks in
      let said : Cursor = record { id = h.out.info.id; space = space h.out.info.ns; token = h.out.post_batch_resume_token; batch = h.opens.opens.batch } in
      let listed : HeardBy past (chunks_find g d.file.id) (reply h.bytes) = subst (λ (lines : List Line). HeardBy past (fields_in lines) (reply h.bytes)) (listed_same g b d.file.id plain) h.heard in
      let l : IsListOf past g d.file x h.bytes = record { heard = listed; success = h.success; said = said; says = h.opens.opens.says; id_is = refl } in
      subst (λ (y : ClientCursor). ListsChunks past g d.file (empties d.doing) y) same
      (record {
        named = named;
        told = record { command = chunks_find g d.file.id; bytes = h.bytes; heard = listed; said = said; says = h.opens.opens.says; id_is = refl; space_is = refl; plain = asks x (ap cursor_in doing_is) };
        held = λ bytes holding. (none, subst (IsListOf past g d.file x) (sym h.opens.opens.whole ∙ same_held h.out.initial_reply bytes holding) l);
        queried = λ history legal stands ne.
            let s = list_step past history legal stands g d.file x h.bytes named l in
            let there : batch_of (fields h.bytes) ≡ Some s.1.batch = ap (λ (y : List ℕ). batch_of (fields y)) s.0.reply_is ∙ s.1.there in
            let as_batch : x.id ≡ s.1.batch.id = same_id (fields h.bytes) said s.1.batch h.opens.opens.says there in
            record {
              position = s.0.position;
              step = s.0.step;
              there = s.0.there;
              asks = (chunks_query (chunks_space g.at) d.file.id, list_asks g d.file.id s.0.step.command named s.0.command_is);
              opens = subst (OpensId (told_at s.0.step)) (sym as_batch) (query_opened s.0.step (state_of (take s.0.position history)) (chunks_query (chunks_space g.at) d.file.id) s.1 (λ z. ne (as_batch ∙ z)));
            };
        over = λ some. absurd (omega (arith, some, none));
      })
    where
      same_held : (x y : List ℕ) → client.holds x ≡ client.holds y → x ≡ y
      same_held x y e = cc

  pub opened_listed : (d.doing ≡ downloads.ended) ⊎ IsHeardList past b d → ListsIts past g d
  opened_listed (inl over) c is = absurd (let bad : None ≡ Some c = sym (ap cursor_in over) ∙ is in cc)
  opened_listed (inr h) c is = new_listed h c is
