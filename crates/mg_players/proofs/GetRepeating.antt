-- The finds that the polls of a get's opening send: each is sent once more only behind one that was lost, or refused so.
use Rattle.std.proofs.Common.{◌≡◌, ◌≢◌, ◌≤◌, ◌++◌, ◌-◌, ℕ, ℤ, true, List, [], length, Option, Some, None, refl, sym, ap, ◌∙◌, subst, inl, inr, arith, append-nil, append_assoc}
use Rattle.mg_bson.specs.Raw.{fields}
use Rattle.mg_bson.specs.Tree.{Fields, Tree}
use Rattle.mg_server.specs.Calls.{Flies, Keeps, past_of}
use Rattle.mg_link.specs.Errors as errors
use Rattle.mg_link.specs.Exec.{Sending, Stage}
use Rattle.mg_link.specs.Link.{Awaited, LogTold, SendsNothing}
use Rattle.mg_link.specs.Log.{Call, reply}
use Rattle.mg_link.specs.declared.action.Step.{Step}
use Rattle.mg_link.specs.declared.action.Step.TheVariants as came
use Rattle.mg_link.specs.declared.error.Error.{Error}
use Rattle.mg_link.specs.declared.error.ErrorKind.TheVariants as kind
use Rattle.mg_server.proofs.Calls.{keeps_longer, keeps_on, request_ran, same_keeps, success_ran}
use Rattle.mg_server.proofs.Owners.{same_some}
use Rattle.mg_server.proofs.Pasts.{heard_by}
use Rattle.mg_options.specs.Fields.{fields_in}
use Rattle.mg_change.specs.Calling.{IsRequestAt, RequestFar, places_from}
use Rattle.mg_change.proofs.Calling.{RequestCame, request_later, request_sent}
use Rattle.mg_change.proofs.Grown.{since_none, since_on}
use Rattle.mg_records.specs.FileRecords.{FileRecord}
use Rattle.mg_chunks.specs.Broken.{broken}
use Rattle.mg_gridfs.specs.Buckets.{ClientBucket}
use Rattle.mg_gridfs.specs.Commands.{found_lines, listed_lines}
use Rattle.mg_gridfs.specs.Downloaded.{IsPlainAt}
use Rattle.mg_gridfs.specs.Downloads.{empty_download}
use Rattle.mg_gridfs.specs.Findings as findings
use Rattle.mg_gridfs.specs.Findings.{BeginsFind, ClientFinding, FindsOn, HearsList, HearsRecord, IsSoundFinding, ListsOn, Looking, Opened, Opens, OpensFile, SoundIn}
use Rattle.mg_gridfs.specs.ReadCauses.{HeardRecord, IsOpening, LookingUnderway}
use Rattle.mg_gridfs.proofs.Opened.{record_grows}
use Rattle.mg_players.specs.Causes.{FindsAt, OpeningAsks, sent_at, sent_since}
use Rattle.mg_players.specs.Buckets.{plain_bucket}
use Rattle.mg_players.specs.Gets.{GetTask, IsOpeningFor, chunks_find, record_find}
use Rattle.mg_players.specs.Telling.{FindsFar}
use Rattle.mg_players.proofs.GetCausing.{heard_same}
use Rattle.mg_players.proofs.GetFinds.{far_finds, finds_fall}
use Rattle.mg_players.proofs.GetSending.{found_same, listed_same}
use Rattle.mg_players.proofs.Telling.{grows_ended}

-- ---- a poll

module _ (g : GetTask) (places : List ℕ) (since : ℕ) (wire : ℤ) where
  -- what an opening sent that failed, and which record it had heard
  record Failed (calls : List Call) (own : List ℕ) : Type 0 where
    found : Option FileRecord
    sends : FindsAt calls g found own
    heard : (f : FileRecord) → found ≡ Some f → HeardRecord (past_of places since calls wire) (plain_bucket g.at) g.id (Some f)

  abbrev Sends : Awaited → List Call → List ℕ → Opened → Type 0
  Sends awaited calls own (findings.waits doing) = FindsFar awaited calls g own doing
  Sends awaited calls own (findings.opens d) = FindsAt calls g (Some d.file) own
  Sends awaited calls own (findings.fails e) = Failed calls own

  -- behind a poll that began with one log
  record SentTo (new : Awaited) (begun : List Call) (log' : LogTold) (own : List Call → List ℕ) (r : Opened) : Type 0 where
    calls' : List Call
    told : log' ≡ Some calls'
    keeps : Keeps begun calls'
    sends : Sends new calls' (own calls') r

  its_record : (calls : List Call) (f : FileRecord) → HeardRecord (past_of places since calls wire) (plain_bucket g.at) g.id (Some f) → (x : FileRecord) → Some f ≡ Some x → HeardRecord (past_of places since calls wire) (plain_bucket g.at) g.id (Some x)
  its_record calls f heard x is = subst (λ (y : Option FileRecord). HeardRecord (past_of places since calls wire) (plain_bucket g.at) g.id y) is heard

  no_record : (calls : List Call) (own : List ℕ) → FindsAt calls g None own → Failed calls own
  no_record calls own f = record { found = None; sends = f; heard = λ x is. let bad : None ≡ Some x = is in absurd cc }

  module _ (b : ClientBucket) (plain : IsPlainAt b g.at) (id : Tree) (same : id ≡ g.id) where
    is_find : (command : Fields) → command ≡ fields_in (found_lines b id) → command ≡ record_find g
    is_find command is = is ∙ ap fields_in (found_same g b id plain) ∙ ap (λ (x : Tree). fields_in (found_lines (plain_bucket g.at) x)) same

    is_list : (x : Tree) (command : Fields) → command ≡ fields_in (listed_lines b x) → command ≡ chunks_find g x
    is_list x command is = is ∙ ap fields_in (listed_same g b x plain)

    -- ---- the list of chunks

    -- behind the find of its record at these places, and what of the list was sent
    module _ (new : Awaited) (calls' : List Call) (f : FileRecord) (count : ℕ) (r : Opened) (finding listing : List ℕ) (some : f.length ≢ 0) (first : IsRequestAt calls' (record_find g) true finding) (heard : HeardRecord (past_of places since calls' wire) (plain_bucket g.at) g.id (Some f)) where
      all_listed : IsRequestAt calls' (chunks_find g f.id) true listing → FindsAt calls' g (Some f) (finding ++ listing)
      all_listed came = record { finding = finding; listing = listing; whole = refl; record_at = first; list_at = inr (some, came) }

      list_fails : IsRequestAt calls' (chunks_find g f.id) true listing → Failed calls' (finding ++ listing)
      list_fails came = record { found = Some f; sends = all_listed came; heard = its_record calls' f heard }

      list_came : (c : Step Sending (List ℕ)) → RequestCame new calls' (chunks_find g f.id) true listing c → HearsList f count c r → Sends new calls' (finding ++ listing) r
      list_came (came.Pending s) far is = subst (Sends new calls' (finding ++ listing)) (sym is) (finding, listing, refl, first, some, far)
      list_came (came.Done bytes) request (findings.opened out with is) = subst (Sends new calls' (finding ++ listing)) (sym is) (all_listed request)
      list_came (came.Done bytes) request (findings.broke e why is) = subst (Sends new calls' (finding ++ listing)) (sym is) (list_fails request)
      list_came (came.Failed e) request is = subst (Sends new calls' (finding ++ listing)) (sym is) (list_fails request)

    heard_its : (calls : List Call) (f : FileRecord) → HeardRecord (past_of places since calls wire) b id (Some f) → HeardRecord (past_of places since calls wire) (plain_bucket g.at) g.id (Some f)
    heard_its calls f h =
        let named : HeardRecord (past_of places since calls wire) (plain_bucket g.at) id (Some f) = heard_same (past_of places since calls wire) g b id (Some f) plain h in
        subst (λ (x : Tree). HeardRecord (past_of places since calls wire) (plain_bucket g.at) x (Some f)) same named

    lists_sent : (old new : Awaited) (log log' : LogTold) (f : FileRecord) (count : ℕ) (s : Sending) (r : Opened) (finding listing : List ℕ) (calls : List Call) → log ≡ Some calls → since ≤ length calls → f.length ≢ 0 → fields s.command ≡ fields_in (listed_lines b f.id) → s.retries ≡ true
        → Flies old (past_of places since calls wire) (fields_in (listed_lines b f.id)) s.stage → HeardRecord (past_of places since calls wire) b id (Some f) → IsRequestAt calls (record_find g) true finding → RequestFar old calls (chunks_find g f.id) true s.stage listing → ListsOn old new log log' wire f count s r
        → SentTo new calls log' (λ (c : List Call). finding ++ sent_since listing (length calls) (length c)) r
    lists_sent old new log log' f count s r finding listing calls told room some command retries flies heard first far on =
        let ran = request_ran old new log log' wire s (fields_in (listed_lines b f.id)) true on.came command retries on.runs calls told places since room flies in
        let keeps : Keeps calls ran.calls' = ran.grows.keeps in
        let later = heard_its ran.calls' f (record_grows (past_of places since calls wire) (past_of places since ran.calls' wire) ran.grows b id (Some f) heard) in
        record {
          calls' = ran.calls';
          told = ran.told;
          keeps = keeps;
          sends = list_came new ran.calls' f count r finding (sent_since listing (length calls) (length ran.calls')) some (request_later calls ran.calls' keeps (record_find g) true finding first) later on.came
              (request_sent old new log log' wire s (chunks_find g f.id) true on.came (is_list f.id (fields s.command) command) retries on.runs calls ran.calls' told ran.told listing far) on.hears;
        }

    -- ---- behind the record

    -- nothing more is sent
    quietly : (old new : Awaited) (log log' : LogTold) (calls : List Call) (finding : List ℕ) (r q : Opened) → log ≡ Some calls → SendsNothing old new log log' → r ≡ q → Sends new calls finding q → SentTo new calls log' (λ (c : List Call). finding ++ sent_since [] (length calls) (length c)) r
    quietly old new log log' calls finding r q told none is sends = record {
      calls' = calls;
      told = none.log_same ∙ told;
      keeps = same_keeps calls;
      sends = subst (λ (l : List ℕ). Sends new calls l r) (sym (ap (λ (l : List ℕ). finding ++ l) (since_none [] (length calls)) ∙ append-nil finding)) (subst (Sends new calls finding) (sym is) sends);
    }

    -- just the find of the record was sent
    only_found : (calls : List Call) (finding : List ℕ) → IsRequestAt calls (record_find g) true finding → FindsAt calls g None finding
    only_found calls finding first = record { finding = finding; listing = []; whole = sym (append-nil finding); record_at = first; list_at = refl }

    opens_sent : (old new : Awaited) (log log' : LogTold) (f : FileRecord) (r : Opened) (finding : List ℕ) (calls : List Call) → log ≡ Some calls → since ≤ length calls → HeardRecord (past_of places since calls wire) b id (Some f) → IsRequestAt calls (record_find g) true finding → OpensFile old new log log' wire b f r
        → SentTo new calls log' (λ (c : List Call). finding ++ sent_since [] (length calls) (length c)) r
    opens_sent old new log log' f r finding calls told room heard first (findings.too_many m many none is) = quietly old new log log' calls finding r (findings.fails (broken m)) told none is (no_record calls finding (only_found calls finding first))
    opens_sent old new log log' f r finding calls told room heard first (findings.is_empty zero_long none is) =
        quietly old new log log' calls finding r (findings.opens (empty_download f)) told none is (record { finding = finding; listing = []; whole = sym (append-nil finding); record_at = first; list_at = inl refl })
    opens_sent old new log log' f r finding calls told room heard first (findings.not_built some e why none is) = quietly old new log log' calls finding r (findings.fails e) told none is (no_record calls finding (only_found calls finding first))
    opens_sent old new log log' f r finding calls told room heard first (findings.listed some count counted s new_one on) =
        lists_sent old new log log' f count s r finding [] calls told room some new_one.command_is new_one.retries_is
        (subst (λ (stage : Stage). Flies old (past_of places since calls wire) (fields_in (listed_lines b f.id)) stage) (sym new_one.new) tt) heard first
        (subst (λ (stage : Stage). RequestFar old calls (chunks_find g f.id) true stage []) (sym new_one.new) refl) on

    hears_sent : (old new : Awaited) (log log' : LogTold) (bytes : List ℕ) (r : Opened) (finding : List ℕ) (calls : List Call) → log ≡ Some calls → since ≤ length calls → ((f : FileRecord) → findings.ReadsRecord bytes (Some f) → HeardRecord (past_of places since calls wire) b id (Some f)) → IsRequestAt calls (record_find g) true finding
        → HearsRecord old new log log' wire b id bytes r → SentTo new calls log' (λ (c : List Call). finding ++ sent_since [] (length calls) (length c)) r
    hears_sent old new log log' bytes r finding calls told room heard first (findings.none_found reads_so e not_there none is) = quietly old new log log' calls finding r (findings.fails e) told none is (no_record calls finding (only_found calls finding first))
    hears_sent old new log log' bytes r finding calls told room heard first (findings.is_found f reads_so on) = opens_sent old new log log' f r finding calls told room (heard f reads_so) first on
    hears_sent old new log log' bytes r finding calls told room heard first (findings.broke e why none is) = quietly old new log log' calls finding r (findings.fails e) told none is (no_record calls finding (only_found calls finding first))

    -- ---- the find of the record

    finds_sent : (old new : Awaited) (log log' : LogTold) (s : Sending) (r : Opened) (own : List ℕ) (calls : List Call) → log ≡ Some calls → since ≤ length calls → fields s.command ≡ fields_in (found_lines b id) → s.retries ≡ true → Flies old (past_of places since calls wire) (fields_in (found_lines b id)) s.stage
        → RequestFar old calls (record_find g) true s.stage own → FindsOn old new log log' wire b id s r → SentTo new calls log' (λ (c : List Call). sent_since own (length calls) (length c)) r
    finds_sent old new log log' s r own calls told room command retries flies far (findings.pends still runs is) =
        let ran = request_ran old new log log' wire s (fields_in (found_lines b id)) true (came.Pending still) command retries runs calls told places since room flies in
        record {
          calls' = ran.calls';
          told = ran.told;
          keeps = ran.grows.keeps;
          sends = subst (Sends new ran.calls' (sent_since own (length calls) (length ran.calls'))) (sym is)
              (request_sent old new log log' wire s (record_find g) true (came.Pending still) (is_find (fields s.command) command) retries runs calls ran.calls' told ran.told own far);
        }
    finds_sent old new log log' s r own calls told room command retries flies far (findings.hears between log_between bytes runs on) =
        let ran = request_ran old between log log_between wire s (fields_in (found_lines b id)) true (came.Done bytes) command retries runs calls told places since room flies in
        let mid : List Call = ran.calls' in
        let success = success_ran old between log log_between wire s bytes runs in
        let first = request_sent old between log log_between wire s (record_find g) true (came.Done bytes) (is_find (fields s.command) command) retries runs calls mid told ran.told own far in
        let rest = hears_sent between new log_between log' bytes r (sent_since own (length calls) (length mid)) mid ran.told ran.room
        (λ f reads_so. record { bytes = bytes; heard = heard_by (past_of places since mid wire) (fields_in (found_lines b id)) true (reply bytes) ran.came; success = success; reads_so = reads_so }) first on in
        record {
          calls' = rest.calls';
          told = rest.told;
          keeps = keeps_on calls mid rest.calls' ran.grows.keeps rest.keeps;
          sends = subst (λ (l : List ℕ). Sends new rest.calls' l r) (since_on own (length calls) (length mid) (length rest.calls') (keeps_longer calls mid ran.grows.keeps) (keeps_longer mid rest.calls' rest.keeps)) rest.sends;
        }
    finds_sent old new log log' s r own calls told room command retries flies far (findings.failed e runs is) =
        let ran = request_ran old new log log' wire s (fields_in (found_lines b id)) true (came.Failed e) command retries runs calls told places since room flies in
        let all : List ℕ = sent_since own (length calls) (length ran.calls') in
        record {
          calls' = ran.calls';
          told = ran.told;
          keeps = ran.grows.keeps;
          sends = subst (Sends new ran.calls' all) (sym is)
              (no_record ran.calls' all (only_found ran.calls' all (request_sent old new log log' wire s (record_find g) true (came.Failed e) (is_find (fields s.command) command) retries runs calls ran.calls' told ran.told own far)));
        }

-- what a poll of an opening leaves
abbrev pub SendsBehind : Awaited → List Call → ℤ → GetTask → List ℕ → Opened → Type 0
SendsBehind awaited calls wire g own (findings.waits doing) = FindsFar awaited calls g own doing
SendsBehind awaited calls wire g own (findings.opens d) = FindsAt calls g (Some d.file) own
SendsBehind awaited calls wire g own (findings.fails e) = (found : Option FileRecord) × OpeningAsks calls wire g found own

module _ (g : GetTask) (old new : Awaited) (log log' : LogTold) (wire : ℤ) (o : ClientFinding) (r : Opened) (aim : IsOpeningFor g o) (sound : IsSoundFinding o) (opens : Opens old new log log' wire o r) (calls calls' : List Call) (told : log ≡ Some calls) (told' : log' ≡ Some calls') (now : List ℕ) (under : IsOpening old (sent_at now calls wire) o) (far : FindsFar old calls g now o.doing) where
  abbrev To : Type 0
  To = SentTo g now (length calls) wire new calls log' (λ (c : List Call). sent_since now (length calls) (length c)) r

  sound_at : (b : ClientBucket) (doing : Looking) → o.bucket ≡ Some b → o.doing ≡ doing → SoundIn b o.id doing
  sound_at b doing is at = subst (SoundIn b o.id) at (sound.own b is)

  under_at : (b : ClientBucket) (doing : Looking) → o.bucket ≡ Some b → o.doing ≡ doing → LookingUnderway old (sent_at now calls wire) b o.id doing
  under_at b doing is at = subst (LookingUnderway old (sent_at now calls wire) b o.id) at (under b is)

  far_at : (doing : Looking) → o.doing ≡ doing → FindsFar old calls g now doing
  far_at doing at = subst (FindsFar old calls g now) at far

  room : length calls ≤ length calls
  room = omega arith

  -- it fails before it sends anything
  fails_first : (e : Error) → o.doing ≡ findings.starts → SendsNothing old new log log' → r ≡ findings.fails e → To
  fails_first e at none is = record {
    calls' = calls;
    told = none.log_same ∙ told;
    keeps = same_keeps calls;
    sends = subst (λ (l : List ℕ). Sends g now (length calls) wire new calls l r) (sym (since_none now (length calls)))
        (subst (Sends g now (length calls) wire new calls now) (sym is) (no_record g now (length calls) wire calls now (far_finds old calls g now findings.starts (far_at findings.starts at))));
  }

  begins_sent : (b : ClientBucket) → o.bucket ≡ Some b → o.doing ≡ findings.starts → BeginsFind old new log log' wire b o.id r → To
  begins_sent b is at (findings.built s new_one on) =
      finds_sent g now (length calls) wire b (aim.placed b is) o.id aim.id_is old new log log' s r now calls told room new_one.command_is new_one.retries_is
      (subst (λ (stage : Stage). Flies old (sent_at now calls wire) (fields_in (found_lines b o.id)) stage) (sym new_one.new) tt)
      (subst (λ (stage : Stage). RequestFar old calls (record_find g) true stage now) (sym new_one.new) (far_at findings.starts at)) on
  begins_sent b is at (findings.not_built e why none answer) = fails_first e at none answer

  sent_by : Opens old new log log' wire o r → To
  sent_by (findings.no_bucket none quiet is) = fails_first (errors.plain kind.OutOfMemory) (sound.none none) quiet is
  sent_by (findings.begins b is at on) = begins_sent b is at on
  sent_by (findings.finds_on b is s at on) =
      let own = sound_at b (findings.finds s) is at in
      finds_sent g now (length calls) wire b (aim.placed b is) o.id aim.id_is old new log log' s r now calls told room own.command_is own.retries_is (under_at b (findings.finds s) is at) (far_at (findings.finds s) at) on
  sent_by (findings.lists_on b is f count s at on) =
      let listing = sound_at b (findings.lists f count s) is at in
      let own = listing.request in
      let h = under_at b (findings.lists f count s) is at in
      let k = far_at (findings.lists f count s) at in
      let x = lists_sent g now (length calls) wire b (aim.placed b is) o.id aim.id_is old new log log' f count s r k.0 k.1 calls told room k.4 own.command_is own.retries_is h.0 h.1 k.3 k.5 on in
      let more : List ℕ = places_from (length calls) (length x.calls' - length calls) in
      record {
        calls' = x.calls';
        told = x.told;
        keeps = x.keeps;
        sends = subst (λ (l : List ℕ). Sends g now (length calls) wire new x.calls' l r) (sym (append_assoc k.0 k.1 more) ∙ ap (λ (l : List ℕ). l ++ more) (sym k.2)) x.sends;
      }

  told_of : (q : Opened) → Sends g now (length calls) wire new calls' (sent_since now (length calls) (length calls')) q → SendsBehind new calls' wire g (sent_since now (length calls) (length calls')) q
  told_of (findings.waits doing) s = s
  told_of (findings.opens d) s = s
  told_of (findings.fails e) s =
      let own : List ℕ = sent_since now (length calls) (length calls') in (
        s.found,
        record {
          finds = finds_fall calls' g s.found own s.sends;
          heard = λ f is. record_grows (past_of now (length calls) calls' wire) (sent_at own calls' wire) (grows_ended now (length calls) calls' wire) (plain_bucket g.at) g.id (Some f) (s.heard f is);
          sends = s.sends;
        },
      )

  -- A poll of the opening sends a find once more only behind one that was lost, or refused so.
  pub opening_repeats : SendsBehind new calls' wire g (sent_since now (length calls) (length calls')) r
  opening_repeats =
      let x = sent_by opens in
      told_of r (subst (λ (l : List Call). Sends g now (length calls) wire new l (sent_since now (length calls) (length l)) r) (same_some x.calls' calls' (sym x.told ∙ told')) x.sends)
