-- The finds that the polls of a get's opening send: at which places, and which record was heard by then.
use Rattle.std.proofs.Common.{◌≡◌, ◌≢◌, ◌<◌, ◌≤◌, ℕ, zero, suc, ℤ, true, List, [], ◌∷◌, length, Option, Some, None, refl, sym, ap, ◌∙◌, subst, arith}
use Rattle.mg_bson.specs.Raw.{fields}
use Rattle.mg_bson.specs.Tree.{Fields, Tree}
use Rattle.mg_server.specs.Calls.{AddsOnly, Flies, Keeps, past_of}
use Rattle.mg_link.specs.Errors as errors
use Rattle.mg_link.specs.Exec.{Runs, Sending, Stage, unsent}
use Rattle.mg_link.specs.Link.{Awaited, LogTold, SendsNothing}
use Rattle.mg_link.specs.Log.{Call, reply}
use Rattle.mg_link.specs.declared.action.Step.{Step}
use Rattle.mg_link.specs.declared.action.Step.TheVariants as came
use Rattle.mg_link.specs.declared.error.ErrorKind.TheVariants as kind
use Rattle.mg_server.proofs.Calls.{request_ran, success_ran}
use Rattle.mg_server.proofs.Owners.{same_some}
use Rattle.mg_server.proofs.Pasts.{heard_by}
use Rattle.mg_options.specs.Fields.{Line, fields_in}
use Rattle.mg_cursor.specs.Client.{new_client}
use Rattle.mg_change.specs.Sent.{Falling, resuming_places}
use Rattle.mg_change.proofs.Sent.{Tried, falling_as, resume_sent, resume_waits, tried_below, tried_on}
use Rattle.mg_change.proofs.Such.{all_falling}
use Rattle.mg_records.specs.FileRecords.{FileRecord}
use Rattle.mg_chunks.specs.Broken.{broken}
use Rattle.mg_gridfs.specs.Buckets.{ClientBucket}
use Rattle.mg_gridfs.specs.Commands.{found_lines, listed_lines}
use Rattle.mg_gridfs.specs.Downloaded.{IsPlainAt}
use Rattle.mg_gridfs.specs.Downloads.{empty_download, new_download}
use Rattle.mg_gridfs.specs.Findings as findings
use Rattle.mg_gridfs.specs.Findings.{BeginsFind, ClientFinding, FindsOn, HearsList, HearsRecord, IsSoundFinding, ListsOn, Looking, Opened, Opens, OpensFile, SoundIn}
use Rattle.mg_gridfs.specs.ReadCauses.{HeardRecord, IsOpening, LookingUnderway}
use Rattle.mg_gridfs.proofs.Opened.{record_grows}
use Rattle.mg_players.specs.Causes.{FallsAt, commands_at, sent_at, sent_since}
use Rattle.mg_players.specs.Buckets.{plain_bucket}
use Rattle.mg_players.specs.Gets.{GetTask, IsFindAt, IsGetCommand, IsListFor, IsOpeningFor, chunks_find, for_chunks, for_record, record_find}
use Rattle.mg_players.specs.Telling.{FindsSoFar, finding_places, found_in}
use Rattle.mg_players.proofs.Adding.{adds_sent}
use Rattle.mg_players.proofs.Commands.{falls_more}
use Rattle.mg_players.proofs.Fallings.{tried_still}
use Rattle.mg_players.proofs.GetCausing.{heard_same}
use Rattle.mg_players.proofs.GetSending.{found_same, listed_same}
use Rattle.mg_players.proofs.Telling.{grows_ended}

-- ---- places

-- the first record is the second
abbrev IsKept : Option FileRecord → Option FileRecord → Type 0
IsKept found found' = (f : FileRecord) → found ≡ Some f → found' ≡ Some f

none_kept : (found : Option FileRecord) → IsKept None found
none_kept found f is = let bad : None ≡ Some f = is in absurd cc

-- a find that was sent before a record was found is one still
module _ (g : GetTask) (found found' : Option FileRecord) (kept : IsKept found found') where
  list_kept : (was : Option FileRecord) → was ≡ found → (command : Fields) → IsListFor g was command → IsListFor g found' command
  list_kept None same command is = absurd is
  list_kept (Some f) same command is = subst (λ (x : Option FileRecord). IsListFor g x command) (sym (kept f (sym same))) is

  find_kept : (place : ℕ) (command : Fields) → IsFindAt g found place command → IsFindAt g found' place command
  find_kept zero command is = is
  find_kept (suc zero) command is = list_kept found refl command is
  find_kept (suc (suc zero)) command is = list_kept found refl command is
  find_kept (suc (suc (suc place))) command is = is

  falls_kept : (calls : List Call) (n : ℕ) (places : List ℕ) (m : ℕ) → FallsAt (IsFindAt g found) calls n places m → FallsAt (IsFindAt g found') calls n places m
  falls_kept calls n places m f = record { within = f.within; falling = falling_as (IsFindAt g found') (IsFindAt g found) find_kept n (commands_at calls places) m f.falling }

  tried_kept : (log log' : LogTold) (n m : ℕ) → Tried (IsFindAt g found) log log' n m → Tried (IsFindAt g found') log log' n m
  tried_kept log log' n m t = record { commands = t.commands; adds = t.adds; falling = falling_as (IsFindAt g found') (IsFindAt g found) find_kept n t.commands m t.falling }

-- two places higher
falling_up : (at : ℕ → Fields → Type 0) (n : ℕ) (cs : List Fields) (m : ℕ) → Falling (λ (place : ℕ). at (suc (suc place))) n cs m → Falling at (suc (suc n)) cs (suc (suc m))
falling_up at n [] m f = let all : m ≤ n = f in omega (arith, all)
falling_up at n (c ∷ cs) m f = (suc (suc f.0), (let here : f.0 < n = f.1 in omega (arith, here)), f.2, falling_up at f.0 cs m f.3)

tried_up : (at : ℕ → Fields → Type 0) (log log' : LogTold) (n m : ℕ) → Tried (λ (place : ℕ). at (suc (suc place))) log log' n m → Tried at log log' (suc (suc n)) (suc (suc m))
tried_up at log log' n m t = record { commands = t.commands; adds = t.adds; falling = falling_up at n t.commands m t.falling }

-- ---- what a poll comes to

-- how many places are left behind it
abbrev pub places_behind : Opened → ℕ
places_behind (findings.waits doing) = finding_places doing
places_behind (findings.opens d) = 1
places_behind (findings.fails e) = 1

-- the record that was found by then
abbrev pub IsFoundBy : Option FileRecord → Opened → Type 0
IsFoundBy found (findings.waits doing) = found ≡ found_in doing
IsFoundBy found (findings.opens d) = found ≡ Some d.file
IsFoundBy found (findings.fails e) = Unit {0}

module _ (g : GetTask) (places : List ℕ) (since : ℕ) (wire : ℤ) where
  -- a poll of an opening that had found this record, and had so many places left
  record Asked (log log' : LogTold) (was : Option FileRecord) (n : ℕ) (r : Opened) : Type 0 where
    found : Option FileRecord
    by : IsFoundBy found r
    kept : IsKept was found
    tried : Tried (IsFindAt g found) log log' n (places_behind r)
    calls : List Call
    told : log' ≡ Some calls
    heard : (f : FileRecord) → found ≡ Some f → HeardRecord (past_of places since calls wire) (plain_bucket g.at) g.id (Some f)

  -- of a record that was heard
  its_record : (calls : List Call) (f : FileRecord) → HeardRecord (past_of places since calls wire) (plain_bucket g.at) g.id (Some f) → (x : FileRecord) → Some f ≡ Some x → HeardRecord (past_of places since calls wire) (plain_bucket g.at) g.id (Some x)
  its_record calls f heard x is = subst (λ (y : Option FileRecord). HeardRecord (past_of places since calls wire) (plain_bucket g.at) g.id y) is heard

  no_record : (calls : List Call) (x : FileRecord) → None ≡ Some x → HeardRecord (past_of places since calls wire) (plain_bucket g.at) g.id (Some x)
  no_record calls x is = let bad : None ≡ Some x = is in absurd cc

  -- nothing was sent
  quietly : (old new : Awaited) (log log' : LogTold) (calls : List Call) (found : Option FileRecord) (n : ℕ) (r q : Opened) → log ≡ Some calls → SendsNothing old new log log' → r ≡ q → IsFoundBy found q → places_behind q ≤ n
      → ((f : FileRecord) → found ≡ Some f → HeardRecord (past_of places since calls wire) (plain_bucket g.at) g.id (Some f)) → Asked log log' None n r
  quietly old new log log' calls found n r q told none is by less heard =
      subst (Asked log log' None n) (sym is)
      (record { found = found; by = by; kept = none_kept found; tried = tried_still (IsFindAt g found) log log' n (places_behind q) none.log_same less; calls = calls; told = none.log_same ∙ told; heard = heard })

  module _ (b : ClientBucket) (plain : IsPlainAt b g.at) (id : Tree) (same : id ≡ g.id) where
    is_find : (command : Fields) → command ≡ fields_in (found_lines b id) → command ≡ record_find g
    is_find command is = is ∙ ap fields_in (found_same g b id plain) ∙ ap (λ (x : Tree). fields_in (found_lines (plain_bucket g.at) x)) same

    is_list : (x : Tree) (command : Fields) → command ≡ fields_in (listed_lines b x) → command ≡ chunks_find g x
    is_list x command is = is ∙ ap fields_in (listed_same g b x plain)

    heard_its : (calls : List Call) (f : FileRecord) → HeardRecord (past_of places since calls wire) b id (Some f) → HeardRecord (past_of places since calls wire) (plain_bucket g.at) g.id (Some f)
    heard_its calls f h = subst (λ (x : Tree). HeardRecord (past_of places since calls wire) (plain_bucket g.at) x (Some f)) same (heard_same (past_of places since calls wire) g b id (Some f) plain h)

    -- ---- the list of chunks

    module _ (old new : Awaited) (log log' : LogTold) (f : FileRecord) (count : ℕ) (s : Sending) (r : Opened) (was : Option FileRecord) (kept : IsKept was (Some f)) (calls' : List Call) (told' : log' ≡ Some calls')
        (heard : HeardRecord (past_of places since calls' wire) (plain_bucket g.at) g.id (Some f)) (at : IsFindAt g (Some f) 2 (fields s.command)) where
      list_by : (q : Opened) → r ≡ q → IsFoundBy (Some f) q → Tried (IsFindAt g (Some f)) log log' (resuming_places s.stage) (places_behind q) → Asked log log' was (resuming_places s.stage) r
      list_by q is by tried = subst (Asked log log' was (resuming_places s.stage)) (sym is) (record { found = Some f; by = by; kept = kept; tried = tried; calls = calls'; told = told'; heard = its_record calls' f heard })

      list_sent : (c : Step Sending (List ℕ)) → Runs old new log log' wire s c → Tried (IsFindAt g (Some f)) log log' (resuming_places s.stage) 1
      list_sent c runs = resume_sent (IsFindAt g (Some f)) old new log log' wire s at at c runs

      list_came : (c : Step Sending (List ℕ)) → Runs old new log log' wire s c → HearsList f count c r → Asked log log' was (resuming_places s.stage) r
      list_came (came.Pending s') runs h = list_by (findings.waits (findings.lists f count s')) h refl (resume_waits (IsFindAt g (Some f)) old new log log' wire s at at s' runs)
      list_came (came.Done bytes) runs (findings.opened out with is) = list_by (findings.opens (new_download f count (new_client out))) is refl (list_sent (came.Done bytes) runs)
      list_came (came.Done bytes) runs (findings.broke e why is) = list_by (findings.fails e) is tt (list_sent (came.Done bytes) runs)
      list_came (came.Failed e) runs h = list_by (findings.fails e) h tt (list_sent (came.Failed e) runs)

    lists_asked : (old new : Awaited) (log log' : LogTold) (f : FileRecord) (count : ℕ) (s : Sending) (r : Opened) (was : Option FileRecord) → IsKept was (Some f) → (calls : List Call) → log ≡ Some calls → since ≤ length calls → f.length ≢ 0 → fields s.command ≡ fields_in (listed_lines b f.id) → s.retries ≡ true
        → Flies old (past_of places since calls wire) (fields_in (listed_lines b f.id)) s.stage → HeardRecord (past_of places since calls wire) b id (Some f) → ListsOn old new log log' wire f count s r → Asked log log' was (resuming_places s.stage) r
    lists_asked old new log log' f count s r was kept calls told room some command retries flies heard on =
        let ran = request_ran old new log log' wire s (fields_in (listed_lines b f.id)) true on.came command retries on.runs calls told places since room flies in
        let later = heard_its ran.calls' f (record_grows (past_of places since calls wire) (past_of places since ran.calls' wire) ran.grows b id (Some f) heard) in
        list_came old new log log' f count s r was kept ran.calls' ran.told later (some, is_list f.id (fields s.command) command) on.came on.runs on.hears

    -- what is built flies nowhere yet
    flies_new : (awaited : Awaited) (calls : List Call) (lines : List Line) (s : Sending) → s.stage ≡ unsent → Flies awaited (past_of places since calls wire) (fields_in lines) s.stage
    flies_new awaited calls lines s is = subst (λ (stage : Stage). Flies awaited (past_of places since calls wire) (fields_in lines) stage) (sym is) tt

    -- ---- behind the record

    opens_asked : (old new : Awaited) (log log' : LogTold) (f : FileRecord) (r : Opened) (calls : List Call) → log ≡ Some calls → since ≤ length calls → HeardRecord (past_of places since calls wire) b id (Some f) → OpensFile old new log log' wire b f r → Asked log log' None 3 r
    opens_asked old new log log' f r calls told room heard (findings.too_many m many none is) = quietly old new log log' calls None 3 r (findings.fails (broken m)) told none is tt (omega arith) (no_record calls)
    opens_asked old new log log' f r calls told room heard (findings.is_empty zero_long none is) = quietly old new log log' calls (Some f) 3 r (findings.opens (empty_download f)) told none is refl (omega arith) (its_record calls f (heard_its calls f heard))
    opens_asked old new log log' f r calls told room heard (findings.not_built some e why none is) = quietly old new log log' calls None 3 r (findings.fails e) told none is tt (omega arith) (no_record calls)
    opens_asked old new log log' f r calls told room heard (findings.listed some count counted s new_one on) =
        subst (λ (n : ℕ). Asked log log' None n r) (ap resuming_places new_one.new)
        (lists_asked old new log log' f count s r None (none_kept (Some f)) calls told room some new_one.command_is new_one.retries_is (flies_new old calls (listed_lines b f.id) s new_one.new) heard on)

    hears_asked : (old new : Awaited) (log log' : LogTold) (bytes : List ℕ) (r : Opened) (calls : List Call) → log ≡ Some calls → since ≤ length calls → ((f : FileRecord) → findings.ReadsRecord bytes (Some f) → HeardRecord (past_of places since calls wire) b id (Some f))
        → HearsRecord old new log log' wire b id bytes r → Asked log log' None 3 r
    hears_asked old new log log' bytes r calls told room heard (findings.none_found reads_so e not_there none is) = quietly old new log log' calls None 3 r (findings.fails e) told none is tt (omega arith) (no_record calls)
    hears_asked old new log log' bytes r calls told room heard (findings.is_found f reads_so on) = opens_asked old new log log' f r calls told room (heard f reads_so) on
    hears_asked old new log log' bytes r calls told room heard (findings.broke e why none is) = quietly old new log log' calls None 3 r (findings.fails e) told none is tt (omega arith) (no_record calls)

    -- ---- the find of the record

    -- its places are two higher than those of one request
    find_sent : (old new : Awaited) (log log' : LogTold) (s : Sending) (c : Step Sending (List ℕ)) → fields s.command ≡ record_find g → Runs old new log log' wire s c → Tried (IsFindAt g None) log log' (suc (suc (resuming_places s.stage))) 3
    find_sent old new log log' s c at runs = tried_up (IsFindAt g None) log log' (resuming_places s.stage) 1 (resume_sent (λ (place : ℕ). IsFindAt g None (suc (suc place))) old new log log' wire s at at c runs)

    finds_asked : (old new : Awaited) (log log' : LogTold) (s : Sending) (r : Opened) (calls : List Call) → log ≡ Some calls → since ≤ length calls → fields s.command ≡ fields_in (found_lines b id) → s.retries ≡ true → Flies old (past_of places since calls wire) (fields_in (found_lines b id)) s.stage
        → FindsOn old new log log' wire b id s r → Asked log log' None (suc (suc (resuming_places s.stage))) r
    finds_asked old new log log' s r calls told room command retries flies (findings.pends still runs is) =
        let at = is_find (fields s.command) command in
        let ran = request_ran old new log log' wire s (fields_in (found_lines b id)) true (came.Pending still) command retries runs calls told places since room flies in
        subst (Asked log log' None (suc (suc (resuming_places s.stage)))) (sym is) (record {
          found = None;
          by = refl;
          kept = none_kept None;
          tried = tried_up (IsFindAt g None) log log' (resuming_places s.stage) (resuming_places still.stage) (resume_waits (λ (place : ℕ). IsFindAt g None (suc (suc place))) old new log log' wire s at at still runs);
          calls = ran.calls';
          told = ran.told;
          heard = no_record ran.calls';
        })
    finds_asked old new log log' s r calls told room command retries flies (findings.hears between log_between bytes runs on) =
        let ran = request_ran old between log log_between wire s (fields_in (found_lines b id)) true (came.Done bytes) command retries runs calls told places since room flies in
        let success = success_ran old between log log_between wire s bytes runs in
        let rest = hears_asked between new log_between log' bytes r ran.calls' ran.told ran.room
        (λ f reads_so. record { bytes = bytes; heard = heard_by (past_of places since ran.calls' wire) (fields_in (found_lines b id)) true (reply bytes) ran.came; success = success; reads_so = reads_so }) on in
        let find = find_sent old between log log_between s (came.Done bytes) (is_find (fields s.command) command) runs in
        record {
          found = rest.found;
          by = rest.by;
          kept = none_kept rest.found;
          tried = tried_on (IsFindAt g rest.found) log log_between log' (suc (suc (resuming_places s.stage))) 3 (places_behind r) (tried_kept g None rest.found (none_kept rest.found) log log_between (suc (suc (resuming_places s.stage))) 3 find) rest.tried;
          calls = rest.calls;
          told = rest.told;
          heard = rest.heard;
        }
    finds_asked old new log log' s r calls told room command retries flies (findings.failed e runs is) =
        let ran = request_ran old new log log' wire s (fields_in (found_lines b id)) true (came.Failed e) command retries runs calls told places since room flies in
        subst (Asked log log' None (suc (suc (resuming_places s.stage)))) (sym is) (record {
          found = None;
          by = tt;
          kept = none_kept None;
          tried = tried_below (IsFindAt g None) log log' (suc (suc (resuming_places s.stage))) 3 1 (omega arith) (find_sent old new log log' s (came.Failed e) (is_find (fields s.command) command) runs);
          calls = ran.calls';
          told = ran.told;
          heard = no_record ran.calls';
        })

    begins_asked : (old new : Awaited) (log log' : LogTold) (r : Opened) (calls : List Call) → log ≡ Some calls → since ≤ length calls → BeginsFind old new log log' wire b id r → Asked log log' None 5 r
    begins_asked old new log log' r calls told room (findings.built s new_one on) =
        subst (λ (stage : Stage). Asked log log' None (suc (suc (resuming_places stage))) r) new_one.new
        (finds_asked old new log log' s r calls told room new_one.command_is new_one.retries_is (flies_new old calls (found_lines b id) s new_one.new) on)
    begins_asked old new log log' r calls told room (findings.not_built e why none is) = quietly old new log log' calls None 5 r (findings.fails e) told none is tt (omega arith) (no_record calls)

-- ---- a poll

-- Behind a poll of a get's opening: the finds that it sent by then stand at places that fall, and the record that was found was heard.
pub record FindsBy (calls : List Call) (wire : ℤ) (g : GetTask) (places : List ℕ) (r : Opened) : Type 0 where
  pub found : Option FileRecord
  pub by : IsFoundBy found r
  pub falls : FallsAt (IsFindAt g found) calls 5 places (places_behind r)
  pub heard : (f : FileRecord) → found ≡ Some f → HeardRecord (sent_at places calls wire) (plain_bucket g.at) g.id (Some f)

module _ (g : GetTask) (some : 0 < g.read) where
  -- each find is one that a get may send
  find_may : (found : Option FileRecord) (command : Fields) → IsListFor g found command → IsGetCommand g command
  find_may None command is = absurd is
  find_may (Some f) command is = for_chunks some f.id is.1

  may_at : (found : Option FileRecord) (place : ℕ) (command : Fields) → IsFindAt g found place command → IsGetCommand g command
  may_at found zero command is = absurd is
  may_at found (suc zero) command is = find_may found command is
  may_at found (suc (suc zero)) command is = find_may found command is
  may_at found (suc (suc (suc place))) command is = for_record some is

module _ (g : GetTask) (old new : Awaited) (log log' : LogTold) (wire : ℤ) (o : ClientFinding) (r : Opened) (aim : IsOpeningFor g o) (sound : IsSoundFinding o) (opens : Opens old new log log' wire o r) (calls calls' : List Call) (told : log ≡ Some calls) (told' : log' ≡ Some calls') (now : List ℕ) (under : IsOpening old (sent_at now calls wire) o) where
  sound_at : (b : ClientBucket) (doing : Looking) → o.bucket ≡ Some b → o.doing ≡ doing → SoundIn b o.id doing
  sound_at b doing is at = subst (SoundIn b o.id) at (sound.own b is)

  under_at : (b : ClientBucket) (doing : Looking) → o.bucket ≡ Some b → o.doing ≡ doing → LookingUnderway old (sent_at now calls wire) b o.id doing
  under_at b doing is at = subst (LookingUnderway old (sent_at now calls wire) b o.id) at (under b is)

  room : length calls ≤ length calls
  room = omega arith

  abbrev By : Looking → Type 0
  By doing = Asked g now (length calls) wire log log' (found_in doing) (finding_places doing) r

  of_doing : (doing : Looking) → o.doing ≡ doing → By doing → By o.doing
  of_doing doing at h = subst By (sym at) h

  asked_by : Opens old new log log' wire o r → By o.doing
  asked_by (findings.no_bucket none quiet is) = of_doing findings.starts (sound.none none) (quietly g now (length calls) wire old new log log' calls None 5 r (findings.fails (errors.plain kind.OutOfMemory)) told quiet is tt (omega arith) (no_record g now (length calls) wire calls))
  asked_by (findings.begins b is at on) = of_doing findings.starts at (begins_asked g now (length calls) wire b (aim.placed b is) o.id aim.id_is old new log log' r calls told room on)
  asked_by (findings.finds_on b is s at on) =
      let own = sound_at b (findings.finds s) is at in
      of_doing (findings.finds s) at (finds_asked g now (length calls) wire b (aim.placed b is) o.id aim.id_is old new log log' s r calls told room own.command_is own.retries_is (under_at b (findings.finds s) is at) on)
  asked_by (findings.lists_on b is f count s at on) =
      let listing = sound_at b (findings.lists f count s) is at in
      let own = listing.request in
      let h = under_at b (findings.lists f count s) is at in
      of_doing (findings.lists f count s) at (lists_asked g now (length calls) wire b (aim.placed b is) o.id aim.id_is old new log log' f count s r (Some f) (λ x e. e) calls told room (λ none. omega (arith, none, listing.some)) own.command_is own.retries_is h.0 h.1 on)

  abbrev asked : By o.doing
  asked = asked_by opens

  -- A poll of the opening sends its finds, in their order.
  pub opening_finds : Keeps calls calls' → FindsSoFar calls g now o.doing → FindsBy calls' wire g (sent_since now (length calls) (length calls')) r
  opening_finds keeps before =
      let found = asked.found in
      record {
        found = found;
        by = asked.by;
        falls = falls_more (IsFindAt g found) log log' calls calls' 5 now (finding_places o.doing) (places_behind r) asked.tried.commands told told' keeps
            (falls_kept g (found_in o.doing) found asked.kept calls 5 now (finding_places o.doing) before) asked.tried.adds asked.tried.falling;
        heard = λ f is.
            let same : asked.calls ≡ calls' = same_some asked.calls calls' (sym asked.told ∙ told') in
            let here : HeardRecord (past_of now (length calls) calls' wire) (plain_bucket g.at) g.id (Some f) = subst (λ (l : List Call). HeardRecord (past_of now (length calls) l wire) (plain_bucket g.at) g.id (Some f)) same (asked.heard f is) in
            record_grows (past_of now (length calls) calls' wire) (sent_at (sent_since now (length calls) (length calls')) calls' wire) (grows_ended now (length calls) calls' wire) (plain_bucket g.at) g.id (Some f) here;
      }

  -- They are such as a get may send.
  pub opening_adds : 0 < g.read → Keeps calls calls' → AddsOnly (IsGetCommand g) calls calls'
  opening_adds some keeps =
      let t = asked.tried in
      adds_sent (IsGetCommand g) log log' t.commands t.adds (all_falling (IsGetCommand g) (IsFindAt g asked.found) (finding_places o.doing) t.commands (places_behind r) (λ place command less is. may_at g some asked.found place command is) t.falling) calls calls' told told' keeps
