-- What a download knows is known behind each of its polls: the main induction.
use Rattle.std.proofs.Common.{◌≡◌, ◌++◌, ◌+◌, ◌-◌, ℕ, zero, suc, ℤ, Bool, true, List, [], ◌∷◌, length, Some, None, refl, sym, ap, ◌∙◌, subst, arith, append_assoc, append-nil, length-append}
use Rattle.std.specs.List.{concat}
use Rattle.std.proofs.lemmas.List.Folds.{concat-append}
use Rattle.mg_bson.specs.Raw.{fields, items}
use Rattle.mg_bson.specs.Tree.{Fields}
use Rattle.mg_link.specs.Exec.{Sending, Stage, unsent, first, second, ticket_at}
use Rattle.mg_server.specs.Files.{Bucket, chunks_space}
use Rattle.mg_link.specs.Link.{Awaited, LogTold}
use Rattle.mg_link.specs.Log.{Call}
use Rattle.mg_server.specs.Owner.{Owner, Passes, nobody}
use Rattle.mg_server.specs.Reader.{KnowsRead, Reader, coming_to, fetching}
use Rattle.mg_link.specs.declared.action.Step.{Step}
use Rattle.mg_link.specs.declared.action.Step.TheVariants as step
use Rattle.mg_link.specs.declared.error.Error.{Error}
use Rattle.mg_server.proofs.Apart.{passes_here, passes_on, passes_same}
use Rattle.mg_server.proofs.Owners.{same_some}
use Rattle.mg_ops.specs.Naming.{IsNamed}
use Rattle.mg_ops.proofs.Reading.{named_read}
use Rattle.mg_cursor.specs.Client as client
use Rattle.mg_cursor.specs.Client.{ClientCursor, IsSound, client_ticket}
use Rattle.mg_cursor.specs.Polling.{Hears, PollsNext, ReadsReply, begins, broke, gave, goes_on, hands_out, is_over, not_built}
use Rattle.mg_cursor.specs.Reading.{batch_documents, fetching_at, fetching_by, reader_in, told_next}
use Rattle.mg_cursor.specs.declared.polls.NextPoll.{NextPoll}
use Rattle.mg_cursor.specs.declared.polls.NextPoll.TheVariants as next
use Rattle.mg_cursor.proofs.Keeping.{sound_next}
use Rattle.mg_cursor.proofs.Reading.{next_read}
use Rattle.mg_gridfs.specs.Downloads.{ClientDownload, Doing, ended, idle, reads, spoiled, spoiled_at}
use Rattle.mg_gridfs.specs.Downloaded.{AreReceived, KnowsChunks, chunks_query, cursor_owner, doing_owner}
use Rattle.mg_gridfs.specs.ReadCauses.{cursor_in}
use Rattle.mg_gridfs.specs.Reads.{EndsFetch, Fetched, Fetches, TakesOne, enough, fails, no_more, none_missing, not_taken, over, pends, waits, with_chunks}
use Rattle.mg_gridfs.proofs.Received.{batch_is, received_behind, reply_documents}

-- ---- the cursor

pub same_cursor : (c c' : ClientCursor) (m m' k k' : ℕ) → reads c m k ≡ reads c' m' k' → c ≡ c'
same_cursor c c' m m' k k' e = same_some c c' (ap cursor_in e)

abbrev missing_in : Doing → ℕ
missing_in (idle c) = 0
missing_in (reads c missing empty) = missing
missing_in ended = 0
missing_in spoiled = 0

same_missing : (c c' : ClientCursor) (m m' k k' : ℕ) → reads c m k ≡ reads c' m' k' → m ≡ m'
same_missing c c' m m' k k' e = ap missing_in e

-- what is on its way is the same
pub fetching_same : (old new : Awaited) (doing : client.Doing) → ((m : ℕ) → client.ticket_by doing ≡ Some m → new m ≡ old m) → fetching_by new doing ≡ fetching_by old doing
fetching_same old new client.rests same = refl
fetching_same old new (client.holds reply) same = refl
fetching_same old new (client.asks sending) same = by_stage sending.stage (λ m e. same m e)
  where
    by_stage : (stage : Stage) → ((m : ℕ) → ticket_at stage ≡ Some m → new m ≡ old m) → fetching_at new stage ≡ fetching_at old stage
    by_stage unsent h = refl
    by_stage (first ticket) h = ap fetching (h ticket refl)
    by_stage (second ticket) h = ap fetching (h ticket refl)

pub reader_same : (old new : Awaited) (c : ClientCursor) (q : Reader) → ((m : ℕ) → client_ticket c ≡ Some m → new m ≡ old m) → reader_in new c q ≡ reader_in old c q
reader_same old new c q same = ap (λ f. record (reader_in old c q) { doing = f }) (fetching_same old new c.doing same)

pub owner_same : (old new : Awaited) (c : ClientCursor) → ((m : ℕ) → client_ticket c ≡ Some m → new m ≡ old m) → cursor_owner new c ≡ cursor_owner old c
owner_same old new c same = ap (λ f. record (cursor_owner old c) { coming = coming_to f }) (fetching_same old new c.doing same)

pub chunks_same : (old new : Awaited) (calls : List Call) (at : Bucket) (d : ClientDownload) (bytes : List ℕ) (c : ClientCursor) (place listed : ℕ) → ((m : ℕ) → client_ticket c ≡ Some m → new m ≡ old m) → KnowsChunks old calls at d bytes c place listed → KnowsChunks new calls at d bytes c place listed
chunks_same old new calls at d bytes c place listed same k =
    record {
      named = k.named;
      reader = k.reader;
      later = k.later;
      asked_at = k.asked_at;
      queries = k.queries;
      knows = subst (KnowsRead calls) (sym (reader_same old new c k.reader same)) k.knows;
      none_lost = k.none_lost;
      not_refused = k.not_refused;
      chunks = k.chunks;
      received = k.received;
      taken = k.taken;
      parts = k.parts;
    }

-- its commands go on naming a collection
abbrev pub IsNoFailure : NextPoll → Type 0
IsNoFailure next.Pending = Unit {0}
IsNoFailure (next.Batch reply) = Unit {0}
IsNoFailure next.End = Unit {0}
IsNoFailure (next.Failed e) = ⊥

named_as : (c c' : ClientCursor) → IsNamed c.space → c'.space ≡ c.space → IsNamed c'.space
named_as c c' named same = subst IsNamed (sym same) named

named_reply : (c c' : ClientCursor) (reply : List ℕ) (r : NextPoll) → IsNoFailure r → IsNamed c.space → ReadsReply c reply c' r → IsNamed c'.space
named_reply c c' reply r fine named (gave said read is answer) = subst (λ (x : ClientCursor). IsNamed x.space) (sym is) (named_read (fields reply) said read)
named_reply c c' reply r fine named (broke e fails_so is answer) = absurd (subst IsNoFailure answer fine)

named_heard : (c c' : ClientCursor) (came : Step Sending (List ℕ)) (r : NextPoll) → IsNoFailure r → IsNamed c.space → Hears c came c' r → IsNamed c'.space
named_heard c c' (step.Pending sending) r fine named h = named_as c c' named (ap (λ (x : ClientCursor). x.space) h.0)
named_heard c c' (step.Done reply) r fine named h = named_reply c c' reply r fine named h
named_heard c c' (step.Failed e) r fine named h = absurd (subst IsNoFailure h.1 fine)

pub next_named : (old new : Awaited) (log log' : LogTold) (wire : ℤ) (started : Bool) (c c' : ClientCursor) (r : NextPoll) → IsNoFailure r → IsNamed c.space → PollsNext old new log log' wire None started c c' r → IsNamed c'.space
next_named old new log log' wire started c c' r fine named (hands_out reply at none same is answer) = named_as c c' named (ap (λ (x : ClientCursor). x.space) is)
next_named old new log log' wire started c c' r fine named (is_over at ended_so none same is answer) = named_as c c' named (ap (λ (x : ClientCursor). x.space) is)
next_named old new log log' wire started c c' r fine named (not_built at may e fails_so none same is answer) = named_as c c' named (ap (λ (x : ClientCursor). x.space) is)
next_named old new log log' wire started c c' r fine named (begins at may sending new_one asked) = named_heard c c' asked.came r fine named asked.hears
next_named old new log log' wire started c c' r fine named (goes_on sending at asked) = named_heard c c' asked.came r fine named asked.hears

-- behind each answer nothing is on its way
abbrev pub IsAnswer : NextPoll → Type 0
IsAnswer next.Pending = ⊥
IsAnswer (next.Batch reply) = Unit {0}
IsAnswer next.End = Unit {0}
IsAnswer (next.Failed e) = Unit {0}

reply_rests : (c c' : ClientCursor) (reply : List ℕ) (r : NextPoll) → ReadsReply c reply c' r → c'.doing ≡ client.rests
reply_rests c c' reply r (gave said read is answer) = ap (λ (x : ClientCursor). x.doing) is
reply_rests c c' reply r (broke e fails_so is answer) = ap (λ (x : ClientCursor). x.doing) is

heard_rests : (c c' : ClientCursor) (came : Step Sending (List ℕ)) (r : NextPoll) → IsAnswer r → Hears c came c' r → c'.doing ≡ client.rests
heard_rests c c' (step.Pending sending) r fine h = absurd (subst IsAnswer h.1 fine)
heard_rests c c' (step.Done reply) r fine h = reply_rests c c' reply r h
heard_rests c c' (step.Failed e) r fine h = ap (λ (x : ClientCursor). x.doing) h.0

pub next_rests : (old new : Awaited) (log log' : LogTold) (wire : ℤ) (started : Bool) (c c' : ClientCursor) (r : NextPoll) → IsAnswer r → PollsNext old new log log' wire None started c c' r → c'.doing ≡ client.rests
next_rests old new log log' wire started c c' r fine (hands_out reply at none same is answer) = ap (λ (x : ClientCursor). x.doing) is
next_rests old new log log' wire started c c' r fine (is_over at ended_so none same is answer) = ap (λ (x : ClientCursor). x.doing) is ∙ at
next_rests old new log log' wire started c c' r fine (not_built at may e fails_so none same is answer) = ap (λ (x : ClientCursor). x.doing) is ∙ at
next_rests old new log log' wire started c c' r fine (begins at may sending new_one asked) = heard_rests c c' asked.came r fine asked.hears
next_rests old new log log' wire started c c' r fine (goes_on sending at asked) = heard_rests c c' asked.came r fine asked.hears

-- the log, the reader and the cursor behind a poll
record PolledOn (calls : List Call) (log' : LogTold) (old new : Awaited) (c c' : ClientCursor) (q' : Reader) : Type 0 where
  calls' : List Call
  told : log' ≡ Some calls'
  knows : KnowsRead calls' (reader_in new c' q')
  passes : Passes calls calls' (cursor_owner old c) (cursor_owner new c')

polled_on : (old new : Awaited) (log log' : LogTold) (wire : ℤ) (started : Bool) (c c' : ClientCursor) (r : NextPoll) (q : Reader) (calls : List Call) → IsSound true c → IsNamed c.space → PollsNext old new log log' wire None started c c' r → log ≡ Some calls → KnowsRead calls (reader_in old c q)
    → PolledOn calls log' old new c c' (told_next r q)
polled_on old new log log' wire started c c' r q calls sound named polls told knows =
    let m = next_read true old new log log' wire None started c c' r sound named polls q calls told in
    record { calls' = m.0; told = m.1; knows = m.2.knows knows; passes = m.2.passes knows }

-- ---- one batch

pub record TakenAs (chunks : List (List ℕ)) (c : ClientCursor) (d d' : ClientDownload) : Type 0 where
  pub file : d'.file ≡ d.file
  pub count : d'.count ≡ d.count
  pub taken : d'.taken ≡ d.taken + length chunks
  pub ahead : d'.ahead ≡ d.ahead ++ concat chunks
  pub missing : ℕ
  pub empty : ℕ
  pub doing : d'.doing ≡ reads c missing empty

pub taken_as : (chunks : List (List ℕ)) (c : ClientCursor) (missing empty : ℕ) (d d' : ClientDownload) → d' ≡ with_chunks chunks c missing empty d → TakenAs chunks c d d'
taken_as [] c missing empty d d' is =
    let none : d.taken ≡ d.taken + 0 = omega arith in
    record {
      file = ap (λ (x : ClientDownload). x.file) is;
      count = ap (λ (x : ClientDownload). x.count) is;
      taken = ap (λ (x : ClientDownload). x.taken) is ∙ none;
      ahead = ap (λ (x : ClientDownload). x.ahead) is ∙ sym (append-nil d.ahead);
      missing = missing;
      empty = suc empty;
      doing = ap (λ (x : ClientDownload). x.doing) is;
    }
taken_as (b ∷ bs) c missing empty d d' is =
    record {
      file = ap (λ (x : ClientDownload). x.file) is;
      count = ap (λ (x : ClientDownload). x.count) is;
      taken = ap (λ (x : ClientDownload). x.taken) is;
      ahead = ap (λ (x : ClientDownload). x.ahead) is;
      missing = missing - length (concat (b ∷ bs));
      empty = 0;
      doing = ap (λ (x : ClientDownload). x.doing) is;
    }

-- where it is behind a batch
record BatchKnown (calls : List Call) (log' : LogTold) (old new : Awaited) (at : Bucket) (d' : ClientDownload) (bytes : List ℕ) (c : ClientCursor) (place listed : ℕ) : Type 0 where
  calls' : List Call
  told : log' ≡ Some calls'
  cursor : ClientCursor
  missing : ℕ
  empty : ℕ
  doing : d'.doing ≡ reads cursor missing empty
  sound : IsSound true cursor
  rests_so : cursor.doing ≡ client.rests
  knows : KnowsChunks new calls' at d' bytes cursor place listed
  passes : Passes calls calls' (cursor_owner old c) (cursor_owner new cursor)

batch_known : (old new : Awaited) (log log' : LogTold) (wire : ℤ) (at : Bucket) (d d' : ClientDownload) (bytes : List ℕ) (c : ClientCursor) (m k place listed : ℕ) (calls : List Call) → d.doing ≡ reads c m k → IsSound true c → KnowsChunks old calls at d bytes c place listed → log ≡ Some calls → TakesOne old new log log' wire d d'
    → BatchKnown calls log' old new at d' bytes c place listed
batch_known old new log log' wire at d d' bytes c m k place listed calls doing sound know told one =
    let same : one.cursor ≡ c = same_cursor one.cursor c one.missing m one.empty k (sym one.at ∙ doing) in
    let polls = subst (λ (x : ClientCursor). PollsNext old new log log' wire None one.started x one.behind (next.Batch one.reply)) same one.polls in
    let p = polled_on old new log log' wire one.started c one.behind (next.Batch one.reply) know.reader calls sound know.named polls told know.knows in
    let t = one.takes in
    let b = batch_is d.file d.taken (items t.array) t.chunks t.in_order in
    let these = reply_documents one.reply t.array b.documents t.is_array t.bytes_are b.these in
    let gets = taken_as t.chunks one.behind one.missing one.empty d d' t.taken in
    let number : d.taken ≡ 0 + length know.chunks = (let e = know.taken in omega arith) in
    let behind_them = received_behind d.file 0 know.chunks t.chunks know.reader.given b.documents know.received (subst (λ (n : ℕ). AreReceived d.file n t.chunks b.documents) number b.received) in
    record {
      calls' = p.calls';
      told = p.told;
      cursor = one.behind;
      missing = gets.missing;
      empty = gets.empty;
      doing = gets.doing;
      sound = sound_next true old new log log' wire None one.started c one.behind (next.Batch one.reply) sound refl polls;
      rests_so = next_rests old new log log' wire one.started c one.behind (next.Batch one.reply) tt polls;
      knows = record {
        named = next_named old new log log' wire one.started c one.behind (next.Batch one.reply) tt know.named polls;
        reader = told_next (next.Batch one.reply) know.reader;
        later = know.later;
        asked_at = know.asked_at;
        queries = subst (λ f. know.reader.query ≡ chunks_query (chunks_space at) f.id) (sym gets.file) know.queries;
        knows = p.knows;
        none_lost = know.none_lost;
        not_refused = know.not_refused;
        chunks = know.chunks ++ t.chunks;
        received = subst (λ f. AreReceived f 0 (know.chunks ++ t.chunks) (know.reader.given ++ batch_documents one.reply)) (sym gets.file)
            (subst (λ (ds : List Fields). AreReceived d.file 0 (know.chunks ++ t.chunks) (know.reader.given ++ ds)) (sym these) behind_them);
        taken = gets.taken ∙ ap (λ (n : ℕ). n + length t.chunks) know.taken ∙ sym (length-append know.chunks t.chunks);
        parts = concat-append know.chunks t.chunks ∙ ap (λ (l : List ℕ). l ++ concat t.chunks) know.parts ∙ append_assoc bytes d.ahead (concat t.chunks) ∙ ap (λ (l : List ℕ). bytes ++ l) (sym gets.ahead);
      };
      passes = p.passes;
    }

-- ---- all batches of a poll

-- the same, where its cursor stands at another place
pub doing_known : (awaited : Awaited) (calls : List Call) (at : Bucket) (d d' : ClientDownload) (doing : Doing) (bytes : List ℕ) (c : ClientCursor) (place listed : ℕ) → d' ≡ record d { doing = doing } → KnowsChunks awaited calls at d bytes c place listed → KnowsChunks awaited calls at d' bytes c place listed
doing_known awaited calls at d d' doing bytes c place listed is k =
    subst (λ (x : ClientDownload). KnowsChunks awaited calls at x bytes c place listed) (sym is)
    (record { named = k.named; reader = k.reader; later = k.later; asked_at = k.asked_at; queries = k.queries; knows = k.knows; none_lost = k.none_lost; not_refused = k.not_refused; chunks = k.chunks; received = k.received; taken = k.taken; parts = k.parts })

abbrev pub AfterFetch : Awaited → List Call → Bucket → ClientDownload → List ℕ → ℕ → ℕ → Fetched → Type 0
AfterFetch awaited calls at d' bytes place listed waits = (c : ClientCursor) × (m : ℕ) × (k : ℕ) × (d'.doing ≡ reads c m k) × KnowsChunks awaited calls at d' bytes c place listed
AfterFetch awaited calls at d' bytes place listed enough = (c : ClientCursor) × (d'.doing ≡ idle c) × (c.doing ≡ client.rests) × KnowsChunks awaited calls at d' bytes c place listed
AfterFetch awaited calls at d' bytes place listed (fails e) = Unit {0}

pub record FetchKnown (calls : List Call) (log' : LogTold) (old new : Awaited) (at : Bucket) (d' : ClientDownload) (bytes : List ℕ) (c : ClientCursor) (place listed : ℕ) (r : Fetched) : Type 0 where
  pub calls' : List Call
  pub told : log' ≡ Some calls'
  pub passes : Passes calls calls' (cursor_owner old c) (doing_owner new d'.doing)
  pub after : AfterFetch new calls' at d' bytes place listed r

module _ (old new : Awaited) (log log' : LogTold) (wire : ℤ) (at : Bucket) (d d' : ClientDownload) (bytes : List ℕ) (c : ClientCursor) (m k place listed : ℕ) (calls : List Call) (doing : d.doing ≡ reads c m k) (sound : IsSound true c) (rests_so : m ≡ 0 → c.doing ≡ client.rests) (know : KnowsChunks old calls at d bytes c place listed) (told : log ≡ Some calls) where
  polls_here : (started : Bool) (x behind : ClientCursor) (r : NextPoll) (m' k' : ℕ) → d.doing ≡ reads x m' k' → PollsNext old new log log' wire None started x behind r → PollsNext old new log log' wire None started c behind r
  polls_here started x behind r m' k' there polls = subst (λ (y : ClientCursor). PollsNext old new log log' wire None started y behind r) (same_cursor x c m' m k' k (sym there ∙ doing)) polls

  polled : (started : Bool) (behind : ClientCursor) (r : NextPoll) → PollsNext old new log log' wire None started c behind r → PolledOn calls log' old new c behind (told_next r know.reader)
  polled started behind r polls = polled_on old new log log' wire started c behind r know.reader calls sound know.named polls told know.knows

  -- it failed, and owns nothing any more
  failed_known : (started : Bool) (x behind : ClientCursor) (r : NextPoll) (m' k' : ℕ) (e : Error) (f : Fetched) → d.doing ≡ reads x m' k' → PollsNext old new log log' wire None started x behind r → d' ≡ spoiled_at d → f ≡ fails e → FetchKnown calls log' old new at d' bytes c place listed f
  failed_known started x behind r m' k' e f there polls is answer =
      let p = polled started behind r (polls_here started x behind r m' k' there polls) in
      record {
        calls' = p.calls';
        told = p.told;
        passes = subst (λ (o : Owner). Passes calls p.calls' (cursor_owner old c) o) (sym (ap (doing_owner new) (ap (λ (y : ClientDownload). y.doing) is)))
            (passes_on calls p.calls' p.calls' (cursor_owner old c) (cursor_owner new behind) nobody p.passes (passes_here p.calls' (cursor_owner new behind) nobody (λ n is_one. is_one) (λ y is_one ne. absurd is_one) p.passes.holds));
        after = subst (AfterFetch new p.calls' at d' bytes place listed) (sym answer) tt;
      }

  -- it goes on with this cursor
  stays_known : (started : Bool) (x behind : ClientCursor) (r : NextPoll) (m' k' : ℕ) (next_doing : Doing) (f : Fetched) → IsNoFailure r → told_next r know.reader ≡ know.reader → d.doing ≡ reads x m' k' → PollsNext old new log log' wire None started x behind r → d' ≡ record d { doing = next_doing }
      → doing_owner new next_doing ≡ cursor_owner new behind → ((calls' : List Call) → KnowsChunks new calls' at d' bytes behind place listed → AfterFetch new calls' at d' bytes place listed f) → FetchKnown calls log' old new at d' bytes c place listed f
  stays_known started x behind r m' k' next_doing f fine untold there polls is owner after =
      let here = polls_here started x behind r m' k' there polls in
      let p = polled started behind r here in
      let know' : KnowsChunks new p.calls' at d bytes behind place listed = record {
        named = next_named old new log log' wire started c behind r fine know.named here;
        reader = know.reader;
        later = know.later;
        asked_at = know.asked_at;
        queries = know.queries;
        knows = subst (λ (q : Reader). KnowsRead p.calls' (reader_in new behind q)) untold p.knows;
        none_lost = know.none_lost;
        not_refused = know.not_refused;
        chunks = know.chunks;
        received = know.received;
        taken = know.taken;
        parts = know.parts;
      } in
      record {
        calls' = p.calls';
        told = p.told;
        passes = subst (λ (o : Owner). Passes calls p.calls' (cursor_owner old c) o) (sym (ap (doing_owner new) (ap (λ (y : ClientDownload). y.doing) is) ∙ owner)) p.passes;
        after = after p.calls' (doing_known new p.calls' at d d' next_doing bytes behind place listed is know');
      }

  ends_known : (f : Fetched) → EndsFetch old new log log' wire d d' f → FetchKnown calls log' old new at d' bytes c place listed f
  ends_known f (none_missing x empty there quiet is answer) =
      let same = same_cursor x c 0 m empty k (sym there ∙ doing) in
      let rest : (n : ℕ) → client_ticket c ≡ Some n → new n ≡ old n = λ n held. quiet.rest n in
      let at_c : d' ≡ record d { doing = idle c } = is ∙ ap (λ (y : ClientCursor). record d { doing = idle y }) same in
      record {
        calls' = calls;
        told = quiet.log_same ∙ told;
        passes = subst (λ (o : Owner). Passes calls calls (cursor_owner old c) o) (sym (ap (doing_owner new) (ap (λ (y : ClientDownload). y.doing) at_c) ∙ owner_same old new c rest)) (passes_same calls (cursor_owner old c) know.knows.owned);
        after = subst (AfterFetch new calls at d' bytes place listed) (sym answer) (c, ap (λ (y : ClientDownload). y.doing) at_c, rests_so (sym (same_missing x c 0 m empty k (sym there ∙ doing))), doing_known new calls at d d' (idle c) bytes c place listed at_c (chunks_same old new calls at d bytes c place listed rest know));
      }
  ends_known f (over x m' k' there short started behind polls is answer) =
      stays_known started x behind next.End m' k' (idle behind) f tt refl there polls is refl
      (λ calls' know'. subst (AfterFetch new calls' at d' bytes place listed) (sym answer) (behind, ap (λ (y : ClientDownload). y.doing) is, next_rests old new log log' wire started c behind next.End tt (polls_here started x behind next.End m' k' there polls), know'))
  ends_known f (pends x m' k' there short started behind polls is answer) =
      stays_known started x behind next.Pending m' k' (reads behind m' k') f tt refl there polls is refl
      (λ calls' know'. subst (AfterFetch new calls' at d' bytes place listed) (sym answer) (behind, m', k', ap (λ (y : ClientDownload). y.doing) is, know'))
  ends_known f (no_more x m' k' there short started behind e polls is answer) = failed_known started x behind (next.Failed e) m' k' e f there polls is answer
  ends_known f (not_taken x m' k' there short started behind reply e polls why is answer) = failed_known started x behind (next.Batch reply) m' k' e f there polls is answer

pub fetches_known : (n : ℕ) (old new : Awaited) (log log' : LogTold) (wire : ℤ) (at : Bucket) (d d' : ClientDownload) (bytes : List ℕ) (c : ClientCursor) (m k place listed : ℕ) (calls : List Call) (f : Fetched) → d.doing ≡ reads c m k → IsSound true c → (m ≡ 0 → c.doing ≡ client.rests) → KnowsChunks old calls at d bytes c place listed → log ≡ Some calls
    → Fetches n old new log log' wire d d' f → FetchKnown calls log' old new at d' bytes c place listed f
unfolding Fetches
fetches_known zero old new log log' wire at d d' bytes c m k place listed calls f doing sound rests_so know told ends = ends_known old new log log' wire at d d' bytes c m k place listed calls doing sound rests_so know told f ends
fetches_known (suc n) old new log log' wire at d d' bytes c m k place listed calls f doing sound rests_so know told more =
    let b = batch_known old more.0 log more.1 wire at d more.2 bytes c m k place listed calls doing sound know told more.3 in
    let rest = fetches_known n more.0 new more.1 log' wire at more.2 d' bytes b.cursor b.missing b.empty place listed b.calls' f b.doing b.sound (λ none. b.rests_so) b.knows b.told more.4 in
    record {
      calls' = rest.calls';
      told = rest.told;
      passes = passes_on calls b.calls' rest.calls' (cursor_owner old c) (cursor_owner more.0 b.cursor) (doing_owner new d'.doing) b.passes rest.passes;
      after = rest.after;
    }

-- ---- what stays the same

ends_same : (old new : Awaited) (log log' : LogTold) (wire : ℤ) (d d' : ClientDownload) (f : Fetched) → EndsFetch old new log log' wire d d' f → (d'.file ≡ d.file) × (d'.count ≡ d.count)
ends_same old new log log' wire d d' f (none_missing x empty there quiet is answer) = (ap (λ (y : ClientDownload). y.file) is, ap (λ (y : ClientDownload). y.count) is)
ends_same old new log log' wire d d' f (over x m k there short started behind polls is answer) = (ap (λ (y : ClientDownload). y.file) is, ap (λ (y : ClientDownload). y.count) is)
ends_same old new log log' wire d d' f (pends x m k there short started behind polls is answer) = (ap (λ (y : ClientDownload). y.file) is, ap (λ (y : ClientDownload). y.count) is)
ends_same old new log log' wire d d' f (no_more x m k there short started behind e polls is answer) = (ap (λ (y : ClientDownload). y.file) is, ap (λ (y : ClientDownload). y.count) is)
ends_same old new log log' wire d d' f (not_taken x m k there short started behind reply e polls why is answer) = (ap (λ (y : ClientDownload). y.file) is, ap (λ (y : ClientDownload). y.count) is)

pub fetches_same : (n : ℕ) (old new : Awaited) (log log' : LogTold) (wire : ℤ) (d d' : ClientDownload) (f : Fetched) → Fetches n old new log log' wire d d' f → (d'.file ≡ d.file) × (d'.count ≡ d.count)
unfolding Fetches
fetches_same zero old new log log' wire d d' f ends = ends_same old new log log' wire d d' f ends
fetches_same (suc n) old new log log' wire d d' f more =
    let one = more.3 in
    let gets = taken_as one.takes.chunks one.behind one.missing one.empty d more.2 one.takes.taken in
    let rest = fetches_same n more.0 new more.1 log' wire more.2 d' f more.4 in
    (rest.0 ∙ gets.file, rest.1 ∙ gets.count)
