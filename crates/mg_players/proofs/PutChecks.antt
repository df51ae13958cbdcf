-- The check of a put sends its commands in their order.
use Rattle.std.proofs.Common.{◌≡◌, ◌≢◌, ◌⊎◌, ◌≤◌, ◌+◌, ◌&&◌, ℕ, suc, ℤ, Bool, true, false, List, [], ◌∷◌, ◌++◌, Option, Some, None, replicate, refl, sym, ap, ap₂, ◌∙◌, subst, inl, inr, arith, append-nil, append_assoc}
use Rattle.std.proofs.lemmas.List.{map-append, replicate-append-replicate}
use Rattle.std.specs.Prelude.{slice_get}
use Rattle.mg_bson.specs.Raw.{fields}
use Rattle.mg_bson.specs.Tree.{Fields}
use Rattle.mg_server.specs.Calls.{AddsOnly, Past}
use Rattle.mg_link.specs.Errors.{command_code, plain}
use Rattle.mg_link.specs.Exec.{Attempt, AttemptFails, AttemptGives, Begins, GoesOn, Runs, Sending, Stage, Tries, answered, first, holding, is_repeated, is_retried_attempt, not_sent, second, unsent, waits}
use Rattle.mg_link.specs.Link.{Adds, Awaited, LogTold, Sees}
use Rattle.mg_link.specs.Log.{Call, Sight, reply, see, waiting}
use Rattle.mg_link.specs.declared.action.Step.{Step}
use Rattle.mg_link.specs.declared.action.Step.TheVariants as came
use Rattle.mg_link.specs.declared.error.Error.{Error}
use Rattle.mg_link.specs.declared.error.ErrorKind.TheVariants as kind
use Rattle.mg_server.proofs.Owners.{same_some}
use Rattle.mg_options.specs.Fields.{Line}
use Rattle.mg_ops.specs.Logs.{AddsJust, commands_sent}
use Rattle.mg_ops.proofs.Logs.{commands_seen, just_none, just_on}
use Rattle.mg_cursor.specs.Client.{new_client}
use Rattle.mg_cursor.specs.Documents.{DocumentCursor, new_documents}
use Rattle.mg_cursor.specs.declared.polls.AdvancePoll.{AdvancePoll}
use Rattle.mg_cursor.specs.declared.polls.AdvancePoll.TheVariants as advance
use Rattle.mg_gridfs.specs.Buckets.{ClientBucket}
use Rattle.mg_gridfs.specs.Checks as check
use Rattle.mg_gridfs.specs.Checks.{Builds, CheckTurned, ChecksOn, ClientCheck, Creates, EndsList, GoesBehind, HearsAdvance, HearsAny, HearsCreation, HearsFind, HearsIndex, HearsIndexed, HearsList, HearsListing, IsSoundCheck, Looks, by_advance, by_creation, by_find, by_index, by_listing, creates, finds, indexes, lists, namespace_exists, reads}
use Rattle.mg_gridfs.specs.declared.indexes.Place.{Place}
use Rattle.mg_gridfs.specs.declared.indexes.Place.TheVariants as place
use Rattle.mg_players.specs.PutChecks.{AreGetMores, CheckPasses, CheckSends, CheckSentAt, IsGetMore, OnlyAgain, SendsBefore, SendsBehind, SendsCreation, SendsFind, SendsIndex, SendsList, AsksForList, SendsPart, SendsWhole, any_find, count_at, creation, index_creation, listing, most_often, to_creation, to_find, to_index, to_list, to_listing, to_part, where_missing}
use Rattle.mg_players.specs.PutFailures.{HeardCreation, HeardIndexes, HeardNone, HeardSome, HeardWhole}
use Rattle.mg_players.specs.Sends.{CheckFlies}
use Rattle.mg_players.proofs.PutChecking.{AddsTold}

-- ---- how often a command is sent

-- so often an attempt sends it
abbrev pub count_of : Attempt → ℕ
count_of not_sent = 0
count_of (waits ticket) = 1
count_of (answered seen) = 1

-- and so often it was sent behind that
abbrev pub count_behind : Bool → Stage → Attempt → ℕ
count_behind again unsent attempt = count_of attempt
count_behind again (first ticket) attempt = 1
count_behind again (second ticket) attempt = most_often again

pub once_at_most : (attempt : Attempt) → count_of attempt ≤ 1
once_at_most not_sent = omega arith
once_at_most (waits ticket) = omega arith
once_at_most (answered seen) = omega arith

once_may : (again : Bool) → 1 ≤ most_often again
once_may true = omega arith
once_may false = omega arith

most_at : (again : Bool) (stage : Stage) → count_at again stage ≤ most_often again
most_at again unsent = omega arith
most_at again (first ticket) = once_may again
most_at again (second ticket) = omega arith

few_behind : (again : Bool) (stage : Stage) (attempt : Attempt) → count_behind again stage attempt ≤ most_often again
few_behind again unsent attempt =
    let one = once_at_most attempt in
    let most = once_may again in
    let few : count_of attempt ≤ most_often again = omega (arith, one, most) in
    few
few_behind again (first ticket) attempt = once_may again
few_behind again (second ticket) attempt = omega arith

some_behind : (again : Bool) (stage : Stage) (attempt : Attempt) → attempt ≢ not_sent → 1 ≤ count_behind again stage attempt
some_behind again unsent not_sent some = absurd (some refl)
some_behind again unsent (waits ticket) some = omega arith
some_behind again unsent (answered seen) some = omega arith
some_behind again (first ticket) attempt some = omega arith
some_behind again (second ticket) attempt some = once_may again

-- it waits as often as it was sent
held_behind : (again : Bool) (stage : Stage) (ticket : ℕ) → count_behind again stage (waits ticket) ≡ count_at again (holding stage ticket)
held_behind again unsent ticket = refl
held_behind again (first old) ticket = refl
held_behind again (second old) ticket = refl

reply_sent : (attempt : Attempt) (bytes : List ℕ) → attempt ≡ answered (reply bytes) → attempt ≢ not_sent
reply_sent attempt bytes is none = let bad : answered (reply bytes) ≡ not_sent = sym is ∙ none in absurd cc

-- what fails and was not sent is want of memory
failed_behind : (again : Bool) (stage : Stage) (attempt : Attempt) (wire : ℤ) (e : Error) → AttemptFails attempt wire e → (1 ≤ count_behind again stage attempt) ⊎ (e ≡ plain kind.OutOfMemory)
failed_behind again stage not_sent wire e h = inr h
failed_behind again stage (waits ticket) wire e h = absurd h
failed_behind again stage (answered seen) wire e h = inl (some_behind again stage (answered seen) (λ bad. absurd cc))

is_retry : (again : Bool) (attempt : Attempt) → again && is_retried_attempt attempt ≡ true → (again ≡ true) × (count_of attempt ≡ 1)
is_retry false attempt is = (let bad : false ≡ true = is in absurd cc)
is_retry true not_sent is = (let bad : false ≡ true = is in absurd cc)
is_retry true (waits ticket) is = (let bad : false ≡ true = is in absurd cc)
is_retry true (answered seen) is = (refl, refl)

-- what is sent once more is a read, and was sent once
repeated_once : (again : Bool) (stage : Stage) (attempt : Attempt) → is_repeated again stage attempt ≡ true → (again ≡ true) × (count_behind again stage attempt ≡ 1)
repeated_once again unsent attempt is = is_retry again attempt is
repeated_once again (first ticket) attempt is = ((is_retry again attempt is).0, refl)
repeated_once again (second ticket) attempt is = (let bad : false ≡ true = is in absurd cc)

-- how often it was sent by what came of a poll: where it failed, and was not sent, for want of memory
abbrev pub IsCounted : Bool → Step Sending (List ℕ) → ℕ → Type 0
IsCounted again (came.Pending s) n = n ≡ count_at again s.stage
IsCounted again (came.Done bytes) n = (1 ≤ n) × (n ≤ most_often again)
IsCounted again (came.Failed e) n = ((1 ≤ n) ⊎ (e ≡ plain kind.OutOfMemory)) × (n ≤ most_often again)

module _ (wire : ℤ) (s : Sending) where
  counted_once : (again : Bool) (c : Step Sending (List ℕ)) (attempt : Attempt) (n : ℕ) → n ≡ count_behind again s.stage attempt → AttemptGives attempt wire (λ ticket. record s { stage = holding s.stage ticket }) c → IsCounted again c n
  counted_once again (came.Pending s') attempt n is gives = is ∙ ap (count_behind again s.stage) gives.1 ∙ held_behind again s.stage gives.0 ∙ ap (λ (x : Sending). count_at again x.stage) (sym gives.2)
  counted_once again (came.Done bytes) attempt n is gives =
      subst (λ (m : ℕ). (1 ≤ m) × (m ≤ most_often again)) (sym is) (some_behind again s.stage attempt (reply_sent attempt bytes gives.0), few_behind again s.stage attempt)
  counted_once again (came.Failed e) attempt n is gives =
      subst (λ (m : ℕ). ((1 ≤ m) ⊎ (e ≡ plain kind.OutOfMemory)) × (m ≤ most_often again)) (sym is) (failed_behind again s.stage attempt wire e gives, few_behind again s.stage attempt)

  -- once more behind its first attempt
  counted_twice : (again : Bool) → again ≡ true → (c : Step Sending (List ℕ)) (attempt : Attempt) → AttemptGives attempt wire (λ ticket. record s { stage = second ticket }) c → IsCounted again c (suc (count_of attempt))
  counted_twice false is c attempt gives = absurd cc
  counted_twice true is (came.Pending s') attempt gives = ap (λ (x : Attempt). suc (count_of x)) gives.1 ∙ ap (λ (x : Sending). count_at true x.stage) (sym gives.2)
  counted_twice true is (came.Done bytes) attempt gives = let one = once_at_most attempt in (omega arith, omega (arith, one))
  counted_twice true is (came.Failed e) attempt gives = let one = once_at_most attempt in (inl (omega arith), omega (arith, one))

-- ---- what a request adds

just_adds : (log log' : LogTold) (command : List ℕ) (seen : Sight) → Adds log log' command seen → AddsJust log log' (fields command ∷ [])
just_adds log log' command seen adds calls told =
    let add = adds calls told in
    let call : Call = record { command = command; position = add.0; seen = seen } in
    (calls ++ call ∷ [], add.1, map-append (λ (c : Call). fields c.command) calls (call ∷ []))

just_sees : (log log' : LogTold) (place : Option ℕ) (seen : Sight) → Sees log log' place seen → AddsJust log log' []
just_sees log log' place seen sees calls told =
    let s = sees calls told in
    (see s.0 seen calls, s.5, commands_seen s.0 seen calls ∙ sym (append-nil (commands_sent calls)))

module _ (old new : Awaited) (log log' : LogTold) (command : List ℕ) where
  begun_adds : (attempt : Attempt) → Begins old new log log' command attempt → AddsJust log log' (replicate (count_of attempt) (fields command))
  begun_adds not_sent b = just_none log log' b.log_same
  begun_adds (waits given) b = just_adds log log' command waiting b.adds
  begun_adds (answered seen) b = just_adds log log' command seen b.adds

  gone_on_adds : (ticket : ℕ) (attempt : Attempt) → GoesOn old new log log' ticket attempt → AddsJust log log' []
  gone_on_adds ticket not_sent g = absurd g
  gone_on_adds ticket (waits given) g = just_none log log' g.log_same
  gone_on_adds ticket (answered seen) g = just_sees log log' (old ticket) seen g.sees

  tried_adds : (again : Bool) (stage : Stage) (attempt : Attempt) → Tries old new log log' command stage attempt → (more : ℕ) × AddsJust log log' (replicate more (fields command)) × (count_at again stage + more ≡ count_behind again stage attempt)
  tried_adds again unsent attempt t = let n = count_of attempt in let same : 0 + n ≡ n = omega arith in (n, begun_adds attempt t, same)
  tried_adds again (first ticket) attempt t = (0, gone_on_adds ticket attempt t, refl)
  tried_adds again (second ticket) attempt t = let n = most_often again in let same : n + 0 ≡ n = omega arith in (0, gone_on_adds ticket attempt t, same)

-- so often it was sent behind a poll
abbrev pub ran_count : (again : Bool) (old new : Awaited) (log log' : LogTold) (wire : ℤ) (s : Sending) (c : Step Sending (List ℕ)) → Runs old new log log' wire s c → ℕ
ran_count again old new log log' wire s c (inl once) = count_behind again s.stage once.attempt
ran_count again old new log log' wire s c (inr twice) = suc (count_of twice.again)

-- A poll of a request adds its command so many times; with those before a read is sent twice at most, and a write once.
runs_count : (again : Bool) (command : Fields) (old new : Awaited) (log log' : LogTold) (wire : ℤ) (s : Sending) → s.retries ≡ again → fields s.command ≡ command → (c : Step Sending (List ℕ))
    → (runs : Runs old new log log' wire s c) → (more : ℕ) × AddsJust log log' (replicate more command) × IsCounted again c (count_at again s.stage + more) × (count_at again s.stage + more ≡ ran_count again old new log log' wire s c runs)
runs_count again command old new log log' wire s may is c (inl once) =
    let x = tried_adds old new log log' s.command again s.stage once.attempt once.tries in
    (x.0, subst (λ (d : Fields). AddsJust log log' (replicate x.0 d)) is x.1, counted_once wire s again c once.attempt (count_at again s.stage + x.0) x.2 once.gives, x.2)
runs_count again command old new log log' wire s may is c (inr twice) =
    let r = repeated_once again s.stage twice.attempt (subst (λ (b : Bool). is_repeated b s.stage twice.attempt ≡ true) may twice.repeated) in
    let x = tried_adds old twice.between log twice.log_between s.command again s.stage twice.attempt twice.tries in
    let n = count_of twice.again in
    let y = begun_adds twice.between new twice.log_between log' s.command twice.again twice.begins in
    let both : AddsJust log log' (replicate (x.0 + n) (fields s.command)) =
    subst (AddsJust log log') (replicate-append-replicate x.0 n (fields s.command)) (just_on log twice.log_between log' (replicate x.0 (fields s.command)) (replicate n (fields s.command)) x.1 y) in
    let counts : suc n ≡ count_at again s.stage + (x.0 + n) = (let before = x.2 in let one = r.1 in omega (arith, before, one)) in
    (x.0 + n, subst (λ (d : Fields). AddsJust log log' (replicate (x.0 + n) d)) is both, subst (IsCounted again c) counts (counted_twice wire s again r.0 c twice.again twice.gives), sym counts)

-- ---- what a list that is read on adds

module _ (past : Past) (b : ClientBucket) (at : Place) where
  mores_on : (commands more : List Fields) → AreGetMores past b at commands → AreGetMores past b at more → AreGetMores past b at (commands ++ more)
  mores_on [] more its rest = rest
  mores_on (c ∷ commands) more its rest = (its.0, mores_on commands more its.1 rest)

  mores_sent : (calls : List Call) → ((place : ℕ) (call : Call) → slice_get calls place ≡ Some call → IsGetMore past b at (fields call.command)) → AreGetMores past b at (commands_sent calls)
  mores_sent [] each = tt
  mores_sent (c ∷ calls) each = (each 0 c refl, mores_sent calls (λ place call there. each (suc place) call there))

  mores_added : (calls calls' : List Call) → AddsOnly (IsGetMore past b at) calls calls' → (more : List Fields) × (commands_sent calls' ≡ commands_sent calls ++ more) × AreGetMores past b at more
  mores_added [] calls' a = (commands_sent calls', refl, mores_sent calls' (λ place call there. a.added place call (omega arith) there))
  mores_added (c ∷ calls) [] a = let k = a.keeps 0 c refl in absurd (let bad : None ≡ Some k.0 = k.1 in cc)
  mores_added (c ∷ calls) (d ∷ calls') a =
      let k = a.keeps 0 c refl in
      let same : d ≡ k.0 = same_some d k.0 k.1 in
      let rest = mores_added calls calls' (record { keeps = λ place call there. a.keeps (suc place) call there; added = λ place call behind there. a.added (suc place) call (omega (arith, behind)) there }) in
      (rest.0, ap₂ (λ (x : Fields) (l : List Fields). x ∷ l) (ap (λ (x : Call). fields x.command) same ∙ ap fields k.2) rest.1, rest.2)

  mores_told : (log log' : LogTold) → AddsTold (IsGetMore past b at) log log' → (more : List Fields) × AddsJust log log' more × AreGetMores past b at more
  mores_told None log' adds = ([], (λ calls told. absurd cc), tt)
  mores_told (Some calls) log' adds =
      let x = adds calls refl in
      let s = mores_added calls x.0 x.2 in
      (s.0, (λ mine told. (x.0, x.1, subst (λ (l : List Call). commands_sent x.0 ≡ commands_sent l ++ s.0) (same_some calls mine told) s.1)), s.2)

-- ---- up to some point

times_more : (part : List Fields) (count more : ℕ) (command : Fields) → part ≡ replicate count command → part ++ replicate more command ≡ replicate (count + more) command
times_more part count more command is = ap (λ (l : List Fields). l ++ replicate more command) is ∙ replicate-append-replicate count more command

module _ (past : Past) (b : ClientBucket) (at : Place) where
  behind_as : (P Q : List Fields → Type 0) (commands : List Fields) → ((part : List Fields) → P part → Q part) → SendsBehind past b at P commands → SendsBehind past b at Q commands
  behind_as P Q commands f h = record { front = h.front; part = h.part; parts = h.parts; before = h.before; its = f h.part h.its }

  behind_on : (P Q : List Fields → Type 0) (commands more : List Fields) → ((part : List Fields) → P part → Q (part ++ more)) → SendsBehind past b at P commands → SendsBehind past b at Q (commands ++ more)
  behind_on P Q commands more f h = record {
    front = h.front;
    part = h.part ++ more;
    parts = ap (λ (l : List Fields). l ++ more) h.parts ∙ append_assoc h.front h.part more;
    before = h.before;
    its = f h.part h.its;
  }

  -- behind a list no index is created yet
  index_none : (part : List Fields) → SendsList past b at part → SendsIndex past b at 0 part
  index_none part list = record { list = part; parts = sym (append-nil part); listed = list }

  -- nor is it where it was found
  list_whole : HeardWhole past b at true → (part : List Fields) → SendsList past b at part → SendsWhole past b at part
  list_whole heard part list = record { found = true; ends = index_none part list; heard = heard }

  whole_by : (found : Bool) (part : List Fields) → SendsIndex past b at (where_missing found) part → HeardWhole past b at found → SendsPart past b at part
  whole_by true part ends heard = to_list heard.created (subst (SendsList past b at) (sym (ends.parts ∙ append-nil ends.list)) ends.listed)
  whole_by false part ends heard = to_index heard.created heard.listed 1 (omega arith) ends

  of_creation : (count : ℕ) → count ≤ 1 → (commands : List Fields) → SendsBehind past b at (SendsCreation b at count) commands → CheckSends past b commands
  of_creation count few commands h = to_part at (behind_as (SendsCreation b at count) (SendsPart past b at) commands (λ part its. to_creation count few its) h)

  of_listing : HeardCreation past b at → (count : ℕ) → count ≤ 2 → OnlyAgain past (listing b at) count → (commands : List Fields) → SendsBehind past b at (AsksForList b at count) commands → CheckSends past b commands
  of_listing created count few again commands h = to_part at (behind_as (AsksForList b at count) (SendsPart past b at) commands (λ part its. to_listing created count few again its) h)

  of_list : HeardCreation past b at → (commands : List Fields) → SendsBehind past b at (SendsList past b at) commands → CheckSends past b commands
  of_list created commands h = to_part at (behind_as (SendsList past b at) (SendsPart past b at) commands (λ part its. to_list created its) h)

  of_index : HeardCreation past b at → HeardIndexes past b at false → (count : ℕ) → count ≤ 1 → (commands : List Fields) → SendsBehind past b at (SendsIndex past b at count) commands → CheckSends past b commands
  of_index created listed count few commands h = to_part at (behind_as (SendsIndex past b at count) (SendsPart past b at) commands (λ part its. to_index created listed count few its) h)

  of_whole : (commands : List Fields) → SendsBehind past b at (SendsWhole past b at) commands → CheckSends past b commands
  of_whole commands h = to_part at (behind_as (SendsWhole past b at) (SendsPart past b at) commands (λ part its. whole_by its.found part its.ends its.heard) h)

-- however far it has come, these are its commands
pub check_so_far : (past : Past) (b : ClientBucket) (commands : List Fields) (c : ClientCheck) → CheckSentAt past b commands c → CheckSends past b commands
check_so_far past b commands (finds s) h = to_find (count_at true s.stage) (most_at true s.stage) h.1 h.0
check_so_far past b commands (creates k s) h = of_creation past b k (count_at false s.stage) (most_at false s.stage) commands h
check_so_far past b commands (lists k s) h = of_listing past b k h.0 (count_at true s.stage) (most_at true s.stage) h.2 commands h.1
check_so_far past b commands (reads k cursor found count) h = of_list past b k h.0 commands h.1
check_so_far past b commands (indexes k s) h = of_index past b k h.0 h.1 (count_at false s.stage) (most_at false s.stage) commands h.2

pub check_passed : (past : Past) (b : ClientBucket) (commands : List Fields) → CheckPasses past b commands → CheckSends past b commands
check_passed past b commands (inl find) = to_find find.0.count find.0.few find.0.again find.0.parts
check_passed past b commands (inr whole) = of_whole past b place.Chunks commands whole

-- what is not sent is not sent again
none_again : (past : Past) (command : Fields) (s : Sending) → s.stage ≡ unsent → OnlyAgain past command (count_at true s.stage)
none_again past command s new many = absurd (let none = ap (count_at true) new in omega (arith, many, none))

-- it begins with nothing
pub check_begins : (past : Past) (b : ClientBucket) (commands : List Fields) (s : Sending) → commands ≡ [] → s.stage ≡ unsent → CheckSentAt past b commands (finds s)
check_begins past b commands s none new = (none ∙ ap (λ (x : Stage). replicate (count_at true x) (any_find b)) (sym new), none_again past (any_find b) s new)

-- ---- what comes of a step

-- the commands of a check by what its step comes to
abbrev pub TurnSent : Past → ClientBucket → List Fields → CheckTurned → Type 0
TurnSent past b commands (check.goes c) = CheckSentAt past b commands c
TurnSent past b commands (check.pends c) = CheckSentAt past b commands c
TurnSent past b commands check.passes = CheckPasses past b commands
TurnSent past b commands (check.fails e) = CheckSends past b commands

-- what its find heard, by what that leads to
abbrev pub AnyHeard : {bytes : List ℕ} {r : CheckTurned} (past : Past) (b : ClientBucket) → HearsAny b bytes r → Type 0
AnyHeard past b (check.some said read there is) = HeardSome past b
AnyHeard past b (check.none said read empty builds) = HeardNone past b
AnyHeard past b (check.broke e fails is) = Unit {0}

abbrev pub FindHeard : (past : Past) (b : ClientBucket) (c : Step Sending (List ℕ)) (r : CheckTurned) → HearsFind b c r → Type 0
FindHeard past b (came.Pending s) r h = Unit {0}
FindHeard past b (came.Done bytes) r h = AnyHeard past b h
FindHeard past b (came.Failed e) r h = Unit {0}

-- behind a creation after which the list is asked for
abbrev pub CreatedHeard : {c : Step Sending (List ℕ)} {r : CheckTurned} (past : Past) (b : ClientBucket) (k : Place) → Creates b k c r → Type 0
CreatedHeard past b k (check.created bytes is none builds) = HeardCreation past b k
CreatedHeard past b k (check.there e is code builds) = HeardCreation past b k
CreatedHeard past b k (check.unread bytes e is fails answer) = Unit {0}
CreatedHeard past b k (check.other e is code answer) = Unit {0}

abbrev pub CreationHeard : (past : Past) (b : ClientBucket) (k : Place) (c : Step Sending (List ℕ)) (r : CheckTurned) → HearsCreation b k c r → Type 0
CreationHeard past b k (came.Pending s) r h = Unit {0}
CreationHeard past b k (came.Done bytes) r h = CreatedHeard past b k h
CreationHeard past b k (came.Failed e) r h = CreatedHeard past b k h

-- behind the end of a list
abbrev pub EndHeard : Past → ClientBucket → Place → Bool → Type 0
EndHeard past b k true = HeardWhole past b k true
EndHeard past b k false = HeardIndexes past b k false

abbrev pub AdvanceHeard : Past → ClientBucket → Place → Bool → AdvancePoll → Type 0
AdvanceHeard past b k found advance.Pending = Unit {0}
AdvanceHeard past b k found (advance.Ready true) = Unit {0}
AdvanceHeard past b k found (advance.Ready false) = EndHeard past b k found
AdvanceHeard past b k found (advance.Failed e) = Unit {0}

-- behind the creation of one
abbrev pub IndexedHeard : {bytes : List ℕ} {r : CheckTurned} (past : Past) (b : ClientBucket) (k : Place) → HearsIndexed b k bytes r → Type 0
IndexedHeard past b k (check.done none behind) = HeardWhole past b k false
IndexedHeard past b k (check.unread e fails is) = Unit {0}

abbrev pub IndexHeard : (past : Past) (b : ClientBucket) (k : Place) (c : Step Sending (List ℕ)) (r : CheckTurned) → HearsIndex b k c r → Type 0
IndexHeard past b k (came.Pending s) r h = Unit {0}
IndexHeard past b k (came.Done bytes) r h = IndexedHeard past b k h
IndexHeard past b k (came.Failed e) r h = Unit {0}

-- what its step heard
abbrev pub StepHeard : {old new : Awaited} {log log' : LogTold} {wire : ℤ} {c : ClientCheck} (past : Past) (b : ClientBucket) (r : CheckTurned) → ChecksOn old new log log' wire b c r → Type 0
StepHeard {old} {new} {log} {log'} {wire} {c} past b r (by_find s is x runs hears) = FindHeard past b x r hears × OnlyAgain past (any_find b) (ran_count true old new log log' wire s x runs)
StepHeard {old} {new} {log} {log'} {wire} {c} past b r (by_creation k s is x runs hears) = CreationHeard past b k x r hears
StepHeard {old} {new} {log} {log'} {wire} {c} past b r (by_listing k s is x runs hears) = OnlyAgain past (listing b k) (ran_count true old new log log' wire s x runs)
StepHeard {old} {new} {log} {log'} {wire} {c} past b r (by_advance k cursor found count is empties starts left poll seeks hears) = AdvanceHeard past b k found poll × AddsTold (IsGetMore past b k) log log'
StepHeard {old} {new} {log} {log'} {wire} {c} past b r (by_index k s is x runs hears) = IndexHeard past b k x r hears

module _ (past : Past) (b : ClientBucket) (commands : List Fields) where
  turn_as : (r q : CheckTurned) → r ≡ q → TurnSent past b commands q → TurnSent past b commands r
  turn_as r q is h = subst (TurnSent past b commands) (sym is) h

  builds_sent : (again : Bool) (lines : List Line) (then : Sending → ClientCheck) (r : CheckTurned) → ((s : Sending) → s.stage ≡ unsent → CheckSentAt past b commands (then s)) → CheckSends past b commands → Builds again lines then r → TurnSent past b commands r
  builds_sent again lines then r next so_far (check.built s request is) = turn_as r (check.goes (then s)) is (next s request.new)
  builds_sent again lines then r next so_far (check.not_built e fails is) = turn_as r (check.fails e) is so_far

  -- the part of a collection begins
  part_begins : (k : Place) → SendsBefore past b k commands → (s : Sending) → s.stage ≡ unsent → SendsBehind past b k (SendsCreation b k (count_at false s.stage)) commands
  part_begins k before s new = record { front = commands; part = []; parts = sym (append-nil commands); before = before; its = ap (λ (x : Stage). replicate (count_at false x) (creation b k)) (sym new) }

  goes_behind : (k : Place) (r : CheckTurned) → SendsBehind past b k (SendsWhole past b k) commands → GoesBehind b k r → TurnSent past b commands r
  goes_behind place.Files r h goes = builds_sent false _ (creates place.Chunks) r (part_begins place.Chunks (h.front, h.part, h.parts, h.before, h.its)) (of_whole past b place.Files commands h) goes
  goes_behind place.Chunks r h is = turn_as r check.passes is (inr h)

  -- ---- the find

  any_sent : (n : ℕ) → 1 ≤ n → n ≤ 2 → OnlyAgain past (any_find b) n → commands ≡ replicate n (any_find b) → (bytes : List ℕ) (r : CheckTurned) → (h : HearsAny b bytes r) → AnyHeard past b h → TurnSent past b commands r
  any_sent n some few again so bytes r (check.some said read there is) heard = turn_as r check.passes is (inl (record { count = n; parts = so; some = some; few = few; again = again }, heard))
  any_sent n some few again so bytes r (check.none said read empty builds) heard =
      let find : SendsFind past b commands = record { count = n; parts = so; some = some; few = few; again = again } in
      builds_sent false _ (creates place.Files) r (part_begins place.Files (find, heard)) (to_find n few again so) builds
  any_sent n some few again so bytes r (check.broke e fails is) heard = turn_as r (check.fails e) is (to_find n few again so)

  find_sent : (n : ℕ) → OnlyAgain past (any_find b) n → commands ≡ replicate n (any_find b) → (c : Step Sending (List ℕ)) → IsCounted true c n → (r : CheckTurned) → (h : HearsFind b c r) → FindHeard past b c r h → TurnSent past b commands r
  find_sent n again so (came.Pending s) counted r h heard = turn_as r (check.pends (finds s)) h (so ∙ ap (λ (m : ℕ). replicate m (any_find b)) counted, subst (OnlyAgain past (any_find b)) counted again)
  find_sent n again so (came.Done bytes) counted r h heard = any_sent n counted.0 counted.1 again so bytes r h heard
  find_sent n again so (came.Failed e) counted r h heard = turn_as r (check.fails e) h (to_find n counted.1 again so)

  module _ (k : Place) where
    -- ---- the creation

    -- once it is sent the list is asked for
    listing_next : (n : ℕ) → 1 ≤ n → n ≤ 1 → (s : Sending) → s.stage ≡ unsent → (part : List Fields) → SendsCreation b k n part → AsksForList b k (count_at true s.stage) part
    listing_next n some few s new part so =
        let one : n ≡ 1 = omega (arith, some, few) in
        so ∙ ap (λ (m : ℕ). replicate m (creation b k)) one ∙ ap (λ (x : Stage). creation b k ∷ replicate (count_at true x) (listing b k)) (sym new)

    creation_goes : (n : ℕ) → 1 ≤ n → n ≤ 1 → SendsBehind past b k (SendsCreation b k n) commands → (lines : List Line) (r : CheckTurned) → HeardCreation past b k → Builds true lines (lists k) r → TurnSent past b commands r
    creation_goes n some few so lines r created builds =
        builds_sent true lines (lists k) r (λ s new. (created, behind_as past b k (SendsCreation b k n) (AsksForList b k (count_at true s.stage)) commands (listing_next n some few s new) so, none_again past (listing b k) s new)) (of_creation past b k n few commands so) builds

    -- one that is refused since the collection is there was sent
    refused_sent : (n : ℕ) (c : Step Sending (List ℕ)) (e e' : Error) → (1 ≤ n) ⊎ (e ≡ plain kind.OutOfMemory) → c ≡ came.Failed e → c ≡ came.Failed e' → command_code e'.kind ≡ Some namespace_exists → 1 ≤ n
    refused_sent n c e e' (inl some) is is' code = some
    refused_sent n c e e' (inr memory) is is' code =
        let same : e' ≡ e = cc in
        let none : command_code e'.kind ≡ None = ap (λ (x : Error). command_code x.kind) (same ∙ memory) in
        let bad : None ≡ Some namespace_exists = sym none ∙ code in
        absurd cc

    creation_done : (n : ℕ) → 1 ≤ n → n ≤ 1 → SendsBehind past b k (SendsCreation b k n) commands → (c : Step Sending (List ℕ)) (r : CheckTurned) → (h : Creates b k c r) → CreatedHeard past b k h → TurnSent past b commands r
    creation_done n some few so c r (check.created bytes is none builds) heard = creation_goes n some few so _ r heard builds
    creation_done n some few so c r (check.there e is code builds) heard = creation_goes n some few so _ r heard builds
    creation_done n some few so c r (check.unread bytes e is fails answer) heard = turn_as r (check.fails e) answer (of_creation past b k n few commands so)
    creation_done n some few so c r (check.other e is code answer) heard = turn_as r (check.fails e) answer (of_creation past b k n few commands so)

    creation_failed : (n : ℕ) (e : Error) → (1 ≤ n) ⊎ (e ≡ plain kind.OutOfMemory) → n ≤ 1 → SendsBehind past b k (SendsCreation b k n) commands → (c : Step Sending (List ℕ)) → c ≡ came.Failed e → (r : CheckTurned) → (h : Creates b k c r) → CreatedHeard past b k h → TurnSent past b commands r
    creation_failed n e some few so c failed r (check.created bytes is none builds) heard = (let bad : came.Failed e ≡ came.Done bytes = sym failed ∙ is in absurd cc)
    creation_failed n e some few so c failed r (check.there e' is code builds) heard = creation_goes n (refused_sent n c e e' some failed is code) few so _ r heard builds
    creation_failed n e some few so c failed r (check.unread bytes e' is fails answer) heard = turn_as r (check.fails e') answer (of_creation past b k n few commands so)
    creation_failed n e some few so c failed r (check.other e' is code answer) heard = turn_as r (check.fails e') answer (of_creation past b k n few commands so)

    creation_sent : (n : ℕ) → SendsBehind past b k (SendsCreation b k n) commands → (c : Step Sending (List ℕ)) → IsCounted false c n → (r : CheckTurned) → (h : HearsCreation b k c r) → CreationHeard past b k c r h → TurnSent past b commands r
    creation_sent n so (came.Pending s) counted r h heard = turn_as r (check.pends (creates k s)) h (subst (λ (m : ℕ). SendsBehind past b k (SendsCreation b k m) commands) counted so)
    creation_sent n so (came.Done bytes) counted r h heard = creation_done n counted.0 counted.1 so (came.Done bytes) r h heard
    creation_sent n so (came.Failed e) counted r h heard = creation_failed n e counted.0 counted.1 so (came.Failed e) refl r h heard

    -- ---- the list

    list_begins : (n : ℕ) → 1 ≤ n → n ≤ 2 → OnlyAgain past (listing b k) n → (part : List Fields) → AsksForList b k n part → SendsList past b k part
    list_begins n some few again part so = record { again = again; asked = n; mores = []; parts = so ∙ ap (λ (l : List Fields). creation b k ∷ l) (sym (append-nil (replicate n (listing b k)))); some = some; few = few; read_on = tt }

    list_sent : HeardCreation past b k → (n : ℕ) → 1 ≤ n → n ≤ 2 → OnlyAgain past (listing b k) n → SendsBehind past b k (AsksForList b k n) commands → (bytes : List ℕ) (r : CheckTurned) → HearsList k bytes r → TurnSent past b commands r
    list_sent created n some few again so bytes r (check.opened out opens is) =
        turn_as r (check.goes (reads k (new_documents (new_client out)) false 0)) is (created, behind_as past b k (AsksForList b k n) (SendsList past b k) commands (list_begins n some few again) so)
    list_sent created n some few again so bytes r (check.broke e fails is) = turn_as r (check.fails e) is (of_listing past b k created n few again commands so)

    listing_sent : HeardCreation past b k → (n : ℕ) → OnlyAgain past (listing b k) n → SendsBehind past b k (AsksForList b k n) commands → (c : Step Sending (List ℕ)) → IsCounted true c n → (r : CheckTurned) → HearsListing k c r → TurnSent past b commands r
    listing_sent created n again so (came.Pending s) counted r h = turn_as r (check.pends (lists k s)) h (created, subst (λ (m : ℕ). SendsBehind past b k (AsksForList b k m) commands) counted so, subst (OnlyAgain past (listing b k)) counted again)
    listing_sent created n again so (came.Done bytes) counted r h = list_sent created n counted.0 counted.1 again so bytes r h
    listing_sent created n again so (came.Failed e) counted r h = turn_as r (check.fails e) h (of_listing past b k created n counted.1 again commands so)

    module _ (created : HeardCreation past b k) (so : SendsBehind past b k (SendsList past b k) commands) where
      look_sent : (cursor : DocumentCursor) (document : List ℕ) (found : Bool) (count : ℕ) (r : CheckTurned) → Looks k cursor document found count r → TurnSent past b commands r
      look_sent cursor document found count r (check.looked i few read is) = turn_as r _ is (created, so)
      look_sent cursor document found count r (check.too_many many is) = turn_as r _ is (of_list past b k created commands so)
      look_sent cursor document found count r (check.broke e fails is) = turn_as r (check.fails e) is (of_list past b k created commands so)

      index_next : (s : Sending) → s.stage ≡ unsent → SendsBehind past b k (SendsIndex past b k (count_at false s.stage)) commands
      index_next s new =
          behind_as past b k (SendsList past b k) (SendsIndex past b k (count_at false s.stage)) commands
          (λ part its. record { list = part; parts = sym (append-nil part) ∙ ap (λ (x : Stage). part ++ replicate (count_at false x) (index_creation b k)) (sym new); listed = its }) so

      listed_sent : (found : Bool) (r : CheckTurned) → EndsList b k found r → EndHeard past b k found → TurnSent past b commands r
      listed_sent true r h heard = goes_behind k r (behind_as past b k (SendsList past b k) (SendsWhole past b k) commands (list_whole past b k heard) so) h
      listed_sent false r h heard = builds_sent false _ (indexes k) r (λ s new. (created, heard, index_next s new)) (of_list past b k created commands so) h

      advanced_sent : (cursor : DocumentCursor) (found : Bool) (count : ℕ) (poll : AdvancePoll) (r : CheckTurned) → HearsAdvance b k cursor found count poll r → AdvanceHeard past b k found poll → TurnSent past b commands r
      advanced_sent cursor found count advance.Pending r h heard = turn_as r (check.pends (reads k cursor found count)) h (created, so)
      advanced_sent cursor found count (advance.Ready true) r h heard = look_sent cursor h.0 found count r h.2
      advanced_sent cursor found count (advance.Ready false) r h heard = listed_sent found r h heard
      advanced_sent cursor found count (advance.Failed e) r h heard = turn_as r (check.fails e) h (of_list past b k created commands so)

    -- ---- the index

    indexed_sent : HeardCreation past b k → HeardIndexes past b k false → (n : ℕ) → 1 ≤ n → n ≤ 1 → SendsBehind past b k (SendsIndex past b k n) commands → (bytes : List ℕ) (r : CheckTurned) → (h : HearsIndexed b k bytes r) → IndexedHeard past b k h → TurnSent past b commands r
    indexed_sent created listed n some few so bytes r (check.done none behind) heard =
        let one : n ≡ 1 = omega (arith, some, few) in
        goes_behind k r (behind_as past b k (SendsIndex past b k n) (SendsWhole past b k) commands (λ part its. record { found = false; ends = subst (λ (m : ℕ). SendsIndex past b k m part) one its; heard = heard }) so) behind
    indexed_sent created listed n some few so bytes r (check.unread e fails is) heard = turn_as r (check.fails e) is (of_index past b k created listed n few commands so)

    index_sent : HeardCreation past b k → HeardIndexes past b k false → (n : ℕ) → SendsBehind past b k (SendsIndex past b k n) commands → (c : Step Sending (List ℕ)) → IsCounted false c n → (r : CheckTurned) → (h : HearsIndex b k c r) → IndexHeard past b k c r h → TurnSent past b commands r
    index_sent created listed n so (came.Pending s) counted r h heard = turn_as r (check.pends (indexes k s)) h (created, listed, subst (λ (m : ℕ). SendsBehind past b k (SendsIndex past b k m) commands) counted so)
    index_sent created listed n so (came.Done bytes) counted r h heard = indexed_sent created listed n counted.0 counted.1 so bytes r h heard
    index_sent created listed n so (came.Failed e) counted r h heard = turn_as r (check.fails e) h (of_index past b k created listed n counted.1 commands so)

-- ---- a step

module _ (past : Past) (b : ClientBucket) (k : Place) (commands : List Fields) where
  creation_more : (n more : ℕ) → SendsBehind past b k (SendsCreation b k n) commands → SendsBehind past b k (SendsCreation b k (n + more)) (commands ++ replicate more (creation b k))
  creation_more n more so = behind_on past b k (SendsCreation b k n) (SendsCreation b k (n + more)) commands (replicate more (creation b k)) (λ part is. times_more part n more (creation b k) is) so

  listing_more : (n more : ℕ) → SendsBehind past b k (AsksForList b k n) commands → SendsBehind past b k (AsksForList b k (n + more)) (commands ++ replicate more (listing b k))
  listing_more n more so =
      let C : Fields = creation b k in
      let L : Fields = listing b k in
      behind_on past b k (AsksForList b k n) (AsksForList b k (n + more)) commands (replicate more L)
      (λ part is. ap (λ (l : List Fields). l ++ replicate more L) is ∙ ap (λ (l : List Fields). C ∷ l) (replicate-append-replicate n more L)) so

  list_more : (more : List Fields) → AreGetMores past b k more → SendsBehind past b k (SendsList past b k) commands → SendsBehind past b k (SendsList past b k) (commands ++ more)
  list_more more mores so = behind_on past b k (SendsList past b k) (SendsList past b k) commands more (λ part its. record {
    asked = its.asked;
    mores = its.mores ++ more;
    parts = ap (λ (l : List Fields). l ++ more) its.parts ∙ ap (λ (l : List Fields). creation b k ∷ l) (append_assoc (replicate its.asked (listing b k)) its.mores more);
    some = its.some;
    few = its.few;
    again = its.again;
    read_on = mores_on past b k its.mores more its.read_on mores;
  }) so

  index_more : (n more : ℕ) → SendsBehind past b k (SendsIndex past b k n) commands → SendsBehind past b k (SendsIndex past b k (n + more)) (commands ++ replicate more (index_creation b k))
  index_more n more so =
      let I : Fields = index_creation b k in
      behind_on past b k (SendsIndex past b k n) (SendsIndex past b k (n + more)) commands (replicate more I) (λ part its. record {
        list = its.list;
        parts = ap (λ (l : List Fields). l ++ replicate more I) its.parts ∙ append_assoc its.list (replicate n I) (replicate more I) ∙ ap (λ (l : List Fields). its.list ++ l) (replicate-append-replicate n more I);
        listed = its.listed;
      }) so

module _ (past : Past) (b : ClientBucket) (old new : Awaited) (log log' : LogTold) (wire : ℤ) (commands : List Fields) where
  -- a step of it adds some commands, and behind these it is as it should be
  abbrev pub CheckAdds : CheckTurned → Type 0
  CheckAdds r = (more : List Fields) × AddsJust log log' more × TurnSent past b (commands ++ more) r

  -- A step of the check sends its next commands alone.
  pub check_adds : (c : ClientCheck) (r : CheckTurned) → IsSoundCheck b c → CheckFlies c → CheckSentAt past b commands c → (o : ChecksOn old new log log' wire b c r) → StepHeard past b r o → CheckAdds r
  check_adds c r sound flies sent (by_find s is x runs hears) heard =
      let request = subst (IsSoundCheck b) is sound in
      let n = count_at true s.stage in
      let a = runs_count true (any_find b) old new log log' wire s request.retries_is request.command_is x runs in
      let more = replicate a.0 (any_find b) in
      (more, a.1, find_sent past b (commands ++ more) (n + a.0) (subst (OnlyAgain past (any_find b)) (sym a.3) heard.1) (times_more commands n a.0 (any_find b) (subst (CheckSentAt past b commands) is sent).0) x a.2 r hears heard.0)
  check_adds c r sound flies sent (by_creation k s is x runs hears) heard =
      let request = subst (IsSoundCheck b) is sound in
      let n = count_at false s.stage in
      let a = runs_count false (creation b k) old new log log' wire s request.retries_is request.command_is x runs in
      let more = replicate a.0 (creation b k) in
      (more, a.1, creation_sent past b (commands ++ more) k (n + a.0) (creation_more past b k commands n a.0 (subst (CheckSentAt past b commands) is sent)) x a.2 r hears heard)
  check_adds c r sound flies sent (by_listing k s is x runs hears) heard =
      let before = subst (CheckSentAt past b commands) is sent in
      let request = subst (IsSoundCheck b) is sound in
      let n = count_at true s.stage in
      let a = runs_count true (listing b k) old new log log' wire s request.retries_is request.command_is x runs in
      let more = replicate a.0 (listing b k) in
      (more, a.1, listing_sent past b (commands ++ more) k before.0 (n + a.0) (subst (OnlyAgain past (listing b k)) (sym a.3) heard) (listing_more past b k commands n a.0 before.1) x a.2 r hears)
  check_adds c r sound flies sent (by_advance k cursor found count is empties starts left poll seeks hears) heard =
      let before = subst (CheckSentAt past b commands) is sent in
      let a = mores_told past b k log log' heard.1 in
      (a.0, a.1, advanced_sent past b (commands ++ a.0) k before.0 (list_more past b k commands a.0 a.2 before.1) left found count poll r hears heard.0)
  check_adds c r sound flies sent (by_index k s is x runs hears) heard =
      let before = subst (CheckSentAt past b commands) is sent in
      let request = subst (IsSoundCheck b) is sound in
      let n = count_at false s.stage in
      let a = runs_count false (index_creation b k) old new log log' wire s request.retries_is request.command_is x runs in
      let more = replicate a.0 (index_creation b k) in
      (more, a.1, index_sent past b (commands ++ more) k before.0 before.1 (n + a.0) (index_more past b k commands n a.0 before.2) x a.2 r hears heard)
