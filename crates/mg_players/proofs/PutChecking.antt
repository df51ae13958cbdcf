-- What the index check of a put sends.
use Rattle.std.proofs.Common.{◌≡◌, ◌≢◌, ℕ, zero, suc, ℤ, pos, Bool, true, false, List, [], ◌∷◌, Option, Some, None, refl, sym, ap, ◌∙◌, subst}
use Rattle.mg_bson.specs.Raw.{fields}
use Rattle.mg_bson.specs.Tree.{Fields}
use Rattle.mg_server.specs.Calls.{AddsOnly}
use Rattle.mg_link.specs.Exec.{Runs, Sending}
use Rattle.mg_link.specs.Link.{Awaited, LogTold}
use Rattle.mg_link.specs.Log.{Call}
use Rattle.mg_link.specs.Namespace.{Space}
use Rattle.mg_link.specs.Session.{Session}
use Rattle.mg_link.specs.declared.action.Step.{Step}
use Rattle.mg_link.specs.declared.action.Step.TheVariants as came
use Rattle.mg_server.proofs.Adding.{adds_none, adds_on, adds_ran}
use Rattle.mg_exec.proofs.Execs.{runs_of}
use Rattle.mg_server.proofs.Staying.{stays_ran}
use Rattle.mg_options.specs.Fields.{Line, fields_in}
use Rattle.mg_ops.specs.Cursors.{Manner, OpensWith, next_command}
use Rattle.mg_ops.specs.declared.cursor_reply.CursorSpecification.{CursorSpecification}
use Rattle.mg_cursor.specs.Client.{ClientCursor, IsSound, SoundBy, get_more, new_client}
use Rattle.mg_cursor.specs.Documents as documents
use Rattle.mg_cursor.specs.Documents.{AdvancesOnce, DocumentCursor, TakesNext, filled_with}
use Rattle.mg_cursor.specs.Polling as polls
use Rattle.mg_cursor.specs.Polling.{Hears, PollsNext}
use Rattle.mg_cursor.specs.Seeking.{EndsSeeking, SeeksDocument, TriesAdvance, kept_behind, session_after}
use Rattle.mg_cursor.specs.declared.polls.AdvancePoll.{AdvancePoll}
use Rattle.mg_cursor.specs.declared.polls.AdvancePoll.TheVariants as advance
use Rattle.mg_cursor.specs.declared.polls.NextPoll.{NextPoll}
use Rattle.mg_cursor.specs.declared.polls.NextPoll.TheVariants as next
use Rattle.mg_cursor.specs.declared.polls.TryPoll.{TryPoll}
use Rattle.mg_cursor.specs.declared.polls.TryPoll.TheVariants as try
use Rattle.mg_cursor.specs.declared.results.AdvanceResult.TheVariants as result
use Rattle.mg_cursor.proofs.Advancing.{advance_sound}
use Rattle.mg_gridfs.specs.Buckets.{ClientBucket}
use Rattle.mg_gridfs.specs.Causes.{IsOfCheck, a_creation, a_find, a_listing, an_index}
use Rattle.mg_gridfs.specs.Checks as check
use Rattle.mg_gridfs.specs.Checks.{Builds, CheckTurned, ChecksOn, ClientCheck, Creates, EndsList, GoesBehind, HearsAdvance, HearsAny, HearsCreation, HearsFind, HearsIndex, HearsIndexed, HearsList, HearsListing, IsSoundCheck, LandsAdvance, LandsCheck, LandsRequest, Looks, by_advance, by_creation, by_find, by_index, by_listing, creates, finds, indexes, lists, reads}
use Rattle.mg_gridfs.specs.Commands.{any_lines, creation_lines, index_lines, listing_lines}
use Rattle.mg_gridfs.specs.declared.indexes.Place.{Place}
use Rattle.mg_gridfs.specs.declared.indexes.Place.TheVariants as place
use Rattle.mg_players.specs.PutSends as sends
use Rattle.mg_players.specs.Gets.{no_manner}
use Rattle.mg_players.specs.PutSends.{IsCheckCommand}
use Rattle.mg_players.specs.Puts.{PutTask, put_bucket}
use Rattle.mg_players.specs.Sends.{CheckFlies}
use Rattle.mg_players.proofs.Sends.{manner_behind}

-- ---- logs

-- each command that was added to a log that is told is such a one
abbrev pub AddsTold : (Fields → Type 0) → LogTold → LogTold → Type 0
AddsTold may log log' = (calls : List Call) → log ≡ Some calls → (calls' : List Call) × (log' ≡ Some calls') × AddsOnly may calls calls'

module _ (may : Fields → Type 0) where
  pub told_same : (log log' : LogTold) → log' ≡ log → AddsTold may log log'
  told_same log log' same calls told = (calls, same ∙ told, adds_none may calls)

  pub told_on : (log mid log' : LogTold) → AddsTold may log mid → AddsTold may mid log' → AddsTold may log log'
  told_on log mid log' p q calls told =
      let x = p calls told in
      let y = q x.0 x.1 in
      (y.0, y.1, adds_on may calls x.0 y.0 x.2 y.2)

  pub told_ran : (old new : Awaited) (log log' : LogTold) (wire : ℤ) (s : Sending) (c : Step Sending (List ℕ)) → may (fields s.command) → Runs old new log log' wire s c → AddsTold may log log'
  told_ran old new log log' wire s c is runs calls told =
      let k = stays_ran old new log log' wire s c runs calls told in
      (k.0, k.1, adds_ran may old new log log' wire s c is runs calls k.0 told k.1)

-- where such commands are others too, those are added alone
pub told_as : (may might : Fields → Type 0) → ((command : Fields) → may command → might command) → (log log' : LogTold) → AddsTold may log log' → AddsTold might log log'
told_as may might so log log' adds calls told =
    let x = adds calls told in
    (x.0, x.1, record { keeps = x.2.keeps; added = λ place call behind there. so (fields call.command) (x.2.added place call behind there) })

-- ---- the list of indexes

-- reads some list on, without options
abbrev pub AsksForMore : Fields → Type 0
AsksForMore command = (id : ℤ) × (space : Space) × (command ≡ next_command id space no_manner)

-- reads it on by this cursor, which the server holds
abbrev pub IsMoreBy : ClientCursor → Fields → Type 0
IsMoreBy c command = (c.id ≢ pos 0) × (command ≡ next_command c.id c.space no_manner)

more_by : (c : ClientCursor) (command : Fields) → IsMoreBy c command → AsksForMore command
more_by c command more = (c.id, c.space, more.1)

more_flies : (c : ClientCursor) (s : Sending) → c.manner ≡ no_manner → c.id ≢ pos 0 → fields s.command ≡ get_more c None → IsMoreBy c (fields s.command)
more_flies c s plain held is = (held, is ∙ ap (λ (m : Manner). next_command c.id c.space m) plain)

heard_manner : (c c' : ClientCursor) (x : Step Sending (List ℕ)) (r : NextPoll) → Hears c x c' r → c'.manner ≡ c.manner
heard_manner c c' (came.Pending s) r h = ap (λ (y : ClientCursor). y.manner) h.0
heard_manner c c' (came.Done reply) r (polls.gave said read is answer) = ap (λ (y : ClientCursor). y.manner) is
heard_manner c c' (came.Done reply) r (polls.broke e fails is answer) = ap (λ (y : ClientCursor). y.manner) is
heard_manner c c' (came.Failed e) r h = ap (λ (y : ClientCursor). y.manner) h.0 ∙ manner_behind e.kind c

filled_cursor : (c : ClientCursor) (xs : List (List ℕ)) (d : DocumentCursor) → (filled_with c xs d).cursor ≡ c
filled_cursor c [] d = refl
filled_cursor c (x ∷ xs) d = refl

taken_manner : (d : DocumentCursor) (c : ClientCursor) (p : NextPoll) (d' : DocumentCursor) (r : TryPoll) → TakesNext d c p d' r → d'.cursor.manner ≡ c.manner
taken_manner d c next.Pending d' r h = ap (λ (y : DocumentCursor). y.cursor.manner) h.0
taken_manner d c (next.Batch bytes) d' r (documents.filled ds read is answer) = ap (λ (y : DocumentCursor). y.cursor.manner) is ∙ ap (λ (y : ClientCursor). y.manner) (filled_cursor c ds d)
taken_manner d c (next.Batch bytes) d' r (documents.broken e breaks is answer) = ap (λ (y : DocumentCursor). y.cursor.manner) is
taken_manner d c next.End d' r h = ap (λ (y : DocumentCursor). y.cursor.manner) h.0
taken_manner d c (next.Failed e) d' r h = ap (λ (y : DocumentCursor). y.cursor.manner) h.0

ended_manner : (p : TryPoll) (a d' : DocumentCursor) (r : AdvancePoll) → EndsSeeking p a d' r → d'.cursor.manner ≡ a.cursor.manner
ended_manner try.Pending a d' r h = ap (λ (y : DocumentCursor). y.cursor.manner) h.0
ended_manner (try.Ready x) a d' r h = ap (λ (y : DocumentCursor). y.cursor.manner) h.1
ended_manner (try.Failed e) a d' r h = ap (λ (y : DocumentCursor). y.cursor.manner) h.0

kept_manner : (r : TryPoll) (a : DocumentCursor) → (kept_behind r a).cursor.manner ≡ a.cursor.manner
kept_manner try.Pending a = refl
kept_manner (try.Ready x) a = refl
kept_manner (try.Failed e) a = refl

-- it adds getMores alone, and goes on to ask for more without options
abbrev pub AsksOn : LogTold → LogTold → DocumentCursor → Type 0
AsksOn log log' d = AddsTold AsksForMore log log' × (d.cursor.manner ≡ no_manner)

module _ (old new : Awaited) (log log' : LogTold) (wire : ℤ) where
  next_sends : (started : Bool) (c c' : ClientCursor) (r : NextPoll) → IsSound true c → c.manner ≡ no_manner → PollsNext old new log log' wire None started c c' r → AddsTold (IsMoreBy c) log log' × (c'.manner ≡ no_manner)
  next_sends started c c' r sound plain (polls.hands_out reply doing quiet none is answer) = (told_same (IsMoreBy c) log log' quiet.log_same, ap (λ (y : ClientCursor). y.manner) is ∙ plain)
  next_sends started c c' r sound plain (polls.is_over doing over quiet none is answer) = (told_same (IsMoreBy c) log log' quiet.log_same, ap (λ (y : ClientCursor). y.manner) is ∙ plain)
  next_sends started c c' r sound plain (polls.not_built doing may e fails quiet none is answer) = (told_same (IsMoreBy c) log log' quiet.log_same, ap (λ (y : ClientCursor). y.manner) is ∙ plain)
  next_sends started c c' r sound plain (polls.begins doing may s new_one more) = (
    told_ran (IsMoreBy c) old new log log' wire s more.came (more_flies c s plain may.held new_one.command_is) (runs_of old new log log' wire s more.came started more.runs),
    heard_manner c c' more.came r more.hears ∙ plain,
  )
  next_sends started c c' r sound plain (polls.goes_on s doing more) =
      let asks = subst (SoundBy true c) doing sound in (
        told_ran (IsMoreBy c) old new log log' wire s more.came (more_flies c s plain asks.may.held (asks.waits_on.command_is ∙ ap (get_more c) asks.plainly)) (runs_of old new log log' wire s more.came started more.runs),
        heard_manner c c' more.came r more.hears ∙ plain,
      )

  -- by the cursor that it has
  pub more_sends : (started : Bool) (d d' : DocumentCursor) (r : TryPoll) → IsSound true d.cursor → d.cursor.manner ≡ no_manner → AdvancesOnce old new log log' wire None started d d' r → AddsTold (IsMoreBy d.cursor) log log' × (d'.cursor.manner ≡ no_manner)
  more_sends started d d' r sound plain (documents.gives x xs some quiet none is answer) = (told_same (IsMoreBy d.cursor) log log' quiet.log_same, ap (λ (y : DocumentCursor). y.cursor.manner) is ∙ plain)
  more_sends started d d' r sound plain (documents.polls empty c p polled takes) = let n = next_sends started d.cursor c p sound plain polled in (n.0, taken_manner d c p d' r takes ∙ n.1)

  once_sends : (started : Bool) (d d' : DocumentCursor) (r : TryPoll) → IsSound true d.cursor → d.cursor.manner ≡ no_manner → AdvancesOnce old new log log' wire None started d d' r → AsksOn log log' d'
  once_sends started d d' r sound plain once = let m = more_sends started d d' r sound plain once in (told_as (IsMoreBy d.cursor) AsksForMore (more_by d.cursor) log log' m.0, m.1)

  try_sends : (started : Bool) (d d' : DocumentCursor) (r : TryPoll) → IsSound true d.cursor → d.cursor.manner ≡ no_manner → TriesAdvance old new log log' wire None started d d' r → AsksOn log log' d'
  try_sends started d d' r sound plain tries = let o = once_sends started d tries.advanced r sound plain tries.tries in (o.0, ap (λ (y : DocumentCursor). y.cursor.manner) tries.kept ∙ kept_manner r tries.advanced ∙ o.1)

none_after : (started : Bool) → session_after started None ≡ None
none_after true = refl
none_after false = refl

pub seeks_send : (n : ℕ) (old new : Awaited) (log log' : LogTold) (wire : ℤ) (starts : ℕ) (d d' : DocumentCursor) (r : AdvancePoll) → IsSound true d.cursor → d.cursor.manner ≡ no_manner → SeeksDocument n old new log log' wire None starts d d' r → AsksOn log log' d'
unfolding SeeksDocument
seeks_send zero old new log log' wire starts d d' r sound plain seeks =
    let o = once_sends old new log log' wire seeks.started d seeks.advanced seeks.poll sound plain seeks.tries in
    (o.0, ended_manner seeks.poll seeks.advanced d' r seeks.ends ∙ o.1)
seeks_send (suc n) old new log log' wire starts d d' r sound plain seeks =
    let on = seeks.5 in
    let o = once_sends old seeks.0 log seeks.1 wire seeks.2 d on.advanced (try.Ready result.Waiting) sound plain on.tries in
    let sound_on = advance_sound true old seeks.0 log seeks.1 wire None seeks.2 d on.advanced (try.Ready result.Waiting) sound refl on.tries in
    let rest = seeks_send n seeks.0 new seeks.1 log' wire seeks.3 seeks.4 d' r (subst (λ (y : DocumentCursor). IsSound true y.cursor) (sym on.counts) sound_on) (ap (λ (y : DocumentCursor). y.cursor.manner) on.counts ∙ o.1)
    (subst (λ (s : Option Session). SeeksDocument n seeks.0 new seeks.1 log' wire s seeks.3 seeks.4 d' r) (none_after seeks.2) seeks.7) in
    (told_on AsksForMore log seeks.1 log' o.0 rest.0, rest.1)

-- ---- what comes of a step

abbrev pub TurnFlies : CheckTurned → Type 0
TurnFlies (check.goes c) = CheckFlies c
TurnFlies (check.pends c) = CheckFlies c
TurnFlies check.passes = Unit {0}
TurnFlies (check.fails e) = Unit {0}

turn_as : (t q : CheckTurned) → t ≡ q → TurnFlies q → TurnFlies t
turn_as t q is flies = subst TurnFlies (sym is) flies

builds_flies : (again : Bool) (lines : List Line) (then : Sending → ClientCheck) (t : CheckTurned) → ((s : Sending) → CheckFlies (then s)) → Builds again lines then t → TurnFlies t
builds_flies again lines then t flies (check.built s new is) = turn_as t (check.goes (then s)) is (flies s)
builds_flies again lines then t flies (check.not_built e fails is) = turn_as t (check.fails e) is tt

behind_flies : (b : ClientBucket) (k : Place) (t : CheckTurned) → GoesBehind b k t → TurnFlies t
behind_flies b place.Files t h = builds_flies false _ (creates place.Chunks) t (λ s. tt) h
behind_flies b place.Chunks t h = turn_as t check.passes h tt

listed_flies : (b : ClientBucket) (k : Place) (found : Bool) (t : CheckTurned) → EndsList b k found t → TurnFlies t
listed_flies b k true t h = behind_flies b k t h
listed_flies b k false t h = builds_flies false _ (indexes k) t (λ s. tt) h

any_flies : (b : ClientBucket) (reply : List ℕ) (t : CheckTurned) → HearsAny b reply t → TurnFlies t
any_flies b reply t (check.some said read there is) = turn_as t check.passes is tt
any_flies b reply t (check.none said read empty builds) = builds_flies false _ (creates place.Files) t (λ s. tt) builds
any_flies b reply t (check.broke e fails is) = turn_as t (check.fails e) is tt

created_flies : (b : ClientBucket) (k : Place) (c : Step Sending (List ℕ)) (t : CheckTurned) → Creates b k c t → TurnFlies t
created_flies b k c t (check.created reply is none builds) = builds_flies true _ (lists k) t (λ s. tt) builds
created_flies b k c t (check.there e is code builds) = builds_flies true _ (lists k) t (λ s. tt) builds
created_flies b k c t (check.unread reply e is fails answer) = turn_as t (check.fails e) answer tt
created_flies b k c t (check.other e is code answer) = turn_as t (check.fails e) answer tt

-- the list is opened without options
pub opened_plainly : (reply : List ℕ) (out : CursorSpecification) → OpensWith None None None reply out → (new_client out).manner ≡ no_manner
opened_plainly reply out read = rw (read.opens.size_is, read.time_is, read.comment_is) refl

list_flies : (k : Place) (reply : List ℕ) (t : CheckTurned) → HearsList k reply t → TurnFlies t
list_flies k reply t (check.opened out opens is) = turn_as t _ is (opened_plainly reply out opens)
list_flies k reply t (check.broke e fails is) = turn_as t (check.fails e) is tt

look_flies : (k : Place) (cursor : DocumentCursor) (document : List ℕ) (found : Bool) (count : ℕ) (t : CheckTurned) → cursor.cursor.manner ≡ no_manner → Looks k cursor document found count t → TurnFlies t
look_flies k cursor document found count t plain (check.looked i few read is) = turn_as t _ is plain
look_flies k cursor document found count t plain (check.too_many many is) = turn_as t _ is tt
look_flies k cursor document found count t plain (check.broke e fails is) = turn_as t (check.fails e) is tt

advanced_flies : (b : ClientBucket) (k : Place) (cursor : DocumentCursor) (found : Bool) (count : ℕ) (poll : AdvancePoll) (t : CheckTurned) → cursor.cursor.manner ≡ no_manner → HearsAdvance b k cursor found count poll t → TurnFlies t
advanced_flies b k cursor found count advance.Pending t plain h = turn_as t (check.pends (reads k cursor found count)) h plain
advanced_flies b k cursor found count (advance.Ready true) t plain h = look_flies k cursor h.0 found count t plain h.2
advanced_flies b k cursor found count (advance.Ready false) t plain h = listed_flies b k found t h
advanced_flies b k cursor found count (advance.Failed e) t plain h = turn_as t (check.fails e) h tt

indexed_flies : (b : ClientBucket) (k : Place) (reply : List ℕ) (t : CheckTurned) → HearsIndexed b k reply t → TurnFlies t
indexed_flies b k reply t (check.done none behind) = behind_flies b k t behind
indexed_flies b k reply t (check.unread e fails is) = turn_as t (check.fails e) is tt

find_flies : (b : ClientBucket) (c : Step Sending (List ℕ)) (t : CheckTurned) → HearsFind b c t → TurnFlies t
find_flies b (came.Pending s) t h = turn_as t (check.pends (finds s)) h tt
find_flies b (came.Done reply) t h = any_flies b reply t h
find_flies b (came.Failed e) t h = turn_as t (check.fails e) h tt

creation_flies : (b : ClientBucket) (k : Place) (c : Step Sending (List ℕ)) (t : CheckTurned) → HearsCreation b k c t → TurnFlies t
creation_flies b k (came.Pending s) t h = turn_as t (check.pends (creates k s)) h tt
creation_flies b k (came.Done reply) t h = created_flies b k (came.Done reply) t h
creation_flies b k (came.Failed e) t h = created_flies b k (came.Failed e) t h

listing_flies : (k : Place) (c : Step Sending (List ℕ)) (t : CheckTurned) → HearsListing k c t → TurnFlies t
listing_flies k (came.Pending s) t h = turn_as t (check.pends (lists k s)) h tt
listing_flies k (came.Done reply) t h = list_flies k reply t h
listing_flies k (came.Failed e) t h = turn_as t (check.fails e) h tt

index_flies : (b : ClientBucket) (k : Place) (c : Step Sending (List ℕ)) (t : CheckTurned) → HearsIndex b k c t → TurnFlies t
index_flies b k (came.Pending s) t h = turn_as t (check.pends (indexes k s)) h tt
index_flies b k (came.Done reply) t h = indexed_flies b k reply t h
index_flies b k (came.Failed e) t h = turn_as t (check.fails e) h tt

-- what is left of a check that is given up
abbrev pub LeftFlies : Option ClientCheck → Type 0
LeftFlies None = Unit {0}
LeftFlies (Some c) = CheckFlies c

left_as : (t q : Option ClientCheck) → t ≡ q → LeftFlies q → LeftFlies t
left_as t q is flies = subst LeftFlies (sym is) flies

landed_flies : (then : Sending → ClientCheck) → ((s : Sending) → CheckFlies (then s)) → (c : Step Sending (List ℕ)) (t : Option ClientCheck) → LandsRequest then c t → LeftFlies t
landed_flies then flies (came.Pending s) t is = left_as t (Some (then s)) is (flies s)
landed_flies then flies (came.Done reply) t is = left_as t None is tt
landed_flies then flies (came.Failed e) t is = left_as t None is tt

list_left : (k : Place) (cursor : DocumentCursor) (found : Bool) (count : ℕ) (poll : TryPoll) (t : Option ClientCheck) → cursor.cursor.manner ≡ no_manner → LandsAdvance k cursor found count poll t → LeftFlies t
list_left k cursor found count try.Pending t plain is = left_as t (Some (reads k cursor found count)) is plain
list_left k cursor found count (try.Ready a) t plain is = left_as t None is tt
list_left k cursor found count (try.Failed e) t plain is = left_as t None is tt

module _ (t : PutTask) (old new : Awaited) (log log' : LogTold) (wire : ℤ) (b : ClientBucket) (same : b ≡ put_bucket t) where
  -- a command of the check
  its_own : (lines : ClientBucket → List Line) → IsOfCheck (put_bucket t) (lines (put_bucket t)) → (command : List ℕ) → fields command ≡ fields_in (lines b) → IsCheckCommand (put_bucket t) (fields command)
  its_own lines of command is = sends.of_check (lines (put_bucket t)) of (is ∙ ap (λ (x : ClientBucket). fields_in (lines x)) same)

  more_told : AddsTold AsksForMore log log' → AddsTold (IsCheckCommand (put_bucket t)) log log'
  more_told adds = told_as AsksForMore (IsCheckCommand (put_bucket t)) (λ command is. sends.reads_on is.0 is.1 is.2) log log' adds

  ran : (s : Sending) (c : Step Sending (List ℕ)) (lines : ClientBucket → List Line) → IsOfCheck (put_bucket t) (lines (put_bucket t)) → fields s.command ≡ fields_in (lines b) → Runs old new log log' wire s c → AddsTold (IsCheckCommand (put_bucket t)) log log'
  ran s c lines of is runs = told_ran (IsCheckCommand (put_bucket t)) old new log log' wire s c (its_own lines of s.command is) runs

  -- A step of the check sends its commands alone.
  pub check_sends : (c : ClientCheck) (r : CheckTurned) → IsSoundCheck b c → CheckFlies c → ChecksOn old new log log' wire b c r → AddsTold (IsCheckCommand (put_bucket t)) log log' × TurnFlies r
  check_sends c r sound flies (by_find s is x runs hears) = let q = subst (IsSoundCheck b) is sound in (ran s x any_lines (a_find refl) q.command_is runs, find_flies b x r hears)
  check_sends c r sound flies (by_creation k s is x runs hears) = let q = subst (IsSoundCheck b) is sound in (ran s x (λ y. creation_lines y k) (a_creation k refl) q.command_is runs, creation_flies b k x r hears)
  check_sends c r sound flies (by_listing k s is x runs hears) = let q = subst (IsSoundCheck b) is sound in (ran s x (λ y. listing_lines y k) (a_listing k refl) q.command_is runs, listing_flies k x r hears)
  check_sends c r sound flies (by_advance k cursor found count is empties starts left poll seeks hears) =
      let o = seeks_send empties old new log log' wire starts cursor left poll (subst (IsSoundCheck b) is sound).0 (subst CheckFlies is flies) seeks in
      (more_told o.0, advanced_flies b k left found count poll r o.1 hears)
  check_sends c r sound flies (by_index k s is x runs hears) = let q = subst (IsSoundCheck b) is sound in (ran s x (λ y. index_lines y k) (an_index k refl) q.command_is runs, index_flies b k x r hears)

  -- So does one that is given up.
  pub landing_sends : (c : ClientCheck) (left : Option ClientCheck) → IsSoundCheck b c → CheckFlies c → LandsCheck old new log log' wire c left → AddsTold (IsCheckCommand (put_bucket t)) log log' × LeftFlies left
  landing_sends c left sound flies (by_find s is x runs lands) = let q = subst (IsSoundCheck b) is sound in (ran s x any_lines (a_find refl) q.command_is runs, landed_flies finds (λ y. tt) x left lands)
  landing_sends c left sound flies (by_creation k s is x runs lands) = let q = subst (IsSoundCheck b) is sound in (ran s x (λ y. creation_lines y k) (a_creation k refl) q.command_is runs, landed_flies (creates k) (λ y. tt) x left lands)
  landing_sends c left sound flies (by_listing k s is x runs lands) = let q = subst (IsSoundCheck b) is sound in (ran s x (λ y. listing_lines y k) (a_listing k refl) q.command_is runs, landed_flies (lists k) (λ y. tt) x left lands)
  landing_sends c left sound flies (by_advance k cursor found count is started behind poll tries lands) =
      let o = try_sends old new log log' wire started cursor behind poll (subst (IsSoundCheck b) is sound).0 (subst CheckFlies is flies) tries in
      (more_told o.0, list_left k behind found count poll left o.1 lands)
  landing_sends c left sound flies (by_index k s is x runs lands) = let q = subst (IsSoundCheck b) is sound in (ran s x (λ y. index_lines y k) (an_index k refl) q.command_is runs, landed_flies (indexes k) (λ y. tt) x left lands)
