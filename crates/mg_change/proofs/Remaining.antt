-- What is left of a stream whose closing goes on.
use Rattle.std.proofs.Common.{◌≡◌, ◌≢◌, ◌==◌, ℕ, ℤ, Bool, true, false, List, [], ◌∷◌, ◌++◌, length, Option, Some, None, Result, Ok, Err, OnOk, option_map, refl, sym, ap, ◌∙◌, subst, arith}
use Rattle.std.specs.Prelude.{OnErr}
use Rattle.std.proofs.lemmas.Bool.{eqb-true}
use Rattle.mg_bson.specs.Raw.{fields}
use Rattle.mg_bson.specs.Tree.{Tree}
use Rattle.mg_link.specs.Exec.{Runs, Sending, ticket_at, ticket_of, IsFirstTry}
use Rattle.mg_link.specs.Link.{Awaited, LogTold}
use Rattle.mg_link.specs.Moment.{Ending, LinkKeeps, Moment}
use Rattle.mg_link.specs.Namespace.{Space}
use Rattle.mg_link.specs.declared.action.Step.{Step}
use Rattle.mg_link.specs.declared.action.Step.TheVariants as step
use Rattle.mg_link.specs.declared.error.Error.{Error}
use Rattle.mg_link.proofs.Moments.{keeps_on}
use Rattle.mg_link.proofs.Waits.{waits_still}
use Rattle.mg_ops.specs.Commands.{kill_command}
use Rattle.mg_ops.specs.Cursors.{Cursor, cursor_of}
use Rattle.mg_ops.specs.Failing.{CannotBeSent, FailsBy}
use Rattle.mg_ops.specs.Naming.{IsNamed}
use Rattle.mg_ops.specs.declared.aggregate.ChangeStreamAggregate.{ChangeStreamAggregate}
use Rattle.mg_ops.specs.declared.change_stream.ChangeStreamData.{ChangeStreamData}
use Rattle.mg_cursor.specs.Client.{ClientCursor, IsNew, asks, holds, rests}
use Rattle.mg_cursor.specs.Client as cursors
use Rattle.mg_cursor.specs.Closing.{IsNotAsking, LandsIn, heard, quiet}
use Rattle.mg_cursor.specs.Polling.{Hears, ReadsReply, broke, gave}
use Rattle.mg_cursor.specs.View.{client_of, current_of}
use Rattle.mg_cursor.specs.declared.batches.Batches.{Batches}
use Rattle.mg_cursor.specs.declared.polls.NextPoll.{NextPoll}
use Rattle.mg_cursor.specs.declared.polls.NextPoll.TheVariants as next
use Rattle.mg_change.specs.ClientStreams.{token_known}
use Rattle.mg_change.specs.ClosingStreams.{BehindMore, BehindOpening, ClosesStream, ClosingStream, HearsKill, IsSoundClosing, IsToKill, KillsLeft, Landing, LandsSoundly, PassesOver, RunsKill, begins, ends, handed_over, ids_left, kill_left, lands, lands_aggregate, lands_more, lands_replaced, opened_none, opened_one, unless_none}
use Rattle.mg_change.specs.ClosingView.{IsClosingIn, SavesIn, closing_in, remains_token}
use Rattle.mg_change.specs.StreamView.{IsSavedPlace, SavesWhile, is_lent, token_lying, with_token}
use Rattle.mg_steps.specs.declared.token.TokenPlace.{TokenPlace}
use Rattle.mg_steps.specs.declared.token.TokenPlace.TheVariants as place
use Rattle.mg_change.specs.declared.closing.Remains.{Remains}

-- ---- a new closing

saves_in : (at : TokenPlace) (d : Landing) (doing : cursors.Doing) → SavesWhile at doing → SavesIn at d doing
saves_in at lands doing h = h
saves_in at (lands_aggregate sending) doing h = tt
saves_in at (lands_replaced old) doing h = tt
saves_in at (ends sending) doing h = tt

-- what is on its way is as it was taken over
pub closing_begun : (r : Remains) (d d' : Landing) → d' ≡ d → IsSoundClosing (closing_in r d) → SavesWhile r.token (client_of r.batches).doing → IsClosingIn r d'
closing_begun r d d' same sound saves = subst (IsClosingIn r) (sym same) (record { sound = sound; saves = saves_in r.token d (client_of r.batches).doing saves })

-- ---- its token

none_in : (o : Option ChangeStreamData) → token_known (option_map (λ (known : ChangeStreamData). record known { resume_token = None }) o) ≡ None
none_in None = refl
none_in (Some known) = refl

-- without a token of its own it has the cursor's at most, which it hands on
as_handed : (t : Option Tree) (lent : Bool) (c : ClientCursor) (opened : ℤ) (d : Landing) → t ≡ None → lent ≡ false
    → record { token = t; lent = lent; cursor = c; opened = opened; doing = d } ≡ handed_over c.token (record { token = t; lent = lent; cursor = c; opened = opened; doing = d })
as_handed t lent c opened d none own =
    ap (λ (x : Option Tree). record { token = x; lent = lent; cursor = c; opened = opened; doing = d }) none ∙ ap (λ (b : Bool). record { token = None; lent = b; cursor = c; opened = opened; doing = d }) own

pub saved_handed : (r : Remains) (a : ChangeStreamAggregate) (d : Landing) → r.token ≡ place.Saved → a ≡ with_token None r.aggregate → closing_in (record r { aggregate = a }) d ≡ handed_over (client_of r.batches).token (closing_in r d)
saved_handed r a d saved same =
    as_handed (remains_token (record r { aggregate = a })) (is_lent r.token) (client_of r.batches) r.opened d
    (ap (λ (t : TokenPlace). token_lying t (token_known a.resume) (current_of r.buffer) (client_of r.batches).token) saved ∙ ap (λ (x : ChangeStreamAggregate). token_known x.resume) same ∙ none_in r.aggregate.resume)
    (ap is_lent saved)

-- behind the batch, from where it was taken
pub behind_handed : (r r' : Remains) (b : Batches) (d : Landing) → client_of b ≡ record (client_of r.batches) { token = None } → r'.batches ≡ b → closing_in r' d ≡ handed_over (client_of b).token (closing_in (record r { batches = b }) d)
    → closing_in r' d ≡ handed_over (client_of r'.batches).token (closing_in r d)
behind_handed r r' b d taken kept h =
    h
    ∙ ap (λ (c : ClientCursor). record { token = None; lent = false; cursor = record c { token = (client_of b).token }; opened = r.opened; doing = d }) taken
    ∙ ap (λ (x : Batches). handed_over (client_of x).token (closing_in r d)) (sym kept)

pub event_handed : (r r' : Remains) (d : Landing) → r'.batches ≡ r.batches → closing_in r' d ≡ handed_over (client_of r.batches).token (closing_in r d) → closing_in r' d ≡ handed_over (client_of r'.batches).token (closing_in r d)
event_handed r r' d kept h = h ∙ ap (λ (x : Batches). handed_over (client_of x).token (closing_in r d)) (sym kept)

-- what is sound stays so
still_sound : (left : Option Tree) (c : ClientCursor) (doing : cursors.Doing) → cursors.SoundBy false c doing → cursors.SoundBy false (record c { token = left }) doing
still_sound left c rests h = tt
still_sound left c (holds reply) h = tt
still_sound left c (asks sending) h = record { session = h.session; plainly = h.plainly; waits_on = h.waits_on; may = record { held = h.may.held; reached = h.may.reached } }

still_lands : (left : Option Tree) (k : ClosingStream) (d : Landing) → LandsSoundly k d → LandsSoundly (handed_over left k) d
still_lands left k lands h = record { asks_its_own = still_sound left k.cursor k.cursor.doing h.asks_its_own; named = h.named; alone = h.alone }
still_lands left k (lands_aggregate sending) h = h
still_lands left k (lands_replaced old) h = h
still_lands left k (ends sending) h = h

saved_while : (doing : cursors.Doing) → SavesWhile place.Saved doing
saved_while rests = tt
saved_while (holds reply) = tt
saved_while (asks sending) = tt

pub handed_closing : (r r' : Remains) (d : Landing) (left : Option Tree) → r'.token ≡ place.Saved → closing_in r' d ≡ handed_over left (closing_in r d) → IsClosingIn r d → IsClosingIn r' d
handed_closing r r' d left gone same is = record {
  sound = subst IsSoundClosing (sym same) (still_lands left (closing_in r d) d is.sound);
  saves = subst (λ (at : TokenPlace). SavesIn at d (client_of r'.batches).doing) (sym gone) (saves_in place.Saved d (client_of r'.batches).doing (saved_while (client_of r'.batches).doing));
}

-- it was handed over, or memory ran out
module _ (answer : Result (Option Tree) Error) (r r' : Remains) (d : Landing) where
  pub handed_either : OnErr answer (r' ≡ r) → OnOk answer (r'.token ≡ place.Saved) → OnOk answer ((landing : Landing) → closing_in r' landing ≡ handed_over (client_of r'.batches).token (closing_in r landing)) → IsClosingIn r d → IsClosingIn r' d
  handed_either kept gone rest is = either answer kept gone rest
    where
      either : (x : Result (Option Tree) Error) → OnErr x (r' ≡ r) → OnOk x (r'.token ≡ place.Saved) → OnOk x ((landing : Landing) → closing_in r' landing ≡ handed_over (client_of r'.batches).token (closing_in r landing)) → IsClosingIn r' d
      either (Ok token) kept gone rest = handed_closing r r' d (client_of r'.batches).token gone (rest d) is
      either (Err e) kept gone rest = subst (λ (x : Remains). IsClosingIn x d) (sym kept) is

  pub handed_seen : (k : ClosingStream) → closing_in r d ≡ k → OnOk answer ((landing : Landing) → closing_in r' landing ≡ handed_over (client_of r'.batches).token (closing_in r landing)) → OnOk answer (closing_in r' d ≡ handed_over (client_of r'.batches).token k)
  handed_seen k seen rest = by_answer answer rest
    where
      by_answer : (x : Result (Option Tree) Error) → OnOk x ((landing : Landing) → closing_in r' landing ≡ handed_over (client_of r'.batches).token (closing_in r landing)) → OnOk x (closing_in r' d ≡ handed_over (client_of r'.batches).token k)
      by_answer (Ok token) rest = rest d ∙ ap (λ (x : ClosingStream). handed_over (client_of r'.batches).token x) seen
      by_answer (Err e) rest = tt

-- ---- its cursor

saved_one : (at : TokenPlace) (saved : Option Tree) (event : Option (List ℕ)) (t u : Option Tree) → IsSavedPlace at → token_lying at saved event t ≡ token_lying at saved event u
saved_one place.Saved saved event t u is = refl
saved_one place.Event saved event t u is = absurd is
saved_one place.Batch saved event t u is = absurd is

module _ (old mid : Awaited) (log log_mid : LogTold) (wire : ℤ) (r : Remains) (b : Batches) where
  same_token : (p : NextPoll) → SavesWhile r.token (client_of r.batches).doing → LandsIn old mid log log_mid wire (client_of r.batches) (client_of b) p → remains_token (record r { batches = b }) ≡ remains_token r
  same_token p saves (quiet not same_awaited same_log is answer) = ap (λ (c : ClientCursor). token_lying r.token (token_known r.aggregate.resume) (current_of r.buffer) c.token) is
  same_token p saves (heard sending at came runs hears) =
      saved_one r.token (token_known r.aggregate.resume) (current_of r.buffer) (client_of b).token (client_of r.batches).token (subst (SavesWhile r.token) at saves)

  pub landed_as : (p : NextPoll) → SavesWhile r.token (client_of r.batches).doing → LandsIn old mid log log_mid wire (client_of r.batches) (client_of b) p → closing_in (record r { batches = b }) lands ≡ record (closing_in r lands) { cursor = client_of b }
  landed_as p saves landed = ap (λ (t : Option Tree). record { token = t; lent = is_lent r.token; cursor = client_of b; opened = r.opened; doing = lands }) (same_token p saves landed)

  -- one that pends still
  none_read : (reply : List ℕ) → ReadsReply (client_of r.batches) reply (client_of b) next.Pending → ⊥
  none_read reply (gave said says is answer) = cc
  none_read reply (broke e fails is answer) = cc

  waits_so : (came : Step Sending (List ℕ)) → Hears (client_of r.batches) came (client_of b) next.Pending → (waiting : Sending) × (client_of b ≡ record (client_of r.batches) { doing = asks waiting })
  waits_so (step.Pending waiting) h = (waiting, h.0)
  waits_so (step.Done reply) h = absurd (none_read reply h)
  waits_so (step.Failed e) h = let bad : next.Pending ≡ next.Failed e = h.1 in absurd cc

  pub landing_still : IsClosingIn r lands → LandsIn old mid log log_mid wire (client_of r.batches) (client_of b) next.Pending → cursors.IsSound false (client_of b) → IsClosingIn (record r { batches = b }) lands
  landing_still is (quiet not same_awaited same_log rested answer) sound = let bad : next.Pending ≡ next.End = answer in absurd cc
  landing_still is (heard sending at came runs hears) sound =
      let waits = waits_so came hears in
      record {
        sound = record { asks_its_own = sound; named = subst IsNamed (sym (ap (λ (c : ClientCursor). c.space) waits.1)) is.sound.named; alone = is.sound.alone };
        saves = subst (SavesWhile r.token) (sym (ap (λ (c : ClientCursor). c.doing) waits.1)) (subst (SavesWhile r.token) at is.saves);
      }

-- ---- behind the getMore

-- nothing was on its way
none_ended : (c left : ClientCursor) (came : Step Sending (List ℕ)) → Hears c came left next.End → ⊥
none_ended c left (step.Pending sending) h = let bad : next.End ≡ next.Pending = h.1 in cc
none_ended c left (step.Done reply) h = none_read reply h
  where
    none_read : (reply : List ℕ) → ReadsReply c reply left next.End → ⊥
    none_read reply (gave said says is answer) = cc
    none_read reply (broke e fails is answer) = cc
none_ended c left (step.Failed e) h = let bad : next.End ≡ next.Failed e = h.1 in cc

module _ (old mid new : Awaited) (log log_mid log' : LogTold) (wire wire' : ℤ) (same_wire : wire' ≡ wire) (r : Remains) (b : Batches) (saves : SavesWhile r.token (client_of r.batches).doing) (answer : Step ClosingStream (Unit {0})) where
  lands_behind : (p : NextPoll) → (p ≡ next.End → ⊥) → LandsIn old mid log log_mid wire (client_of r.batches) (client_of b) p → BehindMore mid new log_mid log' wire (record (closing_in r lands) { cursor = client_of b }) p answer
      → ClosesStream old new log log' wire (closing_in r lands) answer
  lands_behind p other (quiet not same_awaited same_log is ended) behind = absurd (other ended)
  lands_behind p other (heard sending at came runs hears) behind = lands_more refl sending at (record { awaited = mid; log = log_mid }) came (client_of b) p runs hears behind

  kills_over : (p : NextPoll) → LandsIn old mid log log_mid wire (client_of r.batches) (client_of b) p → KillsLeft mid new log_mid log' wire' (closing_in (record r { batches = b }) lands) answer
      → KillsLeft mid new log_mid log' wire (record (closing_in r lands) { cursor = client_of b }) answer
  kills_over p landed h =
      subst (λ (k : ClosingStream). KillsLeft mid new log_mid log' wire k answer) (landed_as old mid log log_mid wire r b p saves landed) (subst (λ (v : ℤ). KillsLeft mid new log_mid log' v (closing_in (record r { batches = b }) lands) answer) same_wire h)

  -- a batch came
  pub batch_behind : (bytes : List ℕ) → LandsIn old mid log log_mid wire (client_of r.batches) (client_of b) (next.Batch bytes) → KillsLeft mid new log_mid log' wire' (closing_in (record r { batches = b }) lands) answer
      → ClosesStream old new log log' wire (closing_in r lands) answer
  batch_behind bytes landed kills = lands_behind (next.Batch bytes) (λ e. cc) landed (kills_over (next.Batch bytes) landed kills)

  -- it failed
  pub failed_behind : (e : Error) → LandsIn old mid log log_mid wire (client_of r.batches) (client_of b) (next.Failed e) → PassesOver mid new log_mid log' wire' (closing_in (record r { batches = b }) lands) e answer
      → ClosesStream old new log log' wire (closing_in r lands) answer
  failed_behind e landed passes =
      lands_behind (next.Failed e) (λ f. cc) landed
      (subst (λ (k : ClosingStream). PassesOver mid new log_mid log' wire k e answer) (landed_as old mid log log_mid wire r b (next.Failed e) saves landed)
      (subst (λ (v : ℤ). PassesOver mid new log_mid log' v (closing_in (record r { batches = b }) lands) e answer) same_wire passes))

  -- nothing was on its way
  pub quiet_behind : LandsIn old mid log log_mid wire (client_of r.batches) (client_of b) next.End → KillsLeft mid new log_mid log' wire' (closing_in (record r { batches = b }) lands) answer
      → ClosesStream old new log log' wire (closing_in r lands) answer
  quiet_behind (quiet not same_awaited same_log is ended) kills =
      begins refl not
      (subst (λ (c : ClientCursor). KillsLeft old new log log' wire (record (closing_in r lands) { cursor = c }) answer) is
      (subst (λ (l : LogTold). KillsLeft old new l log' wire (record (closing_in r lands) { cursor = client_of b }) answer) same_log
      (subst (λ (a : Awaited). KillsLeft a new log_mid log' wire (record (closing_in r lands) { cursor = client_of b }) answer) same_awaited
      (kills_over next.End (quiet not same_awaited same_log is ended) kills))))
  quiet_behind (heard sending at came runs hears) kills = absurd (none_ended (client_of r.batches) (client_of b) came hears)

-- it pends still
pub pending_behind : (old mid : Awaited) (log log_mid : LogTold) (wire : ℤ) (r : Remains) (b : Batches) → SavesWhile r.token (client_of r.batches).doing → LandsIn old mid log log_mid wire (client_of r.batches) (client_of b) next.Pending
    → ClosesStream old mid log log_mid wire (closing_in r lands) (step.Pending (closing_in (record r { batches = b }) lands))
pending_behind old mid log log_mid wire r b saves landed =
    lands_behind old mid mid log log_mid log_mid wire wire refl r b saves (step.Pending (closing_in (record r { batches = b }) lands)) next.Pending (λ e. cc) landed
    (record { rest = λ m. refl; log_same = refl }, ap (λ (k : ClosingStream). step.Pending k) (landed_as old mid log log_mid wire r b next.Pending saves landed))

-- ---- behind what a resumption left on its way

-- what both keep
pub keeps_then : (m mid m' : Moment) (ticket ticket' : Option ℕ) (first outcome : Ending) → LinkKeeps m mid ticket None first → mid.pends ≡ m.pends → LinkKeeps mid m' None ticket' outcome → LinkKeeps m m' ticket ticket' outcome
keeps_then m mid m' ticket ticket' first outcome k same j = keeps_on m mid m' ticket None ticket' first outcome k same j

-- the wire version stays
pub kills_at : (old new : Awaited) (log log' : LogTold) (wire wire' : ℤ) (k : ClosingStream) (r : Step ClosingStream (Unit {0})) → wire' ≡ wire → KillsLeft old new log log' wire' k r → KillsLeft old new log log' wire k r
kills_at old new log log' wire wire' k r same h = subst (λ (v : ℤ). KillsLeft old new log log' v k r) same h

pub passes_at : (old new : Awaited) (log log' : LogTold) (wire wire' : ℤ) (k : ClosingStream) (e : Error) (r : Step ClosingStream (Unit {0})) → wire' ≡ wire → PassesOver old new log log' wire' k e r → PassesOver old new log log' wire k e r
passes_at old new log log' wire wire' k e r same h = subst (λ (v : ℤ). PassesOver old new log log' v k e r) same h

-- a reply to the aggregate, at whose closing this was on its way
pub opening_at : (old new : Awaited) (log log' : LogTold) (wire wire' : ℤ) (k : ClosingStream) (reply : List ℕ) (r : Step ClosingStream (Unit {0})) → wire' ≡ wire → BehindOpening old new log log' wire' (record k { doing = lands }) reply r → BehindOpening old new log log' wire k reply r
opening_at old new log log' wire wire' k reply r same (opened_one said says kills) = opened_one said says (kills_at old new log log' wire wire' (record k { opened = said.id; doing = lands }) r same kills)
opening_at old new log log' wire wire' k reply r same (opened_none e fails passes) = opened_none e fails (passes_at old new log log' wire wire' (record k { doing = lands }) e r same passes)

-- the cursor that it opened
pub opened_behind : (old new : Awaited) (log log' : LogTold) (wire : ℤ) (k : ClosingStream) (reply : List ℕ) (answer : Step ClosingStream (Unit {0})) (said : Cursor) (id : ℤ) → cursor_of (fields reply) ≡ Ok said → id ≡ said.id
    → KillsLeft old new log log' wire (record k { opened = id; doing = lands }) answer → BehindOpening old new log log' wire k reply answer
opened_behind old new log log' wire k reply answer said id says is kills = opened_one said says (subst (λ (i : ℤ). KillsLeft old new log log' wire (record k { opened = i; doing = lands }) answer) is kills)

-- ---- its killCursors

hears_as : (k : ClosingStream) (came : Step Sending (List ℕ)) (r : Step ClosingStream (Unit {0})) → HearsKill (record k { doing = lands }) came r → HearsKill k came r
hears_as k (step.Pending sending) r h = h
hears_as k (step.Done bytes) r h = h
hears_as k (step.Failed e) r h = h

-- on its way already
pub runs_as : (old new : Awaited) (log log' : LogTold) (wire : ℤ) (k : ClosingStream) (sending : Sending) (r : Step ClosingStream (Unit {0})) → RunsKill old new log log' wire (record k { doing = lands }) sending r → RunsKill old new log log' wire k sending r
runs_as old new log log' wire k sending r h = record { came = h.came; runs = h.runs; hears = hears_as k h.came r h.hears }

-- one that is built is to be sent
pub to_kill_new : (k : ClosingStream) (sending : Sending) → IsNotAsking k.cursor.doing → ids_left k ≢ [] → IsNew (kill_left k) sending → IsToKill k sending
to_kill_new k sending not some h = record {
  command_is = h.command_is;
  single = h.single;
  first_try = subst IsFirstTry (sym h.new) tt;
  some_left = some;
  quiet = not;
}

pub to_kill : (k : ClosingStream) (sending : Sending) → LandsSoundly k (ends sending) → IsToKill k sending
to_kill k sending h = record {
  command_is = h.1.command_is;
  single = h.1.single;
  first_try = h.1.first_try;
  some_left = h.2;
  quiet = h.0;
}

-- one that pends waits
pub kill_still : (old new : Awaited) (log log' : LogTold) (wire : ℤ) (r : Remains) (sending waiting : Sending) → IsToKill (closing_in r lands) sending → Runs old new log log' wire sending (step.Pending waiting) → IsClosingIn r (ends waiting)
kill_still old new log log' wire r sending waiting is runs =
    let w = waits_still old new log log' wire sending waiting is.single is.first_try runs in
    record {
      sound = (is.quiet, record { command_is = ap fields w.same_command ∙ is.command_is; single = w.same_retries ∙ is.single; first_try = subst IsFirstTry (sym w.waits_by) tt }, is.some_left);
      saves = tt;
    }

-- a command that was not sent holds no ticket
pub new_ticket : (k : ClosingStream) (sending : Sending) → IsNew (kill_left k) sending → ticket_of sending ≡ None
new_ticket k sending h = ap ticket_at h.new

-- it is built of what is left
pub kill_new : (space : Space) (k : ClosingStream) (ids : List ℤ) (sending : Sending) → space ≡ k.cursor.space → ids ≡ ids_left k → IsNew (kill_command space ids) sending → IsNew (kill_left k) sending
kill_new space k ids sending there are h = subst (λ (l : List ℤ). IsNew (kill_command k.cursor.space l) sending) are (subst (λ (s : Space). IsNew (kill_command s ids) sending) there h)

pub kill_unbuilt : (space : Space) (k : ClosingStream) (ids : List ℤ) (e : Error) → space ≡ k.cursor.space → ids ≡ ids_left k → FailsBy (CannotBeSent (kill_command space ids)) e → FailsBy (CannotBeSent (kill_left k)) e
kill_unbuilt space k ids e there are h = subst (λ (l : List ℤ). FailsBy (CannotBeSent (kill_command k.cursor.space l)) e) are (subst (λ (s : Space). FailsBy (CannotBeSent (kill_command s ids)) e) there h)

-- ---- how many are left

no_ids : (ids : List ℤ) (n : ℕ) (b : Bool) → n ≡ length ids → b ≡ (n == 0) → b ≡ true → ids ≡ []
no_ids [] n b len is shown = refl
no_ids (id ∷ ids) n b len is shown = absurd (omega (arith, len, eqb-true n 0 (sym is ∙ shown)))

some_ids : (ids : List ℤ) (n : ℕ) (b : Bool) → n ≡ length ids → b ≡ (n == 0) → b ≡ false → ids ≡ [] → ⊥
some_ids ids n b len is shown none = let zero_is : n ≡ 0 = len ∙ ap length none in let bad : true ≡ false = sym (ap (λ (k : ℕ). k == 0) zero_is) ∙ sym is ∙ shown in cc

pub none_left : (k : ClosingStream) (ids : List ℤ) (n : ℕ) (b : Bool) → ids ≡ ids_left k → n ≡ length ids → b ≡ (n == 0) → b ≡ true → ids_left k ≡ []
none_left k ids n b are len is shown = sym are ∙ no_ids ids n b len is shown

pub some_left : (k : ClosingStream) (ids : List ℤ) (n : ℕ) (b : Bool) → ids ≡ ids_left k → n ≡ length ids → b ≡ (n == 0) → b ≡ false → ids_left k ≢ []
some_left k ids n b are len is shown = λ none. some_ids ids n b len is shown (are ∙ none)

-- the ids, which were handed on
ids_as : (id id' opened opened' : ℤ) → id' ≡ id → opened' ≡ opened → unless_none id' ++ unless_none opened' ≡ unless_none id ++ unless_none opened
ids_as id id' opened opened' same_id same_opened = ap (λ (i : ℤ). unless_none i ++ unless_none opened') same_id ∙ ap (λ (i : ℤ). unless_none id ++ unless_none i) same_opened

pub ids_handed : (ids : List ℤ) (id id' opened opened' : ℤ) → id' ≡ id → opened' ≡ opened → ids ≡ unless_none id' ++ unless_none opened' → ids ≡ unless_none id ++ unless_none opened
ids_handed ids id id' opened opened' same_id same_opened are = are ∙ ids_as id id' opened opened' same_id same_opened

pub some_handed : (id id' opened opened' : ℤ) → id' ≡ id → opened' ≡ opened → unless_none id' ++ unless_none opened' ≢ [] → unless_none id ++ unless_none opened ≢ []
some_handed id id' opened opened' same_id same_opened some = λ none. some (ids_as id id' opened opened' same_id same_opened ∙ none)
