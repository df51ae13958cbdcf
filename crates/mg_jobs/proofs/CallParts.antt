-- The parts of a call of a stream: its commands in their order, what it saves, and what cursor it goes on with.
use Rattle.std.proofs.Common.{◌≡◌, ◌⊎◌, ◌<◌, ◌++◌, ℕ, suc, ℤ, Bool, true, false, List, [], ◌∷◌, length, Option, Some, None, refl, sym, ap, ◌∙◌, subst, inl, inr, arith}
use Rattle.std.specs.Prelude.{if◌then◌else◌, codes, option_map, slice_get, unwrap_or, ◌||◌, int_lt, not}
use Rattle.mg_bson.specs.Raw.{fields}
use Rattle.mg_bson.specs.Reading.{doc}
use Rattle.mg_bson.specs.Tree.{Fields, Tree, field, no_fields}
use Rattle.mg_bson.specs.declared.tree.Timestamp.{Timestamp}
use Rattle.mg_server.specs.Calls.{Past}
use Rattle.mg_link.specs.Exec.{FailsAs, FailsByReply, IsSuccess}
use Rattle.mg_link.specs.Log.{Call}
use Rattle.mg_server.specs.Owner.{IsOf}
use Rattle.mg_link.specs.Reply.{verdict_of}
use Rattle.mg_link.specs.Session.{Session}
use Rattle.mg_link.specs.declared.error.Error.{Error}
use Rattle.mg_link.specs.declared.reply.Verdict.{Verdict}
use Rattle.mg_link.specs.declared.reply.Verdict.TheVariants as verdict
use Rattle.mg_link.proofs.Places.{get_some}
use Rattle.mg_options.specs.declared.change_stream.ChangeStreamOptions.{ChangeStreamOptions}
use Rattle.mg_ops.specs.Resuming.{has_start, saved_time, times_from}
use Rattle.mg_ops.specs.declared.aggregate.ChangeStreamAggregate.{ChangeStreamAggregate}
use Rattle.mg_ops.specs.declared.change_stream.ChangeStreamData.{ChangeStreamData}
use Rattle.mg_cursor.specs.Client.{ClientCursor, at_rest, get_more, kill}
use Rattle.mg_change.specs.Causes.{CallFails, CallNone, Called, IsOwing, Next, Replied, Resumed, StaysSo}
use Rattle.mg_change.specs.Causes as causes
use Rattle.mg_change.specs.ClientStreams.{ClientStream, Doing, IsSaved, SavedFor, follows, kills, owes, remembered_empty, renewed, resumes, remembered}
use Rattle.mg_change.specs.Sent as calling
use Rattle.mg_change.specs.Sent.{Falling}
use Rattle.mg_script.specs.declared.outcome.Answer.{Answer}
use Rattle.mg_script.specs.declared.outcome.Answer.TheVariants as answers
use Rattle.mg_players.specs.Causes.{AreInLog, command_at, commands_at}
use Rattle.mg_players.specs.Follows.{poll_of}
use Rattle.mg_players.proofs.Left.{killing_few, resuming_few}

-- ---- the commands of a call in their order

-- The command at a place of a call has this number, which is below another; and it is the first of them where no number is between.
pub record IsNumbered (may : ℕ → Fields → Type 0) (n : ℕ) (places : List ℕ) (place : ℕ) (command : Fields) : Type 0 where
  pub number : ℕ
  pub below : number < n
  pub is : may number command
  pub first : suc number ≡ n → (tail : List ℕ) × (places ≡ place ∷ tail)

number_here : (may : ℕ → Fields → Type 0) (n m place : ℕ) (places : List ℕ) (o : Option Call) (cs : List Fields) (call : Call) → o ≡ Some call → Falling may n (command_at o ++ cs) m → IsNumbered may n (place ∷ places) place (fields call.command)
number_here may n m place places None cs call is falling = absurd cc
number_here may n m place places (Some first) cs call is falling =
    let same : first ≡ call = cc in
    subst (λ (x : Call). IsNumbered may n (place ∷ places) place (fields x.command)) same (record { number = falling.0; below = falling.1; is = falling.2; first = λ top. (places, refl) })

falls_behind : (may : ℕ → Fields → Type 0) (n m : ℕ) (o : Option Call) (cs : List Fields) (call : Call) → o ≡ Some call → Falling may n (command_at o ++ cs) m → (k : ℕ) × (k < n) × Falling may k cs m
falls_behind may n m None cs call is falling = absurd cc
falls_behind may n m (Some first) cs call is falling = (falling.0, falling.1, falling.3)

pub numbered : (may : ℕ → Fields → Type 0) (calls : List Call) (n : ℕ) (places : List ℕ) (m : ℕ) → AreInLog (length calls) places → Falling may n (commands_at calls places) m → (place : ℕ) (call : Call) → IsOf places place → slice_get calls place ≡ Some call → IsNumbered may n places place (fields call.command)
numbered may calls n [] m within falling place call of there = absurd of
numbered may calls n (first ∷ places) m within falling place call (inl same) there =
    subst (λ (p : ℕ). IsNumbered may n (first ∷ places) p (fields call.command)) same (number_here may n m first places (slice_get calls first) (commands_at calls places) call (ap (slice_get calls) same ∙ there) falling)
numbered may calls n (first ∷ places) m within falling place call (inr of) there =
    let head = get_some calls first within.0 in
    let later = falls_behind may n m (slice_get calls first) (commands_at calls places) head.0 head.1 falling in
    let here = numbered may calls later.0 places m within.1 later.2 place call of there in
    let less = here.below in
    let under = later.1 in
    record { number = here.number; below = omega (arith, less, under); is = here.is; first = λ top. absurd (omega (arith, less, under, top)) }

-- a getMore is the first command of a call of a stream to which no resumption is owed
pub follows_first : (c : ClientCursor) (d : Doing) → 3 < calling.places_by d c → d ≡ follows
follows_first c follows more = refl
follows_first c owes more = absurd (omega (arith, more))
follows_first c (resumes sending) more = let few = resuming_few sending.stage in absurd (omega (arith, more, few))
follows_first c (kills before) more = let few = killing_few before.killing in absurd (omega (arith, more, few))
follows_first c renewed more = absurd (omega (arith, more))

pub is_following : (d : Doing) → (d ≡ follows) ⊎ (d ≡ follows → ⊥)
is_following follows = inl refl
is_following owes = inr (λ is. let bad : owes ≡ follows = is in cc)
is_following (resumes sending) = inr (λ is. let bad : resumes sending ≡ follows = is in cc)
is_following (kills before) = inr (λ is. let bad : kills before ≡ follows = is in cc)
is_following renewed = inr (λ is. let bad : renewed ≡ follows = is in cc)

-- ---- names of commands

abbrev first_name : Fields → List ℕ
first_name no_fields = []
first_name (field k t fs) = k

more_name : (c : ClientCursor) (session : Option Session) → first_name (get_more c session) ≡ codes "getMore"
more_name c None = refl
more_name c (Some s) = refl

pub more_not_kill : (c old : ClientCursor) (session : Option Session) (fs : Fields) → fs ≡ get_more c session → fs ≡ kill old → ⊥
more_not_kill c old session fs is also = let bad : codes "getMore" ≡ codes "killCursors" = sym (more_name c session) ∙ ap first_name (sym is ∙ also) in cc

-- ---- successes

fails_as : (o : Option Fields) (wire : ℤ) (e : Error) → verdict_of (unwrap_or o no_fields) ≡ verdict.Success → FailsByReply o wire e → ⊥
unfolding verdict_of
fails_as (Some said) wire e success fails = subst (λ (v : Verdict). FailsAs v said wire e) success fails
fails_as None wire e success fails = absurd cc

pub fails_not : (bytes : List ℕ) (wire : ℤ) (e : Error) → IsSuccess bytes → FailsByReply (doc bytes) wire e → ⊥
unfolding fields
fails_not bytes wire e success fails = fails_as (doc bytes) wire e success fails

-- ---- what a stream saves

saved_or : (b : Bool) (o : ChangeStreamOptions) (time : Option Timestamp) → has_start o ≡ false → SavedFor o (if b then None else time)
saved_or true o time none = tt
saved_or false o (Some t) none = none
saved_or false o None none = tt

saved_by : (h : Bool) (o : ChangeStreamOptions) (wire : ℤ) (empty token : Bool) (time : Option Timestamp) → has_start o ≡ h → SavedFor o (if h || int_lt wire times_from || not empty || token then None else time)
saved_by true o wire empty token time is = tt
saved_by false o wire empty token time is = saved_or (int_lt wire times_from || not empty || token) o time is

pub saved_first : (o : ChangeStreamOptions) (wire : ℤ) (empty token : Bool) (time : Option Timestamp) → SavedFor o (saved_time o wire empty token time)
saved_first o wire empty token time = saved_by (has_start o) o wire empty token time refl

saved_remembered : (o : ChangeStreamOptions) (r : Option ChangeStreamData) (token : Tree) (returned : Bool) → IsSaved o r → IsSaved o (option_map (remembered token returned) r)
saved_remembered o (Some known) token returned saved = saved
saved_remembered o None token returned saved = absurd saved

abbrev pub AreSaved : ChangeStreamAggregate → Type 0
AreSaved a = IsSaved a.args.options a.resume

saved_empty : (a : ChangeStreamAggregate) (upto : Option Tree) → AreSaved a → AreSaved (remembered_empty upto a)
saved_empty a None saved = saved
saved_empty a (Some token) saved = saved_remembered a.args.options a.resume token false saved

none_saved : (past : Past) (at s : ClientStream) (again : Bool) → CallNone past true at s again → AreSaved at.aggregate → AreSaved s.aggregate
none_saved past at s again (causes.came_empty empty bytes r holds is) saved = subst AreSaved (sym is) (saved_empty at.aggregate s.cursor.token saved)
none_saved past at s again (causes.none_left not settled empty gone is same) saved = subst AreSaved (sym is) saved

pub called_saved : (past : Past) (at s : ClientStream) (answer : Answer) → Called past None at s (poll_of answer) → AreSaved at.aggregate → AreSaved s.aggregate
called_saved past at s (answers.Event event) called saved = subst AreSaved (sym called.remembers) (saved_remembered at.aggregate.args.options at.aggregate.resume _ true saved)
called_saved past at s answers.Nothing called saved = none_saved past at s called.0 called.1.why saved
called_saved past at s (answers.Failed e) called saved = subst AreSaved (sym called.token) saved

-- ---- a call that went on to follow

module _ (past : Past) (at s : ClientStream) (not : at.doing ≡ follows → ⊥) (then_so : s.doing ≡ follows) where
  -- the cursor is that of a resumption of the call
  pub record IsRenewed : Type 0 where
    pub old : ClientCursor
    pub bytes : List ℕ
    pub new : ClientCursor
    pub resumed : Resumed past true at old bytes new
    pub same : s.cursor ≡ at_rest new

  never_owing : IsOwing s → ⊥
  never_owing owing = let bad : owes ≡ follows = sym owing.owes_one ∙ then_so in cc

  renewed_by : (again : Bool) (bytes : List ℕ) → Replied past true at again bytes s.cursor → IsRenewed
  renewed_by again bytes (causes.opening so first is) = absurd (not first.follows_on)
  renewed_by again bytes (causes.more so ask told h says is) = absurd (not ask.settled.follows_on)
  renewed_by again bytes (causes.once_more so old new r killed is) = record { old = old; bytes = bytes; new = new; resumed = r; same = is }

  renewed_next : (events : List (List ℕ)) → Next past true at events s.cursor → IsRenewed
  renewed_next events (causes.left settled are is) = absurd (not settled.follows_on)
  renewed_next events (causes.came empty again bytes r holds) = renewed_by again bytes r

  renewed_none : (again : Bool) → CallNone past true at s again → IsRenewed
  renewed_none again (causes.came_empty empty bytes r holds is) = renewed_by again bytes r
  renewed_none again (causes.none_left so settled empty gone is same) = absurd (not settled.follows_on)

  renewed_stays : StaysSo past true at s → IsRenewed
  renewed_stays (causes.as_it_was settled is events doing) = absurd (not settled.follows_on)
  renewed_stays (causes.in_hand again bytes r holds some settled) = renewed_by again bytes r

  renewed_failed : (e : Error) → CallFails past None at s e → IsRenewed
  renewed_failed e (causes.may_lose full owing lose) = absurd (never_owing owing)
  renewed_failed e (causes.no_memory full stays) = renewed_stays stays
  renewed_failed e (causes.not_resumed owing why fails) = absurd (never_owing owing)
  renewed_failed e (causes.batch_broken bytes owing r breaks) = absurd (never_owing owing)
  renewed_failed e (causes.cannot_resume owing why now by) = absurd (never_owing owing)
  renewed_failed e (causes.refused_more ask fails final is empty settled) = absurd (not ask.settled.follows_on)
  renewed_failed e (causes.cannot_ask ask by is empty settled) = absurd (not ask.settled.follows_on)
  renewed_failed e (causes.no_id event next lacks is settled) = renewed_next (event ∷ s.behind) next

  pub renewed_called : (answer : Answer) → Called past None at s (poll_of answer) → IsRenewed
  renewed_called (answers.Event event) called = renewed_next (event ∷ s.behind) called.next
  renewed_called answers.Nothing called = renewed_none called.0 called.1.why
  renewed_called (answers.Failed e) called = renewed_failed e called.why
