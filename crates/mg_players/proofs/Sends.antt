-- Which commands jobs send, turn by turn.
use Rattle.std.proofs.Common.{◌≡◌, ◌+◌, ◌<◌, ◌++◌, ◌∷◌, [], List, length, ℕ, ℤ, Bool, true, false, Option, Some, None, refl, sym, ap, ◌∙◌, subst, inl, inr, arith}
use Rattle.std.specs.Prelude.{slice_get}
use Rattle.mg_bson.specs.Tree.{Tree, Fields}
use Rattle.mg_bson.specs.Raw.{fields}
use Rattle.mg_bson.specs.declared.tree.Timestamp.{Timestamp}
use Rattle.mg_server.specs.Calls.{Keeps, Past, AddsOnly}
use Rattle.mg_link.specs.Link.{Awaited, LogTold}
use Rattle.mg_link.specs.Log.{Call}
use Rattle.mg_server.specs.Step.{ends_cursor}
use Rattle.mg_link.specs.declared.error.Error.{Error}
use Rattle.mg_link.specs.declared.error.ErrorKind.{ErrorKind}
use Rattle.mg_link.specs.declared.error.ErrorKind.TheVariants as kind
use Rattle.mg_ops.specs.Cursors.{watch_manner}
use Rattle.mg_ops.specs.declared.aggregate.ChangeStreamAggregate.{ChangeStreamAggregate}
use Rattle.mg_ops.specs.declared.change_stream.WatchArgs.{WatchArgs}
use Rattle.mg_ops.specs.declared.cursor_reply.CursorSpecification.{CursorSpecification}
use Rattle.mg_ops.proofs.Watching.{manner_read}
use Rattle.mg_cursor.specs.Client as cursors
use Rattle.mg_cursor.specs.Client.{ClientCursor, at_rest, behind_failure, behind_kind, new_client, unless_ended}
use Rattle.mg_change.specs.Causes.{CallFails, CallNone, Called, MayLose, MoreFailed, Next, Replied, Resumed, Resumes, SoFar, StaysSo}
use Rattle.mg_change.specs.Causes as causes
use Rattle.mg_change.specs.ClientStreams.{ClientStream, Doing, follows, remembered_empty}
use Rattle.mg_change.specs.OpeningCauses.{StreamOpened}
use Rattle.mg_change.specs.Steps.{OpensCursor}
use Rattle.mg_players.specs.Causes.{Answered, Course, SentIn, sent_at}
use Rattle.mg_players.specs.Drawing.{has_turn}
use Rattle.mg_players.specs.Follows.{poll_of}
use Rattle.mg_players.specs.Sends.{IsCommandOf, SendsOnly}
use Rattle.mg_script.specs.declared.outcome.Answer.{Answer}
use Rattle.mg_script.specs.declared.outcome.Answer.TheVariants as answers
use Rattle.mg_turns.specs.declared.turned.Turned.{Turned}
use Rattle.mg_link.proofs.Places.{get_some}
use Rattle.mg_server.proofs.Adding.{same_command_at}
use Rattle.mg_change.proofs.Such.{AddsSuch}
use Rattle.mg_players.proofs.Adding.{adds_sent}
use Rattle.mg_players.proofs.Drawing.{turn_within}
use Rattle.mg_players.proofs.Newest.{none_sent, sent_before, sent_below, started_in}

-- ---- how a stream stands

-- the arguments are these, and its cursor is asked in the manner of their options
pub record IsFor (args : WatchArgs) (s : ClientStream) : Type 0 where
  pub args_are : s.aggregate.args ≡ args
  pub manner_is : s.cursor.manner ≡ watch_manner args.options

args_empty : (upto : Option Tree) (a : ChangeStreamAggregate) → (remembered_empty upto a).args ≡ a.args
args_empty (Some token) a = refl
args_empty None a = refl

manner_unless : (ends : Bool) (c : ClientCursor) → (unless_ended ends c).manner ≡ c.manner
manner_unless true c = refl
manner_unless false c = refl

pub manner_behind : (k : ErrorKind) (c : ClientCursor) → (behind_kind k c).manner ≡ c.manner
manner_behind kind.Io c = refl
manner_behind (kind.Command refusal) c = manner_unless (ends_cursor refusal.code) c
manner_behind _ c = refl

space_unless : (ends : Bool) (c : ClientCursor) → (unless_ended ends c).space ≡ c.space
space_unless true c = refl
space_unless false c = refl

pub space_behind : (k : ErrorKind) (c : ClientCursor) → (behind_kind k c).space ≡ c.space
space_behind kind.Io c = refl
space_behind (kind.Command refusal) c = space_unless (ends_cursor refusal.code) c
space_behind _ c = refl

module _ (args : WatchArgs) (past : Past) (at : ClientStream) (fit : IsFor args at) where
  abbrev IsAsked : ClientCursor → Type 0
  IsAsked c = c.manner ≡ watch_manner args.options

  asked_same : (c : ClientCursor) → c.manner ≡ at.cursor.manner → IsAsked c
  asked_same c is = is ∙ fit.manner_is

  asked_rest : (c : ClientCursor) → c ≡ at_rest at.cursor → IsAsked c
  asked_rest c is = asked_same c (ap (λ (x : ClientCursor). x.manner) is)

  asked_behind : (e : Error) (c : ClientCursor) → c ≡ behind_failure e at.cursor → IsAsked c
  asked_behind e c is = asked_same c (ap (λ (x : ClientCursor). x.manner) is ∙ manner_behind e.kind at.cursor)

  -- a new one
  asked_again : (bytes : List ℕ) (out : CursorSpecification × Option Timestamp) (c : ClientCursor) → OpensCursor at.aggregate bytes out → c ≡ new_client out.0 → IsAsked c
  asked_again bytes out c opens is = ap (λ (x : ClientCursor). x.manner) is ∙ manner_read at.aggregate.args.options bytes out.0 opens.opens ∙ ap (λ (a : WatchArgs). watch_manner a.options) fit.args_are

  asked_resumed : (old : ClientCursor) (bytes : List ℕ) (c : ClientCursor) → Resumed past true at old bytes c → IsAsked c
  asked_resumed old bytes c r = asked_again bytes r.out c r.opens r.cursor_is

  asked_fails : (e : Error) (c : ClientCursor) → MoreFailed past at e c → IsAsked c
  asked_fails e c (causes.untold may why is) = asked_behind e c is
  asked_fails e c (causes.broken may bytes said heard says is breaks) = asked_same c (ap (λ (x : ClientCursor). x.manner) is)

  asked_left : (c : ClientCursor) → Resumes past at c → IsAsked c
  asked_left c (causes.owed owes is) = asked_rest c is
  asked_left c (causes.more_failed e why is) = asked_fails e c why
  asked_left c (causes.first_broken bytes e hand breaks is) = asked_rest c is

  asked_replied : (again : Bool) (bytes : List ℕ) (c : ClientCursor) → Replied past true at again bytes c → IsAsked c
  asked_replied again bytes c (causes.opening not hand is) = asked_rest c is
  asked_replied again bytes c (causes.more not may said heard says is) = asked_same c (ap (λ (x : ClientCursor). x.manner) is)
  asked_replied again bytes c (causes.once_more so old new r killed is) = ap (λ (x : ClientCursor). x.manner) is ∙ asked_resumed old bytes new r

  asked_next : (events : List (List ℕ)) (c : ClientCursor) → Next past true at events c → IsAsked c
  asked_next events c (causes.left settled are is) = asked_same c (ap (λ (x : ClientCursor). x.manner) is)
  asked_next events c (causes.came empty again bytes r holds) = asked_replied again bytes c r

  for_none : (after : ClientStream) (again : Bool) → CallNone past true at after again → IsFor args after
  for_none after again (causes.came_empty empty bytes r holds is) = record { args_are = ap (λ (a : ChangeStreamAggregate). a.args) is ∙ args_empty after.cursor.token at.aggregate ∙ fit.args_are; manner_is = asked_replied again bytes after.cursor r }
  for_none after again (causes.none_left not settled empty gone is same) = record { args_are = ap (λ (a : ChangeStreamAggregate). a.args) is ∙ fit.args_are; manner_is = asked_same after.cursor (ap (λ (x : ClientCursor). x.manner) same) }

  asked_stays : (after : ClientStream) → StaysSo past true at after → IsAsked after.cursor
  asked_stays after (causes.as_it_was settled is events doing) = asked_same after.cursor (ap (λ (x : ClientCursor). x.manner) is)
  asked_stays after (causes.in_hand again bytes r holds some settled) = asked_replied again bytes after.cursor r

  asked_lost : (c : ClientCursor) → MayLose past true at c → IsAsked c
  asked_lost c (causes.asking may is) = asked_same c (ap (λ (x : ClientCursor). x.manner) is)
  asked_lost c (causes.resuming why) = asked_left (at_rest c) why
  asked_lost c (causes.closing old bytes r held) = asked_resumed old bytes c r

  asked_failed : (after : ClientStream) (e : Error) → CallFails past None at after e → IsAsked after.cursor
  asked_failed after e (causes.may_lose room owes may) = asked_lost after.cursor may
  asked_failed after e (causes.no_memory room stays) = asked_stays after stays
  asked_failed after e (causes.not_resumed owes why fails) = asked_left (at_rest after.cursor) why
  asked_failed after e (causes.batch_broken bytes owes r breaks) = asked_replied true bytes after.cursor r
  asked_failed after e (causes.cannot_resume owes why now by) = asked_left (at_rest after.cursor) why
  asked_failed after e (causes.refused_more may fails final is empty settled) = asked_behind e after.cursor is
  asked_failed after e (causes.cannot_ask may by is empty settled) = asked_same after.cursor (ap (λ (x : ClientCursor). x.manner) is)
  asked_failed after e (causes.no_id event next lacks is settled) = asked_next (event ∷ after.behind) after.cursor next

  for_called : (answer : Answer) (after : ClientStream) → Called past None at after (poll_of answer) → IsFor args after
  for_called (answers.Event event) after g = record { args_are = ap (λ (a : ChangeStreamAggregate). a.args) g.remembers ∙ fit.args_are; manner_is = asked_next (event ∷ after.behind) after.cursor g.next }
  for_called answers.Nothing after called = for_none after called.0 called.1.why
  for_called (answers.Failed e) after f = record { args_are = ap (λ (a : ChangeStreamAggregate). a.args) f.token ∙ fit.args_are; manner_is = asked_failed after e f.why }

  -- a getMore is sent only of the cursor that was there as the call began
  cursor_asked : (awaited : Awaited) (s : ClientStream) (d : cursors.Doing) → causes.ByCursor awaited past at s d → IsAsked s.cursor
  cursor_asked awaited s cursors.rests by = asked_same s.cursor (ap (λ (x : ClientCursor). x.manner) by.cursor)
  cursor_asked awaited s (cursors.holds bytes) by = asked_same s.cursor (ap (λ (x : ClientCursor). x.manner) by.cursor)
  cursor_asked awaited s (cursors.asks sending) by = asked_same s.cursor (ap (λ (x : ClientCursor). x.manner) by.1)

  -- so a call that goes on with its cursor asks it so
  pub for_so_far : (awaited : Awaited) (s : ClientStream) → SoFar awaited past true at s → (s.aggregate.args ≡ args) × (s.doing ≡ follows → IsAsked s.cursor)
  for_so_far awaited s so = (
    ap (λ (a : ChangeStreamAggregate). a.args) so.same ∙ fit.args_are,
    λ on. cursor_asked awaited s s.cursor.doing (subst (λ (d : Doing). causes.ByDoing awaited past true at s d) on so.by),
  )

pub for_answered : (args : WatchArgs) (calls : List Call) (wire : ℤ) (at : ClientStream) (owns : List (List ℕ)) (said : List Answer) (last : ClientStream) → Answered calls wire at owns said last → IsFor args at → IsFor args last
for_answered args calls wire at [] [] last is fit = subst (IsFor args) (sym is) fit
for_answered args calls wire at (own ∷ owns) (answer ∷ said) last a fit = for_answered args calls wire a.0 owns said last a.2 (for_called args (sent_at own calls wire) at fit answer a.0 a.1)
for_answered args calls wire at [] (answer ∷ said) last a fit = absurd a
for_answered args calls wire at (own ∷ owns) [] last a fit = absurd a

pub for_opened : (args : WatchArgs) (past : Past) (opened : ClientStream) → StreamOpened past args opened → IsFor args opened
for_opened args past opened o =
    subst (IsFor args) (sym o.stream_is) (record { args_are = refl; manner_is = manner_read args.options o.bytes o.out.0 o.opens.opens })

-- ---- what a follow sends

-- such commands of it, and no others
pub such_adds : (are_its : WatchArgs → Type 0) (log log' : LogTold) (calls calls' : List Call) → log ≡ Some calls → log' ≡ Some calls' → Keeps calls calls' → AddsSuch (IsCommandOf are_its) log log' → AddsOnly (IsCommandOf are_its) calls calls'
such_adds are_its log log' calls calls' told told' keeps s = adds_sent (IsCommandOf are_its) log log' s.commands s.adds s.such calls calls' told told' keeps

-- ---- turn by turn

-- at first there was no turn
pub sends_first : (may : Fields → Type 0) (begun i : ℕ) (calls : List Call) → SendsOnly may (record { begun = begun; order = []; notes = [] }) i calls
sends_first may begun i calls = record { each = λ k place call sent there. absurd (none_sent begun i k place sent) }

module _ (may : Fields → Type 0) (begun : ℕ) (order : List ℕ) (notes : List Turned) (j : ℕ) (note : Turned) (abreast : length order ≡ length notes) (calls calls' : List Call) (count : length calls ≡ begun + started_in notes) where
  abbrev was : Course
  was = record { begun = begun; order = order; notes = notes }

  abbrev is : Course
  is = record { begun = begun; order = order ++ j ∷ []; notes = notes ++ note ∷ [] }

  -- what was sent before
  sent_was : (i k place : ℕ) (call : Call) → Keeps calls calls' → SendsOnly may was i calls → SentIn was i k place → place < length calls → slice_get calls' place ≡ Some call → may (fields call.command)
  sent_was i k place call keeps sends sent less there =
      let before = get_some calls place less in
      subst may (same_command_at calls calls' place before.0 call keeps before.1 there) (sends.each k place before.0 sent before.1)

  -- a turn of another job
  pub sends_other : (i : ℕ) → (i ≡ j → ⊥) → Keeps calls calls' → SendsOnly may was i calls → SendsOnly may is i calls'
  sends_other i ne keeps sends = record {
    each = λ k place call sent there. elim (sent_before begun order notes j note abreast i k place sent) [
      | inl before ↦ (let below = sent_below was i k place before in sent_was i k place call keeps sends before (omega (arith, below, count)) there)
      | inr mine ↦ absurd (ne mine.0)
    ];
  }

  -- its own turn
  pub sends_turn : AddsOnly may calls calls' → SendsOnly may was j calls → SendsOnly may is j calls'
  sends_turn adds sends = record {
    each = λ k place call sent there. elim (sent_before begun order notes j note abreast j k place sent) [
      | inl before ↦ (let below = sent_below was j k place before in sent_was j k place call adds.keeps sends before (omega (arith, below, count)) there)
      | inr mine ↦ (let low = mine.1 in adds.added place call (omega (arith, low, count)) there)
    ];
  }

-- a job that sent a command had a turn
pub sent_had : (c : Course) (i k place : ℕ) → SentIn c i k place → has_turn i c.order ≡ true
sent_had c i k place sent = ap (has_turn i) sent.order_is ∙ turn_within i sent.before sent.after
