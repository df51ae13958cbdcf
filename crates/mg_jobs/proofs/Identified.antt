-- Over a legal history each event that a follow receives has an `_id`, so no answer of it says that one has none.
use Rattle.std.proofs.Common.{◌≡◌, ◌≢◌, ◌⊎◌, ℕ, zero, suc, ℤ, pos, Bool, true, false, List, [], ◌∷◌, map, take, Option, Some, None, Ok, refl, sym, ap, ◌∙◌, subst, inl, inr}
use Rattle.std.specs.Prelude.{slice_get}
use Rattle.std.specs.Ordering.{int_eq}
use Rattle.std.proofs.lemmas.Bool.{cases_Bool}
use Rattle.std.proofs.lemmas.Bool.Decides.{Decides-int_eq}
use Rattle.mg_bson.specs.Tree.{Tree, Fields}
use Rattle.mg_bson.specs.Raw.{fields}
use Rattle.mg_bson.specs.Reading.{doc}
use Rattle.mg_server.specs.Calls.{HeardBy, Past, RequestFails, out_of_memory, was_broken, was_lost, was_refused}
use Rattle.mg_server.specs.Events.{HaveIds}
use Rattle.mg_link.specs.Exec.{FailsAs, FailsByReply, IsSuccess}
use Rattle.mg_link.specs.Failures.{refusal_by, refusal_in}
use Rattle.mg_server.specs.History.{IsLegal, Step, state_of, told_at}
use Rattle.mg_link.specs.Log.{Sight, reply, Call}
use Rattle.mg_link.specs.Namespace.{Space, Target, space, target}
use Rattle.mg_link.specs.Reply.{verdict_of}
use Rattle.mg_server.specs.Standing.{OpensId, SeenFits, Stands}
use Rattle.mg_server.specs.State.{State}
use Rattle.mg_link.specs.declared.error.Error.{Error}
use Rattle.mg_link.specs.declared.error.ErrorKind.{ErrorKind}
use Rattle.mg_link.specs.declared.error.ErrorKind.TheVariants as kind
use Rattle.mg_link.specs.declared.reply.Verdict.{Verdict}
use Rattle.mg_link.specs.declared.reply.Verdict.TheVariants as verdict
use Rattle.mg_server.proofs.Pasts.{heard_by}
use Rattle.mg_options.specs.declared.change_stream.ChangeStreamOptions.{ChangeStreamOptions}
use Rattle.mg_ops.specs.Aims.{aim_of}
use Rattle.mg_link.specs.Session.{Session}
use Rattle.mg_options.specs.Fields.{fields_in}
use Rattle.mg_ops.specs.Bodies.{watch_body}
use Rattle.mg_ops.specs.Failing.{CannotBeSent, HasBadSize}
use Rattle.mg_ops.specs.Sessions.{in_session}
use Rattle.mg_ops.specs.Naming.{IsNamed}
use Rattle.mg_ops.specs.Resuming.{options_for}
use Rattle.mg_ops.specs.declared.aggregate.ChangeStreamAggregate.{ChangeStreamAggregate}
use Rattle.mg_ops.specs.declared.change_stream.WatchArgs.{WatchArgs}
use Rattle.mg_ops.specs.declared.cursor_reply.CursorSpecification.{CursorSpecification}
use Rattle.mg_server.proofs.Owners.{same_some}
use Rattle.mg_server.proofs.Watched.{IsWatched, no_zero, stays_watch}
use Rattle.mg_ops.specs.Cursors.{Cursor, OpensWith, cursor_of, Manner, watch_manner, next_command}
use Rattle.mg_ops.proofs.Watching.{manner_read}
use Rattle.mg_ops.proofs.Asking.{asks_as_aimed, asks_for_more}
use Rattle.mg_ops.proofs.Replying.{same_id}
use Rattle.mg_cursor.specs.Batches.{BreaksBatch, documents_of}
use Rattle.mg_cursor.specs.Batches as batches
use Rattle.mg_cursor.specs.Causes.{HeardMore, TellsNoCursor}
use Rattle.mg_cursor.specs.Client.{ClientCursor, at_rest, behind_failure, behind_reply, get_more, new_client}
use Rattle.mg_cursor.specs.Client as cursors
use Rattle.mg_change.specs.Causes.{CallEmpty, CallFailed, CallFails, CallGave, CallNone, Called, HeardAggregate, HoldsFirst, IsOwing, IsSettled, MayLose, MoreFailed, Next, Replied, Resumed, Resumes, StaysSo}
use Rattle.mg_change.specs.Causes as causes
use Rattle.mg_change.specs.ClientOpenings.{first_aggregate}
use Rattle.mg_change.specs.ClientStreams.{ClientStream, is_read_again, remembered_empty, resuming_in}
use Rattle.mg_change.specs.ClientStreams as streams
use Rattle.mg_change.proofs.Turning.{left_id}
use Rattle.mg_change.specs.OpeningCauses.{StreamOpened}
use Rattle.mg_ops.proofs.Reading.{named_read}
use Rattle.mg_players.specs.Causes.{Answered, sent_at}
use Rattle.mg_players.specs.Follows.{poll_of}
use Rattle.mg_script.specs.declared.outcome.Answer.{Answer}
use Rattle.mg_script.specs.declared.outcome.Answer.TheVariants as answers
use Rattle.mg_players.proofs.Batches.{events_are}
use Rattle.mg_players.proofs.Prompting.{Brings, GoesOn, IsLawful, IsWatchOnly, Opens, lawful_at, more_brings, watch_brings}
use Rattle.mg_players.proofs.Sends.{manner_behind, space_behind}

-- ---- what a call heard

-- the cursor that the reply tells is a watch's
abbrev pub TellsWatch : (ℤ → Type 0) → List ℕ → Type 0
TellsWatch watched bytes = (c : Cursor) → cursor_of (fields bytes) ≡ Ok c → c.id ≢ pos 0 → watched c.id

-- each reply that is a success has a batch where one was asked for, of a watch where its cursor was a watch's
pub record IsHonest (watched : ℤ → Type 0) (past : Past) : Type 0 where
  pub watch : (on : Target) (stages : List Fields) (o : ChangeStreamOptions) (session : Option Session) (bytes : List ℕ) → HeardBy past (fields_in (watch_body on stages o session)) (reply bytes) → IsSuccess bytes → Brings bytes × TellsWatch watched bytes
  pub more : (id : ℤ) (at : Space) (manner : Manner) (session : Option Session) (bytes : List ℕ) → IsNamed at → (id ≢ pos 0 → watched id) → HeardBy past (in_session session (next_command id at manner)) (reply bytes) → IsSuccess bytes → Brings bytes × TellsWatch watched bytes

-- the step of a command whose reply was heard
record Taken (history : List Step) (command : Fields) (bytes : List ℕ) : Type 0 where
  position : ℕ
  step : Step
  there : slice_get history position ≡ Some step
  lawful : IsLawful step
  before_is : lawful.before ≡ state_of (take position history)
  command_is : fields step.command ≡ command
  reply_is : bytes ≡ step.reply

-- a cursor that is a watch's wherever it stands, behind so many steps
pub watch_at : (history : List Step) (position : ℕ) (id : ℤ) → IsLegal history → (id ≢ pos 0 → IsWatched history id) → IsWatchOnly (state_of (take position history)) id
watch_at history position id legal w c stood =
    elim (cases_Bool (int_eq id (pos 0))) [
      | inl none ↦ absurd (no_zero history position c legal (ap (λ (n : ℤ). (state_of (take position history)).cursors n) (sym ((Decides-int_eq id (pos 0)).0 none)) ∙ stood))
      | inr some ↦ stays_watch history position id c legal (w (λ z. let is = (Decides-int_eq id (pos 0)).1 z in let bad : true ≡ false = sym is ∙ some in cc)) stood
    ]

module _ (history : List Step) (calls : List Call) (legal : IsLegal history) (stands : Stands calls history) (places : List ℕ) (wire : ℤ) where
  taken : (command : Fields) (bytes : List ℕ) → HeardBy (sent_at places calls wire) command (reply bytes) → Taken history command bytes
  taken command bytes h =
      let p = stands.placed h.place h.heard.call bytes h.heard.there h.heard.has_seen in
      let s = stands.same h.place h.heard.call p.0 h.heard.there p.1 in
      record {
        position = p.0;
        step = s.0;
        there = s.1;
        lawful = lawful_at history p.0 s.0 legal s.1;
        before_is = refl;
        command_is = ap fields s.2 ∙ h.heard.command_is;
        reply_is = subst (λ (x : Sight). SeenFits x s.0.reply) h.heard.has_seen s.3;
      }

  -- a cursor that is a watch's wherever it stands
  watch_only : (command : Fields) (bytes : List ℕ) (t : Taken history command bytes) (id : ℤ) → (id ≢ pos 0 → IsWatched history id) → IsWatchOnly t.lawful.before id
  watch_only command bytes t id w c h = watch_at history t.position id legal w c (ap (λ (s : State). s.cursors id) (sym t.before_is) ∙ h)

  opens_watch : (command : Fields) (bytes : List ℕ) (t : Taken history command bytes) → Opens t.step → Brings bytes × TellsWatch (IsWatched history) bytes
  opens_watch command bytes t o = (
    subst Brings (sym t.reply_is) o.brings,
    λ c says ne.
        let same : c.id ≡ o.brings.batch.id = same_id (fields t.step.reply) c o.brings.batch (ap (λ (b : List ℕ). cursor_of (fields b)) (sym t.reply_is) ∙ says) o.brings.there in
        record { position = t.position; step = t.step; there = t.there; asks = o.asks; opens = subst (OpensId (told_at t.step)) (sym same) (o.opens (λ z. ne (same ∙ z))) },
  )

  goes_on : (command : Fields) (bytes : List ℕ) (t : Taken history command bytes) (id : ℤ) → (id ≢ pos 0 → IsWatched history id) → GoesOn t.step id → Brings bytes × TellsWatch (IsWatched history) bytes
  goes_on command bytes t id w g = (
    subst Brings (sym t.reply_is) g.brings,
    λ c says ne.
        let same : c.id ≡ g.brings.batch.id = same_id (fields t.step.reply) c g.brings.batch (ap (λ (b : List ℕ). cursor_of (fields b)) (sym t.reply_is) ∙ says) g.brings.there in
        elim g.same [
          | inl e ↦ subst (IsWatched history) (sym (same ∙ e)) (w (λ z. ne (same ∙ e ∙ z)))
          | inr none ↦ absurd (ne (same ∙ none))
        ],
  )

  pub honest_over : IsHonest (IsWatched history) (sent_at places calls wire)
  honest_over = record {
    watch = λ on stages o session bytes h success.
        let command = fields_in (watch_body on stages o session) in
        let t = taken command bytes h in
        opens_watch command bytes t (watch_brings t.step t.lawful (subst IsSuccess t.reply_is success) (aim_of on stages o) (asks_as_aimed t.step.command on stages o session t.command_is));
    more = λ id at manner session bytes named w h success.
        let command = in_session session (next_command id at manner) in
        let t = taken command bytes h in
        goes_on command bytes t id w
        (more_brings t.step t.lawful (subst IsSuccess t.reply_is success) id at (watch_only command bytes t id w) (asks_for_more t.step.command id at manner.size manner.wait manner.comment session named t.command_is));
  }

-- ---- how a stream stands

-- a cursor of a watch, which is asked in this manner, in a namespace that a server takes
pub record IsCursor (watched : ℤ → Type 0) (manner : Manner) (c : ClientCursor) : Type 0 where
  pub manner_is : c.manner ≡ manner
  pub named : IsNamed c.space
  pub watches : c.id ≢ pos 0 → watched c.id

-- what it asks for or holds does not matter
rested : (watched : ℤ → Type 0) (manner : Manner) (c : ClientCursor) → IsCursor watched manner c → IsCursor watched manner (at_rest c)
rested watched manner c w = record { manner_is = w.manner_is; named = w.named; watches = w.watches }

unrested : (watched : ℤ → Type 0) (manner : Manner) (c : ClientCursor) → IsCursor watched manner (at_rest c) → IsCursor watched manner c
unrested watched manner c w = record { manner_is = w.manner_is; named = w.named; watches = w.watches }

-- the arguments are those of the follow; the reply to the opening has a batch; and the events in hand have an `_id`
pub record StandsWell (watched : ℤ → Type 0) (are_its : WatchArgs → Type 0) (s : ClientStream) : Type 0 where
  pub args : are_its s.aggregate.args
  pub cursor : IsCursor watched (watch_manner s.aggregate.args.options) s.cursor
  pub first : (bytes : List ℕ) → HoldsFirst s bytes → Brings bytes
  pub events : HaveIds (map fields s.behind)

-- the cursor that an aggregate opened
cursor_new : (watched : ℤ → Type 0) (o : ChangeStreamOptions) (bytes : List ℕ) (out : CursorSpecification) → TellsWatch watched bytes → OpensWith o.batch_size o.max_await_time o.comment bytes out → IsCursor watched (watch_manner o) (new_client out)
cursor_new watched o bytes out watches opens =
    let said : Cursor = record { id = out.info.id; space = space out.info.ns; token = out.post_batch_resume_token; batch = opens.opens.batch } in
    record { manner_is = manner_read o bytes out opens; named = named_read (fields bytes) said opens.opens.says; watches = watches said opens.opens.says }

-- behind its first call no stream holds the reply to its opening
pub settled_first : (s : ClientStream) → IsSettled s → (bytes : List ℕ) → HoldsFirst s bytes → ⊥
settled_first s settled bytes held = let bad : cursors.rests ≡ cursors.holds bytes = sym settled.looked ∙ held.in_hand in cc

pub owing_first : (s : ClientStream) → IsOwing s → (bytes : List ℕ) → HoldsFirst s bytes → ⊥
owing_first s owing bytes held = let bad : streams.owes ≡ streams.follows = sym owing.owes_one ∙ held.follows_on in cc

args_empty : (upto : Option Tree) (a : ChangeStreamAggregate) → (remembered_empty upto a).args ≡ a.args
args_empty (Some token) a = refl
args_empty None a = refl

-- ---- the kinds of failures

other_kind : (e : Error) (k : ErrorKind) → e.kind ≡ k → e.kind ≡ kind.MissingResumeToken → (k ≡ kind.MissingResumeToken → ⊥) → ⊥
other_kind e k is missing not = not (sym is ∙ missing)

by_verdict : (v : Verdict) (said : Fields) (wire : ℤ) (e : Error) → FailsAs v said wire e → e.kind ≡ kind.MissingResumeToken → ⊥
by_verdict verdict.Success said wire e fails is = fails
by_verdict verdict.Refusal said wire e (inl room) is = other_kind e kind.OutOfMemory (ap (λ (x : Error). x.kind) room) is (λ same. cc)
by_verdict verdict.Refusal said wire e (inr tells) is = let none : refusal_in e ≡ None = ap (λ (k : ErrorKind). refusal_by k e.labels) is in let some = tells.refusal in cc
by_verdict verdict.NoOk said wire e fails is = other_kind e _ (ap (λ (x : Error). x.kind) fails) is (λ same. cc)

by_reply : (o : Option Fields) (wire : ℤ) (e : Error) → FailsByReply o wire e → e.kind ≡ kind.MissingResumeToken → ⊥
by_reply None wire e fails is = other_kind e kind.BsonDeserialization (ap (λ (x : Error). x.kind) fails) is (λ same. cc)
by_reply (Some said) wire e fails is = by_verdict (verdict_of said) said wire e fails is

by_request : (past : Past) (command : Fields) (retries : Bool) (Broken : List ℕ → Error → Type 0) (e : Error) → ((bytes : List ℕ) → Broken bytes e → e.kind ≡ kind.MissingResumeToken → ⊥) → RequestFails past command retries Broken e → e.kind ≡ kind.MissingResumeToken → ⊥
by_request past command retries Broken e read (out_of_memory room) is = other_kind e kind.OutOfMemory room is (λ same. cc)
by_request past command retries Broken e read (was_lost io heard) is = other_kind e kind.Io (ap (λ (x : Error). x.kind) io) is (λ same. cc)
by_request past command retries Broken e read (was_refused bytes heard fails) is = by_reply (doc bytes) past.wire e fails is
by_request past command retries Broken e read (was_broken bytes heard success broken) is = read bytes broken is

by_batch : (bytes : List ℕ) (e : Error) → BreaksBatch bytes e → e.kind ≡ kind.MissingResumeToken → ⊥
by_batch bytes e (batches.no_batch none breaks) is = other_kind e (kind.InvalidResponse breaks.how) (ap (λ (x : Error). x.kind) breaks.error) is (λ same. cc)
by_batch bytes e (batches.bad_item batch there bad error) is = other_kind e _ (ap (λ (x : Error). x.kind) error) is (λ same. cc)

not_built : (size : Option ℕ) (command : Fields) (e : Error) → HasBadSize size e ⊎ CannotBeSent command e → e.kind ≡ kind.MissingResumeToken → ⊥
not_built size command e (inl bad) is = other_kind e _ (ap (λ (x : Error). x.kind) bad.0) is (λ same. cc)
not_built size command e (inr by) is = other_kind e kind.BsonSerialization (ap (λ (x : Error). x.kind) by.0) is (λ same. cc)

-- ---- a call

module _ (watched : ℤ → Type 0) (are_its : WatchArgs → Type 0) (past : Past) (honest : IsHonest watched past) (at : ClientStream) (well : StandsWell watched are_its at) where
  abbrev pub IsItsCursor : ClientCursor → Type 0
  IsItsCursor c = IsCursor watched (watch_manner at.aggregate.args.options) c

  -- the reply to the aggregate of a resumption
  pub resumed_brings : (session : Option Session) (bytes : List ℕ) → HeardBy past (resuming_in at.aggregate past.wire session) (reply bytes) → IsSuccess bytes → Brings bytes × TellsWatch watched bytes
  resumed_brings session bytes heard success = honest.watch (target at.aggregate.args.target) at.aggregate.args.pipeline.items (options_for at.aggregate.args.options at.aggregate.resume past.wire) session bytes heard success

  resumed : (bytes : List ℕ) → HeardAggregate past true at bytes → Brings bytes × TellsWatch watched bytes
  resumed bytes h = resumed_brings h.session bytes (heard_by past (resuming_in at.aggregate past.wire h.session) (is_read_again h.session) (reply bytes) h.heard) h.success

  cursor_again : (old : ClientCursor) (bytes : List ℕ) (c : ClientCursor) → Resumed past true at old bytes c → IsItsCursor c
  cursor_again old bytes c r = subst IsItsCursor (sym r.cursor_is) (cursor_new watched at.aggregate.args.options bytes r.out.0 (resumed bytes r.heard).1 r.opens.opens)

  pub heard_more : (bytes : List ℕ) → HeardMore past at.cursor bytes → Brings bytes × TellsWatch watched bytes
  heard_more bytes h = honest.more at.cursor.id at.cursor.space at.cursor.manner h.session bytes well.cursor.named well.cursor.watches h.heard h.success

  cursor_said : (bytes : List ℕ) (said : Cursor) (c : ClientCursor) → HeardMore past at.cursor bytes → cursor_of (fields bytes) ≡ Ok said → c ≡ behind_reply said at.cursor → IsItsCursor c
  cursor_said bytes said c h says is = subst IsItsCursor (sym is) (record { manner_is = well.cursor.manner_is; named = named_read (fields bytes) said says; watches = (heard_more bytes h).1 said says })

  cursor_same : (c : ClientCursor) → c ≡ at.cursor → IsItsCursor c
  cursor_same c is = subst IsItsCursor (sym is) well.cursor

  cursor_rest : (c : ClientCursor) → c ≡ at_rest at.cursor → IsItsCursor c
  cursor_rest c is = subst IsItsCursor (sym is) (rested watched (watch_manner at.aggregate.args.options) at.cursor well.cursor)

  failed_watches : (e : Error) → (behind_failure e at.cursor).id ≢ pos 0 → watched (behind_failure e at.cursor).id
  failed_watches e ne =
      elim (left_id e.kind at.cursor) [
        | inl same ↦ subst watched (sym same) (well.cursor.watches (λ z. ne (same ∙ z)))
        | inr none ↦ absurd (ne none)
      ]

  cursor_behind : (e : Error) (c : ClientCursor) → c ≡ behind_failure e at.cursor → IsItsCursor c
  cursor_behind e c is =
      subst IsItsCursor (sym is)
      (record { manner_is = manner_behind e.kind at.cursor ∙ well.cursor.manner_is; named = subst IsNamed (sym (space_behind e.kind at.cursor)) well.cursor.named; watches = failed_watches e })

  cursor_fails : (e : Error) (c : ClientCursor) → MoreFailed past at e c → IsItsCursor c
  cursor_fails e c (causes.untold may why is) = cursor_behind e c is
  cursor_fails e c (causes.broken may bytes said heard says is breaks) = cursor_said bytes said c heard says is

  pub cursor_left : (c : ClientCursor) → Resumes past at c → IsItsCursor c
  cursor_left c (causes.owed owes is) = cursor_rest c is
  cursor_left c (causes.more_failed e why is) = cursor_fails e c why
  cursor_left c (causes.first_broken bytes e first breaks is) = cursor_rest c is

  -- of a cursor that was at rest, whatever it holds now
  cursor_now : (c : ClientCursor) → Resumes past at (at_rest c) → IsItsCursor c
  cursor_now c why = unrested watched (watch_manner at.aggregate.args.options) c (cursor_left (at_rest c) why)

  pub replied_well : (again : Bool) (bytes : List ℕ) (c : ClientCursor) → Replied past true at again bytes c → Brings bytes × IsItsCursor c
  replied_well again bytes c (causes.opening not first is) = (well.first bytes first, cursor_rest c is)
  replied_well again bytes c (causes.more not may said heard says is) = ((heard_more bytes heard).0, cursor_said bytes said c heard says is)
  replied_well again bytes c (causes.once_more so old new r killed is) =
      ((resumed bytes r.heard).0, subst IsItsCursor (sym is) (rested watched (watch_manner at.aggregate.args.options) new (cursor_again old bytes new r)))

  held_well : (again : Bool) (bytes : List ℕ) (events : List (List ℕ)) (c : ClientCursor) → Replied past true at again bytes c → documents_of bytes ≡ Some events → HaveIds (map fields events) × IsItsCursor c
  held_well again bytes events c r holds =
      let w = replied_well again bytes c r in
      (subst HaveIds (sym (events_are bytes w.0.batch events w.0.there holds)) w.0.ids, w.1)

  pub next_well : (events : List (List ℕ)) (c : ClientCursor) → Next past true at events c → HaveIds (map fields events) × IsItsCursor c
  next_well events c (causes.left settled are is) = (subst (λ (es : List (List ℕ)). HaveIds (map fields es)) (sym are) well.events, cursor_same c is)
  next_well events c (causes.came empty again bytes r holds) = held_well again bytes events c r holds

  stands_on : (after : ClientStream) → after.aggregate.args ≡ at.aggregate.args → IsItsCursor after.cursor → ((bytes : List ℕ) → HoldsFirst after bytes → ⊥) → HaveIds (map fields after.behind) → StandsWell watched are_its after
  stands_on after same cursor looked events =
      record {
        args = subst are_its (sym same) well.args;
        cursor = subst (λ (a : WatchArgs). IsCursor watched (watch_manner a.options) after.cursor) (sym same) cursor;
        first = λ bytes held. absurd (looked bytes held);
        events = events;
      }

  none_behind : (events : List (List ℕ)) → events ≡ [] → HaveIds (map fields events)
  none_behind events none = subst (λ (es : List (List ℕ)). HaveIds (map fields es)) (sym none) tt

  -- with an event
  pub gave_well : (after : ClientStream) (event : List ℕ) → CallGave past true at after event → StandsWell watched are_its after
  gave_well after event g =
      let n = next_well (event ∷ after.behind) after.cursor g.next in
      stands_on after (ap (λ (a : ChangeStreamAggregate). a.args) g.remembers) n.1 (settled_first after g.settled) n.0.1

  -- with nothing
  none_well : (after : ClientStream) (again : Bool) → CallNone past true at after again → (after.aggregate.args ≡ at.aggregate.args) × IsItsCursor after.cursor
  none_well after again (causes.came_empty empty bytes r holds is) = (ap (λ (a : ChangeStreamAggregate). a.args) is ∙ args_empty after.cursor.token at.aggregate, (replied_well again bytes after.cursor r).1)
  none_well after again (causes.none_left not settled empty gone is same) = (ap (λ (a : ChangeStreamAggregate). a.args) is, cursor_same after.cursor same)

  pub empty_well : (after : ClientStream) (again : Bool) → CallEmpty past true at after again → StandsWell watched are_its after
  empty_well after again e =
      let n = none_well after again e.why in
      stands_on after n.0 n.1 (settled_first after e.settled) (none_behind after.behind e.empty)

  -- with a failure
  abbrev Left : ClientStream → Type 0
  Left after = ((bytes : List ℕ) → HoldsFirst after bytes → ⊥) × HaveIds (map fields after.behind) × IsItsCursor after.cursor

  stays_well : (after : ClientStream) → StaysSo past true at after → Left after
  stays_well after (causes.as_it_was settled is events doing) =
      (settled_first after (record { follows_on = doing ∙ settled.follows_on; looked = ap (λ (c : ClientCursor). c.doing) is ∙ settled.looked }), subst (λ (es : List (List ℕ)). HaveIds (map fields es)) (sym events) well.events, cursor_same after.cursor is)
  stays_well after (causes.in_hand again bytes r holds some settled) = let w = held_well again bytes after.behind after.cursor r holds in (settled_first after settled, w.0, w.1)

  cursor_lost : (c : ClientCursor) → MayLose past true at c → IsItsCursor c
  cursor_lost c (causes.asking may is) = cursor_same c is
  cursor_lost c (causes.resuming why) = cursor_now c why
  cursor_lost c (causes.closing old bytes r held) = cursor_again old bytes c r

  owing_left : (after : ClientStream) → IsOwing after → IsItsCursor after.cursor → Left after
  owing_left after owes cursor = (owing_first after owes, none_behind after.behind owes.none_left, cursor)

  -- how the stream stands behind it
  pub failed_so : (after : ClientStream) (e : Error) → CallFails past None at after e → Left after
  failed_so after e (causes.may_lose room owes may) = owing_left after owes (cursor_lost after.cursor may)
  failed_so after e (causes.no_memory room stays) = stays_well after stays
  failed_so after e (causes.not_resumed owes why fails) = owing_left after owes (cursor_now after.cursor why)
  failed_so after e (causes.batch_broken bytes owes r breaks) = owing_left after owes (replied_well true bytes after.cursor r).1
  failed_so after e (causes.cannot_resume owes why now by) = owing_left after owes (cursor_now after.cursor why)
  failed_so after e (causes.refused_more may fails final is empty settled) = (settled_first after settled, none_behind after.behind empty, cursor_behind e after.cursor is)
  failed_so after e (causes.cannot_ask may by is empty settled) = (settled_first after settled, none_behind after.behind empty, cursor_same after.cursor is)
  failed_so after e (causes.no_id event next lacks is settled) = let n = next_well (event ∷ after.behind) after.cursor next in (settled_first after settled, n.0.1, n.1)

  pub failed_well : (after : ClientStream) (e : Error) → CallFailed past None at after e → StandsWell watched are_its after
  failed_well after e f = let w = failed_so after e f.why in stands_on after (ap (λ (a : ChangeStreamAggregate). a.args) f.token) w.2 w.0 w.1

  -- no failure is that an event has none
  pub never_missing : (after : ClientStream) (e : Error) → CallFails past None at after e → e.kind ≡ kind.MissingResumeToken → ⊥
  never_missing after e (causes.may_lose room owes may) is = other_kind e kind.OutOfMemory room is (λ same. cc)
  never_missing after e (causes.no_memory room stays) is = other_kind e kind.OutOfMemory room is (λ same. cc)
  never_missing after e (causes.not_resumed owes why fails) is = by_request past (resuming_in at.aggregate past.wire fails.session) (is_read_again fails.session) TellsNoCursor e (λ bytes breaks same. other_kind e (kind.InvalidResponse breaks.how) (ap (λ (x : Error). x.kind) breaks.error) same (λ f. cc)) fails.fails is
  never_missing after e (causes.batch_broken bytes owes r breaks) is = by_batch bytes e breaks is
  never_missing after e (causes.cannot_resume owes why now by) is = not_built at.aggregate.args.options.batch_size (resuming_in at.aggregate past.wire now) e by.1 is
  never_missing after e (causes.refused_more may fails final same empty settled) is = by_request past (get_more at.cursor fails.session) false TellsNoCursor e (λ bytes breaks missing. other_kind e (kind.InvalidResponse breaks.how) (ap (λ (x : Error). x.kind) breaks.error) missing (λ f. cc)) fails.fails is
  never_missing after e (causes.cannot_ask may by same empty settled) is = not_built at.cursor.manner.size (get_more at.cursor None) e by is
  never_missing after e (causes.no_id event next lacks io settled) is = let id = (next_well (event ∷ after.behind) after.cursor next).0.0 in let has = id.1 in absurd cc

  pub called_stands : (answer : Answer) (after : ClientStream) → Called past None at after (poll_of answer) → StandsWell watched are_its after × ((e : Error) → answer ≡ answers.Failed e → e.kind ≡ kind.MissingResumeToken → ⊥)
  called_stands (answers.Event event) after called = (gave_well after event called, λ e same is. cc)
  called_stands answers.Nothing after called = (empty_well after called.0 called.1, λ e same is. cc)
  called_stands (answers.Failed f) after called = (failed_well after f called, λ e same is. let fails : f ≡ e = cc in never_missing after f called.why (ap (λ (x : Error). x.kind) fails ∙ is))

-- ---- the opening

module _ (watched : ℤ → Type 0) (are_its : WatchArgs → Type 0) (past : Past) (honest : IsHonest watched past) (args : WatchArgs) (its : are_its args) where
  pub opened_well : (first : ClientStream) → StreamOpened past args first → StandsWell watched are_its first
  opened_well first o =
      let heard = honest.watch (target args.target) args.pipeline.items args.options o.session o.bytes (heard_by past (resuming_in (first_aggregate args) past.wire o.session) (is_read_again o.session) (reply o.bytes) o.heard) o.success in
      subst (StandsWell watched are_its) (sym o.stream_is)
      (record {
        args = its;
        cursor = cursor_new watched args.options o.bytes o.out.0 heard.1 o.opens.opens;
        first = λ bytes held. let in_hand : cursors.holds o.out.0.initial_reply ≡ cursors.holds bytes = held.in_hand in let same : o.out.0.initial_reply ≡ bytes = cc in subst Brings (sym o.opens.opens.opens.whole ∙ same) heard.0;
        events = tt;
      })

-- ---- all calls

module _ (history : List Step) (calls : List Call) (wire : ℤ) (legal : IsLegal history) (stands : Stands calls history) (are_its : WatchArgs → Type 0) where
  pub calls_identified : (at : ClientStream) (owns : List (List ℕ)) (said : List Answer) (last : ClientStream) → Answered calls wire at owns said last → StandsWell (IsWatched history) are_its at → (k : ℕ) (e : Error) → slice_get said k ≡ Some (answers.Failed e) → e.kind ≡ kind.MissingResumeToken → ⊥
  calls_identified at [] [] last is well k e there = absurd cc
  calls_identified at (places ∷ owns) (answer ∷ said) last answered well zero e there =
      (called_stands (IsWatched history) are_its (sent_at places calls wire) (honest_over history calls legal stands places wire) at well answer answered.0 answered.1).1 e (same_some answer (answers.Failed e) there)
  calls_identified at (places ∷ owns) (answer ∷ said) last answered well (suc k) e there =
      calls_identified answered.0 owns said last answered.2 (called_stands (IsWatched history) are_its (sent_at places calls wire) (honest_over history calls legal stands places wire) at well answer answered.0 answered.1).0 k e there
  calls_identified at [] (answer ∷ said) last answered well k e there = absurd answered
  calls_identified at (places ∷ owns) [] last answered well k e there = absurd answered
